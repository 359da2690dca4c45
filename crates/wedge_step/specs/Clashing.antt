-- What a run looks at to find a clash.
use Rattle.std.specs.Prelude.{◌≡◌, ℕ, zero, suc, ◌==◌, ◌*◌, ◌<◌, Ok, List, [], ◌∷◌, Bool, false, Option, Some, None, map, slice_index_or}
use Rattle.std.specs.List.{All}
use Rattle.descriptors.specs.declared.cpu.Cpu.{Cpu}
use Rattle.board.specs.Boards.{at_reset}
use Rattle.ia32_types.specs.declared.insn.Insn.{Insn}
use Rattle.ia32_decode.specs.declared.answer.Decoded.TheVariants as begins
use Rattle.paging.specs.Space.{Space}
use Rattle.machine_model.specs.Instruction.{fetched}
use Rattle.machine_model.specs.State.{Setting, State, space_at_start}
use Rattle.machine_model.specs.Run.{Set}
use Rattle.machine_model.specs.Clash.{Use, instruction_clashes}
use Rattle.native_steps.specs.Looking.{Seen}
use Rattle.wedge_step.specs.declared.clash.PageUse.{PageUse}
use Rattle.wedge_step.specs.declared.looking.Marks.{Marks}
use Rattle.wedge_step.specs.declared.looking.Seen.{Seen as Found}

-- a state for the uses of whose next instruction neither the board nor the count matters
abbrev pub looked : Cpu → List ℕ → Set → State
looked cpu ram set = record { cpu = cpu; ram = ram; set = set; board = at_reset; step = 0 }

abbrev pub marks_of : Option Marks → List ℕ
marks_of None = []
marks_of (Some marks) = marks.dir ∷ marks.word ∷ []

abbrev pub seen_of : Found → Seen
seen_of found = record { frame = found.frame; marks = marks_of found.marks }

abbrev pub map_seen : Option Found → Option Seen
map_seen None = None
map_seen (Some found) = Some (seen_of found)

-- places in the guest's frames
abbrev pub AreIn : ℕ → List ℕ → Type 0
AreIn frames places = All (λ at. at < 4096 * frames) places

-- a use of a page, at the level of the processor
abbrev pub model_use : Bool → PageUse → Use
model_use user u = record { page = u.page; access = record { write = u.write; user = user } }

abbrev pub model_uses : Bool → List PageUse → List Use
model_uses user uses = map (λ (u : PageUse). model_use user u) uses

-- the pages of the first n uses, the latest first
abbrev pub before : List PageUse → ℕ → List ℕ
before uses zero = []
before uses (suc n) = (slice_index_or uses n (record { page = 0; write = false })).page ∷ before uses n

-- The next instruction, if the fetch gives one, doesn't clash with what is kept.
abbrev pub IsClear : Setting → State → Type 0
IsClear m b =
    (insn : Insn) (len : ℕ) (after : Space) → fetched (b.cpu.cpl == 3) b.cpu.regs.eip (space_at_start m.mode m.frames b.cpu b.ram b.set)
    ≡ Ok (begins.Insn insn len, after)
    → instruction_clashes m b ≡ false
