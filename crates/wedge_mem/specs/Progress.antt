-- What a step of a guest's memory did so far, over memory as it stands: the frames of the text are kept from data, and
-- what lies in them is what memory has.
use Rattle.std.specs.Prelude.{◌≡◌, ◌≢◌, ℕ, ◌+◌, ◌-◌, ◌/◌, ◌%◌, ◌<◌, ◌≤◌, List, [], take, Option, Some, None, nat_le, if◌then◌else◌}
use Rattle.std.specs.FinMap.{FinMap, get}
use Rattle.std.specs.Ordering.{nat_cmp}
use Rattle.paging.specs.declared.entry.Entry.{Entry}
use Rattle.paging.specs.Space.{Space, Wedge, no_own, place}
use Rattle.paging.specs.Uses.{with_front, with_back}
use Rattle.descriptors.specs.declared.cpu.Cpu.{Cpu}
use Rattle.descriptors.specs.Starting.{space_at_start}
use Rattle.step_mem.specs.Changes.{changed}
use Rattle.step_mem.specs.Guard.{own_of}
use Rattle.step_mem.specs.Shown.{beyond, laid}
use Rattle.step_mem.specs.Sound.{IsSound}
use Rattle.step_mem.specs.declared.guard.Guard.{Guard}
use Rattle.step_mem.specs.declared.guard.Text.{Text}
use Rattle.step_mem.specs.declared.translations.Translations as translations
use Rattle.step_mem.specs.declared.state.StepState.{StepState}
use Rattle.wedge_mem.specs.declared.progress.Progress.{Progress}

-- the frames of a text, of which no original bytes are laid over memory
abbrev pub IsPlain : Option Text → ℕ → ℕ → Type 0
IsPlain None first count = ⊥
IsPlain (Some text) first count = (text.first ≡ first) × (text.count ≡ count) × (text.bytes.now ≡ [])

-- a guard of these frames, with the instruction's own bytes
abbrev pub Guards : Guard → Progress → Type 0
Guards guard p = IsPlain guard.text.now p.first p.count × (guard.own ≡ p.state.guard.own)

-- the same under a guard
abbrev pub state_by : Guard → Progress → StepState
state_by guard p = record p.state { guard = guard }

-- it is sound under each guard of these frames
abbrev pub IsGoing : (List ℕ → FinMap nat_cmp Entry) → ℕ → (List ℕ → Type 0) → List ℕ → Progress → Type 0
IsGoing kept floor stands ram p = (guard : Guard) → Guards guard p → IsSound kept floor stands ram (state_by guard p)

-- the same over a keeper of translations, by what it shows
abbrev pub IsGoingOver : {B : Type 0} → translations.Ghosts B → B → List ℕ → Progress → Type 0
IsGoingOver g base ram p = IsGoing (g.entries base) (g.floor base) (g.stands base) ram p

-- memory that the step doesn't reach is as it was
abbrev pub KeepsBeyond : Progress → (ram ram2 : List ℕ) → Type 0
KeepsBeyond p ram ram2 = beyond p.first p.count p.state.control.frames ram2 ≡ beyond p.first p.count p.state.control.frames ram

-- what it stands for
abbrev pub space_in : (List ℕ → FinMap nat_cmp Entry) → List ℕ → Progress → Space
space_in kept ram p =
    record {
      ram = laid [] p.first p.state.control.frames ram;
      frames = p.state.control.frames;
      set = changed (kept ram) p.state.changes;
      cr3 = p.state.control.cr3;
      pse = p.state.control.pse;
      wp = p.state.control.wp;
      mode = Wedge p.first p.count (own_of p.state.guard.own);
      pages = p.state.pages;
      visited = p.state.visited;
      tables = p.state.tables;
      wrote = p.state.wrote;
      ready = record { start = p.state.ready.start; len = p.state.ready.len; write = p.state.ready.write };
      earlier = record {
        start = p.state.earlier.start;
        len = p.state.earlier.len;
        set = changed (kept ram) (take p.state.earlier.count p.state.changes);
      };
    }

-- as a step begins under a monitor's rules over those frames, of whose text no original bytes are laid over memory
abbrev pub space_at_first : List ℕ → FinMap nat_cmp Entry → (frames : ℕ) → Cpu → (first count : ℕ) → Space
space_at_first ram set frames cpu first count =
    space_at_start (Wedge first count no_own) frames cpu (laid [] first frames ram) set

-- every other page's entry is as it was
abbrev pub KeepsOthers : (before after : Space) (page : ℕ) → Type 0
KeepsOthers before after page = (other : ℕ) → other ≢ page → get after.set other ≡ get before.set other

-- how many bytes of a page lie from an address on
abbrev pub left_in_page : ℕ → ℕ
left_in_page at = 4096 - at % 4096

-- the instruction's bytes are those at an address, in one page or two
abbrev pub owning : Space → ℕ → ℕ → Space
owning s at len =
    if nat_le len (left_in_page at) then record s { mode = with_front s.mode (place s at) len } else
    record s {
      mode = with_back (with_front s.mode (place s at) (left_in_page at)) (place s (at + left_in_page at))
          (len - left_in_page at);
    }

-- the same frames, registers and own bytes
abbrev pub IsTheSame : (before after : Progress) → Type 0
IsTheSame before after = (after.state.control ≡ before.state.control) × (after.first ≡ before.first) × (after.count ≡ before.count)
    × (after.state.guard.own ≡ before.state.guard.own)
