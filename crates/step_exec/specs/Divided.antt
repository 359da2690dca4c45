-- A plain instruction in two parts: both its ranges are translated, and then it is done.
use Rattle.std.specs.Prelude.{◌≡◌, ℕ, true, false, not, Option, Some, None, if◌then◌else◌}
use Rattle.ia32_types.specs.declared.insn.Insn.{Insn}
use Rattle.ia32_exec.specs.declared.access.Range.{Range}
use Rattle.ia32_exec.specs.declared.access.Ranges.{Ranges}
use Rattle.ia32_exec.specs.Effect.{effect, ranges_of}
use Rattle.descriptors.specs.declared.cpu.Cpu.{Cpu}
use Rattle.paging.specs.Space.{Space, byte_at, as_earlier}
use Rattle.paging.specs.Work.{Work, ◌>>=◌, unless}
use Rattle.sys_exec.specs.declared.effect.Refusal.{Refusal}
use Rattle.sys_exec.specs.declared.effect.Refusal.TheVariants as refusal
use Rattle.step_exec.specs.Plain.{is_refused, reached, is_in, finished, executed}

-- both ranges of an instruction, the read range first; a null segment of either denies both
unfoldable pub both_reached : Cpu → Ranges → Work Refusal (Unit {0})
both_reached cpu ranges = do
  _ ← unless (refusal.Raise 13 0) (not (is_refused cpu ranges))
  _ ← reached cpu false ranges.read
  reached cpu true ranges.write

-- Memory by the translations that the read range had: where there is a write range it was translated before the last,
-- and else last.
abbrev pub as_read : Option Range → Space → Space
as_read None s = s
as_read (Some write) s = as_earlier s

-- a byte as a read gives it
abbrev pub byte_of : Ranges → Space → ℕ → ℕ
byte_of ranges s at = if is_in ranges.read at then byte_at (as_read ranges.write s) at else byte_at s at

-- what is done once both ranges are translated: the effect on the bytes that are read
unfoldable pub completed : Insn → ℕ → Cpu → Work Refusal Cpu
completed insn len cpu s = finished cpu s (effect insn len cpu.regs (byte_of (ranges_of insn cpu.regs) s))

unfoldable pub divided : Insn → ℕ → Cpu → Work Refusal Cpu
divided insn len cpu = do
  _ ← both_reached cpu (ranges_of insn cpu.regs)
  completed insn len cpu

abbrev pub Divides : Type 0
Divides = (insn : Insn) (len : ℕ) (cpu : Cpu) (s : Space) → executed insn len cpu s ≡ divided insn len cpu s
