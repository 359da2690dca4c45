-- Plain instructions over the memory of a step: null segments are tested, the read range is translated, then the
-- write range, then the bytes are read and the numbers written.
use Rattle.std.specs.Prelude.{ℕ, ◌+◌, Bool, true, false, ◌&&◌, ◌||◌, not, nat_le, nat_lt, List, [], ◌∷◌, Option, Some, None, Ok, Err, if◌then◌else◌}
use Rattle.ia32_types.specs.declared.insn.Insn.{Insn}
use Rattle.ia32_types.specs.declared.register.Seg.{Seg}
use Rattle.ia32_exec.specs.declared.outcome.Outcome as exec
use Rattle.ia32_exec.specs.declared.outcome.Outcome.TheVariants as outcomes
use Rattle.ia32_exec.specs.declared.outcome.Store.{Store}
use Rattle.ia32_exec.specs.declared.access.Range.{Range}
use Rattle.ia32_exec.specs.declared.access.Ranges.{Ranges}
use Rattle.ia32_exec.specs.Effect.{effect, ranges_of}
use Rattle.ia32_exec.specs.Commit.{list_of}
use Rattle.descriptors.specs.Segments.{segment_in}
use Rattle.descriptors.specs.declared.cpu.Cpu.{Cpu}
use Rattle.descriptors.specs.Access.{by_level}
use Rattle.paging.specs.Space.{Space, byte_at, with_ram, saved}
use Rattle.paging.specs.Work.{Outcome, Work, ◌>>=◌, gives, unless}
use Rattle.sys_exec.specs.declared.effect.Refusal.{Refusal}
use Rattle.sys_exec.specs.declared.effect.Refusal.TheVariants as refusal
use Rattle.sys_exec.specs.Access.{reaching}

abbrev pub is_null : Cpu → Seg → Bool
is_null cpu seg = (segment_in cpu seg).null

-- a range, if there is one, is denied by a null segment
abbrev pub is_denied : Cpu → Option Range → Bool
is_denied cpu None = false
is_denied cpu (Some r) = is_null cpu r.seg

-- a range, if there is one, is translated
abbrev pub reached : Cpu → Bool → Option Range → Work Refusal (Unit {0})
reached cpu write None = gives tt
reached cpu write (Some r) = reaching r.at r.len (by_level cpu write)

abbrev pub is_in : Option Range → ℕ → Bool
is_in None at = false
is_in (Some r) at = nat_le r.at at && nat_lt at (r.at + r.len)

-- a byte as a read gives it: in the read range by the translations that it had when it was translated
abbrev pub byte_by : Option Range → Space → Space → ℕ → ℕ
byte_by read before after at = if is_in read at then byte_at (with_ram before after.ram) at else byte_at after at

-- the numbers in their order
abbrev pub stored_all : Space → List Store → Space
stored_all s [] = s
stored_all s (w ∷ ws) = stored_all (saved s w.at w.size w.value) ws

abbrev pub finished : Cpu → Space → exec.Outcome → Outcome Refusal Cpu
finished cpu s (outcomes.Done regs stores) = Ok (record cpu { regs = regs }, stored_all s (list_of stores))
finished cpu s (outcomes.Raise vector code) = Err (refusal.Raise vector code, s)
finished cpu s (outcomes.Stop stop) = Err (refusal.Stop stop, s)

abbrev pub after_writes : Insn → ℕ → Cpu → Space → Outcome Refusal (Unit {0}) → Outcome Refusal Cpu
after_writes insn len cpu before (Ok done) =
    finished cpu done.1 (effect insn len cpu.regs (byte_by (ranges_of insn cpu.regs).read before done.1))
after_writes insn len cpu before (Err refused) = Err refused

abbrev pub after_reads : Insn → ℕ → Cpu → Outcome Refusal (Unit {0}) → Outcome Refusal Cpu
after_reads insn len cpu (Ok done) = after_writes insn len cpu done.1 (reached cpu true (ranges_of insn cpu.regs).write done.1)
after_reads insn len cpu (Err refused) = Err refused

abbrev pub translated : Insn → ℕ → Cpu → Work Refusal Cpu
translated insn len cpu s = after_reads insn len cpu (reached cpu false (ranges_of insn cpu.regs).read s)

-- a null segment of either range denies both
abbrev pub is_refused : Cpu → Ranges → Bool
is_refused cpu ranges = is_denied cpu ranges.read || is_denied cpu ranges.write

-- no range is translated before both were tested for null segments
unfoldable pub executed : Insn → ℕ → Cpu → Work Refusal Cpu
executed insn len cpu = do
  _ ← unless (refusal.Raise 13 0) (not (is_refused cpu (ranges_of insn cpu.regs)))
  translated insn len cpu
