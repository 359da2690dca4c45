-- One instruction of the host: at CPL 3, IOPL 0 and IF 1, over the bytes of the host's memory `m`, as the view shows
-- them. The first test that fails is the exit.
use Rattle.std.specs.Prelude.{ℕ, List, Bool, true, false, not, ◌&&◌, Ok, Err, if◌then◌else◌}
use Rattle.ia32_types.specs.declared.flags.Regs.{Regs}
use Rattle.ia32_types.specs.declared.stop.Stop.{Stop}
use Rattle.ia32_types.specs.declared.stop.Stop.TheVariants as stops
use Rattle.ia32_types.specs.declared.insn.Insn.{Insn}
use Rattle.ia32_types.specs.declared.insn.Op.{Op}
use Rattle.ia32_types.specs.declared.insn.Op.TheVariants.{Jmp, Jcc, JumpTo}
use Rattle.ia32_exec.specs.declared.outcome.Outcome.{Outcome}
use Rattle.ia32_exec.specs.declared.outcome.Outcome.TheVariants as outcomes
use Rattle.ia32_exec.specs.Effect.{ranges_of}
use Rattle.ia32_exec.specs.UserEffect.{user_effect}
use Rattle.ia32_exec.specs.Commit.{list_of}
use Rattle.host_cpl3.specs.declared.view.View.{View}
use Rattle.host_cpl3.specs.declared.exit.Exit.{Exit}
use Rattle.host_cpl3.specs.declared.exit.Exit.TheVariants as exits
use Rattle.host_cpl3.specs.declared.exit.Completion.{Completion}
use Rattle.host_cpl3.specs.declared.exit.Completion.TheVariants.{Completed, Entered}
use Rattle.host_cpl3.specs.Met.{Met, ◌>>=◌, unless}
use Rattle.host_cpl3.specs.Views.{selectors_of, is_entry}
use Rattle.host_cpl3.specs.Pages.{place, byte_at}
use Rattle.host_cpl3.specs.Fetch.{fetched, spelled}
use Rattle.host_cpl3.specs.Permit.{permitted}
use Rattle.host_cpl3.specs.Access.{segment_met, access_met}
use Rattle.host_cpl3.specs.Store.{all_stored}

abbrev pub is_jump : Op → Bool
is_jump Jmp = true
is_jump Jcc = true
is_jump JumpTo = true
is_jump _ = false

-- an instruction completed, unless it is a jump into the wedge window, which isn't counted
abbrev pub ended : View → Op → Regs → Completion
ended v o r = if is_jump o && is_entry v r.eip then Entered r else Completed r

-- the exit of an effect that stops
abbrev pub exit_of : Stop → Exit
exit_of stops.FlagBits = exits.FlagBits
exit_of _ = exits.Outside

-- what an effect leaves
abbrev pub finished : View → Op → List ℕ → Outcome → Met (Completion × List ℕ)
finished v o m (outcomes.Done r stores) = Ok (ended v o r, all_stored (place m v.root) m (list_of stores))
finished v o m (outcomes.Raise vector code) = Err (exits.Fault vector code 0)
finished v o m (outcomes.Stop stop) = Err (exit_of stop)

-- its ranges, and its effect over the bytes read
abbrev pub accessed : View → List ℕ → Regs → Insn → ℕ → Met (Completion × List ℕ)
accessed v m r insn len = do
  _ ← access_met m v false (ranges_of insn r).read
  _ ← access_met m v true (ranges_of insn r).write
  finished v insn.op m (user_effect (selectors_of v) insn len r (byte_at m v.root))

-- an instruction that was spelled: its level, its segments, and its accesses
unfoldable pub worked : View → List ℕ → Regs → Insn → ℕ → Met (Completion × List ℕ)
worked v m r insn len = do
  _ ← permitted insn
  _ ← segment_met v (ranges_of insn r).read
  _ ← segment_met v (ranges_of insn r).write
  accessed v m r insn len

-- how the instruction completed, with the memory after it
unfoldable pub host_step : View → List ℕ → Regs → Met (Completion × List ℕ)
host_step v m r = do
  _ ← unless (exits.Entry r.eip) (not (is_entry v r.eip))
  begun ← fetched m v.root r.eip
  read ← spelled begun
  worked v m r read.0 read.1
