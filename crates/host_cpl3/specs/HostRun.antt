-- Instructions one after another, up to an exit.
use Rattle.std.specs.Prelude.{ℕ, zero, suc, ◌+◌, List, Ok, Err}
use Rattle.ia32_types.specs.declared.flags.Regs.{Regs}
use Rattle.ia32_exec.specs.Digest.{digest}
use Rattle.host_cpl3.specs.declared.view.View.{View}
use Rattle.host_cpl3.specs.declared.exit.Exit.{Exit}
use Rattle.host_cpl3.specs.declared.exit.Exit.TheVariants.{Entry, Budget}
use Rattle.host_cpl3.specs.declared.exit.Completion.{Completion}
use Rattle.host_cpl3.specs.declared.exit.Completion.TheVariants.{Completed, Entered}
use Rattle.host_cpl3.specs.Met.{Met}
use Rattle.host_cpl3.specs.HostStep.{host_step}

-- The registers and the memory, how many instructions the host has completed, and the digest of the addresses at
-- which they began.
pub record Standing : Type 0 where
  pub regs : Regs
  pub ram : List ℕ
  pub retired : ℕ
  pub passed : ℕ

-- one instruction more, which began at this EIP
abbrev pub counted : Standing → Regs → List ℕ → Standing
counted s regs ram = record { regs = regs; ram = ram; retired = s.retired + 1; passed = digest s.passed s.regs.eip }

-- A completed instruction counts, and the rest follows. A jump into the wedge window doesn't count, and the exit
-- there follows. At an exit all is as before the instruction.
abbrev pub after_step : Standing → Met (Completion × List ℕ) → (Standing → Exit × Standing) → Exit × Standing
after_step s (Ok (Completed regs, ram)) rest = rest (counted s regs ram)
after_step s (Ok (Entered regs, ram)) rest = (Entry regs.eip, record s { regs = regs; ram = ram })
after_step s (Err exit) rest = (exit, s)

-- at most k instructions, and then no more
unfoldable pub host_run : View → ℕ → Standing → Exit × Standing
host_run v zero s = (Budget, s)
host_run v (suc k) s = after_step s (host_step v s.ram s.regs) (host_run v k)
