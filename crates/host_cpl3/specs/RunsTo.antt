-- A run in other words: some instructions that completed, one after the other, and then what ends it.
use Rattle.std.specs.Prelude.{◌≡◌, ℕ, zero, suc, ◌+◌, ◌<◌, ◌⊎◌, List, Ok, Err}
use Rattle.ia32_types.specs.declared.flags.Regs.{Regs}
use Rattle.host_cpl3.specs.declared.view.View.{View}
use Rattle.host_cpl3.specs.declared.exit.Exit.{Exit}
use Rattle.host_cpl3.specs.declared.exit.Exit.TheVariants.{Entry, Budget}
use Rattle.host_cpl3.specs.declared.exit.Completion.{Completion}
use Rattle.host_cpl3.specs.declared.exit.Completion.TheVariants.{Completed, Entered}
use Rattle.host_cpl3.specs.Met.{Met}
use Rattle.host_cpl3.specs.HostStep.{host_step}
use Rattle.host_cpl3.specs.HostRun.{Standing, counted, host_run}

-- n instructions complete and count
abbrev pub RunsTo : View → ℕ → Standing → Standing → Type 0
RunsTo v zero s t = t ≡ s
RunsTo v (suc n) s t =
    (regs : Regs) × ((ram : List ℕ) × ((host_step v s.ram s.regs ≡ Ok (Completed regs, ram)) × RunsTo v n (counted s regs ram) t))

-- the next instruction doesn't count: it jumps into the wedge window, or it exits, and all is as before it
abbrev pub Leaves : Met (Completion × List ℕ) → Standing → Exit → Standing → Type 0
Leaves (Ok (Completed regs, ram)) s exit t = ⊥
Leaves (Ok (Entered regs, ram)) s exit t = (exit ≡ Entry regs.eip) × (t ≡ record s { regs = regs; ram = ram })
Leaves (Err e) s exit t = (exit ≡ e) × (t ≡ s)

-- a run of at most k, with its exit and what it leaves: n complete, and all k are done or the next one leaves
pub record IsRun (v : View) (k : ℕ) (s : Standing) (exit : Exit) (t : Standing) : Type 0 where
  pub n : ℕ
  pub last : Standing
  pub runs : RunsTo v n s last
  pub ends : ((n ≡ k) × (exit ≡ Budget) × (t ≡ last)) ⊎ ((n < k) × Leaves (host_step v last.ram last.regs) last exit t)
  pub retired : t.retired ≡ s.retired + n
  pub budget : exit ≡ Budget → n ≡ k

abbrev pub EachIsRun : Type 0
EachIsRun = (v : View) (k : ℕ) (s : Standing) → IsRun v k s (host_run v k s).0 (host_run v k s).1
