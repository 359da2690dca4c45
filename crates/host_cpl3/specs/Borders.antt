-- Where an instruction begins, and where it may leave the view.
use Rattle.std.specs.Prelude.{◌≡◌, ℕ, suc, ◌^◌, ◌<◌, List, true, Ok, Err}
use Rattle.ia32_types.specs.declared.flags.Regs.{Regs}
use Rattle.host_cpl3.specs.declared.view.View.{View}
use Rattle.host_cpl3.specs.declared.exit.Exit.TheVariants as exits
use Rattle.host_cpl3.specs.declared.exit.Completion.{Completion}
use Rattle.host_cpl3.specs.declared.exit.Completion.TheVariants as done
use Rattle.host_cpl3.specs.Views.{is_entry}
use Rattle.host_cpl3.specs.HostStep.{host_step}
use Rattle.host_cpl3.specs.HostRun.{Standing}
use Rattle.host_cpl3.specs.RunsTo.{RunsTo}

-- the tables have no page after the last of the address space, so what is done began below its end
abbrev pub BeginsBelow : Type 0
BeginsBelow = (v : View) (memory : List ℕ) (r : Regs) (x : Completion × List ℕ) → host_step v memory r ≡ Ok x → r.eip < 2 ^ 32

-- and so each instruction of a run did
abbrev pub EachBeginsBelow : Type 0
EachBeginsBelow = (v : View) (n : ℕ) (s mid t : Standing) (i : ℕ) → RunsTo v i s mid → RunsTo v (suc n) mid t → mid.regs.eip < 2 ^ 32

-- a jump that isn't counted leads into the window
abbrev pub EntersTheWindow : Type 0
EntersTheWindow = (v : View) (memory : List ℕ) (r regs : Regs) (after : List ℕ) → host_step v memory r ≡ Ok (done.Entered regs, after)
    → is_entry v regs.eip ≡ true

-- the exit of the window is that of an EIP in it
abbrev pub ExitsInTheWindow : Type 0
ExitsInTheWindow = (v : View) (memory : List ℕ) (r : Regs) (at : ℕ) → host_step v memory r ≡ Err (exits.Entry at)
    → (is_entry v r.eip ≡ true) × (at ≡ r.eip)
