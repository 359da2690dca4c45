-- The states that a checkpoint can be made of, and what reading one answers.
use Rattle.std.specs.Prelude.{◌≡◌, ℕ, ◌*◌, ◌%◌, ◌^◌, ◌≤◌, length, Result, Ok, Err}
use Rattle.machine_model.specs.Fit.{Fit}
use Rattle.checkpoint.specs.declared.state.State.{State}
use Rattle.checkpoint.specs.declared.state.CheckpointFault.{CheckpointFault}
use Rattle.checkpoint.specs.declared.state.CheckpointFault.TheVariants.{At, Memory}
use Rattle.checkpoint.specs.declared.state.CheckpointCause.TheVariants as cause

-- What `read_checkpoint` returned is what reading gives, unless memory ran out.
abbrev pub Fails : CheckpointFault → Result State ℕ → Type 0
Fails Memory read = Unit {0}
Fails (At at cause.Form) read = read ≡ Err at
Fails (At at cause.TextChanged) read = ⊥
Fails (At at cause.UserFlags) read = ⊥
Fails (At at cause.StepsPast) read = ⊥

abbrev pub Gives : Result State CheckpointFault → Result State ℕ → Type 0
Gives (Ok state) read = read ≡ Ok state
Gives (Err fault) read = Fails fault read

-- what a state meets that a checkpoint can be made of
pub record IsInForm (s : State) : Type 0 where
  pub step : s.step ≤ 2 ^ 40
  pub ram : (2048 * 4096 ≤ length s.ram) × (length s.ram ≤ 16384 * 4096) × (length s.ram % 4096 ≡ 0)
  pub fit : Fit s.cpu
