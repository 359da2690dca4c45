-- How the state of a run that rests is left.
use Rattle.std.specs.Prelude.{◌≡◌, ◌⊎◌, ℕ, List, Result, Ok, Err}
use Rattle.image_load.specs.declared.fault.RunFault.{RunFault}
use Rattle.checkpoint.specs.declared.rested.Rested.{Rested}
use Rattle.checkpoint.specs.declared.rested.Rested.TheVariants as rest
use Rattle.checkpoint.specs.States.{checkpoint_bytes, checkpoint_in}
use Rattle.pv_save.specs.Checkpoints.{saved_line}
use Rattle.pv_build.specs.Telling.{ToldAs}
use Rattle.pv_build.specs.declared.status.Status.{Status}
use Rattle.pv_build.specs.declared.status.Status.TheVariants as status
use Rattle.pv_tasks.specs.Outside.{Outside}
use Rattle.pv_tasks.specs.Delivery.{Delivers}

-- The state is stored and reported, and is read back from what was stored; or no memory was found for its file. A run that
-- doesn't rest is reported as it ended, and changes no file.
abbrev pub LeavesAs : Result Rested RunFault → List ℕ → Outside → Status → Type 0
LeavesAs (Ok (rest.At state)) name o result =
    (Delivers name (checkpoint_bytes state) (saved_line state.step) status.Done o result
    × (checkpoint_in (checkpoint_bytes state) ≡ Ok state))
    ⊎ ((result ≡ status.Memory) × (o.after.taken ≡ o.before.taken) × (o.after.files ≡ o.before.files))
LeavesAs (Ok (rest.Stopped ended)) name o result =
    ToldAs (Ok ended) o.before.taken o.after.taken o.before.puts o.after.puts result × (o.after.files ≡ o.before.files)
LeavesAs (Err why) name o result =
    ToldAs (Err why) o.before.taken o.after.taken o.before.puts o.after.puts result × (o.after.files ≡ o.before.files)
