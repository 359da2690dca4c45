-- An attempt from what is left of the translations that were kept is one from all of them.
use Rattle.std.proofs.Common.{◌≡◌, ℕ, List, Bool, false, Result, Ok, Err, subst}
use Rattle.ia32_types.specs.declared.stop.Stop.{Stop}
use Rattle.host_cpl3.specs.declared.view.View.{View}
use Rattle.machine_model.specs.State.{Setting, State}
use Rattle.machine_model.specs.Run.{Set, with_set}
use Rattle.wedge_core.specs.Attempts.{AttemptAs}
use Rattle.wedge_step.specs.Parts.{left_of}
use Rattle.wedge_step.specs.declared.running.Lost.{Lost}
use Rattle.wedge_core.specs.declared.native.Attempt.{Attempt}
use Rattle.wedge_core.specs.declared.native.Attempt.TheVariants as attempt

from_left : (m : Setting) (view : View) (b : State) (before : Bool) (after : Lost) (result : Result Attempt Stop) (new : State)
    (memory : List ℕ) → AttemptAs m view (with_set b (left_of before b.set)) false after result new memory
    → AttemptAs m view b before after result new memory
from_left m view b before after (Ok (attempt.Stepped seen)) new memory a = record { alone = a.alone; uncounted = a.uncounted }
from_left m view b before after (Ok attempt.Asked) new memory a =
    record { kept = a.kept; regs = a.regs; completes = a.completes; same = a.same }
from_left m view b before after (Err stop) new memory a = a

pub attempt_before : (m : Setting) (view : View) (b c : State) (before : Bool) (after : Lost) (result : Result Attempt Stop) (new : State)
    (memory : List ℕ) → c ≡ with_set b c.set → c.set ≡ left_of before b.set → AttemptAs m view c false after result new memory
    → AttemptAs m view b before after result new memory
attempt_before m view b c before after result new memory is left a =
    from_left m view b before after result new memory
    (subst (λ (set : Set). AttemptAs m view (with_set b set) false after result new memory) left
    (subst (λ (x : State). AttemptAs m view x false after result new memory) is a))
