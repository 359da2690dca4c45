use Rattle.std.proofs.Common.{[]}
use Rattle.std.proofs.lemmas.Result.{on_ok_weaker}
use Rattle.image_check.specs.Checking.{placed, image_with}
use Rattle.image_check.specs.Accepts.{IsWithin}
use Rattle.image_check.proofs.Passed.{placed_within}
use Rattle.image_check.proofs.placing.placed.Goals as goal

pub returns-clause-exact : goal.returns-clause-exact
unfolding placed
returns-clause-exact c =
    rw (← c.text_place.ensures, ← c.init_place.ensures, ← c.text_size.ensures, ← c.init_size.ensures, ← c.entry_place.ensures)
    (rw (c.in_ok-test.ensures, c.in_ok-test-2.ensures, c.in_ok-test-3.ensures, c.in_ok-test-4.ensures) c.test-5.ensures)

pub returns-clause-text : goal.returns-clause-text
returns-clause-text c = on_ok_weaker c.test-5.result (λ (w : IsWithin (image_with c.args.image.now [])). w.text)
    (placed_within c.args.image.now c.test-5.result (returns-clause-exact c))

pub returns-clause-init : goal.returns-clause-init
returns-clause-init c = on_ok_weaker c.test-5.result (λ (w : IsWithin (image_with c.args.image.now [])). w.room)
    (placed_within c.args.image.now c.test-5.result (returns-clause-exact c))

pub returns-clause-entry : goal.returns-clause-entry
returns-clause-entry c = on_ok_weaker c.test-5.result (λ (w : IsWithin (image_with c.args.image.now [])). w.entry)
    (placed_within c.args.image.now c.test-5.result (returns-clause-exact c))
