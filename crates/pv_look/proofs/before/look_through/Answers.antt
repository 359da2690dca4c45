use Rattle.std.proofs.Common.{ℕ, List, sym, subst}
use Rattle.look_words.specs.View.{aspect_view}
use Rattle.pv_look.specs.Before.{ShowsEach}
use Rattle.pv_look.specs.Onward.{watch_bare}
use Rattle.pv_look.proofs.Bounds.{shows_each}
use Rattle.pv_look.proofs.before.look_through.Goals as goal

pub returns-in-Whole-clause-shows : goal.returns-in-Whole-clause-shows
returns-in-Whole-clause-shows c =
    let w = watch_bare c.args.found.now.image c.args.found.now.script.list c.args.frames (aspect_view c.args.aspect) in
    let look = rw c.in-Whole.is at c.in_ok-earlier.ensures.look in
    subst (λ (t : List ℕ). ShowsEach w c.args.steps.now t c.loop-earlier.end)
    (sym c.in_ok-add_end-in-Whole.ensures.ok)
    (shows_each w c.args.steps.now c.loop-earlier.bound c.loop-earlier.end look.0 c.in-Whole.text.items
    look.1 c.requires.steps c.loop-earlier.invariant.bound look.2)
