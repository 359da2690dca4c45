use Rattle.std.proofs.Common.{◌≡◌, ℕ, ◌+◌, ◌-◌, ◌++◌, subst, ap, ◌∙◌}
use Rattle.look_words.specs.View.{aspect_view}
use Rattle.bare_machine.specs.Machine.{state_of}
use Rattle.bare_machine.specs.Settings.{bare}
use Rattle.pv_look.specs.Moments.{moment_text}
use Rattle.pv_look.specs.Onward.{watch_of}
use Rattle.pv_look.proofs.Onwards.{moment_reached, moment_stops, failed_moment}
use Rattle.pv_look.proofs.onward.add_next.Goals as goal

pub returns-in-Stopped-clause-moment : goal.returns-in-Stopped-clause-moment
returns-in-Stopped-clause-moment g c = λ image.
    let e = g.C.Cache.entries in
    let old = state_of e c.args.machine.now in
    let slice = rw c.in-Stopped.is at (c.in-Ok.ensures.steps image) in
    moment_stops (watch_of g.C.Cache.keeping (bare image c.args.script.now.list c.args.machine.now.frames) (aspect_view c.args.aspect)) _
    c.args.n old (state_of e c.slice.new.self)
    c.in-Stopped.stop _ _ slice
    (ap (λ (k : ℕ). old.step + k) (c.saturating_sub-more.ensures ∙ ap (λ (k : ℕ). c.args.n - k) c.step.ensures))

pub returns-in_ok-add_moment-in-Reached-clause-moment : goal.returns-in_ok-add_moment-in-Reached-clause-moment
returns-in_ok-add_moment-in-Reached-clause-moment g c = λ image.
    let e = g.C.Cache.entries in
    let old = state_of e c.args.machine.now in
    let new = state_of e c.slice.new.self in
    let goes = rw c.in-Reached.is at c.in-Ok.ensures.goes_on in
    let slice = rw c.in-Reached.is at (c.in-Ok.ensures.steps image) in
    moment_reached (watch_of g.C.Cache.keeping (bare image c.args.script.now.list c.args.machine.now.frames) (aspect_view c.args.aspect)) _
    c.args.n old new
    c.args.text.now.items c.add_moment.new.text.items _ _ slice
    (ap (λ (k : ℕ). old.step + k) (c.saturating_sub-more.ensures ∙ ap (λ (k : ℕ). c.args.n - k) c.step.ensures))
    (subst (λ (f : ℕ). c.add_moment.new.text.items ≡ c.args.text.now.items ++ moment_text (aspect_view c.args.aspect) f new) goes.frames
    c.in_ok-add_moment-in-Reached.ensures)

pub returns-in_err-add_moment-in-Reached-clause-moment : goal.returns-in_err-add_moment-in-Reached-clause-moment
returns-in_err-add_moment-in-Reached-clause-moment g c = λ image.
    let e = g.C.Cache.entries in
    failed_moment (watch_of g.C.Cache.keeping (bare image c.args.script.now.list c.args.machine.now.frames) (aspect_view c.args.aspect))
    c.args.n
    (state_of e c.args.machine.now) (state_of e c.slice.new.self) c.args.text.now.items c.add_moment.new.text.items c.from_residual.result
    c.from_residual.ensures.0
