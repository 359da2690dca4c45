use Rattle.std.proofs.Common.{◌≡◌, ℕ, ◌<◌, List, refl, subst}
use Rattle.image_load.specs.Boot.{need}
use Rattle.pv_build.specs.Lines.{too_small_line}
use Rattle.look_words.specs.View.{aspect_view, run_view}
use Rattle.pv_look.specs.Before.{ShowsEach, before_task}
use Rattle.pv_look.specs.Onward.{watch_bare}
use Rattle.pv_tasks.proofs.Deliveries.{halts}
use Rattle.pv_look.proofs.Shows.{no_read, shows_no_run, shows_too_small, shows_run}
use Rattle.pv_look.proofs.before.before.Goals as goal

pub returns-in-Err-clause-meaning : goal.returns-in-Err-clause-meaning
returns-in-Err-clause-meaning g c = λ completed memory.
    halts _ _ (before_task (run_view c.args.run) c.args.steps.now.items (aspect_view c.args.aspect)) _ c.end.result c.in-Err.halt
    (λ line none. shows_no_run (run_view c.args.run) c.args.steps.now.items (aspect_view c.args.aspect) _ line none) (λ held. held)
    c.in-Err.ensures.read.held
    refl c.in-Err.ensures.halted c.end.ensures

pub returns-in-Err-look_through-clause-meaning : goal.returns-in-Err-look_through-clause-meaning
returns-in-Err-look_through-clause-meaning g c = λ completed memory.
    let run = run_view c.args.run in
    let found = c.in-Ok.found in
    halts (λ (line : List ℕ). (run.frames < need found.image) × (line ≡ too_small_line (need found.image) run.frames)) (Unit {0})
    (before_task run c.args.steps.now.items (aspect_view c.args.aspect)) _ c.end-in-Err-look_through.result c.in-Err-look_through.halt
    (λ line small. shows_too_small run c.args.steps.now.items (aspect_view c.args.aspect) _ found.image found.script.list
    c.in-Ok.ensures.image c.in-Ok.ensures.script line small) (λ finds. tt) c.in-Ok.ensures.read.held
    refl (no_read _ _ _ _ _ c.in-Err-look_through.halt c.in-Err-look_through.ensures.refused) c.end-in-Err-look_through.ensures

pub returns-clause-meaning : goal.returns-clause-meaning
returns-clause-meaning g c = λ completed memory.
    let run = run_view c.args.run in
    let found = c.in-Ok.found in
    let shown = c.in-Ok-look_through.shown in
    shows_run run c.args.steps.now.items (aspect_view c.args.aspect) _ found.image found.script.list shown.text.items shown.end
    c.print_shown.result
    c.in-Ok.ensures.image c.in-Ok.ensures.script c.in-Ok.ensures.read.held refl c.in-Ok-look_through.ensures.fits
    (subst (λ (l : List ℕ). ShowsEach (watch_bare found.image found.script.list c.args.run.frames (aspect_view c.args.aspect)) l
    shown.text.items shown.end) c.as_slice.ensures.value c.in-Ok-look_through.ensures.shows) c.print_shown.ensures
