use Rattle.std.proofs.Common.{refl, sym, ◌∙◌}
use Rattle.wedge_step.specs.Clashing.{looked, seen_of}
use Rattle.wedge_step.specs.Looked.{bytes_of, ground_of, set_at}
use Rattle.wedge_step.proofs.LookedMarks.{none_next, barred_next, some_next}
use Rattle.wedge_step.proofs.looking.fetched_next.Goals as goal

pub returns-in-None-clause-seen : goal.returns-in-None-clause-seen
returns-in-None-clause-seen g c =
    let a = c.args in
    let set = set_at g.S.Shadows a.shadows.now a.view.now in
    let b = looked a.cpu.now (bytes_of a.view.now) set in
    none_next (ground_of a.view.now) b (seen_of a.first) _ refl c.in-None.ensures.seen

pub returns-then-marks_front-clause-seen : goal.returns-then-marks_front-clause-seen
returns-then-marks_front-clause-seen g c =
    let a = c.args in
    let set = set_at g.S.Shadows a.shadows.now a.view.now in
    let b = looked a.cpu.now (bytes_of a.view.now) set in
    barred_next (ground_of a.view.now) b (seen_of a.first) _ refl (seen_of c.in-Some.second) c.in-Some.ensures.seen
    (sym (c.marks_front.ensures set) ∙ c.if-marks_front.true)

pub returns-else-marks_front-clause-seen : goal.returns-else-marks_front-clause-seen
returns-else-marks_front-clause-seen g c =
    let a = c.args in
    let set = set_at g.S.Shadows a.shadows.now a.view.now in
    let b = looked a.cpu.now (bytes_of a.view.now) set in
    some_next (ground_of a.view.now) b (seen_of a.first) _ refl (seen_of c.in-Some.second) c.in-Some.ensures.seen
    (sym (c.marks_front.ensures set) ∙ c.if-marks_front.false)

pub fetched-requires-clause-stands : goal.fetched-requires-clause-stands
fetched-requires-clause-stands g c = c.requires.stands

pub fetched-requires-clause-kept : goal.fetched-requires-clause-kept
fetched-requires-clause-kept g c = c.requires.kept

pub marks_front-requires-clause-marks : goal.marks_front-requires-clause-marks
marks_front-requires-clause-marks g c = c.requires.marks

pub marks_front-requires-clause-frame : goal.marks_front-requires-clause-frame
marks_front-requires-clause-frame g c = c.requires.frame

pub marks_front-requires-clause-places : goal.marks_front-requires-clause-places
marks_front-requires-clause-places g c = c.in-Some.ensures.marks

pub returns-else-marks_front-clause-marks : goal.returns-else-marks_front-clause-marks
returns-else-marks_front-clause-marks g c = c.in-Some.ensures.marks

pub returns-else-marks_front-clause-frame : goal.returns-else-marks_front-clause-frame
returns-else-marks_front-clause-frame g c = c.in-Some.ensures.frame

pub returns-in-None-clause-marks : goal.returns-in-None-clause-marks
returns-in-None-clause-marks g c = tt

pub returns-in-None-clause-frame : goal.returns-in-None-clause-frame
returns-in-None-clause-frame g c = tt

pub returns-then-marks_front-clause-marks : goal.returns-then-marks_front-clause-marks
returns-then-marks_front-clause-marks g c = tt

pub returns-then-marks_front-clause-frame : goal.returns-then-marks_front-clause-frame
returns-then-marks_front-clause-frame g c = tt
