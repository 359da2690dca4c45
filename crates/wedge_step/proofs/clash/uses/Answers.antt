use Rattle.wedge_step.proofs.clash.uses.Goals as goal

pub fetched-requires-clause-stands : goal.fetched-requires-clause-stands
fetched-requires-clause-stands g c = c.requires.stands

pub fetched-requires-clause-kept : goal.fetched-requires-clause-kept
fetched-requires-clause-kept g c = c.requires.kept

pub add_first-requires-clause-stands : goal.add_first-requires-clause-stands
add_first-requires-clause-stands g c = c.requires.stands

pub add_first-requires-clause-kept : goal.add_first-requires-clause-kept
add_first-requires-clause-kept g c = c.requires.kept

pub add_first-requires-clause-marks : goal.add_first-requires-clause-marks
add_first-requires-clause-marks g c = c.in-Some.ensures.marks

pub add_first-requires-clause-frame : goal.add_first-requires-clause-frame
add_first-requires-clause-frame g c = c.in-Some.ensures.frame
