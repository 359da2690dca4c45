use Rattle.trace_check.proofs.NotesCourse.{notes_are_judged}
use Rattle.trace_check.proofs.NotesForm.{notes_are_choices}
use Rattle.trace_check.proofs.laws.notes_are_judged.Goals as goal

pub returns-clause-judged : goal.returns-clause-judged
returns-clause-judged c = notes_are_judged c.steps_agree.ensures

pub returns-clause-form : goal.returns-clause-form
returns-clause-form c = notes_are_choices
