use Rattle.run_trace.specs.Notes.{dropped_at}
use Rattle.trace_check.proofs.Keeping.{kept_on}
use Rattle.trace_check.proofs.kept_notes.KeptNotesNotes.dropped.Goals as goal

pub returns-clause-note : goal.returns-clause-note
returns-clause-note c = λ so_far h. kept_on c.args.self.now c.note.new.self so_far (dropped_at c.args.step c.args.page) c.note.ensures.kept
    c.note.ensures.full h
