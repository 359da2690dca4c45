-- The choices that notes report.
use Rattle.std.specs.Prelude.{List, map}
use Rattle.run_trace.specs.Notes.{Note, emptied_at, dropped_at}
use Rattle.trace_check.specs.declared.list.Choice.{Choice}
use Rattle.trace_check.specs.declared.list.ChoiceKind.TheVariants.{Drop, Empty}

-- the choice that a note reports
abbrev pub choice_of : Note → Choice
choice_of (emptied_at step) = record { step = step; page = 0; kind = Empty }
choice_of (dropped_at step page) = record { step = step; page = page; kind = Drop }

abbrev pub choices_of : List Note → List Choice
choices_of notes = map choice_of notes
