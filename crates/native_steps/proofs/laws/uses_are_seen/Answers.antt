use Rattle.native_steps.proofs.Looks as looks
use Rattle.native_steps.proofs.Marked.{marks_are_read}
use Rattle.native_steps.proofs.laws.uses_are_seen.Goals as goal

pub returns-clause-uses : goal.returns-clause-uses
returns-clause-uses c = looks.uses_are_seen

pub returns-clause-clashes : goal.returns-clause-clashes
returns-clause-clashes c = looks.looks_agree

pub returns-clause-bytes : goal.returns-clause-bytes
returns-clause-bytes c = marks_are_read
