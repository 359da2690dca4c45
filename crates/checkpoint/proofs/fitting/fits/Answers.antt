use Rattle.checkpoint.specs.Fits.{fits_of}
use Rattle.std.proofs.Common.{rules}
use Rattle.checkpoint.proofs.fitting.fits.Goals as goal

pub returns-then-has_user_flags-clause-answer : goal.returns-then-has_user_flags-clause-answer
unfolding fits_of
returns-then-has_user_flags-clause-answer c = search rules

pub returns-in-Some-clause-answer : goal.returns-in-Some-clause-answer
unfolding fits_of
returns-in-Some-clause-answer c = search rules

pub returns-then-n-state-clause-answer : goal.returns-then-n-state-clause-answer
unfolding fits_of
returns-then-n-state-clause-answer c = search rules

pub returns-clause-answer : goal.returns-clause-answer
unfolding fits_of
returns-clause-answer c = search rules

pub returns-clause-text : goal.returns-clause-text
unfolding fits_of
returns-clause-text c = search rules
