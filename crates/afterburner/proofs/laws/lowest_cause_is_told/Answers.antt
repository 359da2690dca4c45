use Rattle.afterburner.proofs.Lowest.{lowest_reason, lowest_told, none_made}
use Rattle.afterburner.proofs.laws.lowest_cause_is_told.Goals as goal

pub returns : goal.returns
returns c = record {
  told = λ names so_far body cause e. lowest_reason names so_far body cause e;
  only = λ names so_far body cause w. lowest_told names so_far body cause w;
  made = λ names so_far made body cause e h. none_made names so_far made body cause e h;
}
