use Rattle.frame_pool.proofs.Held.{Stands-apart, free_list-apart}
use Rattle.frame_pool.proofs.laws.writes_elsewhere_keep_the_pool.Goals as goal

pub returns : goal.returns
returns c = λ p m m' s e. (Stands-apart p m m' s e, free_list-apart p m m' e)
