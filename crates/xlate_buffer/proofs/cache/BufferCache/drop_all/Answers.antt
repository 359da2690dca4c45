use Rattle.std.proofs.Common.{ap, ◌∙◌}
use Rattle.std.specs.FinMap.{get, get-empty}
use Rattle.std.specs.Ordering.{nat_cmp}
use Rattle.xlate_buffer.proofs.cache.BufferCache.drop_all.Goals as goal

pub returns-clause-gone : goal.returns-clause-gone
returns-clause-gone c = λ page. ap (λ m. get m page) c.drop_all.ensures ∙ get-empty nat_cmp page
