use Rattle.std.proofs.Common.{ap, ◌∙◌}
use Rattle.std.specs.FinMap.{get}
use Rattle.xlate_buffer.proofs.Caching.{removed_gone, removed_other}
use Rattle.xlate_buffer.proofs.cache.BufferCache.drop_page.Goals as goal

pub returns-clause-gone : goal.returns-clause-gone
returns-clause-gone c = ap (λ m. get m c.args.page) c.drop_page.ensures ∙ removed_gone c.args.self.now c.args.page

pub returns-clause-others : goal.returns-clause-others
returns-clause-others c = λ other h.
    ap (λ m. get m other) c.drop_page.ensures ∙ removed_other c.args.self.now c.args.page other h
