use Rattle.std.proofs.Common.{ap, ◌∙◌}
use Rattle.std.specs.FinMap.{get}
use Rattle.xlate_buffer.proofs.Caching.{dir_gone, dir_other}
use Rattle.xlate_buffer.proofs.cache.BufferCache.drop_dir.Goals as goal

pub returns-clause-gone : goal.returns-clause-gone
returns-clause-gone c = λ page h. ap (λ m. get m page) c.drop_dir.ensures ∙ dir_gone c.args.self.now c.args.index page h

pub returns-clause-others : goal.returns-clause-others
returns-clause-others c = λ other h. ap (λ m. get m other) c.drop_dir.ensures ∙ dir_other c.args.self.now c.args.index other h
