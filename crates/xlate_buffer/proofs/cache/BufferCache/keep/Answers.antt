use Rattle.std.proofs.Common.{not, ◌==◌, ◌%◌, ap, ◌∙◌}
use Rattle.std.specs.FinMap.{get, retain_keys}
use Rattle.xlate_buffer.proofs.Caching.{put_found, put_others}
use Rattle.xlate_buffer.proofs.cache.BufferCache.keep.Goals as goal

pub returns-clause-kept : goal.returns-clause-kept
returns-clause-kept c =
    let e = c.args.entry in
    ap (λ m. get m e.page) c.keep.ensures ∙ put_found (retain_keys c.args.self.now (λ page. not (page % 64 == e.page % 64))) e

pub returns-clause-others : goal.returns-clause-others
returns-clause-others c = λ page other.
    let e = c.args.entry in
    rw c.keep.ensures (put_others c.args.self.now (λ page. not (page % 64 == e.page % 64)) e page other)
