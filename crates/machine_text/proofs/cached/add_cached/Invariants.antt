use Rattle.std.proofs.Common.{◌≡◌, ℕ, ◌++◌}
use Rattle.std.specs.FinMap.{get}
use Rattle.machine_text.specs.Below.{below}
use Rattle.machine_text.specs.Cached.{cached_line}
use Rattle.machine_text.proofs.cached.add_cached.Given as goal

abbrev pub invariant-loop-page : goal.invariant-loop-page
invariant-loop-page g l = l.text.items ≡ l.fn.text.items ++ below (λ page. cached_line page (get (g.C.Cache.entries l.cache) page)) l.page
