use Rattle.std.proofs.Common.{◌≡◌, None, take}
use Rattle.step_mem.specs.Changes.{last_change}
use Rattle.bare_mem.specs.Keeping.{is_gone}
use Rattle.bare_mem.proofs.Gone.{AreGone}
use Rattle.bare_mem.proofs.kept.drop_gone.Given as goal

abbrev pub invariant-loop-change : goal.invariant-loop-change
invariant-loop-change g l = record {
  gone : AreGone (λ q. is_gone (last_change None l.changes q)) (g.C.Cache.entries l.fn.kept.cache) (g.C.Cache.entries l.kept.cache)
      (take l.change-index l.changes);
  same : g.C.Cache.is_exact l.kept.cache ≡ g.C.Cache.is_exact l.fn.kept.cache;
}
