use Rattle.std.proofs.Common.{ap}
use Rattle.shadow_cache.specs.Pairs.{tables_of}
use Rattle.shadow_cache.specs.Roots.{pairs_of}
use Rattle.shadow_cache.proofs.OthersAfter.{others-kept}
use Rattle.shadow_cache.specs.After.{mark_of, noted_of, value_of, slots_of}
use Rattle.shadow_cache.proofs.Openings.{dropped-has_tables_under}
use Rattle.shadow_tables.proofs.Seeing.{lost_pages}
use Rattle.shadow_cache.proofs.SeenCache.{same_seen, same_roots}
use Rattle.shadow_cache.proofs.roots.RootsShadows.drop_dir.Goals as goal

pub returns-clause-sight : goal.returns-clause-sight
returns-clause-sight c =
    let r = c.args.self.now in let n = c.drop_dir.new in let e = c.drop_dir.ensures in
    let f = slots_of (pairs_of r) c.args.ram.now in let f' = slots_of (pairs_of n.self) n.ram in
    same_seen _ _ (lost_pages f f' c.args.index c.requires.index e.loses) (ap noted_of e.same.0) (ap mark_of e.same.0)
    (ap value_of e.same.0)
    (same_roots _ _ (others-kept r.present r.others (pairs_of n.self) c.args.ram.now n.ram e.same.0 e.same.1))

pub returns-clause-beside : goal.returns-clause-beside
returns-clause-beside c = let r = c.args.self.now in record {
  read_from = λ f. ap (λ ps. noted_of ps f) c.drop_dir.ensures.same.0;
  stale = ap mark_of c.drop_dir.ensures.same.0;
  cr3 = ap value_of c.drop_dir.ensures.same.0;
  other_roots = others-kept r.present r.others (pairs_of c.drop_dir.new.self) c.args.ram.now c.drop_dir.new.ram c.drop_dir.ensures.same.0
      c.drop_dir.ensures.same.1;
  write_protected = ap tables_of c.drop_dir.ensures.same.0;
}

pub returns-clause-has_tables_under : goal.returns-clause-has_tables_under
returns-clause-has_tables_under c = λ indices h.
    let r = c.args.self.now in
    dropped-has_tables_under indices r.present r.others (pairs_of c.drop_dir.new.self) c.args.ram.now c.drop_dir.new.ram
    c.drop_dir.ensures.same.0 c.drop_dir.ensures.tables c.drop_dir.ensures.same.1 h
