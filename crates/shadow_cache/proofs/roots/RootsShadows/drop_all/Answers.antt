use Rattle.shadow_cache.specs.Roots.{pairs_of}
use Rattle.shadow_cache.proofs.OthersAfter.{none-beside}
use Rattle.shadow_cache.proofs.Noted.{emptied-reads, emptied-stale, emptied-value}
use Rattle.shadow_cache.proofs.Openings.{emptied-has_tables_under}
use Rattle.std.proofs.Common.{List, ap, ◌∙◌}
use Rattle.std.proofs.Math.Path.{fun_ext}
use Rattle.shadow_tables.specs.Seen.{of_roots}
use Rattle.shadow_tables.proofs.Seeing.{no_pages}
use Rattle.shadow_cache.specs.declared.pair.Pair.{Pair}
use Rattle.shadow_cache.specs.After.{mark_of, noted_of}
use Rattle.shadow_cache.proofs.SeenCache.{same_seen}
use Rattle.shadow_cache.proofs.Beside.{no-reads}
use Rattle.shadow_cache.proofs.roots.RootsShadows.drop_all.Goals as goal

pub returns-clause-sight : goal.returns-clause-sight
returns-clause-sight c =
    let r = c.args.self.now in let n = c.drop_all.new in let e = c.drop_all.ensures in
    same_seen _ _ (no_pages _ e.none) (fun_ext (λ f. ap (λ (ps : List Pair). noted_of ps f) e.pairs ∙ no-reads f)) (ap mark_of e.pairs)
    (emptied-value r.present r.others (pairs_of n.self) e.pairs)
    (ap of_roots (none-beside r.present r.others (pairs_of n.self) n.ram e.pairs))

pub returns-clause-known : goal.returns-clause-known
returns-clause-known c = let r = c.args.self.now in record {
  read_from = λ f h. emptied-reads r.present r.others (pairs_of c.drop_all.new.self) f c.drop_all.ensures.pairs h;
  stale = emptied-stale r.present r.others (pairs_of c.drop_all.new.self) c.drop_all.ensures.pairs;
  cr3 = emptied-value r.present r.others (pairs_of c.drop_all.new.self) c.drop_all.ensures.pairs;
  write_protected = c.drop_all.ensures.write_protected;
}

pub returns-clause-other_roots : goal.returns-clause-other_roots
returns-clause-other_roots c = let r =
    c.args.self.now in none-beside r.present r.others (pairs_of c.drop_all.new.self) c.drop_all.new.ram c.drop_all.ensures.pairs

pub returns-clause-has_tables_under : goal.returns-clause-has_tables_under
returns-clause-has_tables_under c = λ indices h.
    let r = c.args.self.now in emptied-has_tables_under indices r.present r.others (pairs_of c.drop_all.new.self) c.drop_all.new.ram
    c.drop_all.ensures.pairs c.drop_all.ensures.two
