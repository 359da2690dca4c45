use Rattle.shadow_cache.specs.Roots.{pairs_of}
use Rattle.shadow_cache.proofs.OthersAfter.{others-spared}
use Rattle.shadow_cache.proofs.Noted.{written-other, written-there, written-stale, written-value}
use Rattle.shadow_cache.proofs.Openings.{written-has_tables_under}
use Rattle.std.proofs.Common.{sym, ◌∙◌}
use Rattle.std.proofs.Math.Path.{fun_ext}
use Rattle.shadow_cache.specs.OtherRoots.{other_roots_of}
use Rattle.shadow_cache.specs.Laws.{tables-any}
use Rattle.shadow_cache.proofs.SeenCache.{same_seen, same_pages, same_roots, spared_roots, written_reads, unread}
use Rattle.shadow_cache.proofs.roots.RootsShadows.written.Goals as goal

pub returns-clause-sight : goal.returns-clause-sight
returns-clause-sight c =
    let r = c.args.self.now in let n = c.written.new in let e = c.written.ensures in
    same_seen _ _ (same_pages _ _ e.slots.0)
    (fun_ext (written_reads r.present r.others (pairs_of n.self) c.args.frame e.pairs
    (unread (pairs_of n.self) c.args.frame (sym (tables-any (pairs_of n.self) c.args.frame) ∙ e.frees.1))))
    (written-stale r.present r.others (pairs_of n.self) c.args.frame e.pairs)
    (written-value r.present r.others (pairs_of n.self) c.args.frame e.pairs)
    (same_roots _ _ (others-spared r.present r.others (pairs_of n.self) c.args.ram.now n.ram c.args.frame e.pairs e.kept) ∙ spared_roots
    c.args.frame (other_roots_of r.others c.args.ram.now))

pub returns-clause-known : goal.returns-clause-known
returns-clause-known c = let r = c.args.self.now in record {
  read_from = λ f n. written-other r.present r.others (pairs_of c.written.new.self) c.args.frame f c.written.ensures.pairs n;
  read_before = written-there r.present r.others (pairs_of c.written.new.self) c.args.frame c.written.ensures.pairs;
  stale = written-stale r.present r.others (pairs_of c.written.new.self) c.args.frame c.written.ensures.pairs;
  cr3 = written-value r.present r.others (pairs_of c.written.new.self) c.args.frame c.written.ensures.pairs;
  write_protected = c.written.ensures.frees.0;
  unprotected = c.written.ensures.frees.1;
}

pub returns-clause-other_roots : goal.returns-clause-other_roots
returns-clause-other_roots c =
    let r = c.args.self.now in others-spared r.present r.others (pairs_of c.written.new.self) c.args.ram.now c.written.new.ram c.args.frame
    c.written.ensures.pairs c.written.ensures.kept

pub returns-clause-has_tables_under : goal.returns-clause-has_tables_under
returns-clause-has_tables_under c = λ indices h.
    let r = c.args.self.now in
    written-has_tables_under indices r.present r.others (pairs_of c.written.new.self) c.args.ram.now c.written.new.ram c.args.frame
    c.written.ensures.pairs c.written.ensures.kept h
