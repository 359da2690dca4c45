use Rattle.std.proofs.Common.{ap, List, [], ◌∷◌, ◌∙◌}
use Rattle.shadow_cache.specs.Standing.{stood}
use Rattle.shadow_cache.specs.Roots.{pairs_of}
use Rattle.shadow_cache.proofs.OthersAfter.{others-lose}
use Rattle.shadow_cache.specs.After.{mark_of, value_of, slots_of}
use Rattle.shadow_cache.proofs.Noted.{read_from-exact}
use Rattle.shadow_cache.proofs.Openings.{read_from-has_tables_under}
use Rattle.std.proofs.Math.Path.{fun_ext}
use Rattle.shadow_tables.specs.Seen.{of_pages}
use Rattle.shadow_cache.specs.declared.pair.Pair.{Pair}
use Rattle.shadow_cache.proofs.SeenCache.{same_seen, barred_pages, lost_roots}
use Rattle.shadow_cache.proofs.roots.RootsShadows.note.Goals as goal

pub returns-clause-sight : goal.returns-clause-sight
returns-clause-sight c =
    let r = c.args.self.now in let n = c.note.new in let e = c.note.ensures in
    same_seen _ _ (ap (λ (ps : List Pair). of_pages (slots_of ps n.ram)) e.pairs ∙ barred_pages (c.args.frame ∷ []) _ _ e.loses.0)
    (fun_ext (λ f. read_from-exact r.present r.others (pairs_of n.self) c.args.frame f
    (stood r c.args.ram.now c.requires.stands).roots.sized.0 c.requires.frame e.pairs))
    (ap mark_of e.pairs) (ap value_of e.pairs)
    (lost_roots (c.args.frame ∷ []) _ _
    (others-lose r.present r.others (pairs_of n.self) c.args.ram.now n.ram c.args.frame e.pairs e.loses))

pub returns-clause-known : goal.returns-clause-known
returns-clause-known c = let r = c.args.self.now in record {
  read_from = λ f. read_from-exact r.present r.others (pairs_of c.note.new.self) c.args.frame f
      (stood r c.args.ram.now c.requires.stands).roots.sized.0 c.requires.frame c.note.ensures.pairs;
  stale = ap mark_of c.note.ensures.pairs;
  cr3 = ap value_of c.note.ensures.pairs;
  write_protected = c.note.ensures.write_protected;
}

pub returns-clause-other_roots : goal.returns-clause-other_roots
returns-clause-other_roots c =
    let r = c.args.self.now in others-lose r.present r.others (pairs_of c.note.new.self) c.args.ram.now c.note.new.ram c.args.frame
    c.note.ensures.pairs c.note.ensures.loses

pub returns-clause-has_tables_under : goal.returns-clause-has_tables_under
returns-clause-has_tables_under c = λ indices h.
    let r = c.args.self.now in
    read_from-has_tables_under indices r.present r.others (pairs_of c.note.new.self) c.args.ram.now c.note.new.ram c.args.frame
    c.note.ensures.pairs c.note.ensures.loses h
