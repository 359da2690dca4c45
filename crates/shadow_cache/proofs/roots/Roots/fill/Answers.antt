use Rattle.std.proofs.Common.{List, Bool, Some, refl, subst, sym, ap, ◌∙◌}
use Rattle.std.proofs.lemmas.Grind.{merely}
use Rattle.shadow_tables.specs.Slots.{filled, slot_at}
use Rattle.shadow_cache.specs.Pairs.{any_reads, AllBarWrites}
use Rattle.shadow_cache.specs.Roots.{pairs_of}
use Rattle.shadow_cache.specs.Laws.{tables-any}
use Rattle.shadow_cache.specs.Standing.{stood}
use Rattle.shadow_cache.proofs.Present.{bars-filled, present-owns, move-roots, move-moves, move-owns, move-kept}
use Rattle.shadow_cache.proofs.CallSteps.{step-fill}
use Rattle.shadow_cache.proofs.Listing.{listed, bars-given, all-given}
use Rattle.shadow_cache.proofs.roots.Roots.fill.Goals as goal

pub hold-requires-clause-shadow : goal.hold-requires-clause-shadow
hold-requires-clause-shadow c = (stood c.args.self.now c.args.ram.now c.requires.stands).roots.shadows.0

pub hold-requires-clause-owns : goal.hold-requires-clause-owns
hold-requires-clause-owns c =
    let r = c.args.self.now in
    present-owns c.args.pool.now c.args.pool.now r.present r.others c.args.ram.now c.args.ram.now
    (stood r c.args.ram.now c.requires.stands).roots c.requires.owns

pub returns-clause-stands : goal.returns-clause-stands
returns-clause-stands c =
    let r = c.args.self.now in let m =
    c.args.ram.now in let n = c.hold.new.ram in let s = stood r m c.requires.stands in let h = s.roots in let e = c.hold.ensures in
    let b = c.is_write_protected-barred.result in let f = slot_at r.present.shadow m in let f' = slot_at r.present.shadow n in
    let goes = c.is_writable-writes.result in
    let kept = move-kept c.args.pool.now c.hold.new.pool r.present r.others m n h c.requires.owns e.becomes.shadow e.moves in
    merely (record {
      roots = move-roots c.args.pool.now c.hold.new.pool r.present r.others m n h c.requires.owns e.becomes.shadow e.moves
          (bars-filled (any_reads (pairs_of r)) f f' b c.args.side c.args.entry c.args.wp c.is_write_protected-barred.ensures h.barred.0
          e.becomes.there e.becomes.others);
      barred = subst (λ (bits : List Bool). AllBarWrites (listed bits) (pairs_of r) n) (sym c.remove_if.ensures) (
        bars-given goes r.barred f f' b c.args.side c.args.entry c.args.wp c.is_writable-writes.ensures s.barred.0
            e.becomes.there e.becomes.others,
        all-given goes r.barred c.args.entry.frame r.others m n kept s.barred.1,
      );
    })

pub returns-clause-fills : goal.returns-clause-fills
returns-clause-fills c =
    let r = c.args.self.now in let e = c.hold.ensures.becomes in
    record {
      turns = record {
        there = e.there ∙ ap (λ b. Some (filled b c.args.side c.args.entry c.args.wp))
            (c.is_write_protected-barred.ensures ∙ sym (tables-any (pairs_of r) c.args.entry.frame));
        others = e.others;
      };
      entries = c.hold.ensures.entries;
    }

pub returns-clause-owns : goal.returns-clause-owns
returns-clause-owns c =
    let r = c.args.self.now in let m =
    c.args.ram.now in let n = c.hold.new.ram in let h = (stood r m c.requires.stands).roots in let e = c.hold.ensures in
    move-owns c.args.pool.now c.hold.new.pool r.present r.others m n h c.requires.owns e.becomes.shadow e.moves

pub returns-clause-moves : goal.returns-clause-moves
returns-clause-moves c =
    let r = c.args.self.now in let m =
    c.args.ram.now in let n = c.hold.new.ram in let h = (stood r m c.requires.stands).roots in let e = c.hold.ensures in
    move-moves c.args.pool.now c.hold.new.pool r.present r.others m n h c.requires.owns e.becomes.shadow e.moves

pub returns-clause-same : goal.returns-clause-same
returns-clause-same c =
    let r = c.args.self.now in let m =
    c.args.ram.now in let n = c.hold.new.ram in let h = (stood r m c.requires.stands).roots in let e = c.hold.ensures in
    (refl, move-kept c.args.pool.now c.hold.new.pool r.present r.others m n h c.requires.owns e.becomes.shadow e.moves)

pub returns-clause-told : goal.returns-clause-told
returns-clause-told c = λ value calls a.
    let r = c.args.self.now in
    step-fill value calls c.args.side c.args.entry c.args.wp r.present r.others c.args.ram.now c.hold.new.ram c.requires.fits.0
    (returns-clause-same c).1 (returns-clause-fills c).turns c.hold.ensures.table a
