use Rattle.std.proofs.Common.{◌≡◌, List, Bool, true, slice_set, ◌∷◌, [], sym, ap, subst}
use Rattle.std.proofs.lemmas.Grind.{merely}
use Rattle.frame_pool.specs.Held.{Moves}
use Rattle.shadow_tables.specs.Slots.{ArePart, LosesWrites, slot_at}
use Rattle.shadow_tables.specs.Laws.Entries.{entries_of-barred}
use Rattle.shadow_tables.specs.Entries.{entries_of}
use Rattle.shadow_cache.specs.Pairs.{frames_of, tables_of, AllBarWrites, IsRoots}
use Rattle.shadow_cache.specs.Roots.{pairs_of, is_barred}
use Rattle.shadow_cache.specs.declared.pair.Pair.{Pair}
use Rattle.shadow_cache.specs.Standing.{stood}
use Rattle.shadow_cache.proofs.Noting.{with_noted, all-read_from, note-roots, note-slots, note-write_protected, note-frames, note-moves}
use Rattle.shadow_cache.proofs.CallSteps.{step-note}
use Rattle.shadow_cache.proofs.Listing.{listed, more-set}
use Rattle.shadow_cache.proofs.roots.Roots.note.Goals as goal

pub returns-clause-stands : goal.returns-clause-stands
returns-clause-stands c =
    let r = c.args.self.now in let m = c.args.ram.now in let n = c.bar_frame.new.ram in let s = stood r m c.requires.stands in
    let h = s.roots in let e = c.bar_frame.ensures in
    merely (record {
      roots = subst (λ (x : Pair). IsRoots (x ∷ r.others) n) (sym c.note.ensures)
          (note-roots r.present r.others m n c.args.frame h c.requires.frame e.shadows e.loses e.frames e.memory);
      barred = subst (λ (x : Pair). AllBarWrites (listed c.add.new.self) (x ∷ r.others) n) (sym c.note.ensures)
          (subst (λ (bits : List Bool). AllBarWrites (listed bits) (with_noted r.present c.args.frame ∷ r.others) n) (sym c.add.ensures)
          (all-read_from (is_barred r) (listed (slice_set r.barred c.args.frame true)) c.args.frame (pairs_of r) m n
          (more-set r.barred c.args.frame) e.loses s.barred));
    })

pub returns-clause-bars : goal.returns-clause-bars
returns-clause-bars c =
    let r = c.args.self.now in let m =
    c.args.ram.now in let n = c.bar_frame.new.ram in let h = (stood r m c.requires.stands).roots in let e = c.bar_frame.ensures in (
      subst (λ (x : Pair). LosesWrites (slot_at r.present.shadow m) (slot_at x.shadow n) (tables_of (x ∷ r.others))) (sym c.note.ensures)
          (note-slots r.present r.others m n c.args.frame h c.requires.frame e.shadows e.loses e.frames e.memory),
      subst (λ (x : Pair). entries_of (slot_at x.shadow n) ≡ entries_of (slot_at r.present.shadow m)) (sym c.note.ensures)
          (entries_of-barred (slot_at r.present.shadow m) (slot_at r.present.shadow n) (c.args.frame ∷ []) e.loses.0),
    )

pub returns-clause-write_protected : goal.returns-clause-write_protected
returns-clause-write_protected c =
    let r = c.args.self.now in let m =
    c.args.ram.now in let n = c.bar_frame.new.ram in let h = (stood r m c.requires.stands).roots in let e = c.bar_frame.ensures in
    subst (λ (x : Pair). ArePart (tables_of (x ∷ r.others)) (c.args.frame ∷ tables_of (pairs_of r))) (sym c.note.ensures)
    (note-write_protected r.present r.others m n c.args.frame h c.requires.frame e.shadows e.loses e.frames e.memory)

pub returns-clause-frames : goal.returns-clause-frames
returns-clause-frames c =
    let r = c.args.self.now in let m =
    c.args.ram.now in let n = c.bar_frame.new.ram in let h = (stood r m c.requires.stands).roots in let e = c.bar_frame.ensures in
    subst (λ (x : Pair). frames_of (x ∷ r.others) n ≡ frames_of (pairs_of r) m) (sym c.note.ensures)
    (note-frames r.present r.others m n c.args.frame h c.requires.frame e.shadows e.loses e.frames e.memory)

pub returns-clause-moves : goal.returns-clause-moves
returns-clause-moves c =
    let r = c.args.self.now in let m =
    c.args.ram.now in let n = c.bar_frame.new.ram in let h = (stood r m c.requires.stands).roots in let e = c.bar_frame.ensures in
    λ p o. subst (λ (x : Pair). Moves p p m n (frames_of (pairs_of r) m) (frames_of (x ∷ r.others) n)) (sym c.note.ensures)
    (note-moves r.present r.others m n c.args.frame h c.requires.frame e.shadows e.loses e.frames e.memory p o)

pub returns-clause-pairs : goal.returns-clause-pairs
returns-clause-pairs c = ap (λ (x : Pair). x ∷ c.args.self.now.others) c.note.ensures

pub returns-clause-told : goal.returns-clause-told
returns-clause-told c = λ value calls a.
    let r = c.args.self.now in let h = (stood r c.args.ram.now c.requires.stands).roots in
    step-note value calls c.args.frame r.present r.others (c.note.new.self ∷ r.others) c.args.ram.now c.bar_frame.new.ram
    (returns-clause-pairs c) h.sized.0 c.requires.frame c.bar_frame.ensures.loses a
