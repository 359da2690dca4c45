use Rattle.std.proofs.Common.{List, ◌∷◌, ap, ◌∙◌}
use Rattle.std.proofs.lemmas.Grind.{merely}
use Rattle.shadow_tables.specs.Slots.{root_of, slot_at}
use Rattle.shadow_tables.specs.Laws as below
use Rattle.shadow_cache.specs.Roots.{pairs_of, is_barred}
use Rattle.shadow_cache.specs.Standing.{stood}
use Rattle.shadow_cache.proofs.Beside.{others-owns, tables-part}
use Rattle.shadow_cache.proofs.Calls.{spoilt-same, spoilt-fewer, spoilt-roots, spoilt-slots, spoilt-unprotected, spoilt-moves, spoilt-owns, spoilt-kept}
use Rattle.shadow_cache.specs.After.{marked_by}
use Rattle.shadow_cache.specs.declared.pair.Pair.{Pair}
use Rattle.shadow_cache.proofs.CallSteps.{step-written}
use Rattle.shadow_cache.proofs.Listing.{written-barred}
use Rattle.shadow_cache.proofs.roots.Roots.written.Goals as goal

pub leave_readers-requires-clause-shadows : goal.leave_readers-requires-clause-shadows
leave_readers-requires-clause-shadows c = (stood c.args.self.now c.args.ram.now c.requires.stands).roots.shadows.1

pub leave_readers-requires-clause-owns : goal.leave_readers-requires-clause-owns
leave_readers-requires-clause-owns c =
    let r = c.args.self.now in let m = c.args.ram.now in let h = (stood r m c.requires.stands).roots in
    others-owns c.args.pool.now c.args.pool.now r.present r.others r.others m m h c.requires.owns

pub returns-clause-kept : goal.returns-clause-kept
returns-clause-kept c =
    let r = c.args.self.now in let m = c.args.ram.now in let h = (stood r m c.requires.stands).roots in
    spoilt-kept c.args.pool.now c.leave_readers.new.pool r.present c.write.new.self r.others c.leave_readers.new.pairs m
    c.leave_readers.new.ram c.args.frame h c.requires.owns c.leave_readers.ensures.rest c.leave_readers.ensures.kept
    c.leave_readers.ensures.moves c.write.ensures

pub returns-clause-stands : goal.returns-clause-stands
returns-clause-stands c =
    let r = c.args.self.now in let m =
    c.args.ram.now in let n = c.leave_readers.new.ram in let s = stood r m c.requires.stands in let h = s.roots in
    let rest = c.leave_readers.ensures.rest in let kept = c.leave_readers.ensures.kept in let moves = c.leave_readers.ensures.moves in
    let p = c.args.pool.now in let p' = c.leave_readers.new.pool in let qs = c.leave_readers.new.pairs in
    merely (record {
      roots = spoilt-roots p p' r.present c.write.new.self r.others qs m n c.args.frame h c.requires.owns rest kept moves c.write.ensures;
      barred = written-barred (is_barred r) c.args.frame r.present c.write.new.self r.others qs m n
          (spoilt-same p p' r.present c.write.new.self r.others qs m n c.args.frame h c.requires.owns rest kept moves c.write.ensures) rest
          (returns-clause-kept c) s.barred;
    })

pub returns-clause-slots : goal.returns-clause-slots
returns-clause-slots c =
    let r = c.args.self.now in let m = c.args.ram.now in let h = (stood r m c.requires.stands).roots in
    let same = spoilt-slots c.args.pool.now c.leave_readers.new.pool r.present c.write.new.self r.others c.leave_readers.new.pairs m
    c.leave_readers.new.ram c.args.frame h c.requires.owns c.leave_readers.ensures.rest c.leave_readers.ensures.kept
    c.leave_readers.ensures.moves c.write.ensures in
    (same, below.same-entries (slot_at r.present.shadow m) (slot_at c.write.new.self.shadow c.leave_readers.new.ram) same)

pub returns-clause-frees : goal.returns-clause-frees
returns-clause-frees c =
    let r = c.args.self.now in let m = c.args.ram.now in let h = (stood r m c.requires.stands).roots in (
      tables-part (pairs_of r) (c.write.new.self ∷ c.leave_readers.new.pairs)
          (spoilt-fewer c.args.pool.now c.leave_readers.new.pool r.present c.write.new.self r.others c.leave_readers.new.pairs m
          c.leave_readers.new.ram c.args.frame h c.requires.owns c.leave_readers.ensures.rest c.leave_readers.ensures.kept
          c.leave_readers.ensures.moves c.write.ensures),
      spoilt-unprotected c.args.pool.now c.leave_readers.new.pool r.present c.write.new.self r.others c.leave_readers.new.pairs m
          c.leave_readers.new.ram c.args.frame h c.requires.owns c.leave_readers.ensures.rest c.leave_readers.ensures.kept
          c.leave_readers.ensures.moves c.write.ensures,
    )

pub returns-clause-roots : goal.returns-clause-roots
returns-clause-roots c =
    let r = c.args.self.now in let m = c.args.ram.now in let h = (stood r m c.requires.stands).roots in
    λ side. ap (λ s. root_of s side) (spoilt-same c.args.pool.now c.leave_readers.new.pool r.present c.write.new.self r.others
    c.leave_readers.new.pairs m c.leave_readers.new.ram c.args.frame h c.requires.owns c.leave_readers.ensures.rest
    c.leave_readers.ensures.kept c.leave_readers.ensures.moves c.write.ensures)

pub returns-clause-owns : goal.returns-clause-owns
returns-clause-owns c =
    let r = c.args.self.now in let m = c.args.ram.now in let h = (stood r m c.requires.stands).roots in
    spoilt-owns c.args.pool.now c.leave_readers.new.pool r.present c.write.new.self r.others c.leave_readers.new.pairs m
    c.leave_readers.new.ram c.args.frame h c.requires.owns c.leave_readers.ensures.rest c.leave_readers.ensures.kept
    c.leave_readers.ensures.moves c.write.ensures

pub returns-clause-moves : goal.returns-clause-moves
returns-clause-moves c =
    let r = c.args.self.now in let m = c.args.ram.now in let h = (stood r m c.requires.stands).roots in
    spoilt-moves c.args.pool.now c.leave_readers.new.pool r.present c.write.new.self r.others c.leave_readers.new.pairs m
    c.leave_readers.new.ram c.args.frame h c.requires.owns c.leave_readers.ensures.rest c.leave_readers.ensures.kept
    c.leave_readers.ensures.moves c.write.ensures

pub returns-clause-pairs : goal.returns-clause-pairs
returns-clause-pairs c = ap (λ (x : Pair). x ∷ c.leave_readers.new.pairs) c.write.ensures
    ∙ ap (λ (xs : List Pair). marked_by c.args.self.now.present c.args.frame ∷ xs) c.leave_readers.ensures.rest

pub returns-clause-told : goal.returns-clause-told
returns-clause-told c = λ value calls a.
    let r = c.args.self.now in
    step-written value calls c.args.frame r.present r.others (c.write.new.self ∷ c.leave_readers.new.pairs) c.args.ram.now
    c.leave_readers.new.ram (returns-clause-pairs c) (returns-clause-kept c) a
