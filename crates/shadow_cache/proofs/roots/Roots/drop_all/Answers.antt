use Rattle.std.proofs.Common.{List, [], ◌∷◌, refl, sym, ap, ◌∙◌, subst, false}
use Rattle.std.proofs.lemmas.Grind.{merely}
use Rattle.shadow_cache.specs.Pairs.{no_frames, AllBarWrites}
use Rattle.shadow_cache.specs.declared.pair.Pair.{Pair}
use Rattle.shadow_cache.specs.Roots.{is_barred}
use Rattle.shadow_cache.specs.Standing.{stood}
use Rattle.shadow_cache.proofs.Beside.{others-owns}
use Rattle.shadow_cache.proofs.Calls.{alone-shadow, alone-owns, dropped-roots, dropped-moves, dropped-owns, dropped-two, dropped-write_protected}
use Rattle.shadow_cache.proofs.CallSteps.{step-drop_all}
use Rattle.shadow_cache.proofs.Listing.{fresh-barred}
use Rattle.shadow_cache.proofs.roots.Roots.drop_all.Goals as goal

pub leave_all-requires-clause-shadows : goal.leave_all-requires-clause-shadows
leave_all-requires-clause-shadows c = (stood c.args.self.now c.args.ram.now c.requires.stands).roots.shadows.1

pub leave_all-requires-clause-owns : goal.leave_all-requires-clause-owns
leave_all-requires-clause-owns c =
    let r = c.args.self.now in let m = c.args.ram.now in let h = (stood r m c.requires.stands).roots in
    others-owns c.args.pool.now c.args.pool.now r.present r.others r.others m m h c.requires.owns

pub drop_all-requires-clause-shadow : goal.drop_all-requires-clause-shadow
drop_all-requires-clause-shadow c =
    let r = c.args.self.now in let m = c.args.ram.now in let h = (stood r m c.requires.stands).roots in
    alone-shadow c.args.pool.now c.leave_all.new.pool c.leave_all.new.pool r.present r.others c.leave_all.new.pairs m c.leave_all.new.ram
    c.leave_all.new.ram h c.requires.owns c.leave_all.ensures.none c.leave_all.ensures.moves

pub drop_all-requires-clause-owns : goal.drop_all-requires-clause-owns
drop_all-requires-clause-owns c =
    let r = c.args.self.now in let m = c.args.ram.now in let h = (stood r m c.requires.stands).roots in
    alone-owns c.args.pool.now c.leave_all.new.pool c.leave_all.new.pool r.present r.others c.leave_all.new.pairs m c.leave_all.new.ram
    c.leave_all.new.ram h c.requires.owns c.leave_all.ensures.none c.leave_all.ensures.moves

pub returns-clause-pairs : goal.returns-clause-pairs
returns-clause-pairs c = ap (λ (x : Pair). x ∷ c.leave_all.new.pairs) c.renew.ensures
    ∙ ap (λ (xs : List Pair). record c.args.self.now.present { tables = no_frames; stale = false } ∷ xs) c.leave_all.ensures.none

pub returns-clause-stands : goal.returns-clause-stands
returns-clause-stands c =
    let r = c.args.self.now in let m =
    c.args.ram.now in let s = stood r m c.requires.stands in let h = s.roots in let e = c.drop_all.ensures in
    merely (record {
      roots = dropped-roots c.args.pool.now c.leave_all.new.pool c.drop_all.new.pool r.present r.others c.leave_all.new.pairs m
          c.leave_all.new.ram c.drop_all.new.ram h c.requires.owns c.leave_all.ensures.none c.leave_all.ensures.moves e.empty e.moves
          c.renew.new.self c.renew.ensures;
      barred = subst (λ (ps : List Pair). AllBarWrites (is_barred r) ps c.drop_all.new.ram) (sym (returns-clause-pairs c))
          (fresh-barred (is_barred r) r.present [] c.drop_all.new.ram refl e.empty);
    })

pub returns-clause-write_protected : goal.returns-clause-write_protected
returns-clause-write_protected c =
    let r = c.args.self.now in let m = c.args.ram.now in let h = (stood r m c.requires.stands).roots in
    dropped-write_protected c.args.pool.now c.leave_all.new.pool c.drop_all.new.pool r.present r.others c.leave_all.new.pairs m
    c.leave_all.new.ram c.drop_all.new.ram h c.requires.owns c.leave_all.ensures.none c.leave_all.ensures.moves c.drop_all.ensures.empty
    c.drop_all.ensures.moves c.renew.new.self c.renew.ensures

pub returns-clause-two : goal.returns-clause-two
returns-clause-two c =
    let r = c.args.self.now in let m = c.args.ram.now in let h = (stood r m c.requires.stands).roots in
    dropped-two c.args.pool.now c.leave_all.new.pool c.drop_all.new.pool r.present r.others c.leave_all.new.pairs m c.leave_all.new.ram
    c.drop_all.new.ram h c.requires.owns c.leave_all.ensures.none c.leave_all.ensures.moves c.drop_all.ensures.empty
    c.drop_all.ensures.moves c.renew.new.self c.renew.ensures

pub returns-clause-owns : goal.returns-clause-owns
returns-clause-owns c =
    let r = c.args.self.now in let m = c.args.ram.now in let h = (stood r m c.requires.stands).roots in
    dropped-owns c.args.pool.now c.leave_all.new.pool c.drop_all.new.pool r.present r.others c.leave_all.new.pairs m c.leave_all.new.ram
    c.drop_all.new.ram h c.requires.owns c.leave_all.ensures.none c.leave_all.ensures.moves c.drop_all.ensures.empty
    c.drop_all.ensures.moves c.renew.new.self c.renew.ensures

pub returns-clause-moves : goal.returns-clause-moves
returns-clause-moves c =
    let r = c.args.self.now in let m = c.args.ram.now in let h = (stood r m c.requires.stands).roots in
    dropped-moves c.args.pool.now c.leave_all.new.pool c.drop_all.new.pool r.present r.others c.leave_all.new.pairs m c.leave_all.new.ram
    c.drop_all.new.ram h c.requires.owns c.leave_all.ensures.none c.leave_all.ensures.moves c.drop_all.ensures.empty
    c.drop_all.ensures.moves c.renew.new.self c.renew.ensures

pub returns-clause-told : goal.returns-clause-told
returns-clause-told c = λ value calls a.
    let r = c.args.self.now in
    step-drop_all value calls r.present r.others (c.renew.new.self ∷ c.leave_all.new.pairs) c.args.ram.now c.drop_all.new.ram
    (returns-clause-pairs c) c.drop_all.ensures.empty.none (returns-clause-two c) a
