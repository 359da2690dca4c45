use Rattle.std.proofs.Common.{◌≡◌, ℕ, ◌≤◌, List, ◌∷◌, length, remove, MatchOption, Option, sym, ap, ◌∙◌, subst, arith}
use Rattle.std.proofs.lemmas.List.{length-take}
use Rattle.frame_pool.specs.Held.{Moves}
use Rattle.frame_pool.proofs.Held.{Owns-moves, Moves-trans}
use Rattle.shadow_cache.specs.Pairs.{frames_of, IsRoots}
use Rattle.shadow_cache.specs.Others.{AreKept}
use Rattle.shadow_cache.specs.Switched.{Opens, ComesBack}
use Rattle.shadow_cache.specs.declared.pair.Pair.{Pair}
use Rattle.shadow_cache.proofs.Leaving.{kept-trans, kept-refl}
use Rattle.shadow_cache.proofs.Coming.{front-roots, front-moves, open-kept, open-moves, open-roots}
use Rattle.shadow_cache.proofs.switching.come.Goals as goal

front : (ps qs : List Pair) (p : Pair) (i : ℕ) → qs ≡ remove ps i → p ∷ remove ps i ≡ p ∷ qs
front ps qs p i e = ap (λ (xs : List Pair). p ∷ xs) (sym e)

pub returns-in-Some-clause-roots : goal.returns-in-Some-clause-roots
returns-in-Some-clause-roots c =
    subst (λ (xs : List Pair). IsRoots xs c.args.ram.now)
    (front c.args.others.now c.take.new.self c.take.result c.in-Some.i c.take.ensures.rest)
    (front-roots c.args.others.now c.in-Some.i c.take.result c.args.ram.now c.take.ensures.pair c.requires.roots c.requires.unmarked)

pub returns-in-Some-clause-moves : goal.returns-in-Some-clause-moves
returns-in-Some-clause-moves c =
    subst (λ (xs : List Pair). Moves c.args.pool.now c.args.pool.now c.args.ram.now c.args.ram.now
    (frames_of c.args.others.now c.args.ram.now) (frames_of xs c.args.ram.now))
    (front c.args.others.now c.take.new.self c.take.result c.in-Some.i c.take.ensures.rest)
    (front-moves c.args.others.now c.in-Some.i c.take.result c.args.ram.now c.take.ensures.pair c.requires.roots
    c.args.pool.now c.requires.owns)

pub returns-in-Some-clause-comes : goal.returns-in-Some-clause-comes
returns-in-Some-clause-comes c =
    let ps = c.args.others.now in let qs : List Pair = c.take.result ∷ c.take.new.self in let m = c.args.ram.now in
    subst (λ (o : Option ℕ). MatchOption o (Opens ps qs m m c.args.cr3) (λ i. ComesBack ps qs m m i))
    (sym c.in-Some.is ∙ c.find.ensures.place)
    (let x : ComesBack ps qs m m c.in-Some.i =
    record {
      pair = c.take.result;
      here = c.take.ensures.pair;
      front = sym (front ps c.take.new.self c.take.result c.in-Some.i c.take.ensures.rest);
      kept = kept-refl qs m (returns-in-Some-clause-roots c).shadows;
    } in x)

pub begin-requires-clause-stands : goal.begin-requires-clause-stands
begin-requires-clause-stands c = c.make_room.ensures.moves.stands

pub begin-requires-clause-free : goal.begin-requires-clause-free
begin-requires-clause-free c = let a = c.make_room.ensures.fewer in let b = c.requires.free in omega (arith, a, b)

pub returns-in-None-clause-roots : goal.returns-in-None-clause-roots
returns-in-None-clause-roots c =
    let a = c.make_room.ensures in let e = c.begin.ensures in
    let o = Owns-moves c.args.pool.now c.make_room.new.pool c.args.ram.now c.make_room.new.ram (frames_of c.args.others.now c.args.ram.now)
    (frames_of c.make_room.new.others c.make_room.new.ram) c.requires.owns a.moves in
    let few : length c.make_room.new.others ≤ 7 =
    (let t = length-take 7 c.args.others.now in let s = ap (λ (xs : List Pair). length xs) a.rest in omega (arith, t, s)) in
    open-roots c.make_room.new.pool c.begin.new.pool c.begin.new.self c.make_room.new.others c.make_room.new.ram c.begin.new.ram a.roots o
    e.moves e.empty e.tables few a.unmarked

pub returns-in-None-clause-moves : goal.returns-in-None-clause-moves
returns-in-None-clause-moves c =
    let a = c.make_room.ensures in let e = c.begin.ensures in
    let o = Owns-moves c.args.pool.now c.make_room.new.pool c.args.ram.now c.make_room.new.ram (frames_of c.args.others.now c.args.ram.now)
    (frames_of c.make_room.new.others c.make_room.new.ram) c.requires.owns a.moves in
    let few : length c.make_room.new.others ≤ 7 =
    (let t = length-take 7 c.args.others.now in let s = ap (λ (xs : List Pair). length xs) a.rest in omega (arith, t, s)) in
    Moves-trans c.args.pool.now c.make_room.new.pool c.begin.new.pool c.args.ram.now c.make_room.new.ram c.begin.new.ram
    (frames_of c.args.others.now c.args.ram.now) (frames_of c.make_room.new.others c.make_room.new.ram)
    (frames_of (c.begin.new.self ∷ c.make_room.new.others) c.begin.new.ram)
    a.moves (open-moves c.make_room.new.pool c.begin.new.pool c.begin.new.self c.make_room.new.others c.make_room.new.ram c.begin.new.ram
    a.roots o e.moves e.empty e.tables few)

pub returns-in-None-clause-comes : goal.returns-in-None-clause-comes
returns-in-None-clause-comes c =
    let a = c.make_room.ensures in let e = c.begin.ensures in
    let o = Owns-moves c.args.pool.now c.make_room.new.pool c.args.ram.now c.make_room.new.ram (frames_of c.args.others.now c.args.ram.now)
    (frames_of c.make_room.new.others c.make_room.new.ram) c.requires.owns a.moves in
    let few : length c.make_room.new.others ≤ 7 =
    (let t = length-take 7 c.args.others.now in let s = ap (λ (xs : List Pair). length xs) a.rest in omega (arith, t, s)) in
    let ps = c.args.others.now in let qs : List Pair =
    c.begin.new.self ∷ c.make_room.new.others in let m = c.args.ram.now in let n = c.begin.new.ram in
    subst (λ (o : Option ℕ). MatchOption o (Opens ps qs m n c.args.cr3) (λ i. ComesBack ps qs m n i))
    (sym c.in-None.is ∙ c.find.ensures.place)
    (let x : Opens ps qs m n c.args.cr3 =
    record {
      pair = c.begin.new.self;
      fresh = record { value = e.cr3; empty = e.empty; tables = e.tables; unmarked = e.stale };
      front = ap (λ (xs : List Pair). c.begin.new.self ∷ xs) a.rest;
      kept = subst (λ (xs : List Pair). AreKept xs m n) a.rest
          (kept-trans c.make_room.new.others m c.make_room.new.ram n a.kept
          (open-kept c.make_room.new.pool c.begin.new.pool c.begin.new.self c.make_room.new.others c.make_room.new.ram c.begin.new.ram
          a.roots o e.moves e.empty e.tables few));
    } in x)
