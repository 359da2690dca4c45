use Rattle.std.proofs.Common.{List, length, sym, ap, ◌∙◌, subst, arith}
use Rattle.std.proofs.lemmas.List.{length-take, take_all}
use Rattle.frame_pool.proofs.Held.{Owns-moves, Moves-refl, Holds-from_Owns}
use Rattle.shadow_cache.specs.Pairs.{any_reads, frames_of, AreSized, AllBarWrites, AreUnmarked}
use Rattle.shadow_cache.specs.Laws.{kept-shadows, kept-barred}
use Rattle.shadow_cache.specs.declared.pair.Pair.{Pair}
use Rattle.shadow_cache.proofs.Leaving.{kept-refl}
use Rattle.shadow_cache.proofs.Coming.{sub-roots, sized-remove, barred-remove, any-remove, unmarked-remove, others-unmarked, last-leaves}
use Rattle.shadow_cache.proofs.switching.make_room.Goals as goal

pub returns-then-len-eq-PAIRS-clause-rest : goal.returns-then-len-eq-PAIRS-clause-rest
returns-then-len-eq-PAIRS-clause-rest c = c.leave.ensures.rest ∙ last-leaves c.args.others.now c.requires.roots.few

pub returns-then-len-eq-PAIRS-clause-unmarked : goal.returns-then-len-eq-PAIRS-clause-unmarked
returns-then-len-eq-PAIRS-clause-unmarked c =
    subst AreUnmarked (sym c.leave.ensures.rest) (unmarked-remove c.args.others.now 7 c.requires.unmarked)

pub returns-then-len-eq-PAIRS-clause-roots : goal.returns-then-len-eq-PAIRS-clause-roots
returns-then-len-eq-PAIRS-clause-roots c =
    let h = c.requires.roots in let ps =
    c.args.others.now in let qs = c.leave.new.pairs in let m = c.args.ram.now in let n = c.leave.new.ram in
    let e = c.leave.ensures in let k = e.kept in
    let few = length-take 7 ps in let size = ap (λ (xs : List Pair). length xs) (returns-then-len-eq-PAIRS-clause-rest c) in
    sub-roots ps qs n (omega (arith, few, size))
    (Holds-from_Owns c.leave.new.pool n (frames_of qs n)
    (Owns-moves c.args.pool.now c.leave.new.pool m n (frames_of ps m) (frames_of qs n) c.requires.owns e.moves))
    (kept-shadows qs m n k) (subst AreSized (sym e.rest) (sized-remove ps 7 h.sized))
    (kept-barred (any_reads ps) qs m n k
    (subst (λ (xs : List Pair). AllBarWrites (any_reads ps) xs m) (sym e.rest) (barred-remove (any_reads ps) ps 7 m h.barred)))
    (λ x y. any-remove ps 7 x (sym (ap (λ (xs : List Pair). any_reads xs x) e.rest) ∙ y))
    (others-unmarked qs (returns-then-len-eq-PAIRS-clause-unmarked c))

pub returns-else-len-eq-PAIRS-clause-rest : goal.returns-else-len-eq-PAIRS-clause-rest
returns-else-len-eq-PAIRS-clause-rest c =
    let few = c.requires.roots.few in let n = c.if-len-eq-PAIRS.false in let e = c.len.ensures in
    sym (take_all 7 c.args.others.now (omega (arith, few, n, e)))

pub returns-else-len-eq-PAIRS-clause-kept : goal.returns-else-len-eq-PAIRS-clause-kept
returns-else-len-eq-PAIRS-clause-kept c = kept-refl c.args.others.now c.args.ram.now c.requires.roots.shadows

pub returns-else-len-eq-PAIRS-clause-moves : goal.returns-else-len-eq-PAIRS-clause-moves
returns-else-len-eq-PAIRS-clause-moves c =
    Moves-refl c.args.pool.now c.args.ram.now (frames_of c.args.others.now c.args.ram.now) c.requires.owns.stands
