use Rattle.std.proofs.Common.{List, ◌∷◌, refl, sym, ap, ◌∙◌, subst, arith}
use Rattle.std.proofs.lemmas.Bool.{or_right}
use Rattle.frame_pool.specs.Held.{Moves}
use Rattle.frame_pool.proofs.Held.{Owns-moves, Moves-refl, Holds-from_Owns}
use Rattle.shadow_cache.specs.Pairs.{reads, any_reads, frames_of}
use Rattle.shadow_cache.specs.Others.{AreKept}
use Rattle.shadow_cache.specs.Laws.{kept-shadows, kept-barred}
use Rattle.shadow_cache.specs.declared.pair.Pair.{Pair}
use Rattle.shadow_cache.proofs.Leaving.{kept-refl, leaves-owns, leaves-kept, leaves-moves}
use Rattle.shadow_cache.proofs.Coming.{sub-roots, others-unmarked}
use Rattle.shadow_cache.proofs.switching.put_by.Goals as goal

pub close-requires-clause-owns : goal.close-requires-clause-owns
close-requires-clause-owns c = leaves-owns c.args.pool.now c.args.ram.now (c.args.before.now ∷ c.args.others.now) 0 c.args.before.now refl
    c.requires.roots.shadows c.requires.owns

pub returns-then-before-clause-kept : goal.returns-then-before-clause-kept
returns-then-before-clause-kept c = leaves-kept c.args.pool.now c.args.ram.now (c.args.before.now ∷ c.args.others.now) 0 c.args.before.now
    refl c.requires.roots.shadows c.requires.owns c.close.new.pool c.close.new.ram c.close.ensures.moves

pub returns-then-before-clause-moves : goal.returns-then-before-clause-moves
returns-then-before-clause-moves c = leaves-moves c.args.pool.now c.args.ram.now (c.args.before.now ∷ c.args.others.now) 0 c.args.before.now
    refl c.requires.roots.shadows c.requires.owns c.close.new.pool c.close.new.ram c.close.ensures.moves

pub returns-then-before-clause-roots : goal.returns-then-before-clause-roots
returns-then-before-clause-roots c =
    let h = c.requires.roots in let ps = c.args.others.now in let m = c.args.ram.now in let n = c.close.new.ram in
    let k = returns-then-before-clause-kept c in let few = h.few in
    sub-roots (c.args.before.now ∷ ps) ps n (omega (arith, few))
    (Holds-from_Owns c.close.new.pool n (frames_of ps n)
    (Owns-moves c.args.pool.now c.close.new.pool m n (frames_of (c.args.before.now ∷ ps) m) (frames_of ps n) c.requires.owns
    (returns-then-before-clause-moves c)))
    (kept-shadows ps m n k) h.sized.1 (kept-barred (any_reads (c.args.before.now ∷ ps)) ps m n k h.barred.1)
    (λ x e. or_right (reads c.args.before.now x) (any_reads ps x) e) (others-unmarked ps h.unmarked)

pub returns-else-before-clause-kept : goal.returns-else-before-clause-kept
returns-else-before-clause-kept c = subst (λ (ps : List Pair). AreKept ps c.args.ram.now c.args.ram.now)
    (sym (c.push.ensures ∙ ap (λ (p : Pair). p ∷ c.args.others.now) c.copy.ensures))
    (kept-refl (c.args.before.now ∷ c.args.others.now) c.args.ram.now c.requires.roots.shadows)

pub returns-else-before-clause-moves : goal.returns-else-before-clause-moves
returns-else-before-clause-moves c =
    subst (λ (ps : List Pair). Moves c.args.pool.now c.args.pool.now c.args.ram.now c.args.ram.now
    (frames_of (c.args.before.now ∷ c.args.others.now) c.args.ram.now) (frames_of ps c.args.ram.now))
    (sym (c.push.ensures ∙ ap (λ (p : Pair). p ∷ c.args.others.now) c.copy.ensures))
    (Moves-refl c.args.pool.now c.args.ram.now (frames_of (c.args.before.now ∷ c.args.others.now) c.args.ram.now) c.requires.owns.stands)
