use Rattle.std.proofs.Common.{◌≡◌, ℕ, suc, ◌-◌, List, length, slice_get, remove, not, sym, ap, ◌∙◌, subst, arith}
use Rattle.frame_pool.proofs.Held.{Owns-moves, Moves-trans, Moves-refl}
use Rattle.shadow_cache.specs.Pairs.{reads, frames_of}
use Rattle.shadow_cache.specs.Others.{AreKept}
use Rattle.shadow_cache.specs.declared.pair.Pair.{Pair}
use Rattle.shadow_cache.specs.Laws.{kept-shadows}
use Rattle.shadow_cache.proofs.Leaving.{pruned, pruned-all, pruned-length, pruned-stays, pruned-goes, kept-refl, kept-remove, kept-trans}
use Rattle.shadow_cache.proofs.others.leave_readers.Goals as goal

pub loop-left-init : goal.loop-left-init
loop-left-init c =
    let ps = c.args.pairs.now in let m = c.args.ram.now in
    record {
      few = omega arith;
      pruned =
          sym (pruned-all (λ p. not (reads p c.args.frame)) ps) ∙ ap (pruned (λ p. not (reads p c.args.frame)) ps) (sym c.len-left.ensures);
      fewer = omega arith;
      kept = kept-refl ps m c.requires.shadows;
      moves = Moves-refl c.args.pool.now m (frames_of ps m) c.requires.owns.stands;
    }

pub at-requires : goal.at-requires
at-requires c =
    let l = c.loop-left in let i : ℕ = l.left - 1 in
    let e : l.left ≡ suc i = omega arith in
    let a = pruned-length (λ p. not (reads p c.args.frame)) c.args.pairs.now i (omega arith) in
    let q = ap (λ (xs : List Pair). length xs) (l.invariant.pruned ∙ ap (pruned (λ p. not (reads p c.args.frame)) c.args.pairs.now) e) in
    omega (arith, a, q)

pub loop-left-preserved : goal.loop-left-preserved
loop-left-preserved c =
    let l = c.loop-left in let i : ℕ = l.left - 1 in let ps = c.args.pairs.now in
    let e : l.left ≡ suc i = omega arith in
    let q = l.invariant.pruned ∙ ap (pruned (λ p. not (reads p c.args.frame)) ps) e in
    let here = sym (ap (λ (xs : List Pair). slice_get xs i) q) ∙ c.at.ensures in
    record {
      few = omega arith;
      pruned = q ∙ pruned-stays (λ p. not (reads p c.args.frame)) ps i c.at.result.now (omega arith) here
          (ap not (sym c.reads.ensures ∙ c.if-reads.false));
      fewer = l.invariant.fewer;
      kept = l.invariant.kept;
      moves = l.invariant.moves;
    }

pub leave-requires-clause-shadows : goal.leave-requires-clause-shadows
leave-requires-clause-shadows c = kept-shadows c.loop-left.pairs c.args.ram.now c.loop-left.ram c.loop-left.invariant.kept

pub leave-requires-clause-owns : goal.leave-requires-clause-owns
leave-requires-clause-owns c =
    let l = c.loop-left in
    Owns-moves c.args.pool.now l.pool c.args.ram.now l.ram (frames_of c.args.pairs.now c.args.ram.now) (frames_of l.pairs l.ram)
    c.requires.owns l.invariant.moves

pub loop-left-preserved-then-reads : goal.loop-left-preserved-then-reads
loop-left-preserved-then-reads c =
    let l = c.loop-left in let i : ℕ = l.left - 1 in let ps = c.args.pairs.now in
    let m = c.args.ram.now in let n = c.leave.new.ram in
    let e : l.left ≡ suc i = omega arith in
    let q = l.invariant.pruned ∙ ap (pruned (λ p. not (reads p c.args.frame)) ps) e in
    let here = sym (ap (λ (xs : List Pair). slice_get xs i) q) ∙ c.at.ensures in
    let rest = c.leave.ensures.rest in
    record {
      few = omega arith;
      pruned =
          rest ∙ ap (λ (xs : List Pair). remove xs i) q
          ∙ pruned-goes (λ p. not (reads p c.args.frame)) ps i c.at.result.now (omega arith) here
          (ap not (sym c.reads.ensures ∙ c.if-reads.true));
      fewer = (let x = l.invariant.fewer in let y = c.leave.ensures.fewer in omega (arith, x, y));
      kept =
          kept-trans c.leave.new.pairs m l.ram n
          (subst (λ (xs : List Pair). AreKept xs m l.ram) (sym rest) (kept-remove l.pairs i m l.ram l.invariant.kept)) c.leave.ensures.kept;
      moves = Moves-trans c.args.pool.now l.pool c.leave.new.pool m l.ram n (frames_of ps m) (frames_of l.pairs l.ram)
          (frames_of c.leave.new.pairs n) l.invariant.moves c.leave.ensures.moves;
    }

pub returns-clause-rest : goal.returns-clause-rest
returns-clause-rest c = let e : c.loop-left.left ≡ 0 =
    omega arith in c.loop-left.invariant.pruned ∙ ap (pruned (λ p. not (reads p c.args.frame)) c.args.pairs.now) e
