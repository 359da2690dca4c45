use Rattle.std.proofs.Common.{◌≡◌, suc, ◌+◌, List, ◌∷◌, length, take, drop, drop-cons, get_or, IsTrue, true, false, sym, ap, ◌∙◌, subst}
use Rattle.std.proofs.lemmas.List.{take_more}
use Rattle.frame_pool.specs.Pool.{free_list}
use Rattle.frame_pool.specs.Held.{Moves}
use Rattle.frame_pool.proofs.Held.{Owns-moves, Moves-trans}
use Rattle.shadow_cache.specs.Pairs.{frames_of}
use Rattle.shadow_cache.specs.Roots.{pairs_of}
use Rattle.shadow_cache.specs.Replayed.{BeginsBeyond}
use Rattle.shadow_cache.specs.Agreeing.{Agree}
use Rattle.shadow_cache.specs.declared.pair.Pair.{Pair}
use Rattle.shadow_cache.specs.declared.call_lists.RootsCall.{RootsCall}
use Rattle.shadow_cache.specs.declared.call_lists.RootsCall.TheVariants.{Shared}
use Rattle.shadow_tables.specs.declared.calls.Call.TheVariants.{Fill}
use Rattle.shadow_tables.specs.declared.words.Side.TheVariants.{Kernel}
use Rattle.shadow_cache.proofs.CallSteps.{fit-at}
use Rattle.shadow_cache.proofs.call_lists.follow.Goals as goal
use Rattle.shadow_cache.proofs.call_lists.follow.Goals.{After-apply, Then-not-apply}

-- what stands where the list has no call
abbrev none : RootsCall
none = Shared (Fill Kernel (record { page = 0; frame = 0; user = false; write = false; dirty = false }) false)

pub apply-requires-clause-owns : goal.apply-requires-clause-owns
apply-requires-clause-owns c =
    let l = c.loop-call in
    Owns-moves c.args.pool.now l.pool c.args.ram.now l.ram (frames_of (pairs_of c.args.roots.now) c.args.ram.now)
    (frames_of (pairs_of l.roots) l.ram) c.requires.owns l.invariant.moves

pub apply-requires-clause-fit : goal.apply-requires-clause-fit
apply-requires-clause-fit c = fit-at c.args.calls.now c.loop-call.call-index none c.requires.fit c.loop-call-test.true

moved : (c : After-apply) → Moves c.args.pool.now c.apply.new.pool c.args.ram.now c.apply.new.ram
    (frames_of (pairs_of c.args.roots.now) c.args.ram.now) (frames_of (pairs_of c.apply.new.roots) c.apply.new.ram)
moved c =
    let l = c.loop-call in
    Moves-trans c.args.pool.now l.pool c.apply.new.pool c.args.ram.now l.ram c.apply.new.ram
    (frames_of (pairs_of c.args.roots.now) c.args.ram.now) (frames_of (pairs_of l.roots) l.ram)
    (frames_of (pairs_of c.apply.new.roots) c.apply.new.ram) l.invariant.moves c.apply.ensures.moves

pub loop-call-preserved : goal.loop-call-preserved
loop-call-preserved c =
    let l = c.loop-call in let cs = c.args.calls.now in
    record {
      count = ap (λ n. n + 1) l.invariant.count;
      stands = c.apply.ensures.stands;
      moves = moved c.before;
      law = λ value a.
          subst (λ (xs : List RootsCall). Agree value xs (pairs_of c.apply.new.roots) c.apply.new.ram)
          (sym (take_more cs l.call-index none c.loop-call-test.true))
          (c.apply.ensures.law c.if-not-apply.false value (take l.call-index cs) (l.invariant.law value a));
    }

-- ---- a call for which frames lack

refused : (c : Then-not-apply) → IsTrue c.apply.result → ⊥
refused c t = let e = c.if-not-apply.true in absurd (let q : false ≡ true = sym e ∙ t in cc)

pub returns-then-not-apply-clause-moves : goal.returns-then-not-apply-clause-moves
returns-then-not-apply-clause-moves c = moved c.before

pub returns-then-not-apply-clause-stopped : goal.returns-then-not-apply-clause-stopped
returns-then-not-apply-clause-stopped c = λ h.
    let l = c.loop-call in let cs = c.args.calls.now in
    let e = c.apply.ensures.undone (refused c) in
    let here : drop l.count cs ≡ get_or cs l.call-index none ∷ drop (suc l.call-index) cs =
    ap (λ n. drop n cs) l.invariant.count ∙ drop-cons cs l.call-index none c.loop-call-test.true
    in
    subst (BeginsBeyond (length (free_list c.apply.new.pool c.apply.new.ram))) (sym here) e.2

pub returns-then-not-apply-clause-law : goal.returns-then-not-apply-clause-law
returns-then-not-apply-clause-law c = λ value a.
    let l = c.loop-call in let cs = c.args.calls.now in
    let e = c.apply.ensures.undone (refused c) in
    subst (λ n. Agree value (take n cs) (pairs_of c.apply.new.roots) c.apply.new.ram) (sym l.invariant.count)
    (subst (λ (ps : List Pair). Agree value (take l.call-index cs) ps c.apply.new.ram) (sym e.0)
    (subst (λ m. Agree value (take l.call-index cs) (pairs_of l.roots) m) (sym e.1) (l.invariant.law value a)))

pub returns-clause-law : goal.returns-clause-law
returns-clause-law c = λ value a.
    let l = c.loop-call in
    subst (λ n. Agree value (take n c.args.calls.now) (pairs_of l.roots) l.ram) (sym l.invariant.count) (l.invariant.law value a)
