use Rattle.std.proofs.Common.{◌≡◌, ◌+◌, ◌∷◌, take, drop, drop-cons, get_or, IsTrue, suc, true, false, sym, ap, ◌∙◌, subst, arith}
use Rattle.frame_pool.specs.Held.{Moves}
use Rattle.frame_pool.proofs.Held.{Owns-moves, Moves-trans}
use Rattle.shadow_tables.specs.declared.calls.Call.{Call}
use Rattle.shadow_tables.specs.declared.calls.Call.TheVariants.{Fill}
use Rattle.shadow_tables.specs.declared.words.Side.TheVariants.{Kernel}
use Rattle.shadow_tables.specs.Calls.{BeginsWithFill, IsWithin}
use Rattle.shadow_tables.specs.Slots.{SameSlots}
use Rattle.shadow_tables.specs.Seen.{Seen, after_one, after_calls}
use Rattle.shadow_tables.specs.Steps.{after, after_call}
use Rattle.shadow_tables.proofs.Lists.{after-take, fit-at, fills-take, fills-le, within-trans, within-call, follows, adequate-after}
use Rattle.shadow_tables.proofs.Seeing.{after_calls-take, same-slots, call-within, call-exact}
use Rattle.shadow_tables.proofs.calls.replay.Goals as goal
use Rattle.shadow_tables.proofs.calls.replay.Goals.{After-apply, Then-not-apply}
use Rattle.shadow_tables.proofs.calls.replay.Given.{Over}

-- what stands where the list has no call
abbrev none : Call
none = Fill Kernel (record { page = 0; frame = 0; user = false; write = false; dirty = false }) false

pub apply-requires-clause-owns : goal.apply-requires-clause-owns
apply-requires-clause-owns g c =
    let l = c.loop-call in
    Owns-moves c.args.pool.now l.pool c.args.ram.now l.ram (g.S.Shadows.frames c.args.shadows.now c.args.ram.now)
    (g.S.Shadows.frames l.shadows l.ram) c.requires.owns l.invariant.moves

pub apply-requires-clause-fit : goal.apply-requires-clause-fit
apply-requires-clause-fit g c = fit-at c.args.calls.now c.loop-call.call-index none c.requires.fit c.loop-call-test.true

moved : (g : Over) (c : After-apply g) → Moves c.args.pool.now c.apply.new.pool c.args.ram.now c.apply.new.ram
    (g.S.Shadows.frames c.args.shadows.now c.args.ram.now) (g.S.Shadows.frames c.apply.new.shadows c.apply.new.ram)
moved g c =
    let l = c.loop-call in
    let f = g.S.Shadows.frames in
    Moves-trans c.args.pool.now l.pool c.apply.new.pool c.args.ram.now l.ram c.apply.new.ram (f c.args.shadows.now c.args.ram.now)
    (f l.shadows l.ram) (f c.apply.new.shadows c.apply.new.ram) l.invariant.moves c.apply.ensures.moves

pub loop-call-preserved : goal.loop-call-preserved
loop-call-preserved g c =
    let l = c.loop-call in
    let cs = c.args.calls.now in
    let e = c.apply.ensures in
    let done = c.if-not-apply.false in
    let count = fills-take cs l.call-index none c.loop-call-test.true in
    let before = l.invariant.left in
    let now = e.left in
    let call : Call = get_or cs l.call-index none in
    let old = g.S.Shadows.slots c.args.shadows.now c.args.ram.now in
    let shadows = c.apply.new.shadows in
    let ram = c.apply.new.ram in
    record {
      count = ap (λ n. n + 1) l.invariant.count;
      stands = e.stands;
      moves = moved g c.before;
      left = omega (arith, count, before, now);
      sight = e.sight done ∙ ap (after_one call) l.invariant.sight
          ∙ sym (after_calls-take cs l.call-index none c.loop-call-test.true (g.S.Shadows.sight c.args.shadows.now c.args.ram.now));
      within = λ page h.
          subst (IsWithin (g.S.Shadows.slots shadows ram page))
          (sym (after-take cs l.call-index none page (old page) c.loop-call-test.true))
          (within-trans _ _ _ (call-within g.S.Shadows g.met.S.Shadows.seen call l.shadows shadows l.ram ram (e.sight done) page h)
          (within-call call page _ _ (l.invariant.within page h)));
      slots = λ free page h.
          call-exact g.S.Shadows g.met.S.Shadows.seen g.met.S.Shadows.protected call l.shadows shadows l.ram ram (e.sight done) free page h
          ∙ ap (after_call call page) (l.invariant.slots free page h)
          ∙ sym (after-take cs l.call-index none page (old page) c.loop-call-test.true);
    }

-- ---- a fill for which no frame is free

refused : (g : Over) (c : Then-not-apply g) → IsTrue c.apply.result → ⊥
refused g c t = let e = c.if-not-apply.true in absurd (let q : false ≡ true = sym e ∙ t in cc)

still : (g : Over) (c : Then-not-apply g) → SameSlots (g.S.Shadows.slots c.loop-call.shadows c.loop-call.ram)
    (g.S.Shadows.slots c.apply.new.shadows c.apply.new.ram)
still g c = same-slots g.S.Shadows g.met.S.Shadows.seen _ _ _ _ (c.apply.ensures.same (refused g c))

pub returns-then-not-apply-clause-moves : goal.returns-then-not-apply-clause-moves
returns-then-not-apply-clause-moves g c = moved g c.before

pub returns-then-not-apply-clause-owns : goal.returns-then-not-apply-clause-owns
returns-then-not-apply-clause-owns g c =
    let f = g.S.Shadows.frames in
    Owns-moves c.args.pool.now c.apply.new.pool c.args.ram.now c.apply.new.ram (f c.args.shadows.now c.args.ram.now)
    (f c.apply.new.shadows c.apply.new.ram) c.requires.owns (moved g c.before)

pub returns-then-not-apply-clause-all : goal.returns-then-not-apply-clause-all
returns-then-not-apply-clause-all g c = λ h.
    let cs = c.args.calls.now in let i = c.loop-call.call-index in
    let a = fills-take cs i none c.loop-call-test.true in
    let b = fills-le cs (i + 1) in
    let left = c.loop-call.invariant.left in
    absurd (refused g c (c.apply.ensures.done (omega (arith, a, b, left, h))))

pub returns-then-not-apply-clause-stopped : goal.returns-then-not-apply-clause-stopped
returns-then-not-apply-clause-stopped g c = λ h.
    let cs = c.args.calls.now in
    let e = c.apply.ensures.undone (refused g c) in
    let here : drop c.loop-call.count cs ≡ get_or cs c.loop-call.call-index none ∷ drop (suc c.loop-call.call-index) cs =
    ap (λ n. drop n cs) c.loop-call.invariant.count ∙ drop-cons cs c.loop-call.call-index none c.loop-call-test.true
    in
    (subst BeginsWithFill (sym here) e.0, e.1)

pub returns-then-not-apply-clause-sight : goal.returns-then-not-apply-clause-sight
returns-then-not-apply-clause-sight g c =
    let l = c.loop-call in
    let old : Seen = g.S.Shadows.sight c.args.shadows.now c.args.ram.now in
    c.apply.ensures.same (refused g c) ∙ l.invariant.sight ∙ ap (λ n. after_calls (take n c.args.calls.now) old) (sym l.invariant.count)

pub returns-then-not-apply-clause-law : goal.returns-then-not-apply-clause-law
returns-then-not-apply-clause-law g c = λ page h.
    let l = c.loop-call in
    let cs = c.args.calls.now in
    let o = g.S.Shadows.slots c.args.shadows.now c.args.ram.now page in
    let same = still g c page h in
    let then = g.S.Shadows.slots l.shadows l.ram page in
    let now = g.S.Shadows.slots c.apply.new.shadows c.apply.new.ram page in
    follows (take l.count cs) page o now
    (subst (λ x. IsWithin x (after (take l.count cs) page o)) (sym same)
    (subst (λ n. IsWithin then (after (take n cs) page o)) (sym l.invariant.count) (l.invariant.within page h)))

pub returns-then-not-apply-clause-slots : goal.returns-then-not-apply-clause-slots
returns-then-not-apply-clause-slots g c = λ free page h.
    let l = c.loop-call in
    let o = g.S.Shadows.slots c.args.shadows.now c.args.ram.now page in
    still g c page h ∙ l.invariant.slots free page h ∙ ap (λ n. after (take n c.args.calls.now) page o) (sym l.invariant.count)

pub returns-then-not-apply-clause-adequate : goal.returns-then-not-apply-clause-adequate
returns-then-not-apply-clause-adequate g c = λ free page h side write.
    let o = g.S.Shadows.slots c.args.shadows.now c.args.ram.now page in
    let now = g.S.Shadows.slots c.apply.new.shadows c.apply.new.ram page in
    adequate-after (take c.loop-call.count c.args.calls.now) page o now side write (returns-then-not-apply-clause-slots g c free page h)

-- ---- all done

pub returns-clause-owns : goal.returns-clause-owns
returns-clause-owns g c =
    let l = c.loop-call in
    Owns-moves c.args.pool.now l.pool c.args.ram.now l.ram (g.S.Shadows.frames c.args.shadows.now c.args.ram.now)
    (g.S.Shadows.frames l.shadows l.ram) c.requires.owns l.invariant.moves

pub returns-clause-sight : goal.returns-clause-sight
returns-clause-sight g c =
    let l = c.loop-call in
    l.invariant.sight ∙ ap (λ n. after_calls (take n c.args.calls.now) (g.S.Shadows.sight c.args.shadows.now c.args.ram.now))
    (sym l.invariant.count)

pub returns-clause-law : goal.returns-clause-law
returns-clause-law g c = λ page h.
    let l = c.loop-call in
    let cs = c.args.calls.now in
    let o = g.S.Shadows.slots c.args.shadows.now c.args.ram.now page in
    let now = g.S.Shadows.slots l.shadows l.ram page in
    follows (take l.count cs) page o now
    (subst (λ n. IsWithin now (after (take n cs) page o)) (sym l.invariant.count) (l.invariant.within page h))

pub returns-clause-adequate : goal.returns-clause-adequate
returns-clause-adequate g c = λ free page h side write.
    let l = c.loop-call in
    let cs = c.args.calls.now in
    let o = g.S.Shadows.slots c.args.shadows.now c.args.ram.now page in
    let now = g.S.Shadows.slots l.shadows l.ram page in
    adequate-after (take l.count cs) page o now side write
    (l.invariant.slots free page h ∙ ap (λ n. after (take n cs) page o) (sym l.invariant.count))
