use Rattle.std.proofs.Common.{ℕ, ◌+◌, drop, get_or, refl, subst, ◌∙◌, arith}
use Rattle.std.proofs.lemmas.Grind.{get_or_default_zero}
use Rattle.look_words.specs.View.{aspect_view}
use Rattle.bare_machine.specs.Machine.{state_of}
use Rattle.bare_machine.specs.Settings.{bare}
use Rattle.pv_look.specs.Onward.{MomentAs, watch_of}
use Rattle.pv_look.proofs.Onwards.{IsReached, IsStopped, next_one, at_end, so_far_start, so_far_next, so_far_done, so_far_stop, so_far_any}
use Rattle.pv_look.proofs.onward.add_moments.Goals as goal

pub loop-n-init : goal.loop-n-init
loop-n-init g c = record {
  kept = c.requires.kept;
  frames = refl;
  begun = c.requires.begun;
  so_far =
      λ image. so_far_start (watch_of g.C.Cache.keeping (bare image c.args.script.now.list c.args.machine.now.frames)
      (aspect_view c.args.aspect)) c.args.bound
      c.args.counts.now (state_of g.C.Cache.entries c.args.machine.now) c.args.text.now.items;
}

pub loop-n-preserved : goal.loop-n-preserved
loop-n-preserved g c =
    let e = g.C.Cache.entries in
    let all = c.args.counts.now in
    let i = c.loop-n.n-index in
    let n = get_or all i 0 in
    let m = c.loop-n.machine in
    let next = c.add_next-in-loop-n.new.machine in
    let inv = c.loop-n.invariant in
    let count = rw c.in-Reached.is at c.in_ok-stop.ensures.count in
    let most = c.requires.counts i in
    record {
      kept = rw c.in-Reached.is at c.in_ok-stop.ensures.kept;
      frames = (rw c.in-Reached.is at c.in_ok-stop.ensures.frames) ∙ inv.frames;
      begun = omega (arith, count, inv.begun, most);
      so_far = λ image.
          let moment = rw c.in-Reached.is at c.in_ok-stop.ensures.moment image in
          so_far_next (watch_of g.C.Cache.keeping (bare image c.args.script.now.list c.args.machine.now.frames) (aspect_view c.args.aspect))
          c.args.bound all
          (drop i all) n (drop (i + 1) all) (state_of e c.args.machine.now) (state_of e m) (state_of e next) c.args.text.now.items
          c.loop-n.text.items c.add_next-in-loop-n.new.text.items
          (inv.so_far image) (next_one all i c.loop-n-test.true) (omega (arith, c.if-bound-n.false))
          (subst (λ (f : ℕ). IsReached (watch_of g.C.Cache.keeping (bare image c.args.script.now.list f) (aspect_view c.args.aspect)) n
          (state_of e m)
          (state_of e next) c.loop-n.text.items c.add_next-in-loop-n.new.text.items) inv.frames moment);
    }

pub returns-in-Stopped : goal.returns-in-Stopped
returns-in-Stopped g c = λ image.
    let e = g.C.Cache.entries in
    let all = c.args.counts.now in
    let i = c.loop-n.n-index in
    let n = get_or all i 0 in
    let m = c.loop-n.machine in
    let next = c.add_next-in-loop-n.new.machine in
    let inv = c.loop-n.invariant in
    let moment = rw c.in-Stopped.is at c.in_ok-stop.ensures.moment image in
    so_far_stop (watch_of g.C.Cache.keeping (bare image c.args.script.now.list c.args.machine.now.frames) (aspect_view c.args.aspect))
    c.args.bound all (drop i all)
    (state_of e c.args.machine.now) (state_of e m) (state_of e next) c.args.text.now.items c.loop-n.text.items c.in-Stopped.stop i n n
    (inv.so_far image) (omega (arith, c.if-bound-n.false)) (omega arith) c.loop-n-test.true
    (get_or_default_zero all i n c.loop-n-test.true)
    (subst (λ (f : ℕ). IsStopped (watch_of g.C.Cache.keeping (bare image c.args.script.now.list f) (aspect_view c.args.aspect)) n
    (state_of e m) (state_of e next)
    c.loop-n.text.items c.add_next-in-loop-n.new.text.items c.in-Stopped.stop) inv.frames moment)

pub returns-then-bound-n : goal.returns-then-bound-n
returns-then-bound-n g c = λ image.
    let e = g.C.Cache.entries in
    let all = c.args.counts.now in
    let i = c.loop-n.n-index in
    let m = c.loop-n.machine in
    let next = c.add_next.new.machine in
    let inv = c.loop-n.invariant in
    so_far_any (watch_of g.C.Cache.keeping (bare image c.args.script.now.list c.args.machine.now.frames) (aspect_view c.args.aspect))
    c.args.bound all i
    (state_of e c.args.machine.now) (state_of e m) (state_of e next) c.args.text.now.items c.loop-n.text.items c.add_next.new.text.items
    c.add_next.result
    (inv.so_far image) c.loop-n-test.true c.if-bound-n.true
    (subst (λ (f : ℕ). MomentAs (watch_of g.C.Cache.keeping (bare image c.args.script.now.list f) (aspect_view c.args.aspect))
    c.args.bound (state_of e m)
    (state_of e next) c.loop-n.text.items c.add_next.new.text.items c.add_next.result) inv.frames (c.add_next.ensures.moment image))

pub returns : goal.returns
returns g c = λ image.
    let e = g.C.Cache.entries in
    let all = c.args.counts.now in
    let i = c.loop-n.n-index in
    so_far_done (watch_of g.C.Cache.keeping (bare image c.args.script.now.list c.args.machine.now.frames) (aspect_view c.args.aspect))
    c.args.bound all (drop i all)
    (state_of e c.args.machine.now) (state_of e c.loop-n.machine) c.args.text.now.items c.loop-n.text.items
    (c.loop-n.invariant.so_far image) (at_end all i c.loop-n.auto.n-index-end (omega (arith, c.loop-n-test.false)))
