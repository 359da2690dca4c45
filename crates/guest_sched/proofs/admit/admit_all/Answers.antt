use Rattle.std.proofs.Common.{◌≡◌, ℕ, List, [], ◌∷◌, ◌++◌, ◌+◌, ◌<◌, length, take, get_or, ap, sym, subst, ◌∙◌, arith}
use Rattle.std.proofs.lemmas.List.{length-take-le, take_all, take_more}
use Rattle.std.proofs.lemmas.Result.{err_from_is_err_and}
use Rattle.guest_sched.specs.Admitting.{IsAdmitted, CantAdmit}
use Rattle.guest_sched.specs.declared.kernel.Kernel.{Kernel}
use Rattle.guest_sched.proofs.Knows.{known_first}
use Rattle.guest_sched.proofs.Starting.{begins, first_refused}
use Rattle.guest_sched.proofs.admit.admit_all.Goals as goal

pub returns-in_err-admit-clause-admitted : goal.returns-in_err-admit-clause-admitted
returns-in_err-admit-clause-admitted g c =
    let p = err_from_is_err_and c.from_residual-in_err-admit.result c.from_residual-in_err-admit.ensures.1 in
    let l = c.loop-kernel in
    let d = c.kernel-item.result in
    let cant = subst (λ (n : ℕ). CantAdmit d n c.in_err-admit.field-0.0) l.invariant.frames c.in_err-admit.ensures.refused in
    let same : d ≡ get_or c.args.kernels.now.items l.kernel-index d =
    c.kernel-item.is ∙ ap (λ (ks : List Kernel). get_or ks l.kernel-index d) c.deref-kernel-items.ensures.value in
    let within : l.kernel-index < length c.args.kernels.now.items =
    (let a = c.loop-kernel-test.true in let b = ap length c.deref-kernel-items.ensures.value in omega (arith, a, b)) in
    rw (p.1, p.2)
    (first_refused c.args.frames c.args.kernels.now.items l.kernel-index d c.in_err-admit.field-0.0 within l.invariant.admitted.fits
    (subst (λ (k : Kernel). CantAdmit k c.args.frames c.in_err-admit.field-0.0) same cant))

pub returns-clause-admitted : goal.returns-clause-admitted
returns-clause-admitted g c =
    let l = c.loop-kernel in
    let all : take l.kernel-index c.args.kernels.now.items ≡ c.args.kernels.now.items = take_all l.kernel-index c.args.kernels.now.items
    (let a = c.loop-kernel-test.false in let b = ap length c.deref-kernel-items.ensures.value in omega (arith, a, b)) in
    let is =
    subst (λ (ks : List Kernel). IsAdmitted ks c.args.frames l.tenants.list.items l.tenants.pool l.tenants.present (g.H.Host.bytes l.host))
    all l.invariant.admitted in (
      is.fits,
      l.invariant.frames,
      is,
      known_first c.args.frames l.tenants.pool (g.H.Host.bytes l.host) l.tenants.present 0 c.args.kernels.now.items
          l.tenants.list.items is.len
          is.apart.seated is.each (let two = is.two in omega (arith, two)),
      begins c.args.kernels.now.items c.args.frames l.tenants.list.items l.tenants.pool l.tenants.present (g.H.Host.bytes l.host) is
          c.requires.some.0 c.requires.some.1 c.requires.frames,
    )

pub admit-requires-clause-so_far : goal.admit-requires-clause-so_far
admit-requires-clause-so_far g c =
    let l = c.loop-kernel in (
      take l.kernel-index c.args.kernels.now.items,
      subst (λ (n : ℕ). IsAdmitted (take l.kernel-index c.args.kernels.now.items) n l.tenants.list.items l.tenants.pool l.tenants.present
          (g.H.Host.bytes l.host)) (sym l.invariant.frames) l.invariant.admitted,
    )

pub admit-requires-clause-few : goal.admit-requires-clause-few
admit-requires-clause-few g c =
    let l = c.loop-kernel in
    let within : l.kernel-index < length c.args.kernels.now.items =
    (let a = c.loop-kernel-test.true in let b = ap length c.deref-kernel-items.ensures.value in omega (arith, a, b)) in
    let n = l.invariant.admitted.len in
    let t = length-take-le l.kernel-index c.args.kernels.now.items (omega (arith, within)) in
    let four = c.requires.some.1 in
    omega (arith, within, n, t, four)

pub loop-kernel-preserved : goal.loop-kernel-preserved
loop-kernel-preserved g c =
    let l = c.loop-kernel in
    let i = l.invariant in
    let items = c.args.kernels.now.items in
    let d = c.kernel-item.result in
    let new = c.admit.new.self in
    let memory = g.H.Host.bytes c.admit.new.host in
    let e = c.in_ok-admit.ensures in
    let within : l.kernel-index < length items =
    (let a = c.loop-kernel-test.true in let b = ap length c.deref-kernel-items.ensures.value in omega (arith, a, b)) in
    let same : d ≡ get_or items l.kernel-index d =
    c.kernel-item.is ∙ ap (λ (ks : List Kernel). get_or ks l.kernel-index d) c.deref-kernel-items.ensures.value in
    let longer : take l.kernel-index items ++ d ∷ [] ≡ take (l.kernel-index + 1) items =
    ap (λ (k : Kernel). take l.kernel-index items ++ k ∷ []) same ∙ sym (take_more items l.kernel-index d within) in
    let old =
    subst (λ (n : ℕ). IsAdmitted (take l.kernel-index items) n l.tenants.list.items l.tenants.pool l.tenants.present
    (g.H.Host.bytes l.host)) (sym i.frames) i.admitted in
    let frames : new.frames ≡ c.args.frames = e.frames ∙ i.frames in
    record {
      admitted = subst (λ (n : ℕ). IsAdmitted (take (l.kernel-index + 1) items) n new.list.items new.pool new.present memory) frames
          (subst (λ (ks : List Kernel). IsAdmitted ks new.frames new.list.items new.pool new.present memory) longer
          (e.admitted (take l.kernel-index items) old));
      frames = frames;
      started = e.started;
      retired = e.retired ∙ i.retired;
      passed = e.passed ∙ i.passed;
    }
