use Rattle.std.proofs.Common.{◌≡◌, ◌*◌, ◌<◌, ◌==◌, length, refl, sym, subst, arith}
use Rattle.host_cpl3.specs.declared.view.View.{View}
use Rattle.host_cpl3.specs.HostRun.{host_run}
use Rattle.host_cpl3.specs.Hosts.{standing}
use Rattle.wedge_step.specs.Standing.{side_of}
use Rattle.wedge_core.specs.Views.{view_by}
use Rattle.wedge_core.proofs.HostRuns.{by_view, counts_of, leads_low, root_lies}
use Rattle.wedge_core.proofs.stretch.run_on.Goals as goal

pub resume-exit-requires-clause-root : goal.resume-exit-requires-clause-root
resume-exit-requires-clause-root g c =
    let shadows = c.args.running.now.shadows in
    let memory = g.H.Host.bytes c.args.host.now in
    let side = side_of (c.args.running.now.cpu.cpl == 3) in
    let root = g.S.Shadows.directory shadows side in
    let lies = root_lies memory (g.S.Shadows.frames shadows memory) root (g.met.S.Shadows.holds shadows memory c.requires.stands)
    (g.met.S.Shadows.walked shadows memory side 0 root c.requires.stands (omega arith)) in
    subst (λ (v : View). 4096 * v.root < length memory) (sym c.view_of-view.ensures) lies

pub returns-then-done-eq0-clause-ran : goal.returns-then-done-eq0-clause-ran
returns-then-done-eq0-clause-ran g c =
    let old = c.args.running.now in
    let host = c.resume-exit.new.self in
    let s = standing old.cpu.regs (g.H.Host.bytes c.args.host.now) (g.H.Host.retired c.args.host.now) (g.H.Host.passed c.args.host.now) in
    let t = standing c.resume-exit.new.regs (g.H.Host.bytes host) (g.H.Host.retired host) (g.H.Host.passed host) in
    let v = view_by (g.S.Shadows.directory old.shadows) old.cpu in
    let run : host_run v c.args.k s ≡ (c.resume-exit.result, t) =
    by_view c.view_of-view.result v c.args.k s (c.resume-exit.result, t) c.view_of-view.ensures c.resume-exit.ensures.runs in
    let counts = counts_of c.each_is_run.ensures v c.args.k s c.resume-exit.result t run in
    let before = c.retired-before.ensures in
    let after = c.retired.ensures in
    let rose = counts.retired in
    let none = c.if-done-eq0.true in
    record {
      exit = c.resume-exit.result;
      regs = c.resume-exit.new.regs;
      run = run;
      count = omega (arith, before, after, rose, none);
      few = omega arith;
      none = λ e. refl;
      some = λ lt. absurd (omega (arith, lt));
    }

pub landed-running-requires : goal.landed-running-requires
landed-running-requires g c =
    let old = c.args.running.now in
    let host = c.resume-exit.new.self in
    let s = standing old.cpu.regs (g.H.Host.bytes c.args.host.now) (g.H.Host.retired c.args.host.now) (g.H.Host.passed c.args.host.now) in
    let t = standing c.resume-exit.new.regs (g.H.Host.bytes host) (g.H.Host.retired host) (g.H.Host.passed host) in
    leads_low c.borders.ensures.enters c.borders.ensures.exits c.each_is_run.ensures c.view_of-view.result c.args.k s c.resume-exit.result t
    c.resume-exit.ensures.runs
