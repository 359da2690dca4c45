use Rattle.std.proofs.Common.{sym, ap, ◌∙◌}
use Rattle.bare_mem.specs.declared.kept.Cached.{Cached}
use Rattle.machine_step.specs.Left.{denied_page}
use Rattle.machine_step.specs.Worked.{whats}
use Rattle.bare_machine.specs.Machine.{state_of}
use Rattle.bare_machine.specs.Settings.{bare}
use Rattle.bare_machine.proofs.FitBehind.{any_image}
use Rattle.bare_machine.proofs.OneStep.{passes_once, kept_with, fit_once}
use Rattle.bare_machine.proofs.once.one_step.Goals as goal

pub returns-in-Ok-clause-once : goal.returns-in-Ok-clause-once
returns-in-Ok-clause-once g c = λ image.
    let m = c.args.machine.now in
    let e = g.C.Cache.entries in
    let comes = c.in-Ok.ensures.comes image in
    let goes = comes.step in
    record {
      report = goes.report;
      whole = goes.whole;
      went = goes.went;
      part = goes.part;
      all = goes.all;
      kept = kept_with g.C.Cache.keeping (bare image c.args.script.now.list m.frames) (g.C.Cache.is_exact m.kept.cache) (state_of e m)
          (state_of e c.step-result.new.machine) (whats c.in-Ok.seen) goes comes.kept;
      items = sym goes.items;
      raised = comes.raises;
      count = c.in-Ok.ensures.count;
      passes = passes_once (bare image c.args.script.now.list m.frames) (g.C.Cache.is_exact m.kept.cache) (state_of e m)
          (state_of e c.step-result.new.machine) (whats c.in-Ok.seen) goes;
    }

pub returns-in-Ok-clause-fit : goal.returns-in-Ok-clause-fit
returns-in-Ok-clause-fit g c = λ fit.
    let m = c.args.machine.now in
    let e = g.C.Cache.entries in
    fit_once c.runs_keep_fit.ensures (bare any_image c.args.script.now.list m.frames) (g.C.Cache.is_exact m.kept.cache) (state_of e m)
    (state_of e c.step-result.new.machine) (whats c.in-Ok.seen)
    (c.in-Ok.ensures.comes any_image).step fit c.segment_count.ensures.four

pub returns-in-Err-clause-once : goal.returns-in-Err-clause-once
returns-in-Err-clause-once g c = λ image.
    let comes = c.in-Err.ensures.comes image in
    let left = c.in-Err.ensures.stops image in
    record {
      halts = comes.step;
      raised = comes.raises;
      page = c.denied_page-page.ensures c.step-result.new.machine.ram ∙ ap denied_page left.memory;
      cpu = left.cpu;
      set = ap (λ (k : Cached g.row.C.Denot). g.C.Cache.entries k.cache) left.kept;
      board = left.board;
      count = c.in-Err.ensures.count;
    }

pub returns-in-Ok-clause-wide : goal.returns-in-Ok-clause-wide
returns-in-Ok-clause-wide g c = record { frames = c.in-Ok.ensures.goes_on.frames; size = c.in-Ok.ensures.goes_on.size }

pub returns-in-Err-clause-wide : goal.returns-in-Err-clause-wide
returns-in-Err-clause-wide g c = (c.in-Err.ensures.stops any_image).wide
