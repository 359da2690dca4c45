use Rattle.std.proofs.Common.{◌==◌, sym, subst, ◌∙◌}
use Rattle.std.specs.Prelude.{IfOk, IfSome, Option, Result}
use Rattle.ia32_types.specs.declared.stop.Stop.{Stop}
use Rattle.machine_model.specs.UsedPages.{Uses}
use Rattle.machine_step.specs.Roots.{RootsAs}
use Rattle.machine_step.specs.Worked.{IsDropped}
use Rattle.machine_step.specs.declared.worked.Worked.{Worked}
use Rattle.wedge_core.specs.Prepared.{PreparesAs}
use Rattle.wedge_core.proofs.Trying.{by_tried, if_gone, of_gone, prepares_refused}
use Rattle.wedge_core.proofs.native.prepare.Goals as goal

pub returns-in-Ok : goal.returns-in-Ok
returns-in-Ok g c = record {
  uses = c.in-Ok.ensures.uses;
  prepares = λ m b k. c.in-Ok.ensures.prepared;
  dropped = tt;
  roots = tt;
  frame = c.weigh.ensures.frame;
}

pub returns-in-Err : goal.returns-in-Err
returns-in-Err g c =
    let before = g.M.GuestMem.space c.args.mem.now in
    let refused = g.M.GuestMem.space c.weigh.new.mem in
    let after = g.M.GuestMem.space c.refuse.new.mem in
    let is = sym c.gone.ensures in
    record {
      uses = by_tried (Uses (c.args.cpu.now.cpl == 3) before after) c.gone.result c.gone.new.worked
          (subst (λ (r : Result (Option Worked) Stop). IfOk r (λ _. Uses (c.args.cpu.now.cpl == 3) before after)) is
          (if_gone (Uses (c.args.cpu.now.cpl == 3) before after) c.refuse.result
          (c.refuse.ensures.goes_on before c.in-Err.ensures.refused)));
      prepares = λ m b k. let here = record b { cpu = c.args.cpu.now } in
          subst (λ (r : Result (Option Worked) Stop). PreparesAs m here c.args.insn.now c.args.len before r after) is
          (prepares_refused m here c.args.insn.now c.args.len before c.requires.able c.requires.native c.requires.spelled c.in-Err.refusal
          refused c.refuse.result after c.in-Err.ensures.prepared (c.refuse.ensures.step m here k));
      dropped = subst (λ (r : Result (Option Worked) Stop). IfOk r (λ o. IfSome o (λ w. IsDropped w.dropped))) is
          (of_gone (λ (w : Worked). IsDropped w.dropped) c.refuse.result c.refuse.ensures.dropped);
      roots = subst (λ (r : Result (Option Worked) Stop). IfOk r (λ o. IfSome o (λ w. RootsAs c.args.cpu.now w))) is
          (of_gone (λ (w : Worked). RootsAs c.args.cpu.now w) c.refuse.result c.refuse.ensures.roots);
      frame = c.refuse.ensures.frame ∙ c.weigh.ensures.frame;
    }
