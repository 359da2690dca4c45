use Rattle.std.proofs.Common.{◌==◌, sym, subst, ◌∙◌, arith}
use Rattle.std.specs.Prelude.{IfOk, IfSome, Option, Result}
use Rattle.ia32_types.specs.declared.stop.Stop.{Stop}
use Rattle.machine_model.specs.UsedPages.{Uses}
use Rattle.machine_step.specs.Roots.{RootsAs}
use Rattle.machine_step.specs.Worked.{IsDropped}
use Rattle.machine_step.specs.declared.worked.Worked.{Worked}
use Rattle.machine_step.proofs.Used.{if_ok_on}
use Rattle.wedge_core.specs.Tries.{TriesAs, tried}
use Rattle.wedge_core.proofs.Trying.{by_tried, if_gone, of_gone, tried_refused, tried_prepared, tried_other}
use Rattle.wedge_core.proofs.native.try_over.Goals as goal

pub prepare-requires : goal.prepare-requires
prepare-requires g c = record {
  spelled = (rw c.in-Ok-Insn.field-0-is at c.in-Ok-Insn.ensures.spelled);
  native = sym c.is_native.ensures ∙ c.if-is_native.true;
  able = c.requires.able;
  pages = (let p = c.fetch.ensures.pages in let q = c.requires.pages in omega (arith, p, q));
}

pub carry_out-requires : goal.carry_out-requires
carry_out-requires g c = record {
  spelled = (rw c.in-Ok-Insn.field-0-is at c.in-Ok-Insn.ensures.spelled);
  pages = (let p = c.fetch.ensures.pages in let q = c.requires.pages in omega (arith, p, q));
}

pub returns-in-Err : goal.returns-in-Err
returns-in-Err g c =
    let start = g.M.GuestMem.space c.args.mem.now in
    let after_fetch = g.M.GuestMem.space c.fetch.new.mem in
    let after = g.M.GuestMem.space c.refuse.new.mem in
    let is = sym c.gone.ensures in
    record {
      uses = by_tried (Uses (c.args.cpu.now.cpl == 3) start after) c.gone.result c.gone.new.worked
          (subst (λ (r : Result (Option Worked) Stop). IfOk r (λ _. Uses (c.args.cpu.now.cpl == 3) start after)) is
          (if_gone (Uses (c.args.cpu.now.cpl == 3) start after) c.refuse.result (c.refuse.ensures.goes_on start c.in-Err.ensures.refused)));
      tries = λ m b k. let here = record b { cpu = c.args.cpu.now; board = c.args.board.now } in
          subst (λ (r : Result (Option Worked) Stop). TriesAs m here start r c.args.board.now after) is
          (tried_refused m here start c.in-Err.refusal after_fetch c.refuse.result c.args.board.now after c.in-Err.ensures.fetched
          (c.refuse.ensures.step m here k));
      dropped = subst (λ (r : Result (Option Worked) Stop). IfOk r (λ o. IfSome o (λ w. IsDropped w.dropped))) is
          (of_gone (λ (w : Worked). IsDropped w.dropped) c.refuse.result c.refuse.ensures.dropped);
      roots = subst (λ (r : Result (Option Worked) Stop). IfOk r (λ o. IfSome o (λ w. RootsAs c.args.cpu.now w))) is
          (of_gone (λ (w : Worked). RootsAs c.args.cpu.now w) c.refuse.result c.refuse.ensures.roots);
      frame = c.refuse.ensures.frame ∙ c.fetch.ensures.frame;
    }

pub returns-then-is_native : goal.returns-then-is_native
returns-then-is_native g c =
    let start = g.M.GuestMem.space c.args.mem.now in
    let after_fetch = g.M.GuestMem.space c.fetch.new.mem in
    let after = g.M.GuestMem.space c.prepare.new.mem in
    record {
      uses = if_ok_on (c.args.cpu.now.cpl == 3) start after_fetch after c.prepare.result c.in-Ok-Insn.ensures.uses c.prepare.ensures.uses;
      tries = λ m b k. let here = record b { cpu = c.args.cpu.now; board = c.args.board.now } in
          tried_prepared m here start c.in-Ok-Insn.insn c.in-Ok-Insn.len after_fetch
          (rw c.in-Ok-Insn.field-0-is at c.in-Ok-Insn.ensures.fetched) (tried c.prepare.result c.prepare.new.worked) after
          (sym c.is_native.ensures ∙ c.if-is_native.true) (c.prepare.ensures.prepares m here k);
      dropped = c.prepare.ensures.dropped;
      roots = c.prepare.ensures.roots;
      frame = c.prepare.ensures.frame ∙ c.fetch.ensures.frame;
    }

pub returns-else-is_native : goal.returns-else-is_native
returns-else-is_native g c =
    let start = g.M.GuestMem.space c.args.mem.now in
    let after_fetch = g.M.GuestMem.space c.fetch.new.mem in
    let after = g.M.GuestMem.space c.carry_out.new.mem in
    let is = sym c.gone-else-is_native.ensures in
    record {
      uses = by_tried (Uses (c.args.cpu.now.cpl == 3) start after) c.gone-else-is_native.result c.gone-else-is_native.new.worked
          (subst (λ (r : Result (Option Worked) Stop). IfOk r (λ _. Uses (c.args.cpu.now.cpl == 3) start after)) is
          (if_gone (Uses (c.args.cpu.now.cpl == 3) start after) c.carry_out.result
          (if_ok_on (c.args.cpu.now.cpl == 3) start after_fetch after c.carry_out.result c.in-Ok-Insn.ensures.uses
          c.carry_out.ensures.uses)));
      tries = λ m b k. let here = record b { cpu = c.args.cpu.now; board = c.args.board.now } in
          subst (λ (r : Result (Option Worked) Stop). TriesAs m here start r c.carry_out.new.board after) is
          (tried_other m here start c.in-Ok-Insn.insn c.in-Ok-Insn.len after_fetch
          (rw c.in-Ok-Insn.field-0-is at c.in-Ok-Insn.ensures.fetched) c.carry_out.result c.carry_out.new.board after
          (sym c.is_native.ensures ∙ c.if-is_native.false) (c.carry_out.ensures.step m here k));
      dropped = subst (λ (r : Result (Option Worked) Stop). IfOk r (λ o. IfSome o (λ w. IsDropped w.dropped))) is
          (of_gone (λ (w : Worked). IsDropped w.dropped) c.carry_out.result c.carry_out.ensures.dropped);
      roots = subst (λ (r : Result (Option Worked) Stop). IfOk r (λ o. IfSome o (λ w. RootsAs c.args.cpu.now w))) is
          (of_gone (λ (w : Worked). RootsAs c.args.cpu.now w) c.carry_out.result c.carry_out.ensures.roots);
      frame = c.carry_out.ensures.frame ∙ c.fetch.ensures.frame;
    }
