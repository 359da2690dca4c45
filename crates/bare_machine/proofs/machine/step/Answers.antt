use Rattle.std.proofs.Common.{◌≡◌, ◌∙◌, ap, sym, subst, refl}
use Rattle.board.specs.declared.devices.Board.{Board}
use Rattle.step_mem.specs.Sound.{space_at}
use Rattle.machine_model.specs.Step as steps
use Rattle.machine_model.specs.Step.{step_of, stepped, Halts}
use Rattle.machine_step.specs.Worked.{whats, completed_by, dropping, went_as}
use Rattle.machine_step.specs.Left.{left_of, left_from}
use Rattle.machine_step.specs.Raised.{raised_of, raised_from}
use Rattle.paging.specs.Space.{Space}
use Rattle.bare_machine.specs.Buffered.{LedTo, kept_by}
use Rattle.bare_machine.specs.Machine.{state_of, Goes}
use Rattle.bare_machine.specs.Once.{taken_in}
use Rattle.bare_machine.specs.Settings.{bare}
use Rattle.bare_machine.proofs.machine.step.Goals as goal

pub returns-in-Err-clause-comes : goal.returns-in-Err-clause-comes
unfolding step_of raised_of
returns-in-Err-clause-comes g c = λ image.
    let m = c.args.machine.now in
    let s = bare image c.args.script.now.list m.frames in
    let b = state_of g.C.Cache.entries m in
    let works = rw c.requires.same at c.tried-result.ensures.works image c.args.script.now.list b in
    let is : step_of s b b.set ≡ Halts c.in-Err.stop =
    subst (λ (d : Board). stepped s (record b { board = d }) ≡ Halts c.in-Err.stop) c.begin.ensures.given
    (rw c.in-Err.is at works.comes) in
    record {
      step = is;
      kept = ap (kept_by g.C.Cache.keeping b.set) is;
      raises = subst (λ (d : Board). c.tried-result.new.worked.raised ≡ raised_from s (record b { board = d })) c.begin.ensures.given
          works.raises;
    }

pub returns-in-Ok-clause-comes : goal.returns-in-Ok-clause-comes
unfolding step_of raised_of
returns-in-Ok-clause-comes g c = λ image.
    let m = c.args.machine.now in
    let e = g.C.Cache.entries in
    let s = bare image c.args.script.now.list m.frames in
    let b = state_of e m in
    let w = c.tried-result.new.worked in
    let x = space_at (λ _. e m.kept.cache) c.tried-result.new.ram c.tried-result.new.state in
    let left = record x { set = dropping w.dropped x.set } in
    let works = rw c.requires.same at c.tried-result.ensures.works image c.args.script.now.list b in
    let is = subst (λ (d : Board). stepped s (record b { board = d }) ≡ went_as b w c.tried-result.new.board x) c.begin.ensures.given
    (rw c.in-Ok.is at works.comes) in
    let done = completed_by w.completed in
    record {
      step = subst (λ (r : steps.Result). Goes r m.step (whats w.seen) (g.C.Cache.is_exact m.kept.cache)
          (state_of e c.finish_step.new.machine)) (sym is)
          (c.finish_step.ensures.goes (whats w.seen) done left c.tried-result.ensures.memory refl);
      kept = subst (λ (r : steps.Result). LedTo (kept_by g.C.Cache.keeping b.set r) m.step (whats w.seen)
          (state_of e c.finish_step.new.machine)) (sym is)
          (c.finish_step.ensures.kept (whats w.seen) done left c.tried-result.ensures.memory refl refl);
      raises = subst (λ (d : Board). w.raised ≡ raised_from s (record b { board = d })) c.begin.ensures.given works.raises;
    }

pub returns-in-Ok-clause-goes_on : goal.returns-in-Ok-clause-goes_on
returns-in-Ok-clause-goes_on g c =
    let on = c.finish_step.ensures.goes_on in
    record { kept = on.kept; frames = on.frames; size = on.size ∙ c.tried-result.ensures.size; exact = on.exact }

pub returns-in-Err-clause-stops : goal.returns-in-Err-clause-stops
unfolding left_of
returns-in-Err-clause-stops g c = λ image.
    let m = c.args.machine.now in
    let s = bare image c.args.script.now.list m.frames in
    let b = state_of g.C.Cache.entries m in
    let works = rw c.requires.same at c.tried-result.ensures.works image c.args.script.now.list b in
    let left : Space = space_at (λ _. g.C.Cache.entries m.kept.cache) c.tried-result.new.ram c.tried-result.new.state in
    record {
      memory = subst (λ (d : Board). left ≡ left_from s (record b { board = d })) c.begin.ensures.given works.leaves;
      board = subst (λ (d : Board). c.tried-result.new.board ≡ taken_in m.cpu d) c.begin.ensures.given
          (rw c.requires.same at c.in-Err.ensures.stopped);
      cpu = refl;
      kept = refl;
      wide = record { frames = refl; size = c.tried-result.ensures.size };
    }

pub returns-in-Ok-clause-count : goal.returns-in-Ok-clause-count
returns-in-Ok-clause-count g c = c.finish_step.ensures.count
