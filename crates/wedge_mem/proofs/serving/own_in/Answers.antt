use Rattle.std.proofs.Common.{refl, arith}
use Rattle.step_mem.specs.Sound.{space}
use Rattle.step_mem.specs.declared.state.StepState.{StepState}
use Rattle.wedge_mem.proofs.Plain.{own_two}
use Rattle.wedge_mem.proofs.serving.own_in.Goals as goal

pub returns-else-len-left-clause-owns : goal.returns-else-len-left-clause-owns
returns-else-len-left-clause-owns g c =
    let over = λ (state : StepState). space g.B.Translations c.args.base.now c.args.ram.now state in
    let past = c.if-len-left.false in
    own_two (over c.args.state.now) (over c.own_front-else-len-left.new.state) (over c.own_back.new.state) c.args.at c.args.len _ refl
    (omega (arith, past))
    c.own_front-else-len-left.ensures.owns c.own_back.ensures.owns
