-- Each step counts.
use Rattle.std.proofs.Common.{ℕ, ◌+◌, Option, refl}
use Rattle.paging.specs.Space.{Space}
use Rattle.board.specs.Boards.{given}
use Rattle.machine_model.specs.State.{Setting, State}
use Rattle.machine_model.specs.Step.{Result, unheld, step_of}
use Rattle.machine_model.specs.Ends.{StepsTo, EachStepCounts}
use Rattle.machine_model.proofs.Goes.{Fetch, Goes, Steps, steps}

of_goes : (m : Setting) (b : State) (f : Fetch) (r : Result) → Goes m b f r → StepsTo (b.step + 1) r
of_goes m b f r (Goes.stops stop) = tt
of_goes m b f r (Goes.enters c base vector kind code t cpu u is h k e) = refl
of_goes m b f r (Goes.does insn d u h whats cpu board set e less) = refl

of_steps : (m : Setting) (b : State) (o : Option ℕ) (s : Space) (r : Result) → Steps m b o s r → StepsTo (b.step + 1) r
of_steps m b o s r (Steps.stops stop) = tt
of_steps m b o s r (Steps.rests halted) = refl
of_steps m b o s r (Steps.takes v cpu u e) = refl
of_steps m b o s r (Steps.fetches x quiet awake well h) = of_goes m b _ x h

pub each_counts : EachStepCounts
unfolding step_of
each_counts m b set =
    let now : State = record b { board = given b.board m.script b.step; set = set } in
    of_steps m (unheld now) _ _ _ (steps m now)
