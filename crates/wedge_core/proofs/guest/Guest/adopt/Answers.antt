use Rattle.std.proofs.Common.{ℕ, List, sym, subst}
use Rattle.std.proofs.lemmas.Result.{IfOk-from_err}
use Rattle.wedge_step.specs.Scene.{scene}
use Rattle.wedge_core.specs.Calls.{Adopts, MayAdopt, adopted}
use Rattle.wedge_core.proofs.guest.Guest.adopt.Goals as goal

pub adopt_in-requires : goal.adopt_in-requires
adopt_in-requires g c =
    record {
      may = subst (λ (l : List ℕ). MayAdopt c.args.image.now c.args.frames c.args.pool.now l)
          (sym c.ram_mut.ensures.ram) c.requires.may;
    }

pub returns-clause-adopts : goal.returns-clause-adopts
returns-clause-adopts g c =
    let image = c.args.image.now in
    let n = c.args.frames in
    let first = λ (l : List ℕ). adopted c.args.cpu c.args.board c.args.step n l in
    let pool = c.args.pool.now in
    let after = λ (k : List ℕ). scene c.in_ok-running.running c.adopt_in.new.pool k in
    subst (λ (k : List ℕ). Adopts image n (first (g.H.Host.bytes c.args.host.now)) pool (g.H.Host.bytes c.args.host.now) (after k))
    (sym (g.met.H.Host.bytes_changed c.args.host.now c.adopt_in.new.ram))
    (subst (λ (l : List ℕ). Adopts image n (first l) pool l (after c.adopt_in.new.ram)) c.ram_mut.ensures.ram
    c.in_ok-running.ensures.adopts)

pub returns-in_err-running-clause-adopts : goal.returns-in_err-running-clause-adopts
returns-in_err-running-clause-adopts g c = IfOk-from_err c.from_residual.result _ c.from_residual.ensures.0

pub returns-clause-started : goal.returns-clause-started
returns-clause-started g c = g.met.H.Host.started_so c.args.host.now c.adopt_in.new.ram

pub returns-in_err-running-clause-started : goal.returns-in_err-running-clause-started
returns-in_err-running-clause-started g c = g.met.H.Host.started_so c.args.host.now c.adopt_in.new.ram

pub returns-clause-counts : goal.returns-clause-counts
returns-clause-counts g c = record {
  retired = g.met.H.Host.retired_stays c.args.host.now c.adopt_in.new.ram;
  passed = g.met.H.Host.passed_stays c.args.host.now c.adopt_in.new.ram;
}

pub returns-in_err-running-clause-counts : goal.returns-in_err-running-clause-counts
returns-in_err-running-clause-counts g c = record {
  retired = g.met.H.Host.retired_stays c.args.host.now c.adopt_in.new.ram;
  passed = g.met.H.Host.passed_stays c.args.host.now c.adopt_in.new.ram;
}
