use Rattle.std.proofs.Common.{◌≡◌, refl, sym, ◌∙◌}
use Rattle.pv_words.specs.declared.mode.RunMode.TheVariants as mode
use Rattle.pv_tasks.proofs.running.run_found.Goals as goal

-- the bare machine leaves the host as it was
pub returns-in-Bare-clause-host : goal.returns-in-Bare-clause-host
returns-in-Bare-clause-host g c = λ bare. refl

pub returns-in-Wedge-clause-host : goal.returns-in-Wedge-clause-host
returns-in-Wedge-clause-host g c = λ bare. absurd (let f : mode.Wedge ≡ mode.Bare = sym c.in-Wedge.is ∙ bare in cc)

pub returns-in-Bare-clause-answers : goal.returns-in-Bare-clause-answers
returns-in-Bare-clause-answers g c = rw c.in-Bare.is (c.run_bare.ensures.buffered, refl)

pub returns-in-Wedge-clause-answers : goal.returns-in-Wedge-clause-answers
returns-in-Wedge-clause-answers g c = rw c.in-Wedge.is c.patched_run.ensures
