-- Runs, one after the other: their steps, what was seen in them, and how many of their instructions were direct.
use Rattle.std.proofs.Common.{◌≡◌, ℕ, ◌+◌, List, [], ◌++◌, length, sym, ap, ◌∙◌, length-append, refl, arith}
use Rattle.machine_model.specs.State.{Setting}
use Rattle.machine_model.specs.Step.{Report}
use Rattle.machine_model.specs.Counts.{direct_addresses, passed_on}
use Rattle.machine_model.proofs.Runs.{addresses_join, passed_join}
pub use Rattle.machine_model.proofs.Runs.{steps_join, no_steps, steps_one, trace_join}
use Rattle.wedge_core.specs.Slices.{Counts, CountsOn}

pub counts_join : (m : Setting) (reports later : List Report) (a b c : Counts) → CountsOn m reports a b → CountsOn m later b c
    → CountsOn m (reports ++ later) a c
counts_join m reports later a b c p q =
    let first = direct_addresses m.image.sites reports in
    let rest = direct_addresses m.image.sites later in
    let is : direct_addresses m.image.sites (reports ++ later) ≡ first ++ rest = addresses_join m.image.sites reports later in
    let long : length (direct_addresses m.image.sites (reports ++ later)) ≡ length first + length rest =
    ap length is ∙ length-append first rest in
    record {
      retired = omega (arith, p.retired, q.retired, long);
      passed =
          q.passed ∙ (ap (λ (n : ℕ). passed_on n rest) p.passed
          ∙ (sym (passed_join a.passed first rest) ∙ ap (passed_on a.passed) (sym is)));
    }

pub counts_none : (m : Setting) (a : Counts) → CountsOn m [] a a
counts_none m a = record { retired = omega arith; passed = refl }
