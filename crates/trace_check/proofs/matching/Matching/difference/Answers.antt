use Rattle.std.proofs.Common.{◌≡◌, ◌≢◌, ℕ, length, take, true, not, Option, None, ap, subst, ◌∙◌}
use Rattle.std.specs.Prelude.{is_some}
use Rattle.trace_check.specs.Matches.{Matched, DiffersAt, line_behind}
use Rattle.trace_check.proofs.Differing.{differs_at}
use Rattle.trace_check.proofs.matching.Matching.difference.Goals as goal
use Rattle.trace_check.proofs.matching.Matching.difference.Goals.{else-is_none-via-then-is_none+else-self, else-is_none-via-else-is_none}

some_or : (wrong : Option ℕ) → is_some wrong ≡ true → wrong ≡ None → ⊥
some_or wrong some none = cc (some, ap is_some none)

pub returns-clause-difference : goal.returns-clause-difference
returns-clause-difference c =
    let m : Matched =
    record { text = c.self.inside.text.now; at = c.self.inside.at; wrong = c.self.inside.wrong; faults = c.self.inside.faults } in
    let other : m.wrong ≡ None → m.at ≢ length m.text =
    elim c.else-is_none.branch [
      | else-is_none-via-then-is_none+else-self w ↦ λ none. w.if-self.false
      | else-is_none-via-else-is_none w ↦ λ none. absurd (some_or m.wrong (c.is_none.ensures ∙ ap not w.if-is_none.false) none)
    ] in
    rw c.line_behind.ensures
    (subst (λ (x : Matched). DiffersAt x (line_behind (take m.at m.text))) c.self.view_is (differs_at m c.self.invariant other))
