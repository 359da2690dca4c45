use Rattle.std.proofs.Common.{sym, ap, ◌∙◌}
use Rattle.trace_check.proofs.Keeping.{all_told, more_told}
use Rattle.trace_check.proofs.kept_notes.KeptNotes.choices.Goals as goal

pub returns-then-self : goal.returns-then-self
returns-then-self c =
    record { told = λ notes h. more_told c.args.self.now notes h (ap (λ k. k.more) (sym c.self.view_is) ∙ c.if-self.true) }

pub returns-else-self : goal.returns-else-self
returns-else-self c = record {
  told = λ notes h.
      let all = all_told c.args.self.now notes h (ap (λ k. k.more) (sym c.self.view_is) ∙ c.if-self.false) in
      (all.0, ap (λ k. k.list) c.self.view_is ∙ all.1);
}
