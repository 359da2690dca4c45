use Rattle.std.proofs.Common.{ap, ◌∙◌}
use Rattle.machine_model.specs.State.{space_at_start}
use Rattle.step_mem.specs.Shown.{hidden, shown}
use Rattle.step_mem.specs.declared.guard.Guard.{Guard}
use Rattle.step_mem.specs.declared.guard.Own.{Own}
use Rattle.wedge_step.proofs.Texts.{original_laid, original_mode, original_hidden, original_shown}
use Rattle.wedge_step.proofs.beginning.begin_over.Goals as goal

abbrev not_yet : Own
not_yet = record { front = 0; front_len = 0; back = 0; back_len = 0 }

pub begin_again-requires-clause-laid : goal.begin_again-requires-clause-laid
begin_again-requires-clause-laid g c = original_laid c.args.image.now c.args.text.now c.args.frames c.requires.text c.requires.room

pub returns-clause-space : goal.returns-clause-space
returns-clause-space g c =
    let a = c.args in
    c.begin_again.ensures.space
    ∙ (λ i. space_at_start (original_mode a.image.now a.text.now not_yet c.requires.text i) a.frames a.cpu.now
    (original_shown a.image.now a.text.now a.frames a.ram.now c.requires.text i) (g.B.Translations.entries a.kept.now a.ram.now))

pub returns-clause-hides : goal.returns-clause-hides
returns-clause-hides g c = λ n memory.
    ap (λ (x : Guard). hidden x n memory) c.begin_again.ensures.guard ∙ original_hidden c.args.image.now c.args.text.now n
    memory c.requires.text

pub returns-clause-lays : goal.returns-clause-lays
returns-clause-lays g c = λ n memory.
    ap (λ (x : Guard). shown x n memory) c.begin_again.ensures.guard ∙ original_shown c.args.image.now c.args.text.now n
    memory c.requires.text
