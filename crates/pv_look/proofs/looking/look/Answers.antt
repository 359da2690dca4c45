use Rattle.std.proofs.Common.{ℕ, List, map, string_bytes}
use Rattle.wedge_core.specs.Counts.{Counts as HostCounts}
use Rattle.pv_tasks.specs.Beside.{beside}
use Rattle.pv_tasks.specs.Tasks.{Means, FaultCounts}
use Rattle.look_words.specs.Words.{Look, form_of}
use Rattle.look_words.specs.View.{look_view}
use Rattle.pv_look.specs.Looking.{task_of}
use Rattle.pv_look.proofs.Looked.{not_words, is_form, asks}
use Rattle.pv_look.proofs.looking.look.Goals as goal

pub returns-in-Some-clause-words : goal.returns-in-Some-clause-words
returns-in-Some-clause-words g c =
    let asked = look_view c.in-Some.asked in (
      (λ is. absurd (not_words (task_of asked)
          (beside g.F.Files g.S.Sink (c.args.files.now, c.look_up.new.files) (c.args.out.now, c.look_up.new.out)) c.look_up.result
          c.look_up.ensures.meaning is)),
      (λ none. absurd (is_form asked (form_of (map string_bytes c.args.words.now.items)) c.in-Some.ensures.form none)),
    )

pub returns-in-Some-clause-untouched : goal.returns-in-Some-clause-untouched
returns-in-Some-clause-untouched g c = λ is.
    absurd
    (not_words (task_of (look_view c.in-Some.asked))
    (beside g.F.Files g.S.Sink (c.args.files.now, c.look_up.new.files) (c.args.out.now, c.look_up.new.out)) c.look_up.result
    c.look_up.ensures.meaning is)

pub returns-in-Some-clause-meaning : goal.returns-in-Some-clause-meaning
returns-in-Some-clause-meaning g c =
    asks (λ (asked : Look). (completed : HostCounts) (memory : List ℕ)
    → Means (task_of asked) (beside g.F.Files g.S.Sink (c.args.files.now, c.look_up.new.files) (c.args.out.now, c.look_up.new.out) completed
    memory) c.look_up.result)
    (look_view c.in-Some.asked) (form_of (map string_bytes c.args.words.now.items)) c.in-Some.ensures.form c.look_up.ensures.meaning

pub returns-in-Some-clause-counts : goal.returns-in-Some-clause-counts
returns-in-Some-clause-counts g c =
    asks (λ (asked : Look). (completed : HostCounts) (memory : List ℕ)
    → FaultCounts (task_of asked)
    (beside g.F.Files g.S.Sink (c.args.files.now, c.look_up.new.files) (c.args.out.now, c.look_up.new.out) completed memory))
    (look_view c.in-Some.asked) (form_of (map string_bytes c.args.words.now.items)) c.in-Some.ensures.form c.look_up.ensures.counts
