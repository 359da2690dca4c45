use Rattle.std.proofs.Common.{List, ℕ, Ok, Err, subst}
use Rattle.board.specs.Scripts.{Events}
use Rattle.image_check.specs.Image.{Image}
use Rattle.trace_check.specs.declared.list.Choice.{Choice}
use Rattle.trace_check.specs.declared.answer.ReplayFault.{ReplayFault}
use Rattle.trace_check.specs.Replayed.{Replays}
use Rattle.pv_prove.proofs.ReplayMeanings.{tells_small, tells_verdict}
use Rattle.pv_prove.proofs.replaying.judge.Goals as goal

abbrev replays_at : Image → Events → ℕ → ℕ → List Choice → List ℕ → ReplayFault → Type 0
replays_at image events frames n list text fault = Replays image events frames n list text (Err fault)

pub returns-in-Ok-too_small_line : goal.returns-in-Ok-too_small_line
returns-in-Ok-too_small_line g c =
    let found = c.args.found.now in
    let of_text =
    subst (λ (t : List ℕ). replays_at found.runnable.image found.runnable.script.list c.args.frames c.args.n found.choices.list t
    c.in-Err.fault) c.deref.ensures.value c.in-Err.ensures.judged in
    let h = subst (replays_at found.runnable.image found.runnable.script.list c.args.frames c.args.n found.choices.list found.text.items)
    c.in-TooSmall.is of_text in
    tells_small c.args.frames c.args.n found.runnable.image found.runnable.script.list found.choices.list found.text.items _ _ _ _
    c.in-TooSmall.small c.in-Ok-too_small_line.line c.print.result h c.in-Ok-too_small_line.ensures c.print.ensures

pub returns-in-Ok-verdict_line : goal.returns-in-Ok-verdict_line
returns-in-Ok-verdict_line g c =
    let found = c.args.found.now in
    let h = subst (λ (t : List ℕ). Replays found.runnable.image found.runnable.script.list c.args.frames c.args.n found.choices.list t
    (Ok c.in-Ok.verdict)) c.deref.ensures.value c.in-Ok.ensures.judged in
    tells_verdict c.args.frames c.args.n found.runnable.image found.runnable.script.list found.choices.list found.text.items _ _ _ _
    c.in-Ok.verdict c.in-Ok-verdict_line.line c.print-in-Ok-verdict_line.result h c.in-Ok-verdict_line.ensures
    c.print-in-Ok-verdict_line.ensures
