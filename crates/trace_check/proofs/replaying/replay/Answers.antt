use Rattle.std.proofs.Common.{◌≡◌, List, ap, subst, ◌∙◌}
use Rattle.trace_check.specs.declared.list.Choice.{Choice}
use Rattle.trace_check.specs.Replayed.{Replays}
use Rattle.trace_check.proofs.Judging.{whole_replayed, before_replayed}
use Rattle.trace_check.proofs.replaying.replay.Goals as goal

pub returns-in-None : goal.returns-in-None
returns-in-None c = record {
  judged =
      let list : c.deref.result.now ≡ c.args.choices.now.list = c.deref.ensures.value ∙ ap (λ v. v.list) c.choices.view_is in
      subst (λ (l : List Choice). Replays c.args.image.now c.args.script.now.list c.args.frames c.args.n l c.args.text.now c.judge.result)
      list
      (whole_replayed c.args.image.now c.args.script.now.list c.args.frames c.args.n c.deref.result.now c.args.text.now c.judge.result
      c.in-None.ensures c.judge.ensures);
}

pub returns-in-Some : goal.returns-in-Some
returns-in-Some c = record {
  judged =
      let list : c.deref-in-Some.result.now ≡ c.args.choices.now.list =
      c.deref-in-Some.ensures.value ∙ ap (λ v. v.list) c.choices.view_is in
      let told = c.in-Some.ensures in
      subst (λ (l : List Choice). Replays c.args.image.now c.args.script.now.list c.args.frames c.args.n l c.args.text.now
      c.judge-in-Some.result) list
      (before_replayed c.args.image.now c.args.script.now.list c.args.frames c.args.n c.in-Some.told c.deref-in-Some.result.now
      c.args.text.now c.judge-in-Some.result told.0 told.1 told.3 c.judge-in-Some.ensures);
}
