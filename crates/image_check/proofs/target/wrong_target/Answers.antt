use Rattle.std.proofs.Common.{sym, ◌∙◌, ℕ, false}
use Rattle.std.specs.Prelude.{slice_index_or}
use Rattle.plain_laws.proofs.Options.{not_some}
use Rattle.image_check.proofs.TargetSteps.{sought_wrong, sought_on, sought_none}
use Rattle.image_check.proofs.target.wrong_target.Goals as goal

pub returns-then-leads_wrong : goal.returns-then-leads_wrong
returns-then-leads_wrong c =
    let l = c.loop-piece in
    let there = sym c.piece_there.ensures.exact ∙ c.in-Some.is in
    let wrong = sym c.leads_wrong.ensures ∙ c.if-leads_wrong.true in
    sought_wrong (λ (k : ℕ). slice_index_or c.args.entrances.now k false) c.args.text.now l.at l.invariant.sought
    c.in-Some.piece there wrong

pub loop-piece-preserved : goal.loop-piece-preserved
loop-piece-preserved c =
    let l = c.loop-piece in
    let p = c.in-Some.piece in
    let there = sym c.piece_there.ensures.exact ∙ c.in-Some.is in
    let right = sym c.leads_wrong.ensures ∙ c.if-leads_wrong.false in
    record {
      sought = sought_on (λ (k : ℕ). slice_index_or c.args.entrances.now k false) c.args.text.now l.at l.invariant.sought p there right;
      within = c.in-Some.ensures.room.1;
    }

pub returns : goal.returns
returns c =
    let l = c.loop-piece in
    let none = sym c.piece_there.ensures.exact ∙ not_some c.piece_there.result c.in_default.not-Some in
    sought_none (λ (k : ℕ). slice_index_or c.args.entrances.now k false) c.args.text.now l.at l.invariant.sought none
