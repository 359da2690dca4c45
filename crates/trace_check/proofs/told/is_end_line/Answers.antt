use Rattle.std.proofs.Common.{◌≡◌, true, false, not, sym, ap, ◌∙◌, Bool}
use Rattle.std.specs.Prelude.{is_some}
use Rattle.run_trace.specs.declared.items.End.TheVariants.{Stopped}
use Rattle.run_trace.specs.Text.{end_line}
use Rattle.trace_check.proofs.Comparing.{put_from, agrees}
use Rattle.trace_check.proofs.told.is_end_line.Goals as goal

turned : (a b : Bool) → a ≡ not b → b ≡ not a
turned a true e = sym (ap not e)
turned a false e = sym (ap not e)

pub returns : goal.returns
returns c =
    let line = c.args.line.now in
    let whole = end_line c.args.steps (Stopped c.args.stop) in
    let known = put_from line whole c.new-out.result c.put_end.new.out c.put_end.result c.new-out.ensures c.put_end.ensures.ok
    c.put_end.ensures.failed c.put_end.ensures.cause c.difference.ensures.matched in
    turned (is_some c.difference.result) c.is_none.result c.is_none.ensures ∙ agrees line whole c.put_end.new.out c.difference.result known
    c.difference.ensures.difference
