use Rattle.std.proofs.Common.{ap, ◌∙◌}
use Rattle.pv_build.proofs.lines.too_small_line.Goals as goal

pub returns : goal.returns
returns c = ap (λ v. v.items) c.into_bytes.ensures.value ∙ c.in_ok-line.ensures.ok
