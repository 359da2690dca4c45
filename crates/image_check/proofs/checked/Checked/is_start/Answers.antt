use Rattle.std.proofs.Common.{◌≡◌, length, ap, subst, ◌∙◌, nat_lt, arith}
use Rattle.std.specs.Prelude.{IsTrue, ◌↔◌}
use Rattle.std.specs.List.{Contains}
use Rattle.image_check.specs.Image.{Image}
use Rattle.image_check.specs.Sweep.{starts_of}
use Rattle.image_check.proofs.Starts.{start_flag, read_flag, past_flag}
use Rattle.image_check.proofs.checked.Checked.is_start.Goals as goal

pub returns-then-at-len : goal.returns-then-at-len
returns-then-at-len c =
    let at = c.args.at in
    let flag =
    read_flag c.self.inside.starts.items at c.index.result.now (omega (arith, c.if-at-len.true, c.len.ensures)) c.index.ensures in
    subst (λ (image : Image). IsTrue c.index.result.now ↔ Contains (starts_of image.text) at) c.self.view_is
    (start_flag _ at c.index.result.now (flag ∙ c.self.invariant.starts at))

pub returns-else-at-len : goal.returns-else-at-len
returns-else-at-len c =
    let at = c.args.at in
    let len : c.len.result ≡ length c.self.inside.starts.items = omega (arith, c.len.ensures) in
    let flag = past_flag c.self.inside.starts.items at (omega (arith, c.if-at-len.false, c.len.ensures)) in
    subst (λ (image : Image). IsTrue (nat_lt at c.len.result) ↔ Contains (starts_of image.text) at) c.self.view_is
    (start_flag _ at _ (ap (nat_lt at) len ∙ flag ∙ c.self.invariant.starts at))
