use Rattle.std.proofs.Common.{refl, ap, ◌∙◌}
use Rattle.guest_ram.specs.Bytes.{byte}
use Rattle.wedge_step.specs.Standing.{ground}
use Rattle.wedge_step.proofs.Memories.{shown_is}
use Rattle.wedge_step.proofs.sight.byte.Goals as goal

pub returns : goal.returns
returns c =
    let a = c.args in
    c.read_laid.ensures
    ∙ ap (λ l. byte l a.at) (shown_is (ground a.view.now.image.now a.view.now.frames) c.text.result.now 256 a.view.now.ram.now
    c.text.ensures.text refl)
