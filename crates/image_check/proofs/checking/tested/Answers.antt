use Rattle.std.proofs.Common.{◌≡◌, ℕ, List, ap, ◌∙◌}
use Rattle.guest_ram.specs.Among.{is_among}
use Rattle.elf_form.specs.ImageParts.{ImageParts}
use Rattle.image_check.specs.Sweep.{starts_of}
use Rattle.image_check.specs.Pieces.{all_pieces}
use Rattle.image_check.proofs.Offsets.{start_is}
use Rattle.image_check.proofs.checking.tested.Goals as goal

pub returns-clause-starts : goal.returns-clause-starts
returns-clause-starts c = λ i.
    let text : c.deref.result.now ≡ c.args.image.now.text =
    c.deref.ensures.value ∙ ap (λ (parts : ImageParts). parts.text) c.image.view_is in
    c.in_ok-swept.ensures.starts i
    ∙ start_is c.deref.result.now (all_pieces c.deref.result.now) i c.in_ok-swept.ensures.pieces
    ∙ ap (λ (bytes : List ℕ). is_among i (starts_of bytes)) text
