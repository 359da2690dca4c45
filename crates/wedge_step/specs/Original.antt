-- The text that is kept from a guest.
use Rattle.std.specs.Prelude.{◌≡◌, Option, MatchOption}
use Rattle.ia32_types.specs.declared.addresses.TheConstants.{TEXT_FRAME}
use Rattle.image_check.specs.Image.{Image}
use Rattle.image_load.specs.Boot.{text_pages}
use Rattle.step_mem.specs.declared.guard.Text.{Text}

-- it is this image's, as it was before it was patched, from the frame of its first byte on
abbrev pub IsOriginal : Image → Option Text → Type 0
IsOriginal image text = MatchOption text ⊥ (λ t. (t.first ≡ TEXT_FRAME) × (t.count ≡ text_pages image) × (t.bytes.now ≡ image.text))
