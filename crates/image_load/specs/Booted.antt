-- What is reported of a machine that is started: its processor, where its text stands, and its first free place.
use Rattle.std.specs.Prelude.{ℕ, ◌*◌}
use Rattle.ia32_types.specs.declared.addresses.TheConstants.{TEXT_PLACE}
use Rattle.image_check.specs.Image.{Image}
use Rattle.image_load.specs.declared.boot.Boot.{Boot}
use Rattle.image_load.specs.Boot.{boot_cpu, text_pages, need}

abbrev pub boot_of : Image → ℕ → Boot
boot_of image frames =
    record { cpu = boot_cpu image frames; text_at = TEXT_PLACE; text_frames = text_pages image; first_free = 4096 * need image }
