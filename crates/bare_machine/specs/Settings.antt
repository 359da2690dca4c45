-- What the bare machine runs with.
use Rattle.std.specs.Prelude.{ℕ}
use Rattle.paging.specs.Space.{Bare}
use Rattle.board.specs.Scripts.{Events}
use Rattle.image_check.specs.Image.{Image}
use Rattle.machine_model.specs.State.{Setting}

-- what the bare machine runs with
abbrev pub bare : Image → Events → ℕ → Setting
bare image script frames = record { mode = Bare; image = image; script = script; frames = frames }
