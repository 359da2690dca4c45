-- A guest that may go on, on a host with this memory.
use Rattle.std.specs.Prelude.{◌≡◌, ℕ, List, true, Option, is_some}
use Rattle.frame_pool.specs.declared.Pool.{Pool}
use Rattle.host_cpl3.specs.Hosts.{held}
use Rattle.image_check.specs.Image.{Image}
use Rattle.wedge_core.specs.OfRoots.{of_roots}
use Rattle.wedge_step.specs.Ready.{IsReady}
use Rattle.wedge_step.specs.Standing.{IsHeld, IsAble, ground}
use Rattle.wedge_core.specs.declared.guest.Guest.{Guest}

-- The host is started, the guest's frames and its shadows' lie in its memory, what the shadows keep may be used, and the
-- processor is able to go on.
abbrev pub IsGoing : Image → Guest → Pool → Option (List ℕ) → Type 0
IsGoing image guest pool ram =
    (is_some ram ≡ true)
    × IsHeld of_roots (ground image guest.frames) guest pool (held ram)
    × IsReady of_roots (ground image guest.frames) guest.cpu guest.shadows (held ram)
    × IsAble guest.cpu
