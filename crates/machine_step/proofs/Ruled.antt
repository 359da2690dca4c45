-- What the rules come to, where a monitor's hold and where none do.
use Rattle.std.proofs.Common.{◌≡◌, ℕ, true, false, refl}
use Rattle.std.specs.Prelude.{◌&&◌, ◌||◌, not, ◌==◌}
use Rattle.paging.specs.Space.{Mode, Bare, Wedge}
use Rattle.descriptors.specs.declared.cpu.Cpu.{Cpu}
use Rattle.image_check.specs.Image.{Image}
use Rattle.machine_model.specs.Rules.{is_start, is_open, may_begin, may_leave}
use Rattle.machine_step.specs.Ruled.{has_rules}

pub begins_freely : (mode : Mode) (image : Image) (eip : ℕ) → has_rules mode ≡ false → may_begin mode image eip ≡ true
begins_freely Bare image eip h = refl
begins_freely (Wedge text count own) image eip h = absurd cc

pub begins_at_start : (mode : Mode) (image : Image) (eip : ℕ) → has_rules mode ≡ true → may_begin mode image eip ≡ is_start image eip
begins_at_start Bare image eip h = absurd cc
begins_at_start (Wedge text count own) image eip h = refl

pub leaves_freely : (mode : Mode) (cpu after : Cpu) → has_rules mode ≡ false → may_leave mode cpu after ≡ true
leaves_freely Bare cpu after h = refl
leaves_freely (Wedge text count own) cpu after h = absurd cc

pub leaves_open : (mode : Mode) (cpu after : Cpu) → has_rules mode ≡ true
    → may_leave mode cpu after ≡ (not (cpu.cpl == 0 && after.cpl == 3) || is_open after)
leaves_open Bare cpu after h = absurd cc
leaves_open (Wedge text count own) cpu after h = refl
