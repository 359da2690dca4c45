-- The stops that a monitor's rules add.
use Rattle.std.specs.Prelude.{Bool, true, false}
use Rattle.ia32_types.specs.declared.stop.Stop as reason
use Rattle.ia32_types.specs.declared.stop.Stop.TheVariants as stops

-- a stop that the bare machine hasn't
abbrev pub is_extra_stop : reason.Stop → Bool
is_extra_stop stops.TextTouched = true
is_extra_stop stops.WedgeTouched = true
is_extra_stop stops.LowTouched = true
is_extra_stop stops.NotAStart = true
is_extra_stop stops.TextMapped = true
is_extra_stop stops.TableInText = true
is_extra_stop stops.UserFlags = true
is_extra_stop stops.CodeIsTable = true
is_extra_stop _ = false
