-- Whose rules a step is under, and over which image.
use Rattle.std.specs.Prelude.{◌≡◌, Bool, true, false, is_some, IfSome}
use Rattle.paging.specs.Space.{Mode, Bare, Wedge}
use Rattle.machine_model.specs.State.{Setting}
use Rattle.machine_step.specs.declared.rules.Rules.{Rules}

-- a monitor's rules hold
abbrev pub has_rules : Mode → Bool
has_rules Bare = false
has_rules (Wedge text count own) = true

-- the rules of a setting are these: a monitor's, over the setting's image, or none
pub record IsRuled (m : Setting) (rules : Rules) : Type 0 where
  pub has : has_rules m.mode ≡ is_some rules.image
  pub over : IfSome rules.image (λ image. m.image ≡ image.now)
