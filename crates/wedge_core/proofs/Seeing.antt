-- The guest and its host stand abreast.
use Rattle.std.proofs.Common.{◌≡◌, ℕ, Bool, true, false, not, ◌⊎◌, inl, inr, refl, sym, subst}
use Rattle.std.specs.Prelude.{◌==◌}
use Rattle.std.proofs.lemmas.Bool.{eqb-true, not-false}
use Rattle.descriptors.specs.declared.cpu.Cpu.{Cpu}
use Rattle.shadow_tables.specs.declared.words.Side.{Side}
use Rattle.native_steps.specs.Mirrors.{Sees, IsLevelOf}
use Rattle.wedge_step.specs.Standing.{IsAble, side_of, is_kernel}
use Rattle.wedge_core.specs.Views.{view_by}

level_of : (cpl : ℕ) → (cpl ≡ 0) ⊎ (cpl ≡ 3) → IsLevelOf (not (cpl == 3)) cpl
level_of cpl (inl zero_is) = subst (λ (n : ℕ). IsLevelOf (not (n == 3)) n) (sym zero_is) refl
level_of cpl (inr three_is) = subst (λ (n : ℕ). IsLevelOf (not (n == 3)) n) (sym three_is) refl

three : (cpl : ℕ) → not (cpl == 3) ≡ false → cpl ≡ 3
three cpl h = eqb-true cpl 3 (not-false (cpl == 3) h)

-- the view shows what the processor has
pub sees : (directory : Side → ℕ) (cpu : Cpu) → IsAble cpu → Sees (view_by directory cpu) cpu
sees directory cpu able = record {
  level = level_of cpu.cpl able.level;
  es = refl;
  cs = refl;
  ss = refl;
  ds = refl;
  es_null = refl;
  cs_null = able.code;
  ss_null = able.stack;
  ds_null = refl;
  user_flags = λ h. able.users (three cpu.cpl h);
}

-- the view's side is the processor's
pub side_is : (cpu : Cpu) → is_kernel (side_of (cpu.cpl == 3)) ≡ not (cpu.cpl == 3)
side_is cpu = by (cpu.cpl == 3)
  where
    by : (b : Bool) → is_kernel (side_of b) ≡ not b
    by true = refl
    by false = refl
