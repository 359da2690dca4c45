-- The flags of registers by their bits, and the masks as numbers.
use Rattle.std.proofs.Common.{◌≡◌, refl, ℕ, [], ◌∷◌}
use Rattle.std.specs.Prelude.{◌^◌}
use Rattle.descriptors.specs.declared.controls.TheConstants.{CR0_PE, CR0_MP, CR0_EM, CR0_TS, CR0_ET, CR0_NE, CR0_WP, CR0_AM, CR0_PG, CR3_PWT, CR3_PCD, CR4_PSE, EFLAGS_TF, EFLAGS_IF, EFLAGS_IOPL, EFLAGS_NT}
use Rattle.descriptors.specs.Controls.{control_0_needed, control_0_refused, control_3_refused}

-- the flag of a bit
abbrev at : ℕ → ℕ
at bit = 2 ^ bit

pub control_0_flags :
    CR0_PE ∷ CR0_MP ∷ CR0_EM ∷ CR0_TS ∷ CR0_ET ∷ CR0_NE ∷ CR0_WP ∷ CR0_AM ∷ CR0_PG ∷ [] ≡ at 0 ∷ at 1 ∷ at 2 ∷ at 3 ∷ at 4 ∷ at 5 ∷ at
    16 ∷ at 18 ∷ at 31 ∷ []
control_0_flags = refl

pub other_flags :
    CR3_PWT ∷ CR3_PCD ∷ CR4_PSE ∷ EFLAGS_TF ∷ EFLAGS_IF ∷ EFLAGS_IOPL ∷ EFLAGS_NT ∷ [] ≡ at 3 ∷ at 4 ∷ at 4 ∷ at 8 ∷ at
    9 ∷ at 12 ∷ at 14 ∷ []
other_flags = refl

pub control_0_needed_is : control_0_needed ≡ 0x8000_0001
control_0_needed_is = refl

pub control_0_refused_is : control_0_refused ≡ 0x7FFA_FFC0
control_0_refused_is = refl

pub control_3_refused_is : control_3_refused ≡ 0xFE7
control_3_refused_is = refl
