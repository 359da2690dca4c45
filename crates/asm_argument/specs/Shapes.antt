-- What may stand in each place of an argument, and what its parts are called.
use Rattle.std.specs.Prelude.{codes, nat_le, ◌==◌, ◌||◌, ℕ, ℤ, pos, ◌-ℤ◌, Bool, true, false, List, [], ◌∷◌, Some, None}
use Rattle.std.specs.List.{list_any}
use Rattle.asm_argument.specs.declared.shape.Shape.{Shape}
use Rattle.asm_argument.specs.declared.shape.Shape.TheVariants as shape
use Rattle.asm_source.specs.declared.tree.Value.{Value}
use Rattle.asm_source.specs.Names.{holds}

abbrev pub signed : Bool → ℕ → ℤ
signed true n = pos 0 -ℤ pos n
signed false n = pos n

abbrev pub named : List ℕ → ℤ → Value
named name z = record { name = Some name; number = z }

abbrev pub plain : ℤ → Value
plain z = record { name = None; number = z }

abbrev pub is_operand : Shape → Bool
is_operand shape.Operand = true
is_operand _ = false

abbrev pub takes_sums : Shape → Bool
takes_sums shape.Operand = true
takes_sums shape.Value = true
takes_sums _ = false

abbrev pub takes_names : Shape → Bool
takes_names shape.Name = true
takes_names sh = takes_sums sh

abbrev pub takes_numbers : Shape → Bool
takes_numbers shape.Name = false
takes_numbers shape.Text = false
takes_numbers _ = true

abbrev pub takes_minus : Shape → Bool
takes_minus shape.Alignment = false
takes_minus sh = takes_numbers sh

abbrev pub takes_text : Shape → Bool
takes_text shape.Text = true
takes_text _ = false

-- whether nothing at all may stand there
abbrev pub takes_absent : Shape → Bool
takes_absent shape.Fill = true
takes_absent _ = false

-- a power of two up to 4,096
abbrev pub is_alignment : ℕ → Bool
is_alignment n = list_any (λ k. k == n) (1 ∷ 2 ∷ 4 ∷ 8 ∷ 16 ∷ 32 ∷ 64 ∷ 128 ∷ 256 ∷ 512 ∷ 1024 ∷ 2048 ∷ 4096 ∷ [])

-- whether a number, or one after a minus, is of those that may stand there: no count is negative
abbrev pub fits : Shape → Bool → ℕ → Bool
fits shape.Count false n = true
fits shape.Count true n = n == 0
fits shape.Alignment false n = is_alignment n
fits shape.Alignment true n = n == 0
fits shape.Power false n = nat_le n 12
fits shape.Power true n = n == 0
fits _ negative n = true

abbrev pub is_low : ℕ → Bool
is_low n = nat_le n 0x80000000

-- The general registers of 8, 16 and 32 bits; the segment registers and the control registers.
unfoldable pub registers : List (List ℕ)
registers =
    codes "al" ∷ codes "cl" ∷ codes "dl" ∷ codes "bl" ∷ codes "ah" ∷ codes "ch" ∷ codes "dh" ∷ codes "bh" ∷
    codes "ax" ∷ codes "cx" ∷ codes "dx" ∷ codes "bx" ∷ codes "sp" ∷ codes "bp" ∷ codes "si" ∷ codes "di" ∷
    codes "eax" ∷ codes "ecx" ∷ codes "edx" ∷ codes "ebx" ∷ codes "esp" ∷ codes "ebp" ∷ codes "esi" ∷ codes "edi" ∷
    codes "es" ∷ codes "cs" ∷ codes "ss" ∷ codes "ds" ∷ codes "cr0" ∷ codes "cr2" ∷ codes "cr3" ∷ codes "cr4" ∷ []

unfoldable pub is_register : List ℕ → Bool
is_register name = holds registers name

abbrev pub is_scale : ℕ → Bool
is_scale n = (n == 1) || (n == 2) || (n == 4) || (n == 8)
