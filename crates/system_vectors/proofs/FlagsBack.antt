-- IRET gives a handler's flags back those of the interrupted program.
use Rattle.std.proofs.Common.{◌≡◌, ℕ, ◌-◌, ◌*◌, ◌%◌, ◌^◌, ◌<◌, Bool, true, false, ◌||◌, arith, refl, sym, ap, ◌∙◌, subst}
use Rattle.std.specs.Int.Bits.{bit_and}
use Rattle.std.proofs.lemmas.Nat.{and_assoc}
use Rattle.ia32_types.specs.declared.flags.Flags.{Flags}
use Rattle.ia32_types.specs.Bits.{bit, with_bit}
use Rattle.ia32_types.proofs.FlagBits.{cleared_is}
use Rattle.ia32_types.proofs.OneBit.{bit_other, with_bit_same, with_bit_twice}
use Rattle.ia32_exec.specs.Stack.{is_foreign, taken}
use Rattle.event_entry.specs.Deliver.{flags_kept}

-- a bit that is clear, cleared
clear : (f at : ℕ) → bit f at ≡ false → with_bit f at false ≡ f
clear f at e = subst (λ b. with_bit f at b ≡ f) e (with_bit_same f at)

cleared : (f at m : ℕ) → f < 2 ^ 32 → at < 32 → m ≡ 2 ^ 32 - 1 - 1 * 2 ^ at % 2 ^ 32 → bit_and f m ≡ with_bit f at false
cleared f at m small h e = rw e (cleared_is f at small h)

stays : (f at m : ℕ) → f < 2 ^ 32 → at < 32 → m ≡ 2 ^ 32 - 1 - 1 * 2 ^ at % 2 ^ 32 → bit f at ≡ false → bit_and f m ≡ f
stays f at m small h e c = cleared f at m small h e ∙ clear f at c

-- TF and NT are clear, so the gate that keeps IF changes no flag
pub kept_all : (f : ℕ) → f < 2 ^ 32 → bit f 8 ≡ false → bit f 14 ≡ false → bit_and f 0xFFFF_BEFF ≡ f
kept_all f small t n =
    let split : bit_and 0xFFFF_FEFF 0xFFFF_BFFF ≡ 0xFFFF_BEFF = refl in
    ap (bit_and f) (sym split) ∙ sym (and_assoc 0xFFFF_BFFF f 0xFFFF_FEFF)
    ∙ ap (λ x. bit_and x 0xFFFF_BFFF) (stays f 8 0xFFFF_FEFF small (omega arith) refl t)
    ∙ stays f 14 0xFFFF_BFFF small (omega arith) refl n

-- and the other gate clears IF alone
pub interrupts_off : (f : ℕ) → f < 2 ^ 32 → bit f 8 ≡ false → bit f 14 ≡ false → bit_and f 0xFFFF_BCFF ≡ with_bit f 9 false
interrupts_off f small t n =
    let split : bit_and 0xFFFF_BEFF 0xFFFF_FDFF ≡ 0xFFFF_BCFF = refl in
    ap (bit_and f) (sym split) ∙ sym (and_assoc 0xFFFF_FDFF f 0xFFFF_BEFF)
    ∙ ap (λ x. bit_and x 0xFFFF_FDFF) (kept_all f small t n)
    ∙ cleared f 9 0xFFFF_FDFF small (omega arith) refl

-- a flag that is given what it is
put_same : (f at : ℕ) (b : Bool) → bit f at ≡ b → with_bit f at b ≡ f
put_same f at b e = subst (λ x. with_bit f at x ≡ f) e (with_bit_same f at)

seven : (g f : ℕ) → bit g 0 ≡ bit f 0 → bit g 2 ≡ bit f 2 → bit g 4 ≡ bit f 4 → bit g 6 ≡ bit f 6 → bit g 7 ≡ bit f 7 → bit g 10 ≡ bit f 10
    → bit g 11 ≡ bit f 11 →
    with_bit (with_bit (with_bit (with_bit (with_bit (with_bit (with_bit g 0 (bit f 0)) 2 (bit f 2)) 4 (bit f 4)) 6 (bit f 6)) 7 (bit f 7))
    10 (bit f 10)) 11 (bit f 11) ≡ g
seven g f a b c d e h i =
    ap (λ x. with_bit (with_bit (with_bit (with_bit (with_bit (with_bit x 2 (bit f 2)) 4 (bit f 4)) 6 (bit f 6)) 7 (bit f 7)) 10 (bit f 10))
    11 (bit f 11)) (put_same g 0 _ a)
    ∙ ap (λ x. with_bit (with_bit (with_bit (with_bit (with_bit x 4 (bit f 4)) 6 (bit f 6)) 7 (bit f 7)) 10 (bit f 10)) 11 (bit f 11))
    (put_same g 2 _ b)
    ∙ ap (λ x. with_bit (with_bit (with_bit (with_bit x 6 (bit f 6)) 7 (bit f 7)) 10 (bit f 10)) 11 (bit f 11)) (put_same g 4 _ c)
    ∙ ap (λ x. with_bit (with_bit (with_bit x 7 (bit f 7)) 10 (bit f 10)) 11 (bit f 11)) (put_same g 6 _ d)
    ∙ ap (λ x. with_bit (with_bit x 10 (bit f 10)) 11 (bit f 11)) (put_same g 7 _ e)
    ∙ ap (λ x. with_bit x 11 (bit f 11)) (put_same g 10 _ h)
    ∙ put_same g 11 _ i

-- the flags that every level pops, from an image that differs in IF alone
taken_off : (f : ℕ) → (taken (record { bits = with_bit f 9 false }) f).bits ≡ with_bit f 9 false
unfolding taken
taken_off f =
    seven (with_bit f 9 false) f
    (bit_other f 9 0 false (omega arith)) (bit_other f 9 2 false (omega arith)) (bit_other f 9 4 false (omega arith))
    (bit_other f 9 6 false (omega arith)) (bit_other f 9 7 false (omega arith)) (bit_other f 9 10 false (omega arith))
    (bit_other f 9 11 false (omega arith))

taken_same : (f : ℕ) → (taken (record { bits = f }) f).bits ≡ f
unfolding taken
taken_same f = seven f f refl refl refl refl refl refl refl

-- IF and IOPL, which IRET pops at level 0
abbrev all_taken : ℕ → ℕ → ℕ
all_taken g f = with_bit (with_bit (with_bit (taken (record { bits = g }) f).bits 9 (bit f 9)) 12 (bit f 12)) 13 (bit f 13)

levels : (f : ℕ) → with_bit (with_bit f 12 (bit f 12)) 13 (bit f 13) ≡ f
levels f = ap (λ x. with_bit x 13 (bit f 13)) (with_bit_same f 12) ∙ with_bit_same f 13

from_same : (f : ℕ) → all_taken f f ≡ f
from_same f =
    ap (λ x. with_bit (with_bit (with_bit x 9 (bit f 9)) 12 (bit f 12)) 13 (bit f 13)) (taken_same f)
    ∙ ap (λ x. with_bit (with_bit x 12 (bit f 12)) 13 (bit f 13)) (with_bit_same f 9)
    ∙ levels f

from_off : (f : ℕ) → all_taken (with_bit f 9 false) f ≡ f
from_off f =
    ap (λ x. with_bit (with_bit (with_bit x 9 (bit f 9)) 12 (bit f 12)) 13 (bit f 13)) (taken_off f)
    ∙ ap (λ x. with_bit (with_bit x 12 (bit f 12)) 13 (bit f 13)) (with_bit_twice f 9 false (bit f 9) ∙ with_bit_same f 9)
    ∙ levels f

pub flags_back : (f : ℕ) (keeps : Bool) → f < 2 ^ 32 → bit f 8 ≡ false → bit f 14 ≡ false → all_taken (bit_and f (flags_kept keeps)) f ≡ f
flags_back f true small t n = ap (λ g. all_taken g f) (kept_all f small t n) ∙ from_same f
flags_back f false small t n = ap (λ g. all_taken g f) (interrupts_off f small t n) ∙ from_off f

or_left : (a b : Bool) → (a || b) ≡ false → a ≡ false
or_left true b e = e
or_left false b e = refl

or_right : (a b : Bool) → (a || b) ≡ false → b ≡ false
or_right true b e = absurd (cc)
or_right false b e = e

-- an image that IRET takes has TF and NT clear
pub no_trap : (f : ℕ) → is_foreign f ≡ false → bit f 8 ≡ false
no_trap f e = or_left (bit f 8) _ (or_left _ _ (or_left _ _ (or_left _ _ (or_left _ _ (or_left _ _ e)))))

pub no_nesting : (f : ℕ) → is_foreign f ≡ false → bit f 14 ≡ false
no_nesting f e = or_right (bit f 8) _ (or_left _ _ (or_left _ _ (or_left _ _ (or_left _ _ (or_left _ _ e)))))
