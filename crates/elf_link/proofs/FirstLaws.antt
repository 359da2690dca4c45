-- The steps of a search for the first answer.
use Rattle.std.proofs.Common.{◌≡◌, ℕ, ◌+◌, ◌<◌, ◌≤◌, true, false, List, length, get_or, drop, Option, Some, None, Ok, is_some, refl, ap, sym, ◌∙◌, subst}
use Rattle.std.proofs.lemmas.List.{at_drop_more, at_drop_all, get_or_default}
use Rattle.std.specs.Option.{option_or}
use Rattle.elf_link.specs.declared.fault.LinkFault.{LinkFault}
use Rattle.elf_link.specs.declared.fault.LinkFault.TheVariants as faults
use Rattle.elf_form.specs.Tables.{first_some}
use Rattle.elf_link.specs.Refusals.{Refused}
use Rattle.elf_link.specs.Steps.{tested}
use Rattle.elf_link.specs.Answers.{Fails}

module _ {X Y : Type 0} (f : X → Option Y) (xs : List X) (i : ℕ) where
  -- Nothing was found before i.
  abbrev pub Passed : Type 0
  Passed = first_some f (drop i xs) ≡ first_some f xs

  first_at : (x : X) → i < length xs → get_or xs i x ≡ x → first_some f (drop i xs) ≡ option_or (f x) (first_some f (drop (i + 1) xs))
  unfolding first_some
  first_at x lt e = at_drop_more (first_some f) xs i x lt ∙ ap (λ (y : X). option_or (f y) (first_some f (drop (i + 1) xs))) e

  pub first_here : (x : X) (y : Option Y) → i < length xs → get_or xs i x ≡ x → Passed → f x ≡ y → is_some y ≡ true → first_some f xs ≡ y
  first_here x (Some y) lt e passed found some =
      sym passed ∙ (first_at x lt e ∙ ap (λ (o : Option Y). option_or o (first_some f (drop (i + 1) xs))) found)
  first_here x None lt e passed found some = absurd (cc)

  pub first_next : (x : X) → i < length xs → get_or xs i x ≡ x → Passed → f x ≡ None → first_some f (drop (i + 1) xs) ≡ first_some f xs
  first_next x lt e passed none =
      ap (λ (o : Option Y). option_or o (first_some f (drop (i + 1) xs))) (sym none) ∙ (sym (first_at x lt e) ∙ passed)

  pub first_end : length xs ≤ i → Passed → first_some f xs ≡ None
  unfolding first_some
  first_end le passed = sym passed ∙ at_drop_all (first_some f) xs i le

-- a refusal of one item is the refusal of the list
module _ {X : Type 0} (f : X → Option Refused) (xs : List X) (i : ℕ) where
  fails_by : (x : X) (o : Option Refused) (e : LinkFault) → i < length xs → get_or xs i x ≡ x → Passed f xs i → f x ≡ o → Fails e (tested o)
      → Fails e (tested (first_some f xs))
  fails_by x o faults.Memory lt is passed found h = tt
  fails_by x None (faults.At object cause) lt is passed found h = absurd (cc)
  fails_by x (Some r) (faults.At object cause) lt is passed found h = ap tested (first_here f xs i x (Some r) lt is passed found refl) ∙ h

  pub fails_here : (x : X) (e : LinkFault) → i < length xs → get_or xs i x ≡ x → Passed f xs i → Fails e (tested (f x))
      → Fails e (tested (first_some f xs))
  fails_here x e lt is passed h = fails_by x (f x) e lt is passed refl h

none_from : (o : Option Refused) → tested o ≡ Ok tt → o ≡ None
none_from None h = refl
none_from (Some r) h = absurd (cc)

pub none_from_tested : (o : Option Refused) → tested o ≡ Ok tt → o ≡ None
none_from_tested o h = none_from o h

-- an item of a list that has another name
pub item : {X : Type 0} (xs ys : List X) (i : ℕ) (d x : X) → ys ≡ xs → i < length ys → x ≡ get_or ys i d → get_or xs i x ≡ x
item {X = X} xs ys i d x e lt is = ap (λ (zs : List X). get_or zs i x) (sym e) ∙ (get_or_default ys i x d lt ∙ sym is)

pub within : {X : Type 0} (xs ys : List X) (i : ℕ) → ys ≡ xs → i < length ys → i < length xs
within {X = X} xs ys i e lt = subst (λ (zs : List X). i < length zs) e lt

pub past : {X : Type 0} (xs ys : List X) (i : ℕ) → ys ≡ xs → length ys ≤ i → length xs ≤ i
past {X = X} xs ys i e le = subst (λ (zs : List X). length zs ≤ i) e le

pub none_is : {X : Type 0} (o : Option X) → is_some o ≡ false → o ≡ None
none_is None h = refl
none_is (Some x) h = absurd (cc)
