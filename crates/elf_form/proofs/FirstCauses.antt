-- The first cause of a list by which a file is wrong, by its place in the list.
use Rattle.std.proofs.Common.{◌≡◌, ℕ, zero, suc, ◌<◌, List, [], ◌∷◌, Option, Some, None, refl, sym, ap, ◌∙◌, inl, inr, slice_get, arith}
use Rattle.elf_form.specs.Order.{IsFirstOf}

module _ (C : Type 0) (wrong : C → Option ℕ) where
  pub record FirstIn (cs : List C) (at : ℕ) (cause : C) : Type 0 where
    pub index : ℕ
    pub there : slice_get cs index ≡ Some cause
    pub is : wrong cause ≡ Some at
    pub before : (j : ℕ) (c : C) → j < index → slice_get cs j ≡ Some c → wrong c ≡ None

  pub first_in_list : (cs : List C) (at : ℕ) (cause : C) → IsFirstOf wrong cs at cause → FirstIn cs at cause
  first_in_list [] at cause h = absurd h
  first_in_list (c ∷ cs) at cause (inl here) = record {
    index = 0;
    there = ap (λ (d : C). Some d) (sym here.1);
    is = ap wrong here.1 ∙ here.0;
    before = λ j d lt there. absurd (omega (arith, lt));
  }
  first_in_list (c ∷ cs) at cause (inr later) =
      let more = first_in_list cs at cause later.1 in
      record { index = suc more.index; there = more.there; is = more.is; before = step more } where
        step : (more : FirstIn cs at cause) (j : ℕ) (d : C) → j < suc more.index → slice_get (c ∷ cs) j ≡ Some d → wrong d ≡ None
        step more zero d lt there = let same : c ≡ d = cc in ap wrong (sym same) ∙ later.0
        step more (suc j) d lt there = more.before j d (omega (arith, lt)) there

  pub list_first : (cs : List C) (at : ℕ) (cause : C) (index : ℕ) → slice_get cs index ≡ Some cause → wrong cause ≡ Some at
      → ((j : ℕ) (c : C) → j < index → slice_get cs j ≡ Some c → wrong c ≡ None) → IsFirstOf wrong cs at cause
  list_first [] at cause index there is before = absurd cc
  list_first (c ∷ cs) at cause zero there is before = let same : c ≡ cause = cc in inl (ap wrong same ∙ is, sym same)
  list_first (c ∷ cs) at cause (suc k) there is before =
      inr (before 0 c (omega arith) refl, list_first cs at cause k there is (λ j d lt later. before (suc j) d (omega (arith, lt)) later))
