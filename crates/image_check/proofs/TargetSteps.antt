-- Going through the instructions of a text, and clearing flags.
use Rattle.std.proofs.Common.{◌≡◌, ℕ, ◌+◌, ◌<◌, ◌≤◌, Bool, true, false, not, ◌&&◌, List, [], ◌∷◌, length, nat_lt, min, Some, None, cond, refl, sym, ap, ◌∙◌, inl, inr, arith}
use Rattle.std.specs.Prelude.{slice_index_or}
use Rattle.std.proofs.lemmas.Bool.{cases_lt}
use Rattle.std.proofs.lemmas.Bool.Decides.{nat_tests}
use Rattle.std.proofs.lemmas.Grind.{common_steps}
use Rattle.image_check.specs.declared.piece.Role.{Role}
use Rattle.image_check.specs.declared.piece.Role.TheVariants as role
use Rattle.image_check.specs.declared.piece.Piece.{Piece}
use Rattle.image_check.specs.Targets.{leads_wrong, wrong_target}
use Rattle.image_check.specs.Pieces.{all_pieces}
use Rattle.image_check.specs.Stops.{piece_there, AreLeft}
use Rattle.image_check.proofs.Left.{Next, next_is, none_left}

below_both : (before len i k : ℕ) → min before len ≡ i → k < len → nat_lt k i ≡ nat_lt k before
below_both before len i k e lt = grind (arith, nat_tests)

past : (flags : List Bool) (k : ℕ) → length flags ≤ k → slice_index_or flags k false ≡ false
past flags k le = grind (arith, common_steps)

pub cleared : (old : List Bool) (behind before i k : ℕ) → min before (length old) ≡ i
    → (slice_index_or old k false && not (nat_lt behind k && nat_lt k i))
    ≡ (slice_index_or old k false && not (nat_lt behind k && nat_lt k before))
cleared old behind before i k e =
    elim (cases_lt k (length old)) [
      | inl lt ↦ ap (λ b. slice_index_or old k false && not (nat_lt behind k && b)) (below_both before (length old) i k e lt)
      | inr le ↦ ap (λ b. b && not (nat_lt behind k && nat_lt k i)) (past old k le)
          ∙ sym (ap (λ b. b && not (nat_lt behind k && nat_lt k before)) (past old k le))
    ]

first_is : (entrance : ℕ → Bool) (p : Piece) (rest : List Piece) → wrong_target entrance (p ∷ rest) ≡ cond (leads_wrong entrance p.role)
    (Some p.at) (wrong_target entrance rest)
unfolding wrong_target
first_is entrance p rest = refl

none_is : (entrance : ℕ → Bool) → wrong_target entrance [] ≡ None
unfolding wrong_target
none_is entrance = refl

-- Up to an offset no branch leads elsewhere.
pub record Sought (entrance : ℕ → Bool) (text : List ℕ) (at : ℕ) : Type 0 where
  pub rest : List Piece
  pub left : AreLeft text at rest
  pub same : wrong_target entrance rest ≡ wrong_target entrance (all_pieces text)

pub sought_first : (entrance : ℕ → Bool) (text : List ℕ) → AreLeft text 0 (all_pieces text) → Sought entrance text 0
sought_first entrance text left = record { rest = all_pieces text; left = left; same = refl }

module _ (entrance : ℕ → Bool) (text : List ℕ) (at : ℕ) (sought : Sought entrance text at) where
  pub sought_none : piece_there text at ≡ None → None ≡ wrong_target entrance (all_pieces text)
  sought_none none =
      sym (none_is entrance) ∙ sym (ap (wrong_target entrance) (none_left text at sought.rest sought.left none)) ∙ sought.same

  module _ (p : Piece) (there : piece_there text at ≡ Some p) where
    next : Next text at sought.rest p
    next = next_is text at sought.rest p sought.left there

    step : cond (leads_wrong entrance p.role) (Some p.at) (wrong_target entrance next.more) ≡ wrong_target entrance (all_pieces text)
    step = sym (first_is entrance p next.more) ∙ sym (ap (wrong_target entrance) next.is) ∙ sought.same

    pub sought_wrong : leads_wrong entrance p.role ≡ true → Some p.at ≡ wrong_target entrance (all_pieces text)
    sought_wrong e = sym (ap (λ b. cond b (Some p.at) (wrong_target entrance next.more)) e) ∙ step

    pub sought_on : leads_wrong entrance p.role ≡ false → Sought entrance text (at + p.len)
    sought_on e = record {
      rest = next.more;
      left = next.left;
      same = sym (ap (λ b. cond b (Some p.at) (wrong_target entrance next.more)) e) ∙ step;
    }

-- The same where control may come in gives the same branch.
leads_same : (f g : ℕ → Bool) → ((k : ℕ) → f k ≡ g k) → (p : Piece) → leads_wrong f p.role ≡ leads_wrong g p.role
leads_same f g same p = by_role p.role where
  by_role : (r : Role) → leads_wrong f r ≡ leads_wrong g r
  by_role (role.Branch target) = ap not (same target)
  by_role role.Plain = refl
  by_role role.Nop = refl
  by_role (role.Site kind) = refl

pub wrong_target-same : (f g : ℕ → Bool) → ((k : ℕ) → f k ≡ g k) → (ps : List Piece) → wrong_target f ps ≡ wrong_target g ps
unfolding wrong_target
wrong_target-same f g same [] = refl
wrong_target-same f g same (p ∷ ps) = ap (λ b. cond b (Some p.at) (wrong_target f ps)) (leads_same f g same p)
    ∙ ap (cond (leads_wrong g p.role) (Some p.at)) (wrong_target-same f g same ps)
