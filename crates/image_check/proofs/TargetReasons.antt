-- Where control comes in at no entrance.
use Rattle.std.proofs.Common.{◌≡◌, ℕ, Bool, true, false, not, ◌&&◌, cond, List, [], ◌∷◌, ◌++◌, map, Some, refl, sym, ap, ◌∙◌, inl, inr}
use Rattle.std.specs.List.{Contains}
use Rattle.std.proofs.lemmas.Bool.{cases_Bool, not-true, not-false, false_from_ne_true, both_ways}
use Rattle.elf_form.specs.ImageParts.{ImageParts}
use Rattle.sites.specs.declared.site.Site.{Site}
use Rattle.image_check.specs.Sweep.{Swept}
use Rattle.image_check.specs.Pieces.{is_nop, target_of, site_role, piece_of}
use Rattle.image_check.specs.Targets.{is_entrance, leads_wrong, wrong_target}
use Rattle.image_check.specs.Conditions.{entry_at, entry_start}
use Rattle.image_check.specs.Accepts.{IsEntrance}
use Rattle.image_check.specs.Reasons.{LeadsAstray}
use Rattle.image_check.proofs.Acceptance.{entrance_is, is_entrance_so, branch_role, other_leads}
use Rattle.image_check.proofs.Laid.{first_in, later_in, first_or_later, none_in}
use Rattle.ia32_types.specs.Branches.{is_direct_branch}
use Rattle.ia32_types.specs.Site.{sensitive_kind}
use Rattle.image_check.proofs.PlaceReasons.{some, bad_so, so_bad}
use Rattle.image_check.specs.declared.piece.Role.TheVariants as role

-- ---- branches

-- the same of a test of entrances
record Astray (entrance : ℕ → Bool) (swept : List Swept) (at : ℕ) : Type 0 where
  before : List Swept
  branch : Swept
  later : List Swept
  swept_are : swept ≡ before ++ branch ∷ later
  place : branch.at ≡ at
  direct : is_direct_branch branch.insn.op ≡ true
  astray : entrance (target_of branch.at branch.len branch.insn) ≡ false
  right : (s : Swept) → Contains before s → is_direct_branch s.insn.op ≡ true → entrance (target_of s.at s.len s.insn) ≡ true

abbrev joined : Swept → List Swept → List Swept
joined s ss = s ∷ ss

module _ (entrance : ℕ → Bool) where
  leads_by : (s : Swept) (b : Bool) → is_direct_branch s.insn.op ≡ b
      → leads_wrong entrance (piece_of s).role ≡ (b && not (entrance (target_of s.at s.len s.insn)))
  leads_by s true e = ap (leads_wrong entrance) (branch_role s e)
  leads_by s false e =
      ap (λ b. leads_wrong entrance
      (cond b (role.Branch (target_of s.at s.len s.insn)) (cond (is_nop s.insn.op) role.Nop (site_role (sensitive_kind s.insn))))) e
      ∙ other_leads entrance (is_nop s.insn.op) (sensitive_kind s.insn)

  one_right : (s : Swept) → leads_wrong entrance (piece_of s).role ≡ false → is_direct_branch s.insn.op ≡ true
      → entrance (target_of s.at s.len s.insn) ≡ true
  one_right s leads e = not-false _ (sym (leads_by s true e) ∙ leads)

  wrong_target_so : (swept : List Swept) (at : ℕ) → wrong_target entrance (map piece_of swept) ≡ Some at → Astray entrance swept at
  unfolding wrong_target
  wrong_target_so [] at e = absurd cc
  wrong_target_so (t ∷ rest) at e =
      elim (cases_Bool (leads_wrong entrance (piece_of t).role)) [
        | inl is ↦
            let e' : some t.at ≡ Some at = sym (ap (λ b. cond b (Some t.at) (wrong_target entrance (map piece_of rest))) is) ∙ e in
            let d = wrong_branch t is in
            record {
              before = [];
              branch = t;
              later = rest;
              swept_are = refl;
              place = cc;
              direct = d.0;
              astray = d.1;
              right = λ s c b. absurd (none_in s c);
            }
        | inr leads ↦
            let more = wrong_target_so rest at (sym (ap (λ b. cond b (Some t.at) (wrong_target entrance (map piece_of rest))) leads) ∙ e) in
            record {
              before = t ∷ more.before;
              branch = more.branch;
              later = more.later;
              swept_are = ap (joined t) more.swept_are;
              place = more.place;
              direct = more.direct;
              astray = more.astray;
              right = λ s c b. elim (first_or_later t more.before s c) [
                | inl same ↦ one_right s (ap (λ (u : Swept). leads_wrong entrance (piece_of u).role) (sym same) ∙ leads) b
                | inr c' ↦
                    more.right s c' b
              ];
            }
      ] where
        wrong_branch : (s : Swept) → leads_wrong entrance (piece_of s).role ≡ true → (is_direct_branch s.insn.op ≡ true)
            × (entrance (target_of s.at s.len s.insn) ≡ false)
        wrong_branch s is = by (is_direct_branch s.insn.op) refl where
          by : (b : Bool) → is_direct_branch s.insn.op ≡ b → (is_direct_branch s.insn.op ≡ true)
              × (entrance (target_of s.at s.len s.insn) ≡ false)
          by true e = (e, not-true _ (sym (leads_by s true e) ∙ is))
          by false e = absurd (both_ways _ (leads_by s false e) is)

  astray_first : (before : List Swept) (branch : Swept) (later : List Swept) → is_direct_branch branch.insn.op ≡ true
      → entrance (target_of branch.at branch.len branch.insn) ≡ false
      → ((s : Swept) → Contains before s → is_direct_branch s.insn.op ≡ true → entrance (target_of s.at s.len s.insn) ≡ true)
      → wrong_target entrance (map piece_of (before ++ branch ∷ later)) ≡ Some branch.at
  unfolding wrong_target
  astray_first [] branch later direct astray right =
      ap (λ b. cond b (Some branch.at) (wrong_target entrance (map piece_of later))) (leads_by branch true direct ∙ ap not astray)
  astray_first (t ∷ before) branch later direct astray right =
      ap (λ b. cond b (Some t.at) (wrong_target entrance (map piece_of (before ++ branch ∷ later))))
      (right_one t (right t (first_in t before)))
      ∙ astray_first before branch later direct astray (λ s c b. right s (later_in t before s c) b) where
        right_one : (s : Swept) → (is_direct_branch s.insn.op ≡ true → entrance (target_of s.at s.len s.insn) ≡ true)
            → leads_wrong entrance (piece_of s).role ≡ false
        right_one s h = by (is_direct_branch s.insn.op) refl where
          by : (b : Bool) → is_direct_branch s.insn.op ≡ b → leads_wrong entrance (piece_of s).role ≡ false
          by true e = leads_by s true e ∙ ap not (h e)
          by false e = leads_by s false e

module _ (swept : List Swept) (sites : List Site) (at : ℕ) where
  pub target_so : wrong_target (is_entrance (map piece_of swept) sites) (map piece_of swept) ≡ Some at → LeadsAstray swept sites at
  target_so e =
      let a = wrong_target_so (is_entrance (map piece_of swept) sites) swept at e in
      record {
        before = a.before;
        branch = a.branch;
        later = a.later;
        swept_are = a.swept_are;
        place = a.place;
        direct = a.direct;
        astray = λ h. both_ways _ a.astray (is_entrance_so swept sites (target_of a.branch.at a.branch.len a.branch.insn) h);
        right = λ s c b. entrance_is swept sites (target_of s.at s.len s.insn) (a.right s c b);
      }

  pub so_target : LeadsAstray swept sites at → wrong_target (is_entrance (map piece_of swept) sites) (map piece_of swept) ≡ Some at
  so_target h =
      ap (λ (ss : List Swept). wrong_target (is_entrance (map piece_of swept) sites) (map piece_of ss)) h.swept_are
      ∙ astray_first (is_entrance (map piece_of swept) sites) h.before h.branch h.later h.direct
      (false_from_ne_true _ (λ is. h.astray (entrance_is swept sites (target_of h.branch.at h.branch.len h.branch.insn) is)))
      (λ s c b. is_entrance_so swept sites (target_of s.at s.len s.insn) (h.right s c b))
      ∙ ap some h.place

-- ---- the entry

module _ (parts : ImageParts) (swept : List Swept) (sites : List Site) (at : ℕ) where
  pub entry_so : entry_start parts (map piece_of swept) sites ≡ Some at → (IsEntrance swept sites (entry_at parts) → ⊥)
      × (at ≡ entry_at parts)
  entry_so e =
      let h = bad_so _ (entry_at parts) at e in
      ((λ is. both_ways _ (not-true _ h.0) (is_entrance_so swept sites (entry_at parts) is)), h.1)

  pub so_entry : (IsEntrance swept sites (entry_at parts) → ⊥) × (at ≡ entry_at parts)
      → entry_start parts (map piece_of swept) sites ≡ Some at
  so_entry h = so_bad _ (entry_at parts) at (ap not (false_from_ne_true _ (λ is. h.0 (entrance_is swept sites (entry_at parts) is)))) h.1
