-- Each refusal comes exactly where its condition holds.
use Rattle.std.proofs.Common.{◌≡◌, ℕ, Bool, true, false, cond, List, Option, Some, None, Result, Ok, Err, refl, sym, ap, subst, ◌∙◌, ◌⊎◌, inl, inr}
use Rattle.std.specs.Prelude.{◌↔◌}
use Rattle.ia32_types.specs.declared.site.Refused.{Refused}
use Rattle.ia32_encode.specs.declared.bytes.ArrayBytes.{ArrayBytes}
use Rattle.ia32_encode.specs.Chosen.{chosen}
use Rattle.ia32_encode.specs.Good.{SpellsWide, chosen_bytes}
use Rattle.ia32_encode.proofs.Laid.{none_spells}
use Rattle.ia32_encode.proofs.Taking.{none_suit, chosen_good}
use Rattle.asm_source.specs.declared.tree.Argument.{Argument}
use Rattle.asm_instruction.specs.declared.draft.Draft.{Draft}
use Rattle.asm_instruction.specs.declared.mnemonic.Mnemonic.{Mnemonic}
use Rattle.asm_instruction.specs.declared.assembled.Assembled.{Assembled}
use Rattle.asm_instruction.specs.declared.assembled.Refusal.{Refusal}
use Rattle.asm_instruction.specs.declared.assembled.Refusal.TheVariants as refusal
use Rattle.asm_instruction.specs.declared.argument.Operands.{Operands}
use Rattle.asm_instruction.specs.Names.{found, ◌>>=◌}
use Rattle.asm_instruction.specs.Argument.{operands_of}
use Rattle.asm_instruction.specs.Refused.{refused_names}
use Rattle.asm_instruction.specs.Mnemonic.{known_name, drafted}
use Rattle.asm_instruction.specs.Assembled.{widths, whole, with_spelling, spelled, drafted_of, by_mnemonic, assembled}
use Rattle.asm_instruction.specs.Refusals.{IsName, IsRefused, IsUnknown, Means, IsWithoutRow, HasUnfitNumber, numbers}
use Rattle.asm_instruction.proofs.Goods.{When, DraftGood}
use Rattle.asm_instruction.proofs.Naming.{known_good}
use Rattle.asm_instruction.proofs.Answered.{drafted_of_good}
use Rattle.asm_instruction.proofs.Fitting.{all_fit, one_unfit, unfit_all}
use Rattle.asm_instruction.proofs.Ranges.{drafted_fit}
use Rattle.asm_instruction.proofs.KnownNames.{known_named, named_known, refused_found, found_refused, not_both}

module _ (rep : Bool) (name : List ℕ) (args : List Argument) where
  -- ---- what a statement gives, from its name and from what it means

  refused_gives : IsRefused name → assembled rep name args ≡ Err refusal.RefusedInstruction
  unfolding assembled
  refused_gives h = rw (refused_found name h) refl

  allowed : (IsRefused name → ⊥) → found refused_names name ≡ None
  allowed h = by_found (found refused_names name) refl
    where
      by_found : (o : Option Refused) → found refused_names name ≡ o → found refused_names name ≡ None
      by_found None e = e
      by_found (Some r) e = absurd (h (found_refused name r e))

  unknown : ((m : Mnemonic) → IsName name m → ⊥) → known_name name ≡ None
  unknown h = by_known (known_name name) refl
    where
      by_known : (o : Option Mnemonic) → known_name name ≡ o → known_name name ≡ None
      by_known None e = e
      by_known (Some m) e = absurd (h m (known_named name m e))

  unknown_gives : IsUnknown name → assembled rep name args ≡ Err refusal.UnknownInstruction
  unfolding assembled
  unknown_gives u = rw (allowed u.not_refused, unknown u.not_named) refl

  named_gives : (m : Mnemonic) → IsName name m → assembled rep name args ≡ by_mnemonic rep m args
  unfolding assembled
  named_gives m n = rw (allowed (λ h. not_both name m h n), named_known name m n) refl

  undrafted_gives : (m : Mnemonic) → drafted_of rep m args ≡ None → by_mnemonic rep m args ≡ Err refusal.Operands
  unfolding by_mnemonic
  undrafted_gives m e = rw e refl

  drafted_gives : (m : Mnemonic) (d : Draft) → drafted_of rep m args ≡ Some d → by_mnemonic rep m args ≡ with_spelling d (widths d args)
      (chosen (widths d args) d.insn)
  unfolding by_mnemonic spelled
  drafted_gives m d e = rw e refl

  means_gives : (d : Draft) → Means rep name args d → assembled rep name args ≡ with_spelling d (widths d args)
      (chosen (widths d args) d.insn)
  means_gives d h = named_gives h.mnemonic h.named ∙ drafted_gives h.mnemonic d h.drafted

  -- ---- what a statement means

  same_name : (m n : Mnemonic) → IsName name m → IsName name n → m ≡ n
  same_name m n h k = let both : Some m ≡ Some n = sym (named_known name m h) ∙ named_known name n k in cc

  meant : (m : Mnemonic) (d : Draft) → IsName name m → Means rep name args d → drafted_of rep m args ≡ Some d
  meant m d n h = ap (λ (x : Mnemonic). drafted_of rep x args) (same_name m h.mnemonic n h.named) ∙ h.drafted

  same_draft : (d e : Draft) → Means rep name args d → Means rep name args e → d ≡ e
  same_draft d e h k = let both : Some d ≡ Some e = sym h.drafted ∙ meant h.mnemonic e h.named k in cc

  spelled_by_row : (m : Mnemonic) (d : Draft) (a : ArrayBytes) → IsName name m → drafted_of rep m args ≡ Some d
      → chosen (widths d args) d.insn ≡ Some a → SpellsWide (widths d args) (chosen_bytes a) d.insn
  spelled_by_row m d a n e c =
      let good : DraftGood args d =
      subst (When (DraftGood args)) e (drafted_of_good args rep m (subst (When _) (named_known name m n) (known_good name))) in
      (chosen_good (widths d args) d.insn a c good.bounded).spells

  undrafted_rowless : (m : Mnemonic) → IsName name m → drafted_of rep m args ≡ None → IsWithoutRow rep name args
  undrafted_rowless m n e = record {
    mnemonic = m;
    named = n;
    none = λ d bytes h s. let both : None ≡ Some d = sym e ∙ meant m d n h in absurd cc;
  }

  unspelled_rowless : (d : Draft) → Means rep name args d → chosen (widths d args) d.insn ≡ None → IsWithoutRow rep name args
  unspelled_rowless d h c = record {
    mnemonic = h.mnemonic;
    named = h.named;
    none = λ e bytes k s.
        let other : SpellsWide (widths d args) bytes d.insn =
        subst (λ (x : Draft). SpellsWide (widths x args) bytes x.insn) (sym (same_draft d e h k)) s in
        none_spells (widths d args) d.insn (none_suit (widths d args) d.insn c) bytes other;
  }

  pub rowless_gives : IsWithoutRow rep name args → assembled rep name args ≡ Err refusal.Operands
  rowless_gives w = named_gives w.mnemonic w.named ∙ by_drafted (drafted_of rep w.mnemonic args) refl
    where
      by_chosen : (d : Draft) → drafted_of rep w.mnemonic args ≡ Some d → (o : Option ArrayBytes) → chosen (widths d args) d.insn ≡ o
          → by_mnemonic rep w.mnemonic args ≡ Err refusal.Operands
      by_chosen d e None c = drafted_gives w.mnemonic d e ∙ ap (with_spelling d (widths d args)) c
      by_chosen d e (Some a) c =
          let h : Means rep name args d = record { mnemonic = w.mnemonic; named = w.named; drafted = e } in
          absurd (w.none d (chosen_bytes a) h (spelled_by_row w.mnemonic d a w.named e c))

      by_drafted : (o : Option Draft) → drafted_of rep w.mnemonic args ≡ o → by_mnemonic rep w.mnemonic args ≡ Err refusal.Operands
      by_drafted None e = undrafted_gives w.mnemonic e
      by_drafted (Some d) e = by_chosen d e (chosen (widths d args) d.insn) refl

  -- ---- the numbers

  given_there : (m : Mnemonic) (d : Draft) → drafted_of rep m args ≡ Some d → (os : Operands) × (operands_of args ≡ Some os)
      × (drafted rep m os ≡ Some d)
  unfolding drafted_of
  given_there m d e = by_given (operands_of args) refl e
    where
      by_given : (o : Option Operands) → operands_of args ≡ o → (o >>= λ os. drafted rep m os) ≡ Some d → (os : Operands)
          × (operands_of args ≡ Some os) × (drafted rep m os ≡ Some d)
      by_given None q e = absurd cc
      by_given (Some os) q e = (os, q, e)

  draft_fits : (m : Mnemonic) (d : Draft) (os : Operands) → drafted_of rep m args ≡ Some d → operands_of args ≡ Some os
      → d.fits ≡ all_fit (numbers m.family d.insn.size os)
  draft_fits m d os e q =
      let there = given_there m d e in
      let both : Some there.0 ≡ Some os = sym there.1 ∙ q in
      let same : there.0 ≡ os = cc in
      drafted_fit rep m os d (subst (λ (x : Operands). drafted rep m x ≡ Some d) same there.2)

  unfit_draft : (u : HasUnfitNumber rep name args) → u.draft.fits ≡ false
  unfit_draft u = draft_fits u.means.mnemonic u.draft u.given u.means.drafted u.written
      ∙ unfit_all (numbers u.means.mnemonic.family u.draft.insn.size u.given) (u.field, u.number) u.stands u.unfit

  draft_unfit : (d : Draft) → Means rep name args d → d.fits ≡ false → HasUnfitNumber rep name args
  draft_unfit d h f =
      let there = given_there h.mnemonic d h.drafted in
      let one = one_unfit (numbers h.mnemonic.family d.insn.size there.0) (sym (draft_fits h.mnemonic d there.0 h.drafted there.1) ∙ f) in
      record { draft = d; means = h; given = there.0; written = there.1; field = one.0.0; number = one.0.1; stands = one.1; unfit = one.2 }

  -- an unfit number's refusal, or that of a row which isn't there
  pub unfit_gives : HasUnfitNumber rep name args → IsWithoutRow rep name args ⊎ (assembled rep name args ≡ Err refusal.ValueRange)
  unfit_gives u = by_chosen (chosen (widths u.draft args) u.draft.insn) refl
    where
      by_chosen : (o : Option ArrayBytes) → chosen (widths u.draft args) u.draft.insn ≡ o → IsWithoutRow rep name args
          ⊎ (assembled rep name args ≡ Err refusal.ValueRange)
      by_chosen None c = inl (unspelled_rowless u.draft u.means c)
      by_chosen (Some a) c = inr (means_gives u.draft u.means ∙ rw (c, unfit_draft u) refl)

  -- ---- why a statement is refused

  abbrev pub Reason : Refusal → Type 0
  Reason refusal.UnknownInstruction = IsUnknown name
  Reason refusal.RefusedInstruction = IsRefused name
  Reason refusal.Operands = IsWithoutRow rep name args
  Reason refusal.ValueRange = (IsWithoutRow rep name args → ⊥) × HasUnfitNumber rep name args

  range_reason : (d : Draft) (a : ArrayBytes) → Means rep name args d → chosen (widths d args) d.insn ≡ Some a → d.fits ≡ false
      → Reason refusal.ValueRange
  range_reason d a h c f = (λ w. w.none d (chosen_bytes a) h (spelled_by_row h.mnemonic d a h.named h.drafted c), draft_unfit d h f)

  draft_reason : (d : Draft) (r : Refusal) → Means rep name args d
      → with_spelling d (widths d args) (chosen (widths d args) d.insn) ≡ Err r → Reason r
  draft_reason d r h e = by_chosen (chosen (widths d args) d.insn) refl e
    where
      by_fit : (a : ArrayBytes) (t : Bool) → chosen (widths d args) d.insn ≡ Some a → d.fits ≡ t
          → cond t (Ok (whole d (widths d args) a)) (Err refusal.ValueRange) ≡ Err r → Reason r
      by_fit a true c f e = absurd cc
      by_fit a false c f e = let same : refusal.ValueRange ≡ r = cc in subst Reason same (range_reason d a h c f)

      by_chosen : (o : Option ArrayBytes) → chosen (widths d args) d.insn ≡ o → with_spelling d (widths d args) o ≡ Err r → Reason r
      by_chosen None c e = let same : refusal.Operands ≡ r = cc in subst Reason same (unspelled_rowless d h c)
      by_chosen (Some a) c e = by_fit a d.fits c refl e

  named_reason : (m : Mnemonic) (r : Refusal) → IsName name m → by_mnemonic rep m args ≡ Err r → Reason r
  named_reason m r n e = by_drafted (drafted_of rep m args) refl
    where
      by_drafted : (o : Option Draft) → drafted_of rep m args ≡ o → Reason r
      by_drafted None f = let told : Err refusal.Operands ≡ Err r =
          sym (undrafted_gives m f) ∙ e in let same : refusal.Operands ≡ r = cc in subst Reason same (undrafted_rowless m n f)
      by_drafted (Some d) f = draft_reason d r (record { mnemonic = m; named = n; drafted = f }) (sym (drafted_gives m d f) ∙ e)

  pub refused_reason : (r : Refusal) → assembled rep name args ≡ Err r → Reason r
  refused_reason r e = by_found (found refused_names name) refl
    where
      by_known : found refused_names name ≡ None → (o : Option Mnemonic) → known_name name ≡ o → Reason r
      by_known f None k =
          let u : IsUnknown name = record {
            not_refused = λ h. let both : None ≡ Some h.0 = sym f ∙ refused_found name h in cc;
            not_named = λ m n. let both : None ≡ Some m = sym k ∙ named_known name m n in cc;
          } in
          let told : Err refusal.UnknownInstruction ≡ Err r = sym (unknown_gives u) ∙ e in
          let same : refusal.UnknownInstruction ≡ r = cc in
          subst Reason same u
      by_known f (Some m) k = let n = known_named name m k in named_reason m r n (sym (named_gives m n) ∙ e)

      by_found : (o : Option Refused) → found refused_names name ≡ o → Reason r
      by_found None f = by_known f (known_name name) refl
      by_found (Some x) f =
          let h = found_refused name x f in
          let told : Err refusal.RefusedInstruction ≡ Err r = sym (refused_gives h) ∙ e in
          let same : refusal.RefusedInstruction ≡ r = cc in
          subst Reason same h

  -- ---- and only then

  pub reason_told : (r : Refusal) → Reason r → assembled rep name args ≡ Err r
  reason_told refusal.UnknownInstruction h = unknown_gives h
  reason_told refusal.RefusedInstruction h = refused_gives h
  reason_told refusal.Operands h = rowless_gives h
  reason_told refusal.ValueRange h = by_unfit (unfit_gives h.1)
    where
      by_unfit : IsWithoutRow rep name args ⊎ (assembled rep name args ≡ Err refusal.ValueRange)
          → assembled rep name args ≡ Err refusal.ValueRange
      by_unfit (inl w) = absurd (h.0 w)
      by_unfit (inr e) = e

  pub told_exactly : (r : Refusal) → (assembled rep name args ≡ Err r) ↔ Reason r
  told_exactly r = (refused_reason r, reason_told r)

  -- of what was returned
  pub told_of : (r : Result Assembled Refusal) → r ≡ assembled rep name args → (x : Refusal) → (r ≡ Err x) ↔ Reason x
  told_of r e x = (λ t. refused_reason x (sym e ∙ t), λ h. e ∙ reason_told x h)
