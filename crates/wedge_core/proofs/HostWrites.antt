-- What was found is found after what the host writes, where the frames of its tables are as they were.
use Rattle.std.proofs.Common.{◌≡◌, ℕ, zero, suc, ◌+◌, ◌*◌, ◌/◌, ◌%◌, ◌^◌, ◌<◌, ◌≤◌, ◌==◌, List, [], ◌∷◌, length, Bool, true, false, ◌||◌, cond, refl, sym, ap, ◌∙◌, inl, inr, arith}
use Rattle.std.proofs.lemmas.Bool.{cases_lt}
use Rattle.std.proofs.lemmas.Bool.Decides.{eqb_tells}
use Rattle.std.specs.List.{Contains}
use Rattle.guest_ram.specs.Bytes.{word32}
use Rattle.paging.specs.declared.entry.Entry.{Entry}
use Rattle.guest_ram.specs.Among.{is_among}
use Rattle.machine_model.specs.Reloading.{HasMoreFlags, MemoryFollows, IsFoundBy}
use Rattle.machine_model.specs.State.{Setting}
use Rattle.machine_model.proofs.MoreFlags.{flags_by}
use Rattle.wedge_step.proofs.Bools.{clash, or_false}
use Rattle.wedge_step.proofs.AmongPages.{among_contains}
use Rattle.wedge_step.proofs.Behind.{found_behind, contains_among}

module _ (m : Setting) (ram then : List ℕ) (size : length then ≡ length ram) (room : 4096 * m.frames ≤ length ram)
    (long : length ram ≤ 4096 * m.frames) where
  -- the guest's frames of which the test doesn't hold
  abbrev pub unheld : (ℕ → Bool) → ℕ → List ℕ
  unheld tables zero = []
  unheld tables (suc n) = cond (tables n) (unheld tables n) (n ∷ unheld tables n)

  among_unheld : (tables : ℕ → Bool) (n f : ℕ) → is_among f (unheld tables n) ≡ true → tables f ≡ false
  among_unheld tables zero f a = absurd (clash false a refl)
  among_unheld tables (suc n) f a = by (tables n) refl a (λ x. among_unheld tables n f x)
    where
      by : (b : Bool) → tables n ≡ b → is_among f (cond b (unheld tables n) (n ∷ unheld tables n)) ≡ true
          → (is_among f (unheld tables n) ≡ true → tables f ≡ false) → tables f ≡ false
      by true e x rest = rest x
      by false e x rest = elim (eqb_tells f n) [
        | inl t ↦ ap tables t.1 ∙ e
        | inr o ↦ rest (sym (or_false (f == n) (is_among f (unheld tables n)) o.0) ∙ x)
      ]

  is_unheld : (tables : ℕ → Bool) (n f : ℕ) → f < n → tables f ≡ false → is_among f (unheld tables n) ≡ true
  is_unheld tables zero f lt e = absurd (omega (arith, lt))
  is_unheld tables (suc n) f lt e = by (tables n) refl (λ l. is_unheld tables n f l e)
    where
      by : (b : Bool) → tables n ≡ b → (f < n → is_among f (unheld tables n) ≡ true)
          → is_among f (cond b (unheld tables n) (n ∷ unheld tables n)) ≡ true
      by true t rest = elim (cases_lt f n) [
        | inl l ↦ rest l
        | inr g ↦ absurd (clash (tables n) t (let same : n ≡ f = omega (arith, lt, g) in ap tables same ∙ e))
      ]
      by false t rest = elim (eqb_tells f n) [
        | inl s ↦ ap (λ (b : Bool). b || is_among f (unheld tables n)) s.0
        | inr o ↦ ap (λ (b : Bool). b || is_among f (unheld tables n)) o.0
            ∙ rest (elim (cases_lt f n) [ inl l ↦ l | inr g ↦ absurd (o.1 (omega (arith, lt, g))) ])
      ]

  pub untouched : (tables : ℕ → Bool)
      → ((at : ℕ) → at % 4 ≡ 0 → at + 4 ≤ length ram → tables (at / 4096) ≡ true → word32 then at ≡ word32 ram at)
      → MemoryFollows (unheld tables m.frames) ram then
  untouched tables same = record {
    long = omega (arith, size);
    words = λ at even within free. by at even within free (tables (at / 4096)) refl;
  }
    where
      by : (at : ℕ) → at % 4 ≡ 0 → at + 4 ≤ length ram → (Contains (unheld tables m.frames) (at / 4096) → ⊥) → (b : Bool)
          → tables (at / 4096) ≡ b → HasMoreFlags (word32 ram at) (word32 then at)
      by at even within free true e = flags_by (word32 ram at) (word32 then at) (same at even within e)
      by at even within free false e =
          absurd (free (among_contains (unheld tables m.frames) (at / 4096)
          (is_unheld tables m.frames (at / 4096) (omega (arith, within, long)) e)))

  -- so what was found is found
  pub found_on : (tables : ℕ → Bool)
      → ((at : ℕ) → at % 4 ≡ 0 → at + 4 ≤ length ram → tables (at / 4096) ≡ true → word32 then at ≡ word32 ram at)
      → (cr3 : ℕ) (pse : Bool) (page : ℕ) (e : Entry) → page < 2 ^ 20
      → IsFoundBy ram m.frames cr3 pse tables page e → IsFoundBy then m.frames cr3 pse tables page e
  found_on tables same cr3 pse page e lt h =
      found_behind (unheld tables m.frames) ram then m.frames cr3 pse tables page e lt room (untouched tables same)
      (λ frame t c. clash (tables frame) t (among_unheld tables m.frames frame (contains_among (unheld tables m.frames) frame c))) h
