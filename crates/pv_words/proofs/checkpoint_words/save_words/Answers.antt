use Rattle.std.proofs.Common.{◌≡◌, ◌≤◌, ◌<◌, List, [], ◌∷◌, length, get_or, refl, arith}
use Rattle.pv_words.specs.Words.{after_save}
use Rattle.pv_words.proofs.checkpoint_words.save_words.Goals as goal

six : {A : Type 0} (ws : List A) (a b c d e f : A) → 6 ≤ length ws → length ws < 7
    → a ≡ get_or ws 0 a → b ≡ get_or ws 1 b → c ≡ get_or ws 2 c → d ≡ get_or ws 3 d → e ≡ get_or ws 4 e → f ≡ get_or ws 5 f
    → ws ≡ a ∷ b ∷ c ∷ d ∷ e ∷ f ∷ []
six [] a b c d e f least most p q r s t u = absurd (omega arith)
six (x ∷ []) a b c d e f least most p q r s t u = absurd (omega arith)
six (x ∷ y ∷ []) a b c d e f least most p q r s t u = absurd (omega arith)
six (x ∷ y ∷ z ∷ []) a b c d e f least most p q r s t u = absurd (omega arith)
six (x ∷ y ∷ z ∷ v ∷ []) a b c d e f least most p q r s t u = absurd (omega arith)
six (x ∷ y ∷ z ∷ v ∷ w ∷ []) a b c d e f least most p q r s t u = absurd (omega arith)
six (x ∷ y ∷ z ∷ v ∷ w ∷ o ∷ []) a b c d e f least most p q r s t u = cc
six (x ∷ y ∷ z ∷ v ∷ w ∷ o ∷ i ∷ ws) a b c d e f least most p q r s t u = absurd (omega arith)

pub returns-in-len6-clause-form : goal.returns-in-len6-clause-form
unfolding after_save
returns-in-len6-clause-form c =
    let words = six c.args.words.now c.mode-item.result c.image-item.result c.script-item.result c.frames-item.result c.n-item.result
    c.file-item.result c.in-len6.len_at_least c.in-len6.len_below
    c.mode-item.is c.image-item.is c.script-item.is c.frames-item.is c.n-item.is c.file-item.is in
    rw (
      words,
      c.save_form.ensures.form,
      c.machine.ensures,
      c.run_words-run.ensures.form,
      c.as_str.ensures.value,
      c.as_str-in-len6.ensures.value,
      c.as_str-in-len6-2.ensures.value,
      c.as_str-in-len6-3.ensures.value,
      c.as_str-in-len6-4.ensures.value,
      c.as_str-in-len6-5.ensures.value,
    ) refl
