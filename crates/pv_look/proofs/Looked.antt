-- What is said of the words of a form.
use Rattle.std.proofs.Common.{◌≡◌, ℕ, List, [], Option, Some, None, subst, ◌∙◌}
use Rattle.wedge_core.specs.Counts.{Counts}
use Rattle.pv_build.specs.declared.status.Status.{Status}
use Rattle.pv_build.specs.declared.status.Status.TheVariants as status
use Rattle.pv_tasks.specs.Outside.{Outside}
use Rattle.pv_tasks.specs.Tasks.{Task, Means}
use Rattle.look_words.specs.Words.{Look}

-- no form ends as words that are none
pub not_words : (task : Task) (o : Counts → List ℕ → Outside) (st : Status)
    → ((completed : Counts) (memory : List ℕ) → Means task (o completed memory) st) → st ≡ status.Words → ⊥
not_words task o st means is = let none : Counts =
    record { retired = 0; passed = 0 } in subst (λ (s : Status). Means task (o none []) s) is (means none [])

some_is_none : (look : Look) → Some look ≡ None → ⊥
some_is_none look e = cc

-- words of a form are not of none
pub is_form : (look : Look) (form : Option Look) → Some look ≡ form → form ≡ None → ⊥
is_form look form is none = some_is_none look (is ∙ none)

-- and of this form alone
pub asks : (P : Look → Type 0) (look : Look) (form : Option Look) → Some look ≡ form → P look → (asked : Look) → form ≡ Some asked → P asked
asks P look form is h asked e =
    let same : Some look ≡ Some asked = is ∙ e in
    let alike : look ≡ asked = cc in
    subst P alike h
