-- Numbers written one after another.
use Rattle.std.proofs.Common.{◌≡◌, ℕ, ◌/◌, ◌<◌, List, [], ◌∷◌, refl, sym, ap, ◌∙◌, arith}
use Rattle.std.specs.List.{FoldsTo}
use Rattle.ia32_types.specs.declared.size.Size.{Size}
use Rattle.ia32_types.specs.declared.size.Size.TheVariants.{Byte, Word, Long}
use Rattle.ia32_types.specs.Size.{width}
use Rattle.ia32_exec.specs.declared.outcome.Store.{Store}
use Rattle.ia32_exec.specs.declared.outcome.Stores.{Stores}
use Rattle.ia32_exec.specs.declared.outcome.Stores.TheVariants.{Nothing, One, Eight}
use Rattle.ia32_exec.specs.Outcomes.{AreStored}
use Rattle.paging.specs.Space.{Space, saved}
use Rattle.step_exec.specs.Plain.{stored_all}

pub stored_in : {A H : Type 0} (hide : A → H) (see : A → Space) (a : A) (ws : List Store) (b : A)
    → FoldsTo (λ (old : A) (w : Store) (new : A). (hide new ≡ hide old) × (see new ≡ saved (see old) w.at w.size w.value)) a ws b
    → (hide b ≡ hide a) × (see b ≡ stored_all (see a) ws)
stored_in hide see a [] b e = (ap hide (sym e), ap see (sym e))
stored_in hide see a (w ∷ ws) b (j, now, rest) =
    let ih = stored_in hide see j ws b rest in
    (ih.0 ∙ now.0, ih.1 ∙ ap (λ (s : Space). stored_all s ws) now.1)

pub stored_pages : (s : Space) (ws : List Store) → (stored_all s ws).pages ≡ s.pages
stored_pages s [] = refl
stored_pages s (w ∷ ws) = stored_pages (saved s w.at w.size w.value) ws

-- what follows of each byte that is written
pub with_more : (P Q : ℕ → Type 0) → ((at : ℕ) → P at → Q at) → (ws : Stores) → AreStored P ws → AreStored (λ at. P at × Q at) ws
with_more P Q more Nothing h = tt
with_more P Q more (One w) h = λ k lt. (h k lt, more _ (h k lt))
with_more P Q more (Eight at vs) h = λ k lt. (h k lt, more _ (h k lt))

pub some_bytes : (s : Size) → 0 < width s / 8
some_bytes Byte = omega arith
some_bytes Word = omega arith
some_bytes Long = omega arith
