-- A set of translations where one page's entry is set or taken out.
use Rattle.std.proofs.Common.{◌≡◌, ◌≢◌, ℕ, cond, eqb, Option, Some, None, refl, ap, ◌∙◌, inl, inr}
use Rattle.std.proofs.lemmas.Bool.Decides.{eqb_tells}
use Rattle.std.proofs.lemmas.Cmp.{nat_cmp_total}
use Rattle.std.specs.FinMap.{FinMap, get, get-insert, get-remove}
use Rattle.std.specs.Ordering.{nat_cmp}
use Rattle.std.specs.Cmp.{unsigned_tied}
use Rattle.paging.specs.declared.entry.Entry.{Entry}
use Rattle.paging.specs.Uses.{with_entry}

pub get_with : (set : FinMap nat_cmp Entry) (page : ℕ) (entry : Option Entry) (q : ℕ)
    → get (with_entry set page entry) q ≡ cond (eqb q page) entry (get set q)
get_with set page None q = get-remove nat_cmp_total set page q ∙ ap (λ b. cond b None (get set q)) (unsigned_tied q page)
get_with set page (Some entry) q =
    get-insert nat_cmp_total set page entry q ∙ ap (λ b. cond b (Some entry) (get set q)) (unsigned_tied q page)

-- at the page
pub get_with_same : (set : FinMap nat_cmp Entry) (page : ℕ) (entry : Option Entry) → get (with_entry set page entry) page ≡ entry
get_with_same set page entry =
    get_with set page entry page
    ∙ elim (eqb_tells page page) [ inl t ↦ ap (λ b. cond b entry (get set page)) t.0 | inr f ↦ absurd (f.1 refl) ]

-- at another page
pub get_with_other : (set : FinMap nat_cmp Entry) (page : ℕ) (entry : Option Entry) (q : ℕ) → q ≢ page
    → get (with_entry set page entry) q ≡ get set q
get_with_other set page entry q n =
    get_with set page entry q ∙ elim (eqb_tells q page) [ inl t ↦ absurd (n t.1) | inr f ↦ ap (λ b. cond b entry (get set q)) f.0 ]
