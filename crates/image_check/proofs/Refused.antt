-- The names of refused instructions, and the test of their rows.
use Rattle.std.proofs.Common.{◌≡◌, ℕ, Bool, true, false, List, Option, Some, None, Result, Ok, Err, is_some, is_ok, refl, sym, ap, inl, inr}
use Rattle.std.specs.Prelude.{◌↔◌}
use Rattle.std.proofs.lemmas.Bool.{cases_Bool}
use Rattle.std.proofs.lemmas.List.Folds.{Any-from_list_any, list_any-from_Any}
use Rattle.ia32_types.specs.declared.site.Refused.{Refused}
use Rattle.ia32_rows.specs.declared.row.Miss.{Miss}
use Rattle.ia32_rows.specs.declared.row.RefusedRow.{RefusedRow}
use Rattle.ia32_rows.specs.declared.row.Parts.{Parts}
use Rattle.ia32_rows.specs.Spelling.{parts_at}
use Rattle.ia32_rows.specs.Rows.{refused_rows}
use Rattle.ia32_decode.specs.Named.{BeginsRefused}
use Rattle.image_check.specs.Pieces.{is_refused}

reads : List ℕ → RefusedRow → Bool
reads bytes row = is_ok (parts_at row.form bytes)

ok_is : (r : Result (Parts × List ℕ) Miss) → is_ok r ≡ true → (x : Parts × List ℕ) × (r ≡ Ok x)
ok_is (Ok x) e = (x, refl)
ok_is (Err e) h = absurd cc

pub named_is_refused : (bytes : List ℕ) (name : Refused) → BeginsRefused bytes name → is_refused bytes ≡ true
unfolding is_refused reads
named_is_refused bytes name h =
    list_any-from_Any (reads bytes) refused_rows (h.listed.0, h.row, h.listed.1, h.listed.2, ap is_ok h.read)

pub begins_refused : (bytes : List ℕ) → is_refused bytes ≡ true → (name : Refused) × BeginsRefused bytes name
unfolding is_refused reads
begins_refused bytes h =
    let any = Any-from_list_any (reads bytes) refused_rows h in
    let is = ok_is (parts_at any.1.form bytes) any.4 in
    (any.1.name, record { row = any.1; listed = (any.0, any.2, any.3); parts = is.0.0; rest = is.0.1; read = is.1; named = refl })

unnamed_is_not : (bytes : List ℕ) → ((name : Refused) → BeginsRefused bytes name → ⊥) → is_refused bytes ≡ false
unnamed_is_not bytes h =
    elim (cases_Bool (is_refused bytes)) [
      | inl e ↦ absurd (h (begins_refused bytes e).0 (begins_refused bytes e).1)
      | inr e ↦ e
    ]

pub some_is_refused : (bytes : List ℕ) (answer : Option Refused) → ((name : Refused) → (answer ≡ Some name) ↔ BeginsRefused bytes name)
    → (answer ≡ None) ↔ ((name : Refused) → BeginsRefused bytes name → ⊥) → is_some answer ≡ is_refused bytes
some_is_refused bytes (Some name) named none = sym (named_is_refused bytes name ((named name).0 refl))
some_is_refused bytes None named none = sym (unnamed_is_not bytes (none.0 refl))
