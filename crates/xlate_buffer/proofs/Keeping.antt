-- The map of the TLB after calls, page by page.
use Rattle.std.proofs.Common.{◌≡◌, ℕ, ◌/◌, ◌%◌, Bool, cond, not, eqb, List, [], ◌∷◌, sym, ap, ◌∙◌, Option, Some, None, inl, inr}
use Rattle.std.proofs.lemmas.Bool.Decides.{eqb_tells}
use Rattle.std.proofs.lemmas.Cmp.{nat_cmp_total}
use Rattle.std.specs.FinMap.{FinMap, get, insert, retain_keys, get-empty, get-insert, get-remove, get-retain_keys, nat_cmp-IsAntisymmetric}
use Rattle.std.specs.Ordering.{nat_cmp}
use Rattle.std.specs.Cmp.{unsigned_tied}
use Rattle.paging.specs.declared.entry.Entry.{Entry}
use Rattle.xlate_buffer.proofs.Caching.{dir_get}
use Rattle.xlate_buffer.specs.Calls.{Call, Keep, DropPage, DropDir, DropAll, made_by, last_kept}

-- an equal page has an equal remainder
split : (q : ℕ) (e : Entry) (o : Option Entry) →
    cond (eqb q e.page) (Some e) (cond (not (eqb (q % 64) (e.page % 64))) o None) ≡ cond (eqb (q % 64) (e.page % 64))
    (cond (eqb q e.page) (Some e) None) o
split q e o =
    elim (eqb_tells (q % 64) (e.page % 64)) [
      | inl t ↦ ap (λ b. cond (eqb q e.page) (Some e) (cond (not b) o None)) t.0
          ∙ sym (ap (λ b. cond b (cond (eqb q e.page) (Some e) None) o) t.0)
      | inr f ↦
          ap (λ b. cond (eqb q e.page) (Some e) (cond (not b) o None)) f.0
          ∙ elim (eqb_tells q e.page) [
            | inl s ↦ absurd (f.1 (ap (λ n. n % 64) s.1))
            | inr g ↦ ap (λ b. cond b (Some e) o) g.0
          ]
          ∙ sym (ap (λ b. cond b (cond (eqb q e.page) (Some e) None) o) f.0)
    ]

-- a page after an entry was kept
pub keep_get : (m : FinMap nat_cmp Entry) (e : Entry) (page : ℕ)
    → get (insert (retain_keys m (λ k. not (eqb (k % 64) (e.page % 64)))) e.page e) page
    ≡ cond (eqb (page % 64) (e.page % 64)) (cond (eqb page e.page) (Some e) None) (get m page)
keep_get m e page =
    let p : ℕ → Bool = λ k. not (eqb (k % 64) (e.page % 64)) in
    get-insert nat_cmp_total (retain_keys m p) e.page e page
    ∙ ap (λ b. cond b (Some e) (get (retain_keys m p) page)) (unsigned_tied page e.page)
    ∙ ap (cond (eqb page e.page) (Some e)) (get-retain_keys m p page (λ x t. ap p (sym (nat_cmp-IsAntisymmetric page x t))))
    ∙ split page e (get m page)

pub finds : (calls : List Call) (page : ℕ) → get (made_by calls) page ≡ last_kept calls page
finds [] page = get-empty nat_cmp page
finds (Keep e ∷ earlier) page =
    keep_get (made_by earlier) e page ∙ ap (λ o. cond (eqb (page % 64) (e.page % 64)) (cond (eqb page e.page) (Some e) None) o)
    (finds earlier page)
finds (DropPage q ∷ earlier) page =
    get-remove nat_cmp_total (made_by earlier) q page
    ∙ ap (λ b. cond b None (get (made_by earlier) page)) (unsigned_tied page q)
    ∙ ap (λ o. cond (eqb page q) None o) (finds earlier page)
finds (DropDir index ∷ earlier) page =
    dir_get (made_by earlier) index page ∙ ap (λ o. cond (eqb (page / 1024) index) None o) (finds earlier page)
finds (DropAll ∷ earlier) page = get-empty nat_cmp page
