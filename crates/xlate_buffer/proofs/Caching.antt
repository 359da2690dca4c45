-- What calls of the TLB leave, page by page.
use Rattle.std.proofs.Common.{◌≡◌, ◌≢◌, ℕ, ◌/◌, Bool, true, false, cond, not, eqb, refl, sym, ap, ◌∙◌, Option, Some, None, inl, inr}
use Rattle.std.proofs.lemmas.Bool.Decides.{eqb_tells}
use Rattle.std.proofs.lemmas.Cmp.{nat_cmp_total}
use Rattle.std.specs.FinMap.{FinMap, get, insert, remove, retain_keys, get-insert, get-remove, get-retain_keys, nat_cmp-IsAntisymmetric}
use Rattle.std.specs.Ordering.{nat_cmp}
use Rattle.std.specs.Cmp.{unsigned_tied}
use Rattle.std.proofs.lemmas.Bool.{ne_eqb}
use Rattle.paging.specs.declared.entry.Entry.{Entry}
use Rattle.paging.specs.Uses.{without_dir}
use Rattle.xlate_buffer.specs.Caches.{IsSameOrGone}

eqb_self : (n : ℕ) → eqb n n ≡ true
eqb_self n = elim (eqb_tells n n) [ inl t ↦ t.0 | inr f ↦ absurd (f.1 refl) ]

-- an entry that was put is found
pub put_found : (m : FinMap nat_cmp Entry) (e : Entry) → get (insert m e.page e) e.page ≡ Some e
put_found m e =
    get-insert nat_cmp_total m e.page e e.page
    ∙ ap (λ b. cond b (Some e) (get m e.page)) (unsigned_tied e.page e.page ∙ eqb_self e.page)

-- a page that was removed isn't found, and others are
pub removed_gone : (m : FinMap nat_cmp Entry) (page : ℕ) → get (remove m page) page ≡ None
removed_gone m page =
    get-remove nat_cmp_total m page page ∙ ap (λ b. cond b None (get m page)) (unsigned_tied page page ∙ eqb_self page)

pub removed_other : (m : FinMap nat_cmp Entry) (page other : ℕ) → other ≢ page → get (remove m page) other ≡ get m other
removed_other m page other h =
    get-remove nat_cmp_total m page other ∙ ap (λ b. cond b None (get m other)) (unsigned_tied other page ∙ ne_eqb other page h)

turned : (b : Bool) (o : Option Entry) → cond (not b) o None ≡ cond b None o
turned true o = refl
turned false o = refl

-- a page after those of a directory index were dropped
pub dir_get : (m : FinMap nat_cmp Entry) (index page : ℕ)
    → get (without_dir m index) page ≡ cond (eqb (page / 1024) index) None (get m page)
dir_get m index page =
    let p : ℕ → Bool = λ q. not (eqb (q / 1024) index) in
    get-retain_keys m p page (λ x t. ap p (sym (nat_cmp-IsAntisymmetric page x t))) ∙ turned (eqb (page / 1024) index) (get m page)

pub dir_gone : (m : FinMap nat_cmp Entry) (index page : ℕ) → page / 1024 ≡ index → get (without_dir m index) page ≡ None
dir_gone m index page h =
    dir_get m index page ∙ elim (eqb_tells (page / 1024) index) [ inl t ↦ ap (λ b. cond b None (get m page)) t.0 | inr f ↦ absurd (f.1 h) ]

pub dir_other : (m : FinMap nat_cmp Entry) (index page : ℕ) → page / 1024 ≢ index → get (without_dir m index) page ≡ get m page
dir_other m index page h = dir_get m index page ∙ ap (λ b. cond b None (get m page)) (ne_eqb (page / 1024) index h)

chosen : (b : Bool) (o : Option Entry) → IsSameOrGone o (cond b o None)
chosen true o = inl refl
chosen false o = inr refl

-- where an entry was put, and pages with a property alone were kept, another page is as before or gone
pub put_others : (m : FinMap nat_cmp Entry) (p : ℕ → Bool) (e : Entry) (page : ℕ) → page ≢ e.page
    → IsSameOrGone (get m page) (get (insert (retain_keys m p) e.page e) page)
put_others m p e page h =
    let is =
    get-insert nat_cmp_total (retain_keys m p) e.page e page
    ∙ (ap (λ b. cond b (Some e) (get (retain_keys m p) page)) (unsigned_tied page e.page ∙ ne_eqb page e.page h)
    ∙ get-retain_keys m p page (λ x t. ap p (sym (nat_cmp-IsAntisymmetric page x t)))) in
    rw is (chosen (p page) (get m page))
