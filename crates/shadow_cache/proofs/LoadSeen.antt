-- A load of CR3, over what is kept of each page up to the last.
use Rattle.std.proofs.Common.{◌≡◌, ℕ, zero, suc, ◌^◌, List, [], ◌∷◌, take, Bool, true, false, cond, eqb, Option, Some, None, refl, sym, ap, ◌∙◌, inl, inr}
use Rattle.std.proofs.Math.Path.{fun_ext}
use Rattle.std.proofs.lemmas.Bool.Decides.{leb_tells}
use Rattle.shadow_tables.specs.Slots.{Slot}
use Rattle.shadow_tables.specs.OtherRoot.{OtherRoot, IsSame, AreSame}
use Rattle.shadow_tables.specs.Seen.{of_pages, of_root, of_roots, seen_of}
use Rattle.shadow_cache.specs.Reloaded.{put_by, coming, staying, of_cr3, but_cr3, or_begun, begun_root, beside_coming}
use Rattle.shadow_cache.specs.Loading.{switched}
use Rattle.shadow_cache.proofs.SeenCache.{same_seen, same_pages, same_root, same_roots}

abbrev opt_root : Option OtherRoot → Option OtherRoot
opt_root None = None
opt_root (Some a) = Some (of_root a)

one_found : (b : Bool) (a : OtherRoot) (o o' : Option OtherRoot) → o' ≡ opt_root o
    → cond b (Some (of_root a)) o' ≡ opt_root (cond b (Some a) o)
one_found true a o o' e = refl
one_found false a o o' e = e

found : (cr3 : ℕ) (os : List OtherRoot) → of_cr3 cr3 (of_roots os) ≡ opt_root (of_cr3 cr3 os)
found cr3 [] = refl
found cr3 (a ∷ os) = one_found (eqb a.cr3 cr3) a (of_cr3 cr3 os) (of_cr3 cr3 (of_roots os)) (found cr3 os)

none_kept : of_pages (λ page. None) ≡ λ page. None
none_kept =
    fun_ext (λ q. elim (leb_tells (2 ^ 20) q)
    [ inl g ↦ ap (λ b. cond {A = Option Slot} b None None) g.0 | inr k ↦ ap (λ b. cond {A = Option Slot} b None None) k.0 ])

begun : (cr3 : ℕ) (o : Option OtherRoot) → or_begun cr3 (opt_root o) ≡ of_root (or_begun cr3 o)
begun cr3 None = same_root (begun_root cr3) (of_root (begun_root cr3)) refl refl (sym none_kept)
begun cr3 (Some a) = refl

one_but : (b : Bool) (a : OtherRoot) (os xs : List OtherRoot) (ys : List OtherRoot) → of_roots os ≡ xs
    → of_roots (cond b ys (a ∷ os)) ≡ cond b (of_roots ys) (of_root a ∷ xs)
one_but true a os xs ys e = refl
one_but false a os xs ys e = ap (λ (zs : List OtherRoot). of_root a ∷ zs) e

but : (cr3 : ℕ) (os : List OtherRoot) → of_roots (but_cr3 cr3 os) ≡ but_cr3 cr3 (of_roots os)
but cr3 [] = refl
but cr3 (a ∷ os) = one_but (eqb a.cr3 cr3) a (but_cr3 cr3 os) (but_cr3 cr3 (of_roots os)) os (but cr3 os)

taken : (n : ℕ) (os : List OtherRoot) → of_roots (take n os) ≡ take n (of_roots os)
taken zero os = refl
taken (suc n) [] = refl
taken (suc n) (a ∷ os) = ap (λ (zs : List OtherRoot). of_root a ∷ zs) (taken n os)

left : (cr3 : ℕ) (os : List OtherRoot) (o : Option OtherRoot) → of_roots (beside_coming cr3 os o) ≡ beside_coming cr3
    (of_roots os) (opt_root o)
left cr3 os None = taken 7 os
left cr3 os (Some a) = but cr3 os

put : (stale : Bool) (cr3 : ℕ) (t : ℕ → Bool) (f : ℕ → Option Slot) (os : List OtherRoot)
    → of_roots (put_by (Some cr3) stale t f os) ≡ put_by (Some cr3) stale t (of_pages f) (of_roots os)
put true cr3 t f os = refl
put false cr3 t f os = refl

coming_is : (cr3 : ℕ) (os : List OtherRoot) → of_root (coming cr3 os) ≡ coming cr3 (of_roots os)
coming_is cr3 os = sym (ap (or_begun cr3) (found cr3 os) ∙ begun cr3 (of_cr3 cr3 os))

staying_is : (cr3 : ℕ) (os : List OtherRoot) → of_roots (staying cr3 os) ≡ staying cr3 (of_roots os)
staying_is cr3 os = left cr3 os (of_cr3 cr3 os) ∙ sym (ap (beside_coming cr3 (of_roots os)) (found cr3 os))

pub loaded_seen : (cr3 now : ℕ) (stale stale' : Bool) (t t' : ℕ → Bool) (f f' : ℕ → Option Slot) (os os' : List OtherRoot) (c' : Option ℕ)
    → c' ≡ Some cr3 → stale' ≡ false
    → IsSame (coming cr3 (put_by (Some now) stale t f os)) (record { cr3 = cr3; tables = t'; slots = f' })
    → AreSame (staying cr3 (put_by (Some now) stale t f os)) os'
    → seen_of f' t' stale' c' os' ≡ switched cr3 (seen_of f t stale (Some now) os)
loaded_seen cr3 now stale stale' t t' f f' os os' c' a b same rest =
    let put_is = put stale now t f os in
    let xs = put_by (Some now) stale t f os in
    let here : of_root (coming cr3 xs) ≡ coming cr3 (put_by (Some now) stale t (of_pages f) (of_roots os)) =
    coming_is cr3 xs ∙ ap (coming cr3) put_is in
    same_seen _ _ (same_pages (coming cr3 xs).slots f' same.slots ∙ ap (λ (x : OtherRoot). x.slots) here)
    (fun_ext same.tables ∙ ap (λ (x : OtherRoot). x.tables) here)
    b a
    (same_roots _ _ rest ∙ staying_is cr3 xs ∙ ap (staying cr3) put_is)
