-- One more byte of a site, and one more site.
use Rattle.std.proofs.Common.{◌≡◌, ℕ, ◌+◌, ◌-◌, ◌≤◌, ◌<◌, List, [], ◌∷◌, ◌++◌, length, get_or, drop, replicate, sym, ap, ◌∙◌, subst, arith}
use Rattle.std.proofs.lemmas.List.{replicate_more, length-replicate, drop_more, drop_all}
use Rattle.guest_ram.specs.Bytes.{with_part, with_byte}
use Rattle.guest_ram.proofs.Bytes.{with_part-append}
use Rattle.sites.specs.declared.site.Site.{Site}
use Rattle.sites.specs.Patched.{patch_bytes, patched}
use Rattle.sites.specs.Room.{AreInside}

pub length-patch_bytes : (n : ℕ) → 1 ≤ n → length (patch_bytes n) ≡ n
length-patch_bytes n le = omega (arith, length-replicate {A = ℕ} (n - 1) 244)

patch_bytes-more : (n : ℕ) → 1 ≤ n → patch_bytes n ++ 244 ∷ [] ≡ patch_bytes (n + 1)
patch_bytes-more n le =
    let up : n - 1 + 1 ≡ n + 1 - 1 = omega arith in
    ap (λ (x : List ℕ). 233 ∷ x) (replicate_more (n - 1) 244 ∙ ap (λ (k : ℕ). replicate k 244) up)

pub one_byte : (m : List ℕ) (at n : ℕ) → 1 ≤ n → at + n + 1 ≤ length m → with_byte (with_part m at (patch_bytes n)) (at + n) 244 ≡ with_part
    m at (patch_bytes (n + 1))
unfolding with_byte
one_byte m at n le room =
    let len = length-patch_bytes n le in
    ap (λ (k : ℕ). with_part (with_part m at (patch_bytes n)) (at + k) (244 ∷ [])) (sym len)
    ∙ with_part-append m at (patch_bytes n) (244 ∷ []) (omega arith)
    ∙ ap (with_part m at) (patch_bytes-more n le)

pub one_site : (m : List ℕ) (text_at : ℕ) (xs sites : List Site) (i : ℕ) (d : Site) → xs ≡ sites → i < length xs
    → patched m text_at (drop i sites) ≡ patched (with_part m (text_at + (get_or xs i d).at) (patch_bytes (get_or xs i d).total)) text_at
    (drop (i + 1) sites)
unfolding patched
one_site m text_at xs sites i d same lt =
    rw (← same) (ap (patched m text_at) (drop_more xs i d lt))

pub inside_after : (len text_at : ℕ) (xs sites : List Site) (i : ℕ) → xs ≡ sites → i < length xs → AreInside len text_at (drop i sites)
    → AreInside len text_at (drop (i + 1) sites)
inside_after len text_at [] sites i same lt all = absurd (omega arith)
inside_after len text_at (x ∷ xs) sites i same lt all =
    let here : drop i sites ≡ get_or (x ∷ xs) i x ∷ drop (i + 1) sites = rw (← same) (drop_more (x ∷ xs) i x lt) in
    let both : AreInside len text_at (get_or (x ∷ xs) i x ∷ drop (i + 1) sites) = subst (AreInside len text_at) here all in
    both.2

pub no_more : (m : List ℕ) (text_at : ℕ) (sites : List Site) (i : ℕ) → length sites ≤ i → patched m text_at (drop i sites) ≡ m
unfolding patched
no_more m text_at sites i le = ap (patched m text_at) (drop_all i sites le)
