-- Reading sites of format 1 one after the other, as a loop does.
use Rattle.std.proofs.Common.{◌≡◌, ℕ, suc, ◌+◌, ◌*◌, ◌-◌, ◌<◌, ◌≤◌, List, [], ◌∷◌, ◌++◌, length, Some, None, Ok, Err, refl, sym, ap, ◌∙◌, arith, lt-ltb, le-ltb, append_assoc}
use Rattle.std.proofs.lemmas.List.{append-nil}
use Rattle.guest_ram.specs.Bytes.{word32}
use Rattle.sites.specs.declared.site.Site.{Site}
use Rattle.sites.specs.SitesParts.{SitesParts}
use Rattle.sites.specs.Reading.{head_fault, site_fault, sites_fault, site_at, sites_at, placed_in}

abbrev pub in_first : List Site → SitesParts
in_first sites = record { list = sites; format = 1 }

pub head_is_bad : (bytes : List ℕ) (at : ℕ) → head_fault bytes 49 ≡ Some at → placed_in bytes ≡ Err at
unfolding placed_in
head_is_bad bytes at e = rw e refl

pub site_is_bad : (bytes : List ℕ) (n at : ℕ) → head_fault bytes 49 ≡ None → n ≡ word32 bytes 4 → sites_fault bytes 0 n 8 ≡ Some at
    → placed_in bytes ≡ Err at
unfolding placed_in
site_is_bad bytes n at e count h =
    let there : sites_fault bytes 0 (word32 bytes 4) 8 ≡ Some at = ap (λ (k : ℕ). sites_fault bytes 0 k 8) (sym count) ∙ h in
    rw (e, there) refl

pub none_is_bad : (bytes : List ℕ) (n : ℕ) (sites : List Site) → head_fault bytes 49 ≡ None → n ≡ word32 bytes 4
    → sites_fault bytes 0 n 8 ≡ None → sites ≡ sites_at bytes n 8 → placed_in bytes ≡ Ok (record { list = sites; format = 1 })
unfolding placed_in
none_is_bad bytes n sites e count h are =
    let there : sites_fault bytes 0 (word32 bytes 4) 8 ≡ None = ap (λ (k : ℕ). sites_fault bytes 0 k 8) (sym count) ∙ h in
    let all : sites ≡ sites_at bytes (word32 bytes 4) 8 = are ∙ ap (λ (k : ℕ). sites_at bytes k 8) count in
    rw (e, there) (ap (λ (v : List Site). Ok (in_first v)) (sym all))

pub here_bad : (bytes : List ℕ) (least n i at : ℕ) → i < n → site_fault bytes least (8 + 8 * i) ≡ Some at
    → sites_fault bytes least (n - i) (8 + 8 * i) ≡ Some at
unfolding sites_fault
here_bad bytes least n i at lt e =
    let left : n - i ≡ suc (n - (i + 1)) = omega arith in
    rw (left, e) refl

pub here_good : (bytes : List ℕ) (least n i : ℕ) → i < n → site_fault bytes least (8 + 8 * i) ≡ None
    → sites_fault bytes least (n - i) (8 + 8 * i) ≡ sites_fault bytes (word32 bytes (8 + 8 * i) + 1) (n - (i + 1)) (8 + 8 * (i + 1))
unfolding sites_fault
here_good bytes least n i lt e =
    let left : n - i ≡ suc (n - (i + 1)) = omega arith in
    let next : 8 + 8 * i + 8 ≡ 8 + 8 * (i + 1) = omega arith in
    rw (left, e, next) refl

pub one_more : (bytes : List ℕ) (sites : List Site) (n i : ℕ) → i < n → sites
    ++ sites_at bytes (n - i) (8 + 8 * i) ≡ (sites ++ site_at bytes (8 + 8 * i) ∷ []) ++ sites_at bytes (n - (i + 1)) (8 + 8 * (i + 1))
unfolding sites_at
one_more bytes sites n i lt =
    let left : n - i ≡ suc (n - (i + 1)) = omega arith in
    let next : 8 + 8 * i + 8 ≡ 8 + 8 * (i + 1) = omega arith in
    rw (left, next) (sym (append_assoc sites (site_at bytes (8 + 8 * i) ∷ []) (sites_at bytes (n - (i + 1)) (8 + 8 * (i + 1)))))

pub end_good : (bytes : List ℕ) (least n i : ℕ) → n ≤ i → i ≤ n → length bytes ≤ 8 + 8 * n
    → sites_fault bytes least (n - i) (8 + 8 * i) ≡ None
unfolding sites_fault
end_good bytes least n i le ge short =
    let left : n - i ≡ 0 = omega arith in
    rw (left, le-ltb (8 + 8 * i) (length bytes) (omega arith)) refl

pub end_bad : (bytes : List ℕ) (least n i : ℕ) → n ≤ i → i ≤ n → 8 + 8 * n < length bytes
    → sites_fault bytes least (n - i) (8 + 8 * i) ≡ Some (8 + 8 * n)
unfolding sites_fault
end_bad bytes least n i le ge long =
    let left : n - i ≡ 0 = omega arith in
    let same : i ≡ n = omega arith in
    rw (left, lt-ltb (8 + 8 * i) (length bytes) (omega arith)) (ap (λ (k : ℕ). Some (8 + 8 * k)) same)

pub at_end : (bytes : List ℕ) (sites : List Site) (n i : ℕ) → n ≤ i → sites ++ sites_at bytes (n - i) (8 + 8 * i) ≡ sites
unfolding sites_at
at_end bytes sites n i le =
    let left : n - i ≡ 0 = omega arith in
    rw left (append-nil sites)

pub site_at-at : (bytes : List ℕ) (a : ℕ) → (site_at bytes a).at ≡ word32 bytes a
unfolding site_at
site_at-at bytes a = refl
