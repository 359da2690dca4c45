-- Reading sites of format 2 one after the other, as a loop does.
use Rattle.std.proofs.Common.{◌≡◌, ℕ, suc, ◌+◌, ◌*◌, ◌-◌, ◌<◌, ◌≤◌, List, [], ◌∷◌, ◌++◌, length, Some, None, Ok, Err, refl, sym, ap, ◌∙◌, arith, lt-ltb, le-ltb, append_assoc}
use Rattle.std.proofs.lemmas.List.{append-nil}
use Rattle.guest_ram.specs.Bytes.{word32}
use Rattle.sites.specs.declared.site.Site.{Site}
use Rattle.sites.specs.SitesParts.{SitesParts}
use Rattle.sites.specs.Reading.{head_fault}
use Rattle.sites.specs.Gapped.{end_at, gap_fault, gaps_fault, gap_site, gap_sites, gapped_in}

abbrev pub in_second : List Site → SitesParts
in_second sites = record { list = sites; format = 2 }

pub head_is_bad : (bytes : List ℕ) (at : ℕ) → head_fault bytes 50 ≡ Some at → gapped_in bytes ≡ Err at
unfolding gapped_in
head_is_bad bytes at e = rw e refl

pub site_is_bad : (bytes : List ℕ) (n at : ℕ) → head_fault bytes 50 ≡ None → n ≡ word32 bytes 4 → gaps_fault bytes 0 n 8 ≡ Some at
    → gapped_in bytes ≡ Err at
unfolding gapped_in
site_is_bad bytes n at e count h =
    let there : gaps_fault bytes 0 (word32 bytes 4) 8 ≡ Some at = ap (λ (k : ℕ). gaps_fault bytes 0 k 8) (sym count) ∙ h in
    rw (e, there) refl

pub none_is_bad : (bytes : List ℕ) (n : ℕ) (sites : List Site) → head_fault bytes 50 ≡ None → n ≡ word32 bytes 4
    → gaps_fault bytes 0 n 8 ≡ None → sites ≡ gap_sites bytes 0 n 8 → gapped_in bytes ≡ Ok (record { list = sites; format = 2 })
unfolding gapped_in
none_is_bad bytes n sites e count h are =
    let there : gaps_fault bytes 0 (word32 bytes 4) 8 ≡ None = ap (λ (k : ℕ). gaps_fault bytes 0 k 8) (sym count) ∙ h in
    let all : sites ≡ gap_sites bytes 0 (word32 bytes 4) 8 = are ∙ ap (λ (k : ℕ). gap_sites bytes 0 k 8) count in
    rw (e, there) (ap (λ (v : List Site). Ok (in_second v)) (sym all))

pub here_bad : (bytes : List ℕ) (from n i at : ℕ) → i < n → gap_fault bytes from (8 + 5 * i) ≡ Some at
    → gaps_fault bytes from (n - i) (8 + 5 * i) ≡ Some at
unfolding gaps_fault
here_bad bytes from n i at lt e =
    let left : n - i ≡ suc (n - (i + 1)) = omega arith in
    rw (left, e) refl

pub here_good : (bytes : List ℕ) (from n i : ℕ) → i < n → gap_fault bytes from (8 + 5 * i) ≡ None
    → gaps_fault bytes from (n - i) (8 + 5 * i) ≡ gaps_fault bytes (end_at bytes from (8 + 5 * i)) (n - (i + 1)) (8 + 5 * (i + 1))
unfolding gaps_fault
here_good bytes from n i lt e =
    let left : n - i ≡ suc (n - (i + 1)) = omega arith in
    let next : 8 + 5 * i + 5 ≡ 8 + 5 * (i + 1) = omega arith in
    rw (left, e, next) refl

pub one_more : (bytes : List ℕ) (from : ℕ) (sites : List Site) (n i : ℕ) → i < n → sites
    ++ gap_sites bytes from (n - i) (8 + 5 * i) ≡ (sites ++ gap_site bytes from (8 + 5 * i) ∷ [])
    ++ gap_sites bytes (end_at bytes from (8 + 5 * i)) (n - (i + 1)) (8 + 5 * (i + 1))
unfolding gap_sites
one_more bytes from sites n i lt =
    let left : n - i ≡ suc (n - (i + 1)) = omega arith in
    let next : 8 + 5 * i + 5 ≡ 8 + 5 * (i + 1) = omega arith in
    rw (left, next) (sym (append_assoc sites (gap_site bytes from (8 + 5 * i) ∷ [])
    (gap_sites bytes (end_at bytes from (8 + 5 * i)) (n - (i + 1)) (8 + 5 * (i + 1)))))

pub end_good : (bytes : List ℕ) (from n i : ℕ) → n ≤ i → i ≤ n → length bytes ≤ 8 + 5 * n → gaps_fault bytes from (n - i) (8 + 5 * i) ≡ None
unfolding gaps_fault
end_good bytes from n i le ge short =
    let left : n - i ≡ 0 = omega arith in
    rw (left, le-ltb (8 + 5 * i) (length bytes) (omega arith)) refl

pub end_bad : (bytes : List ℕ) (from n i : ℕ) → n ≤ i → i ≤ n → 8 + 5 * n < length bytes
    → gaps_fault bytes from (n - i) (8 + 5 * i) ≡ Some (8 + 5 * n)
unfolding gaps_fault
end_bad bytes from n i le ge long =
    let left : n - i ≡ 0 = omega arith in
    let same : i ≡ n = omega arith in
    rw (left, lt-ltb (8 + 5 * i) (length bytes) (omega arith)) (ap (λ (k : ℕ). Some (8 + 5 * k)) same)

pub at_end : (bytes : List ℕ) (from : ℕ) (sites : List Site) (n i : ℕ) → n ≤ i → sites ++ gap_sites bytes from (n - i) (8 + 5 * i) ≡ sites
unfolding gap_sites
at_end bytes from sites n i le =
    let left : n - i ≡ 0 = omega arith in
    rw left (append-nil sites)

pub gap_site-end : (bytes : List ℕ) (from a : ℕ) → (gap_site bytes from a).at + (gap_site bytes from a).total ≡ end_at bytes from a
unfolding gap_site
gap_site-end bytes from a = refl
