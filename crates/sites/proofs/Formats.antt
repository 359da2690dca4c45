-- Reading and writing are inverse to each other in both formats, and the format is part of the value.
use Rattle.std.proofs.Common.{◌≡◌, ℕ, zero, suc, ◌+◌, ◌*◌, ◌<◌, ◌≤◌, ◌^◌, Bool, true, false, eqb, ltb, List, length, inl, inr, Result, Ok, Err, refl, sym, ap, ◌∙◌, subst, arith, length-append}
use Rattle.std.specs.Prelude.{IfOk, cond}
use Rattle.std.specs.List.{flat_map}
use Rattle.std.specs.Int.{w32, to_le_bytes}
use Rattle.std.specs.Option.{option_or}
use Rattle.std.proofs.lemmas.Bool.{le-ltb}
use Rattle.plain_laws.proofs.Options.{else_none}
use Rattle.guest_ram.specs.Bytes.{byte, word32, AreBytes}
use Rattle.sites.specs.declared.site.Site.{Site}
use Rattle.sites.specs.declared.site.SitesFault.{SitesFault}
use Rattle.sites.specs.SitesParts.{SitesParts}
use Rattle.sites.specs.Spelling.{site, placed, gaps, gapped, spelling}
use Rattle.sites.specs.Form.{IsInForm}
use Rattle.sites.specs.Reading.{head_fault, sites_fault, sites_at, placed_in}
use Rattle.sites.specs.Answers.{Gives}
use Rattle.sites.specs.Gapped.{end_at, gaps_fault, gap_sites, gapped_in}
use Rattle.sites.specs.Formats.{told_format, told_count, sites_in, list_of, listed}
use Rattle.sites.proofs.Walk.{in_first}
use Rattle.sites.proofs.Inverse.{unless_ok, head_was, placed_read, placed_was, length-sites}
use Rattle.sites.proofs.GapWalk.{in_second}
use Rattle.sites.proofs.GapInverse.{gapped_read, gapped_was, length-gaps}

-- the fourth byte
placed-fourth : (sites : List Site) → byte (placed sites) 3 ≡ 49
unfolding placed byte
placed-fourth sites = refl

gapped-fourth : (sites : List Site) → byte (gapped sites) 3 ≡ 50
unfolding gapped byte
gapped-fourth sites = refl

first_read : (sites : List Site) → placed_in (placed sites) ≡ Ok (in_first sites) → sites_in (placed sites) ≡ Ok (in_first sites)
unfolding sites_in
first_read sites h = ap (λ (n : ℕ). cond (eqb n 50) (gapped_in (placed sites)) (placed_in (placed sites))) (placed-fourth sites) ∙ h

second_read : (sites : List Site) → gapped_in (gapped sites) ≡ Ok (in_second sites) → sites_in (gapped sites) ≡ Ok (in_second sites)
unfolding sites_in
second_read sites h = ap (λ (n : ℕ). cond (eqb n 50) (gapped_in (gapped sites)) (placed_in (gapped sites))) (gapped-fourth sites) ∙ h

-- of a value whose format is a number
abbrev pub of_format : List Site → ℕ → SitesParts
of_format sites format = record { list = sites; format = format }

first_spelled : (sites : List Site) → sites_in (placed sites) ≡ Ok (in_first sites)
    → sites_in (spelling (of_format sites 1)) ≡ Ok (of_format sites 1)
unfolding spelling
first_spelled sites h = h

second_spelled : (sites : List Site) → sites_in (gapped sites) ≡ Ok (in_second sites)
    → sites_in (spelling (of_format sites 2)) ≡ Ok (of_format sites 2)
unfolding spelling
second_spelled sites h = h

pub spelled_read : (s : SitesParts) → IsInForm s → length s.list < 2 ^ 32 → sites_in (spelling s) ≡ Ok s
spelled_read s (inl (is, are)) few = subst (λ (n : ℕ). sites_in (spelling (of_format s.list n)) ≡ Ok (of_format s.list n)) (sym is)
    (first_spelled s.list (first_read s.list (placed_read s.list are few)))
spelled_read s (inr (is, are)) few = subst (λ (n : ℕ). sites_in (spelling (of_format s.list n)) ≡ Ok (of_format s.list n)) (sym is)
    (second_spelled s.list (second_read s.list (gapped_read s.list are few)))

spelling_first : (s : SitesParts) → s.format ≡ 1 → spelling s ≡ placed s.list
unfolding spelling
spelling_first s is = ap (λ (n : ℕ). cond (eqb n 2) (gapped s.list) (placed s.list)) is

spelling_second : (s : SitesParts) → s.format ≡ 2 → spelling s ≡ gapped s.list
unfolding spelling
spelling_second s is = ap (λ (n : ℕ). cond (eqb n 2) (gapped s.list) (placed s.list)) is

in_either : (bytes : List ℕ) (s : SitesParts) (b : Bool) → eqb (byte bytes 3) 50 ≡ b → sites_in bytes ≡ Ok s
    → cond b (gapped_in bytes) (placed_in bytes) ≡ Ok s
unfolding sites_in
in_either bytes s b is e = subst (λ (x : Bool). cond x (gapped_in bytes) (placed_in bytes) ≡ Ok s) is e

pub read_spelled : (bytes : List ℕ) (s : SitesParts) → AreBytes bytes → sites_in bytes ≡ Ok s → (bytes ≡ spelling s) × IsInForm s
read_spelled bytes s fits e = by (eqb (byte bytes 3) 50) (in_either bytes s (eqb (byte bytes 3) 50) refl e)
  where
    by : (b : Bool) → cond b (gapped_in bytes) (placed_in bytes) ≡ Ok s → (bytes ≡ spelling s) × IsInForm s
    by true h = let was = gapped_was bytes s fits h in (was.0 ∙ sym (spelling_second s was.2), inr (was.2, was.1))
    by false h = let was = placed_was bytes s fits h in (was.0 ∙ sym (spelling_first s was.2), inl (was.2, was.1))

-- ---- the format that the bytes give

first_is : (bytes : List ℕ) (s : SitesParts) → placed_in bytes ≡ Ok s → s.format ≡ 1
unfolding placed_in
first_is bytes s e = ap (λ (x : SitesParts). x.format) (sym (unless_ok _ _ s e).1)

second_is : (bytes : List ℕ) (s : SitesParts) → gapped_in bytes ≡ Ok s → s.format ≡ 2
unfolding gapped_in
second_is bytes s e = ap (λ (x : SitesParts). x.format) (sym (unless_ok _ _ s e).1)

pub told : (bytes : List ℕ) (s : SitesParts) → sites_in bytes ≡ Ok s → s.format ≡ told_format bytes
unfolding told_format
told bytes s e = by (eqb (byte bytes 3) 50) (in_either bytes s (eqb (byte bytes 3) 50) refl e)
  where
    by : (b : Bool) → cond b (gapped_in bytes) (placed_in bytes) ≡ Ok s → s.format ≡ cond b 2 1
    by true h = second_is bytes s h
    by false h = first_is bytes s h

same_parts : (s t : SitesParts) → s.list ≡ t.list → s.format ≡ t.format → s ≡ t
same_parts s t p q = λ j. record { list = p j; format = q j }

-- a list with its format
pub whole : (bytes : List ℕ) (sites : List Site) → listed bytes ≡ Ok sites → sites_in bytes ≡ Ok (of_format sites (told_format bytes))
whole bytes sites e = by (sites_in bytes) refl e
  where
    by : (r : Result SitesParts ℕ) → sites_in bytes ≡ r → list_of r ≡ Ok sites → sites_in bytes ≡ Ok (of_format sites (told_format bytes))
    by (Ok s) is h = is ∙ ap (λ (x : SitesParts). Ok x) (same_parts s (of_format sites (told_format bytes)) (cc) (told bytes s is))
    by (Err at) is h = cc

pub if_told : (bytes : List ℕ) (r : Result SitesParts SitesFault) → Gives r (sites_in bytes) → IfOk r (λ s. s.format ≡ told_format bytes)
if_told bytes (Ok s) given = told bytes s given
if_told bytes (Err e) given = tt

-- ---- the count that the bytes give

length-sites_at : (bytes : List ℕ) (n a : ℕ) → length (sites_at bytes n a) ≡ n
unfolding sites_at
length-sites_at bytes zero a = refl
length-sites_at bytes (suc n) a = ap suc (length-sites_at bytes n (a + 8))

length-gap_sites : (bytes : List ℕ) (from n a : ℕ) → length (gap_sites bytes from n a) ≡ n
unfolding gap_sites
length-gap_sites bytes from zero a = refl
length-gap_sites bytes from (suc n) a = ap suc (length-gap_sites bytes (end_at bytes from a) n (a + 5))

first_count : (bytes : List ℕ) (s : SitesParts) → placed_in bytes ≡ Ok s → (8 ≤ length bytes) × (length s.list ≡ word32 bytes 4)
unfolding placed_in
first_count bytes s e =
    let ok = unless_ok (option_or (head_fault bytes 49) (sites_fault bytes 0 (word32 bytes 4) 8))
    (in_first (sites_at bytes (word32 bytes 4) 8)) s e in (
      (head_was bytes 49 (else_none (head_fault bytes 49) (sites_fault bytes 0 (word32 bytes 4) 8) ok.0).0).0,
      ap (λ (x : SitesParts). length x.list) (sym ok.1) ∙ length-sites_at bytes (word32 bytes 4) 8,
    )

second_count : (bytes : List ℕ) (s : SitesParts) → gapped_in bytes ≡ Ok s → (8 ≤ length bytes) × (length s.list ≡ word32 bytes 4)
unfolding gapped_in
second_count bytes s e =
    let ok = unless_ok (option_or (head_fault bytes 50) (gaps_fault bytes 0 (word32 bytes 4) 8))
    (in_second (gap_sites bytes 0 (word32 bytes 4) 8)) s e in (
      (head_was bytes 50 (else_none (head_fault bytes 50) (gaps_fault bytes 0 (word32 bytes 4) 8) ok.0).0).0,
      ap (λ (x : SitesParts). length x.list) (sym ok.1) ∙ length-gap_sites bytes 0 (word32 bytes 4) 8,
    )

counted_on : (b : Bool) (n m : ℕ) → b ≡ false → m ≡ n → m ≡ cond b 0 n
counted_on true n m below is = cc
counted_on false n m below is = is

pub counted : (bytes : List ℕ) (s : SitesParts) → sites_in bytes ≡ Ok s → length s.list ≡ told_count bytes
unfolding told_count
counted bytes s e = by (eqb (byte bytes 3) 50) (in_either bytes s (eqb (byte bytes 3) 50) refl e)
  where
    of_count : (8 ≤ length bytes) × (length s.list ≡ word32 bytes 4) → length s.list ≡ cond (ltb (length bytes) 8) 0 (word32 bytes 4)
    of_count (room, is) = counted_on (ltb (length bytes) 8) (word32 bytes 4) (length s.list) (le-ltb (length bytes) 8 room) is

    by : (b : Bool) → cond b (gapped_in bytes) (placed_in bytes) ≡ Ok s → length s.list ≡ cond (ltb (length bytes) 8) 0 (word32 bytes 4)
    by true h = of_count (second_count bytes s h)
    by false h = of_count (first_count bytes s h)

pub if_counted : (bytes : List ℕ) (r : Result SitesParts SitesFault) → Gives r (sites_in bytes)
    → IfOk r (λ s. length s.list ≡ told_count bytes)
if_counted bytes (Ok s) given = counted bytes s given
if_counted bytes (Err e) given = tt

-- ---- of what `read_sites` and `write_sites` returned

pub if_spelled : (bytes : List ℕ) (r : Result SitesParts SitesFault) → AreBytes bytes → Gives r (sites_in bytes)
    → IfOk r (λ s. (bytes ≡ spelling s) × IsInForm s)
if_spelled bytes (Ok s) fits given = read_spelled bytes s fits given
if_spelled bytes (Err e) fits given = tt

pub length-placed : (sites : List Site) → length (placed sites) ≡ 8 + 8 * length sites
unfolding placed
length-placed sites = omega (arith, length-append (to_le_bytes w32 (length sites)) (flat_map site sites), length-sites sites)

pub length-gapped : (sites : List Site) → length (gapped sites) ≡ 8 + 5 * length sites
unfolding gapped
length-gapped sites = omega (arith, length-append (to_le_bytes w32 (length sites)) (gaps 0 sites), length-gaps 0 sites)

-- at least five bytes a site
fewest : (s : SitesParts) → IsInForm s → 8 + 5 * length s.list ≤ length (spelling s)
fewest s (inl (is, are)) = omega (arith, ap length (spelling_first s is), length-placed s.list)
fewest s (inr (is, are)) = omega (arith, ap length (spelling_second s is), length-gapped s.list)

pub only_spelled : (bytes : List ℕ) (r : Result SitesParts SitesFault) → length bytes < 2 ^ 32 → Gives r (sites_in bytes)
    → (sites : SitesParts) → IsInForm sites → bytes ≡ spelling sites → Gives r (Ok sites)
only_spelled bytes r small given sites are is =
    let few : length sites.list < 2 ^ 32 = omega (arith, ap length is, fewest sites are) in
    subst (λ (read : Result SitesParts ℕ). Gives r read) (ap sites_in is ∙ spelled_read sites are few) given
