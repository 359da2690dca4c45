-- The instructions and the sites of an accepted image.
use Rattle.std.proofs.Common.{◌≡◌, ℕ, ◌+◌, ◌<◌, ◌≤◌, Bool, true, false, cond, Option, List, [], ◌∷◌, length, take, drop, map, Some, None, refl, sym, ap, subst, ◌∙◌, inl, inr, ◌⊎◌, arith, nat_lt}
use Rattle.std.specs.Prelude.{◌↔◌, nat_le, ◌&&◌, ◌||◌, is_some}
use Rattle.std.specs.List.{list_any, find, Contains}
use Rattle.std.proofs.lemmas.Bool.Decides.{nat_tests}
use Rattle.std.proofs.lemmas.List.{take-append-drop}
use Rattle.guest_ram.specs.Among.{is_among}
use Rattle.ia32_rows.specs.Spells.{AreBytes}
use Rattle.ia32_rows.proofs.Readers.{AreBytes-append}
use Rattle.sites.specs.declared.site.Site.{Site}
use Rattle.image_check.specs.Image.{Image}
use Rattle.image_check.specs.Sweep.{Swept, swept_or_none, starts_of}
use Rattle.image_check.specs.SweptTexts.{SweepsTo, Sweep}
use Rattle.image_check.specs.Pieces.{piece_of}
use Rattle.image_check.specs.TextSites.{found_in}
use Rattle.image_check.specs.Accepts.{IsAccepted}
use Rattle.image_check.specs.Layout.{AreApart}
use Rattle.image_check.specs.Places.{is_start}
use Rattle.image_check.specs.Standing.{swept_of, lies_in, site_at, is_in_site}
use Rattle.image_check.proofs.SweepLaws.{sweep_exact}
use Rattle.image_check.proofs.Acceptance.{were_found}
use Rattle.image_check.proofs.Starts.{contains_any, any_contains}
use Rattle.image_check.proofs.Laid.{Laid, Lies, laid, first_in, later_in, first_or_later, none_in, apart_bounds}

-- ---- the sweep

swept_bytes : (from : ℕ) (bytes : List ℕ) (swept : List Swept) (to : ℕ) → SweepsTo from bytes swept to [] → AreBytes bytes
swept_bytes from bytes [] to h = subst AreBytes (sym h.1) tt
swept_bytes from bytes (s ∷ swept) to h =
    subst AreBytes (take-append-drop s.len bytes)
    (AreBytes-append (take s.len bytes) (drop s.len bytes) h.1.front.by_row.fit
    (swept_bytes (from + s.len) (drop s.len bytes) swept to h.2))

pub text_fits : (image : Image) → IsAccepted image → AreBytes image.text
text_fits image h = swept_bytes 0 image.text h.swept (length image.text) h.sweep

pub swept_is : (image : Image) (h : IsAccepted image) → swept_of image.text ≡ h.swept
unfolding swept_of
swept_is image h = ap swept_or_none ((sweep_exact image.text (text_fits image h) h.swept).1 h.sweep)

pub sweeps : (image : Image) → IsAccepted image → Sweep image.text (swept_of image.text)
sweeps image h = subst (Sweep image.text) (sym (swept_is image h)) h.sweep

-- ---- the sites

pub laid_in : (image : Image) → IsAccepted image → Laid 0 (swept_of image.text) image.sites (length image.text)
laid_in image h =
    let found = were_found image.sites (found_in (map piece_of h.swept)).sites (found_in (map piece_of h.swept)).lacking h.sites in
    subst (λ (swept : List Swept). Laid 0 swept image.sites (length image.text)) (sym (swept_is image h))
    (subst (λ (sites : List Site). Laid 0 h.swept sites (length image.text)) found.1
    (laid 0 image.text h.swept (length image.text) [] h.sweep found.0))

pub apart : (image : Image) → IsAccepted image → AreApart 0 image.sites (length image.text)
apart image h = (laid_in image h).apart

pub lies : (image : Image) → IsAccepted image → (s : Swept) → Contains (swept_of image.text) s → Lies 0 image.sites s
lies image h s c = (laid_in image h).each s c

-- ---- starts

pub start_exact : (text : List ℕ) (at : ℕ) → (is_start text at ≡ true) ↔ Contains (starts_of text) at
unfolding is_start
start_exact text at = (any_contains (starts_of text) at, contains_any (starts_of text) at)

pub starts_are : (text : List ℕ) → starts_of text ≡ map (λ (s : Swept). s.at) (swept_of text)
unfolding starts_of swept_of
starts_are text = refl

mapped : (swept : List Swept) (at : ℕ) → Contains (map (λ (s : Swept). s.at) swept) at → (s : Swept) × Contains swept s × (s.at ≡ at)
mapped [] at c = absurd (none_in at c)
mapped (s ∷ swept) at c =
    elim (first_or_later s.at (map (λ (t : Swept). t.at) swept) at c) [
      | inl e ↦ (s, first_in s swept, e)
      | inr d ↦ let later = mapped swept at d in (later.0, later_in s swept later.0 later.1, later.2)
    ]

unmapped : (swept : List Swept) (s : Swept) → Contains swept s → Contains (map (λ (t : Swept). t.at) swept) s.at
unmapped [] s c = absurd (none_in s c)
unmapped (t ∷ swept) s c =
    elim (first_or_later t swept s c) [
      | inl e ↦ subst (λ (u : Swept). Contains (map (λ (v : Swept). v.at) (t ∷ swept)) u.at) e
          (first_in t.at (map (λ (v : Swept). v.at) swept))
      | inr d ↦ later_in t.at (map (λ (v : Swept). v.at) swept) s.at (unmapped swept s d)
    ]

pub start_is_among : (text : List ℕ) (at : ℕ) → is_start text at ≡ is_among at (starts_of text)
unfolding is_start
start_is_among text at = refl

pub started : (text : List ℕ) (at : ℕ) → is_start text at ≡ true → (s : Swept) × Contains (swept_of text) s × (s.at ≡ at)
started text at e = mapped (swept_of text) at (subst (λ (ks : List ℕ). Contains ks at) (starts_are text) ((start_exact text at).0 e))

pub starts : (text : List ℕ) (s : Swept) → Contains (swept_of text) s → is_start text s.at ≡ true
starts text s c =
    (start_exact text s.at).1 (subst (λ (ks : List ℕ). Contains ks s.at) (sym (starts_are text)) (unmapped (swept_of text) s c))

-- ---- the site of an offset

-- a test of all sites says whether one is found
found_by : (b : Bool) (s : Site) (o : Option Site) → is_some (cond b (Some s) o) ≡ (b || is_some o)
found_by true s o = refl
found_by false s o = refl

found_any : (test : Site → Bool) (sites : List Site) → is_some (find test sites) ≡ list_any test sites
found_any test [] = refl
found_any test (s ∷ sites) = found_by (test s) s (find test sites) ∙ ap (λ b. test s || b) (found_any test sites)

pub site_any : (sites : List Site) (at : ℕ) → is_in_site sites at ≡ list_any (lies_in at) sites
unfolding site_at
site_any sites at = found_any (lies_in at) sites

lies_is : (at : ℕ) (s : Site) → s.at ≤ at → at < s.at + s.total → lies_in at s ≡ true
lies_is at s le lt = grind (arith, nat_tests)

lies_so : (at : ℕ) (s : Site) → lies_in at s ≡ true → (s.at ≤ at) × (at < s.at + s.total)
lies_so at s e = both_tests (nat_le s.at at) (nat_lt at (s.at + s.total)) refl refl e where
  le_so : nat_le s.at at ≡ true → s.at ≤ at
  le_so t = grind (arith, nat_tests)

  lt_so : nat_lt at (s.at + s.total) ≡ true → at < s.at + s.total
  lt_so t = grind (arith, nat_tests)

  both_tests : (a b : Bool) → nat_le s.at at ≡ a → nat_lt at (s.at + s.total) ≡ b → (a && b) ≡ true → (s.at ≤ at) × (at < s.at + s.total)
  both_tests true true p q t = (le_so p, lt_so q)
  both_tests true false p q t = absurd cc
  both_tests false b p q t = absurd cc

past_is : (at : ℕ) (s : Site) → (at < s.at) ⊎ (s.at + s.total ≤ at) → lies_in at s ≡ false
past_is at s h = grind (arith, nat_tests)

past_so : (at : ℕ) (s : Site) → lies_in at s ≡ false → (at < s.at) ⊎ (s.at + s.total ≤ at)
past_so at s e = grind (arith, nat_tests)

site_first : (at : ℕ) (s : Site) (sites : List Site) → site_at (s ∷ sites) at ≡ cond (lies_in at s) (Some s) (site_at sites at)
unfolding site_at
site_first at s sites = refl

no_sites : (at : ℕ) → site_at [] at ≡ None
unfolding site_at
no_sites at = refl

some_first : (at : ℕ) (s : Site) (sites : List Site) (site : Site) (b : Bool) → lies_in at s ≡ b
    → cond b (Some s) (site_at sites at) ≡ Some site → ((s ≡ site) × (lies_in at s ≡ true)) ⊎ (site_at sites at ≡ Some site)
some_first at s sites site true is e = let same : s ≡ site = cc in inl (same, is)
some_first at s sites site false is e = inr e

pub site_listed : (at : ℕ) (sites : List Site) (site : Site) → site_at sites at ≡ Some site → Contains sites site × (site.at ≤ at)
    × (at < site.at + site.total)
site_listed at [] site e = absurd (let f = sym (no_sites at) ∙ e in cc)
site_listed at (s ∷ sites) site e =
    elim (some_first at s sites site (lies_in at s) refl (sym (site_first at s sites) ∙ e)) [
      | inl here ↦ subst (λ (t : Site). Contains (s ∷ sites) t × (t.at ≤ at) × (at < t.at + t.total)) here.0 (let l = lies_so at s here.1 in
          (first_in s sites, l.0, l.1))
      | inr later ↦ let l = site_listed at sites site later in (later_in s sites site l.0, l.1, l.2)
    ]

pub listed_site : (from at : ℕ) (sites : List Site) (to : ℕ) → AreApart from sites to → (site : Site) → Contains sites site → site.at ≤ at
    → at < site.at + site.total → site_at sites at ≡ Some site
listed_site from at [] to h site c le lt = absurd (none_in site c)
listed_site from at (s ∷ sites) to h site c le lt =
    elim (first_or_later s sites site c) [
      | inl e ↦ subst (λ (t : Site). site_at (s ∷ sites) at ≡ Some t) e
          (site_first at s sites ∙ ap (λ b. cond b (Some s) (site_at sites at))
          (lies_is at s (subst (λ (t : Site). t.at ≤ at) (sym e) le) (subst (λ (t : Site). at < t.at + t.total) (sym e) lt)))
      | inr d ↦
          let above = (apart_bounds (s.at + s.total) sites to h.2 site d).0 in
          site_first at s sites ∙ ap (λ b. cond b (Some s) (site_at sites at)) (past_is at s (inr (omega (arith, above, le))))
          ∙ listed_site (s.at + s.total) at sites to h.2 site d le lt
    ]

none_first : (at : ℕ) (s : Site) (sites : List Site) (b : Bool) → lies_in at s ≡ b → cond b (Some s) (site_at sites at) ≡ None
    → (lies_in at s ≡ false) × (site_at sites at ≡ None)
none_first at s sites true is e = absurd cc
none_first at s sites false is e = (is, e)

pub none_around : (at : ℕ) (sites : List Site) → site_at sites at ≡ None → (site : Site) → Contains sites site → (at < site.at)
    ⊎ (site.at + site.total ≤ at)
none_around at [] e site c = absurd (none_in site c)
none_around at (s ∷ sites) e site c =
    let f = none_first at s sites (lies_in at s) refl (sym (site_first at s sites) ∙ e) in
    elim (first_or_later s sites site c) [
      | inl same ↦ subst (λ (t : Site). (at < t.at) ⊎ (t.at + t.total ≤ at)) same (past_so at s f.0)
      | inr d ↦ none_around at sites f.1 site d
    ]

pub around_none : (at : ℕ) (sites : List Site) → ((site : Site) → Contains sites site → (at < site.at) ⊎ (site.at + site.total ≤ at))
    → site_at sites at ≡ None
around_none at [] h = no_sites at
around_none at (s ∷ sites) h =
    site_first at s sites ∙ ap (λ b. cond b (Some s) (site_at sites at)) (past_is at s (h s (first_in s sites)))
    ∙ around_none at sites (λ site c. h site (later_in s sites site c))
