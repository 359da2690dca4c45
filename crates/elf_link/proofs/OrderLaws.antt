-- The first object that is refused, the first relocation, and the order of the causes.
use Rattle.std.proofs.Common.{◌≡◌, ℕ, zero, suc, ◌+◌, ◌<◌, ◌≤◌, Bool, true, false, List, [], ◌∷◌, length, Option, Some, None, Ok, Err, refl, ap, sym, ◌∙◌, subst, slice_get, ◌||◌, arith}
use Rattle.std.specs.Prelude.{sum_by, nat_lt}
use Rattle.std.specs.List.{enumerate_from, list_any}
use Rattle.std.specs.Option.{option_or}
use Rattle.std.proofs.lemmas.Bool.{le-ltb, lt-ltb}
use Rattle.elf_form.specs.ObjectParts.{ObjectParts}
use Rattle.elf_form.specs.declared.object.Reloc.{Reloc}
use Rattle.sites.specs.declared.limits.TheConstants.{TEXT_LIMIT, SITE_LIMIT}
use Rattle.sites.specs.declared.site.Site.{Site}
use Rattle.sites.specs.Formats.{sites_in}
use Rattle.sites.specs.SitesParts.{SitesParts}
use Rattle.elf_link.specs.declared.fault.LinkCause.{LinkCause}
use Rattle.elf_link.specs.declared.fault.LinkCause.TheVariants.{NotText, TextTooLarge, InitTooLarge, TooManySymbols, SitesForm}
use Rattle.elf_link.specs.declared.target.Target.{Target}
use Rattle.elf_link.specs.Layout.{text_end, memory_end, numbered}
use Rattle.elf_link.specs.Symbols.{is_text}
use Rattle.elf_link.specs.Sites.{sites_of, sites_wrong, misplaced, crowded}
use Rattle.elf_form.specs.Tables.{first_some}
use Rattle.elf_link.specs.Refusals.{Refused, refused, object_cause, object_refusal, relocs_refusal, start, start_refusal, refusal, doubled, doubled_cause}
use Rattle.elf_link.specs.Order.{IsFirstRefused, IsFirstCause, up_to, symbol_count, TextFits, MemoryFits, SymbolsFit, AreInText}

-- the same from a number on
record IsFrom (test : ℕ × ObjectParts → Option LinkCause) (n : ℕ) (os : List ObjectParts) (r : Refused) : Type 0 where
  index : ℕ
  object : ObjectParts
  number : r.object ≡ n + index
  there : slice_get os index ≡ Some object
  cause : test (n + index, object) ≡ Some r.cause
  before : (j : ℕ) (o : ObjectParts) → j < index → slice_get os j ≡ Some o → test (n + j, o) ≡ None

at_zero : (test : ℕ × ObjectParts → Option LinkCause) (n : ℕ) (o : ObjectParts) (y : Option LinkCause) → test (n, o) ≡ y
    → test (n + 0, o) ≡ y
at_zero test n o y h = ap (λ (m : ℕ). test (m, o)) (omega arith) ∙ h

at_next : (test : ℕ × ObjectParts → Option LinkCause) (n k : ℕ) (o : ObjectParts) (y : Option LinkCause) → test (n + 1 + k, o) ≡ y
    → test (n + suc k, o) ≡ y
at_next test n k o y h = ap (λ (m : ℕ). test (m, o)) (omega arith) ∙ h

module _ (test : ℕ × ObjectParts → Option LinkCause) where
  before_next : (n : ℕ) (x : ObjectParts) (xs : List ObjectParts) (r : Refused) (rest : IsFrom test (n + 1) xs r) → test (n, x) ≡ None
      → (j : ℕ) (o : ObjectParts) → j < suc rest.index → slice_get (x ∷ xs) j ≡ Some o → test (n + j, o) ≡ None
  before_next n x xs r rest none zero o lt at =
      let same : x ≡ o = cc in
      at_zero test n o None (ap (λ (p : ObjectParts). test (n, p)) (sym same) ∙ none)
  before_next n x xs r rest none (suc j) o lt at = at_next test n j o None (rest.before j o (omega arith) at)

  first_from : (n : ℕ) (os : List ObjectParts) (r : Refused) → first_some (λ p. refused p.0 (test p)) (enumerate_from n os) ≡ Some r
      → IsFrom test n os r
  unfolding first_some
  first_from n [] r h = absurd (cc)
  first_from n (x ∷ xs) r h = by (first_from (n + 1) xs r) (test (n, x)) refl h where
    by : (first_some (λ p. refused p.0 (test p)) (enumerate_from (n + 1) xs) ≡ Some r → IsFrom test (n + 1) xs r) → (c : Option LinkCause)
        → test (n, x) ≡ c → option_or (refused n c) (first_some (λ p. refused p.0 (test p)) (enumerate_from (n + 1) xs)) ≡ Some r
        → IsFrom test n (x ∷ xs) r
    by ih (Some c) e h =
        let same : record { object = n; cause = c } ≡ r = cc in
        record {
          index = 0;
          object = x;
          number = ap (λ (q : Refused). q.object) (sym same) ∙ omega arith;
          there = refl;
          cause = at_zero test n x (Some r.cause) (e ∙ ap (λ (q : Refused). Some q.cause) same);
          before = λ j o lt at. absurd (omega arith);
        }
    by ih None e h =
        let rest = ih h in
        record {
          index = suc rest.index;
          object = rest.object;
          number = rest.number ∙ omega arith;
          there = rest.there;
          cause = at_next test n rest.index rest.object (Some r.cause) rest.cause;
          before = before_next n x xs r rest e;
        }

  none_from : (n : ℕ) (os : List ObjectParts) → first_some (λ p. refused p.0 (test p)) (enumerate_from n os) ≡ None
      → (i : ℕ) (o : ObjectParts) → slice_get os i ≡ Some o → test (n + i, o) ≡ None
  unfolding first_some
  none_from n [] h i o at = absurd (cc)
  none_from n (x ∷ xs) h i o at = by (none_from (n + 1) xs) (test (n, x)) refl h i at where
    by : (first_some (λ p. refused p.0 (test p)) (enumerate_from (n + 1) xs) ≡ None → (i : ℕ) (o : ObjectParts) → slice_get xs i ≡ Some o
        → test (n + 1 + i, o) ≡ None) → (c : Option LinkCause) → test (n, x) ≡ c
        → option_or (refused n c) (first_some (λ p. refused p.0 (test p)) (enumerate_from (n + 1) xs)) ≡ None → (i : ℕ)
        → slice_get (x ∷ xs) i ≡ Some o → test (n + i, o) ≡ None
    by ih (Some c) e h i at = absurd (cc)
    by ih None e h zero at =
        let same : x ≡ o = cc in
        at_zero test n o None (ap (λ (p : ObjectParts). test (n, p)) (sym same) ∙ e)
    by ih None e h (suc i) at = at_next test n i o None (ih h i o at)

  from_zero : (os : List ObjectParts) (r : Refused) → IsFrom test 0 os r → IsFirstRefused test os r
  from_zero os r is =
      let number : is.index ≡ r.object = omega (arith, is.number) in
      let plus : (k : ℕ) → 0 + k ≡ k = λ k. omega arith in
      record {
        object = is.object;
        there = subst (λ (k : ℕ). slice_get os k ≡ Some is.object) number is.there;
        cause = ap (λ (k : ℕ). test (k, is.object)) is.number ∙ is.cause;
        before = λ j o lt at. ap (λ (k : ℕ). test (k, o)) (sym (plus j)) ∙ is.before j o (omega (arith, number)) at;
      }

  pub first_refused : (os : List ObjectParts) (r : Refused) → first_some (λ p. refused p.0 (test p)) (numbered os) ≡ Some r
      → IsFirstRefused test os r
  first_refused os r h = from_zero os r (first_from 0 os r h)

  pub none_refused : (os : List ObjectParts) → first_some (λ p. refused p.0 (test p)) (numbered os) ≡ None → (i : ℕ) (o : ObjectParts)
      → slice_get os i ≡ Some o → test (i, o) ≡ None
  none_refused os h i o at =
      let plus : 0 + i ≡ i = omega arith in
      ap (λ (k : ℕ). test (k, o)) (sym plus) ∙ none_from 0 os h i o at

-- ---- the relocations of one object

module _ (test : Reloc → Option LinkCause) where
  pub first_cause : (rs : List Reloc) (cause : LinkCause) → first_some test rs ≡ Some cause → IsFirstCause test rs cause
  unfolding first_some
  first_cause [] cause h = absurd (cc)
  first_cause (x ∷ xs) cause h = by (first_cause xs cause) (test x) refl h where
    at : (rest : IsFirstCause test xs cause) → test x ≡ None → (j : ℕ) (r : Reloc) → j < suc rest.index
        → slice_get (x ∷ xs) j ≡ Some r → test r ≡ None
    at rest none zero r lt here = let same : x ≡ r = cc in ap test (sym same) ∙ none
    at rest none (suc j) r lt here = rest.before j r (omega arith) here

    by : (first_some test xs ≡ Some cause → IsFirstCause test xs cause) → (c : Option LinkCause) → test x ≡ c
        → option_or c (first_some test xs) ≡ Some cause → IsFirstCause test (x ∷ xs) cause
    by ih (Some c) e h = record { index = 0; reloc = x; there = refl; caused = e ∙ h; before = λ j r lt here. absurd (omega arith) }
    by ih None e h =
        let rest = ih h in
        record { index = suc rest.index; reloc = rest.reloc; there = rest.there; caused = rest.caused; before = at rest e }

  pub no_cause : (rs : List Reloc) → first_some test rs ≡ None → (k : ℕ) (r : Reloc) → slice_get rs k ≡ Some r → test r ≡ None
  unfolding first_some
  no_cause [] h k r at = absurd (cc)
  no_cause (x ∷ xs) h k r at = by (no_cause xs) (test x) refl h k at where
    by : (first_some test xs ≡ None → (k : ℕ) (r : Reloc) → slice_get xs k ≡ Some r → test r ≡ None) → (c : Option LinkCause) → test x ≡ c
        → option_or c (first_some test xs) ≡ None → (k : ℕ) → slice_get (x ∷ xs) k ≡ Some r → test r ≡ None
    by ih (Some c) e h k at = absurd (cc)
    by ih None e h zero at = let same : x ≡ r = cc in ap test (sym same) ∙ e
    by ih None e h (suc k) at = ih h k r at

-- ---- the causes of one object

module _ (os : List ObjectParts) (p : ℕ × ObjectParts) where
  pub text_first : TEXT_LIMIT < text_end (up_to os p) + 2 → object_cause os p ≡ Some TextTooLarge
  unfolding object_cause
  text_first h = rw (lt-ltb _ _ h) refl

  pub init_second : TextFits os p → 33554432 < memory_end (up_to os p) → object_cause os p ≡ Some InitTooLarge
  unfolding object_cause
  init_second a h = rw (le-ltb _ _ a, lt-ltb _ _ h) refl

  pub symbols_third : TextFits os p → MemoryFits os p → 65536 < symbol_count (up_to os p) → object_cause os p ≡ Some TooManySymbols
  unfolding object_cause
  symbols_third a b h = rw (le-ltb _ _ a, le-ltb _ _ b, lt-ltb _ _ h) refl

  pub sites_fourth : TextFits os p → MemoryFits os p → SymbolsFit os p → sites_wrong os p ≡ true → object_cause os p ≡ Some SitesForm
  unfolding object_cause
  sites_fourth a b c h = rw (le-ltb _ _ a, le-ltb _ _ b, le-ltb _ _ c, h) refl

  pub names_last : TextFits os p → MemoryFits os p → SymbolsFit os p → sites_wrong os p ≡ false
      → object_cause os p ≡ doubled_cause (doubled os p)
  unfolding object_cause
  names_last a b c h = rw (le-ltb _ _ a, le-ltb _ _ b, le-ltb _ _ c, h) refl

-- ---- the sites of one object

any_at : (test : Site → Bool) (xs : List Site) (k : ℕ) (s : Site) → slice_get xs k ≡ Some s → test s ≡ true → list_any test xs ≡ true
any_at test [] k s at e = absurd (cc)
any_at test (x ∷ xs) zero s at e = let same : x ≡ s = cc in rw (ap test same ∙ e) refl
any_at test (x ∷ xs) (suc k) s at e = by (test x) (any_at test xs k s at e) where
  by : (b : Bool) → list_any test xs ≡ true → (b || list_any test xs) ≡ true
  by true h = refl
  by false h = h

none_of : (test : Site → Bool) (xs : List Site) → ((k : ℕ) (s : Site) → slice_get xs k ≡ Some s → test s ≡ false) → list_any test xs ≡ false
none_of test [] h = refl
none_of test (x ∷ xs) h = rw (h 0 x refl) (none_of test xs (λ k s at. h (suc k) s at))

second_true : (a b c : Bool) → b ≡ true → (a || b || c) ≡ true
second_true true b c h = refl
second_true false b c h = rw h refl

third_true : (a b c : Bool) → c ≡ true → (a || b || c) ≡ true
third_true true b c h = refl
third_true false true c h = refl
third_true false false c h = h

module _ (os : List ObjectParts) (p : ℕ × ObjectParts) where
  pub malformed : (at : ℕ) → sites_in p.1.sites ≡ Err at → sites_wrong os p ≡ true
  unfolding sites_wrong
  malformed at h = rw h refl

  pub past_text : (sites : SitesParts) (k : ℕ) (s : Site) → sites_in p.1.sites ≡ Ok sites → slice_get sites.list k ≡ Some s
      → length p.1.text < s.at + s.total → sites_wrong os p ≡ true
  unfolding sites_wrong
  past_text sites k s h at past = rw (h, any_at (λ s. nat_lt (length p.1.text) (s.at + s.total)) sites.list k s at (lt-ltb _ _ past)) refl

  pub too_many : SITE_LIMIT < sum_by (λ o. length (sites_of o)) (up_to os p) → sites_wrong os p ≡ true
  unfolding sites_wrong
  too_many h = second_true (misplaced (length p.1.text) (sites_in p.1.sites)) _ (crowded os (p.0 + 1)) (lt-ltb _ _ h)

  pub gaps_wrong : crowded os (p.0 + 1) ≡ true → sites_wrong os p ≡ true
  unfolding sites_wrong
  gaps_wrong h =
      third_true (misplaced (length p.1.text) (sites_in p.1.sites)) (nat_lt SITE_LIMIT (sum_by (λ o. length (sites_of o)) (up_to os p))) _ h

  pub sites_right : (sites : SitesParts) → sites_in p.1.sites ≡ Ok sites → AreInText p.1 sites.list
      → sum_by (λ o. length (sites_of o)) (up_to os p) ≤ SITE_LIMIT → crowded os (p.0 + 1) ≡ false → sites_wrong os p ≡ false
  unfolding sites_wrong
  sites_right sites h inside few gaps =
      rw (
        h,
        none_of (λ s. nat_lt (length p.1.text) (s.at + s.total)) sites.list (λ k s at. le-ltb _ _ (inside k s at)),
        le-ltb _ _ few,
        gaps,
      ) refl

-- ---- the stages

module _ (os : List ObjectParts) where
  pub objects_first : (r : Refused) → first_some (object_refusal os) (numbered os) ≡ Some r → refusal os ≡ Some r
  unfolding refusal
  objects_first r h = rw h refl

  pub relocs_second : (r : Refused) → first_some (object_refusal os) (numbered os) ≡ None
      → first_some (relocs_refusal os) (numbered os) ≡ Some r → refusal os ≡ Some r
  unfolding refusal
  relocs_second r a h = rw (a, h) refl

  start_last : first_some (object_refusal os) (numbered os) ≡ None → first_some (relocs_refusal os) (numbered os) ≡ None
      → refusal os ≡ start_refusal (start os)
  unfolding refusal
  start_last a b = rw (a, b) refl

  pub no_start : first_some (object_refusal os) (numbered os) ≡ None → first_some (relocs_refusal os) (numbered os) ≡ None
      → start os ≡ None → refusal os ≡ None
  no_start a b h = start_last a b ∙ ap start_refusal h

  pub start_in_text : (t : Target) → first_some (object_refusal os) (numbered os) ≡ None
      → first_some (relocs_refusal os) (numbered os) ≡ None → start os ≡ Some t → is_text t.place ≡ true → refusal os ≡ None
  start_in_text t a b h inside = start_last a b ∙ (ap start_refusal h ∙ rw inside refl)

  pub start_elsewhere : (t : Target) → first_some (object_refusal os) (numbered os) ≡ None
      → first_some (relocs_refusal os) (numbered os) ≡ None → start os ≡ Some t → is_text t.place ≡ false
      → refusal os ≡ Some (record { object = t.object; cause = NotText t.value })
  start_elsewhere t a b h outside = start_last a b ∙ (ap start_refusal h ∙ rw outside refl)
