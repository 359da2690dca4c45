-- Each object tested in turn.
use Rattle.std.proofs.Common.{◌≡◌, ℕ, ◌+◌, ◌<◌, ◌≤◌, Bool, false, List, [], ◌∷◌, ◌++◌, length, get_or, take, Option, Some, None, Ok, refl, ap, sym, ◌∙◌, subst, arith}
use Rattle.std.specs.Prelude.{sum_by, map, nat_lt, not, ◌||◌, ◌&&◌}
use Rattle.std.specs.Bool.{then_some}
use Rattle.std.specs.List.{flat_map}
use Rattle.std.specs.Option.{option_or}
use Rattle.std.proofs.lemmas.List.{take_all, length-append, length-map, append-nil}
use Rattle.std.proofs.lemmas.List.Concat.{flat_map-append}
use Rattle.std.proofs.lemmas.Bool.{ltb-false, lt-ltb, not-false, or_parts}
use Rattle.plain_laws.proofs.Tests.{second_false}
use Rattle.elf_form.specs.ObjectParts.{ObjectParts}
use Rattle.sites.specs.declared.site.Site.{Site}
use Rattle.sites.specs.declared.limits.TheConstants.{TEXT_LIMIT, SHORT_TEXT, SITE_LIMIT}
use Rattle.sites.specs.Formats.{sites_in}
use Rattle.sites.specs.Form.{AreGapped}
use Rattle.sites.specs.Gapped.{are_gapped}
use Rattle.sites.proofs.Gaps.{gapped_by}
use Rattle.elf_link.specs.declared.target.Target.{Target}
use Rattle.elf_link.specs.declared.totals.Totals.{Totals}
use Rattle.elf_link.specs.declared.fault.LinkCause.{LinkCause}
use Rattle.elf_link.specs.declared.fault.LinkCause.TheVariants.{TextTooLarge, InitTooLarge, TooManySymbols, SitesForm}
use Rattle.elf_link.specs.declared.fault.LinkFault.{LinkFault}
use Rattle.elf_link.specs.Layout.{text_room, init_room, bss_room, text_end, memory_end, numbered, text_at}
use Rattle.elf_link.specs.Symbols.{exports, definitions, globals}
use Rattle.elf_link.specs.Sites.{sites_of, misplaced, crowded, sites_wrong, moved, moved_sites, first_sites, linked_sites}
use Rattle.elf_form.specs.Tables.{first_some}
use Rattle.elf_link.specs.Refusals.{refused, doubled, doubled_cause, object_cause, object_refusal}
use Rattle.elf_link.specs.Steps.{IsWithin, AreBelow, totals, with_object, size_cause, is_crowded, sites_wrong_by, step_cause, tested}
use Rattle.elf_link.specs.Answers.{Fails}
use Rattle.elf_form.proofs.FormLaws.{then_none, else_none}
use Rattle.elf_link.proofs.FirstLaws.{Passed, first_next, first_end, fails_here}
use Rattle.elf_link.proofs.LayoutLaws.{sum-more, text_end-more, text_end-le, memory_limit}
use Rattle.elf_link.proofs.BaseLaws.{numbered_at, length-numbered, take-numbered}
use Rattle.elf_link.proofs.StepLaws.{cause_none}
use Rattle.elf_link.proofs.SiteLaws.{below_next}

totals_is : (t u : Totals) → t.text ≡ u.text → t.memory ≡ u.memory → t.symbols ≡ u.symbols → t.sites ≡ u.sites → t ≡ u
totals_is t u p q r s = λ j. record { text = p j; memory = q j; symbols = r j; sites = s j }

or_assoc : (a b c d : Option LinkCause) → option_or (option_or a (option_or b c)) d ≡ option_or a (option_or b (option_or c d))
or_assoc (Some x) b c d = refl
or_assoc None (Some y) c d = refl
or_assoc None None c d = refl

passed : (b : Bool) (cause : LinkCause) (later : Option LinkCause) → option_or (then_some b cause) later ≡ None
    → (b ≡ false) × (later ≡ None)
passed b cause later h = let both = else_none (then_some b cause) later h in (then_none b cause both.0, both.1)

abbrev chain : Bool → Bool → Bool → Bool → Option LinkCause → Option LinkCause
chain a b c d e = option_or (then_some a TextTooLarge)
    (option_or (then_some b InitTooLarge) (option_or (then_some c TooManySymbols) (option_or (then_some d SitesForm) e)))

module _ (os : List ObjectParts) (i : ℕ) (o : ObjectParts) (lt : i < length os) (is : get_or os i o ≡ o) where
  pub totals_next : totals (take (i + 1) os) ≡ with_object (totals (take i os)) o
  unfolding totals with_object
  totals_next =
      let n = sum-more init_room os i o lt is in
      let b = sum-more bss_room os i o lt is in
      totals_is _ _ (sum-more text_room os i o lt is) (omega (arith, n, b)) (sum-more (λ p. length p.symbols) os i o lt is)
      (sum-more (λ p. length (sites_of p)) os i o lt is)

  text_same : nat_lt TEXT_LIMIT ((totals (take i os)).text + length o.text + 2) ≡ nat_lt TEXT_LIMIT (text_end (take (i + 1) os) + 2)
  unfolding totals
  text_same = ap (λ (n : ℕ). nat_lt TEXT_LIMIT (n + 2)) (sym (text_end-more os i o lt is))

  memory_same : nat_lt 33554432 ((totals (take i os)).memory + init_room o + bss_room o) ≡ nat_lt 33554432 (memory_end (take (i + 1) os))
  unfolding totals
  memory_same =
      let n = sum-more init_room os i o lt is in
      let b = sum-more bss_room os i o lt is in
      let e : sum_by init_room (take i os) + sum_by bss_room (take i os) + init_room o + bss_room o ≡ sum_by init_room (take (i + 1) os)
      + sum_by bss_room (take (i + 1) os) = omega (arith, n, b) in
      ap (nat_lt 33554432) e ∙ sym (memory_limit (take (i + 1) os))

  symbols_same : nat_lt 65536 ((totals (take i os)).symbols + length o.symbols) ≡ nat_lt 65536
      (sum_by (λ p. length p.symbols) (take (i + 1) os))
  unfolding totals
  symbols_same = ap (nat_lt 65536) (sym (sum-more (λ p. length p.symbols) os i o lt is))

  pub flat_more : {A : Type 0} (f : ℕ × ObjectParts → List A) → flat_map f (take (i + 1) (numbered os)) ≡ flat_map f
      (take i (numbered os)) ++ f (i, o)
  flat_more {A} f = ap (flat_map f) (take-numbered os i o lt is)
      ∙ (flat_map-append f (take i (numbered os)) ((i, o) ∷ []) ∙ ap (λ (l : List A). flat_map f (take i (numbered os)) ++ l)
      (append-nil (f (i, o))))

  crowded_same : is_crowded (totals (take i os)) (first_sites os i) (length o.text) (sites_of o) ≡ crowded os (i + 1)
  unfolding totals
  crowded_same =
      let end : text_at os i + length o.text ≡ text_end (take (i + 1) os) = sym (text_end-more os i o lt is) in
      let sites : first_sites os i ++ moved_sites os (i, o) ≡ first_sites os (i + 1) = sym (flat_more (moved_sites os)) in
      λ j. nat_lt SHORT_TEXT (end j + 2) && not (are_gapped 0 (sites j))

  sites_same : sites_wrong_by (totals (take i os)) (first_sites os i) o ≡ sites_wrong os (i, o)
  unfolding totals sites_wrong_by sites_wrong
  sites_same =
      ap (λ (n : ℕ). misplaced (length o.text) (sites_in o.sites) || nat_lt SITE_LIMIT n || is_crowded (totals (take i os))
      (first_sites os i) (length o.text) (sites_of o)) (sym (sum-more (λ p. length (sites_of p)) os i o lt is))
      ∙ ap (λ (b : Bool). misplaced (length o.text) (sites_in o.sites) || nat_lt SITE_LIMIT
      (sum_by (λ p. length (sites_of p)) (take (i + 1) os)) || b) crowded_same

  pub cause_is : step_cause (totals (take i os)) (first_sites os i) (definitions (take i (numbered os))) (i, o) ≡ object_cause os (i, o)
  unfolding step_cause size_cause object_cause
  cause_is =
      or_assoc (then_some (nat_lt TEXT_LIMIT ((totals (take i os)).text + length o.text + 2)) TextTooLarge)
      (then_some (nat_lt 33554432 ((totals (take i os)).memory + init_room o + bss_room o)) InitTooLarge)
      (then_some (nat_lt 65536 ((totals (take i os)).symbols + length o.symbols)) TooManySymbols)
      (option_or (then_some (sites_wrong_by (totals (take i os)) (first_sites os i) o) SitesForm) (doubled_cause (doubled os (i, o))))
      ∙ (λ j. chain (text_same j) (memory_same j) (symbols_same j) (sites_same j) (doubled_cause (doubled os (i, o))))

-- what is known after i objects
pub record Gathering (os : List ObjectParts) (i : ℕ) (t : Totals) (gs : List (List ℕ × Target)) (sites : List Site) : Type 0 where
  pub sums : t ≡ totals (take i os)
  pub within : IsWithin t
  pub names : gs ≡ definitions (take i (numbered os))
  pub moved : sites ≡ first_sites os i
  pub below : AreBelow (text_end (take i os)) sites
  pub fits : text_end (take i os) + 2 ≤ TEXT_LIMIT
  pub gaps : SHORT_TEXT < text_end (take i os) + 2 → AreGapped 0 sites
  pub count : length sites ≡ t.sites
  pub none_before : Passed (object_refusal os) (numbered os) i

pub gathering_first : (os : List ObjectParts) → Gathering os 0 (record { text = 0; memory = 0; symbols = 0; sites = 0 }) [] []
unfolding totals definitions text_end
gathering_first os = record {
  sums = refl;
  within = record { text = omega arith; memory = omega arith; symbols = omega arith; sites = omega arith };
  names = refl;
  moved = refl;
  below = record { form = tt; below = λ k d h. absurd (omega arith) };
  fits = omega arith;
  gaps = λ long. absurd (omega (arith, long));
  count = refl;
  none_before = refl;
}

module _ (os : List ObjectParts) (i : ℕ) (o : ObjectParts) (t : Totals) (gs : List (List ℕ × Target)) (sites : List Site)
    (lt : i < length os) (is : get_or os i o ≡ o) (now : Gathering os i t gs sites) where
  cause_now : step_cause t sites gs (i, o) ≡ object_cause os (i, o)
  cause_now =
      ap (λ (u : Totals). step_cause u sites gs (i, o)) now.sums
      ∙ (ap (λ (ss : List Site). step_cause (totals (take i os)) ss gs (i, o)) now.moved
      ∙ (ap (λ (g : List (List ℕ × Target)). step_cause (totals (take i os)) (first_sites os i) g (i, o)) now.names
      ∙ cause_is os i o lt is))

  pub gathering_fails : (e : LinkFault) → Fails e (tested (refused i (step_cause t sites gs (i, o))))
      → Fails e (tested (first_some (object_refusal os) (numbered os)))
  gathering_fails e h =
      fails_here (object_refusal os) (numbered os) i (i, o) e (subst (λ (n : ℕ). i < n) (sym (length-numbered os)) lt)
      (numbered_at os i o lt is) now.none_before
      (subst (λ (c : Option LinkCause). Fails e (tested (refused i c))) cause_now h)

  text_is : t.text ≡ text_at os i
  unfolding totals
  text_is = ap (λ (u : Totals). u.text) now.sums

  flat_next : {A : Type 0} (f : ℕ × ObjectParts → List A) → flat_map f (take (i + 1) (numbered os)) ≡ flat_map f
      (take i (numbered os)) ++ f (i, o)
  flat_next {A} f = flat_more os i o lt is f

  below_is : (sites' : List Site) → sites' ≡ sites ++ map (moved t.text) (sites_of o) → AreBelow (length o.text) (sites_of o)
      → text_end (take (i + 1) os) + 2 ≤ TEXT_LIMIT → AreBelow (text_end (take (i + 1) os)) sites'
  below_is sites' more own fits =
      let end : t.text + length o.text ≡ text_end (take (i + 1) os) =
      ap (λ (n : ℕ). n + length o.text) text_is ∙ sym (text_end-more os i o lt is) in
      subst (λ (n : ℕ). AreBelow n sites') end (subst (λ (s : List Site). AreBelow (t.text + length o.text) s) (sym more)
      (below_next (text_end (take i os)) t.text (length o.text) sites (sites_of o) now.below
      (omega (arith, text_is, text_end-le (take i os))) own (omega (arith, end, fits))))

  fits_is : object_cause os (i, o) ≡ None → text_end (take (i + 1) os) + 2 ≤ TEXT_LIMIT
  unfolding object_cause
  fits_is none = ltb-false TEXT_LIMIT (text_end (take (i + 1) os) + 2)
      (passed (nat_lt TEXT_LIMIT (text_end (take (i + 1) os) + 2)) TextTooLarge _ none).0

  sites_right : object_cause os (i, o) ≡ None → sites_wrong os (i, o) ≡ false
  unfolding object_cause
  sites_right none =
      let os' = take (i + 1) os in
      let a = passed (nat_lt TEXT_LIMIT (text_end os' + 2)) TextTooLarge _ none in
      let b = passed (nat_lt 33554432 (memory_end os')) InitTooLarge _ a.1 in
      let c = passed (nat_lt 65536 (sum_by (λ p. length p.symbols) os')) TooManySymbols _ b.1 in
      (passed (sites_wrong os (i, o)) SitesForm _ c.1).0

  gaps_are : object_cause os (i, o) ≡ None → SHORT_TEXT < text_end (take (i + 1) os) + 2 → AreGapped 0 (first_sites os (i + 1))
  unfolding sites_wrong
  gaps_are none long =
      let right = (or_parts _ (crowded os (i + 1)) (sites_right none)).1 in
      gapped_by 0 (first_sites os (i + 1))
      (not-false (are_gapped 0 (first_sites os (i + 1)))
      (second_false (nat_lt SHORT_TEXT (text_end (take (i + 1) os) + 2)) (not (are_gapped 0 (first_sites os (i + 1))))
      (lt-ltb SHORT_TEXT (text_end (take (i + 1) os) + 2) long) right))

  count_is : (t' : Totals) (sites' : List Site) → t' ≡ with_object t o → sites' ≡ sites ++ map (moved t.text) (sites_of o)
      → length sites' ≡ t'.sites
  unfolding with_object
  count_is t' sites' sums more =
      let sum : t'.sites ≡ t.sites + length (sites_of o) = ap (λ (u : Totals). u.sites) sums in
      omega (
        arith,
        sum,
        ap length more,
        length-append sites (map (moved t.text) (sites_of o)),
        length-map (sites_of o) (moved t.text),
        now.count,
      )

  pub gathering_next : (t' : Totals) (gs' : List (List ℕ × Target)) (sites' : List Site) → tested (refused i (step_cause t sites gs (i, o)))
      ≡ Ok tt → t' ≡ with_object t o → gs' ≡ gs ++ exports (i, o) → sites' ≡ sites ++ map (moved t.text) (sites_of o)
      → AreBelow (length o.text) (sites_of o) → IsWithin t' → Gathering os (i + 1) t' gs' sites'
  unfolding definitions
  gathering_next t' gs' sites' exact sums names more own within =
      let cause : object_cause os (i, o) ≡ None = sym cause_now ∙ cause_none i (step_cause t sites gs (i, o)) exact in
      let fits = fits_is cause in
      let none : object_refusal os (i, o) ≡ None = ap (refused i) cause in
      let at : t.text ≡ text_at os i = text_is in
      let moved_so : sites' ≡ first_sites os (i + 1) = more
      ∙ (ap (λ (n : ℕ). sites ++ map (moved n) (sites_of o)) at
      ∙ (ap (λ (s : List Site). s ++ moved_sites os (i, o)) now.moved ∙ sym (flat_next (moved_sites os)))) in
      record {
        sums = sums ∙ (ap (λ (u : Totals). with_object u o) now.sums ∙ sym (totals_next os i o lt is));
        within = within;
        names = names ∙ (ap (λ (g : List (List ℕ × Target)). g ++ exports (i, o)) now.names ∙ sym (flat_next exports));
        moved = moved_so;
        below = below_is sites' more own fits;
        fits = fits;
        gaps = λ long. subst (λ (s : List Site). AreGapped 0 s) (sym moved_so) (gaps_are cause long);
        count = count_is t' sites' sums more;
        none_before = first_next (object_refusal os) (numbered os) i (i, o) (subst (λ (n : ℕ). i < n) (sym (length-numbered os)) lt)
            (numbered_at os i o lt is) now.none_before none;
      }

-- what is known of all objects
pub record Gathers (os : List ObjectParts) (t : Totals) (gs : List (List ℕ × Target)) (sites : List Site) : Type 0 where
  pub exact : tested (first_some (object_refusal os) (numbered os)) ≡ Ok tt
  pub sums : t ≡ totals os
  pub within : IsWithin (totals os)
  pub names : gs ≡ globals os
  pub moved : sites ≡ linked_sites os
  pub below : AreBelow (text_end os) sites
  pub fits : text_end os + 2 ≤ TEXT_LIMIT
  pub gaps : SHORT_TEXT < text_end os + 2 → AreGapped 0 sites
  pub count : length sites ≤ SITE_LIMIT

pub gathered_all : (os : List ObjectParts) (i : ℕ) (t : Totals) (gs : List (List ℕ × Target)) (sites : List Site) → length os ≤ i
    → Gathering os i t gs sites → Gathers os t gs sites
unfolding linked_sites
gathered_all os i t gs sites le now =
    let whole : take i os ≡ os = take_all i os le in
    let all : take i (numbered os) ≡ numbered os = take_all i (numbered os) (omega (arith, length-numbered os)) in
    record {
      exact = ap tested (first_end (object_refusal os) (numbered os) i (omega (arith, length-numbered os)) now.none_before);
      sums = now.sums ∙ ap totals whole;
      within = subst (λ (u : Totals). IsWithin u) (now.sums ∙ ap totals whole) now.within;
      names = now.names ∙ ap definitions all;
      moved = now.moved ∙ ap (flat_map (moved_sites os)) all;
      below = subst (λ (os' : List ObjectParts). AreBelow (text_end os') sites) whole now.below;
      fits = subst (λ (os' : List ObjectParts). text_end os' + 2 ≤ TEXT_LIMIT) whole now.fits;
      gaps = subst (λ (os' : List ObjectParts). SHORT_TEXT < text_end os' + 2 → AreGapped 0 sites) whole now.gaps;
      count = omega (arith, now.count, now.within.sites);
    }
