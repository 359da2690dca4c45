-- Pages that are kept, counted.
use Rattle.std.proofs.Common.{◌≡◌, ℕ, ◌+◌, ◌-◌, ◌≤◌, ◌==◌, List, [], ◌∷◌, ◌++◌, length, length-append, map, Bool, true, false, T, cond, ◌&&◌, ◌||◌, not, ◌⊎◌, inl, inr, Option, Some, None, is_some, refl, sym, ap, ◌∙◌, arith}
use Rattle.std.specs.List.{list_any, AllByRecursion, IsDistinct}
use Rattle.std.specs.List.Sorted.{IsStrictlySortedBy}
use Rattle.std.specs.Cmp.{unsigned_tied, eq_by_cmp_equiv, nat_cmp_total}
use Rattle.std.specs.Ordering.{nat_cmp, eq_by_cmp, is_lt}
use Rattle.std.specs.declared.cmp.Ordering.{Ordering}
use Rattle.std.specs.declared.cmp.Ordering.TheVariants.{Less, Equal, Greater}
use Rattle.std.specs.FinMap.{get, empty, len, keys, entries, entries_sorted, contains_key-keys, len-entries, len-empty, is_sorted}
use Rattle.std.specs.FinMap.Entries.{below_all}
use Rattle.std.proofs.lemmas.List.{length-map}
use Rattle.std.proofs.lemmas.List.Folds.{list_any-append}
use Rattle.std.proofs.lemmas.Map.Keys.{IsDistinct-from_sorted}
use Rattle.std.proofs.lemmas.Map.Made.{length-le_from_is_member}
use Rattle.std.proofs.lemmas.Bool.Decides.{eqb_tells}
use Rattle.paging.specs.declared.entry.Entry.{Entry}
use Rattle.guest_ram.specs.Among.{is_among}
use Rattle.shadow_tables.specs.Slots.{Slot}
use Rattle.shadow_tables.specs.declared.words.Side.{Side}
use Rattle.step_mem.specs.Changes.{AreToldIn, changed, page_of, entry_of}
use Rattle.step_mem.specs.declared.changes.Change.{Change}
use Rattle.step_mem.proofs.Changed.{get_with_other}
use Rattle.wedge_mem.specs.Settled.{has_entry, is_due, refilled, serves}
use Rattle.machine_model.specs.Run.{Set}
use Rattle.wedge_step.specs.Filled.{CountsFills}
use Rattle.wedge_step.specs.Parts.{IsPartOf}
use Rattle.std.proofs.lemmas.Bool.{cases_Bool}
use Rattle.std.proofs.Math.Bool.{or-true}
use Rattle.plain_laws.proofs.Options.{some_is}

-- ---- the pages of a set, each once

less : (o : Ordering) → T (is_lt o) → o ≡ Less
less Less p = refl
less Equal p = absurd p
less Greater p = absurd p

first : (a b : Bool) → T (a && b) → T a
first true b p = tt
first false b p = p

second : (a b : Bool) → T (a && b) → T b
second true b p = p
second false b p = absurd p

below_each : (x : ℕ) (es : List (ℕ × Entry)) → T (below_all nat_cmp x es) → AllByRecursion (λ y. nat_cmp x y ≡ Less) (map (λ e. e.0) es)
below_each x [] h = tt
below_each x (e ∷ es) h = (less (nat_cmp x e.0) (first _ _ h), below_each x es (second _ _ h))

sorted : (es : List (ℕ × Entry)) → T (is_sorted nat_cmp es) → IsStrictlySortedBy nat_cmp (map (λ e. e.0) es)
unfolding IsStrictlySortedBy
sorted [] h = tt
sorted (e ∷ es) h = (below_each e.0 es (first _ _ h), sorted es (second _ _ h))

distinct : (set : Set) → IsDistinct (eq_by_cmp nat_cmp) (keys set)
distinct set = IsDistinct-from_sorted nat_cmp (keys set) (sorted (entries set) (entries_sorted set))

counts_keys : (set : Set) → len set ≡ length (keys set)
counts_keys set = len-entries set ∙ sym (rw length-map refl)

-- ---- more pages than those of another set, by these at most

has_some : (o : Option Entry) → is_some o ≡ true → has_entry o ≡ true
has_some None h = h
has_some (Some e) h = refl

among_keys : (q : ℕ) (xs : List ℕ) → list_any (eq_by_cmp nat_cmp q) xs ≡ is_among q xs
among_keys q [] = refl
among_keys q (x ∷ xs) = ap (λ b. b || list_any (eq_by_cmp nat_cmp q) xs) (unsigned_tied q x) ∙ ap (λ b. (q == x) || b) (among_keys q xs)

or_past : (a b : Bool) → a ≡ false → (a || b) ≡ true → b ≡ true
or_past true b n h = absurd (let f : true ≡ false = n in cc)
or_past false b n h = h

three : (a b c : Bool) → a ≡ true → b ≡ false → c ≡ true → ((a && not b) && c) ≡ true
three a b c e f g = ap (λ x. (x && not b) && c) e ∙ (ap (λ x. not x && c) f ∙ g)

-- a page that has an entry and is due is one of those that are filled
module _ (kept : ℕ → Option Slot) (set : Set) (changes : List Change) (side : Side) (wp : Bool) where
  in_filled : (q : ℕ) → has_entry (get set q) ≡ true → is_due kept changes side wp q ≡ true → (pages : List ℕ) → is_among q pages ≡ true
      → is_among q (refilled kept set changes side wp pages) ≡ true
  in_filled q has due [] h = h
  in_filled q has due (p ∷ pages) h =
      elim (cases_Bool (is_among q pages)) [
        | inl t ↦ later ((has_entry (get set p) && not (is_among p pages)) && is_due kept changes side wp p) (in_filled q has due pages t)
        | inr n ↦ elim (eqb_tells q p) [
          | inl e ↦
              let here : ((has_entry (get set p) && not (is_among p pages)) && is_due kept changes side wp p) ≡ true =
              ap (λ k. (has_entry (get set k) && not (is_among k pages)) && is_due kept changes side wp k) (sym e.1)
              ∙ three (has_entry (get set q)) (is_among q pages) (is_due kept changes side wp q) has n due in
              ap (λ (b : Bool). is_among q
              (cond {A = List ℕ} b (p ∷ refilled kept set changes side wp pages) (refilled kept set changes side wp pages))) here
              ∙ ap (λ b. b || is_among q (refilled kept set changes side wp pages)) e.0
          | inr o ↦ absurd (let f : true ≡ false = sym h ∙ (ap (λ b. b || is_among q pages) o.0 ∙ n) in cc)
        ]
      ]
    where
      later : (b : Bool) → is_among q (refilled kept set changes side wp pages) ≡ true
          → is_among q (cond {A = List ℕ} b (p ∷ refilled kept set changes side wp pages) (refilled kept set changes side wp pages)) ≡ true
      later true h = ap (λ b. (q == p) || b) h ∙ or-true (q == p)
      later false h = h

grown : (old new : Set) (more : List ℕ) → ((q : ℕ) → is_some (get new q) ≡ true → (is_some (get old q) ≡ true) ⊎ (is_among q more ≡ true))
    → len new ≤ len old + length more
grown old new more each =
    let some = length-le_from_is_member (eq_by_cmp_equiv nat_cmp_total) (keys new) (keys old ++ more) (distinct new)
    (λ q h.
    let has : is_some (get new q) ≡ true = contains_key-keys new q ∙ h in
    list_any-append (eq_by_cmp nat_cmp q) (keys old) more ∙ elim (each q has) [
      | inl t ↦ ap (λ b. b || list_any (eq_by_cmp nat_cmp q) more) (sym (contains_key-keys old q) ∙ t)
      | inr t ↦
          ap (λ b. list_any (eq_by_cmp nat_cmp q) (keys old) || b) (among_keys q more ∙ t)
          ∙ or-true (list_any (eq_by_cmp nat_cmp q) (keys old))
    ]) in
    let a = counts_keys new in
    let b = counts_keys old in
    let c = length-append (keys old) more in
    omega (arith, some, a, b, c)

-- ---- a part, and what a step changed

pub part_few : (part whole : Set) → IsPartOf part whole → len part ≤ len whole
part_few part whole p =
    let g = grown whole part [] (λ q h. let e = some_is (get part q) h in inl (ap is_some (p.each q e.0 e.1))) in
    omega (arith, g)

-- a page whose entry the changes give, or that had it before
by_changes : (set : Set) (changes : List Change) (q : ℕ) → is_some (get (changed set changes) q) ≡ true → (is_some (get set q) ≡ true)
    ⊎ (is_among q (map page_of changes) ≡ true)
by_changes set [] q h = inl h
by_changes set (c ∷ cs) q h =
    elim (eqb_tells q (page_of c)) [
      | inl e ↦ inr (ap (λ b. b || is_among q (map page_of cs)) e.0)
      | inr n ↦ elim (by_changes (Rattle.paging.specs.Uses.with_entry set (page_of c) (entry_of c)) cs q h) [
        | inl t ↦ inl (ap is_some (sym (get_with_other set (page_of c) (entry_of c) q n.1)) ∙ t)
        | inr t ↦ inr (ap (λ b. (q == page_of c) || b) t ∙ or-true (q == page_of c))
      ]
    ]

-- a page that comes is one of those that are filled
pub changed_filled : (kept : ℕ → Option Slot) (set : Set) (changes : List Change) (side : Side) (wp : Bool) (visited : List ℕ)
    → AreToldIn visited changes
    → len (changed set changes) ≤ len set + length (refilled kept (changed set changes) changes side wp visited)
changed_filled kept set changes side wp visited told =
    grown set (changed set changes) (refilled kept (changed set changes) changes side wp visited)
    (λ q h. elim (by_changes set changes q h) [
      | inl t ↦ inl t
      | inr t ↦ inr (in_filled kept (changed set changes) changes side wp q (has_some (get (changed set changes) q) h)
          (ap (λ (b : Bool). b || not (serves side wp (kept q))) t) visited (told q t))
    ])

-- ---- one call, and two

pub fills_same : (old new fills : ℕ) → new ≡ old → CountsFills old new fills fills
fills_same old new fills is = record { rises = omega arith; enough = omega (arith, is) }

pub fills_fewer : (old new fills : ℕ) → new ≤ old → CountsFills old new fills fills
fills_fewer old new fills few = record { rises = omega arith; enough = omega (arith, few) }

pub fills_join : (a b c x y z : ℕ) → CountsFills a b x y → CountsFills b c y z → CountsFills a c x z
fills_join a b c x y z f g =
    let p = f.rises in
    let q = g.rises in
    let r = f.enough in
    let s = g.enough in
    record { rises = omega (arith, p, q); enough = omega (arith, r, s) }

-- some of the pages that are kept
pub fills_within : (pages few new before after : ℕ) → few ≤ new → CountsFills pages new before after → CountsFills pages few before after
fills_within pages few new before after le f = let e = f.enough in record { rises = f.rises; enough = omega (arith, e, le) }

-- none are kept
pub empty_few : (set : Set) → set ≡ empty → len set ≡ 0
empty_few set is = ap (λ (s : Set). len s) is ∙ len-empty nat_cmp Entry

-- nothing was dropped after a step, in either of two ways
pub unlost_first : (P : Bool → Type 0) (kept left : Bool) → (kept || left) ≡ false → P kept → P false
unlost_first P true left unlost p = absurd (let f : true ≡ false = unlost in cc)
unlost_first P false left unlost p = p

-- what is held, where all that is free or held is counted before, and what is free after
pub held_by : (free held free2 a b a2 b2 : ℕ) → free ≡ a → held ≡ b → free2 ≡ a2 → a2 + b2 ≡ a + b → (free + held) - free2 ≡ b2
held_by free held free2 a b a2 b2 e f h same = omega (arith, e, f, h, same)
