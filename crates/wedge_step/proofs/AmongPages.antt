-- Pages that are among others: those that a step changed among those that it went through, and how many have an entry.
use Rattle.std.proofs.Common.{◌≡◌, ℕ, ◌+◌, ◌≤◌, List, [], ◌∷◌, ◌++◌, length, map, Bool, true, false, cond, ◌||◌, ◌&&◌, not, ◌==◌, ◌⊎◌, inl, inr, refl, sym, ap, ◌∙◌, arith}
use Rattle.std.specs.FinMap.{FinMap, get}
use Rattle.std.specs.Ordering.{nat_cmp}
use Rattle.std.proofs.lemmas.Bool.Decides.{eqb_tells}
use Rattle.guest_ram.specs.Among.{is_among}
use Rattle.paging.specs.declared.entry.Entry.{Entry}
use Rattle.paging.specs.Uses.{with_entry}
use Rattle.step_mem.specs.declared.changes.Change.{Change}
use Rattle.step_mem.specs.Changes.{changed, page_of, entry_of, AreToldIn}
use Rattle.step_mem.proofs.Changed.{get_with_other}
use Rattle.machine_model.specs.Run.{Set}
use Rattle.machine_step.specs.declared.worked.Dropped.{Dropped}
use Rattle.machine_step.specs.declared.worked.Dropped.TheVariants as dropped
use Rattle.wedge_mem.specs.Settled.{has_entry, pages_of, used}
use Rattle.wedge_step.specs.Ready.{leaving}
use Rattle.wedge_step.proofs.Bools.{or_true}
use Rattle.std.proofs.lemmas.Bool.{cases_Bool, or_parts}
pub use Rattle.image_check.proofs.Starts.{any_contains as among_contains}

pub among_split : (q : ℕ) (xs ys : List ℕ) → is_among q (xs ++ ys) ≡ true → (is_among q xs ≡ true) ⊎ (is_among q ys ≡ true)
among_split q [] ys h = inr h
among_split q (x ∷ xs) ys h =
    elim (cases_Bool (q == x)) [
      | inl t ↦ inl (ap (λ (b : Bool). b || is_among q xs) t)
      | inr n ↦ elim (among_split q xs ys (sym (ap (λ (b : Bool). b || is_among q (xs ++ ys)) n) ∙ h)) [
        | inl a ↦ inl (ap (λ (b : Bool). (q == x) || b) a ∙ or_true (q == x))
        | inr c ↦ inr c
      ]
    ]

-- a page of which nothing was changed has its entry
pub changed_other : (set : Set) (cs : List Change) (q : ℕ) → is_among q (map page_of cs) ≡ false → get (changed set cs) q ≡ get set q
changed_other set [] q h = refl
changed_other set (c ∷ cs) q h =
    elim (eqb_tells q (page_of c)) [
      | inl e ↦ absurd (let f : true ≡ false = sym (ap (λ (b : Bool). b || is_among q (map page_of cs)) e.0) ∙ h in cc)
      | inr n ↦ changed_other (with_entry set (page_of c) (entry_of c)) cs q (or_parts (q == page_of c) (is_among q (map page_of cs)) h).1
          ∙ get_with_other set (page_of c) (entry_of c) q n.1
    ]

-- each page that a step changed is one that it went through
pub told_among : (visited : List ℕ) (changes : List Change) → AreToldIn visited changes → (q : ℕ)
    → is_among q (pages_of visited changes) ≡ true → is_among q visited ≡ true
told_among visited changes told q h = elim (among_split q visited (map page_of changes) h) [
  | inl a ↦ a
  | inr c ↦ told q c
]

pub among_first : (q : ℕ) (xs ys : List ℕ) → is_among q xs ≡ true → is_among q (xs ++ ys) ≡ true
among_first q [] ys h = absurd (let f : false ≡ true = h in cc)
among_first q (x ∷ xs) ys h =
    elim (cases_Bool (q == x)) [
      | inl t ↦ ap (λ (b : Bool). b || is_among q (xs ++ ys)) t
      | inr n ↦ ap (λ (b : Bool). (q == x) || b) (among_first q xs ys (sym (ap (λ (b : Bool). b || is_among q xs) n) ∙ h))
          ∙ or_true (q == x)
    ]

-- ---- how many have an entry

abbrev without : ℕ → List ℕ → List ℕ
without z [] = []
without z (w ∷ ws) = cond (z == w) ws (w ∷ without z ws)

without_few : (z : ℕ) (ws : List ℕ) → is_among z ws ≡ true → length (without z ws) + 1 ≡ length ws
without_few z [] h = absurd (let f : false ≡ true = h in cc)
without_few z (w ∷ ws) h =
    elim (cases_Bool (z == w)) [
      | inl t ↦ ap (λ (b : Bool). length (cond b ws (w ∷ without z ws)) + 1) t ∙ omega arith
      | inr n ↦
          let r = without_few z ws (sym (ap (λ (c : Bool). c || is_among z ws) n) ∙ h) in
          ap (λ (b : Bool). length (cond b ws (w ∷ without z ws)) + 1) n ∙ omega (arith, r)
    ]

without_other : (z q : ℕ) (ws : List ℕ) → (q == z) ≡ false → is_among q ws ≡ true → is_among q (without z ws) ≡ true
without_other z q [] n h = h
without_other z q (w ∷ ws) n h =
    elim (eqb_tells z w) [
      | inl t ↦
          let other : (q == w) ≡ false = ap (λ (k : ℕ). q == k) (sym t.1) ∙ n in
          ap (λ (b : Bool). is_among q (cond b ws (w ∷ without z ws))) t.0 ∙ sym (ap (λ (c : Bool). c || is_among q ws) other) ∙ h
      | inr f ↦
          ap (λ (b : Bool). is_among q (cond b ws (w ∷ without z ws))) f.0
          ∙ elim (cases_Bool (q == w)) [
            | inl t ↦ ap (λ (c : Bool). c || is_among q (without z ws)) t
            | inr g ↦ ap (λ (c : Bool). (q == w) || c) (without_other z q ws n (sym (ap (λ (c : Bool). c || is_among q ws) g) ∙ h))
                ∙ or_true (q == w)
          ]
    ]

one_more : (z : ℕ) (xs : List ℕ) (n : ℕ) (b c : Bool) → length xs + 1 ≤ n → length (cond (b && c) (z ∷ xs) xs) ≤ n
one_more z xs n true true r = omega (arith, r)
one_more z xs n true false r = omega (arith, r)
one_more z xs n false c r = omega (arith, r)

none_more : (z : ℕ) (xs : List ℕ) (n : ℕ) (b c : Bool) → c ≡ false → length xs ≤ n → length (cond (b && c) (z ∷ xs) xs) ≤ n
none_more z xs n true false e r = r
none_more z xs n false false e r = r
none_more z xs n b true e r = absurd (let f : true ≡ false = e in cc)

used_more : (set : FinMap nat_cmp Entry) (z : ℕ) (zs ws : List ℕ)
    → ((vs : List ℕ) → ((q : ℕ) → is_among q zs ≡ true → is_among q vs ≡ true) → length (used set zs) ≤ length vs)
    → ((q : ℕ) → is_among q (z ∷ zs) ≡ true → is_among q ws ≡ true) → length (used set (z ∷ zs)) ≤ length ws
used_more set z zs ws rest h =
    elim (cases_Bool (is_among z zs)) [
      | inl t ↦ none_more z (used set zs) (length ws) (has_entry (get set z)) (not (is_among z zs)) (ap not t) (rest ws later)
      | inr n ↦
          let few = without_few z ws here in
          let r = rest (without z ws) (λ q a. without_other z q ws (other q a n) (later q a)) in
          one_more z (used set zs) (length ws) (has_entry (get set z)) (not (is_among z zs)) (omega (arith, few, r))
    ]
  where
    later : (q : ℕ) → is_among q zs ≡ true → is_among q ws ≡ true
    later q a = h q (ap (λ (b : Bool). (q == z) || b) a ∙ or_true (q == z))

    here : is_among z ws ≡ true
    here = h z (elim (eqb_tells z z) [ inl t ↦ ap (λ (b : Bool). b || is_among z zs) t.0 | inr n ↦ absurd (n.1 refl) ])

    other : (q : ℕ) → is_among q zs ≡ true → is_among z zs ≡ false → (q == z) ≡ false
    other q a e =
        elim (eqb_tells q z) [ inl t ↦ absurd (let f : true ≡ false = sym a ∙ ap (λ (k : ℕ). is_among k zs) t.1 ∙ e in cc) | inr f ↦ f.0 ]

-- no more than there are pages of which each is one
pub used_within : (set : FinMap nat_cmp Entry) (zs ws : List ℕ) → ((q : ℕ) → is_among q zs ≡ true → is_among q ws ≡ true)
    → length (used set zs) ≤ length ws
used_within set [] ws h = omega arith
used_within set (z ∷ zs) ws h = used_more set z zs ws (used_within set zs) h

-- the pages that a step went through or changed are those that it went through
pub among_through : (visited : List ℕ) (changes : List Change) (pages : List ℕ) → AreToldIn visited changes → pages ≡ visited → (q : ℕ)
    → is_among q (pages_of visited changes) ≡ is_among q pages
among_through visited changes pages told same q =
    elim (cases_Bool (is_among q visited)) [
      | inl a ↦ among_first q visited (map page_of changes) a ∙ (sym a ∙ sym (ap (is_among q) same))
      | inr n ↦
          elim (cases_Bool (is_among q (pages_of visited changes))) [
            | inl a ↦ absurd (let f : true ≡ false = sym (told_among visited changes told q a) ∙ n in cc)
            | inr none ↦ none ∙ (sym n ∙ sym (ap (is_among q) same))
          ]
    ]

-- and so are those that leave with an instruction
pub leaving_through : (d : Dropped) (visited : List ℕ) (changes : List Change) (pages : List ℕ) → AreToldIn visited changes
    → pages ≡ visited → (q : ℕ) → leaving d (pages_of visited changes) q ≡ leaving d pages q
leaving_through dropped.Nothing visited changes pages told same q = refl
leaving_through (dropped.Page gone) visited changes pages told same q = refl
leaving_through (dropped.Dir index) visited changes pages told same q = refl
leaving_through dropped.All visited changes pages told same q = among_through visited changes pages told same q
