-- What the shadows keep after fills.
use Rattle.std.proofs.Common.{◌≡◌, ℕ, zero, suc, ◌+◌, ◌^◌, ◌<◌, ◌≤◌, List, [], ◌∷◌, ◌++◌, map, length, drop, get_or, Bool, true, false, not, cond, eqb, ◌&&◌, ◌||◌, Option, Some, None, refl, sym, ap, ◌∙◌, inl, inr, arith}
use Rattle.std.proofs.lemmas.Bool.{cases_lt, cases_Bool, or_right}
use Rattle.std.proofs.lemmas.Bool.Decides.{eqb_tells}
use Rattle.std.proofs.lemmas.List.Elements.{All-head, All-tail}
use Rattle.std.proofs.lemmas.Cmp.{nat_cmp_total}
use Rattle.std.specs.FinMap.{get, same_map, nat_cmp-IsAntisymmetric}
use Rattle.paging.specs.declared.entry.Entry.{Entry}
use Rattle.guest_ram.specs.Among.{is_among}
use Rattle.shadow_tables.specs.Slots.{Slot, entry_in}
use Rattle.shadow_tables.specs.Entries.{entries_of}
use Rattle.shadow_tables.specs.Laws.Entries.{get-entries_of, none-entries_of}
use Rattle.shadow_tables.specs.declared.words.Side.{Side}
use Rattle.step_mem.specs.declared.changes.Change.{Change}
use Rattle.step_mem.specs.Changes.{changed, last_change, page_of, entry_of, AreOfPages}
use Rattle.step_mem.proofs.Changed.{settle, get_changed}
use Rattle.wedge_mem.specs.Settled.{Fills, filled_by, pages_of}
use Rattle.wedge_mem.proofs.Lists.{true-false, among-here, among-later}

-- ---- a page that is still to be filled

entries-at : (old now : ℕ → Option Slot) (page : ℕ) → (page < 2 ^ 20 → now page ≡ old page)
    → get (entries_of now) page ≡ get (entries_of old) page
entries-at old now page h =
    elim (cases_lt page (2 ^ 20)) [
      | inl l ↦ get-entries_of now page l ∙ ap entry_in (h l) ∙ sym (get-entries_of old page l)
      | inr g ↦ none-entries_of now page g ∙ sym (none-entries_of old page g)
    ]

pub same-entry : (old now : ℕ → Option Slot) (cs : List Change) (page : ℕ) → (page < 2 ^ 20 → now page ≡ old page)
    → get (changed (entries_of now) cs) page ≡ get (changed (entries_of old) cs) page
same-entry old now cs page h =
    get_changed (entries_of now) cs page ∙ ap (settle (last_change None cs page)) (entries-at old now page h)
    ∙ sym (get_changed (entries_of old) cs page)

kept-by : (a b : Bool) (x y : Option Slot) → b ≡ true → cond (a && not b) x y ≡ y
kept-by true b x y e = ap (λ t. cond (not t) x y) e
kept-by false b x y e = refl

pub self : (q : ℕ) → eqb q q ≡ true
self q = elim (eqb_tells q q) [ inl t ↦ t.0 | inr n ↦ absurd (n.1 refl) ]

pub here-same : (xs : List ℕ) (i : ℕ) (old now : ℕ → Option Slot) (fill : ℕ → Option Slot) → i < length xs
    → ((q : ℕ) → q < 2 ^ 20 → now q ≡ cond (is_among q xs && not (is_among q (drop i xs))) (fill q) (old q)) → get_or xs i 0 < 2 ^ 20
    → now (get_or xs i 0) ≡ old (get_or xs i 0)
here-same xs i old now fill l h small =
    let q : ℕ = get_or xs i 0 in
    h q small ∙ kept-by (is_among q xs) (is_among q (drop i xs)) (fill q) (old q) (among-here q xs i l (self q))

pub entry-still : (xs : List ℕ) (i : ℕ) (old now : ℕ → Option Slot) (cs : List Change) (fill : ℕ → Option Slot) → i < length xs
    → ((q : ℕ) → q < 2 ^ 20 → now q ≡ cond (is_among q xs && not (is_among q (drop i xs))) (fill q) (old q))
    → get (changed (entries_of now) cs) (get_or xs i 0) ≡ get (changed (entries_of old) cs) (get_or xs i 0)
entry-still xs i old now cs fill l h = same-entry old now cs (get_or xs i 0) (here-same xs i old now fill l h)

-- ---- one page more is filled

among-cons : (q y : ℕ) (ys : List ℕ) → is_among q ys ≡ true → is_among q (y ∷ ys) ≡ true
among-cons q y ys e = or_right (eqb q y) (is_among q ys) e

among-all : (q : ℕ) (xs : List ℕ) (i : ℕ) → is_among q (drop i xs) ≡ true → is_among q xs ≡ true
among-all q xs zero e = e
among-all q [] (suc i) e = e
among-all q (x ∷ xs) (suc i) e = among-cons q x xs (among-all q xs i e)

pub filled-by : (a b : Bool) (x y : Option Slot) → a ≡ true → b ≡ false → cond (a && not b) x y ≡ x
filled-by a b x y e h = ap (λ t. cond (t && not b) x y) e ∙ ap (λ t. cond (not t) x y) h

pub fill-more :
    (xs : List ℕ) (i : ℕ) (old now new : ℕ → Option Slot) (fill : ℕ → Option Slot) (v : Option Slot)
    → i < length xs → v ≡ fill (get_or xs i 0)
    → ((q : ℕ) → q < 2 ^ 20 → now q ≡ cond (is_among q xs && not (is_among q (drop i xs))) (fill q) (old q))
    → ((q : ℕ) → q < 2 ^ 20 → new q ≡ cond (eqb q (get_or xs i 0) && not (is_among (get_or xs i 0) (drop (i + 1) xs))) v (now q))
    → (q : ℕ) → q < 2 ^ 20 → new q ≡ cond (is_among q xs && not (is_among q (drop (i + 1) xs))) (fill q) (old q)
fill-more xs i old now new fill v l e h k q small =
    let p : ℕ = get_or xs i 0 in
    elim (eqb_tells q p) [
      | inl t ↦ elim (cases_Bool (is_among p (drop (i + 1) xs))) [
        | inl later ↦
            k q small
            ∙ kept-by (eqb q p) (is_among p (drop (i + 1) xs)) v (now q) later
            ∙ h q small ∙ kept-by (is_among q xs) (is_among q (drop i xs)) (fill q) (old q) (among-here q xs i l t.0)
            ∙ sym (kept-by (is_among q xs) (is_among q (drop (i + 1) xs)) (fill q) (old q)
            (ap (λ x. is_among x (drop (i + 1) xs)) t.1 ∙ later))
        | inr last ↦
            k q small
            ∙ filled-by (eqb q p) (is_among p (drop (i + 1) xs)) v (now q) t.0 last
            ∙ e ∙ ap fill (sym t.1)
            ∙ sym (filled-by (is_among q xs) (is_among q (drop (i + 1) xs)) (fill q) (old q) (among-all q xs i (among-here q xs i l t.0))
            (ap (λ x. is_among x (drop (i + 1) xs)) t.1 ∙ last))
      ]
      | inr n ↦
          k q small
          ∙ ap (λ b. cond (b && not (is_among p (drop (i + 1) xs))) v (now q)) n.0
          ∙ h q small
          ∙ ap (λ b. cond (is_among q xs && not b) (fill q) (old q)) (among-later q xs i l n.0)
    ]

-- ---- the entries after all fills

pub last-none : (f : Option (Option Entry)) (cs : List Change) (q : ℕ) → is_among q (map page_of cs) ≡ false → last_change f cs q ≡ f
last-none f [] q e = refl
last-none f (c ∷ cs) q e =
    elim (eqb_tells q (page_of c)) [
      | inl t ↦ (let x = t.0 in absurd (true-false (sym (ap (λ b. b || is_among q (map page_of cs)) x) ∙ e)))
      | inr n ↦
          elim (eqb_tells (page_of c) q) [
            | inl s ↦ absurd (n.1 (sym s.1))
            | inr m ↦
                ap (λ b. last_change (cond b (Some (entry_of c)) f) cs q) m.0
                ∙ last-none f cs q (sym (ap (λ b. b || is_among q (map page_of cs)) n.0) ∙ e)
          ]
    ]

pub not-second : (q : ℕ) (xs ys : List ℕ) → is_among q (xs ++ ys) ≡ false → is_among q ys ≡ false
not-second q [] ys e = e
not-second q (x ∷ xs) ys e =
    elim (cases_Bool (is_among q (xs ++ ys))) [
      | inl t ↦ absurd (true-false (sym (or_right (eqb q x) (is_among q (xs ++ ys)) t) ∙ e))
      | inr f ↦ not-second q xs ys f
    ]

pub last-beyond : (f : Option (Option Entry)) (cs : List Change) (q : ℕ) → AreOfPages cs → 2 ^ 20 ≤ q → last_change f cs q ≡ f
last-beyond f [] q a h = refl
last-beyond f (c ∷ cs) q a h =
    elim (eqb_tells (page_of c) q) [
      | inl s ↦ (let low = All-head (λ (change : Change). page_of change < 2 ^ 20) c cs a in let e = s.1 in
          absurd (omega (arith, low, e, h)))
      | inr m ↦ ap (λ b. last_change (cond b (Some (entry_of c)) f) cs q) m.0
          ∙ last-beyond f cs q (All-tail (λ (change : Change). page_of change < 2 ^ 20) c cs a) h
    ]

entry-filled : (side : Side) (wp : Bool) (write_protected : List ℕ) (o : Option Entry) → entry_in (filled_by side wp write_protected o) ≡ o
entry-filled side wp write_protected None = refl
entry-filled side wp write_protected (Some e) = refl

module _ (old new : ℕ → Option Slot) (visited : List ℕ) (cs : List Change) (side : Side) (wp : Bool) (write_protected : List ℕ)
    (a : AreOfPages cs) (fills : Fills old new (changed (entries_of old) cs) (pages_of visited cs) side wp write_protected) where
  entry-after : (q : ℕ) → get (entries_of new) q ≡ get (changed (entries_of old) cs) q
  entry-after q =
      elim (cases_lt q (2 ^ 20)) [
        | inl l ↦ elim (cases_Bool (is_among q (pages_of visited cs))) [
          | inl t ↦ get-entries_of new q l ∙ ap entry_in (fills.through q l t)
              ∙ entry-filled side wp write_protected (get (changed (entries_of old) cs) q)
          | inr f ↦
              get-entries_of new q l ∙ ap entry_in (fills.others q l f) ∙ sym (get-entries_of old q l)
              ∙ sym (get_changed (entries_of old) cs q ∙ ap (λ (o : Option (Option Entry)). settle o (get (entries_of old) q))
              (last-none None cs q (not-second q visited (map page_of cs) f)))
        ]
        | inr g ↦
            none-entries_of new q g ∙ sym (none-entries_of old q g)
            ∙ sym (get_changed (entries_of old) cs q ∙ ap (λ (o : Option (Option Entry)). settle o (get (entries_of old) q))
            (last-beyond None cs q a g))
      ]

  pub entries-filled : entries_of new ≡ changed (entries_of old) cs
  entries-filled = same_map nat_cmp_total nat_cmp-IsAntisymmetric (entries_of new) (changed (entries_of old) cs) entry-after
