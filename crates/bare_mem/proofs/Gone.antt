-- The pages that changes leave with no entry.
use Rattle.std.proofs.Common.{◌≡◌, ◌≢◌, ℕ, Bool, true, false, ◌&&◌, ◌||◌, ◌==◌, eqb, cond, List, [], ◌∷◌, ◌++◌, refl, sym, ap, ◌∙◌, Option, Some, None, inl, inr}
use Rattle.std.proofs.lemmas.Bool.Decides.{eqb_tells}
use Rattle.std.specs.Prelude.{map}
use Rattle.std.specs.FinMap.{get, remove}
use Rattle.guest_ram.specs.Among.{is_among}
use Rattle.paging.specs.declared.entry.Entry.{Entry}
use Rattle.step_mem.specs.declared.changes.Change.{Change}
use Rattle.step_mem.specs.Changes.{last_change, page_of, entry_of}
use Rattle.step_mem.proofs.Changed.{get_with_same, get_with_other}
use Rattle.bare_mem.specs.Keeping.{Set, is_gone, unless}

-- the page is one of those that were changed
abbrev pub among : ℕ → List Change → Bool
among q cs = is_among q (map page_of cs)

-- of the changed pages those that are to go are gone, and others are as before
pub record AreGone (go : ℕ → Bool) (old new : Set) (cs : List Change) : Type 0 where
  pub each : (q : ℕ) → get new q ≡ unless (go q && among q cs) (get old q)

none_of : (b : Bool) (o : Option Entry) → unless (b && false) o ≡ o
none_of true o = refl
none_of false o = refl

pub gone_none : (go : ℕ → Bool) (set : Set) → AreGone go set set []
gone_none go set = record { each = λ q. sym (none_of (go q) (get set q)) }

among_push : (q : ℕ) (cs : List Change) (c : Change) → among q (cs ++ c ∷ []) ≡ (among q cs || (q == page_of c))
among_push q [] c = last (eqb q (page_of c))
  where
    last : (b : Bool) → (b || false) ≡ b
    last true = refl
    last false = refl
among_push q (d ∷ cs) c = ap (λ b. (q == page_of d) || b) (among_push q cs c) ∙ joined (eqb q (page_of d)) (among q cs) (eqb q (page_of c))
  where
    joined : (a b c : Bool) → (a || (b || c)) ≡ ((a || b) || c)
    joined true b c = refl
    joined false b c = refl

here : (go a : Bool) (old now : Option Entry) → now ≡ unless go (unless (go && a) old) → now ≡ unless (go && (a || true)) old
here true true old now is = is
here true false old now is = is
here false a old now is = is

there : (go a : Bool) (old now : Option Entry) → now ≡ unless (go && a) old → now ≡ unless (go && (a || false)) old
there true true old now is = is
there true false old now is = is
there false a old now is = is

-- what is found where a page is dropped if it is to go
dropped_here : (go : Bool) (m : Set) (p : ℕ) → get (cond go (remove m p) m) p ≡ unless go (get m p)
dropped_here true m p = get_with_same m p None
dropped_here false m p = refl

dropped_there : (go : Bool) (m : Set) (p q : ℕ) → q ≢ p → get (cond go (remove m p) m) q ≡ get m q
dropped_there true m p q n = get_with_other m p None q n
dropped_there false m p q n = refl

-- one more
pub gone_more : (go : ℕ → Bool) (old mid new : Set) (cs : List Change) (c : Change) → new ≡ cond (go (page_of c)) (remove mid (page_of c))
    mid → AreGone go old mid cs → AreGone go old new (cs ++ c ∷ [])
gone_more go old mid new cs c is h = record {
  each = λ q.
      let p = page_of c in
      elim (eqb_tells q p) [
        | inl t ↦
            here (go q) (among q cs) (get old q) (get new q)
            (ap (λ (m : Set). get m q) is
            ∙ (ap (get (cond (go p) (remove mid p) mid)) t.1
            ∙ (dropped_here (go p) mid p ∙ (ap (λ x. unless (go x) (get mid x)) (sym t.1) ∙ ap (unless (go q)) (h.each q)))))
            ∙ ap (λ b. unless (go q && b) (get old q)) (ap (λ b. among q cs || b) (sym t.0) ∙ sym (among_push q cs c))
        | inr f ↦
            there (go q) (among q cs) (get old q) (get new q) (ap (λ (m : Set). get m q) is ∙ (dropped_there (go p) mid p q f.1 ∙ h.each q))
            ∙ ap (λ b. unless (go q && b) (get old q)) (ap (λ b. among q cs || b) (sym f.0) ∙ sym (among_push q cs c))
      ];
}

-- a page that wasn't changed has no change
pub unchanged : (q : ℕ) (found : Option (Option Entry)) (cs : List Change) → among q cs ≡ false → last_change found cs q ≡ found
unchanged q found [] h = refl
unchanged q found (c ∷ cs) h = elim (eqb_tells q (page_of c)) [
  | inl t ↦ absurd (let f : true ≡ false = sym (ap (λ b. b || among q cs) t.0) ∙ h in cc)
  | inr f ↦
      let other : eqb (page_of c) q ≡ false = elim (eqb_tells (page_of c) q) [ inl t ↦ absurd (f.1 (sym t.1)) | inr g ↦ g.0 ] in
      ap (λ b. last_change (cond b (Some (entry_of c)) found) cs q) other ∙ unchanged q found cs (sym (ap (λ b. b || among q cs) f.0) ∙ h)
]

settled : (q : ℕ) (cs : List Change) (b : Bool) → among q cs ≡ b → (o : Option Entry) → unless (is_gone (last_change None cs q) && b) o
    ≡ unless (is_gone (last_change None cs q)) o
settled q cs true is o = both (is_gone (last_change None cs q)) o
  where
    both : (g : Bool) (o : Option Entry) → unless (g && true) o ≡ unless g o
    both true o = refl
    both false o = refl
settled q cs false is o =
    let none : is_gone (last_change None cs q) ≡ false = ap is_gone (unchanged q None cs is) in
    ap (λ g. unless (g && false) o) none ∙ ap (λ g. unless g o) (sym none)

-- after all of them
pub gone_all : (old new : Set) (cs : List Change) → AreGone (λ q. is_gone (last_change None cs q)) old new cs → (q : ℕ)
    → get new q ≡ unless (is_gone (last_change None cs q)) (get old q)
gone_all old new cs h q = h.each q ∙ settled q cs (among q cs) refl (get old q)
