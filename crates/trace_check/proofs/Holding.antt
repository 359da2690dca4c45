-- A set of translations as one word for each page, read by page.
use Rattle.std.proofs.Common.{◌≡◌, ◌≢◌, ℕ, zero, suc, ◌+◌, ◌*◌, ◌<◌, ◌≤◌, ◌^◌, ◌/◌, ◌%◌, Bool, true, false, cond, List, [], ◌∷◌, length, get_or, set, refl, sym, ap, ◌∙◌, subst, arith, Some, None, inl, inr, ◌⊎◌, lit<}
use Rattle.std.specs.Prelude.{replicate}
use Rattle.std.proofs.lemmas.Bool.Decides.{eqb_tells}
use Rattle.std.proofs.lemmas.List.{get_or-set_same, get_or-set_other}
use Rattle.std.proofs.Math.ListN.{length-set, length-replicate}
use Rattle.std.proofs.lemmas.Cmp.{nat_cmp_total}
use Rattle.std.specs.FinMap.{get, empty, get-empty, same_map, nat_cmp-IsAntisymmetric}
use Rattle.std.specs.Ordering.{nat_cmp}
use Rattle.paging.specs.declared.entry.Entry.{Entry}
use Rattle.paging.specs.Fresh.{has}
use Rattle.paging.specs.Uses.{with_entry}
use Rattle.paging.proofs.WithEntry.{get_with_same, get_with_other}
use Rattle.trace_check.specs.Slots.{word_of, entry_in, entries_from, entries_of, IsWhole}

found : (words : List ℕ) (k i : ℕ) → get (entries_from k words) (k + i) ≡ entry_in (k + i) (get_or words i 0)
unfolding entries_from
found [] k i = get-empty nat_cmp (k + i)
found (w ∷ words) k zero =
    let same : k + 0 ≡ k = omega arith in
    subst (λ (q : ℕ). get (with_entry (entries_from (k + 1) words) k (entry_in k w)) q ≡ entry_in q w) (sym same)
    (get_with_same (entries_from (k + 1) words) k (entry_in k w))
found (w ∷ words) k (suc i) =
    let same : k + suc i ≡ (k + 1) + i = omega arith in
    let other : k + suc i ≢ k = omega arith in
    get_with_other (entries_from (k + 1) words) k (entry_in k w) (k + suc i) other
    ∙ subst (λ (q : ℕ). get (entries_from (k + 1) words) q ≡ entry_in q (get_or words i 0)) (sym same) (found words (k + 1) i)

-- the map at a page is what the page's word says
pub get_entries : (words : List ℕ) (page : ℕ) → get (entries_of words) page ≡ entry_in page (get_or words page 0)
get_entries words page =
    let same : 0 + page ≡ page = omega arith in
    subst (λ (q : ℕ). get (entries_of words) q ≡ entry_in q (get_or words page 0)) same (found words 0 page)

pub get_cleared : (words : List ℕ) (page : ℕ) → get_or words page 0 ≡ 0 → get (entries_of words) page ≡ None
get_cleared words page e = get_entries words page ∙ ap (entry_in page) e

pub get_same : (old new : List ℕ) (page : ℕ) → get_or new page 0 ≡ get_or old page 0 → get (entries_of new) page ≡ get (entries_of old) page
get_same old new page e = get_entries new page ∙ ap (entry_in page) e ∙ sym (get_entries old page)

-- a page past all words has none
behind : (words : List ℕ) (page : ℕ) → length words ≤ page → get_or words page 0 ≡ 0
behind [] page le = refl
behind (w ∷ words) zero le = absurd (omega arith)
behind (w ∷ words) (suc page) le = behind words page (omega arith)

pub get_behind : (words : List ℕ) (marks : List Bool) (page : ℕ) → IsWhole words marks → 1048576 ≤ page → get (entries_of words) page ≡ None
get_behind words marks page h le = get_cleared words page (behind words page (omega (arith, h.pages)))

-- ---- one word

back : (page f c : ℕ) → c < 4096
    → entry_in page (4096 * f + c) ≡ cond (has c 1)
    (Some (record { page = page; frame = f; user = has c 4; write = has c 2; dirty = has c 64 })) None
back page f c lt =
    let h1 : (4096 * f + c) / 1 % 2 ≡ c / 1 % 2 = omega arith in
    let h2 : (4096 * f + c) / 2 % 2 ≡ c / 2 % 2 = omega arith in
    let h4 : (4096 * f + c) / 4 % 2 ≡ c / 4 % 2 = omega arith in
    let h64 : (4096 * f + c) / 64 % 2 ≡ c / 64 % 2 = omega arith in
    let hf : (4096 * f + c) / 4096 ≡ f = omega arith in
    rw (h1, h2, h4, h64, hf) refl

by_flags : (page f : ℕ) (user write dirty : Bool)
    → entry_in page (word_of (record { page = page; frame = f; user = user; write = write; dirty = dirty })) ≡ Some
    (record { page = page; frame = f; user = user; write = write; dirty = dirty })
by_flags page f false false false = back page f 1 (omega arith)
by_flags page f true false false = back page f 5 (omega arith)
by_flags page f false true false = back page f 3 (omega arith)
by_flags page f true true false = back page f 7 (omega arith)
by_flags page f false false true = back page f 65 (omega arith)
by_flags page f true false true = back page f 69 (omega arith)
by_flags page f false true true = back page f 67 (omega arith)
by_flags page f true true true = back page f 71 (omega arith)

pub word_back : (e : Entry) → entry_in e.page (word_of e) ≡ Some e
word_back e = by_flags e.page e.frame e.user e.write e.dirty

-- ---- what holds of all words

abbrev pub zeros : ℕ → List ℕ
zeros n = replicate n 0

all_zero : (n i : ℕ) → get_or (zeros n) i 0 ≡ 0
all_zero zero i = refl
all_zero (suc n) zero = refl
all_zero (suc n) (suc i) = all_zero n i

pub none_held : (words : List ℕ) (n : ℕ) → words ≡ zeros n → entries_of words ≡ empty
none_held words n is = same_map nat_cmp_total nat_cmp-IsAntisymmetric _ _
    (λ q. get_cleared words q (ap (λ (l : List ℕ). get_or l q 0) is ∙ all_zero n q) ∙ sym (get-empty nat_cmp q))

true_false : true ≡ false → ⊥
true_false e = cc

pub at_place : (words : List ℕ) (k : ℕ) → get_or (set words k 0) k 0 ≡ 0
at_place [] k = refl
at_place (w ∷ words) zero = refl
at_place (w ∷ words) (suc k) = at_place words k

-- a word after one was cleared is 0 or as before
cleared : (words : List ℕ) (p page : ℕ) → (get_or (set words p 0) page 0 ≡ 0) ⊎ (get_or (set words p 0) page 0 ≡ get_or words page 0)
cleared words p page = elim (eqb_tells page p) [
  | inl t ↦ inl (ap (λ (k : ℕ). get_or (set words p 0) k 0) t.1 ∙ at_place words p)
  | inr f ↦ inr (get_or-set_other words p page 0 0 f.1)
]

pub whole_at_first : (words : List ℕ) (marks : List Bool) (n m : ℕ) → words ≡ zeros n → marks ≡ replicate m false → n ≡ 1048576 → m ≡ 1024
    → IsWhole words marks
whole_at_first words marks n m is are all ind = record {
  pages = ap length is ∙ length-replicate n 0 ∙ all;
  indices = ap length are ∙ length-replicate m false ∙ ind;
  small = λ page. let z : get_or words page 0 ≡ 0 = ap (λ (l : List ℕ). get_or l page 0) is ∙ all_zero n page in omega arith;
  clear = λ page e. ap (λ (l : List ℕ). get_or l page 0) is ∙ all_zero n page;
}

-- where an index isn't marked after another was, it wasn't before
unmarked : (marks : List Bool) (i j : ℕ) → i < length marks → get_or (set marks i true) j false ≡ false → (j ≢ i)
    × (get_or marks j false ≡ false)
unmarked marks i j lt e =
    elim (eqb_tells j i) [
      | inl t ↦ absurd (true_false
          (sym (get_or-set_same marks i true false lt) ∙ ap (λ (k : ℕ). get_or (set marks i true) k false) (sym t.1) ∙ e))
      | inr f ↦ (f.1, sym (get_or-set_other marks i j true false f.1) ∙ e)
    ]

pub whole_put : (words : List ℕ) (marks : List Bool) (p w : ℕ) → IsWhole words marks → p < 1048576 → w < 2 ^ 44
    → IsWhole (set words p w) (set marks (p / 1024) true)
whole_put words marks p w h lt small = record {
  pages = length-set words p w ∙ h.pages;
  indices = length-set marks (p / 1024) true ∙ h.indices;
  small = λ page. elim (eqb_tells page p) [
    | inl t ↦ rw (t.1, get_or-set_same words p w 0 (omega (arith, h.pages))) small
    | inr f ↦ rw (get_or-set_other words p page w 0 f.1) (h.small page)
  ];
  clear = λ page e.
      let was = unmarked marks (p / 1024) (page / 1024) (omega (arith, h.indices)) e in
      let other : page ≢ p = λ same. was.0 (ap (λ (k : ℕ). k / 1024) same) in
      get_or-set_other words p page w 0 other ∙ h.clear page was.1;
}

pub whole_cleared : (words : List ℕ) (marks : List Bool) (p : ℕ) → IsWhole words marks → IsWhole (set words p 0) marks
whole_cleared words marks p h = record {
  pages = length-set words p 0 ∙ h.pages;
  indices = h.indices;
  small = λ page. elim (cleared words p page) [ inl z ↦ rw z (lit< tt) | inr s ↦ rw s (h.small page) ];
  clear = λ page e. elim (cleared words p page) [ inl z ↦ z | inr s ↦ s ∙ h.clear page e ];
}

pub whole_dir : (words new : List ℕ) (marks : List Bool) (index : ℕ) → IsWhole words marks → length new ≡ 1048576
    → ((page : ℕ) → page / 1024 ≡ index → get_or new page 0 ≡ 0)
    → ((page : ℕ) → page / 1024 ≢ index → get_or new page 0 ≡ get_or words page 0)
    → IsWhole new (set marks index false)
whole_dir words new marks index h len clear others = record {
  pages = len;
  indices = length-set marks index false ∙ h.indices;
  small =
      λ page. elim (eqb_tells (page / 1024) index) [ inl t ↦ rw (clear page t.1) (lit< tt) | inr f ↦ rw (others page f.1) (h.small page) ];
  clear = λ page e. elim (eqb_tells (page / 1024) index) [
    | inl t ↦ clear page t.1
    | inr f ↦ others page f.1 ∙ h.clear page (sym (get_or-set_other marks index (page / 1024) false false f.1) ∙ e)
  ];
}

-- ---- one word changed

pub get_put : (words : List ℕ) (e : Entry) → e.page < length words → get (entries_of (set words e.page (word_of e))) e.page ≡ Some e
get_put words e lt =
    get_entries (set words e.page (word_of e)) e.page ∙ ap (entry_in e.page) (get_or-set_same words e.page (word_of e) 0 lt) ∙ word_back e

pub get_put_other : (words : List ℕ) (p w page : ℕ) → page ≢ p → get (entries_of (set words p w)) page ≡ get (entries_of words) page
get_put_other words p w page n = get_same words (set words p w) page (get_or-set_other words p page w 0 n)
