-- How many pages a step may have used.
use Rattle.std.proofs.Common.{◌≡◌, ℕ, ◌+◌, ◌≤◌, ◌<◌, List, [], ◌∷◌, length, take, take-suc, get_or, add-one, Bool, true, false, ◌&&◌, not, cond, Option, inl, inr, sym, ap, ◌∙◌, arith}
use Rattle.std.proofs.lemmas.List.{take_all}
use Rattle.step_mem.specs.declared.changes.Change.{Change}
use Rattle.std.specs.FinMap.{FinMap, get}
use Rattle.std.specs.Ordering.{nat_cmp}
use Rattle.paging.specs.declared.entry.Entry.{Entry}
use Rattle.guest_ram.specs.Among.{is_among}
use Rattle.shadow_tables.specs.Slots.{Slot}
use Rattle.shadow_tables.specs.declared.words.Side.{Side}
use Rattle.wedge_mem.specs.Settled.{has_entry, is_due, refilled}
use Rattle.wedge_mem.proofs.Lists.{among-append}
use Rattle.std.proofs.lemmas.Bool.{cases_Bool}

used_by : (b : Bool) (page : ℕ) (rest pages : List ℕ) → length rest ≤ length pages
    → length (cond b (page ∷ rest) rest) ≤ length (page ∷ pages)
used_by true page rest pages h = omega (arith, h)
used_by false page rest pages h = omega (arith, h)

-- no more are filled
pub filled_few : (kept : ℕ → Option Slot) (set : FinMap nat_cmp Entry) (changes : List Change) (side : Side) (wp : Bool) (pages : List ℕ)
    → length (refilled kept set changes side wp pages) ≤ length pages
filled_few kept set changes side wp [] = omega arith
filled_few kept set changes side wp (page ∷ pages) =
    used_by ((has_entry (get set page) && not (is_among page pages)) && is_due kept changes side wp page) page
    (refilled kept set changes side wp pages) pages (filled_few kept set changes side wp pages)

-- what holds of the pages before an index, and of the one there
pub each_more : (test : ℕ → Bool) (xs : List ℕ) (i : ℕ) → i < length xs → test (get_or xs i 0) ≡ true
    → ((x : ℕ) → is_among x (take i xs) ≡ true → test x ≡ true) → (x : ℕ) → is_among x (take (i + 1) xs) ≡ true → test x ≡ true
each_more test xs i l here before x h =
    elim (cases_Bool (is_among x (take i xs))) [
      | inl t ↦ before x t
      | inr n ↦
          let e : x ≡ get_or xs i 0 =
          among-append x (take i xs) (get_or xs i 0) (sym (ap (is_among x) (rw add-one (take-suc xs i 0 l))) ∙ h) n in
          ap test e ∙ here
    ]

pub each_all : (test : ℕ → Bool) (xs : List ℕ) (i : ℕ) → length xs ≤ i → ((x : ℕ) → is_among x (take i xs) ≡ true → test x ≡ true) → (x : ℕ)
    → is_among x xs ≡ true → test x ≡ true
each_all test xs i l all x h = all x (ap (is_among x) (take_all i xs l) ∙ h)

pub each_none : (test : ℕ → Bool) (xs : List ℕ) → (x : ℕ) → is_among x (take 0 xs) ≡ true → test x ≡ true
each_none test xs x h = absurd (let z : false ≡ true = h in cc)
