-- What is kept loses the right to write to the frames that are noted as tables.
use Rattle.std.proofs.Common.{◌≡◌, ℕ, ◌+◌, ◌^◌, ◌<◌, List, [], ◌∷◌, ◌++◌, length, take, get_or, Bool, true, false, not, eqb, ◌&&◌, ◌||◌, Option, Some, None, refl, sym, ap, ◌∙◌, subst, inl, inr}
use Rattle.std.proofs.lemmas.Bool.{cases_Bool}
use Rattle.std.proofs.lemmas.Bool.Decides.{eqb_tells}
use Rattle.plain_laws.proofs.Tests.{either_less}
use Rattle.guest_ram.specs.Among.{is_among}
use Rattle.shadow_tables.specs.Calls.{IsWithin}
use Rattle.shadow_tables.specs.Slots.{Slot, ArePart, LosesWrites, SameSlots, barred}
use Rattle.shadow_tables.proofs.OtherRoots.{among-append, barred-none, barred-twice}
use Rattle.wedge_mem.specs.Settled.{LosesSome}
use Rattle.wedge_mem.specs.Told.{guest_frames}
use Rattle.wedge_mem.proofs.Lists.{true-false}
use Rattle.wedge_mem.proofs.Told.{guest-more}

-- ---- one frame

bits : (w b a n : Bool) → (b ≡ true → w ≡ false) → (b ≡ false → a ≡ n) → (w && not a) ≡ (w && not n)
bits true true a n h k = absurd (true-false (h refl))
bits true false a n h k = ap not (k refl)
bits false b a n h k = refl

-- no right to write to the frames before is left: so others tell what is lost, if they are the same beside those
barred-by : (before after others : List ℕ) (o : Option Slot)
    → ((slot : Slot) → o ≡ Some slot → is_among slot.entry.frame before ≡ true → slot.writes ≡ false)
    → ((f : ℕ) → is_among f before ≡ false → is_among f after ≡ is_among f others) → barred after o ≡ barred others o
barred-by before after others None h k = refl
barred-by before after others (Some s) h k =
    ap (λ (b : Bool). Some (record s { writes = b }))
    (bits s.writes (is_among s.entry.frame before) (is_among s.entry.frame after) (is_among s.entry.frame others)
    (h s refl) (k s.entry.frame))

module _ (frame : ℕ) (old new : ℕ → Option Slot) (before after : List ℕ) (part : ArePart after (frame ∷ before))
    (loses : LosesWrites old new after)
    (bar : (page : ℕ) (slot : Slot) → page < 2 ^ 20 → old page ≡ Some slot → is_among slot.entry.frame before ≡ true → slot.writes ≡ false)
  where
    loses-by : (others : List ℕ) → ((f : ℕ) → is_among f before ≡ false → is_among f after ≡ is_among f others) → LosesWrites old new others
    loses-by others same = λ page l. loses page l ∙ barred-by before after others (old page) (λ slot e. bar page slot l e) same

    other : (f : ℕ) → is_among f before ≡ false → eqb f frame ≡ false → is_among f after ≡ false
    other f b n =
        elim (cases_Bool (is_among f after)) [
          | inl t ↦ absurd (true-false (sym (part f t) ∙ (ap (λ (x : Bool). x || is_among f before) n ∙ b)))
          | inr t ↦ t
        ]

    with-it : is_among frame after ≡ true → (f : ℕ) → is_among f before ≡ false → is_among f after ≡ is_among f (frame ∷ [])
    with-it there f b =
        elim (eqb_tells f frame) [
          | inl t ↦ ap (λ x. is_among x after) t.1 ∙ there ∙ sym (ap (λ (x : Bool). x || false) t.0)
          | inr n ↦ other f b n.0 ∙ sym (ap (λ (x : Bool). x || false) n.0)
        ]

    without-it : is_among frame after ≡ false → (f : ℕ) → is_among f before ≡ false → is_among f after ≡ is_among f []
    without-it gone f b =
        elim (eqb_tells f frame) [
          | inl t ↦ ap (λ x. is_among x after) t.1 ∙ gone
          | inr n ↦ other f b n.0
        ]

    pub one-loses : LosesSome (frame ∷ []) old new
    one-loses =
        elim (cases_Bool (is_among frame after)) [
          | inl t ↦ record { lost = frame ∷ []; part = λ f h. h; loses = loses-by (frame ∷ []) (with-it t) }
          | inr n ↦ record { lost = []; part = λ f h. absurd (true-false (sym h)); loses = loses-by [] (without-it n) }
        ]

pub none-loses : (frames : List ℕ) (slots : ℕ → Option Slot) → LosesSome frames slots slots
none-loses frames slots = record { lost = []; part = λ f h. absurd (true-false (sym h)); loses = λ page l. sym (barred-none (slots page)) }

-- ---- one frame more

pub more-loses : (fs : List ℕ) (i : ℕ) (first old new : ℕ → Option Slot) → i < length fs → LosesSome (guest_frames (take i fs)) first old
    → LosesSome (guest_frames (get_or fs i 0 ∷ [])) old new
    → LosesSome (guest_frames (take (i + 1) fs)) first new
more-loses fs i first old new l h k =
    let gs : List ℕ = guest_frames (take i fs) in let hs : List ℕ = guest_frames (get_or fs i 0 ∷ []) in
    record {
      lost = h.lost ++ k.lost;
      part = λ f t.
          ap (is_among f) (guest-more fs i l) ∙ among-append f gs hs
          ∙ either_less (is_among f h.lost) (is_among f k.lost) (is_among f gs) (is_among f hs) (h.part f) (k.part f)
          (sym (among-append f h.lost k.lost) ∙ t);
      loses = λ page s. k.loses page s ∙ ap (barred k.lost) (h.loses page s) ∙ barred-twice h.lost k.lost (first page);
    }

-- ---- what is left is within what was

less : (w a : Bool) → (w && not a) ≡ true → w ≡ true
less true a e = refl
less false a e = e

within-barred : (fs : List ℕ) (o : Option Slot) → IsWithin (barred fs o) o
within-barred fs None = tt
within-barred fs (Some s) = (refl, refl, refl, less s.writes (is_among s.entry.frame fs))

pub lost-within : (frames : List ℕ) (old new : ℕ → Option Slot) → LosesSome frames old new → (page : ℕ) → page < 2 ^ 20
    → IsWithin (new page) (old page)
lost-within frames old new h page l =
    subst (λ (o : Option Slot). IsWithin o (old page)) (sym (h.loses page l)) (within-barred h.lost (old page))

pub lost-same : (frames : List ℕ) (old mid new : ℕ → Option Slot) → LosesSome frames old mid → SameSlots mid new → LosesSome frames old new
lost-same frames old mid new h same = record { lost = h.lost; part = h.part; loses = λ page l. same page l ∙ h.loses page l }
