-- Choices of one step, made one after the other.
use Rattle.std.proofs.Common.{◌≡◌, ◌≢◌, ℕ, zero, suc, ◌+◌, ◌<◌, ◌≤◌, Bool, true, false, cond, eqb, List, [], ◌∷◌, ◌++◌, length, take, drop, Option, Some, None, Ok, Err, refl, sym, ap, subst, ◌∙◌, arith, inl, inr}
use Rattle.std.specs.Prelude.{◌==◌, slice_get}
use Rattle.std.specs.Option.{option_map}
use Rattle.std.proofs.lemmas.Bool.{ne_eqb, eqb-true}
use Rattle.std.proofs.lemmas.Bool.Decides.{eqb_tells}
use Rattle.std.proofs.lemmas.Option.{none-some}
use Rattle.std.proofs.lemmas.List.{take-append-drop, length-take-le}
use Rattle.std.specs.FinMap.{get, insert}
use Rattle.paging.specs.declared.entry.Entry.{Entry}
use Rattle.paging.specs.Uses.{with_entry}
use Rattle.paging.proofs.WithEntry.{get_with_same, get_with_other}
use Rattle.step_mem.specs.Changes.{AreWithin}
use Rattle.board.specs.Scripts.{Events}
use Rattle.image_check.specs.Image.{Image}
use Rattle.machine_model.specs.State.{Setting, State}
use Rattle.bare_machine.specs.Settings.{bare}
use Rattle.machine_model.specs.Run.{Set, with_set}
use Rattle.trace_check.specs.declared.list.Choice.{Choice}
use Rattle.trace_check.specs.declared.list.ChoiceKind.{ChoiceKind}
use Rattle.trace_check.specs.declared.list.ChoiceKind.TheVariants.{Drop, Empty, Add}
use Rattle.trace_check.specs.Form.{AreFrom, IsPageOf}
use Rattle.trace_check.specs.Courses.{made, after_made, chosen}
use Rattle.trace_check.specs.Follows.{IsMade, due, AreBelow, Splits}

-- ---- one choice

pub add_made : (old new : Set) (e : Entry) (page : ℕ) (o : Option Entry) → Some e ≡ o → e.page ≡ page → new ≡ insert old e.page e
    → option_map (λ entry. insert old page entry) o ≡ Some new
add_made old new e page o is at to =
    ap (option_map (λ entry. insert old page entry)) (sym is) ∙ ap (λ (k : ℕ). Some (insert old k e)) (sym at)
    ∙ ap (λ (m : Set). Some m) (sym to)

pub removed_within : (frames : ℕ) (old new : Set) (page : ℕ) → new ≡ with_entry old page None → AreWithin frames old → AreWithin frames new
removed_within frames old new page is h = subst (AreWithin frames) (sym is) (λ q e found.
    elim (eqb_tells q page) [
      | inl t ↦ absurd (none-some e (sym (get_with_same old page None) ∙ ap (get (with_entry old page None)) (sym t.1) ∙ found))
      | inr f ↦ h q e (sym (get_with_other old page None q f.1) ∙ found)
    ])

pub of_kind : (s : Setting) (b : State) (k kind : ChoiceKind) (page : ℕ) (old new : Set) (r : Bool) → kind ≡ k
    → IsMade (made s b k page old) new r → IsMade (made s b kind page old) new r
of_kind s b k kind page old new r is h = subst (λ (x : ChoiceKind). IsMade (made s b x page old) new r) (sym is) h

-- ---- a list, and the place of the next choice

pub due_some : (step : ℕ) (o : Option Choice) (c : Choice) → due step o ≡ Some c → (o ≡ Some c) × (c.step ≡ step)
due_some step None c is = absurd cc
due_some step (Some d) c is = by (d.step == step) refl is
  where
    by : (b : Bool) → (d.step == step) ≡ b → cond b (Some d) None ≡ Some c → (Some d ≡ Some c) × (c.step ≡ step)
    by true e h = let same : d ≡ c = cc in (h, ap (λ (x : Choice). x.step) (sym same) ∙ eqb-true d.step step e)
    by false e h = absurd cc

pub due_none : (step : ℕ) (o : Option Choice) → due step o ≡ None → (c : Choice) → o ≡ Some c → c.step ≢ step
due_none step None is c h = absurd cc
due_none step (Some d) is c h = λ same.
    let one : d.step ≡ step = ap (λ (o : Option Choice). unstep o) h ∙ same in
    absurd (none-some d (sym is ∙ ap (λ (b : Bool). cond b (Some d) None) (eqb_same d.step step one)))
  where
    unstep : Option Choice → ℕ
    unstep None = 0
    unstep (Some x) = x.step

    eqb_same : (m n : ℕ) → m ≡ n → eqb m n ≡ true
    eqb_same m n e = elim (eqb_tells m n) [ inl t ↦ t.0 | inr f ↦ absurd (f.1 e) ]

pub next_is : (list : List Choice) (at : ℕ) (c : Choice) → slice_get list at ≡ Some c → (drop at list ≡ c ∷ drop (at + 1) list)
    × (take (at + 1) list ≡ take at list ++ c ∷ []) × (at < length list)
next_is [] at c is = absurd cc
next_is (x ∷ list) zero c is = let same : x ≡ c = cc in (ap (λ (y : Choice). y ∷ list) same, ap (λ (y : Choice). y ∷ []) same, omega arith)
next_is (x ∷ list) (suc at) c is =
    let h = next_is list at c is in
    let e : suc at + 1 ≡ suc (at + 1) = omega arith in
    (rw e (h.0), rw e (ap (λ (l : List Choice). x ∷ l) h.1), omega (arith, h.2))

pub none_left : (list : List Choice) (at : ℕ) → slice_get list at ≡ None → drop at list ≡ []
none_left [] zero is = refl
none_left [] (suc at) is = refl
none_left (x ∷ list) zero is = absurd cc
none_left (x ∷ list) (suc at) is = none_left list at is

below_append : (step : ℕ) (xs : List Choice) (c : Choice) → AreBelow step xs → c.step < step → AreBelow step (xs ++ c ∷ [])
below_append step [] c h lt = (lt, tt)
below_append step (x ∷ xs) c h lt = (h.0, below_append step xs c h.1 lt)

pub below_later : (step later : ℕ) (xs : List Choice) → step ≤ later → AreBelow step xs → AreBelow later xs
below_later step later [] le h = tt
below_later step later (x ∷ xs) le h = (omega (arith, h.0, le), below_later step later xs le h.1)

-- ---- choices of other steps change nothing

other_step : (s : Setting) (b : State) (at : ℕ) (c : Choice) (rest : List Choice) (set : Set) → c.step ≢ b.step
    → chosen s b at (c ∷ rest) set ≡ chosen s b (at + 1) rest set
unfolding chosen
other_step s b at c rest set other =
    ap (λ (e : Bool). cond e (after_made at (made s b c.kind c.page set) (λ new. chosen s b (at + 1) rest new))
    (chosen s b (at + 1) rest set)) (ne_eqb c.step b.step other)

pub this_step : (s : Setting) (b : State) (at : ℕ) (c : Choice) (rest : List Choice) (set : Set) → c.step ≡ b.step
    → chosen s b at (c ∷ rest) set ≡ after_made at (made s b c.kind c.page set) (λ new. chosen s b (at + 1) rest new)
unfolding chosen
this_step s b at c rest set same =
    ap (λ (e : Bool). cond e (after_made at (made s b c.kind c.page set) (λ new. chosen s b (at + 1) rest new))
    (chosen s b (at + 1) rest set)) (elim (eqb_tells c.step b.step) [ inl t ↦ t.0 | inr f ↦ absurd (f.1 same) ])

passed : (s : Setting) (b : State) (xs ys : List Choice) (at : ℕ) (set : Set) → AreBelow b.step xs
    → chosen s b at (xs ++ ys) set ≡ chosen s b (at + length xs) ys set
passed s b [] ys at set h = let e : at + 0 ≡ at = omega arith in ap (λ (k : ℕ). chosen s b k ys set) (sym e)
passed s b (x ∷ xs) ys at set h =
    let other : x.step ≢ b.step = omega (arith, h.0) in
    let e : at + 1 + length xs ≡ at + suc (length xs) = omega arith in
    other_step s b at x (xs ++ ys) set other ∙ passed s b xs ys (at + 1) set h.1 ∙ ap (λ (k : ℕ). chosen s b k ys set) e

pub none_due : (s : Setting) (b : State) (list : List Choice) (at : ℕ) (set : Set) → AreFrom (b.step + 1) list
    → chosen s b at list set ≡ Ok set
unfolding chosen
none_due s b [] at set h = refl
none_due s b (c ∷ list) at set h =
    let other : c.step ≢ b.step = omega (arith, h.0) in
    other_step s b at c list set other ∙ none_due s b list (at + 1) set (from_less c.step (b.step + 1) list h.0 h.3)
  where
    from_less : (step least : ℕ) (xs : List Choice) → least ≤ step → AreFrom step xs → AreFrom least xs
    from_less step least [] le h = tt
    from_less step least (x ∷ xs) le h = (omega (arith, h.0, le), h.1, h.2, h.3)

-- from the whole list to its rest
pub at_place : (s : Setting) (b : State) (list : List Choice) (at : ℕ) (set : Set) → at ≤ length list → AreBelow b.step (take at list)
    → chosen s b 0 list set ≡ chosen s b at (drop at list) set
at_place s b list at set le h =
    let whole : take at list ++ drop at list ≡ list = take-append-drop at list in
    let len : 0 + length (take at list) ≡ at = omega (arith, length-take-le at list le) in
    ap (λ (l : List Choice). chosen s b 0 l set) (sym whole) ∙ passed s b (take at list) (drop at list) 0 set h
    ∙ ap (λ (k : ℕ). chosen s b k (drop at list) set) len

-- where no choice is of this step
pub untouched : (s : Setting) (b : State) (list : List Choice) (at : ℕ) (set : Set) → at ≤ length list → AreBelow b.step (take at list)
    → AreFrom (b.step + 1) (drop at list) → chosen s b 0 list set ≡ Ok set
untouched s b list at set le below from = at_place s b list at set le below ∙ none_due s b (drop at list) at set from

-- the next choice isn't of this step, so none after it is
pub from_next : (step at : ℕ) (list : List Choice) → AreFrom step (drop at list) → due step (slice_get list at) ≡ None
    → AreFrom (step + 1) (drop at list)
from_next step at list h none = by (slice_get list at) refl none
  where
    by : (o : Option Choice) → slice_get list at ≡ o → due step o ≡ None → AreFrom (step + 1) (drop at list)
    by None is e = subst (AreFrom (step + 1)) (sym (none_left list at is)) tt
    by (Some c) is e =
        let next = (next_is list at c is).0 in
        let from : AreFrom step (c ∷ drop (at + 1) list) = subst (AreFrom step) next h in
        let other : c.step ≢ step = due_none step (Some c) e c refl in
        subst (AreFrom (step + 1)) (sym next) (omega (arith, from.0, other), from.1, from.2, from.3)

-- ---- the next choice is made

-- the set that a state holds makes no difference
made_same : (s : Setting) (b : State) (kind : ChoiceKind) (page : ℕ) (x set : Set)
    → made s (with_set b x) kind page set ≡ made s b kind page set
made_same s b Drop page x set = refl
made_same s b Empty page x set = refl
made_same s b Add page x set = refl

made_there : (image : Image) (script : Events) (f f2 : ℕ) (b now : State) (kind : ChoiceKind) (page : ℕ) (set : Set) (o : Option Set)
    → f2 ≡ f → now ≡ with_set b set
    → made (bare image script f2) now kind page set ≡ o → made (bare image script f) b kind page set ≡ o
made_there image script f f2 b now kind page set o frames same is =
    sym (made_same (bare image script f) b kind page set set)
    ∙ ap (λ (x : State). made (bare image script f) x kind page set) (sym same)
    ∙ ap (λ (k : ℕ). made (bare image script k) now kind page set) (sym frames)
    ∙ is

pub one_made : (image : Image) (script : Events) (f f2 : ℕ) (b now : State) (list : List Choice) (at : ℕ) (c : Choice) (old new : Set)
    → f2 ≡ f → now ≡ with_set b old → slice_get list at ≡ Some c → c.step ≡ b.step
    → made (bare image script f2) now c.kind c.page old ≡ Some new → chosen (bare image script f) b at (drop at list) old ≡ chosen
    (bare image script f) b (at + 1) (drop (at + 1) list) new
one_made image script f f2 b now list at c old new frames same there step is =
    let s = bare image script f in
    let next = (next_is list at c there).0 in
    let done = made_there image script f f2 b now c.kind c.page old (Some new) frames same is in
    ap (λ (l : List Choice). chosen s b at l old) next ∙ this_step s b at c (drop (at + 1) list) old step
    ∙ ap (λ (o : Option Set). after_made at o (λ x. chosen s b (at + 1) (drop (at + 1) list) x)) done

pub none_made : (image : Image) (script : Events) (f f2 : ℕ) (b now : State) (list : List Choice) (at : ℕ) (c : Choice) (old : Set) → f2 ≡ f
    → now ≡ with_set b old → slice_get list at ≡ Some c → c.step ≡ b.step
    → made (bare image script f2) now c.kind c.page old ≡ None → chosen (bare image script f) b at (drop at list) old ≡ Err at
none_made image script f f2 b now list at c old frames same there step is =
    let s = bare image script f in
    let next = (next_is list at c there).0 in
    let done = made_there image script f f2 b now c.kind c.page old None frames same is in
    ap (λ (l : List Choice). chosen s b at l old) next ∙ this_step s b at c (drop (at + 1) list) old step
    ∙ ap (λ (o : Option Set). after_made at o (λ x. chosen s b (at + 1) (drop (at + 1) list) x)) done

-- ---- what the choices so far have left

pub record SoFar (list : List Choice) (step at : ℕ) : Type 0 where
  pub within : at ≤ length list
  pub below : AreBelow (step + 1) (take at list)
  pub from : AreFrom step (drop at list)

pub at_first : (list : List Choice) (step at : ℕ) → Splits list at step → SoFar list step at
at_first list step at h =
    record { within = h.within; below = below_later step (step + 1) (take at list) (omega arith) h.before; from = h.from }

pub page_of_next : (list : List Choice) (step at : ℕ) (c : Choice) → SoFar list step at → slice_get list at ≡ Some c
    → IsPageOf c.kind c.page
page_of_next list step at c h is = (subst (AreFrom step) (next_is list at c is).0 h.from).2

pub one_on : (list : List Choice) (step at : ℕ) (c : Choice) → SoFar list step at → slice_get list at ≡ Some c → c.step ≡ step
    → SoFar list step (at + 1)
one_on list step at c h is same =
    let next = next_is list at c is in
    let rest : AreFrom c.step (drop (at + 1) list) = (subst (AreFrom step) next.0 h.from).3 in
    record {
      within = omega (arith, next.2);
      below = subst (AreBelow (step + 1)) (sym next.1) (below_append (step + 1) (take at list) c h.below (omega (arith, same)));
      from = subst (λ (k : ℕ). AreFrom k (drop (at + 1) list)) same rest;
    }

pub splits_next : (list : List Choice) (step at : ℕ) → SoFar list step at → due step (slice_get list at) ≡ None → Splits list at (step + 1)
splits_next list step at h none = record { within = h.within; before = h.below; from = from_next step at list h.from none }
