-- The names of items are among those of the source.
use Rattle.std.proofs.Common.{◌≡◌, ◌<◌, ◌+◌, ℕ, zero, suc, Bool, true, false, List, [], ◌∷◌, ◌++◌, length, get_or, Option, Some, None, ap, ◌∙◌, cond, arith, fold, subst}
use Rattle.std.specs.Prelude.{◌||◌, slice_get, not}
use Rattle.std.specs.Option.{option_to_list}
use Rattle.std.specs.List.{flat_map, list_any, position_or_len}
use Rattle.std.specs.Str.{bytes_eq}
use Rattle.asm_source.specs.declared.tree.Argument.{Argument}
use Rattle.asm_source.specs.declared.tree.SourceItem.{SourceItem}
use Rattle.asm_source.specs.Names.{symbol_in, holds, added, name_number, argument_names, body_names, names_in}
use Rattle.asm_source.proofs.Held.{holds_more, added_holds}
use Rattle.afterburner.specs.Sound.{AreHeld}

pub found_within : {X : Type 0} (p : X → Bool) (xs : List X) → list_any p xs ≡ true → position_or_len p xs < length xs
found_within p [] e = cc
found_within p (x ∷ xs) e =
    let at : (b : Bool) → (b || list_any p xs) ≡ true → cond (not b) (1 + position_or_len p xs) 0 < length (x ∷ xs) =
    λ b. elim b as (λ v. (v || list_any p xs) ≡ true → cond (not v) (1 + position_or_len p xs) 0 < length (x ∷ xs))
    [ true ↦ λ _. omega arith | false ↦ λ h. let rest = found_within p xs h in omega arith ] in
    at (p x) e

pub held_number : (names : List (List ℕ)) (n : List ℕ) → holds names n ≡ true → name_number names n < length names
held_number names n e = found_within (λ m. bytes_eq n m) names e

pub held_fold : (names ns : List (List ℕ)) (n : List ℕ) → holds names n ≡ true → holds (fold added names ns) n ≡ true
held_fold names [] n e = e
held_fold names (m ∷ ns) n e = held_fold (added names m) ns n (holds_more names m n e)

pub all_held : (names ns : List (List ℕ)) → AreHeld (fold added names ns) ns
all_held names [] = tt
all_held names (n ∷ ns) = (held_fold (added names n) ns n (added_holds names n), all_held (added names n) ns)

pub held_left : (names ns ms : List (List ℕ)) → AreHeld names (ns ++ ms) → AreHeld names ns
held_left names [] ms h = tt
held_left names (n ∷ ns) ms h = (h.0, held_left names ns ms h.1)

pub held_right : (names ns ms : List (List ℕ)) → AreHeld names (ns ++ ms) → AreHeld names ms
held_right names [] ms h = h
held_right names (n ∷ ns) ms h = held_right names ns ms h.1

pub held_piece : {X : Type 0} (names : List (List ℕ)) (f : X → List (List ℕ)) (xs : List X) (k : ℕ) (d : X) → k < length xs
    → AreHeld names (flat_map f xs) → AreHeld names (f (get_or xs k d))
held_piece names f [] k d lt h = absurd (omega arith)
held_piece names f (x ∷ xs) zero d lt h = held_left names (f x) (flat_map f xs) h
held_piece names f (x ∷ xs) (suc k) d lt h = held_piece names f xs k d (omega arith) (held_right names (f x) (flat_map f xs) h)

-- the names of an item of the source
pub item_held : (items : List SourceItem) (k : ℕ) (d : SourceItem) → k < length items
    → AreHeld (names_in items) (body_names (get_or items k d).body)
unfolding names_in
item_held items k d lt =
    let all : List (List ℕ) = flat_map (λ (i : SourceItem). body_names i.body) items in
    held_piece (fold added [] all) (λ (i : SourceItem). body_names i.body) items k d lt (all_held [] all)

pub named_held : (names : List (List ℕ)) (o : Option (List ℕ)) (n : List ℕ) → o ≡ Some n → AreHeld names (option_to_list o)
    → holds names n ≡ true
named_held names None n e h = cc
named_held names (Some m) n e h =
    let same : m ≡ n = cc in
    subst (λ (x : List ℕ). holds names x ≡ true) same h.0

-- the name of an argument
pub argument_held : (names : List (List ℕ)) (args : List Argument) (k : ℕ) (a : Argument) (n : List ℕ) → slice_get args k ≡ Some a
    → symbol_in a.form ≡ Some n → AreHeld names (argument_names args) → holds names n ≡ true
argument_held names [] k a n e f h = cc
argument_held names (x ∷ args) zero a n e f h =
    let same : x ≡ a = cc in
    named_held names (symbol_in x.form) n (ap (λ (y : Argument). symbol_in y.form) same ∙ f)
    (held_left names (option_to_list (symbol_in x.form)) (argument_names args) h)
argument_held names (x ∷ args) (suc k) a n e f h =
    argument_held names args k a n e f (held_right names (option_to_list (symbol_in x.form)) (argument_names args) h)
