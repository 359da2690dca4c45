-- Where a text doesn't stand in a memory.
use Rattle.std.proofs.Common.{◌≡◌, ◌≢◌, ℕ, ◌+◌, ◌<◌, ◌≤◌, true, false, List, [], ◌∷◌, ◌++◌, length, get_or, take, drop, Some, None, refl, ap, sym, ◌∙◌, arith}
use Rattle.std.specs.Prelude.{◌==◌, nat_lt}
use Rattle.std.proofs.lemmas.Bool.{lt-ltb, le-ltb, eq-eqb, ne_eqb}
use Rattle.std.proofs.lemmas.List.{drop_more, drop_all, take_more, get_or-drop, length-drop}
use Rattle.guest_ram.specs.Bytes.{part, byte}
use Rattle.checkpoint.specs.Fits.{has_at, first_change}

split : (ram text : List ℕ) (i : ℕ) → i < length text → first_change ram i (drop i text) ≡ first_change ram i
    (get_or text i 0 ∷ drop (i + 1) text)
split ram text i h = ap (first_change ram i) (drop_more text i 0 h)

change_here : (ram text : List ℕ) (i : ℕ) → i < length text → has_at ram i (get_or text i 0) ≡ false
    → first_change ram i (drop i text) ≡ Some i
unfolding first_change
change_here ram text i h isnt =
    let stops : first_change ram i (get_or text i 0 ∷ drop (i + 1) text) ≡ Some i = rw isnt refl in split ram text i h ∙ stops

pub change_past : (ram text : List ℕ) (i : ℕ) → i < length text → length ram ≤ 0x100000 + i → first_change ram i (drop i text) ≡ Some i
change_past ram text i h past =
    let outside : nat_lt (0x100000 + i) (length ram) ≡ false = le-ltb _ _ past in change_here ram text i h (rw outside refl)

pub change_at : (ram text : List ℕ) (i read : ℕ) → i < length text → 0x100000 + i < length ram → read ≡ byte ram (0x100000 + i)
    → read ≢ get_or text i 0 →
    first_change ram i (drop i text) ≡ Some i
change_at ram text i read h near is differs =
    let inside : nat_lt (0x100000 + i) (length ram) ≡ true = lt-ltb _ _ near in
    let other : (byte ram (0x100000 + i) == get_or text i 0) ≡ false = ne_eqb _ _ (λ e. differs (is ∙ e)) in
    change_here ram text i h (rw (inside, other) refl)

pub no_change : (ram text : List ℕ) (i read : ℕ) → i < length text → 0x100000 + i < length ram → read ≡ byte ram (0x100000 + i)
    → read ≡ get_or text i 0 →
    first_change ram i (drop i text) ≡ first_change ram (i + 1) (drop (i + 1) text)
unfolding first_change
no_change ram text i read h near is same =
    let inside : nat_lt (0x100000 + i) (length ram) ≡ true = lt-ltb _ _ near in
    let equal : (byte ram (0x100000 + i) == get_or text i 0) ≡ true = eq-eqb _ _ (sym is ∙ same) in
    let goes : first_change ram i (get_or text i 0 ∷ drop (i + 1) text) ≡ first_change ram (i + 1) (drop (i + 1) text) =
    rw (inside, equal) refl in
    split ram text i h ∙ goes

pub change_end : (ram text : List ℕ) (i : ℕ) → length text ≤ i → first_change ram i (drop i text) ≡ None
unfolding first_change
change_end ram text i h = ap (first_change ram i) (drop_all i text h)

pub part_more : (ram text : List ℕ) (i read : ℕ) → i < length text → 0x100000 + i < length ram → read ≡ byte ram (0x100000 + i)
    → read ≡ get_or text i 0 →
    part ram 0x100000 i ≡ take i text → part ram 0x100000 (i + 1) ≡ take (i + 1) text
unfolding part byte
part_more ram text i read h near is same so_far =
    let room : i < length (drop 0x100000 ram) = omega (arith, length-drop 0x100000 ram) in
    let last : get_or (drop 0x100000 ram) i 0 ≡ get_or text i 0 = get_or-drop 0x100000 ram i 0 ∙ sym is ∙ same in
    take_more (drop 0x100000 ram) i 0 room
    ∙ ap (λ (xs : List ℕ). xs ++ get_or (drop 0x100000 ram) i 0 ∷ []) so_far
    ∙ ap (λ (b : ℕ). take i text ++ b ∷ []) last
    ∙ sym (take_more text i 0 h)
