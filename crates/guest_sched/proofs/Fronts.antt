-- Memories whose fronts change places.
use Rattle.std.proofs.Common.{◌≡◌, ℕ, ◌+◌, ◌-◌, ◌≤◌, List, [], ◌++◌, length, take, drop, ap, sym, ◌∙◌, zero-add, arith, take_all, length-drop}
use Rattle.std.proofs.lemmas.List.{length-take-le, take_at, take-append-drop, drop_all, append-nil}
use Rattle.std.proofs.Math.Seq.{drop-append_seam}
use Rattle.guest_ram.specs.Bytes.{part, with_part}

pub front_put : (n : ℕ) (m x : List ℕ) → n ≤ length x → with_part m 0 (part x 0 n) ≡ take n x ++ drop n m
unfolding with_part part
front_put n m x room = ap (λ (k : ℕ). take n x ++ drop k m) (zero-add (length (take n x)) ∙ length-take-le n x room)

pub behind_front : (n : ℕ) (x y : List ℕ) → n ≤ length x → drop n (take n x ++ y) ≡ y
behind_front n x y room = ap (λ (k : ℕ). drop k (take n x ++ y)) (sym (length-take-le n x room)) ∙ drop-append_seam (take n x) y

pub front_front : (n : ℕ) (x y : List ℕ) → n ≤ length x → take n (take n x ++ y) ≡ take n x
front_front n x y room = take_at (take n x) y n (length-take-le n x room)

-- memories of one length that change places, but for what stands after their fronts
pub back_put : (n : ℕ) (host ram : List ℕ) → length ram ≡ length host → n ≤ length host → with_part ram n (part host n (length host - n))
    ≡ with_part host 0 (part ram 0 n)
unfolding with_part part
back_put n host ram same room =
    let all : take (length host - n) (drop n host) ≡ drop n host =
    take_all (length host - n) (drop n host) (omega (arith, length-drop n host)) in
    let none : drop (n + length (drop n host)) ram ≡ [] =
    drop_all (n + length (drop n host)) ram (omega (arith, same, room, length-drop n host)) in
    ap (λ (z : List ℕ). take n ram ++ (z ++ drop (n + length z) ram)) all
    ∙ ap (λ (z : List ℕ). take n ram ++ (drop n host ++ z)) none
    ∙ ap (λ (z : List ℕ). take n ram ++ z) (append-nil (drop n host))
    ∙ sym (front_put n host ram (omega (arith, same, room)))

-- one memory leaves the host's, and another comes
module _ (n : ℕ) (host mid last old next left : List ℕ) (old_room : n ≤ length old) (next_room : n ≤ length next)
    (mid_is : mid ≡ with_part host 0 (part old 0 n)) (left_is : take n left ≡ take n host)
    (last_is : last ≡ with_part mid 0 (part next 0 n))
  where
    mid_behind : drop n mid ≡ drop n host
    mid_behind = ap (drop n) (mid_is ∙ front_put n host old old_room) ∙ behind_front n old (drop n host) old_room

    pub comes : last ≡ take n next ++ drop n host
    comes = last_is ∙ front_put n mid next next_room ∙ ap (λ (z : List ℕ). take n next ++ z) mid_behind

    pub behind_stays : drop n last ≡ drop n host
    behind_stays = ap (drop n) comes ∙ behind_front n next (drop n host) next_room

    pub leaves : take n left ++ drop n last ≡ host
    leaves =
        ap (λ (z : List ℕ). z ++ drop n last) left_is
        ∙ ap (λ (z : List ℕ). take n host ++ z) behind_stays
        ∙ take-append-drop n host
