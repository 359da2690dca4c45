-- Lines of texts, read byte by byte.
use Rattle.std.proofs.Common.{◌≡◌, ◌≢◌, ℕ, suc, ◌+◌, ◌-◌, ◌<◌, ◌≤◌, Bool, true, false, cond, List, [], ◌∷◌, ◌++◌, length, get_or, drop, Option, Some, None, refl, sym, ap, subst, ◌∙◌, arith, add-one, append_assoc, drop-cons}
use Rattle.std.specs.Prelude.{◌==◌}
use Rattle.std.proofs.lemmas.List.{drop_all}
use Rattle.std.proofs.lemmas.List.Sums.{sum_by_push}
use Rattle.std.proofs.lemmas.Bool.Decides.{nat_tests}
use Rattle.std.specs.Prelude.{◌↔◌}
use Rattle.trace_check.specs.Lines.{lines, begun_by, differing}
use Rattle.trace_check.specs.Matches.{line_behind}
use Rattle.trace_check.proofs.Differing.{differ_behind, none_differs}
use Rattle.pv_build.specs.Lines.{same_line, differ_line}
use Rattle.pv_build.specs.Comparing.{comparison_line, compared_line}

-- ---- how many there are

-- how many lines begin in a text, where its own first byte begins one or not
abbrev pub begin_in : Bool → List ℕ → ℕ
begin_in true text = length (lines text)
begin_in false text = length (lines text) - 1

abbrev pub as_number : Bool → ℕ
as_number true = 1
as_number false = 0

length_begun : (b : ℕ) (rest : List (List ℕ)) → length (begun_by b rest) ≡ suc (length rest - 1)
length_begun b [] = refl
length_begun b (line ∷ later) = grind arith

next_byte : (text : List ℕ) (i : ℕ) → i < length text → drop i text ≡ get_or text i 0 ∷ drop (i + 1) text
next_byte text i lt = rw (add-one) (drop-cons text i 0 lt)

line_step : (begins is : Bool) (b : ℕ) (text : List ℕ) → (b == 10) ≡ is → as_number begins + begin_in is text ≡ begin_in begins (b ∷ text)
unfolding lines
line_step true true b text is = rw is (omega arith)
line_step false true b text is = rw is (omega arith)
line_step true false b text is = rw (is, length_begun b (lines text)) (omega arith)
line_step false false b text is = rw (is, length_begun b (lines text)) (omega arith)

-- one byte on
pub count_on : (count i : ℕ) (begins is : Bool) (text : List ℕ) (all : ℕ) → i < length text → (get_or text i 0 == 10) ≡ is
    → count + begin_in begins (drop i text) ≡ all → count + as_number begins + begin_in is (drop (i + 1) text) ≡ all
count_on count i begins is text all lt test so_far =
    let here : count + begin_in begins (get_or text i 0 ∷ drop (i + 1) text) ≡ all =
    subst (λ (t : List ℕ). count + begin_in begins t ≡ all) (next_byte text i lt) so_far in
    omega (arith, here, line_step begins is (get_or text i 0) (drop (i + 1) text) test)

pub count_done : (count i : ℕ) (begins : Bool) (text : List ℕ) (all : ℕ) → length text ≤ i → count
    + begin_in begins (drop i text) ≡ all → all ≡ count
unfolding lines
count_done count i true text all le so_far =
    omega (arith, subst (λ (t : List ℕ). count + begin_in true t ≡ all) (drop_all i text le) so_far)
count_done count i false text all le so_far =
    omega (arith, subst (λ (t : List ℕ). count + begin_in false t ≡ all) (drop_all i text le) so_far)

-- ---- where two differ

-- the line in which two texts differ, from the line that they begin in
abbrev pub difference_from : ℕ → List ℕ → List ℕ → Option ℕ
difference_from line [] [] = None
difference_from line [] (y ∷ ys) = Some line
difference_from line (x ∷ xs) [] = Some line
difference_from line (x ∷ xs) (y ∷ ys) = cond (y == x) (difference_from (cond (x == 10) (line + 1) line) xs ys) (Some line)

pub differ_on : (line i : ℕ) (xs ys : List ℕ) (all : Option ℕ) → i < length xs → i < length ys → (get_or ys i 0 == get_or xs i 0) ≡ true
    → difference_from line (drop i xs) (drop i ys) ≡ all → difference_from (cond (get_or xs i 0 == 10) (line + 1) line) (drop (i + 1) xs)
    (drop (i + 1) ys) ≡ all
differ_on line i xs ys all lt lt2 is so_far =
    let one = subst (λ (t : List ℕ). difference_from line t (drop i ys) ≡ all) (next_byte xs i lt) so_far in
    let two = subst (λ (t : List ℕ). difference_from line (get_or xs i 0 ∷ drop (i + 1) xs) t ≡ all) (next_byte ys i lt2) one in
    sym (ap (λ (b : Bool). cond b (difference_from (cond (get_or xs i 0 == 10) (line + 1) line) (drop (i + 1) xs) (drop (i + 1) ys))
    (Some line)) is) ∙ two

not_same : (x y : ℕ) → x ≢ y → (x == y) ≡ false
not_same x y other = grind (arith, nat_tests)

pub differ_here : (line i : ℕ) (xs ys : List ℕ) (all : Option ℕ) → i < length xs → i < length ys → get_or ys i 0 ≢ get_or xs i 0
    → difference_from line (drop i xs) (drop i ys) ≡ all → all ≡ Some line
differ_here line i xs ys all lt lt2 other so_far =
    let is = not_same (get_or ys i 0) (get_or xs i 0) other in
    let one = subst (λ (t : List ℕ). difference_from line t (drop i ys) ≡ all) (next_byte xs i lt) so_far in
    let two = subst (λ (t : List ℕ). difference_from line (get_or xs i 0 ∷ drop (i + 1) xs) t ≡ all) (next_byte ys i lt2) one in
    sym two ∙ ap (λ (b : Bool). cond b (difference_from (cond (get_or xs i 0 == 10) (line + 1) line) (drop (i + 1) xs) (drop (i + 1) ys))
    (Some line)) is

pub second_ends : (line i : ℕ) (xs ys : List ℕ) (all : Option ℕ) → i < length xs → length ys ≤ i
    → difference_from line (drop i xs) (drop i ys) ≡ all → all ≡ Some line
second_ends line i xs ys all lt le so_far =
    let one = subst (λ (t : List ℕ). difference_from line t (drop i ys) ≡ all) (next_byte xs i lt) so_far in
    sym (subst (λ (t : List ℕ). difference_from line (get_or xs i 0 ∷ drop (i + 1) xs) t ≡ all) (drop_all i ys le) one)

pub first_ends : (line i : ℕ) (xs ys : List ℕ) (all : Option ℕ) → length xs ≤ i → i < length ys
    → difference_from line (drop i xs) (drop i ys) ≡ all → all ≡ Some line
first_ends line i xs ys all le lt so_far =
    let one = subst (λ (t : List ℕ). difference_from line t (drop i ys) ≡ all) (drop_all i xs le) so_far in
    sym (subst (λ (t : List ℕ). difference_from line [] t ≡ all) (next_byte ys i lt) one)

pub both_end : (line i : ℕ) (xs ys : List ℕ) (all : Option ℕ) → length xs ≤ i → length ys ≤ i
    → difference_from line (drop i xs) (drop i ys) ≡ all → all ≡ None
both_end line i xs ys all le le2 so_far =
    let one = subst (λ (t : List ℕ). difference_from line t (drop i ys) ≡ all) (drop_all i xs le) so_far in
    sym (subst (λ (t : List ℕ). difference_from line [] t ≡ all) (drop_all i ys le2) one)

same_byte : (x y : ℕ) → (y == x) ≡ true → y ≡ x
same_byte x y is = grind (arith, nat_tests)

other_byte : (x y : ℕ) → (y == x) ≡ false → x ≡ y → ⊥
other_byte x y is same = grind (arith, nat_tests)

same_at : (same : Bool) (line next x y : ℕ) (xs ys : List ℕ) → (y == x) ≡ same → cond same (difference_from next xs ys) (Some line) ≡ None
    → ((n : ℕ) → difference_from n xs ys ≡ None → xs ≡ ys) → x ∷ xs ≡ y ∷ ys
same_at true line next x y xs ys test is later = cc (same_byte x y test, later next is)
same_at false line next x y xs ys test is later = cc

-- where nothing differs the texts are equal
pub same_of : (line : ℕ) (xs ys : List ℕ) → difference_from line xs ys ≡ None → xs ≡ ys
same_of line [] [] is = refl
same_of line [] (y ∷ ys) is = cc
same_of line (x ∷ xs) [] is = cc
same_of line (x ∷ xs) (y ∷ ys) is = same_at (y == x) line (cond (x == 10) (line + 1) line) x y xs ys refl is (λ n h. same_of n xs ys h)

-- the number of the line after a byte more
line_if : (ends : Bool) (line all more : ℕ) → line ≡ all + 1 → more ≡ all + cond ends 1 0 → cond ends (line + 1) line ≡ more + 1
line_if true line all more is more_is = omega (arith, is, more_is)
line_if false line all more is more_is = omega (arith, is, more_is)

line_on : (x line : ℕ) (front : List ℕ) → line ≡ line_behind front → cond (x == 10) (line + 1) line ≡ line_behind (front ++ x ∷ [])
line_on x line front is = line_if (x == 10) line _ _ is (sum_by_push (λ (b : ℕ). cond (b == 10) 1 0) front x)

-- after a common front, it is the line in which both texts differ
by_byte : (same : Bool) (front : List ℕ) (line x y : ℕ) (xs ys : List ℕ) → (y == x) ≡ same → line ≡ line_behind front
    → difference_from (cond (x == 10) (line + 1) line) xs ys ≡ differing 1 (lines ((front ++ x ∷ []) ++ xs))
    (lines ((front ++ x ∷ []) ++ ys))
    → cond same (difference_from (cond (x == 10) (line + 1) line) xs ys) (Some line) ≡ differing 1 (lines (front ++ x ∷ xs))
    (lines (front ++ y ∷ ys))
by_byte true front line x y xs ys test is later =
    let left =
    subst (λ (t : List ℕ). difference_from (cond (x == 10) (line + 1) line) xs ys ≡ differing 1 (lines t) (lines ((front ++ x ∷ []) ++ ys)))
    (append_assoc front (x ∷ []) xs) later in
    let both =
    subst (λ (t : List ℕ). difference_from (cond (x == 10) (line + 1) line) xs ys ≡ differing 1 (lines (front ++ x ∷ xs)) (lines t))
    (append_assoc front (x ∷ []) ys) left in
    subst (λ (b : ℕ). difference_from (cond (x == 10) (line + 1) line) xs ys ≡ differing 1 (lines (front ++ x ∷ xs))
    (lines (front ++ b ∷ ys)))
    (sym (same_byte x y test)) both
by_byte false front line x y xs ys test is later =
    ap (λ (k : ℕ). Some k) is ∙ sym (differ_behind 1 front (x ∷ xs) (y ∷ ys) (other_byte x y test))

differing_behind : (front xs ys : List ℕ) (line : ℕ) → line ≡ line_behind front
    → difference_from line xs ys ≡ differing 1 (lines (front ++ xs)) (lines (front ++ ys))
differing_behind front [] [] line is = sym (none_differs 1 (lines (front ++ [])))
differing_behind front [] (y ∷ ys) line is = ap (λ (k : ℕ). Some k) is ∙ sym (differ_behind 1 front [] (y ∷ ys) tt)
differing_behind front (x ∷ xs) [] line is = ap (λ (k : ℕ). Some k) is ∙ sym (differ_behind 1 front (x ∷ xs) [] tt)
differing_behind front (x ∷ xs) (y ∷ ys) line is =
    by_byte (y == x) front line x y xs ys refl is
    (differing_behind (front ++ x ∷ []) xs ys (cond (x == 10) (line + 1) line) (line_on x line front is))

pub differing_from : (xs ys : List ℕ) → difference_from 1 xs ys ≡ differing 1 (lines xs) (lines ys)
differing_from xs ys = differing_behind [] xs ys 1 refl

differ_is_not_same : (n : ℕ) → differ_line n ≡ same_line → ⊥
differ_is_not_same n is = cc

none_from : (first second : List ℕ) (r : Option ℕ) → difference_from 1 first second ≡ r → comparison_line r ≡ same_line → first ≡ second
none_from first second None none is = same_of 1 first second none
none_from first second (Some line) none is = absurd (differ_is_not_same line is)

-- texts are reported to be the same exactly where they are
pub same_exactly : (first second : List ℕ) → (compared_line first second ≡ same_line) ↔ (first ≡ second)
same_exactly first second = (
  λ line. none_from first second (differing 1 (lines first) (lines second)) (differing_from first second) line,
  λ same. subst (λ (t : List ℕ). compared_line first t ≡ same_line) same (ap comparison_line (none_differs 1 (lines first))),
)
