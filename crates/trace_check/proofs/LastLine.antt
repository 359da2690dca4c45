-- Where the last line of a text begins.
use Rattle.std.proofs.Common.{◌≡◌, ℕ, suc, ◌+◌, ◌*◌, ◌-◌, ◌<◌, ◌≤◌, Bool, true, false, cond, List, [], ◌∷◌, length, take, drop, get_or, Option, Some, None, refl, sym, ap, subst, ◌∙◌, arith}
use Rattle.std.specs.Prelude.{◌==◌, ◌&&◌, nat_lt, nat_le, find}
use Rattle.std.specs.Str.{bytes_eq}
use Rattle.ia32_types.specs.declared.stop.Stop.{Stop}
use Rattle.run_trace.specs.declared.items.End.TheVariants.{Stopped}
use Rattle.run_trace.specs.Text.{end_line}
use Rattle.std.specs.List.{take_while, prefix_len}
use Rattle.std.specs.Char.{is_ascii_digit}
use Rattle.std.proofs.lemmas.List.{drop_all, length-drop, drop_more}
use Rattle.std.proofs.lemmas.Bool.{lt-ltb, le-ltb, lt-leb, le-leb}
use Rattle.std.proofs.lemmas.List.Sums.{sum_by-cons}
use Rattle.text_lines.specs.Numbers.{decimal_after}
use Rattle.trace_check.specs.Lines.{lines, begun_by, last_of, before_last, steps_told, stop_told, monitor_stops}
use Rattle.trace_check.specs.Matches.{line_behind}
use Rattle.trace_check.specs.Tells.{IsLastLine}

-- ---- the number that digits say

take_on : (b : ℕ) (rest : List ℕ) → is_ascii_digit b ≡ true → take_while is_ascii_digit (b ∷ rest) ≡ b ∷ take_while is_ascii_digit rest
take_on b rest is =
    let p : ℕ = prefix_len is_ascii_digit rest in
    let one : 1 + p ≡ suc p = omega arith in
    ap (λ (x : Bool). take (cond x (1 + p) 0) (b ∷ rest)) is ∙ ap (λ (k : ℕ). take k (b ∷ rest)) one

pub number_on : (n b : ℕ) (rest : List ℕ) → is_ascii_digit b ≡ true → decimal_after n (take_while is_ascii_digit (b ∷ rest)) ≡ decimal_after
    (10 * n + (b - 48)) (take_while is_ascii_digit rest)
number_on n b rest is = ap (decimal_after n) (take_on b rest is)

pub number_ends : (n b : ℕ) (rest : List ℕ) → is_ascii_digit b ≡ false → decimal_after n (take_while is_ascii_digit (b ∷ rest)) ≡ n
number_ends n b rest is = rw is refl

grows : (n : ℕ) (word : List ℕ) → n ≤ decimal_after n word
grows n [] = omega arith
grows n (b ∷ word) = omega (arith, grows (10 * n + (b - 48)) word)

-- what is still to be read
abbrev pub left_of : ℕ → ℕ → List ℕ → ℕ
left_of n i text = decimal_after n (take_while is_ascii_digit (drop i text))

pub left_on : (n i : ℕ) (text : List ℕ) → i < length text → is_ascii_digit (get_or text i 0) ≡ true
    → left_of n i text ≡ left_of (10 * n + (get_or text i 0 - 48)) (i + 1) text
left_on n i text lt is = ap (λ (l : List ℕ). decimal_after n (take_while is_ascii_digit l)) (drop_more text i 0 lt)
    ∙ number_on n (get_or text i 0) (drop (i + 1) text) is

pub left_ends : (n i : ℕ) (text : List ℕ) → i < length text → is_ascii_digit (get_or text i 0) ≡ false → left_of n i text ≡ n
left_ends n i text lt is = ap (λ (l : List ℕ). decimal_after n (take_while is_ascii_digit l)) (drop_more text i 0 lt)
    ∙ number_ends n (get_or text i 0) (drop (i + 1) text) is

pub left_none : (n i : ℕ) (text : List ℕ) → length text ≤ i → left_of n i text ≡ n
left_none n i text le = ap (λ (l : List ℕ). decimal_after n (take_while is_ascii_digit l)) (drop_all i text le)

pub left_grows : (n i : ℕ) (text : List ℕ) → n ≤ left_of n i text
left_grows n i text = grows n (take_while is_ascii_digit (drop i text))

-- ---- the last line

-- the last place after a newline that something follows
abbrev pub first_or : Option ℕ → ℕ → List ℕ → Option ℕ
first_or (Some p) b rest = Some (p + 1)
first_or None b [] = None
first_or None b (r ∷ rest) = cond (b == 10) (Some 1) None

abbrev pub cut : List ℕ → Option ℕ
cut [] = None
cut (b ∷ rest) = first_or (cut rest) b rest

abbrev pub place_of : Option ℕ → ℕ → ℕ → ℕ
place_of None at start = start
place_of (Some p) at start = at + p

-- what a loop over the bytes makes of the place
abbrev pub here_of : Bool → Bool → ℕ → ℕ → ℕ
here_of ends more at start = cond (ends && more) (at + 1) start

abbrev has_more : List ℕ → Bool
has_more [] = false
has_more (r ∷ rest) = true

place_on : (o : Option ℕ) (at start b : ℕ) (rest : List ℕ) → place_of (first_or o b rest) at start ≡ place_of o (at + 1)
    (here_of (b == 10) (has_more rest) at start)
place_on (Some p) at start b rest = omega arith
place_on None at start b [] = by (b == 10)
  where
    by : (e : Bool) → start ≡ here_of e false at start
    by true = refl
    by false = refl
place_on None at start b (r ∷ rest) = by (b == 10)
  where
    by : (e : Bool) → place_of (cond e (Some 1) None) at start ≡ here_of e true at start
    by true = refl
    by false = refl

-- where a loop that stands at i, with this place so far, ends
abbrev pub ends_at : ℕ → ℕ → List ℕ → ℕ
ends_at i start text = place_of (cut (drop i text)) i start

more_there : (i : ℕ) (text : List ℕ) → has_more (drop (i + 1) text) ≡ nat_lt (i + 1) (length text)
more_there i text = by (drop (i + 1) text) refl
  where
    by : (rest : List ℕ) → drop (i + 1) text ≡ rest → has_more rest ≡ nat_lt (i + 1) (length text)
    by [] is = let len : length (drop (i + 1) text) ≡ 0 =
        ap length is in sym (le-ltb (i + 1) (length text) (omega (arith, len, length-drop (i + 1) text)))
    by (r ∷ rest) is = let len : length (drop (i + 1) text) ≡ suc (length rest) =
        ap length is in sym (lt-ltb (i + 1) (length text) (omega (arith, len, length-drop (i + 1) text)))

pub ends_on : (i start : ℕ) (text : List ℕ) → i < length text
    → ends_at i start text ≡ ends_at (i + 1) (here_of (get_or text i 0 == 10) (nat_lt (i + 1) (length text)) i start) text
ends_on i start text lt =
    ap (λ (l : List ℕ). place_of (cut l) i start) (drop_more text i 0 lt)
    ∙ place_on (cut (drop (i + 1) text)) i start (get_or text i 0) (drop (i + 1) text)
    ∙ ap (λ (m : Bool). place_of (cut (drop (i + 1) text)) (i + 1) (here_of (get_or text i 0 == 10) m i start)) (more_there i text)

pub ends_none : (i start : ℕ) (text : List ℕ) → length text ≤ i → ends_at i start text ≡ start
ends_none i start text le = ap (λ (l : List ℕ). place_of (cut l) i start) (drop_all i text le)

-- ---- what a function's call says

-- no number is reported, one that is too large, or the stop by it
pub none_by : (n : ℕ) (line : List ℕ) → n < steps_told line → stop_told n line ≡ None
unfolding stop_told
none_by n line lt = ap (λ (b : Bool). cond b (find (λ stop. bytes_eq line (end_line (steps_told line) (Stopped stop))) monitor_stops) None)
    (lt-leb (steps_told line) n lt)

pub stop_by : (n : ℕ) (line : List ℕ) → steps_told line ≤ n
    → stop_told n line ≡ find (λ stop. bytes_eq line (end_line (steps_told line) (Stopped stop))) monitor_stops
unfolding stop_told
stop_by n line le = ap (λ (b : Bool). cond b (find (λ stop. bytes_eq line (end_line (steps_told line) (Stopped stop))) monitor_stops) None)
    (le-leb (steps_told line) n le)

abbrev no_stop : Option Stop
no_stop = None

nothing : (b : Bool) → cond b no_stop no_stop ≡ no_stop
nothing true = refl
nothing false = refl

pub none_empty : (n : ℕ) → stop_told n (last_of (lines [])) ≡ None
unfolding stop_told lines end_line
none_empty n = nothing (nat_le 0 n)

pub some_of : (text : List ℕ) → (length text == 0) ≡ false → 0 < length text
some_of [] e = absurd cc
some_of (b ∷ text) e = omega arith

abbrev as_count : Bool → ℕ
as_count b = cond b 1 0

-- ---- the place is where the last line begins

pub lines_end : (b : ℕ) (text : List ℕ) → (b == 10) ≡ true → lines (b ∷ text) ≡ (b ∷ []) ∷ lines text
unfolding lines
lines_end b text e = ap (λ (x : Bool). cond x ((b ∷ []) ∷ lines text) (begun_by b (lines text))) e

pub lines_mid : (b : ℕ) (text : List ℕ) → (b == 10) ≡ false → lines (b ∷ text) ≡ begun_by b (lines text)
unfolding lines
lines_mid b text e = ap (λ (x : Bool). cond x ((b ∷ []) ∷ lines text) (begun_by b (lines text))) e

lines_none : lines [] ≡ []
unfolding lines
lines_none = refl

lines_one : (b : ℕ) → lines (b ∷ []) ≡ (b ∷ []) ∷ []
unfolding lines
lines_one b = by (b == 10)
  where
    by : (e : Bool) → cond e ((b ∷ []) ∷ []) ((b ∷ []) ∷ []) ≡ (b ∷ []) ∷ []
    by true = refl
    by false = refl

count_end : (b : ℕ) (front : List ℕ) → (b == 10) ≡ true → line_behind (b ∷ front) ≡ line_behind front + 1
count_end b front e =
    let one : as_count (b == 10) ≡ 1 = ap as_count e in
    omega (arith, one, sum_by-cons (λ (x : ℕ). as_count (x == 10)) b front)

count_mid : (b : ℕ) (front : List ℕ) → (b == 10) ≡ false → line_behind (b ∷ front) ≡ line_behind front
count_mid b front e =
    let none : as_count (b == 10) ≡ 0 = ap as_count e in
    omega (arith, none, sum_by-cons (λ (x : ℕ). as_count (x == 10)) b front)

-- the last line of a text that isn't empty, whose lines are these, begins at this place
record Last (text : List ℕ) (xs : List (List ℕ)) (at : ℕ) : Type 0 where
  within : at ≤ length text
  last : drop at text ≡ last_of xs
  front : lines (take at text) ≡ before_last xs
  count : length xs ≡ line_behind (take at text)

-- a line ends before such a text
on_end : (b at : ℕ) (text l : List ℕ) (ls : List (List ℕ)) → (b == 10) ≡ true → Last text (l ∷ ls) at
    → Last (b ∷ text) ((b ∷ []) ∷ l ∷ ls) (suc at)
on_end b at text l ls e h = record {
  within = omega (arith, h.within);
  last = h.last;
  front = lines_end b (take at text) e ∙ ap (λ (x : List (List ℕ)). (b ∷ []) ∷ x) h.front;
  count = ap suc h.count ∙ sym (count_end b (take at text) e ∙ plus_one (line_behind (take at text)));
}
  where
    plus_one : (n : ℕ) → n + 1 ≡ suc n
    plus_one n = omega arith

-- a byte stands before the first of several lines
on_mid : (b at : ℕ) (text l m : List ℕ) (ls : List (List ℕ)) → (b == 10) ≡ false → Last text (l ∷ m ∷ ls) at
    → Last (b ∷ text) ((b ∷ l) ∷ m ∷ ls) (suc at)
on_mid b at text l m ls e h = record {
  within = omega (arith, h.within);
  last = h.last;
  front = lines_mid b (take at text) e ∙ ap (begun_by b) h.front;
  count = h.count ∙ sym (count_mid b (take at text) e);
}

-- a byte stands before the only line
on_only : (b at : ℕ) (text l : List ℕ) → text ≡ l → Last (b ∷ text) ((b ∷ l) ∷ []) 0
on_only b at text l is = record {
  within = omega arith;
  last = ap (λ (x : List ℕ). b ∷ x) is;
  front = lines_none;
  count = refl;
}

-- the last of several lines doesn't begin at the front, and the only one does
abbrev Fits : Option ℕ → List (List ℕ) → Type 0
Fits o [] = ⊥
Fits o (l ∷ []) = o ≡ None
Fits o (l ∷ m ∷ ls) = (p : ℕ) × (o ≡ Some p)

record IsCut (text : List ℕ) (o : Option ℕ) : Type 0 where
  fits : Fits o (lines text)
  last : Last text (lines text) (place_of o 0 0)

same_cut : (text : List ℕ) (xs : List (List ℕ)) (o : Option ℕ) → lines text ≡ xs → Fits o xs → Last text xs (place_of o 0 0) → IsCut text o
same_cut text xs o is fits last =
    record { fits = subst (Fits o) (sym is) fits; last = subst (λ (x : List (List ℕ)). Last text x (place_of o 0 0)) (sym is) last }

to_place : (text : List ℕ) (xs : List (List ℕ)) (o : Option ℕ) (at : ℕ) → place_of o 0 0 ≡ at → Last text xs at
    → Last text xs (place_of o 0 0)
to_place text xs o at is h = subst (Last text xs) (sym is) h

cut_one : (b : ℕ) → IsCut (b ∷ []) (cut (b ∷ []))
cut_one b = same_cut (b ∷ []) ((b ∷ []) ∷ []) None (lines_one b) refl (on_only b 0 [] [] refl)

cut_more : (e : Bool) (b r : ℕ) (rest : List ℕ) (xs : List (List ℕ)) (o : Option ℕ) → (b == 10) ≡ e → lines (r ∷ rest) ≡ xs → Fits o xs
    → Last (r ∷ rest) xs (place_of o 0 0) → IsCut (b ∷ r ∷ rest) (first_or o b (r ∷ rest))
cut_more e b r rest [] o is all fits h = absurd fits
cut_more true b r rest (l ∷ []) None is all fits h =
    let to : first_or None b (r ∷ rest) ≡ Some 1 = ap (λ (x : Bool). cond x (Some 1) None) is in
    subst (IsCut (b ∷ r ∷ rest)) (sym to)
    (same_cut (b ∷ r ∷ rest) ((b ∷ []) ∷ l ∷ []) (Some 1) (lines_end b (r ∷ rest) is ∙ ap (λ (x : List (List ℕ)). (b ∷ []) ∷ x) all)
    (1, refl) (on_end b 0 (r ∷ rest) l [] is h))
cut_more false b r rest (l ∷ []) None is all fits h =
    let to : first_or None b (r ∷ rest) ≡ None = ap (λ (x : Bool). cond x (Some 1) None) is in
    subst (IsCut (b ∷ r ∷ rest)) (sym to) (same_cut (b ∷ r ∷ rest) ((b ∷ l) ∷ []) None (lines_mid b (r ∷ rest) is ∙ ap (begun_by b) all)
    refl (on_only b 0 (r ∷ rest) l h.last))
cut_more e b r rest (l ∷ []) (Some p) is all fits h = absurd (some_none p fits)
  where
    some_none : (k : ℕ) → Some k ≡ None → ⊥
    some_none k f = cc
cut_more e b r rest (l ∷ m ∷ ls) None is all fits h = absurd (none_some_at fits.0 fits.1)
  where
    none_some_at : (k : ℕ) → None ≡ Some k → ⊥
    none_some_at k f = cc
cut_more true b r rest (l ∷ m ∷ ls) (Some p) is all fits h =
    same_cut (b ∷ r ∷ rest) ((b ∷ []) ∷ l ∷ m ∷ ls) (Some (p + 1))
    (lines_end b (r ∷ rest) is ∙ ap (λ (x : List (List ℕ)). (b ∷ []) ∷ x) all) (p + 1, refl)
    (to_place (b ∷ r ∷ rest) ((b ∷ []) ∷ l ∷ m ∷ ls) (Some (p + 1)) (suc (0 + p)) (omega arith)
    (on_end b (0 + p) (r ∷ rest) l (m ∷ ls) is h))
cut_more false b r rest (l ∷ m ∷ ls) (Some p) is all fits h =
    same_cut (b ∷ r ∷ rest) ((b ∷ l) ∷ m ∷ ls) (Some (p + 1)) (lines_mid b (r ∷ rest) is ∙ ap (begun_by b) all) (p + 1, refl)
    (to_place (b ∷ r ∷ rest) ((b ∷ l) ∷ m ∷ ls) (Some (p + 1)) (suc (0 + p)) (omega arith) (on_mid b (0 + p) (r ∷ rest) l m ls is h))

cuts : (b : ℕ) (text : List ℕ) → IsCut (b ∷ text) (cut (b ∷ text))
cuts b [] = cut_one b
cuts b (r ∷ rest) = let h = cuts r rest in cut_more (b == 10) b r rest (lines (r ∷ rest)) (cut (r ∷ rest)) refl refl h.fits h.last

pub last_at : (text : List ℕ) (at : ℕ) → 0 < length text → at ≡ ends_at 0 0 text → IsLastLine text at
last_at [] at lt is = absurd (omega arith)
last_at (b ∷ text) at lt is =
    let h = (cuts b text).last in
    subst (IsLastLine (b ∷ text)) (sym is) (record { within = h.within; last = h.last; front = h.front; count = h.count })
