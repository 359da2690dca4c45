-- Where two texts differ, line by line.
use Rattle.std.proofs.Common.{◌≡◌, ◌≢◌, ℕ, zero, suc, ◌+◌, ◌<◌, ◌≤◌, Bool, true, false, cond, eqb, List, [], ◌∷◌, ◌++◌, length, take, drop, Option, Some, None, refl, sym, ap, subst, ◌∙◌, arith, append_assoc, inl, inr}
use Rattle.std.specs.Prelude.{◌==◌, ◌&&◌, count_by, slice_get}
use Rattle.std.specs.Str.{bytes_eq}
use Rattle.std.proofs.lemmas.Bool.{ne_eqb}
use Rattle.std.proofs.lemmas.Bool.Decides.{eqb_tells}
use Rattle.std.proofs.lemmas.List.{append-nil, take-append-drop, length-drop, take_all}
use Rattle.std.proofs.lemmas.List.Sums.{sum_by-cons}
use Rattle.trace_check.specs.Lines.{lines, begun_by, differing}
use Rattle.trace_check.specs.Matches.{Matched, byte_of, IsMatched, line_behind, DiffersAt, DiffersAs}

eqb_self : (n : ℕ) → eqb n n ≡ true
eqb_self n = elim (eqb_tells n n) [ inl t ↦ t.0 | inr f ↦ absurd (f.1 refl) ]

pub bytes_same : (a : List ℕ) → bytes_eq a a ≡ true
bytes_same [] = refl
bytes_same (x ∷ a) = ap (λ (b : Bool). b && bytes_eq a a) (eqb_self x) ∙ bytes_same a

-- ---- nothing differs from itself

pub none_differs : (n : ℕ) (all : List (List ℕ)) → differing n all all ≡ None
unfolding differing
none_differs n [] = refl
none_differs n (a ∷ rest) = ap (λ (b : Bool). cond b (differing (n + 1) rest rest) (Some n)) (bytes_same a) ∙ none_differs (n + 1) rest

-- ---- lines begun by one byte

pub record Begins (b : ℕ) (all : List (List ℕ)) : Type 0 where
  pub line : List ℕ
  pub later : List (List ℕ)
  pub is : all ≡ (b ∷ line) ∷ later

begun : (b : ℕ) (all : List (List ℕ)) → Begins b (begun_by b all)
begun b [] = record { line = []; later = []; is = refl }
begun b (line ∷ later) = record { line = line; later = later; is = refl }

begins_if : (ends : Bool) (b : ℕ) (all : List (List ℕ)) → Begins b (cond ends ((b ∷ []) ∷ all) (begun_by b all))
begins_if true b all = record { line = []; later = all; is = refl }
begins_if false b all = begun b all

pub begins : (b : ℕ) (text : List ℕ) → Begins b (lines (b ∷ text))
unfolding lines
begins b text = begins_if (b == 10) b (lines text)

-- the first line isn't empty
abbrev Full : List (List ℕ) → Type 0
Full [] = Unit {0}
Full ([] ∷ later) = ⊥
Full ((b ∷ line) ∷ later) = Unit {0}

full : (text : List ℕ) → Full (lines text)
unfolding lines
full [] = tt
full (b ∷ text) = let h = begins b text in subst Full (sym h.is) tt

with_byte : (b n : ℕ) (xs ys : List (List ℕ)) → Full xs → Full ys → differing n (begun_by b xs) (begun_by b ys) ≡ differing n xs ys
unfolding differing
with_byte b n [] [] p q = ap (λ (e : Bool). cond (e && true) (differing (n + 1) [] []) (Some n)) (eqb_self b)
with_byte b n [] ([] ∷ ys) p q = absurd q
with_byte b n [] ((y ∷ line) ∷ ys) p q = ap (λ (e : Bool). cond (e && false) (differing (n + 1) [] ys) (Some n)) (eqb_self b)
with_byte b n ([] ∷ xs) ys p q = absurd p
with_byte b n ((x ∷ line) ∷ xs) [] p q = ap (λ (e : Bool). cond (e && false) (differing (n + 1) xs []) (Some n)) (eqb_self b)
with_byte b n ((x ∷ line) ∷ xs) ([] ∷ ys) p q = absurd q
with_byte b n ((x ∷ line) ∷ xs) ((y ∷ other) ∷ ys) p q =
    ap (λ (e : Bool). cond (e && bytes_eq (x ∷ line) (y ∷ other)) (differing (n + 1) xs ys) (Some n)) (eqb_self b)

-- ---- two texts that part after a common front

-- they part at once
abbrev Part : List ℕ → List ℕ → Type 0
Part [] [] = ⊥
Part [] (y ∷ ys) = Unit {0}
Part (x ∷ xs) [] = Unit {0}
Part (x ∷ xs) (y ∷ ys) = x ≢ y

by_lines : (n x y : ℕ) (xs ys : List (List ℕ)) → x ≢ y → Begins x xs → Begins y ys → differing n xs ys ≡ Some n
unfolding differing
by_lines n x y xs ys other p q =
    subst (λ (l : List (List ℕ)). differing n l ys ≡ Some n) (sym p.is)
    (subst (λ (l : List (List ℕ)). differing n ((x ∷ p.line) ∷ p.later) l ≡ Some n) (sym q.is)
    (ap (λ (e : Bool). cond (e && bytes_eq p.line q.line) (differing (n + 1) p.later q.later) (Some n)) (ne_eqb x y other)))

one_begins : (n x : ℕ) (xs : List (List ℕ)) → Begins x xs → (differing n xs [] ≡ Some n) × (differing n [] xs ≡ Some n)
unfolding differing
one_begins n x xs p = subst (λ (l : List (List ℕ)). (differing n l [] ≡ Some n) × (differing n [] l ≡ Some n)) (sym p.is) (refl, refl)

at_once : (n : ℕ) (xs ys : List ℕ) → Part xs ys → differing n (lines xs) (lines ys) ≡ Some n
unfolding lines
at_once n [] [] part = absurd part
at_once n [] (y ∷ ys) part = (one_begins n y (lines (y ∷ ys)) (begins y ys)).1
at_once n (x ∷ xs) [] part = (one_begins n x (lines (x ∷ xs)) (begins x xs)).0
at_once n (x ∷ xs) (y ∷ ys) part = by_lines n x y (lines (x ∷ xs)) (lines (y ∷ ys)) part (begins x xs) (begins y ys)

abbrev newlines : List ℕ → ℕ
newlines text = count_by (λ b. b == 10) text

by_end : (ends : Bool) (n b : ℕ) (xs ys : List ℕ) → differing n (cond ends ((b ∷ []) ∷ lines xs) (begun_by b (lines xs)))
    (cond ends ((b ∷ []) ∷ lines ys) (begun_by b (lines ys))) ≡ differing (cond ends (n + 1) n) (lines xs) (lines ys)
unfolding differing
by_end true n b xs ys = ap (λ (e : Bool). cond (e && true) (differing (n + 1) (lines xs) (lines ys)) (Some n)) (eqb_self b)
by_end false n b xs ys = with_byte b n (lines xs) (lines ys) (full xs) (full ys)

one_byte : (n b : ℕ) (xs ys : List ℕ) → differing n (lines (b ∷ xs)) (lines (b ∷ ys)) ≡ differing (cond (b == 10) (n + 1) n)
    (lines xs) (lines ys)
unfolding lines
one_byte n b xs ys = by_end (b == 10) n b xs ys

abbrev as_count : Bool → ℕ
as_count b = cond b 1 0

count_step : (ends : Bool) (n b : ℕ) (front : List ℕ) → (b == 10) ≡ ends → newlines front + cond ends (n + 1) n ≡ newlines (b ∷ front) + n
count_step true n b front e =
    let one : as_count (b == 10) ≡ 1 = ap as_count e in
    omega (arith, one, sum_by-cons (λ (x : ℕ). as_count (x == 10)) b front)
count_step false n b front e =
    let none : as_count (b == 10) ≡ 0 = ap as_count e in
    omega (arith, none, sum_by-cons (λ (x : ℕ). as_count (x == 10)) b front)

pub differ_behind : (n : ℕ) (front xs ys : List ℕ) → Part xs ys → differing n (lines (front ++ xs)) (lines (front ++ ys)) ≡ Some
    (newlines front + n)
differ_behind n [] xs ys part = let same : 0 + n ≡ n = omega arith in at_once n xs ys part ∙ ap (λ (k : ℕ). Some k) (sym same)
differ_behind n (b ∷ front) xs ys part =
    one_byte n b (front ++ xs) (front ++ ys)
    ∙ (differ_behind (cond (b == 10) (n + 1) n) front xs ys part
    ∙ ap (λ (k : ℕ). Some k) (count_step (b == 10) n b front refl))

-- ---- of a sink that compares

head_of : (text : List ℕ) (at : ℕ) → slice_get text at ≡ slice_get (drop at text) 0
head_of [] zero = refl
head_of [] (suc at) = refl
head_of (x ∷ text) zero = refl
head_of (x ∷ text) (suc at) = head_of text at

part_wrong : (b : ℕ) (rest later : List ℕ) → slice_get later 0 ≢ Some b → Part (b ∷ rest) later
part_wrong b rest [] other = tt
part_wrong b rest (y ∷ later) other = λ same. other (ap (λ (k : ℕ). Some k) (sym same))

part_short : (later : List ℕ) → 0 < length later → Part [] later
part_short [] lt = absurd (omega arith)
part_short (y ∷ later) lt = tt

-- a byte was wrong
pub wrong_differs : (text : List ℕ) (at b : ℕ) (rest : List ℕ) → slice_get text at ≢ Some b
    → differing 1 (lines ((take at text ++ b ∷ []) ++ rest)) (lines text) ≡ Some (line_behind (take at text))
wrong_differs text at b rest other =
    let given : (take at text ++ b ∷ []) ++ rest ≡ take at text ++ (b ∷ rest) = append_assoc (take at text) (b ∷ []) rest in
    let whole : take at text ++ drop at text ≡ text = take-append-drop at text in
    let part = part_wrong b rest (drop at text) (λ is. other (head_of text at ∙ is)) in
    subst (λ (t : List ℕ). differing 1 (lines ((take at text ++ b ∷ []) ++ rest)) (lines t) ≡ Some (line_behind (take at text))) whole
    (subst (λ (g : List ℕ). differing 1 (lines g) (lines (take at text ++ drop at text)) ≡ Some (line_behind (take at text))) (sym given)
    (differ_behind 1 (take at text) (b ∷ rest) (drop at text) part))

-- the text has more
pub short_differs : (text : List ℕ) (at : ℕ) → at < length text → differing 1 (lines (take at text)) (lines text) ≡ Some
    (line_behind (take at text))
short_differs text at lt =
    let whole : take at text ++ drop at text ≡ text = take-append-drop at text in
    let more : 0 < length (drop at text) = omega (arith, length-drop at text) in
    subst (λ (t : List ℕ). differing 1 (lines (take at text)) (lines t) ≡ Some (line_behind (take at text))) whole
    (subst (λ (g : List ℕ). differing 1 (lines g) (lines (take at text ++ drop at text)) ≡ Some (line_behind (take at text)))
    (append-nil (take at text))
    (differ_behind 1 (take at text) [] (drop at text) (part_short (drop at text) more)))

false_true : false ≡ true → ⊥
false_true e = cc

differs_by : (text : List ℕ) (at : ℕ) (wrong : Option ℕ) (faults : ℕ)
    → IsMatched (record { text = text; at = at; wrong = wrong; faults = faults })
    → (wrong ≡ None → at ≢ length text) → DiffersAt (record { text = text; at = at; wrong = wrong; faults = faults })
    (line_behind (take at text))
differs_by text at None faults h other =
    let lt : at < length text = let within : at ≤ length text = h.within in let apart : at ≢ length text = other refl in omega arith in
    record {
      here = subst (λ (g : List ℕ). differing 1 (lines g) (lines text) ≡ Some (line_behind (take at text)))
          (sym (append-nil (take at text))) (short_differs text at lt);
      behind = λ some rest. absurd (false_true some);
    }
differs_by text at (Some b) faults h other =
    record {
      here = subst (λ (g : List ℕ). differing 1 (lines g) (lines text) ≡ Some (line_behind (take at text)))
          (append-nil (take at text ++ b ∷ [])) (wrong_differs text at b [] (h.other b refl));
      behind = λ some rest. wrong_differs text at b rest (h.other b refl);
    }

pub differs_at : (m : Matched) → IsMatched m → (m.wrong ≡ None → m.at ≢ length m.text) → DiffersAt m (line_behind (take m.at m.text))
differs_at m h other = differs_by m.text m.at m.wrong m.faults h other

pub all_given : (m : Matched) → m.wrong ≡ None → m.at ≡ length m.text → DiffersAs m None
all_given m none all =
    (ap (λ (o : Option ℕ). take m.at m.text ++ byte_of o) none ∙ append-nil (take m.at m.text) ∙ take_all m.at m.text (omega arith), none)
