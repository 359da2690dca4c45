-- What the last line of a run's text reports, and where it stands in the text.
use Rattle.std.proofs.Common.{◌≡◌, ℕ, ◌+◌, ◌*◌, ◌-◌, ◌/◌, ◌%◌, ◌<◌, ◌≤◌, ◌^◌, Bool, true, false, cond, eqb, List, [], ◌∷◌, ◌++◌, Option, Some, None, refl, sym, ap, subst, ◌∙◌, arith, inl, inr, append_assoc}
use Rattle.std.specs.Prelude.{◌==◌, ◌&&◌, nat_le, find, take_while, decimal, codes}
use Rattle.std.specs.Str.{bytes_eq}
use Rattle.std.specs.Char.{is_ascii_digit}
use Rattle.std.proofs.lemmas.Fmt.{decimal_by_steps}
use Rattle.std.proofs.lemmas.Bool.{le-leb}
use Rattle.std.proofs.lemmas.Bool.Decides.{eqb_tells}
use Rattle.ia32_types.specs.declared.stop.Stop.{Stop}
use Rattle.ia32_types.specs.declared.stop.Stop.TheVariants as stops
use Rattle.paging.specs.MonitorStops.{is_extra_stop}
use Rattle.text_lines.specs.Numbers.{decimal_after}
use Rattle.run_trace.specs.declared.items.Item.{Item}
use Rattle.run_trace.specs.declared.items.End.{End}
use Rattle.run_trace.specs.declared.items.End.TheVariants.{Bound, Stopped}
use Rattle.run_trace.specs.Text.{what_text, item_line, stop_name, end_text, end_line, lines_of, text_of}
use Rattle.trace_check.specs.Lines.{lines, begun_by, last_of, before_last, steps_told, stop_told, monitor_stops}
use Rattle.trace_check.proofs.Differing.{begins}
use Rattle.trace_check.proofs.LastLine.{number_on, number_ends, lines_end, lines_mid}

-- ---- a decimal number is read back

abbrev ReadsBack : ℕ → List ℕ → Type 0
ReadsBack n ds =
    (rest : List ℕ) → decimal_after 0 (take_while is_ascii_digit (ds ++ rest)) ≡ decimal_after n (take_while is_ascii_digit rest)

digit : (d : ℕ) → d < 10 → is_ascii_digit (48 + d) ≡ true
digit d lt =
    let low : nat_le 48 (48 + d) ≡ true = le-leb 48 (48 + d) (omega arith) in
    let high : nat_le (48 + d) 57 ≡ true = le-leb (48 + d) 57 (omega arith) in
    ap (λ (x : Bool). x && nat_le (48 + d) 57) low ∙ high

one_back : (n : ℕ) → n < 10 → ReadsBack n ((48 + n) ∷ [])
one_back n lt rest =
    let same : 10 * 0 + ((48 + n) - 48) ≡ n = omega arith in
    number_on 0 (48 + n) rest (digit n lt) ∙ ap (λ (k : ℕ). decimal_after k (take_while is_ascii_digit rest)) same

more_back : (n : ℕ) (ds : List ℕ) → 10 ≤ n → ReadsBack (n / 10) ds → ReadsBack n (ds ++ ((48 + n % 10) ∷ []))
more_back n ds le h rest =
    let same : 10 * (n / 10) + ((48 + n % 10) - 48) ≡ n = omega arith in
    let lt : n % 10 < 10 = omega arith in
    ap (λ (l : List ℕ). decimal_after 0 (take_while is_ascii_digit l)) (append_assoc ds ((48 + n % 10) ∷ []) rest)
    ∙ h ((48 + n % 10) ∷ rest)
    ∙ number_on (n / 10) (48 + n % 10) rest (digit (n % 10) lt)
    ∙ ap (λ (k : ℕ). decimal_after k (take_while is_ascii_digit rest)) same

reads_back : (n : ℕ) → n < 2 ^ 64 → ReadsBack n (decimal n)
reads_back n lt = decimal_by_steps ReadsBack one_back more_back n lt

-- what stands after the number
abbrev behind_number : End → List ℕ
behind_number end = end_text end ++ codes "\n"

ends_there : (n : ℕ) (end : End) → decimal_after n (take_while is_ascii_digit (behind_number end)) ≡ n
ends_there n Bound = number_ends n 10 [] refl
ends_there n (Stopped stop) = number_ends n 32 ((115 ∷ 116 ∷ 111 ∷ 112 ∷ 32 ∷ []) ++ stop_name stop ++ codes "\n") refl

pub steps_back : (n : ℕ) (end : End) → n < 2 ^ 64 → steps_told (end_line n end) ≡ n
unfolding end_line
steps_back n end lt =
    ap (λ (l : List ℕ). decimal_after 0 (take_while is_ascii_digit l)) (append_assoc (decimal n) (end_text end) (10 ∷ []))
    ∙ reads_back n lt (behind_number end) ∙ ends_there n end

-- ---- the stop is read back

bytes_front : (front a b : List ℕ) → bytes_eq (front ++ a) (front ++ b) ≡ bytes_eq a b
bytes_front [] a b = refl
bytes_front (x ∷ front) a b = ap (λ (e : Bool). e && bytes_eq (front ++ a) (front ++ b)) (self x) ∙ bytes_front front a b
  where
    self : (n : ℕ) → eqb n n ≡ true
    self n = elim (eqb_tells n n) [ inl t ↦ t.0 | inr f ↦ absurd (f.1 refl) ]

parts_are : (n : ℕ) (end : End) → end_line n end ≡ codes "end steps " ++ (decimal n ++ behind_number end)
unfolding end_line
parts_are n end = ap (λ (l : List ℕ). codes "end steps " ++ l) (append_assoc (decimal n) (end_text end) (10 ∷ []))

lines_same : (n : ℕ) (a b : End) → bytes_eq (end_line n a) (end_line n b) ≡ bytes_eq (behind_number a) (behind_number b)
lines_same n a b =
    ap (λ (l : List ℕ). bytes_eq l (end_line n b)) (parts_are n a)
    ∙ ap (λ (l : List ℕ). bytes_eq (codes "end steps " ++ (decimal n ++ behind_number a)) l) (parts_are n b)
    ∙ bytes_front (codes "end steps ") (decimal n ++ behind_number a) (decimal n ++ behind_number b)
    ∙ bytes_front (decimal n) (behind_number a) (behind_number b)

find_same : (p q : Stop → Bool) → ((x : Stop) → p x ≡ q x) → (xs : List Stop) → find p xs ≡ find q xs
find_same p q is [] = refl
find_same p q is (x ∷ xs) =
    ap (λ (e : Bool). cond e (Some x) (find p xs)) (is x) ∙ ap (λ (o : Option Stop). cond (q x) (Some x) o) (find_same p q is xs)

-- the stop that a last line reports, where it is one of a monitor's own
abbrev pub told_of : End → Option Stop
told_of Bound = None
told_of (Stopped stop) = cond (is_extra_stop stop) (Some stop) None

found_there : (end : End) → find (λ (stop : Stop). bytes_eq (behind_number end) (behind_number (Stopped stop))) monitor_stops ≡ told_of end
unfolding stop_name
found_there Bound = refl
found_there (Stopped stops.Unsupported) = refl
found_there (Stopped stops.BeyondRam) = refl
found_there (Stopped stops.WrapAccess) = refl
found_there (Stopped stops.DeliveryFailed) = refl
found_there (Stopped stops.ControlBits) = refl
found_there (Stopped stops.DeviceUse) = refl
found_there (Stopped stops.FlagBits) = refl
found_there (Stopped stops.SegmentForm) = refl
found_there (Stopped stops.TextTouched) = refl
found_there (Stopped stops.WedgeTouched) = refl
found_there (Stopped stops.LowTouched) = refl
found_there (Stopped stops.NotAStart) = refl
found_there (Stopped stops.TextMapped) = refl
found_there (Stopped stops.TableInText) = refl
found_there (Stopped stops.UserFlags) = refl
found_there (Stopped stops.CodeIsTable) = refl

pub stop_back : (n k : ℕ) (end : End) → k ≤ n → k < 2 ^ 64 → stop_told n (end_line k end) ≡ told_of end
unfolding stop_told
stop_back n k end le lt =
    let line = end_line k end in
    let within : nat_le k n ≡ true = le-leb k n le in
    ap (λ (j : ℕ). cond (nat_le j n) (find (λ (stop : Stop). bytes_eq line (end_line j (Stopped stop))) monitor_stops) None)
    (steps_back k end lt)
    ∙ ap (λ (b : Bool). cond b (find (λ (stop : Stop). bytes_eq line (end_line k (Stopped stop))) monitor_stops) None) within
    ∙ find_same (λ (stop : Stop). bytes_eq line (end_line k (Stopped stop)))
    (λ (stop : Stop). bytes_eq (behind_number end) (behind_number (Stopped stop))) (λ x. lines_same k end (Stopped x)) monitor_stops
    ∙ found_there end

-- ---- the lines of a text that goes on after a newline

lines_none : lines [] ≡ []
unfolding lines
lines_none = refl

-- there is a first line
record Some_line (all : List (List ℕ)) : Type 0 where
  first : List ℕ
  later : List (List ℕ)
  is : all ≡ first ∷ later

some_front : (front : List ℕ) → Some_line (lines (front ++ 10 ∷ []))
some_front [] = let h = begins 10 [] in record { first = 10 ∷ h.line; later = h.later; is = h.is }
some_front (b ∷ front) = let h = begins b (front ++ 10 ∷ []) in record { first = b ∷ h.line; later = h.later; is = h.is }

begun_join : (b : ℕ) (xs ys : List (List ℕ)) → Some_line xs → begun_by b (xs ++ ys) ≡ begun_by b xs ++ ys
begun_join b xs ys h = subst (λ (l : List (List ℕ)). begun_by b (l ++ ys) ≡ begun_by b l ++ ys) (sym h.is) refl

lines_join : (front rest : List ℕ) → lines (front ++ 10 ∷ rest) ≡ lines (front ++ 10 ∷ []) ++ lines rest
lines_join [] rest = lines_end 10 rest refl
    ∙ ap (λ (l : List (List ℕ)). l ++ lines rest) (sym (lines_end 10 [] refl ∙ ap (λ (l : List (List ℕ)). (10 ∷ []) ∷ l) lines_none))
lines_join (b ∷ front) rest = by (lines_join front rest) (b == 10) refl
  where
    by : lines (front ++ 10 ∷ rest) ≡ lines (front ++ 10 ∷ []) ++ lines rest → (e : Bool) → (b == 10) ≡ e
        → lines (b ∷ (front ++ 10 ∷ rest)) ≡ lines (b ∷ (front ++ 10 ∷ [])) ++ lines rest
    by later true is = lines_end b (front ++ 10 ∷ rest) is ∙ ap (λ (l : List (List ℕ)). (b ∷ []) ∷ l) later
        ∙ sym (ap (λ (l : List (List ℕ)). l ++ lines rest) (lines_end b (front ++ 10 ∷ []) is))
    by later false is =
        lines_mid b (front ++ 10 ∷ rest) is ∙ ap (begun_by b) later
        ∙ begun_join b (lines (front ++ 10 ∷ [])) (lines rest) (some_front front)
        ∙ sym (ap (λ (l : List (List ℕ)). l ++ lines rest) (lines_mid b (front ++ 10 ∷ []) is))

-- an item's line up to its newline
abbrev item_front : Item → List ℕ
item_front item = decimal item.step ++ what_text item.what

item_is : (item : Item) → item_line item ≡ item_front item ++ 10 ∷ []
unfolding item_line
item_is item = refl

item_before : (item : Item) (rest : List ℕ) → item_line item ++ rest ≡ item_front item ++ 10 ∷ rest
item_before item rest = ap (λ (l : List ℕ). l ++ rest) (item_is item) ∙ append_assoc (item_front item) (10 ∷ []) rest

pub items_join : (items : List Item) (rest : List ℕ) → lines (lines_of items ++ rest) ≡ lines (lines_of items) ++ lines rest
items_join [] rest = sym (ap (λ (l : List (List ℕ)). l ++ lines rest) lines_none)
items_join (item ∷ items) rest =
    let head = lines (item_front item ++ 10 ∷ []) in
    ap lines (append_assoc (item_line item) (lines_of items) rest ∙ item_before item (lines_of items ++ rest))
    ∙ lines_join (item_front item) (lines_of items ++ rest)
    ∙ ap (λ (l : List (List ℕ)). head ++ l) (items_join items rest)
    ∙ sym (append_assoc head (lines (lines_of items)) (lines rest))
    ∙ ap (λ (l : List (List ℕ)). l ++ lines rest)
    (sym (ap lines (item_before item (lines_of items)) ∙ lines_join (item_front item) (lines_of items)))

-- ---- the last line is one line

-- no byte is a newline
abbrev is_plain : List ℕ → Bool
is_plain [] = true
is_plain (b ∷ l) = cond (b == 10) false (is_plain l)

clash : false ≡ true → ⊥
clash h = cc

plain_join : (xs ys : List ℕ) → is_plain xs ≡ true → is_plain ys ≡ true → is_plain (xs ++ ys) ≡ true
plain_join [] ys p q = q
plain_join (b ∷ xs) ys p q = by (λ h. plain_join xs ys h q) (b == 10) p
  where
    by : (is_plain xs ≡ true → is_plain (xs ++ ys) ≡ true) → (e : Bool) → cond e false (is_plain xs) ≡ true
        → cond e false (is_plain (xs ++ ys)) ≡ true
    by later true h = absurd (clash h)
    by later false h = later h

abbrev IsPlain : ℕ → List ℕ → Type 0
IsPlain n ds = is_plain ds ≡ true

digit_plain : (d : ℕ) → IsPlain d ((48 + d) ∷ [])
digit_plain d = elim (eqb_tells (48 + d) 10) [
  | inl t ↦ absurd (omega (arith, t.1))
  | inr f ↦ ap (λ (e : Bool). cond e false true) f.0
]

decimal_plain : (n : ℕ) → n < 2 ^ 64 → is_plain (decimal n) ≡ true
decimal_plain n lt =
    decimal_by_steps IsPlain (λ k small. digit_plain k) (λ k ds large h. plain_join ds ((48 + k % 10) ∷ []) h (digit_plain (k % 10))) n lt

end_plain : (end : End) → is_plain (end_text end) ≡ true
unfolding stop_name
end_plain Bound = refl
end_plain (Stopped stops.Unsupported) = refl
end_plain (Stopped stops.BeyondRam) = refl
end_plain (Stopped stops.WrapAccess) = refl
end_plain (Stopped stops.DeliveryFailed) = refl
end_plain (Stopped stops.ControlBits) = refl
end_plain (Stopped stops.DeviceUse) = refl
end_plain (Stopped stops.FlagBits) = refl
end_plain (Stopped stops.SegmentForm) = refl
end_plain (Stopped stops.TextTouched) = refl
end_plain (Stopped stops.WedgeTouched) = refl
end_plain (Stopped stops.LowTouched) = refl
end_plain (Stopped stops.NotAStart) = refl
end_plain (Stopped stops.TextMapped) = refl
end_plain (Stopped stops.TableInText) = refl
end_plain (Stopped stops.UserFlags) = refl
end_plain (Stopped stops.CodeIsTable) = refl

one_line : (word : List ℕ) → is_plain word ≡ true → lines (word ++ 10 ∷ []) ≡ (word ++ 10 ∷ []) ∷ []
one_line [] p = lines_end 10 [] refl ∙ ap (λ (l : List (List ℕ)). (10 ∷ []) ∷ l) lines_none
one_line (b ∷ word) p = by (λ h. one_line word h) (b == 10) refl p
  where
    by : (is_plain word ≡ true → lines (word ++ 10 ∷ []) ≡ (word ++ 10 ∷ []) ∷ []) → (e : Bool) → (b == 10) ≡ e
        → cond e false (is_plain word) ≡ true → lines (b ∷ (word ++ 10 ∷ [])) ≡ (b ∷ (word ++ 10 ∷ [])) ∷ []
    by later true is h = absurd (clash h)
    by later false is h = lines_mid b (word ++ 10 ∷ []) is ∙ ap (begun_by b) (later h)

end_is : (n : ℕ) (end : End) → end_line n end ≡ (codes "end steps " ++ (decimal n ++ end_text end)) ++ 10 ∷ []
unfolding end_line
end_is n end = refl

end_alone : (n : ℕ) (end : End) → n < 2 ^ 64 → lines (end_line n end) ≡ end_line n end ∷ []
end_alone n end lt =
    let word = codes "end steps " ++ (decimal n ++ end_text end) in
    ap lines (end_is n end)
    ∙ one_line word (plain_join (codes "end steps ") (decimal n ++ end_text end) refl
    (plain_join (decimal n) (end_text end) (decimal_plain n lt) (end_plain end)))
    ∙ ap (λ (l : List ℕ). l ∷ []) (sym (end_is n end))

last_pushed : (xs : List (List ℕ)) (l : List ℕ) → last_of (xs ++ l ∷ []) ≡ l
last_pushed [] l = refl
last_pushed (x ∷ []) l = refl
last_pushed (x ∷ y ∷ xs) l = last_pushed (y ∷ xs) l

before_pushed : (xs : List (List ℕ)) (l : List ℕ) → before_last (xs ++ l ∷ []) ≡ xs
before_pushed [] l = refl
before_pushed (x ∷ []) l = refl
before_pushed (x ∷ y ∷ xs) l = ap (λ (ls : List (List ℕ)). x ∷ ls) (before_pushed (y ∷ xs) l)

text_lines : (items : List Item) (n : ℕ) (end : End) → n < 2 ^ 64 → lines (text_of items n end) ≡ lines (lines_of items)
    ++ end_line n end ∷ []
unfolding text_of
text_lines items n end lt = items_join items (end_line n end) ∙ ap (λ (l : List (List ℕ)). lines (lines_of items) ++ l) (end_alone n end lt)

pub text_last : (items : List Item) (n : ℕ) (end : End) → n < 2 ^ 64 → last_of (lines (text_of items n end)) ≡ end_line n end
text_last items n end lt = ap last_of (text_lines items n end lt) ∙ last_pushed (lines (lines_of items)) (end_line n end)

pub text_before : (items : List Item) (n : ℕ) (end : End) → n < 2 ^ 64 → before_last (lines (text_of items n end)) ≡ lines (lines_of items)
text_before items n end lt = ap before_last (text_lines items n end lt) ∙ before_pushed (lines (lines_of items)) (end_line n end)
