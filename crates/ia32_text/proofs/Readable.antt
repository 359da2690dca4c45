-- The forms of arguments that can be read: their text is told apart, and the grammar reads it as that form.
use Rattle.std.proofs.Common.{◌≡◌, ℕ, ◌≤◌, length, length-append, ◌+◌, ◌/◌, ◌%◌, ◌<◌, ◌^◌, ◌++◌, Bool, true, false, List, [], ◌∷◌, Option}
use Rattle.std.proofs.Common.{Some, None, refl, sym, ap}
use Rattle.std.proofs.Common.{subst, ◌∙◌, inl, inr, ◌⊎◌, append_assoc, append-nil, arith}
use Rattle.std.specs.Prelude.{ℤ, pos, negsuc, ◌==◌, nat_lt, if◌then◌else◌}
use Rattle.std.specs.List.{list_all}
use Rattle.std.specs.Char.{is_ascii_hexdigit}
use Rattle.std.proofs.lemmas.Bool.{and_parts, and_from, eqb-true, lt-ltb, le-leb}
use Rattle.std.proofs.lemmas.Bool.Decides.{nat_tests}
use Rattle.asm_lex.specs.Bytes.{class_of, is_letter, is_word, is_octal, is_mark}
use Rattle.asm_lex.specs.Source.{is_hexadecimal}
use Rattle.asm_source.specs.declared.tree.Value.{Value}
use Rattle.asm_source.specs.declared.tree.Form.{Form}
use Rattle.asm_source.specs.declared.tree.Form.TheVariants as form
use Rattle.asm_argument.specs.declared.terminal.Terminal.{Terminal}
use Rattle.asm_argument.specs.declared.terminal.Terminal.TheVariants as terminal
use Rattle.asm_argument.specs.declared.shape.Shape.TheVariants as shape
use Rattle.asm_argument.specs.Shapes.{signed, is_register, is_scale}
use Rattle.asm_argument.specs.Terminals.{number_value, number_terminal}
use Rattle.asm_argument.specs.Grammar.{IsConstant, IsValue, IsAddress, IsForm}
use Rattle.run_trace.specs.Text.{hex_digit, hex2, hex4}
use Rattle.ia32_text.specs.Numbers.{short2, short4, short8}
use Rattle.ia32_text.specs.Text.{scale_text}
use Rattle.ia32_text.proofs.Numerals.{number_back, number_words, is_hex_word}
use Rattle.ia32_text.proofs.Pieces.{Piece, is_short, is_name, is_number, breaks, AreApart, terminals_of}
use Rattle.ia32_text.proofs.FormPieces.{numeral, number_pieces, added_pieces, constant_pieces, named_pieces, value_pieces}
use Rattle.ia32_text.proofs.FormPieces.{displacement_pieces, register_pieces, index_pieces, place_pieces, form_pieces}

-- ---- numerals

abbrev is_some_text : List ℕ → Bool
is_some_text [] = false
is_some_text (b ∷ bs) = true

some_append : (xs ys : List ℕ) → is_some_text xs ≡ true → is_some_text (xs ++ ys) ≡ true
some_append [] ys e = absurd cc
some_append (x ∷ xs) ys e = refl

some_2 : (b : Bool) (n : ℕ) → is_some_text (if b then hex_digit n ∷ [] else hex2 n) ≡ true
some_2 true n = refl
some_2 false n = refl

some_4 : (b : Bool) (n : ℕ) → is_some_text (if b then short2 n else (short2 (n / 256) ++ hex2 (n % 256))) ≡ true
some_4 true n = some_2 (nat_lt n 16) n
some_4 false n = some_append (short2 (n / 256)) (hex2 (n % 256)) (some_2 (nat_lt (n / 256) 16) (n / 256))

some_8 : (b : Bool) (n : ℕ) → is_some_text (if b then short4 n else (short4 (n / 65536) ++ hex4 (n % 65536))) ≡ true
some_8 true n = some_4 (nat_lt n 256) n
some_8 false n = some_append (short4 (n / 65536)) (hex4 (n % 65536)) (some_4 (nat_lt (n / 65536) 256) (n / 65536))

few_2 : (b : Bool) (n : ℕ) → length (if b then hex_digit n ∷ [] else hex2 n) ≤ 2
few_2 true n = omega arith
few_2 false n = omega arith

few_4 : (b : Bool) (n : ℕ) → length (if b then short2 n else (short2 (n / 256) ++ hex2 (n % 256))) ≤ 4
few_4 true n = let few = few_2 (nat_lt n 16) n in omega (arith, few)
few_4 false n =
    let few = few_2 (nat_lt (n / 256) 16) (n / 256) in
    rw (length-append (short2 (n / 256)) (hex2 (n % 256))) (omega (arith, few))

few_8 : (b : Bool) (n : ℕ) → length (if b then short4 n else (short4 (n / 65536) ++ hex4 (n % 65536))) ≤ 8
few_8 true n = let few = few_4 (nat_lt n 256) n in omega (arith, few)
few_8 false n =
    let few = few_4 (nat_lt (n / 65536) 256) (n / 65536) in
    rw (length-append (short4 (n / 65536)) (hex4 (n % 65536))) (omega (arith, few))

pub all_words : (xs : List ℕ) → list_all is_hex_word xs ≡ true → list_all is_word xs ≡ true
all_words [] h = refl
all_words (x ∷ xs) h =
    let both = and_parts (is_hex_word x) (list_all is_hex_word xs) h in
    and_from (is_word x) (list_all is_word xs) (and_parts (is_word x) (is_ascii_hexdigit x) both.0).0 (all_words xs both.1)

all_digits : (xs : List ℕ) → list_all is_hex_word xs ≡ true → list_all is_ascii_hexdigit xs ≡ true
all_digits [] h = refl
all_digits (x ∷ xs) h =
    let both = and_parts (is_hex_word x) (list_all is_hex_word xs) h in
    and_from (is_ascii_hexdigit x) (list_all is_ascii_hexdigit xs) (and_parts (is_word x) (is_ascii_hexdigit x) both.0).1
    (all_digits xs both.1)

hexadecimal_is : (xs : List ℕ) → is_some_text xs ≡ true → list_all is_ascii_hexdigit xs ≡ true → is_hexadecimal (120 ∷ xs) ≡ true
hexadecimal_is [] e h = absurd cc
hexadecimal_is (x ∷ xs) e h = h

numeral_by : (xs : List ℕ) → list_all is_word xs ≡ true → is_short (48 ∷ 120 ∷ xs) ≡ true → is_hexadecimal (120 ∷ xs) ≡ true
    → is_number (48 ∷ 120 ∷ xs) ≡ true
unfolding class_of is_word is_letter is_octal
numeral_by xs w s h = and_from _ _ (and_from _ _ w s) h

numeral_short : (xs : List ℕ) → length xs ≤ 8 → is_short (48 ∷ 120 ∷ xs) ≡ true
numeral_short xs l = le-leb (length (48 ∷ 120 ∷ xs)) 16 (omega (arith, l))

numeral_is : (n : ℕ) → n < 2 ^ 32 → is_number (numeral n) ≡ true
numeral_is n l =
    let h = number_words n l in
    numeral_by (short8 n) (all_words (short8 n) h) (numeral_short (short8 n) (few_8 (nat_lt n 65536) n))
    (hexadecimal_is (short8 n) (some_8 (nat_lt n 65536) n) (all_digits (short8 n) h))

small_terminal : (n : ℕ) → n < 2 ^ 32 → number_terminal n ≡ terminal.Number n
small_terminal n l = rw (lt-ltb n (2 ^ 32) l) refl

numeral_terminal : (n : ℕ) → n < 2 ^ 32 → number_terminal (number_value (numeral n)) ≡ terminal.Number n
numeral_terminal n l = ap number_terminal (number_back n l) ∙ small_terminal n l

-- ---- scales

scales_are : (s : ℕ) → is_scale s ≡ true → (s ≡ 1) ⊎ (s ≡ 2) ⊎ (s ≡ 4) ⊎ (s ≡ 8)
scales_are s h = grind (arith, nat_tests)

each_scale : (P : ℕ → Type 0) → P 1 → P 2 → P 4 → P 8 → (s : ℕ) → is_scale s ≡ true → P s
each_scale P a b c d s h = elim (scales_are s h) [
  | inl e ↦ subst P (sym e) a
  | inr f ↦ elim f [
    | inl e ↦ subst P (sym e) b
    | inr g ↦ elim g [
      | inl e ↦ subst P (sym e) c
      | inr e ↦ subst P (sym e) d
    ]
  ]
]

scale_number : (s : ℕ) → is_scale s ≡ true → is_number (scale_text s) ≡ true
unfolding class_of is_word is_letter
scale_number = each_scale (λ s. is_number (scale_text s) ≡ true) refl refl refl refl

scale_terminal : (s : ℕ) → is_scale s ≡ true → number_terminal (number_value (scale_text s)) ≡ terminal.Number s
scale_terminal = each_scale (λ s. number_terminal (number_value (scale_text s)) ≡ terminal.Number s) refl refl refl refl

-- ---- what can be read

abbrev pub FitsNumber : ℤ → Type 0
FitsNumber (pos n) = n < 2 ^ 32
FitsNumber (negsuc n) = n < 2 ^ 31

abbrev pub FitsConstant : ℤ → Type 0
FitsConstant (pos n) = n < 2 ^ 32
FitsConstant (negsuc n) = n + 1 < 2 ^ 32

-- a number, or a name with a constant
abbrev pub IsReadableNamed : Option (List ℕ) → ℤ → Type 0
IsReadableNamed None z = FitsNumber z
IsReadableNamed (Some n) z = (is_name n ≡ true) × FitsConstant z

abbrev pub IsReadableValue : Value → Type 0
IsReadableValue v = IsReadableNamed v.name v.number

abbrev pub IsReadableRegister : List ℕ → Type 0
IsReadableRegister r = (is_register r ≡ true) × (is_name r ≡ true)

-- base, index and scale: 1 without an index
abbrev pub IsReadablePlace : Option (List ℕ) → Option (List ℕ) → ℕ → Type 0
IsReadablePlace None None s = s ≡ 1
IsReadablePlace (Some b) None s = IsReadableRegister b × (s ≡ 1)
IsReadablePlace None (Some i) s = IsReadableRegister i × (is_scale s ≡ true)
IsReadablePlace (Some b) (Some i) s = IsReadableRegister b × IsReadableRegister i × (is_scale s ≡ true)

-- a value, a place or both
abbrev pub IsReadableMemory : Option Value → Option (List ℕ) → Option (List ℕ) → ℕ → Type 0
IsReadableMemory (Some v) b i s = IsReadableValue v × IsReadablePlace b i s
IsReadableMemory None None None s = ⊥
IsReadableMemory None None (Some i) s = IsReadablePlace None (Some i) s
IsReadableMemory None (Some b) i s = IsReadablePlace (Some b) i s

abbrev pub IsReadable : Form → Type 0
IsReadable form.Absent = ⊥
IsReadable (form.Register r) = IsReadableRegister r
IsReadable (form.Immediate v) = IsReadableValue v
IsReadable (form.Memory v b i s) = IsReadableMemory v b i s
IsReadable (form.Text t) = ⊥

-- ---- its pieces are told apart

number_apart : (z : ℤ) (k : List Piece) → FitsNumber z → breaks k ≡ true → AreApart k → AreApart (number_pieces z k)
unfolding class_of is_letter is_mark
number_apart (pos n) k h b g = (numeral_is n h, b, g)
number_apart (negsuc n) k h b g = (refl, (numeral_is (n + 1) (omega arith), b, g))

added_apart : (t : Bool) (n : ℕ) (k : List Piece) → n < 2 ^ 32 → breaks k ≡ true → AreApart k → AreApart (added_pieces t n k)
unfolding class_of is_letter is_mark
added_apart true n k h b g = g
added_apart false n k h b g = (refl, (numeral_is n h, b, g))

constant_apart : (z : ℤ) (k : List Piece) → FitsConstant z → breaks k ≡ true → AreApart k → AreApart (constant_pieces z k)
unfolding class_of is_letter is_mark
constant_apart (pos n) k h b g = added_apart (n == 0) n k h b g
constant_apart (negsuc n) k h b g = (refl, (numeral_is (n + 1) h, b, g))

added_breaks : (t : Bool) (n : ℕ) (k : List Piece) → breaks k ≡ true → breaks (added_pieces t n k) ≡ true
unfolding is_word is_letter
added_breaks true n k b = b
added_breaks false n k b = refl

constant_breaks : (z : ℤ) (k : List Piece) → breaks k ≡ true → breaks (constant_pieces z k) ≡ true
unfolding is_word is_letter
constant_breaks (pos n) k b = added_breaks (n == 0) n k b
constant_breaks (negsuc n) k b = refl

named_apart : (o : Option (List ℕ)) (z : ℤ) (k : List Piece) → IsReadableNamed o z → breaks k ≡ true → AreApart k
    → AreApart (named_pieces o z k)
named_apart None z k h b g = number_apart z k h b g
named_apart (Some n) z k h b g = (h.0, constant_breaks z k b, constant_apart z k h.1 b g)

value_apart : (v : Value) (k : List Piece) → IsReadableValue v → breaks k ≡ true → AreApart k → AreApart (value_pieces v k)
value_apart v k h b g = named_apart v.name v.number k h b g

register_apart : (r : List ℕ) (k : List Piece) → IsReadableRegister r → breaks k ≡ true → AreApart k → AreApart (register_pieces r k)
unfolding class_of is_letter is_mark
register_apart r k h b g = (refl, (h.1, b, g))

index_apart : (i : List ℕ) (s : ℕ) (k : List Piece) → IsReadableRegister i → is_scale s ≡ true → AreApart k → AreApart (index_pieces i s k)
unfolding class_of is_word is_letter is_mark
index_apart i s k h e g = (refl, (refl, (h.1, refl, (refl, (scale_number s e, refl, (refl, g))))))

place_apart : (b i : Option (List ℕ)) (s : ℕ) (k : List Piece) → IsReadablePlace b i s → AreApart k → AreApart (place_pieces b i s k)
unfolding class_of is_word is_letter is_mark
place_apart None None s k h g = g
place_apart (Some b) None s k h g = (refl, (refl, (h.0.1, refl, (refl, g))))
place_apart None (Some i) s k h g = (refl, index_apart i s k h.0 h.1 g)
place_apart (Some b) (Some i) s k h g = (refl, (refl, (h.0.1, refl, index_apart i s k h.1 h.2 g)))

place_breaks : (b i : Option (List ℕ)) (s : ℕ) (k : List Piece) → breaks k ≡ true → breaks (place_pieces b i s k) ≡ true
unfolding is_word is_letter
place_breaks None None s k e = e
place_breaks (Some b) None s k e = refl
place_breaks None (Some i) s k e = refl
place_breaks (Some b) (Some i) s k e = refl

memory_apart : (v : Option Value) (b i : Option (List ℕ)) (s : ℕ) (k : List Piece) → IsReadableMemory v b i s → breaks k ≡ true → AreApart k
    → AreApart (displacement_pieces v (place_pieces b i s k))
memory_apart (Some v) b i s k h e g = value_apart v (place_pieces b i s k) h.0 (place_breaks b i s k e) (place_apart b i s k h.1 g)
memory_apart None None None s k h e g = absurd h
memory_apart None None (Some i) s k h e g = place_apart None (Some i) s k h g
memory_apart None (Some b) i s k h e g = place_apart (Some b) i s k h g

pub form_apart : (f : Form) (k : List Piece) → IsReadable f → breaks k ≡ true → AreApart k → AreApart (form_pieces f k)
unfolding class_of is_letter is_mark
form_apart form.Absent k h b g = absurd h
form_apart (form.Register r) k h b g = register_apart r k h b g
form_apart (form.Immediate v) k h b g = (refl, value_apart v k h b g)
form_apart (form.Memory v base i s) k h b g = memory_apart v base i s k h b g
form_apart (form.Text t) k h b g = absurd h

-- ---- its terminals

abbrev pub number_terminals : ℤ → List Terminal
number_terminals (pos n) = terminal.Number n ∷ []
number_terminals (negsuc n) = terminal.Minus ∷ terminal.Number (n + 1) ∷ []

abbrev pub added_terminals : Bool → ℕ → List Terminal
added_terminals true n = []
added_terminals false n = terminal.Plus ∷ terminal.Number n ∷ []

abbrev pub constant_terminals : ℤ → List Terminal
constant_terminals (pos n) = added_terminals (n == 0) n
constant_terminals (negsuc n) = terminal.Minus ∷ terminal.Number (n + 1) ∷ []

abbrev pub named_terminals : Option (List ℕ) → ℤ → List Terminal
named_terminals None z = number_terminals z
named_terminals (Some n) z = terminal.Name n ∷ constant_terminals z

abbrev pub value_terminals : Value → List Terminal
value_terminals v = named_terminals v.name v.number

abbrev pub displacement_terminals : Option Value → List Terminal
displacement_terminals None = []
displacement_terminals (Some v) = value_terminals v

abbrev pub place_terminals : Option (List ℕ) → Option (List ℕ) → ℕ → List Terminal
place_terminals None None s = []
place_terminals (Some b) None s = terminal.Open ∷ terminal.Percent ∷ terminal.Name b ∷ terminal.Close ∷ []
place_terminals None (Some i) s =
    terminal.Open ∷ terminal.Comma ∷ terminal.Percent ∷ terminal.Name i ∷ terminal.Comma ∷ terminal.Number s ∷ terminal.Close ∷ []
place_terminals (Some b) (Some i) s =
    terminal.Open ∷ terminal.Percent ∷ terminal.Name b
    ∷ terminal.Comma ∷ terminal.Percent ∷ terminal.Name i ∷ terminal.Comma ∷ terminal.Number s ∷ terminal.Close ∷ []

abbrev pub form_terminals : Form → List Terminal
form_terminals form.Absent = []
form_terminals (form.Register r) = terminal.Percent ∷ terminal.Name r ∷ []
form_terminals (form.Immediate v) = terminal.Dollar ∷ value_terminals v
form_terminals (form.Memory v b i s) = displacement_terminals v ++ place_terminals b i s
form_terminals (form.Text t) = []

number_seen : (z : ℤ) (k : List Piece) (ts : List Terminal) → FitsNumber z
    → terminals_of (number_pieces z k) ts ≡ number_terminals z ++ terminals_of k ts
number_seen (pos n) k ts h = ap (λ x. x ∷ terminals_of k ts) (numeral_terminal n h)
number_seen (negsuc n) k ts h = ap (λ x. terminal.Minus ∷ x ∷ terminals_of k ts) (numeral_terminal (n + 1) (omega arith))

added_seen : (t : Bool) (n : ℕ) (k : List Piece) (ts : List Terminal) → n < 2 ^ 32
    → terminals_of (added_pieces t n k) ts ≡ added_terminals t n ++ terminals_of k ts
added_seen true n k ts h = refl
added_seen false n k ts h = ap (λ x. terminal.Plus ∷ x ∷ terminals_of k ts) (numeral_terminal n h)

constant_seen : (z : ℤ) (k : List Piece) (ts : List Terminal) → FitsConstant z
    → terminals_of (constant_pieces z k) ts ≡ constant_terminals z ++ terminals_of k ts
constant_seen (pos n) k ts h = added_seen (n == 0) n k ts h
constant_seen (negsuc n) k ts h = ap (λ x. terminal.Minus ∷ x ∷ terminals_of k ts) (numeral_terminal (n + 1) h)

named_seen : (o : Option (List ℕ)) (z : ℤ) (k : List Piece) (ts : List Terminal) → IsReadableNamed o z
    → terminals_of (named_pieces o z k) ts ≡ named_terminals o z ++ terminals_of k ts
named_seen None z k ts h = number_seen z k ts h
named_seen (Some n) z k ts h = ap (λ x. terminal.Name n ∷ x) (constant_seen z k ts h.1)

value_seen : (v : Value) (k : List Piece) (ts : List Terminal) → IsReadableValue v
    → terminals_of (value_pieces v k) ts ≡ value_terminals v ++ terminals_of k ts
value_seen v k ts h = named_seen v.name v.number k ts h

place_seen : (b i : Option (List ℕ)) (s : ℕ) (k : List Piece) (ts : List Terminal) → IsReadablePlace b i s
    → terminals_of (place_pieces b i s k) ts ≡ place_terminals b i s ++ terminals_of k ts
place_seen None None s k ts h = refl
place_seen (Some b) None s k ts h = refl
place_seen None (Some i) s k ts h =
    ap (λ x. terminal.Open ∷ terminal.Comma ∷ terminal.Percent ∷ terminal.Name i ∷ terminal.Comma ∷ x ∷ terminal.Close ∷ terminals_of k ts)
    (scale_terminal s h.1)
place_seen (Some b) (Some i) s k ts h =
    ap (λ x. terminal.Open ∷ terminal.Percent ∷ terminal.Name b
    ∷ terminal.Comma ∷ terminal.Percent ∷ terminal.Name i ∷ terminal.Comma ∷ x ∷ terminal.Close ∷ terminals_of k ts) (scale_terminal s h.2)

memory_seen : (v : Option Value) (b i : Option (List ℕ)) (s : ℕ) (k : List Piece) (ts : List Terminal) → IsReadableMemory v b i s
    → terminals_of (displacement_pieces v (place_pieces b i s k)) ts
    ≡ (displacement_terminals v ++ place_terminals b i s) ++ terminals_of k ts
memory_seen (Some v) b i s k ts h =
    value_seen v (place_pieces b i s k) ts h.0 ∙ ap (λ x. value_terminals v ++ x) (place_seen b i s k ts h.1)
    ∙ sym (append_assoc (value_terminals v) (place_terminals b i s) (terminals_of k ts))
memory_seen None None None s k ts h = absurd h
memory_seen None None (Some i) s k ts h = place_seen None (Some i) s k ts h
memory_seen None (Some b) i s k ts h = place_seen (Some b) i s k ts h

pub form_seen : (f : Form) (k : List Piece) (ts : List Terminal) → IsReadable f
    → terminals_of (form_pieces f k) ts ≡ form_terminals f ++ terminals_of k ts
form_seen form.Absent k ts h = absurd h
form_seen (form.Register r) k ts h = refl
form_seen (form.Immediate v) k ts h = ap (λ x. terminal.Dollar ∷ x) (value_seen v k ts h)
form_seen (form.Memory v b i s) k ts h = memory_seen v b i s k ts h
form_seen (form.Text t) k ts h = absurd h

-- ---- the grammar reads them

abbrev named : Option (List ℕ) → ℤ → Value
named o z = record { name = o; number = z }

minus_is : (n : ℕ) → signed true (n + 1) ≡ negsuc n
minus_is n = grind (arith, nat_tests)

number_read : (z : ℤ) → FitsNumber z → IsValue shape.Operand (number_terminals z) (named None z)
number_read (pos n) h = IsValue.number refl refl
number_read (negsuc n) h =
    subst (λ z. IsValue shape.Operand (terminal.Minus ∷ terminal.Number (n + 1) ∷ []) (named None z)) (minus_is n)
    (IsValue.negative refl (le-leb (n + 1) _ (omega arith)) refl)

added_read : (t : Bool) (name : List ℕ) (n : ℕ) → (n == 0) ≡ t
    → IsValue shape.Operand (terminal.Name name ∷ added_terminals t n) (named (Some name) (pos n))
added_read true name n e =
    subst (λ k. IsValue shape.Operand (terminal.Name name ∷ []) (named (Some name) (pos k))) (sym (eqb-true n 0 e)) (IsValue.name refl)
added_read false name n e = IsValue.sum refl refl IsConstant.bare

constant_read : (name : List ℕ) (z : ℤ) → IsValue shape.Operand (terminal.Name name ∷ constant_terminals z) (named (Some name) z)
constant_read name (pos n) = added_read (n == 0) name n refl
constant_read name (negsuc n) =
    subst (λ z. IsValue shape.Operand (terminal.Name name ∷ terminal.Minus ∷ terminal.Number (n + 1) ∷ []) (named (Some name) z))
    (minus_is n)
    (IsValue.difference refl refl IsConstant.bare)

named_read : (o : Option (List ℕ)) (z : ℤ) → IsReadableNamed o z → IsValue shape.Operand (named_terminals o z) (named o z)
named_read None z h = number_read z h
named_read (Some name) z h = constant_read name z

value_read : (v : Value) → IsReadableValue v → IsValue shape.Operand (value_terminals v) v
value_read v h = named_read v.name v.number h

base_read : (b : List ℕ) (s : ℕ) → is_register b ≡ true → s ≡ 1 → IsAddress (place_terminals (Some b) None s) (Some b) None s
base_read b s h e = subst (λ k. IsAddress (place_terminals (Some b) None s) (Some b) None k) (sym e) (IsAddress.base h)

based_read : (b : List ℕ) (i : Option (List ℕ)) (s : ℕ) → IsReadablePlace (Some b) i s
    → IsAddress (place_terminals (Some b) i s) (Some b) i s
based_read b None s h = base_read b s h.0.0 h.1
based_read b (Some i) s h = IsAddress.base_scaled h.0.0 h.1.0 h.2

-- a value alone, or before a place
beside_read : (v : Value) (b i : Option (List ℕ)) (s : ℕ) → IsReadableValue v → IsReadablePlace b i s
    → IsForm shape.Operand (value_terminals v ++ place_terminals b i s) (form.Memory (Some v) b i s)
beside_read v None None s h p =
    let W : List Terminal → ℕ → Type 0 = λ ts k. IsForm shape.Operand ts (form.Memory (Some v) None None k) in
    subst (W (value_terminals v ++ [])) (sym p)
    (subst (λ ts. W ts 1) (sym (append-nil (value_terminals v))) (IsForm.value (value_read v h)))
beside_read v (Some b) i s h p =
    IsForm.value_address (value_terminals v) (place_terminals (Some b) i s) refl refl (value_read v h) (based_read b i s p)
beside_read v None (Some i) s h p =
    IsForm.value_address (value_terminals v) (place_terminals None (Some i) s) refl refl (value_read v h) (IsAddress.scaled p.0.0 p.1)

memory_read : (v : Option Value) (b i : Option (List ℕ)) (s : ℕ) → IsReadableMemory v b i s
    → IsForm shape.Operand (displacement_terminals v ++ place_terminals b i s) (form.Memory v b i s)
memory_read (Some v) b i s h = beside_read v b i s h.0 h.1
memory_read None None None s h = absurd h
memory_read None None (Some i) s h = IsForm.address refl (IsAddress.scaled h.0.0 h.1)
memory_read None (Some b) i s h = IsForm.address refl (based_read b i s h)

-- The terminals of a form that can be read are that form.
pub form_read : (f : Form) → IsReadable f → IsForm shape.Operand (form_terminals f) f
form_read form.Absent h = absurd h
form_read (form.Register r) h = IsForm.register refl h.0
form_read (form.Immediate v) h = IsForm.immediate refl (value_read v h)
form_read (form.Memory v b i s) h = memory_read v b i s h
form_read (form.Text t) h = absurd h
