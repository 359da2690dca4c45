-- A number that is written is read back.
use Rattle.std.proofs.Common.{◌≡◌, ℕ, zero, suc, ◌+◌, ◌*◌, ◌/◌, ◌%◌, ◌^◌, ◌<◌, ◌++◌, Bool, true, false, List, [], ◌∷◌, refl, ◌∙◌, arith}
use Rattle.std.specs.Prelude.{codes, nat_lt, ◌&&◌, if◌then◌else◌}
use Rattle.std.specs.List.{list_all}
use Rattle.std.specs.Char.{is_ascii_hexdigit}
use Rattle.std.proofs.lemmas.Bool.{ltb-true, and_parts, and_from}
use Rattle.asm_lex.specs.Bytes.{is_letter, is_word}
use Rattle.asm_argument.specs.Terminals.{digit_of, digits_value, number_value}
use Rattle.run_trace.specs.Text.{hex_digit, hex2, hex4, hex8}
use Rattle.ia32_text.specs.Numbers.{short2, short4, short8}

each_16 : (P : ℕ → Type 0) → P 0 → P 1 → P 2 → P 3 → P 4 → P 5 → P 6 → P 7 → P 8 → P 9 → P 10 → P 11 → P 12 → P 13 → P 14 → P 15
    → (n : ℕ) → n < 16 → P n
each_16 P h0 h1 h2 h3 h4 h5 h6 h7 h8 h9 h10 h11 h12 h13 h14 h15 zero l = h0
each_16 P h0 h1 h2 h3 h4 h5 h6 h7 h8 h9 h10 h11 h12 h13 h14 h15 (suc zero) l = h1
each_16 P h0 h1 h2 h3 h4 h5 h6 h7 h8 h9 h10 h11 h12 h13 h14 h15 (suc (suc zero)) l = h2
each_16 P h0 h1 h2 h3 h4 h5 h6 h7 h8 h9 h10 h11 h12 h13 h14 h15 (suc (suc (suc zero))) l = h3
each_16 P h0 h1 h2 h3 h4 h5 h6 h7 h8 h9 h10 h11 h12 h13 h14 h15 (suc (suc (suc (suc zero)))) l = h4
each_16 P h0 h1 h2 h3 h4 h5 h6 h7 h8 h9 h10 h11 h12 h13 h14 h15 (suc (suc (suc (suc (suc zero))))) l = h5
each_16 P h0 h1 h2 h3 h4 h5 h6 h7 h8 h9 h10 h11 h12 h13 h14 h15 (suc (suc (suc (suc (suc (suc zero)))))) l = h6
each_16 P h0 h1 h2 h3 h4 h5 h6 h7 h8 h9 h10 h11 h12 h13 h14 h15 (suc (suc (suc (suc (suc (suc (suc zero))))))) l = h7
each_16 P h0 h1 h2 h3 h4 h5 h6 h7 h8 h9 h10 h11 h12 h13 h14 h15 (suc (suc (suc (suc (suc (suc (suc (suc zero)))))))) l = h8
each_16 P h0 h1 h2 h3 h4 h5 h6 h7 h8 h9 h10 h11 h12 h13 h14 h15 (suc (suc (suc (suc (suc (suc (suc (suc (suc zero))))))))) l = h9
each_16 P h0 h1 h2 h3 h4 h5 h6 h7 h8 h9 h10 h11 h12 h13 h14 h15 (suc (suc (suc (suc (suc (suc (suc (suc (suc (suc zero)))))))))) l = h10
each_16 P h0 h1 h2 h3 h4 h5 h6 h7 h8 h9 h10 h11 h12 h13 h14 h15 (suc (suc (suc (suc (suc (suc (suc (suc (suc (suc (suc zero))))))))))) l =
    h11
each_16 P h0 h1 h2 h3 h4 h5 h6 h7 h8 h9 h10 h11 h12 h13 h14 h15
    (suc (suc (suc (suc (suc (suc (suc (suc (suc (suc (suc (suc zero)))))))))))) l = h12
each_16 P h0 h1 h2 h3 h4 h5 h6 h7 h8 h9 h10 h11 h12 h13 h14 h15
    (suc (suc (suc (suc (suc (suc (suc (suc (suc (suc (suc (suc (suc zero))))))))))))) l = h13
each_16 P h0 h1 h2 h3 h4 h5 h6 h7 h8 h9 h10 h11 h12 h13 h14 h15
    (suc (suc (suc (suc (suc (suc (suc (suc (suc (suc (suc (suc (suc (suc zero)))))))))))))) l = h14
each_16 P h0 h1 h2 h3 h4 h5 h6 h7 h8 h9 h10 h11 h12 h13 h14 h15
    (suc (suc (suc (suc (suc (suc (suc (suc (suc (suc (suc (suc (suc (suc (suc zero))))))))))))))) l = h15
each_16 P h0 h1 h2 h3 h4 h5 h6 h7 h8 h9 h10 h11 h12 h13 h14 h15
    (suc (suc (suc (suc (suc (suc (suc (suc (suc (suc (suc (suc (suc (suc (suc (suc n)))))))))))))))) l = absurd (omega arith)

-- ---- what the digits say

digit_back : (n : ℕ) → n < 16 → digit_of (hex_digit n) ≡ n
digit_back = each_16 (λ n. digit_of (hex_digit n) ≡ n) refl refl refl refl refl refl refl refl refl refl refl refl refl refl refl refl

value_append : (s : ℕ) (xs ys : List ℕ) → digits_value 16 s (xs ++ ys) ≡ digits_value 16 (digits_value 16 s xs) ys
value_append s [] ys = refl
value_append s (x ∷ xs) ys = value_append (s * 16 + digit_of x) xs ys

value_2 : (s n : ℕ) → n < 256 → digits_value 16 s (hex2 n) ≡ s * 256 + n
value_2 s n l =
    let a : digit_of (hex_digit (n / 16)) ≡ n / 16 = digit_back (n / 16) (omega arith) in
    let b : digit_of (hex_digit (n % 16)) ≡ n % 16 = digit_back (n % 16) (omega arith) in
    omega (arith, a, b)

value_4 : (s n : ℕ) → n < 65536 → digits_value 16 s (hex4 n) ≡ s * 65536 + n
value_4 s n l =
    let a = value_2 s (n / 256) (omega arith) in
    let b = value_2 (digits_value 16 s (hex2 (n / 256))) (n % 256) (omega arith) in
    value_append s (hex2 (n / 256)) (hex2 (n % 256)) ∙ b ∙ omega (arith, a)

short_by_2 : (b : Bool) (n : ℕ) → nat_lt n 16 ≡ b → n < 256 → digits_value 16 0 (if b then hex_digit n ∷ [] else hex2 n) ≡ n
short_by_2 true n e l = let a = digit_back n (ltb-true n 16 e) in omega (arith, a)
short_by_2 false n e l = value_2 0 n l ∙ omega arith

short_by_4 : (b : Bool) (n : ℕ) → nat_lt n 256 ≡ b → n < 65536
    → digits_value 16 0 (if b then short2 n else (short2 (n / 256) ++ hex2 (n % 256))) ≡ n
short_by_4 true n e l = short_by_2 (nat_lt n 16) n refl (ltb-true n 256 e)
short_by_4 false n e l =
    let a = short_by_2 (nat_lt (n / 256) 16) (n / 256) refl (omega arith) in
    let b = value_2 (digits_value 16 0 (short2 (n / 256))) (n % 256) (omega arith) in
    value_append 0 (short2 (n / 256)) (hex2 (n % 256)) ∙ b ∙ omega (arith, a)

short_by_8 : (b : Bool) (n : ℕ) → nat_lt n 65536 ≡ b → n < 2 ^ 32
    → digits_value 16 0 (if b then short4 n else (short4 (n / 65536) ++ hex4 (n % 65536))) ≡ n
short_by_8 true n e l = short_by_4 (nat_lt n 256) n refl (ltb-true n 65536 e)
short_by_8 false n e l =
    let a = short_by_4 (nat_lt (n / 65536) 256) (n / 65536) refl (omega arith) in
    let b = value_4 (digits_value 16 0 (short4 (n / 65536))) (n % 65536) (omega arith) in
    value_append 0 (short4 (n / 65536)) (hex4 (n % 65536)) ∙ b ∙ omega (arith, a)

-- what a numeral says is the number
pub number_back : (n : ℕ) → n < 2 ^ 32 → number_value (codes "0x" ++ short8 n) ≡ n
number_back n l = short_by_8 (nat_lt n 65536) n refl l

-- ---- a numeral is one token

hex_word : (n : ℕ) → n < 16 → (is_word (hex_digit n) && is_ascii_hexdigit (hex_digit n)) ≡ true
unfolding is_word is_letter
hex_word = each_16 (λ n. (is_word (hex_digit n) && is_ascii_hexdigit (hex_digit n)) ≡ true) refl refl refl refl refl refl refl refl refl
    refl refl refl refl refl refl refl

abbrev pub is_hex_word : ℕ → Bool
is_hex_word b = is_word b && is_ascii_hexdigit b

all_append : (xs ys : List ℕ) → list_all is_hex_word xs ≡ true → list_all is_hex_word ys ≡ true → list_all is_hex_word (xs ++ ys) ≡ true
all_append [] ys p q = q
all_append (x ∷ xs) ys p q = let both = and_parts (is_hex_word x) (list_all is_hex_word xs) p in
    and_from (is_hex_word x) (list_all is_hex_word (xs ++ ys)) both.0 (all_append xs ys both.1 q)

words_2 : (n : ℕ) → n < 256 → list_all is_hex_word (hex2 n) ≡ true
words_2 n l = and_from _ _ (hex_word (n / 16) (omega arith)) (and_from _ _ (hex_word (n % 16) (omega arith)) refl)

words_4 : (n : ℕ) → n < 65536 → list_all is_hex_word (hex4 n) ≡ true
words_4 n l = all_append (hex2 (n / 256)) (hex2 (n % 256)) (words_2 (n / 256) (omega arith)) (words_2 (n % 256) (omega arith))

words_by_2 : (b : Bool) (n : ℕ) → nat_lt n 16 ≡ b → n < 256 → list_all is_hex_word (if b then hex_digit n ∷ [] else hex2 n) ≡ true
words_by_2 true n e l = and_from _ _ (hex_word n (ltb-true n 16 e)) refl
words_by_2 false n e l = words_2 n l

words_by_4 : (b : Bool) (n : ℕ) → nat_lt n 256 ≡ b → n < 65536
    → list_all is_hex_word (if b then short2 n else (short2 (n / 256) ++ hex2 (n % 256))) ≡ true
words_by_4 true n e l = words_by_2 (nat_lt n 16) n refl (ltb-true n 256 e)
words_by_4 false n e l = all_append (short2 (n / 256)) (hex2 (n % 256)) (words_by_2 (nat_lt (n / 256) 16) (n / 256) refl (omega arith))
    (words_2 (n % 256) (omega arith))

words_by_8 : (b : Bool) (n : ℕ) → nat_lt n 65536 ≡ b → n < 2 ^ 32
    → list_all is_hex_word (if b then short4 n else (short4 (n / 65536) ++ hex4 (n % 65536))) ≡ true
words_by_8 true n e l = words_by_4 (nat_lt n 256) n refl (ltb-true n 65536 e)
words_by_8 false n e l = all_append (short4 (n / 65536)) (hex4 (n % 65536))
    (words_by_4 (nat_lt (n / 65536) 256) (n / 65536) refl (omega arith)) (words_4 (n % 65536) (omega arith))

pub number_words : (n : ℕ) → n < 2 ^ 32 → list_all is_hex_word (short8 n) ≡ true
number_words n l = words_by_8 (nat_lt n 65536) n refl l

pub hex_8_words : (n : ℕ) → n < 2 ^ 32 → list_all is_hex_word (hex8 n) ≡ true
hex_8_words n l = all_append (hex4 (n / 65536)) (hex4 (n % 65536)) (words_4 (n / 65536) (omega arith)) (words_4 (n % 65536) (omega arith))
