-- Where a text is wrong, its scan stops.
use Rattle.std.proofs.Common.{◌≡◌, ℕ, ◌+◌, Bool, true, false, List, [], ◌∷◌, ◌++◌, length, refl, sym, ap, subst, ◌∙◌}
use Rattle.std.specs.Prelude.{◌&&◌, not, ◌==◌}
use Rattle.std.specs.List.{list_all}
use Rattle.std.proofs.lemmas.List.{length-append}
use Rattle.std.proofs.lemmas.Bool.{eqb-true, both_ways, not-true, and_parts}
use Rattle.asm_lex.specs.declared.machine.Digits.{Digits}
use Rattle.asm_lex.specs.declared.machine.Mode.{Mode}
use Rattle.asm_lex.specs.declared.machine.Mode.TheVariants as mode
use Rattle.asm_lex.specs.declared.machine.Next.TheVariants.{Goes, Stops}
use Rattle.asm_lex.specs.declared.fault.SourceCause.{SourceCause}
use Rattle.asm_lex.specs.declared.fault.SourceCause.TheVariants as cause
use Rattle.asm_lex.specs.Bytes.{is_source, is_word}
use Rattle.asm_lex.specs.Machine.{first_digit, next_digit, is_whole}
use Rattle.asm_lex.specs.Words.{line_after}
use Rattle.asm_lex.specs.Scans.{Scan, scan}
use Rattle.asm_lex.specs.Source.{is_inside_line, lines_after}
use Rattle.asm_lex.specs.Refusals.{is_unclosed, IsInString, IsWrong}
use Rattle.asm_lex.proofs.Again.{comment_mode, in_body, in_string_byte, inside_parts, inside_stays, class_digit, numeral_is, digits_after, no_digits, more_digits, string_mode, escape_line}

-- where a scan stops, no word more is found
abbrev pub Breaks : Mode → List ℕ → ℕ → ℕ → List ℕ → ℕ → SourceCause → Type 0
Breaks m seen at line bs l c = scan m seen at line bs ≡ record { words = []; ending = Stops l c }

newline_source : (b : ℕ) → is_source b ≡ false → (b == 10) ≡ false
unfolding is_source
newline_source b h = by_test (b == 10) refl
  where
    by_test : (t : Bool) → (b == 10) ≡ t → (b == 10) ≡ false
    by_test true e = let at_newline : is_source 10 ≡ false = subst (λ (x : ℕ). is_source x ≡ false) (eqb-true _ _ e) h in absurd cc
    by_test false e = e

-- ---- each way to stop

line_breaks : (bs rest : List ℕ) (next : ℕ) (seen : List ℕ) (at line : ℕ) → list_all is_inside_line bs ≡ true → is_source next ≡ false
    → Breaks mode.Line seen at line (bs ++ (next ∷ rest)) (lines_after line bs) cause.NotAscii
line_breaks [] rest next seen at line all h = rw (newline_source next h, h) refl
line_breaks (b ∷ bs) rest next seen at line all h =
    let two = and_parts (is_inside_line b) (list_all is_inside_line bs) all in
    rw ((inside_parts b two.0).1, (inside_parts b two.0).0) (line_breaks bs rest next (seen ++ b ∷ []) (at + 1) (line_after line b) two.1 h)

unsourced : (b k : ℕ) → is_source k ≡ true → is_source b ≡ false → (b == k) ≡ false
unsourced b k s h = by_test (b == k) refl
  where
    by_test : (t : Bool) → (b == k) ≡ t → (b == k) ≡ false
    by_test true e = let both : is_source k ≡ false = subst (λ (x : ℕ). is_source x ≡ false) (eqb-true _ _ e) h in absurd cc
    by_test false e = e

source_star : is_source 42 ≡ true
unfolding is_source
source_star = refl

source_slash : is_source 47 ≡ true
unfolding is_source
source_slash = refl

source_quote : is_source 34 ≡ true
unfolding is_source
source_quote = refl

source_backslash : is_source 92 ≡ true
unfolding is_source
source_backslash = refl

-- a byte of a comment that goes on
pub unclosed_parts : (star : Bool) (b : ℕ) (bs : List ℕ) → is_unclosed star (b ∷ bs) ≡ true → (is_source b ≡ true)
    × ((star && (b == 47)) ≡ false) × (is_unclosed (b == 42) bs ≡ true)
unclosed_parts star b bs h =
    let outer = and_parts (is_source b && not (star && (b == 47))) (is_unclosed (b == 42) bs) h in
    let inner = and_parts (is_source b) (not (star && (b == 47))) outer.0 in
    (inner.0, not-true (star && (b == 47)) inner.1, outer.1)

comment_breaks : (bs rest : List ℕ) (next : ℕ) (star : Bool) (seen : List ℕ) (at line l : ℕ) → is_unclosed star bs ≡ true
    → is_source next ≡ false → Breaks (comment_mode star l) seen at line (bs ++ (next ∷ rest)) (lines_after line bs) cause.NotAscii
comment_breaks [] rest next true seen at line l u h = rw (unsourced next 47 source_slash h, unsourced next 42 source_star h, h) refl
comment_breaks [] rest next false seen at line l u h = rw (unsourced next 42 source_star h, h) refl
comment_breaks (b ∷ bs) rest next star seen at line l u h =
    let p = unclosed_parts star b bs u in
    in_body star b (bs ++ (next ∷ rest)) seen at line l p.0 p.1 ∙ comment_breaks bs rest next (b == 42) (seen ++ b ∷ []) (at + 1)
    (line_after line b) l p.2 h

-- a comment that doesn't end has no words
pub comment_empty : (bs : List ℕ) (star : Bool) (seen : List ℕ) (at line l : ℕ) → is_unclosed star bs ≡ true
    → (scan (comment_mode star l) seen at line bs).words ≡ []
comment_empty [] true seen at line l u = refl
comment_empty [] false seen at line l u = refl
comment_empty (b ∷ bs) star seen at line l u =
    let p = unclosed_parts star b bs u in
    ap (λ (x : Scan). x.words) (in_body star b bs seen at line l p.0 p.1) ∙ comment_empty bs (b == 42) (seen ++ b ∷ []) (at + 1)
    (line_after line b) l p.2

whole_before : (d : Digits) → is_whole (digits_after d []) ≡ false → is_whole d ≡ false
whole_before d h = by_test (is_whole d) refl
  where
    by_test : (t : Bool) → is_whole d ≡ t → is_whole d ≡ false
    by_test true e = absurd (both_ways _ h (no_digits d e))
    by_test false e = e

whole_behind : (d : Digits) (b : ℕ) (bs : List ℕ) → is_whole (digits_after d (b ∷ bs)) ≡ false
    → is_whole (digits_after (next_digit d b) bs) ≡ false
whole_behind d b bs h = by_test (is_whole (digits_after (next_digit d b) bs)) refl
  where
    by_test : (t : Bool) → is_whole (digits_after (next_digit d b) bs) ≡ t → is_whole (digits_after (next_digit d b) bs) ≡ false
    by_test true e = absurd (both_ways _ h (more_digits d b bs e))
    by_test false e = e

number_breaks : (bs rest : List ℕ) (next : ℕ) (d : Digits) (s : ℕ) (seen : List ℕ) (at line : ℕ) → list_all is_word bs ≡ true
    → is_word next ≡ false → is_whole (digits_after d bs) ≡ false
    → Breaks (mode.Number s d) seen at line (bs ++ (next ∷ rest)) (lines_after line bs) cause.BadNumber
number_breaks [] rest next d s seen at line all h whole = rw (h, whole_before d whole) refl
number_breaks (b ∷ bs) rest next d s seen at line all h whole =
    let p = and_parts (is_word b) (list_all is_word bs) all in
    rw p.0 (number_breaks bs rest next (next_digit d b) s (seen ++ b ∷ []) (at + 1) (line_after line b) p.1 h (whole_behind d b bs whole))

-- what a string's bytes lead to, whatever has been seen
string_runs : (bs rest : List ℕ) (escaped last : Bool) (s : ℕ) (seen : List ℕ) (at line : ℕ) (x : Scan) → IsInString escaped bs last
    → ((seen2 : List ℕ) (at2 : ℕ) → scan (string_mode last s) seen2 at2 (lines_after line bs) rest ≡ x)
    → scan (string_mode escaped s) seen at line (bs ++ rest) ≡ x
string_runs [] rest escaped last s seen at line x h f = ap (λ (t : Bool). scan (string_mode t s) seen at line rest) h ∙ f seen at
string_runs (b ∷ bs) rest true last s seen at line x h f =
    rw (escape_line b h.0, h.0) (string_runs bs rest false last s (seen ++ b ∷ []) (at + 1) (line_after line b) x h.1 f)
string_runs (b ∷ bs) rest false last s seen at line x h f =
    in_string_byte b (bs ++ rest) seen s at line h.0 h.1
    ∙ (ap (λ (l : ℕ). scan (string_mode (b == 92) s) (seen ++ b ∷ []) (at + 1) l (bs ++ rest)) (sym (inside_stays line b h.0)) ∙ string_runs
    bs rest (b == 92) last s (seen ++ b ∷ []) (at + 1) (line_after line b) x h.2 f)

ten_no_quote : (b : ℕ) → (b == 10) ≡ true → (b == 34) ≡ false
ten_no_quote b h = rw (eqb-true _ _ h) refl

-- Where a byte is wrong, the scan has no word more, and stops there.
pub wrong_breaks : (piece rest : List ℕ) (next : ℕ) (c : SourceCause) → IsWrong piece next c → (seen : List ℕ) (at line : ℕ)
    → Breaks mode.Between seen at line (piece ++ (next ∷ rest)) (lines_after line piece) c
wrong_breaks piece rest next c (IsWrong.foreign h) seen at line = rw h refl
wrong_breaks piece rest next c (IsWrong.other h) seen at line = rw h refl
wrong_breaks piece rest next c (IsWrong.slash {b} h e) seen at line = rw (h, e) refl
wrong_breaks piece rest next c (IsWrong.in_line {b} {bs} h all s) seen at line =
    rw h (line_breaks bs rest next (seen ++ b ∷ []) (at + 1) (line_after line b) all s)
wrong_breaks piece rest next c (IsWrong.in_comment {b} {c = d} {bs} h e u s) seen at line =
    rw (h, e) (comment_breaks bs rest next false ((seen ++ b ∷ []) ++ d ∷ []) (at + 1 + 1) (line_after (line_after line b) d)
    (line_after line b) u s)
wrong_breaks piece rest next c (IsWrong.number {b} {bs} h all w n) seen at line =
    rw h (number_breaks bs rest next (first_digit b) at (seen ++ b ∷ []) (at + 1) (line_after line b) all w
    (numeral_is b bs (class_digit b h) ∙ n))
wrong_breaks piece rest next c (IsWrong.character {b} h e) seen at line = rw (h, e) refl
wrong_breaks piece rest next c (IsWrong.in_string {b} {bs} h inside s) seen at line =
    rw h (string_runs bs (next ∷ rest) false false at (seen ++ b ∷ []) (at + 1) (line_after line b) _ inside
    (λ seen2 at2. rw (unsourced next 34 source_quote s, newline_source next s, unsourced next 92 source_backslash s, s) refl))
wrong_breaks piece rest next c (IsWrong.open_string {b} {bs} false h inside e) seen at line =
    rw h (string_runs bs (next ∷ rest) false false at (seen ++ b ∷ []) (at + 1) (line_after line b) _ inside
    (λ seen2 at2. rw (ten_no_quote next e, e) refl))
wrong_breaks piece rest next c (IsWrong.open_string {b} {bs} true h inside e) seen at line =
    rw h (string_runs bs (next ∷ rest) false true at (seen ++ b ∷ []) (at + 1) (line_after line b) _ inside (λ seen2 at2. rw e refl))
wrong_breaks piece rest next c (IsWrong.escape {b} {bs} h inside n e) seen at line =
    rw h (string_runs bs (next ∷ rest) false true at (seen ++ b ∷ []) (at + 1) (line_after line b) _ inside (λ seen2 at2. rw (n, e) refl))

-- what is wrong at a byte is no comment
pub wrong_cause : {piece : List ℕ} {next : ℕ} {c : SourceCause} → IsWrong piece next c → c ≡ cause.OpenComment → ⊥
wrong_cause (IsWrong.foreign h) e = absurd cc
wrong_cause (IsWrong.other h) e = absurd cc
wrong_cause (IsWrong.slash h f) e = absurd cc
wrong_cause (IsWrong.in_line h f g) e = absurd cc
wrong_cause (IsWrong.in_comment h f g k) e = absurd cc
wrong_cause (IsWrong.number h f g k) e = absurd cc
wrong_cause (IsWrong.character h f) e = absurd cc
wrong_cause (IsWrong.in_string h f g) e = absurd cc
wrong_cause (IsWrong.open_string t h f g) e = absurd cc
wrong_cause (IsWrong.escape h f g k) e = absurd cc

-- a comment that doesn't end stays open
pub comment_leaves : (bs : List ℕ) (star : Bool) (seen : List ℕ) (at line l : ℕ) → is_unclosed star bs ≡ true → (t : Bool)
    × ((scan (comment_mode star l) seen at line bs).ending ≡ Goes (comment_mode t l))
comment_leaves [] true seen at line l u = (true, refl)
comment_leaves [] false seen at line l u = (false, refl)
comment_leaves (b ∷ bs) star seen at line l u =
    let p = unclosed_parts star b bs u in
    let g = comment_leaves bs (b == 42) (seen ++ b ∷ []) (at + 1) (line_after line b) l p.2 in
    (g.0, ap (λ (x : Scan). x.ending) (in_body star b bs seen at line l p.0 p.1) ∙ g.1)

pub seen_more : (seen piece : List ℕ) (at : ℕ) → length seen ≡ at → length (seen ++ piece) ≡ at + length piece
seen_more seen piece at e = length-append seen piece ∙ ap (λ (n : ℕ). n + length piece) e
