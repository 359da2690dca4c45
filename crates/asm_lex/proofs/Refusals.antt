-- What a scan stops at is what is wrong with the text.
use Rattle.std.proofs.Common.{◌≡◌, ◌⊎◌, ℕ, ◌+◌, Bool, true, false, List, [], ◌∷◌, ◌++◌, Result, Ok, Err, refl, sym, ap, subst, ◌∙◌, inl, inr}
use Rattle.std.specs.Prelude.{◌&&◌, ◌==◌}
use Rattle.std.specs.List.{list_all}
use Rattle.std.specs.Global.{Vec}
use Rattle.asm_lex.specs.declared.bytes.Class.{Class}
use Rattle.asm_lex.specs.declared.bytes.Class.TheVariants as class
use Rattle.asm_lex.specs.declared.token.Token.{Token}
use Rattle.asm_lex.specs.declared.token.TokenKind.TheVariants as kind
use Rattle.asm_lex.specs.declared.machine.Digits.{Digits}
use Rattle.asm_lex.specs.declared.machine.Mode.{Mode}
use Rattle.asm_lex.specs.declared.machine.Mode.TheVariants as mode
use Rattle.asm_lex.specs.declared.machine.Next.{Next}
use Rattle.asm_lex.specs.declared.machine.Next.TheVariants.{Goes, Stops}
use Rattle.asm_lex.specs.declared.fault.SourceCause.{SourceCause}
use Rattle.asm_lex.specs.declared.fault.SourceCause.TheVariants as cause
use Rattle.asm_lex.specs.declared.fault.SourceFault.{SourceFault}
use Rattle.asm_lex.specs.declared.fault.SourceFault.TheVariants as fault
use Rattle.asm_lex.specs.Bytes.{class_of, is_source, is_word, is_escape}
use Rattle.asm_lex.specs.Machine.{stepped, first_digit, next_digit, is_whole}
use Rattle.asm_lex.specs.Words.{line_after}
use Rattle.asm_lex.specs.Tokens.{token_scan, LexesTo}
use Rattle.asm_lex.specs.Source.{is_inside_line, IsGap, IsToken, lines_after}
use Rattle.asm_lex.specs.Refusals.{is_unclosed, IsInString, IsWrong}
use Rattle.asm_lex.specs.Refused.{Wrong, RefusedFor}
use Rattle.asm_lex.proofs.Again.{class_newline, class_line, more_digits, no_digits, fewer_digits, not_digits, class_digit, digits_after, numeral_is}
use Rattle.asm_lex.proofs.FaultLines.{ends, leaves, byte_leaves}
use Rattle.asm_lex.proofs.Found.{Closes, body_more, star_source, string_more, escape_more, backslash_source}

-- a scan's end that is refused so
abbrev Ends : Next → ℕ → SourceCause → Type 0
Ends n l c = (n ≡ Stops l c) ⊎ ((n ≡ Goes (mode.Block l)) × (c ≡ cause.OpenComment))

-- the cause of a byte in a string, or after a backslash in it
abbrev InText : Bool → ℕ → SourceCause → Type 0
InText false next c = (((next == 10) ≡ true) × (c ≡ cause.OpenString)) ⊎ ((is_source next ≡ false) × (c ≡ cause.NotAscii))
InText true next c =
    (((next == 10) ≡ true) × (c ≡ cause.OpenString)) ⊎ (((next == 10) ≡ false) × (is_escape next ≡ false) × (c ≡ cause.BadEscape))

abbrev InString : Bool → List ℕ → ℕ → SourceCause → Type 0
InString escaped piece next c = (last : Bool) × IsInString escaped piece last × InText last next c

-- bytes after what is open, and the next one, which has this cause
abbrev Breaks : Mode → List ℕ → ℕ → SourceCause → Type 0
Breaks mode.Between piece next c = (piece ≡ []) × IsWrong [] next c
Breaks mode.Slash [] next c = ((next == 42) ≡ false) × (c ≡ cause.BadCharacter)
Breaks mode.Slash (s ∷ bs) next c = ((s == 42) ≡ true) × (is_unclosed false bs ≡ true) × (is_source next ≡ false) × (c ≡ cause.NotAscii)
Breaks mode.Line piece next c = (list_all is_inside_line piece ≡ true) × (is_source next ≡ false) × (c ≡ cause.NotAscii)
Breaks (mode.Block k) piece next c = (is_unclosed false piece ≡ true) × (is_source next ≡ false) × (c ≡ cause.NotAscii)
Breaks (mode.Star k) piece next c = (is_unclosed true piece ≡ true) × (is_source next ≡ false) × (c ≡ cause.NotAscii)
Breaks (mode.Word s) piece next c = ⊥
Breaks (mode.Number s d) piece next c =
    (list_all is_word piece ≡ true) × (is_word next ≡ false) × (is_whole (digits_after d piece) ≡ false) × (c ≡ cause.BadNumber)
Breaks (mode.Quote s) [] next c = (is_inside_line next ≡ false) × (c ≡ cause.BadNumber)
Breaks (mode.Quote s) (b ∷ bs) next c = ⊥
Breaks (mode.Text s) piece next c = InString false piece next c
Breaks (mode.Escape s) piece next c = InString true piece next c

-- a comment that doesn't end, and the line where it began
abbrev Unclosed : Mode → ℕ → List ℕ → ℕ → Type 0
Unclosed mode.Slash line [] l = ⊥
Unclosed mode.Slash line (s ∷ bs) l = ((s == 42) ≡ true) × (is_unclosed false bs ≡ true) × (l ≡ line)
Unclosed (mode.Block k) line bs l = (is_unclosed false bs ≡ true) × (l ≡ k)
Unclosed (mode.Star k) line bs l = (is_unclosed true bs ≡ true) × (l ≡ k)
Unclosed _ line bs l = ⊥

data Fails (m : Mode) (line : ℕ) (text : List ℕ) (l : ℕ) (c : SourceCause) : Type 0 where
  later : (piece rest : List ℕ) → text ≡ piece ++ rest → Closes m piece rest → Wrong (lines_after line piece) rest l c
      → Fails m line text l c
  breaks : (piece rest : List ℕ) (next : ℕ) → text ≡ piece ++ next ∷ rest → Breaks m piece next c → l ≡ lines_after line piece
      → Fails m line text l c
  unclosed : Unclosed m line text l → c ≡ cause.OpenComment → Fails m line text l c

abbrev Ih : List ℕ → Type 0
Ih bs = (m : Mode) (at line l : ℕ) (c : SourceCause) → Ends (ends m at line bs) l c → Fails m line bs l c

-- the byte goes on with what is open
goes_on : (m n : Mode) (b : ℕ) (bs : List ℕ) (line l : ℕ) (c : SourceCause)
    → ((piece rest : List ℕ) → Closes n piece rest → Closes m (b ∷ piece) rest)
    → ((piece : List ℕ) (next : ℕ) → Breaks n piece next c → Breaks m (b ∷ piece) next c)
    → (Unclosed n (line_after line b) bs l → Unclosed m line (b ∷ bs) l)
    → Fails n (line_after line b) bs l c → Fails m line (b ∷ bs) l c
goes_on m n b bs line l c closes broken left (Fails.later piece rest e k w) =
    Fails.later (b ∷ piece) rest (ap (λ (x : List ℕ). b ∷ x) e) (closes piece rest k) w
goes_on m n b bs line l c closes broken left (Fails.breaks piece rest next e k w) =
    Fails.breaks (b ∷ piece) rest next (ap (λ (x : List ℕ). b ∷ x) e) (broken piece next k) w
goes_on m n b bs line l c closes broken left (Fails.unclosed u e) = Fails.unclosed (left u) e

-- a stop at the byte
stop_parts : (line l : ℕ) (c d : SourceCause) → Ends (Stops line d) l c → (l ≡ line) × (c ≡ d)
stop_parts line l c d (inl e) = (cc, cc)
stop_parts line l c d (inr e) = absurd cc

-- the byte's end is that of what it goes on with
step_ends : (m n : Mode) (at line b : ℕ) (bs : List ℕ) (l : ℕ) (c : SourceCause) → (stepped m at line b).next ≡ Goes n
    → Ends (ends m at line (b ∷ bs)) l c → Ends (ends n (at + 1) (line_after line b) bs) l c
step_ends m n at line b bs l c e h =
    subst (λ (x : Next). Ends x l c) (byte_leaves (stepped m at line b).next at line b bs ∙ ap (λ (x : Next). leaves x at line b bs) e) h

step_stops : (m : Mode) (at line b : ℕ) (bs : List ℕ) (l : ℕ) (c d : SourceCause) → (stepped m at line b).next ≡ Stops line d
    → Ends (ends m at line (b ∷ bs)) l c → (l ≡ line) × (c ≡ d)
step_stops m at line b bs l c d e h =
    stop_parts line l c d (subst (λ (x : Next). Ends x l c)
    (byte_leaves (stepped m at line b).next at line b bs ∙ ap (λ (x : Next). leaves x at line b bs) e) h)

same_ends : (m n : Mode) (at line b : ℕ) (bs : List ℕ) (l : ℕ) (c : SourceCause) → (stepped m at line b).next ≡ (stepped n at line b).next
    → Ends (ends m at line (b ∷ bs)) l c → Ends (ends n at line (b ∷ bs)) l c
same_ends m n at line b bs l c e h =
    subst (λ (x : Next). Ends x l c)
    (byte_leaves (stepped m at line b).next at line b bs
    ∙ (ap (λ (x : Next). leaves x at line b bs) e ∙ sym (byte_leaves (stepped n at line b).next at line b bs))) h

at_between : (bs : List ℕ) (ih : Ih bs) (at line l : ℕ) (c : SourceCause) → Ends (ends mode.Between at line bs) l c → Wrong line bs l c
at_between bs ih at line l c h = by_fails (ih mode.Between at line l c h)
  where
    by_fails : Fails mode.Between line bs l c → Wrong line bs l c
    by_fails (Fails.later piece rest e k w) = rw (e, k) (subst (λ (x : List ℕ). Wrong (lines_after line x) rest l c) k w)
    by_fails (Fails.breaks piece rest next e k w) =
        Wrong.here [] rest next (e ∙ ap (λ (x : List ℕ). x ++ next ∷ rest) k.0) k.1 (w ∙ ap (lines_after line) k.0)
    by_fails (Fails.unclosed u e) = absurd u

text_wrong : (b : ℕ) (piece : List ℕ) (next : ℕ) (c : SourceCause) (last : Bool) → class_of b ≡ class.DoubleQuote
    → IsInString false piece last → InText last next c → IsWrong (b ∷ piece) next c
text_wrong b piece next c false k s (inl (e, f)) = rw f (IsWrong.open_string false k s e)
text_wrong b piece next c false k s (inr (e, f)) = rw f (IsWrong.in_string k s e)
text_wrong b piece next c true k s (inl (e, f)) = rw f (IsWrong.open_string true k s e)
text_wrong b piece next c true k s (inr (e, g, f)) = rw f (IsWrong.escape k s e g)

between : (b : ℕ) (bs : List ℕ) (ih : Ih bs) (at line l : ℕ) (c : SourceCause) → (k : Class) → class_of b ≡ k
    → Ends (ends mode.Between at line (b ∷ bs)) l c → Wrong line (b ∷ bs) l c
between b bs ih at line l c class.Blank k h =
    let h2 = step_ends mode.Between mode.Between at line b bs l c (rw k refl) h in
    Wrong.gap (b ∷ []) bs refl (IsGap.blank k) (at_between bs ih (at + 1) (line_after line b) l c h2)
between b bs ih at line l c class.Ends k h =
    let h2 = step_ends mode.Between mode.Between at line b bs l c (rw k refl) h in
    Wrong.token kind.End (b ∷ []) bs refl (IsToken.end k) (at_between bs ih (at + 1) (line_after line b) l c h2)
between b bs ih at line l c class.Mark k h =
    let h2 = step_ends mode.Between mode.Between at line b bs l c (rw k refl) h in
    Wrong.token (kind.Mark b) (b ∷ []) bs refl (IsToken.mark k) (at_between bs ih (at + 1) (line_after line b) l c h2)
between b bs ih at line l c class.Hash k h =
    let h2 = step_ends mode.Between mode.Line at line b bs l c (rw k refl) h in
    by_fails (ih mode.Line (at + 1) (line_after line b) l c h2)
  where
    by_fails : Fails mode.Line (line_after line b) bs l c → Wrong line (b ∷ bs) l c
    by_fails (Fails.later piece rest e k2 w) = Wrong.gap (b ∷ piece) rest (ap (λ (x : List ℕ). b ∷ x) e) (IsGap.line_comment k k2.0 k2.1) w
    by_fails (Fails.breaks piece rest next e (q, r, f) w) =
        Wrong.here (b ∷ piece) rest next (ap (λ (x : List ℕ). b ∷ x) e) (rw f (IsWrong.in_line k q r)) w
    by_fails (Fails.unclosed u e) = absurd u
between b bs ih at line l c class.Slash k h =
    let h2 = step_ends mode.Between mode.Slash at line b bs l c (rw k refl) h in
    by_fails bs (ih mode.Slash (at + 1) (line_after line b) l c h2)
  where
    by_fails : (bs : List ℕ) → Fails mode.Slash (line_after line b) bs l c → Wrong line (b ∷ bs) l c
    by_fails bs (Fails.later [] rest e k2 w) = absurd k2
    by_fails bs (Fails.later (d ∷ ds) rest e (q, r) w) =
        Wrong.gap (b ∷ d ∷ ds) rest (ap (λ (x : List ℕ). b ∷ x) e) (IsGap.block_comment k q r) w
    by_fails bs (Fails.breaks [] rest next e (q, f) w) =
        Wrong.here (b ∷ []) rest next (ap (λ (x : List ℕ). b ∷ x) e) (rw f (IsWrong.slash k q)) w
    by_fails bs (Fails.breaks (d ∷ ds) rest next e (q, r, t, f) w) =
        Wrong.here (b ∷ d ∷ ds) rest next (ap (λ (x : List ℕ). b ∷ x) e) (rw f (IsWrong.in_comment k q r t)) w
    by_fails [] (Fails.unclosed u e) = absurd u
    by_fails (d ∷ ds) (Fails.unclosed (q, r, f) e) =
        let stays = class_line b line class.Slash k (λ x. cc) in
        rw (e, f, stays) (Wrong.open_comment k q r)
between b bs ih at line l c class.Letter k h =
    let h2 = step_ends mode.Between (mode.Word at) at line b bs l c (rw k refl) h in
    by_fails (ih (mode.Word at) (at + 1) (line_after line b) l c h2)
  where
    by_fails : Fails (mode.Word at) (line_after line b) bs l c → Wrong line (b ∷ bs) l c
    by_fails (Fails.later piece rest e k2 w) =
        Wrong.token kind.Name (b ∷ piece) rest (ap (λ (x : List ℕ). b ∷ x) e) (IsToken.name k k2.0 k2.1) w
    by_fails (Fails.breaks piece rest next e k2 w) = absurd k2
    by_fails (Fails.unclosed u e) = absurd u
between b bs ih at line l c class.Digit k h =
    let h2 = step_ends mode.Between (mode.Number at (first_digit b)) at line b bs l c (rw k refl) h in
    by_fails (ih (mode.Number at (first_digit b)) (at + 1) (line_after line b) l c h2)
  where
    by_fails : Fails (mode.Number at (first_digit b)) (line_after line b) bs l c → Wrong line (b ∷ bs) l c
    by_fails (Fails.later piece rest e (q, r, t) w) = Wrong.token kind.Number (b ∷ piece) rest (ap (λ (x : List ℕ). b ∷ x) e)
        (IsToken.number k q (sym (numeral_is b piece (class_digit b k)) ∙ r) t) w
    by_fails (Fails.breaks piece rest next e (q, r, t, f) w) = Wrong.here (b ∷ piece) rest next (ap (λ (x : List ℕ). b ∷ x) e)
        (rw f (IsWrong.number k q r (sym (numeral_is b piece (class_digit b k)) ∙ t))) w
    by_fails (Fails.unclosed u e) = absurd u
between b bs ih at line l c class.SingleQuote k h =
    let h2 = step_ends mode.Between (mode.Quote at) at line b bs l c (rw k refl) h in
    by_fails (ih (mode.Quote at) (at + 1) (line_after line b) l c h2)
  where
    by_fails : Fails (mode.Quote at) (line_after line b) bs l c → Wrong line (b ∷ bs) l c
    by_fails (Fails.later [] rest e k2 w) = absurd k2
    by_fails (Fails.later (d ∷ []) rest e k2 w) =
        Wrong.token kind.Number (b ∷ d ∷ []) rest (ap (λ (x : List ℕ). b ∷ x) e) (IsToken.character k k2) w
    by_fails (Fails.later (d ∷ f ∷ ds) rest e k2 w) = absurd k2
    by_fails (Fails.breaks [] rest next e (q, f) w) =
        Wrong.here (b ∷ []) rest next (ap (λ (x : List ℕ). b ∷ x) e) (rw f (IsWrong.character k q)) w
    by_fails (Fails.breaks (d ∷ ds) rest next e k2 w) = absurd k2
    by_fails (Fails.unclosed u e) = absurd u
between b bs ih at line l c class.DoubleQuote k h =
    let h2 = step_ends mode.Between (mode.Text at) at line b bs l c (rw k refl) h in
    by_fails (ih (mode.Text at) (at + 1) (line_after line b) l c h2)
  where
    by_fails : Fails (mode.Text at) (line_after line b) bs l c → Wrong line (b ∷ bs) l c
    by_fails (Fails.later piece rest e k2 w) = Wrong.token kind.Text (b ∷ piece) rest (ap (λ (x : List ℕ). b ∷ x) e) (IsToken.string k k2) w
    by_fails (Fails.breaks piece rest next e (last, q, r) w) =
        Wrong.here (b ∷ piece) rest next (ap (λ (x : List ℕ). b ∷ x) e) (text_wrong b piece next c last k q r) w
    by_fails (Fails.unclosed u e) = absurd u
between b bs ih at line l c class.Other k h =
    let p = step_stops mode.Between at line b bs l c cause.BadCharacter (rw k refl) h in
    Wrong.here [] bs b refl (rw p.1 (IsWrong.other k)) p.0
between b bs ih at line l c class.Foreign k h =
    let p = step_stops mode.Between at line b bs l c cause.NotAscii (rw k refl) h in
    Wrong.here [] bs b refl (rw p.1 (IsWrong.foreign k)) p.0

-- ---- the other modes

in_word : (b : ℕ) (bs : List ℕ) (ih : Ih bs) (s at line l : ℕ) (c : SourceCause) → (t : Bool) → is_word b ≡ t
    → Ends (ends (mode.Word s) at line (b ∷ bs)) l c → Fails (mode.Word s) line (b ∷ bs) l c
in_word b bs ih s at line l c true t h =
    let h2 = step_ends (mode.Word s) (mode.Word s) at line b bs l c (rw t refl) h in
    goes_on (mode.Word s) (mode.Word s) b bs line l c (λ piece rest k. (rw (t, k.0) refl, k.1)) (λ piece next k. k) (λ u. u)
    (ih (mode.Word s) (at + 1) (line_after line b) l c h2)
in_word b bs ih s at line l c false t h =
    let h2 = same_ends (mode.Word s) mode.Between at line b bs l c (rw t refl) h in
    Fails.later [] (b ∷ bs) refl (refl, rw t refl) (between b bs ih at line l c (class_of b) refl h2)

in_number : (b : ℕ) (bs : List ℕ) (ih : Ih bs) (s : ℕ) (d : Digits) (at line l : ℕ) (c : SourceCause) → (t : Bool) → is_word b ≡ t
    → (w : Bool) → is_whole d ≡ w
    → Ends (ends (mode.Number s d) at line (b ∷ bs)) l c → Fails (mode.Number s d) line (b ∷ bs) l c
in_number b bs ih s d at line l c true t w x h =
    let h2 = step_ends (mode.Number s d) (mode.Number s (next_digit d b)) at line b bs l c (rw t refl) h in
    goes_on (mode.Number s d) (mode.Number s (next_digit d b)) b bs line l c
    (λ piece rest k. (rw (t, k.0) refl, more_digits d b piece k.1, k.2))
    (λ piece next k. (rw (t, k.0) refl, k.1, fewer_digits d b piece k.2, k.3)) (λ u. u)
    (ih (mode.Number s (next_digit d b)) (at + 1) (line_after line b) l c h2)
in_number b bs ih s d at line l c false t true x h =
    let h2 = same_ends (mode.Number s d) mode.Between at line b bs l c (rw (t, x) refl) h in
    Fails.later [] (b ∷ bs) refl (refl, no_digits d x, rw t refl) (between b bs ih at line l c (class_of b) refl h2)
in_number b bs ih s d at line l c false t false x h =
    let p = step_stops (mode.Number s d) at line b bs l c cause.BadNumber (rw (t, x) refl) h in
    Fails.breaks [] bs b refl (refl, t, not_digits d x, p.1) p.0

at_slash : (b : ℕ) (bs : List ℕ) (ih : Ih bs) (at line l : ℕ) (c : SourceCause) → (t : Bool) → (b == 42) ≡ t
    → Ends (ends mode.Slash at line (b ∷ bs)) l c → Fails mode.Slash line (b ∷ bs) l c
at_slash b bs ih at line l c true t h =
    let h2 = step_ends mode.Slash (mode.Block line) at line b bs l c (rw t refl) h in
    goes_on mode.Slash (mode.Block line) b bs line l c (λ piece rest k. (t, k)) (λ piece next k. (t, k.0, k.1, k.2)) (λ u. (t, u.0, u.1))
    (ih (mode.Block line) (at + 1) (line_after line b) l c h2)
at_slash b bs ih at line l c false t h =
    let p = step_stops mode.Slash at line b bs l c cause.BadCharacter (rw t refl) h in
    Fails.breaks [] bs b refl (t, p.1) p.0

in_line : (b : ℕ) (bs : List ℕ) (ih : Ih bs) (at line l : ℕ) (c : SourceCause) → (t : Bool) → (b == 10) ≡ t → (r : Bool) → is_source b ≡ r
    → Ends (ends mode.Line at line (b ∷ bs)) l c → Fails mode.Line line (b ∷ bs) l c
in_line b bs ih at line l c true t r q h =
    let h2 = same_ends mode.Line mode.Between at line b bs l c (rw (class_newline b t, t) refl) h in
    Fails.later [] (b ∷ bs) refl (refl, t) (between b bs ih at line l c (class_of b) refl h2)
in_line b bs ih at line l c false t true q h =
    let h2 = step_ends mode.Line mode.Line at line b bs l c (rw (t, q) refl) h in
    goes_on mode.Line mode.Line b bs line l c (λ piece rest k. (rw (q, t, k.0) refl, k.1)) (λ piece next k. (rw (q, t, k.0) refl, k.1, k.2))
    (λ u. u) (ih mode.Line (at + 1) (line_after line b) l c h2)
in_line b bs ih at line l c false t false q h =
    let p = step_stops mode.Line at line b bs l c cause.NotAscii (rw (t, q) refl) h in
    Fails.breaks [] bs b refl (refl, q, p.1) p.0

unclosed_more : (star : Bool) (b : ℕ) (piece : List ℕ) → is_source b ≡ true → (star && (b == 47)) ≡ false
    → is_unclosed (b == 42) piece ≡ true → is_unclosed star (b ∷ piece) ≡ true
unclosed_more star b piece s n u = rw (s, n, u) refl

in_block : (b : ℕ) (bs : List ℕ) (ih : Ih bs) (k at line l : ℕ) (c : SourceCause) → (t : Bool) → (b == 42) ≡ t
    → (r : Bool) → is_source b ≡ r
    → Ends (ends (mode.Block k) at line (b ∷ bs)) l c → Fails (mode.Block k) line (b ∷ bs) l c
in_block b bs ih k at line l c true t r q h =
    let h2 = step_ends (mode.Block k) (mode.Star k) at line b bs l c (rw t refl) h in
    let s = star_source b t in
    goes_on (mode.Block k) (mode.Star k) b bs line l c (λ piece rest x. body_more false b piece s refl (rw t x))
    (λ piece next x. (unclosed_more false b piece s refl (rw t x.0), x.1, x.2)) (λ u. (unclosed_more false b bs s refl (rw t u.0), u.1))
    (ih (mode.Star k) (at + 1) (line_after line b) l c h2)
in_block b bs ih k at line l c false t true q h =
    let h2 = step_ends (mode.Block k) (mode.Block k) at line b bs l c (rw (t, q) refl) h in
    goes_on (mode.Block k) (mode.Block k) b bs line l c (λ piece rest x. body_more false b piece q refl (rw t x))
    (λ piece next x. (unclosed_more false b piece q refl (rw t x.0), x.1, x.2)) (λ u. (unclosed_more false b bs q refl (rw t u.0), u.1))
    (ih (mode.Block k) (at + 1) (line_after line b) l c h2)
in_block b bs ih k at line l c false t false q h =
    let p = step_stops (mode.Block k) at line b bs l c cause.NotAscii (rw (t, q) refl) h in
    Fails.breaks [] bs b refl (refl, q, p.1) p.0

in_star : (b : ℕ) (bs : List ℕ) (ih : Ih bs) (k at line l : ℕ) (c : SourceCause) → (u : Bool) → (b == 47) ≡ u → (t : Bool) → (b == 42) ≡ t
    → (r : Bool) → is_source b ≡ r
    → Ends (ends (mode.Star k) at line (b ∷ bs)) l c → Fails (mode.Star k) line (b ∷ bs) l c
in_star b bs ih k at line l c true u t x r q h =
    let h2 = step_ends (mode.Star k) mode.Between at line b bs l c (rw u refl) h in
    Fails.later (b ∷ []) bs refl (refl, u) (at_between bs ih (at + 1) (line_after line b) l c h2)
in_star b bs ih k at line l c false u true t r q h =
    let h2 = step_ends (mode.Star k) (mode.Star k) at line b bs l c (rw (u, t) refl) h in
    let s = star_source b t in
    goes_on (mode.Star k) (mode.Star k) b bs line l c (λ piece rest x. body_more true b piece s (rw u refl) (rw t x))
    (λ piece next x. (unclosed_more true b piece s (rw u refl) (rw t x.0), x.1, x.2))
    (λ y. (unclosed_more true b bs s (rw u refl) (rw t y.0), y.1))
    (ih (mode.Star k) (at + 1) (line_after line b) l c h2)
in_star b bs ih k at line l c false u false t true q h =
    let h2 = step_ends (mode.Star k) (mode.Block k) at line b bs l c (rw (u, t, q) refl) h in
    goes_on (mode.Star k) (mode.Block k) b bs line l c (λ piece rest x. body_more true b piece q (rw u refl) (rw t x))
    (λ piece next x. (unclosed_more true b piece q (rw u refl) (rw t x.0), x.1, x.2))
    (λ y. (unclosed_more true b bs q (rw u refl) (rw t y.0), y.1))
    (ih (mode.Block k) (at + 1) (line_after line b) l c h2)
in_star b bs ih k at line l c false u false t false q h =
    let p = step_stops (mode.Star k) at line b bs l c cause.NotAscii (rw (u, t, q) refl) h in
    Fails.breaks [] bs b refl (refl, q, p.1) p.0

in_quote : (b : ℕ) (bs : List ℕ) (ih : Ih bs) (s at line l : ℕ) (c : SourceCause) → (t : Bool) → is_inside_line b ≡ t
    → Ends (ends (mode.Quote s) at line (b ∷ bs)) l c → Fails (mode.Quote s) line (b ∷ bs) l c
in_quote b bs ih s at line l c true t h =
    let h2 = step_ends (mode.Quote s) mode.Between at line b bs l c (rw t refl) h in
    Fails.later (b ∷ []) bs refl t (at_between bs ih (at + 1) (line_after line b) l c h2)
in_quote b bs ih s at line l c false t h =
    let p = step_stops (mode.Quote s) at line b bs l c cause.BadNumber (rw t refl) h in
    Fails.breaks [] bs b refl (t, p.1) p.0

in_string : (b : ℕ) (bs : List ℕ) (ih : Ih bs) (s at line l : ℕ) (c : SourceCause) → (t : Bool) → (b == 34) ≡ t → (u : Bool) → (b == 10) ≡ u
    → (v : Bool) → (b == 92) ≡ v → (r : Bool) → is_source b ≡ r
    → Ends (ends (mode.Text s) at line (b ∷ bs)) l c → Fails (mode.Text s) line (b ∷ bs) l c
in_string b bs ih s at line l c true t u u1 v v1 r r1 h =
    let h2 = step_ends (mode.Text s) mode.Between at line b bs l c (rw t refl) h in
    Fails.later (b ∷ []) bs refl t (at_between bs ih (at + 1) (line_after line b) l c h2)
in_string b bs ih s at line l c false t true u v v1 r r1 h =
    let p = step_stops (mode.Text s) at line b bs l c cause.OpenString (rw (t, u) refl) h in
    Fails.breaks [] bs b refl (false, refl, inl (u, p.1)) p.0
in_string b bs ih s at line l c false t false u true v r r1 h =
    let h2 = step_ends (mode.Text s) (mode.Escape s) at line b bs l c (rw (t, u, v) refl) h in
    goes_on (mode.Text s) (mode.Escape s) b bs line l c (λ piece rest k. string_more b piece (backslash_source b v) u t (rw v k))
    (λ piece next k. (k.0, (rw (backslash_source b v, u) refl, t, rw v k.1), k.2)) (λ y. y)
    (ih (mode.Escape s) (at + 1) (line_after line b) l c h2)
in_string b bs ih s at line l c false t false u false v true r h =
    let h2 = step_ends (mode.Text s) (mode.Text s) at line b bs l c (rw (t, u, v, r) refl) h in
    goes_on (mode.Text s) (mode.Text s) b bs line l c (λ piece rest k. string_more b piece r u t (rw v k))
    (λ piece next k. (k.0, (rw (r, u) refl, t, rw v k.1), k.2)) (λ y. y)
    (ih (mode.Text s) (at + 1) (line_after line b) l c h2)
in_string b bs ih s at line l c false t false u false v false r h =
    let p = step_stops (mode.Text s) at line b bs l c cause.NotAscii (rw (t, u, v, r) refl) h in
    Fails.breaks [] bs b refl (false, refl, inr (r, p.1)) p.0

in_escape : (b : ℕ) (bs : List ℕ) (ih : Ih bs) (s at line l : ℕ) (c : SourceCause) → (u : Bool) → (b == 10) ≡ u
    → (v : Bool) → is_escape b ≡ v
    → Ends (ends (mode.Escape s) at line (b ∷ bs)) l c → Fails (mode.Escape s) line (b ∷ bs) l c
in_escape b bs ih s at line l c true u v v1 h =
    let p = step_stops (mode.Escape s) at line b bs l c cause.OpenString (rw u refl) h in
    Fails.breaks [] bs b refl (true, refl, inl (u, p.1)) p.0
in_escape b bs ih s at line l c false u true v h =
    let h2 = step_ends (mode.Escape s) (mode.Text s) at line b bs l c (rw (u, v) refl) h in
    goes_on (mode.Escape s) (mode.Text s) b bs line l c (λ piece rest k. escape_more b piece v k)
    (λ piece next k. (k.0, (v, k.1), k.2)) (λ y. y)
    (ih (mode.Text s) (at + 1) (line_after line b) l c h2)
in_escape b bs ih s at line l c false u false v h =
    let p = step_stops (mode.Escape s) at line b bs l c cause.BadEscape (rw (u, v) refl) h in
    Fails.breaks [] bs b refl (true, refl, inr (u, v, p.1)) p.0

one_byte : (b : ℕ) (bs : List ℕ) (ih : Ih bs) → Ih (b ∷ bs)
one_byte b bs ih mode.Between at line l c h = Fails.later [] (b ∷ bs) refl refl (between b bs ih at line l c (class_of b) refl h)
one_byte b bs ih mode.Slash at line l c h = at_slash b bs ih at line l c (b == 42) refl h
one_byte b bs ih mode.Line at line l c h = in_line b bs ih at line l c (b == 10) refl (is_source b) refl h
one_byte b bs ih (mode.Block k) at line l c h = in_block b bs ih k at line l c (b == 42) refl (is_source b) refl h
one_byte b bs ih (mode.Star k) at line l c h = in_star b bs ih k at line l c (b == 47) refl (b == 42) refl (is_source b) refl h
one_byte b bs ih (mode.Word s) at line l c h = in_word b bs ih s at line l c (is_word b) refl h
one_byte b bs ih (mode.Number s d) at line l c h = in_number b bs ih s d at line l c (is_word b) refl (is_whole d) refl h
one_byte b bs ih (mode.Quote s) at line l c h = in_quote b bs ih s at line l c (is_inside_line b) refl h
one_byte b bs ih (mode.Text s) at line l c h =
    in_string b bs ih s at line l c (b == 34) refl (b == 10) refl (b == 92) refl (is_source b) refl h
one_byte b bs ih (mode.Escape s) at line l c h = in_escape b bs ih s at line l c (b == 10) refl (is_escape b) refl h

no_byte : Ih []
no_byte m at line l c (inl e) = absurd cc
no_byte m at line l c (inr (e, o)) = by_mode m e
  where
    by_mode : (m : Mode) → Goes m ≡ Goes (mode.Block l) → Fails m line [] l c
    by_mode (mode.Block k) e = let same : l ≡ k = cc in Fails.unclosed (refl, same) o
    by_mode mode.Between e = absurd cc
    by_mode mode.Slash e = absurd cc
    by_mode mode.Line e = absurd cc
    by_mode (mode.Star k) e = absurd cc
    by_mode (mode.Word s) e = absurd cc
    by_mode (mode.Number s d) e = absurd cc
    by_mode (mode.Quote s) e = absurd cc
    by_mode (mode.Text s) e = absurd cc
    by_mode (mode.Escape s) e = absurd cc

failing : (bs : List ℕ) → Ih bs
failing [] = no_byte
failing (b ∷ bs) = one_byte b bs (failing bs)

pub refused_for : (text : List ℕ) (r : Result (Vec Token) SourceFault)
    → LexesTo r (token_scan mode.Between 0 1 (text ++ 10 ∷ [])) → RefusedFor text r
refused_for text (Ok v) h = tt
refused_for text (Err fault.Memory) h = tt
refused_for text (Err (fault.At l c)) h = at_between (text ++ 10 ∷ []) (failing (text ++ 10 ∷ [])) 0 1 l c h
