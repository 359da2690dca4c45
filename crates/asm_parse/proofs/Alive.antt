-- A line that ends outside a comment leaves nothing open, so the text up to it has a reading.
use Rattle.std.proofs.Common.{◌≡◌, ℕ, Bool, true, false, cond, List, [], ◌∷◌, ◌++◌, length, Option, Some, None, Result, Ok, Err, refl, sym, ap, subst, ◌∙◌, zero, suc}
use Rattle.std.specs.Prelude.{nat_lt, ◌==◌, ◌&&◌, ◌+◌}
use Rattle.asm_lex.specs.declared.fault.SourceCause.{SourceCause}
use Rattle.asm_lex.specs.declared.fault.SourceCause.TheVariants as cause
use Rattle.asm_argument.specs.declared.terminal.Terminal.{Terminal}
use Rattle.asm_argument.specs.declared.terminal.Terminal.TheVariants as terminal
use Rattle.asm_argument.specs.declared.shape.Shape.{Shape}
use Rattle.asm_argument.specs.declared.operand.Partial.{Partial}
use Rattle.asm_argument.specs.declared.operand.Partial.TheVariants as partial
use Rattle.asm_source.specs.declared.tree.Argument.{Argument}
use Rattle.asm_statement.specs.declared.directive.Directive.{Directive}
use Rattle.asm_statement.specs.declared.directive.Directive.TheVariants as directive
use Rattle.asm_statement.specs.declared.directive.Head.{Head}
use Rattle.asm_statement.specs.declared.directive.Head.TheVariants as head
use Rattle.asm_statement.specs.declared.state.Open.{Open}
use Rattle.asm_statement.specs.declared.state.StatementState.{StatementState}
use Rattle.asm_statement.specs.declared.state.StatementState.TheVariants as state
use Rattle.asm_statement.specs.ScopeView.{ScopeView}
use Rattle.asm_lex.specs.Bytes.{class_of, is_mark, is_source, is_letter, is_word}
use Rattle.asm_lex.specs.declared.token.Token.{Token}
use Rattle.asm_lex.specs.declared.token.TokenKind.{TokenKind}
use Rattle.asm_lex.specs.declared.token.TokenKind.TheVariants as kind
use Rattle.asm_lex.specs.declared.machine.Mode.{Mode}
use Rattle.asm_lex.specs.declared.machine.Mode.TheVariants as mode
use Rattle.asm_lex.specs.declared.machine.Next.{Next}
use Rattle.asm_lex.specs.declared.machine.Next.TheVariants.{Goes, Stops}
use Rattle.asm_lex.specs.declared.machine.Stepped.{Stepped}
use Rattle.asm_lex.specs.Machine.{stepped, after, stops, is_whole}
use Rattle.asm_argument.specs.Terminals.{terminal_of}
use Rattle.asm_statement.specs.Reading.{Fault, fed, placed, is_longer, ending_at, with_end, next_word}
use Rattle.asm_lex.specs.Words.{Word}
use Rattle.asm_lex.specs.Scans.{word_of}
use Rattle.asm_lex.specs.Lines.{first_lines}
use Rattle.asm_statement.specs.Running.{Running, goes_on, second_does, byte_does, one_byte_over, moved, one_byte, run, start, closed, read}
use Rattle.asm_parse.proofs.Lines.{bind_ok, IsRead, run_ok}
use Rattle.asm_parse.proofs.Linking.{goes_is}
use Rattle.std.proofs.lemmas.Bool.{eqb-true}
use Rattle.asm_argument.specs.Operand.{operand_step, is_finished}
use Rattle.asm_statement.specs.Statement.{at_shape, complete, end_behind, ended, is_bare, argument_step, nothing_yet, of_directive, step, next_step, fault_line}
use Rattle.asm_statement.specs.Items.{is_passed, is_rep}
use Rattle.asm_statement.specs.Directives.{shape_at, least, directive_of, is_dotted}
use Rattle.asm_parse.proofs.Quiet.{Answer}

-- where it goes on, nothing is open
abbrev Ends : Answer → Type 0
Ends (Ok x) = x.1 ≡ state.Start
Ends (Err c) = Unit {0}

either : (t : Bool) (a b : Answer) → Ends a → Ends b → Ends (cond t a b)
either true a b p q = p
either false a b p q = q

-- no argument goes on with the end
pub no_end : (sh : Shape) (p : Partial) → (c : SourceCause) × (operand_step sh p terminal.End ≡ Err c)
no_end sh partial.Nothing = (_, refl)
no_end sh partial.Absent = (_, refl)
no_end sh partial.Percent = (_, refl)
no_end sh partial.Dollar = (_, refl)
no_end sh (partial.Minus a) = (_, refl)
no_end sh (partial.Name a n) = (_, refl)
no_end sh (partial.Sign a n b) = (_, refl)
no_end sh (partial.SignMinus a n b) = (_, refl)
no_end sh (partial.Number a v) = (_, refl)
no_end sh (partial.Open v) = (_, refl)
no_end sh (partial.BasePercent v) = (_, refl)
no_end sh (partial.Base v b) = (_, refl)
no_end sh (partial.IndexComma v b) = (_, refl)
no_end sh (partial.IndexPercent v b) = (_, refl)
no_end sh (partial.Index v b i) = (_, refl)
no_end sh (partial.Scale v b i) = (_, refl)
no_end sh (partial.Scaled v b i s) = (_, refl)
no_end sh (partial.Whole f) = (_, refl)

shape_ends : (sc : ScopeView) (o : Open) (s : Option Shape) → Ends (at_shape sc o terminal.End s)
shape_ends sc o None = tt
shape_ends sc o (Some sh) = rw (no_end sh o.so_far).1 tt

complete_ends : (sc : ScopeView) (line : ℕ) (h : Head) (args : List Argument) → Ends (complete sc line h args)
complete_ends sc line h args = either (nat_lt (length args) (least h)) _ _ tt refl

behind_ends : (sc : ScopeView) (e : Option (ℕ × Head × List Argument × Argument)) → Ends (end_behind sc e)
behind_ends sc None = tt
behind_ends sc (Some e) = complete_ends sc e.0 e.1 (e.2 ++ e.3 ∷ [])

argument_ends : (sc : ScopeView) (o : Open) → Ends (argument_step sc o terminal.End)
argument_ends sc o = either (is_bare o) _ _ (complete_ends sc o.line o.head o.arguments)
    (either (is_finished o.so_far) _ _ (behind_ends sc (ended o)) (shape_ends sc o (shape_at o.head (length o.arguments))))

directive_ends : (sc : ScopeView) (line : ℕ) (n : List ℕ) (d : Option Directive) → Ends (of_directive d sc line n terminal.End)
directive_ends sc line n None = tt
directive_ends sc line n (Some directive.Skipped) = refl
directive_ends sc line n (Some directive.Section) = tt
directive_ends sc line n (Some directive.Plain) = argument_ends sc (nothing_yet line (head.Directive directive.Plain n))
directive_ends sc line n (Some directive.Global) = argument_ends sc (nothing_yet line (head.Directive directive.Global n))
directive_ends sc line n (Some directive.Bytes) = argument_ends sc (nothing_yet line (head.Directive directive.Bytes n))
directive_ends sc line n (Some directive.Longs) = argument_ends sc (nothing_yet line (head.Directive directive.Longs n))
directive_ends sc line n (Some directive.Strings) = argument_ends sc (nothing_yet line (head.Directive directive.Strings n))
directive_ends sc line n (Some directive.Zero) = argument_ends sc (nothing_yet line (head.Directive directive.Zero n))
directive_ends sc line n (Some directive.Aligned) = argument_ends sc (nothing_yet line (head.Directive directive.Aligned n))
directive_ends sc line n (Some directive.Powered) = argument_ends sc (nothing_yet line (head.Directive directive.Powered n))
directive_ends sc line n (Some directive.LocalCommon) = argument_ends sc (nothing_yet line (head.Directive directive.LocalCommon n))
directive_ends sc line n (Some directive.Common) = argument_ends sc (nothing_yet line (head.Directive directive.Common n))

-- The end of a statement leaves nothing open.
pub end_ends : (sc : ScopeView) (st : StatementState) (line : ℕ) → Ends (step sc st line terminal.End)
end_ends sc state.Start line = refl
end_ends sc (state.Named b n) line = either (is_passed sc n) _ _ refl
    (either (is_dotted n) _ _ (directive_ends sc b n (directive_of n))
    (either (is_rep n) _ _ tt (argument_ends sc (nothing_yet b (head.Instruction false n)))))
end_ends sc state.Skip line = refl
end_ends sc (state.Sectioned b n m e) line = refl
end_ends sc (state.Flags b n m) line = refl
end_ends sc (state.Arguments o) line = argument_ends sc o
end_ends sc (state.Stray l c) line = tt

-- ---- a whole line

abbrev LastEnd : Next → Option Token → Type 0
LastEnd (Goes mode.Between) None = ⊥
LastEnd (Goes mode.Between) (Some t) = t.kind ≡ kind.End
LastEnd (Goes _) t = Unit {0}
LastEnd (Stops l c) t = Unit {0}

number_end : (s : ℕ) (at line : ℕ) (t : Bool) → LastEnd (cond t (after kind.Number s at line 10) (stops line cause.BadNumber)).next
    (cond t (after kind.Number s at line 10) (stops line cause.BadNumber)).second
unfolding class_of is_mark is_letter is_word
number_end s at line true = refl
number_end s at line false = tt

last_end : (m : Mode) (at line : ℕ) → LastEnd (stepped m at line 10).next (stepped m at line 10).second
unfolding class_of is_mark is_source is_letter is_word
last_end mode.Between at line = refl
last_end mode.Slash at line = tt
last_end mode.Line at line = refl
last_end (mode.Block l) at line = tt
last_end (mode.Star l) at line = tt
last_end (mode.Word s) at line = refl
last_end (mode.Number s d) at line = number_end s at line (is_whole d)
last_end (mode.Quote s) at line = tt
last_end (mode.Text s) at line = tt
last_end (mode.Escape s) at line = tt

placed_ends : (line : ℕ) (r : Answer) (z : ScopeView × StatementState) → Ends r → placed line r ≡ Ok z → z.1 ≡ state.Start
placed_ends line (Ok x) z h e = let g : x ≡ z = cc in subst (λ (y : ScopeView × StatementState). y.1 ≡ state.Start) g h
placed_ends line (Err c) z h e = absurd cc

not_longer : (st : StatementState) (at : ℕ) (bytes : List ℕ) → is_longer st at kind.End bytes ≡ false
not_longer (state.Sectioned b n m e) at bytes = none (e == at)
  where
    none : (t : Bool) → (t && false) ≡ false
    none true = refl
    none false = refl
not_longer _ at bytes = refl

with_ends : (e : ℕ) (r : Answer) → Ends r → Ends (with_end e r)
with_ends e (Ok x) h = ap (ending_at e) h
with_ends e (Err c) h = tt

end_word : (sc : ScopeView) (st : StatementState) (w : Word) → w.kind ≡ kind.End → Ends (next_word sc st w)
end_word sc st w h =
    let terminal : terminal_of w.kind w.bytes ≡ terminal.End = ap (λ (k : TokenKind). terminal_of k w.bytes) h in
    let none : is_longer st w.at w.kind w.bytes ≡ false =
    ap (λ (k : TokenKind). is_longer st w.at k w.bytes) h ∙ not_longer st w.at w.bytes in
    let ends : Ends (next_step sc st w.line (terminal_of w.kind w.bytes)) =
    subst (λ (s : Terminal). Ends (next_step sc st w.line s)) (sym terminal) (end_ends sc st w.line) in
    rw none (with_ends (w.at + length w.bytes) (next_step sc st w.line (terminal_of w.kind w.bytes)) ends)

fed_end : (sc : ScopeView) (st : StatementState) (seen : List ℕ) (line : ℕ) (t : Option Token) (z : ScopeView × StatementState)
    → LastEnd (Goes mode.Between) t → fed sc st seen line t ≡ Ok z → z.1 ≡ state.Start
fed_end sc st seen line None z h e = absurd h
fed_end sc st seen line (Some t) z h e =
    placed_ends (fault_line sc st line) (next_word sc st (word_of seen line t)) z (end_word sc st (word_of seen line t) h) e

does_end : (sc : ScopeView) (st : StatementState) (seen : List ℕ) (line : ℕ) (s : Stepped) (x : ScopeView × StatementState × Mode)
    → LastEnd s.next s.second → byte_does sc st seen line s ≡ Ok x → x.2 ≡ mode.Between → x.1 ≡ state.Start
does_end sc st seen line s x last h m =
    let y = bind_ok (fed sc st seen line s.first) (λ y. second_does y.0 y.1 seen line s.second s.next) x h in
    let z = bind_ok (fed y.0.0 y.0.1 seen line s.second) (λ z. goes_on line z s.next) x y.2 in
    let g = goes_is line z.0 s.next x z.2 in
    let next : s.next ≡ Goes mode.Between = g.0 ∙ ap Goes m in
    let last2 : LastEnd (Goes mode.Between) s.second = subst (λ (n : Next). LastEnd n s.second) next last in
    ap (λ (q : ScopeView × StatementState). q.1) (sym g.1) ∙ fed_end y.0.0 y.0.1 seen line s.second z.0 last2 z.1

pub newline_state : (r t : Running) → run r (10 ∷ []) ≡ Ok t → t.mode ≡ mode.Between → t.state ≡ state.Start
unfolding one_byte one_byte_over
newline_state r t h m =
    let s = bind_ok (one_byte r 10) (λ s. run s []) t h in
    let x =
    bind_ok (byte_does r.scope r.state (r.seen ++ 10 ∷ []) r.line (stepped r.mode r.at r.line 10)) (λ x. Ok (moved r 10 x)) s.0 s.1 in
    at_last x.0 (λ k. does_end r.scope r.state (r.seen ++ 10 ∷ []) r.line (stepped r.mode r.at r.line 10) x.0
    (last_end r.mode r.at r.line) x.1 k) (x.2 ∙ s.2)
  where
    at_last : (x : ScopeView × StatementState × Mode) → (x.2 ≡ mode.Between → x.1 ≡ state.Start)
        → ◌≡◌ {A = Result Running Fault} (Ok (moved r 10 x)) (Ok t) → t.state ≡ state.Start
    at_last x k e = let g : moved r 10 x ≡ t = cc in ap (λ (y : Running). y.state) (sym g) ∙ k (ap (λ (y : Running). y.mode) g ∙ m)

-- nothing is open, so one newline more is read
ready : (sc : ScopeView) (seen : List ℕ) (at line : ℕ) → (t : Running)
    × (run (record { scope = sc; state = state.Start; mode = mode.Between; seen = seen; at = at; line = line }) (10 ∷ []) ≡ Ok t)
    × (closed t t.mode ≡ Ok t)
unfolding one_byte one_byte_over class_of is_mark
ready sc seen at line = (_, refl, refl)

ready_at : (s : Running) → s.mode ≡ mode.Between → s.state ≡ state.Start → (t : Running) × (run s (10 ∷ []) ≡ Ok t)
    × (closed t t.mode ≡ Ok t)
ready_at s m st =
    let is : record { scope = s.scope; state = state.Start; mode = mode.Between; seen = s.seen; at = s.at; line = s.line } ≡ s =
    rw (← m, ← st) refl in
    subst (λ (q : Running). (t : Running) × (run q (10 ∷ []) ≡ Ok t) × (closed t t.mode ≡ Ok t)) is (ready s.scope s.seen s.at s.line)

pub run_two : (r s : Running) (bs cs : List ℕ) → run r bs ≡ Ok s → run r (bs ++ cs) ≡ run s cs
run_two r s [] cs h = let e : r ≡ s = cc in ap (λ (x : Running). run x cs) e
run_two r s (b ∷ bs) cs h =
    let x = bind_ok (one_byte r b) (λ x. run x bs) s h in
    run_ok r x.0 b (bs ++ cs) x.1 ∙ run_two x.0 s bs cs x.2

pub lines_end : (text : List ℕ) (n : ℕ) → (p : List ℕ) × (first_lines (suc n) text ≡ p ++ 10 ∷ [])
lines_end [] n = ([], refl)
lines_end (b ∷ bs) n = by_newline (b == 10) refl n (λ m. lines_end bs m)
  where
    by_newline : (t : Bool) → (b == 10) ≡ t → (n : ℕ) → ((m : ℕ) → (p : List ℕ) × (first_lines (suc m) bs ≡ p ++ 10 ∷ [])) → (p : List ℕ)
        × (first_lines (suc n) (b ∷ bs) ≡ p ++ 10 ∷ [])
    by_newline true e zero ih = ([], rw (e, eqb-true _ _ e) refl)
    by_newline true e (suc n) ih = let g = ih n in (b ∷ g.0, rw e (ap (λ (x : List ℕ). b ∷ x) g.1))
    by_newline false e n ih = let g = ih n in (b ∷ g.0, rw e (ap (λ (x : List ℕ). b ∷ x) g.1))

pub has_reading : (p : List ℕ) (s : Running) → run start p ≡ Ok s → s.mode ≡ mode.Between → s.state ≡ state.Start → IsRead p
unfolding read
has_reading p s h m st =
    let t = ready_at s m st in
    (t.0, rw (run_two start s p (10 ∷ []) h ∙ t.1) t.2)
