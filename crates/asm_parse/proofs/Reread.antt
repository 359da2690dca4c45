-- What the reader does with words of which all can go on.
use Rattle.std.proofs.Common.{◌≡◌, ℕ, ◌+◌, Bool, true, false, cond, List, [], ◌∷◌, ◌++◌, length, Option, Some, None, Result, Ok, Err, refl, sym, ap, subst, ◌∙◌, ◌⊎◌, inl, inr}
use Rattle.std.specs.List.{list_all}
use Rattle.asm_lex.specs.declared.fault.SourceCause.{SourceCause}
use Rattle.asm_lex.specs.Words.{Word}
use Rattle.asm_argument.specs.declared.terminal.Terminal.{Terminal}
use Rattle.asm_argument.specs.declared.terminal.Terminal.TheVariants as terminal
use Rattle.asm_argument.specs.declared.shape.Shape.{Shape}
use Rattle.asm_argument.specs.declared.operand.Partial.{Partial}
use Rattle.asm_source.specs.declared.tree.Argument.{Argument}
use Rattle.asm_statement.specs.declared.directive.Head.{Head}
use Rattle.asm_statement.specs.declared.state.Open.{Open}
use Rattle.asm_statement.specs.declared.state.StatementState.{StatementState}
use Rattle.asm_statement.specs.declared.state.StatementState.TheVariants as state
use Rattle.asm_statement.specs.ScopeView.{ScopeView}
use Rattle.asm_statement.specs.Scope.{fresh}
use Rattle.asm_argument.specs.Operand.{operand_step, is_finished, name_in}
use Rattle.asm_argument.specs.Terminals.{terminal_of}
use Rattle.asm_statement.specs.Directives.{shape_at, defines}
use Rattle.asm_statement.specs.Statement.{noting, after_noting, with_name, after_step, at_shape, within, argument_of, comma_behind, ended, takes_star, argument_step, with_scope, step, next_step, strayed, is_place, fault_line, doom, skip}
use Rattle.asm_statement.specs.Reading.{Fault, placed, ending_at, with_end, next_word}
use Rattle.asm_statement.specs.Running.{◌>>=◌}
use Rattle.asm_parse.specs.Statements.{is_inner, terminals}
use Rattle.asm_parse.specs.Refusals.{StatementPlace}
use Rattle.asm_parse.proofs.Words.{read_words}
use Rattle.asm_parse.proofs.Lines.{bind_ok, placed_goes}
use Rattle.asm_parse.proofs.Quiet.{WordGoes, word_goes, Answer}
use Rattle.asm_parse.proofs.Stated.{inner, inners, is_naming, not_longer}
use Rattle.asm_parse.proofs.Places.{Suits, flags_suits, section_suits}

abbrev pub Pair : Type 0
Pair = ScopeView × StatementState

-- ---- the words in front

pub prefix_runs : (ws vs : List Word) (sc : ScopeView) (st : StatementState) (y : Pair) → read_words sc st (ws ++ vs) ≡ Ok y → (x : Pair)
    × (read_words sc st ws ≡ Ok x) × (read_words x.0 x.1 vs ≡ Ok y)
prefix_runs [] vs sc st y h = ((sc, st), refl, h)
prefix_runs (w ∷ ws) vs sc st y h =
    let z = bind_ok (placed (fault_line sc st w.line) (next_word sc st w)) (λ z. read_words z.0 z.1 (ws ++ vs)) y h in
    let r = prefix_runs ws vs z.0.0 z.0.1 y z.2 in
    (r.0, ap (λ (q : Result Pair Fault). q >>= λ z. read_words z.0 z.1 ws) z.1 ∙ r.1, r.2)

-- ---- what stands astray stops

pub stray_stops : (ws : List Word) (sc : ScopeView) (l : ℕ) (c : SourceCause) (fin : Pair) → read_words sc (state.Stray l c) ws ≡ Ok fin
    → doom fin.0 fin.1 ≡ None → ⊥
stray_stops [] sc l c fin h alive =
    let e : (sc, state.Stray l c) ≡ fin = cc in
    let some : Some l ≡ None = ap (λ (x : Pair). doom x.0 x.1) e ∙ alive in
    absurd cc
stray_stops (w ∷ ws) sc l c fin h alive = by_terminal (terminal_of w.kind w.bytes) h
  where
    by_terminal : (s : Terminal)
        → ◌≡◌ {A = Result Pair Fault} (placed l (with_end (w.at + length w.bytes) (next_step sc (state.Stray l c) w.line s)) >>= λ y.
        read_words y.0 y.1 ws) (Ok fin) → ⊥
    by_terminal terminal.Percent k = absurd cc
    by_terminal s k = absurd cc

-- ---- one word

step_of_next : (sc : ScopeView) (st : StatementState) (line : ℕ) (s : Terminal) (y : Pair) → next_step sc st line s ≡ Ok y
    → (step sc st line s ≡ Ok y) ⊎ ((l : ℕ) × (c : SourceCause) × (y ≡ (fresh, state.Stray l c)))
step_of_next sc st line terminal.Percent y h = by_result (step sc st line terminal.Percent) refl h
  where
    by_place : (c : SourceCause) (t : Bool) → ◌≡◌ {A = Answer} (cond t (Ok (fresh, state.Stray (fault_line sc st line) c)) (Err c)) (Ok y)
        → (l : ℕ) × (d : SourceCause) × (y ≡ (fresh, state.Stray l d))
    by_place c true k = let g : (fresh, state.Stray (fault_line sc st line) c) ≡ y = cc in (fault_line sc st line, c, sym g)
    by_place c false k = absurd cc

    by_result : (r : Answer) → step sc st line terminal.Percent ≡ r → strayed (fault_line sc st line) r ≡ Ok y
        → (step sc st line terminal.Percent ≡ Ok y) ⊎ ((l : ℕ) × (c : SourceCause) × (y ≡ (fresh, state.Stray l c)))
    by_result (Ok x) e k = inl (e ∙ k)
    by_result (Err c) e k = inr (by_place c (is_place c) k)
step_of_next sc st line s y h = inl h

-- a terminal with which words go on, where no section's name is open
pub record OnWord (sc : ScopeView) (st : StatementState) (w : Word) (ws : List Word) (fin : Pair) : Type 0 where
  pub next : Pair
  pub goes : step sc st w.line (terminal_of w.kind w.bytes) ≡ Ok next
  pub rest : read_words next.0 (ending_at (w.at + length w.bytes) next.1) ws ≡ Ok fin

ending_stray : (st : StatementState) (e l : ℕ) (c : SourceCause) → st ≡ state.Stray l c → ending_at e st ≡ state.Stray l c
ending_stray st e l c h = ap (ending_at e) h

pub on_word : (sc : ScopeView) (st : StatementState) (w : Word) (ws : List Word) (fin : Pair) → is_naming st ≡ false
    → read_words sc st (w ∷ ws) ≡ Ok fin → doom fin.0 fin.1 ≡ None → OnWord sc st w ws fin
on_word sc st w ws fin plain h alive =
    let z = bind_ok (placed (fault_line sc st w.line) (next_word sc st w)) (λ z. read_words z.0 z.1 ws) fin h in
    by_goes z.0 (word_goes sc st w z.0 (placed_goes (fault_line sc st w.line) (next_word sc st w) z.0 z.1)) z.2
  where
    both : {t : Bool} → t ≡ true → t ≡ false → ⊥
    both e f = absurd cc

    by_step : (y : Pair) → (step sc st w.line (terminal_of w.kind w.bytes) ≡ Ok y)
        ⊎ ((l : ℕ) × (c : SourceCause) × (y ≡ (fresh, state.Stray l c))) → read_words y.0 (ending_at (w.at + length w.bytes) y.1) ws ≡ Ok
        fin → OnWord sc st w ws fin
    by_step y (inl s) r = record { next = y; goes = s; rest = r }
    by_step y (inr (l, c, e)) r =
        let same : read_words y.0 (ending_at (w.at + length w.bytes) y.1) ws ≡ read_words fresh (state.Stray l c) ws =
        ap (λ (x : Pair). read_words x.0 (ending_at (w.at + length w.bytes) x.1) ws) e in
        absurd (stray_stops ws fresh l c fin (sym same ∙ r) alive)

    by_goes : (z : Pair) → WordGoes sc st w z → read_words z.0 z.1 ws ≡ Ok fin → OnWord sc st w ws fin
    by_goes z (WordGoes.on t k) r = absurd (both t (not_longer st w.at w.kind w.bytes plain))
    by_goes z (WordGoes.as_terminal y t f k) r =
        by_step y (step_of_next sc st w.line (terminal_of w.kind w.bytes) y f) (ap (λ (x : Pair). read_words x.0 x.1 ws) (sym k) ∙ r)

-- ---- where any terminal may stand

pub inner_parts : (s : Terminal) (ss : List Terminal) → list_all is_inner (s ∷ ss) ≡ true → (is_inner s ≡ true)
    × (list_all is_inner ss ≡ true)
inner_parts terminal.End ss h = absurd cc
inner_parts s ss h = (refl, h)

pub skip_inner : (s : Terminal) → is_inner s ≡ true → skip s ≡ state.Skip
skip_inner terminal.End h = absurd cc
skip_inner s h = refl

pub same_pair : (x y : Pair) → ◌≡◌ {A = Answer} (Ok x) (Ok y) → x ≡ y
same_pair x y e = cc

same_read : (x y : Pair) → ◌≡◌ {A = Result Pair Fault} (Ok x) (Ok y) → x ≡ y
same_read x y e = cc

pub skip_stays : (ws : List Word) (sc : ScopeView) (fin : Pair) → list_all is_inner (terminals ws) ≡ true
    → read_words sc state.Skip ws ≡ Ok fin → doom fin.0 fin.1 ≡ None → fin ≡ (sc, state.Skip)
skip_stays [] sc fin inside h alive = sym (same_read (sc, state.Skip) fin h)
skip_stays (w ∷ ws) sc fin inside h alive =
    let p = inner_parts (terminal_of w.kind w.bytes) (terminals ws) inside in
    let o = on_word sc state.Skip w ws fin refl h alive in
    let next : o.next ≡ (sc, state.Skip) = sym (same_pair (sc, skip (terminal_of w.kind w.bytes)) o.next o.goes)
    ∙ ap (λ (x : StatementState). (sc, x)) (skip_inner (terminal_of w.kind w.bytes) p.0) in
    skip_stays ws sc fin p.1 (sym (ap (λ (x : Pair). read_words x.0 (ending_at (w.at + length w.bytes) x.1) ws) next) ∙ o.rest) alive

-- ---- after a section's name

flags_go : (sc : ScopeView) (b : ℕ) (n m : List ℕ) (line : ℕ) (s : Terminal) (y : Pair) → is_inner s ≡ true
    → step sc (state.Flags b n m) line s ≡ Ok y → y ≡ (sc, state.Flags b n m)
flags_go sc b n m line terminal.End y inside h = absurd cc
flags_go sc b n m line s y inside h = sym (same_pair (sc, state.Flags b n m) y h)

flags_stay : (ws : List Word) (sc : ScopeView) (b : ℕ) (n m : List ℕ) (fin : Pair) → list_all is_inner (terminals ws) ≡ true
    → read_words sc (state.Flags b n m) ws ≡ Ok fin → doom fin.0 fin.1 ≡ None → fin ≡ (sc, state.Flags b n m)
flags_stay [] sc b n m fin inside h alive = sym (same_read (sc, state.Flags b n m) fin h)
flags_stay (w ∷ ws) sc b n m fin inside h alive =
    let p = inner_parts (terminal_of w.kind w.bytes) (terminals ws) inside in
    let o = on_word sc (state.Flags b n m) w ws fin refl h alive in
    let next = flags_go sc b n m w.line (terminal_of w.kind w.bytes) o.next p.0 o.goes in
    flags_stay ws sc b n m fin p.1 (sym (ap (λ (x : Pair). read_words x.0 (ending_at (w.at + length w.bytes) x.1) ws) next) ∙ o.rest) alive

name_goes : (sc : ScopeView) (b : ℕ) (n m : List ℕ) (e line : ℕ) (s : Terminal) (y : Pair) → is_inner s ≡ true
    → step sc (state.Sectioned b n m e) line s ≡ Ok y → y ≡ (sc, state.Flags b n m)
name_goes sc b n m e line terminal.End y inside h = absurd cc
name_goes sc b n m e line terminal.Comma y inside h = sym (same_pair (sc, state.Flags b n m) y h)
name_goes sc b n m e line s y inside h = absurd cc

pub suits_at : (sc0 : ScopeView) (p : StatementPlace) (x y : Pair) → x ≡ y → Suits sc0 p x.0 x.1 → Suits sc0 p y.0 y.1
suits_at sc0 p x y e h = subst (λ (z : Pair). Suits sc0 p z.0 z.1) e h

pub section_stays : (ws : List Word) (sc0 sc : ScopeView) (b : ℕ) (n m : List ℕ) (e : ℕ) (fin : Pair)
    → list_all is_inner (terminals ws) ≡ true → read_words sc (state.Sectioned b n m e) ws ≡ Ok fin → doom fin.0 fin.1 ≡ None
    → Suits sc0 StatementPlace.section fin.0 fin.1
section_stays [] sc0 sc b n m e fin inside h alive = suits_at sc0 StatementPlace.section (sc, state.Sectioned b n m e) fin
    (same_read (sc, state.Sectioned b n m e) fin h) (section_suits sc0 sc b n m e)
section_stays (w ∷ ws) sc0 sc b n m e fin inside h alive =
    let p = inner_parts (terminal_of w.kind w.bytes) (terminals ws) inside in
    let z = bind_ok (placed (fault_line sc (state.Sectioned b n m e) w.line) (next_word sc (state.Sectioned b n m e) w))
    (λ z. read_words z.0 z.1 ws) fin h in
    by_goes p.0 p.1 z.0 (word_goes sc (state.Sectioned b n m e) w z.0
    (placed_goes (fault_line sc (state.Sectioned b n m e) w.line) (next_word sc (state.Sectioned b n m e) w) z.0 z.1)) z.2
    (λ m2 e2 k. section_stays ws sc0 sc b n m2 e2 fin p.1 k alive)
  where
    by_step : is_inner (terminal_of w.kind w.bytes) ≡ true → list_all is_inner (terminals ws) ≡ true → (y : Pair)
        → (step sc (state.Sectioned b n m e) w.line (terminal_of w.kind w.bytes) ≡ Ok y)
        ⊎ ((l : ℕ) × (c : SourceCause) × (y ≡ (fresh, state.Stray l c)))
        → read_words y.0 (ending_at (w.at + length w.bytes) y.1) ws ≡ Ok fin → Suits sc0 StatementPlace.section fin.0 fin.1
    by_step i more y (inl s) r =
        let next = name_goes sc b n m e w.line (terminal_of w.kind w.bytes) y i s in
        let last = flags_stay ws sc b n m fin more
        (sym (ap (λ (x : Pair). read_words x.0 (ending_at (w.at + length w.bytes) x.1) ws) next) ∙ r) alive in
        suits_at sc0 StatementPlace.section (sc, state.Flags b n m) fin (sym last) (flags_suits sc0 sc b n m)
    by_step i more y (inr (l, c, f)) r =
        let same : read_words y.0 (ending_at (w.at + length w.bytes) y.1) ws ≡ read_words fresh (state.Stray l c) ws =
        ap (λ (x : Pair). read_words x.0 (ending_at (w.at + length w.bytes) x.1) ws) f in
        absurd (stray_stops ws fresh l c fin (sym same ∙ r) alive)

    by_goes : is_inner (terminal_of w.kind w.bytes) ≡ true → list_all is_inner (terminals ws) ≡ true → (z : Pair)
        → WordGoes sc (state.Sectioned b n m e) w z → read_words z.0 z.1 ws ≡ Ok fin
        → ((m2 : List ℕ) (e2 : ℕ) → read_words sc (state.Sectioned b n m2 e2) ws ≡ Ok fin → Suits sc0 StatementPlace.section fin.0 fin.1)
        → Suits sc0 StatementPlace.section fin.0 fin.1
    by_goes i more z (WordGoes.on t k) r ih =
        ih (m ++ w.bytes) (w.at + length w.bytes) (ap (λ (x : Pair). read_words x.0 x.1 ws) (sym k) ∙ r)
    by_goes i more z (WordGoes.as_terminal y t f k) r ih =
        by_step i more y (step_of_next sc (state.Sectioned b n m e) w.line (terminal_of w.kind w.bytes) y f)
        (ap (λ (x : Pair). read_words x.0 x.1 ws) (sym k) ∙ r)

-- ---- in arguments

abbrev InArgument : Answer → Type 0
InArgument (Ok y) = (o : Open) × (y.1 ≡ state.Arguments o)
InArgument (Err c) = Unit {0}

noted_in : (o : Open) (r : Result ScopeView SourceCause) → InArgument (after_noting o r)
noted_in o (Ok sc) = (o, refl)
noted_in o (Err c) = tt

named_argument : (sc : ScopeView) (o : Open) (n : Option (List ℕ)) → InArgument (with_name sc o n)
named_argument sc o None = (o, refl)
named_argument sc o (Some n) = noted_in o (noting sc (defines o.head (length o.arguments)) n)

stepped_in : (sc : ScopeView) (o : Open) (s : Terminal) (r : Result Partial SourceCause) → InArgument (after_step sc o s r)
stepped_in sc o s (Err c) = tt
stepped_in sc o s (Ok q) = named_argument sc (record o { so_far = q }) (name_in q)

shaped_in : (sc : ScopeView) (o : Open) (s : Terminal) (r : Option Shape) → InArgument (at_shape sc o s r)
shaped_in sc o s None = tt
shaped_in sc o s (Some sh) = stepped_in sc o s (operand_step sh o.so_far s)

within_in : (sc : ScopeView) (o : Open) (s : Terminal) → InArgument (within sc o s)
within_in sc o s = shaped_in sc o s (shape_at o.head (length o.arguments))

argument_in : (sc : ScopeView) (line : ℕ) (h : Head) (done : List Argument) (r : Option Shape)
    → InArgument (with_scope sc (argument_of line h done r))
argument_in sc line h done None = tt
argument_in sc line h done (Some sh) = (_, refl)

comma_in : (sc : ScopeView) (r : Option (ℕ × Head × List Argument × Argument)) → InArgument (comma_behind sc r)
comma_in sc None = tt
comma_in sc (Some e) = argument_in sc e.0 e.1 (e.2 ++ e.3 ∷ []) (shape_at e.1 (length (e.2 ++ e.3 ∷ [])))

either_in : (t : Bool) (a b : Answer) → InArgument a → InArgument b → InArgument (cond t a b)
either_in true a b p q = p
either_in false a b p q = q

stays_in : (sc : ScopeView) (o : Open) (s : Terminal) → is_inner s ≡ true → InArgument (argument_step sc o s)
stays_in sc o terminal.End i = absurd cc
stays_in sc o terminal.Comma i = either_in (is_finished o.so_far) (comma_behind sc (ended o)) (within sc o terminal.Comma)
    (comma_in sc (ended o)) (within_in sc o terminal.Comma)
stays_in sc o terminal.Star i = either_in (takes_star o) (Ok (sc, state.Arguments (record o { star = true }))) (within sc o terminal.Star)
    (record o { star = true }, refl) (within_in sc o terminal.Star)
stays_in sc o s i = within_in sc o s

-- a terminal of an argument leads to arguments
pub first_argument : (sc : ScopeView) (o : Open) (s : Terminal) (y : Pair) → is_inner s ≡ true → argument_step sc o s ≡ Ok y → (o2 : Open)
    × (y.1 ≡ state.Arguments o2)
first_argument sc o s y i goes = subst InArgument goes (stays_in sc o s i)

pub ending_arguments : (st : StatementState) (e : ℕ) (o : Open) → st ≡ state.Arguments o → ending_at e st ≡ st
ending_arguments st e o h = ap (ending_at e) h ∙ sym h

-- the words of arguments are read as their terminals
pub arguments_read : (ws : List Word) (sc : ScopeView) (st : StatementState) (o : Open) (fin : Pair) → st ≡ state.Arguments o
    → list_all is_inner (terminals ws) ≡ true → read_words sc st ws ≡ Ok fin → doom fin.0 fin.1 ≡ None
    → inners sc st (terminals ws) ≡ Ok fin
arguments_read [] sc st o fin is inside h alive = ap (λ (x : Pair). Ok x) (same_read (sc, st) fin h)
arguments_read (w ∷ ws) sc st o fin is inside h alive =
    let p = inner_parts (terminal_of w.kind w.bytes) (terminals ws) inside in
    let on = on_word sc st w ws fin (ap is_naming is) h alive in
    let goes : argument_step sc o (terminal_of w.kind w.bytes) ≡ Ok on.next =
    ap (λ (x : StatementState). step sc x w.line (terminal_of w.kind w.bytes)) (sym is) ∙ on.goes in
    let next = first_argument sc o (terminal_of w.kind w.bytes) on.next p.0 goes in
    let rest : read_words on.next.0 on.next.1 ws ≡ Ok fin = ap (λ (x : StatementState). read_words on.next.0 x ws)
    (sym (ending_arguments on.next.1 (w.at + length w.bytes) next.0 next.1)) ∙ on.rest in
    let one : inner sc st (terminal_of w.kind w.bytes) ≡ Ok on.next =
    ap (λ (x : StatementState). inner sc x (terminal_of w.kind w.bytes)) is ∙ goes in
    ap (λ (r : Answer). elim r [ Ok y ↦ inners y.0 y.1 (terminals ws) | Err c ↦ Err c ]) one
    ∙ arguments_read ws on.next.0 on.next.1 next.0 fin next.1 p.1 rest alive
