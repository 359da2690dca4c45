-- Whatever place words lead to, what is refused after them has the cause of that place.
use Rattle.std.proofs.Common.{◌≡◌, ℕ, ◌+◌, true, false, List, [], ◌∷◌, ◌++◌, length, Some, None, Ok, Err, refl, sym, ap, subst, ◌∙◌}
use Rattle.std.specs.List.{list_all}
use Rattle.asm_lex.specs.Words.{Word}
use Rattle.asm_argument.specs.declared.terminal.Terminal.{Terminal}
use Rattle.asm_argument.specs.declared.terminal.Terminal.TheVariants as terminal
use Rattle.asm_source.specs.declared.tree.Argument.{Argument}
use Rattle.asm_statement.specs.declared.directive.Directive.TheVariants as kind
use Rattle.asm_statement.specs.declared.directive.Head.{Head}
use Rattle.asm_statement.specs.declared.directive.Head.TheVariants as head
use Rattle.asm_statement.specs.declared.state.StatementState.{StatementState}
use Rattle.asm_statement.specs.declared.state.StatementState.TheVariants as state
use Rattle.asm_statement.specs.ScopeView.{ScopeView}
use Rattle.asm_statement.specs.Scope.{fresh}
use Rattle.asm_argument.specs.Terminals.{terminal_of}
use Rattle.asm_statement.specs.Directives.{shape_at, is_dotted, directive_of, is_section}
use Rattle.asm_statement.specs.Statement.{argument_step, nothing_yet, other_behind, step, doom}
use Rattle.asm_statement.specs.Items.{is_passed}
use Rattle.asm_statement.specs.Reading.{ending_at}
use Rattle.asm_parse.specs.Statements.{is_inner, Separated, Statement, terminals}
use Rattle.asm_parse.specs.Refusals.{StatementPlace, Leads, Opens, LeadsTo, Reaches}
use Rattle.asm_parse.proofs.Words.{read_words}
use Rattle.asm_parse.proofs.Stated.{inners, words_append, named_section, statements_run, of_list}
use Rattle.asm_parse.proofs.Places.{Suits, start_suits, named_suits, skip_suits}
use Rattle.asm_parse.proofs.Reread.{Pair, on_word, inner_parts, section_stays, first_argument, arguments_read, suits_at, same_pair, ending_arguments}
use Rattle.asm_parse.proofs.Unchanged.{skipped_state, head_same}
use Rattle.asm_parse.proofs.Reopened.{body_inner, IsColon, body_colon, arguments_reached}
use Rattle.asm_parse.proofs.Quiet.{Answer}

-- the first name of a statement
first_word : (w : Word) (ws : List Word) (sc : ScopeView) (n : List ℕ) (fin : Pair) → terminal_of w.kind w.bytes ≡ terminal.Name n
    → read_words sc state.Start (w ∷ ws) ≡ Ok fin → doom fin.0 fin.1 ≡ None → read_words sc (state.Named w.line n) ws ≡ Ok fin
first_word w ws sc n fin name h alive =
    let one = on_word sc state.Start w ws fin refl h alive in
    let first : one.next ≡ (sc, state.Named w.line n) =
    sym (same_pair (sc, state.Named w.line n) one.next (ap (step sc state.Start w.line) (sym name) ∙ one.goes)) in
    ap (λ (x : Pair). read_words x.0 (ending_at (w.at + length w.bytes) x.1) ws) (sym first) ∙ one.rest

read_same : (x y : Pair) → read_words x.0 x.1 [] ≡ Ok y → x ≡ y
read_same x y e = cc

at_first : (ps : List Word) (sc : ScopeView) (fin : Pair) → terminals ps ≡ [] → read_words sc state.Start ps ≡ Ok fin
    → Suits sc StatementPlace.first fin.0 fin.1
at_first [] sc fin e h = suits_at sc StatementPlace.first (sc, state.Start) fin (read_same (sc, state.Start) fin h) (start_suits sc)
at_first (w ∷ ws) sc fin e h = absurd cc

at_named : (ps : List Word) (sc : ScopeView) (n : List ℕ) (fin : Pair) → terminals ps ≡ terminal.Name n ∷ []
    → read_words sc state.Start ps ≡ Ok fin → doom fin.0 fin.1 ≡ None → Suits sc (StatementPlace.named n) fin.0 fin.1
at_named [] sc n fin e h alive = absurd cc
at_named (w ∷ []) sc n fin e h alive =
    let name : terminal_of w.kind w.bytes ≡ terminal.Name n = cc in
    let last : (sc, state.Named w.line n) ≡ fin = read_same (sc, state.Named w.line n) fin (first_word w [] sc n fin name h alive) in
    suits_at sc (StatementPlace.named n) (sc, state.Named w.line n) fin last
    (named_suits sc w.line n (ap (λ (x : Pair). doom x.0 x.1) last ∙ alive))
at_named (w ∷ v ∷ ws) sc n fin e h alive = absurd cc

at_section : (ps : List Word) (sc : ScopeView) (n m : List ℕ) (ss : List Terminal) (fin : Pair)
    → terminals ps ≡ terminal.Name n ∷ terminal.Name m ∷ ss → is_passed sc n ≡ false → is_dotted n ≡ true
    → directive_of n ≡ Some kind.Section → is_section m ≡ true → list_all is_inner ss ≡ true
    → read_words sc state.Start ps ≡ Ok fin → doom fin.0 fin.1 ≡ None → Suits sc StatementPlace.section fin.0 fin.1
at_section [] sc n m ss fin e go dotted dir is inside h alive = absurd cc
at_section (w ∷ []) sc n m ss fin e go dotted dir is inside h alive = absurd cc
at_section (w ∷ v ∷ ws) sc n m ss fin e go dotted dir is inside h alive =
    let name : terminal_of w.kind w.bytes ≡ terminal.Name n = cc in
    let behind : terminal_of v.kind v.bytes ≡ terminal.Name m = cc in
    let rest : terminals ws ≡ ss = cc in
    let two = on_word sc (state.Named w.line n) v ws fin refl (first_word w (v ∷ ws) sc n fin name h alive) alive in
    let next : two.next ≡ (sc, state.Sectioned w.line n m 0) =
    sym (same_pair (sc, state.Sectioned w.line n m 0) two.next
    (sym (ap (step sc (state.Named w.line n) v.line) behind ∙ named_section sc w.line n m go dotted dir is) ∙ two.goes)) in
    section_stays ws sc sc w.line n m (v.at + length v.bytes) fin (ap (list_all is_inner) rest ∙ inside)
    (ap (λ (x : Pair). read_words x.0 (ending_at (v.at + length v.bytes) x.1) ws) (sym next) ∙ two.rest) alive

-- ---- arguments

not_colon : (sc : ScopeView) (b line : ℕ) (n : List ℕ) (s : Terminal) (ss : List Terminal) → (IsColon (s ∷ ss) → ⊥)
    → step sc (state.Named b n) line s ≡ other_behind sc b n s
not_colon sc b line n terminal.Colon ss never = absurd (never tt)
not_colon sc b line n s ss never = refl

-- after a name that leads to arguments
behind_name : (w : Word) (ws : List Word) (sc : ScopeView) (n : List ℕ) (h : Head) (body : List Terminal) (fin : Pair)
    → terminal_of w.kind w.bytes ≡ terminal.Name n → terminals ws ≡ body → (body ≡ [] → ⊥) → list_all is_inner body ≡ true
    → (IsColon body → ⊥)
    → ((s : Terminal) → other_behind sc w.line n s ≡ argument_step sc (nothing_yet w.line h) s)
    → read_words sc state.Start (w ∷ ws) ≡ Ok fin → doom fin.0 fin.1 ≡ None
    → inners sc (state.Arguments (nothing_yet w.line h)) body ≡ Ok fin
behind_name w [] sc n h body fin name rest some inside never goes k alive = absurd (some (sym rest))
behind_name w (v ∷ ws) sc n h body fin name rest some inside never goes k alive =
    let two = on_word sc (state.Named w.line n) v ws fin refl (first_word w (v ∷ ws) sc n fin name k alive) alive in
    let never2 : IsColon (terminal_of v.kind v.bytes ∷ terminals ws) → ⊥ = subst (λ (x : List Terminal). IsColon x → ⊥) (sym rest) never in
    let inside2 : list_all is_inner (terminal_of v.kind v.bytes ∷ terminals ws) ≡ true = ap (list_all is_inner) rest ∙ inside in
    let p = inner_parts (terminal_of v.kind v.bytes) (terminals ws) inside2 in
    let argument_goes : argument_step sc (nothing_yet w.line h) (terminal_of v.kind v.bytes) ≡ Ok two.next =
    sym (not_colon sc w.line v.line n (terminal_of v.kind v.bytes) (terminals ws) never2 ∙ goes (terminal_of v.kind v.bytes)) ∙ two.goes in
    let opens_on = first_argument sc (nothing_yet w.line h) (terminal_of v.kind v.bytes) two.next p.0 argument_goes in
    let rest2 : read_words two.next.0 two.next.1 ws ≡ Ok fin = ap (λ (x : StatementState). read_words two.next.0 x ws)
    (sym (ending_arguments two.next.1 (v.at + length v.bytes) opens_on.0 opens_on.1)) ∙ two.rest in
    let all : inners sc (state.Arguments (nothing_yet w.line h)) (terminal_of v.kind v.bytes ∷ terminals ws) ≡ Ok fin =
    ap (λ (r : Answer). elim r [ Ok y ↦ inners y.0 y.1 (terminals ws) | Err c ↦ Err c ]) argument_goes
    ∙ arguments_read ws two.next.0 two.next.1 opens_on.0 fin opens_on.1 p.1 rest2 alive in
    ap (inners sc (state.Arguments (nothing_yet w.line h))) (sym rest) ∙ all

module _ (w v : Word) (ws : List Word) (sc : ScopeView) (body : List Terminal) (fin : Pair) (inside : list_all is_inner body ≡ true)
    (never : IsColon body → ⊥) (k : read_words sc state.Start (w ∷ v ∷ ws) ≡ Ok fin) (alive : doom fin.0 fin.1 ≡ None) where
  some_body : terminals (v ∷ ws) ≡ body → body ≡ [] → ⊥
  some_body e f = let g : terminals (v ∷ ws) ≡ [] = e ∙ f in absurd cc

  lead_read : {h : Head} {lead : List Terminal} → Leads sc h lead → terminals (w ∷ v ∷ ws) ≡ lead ++ body
      → inners sc (state.Arguments (nothing_yet w.line h)) body ≡ Ok fin
  lead_read (Leads.instruction {n} go dotted rep) e =
      let p = head_same (terminal_of w.kind w.bytes) (terminal.Name n) (terminals (v ∷ ws)) body e in
      behind_name w (v ∷ ws) sc n (head.Instruction false n) body fin p.0 p.1 (some_body p.1) inside never
      (λ s. rw (go, dotted, rep) refl) k alive
  lead_read (Leads.directive {n} {k = d} go dotted dir list) e =
      let p = head_same (terminal_of w.kind w.bytes) (terminal.Name n) (terminals (v ∷ ws)) body e in
      behind_name w (v ∷ ws) sc n (head.Directive d n) body fin p.0 p.1 (some_body p.1) inside never
      (λ s. rw (go, dotted, dir) (of_list d sc w.line n s list)) k alive
  lead_read (Leads.repeated {r} {n} go dotted rep) e =
      let p = head_same (terminal_of w.kind w.bytes) (terminal.Name r) (terminals (v ∷ ws)) (terminal.Name n ∷ body) e in
      let q = head_same (terminal_of v.kind v.bytes) (terminal.Name n) (terminals ws) body p.1 in
      let two = on_word sc (state.Named w.line r) v ws fin refl (first_word w (v ∷ ws) sc r fin p.0 k alive) alive in
      let named : step sc (state.Named w.line r) v.line (terminal.Name n) ≡ Ok
      (sc, state.Arguments (nothing_yet w.line (head.Instruction true n))) = rw (go, dotted, rep) refl in
      let next : two.next ≡ (sc, state.Arguments (nothing_yet w.line (head.Instruction true n))) =
      sym (same_pair (sc, state.Arguments (nothing_yet w.line (head.Instruction true n))) two.next
      (sym (ap (step sc (state.Named w.line r) v.line) q.0 ∙ named) ∙ two.goes)) in
      let rest : read_words sc (state.Arguments (nothing_yet w.line (head.Instruction true n))) ws ≡ Ok fin =
      ap (λ (x : Pair). read_words x.0 (ending_at (v.at + length v.bytes) x.1) ws) (sym next) ∙ two.rest in
      ap (inners sc (state.Arguments (nothing_yet w.line (head.Instruction true n)))) (sym q.1)
      ∙ arguments_read ws sc (state.Arguments (nothing_yet w.line (head.Instruction true n))) (nothing_yet w.line (head.Instruction true n))
      fin refl (ap (list_all is_inner) q.1 ∙ inside) rest alive

at_argument : (ps : List Word) (sc : ScopeView) {h : Head} {sc2 : ScopeView} {done : List Argument} (s t : Terminal)
    (ss lead front arg : List Terminal) (fin : Pair) → terminals ps ≡ s ∷ t ∷ ss → s ∷ t ∷ ss ≡ lead ++ (front ++ arg) → Leads sc h lead
    → Separated h sc front done sc2 → Opens (shape_at h (length done)) arg
    → read_words sc state.Start ps ≡ Ok fin → doom fin.0 fin.1 ≡ None → Suits sc (StatementPlace.argument h done sc2 arg) fin.0 fin.1
at_argument [] sc s t ss lead front arg fin e whole leads sep opens k alive = absurd cc
at_argument (w ∷ []) sc s t ss lead front arg fin e whole leads sep opens k alive = absurd cc
at_argument (w ∷ v ∷ ws) sc {h} {sc2} {done} s t ss lead front arg fin e whole leads sep opens k alive =
    arguments_reached sc w.line h lead front done sc2 leads sep arg opens fin
    (lead_read w v ws sc (front ++ arg) fin (body_inner sep opens) (λ c. body_colon sep opens c) k alive leads (e ∙ whole))

-- ---- all places

stands_suits : {sc : ScopeView} {xs : List Terminal} {p : StatementPlace} → LeadsTo sc xs p → (ps : List Word) (fin : Pair)
    → terminals ps ≡ xs → read_words sc state.Start ps ≡ Ok fin → doom fin.0 fin.1 ≡ None → Suits sc p fin.0 fin.1
stands_suits {sc} LeadsTo.first ps fin e k alive = at_first ps sc fin e k
stands_suits {sc} (LeadsTo.named {n}) ps fin e k alive = at_named ps sc n fin e k alive
stands_suits {sc} (LeadsTo.section {n} {m} ss go dotted dir is inside) ps fin e k alive =
    at_section ps sc n m ss fin e go dotted dir is inside k alive
stands_suits {sc} (LeadsTo.skipped {line} {ss} may) ps fin e k alive =
    let last =
    skipped_state ps sc line fin (λ rest inside. subst (λ (x : List Terminal). Statement sc line (x ++ (rest ++ terminal.End ∷ [])) sc)
    (sym e) (may rest inside)) k alive in
    suits_at sc StatementPlace.skipped (sc, state.Skip) fin (sym last) (skip_suits sc sc)
stands_suits {sc} (LeadsTo.argument {h} {sc2} {done} s t ss lead front arg whole leads sep opens) ps fin e k alive =
    at_argument ps sc s t ss lead front arg fin e whole leads sep opens k alive

-- What the reader refuses after these words has the cause of each place to which they lead.
pub reaches_suits : (ws : List Word) (sc0 : ScopeView) (p : StatementPlace) (fin : Pair) → Reaches ws sc0 p
    → read_words fresh state.Start ws ≡ Ok fin → doom fin.0 fin.1 ≡ None → Suits sc0 p fin.0 fin.1
reaches_suits ws sc0 p fin r k alive =
    stands_suits r.stands r.begun fin refl
    (sym (words_append r.before r.begun fresh state.Start (sc0, state.Start) (statements_run r.statements))
    ∙ (ap (read_words fresh state.Start) (sym r.whole) ∙ k)) alive
