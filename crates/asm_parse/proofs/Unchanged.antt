-- A statement that leaves what was said as it is, and what is read of one that isn't read.
use Rattle.std.proofs.Common.{◌≡◌, ℕ, ◌+◌, Bool, true, false, List, [], ◌∷◌, ◌++◌, length, None, Ok, refl, sym, ap, subst, ◌∙◌, ◌⊎◌, inl, inr, arith}
use Rattle.std.specs.List.{list_all}
use Rattle.std.proofs.lemmas.List.{length-append}
use Rattle.asm_lex.specs.declared.fault.SourceCause.TheVariants as cause
use Rattle.asm_lex.specs.Words.{Word}
use Rattle.asm_argument.specs.declared.terminal.Terminal.{Terminal}
use Rattle.asm_argument.specs.declared.terminal.Terminal.TheVariants as terminal
use Rattle.asm_source.specs.declared.tree.Argument.{Argument}
use Rattle.asm_source.specs.declared.tree.SourceItem.{SourceItem}
use Rattle.asm_source.specs.declared.tree.Body.TheVariants as body
use Rattle.asm_statement.specs.declared.directive.Head.{Head}
use Rattle.asm_statement.specs.declared.directive.Head.TheVariants as head
use Rattle.asm_statement.specs.declared.state.StatementState.{StatementState}
use Rattle.asm_statement.specs.declared.state.StatementState.TheVariants as state
use Rattle.asm_statement.specs.ScopeView.{ScopeView}
use Rattle.asm_statement.specs.Scope.{pushed}
use Rattle.asm_argument.specs.Terminals.{terminal_of}
use Rattle.asm_statement.specs.Statement.{skip, unless_skipping, other_behind, step, doom, with_scope}
use Rattle.asm_statement.specs.Items.{item_of, resumed}
use Rattle.asm_statement.specs.Reading.{ending_at}
use Rattle.asm_parse.specs.Statements.{Separated, HasArguments, is_inner, is_unlabelled, is_nameless, Statement, terminals}
use Rattle.asm_source.specs.Names.{symbol_in}
use Rattle.asm_statement.specs.Directives.{defines}
use Rattle.asm_parse.proofs.Words.{read_words}
use Rattle.asm_parse.proofs.ScopeItems.{seen_items, sees_items, resumed_items}
use Rattle.asm_parse.proofs.Reread.{Pair, on_word, inner_parts, skip_stays, same_pair, skip_inner}

-- ---- what a statement says is one item more

separated_items : {h : Head} {sc sc2 : ScopeView} {ss : List Terminal} {args : List Argument} → Separated h sc ss args sc2
    → sc2.items ≡ sc.items
separated_items Separated.none = refl
separated_items {h} {sc} {sc2} (Separated.more {ss} {ts} {before} {a} {sc1} sep next) =
    sees_items sc1 sc2 (defines h (length before)) (symbol_in a.form) next.sees ∙ separated_items sep

has_items : {h : Head} {sc sc2 : ScopeView} {ss : List Terminal} {args : List Argument} → HasArguments h sc ss args sc2
    → sc2.items ≡ sc.items
has_items HasArguments.none = refl
has_items {h} {sc} {sc2} (HasArguments.some {ss} {ts} {before} {a} {sc1} sep next) =
    sees_items sc1 sc2 (defines h (length before)) (symbol_in a.form) next.sees ∙ separated_items sep

one_more_item : (xs : List SourceItem) (x : SourceItem) → xs ++ x ∷ [] ≡ xs → ⊥
one_more_item xs x e =
    let size : length (xs ++ x ∷ []) ≡ length xs = ap (λ (ys : List SourceItem). length ys) e in
    omega (arith, size, length-append xs (x ∷ []))

pushed_not : (sc sc2 : ScopeView) (h : Head) (x : SourceItem) → sc2.items ≡ sc.items → resumed (pushed sc2 x) h ≡ sc → ⊥
pushed_not sc sc2 h x e same =
    let items : sc2.items ++ x ∷ [] ≡ sc.items = sym (resumed_items (pushed sc2 x) h) ∙ ap (λ (s : ScopeView). s.items) same in
    one_more_item sc2.items x (items ∙ sym e)

said_not : (sc sc2 : ScopeView) (x : SourceItem) → sc2.items ≡ sc.items → pushed sc2 x ≡ sc → ⊥
said_not sc sc2 x e same = one_more_item sc2.items x (ap (λ (s : ScopeView). s.items) same ∙ sym e)

-- ---- the statements that say nothing

pub data Passed (sc : ScopeView) : List Terminal → Type 0 where
  empty : Passed sc (terminal.End ∷ [])
  label : {n : List ℕ} → Passed sc (terminal.Name n ∷ terminal.Colon ∷ [])
  named : {n : List ℕ} (ss : List Terminal) → ((line : ℕ) (s : Terminal) → other_behind sc line n s ≡ Ok (sc, skip s))
      → is_unlabelled ss ≡ true → list_all is_inner ss ≡ true → Passed sc (terminal.Name n ∷ (ss ++ terminal.End ∷ []))
  nameless : {s : Terminal} (ss : List Terminal) → sc.skipping ≡ true → is_nameless s ≡ true → list_all is_inner ss ≡ true
      → Passed sc (s ∷ (ss ++ terminal.End ∷ []))

pub passed : {sc sc2 : ScopeView} {line : ℕ} {xs : List Terminal} → Statement sc line xs sc2 → sc2 ≡ sc → Passed sc xs
passed Statement.empty e = Passed.empty
passed {sc} {sc2} {line} (Statement.label {sc2 = mid} {n} sk seen) e =
    absurd (said_not sc mid (record { line = line; body = body.Label n }) (seen_items seen) e)
passed {sc} {sc2} {line} (Statement.instruction {sc2 = mid} {n} {ss} {args} go dotted rep has) e =
    absurd (said_not sc mid (item_of line (head.Instruction false n) args) (has_items has) e)
passed {sc} {sc2} {line} (Statement.repeated {sc2 = mid} {r} {n} {ss} {args} go dotted rep has) e =
    absurd (said_not sc mid (item_of line (head.Instruction true n) args) (has_items has) e)
passed {sc} {sc2} {line} (Statement.directive {sc2 = mid} {n} {k} {ss} {args} go dotted dir list has count) e =
    absurd (pushed_not sc mid (head.Directive k n) (item_of line (head.Directive k n) args) (has_items has) e)
passed (Statement.skipped_directive ss go dotted dir u h) e = Passed.named ss (λ line s. rw (go, dotted, dir) refl) u h
passed (Statement.skipped_label sk) e = Passed.label
passed (Statement.skipped ss go u h) e = Passed.named ss (λ line s. rw go refl) u h
passed (Statement.nameless ss sk k h) e = Passed.nameless ss sk k h

-- ---- what they look like

never_nil : (zs : List Terminal) → [] ≡ zs ++ terminal.End ∷ [] → ⊥
never_nil [] e = absurd cc
never_nil (z ∷ zs) e = absurd cc

ends_same : (xs ys : List Terminal) → xs ++ terminal.End ∷ [] ≡ ys ++ terminal.End ∷ [] → xs ≡ ys
ends_same [] [] e = refl
ends_same [] (y ∷ ys) e = let rest : [] ≡ ys ++ terminal.End ∷ [] = cc in absurd (never_nil ys rest)
ends_same (x ∷ xs) [] e = let rest : xs ++ terminal.End ∷ [] ≡ [] = cc in absurd (never_nil xs (sym rest))
ends_same (x ∷ xs) (y ∷ ys) e =
    let first : x ≡ y = cc in
    let rest : xs ++ terminal.End ∷ [] ≡ ys ++ terminal.End ∷ [] = cc in
    ap (λ (z : Terminal). z ∷ xs) first ∙ ap (λ (zs : List Terminal). y ∷ zs) (ends_same xs ys rest)

colon_first : (ss rest : List Terminal) → is_unlabelled ss ≡ true → ss ++ terminal.End ∷ [] ≡ terminal.Colon ∷ rest → ⊥
colon_first [] rest u e = absurd cc
colon_first (terminal.Colon ∷ ss) rest u e = absurd cc
colon_first (s ∷ ss) rest u e = absurd cc

name_not : (s : Terminal) (n : List ℕ) → is_nameless s ≡ true → s ≡ terminal.Name n → ⊥
name_not s n k e = let f : is_nameless (terminal.Name n) ≡ true = ap is_nameless (sym e) ∙ k in absurd cc

-- no statement that says nothing is a name with two colons
two_colons : {sc : ScopeView} {xs : List Terminal} (n : List ℕ) → Passed sc xs
    → xs ≡ terminal.Name n ∷ terminal.Colon ∷ terminal.Colon ∷ terminal.End ∷ [] → ⊥
two_colons n Passed.empty e = absurd cc
two_colons n Passed.label e = absurd cc
two_colons n (Passed.named ss go u h) e = let f : ss ++ terminal.End ∷ [] ≡ terminal.Colon ∷ terminal.Colon ∷ terminal.End ∷ [] =
    cc in colon_first ss (terminal.Colon ∷ terminal.End ∷ []) u f
two_colons n (Passed.nameless {s} ss sk k h) e = let f : s ≡ terminal.Name n = cc in name_not s n k f

-- after a name: what may follow, none of it a colon first
record Behind (sc : ScopeView) (n : List ℕ) (ss : List Terminal) : Type 0 where
  goes : (line : ℕ) (s : Terminal) → other_behind sc line n s ≡ Ok (sc, skip s)
  unlabelled : is_unlabelled ss ≡ true
  inside : list_all is_inner ss ≡ true

two_long : (n m : List ℕ) (t : Terminal) (ss : List Terminal) → terminal.Name m ∷ terminal.Colon ∷ [] ≡ terminal.Name
    n ∷ t ∷ (ss ++ terminal.End ∷ []) → ⊥
two_long n m t [] e = absurd cc
two_long n m t (s ∷ ss) e = absurd cc

name_same : (n m : List ℕ) (xs ys : List Terminal) → terminal.Name m ∷ xs ≡ terminal.Name n ∷ ys → (m ≡ n) × (xs ≡ ys)
name_same n m xs ys e = (cc, cc)

named_passed : {sc : ScopeView} {xs : List Terminal} (n : List ℕ) (t : Terminal) (ss : List Terminal) → Passed sc xs
    → xs ≡ terminal.Name n ∷ t ∷ (ss ++ terminal.End ∷ []) → Behind sc n (t ∷ ss)
named_passed n t ss Passed.empty e = absurd cc
named_passed n t ss (Passed.label {n = m}) e = absurd (two_long n m t ss e)
named_passed {sc} n t ss (Passed.named {n = m} rest go u h) e =
    let same = name_same n m (rest ++ terminal.End ∷ []) (t ∷ (ss ++ terminal.End ∷ [])) e in
    let all : rest ≡ t ∷ ss = ends_same rest (t ∷ ss) same.1 in
    record {
      goes = subst (λ (k : List ℕ). (line : ℕ) (s : Terminal) → other_behind sc line k s ≡ Ok (sc, skip s)) same.0 go;
      unlabelled = ap is_unlabelled (sym all) ∙ u;
      inside = ap (list_all is_inner) (sym all) ∙ h;
    }
named_passed n t ss (Passed.nameless {s} rest sk k h) e = let f : s ≡ terminal.Name n = cc in absurd (name_not s n k f)

record Front (sc : ScopeView) (s : Terminal) (ss : List Terminal) : Type 0 where
  skips : sc.skipping ≡ true
  is : is_nameless s ≡ true
  inside : list_all is_inner ss ≡ true

pub head_same : (s t : Terminal) (xs ys : List Terminal) → s ∷ xs ≡ t ∷ ys → (s ≡ t) × (xs ≡ ys)
head_same s t xs ys e = (cc, cc)

front_passed : {sc : ScopeView} {xs : List Terminal} (s : Terminal) (ss : List Terminal) → ((n : List ℕ) → s ≡ terminal.Name n → ⊥)
    → Passed sc xs → xs ≡ s ∷ (ss ++ terminal.End ∷ []) → Front sc s ss
front_passed s ss other Passed.empty e = absurd (never_nil ss (head_same terminal.End s [] (ss ++ terminal.End ∷ []) e).1)
front_passed s ss other (Passed.label {n}) e =
    absurd (other n (sym (head_same (terminal.Name n) s (terminal.Colon ∷ []) (ss ++ terminal.End ∷ []) e).0))
front_passed s ss other (Passed.named {n} rest go u h) e =
    absurd (other n (sym (head_same (terminal.Name n) s (rest ++ terminal.End ∷ []) (ss ++ terminal.End ∷ []) e).0))
front_passed s ss other (Passed.nameless {s = t} rest sk k h) e =
    let same = head_same t s (rest ++ terminal.End ∷ []) (ss ++ terminal.End ∷ []) e in
    let all : rest ≡ ss = ends_same rest ss same.1 in
    record { skips = sk; is = ap is_nameless (sym same.0) ∙ k; inside = ap (list_all is_inner) (sym all) ∙ h }

-- ---- what is read of them

not_colon : (sc : ScopeView) (line : ℕ) (n : List ℕ) (s : Terminal) (ss : List Terminal) → is_unlabelled (s ∷ ss) ≡ true
    → step sc (state.Named line n) line s ≡ other_behind sc line n s
not_colon sc line n terminal.Colon ss u = absurd cc
not_colon sc line n s ss u = refl

start_skips : (sc : ScopeView) (line : ℕ) (s : Terminal) → sc.skipping ≡ true → is_nameless s ≡ true
    → step sc state.Start line s ≡ Ok (sc, state.Skip)
start_skips sc line (terminal.Name n) sk k = absurd cc
start_skips sc line terminal.End sk k = absurd cc
start_skips sc line terminal.Big sk k = ap (λ (t : Bool). with_scope sc (unless_skipping t cause.BadNumber)) sk
start_skips sc line s sk k = ap (λ (t : Bool). with_scope sc (unless_skipping t cause.BadOperand)) sk

after_name : (w : Word) (v : Word) (ws : List Word) (sc : ScopeView) (n : List ℕ) (fin : Pair)
    → terminal_of w.kind w.bytes ≡ terminal.Name n → Behind sc n (terminal_of v.kind v.bytes ∷ terminals ws)
    → read_words sc state.Start (w ∷ v ∷ ws) ≡ Ok fin → doom fin.0 fin.1 ≡ None → fin ≡ (sc, state.Skip)
after_name w v ws sc n fin name b h alive =
    let one = on_word sc state.Start w (v ∷ ws) fin refl h alive in
    let first : one.next ≡ (sc, state.Named w.line n) =
    sym (same_pair (sc, state.Named w.line n) one.next (ap (step sc state.Start w.line) (sym name) ∙ one.goes)) in
    let h2 : read_words sc (state.Named w.line n) (v ∷ ws) ≡ Ok fin =
    ap (λ (x : Pair). read_words x.0 (ending_at (w.at + length w.bytes) x.1) (v ∷ ws)) (sym first) ∙ one.rest in
    let two = on_word sc (state.Named w.line n) v ws fin refl h2 alive in
    let p = inner_parts (terminal_of v.kind v.bytes) (terminals ws) b.inside in
    let goes : Ok (sc, state.Skip) ≡ Ok two.next = ap (λ (x : StatementState). Ok (sc, x))
    (sym (skip_inner (terminal_of v.kind v.bytes) p.0))
    ∙ (sym (b.goes w.line (terminal_of v.kind v.bytes))
    ∙ (sym (not_colon sc w.line n (terminal_of v.kind v.bytes) (terminals ws) b.unlabelled) ∙ two.goes)) in
    let second : two.next ≡ (sc, state.Skip) = sym (same_pair (sc, state.Skip) two.next goes) in
    skip_stays ws sc fin p.1 (ap (λ (x : Pair). read_words x.0 (ending_at (v.at + length v.bytes) x.1) ws) (sym second) ∙ two.rest) alive

after_front : (w : Word) (ws : List Word) (sc : ScopeView) (fin : Pair) → Front sc (terminal_of w.kind w.bytes) (terminals ws)
    → read_words sc state.Start (w ∷ ws) ≡ Ok fin → doom fin.0 fin.1 ≡ None → fin ≡ (sc, state.Skip)
after_front w ws sc fin b h alive =
    let one = on_word sc state.Start w ws fin refl h alive in
    let first : one.next ≡ (sc, state.Skip) =
    sym (same_pair (sc, state.Skip) one.next (sym (start_skips sc w.line (terminal_of w.kind w.bytes) b.skips b.is) ∙ one.goes)) in
    skip_stays ws sc fin b.inside (ap (λ (x : Pair). read_words x.0 (ending_at (w.at + length w.bytes) x.1) ws) (sym first) ∙ one.rest)
    alive

abbrev pub MaySkip : ScopeView → ℕ → List Terminal → Type 0
MaySkip sc line ss = (rest : List Terminal) → list_all is_inner rest ≡ true → Statement sc line (ss ++ (rest ++ terminal.End ∷ [])) sc

is_a_name : (s : Terminal) → ((n : List ℕ) × (s ≡ terminal.Name n)) ⊎ ((n : List ℕ) → s ≡ terminal.Name n → ⊥)
is_a_name (terminal.Name n) = inl (n, refl)
is_a_name _ = inr (λ n e. absurd cc)

pub skipped_state : (ps : List Word) (sc : ScopeView) (line : ℕ) (fin : Pair) → MaySkip sc line (terminals ps)
    → read_words sc state.Start ps ≡ Ok fin → doom fin.0 fin.1 ≡ None → fin ≡ (sc, state.Skip)
skipped_state [] sc line fin may h alive =
    absurd (two_colons [] (passed (may (terminal.Name [] ∷ terminal.Colon ∷ terminal.Colon ∷ []) refl) refl) refl)
skipped_state (w ∷ []) sc line fin may h alive = elim (is_a_name (terminal_of w.kind w.bytes)) [
  | inl (n, e) ↦ absurd (two_colons n (passed (may (terminal.Colon ∷ terminal.Colon ∷ []) refl) refl)
      (ap (λ (s : Terminal). s ∷ terminal.Colon ∷ terminal.Colon ∷ terminal.End ∷ []) e))
  | inr other ↦ after_front w [] sc fin (front_passed (terminal_of w.kind w.bytes) [] other (passed (may [] refl) refl) refl) h alive
]
skipped_state (w ∷ v ∷ ws) sc line fin may h alive = elim (is_a_name (terminal_of w.kind w.bytes)) [
  | inl (n, e) ↦
      after_name w v ws sc n fin e
      (named_passed n (terminal_of v.kind v.bytes) (terminals ws) (passed (may [] refl) refl)
      (ap (λ (s : Terminal). s ∷ terminal_of v.kind v.bytes ∷ (terminals ws ++ terminal.End ∷ [])) e)) h alive
  | inr other ↦ after_front w (v ∷ ws) sc fin
      (front_passed (terminal_of w.kind w.bytes) (terminals (v ∷ ws)) other (passed (may [] refl) refl) refl) h alive
]
