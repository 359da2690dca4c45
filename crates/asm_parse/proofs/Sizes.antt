-- What is read is no more than the text.
use Rattle.std.proofs.Common.{◌≡◌, ℕ, ◌+◌, ◌≤◌, true, false, List, [], ◌∷◌, ◌++◌, length, Option, Some, refl, sym, ap, subst, ◌∙◌, ◌⊎◌, inl, inr, arith}
use Rattle.std.proofs.lemmas.List.{length-append}
use Rattle.asm_lex.specs.declared.lexing.TheConstants.{LIMIT}
use Rattle.asm_lex.specs.Words.{Word}
use Rattle.asm_argument.specs.declared.terminal.Terminal.{Terminal}
use Rattle.asm_argument.specs.declared.terminal.Terminal.TheVariants as terminal
use Rattle.asm_argument.specs.declared.shape.Shape.{Shape}
use Rattle.asm_argument.specs.declared.operand.Partial.TheVariants as partial
use Rattle.asm_argument.specs.declared.operand.Partial.{Partial}
use Rattle.asm_source.specs.declared.tree.Value.{Value}
use Rattle.asm_source.specs.declared.tree.Form.{Form}
use Rattle.asm_source.specs.declared.tree.Form.TheVariants as form
use Rattle.asm_source.specs.declared.tree.Argument.{Argument}
use Rattle.asm_source.specs.declared.tree.Body.TheVariants as body
use Rattle.asm_source.specs.declared.tree.SourceItem.{SourceItem}
use Rattle.asm_statement.specs.declared.directive.Head.{Head}
use Rattle.asm_statement.specs.declared.directive.Head.TheVariants as head
use Rattle.asm_statement.specs.ScopeView.{ScopeView}
use Rattle.asm_statement.specs.Scope.{pushed}
use Rattle.asm_argument.specs.Operand.{begun}
use Rattle.asm_argument.specs.Shapes.{takes_absent}
use Rattle.asm_argument.specs.Grammar.{IsValue, IsAddress, IsForm}
use Rattle.asm_statement.specs.Items.{item_of, sectioned}
use Rattle.asm_statement.specs.Directives.{shape_at}
use Rattle.asm_parse.specs.Statements.{IsArgument, Separated, HasArguments, Statement, terminals, text_of, IsStatement, Statements}
use Rattle.std.specs.Prelude.{IfOk, Result, Ok, Err}
use Rattle.asm_lex.specs.declared.fault.SourceFault.{SourceFault}
use Rattle.asm_argument.specs.Terminals.{terminal_of}
use Rattle.asm_parse.specs.Source.{Says}
use Rattle.asm_statement.specs.Running.{Parses, read}
use Rattle.asm_parse.proofs.Sources.{parsed_is}
use Rattle.asm_source.specs.Size.{name_size, form_size, arguments_size, body_size, body_count, items_size, items_count}
use Rattle.asm_argument.proofs.Operands.{absent_begun}
use Rattle.asm_parse.proofs.ScopeItems.{sees_items, resumed_items}
use Rattle.asm_parse.proofs.Stated.{first_shape}
use Rattle.asm_parse.proofs.Costs.{cost, costs, costs-append, weight, ArePaid, paid_costs, lexed_pays}

-- ---- one argument

value_pays : {sh : Shape} {ss : List Terminal} {v : Value} → IsValue sh ss v → (name_size v.name ≤ costs ss) × (1 ≤ length ss)
value_pays (IsValue.number t f) = (omega arith, omega arith)
value_pays (IsValue.negative t l f) = (omega arith, omega arith)
value_pays (IsValue.name t) = (omega arith, omega arith)
value_pays (IsValue.sum t u c) = (omega arith, omega arith)
value_pays (IsValue.difference t u c) = (omega arith, omega arith)

address_pays : {ss : List Terminal} {b i : Option (List ℕ)} {s : ℕ} → IsAddress ss b i s
    → (name_size b + name_size i ≤ costs ss) × (1 ≤ length ss)
address_pays (IsAddress.base r) = (omega arith, omega arith)
address_pays (IsAddress.index r) = (omega arith, omega arith)
address_pays (IsAddress.scaled r t) = (omega arith, omega arith)
address_pays (IsAddress.base_index r t) = (omega arith, omega arith)
address_pays (IsAddress.base_scaled r t u) = (omega arith, omega arith)

record FormPays (sh : Shape) (ss : List Terminal) (f : Form) : Type 0 where
  size : form_size f ≤ costs ss
  some : (takes_absent sh ≡ true) ⊎ (1 ≤ length ss)

form_pays : {sh : Shape} {ss : List Terminal} {f : Form} → IsForm sh ss f → FormPays sh ss f
form_pays (IsForm.absent h) = record { size = omega arith; some = inl h }
form_pays (IsForm.text h) = record { size = omega arith; some = inr (omega arith) }
form_pays (IsForm.register h g) = record { size = omega arith; some = inr (omega arith) }
form_pays (IsForm.immediate h v) = let p = value_pays v in record { size = omega (arith, p.0); some = inr (omega arith) }
form_pays (IsForm.value v) = let p = value_pays v in record { size = omega (arith, p.0); some = inr p.1 }
form_pays (IsForm.address h a) = let p = address_pays a in record { size = omega (arith, p.0); some = inr p.1 }
form_pays (IsForm.value_address vs ps h e v a) =
    let p = value_pays v in
    let q = address_pays a in
    record {
      size = omega (arith, ap costs e, costs-append vs ps, p.0, q.0);
      some = inr (omega (arith, ap length e, length-append vs ps, p.1));
    }

argument_pays : {sh : Shape} {ss : List Terminal} {a : Argument} → IsArgument sh ss a → FormPays sh ss a.form
argument_pays (IsArgument.plain f) = form_pays f
argument_pays (IsArgument.starred h f) = let p = form_pays f in record { size = omega (arith, p.size); some = inr (omega arith) }

-- ---- arguments

size-append : (xs ys : List Argument) → arguments_size (xs ++ ys) ≡ arguments_size xs + arguments_size ys
size-append [] ys = omega arith
size-append (x ∷ xs) ys = omega (arith, size-append xs ys)

nothing_absent : {A : Type 0} (p : Partial) → p ≡ partial.Nothing → p ≡ partial.Absent → A
nothing_absent p e f = absurd cc

-- a first argument is there
first_some : (h : Head) (sh : Shape) (n : ℕ) → shape_at h 0 ≡ Some sh → (takes_absent sh ≡ true) ⊎ (1 ≤ n) → 1 ≤ n
first_some h sh n may (inr le) = le
first_some h sh n may (inl absent) = nothing_absent (begun sh) (first_shape h sh may) (absent_begun sh absent)

record ListPays (h : Head) (sc sc2 : ScopeView) (ss : List Terminal) (args : List Argument) : Type 0 where
  size : arguments_size args ≤ costs ss
  count : length args ≤ length ss
  same : sc2.items ≡ sc.items

record SeparatedPays (h : Head) (sc sc2 : ScopeView) (ss : List Terminal) (args : List Argument) : Type 0 where
  size : arguments_size args ≤ costs ss
  count : (args ≡ []) ⊎ (length args + 1 ≤ length ss)
  same : sc2.items ≡ sc.items

separated_pays : {h : Head} {sc sc2 : ScopeView} {ss : List Terminal} {args : List Argument} → Separated h sc ss args sc2
    → SeparatedPays h sc sc2 ss args
separated_pays Separated.none = record { size = omega arith; count = inl refl; same = refl }
separated_pays {h} (Separated.more {ss} {ts} {before} {a} {sc1} {sc2} sep next) =
    let p = separated_pays sep in
    let q = argument_pays next.is in
    record {
      size = omega (
        arith,
        size-append before (a ∷ []),
        costs-append ss (ts ++ terminal.Comma ∷ []),
        costs-append ts (terminal.Comma ∷ []),
        p.size,
        q.size,
      );
      count = inr (elim p.count [
        | inl e ↦
            let may : shape_at h 0 ≡ Some next.shape = ap (λ (x : List Argument). shape_at h (length x)) (sym e) ∙ next.may in
            let one = first_some h next.shape (length ts) may q.some in
            omega (
              arith,
              one,
              ap length e,
              length-append before (a ∷ []),
              length-append ss (ts ++ terminal.Comma ∷ []),
              length-append ts (terminal.Comma ∷ []),
            )
        | inr le ↦ omega (
          arith,
          le,
          length-append before (a ∷ []),
          length-append ss (ts ++ terminal.Comma ∷ []),
          length-append ts (terminal.Comma ∷ []),
        )
      ]);
      same = sees_items sc1 sc2 _ _ next.sees ∙ p.same;
    }

arguments_pay : {h : Head} {sc sc2 : ScopeView} {ss : List Terminal} {args : List Argument} → HasArguments h sc ss args sc2
    → ListPays h sc sc2 ss args
arguments_pay HasArguments.none = record { size = omega arith; count = omega arith; same = refl }
arguments_pay {h} (HasArguments.some {ss} {ts} {before} {a} {sc1} {sc2} sep next) =
    let p = separated_pays sep in
    let q = argument_pays next.is in
    record {
      size = omega (arith, size-append before (a ∷ []), costs-append ss ts, p.size, q.size);
      count = elim p.count [
        | inl e ↦
            let may : shape_at h 0 ≡ Some next.shape = ap (λ (x : List Argument). shape_at h (length x)) (sym e) ∙ next.may in
            let one = first_some h next.shape (length ts) may q.some in
            omega (arith, one, ap length e, length-append before (a ∷ []), length-append ss ts)
        | inr le ↦ omega (arith, le, length-append before (a ∷ []), length-append ss ts)
      ];
      same = sees_items sc1 sc2 _ _ next.sees ∙ p.same;
    }

-- ---- statements

items_end : (xs : List SourceItem) (x : SourceItem) → (items_size (xs ++ x ∷ []) ≡ items_size xs + body_size x.body)
    × (items_count (xs ++ x ∷ []) ≡ items_count xs + body_count x.body)
items_end [] x = (omega arith, omega arith)
items_end (y ∷ xs) x = let p = items_end xs x in (omega (arith, p.0), omega (arith, p.1))

pub record StatementPays (sc sc2 : ScopeView) (ss : List Terminal) : Type 0 where
  pub size : items_size sc2.items + 1 ≤ items_size sc.items + costs ss
  pub count : items_count sc2.items + 1 ≤ items_count sc.items + length ss

-- an item after those of a scope that has the same
pushed_pays : (sc sc1 sc2 : ScopeView) (x : SourceItem) (ss : List Terminal) → sc1.items ≡ sc.items → sc2.items ≡ sc1.items ++ x ∷ []
    → body_size x.body + 1 ≤ costs ss → body_count x.body + 1 ≤ length ss → StatementPays sc sc2 ss
pushed_pays sc sc1 sc2 x ss same new size count =
    let e : sc2.items ≡ sc.items ++ x ∷ [] = new ∙ ap (λ (xs : List SourceItem). xs ++ x ∷ []) same in
    let p = items_end sc.items x in
    record { size = omega (arith, ap items_size e, p.0, size); count = omega (arith, ap items_count e, p.1, count) }

same_pays : (sc : ScopeView) (s : Terminal) (ss : List Terminal) → StatementPays sc sc (s ∷ (ss ++ terminal.End ∷ []))
same_pays sc s ss =
    record { size = omega (arith, costs-append ss (terminal.End ∷ [])); count = omega (arith, length-append ss (terminal.End ∷ [])) }

statement_pays : {sc sc2 : ScopeView} {line : ℕ} {ss : List Terminal} → Statement sc line ss sc2 → StatementPays sc sc2 ss
statement_pays Statement.empty = record { size = omega arith; count = omega arith }
statement_pays {sc} {line} (Statement.label {sc2} {n} sk seen) =
    pushed_pays sc sc2 _ (record { line = line; body = body.Label n }) (terminal.Name n ∷ terminal.Colon ∷ [])
    (sees_items sc sc2 true (Some n) seen) refl (omega arith) (omega arith)
statement_pays {sc} {line} (Statement.instruction {sc2} {n} {ss} {args} passed dotted rep has) =
    let p = arguments_pay has in
    pushed_pays sc sc2 _ (item_of line (head.Instruction false n) args) (terminal.Name n ∷ (ss ++ terminal.End ∷ [])) p.same refl
    (omega (arith, p.size, costs-append ss (terminal.End ∷ []))) (omega (arith, p.count, length-append ss (terminal.End ∷ [])))
statement_pays {sc} {line} (Statement.repeated {sc2} {r} {n} {ss} {args} passed dotted rep has) =
    let p = arguments_pay has in
    pushed_pays sc sc2 _ (item_of line (head.Instruction true n) args) (terminal.Name r ∷ terminal.Name n ∷ (ss ++ terminal.End ∷ []))
    p.same refl (omega (arith, p.size, costs-append ss (terminal.End ∷ []))) (omega (arith, p.count, length-append ss (terminal.End ∷ [])))
statement_pays {sc} {line} (Statement.directive {sc2} {n} {k} {ss} {args} passed dotted dir list has count) =
    let p = arguments_pay has in
    pushed_pays sc sc2 _ (item_of line (head.Directive k n) args) (terminal.Name n ∷ (ss ++ terminal.End ∷ [])) p.same
    (resumed_items (pushed sc2 (item_of line (head.Directive k n) args)) (head.Directive k n))
    (omega (arith, p.size, costs-append ss (terminal.End ∷ []))) (omega (arith, p.count, length-append ss (terminal.End ∷ [])))
statement_pays {sc} (Statement.skipped_directive {n} ss passed dotted dir u h) = same_pays sc (terminal.Name n) ss
statement_pays {sc} (Statement.skipped_label {n} sk) = record { size = omega arith; count = omega arith }
statement_pays {sc} (Statement.skipped {n} ss passed u h) = same_pays sc (terminal.Name n) ss
statement_pays {sc} (Statement.nameless {s} ss sk k h) = same_pays sc s ss

-- ---- a source

terminals-length : (ws : List Word) → length (terminals ws) ≡ length ws
terminals-length [] = refl
terminals-length (w ∷ ws) = omega (arith, terminals-length ws)

paid_front : (ws vs : List Word) → ArePaid (ws ++ vs) → ArePaid ws
paid_front [] vs h = tt
paid_front (w ∷ ws) vs h = (h.0, paid_front ws vs h.1)

paid_back : (ws vs : List Word) → ArePaid (ws ++ vs) → ArePaid vs
paid_back [] vs h = h
paid_back (w ∷ ws) vs h = paid_back ws vs h.1

weight-append : (ws vs : List Word) → weight (ws ++ vs) ≡ weight ws + weight vs
weight-append [] vs = omega arith
weight-append (w ∷ ws) vs = omega (arith, weight-append ws vs)

length-text_of : (ws : List Word) → length (text_of ws) ≡ weight ws
length-text_of [] = refl
length-text_of (w ∷ ws) = omega (arith, length-append w.bytes (text_of ws), length-text_of ws)

record PiecePays (sc sc2 : ScopeView) (ws : List Word) : Type 0 where
  size : items_size sc2.items + 1 ≤ items_size sc.items + weight ws
  count : items_count sc2.items + 1 ≤ items_count sc.items + length ws

section_pays : (sc : ScopeView) (w v : Word) (parts rest : List Word) (n m : List ℕ) (ss : List Terminal)
    → terminal_of w.kind w.bytes ≡ terminal.Name n → terminal_of v.kind v.bytes ≡ terminal.Name m → terminals rest ≡ ss ++ terminal.End ∷ []
    → ArePaid (w ∷ v ∷ (parts ++ rest)) → PiecePays sc (sectioned sc w.line n (m ++ text_of parts)) (w ∷ v ∷ (parts ++ rest))
section_pays sc w v parts rest n m ss wn vm end paid =
    let p =
    items_end sc.items (record {
      line = w.line;
      body = body.Directive n (record { star = false; form = form.Text (m ++ text_of parts) } ∷ []);
    }) in
    let first : length n ≤ length w.bytes = omega (arith, paid.0, ap cost wn) in
    let second : length m ≤ length v.bytes = omega (arith, paid.1.0, ap cost vm) in
    let last : 1 ≤ weight rest =
    omega (arith, paid_costs rest (paid_back parts rest paid.1.1), ap costs end, costs-append ss (terminal.End ∷ [])) in
    let some : 1 ≤ length rest = omega (arith, terminals-length rest, ap length end, length-append ss (terminal.End ∷ [])) in
    record {
      size = omega (arith, p.0, first, second, last, length-append m (text_of parts), length-text_of parts, weight-append parts rest);
      count = omega (arith, p.1, some, length-append parts rest);
    }

piece_pays : {sc sc2 : ScopeView} {ws : List Word} → IsStatement sc ws sc2 → ArePaid ws → PiecePays sc sc2 ws
piece_pays (IsStatement.plain w ws st) paid =
    let p = statement_pays st in
    record { size = omega (arith, p.size, paid_costs (w ∷ ws) paid); count = omega (arith, p.count, terminals-length (w ∷ ws)) }
piece_pays {sc} (IsStatement.section {n} {m} w v parts rest ss wn passed dotted dir vm is touch end flags) paid =
    section_pays sc w v parts rest n m ss wn vm end paid

-- with one to spare where there is a statement
record SourcePays (sc sc2 : ScopeView) (ws : List Word) : Type 0 where
  size : (sc2.items ≡ sc.items) ⊎ (items_size sc2.items + 1 ≤ items_size sc.items + weight ws)
  count : (sc2.items ≡ sc.items) ⊎ (items_count sc2.items + 1 ≤ items_count sc.items + length ws)

statements_pay : {sc sc2 : ScopeView} {ws : List Word} → Statements sc ws sc2 → ArePaid ws → SourcePays sc sc2 ws
statements_pay Statements.none paid = record { size = inl refl; count = inl refl }
statements_pay {ws} (Statements.more piece rest e st tail) paid =
    let paid2 : ArePaid (piece ++ rest) = subst ArePaid e paid in
    let p = piece_pays st (paid_front piece rest paid2) in
    let q = statements_pay tail (paid_back piece rest paid2) in
    let bytes : weight ws ≡ weight piece + weight rest = ap weight e ∙ weight-append piece rest in
    let number : length ws ≡ length piece + length rest = ap length e ∙ length-append piece rest in
    record {
      size = inr (elim q.size [ inl s ↦ omega (arith, ap items_size s, p.size, bytes) | inr le ↦ omega (arith, le, p.size, bytes) ]);
      count = inr (elim q.count [ inl s ↦ omega (arith, ap items_count s, p.count, number) | inr le ↦ omega (arith, le, p.count, number) ]);
    }

-- All names and strings are no longer than the text, and items and arguments no more than its bytes.
pub source_pays : (text : List ℕ) (items : List SourceItem) → Says text items → (items_size items ≤ length text)
    × (items_count items ≤ length text)
source_pays text items (ws, sc, lexed, statements, is) =
    let l = lexed_pays lexed in
    let p = statements_pay statements l.each in (
      elim p.size [
        | inl e ↦ omega (arith, ap items_size (sym is ∙ e))
        | inr le ↦
            omega (arith, le, ap items_size is, l.bytes, length-append text (10 ∷ []))
      ],
      elim p.count [
        | inl e ↦ omega (arith, ap items_count (sym is ∙ e))
        | inr le ↦
            omega (arith, le, ap items_count is, l.count, length-append text (10 ∷ []))
      ],
    )

pub parsed_size : (text : List ℕ) (x : Result (List SourceItem) SourceFault) → length text ≤ LIMIT → Parses x (read text)
    → IfOk x (λ s. items_size s ≤ length text)
parsed_size text (Ok x) small p = let s = parsed_is text (Ok x) small p in (source_pays text x s.1).0
parsed_size text (Err e) small p = tt

pub parsed_count : (text : List ℕ) (x : Result (List SourceItem) SourceFault) → length text ≤ LIMIT → Parses x (read text)
    → IfOk x (λ s. items_count s ≤ length text)
parsed_count text (Ok x) small p = let s = parsed_is text (Ok x) small p in (source_pays text x s.1).1
parsed_count text (Err e) small p = tt
