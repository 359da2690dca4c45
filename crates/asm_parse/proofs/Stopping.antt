-- In a directive or an instruction a terminal that is refused has the cause of its place.
use Rattle.std.proofs.Common.{◌≡◌, ℕ, Bool, true, false, cond, List, [], ◌∷◌, ◌++◌, length, Option, Some, None, Result, Ok, Err, refl, sym, ap, subst, ◌∙◌, ◌⊎◌, inl, inr, arith}
use Rattle.std.proofs.lemmas.Bool.{ltb-true, and_parts}
use Rattle.std.specs.Prelude.{◌==◌, ◌&&◌, not, nat_lt}
use Rattle.asm_lex.specs.declared.fault.SourceCause.{SourceCause}
use Rattle.asm_lex.specs.declared.fault.SourceCause.TheVariants as cause
use Rattle.asm_argument.specs.declared.terminal.Terminal.{Terminal}
use Rattle.asm_argument.specs.declared.terminal.Terminal.TheVariants as terminal
use Rattle.asm_argument.specs.declared.shape.Shape.{Shape}
use Rattle.asm_argument.specs.declared.shape.Shape.TheVariants as shape
use Rattle.asm_argument.specs.declared.operand.Partial.{Partial}
use Rattle.asm_argument.specs.declared.operand.Partial.TheVariants as partial
use Rattle.asm_source.specs.declared.tree.Argument.{Argument}
use Rattle.asm_source.specs.declared.tree.Form.{Form}
use Rattle.asm_statement.specs.declared.directive.Directive.{Directive}
use Rattle.asm_statement.specs.declared.directive.Directive.TheVariants as kind
use Rattle.asm_statement.specs.declared.directive.Head.{Head}
use Rattle.asm_statement.specs.declared.directive.Head.TheVariants as head
use Rattle.asm_statement.specs.declared.state.Open.{Open}
use Rattle.asm_statement.specs.declared.state.StatementState.{StatementState}
use Rattle.asm_statement.specs.declared.state.StatementState.TheVariants as state
use Rattle.asm_statement.specs.ScopeView.{ScopeView}
use Rattle.asm_argument.specs.Operand.{next_terminal, operand_step, is_finished, is_unbegun, is_nothing, name_in}
use Rattle.asm_argument.specs.Shapes.{is_operand, takes_names}
use Rattle.asm_statement.specs.Directives.{shape_at, directive_shape, least, defines, is_instruction}
use Rattle.asm_statement.specs.Statement.{noting, argument_cause, cause_in, after_noting, with_name, after_step, at_shape, within, argument_of, ended, ended_as, comma_behind, end_behind, complete, is_bare, takes_star, with_scope, argument_step}
use Rattle.asm_statement.specs.Openings.{misplaced}
use Rattle.asm_parse.specs.Refusals.{name_cause, operand_cause, value_cause}
use Rattle.asm_argument.proofs.Operands.{ok, allowed_ok, Spelled}
use Rattle.asm_parse.proofs.Names.{named_in, name_step, is_finished_some, operand_next}
use Rattle.asm_parse.proofs.Said.{stars, InArguments, sees_none}
use Rattle.asm_parse.proofs.Tails.{percents, indexed, minuses, signs, frees, Tail, spelled_tail}
use Rattle.asm_parse.proofs.Refusing.{takes_name, operand_at, operand_ends, operand_err, operand_name, value_by, value_at, value_ends, is_cut, value_err, value_first, value_none, unbegun_err, missing_is, noting_cause, not_both}
use Rattle.asm_parse.proofs.Quiet.{Answer}

pub same_fault : (a c : SourceCause) → ◌≡◌ {A = Answer} (Err a) (Err c) → a ≡ c
same_fault a c h = cc

-- of a terminal in an argument
abbrev in_argument : Head → List Argument → ScopeView → List Terminal → Terminal → SourceCause
in_argument h done sc arg s = cond (is_instruction h) (operand_cause arg s) (value_cause h done sc arg s)

-- ---- how a terminal is refused

data Fails (sc : ScopeView) (o : Open) (s : Terminal) (c : SourceCause) : Type 0 where
  inside : within sc o s ≡ Err c → (is_cut s ≡ true → is_finished o.so_far ≡ false) → Fails sc o s c
  many : (n : ℕ) → s ≡ terminal.Comma → is_finished o.so_far ≡ true → shape_at o.head n ≡ None → cause.BadArgument ≡ c → Fails sc o s c
  few : (n : ℕ) → s ≡ terminal.End → (is_nothing o.so_far ≡ true) ⊎ (is_finished o.so_far ≡ true) → nat_lt n (least o.head) ≡ true
      → cause.BadArgument ≡ c → Fails sc o s c

shape_fails : (sc : ScopeView) (line : ℕ) (h : Head) (done : List Argument) (r : Option Shape) (c : SourceCause)
    → ◌≡◌ {A = Answer} (with_scope sc (argument_of line h done r)) (Err c) → (r ≡ None) × (cause.BadArgument ≡ c)
shape_fails sc line h done None c e = (refl, same_fault cause.BadArgument c e)
shape_fails sc line h done (Some sh) c e = absurd cc

count_fails : (t : Bool) (x : ScopeView × StatementState) (c : SourceCause) → ◌≡◌ {A = Answer} (cond t (Err cause.BadArgument) (Ok x))
    (Err c) → (t ≡ true) × (cause.BadArgument ≡ c)
count_fails true x c e = (refl, same_fault cause.BadArgument c e)
count_fails false x c e = absurd cc

comma_fails : (sc : ScopeView) (o : Open) (c : SourceCause) (t : Bool) → is_finished o.so_far ≡ t
    → ◌≡◌ {A = Answer} (cond t (comma_behind sc (ended o)) (within sc o terminal.Comma)) (Err c) → Fails sc o terminal.Comma c
comma_fails sc o c false e h = Fails.inside h (λ k. e)
comma_fails sc o c true e h =
    let f = is_finished_some o.so_far e in
    let g = shape_fails sc o.line o.head (o.arguments ++ record { star = o.star; form = f.0 } ∷ [])
    (shape_at o.head (length (o.arguments ++ record { star = o.star; form = f.0 } ∷ []))) c
    (sym (ap (λ (x : Option Form). comma_behind sc (ended_as o x)) f.1) ∙ h) in
    Fails.many (length (o.arguments ++ record { star = o.star; form = f.0 } ∷ [])) refl e g.0 g.1

end_fails : (sc : ScopeView) (o : Open) (c : SourceCause) (t : Bool) → is_bare o ≡ t → (u : Bool) → is_finished o.so_far ≡ u
    → ◌≡◌ {A = Answer} (cond t (complete sc o.line o.head o.arguments) (cond u (end_behind sc (ended o)) (within sc o terminal.End)))
    (Err c) → Fails sc o terminal.End c
end_fails sc o c true e u f h =
    let g = count_fails (nat_lt (length o.arguments) (least o.head)) _ c h in
    Fails.few (length o.arguments) refl
    (inl (and_parts (is_nothing o.so_far) (not o.star) (and_parts (is_nothing o.so_far && not o.star) (length o.arguments == 0) e).0).0) g.0
    g.1
end_fails sc o c false e false f h = Fails.inside h (λ k. f)
end_fails sc o c false e true f h =
    let k = is_finished_some o.so_far f in
    let g = count_fails (nat_lt (length (o.arguments ++ record { star = o.star; form = k.0 } ∷ [])) (least o.head)) _ c
    (sym (ap (λ (x : Option Form). end_behind sc (ended_as o x)) k.1) ∙ h) in
    Fails.few (length (o.arguments ++ record { star = o.star; form = k.0 } ∷ [])) refl (inr f) g.0 g.1

star_fails : (sc : ScopeView) (o : Open) (c : SourceCause) (t : Bool)
    → ◌≡◌ {A = Answer} (cond t (Ok (sc, state.Arguments (record o { star = true }))) (within sc o terminal.Star)) (Err c)
    → Fails sc o terminal.Star c
star_fails sc o c true h = absurd cc
star_fails sc o c false h = Fails.inside h (λ k. absurd cc)

fails : (sc : ScopeView) (o : Open) (s : Terminal) (c : SourceCause) → argument_step sc o s ≡ Err c → Fails sc o s c
fails sc o terminal.Comma c h = comma_fails sc o c (is_finished o.so_far) refl h
fails sc o terminal.End c h = end_fails sc o c (is_bare o) refl (is_finished o.so_far) refl h
fails sc o terminal.Star c h = star_fails sc o c (takes_star o) h
fails sc o _ c h = Fails.inside h (λ k. absurd cc)

-- ---- the heads

instruction_is : (h : Head) (i : ℕ) → is_instruction h ≡ true → (shape_at h i ≡ Some shape.Operand) × (least h ≡ 0) × (defines h i ≡ false)
instruction_is (head.Instruction r n) i e = (refl, refl, refl)
instruction_is (head.Directive k n) i e = absurd cc

shape_one : (t : Bool) (a sh : Shape) (r : Option Shape) → is_operand a ≡ false → (r ≡ Some sh → is_operand sh ≡ false)
    → cond t (Some a) r ≡ Some sh → is_operand sh ≡ false
shape_one true a sh r e f h = let g : a ≡ sh = cc in subst (λ (x : Shape). is_operand x ≡ false) g e
shape_one false a sh r e f h = f h

shape_none : (sh : Shape) → ◌≡◌ {A = Option Shape} None (Some sh) → is_operand sh ≡ false
shape_none sh h = absurd cc

shape_some : (a sh : Shape) → is_operand a ≡ false → ◌≡◌ {A = Option Shape} (Some a) (Some sh) → is_operand sh ≡ false
shape_some a sh e h = let g : a ≡ sh = cc in subst (λ (x : Shape). is_operand x ≡ false) g e

directive_is : (k : Directive) (i : ℕ) (sh : Shape) → directive_shape k i ≡ Some sh → is_operand sh ≡ false
directive_is kind.Bytes i sh h = shape_some shape.Number sh refl h
directive_is kind.Longs i sh h = shape_some shape.Value sh refl h
directive_is kind.Strings i sh h = shape_some shape.Text sh refl h
directive_is kind.Global i sh h = shape_one (i == 0) shape.Name sh None refl (shape_none sh) h
directive_is kind.Zero i sh h = shape_one (i == 0) shape.Count sh None refl (shape_none sh) h
directive_is kind.Aligned i sh h = shape_one (i == 0) shape.Alignment sh None refl (shape_none sh) h
directive_is kind.Powered i sh h = shape_one (i == 0) shape.Power sh _ refl
    (shape_one (i == 1) shape.Fill sh _ refl (shape_one (i == 2) shape.Count sh None refl (shape_none sh))) h
directive_is kind.Common i sh h = shape_one (i == 0) shape.Name sh _ refl
    (shape_one (i == 1) shape.Count sh _ refl (shape_one (i == 2) shape.Alignment sh None refl (shape_none sh))) h
directive_is kind.LocalCommon i sh h =
    shape_one (i == 0) shape.Name sh _ refl (shape_one (i == 1) shape.Count sh None refl (shape_none sh)) h
directive_is _ i sh h = absurd cc

no_operand : (h : Head) (i : ℕ) (sh : Shape) → is_instruction h ≡ false → shape_at h i ≡ Some sh → is_operand sh ≡ false
no_operand (head.Instruction r n) i sh e h = absurd cc
no_operand (head.Directive k n) i sh e h = directive_is k i sh h

-- ---- what has been read

star_tail : (b : Bool) → Tail (stars b ++ []) false false false false true
star_tail true = record { percent_is = refl; index_is = refl; minus_is = refl; sign_is = refl; free_is = refl }
star_tail false = record { percent_is = refl; index_is = refl; minus_is = refl; sign_is = refl; free_is = refl }

operand_tail : (p : Partial) (star : Bool) (ss : List Terminal) → Spelled shape.Operand p ss → (is_unbegun p ≡ false → ss ≡ [] → ⊥)
    → Tail (stars star ++ ss) (percents p) (indexed p) (minuses p) (signs p) (frees p)
operand_tail partial.Nothing star ss sp solid = rw sp (star_tail star)
operand_tail partial.Absent star ss sp solid = absurd (not_both sp.1 refl)
operand_tail p star ss sp solid = spelled_tail shape.Operand p star ss (solid refl) sp

no_absent : (p : Partial) (ss : List Terminal) → Spelled shape.Operand p ss → p ≡ partial.Absent → ⊥
no_absent p ss sp e = let g : Spelled shape.Operand partial.Absent ss =
    subst (λ (x : Partial). Spelled shape.Operand x ss) e sp in not_both g.1 refl

unbegun_nil : (sh : Shape) (p : Partial) (ss : List Terminal) → Spelled sh p ss → is_unbegun p ≡ true → ss ≡ []
unbegun_nil sh partial.Nothing ss sp u = sp
unbegun_nil sh partial.Absent ss sp u = sp.0
unbegun_nil sh _ ss sp u = absurd cc

finished_unsigned : (p : Partial) → is_finished p ≡ true → signs p ≡ false
finished_unsigned (partial.Name a n) h = refl
finished_unsigned (partial.Number a v) h = refl
finished_unsigned (partial.Whole f) h = refl
finished_unsigned partial.Absent h = refl
finished_unsigned _ h = absurd cc

-- only the first terminal of a directive's argument is a name
value_name : (sh : Shape) (p : Partial) (ss m n : List ℕ) (q : Partial) (ts : List Terminal) → is_operand sh ≡ false → is_unbegun p ≡ false
    → Spelled sh p ts → next_terminal sh p (terminal.Name m) ≡ ok q → name_in q ≡ Some n → ⊥
value_name sh partial.Dollar ss m n q ts other u sp h e = not_both sp.0 other
value_name sh partial.Percent ss m n q ts other u sp h e = not_both sp.0 other
value_name sh (partial.BasePercent v) ss m n q ts other u sp h e = not_both sp.operand other
value_name sh (partial.IndexPercent v b) ss m n q ts other u sp h e = not_both sp.operand other
value_name sh _ ss m n q ts other u sp h e = absurd cc

name_taken : (sh : Shape) (p : Partial) (m : List ℕ) (q : Partial) → is_unbegun p ≡ true → next_terminal sh p (terminal.Name m) ≡ ok q
    → takes_names sh ≡ true
name_taken sh partial.Nothing m q u h = (allowed_ok (takes_names sh) _ q h).0
name_taken sh partial.Absent m q u h = (allowed_ok (takes_names sh) _ q h).0
name_taken sh _ m q u h = absurd cc

name_fails : (o : Open) (r : Result ScopeView SourceCause) (c : SourceCause) → ◌≡◌ {A = Answer} (after_noting o r) (Err c) → r ≡ Err c
name_fails o (Ok x) c h = absurd cc
name_fails o (Err d) c h = ap (λ (x : SourceCause). Err x) (same_fault d c h)

instruction_cause : (h : Head) (nothing : Bool) (other c : SourceCause) → is_instruction h ≡ true → cause_in h nothing other c ≡ c
instruction_cause h nothing other c e = rw e refl

module _ (sc0 : ScopeView) (line : ℕ) (o : Open) (ss : List Terminal) (sc : ScopeView) (w : InArguments sc0 line o ss sc) where
  spelled_as : (sh : Shape) → shape_at o.head (length o.arguments) ≡ Some sh → Spelled sh o.so_far w.arg
  spelled_as sh may = elim w.spelled [
    | inl (e, f) ↦ subst (λ (p : Partial). Spelled sh p w.arg) (sym e) f
    | inr (sh2, may2, sp) ↦ let same : sh2 ≡ sh =
        some_same sh2 sh (sym may2 ∙ may) in subst (λ (x : Shape). Spelled x o.so_far w.arg) same sp
  ]
    where
      some_same : (a b : Shape) → ◌≡◌ {A = Option Shape} (Some a) (Some b) → a ≡ b
      some_same a b e = cc

  -- ---- an instruction

  operand_within : (s : Terminal) (c : SourceCause) → is_instruction o.head ≡ true → within sc o s ≡ Err c → operand_at o.so_far s ≡ c
  operand_within s c i h =
      by_step (operand_step shape.Operand o.so_far s) refl (sym (ap (at_shape sc o s) (instruction_is o.head (length o.arguments) i).0) ∙ h)
    where
      sp : Spelled shape.Operand o.so_far w.arg
      sp = spelled_as shape.Operand (instruction_is o.head (length o.arguments) i).0

      by_name : (q : Partial) → operand_step shape.Operand o.so_far s ≡ Ok q → with_name sc (record o { so_far = q }) (name_in q) ≡ Err c
          → operand_at o.so_far s ≡ c
      by_name q e k = elim (name_step shape.Operand o.so_far s q (operand_next shape.Operand o.so_far s q e)) [
        | inl t ↦ let g : ◌≡◌ {A = Answer} (with_name sc (record o { so_far = q }) None) (Err c) =
            sym (ap (with_name sc (record o { so_far = q })) t.0) ∙ k in absurd cc
        | inr (n, a, b, d, is) ↦
            let f : after_noting (record o { so_far = q }) (noting sc (defines o.head (length o.arguments)) n) ≡ Err c =
            sym (ap (with_name sc (record o { so_far = q })) a) ∙ k in
            let g : noting sc false n ≡ Err c = sym (ap (λ (x : Bool). noting sc x n) (instruction_is o.head (length o.arguments) i).2)
            ∙ name_fails (record o { so_far = q }) _ c f in
            let step : next_terminal shape.Operand o.so_far (terminal.Name n) ≡ ok q =
            sym (ap (next_terminal shape.Operand o.so_far) is) ∙ operand_next shape.Operand o.so_far s q e in
            ap (operand_at o.so_far) is ∙ (operand_name o.so_far n n q (no_absent o.so_far w.arg sp) step a ∙ noting_cause sc false n c g)
      ]

      by_step : (r : Result Partial SourceCause) → operand_step shape.Operand o.so_far s ≡ r → after_step sc o s r ≡ Err c
          → operand_at o.so_far s ≡ c
      by_step (Err d) e k =
          operand_err o.so_far s d e ∙ (sym (instruction_cause o.head (is_unbegun o.so_far) (misplaced s) d i) ∙ same_fault _ c k)
      by_step (Ok q) e k = by_name q e k

  operand_fails : (s : Terminal) (c : SourceCause) → is_instruction o.head ≡ true → Fails sc o s c → operand_at o.so_far s ≡ c
  operand_fails s c i (Fails.inside h cut) = operand_within s c i h
  operand_fails s c i (Fails.many n is f none e) = let g : ◌≡◌ {A = Option Shape} None (Some shape.Operand) =
      sym none ∙ (instruction_is o.head n i).0 in absurd cc
  operand_fails s c i (Fails.few n is f count e) = let g : nat_lt n 0 ≡ true =
      sym (ap (nat_lt n) (instruction_is o.head n i).1) ∙ count in absurd (never n g)
    where
      never : (n : ℕ) → nat_lt n 0 ≡ true → ⊥
      never n g = absurd (omega (arith, ltb-true n 0 g))

  operand_refused : (s : Terminal) (c : SourceCause) → is_instruction o.head ≡ true → Fails sc o s c
      → in_argument o.head o.arguments w.behind (stars o.star ++ w.arg) s ≡ c
  operand_refused s c i f =
      let t = operand_tail o.so_far o.star w.arg (spelled_as shape.Operand (instruction_is o.head (length o.arguments) i).0) w.solid in
      rw i (operand_ends (stars o.star ++ w.arg) _ _ _ _ _ t s ∙ operand_fails s c i f)

  -- ---- a directive

  unstarred : is_instruction o.head ≡ false → o.star ≡ false
  unstarred i = by_star o.star refl
    where
      by_star : (t : Bool) → o.star ≡ t → o.star ≡ false
      by_star true e = absurd (not_both (w.starred e) i)
      by_star false e = e

  -- the cause where nothing of an argument has been read, and where something has
  nothing_read : (s : Terminal) (d : SourceCause) → w.arg ≡ [] → value_first (takes_name (shape_at o.head (length o.arguments))) w.behind
      (defines o.head (length o.arguments)) s ≡ d → value_cause o.head o.arguments w.behind w.arg s ≡ d
  nothing_read s d e h =
      ap (λ (x : List Terminal). value_cause o.head o.arguments w.behind x s) e ∙ (value_none o.head o.arguments w.behind s ∙ h)

  something_read : (sh : Shape) (s : Terminal) (d : SourceCause) → Spelled sh o.so_far w.arg → is_unbegun o.so_far ≡ false
      → value_at o.so_far s ≡ d → value_cause o.head o.arguments w.behind w.arg s ≡ d
  something_read sh s d sp u h =
      value_ends o.head o.arguments w.behind w.arg _ _ _ _ _ (w.solid u) (spelled_tail sh o.so_far false w.arg (w.solid u) sp) s ∙ h

  -- nothing may stand there
  unshaped : (s : Terminal) (c : SourceCause) → shape_at o.head (length o.arguments) ≡ None → ◌≡◌ {A = Answer} (Err (misplaced s)) (Err c)
      → value_cause o.head o.arguments w.behind w.arg s ≡ c
  unshaped s c none h = elim w.spelled [
    | inl (e, f) ↦ nothing_read s c f
        (sym (missing_is s (takes_name (shape_at o.head (length o.arguments))) w.behind (defines o.head (length o.arguments))
        (ap takes_name none)) ∙ same_fault _ c h)
    | inr (sh, may, sp) ↦ let g : ◌≡◌ {A = Option Shape} None (Some sh) = sym none ∙ may in absurd cc
  ]

  directive_cause : (nothing : Bool) (s : Terminal) (d c : SourceCause) → is_instruction o.head ≡ false → is_unbegun o.so_far ≡ nothing
      → ◌≡◌ {A = Answer} (Err (cause_in o.head (is_unbegun o.so_far) (misplaced s) d)) (Err c) → argument_cause nothing (misplaced s) d ≡ c
  directive_cause nothing s d c i u h = same_fault (argument_cause nothing (misplaced s) d) c (sym fault ∙ h)
    where
      fault : ◌≡◌ {A = Answer} (Err (cause_in o.head (is_unbegun o.so_far) (misplaced s) d)) (Err (argument_cause nothing (misplaced s) d))
      fault = rw (i, u) refl

  -- it doesn't go on with the argument
  value_step : (sh : Shape) (s : Terminal) (d c : SourceCause) → is_instruction o.head ≡ false
      → shape_at o.head (length o.arguments) ≡ Some sh → (is_cut s ≡ true → is_finished o.so_far ≡ false)
      → operand_step sh o.so_far s ≡ Err d
      → ◌≡◌ {A = Answer} (Err (cause_in o.head (is_unbegun o.so_far) (misplaced s) d)) (Err c) → (t : Bool) → is_unbegun o.so_far ≡ t
      → value_cause o.head o.arguments w.behind w.arg s ≡ c
  value_step sh s d c i may cut e h true u =
      let first : value_first (takes_names sh) w.behind (defines o.head (length o.arguments)) s ≡ c =
      sym (unbegun_err sh o.so_far w.behind (defines o.head (length o.arguments)) s d u e) ∙ directive_cause true s d c i u h in
      nothing_read s c (unbegun_nil sh o.so_far w.arg (spelled_as sh may) u)
      (ap (λ (x : Option Shape). value_first (takes_name x) w.behind (defines o.head (length o.arguments)) s) may ∙ first)
  value_step sh s d c i may cut e h false u =
      something_read sh s c (spelled_as sh may) u
      (sym (value_err sh o.so_far w.arg s (misplaced s) d (no_operand o.head (length o.arguments) sh i may) u (spelled_as sh may) cut e)
      ∙ directive_cause false s d c i u h)

  -- it may not say this name
  value_said : (sh : Shape) (s : Terminal) (q : Partial) (c : SourceCause) → is_instruction o.head ≡ false
      → shape_at o.head (length o.arguments) ≡ Some sh → next_terminal sh o.so_far s ≡ ok q
      → with_name sc (record o { so_far = q }) (name_in q) ≡ Err c
      → (t : Bool) → is_unbegun o.so_far ≡ t → value_cause o.head o.arguments w.behind w.arg s ≡ c
  value_said sh s q c i may e k t u = elim (name_step sh o.so_far s q e) [
    | inl x ↦ let g : ◌≡◌ {A = Answer} (with_name sc (record o { so_far = q }) None) (Err c) =
        sym (ap (with_name sc (record o { so_far = q })) x.0) ∙ k in absurd cc
    | inr (n, a, b, d, is) ↦
        let f : noting sc (defines o.head (length o.arguments)) n ≡ Err c =
        name_fails (record o { so_far = q }) _ c (sym (ap (with_name sc (record o { so_far = q })) a) ∙ k) in
        let step : next_terminal sh o.so_far (terminal.Name n) ≡ ok q = sym (ap (next_terminal sh o.so_far) is) ∙ e in
        let same : w.behind ≡ sc = sees_none w.behind sc (defines o.head (length o.arguments)) (named_in o.so_far) d w.sees in
        by_begun n a step is (ap (λ (x : ScopeView). name_cause x (defines o.head (length o.arguments)) n) same ∙ noting_cause sc
        (defines o.head (length o.arguments)) n c f) t u
  ]
    where
      by_begun : (n : List ℕ) → name_in q ≡ Some n → next_terminal sh o.so_far (terminal.Name n) ≡ ok q → s ≡ terminal.Name n
          → name_cause w.behind (defines o.head (length o.arguments)) n ≡ c → (t : Bool) → is_unbegun o.so_far ≡ t
          → value_cause o.head o.arguments w.behind w.arg s ≡ c
      by_begun n a step is cause true u =
          let takes = name_taken sh o.so_far n q u step in
          let first : value_first (takes_name (shape_at o.head (length o.arguments))) w.behind (defines o.head (length o.arguments))
          (terminal.Name n) ≡ name_cause w.behind (defines o.head (length o.arguments)) n = rw (may, takes) refl in
          nothing_read s c (unbegun_nil sh o.so_far w.arg (spelled_as sh may) u)
          (ap (value_first (takes_name (shape_at o.head (length o.arguments))) w.behind (defines o.head (length o.arguments)))
          is ∙ (first ∙ cause))
      by_begun n a step is cause false u =
          absurd (value_name sh o.so_far n n n q w.arg (no_operand o.head (length o.arguments) sh i may) u (spelled_as sh may) step a)

  value_within : (s : Terminal) (c : SourceCause) → is_instruction o.head ≡ false → (is_cut s ≡ true → is_finished o.so_far ≡ false)
      → (r : Option Shape) → shape_at o.head (length o.arguments) ≡ r → at_shape sc o s r ≡ Err c
      → value_cause o.head o.arguments w.behind w.arg s ≡ c
  value_within s c i cut None may h = unshaped s c may h
  value_within s c i cut (Some sh) may h = by_step (operand_step sh o.so_far s) refl h
    where
      by_step : (r : Result Partial SourceCause) → operand_step sh o.so_far s ≡ r → after_step sc o s r ≡ Err c
          → value_cause o.head o.arguments w.behind w.arg s ≡ c
      by_step (Err d) e k = value_step sh s d c i may cut e k (is_unbegun o.so_far) refl
      by_step (Ok q) e k = value_said sh s q c i may (operand_next sh o.so_far s q e) k (is_unbegun o.so_far) refl

  -- a comma or an end after a whole argument, or where none has been read
  whole_read : (s : Terminal) → is_cut s ≡ true → is_finished o.so_far ≡ true
      → value_cause o.head o.arguments w.behind w.arg s ≡ cause.BadArgument
  whole_read s cut fin = elim w.spelled [
    | inl (e, f) ↦ let g : is_finished partial.Nothing ≡ true = sym (ap is_finished e) ∙ fin in absurd cc
    | inr (sh, may, sp) ↦ by_begun sh sp (is_unbegun o.so_far) refl
  ]
    where
      first_cut : (s : Terminal) (t : Bool) → is_cut s ≡ true → value_first t w.behind (defines o.head (length o.arguments))
          s ≡ cause.BadArgument
      first_cut terminal.Comma t e = refl
      first_cut terminal.End t e = refl
      first_cut _ t e = absurd cc

      cut_unsigned : (s : Terminal) (t : Bool) → is_cut s ≡ true → value_by t false s ≡ cause.BadArgument
      cut_unsigned terminal.Comma t e = refl
      cut_unsigned terminal.End t e = refl
      cut_unsigned _ t e = absurd cc

      by_begun : (sh : Shape) → Spelled sh o.so_far w.arg → (t : Bool) → is_unbegun o.so_far ≡ t
          → value_cause o.head o.arguments w.behind w.arg s ≡ cause.BadArgument
      by_begun sh sp true u = nothing_read s cause.BadArgument (unbegun_nil sh o.so_far w.arg sp u) (first_cut s _ cut)
      by_begun sh sp false u = something_read sh s cause.BadArgument sp u
          (ap (λ (x : Bool). value_by (minuses o.so_far) x s) (finished_unsigned o.so_far fin) ∙ cut_unsigned s (minuses o.so_far) cut)

  nothing_ends : is_nothing o.so_far ≡ true → value_cause o.head o.arguments w.behind w.arg terminal.End ≡ cause.BadArgument
  nothing_ends h = nothing_read terminal.End cause.BadArgument nil refl
    where
      is_the_nothing : (p : Partial) → is_nothing p ≡ true → p ≡ partial.Nothing
      is_the_nothing partial.Nothing h = refl
      is_the_nothing _ h = absurd cc

      nil : w.arg ≡ []
      nil = elim w.spelled [
        | inl (e, f) ↦ f
        | inr (sh, may, sp) ↦ subst (λ (x : Partial). Spelled sh x w.arg) (is_the_nothing o.so_far h) sp
      ]

  value_fails : (s : Terminal) (c : SourceCause) → is_instruction o.head ≡ false → Fails sc o s c
      → value_cause o.head o.arguments w.behind w.arg s ≡ c
  value_fails s c i (Fails.inside h cut) = value_within s c i cut (shape_at o.head (length o.arguments)) refl h
  value_fails s c i (Fails.many n is fin none e) = rw is (whole_read terminal.Comma refl fin ∙ e)
  value_fails s c i (Fails.few n is (inl f) count e) = rw is (nothing_ends f ∙ e)
  value_fails s c i (Fails.few n is (inr fin) count e) = rw is (whole_read terminal.End refl fin ∙ e)

  value_refused : (s : Terminal) (c : SourceCause) → is_instruction o.head ≡ false → Fails sc o s c
      → in_argument o.head o.arguments w.behind (stars o.star ++ w.arg) s ≡ c
  value_refused s c i f = rw (i, unstarred i) (value_fails s c i f)

  -- The cause is that of the place.
  pub argument_refused : (s : Terminal) (c : SourceCause) → argument_step sc o s ≡ Err c
      → in_argument o.head o.arguments w.behind (stars o.star ++ w.arg) s ≡ c
  argument_refused s c h = by_head (is_instruction o.head) refl
    where
      by_head : (t : Bool) → is_instruction o.head ≡ t → in_argument o.head o.arguments w.behind (stars o.star ++ w.arg) s ≡ c
      by_head true i = operand_refused s c i (fails sc o s c h)
      by_head false i = value_refused s c i (fails sc o s c h)
