-- What is read terminal by terminal is what the cases of the grammar say.
use Rattle.std.proofs.Common.{◌≡◌, ℕ, Bool, true, false, cond, List, [], ◌∷◌, ◌++◌, length, Option, Some, None, Result, Ok, Err, refl, sym, ap, subst, ◌∙◌, ◌⊎◌, inl, inr, append_assoc, arith}
use Rattle.std.specs.Prelude.{◌==◌, ◌&&◌, not, nat_lt}
use Rattle.std.specs.List.{list_all}
use Rattle.std.proofs.lemmas.List.{append-nil, nil_from_length}
use Rattle.std.proofs.lemmas.Bool.{eqb-true, not-true}
use Rattle.asm_lex.specs.declared.fault.SourceCause.{SourceCause}
use Rattle.asm_lex.specs.declared.fault.SourceCause.TheVariants as cause
use Rattle.asm_argument.specs.declared.terminal.Terminal.{Terminal}
use Rattle.asm_argument.specs.declared.terminal.Terminal.TheVariants as terminal
use Rattle.asm_argument.specs.declared.shape.Shape.{Shape}
use Rattle.asm_argument.specs.declared.shape.Shape.TheVariants as shape
use Rattle.asm_argument.specs.declared.operand.Partial.{Partial}
use Rattle.asm_argument.specs.declared.operand.Partial.TheVariants as partial
use Rattle.asm_source.specs.declared.tree.Argument.{Argument}
use Rattle.asm_source.specs.declared.tree.Form.{Form}
use Rattle.asm_statement.specs.declared.directive.Directive.{Directive}
use Rattle.asm_statement.specs.declared.directive.Directive.TheVariants as kind
use Rattle.asm_statement.specs.declared.directive.Head.{Head}
use Rattle.asm_statement.specs.declared.directive.Head.TheVariants as head
use Rattle.asm_statement.specs.declared.state.Open.{Open}
use Rattle.asm_statement.specs.declared.state.StatementState.{StatementState}
use Rattle.asm_statement.specs.declared.state.StatementState.TheVariants as state
use Rattle.asm_statement.specs.ScopeView.{ScopeView}
use Rattle.asm_statement.specs.Scope.{pushed, fresh}
use Rattle.asm_argument.specs.Operand.{begun, operand_step, finished, is_finished, is_nothing, is_unbegun}
use Rattle.asm_argument.specs.Shapes.{is_operand}
use Rattle.asm_argument.specs.Grammar.{IsForm}
use Rattle.asm_statement.specs.Statement.{noting, with_name, after_noting, after_step, at_shape, within, argument_step, is_bare, takes_star, ended, ended_as, comma_behind, end_behind, complete, nothing_yet, named_step, labelled, label, directive_step, of_directive, rep_step, section_name, unless_skipping, skip, start_step, step, argument_of, is_place, strayed, next_step, fault_line, with_scope}
use Rattle.asm_statement.specs.Items.{item_of, resumed, is_passed, is_rep}
use Rattle.asm_statement.specs.Directives.{shape_at, least, defines, is_instruction, directive_of, is_dotted, is_section}
use Rattle.asm_parse.specs.Refusals.{Leads}
use Rattle.asm_parse.specs.Statements.{IsSeen, Sees, IsArgument, IsNext, Separated, HasArguments, is_inner, is_unlabelled, has_list, Statement}
use Rattle.asm_argument.proofs.Operands.{Spelled, begun_spelled, more, spelled_form}
use Rattle.asm_parse.proofs.Names.{noting_seen, named_in, name_step, finished_named, is_finished_some, operand_next}
use Rattle.asm_parse.proofs.Stated.{open_at, begun_unnamed, instruction_operand, is_naming}
use Rattle.asm_parse.proofs.Quiet.{Answer}

-- ---- what has been read of a statement

abbrev pub stars : Bool → List Terminal
stars true = terminal.Star ∷ []
stars false = []

-- These terminals and arguments with an end are a statement.
abbrev pub EndsStatement : ScopeView → ℕ → List Terminal → Head → Type 0
EndsStatement sc0 line lead h =
    (ss : List Terminal) (args : List Argument) (sc2 : ScopeView) → HasArguments h sc0 ss args sc2 → nat_lt (length args) (least h) ≡ false
    → Statement sc0 line (lead ++ (ss ++ terminal.End ∷ [])) (resumed (pushed sc2 (item_of line h args)) h)

pub record InArguments (sc0 : ScopeView) (line : ℕ) (o : Open) (ss : List Terminal) (sc : ScopeView) : Type 0 where
  pub lead : List Terminal
  pub front : List Terminal
  pub arg : List Terminal
  pub behind : ScopeView
  pub leads : Leads sc0 o.head lead
  pub ends : EndsStatement sc0 line lead o.head
  pub same_line : o.line ≡ line
  pub separated : Separated o.head sc0 front o.arguments behind
  pub spelled : ((o.so_far ≡ partial.Nothing) × (arg ≡ []))
      ⊎ ((sh : Shape) × (shape_at o.head (length o.arguments) ≡ Some sh) × Spelled sh o.so_far arg)
  pub solid : is_unbegun o.so_far ≡ false → arg ≡ [] → ⊥
  pub starred : o.star ≡ true → is_instruction o.head ≡ true
  pub sees : Sees behind (defines o.head (length o.arguments)) (named_in o.so_far) sc
  pub whole : ss ≡ lead ++ (front ++ (stars o.star ++ arg))

-- the change of a section to one of this name
pub record IsNaming (sc0 : ScopeView) (n m : List ℕ) : Type 0 where
  pub passed : is_passed sc0 n ≡ false
  pub dotted : is_dotted n ≡ true
  pub section : directive_of n ≡ Some kind.Section
  pub is : is_section m ≡ true

-- These terminals lead to this state; to the start where they are a statement.
abbrev pub Begun : ScopeView → ℕ → StatementState → List Terminal → ScopeView → Type 0
Begun sc0 line state.Start ss sc = Statement sc0 line ss sc
Begun sc0 line (state.Named b n) ss sc = (b ≡ line) × (ss ≡ terminal.Name n ∷ []) × (sc0 ≡ sc)
Begun sc0 line state.Skip ss sc =
    (sc0 ≡ sc) × ((rest : List Terminal) → list_all is_inner rest ≡ true → Statement sc0 line (ss ++ (rest ++ terminal.End ∷ [])) sc0)
Begun sc0 line (state.Sectioned b n m e) ss sc = (b ≡ line) × (sc0 ≡ sc) × (ss ≡ terminal.Name n ∷ terminal.Name m ∷ []) × IsNaming sc0 n m
Begun sc0 line (state.Flags b n m) ss sc = ⊥
Begun sc0 line (state.Arguments o) ss sc = InArguments sc0 line o ss sc
Begun sc0 line (state.Stray l c) ss sc = Unit {0}

pub led : (sc0 : ScopeView) (line : ℕ) (ss : List Terminal) (x y : ScopeView × StatementState) → ◌≡◌ {A = Answer} (Ok x) (Ok y)
    → Begun sc0 line x.1 ss x.0 → Begun sc0 line y.1 ss y.0
led sc0 line ss x y e b = let g : x ≡ y = cc in subst (λ (z : ScopeView × StatementState). Begun sc0 line z.1 ss z.0) g b

pub push_end : (a b c d ss : List Terminal) (s : Terminal) → ss ≡ a ++ (b ++ (c ++ d)) → ss ++ s ∷ [] ≡ a ++ (b ++ (c ++ (d ++ s ∷ [])))
push_end a b c d ss s e =
    ap (λ (x : List Terminal). x ++ s ∷ []) e
    ∙ (append_assoc a (b ++ (c ++ d)) (s ∷ []) ∙ ap (λ (x : List Terminal). a ++ x)
    (append_assoc b (c ++ d) (s ∷ []) ∙ ap (λ (x : List Terminal). b ++ x) (append_assoc c d (s ∷ []))))

pub end_not_nil : (xs : List Terminal) (x : Terminal) → xs ++ x ∷ [] ≡ [] → ⊥
end_not_nil [] x e = absurd cc
end_not_nil (y ∷ ys) x e = absurd cc

pub begun_solid : (sh : Shape) → is_unbegun (begun sh) ≡ false → ⊥
begun_solid shape.Fill e = absurd cc
begun_solid _ e = absurd cc

pub same_shape : (a b : Shape) → ◌≡◌ {A = Option Shape} (Some a) (Some b) → a ≡ b
same_shape a b e = cc

pub sees_none : (sc sc2 : ScopeView) (d : Bool) (o : Option (List ℕ)) → o ≡ None → Sees sc d o sc2 → sc ≡ sc2
sees_none sc sc2 d o e h = subst (λ (x : Option (List ℕ)). Sees sc d x sc2) e h

star_argument : (sh : Shape) (b : Bool) (ss : List Terminal) (f : Form) → (b ≡ true → is_operand sh ≡ true) → IsForm sh ss f
    → IsArgument sh (stars b ++ ss) (record { star = b; form = f })
star_argument sh true ss f h form = IsArgument.starred (h refl) form
star_argument sh false ss f h form = IsArgument.plain form

not_finished_nothing : (p : Partial) (f : Form) → p ≡ partial.Nothing → finished p ≡ Some f → ⊥
not_finished_nothing p f e h = let g : finished partial.Nothing ≡ Some f = ap finished (sym e) ∙ h in absurd cc

and_three : (a b c : Bool) → (a && b && c) ≡ true → (a ≡ true) × (b ≡ true) × (c ≡ true)
and_three true true true h = (refl, refl, refl)
and_three true true false h = absurd cc
and_three true false c h = absurd cc
and_three false b c h = absurd cc

nothing_is : (p : Partial) → is_nothing p ≡ true → p ≡ partial.Nothing
nothing_is partial.Nothing h = refl
nothing_is _ h = absurd cc

no_length : (xs : List Argument) → (length xs == 0) ≡ true → xs ≡ []
no_length xs h = nil_from_length xs (omega (arith, eqb-true (length xs) 0 h))

not_empty : (xs : List Argument) (x : Argument) → xs ++ x ∷ [] ≡ [] → ⊥
not_empty [] x e = absurd cc
not_empty (y ∷ ys) x e = absurd cc

separated_none : {h : Head} {sc sc1 : ScopeView} {ss : List Terminal} {args : List Argument} → Separated h sc ss args sc1 → args ≡ []
    → (ss ≡ []) × (sc ≡ sc1)
separated_none Separated.none e = (refl, refl)
separated_none (Separated.more {before} {a} sep next) e = absurd (not_empty before a e)

module _ (sc0 : ScopeView) (line : ℕ) (o : Open) (ss : List Terminal) (sc : ScopeView) (y : ScopeView × StatementState)
    (w : InArguments sc0 line o ss sc) where
  was_spelled : (sh : Shape) → shape_at o.head (length o.arguments) ≡ Some sh → Spelled sh o.so_far w.arg
  was_spelled sh may = elim w.spelled [
    | inl (e, f) ↦ subst (λ (p : Partial). Spelled sh p w.arg) (sym e) f
    | inr (sh2, may2, sp) ↦ subst (λ (x : Shape). Spelled x o.so_far w.arg) (same_shape sh2 sh (sym may2 ∙ may)) sp
  ]

  no_arg : o.so_far ≡ partial.Nothing → w.arg ≡ []
  no_arg e = elim w.spelled [
    | inl (e2, f) ↦ f
    | inr (sh2, may2, sp) ↦ subst (λ (p : Partial). Spelled sh2 p w.arg) e sp
  ]

  unfoldable pub advance : (s : Terminal) (sh : Shape) (q : Partial) (sc2 : ScopeView) → shape_at o.head (length o.arguments) ≡ Some sh
      → Spelled sh q (w.arg ++ s ∷ []) → Sees w.behind (defines o.head (length o.arguments)) (named_in q) sc2
      → InArguments sc0 line (record o { so_far = q }) (ss ++ s ∷ []) sc2
  advance s sh q sc2 may sp sees = record {
    lead = w.lead;
    front = w.front;
    arg = w.arg ++ s ∷ [];
    behind = w.behind;
    leads = w.leads;
    ends = w.ends;
    same_line = w.same_line;
    separated = w.separated;
    spelled = inr (sh, may, sp);
    solid = λ u e. end_not_nil w.arg s e;
    starred = w.starred;
    sees = sees;
    whole = push_end w.lead w.front (stars o.star) w.arg ss s w.whole;
  }

  by_noting : (s : Terminal) (sh : Shape) (q : Partial) (n : List ℕ) → shape_at o.head (length o.arguments) ≡ Some sh
      → Spelled sh q (w.arg ++ s ∷ []) → named_in q ≡ Some n → named_in o.so_far ≡ None
      → (r : Result ScopeView SourceCause) → noting sc (defines o.head (length o.arguments)) n ≡ r
      → after_noting (record o { so_far = q }) r ≡ Ok y → Begun sc0 line y.1 (ss ++ s ∷ []) y.0
  by_noting s sh q n may sp new none (Err c) e h = absurd cc
  by_noting s sh q n may sp new none (Ok sc2) e h =
      let same : w.behind ≡ sc = sees_none w.behind sc (defines o.head (length o.arguments)) (named_in o.so_far) none w.sees in
      let seen : IsSeen w.behind (defines o.head (length o.arguments)) n sc2 =
      subst (λ (x : ScopeView). IsSeen x (defines o.head (length o.arguments)) n sc2) (sym same)
      (noting_seen sc sc2 (defines o.head (length o.arguments)) n e) in
      let sees : Sees w.behind (defines o.head (length o.arguments)) (named_in q) sc2 =
      subst (λ (x : Option (List ℕ)). Sees w.behind (defines o.head (length o.arguments)) x sc2) (sym new) seen in
      led sc0 line (ss ++ s ∷ []) (sc2, state.Arguments (record o { so_far = q })) y h (advance s sh q sc2 may sp sees)

  by_partial : (s : Terminal) (sh : Shape) → shape_at o.head (length o.arguments) ≡ Some sh → (r : Result Partial SourceCause)
      → operand_step sh o.so_far s ≡ r → after_step sc o s r ≡ Ok y → Begun sc0 line y.1 (ss ++ s ∷ []) y.0
  by_partial s sh may (Err c) f h = absurd cc
  by_partial s sh may (Ok q) f h =
      let next = operand_next sh o.so_far s q f in
      let sp : Spelled sh q (w.arg ++ s ∷ []) = more sh o.so_far s q w.arg (was_spelled sh may) next in
      elim (name_step sh o.so_far s q next) [
        | inl t ↦
            let sees : Sees w.behind (defines o.head (length o.arguments)) (named_in q) sc =
            subst (λ (x : Option (List ℕ)). Sees w.behind (defines o.head (length o.arguments)) x sc) (sym t.1) w.sees in
            led sc0 line (ss ++ s ∷ []) (sc, state.Arguments (record o { so_far = q })) y
            (sym (ap (with_name sc (record o { so_far = q })) t.0) ∙ h) (advance s sh q sc may sp sees)
        | inr (n, a, b, c, d) ↦ by_noting s sh q n may sp b c (noting sc (defines o.head (length o.arguments)) n) refl
            (sym (ap (with_name sc (record o { so_far = q })) a) ∙ h)
      ]

  by_shape : (s : Terminal) (r : Option Shape) → shape_at o.head (length o.arguments) ≡ r → at_shape sc o s r ≡ Ok y
      → Begun sc0 line y.1 (ss ++ s ∷ []) y.0
  by_shape s None e h = absurd cc
  by_shape s (Some sh) e h = by_partial s sh e (operand_step sh o.so_far s) refl h

  within_begun : (s : Terminal) → within sc o s ≡ Ok y → Begun sc0 line y.1 (ss ++ s ∷ []) y.0
  within_begun s h = by_shape s (shape_at o.head (length o.arguments)) refl h

  -- the argument that ends here
  ended_next : (f : Form) → finished o.so_far ≡ Some f → IsNext o.head w.behind o.arguments (stars o.star ++ w.arg)
      (record { star = o.star; form = f }) sc
  ended_next f fin = elim w.spelled [
    | inl (e, g) ↦ absurd (not_finished_nothing o.so_far f e fin)
    | inr (sh, may, sp) ↦ record {
      shape = sh;
      may = may;
      is = star_argument sh o.star w.arg f (λ e. instruction_operand o.head (length o.arguments) sh (w.starred e) may)
          (spelled_form sh o.so_far f w.arg sp fin);
      sees =
          subst (λ (x : Option (List ℕ)). Sees w.behind (defines o.head (length o.arguments)) x sc) (finished_named o.so_far f fin) w.sees;
    }
  ]

  behind_comma : (f : Form) → finished o.so_far ≡ Some f → (sh : Shape)
      → shape_at o.head (length (o.arguments ++ record { star = o.star; form = f } ∷ [])) ≡ Some sh
      → InArguments sc0 line (open_at o.line o.head (o.arguments ++ record { star = o.star; form = f } ∷ []) false (begun sh))
      (ss ++ terminal.Comma ∷ []) sc
  behind_comma f fin sh may = record {
    lead = w.lead;
    front = w.front ++ ((stars o.star ++ w.arg) ++ terminal.Comma ∷ []);
    arg = [];
    behind = sc;
    leads = w.leads;
    ends = w.ends;
    same_line = w.same_line;
    separated = Separated.more w.separated (ended_next f fin);
    spelled = inr (sh, may, begun_spelled sh);
    solid = λ u e. begun_solid sh u;
    starred = λ e. absurd cc;
    sees = subst (λ (x : Option (List ℕ)). Sees sc (defines o.head (length (o.arguments ++ record { star = o.star; form = f } ∷ []))) x sc)
        (sym (begun_unnamed sh)) refl;
    whole = ap (λ (x : List Terminal). x ++ terminal.Comma ∷ []) w.whole
        ∙ (append_assoc w.lead (w.front ++ (stars o.star ++ w.arg)) (terminal.Comma ∷ [])
        ∙ ap (λ (x : List Terminal). w.lead ++ x)
        (append_assoc w.front (stars o.star ++ w.arg) (terminal.Comma ∷ [])
        ∙ sym (append-nil (w.front ++ ((stars o.star ++ w.arg) ++ terminal.Comma ∷ [])))));
  }

  by_next : (f : Form) → finished o.so_far ≡ Some f → (r : Option Shape)
      → shape_at o.head (length (o.arguments ++ record { star = o.star; form = f } ∷ [])) ≡ r
      → ◌≡◌ {A = Answer} (with_scope sc (argument_of o.line o.head (o.arguments ++ record { star = o.star; form = f } ∷ []) r)) (Ok y)
      → Begun sc0 line y.1 (ss ++ terminal.Comma ∷ []) y.0
  by_next f fin None e h = absurd cc
  by_next f fin (Some sh) e h = led sc0 line (ss ++ terminal.Comma ∷ []) _ y h (behind_comma f fin sh e)

  comma_begun : (t : Bool) → is_finished o.so_far ≡ t → ◌≡◌ {A = Answer} (cond t (comma_behind sc (ended o)) (within sc o terminal.Comma))
      (Ok y) → Begun sc0 line y.1 (ss ++ terminal.Comma ∷ []) y.0
  comma_begun false e h = within_begun terminal.Comma h
  comma_begun true e h =
      let f = is_finished_some o.so_far e in
      by_next f.0 f.1 (shape_at o.head (length (o.arguments ++ record { star = o.star; form = f.0 } ∷ []))) refl
      (sym (ap (λ (x : Option Form). comma_behind sc (ended_as o x)) f.1) ∙ h)

  complete_begun : (ts : List Terminal) (args : List Argument) → ss ≡ w.lead ++ ts → HasArguments o.head sc0 ts args sc → (t : Bool)
      → nat_lt (length args) (least o.head) ≡ t
      → ◌≡◌ {A = Answer} (cond t (Err cause.BadArgument) (Ok (resumed (pushed sc (item_of o.line o.head args)) o.head, state.Start))) (Ok y)
      → Begun sc0 line y.1 (ss ++ terminal.End ∷ []) y.0
  complete_begun ts args e has true count h = absurd cc
  complete_begun ts args e has false count h =
      let st : Statement sc0 line (w.lead ++ (ts ++ terminal.End ∷ [])) (resumed (pushed sc (item_of line o.head args)) o.head) =
      w.ends ts args sc has count in
      let st2 : Statement sc0 line (w.lead ++ (ts ++ terminal.End ∷ [])) (resumed (pushed sc (item_of o.line o.head args)) o.head) =
      subst (λ (x : ℕ). Statement sc0 line (w.lead ++ (ts ++ terminal.End ∷ [])) (resumed (pushed sc (item_of x o.head args)) o.head))
      (sym w.same_line) st in
      let st3 : Statement sc0 line (ss ++ terminal.End ∷ []) (resumed (pushed sc (item_of o.line o.head args)) o.head) =
      subst (λ (x : List Terminal). Statement sc0 line x (resumed (pushed sc (item_of o.line o.head args)) o.head))
      (sym (ap (λ (x : List Terminal). x ++ terminal.End ∷ []) e ∙ append_assoc w.lead ts (terminal.End ∷ []))) st2 in
      led sc0 line (ss ++ terminal.End ∷ []) _ y h st3

  bare_begun : is_bare o ≡ true → complete sc o.line o.head o.arguments ≡ Ok y → Begun sc0 line y.1 (ss ++ terminal.End ∷ []) y.0
  bare_begun bare h =
      let b = and_three (is_nothing o.so_far) (not o.star) (length o.arguments == 0) bare in
      let nothing = nothing_is o.so_far b.0 in
      let star = not-true o.star b.1 in
      let done = no_length o.arguments b.2 in
      let front = separated_none w.separated done in
      let seen : w.behind ≡ sc =
      sees_none w.behind sc (defines o.head (length o.arguments)) (named_in o.so_far) (ap named_in nothing) w.sees in
      let none : HasArguments o.head sc0 [] [] sc =
      subst (λ (x : ScopeView). HasArguments o.head sc0 [] [] x) (front.1 ∙ seen) HasArguments.none in
      let has : HasArguments o.head sc0 [] o.arguments sc =
      subst (λ (x : List Argument). HasArguments o.head sc0 [] x sc) (sym done) none in
      let nil : w.front ++ (stars o.star ++ w.arg) ≡ [] = rw (front.0, star, no_arg nothing) refl in
      complete_begun [] o.arguments (w.whole ∙ ap (λ (x : List Terminal). w.lead ++ x) nil) has
      (nat_lt (length o.arguments) (least o.head)) refl h

  end_begun : (t : Bool) → is_bare o ≡ t → (u : Bool) → is_finished o.so_far ≡ u
      → ◌≡◌ {A = Answer} (cond t (complete sc o.line o.head o.arguments) (cond u (end_behind sc (ended o)) (within sc o terminal.End)))
      (Ok y) → Begun sc0 line y.1 (ss ++ terminal.End ∷ []) y.0
  end_begun true e u f h = bare_begun e h
  end_begun false e false f h = within_begun terminal.End h
  end_begun false e true f h =
      let g = is_finished_some o.so_far f in
      complete_begun (w.front ++ (stars o.star ++ w.arg)) (o.arguments ++ record { star = o.star; form = g.0 } ∷ []) w.whole
      (HasArguments.some w.separated (ended_next g.0 g.1))
      (nat_lt (length (o.arguments ++ record { star = o.star; form = g.0 } ∷ [])) (least o.head)) refl
      (sym (ap (λ (x : Option Form). end_behind sc (ended_as o x)) g.1) ∙ h)

  star_begun : (t : Bool) → takes_star o ≡ t
      → ◌≡◌ {A = Answer} (cond t (Ok (sc, state.Arguments (record o { star = true }))) (within sc o terminal.Star)) (Ok y)
      → Begun sc0 line y.1 (ss ++ terminal.Star ∷ []) y.0
  star_begun false e h = within_begun terminal.Star h
  star_begun true e h =
      let b = and_three (is_nothing o.so_far) (not o.star) (is_instruction o.head) e in
      let star = not-true o.star b.1 in
      let arg = no_arg (nothing_is o.so_far b.0) in
      let nil : stars o.star ++ w.arg ≡ [] = rw (star, arg) refl in
      let new : InArguments sc0 line (record o { star = true }) (ss ++ terminal.Star ∷ []) sc = record {
        lead = w.lead;
        front = w.front;
        arg = w.arg;
        behind = w.behind;
        leads = w.leads;
        ends = w.ends;
        same_line = w.same_line;
        separated = w.separated;
        spelled = w.spelled;
        solid = w.solid;
        starred = λ e. b.2;
        sees = w.sees;
        whole = push_end w.lead w.front [] [] ss terminal.Star (w.whole ∙ ap (λ (x : List Terminal). w.lead ++ (w.front ++ x)) nil)
            ∙ ap (λ (x : List Terminal). w.lead ++ (w.front ++ (terminal.Star ∷ x))) (sym arg);
      } in
      led sc0 line (ss ++ terminal.Star ∷ []) _ y h new

  arguments_begun : (s : Terminal) → argument_step sc o s ≡ Ok y → Begun sc0 line y.1 (ss ++ s ∷ []) y.0
  arguments_begun terminal.Comma h = comma_begun (is_finished o.so_far) refl h
  arguments_begun terminal.End h = end_begun (is_bare o) refl (is_finished o.so_far) refl h
  arguments_begun terminal.Star h = star_begun (takes_star o) refl h
  arguments_begun s h = within_begun s h

unfoldable pub fresh_arguments : (sc0 : ScopeView) (line : ℕ) (lead : List Terminal) (h : Head) → Leads sc0 h lead
    → EndsStatement sc0 line lead h → InArguments sc0 line (nothing_yet line h) lead sc0
fresh_arguments sc0 line lead h leads ends = record {
  lead = lead;
  front = [];
  arg = [];
  behind = sc0;
  leads = leads;
  ends = ends;
  same_line = refl;
  separated = Separated.none;
  spelled = inl (refl, refl);
  solid = λ u e. absurd cc;
  starred = λ e. absurd cc;
  sees = refl;
  whole = sym (append-nil lead);
}

-- ---- after a name

-- the rest isn't read
skip_begun : (sc : ScopeView) (line : ℕ) (n : List ℕ) (s : Terminal) (y : ScopeView × StatementState)
    → ((ss : List Terminal) → is_unlabelled ss ≡ true → list_all is_inner ss ≡ true → Statement sc line
    (terminal.Name n ∷ (ss ++ terminal.End ∷ [])) sc)
    → (s ≡ terminal.Colon → ⊥) → ◌≡◌ {A = Answer} (Ok (sc, skip s)) (Ok y) → Begun sc line y.1 (terminal.Name n ∷ s ∷ []) y.0
skip_begun sc line n terminal.End y f other h = led sc line _ (sc, state.Start) y h (f [] refl refl)
skip_begun sc line n terminal.Colon y f other h = absurd (other refl)
skip_begun sc line n s y f other h = led sc line _ (sc, state.Skip) y h (refl, λ rest inner. f (s ∷ rest) refl inner)

section_begun : (sc : ScopeView) (line : ℕ) (n : List ℕ) (s : Terminal) (y : ScopeView × StatementState) → is_passed sc n ≡ false
    → is_dotted n ≡ true → directive_of n ≡ Some kind.Section → with_scope sc (section_name line n s) ≡ Ok y
    → Begun sc line y.1 (terminal.Name n ∷ s ∷ []) y.0
section_begun sc line n (terminal.Name m) y passed dotted dir h = by_test (is_section m) refl h
  where
    by_test : (t : Bool) → is_section m ≡ t
        → ◌≡◌ {A = Answer} (with_scope sc (cond t (Ok (state.Sectioned line n m 0)) (Err cause.BadArgument))) (Ok y)
        → Begun sc line y.1 (terminal.Name n ∷ terminal.Name m ∷ []) y.0
    by_test false e h = absurd cc
    by_test true e h = led sc line _ (sc, state.Sectioned line n m 0) y h
        (refl, refl, refl, record { passed = passed; dotted = dotted; section = dir; is = e })
section_begun sc line n _ y passed dotted dir h = absurd cc

list_begun : (sc : ScopeView) (line : ℕ) (n : List ℕ) (k : Directive) (s : Terminal) (y : ScopeView × StatementState)
    → is_passed sc n ≡ false → is_dotted n ≡ true → directive_of n ≡ Some k → has_list k ≡ true
    → argument_step sc (nothing_yet line (head.Directive k n)) s ≡ Ok y
    → Begun sc line y.1 (terminal.Name n ∷ s ∷ []) y.0
list_begun sc line n k s y passed dotted dir list h =
    arguments_begun sc line (nothing_yet line (head.Directive k n)) (terminal.Name n ∷ []) sc y
    (fresh_arguments sc line (terminal.Name n ∷ []) (head.Directive k n) (Leads.directive passed dotted dir list)
    (λ ss args sc2 has count. Statement.directive passed dotted dir list has count)) s h

directive_begun : (sc : ScopeView) (line : ℕ) (n : List ℕ) (s : Terminal) (y : ScopeView × StatementState) → is_passed sc n ≡ false
    → is_dotted n ≡ true → (s ≡ terminal.Colon → ⊥) → (d : Option Directive) → directive_of n ≡ d → of_directive d sc line n s ≡ Ok y
    → Begun sc line y.1 (terminal.Name n ∷ s ∷ []) y.0
directive_begun sc line n s y passed dotted other None e h = absurd cc
directive_begun sc line n s y passed dotted other (Some kind.Skipped) e h =
    skip_begun sc line n s y (λ ss u inner. Statement.skipped_directive ss passed dotted e u inner) other h
directive_begun sc line n s y passed dotted other (Some kind.Section) e h = section_begun sc line n s y passed dotted e h
directive_begun sc line n s y passed dotted other (Some k) e h = list_begun sc line n k s y passed dotted e refl h

rep_begun : (sc : ScopeView) (line : ℕ) (n : List ℕ) (s : Terminal) (y : ScopeView × StatementState) → is_passed sc n ≡ false
    → is_dotted n ≡ false → is_rep n ≡ true → rep_step sc line s ≡ Ok y → Begun sc line y.1 (terminal.Name n ∷ s ∷ []) y.0
rep_begun sc line n (terminal.Name m) y passed dotted rep h =
    led sc line _ (sc, state.Arguments (nothing_yet line (head.Instruction true m))) y h
    (fresh_arguments sc line (terminal.Name n ∷ terminal.Name m ∷ []) (head.Instruction true m) (Leads.repeated passed dotted rep)
    (λ ss args sc2 has count. Statement.repeated passed dotted rep has))
rep_begun sc line n _ y passed dotted rep h = absurd cc

other_begun : (sc : ScopeView) (line : ℕ) (n : List ℕ) (s : Terminal) (y : ScopeView × StatementState) → (s ≡ terminal.Colon → ⊥)
    → (t u v : Bool) → is_passed sc n ≡ t → is_dotted n ≡ u → is_rep n ≡ v
    → ◌≡◌ {A = Answer} (cond t (Ok (sc, skip s))
    (cond u (directive_step sc line n s) (cond v (rep_step sc line s) (argument_step sc (nothing_yet line (head.Instruction false n)) s))))
    (Ok y) → Begun sc line y.1 (terminal.Name n ∷ s ∷ []) y.0
other_begun sc line n s y other true u v a b c h =
    skip_begun sc line n s y (λ ss unlabelled inner. Statement.skipped ss a unlabelled inner) other h
other_begun sc line n s y other false true v a b c h = directive_begun sc line n s y a b other (directive_of n) refl h
other_begun sc line n s y other false false true a b c h = rep_begun sc line n s y a b c h
other_begun sc line n s y other false false false a b c h =
    arguments_begun sc line (nothing_yet line (head.Instruction false n)) (terminal.Name n ∷ []) sc y
    (fresh_arguments sc line (terminal.Name n ∷ []) (head.Instruction false n) (Leads.instruction a b c)
    (λ ss args sc2 has count. Statement.instruction a b c has)) s h

label_begun : (sc : ScopeView) (line : ℕ) (n : List ℕ) (y : ScopeView × StatementState) → (r : Result ScopeView SourceCause)
    → noting sc true n ≡ r → sc.skipping ≡ false → labelled line n r ≡ Ok y → Begun sc line y.1 (terminal.Name n ∷ terminal.Colon ∷ []) y.0
label_begun sc line n y (Err c) e sk h = absurd cc
label_begun sc line n y (Ok sc2) e sk h = led sc line _ _ y h (Statement.label sk (noting_seen sc sc2 true n e))

colon_begun : (sc : ScopeView) (line : ℕ) (n : List ℕ) (y : ScopeView × StatementState) → (t : Bool) → sc.skipping ≡ t
    → ◌≡◌ {A = Answer} (cond t (Ok (sc, state.Start)) (label sc line n)) (Ok y)
    → Begun sc line y.1 (terminal.Name n ∷ terminal.Colon ∷ []) y.0
colon_begun sc line n y true e h = led sc line _ (sc, state.Start) y h (Statement.skipped_label e)
colon_begun sc line n y false e h = label_begun sc line n y (noting sc true n) refl e h

named_begun : (sc : ScopeView) (line : ℕ) (n : List ℕ) (s : Terminal) (y : ScopeView × StatementState) → named_step sc line n s ≡ Ok y
    → Begun sc line y.1 (terminal.Name n ∷ s ∷ []) y.0
named_begun sc line n terminal.Colon y h = colon_begun sc line n y sc.skipping refl h
named_begun sc line n s y h = other_begun sc line n s y (λ e. absurd cc) (is_passed sc n) (is_dotted n) (is_rep n) refl refl refl h

-- ---- a terminal more

pub start_begun : (sc : ScopeView) (line : ℕ) (s : Terminal) (y : ScopeView × StatementState) → with_scope sc (start_step sc line s) ≡ Ok y
    → Begun sc line y.1 (s ∷ []) y.0
start_begun sc line terminal.End y h = led sc line _ (sc, state.Start) y h Statement.empty
start_begun sc line (terminal.Name n) y h = led sc line _ (sc, state.Named line n) y h (refl, refl, refl)
start_begun sc line terminal.Big y h = by_test sc.skipping refl h
  where
    by_test : (t : Bool) → sc.skipping ≡ t → ◌≡◌ {A = Answer} (with_scope sc (unless_skipping t cause.BadNumber)) (Ok y)
        → Begun sc line y.1 (terminal.Big ∷ []) y.0
    by_test false e h = absurd cc
    by_test true e h = led sc line _ (sc, state.Skip) y h (refl, λ rest inner. Statement.nameless rest e refl inner)
start_begun sc line s y h = by_test sc.skipping refl h
  where
    by_test : (t : Bool) → sc.skipping ≡ t → ◌≡◌ {A = Answer} (with_scope sc (unless_skipping t cause.BadOperand)) (Ok y)
        → Begun sc line y.1 (s ∷ []) y.0
    by_test false e h = absurd cc
    by_test true e h = led sc line _ (sc, state.Skip) y h (refl, λ rest inner. Statement.nameless rest e refl inner)

-- one terminal from the rest to what has been read
move : (sc0 : ScopeView) (line : ℕ) (ss rest : List Terminal) (s : Terminal) (sc2 : ScopeView) → Statement sc0 line (ss ++ (s ∷ rest)) sc2
    → Statement sc0 line ((ss ++ s ∷ []) ++ rest) sc2
move sc0 line ss rest s sc2 st = subst (λ (x : List Terminal). Statement sc0 line x sc2) (sym (append_assoc ss (s ∷ []) rest)) st

skip_more : (sc0 sc : ScopeView) (line : ℕ) (ss : List Terminal) (s : Terminal) (y : ScopeView × StatementState)
    → Begun sc0 line state.Skip ss sc → ◌≡◌ {A = Answer} (Ok (sc, skip s)) (Ok y) → Begun sc0 line y.1 (ss ++ s ∷ []) y.0
skip_more sc0 sc line ss terminal.End y b h =
    led sc0 line _ (sc, state.Start) y h (subst (Statement sc0 line (ss ++ terminal.End ∷ [])) b.0 (b.1 [] refl))
skip_more sc0 sc line ss s y b h =
    led sc0 line _ (sc, state.Skip) y h (b.0, λ rest inner. move sc0 line ss (rest ++ terminal.End ∷ []) s sc0 (b.1 (s ∷ rest) inner))

named_more : (sc0 sc : ScopeView) (line b : ℕ) (n : List ℕ) (ss : List Terminal) (s : Terminal) (y : ScopeView × StatementState)
    → Begun sc0 line (state.Named b n) ss sc → named_step sc b n s ≡ Ok y → Begun sc0 line y.1 (ss ++ s ∷ []) y.0
named_more sc0 sc line b n ss s y g h =
    let h2 : named_step sc line n s ≡ Ok y = subst (λ (x : ℕ). named_step sc x n s ≡ Ok y) g.0 h in
    let b2 : Begun sc line y.1 (ss ++ s ∷ []) y.0 = subst (λ (x : List Terminal). Begun sc line y.1 x y.0)
    (ap (λ (x : List Terminal). x ++ s ∷ []) (sym g.1)) (named_begun sc line n s y h2) in
    subst (λ (x : ScopeView). Begun x line y.1 (ss ++ s ∷ []) y.0) (sym g.2) b2

pub begun_more : (sc0 sc : ScopeView) (line l : ℕ) (st : StatementState) (ss : List Terminal) (s : Terminal)
    (y : ScopeView × StatementState) → (st ≡ state.Start → ⊥) → is_naming st ≡ false → Begun sc0 line st ss sc → step sc st l s ≡ Ok y
    → Begun sc0 line y.1 (ss ++ s ∷ []) y.0
begun_more sc0 sc line l state.Start ss s y inside no_name g h = absurd (inside refl)
begun_more sc0 sc line l (state.Named b n) ss s y inside no_name g h = named_more sc0 sc line b n ss s y g h
begun_more sc0 sc line l state.Skip ss s y inside no_name g h = skip_more sc0 sc line ss s y g h
begun_more sc0 sc line l (state.Sectioned b n m e) ss s y inside no_name g h = absurd cc
begun_more sc0 sc line l (state.Flags b n m) ss s y inside no_name g h = absurd g
begun_more sc0 sc line l (state.Arguments o) ss s y inside no_name g h = arguments_begun sc0 line o ss sc y g s h
begun_more sc0 sc line l (state.Stray a c) ss s y inside no_name g h = absurd cc

-- a `%` that may not stand there has begun nothing
pub next_begun : (sc0 sc : ScopeView) (line l : ℕ) (st : StatementState) (ss : List Terminal) (s : Terminal)
    (z : ScopeView × StatementState) → (step sc st l s ≡ Ok z → Begun sc0 line z.1 ss z.0) → next_step sc st l s ≡ Ok z
    → Begun sc0 line z.1 ss z.0
next_begun sc0 sc line l st ss terminal.Percent z f h = by_result (step sc st l terminal.Percent) refl h
  where
    by_cause : (t : Bool) (c : SourceCause) → ◌≡◌ {A = Answer} (cond t (Ok (fresh, state.Stray (fault_line sc st l) c)) (Err c)) (Ok z)
        → Begun sc0 line z.1 ss z.0
    by_cause true c h = led sc0 line ss (fresh, state.Stray (fault_line sc st l) c) z h tt
    by_cause false c h = absurd cc

    by_result : (r : Answer) → step sc st l terminal.Percent ≡ r → strayed (fault_line sc st l) r ≡ Ok z → Begun sc0 line z.1 ss z.0
    by_result (Ok x) e h = f (e ∙ h)
    by_result (Err c) e h = by_cause (is_place c) c h
next_begun sc0 sc line l st ss _ z f h = f h
