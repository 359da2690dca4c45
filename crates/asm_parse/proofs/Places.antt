-- What has been read of a statement leads to a place, and what is refused there has its cause.
use Rattle.std.proofs.Common.{◌≡◌, ℕ, Bool, true, false, cond, List, [], ◌∷◌, ◌++◌, length, Option, Some, None, Result, Ok, Err, refl, sym, ap, subst, ◌∙◌, inl, inr}
use Rattle.std.proofs.lemmas.List.{append-nil}
use Rattle.std.specs.Prelude.{◌==◌, ◌&&◌, ◌+◌, ◌^◌, nat_lt, unwrap_or}
use Rattle.std.specs.List.{list_all}
use Rattle.std.proofs.lemmas.Bool.{or_parts}
use Rattle.plain_laws.proofs.Options.{then_none}
use Rattle.asm_lex.specs.declared.fault.SourceCause.{SourceCause}
use Rattle.asm_lex.specs.declared.fault.SourceCause.TheVariants as cause
use Rattle.asm_lex.specs.Words.{Word}
use Rattle.asm_argument.specs.declared.terminal.Terminal.{Terminal}
use Rattle.asm_argument.specs.declared.terminal.Terminal.TheVariants as terminal
use Rattle.asm_argument.specs.declared.shape.Shape.{Shape}
use Rattle.asm_argument.specs.declared.shape.Shape.TheVariants as shape
use Rattle.asm_argument.specs.declared.operand.Partial.{Partial}
use Rattle.asm_argument.specs.declared.operand.Partial.TheVariants as partial
use Rattle.asm_source.specs.declared.tree.Form.{Form}
use Rattle.asm_statement.specs.declared.directive.Directive.{Directive}
use Rattle.asm_statement.specs.declared.directive.Directive.TheVariants as kind
use Rattle.asm_statement.specs.declared.directive.Head.{Head}
use Rattle.asm_statement.specs.declared.directive.Head.TheVariants as head
use Rattle.asm_statement.specs.declared.state.Open.{Open}
use Rattle.asm_statement.specs.declared.state.StatementState.{StatementState}
use Rattle.asm_statement.specs.declared.state.StatementState.TheVariants as state
use Rattle.asm_statement.specs.ScopeView.{ScopeView}
use Rattle.asm_statement.specs.Scope.{fresh}
use Rattle.asm_argument.specs.Grammar.{IsForm}
use Rattle.asm_lex.specs.declared.token.TokenKind.{TokenKind}
use Rattle.asm_lex.specs.declared.token.TokenKind.TheVariants as token
use Rattle.asm_argument.specs.Terminals.{mark_terminal, number_value, terminal_of}
use Rattle.asm_statement.specs.Items.{is_part, is_rep, is_passed}
use Rattle.asm_argument.specs.Operand.{is_unbegun, is_nothing, awaits_register}
use Rattle.asm_argument.specs.Shapes.{is_operand}
use Rattle.asm_statement.specs.Directives.{shape_at, is_instruction, directive_of, is_dotted, is_section}
use Rattle.asm_statement.specs.Statement.{noting, with_scope, nothing_yet, argument_step, labelled, label, rep_step, section_name, of_directive, directive_step, unless_skipping, named_step, sectioned_step, step, skip, is_unknown, is_taken, lacks_names, doom, fault_line, is_place, strayed, next_step, pending}
use Rattle.asm_statement.specs.Openings.{misplaced}
use Rattle.asm_parse.specs.Statements.{IsArgument, has_list, is_inner, Statement, terminals, Touch}
use Rattle.asm_parse.specs.Refusals.{StatementPlace, Leads, Opens, LeadsTo, last_of, is_percent, other_cause, name_cause, operand_cause, value_cause, directive_cause, named_cause, cause_at, percent_cause, behind_cause, refused_cause, byte_cause}
use Rattle.asm_argument.proofs.Operands.{run_spelled, spelled_form, Spelled}
use Rattle.asm_parse.proofs.Words.{terminals-append}
use Rattle.asm_parse.proofs.Said.{stars, InArguments, IsNaming, fresh_arguments}
use Rattle.asm_parse.proofs.Collected.{InName, Held}
use Rattle.asm_parse.proofs.Tails.{percents, spelled_tail}
use Rattle.asm_parse.proofs.Refusing.{noting_cause, not_both}
use Rattle.asm_parse.proofs.Stopping.{argument_refused, same_fault}
use Rattle.asm_parse.proofs.Finishing.{finish}
use Rattle.asm_parse.proofs.Written.{terminals_of}
use Rattle.asm_parse.proofs.Quiet.{Answer}

-- ---- after a name

scope_fails : (sc : ScopeView) (r : Result StatementState SourceCause) (c : SourceCause)
    → ◌≡◌ {A = Answer} (with_scope sc r) (Err c) → r ≡ Err c
scope_fails sc (Ok st) c h = absurd cc
scope_fails sc (Err d) c h = ap (λ (x : SourceCause). Err x) (same_fault d c h)

same_cause : (a c : SourceCause) → ◌≡◌ {A = Result StatementState SourceCause} (Err a) (Err c) → a ≡ c
same_cause a c h = cc

label_fails : (line : ℕ) (n : List ℕ) (r : Result ScopeView SourceCause) (c : SourceCause) → labelled line n r ≡ Err c → r ≡ Err c
label_fails line n (Ok sc) c h = absurd cc
label_fails line n (Err d) c h = ap (λ (x : SourceCause). Err x) (same_fault d c h)

colon_fails : (sc : ScopeView) (b : ℕ) (n : List ℕ) (c : SourceCause) (t : Bool)
    → ◌≡◌ {A = Answer} (cond t (Ok (sc, state.Start)) (label sc b n)) (Err c) → name_cause sc true n ≡ c
colon_fails sc b n c true h = absurd cc
colon_fails sc b n c false h = noting_cause sc true n c (label_fails b n (noting sc true n) c h)

section_fails : (b : ℕ) (n : List ℕ) (s : Terminal) (c : SourceCause) → section_name b n s ≡ Err c → misplaced s ≡ c
section_fails b n (terminal.Name m) c h = by_test (is_section m) h
  where
    by_test : (t : Bool) → ◌≡◌ {A = Result StatementState SourceCause} (cond t (Ok (state.Sectioned b n m 0)) (Err cause.BadArgument))
        (Err c) → cause.BadArgument ≡ c
    by_test true h = absurd cc
    by_test false h = same_cause _ c h
section_fails b n _ c h = same_cause _ c h

rep_fails : (sc : ScopeView) (b : ℕ) (s : Terminal) (c : SourceCause) → rep_step sc b s ≡ Err c → other_cause s ≡ c
rep_fails sc b (terminal.Name m) c h = absurd cc
rep_fails sc b _ c h = same_fault _ c h

list_fails : (sc : ScopeView) (b : ℕ) (n : List ℕ) (k : Directive) (s : Terminal) (c : SourceCause) → is_passed sc n ≡ false
    → is_dotted n ≡ true → directive_of n ≡ Some k → has_list k ≡ true → argument_step sc (nothing_yet b (head.Directive k n)) s ≡ Err c
    → value_cause (head.Directive k n) [] sc [] s ≡ c
unfolding fresh_arguments
list_fails sc b n k s c passed dotted dir list h =
    argument_refused sc b (nothing_yet b (head.Directive k n)) (terminal.Name n ∷ []) sc
    (fresh_arguments sc b (terminal.Name n ∷ []) (head.Directive k n) (Leads.directive passed dotted dir list)
    (λ ss args sc2 has count. Statement.directive passed dotted dir list has count)) s c h

directive_fails : (sc : ScopeView) (b : ℕ) (n : List ℕ) (s : Terminal) (c : SourceCause) → is_passed sc n ≡ false → is_dotted n ≡ true
    → (d : Option Directive) → directive_of n ≡ d → of_directive d sc b n s ≡ Err c → directive_cause d sc n s ≡ c
directive_fails sc b n s c passed dotted None e h = same_fault _ c h
directive_fails sc b n s c passed dotted (Some kind.Skipped) e h = absurd cc
directive_fails sc b n s c passed dotted (Some kind.Section) e h = section_fails b n s c (scope_fails sc (section_name b n s) c h)
directive_fails sc b n s c passed dotted (Some k) e h = list_fails sc b n k s c passed dotted e refl h

instruction_fails : (sc : ScopeView) (b : ℕ) (n : List ℕ) (s : Terminal) (c : SourceCause) → is_passed sc n ≡ false → is_dotted n ≡ false
    → is_rep n ≡ false → argument_step sc (nothing_yet b (head.Instruction false n)) s ≡ Err c → operand_cause [] s ≡ c
unfolding fresh_arguments
instruction_fails sc b n s c passed dotted rep h =
    argument_refused sc b (nothing_yet b (head.Instruction false n)) (terminal.Name n ∷ []) sc
    (fresh_arguments sc b (terminal.Name n ∷ []) (head.Instruction false n) (Leads.instruction passed dotted rep)
    (λ ss args sc2 has count. Statement.instruction passed dotted rep has)) s c h

other_fails : (sc : ScopeView) (b : ℕ) (n : List ℕ) (s : Terminal) (c : SourceCause) (t u v : Bool) → is_passed sc n ≡ t
    → is_dotted n ≡ u → is_rep n ≡ v
    → ◌≡◌ {A = Answer} (cond t (Ok (sc, skip s))
    (cond u (directive_step sc b n s) (cond v (rep_step sc b s) (argument_step sc (nothing_yet b (head.Instruction false n)) s)))) (Err c)
    → cond u (directive_cause (directive_of n) sc n s) (cond v (other_cause s) (operand_cause [] s)) ≡ c
other_fails sc b n s c true u v e f g h = absurd cc
other_fails sc b n s c false true v e f g h = directive_fails sc b n s c e f (directive_of n) refl h
other_fails sc b n s c false false true e f g h = rep_fails sc b s c h
other_fails sc b n s c false false false e f g h = instruction_fails sc b n s c e f g h

pub named_fails : (sc : ScopeView) (b : ℕ) (n : List ℕ) (s : Terminal) (c : SourceCause) → named_step sc b n s ≡ Err c
    → named_cause sc n s ≡ c
named_fails sc b n terminal.Colon c h = colon_fails sc b n c sc.skipping h
named_fails sc b n s c h = other_fails sc b n s c (is_passed sc n) (is_dotted n) (is_rep n) refl refl refl h

-- ---- a `%`

pub behind_is : (sc0 : ScopeView) (p : StatementPlace) (sc : ScopeView) (st : StatementState) (line : ℕ) (s : Terminal)
    (rest : List Terminal) (c : SourceCause) → ((c : SourceCause) → step sc st line s ≡ Err c → cause_at sc0 p s ≡ c)
    → next_step sc st line s ≡ Err c → behind_cause sc0 p s rest ≡ c
behind_is sc0 p sc st line terminal.Percent rest c f h = by_result (step sc st line terminal.Percent) refl h
  where
    not_place : (d : SourceCause) → is_place d ≡ false → percent_cause d rest ≡ d
    not_place cause.BadOperand e = absurd cc
    not_place cause.BadArgument e = absurd cc
    not_place _ e = refl

    by_place : (d : SourceCause) (t : Bool) → is_place d ≡ t
        → ◌≡◌ {A = Answer} (cond t (Ok (fresh, state.Stray (fault_line sc st line) d)) (Err d)) (Err c) → percent_cause d rest ≡ c
    by_place d true e k = absurd cc
    by_place d false e k = not_place d e ∙ same_fault d c k

    by_result : (r : Answer) → step sc st line terminal.Percent ≡ r → strayed (fault_line sc st line) r ≡ Err c
        → behind_cause sc0 p terminal.Percent rest ≡ c
    by_result (Ok x) e k = absurd cc
    by_result (Err d) e k = ap (λ (x : SourceCause). percent_cause x rest) (f d e) ∙ by_place d (is_place d) refl k
behind_is sc0 p sc st line s rest c f h = f c h

-- ---- the place of a state

-- these terminals begin with the change to a named section
pub record InSection (sc0 : ScopeView) (ss : List Terminal) : Type 0 where
  pub directive : List ℕ
  pub name : List ℕ
  pub more : List Terminal
  pub whole : ss ≡ terminal.Name directive ∷ terminal.Name name ∷ more
  pub naming : IsNaming sc0 directive name
  pub inner : list_all is_inner more ≡ true

-- what is known besides of a statement's words
abbrev pub Extra : ScopeView → StatementState → List Word → Type 0
Extra sc0 (state.Flags b n m) ps = InSection sc0 (terminals ps)
Extra sc0 (state.Arguments o) ps = (p : Word) × (q : Word) × (rest : List Word) × (ps ≡ p ∷ q ∷ rest)
Extra sc0 st ps = Unit {0}

-- In this state what is refused has the cause of the place.
pub record Suits (sc0 : ScopeView) (place : StatementPlace) (sc : ScopeView) (st : StatementState) : Type 0 where
  pub cause : (line : ℕ) (s : Terminal) (rest : List Terminal) (c : SourceCause) → next_step sc st line s ≡ Err c
      → refused_cause sc0 place s rest ≡ c
  pub percent : (line : ℕ) (rest : List Terminal) (c : SourceCause) → step sc st line terminal.Percent ≡ Err c
      → refused_cause sc0 place terminal.Percent rest ≡ percent_cause c rest
  pub first : st ≡ state.Start → (sc0 ≡ sc) × (place ≡ StatementPlace.first)
  pub byte : (c : SourceCause) → unwrap_or (pending sc st) c ≡ byte_cause sc0 place c

pub record Standing (sc0 : ScopeView) (st : StatementState) (ps : List Word) (sc : ScopeView) : Type 0 where
  pub place : StatementPlace
  pub stands : LeadsTo sc0 (terminals ps) place
  pub suits : Suits sc0 place sc st

start_fails : (sc : ScopeView) (line : ℕ) (s : Terminal) (c : SourceCause) → step sc state.Start line s ≡ Err c → other_cause s ≡ c
start_fails sc line terminal.End c h = absurd cc
start_fails sc line (terminal.Name n) c h = absurd cc
start_fails sc line terminal.Big c h = by_test sc.skipping h
  where
    by_test : (t : Bool) → ◌≡◌ {A = Answer} (with_scope sc (unless_skipping t cause.BadNumber)) (Err c) → cause.BadNumber ≡ c
    by_test true h = absurd cc
    by_test false h = same_fault _ c h
start_fails sc line _ c h = by_test sc.skipping h
  where
    by_test : (t : Bool) → ◌≡◌ {A = Answer} (with_scope sc (unless_skipping t cause.BadOperand)) (Err c) → cause.BadOperand ≡ c
    by_test true h = absurd cc
    by_test false h = same_fault _ c h

first_cause : (sc : ScopeView) (line : ℕ) (s : Terminal) (rest : List Terminal) (c : SourceCause) → next_step sc state.Start line s ≡ Err c
    → refused_cause sc StatementPlace.first s rest ≡ c
first_cause sc line (terminal.Name n) rest c h = absurd cc
first_cause sc line s rest c h = behind_is sc StatementPlace.first sc state.Start line s rest c (λ d k. start_fails sc line s d k) h

pub start_suits : (sc : ScopeView) → Suits sc StatementPlace.first sc state.Start
start_suits sc = record {
  cause = λ line s rest c h. first_cause sc line s rest c h;
  percent = λ line rest c h. ap (λ (x : SourceCause). percent_cause x rest) (start_fails sc line terminal.Percent c h);
  first = λ e. (refl, refl);
  byte = λ c. refl;
}

at_start : (sc : ScopeView) → Standing sc state.Start [] sc
at_start sc = record { place = StatementPlace.first; stands = LeadsTo.first; suits = start_suits sc }

-- of a name that may still begin something, only that it is an unknown directive is known
named_byte : (sc : ScopeView) (b : ℕ) (n : List ℕ) (c : SourceCause) → doom sc (state.Named b n) ≡ None
    → unwrap_or (pending sc (state.Named b n)) c ≡ byte_cause sc (StatementPlace.named n) c
named_byte sc b n c alive = by_test (is_unknown sc n) refl
  where
    by_test : (t : Bool) → is_unknown sc n ≡ t → unwrap_or (pending sc (state.Named b n)) c ≡ byte_cause sc (StatementPlace.named n) c
    by_test true e = rw e refl
    by_test false e =
        let lacks : lacks_names sc n ≡ false = (or_parts (is_unknown sc n && is_taken sc n) (lacks_names sc n) (then_none _ b alive)).1 in
        rw (e, lacks) refl

pub named_suits : (sc : ScopeView) (b : ℕ) (n : List ℕ) → doom sc (state.Named b n) ≡ None
    → Suits sc (StatementPlace.named n) sc (state.Named b n)
named_suits sc b n alive = record {
  cause = λ line s rest c h. behind_is sc (StatementPlace.named n) sc (state.Named b n) line s rest c (λ d k. named_fails sc b n s d k) h;
  percent = λ line rest c h. ap (λ (x : SourceCause). percent_cause x rest) (named_fails sc b n terminal.Percent c h);
  first = λ e. absurd cc;
  byte = λ c. named_byte sc b n c alive;
}

at_named : (sc : ScopeView) (b : ℕ) (n : List ℕ) (ps : List Word) → terminals ps ≡ terminal.Name n ∷ [] → doom sc (state.Named b n) ≡ None
    → Standing sc (state.Named b n) ps sc
at_named sc b n ps e alive = record {
  place = StatementPlace.named n;
  stands = subst (λ (x : List Terminal). LeadsTo sc x (StatementPlace.named n)) (sym e) LeadsTo.named;
  suits = named_suits sc b n alive;
}

passes : (sc : ScopeView) (line : ℕ) (s : Terminal) (c : SourceCause) → next_step sc state.Skip line s ≡ Err c → ⊥
passes sc line terminal.Percent c h = absurd cc
passes sc line terminal.End c h = absurd cc
passes sc line _ c h = absurd cc

flags_pass : (sc : ScopeView) (b : ℕ) (n m : List ℕ) (line : ℕ) (s : Terminal) (c : SourceCause)
    → next_step sc (state.Flags b n m) line s ≡ Err c → ⊥
flags_pass sc b n m line terminal.Percent c h = absurd cc
flags_pass sc b n m line terminal.End c h = absurd cc
flags_pass sc b n m line _ c h = absurd cc

pub skip_suits : (sc0 sc : ScopeView) → Suits sc0 StatementPlace.skipped sc state.Skip
skip_suits sc0 sc = record {
  cause = λ line s rest c h. absurd (passes sc line s c h);
  percent = λ line rest c h. absurd cc;
  first = λ e. absurd cc;
  byte = λ c. refl;
}

at_skip : (sc0 sc : ScopeView) (line : ℕ) (ps : List Word)
    → ((rest : List Terminal) → list_all is_inner rest ≡ true → Statement sc0 line (terminals ps ++ (rest ++ terminal.End ∷ [])) sc0)
    → Standing sc0 state.Skip ps sc
at_skip sc0 sc line ps f = record { place = StatementPlace.skipped; stands = LeadsTo.skipped {line = line} f; suits = skip_suits sc0 sc }

in_section : (sc0 : ScopeView) (ss : List Terminal) → InSection sc0 ss → LeadsTo sc0 ss StatementPlace.section
in_section sc0 ss g = subst (λ (x : List Terminal). LeadsTo sc0 x StatementPlace.section) (sym g.whole)
    (LeadsTo.section g.more g.naming.passed g.naming.dotted g.naming.section g.naming.is g.inner)

pub flags_suits : (sc0 sc : ScopeView) (b : ℕ) (n m : List ℕ) → Suits sc0 StatementPlace.section sc (state.Flags b n m)
flags_suits sc0 sc b n m = record {
  cause = λ line s rest c h. absurd (flags_pass sc b n m line s c h);
  percent = λ line rest c h. absurd cc;
  first = λ e. absurd cc;
  byte = λ c. refl;
}

at_flags : (sc0 sc : ScopeView) (b : ℕ) (n m : List ℕ) (ps : List Word) → InSection sc0 (terminals ps)
    → Standing sc0 (state.Flags b n m) ps sc
at_flags sc0 sc b n m ps st =
    record { place = StatementPlace.section; stands = in_section sc0 (terminals ps) st; suits = flags_suits sc0 sc b n m }

-- ---- terminals in front of a statement's end

inner_either : (t : Bool) (a b : Terminal) → is_inner a ≡ true → is_inner b ≡ true → is_inner (cond t a b) ≡ true
inner_either true a b p q = p
inner_either false a b p q = q

mark_inner : (m : ℕ) → is_inner (mark_terminal m) ≡ true
mark_inner m =
    inner_either (m == 36) terminal.Dollar _ refl
    (inner_either (m == 37) terminal.Percent _ refl
    (inner_either (m == 40) terminal.Open _ refl (inner_either (m == 41) terminal.Close _ refl (inner_either (m == 42) terminal.Star _ refl
    (inner_either (m == 43) terminal.Plus _ refl
    (inner_either (m == 44) terminal.Comma _ refl
    (inner_either (m == 45) terminal.Minus _ refl (inner_either (m == 58) terminal.Colon terminal.At refl refl))))))))

part_inner : (k : TokenKind) (bytes : List ℕ) → is_part k bytes ≡ true → is_inner (terminal_of k bytes) ≡ true
part_inner token.End bytes h = absurd cc
part_inner token.Name bytes h = refl
part_inner token.Number bytes h =
    inner_either (nat_lt (number_value bytes) (2 ^ 32)) (terminal.Number (number_value bytes)) terminal.Big refl refl
part_inner token.Text bytes h = refl
part_inner (token.Mark m) bytes h = mark_inner m

pub all_more : (xs ys : List Terminal) → list_all is_inner xs ≡ true → list_all is_inner ys ≡ true → list_all is_inner (xs ++ ys) ≡ true
all_more [] ys p q = q
all_more (terminal.End ∷ xs) ys p q = absurd cc
all_more (x ∷ xs) ys p q = all_more xs ys p q

pub all_and : (s : Terminal) (ss : List Terminal) → is_inner s ≡ true → list_all is_inner ss ≡ true → list_all is_inner (s ∷ ss) ≡ true
all_and terminal.End ss p q = absurd cc
all_and s ss p q = q

touch_inner : (e : ℕ) (parts : List Word) → Touch e parts → list_all is_inner (terminals parts) ≡ true
touch_inner e [] h = refl
touch_inner e (w ∷ ws) (at, part, more) =
    all_and (terminal_of w.kind w.bytes) (terminals ws) (part_inner w.kind w.bytes part) (touch_inner (w.at + length w.bytes) ws more)

pub section_words : (sc0 : ScopeView) (ps : List Word) (b : ℕ) (n m : List ℕ) (e : ℕ) → InName sc0 ps b n m e → (more : List Word)
    → list_all is_inner (terminals more) ≡ true → InSection sc0 (terminals (ps ++ more))
section_words sc0 ps b n m e g more inner = record {
  directive = n;
  name = g.front;
  more = terminals (g.parts ++ more);
  whole = rw (g.whole, g.named, g.behind) refl;
  naming = g.naming;
  inner = ap (list_all is_inner) (terminals-append g.parts more)
      ∙ all_more (terminals g.parts) (terminals more) (touch_inner (g.second.at + length g.second.bytes) g.parts g.touch) inner;
}

sectioned_fails : (sc : ScopeView) (b : ℕ) (n m : List ℕ) (s : Terminal) (c : SourceCause)
    → sectioned_step sc b n m s ≡ Err c → other_cause s ≡ c
sectioned_fails sc b n m terminal.End c h = absurd cc
sectioned_fails sc b n m terminal.Comma c h = absurd cc
sectioned_fails sc b n m _ c h = same_fault _ c h

pub section_suits : (sc0 sc : ScopeView) (b : ℕ) (n m : List ℕ) (e : ℕ) → Suits sc0 StatementPlace.section sc (state.Sectioned b n m e)
section_suits sc0 sc b n m e = record {
  cause = λ line s rest c h. behind_is sc0 StatementPlace.section sc (state.Sectioned b n m e) line s rest c
      (λ d k. sectioned_fails sc b n m s d k) h;
  percent = λ line rest c h. ap (λ (x : SourceCause). percent_cause x rest) (sectioned_fails sc b n m terminal.Percent c h);
  first = λ e. absurd cc;
  byte = λ c. refl;
}

at_section : (sc0 sc : ScopeView) (b : ℕ) (n m : List ℕ) (e : ℕ) (ps : List Word) → InName sc0 ps b n m e
    → Standing sc0 (state.Sectioned b n m e) ps sc
at_section sc0 sc b n m e ps g = record {
  place = StatementPlace.section;
  stands = subst (λ (x : List Word). LeadsTo sc0 (terminals x) StatementPlace.section) (append-nil ps)
      (in_section sc0 (terminals (ps ++ [])) (section_words sc0 ps b n m e g [] refl));
  suits = section_suits sc0 sc b n m e;
}

-- ---- in arguments

instruction_shape : (h : Head) (i : ℕ) (sh : Shape) → is_instruction h ≡ true → shape_at h i ≡ Some sh → sh ≡ shape.Operand
instruction_shape (head.Instruction r n) i sh e may = cc
instruction_shape (head.Directive k n) i sh e may = absurd cc

awaits_is : (p : Partial) → awaits_register p ≡ percents p
awaits_is partial.Percent = refl
awaits_is (partial.BasePercent v) = refl
awaits_is (partial.IndexPercent v b) = refl
awaits_is _ = refl

star_only : (b : Bool) → is_percent (last_of (stars b ++ [])) ≡ false
star_only true = refl
star_only false = refl

module _ (sc0 : ScopeView) (line : ℕ) (o : Open) (ss : List Terminal) (sc : ScopeView) (w : InArguments sc0 line o ss sc) where
  ends_percent : is_percent (last_of (stars o.star ++ w.arg)) ≡ awaits_register o.so_far
  ends_percent = elim w.spelled [
    | inl (e, f) ↦ rw (e, f) (star_only o.star)
    | inr (sh, may, sp) ↦ by_begun sh sp (is_unbegun o.so_far) refl
  ]
    where
      unbegun_quiet : (p : Partial) (xs : List Terminal) (sh : Shape) → Spelled sh p xs → is_unbegun p ≡ true → (xs ≡ [])
          × (awaits_register p ≡ false)
      unbegun_quiet partial.Nothing xs sh sp u = (sp, refl)
      unbegun_quiet partial.Absent xs sh sp u = (sp.0, refl)
      unbegun_quiet _ xs sh sp u = absurd cc

      by_begun : (sh : Shape) → Spelled sh o.so_far w.arg → (t : Bool) → is_unbegun o.so_far ≡ t
          → is_percent (last_of (stars o.star ++ w.arg)) ≡ awaits_register o.so_far
      by_begun sh sp true u = let q = unbegun_quiet o.so_far w.arg sh sp u in rw (q.0, q.1) (star_only o.star)
      by_begun sh sp false u = let t = spelled_tail sh o.so_far o.star w.arg (w.solid u) sp in t.percent_is ∙ sym (awaits_is o.so_far)

  byte_is : (c : SourceCause) → unwrap_or (pending sc (state.Arguments o)) c ≡ byte_cause sc0
      (StatementPlace.argument o.head o.arguments w.behind (stars o.star ++ w.arg)) c
  byte_is c = by_test (awaits_register o.so_far) refl
    where
      by_test : (t : Bool) → awaits_register o.so_far ≡ t → unwrap_or (pending sc (state.Arguments o)) c ≡ byte_cause sc0
          (StatementPlace.argument o.head o.arguments w.behind (stars o.star ++ w.arg)) c
      by_test true e = let f : is_percent (last_of (stars o.star ++ w.arg)) ≡ true = ends_percent ∙ e in rw (e, f) refl
      by_test false e = let f : is_percent (last_of (stars o.star ++ w.arg)) ≡ false = ends_percent ∙ e in rw (e, f) refl

  -- an argument of the shape begins so
  opened : (sh : Shape) → shape_at o.head (length o.arguments) ≡ Some sh → Spelled sh o.so_far w.arg
      → (is_nothing o.so_far ≡ true → sh ≡ shape.Name → ⊥) → Opens (Some sh) (stars o.star ++ w.arg)
  opened sh may sp never =
      let f = finish sh o.so_far never in
      let form = spelled_form sh f.last f.form (w.arg ++ terminals_of f.pieces)
      (run_spelled sh (terminals_of f.pieces) w.arg o.so_far f.last sp f.runs) f.ends in
      by_star o.star refl (terminals_of f.pieces) f.form form
    where
      by_star : (t : Bool) → o.star ≡ t → (more : List Terminal) (x : Form) → IsForm sh (w.arg ++ more) x
          → Opens (Some sh) (stars t ++ w.arg)
      by_star false e more x form = Opens.some more (record { star = false; form = x }) (IsArgument.plain form)
      by_star true e more x form =
          let operand : is_operand sh ≡ true = ap is_operand (instruction_shape o.head (length o.arguments) sh (w.starred e) may) in
          Opens.some more (record { star = true; form = x }) (IsArgument.starred operand form)

  opens : Opens (shape_at o.head (length o.arguments)) (stars o.star ++ w.arg)
  opens = by_star o.star refl
    where
      whole : (t : Bool) → o.star ≡ t → (r : Option Shape) → shape_at o.head (length o.arguments) ≡ r → Opens r (stars t ++ w.arg)
      whole true e None may = absurd (no_shape o.head (w.starred e) may)
        where
          no_shape : (h : Head) → is_instruction h ≡ true → shape_at h (length o.arguments) ≡ None → ⊥
          no_shape (head.Instruction r n) i may = absurd cc
          no_shape (head.Directive k n) i may = absurd cc
      whole false e None may = elim w.spelled [
        | inl (x, f) ↦ rw f Opens.nothing
        | inr (sh, may2, sp) ↦ let g : ◌≡◌ {A = Option Shape} None (Some sh) = sym may ∙ may2 in absurd cc
      ]
      whole t e (Some sh) may = subst (λ (x : Bool). Opens (Some sh) (stars x ++ w.arg)) e (by_nothing (is_nothing o.so_far) refl)
        where
          sp : Spelled sh o.so_far w.arg
          sp = elim w.spelled [
            | inl (x, f) ↦ subst (λ (p : Partial). Spelled sh p w.arg) (sym x) f
            | inr (sh2, may2, sp2) ↦ let same : sh2 ≡ sh =
                some_same sh2 sh (sym may2 ∙ may) in subst (λ (x : Shape). Spelled x o.so_far w.arg) same sp2
          ]
            where
              some_same : (a b : Shape) → ◌≡◌ {A = Option Shape} (Some a) (Some b) → a ≡ b
              some_same a b e = cc

          no_name : (t : Bool) → o.star ≡ t → is_nothing o.so_far ≡ true → Opens (Some sh) (stars t ++ w.arg)
          no_name false f n = rw (nothing_nil o.so_far w.arg sp n) Opens.nothing
            where
              nothing_nil : (p : Partial) (xs : List Terminal) → Spelled sh p xs → is_nothing p ≡ true → xs ≡ []
              nothing_nil partial.Nothing xs q n = q
              nothing_nil _ xs q n = absurd cc
          no_name true f n = subst (λ (x : Bool). Opens (Some sh) (stars x ++ w.arg)) f
              (opened sh may sp (λ n2 is. operand_not_name (sym (instruction_shape o.head (length o.arguments) sh (w.starred f) may) ∙ is)))
            where
              operand_not_name : shape.Operand ≡ shape.Name → ⊥
              operand_not_name e = absurd cc

          by_nothing : (t : Bool) → is_nothing o.so_far ≡ t → Opens (Some sh) (stars o.star ++ w.arg)
          by_nothing true n = no_name o.star refl n
          by_nothing false n = opened sh may sp (λ n2 is. not_both n2 n)

      by_star : (t : Bool) → o.star ≡ t → Opens (shape_at o.head (length o.arguments)) (stars o.star ++ w.arg)
      by_star t e = rw e (whole t e (shape_at o.head (length o.arguments)) refl)

  pub arguments_suit : Suits sc0 (StatementPlace.argument o.head o.arguments w.behind (stars o.star ++ w.arg)) sc (state.Arguments o)
  arguments_suit = record {
    cause = λ at s more c h. behind_is sc0 (StatementPlace.argument o.head o.arguments w.behind (stars o.star ++ w.arg)) sc
        (state.Arguments o) at s more c (λ d k. argument_refused sc0 line o ss sc w s d k) h;
    percent = λ at more c h. ap (λ (x : SourceCause). percent_cause x more) (argument_refused sc0 line o ss sc w terminal.Percent c h);
    first = λ e. absurd cc;
    byte = byte_is;
  }

  at_arguments : (ps : List Word) → ss ≡ terminals ps → (p : Word) (q : Word) (rest : List Word) → ps ≡ p ∷ q ∷ rest
      → Standing sc0 (state.Arguments o) ps sc
  at_arguments ps same p q rest e = record {
    place = StatementPlace.argument o.head o.arguments w.behind (stars o.star ++ w.arg);
    stands = subst (λ (x : List Terminal). LeadsTo sc0 x (StatementPlace.argument o.head o.arguments w.behind (stars o.star ++ w.arg)))
        (ap terminals (sym e))
        (LeadsTo.argument (terminal_of p.kind p.bytes) (terminal_of q.kind q.bytes) (terminals rest) w.lead w.front (stars o.star ++ w.arg)
        (ap terminals (sym e) ∙ (sym same ∙ w.whole)) w.leads w.separated opens);
    suits = arguments_suit;
  }

-- What is held of a statement stands in a place.
pub standing : (sc0 : ScopeView) (st : StatementState) (ps : List Word) (sc : ScopeView) → Held sc0 st ps sc → Extra sc0 st ps
    → doom sc st ≡ None → Standing sc0 st ps sc
standing sc0 st [] sc held extra alive =
    let one : Standing sc st [] sc = subst (λ (x : StatementState). Standing sc x [] sc) (sym held.0) (at_start sc) in
    subst (λ (x : ScopeView). Standing x st [] sc) (sym held.1) one
standing sc0 state.Start (p ∷ ps) sc held extra alive = absurd (held.0 refl)
standing sc0 (state.Named b n) (p ∷ ps) sc held extra alive =
    subst (λ (x : ScopeView). Standing x (state.Named b n) (p ∷ ps) sc) (sym held.1.2) (at_named sc b n (p ∷ ps) held.1.1 alive)
standing sc0 state.Skip (p ∷ ps) sc held extra alive = at_skip sc0 sc p.line (p ∷ ps) held.1.1
standing sc0 (state.Sectioned b n m e) (p ∷ ps) sc held extra alive = at_section sc0 sc b n m e (p ∷ ps) held.1.1
standing sc0 (state.Flags b n m) (p ∷ ps) sc held extra alive = at_flags sc0 sc b n m (p ∷ ps) extra
standing sc0 (state.Arguments o) (p ∷ ps) sc held extra alive =
    at_arguments sc0 p.line o (terminals (p ∷ ps)) sc held.1 (p ∷ ps) refl extra.0 extra.1 extra.2 extra.3
standing sc0 (state.Stray l c) (p ∷ ps) sc held extra alive = absurd cc
