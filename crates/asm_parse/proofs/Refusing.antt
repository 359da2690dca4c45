-- A terminal that is refused has the cause of its place.
use Rattle.std.proofs.Common.{◌≡◌, ℕ, Bool, true, false, cond, List, [], ◌∷◌, length, Option, Some, None, Result, Ok, Err, refl, sym, ap, ◌∙◌}
use Rattle.std.specs.Prelude.{◌&&◌, not}
use Rattle.std.specs.Option.{option_map_or}
use Rattle.asm_lex.specs.declared.fault.SourceCause.{SourceCause}
use Rattle.asm_lex.specs.declared.fault.SourceCause.TheVariants as cause
use Rattle.asm_argument.specs.declared.terminal.Terminal.{Terminal}
use Rattle.asm_argument.specs.declared.terminal.Terminal.TheVariants as terminal
use Rattle.asm_argument.specs.declared.shape.Shape.{Shape}
use Rattle.asm_argument.specs.declared.shape.Shape.TheVariants as shape
use Rattle.asm_argument.specs.declared.operand.ValuePlace.TheVariants as place
use Rattle.asm_argument.specs.declared.operand.Partial.{Partial}
use Rattle.asm_argument.specs.declared.operand.Partial.TheVariants as partial
use Rattle.asm_source.specs.declared.tree.Argument.{Argument}
use Rattle.asm_source.specs.declared.tree.Form.TheVariants as form
use Rattle.asm_statement.specs.declared.directive.Head.{Head}
use Rattle.asm_statement.specs.ScopeView.{ScopeView}
use Rattle.asm_source.specs.Names.{holds}
use Rattle.asm_statement.specs.Scope.{has_room, noted, defined_too}
use Rattle.asm_argument.specs.Operand.{counted, allowed, registered, first, next_terminal, operand_step, is_finished, is_unbegun, name_in}
use Rattle.asm_argument.specs.Shapes.{is_operand, takes_names, takes_sums, takes_minus, takes_numbers, takes_text, fits, is_low, is_register, is_scale}
use Rattle.asm_statement.specs.Directives.{shape_at, defines}
use Rattle.asm_statement.specs.Statement.{noting, argument_cause}
use Rattle.asm_statement.specs.Openings.{misplaced}
use Rattle.asm_parse.specs.Refusals.{name_cause, operand_cause, value_cause}
use Rattle.asm_argument.proofs.Operands.{ok, registered_ok, Spelled}
use Rattle.asm_parse.proofs.Tails.{percents, indexed, minuses, signs, frees, Tail}

abbrev err : SourceCause → Result Partial SourceCause
err c = Err c

-- ---- an operand of an instruction

-- the cause, by how the operand's terminals end
abbrev pub operand_by : Bool → Bool → Bool → Bool → Terminal → SourceCause
operand_by percent index minus free terminal.Big = cause.BadNumber
operand_by percent index minus free (terminal.Number n) =
    cond percent cause.BadRegister (cond index cause.BadScale (cond minus cause.BadNumber cause.BadOperand))
operand_by percent index minus free (terminal.Name n) = cond percent cause.BadRegister (cond free cause.TooManySymbols cause.BadOperand)
operand_by percent index minus free s = cond percent cause.BadRegister cause.BadOperand

pub operand_ends : (ss : List Terminal) (a b c d e : Bool) → Tail ss a b c d e → (s : Terminal) → operand_cause ss s ≡ operand_by a b c e s
operand_ends ss a b c d e t terminal.Big = refl
operand_ends ss a b c d e t (terminal.Number n) = rw (t.percent_is, t.index_is, t.minus_is) refl
operand_ends ss a b c d e t (terminal.Name n) = rw (t.percent_is, t.free_is) refl
operand_ends ss a b c d e t terminal.Percent = rw t.percent_is refl
operand_ends ss a b c d e t terminal.Dollar = rw t.percent_is refl
operand_ends ss a b c d e t terminal.Star = rw t.percent_is refl
operand_ends ss a b c d e t terminal.Comma = rw t.percent_is refl
operand_ends ss a b c d e t terminal.Colon = rw t.percent_is refl
operand_ends ss a b c d e t terminal.Open = rw t.percent_is refl
operand_ends ss a b c d e t terminal.Close = rw t.percent_is refl
operand_ends ss a b c d e t terminal.Plus = rw t.percent_is refl
operand_ends ss a b c d e t terminal.Minus = rw t.percent_is refl
operand_ends ss a b c d e t terminal.At = rw t.percent_is refl
operand_ends ss a b c d e t (terminal.Text x) = rw t.percent_is refl
operand_ends ss a b c d e t terminal.End = rw t.percent_is refl

abbrev pub operand_at : Partial → Terminal → SourceCause
operand_at p s = operand_by (percents p) (indexed p) (minuses p) (frees p) s

unnamed : (a q : Partial) (n : List ℕ) → name_in a ≡ None → a ≡ q → name_in q ≡ Some n → ⊥
unnamed a q n e f g = let k : name_in a ≡ Some n = ap name_in f ∙ g in absurd cc

register_err : (t : Bool) (q : Partial) (c : SourceCause) → registered t q ≡ err c → cause.BadRegister ≡ c
register_err true q c h = absurd cc
register_err false q c h = cc

scale_err : (t : Bool) (q : Partial) (c : SourceCause) → cond t (Ok q) (err cause.BadScale) ≡ err c → cause.BadScale ≡ c
scale_err true q c h = absurd cc
scale_err false q c h = cc

low_err : (t : Bool) (q : Partial) (c : SourceCause) → cond t (Ok q) (err cause.BadNumber) ≡ err c → cause.BadNumber ≡ c
low_err true q c h = absurd cc
low_err false q c h = cc

same_err : (a c : SourceCause) → err a ≡ err c → a ≡ c
same_err a c h = cc

pub operand_err : (p : Partial) (s : Terminal) (c : SourceCause) → operand_step shape.Operand p s ≡ err c → operand_at p s ≡ c
operand_err partial.Nothing terminal.Percent c h = absurd cc
operand_err partial.Nothing terminal.Dollar c h = absurd cc
operand_err partial.Nothing terminal.Open c h = absurd cc
operand_err partial.Nothing terminal.Minus c h = absurd cc
operand_err partial.Nothing (terminal.Number n) c h = absurd cc
operand_err partial.Nothing (terminal.Name n) c h = absurd cc
operand_err partial.Nothing _ c h = same_err _ c h
operand_err partial.Absent terminal.Percent c h = absurd cc
operand_err partial.Absent terminal.Dollar c h = absurd cc
operand_err partial.Absent terminal.Open c h = absurd cc
operand_err partial.Absent terminal.Minus c h = absurd cc
operand_err partial.Absent (terminal.Number n) c h = absurd cc
operand_err partial.Absent (terminal.Name n) c h = absurd cc
operand_err partial.Absent _ c h = same_err _ c h
operand_err partial.Percent terminal.Big c h = same_err _ c h
operand_err partial.Percent (terminal.Name r) c h = register_err (is_register r) _ c h
operand_err partial.Percent _ c h = same_err _ c h
operand_err partial.Dollar terminal.Minus c h = absurd cc
operand_err partial.Dollar (terminal.Number n) c h = absurd cc
operand_err partial.Dollar (terminal.Name n) c h = absurd cc
operand_err partial.Dollar _ c h = same_err _ c h
operand_err (partial.Minus p) (terminal.Number n) c h = low_err (is_low n) _ c h
operand_err (partial.Minus p) _ c h = same_err _ c h
operand_err (partial.Name p n) terminal.Plus c h = absurd cc
operand_err (partial.Name p n) terminal.Minus c h = absurd cc
operand_err (partial.Name place.Memory n) terminal.Open c h = absurd cc
operand_err (partial.Name place.Immediate n) terminal.Open c h = same_err _ c h
operand_err (partial.Name p n) _ c h = same_err _ c h
operand_err (partial.Sign p n neg) terminal.Minus c h = absurd cc
operand_err (partial.Sign p n neg) (terminal.Number k) c h = absurd cc
operand_err (partial.Sign p n true) _ c h = same_err _ c h
operand_err (partial.Sign p n false) _ c h = same_err _ c h
operand_err (partial.SignMinus p n neg) (terminal.Number k) c h = low_err (is_low k) _ c h
operand_err (partial.SignMinus p n neg) _ c h = same_err _ c h
operand_err (partial.Number place.Memory v) terminal.Open c h = absurd cc
operand_err (partial.Number place.Immediate v) terminal.Open c h = same_err _ c h
operand_err (partial.Number p v) _ c h = same_err _ c h
operand_err (partial.Open v) terminal.Percent c h = absurd cc
operand_err (partial.Open v) terminal.Comma c h = absurd cc
operand_err (partial.Open v) _ c h = same_err _ c h
operand_err (partial.BasePercent v) terminal.Big c h = same_err _ c h
operand_err (partial.BasePercent v) (terminal.Name r) c h = register_err (is_register r) _ c h
operand_err (partial.BasePercent v) _ c h = same_err _ c h
operand_err (partial.Base v b) terminal.Close c h = absurd cc
operand_err (partial.Base v b) terminal.Comma c h = absurd cc
operand_err (partial.Base v b) _ c h = same_err _ c h
operand_err (partial.IndexComma v b) terminal.Percent c h = absurd cc
operand_err (partial.IndexComma v b) _ c h = same_err _ c h
operand_err (partial.IndexPercent v b) terminal.Big c h = same_err _ c h
operand_err (partial.IndexPercent v b) (terminal.Name r) c h = register_err (is_register r) _ c h
operand_err (partial.IndexPercent v b) _ c h = same_err _ c h
operand_err (partial.Index v b i) terminal.Close c h = absurd cc
operand_err (partial.Index v b i) terminal.Comma c h = absurd cc
operand_err (partial.Index v b i) _ c h = same_err _ c h
operand_err (partial.Scale v b i) (terminal.Number n) c h = scale_err (is_scale n) _ c h
operand_err (partial.Scale v b i) _ c h = same_err _ c h
operand_err (partial.Scaled v b i n) terminal.Close c h = absurd cc
operand_err (partial.Scaled v b i n) _ c h = same_err _ c h
operand_err (partial.Whole f) terminal.Big c h = same_err _ c h
operand_err (partial.Whole f) _ c h = same_err _ c h

-- where a name may stand, one that may not be said is one too many
pub operand_name : (p : Partial) (m n : List ℕ) (q : Partial) → (p ≡ partial.Absent → ⊥) → next_terminal shape.Operand p (terminal.Name m)
    ≡ ok q → name_in q ≡ Some n → operand_at p (terminal.Name m) ≡ cause.TooManySymbols
operand_name partial.Nothing m n q never h e = refl
operand_name partial.Dollar m n q never h e = refl
operand_name partial.Absent m n q never h e = absurd (never refl)
operand_name partial.Percent m n q never h e =
    absurd (unnamed (partial.Whole (form.Register m)) q n refl (registered_ok (is_register m) _ q h).1 e)
operand_name (partial.BasePercent v) m n q never h e =
    absurd (unnamed (partial.Base v m) q n refl (registered_ok (is_register m) _ q h).1 e)
operand_name (partial.IndexPercent v b) m n q never h e =
    absurd (unnamed (partial.Index v b m) q n refl (registered_ok (is_register m) _ q h).1 e)
operand_name _ m n q never h e = absurd cc

-- ---- an argument of a directive

-- the cause after what has been read of it, by how that ends
abbrev pub value_by : Bool → Bool → Terminal → SourceCause
value_by minus sign terminal.Big = cause.BadNumber
value_by minus sign (terminal.Number n) = cond minus (cond (is_low n) cause.BadArgument cause.BadNumber) cause.BadOperand
value_by minus sign terminal.Comma = cond sign cause.BadOperand cause.BadArgument
value_by minus sign terminal.End = cond sign cause.BadOperand cause.BadArgument
value_by minus sign s = cause.BadOperand

pub value_ends : (h : Head) (done : List Argument) (sc : ScopeView) (ss : List Terminal) (a b c d e : Bool) → (ss ≡ [] → ⊥)
    → Tail ss a b c d e → (s : Terminal) → value_cause h done sc ss s ≡ value_by c d s
value_ends h done sc [] a b c d e never t s = absurd (never refl)
value_ends h done sc (x ∷ xs) a b c d e never t (terminal.Number n) = rw t.minus_is refl
value_ends h done sc (x ∷ xs) a b c d e never t terminal.Comma = rw t.sign_is refl
value_ends h done sc (x ∷ xs) a b c d e never t terminal.End = rw t.sign_is refl
value_ends h done sc (x ∷ xs) a b c d e never t _ = refl

abbrev pub value_at : Partial → Terminal → SourceCause
value_at p s = value_by (minuses p) (signs p) s

abbrev pub is_cut : Terminal → Bool
is_cut terminal.Comma = true
is_cut terminal.End = true
is_cut _ = false

pub not_both : {t : Bool} → t ≡ true → t ≡ false → ⊥
not_both e f = absurd cc

of_err : (nothing : Bool) (other a c : SourceCause) → err a ≡ err c → argument_cause nothing other a ≡ argument_cause nothing other c
of_err nothing other a c h = ap (argument_cause nothing other) (same_err a c h)

-- the same fault, and its cause
cause_is : (other a c d : SourceCause) → err a ≡ err c → argument_cause false other a ≡ d → argument_cause false other c ≡ d
cause_is other a c d h e = sym (of_err false other a c h) ∙ e

allowed_err : (t : Bool) (q : Partial) (other c d : SourceCause) → allowed t q ≡ err c → cause.BadOperand ≡ d
    → argument_cause false other c ≡ d
allowed_err true q other c d h e = absurd cc
allowed_err false q other c d h e = cause_is other cause.BadOperand c d h e

lowered_err : (low fit : Bool) (q : Partial) (other c : SourceCause) → cond low (counted true fit q) (Err cause.BadNumber) ≡ err c
    → argument_cause false other c ≡ cond low cause.BadArgument cause.BadNumber
lowered_err true true q other c h = absurd cc
lowered_err true false q other c h = cause_is other cause.BadArgument c cause.BadArgument h refl
lowered_err false fit q other c h = cause_is other cause.BadNumber c cause.BadNumber h refl

pub value_err : (sh : Shape) (p : Partial) (ss : List Terminal) (s : Terminal) (other c : SourceCause) → is_operand sh ≡ false
    → is_unbegun p ≡ false → Spelled sh p ss → (is_cut s ≡ true → is_finished p ≡ false) → operand_step sh p s ≡ err c
    → argument_cause false other c ≡ value_at p s
value_err sh partial.Nothing ss s other c n u sp cut h = absurd cc
value_err sh partial.Absent ss s other c n u sp cut h = absurd cc
value_err sh partial.Percent ss s other c n u sp cut h = absurd (not_both sp.0 n)
value_err sh partial.Dollar ss s other c n u sp cut h = absurd (not_both sp.0 n)
value_err sh (partial.Minus place.Immediate) ss s other c n u sp cut h = absurd (not_both sp.0 n)
value_err sh (partial.Minus place.Memory) ss (terminal.Number k) other c n u sp cut h = lowered_err (is_low k) (fits sh true k) _ other c h
value_err sh (partial.Minus place.Memory) ss _ other c n u sp cut h = cause_is other _ c _ h refl
value_err sh (partial.Name place.Immediate m) ss s other c n u sp cut h = absurd (not_both sp.0 n)
value_err sh (partial.Name place.Memory m) ss terminal.Plus other c n u sp cut h = allowed_err (takes_sums sh) _ other c _ h refl
value_err sh (partial.Name place.Memory m) ss terminal.Minus other c n u sp cut h = allowed_err (takes_sums sh) _ other c _ h refl
value_err sh (partial.Name place.Memory m) ss terminal.Open other c n u sp cut h = allowed_err (is_operand sh) _ other c _ h refl
value_err sh (partial.Name place.Memory m) ss terminal.Comma other c n u sp cut h = absurd (not_both refl (cut refl))
value_err sh (partial.Name place.Memory m) ss terminal.End other c n u sp cut h = absurd (not_both refl (cut refl))
value_err sh (partial.Name place.Memory m) ss _ other c n u sp cut h = cause_is other _ c _ h refl
value_err sh (partial.Sign place.Immediate m neg) ss s other c n u sp cut h = absurd (not_both sp.0 n)
value_err sh (partial.Sign place.Memory m neg) ss terminal.Minus other c n u sp cut h = absurd cc
value_err sh (partial.Sign place.Memory m neg) ss (terminal.Number k) other c n u sp cut h = absurd cc
value_err sh (partial.Sign place.Memory m neg) ss _ other c n u sp cut h = cause_is other _ c _ h refl
value_err sh (partial.SignMinus place.Immediate m neg) ss s other c n u sp cut h = absurd (not_both sp.0 n)
value_err sh (partial.SignMinus place.Memory m neg) ss (terminal.Number k) other c n u sp cut h = lowered_err (is_low k) true _ other c h
value_err sh (partial.SignMinus place.Memory m neg) ss _ other c n u sp cut h = cause_is other _ c _ h refl
value_err sh (partial.Number place.Immediate v) ss s other c n u sp cut h = absurd (not_both sp.0 n)
value_err sh (partial.Number place.Memory v) ss terminal.Open other c n u sp cut h = allowed_err (is_operand sh) _ other c _ h refl
value_err sh (partial.Number place.Memory v) ss terminal.Comma other c n u sp cut h = absurd (not_both refl (cut refl))
value_err sh (partial.Number place.Memory v) ss terminal.End other c n u sp cut h = absurd (not_both refl (cut refl))
value_err sh (partial.Number place.Memory v) ss _ other c n u sp cut h = cause_is other _ c _ h refl
value_err sh (partial.Whole f) ss terminal.Comma other c n u sp cut h = absurd (not_both refl (cut refl))
value_err sh (partial.Whole f) ss terminal.End other c n u sp cut h = absurd (not_both refl (cut refl))
value_err sh (partial.Whole f) ss _ other c n u sp cut h = cause_is other _ c _ h refl
value_err sh (partial.Open v) ss s other c n u sp cut h = absurd (not_both sp.operand n)
value_err sh (partial.BasePercent v) ss s other c n u sp cut h = absurd (not_both sp.operand n)
value_err sh (partial.Base v b) ss s other c n u sp cut h = absurd (not_both sp.operand n)
value_err sh (partial.IndexComma v b) ss s other c n u sp cut h = absurd (not_both sp.operand n)
value_err sh (partial.IndexPercent v b) ss s other c n u sp cut h = absurd (not_both sp.operand n)
value_err sh (partial.Index v b i) ss s other c n u sp cut h = absurd (not_both sp.operand n)
value_err sh (partial.Scale v b i) ss s other c n u sp cut h = absurd (not_both sp.operand n)
value_err sh (partial.Scaled v b i k) ss s other c n u sp cut h = absurd (not_both sp.operand n)

-- whether a name may stand there, if an argument may
abbrev pub takes_name : Option Shape → Bool
takes_name o = option_map_or takes_names o false

-- where nothing of the argument has been read
abbrev pub value_first : Bool → ScopeView → Bool → Terminal → SourceCause
value_first takes sc def (terminal.Name n) = cond takes (name_cause sc def n) cause.BadArgument
value_first takes sc def s = misplaced s

pub value_none : (h : Head) (done : List Argument) (sc : ScopeView) (s : Terminal)
    → value_cause h done sc [] s ≡ value_first (takes_name (shape_at h (length done))) sc (defines h (length done)) s
value_none h done sc (terminal.Name n) = refl
value_none h done sc _ = refl

first_cause : (other a c d : SourceCause) → err a ≡ err c → argument_cause true other a ≡ d → argument_cause true other c ≡ d
first_cause other a c d h e = sym (of_err true other a c h) ∙ e

first_allowed : (t : Bool) (q : Partial) (other c d : SourceCause) → allowed t q ≡ err c → other ≡ d → argument_cause true other c ≡ d
first_allowed true q other c d h e = absurd cc
first_allowed false q other c d h e = first_cause other cause.BadOperand c d h e

first_counted : (t u : Bool) (q : Partial) (c : SourceCause) → counted t u q ≡ err c
    → argument_cause true cause.BadArgument c ≡ cause.BadArgument
first_counted true true q c h = absurd cc
first_counted true false q c h = first_cause cause.BadArgument cause.BadArgument c cause.BadArgument h refl
first_counted false u q c h = first_cause cause.BadArgument cause.BadOperand c cause.BadArgument h refl

first_named : (t : Bool) (q : Partial) (sc : ScopeView) (def : Bool) (n : List ℕ) (c : SourceCause) → allowed t q ≡ err c
    → argument_cause true cause.BadArgument c ≡ cond t (name_cause sc def n) cause.BadArgument
first_named true q sc def n c h = absurd cc
first_named false q sc def n c h = first_cause cause.BadArgument cause.BadOperand c cause.BadArgument h refl

first_err : (sh : Shape) (sc : ScopeView) (def : Bool) (s : Terminal) (c : SourceCause) → first sh s ≡ err c
    → argument_cause true (misplaced s) c ≡ value_first (takes_names sh) sc def s
first_err sh sc def terminal.Percent c h = first_allowed (is_operand sh) _ _ c _ h refl
first_err sh sc def terminal.Dollar c h = first_allowed (is_operand sh) _ _ c _ h refl
first_err sh sc def terminal.Open c h = first_allowed (is_operand sh) _ _ c _ h refl
first_err sh sc def terminal.Minus c h = first_allowed (takes_minus sh) _ _ c _ h refl
first_err sh sc def (terminal.Number n) c h = first_counted (takes_numbers sh) (fits sh false n) _ c h
first_err sh sc def (terminal.Name n) c h = first_named (takes_names sh) _ sc def n c h
first_err sh sc def (terminal.Text t) c h = first_allowed (takes_text sh) _ _ c _ h refl
first_err sh sc def terminal.Big c h = first_cause _ _ c _ h refl
first_err sh sc def _ c h = first_cause _ _ c _ h refl

pub unbegun_err : (sh : Shape) (p : Partial) (sc : ScopeView) (def : Bool) (s : Terminal) (c : SourceCause) → is_unbegun p ≡ true
    → operand_step sh p s ≡ err c → argument_cause true (misplaced s) c ≡ value_first (takes_names sh) sc def s
unbegun_err sh partial.Nothing sc def terminal.Big c u h = first_cause _ cause.BadNumber c _ h refl
unbegun_err sh partial.Nothing sc def s c u h = first_err sh sc def s c h
unbegun_err sh partial.Absent sc def terminal.Big c u h = first_cause _ cause.BadNumber c _ h refl
unbegun_err sh partial.Absent sc def s c u h = first_err sh sc def s c h
unbegun_err sh _ sc def s c u h = absurd cc

pub missing_is : (s : Terminal) (takes : Bool) (sc : ScopeView) (def : Bool) → takes ≡ false → misplaced s ≡ value_first takes sc def s
missing_is (terminal.Name n) takes sc def e = rw e refl
missing_is _ takes sc def e = refl

-- ---- a name

pub noting_cause : (sc : ScopeView) (def : Bool) (n : List ℕ) (c : SourceCause) → noting sc def n ≡ Err c → name_cause sc def n ≡ c
noting_cause sc def n c h = by_tests (def && holds sc.defined n) (has_room sc n) def h
  where
    by_tests : (t u d : Bool)
        → ◌≡◌ {A = Result ScopeView SourceCause}
        (cond t (Err cause.DoubledLabel)
        (cond (not u) (Err cause.TooManySymbols) (cond d (Ok (defined_too (noted sc n) n)) (Ok (noted sc n))))) (Err c)
        → cond t cause.DoubledLabel cause.TooManySymbols ≡ c
    by_tests true u d h = cc
    by_tests false false d h = cc
    by_tests false true true h = absurd cc
    by_tests false true false h = absurd cc
