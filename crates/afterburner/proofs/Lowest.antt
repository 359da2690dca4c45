-- Of the causes whose conditions hold of an item the lowest is reported.
use Rattle.std.proofs.Common.{◌≡◌, ℕ, ◌+◌, ◌<◌, ◌≤◌, Bool, true, false, List, length, Some, Result, Ok, Err, refl, sym, ap, subst, ◌∙◌, arith}
use Rattle.std.specs.Prelude.{nat_lt}
use Rattle.std.proofs.lemmas.Bool.{lt-ltb}
use Rattle.asm_source.specs.declared.tree.Argument.{Argument}
use Rattle.asm_source.specs.declared.tree.Body.{Body}
use Rattle.asm_source.specs.declared.tree.Body.TheVariants as body
use Rattle.asm_source.specs.declared.directive_table.DirectiveName.{DirectiveName}
use Rattle.asm_source.specs.declared.directive_table.DirectiveName.TheVariants as directive
use Rattle.asm_instruction.specs.declared.assembled.Assembled.{Assembled}
use Rattle.asm_instruction.specs.declared.assembled.Refusal.{Refusal}
use Rattle.asm_instruction.specs.declared.assembled.Refusal.TheVariants as refusal
use Rattle.asm_instruction.specs.Assembled.{assembled}
use Rattle.sites.specs.declared.limits.TheConstants.{TEXT_LIMIT, SITE_LIMIT}
use Rattle.afterburner.specs.declared.fault.BurnCause.{BurnCause}
use Rattle.afterburner.specs.declared.fault.BurnCause.TheVariants as cause
use Rattle.afterburner.specs.declared.section.Section.{Section}
use Rattle.afterburner.specs.declared.section.Section.TheVariants as section
use Rattle.ia32_types.specs.declared.size.Size.{Size}
use Rattle.ia32_types.specs.declared.size.Size.TheVariants as size
use Rattle.afterburner.specs.Arguments.{count_at}
use Rattle.afterburner.specs.Causes.{cause_number, cause_of}
use Rattle.afterburner.specs.ObjectSoFar.{ObjectSoFar}
use Rattle.afterburner.specs.Sections.{is_text, is_init}
use Rattle.afterburner.specs.Directives.{directive_of, all_fit, numbers, longs, strings, zeros_in, directed}
use Rattle.afterburner.specs.Instructions.{instruction}
use Rattle.afterburner.specs.Burnt.{parted, made, limited, item_made}
use Rattle.afterburner.specs.Reasons.{given_size, gives_data, IsReason, IsLowestReason}
use Rattle.afterburner.proofs.Statements.{ToldOf, unknown_told, refused_told as name_told, row_told, number_told}
use Rattle.afterburner.proofs.Reasons.{reason}

-- the item is refused for this cause or one that is lower
abbrev Told : Result ObjectSoFar BurnCause → BurnCause → Type 0
Told r d = (c : BurnCause) × (r ≡ Err c) × (cause_number c ≤ cause_number d)

refused_told : (names : List (List ℕ)) (st : ObjectSoFar) (b : Body) (d : BurnCause) → Told (made names st b) d
    → Told (item_made names st b) d
unfolding item_made
refused_told names st b d (c, e, le) = (c, rw e refl, le)

made_limited : (names : List (List ℕ)) (st new : ObjectSoFar) (b : Body) (d : BurnCause) → made names st b ≡ Ok new → Told (limited new) d
    → Told (item_made names st b) d
unfolding item_made
made_limited names st new b d m t = rw m t

-- ---- what is too large

text_told : (new : ObjectSoFar) → TEXT_LIMIT < length new.text → Told (limited new) cause.TextTooLarge
unfolding limited
text_told new lt = (cause.TextTooLarge, rw (lt-ltb TEXT_LIMIT (length new.text) lt) refl, omega arith)

data_told : (new : ObjectSoFar) → 33554432 < length new.init + new.bss → Told (limited new) cause.InitTooLarge
unfolding limited
data_told new lt = by_text (nat_lt TEXT_LIMIT (length new.text)) refl
  where
    by_text : (t : Bool) → nat_lt TEXT_LIMIT (length new.text) ≡ t → Told (limited new) cause.InitTooLarge
    by_text true e = (cause.TextTooLarge, rw e refl, omega arith)
    by_text false e = (cause.InitTooLarge, rw (e, lt-ltb 33554432 (length new.init + new.bss) lt) refl, omega arith)

sites_told : (new : ObjectSoFar) → SITE_LIMIT < length new.sites → Told (limited new) cause.TooManySites
unfolding limited
sites_told new lt = by_text (nat_lt TEXT_LIMIT (length new.text)) refl (nat_lt 33554432 (length new.init + new.bss)) refl
  where
    by_text : (t : Bool) → nat_lt TEXT_LIMIT (length new.text) ≡ t → (u : Bool) → nat_lt 33554432 (length new.init + new.bss) ≡ u
        → Told (limited new) cause.TooManySites
    by_text true e u f = (cause.TextTooLarge, rw e refl, omega arith)
    by_text false e true f = (cause.InitTooLarge, rw (e, f) refl, omega arith)
    by_text false e false f = (cause.TooManySites, rw (e, f, lt-ltb SITE_LIMIT (length new.sites) lt) refl, omega arith)

-- ---- instructions

statement_low : (r : Refusal) → cause_number (cause_of r) ≤ 26
statement_low refusal.UnknownInstruction = omega arith
statement_low refusal.RefusedInstruction = omega arith
statement_low refusal.Operands = omega arith
statement_low refusal.ValueRange = omega arith

statement_told : (names : List (List ℕ)) (st : ObjectSoFar) (rep : Bool) (name : List ℕ) (args : List Argument) (d : BurnCause)
    → ToldOf (assembled rep name args) (cause_number d) → Told (made names st (body.Instruction rep name args)) d
unfolding made instruction
statement_told names st rep name args d (r, e, le) = (cause_of r, rw e refl, le)

outside_told : (names : List (List ℕ)) (st : ObjectSoFar) (rep : Bool) (name : List ℕ) (args : List Argument) → is_text st.section ≡ false
    → Told (made names st (body.Instruction rep name args)) cause.DataInText
unfolding made instruction
outside_told names st rep name args q = by_assembled (assembled rep name args) refl
  where
    by_assembled : (r : Result Assembled Refusal) → assembled rep name args ≡ r
        → Told (made names st (body.Instruction rep name args)) cause.DataInText
    by_assembled (Err r) e = (cause_of r, rw e refl, statement_low r)
    by_assembled (Ok a) e = (cause.DataInText, rw (e, q) refl, omega arith)

-- ---- directives

module _ (names : List (List ℕ)) (st : ObjectSoFar) (args : List Argument) where
  numbers_range : (w : Size) → all_fit w args ≡ false → Told (numbers (parted st) w args) cause.ValueRange
  unfolding numbers
  numbers_range w t = (cause.ValueRange, rw t refl, omega arith)

  longs_range : all_fit size.Long args ≡ false → Told (longs names (parted st) args) cause.ValueRange
  unfolding longs
  longs_range t = (cause.ValueRange, rw t refl, omega arith)

  range_told : (k : DirectiveName) (w : Size) → given_size k ≡ Some w → all_fit w args ≡ false
      → Told (directed names (parted st) k args) cause.ValueRange
  unfolding directed
  range_told directive.Bytes w f t = let same : size.Byte ≡ w =
      cc in numbers_range size.Byte (subst (λ (x : Size). all_fit x args ≡ false) (sym same) t)
  range_told directive.Shorts w f t = let same : size.Word ≡ w =
      cc in numbers_range size.Word (subst (λ (x : Size). all_fit x args ≡ false) (sym same) t)
  range_told directive.Longs w f t = let same : size.Long ≡ w =
      cc in longs_range (subst (λ (x : Size). all_fit x args ≡ false) (sym same) t)
  range_told _ w f t = absurd cc

  numbers_outside : (w : Size) → is_init st.section ≡ false → (t : Bool) → all_fit w args ≡ t
      → Told (numbers (parted st) w args) cause.DataInText
  unfolding numbers
  numbers_outside w q true t = (cause.DataInText, rw (t, q) refl, omega arith)
  numbers_outside w q false t = (cause.ValueRange, rw t refl, omega arith)

  longs_outside : is_init st.section ≡ false → (t : Bool) → all_fit size.Long args ≡ t
      → Told (longs names (parted st) args) cause.DataInText
  unfolding longs
  longs_outside q true t = (cause.DataInText, rw (t, q) refl, omega arith)
  longs_outside q false t = (cause.ValueRange, rw t refl, omega arith)

  strings_outside : (ended : Bool) → is_init st.section ≡ false → Told (strings (parted st) ended args) cause.DataInText
  unfolding strings
  strings_outside ended q = (cause.DataInText, rw q refl, omega arith)

  data_outside_told : (k : DirectiveName) → gives_data k ≡ true → is_init st.section ≡ false
      → Told (directed names (parted st) k args) cause.DataInText
  unfolding directed
  data_outside_told directive.Bytes g q = numbers_outside size.Byte q (all_fit size.Byte args) refl
  data_outside_told directive.Shorts g q = numbers_outside size.Word q (all_fit size.Word args) refl
  data_outside_told directive.Longs g q = longs_outside q (all_fit size.Long args) refl
  data_outside_told directive.Ascii g q = strings_outside false q
  data_outside_told directive.Asciz g q = strings_outside true q
  data_outside_told _ g q = absurd cc

  zeros_told : (s : Section) → is_text s ≡ true → Told (zeros_in (parted st) s (count_at args 0)) cause.DataInText
  zeros_told section.Text q = (cause.DataInText, refl, omega arith)
  zeros_told section.Init q = absurd cc
  zeros_told section.Bss q = absurd cc

  many_told : (s : Section) → is_init s ≡ true → 33554432 < length st.init + st.bss + count_at args 0
      → Told (zeros_in (parted st) s (count_at args 0)) cause.InitTooLarge
  many_told section.Text q lt = absurd cc
  many_told section.Init q lt = (cause.InitTooLarge, rw (lt-ltb 33554432 (length st.init + st.bss + count_at args 0) lt) refl, omega arith)
  many_told section.Bss q lt = absurd cc

  zeros_directed : (d : BurnCause) → Told (zeros_in (parted st) st.section (count_at args 0)) d
      → Told (directed names (parted st) directive.Zeros args) d
  unfolding directed
  zeros_directed d t = t

directive_told : (names : List (List ℕ)) (st : ObjectSoFar) (name : List ℕ) (args : List Argument) (k : DirectiveName) (d : BurnCause)
    → directive_of name ≡ k → Told (directed names (parted st) k args) d → Told (made names st (body.Directive name args)) d
unfolding made
directive_told names st name args k d e (c, f, le) = (c, ap (λ (x : DirectiveName). directed names (parted st) x args) e ∙ f, le)

-- ---- items

-- An item of which a condition holds is refused, for its cause or one that is lower.
pub told : (names : List (List ℕ)) (st : ObjectSoFar) (b : Body) (d : BurnCause) → IsReason names st b d → Told (item_made names st b) d
told names st b d (IsReason.unknown_name {rep} {name} {args} u) =
    refused_told names st b d (statement_told names st rep name args cause.UnknownInstruction (unknown_told rep name args u))
told names st b d (IsReason.refused_name {rep} {name} {args} h) =
    refused_told names st b d (statement_told names st rep name args cause.RefusedInstruction (name_told rep name args h))
told names st b d (IsReason.no_row {rep} {name} {args} h) =
    refused_told names st b d (statement_told names st rep name args cause.Operands (row_told rep name args h))
told names st b d (IsReason.number {rep} {name} {args} h) =
    refused_told names st b d (statement_told names st rep name args cause.ValueRange (number_told rep name args h))
told names st b d (IsReason.instruction_outside {rep} {name} {args} q) = refused_told names st b d (outside_told names st rep name args q)
told names st b d (IsReason.range {name} {args} w f t) =
    refused_told names st b d
    (directive_told names st name args (directive_of name) cause.ValueRange refl (range_told names st args (directive_of name) w f t))
told names st b d (IsReason.data_outside {name} {args} g q) =
    refused_told names st b d
    (directive_told names st name args (directive_of name) cause.DataInText refl (data_outside_told names st args (directive_of name) g q))
told names st b d (IsReason.zeros_in_text {name} {args} e q) =
    refused_told names st b d
    (directive_told names st name args directive.Zeros cause.DataInText e
    (zeros_directed names st args cause.DataInText (zeros_told names st args st.section q)))
told names st b d (IsReason.many_zeros {name} {args} e q lt) =
    refused_told names st b d
    (directive_told names st name args directive.Zeros cause.InitTooLarge e
    (zeros_directed names st args cause.InitTooLarge (many_told names st args st.section q lt)))
told names st b d (IsReason.long_text new m lt) = made_limited names st new b d m (text_told new lt)
told names st b d (IsReason.large_data new m lt) = made_limited names st new b d m (data_told new lt)
told names st b d (IsReason.many_sites new m lt) = made_limited names st new b d m (sites_told new lt)

pub lowest_reason : (names : List (List ℕ)) (st : ObjectSoFar) (b : Body) (c : BurnCause) → item_made names st b ≡ Err c
    → IsLowestReason names st b c
lowest_reason names st b c e = record { reason = reason names st b c e; lowest = λ d h. below d (told names st b d h) }
  where
    below : (d : BurnCause) → Told (item_made names st b) d → cause_number c ≤ cause_number d
    below d (k, f, le) =
        let both : Err k ≡ item_made names st b = sym f in
        let same : k ≡ c = cc in
        subst (λ (x : BurnCause). cause_number x ≤ cause_number d) same le

pub none_made : (names : List (List ℕ)) (st new : ObjectSoFar) (b : Body) (d : BurnCause) → item_made names st b ≡ Ok new
    → IsReason names st b d → ⊥
none_made names st new b d e h = by_told (told names st b d h)
  where
    by_told : Told (item_made names st b) d → ⊥
    by_told (k, f, le) = let both : Ok new ≡ Err k = sym e ∙ f in cc

-- ---- the other way

same_number : (c d : BurnCause) → cause_number c ≡ cause_number d → c ≡ d
same_number cause.UnknownInstruction cause.UnknownInstruction e = refl
same_number cause.RefusedInstruction cause.RefusedInstruction e = refl
same_number cause.Operands cause.Operands e = refl
same_number cause.ValueRange cause.ValueRange e = refl
same_number cause.TextTooLarge cause.TextTooLarge e = refl
same_number cause.InitTooLarge cause.InitTooLarge e = refl
same_number cause.DataInText cause.DataInText e = refl
same_number cause.TooManySites cause.TooManySites e = refl
same_number _ _ e = absurd (omega arith)

pub lowest_told : (names : List (List ℕ)) (st : ObjectSoFar) (b : Body) (c : BurnCause) → IsLowestReason names st b c
    → item_made names st b ≡ Err c
lowest_told names st b c w = by_told (told names st b c w.reason)
  where
    by_told : Told (item_made names st b) c → item_made names st b ≡ Err c
    by_told (k, f, le) =
        let other = w.lowest k (reason names st b k f) in
        let number : cause_number k ≡ cause_number c = omega arith in
        f ∙ ap (λ (x : BurnCause). Err x) (same_number k c number)
