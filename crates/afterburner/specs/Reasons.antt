-- Why an item can't be made, in its own words.
use Rattle.std.specs.Prelude.{◌≡◌, ℕ, ◌+◌, ◌<◌, ◌≤◌, Bool, true, false, List, length, Option, Some, None, Ok}
use Rattle.asm_source.specs.declared.tree.Argument.{Argument}
use Rattle.asm_source.specs.declared.tree.Body.{Body}
use Rattle.asm_source.specs.declared.tree.Body.TheVariants as body
use Rattle.asm_source.specs.declared.directive_table.DirectiveName.{DirectiveName}
use Rattle.asm_source.specs.declared.directive_table.DirectiveName.TheVariants as directive
use Rattle.asm_instruction.specs.Refusals.{IsRefused, IsUnknown, IsWithoutRow, HasUnfitNumber}
use Rattle.sites.specs.declared.limits.TheConstants.{TEXT_LIMIT, SITE_LIMIT, INIT_LIMIT}
use Rattle.afterburner.specs.declared.fault.BurnCause.{BurnCause}
use Rattle.afterburner.specs.declared.fault.BurnCause.TheVariants as cause
use Rattle.ia32_types.specs.declared.size.Size.{Size}
use Rattle.ia32_types.specs.declared.size.Size.TheVariants as size
use Rattle.afterburner.specs.Arguments.{count_at}
use Rattle.afterburner.specs.Causes.{cause_number}
use Rattle.afterburner.specs.ObjectSoFar.{ObjectSoFar}
use Rattle.afterburner.specs.Sections.{is_text, is_init}
use Rattle.afterburner.specs.Directives.{directive_of, all_fit}
use Rattle.afterburner.specs.Burnt.{made}

-- the size of the values that a directive gives
abbrev pub given_size : DirectiveName → Option Size
given_size directive.Bytes = Some size.Byte
given_size directive.Shorts = Some size.Word
given_size directive.Longs = Some size.Long
given_size _ = None

-- whether a directive gives values or strings
abbrev pub gives_data : DirectiveName → Bool
gives_data directive.Bytes = true
gives_data directive.Shorts = true
gives_data directive.Longs = true
gives_data directive.Ascii = true
gives_data directive.Asciz = true
gives_data _ = false

-- An item is refused for a name that is no instruction's, or is one that is refused; for operands that no row has, with four bytes
-- for what names a symbol; for a number that doesn't fit its field; or for what may not stand in its section. Or what it makes is
-- too large.
pub data IsReason (names : List (List ℕ)) (st : ObjectSoFar) : Body → BurnCause → Type 0 where
  unknown_name : {rep : Bool} {name : List ℕ} {args : List Argument} → IsUnknown name → IsReason names st (body.Instruction rep name args)
      cause.UnknownInstruction
  refused_name : {rep : Bool} {name : List ℕ} {args : List Argument} → IsRefused name → IsReason names st (body.Instruction rep name args)
      cause.RefusedInstruction
  no_row : {rep : Bool} {name : List ℕ} {args : List Argument} → IsWithoutRow rep name args
      → IsReason names st (body.Instruction rep name args) cause.Operands
  number : {rep : Bool} {name : List ℕ} {args : List Argument} → HasUnfitNumber rep name args
      → IsReason names st (body.Instruction rep name args) cause.ValueRange
  instruction_outside : {rep : Bool} {name : List ℕ} {args : List Argument} → is_text st.section ≡ false
      → IsReason names st (body.Instruction rep name args) cause.DataInText
  range : {name : List ℕ} {args : List Argument} (w : Size) → given_size (directive_of name) ≡ Some w → all_fit w args ≡ false
      → IsReason names st (body.Directive name args) cause.ValueRange
  data_outside : {name : List ℕ} {args : List Argument} → gives_data (directive_of name) ≡ true → is_init st.section ≡ false
      → IsReason names st (body.Directive name args) cause.DataInText
  zeros_in_text : {name : List ℕ} {args : List Argument} → directive_of name ≡ directive.Zeros → is_text st.section ≡ true
      → IsReason names st (body.Directive name args) cause.DataInText
  many_zeros : {name : List ℕ} {args : List Argument} → directive_of name ≡ directive.Zeros → is_init st.section ≡ true
      → INIT_LIMIT < length st.init + st.bss + count_at args 0 → IsReason names st (body.Directive name args) cause.InitTooLarge
  long_text : {b : Body} (new : ObjectSoFar) → made names st b ≡ Ok new → TEXT_LIMIT < length new.text
      → IsReason names st b cause.TextTooLarge
  large_data : {b : Body} (new : ObjectSoFar) → made names st b ≡ Ok new → INIT_LIMIT < length new.init + new.bss
      → IsReason names st b cause.InitTooLarge
  many_sites : {b : Body} (new : ObjectSoFar) → made names st b ≡ Ok new → SITE_LIMIT < length new.sites
      → IsReason names st b cause.TooManySites

-- The condition of this cause holds of the item, and that of no cause with a lower number.
pub record IsLowestReason (names : List (List ℕ)) (st : ObjectSoFar) (b : Body) (c : BurnCause) : Type 0 where
  pub reason : IsReason names st b c
  pub lowest : (d : BurnCause) → IsReason names st b d → cause_number c ≤ cause_number d
