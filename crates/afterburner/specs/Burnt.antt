-- The object of a source's items, or the first that is refused and why.
use Rattle.std.specs.Prelude.{ℕ, ◌+◌, false, nat_lt, List, length, fold, Result, Ok, Err, if◌then◌else◌}
use Rattle.asm_source.specs.declared.tree.Body.{Body}
use Rattle.asm_source.specs.declared.tree.Body.TheVariants as body
use Rattle.asm_source.specs.declared.tree.SourceItem.{SourceItem}
use Rattle.asm_source.specs.Names.{names_in}
use Rattle.elf_form.specs.ObjectParts.{ObjectParts}
use Rattle.sites.specs.declared.limits.TheConstants.{TEXT_LIMIT, SITE_LIMIT, INIT_LIMIT}
use Rattle.afterburner.specs.declared.fault.BurnCause.{BurnCause}
use Rattle.afterburner.specs.declared.fault.BurnCause.TheVariants as cause
use Rattle.afterburner.specs.ObjectSoFar.{ObjectSoFar, fresh}
use Rattle.afterburner.specs.Sections.{labelled}
use Rattle.afterburner.specs.Instructions.{instruction}
use Rattle.afterburner.specs.Directives.{directive_of, directed}
use Rattle.afterburner.specs.Objects.{object}

-- A label and a directive part an STI before them from an HLT after them.
abbrev pub parted : ObjectSoFar → ObjectSoFar
parted st = record st { after_sti = false }

-- what an item makes
unfoldable pub made : List (List ℕ) → ObjectSoFar → Body → Result ObjectSoFar BurnCause
made names st (body.Label name) = Ok (labelled names (parted st) name)
made names st (body.Directive name args) = directed names (parted st) (directive_of name) args
made names st (body.Instruction rep name args) = instruction names st rep name args

-- the limits of text, of data with zeroed bytes, and of sites
unfoldable pub limited : ObjectSoFar → Result ObjectSoFar BurnCause
limited st =
    if nat_lt TEXT_LIMIT (length st.text) then Err cause.TextTooLarge
    else if nat_lt INIT_LIMIT (length st.init + st.bss) then Err cause.InitTooLarge
    else if nat_lt SITE_LIMIT (length st.sites) then Err cause.TooManySites
    else Ok st

abbrev pub then_limited : Result ObjectSoFar BurnCause → Result ObjectSoFar BurnCause
then_limited (Err c) = Err c
then_limited (Ok st) = limited st

unfoldable pub item_made : List (List ℕ) → ObjectSoFar → Body → Result ObjectSoFar BurnCause
item_made names st b = then_limited (made names st b)

-- the line of a refused item, and the cause
pub record Fault : Type 0 where
  pub line : ℕ
  pub cause : BurnCause

abbrev pub at_line : ℕ → Result ObjectSoFar BurnCause → Result ObjectSoFar Fault
at_line line (Err c) = Err (record { line = line; cause = c })
at_line line (Ok st) = Ok st

-- Nothing is made after an item that is refused.
abbrev pub next_made : List (List ℕ) → Result ObjectSoFar Fault → SourceItem → Result ObjectSoFar Fault
next_made names (Err f) i = Err f
next_made names (Ok st) i = at_line i.line (item_made names st i.body)

-- what all items make in their order
unfoldable pub all_made : List SourceItem → Result ObjectSoFar Fault
all_made items = fold (next_made (names_in items)) (Ok (fresh (names_in items))) items

abbrev pub finished : List (List ℕ) → Result ObjectSoFar Fault → Result ObjectParts Fault
finished names (Err f) = Err f
finished names (Ok st) = Ok (object names st)

-- The object of the items in their order.
unfoldable pub burnt : List SourceItem → Result ObjectParts Fault
burnt items = finished (names_in items) (all_made items)
