-- The names of instructions, and what they mean with their operands.
use Rattle.std.specs.Prelude.{ℕ, ◌-◌, ◌==◌, Bool, true, false, List, ◌++◌, length, take, slice_index, Option, Some, None, if◌then◌else◌}
use Rattle.std.specs.Option.{option_or}
use Rattle.ia32_types.specs.declared.size.Size.{Size}
use Rattle.ia32_types.specs.declared.size.Size.TheVariants as size
use Rattle.asm_instruction.specs.declared.argument.Operands.{Operands}
use Rattle.asm_instruction.specs.declared.draft.Draft.{Draft}
use Rattle.asm_instruction.specs.declared.mnemonic.Family.{Family}
use Rattle.asm_instruction.specs.declared.mnemonic.Family.TheVariants as family
use Rattle.asm_instruction.specs.declared.mnemonic.Mnemonic.{Mnemonic}
use Rattle.asm_instruction.specs.Names.{Table, found, ◌>>=◌}
use Rattle.asm_instruction.specs.Arithmetic.{arithmetic_names, arithmetic_draft}
use Rattle.asm_instruction.specs.Shift.{shift_names, shift_draft}
use Rattle.asm_instruction.specs.Moves.{move_names, extend_names, move_draft}
use Rattle.asm_instruction.specs.Stack.{stack_names, frame_names, stack_draft}
use Rattle.asm_instruction.specs.Control.{branch_names, control_names, conditional_name, control_draft}
use Rattle.asm_instruction.specs.Strings.{string_names, string_draft}
use Rattle.asm_instruction.specs.Flags.{plain_names, plain_draft}
use Rattle.asm_instruction.specs.System.{system_names, page_names, system_draft}

-- the names that stand as they are
unfoldable pub exact_names : Table Family
exact_names = plain_names ++ frame_names ++ extend_names ++ string_names ++ page_names ++ control_names

-- the names that stand with a suffix, or with none
unfoldable pub sized_names : Table Family
sized_names = arithmetic_names ++ shift_names ++ move_names ++ stack_names ++ branch_names ++ system_names

-- b, w or l
abbrev pub suffix : ℕ → Option Size
suffix letter =
    if letter == 98 then Some size.Byte else if letter == 119 then Some size.Word else if letter == 108 then Some size.Long else None

unfoldable pub suffixed : List ℕ → ℕ → Option Mnemonic
suffixed front letter = do
  f ← found sized_names front
  s ← suffix letter
  Some (record { family = f; suffix = Some s })

-- the last letter as a suffix of the name before it
unfoldable pub with_suffix : List ℕ → Option Mnemonic
with_suffix name = if length name == 0 then None else suffixed (take (length name - 1) name) (slice_index name (length name - 1))

abbrev pub without_suffix : Option Family → Option Mnemonic → Option Mnemonic
without_suffix (Some f) others = Some (record { family = f; suffix = None })
without_suffix None others = others

unfoldable pub known_name : List ℕ → Option Mnemonic
known_name name =
    without_suffix (option_or (found exact_names name) (option_or (conditional_name name) (found sized_names name))) (with_suffix name)

-- ---- what it means with its operands

abbrev pub by_family : Family → Option Size → Operands → Option Draft
by_family (family.Arithmetic k) suffix os = arithmetic_draft k suffix os
by_family (family.Shift o) suffix os = shift_draft o suffix os
by_family (family.Moves k) suffix os = move_draft k suffix os
by_family (family.Stack k) suffix os = stack_draft k suffix os
by_family (family.Control k) suffix os = control_draft k suffix os
by_family (family.Strings o s) suffix os = string_draft false o s os
by_family (family.Plain o) suffix os = plain_draft o suffix os
by_family (family.System k) suffix os = system_draft k suffix os

abbrev pub repeated : Family → Operands → Option Draft
repeated (family.Strings o s) os = string_draft true o s os
repeated _ os = None

-- the repeat prefix stands before string instructions alone
unfoldable pub drafted : Bool → Mnemonic → Operands → Option Draft
drafted rep m os = if rep then repeated m.family os else by_family m.family m.suffix os
