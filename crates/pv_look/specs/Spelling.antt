-- How a source has to write an instruction so that it is spelled by some bytes.
use Rattle.std.specs.Prelude.{ℕ, Bool, true, false, List, take, bytes_eq, Option, Some, None, if◌then◌else◌}
use Rattle.ia32_types.specs.declared.insn.Insn.{Insn}
use Rattle.ia32_encode.specs.declared.bytes.ArrayBytes.{ArrayBytes}
use Rattle.ia32_encode.specs.declared.choose.Wide.{Wide}
use Rattle.ia32_encode.specs.Chosen.{chosen}
use Rattle.ia32_encode.specs.Short.{plain, with_displacement, with_wide}

abbrev pub is_spelling : List ℕ → Option ArrayBytes → Bool
is_spelling bytes None = false
is_spelling bytes (Some a) = bytes_eq (take a.len a.bytes) bytes

-- whether these bytes are the chosen spelling where these fields name a symbol
abbrev pub is_spelled : Wide → Insn → List ℕ → Bool
is_spelled wide insn bytes = is_spelling bytes (chosen wide insn)

-- both fields name a symbol
abbrev pub both : Wide
both = record { disp = true; imm = true }

-- the fields that have to name a symbol, as few as will do; nothing where no source is assembled to the bytes
unfoldable pub named_fields : Insn → List ℕ → Option Wide
named_fields insn bytes =
    if is_spelled plain insn bytes then Some plain
    else if is_spelled (with_displacement true) insn bytes then Some (with_displacement true)
    else if is_spelled (with_wide true) insn bytes then Some (with_wide true)
    else if is_spelled both insn bytes then Some both
    else None
