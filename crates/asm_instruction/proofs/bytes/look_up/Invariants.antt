-- What the rows from this place on have for the name, the whole table has.
use Rattle.std.proofs.Common.{◌≡◌, drop}
use Rattle.asm_instruction.specs.Rows.{found_row}
use Rattle.asm_instruction.proofs.bytes.look_up.Given as goal

abbrev pub invariant-loop-text : goal.invariant-loop-text
invariant-loop-text g l = found_row (drop l.text-index l.table) l.name ≡ found_row l.table l.name
