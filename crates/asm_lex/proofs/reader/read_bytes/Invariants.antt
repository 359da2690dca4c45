use Rattle.std.proofs.Common.{◌≤◌, ◌+◌, [], take, drop, Result}
use Rattle.asm_lex.specs.declared.fault.SourceFault.{SourceFault}
use Rattle.asm_lex.specs.declared.machine.Mode.{Mode}
use Rattle.asm_lex.specs.declared.machine.Mode.TheVariants.{Between}
use Rattle.asm_lex.specs.Machine.{start_of}
use Rattle.asm_lex.specs.Readers.{ReadsTo}
use Rattle.asm_lex.proofs.reader.read_bytes.Given as goal

-- the result of the bytes from here is that of the source
abbrev pub invariant-loop-i : goal.invariant-loop-i
invariant-loop-i g l = record {
  so_far : (result : Result (g.row.R.Denot × Mode) SourceFault) → ReadsTo g.R.Reader.takes l.reader l.mode (take l.i l.source) l.i l.line
      (drop l.i l.source) result
      → ReadsTo g.R.Reader.takes l.initial.reader Between [] 0 1 l.source result;
  begun : start_of l.mode l.i ≤ l.i;
  line : l.line ≤ l.i + 1;
}
