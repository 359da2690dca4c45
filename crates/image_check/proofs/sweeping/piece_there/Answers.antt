use Rattle.std.proofs.Common.{arith}
use Rattle.std.proofs.lemmas.List.{length-drop}
use Rattle.image_check.proofs.Begun.{begun_within}
use Rattle.image_check.proofs.sweeping.piece_there.Goals as goal

pub returns-in-Insn-clause-room : goal.returns-in-Insn-clause-room
returns-in-Insn-clause-room c = begun_within _ c.args.at _ c.in-Insn.insn c.in-Insn.len
    (rw c.rest_of.ensures (simp length-drop (omega arith))) ((c.decode.ensures.insn c.in-Insn.insn c.in-Insn.len).0 c.in-Insn.is)
