-- Instructions that the host doesn't do by itself at CPL 3 and IOPL 0. It holds no descriptor table, so every load of
-- a segment register, far JMP and IRET is a general protection fault (profile).
use Rattle.std.specs.Prelude.{ℕ, ◌%◌, Err}
use Rattle.ia32_types.specs.declared.insn.Insn.{Insn}
use Rattle.ia32_types.specs.declared.insn.Op.{Op}
use Rattle.ia32_types.specs.declared.insn.Op.TheVariants as op
use Rattle.host_cpl3.specs.declared.exit.Exit.TheVariants as exits
use Rattle.host_cpl3.specs.Met.{Met, gives}
use Rattle.host_cpl3.specs.Views.{protection}

abbrev pub permitted_row : Op → ℕ → Met (Unit {0})
permitted_row op.Int imm = Err (exits.Soft (imm % 256))
permitted_row op.Int3 imm = Err (exits.Soft 3)
permitted_row op.Cli imm = Err protection
permitted_row op.Sti imm = Err protection
permitted_row op.Hlt imm = Err protection
permitted_row op.Iret imm = Err protection
permitted_row op.ReadControl imm = Err protection
permitted_row op.WriteControl imm = Err protection
permitted_row op.LoadGdt imm = Err protection
permitted_row op.LoadIdt imm = Err protection
permitted_row op.LoadTask imm = Err protection
permitted_row op.DropPage imm = Err protection
permitted_row op.LoadSeg imm = Err protection
permitted_row op.PopSeg imm = Err protection
permitted_row op.FarJump imm = Err protection
permitted_row op.PortIn imm = Err protection
permitted_row op.PortOut imm = Err protection
permitted_row _ imm = gives tt

unfoldable pub permitted : Insn → Met (Unit {0})
permitted insn = permitted_row insn.op insn.imm
