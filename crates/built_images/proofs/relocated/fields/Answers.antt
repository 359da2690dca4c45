use Rattle.std.proofs.Common.{refl}
use Rattle.guest_ram.proofs.Bytes.{length-with_word32}
use Rattle.built_images.proofs.FieldLaws.{disp_law, imm_law, disp_held, imm_held}
use Rattle.built_images.proofs.relocated.fields.Goals as goal

pub returns-clause-disp : goal.returns-clause-disp
returns-clause-disp c = λ row p bytes insn listed spelled four n lt. disp_law row p bytes insn listed spelled four n lt

pub returns-clause-imm : goal.returns-clause-imm
returns-clause-imm c = λ row p bytes insn listed spelled four n lt. imm_law row p bytes insn listed spelled four n lt

pub returns-clause-disp_is : goal.returns-clause-disp_is
returns-clause-disp_is c = λ row p bytes insn listed spelled four. disp_held row p bytes insn listed spelled four

pub returns-clause-imm_is : goal.returns-clause-imm_is
returns-clause-imm_is c = λ row p bytes insn listed spelled four. imm_held row p bytes insn listed spelled four

pub returns-clause-length : goal.returns-clause-length
returns-clause-length c = λ bytes at n room. length-with_word32 bytes at n room

pub returns-clause-same_site : goal.returns-clause-same_site
returns-clause-same_site c = λ insn n. (refl, refl)
