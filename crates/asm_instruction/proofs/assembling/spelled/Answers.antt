use Rattle.std.proofs.Common.{subst, take}
use Rattle.ia32_encode.specs.Good.{SpellsWide, IsReadBack}
use Rattle.asm_instruction.proofs.Whole.{whole_right}
use Rattle.asm_instruction.proofs.assembling.spelled.Goals as goal

pub returns-then-draft-clause-right : goal.returns-then-draft-clause-right
returns-then-draft-clause-right c =
    let s = c.encode.new.into in
    let wide = c.widths-wide.result in
    let insn = c.args.draft.now.insn in
    whole_right c.args.draft.now c.args.arguments.now wide s c.whole.result c.widths-wide.ensures c.whole.ensures
    (subst (λ n. SpellsWide wide (take n s.bytes) insn) c.in-Ok.ensures.len c.in-Ok.ensures.spells)
    (subst (λ n. IsReadBack (take n s.bytes) insn n) c.in-Ok.ensures.len c.in-Ok.ensures.read_back)
    c.in-Ok.ensures.placed
