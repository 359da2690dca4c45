use Rattle.asm_argument.proofs.Strings.{string_more, string_whole}
use Rattle.asm_argument.proofs.escapes.string_bytes.Goals as goal

pub loop-b-preserved : goal.loop-b-preserved
loop-b-preserved c = string_more c.loop-b.escape c.args.text.now c.loop-b.b-index c.loop-b.bytes.items _ _ _ c.loop-b-test.true
    c.escape_step-stepped.ensures c.in_ok-push_both.ensures c.loop-b.invariant

pub returns : goal.returns
returns c = string_whole c.loop-b.escape c.args.text.now c.loop-b.b-index c.loop-b.bytes.items _ c.loop-b-test.false c.loop-b.invariant
