use Rattle.std.proofs.Common.{ℕ, List, ◌++◌, Option, ap, ◌∙◌, arith}
use Rattle.machine_text.specs.Mapped.{byte_now}
use Rattle.machine_text.specs.Dump.{letter, address}
use Rattle.machine_text.specs.Views.{seen}
use Rattle.machine_text.proofs.Pieces.{none_below, one_more}
use Rattle.machine_text.proofs.dump.add_letters.Goals as goal

pub loop-i-init : goal.loop-i-init
loop-i-init g c = record { text = none_below _ _; len = omega arith }

pub loop-i-preserved : goal.loop-i-preserved
loop-i-preserved g c = record {
  text = one_more c.args.line.now.items (λ i. letter (byte_now (seen g.C.Cache.entries c.args.memory.now) (address c.args.at i))) c.loop-i.i
      c.loop-i.line.items _ c.loop-i.invariant.text
      (c.add_letter.ensures.text ∙ ap (λ (o : Option ℕ). c.loop-i.line.items ++ letter o)
      (c.byte_now.ensures ∙ ap (byte_now (seen g.C.Cache.entries c.args.memory.now)) c.address.ensures));
  len = omega (arith, c.loop-i.invariant.len, c.add_letter.ensures.len);
}
