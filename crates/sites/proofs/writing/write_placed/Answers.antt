use Rattle.std.proofs.Common.{refl}
use Rattle.std.proofs.lemmas.List.{take_all}
use Rattle.sites.specs.Spelling.{placed}
use Rattle.sites.proofs.writing.write_placed.Goals as goal

pub returns : goal.returns
unfolding placed
returns c = rw (c.loop-s.invariant, take_all c.loop-s.s-index c.args.sites.now c.loop-s-test.false) refl

pub loop-s-init : goal.loop-s-init
loop-s-init c = rw (
  c.in_ok-extend_from_slice-2.ensures.items,
  c.in_ok-extend_from_slice.ensures.items,
  c.new-out.ensures.items,
  c.to_le_bytes.ensures,
) refl
