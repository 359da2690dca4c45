use Rattle.std.proofs.Common.{◌≤◌, ◌+◌, length, ap, ◌∙◌, arith}
use Rattle.guest_ram.specs.Bytes.{with_byte}
use Rattle.sites.proofs.PatchSteps.{one_byte}
use Rattle.sites.proofs.patching.patch_site.Goals as goal

pub loop-i-init : goal.loop-i-init
unfolding with_byte
loop-i-init c = record { memory = c.write8.ensures.memory; len = c.write8.ensures.len }

pub loop-i-preserved : goal.loop-i-preserved
loop-i-preserved c =
    let room : c.args.at + c.loop-i.i + 1 ≤ length c.args.ram.now = omega arith in
    record {
      memory = c.write8-in-loop-i.ensures.memory ∙ ap (λ m. with_byte m (c.args.at + c.loop-i.i) 244) c.loop-i.invariant.memory
          ∙ one_byte c.args.ram.now c.args.at c.loop-i.i c.loop-i.auto.i room;
      len = c.write8-in-loop-i.ensures.len ∙ c.loop-i.invariant.len;
    }
