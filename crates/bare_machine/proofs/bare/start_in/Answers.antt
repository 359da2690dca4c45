use Rattle.std.proofs.Common.{◌≡◌, ◌*◌, length, refl, ap, sym, ◌∙◌, arith}
use Rattle.std.proofs.Math.ListN.{length-replicate}
use Rattle.std.proofs.lemmas.List.{take_all}
use Rattle.image_load.specs.declared.boot.Boot.{Boot}
use Rattle.bare_machine.proofs.Begun.{state_is, none_within}
use Rattle.bare_machine.proofs.bare.start_in.Goals as goal

pub returns-in-Ok-clause-started : goal.returns-in-Ok-clause-started
returns-in-Ok-clause-started g c =
    let ok = c.in-Ok.ensures.ok in
    let old : length c.args.ram ≡ c.args.frames * 4096 = rw c.requires.zero (length-replicate (c.args.frames * 4096) 0) in
    let whole = sym (take_all (c.args.frames * 4096) c.load.new.ram (omega (arith, old, c.in-Ok.ensures.len))) ∙ c.in-Ok.ensures.front in (
      ok.0,
      refl,
      refl,
      record { ram = omega (arith, old, c.in-Ok.ensures.len); within = none_within c.args.frames _ c.requires.empty },
      λ script. state_is _ _ _ _ _ _ _ _ (ap (λ (b : Boot). b.cpu) ok.1) whole c.requires.empty c.new.ensures,
    )

pub returns-in-Ok-clause-kept : goal.returns-in-Ok-clause-kept
returns-in-Ok-clause-kept g c =
    let old : length c.args.ram ≡ c.args.frames * 4096 = rw c.requires.zero (length-replicate (c.args.frames * 4096) 0) in
    record { ram = omega (arith, old, c.in-Ok.ensures.len); within = none_within c.args.frames _ c.requires.empty }
