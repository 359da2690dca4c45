use Rattle.std.proofs.Common.{◌≡◌, length, ap, ◌∙◌, arith, below_more}
use Rattle.std.proofs.lemmas.Bool.{ltb-true, lt-ltb}
use Rattle.elf_form.specs.ObjectParts.{ObjectParts}
use Rattle.elf_link.proofs.RelocLaws.{HasRoomAt, room_at, linkable_from}
use Rattle.elf_link.proofs.FirstLaws.{past}
use Rattle.elf_link.proofs.linkable.is_linkable.Goals as goal

pub loop-r-preserved : goal.loop-r-preserved
loop-r-preserved c =
    let e : c.deref-r-items.result.now ≡ c.args.object.now.relocs =
    c.deref-r-items.ensures.value ∙ ap (λ (o : ObjectParts). o.relocs) c.object.view_is in
    below_more (HasRoomAt c.args.object.now) c.loop-r.r-index c.loop-r.invariant
    (room_at c.args.object.now c.deref-r-items.result.now c.loop-r.r-index _ e c.loop-r-test.true
    (c.fits.ensures.symbol c.if-not-fits.false) (c.fits.ensures.field c.if-not-fits.false))

pub returns : goal.returns
returns c =
    let e : c.deref-r-items.result.now ≡ c.args.object.now.relocs =
    c.deref-r-items.ensures.value ∙ ap (λ (o : ObjectParts). o.relocs) c.object.view_is in
    let end = past _ _ _ e c.loop-r-test.false in
    let len : c.len.result ≡ length c.args.object.now.sites =
    omega (arith, c.len.ensures, c.object.inside.sites.ok, ap (λ (o : ObjectParts). length o.sites) c.object.view_is) in
    record {
      sound = λ short. linkable_from c.args.object.now (λ k h. c.loop-r.invariant k (omega (arith, end)))
          (let lt = ltb-true c.len.result 4294967296 short in omega (arith, len, lt));
      only = λ linkable. lt-ltb c.len.result 4294967296 (omega (arith, len, linkable.sites));
    }
