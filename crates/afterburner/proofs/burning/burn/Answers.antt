use Rattle.std.proofs.Common.{length, arith, rules}
use Rattle.asm_source.specs.Names.{names_in}
use Rattle.afterburner.specs.Sound.{IsSound}
use Rattle.afterburner.proofs.Sited.{apart_sites, apart_gapped}
use Rattle.afterburner.proofs.Whole.{whole, annotated, small}
use Rattle.afterburner.proofs.Refusal.{refused_only, made_only}
use Rattle.afterburner.proofs.burning.burn.Goals as goal

pub object-requires-clause-sites : goal.object-requires-clause-sites
object-requires-clause-sites c =
    apart_sites 0 0 (length c.in-Ok-make_all.made.text) c.in-Ok-make_all.made.sites (omega arith) c.in-Ok-make_all.ensures.sound.sites

pub returns-clause-writable : goal.returns-clause-writable
returns-clause-writable c =
    let sound : IsSound (length (names_in c.args.source.now)) c.in-Ok-make_all.made =
    rw (← c.in-Ok.ensures) c.in-Ok-make_all.ensures.sound in
    rw (c.in-Ok-object.ensures, c.in-Ok.ensures)
    (whole c.args.source.now c.in-Ok-make_all.made c.object_length.ensures.bound c.requires sound c.in-Ok-make_all.ensures.within)

pub returns-clause-sites : goal.returns-clause-sites
returns-clause-sites c =
    rw c.in-Ok-object.ensures (annotated c.in-Ok.names c.in-Ok-make_all.made (length c.in-Ok.names) c.in-Ok-make_all.ensures.sound
    c.in-Ok-make_all.ensures.within)

pub returns-clause-limits : goal.returns-clause-limits
returns-clause-limits c = rw c.in-Ok-object.ensures (small c.in-Ok.names c.in-Ok-make_all.made c.in-Ok-make_all.ensures.within)

pub object-requires-clause-gaps : goal.object-requires-clause-gaps
object-requires-clause-gaps c = apart_gapped 0 (length c.in-Ok-make_all.made.text) c.in-Ok-make_all.made.sites
    (omega (arith, c.in-Ok-make_all.ensures.within.text)) c.in-Ok-make_all.ensures.sound.sites

pub returns-in-Err-make_all-clause-first_only : goal.returns-in-Err-make_all-clause-first_only
returns-in-Err-make_all-clause-first_only c =
    λ line cause w. refused_only c.args.source.now c.in-Err-make_all.fault (search rules) line cause w

pub returns-clause-first_only : goal.returns-clause-first_only
returns-clause-first_only c = λ line cause w. made_only c.args.source.now c.in-Ok-make_all.made (search rules) line cause w
