use Rattle.std.proofs.Common.{subst, sym, ◌∙◌}
use Rattle.pv_look.specs.declared.part.Part.{Part}
use Rattle.pv_look.specs.Room.{IsShort}
use Rattle.pv_look.proofs.Shortness.{short_at, short_site}
use Rattle.pv_look.proofs.part.part_of.Goals as goal

pub returns-else-here-text-clause-short : goal.returns-else-here-text-clause-short
returns-else-here-text-clause-short c =
    let image = c.args.image.now in
    let at = c.args.here.now.at in
    subst (λ (p : Part). IsShort p) (sym c.part_at.ensures)
    (short_at at c.place.result (λ site is.
    let there = c.places.ensures.inside image at site (sym c.place.ensures ∙ is) in
    let listed = (c.places.ensures.site image c.accepted.ensures there.0.at site).0 there.1.inside in
    let first = c.inside_sites.ensures.first image c.accepted.ensures site listed.0 in
    let room = c.outside_sites.ensures.room image c.accepted.ensures first.0 first.1.stands in
    short_site site first.0 first.2 room.1 (c.inside_sites.ensures.total image c.accepted.ensures site listed.0)))
