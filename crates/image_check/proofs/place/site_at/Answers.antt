use Rattle.std.proofs.Common.{◌+◌, ◌-◌, ◌/◌, sym, ap, ◌∙◌, get_or, arith}
use Rattle.sites.specs.declared.site.Site.{Site}
use Rattle.sites.specs.SitesParts.{SitesParts}
use Rattle.image_check.proofs.Lookups.{sought_left, sought_right, sought_found, sought_none}
use Rattle.image_check.proofs.place.site_at.Goals as goal

pub loop-low-preserved-then-at-site : goal.loop-low-preserved-then-at-site
loop-low-preserved-then-at-site c =
    let middle = c.loop-low.low + (c.loop-low.high - c.loop-low.low) / 2 in
    let s : Site = c.index-site.result.now in
    let same = c.index-site.ensures ∙ ap (λ (p : SitesParts). get_or p.list middle s) c.sites.view_is in
    sought_left c.args.sites.now.list c.requires.0 c.args.at c.loop-low.low c.loop-low.high middle c.requires.1 c.loop-low.invariant
    (omega arith) s same (omega arith)

pub returns-then-at-site-2 : goal.returns-then-at-site-2
returns-then-at-site-2 c =
    let middle = c.loop-low.low + (c.loop-low.high - c.loop-low.low) / 2 in
    let s : Site = c.index-site.result.now in
    let same = c.index-site.ensures ∙ ap (λ (p : SitesParts). get_or p.list middle s) c.sites.view_is in
    sym (sought_found c.args.sites.now.list c.requires.0 c.args.at c.loop-low.low c.loop-low.high middle c.requires.1 c.loop-low.invariant
    (omega arith) s same (omega arith) (omega arith))

pub loop-low-preserved : goal.loop-low-preserved
loop-low-preserved c =
    let middle = c.loop-low.low + (c.loop-low.high - c.loop-low.low) / 2 in
    let s : Site = c.index-site.result.now in
    let same = c.index-site.ensures ∙ ap (λ (p : SitesParts). get_or p.list middle s) c.sites.view_is in
    sought_right c.args.sites.now.list c.requires.0 c.args.at c.loop-low.low c.loop-low.high middle c.requires.1 c.loop-low.invariant
    (omega arith) s same (omega arith)

pub returns : goal.returns
returns c = sym (sought_none c.args.sites.now.list c.args.at c.loop-low.low c.loop-low.high c.loop-low.invariant (omega arith))
