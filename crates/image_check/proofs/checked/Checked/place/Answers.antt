use Rattle.std.proofs.Common.{List, length, sym, ap, subst, ◌∙◌}
use Rattle.sites.specs.declared.site.Site.{Site}
use Rattle.image_check.specs.Layout.{AreApart}
use Rattle.image_check.specs.Standing.{site_at}
use Rattle.image_check.proofs.Lookups.{start_test, place_not, place_outside, place_inside}
use Rattle.image_check.proofs.checked.Checked.place.Goals as goal

pub returns-then-not-is_start : goal.returns-then-not-is_start
returns-then-not-is_start c = place_not c.args.self.now c.args.at c.is_start.result
    (start_test c.args.self.now.text c.args.at c.is_start.result c.is_start.ensures) c.if-not-is_start.true

pub site_at-requires : goal.site_at-requires
site_at-requires c = (
  length c.args.self.now.text,
  subst (λ (sites : List Site). AreApart 0 sites (length c.args.self.now.text)) (sym c.sites.ensures.sites) c.sites.ensures.apart,
)

pub returns-in-None : goal.returns-in-None
returns-in-None c =
    place_outside c.args.self.now c.args.at c.is_start.result
    (start_test c.args.self.now.text c.args.at c.is_start.result c.is_start.ensures) c.if-not-is_start.false
    (c.in-None.ensures ∙ ap (λ (sites : List Site). site_at sites c.args.at) c.sites.ensures.sites)

pub returns-in-Some : goal.returns-in-Some
returns-in-Some c =
    place_inside c.args.self.now c.args.at c.is_start.result c.in-Some.site
    (start_test c.args.self.now.text c.args.at c.is_start.result c.is_start.ensures) c.if-not-is_start.false
    (c.in-Some.ensures ∙ ap (λ (sites : List Site). site_at sites c.args.at) c.sites.ensures.sites)
