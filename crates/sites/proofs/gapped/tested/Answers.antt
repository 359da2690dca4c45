use Rattle.std.proofs.Common.{◌≡◌, true, false, get_or, sym, ◌∙◌}
use Rattle.ia32_types.specs.declared.site.SiteKind.TheVariants.{Cli}
use Rattle.sites.specs.declared.site.Site.{Site}
use Rattle.sites.specs.Gapped.{is_gapped}
use Rattle.sites.proofs.Gaps.{test_not, test_more, test_end}
use Rattle.sites.proofs.gapped.tested.Goals as goal

-- a site in place of one past the end
abbrev none : Site
none = record { at = 0; kind = Cli; len = 0; total = 0 }

pub returns-then-not-is_gapped : goal.returns-then-not-is_gapped
returns-then-not-is_gapped c =
    let fails : is_gapped c.loop-s.from (get_or c.args.sites.now c.loop-s.s-index none) ≡ false = sym c.is_gapped.ensures ∙ (cc) in
    sym (test_not c.loop-s.from c.args.sites.now c.loop-s.s-index none c.loop-s-test.true fails) ∙ c.loop-s.invariant

pub loop-s-preserved : goal.loop-s-preserved
loop-s-preserved c =
    let holds : is_gapped c.loop-s.from (get_or c.args.sites.now c.loop-s.s-index none) ≡ true = sym c.is_gapped.ensures ∙ (cc) in
    sym (test_more c.loop-s.from c.args.sites.now c.loop-s.s-index none c.loop-s-test.true holds) ∙ c.loop-s.invariant

pub returns : goal.returns
returns c = sym (test_end c.loop-s.from c.args.sites.now c.loop-s.s-index c.loop-s-test.false) ∙ c.loop-s.invariant
