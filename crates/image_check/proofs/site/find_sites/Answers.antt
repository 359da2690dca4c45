use Rattle.std.proofs.Common.{◌≤◌, sym, ◌∙◌, subst, List, arith}
use Rattle.plain_laws.proofs.Options.{not_some}
use Rattle.sites.specs.declared.site.Site.{Site}
use Rattle.image_check.proofs.SiteSteps.{Now, now_first, now_skipped, now_nothing, now_makes, now_lacks, now_all}
use Rattle.image_check.proofs.site.find_sites.Goals as goal

pub loop-piece-init : goal.loop-piece-init
loop-piece-init c = record {
  found = subst (λ (sites : List Site). Now sites 0 c.args.text.now 0) (sym c.new-sites.ensures.items)
      (now_first c.args.text.now c.requires.left);
  within = omega arith;
}

pub loop-piece-preserved-then-skipped-gt0 : goal.loop-piece-preserved-then-skipped-gt0
loop-piece-preserved-then-skipped-gt0 c =
    let l = c.loop-piece in
    let there = sym c.piece_there.ensures.exact ∙ c.in-Some.is in
    record {
      found = now_skipped l.sites.items l.skipped c.args.text.now l.at l.invariant.found c.in-Some.piece there (omega arith);
      within = c.in-Some.ensures.room.1;
    }

pub returns-in-Lacks-clause-sites : goal.returns-in-Lacks-clause-sites
returns-in-Lacks-clause-sites c =
    let l = c.loop-piece in
    let there = sym c.piece_there.ensures.exact ∙ c.in-Some.is in
    let none : l.skipped ≤ 0 = omega arith in
    let all = now_lacks l.sites.items l.skipped c.args.text.now l.at l.invariant.found c.in-Some.piece there none in
    (all (λ ps left. sym c.in-Lacks.is ∙ c.begun_by.ensures ps left)).0

pub returns-in-Lacks-clause-lacking : goal.returns-in-Lacks-clause-lacking
returns-in-Lacks-clause-lacking c =
    let l = c.loop-piece in
    let there = sym c.piece_there.ensures.exact ∙ c.in-Some.is in
    let none : l.skipped ≤ 0 = omega arith in
    let all = now_lacks l.sites.items l.skipped c.args.text.now l.at l.invariant.found c.in-Some.piece there none in
    (all (λ ps left. sym c.in-Lacks.is ∙ c.begun_by.ensures ps left)).1

pub loop-piece-preserved-in-Nothing : goal.loop-piece-preserved-in-Nothing
loop-piece-preserved-in-Nothing c =
    let l = c.loop-piece in
    let there = sym c.piece_there.ensures.exact ∙ c.in-Some.is in
    let none : l.skipped ≤ 0 = omega arith in
    let on = now_nothing l.sites.items l.skipped c.args.text.now l.at l.invariant.found c.in-Some.piece there none in
    record { found = on (λ ps left. sym c.in-Nothing.is ∙ c.begun_by.ensures ps left); within = c.in-Some.ensures.room.1 }

pub loop-piece-preserved : goal.loop-piece-preserved
loop-piece-preserved c =
    let l = c.loop-piece in
    let there = sym c.piece_there.ensures.exact ∙ c.in-Some.is in
    let none : l.skipped ≤ 0 = omega arith in
    let on = now_makes l.sites.items l.skipped c.args.text.now l.at l.invariant.found c.in-Some.piece there c.in-Makes.site none in
    record {
      found =
          rw (c.in_ok-push-in-Makes.ensures.items, c.saturating_sub-skipped.ensures)
          (on (λ ps left. sym c.in-Makes.is ∙ c.begun_by.ensures ps left));
      within = c.in-Some.ensures.room.1;
    }

pub returns-clause-sites : goal.returns-clause-sites
returns-clause-sites c =
    let l = c.loop-piece in
    let none = sym c.piece_there.ensures.exact ∙ not_some c.piece_there.result c.in_default.not-Some in
    (now_all l.sites.items l.skipped c.args.text.now l.at l.invariant.found none).0

pub returns-clause-lacking : goal.returns-clause-lacking
returns-clause-lacking c =
    let l = c.loop-piece in
    let none = sym c.piece_there.ensures.exact ∙ not_some c.piece_there.result c.in_default.not-Some in
    (now_all l.sites.items l.skipped c.args.text.now l.at l.invariant.found none).1
