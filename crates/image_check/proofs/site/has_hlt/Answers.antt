use Rattle.std.proofs.Common.{sym, ◌∙◌}
use Rattle.image_check.proofs.SiteSteps.{no_hlt, other_first, hlt_first}
use Rattle.image_check.proofs.site.has_hlt.Goals as goal

pub returns-in-None : goal.returns-in-None
returns-in-None c = λ ps left. no_hlt c.args.text.now c.args.at ps left (sym c.piece_there.ensures.exact ∙ c.in-None.is)

pub returns-then-not-is_hlt : goal.returns-then-not-is_hlt
returns-then-not-is_hlt c = λ ps left. other_first c.args.text.now c.args.at ps c.in-Some.first left
    (sym c.piece_there.ensures.exact ∙ c.in-Some.is) (sym c.is_hlt.ensures ∙ c.if-not-is_hlt.true)

pub returns-else-not-is_hlt : goal.returns-else-not-is_hlt
returns-else-not-is_hlt c = λ ps left. hlt_first c.args.text.now c.args.at ps c.in-Some.first _ left
    (sym c.piece_there.ensures.exact ∙ c.in-Some.is) (sym c.is_hlt.ensures ∙ c.if-not-is_hlt.false) c.has_nops.ensures
