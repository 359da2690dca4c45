use Rattle.image_laws.proofs.PatchedTexts.{jump_whole, jump_cut, leads_out, jump_effect, in_window, one_site}
use Rattle.image_laws.proofs.patches.jumps_out.Goals as goal

pub returns-clause-jump : goal.returns-clause-jump
returns-clause-jump c = jump_whole

pub returns-clause-jump_cut : goal.returns-clause-jump_cut
returns-clause-jump_cut c = jump_cut

pub returns-clause-leads : goal.returns-clause-leads
returns-clause-leads c = leads_out

pub returns-clause-one_site : goal.returns-clause-one_site
returns-clause-one_site c = one_site

pub returns-clause-effect : goal.returns-clause-effect
returns-clause-effect c = jump_effect

pub returns-clause-window : goal.returns-clause-window
returns-clause-window c = in_window
