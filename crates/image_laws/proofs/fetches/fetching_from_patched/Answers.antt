use Rattle.image_laws.proofs.PatchedTexts.{patched_fetched, patched_fetch_cut, jump_fetched, jump_fetch_cut}
use Rattle.image_laws.proofs.fetches.fetching_from_patched.Goals as goal

pub returns-clause-whole : goal.returns-clause-whole
returns-clause-whole c = patched_fetched

pub returns-clause-cut : goal.returns-clause-cut
returns-clause-cut c = patched_fetch_cut

pub returns-clause-jump : goal.returns-clause-jump
returns-clause-jump c = jump_fetched

pub returns-clause-jump_cut : goal.returns-clause-jump_cut
returns-clause-jump_cut c = jump_fetch_cut
