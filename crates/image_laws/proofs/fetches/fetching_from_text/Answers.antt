use Rattle.image_laws.proofs.PatchedTexts.{memory_fetched, memory_cut}
use Rattle.image_laws.proofs.fetches.fetching_from_text.Goals as goal

pub returns-clause-whole : goal.returns-clause-whole
returns-clause-whole c = memory_fetched

pub returns-clause-cut : goal.returns-clause-cut
returns-clause-cut c = memory_cut
