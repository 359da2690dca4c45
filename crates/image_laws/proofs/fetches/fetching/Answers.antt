use Rattle.image_laws.proofs.PatchedTexts.{same_bytes, fetched_whole, fetched_cut, patched_whole, patched_cut}
use Rattle.image_laws.proofs.fetches.fetching.Goals as goal

pub returns-clause-same_bytes : goal.returns-clause-same_bytes
returns-clause-same_bytes c = same_bytes

pub returns-clause-whole : goal.returns-clause-whole
returns-clause-whole c = fetched_whole

pub returns-clause-whole_patched : goal.returns-clause-whole_patched
returns-clause-whole_patched c = patched_whole

pub returns-clause-cut : goal.returns-clause-cut
returns-clause-cut c = fetched_cut

pub returns-clause-cut_patched : goal.returns-clause-cut_patched
returns-clause-cut_patched c = patched_cut
