use Rattle.image_laws.proofs.PatchedTexts.{text_length, text_outside, text_site, memory_length, memory_text, memory_others, memory_whole, memory_back}
use Rattle.image_laws.proofs.patches.patching.Goals as goal

pub returns-clause-length : goal.returns-clause-length
returns-clause-length c = text_length

pub returns-clause-outside : goal.returns-clause-outside
returns-clause-outside c = text_outside

pub returns-clause-site : goal.returns-clause-site
returns-clause-site c = text_site

pub returns-clause-memory : goal.returns-clause-memory
returns-clause-memory c = memory_whole

pub returns-clause-original : goal.returns-clause-original
returns-clause-original c = memory_back

pub returns-clause-memory_length : goal.returns-clause-memory_length
returns-clause-memory_length c = memory_length

pub returns-clause-text_in_memory : goal.returns-clause-text_in_memory
returns-clause-text_in_memory c = memory_text

pub returns-clause-other_bytes : goal.returns-clause-other_bytes
returns-clause-other_bytes c = memory_others
