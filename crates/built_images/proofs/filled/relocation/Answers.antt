use Rattle.built_images.proofs.Filling.{text_filled, same_length, same_sites}
use Rattle.built_images.proofs.filled.relocation.Goals as goal

pub returns-clause-filled : goal.returns-clause-filled
returns-clause-filled c = text_filled

pub returns-clause-same_length : goal.returns-clause-same_length
returns-clause-same_length c = λ made cs ds h. same_length made 0 cs ds h

pub returns-clause-same_sites : goal.returns-clause-same_sites
returns-clause-same_sites c = λ made cs ds h. same_sites made 0 0 cs ds h
