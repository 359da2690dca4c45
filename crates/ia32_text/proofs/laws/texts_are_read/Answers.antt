use Rattle.ia32_text.proofs.LinesRead.{text_alone, line_of, listing_says}
use Rattle.ia32_text.proofs.laws.texts_are_read.Goals as goal

pub returns : goal.returns
returns c = record { alone = text_alone; line = line_of; listing = listing_says }
