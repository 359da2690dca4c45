use Rattle.elf_link.proofs.OrderLaws.{malformed, past_text, too_many, gaps_wrong, sites_right}
use Rattle.elf_link.proofs.laws.sites_refused.Goals as goal

pub returns-clause-malformed : goal.returns-clause-malformed
returns-clause-malformed c = malformed

pub returns-clause-past_text : goal.returns-clause-past_text
returns-clause-past_text c = past_text

pub returns-clause-too_many : goal.returns-clause-too_many
returns-clause-too_many c = too_many

pub returns-clause-crowded : goal.returns-clause-crowded
returns-clause-crowded c = gaps_wrong

pub returns-clause-right : goal.returns-clause-right
returns-clause-right c = sites_right
