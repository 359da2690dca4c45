use Rattle.pv_tool.proofs.CommandLaws.{gives_found, held_objects, image_again, image_parts, stored_again}
use Rattle.pv_tool.proofs.laws.chains.Goals as goal

pub returns-clause-found : goal.returns-clause-found
returns-clause-found c = gives_found

pub returns-clause-objects : goal.returns-clause-objects
returns-clause-objects c = held_objects

pub returns-clause-image : goal.returns-clause-image
returns-clause-image c = image_again

pub returns-clause-parts : goal.returns-clause-parts
returns-clause-parts c = image_parts

pub returns-clause-stored : goal.returns-clause-stored
returns-clause-stored c = stored_again
