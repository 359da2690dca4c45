use Rattle.image_laws.proofs.Around.{insensitive, outside_apart, outside_bytes, rooms}
use Rattle.image_laws.proofs.layout.outside_sites.Goals as goal

pub returns-clause-insensitive : goal.returns-clause-insensitive
returns-clause-insensitive c = insensitive

pub returns-clause-apart : goal.returns-clause-apart
returns-clause-apart c = outside_apart

pub returns-clause-bytes : goal.returns-clause-bytes
returns-clause-bytes c = outside_bytes

pub returns-clause-room : goal.returns-clause-room
returns-clause-room c = rooms
