use Rattle.built_images.proofs.ChunkSites.{whole_sweep, whole_sites}
use Rattle.built_images.proofs.Entrances.{entrance}
use Rattle.built_images.proofs.chunked.padded.Goals as goal

pub returns-clause-sweep : goal.returns-clause-sweep
returns-clause-sweep c = whole_sweep

pub returns-clause-sites : goal.returns-clause-sites
returns-clause-sites c = whole_sites

pub returns-clause-entrances : goal.returns-clause-entrances
returns-clause-entrances c = entrance
