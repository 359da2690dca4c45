use Rattle.machine_model.proofs.CountingNone.{waits, in_sites, others, natives}
use Rattle.machine_model.proofs.alone.others_count_nothing.Goals as goal

pub returns : goal.returns
returns c = record { waits = waits; sites = in_sites; others = others; direct = natives }
