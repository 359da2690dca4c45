use Rattle.image_check.proofs.Layouts.{laid_in, apart}
use Rattle.image_laws.proofs.Around.{first_part, held}
use Rattle.image_laws.proofs.InSites.{hlt_start, nop_start}
use Rattle.image_laws.proofs.layout.inside_sites.Goals as goal

pub returns-clause-apart : goal.returns-clause-apart
returns-clause-apart c = apart

pub returns-clause-total : goal.returns-clause-total
returns-clause-total c image h = (laid_in image h).totals

pub returns-clause-first : goal.returns-clause-first
returns-clause-first c = first_part

pub returns-clause-parts : goal.returns-clause-parts
returns-clause-parts c image h site s is = (held image h site s is).0

pub returns-clause-hlt_start : goal.returns-clause-hlt_start
returns-clause-hlt_start c = hlt_start

pub returns-clause-nop_starts : goal.returns-clause-nop_starts
returns-clause-nop_starts c = nop_start

pub returns-clause-within : goal.returns-clause-within
returns-clause-within c image h site s is = let r = held image h site s is in (r.1, r.2)
