use Rattle.std.proofs.Common.{length, []}
use Rattle.image_check.proofs.Layouts.{start_is_among, text_fits, sweeps, start_exact, started, starts, apart, site_listed, listed_site, none_around, around_none}
use Rattle.image_check.specs.Standing.{swept_of}
use Rattle.image_laws.proofs.Instructions.{one_there}
use Rattle.image_laws.proofs.WaysOn.{outside_there, inside_there}
use Rattle.image_laws.proofs.layout.places.Goals as goal

pub returns-clause-sweep : goal.returns-clause-sweep
returns-clause-sweep c = sweeps

pub returns-clause-bytes : goal.returns-clause-bytes
returns-clause-bytes c = text_fits

pub returns-clause-outside : goal.returns-clause-outside
returns-clause-outside c = outside_there

pub returns-clause-inside : goal.returns-clause-inside
returns-clause-inside c = inside_there

pub returns-clause-start : goal.returns-clause-start
returns-clause-start c = start_exact

pub returns-clause-start_test : goal.returns-clause-start_test
returns-clause-start_test c = start_is_among

pub returns-clause-instruction : goal.returns-clause-instruction
returns-clause-instruction c = started

pub returns-clause-instruction_starts : goal.returns-clause-instruction_starts
returns-clause-instruction_starts c = starts

pub returns-clause-one_instruction : goal.returns-clause-one_instruction
returns-clause-one_instruction c image h s t = one_there 0 image.text (swept_of image.text) (length image.text) [] (sweeps image h) s t

pub returns-clause-site : goal.returns-clause-site
returns-clause-site c image h at site =
    (site_listed at image.sites site, λ is. listed_site 0 at image.sites (length image.text) (apart image h) site is.0 is.1 is.2)

pub returns-clause-no_site : goal.returns-clause-no_site
returns-clause-no_site c image h at = (none_around at image.sites, around_none at image.sites)
