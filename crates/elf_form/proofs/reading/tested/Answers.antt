use Rattle.std.proofs.Common.{Result, subst}
use Rattle.elf_form.specs.ImageParts.{ImageParts}
use Rattle.elf_form.specs.Faults.{Fault}
use Rattle.elf_form.specs.Answers.{Gives}
use Rattle.elf_form.specs.Reading.{wrong_in_image, wrong_image, image_at, image_in}
use Rattle.elf_form.specs.Stages.{parts_by}
use Rattle.elf_form.proofs.TestLaws.{cut_first, whole_first}
use Rattle.elf_form.proofs.reading.tested.Goals as goal

pub returns-in-Some-clause-exact : goal.returns-in-Some-clause-exact
unfolding image_in wrong_image
returns-in-Some-clause-exact c = cut_first ImageParts 2 (wrong_in_image c.args.bytes.now) c.args.bytes.now (image_at c.args.bytes.now)
    c.in-Some.at c.in-Some.ensures.place

pub returns-in-None-clause-exact : goal.returns-in-None-clause-exact
unfolding image_in wrong_image
returns-in-None-clause-exact c =
    subst (λ (read : Result ImageParts Fault). Gives (parts_by c.args.bytes.now) c.header_tested.result read)
    (whole_first ImageParts 2 (wrong_in_image c.args.bytes.now) c.args.bytes.now (image_at c.args.bytes.now) c.in-None.ensures.place)
    c.header_tested.ensures.exact
