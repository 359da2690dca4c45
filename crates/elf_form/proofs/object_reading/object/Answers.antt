use Rattle.std.proofs.Common.{Result, subst}
use Rattle.elf_form.specs.ObjectParts.{ObjectParts}
use Rattle.elf_form.specs.Faults.{Fault}
use Rattle.elf_form.specs.Answers.{Gives}
use Rattle.elf_form.specs.ObjectReading.{object_at, wrong_in_object, wrong_object, object_in}
use Rattle.elf_form.proofs.TestLaws.{cut_first, whole_first}
use Rattle.elf_form.proofs.object_reading.object.Goals as goal

pub returns-in-Some : goal.returns-in-Some
unfolding object_in wrong_object
returns-in-Some c = cut_first ObjectParts 1 (wrong_in_object c.args.bytes.now) c.args.bytes.now (object_at c.args.bytes.now) c.in-Some.at
    c.in-Some.ensures.place

pub returns-in-None : goal.returns-in-None
unfolding object_in wrong_object
returns-in-None c =
    subst (λ (read : Result ObjectParts Fault). Gives (λ o. o) c.header_tested.result read)
    (whole_first ObjectParts 1 (wrong_in_object c.args.bytes.now) c.args.bytes.now (object_at c.args.bytes.now) c.in-None.ensures.place)
    c.header_tested.ensures
