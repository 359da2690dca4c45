use Rattle.std.proofs.Common.{arith}
use Rattle.paging.specs.Space.{loaded, byte_at, place}
use Rattle.step_mem.specs.Changes.{changed}
use Rattle.step_mem.proofs.InPage.{next_place}
use Rattle.step_mem.proofs.access.long_in_page.Goals as goal

pub returns-clause-value : goal.returns-clause-value
unfolding loaded byte_at place
returns-clause-value g c = λ control rest same.
    let set = changed (g.B.Translations.entries c.args.base.now c.args.ram.now) c.args.changes.now in
    let one = next_place set c.args.at 1 c.requires.found (omega (arith, c.requires.one)) in
    let two = next_place set c.args.at 2 c.requires.found (omega (arith, c.requires.one)) in
    let three = next_place set c.args.at 3 c.requires.found (omega (arith, c.requires.one)) in
    cc
