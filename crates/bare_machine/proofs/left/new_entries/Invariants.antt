use Rattle.std.proofs.Common.{take}
use Rattle.step_mem.specs.Changes.{changed}
use Rattle.machine_step.specs.Worked.{dropping}
use Rattle.bare_machine.proofs.Leaving.{Listed}
use Rattle.bare_machine.proofs.left.new_entries.Given as goal

abbrev pub invariant-loop-page : goal.invariant-loop-page
invariant-loop-page g l =
    Listed (g.C.Cache.entries l.cache) (dropping l.dropped (changed (g.C.Cache.entries l.cache) l.changes)) (take l.page-index l.pages)
    l.entries l.page-index
