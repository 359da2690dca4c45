use Rattle.std.proofs.Common.{◌≡◌, ◌++◌, map, take}
use Rattle.step_mem.specs.Changes.{page_of}
use Rattle.wedge_mem.proofs.pages.pages_of.Given as goal

abbrev pub invariant-loop-change : goal.invariant-loop-change
invariant-loop-change l = l.pages ≡ l.state.visited ++ map page_of (take l.change-index l.change-items)
