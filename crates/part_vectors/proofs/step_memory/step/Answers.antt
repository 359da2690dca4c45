use Rattle.std.proofs.Common.{◌≡◌, Some, None, sym, ap, ◌∙◌}
use Rattle.std.specs.FinMap.{FinMap, get, get-empty}
use Rattle.std.specs.Ordering.{nat_cmp}
use Rattle.paging.specs.declared.entry.Entry.{Entry}
use Rattle.part_vectors.proofs.step_memory.step.Goals as goal

none_some : (entry : Entry) → None ≡ Some entry → ⊥
none_some entry e = cc

pub new-memory-requires-clause-within : goal.new-memory-requires-clause-within
new-memory-requires-clause-within g c = λ page entry is.
    absurd (none_some entry (sym (ap (λ (set : FinMap nat_cmp Entry). get set page) c.requires.none ∙ get-empty nat_cmp page) ∙ is))
