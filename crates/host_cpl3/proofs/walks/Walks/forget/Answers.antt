use Rattle.std.proofs.Common.{ap, ◌∙◌}
use Rattle.std.specs.FinMap.{FinMap, get, get-empty}
use Rattle.std.specs.Ordering.{nat_cmp}
use Rattle.paging.specs.declared.entry.Entry.{Entry}
use Rattle.host_cpl3.proofs.Keeping.{none_kept, none_last}
use Rattle.host_cpl3.proofs.walks.Walks.forget.Goals as goal

pub returns-clause-kept : goal.returns-clause-kept
returns-clause-kept c = λ m root. (
  λ page. none_kept _ _ (ap (λ (b : FinMap nat_cmp Entry). get b page) c.drop_all.ensures ∙ get-empty nat_cmp page),
  λ page. none_kept _ _ (none_last _ _ c.none-self.ensures),
)
