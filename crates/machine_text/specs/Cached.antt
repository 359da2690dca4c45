-- The cached translations as text.
use Rattle.std.specs.Prelude.{ℕ, ◌^◌, List, [], ◌++◌, codes, Option, Some, None}
use Rattle.std.specs.FinMap.{FinMap, get}
use Rattle.std.specs.Ordering.{nat_cmp}
use Rattle.run_trace.specs.Text.{hex8}
use Rattle.paging.specs.declared.entry.Entry.{Entry}
use Rattle.machine_text.specs.Below.{below}
use Rattle.machine_text.specs.Entries.{entry_text}

abbrev pub cached_line : ℕ → Option Entry → List ℕ
cached_line page None = []
cached_line page (Some e) = codes "tlb     page " ++ hex8 page ++ codes " " ++ entry_text e ++ codes "\n"

-- a line for each page that has one
unfoldable pub cached_text : FinMap nat_cmp Entry → List ℕ
cached_text set = below (λ page. cached_line page (get set page)) (2 ^ 20)
