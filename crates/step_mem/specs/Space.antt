-- The meaning of a step's memory, from its parts.
use Rattle.std.specs.Prelude.{ℕ, ◌+◌, List, [], ◌∷◌, ◌++◌}
use Rattle.std.specs.FinMap.{FinMap}
use Rattle.std.specs.Ordering.{nat_cmp}
use Rattle.paging.specs.declared.entry.Entry.{Entry}
use Rattle.paging.specs.Space.{Space, Span, Earlier}
use Rattle.step_mem.specs.declared.changes.Change.{Change}
use Rattle.step_mem.specs.declared.guard.Guard.{Guard}
use Rattle.step_mem.specs.declared.walking.Control.{Control}
use Rattle.step_mem.specs.Changes.{changed}
use Rattle.step_mem.specs.Guard.{mode_of}
use Rattle.step_mem.specs.Shown.{shown}

-- what isn't used to translate a page
pub record Rest : Type 0 where
  pub pages : ℕ
  pub visited : List ℕ
  pub tables : List ℕ
  pub wrote : List ℕ
  pub ready : Span
  pub earlier : Earlier

abbrev pub space_of : (List ℕ → FinMap nat_cmp Entry) → List ℕ → Control → Guard → List Change → Rest → Space
space_of kept ram control guard changes rest =
    record {
      ram = shown guard control.frames ram;
      frames = control.frames;
      set = changed (kept ram) changes;
      cr3 = control.cr3;
      pse = control.pse;
      wp = control.wp;
      mode = mode_of guard;
      pages = rest.pages;
      visited = rest.visited;
      tables = rest.tables;
      wrote = rest.wrote;
      ready = rest.ready;
      earlier = rest.earlier;
    }

abbrev pub one_more : Rest → ℕ → Rest
one_more rest page = record rest { pages = rest.pages + 1; visited = rest.visited ++ page ∷ [] }

-- with other tables read
abbrev pub with_tables : Rest → List ℕ → Rest
with_tables rest tables = record rest { tables = tables }

-- after one page more, with other tables read
abbrev pub after_page : Rest → ℕ → List ℕ → Rest
after_page rest page tables = with_tables (one_more rest page) tables
