-- What is known of the items of every source that is read.
use Rattle.std.specs.Prelude.{ℕ, ◌≤◌, List, length, All}
use Rattle.asm_lex.specs.declared.lexing.TheConstants.{LIMIT}
use Rattle.asm_source.specs.declared.names.TheConstants.{SYMBOL_LIMIT}
use Rattle.asm_source.specs.declared.tree.SourceItem.{SourceItem}
use Rattle.asm_source.specs.Size.{items_size, items_count}
use Rattle.asm_source.specs.Names.{names_in}

-- The items say no more than the longest source can, and name no more symbols than a source may, none with a zero byte.
pub record IsReadable (items : List SourceItem) : Type 0 where
  pub size : items_size items ≤ LIMIT
  pub count : items_count items ≤ LIMIT
  pub few : length (names_in items) ≤ SYMBOL_LIMIT
  pub named : All (λ (n : List ℕ). All (λ b. 1 ≤ b) n) (names_in items)
