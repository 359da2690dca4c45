-- Which instructions are sensitive, by the row that spells them.
use Rattle.std.specs.Prelude.{ℕ, List}
use Rattle.std.specs.List.{Contains}
use Rattle.ia32_types.specs.declared.insn.Insn.{Insn}
use Rattle.ia32_types.specs.declared.site.SiteKind.{SiteKind}
use Rattle.ia32_rows.specs.declared.row.Row.{Row}
use Rattle.ia32_rows.specs.declared.row.Parts.{Parts}
use Rattle.ia32_rows.specs.Spells.{SpellsBy}
use Rattle.ia32_rows.specs.Rows.{sites}

-- The bytes spell the instruction by a row that the list of sites has, with this kind.
pub record IsSite (bytes : List ℕ) (insn : Insn) (kind : SiteKind) : Type 0 where
  pub row : Row
  pub listed : Contains sites (kind, row)
  pub parts : Parts
  pub by_row : SpellsBy row parts bytes insn
