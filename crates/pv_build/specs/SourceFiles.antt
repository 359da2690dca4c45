-- The sources that files hold.
use Rattle.std.specs.Prelude.{ℕ, List, Option}
use Rattle.pv_io.specs.Files.{FileMap, Holds}
use Rattle.asm_lex.specs.declared.fault.SourceCause.{SourceCause}
use Rattle.asm_source.specs.declared.tree.SourceItem.{SourceItem}
use Rattle.asm_parse.specs.Source.{SourceAs}
use Rattle.pv_build.specs.Sources.{IsNoSource}

-- the name holds a source, or a text that is none
abbrev pub HasSource : Option FileMap → List ℕ → List SourceItem → Type 0
HasSource files name items = (text : List ℕ) × Holds files name text × SourceAs text items

abbrev pub HasNoSource : Option FileMap → List ℕ → ℕ × SourceCause → Type 0
HasNoSource files name fault = (text : List ℕ) × Holds files name text × IsNoSource text fault
