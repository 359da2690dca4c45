-- The work of `burn`.
use Rattle.std.specs.Prelude.{◌≡◌, ℕ, List, Option, Some, Result, Ok, Err}
use Rattle.pv_io.specs.Files.{FileMap, Holds, IsHeld, Stores}
use Rattle.asm_lex.specs.declared.fault.SourceCause.{SourceCause}
use Rattle.asm_source.specs.declared.tree.SourceItem.{SourceItem}
use Rattle.asm_parse.specs.Source.{SourceAs}
use Rattle.elf_form.specs.ObjectParts.{ObjectParts}
use Rattle.elf_form.specs.ObjectLayout.{object_bytes}
use Rattle.afterburner.specs.Burnt.{Fault, burnt}
use Rattle.pv_build.specs.Sources.{SaysSource, source_line}
use Rattle.pv_build.specs.Objects.{ReadsBack, burn_line, object_made_line}
use Rattle.pv_tasks.specs.Outcome.{Outcome, refused, stored_as}
use Rattle.pv_tasks.specs.Tasks.{Task, plain}

abbrev pub written : List ℕ → Result ObjectParts Fault → Outcome
written name (Ok o) = stored_as name (object_bytes o) (object_made_line o)
written name (Err fault) = refused (burn_line fault)

abbrev pub burned : List ℕ → Result (List SourceItem) (ℕ × SourceCause) → Outcome
burned name (Ok items) = written name (burnt items)
burned name (Err (line, cause)) = refused (source_line line cause)

-- the outcome of the source's file
pub record Burns (files : Option FileMap) (source object : List ℕ) (w : Outcome) : Type 0 where
  pub text : List ℕ
  pub holds : Holds files source text
  pub said : Result (List SourceItem) (ℕ × SourceCause)
  pub says : SaysSource text said
  pub comes : w ≡ burned object said

-- the name holds a source that is burnt to this object
pub record HasBurnt (files : Option FileMap) (source : List ℕ) (o : ObjectParts) : Type 0 where
  pub text : List ℕ
  pub holds : Holds files source text
  pub items : List SourceItem
  pub says : SourceAs text items
  pub burnt_is : burnt items ≡ Ok o

-- what `burn` asks for; it leaves a file that is read back as the object
abbrev pub burn_task : List ℕ → List ℕ → Task
burn_task source object = record (plain (λ files w. Burns files source object w) (λ files. IsHeld files source)) {
  saved = Some object;
  leaves = λ old new. (o : ObjectParts) × HasBurnt old source o × ReadsBack o × Stores old new object (object_bytes o);
}
