-- What the text of a file is.
use Rattle.std.proofs.Common.{◌≡◌, ℕ, Bool, List, Option, Result, Ok, Err}
use Rattle.std.specs.Prelude.{IfOk, IfErr}
use Rattle.pv_io.specs.Files.{FileMap, Holds}
use Rattle.asm_lex.specs.declared.fault.SourceCause.{SourceCause}
use Rattle.asm_source.specs.declared.tree.SourceItem.{SourceItem}
use Rattle.asm_parse.specs.Source.{SourceAs}
use Rattle.pv_build.specs.Telling.{HaltsAs, RefusesAs}
use Rattle.pv_build.specs.Sources.{IsNoSource, source_line}
use Rattle.pv_build.specs.SourceFiles.{HasSource, HasNoSource}
use Rattle.pv_build.specs.declared.halt.Halt.{Halt}
use Rattle.pv_build.proofs.Halts.{refused_here, refuses_as}

pub held_source : (files : Option FileMap) (name text : List ℕ) (r : Result (List SourceItem) Halt) → Holds files name text
    → IfOk r (λ s. SourceAs text s) → IfOk r (λ s. HasSource files name s)
held_source files name text (Ok s) holds is = (text, holds, is)
held_source files name text (Err h) holds is = is

pub held_no_source : (files : Option FileMap) (name text : List ℕ) (found : Type 0) (sure : Bool) (before now : ℕ)
    (r : Result (List SourceItem) Halt) → Holds files name text
    → IfErr r (RefusesAs (λ line. (at : ℕ) × (cause : SourceCause) × IsNoSource text (at, cause) × (line ≡ source_line at cause)))
    → IfErr r (HaltsAs (λ line. (at : ℕ) × (cause : SourceCause) × HasNoSource files name (at, cause) × (line ≡ source_line at cause))
    found sure before now)
held_no_source files name text found sure before now (Ok s) holds is = is
held_no_source files name text found sure before now (Err h) holds is =
    refused_here _ found sure before now h (refuses_as _ _ h (λ line told. (told.0, told.1, (text, holds, told.2), told.3)) is)
