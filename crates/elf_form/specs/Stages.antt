-- The stages in which a file is tested, each with its causes, and what the last of an image's hands on.
use Rattle.std.specs.Prelude.{ℕ, List, [], ◌∷◌, None, Result}
use Rattle.elf_form.specs.declared.cause.ElfCause.{ElfCause}
use Rattle.elf_form.specs.declared.cause.ElfCause.TheVariants.{Magic, Class, Encoding, Version, FileType, Machine, SectionForm, Compressed, StringPlace, SymbolForm, RelocForm}
use Rattle.elf_form.specs.ImageParts.{ImageParts}
use Rattle.elf_form.specs.Faults.{Fault, tested, ◌>>=◌}
use Rattle.elf_form.specs.Header.{wrong_file}
use Rattle.elf_form.specs.Reading.{parts_at}

-- the causes that the header shows, those that sections and names show, and the last of these
abbrev pub header_causes : List ElfCause
header_causes = Magic ∷ Class ∷ Encoding ∷ Version ∷ FileType ∷ Machine ∷ []

abbrev pub late_causes : List ElfCause
late_causes = SymbolForm ∷ RelocForm ∷ []

abbrev pub section_causes : List ElfCause
section_causes = SectionForm ∷ Compressed ∷ StringPlace ∷ late_causes

-- tests, and what is read where they pass
abbrev pub and_then : {X : Type 0} → Result (Unit {0}) Fault → Result X Fault → Result X Fault
and_then passed next = passed >>= λ _. next

-- the tests of the identification, the type and the machine
unfoldable pub identified : ℕ → List ℕ → Result (Unit {0}) Fault
identified wanted bytes = tested (wrong_file wanted (λ _. None) bytes) header_causes tt

-- the parts that two program headers and a section name, which the tests hand on
abbrev pub parts_by : List ℕ → ℕ × ℕ × ℕ → ImageParts
parts_by bytes at = parts_at bytes at.0 at.1 at.2
