-- What the items so far make.
use Rattle.std.specs.Prelude.{ℕ, Bool, false, List, [], length, replicate}
use Rattle.elf_form.specs.declared.object.Place.TheVariants as place
use Rattle.elf_form.specs.declared.object.Reloc.{Reloc}
use Rattle.sites.specs.declared.site.Site.{Site}
use Rattle.afterburner.specs.declared.section.Section.{Section}
use Rattle.afterburner.specs.declared.section.Section.TheVariants as section
use Rattle.afterburner.specs.declared.symbol.Definition.{Definition}
use Rattle.afterburner.specs.declared.symbol.Binding.TheVariants as binding

-- The section in which the next item stands, whether the last item was an STI that is a site of its own, the three
-- sections, the sites, the relocations (which name a symbol by its place among the source's names), and a definition
-- for each name.
pub record ObjectSoFar : Type 0 where
  pub section : Section
  pub after_sti : Bool
  pub text : List ℕ
  pub init : List ℕ
  pub bss : ℕ
  pub sites : List Site
  pub text_relocs : List Reloc
  pub data_relocs : List Reloc
  pub definitions : List Definition

abbrev pub undefined : Definition
undefined = record { place = place.Undefined; value = 0; binding = binding.Unsaid }

-- A source begins in text, with nothing made, and none of its names is defined.
abbrev pub fresh : List (List ℕ) → ObjectSoFar
fresh names = record {
  section = section.Text;
  after_sti = false;
  text = [];
  init = [];
  bss = 0;
  sites = [];
  text_relocs = [];
  data_relocs = [];
  definitions = replicate (length names) undefined;
}
