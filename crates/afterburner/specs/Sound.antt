-- What is known of everything that the items of a source make.
use Rattle.std.specs.Prelude.{◌≡◌, ℕ, ◌+◌, ◌<◌, ◌≤◌, max, Bool, true, false, List, [], ◌∷◌, length, All}
use Rattle.elf_form.specs.declared.object.Reloc.{Reloc}
use Rattle.elf_form.specs.ObjectParts.{ObjectParts}
use Rattle.sites.specs.declared.site.Site.{Site}
use Rattle.sites.specs.declared.limits.TheConstants.{TEXT_LIMIT, SITE_LIMIT, INIT_LIMIT}
use Rattle.sites.specs.Spelling.{spelling}
use Rattle.sites.specs.Form.{AreInGaps, IsInForm}
use Rattle.sites.specs.Limits.{in_text}
use Rattle.asm_source.specs.Names.{holds}
use Rattle.afterburner.specs.ObjectSoFar.{ObjectSoFar}

-- The field of a relocation lies in its section, and its name is one of so many.
pub record IsRelocIn (in_text : Bool) (size count : ℕ) (r : Reloc) : Type 0 where
  pub section : r.in_text ≡ in_text
  pub field : r.at + 4 ≤ size
  pub symbol : r.symbol < count

-- Sites of instructions of 1 to 11 bytes follow one another from `from` on without overlapping, and the last ends
-- before `to`.
abbrev pub AreApart : ℕ → List Site → ℕ → Type 0
AreApart from [] to = from ≤ to
AreApart from (s ∷ sites) to = (from ≤ s.at) × (1 ≤ s.len) × (s.len ≤ 11) × (s.total ≡ max 5 s.len) × AreApart (s.at + s.total) sites to

-- Each name has a definition, relocations and sites lie in their sections, and there are no more relocations than
-- bytes. After an STI of its own the text ends with its site.
pub record IsSound (count : ℕ) (st : ObjectSoFar) : Type 0 where
  pub definitions : length st.definitions ≡ count
  pub text_relocs : All (IsRelocIn true (length st.text) count) st.text_relocs
  pub data_relocs : All (IsRelocIn false (length st.init) count) st.data_relocs
  pub few_text : length st.text_relocs ≤ length st.text
  pub few_data : length st.data_relocs ≤ length st.init
  pub sites : AreApart 0 st.sites (length st.text)
  pub sti_site : st.after_sti ≡ true → 1 ≤ length st.sites
  pub sti_text : st.after_sti ≡ true → 4 ≤ length st.text

-- The limits hold.
pub record IsWithin (st : ObjectSoFar) : Type 0 where
  pub text : length st.text ≤ TEXT_LIMIT
  pub init : length st.init + st.bss ≤ INIT_LIMIT
  pub sites : length st.sites ≤ SITE_LIMIT

-- The names are among those of the source.
abbrev pub AreHeld : List (List ℕ) → List (List ℕ) → Type 0
AreHeld names [] = Unit {0}
AreHeld names (n ∷ ns) = (holds names n ≡ true) × AreHeld names ns

-- The annotations are those of sites in the form of the text's format, which lie in the text and follow one another.
pub record IsAnnotated (o : ObjectParts) : Type 0 where
  pub sites : List Site
  pub spelled : o.sites ≡ spelling (in_text (length o.text) sites)
  pub form : IsInForm (in_text (length o.text) sites)
  pub gaps : AreInGaps 0 sites
  pub inside : All (λ s. s.at + s.total ≤ length o.text) sites
  pub few : length sites ≤ SITE_LIMIT

-- The limits hold of an object.
pub record IsSmall (o : ObjectParts) : Type 0 where
  pub text : length o.text ≤ TEXT_LIMIT
  pub init : length o.init + o.bss ≤ INIT_LIMIT
