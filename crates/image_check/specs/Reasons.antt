-- Why an image is not accepted: each cause by the condition that it stands for, and the order in which the causes count.
use Rattle.std.specs.Prelude.{◌≡◌, ◌≢◌, ◌⊎◌, ℕ, ◌+◌, ◌-◌, ◌≤◌, ◌<◌, min, true, List, [], ◌∷◌, ◌++◌, length, drop, map, slice_get, Some, Err, Ok}
use Rattle.std.specs.List.{Contains}
use Rattle.ia32_types.specs.declared.addresses.TheConstants.{DATA_ADDRESS, TEXT_ADDRESS}
use Rattle.ia32_types.specs.Branches.{is_direct_branch}
use Rattle.ia32_types.specs.declared.site.Refused.{Refused}
use Rattle.ia32_decode.specs.Named.{BeginsRefused}
use Rattle.elf_form.specs.ImageParts.{ImageParts}
use Rattle.sites.specs.declared.site.Site.{Site}
use Rattle.sites.specs.declared.limits.TheConstants.{TEXT_LIMIT, INIT_LIMIT}
use Rattle.sites.specs.Formats.{listed}
use Rattle.image_check.specs.declared.fault.CheckCause.{CheckCause}
use Rattle.image_check.specs.declared.fault.CheckCause.TheVariants.{TextPlace, InitPlace, TextSize, InitSize, EntryPlace, RefusedCode, BadCode, TextEnd, SiteWrong, SitesForm, Target, EntryStart}
use Rattle.image_check.specs.Sweep.{Swept}
use Rattle.image_check.specs.SweptTexts.{Sweep, SweepStops}
use Rattle.image_check.specs.Pieces.{target_of, piece_of}
use Rattle.image_check.specs.TextSites.{found_in}
use Rattle.image_check.specs.Conditions.{last_at}
use Rattle.image_check.specs.Accepts.{IsEntrance}
use Rattle.image_check.specs.Causes.{causes}
use Rattle.elf_form.specs.Order.{IsLowest}

-- The sweep meets an instruction that is refused by its name, or other bytes that are no spelling, or are cut.
abbrev pub MeetsNamed : List ℕ → ℕ → Type 0
MeetsNamed text at = SweepStops text at × (name : Refused) × BeginsRefused (drop at text) name

abbrev pub MeetsOther : List ℕ → ℕ → Type 0
MeetsOther text at = SweepStops text at × ((name : Refused) → BeginsRefused (drop at text) name → ⊥)

-- The text is instructions alone, and the last of them, at this offset, isn't EB FE.
pub record EndsOtherwise (text : List ℕ) (at : ℕ) : Type 0 where
  pub swept : List Swept
  pub sweep : Sweep text swept
  pub last : at ≡ last_at (map piece_of swept)
  pub other : drop at text ≢ 0xEB ∷ 0xFE ∷ []

-- The instructions of the text, and the sites of the annotations, where both are there.
pub record BothRead (parts : ImageParts) : Type 0 where
  pub swept : List Swept
  pub sweep : Sweep parts.text swept
  pub sites : List Site
  pub read : listed parts.sites ≡ Ok sites

-- The lower offset of two sites that stand at one place of two lists and are not the same, or that of the one where the
-- other list has ended.
abbrev pub NextDiffer : List Site → List Site → ℕ → Type 0
NextDiffer [] [] at = ⊥
NextDiffer [] (t ∷ ts) at = at ≡ t.at
NextDiffer (s ∷ ss) [] at = at ≡ s.at
NextDiffer (s ∷ ss) (t ∷ ts) at = (s ≢ t) × (at ≡ min s.at t.at)

-- Two lists of sites first differ, after those with which both begin.
pub record FirstDiffer (a b : List Site) (at : ℕ) : Type 0 where
  pub both : List Site
  pub rest_a : List Site
  pub rest_b : List Site
  pub first : a ≡ both ++ rest_a
  pub second : b ≡ both ++ rest_b
  pub differ : NextDiffer rest_a rest_b at

-- A sensitive instruction, the first such, lacks its NOPs, or the annotations and the sites up to it differ first.
abbrev pub IsWrongAt : List Swept → List Site → ℕ → Type 0
IsWrongAt swept sites at = ((found_in (map piece_of swept)).lacking ≡ Some at) ⊎ FirstDiffer sites (found_in (map piece_of swept)).sites at

-- The direct branch at an offset leads to no entrance, and each before it leads to one.
pub record LeadsAstray (swept : List Swept) (sites : List Site) (at : ℕ) : Type 0 where
  pub before : List Swept
  pub branch : Swept
  pub later : List Swept
  pub swept_are : swept ≡ before ++ branch ∷ later
  pub place : branch.at ≡ at
  pub direct : is_direct_branch branch.insn.op ≡ true
  pub astray : IsEntrance swept sites (target_of branch.at branch.len branch.insn) → ⊥
  pub right : (s : Swept) → Contains before s → is_direct_branch s.insn.op ≡ true → IsEntrance swept sites (target_of s.at s.len s.insn)

-- The condition of each cause, at a place: an offset of the text, of the annotations for those that have no form, or 0.
abbrev pub IsWrong : CheckCause → ImageParts → ℕ → Type 0
IsWrong TextPlace parts at = (parts.text_at ≢ TEXT_ADDRESS) × (at ≡ 0)
IsWrong InitPlace parts at = (parts.init_at ≢ DATA_ADDRESS) × (at ≡ 0)
IsWrong TextSize parts at = ((length parts.text ≡ 0) ⊎ (TEXT_LIMIT < length parts.text)) × (at ≡ 0)
IsWrong InitSize parts at = (INIT_LIMIT < length parts.init + parts.bss) × (at ≡ 0)
IsWrong EntryPlace parts at = ((parts.entry < TEXT_ADDRESS) ⊎ (TEXT_ADDRESS + length parts.text ≤ parts.entry)) × (at ≡ 0)
IsWrong RefusedCode parts at = MeetsNamed parts.text at
IsWrong BadCode parts at = MeetsOther parts.text at
IsWrong TextEnd parts at = EndsOtherwise parts.text at
IsWrong SitesForm parts at = listed parts.sites ≡ Err at
IsWrong SiteWrong parts at = (b : BothRead parts) × IsLowest (IsWrongAt b.swept b.sites) at
IsWrong Target parts at = (b : BothRead parts) × LeadsAstray b.swept b.sites at
IsWrong EntryStart parts at =
    (b : BothRead parts) × (IsEntrance b.swept b.sites (parts.entry - TEXT_ADDRESS) → ⊥) × (at ≡ parts.entry - TEXT_ADDRESS)

-- An image is wrong by a cause, and by none that comes before it in the order of the causes.
pub record IsRefused (parts : ImageParts) (at : ℕ) (cause : CheckCause) : Type 0 where
  pub index : ℕ
  pub there : slice_get causes index ≡ Some cause
  pub wrong : IsWrong cause parts at
  pub before : (j : ℕ) (c : CheckCause) (place : ℕ) → j < index → slice_get causes j ≡ Some c → IsWrong c parts place → ⊥
