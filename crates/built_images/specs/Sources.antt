-- Objects that are burnt from sources.
use Rattle.ia32_types.specs.Branches.{is_direct_branch}
use Rattle.std.specs.Prelude.{◌≡◌, ◌⊎◌, ℕ, pos, true, List, Ok, Err}
use Rattle.std.specs.List.{AllByRecursion}
use Rattle.ia32_rows.specs.Spells.{AreBytes}
use Rattle.asm_source.specs.declared.tree.Argument.{Argument}
use Rattle.asm_source.specs.declared.tree.Body.{Body}
use Rattle.asm_source.specs.declared.tree.Body.TheVariants as body
use Rattle.asm_source.specs.declared.tree.SourceItem.{SourceItem}
use Rattle.elf_form.specs.ObjectParts.{ObjectParts}
use Rattle.elf_form.specs.Linkable.{IsLinkable}
use Rattle.asm_instruction.specs.declared.assembled.Assembled.{Assembled}
use Rattle.asm_instruction.specs.Assembled.{assembled}
use Rattle.afterburner.specs.Arguments.{number_in}
use Rattle.afterburner.specs.Burnt.{burnt}
use Rattle.image_check.specs.declared.fault.CheckCause.TheVariants.{Target}
use Rattle.image_check.specs.Image.{Image}
use Rattle.image_check.specs.Refusals.{Wrong}
use Rattle.image_check.specs.Checking.{image_of}
use Rattle.image_check.specs.Accepts.{Accepts}

-- The object is what the items of a source make, and one that is linked; its text is a list of bytes.
pub record IsBurnt (o : ObjectParts) : Type 0 where
  pub items : List SourceItem
  pub made : burnt items ≡ Ok o
  pub bytes : AreBytes o.text
  pub linkable : IsLinkable o

abbrev pub AreBurnt : List ObjectParts → Type 0
AreBurnt os = AllByRecursion IsBurnt os

-- The item is no direct branch that names a symbol plus or minus a number.
abbrev pub NamesNoNumber : Body → Type 0
NamesNoNumber (body.Instruction rep name args) = (a : Assembled) → assembled rep name args ≡ Ok a → is_direct_branch a.insn.op ≡ true
    → AllByRecursion (λ (x : Argument). number_in x.form ≡ pos 0) args
NamesNoNumber _ = Unit {0}

abbrev pub NameNoNumbers : List SourceItem → Type 0
NameNoNumbers items = AllByRecursion (λ (i : SourceItem). NamesNoNumber i.body) items

-- Objects of sources in which no direct branch names a symbol plus or minus a number.
abbrev pub AreBurntAlone : List ObjectParts → Type 0
AreBurntAlone os = AllByRecursion (λ (o : ObjectParts). (b : IsBurnt o) × NameNoNumbers b.items) os

-- The file is an accepted image, or what is wrong with its image is first the target of a branch.
abbrev pub IsAcceptedOrForTarget : List ℕ → Type 0
IsAcceptedOrForTarget file = ((image : Image) × Accepts file image) ⊎ ((at : ℕ) × (image_of file ≡ Err (Wrong at Target)))
