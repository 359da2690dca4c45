-- Images whose text is made of padded instructions.
use Rattle.ia32_types.specs.declared.addresses.TheConstants.{DATA_ADDRESS, TEXT_ADDRESS}
use Rattle.ia32_types.specs.Branches.{is_direct_branch}
use Rattle.std.specs.Prelude.{◌≡◌, ◌⊎◌, ℕ, ◌+◌, ◌-◌, ◌≤◌, true, List, [], ◌∷◌, ◌++◌, length, Ok, Err}
use Rattle.std.specs.List.{Contains}
use Rattle.sites.specs.declared.limits.TheConstants.{TEXT_LIMIT, INIT_LIMIT}
use Rattle.elf_form.specs.ImageParts.{ImageParts}
use Rattle.sites.specs.Formats.{listed}
use Rattle.image_check.specs.declared.fault.CheckCause.TheVariants.{Target}
use Rattle.image_check.specs.Sweep.{Swept}
use Rattle.image_check.specs.Pieces.{target_of}
use Rattle.image_check.specs.Refusals.{Wrong}
use Rattle.image_check.specs.Checking.{image_with, image_from}
use Rattle.built_images.specs.Chunks.{Coded, Chunk, Alone, AreChunks, Begins, chunks_text, chunk_sites, chunks_swept}

-- Padded instructions and a jump to itself, EB FE, are the text; its sites are annotated; the parts are at their places and
-- within the limits; and the entry is where an instruction begins.
pub record IsBuilt (parts : ImageParts) (cs : List Chunk) : Type 0 where
  pub chunks : AreChunks cs
  pub text : parts.text ≡ chunks_text cs
  pub body : List Chunk
  pub last : Coded
  pub ends : cs ≡ body ++ (Alone last ∷ [])
  pub jump : last.bytes ≡ 0xEB ∷ 0xFE ∷ []
  pub annotated : listed parts.sites ≡ Ok (chunk_sites 0 cs)
  pub text_at : parts.text_at ≡ TEXT_ADDRESS
  pub init_at : parts.init_at ≡ DATA_ADDRESS
  pub size : length parts.text ≤ TEXT_LIMIT
  pub room : length parts.init + parts.bss ≤ INIT_LIMIT
  pub entry_in : TEXT_ADDRESS ≤ parts.entry
  pub entry : Begins cs (parts.entry - TEXT_ADDRESS)

-- Each direct branch leads to where a padded instruction begins.
abbrev pub LeadsRight : List Chunk → Type 0
LeadsRight cs = (s : Swept) → Contains (chunks_swept 0 cs) s → is_direct_branch s.insn.op ≡ true → Begins cs (target_of s.at s.len s.insn)

-- The image is accepted, or it is refused for the target of a branch.
abbrev pub IsAcceptedButForTargets : ImageParts → List Chunk → Type 0
IsAcceptedButForTargets parts cs =
    (image_from parts ≡ Ok (image_with parts (chunk_sites 0 cs))) ⊎ ((at : ℕ) × (image_from parts ≡ Err (Wrong at Target)))
