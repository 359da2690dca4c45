-- The one layout of an image file (System V ABI, chapters 4 and 5). The order of the parts is the profile's.
use Rattle.std.specs.Prelude.{ℕ, ◌+◌, ◌%◌, ◌^◌, List, [], ◌∷◌, ◌++◌, length, replicate, codes}
use Rattle.elf_form.specs.Output.{identity, halves, longs, pad}
use Rattle.elf_form.specs.declared.abi.TheConstants.{EHDR_SIZE, EM_386, ET_EXEC, EV_CURRENT, PF_R, PF_W, PF_X, PHDR_SIZE, PT_LOAD, SHDR_SIZE}
use Rattle.elf_form.specs.SectionHeaders.{no_section, text_section, data_section, bss_section, sites_section, names_section, placed, numbers_of}
use Rattle.elf_form.specs.ImageParts.{ImageParts}

-- where the parts begin
unfoldable pub init_from : ImageParts → ℕ
init_from p = 4096 + length p.text + pad 4096 (4096 + length p.text)

unfoldable pub sites_from : ImageParts → ℕ
sites_from p = init_from p + length p.init + pad 4 (init_from p + length p.init)

unfoldable pub names_from : ImageParts → ℕ
names_from p = sites_from p + length p.sites

unfoldable pub sections_from : ImageParts → ℕ
sections_from p = names_from p + 38 + pad 4 (names_from p + 38)

-- the names of the sections, each ended by a zero byte
abbrev pub section_names : List ℕ
section_names = 0 ∷ codes ".text" ++ 0 ∷ codes ".data" ++ 0 ∷ codes ".bss" ++ 0 ∷ codes ".pv_sites" ++ 0 ∷ codes ".shstrtab" ++ 0 ∷ []

unfoldable pub header : ImageParts → List ℕ
header p =
    identity
    ++ (halves (ET_EXEC ∷ EM_386 ∷ [])
    ++ (longs (EV_CURRENT ∷ p.entry ∷ EHDR_SIZE ∷ sections_from p ∷ 0 ∷ [])
    ++ halves (EHDR_SIZE ∷ PHDR_SIZE ∷ 2 ∷ SHDR_SIZE ∷ 6 ∷ 5 ∷ [])))

-- type, offset, address (twice), bytes, memory, flags, alignment
abbrev pub program_numbers : ImageParts → List ℕ
program_numbers p =
    PT_LOAD ∷ 4096 ∷ p.text_at ∷ p.text_at ∷ length p.text ∷ length p.text ∷ (PF_R + PF_X) ∷ 4096
    ∷ PT_LOAD ∷ init_from p ∷ p.init_at ∷ p.init_at ∷ length p.init ∷ (length p.init + p.bss) ∷ (PF_R + PF_W) ∷ 4096 ∷ []

abbrev pub section_numbers : ImageParts → List ℕ
section_numbers p = numbers_of (
    no_section
    ∷ placed text_section p.text_at 4096 (length p.text)
    ∷ placed data_section p.init_at (init_from p) (length p.init)
    ∷ placed (bss_section 1) ((p.init_at + length p.init) % 2 ^ 32) 0 p.bss
    ∷ placed sites_section 0 (sites_from p) (length p.sites)
    ∷ placed (names_section 28) 0 (names_from p) 38 ∷ [])

-- the parts between the tables
unfoldable pub body : ImageParts → List ℕ
body p =
    p.text ++ (replicate (pad 4096 (4096 + length p.text)) 0
    ++ (p.init ++ (replicate (pad 4 (init_from p + length p.init)) 0
    ++ (p.sites ++ (section_names ++ replicate (pad 4 (names_from p + 38)) 0)))))

unfoldable pub image_bytes : ImageParts → List ℕ
image_bytes p = header p ++ (longs (program_numbers p) ++ (replicate 3980 0 ++ (body p ++ longs (section_numbers p))))
