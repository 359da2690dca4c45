-- The two program headers of an image (System V ABI, chapter 5, Program Header).
use Rattle.std.specs.Prelude.{ℕ, ◌+◌, ◌%◌, Bool, not, ◌&&◌, List, length, filter, Option, Some, option_and_then, nat_lt, ◌==◌}
use Rattle.std.specs.Bool.{then_some}
use Rattle.guest_ram.specs.Bytes.{word32}
use Rattle.elf_form.specs.declared.segments.TheConstants.{FILE_LIMIT}
use Rattle.elf_form.specs.declared.abi.TheConstants.{EHDR_SIZE, E_EHSIZE, E_PHENTSIZE, E_PHNUM, E_SHENTSIZE, PF_X, PHDR_SIZE, PT_LOAD, P_FILESZ, P_FLAGS, P_MEMSZ, SHDR_SIZE}
use Rattle.elf_form.specs.declared.segments.Found.{Found}
use Rattle.elf_form.specs.declared.segments.Found.TheVariants.{Two}
use Rattle.elf_form.specs.Faults.{◌or_lower◌}
use Rattle.elf_form.specs.Tables.{found, first_in, second_in}
use Rattle.elf_form.specs.Header.{headers, wrong_half}

abbrev pub is_load : List ℕ → ℕ → Bool
is_load bytes h = word32 bytes h == PT_LOAD

unfoldable pub loads : List ℕ → Found
loads bytes = found (filter (is_load bytes) (headers bytes))

-- The first takes as much memory as it has bytes, the second no less.
abbrev pub first_size : List ℕ → ℕ → Option ℕ
first_size bytes h = then_some (not (word32 bytes (h + P_MEMSZ) == word32 bytes (h + P_FILESZ))) (h + P_MEMSZ)

abbrev pub second_size : List ℕ → ℕ → Option ℕ
second_size bytes h = then_some (nat_lt (word32 bytes (h + P_MEMSZ)) (word32 bytes (h + P_FILESZ))) (h + P_MEMSZ)

unfoldable pub memory_sizes : List ℕ → Found → Option ℕ
memory_sizes bytes found =
    option_and_then (first_size bytes) (first_in found) or_lower option_and_then (second_size bytes) (second_in found)

abbrev pub too_long : List ℕ → Option ℕ
too_long bytes = then_some (nat_lt FILE_LIMIT (length bytes)) FILE_LIMIT

-- The lowest size field that is wrong.
unfoldable pub sizes : List ℕ → Option ℕ
sizes bytes =
    wrong_half E_EHSIZE EHDR_SIZE bytes or_lower (wrong_half E_PHENTSIZE PHDR_SIZE bytes
    or_lower (wrong_half E_SHENTSIZE SHDR_SIZE bytes or_lower (memory_sizes bytes (loads bytes) or_lower too_long bytes)))

abbrev pub is_executable : List ℕ → ℕ → Bool
is_executable bytes h = word32 bytes (h + P_FLAGS) % 2 == PF_X

-- There are two, and the first alone is executable.
unfoldable pub order : List ℕ → Found → Option ℕ
order bytes (Two a b) = then_some (not (is_executable bytes a && not (is_executable bytes b))) E_PHNUM
order bytes _ = Some E_PHNUM
