-- The sections that are read as sites are those that have the name.
use Rattle.std.proofs.Common.{◌≡◌, ℕ, ◌/◌, ◌%◌, ◌+◌, Bool, true, false, ◌&&◌, not, cond, List, [], ◌∷◌, ◌++◌, drop, refl, ap}
use Rattle.std.specs.Prelude.{filter, nat_eq, codes, ◌==◌}
use Rattle.std.specs.List.{starts_with}
use Rattle.guest_ram.specs.Bytes.{word32}
use Rattle.elf_form.specs.declared.roles.Role.TheVariants as role
use Rattle.elf_form.specs.Tables.{found}
use Rattle.elf_form.specs.Header.{sections}
use Rattle.elf_form.specs.Sections.{names, is_null, is_sites, sites_sections}
use Rattle.elf_form.specs.Roles.{role as role_of, role_number, has_role, with_role}

read_as : (null named alloc one exec bss note syms rels : Bool)
    → (role_number (cond null role.Ignored
    (cond (not null && named) role.Sites
    (cond alloc (cond one (cond exec role.Text role.Init) (cond bss role.Bss (cond note role.Ignored role.Foreign)))
    (cond syms role.Symbols (cond rels role.Relocs role.Ignored))))) == 1)
    ≡ (not null && named)
read_as true named alloc one exec bss note syms rels = refl
read_as false true alloc one exec bss note syms rels = refl
read_as false false true true true bss note syms rels = refl
read_as false false true true false bss note syms rels = refl
read_as false false true false exec true note syms rels = refl
read_as false false true false exec false true syms rels = refl
read_as false false true false exec false false syms rels = refl
read_as false false false one exec bss note true rels = refl
read_as false false false one exec bss note false true = refl
read_as false false false one exec bss note false false = refl

named_sites : (ns bytes : List ℕ) (s : ℕ) → has_role role.Sites ns bytes s ≡ is_sites ns bytes s
unfolding role_of
named_sites ns bytes s =
    read_as (is_null bytes s) (starts_with nat_eq (drop (word32 bytes s) ns) (codes ".pv_sites" ++ 0 ∷ []))
    (word32 bytes (s + 8) / 2 % 2 == 1) (word32 bytes (s + 4) == 1) (word32 bytes (s + 8) / 4 % 2 == 1)
    (word32 bytes (s + 4) == 8) (word32 bytes (s + 4) == 7) (word32 bytes (s + 4) == 2) (word32 bytes (s + 4) == 9)

filter_as : (p q : ℕ → Bool) → ((x : ℕ) → p x ≡ q x) → (xs : List ℕ) → filter p xs ≡ filter q xs
filter_as p q same [] = refl
filter_as p q same (x ∷ xs) = rw (same x, filter_as p q same xs) refl

pub with_sites : (bytes : List ℕ) → with_role role.Sites (names bytes) bytes ≡ sites_sections bytes
unfolding with_role sites_sections
with_sites bytes =
    ap found (filter_as (has_role role.Sites (names bytes) bytes) (is_sites (names bytes) bytes)
    (named_sites (names bytes) bytes) (sections bytes))
