-- What is known once a test has passed.
use Rattle.std.proofs.Common.{◌≡◌, ◌≤◌, ◌+◌, ℕ, List, Bool, true, false, cond, ltb, Option, Some, None, Ok, refl}
use Rattle.std.specs.Prelude.{IfNone}
use Rattle.std.proofs.lemmas.Bool.{ltb-false}
use Rattle.guest_ram.specs.Bytes.{word32}
use Rattle.elf_form.specs.declared.cause.ElfCause.{ElfCause}
use Rattle.elf_form.specs.declared.segments.Found.{Found}
use Rattle.elf_form.specs.declared.segments.Found.TheVariants.{Nothing, One, Two, More}
use Rattle.elf_form.specs.Faults.{test, ◌or_lower◌}
use Rattle.elf_form.specs.Tables.{first_of, second_of}
use Rattle.elf_form.specs.Whole.{AllFound}
use Rattle.elf_form.specs.Header.{wrong_half}
use Rattle.elf_form.specs.Segments.{order, memory_sizes, first_size, second_size, sizes, loads, too_long}
use Rattle.elf_form.specs.Sections.{one_of}
pub use Rattle.plain_laws.proofs.Options.{then_none, else_none}

-- no place was found
pub tested_none : (cause : ElfCause) (place : Option ℕ) → test cause place ≡ Ok tt → place ≡ None
tested_none cause None e = refl
tested_none cause (Some at) e = absurd cc

lower_some : (t : Bool) (x y : ℕ) → cond t (Some x) (Some y) ≡ None → ⊥
lower_some true x y h = cc
lower_some false x y h = cc

pub lower_none : (a b : Option ℕ) → (a or_lower b) ≡ None → (a ≡ None) × (b ≡ None)
lower_none None b h = (refl, h)
lower_none (Some x) None h = absurd cc
lower_none (Some x) (Some y) h = absurd (lower_some (ltb y x) y x h)

pub lower_end : (a : Option ℕ) → (a or_lower None) ≡ a
lower_end None = refl
lower_end (Some x) = refl

pub two_of : (bytes : List ℕ) (P : ℕ → Type 0) (f : Found) → order bytes f ≡ None → AllFound P f → P (first_of f) × P (second_of f)
unfolding order
two_of bytes P Nothing e all = absurd cc
two_of bytes P (One a) e all = absurd cc
two_of bytes P (Two a b) e all = all
two_of bytes P (More a b) e all = absurd cc

pub one_is : (P : ℕ → Type 0) (g : Found) → one_of g ≡ None → AllFound P g → P (first_of g)
one_is P Nothing e all = absurd cc
one_is P (One s) e all = all
one_is P (Two s t) e all = absurd cc
one_is P (More s t) e all = absurd cc

-- the second program header takes no less memory than it has bytes
pub second_fits : (bytes : List ℕ) (f : Found) → order bytes f ≡ None → memory_sizes bytes f ≡ None
    → word32 bytes (second_of f + 16) ≤ word32 bytes (second_of f + 20)
unfolding order memory_sizes
second_fits bytes Nothing e m = absurd cc
second_fits bytes (One a) e m = absurd cc
second_fits bytes (Two a b) e m =
    ltb-false _ _ (then_none (ltb (word32 bytes (b + 20)) (word32 bytes (b + 16))) (b + 20)
    ((lower_none (first_size bytes a) (second_size bytes b) m).1))
second_fits bytes (More a b) e m = absurd cc

-- the sizes that were compared
pub sizes_memory : (bytes : List ℕ) → sizes bytes ≡ None → memory_sizes bytes (loads bytes) ≡ None
unfolding sizes
sizes_memory bytes e =
    let rest =
    (lower_none (wrong_half 40 52 bytes)
    (wrong_half 42 32 bytes or_lower (wrong_half 46 40 bytes or_lower (memory_sizes bytes (loads bytes) or_lower too_long bytes))) e).1 in
    let rest =
    (lower_none (wrong_half 42 32 bytes) (wrong_half 46 40 bytes or_lower (memory_sizes bytes (loads bytes) or_lower too_long bytes))
    rest).1 in
    let rest = (lower_none (wrong_half 46 40 bytes) (memory_sizes bytes (loads bytes) or_lower too_long bytes) rest).1 in
    (lower_none (memory_sizes bytes (loads bytes)) (too_long bytes) rest).0

pub when_none : (place : Option ℕ) (P : Type 0) → (place ≡ None → P) → IfNone place P
when_none None P h = h refl
when_none (Some at) P h = tt
