-- The first two of the entries that a search finds, one more at a time.
use Rattle.std.specs.Prelude.{ℕ}
use Rattle.elf_form.specs.declared.segments.Found.{Found}
use Rattle.elf_form.specs.declared.segments.Found.TheVariants.{Nothing, One, Two, More}

-- one more
abbrev pub with_one : Found → ℕ → Found
with_one Nothing at = One at
with_one (One a) at = Two a at
with_one (Two a b) at = More a b
with_one (More a b) at = More a b
