-- Tests in an order: the first that refuses decides.
use Rattle.std.specs.Prelude.{ℕ, Option, Some, None, Result, Ok, Err}
use Rattle.elf_form.specs.Faults.{Fault}
use Rattle.image_check.specs.declared.fault.CheckCause.{CheckCause}

-- The file is no image file, or the image is wrong at a place.
pub data Refusal : Type 0 where
  Form : Fault → Refusal
  Wrong : ℕ → CheckCause → Refusal

-- a test that passes where it finds no place
abbrev pub test : CheckCause → Option ℕ → Result (Unit {0}) Refusal
test cause None = Ok tt
test cause (Some at) = Err (Wrong at cause)
