-- What a function returned, seen by view, is what the definition gives, unless memory ran out.
use Rattle.std.specs.Prelude.{◌≡◌, ℕ, List, Result, Ok, Err}
use Rattle.std.specs.Result.{result_map_both}
use Rattle.elf_form.specs.ImageParts.{ImageParts}
use Rattle.elf_form.specs.ImageLayout.{image_bytes}
use Rattle.elf_link.specs.declared.fault.LinkFault.{LinkFault}
use Rattle.elf_link.specs.declared.fault.LinkFault.TheVariants as faults
use Rattle.elf_link.specs.Refusals.{Refused}

-- the file of an image that is given
abbrev pub file_of : Result ImageParts Refused → Result (List ℕ) Refused
file_of image = result_map_both image_bytes (λ r. r) image

abbrev pub Fails : {Y : Type 0} → LinkFault → Result Y Refused → Type 0
Fails (faults.At object cause) wanted = wanted ≡ Err (record { object = object; cause = cause })
Fails faults.Memory wanted = Unit {0}

abbrev pub Gives : {X Y : Type 0} → (X → Y) → Result X LinkFault → Result Y Refused → Type 0
Gives view (Ok x) wanted = wanted ≡ Ok (view x)
Gives view (Err e) wanted = Fails e wanted
