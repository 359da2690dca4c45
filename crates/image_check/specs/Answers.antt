-- What functions return, by the definitions.
use Rattle.std.specs.Prelude.{◌≡◌, Result, Ok, Err}
use Rattle.elf_form.specs.declared.cause.ElfFault.TheVariants as elf
use Rattle.image_check.specs.declared.fault.CheckFault.{CheckFault}
use Rattle.image_check.specs.declared.fault.CheckFault.TheVariants as faults
use Rattle.image_check.specs.Refusals.{Refusal, Form, Wrong}

-- What a function returned, seen by view, is what the definition gives, unless memory ran out.
abbrev pub Refuses : CheckFault → Refusal → Type 0
Refuses (faults.Elf (elf.At at cause)) refusal = refusal ≡ Form (record { at = at; cause = cause })
Refuses (faults.Elf elf.Memory) refusal = ⊥
Refuses (faults.At at cause) refusal = refusal ≡ Wrong at cause
Refuses faults.Memory refusal = ⊥

abbrev pub Fails : {Y : Type 0} → CheckFault → Result Y Refusal → Type 0
Fails (faults.Elf (elf.At at cause)) wanted = wanted ≡ Err (Form (record { at = at; cause = cause }))
Fails (faults.Elf elf.Memory) wanted = ⊥
Fails (faults.At at cause) wanted = wanted ≡ Err (Wrong at cause)
Fails faults.Memory wanted = Unit {0}

abbrev pub Gives : {X Y : Type 0} → (X → Y) → Result X CheckFault → Result Y Refusal → Type 0
Gives view (Ok x) wanted = wanted ≡ Ok (view x)
Gives view (Err e) wanted = Fails e wanted
