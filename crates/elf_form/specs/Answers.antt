-- What functions return, by the definitions.
use Rattle.std.specs.Prelude.{◌≡◌, Result, Ok, Err}
use Rattle.elf_form.specs.declared.cause.ElfFault.{ElfFault}
use Rattle.elf_form.specs.declared.cause.ElfFault.TheVariants as faults
use Rattle.elf_form.specs.Faults.{Fault}

-- What a function returned, seen by view, is what reading gives, unless memory ran out.
abbrev pub Fails : {Y : Type 0} → ElfFault → Result Y Fault → Type 0
Fails faults.Memory read = Unit {0}
Fails (faults.At at cause) read = read ≡ Err (record { at = at; cause = cause })

abbrev pub Gives : {X Y : Type 0} → (X → Y) → Result X ElfFault → Result Y Fault → Type 0
Gives view (Ok x) read = read ≡ Ok (view x)
Gives view (Err e) read = Fails e read
