-- What a line says of an exception, of an interrupt, and of a stop: the handler that was entered, where EIP is after the step, and the
-- access at which the step stops.
use Rattle.std.specs.Prelude.{ℕ, ◌%◌, ◌==◌, List, [], ◌++◌, codes, Option, Some, None, if◌then◌else◌}
use Rattle.descriptors.specs.declared.cpu.Cpu.{Cpu}
use Rattle.run_trace.specs.Text.{hex2, hex4, hex8}
use Rattle.step_text.specs.declared.activity.Activity.{Activity}
use Rattle.step_text.specs.declared.activity.Activity.TheVariants as activity
use Rattle.step_text.specs.declared.raised.Raised.{Raised}

-- Exceptions by their names (SDM volume 3, table 6-1): those that an instruction raises here. Another is printed as its number.
unfoldable pub vector_name : ℕ → List ℕ
vector_name n =
    if n == 0 then codes "DE" else if n == 6 then codes "UD" else if n == 11 then codes "NP" else if n == 12 then codes "SS"
    else if n == 13 then codes "GP" else if n == 14 then codes "PF" else hex2 n

-- the lower half of an error code, which is all that one has
unfoldable pub code_text : Option ℕ → List ℕ
code_text None = []
code_text (Some code) = codes " " ++ hex4 (code % 65536)

-- of a page fault its linear address
unfoldable pub address_text : Option ℕ → List ℕ
address_text None = []
address_text (Some at) = codes " at " ++ hex8 at

abbrev pub handler_text : Cpu → List ℕ
handler_text after = codes " -> " ++ hex8 after.regs.eip

abbrev pub exception_text : Raised → List ℕ
exception_text r = codes "  #" ++ vector_name r.vector ++ code_text r.code ++ address_text r.at

unfoldable pub raised_text : Option Raised → Cpu → List ℕ
raised_text None after = []
raised_text (Some r) after = exception_text r ++ handler_text after

-- where no handler is entered, since the delivery stops
unfoldable pub undelivered_text : Option Raised → List ℕ
undelivered_text None = []
undelivered_text (Some r) = exception_text r

-- the linear address of the access at which a step stops
unfoldable pub access_text : Option ℕ → List ℕ
access_text None = []
access_text (Some at) = codes "  access " ++ hex8 at

unfoldable pub interrupt_text : Activity → Cpu → List ℕ
interrupt_text (activity.Takes vector) after = codes " " ++ handler_text after
interrupt_text _ after = []
