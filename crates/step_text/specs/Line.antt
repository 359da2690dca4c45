-- The line of a step.
use Rattle.std.specs.Prelude.{ℕ, ◌==◌, List, [], ◌++◌, drop, length, codes, Option, if◌then◌else◌}
use Rattle.descriptors.specs.declared.cpu.Cpu.{Cpu}
use Rattle.step_text.specs.declared.activity.Activity.{Activity}
use Rattle.step_text.specs.declared.raised.Raised.{Raised}
use Rattle.step_text.specs.Began.{began_text}
use Rattle.step_text.specs.Changed.{processor_changes}
use Rattle.step_text.specs.Raised.{raised_text, undelivered_text, access_text, interrupt_text}
use Rattle.step_text.specs.Stored.{stored_text}

-- The entries of what a step did, each after two blanks: the exception or the handler, the registers that changed, and the
-- bytes at an address.
unfoldable pub entries : Activity → Cpu → Cpu → Option Raised → ℕ → List ℕ → List ℕ
entries does old new raised at bytes =
    raised_text raised new ++ interrupt_text does new ++ processor_changes old new ++ stored_text at bytes

-- They stand after a bar, of which the first has one blank before it. Where there are none there is no bar.
abbrev pub after_bar : List ℕ → List ℕ
after_bar entries = if length entries == 0 then [] else (codes " |" ++ drop 1 entries)

-- a step that went, from a processor to another
unfoldable pub went_line : ℕ → Activity → Cpu → Cpu → Option Raised → ℕ → List ℕ → List ℕ
went_line step does old new raised at bytes = began_text step old does ++ after_bar (entries does old new raised at bytes) ++ codes "\n"

-- a step that stops, with what its instruction raised, and the access at which it stops
unfoldable pub stopping_line : ℕ → Activity → Cpu → Option Raised → Option ℕ → List ℕ
stopping_line step does old raised at = began_text step old does ++ after_bar (undelivered_text raised ++ access_text at) ++ codes "\n"
