-- The registers of one 8259A, one rule for each byte that is written or read (Intel 8259A data sheet: initialization
-- command words, operation command words, reading the status). Profile: edge-triggered, cascaded, fully nested, and a
-- byte of another form is not served.
use Rattle.std.specs.Prelude.{ℕ, ◌-◌, ◌%◌, Bool, true, false, ◌&&◌, ◌==◌, nat_lt, nat_le, Option, Some, None, if◌then◌else◌, bit_and}
use Rattle.std.specs.Int.{bit_not, w8}
use Rattle.ia32_types.specs.Bits.{with_bit}
use Rattle.pic8259.specs.declared.phase.Phase.{Phase}
use Rattle.pic8259.specs.declared.phase.Phase.TheVariants.{Never, AwaitsBase, AwaitsCascade, AwaitsMode, Ready}
use Rattle.pic8259.specs.declared.chip.Selected.{Selected}
use Rattle.pic8259.specs.declared.chip.Selected.TheVariants.{InterruptRequest, InService}
use Rattle.pic8259.specs.declared.chip.Chip.{Chip}
use Rattle.pic8259.specs.Levels.{highest, unblocked}

-- before its first start: nothing is requested, and every level is masked
abbrev pub unstarted : Chip
unstarted = record {
  phase = Never;
  once_ready = false;
  interrupt_request = 0;
  in_service = 0;
  interrupt_mask = 0xFF;
  base = 0;
  selected = InterruptRequest;
}

-- ICW1. Profile: it clears the in-service register too, and a chip that was ready goes on raising
abbrev pub started : Chip → Chip
started chip = record chip { phase = AwaitsBase; interrupt_request = 0; in_service = 0; interrupt_mask = 0; selected = InterruptRequest }

-- the end of an interrupt: of the highest level in service, if any, or of a level that is named
abbrev pub ended_at : Chip → Option ℕ → Chip
ended_at chip None = chip
ended_at chip (Some level) = record chip { in_service = with_bit chip.in_service level false }

-- a byte at the even port: ICW1, OCW2 or OCW3; None where the board doesn't serve it
unfoldable pub even_written : Chip → ℕ → Option Chip
even_written chip v =
    if v == 0x11 then Some (started chip)
    else if v == 0x20 then Some (ended_at chip (highest chip.in_service))
    else if nat_le 0x60 v && nat_lt v 0x68 then Some (ended_at chip (Some (v - 0x60)))
    else if v == 0x0A then Some (record chip { selected = InterruptRequest })
    else if v == 0x0B then Some (record chip { selected = InService })
    else None

-- a byte at the odd port: ICW2 to ICW4 after a start, and otherwise OCW1, the interrupt mask register. ICW3 is fixed by how the board
-- joins the controllers
abbrev pub odd_written_in : Phase → Chip → ℕ → ℕ → Option Chip
odd_written_in AwaitsBase chip cascade v = Some (record chip { phase = AwaitsCascade; base = v - v % 8 })
odd_written_in AwaitsCascade chip cascade v = if v == cascade then Some (record chip { phase = AwaitsMode }) else None
odd_written_in AwaitsMode chip cascade v = if v == 1 then Some (record chip { phase = Ready; once_ready = true }) else None
odd_written_in _ chip cascade v = Some (record chip { interrupt_mask = v })

unfoldable pub odd_written : Chip → ℕ → ℕ → Option Chip
odd_written chip cascade v = odd_written_in chip.phase chip cascade v

-- what the even port reads
abbrev pub even_read_of : Selected → Chip → ℕ
even_read_of InterruptRequest chip = chip.interrupt_request
even_read_of InService chip = chip.in_service

-- a level's request made or taken back. Profile: a request stays until it is acknowledged
unfoldable pub with_request : Chip → ℕ → Bool → Chip
with_request chip level on = record chip { interrupt_request = with_bit chip.interrupt_request level on }

-- the level that the chip raises: its highest request that isn't masked, unless it is blocked
unfoldable pub highest_request : Chip → Option ℕ
highest_request chip =
    if chip.once_ready then unblocked (highest (bit_and chip.interrupt_request (bit_not w8 chip.interrupt_mask))) (highest chip.in_service)
    else None

-- a request that is acknowledged moves into service
unfoldable pub served : Chip → ℕ → Chip
served chip level = record chip {
  interrupt_request = with_bit chip.interrupt_request level false;
  in_service = with_bit chip.in_service level true;
}

-- the chip after its raised level was acknowledged
abbrev pub after_raised : Chip → Option ℕ → Chip
after_raised chip None = chip
after_raised chip (Some level) = served chip level
