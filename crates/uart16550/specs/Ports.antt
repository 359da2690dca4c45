-- The registers of a 16550, one rule for each that is written or read (National PC16550D, section 8), as the profile
-- narrows it: no FIFO enable, no sign of a lost byte, no interrupt but that of a received byte.
use Rattle.std.specs.Prelude.{ℕ, ◌%◌, Bool, false, ◌&&◌, not, ◌==◌, nat_lt, nat_le, [], ◌∷◌, ◌++◌, length, slice_index, drop, if◌then◌else◌}
use Rattle.ia32_types.specs.Bits.{bit}
use Rattle.ia32_types.specs.declared.stop.Did.{Did}
use Rattle.ia32_types.specs.declared.stop.Did.TheVariants.{Done, Sent, Stop}
use Rattle.uart16550.specs.Registers.{Registers, room}

-- all registers start at 0
abbrev pub at_reset : Registers
at_reset = record {
  interrupt_enable = false;
  line_control = 0;
  modem_control = 0;
  scratch = 0;
  divisor_latch_low = 0;
  divisor_latch_high = 0;
  kept = [];
}

-- the divisor latch access bit, bit 7 of the line control register: offsets 0 and 1 are the divisor latch
abbrev pub divisor_latch_access : Registers → Bool
divisor_latch_access r = bit r.line_control 7

-- a received byte waits
abbrev pub waits : Registers → Bool
waits r = nat_lt 0 (length r.kept)

-- the port requests an interrupt
abbrev pub interrupt_line : Registers → Bool
interrupt_line r = r.interrupt_enable && waits r

abbrev pub is_port : ℕ → Bool
is_port port = nat_le 0x3F8 port && nat_le port 0x3FF

-- writes, by register

-- offset 0: the transmitter holding register, or the divisor latch's low byte
abbrev pub data_written : Registers → ℕ → Did × Registers
data_written r v = if divisor_latch_access r then (Done, record r { divisor_latch_low = v }) else (Sent v, r)

-- offset 1: the interrupt enable register, of which the profile serves bit 0, or the divisor latch's high byte
abbrev pub interrupt_enable_written : Registers → ℕ → Did × Registers
interrupt_enable_written r v =
    if divisor_latch_access r then (Done, record r { divisor_latch_high = v })
    else if nat_le v 1 then (Done, record r { interrupt_enable = v == 1 })
    else (Stop, r)

-- offset 2: the FIFO control register, of which bit 1 empties the receiver
abbrev pub fifo_control_written : Registers → ℕ → Did × Registers
fifo_control_written r v = if bit v 1 then (Done, record r { kept = [] }) else (Done, r)

-- offset 4: the modem control register, without loopback (bit 4)
abbrev pub modem_control_written : Registers → ℕ → Did × Registers
modem_control_written r v = if bit v 4 then (Stop, r) else (Done, record r { modem_control = v % 16 })

-- offsets 3 and 7, the line control register and the scratch register, keep what is written, and offsets 5 and 6 ignore
-- it, as a port that isn't this one's does
unfoldable pub written : Registers → ℕ → ℕ → Did × Registers
written r port v =
    if port == 0x3F8 then data_written r v
    else if port == 0x3F9 then interrupt_enable_written r v
    else if port == 0x3FA then fifo_control_written r v
    else if port == 0x3FB then (Done, record r { line_control = v })
    else if port == 0x3FC then modem_control_written r v
    else if port == 0x3FF then (Done, record r { scratch = v })
    else (Done, r)

-- Reads, by register. Offset 0, the receiver buffer register: the oldest byte, or 0 where there is none. Offset 2, the
-- interrupt identification register: 4 says that received data is there, and 1 that nothing requests an interrupt.
-- Offset 5, the line status register: the transmitter is always empty. Offset 6, the modem status register: carrier
-- detect, data set ready and clear to send are always there. A port that isn't this one's reads all ones
unfoldable pub read_at : Registers → ℕ → ℕ
read_at r port =
    if port == 0x3F8 then (if divisor_latch_access r then r.divisor_latch_low else slice_index r.kept 0)
    else if port == 0x3F9 then (if divisor_latch_access r then r.divisor_latch_high else (if r.interrupt_enable then 1 else 0))
    else if port == 0x3FA then (if interrupt_line r then 4 else 1)
    else if port == 0x3FB then r.line_control
    else if port == 0x3FC then r.modem_control
    else if port == 0x3FD then (if waits r then 0x61 else 0x60)
    else if port == 0x3FE then 0xB0
    else if port == 0x3FF then r.scratch
    else 0xFF

-- a read of the data takes the oldest byte
unfoldable pub after_read : Registers → ℕ → Registers
after_read r port = if port == 0x3F8 && not (divisor_latch_access r) then record r { kept = drop 1 r.kept } else r

-- a byte that comes is kept where there is room, and else lost
unfoldable pub received : Registers → ℕ → Registers
received r v = if nat_lt (length r.kept) room then record r { kept = r.kept ++ v ∷ [] } else r
