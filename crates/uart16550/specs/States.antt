-- A serial port as what it was set to and the bytes that wait.
use Rattle.std.specs.Prelude.{ℕ, Bool, ◌&&◌, nat_lt, nat_le, List, length}
use Rattle.uart16550.specs.declared.settings.Settings.{Settings}
use Rattle.uart16550.specs.Registers.{Registers, room}

abbrev pub settings_of : Registers → Settings
settings_of r = record {
  interrupt_enable = r.interrupt_enable;
  line_control = r.line_control;
  modem_control = r.modem_control;
  scratch = r.scratch;
  divisor_latch_low = r.divisor_latch_low;
  divisor_latch_high = r.divisor_latch_high;
}

abbrev pub registers_of : Settings → List ℕ → Registers
registers_of s kept = record {
  interrupt_enable = s.interrupt_enable;
  line_control = s.line_control;
  modem_control = s.modem_control;
  scratch = s.scratch;
  divisor_latch_low = s.divisor_latch_low;
  divisor_latch_high = s.divisor_latch_high;
  kept = kept;
}

-- the port keeps bits 0 to 3 of the modem control register, and has room for 16 bytes
abbrev pub port_fits : ℕ → List ℕ → Bool
port_fits modem_control kept = nat_lt modem_control 16 && nat_le (length kept) room
