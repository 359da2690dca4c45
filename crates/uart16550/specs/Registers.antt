-- What a serial port has at any time.
use Rattle.std.specs.Prelude.{ℕ, Bool, List}

-- whether a byte that waits raises the line (bit 0 of the interrupt enable register), the line control, modem control and
-- scratch registers, the divisor latch, and the bytes that were received and wait, oldest first
pub record Registers : Type 0 where
  pub interrupt_enable : Bool
  pub line_control : ℕ
  pub modem_control : ℕ
  pub scratch : ℕ
  pub divisor_latch_low : ℕ
  pub divisor_latch_high : ℕ
  pub kept : List ℕ

-- room of the receiver, in bytes
abbrev pub room : ℕ
room = 16
