-- The two controllers of the board, master and slave (Intel 8259A data sheet: cascade mode).
use Rattle.std.specs.Prelude.{ℕ, ◌+◌, ◌-◌, Bool, true, false, not, ◌==◌, ◌||◌, nat_lt, Option, Some, None, is_some, if◌then◌else◌}
use Rattle.std.specs.Option.{option_map}
use Rattle.ia32_types.specs.Bits.{bit}
use Rattle.ia32_types.specs.declared.stop.Did.{Did}
use Rattle.ia32_types.specs.declared.stop.Did.TheVariants.{Done, Stop}
use Rattle.pic8259.specs.declared.chip.Chip.{Chip}
use Rattle.pic8259.specs.declared.pair.Pair.{Pair}
use Rattle.pic8259.specs.Chips.{even_written, odd_written, even_read_of, with_request, highest_request, after_raised}

-- profile: the master's IR2 is set exactly while the slave has something to raise
unfoldable pub joined : Chip → Chip → Pair
joined master slave = record { master = with_request master 2 (is_some (highest_request slave)); slave = slave }

-- the master's IR2 stands for the slave
abbrev pub stands_for_slave : Pair → Bool
stands_for_slave pair =
    if bit pair.master.interrupt_request 2 then is_some (highest_request pair.slave) else not (is_some (highest_request pair.slave))

abbrev pub is_port : ℕ → Bool
is_port port = port == 0x20 || port == 0x21 || port == 0xA0 || port == 0xA1

-- a byte that isn't served changes nothing
abbrev pub of_master : Pair → Option Chip → Did × Pair
of_master pair None = (Stop, pair)
of_master pair (Some chip) = (Done, joined chip pair.slave)

abbrev pub of_slave : Pair → Option Chip → Did × Pair
of_slave pair None = (Stop, pair)
of_slave pair (Some chip) = (Done, joined pair.master chip)

-- ICW3: the master has the slave at line 2, and the slave is at line 2
abbrev pub master_cascade : ℕ
master_cascade = 4

abbrev pub slave_cascade : ℕ
slave_cascade = 2

-- a write to a port: one that isn't the controllers' is ignored
unfoldable pub written : Pair → ℕ → ℕ → Did × Pair
written pair port v =
    if port == 0x20 then of_master pair (even_written pair.master v)
    else if port == 0x21 then of_master pair (odd_written pair.master master_cascade v)
    else if port == 0xA0 then of_slave pair (even_written pair.slave v)
    else if port == 0xA1 then of_slave pair (odd_written pair.slave slave_cascade v)
    else (Done, pair)

-- a read of a port: one that isn't the controllers' reads all ones
unfoldable pub read_at : Pair → ℕ → ℕ
read_at pair port =
    if port == 0x20 then even_read_of pair.master.selected pair.master
    else if port == 0x21 then pair.master.interrupt_mask
    else if port == 0xA0 then even_read_of pair.slave.selected pair.slave
    else if port == 0xA1 then pair.slave.interrupt_mask
    else 0xFF

-- a rising edge at a line: those from 8 on are the slave's
unfoldable pub with_edge : Pair → ℕ → Pair
with_edge pair line =
    if nat_lt line 8 then joined (with_request pair.master line true) pair.slave
    else joined pair.master (with_request pair.slave (line - 8) true)

-- what the master's level means: level 2 stands for the slave's
abbrev pub vector_at : Pair → Option ℕ → Option ℕ
vector_at pair None = None
vector_at pair (Some level) =
    if level == 2 then option_map (λ l. pair.slave.base + l) (highest_request pair.slave) else Some (pair.master.base + level)

-- the vector that would be delivered
unfoldable pub vector : Pair → Option ℕ
vector pair = vector_at pair (highest_request pair.master)

-- the master's level stands for the slave's
abbrev pub is_cascade : Option ℕ → Bool
is_cascade None = false
is_cascade (Some level) = level == 2

-- after an acknowledgement: the request has moved into service, in both chips for a slave's line
unfoldable pub acknowledged : Pair → Pair
acknowledged pair =
    joined (after_raised pair.master (highest_request pair.master))
    (if is_cascade (highest_request pair.master) then after_raised pair.slave (highest_request pair.slave) else pair.slave)
