-- A halted processor that no edge of the timer wakes.
use Rattle.std.proofs.Common.{◌≡◌, Bool, true, false, None, subst, ap}
use Rattle.board.specs.declared.devices.Board.{Board}
use Rattle.descriptors.specs.declared.cpu.Cpu.{Cpu}
use Rattle.machine_model.specs.Resting.{IsResting}
use Rattle.machine_model.specs.Step.{interrupt_of}

-- it rests at this board
pub rests_at : (cpu : Cpu) (board : Board) → cpu.halted ≡ true → cpu.held ≡ false → interrupt_of cpu board ≡ None → IsResting cpu board
rests_at cpu board halted held none =
    let cpu_is : cpu ≡ record cpu { held = false } = ap (λ (h : Bool). record cpu { held = h }) held in
    record { halted = halted; none = subst (λ (c : Cpu). interrupt_of c board ≡ None) cpu_is none }
