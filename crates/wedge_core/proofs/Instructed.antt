-- A step whose instruction the host may do has an instruction, and so it clashes where the instruction does.
use Rattle.std.proofs.Common.{◌≡◌, ℕ, Bool, true, false, ◌==◌, ◌&&◌, ◌||◌, not, Option, Some, None, is_none, refl, sym, ap, subst, ◌∙◌}
use Rattle.std.specs.Prelude.{is_some}
use Rattle.std.proofs.lemmas.Bool.{and_parts}
use Rattle.descriptors.specs.declared.cpu.Cpu.{Cpu}
use Rattle.board.specs.Boards.{given}
use Rattle.board.specs.declared.devices.Board.{Board}
use Rattle.image_check.specs.Image.{Image}
use Rattle.image_check.specs.Standing.{place_at}
use Rattle.machine_model.specs.Clash.{clashes_from, has_instruction, instruction_clashes}
use Rattle.machine_model.specs.State.{Setting, State}
use Rattle.machine_model.specs.Step.{interrupt_of}
use Rattle.wedge_core.specs.Views.{is_outside, may_run}

awake : (halted : Bool) (o : Option ℕ) → not halted ≡ true → is_none o ≡ true → not (halted || is_some o) ≡ true
awake true o h k = absurd (let f : false ≡ true = h in cc)
awake false None h k = refl
awake false (Some vector) h k = absurd (let f : false ≡ true = k in cc)

runs : (cpu : Cpu) (board : Board) (image : Image) → may_run cpu board image ≡ true
    → not (cpu.halted || is_some (interrupt_of cpu board)) ≡ true
runs cpu board image may =
    let p = and_parts (not cpu.halted && is_none (interrupt_of cpu board)) (cpu.cpl == 3 || is_outside (place_at image cpu.regs.eip)) may in
    let q = and_parts (not cpu.halted) (is_none (interrupt_of cpu board)) p.0 in
    awake cpu.halted (interrupt_of cpu board) q.0 q.1

pub clashes_by : (m : Setting) (b : State) (cpu : Cpu) (board : Board) (image : Image) → b.cpu ≡ cpu → given b.board m.script b.step ≡ board
    → may_run cpu board image ≡ true → instruction_clashes m b ≡ true → clashes_from m b ≡ true
unfolding clashes_from
clashes_by m b cpu board image cpu_is board_is may clash =
    let has : has_instruction m b ≡ true =
    subst (λ (x : Cpu). not (x.halted || is_some (interrupt_of x (given b.board m.script b.step))) ≡ true) (sym cpu_is)
    (subst (λ (x : Board). not (cpu.halted || is_some (interrupt_of cpu x)) ≡ true) (sym board_is) (runs cpu board image may)) in
    ap (λ (x : Bool). x && instruction_clashes m b) has ∙ clash
