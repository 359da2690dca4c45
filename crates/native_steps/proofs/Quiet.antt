-- Steps of the board in which nothing comes.
use Rattle.std.proofs.Common.{◌≡◌, ℕ, zero, suc, ◌+◌, ◌≤◌, Bool, Option, None, ap, ◌∙◌, arith}
use Rattle.std.specs.Prelude.{◌&&◌, not, if◌then◌else◌}
use Rattle.board.specs.declared.devices.Board.{Board}
use Rattle.board.specs.Boards.{given, board_step, vector}
use Rattle.board.specs.Quiet.{board_steps, comes_within, StepsAreQuiet}
use Rattle.descriptors.specs.declared.cpu.Cpu.{Cpu}
use Rattle.paging.specs.Fresh.{has}
use Rattle.machine_model.specs.State.{Setting, State}
use Rattle.machine_model.specs.Step.{interrupt_of}
use Rattle.native_steps.specs.Stretch.{board_now, AreQuiet, board_after}

-- a processor with the same IF and hold takes no interrupt then
interrupt_same : (cpu after : Cpu) (board : Board) → vector (board_step board) ≡ vector board
    → has after.regs.flags.bits 512 ≡ has cpu.regs.flags.bits 512 → after.held ≡ cpu.held
    → interrupt_of after (board_step board) ≡ interrupt_of cpu board
interrupt_same cpu after board h flag held =
    ap (λ (v : Option ℕ). if has after.regs.flags.bits 512 && not after.held then v else None) h
    ∙ ap (λ (x : Bool). if x && not after.held then vector board else None) flag
    ∙ ap (λ (x : Bool). if has cpu.regs.flags.bits 512 && not x then vector board else None) held

-- a state one step later
pub record IsLater (m : Setting) (b after : State) : Type 0 where
  pub board : after.board ≡ board_step (board_now m b)
  pub count : after.step ≡ b.step + 1
  pub flag : has after.cpu.regs.flags.bits 512 ≡ has b.cpu.regs.flags.bits 512
  pub held : after.cpu.held ≡ b.cpu.held

module _ (quiet : StepsAreQuiet) (m : Setting) (b after : State) (h : IsLater m b after) where
  now_same : (k : ℕ) → AreQuiet m b (suc (suc k)) → board_now m after ≡ board_step (board_now m b)
  now_same k q =
      let r = quiet (board_now m b) m.script b.step k q.1 in
      ap (λ (x : Board). given x m.script after.step) h.board ∙ ap (given (board_step (board_now m b)) m.script) h.count
      ∙ r.no_event (board_step (board_now m b))

  -- the steps after it are quiet too
  pub quiet_on : (k : ℕ) → AreQuiet m b (suc k) → AreQuiet m after k
  quiet_on zero q = tt
  quiet_on (suc k) q =
      let r = quiet (board_now m b) m.script b.step k q.1 in
      let now = now_same k q in (
        ap (interrupt_of after.cpu) now ∙ interrupt_same b.cpu after.cpu (board_now m b) r.same_vector h.flag h.held ∙ q.0,
        ap (λ (x : Board). comes_within x m.script after.step k) now
            ∙ ap (λ t. comes_within (board_step (board_now m b)) m.script t k) h.count ∙ r.later,
      )

  -- and the board after them is that of one step more
  pub board_on : (k n : ℕ) → n ≤ k → AreQuiet m b (suc k) → board_after m after n ≡ board_after m b (suc n)
  unfolding board_steps
  board_on k zero le q = h.board
  board_on zero (suc n) le q = absurd (omega (arith, le))
  board_on (suc k) (suc n) le q = ap (board_steps (suc n)) (now_same k q)
