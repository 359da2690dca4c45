-- A step that follows the rules alone.
use Rattle.std.proofs.Common.{◌≡◌, ℕ, ◌+◌, List, refl, sym, ap, ◌∙◌}
use Rattle.board.specs.declared.devices.Board.{Board}
use Rattle.board.specs.Boards.{board_step}
use Rattle.paging.specs.Space.{Mode, Space}
use Rattle.machine_step.specs.declared.worked.Worked.{Worked}
use Rattle.machine_step.specs.Worked.{whats, completed_by, dropping, went_as}
use Rattle.machine_model.specs.State.{Setting, State, space_at_start}
use Rattle.machine_model.specs.Step.{Report, Went, stepped, items_at, by_interrupt, interrupt_of, unheld}
use Rattle.machine_model.specs.Run.{Set}
use Rattle.wedge_step.specs.Parts.{IsLeft}
use Rattle.wedge_step.specs.declared.running.Lost.{Lost}
use Rattle.wedge_step.specs.Alone.{Alone}

pub alone_from : (m : Setting) (b : State) (lost : Lost) (w : Worked) (board : Board) (s : Space) (new : State)
    → stepped m b ≡ went_as b w board s → new.cpu ≡ w.cpu → new.ram ≡ s.ram → new.board ≡ board_step board → new.step ≡ b.step + 1
    → IsLeft m new (dropping w.dropped s.set) lost → Alone m b lost w.seen new
alone_from m b lost w board s new e cpu ram boards step left =
    let whole : Set = dropping w.dropped s.set in
    let report : Report = record {
      items = items_at b.step (whats w.seen);
      completed = completed_by w.completed;
      pages = s.visited;
      tables = s.tables;
      wrote = s.wrote;
    } in
    record {
      report = report;
      whole = whole;
      went = e ∙ (λ i. Went report (record { cpu = sym cpu i; ram = sym ram i; set = whole; board = sym boards i; step = sym step i }));
      kept = left;
      items = refl;
    }

-- a step, from its memory before the first access
pub began : (m : Setting) (b : State) (mode : Mode) (s : Space) → m.mode ≡ mode → (laid : List ℕ) → laid ≡ b.ram
    → s ≡ space_at_start mode m.frames b.cpu laid b.set → by_interrupt m (interrupt_of b.cpu b.board) (unheld b) s ≡ stepped m b
began m b mode s mode_is laid laid_is e =
    ap (by_interrupt m (interrupt_of b.cpu b.board) (unheld b)) e
    ∙ (λ i. by_interrupt m (interrupt_of b.cpu b.board) (unheld b) (space_at_start (sym mode_is i) m.frames b.cpu (laid_is i) b.set))
