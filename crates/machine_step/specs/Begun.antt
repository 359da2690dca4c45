-- The parts of a step: what it begins with, its instruction's effect, and an instruction's ranges.
use Rattle.std.specs.Prelude.{ℕ, Bool, Option, Some, None, Ok, Err}
use Rattle.descriptors.specs.Controls.{pse_of, wp_of}
use Rattle.descriptors.specs.declared.cpu.Cpu.{Cpu}
use Rattle.paging.specs.Space.{Space}
use Rattle.paging.specs.Work.{Outcome}
use Rattle.board.specs.declared.devices.Board.{Board}
use Rattle.board.specs.Boards.{acknowledged}
use Rattle.step_mem.specs.declared.walking.Control.{Control}
use Rattle.sys_exec.specs.declared.effect.Refusal.{Refusal}
use Rattle.sys_exec.specs.declared.effect.SysEffect.{SysEffect}
use Rattle.sys_exec.specs.declared.effect.SysEffect.TheVariants as effects
use Rattle.sys_exec.specs.Sys.{told_refusal}
use Rattle.machine_model.specs.State.{Setting, State}
use Rattle.machine_model.specs.Step as steps
use Rattle.machine_model.specs.UsedPages.{Uses}

-- by what this processor's walks go, over so many frames
abbrev pub control_of : ℕ → Cpu → Control
control_of frames cpu = record { frames = frames; cr3 = cpu.cr3; pse = pse_of cpu; wp = wp_of cpu }

-- the board after an interrupt that is taken, or as it was where none is
abbrev pub taken_by : Option ℕ → Board → Board
taken_by None board = board
taken_by (Some vector) board = acknowledged board

-- the accesses of an instruction that doesn't stop leave memory that goes on
abbrev pub AtEffect : Bool → Space → SysEffect → Space → Type 0
AtEffect user s (effects.Stop stop) t = Unit {0}
AtEffect user s _ t = Uses user s t

-- both ranges are translated and the step goes on, or the instruction raises or stops
abbrev pub after_reach : Setting → State → steps.Completed → Outcome Refusal (Unit {0}) → (Space → steps.Result) → steps.Result
after_reach m b completed (Ok done) go = go done.1
after_reach m b completed (Err refused) go = steps.effect_on m b completed (told_refusal b.cpu refused.0 refused.1)
