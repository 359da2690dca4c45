-- What is found before a step, and the lines by it.
use Rattle.std.specs.Prelude.{◌≡◌, ℕ, ◌≤◌, ◌<◌, ◌&&◌, nat_le, false, List, [], Option, IfSome, if◌then◌else◌}
use Rattle.ia32_types.specs.declared.flags.Regs.{Regs}
use Rattle.descriptors.specs.declared.cpu.Cpu.{Cpu}
use Rattle.linear_view.specs.View.{View}
use Rattle.linear_view.specs.Range.{places_of}
use Rattle.machine_step.specs.declared.worked.Raised.{Raised}
use Rattle.look_words.specs.Words.{Only}
use Rattle.step_text.specs.declared.activity.Activity.{Activity}
use Rattle.step_text.specs.Line.{went_line, stopping_line}
use Rattle.step_trace.specs.Doing.{range_of, written_range, start_of, bytes_by}
use Rattle.step_trace.specs.Stops.{address_of}
use Rattle.step_trace.specs.Wanted.{wants}
use Rattle.step_trace.specs.Lines.{exception_of}
use Rattle.step_trace.specs.declared.printed.Before.{Before}

-- Of step k, in which this processor does this: what was found is what the definitions say of memory and of the processor.
pub record IsFound (v : View) (k : ℕ) (c : Cpu) (a : Activity) (before : Before) : Type 0 where
  pub step : before.step ≡ k
  pub cpu : before.cpu ≡ c
  pub does : before.does ≡ a
  pub range : before.range ≡ range_of a c.regs
  pub places : IfSome before.range (λ range. before.places ≡ places_of v c range.at range.len)

-- the range is short, and the frames are those of a memory of so many
pub record IsWithin (frames : ℕ) (before : Before) : Type 0 where
  pub few : IfSome before.range (λ range. range.len ≤ 32)
  pub first : IfSome before.places.first (λ entry. entry.frame < frames)
  pub second : IfSome before.places.second (λ entry. entry.frame < frames)

-- the line of such a step isn't printed, whatever it raises
abbrev pub Unprinted : Only → ℕ → ℕ → Activity → Regs → Type 0
Unprinted only from step does regs =
    (raised : Option Raised) → (nat_le from step && wants only does regs.eip (written_range (range_of does regs) raised)) ≡ false

abbrev pub line_by : Before → Option Raised → Cpu → List ℕ → ℕ → Only → List ℕ
line_by b raised after ram from only =
    let written = written_range b.range raised in
    if nat_le from b.step && wants only b.does b.cpu.regs.eip written
    then went_line b.step b.does b.cpu after (exception_of raised) (start_of written) (bytes_by ram b.places written)
    else []

abbrev pub stop_by : ℕ → Activity → Cpu → Option Raised → Option ℕ → ℕ → List ℕ
stop_by step does cpu raised page from =
    if nat_le from step then stopping_line step does cpu (exception_of raised) (address_of does cpu.regs raised page) else []
