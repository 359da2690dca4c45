-- The course of a run of the bare machine before each step of which choices change the set of translations.
use Rattle.std.specs.Prelude.{ℕ, zero, suc, ◌+◌, ◌^◌, ◌==◌, ◌&&◌, nat_lt, if◌then◌else◌, List, [], ◌∷◌, Option, Some, None, Result, Ok, Err}
use Rattle.std.specs.Option.{option_map}
use Rattle.std.specs.FinMap.{empty, insert, remove}
use Rattle.guest_ram.specs.Bytes.{word32}
use Rattle.descriptors.specs.Controls.{pse_of}
use Rattle.paging.specs.declared.entry.Entry.{Entry}
use Rattle.paging.specs.declared.entry.Walk.{Walk}
use Rattle.paging.specs.declared.entry.Walk.TheVariants.{Absent, Beyond, Reserved, Found}
use Rattle.paging.specs.Fresh.{fresh, has}
use Rattle.board.specs.Scripts.{Events}
use Rattle.image_check.specs.Image.{Image}
use Rattle.run_trace.specs.declared.items.End.TheVariants.{Bound, Stopped}
use Rattle.machine_model.specs.State.{Setting, State, boot}
use Rattle.machine_model.specs.Step as steps
use Rattle.machine_model.specs.Step.{Report, Went, Halts, step_of}
use Rattle.machine_model.specs.Run.{Set}
use Rattle.bare_machine.specs.Settings.{bare}
use Rattle.trace_check.specs.declared.list.Choice.{Choice}
use Rattle.trace_check.specs.declared.list.ChoiceKind.{ChoiceKind}
use Rattle.trace_check.specs.declared.list.ChoiceKind.TheVariants.{Drop, Empty, Add}
use Rattle.trace_check.specs.declared.answer.CourseEnd.{CourseEnd}
use Rattle.trace_check.specs.declared.answer.CourseEnd.TheVariants.{Ended, BadAt}

-- what a walk finds, where the accessed flag is set in both words
abbrev pub usable : List ℕ → Walk → Option Entry
usable ram Absent = None
usable ram Beyond = None
usable ram Reserved = None
usable ram (Found entry dir_at word_at) = if has (word32 ram dir_at) 0x20 && has (word32 ram word_at) 0x20 then Some entry else None

-- the translation of a page of the address space that may be added before a step from this state
abbrev pub addable : Setting → State → ℕ → Option Entry
addable s b page = if nat_lt page (2 ^ 20) then usable b.ram (fresh b.ram s.frames b.cpu.cr3 (pse_of b.cpu) page) else None

-- the set with one choice made, which is none where an added page isn't found so
abbrev pub made : Setting → State → ChoiceKind → ℕ → Set → Option Set
made s b Drop page set = Some (remove set page)
made s b Empty page set = Some empty
made s b Add page set = option_map (λ entry. insert set page entry) (addable s b page)

-- the next choices are made after one that was made, or this place is answered
abbrev pub after_made : ℕ → Option Set → (Set → Result Set ℕ) → Result Set ℕ
after_made at None later = Err at
after_made at (Some set) later = later set

-- The set with the choices of the next step made, in their order, or the place of the first that can't be made. The
-- first choice of the list has this place.
unfoldable pub chosen : Setting → State → ℕ → List Choice → Set → Result Set ℕ
chosen s b at [] set = Ok set
chosen s b at (c ∷ rest) set =
    if c.step == b.step then after_made at (made s b c.kind c.page set) (λ new. chosen s b (at + 1) rest new)
    else chosen s b (at + 1) rest set

-- what a run reports, the count of steps at its end, and how it ends
pub record Course : Type 0 where
  pub reports : List Report
  pub count : ℕ
  pub end : CourseEnd

-- a step, and what comes after it
abbrev pub after_step : ℕ → steps.Result → (State → Course) → Course
after_step step (Went report new) later =
    record { reports = report ∷ (later new).reports; count = (later new).count; end = (later new).end }
after_step step (Halts stop) later = record { reports = []; count = step; end = Ended (Stopped stop) }

-- the choices of a step, and then the step
abbrev pub after_choices : Setting → State → Result Set ℕ → (State → Course) → Course
after_choices s b (Err at) later = record { reports = []; count = b.step; end = BadAt at }
after_choices s b (Ok set) later = after_step b.step (step_of s b set) later

-- at most so many steps
unfoldable pub course : Setting → List Choice → ℕ → State → Course
course s list zero b = record { reports = []; count = b.step; end = Ended Bound }
course s list (suc k) b = after_choices s b (chosen s b 0 list b.set) (λ mid. course s list k mid)

-- the image's course of at most n steps from its start
abbrev pub course_of : Image → Events → ℕ → ℕ → List Choice → Course
course_of image script frames n list = course (bare image script frames) list n (boot (bare image script frames))
