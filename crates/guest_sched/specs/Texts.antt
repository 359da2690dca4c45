-- What the text of a schedule says.
use Rattle.std.specs.Prelude.{ℕ, ◌+◌, Bool, false, ◌&&◌, nat_lt, nat_le, List, [], ◌∷◌, length, Option, Some, None, Result, Ok, Err, if◌then◌else◌}
use Rattle.std.specs.List.{list_all}
use Rattle.std.specs.Char.{is_ascii_digit}
use Rattle.text_lines.specs.Cuts.{cut_at, is_skipped}
use Rattle.text_lines.specs.Numbers.{number_said}
use Rattle.text_lines.specs.Lines.{Rule, text_read}
use Rattle.guest_sched.specs.declared.schedule.Slice.{Slice}
use Rattle.guest_sched.specs.declared.fault.ScheduleCause.{ScheduleCause}
use Rattle.guest_sched.specs.declared.fault.ScheduleCause.TheVariants.{NoForm, BadNumber, TooMany}
use Rattle.guest_sched.specs.Bounds.{max_steps, max_slices, bound_of}

-- words

-- digits, and at least one
abbrev pub is_digits : List ℕ → Bool
is_digits [] = false
is_digits (b ∷ rest) = list_all is_ascii_digit (b ∷ rest)

-- lines

-- one of so many kernels, and a number of steps
abbrev pub slice_with : ℕ → Option ℕ → Option ℕ → Result Slice ScheduleCause
slice_with kernels None steps = Err BadNumber
slice_with kernels (Some kernel) None = Err BadNumber
slice_with kernels (Some kernel) (Some steps) =
    if nat_lt kernel kernels then Ok (record { kernel = kernel; steps = steps }) else Err BadNumber

-- the two words of a line
unfoldable pub slice_of : ℕ → List ℕ → List ℕ → Result Slice ScheduleCause
slice_of kernels kernel steps =
    if is_digits kernel && is_digits steps then slice_with kernels (number_said 0 255 kernel) (number_said 1 max_steps steps)
    else Err NoForm

unfoldable pub slice_in : ℕ → List (List ℕ) → Result Slice ScheduleCause
slice_in kernels [] = Err NoForm
slice_in kernels (a ∷ []) = Err NoForm
slice_in kernels (a ∷ b ∷ []) = slice_of kernels a b
slice_in kernels (a ∷ b ∷ c ∷ rest) = Err NoForm

abbrev pub some_slice : Result Slice ScheduleCause → Result (Option Slice) ScheduleCause
some_slice (Ok slice) = Ok (Some slice)
some_slice (Err cause) = Err cause

-- what a line says by itself, for so many kernels
unfoldable pub slice_of_line : ℕ → List ℕ → Result (Option Slice) ScheduleCause
slice_of_line kernels line =
    if is_skipped line then Ok None else some_slice (slice_in kernels (cut_at 32 line))

-- texts

-- why a slice isn't taken after these: its kernel's steps together are too many, or the slices are
abbrev pub objection : List Slice → Slice → Option ScheduleCause
objection before slice =
    if nat_lt max_steps (bound_of slice.kernel before + slice.steps) then Some BadNumber
    else if nat_le max_slices (length before) then Some TooMany
    else None

abbrev pub schedule_rule : ℕ → Rule Slice ScheduleCause
schedule_rule kernels = record { says = slice_of_line kernels; objection = objection }

-- the slices that a text says, or its first bad line with the cause
abbrev pub schedule_of : ℕ → List ℕ → Result (List Slice) (ℕ × ScheduleCause)
schedule_of kernels text = text_read (schedule_rule kernels) text
