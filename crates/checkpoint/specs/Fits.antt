-- Whether a checkpoint can be gone on from: with an image, by a machine, to a count of steps.
use Rattle.std.specs.Prelude.{ℕ, ◌+◌, Bool, ◌&&◌, not, ◌==◌, nat_lt, List, [], ◌∷◌, length, Option, Some, None, Result, Ok, Err, if◌then◌else◌}
use Rattle.guest_ram.specs.Bytes.{byte}
use Rattle.ia32_types.specs.declared.addresses.TheConstants.{TEXT_PLACE}
use Rattle.image_check.specs.Image.{Image}
use Rattle.machine_model.specs.Rules.{is_open}
use Rattle.checkpoint.specs.declared.head.TheConstants.{STEP_PLACE, EFLAGS_PLACE}
use Rattle.checkpoint.specs.declared.state.State.{State}
use Rattle.checkpoint.specs.declared.state.CheckpointCause.{CheckpointCause}
use Rattle.checkpoint.specs.declared.state.CheckpointCause.TheVariants.{TextChanged, UserFlags, StepsPast}

-- the memory has this byte at an offset of the text's place, which no byte past its end is
abbrev pub has_at : List ℕ → ℕ → ℕ → Bool
has_at ram k b = nat_lt (TEXT_PLACE + k) (length ram) && byte ram (TEXT_PLACE + k) == b

-- the first offset, from k on, at which a text doesn't stand in the memory
unfoldable pub first_change : List ℕ → ℕ → List ℕ → Option ℕ
first_change ram k [] = None
first_change ram k (b ∷ text) = if has_at ram k b then first_change ram (k + 1) text else Some k

-- a monitor lets no user run with interrupts off or with another IOPL than 0
abbrev pub has_user_flags : State → Bool
has_user_flags s = s.cpu.cpl == 3 && not (is_open s.cpu)

abbrev pub unless_changed : Option ℕ → Result Unit (ℕ × CheckpointCause) → Result Unit (ℕ × CheckpointCause)
unless_changed None rest = rest
unless_changed (Some at) rest = Err (at, TextChanged)

-- the place in the text, or that of EFLAGS or of the count of steps in the file
unfoldable pub fits_of : State → Image → Bool → ℕ → Result Unit (ℕ × CheckpointCause)
fits_of s image wedge n =
    unless_changed (first_change s.ram 0 image.text)
    (if wedge && has_user_flags s then Err (EFLAGS_PLACE, UserFlags) else if nat_lt n s.step then Err (STEP_PLACE, StepsPast) else Ok tt)
