-- What a patched run promises: one run under the monitor's rules gives its text, its direct instructions and its memory.
use Rattle.std.specs.Prelude.{◌≡◌, ℕ, ◌*◌, ◌≤◌, List, ◌∷◌, ◌++◌, [], take}
use Rattle.std.specs.FinMap.{len}
use Rattle.std.specs.List.{All}
use Rattle.guest_ram.specs.Bytes.{with_part}
use Rattle.ia32_types.specs.declared.addresses.TheConstants.{TEXT_PLACE}
use Rattle.sites.specs.Patched.{patched}
use Rattle.image_check.specs.Image.{Image}
use Rattle.run_trace.specs.declared.items.End.{End}
use Rattle.run_trace.specs.declared.items.End.TheVariants.{Bound, Stopped}
use Rattle.run_trace.specs.Text.{text_of}
use Rattle.machine_model.specs.State.{Setting, State, Loosened, boot}
use Rattle.machine_model.specs.Step.{Report}
use Rattle.machine_model.specs.Run.{Set, Run, EndsIn, stopping, trace_of}
use Rattle.machine_model.specs.Taken.{steps_by}
use Rattle.machine_model.specs.Keeping.{Roomy, Kept, IsLeftBehind}
use Rattle.wedge_core.specs.Counts.{Counts, CountsOn}

-- the guest's memory as the host has it: with the patched text in the text's place
abbrev pub with_patches : Image → List ℕ → List ℕ
with_patches image ram = with_part ram TEXT_PLACE (patched image.text 0 image.sites)

abbrev pub HasMemory : Setting → State → End → List ℕ → Type 0
HasMemory m last Bound memory = take (4096 * m.frames) memory ≡ with_patches m.image last.ram
HasMemory m last (Stopped stop) memory = Unit {0}

-- One run from the start has this text, count of steps and end. The host completed exactly its direct instructions, and
-- where it has done all its steps, its memory is the host's first frames with the text patched. With a pool of 512 frames its
-- sets keep the rule for kept translations, that by which it stops among them.
pub record Promise (m : Setting) (n pool : ℕ) (text : List ℕ) (count : ℕ) (end : End) (before after : Counts)
    (memory : List ℕ) : Type 0 where
  pub sets : List Set
  pub reports : List Report
  pub last : State
  pub run : Run m n (boot m) sets reports last end
  pub count_is : count ≡ last.step
  pub text_is : text ≡ text_of (trace_of reports) count end
  pub counts : CountsOn m reports before after
  pub memory_is : HasMemory m last end memory
  pub kept : pool ≡ 512 → Kept m (boot m) (sets ++ stopping m n last end run.ends)

-- How many pages were filled in a run from the start. Each of its sets, and the one with which it could go on, has no more
-- pages than were filled. A step fills at most 128, so that none were filled where no step was done.
pub record HasFills (m : Setting) (sets : List Set) (last : State) (fills : ℕ) : Type 0 where
  pub end : Set
  pub allowed : Loosened m last end
  pub enough : All (λ (set : Set). len set ≤ fills) (sets ++ end ∷ [])
  pub few : fills ≤ 128 * last.step

-- The set at the end of a run from the start: that by which it stops, or after its last step the guest's own, which with a
-- pool of 512 frames is what the rule for kept translations lets be left.
abbrev pub IsEnd : (m : Setting) (n pool : ℕ) (sets : List Set) (last : State) (end : End) → EndsIn m n last end → Set → Type 0
IsEnd m n pool sets last Bound ends set = pool ≡ 512 → Roomy (steps_by m (boot m) sets) → IsLeftBehind m (steps_by m (boot m) sets) last set
IsEnd m n pool sets last (Stopped stop) ends set = set ≡ ends.1.set

-- how many pages were filled, beside the set at the end
pub record HasOwnFills (m : Setting) (n pool : ℕ) (sets : List Set) (last : State) (end : End) (ends : EndsIn m n last end)
    (fills : ℕ) : Type 0 where
  pub filled : HasFills m sets last fills
  pub own : IsEnd m n pool sets last end ends filled.end
