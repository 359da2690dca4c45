-- The outcome of an attempt at a step whose instruction the host may do: the step went, or the host is to do it.
use Rattle.std.specs.Prelude.{◌≡◌, ℕ, List, [], Bool, false, Result, Ok, Err}
use Rattle.ia32_types.specs.declared.flags.Regs.{Regs}
use Rattle.ia32_types.specs.declared.stop.Stop.{Stop}
use Rattle.host_cpl3.specs.declared.view.View.{View}
use Rattle.machine_step.specs.declared.worked.Seen.{Seen}
use Rattle.machine_model.specs.State.{Setting, State}
use Rattle.machine_model.specs.Step.{Report, Went, Halts, stepped}
use Rattle.machine_model.specs.Counts.{direct_in}
use Rattle.native_steps.specs.Backward.{Completes}
use Rattle.wedge_step.specs.Parts.{left_of}
use Rattle.machine_model.specs.Run.{with_set}
use Rattle.wedge_step.specs.Alone.{Alone}
use Rattle.wedge_step.specs.declared.running.Lost.{Lost}
use Rattle.wedge_core.specs.declared.native.Attempt.{Attempt}
use Rattle.wedge_core.specs.declared.native.Attempt.TheVariants as attempt

-- A step of which the host did nothing went, by the translations that were kept, or by none where all were dropped before
-- it. What it completed, if anything, is not direct.
pub record Idle (m : Setting) (b : State) (before : Bool) (lost : Lost) (seen : Seen) (new : State) : Type 0 where
  pub alone : Alone m (with_set b (left_of before b.set)) lost seen new
  pub uncounted : direct_in m.image.sites alone.report.completed ≡ []

-- The host is to do the instruction: it completes it, in this view and over this memory. All that was translated for it is
-- kept, since the host couldn't do it otherwise. What the guest's step is from what is kept now, it is from the
-- translations that were kept before, or from none where all were dropped, but for what the step itself notes of its walks
-- and writes.
pub record Asks (m : Setting) (view : View) (b : State) (before : Bool) (lost : Lost) (new : State) (memory : List ℕ) : Type 0 where
  pub kept : (lost.after ≡ false) × (lost.reloaded ≡ false)
  pub regs : Regs
  pub completes : Completes m memory view new regs
  pub same : (report : Report) (then : State) → stepped m new ≡ Went report then
      → (tables wrote : List ℕ)
      × (stepped m (with_set b (left_of before b.set)) ≡ Went (record report { tables = tables; wrote = wrote }) then)

-- Before the step all translations may have been dropped; `lost` says what it lost or brought back.
abbrev pub AttemptAs : Setting → View → State → Bool → Lost → Result Attempt Stop → State → List ℕ → Type 0
AttemptAs m view b before lost (Ok (attempt.Stepped seen)) new memory = Idle m b before lost seen new
AttemptAs m view b before lost (Ok attempt.Asked) new memory = Asks m view b before lost new memory
AttemptAs m view b before lost (Err stop) new memory = stepped m (with_set b (left_of before b.set)) ≡ Halts stop

-- what holds where the host is asked, and where the step went
abbrev pub WhereAsked : Result Attempt Stop → Type 0 → Type 0
WhereAsked (Ok attempt.Asked) fact = fact
WhereAsked (Ok (attempt.Stepped seen)) fact = Unit {0}
WhereAsked (Err stop) fact = Unit {0}

abbrev pub WhereStepped : Result Attempt Stop → Type 0 → Type 0
WhereStepped (Ok (attempt.Stepped seen)) fact = fact
WhereStepped (Ok attempt.Asked) fact = Unit {0}
WhereStepped (Err stop) fact = Unit {0}
