-- A step after which there is nothing to settle.
use Rattle.std.specs.Prelude.{◌≡◌, ℕ, ◌^◌, ◌&&◌, nat_lt, true, [], Option}
use Rattle.guest_ram.specs.Among.{is_among}
use Rattle.shadow_tables.specs.Slots.{Slot}
use Rattle.shadow_tables.specs.declared.words.Side.{Side}
use Rattle.step_mem.specs.declared.state.StepState.{StepState}
use Rattle.wedge_mem.specs.Settled.{serves}

-- It changed no translation, read no frame as a table and wrote none. Each page that it went through is one of the address
-- space, and what is kept of it serves.
pub record IsAtRest (slots : ℕ → Option Slot) (side : Side) (state : StepState) : Type 0 where
  pub unchanged : state.changes ≡ []
  pub unread : state.tables ≡ []
  pub unwritten : state.wrote ≡ []
  pub served : (page : ℕ) → is_among page state.visited ≡ true
      → (nat_lt page (2 ^ 20) && serves side state.control.wp (slots page)) ≡ true
