-- The parts of a step's memory: what holds of them, and what they stand for.
use Rattle.std.specs.Prelude.{◌≡◌, ℕ, ◌+◌, ◌*◌, ◌≤◌, ◌^◌, true, false, List, [], length, take}
use Rattle.std.specs.FinMap.{FinMap}
use Rattle.std.specs.Ordering.{nat_cmp}
use Rattle.paging.specs.declared.entry.Entry.{Entry}
use Rattle.paging.specs.Space.{Space}
use Rattle.step_mem.specs.declared.guard.Guard.{Guard}
use Rattle.step_mem.specs.declared.translations.Translations as translations
use Rattle.step_mem.specs.declared.state.StepState.{StepState}
use Rattle.step_mem.specs.declared.walking.Control.{Control}
use Rattle.step_mem.specs.Changes.{changed, AreWithin, AreToldIn, HaveEntries}
use Rattle.step_mem.specs.Guard.{mode_of, IsLaid, AreApart}
use Rattle.step_mem.specs.Shown.{hidden}
use Rattle.step_mem.specs.Space.{space_of}

-- at the beginning of a step nothing is used or ready
abbrev pub begun : Control → Guard → StepState
begun control guard = record {
  control = control;
  guard = guard;
  changes = [];
  pages = 0;
  visited = [];
  tables = [];
  wrote = [];
  ready = record { start = 0; len = 0; write = false };
  earlier = record { start = 0; len = 0; count = 0 };
}

abbrev pub space_at : (List ℕ → FinMap nat_cmp Entry) → List ℕ → StepState → Space
space_at kept ram state =
    space_of kept ram state.control state.guard state.changes (record {
      pages = state.pages;
      visited = state.visited;
      tables = state.tables;
      wrote = state.wrote;
      ready = record { start = state.ready.start; len = state.ready.len; write = state.ready.write };
      earlier = record {
        start = state.earlier.start;
        len = state.earlier.len;
        set = changed (kept ram) (take state.earlier.count state.changes);
      };
    })

pub record IsSound (kept : List ℕ → FinMap nat_cmp Entry) (floor : ℕ) (stands : List ℕ → Type 0) (ram : List ℕ)
    (state : StepState) : Type 0 where
  pub frames_in : 4096 * state.control.frames ≤ length ram
  pub below : 4096 * state.control.frames ≤ floor
  pub laid_in : IsLaid state.guard.text.now state.control.frames
  pub counted : length state.changes ≤ state.pages
  pub few : state.pages ≤ 64
  pub visits : length state.visited ≡ state.pages
  pub told : AreToldIn state.visited state.changes
  pub read : length state.tables ≤ 2 * state.pages
  pub written : length state.wrote ≤ 2 * state.pages
  pub fits : state.ready.start + state.ready.len ≤ 2 ^ 32
  pub stands_now : ∥ stands ram ∥₁
  pub within : AreWithin state.control.frames (changed (kept ram) state.changes)
  pub reached : HaveEntries (changed (kept ram) state.changes) state.ready.start state.ready.len
  pub apart : state.ready.write ≡ true → AreApart (mode_of state.guard) (changed (kept ram) state.changes) state.ready.start state.ready.len
  pub earlier_counted : state.earlier.count ≤ length state.changes
  pub earlier_fits : state.earlier.start + state.earlier.len ≤ 2 ^ 32
  pub earlier_within : AreWithin state.control.frames (changed (kept ram) (take state.earlier.count state.changes))
  pub earlier_reached : HaveEntries (changed (kept ram) (take state.earlier.count state.changes)) state.earlier.start state.earlier.len

-- what they stand for over a keeper of translations, and what holds of them, by what it shows
abbrev pub space : {B : Type 0} → translations.Ghosts B → B → List ℕ → StepState → Space
space g base ram state = space_at (g.entries base) ram state

abbrev pub IsSoundOver : {B : Type 0} → translations.Ghosts B → B → List ℕ → StepState → Type 0
IsSoundOver g base ram state = IsSound (g.entries base) (g.floor base) (g.stands base) ram state

-- An access leaves what a walk depends on and all memory that a step doesn't reach, and the rules of the step.
abbrev pub StaysIn : StepState → StepState → List ℕ → List ℕ → Type 0
StaysIn old new ram ram2 =
    (new.control ≡ old.control) × (new.guard ≡ old.guard)
    × (hidden old.guard old.control.frames ram2 ≡ hidden old.guard old.control.frames ram)

-- The same of a fetch, whose bytes are the instruction's own from then on.
abbrev pub FetchesIn : StepState → StepState → List ℕ → List ℕ → Type 0
FetchesIn old new ram ram2 =
    (new.control ≡ old.control) × (new.guard.text ≡ old.guard.text)
    × (hidden old.guard old.control.frames ram2 ≡ hidden old.guard old.control.frames ram)
