-- What a patched run knows of its steps, by what its shadows keep (the loop invariant for kept translations).
use Rattle.std.specs.Prelude.{◌≡◌, ℕ, eqb, List}
use Rattle.std.specs.Set.{is_member}
use Rattle.shadow_tables.specs.Entries.{entries_of}
use Rattle.shadow_tables.specs.Sight.{sight}
use Rattle.shadow_tables.specs.declared.shadows.Shadows as shadows
use Rattle.machine_model.specs.Run.{Set, with_set}
use Rattle.machine_model.specs.State.{Setting, State}
use Rattle.machine_model.specs.Step.{Went, step_of, stepped}
use Rattle.machine_model.specs.Taken.{Taken}
use Rattle.kept_laws.specs.Carried.{indices_in}
use Rattle.kept_laws.specs.Known.{IsKnown}

-- The step was made from this state, to which the events of its step were given.
pub record IsTakenFrom (m : Setting) (b : State) (t : Taken) : Type 0 where
  pub cpu : t.before.cpu ≡ b.cpu
  pub ram : t.before.ram ≡ b.ram
  pub went : step_of m t.before t.set ≡ Went t.report t.after
  pub stepped : stepped m (with_set b t.set) ≡ Went t.report t.after

module _ {S : Type 0} (g : shadows.Ghosts S) where
  -- After these steps, with what the shadows keep, all is known; and they have tables only under directory indices of pages
  -- that these steps used.
  pub record IsCarried (m : Setting) (steps : List Taken) (b : State) (s : S) (memory : List ℕ) : Type 0 where
    pub known : IsKnown m steps b (sight g s memory) (entries_of (g.slots s memory))
    pub opened_to : g.has_tables_under s memory (λ index. is_member eqb (indices_in steps) index)

  -- The same of steps after which a step uses other translations than what is present.
  pub record IsCarriedBy (m : Setting) (steps : List Taken) (b : State) (kept : Set) (s : S) (memory : List ℕ) : Type 0 where
    pub known : IsKnown m steps b (sight g s memory) kept
    pub opened_to : g.has_tables_under s memory (λ index. is_member eqb (indices_in steps) index)
