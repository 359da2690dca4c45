-- A slice of a guest, from what the guest makes of its shadows before it.
use Rattle.std.proofs.Common.{◌≡◌, ℕ, ◌≤◌, eqb, Bool, List, [], ◌∷◌, ◌++◌, Option, Result, sym, subst, arith}
use Rattle.std.specs.FinMap.{len, empty}
use Rattle.std.specs.Set.{is_member}
use Rattle.std.proofs.lemmas.List.Elements.{All-weaker}
use Rattle.pv_io.specs.declared.answer.Failed.{Failed}
use Rattle.run_trace.specs.declared.pause.Pause.{Pause}
use Rattle.run_trace.specs.Notes.{Note}
use Rattle.shadow_tables.specs.Entries.{entries_of}
use Rattle.shadow_tables.specs.Sight.{StaysBeside, sight}
use Rattle.shadow_tables.specs.declared.shadows.Shadows as shadows
use Rattle.machine_model.specs.State.{Setting, State}
use Rattle.machine_model.specs.Run.{Set}
use Rattle.machine_model.specs.Taken.{Taken}
use Rattle.kept_laws.specs.Carried.{indices_in}
use Rattle.kept_laws.specs.Known.{IsKnown}
use Rattle.wedge_step.specs.Carried.{IsCarried}
use Rattle.wedge_step.specs.CarryLaws.{CarryLaws}
use Rattle.wedge_step.specs.Filled.{CountsFills}
use Rattle.wedge_core.specs.Slices.{Counts, Knowing}
use Rattle.wedge_core.proofs.SlicedBy.{SliceAs}
use Rattle.wedge_core.specs.Starts.{IsAsNew}

-- at first no fewer pages were kept
pub more_first : (a b new before after : ℕ) → a ≤ b → CountsFills a new before after → CountsFills b new before after
more_first a b new before after le f =
    let r = f.rises in
    let e = f.enough in
    record { rises = r; enough = omega (arith, e, le) }

-- the same slice, begun so
pub slice_begun : (m : Setting) (bound : ℕ) (old new : State) (before after : Counts) (told tells : Option (List ℕ))
    (first pages fills filled : ℕ) (notes_wanted : Bool) (notes_on : List Note → Type 0) (knows : Knowing)
    (starts : List Taken → Type 0) (result : Result Pause Failed) → first ≤ pages
    → ((past : List Taken) → starts past → knows.before past)
    → SliceAs m bound old new before after told tells first fills filled notes_wanted notes_on knows result
    → SliceAs m bound old new before after told tells pages fills filled notes_wanted notes_on (record knows { before = starts }) result
slice_begun m bound old new before after told tells first pages fills filled notes_wanted notes_on knows starts result le from h = record {
  sets = h.sets;
  reports = h.reports;
  last = h.last;
  end = h.end;
  notes = h.notes;
  steps = h.steps;
  ends = h.ends;
  text = h.text;
  counts = h.counts;
  told_notes = h.told_notes;
  tells_notes = h.tells_notes;
  each_filled = All-weaker (λ (set : Set). CountsFills first (len set) fills filled)
      (λ (set : Set). CountsFills pages (len set) fills filled) (λ set f. more_first first pages (len set) fills filled le f)
      (h.sets ++ h.end ∷ []) h.each_filled;
  kept = λ past s. h.kept past (from past s);
  left = λ past s. h.left past (from past s);
  carried = λ past s. h.carried past (from past s);
}

-- where the present tables are as new and nothing is present, all is known
pub anew_carries : {S : Type 0} (shows : shadows.Ghosts S) → CarryLaws → (m : Setting) (b : State) (s : S) (memory : List ℕ)
    → entries_of (shows.slots s memory) ≡ empty → IsAsNew shows s memory → IsCarried shows m [] b s memory
anew_carries shows laws m b s memory none anew = record {
  known = subst (IsKnown m [] b (sight shows s memory)) (sym none)
      (laws.start m b (sight shows s memory) (record { unnoted = anew.unnoted; unmarked = anew.unmarked; alone = anew.alone }));
  opened_to = anew.unopened _;
}

-- and so it stays where what is beside them stays
pub begun_carries : {S : Type 0} (shows : shadows.Ghosts S) → CarryLaws → (m : Setting) (steps : List Taken) (b b' : State) (s s' : S)
    (memory then : List ℕ) → b' ≡ b → entries_of (shows.slots s' then) ≡ entries_of (shows.slots s memory)
    → StaysBeside (sight shows s memory) (sight shows s' then)
    → ((indices : ℕ → Bool) → shows.has_tables_under s memory indices → shows.has_tables_under s' then indices)
    → IsCarried shows m steps b s memory → IsCarried shows m steps b' s' then
begun_carries shows laws m steps b b' s s' memory then same sets beside tables c =
    subst (λ (x : State). IsCarried shows m steps x s' then) (sym same)
    (record {
      known = subst (IsKnown m steps b (sight shows s' then)) (sym sets)
          (laws.known.still m steps b (sight shows s memory) (sight shows s' then) (entries_of (shows.slots s memory)) beside c.known);
      opened_to = tables (λ index. is_member eqb (indices_in steps) index) c.opened_to;
    })
