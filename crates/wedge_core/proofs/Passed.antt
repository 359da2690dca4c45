-- Steps in which a run has no part, and what it knows after them.
use Rattle.std.proofs.Common.{◌≡◌, ℕ, ◌*◌, ◌≤◌, zero, suc, replicate, length, List, [], ◌∷◌, ◌++◌, refl, sym, ap, subst, append_assoc, inl, arith}
use Rattle.std.specs.List.{All}
use Rattle.std.proofs.lemmas.List.Elements.{All-head, All-tail}
use Rattle.machine_model.specs.State.{Setting, State, Loosened}
use Rattle.machine_model.specs.Step.{Report, Result, Went, step_of}
use Rattle.machine_model.specs.Run.{Set, Steps}
use Rattle.machine_model.specs.Taken.{Taken, behind, steps_by}
use Rattle.machine_model.specs.Untold.{AreLeft}
use Rattle.machine_model.specs.Keeping.{Roomy, IsLeftBehind}
use Rattle.native_steps.specs.Stretch.{IsQuiet}
use Rattle.kept_laws.specs.Known.{IsNextKept, IsPast}
use Rattle.wedge_step.specs.CarryLaws.{CarryLaws}
use Rattle.wedge_core.specs.KeptAfter.{KeptAfter}
use Rattle.wedge_core.proofs.AfterPast.{kept_after_on, past_joined}
use Rattle.wedge_core.proofs.Joined.{steps_join, steps_one}

-- What is known, with what is kept: it is what the rule lets be left, the next step that uses it follows the rule, and a
-- step that the run has no part in goes on with it.
pub record CarriesPast (m : Setting) (carried : Set → List Taken → State → Type 0) : Type 0 where
  pub next : (kept : Set) (steps : List Taken) (b : State) → carried kept steps b → IsNextKept m steps b kept
  pub left : (kept : Set) (steps : List Taken) (b : State) → carried kept steps b → IsLeftBehind m steps b kept
  pub past : (kept : Set) (steps : List Taken) (t : Taken) → IsPast m t → carried kept steps t.before
      → carried t.after.set (steps ++ t ∷ []) t.after

-- The steps so far followed the rule, after those in the past, and all is known after them while the run is roomy.
pub record SoFarKept (m : Setting) (carried : Set → List Taken → State → Type 0) (past : List Taken) (old : State) (sets : List Set)
    (b : State) (kept : Set) : Type 0 where
  pub rule : KeptAfter m past old sets
  pub carries : Roomy (past ++ steps_by m old sets) → carried kept (past ++ steps_by m old sets) b

abbrev pub step_taken : State → Set → Report → State → Taken
step_taken b set report after = record { before = b; set = set; report = report; after = after }

-- the first of some steps, and the others
pub taken_first : (m : Setting) (b after : State) (set : Set) (sets : List Set) (report : Report) → step_of m b set ≡ Went report after
    → steps_by m b (set ∷ sets) ≡ step_taken b set report after ∷ steps_by m after sets
taken_first m b after set sets report is = ap (λ (r : Result). behind b set r (λ a. steps_by m a sets)) is

module _ (laws : CarryLaws) (m : Setting) (carried : Set → List Taken → State → Type 0) (goes : CarriesPast m carried)
    (past : List Taken) (old : State) where
  -- one step more, by what is kept
  one_more : (sets : List Set) (reports : List Report) (b after : State) (kept : Set) (report : Report) → Steps m old sets reports b
      → step_of m b kept ≡ Went report after
      → IsPast m (step_taken b kept report after) → SoFarKept m carried past old sets b kept
      → SoFarKept m carried past old (sets ++ kept ∷ []) after after.set
  one_more sets reports b after kept report steps is quiet k =
      let t = step_taken b kept report after in
      let so_far = past ++ steps_by m old sets in
      let joined : past ++ steps_by m old (sets ++ kept ∷ []) ≡ so_far ++ t ∷ [] =
      past_joined past (steps_by m old sets) (steps_by m old (sets ++ kept ∷ [])) t
      (laws.joins m old b after sets kept reports report steps is) in
      record {
        rule = kept_after_on m past old b sets kept reports steps k.rule
            (λ roomy. goes.next kept so_far b (k.carries roomy) kept (inl refl));
        carries = λ roomy.
            let before : Roomy so_far = laws.known.before so_far t (subst Roomy joined roomy) in
            subst (λ (l : List Taken). carried after.set l after) (sym joined) (goes.past kept so_far t quiet (k.carries before));
      }

  is_past : (b after : State) (kept : Set) (report : Report) → step_of m b kept ≡ Went report after → 4096 * m.frames ≤ length b.ram
      → IsQuiet (step_taken b kept report after)
      → IsPast m (step_taken b kept report after)
  is_past b after kept report is room quiet = record { went = is; room = room; plain = quiet.through; value = quiet.cr3 }

  -- some steps more, each by what the one before left
  pub some_more : (n : ℕ) (sets : List Set) (reports : List Report) (b mid new : State) (kept : Set) (report : Report) (later : List Report)
      → Steps m old sets reports b → Loosened m b kept → step_of m b kept ≡ Went report mid → Steps m mid (replicate n kept) later new
      → AreLeft m mid (replicate n kept)
      → IsQuiet (step_taken b kept report mid) → All IsQuiet (steps_by m mid (replicate n kept)) → 4096 * m.frames ≤ length b.ram
      → SoFarKept m carried past old sets b kept → SoFarKept m carried past old (sets ++ kept ∷ replicate n kept) new new.set
  unfolding Steps
  some_more zero sets reports b mid new kept report later steps allowed is rest left quiet quiets room k =
      subst (λ (x : State). SoFarKept m carried past old (sets ++ kept ∷ []) x x.set) (sym rest.1)
      (one_more sets reports b mid kept report steps is (is_past b mid kept report is room quiet) k)
  some_more (suc n) sets reports b mid new kept report later steps allowed is rest left quiet quiets room k =
      let here = one_more sets reports b mid kept report steps is (is_past b mid kept report is room quiet) k in
      let t = step_taken mid kept rest.1 rest.0 in
      let next : All IsQuiet (t ∷ steps_by m rest.0 (replicate n kept)) =
      subst (All IsQuiet) (taken_first m mid rest.0 kept (replicate n kept) rest.1 rest.4) quiets in
      let steps_then : Steps m old (sets ++ kept ∷ []) (reports ++ report ∷ []) mid =
      steps_join m old b mid sets (kept ∷ []) reports (report ∷ []) steps (steps_one m b mid kept report allowed is) in
      let size = quiet.size in
      subst (λ (l : List Set). SoFarKept m carried past old l new new.set) (append_assoc sets (kept ∷ []) (kept ∷ replicate n kept))
      (some_more n (sets ++ kept ∷ []) (reports ++ report ∷ []) mid rest.0 new kept rest.1 rest.2 steps_then rest.3 rest.4 rest.5
      (left.1 rest.1 rest.0 rest.4)
      (All-head IsQuiet t (steps_by m rest.0 (replicate n kept)) next) (All-tail IsQuiet t (steps_by m rest.0 (replicate n kept)) next)
      (omega (arith, room, size))
      (subst (SoFarKept m carried past old (sets ++ kept ∷ []) mid) (sym left.0) here))
