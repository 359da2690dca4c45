-- A slice on its way.
use Rattle.std.proofs.Common.{◌≡◌, ℕ, ◌+◌, ◌*◌, ◌≤◌, ◌<◌, zero, suc, replicate, length, Bool, true, false, List, [], ◌∷◌, ◌++◌, Option, Result, Ok, Err, refl, sym, ap, subst, ◌∙◌, append_assoc, ◌⊎◌, inl, inr, arith}
use Rattle.std.specs.Prelude.{IsSome}
use Rattle.std.specs.List.{All, list_any}
use Rattle.std.specs.FinMap.{get, len, empty}
use Rattle.std.proofs.lemmas.List.{append-nil}
use Rattle.std.proofs.lemmas.List.Elements.{All-nil, All-cons, All-head, All-tail, All-append, All-replicate, All-weaker}
use Rattle.pv_io.specs.declared.answer.Failed.{Failed}
use Rattle.pv_io.specs.Sink.{Appends, AppendsFront}
use Rattle.run_trace.specs.declared.pause.Pause.TheVariants.{Reached, Stopped}
use Rattle.board.specs.declared.devices.Board.{Board}
use Rattle.board.specs.Boards.{given}
use Rattle.ia32_types.specs.declared.stop.Stop.{Stop}
use Rattle.machine_step.specs.declared.worked.Seen.{Seen}
use Rattle.machine_step.specs.Worked.{whats}
use Rattle.run_trace.specs.declared.items.Item.{Item}
use Rattle.run_trace.specs.Notes.{Note}
use Rattle.run_trace.specs.Text.{lines_of}
use Rattle.machine_model.specs.State.{Setting, State, Loosened}
use Rattle.machine_model.specs.Step.{Report, Halts, stepped, step_of, items_at}
use Rattle.machine_model.specs.Run.{Set, Steps, trace_of, with_set}
use Rattle.machine_model.specs.Taken.{Taken, steps_by}
use Rattle.machine_model.specs.Clash.{clashes_from}
use Rattle.machine_model.specs.Keeping.{Roomy}
use Rattle.machine_model.specs.Notes.{AreNotes, is_dropped, set_told}
use Rattle.machine_model.specs.Untold.{AreLeft}
use Rattle.machine_model.proofs.Counted.{same_step, steps_counted}
use Rattle.machine_model.proofs.Texts.{lines_join}
use Rattle.native_steps.specs.Stretch.{IsQuiet}
use Rattle.wedge_step.specs.Carried.{IsTakenFrom}
use Rattle.wedge_step.specs.CarryLaws.{CarryLaws}
use Rattle.wedge_step.specs.Filled.{CountsFills}
use Rattle.wedge_core.specs.KeptAfter.{KeptAfter}
use Rattle.wedge_core.specs.Noted.{NotesOn, emptied_if, notes_then}
use Rattle.wedge_step.specs.Parts.{IsPartOf, left_of}
use Rattle.wedge_core.specs.Slices.{Counts, CountsOn}
use Rattle.wedge_core.proofs.SlicedBy.{SliceAs}
use Rattle.wedge_core.specs.Stepping.{Goes, StepHalts, Passes, StepAs}
use Rattle.wedge_step.specs.declared.running.Lost.{Lost}
use Rattle.wedge_step.proofs.Parts.{part_left, part_same, part_allowed, part_loosened}
use Rattle.wedge_core.proofs.AfterPast.{kept_after_on, none_after, past_joined}
use Rattle.wedge_core.proofs.Joined.{steps_join, no_steps, steps_one, trace_join, counts_join, counts_none}
use Rattle.wedge_step.proofs.Filling.{part_few}
use Rattle.pv_io.proofs.Pieces.{appends_both, appends_none, front_of}
use Rattle.wedge_core.proofs.EmptiedNotes.{SoFar, TriedNotes, none_yet, try_next, go_next, so_far_later, told_more, told_none, told_before, up_to_later, tried_none, none_dropped, dropped_once, are_pages, steps_until}
use Rattle.wedge_core.proofs.Passed.{CarriesPast, some_more, step_taken, taken_first}
use Rattle.wedge_core.proofs.ToldSteps.{ToldBy, told_nothing, told_one, told_join, told_on, left_behind, are_told}

-- each of these sets has no more pages than were kept at first and were filled since
abbrev pub EachFilled : ℕ → ℕ → ℕ → List Set → Type 0
EachFilled pages before after sets = All (λ (set : Set). CountsFills pages (len set) before after) sets

-- Some steps were done. Where the run begins so, they followed the rule for kept translations, and all is known after them
-- while it is roomy. What is kept a run may go on with; where notes are wanted, it is what they left, but for what the
-- notes report, by which they went too. Their lines were put, and the counts follow.
pub record Going (m : Setting) (old now : State) (before after : Counts) (told tells : Option (List ℕ)) (pages fills filled : ℕ)
    (notes_wanted : Bool) (notes_on : List Note → Type 0) (begins : List Taken → Type 0)
    (carried : Set → List Taken → State → Type 0) : Type 0 where
  pub sets : List Set
  pub reports : List Report
  pub whole : Set
  pub notes : List Note
  pub steps : Steps m old sets reports (with_set now whole)
  pub allowed : Loosened m (with_set now whole) now.set
  pub kept : notes_wanted ≡ true → now.set ≡ set_told notes now.step whole
  pub by : notes_wanted ≡ true → ToldBy m old sets notes
  pub so_far : SoFar old.step now.step notes
  pub tells_notes : notes_on notes
  pub each_filled : EachFilled pages fills filled sets
  pub rule : (past : List Taken) → begins past → KeptAfter m past old sets
  pub carries : (past : List Taken) → begins past → Roomy (past ++ steps_by m old sets)
      → carried now.set (past ++ steps_by m old sets) (with_set now whole)
  pub enough : CountsFills pages (len now.set) fills filled
  pub text : Appends told tells (lines_of (trace_of reports))
  pub counts : CountsOn m reports before after

pub going_none : (m : Setting) (b : State) (counts : Counts) (told : Option (List ℕ)) (pages fills : ℕ) (notes_wanted : Bool)
    (notes_on : List Note → Type 0) (begins : List Taken → Type 0) (carried : Set → List Taken → State → Type 0)
    → notes_on [] → len b.set ≤ pages
    → ((past : List Taken) → begins past → Roomy past → carried b.set past b) → Going m b b counts counts told told pages fills fills
    notes_wanted notes_on begins carried
going_none m b counts told pages fills notes_wanted notes_on begins carried none few start = record {
  sets = [];
  reports = [];
  whole = b.set;
  notes = [];
  steps = no_steps m b;
  allowed = part_allowed m b b.set (part_same b.set b.set refl);
  kept = λ w. refl;
  by = λ w. told_nothing m b [];
  so_far = none_yet b.step;
  tells_notes = none;
  each_filled = All-nil (λ (set : Set). CountsFills pages (len set) fills fills);
  rule = λ past s. none_after m past b;
  carries = λ past s roomy. subst (λ (l : List Taken). carried b.set l b) (sym (append-nil past))
      (start past s (subst Roomy (append-nil past) roomy));
  enough = record { rises = omega arith; enough = omega (arith, few) };
  text = appends_none told;
  counts = counts_none m counts;
}

-- none of them is after the first
pub none_behind : (m : Setting) (old now : State) (a b : Counts) (told tells : Option (List ℕ)) (pages fills filled : ℕ)
    (notes_wanted : Bool) (notes_on : List Note → Type 0) (begins : List Taken → Type 0) (carried : Set → List Taken → State → Type 0)
    → (g : Going m old now a b told tells pages fills filled notes_wanted notes_on begins carried) → old.step + length g.sets ≡ now.step
none_behind m old now a b told tells pages fills filled notes_wanted notes_on begins carried g =
    sym (steps_counted m old g.sets g.reports (with_set now g.whole) g.steps)

-- what is left of a set is part of it
told_part : (b : Bool) (set : Set) → IsPartOf (left_of b set) set
told_part b set = part_left b (left_of b set) set refl

filled_later : (pages before mid after : ℕ) (sets : List Set) → mid ≤ after → EachFilled pages before mid sets
    → EachFilled pages before after sets
filled_later pages before mid after sets le h =
    All-weaker (λ (set : Set). CountsFills pages (len set) before mid) (λ (set : Set). CountsFills pages (len set) before after)
    (λ set f. let r = f.rises in let e = f.enough in record { rises = omega (arith, r, le); enough = omega (arith, e, le) }) sets h

filled_push : (pages before after : ℕ) (sets : List Set) (set : Set) → EachFilled pages before after sets
    → CountsFills pages (len set) before after → EachFilled pages before after (sets ++ set ∷ [])
filled_push pages before after sets set h f =
    let P = λ (x : Set). CountsFills pages (len x) before after in
    All-append P sets (set ∷ []) h (All-cons P set [] f (All-nil P))

enough_later : (pages few before mid after : ℕ) → mid ≤ after → CountsFills pages few before mid → CountsFills pages few before after
enough_later pages few before mid after le f =
    let r = f.rises in
    let e = f.enough in
    record { rises = omega (arith, r, le); enough = omega (arith, e, le) }

-- steps in which nothing is seen

pub going_past : (m : Setting) (old now new : State) (a b c : Counts) (told tells : Option (List ℕ)) (pages fills mid filled : ℕ)
    (notes_wanted : Bool) (notes_on : List Note → Type 0) (begins : List Taken → Type 0) (carried : Set → List Taken → State → Type 0)
    → (g : Going m old now a b told tells pages fills mid notes_wanted notes_on begins carried) → mid ≤ filled
    → CountsFills pages (len new.set) fills filled
    → CarryLaws → CarriesPast m carried → 4096 * m.frames ≤ length now.ram → Passes m now new b c
    → Going m old new a c told tells pages fills filled notes_wanted notes_on begins carried
unfolding Steps
going_past m old now new a b c told tells pages fills mid filled notes_wanted notes_on begins carried g rises enough laws goes room p =
    by p.n p.steps p.sets p.quiet
  where
    silent : trace_of (g.reports ++ p.reports) ≡ trace_of g.reports
    silent = trace_join g.reports p.reports ∙ (ap (λ (l : List Item). trace_of g.reports ++ l) p.silent ∙ append-nil (trace_of g.reports))

    put : Appends told tells (lines_of (trace_of (g.reports ++ p.reports)))
    put = subst (λ (l : List Item). Appends told tells (lines_of l)) (sym silent) g.text

    by : (n : ℕ) → Steps m now (replicate n now.set) p.reports new → AreLeft m now (replicate n now.set)
        → All IsQuiet (steps_by m now (replicate n now.set)) → Going m old new a c told tells pages fills filled notes_wanted
        notes_on begins carried
    by zero steps left quiet =
        let same : g.reports ++ p.reports ≡ g.reports = ap (λ (l : List Report). g.reports ++ l) steps.0 ∙ append-nil g.reports in
        record {
          sets = g.sets;
          reports = g.reports ++ p.reports;
          whole = g.whole;
          notes = g.notes;
          steps = subst (λ (l : List Report). Steps m old g.sets l (with_set new g.whole)) (sym same)
              (subst (λ (x : State). Steps m old g.sets g.reports (with_set x g.whole)) (sym steps.1) g.steps);
          allowed = subst (λ (x : State). Loosened m (with_set x g.whole) x.set) (sym steps.1) g.allowed;
          kept = λ w. subst (λ (x : State). x.set ≡ set_told g.notes x.step g.whole) (sym steps.1) (g.kept w);
          by = g.by;
          so_far = subst (λ (x : State). SoFar old.step x.step g.notes) (sym steps.1) g.so_far;
          tells_notes = g.tells_notes;
          each_filled = filled_later pages fills mid filled g.sets rises g.each_filled;
          rule = g.rule;
          carries = λ past s roomy. subst (λ (x : State). carried x.set (past ++ steps_by m old g.sets) (with_set x g.whole))
              (sym steps.1) (g.carries past s roomy);
          enough = enough;
          text = put;
          counts = counts_join m g.reports p.reports a b c g.counts p.counts;
        }
    by (suc n) steps left quiet =
        let both : All IsQuiet (step_taken now now.set steps.1 steps.0 ∷ steps_by m steps.0 (replicate n now.set)) =
        subst (All IsQuiet) (taken_first m now steps.0 now.set (replicate n now.set) steps.1 steps.4) quiet in
        let q = All-head IsQuiet (step_taken now now.set steps.1 steps.0) (steps_by m steps.0 (replicate n now.set)) both in
        let one : IsQuiet (step_taken (with_set now g.whole) now.set steps.1 steps.0) =
        record { through = q.through; cr0 = q.cr0; cr3 = q.cr3; cr4 = q.cr4; size = q.size } in
        let so_far =
        λ (past : List Taken) (s : begins past). some_more laws m carried goes past old n g.sets g.reports (with_set now g.whole) steps.0
        new now.set steps.1 steps.2
        g.steps g.allowed (same_step m now g.whole now.set ∙ steps.4) steps.5 (left.1 steps.1 steps.0 steps.4) one
        (All-tail IsQuiet (step_taken now now.set steps.1 steps.0) (steps_by m steps.0 (replicate n now.set)) both) room
        (record { rule = g.rule past s; carries = g.carries past s }) in
        let count = steps_counted m now (replicate (suc n) now.set) p.reports new steps in
        let later : now.step < new.step = omega (arith, count) in
        let first : EachFilled pages fills filled (replicate (suc n) now.set) =
        All-replicate (λ (set : Set). CountsFills pages (len set) fills filled) (suc n) now.set
        (enough_later pages (len now.set) fills mid filled rises g.enough) in
        record {
          sets = g.sets ++ replicate (suc n) now.set;
          reports = g.reports ++ p.reports;
          whole = new.set;
          notes = g.notes;
          steps = steps_join m old (with_set now g.whole) new g.sets (replicate (suc n) now.set) g.reports p.reports g.steps
              (steps.0, steps.1, steps.2, g.allowed, same_step m now g.whole now.set ∙ steps.4, steps.5, steps.6);
          allowed = part_allowed m (with_set new new.set) new.set (part_same new.set new.set refl);
          kept = λ w. sym (told_none now.step new.step new.set g.notes later g.so_far.until);
          by = λ w. told_join m old (with_set now g.whole) g.sets (replicate (suc n) now.set) g.reports g.notes g.steps (g.by w)
              (left_behind m now g.whole (replicate (suc n) now.set) g.notes (g.kept w) g.so_far.until left);
          so_far = so_far_later old.step now.step new.step g.notes later g.so_far;
          tells_notes = g.tells_notes;
          each_filled = All-append (λ (set : Set). CountsFills pages (len set) fills filled) g.sets (replicate (suc n) now.set)
              (filled_later pages fills mid filled g.sets rises g.each_filled) first;
          rule = λ past s. (so_far past s).rule;
          carries = λ past s. (so_far past s).carries;
          enough = enough;
          text = put;
          counts = counts_join m g.reports p.reports a b c g.counts p.counts;
        }

-- the same, in other words of what is known
pub going_turned : (m : Setting) (old now : State) (a b : Counts) (told tells : Option (List ℕ)) (pages fills filled : ℕ)
    (notes_wanted : Bool) (notes_on : List Note → Type 0) (begins : List Taken → Type 0)
    (carried carried_then : Set → List Taken → State → Type 0)
    → ((steps : List Taken) (x : State) → carried now.set steps x → carried_then now.set steps x)
    → Going m old now a b told tells pages fills filled notes_wanted notes_on begins carried
    → Going m old now a b told tells pages fills filled notes_wanted notes_on begins carried_then
going_turned m old now a b told tells pages fills filled notes_wanted notes_on begins carried carried_then turn g = record {
  sets = g.sets;
  reports = g.reports;
  whole = g.whole;
  notes = g.notes;
  steps = g.steps;
  allowed = g.allowed;
  kept = g.kept;
  by = g.by;
  so_far = g.so_far;
  tells_notes = g.tells_notes;
  each_filled = g.each_filled;
  rule = g.rule;
  carries = λ past s roomy. turn (past ++ steps_by m old g.sets) (with_set now g.whole) (g.carries past s roomy);
  enough = g.enough;
  text = g.text;
  counts = g.counts;
}

-- the state to which the events of its step were given
abbrev pub eventful : Setting → State → State
eventful m b = record b { board = given b.board m.script b.step }

-- Some steps were done, and one more. Of its lines something was put.
pub record Stepped (m : Setting) (old now new : State) (seen : Seen) (before after : Counts) (told tells : Option (List ℕ))
    (pages fills filled : ℕ) (notes_wanted : Bool) (notes_on : List Note → Type 0) (begins : List Taken → Type 0)
    (carried : Set → List Taken → State → Type 0) : Type 0 where
  pub sets : List Set
  pub reports : List Report
  pub whole : Set
  pub notes : List Note
  pub steps : Steps m old sets reports (with_set new whole)
  pub allowed : Loosened m (with_set new whole) new.set
  pub kept : notes_wanted ≡ true → new.set ≡ set_told notes new.step whole
  pub by : notes_wanted ≡ true → ToldBy m old sets notes
  pub so_far : SoFar old.step new.step notes
  pub tells_notes : notes_on notes
  pub each_filled : EachFilled pages fills filled sets
  pub rule : (past : List Taken) → begins past → KeptAfter m past old sets
  pub carries : (past : List Taken) → begins past → Roomy (past ++ steps_by m old sets)
      → carried new.set (past ++ steps_by m old sets) (with_set new whole)
  pub enough : CountsFills pages (len new.set) fills filled
  pub front : List Item
  pub trace : trace_of reports ≡ front ++ items_at now.step (whats seen)
  pub text : Appends told tells (lines_of front)
  pub counts : CountsOn m reports before after

-- a step by what was chosen before its events were given
chosen_first : (m : Setting) (now : State) (whole chosen : Set) → step_of m (with_set now whole) chosen ≡ stepped m
    (with_set (eventful m now) chosen)
unfolding step_of
chosen_first m now whole chosen = refl

-- the next step is tried, before which all translations may have been dropped
module _ (m : Setting) (old now : State) (a b : Counts) (told tells : Option (List ℕ)) (pages fills mid : ℕ) (notes_wanted : Bool)
    (notes_on : List Note → Type 0) (begins : List Taken → Type 0) (carried : Set → List Taken → State → Type 0)
    (g : Going m old now a b told tells pages fills mid notes_wanted notes_on begins carried) (dropped : Bool) where
  abbrev pub notes_tried : List Note
  notes_tried = g.notes ++ emptied_if dropped now.step

  abbrev pub chosen : Set
  chosen = left_of dropped now.set

  pub here : old.step + length g.sets ≡ now.step
  here = none_behind m old now a b told tells pages fills mid notes_wanted notes_on begins carried g

  pub first : old.step ≤ now.step
  first = let n = here in omega (arith, n)

  pub chosen_told : notes_wanted ≡ true → chosen ≡ set_told notes_tried now.step g.whole
  chosen_told w = ap (left_of dropped) (g.kept w) ∙ sym (told_more dropped now.step g.whole g.notes g.so_far.until)

  pub chosen_allowed : Loosened m (with_set now g.whole) chosen
  chosen_allowed = part_loosened m (with_set now g.whole) chosen now.set (told_part dropped now.set) g.allowed

  pub tried : TriedNotes old.step now.step notes_tried
  tried = try_next dropped old.step now.step g.notes first g.so_far

  pub by_then : notes_wanted ≡ true → ToldBy m old g.sets notes_tried
  by_then w = told_on dropped m old g.sets g.notes now.step (let n = here in omega (arith, n)) g.so_far.until (g.by w)

  pub enough_chosen : CountsFills pages (len chosen) fills mid
  enough_chosen =
      let few = part_few chosen now.set (told_part dropped now.set) in
      let r = g.enough.rises in
      let e = g.enough.enough in
      record { rises = r; enough = omega (arith, few, e) }

-- Where all was dropped before the next step, it clashes by what was kept.
abbrev pub DropClashes : Setting → State → Bool → (List Taken → Type 0) → (Set → List Taken → State → Type 0) → Type 0
DropClashes m now dropped begins carried =
    (past : List Taken) → begins past → dropped ≡ true → (steps : List Taken) (whole : Set) → Roomy steps
    → carried now.set steps (with_set now whole) → clashes_from m now ≡ true

-- So it is, and what is known goes on over that step.
pub record StepCarries (m : Setting) (now new : State) (lost : Lost) (begins : List Taken → Type 0)
    (carried carried_then : Set → List Taken → State → Type 0) : Type 0 where
  pub clash : DropClashes m now lost.before begins carried
  pub over : (past : List Taken) → begins past → (steps : List Taken) (t : Taken) → Roomy (steps ++ t ∷ [])
      → IsTakenFrom m (eventful m now) t
      → t.set ≡ left_of lost.before now.set → carried now.set steps t.before
      → carried_then new.set (steps ++ t ∷ []) t.after

chosen_kept : (m : Setting) (b : State) (dropped : Bool) → (dropped ≡ true → clashes_from m b ≡ true)
    → (left_of dropped b.set ≡ b.set) ⊎ ((left_of dropped b.set ≡ empty) × (clashes_from m b ≡ true))
chosen_kept m b true h = inr (refl, h refl)
chosen_kept m b false h = inl refl

-- the set that was chosen keeps the rule, whether the step goes or stops
module _ (m : Setting) (old now : State) (a b : Counts) (told tells : Option (List ℕ)) (pages fills mid : ℕ) (notes_wanted : Bool)
    (notes_on : List Note → Type 0) (begins : List Taken → Type 0) (carried : Set → List Taken → State → Type 0)
    (g : Going m old now a b told tells pages fills mid notes_wanted notes_on begins carried) (dropped : Bool) where
  pub chosen_rule : CarriesPast m carried → DropClashes m now dropped begins carried → (past : List Taken) → begins past
      → KeptAfter m past old (g.sets ++ left_of dropped now.set ∷ [])
  chosen_rule goes clash past s =
      let before = past ++ steps_by m old g.sets in
      kept_after_on m past old (with_set now g.whole) g.sets (left_of dropped now.set) g.reports g.steps (g.rule past s)
      (λ roomy. goes.next now.set before (with_set now g.whole) (g.carries past s roomy) (left_of dropped now.set)
      (chosen_kept m now dropped (λ drop. clash past s drop before g.whole roomy (g.carries past s roomy))))

-- where nothing was dropped
no_drop : (m : Setting) (now : State) (begins : List Taken → Type 0) (carried : Set → List Taken → State → Type 0)
    → DropClashes m now false begins carried
no_drop m now begins carried past s dropped = absurd (let f : false ≡ true = dropped in cc)

-- and goes
pub going_on : (m : Setting) (old now new : State) (lost : Lost) (seen : Seen) (a b c : Counts) (told tells : Option (List ℕ))
    (pages fills mid filled : ℕ) (notes_wanted : Bool) (notes_on notes_after : List Note → Type 0) (begins : List Taken → Type 0)
    (carried carried_then : Set → List Taken → State → Type 0)
    → (g : Going m old now a b told tells pages fills mid notes_wanted notes_on begins carried) → Goes m (eventful m now) lost seen new b c
    → new.step ≡ now.step + 1 → mid ≤ filled → CountsFills pages (len new.set) fills filled → (notes_wanted ≡ true → lost.reloaded ≡ false)
    → CarryLaws → CarriesPast m carried → StepCarries m now new lost begins carried carried_then
    → ((notes : List Note) → notes_on notes → notes_after (notes ++ notes_then lost now.step))
    → Stepped m old now new seen a c told tells pages fills filled notes_wanted notes_after begins carried_then
going_on m old now new lost seen a b c told tells pages fills mid filled notes_wanted notes_on notes_after begins carried carried_then g r
    count rises enough exact laws goes over on =
    let set = left_of lost.before now.set in
    let before = g.notes ++ emptied_if lost.before now.step in
    let notes = before ++ emptied_if lost.after (now.step + 1) in
    let allowed = chosen_allowed m old now a b told tells pages fills mid notes_wanted notes_on begins carried g lost.before in
    let tried_now = tried m old now a b told tells pages fills mid notes_wanted notes_on begins carried g lost.before in
    let low = first m old now a b told tells pages fills mid notes_wanted notes_on begins carried g lost.before in
    let n = here m old now a b told tells pages fills mid notes_wanted notes_on begins carried g lost.before in
    let up = up_to_later now.step (now.step + 1) before (omega arith) tried_now.until in
    let one = steps_one m (with_set now g.whole) (with_set new r.whole) set r.report allowed (chosen_first m now g.whole set ∙ r.went) in
    let goes_here = chosen_first m now g.whole set ∙ r.went in
    let taken_so_far = steps_by m old g.sets in
    let t = step_taken (with_set now g.whole) set r.report (with_set new r.whole) in
    let joined = λ (past : List Taken). past_joined past taken_so_far (steps_by m old (g.sets ++ set ∷ [])) t
    (laws.joins m old (with_set now g.whole) (with_set new r.whole) g.sets set g.reports r.report g.steps goes_here) in
    let from : IsTakenFrom m (eventful m now) t = record { cpu = refl; ram = refl; went = goes_here; stepped = r.went } in
    let is : set_told notes (now.step + 1) r.whole ≡ left_of lost.after r.whole =
    told_more lost.after (now.step + 1) r.whole before up
    ∙ ap (left_of lost.after) (told_none now.step (now.step + 1) r.whole before (omega arith) tried_now.until) in
    let by_before = λ (w : notes_wanted ≡ true). told_on lost.after m old g.sets before (now.step + 1) (omega (arith, n)) up
    (by_then m old now a b told tells pages fills mid notes_wanted notes_on begins carried g lost.before w) in
    let by_now = λ (w : notes_wanted ≡ true). told_one m (with_set now g.whole) set notes
    (chosen_told m old now a b told tells pages fills mid notes_wanted notes_on begins carried g lost.before w
    ∙ sym (told_before lost.after (now.step + 1) now.step g.whole before (omega arith) up)) in
    record {
      sets = g.sets ++ set ∷ [];
      reports = g.reports ++ r.report ∷ [];
      whole = r.whole;
      notes = notes;
      steps = steps_join m old (with_set now g.whole) (with_set new r.whole) g.sets (set ∷ []) g.reports (r.report ∷ []) g.steps one;
      allowed = r.kept.allowed;
      kept = λ w. r.kept.exact (exact w) ∙ (sym is ∙ ap (λ (s : ℕ). set_told notes s r.whole) (sym count));
      by = λ w. told_join m old (with_set now g.whole) g.sets (set ∷ []) g.reports notes g.steps (by_before w) (by_now w);
      so_far = subst (λ (s : ℕ). SoFar old.step s notes) (sym count) (go_next lost.after old.step now.step before low tried_now);
      tells_notes = subst notes_after (sym (append_assoc g.notes (emptied_if lost.before now.step) (emptied_if lost.after (now.step + 1))))
          (on g.notes g.tells_notes);
      each_filled = filled_push pages fills filled g.sets set (filled_later pages fills mid filled g.sets rises g.each_filled)
          (enough_later pages (len set) fills mid filled rises
          (enough_chosen m old now a b told tells pages fills mid notes_wanted notes_on begins carried g lost.before));
      rule = chosen_rule m old now a b told tells pages fills mid notes_wanted notes_on begins carried g lost.before goes over.clash;
      carries = λ past s roomy.
          let before = past ++ taken_so_far in
          let then : Roomy (before ++ t ∷ []) = subst Roomy (joined past) roomy in
          subst (λ (l : List Taken). carried_then new.set l (with_set new r.whole)) (sym (joined past))
          (over.over past s before t then from refl (g.carries past s (laws.known.before before t then)));
      enough = enough;
      front = trace_of g.reports;
      trace = trace_join g.reports (r.report ∷ []) ∙ ap (λ (l : List Item). trace_of g.reports ++ l) (append-nil r.report.items ∙ r.items);
      text = g.text;
      counts = counts_join m g.reports (r.report ∷ []) a b c g.counts r.counts;
    }

-- its lines were put
pub stepped_put : (m : Setting) (old now new : State) (seen : Seen) (a b : Counts) (told tells last : Option (List ℕ))
    (pages fills filled : ℕ) (notes_wanted : Bool) (notes_on : List Note → Type 0) (begins : List Taken → Type 0)
    (carried : Set → List Taken → State → Type 0) → Stepped m old now new seen a b told tells pages fills filled notes_wanted
    notes_on begins carried
    → Appends tells last (lines_of (items_at now.step (whats seen))) → Going m old new a b told last pages fills filled notes_wanted
    notes_on begins carried
stepped_put m old now new seen a b told tells last pages fills filled notes_wanted notes_on begins carried s put =
    let is : lines_of (trace_of s.reports) ≡ lines_of s.front ++ lines_of (items_at now.step (whats seen)) =
    ap lines_of s.trace ∙ lines_join s.front (items_at now.step (whats seen)) in
    record {
      sets = s.sets;
      reports = s.reports;
      whole = s.whole;
      notes = s.notes;
      steps = s.steps;
      allowed = s.allowed;
      kept = s.kept;
      by = s.by;
      so_far = s.so_far;
      tells_notes = s.tells_notes;
      each_filled = s.each_filled;
      rule = s.rule;
      carries = s.carries;
      enough = s.enough;
      text = subst (λ (l : List ℕ). Appends told last l) (sym is)
          (appends_both told tells last (lines_of s.front) (lines_of (items_at now.step (whats seen))) s.text put);
      counts = s.counts;
    }

-- or a front of them
pub stepped_front : (m : Setting) (old now new : State) (seen : Seen) (a b : Counts) (told tells last : Option (List ℕ))
    (pages fills filled : ℕ) (notes_wanted : Bool) (notes_on : List Note → Type 0) (begins : List Taken → Type 0)
    (carried : Set → List Taken → State → Type 0)
    → (s : Stepped m old now new seen a b told tells pages fills filled notes_wanted notes_on begins carried)
    → AppendsFront tells last (lines_of (items_at now.step (whats seen))) → AppendsFront told last (lines_of (trace_of s.reports))
stepped_front m old now new seen a b told tells last pages fills filled notes_wanted notes_on begins carried s put =
    let is : lines_of (trace_of s.reports) ≡ lines_of s.front ++ lines_of (items_at now.step (whats seen)) =
    ap lines_of s.trace ∙ lines_join s.front (items_at now.step (whats seen)) in
    subst (λ (l : List ℕ). AppendsFront told last l) (sym is)
    (front_of told tells last (lines_of s.front) (lines_of (items_at now.step (whats seen))) []
    (lines_of s.front ++ lines_of (items_at now.step (whats seen))) s.text put
    (ap (λ (l : List ℕ). lines_of s.front ++ l) (sym (append-nil (lines_of (items_at now.step (whats seen)))))))

-- ---- where the slice ends

are_notes : (m : Setting) (old : State) (sets : List Set) (last : ℕ) (notes : List Note) → TriedNotes old.step last notes
    → AreNotes m old sets last notes
are_notes m old sets last notes h = record {
  ordered = h.ordered;
  until = steps_until last notes h.until;
  pages = are_pages last notes h.until;
  few = λ step. let few = h.few step in omega (arith, few);
  once = λ step page. dropped_once last step page notes h.until;
  held =
      λ earlier now later page e is. absurd (let no : false ≡ true = sym (none_dropped last now.before.step page notes h.until) ∙ is in cc);
}

-- no page is reported after the last step
none_held : (first last : ℕ) (notes : List Note) (set : Set) → TriedNotes first last notes → (page : ℕ)
    → list_any (is_dropped last page) notes ≡ true → IsSome (get set page)
none_held first last notes set h page is = absurd (let no : false ≡ true = sym (none_dropped last last page notes h.until) ∙ is in cc)

-- all steps were done
pub reached : (m : Setting) (bound : ℕ) (old now : State) (a b : Counts) (told tells : Option (List ℕ)) (pages fills filled : ℕ)
    (notes_wanted : Bool) (notes_on : List Note → Type 0) (begins after : List Taken → Type 0)
    (carried : Set → List Taken → State → Type 0)
    → Going m old now a b told tells pages fills filled notes_wanted notes_on begins carried → now.step ≡ bound
    → CarriesPast m carried → ((steps : List Taken) (whole : Set) → carried now.set steps (with_set now whole) → after steps)
    → SliceAs m bound old now a b told tells pages fills filled notes_wanted notes_on
    (record { before = begins; after = after }) (Ok Reached)
reached m bound old now a b told tells pages fills filled notes_wanted notes_on begins after carried g n goes handed = record {
  sets = g.sets;
  reports = g.reports;
  last = with_set now g.whole;
  notes = g.notes;
  steps = g.steps;
  end = now.set;
  ends = (n, refl, g.allowed);
  text = g.text;
  counts = g.counts;
  told_notes = λ w. record {
    told = are_told m old g.sets g.notes (g.by w);
    are = are_notes m old g.sets now.step g.notes (tried_none old.step now.step g.notes g.so_far);
    two = g.so_far.few;
    held = none_held old.step now.step g.notes g.whole (tried_none old.step now.step g.notes g.so_far);
    ends = g.kept w;
  };
  tells_notes = g.tells_notes;
  each_filled = filled_push pages fills filled g.sets now.set g.each_filled g.enough;
  kept = chosen_rule m old now a b told tells pages fills filled notes_wanted notes_on begins carried g false goes
      (no_drop m now begins carried);
  left = λ past s roomy. goes.left now.set (past ++ steps_by m old g.sets) (with_set now g.whole) (g.carries past s roomy);
  carried = λ past s roomy. handed (past ++ steps_by m old g.sets) g.whole (g.carries past s roomy);
}

-- the next step stops
pub stopped : (m : Setting) (bound : ℕ) (old now new : State) (lost : Lost) (stop : Stop) (a b : Counts) (told tells : Option (List ℕ))
    (pages fills mid filled : ℕ) (notes_wanted : Bool) (notes_on notes_after : List Note → Type 0) (begins after : List Taken → Type 0)
    (carried : Set → List Taken → State → Type 0)
    → Going m old now a b told tells pages fills mid notes_wanted notes_on begins carried → StepHalts m (eventful m now) lost stop
    → now.step < bound → new.step ≡ now.step → mid ≤ filled → CarriesPast m carried
    → DropClashes m now lost.before begins carried
    → ((notes : List Note) → notes_on notes → notes_after (notes ++ emptied_if lost.before now.step))
    → SliceAs m bound old new a b told tells pages fills filled notes_wanted notes_after (record { before = begins; after = after })
    (Ok (Stopped stop))
stopped m bound old now new lost stop a b told tells pages fills mid filled notes_wanted notes_on notes_after begins after carried g h lt
    still rises goes clash on =
    let set = left_of lost.before now.set in
    let notes = g.notes ++ emptied_if lost.before now.step in
    let told_set = chosen_told m old now a b told tells pages fills mid notes_wanted notes_on begins carried g lost.before in
    let halts = chosen_first m now g.whole set ∙ h.halts in
    record {
      sets = g.sets;
      reports = g.reports;
      last = with_set now g.whole;
      notes = notes;
      steps = g.steps;
      end = set;
      ends = (lt, still, chosen_allowed m old now a b told tells pages fills mid notes_wanted notes_on begins carried g lost.before, halts);
      text = g.text;
      counts = g.counts;
      told_notes = λ w. record {
        told =
            are_told m old g.sets notes
            (by_then m old now a b told tells pages fills mid notes_wanted notes_on begins carried g lost.before w);
        are = are_notes m old g.sets now.step notes
            (tried m old now a b told tells pages fills mid notes_wanted notes_on begins carried g lost.before);
        two = (tried m old now a b told tells pages fills mid notes_wanted notes_on begins carried g lost.before).few;
        held = none_held old.step now.step notes g.whole
            (tried m old now a b told tells pages fills mid notes_wanted notes_on begins carried g lost.before);
        ends = subst (λ (x : Set). step_of m (with_set now g.whole) x ≡ Halts stop) (told_set w) halts;
      };
      tells_notes = on g.notes g.tells_notes;
      each_filled = filled_push pages fills filled g.sets set (filled_later pages fills mid filled g.sets rises g.each_filled)
          (enough_later pages (len set) fills mid filled rises
          (enough_chosen m old now a b told tells pages fills mid notes_wanted notes_on begins carried g lost.before));
      kept = chosen_rule m old now a b told tells pages fills mid notes_wanted notes_on begins carried g lost.before goes clash;
      left = λ past s. tt;
      carried = λ past s. tt;
    }

-- the lines of a step were not put
pub failed : (m : Setting) (bound : ℕ) (old now new : State) (seen : Seen) (fault : Failed) (a b : Counts)
    (told tells last : Option (List ℕ)) (pages fills filled : ℕ) (notes_wanted : Bool) (notes_on : List Note → Type 0)
    (begins after : List Taken → Type 0) (carried : Set → List Taken → State → Type 0)
    → Stepped m old now new seen a b told tells pages fills filled notes_wanted notes_on begins carried
    → AppendsFront tells last (lines_of (items_at now.step (whats seen))) → new.step ≤ bound → CarriesPast m carried
    → SliceAs m bound old new a b told last pages fills filled notes_wanted notes_on (record { before = begins; after = after }) (Err fault)
failed m bound old now new seen fault a b told tells last pages fills filled notes_wanted notes_on begins after carried s put le goes =
    record {
      sets = s.sets;
      reports = s.reports;
      last = with_set new s.whole;
      notes = s.notes;
      end = new.set;
      steps = s.steps;
      ends = le;
      text = stepped_front m old now new seen a b told tells last pages fills filled notes_wanted notes_on begins carried s put;
      counts = s.counts;
      told_notes = λ w. record {
        told = are_told m old s.sets s.notes (s.by w);
        are = are_notes m old s.sets new.step s.notes (tried_none old.step new.step s.notes s.so_far);
        two = s.so_far.few;
        held = none_held old.step new.step s.notes s.whole (tried_none old.step new.step s.notes s.so_far);
        ends = tt;
      };
      tells_notes = s.tells_notes;
      each_filled = filled_push pages fills filled s.sets new.set s.each_filled s.enough;
      kept = λ past b. kept_after_on m past old (with_set new s.whole) s.sets new.set s.reports s.steps (s.rule past b)
          (λ roomy. goes.next new.set (past ++ steps_by m old s.sets) (with_set new s.whole) (s.carries past b roomy) new.set (inl refl));
      left = λ past b. tt;
      carried = λ past b. tt;
    }

abbrev pub counted : ℕ → ℕ → Counts
counted retired passed = record { retired = retired; passed = passed }

pub counts_same : (retired retired' passed passed' : ℕ) → retired' ≡ retired → passed' ≡ passed
    → counted retired' passed' ≡ counted retired passed
counts_same retired retired' passed passed' r p = λ i. counted (r i) (p i)

-- a step after an empty stretch, whose events were given
pub turned : (m : Setting) (now mid new : State) (board : Board) (lost : Lost) (result : Result Seen Stop) (a b c : Counts)
    → mid ≡ record now { board = board } → board ≡ given now.board m.script now.step → b ≡ a
    → StepAs m mid lost result new b c → StepAs m (eventful m now) lost result new a c
turned m now mid new board lost result a b c is events same step =
    subst (λ (x : Counts). StepAs m (eventful m now) lost result new x c) same
    (subst (λ (d : Board). StepAs m (record now { board = d }) lost result new b c) events
    (subst (λ (x : State). StepAs m x lost result new b c) is step))

-- notes go on with those of one step more
pub notes_on_more : (notes_wanted : Bool) (told tells last : List Note → Type 0) (more : List Note) → NotesOn notes_wanted tells last more
    → (notes : List Note) → NotesOn notes_wanted told tells notes → NotesOn notes_wanted told last (notes ++ more)
notes_on_more notes_wanted told tells last more on notes h w so_far here =
    subst last (append_assoc so_far notes more) (on w (so_far ++ notes) (h w so_far here))

pub notes_on_none : (notes_wanted : Bool) (told : List Note → Type 0) → NotesOn notes_wanted told told []
notes_on_none notes_wanted told w so_far here = subst told (sym (append-nil so_far)) here
