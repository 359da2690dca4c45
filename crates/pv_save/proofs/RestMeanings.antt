-- The meaning of `save`.
use Rattle.std.proofs.Common.{◌≡◌, ◌⊎◌, inl, inr, ℕ, ◌<◌, ◌≤◌, Bool, List, [], ◌++◌, Option, Some, Result, Ok, Err, refl, sym, ap, subst, ◌∙◌, arith}
use Rattle.pv_io.specs.Causes.{Rose}
use Rattle.pv_io.specs.Files.{FileMap, Stores, ChangesAt}
use Rattle.pv_io.specs.Sink.{Appends, AppendsFront}
use Rattle.pv_io.proofs.Pieces.{appends_both}
use Rattle.ia32_types.specs.declared.stop.Stop as stops
use Rattle.image_load.specs.Boot.{need}
use Rattle.image_load.specs.declared.boot.TooSmall.{TooSmall}
use Rattle.image_load.specs.declared.fault.RunFault.{RunFault}
use Rattle.image_load.specs.declared.fault.RunFault.TheVariants as fault
use Rattle.run_trace.specs.declared.items.End.TheVariants as ends
use Rattle.run_trace.specs.Text.{lines_of, text_of}
use Rattle.machine_model.specs.State as model
use Rattle.machine_model.specs.State.{Setting, boot}
use Rattle.machine_model.specs.Step.{Report}
use Rattle.machine_model.specs.Run.{trace_of}
use Rattle.wedge_core.specs.Counts.{Counts, CountsOn}
use Rattle.checkpoint.specs.declared.state.State.{State}
use Rattle.checkpoint.specs.declared.rested.Rested.{Rested}
use Rattle.checkpoint.specs.declared.rested.Rested.TheVariants as rest
use Rattle.checkpoint.specs.States.{checkpoint_bytes, checkpoint_in}
use Rattle.checkpoint.specs.Moved.{kept_of}
use Rattle.checkpoint.specs.Rested.{RestsTo}
use Rattle.checkpoint.specs.RestAnswers.{RestsWith, RestsAs, RestsFromStart, NothingDone}
use Rattle.pv_save.specs.Checkpoints.{saved_line}
use Rattle.pv_build.specs.Lines.{too_small_line}
use Rattle.pv_build.specs.Telling.{Says, Whole, Cut, ToldAs}
use Rattle.pv_build.specs.Statuses.{status_of}
use Rattle.pv_build.specs.declared.status.Status.{Status}
use Rattle.pv_build.specs.declared.status.Status.TheVariants as status
use Rattle.pv_tasks.specs.Outside.{Outside}
use Rattle.pv_tasks.specs.Outcome.{Outcome, refused, told, HostDid}
use Rattle.pv_tasks.specs.Delivery.{Delivers, Stored, NotStored, NoMemory}
use Rattle.pv_save.specs.Leaving.{LeavesAs}
use Rattle.pv_save.specs.Resting.{PrintsLines}
use Rattle.pv_save.specs.Saving.{SavesRun, Rested as Rest, Stopped as Stop, RestsText, steps_on, saved_as}
use Rattle.pv_tasks.specs.Tasks.{Task, Means, HostDoes, TakesFirst, NoStore, NoPut, IsStored}
use Rattle.pv_words.specs.declared.mode.RunMode.{RunMode}
use Rattle.pv_words.specs.declared.mode.RunMode.TheVariants as mode
use Rattle.pv_tasks.proofs.Deliveries.{prints, says}

-- ---- what is counted

abbrev pub Did : RunMode → Setting → Outside → List Report → Type 0
Did on m o reports = HostDid (steps_on on m reports) o.before.completed o.after.completed o.after.memory

none_counted : (m : Setting) (c c2 : Counts) → CountsOn m [] c c2 → c2 ≡ c
none_counted m c c2 h =
    let same : c2.retired ≡ c.retired = omega (arith, h.retired) in
    λ i. record { retired = same i; passed = h.passed i }

-- a host that has done its part of no steps has done nothing
none_did : (on : RunMode) (m : Setting) (o : Outside) → Did on m o [] → o.after.completed ≡ o.before.completed
none_did mode.Bare m o h = h
none_did mode.Wedge m o h = none_counted m o.before.completed o.after.completed h

-- ---- what is stored

-- Its file is delivered over what the files held, and over what was taken and counted then.
pub delivered_behind : (task : Task) (o : Outside) (w : Outcome) (name bytes line : List ℕ) (mid : Option (List ℕ)) (middle : ℕ)
    (files : Option FileMap) (sure : Bool) (loads stores : ℕ) (c : Counts) (st : Status)
    → ((first : List ℕ) → Appends o.before.taken o.after.taken first → TakesFirst task.runs_first o.before.taken o.after.taken first)
    → (Appends o.before.taken o.after.taken w.first → task.half_done o) → w.status ≡ status.Done → w.stored ≡ Some (name, bytes)
    → w.text ≡ line → task.gives o.before.files w → HostDoes w o
    → Appends o.before.taken mid w.first → middle ≡ o.before.puts → files ≡ o.before.files → sure ≡ o.before.sure → stores ≡ o.before.stores
    → Delivers name bytes line status.Done
    (record o {
      before = record (o.before) {
        files = files;
        sure = sure;
        loads = loads;
        stores = stores;
        taken = mid;
        puts = middle;
        completed = c;
        memory = o.after.memory;
      };
    }) st → Means task o st
delivered_behind task o w name bytes line mid middle files sure loads stores c st takes only is stored_is text_is gives does first kept
    files_is sure_is stores_is (Stored s (Whole done appends same)) =
    let stored = subst (λ (x : Option (List ℕ × List ℕ)). IsStored x o.before.files o.after.files) (sym stored_is)
    (subst (λ (f : Option FileMap). Stores f o.after.files name bytes) files_is s) in
    let all = subst (λ (t : List ℕ). Appends o.before.taken o.after.taken (w.first ++ t)) (sym text_is)
    (appends_both o.before.taken mid o.after.taken w.first line first appends) in
    subst (λ (s : Status). Means task o s) (sym done) (prints task o w status.Done is tt gives stored all does)
delivered_behind task o w name bytes line mid middle files sure loads stores c st takes only is stored_is text_is gives does first kept
    files_is sure_is stores_is (Stored s (Cut cut front rose)) =
    let stored = subst (λ (x : Option (List ℕ × List ℕ)). IsStored x o.before.files o.after.files) (sym stored_is)
    (subst (λ (f : Option FileMap). Stores f o.after.files name bytes) files_is s) in
    subst (λ (s : Status). Means task o s) (sym cut)
    (inl (
      w,
      gives,
      NoPut mid stored first (subst (λ (t : List ℕ). AppendsFront mid o.after.taken t) (sym text_is) front)
          (subst (λ (x : ℕ). Rose x o.after.puts) kept rose),
    ))
delivered_behind task o w name bytes line mid middle files sure loads stores c st takes only is stored_is text_is gives does first kept
    files_is sure_is stores_is (NotStored failed changes rose unsure same) =
    subst (λ (s : Status). Means task o s) (sym failed)
    (inl (
      w,
      gives,
      NoStore name bytes stored_is (subst (λ (f : Option FileMap). ChangesAt f o.after.files name) files_is changes)
          (subst (λ (x : ℕ). Rose x o.after.stores) stores_is rose)
          (λ s. unsure (sure_is ∙ s)) (takes w.first (subst (λ (t : Option (List ℕ)). Appends o.before.taken t w.first) (sym same) first)),
    ))
delivered_behind task o w name bytes line mid middle files sure loads stores c st takes only is stored_is text_is gives does first kept
    files_is sure_is stores_is (NoMemory none same put) =
    subst (λ (s : Status). Means task o s) (sym none) (
      same ∙ files_is,
      inr (only (subst (λ (t : Option (List ℕ)). Appends o.before.taken t w.first) (sym put) first)),
    )

-- ---- a run that is to be saved

-- the outcome of such a task, and what it prints where the output fails
pub record Saves (task : Task) (o : Outside) (on : RunMode) (m : Setting) (n : ℕ) (old : model.State) (name : List ℕ) : Type 0 where
  pub gives : (w : Outcome) → SavesRun on m n old name w → task.gives o.before.files w
  pub begins : (text : List ℕ) → RestsText m n old text → task.begins o.before.files text
  pub takes : (first : List ℕ) → Appends o.before.taken o.after.taken first → TakesFirst task.runs_first o.before.taken o.after.taken first
  pub prints : PrintsLines on m n old o → task.half_done o

-- the outcome of a run that rests
abbrev work_of : RunMode → Setting → ℕ → List ℕ → model.State → List Report → Outcome
work_of on m n name last reports = saved_as name (checkpoint_bytes (kept_of last)) n (lines_of (trace_of reports)) (steps_on on m reports)

saves_rest : (on : RunMode) (m : Setting) (n : ℕ) (old : model.State) (name : List ℕ) (counts : List Report → Type 0)
    (a b : Option (List ℕ)) (before now : ℕ) (last : model.State) → (h : RestsWith m n old counts a b before now last)
    → checkpoint_in (checkpoint_bytes (kept_of last)) ≡ Ok (kept_of last)
    → SavesRun on m n old name (work_of on m n name last h.rests.reports)
saves_rest on m n old name counts a b before now last h back =
    Rest (record {
      sets = h.rests.sets;
      reports = h.rests.reports;
      last = last;
      run = h.rests.run;
      size = h.size;
      back = back;
      comes = refl;
    })

lines_put : (m : Setting) (n : ℕ) (old : model.State) (counts : List Report → Type 0) (a b : Option (List ℕ)) (before now : ℕ)
    (last : model.State) → (h : RestsWith m n old counts a b before now last)
    → Appends a b (lines_of (trace_of h.rests.reports))
lines_put m n old counts a b before now last h = subst (λ (t : List ℕ). Appends a b t) h.rests.text_is h.put

-- the lines that were put are those of such a run
lines_print : (o : Outside) (on : RunMode) (m : Setting) (n : ℕ) (old : model.State) (mid : Option (List ℕ)) (middle : ℕ)
    (last : model.State)
    → (h : RestsWith m n old (Did on m o) o.before.taken mid o.before.puts middle last) → Appends o.before.taken o.after.taken h.text
    → PrintsLines on m n old o
lines_print o on m n old mid middle last h put = (last, h.text, h.rests, put)

rest_means : (task : Task) (o : Outside) (on : RunMode) (m : Setting) (n : ℕ) (old : model.State) (name : List ℕ) (mid : Option (List ℕ))
    (middle : ℕ) (files : Option FileMap) (sure : Bool) (loads stores : ℕ) (c : Counts) (st : Status) (last : model.State) (state : State)
    → Saves task o on m n old name → files ≡ o.before.files → sure ≡ o.before.sure → stores ≡ o.before.stores
    → RestsWith m n old (Did on m o) o.before.taken mid o.before.puts middle last → state ≡ kept_of last
    → Delivers name (checkpoint_bytes state) (saved_line state.step) status.Done
    (record o {
      before = record (o.before) {
        files = files;
        sure = sure;
        loads = loads;
        stores = stores;
        taken = mid;
        puts = middle;
        completed = c;
        memory = o.after.memory;
      };
    }) st
    → checkpoint_in (checkpoint_bytes state) ≡ Ok state → Means task o st
rest_means task o on m n old name mid middle files sure loads stores c st last state k files_is sure_is stores_is h is done back =
    let there =
    subst (λ (s : State). Delivers name (checkpoint_bytes s) (saved_line s.step) status.Done
    (record o {
      before = record (o.before) {
        files = files;
        sure = sure;
        loads = loads;
        stores = stores;
        taken = mid;
        puts = middle;
        completed = c;
        memory = o.after.memory;
      };
    }) st) is done in
    let read = subst (λ (s : State). checkpoint_in (checkpoint_bytes s) ≡ Ok s) is back in
    let w = work_of on m n name last h.rests.reports in
    delivered_behind task o w name (checkpoint_bytes (kept_of last)) (saved_line last.step) mid middle files sure loads stores c st k.takes
    (λ put. k.prints (lines_print o on m n old mid middle last h
    (subst (λ (t : List ℕ). Appends o.before.taken o.after.taken t) (sym h.rests.text_is) put))) refl refl
    (ap saved_line (sym h.rests.run.ends))
    (k.gives w (saves_rest on m n old name (Did on m o) o.before.taken mid o.before.puts middle last h read)) h.rests.counted
    (lines_put m n old (Did on m o) o.before.taken mid o.before.puts middle last h) h.kept files_is sure_is stores_is there

-- the run has stopped
stop_means : (task : Task) (o : Outside) (on : RunMode) (m : Setting) (n : ℕ) (old : model.State) (name : List ℕ) (mid : Option (List ℕ))
    (st : Status) (last : model.State) (stop : stops.Stop) (text : List ℕ)
    → Saves task o on m n old name → RestsTo m n old (Did on m o) text last (ends.Stopped stop) → Appends o.before.taken mid text
    → st ≡ status.Stopped → o.after.taken ≡ mid → o.after.files ≡ o.before.files
    → Means task o st
stop_means task o on m n old name mid st last stop text k h put is same files =
    let w = told status.Stopped (text_of (trace_of h.reports) last.step (ends.Stopped stop)) (steps_on on m h.reports) in
    let gives = k.gives w (Stop (record { sets = h.sets; reports = h.reports; last = last; stop = stop; run = h.run; comes = refl })) in
    let all = subst (λ (t : Option (List ℕ)). Appends o.before.taken t w.text) (sym same)
    (subst (λ (t : List ℕ). Appends o.before.taken mid t) h.text_is put) in
    subst (λ (s : Status). Means task o s) (sym is) (prints task o w status.Stopped refl tt gives files all h.counted)

-- the output failed within it
cut_means : (task : Task) (o : Outside) (on : RunMode) (m : Setting) (n : ℕ) (old : model.State) (name : List ℕ) (mid : Option (List ℕ))
    (middle : ℕ) (st : Status) (text : List ℕ)
    → Saves task o on m n old name → RestsText m n old text → AppendsFront o.before.taken mid text → Rose o.before.puts middle
    → st ≡ status.WriteFault → o.after.taken ≡ mid → o.after.puts ≡ middle → o.after.files ≡ o.before.files
    → Means task o st
cut_means task o on m n old name mid middle st text k h front rose is same count files =
    subst (λ (s : Status). Means task o s) (sym is)
    (inr (record {
      text = text;
      begins = k.begins text h;
      same = files;
      front = subst (λ (t : Option (List ℕ)). AppendsFront o.before.taken t text) (sym same) front;
      rose = subst (λ (x : ℕ). Rose o.before.puts x) (sym count) rose;
    }))

-- no memory was found for it
nothing_means : (task : Task) (o : Outside) (on : RunMode) (m : Setting) (mid : Option (List ℕ)) (middle : ℕ) (st : Status)
    → NothingDone (Did on m o) o.before.taken mid o.before.puts middle → st ≡ status.Memory → o.after.taken ≡ mid
    → o.after.files ≡ o.before.files → Means task o st
nothing_means task o on m mid middle st none is same files =
    subst (λ (s : Status). Means task o s) (sym is) (files, inl (same ∙ none.0, (none_did on m o none.2)))

-- or none for its state
unkept_means : (task : Task) (o : Outside) (on : RunMode) (m : Setting) (n : ℕ) (old : model.State) (mid : Option (List ℕ)) (middle : ℕ)
    (st : Status) (last : model.State)
    → (PrintsLines on m n old o → task.half_done o) → RestsWith m n old (Did on m o) o.before.taken mid o.before.puts middle last
    → st ≡ status.Memory → o.after.taken ≡ mid → o.after.files ≡ o.before.files → Means task o st
unkept_means task o on m n old mid middle st last only h is same files =
    subst (λ (s : Status). Means task o s) (sym is) (
      files,
      inr (only (lines_print o on m n old mid middle last h
          (subst (λ (t : Option (List ℕ)). Appends o.before.taken t h.text) (sym same) h.put))),
    )

-- Of a run that rests no put has failed, unless its output did.
pub rests_kept : (m : Setting) (n : ℕ) (first : model.State) (counts : List Report → Type 0) (old new : Option (List ℕ)) (before now : ℕ)
    (r : Result Rested RunFault) → RestsAs m n first counts old new before now r
    → (now ≡ before) ⊎ (r ≡ Err fault.Write)
rests_kept m n first counts old new before now (Ok (rest.At state)) h = inl h.1.kept
rests_kept m n first counts old new before now (Ok (rest.Stopped ended)) h = inl h.7
rests_kept m n first counts old new before now (Err fault.Write) h = inr refl
rests_kept m n first counts old new before now (Err (fault.TooSmall small)) h = absurd h
rests_kept m n first counts old new before now (Err fault.Memory) (inl none) = inl none.1
rests_kept m n first counts old new before now (Err fault.Memory) (inr lines) = inl lines.1.kept

pub starts_kept : (m : Setting) (n : ℕ) (counts : List Report → Type 0) (old new : Option (List ℕ)) (before now : ℕ)
    (r : Result Rested RunFault) → RestsFromStart m n counts old new before now r
    → (now ≡ before) ⊎ (r ≡ Err fault.Write)
starts_kept m n counts old new before now (Ok rested) h = rests_kept m n (boot m) counts old new before now (Ok rested) h.1
starts_kept m n counts old new before now (Err fault.Write) h = inr refl
starts_kept m n counts old new before now (Err (fault.TooSmall small)) h = inl h.2.1
starts_kept m n counts old new before now (Err fault.Memory) (inl none) = inl none.1
starts_kept m n counts old new before now (Err fault.Memory) (inr (fits, lines)) = inl lines.1.kept

-- and that is reported as a write fault
pub left_kept : (before now : ℕ) (r : Result Rested RunFault) (name : List ℕ) (o : Outside) (st : Status) → (now ≡ before)
    ⊎ (r ≡ Err fault.Write) → LeavesAs r name o st → (now ≡ before) ⊎ (st ≡ status.WriteFault)
left_kept before now r name o st (inl same) left = inl same
left_kept before now r name o st (inr is) left = let cut =
    subst (λ (x : Result Rested RunFault). LeavesAs x name o st) is left in inr cut.0.0

-- what a run answers, and how that is reported
pub rested_means : (task : Task) (o : Outside) (on : RunMode) (m : Setting) (n : ℕ) (old : model.State) (name : List ℕ)
    (mid : Option (List ℕ)) (middle : ℕ) (files : Option FileMap) (sure : Bool) (loads stores : ℕ) (c : Counts)
    (r : Result Rested RunFault) (st : Status)
    → Saves task o on m n old name → files ≡ o.before.files → sure ≡ o.before.sure → stores ≡ o.before.stores
    → RestsAs m n old (Did on m o) o.before.taken mid o.before.puts middle r
    → LeavesAs r name (record o {
      before = record (o.before) {
        files = files;
        sure = sure;
        loads = loads;
        stores = stores;
        taken = mid;
        puts = middle;
        completed = c;
        memory = o.after.memory;
      };
    }) st → Means task o st
rested_means task o on m n old name mid middle files sure loads stores c (Ok (rest.At state)) st k files_is sure_is stores_is h
    (inl (done, back)) =
    rest_means task o on m n old name mid middle files sure loads stores c st h.0 state k files_is sure_is stores_is h.1 h.2 done back
rested_means task o on m n old name mid middle files sure loads stores c (Ok (rest.At state)) st k files_is sure_is stores_is h (inr none) =
    unkept_means task o on m n old mid middle st h.0 k.prints h.1 none.0 none.1 (none.2 ∙ files_is)
rested_means task o on m n old name mid middle files sure loads stores c (Ok (rest.Stopped ended)) st k files_is sure_is stores_is h left =
    stop_means task o on m n old name mid st h.0 h.1 h.2 k h.3 h.6 (left.0.0 ∙ ap status_of h.5) left.0.1 (left.1 ∙ files_is)
rested_means task o on m n old name mid middle files sure loads stores c (Err fault.Write) st k files_is sure_is stores_is h left =
    cut_means task o on m n old name mid middle st h.2 k (h.0, h.1, h.3) h.4 h.5 left.0.0 left.0.1 left.0.2 (left.1 ∙ files_is)
rested_means task o on m n old name mid middle files sure loads stores c (Err (fault.TooSmall small)) st k files_is sure_is
    stores_is h left = absurd h
rested_means task o on m n old name mid middle files sure loads stores c (Err fault.Memory) st k files_is sure_is
    stores_is (inl none) left =
    nothing_means task o on m mid middle st none left.0.0 left.0.1 (left.1 ∙ files_is)
rested_means task o on m n old name mid middle files sure loads stores c (Err fault.Memory) st k files_is sure_is
    stores_is (inr lines) left =
    unkept_means task o on m n old mid middle st lines.0 k.prints lines.1 left.0.0 left.0.1 (left.1 ∙ files_is)

-- the line of memory that is too small was put, or no memory was found for it
small_means : (task : Task) (o : Outside) (on : RunMode) (m : Setting) (mid : Option (List ℕ)) (middle : ℕ) (small : TooSmall) (st : Status)
    → task.gives o.before.files (refused (too_small_line small.need small.have)) → NothingDone (Did on m o) o.before.taken mid o.before.puts
    middle → ToldAs (Err (fault.TooSmall small)) mid o.after.taken middle o.after.puts st
    → o.after.files ≡ o.before.files → Means task o st
small_means task o on m mid middle small st gives none (inl said) files =
    let line = too_small_line small.need small.have in
    says task o (refused line) st tt refl gives files (λ end. none_did on m o none.2)
    (subst (λ (x : ℕ). Says line status.Refused o.before.taken o.after.taken x o.after.puts st) none.1
    (subst (λ (t : Option (List ℕ)). Says line status.Refused t o.after.taken middle o.after.puts st) none.0 said))
small_means task o on m mid middle small st gives none (inr less) files =
    subst (λ (s : Status). Means task o s) (sym less.0) (files, inl (less.1 ∙ none.0, (none_did on m o none.2)))

-- the same of a run from the start
pub started_means : (task : Task) (o : Outside) (on : RunMode) (m : Setting) (n : ℕ) (name : List ℕ) (mid : Option (List ℕ)) (middle : ℕ)
    (files : Option FileMap) (sure : Bool) (loads stores : ℕ) (c : Counts) (r : Result Rested RunFault) (st : Status)
    → (need m.image ≤ m.frames → Saves task o on m n (boot m) name)
    → (m.frames < need m.image → task.gives o.before.files (refused (too_small_line (need m.image) m.frames)))
    → files ≡ o.before.files → sure ≡ o.before.sure → stores ≡ o.before.stores → RestsFromStart m n (Did on m o) o.before.taken mid
    o.before.puts middle r
    → LeavesAs r name (record o {
      before = record (o.before) {
        files = files;
        sure = sure;
        loads = loads;
        stores = stores;
        taken = mid;
        puts = middle;
        completed = c;
        memory = o.after.memory;
      };
    }) st → Means task o st
started_means task o on m n name mid middle files sure loads stores c (Ok rested) st k small files_is sure_is stores_is h left =
    rested_means task o on m n (boot m) name mid middle files sure loads stores c (Ok rested) st (k h.0) files_is sure_is stores_is h.1 left
started_means task o on m n name mid middle files sure loads stores c (Err fault.Write) st k small files_is sure_is stores_is h left =
    rested_means task o on m n (boot m) name mid middle files sure loads stores c (Err fault.Write) st (k h.0) files_is
    sure_is stores_is h.1 left
started_means task o on m n name mid middle files sure loads stores c (Err (fault.TooSmall why)) st k small files_is
    sure_is stores_is h left =
    small_means task o on m mid middle why st (subst (λ (s : TooSmall). task.gives o.before.files (refused (too_small_line s.need s.have)))
    (sym h.1) (small h.0)) h.2 left.0 (left.1 ∙ files_is)
started_means task o on m n name mid middle files sure loads stores c (Err fault.Memory) st k small files_is sure_is
    stores_is (inl none) left =
    nothing_means task o on m mid middle st none left.0.0 left.0.1 (left.1 ∙ files_is)
started_means task o on m n name mid middle files sure loads stores c (Err fault.Memory) st k small files_is sure_is stores_is
    (inr (fits, lines)) left =
    unkept_means task o on m n (boot m) mid middle st lines.0 (k fits).prints lines.1 left.0.0 left.0.1 (left.1 ∙ files_is)
