-- The meaning of `prove`.
use Rattle.std.proofs.Common.{◌≡◌, ◌⊎◌, inl, inr, ℕ, ◌≤◌, ◌<◌, Bool, true, false, List, length, Option, Some, None, Ok, Err, refl, sym, ap, subst, ◌∙◌, arith}
use Rattle.std.specs.Prelude.{if◌then◌else◌}
use Rattle.std.proofs.lemmas.Bool.{le-leb, lt-leb}
use Rattle.pv_io.specs.Causes.{Rose}
use Rattle.pv_io.specs.Files.{FileMap, Stores}
use Rattle.pv_io.specs.Sink.{Appends, AppendsFront}
use Rattle.pv_io.specs.declared.files.Files as disk
use Rattle.pv_io.specs.declared.sink.Sink as sink
use Rattle.pv_io.proofs.Pieces.{appends_both}
use Rattle.host_cpl3.specs.declared.host.Host as hosts
use Rattle.board.specs.Scripts.{Events}
use Rattle.image_check.specs.Image.{Image}
use Rattle.image_load.specs.declared.fault.RunFault.{RunFault}
use Rattle.image_load.specs.declared.fault.RunFault.TheVariants as fault
use Rattle.run_trace.specs.declared.items.Ended.{Ended}
use Rattle.run_trace.specs.Notes.{Note}
use Rattle.machine_model.specs.State.{wedge}
use Rattle.trace_check.proofs.NotedRuns.{around_of}
use Rattle.trace_check.specs.Form.{choices_bytes, most_choices}
use Rattle.trace_check.specs.ChoicesTold.{choices_of}
use Rattle.trace_check.specs.NotesKept.{KeptChoices, AreKept}
use Rattle.trace_check.specs.Proved.{IsProved}
use Rattle.trace_check.specs.Noted.{NotedAnswers}
use Rattle.pv_prove.specs.CertificateLines.{certificate_line, no_certificate_line}
use Rattle.pv_build.specs.Lines.{too_small_line}
use Rattle.pv_build.specs.Images.{HasImage}
use Rattle.pv_build.specs.Scripts.{HasScript}
use Rattle.pv_build.specs.Readings.{OnlyRead}
use Rattle.pv_build.specs.Telling.{Says, Whole, Cut, ToldAs}
use Rattle.pv_build.specs.Statuses.{status_of}
use Rattle.pv_build.specs.declared.status.Status.{Status}
use Rattle.pv_build.specs.declared.status.Status.TheVariants as status
use Rattle.pv_tasks.specs.Outside.{Outside, outside}
use Rattle.pv_tasks.specs.Unread.{NotRead}
use Rattle.pv_tasks.specs.Faulting.{PutsEnd}
use Rattle.pv_tasks.specs.Outcome.{Outcome, HostedRun, refused, run_text}
use Rattle.pv_tasks.specs.Running.{RunsOn, Ran, Small, Runs}
use Rattle.pv_prove.specs.Proving.{are_few, certificate_file, certificate_told, proved_as, ProvesRun, prove_task, PrintsOnly}
use Rattle.pv_prove.specs.Certifying.{Certifies, TooMany, Delivered}
use Rattle.pv_tasks.specs.Delivery.{Stored, NotStored, NoMemory}
use Rattle.pv_tasks.specs.Tasks.{Task, Means, IsStored, HostDoes, NoStore, NoPut, FaultCounts}
use Rattle.pv_tasks.proofs.Deliveries.{prints, says}
use Rattle.pv_tasks.proofs.Faults.{puts_since, puts_told}
use Rattle.pv_tasks.proofs.RunMeanings.{text_at, has_ended}
use Rattle.pv_tasks.proofs.Works.{WithFrames, IsEnd, ended_is_end, with_both}

-- ---- the certificate

saved_none : (name : List ℕ) (notes : List Note) (old new : Option FileMap) → are_few notes ≡ false → new ≡ old
    → IsStored (certificate_file name notes) old new
saved_none name notes old new few same =
    subst (λ (b : Bool). IsStored (if b then Some (name, choices_bytes (choices_of notes)) else None) old new) (sym few) same

saved_some : (name : List ℕ) (notes : List Note) (old new : Option FileMap) → are_few notes ≡ true
    → Stores old new name (choices_bytes (choices_of notes)) → IsStored (certificate_file name notes) old new
saved_some name notes old new few stores =
    subst (λ (b : Bool). IsStored (if b then Some (name, choices_bytes (choices_of notes)) else None) old new) (sym few) stores

is_saved : (name : List ℕ) (notes : List Note) → are_few notes ≡ true
    → certificate_file name notes ≡ Some (name, choices_bytes (choices_of notes))
is_saved name notes few = ap (λ (b : Bool). if b then Some (name, choices_bytes (choices_of notes)) else None) few

none_told : (notes : List Note) → are_few notes ≡ false → no_certificate_line ≡ certificate_told notes
none_told notes few = sym (ap (λ (b : Bool). if b then certificate_line (length notes) else no_certificate_line) few)

some_told : (notes : List Note) → are_few notes ≡ true → certificate_line (length notes) ≡ certificate_told notes
some_told notes few = sym (ap (λ (b : Bool). if b then certificate_line (length notes) else no_certificate_line) few)

-- the run's text was put, and then the line
line_told : (task : Task) (o : Outside) (w : Outcome) (line : List ℕ) (mid : Option (List ℕ)) (puts : ℕ) (st : Status) → IsEnd w.status
    → task.gives o.before.files w → IsStored w.stored o.before.files o.after.files → HostDoes w o
    → Appends o.before.taken mid w.first → puts ≡ o.before.puts → line ≡ w.text → Says line w.status mid o.after.taken puts o.after.puts
    st → Means task o st
line_told task o w line mid puts st end gives stored does first kept same (Whole is appends also) =
    subst (λ (s : Status). Means task o s) (sym is)
    (prints task o w w.status refl end gives stored
    (appends_both o.before.taken mid o.after.taken w.first w.text first (subst (Appends mid o.after.taken) same appends)) does)
line_told task o w line mid puts st end gives stored does first kept same (Cut is front rose) =
    subst (λ (s : Status). Means task o s) (sym is)
    (inl (
      w,
      gives,
      NoPut mid stored first (subst (λ (t : List ℕ). AppendsFront mid o.after.taken t) same front)
          (subst (λ (k : ℕ). Rose k o.after.puts) kept rose),
    ))

-- the outside of what is reported after a run whose text was put
abbrev pub behind : Outside → Option (List ℕ) → ℕ → Outside
behind o mid puts =
    record o { before = record (o.before) { taken = mid; puts = puts; completed = o.after.completed; memory = o.after.memory } }

-- what was reported of the certificate of a run whose text was put
certified : (image script : List ℕ) (frames n : ℕ) (name : List ℕ) (r : HostedRun) (notes : List Note) (o : Outside) (mid : Option (List ℕ))
    (puts : ℕ) (st : Status)
    → (prove_task image script frames n name).gives o.before.files (proved_as name r notes) → HostDoes (proved_as name r notes) o
    → Appends o.before.taken mid (run_text r) → puts ≡ o.before.puts
    → Certifies name notes (status_of r.end) (behind o mid puts) st → Means (prove_task image script frames n name) o st
certified image script frames n name r notes o mid puts st gives does first kept (TooMany few same said) =
    line_told (prove_task image script frames n name) o (proved_as name r notes) no_certificate_line mid puts st
    (ended_is_end (status_of r.end) (has_ended r.end)) gives (saved_none name notes o.before.files o.after.files few same) does first kept
    (none_told notes few) said
certified image script frames n name r notes o mid puts st gives does first kept (Delivered few (Stored stores said)) =
    line_told (prove_task image script frames n name) o (proved_as name r notes) (certificate_line (length notes)) mid puts st
    (ended_is_end (status_of r.end) (has_ended r.end)) gives (saved_some name notes o.before.files o.after.files few stores) does first kept
    (some_told notes few) said
certified image script frames n name r notes o mid puts st gives does first kept (Delivered few (NotStored is changes rose unsure same)) =
    let taken : Appends o.before.taken o.after.taken (run_text r) =
    subst (λ (t : Option (List ℕ)). Appends o.before.taken t (run_text r)) (sym same) first in
    subst (λ (s : Status). Means (prove_task image script frames n name) o s) (sym is)
    (inl (
      proved_as name r notes,
      gives,
      NoStore name (choices_bytes (choices_of notes)) (is_saved name notes few) changes rose unsure taken,
    ))
certified image script frames n name r notes o mid puts st gives does first kept (Delivered few (NoMemory is same put)) =
    subst (λ (s : Status). Means (prove_task image script frames n name) o s) (sym is) (
      same,
      inr (record {
        work = proved_as name r notes;
        given = gives;
        file = (name, choices_bytes (choices_of notes));
        would = is_saved name notes few;
        printed = subst (λ (t : Option (List ℕ)). Appends o.before.taken t (run_text r)) (sym put) first;
        does = does;
      }),
    )

-- ---- the run

-- the outcome of a run with an image and events
gives_proof : (files : Option FileMap) (image script : List ℕ) (frames n : ℕ) (name : List ℕ) (program : Image) (events : Events)
    (w : Outcome) → HasImage files image program → HasScript files script events
    → RunsOn (ProvesRun frames n name program events) program frames w → (prove_task image script frames n name).gives files w
gives_proof files image script frames n name program events w has says h =
    with_both (WithFrames (ProvesRun frames n name) frames) files image script program events w has says h

-- a run that was printed, and what was reported of its notes
pub proved : (image script : List ℕ) (frames n : ℕ) (name : List ℕ) (program : Image) (events : Events) (o : Outside)
    (mid : Option (List ℕ)) (puts : ℕ) (e : Ended) (kept : KeptChoices) (meant st : Status)
    → HasImage o.before.files image program → HasScript o.before.files script events
    → NotedAnswers program events frames n kept (around_of o.before.taken mid o.before.puts puts o.before.completed o.after.completed)
    o.after.memory (Ok e) → meant ≡ status_of e.end
    → ((told : List Note) → AreKept kept told → Certifies name told meant (behind o mid puts) st)
    → Means (prove_task image script frames n name) o st
proved image script frames n name program events o mid puts e kept meant st has says h is tells =
    let p = h.1 in
    let r : HostedRun = record { setting = wedge program events frames; sets = p.sets; reports = p.reports; last = p.last; end = e.end } in
    let text = text_at p.reports h.0 e.steps p.last.step e.end p.text_is p.count_is in
    let proves : ProvesRun frames n name program events (proved_as name r p.notes) = record {
      sets = p.sets;
      reports = p.reports;
      last = p.last;
      end = e.end;
      run = p.run;
      notes = p.notes;
      told = p.tells.told;
      stops = p.tells.stops;
      proved = subst (λ (t : List ℕ). IsProved program events frames n t e.end p.notes) text p.proved;
      are_notes = p.tells.are;
      behind = p.tells.behind;
      comes = refl;
    } in
    let gives = gives_proof o.before.files image script frames n name program events (proved_as name r p.notes) has says (Ran h.2 proves) in
    certified image script frames n name r p.notes o mid puts st gives (p.counts, p.memory_is)
    (subst (Appends o.before.taken mid) text h.4) h.5
    (subst (λ (m : Status). Certifies name p.notes m (behind o mid puts) st) is (tells p.notes p.tells.are_kept))

-- a run that was refused, or whose output failed
pub unproved : (image script : List ℕ) (frames n : ℕ) (name : List ℕ) (program : Image) (events : Events) (o : Outside)
    (mid : Option (List ℕ)) (puts : ℕ) (f : RunFault) (kept : KeptChoices) (st : Status)
    → HasImage o.before.files image program → HasScript o.before.files script events
    → NotedAnswers program events frames n kept (around_of o.before.taken mid o.before.puts puts o.before.completed o.after.completed)
    o.after.memory (Err f)
    → o.after.files ≡ o.before.files → ToldAs (Err f) mid o.after.taken puts o.after.puts st
    → Means (prove_task image script frames n name) o st
unproved image script frames n name program events o mid puts fault.Write kept st has read h same told =
    let g = h.4 in
    subst (λ (s : Status). Means (prove_task image script frames n name) o s) (sym told.0)
    (inr (record {
      text = h.0;
      begins = (
        program,
        events,
        has,
        read,
        h.3,
        record {
          sets = g.sets;
          reports = g.reports;
          last = g.last;
          end = h.2;
          run = g.run;
          text_is = text_at g.reports h.0 h.1 g.last.step h.2 g.text_is g.count_is;
        },
      );
      same = same;
      front = subst (λ (t : Option (List ℕ)). AppendsFront o.before.taken t h.0) (sym told.1) h.5;
      rose = subst (λ (k : ℕ). Rose o.before.puts k) (sym told.2) h.6;
    }))
unproved image script frames n name program events o mid puts (fault.TooSmall small) kept st has read h same (inl said) =
    let w = refused (too_small_line small.need small.have) in
    let gives = gives_proof o.before.files image script frames n name program events w has read
    (Small h.0 (ap (λ s. refused (too_small_line s.need s.have)) h.1)) in
    let here =
    subst (λ (k : ℕ). Says (too_small_line small.need small.have) status.Refused o.before.taken o.after.taken k o.after.puts st) h.2.1
    (subst (λ (t : Option (List ℕ)). Says (too_small_line small.need small.have) status.Refused t o.after.taken puts o.after.puts st) h.2.0
    said) in
    says (prove_task image script frames n name) o w st tt refl gives same (λ end. h.2.2) here
unproved image script frames n name program events o mid puts (fault.TooSmall small) kept st has read h same (inr none) =
    subst (λ (s : Status). Means (prove_task image script frames n name) o s) (sym none.0) (same, inl (none.1 ∙ h.2.0, h.2.2))
unproved image script frames n name program events o mid puts fault.Memory kept st has read h same told =
    subst (λ (s : Status). Means (prove_task image script frames n name) o s) (sym told.0) (same, inl (told.1 ∙ h.0, h.2))

-- a put that failed ended the work as a write fault
pub unproved_puts : (program : Image) (events : Events) (frames n : ℕ) (o : Outside) (mid : Option (List ℕ)) (puts : ℕ) (f : RunFault)
    (kept : KeptChoices) (st : Status)
    → NotedAnswers program events frames n kept (around_of o.before.taken mid o.before.puts puts o.before.completed o.after.completed)
    o.after.memory (Err f)
    → ToldAs (Err f) mid o.after.taken puts o.after.puts st → PutsEnd o.before.puts o.after.puts st
unproved_puts program events frames n o mid puts fault.Write kept st h told = λ write. absurd (write told.0)
unproved_puts program events frames n o mid puts (fault.TooSmall small) kept st h told = puts_since o.before.puts puts o.after.puts st
    (inl h.2.1) (puts_told (Err (fault.TooSmall small)) mid o.after.taken puts o.after.puts st told)
unproved_puts program events frames n o mid puts fault.Memory kept st h told = λ write. told.2 ∙ h.1

-- of a run that is done none has failed
pub proved_puts : (program : Image) (events : Events) (frames n : ℕ) (o : Outside) (mid : Option (List ℕ)) (puts : ℕ) (e : Ended)
    (kept : KeptChoices) (st : Status)
    → NotedAnswers program events frames n kept (around_of o.before.taken mid o.before.puts puts o.before.completed o.after.completed)
    o.after.memory (Ok e) → (puts ≡ o.before.puts) ⊎ (st ≡ status.WriteFault)
proved_puts program events frames n o mid puts e kept st h = inl h.5

-- no memory was found for the notes
pub unnoted : (image script : List ℕ) (frames n : ℕ) (name : List ℕ) (o : Outside) → o.after.files ≡ o.before.files
    → o.after.taken ≡ o.before.taken → o.after.completed ≡ o.before.completed
    → Means (prove_task image script frames n name) o status.Memory
unnoted image script frames n name o same put none = (same, inl (put, none))

-- ---- over the files as they were before they were read

-- what was printed alone says nothing of loads
only_since : (gives : Option FileMap → Outcome → Type 0) (o : Outside) (loads : ℕ) → PrintsOnly gives o
    → PrintsOnly gives (record o { before = record (o.before) { loads = loads } })
only_since gives o loads h = record { work = h.work; given = h.given; file = h.file; would = h.would; printed = h.printed; does = h.does }

pub prove_since : (image script : List ℕ) (frames n : ℕ) (name : List ℕ) (o : Outside) (loads : ℕ)
    → (prove_task image script frames n name).half_done o
    → (prove_task image script frames n name).half_done (record o { before = record (o.before) { loads = loads } })
prove_since image script frames n name o loads h =
    only_since (λ files w. Runs (ProvesRun frames n name) frames files image script w) o loads h

pub unread : {F : Type 0} (f : disk.Ghosts F) (a : F) → NotRead f a a
unread f a = record { same_sure = refl; same_loads = refl; later = omega arith; no_fault = λ sure. refl }

-- ---- how many notes there are

pub many : (notes : List Note) → most_choices < length notes → are_few notes ≡ false
many notes lt = lt-leb (length notes) most_choices lt

pub few : (notes : List Note) → length notes ≤ most_choices → are_few notes ≡ true
few notes le = le-leb (length notes) most_choices le
