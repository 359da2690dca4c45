-- The meaning of `work`.
use Rattle.std.proofs.Common.{◌≡◌, ◌≢◌, inl, inr, ℕ, List, [], ◌++◌, Option, Some, None, Result, Ok, Err, refl, sym, ap, subst, ◌∙◌, arith}
use Rattle.kernel_gen.specs.Kernels.{kernel_text}
use Rattle.image_check.specs.Image.{Image}
use Rattle.board.specs.Scripts.{Events}
use Rattle.run_trace.specs.declared.items.End.{End}
use Rattle.run_trace.specs.declared.items.Ended.{Ended}
use Rattle.machine_model.specs.Run.{stopping}
use Rattle.wedge_core.specs.Counts.{Counts}
use Rattle.wedge_core.specs.Promises.{Promise, HasOwnFills}
use Rattle.wedge_core.proofs.AnsweredBy.{WedgeAnswers}
use Rattle.pv_build.specs.Telling.{RefusesAs, Says, Whole, Cut, Ends, TellsBoth}
use Rattle.pv_build.specs.Building.{Builds, built_of}
use Rattle.pv_build.specs.Comparing.{told_line, compared_line}
use Rattle.pv_build.specs.declared.halt.Halt.{Halt}
use Rattle.pv_build.specs.declared.halt.Halt.TheVariants as halt
use Rattle.pv_build.specs.declared.status.Status.{Status}
use Rattle.pv_build.specs.declared.status.Status.TheVariants as status
use Rattle.pv_tasks.specs.Outside.{Outside}
use Rattle.pv_tasks.specs.Outcome.{Outcome, HostedRun, refused, compared}
use Rattle.pv_tasks.specs.Running.{Ran, Small}
use Rattle.pv_tasks.specs.Working.{first_text, second_setting, RunsTwice, WorksOn, Works, work_task}
use Rattle.pv_tasks.specs.Worked.{HasTexts, IsTooLarge, WorkedAs}
use Rattle.pv_tasks.specs.Faulting.{PutsEnd}
use Rattle.pv_tasks.specs.Tasks.{Means}
use Rattle.pv_tasks.proofs.Around.{around_of}
use Rattle.pv_tasks.proofs.Deliveries.{says_told}
use Rattle.pv_tasks.proofs.Faults.{puts_said}
use Rattle.pv_tasks.proofs.Works.{IsEnd, IsTold}
use Rattle.pv_tasks.proofs.BurnMeanings.{said_once}
use Rattle.pv_tasks.proofs.RunMeanings.{text_at}

-- ---- what a kernel is built into

pub builds_once : (text : List ℕ) (r s : Result Image (List ℕ)) → Builds text r → Builds text s → s ≡ r
builds_once text r s h k = k.comes ∙ (ap built_of (said_once text k.said h.said k.says h.says) ∙ sym h.comes)

-- ---- what the second run answers

some_same : (a b : List ℕ) → Some a ≡ Some b → a ≡ b
some_same a b is = cc

-- of a sink that had taken nothing
pub second_ran : (image : Image) (events : Events) (old text : List ℕ) (before now : ℕ) (c c2 : Counts) (memory : List ℕ) (ended : Ended)
    → events ≡ [] → old ≡ []
    → WedgeAnswers image events 4096 100000 512 (Some old) (Some text) before now c c2 memory (Ok ended)
    → (count : ℕ) × (end : End) × (run : Promise (second_setting image) 100000 512 text count end c c2 memory)
    × HasOwnFills (second_setting image) 100000 512 run.sets run.last end run.run.ends ended.fills
second_ran image events old text before now c c2 memory ended none first answers =
    let h = subst (λ (e : Events). WedgeAnswers image e 4096 100000 512 (Some old) (Some text) before now c c2 memory (Ok ended)) none
    answers in
    let is : h.0 ≡ text = sym (some_same text (old ++ h.0) h.4 ∙ ap (λ (l : List ℕ). l ++ h.0) first) in
    let m = second_setting image in
    let moved = subst (λ (t : List ℕ). (run : Promise m 100000 512 t ended.steps ended.end c c2 memory) × HasOwnFills m 100000 512 run.sets
    run.last ended.end run.run.ends ended.fills) is (h.1, h.3) in
    (ended.steps, ended.end, moved.0, moved.1)

-- ---- what is printed

-- work that has ended with a refusal, or without memory
pub work_ends : (number : ℕ) (told : List ℕ → Type 0) (h : Halt) (old new : Option (List ℕ)) (before now : ℕ) (c c2 : Counts)
    (memory : List ℕ) (st : Status) → RefusesAs told h
    → ((line : List ℕ) → told line → Works number (refused line) × (c2 ≡ c)) → Ends h old new before now st
    → WorkedAs number (around_of old new before now c c2) memory st
work_ends number told (halt.Refused line) old new before now c c2 memory st is to ends =
    let both = to line is in
    inl (refused line, both.0, ends, λ end. both.1)
work_ends number told halt.ReadFault old new before now c c2 memory st is to ends = absurd is
work_ends number told halt.Memory old new before now c c2 memory st is to ends = inr ends

pub refuses_kernel : (number : ℕ) (line : List ℕ) → Builds (kernel_text number) (Err line) → Works number (refused line)
refuses_kernel number line h = record { made = Err line; builds = h; comes = refl }

pub too_large : (number : ℕ) (image : Image) (c c2 : Counts) (line : List ℕ) → Builds (kernel_text number) (Ok image)
    → IsTooLarge image c c2 line → Works number (refused line) × (c2 ≡ c)
too_large number image c c2 line h large = (record { made = Ok image; builds = h; comes = Small large.0 (ap refused large.1) }, large.2)

-- both runs were reported
pub work_tells : (number : ℕ) (image : Image) (first second : List ℕ) (fills : ℕ) (old new : Option (List ℕ)) (before now : ℕ)
    (c c2 : Counts) (memory : List ℕ) (st : Status)
    → Builds (kernel_text number) (Ok image) → HasTexts image first second fills c c2 memory
    → TellsBoth (told_line number image second fills) first second old new before now st
    → WorkedAs number (around_of old new before now c c2) memory st
work_tells number image first second fills old new before now c c2 memory st h t (inl said) =
    let p = t.promise in
    let stopped = stopping (second_setting image) 100000 p.last t.end p.run.ends in
    let run : HostedRun = record { setting = second_setting image; sets = p.sets; reports = p.reports; last = p.last; end = t.end } in
    let text = told_line number image second fills ++ compared_line (first_text image) second in
    let twice : RunsTwice number image (compared run stopped text) = record {
      sets = p.sets;
      reports = p.reports;
      last = p.last;
      end = t.end;
      run = p.run;
      second = second;
      second_is = text_at p.reports second t.count p.last.step t.end p.text_is p.count_is;
      fills = fills;
      filled = t.filled;
      comes = refl;
    } in
    let says = subst (λ (f : List ℕ). Says (told_line number image second fills ++ compared_line f second) status.Done old new before now
    st) t.first_is said in
    inl (
      compared run stopped text,
      record { made = Ok image; builds = h; comes = Ran t.fits twice },
      says,
      λ end. (p.counts, p.memory_is, p.kept refl),
    )
work_tells number image first second fills old new before now c c2 memory st h t (inr none) = inr none

-- ---- what the outcomes are

on_end : (number : ℕ) (made : Result Image (List ℕ)) (w : Outcome) → WorksOn number made w → IsEnd w.status
on_end number (Ok image) w (Ran fits run) = subst (λ (v : Outcome). IsEnd v.status) (sym run.comes) tt
on_end number (Ok image) w (Small lt is) = subst (λ (v : Outcome). IsEnd v.status) (sym is) tt
on_end number (Err line) w is = subst (λ (v : Outcome). IsEnd v.status) (sym is) tt

works_end : (number : ℕ) (w : Outcome) → Works number w → IsEnd w.status
works_end number w h = on_end number h.made w h.comes

not_refused : status.Done ≡ status.Refused → ⊥
not_refused is = cc

on_told : (number : ℕ) (made : Result Image (List ℕ)) (w : Outcome) → WorksOn number made w → IsTold w
on_told number (Ok image) w (Ran fits run) = subst IsTold (sym run.comes) refl
on_told number (Ok image) w (Small lt is) = subst IsTold (sym is) refl
on_told number (Err line) w is = subst IsTold (sym is) refl

-- `work` prints one text, and stores nothing
pub works_told : (number : ℕ) (w : Outcome) → Works number w → IsTold w
works_told number w h = on_told number h.made w h.comes

pub works_none : (number : ℕ) (w : Outcome) → Works number w → w.stored ≡ None
works_none number w h = ap (λ (v : Outcome). v.stored) (works_told number w h)

on_refusal : (number : ℕ) (made : Result Image (List ℕ)) (w : Outcome) → WorksOn number made w → w.status ≡ status.Refused
    → w ≡ refused w.text
on_refusal number (Ok image) w (Ran fits run) is = absurd (not_refused (sym (ap (λ (v : Outcome). v.status) run.comes) ∙ is))
on_refusal number (Ok image) w (Small lt one) is = subst (λ (v : Outcome). v ≡ refused v.text) (sym one) refl
on_refusal number (Err line) w one is = subst (λ (v : Outcome). v ≡ refused v.text) (sym one) refl

pub works_refusal : (number : ℕ) (w : Outcome) → Works number w → w.status ≡ status.Refused → w ≡ refused w.text
works_refusal number w h is = on_refusal number h.made w h.comes is

on_once : (number : ℕ) (made : Result Image (List ℕ)) (w v : Outcome) → w.status ≡ status.Refused → WorksOn number made w
    → WorksOn number made v → v ≡ w
on_once number (Ok image) w v is (Small lt one) (Small le two) = two ∙ sym one
on_once number (Ok image) w v is (Small lt one) (Ran fits run) = absurd (omega (arith, lt, fits))
on_once number (Ok image) w v is (Ran fits run) other = absurd (not_refused (sym (ap (λ (u : Outcome). u.status) run.comes) ∙ is))
on_once number (Err line) w v is one two = two ∙ sym one

-- `work` that is refused has no other outcome
pub works_once : (number : ℕ) (w v : Outcome) → w.status ≡ status.Refused → Works number w → Works number v → v ≡ w
works_once number w v is h k =
    let same = builds_once (kernel_text number) h.made k.made h.builds k.builds in
    on_once number h.made w v is h.comes (subst (λ (m : Result Image (List ℕ)). WorksOn number m v) same k.comes)

-- ---- what the status means

pub work_means : (number : ℕ) (o : Outside) (st : Status) → o.after.files ≡ o.before.files
    → WorkedAs number (around_of o.before.taken o.after.taken o.before.puts o.after.puts o.before.completed o.after.completed)
    o.after.memory st → Means (work_task number) o st
work_means number o st same (inl (w, h, said, does)) =
    says_told (work_task number) o w st (works_end number w h) (works_told number w h) h same does said
work_means number o st same (inr (is, none, count)) = subst (λ (x : Status). Means (work_task number) o x) (sym is) (same, inr none)

said_no_read : (w : Outcome) (old new : Option (List ℕ)) (before now : ℕ) (st : Status) → IsEnd w.status
    → Says w.text w.status old new before now st → st ≢ status.ReadFault
said_no_read w old new before now st end (Whole is appends kept) = λ read. subst (λ (s : Status). IsEnd s) (sym is ∙ read) end
said_no_read w old new before now st end (Cut is front rose) = λ read. cc (is, read)

-- no load fails
pub work_no_read : (number : ℕ) (old new : Option (List ℕ)) (before now : ℕ) (c c2 : Counts) (memory : List ℕ) (st : Status)
    → WorkedAs number (around_of old new before now c c2) memory st → st ≢ status.ReadFault
work_no_read number old new before now c c2 memory st (inl (w, h, said, does)) =
    said_no_read w old new before now st (works_end number w h) said
work_no_read number old new before now c c2 memory st (inr (is, none, count)) = λ read. cc (is, read)

-- a put that failed ends the work as a write fault
pub work_puts : (number : ℕ) (old new : Option (List ℕ)) (before now : ℕ) (c c2 : Counts) (memory : List ℕ) (st : Status)
    → WorkedAs number (around_of old new before now c c2) memory st → PutsEnd before now st
work_puts number old new before now c c2 memory st (inl (w, h, said, does)) = puts_said w.text w.status old new before now st said
work_puts number old new before now c c2 memory st (inr (is, none, count)) = λ write. count
