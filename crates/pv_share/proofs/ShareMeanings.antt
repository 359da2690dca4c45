-- The meaning of `share`.
use Rattle.std.proofs.Common.{◌≡◌, ◌⊎◌, ◌||◌, inl, inr, false, ℕ, ◌<◌, get_or, drop, add-one, drop-cons, ◌+◌, ◌*◌, ◌≤◌, true, List, [], ◌∷◌, ◌++◌, arith, Option, Some, None, Result, Ok, Err, Vec, length, refl, sym, ap, subst, ◌∙◌}
use Rattle.std.specs.declared.alloc.Global.{Global}
use Rattle.std.specs.List.{flat_map, list_any}
use Rattle.std.proofs.lemmas.List.{append_assoc, drop_all}
use Rattle.pv_io.specs.Causes.{Rose}
use Rattle.pv_io.specs.Files.{FileMap}
use Rattle.pv_io.specs.Sink.{Appends, AppendsFront}
use Rattle.std.proofs.lemmas.Bool.Decides.{eqb_tells}
use Rattle.image_load.specs.declared.fault.RunFault.{RunFault}
use Rattle.run_trace.specs.declared.items.Ended.{Ended}
use Rattle.guest_sched.specs.declared.kernel.Kernel.{Kernel}
use Rattle.guest_sched.specs.declared.kernel.SharedFault.{SharedFault}
use Rattle.guest_sched.specs.declared.kernel.SharedFault.TheVariants as fault
use Rattle.guest_sched.specs.declared.schedule.Slice.{Slice}
use Rattle.guest_sched.specs.declared.fault.ScheduleCause.{ScheduleCause}
use Rattle.guest_sched.specs.Pieces.{piece_text, shared_text, counts_over}
use Rattle.guest_sched.specs.Shared.{sites_in, AllFit, LinesAreAlone}
use Rattle.guest_sched.specs.SharedRuns.{FailsInTurn, FailsAtEnd}
use Rattle.guest_sched.proofs.AnsweredBy.{SharedAnswers}
use Rattle.guest_sched.proofs.ReadAlone.{lines_alone}
use Rattle.pv_build.specs.Lines.{too_small_line}
use Rattle.pv_build.specs.Telling.{Whole, ToldAs}
use Rattle.pv_share.specs.Kernels.{HasKernels, IsShared}
use Rattle.pv_share.specs.Unshared.{NoShared, NoneRead, NoSchedule}
use Rattle.pv_build.specs.declared.status.Status.{Status}
use Rattle.pv_build.specs.declared.status.Status.TheVariants as status
use Rattle.pv_words.specs.Words.{KernelNames, names_in_pairs, makes_pairs}
use Rattle.pv_tasks.specs.Outside.{Outside}
use Rattle.pv_tasks.specs.Outcome.{Outcome, Turns, refused, told}
use Rattle.pv_share.specs.Sharing.{has_stopped, status_of_all, SharesTurns, SharesOn, Ran, Small, BySchedule, Shares, NoneShared, AllRead, share_task}
use Rattle.pv_share.specs.Told.{SharedToldAs, run_fault}
use Rattle.pv_tasks.specs.Faulting.{PutsEnd}
use Rattle.pv_tasks.specs.Tasks.{Means, NoPut}
use Rattle.pv_tasks.proofs.Deliveries.{says_told, none_first}
use Rattle.pv_tasks.proofs.Faults.{puts_since, puts_said}
use Rattle.pv_tasks.proofs.RunMeanings.{appends_on, front_on, rose_on, says_from}
use Rattle.pv_tasks.proofs.Works.{ended_is_end}
use Rattle.pv_share.proofs.ShareLaws.{all_ended}

-- nothing is shared
pub none_shared : (files : Option FileMap) (schedule : List ℕ) (frames : ℕ) (names : List KernelNames) (line : List ℕ)
    → NoShared files schedule names line → Shares files schedule frames names (refused line)
none_shared files schedule frames names line (NoneRead text holds none) = NoneShared text line holds none refl
none_shared files schedule frames names line (NoSchedule text kernels at cause holds has says is) =
    AllRead text kernels holds has (subst (λ (r : Result (List Slice) (ℕ × ScheduleCause)). BySchedule frames kernels r (refused line))
    (sym says) (ap refused is))

-- what was read has such an outcome
by_shared : (files : Option FileMap) (schedule : List ℕ) (frames : ℕ) (names : List KernelNames) (kernels : List Kernel)
    (slices : List Slice) (w : Outcome)
    → IsShared files schedule names kernels slices → SharesOn frames kernels slices w → Shares files schedule frames names w
by_shared files schedule frames names kernels slices w shared h =
    AllRead shared.text kernels shared.holds shared.has
    (subst (λ (r : Result (List Slice) (ℕ × ScheduleCause)). BySchedule frames kernels r w) (sym shared.says) h)

-- a front of a text after another one is a front of both
front_behind : (old between new : Option (List ℕ)) (first text : List ℕ) → Appends old between first → AppendsFront between new text
    → AppendsFront old new (first ++ text)
front_behind None between new first text appends h = record {
  front = first ++ h.front;
  rest = h.rest;
  whole = append_assoc first h.front h.rest ∙ ap (λ (t : List ℕ). first ++ t) h.whole;
  taken = tt;
}
front_behind (Some old) between new first text appends h =
    let here = subst (λ (t : Option (List ℕ)). Appends t new h.front) appends h.taken in
    record {
      front = first ++ h.front;
      rest = h.rest;
      whole = append_assoc first h.front h.rest ∙ ap (λ (t : List ℕ). first ++ t) h.whole;
      taken = here ∙ ap (λ (t : List ℕ). Some t) (append_assoc old first h.front);
    }

-- the output failed in a turn, or in the last lines
write_fails : (schedule : List ℕ) (frames : ℕ) (names : List KernelNames) (o : Outside) (kernels : List Kernel) (slices : List Slice)
    (mid : Option (List ℕ)) (middle : ℕ) (memory : List ℕ)
    → IsShared o.before.files schedule names kernels slices → o.after.files ≡ o.before.files → AllFit frames kernels → o.after.taken ≡ mid
    → o.after.puts ≡ middle → Rose o.before.puts middle
    → (FailsInTurn kernels slices frames o.before.taken mid ⊎ FailsAtEnd kernels slices frames memory o.before.taken mid)
    → Means (share_task schedule frames names) o status.WriteFault
write_fails schedule frames names o kernels slices mid middle memory shared same fit taken count rose (inl h) =
    let text = flat_map piece_text h.pieces ++ piece_text h.last in
    inr (record {
      text = text;
      begins = record {
        kernels = kernels;
        slices = slices;
        shared = shared;
        fit = fit;
        done = h.done;
        slice = h.slice;
        rest = h.rest;
        slices_are = h.slices_are;
        pieces = h.pieces;
        last = h.last;
        turns = h.turns;
        kernel_is = h.kernel_is;
        few = h.few;
        each = h.each;
        text_is = refl;
        rounds = h.rounds;
      };
      same = same;
      front = front_on o.before.taken mid o.after.taken text taken
          (front_behind o.before.taken h.between mid (flat_map piece_text h.pieces) (piece_text h.last) h.text h.front);
      rose = rose_on o.before.puts middle o.after.puts count rose;
    })
write_fails schedule frames names o kernels slices mid middle memory shared same fit taken count rose (inr h) =
    let w =
    told (status_of_all h.ended) (shared_text h.pieces h.ended) (Turns (λ before. counts_over (sites_in kernels) before h.pieces)) in
    let turns : SharesTurns frames kernels slices w = record {
      pieces = h.pieces;
      ended = h.ended;
      turns = h.turns;
      each = h.each;
      lines = lines_alone frames slices h.pieces kernels h.ended h.each;
      rounds = (memory, h.rounds);
      comes = refl;
    } in
    inl (
      w,
      by_shared o.before.files schedule frames names kernels slices w shared (Ran fit turns),
      NoPut o.before.taken same (none_first w o.before.taken refl) (front_on o.before.taken mid o.after.taken w.text taken h.front)
          (rose_on o.before.puts middle o.after.puts count rose),
    )

-- what was answered was reported
pub share_means : (schedule : List ℕ) (frames : ℕ) (names : List KernelNames) (o : Outside) (st : Status) (kernels : List Kernel)
    (slices : List Slice) (mid : Option (List ℕ)) (middle : ℕ) (memory : List ℕ) (r : Result (Vec Ended Global) SharedFault)
    → IsShared o.before.files schedule names kernels slices → o.after.files ≡ o.before.files
    → SharedAnswers kernels slices frames o.before.taken mid o.before.puts middle o.before.completed o.after.completed memory r
    → SharedToldAs r mid o.after.taken middle o.after.puts st → Means (share_task schedule frames names) o st
share_means schedule frames names o st kernels slices mid middle memory (Ok ended) shared same h said =
    let run = h.1 in
    let w = told (status_of_all ended.items) (shared_text run.pieces ended.items)
    (Turns (λ before. counts_over (sites_in kernels) before run.pieces)) in
    let turns : SharesTurns frames kernels slices w = record {
      pieces = run.pieces;
      ended = ended.items;
      turns = run.turns;
      each = run.each;
      lines = subst (λ (t : List ℕ). LinesAreAlone 0 t run.pieces ended.items) run.text_is run.lines;
      rounds = (memory, run.rounds);
      comes = refl;
    } in
    says_told (share_task schedule frames names) o w st (ended_is_end (status_of_all ended.items) (all_ended ended.items)) refl
    (by_shared o.before.files schedule frames names kernels slices w shared (Ran h.2 turns)) same
    (λ end. run.counts) (Whole said.0
    (appends_on o.before.taken mid o.after.taken w.text said.1 (subst (λ (t : List ℕ). Appends o.before.taken mid t) run.text_is h.3))
    (said.2 ∙ h.4))
share_means schedule frames names o st kernels slices mid middle memory (Err fault.Write) shared same h said =
    subst (λ (s : Status). Means (share_task schedule frames names) o s) (sym said.0)
    (write_fails schedule frames names o kernels slices mid middle memory shared same h.0 said.1 said.2 h.2 h.1)
share_means schedule frames names o st kernels slices mid middle memory (Err (fault.TooSmall small)) shared same h (inl said) =
    let line = too_small_line small.need small.have in
    says_told (share_task schedule frames names) o (refused line) st tt refl
    (by_shared o.before.files schedule frames names kernels slices (refused line) shared (Small small h.0 refl)) same (λ end. h.1.2)
    (says_from line o.before.taken mid o.after.taken o.before.puts middle o.after.puts st h.1.0 h.1.1 said)
share_means schedule frames names o st kernels slices mid middle memory (Err (fault.TooSmall small)) shared same h (inr none) =
    subst (λ (s : Status). Means (share_task schedule frames names) o s) (sym none.0) (same, inl (none.1 ∙ h.1.0, h.1.2))
share_means schedule frames names o st kernels slices mid middle memory (Err fault.Memory) shared same h said =
    subst (λ (s : Status). Means (share_task schedule frames names) o s) (sym said.0) (same, inl (said.1 ∙ h.0, h.2))

-- a put that failed ended the work as a write fault
pub share_puts : (frames : ℕ) (o : Outside) (st : Status) (kernels : List Kernel) (slices : List Slice) (mid : Option (List ℕ)) (middle : ℕ)
    (memory : List ℕ) (r : Result (Vec Ended Global) SharedFault)
    → SharedAnswers kernels slices frames o.before.taken mid o.before.puts middle o.before.completed o.after.completed memory r
    → SharedToldAs r mid o.after.taken middle o.after.puts st → PutsEnd o.before.puts o.after.puts st
share_puts frames o st kernels slices mid middle memory (Ok ended) h said = λ write. said.2 ∙ h.4
share_puts frames o st kernels slices mid middle memory (Err fault.Write) h said = λ write. absurd (write said.0)
share_puts frames o st kernels slices mid middle memory (Err (fault.TooSmall small)) h (inl said) =
    puts_since o.before.puts middle o.after.puts st (inl h.1.1)
    (puts_said (too_small_line small.need small.have) status.Refused mid o.after.taken middle o.after.puts st said)
share_puts frames o st kernels slices mid middle memory (Err (fault.TooSmall small)) h (inr none) = λ write. none.2 ∙ h.1.1
share_puts frames o st kernels slices mid middle memory (Err fault.Memory) h said = λ write. said.2 ∙ h.1

-- a fault is reported as that of one run
pub told_fault : (fault : SharedFault) (old new : Option (List ℕ)) (before now : ℕ) (st : Status) (one : RunFault) → one ≡ run_fault fault
    → ToldAs (Err one) old new before now st → SharedToldAs (Err fault) old new before now st
told_fault fault.Write old new before now st one is h = subst (λ (f : RunFault). ToldAs (Err f) old new before now st) is h
told_fault (fault.TooSmall small) old new before now st one is h = subst (λ (f : RunFault). ToldAs (Err f) old new before now st) is h
told_fault fault.Memory old new before now st one is h = subst (λ (f : RunFault). ToldAs (Err f) old new before now st) is h

-- one to four names of kernels
module _ where
  pairs_two : (xs : List (List ℕ)) → (2 * length (names_in_pairs xs) ≤ length xs) × (length xs ≤ 2 * length (names_in_pairs xs) + 1)
  pairs_two [] = (omega arith, omega arith)
  pairs_two (x ∷ []) = (omega arith, omega arith)
  pairs_two (x ∷ y ∷ xs) = let rest = pairs_two xs in let a = rest.0 in let b = rest.1 in (omega (arith, a), omega (arith, b))

  kernels_two : (files : Option FileMap) (names : List KernelNames) (kernels : List Kernel) → HasKernels files names kernels
      → length kernels ≡ length names
  kernels_two files [] [] h = refl
  kernels_two files [] (k ∷ kernels) h = absurd h
  kernels_two files (n ∷ names) [] h = absurd h
  kernels_two files (n ∷ names) (k ∷ kernels) h = let rest = kernels_two files names kernels h.1 in omega (arith, rest)

-- how many words these are
pub pairs_few : (n : ℕ) → makes_pairs n ≡ true → (2 ≤ n) × (n ≤ 8)
pairs_few n h = elim (eqb_tells n 2) [
  | inl e ↦ (let is = e.1 in (omega (arith, is), omega (arith, is)))
  | inr a ↦ elim (eqb_tells n 4) [
    | inl e ↦ (let is = e.1 in (omega (arith, is), omega (arith, is)))
    | inr b ↦ elim (eqb_tells n 6) [
      | inl e ↦ (let is = e.1 in (omega (arith, is), omega (arith, is)))
      | inr c ↦ elim (eqb_tells n 8) [
        | inl e ↦ (let is = e.1 in (omega (arith, is), omega (arith, is)))
        | inr d ↦ absurd (let one = a.0 in let two = b.0 in let three = c.0 in let four = d.0 in cc)
      ]
    ]
  ]
]

pub kernels_few : (files : Option FileMap) (words : List (List ℕ)) (kernels : List Kernel) → makes_pairs (length words) ≡ true
    → HasKernels files (names_in_pairs words) kernels → (1 ≤ length kernels) × (length kernels ≤ 4)
kernels_few files words kernels pairs h =
    let few = pairs_few (length words) pairs in
    let two = pairs_two words in
    let same = kernels_two files (names_in_pairs words) kernels h in
    let a = few.0 in let b = few.1 in let c = two.0 in let d = two.1 in
    (omega (arith, a, b, c, d, same), omega (arith, a, b, c, d, same))

-- a kernel at a place that ended at a stop, and those after it
pub stopped_at : (ended : List Ended) (i : ℕ) (other : Ended) → i < length ended
    → list_any has_stopped (drop i ended) ≡ (has_stopped (get_or ended i other) || list_any has_stopped (drop (i + 1) ended))
stopped_at ended i other within = rw (add-one, drop-cons ended i other within) refl

pub stopped_end : (ended : List Ended) (i : ℕ) → length ended ≤ i → list_any has_stopped (drop i ended) ≡ false
stopped_end ended i past = rw (drop_all i ended past) refl
