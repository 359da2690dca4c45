-- The outcome of `share`.
use Rattle.std.specs.Prelude.{if◌then◌else◌}
use Rattle.std.specs.List.{list_any}
use Rattle.std.proofs.Common.{◌≡◌, inl, inr, ℕ, Bool, true, false, List, [], ◌∷◌, Option, Some, Result, Ok, Err, length, refl, sym, ap, subst, ◌∙◌, arith}
use Rattle.pv_io.specs.Files.{FileMap, Holds, IsHeld}
use Rattle.board.specs.Scripts.{Events}
use Rattle.board.specs.Texts.{script_of}
use Rattle.board.specs.declared.fault.ScriptCause.{ScriptCause}
use Rattle.image_check.specs.Image.{Image}
use Rattle.image_check.specs.Refusals.{Refusal}
use Rattle.image_check.specs.Checking.{image_of}
use Rattle.image_load.specs.declared.boot.TooSmall.{TooSmall}
use Rattle.run_trace.specs.declared.items.Ended.{Ended}
use Rattle.guest_sched.specs.declared.kernel.Kernel.{Kernel}
use Rattle.guest_sched.specs.declared.schedule.Slice.{Slice}
use Rattle.guest_sched.specs.declared.fault.ScheduleCause.{ScheduleCause}
use Rattle.guest_sched.specs.Texts.{schedule_of}
use Rattle.guest_sched.specs.Shared.{FirstTooSmall, AllFit}
use Rattle.pv_build.specs.Lines.{image_line, script_line, too_small_line}
use Rattle.pv_share.specs.ScheduleLines.{schedule_line}
use Rattle.pv_build.specs.Images.{HasImage}
use Rattle.pv_build.specs.Scripts.{HasScript, FindsRun, NoRun, NoImage, NoScript}
use Rattle.pv_words.specs.Words.{KernelNames}
use Rattle.pv_share.specs.Kernels.{HasKernel, HasKernels, FindsKernels, NoKernel}
use Rattle.pv_build.specs.declared.status.Status.TheVariants as status
use Rattle.pv_tasks.specs.Outcome.{Outcome, refused, HasEnded}
use Rattle.pv_share.specs.Sharing.{has_stopped, status_of_all, SharesTurns, SharesOn, Ran, Small, BySchedule, Shares, NoneShared, AllRead}
use Rattle.pv_tasks.proofs.SameFiles.{same_file}
use Rattle.pv_tasks.proofs.Works.{IsEnd, IsTold, IsRefusal, ended_is_end, ended_refusal, ended_not_refused}

-- ---- what all outcomes have

either_ended : (b : Bool) → HasEnded (if b then status.Stopped else status.Done)
either_ended true = tt
either_ended false = tt

pub all_ended : (ended : List Ended) → HasEnded (status_of_all ended)
all_ended ended = either_ended (list_any has_stopped ended)

turns_ended : (frames : ℕ) (kernels : List Kernel) (slices : List Slice) (w : Outcome)
    → SharesTurns frames kernels slices w → HasEnded w.status
turns_ended frames kernels slices w h = subst (λ (v : Outcome). HasEnded v.status) (sym h.comes) (all_ended h.ended)

turns_told : (frames : ℕ) (kernels : List Kernel) (slices : List Slice) (w : Outcome) → SharesTurns frames kernels slices w → IsTold w
turns_told frames kernels slices w h = subst IsTold (sym h.comes) refl

on_all : (P : Outcome → Type 0) (frames : ℕ) (kernels : List Kernel) (slices : List Slice) (w : Outcome)
    → ((line : List ℕ) → P (refused line)) → ((v : Outcome) → HasEnded v.status → IsTold v → P v) → SharesOn frames kernels slices w → P w
on_all P frames kernels slices w of_line of_turns (Ran fit h) =
    of_turns w (turns_ended frames kernels slices w h) (turns_told frames kernels slices w h)
on_all P frames kernels slices w of_line of_turns (Small small first is) = subst P (sym is) (of_line (too_small_line small.need small.have))

by_all : (P : Outcome → Type 0) (frames : ℕ) (kernels : List Kernel) (r : Result (List Slice) (ℕ × ScheduleCause)) (w : Outcome)
    → ((line : List ℕ) → P (refused line)) → ((v : Outcome) → HasEnded v.status → IsTold v → P v) → BySchedule frames kernels r w → P w
by_all P frames kernels (Ok slices) w of_line of_turns h = on_all P frames kernels slices w of_line of_turns h
by_all P frames kernels (Err (line, cause)) w of_line of_turns h = subst P (sym h) (of_line (schedule_line line cause))

pub shares_all : (P : Outcome → Type 0) (files : Option FileMap) (schedule : List ℕ) (frames : ℕ) (names : List KernelNames) (w : Outcome)
    → ((line : List ℕ) → P (refused line)) → ((v : Outcome) → HasEnded v.status → IsTold v → P v)
    → Shares files schedule frames names w → P w
shares_all P files schedule frames names w of_line of_turns (NoneShared text line holds none is) = subst P (sym is) (of_line line)
shares_all P files schedule frames names w of_line of_turns (AllRead text kernels holds has by) =
    by_all P frames kernels (schedule_of (length kernels) text) w of_line of_turns by

pub shares_told : (files : Option FileMap) (schedule : List ℕ) (frames : ℕ) (names : List KernelNames) (w : Outcome)
    → Shares files schedule frames names w → IsTold w
shares_told files schedule frames names w h = shares_all IsTold files schedule frames names w (λ line. refl) (λ v ended told. told) h

pub shares_end : (files : Option FileMap) (schedule : List ℕ) (frames : ℕ) (names : List KernelNames) (w : Outcome)
    → Shares files schedule frames names w → IsEnd w.status
shares_end files schedule frames names w h =
    shares_all (λ (v : Outcome). IsEnd v.status) files schedule frames names w (λ line. tt) (λ v ended told. ended_is_end v.status ended) h

pub shares_refusal : (files : Option FileMap) (schedule : List ℕ) (frames : ℕ) (names : List KernelNames) (w : Outcome)
    → Shares files schedule frames names w → IsRefusal w
shares_refusal files schedule frames names w h =
    shares_all IsRefusal files schedule frames names w (λ line is. refl) (λ v ended told. ended_refusal v ended) h

-- ---- the names

image_or_none : (told : FileMap) (name : List ℕ) (image : Image) (refusal : Refusal) → HasImage (Some told) name image → (file : List ℕ)
    × Holds (Some told) name file × (image_of file ≡ Err refusal) → ⊥
image_or_none told name image refusal has none =
    let same = same_file told name has.0 none.0 has.1 none.1 in
    cc (has.2, none.2, same)

script_or_none : (told : FileMap) (name : List ℕ) (events : Events) (fault : ℕ × ScriptCause) → HasScript (Some told) name events
    → (file : List ℕ) × Holds (Some told) name file × (script_of file ≡ Err fault) → ⊥
script_or_none told name events fault has none =
    let same = same_file told name has.0 none.0 has.1 none.1 in
    cc (has.2, none.2, same)

kernel_or_none : (told : FileMap) (names : KernelNames) (kernel : Kernel) (line : List ℕ) → HasKernel (Some told) names kernel
    → NoRun (Some told) names.image names.script line → ⊥
kernel_or_none told names kernel line has (NoImage refusal none is) = image_or_none told names.image kernel.image refusal has.image none
kernel_or_none told names kernel line has (NoScript image at cause is_image none is) =
    script_or_none told names.script kernel.script.list (at, cause) has.script none

image_same : (told : FileMap) (name : List ℕ) (a b : Image) → HasImage (Some told) name a → HasImage (Some told) name b → a ≡ b
image_same told name a b h k =
    let same = same_file told name h.0 k.0 h.1 k.1 in
    cc (h.2, k.2, same)

script_same : (told : FileMap) (name : List ℕ) (a b : Events) → HasScript (Some told) name a → HasScript (Some told) name b → a ≡ b
script_same told name a b h k =
    let same = same_file told name h.0 k.0 h.1 k.1 in
    cc (h.2, k.2, same)

abbrev kernel_of : Image → Events → Kernel
kernel_of image events = record { image = image; script = record { list = events } }

kernel_same : (told : FileMap) (names : KernelNames) (a b : Kernel) → HasKernel (Some told) names a → HasKernel (Some told) names b → a ≡ b
kernel_same told names a b h k =
    let images = image_same told names.image a.image b.image h.image k.image in
    let scripts = script_same told names.script a.script.list b.script.list h.script k.script in
    ap (λ (i : Image). kernel_of i a.script.list) images ∙ ap (λ (e : Events). kernel_of b.image e) scripts

refusal_same : (told : FileMap) (name : List ℕ) (a b : Refusal) → (file : List ℕ) × Holds (Some told) name file × (image_of file ≡ Err a)
    → (file : List ℕ) × Holds (Some told) name file × (image_of file ≡ Err b) → a ≡ b
refusal_same told name a b h k =
    let same = same_file told name h.0 k.0 h.1 k.1 in
    cc (h.2, k.2, same)

fault_same : (told : FileMap) (name : List ℕ) (a b : ℕ × ScriptCause) → (file : List ℕ) × Holds (Some told) name file
    × (script_of file ≡ Err a) → (file : List ℕ) × Holds (Some told) name file × (script_of file ≡ Err b) → a ≡ b
fault_same told name a b h k =
    let same = same_file told name h.0 k.0 h.1 k.1 in
    cc (h.2, k.2, same)

run_line_same : (told : FileMap) (image script a b : List ℕ) → NoRun (Some told) image script a → NoRun (Some told) image script b → a ≡ b
run_line_same told image script a b (NoImage r none is) (NoImage q none2 is2) =
    is ∙ (ap image_line (refusal_same told image r q none none2) ∙ sym is2)
run_line_same told image script a b (NoImage r none is) (NoScript i at cause has none2 is2) = absurd (image_or_none told image i r has none)
run_line_same told image script a b (NoScript i at cause has none is) (NoImage r none2 is2) =
    absurd (image_or_none told image i r has none2)
run_line_same told image script a b (NoScript i at cause has none is) (NoScript j at2 cause2 has2 none2 is2) =
    is ∙ (ap (λ (f : ℕ × ScriptCause). script_line f.0 f.1) (fault_same told script (at, cause) (at2, cause2) none none2) ∙ sym is2)

line_same : (told : FileMap) (names : List KernelNames) (a b : List ℕ) → NoKernel (Some told) names a → NoKernel (Some told) names b → a ≡ b
line_same told [] a b h k = absurd h
line_same told (n ∷ more) a b (inl h) (inl k) = run_line_same told n.image n.script a b h k
line_same told (n ∷ more) a b (inl h) (inr k) = absurd (kernel_or_none told n k.0 a k.1 h)
line_same told (n ∷ more) a b (inr h) (inl k) = absurd (kernel_or_none told n h.0 b h.1 k)
line_same told (n ∷ more) a b (inr h) (inr k) = line_same told more a b h.2 k.2

line_or_all : (told : FileMap) (names : List KernelNames) (line : List ℕ) (kernels : List Kernel) → NoKernel (Some told) names line
    → HasKernels (Some told) names kernels → ⊥
line_or_all told [] line kernels h k = h
line_or_all told (n ∷ more) line [] h k = k
line_or_all told (n ∷ more) line (kernel ∷ kernels) (inl h) k = kernel_or_none told n kernel line k.0 h
line_or_all told (n ∷ more) line (kernel ∷ kernels) (inr h) k = line_or_all told more line kernels h.2 k.1

pub kernels_same : (told : FileMap) (names : List KernelNames) (a b : List Kernel) → HasKernels (Some told) names a
    → HasKernels (Some told) names b → a ≡ b
kernels_same told [] [] [] h k = refl
kernels_same told [] [] (q ∷ b) h k = absurd k
kernels_same told [] (p ∷ a) b h k = absurd h
kernels_same told (n ∷ more) [] b h k = absurd h
kernels_same told (n ∷ more) (p ∷ a) [] h k = absurd k
kernels_same told (n ∷ more) (p ∷ a) (q ∷ b) h k =
    let first = kernel_same told n p q h.0 k.0 in
    let rest = kernels_same told more a b h.1 k.1 in
    cc (first, rest)

-- ---- what is refused has no other outcome

small_same : (frames : ℕ) (kernels : List Kernel) (a b : TooSmall) → FirstTooSmall frames kernels a → FirstTooSmall frames kernels b → a ≡ b
small_same frames [] a b h k = absurd h
small_same frames (kernel ∷ kernels) a b (inl h) (inl k) = h.1 ∙ sym k.1
small_same frames (kernel ∷ kernels) a b (inl h) (inr k) = absurd (omega (arith, h.0, k.0))
small_same frames (kernel ∷ kernels) a b (inr h) (inl k) = absurd (omega (arith, h.0, k.0))
small_same frames (kernel ∷ kernels) a b (inr h) (inr k) = small_same frames kernels a b h.1 k.1

small_or_fit : (frames : ℕ) (kernels : List Kernel) (small : TooSmall) → FirstTooSmall frames kernels small → AllFit frames kernels → ⊥
small_or_fit frames [] small h k = h
small_or_fit frames (kernel ∷ kernels) small (inl h) k = omega (arith, h.0, k.0)
small_or_fit frames (kernel ∷ kernels) small (inr h) k = small_or_fit frames kernels small h.1 k.1

-- where there are frames enough they run
pub turns_of : (frames : ℕ) (kernels : List Kernel) (slices : List Slice) (w : Outcome) → AllFit frames kernels
    → SharesOn frames kernels slices w → SharesTurns frames kernels slices w
turns_of frames kernels slices w fit (Ran fit2 h) = h
turns_of frames kernels slices w fit (Small s first is) = absurd (small_or_fit frames kernels s first fit)

on_once : (frames : ℕ) (kernels : List Kernel) (slices : List Slice) (w v : Outcome) → w.status ≡ status.Refused
    → SharesOn frames kernels slices w → SharesOn frames kernels slices v → v ≡ w
on_once frames kernels slices w v is (Ran fit h) k = absurd (ended_not_refused w.status (turns_ended frames kernels slices w h) is)
on_once frames kernels slices w v is (Small s first one) (Ran fit h) = absurd (small_or_fit frames kernels s first fit)
on_once frames kernels slices w v is (Small s first one) (Small t second two) =
    two ∙ (ap (λ (x : TooSmall). refused (too_small_line x.need x.have)) (small_same frames kernels t s second first) ∙ sym one)

by_once : (frames : ℕ) (kernels : List Kernel) (r : Result (List Slice) (ℕ × ScheduleCause)) (w v : Outcome) → w.status ≡ status.Refused
    → BySchedule frames kernels r w → BySchedule frames kernels r v → v ≡ w
by_once frames kernels (Ok slices) w v is h k = on_once frames kernels slices w v is h k
by_once frames kernels (Err (line, cause)) w v is h k = k ∙ sym h

-- over all that is read
pub shares_read : (told : FileMap) (schedule text : List ℕ) (frames : ℕ) (names : List KernelNames) (kernels : List Kernel) (w : Outcome)
    → Holds (Some told) schedule text → HasKernels (Some told) names kernels → Shares (Some told) schedule frames names w
    → BySchedule frames kernels (schedule_of (length kernels) text) w
shares_read told schedule text frames names kernels w holds has (NoneShared t line held none is) =
    absurd (line_or_all told names line kernels none has)
shares_read told schedule text frames names kernels w holds has (AllRead t others held them by) =
    let texts = same_file told schedule t text held holds in
    let all = kernels_same told names others kernels them has in
    subst (λ (ks : List Kernel). BySchedule frames ks (schedule_of (length ks) text) w) all
    (subst (λ (f : List ℕ). BySchedule frames others (schedule_of (length others) f) w) texts by)

pub shares_once : (told : FileMap) (schedule : List ℕ) (frames : ℕ) (names : List KernelNames) (w v : Outcome) → w.status ≡ status.Refused
    → Shares (Some told) schedule frames names w → Shares (Some told) schedule frames names v → v ≡ w
shares_once told schedule frames names w v is (NoneShared text line holds none one) (NoneShared t l held other two) =
    two ∙ (ap refused (line_same told names l line other none) ∙ sym one)
shares_once told schedule frames names w v is (NoneShared text line holds none one) (AllRead t others held them by) =
    absurd (line_or_all told names line others none them)
shares_once told schedule frames names w v is (AllRead text kernels holds has by) h =
    by_once frames kernels (schedule_of (length kernels) text) w v is by (shares_read told schedule text frames names kernels v holds has h)

-- ---- each file that is reached is held

run_finds : (told : FileMap) (names : KernelNames) (line : List ℕ) → NoRun (Some told) names.image names.script line
    → FindsRun (Some told) names.image names.script
run_finds told names line (NoImage refusal none is) =
    ((none.0, none.1), λ program has. absurd (image_or_none told names.image program refusal has none))
run_finds told names line (NoScript i at cause has none is) = ((has.0, has.1), λ program has2. (none.0, none.1))

kernel_finds : (told : FileMap) (names : KernelNames) (kernel : Kernel) → HasKernel (Some told) names kernel
    → FindsRun (Some told) names.image names.script
kernel_finds told names kernel has = ((has.image.0, has.image.1), λ program other. (has.script.0, has.script.1))

line_finds : (told : FileMap) (names : List KernelNames) (line : List ℕ) → NoKernel (Some told) names line → FindsKernels (Some told) names
line_finds told [] line h = absurd h
line_finds told (n ∷ more) line (inl h) = (run_finds told n line h, λ kernel has. absurd (kernel_or_none told n kernel line has h))
line_finds told (n ∷ more) line (inr h) = (kernel_finds told n h.0 h.1, λ kernel has. line_finds told more line h.2)

all_finds : (told : FileMap) (names : List KernelNames) (kernels : List Kernel) → HasKernels (Some told) names kernels
    → FindsKernels (Some told) names
all_finds told [] kernels h = tt
all_finds told (n ∷ more) [] h = absurd h
all_finds told (n ∷ more) (kernel ∷ kernels) h = (kernel_finds told n kernel h.0, λ other has. all_finds told more kernels h.1)

pub shares_found : (told : FileMap) (schedule : List ℕ) (frames : ℕ) (names : List KernelNames) (w : Outcome)
    → Shares (Some told) schedule frames names w
    → IsHeld (Some told) schedule × FindsKernels (Some told) names
shares_found told schedule frames names w (NoneShared text line holds none is) = ((text, holds), line_finds told names line none)
shares_found told schedule frames names w (AllRead text kernels holds has by) = ((text, holds), all_finds told names kernels has)
