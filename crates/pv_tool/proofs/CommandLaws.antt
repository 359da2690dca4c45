-- What the statuses say of all commands.
use Rattle.std.proofs.Common.{◌≡◌, ◌≢◌, inl, inr, ℕ, ◌≤◌, Bool, true, List, [], ◌∷◌, Option, Some, None, Result, Ok, Err, length, cond, refl, sym, ap, subst, ◌∙◌}
use Rattle.std.specs.Prelude.{false, bytes_eq}
use Rattle.std.proofs.lemmas.Slice.Eq.{bytes_eq-Decides}
use Rattle.pv_io.specs.Causes.{Rose}
use Rattle.pv_io.specs.Files.{FileMap, Stores, ChangesAt}
use Rattle.asm_lex.specs.declared.fault.SourceCause.{SourceCause}
use Rattle.asm_source.specs.declared.tree.SourceItem.{SourceItem}
use Rattle.board.specs.Scripts.{Events}
use Rattle.elf_form.specs.ObjectParts.{ObjectParts}
use Rattle.elf_form.specs.ObjectLayout.{object_bytes}
use Rattle.elf_form.specs.Faults.{Fault, ◌>>=◌}
use Rattle.elf_form.specs.ImageParts.{ImageParts}
use Rattle.elf_form.specs.ImageLayout.{image_bytes}
use Rattle.afterburner.specs.Burnt as burning
use Rattle.afterburner.specs.Burnt.{burnt}
use Rattle.elf_link.specs.Refusals.{Refused}
use Rattle.elf_link.specs.Linked.{linked_image}
use Rattle.image_check.specs.Image.{Image}
use Rattle.image_check.specs.Refusals.{Refusal}
use Rattle.image_check.specs.Checking.{image_of, image_from, as_form}
use Rattle.image_check.proofs.Passed.{has_passed}
use Rattle.pv_build.specs.Objects.{HasObjects}
use Rattle.pv_build.specs.Images.{HasImage, ImageReadsBack}
use Rattle.pv_build.specs.declared.status.Status.{Status}
use Rattle.pv_build.specs.declared.status.Status.TheVariants as status
use Rattle.pv_words.specs.Words.{Command, Burn, Link, Check, RunBare, RunWedge, Work, Share, Save, SaveFrom, Continue, Prove, Replay}
use Rattle.pv_tasks.specs.Outside.{Outside}
use Rattle.pv_tasks.specs.Outcome.{Outcome, refused}
use Rattle.pv_tasks.specs.Burning.{written, burned}
use Rattle.pv_tasks.specs.Linking.{linked, Links, AllRead, NoObject}
use Rattle.pv_tool.specs.HeldObjects.{HoldObjects}
use Rattle.pv_tasks.specs.Checking.{Checks, checked}
use Rattle.pv_tasks.specs.Running.{RunsBare, RunsPatched, Runs}
use Rattle.pv_save.specs.Saving.{SavesBoot, SavesOn, FromFile}
use Rattle.pv_save.specs.Continuing.{ContinuesOn}
use Rattle.pv_prove.specs.Proving.{ProvesRun}
use Rattle.pv_prove.specs.Replaying.{Replays}
use Rattle.pv_tasks.specs.Tasks.{Keeps, FaultCounts, NoLoadFault, NoStoreFault, NoFault, ComesTo, ComesToOne, IsStored, NoStore, NoPut, Means}
use Rattle.pv_tool.specs.Asked.{task_of}
use Rattle.pv_tool.specs.Top.{Completes}
use Rattle.pv_tool.specs.Outcomes.{Unhindered, RefusesWork}
use Rattle.pv_tasks.proofs.SameFiles.{same_file}
use Rattle.pv_tasks.proofs.BurnMeanings.{burns_once}
use Rattle.pv_tasks.proofs.LinkMeanings.{links_once, links_found}
use Rattle.pv_tasks.proofs.Works.{WithFrames, IsSaved, IsTold, IsRefusal, AreEnds, AreTold, told_saved, ended_refusal, reads_all, reads_once, reads_found, frames_all, frames_once}
use Rattle.pv_tasks.proofs.RunMeanings.{bare_ends, bare_told, patched_ends, patched_told}
use Rattle.pv_tasks.proofs.WorkMeanings.{works_told, works_refusal, works_once}
use Rattle.pv_share.proofs.ShareLaws.{shares_told, shares_refusal, shares_once, shares_found}
use Rattle.pv_save.proofs.RestLaws.{saves_ended, saves_saved, boot_ends, continues_ended, continues_told, from_all, from_once, from_found}
use Rattle.pv_prove.proofs.ReplayLaws.{proves_ends, proves_saved, replays_told, replays_refusal, replays_once, replays_found}

-- ---- what is stored

pub checks_once : (told : FileMap) (image : List ℕ) (w v : Outcome) → Checks (Some told) image w → Checks (Some told) image v → v ≡ w
checks_once told image w v h k =
    let same = same_file told image k.0 h.0 k.1 h.1 in
    k.2 ∙ (ap (λ (f : List ℕ). checked (image_of f)) same ∙ sym h.2)

-- its file, where there is one, has the name at which the command stores
abbrev pub SavesAt : Option (List ℕ) → Outcome → Type 0
SavesAt name w = IsSaved name w.stored

written_saved : (name : List ℕ) (r : Result ObjectParts burning.Fault) → IsSaved (Some name) (written name r).stored
written_saved name (Ok o) = refl
written_saved name (Err fault) = tt

burned_saved : (name : List ℕ) (r : Result (List SourceItem) (ℕ × SourceCause)) → IsSaved (Some name) (burned name r).stored
burned_saved name (Ok items) = written_saved name (burnt items)
burned_saved name (Err (line, cause)) = tt

linked_saved : (name : List ℕ) (r : Result ImageParts Refused) → IsSaved (Some name) (linked name r).stored
linked_saved name (Ok p) = refl
linked_saved name (Err fault) = tt

links_saved : (files : Option FileMap) (image : List ℕ) (names : List (List ℕ)) (w : Outcome) → Links files image names w
    → IsSaved (Some image) w.stored
links_saved files image names w (AllRead os all is) =
    subst (λ (v : Outcome). IsSaved (Some image) v.stored) (sym is) (linked_saved image (linked_image os))
links_saved files image names w (NoObject i fault first is) = subst (λ (v : Outcome). IsSaved (Some image) v.stored) (sym is) tt

checked_told : (r : Result Image Refusal) → IsTold (checked r)
checked_told (Ok image) = refl
checked_told (Err refusal) = refl

checks_told : (files : Option FileMap) (image : List ℕ) (w : Outcome) → Checks files image w → IsTold w
checks_told files image w h = subst IsTold (sym h.2) (checked_told (image_of h.0))

-- a run that prints one text
runs_told : (runs : Image → Events → Outcome → Type 0) (frames : ℕ) (files : Option FileMap) (image script : List ℕ) (w : Outcome)
    → AreTold runs → Runs runs frames files image script w → IsTold w
runs_told runs frames files image script w are h =
    reads_all IsTold (WithFrames runs frames) files image script w (λ line. refl)
    (λ i e v r. frames_all IsTold runs frames i e v (λ line. refl) are r) h

-- a run that stores at a name
runs_saved : (name : Option (List ℕ)) (runs : Image → Events → Outcome → Type 0) (frames : ℕ) (files : Option FileMap)
    (image script : List ℕ) (w : Outcome)
    → ((image : Image) (events : Events) (v : Outcome) → runs image events v → SavesAt name v)
    → Runs runs frames files image script w → SavesAt name w
runs_saved name runs frames files image script w are h =
    reads_all (SavesAt name) (WithFrames runs frames) files image script w (λ line. tt)
    (λ i e v r. frames_all (SavesAt name) runs frames i e v (λ line. tt) are r) h

gives_saved : (command : Command) (files : Option FileMap) (w : Outcome) → (task_of command).gives files w
    → IsSaved (task_of command).saved w.stored
gives_saved (Burn source object) files w h =
    subst (λ (v : Outcome). IsSaved (Some object) v.stored) (sym h.comes) (burned_saved object h.said)
gives_saved (Link image objects) files w h = links_saved files image objects w h
gives_saved (Check image) files w h = told_saved None w (checks_told files image w h)
gives_saved (RunBare image script frames n) files w h =
    told_saved None w (runs_told (RunsBare frames n) frames files image script w (bare_told frames n) h)
gives_saved (RunWedge image script frames n) files w h =
    told_saved None w (runs_told (RunsPatched frames n) frames files image script w (patched_told frames n) h)
gives_saved (Work number) files w h = told_saved None w (works_told number w h)
gives_saved (Share schedule frames kernels) files w h = told_saved None w (shares_told files schedule frames kernels w h)
gives_saved (Save on image script frames n file) files w h =
    runs_saved (Some file) (SavesBoot on frames n file) frames files image script w (λ i e v r. saves_saved on _ n _ file v r) h
gives_saved (SaveFrom on image script file n new) files w h =
    reads_all (SavesAt (Some new)) (FromFile (SavesOn on n new) on n files file) files image script w (λ line. tt)
    (λ i e v r. from_all (SavesAt (Some new)) (SavesOn on n new) on n files file i e v (λ line. tt)
    (λ i2 e2 s u q. saves_saved on _ n _ new u q) r) h
gives_saved (Continue on image script file n) files w h =
    reads_all (SavesAt None) (FromFile (ContinuesOn on n) on n files file) files image script w (λ line. tt)
    (λ i e v r. from_all (SavesAt None) (ContinuesOn on n) on n files file i e v (λ line. tt)
    (λ i2 e2 s u q. told_saved None u (continues_told on n i2 e2 s u q)) r) h
gives_saved (Prove image script frames n certificate) files w h =
    runs_saved (Some certificate) (ProvesRun frames n certificate) frames files image script w
    (λ i e v r. proves_saved frames n certificate i e v r) h
gives_saved (Replay image script frames n certificate text) files w h =
    reads_all (SavesAt None) (Replays frames n files certificate text) files image script w (λ line. tt)
    (λ i e v r. told_saved None v (replays_told frames n files certificate text i e v r)) h

changes_same : (old new : Option FileMap) (name : List ℕ) → new ≡ old → ChangesAt old new name
changes_same None new name same = tt
changes_same (Some told) new name same = (told, same, λ q other. refl)

stores_changes : (old new : Option FileMap) (name bytes : List ℕ) → Stores old new name bytes → ChangesAt old new name
stores_changes None new name bytes h = tt
stores_changes (Some told) new name bytes h = (h.0, h.1, λ q other. h.2 q ∙ ap (λ (b : Bool). cond b (Some bytes) (told q)) other)

keeps_same : (name : Option (List ℕ)) (old new : Option FileMap) → new ≡ old → Keeps name old new
keeps_same None old new same = same
keeps_same (Some name) old new same = changes_same old new name same

keeps_stored : (name : Option (List ℕ)) (stored : Option (List ℕ × List ℕ)) (o : Outside) → IsSaved name stored
    → IsStored stored o.before.files o.after.files → Keeps name o.before.files o.after.files
keeps_stored name None o is h = keeps_same name o.before.files o.after.files h
keeps_stored None (Some file) o is h = absurd is
keeps_stored (Some name) (Some file) o is h =
    subst (λ (n : List ℕ). ChangesAt o.before.files o.after.files n) is (stores_changes o.before.files o.after.files file.0 file.1 h)

keeps_changed : (name : Option (List ℕ)) (stored : Option (List ℕ × List ℕ)) (o : Outside) (n bytes : List ℕ) → IsSaved name stored
    → stored ≡ Some (n, bytes)
    → ChangesAt o.before.files o.after.files n → Keeps name o.before.files o.after.files
keeps_changed None stored o n bytes saved is h = absurd (subst (λ (s : Option (List ℕ × List ℕ)). IsSaved None s) is saved)
keeps_changed (Some name) stored o n bytes saved is h =
    subst (λ (m : List ℕ). ChangesAt o.before.files o.after.files m)
    (subst (λ (s : Option (List ℕ × List ℕ)). IsSaved (Some name) s) is saved) h

-- every name but that one holds what it held
pub means_keeps : (command : Command) (o : Outside) (st : Status) → Means (task_of command) o st
    → Keeps (task_of command).saved o.before.files o.after.files
means_keeps command o status.Done h = keeps_stored (task_of command).saved h.0.stored o (gives_saved command o.before.files h.0 h.1) h.2.1
means_keeps command o status.Stopped h =
    keeps_stored (task_of command).saved h.0.stored o (gives_saved command o.before.files h.0 h.1) h.2.1
means_keeps command o status.Refused h =
    keeps_stored (task_of command).saved h.0.stored o (gives_saved command o.before.files h.0 h.1) h.2.1
means_keeps command o status.ReadFault h = keeps_same (task_of command).saved o.before.files o.after.files h.1
means_keeps command o status.WriteFault (inl (w, gives, NoStore name bytes is changes rose unsure same)) =
    keeps_changed (task_of command).saved w.stored o name bytes (gives_saved command o.before.files w gives) is changes
means_keeps command o status.WriteFault (inl (w, gives, NoPut mid stored first front rose)) =
    keeps_stored (task_of command).saved w.stored o (gives_saved command o.before.files w gives) stored
means_keeps command o status.WriteFault (inr h) = keeps_same (task_of command).saved o.before.files o.after.files h.same
means_keeps command o status.Memory h = keeps_same (task_of command).saved o.before.files o.after.files h.0
means_keeps command o status.Words h = absurd h

-- ---- where no fault came

-- a load that failed, and a store
no_load : (command : Command) (o : Outside) → NoLoadFault (task_of command) o → Rose o.before.loads o.after.loads
    → (o.before.sure ≡ true → (task_of command).finds o.before.files → ⊥) → ⊥
no_load command o (inl none) rose unsure = none rose
no_load command o (inr sure) rose unsure = unsure sure.0 sure.1

no_store : (name : Option (List ℕ)) (stored : Option (List ℕ × List ℕ)) (o : Outside) (n bytes : List ℕ) → IsSaved name stored
    → stored ≡ Some (n, bytes)
    → NoStoreFault name o → Rose o.before.stores o.after.stores → (o.before.sure ≡ true → ⊥) → ⊥
no_store None stored o n bytes saved is none rose unsure = subst (λ (s : Option (List ℕ × List ℕ)). IsSaved None s) is saved
no_store (Some name) stored o n bytes saved is (inl none) rose unsure = none rose
no_store (Some name) stored o n bytes saved is (inr sure) rose unsure = unsure sure

-- where no fault came and memory was found, the work's outcome was reported
pub came_to : (command : Command) (o : Outside) (st : Status) → NoFault (task_of command) o → st ≢ status.Memory
    → Means (task_of command) o st → ComesToOne ((task_of command).gives o.before.files) o st
came_to command o status.Done none found h = h
came_to command o status.Stopped none found h = h
came_to command o status.Refused none found h = h
came_to command o status.ReadFault none found h = absurd (no_load command o none.loads h.0 h.3)
came_to command o status.WriteFault none found (inl (v, gives, NoStore name bytes is changes rose unsure same)) =
    absurd (no_store (task_of command).saved v.stored o name bytes (gives_saved command o.before.files v gives) is none.stores rose unsure)
came_to command o status.WriteFault none found (inl (v, gives, NoPut mid stored first front rose)) = absurd (none.puts rose)
came_to command o status.WriteFault none found (inr h) = absurd (none.puts h.rose)
came_to command o status.Memory none found h = absurd (found refl)
came_to command o status.Words none found h = absurd h

-- the work's outcome over files that are told
abbrev pub Came : Command → Outside → FileMap → Status → Type 0
Came command o told st = (w : Outcome) × (task_of command).gives (Some told) w × ComesTo w o st

pub came_over : (words : List (List ℕ)) (command : Command) (told : FileMap) (o : Outside) (st : Status) → Completes words o st
    → Unhindered words command told o st → Came command o told st
came_over words command told o st complete free =
    let w = complete command free.asks free.no_fault free.memory in
    (w.0, subst (λ (f : Option FileMap). (task_of command).gives f w.0) free.files w.1, w.2)

-- work that can have one outcome only has that one
pub comes_to : (command : Command) (o : Outside) (told : FileMap) (w : Outcome) (st : Status)
    → ((v : Outcome) → (task_of command).gives (Some told) v → v ≡ w) → Came command o told st → ComesTo w o st
comes_to command o told w st only c = subst (λ (v : Outcome). ComesTo v o st) (only c.0 c.1) c.2

-- ---- refusals

-- a run that is refused has no other outcome, on either machine
run_once : (runs : Image → Events → Outcome → Type 0) (frames : ℕ) (told : FileMap) (image script : List ℕ) (w v : Outcome) → AreEnds runs
    → w.status ≡ status.Refused
    → Runs runs frames (Some told) image script w → Runs runs frames (Some told) image script v → v ≡ w
run_once runs frames told image script w v are is h k =
    reads_once (WithFrames runs frames) told image script w v (frames_once runs frames are) is h k

-- work that is refused has no other outcome
pub refused_once : (command : Command) (told : FileMap) (w : Outcome) → w.status ≡ status.Refused → (task_of command).gives (Some told) w
    → (v : Outcome) → (task_of command).gives (Some told) v → v ≡ w
refused_once (Burn source object) told w is h v k = burns_once told source object w v h k
refused_once (Link image objects) told w is h v k = links_once told image objects w v h k
refused_once (Check image) told w is h v k = checks_once told image w v h k
refused_once (RunBare image script frames n) told w is h v k =
    run_once (RunsBare frames n) frames told image script w v (bare_ends frames n) is h k
refused_once (RunWedge image script frames n) told w is h v k =
    run_once (RunsPatched frames n) frames told image script w v (patched_ends frames n) is h k
refused_once (Work number) told w is h v k = works_once number w v is h k
refused_once (Share schedule frames kernels) told w is h v k = shares_once told schedule frames kernels w v is h k
refused_once (Save on image script frames n file) told w is h v k =
    run_once (SavesBoot on frames n file) frames told image script w v (boot_ends on frames n file) is h k
refused_once (SaveFrom on image script file n new) told w is h v k =
    reads_once (FromFile (SavesOn on n new) on n (Some told) file) told image script w v
    (from_once (SavesOn on n new) on n told file (λ i e s u q. saves_ended on _ n _ new u q)) is h k
refused_once (Continue on image script file n) told w is h v k =
    reads_once (FromFile (ContinuesOn on n) on n (Some told) file) told image script w v
    (from_once (ContinuesOn on n) on n told file (continues_ended on n)) is h k
refused_once (Prove image script frames n certificate) told w is h v k =
    run_once (ProvesRun frames n certificate) frames told image script w v (proves_ends frames n certificate) is h k
refused_once (Replay image script frames n certificate text) told w is h v k =
    reads_once (Replays frames n (Some told) certificate text) told image script w v (replays_once frames n told certificate text) is h k

written_refusal : (name : List ℕ) (r : Result ObjectParts burning.Fault) → IsRefusal (written name r)
written_refusal name (Ok o) is = cc
written_refusal name (Err fault) is = refl

burned_refusal : (name : List ℕ) (r : Result (List SourceItem) (ℕ × SourceCause)) → IsRefusal (burned name r)
burned_refusal name (Ok items) is = written_refusal name (burnt items) is
burned_refusal name (Err (line, cause)) is = refl

linked_refusal : (name : List ℕ) (r : Result ImageParts Refused) → IsRefusal (linked name r)
linked_refusal name (Ok p) is = cc
linked_refusal name (Err fault) is = refl

checked_refusal : (r : Result Image Refusal) → IsRefusal (checked r)
checked_refusal (Ok image) is = cc
checked_refusal (Err refusal) is = refl

links_refusal : (files : Option FileMap) (image : List ℕ) (names : List (List ℕ)) (w : Outcome) → Links files image names w → IsRefusal w
links_refusal files image names w (AllRead os all one) = subst IsRefusal (sym one) (linked_refusal image (linked_image os))
links_refusal files image names w (NoObject i fault first one) = subst IsRefusal (sym one) (λ is. refl)

line_refusal : (line : List ℕ) → IsRefusal (refused line)
line_refusal line is = refl

runs_refusal : (runs : Image → Events → Outcome → Type 0) (frames : ℕ) (files : Option FileMap) (image script : List ℕ) (w : Outcome)
    → AreEnds runs → Runs runs frames files image script w → IsRefusal w
runs_refusal runs frames files image script w are h =
    reads_all IsRefusal (WithFrames runs frames) files image script w line_refusal
    (λ i e v r. frames_all IsRefusal runs frames i e v line_refusal (λ i2 e2 u q. ended_refusal u (are i2 e2 u q)) r) h

-- what is refused is a line alone
refused_alone : (command : Command) (files : Option FileMap) (w : Outcome) → (task_of command).gives files w → IsRefusal w
refused_alone (Burn source object) files w h = subst IsRefusal (sym h.comes) (burned_refusal object h.said)
refused_alone (Link image objects) files w h = links_refusal files image objects w h
refused_alone (Check image) files w h = subst IsRefusal (sym h.2) (checked_refusal (image_of h.0))
refused_alone (RunBare image script frames n) files w h =
    runs_refusal (RunsBare frames n) frames files image script w (bare_ends frames n) h
refused_alone (RunWedge image script frames n) files w h =
    runs_refusal (RunsPatched frames n) frames files image script w (patched_ends frames n) h
refused_alone (Work number) files w h = works_refusal number w h
refused_alone (Share schedule frames kernels) files w h = shares_refusal files schedule frames kernels w h
refused_alone (Save on image script frames n file) files w h =
    runs_refusal (SavesBoot on frames n file) frames files image script w (boot_ends on frames n file) h
refused_alone (SaveFrom on image script file n new) files w h =
    reads_all IsRefusal (FromFile (SavesOn on n new) on n files file) files image script w line_refusal
    (λ i e v r. from_all IsRefusal (SavesOn on n new) on n files file i e v line_refusal
    (λ i2 e2 s u q. ended_refusal u (saves_ended on _ n _ new u q)) r) h
refused_alone (Continue on image script file n) files w h =
    reads_all IsRefusal (FromFile (ContinuesOn on n) on n files file) files image script w line_refusal
    (λ i e v r. from_all IsRefusal (ContinuesOn on n) on n files file i e v line_refusal
    (λ i2 e2 s u q. ended_refusal u (continues_ended on n i2 e2 s u q)) r) h
refused_alone (Prove image script frames n certificate) files w h =
    runs_refusal (ProvesRun frames n certificate) frames files image script w (proves_ends frames n certificate) h
refused_alone (Replay image script frames n certificate text) files w h =
    reads_all IsRefusal (Replays frames n files certificate text) files image script w line_refusal
    (λ i e v r. replays_refusal frames n files certificate text i e v r) h

pub refused_again : (words : List (List ℕ)) (o : Outside) (st : Status) → Completes words o st → RefusesWork words o st
refused_again words o st complete command told w free gives is =
    let came = comes_to command o told w st (refused_once command told w is gives) (came_over words command told o st complete free) in
    let here = subst (λ (v : Outcome). ComesTo v o st) (refused_alone command (Some told) w gives is) came in
    (here.0, here.1, here.2)

-- ---- over the words

-- the work of a command doesn't end as words of no form
pub no_words : {R : Type 0} → (command : Command) (o : Outside) (st : Status) → Means (task_of command) o st → st ≡ status.Words → R
no_words command o st h is = absurd (subst (λ (s : Status). Means (task_of command) o s) is h)

same_command : (a b : Command) (form : Option Command) → Some a ≡ form → form ≡ Some b → a ≡ b
same_command a b form is be = cc

-- nor do words of no form end as a read fault
pub no_fault : status.Words ≡ status.ReadFault → ⊥
no_fault is = cc

-- words of no form ask for no command
pub asks_nothing : {R : Type 0} → (form : Option Command) (command : Command) → None ≡ form → form ≡ Some command → R
asks_nothing form command none is = absurd (let e : None ≡ Some command = none ∙ is in cc)

-- what is meant by the words' command
pub means_of : (a : Command) (form : Option Command) (o : Outside) (st : Status) → Some a ≡ form → Means (task_of a) o st
    → (command : Command) → form ≡ Some command → Means (task_of command) o st
means_of a form o st is h command be = subst (λ (k : Command). Means (task_of k) o st) (same_command a command form is be) h

pub counts_of : (a : Command) (form : Option Command) (o : Outside) → Some a ≡ form → FaultCounts (task_of a) o → (command : Command)
    → form ≡ Some command → FaultCounts (task_of command) o
counts_of a form o is h command be = subst (λ (k : Command). FaultCounts (task_of k) o) (same_command a command form is be) h

pub leaves_of : (a : Command) (form : Option Command) (old new : Option FileMap) → Some a ≡ form → (task_of a).leaves old new
    → (command : Command) → form ≡ Some command → (task_of command).leaves old new
leaves_of a form old new is h command be = subst (λ (k : Command). (task_of k).leaves old new) (same_command a command form is be) h

-- ---- laws

pub held_objects : (told : FileMap) (names : List (List ℕ)) (os : List ObjectParts) → HoldObjects told names os
    → HasObjects (Some told) names os
held_objects told [] [] h = h
held_objects told [] (o ∷ os) h = absurd h
held_objects told (name ∷ names) [] h = absurd h
held_objects told (name ∷ names) (o ∷ os) h = ((object_bytes o, h.0.0, h.0.2 h.0.1), held_objects told names os h.1)

-- where the work has an outcome, each file that it reaches is held
pub gives_found : (command : Command) (told : FileMap) (w : Outcome) → (task_of command).gives (Some told) w
    → (task_of command).finds (Some told)
gives_found (Burn source object) told w h = (h.text, h.holds)
gives_found (Link image objects) told w h = links_found told image objects w h
gives_found (Check image) told w h = (h.0, h.1)
gives_found (RunBare image script frames n) told w h = reads_found (WithFrames (RunsBare frames n) frames) told image script w h
gives_found (RunWedge image script frames n) told w h = reads_found (WithFrames (RunsPatched frames n) frames) told image script w h
gives_found (Work number) told w h = tt
gives_found (Share schedule frames kernels) told w h = shares_found told schedule frames kernels w h
gives_found (Save on image script frames n file) told w h =
    reads_found (WithFrames (SavesBoot on frames n file) frames) told image script w h
gives_found (SaveFrom on image script file n new) told w h = from_found (SavesOn on n new) on n told image script file w h
gives_found (Continue on image script file n) told w h = from_found (ContinuesOn on n) on n told image script file w h
gives_found (Prove image script frames n certificate) told w h =
    reads_found (WithFrames (ProvesRun frames n certificate) frames) told image script w h
gives_found (Replay image script frames n certificate text) told w h = replays_found frames n told image script certificate text w h

pub image_again : (told : FileMap) (name : List ℕ) (p : ImageParts) (program : Image) → told name ≡ Some (image_bytes p)
    → length (image_bytes p) ≤ 33554432 → ImageReadsBack p
    → image_from p ≡ Ok program → HasImage (Some told) name program
image_again told name p program holds le back from = (
  image_bytes p,
  holds,
  unfold image_of in
      (subst (λ (r : Result ImageParts Fault). (as_form r >>= image_from) ≡ Ok program) (sym (back le)) from),
)

pub image_parts : (p : ImageParts) (program : Image) → image_from p ≡ Ok program
    → (program.text ≡ p.text) × (program.init ≡ p.init) × (program.bss ≡ p.bss) × (program.entry ≡ p.entry)
image_parts p program from =
    let is = (has_passed p program from).image_is in (
      sym (ap (λ (i : Image). i.text) is),
      sym (ap (λ (i : Image). i.init) is),
      sym (ap (λ (i : Image). i.bss) is),
      sym (ap (λ (i : Image). i.entry) is),
    )

pub stored_again : (told : FileMap) (new : Option FileMap) (name bytes : List ℕ) → Stores (Some told) new name bytes
    → (later : FileMap) × (new ≡ Some later) × (later name ≡ Some bytes) × ((q : List ℕ) → bytes_eq q name ≡ false → later q ≡ told q)
stored_again told new name bytes h = (
  h.0,
  h.1,
  h.2 name ∙ ap (λ (b : Bool). cond b (Some bytes) (told name)) ((bytes_eq-Decides name name).1 refl),
  λ q other. h.2 q ∙ ap (λ (b : Bool). cond b (Some bytes) (told q)) other,
)
