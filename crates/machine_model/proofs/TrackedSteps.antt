-- Memory follows over a step.
use Rattle.std.proofs.Common.{ℕ, ◌/◌, ◌==◌, Bool, true, false, cond, sym, ap, subst, ◌∙◌, inl, inr, List, Ok, Err}
use Rattle.std.specs.List.{Contains}
use Rattle.std.proofs.lemmas.Bool.{both_ways}
use Rattle.guest_ram.specs.Bytes.{byte}
use Rattle.ia32_decode.specs.declared.answer.Decoded.{Decoded}
use Rattle.ia32_decode.specs.declared.answer.Decoded.TheVariants as begins
use Rattle.descriptors.specs.Controls.{pse_of}
use Rattle.descriptors.specs.declared.cpu.Cpu.{Cpu}
use Rattle.paging.specs.declared.entry.Entry.{Entry}
use Rattle.paging.specs.declared.entry.Touch.{Touch}
use Rattle.paging.specs.declared.entry.Touch.TheVariants as touch
use Rattle.paging.specs.Space.{Space, place}
use Rattle.paging.specs.Uses.{fetches, with_front, with_back}
use Rattle.paging.specs.Work.{Outcome}
use Rattle.sys_exec.specs.declared.effect.Refusal.{Refusal}
use Rattle.sys_exec.specs.declared.effect.SysOutcome.{SysOutcome}
use Rattle.sys_exec.specs.Sys.{sys_work}
use Rattle.step_exec.specs.Plain.{executed}
use Rattle.machine_model.specs.State.{Setting, State, space_at_start}
use Rattle.machine_model.specs.Instruction.{bytes_fetched, fetching, owning_front, owning_back, owned, fetched_on, fetched_by, fetched, is_plain, done_plainly, instructed}
use Rattle.machine_model.specs.Step.{Report, unheld}
use Rattle.machine_model.specs.Run.{Set}
use Rattle.machine_model.specs.Reloading.{MemoryFollows, IsFoundBy, Follows, Leaves}
use Rattle.machine_model.specs.Following.{FetchedFollows, RangesFollow, InstructedFollows, DeliveredFollows, IsLeftBy, StepsFollow, StepsKeepMemory, OthersStay, WordsStayFound, SetsAreFound, FoundAreCacheable}
use Rattle.machine_model.proofs.FoundStill.{found_still}
use Rattle.machine_model.proofs.Following.{same_follows, fetches_follow, aside}
use Rattle.machine_model.proofs.Tracking.{Tracks, tracks, leaves_on}
use Rattle.machine_model.proofs.MadeTracks.{sys_tracks}
use Rattle.machine_model.proofs.TrackedPlain.{both_tracks, plain_tracks}
use Rattle.machine_model.proofs.MadeTracks.{delivered_tracks}
use Rattle.machine_model.proofs.UsingWorks.{is_stop, is_end}
use Rattle.machine_model.proofs.Lasting.{On, lasts}
pub use Rattle.machine_model.proofs.Goes.{not_dropped, retained}

-- ---- the fetch

taken_leaves : (at len : ℕ) (s : Space) (t : Touch) (u : Space) → Follows s u → Leaves s (bytes_fetched at len t u)
taken_leaves at len s touch.Ready u h = h
taken_leaves at len s (touch.Fault code cr2) u h = h
taken_leaves at len s (touch.Stop stop) u h = h

fetching_tracks : (user : Bool) (at len : ℕ) → Tracks (fetching user at len)
unfolding fetching
fetching_tracks user at len =
    record { each = λ s. taken_leaves at len s (fetches s at len user).0 (fetches s at len user).1 (fetches_follow s at len user) }

front_tracks : (at len : ℕ) → Tracks (owning_front at len)
unfolding owning_front
front_tracks at len = record { each = λ s. aside s (with_front s.mode (place s at) len) s.pages s.visited s.ready s.earlier (λ page c. c) }

back_tracks : (at len : ℕ) → Tracks (owning_back at len)
unfolding owning_back
back_tracks at len = record { each = λ s. aside s (with_back s.mode (place s at) len) s.pages s.visited s.ready s.earlier (λ page c. c) }

owned_tracks : (eip : ℕ) (d : Decoded) → Tracks (owned eip d)
owned_tracks eip (begins.Insn insn len) = search (tracks, back_tracks) depth 8
owned_tracks eip begins.Outside = search tracks
owned_tracks eip begins.Short = search tracks

on_tracks : (user : Bool) (eip : ℕ) (front : List ℕ) → Tracks (fetched_on user eip front)
unfolding fetched_on
on_tracks user eip front = search (tracks, front_tracks, fetching_tracks, owned_tracks) depth 12

by_tracks : (user : Bool) (eip : ℕ) (front : List ℕ) (d : Decoded) → Tracks (fetched_by user eip front d)
by_tracks user eip front (begins.Insn insn len) = search (tracks, front_tracks) depth 8
by_tracks user eip front begins.Outside = search tracks
by_tracks user eip front begins.Short = search (tracks, on_tracks) depth 8

fetched_tracks : (user : Bool) (eip : ℕ) → Tracks (fetched user eip)
unfolding fetched
fetched_tracks user eip = search (tracks, fetching_tracks, by_tracks) depth 8

pub fetched_follows : FetchedFollows
fetched_follows user eip s = (fetched_tracks user eip).each s

-- ---- ranges, instructions and deliveries

pub ranges_follow : RangesFollow
ranges_follow cpu insn s = (both_tracks cpu _).each s

plainly_leaves : (s : Space) (o : Outcome Refusal Cpu) → Leaves s o → Leaves s (done_plainly o)
plainly_leaves s (Ok x) h = h
plainly_leaves s (Err refused) h = h

either_leaves : (s : Space) (test : Bool) (a b : Outcome Refusal SysOutcome) → Leaves s a → Leaves s b → Leaves s (cond test a b)
either_leaves s true a b h k = h
either_leaves s false a b h k = k

pub instructed_follows : InstructedFollows
unfolding instructed
instructed_follows insn len cpu s =
    either_leaves s (is_plain insn.op) (done_plainly (executed insn len cpu s)) (sys_work insn len cpu s)
    (plainly_leaves s (executed insn len cpu s) ((plain_tracks insn len cpu).each s)) ((sys_tracks insn len cpu).each s)

pub delivered_follows : DeliveredFollows
delivered_follows cpu vector kind code s = (delivered_tracks cpu vector kind code).each s

-- ---- the outcome of a step

on_leaves : {E A : Type 0} (s : Space) (ends : E → Bool) (o : Outcome E A) → Leaves s o → On (Follows s) ends o
on_leaves s ends (Ok x) h = h
on_leaves s ends (Err e) h = λ goes. h

pub steps_follow : StepsFollow
steps_follow m b set report b2 is =
    let s : Space = space_at_start m.mode m.frames b.cpu b.ram set in
    let l = lasts m b set (Follows s) (record {
      start = same_follows s;
      fetches = on_leaves s is_stop _ (fetched_follows (b.cpu.cpl == 3) b.cpu.regs.eip s);
      does = λ insn len t h. on_leaves s is_stop _ (leaves_on s t _ h (instructed_follows insn len (unheld b).cpu t));
      enters = λ cpu vector kind code t h. on_leaves s is_end _ (leaves_on s t _ h (delivered_follows cpu vector kind code t));
    }) report b2 is in
    record { last = l.last; follows = l.holds; ram = l.ram; set = l.set; tables = l.tables; wrote = l.wrote; pages = l.pages }

-- ---- the laws of a step

pub steps_keep_memory : StepsKeepMemory
steps_keep_memory m b set report b2 is =
    let h = steps_follow m b set report b2 is in
    subst (λ (w : List ℕ). MemoryFollows w b.ram b2.ram) (sym h.wrote)
    (subst (MemoryFollows h.last.wrote b.ram) (sym h.ram) h.follows.memory)

pub others_stay : OthersStay
others_stay m b set report b2 at is all lt free clear =
    let h = steps_follow m b set report b2 is in
    ap (λ (x : List ℕ). byte x at) h.ram
    ∙ h.follows.others (λ page c. all page (subst (λ (l : List ℕ). Contains l page) (sym h.pages) c)) at lt
    (λ c. free (subst (λ (l : List ℕ). Contains l (at / 4096)) (sym h.wrote) c))
    (λ c. clear (subst (λ (l : List ℕ). Contains l (at / 4096)) (sym h.tables) c))

pub words_stay_found : WordsStayFound
words_stay_found m b set report b2 cr3 pse tables page e room small is none found =
    found_still b.ram b2.ram m.frames cr3 pse tables page e room small
    (λ at even within held. (steps_keep_memory m b set report b2 is).words at even within
    (λ c. both_ways (tables (at / 4096)) (none (at / 4096) c) held)) found

pub found_are_cacheable : FoundAreCacheable
found_are_cacheable m b tables page e small k = record {
  page_in = small;
  dir_at = k.dir_at;
  word_at = k.word_at;
  dirty = k.dirty;
  found = k.found;
  accessed = k.accessed;
  is_dirty = k.is_dirty;
}

found_there : (m : Setting) (b : State) (set : Set) (report : Report) (b2 : State)
    (h : IsLeftBy (space_at_start m.mode m.frames b.cpu b.ram set) report b2) (tables : ℕ → Bool) (page : ℕ) (e : Entry)
    → IsFoundBy h.last.ram h.last.frames h.last.cr3 h.last.pse tables page e
    → IsFoundBy b2.ram m.frames b.cpu.cr3 (pse_of b.cpu) tables page e
found_there m b set report b2 h tables page e k =
    subst (λ (x : List ℕ). IsFoundBy x m.frames b.cpu.cr3 (pse_of b.cpu) tables page e) (sym h.ram)
    (subst (λ p. IsFoundBy h.last.ram m.frames b.cpu.cr3 p tables page e) h.follows.pse
    (subst (λ c. IsFoundBy h.last.ram m.frames c h.last.pse tables page e) h.follows.cr3
    (subst (λ n. IsFoundBy h.last.ram n h.last.cr3 h.last.pse tables page e) h.follows.frames k)))

pub sets_are_found : SetsAreFound
sets_are_found m b set report b2 room is apart tables holds page small e there =
    let h = steps_follow m b set report b2 is in
    elim (h.follows.each room
    (λ frame c d. apart frame (subst (λ (l : List ℕ). Contains l frame) (sym h.tables) c)
    (subst (λ (l : List ℕ). Contains l frame) (sym h.wrote) d))
    tables (λ frame c. holds frame (subst (λ (l : List ℕ). Contains l frame) (sym h.tables) c)) page small e (h.set page e there)) [
      | inl old ↦ inl old
      | inr found ↦ inr (found_there m b set report b2 h tables page e found)
    ]
