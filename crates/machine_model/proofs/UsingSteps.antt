-- Pages lead well over a step.
use Rattle.std.proofs.Common.{◌≡◌, ℕ, arith, ◌==◌, Bool, true, false, cond, refl, sym, subst, ◌∙◌, List, [], Ok, Err}
use Rattle.std.specs.List.{Contains}
use Rattle.ia32_types.specs.declared.insn.Insn.{Insn}
use Rattle.ia32_decode.specs.declared.answer.Decoded.{Decoded}
use Rattle.ia32_decode.specs.declared.answer.Decoded.TheVariants as begins
use Rattle.descriptors.specs.declared.cpu.Cpu.{Cpu}
use Rattle.paging.specs.declared.entry.Touch.{Touch}
use Rattle.paging.specs.declared.entry.Touch.TheVariants as touch
use Rattle.paging.specs.Space.{Mode, Bare, Wedge, Space, place}
use Rattle.paging.specs.Uses.{fetches, with_front, with_back}
use Rattle.paging.specs.Work.{Outcome}
use Rattle.sys_exec.specs.declared.effect.Refusal.{Refusal}
use Rattle.sys_exec.specs.declared.effect.Refusal.TheVariants as refusal
use Rattle.sys_exec.specs.declared.effect.SysOutcome.{SysOutcome}
use Rattle.sys_exec.specs.Sys.{sys_work}
use Rattle.step_exec.specs.Plain.{executed}
use Rattle.event_entry.specs.declared.refusal.NotDelivered.{NotDelivered}
use Rattle.event_entry.specs.declared.refusal.NotDelivered.TheVariants as not_delivered
use Rattle.event_entry.specs.Deliver.{delivered}
use Rattle.machine_model.specs.State.{space_at_start}
use Rattle.machine_model.specs.Instruction.{bytes_fetched, fetching, owning_front, owning_back, owned, fetched_on, fetched_by, fetched, is_plain, done_plainly, instructed}
use Rattle.machine_model.specs.Step.{unheld}
use Rattle.machine_model.specs.UsedPages.{may_use, LeadWell, Uses, Uses_on, Delivers, FetchedUses, RangesUse, InstructedUses, DeliveredUses, IsUsedBy, StepsUse, UsedPagesLeadWell}
use Rattle.machine_model.proofs.Using.{Met, same_uses, owning, fetches_met}
use Rattle.machine_model.proofs.UsingWorks.{is_stop, is_end, LeavesUses, Keeps, keeping, leaves_on}
use Rattle.machine_model.proofs.MadeUses.{sys_keeps}
use Rattle.machine_model.proofs.UsingPlain.{both_keep, plain_keeps}
use Rattle.machine_model.proofs.MadeUses.{delivered_keeps}
use Rattle.machine_model.proofs.Lasting.{On, lasts}

-- ---- the fetch

taken_leaves : (user : Bool) (at len : ℕ) (s : Space) (t : Touch) (u : Space) → Met user s t u
    → LeavesUses is_stop user s (bytes_fetched at len t u)
taken_leaves user at len s touch.Ready u h = h
taken_leaves user at len s (touch.Fault code cr2) u h = λ goes. h
taken_leaves user at len s (touch.Stop stop) u h = λ goes. absurd (let e : true ≡ false = goes in cc)

fetching_keeps : (user : Bool) (at len : ℕ) → Keeps is_stop user (fetching user at len)
unfolding fetching
fetching_keeps user at len =
    record { each = λ s. taken_leaves user at len s (fetches s at len user).0 (fetches s at len user).1 (fetches_met user s at len) }

-- the bytes of the instruction are no rule of these
front_same : (user : Bool) (mode : Mode) (at len page frame : ℕ) → may_use (with_front mode at len) user page frame ≡ may_use
    mode user page frame
front_same true Bare at len page frame = refl
front_same false Bare at len page frame = refl
front_same true (Wedge text count own) at len page frame = refl
front_same false (Wedge text count own) at len page frame = refl

back_same : (user : Bool) (mode : Mode) (at len page frame : ℕ) → may_use (with_back mode at len) user page frame ≡ may_use
    mode user page frame
back_same true Bare at len page frame = refl
back_same false Bare at len page frame = refl
back_same true (Wedge text count own) at len page frame = refl
back_same false (Wedge text count own) at len page frame = refl

front_keeps : (user : Bool) (at len : ℕ) → Keeps is_stop user (owning_front at len)
unfolding owning_front
front_keeps user at len =
    record {
      each = λ s. owning user s (with_front s.mode (place s at) len)
          (λ page frame. front_same user s.mode (place s at) len page frame);
    }

back_keeps : (user : Bool) (at len : ℕ) → Keeps is_stop user (owning_back at len)
unfolding owning_back
back_keeps user at len =
    record {
      each = λ s. owning user s (with_back s.mode (place s at) len)
          (λ page frame. back_same user s.mode (place s at) len page frame);
    }

owned_keeps : (user : Bool) (eip : ℕ) (d : Decoded) → Keeps is_stop user (owned eip d)
owned_keeps user eip (begins.Insn insn len) = search (keeping, back_keeps) depth 8
owned_keeps user eip begins.Outside = search keeping
owned_keeps user eip begins.Short = search keeping

on_keeps : (user : Bool) (eip : ℕ) (front : List ℕ) → Keeps is_stop user (fetched_on user eip front)
unfolding fetched_on
on_keeps user eip front = search (keeping, front_keeps, fetching_keeps, owned_keeps) depth 12

by_keeps : (user : Bool) (eip : ℕ) (front : List ℕ) (d : Decoded) → Keeps is_stop user (fetched_by user eip front d)
by_keeps user eip front (begins.Insn insn len) = search (keeping, front_keeps) depth 8
by_keeps user eip front begins.Outside = search keeping
by_keeps user eip front begins.Short = search (keeping, on_keeps) depth 8

fetched_keeps : (user : Bool) (eip : ℕ) → Keeps is_stop user (fetched user eip)
unfolding fetched
fetched_keeps user eip = search (keeping, fetching_keeps, by_keeps) depth 8

told_refusal : {A : Type 0} (user : Bool) (s : Space) (o : Outcome Refusal A) → LeavesUses is_stop user s o → Uses_on user s o
told_refusal user s (Ok x) h = h
told_refusal user s (Err (refusal.Fault code at, t)) h = h refl
told_refusal user s (Err (refusal.Raise vector code, t)) h = h refl
told_refusal user s (Err (refusal.Stop stop, t)) h = tt

told_delivery : (user : Bool) (s : Space) (o : Outcome NotDelivered Cpu) → LeavesUses is_end user s o → Delivers user s o
told_delivery user s (Ok x) h = h
told_delivery user s (Err (not_delivered.Privilege, t)) h = h refl
told_delivery user s (Err (not_delivered.Stop stop, t)) h = tt

pub fetched_uses : FetchedUses
fetched_uses user eip s = told_refusal user s (fetched user eip s) ((fetched_keeps user eip).each s)

-- ---- ranges, instructions and deliveries

pub ranges_use : RangesUse
ranges_use cpu insn s = told_refusal (cpu.cpl == 3) s _ ((both_keep cpu insn).each s)

plainly_leaves : (user : Bool) (s : Space) (o : Outcome Refusal Cpu) → LeavesUses is_stop user s o
    → LeavesUses is_stop user s (done_plainly o)
plainly_leaves user s (Ok x) h = h
plainly_leaves user s (Err refused) h = h

either_leaves : (user : Bool) (s : Space) (test : Bool) (a b : Outcome Refusal SysOutcome) → LeavesUses is_stop user s a
    → LeavesUses is_stop user s b → LeavesUses is_stop user s (cond test a b)
either_leaves user s true a b h k = h
either_leaves user s false a b h k = k

instructed_leaves : (insn : Insn) (len : ℕ) (cpu : Cpu) (s : Space) → LeavesUses is_stop (cpu.cpl == 3) s (instructed insn len cpu s)
unfolding instructed
instructed_leaves insn len cpu s =
    either_leaves (cpu.cpl == 3) s (is_plain insn.op) (done_plainly (executed insn len cpu s)) (sys_work insn len cpu s)
    (plainly_leaves (cpu.cpl == 3) s (executed insn len cpu s) ((plain_keeps insn len cpu).each s)) ((sys_keeps insn len cpu).each s)

pub instructed_uses : InstructedUses
instructed_uses insn len cpu s = told_refusal (cpu.cpl == 3) s (instructed insn len cpu s) (instructed_leaves insn len cpu s)

pub delivered_uses : DeliveredUses
delivered_uses user cpu vector kind code s =
    told_delivery user s (delivered cpu vector kind code s) ((delivered_keeps user cpu vector kind code).each s)

-- ---- the outcome of a step

on_leaves : {E A : Type 0} (ends : E → Bool) (user : Bool) (s : Space) (o : Outcome E A) → LeavesUses ends user s o
    → On (Uses user s) ends o
on_leaves ends user s (Ok x) h = h
on_leaves ends user s (Err e) h = h

pub steps_use : StepsUse
steps_use m b set report after is =
    let user : Bool = b.cpu.cpl == 3 in
    let s : Space = space_at_start m.mode m.frames b.cpu b.ram set in
    let l = lasts m b set (Uses user s) (record {
      start = same_uses user s;
      fetches = on_leaves is_stop user s _ ((fetched_keeps user b.cpu.regs.eip).each s);
      does = λ insn len t h. on_leaves is_stop user s _ (leaves_on is_stop user s t _ h (instructed_leaves insn len (unheld b).cpu t));
      enters = λ cpu vector kind code t h.
          on_leaves is_end user s _ (leaves_on is_end user s t _ h ((delivered_keeps user cpu vector kind code).each t));
    }) report after is in
    record { last = l.last; uses = l.holds; ram = l.ram; set = l.set; pages = l.pages }

-- ---- the pages lead well

none_went : (user : Bool) (s : Space) → s.visited ≡ [] → LeadWell user s
none_went user s none =
    record { each = λ page c e is. absurd (let h = subst (λ (l : List ℕ). Contains l page) none c in let lt = h.1 in omega (arith, lt)) }

pub used_pages_lead_well : UsedPagesLeadWell
used_pages_lead_well m b set report after is page used e there =
    let user : Bool = b.cpu.cpl == 3 in
    let s : Space = space_at_start m.mode m.frames b.cpu b.ram set in
    let h : IsUsedBy user s report after = steps_use m b set report after is in
    let l = h.uses.lead (none_went user s refl) in
    sym (h.uses.rules page e.frame) ∙ l.each page (subst (λ (w : List ℕ). Contains w page) h.pages used) e (h.set page e there)
