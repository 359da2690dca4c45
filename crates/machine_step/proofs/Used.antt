-- Memory within a step that goes on, by the outcome of a part of the step.
use Rattle.std.proofs.Common.{◌≡◌, ℕ, Bool, Option, Ok, Err, Result, ap, subst}
use Rattle.std.specs.Prelude.{IfOk, IfErr, OnErr}
use Rattle.descriptors.specs.declared.cpu.Cpu.{Cpu}
use Rattle.event_entry.specs.declared.refusal.Kind.{Kind}
use Rattle.event_entry.specs.declared.refusal.NotDelivered.{NotDelivered}
use Rattle.event_entry.specs.declared.refusal.NotDelivered.TheVariants as not_delivered
use Rattle.event_entry.specs.Deliver.{delivered}
use Rattle.paging.specs.Space.{Space}
use Rattle.paging.specs.Work.{Outcome}
use Rattle.paging.specs.Gives.{Gives}
use Rattle.sys_exec.specs.declared.effect.Refusal.{Refusal}
use Rattle.sys_exec.specs.declared.effect.Refusal.TheVariants as refusal
use Rattle.sys_exec.specs.declared.effect.SysEffect.{SysEffect}
use Rattle.sys_exec.specs.declared.effect.SysEffect.TheVariants as effects
use Rattle.sys_exec.specs.declared.effect.SysOutcome.{SysOutcome}
use Rattle.sys_exec.specs.Sys.{told}
use Rattle.machine_model.specs.UsedPages.{Uses, AtRefusal, Uses_on, Delivers, DeliveredUses}
use Rattle.machine_model.proofs.Using.{uses_on}
use Rattle.machine_step.specs.Begun.{AtEffect}

-- ---- a part of a step, whatever value it gives

pub if_ok : {T E P : Type 0} (r : Result T E) → P → IfOk r (λ _. P)
if_ok (Ok x) p = p
if_ok (Err e) p = tt

pub on_err : {T E P : Type 0} (r : Result T E) → P → OnErr r P
on_err (Ok x) p = tt
on_err (Err e) p = p

pub if_ok_on : {T E : Type 0} (user : Bool) (s t u : Space) (r : Result T E) → Uses user s t → IfOk r (λ _. Uses user t u)
    → IfOk r (λ _. Uses user s u)
if_ok_on user s t u (Ok x) h k = uses_on user s t u h k
if_ok_on user s t u (Err e) h k = tt

-- ---- work that gives or refuses

pub given_uses : {A : Type 0} (user : Bool) (s t : Space) (o : Outcome Refusal A) (x : A) → o ≡ Ok (x, t) → Uses_on user s o → Uses user s t
given_uses {A} user s t o x e h = subst (λ (p : Outcome Refusal A). Uses_on user s p) e h

pub refused_uses : {A : Type 0} (user : Bool) (s t : Space) (o : Outcome Refusal A) (r : Refusal) → o ≡ Err (r, t) → Uses_on user s o
    → AtRefusal user s r t
refused_uses {A} user s t o r e h = subst (λ (p : Outcome Refusal A). Uses_on user s p) e h

pub gives_uses : {A : Type 0} (user : Bool) (s t : Space) (r : Result A Refusal) (o : Outcome Refusal A) → Gives r t o → Uses_on user s o
    → IfOk r (λ _. Uses user s t)
gives_uses user s t (Ok x) o e h = given_uses user s t o x e h
gives_uses user s t (Err r) o e h = tt

pub refuses_uses : {A : Type 0} (user : Bool) (s t : Space) (r : Result A Refusal) (o : Outcome Refusal A) → Gives r t o → Uses_on user s o
    → IfErr r (λ e. AtRefusal user s e t)
refuses_uses user s t (Ok x) o e h = tt
refuses_uses user s t (Err r) o e h = refused_uses user s t o r e h

-- ---- a delivery, at either level

pub entered_uses : DeliveredUses → (user : Bool) (cpu after : Cpu) (vector : ℕ) (kind : Kind) (code : Option ℕ) (s t : Space)
    → delivered cpu vector kind code s ≡ Ok (after, t) → Uses user s t
entered_uses law user cpu after vector kind code s t e =
    subst (λ (o : Outcome NotDelivered Cpu). Delivers user s o) e (law user cpu vector kind code s)

pub denied_uses : DeliveredUses → (user : Bool) (cpu : Cpu) (vector : ℕ) (kind : Kind) (code : Option ℕ) (s t : Space)
    → delivered cpu vector kind code s ≡ Err (not_delivered.Privilege, t) → Uses user s t
denied_uses law user cpu vector kind code s t e =
    subst (λ (o : Outcome NotDelivered Cpu). Delivers user s o) e (law user cpu vector kind code s)

-- ---- an instruction's effect

effect_uses : (user : Bool) (s t : Space) (e : SysEffect) → Uses user s t → AtEffect user s e t
effect_uses user s t (effects.Stop stop) h = tt
effect_uses user s t e h = h

refusal_told : (user : Bool) (cpu : Cpu) (s t u : Space) (r : Refusal) (e : SysEffect) (after : Cpu) → told cpu (Err (r, u)) ≡ (e, after, t)
    → AtRefusal user s r u → AtEffect user s e t
refusal_told user cpu s t u (refusal.Fault code at) e after g h =
    effect_uses user s t e (subst (Uses user s) (ap (λ (p : SysEffect × Cpu × Space). p.2) g) h)
refusal_told user cpu s t u (refusal.Raise vector code) e after g h =
    effect_uses user s t e (subst (Uses user s) (ap (λ (p : SysEffect × Cpu × Space). p.2) g) h)
refusal_told user cpu s t u (refusal.Stop stop) e after g h =
    subst (λ (x : SysEffect). AtEffect user s x t) (ap (λ (p : SysEffect × Cpu × Space). p.0) g) tt

pub told_uses : (user : Bool) (cpu : Cpu) (s t : Space) (o : Outcome Refusal SysOutcome) (e : SysEffect) (after : Cpu)
    → told cpu o ≡ (e, after, t) → Uses_on user s o → AtEffect user s e t
told_uses user cpu s t (Ok done) e after g h = effect_uses user s t e (subst (Uses user s) (ap (λ (p : SysEffect × Cpu × Space). p.2) g) h)
told_uses user cpu s t (Err refused) e after g h = refusal_told user cpu s t refused.1 refused.0 e after g h
