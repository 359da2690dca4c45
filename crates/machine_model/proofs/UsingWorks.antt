-- Pages lead well over a list of accesses, which is done, or refused without a stop.
use Rattle.std.proofs.Common.{◌≡◌, ℕ, ◌≤◌, Bool, true, false, cond, refl, Option, Some, None, Ok, Err, arith}
use Rattle.ia32_types.specs.declared.size.Size.{Size}
use Rattle.ia32_types.specs.declared.stop.Stop as reason
use Rattle.paging.specs.declared.entry.Access.{Access}
use Rattle.paging.specs.declared.entry.Touch.{Touch}
use Rattle.paging.specs.declared.entry.Touch.TheVariants as touch
use Rattle.paging.specs.Space.{Space, saved}
use Rattle.paging.specs.Uses.{uses}
use Rattle.paging.specs.Work.{Outcome, Work, on_value, ◌>>=◌, gives, refuses, unless, reads, reads_earlier, writes}
use Rattle.descriptors.specs.declared.cpu.Cpu.{Cpu}
use Rattle.descriptors.specs.Access.{Denials, met, reaching, by_processor, pair_at, byte_set, mark}
use Rattle.sys_exec.specs.declared.effect.Refusal.{Refusal}
use Rattle.sys_exec.specs.declared.effect.Refusal.TheVariants as refusal
use Rattle.event_entry.specs.declared.refusal.NotDelivered.{NotDelivered}
use Rattle.event_entry.specs.declared.refusal.NotDelivered.TheVariants as not_delivered
use Rattle.machine_model.specs.UsedPages.{Uses}
use Rattle.machine_model.proofs.Using.{Met, same_uses, uses_on, beside, uses_met}

abbrev pub is_stop : Refusal → Bool
is_stop (refusal.Fault code at) = false
is_stop (refusal.Raise vector code) = false
is_stop (refusal.Stop stop) = true

abbrev pub is_end : NotDelivered → Bool
is_end not_delivered.Privilege = false
is_end (not_delivered.Stop stop) = true

-- done, or refused by what isn't an end
abbrev pub LeavesUses : {E A : Type 0} → (E → Bool) → Bool → Space → Outcome E A → Type 0
LeavesUses ends user s (Ok x) = Uses user s x.1
LeavesUses ends user s (Err e) = ends e.0 ≡ false → Uses user s e.1

pub record Keeps {E A : Type 0} (ends : E → Bool) (user : Bool) (w : Work E A) : Type 0 where
  pub each : (s : Space) → LeavesUses ends user s (w s)

pub leaves_on : {E A : Type 0} (ends : E → Bool) (user : Bool) (s t : Space) (o : Outcome E A) → Uses user s t → LeavesUses ends user t o
    → LeavesUses ends user s o
leaves_on ends user s t (Ok x) h k = uses_on user s t x.1 h k
leaves_on ends user s t (Err e) h k = λ goes. uses_on user s t e.1 h (k goes)

after : {E A B : Type 0} (ends : E → Bool) (user : Bool) (s : Space) (o : Outcome E A) (f : A → Work E B) → LeavesUses ends user s o
    → ((x : A) → Keeps ends user (f x)) → LeavesUses ends user s (on_value o f)
after ends user s (Ok x) f h k = leaves_on ends user s x.1 (f x.0 x.1) h ((k x.0).each x.1)
after ends user s (Err e) f h k = h

pub then_keeps : {E A B : Type 0} {ends : E → Bool} {user : Bool} {m : Work E A} {f : A → Work E B} → Keeps ends user m
    → ((x : A) → Keeps ends user (f x)) → Keeps ends user (m >>= f)
then_keeps {ends = ends} {user = user} {m = m} {f = f} h k = record { each = λ s. after ends user s (m s) f (h.each s) k }

pub gives_keeps : {E A : Type 0} (ends : E → Bool) (user : Bool) (x : A) → Keeps ends user (gives {E = E} x)
gives_keeps ends user x = record { each = λ s. same_uses user s }

pub refuses_keeps : {E A : Type 0} (ends : E → Bool) (user : Bool) (e : E) → Keeps ends user (refuses {A = A} e)
refuses_keeps ends user e = record { each = λ s goes. same_uses user s }

pub unless_keeps : {E : Type 0} (ends : E → Bool) (user : Bool) (e : E) (test : Bool) → Keeps ends user (unless e test)
unless_keeps ends user e true = record { each = λ s. same_uses user s }
unless_keeps ends user e false = record { each = λ s goes. same_uses user s }

pub reads_keeps : {E : Type 0} (ends : E → Bool) (user : Bool) (at : ℕ) (size : Size) → Keeps ends user (reads {E = E} at size)
reads_keeps ends user at size = record { each = λ s. same_uses user s }

pub reads_earlier_keeps : {E : Type 0} (ends : E → Bool) (user : Bool) (at : ℕ) (size : Size)
    → Keeps ends user (reads_earlier {E = E} at size)
reads_earlier_keeps ends user at size = record { each = λ s. same_uses user s }

-- a write changes memory alone
pub saved_uses : (user : Bool) (s : Space) (at : ℕ) (size : Size) (v : ℕ) → Uses user s (saved s at size v)
saved_uses user s at size v = beside user s _ s.tables s.wrote s.ready s.earlier

pub writes_keeps : {E : Type 0} (ends : E → Bool) (user : Bool) (at : ℕ) (size : Size) (v : ℕ) → Keeps ends user (writes {E = E} at size v)
writes_keeps ends user at size v = record { each = λ s. saved_uses user s at size v }

pub if_keeps : {E A : Type 0} {ends : E → Bool} {user : Bool} {w v : Work E A} (test : Bool) → Keeps ends user w → Keeps ends user v
    → Keeps ends user (cond test w v)
if_keeps true h k = h
if_keeps false h k = k

met_leaves : {E : Type 0} (ends : E → Bool) (d : Denials E) (user : Bool) (s : Space) (t : Touch) (u : Space)
    → ((stop : reason.Stop) → ends (d.stop stop) ≡ true) → Met user s t u → LeavesUses ends user s (met d t u)
met_leaves ends d user s touch.Ready u stops h = h
met_leaves ends d user s (touch.Fault code at) u stops h = λ goes. h
met_leaves ends d user s (touch.Stop stop) u stops h = λ goes. absurd (let e = stops stop in cc)

pub reaching_keeps : {E : Type 0} (ends : E → Bool) (d : Denials E) (user : Bool) (at len : ℕ) (access : Access)
    → ((stop : reason.Stop) → ends (d.stop stop) ≡ true) → (user ≡ false → access.user ≡ false) → 1 ≤ len
    → Keeps ends user (reaching d at len access)
unfolding reaching
reaching_keeps ends d user at len access stops level some =
    record {
      each = λ s. met_leaves ends d user s (uses s at len access).0 (uses s at len access).1 stops
          (uses_met user s at len access level some);
    }

-- how it goes through a list of accesses
pub ruleset keeping = (then_keeps, gives_keeps, unless_keeps, reads_keeps, reads_earlier_keeps, writes_keeps, refuses_keeps, if_keeps)

-- ---- descriptors

pub pair_keeps : {E : Type 0} (ends : E → Bool) (d : Denials E) (user : Bool) (at : ℕ) → ((stop : reason.Stop) → ends (d.stop stop) ≡ true)
    → Keeps ends user (pair_at d at)
unfolding pair_at
pair_keeps ends d user at stops =
    let reached = reaching_keeps ends d user at 8 (by_processor false) stops (λ low. refl) (omega arith) in
    search (keeping, reached) depth 12

pub byte_keeps : {E : Type 0} (ends : E → Bool) (d : Denials E) (user : Bool) (at v : ℕ)
    → ((stop : reason.Stop) → ends (d.stop stop) ≡ true) → Keeps ends user (byte_set d at v)
unfolding byte_set
byte_keeps ends d user at v stops =
    let reached = reaching_keeps ends d user at 1 (by_processor true) stops (λ low. refl) (omega arith) in
    search (keeping, reached) depth 8

pub mark_keeps : {E : Type 0} (ends : E → Bool) (d : Denials E) (user : Bool) (cpu : Cpu) (sel : ℕ) (m : Option ℕ)
    → ((stop : reason.Stop) → ends (d.stop stop) ≡ true) → Keeps ends user (mark d cpu sel m)
mark_keeps ends d user cpu sel None stops = gives_keeps ends user tt
mark_keeps ends d user cpu sel (Some v) stops = byte_keeps ends d user _ v stops
