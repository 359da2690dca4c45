-- Memory follows over all work that is made of accesses.
use Rattle.std.proofs.Common.{ℕ, Bool, true, false, Option, Ok, Err, arith}
use Rattle.ia32_types.specs.declared.insn.Insn.{Insn}
use Rattle.paging.specs.Space.{Space}
use Rattle.paging.specs.Work.{Outcome, Work, on_value}
use Rattle.descriptors.specs.declared.cpu.Cpu.{Cpu}
use Rattle.descriptors.specs.Access.{Denials}
use Rattle.sys_exec.specs.Sys.{sys_work}
use Rattle.machine_model.specs.Reloading.{Leaves}
use Rattle.machine_model.proofs.Tracking.{Tracks, IsOpen, LeavesOpen, open_on, writes_within, reaching_tracks, reaching_opens}
use Rattle.machine_model.proofs.Following.{same_follows}
use Rattle.descriptors.proofs.Made.{Made, Room, Steps}
use Rattle.event_entry.specs.declared.refusal.Kind.{Kind}
use Rattle.event_entry.specs.Deliver.{delivered}
use Rattle.sys_exec.proofs.MadeRows.{sys_steps}
use Rattle.event_entry.proofs.MadeDeliveries.{delivered_steps}

none_open : (s : Space) → IsOpen 0 0 s
none_open s = record { noted = λ byte low high. absurd (omega (arith, high)) }

shut_off : {E A : Type 0} (at len : ℕ) (s : Space) (o : Outcome E A) → LeavesOpen at len s o → LeavesOpen 0 0 s o
shut_off at len s (Ok x) h = (h.0, none_open x.1)
shut_off at len s (Err e) h = h

opens_none : {E A : Type 0} (s : Space) (o : Outcome E A) → Leaves s o → LeavesOpen 0 0 s o
opens_none s (Ok x) h = (h, none_open x.1)
opens_none s (Err e) h = h

leaves : {E A : Type 0} (s : Space) (o : Outcome E A) → LeavesOpen 0 0 s o → Leaves s o
leaves s (Ok x) h = h.0
leaves s (Err e) h = h

after : {E A B : Type 0} (a l b k : ℕ) (s : Space) (o : Outcome E A) (f : A → Work E B) → LeavesOpen a l s o
    → ((x : A) (t : Space) → IsOpen a l t → LeavesOpen b k t (f x t)) → LeavesOpen b k s (on_value o f)
after a l b k s (Ok x) f h g = open_on b k s x.1 (f x.0 x.1) h.0 (g x.0 x.1 h.1)
after a l b k s (Err e) f h g = h

keeps : {E : Type 0} {d : Denials E} {user : Bool} {A : Type 0} {r t : Room} {w : Work E A} → Made d user A r t w → (s : Space)
    → IsOpen r.0 r.1 s → LeavesOpen t.0 t.1 s (w s)
keeps (Made.follows {s = r} {t = t} {m = m} {f = f} h k) s ready =
    after r.0 r.1 t.0 t.1 s (m s) f (keeps h s ready) (λ x u noted. keeps (k x) u noted)
keeps (Made.given x) s ready = (same_follows s, ready)
keeps (Made.refused e) s ready = same_follows s
keeps (Made.tested e true) s ready = (same_follows s, ready)
keeps (Made.tested e false) s ready = same_follows s
keeps (Made.reading at size) s ready = (same_follows s, ready)
keeps (Made.reading_earlier at size) s ready = (same_follows s, ready)
keeps {E = E} (Made.writing at size v low high) s ready = (writes_within {E = E} at size v low high).each s ready
keeps {d = d} (Made.reached at len access level some) s ready = opens_none s _ ((reaching_tracks d at len access).each s)
keeps {d = d} (Made.opened at len access level write some short) s ready = (reaching_opens d at len access write short).each s
keeps {w = w} (Made.closed {s = t} h) s ready = shut_off t.0 t.1 s (w s) (keeps h s ready)
keeps (Made.chosen true h k) s ready = keeps h s ready
keeps (Made.chosen false h k) s ready = keeps k s ready

pub steps_tracks : {E A : Type 0} {d : Denials E} {user : Bool} {w : Work E A} → Steps d user w → Tracks w
steps_tracks {w = w} h = record { each = λ s. leaves s (w s) (keeps h s (none_open s)) }

pub sys_tracks : (insn : Insn) (len : ℕ) (cpu : Cpu) → Tracks (sys_work insn len cpu)
sys_tracks insn len cpu = steps_tracks (sys_steps insn len cpu)

pub delivered_tracks : (cpu : Cpu) (vector : ℕ) (kind : Kind) (c : Option ℕ) → Tracks (delivered cpu vector kind c)
delivered_tracks cpu vector kind c = steps_tracks (delivered_steps true cpu vector kind c)
