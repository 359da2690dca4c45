-- Pages lead well over all work that is made of accesses.
use Rattle.std.proofs.Common.{◌≡◌, ◌==◌, ℕ, Bool, true, refl, Option}
use Rattle.ia32_types.specs.declared.insn.Insn.{Insn}
use Rattle.ia32_types.specs.declared.stop.Stop as reason
use Rattle.paging.specs.Work.{Work}
use Rattle.descriptors.specs.declared.cpu.Cpu.{Cpu}
use Rattle.descriptors.specs.Access.{Denials}
use Rattle.sys_exec.specs.Access as sys
use Rattle.sys_exec.specs.Sys.{sys_work}
use Rattle.event_entry.specs.declared.refusal.Kind.{Kind}
use Rattle.event_entry.specs.Access as event
use Rattle.event_entry.specs.Deliver.{delivered}
use Rattle.machine_model.proofs.UsingWorks.{is_stop, is_end, Keeps, then_keeps, gives_keeps, refuses_keeps, unless_keeps, reads_keeps, reads_earlier_keeps, writes_keeps, if_keeps, reaching_keeps}
use Rattle.descriptors.proofs.Made.{Made, Room}
use Rattle.sys_exec.proofs.MadeRows.{sys_steps}
use Rattle.event_entry.proofs.MadeDeliveries.{delivered_steps}

keeps : {E : Type 0} {d : Denials E} {user : Bool} {A : Type 0} {r t : Room} {w : Work E A} (ends : E → Bool)
    → ((stop : reason.Stop) → ends (d.stop stop) ≡ true) → Made d user A r t w → Keeps ends user w
keeps ends stops (Made.follows h k) = then_keeps (keeps ends stops h) (λ x. keeps ends stops (k x))
keeps {user = user} ends stops (Made.given x) = gives_keeps ends user x
keeps {user = user} ends stops (Made.refused e) = refuses_keeps ends user e
keeps {user = user} ends stops (Made.tested e test) = unless_keeps ends user e test
keeps {user = user} ends stops (Made.reading at size) = reads_keeps ends user at size
keeps {user = user} ends stops (Made.reading_earlier at size) = reads_earlier_keeps ends user at size
keeps {user = user} ends stops (Made.writing at size v low high) = writes_keeps ends user at size v
keeps {d = d} {user = user} ends stops (Made.reached at len access level some) = reaching_keeps ends d user at len access stops level some
keeps {d = d} {user = user} ends stops (Made.opened at len access level write some short) =
    reaching_keeps ends d user at len access stops level some
keeps ends stops (Made.closed h) = keeps ends stops h
keeps ends stops (Made.chosen test h k) = if_keeps test (keeps ends stops h) (keeps ends stops k)

pub sys_keeps : (insn : Insn) (len : ℕ) (cpu : Cpu) → Keeps is_stop (cpu.cpl == 3) (sys_work insn len cpu)
sys_keeps insn len cpu = keeps {d = sys.denials} is_stop (λ stop. refl) (sys_steps insn len cpu)

pub delivered_keeps : (user : Bool) (cpu : Cpu) (vector : ℕ) (kind : Kind) (c : Option ℕ) → Keeps is_end user (delivered cpu vector kind c)
delivered_keeps user cpu vector kind c = keeps {d = event.denials} is_end (λ stop. refl) (delivered_steps user cpu vector kind c)
