-- Work that is made of accesses agrees on both machines, where each stop of the monitor's is refused as one.
use Rattle.std.proofs.Common.{◌≡◌, ℕ, Bool, true, ap, ◌⊎◌, inl, inr}
use Rattle.ia32_types.specs.declared.stop.Stop as reason
use Rattle.paging.specs.declared.entry.Access.{Access}
use Rattle.paging.specs.declared.entry.Touch.{Touch}
use Rattle.paging.specs.declared.entry.Touch.TheVariants.{Ready, Fault, Stop}
use Rattle.paging.specs.Space.{Space}
use Rattle.paging.specs.Uses.{uses}
use Rattle.paging.specs.Work.{Work}
use Rattle.paging.specs.Agreement.{bare, bared, TouchAgrees, IsExtra, Agrees}
use Rattle.paging.specs.MonitorStops.{is_extra_stop}
use Rattle.paging.proofs.Translations.{clash, uses_agree}
use Rattle.paging.proofs.Works.{then_agrees, gives_agrees, unless_agrees, reads_agrees, reads_earlier_agrees, refuses_agrees, writes_agrees, if_agrees}
use Rattle.descriptors.specs.Access.{Denials, met, reaching}
use Rattle.descriptors.proofs.Made.{Made, Room}

-- a stop of the monitor's is refused as one
abbrev pub Tells : {E : Type 0} → Denials E → (E → Bool) → Type 0
Tells denials extra = (stop : reason.Stop) → is_extra_stop stop ≡ true → extra (denials.stop stop) ≡ true

met_agrees : {E : Type 0} (d : Denials E) (extra : E → Bool) → Tells d extra → (t : Touch) (s : Space) (p : Touch × Space)
    → TouchAgrees (t, s) p
    → IsExtra extra (met d t s) ⊎ (met d p.0 p.1 ≡ bared (met d t s))
met_agrees d extra h Ready s p (inl e) = absurd (clash e)
met_agrees d extra h Ready s p (inr e) = inr (ap (λ q. met d q.0 q.1) e)
met_agrees d extra h (Fault code at) s p (inl e) = absurd (clash e)
met_agrees d extra h (Fault code at) s p (inr e) = inr (ap (λ q. met d q.0 q.1) e)
met_agrees d extra h (Stop stop) s p (inl e) = inl (h stop e)
met_agrees d extra h (Stop stop) s p (inr e) = inr (ap (λ q. met d q.0 q.1) e)

pub reaching_agrees : {E : Type 0} (d : Denials E) (extra : E → Bool) → Tells d extra → (at len : ℕ) (a : Access)
    → Agrees extra (reaching d at len a)
unfolding reaching
reaching_agrees d extra h at len a =
    record { at_each = λ s. met_agrees d extra h (uses s at len a).0 (uses s at len a).1 (uses (bare s) at len a) (uses_agree s at len a) }

pub made_agrees : {E : Type 0} {d : Denials E} {user : Bool} {A : Type 0} {r s : Room} {w : Work E A} (extra : E → Bool) → Tells d extra
    → Made d user A r s w → Agrees extra w
made_agrees extra tells (Made.follows h k) = then_agrees (made_agrees extra tells h) (λ x. made_agrees extra tells (k x))
made_agrees extra tells (Made.given x) = gives_agrees extra x
made_agrees extra tells (Made.refused e) = refuses_agrees extra e
made_agrees extra tells (Made.tested e test) = unless_agrees extra e test
made_agrees extra tells (Made.reading at size) = reads_agrees extra at size
made_agrees extra tells (Made.reading_earlier at size) = reads_earlier_agrees extra at size
made_agrees extra tells (Made.writing at size v low high) = writes_agrees extra at size v
made_agrees {d = d} extra tells (Made.reached at len access level some) = reaching_agrees d extra tells at len access
made_agrees {d = d} extra tells (Made.opened at len access level write some short) = reaching_agrees d extra tells at len access
made_agrees extra tells (Made.closed h) = made_agrees extra tells h
made_agrees extra tells (Made.chosen test h k) = if_agrees test (made_agrees extra tells h) (made_agrees extra tells k)
