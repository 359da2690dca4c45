-- Preparing an instruction for the host changes memory and translations only as walks do.
use Rattle.std.proofs.Common.{◌≡◌, ◌==◌, Bool, true, false, not, Ok, ap, subst, ◌∙◌}
use Rattle.ia32_decode.specs.declared.answer.Decoded.{Decoded}
use Rattle.ia32_exec.specs.Effect.{ranges_of}
use Rattle.paging.specs.Space.{Space}
use Rattle.paging.specs.Work.{Work, Outcome, ◌>>=◌, on_value, unless}
use Rattle.sys_exec.specs.declared.effect.Refusal.{Refusal}
use Rattle.sys_exec.specs.declared.effect.Refusal.TheVariants as refusal
use Rattle.step_exec.specs.Plain.{reached}
use Rattle.step_exec.specs.Divided.{both_reached}
use Rattle.machine_model.specs.Following.{FetchedFollows, RangesFollow}
use Rattle.machine_model.specs.Reloading.{Follows, FollowsOn, Leaves}
use Rattle.machine_model.specs.State.{State}
use Rattle.wedge_core.specs.Tries.{IsPrepared}

-- both ranges of an instruction that is prepared
both_is : (b : State) (first t : Space) (p : IsPrepared b first t) → both_reached b.cpu (ranges_of p.insn b.cpu.regs)
    p.after_fetch ≡ Ok (tt, t)
unfolding both_reached
both_is b first t p =
    let r = ranges_of p.insn b.cpu.regs in
    let u = p.after_fetch in
    let last : Unit {0} → Work Refusal (Unit {0}) = λ _. reached b.cpu true r.write in
    let rest : Unit {0} → Work Refusal (Unit {0}) = λ _. (reached b.cpu false r.read >>= last) in
    ap (λ (x : Bool). on_value (unless (refusal.Raise 13 0) (not x) u) rest) p.segments
    ∙ (ap (λ (o : Outcome Refusal (Unit {0})). on_value o last) p.reads ∙ p.writes)

pub prepared_follows : FollowsOn → FetchedFollows → RangesFollow → (d : State) (first t : Space) → IsPrepared d first t → Follows first t
prepared_follows on fetched_follows ranges_follow d first t p =
    let fetch : Follows first p.after_fetch =
    subst (λ (o : Outcome Refusal Decoded). Leaves first o) p.fetches (fetched_follows (d.cpu.cpl == 3) d.cpu.regs.eip first) in
    let ranges : Follows p.after_fetch t = subst (λ (o : Outcome Refusal (Unit {0})). Leaves p.after_fetch o) (both_is d first t p)
    (ranges_follow d.cpu p.insn p.after_fetch) in
    on first p.after_fetch t fetch ranges
