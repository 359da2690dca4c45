-- Each row agrees on both machines.
use Rattle.std.proofs.Common.{◌≡◌, ℕ, true, ap, ◌⊎◌, inl, inr, Ok, Err}
use Rattle.ia32_types.specs.declared.insn.Insn.{Insn}
use Rattle.paging.specs.Space.{Space}
use Rattle.paging.specs.Work.{Outcome}
use Rattle.paging.specs.Agreement.{bare, bared, IsExtra, Agrees}
use Rattle.paging.proofs.Translations.{clash}
use Rattle.descriptors.specs.declared.cpu.Cpu.{Cpu}
use Rattle.descriptors.proofs.Works.{made_agrees}
use Rattle.sys_exec.specs.declared.effect.Refusal.{Refusal}
use Rattle.sys_exec.specs.declared.effect.Refusal.TheVariants.{Fault, Raise, Stop}
use Rattle.sys_exec.specs.declared.effect.SysOutcome.{SysOutcome}
use Rattle.sys_exec.specs.Access.{denials}
use Rattle.sys_exec.specs.Iret.{new_flags}
use Rattle.sys_exec.specs.Sys.{sys_work, told_refusal, told}
use Rattle.sys_exec.specs.Agreement.{is_extra, ToldAgrees, RowsAgree, UserFlagsAgree}
use Rattle.sys_exec.proofs.Works as works
use Rattle.sys_exec.proofs.MadeRows.{sys_steps}

pub work_agrees : (insn : Insn) (len : ℕ) (cpu : Cpu) → Agrees is_extra (sys_work insn len cpu)
work_agrees insn len cpu = made_agrees {d = denials} is_extra works.told (sys_steps insn len cpu)

refusal_agrees : (cpu : Cpu) (r : Refusal) (s : Space) (p : Outcome Refusal SysOutcome) → (is_extra r ≡ true) ⊎ (p ≡ Err (r, bare s))
    → ToldAgrees (told_refusal cpu r s) (told cpu p)
refusal_agrees cpu (Fault code at) s p (inl e) = absurd (clash e)
refusal_agrees cpu (Fault code at) s p (inr e) = inr (ap (told cpu) e)
refusal_agrees cpu (Raise vector code) s p (inl e) = absurd (clash e)
refusal_agrees cpu (Raise vector code) s p (inr e) = inr (ap (told cpu) e)
refusal_agrees cpu (Stop stop) s p (inl e) = inl e
refusal_agrees cpu (Stop stop) s p (inr e) = inr (ap (told cpu) e)

told_agrees : (cpu : Cpu) (o p : Outcome Refusal SysOutcome) → IsExtra is_extra o ⊎ (p ≡ bared o) → ToldAgrees (told cpu o) (told cpu p)
told_agrees cpu (Ok x) p (inl e) = absurd e
told_agrees cpu (Ok x) p (inr e) = inr (ap (told cpu) e)
told_agrees cpu (Err r) p h = refusal_agrees cpu r.0 r.1 p h

pub rows_agree : RowsAgree
rows_agree insn len cpu s =
    told_agrees cpu (sys_work insn len cpu s) (sys_work insn len cpu (bare s)) ((work_agrees insn len cpu).at_each s)

pub user_flags_agree : UserFlagsAgree
unfolding new_flags
user_flags_agree cpu image e d = simp (e, d)
