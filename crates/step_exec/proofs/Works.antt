-- A plain instruction agrees on both machines, as its ranges do.
use Rattle.std.proofs.Common.{◌≡◌, ℕ, Bool, true, false, refl, ap, ◌∙◌, ◌⊎◌, inl, inr, List, [], ◌∷◌, Option, Some, None, Ok, Err}
use Rattle.ia32_types.specs.declared.insn.Insn.{Insn}
use Rattle.ia32_exec.specs.declared.outcome.Outcome as exec
use Rattle.ia32_exec.specs.declared.outcome.Outcome.TheVariants as outcomes
use Rattle.ia32_exec.specs.declared.outcome.Store.{Store}
use Rattle.ia32_exec.specs.declared.access.Range.{Range}
use Rattle.ia32_exec.specs.Effect.{effect, ranges_of}
use Rattle.ia32_exec.specs.Commit.{list_of}
use Rattle.ia32_types.specs.declared.size.Size.{Size}
use Rattle.ia32_types.specs.declared.size.Size.TheVariants.{Byte, Word, Long}
use Rattle.descriptors.specs.declared.cpu.Cpu.{Cpu}
use Rattle.paging.specs.Space.{Space, byte_at, place, saved, written}
use Rattle.paging.specs.Work.{Outcome}
use Rattle.paging.specs.Agreement.{bare, bared, IsExtra, Agrees}
use Rattle.paging.proofs.Works.{work_steps}
use Rattle.sys_exec.specs.declared.effect.Refusal.{Refusal}
use Rattle.sys_exec.specs.Agreement.{is_extra}
use Rattle.sys_exec.proofs.Works.{reach}
use Rattle.step_exec.specs.Plain.{reached, byte_by, stored_all, finished, after_writes, after_reads, translated, executed}

range_agrees : (cpu : Cpu) (write : Bool) (range : Option Range) → Agrees is_extra (reached cpu write range)
range_agrees cpu write None = search work_steps
range_agrees cpu write (Some r) = search reach

saved_bare : (s : Space) (at : ℕ) (size : Size) (v : ℕ) → saved (bare s) at size v ≡ bare (saved s at size v)
unfolding written place
saved_bare s at Byte v = refl
saved_bare s at Word v = refl
saved_bare s at Long v = refl

stored_bare : (ws : List Store) (s : Space) → stored_all (bare s) ws ≡ bare (stored_all s ws)
stored_bare [] s = refl
stored_bare (w ∷ ws) s =
    ap (λ (t : Space). stored_all t ws) (saved_bare s w.at w.size w.value) ∙ stored_bare ws (saved s w.at w.size w.value)

finished_bare : (cpu : Cpu) (s : Space) (o : exec.Outcome) → finished cpu (bare s) o ≡ bared (finished cpu s o)
finished_bare cpu s (outcomes.Done regs stores) = ap (λ (t : Space). Ok (record cpu { regs = regs }, t)) (stored_bare (list_of stores) s)
finished_bare cpu s (outcomes.Raise vector code) = refl
finished_bare cpu s (outcomes.Stop stop) = refl

bytes_bare : (read : Option Range) (before after : Space) → byte_by read (bare before) (bare after) ≡ byte_by read before after
unfolding byte_at place
bytes_bare read before after = refl

writes_agree : (insn : Insn) (len : ℕ) (cpu : Cpu) (before : Space) (o p : Outcome Refusal (Unit {0})) → IsExtra is_extra o ⊎ (p ≡ bared o)
    → IsExtra is_extra (after_writes insn len cpu before o)
    ⊎ (after_writes insn len cpu (bare before) p ≡ bared (after_writes insn len cpu before o))
writes_agree insn len cpu before (Ok done) p (inl e) = absurd e
writes_agree insn len cpu before (Ok done) p (inr e) =
    let read = (ranges_of insn cpu.regs).read in
    inr (ap (after_writes insn len cpu (bare before)) e
    ∙ (ap (λ (b : ℕ → ℕ). finished cpu (bare done.1) (effect insn len cpu.regs b)) (bytes_bare read before done.1)
    ∙ finished_bare cpu done.1 (effect insn len cpu.regs (byte_by read before done.1))))
writes_agree insn len cpu before (Err refused) p (inl e) = inl e
writes_agree insn len cpu before (Err refused) p (inr e) = inr (ap (after_writes insn len cpu (bare before)) e)

reads_agree : (insn : Insn) (len : ℕ) (cpu : Cpu) (o p : Outcome Refusal (Unit {0})) → IsExtra is_extra o ⊎ (p ≡ bared o)
    → IsExtra is_extra (after_reads insn len cpu o) ⊎ (after_reads insn len cpu p ≡ bared (after_reads insn len cpu o))
reads_agree insn len cpu (Ok done) p (inl e) = absurd e
reads_agree insn len cpu (Ok done) p (inr e) =
    let write = (ranges_of insn cpu.regs).write in
    elim (writes_agree insn len cpu done.1 (reached cpu true write done.1) (reached cpu true write (bare done.1))
    ((range_agrees cpu true write).at_each done.1)) [
      | inl k ↦ inl k
      | inr g ↦ inr (ap (after_reads insn len cpu) e ∙ g)
    ]
reads_agree insn len cpu (Err refused) p (inl e) = inl e
reads_agree insn len cpu (Err refused) p (inr e) = inr (ap (after_reads insn len cpu) e)

translated_agrees : (insn : Insn) (len : ℕ) (cpu : Cpu) → Agrees is_extra (translated insn len cpu)
translated_agrees insn len cpu =
    let read = (ranges_of insn cpu.regs).read in
    record {
      at_each = λ s. reads_agree insn len cpu (reached cpu false read s) (reached cpu false read (bare s))
          ((range_agrees cpu false read).at_each s);
    }

pub plain_agrees : (insn : Insn) (len : ℕ) (cpu : Cpu) → Agrees is_extra (executed insn len cpu)
unfolding executed
plain_agrees insn len cpu = search (work_steps, translated_agrees) depth 8
