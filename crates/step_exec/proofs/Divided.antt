-- A plain instruction divides after its ranges.
use Rattle.std.proofs.Common.{◌≡◌, ℕ, Bool, true, false, not, cond, ◌==◌, refl, sym, ap, Option, Some, None, Ok, Err}
use Rattle.ia32_types.specs.declared.insn.Insn.{Insn}
use Rattle.ia32_exec.specs.declared.access.Range.{Range}
use Rattle.ia32_exec.specs.Effect.{effect, ranges_of}
use Rattle.descriptors.specs.declared.cpu.Cpu.{Cpu}
use Rattle.paging.specs.declared.entry.Touch.{Touch}
use Rattle.paging.specs.declared.entry.Touch.TheVariants.{Ready, Fault, Stop}
use Rattle.paging.specs.declared.entry.Access.{Access}
use Rattle.paging.specs.Space.{Space, Earlier, byte_at, place, as_earlier, earlier_of}
use Rattle.paging.specs.Uses.{uses}
use Rattle.paging.specs.Work.{Outcome, on_value, unless, ◌>>=◌}
use Rattle.sys_exec.specs.declared.effect.Refusal.{Refusal}
use Rattle.sys_exec.specs.declared.effect.Refusal.TheVariants.{Raise}
use Rattle.descriptors.specs.Access.{met, reaching}
use Rattle.sys_exec.specs.Access.{denials}
use Rattle.step_exec.specs.Plain.{is_refused, reached, is_in, byte_by, finished, after_reads, after_writes, translated, executed}
use Rattle.step_exec.specs.Divided.{both_reached, byte_of, completed, divided}
use Rattle.step_exec.proofs.UserReads.{uses_earlier}

-- bytes of the read range, by the translations that it had
bytes_as : (read : Option Range) (before after : Space) → after.earlier ≡ earlier_of before
    → byte_by read before after ≡ (λ at. cond (is_in read at) (byte_at (as_earlier after) at) (byte_at after at))
unfolding byte_at place
bytes_as read before after e =
    ap (λ (x : Earlier). λ (at : ℕ). cond (is_in read at) (byte_at (record after { set = x.set }) at) (byte_at after at)) (sym e)

-- what is done then, with a write range or none
finish_with : Insn → ℕ → Cpu → Option Range → Space → Outcome Refusal Cpu
finish_with insn len cpu write s =
    finished cpu s (effect insn len cpu.regs (byte_of (record { read = (ranges_of insn cpu.regs).read; write = write }) s))

written_as : (insn : Insn) (len : ℕ) (cpu : Cpu) (w : Range) (before : Space) (touch : Touch) (after : Space)
    → after.earlier ≡ earlier_of before
    → after_writes insn len cpu before (met denials touch after) ≡ on_value (met denials touch after)
    (λ _. finish_with insn len cpu (Some w))
unfolding finish_with
written_as insn len cpu w before Ready after e =
    ap (λ b. finished cpu after (effect insn len cpu.regs b)) (bytes_as (ranges_of insn cpu.regs).read before after e)
written_as insn len cpu w before (Fault code at) after e = refl
written_as insn len cpu w before (Stop stop) after e = refl

writes_divide : (insn : Insn) (len : ℕ) (cpu : Cpu) (write : Option Range) (before : Space)
    → after_writes insn len cpu before (reached cpu true write before) ≡ on_value (reached cpu true write before)
    (λ _. finish_with insn len cpu write)
unfolding reaching finish_with
writes_divide insn len cpu None before = refl
writes_divide insn len cpu (Some w) before =
    let access : Access = record { write = true; user = cpu.cpl == 3 } in
    written_as insn len cpu w before (uses before w.at w.len access).0 (uses before w.at w.len access).1
    (uses_earlier before w.at w.len access)

reads_divide : (insn : Insn) (len : ℕ) (cpu : Cpu) (o : Outcome Refusal (Unit {0}))
    → after_reads insn len cpu o ≡ on_value (on_value o (λ _. reached cpu true (ranges_of insn cpu.regs).write))
    (λ _. completed insn len cpu)
unfolding completed finish_with
reads_divide insn len cpu (Ok done) = writes_divide insn len cpu (ranges_of insn cpu.regs).write done.1
reads_divide insn len cpu (Err refused) = refl

test_divides : (test : Bool) (insn : Insn) (len : ℕ) (cpu : Cpu) (s : Space)
    → on_value (unless (Raise 13 0) test s) (λ _. translated insn len cpu)
    ≡ on_value (on_value (unless (Raise 13 0) test s)
    (λ _. reached cpu false (ranges_of insn cpu.regs).read >>= (λ _. reached cpu true (ranges_of insn cpu.regs).write))) (λ _.
    completed insn len cpu)
test_divides true insn len cpu s = reads_divide insn len cpu (reached cpu false (ranges_of insn cpu.regs).read s)
test_divides false insn len cpu s = refl

pub executed_divides : (insn : Insn) (len : ℕ) (cpu : Cpu) (s : Space) → executed insn len cpu s ≡ divided insn len cpu s
unfolding executed divided both_reached
executed_divides insn len cpu s = test_divides (not (is_refused cpu (ranges_of insn cpu.regs))) insn len cpu s
