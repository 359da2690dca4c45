-- Pages lead well over a plain instruction, whose ranges are of one byte at least.
use Rattle.std.proofs.Common.{ℕ, ◌/◌, ◌≤◌, ◌==◌, Bool, true, false, cond, List, [], ◌∷◌, refl, Option, Some, None, Ok, Err, arith, not}
use Rattle.std.specs.Option.{option_or}
use Rattle.ia32_types.specs.declared.size.Size.{Size}
use Rattle.ia32_types.specs.declared.size.Size.TheVariants.{Byte, Word, Long}
use Rattle.ia32_types.specs.declared.flags.Regs.{Regs}
use Rattle.ia32_types.specs.declared.insn.Insn.{Insn}
use Rattle.ia32_types.specs.declared.insn.Op.{Op}
use Rattle.ia32_types.specs.declared.insn.Op.TheVariants as op
use Rattle.ia32_types.specs.declared.insn.Operand.{Operand}
use Rattle.ia32_types.specs.declared.insn.Operand.TheVariants as operands
use Rattle.ia32_types.specs.Size as sizes
use Rattle.ia32_exec.specs.declared.access.Range.{Range}
use Rattle.ia32_exec.specs.declared.access.Ranges.{Ranges}
use Rattle.ia32_exec.specs.declared.outcome.Outcome as exec
use Rattle.ia32_exec.specs.declared.outcome.Outcome.TheVariants as outcomes
use Rattle.ia32_exec.specs.declared.outcome.Store.{Store}
use Rattle.ia32_exec.specs.Ranges.{operand_range}
use Rattle.ia32_exec.specs.Commit.{list_of}
use Rattle.ia32_exec.specs.Strings.{is_over}
use Rattle.ia32_exec.specs.Effect.{effect, ranges_row, ranges_of}
use Rattle.paging.specs.Space.{Space, saved}
use Rattle.paging.specs.Work.{Outcome}
use Rattle.descriptors.specs.declared.cpu.Cpu.{Cpu}
use Rattle.sys_exec.specs.declared.effect.Refusal.{Refusal}
use Rattle.sys_exec.specs.declared.effect.Refusal.TheVariants as refusal
use Rattle.sys_exec.specs.Access.{denials}
use Rattle.step_exec.specs.Plain.{is_refused, reached, byte_by, stored_all, finished, after_writes, after_reads, translated, executed}
use Rattle.step_exec.specs.Divided.{both_reached}
use Rattle.machine_model.specs.UsedPages.{Uses}
use Rattle.machine_model.proofs.Using.{same_uses, uses_on}
use Rattle.machine_model.proofs.UsingWorks.{is_stop, LeavesUses, Keeps, leaves_on, then_keeps, gives_keeps, unless_keeps, reaching_keeps, saved_uses}

-- ---- ranges have bytes

abbrev HasBytes : Option Range → Type 0
HasBytes None = Unit {0}
HasBytes (Some r) = 1 ≤ r.len

some_size : (s : Size) → 1 ≤ sizes.width s / 8
some_size Byte = omega arith
some_size Word = omega arith
some_size Long = omega arith

some_operand : (o : Operand) (s : Size) (r : Regs) → HasBytes (operand_range o s r)
some_operand (operands.Memory a) s r = some_size s
some_operand o s r = tt

some_choice : (b : Bool) (r : Range) → 1 ≤ r.len → HasBytes (cond b None (Some r))
some_choice true r h = tt
some_choice false r h = h

some_either : (a b : Option Range) → HasBytes a → HasBytes b → HasBytes (option_or a b)
some_either (Some x) b h k = h
some_either None b h k = k

abbrev Have : Ranges → Type 0
Have ranges = HasBytes ranges.read × HasBytes ranges.write

both_operands : (i : Insn) (r : Regs) → HasBytes (operand_range i.b i.size r) × HasBytes (operand_range i.a i.size r)
both_operands i r = (some_operand i.b i.size r, some_operand i.a i.size r)

both_reads : (i : Insn) (r : Regs) → HasBytes (option_or (operand_range i.a i.size r) (operand_range i.b i.size r)) × Unit {0}
both_reads i r = (some_either _ _ (some_operand i.a i.size r) (some_operand i.b i.size r), tt)

row_has : (o : Op) (i : Insn) (r : Regs) → Have (ranges_row o i r)
row_has op.Add i r = both_operands i r
row_has op.Or i r = both_operands i r
row_has op.Adc i r = both_operands i r
row_has op.Sbb i r = both_operands i r
row_has op.And i r = both_operands i r
row_has op.Sub i r = both_operands i r
row_has op.Xor i r = both_operands i r
row_has op.Not i r = both_operands i r
row_has op.Neg i r = both_operands i r
row_has op.Inc i r = both_operands i r
row_has op.Dec i r = both_operands i r
row_has op.Cmp i r = both_reads i r
row_has op.Test i r = both_reads i r
row_has op.Rol i r = (tt, some_operand i.a i.size r)
row_has op.Ror i r = (tt, some_operand i.a i.size r)
row_has op.Shl i r = (tt, some_operand i.a i.size r)
row_has op.Shr i r = (tt, some_operand i.a i.size r)
row_has op.Sar i r = (tt, some_operand i.a i.size r)
row_has op.Mul i r = (some_operand i.a i.size r, tt)
row_has op.Imul i r = both_reads i r
row_has op.ImulBy i r = (some_operand i.b i.size r, tt)
row_has op.Div i r = (some_operand i.a i.size r, tt)
row_has op.Idiv i r = (some_operand i.a i.size r, tt)
row_has op.Mov i r = both_operands i r
row_has op.Movzx i r = (some_operand i.b i.size r, tt)
row_has op.Movsx i r = (some_operand i.b i.size r, tt)
row_has op.Xchg i r = both_operands i r
row_has op.Push i r = (some_operand i.a Long r, omega arith)
row_has op.Pop i r = (omega arith, some_operand i.a Long _)
row_has op.Pusha i r = (tt, omega arith)
row_has op.Popa i r = (omega arith, tt)
row_has op.Leave i r = (omega arith, tt)
row_has op.Setcc i r = (tt, some_operand i.a Byte r)
row_has op.Call i r = (tt, omega arith)
row_has op.Movs i r = (some_choice (is_over i r) _ (some_size i.size), some_choice (is_over i r) _ (some_size i.size))
row_has op.Stos i r = (tt, some_choice (is_over i r) _ (some_size i.size))
row_has op.Lods i r = (some_choice (is_over i r) _ (some_size i.size), tt)
row_has op.PushFlags i r = (tt, omega arith)
row_has op.PopFlags i r = (omega arith, tt)
row_has op.ReadSeg i r = (tt, some_operand i.a Word r)
row_has op.PushSeg i r = (tt, omega arith)
row_has op.Return i r = (omega arith, tt)
row_has op.JumpTo i r = (some_operand i.a Long r, tt)
row_has op.CallTo i r = (some_operand i.a Long r, omega arith)
row_has _ i r = (tt, tt)

have : (i : Insn) (r : Regs) → Have (ranges_of i r)
unfolding ranges_of
have i r = row_has i.op i r

-- ---- ranges

range_keeps : (cpu : Cpu) (write : Bool) (range : Option Range) → HasBytes range → Keeps is_stop (cpu.cpl == 3) (reached cpu write range)
range_keeps cpu write None some = gives_keeps is_stop (cpu.cpl == 3) tt
range_keeps cpu write (Some r) some = reaching_keeps is_stop denials (cpu.cpl == 3) r.at r.len
    (record { write = write; user = cpu.cpl == 3 }) (λ stop. refl) (λ low. low) some

pub both_keep : (cpu : Cpu) (insn : Insn) → Keeps is_stop (cpu.cpl == 3) (both_reached cpu (ranges_of insn cpu.regs))
unfolding both_reached
both_keep cpu insn =
    let ranges : Ranges = ranges_of insn cpu.regs in
    let h = have insn cpu.regs in
    then_keeps (unless_keeps is_stop (cpu.cpl == 3) (refusal.Raise 13 0) (not (is_refused cpu ranges)))
    (λ done. then_keeps (range_keeps cpu false ranges.read h.0) (λ done. range_keeps cpu true ranges.write h.1))

-- ---- the instruction

stored_uses : (user : Bool) (ws : List Store) (s : Space) → Uses user s (stored_all s ws)
stored_uses user [] s = same_uses user s
stored_uses user (w ∷ ws) s =
    uses_on user s (saved s w.at w.size w.value) (stored_all (saved s w.at w.size w.value) ws) (saved_uses user s w.at w.size w.value)
    (stored_uses user ws (saved s w.at w.size w.value))

finished_leaves : (user : Bool) (cpu : Cpu) (s : Space) (o : exec.Outcome) → LeavesUses is_stop user s (finished cpu s o)
finished_leaves user cpu s (outcomes.Done regs stores) = stored_uses user (list_of stores) s
finished_leaves user cpu s (outcomes.Raise vector code) = λ goes. same_uses user s
finished_leaves user cpu s (outcomes.Stop stop) = λ goes. same_uses user s

writes_leave : (insn : Insn) (len : ℕ) (cpu : Cpu) (user : Bool) (before s : Space) (o : Outcome Refusal (Unit {0}))
    → LeavesUses is_stop user s o → LeavesUses is_stop user s (after_writes insn len cpu before o)
writes_leave insn len cpu user before s (Ok done) h =
    let outcome : exec.Outcome = effect insn len cpu.regs (byte_by (ranges_of insn cpu.regs).read before done.1) in
    leaves_on is_stop user s done.1 (finished cpu done.1 outcome) h (finished_leaves user cpu done.1 outcome)
writes_leave insn len cpu user before s (Err refused) h = h

reads_leave : (insn : Insn) (len : ℕ) (cpu : Cpu) (s : Space) (o : Outcome Refusal (Unit {0})) → LeavesUses is_stop (cpu.cpl == 3) s o
    → LeavesUses is_stop (cpu.cpl == 3) s (after_reads insn len cpu o)
reads_leave insn len cpu s (Ok done) h =
    let range : Option Range = (ranges_of insn cpu.regs).write in
    leaves_on is_stop (cpu.cpl == 3) s done.1 (after_writes insn len cpu done.1 (reached cpu true range done.1)) h
    (writes_leave insn len cpu (cpu.cpl == 3) done.1 done.1 (reached cpu true range done.1)
    ((range_keeps cpu true range (have insn cpu.regs).1).each done.1))
reads_leave insn len cpu s (Err refused) h = h

translated_keeps : (insn : Insn) (len : ℕ) (cpu : Cpu) → Keeps is_stop (cpu.cpl == 3) (translated insn len cpu)
translated_keeps insn len cpu =
    let range : Option Range = (ranges_of insn cpu.regs).read in
    record {
      each = λ s. reads_leave insn len cpu s (reached cpu false range s)
          ((range_keeps cpu false range (have insn cpu.regs).0).each s);
    }

pub plain_keeps : (insn : Insn) (len : ℕ) (cpu : Cpu) → Keeps is_stop (cpu.cpl == 3) (executed insn len cpu)
unfolding executed
plain_keeps insn len cpu =
    then_keeps (unless_keeps is_stop (cpu.cpl == 3) (refusal.Raise 13 0) (not (is_refused cpu (ranges_of insn cpu.regs))))
    (λ done. translated_keeps insn len cpu)
