-- Memory follows over a plain instruction, whose numbers go into its write range.
use Rattle.std.proofs.Common.{◌≡◌, ℕ, zero, suc, ◌+◌, ◌*◌, ◌/◌, ◌≤◌, Bool, true, false, cond, List, [], ◌∷◌, ◌++◌, refl, subst, Option, Some, None, Ok, Err, arith, not}
use Rattle.std.specs.Prelude.{slice_index}
use Rattle.ia32_types.specs.declared.size.Size.{Size}
use Rattle.ia32_types.specs.declared.size.Size.TheVariants.{Byte, Word, Long}
use Rattle.ia32_types.specs.declared.flags.Regs.{Regs}
use Rattle.ia32_types.specs.declared.insn.Insn.{Insn}
use Rattle.ia32_types.specs.declared.insn.Op.{Op}
use Rattle.ia32_types.specs.declared.insn.Op.TheVariants as op
use Rattle.ia32_types.specs.declared.insn.Operand.{Operand}
use Rattle.ia32_types.specs.declared.insn.Operand.TheVariants as operands
use Rattle.ia32_types.specs.Size as sizes
use Rattle.ia32_exec.specs.declared.access.Range.{Range}
use Rattle.ia32_exec.specs.declared.access.Ranges.{Ranges}
use Rattle.ia32_exec.specs.declared.outcome.Outcome as exec
use Rattle.ia32_exec.specs.declared.outcome.Outcome.TheVariants as outcomes
use Rattle.ia32_exec.specs.declared.outcome.Store.{Store}
use Rattle.ia32_exec.specs.declared.outcome.Stores.{Stores}
use Rattle.ia32_exec.specs.declared.outcome.Stores.TheVariants.{Nothing, One, Eight}
use Rattle.ia32_exec.specs.Memory.{store}
use Rattle.ia32_exec.specs.Ranges.{operand_range}
use Rattle.ia32_exec.specs.Readable.{AreAll, Covers}
use Rattle.ia32_exec.specs.Commit.{longs_to, list_of}
use Rattle.ia32_exec.specs.Outcomes.{stores_of, AreStored}
use Rattle.ia32_exec.specs.Strings.{is_over}
use Rattle.ia32_exec.specs.Effect.{effect, ranges_row, ranges_of}
use Rattle.ia32_exec.proofs.Within.{within}
use Rattle.paging.specs.Space.{Space, place, saved}
use Rattle.paging.specs.Work.{Outcome}
use Rattle.descriptors.specs.declared.cpu.Cpu.{Cpu}
use Rattle.sys_exec.specs.declared.effect.Refusal.{Refusal}
use Rattle.sys_exec.specs.declared.effect.Refusal.TheVariants as refusal
use Rattle.sys_exec.specs.Access.{denials}
use Rattle.step_exec.specs.Plain.{is_refused, reached, byte_by, stored_all, finished, after_writes, after_reads, translated, executed}
use Rattle.step_exec.specs.Divided.{both_reached}
use Rattle.machine_model.specs.Reloading.{Follows, Leaves}
use Rattle.machine_model.proofs.Following.{IsNoted, same_follows, follows_on, saved_follows}
use Rattle.machine_model.proofs.Tracking.{Tracks, LeavesOpen, IsOpen, leaves_on, then_tracks, gives_tracks, unless_tracks, reaching_tracks, reaching_opens}

-- ---- write ranges are short

abbrev IsFew : Option Range → Type 0
IsFew None = Unit {0}
IsFew (Some r) = r.len ≤ 4096

few_size : (s : Size) → sizes.width s / 8 ≤ 4096
few_size Byte = omega arith
few_size Word = omega arith
few_size Long = omega arith

few_operand : (o : Operand) (s : Size) (r : Regs) → IsFew (operand_range o s r)
few_operand (operands.Memory a) s r = few_size s
few_operand o s r = tt

few_choice : (b : Bool) (r : Range) → r.len ≤ 4096 → IsFew (cond b None (Some r))
few_choice true r h = tt
few_choice false r h = h

few_row : (o : Op) (i : Insn) (r : Regs) → IsFew (ranges_row o i r).write
few_row op.Add i r = few_operand i.a i.size r
few_row op.Or i r = few_operand i.a i.size r
few_row op.Adc i r = few_operand i.a i.size r
few_row op.Sbb i r = few_operand i.a i.size r
few_row op.And i r = few_operand i.a i.size r
few_row op.Sub i r = few_operand i.a i.size r
few_row op.Xor i r = few_operand i.a i.size r
few_row op.Not i r = few_operand i.a i.size r
few_row op.Neg i r = few_operand i.a i.size r
few_row op.Inc i r = few_operand i.a i.size r
few_row op.Dec i r = few_operand i.a i.size r
few_row op.Mov i r = few_operand i.a i.size r
few_row op.Xchg i r = few_operand i.a i.size r
few_row op.Rol i r = few_operand i.a i.size r
few_row op.Ror i r = few_operand i.a i.size r
few_row op.Shl i r = few_operand i.a i.size r
few_row op.Shr i r = few_operand i.a i.size r
few_row op.Sar i r = few_operand i.a i.size r
few_row op.Push i r = omega arith
few_row op.Pop i r = few_operand i.a Long _
few_row op.Pusha i r = omega arith
few_row op.Setcc i r = few_operand i.a Byte r
few_row op.Call i r = omega arith
few_row op.Movs i r = few_choice (is_over i r) _ (few_size i.size)
few_row op.Stos i r = few_choice (is_over i r) _ (few_size i.size)
few_row op.PushFlags i r = omega arith
few_row op.ReadSeg i r = few_operand i.a Word r
few_row op.PushSeg i r = omega arith
few_row op.CallTo i r = omega arith
few_row _ i r = tt

few_write : (i : Insn) (r : Regs) → IsFew (ranges_of i r).write
unfolding ranges_of
few_write i r = few_row i.op i r

-- ---- numbers in their order

abbrev AreNoted : Space → List Store → Type 0
AreNoted s [] = Unit {0}
AreNoted s (w ∷ ws) = AreAll (IsNoted s) w.at (sizes.width w.size / 8) × AreNoted s ws

noted_after : (s : Space) (at : ℕ) (size : Size) (v : ℕ) (ws : List Store) → AreNoted s ws → AreNoted (saved s at size v) ws
unfolding place
noted_after s at size v [] h = tt
noted_after s at size v (w ∷ ws) h = (h.0, noted_after s at size v ws h.1)

one_follows : (s : Space) (at : ℕ) (size : Size) (v : ℕ) → AreAll (IsNoted s) at (sizes.width size / 8) → Follows s (saved s at size v)
one_follows s at Byte v h = saved_follows s at Byte v (λ k lt. h k (omega (arith, lt)))
one_follows s at Word v h = saved_follows s at Word v (λ k lt. h k (omega (arith, lt)))
one_follows s at Long v h = saved_follows s at Long v (λ k lt. h k (omega (arith, lt)))

list_follows : (ws : List Store) (s : Space) → AreNoted s ws → Follows s (stored_all s ws)
list_follows [] s h = same_follows s
list_follows (w ∷ ws) s h =
    follows_on s (saved s w.at w.size w.value) (stored_all (saved s w.at w.size w.value) ws) (one_follows s w.at w.size w.value h.0)
    (list_follows ws (saved s w.at w.size w.value) (noted_after s w.at w.size w.value ws h.1))

one_more : (s : Space) (ws : List Store) (w : Store) → AreNoted s ws → AreAll (IsNoted s) w.at (sizes.width w.size / 8)
    → AreNoted s (ws ++ w ∷ [])
one_more s [] w h k = (k, tt)
one_more s (x ∷ ws) w h k = (h.0, one_more s ws w h.1 k)

longs_noted : (s : Space) (n at : ℕ) (vs : List ℕ) → AreAll (IsNoted s) at (4 * n) → AreNoted s (longs_to n at vs)
longs_noted s zero at vs h = tt
longs_noted s (suc n) at vs h =
    one_more s (longs_to n at vs) (store (at + 4 * n) Long (slice_index vs n))
    (longs_noted s n at vs (λ k lt. h k (omega (arith, lt)))) (λ k lt.
    let e : at + (4 * n + k) ≡ at + 4 * n + k = omega arith in
    subst (IsNoted s) e (h (4 * n + k) (omega (arith, lt))))

all_noted : (s : Space) (ws : Stores) → AreStored (IsNoted s) ws → AreNoted s (list_of ws)
all_noted s Nothing h = tt
all_noted s (One w) h = (h, tt)
all_noted s (Eight at vs) h = longs_noted s 8 at vs h

finished_leaves : (cpu : Cpu) (s : Space) (o : exec.Outcome) → AreStored (IsNoted s) (stores_of o) → Leaves s (finished cpu s o)
finished_leaves cpu s (outcomes.Done regs stores) h = list_follows (list_of stores) s (all_noted s stores h)
finished_leaves cpu s (outcomes.Raise vector code) h = same_follows s
finished_leaves cpu s (outcomes.Stop stop) h = same_follows s

-- ---- ranges

range_tracks : (cpu : Cpu) (write : Bool) (range : Option Range) → Tracks (reached cpu write range)
range_tracks cpu write None = gives_tracks tt
range_tracks cpu write (Some r) = reaching_tracks denials r.at r.len _

pub both_tracks : (cpu : Cpu) (ranges : Ranges) → Tracks (both_reached cpu ranges)
unfolding both_reached
both_tracks cpu ranges = then_tracks (unless_tracks (refusal.Raise 13 0) (not (is_refused cpu ranges)))
    (λ done. then_tracks (range_tracks cpu false ranges.read) (λ done. range_tracks cpu true ranges.write))

-- the write range is noted where it is ready
abbrev LeavesNoted : Option Range → Space → Outcome Refusal (Unit {0}) → Type 0
LeavesNoted range s (Ok x) = Follows s x.1 × Covers (IsNoted x.1) range
LeavesNoted range s (Err e) = Follows s e.1

covered : (r : Range) (s : Space) → IsOpen r.at r.len s → Covers (IsNoted s) (Some r)
covered r s ready = λ k lt. ready.noted (r.at + k) (omega arith) (omega (arith, lt))

opened : (r : Range) (s : Space) (o : Outcome Refusal (Unit {0})) → LeavesOpen r.at r.len s o → LeavesNoted (Some r) s o
opened r s (Ok x) h = (h.0, covered r x.1 h.1)
opened r s (Err e) h = h

write_leaves : (cpu : Cpu) (range : Option Range) → IsFew range → (s : Space) → LeavesNoted range s (reached cpu true range s)
write_leaves cpu None few s = (same_follows s, tt)
write_leaves cpu (Some r) few s = opened r s (reached cpu true (Some r) s) ((reaching_opens denials r.at r.len _ refl few).each s)

-- ---- the instruction

writes_leave : (insn : Insn) (len : ℕ) (cpu : Cpu) (before s : Space) (o : Outcome Refusal (Unit {0}))
    → LeavesNoted (ranges_of insn cpu.regs).write s o → Leaves s (after_writes insn len cpu before o)
writes_leave insn len cpu before s (Ok done) h =
    let bytes : ℕ → ℕ = byte_by (ranges_of insn cpu.regs).read before done.1 in
    leaves_on s done.1 (finished cpu done.1 (effect insn len cpu.regs bytes)) h.0
    (finished_leaves cpu done.1 (effect insn len cpu.regs bytes)
    (within (IsNoted done.1) insn len cpu.regs bytes (effect insn len cpu.regs bytes) refl h.1))
writes_leave insn len cpu before s (Err refused) h = h

reads_leave : (insn : Insn) (len : ℕ) (cpu : Cpu) (s : Space) (o : Outcome Refusal (Unit {0})) → Leaves s o
    → Leaves s (after_reads insn len cpu o)
reads_leave insn len cpu s (Ok done) h =
    leaves_on s done.1 (after_writes insn len cpu done.1 (reached cpu true (ranges_of insn cpu.regs).write done.1)) h
    (writes_leave insn len cpu done.1 done.1 (reached cpu true (ranges_of insn cpu.regs).write done.1)
    (write_leaves cpu (ranges_of insn cpu.regs).write (few_write insn cpu.regs) done.1))
reads_leave insn len cpu s (Err refused) h = h

translated_tracks : (insn : Insn) (len : ℕ) (cpu : Cpu) → Tracks (translated insn len cpu)
translated_tracks insn len cpu = record {
  each = λ s. reads_leave insn len cpu s (reached cpu false (ranges_of insn cpu.regs).read s)
      ((range_tracks cpu false (ranges_of insn cpu.regs).read).each s);
}

pub plain_tracks : (insn : Insn) (len : ℕ) (cpu : Cpu) → Tracks (executed insn len cpu)
unfolding executed
plain_tracks insn len cpu = then_tracks (unless_tracks (refusal.Raise 13 0) (not (is_refused cpu (ranges_of insn cpu.regs))))
    (λ done. translated_tracks insn len cpu)
