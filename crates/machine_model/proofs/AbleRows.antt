-- What each instruction leaves of what a run needs of the processor.
use Rattle.std.proofs.Common.{◌≡◌, ℕ, ◌/◌, ◌%◌, ◌==◌, Bool, true, false, cond, not, ◌&&◌, refl, sym, ap, subst, ◌∙◌, List, [], ◌∷◌, Ok, Err, slice_index_or, slice_set, nat_le, arith}
use Rattle.std.proofs.lemmas.List.{get_or-set_other}
use Rattle.std.proofs.lemmas.Bool.{and_parts, eqb-true, cond-false}
use Rattle.ia32_types.specs.declared.flags.Flags.{Flags}
use Rattle.ia32_types.specs.declared.insn.Insn.{Insn}
use Rattle.ia32_exec.specs.declared.outcome.Outcome as exec
use Rattle.ia32_exec.specs.declared.outcome.Outcome.TheVariants as outcomes
use Rattle.ia32_exec.specs.Stack.{taken}
use Rattle.ia32_exec.specs.Effect.{effect, ranges_of}
use Rattle.ia32_exec.specs.FlagsAfter.{AreKept, Leaves, InsensitiveStay}
use Rattle.descriptors.specs.Form.{descriptor_of, other_descriptor, dpl_of}
use Rattle.descriptors.specs.declared.cpu.Cpu.{Cpu}
use Rattle.descriptors.specs.declared.cpu.Hidden.{Hidden}
use Rattle.descriptors.specs.declared.form.Descriptor.{Descriptor}
use Rattle.paging.specs.Space.{Space}
use Rattle.paging.specs.Fresh.{has}
use Rattle.paging.specs.Work.{Outcome, Work, unless}
use Rattle.descriptors.specs.Segments.{seg_of}
use Rattle.step_exec.specs.Plain.{is_refused, finished, byte_by, reached, after_writes, after_reads, executed}
use Rattle.sys_exec.specs.declared.effect.Refusal.{Refusal}
use Rattle.sys_exec.specs.declared.effect.Refusal.TheVariants as refusals
use Rattle.ia32_types.specs.declared.stop.Stop.TheVariants as stops
use Rattle.sys_exec.specs.Iret as iret
use Rattle.sys_exec.specs.declared.effect.SysEffect.{SysEffect}
use Rattle.sys_exec.specs.declared.effect.SysEffect.TheVariants as effects
use Rattle.sys_exec.specs.declared.effect.SysOutcome.{SysOutcome}
use Rattle.sys_exec.specs.Iret.{is_within, with_interrupt, new_flags, kept_segment, popped, popped_outer, return_same, return_outer, interrupt_return}
use Rattle.machine_model.specs.Fit.{IsLevel}
use Rattle.machine_model.specs.Rules.{is_open}
use Rattle.machine_model.specs.Able.{IsAble}
use Rattle.machine_model.specs.Instruction.{done_plainly}
use Rattle.machine_model.proofs.Yielding.{Ends, Yields, any_yields}

-- The processor after an instruction. A user's flags stay open; that they are where the level rises is left to the
-- monitor's own test.
pub record Suits (old new : Cpu) : Type 0 where
  pub level : IsLevel new.cpl
  pub code : (seg_of new 1).null ≡ false
  pub stack : (seg_of new 2).null ≡ false
  pub users : old.cpl ≡ 3 → is_open new ≡ true

-- after other effects than going on the level is the same
abbrev pub LevelStays : Cpu → Cpu → SysEffect → Type 0
LevelStays old new effects.Next = Unit {0}
LevelStays old new e = new.cpl ≡ old.cpl

pub record IsLeftAble (old : Cpu) (done : SysOutcome) : Type 0 where
  pub suits : Suits old done.cpu
  pub stays : LevelStays old done.cpu done.effect

-- ---- tests

pub above : (level : ℕ) → level ≡ 3 → (level == 0) ≡ false
above level u = ap (λ x. x == 0) u

pub over : (level most : ℕ) → level ≡ 3 → most ≡ 0 → nat_le level most ≡ false
over level most u z = ap (λ x. nat_le x most) u ∙ ap (λ x. nat_le 3 x) z

unless_keeps : {E : Type 0} {X : Type 0} (e : E) (test : Bool) → X → Yields (λ done. X) (unless e test)
unless_keeps e true h = record { each = λ s. h }
unless_keeps e false h = record { each = λ s. tt }

-- ---- segments

abbrev pub none : Hidden
none = record { sel = 0; null = false; dpl = 0 }

pub null_1 : (l : List Hidden) (x : Hidden) → x.null ≡ false → (slice_index_or (slice_set l 1 x) 1 none).null ≡ false
null_1 [] x e = refl
null_1 (a ∷ []) x e = refl
null_1 (a ∷ b ∷ l) x e = e

pub null_2 : (l : List Hidden) (x : Hidden) → x.null ≡ false → (slice_index_or (slice_set l 2 x) 2 none).null ≡ false
null_2 [] x e = refl
null_2 (a ∷ []) x e = refl
null_2 (a ∷ b ∷ []) x e = refl
null_2 (a ∷ b ∷ c ∷ l) x e = e

pub other : (l : List Hidden) (i j : ℕ) (x : Hidden) → (j ≡ i → ⊥) → (slice_index_or l j none).null ≡ false
    → (slice_index_or (slice_set l i x) j none).null ≡ false
other l i j x apart e = ap (λ (h : Hidden). h.null) (get_or-set_other l i j x none apart) ∙ e

level_choice : (test : Bool) (d e : Descriptor) → IsLevel (dpl_of d) → IsLevel (dpl_of e) → IsLevel (dpl_of (cond test d e))
level_choice true d e h k = h
level_choice false d e h k = k

level_other : (low high : ℕ) → IsLevel (dpl_of (other_descriptor low high))
level_other low high = grind (arith, level_choice)

pub level_of : (low high : ℕ) → IsLevel (dpl_of (descriptor_of low high))
level_of low high = grind (arith, level_choice, level_other)

-- what is asked of an image of the flags
abbrev pub flags_tested : ℕ → Work Refusal (Unit {0})
flags_tested image = unless (refusals.Stop stops.FlagBits) (iret.keeps_flags image)

-- ---- the same but for registers

-- the processor with its level, segments and flags as they were
pub same : (cpu : Cpu) → IsAble cpu → (new : Cpu) → new.cpl ≡ cpu.cpl → new.seg ≡ cpu.seg → new.regs.flags ≡ cpu.regs.flags → Suits cpu new
same cpu able new l s f = record {
  level = subst IsLevel (sym l) able.level;
  code = ap (λ (x : List Hidden). (slice_index_or x 1 none).null) s ∙ able.code;
  stack = ap (λ (x : List Hidden). (slice_index_or x 2 none).null) s ∙ able.stack;
  users = λ u. ap (λ (x : Flags). has x.bits 512 && x.bits / 4096 % 4 == 0) f ∙ able.users u;
}

module _ (stay : InsensitiveStay) (cpu : Cpu) (able : IsAble cpu) where
  -- ---- flags

  no_level : cpu.cpl ≡ 3 → cpu.regs.flags.bits / 4096 % 4 ≡ 0
  no_level u = eqb-true _ 0 (and_parts (has cpu.regs.flags.bits 512) (cpu.regs.flags.bits / 4096 % 4 == 0) (able.users u)).1

  pub not_within : cpu.cpl ≡ 3 → is_within cpu ≡ false
  not_within u = over cpu.cpl (cpu.regs.flags.bits / 4096 % 4) u (no_level u)

  kept_open : (f : Flags) → AreKept cpu.regs.flags f → cpu.cpl ≡ 3 → (has f.bits 512 && f.bits / 4096 % 4 == 0) ≡ true
  kept_open f k u =
      ap (λ x. (x == 1) && (f.bits / 4096 % 4 == 0)) k.interrupt ∙ ap (λ x. (cpu.regs.flags.bits / 512 % 2 == 1) && (x % 4 == 0))
      k.level ∙ able.users u

  popped_flags : (image : ℕ) → cpu.cpl ≡ 3 → new_flags cpu image ≡ taken cpu.regs.flags image
  unfolding new_flags
  popped_flags image u =
      let t = taken cpu.regs.flags image in
      cond-false (cpu.cpl == 0) _ (with_interrupt cpu t image) (above cpu.cpl u) ∙ cond-false (is_within cpu) _ t (not_within u)

  pub popped_open : (image : ℕ) → cpu.cpl ≡ 3 → (has (new_flags cpu image).bits 512 && (new_flags cpu image).bits / 4096 % 4 == 0) ≡ true
  popped_open image u =
      ap (λ (f : Flags). has f.bits 512 && f.bits / 4096 % 4 == 0) (popped_flags image u)
      ∙ kept_open (taken cpu.regs.flags image) (stay.images cpu.regs.flags image) u

  -- ---- plain instructions

  of_finished : (s : Space) (o : exec.Outcome) → Leaves cpu.regs o → Ends (Suits cpu) (finished cpu s o)
  of_finished s (outcomes.Done regs stores) k =
      record { level = able.level; code = able.code; stack = able.stack; users = kept_open regs.flags k }
  of_finished s (outcomes.Raise vector code) k = tt
  of_finished s (outcomes.Stop stop) k = tt

  of_writes : (insn : Insn) (len : ℕ) (before : Space) (o : Outcome Refusal (Unit {0}))
      → Ends (Suits cpu) (after_writes insn len cpu before o)
  of_writes insn len before (Ok done) =
      of_finished done.1 (effect insn len cpu.regs (byte_by (ranges_of insn cpu.regs).read before done.1))
      (stay.effects insn len cpu.regs (byte_by (ranges_of insn cpu.regs).read before done.1))
  of_writes insn len before (Err refused) = tt

  of_reads : (insn : Insn) (len : ℕ) (o : Outcome Refusal (Unit {0})) → Ends (Suits cpu) (after_reads insn len cpu o)
  of_reads insn len (Ok done) = of_writes insn len done.1 (reached cpu true (ranges_of insn cpu.regs).write done.1)
  of_reads insn len (Err refused) = tt

  pub of_plain : (insn : Insn) (len : ℕ) → Yields (Suits cpu) (executed insn len cpu)
  unfolding executed
  of_plain insn len = any_yields (unless (refusals.Raise 13 0) (not (is_refused cpu (ranges_of insn cpu.regs))))
      (λ done. record { each = λ s. of_reads insn len (reached cpu false (ranges_of insn cpu.regs).read s) })

  pub plainly_left : (o : Outcome Refusal Cpu) → Ends (Suits cpu) o → Ends (IsLeftAble cpu) (done_plainly o)
  plainly_left (Ok x) h = record { suits = h; stays = tt }
  plainly_left (Err refused) h = tt
