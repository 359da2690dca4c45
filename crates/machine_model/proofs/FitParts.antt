-- What keeps a processor fit: its flags, control registers and segments, and the segments that an instruction finds.
use Rattle.std.proofs.Common.{◌≡◌, ℕ, ◌+◌, ◌*◌, ◌/◌, ◌%◌, ◌<◌, ◌==◌, Bool, true, false, cond, not, refl, sym, ap, subst, ◌∙◌, ◌⊎◌, inl, List, length, All, slice_index_or, slice_set, nat_lt, bit_and, bit_or, arith}
use Rattle.std.proofs.lemmas.Bool.Decides.{nat_tests}
use Rattle.std.proofs.lemmas.List.{get_or-set_other, get_or-set_same}
use Rattle.std.proofs.lemmas.Nat.{and_block, and_or_apart, and_mask}
use Rattle.std.proofs.lemmas.Bool.{not-false, eqb-true}
use Rattle.ia32_types.specs.Bits.{bit}
use Rattle.ia32_types.specs.declared.flags.TheConstants.{INTERRUPT_AT}
use Rattle.ia32_types.specs.Flags.{flag_put}
use Rattle.ia32_types.proofs.FlagBits.{set_is, put_apart}
use Rattle.ia32_types.specs.declared.flags.Flags.{Flags}
use Rattle.ia32_exec.specs.FlagsAfter.{AreSet, AreKept}
use Rattle.ia32_exec.specs.Stack.{taken}
use Rattle.descriptors.specs.declared.cpu.Cpu.{Cpu}
use Rattle.descriptors.specs.declared.cpu.Hidden.{Hidden}
use Rattle.descriptors.specs.Segments.{seg_of}
use Rattle.sys_exec.specs.Iret.{is_within, with_interrupt, new_flags}
use Rattle.machine_model.specs.Fit.{IsLevel, IsSegment, IsOfLevel, AreFlags, Fit}
use Rattle.machine_model.proofs.AbleRows.{none}

pub record IsWhole (cpu : Cpu) : Type 0 where
  pub fit : Fit cpu
  pub four : length cpu.seg ≡ 4

-- ---- flags

pub still_flags : (f g : ℕ) → bit_and g 2 ≡ bit_and f 2 → bit_and g 4294951208 ≡ bit_and f 4294951208 → AreFlags f → AreFlags g
still_flags f g e k h = record { fixed = e ∙ h.fixed; others = k ∙ h.others }

pub set_flags : (f g : Flags) → AreSet f g → AreFlags f.bits → AreFlags g.bits
set_flags f g s h = still_flags f.bits g.bits s.fixed s.others h

set_on : (f g h : Flags) → AreSet f g → AreSet g h → AreSet f h
set_on f g h p q = record { fixed = q.fixed ∙ p.fixed; others = q.others ∙ p.others }

pub set_interrupt : (f : Flags) (b : Bool) → AreSet f (flag_put f INTERRUPT_AT b)
set_interrupt f b =
    record { fixed = put_apart f.bits 9 2 b (omega arith) refl; others = put_apart f.bits 9 4294951208 b (omega arith) refl }

-- the two bits of IOPL
set_12 : (f : Flags) (b : Bool) → AreSet f (flag_put f 12 b)
set_12 f b = record { fixed = put_apart f.bits 12 2 b (omega arith) refl; others = put_apart f.bits 12 4294951208 b (omega arith) refl }

set_13 : (f : Flags) (b : Bool) → AreSet f (flag_put f 13 b)
set_13 f b = record { fixed = put_apart f.bits 13 2 b (omega arith) refl; others = put_apart f.bits 13 4294951208 b (omega arith) refl }

set_choice : (test : Bool) (f g h : Flags) → AreSet f g → AreSet f h → AreSet f (cond test g h)
set_choice true f g h p q = p
set_choice false f g h p q = q

same_set : (f : Flags) → AreSet f f
same_set f = record { fixed = refl; others = refl }

pub popped_set : ((f : Flags) (image : ℕ) → AreKept f (taken f image)) → (cpu : Cpu) (image : ℕ)
    → AreSet cpu.regs.flags (new_flags cpu image)
unfolding new_flags
popped_set images cpu image =
    let t = taken cpu.regs.flags image in
    let i = with_interrupt cpu t image in
    let two = flag_put i 12 (bit image 12) in
    set_on cpu.regs.flags t _ (images cpu.regs.flags image).set
    (set_on t i _ (set_choice (is_within cpu) t _ t (set_interrupt t (bit image INTERRUPT_AT)) (same_set t))
    (set_choice (cpu.cpl == 0) i _ i (set_on i two _ (set_12 i (bit image 12)) (set_13 two (bit image 13))) (same_set i)))

-- ---- controls

three_bits : (x : ℕ) → bit_and x 2147483665 ≡ x / 2147483648 % 2 * 2147483648 + (x % 2147483648 / 16 % 2 * 16 + x % 2147483648 % 16 % 2)
three_bits x =
    let high = x / 2147483648 in
    let low = x % 2147483648 in
    let split : x ≡ high * 2147483648 + low = omega arith in
    let again : low ≡ low / 16 * 16 + low % 16 = omega arith in
    let below : low < 2147483648 = omega arith in
    let lowest : low % 16 < 16 = omega arith in
    ap (λ n. bit_and n 2147483665) split
    ∙ and_block 31 high 1 low 17 below (omega arith)
    ∙ ap (λ n. n * 2147483648 + bit_and low 17) (and_mask high 1)
    ∙ ap (λ n. high % 2 * 2147483648 + n)
    (ap (λ n. bit_and n 17) again ∙ and_block 4 (low / 16) 1 (low % 16) 1 lowest (omega arith)
    ∙ ap (λ n. n * 16 + bit_and (low % 16) 1) (and_mask (low / 16) 1) ∙ ap (λ n. low / 16 % 2 * 16 + n) (and_mask (low % 16) 1))

two_bits : (x : ℕ) → bit_and x 2147483649 ≡ x / 2147483648 % 2 * 2147483648 + x % 2147483648 % 2
two_bits x =
    let high = x / 2147483648 in
    let low = x % 2147483648 in
    let split : x ≡ high * 2147483648 + low = omega arith in
    let below : low < 2147483648 = omega arith in
    ap (λ n. bit_and n 2147483649) split
    ∙ and_block 31 high 1 low 1 below (omega arith)
    ∙ ap (λ n. n * 2147483648 + bit_and low 1) (and_mask high 1) ∙ ap (λ n. high % 2 * 2147483648 + n) (and_mask low 1)

pub control_on : (v : ℕ) → bit_and v 2147483649 ≡ 2147483649 → bit_and (bit_or v 16) 2147483665 ≡ 2147483665
control_on v e =
    let t = two_bits v in
    three_bits (bit_or v 16) ∙ ap (λ x. x / 2147483648 % 2 * 2147483648 + (x % 2147483648 / 16 % 2 * 16 + x % 2147483648 % 16 % 2))
    (set_is v 4 (omega arith)) ∙ omega (arith, t, e)

pub control_others : (v : ℕ) → bit_and v 2147155904 ≡ 0 → bit_and (bit_or v 16) 2147155904 ≡ 0
control_others v e = and_or_apart 2147155904 v 16 refl ∙ e

-- ---- segments

pub kept_code : (l : List Hidden) (i j : ℕ) (x : Hidden) → (j ≡ i → ⊥) → slice_index_or (slice_set l i x) j none ≡ slice_index_or l j none
kept_code l i j x apart = get_or-set_other l i j x none apart

pub put_there : (l : List Hidden) (i : ℕ) (x : Hidden) → i < length l → slice_index_or (slice_set l i x) i none ≡ x
put_there l i x h = get_or-set_same l i x none h

pub of_level : (cpu : Cpu) (old new : Hidden) → new ≡ old → old.null ≡ false → old.dpl ≡ cpu.cpl → IsOfLevel cpu new
of_level cpu old new e n l = record { there = ap (λ (h : Hidden). h.null) e ∙ n; level = ap (λ (h : Hidden). h.dpl) e ∙ l }

pub not_below : (sel : ℕ) → nat_lt sel 4 ≡ false → nat_lt (sel / 4 * 4) 4 ≡ false
not_below sel e = grind (arith, nat_tests)

pub jump_below : (sel cpl : ℕ) → nat_lt sel 4 ≡ false → nat_lt (sel / 4 * 4 + cpl) 4 ≡ false
jump_below sel cpl e = grind (arith, nat_tests)

-- a segment that is found
pub record IsFound (h : Hidden) (level : ℕ) : Type 0 where
  pub segment : IsSegment h
  pub there : h.null ≡ false
  pub level_is : h.dpl ≡ level

pub null_fits : (sel : ℕ) → nat_lt sel 4 ≡ true → IsSegment (record { sel = sel; null = true; dpl = 0 })
null_fits sel e = record { null = sym e; level = inl refl }

pub kept_fits : (test : Bool) (h : Hidden) → IsSegment h → IsSegment (cond test (record { sel = 0; null = true; dpl = 0 }) h)
kept_fits true h s = record { null = refl; level = inl refl }
kept_fits false h s = s

pub equal_levels : (m n : ℕ) → not (m == n) ≡ false → m ≡ n
equal_levels m n e = eqb-true m n (not-false _ e)

module _ (cpu : Cpu) (whole : IsWhole cpu) where
  pub fit : Fit cpu
  fit = whole.fit

  -- ---- other registers

  -- other flags, and held off or not
  pub flagged : (new : Cpu) (f : Flags) → new.regs.flags ≡ f → AreSet cpu.regs.flags f → new.cpl ≡ cpu.cpl → new.seg ≡ cpu.seg
      → new.cr0 ≡ cpu.cr0 → new.cr3 ≡ cpu.cr3 → new.cr4 ≡ cpu.cr4 → new.halted ≡ cpu.halted → IsWhole new
  flagged new f g k l s c0 c3 c4 h = record {
    fit = record {
      level = subst IsLevel (sym l) fit.level;
      segments = subst (λ (x : List Hidden). All IsSegment x) (sym s) fit.segments;
      code = of_level new (seg_of cpu 1) (seg_of new 1) (ap (λ (x : List Hidden). slice_index_or x 1 none) s) fit.code.there
          (fit.code.level ∙ sym l);
      stack = of_level new (seg_of cpu 2) (seg_of new 2) (ap (λ (x : List Hidden). slice_index_or x 2 none) s) fit.stack.there
          (fit.stack.level ∙ sym l);
      flags = subst (λ (x : Flags). AreFlags x.bits) (sym g) (set_flags cpu.regs.flags f k fit.flags);
      controls = record {
        on = ap (λ x. bit_and x 2147483665) c0 ∙ fit.controls.on;
        others = ap (λ x. bit_and x 2147155904) c0 ∙ fit.controls.others;
        directory = ap (λ x. bit_and x 4071) c3 ∙ fit.controls.directory;
        extensions = subst (λ (n : ℕ). (n ≡ 0) ⊎ (n ≡ 16)) (sym c4) fit.controls.extensions;
      };
      halted = λ e. l ∙ fit.halted (sym h ∙ e);
    };
    four = ap (λ (x : List Hidden). length x) s ∙ whole.four;
  }

  pub same : (new : Cpu) → new.cpl ≡ cpu.cpl → new.seg ≡ cpu.seg → new.regs.flags ≡ cpu.regs.flags → new.cr0 ≡ cpu.cr0 → new.cr3 ≡ cpu.cr3
      → new.cr4 ≡ cpu.cr4 → new.halted ≡ cpu.halted → IsWhole new
  same new l s f c0 c3 c4 h = flagged new cpu.regs.flags f (same_set cpu.regs.flags) l s c0 c3 c4 h
