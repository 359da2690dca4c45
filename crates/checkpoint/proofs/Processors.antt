-- A processor's numbers: those of a fit processor meet the form, and numbers of the form are a fit processor's.
use Rattle.std.proofs.Common.{◌≡◌, ℕ, zero, suc, ◌<◌, ◌≤◌, ◌^◌, ◌⊎◌, Bool, true, false, List, [], ◌∷◌, length, get_or, refl, ap, sym, ◌∙◌, arith, inl, inr}
use Rattle.std.specs.Prelude.{◌||◌, ◌==◌, nat_le, nat_lt, bit_and, replicate, All, slice_index}
use Rattle.std.proofs.lemmas.Bool.{leb-true, le-leb, eqb-true, eq-eqb, and_parts, and_from, or_cases}
use Rattle.descriptors.specs.declared.cpu.Cpu.{Cpu}
use Rattle.descriptors.specs.declared.cpu.Hidden.{Hidden}
use Rattle.descriptors.specs.Segments.{seg_of}
use Rattle.ia32_types.specs.Bits.{worth}
use Rattle.board.specs.Form.{board_form}
use Rattle.board.proofs.Saves.{worth_back, worth_small}
use Rattle.machine_model.specs.Fit.{Fit, IsLevel, IsSegment, AreFlags}
use Rattle.checkpoint.specs.declared.head.Head.{Head}
use Rattle.checkpoint.specs.declared.head.Segment.{Segment}
use Rattle.checkpoint.specs.Form.{is_frame_count, are_flags, is_control_0, is_control_4, is_level, is_halt, is_null, segment_of, magic_demands, processor_demands, segments_demands}
use Rattle.checkpoint.specs.States.{segment_from, head_of, hidden_from, cpu_of}
use Rattle.checkpoint.proofs.Boards.{worth_again}
use Rattle.checkpoint.proofs.AllMet.{all_met, Groups}

-- ---- lists of four

pub four_of : {T : Type 0} (xs : List T) (d : T) → length xs ≡ 4 → get_or xs 0 d ∷ get_or xs 1 d ∷ get_or xs 2 d ∷ get_or xs 3 d ∷ [] ≡ xs
four_of [] d long = absurd (omega arith)
four_of (a ∷ []) d long = absurd (omega arith)
four_of (a ∷ b ∷ []) d long = absurd (omega arith)
four_of (a ∷ b ∷ c ∷ []) d long = absurd (omega arith)
four_of (a ∷ b ∷ c ∷ e ∷ []) d long = refl
four_of (a ∷ b ∷ c ∷ e ∷ f ∷ xs) d long = absurd (omega arith)

four_same : {T : Type 0} {a b c d a' b' c' d' : T} → a ≡ a' → b ≡ b' → c ≡ c' → d ≡ d' → a ∷ b ∷ c ∷ d ∷ [] ≡ a' ∷ b' ∷ c' ∷ d' ∷ []
four_same {T} {a} {b} {c} {d} {a'} {b'} {c'} {d'} p q r s = λ i. p i ∷ q i ∷ r i ∷ s i ∷ []

four_all : (P : Hidden → Type 0) (a b c e : Hidden) → P a → P b → P c → P e → All P (a ∷ b ∷ c ∷ e ∷ [])
four_all P a b c e pa pb pc pe zero d h = pa
four_all P a b c e pa pb pc pe (suc zero) d h = pb
four_all P a b c e pa pb pc pe (suc (suc zero)) d h = pc
four_all P a b c e pa pb pc pe (suc (suc (suc zero))) d h = pe
four_all P a b c e pa pb pc pe (suc (suc (suc (suc k)))) d h = absurd (omega arith)

-- ---- a processor and back

hidden_back : (s : Hidden) → hidden_from (segment_from s) ≡ s
hidden_back s = ap (λ (b : Bool). let made : Hidden = record { sel = s.sel; null = b; dpl = s.dpl } in made) (worth_back s.null)

pub cpu_back : (cpu : Cpu) (board : List ℕ) (step frames : ℕ) → length cpu.seg ≡ 4 → cpu_of (head_of cpu board step frames) ≡ cpu
unfolding cpu_of head_of
cpu_back cpu board step frames long =
    let seg : hidden_from (segment_from (seg_of cpu 0)) ∷ hidden_from (segment_from (seg_of cpu 1)) ∷ hidden_from
    (segment_from (seg_of cpu 2)) ∷ hidden_from (segment_from (seg_of cpu 3)) ∷ [] ≡ cpu.seg =
    four_same (hidden_back (seg_of cpu 0)) (hidden_back (seg_of cpu 1)) (hidden_back (seg_of cpu 2)) (hidden_back (seg_of cpu 3))
    ∙ four_of cpu.seg (record { sel = 0; null = false; dpl = 0 }) long in
    let loaded = worth_back cpu.task.loaded in
    let halted = worth_back cpu.halted in
    let held = worth_back cpu.held in
    λ i. record cpu { seg = seg i; task = record cpu.task { loaded = loaded i }; halted = halted i; held = held i }

-- ---- what a fit processor's numbers meet

level_test : (n : ℕ) → IsLevel n → is_level n ≡ true
level_test n (inl e) = rw e refl
level_test n (inr e) = rw e refl

flags_test : (n : ℕ) → AreFlags n → are_flags n ≡ true
flags_test n are = and_from (bit_and n 2 == 2) (bit_and n 0xFFFFC128 == 0) (eq-eqb _ _ are.fixed) (eq-eqb _ _ are.others)

null_test : (s : Hidden) → IsSegment s → is_null (segment_from s) ≡ true
null_test s is = eq-eqb _ _ (ap worth is.null)

there_test : (s : Hidden) → s.null ≡ false → (worth s.null == 0) ≡ true
there_test s is = ap (λ (b : Bool). worth b == 0) is

halt_test : (halted : Bool) (level : ℕ) → (halted ≡ true → level ≡ 0) → is_halt (worth halted) level ≡ true
halt_test true level h = eq-eqb level 0 (h refl)
halt_test false level h = refl

control_4_test : (n : ℕ) → (n ≡ 0) ⊎ (n ≡ 0x10) → is_control_4 n ≡ true
control_4_test n (inl e) = rw e refl
control_4_test n (inr e) = rw e refl

pub meets : (cpu : Cpu) (board : List ℕ) (step frames : ℕ) → Fit cpu → length cpu.seg ≡ 4 → step ≤ 2 ^ 40 → 2048 ≤ frames → frames ≤ 16384
    → board_form board ≡ true →
    Groups (head_of cpu board step frames)
unfolding head_of
meets cpu board step frames fit long few low high form =
    let seg : (k : ℕ) → k < 4 → IsSegment (seg_of cpu k) =
    λ k h. fit.segments k (record { sel = 0; null = false; dpl = 0 }) (omega arith) in
    let s0 = seg 0 (omega arith) in
    let s1 = seg 1 (omega arith) in
    let s2 = seg 2 (omega arith) in
    let s3 = seg 3 (omega arith) in
    record {
      magic = refl;
      counts = and_from (is_frame_count frames) _
          (and_from (nat_le 2048 frames) (nat_le frames 16384) (le-leb 2048 frames low) (le-leb frames 16384 high))
          (and_from (nat_le step (2 ^ 40)) true (le-leb step (2 ^ 40) few) refl);
      processor =
          and_from (are_flags cpu.regs.flags.bits) _ (flags_test cpu.regs.flags.bits fit.flags)
          (and_from (is_control_0 cpu.cr0) _
          (and_from (bit_and cpu.cr0 0x80000011 == 0x80000011) (bit_and cpu.cr0 0x7FFAFFC0 == 0) (eq-eqb _ _ fit.controls.on)
          (eq-eqb _ _ fit.controls.others))
          (and_from (bit_and cpu.cr3 0xFE7 == 0) _ (eq-eqb _ _ fit.controls.directory)
          (and_from (is_control_4 cpu.cr4) _ (control_4_test cpu.cr4 fit.controls.extensions)
          (and_from (nat_le (worth cpu.task.loaded) 1) _ (worth_small cpu.task.loaded)
          (and_from (is_level cpu.cpl) _ (level_test cpu.cpl fit.level)
          (and_from (is_halt (worth cpu.halted) cpu.cpl) _ (halt_test cpu.halted cpu.cpl fit.halted)
          (and_from (nat_le (worth cpu.held) 1) true (worth_small cpu.held) refl)))))));
      segments =
          and_from (is_null (segment_from (seg_of cpu 0))) _ (null_test (seg_of cpu 0) s0)
          (and_from (is_level (seg_of cpu 0).dpl) _ (level_test _ s0.level)
          (and_from (is_null (segment_from (seg_of cpu 1))) _ (null_test (seg_of cpu 1) s1)
          (and_from (is_level (seg_of cpu 1).dpl) _ (level_test _ s1.level)
          (and_from (is_null (segment_from (seg_of cpu 2))) _ (null_test (seg_of cpu 2) s2)
          (and_from (is_level (seg_of cpu 2).dpl) _ (level_test _ s2.level)
          (and_from (is_null (segment_from (seg_of cpu 3))) _ (null_test (seg_of cpu 3) s3)
          (and_from (is_level (seg_of cpu 3).dpl) _ (level_test _ s3.level)
          (and_from (worth (seg_of cpu 1).null == 0) _ (there_test (seg_of cpu 1) fit.code.there)
          (and_from ((seg_of cpu 1).dpl == cpu.cpl) _ (eq-eqb _ _ fit.code.level)
          (and_from (worth (seg_of cpu 2).null == 0) _ (there_test (seg_of cpu 2) fit.stack.there)
          (and_from ((seg_of cpu 2).dpl == cpu.cpl) true (eq-eqb _ _ fit.stack.level) refl)))))))))));
      unnamed = refl;
      board = form;
      rest = refl;
    }

-- ---- what numbers that meet the form are

to_level : (n : ℕ) → is_level n ≡ true → IsLevel n
to_level n is = split (or_cases (n == 0) (n == 3) is) where
  split : ((n == 0) ≡ true) ⊎ ((n == 3) ≡ true) → IsLevel n
  split (inl e) = inl (eqb-true n 0 e)
  split (inr e) = inr (eqb-true n 3 e)

to_control_4 : (n : ℕ) → is_control_4 n ≡ true → (n ≡ 0) ⊎ (n ≡ 0x10)
to_control_4 n is = split (or_cases (n == 0) (n == 0x10) is) where
  split : ((n == 0) ≡ true) ⊎ ((n == 0x10) ≡ true) → (n ≡ 0) ⊎ (n ≡ 0x10)
  split (inl e) = inl (eqb-true n 0 e)
  split (inr e) = inr (eqb-true n 0x10 e)

to_segment : (s : Segment) → is_null s ≡ true → is_level s.level ≡ true → IsSegment (hidden_from s)
to_segment s null level = record {
  null = ap (λ (n : ℕ). n == 1) (eqb-true s.null (worth (nat_lt s.selector 4)) null) ∙ worth_back (nat_lt s.selector 4);
  level = to_level s.level level;
}

to_halt : (halted level : ℕ) → is_halt halted level ≡ true → (halted == 1) ≡ true → level ≡ 0
to_halt halted level is on =
    let h = and_parts (nat_le halted 1) (halted == 0 || level == 0) is in
    split (or_cases (halted == 0) (level == 0) h.1)
  where
    split : ((halted == 0) ≡ true) ⊎ ((level == 0) ≡ true) → level ≡ 0
    split (inl e) = absurd (omega (arith, eqb-true halted 0 e, eqb-true halted 1 on))
    split (inr e) = eqb-true level 0 e

record Segments (h : Head) : Type 0 where
  s0 : IsSegment (hidden_from (segment_of h 0))
  s1 : IsSegment (hidden_from (segment_of h 1))
  s2 : IsSegment (hidden_from (segment_of h 2))
  s3 : IsSegment (hidden_from (segment_of h 3))
  low0 : (segment_of h 0).null ≤ 1
  low1 : (segment_of h 1).null ≤ 1
  low2 : (segment_of h 2).null ≤ 1
  low3 : (segment_of h 3).null ≤ 1
  code : (segment_of h 1).null ≡ 0
  code_level : (segment_of h 1).level ≡ h.level
  stack : (segment_of h 2).null ≡ 0
  stack_level : (segment_of h 2).level ≡ h.level

null_low : (s : Segment) → is_null s ≡ true → s.null ≤ 1
null_low s null =
    let e = eqb-true s.null (worth (nat_lt s.selector 4)) null in
    let small : worth (nat_lt s.selector 4) ≤ 1 = leb-true _ 1 (worth_small (nat_lt s.selector 4)) in omega arith

to_segments : (h : Head) → all_met (segments_demands h) ≡ true → Segments h
to_segments h met =
    let a = and_parts (is_null (segment_of h 0)) _ met in
    let b = and_parts (is_level (segment_of h 0).level) _ a.1 in
    let c = and_parts (is_null (segment_of h 1)) _ b.1 in
    let d = and_parts (is_level (segment_of h 1).level) _ c.1 in
    let e = and_parts (is_null (segment_of h 2)) _ d.1 in
    let f = and_parts (is_level (segment_of h 2).level) _ e.1 in
    let g = and_parts (is_null (segment_of h 3)) _ f.1 in
    let i = and_parts (is_level (segment_of h 3).level) _ g.1 in
    let j = and_parts ((segment_of h 1).null == 0) _ i.1 in
    let k = and_parts ((segment_of h 1).level == h.level) _ j.1 in
    let l = and_parts ((segment_of h 2).null == 0) _ k.1 in
    let m = and_parts ((segment_of h 2).level == h.level) true l.1 in
    record {
      s0 = to_segment (segment_of h 0) a.0 b.0;
      s1 = to_segment (segment_of h 1) c.0 d.0;
      s2 = to_segment (segment_of h 2) e.0 f.0;
      s3 = to_segment (segment_of h 3) g.0 i.0;
      low0 = null_low (segment_of h 0) a.0;
      low1 = null_low (segment_of h 1) c.0;
      low2 = null_low (segment_of h 2) e.0;
      low3 = null_low (segment_of h 3) g.0;
      code = eqb-true _ 0 j.0;
      code_level = eqb-true _ _ k.0;
      stack = eqb-true _ 0 l.0;
      stack_level = eqb-true _ _ m.0;
    }

record Processor (h : Head) : Type 0 where
  flags : AreFlags h.eflags
  control_0 : (bit_and h.cr0 0x80000011 ≡ 0x80000011) × (bit_and h.cr0 0x7FFAFFC0 ≡ 0)
  control_3 : bit_and h.cr3 0xFE7 ≡ 0
  control_4 : (h.cr4 ≡ 0) ⊎ (h.cr4 ≡ 0x10)
  loaded : h.task_loaded ≤ 1
  level : IsLevel h.level
  halted : h.halted ≤ 1
  halt : (h.halted == 1) ≡ true → h.level ≡ 0
  held : h.held ≤ 1

to_processor : (h : Head) → all_met (processor_demands h) ≡ true → Processor h
to_processor h met =
    let a = and_parts (are_flags h.eflags) _ met in
    let b = and_parts (is_control_0 h.cr0) _ a.1 in
    let c = and_parts (bit_and h.cr3 0xFE7 == 0) _ b.1 in
    let d = and_parts (is_control_4 h.cr4) _ c.1 in
    let e = and_parts (nat_le h.task_loaded 1) _ d.1 in
    let f = and_parts (is_level h.level) _ e.1 in
    let g = and_parts (is_halt h.halted h.level) _ f.1 in
    let i = and_parts (nat_le h.held 1) true g.1 in
    let flags = and_parts (bit_and h.eflags 2 == 2) (bit_and h.eflags 0xFFFFC128 == 0) a.0 in
    let control_0 = and_parts (bit_and h.cr0 0x80000011 == 0x80000011) (bit_and h.cr0 0x7FFAFFC0 == 0) b.0 in
    let halt = and_parts (nat_le h.halted 1) (h.halted == 0 || h.level == 0) g.0 in
    record {
      flags = record { fixed = eqb-true _ _ flags.0; others = eqb-true _ _ flags.1 };
      control_0 = (eqb-true _ _ control_0.0, eqb-true _ _ control_0.1);
      control_3 = eqb-true _ _ c.0;
      control_4 = to_control_4 h.cr4 d.0;
      loaded = leb-true h.task_loaded 1 e.0;
      level = to_level h.level f.0;
      halted = leb-true h.halted 1 halt.0;
      halt = to_halt h.halted h.level g.0;
      held = leb-true h.held 1 i.0;
    }

pub fits_so : (h : Head) → Groups h → Fit (cpu_of h)
unfolding cpu_of
fits_so h groups =
    let p = to_processor h groups.processor in
    let s = to_segments h groups.segments in
    record {
      level = p.level;
      segments = four_all IsSegment (hidden_from (segment_of h 0)) (hidden_from (segment_of h 1)) (hidden_from (segment_of h 2))
          (hidden_from (segment_of h 3)) s.s0 s.s1 s.s2 s.s3;
      code = record { there = ap (λ (n : ℕ). n == 1) s.code; level = s.code_level };
      stack = record { there = ap (λ (n : ℕ). n == 1) s.stack; level = s.stack_level };
      flags = p.flags;
      controls = record { on = p.control_0.0; others = p.control_0.1; directory = p.control_3; extensions = p.control_4 };
      halted = p.halt;
    }

segment_again : (s : Segment) → s.null ≤ 1 → segment_from (hidden_from s) ≡ s
segment_again s low =
    ap (λ (n : ℕ). let made : Segment = record { selector = s.selector; null = n; level = s.level } in made) (worth_again s.null low)

byte_eq : (n m : ℕ) → (n == m) ≡ true → n ≡ m
byte_eq n m e = eqb-true n m e

magic_is : (magic : List ℕ) → length magic ≡ 4 → all_met (magic_demands magic) ≡ true → 80 ∷ 86 ∷ 67 ∷ 49 ∷ [] ≡ magic
magic_is magic long met =
    let a = and_parts (slice_index magic 0 == 80) _ met in
    let b = and_parts (slice_index magic 1 == 86) _ a.1 in
    let c = and_parts (slice_index magic 2 == 67) _ b.1 in
    let d = and_parts (slice_index magic 3 == 49) true c.1 in
    four_same (sym (byte_eq _ 80 a.0)) (sym (byte_eq _ 86 b.0)) (sym (byte_eq _ 67 c.0)) (sym (byte_eq _ 49 d.0)) ∙ four_of magic 0 long

pub head_again : (h : Head) → length h.magic ≡ 4 → length h.segments ≡ 4 → Groups h → head_of (cpu_of h) h.board h.step h.frames ≡ h
unfolding head_of cpu_of
head_again h magic_long long groups =
    let p = to_processor h groups.processor in
    let s = to_segments h groups.segments in
    let segments : segment_from (hidden_from (segment_of h 0)) ∷ segment_from (hidden_from (segment_of h 1)) ∷ segment_from
    (hidden_from (segment_of h 2)) ∷ segment_from (hidden_from (segment_of h 3)) ∷ [] ≡ h.segments =
    four_same (segment_again (segment_of h 0) s.low0) (segment_again (segment_of h 1) s.low1) (segment_again (segment_of h 2) s.low2)
    (segment_again (segment_of h 3) s.low3)
    ∙ four_of h.segments (record { selector = 0; null = 0; level = 0 }) long in
    let magic = magic_is h.magic magic_long groups.magic in
    let loaded = worth_again h.task_loaded p.loaded in
    let halted = worth_again h.halted p.halted in
    let held = worth_again h.held p.held in
    let unnamed = sym groups.unnamed in
    let rest = sym groups.rest in
    λ i. record h {
      magic = magic i;
      task_loaded = loaded i;
      segments = segments i;
      halted = halted i;
      held = held i;
      unnamed = unnamed i;
      rest = rest i;
    }
