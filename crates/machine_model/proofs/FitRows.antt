-- Each instruction leaves a processor fit.
use Rattle.std.proofs.Common.{◌≡◌, ℕ, ◌%◌, ◌==◌, Bool, true, false, cond, not, refl, sym, ap, subst, ◌∙◌, ◌⊎◌, ◌||◌, inl, inr, List, length, Ok, Err, All, slice_index_or, slice_set, nat_lt, bit_and, bit_or, arith}
use Rattle.std.proofs.lemmas.Bool.Decides.{nat_tests}
use Rattle.std.proofs.lemmas.List.{length-set}
use Rattle.std.proofs.lemmas.List.Elements.{All-set}
use Rattle.std.proofs.lemmas.Bool.{and_parts, eqb-true}
use Rattle.ia32_types.specs.declared.flags.Flags.{Flags}
use Rattle.ia32_types.specs.declared.insn.Insn.{Insn}
use Rattle.ia32_exec.specs.declared.outcome.Outcome as exec
use Rattle.ia32_exec.specs.declared.outcome.Outcome.TheVariants as outcomes
use Rattle.ia32_exec.specs.Effect.{effect, ranges_of}
use Rattle.ia32_exec.specs.FlagsAfter.{Leaves, InsensitiveStay}
use Rattle.descriptors.specs.declared.cpu.Cpu.{Cpu}
use Rattle.descriptors.specs.declared.cpu.Hidden.{Hidden}
use Rattle.paging.specs.Space.{Space}
use Rattle.paging.specs.Work.{Outcome, unless}
use Rattle.descriptors.specs.Segments.{seg_of}
use Rattle.step_exec.specs.Plain.{is_refused, finished, byte_by, reached, after_writes, after_reads, executed}
use Rattle.sys_exec.specs.declared.effect.Refusal.{Refusal}
use Rattle.sys_exec.specs.declared.effect.Refusal.TheVariants as refusals
use Rattle.sys_exec.specs.declared.effect.SysOutcome.{SysOutcome}
use Rattle.sys_exec.specs.Operand.{past}
use Rattle.sys_exec.specs.Iret.{new_flags, kept_segment}
use Rattle.descriptors.specs.Controls.{control_0_needed, control_0_refused, control_3_refused}
use Rattle.sys_exec.specs.Sys.{sys_work}
use Rattle.machine_model.specs.Fit.{IsLevel, IsSegment, AreFlags, AreControls, Fit}
use Rattle.machine_model.specs.Instruction.{is_plain, done_plainly, instructed}
use Rattle.machine_model.proofs.Yielding.{Ends, Yields, any_yields}
use Rattle.machine_model.proofs.AbleRows.{none}
use Rattle.ia32_exec.specs.FlagsAfter.{AreSet}
use Rattle.machine_model.proofs.Leaving as leaving
use Rattle.machine_model.proofs.Leaving.{Left, IsBeside}
use Rattle.machine_model.proofs.FitParts.{IsWhole, set_flags, set_interrupt, popped_set, control_on, control_others, kept_code, put_there, of_level, kept_fits, flagged, same}

module _ (stay : InsensitiveStay) (cpu : Cpu) (whole : IsWhole cpu) where
  fit : Fit cpu
  fit = whole.fit

  beside : (new : Cpu) → IsBeside cpu cpu.regs.flags new → IsWhole new
  beside new h = same cpu whole new h.level h.segments h.flags h.cr0 h.cr3 h.cr4 h.halted

  with_flags : (new : Cpu) (f : Flags) → AreSet cpu.regs.flags f → IsBeside cpu f new → IsWhole new
  with_flags new f s h = flagged cpu whole new f h.flags s h.level h.segments h.cr0 h.cr3 h.cr4 h.halted

  controlled : (new : Cpu) → AreControls new → new.cpl ≡ cpu.cpl → new.seg ≡ cpu.seg → new.regs.flags ≡ cpu.regs.flags
      → new.halted ≡ cpu.halted → IsWhole new
  controlled new c l s f h = record {
    fit = record {
      level = subst IsLevel (sym l) fit.level;
      segments = subst (λ (x : List Hidden). All IsSegment x) (sym s) fit.segments;
      code = of_level new (seg_of cpu 1) (seg_of new 1) (ap (λ (x : List Hidden). slice_index_or x 1 none) s) fit.code.there
          (fit.code.level ∙ sym l);
      stack = of_level new (seg_of cpu 2) (seg_of new 2) (ap (λ (x : List Hidden). slice_index_or x 2 none) s) fit.stack.there
          (fit.stack.level ∙ sym l);
      flags = subst (λ (x : Flags). AreFlags x.bits) (sym f) fit.flags;
      controls = c;
      halted = λ e. l ∙ fit.halted (sym h ∙ e);
    };
    four = ap (λ (x : List Hidden). length x) s ∙ whole.four;
  }

  control_4 : (v : ℕ) → (v == 0 || v == 0x10) ≡ true → (v ≡ 0) ⊎ (v ≡ 16)
  control_4 v t = one_of (v == 0) refl t
    where
      one_of : (b : Bool) → (v == 0) ≡ b → (b || v == 0x10) ≡ true → (v ≡ 0) ⊎ (v ≡ 16)
      one_of true e u = inl (eqb-true v 0 e)
      one_of false e u = inr (eqb-true v 16 u)

  with_data : (after : Cpu) → IsWhole after → (i : ℕ) (h : Hidden) → IsSegment h → (1 ≡ i → ⊥) → (2 ≡ i → ⊥)
      → IsWhole (record after { seg = slice_set after.seg i h })
  with_data after w i h s one two = record {
    fit = record {
      level = w.fit.level;
      segments = All-set IsSegment after.seg i h s w.fit.segments;
      code = of_level _ (seg_of after 1) _ (kept_code after.seg i 1 h one) w.fit.code.there w.fit.code.level;
      stack = of_level _ (seg_of after 2) _ (kept_code after.seg i 2 h two) w.fit.stack.there w.fit.stack.level;
      flags = w.fit.flags;
      controls = record {
        on = w.fit.controls.on;
        others = w.fit.controls.others;
        directory = w.fit.controls.directory;
        extensions = w.fit.controls.extensions;
      };
      halted = w.fit.halted;
    };
    four = length-set after.seg i h ∙ w.four;
  }

  meet : (m n : ℕ) → nat_lt m n ≡ false → nat_lt n m ≡ false → m ≡ n
  meet m n e k = grind (arith, nat_tests)

  is_whole : {load : Bool} → cpu.halted ≡ false → (d : SysOutcome) → Left cpu load d → IsWhole d.cpu
  is_whole awake d (Left.beside known new e some h) = beside new h
  is_whole awake d (Left.interrupts known new b w h) = with_flags new _ (set_interrupt cpu.regs.flags b) h
  is_whole awake d (Left.popped_flags known new image h) = with_flags new _ (popped_set stay.images cpu image) h
  is_whole awake d (Left.halts known len t) = record {
    fit = record {
      level = fit.level;
      segments = fit.segments;
      code = record { there = fit.code.there; level = fit.code.level };
      stack = record { there = fit.stack.there; level = fit.stack.level };
      flags = fit.flags;
      controls = record {
        on = fit.controls.on;
        others = fit.controls.others;
        directory = fit.controls.directory;
        extensions = fit.controls.extensions;
      };
      halted = λ e. eqb-true cpu.cpl 0 t;
    };
    four = whole.four;
  }
  is_whole awake d (Left.stack known after h b k) =
      let w = beside after b in
      record {
        fit = record {
          level = w.fit.level;
          segments = All-set IsSegment after.seg 2 h k.segment w.fit.segments;
          code = of_level _ (seg_of after 1) _ (kept_code after.seg 2 1 h (λ d. omega (arith, d))) w.fit.code.there w.fit.code.level;
          stack = of_level _ h _ (put_there after.seg 2 h (omega (arith, w.four))) k.there (k.level_is ∙ sym b.level);
          flags = w.fit.flags;
          controls = record {
            on = w.fit.controls.on;
            others = w.fit.controls.others;
            directory = w.fit.controls.directory;
            extensions = w.fit.controls.extensions;
          };
          halted = w.fit.halted;
        };
        four = length-set after.seg 2 h ∙ w.four;
      }
  is_whole awake d (Left.of_data known after place h b one two k) = with_data after (beside after b) place h k one two
  is_whole awake d (Left.code known eip h k) = record {
    fit = record {
      level = fit.level;
      segments = All-set IsSegment cpu.seg 1 h k.segment fit.segments;
      code = of_level _ h _ (put_there cpu.seg 1 h (omega (arith, whole.four))) k.there k.level_is;
      stack = of_level _ (seg_of cpu 2) _ (kept_code cpu.seg 1 2 h (λ d. omega (arith, d))) fit.stack.there fit.stack.level;
      flags = fit.flags;
      controls = record {
        on = fit.controls.on;
        others = fit.controls.others;
        directory = fit.controls.directory;
        extensions = fit.controls.extensions;
      };
      halted = fit.halted;
    };
    four = length-set cpu.seg 1 h ∙ whole.four;
  }
  is_whole awake d (Left.same_level known p code h inward) = record {
    fit = record {
      level = fit.level;
      segments = All-set IsSegment cpu.seg 1 code.hidden h.found.segment fit.segments;
      code = of_level _ code.hidden _ (put_there cpu.seg 1 code.hidden (omega (arith, whole.four))) h.found.there
          (h.found.level_is ∙ meet (p.sel % 4) cpu.cpl h.outward inward);
      stack = of_level _ (seg_of cpu 2) _ (kept_code cpu.seg 1 2 code.hidden (λ d. omega (arith, d))) fit.stack.there fit.stack.level;
      flags = set_flags cpu.regs.flags (new_flags cpu p.flags) (popped_set stay.images cpu p.flags) fit.flags;
      controls = record {
        on = fit.controls.on;
        others = fit.controls.others;
        directory = fit.controls.directory;
        extensions = fit.controls.extensions;
      };
      halted = fit.halted;
    };
    four = length-set cpu.seg 1 code.hidden ∙ whole.four;
  }
  is_whole awake d (Left.outer_level known p top code stack h k) =
      let es = kept_segment (p.sel % 4) (slice_index_or cpu.seg 0 none) in
      let ds = kept_segment (p.sel % 4) (slice_index_or cpu.seg 3 none) in
      let first = slice_set cpu.seg 0 es in
      let segments = slice_set first 3 ds in
      let with_code = slice_set segments 1 code.hidden in
      let es_fits = kept_fits (nat_lt (slice_index_or cpu.seg 0 none).dpl (p.sel % 4)) (slice_index_or cpu.seg 0 none)
      (fit.segments 0 none (omega (arith, whole.four))) in
      let ds_fits = kept_fits (nat_lt (slice_index_or cpu.seg 3 none).dpl (p.sel % 4)) (slice_index_or cpu.seg 3 none)
      (fit.segments 3 none (omega (arith, whole.four))) in
      let four : length segments ≡ 4 = length-set first 3 ds ∙ length-set cpu.seg 0 es ∙ whole.four in
      let still : length with_code ≡ 4 = length-set segments 1 code.hidden ∙ four in
      record {
        fit = record {
          level = h.level;
          segments = All-set IsSegment with_code 2 stack.hidden k.segment
              (All-set IsSegment segments 1 code.hidden h.found.segment
              (All-set IsSegment first 3 ds ds_fits (All-set IsSegment cpu.seg 0 es es_fits fit.segments)));
          code = of_level _ code.hidden _ (kept_code with_code 2 1 stack.hidden (λ d. omega (arith, d)) ∙ put_there segments 1 code.hidden
              (omega (arith, four))) h.found.there h.found.level_is;
          stack = of_level _ stack.hidden _ (put_there with_code 2 stack.hidden (omega (arith, still))) k.there k.level_is;
          flags = set_flags cpu.regs.flags (new_flags cpu p.flags) (popped_set stay.images cpu p.flags) fit.flags;
          controls = record {
            on = fit.controls.on;
            others = fit.controls.others;
            directory = fit.controls.directory;
            extensions = fit.controls.extensions;
          };
          halted = λ e. absurd (let f : true ≡ false = sym e ∙ awake in cc);
        };
        four = length-set with_code 2 stack.hidden ∙ still;
      }
  is_whole awake d (Left.control_0 known len v t) =
      let given = and_parts (bit_and v control_0_needed == control_0_needed) _ t in
      controlled (record (past cpu len) { cr0 = bit_or v 0x10 }) (record {
        on = control_on v (eqb-true (bit_and v control_0_needed) control_0_needed given.0);
        others = control_others v (eqb-true (bit_and v control_0_refused) 0 given.1);
        directory = fit.controls.directory;
        extensions = fit.controls.extensions;
      }) refl refl refl refl
  is_whole awake d (Left.control_3 known len v t) = controlled (record (past cpu len) { cr3 = v }) (record {
    on = fit.controls.on;
    others = fit.controls.others;
    directory = eqb-true (bit_and v control_3_refused) 0 t;
    extensions = fit.controls.extensions;
  }) refl refl refl refl
  is_whole awake d (Left.control_4 known len v t) = controlled (record (past cpu len) { cr4 = v }) (record {
    on = fit.controls.on;
    others = fit.controls.others;
    directory = fit.controls.directory;
    extensions = control_4 v t;
  }) refl refl refl refl

  sys_left : cpu.halted ≡ false → (insn : Insn) (len : ℕ) → Yields (λ (d : SysOutcome). IsWhole d.cpu) (sys_work insn len cpu)
  sys_left awake insn len = record { each = λ s. ends _ (sys_work insn len cpu s) ((leaving.sys_left cpu _ insn len refl).each s) }
    where
      ends : (load : Bool) (o : Outcome Refusal SysOutcome) → Ends (Left cpu load) o → Ends (λ (d : SysOutcome). IsWhole d.cpu) o
      ends load (Ok x) h = is_whole awake x.0 h
      ends load (Err e) h = tt

  -- ---- plain instructions

  of_finished : (s : Space) (o : exec.Outcome) → Leaves cpu.regs o → Ends IsWhole (finished cpu s o)
  of_finished s (outcomes.Done regs stores) k =
      flagged cpu whole (record cpu { regs = regs }) regs.flags refl k.set refl refl refl refl refl refl
  of_finished s (outcomes.Raise vector code) k = tt
  of_finished s (outcomes.Stop stop) k = tt

  of_writes : (insn : Insn) (len : ℕ) (before : Space) (o : Outcome Refusal (Unit {0})) → Ends IsWhole (after_writes insn len cpu before o)
  of_writes insn len before (Ok done) =
      of_finished done.1 (effect insn len cpu.regs (byte_by (ranges_of insn cpu.regs).read before done.1))
      (stay.effects insn len cpu.regs (byte_by (ranges_of insn cpu.regs).read before done.1))
  of_writes insn len before (Err refused) = tt

  of_reads : (insn : Insn) (len : ℕ) (o : Outcome Refusal (Unit {0})) → Ends IsWhole (after_reads insn len cpu o)
  of_reads insn len (Ok done) = of_writes insn len done.1 (reached cpu true (ranges_of insn cpu.regs).write done.1)
  of_reads insn len (Err refused) = tt

  of_plain : (insn : Insn) (len : ℕ) → Yields IsWhole (executed insn len cpu)
  unfolding executed
  of_plain insn len =
      any_yields (unless (refusals.Raise 13 0) (not (is_refused cpu (ranges_of insn cpu.regs))))
      (λ done. record { each = λ s. of_reads insn len (reached cpu false (ranges_of insn cpu.regs).read s) })

  plainly_left : (o : Outcome Refusal Cpu) → Ends IsWhole o → Ends (λ (d : SysOutcome). IsWhole d.cpu) (done_plainly o)
  plainly_left (Ok x) h = h
  plainly_left (Err refused) h = tt

  choice : (test : Bool) (x y : Outcome Refusal SysOutcome) → Ends (λ (d : SysOutcome). IsWhole d.cpu) x
      → Ends (λ (d : SysOutcome). IsWhole d.cpu) y → Ends (λ (d : SysOutcome). IsWhole d.cpu) (cond test x y)
  choice true x y h k = h
  choice false x y h k = k

  pub left : cpu.halted ≡ false → (insn : Insn) (len : ℕ) (s : Space) → Ends (λ (d : SysOutcome). IsWhole d.cpu) (instructed insn len cpu s)
  unfolding instructed
  left awake insn len s =
      choice (is_plain insn.op) (done_plainly (executed insn len cpu s)) (sys_work insn len cpu s)
      (plainly_left (executed insn len cpu s) ((of_plain insn len).each s)) ((sys_left awake insn len).each s)
