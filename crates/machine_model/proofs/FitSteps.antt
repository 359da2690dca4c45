-- Each step leaves a processor fit.
use Rattle.std.proofs.Common.{◌≡◌, ℕ, ◌*◌, ◌/◌, Bool, true, false, refl, sym, ap, subst, ◌∙◌, inl, inr, length, Option, None, slice_set, nat_lt, bit_and, arith}
use Rattle.std.proofs.lemmas.List.{length-set}
use Rattle.std.proofs.lemmas.List.Elements.{All-set}
use Rattle.std.proofs.lemmas.Nat.{and_assoc}
use Rattle.ia32_types.specs.declared.insn.Insn.{Insn}
use Rattle.ia32_exec.specs.FlagsAfter.{InsensitiveStay}
use Rattle.ia32_exec.specs.Registers.{with_register}
use Rattle.descriptors.specs.declared.cpu.Cpu.{Cpu}
use Rattle.descriptors.specs.declared.cpu.Hidden.{Hidden}
use Rattle.paging.specs.Space.{Space}
use Rattle.sys_exec.specs.declared.effect.SysOutcome.{SysOutcome}
use Rattle.event_entry.specs.declared.refusal.Kind.TheVariants.{External}
use Rattle.event_entry.specs.Deliver.{flags_kept}
use Rattle.machine_model.specs.Fit.{IsSegment, AreFlags, Fit}
use Rattle.machine_model.specs.State.{Setting, State}
use Rattle.machine_model.specs.Instruction.{with_accumulator}
use Rattle.machine_model.specs.Step.{Result, Went, Halts, unheld}
use Rattle.machine_model.specs.StaysFit.{StepsKeepFit}
use Rattle.machine_model.proofs.Yielding.{Ends}
use Rattle.machine_model.proofs.AbleRows.{none}
use Rattle.machine_model.proofs.FitParts.{IsWhole, of_level, put_there, kept_code, not_below, same}
use Rattle.sys_exec.specs.Operand.{past}
use Rattle.machine_model.proofs.FitRows.{left}
use Rattle.machine_model.proofs.Entering.{IsStack, Enters, entering}
use Rattle.machine_model.proofs.Goes.{Fetch, Did, Faces, Ended, Goes, Steps, steps}
use Rattle.event_entry.specs.declared.delivery.Stack.{Stack}

-- a step that goes leaves a whole processor
abbrev LeavesWhole : Result → Type 0
LeavesWhole (Went report after) = IsWhole after.cpu
LeavesWhole (Halts stop) = Unit {0}

-- ---- deliveries

module _ (cpu : Cpu) (whole : IsWhole cpu) where
  fit : Fit cpu
  fit = whole.fit

  low : (stack : Stack) → IsStack cpu stack → nat_lt stack.sel 4 ≡ false
  low stack (inl far) = far
  low stack (inr is) =
      ap (λ (x : ℕ). nat_lt x 4) is ∙ (sym (fit.segments 2 none (omega (arith, whole.four))).null ∙ fit.stack.there)

  masked_by : (kept : ℕ) → bit_and kept 2 ≡ 2 → bit_and kept 4294951208 ≡ bit_and 4294951208 kept
      → AreFlags (bit_and cpu.regs.flags.bits kept)
  masked_by kept e k = record {
    fixed = and_assoc 2 cpu.regs.flags.bits kept ∙ ap (λ x. bit_and cpu.regs.flags.bits x) e ∙ fit.flags.fixed;
    others =
        and_assoc 4294951208 cpu.regs.flags.bits kept ∙ ap (λ x. bit_and cpu.regs.flags.bits x) k
        ∙ sym (and_assoc kept cpu.regs.flags.bits 4294951208) ∙ ap (λ x. bit_and x kept) fit.flags.others;
  }

  masked : (keeps : Bool) → AreFlags (bit_and cpu.regs.flags.bits (flags_kept keeps))
  masked true = masked_by 0xFFFF_BEFF refl refl
  masked false = masked_by 0xFFFF_BCFF refl refl

  entered_whole : (after : Cpu) → Enters cpu after → IsWhole after
  entered_whole after (Enters.handler entry stack top far is) =
      let handler : Hidden = record { sel = entry.sel / 4 * 4; null = false; dpl = 0 } in
      let inner : Hidden = record { sel = stack.sel; null = false; dpl = 0 } in
      let first = slice_set cpu.seg 1 handler in
      let four : length first ≡ 4 = length-set cpu.seg 1 handler ∙ whole.four in
      record {
        fit = record {
          level = inl refl;
          segments = All-set IsSegment first 2 inner (record { null = sym (low stack is); level = inl refl })
              (All-set IsSegment cpu.seg 1 handler (record { null = sym (not_below entry.sel far); level = inl refl }) fit.segments);
          code =
              of_level _ handler _ (kept_code first 2 1 inner (λ d. omega (arith, d)) ∙ put_there cpu.seg 1 handler
              (omega (arith, whole.four))) refl refl;
          stack = of_level _ inner _ (put_there first 2 inner (omega (arith, four))) refl refl;
          flags = masked entry.keeps;
          controls = record {
            on = fit.controls.on;
            others = fit.controls.others;
            directory = fit.controls.directory;
            extensions = fit.controls.extensions;
          };
          halted = λ e. refl;
        };
        four = length-set first 2 inner ∙ four;
      }

module _ (m : Setting) (b : State) (stay : InsensitiveStay) (whole : IsWhole b.cpu) (f : Fetch) (awake : b.cpu.halted ≡ false) where
  of_did : (insn : Insn) (d : SysOutcome) (u : Space) → Did b f insn d u → IsWhole d.cpu
  of_did insn d u h = subst (Ends (λ (x : SysOutcome). IsWhole x.cpu)) h.does (left stay b.cpu whole awake insn h.len h.from)

  of_ended : (d : SysOutcome) (new : Cpu) → IsWhole d.cpu → Ended m b d new → IsWhole new
  unfolding with_register
  of_ended d new h (Ended.goes_on e may) = h
  of_ended d new h (Ended.asks e) = h
  of_ended d new h (Ended.takes true value e) = same d.cpu h (with_accumulator true value d.cpu) refl refl refl refl refl refl refl
  of_ended d new h (Ended.takes false value e) = same d.cpu h (with_accumulator false value d.cpu) refl refl refl refl refl refl refl

  of_faces : (base : Cpu) → Faces b f base → IsWhole base
  of_faces base Faces.as_is = whole
  of_faces base (Faces.at_fault at) = same b.cpu whole (record b.cpu { cr2 = at }) refl refl refl refl refl refl refl
  of_faces base (Faces.past_it len) = same b.cpu whole (past b.cpu len) refl refl refl refl refl refl refl
  of_faces base (Faces.as_done insn d u h) = of_did insn d u h

  of_goes : (r : Result) → Goes m b f r → LeavesWhole r
  of_goes r (Goes.stops stop) = tt
  of_goes r (Goes.enters c base vector kind code t cpu u is h k e) =
      entered_whole base (of_faces base h) cpu (entering base cpu vector kind code t u e)
  of_goes r (Goes.does insn d u h whats cpu board set e less) = of_ended d cpu (of_did insn d u h) e

of_steps : (m : Setting) (b : State) → InsensitiveStay → IsWhole b.cpu → (o : Option ℕ) (s : Space) (r : Result) → Steps m b o s r
    → LeavesWhole r
of_steps m b stay whole o s r (Steps.stops stop) = tt
of_steps m b stay whole o s r (Steps.rests halted) = whole
of_steps m b stay whole o s r (Steps.takes v cpu u e) = entered_whole b.cpu whole cpu (entering b.cpu cpu v External None s u e)
of_steps m b stay whole o s r (Steps.fetches x quiet awake well h) = of_goes m b stay whole _ awake x h

pub each_keeps_fit : InsensitiveStay → StepsKeepFit
each_keeps_fit stay m b fit four report after is =
    let whole : IsWhole b.cpu = record { fit = fit; four = four } in
    let still : IsWhole (unheld b).cpu = same b.cpu whole (record b.cpu { held = false }) refl refl refl refl refl refl refl in
    let w = subst LeavesWhole is (of_steps m (unheld b) stay still _ _ _ (steps m b)) in
    (w.fit, w.four)
