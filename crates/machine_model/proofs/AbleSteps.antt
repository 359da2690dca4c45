-- Each step under a monitor's rules keeps what the run needs of the processor.
use Rattle.std.proofs.Common.{◌≡◌, ℕ, ◌*◌, ◌/◌, ◌==◌, true, false, not, ◌&&◌, ◌||◌, refl, sym, ap, subst, ◌∙◌, inl, inr, List, Option, None, slice_index_or, slice_set, arith}
use Rattle.ia32_exec.specs.FlagsAfter.{InsensitiveStay}
use Rattle.ia32_exec.specs.Registers.{with_register}
use Rattle.descriptors.specs.declared.cpu.Cpu.{Cpu}
use Rattle.descriptors.specs.declared.cpu.Hidden.{Hidden}
use Rattle.paging.specs.Space.{Mode, Own, Wedge, no_own, Space}
use Rattle.sys_exec.specs.declared.effect.SysOutcome.{SysOutcome}
use Rattle.sys_exec.specs.declared.effect.SysEffect.{SysEffect}
use Rattle.sys_exec.specs.declared.effect.SysEffect.TheVariants as effects
use Rattle.event_entry.specs.declared.refusal.Kind.TheVariants.{External}
use Rattle.event_entry.specs.Deliver.{entered}
use Rattle.image_load.specs.Boot.{text_pages}
use Rattle.machine_model.specs.State.{Setting, State}
use Rattle.machine_model.specs.Rules.{is_open, may_leave}
use Rattle.machine_model.specs.Instruction.{with_accumulator}
use Rattle.machine_model.specs.Step.{Result, Went, Halts, unheld}
use Rattle.machine_model.specs.Able.{IsAble, StepsKeepAble}
use Rattle.machine_model.proofs.Yielding.{Ends}
use Rattle.machine_model.proofs.AbleRows.{Suits, LevelStays, IsLeftAble, null_1, null_2, other, same}
use Rattle.machine_model.proofs.AbleLeft.{left}
use Rattle.machine_model.proofs.Entering.{Enters, entering}
use Rattle.machine_model.proofs.Goes.{Fetch, is_next, Ended, Goes, Steps, steps}

-- a step that goes leaves an able processor
abbrev LeavesAble : Result → Type 0
LeavesAble (Went report after) = IsAble after.cpu
LeavesAble (Halts stop) = Unit {0}

-- ---- deliveries

in_handler : (segments : List Hidden) (code inner : ℕ) (new : Cpu) → new.cpl ≡ 0
    → new.seg ≡ slice_set (slice_set segments 1 (record { sel = code; null = false; dpl = 0 })) 2
    (record { sel = inner; null = false; dpl = 0 }) → IsAble new
in_handler segments code inner new level seg =
    let first : Hidden = record { sel = code; null = false; dpl = 0 } in
    let second : Hidden = record { sel = inner; null = false; dpl = 0 } in
    record {
      level = inl level;
      code = ap (λ (l : List Hidden). (slice_index_or l 1 (record { sel = 0; null = false; dpl = 0 })).null) seg
          ∙ other (slice_set segments 1 first) 2 1 second (λ d. omega (arith, d)) (null_1 segments first refl);
      stack = ap (λ (l : List Hidden). (slice_index_or l 2 (record { sel = 0; null = false; dpl = 0 })).null) seg
          ∙ null_2 (slice_set segments 1 first) second refl;
      users = λ u. absurd (omega (arith, level, u));
    }

entered_able : (base after : Cpu) → Enters base after → IsAble after
entered_able base after (Enters.handler entry stack top far is) =
    in_handler base.seg (entry.sel / 4 * 4) stack.sel (entered base entry stack top) refl refl

-- ---- the outcome of an instruction

-- at the level that was the processor is able again
at_level : (old new : Cpu) → Suits old new → new.cpl ≡ old.cpl → IsAble new
at_level old new h same = record { level = h.level; code = h.code; stack = h.stack; users = λ u. h.users (sym same ∙ u) }

level_is : (old new : Cpu) (e : SysEffect) → is_next e ≡ false → LevelStays old new e → new.cpl ≡ old.cpl
level_is old new effects.Next other h = absurd (let f : true ≡ false = other in cc)
level_is old new e other h = h

-- and so with other registers and the same flags
with_flags : (old new : Cpu) → IsAble old → new.cpl ≡ old.cpl → new.seg ≡ old.seg → new.regs.flags ≡ old.regs.flags → IsAble new
with_flags old new h l s f = at_level old new (same old h new l s f) l

-- a user's flags are open where the monitor lets it leave
let_leave : (mode : Mode) (text count : ℕ) (own : Own) (old new : Cpu) → mode ≡ Wedge text count own → old.cpl ≡ 0 → new.cpl ≡ 3
    → may_leave mode old new ≡ true → is_open new ≡ true
let_leave mode text count own old new is below above leave =
    sym (ap (λ x. not ((x == 0) && (new.cpl == 3)) || is_open new) below ∙ ap (λ x. not ((0 == 0) && (x == 3)) || is_open new) above)
    ∙ (sym (ap (λ x. may_leave x old new) is) ∙ leave)

module _ (m : Setting) (b : State) (text count : ℕ) (own : Own) (mode : m.mode ≡ Wedge text count own) (stay : InsensitiveStay)
    (able : IsAble b.cpu) where
  of_next : (new : Cpu) → Suits b.cpu new → may_leave m.mode b.cpu new ≡ true → IsAble new
  of_next new h leave = record {
    level = h.level;
    code = h.code;
    stack = h.stack;
    users = λ u. elim able.level [ inl below ↦ let_leave m.mode text count own b.cpu new mode below u leave | inr user ↦ h.users user ];
  }

  of_ended : (d : SysOutcome) (new : Cpu) → IsLeftAble b.cpu d → Ended m b d new → IsAble new
  unfolding with_register
  of_ended d new h (Ended.goes_on e may) = of_next d.cpu h.suits may
  of_ended d new h (Ended.asks e) = at_level b.cpu d.cpu h.suits (level_is b.cpu d.cpu d.effect e h.stays)
  of_ended d new h (Ended.takes true value e) =
      with_flags d.cpu (with_accumulator true value d.cpu)
      (at_level b.cpu d.cpu h.suits (level_is b.cpu d.cpu d.effect e h.stays)) refl refl
      refl
  of_ended d new h (Ended.takes false value e) =
      with_flags d.cpu (with_accumulator false value d.cpu) (at_level b.cpu d.cpu h.suits (level_is b.cpu d.cpu d.effect e h.stays)) refl
      refl refl

  of_goes : (f : Fetch) (r : Result) → Goes m b f r → LeavesAble r
  of_goes f r (Goes.stops stop) = tt
  of_goes f r (Goes.enters c base vector kind code t cpu u is h k e) = entered_able base cpu (entering base cpu vector kind code t u e)
  of_goes f r (Goes.does insn d u h whats cpu board set e less) =
      of_ended d cpu (subst (Ends (IsLeftAble b.cpu)) h.does (left stay b.cpu able insn h.len h.from)) e

  of_steps : (o : Option ℕ) (s : Space) (r : Result) → Steps m b o s r → LeavesAble r
  of_steps o s r (Steps.stops stop) = tt
  of_steps o s r (Steps.rests halted) = able
  of_steps o s r (Steps.takes v cpu u e) = entered_able b.cpu cpu (entering b.cpu cpu v External None s u e)
  of_steps o s r (Steps.fetches x quiet awake well h) = of_goes _ x h

unheld_able : (b : State) → IsAble b.cpu → IsAble (unheld b).cpu
unheld_able b h = record { level = h.level; code = h.code; stack = h.stack; users = h.users }

pub each_keeps : InsensitiveStay → StepsKeepAble
each_keeps stay m b mode able report after is =
    subst LeavesAble is (of_steps m (unheld b) 0x100 (text_pages m.image) no_own mode stay (unheld_able b able) _ _ _ (steps m b))
