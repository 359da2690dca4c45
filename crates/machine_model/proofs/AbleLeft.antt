-- Each row leaves a processor that is able to go on, by how it leaves it.
use Rattle.std.proofs.Common.{List, Ok, Err, sym, subst, ◌/◌, ◌==◌, ◌&&◌, ◌≡◌, ℕ, ◌%◌, Bool, true, false, cond, refl, ap, ◌∙◌, slice_set, slice_index_or, arith}
use Rattle.ia32_types.specs.declared.insn.Insn.{Insn}
use Rattle.ia32_types.specs.declared.flags.Flags.{Flags}
use Rattle.ia32_exec.specs.FlagsAfter.{InsensitiveStay}
use Rattle.descriptors.specs.declared.cpu.Cpu.{Cpu}
use Rattle.descriptors.specs.declared.cpu.Hidden.{Hidden}
use Rattle.sys_exec.specs.declared.effect.SysEffect.{SysEffect}
use Rattle.sys_exec.specs.declared.effect.SysEffect.TheVariants as effects
use Rattle.sys_exec.specs.declared.effect.SysOutcome.{SysOutcome}
use Rattle.sys_exec.specs.Operand.{past}
use Rattle.sys_exec.specs.Iret.{is_within, kept_segment}
use Rattle.sys_exec.specs.Control.{changes_pse}
use Rattle.sys_exec.specs.Sys.{sys_work}
use Rattle.machine_model.specs.Able.{IsAble}
use Rattle.machine_model.specs.Fit.{IsLevel}
use Rattle.sys_exec.specs.declared.effect.Refusal.{Refusal}
use Rattle.paging.specs.Work.{Outcome}
use Rattle.std.proofs.lemmas.Bool.{both_ways}
use Rattle.paging.specs.Fresh.{has}
use Rattle.machine_model.proofs.Yielding.{Yields, Ends}
use Rattle.paging.specs.Space.{Space}
use Rattle.step_exec.specs.Plain.{executed}
use Rattle.machine_model.specs.Instruction.{is_plain, done_plainly, instructed}
use Rattle.machine_model.proofs.AbleRows.{of_plain, plainly_left, Suits, LevelStays, IsLeftAble, none, null_1, null_2, other, same, not_within, popped_open}
use Rattle.machine_model.proofs.Leaving.{Left, IsBeside, sys_left}

module _ (stay : InsensitiveStay) (cpu : Cpu) (able : IsAble cpu) where
  level_stays : (new : Cpu) (e : SysEffect) → new.cpl ≡ cpu.cpl → LevelStays cpu new e
  level_stays new effects.Next h = tt
  level_stays new effects.Halted h = h
  level_stays new effects.DropAll h = h
  level_stays new (effects.DropPage page) h = h
  level_stays new (effects.DropDir dir) h = h
  level_stays new (effects.PortIn port wide) h = h
  level_stays new (effects.PortOut port wide v) h = h
  level_stays new (effects.Raise vector code) h = h
  level_stays new (effects.Stop stop) h = h

  suits : (new : Cpu) → IsBeside cpu cpu.regs.flags new → Suits cpu new
  suits new h = same cpu able new h.level h.segments h.flags

  pub is_able : {load : Bool} (d : SysOutcome) → Left cpu load d → IsLeftAble cpu d
  is_able d (Left.beside known new e some h) = record { suits = suits new h; stays = level_stays new e h.level }
  is_able d (Left.interrupts known new b w h) = record {
    suits = record {
      level = subst IsLevel (sym h.level) able.level;
      code = ap (λ (x : List Hidden). (slice_index_or x 1 none).null) h.segments ∙ able.code;
      stack = ap (λ (x : List Hidden). (slice_index_or x 2 none).null) h.segments ∙ able.stack;
      users = λ u. absurd (both_ways (is_within cpu) (not_within stay cpu able u) w);
    };
    stays = tt;
  }
  is_able d (Left.popped_flags known new image h) = record {
    suits = record {
      level = subst IsLevel (sym h.level) able.level;
      code = ap (λ (x : List Hidden). (slice_index_or x 1 none).null) h.segments ∙ able.code;
      stack = ap (λ (x : List Hidden). (slice_index_or x 2 none).null) h.segments ∙ able.stack;
      users = λ u. ap (λ (x : Flags). has x.bits 512 && x.bits / 4096 % 4 == 0) h.flags ∙ popped_open stay cpu able image u;
    };
    stays = tt;
  }
  is_able d (Left.halts known len t) = record { suits = same cpu able _ refl refl refl; stays = refl }
  is_able d (Left.stack known after h w k) =
      let s = suits after w in
      record {
        suits = record {
          level = s.level;
          code = other after.seg 2 1 h (λ d. omega (arith, d)) s.code;
          stack = null_2 after.seg h k.there;
          users = s.users;
        };
        stays = tt;
      }
  is_able d (Left.of_data known after place h w one two k) =
      let s = suits after w in
      record {
        suits = record {
          level = s.level;
          code = other after.seg place 1 h one s.code;
          stack = other after.seg place 2 h two s.stack;
          users = s.users;
        };
        stays = tt;
      }
  is_able d (Left.code known eip h k) = record {
    suits = record {
      level = able.level;
      code = null_1 cpu.seg h k.there;
      stack = other cpu.seg 1 2 h (λ d. omega (arith, d)) able.stack;
      users = able.users;
    };
    stays = tt;
  }
  is_able d (Left.same_level known p l h inward) = record {
    suits = record {
      level = able.level;
      code = null_1 cpu.seg l.hidden h.found.there;
      stack = other cpu.seg 1 2 l.hidden (λ d. omega (arith, d)) able.stack;
      users = popped_open stay cpu able p.flags;
    };
    stays = tt;
  }
  is_able d (Left.outer_level known p top l s h k) =
      let segments = slice_set (slice_set cpu.seg 0 (kept_segment (p.sel % 4) (slice_index_or cpu.seg 0 none))) 3
      (kept_segment (p.sel % 4) (slice_index_or cpu.seg 3 none)) in
      record {
        suits = record {
          level = h.level;
          code = other (slice_set segments 1 l.hidden) 2 1 s.hidden (λ d. omega (arith, d)) (null_1 segments l.hidden h.found.there);
          stack = null_2 (slice_set segments 1 l.hidden) s.hidden k.there;
          users = popped_open stay cpu able p.flags;
        };
        stays = tt;
      }
  is_able d (Left.control_0 known len v t) = record { suits = same cpu able _ refl refl refl; stays = tt }
  is_able d (Left.control_3 known len v t) = record { suits = same cpu able _ refl refl refl; stays = refl }
  is_able d (Left.control_4 known len v t) = record {
    suits = same cpu able _ refl refl refl;
    stays = level_stays (record (past cpu len) { cr4 = v }) (cond (changes_pse (past cpu len) v) effects.DropAll effects.Next) refl;
  }

  pub rows_able : (insn : Insn) (len : ℕ) → Yields (IsLeftAble cpu) (sys_work insn len cpu)
  rows_able insn len = record { each = λ s. ends_able _ (sys_work insn len cpu s) ((sys_left cpu _ insn len refl).each s) }
    where
      ends_able : (load : Bool) (o : Outcome Refusal SysOutcome) → Ends (Left cpu load) o → Ends (IsLeftAble cpu) o
      ends_able load (Ok x) h = is_able x.0 h
      ends_able load (Err e) h = tt

  choice : (test : Bool) (x y : Outcome Refusal SysOutcome) → Ends (IsLeftAble cpu) x → Ends (IsLeftAble cpu) y
      → Ends (IsLeftAble cpu) (cond test x y)
  choice true x y h k = h
  choice false x y h k = k

  pub left : (insn : Insn) (len : ℕ) (s : Space) → Ends (IsLeftAble cpu) (instructed insn len cpu s)
  unfolding instructed
  left insn len s =
      choice (is_plain insn.op) (done_plainly (executed insn len cpu s)) (sys_work insn len cpu s)
      (plainly_left stay cpu able (executed insn len cpu s) ((of_plain stay cpu able insn len).each s)) ((rows_able insn len).each s)
