-- Where the IRET of a handler leads: back into what was interrupted. Intel SDM volume 3, interrupt and exception
-- handling, and volume 2, IRET.
use Rattle.std.specs.Prelude.{◌≡◌, ◌⊎◌, ℕ, ◌+◌, ◌%◌, ◌^◌, ◌<◌, ◌==◌, false, length, List, Option, Ok, slice_index, slice_set, if◌then◌else◌}
use Rattle.ia32_types.specs.declared.insn.Insn.{Insn}
use Rattle.ia32_types.specs.declared.insn.Op.TheVariants.{Iret}
use Rattle.paging.specs.Space.{Space}
use Rattle.descriptors.specs.declared.cpu.Cpu.{Cpu}
use Rattle.descriptors.specs.declared.cpu.Hidden.{Hidden}
use Rattle.event_entry.specs.declared.refusal.Kind.{Kind}
use Rattle.descriptors.specs.Segments.{seg_of}
use Rattle.event_entry.specs.Deliver.{code_len, delivered}
use Rattle.sys_exec.specs.declared.effect.SysOutcome.{SysOutcome}
use Rattle.sys_exec.specs.declared.effect.Loading.{Loading}
use Rattle.sys_exec.specs.declared.iret.Popped.{Popped}
use Rattle.sys_exec.specs.declared.iret.Outer.{Outer}
use Rattle.sys_exec.specs.Iret.{popped, popped_outer, kept_segment}
use Rattle.sys_exec.specs.Segment.{find_return}
use Rattle.sys_exec.specs.Sys.{sys_work}

-- a segment register that was loaded, at the processor's level
abbrev pub IsLoaded : Cpu → Hidden → Type 0
IsLoaded cpu hidden = hidden ≡ record { sel = hidden.sel; null = false; dpl = cpu.cpl }

-- a processor between two instructions, when an event comes
pub record IsInterrupted (cpu : Cpu) : Type 0 where
  pub registers : length cpu.regs.r ≡ 8
  pub top : slice_index cpu.regs.r 4 < 2 ^ 32
  pub flags : cpu.regs.flags.bits < 2 ^ 32
  pub segments : length cpu.seg ≡ 4
  pub level : (cpu.cpl ≡ 0) ⊎ (cpu.cpl ≡ 3)
  pub code : IsLoaded cpu (seg_of cpu 1)
  pub requested : (seg_of cpu 1).sel % 4 ≡ cpu.cpl
  pub stack : IsLoaded cpu (seg_of cpu 2)

-- EIP, CS and EFLAGS of then, and at level 3 ESP and SS of then
abbrev pub frame_of : Cpu → Popped
frame_of cpu = record { eip = cpu.regs.eip; sel = (seg_of cpu 1).sel; flags = cpu.regs.flags.bits }

abbrev pub outer_frame_of : Cpu → Outer
outer_frame_of cpu = record { top = slice_index cpu.regs.r 4; sel = (seg_of cpu 2).sel }

-- the handler at its IRET: as it was entered, with the error code taken from the stack
abbrev pub at_return : Option ℕ → Cpu → Cpu
at_return code handler =
    record handler {
      regs = record handler.regs { r = slice_set handler.regs.r 4 ((slice_index handler.regs.r 4 + code_len code) % 2 ^ 32) };
    }

-- what IRET pops is what the delivery pushed
pub record FindsFrame (cpu handler : Cpu) (s : Space) : Type 0 where
  pub frame : (p : Popped) (t : Space) → popped handler s ≡ Ok (p, t) → p ≡ frame_of cpu
  pub outer : (t u v : Space) (code : Loading) (o : Outer) →
      popped handler s ≡ Ok (frame_of cpu, t) → find_return handler (seg_of cpu 1).sel t ≡ Ok (code, u) →
      popped_outer handler u ≡ Ok (o, v) → o ≡ outer_frame_of cpu

-- ES and DS at level 3, where a segment that level 3 may not use has become null
abbrev pub user_segments : Cpu → List Hidden
user_segments cpu = slice_set (slice_set cpu.seg 0 (kept_segment 3 (seg_of cpu 0))) 3 (kept_segment 3 (seg_of cpu 3))

abbrev pub segments_after : Cpu → List Hidden
segments_after cpu = if cpu.cpl == 3 then user_segments cpu else cpu.seg

-- the processor as it was, and no longer halted
abbrev pub resumed : Cpu → Cpu
resumed cpu = record cpu { seg = segments_after cpu; halted = false }

-- Whatever event is delivered, an IRET that pops what was pushed, and is done, leaves this processor.
abbrev pub ResumesAs : Cpu → Cpu → Type 0
ResumesAs cpu after =
    (vector : ℕ) (kind : Kind) (code : Option ℕ) (handler : Cpu) (iret : Insn) (len : ℕ) (done : SysOutcome) (s t u v : Space) →
    IsInterrupted cpu →
    delivered cpu vector kind code s ≡ Ok (handler, t) →
    FindsFrame cpu (at_return code handler) u →
    iret.op ≡ Iret →
    sys_work iret len (at_return code handler) u ≡ Ok (done, v) →
    done.cpu ≡ after
