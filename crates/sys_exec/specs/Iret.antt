-- IRET, in its order: what is popped, the code segment, an outer stack, the image of the flags, accessed flags. Intel SDM
-- volume 2, IRET; the order is the profile.
use Rattle.std.specs.Prelude.{ℕ, ◌+◌, ◌/◌, ◌%◌, ◌^◌, Bool, true, false, ◌==◌, nat_lt, nat_le, if◌then◌else◌, slice_index, slice_set, List, not}
use Rattle.ia32_types.specs.declared.size.Size.TheVariants.{Long}
use Rattle.ia32_types.specs.declared.flags.Flags.{Flags}
use Rattle.ia32_types.specs.declared.stop.Stop.TheVariants as stops
use Rattle.ia32_types.specs.Bits.{bit}
use Rattle.ia32_types.specs.declared.flags.TheConstants.{INTERRUPT_AT}
use Rattle.ia32_types.specs.Flags.{flag_put}
use Rattle.ia32_exec.specs.Stack.{is_foreign, taken}
use Rattle.paging.specs.Work.{Work, ◌>>=◌, gives, unless, reads}
use Rattle.descriptors.specs.declared.controls.TheConstants.{EFLAGS_IOPL}
use Rattle.descriptors.specs.Segments.{seg_of}
use Rattle.descriptors.specs.declared.cpu.Cpu.{Cpu}
use Rattle.descriptors.specs.declared.cpu.Hidden.{Hidden}
use Rattle.descriptors.specs.Access.{by_level}
use Rattle.sys_exec.specs.declared.effect.Refusal.{Refusal}
use Rattle.sys_exec.specs.declared.effect.Refusal.TheVariants.{Stop}
use Rattle.sys_exec.specs.declared.effect.Loading.{Loading}
use Rattle.sys_exec.specs.declared.iret.Popped.{Popped}
use Rattle.sys_exec.specs.declared.iret.Outer.{Outer}
use Rattle.sys_exec.specs.Access.{reaching}
use Rattle.sys_exec.specs.Segment.{find_return, find_stack, marked}

abbrev pub top_of : Cpu → ℕ
top_of cpu = slice_index cpu.regs.r 4

unfoldable pub popped : Cpu → Work Refusal Popped
popped cpu = do
  _ ← reaching (top_of cpu) 12 (by_level cpu false)
  eip ← reads (top_of cpu) Long
  sel ← reads (top_of cpu + 4) Long
  flags ← reads (top_of cpu + 8) Long
  gives (record { eip = eip; sel = sel % 0x10000; flags = flags })

unfoldable pub popped_outer : Cpu → Work Refusal Outer
popped_outer cpu = do
  _ ← reaching ((top_of cpu + 12) % 2 ^ 32) 8 (by_level cpu false)
  top ← reads ((top_of cpu + 12) % 2 ^ 32) Long
  sel ← reads ((top_of cpu + 12) % 2 ^ 32 + 4) Long
  gives (record { top = top; sel = sel % 0x10000 })

-- an image that sets none of the flags that aren't kept
abbrev pub keeps_flags : ℕ → Bool
keeps_flags image = not (is_foreign image)

-- the level is within IOPL
abbrev pub is_within : Cpu → Bool
is_within cpu = nat_le cpu.cpl (cpu.regs.flags.bits / EFLAGS_IOPL % 4)

-- IF is popped where the level is within IOPL
abbrev pub with_interrupt : Cpu → Flags → ℕ → Flags
with_interrupt cpu flags image = if is_within cpu then flag_put flags INTERRUPT_AT (bit image INTERRUPT_AT) else flags

-- IOPL is popped at level 0
abbrev pub with_level : Cpu → Flags → ℕ → Flags
with_level cpu flags image =
    if cpu.cpl == 0 then flag_put (flag_put flags 12 (bit image 12)) 13 (bit image 13) else flags

unfoldable pub new_flags : Cpu → ℕ → Flags
new_flags cpu image = with_level cpu (with_interrupt cpu (taken cpu.regs.flags image) image) image

abbrev pub returned : Cpu → Popped → ℕ → ℕ → List Hidden → Cpu
returned cpu p top cpl seg =
    record cpu {
      regs = record {
        r = slice_set cpu.regs.r 4 top;
        eip = p.eip;
        flags = new_flags cpu p.flags;
      };
      cpl = cpl;
      seg = seg;
    }

-- a data segment that the outer level may not use becomes null
abbrev pub kept_segment : ℕ → Hidden → Hidden
kept_segment cpl hidden = if nat_lt hidden.dpl cpl then record { sel = 0; null = true; dpl = 0 } else hidden

abbrev pub outer_segments : Cpu → ℕ → Hidden → Hidden → List Hidden
outer_segments cpu cpl code stack =
    slice_set (slice_set (slice_set (slice_set cpu.seg 0 (kept_segment cpl (seg_of cpu 0))) 3 (kept_segment cpl (seg_of cpu 3))) 1 code) 2
    stack

unfoldable pub return_same : Cpu → Popped → Loading → Work Refusal Cpu
return_same cpu p code = do
  _ ← unless (Stop stops.FlagBits) (keeps_flags p.flags)
  _ ← marked cpu code
  gives (returned cpu p ((top_of cpu + 12) % 2 ^ 32) cpu.cpl (slice_set cpu.seg 1 code.hidden))

unfoldable pub return_outer : Cpu → Popped → Loading → Work Refusal Cpu
return_outer cpu p code = do
  outer ← popped_outer cpu
  stack ← find_stack cpu (p.sel % 4) outer.sel
  _ ← unless (Stop stops.FlagBits) (keeps_flags p.flags)
  _ ← marked cpu code
  _ ← marked cpu stack
  gives (returned cpu p outer.top (p.sel % 4) (outer_segments cpu (p.sel % 4) code.hidden stack.hidden))

unfoldable pub interrupt_return : Cpu → Work Refusal Cpu
interrupt_return cpu = do
  p ← popped cpu
  code ← find_return cpu p.sel
  if nat_lt cpu.cpl (p.sel % 4) then return_outer cpu p code else return_same cpu p code
