-- What holds of a processor at the start of a run and after every step.
use Rattle.std.specs.Prelude.{◌≡◌, ◌⊎◌, ℕ, ◌+◌, true, false, nat_lt, All, bit_and}
use Rattle.descriptors.specs.declared.cpu.Cpu.{Cpu}
use Rattle.descriptors.specs.declared.cpu.Hidden.{Hidden}
use Rattle.descriptors.specs.Controls.{control_0_needed, control_0_refused, control_3_refused}
use Rattle.descriptors.specs.declared.controls.TheConstants.{CR0_ET, CR4_PSE}
use Rattle.descriptors.specs.Segments.{seg_of}

-- of the four levels of privilege these are used
abbrev pub IsLevel : ℕ → Type 0
IsLevel level = (level ≡ 0) ⊎ (level ≡ 3)

-- a selector below 4 is null, and no other
pub record IsSegment (segment : Hidden) : Type 0 where
  pub null : segment.null ≡ nat_lt segment.sel 4
  pub level : IsLevel segment.dpl

-- the segments of code and stack are of the processor's level
pub record IsOfLevel (cpu : Cpu) (segment : Hidden) : Type 0 where
  pub there : segment.null ≡ false
  pub level : segment.dpl ≡ cpu.cpl

-- bit 1 is 1, and of the others only CF, PF, AF, ZF, SF, IF, DF, OF and the two bits of IOPL may be set
pub record AreFlags (bits : ℕ) : Type 0 where
  pub fixed : bit_and bits 2 ≡ 2
  pub others : bit_and bits 0xFFFFC128 ≡ 0

-- the values that MOV to a control register takes: paging and protection are on, CR0.ET is 1, and of CR4 only PSE
-- may be set
pub record AreControls (cpu : Cpu) : Type 0 where
  pub on : bit_and cpu.cr0 (control_0_needed + CR0_ET) ≡ control_0_needed + CR0_ET
  pub others : bit_and cpu.cr0 control_0_refused ≡ 0
  pub directory : bit_and cpu.cr3 control_3_refused ≡ 0
  pub extensions : (cpu.cr4 ≡ 0) ⊎ (cpu.cr4 ≡ CR4_PSE)

pub record Fit (cpu : Cpu) : Type 0 where
  pub level : IsLevel cpu.cpl
  pub segments : All IsSegment cpu.seg
  pub code : IsOfLevel cpu (seg_of cpu 1)
  pub stack : IsOfLevel cpu (seg_of cpu 2)
  pub flags : AreFlags cpu.regs.flags.bits
  pub controls : AreControls cpu
  pub halted : cpu.halted ≡ true → cpu.cpl ≡ 0
