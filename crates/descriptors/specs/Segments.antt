-- The segment registers of a processor, and where their descriptors lie.
use Rattle.std.specs.Prelude.{ℕ, ◌+◌, ◌*◌, ◌/◌, ◌%◌, ◌^◌, false, slice_index_or}
use Rattle.ia32_types.specs.declared.register.Seg.{Seg}
use Rattle.ia32_types.specs.Register.{segment_number}
use Rattle.descriptors.specs.declared.cpu.Cpu.{Cpu}
use Rattle.descriptors.specs.declared.cpu.Hidden.{Hidden}

-- a segment register by its number
abbrev pub seg_of : Cpu → ℕ → Hidden
seg_of cpu k = slice_index_or cpu.seg k (record { sel = 0; null = false; dpl = 0 })

-- a segment register stands in the processor at its number
abbrev pub segment_in : Cpu → Seg → Hidden
segment_in cpu seg = seg_of cpu (segment_number seg)

-- where a selector's descriptor lies
abbrev pub slot : Cpu → ℕ → ℕ
slot cpu sel = (cpu.gdt.base + sel / 8 * 8) % 2 ^ 32
