-- Which flags of the control registers may be set (profile), and the two that decide how memory is reached. Intel SDM
-- volume 3, control registers. The flags are constants of src/controls.rt, numbers with one bit each.
use Rattle.std.specs.Prelude.{ℕ, ◌+◌, ◌-◌, Bool}
use Rattle.paging.specs.Fresh.{has}
use Rattle.descriptors.specs.declared.controls.TheConstants.{CR0_PE, CR0_MP, CR0_EM, CR0_TS, CR0_ET, CR0_NE, CR0_WP, CR0_AM, CR0_PG, CR3_PWT, CR3_PCD, CR4_PSE}
use Rattle.descriptors.specs.declared.cpu.Cpu.{Cpu}

-- of a value for CR0 these must be set
abbrev pub control_0_needed : ℕ
control_0_needed = CR0_PE + CR0_PG

-- and these may be
abbrev pub control_0_admitted : ℕ
control_0_admitted = control_0_needed + (CR0_MP + CR0_EM + CR0_TS + CR0_ET + CR0_NE + CR0_WP + CR0_AM)

-- and no other
abbrev pub control_0_refused : ℕ
control_0_refused = 0xFFFF_FFFF - control_0_admitted

-- of a value for CR3, below the number of its frame, no bit may be set but PWT and PCD
abbrev pub control_3_refused : ℕ
control_3_refused = 0xFFF - (CR3_PWT + CR3_PCD)

abbrev pub wp_of : Cpu → Bool
wp_of cpu = has cpu.cr0 CR0_WP

abbrev pub pse_of : Cpu → Bool
pse_of cpu = has cpu.cr4 CR4_PSE
