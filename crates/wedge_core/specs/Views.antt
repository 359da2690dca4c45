-- When the host may do the next instruction, and through which view.
use Rattle.std.specs.Prelude.{ℕ, Bool, true, false, ◌==◌, ◌&&◌, ◌||◌, not, is_none}
use Rattle.descriptors.specs.declared.cpu.Cpu.{Cpu}
use Rattle.board.specs.declared.devices.Board.{Board}
use Rattle.image_check.specs.Image.{Image}
use Rattle.image_check.specs.declared.place.AtOffset.{AtOffset}
use Rattle.image_check.specs.declared.place.AtOffset.TheVariants.{NotAStart, Outside, Inside}
use Rattle.image_check.specs.Standing.{place_at}
use Rattle.descriptors.specs.Segments.{seg_of}
use Rattle.shadow_tables.specs.declared.words.Side.{Side}
use Rattle.host_cpl3.specs.declared.view.View.{View}
use Rattle.machine_model.specs.Step.{interrupt_of}
use Rattle.wedge_step.specs.Standing.{side_of}

abbrev pub is_outside : AtOffset → Bool
is_outside NotAStart = false
is_outside Outside = true
is_outside (Inside site) = false

-- the processor takes no interrupt and is awake, and at level 0 it stands at a start outside sites
abbrev pub may_run : Cpu → Board → Image → Bool
may_run cpu board image = (not cpu.halted && is_none (interrupt_of cpu board)) && (cpu.cpl == 3 || is_outside (place_at image cpu.regs.eip))

-- the view of a processor, by the roots of both
abbrev pub view_by : (Side → ℕ) → Cpu → View
view_by directory cpu =
    record {
      kernel = not (cpu.cpl == 3);
      root = directory (side_of (cpu.cpl == 3));
      cs = (seg_of cpu 1).sel;
      ss = (seg_of cpu 2).sel;
      ds = (seg_of cpu 3).sel;
      es = (seg_of cpu 0).sel;
      ds_null = (seg_of cpu 3).null;
      es_null = (seg_of cpu 0).null;
    }
