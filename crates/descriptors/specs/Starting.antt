-- The guest's memory as a step begins.
use Rattle.std.specs.Prelude.{ℕ, false, List, []}
use Rattle.std.specs.FinMap.{FinMap}
use Rattle.std.specs.Ordering.{nat_cmp}
use Rattle.paging.specs.declared.entry.Entry.{Entry}
use Rattle.paging.specs.Space.{Mode, Space}
use Rattle.descriptors.specs.declared.cpu.Cpu.{Cpu}
use Rattle.descriptors.specs.Controls.{wp_of, pse_of}

-- memory as a step of this processor reaches it, before its first access: nothing is used or ready
abbrev pub space_at_start : Mode → ℕ → Cpu → List ℕ → FinMap nat_cmp Entry → Space
space_at_start mode frames cpu ram set =
    record {
      ram = ram;
      frames = frames;
      set = set;
      cr3 = cpu.cr3;
      pse = pse_of cpu;
      wp = wp_of cpu;
      mode = mode;
      pages = 0;
      visited = [];
      tables = [];
      wrote = [];
      ready = record { start = 0; len = 0; write = false };
      earlier = record { start = 0; len = 0; set = set };
    }
