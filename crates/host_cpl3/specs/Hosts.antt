-- How a host is seen over a run.
use Rattle.std.specs.Prelude.{ℕ, List, [], Option, Some, None}
use Rattle.ia32_types.specs.declared.flags.Regs.{Regs}
use Rattle.host_cpl3.specs.HostRun.{Standing}

abbrev pub standing : Regs → List ℕ → ℕ → ℕ → Standing
standing regs ram retired passed = record { regs = regs; ram = ram; retired = retired; passed = passed }

-- the bytes of memory, if there is one
abbrev pub held : Option (List ℕ) → List ℕ
held None = []
held (Some m) = m
