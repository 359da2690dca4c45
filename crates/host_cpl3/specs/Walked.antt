-- How many walks a machine has done.
use Rattle.std.specs.Prelude.{ℕ}
use Rattle.host_cpl3.specs.declared.machine.Machine.{Machine}
use Rattle.host_cpl3.specs.KeptWalks.{count_of}

abbrev pub walks_of : Machine → ℕ
walks_of m = count_of m.walks
