-- What an instruction asks of the machine is in range: a page that is to be dropped is one of the 2^20, a directory
-- index one of the 2^10, and a narrow access writes a byte.
use Rattle.std.specs.Prelude.{◌≡◌, ◌^◌, ◌<◌, false, Result, Ok, Err}
use Rattle.sys_exec.specs.declared.effect.Refusal.{Refusal}
use Rattle.sys_exec.specs.declared.effect.SysEffect.{SysEffect}
use Rattle.sys_exec.specs.declared.effect.SysEffect.TheVariants.{DropPage, DropDir, PortOut}
use Rattle.sys_exec.specs.declared.effect.SysOutcome.{SysOutcome}

abbrev pub IsAsked : SysEffect → Type 0
IsAsked (DropPage page) = page < 2 ^ 20
IsAsked (DropDir index) = index < 2 ^ 10
IsAsked (PortOut port wide value) = wide ≡ false → value < 256
IsAsked _ = Unit {0}

abbrev pub GivesAsked : Result SysOutcome Refusal → Type 0
GivesAsked (Ok done) = IsAsked done.effect
GivesAsked (Err refusal) = Unit {0}
