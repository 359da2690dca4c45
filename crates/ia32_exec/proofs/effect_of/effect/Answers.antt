use Rattle.ia32_exec.specs.Effect.{effect, ranges_of}
use Rattle.std.proofs.Common.{rules}
use Rattle.ia32_exec.proofs.effect_of.effect.Goals as goal

pub returns-in-Push : goal.returns-in-Push
unfolding effect ranges_of
returns-in-Push g c = search rules
