use Rattle.std.proofs.Common.{◌≡◌, fold, take}
use Rattle.asm_source.specs.Names.{added, argument_names}
use Rattle.afterburner.proofs.names.add_arguments.Given as goal

abbrev pub invariant-loop-argument : goal.invariant-loop-argument
invariant-loop-argument l = l.names ≡ fold added l.fn.names (argument_names (take l.argument-index l.arguments))
