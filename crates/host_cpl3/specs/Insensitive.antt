-- The instructions whose effect is the same at each level.
use Rattle.std.specs.Prelude.{Bool, true, false}
use Rattle.ia32_types.specs.declared.insn.Op.{Op}
use Rattle.ia32_types.specs.declared.insn.Op.TheVariants.{ReadSeg, PushSeg, Return, JumpTo, CallTo}

abbrev pub is_insensitive : Op → Bool
is_insensitive Return = false
is_insensitive JumpTo = false
is_insensitive CallTo = false
is_insensitive ReadSeg = false
is_insensitive PushSeg = false
is_insensitive _ = true
