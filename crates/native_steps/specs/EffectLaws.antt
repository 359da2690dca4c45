-- What the laws of instructions say of the outcome of one.
use Rattle.ia32_exec.specs.FlagsAfter.{SystemFlagsStay}
use Rattle.ia32_exec.specs.SameBytes.{SameOverRanges}
use Rattle.sys_exec.specs.Agreement.{UserFlagsAgree}

pub record EffectLaws : Type 0 where
  pub agree : UserFlagsAgree
  pub stay : SystemFlagsStay
  pub same : SameOverRanges
