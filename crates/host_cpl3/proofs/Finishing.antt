-- What an instruction writes lies in its write range, and goes where the view's tables say.
use Rattle.std.proofs.Common.{◌≡◌, ℕ, List, length}
use Rattle.ia32_types.specs.declared.flags.Regs.{Regs}
use Rattle.ia32_types.specs.declared.insn.Insn.{Insn}
use Rattle.ia32_exec.specs.declared.outcome.Stores.{Stores}
use Rattle.ia32_exec.specs.declared.outcome.Outcome.TheVariants.{Done}
use Rattle.ia32_exec.specs.declared.selectors.Selectors.{Selectors}
use Rattle.ia32_exec.specs.Outcomes.{AreStored}
use Rattle.ia32_exec.specs.Effect.{ranges_of}
use Rattle.ia32_exec.specs.UserEffect.{user_effect}
use Rattle.ia32_exec.proofs.UserWithin.{within_user}
use Rattle.host_cpl3.specs.declared.reach.Reach.{Reach}
use Rattle.host_cpl3.specs.Pages.{place}
use Rattle.host_cpl3.specs.Reaches.{placed, IsReach, IsOf, IsWritten}
use Rattle.host_cpl3.proofs.Reading.{written, parts_stored}

pub finish_stores : (m : List ℕ) (root : ℕ) (g : Selectors) (i : Insn) (len : ℕ) (r : Regs) (b : ℕ → ℕ) (regs : Regs)
    (ws : Stores) (y : Reach)
    → Done regs ws ≡ user_effect g i len r b → IsReach m root y → IsOf (ranges_of i r).write y
    → AreStored (IsWritten (length m) y) ws × AreStored (λ at. placed y at ≡ place m root at) ws
finish_stores m root g i len r b regs ws y e hy of =
    parts_stored (IsWritten (length m) y) (λ at. placed y at ≡ place m root at) ws
    (within_user (λ at. IsWritten (length m) y at × (placed y at ≡ place m root at)) g i len r b (Done regs ws) e
    (written m root y (ranges_of i r).write hy of))
