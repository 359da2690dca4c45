-- A step that goes on by a refusal completes nothing, and one whose instruction the host doesn't do completes nothing direct.
use Rattle.std.proofs.Common.{◌≡◌, ◌⊎◌, ℕ, ◌==◌, true, false, List, [], None}
use Rattle.ia32_types.specs.declared.insn.Insn.{Insn}
use Rattle.ia32_decode.specs.declared.answer.Decoded.TheVariants as begins
use Rattle.paging.specs.Space.{Space}
use Rattle.sys_exec.specs.declared.effect.Refusal.{Refusal}
use Rattle.board.specs.declared.devices.Board.{Board}
use Rattle.sites.specs.declared.site.Site.{Site}
use Rattle.machine_model.specs.State.{Setting, State}
use Rattle.machine_model.specs.Step.{by_decoded, after_refusal}
use Rattle.machine_model.specs.Alone.{IsUser, is_native}
use Rattle.machine_model.specs.Counts.{is_software, direct_in}
use Rattle.machine_model.proofs.Completing.{refused_completes}
use Rattle.machine_model.proofs.CountingNone.{others_read}
use Rattle.machine_step.specs.declared.worked.Worked.{Worked}
use Rattle.machine_step.specs.Worked.{went_as, completed_by}

-- a refusal completes nothing
pub refused_none : (m : Setting) (b : State) (r : Refusal) (s : Space) (worked : Worked) (board : Board) (t : Space)
    → after_refusal m b r s ≡ went_as b worked board t → completed_by worked.completed ≡ None
refused_none m b r s worked board t e = refused_completes m b r s _ _ e

-- what a user's processor doesn't do by itself, INT and INT3 complete nothing direct
pub others_uncounted : (m : Setting) (b : State) (insn : Insn) (len : ℕ) (s : Space) → is_native (b.cpu.cpl == 3) insn.op ≡ false
    → IsUser b.cpu ⊎ (is_software insn.op ≡ true)
    → (worked : Worked) (board : Board) (t : Space) → by_decoded m b (begins.Insn insn len) s ≡ went_as b worked board t
    → (sites : List Site) → direct_in sites (completed_by worked.completed) ≡ []
others_uncounted m b insn len s native h worked board t e sites = others_read m b insn len s native h _ _ e sites
