-- The outcome of a try at the instruction at EIP, from the outcome of its fetch.
use Rattle.std.proofs.Common.{◌≡◌, ℕ, ◌==◌, List, Bool, true, false, refl, ap, subst, ◌∙◌, Option, Some, None, Ok, Err}
use Rattle.std.specs.Prelude.{Result, IfOk, IfSome}
use Rattle.ia32_types.specs.declared.insn.Insn.{Insn}
use Rattle.ia32_types.specs.declared.stop.Stop.{Stop}
use Rattle.ia32_rows.specs.Spells.{Spells}
use Rattle.ia32_decode.specs.declared.answer.Decoded.TheVariants as begins
use Rattle.paging.specs.Space.{Space}
use Rattle.board.specs.declared.devices.Board.{Board}
use Rattle.step_mem.specs.Shown.{hidden_by}
use Rattle.step_mem.specs.declared.guard.Text.{Text}
use Rattle.sys_exec.specs.declared.effect.Refusal.{Refusal}
use Rattle.machine_model.specs.Able.{IsAble}
use Rattle.machine_model.specs.Alone.{is_native}
use Rattle.machine_model.specs.Counts.{direct_in}
use Rattle.machine_model.specs.Instruction.{fetched}
use Rattle.machine_model.specs.State.{Setting, State}
use Rattle.machine_model.specs.Step.{after_fetch, after_refusal, by_decoded, fetches_next}
use Rattle.machine_step.specs.declared.worked.Worked.{Worked}
use Rattle.machine_step.specs.Worked.{ComesTo}
use Rattle.wedge_core.specs.Prepared.{PreparesAs, gone, prepared}
use Rattle.wedge_core.specs.Tries.{TriesAs, tried}
use Rattle.wedge_core.proofs.Preparing.{prepared_is, refused_as}
use Rattle.wedge_core.proofs.Uncounted.{refused_none, others_uncounted}

module _ (m : Setting) (b : State) (s : Space) where
  -- the fetch is refused
  refused_next : (r : Refusal) (u : Space) → fetched (b.cpu.cpl == 3) b.cpu.regs.eip s ≡ Err (r, u)
      → fetches_next m b s ≡ after_refusal m b r u
  refused_next r u e = ap (after_fetch m b) e

  pub tried_refused : (r : Refusal) (u : Space) (w : Result Worked Stop) (board : Board) (t : Space)
      → fetched (b.cpu.cpl == 3) b.cpu.regs.eip s ≡ Err (r, u)
      → ComesTo (after_refusal m b r u) b w board t → TriesAs m b s (gone w) board t
  tried_refused r u (Ok worked) board t e came =
      (refused_next r u e ∙ came, λ others sites. ap (direct_in sites) (refused_none m b r u worked board t came))
  tried_refused r u (Err stop) board t e came = refused_next r u e ∙ came

  -- an instruction is fetched
  module _ (insn : Insn) (len : ℕ) (u : Space) (e : fetched (b.cpu.cpl == 3) b.cpu.regs.eip s ≡ Ok (begins.Insn insn len, u)) where
    next_is : fetches_next m b s ≡ by_decoded m b (begins.Insn insn len) u
    next_is = ap (after_fetch m b) e

    pub tried_prepared : (r : Result (Option Worked) Stop) (t : Space) → is_native (b.cpu.cpl == 3) insn.op ≡ true
        → PreparesAs m b insn len u r t → TriesAs m b s r b.board t
    tried_prepared (Ok (Some worked)) t native p = (next_is ∙ p.0, λ others sites. ap (direct_in sites) p.1)
    tried_prepared (Ok None) t native p = (refl, prepared_is b s u t insn len e native p)
    tried_prepared (Err stop) t native p = next_is ∙ p

    pub tried_other : (w : Result Worked Stop) (board : Board) (t : Space) → is_native (b.cpu.cpl == 3) insn.op ≡ false
        → ComesTo (by_decoded m b (begins.Insn insn len) u) b w board t
        → TriesAs m b s (gone w) board t
    tried_other (Ok worked) board t native came =
        (next_is ∙ came, λ others sites. others_uncounted m b insn len u native (others insn len u e native) worked board t came sites)
    tried_other (Err stop) board t native came = next_is ∙ came

-- what is refused after the fetch, where the host would have done it
pub prepares_refused : (m : Setting) (b : State) (insn : Insn) (len : ℕ) (s : Space) → IsAble b.cpu
    → is_native (b.cpu.cpl == 3) insn.op ≡ true → ((found : List ℕ) × Spells found insn)
    → (r : Refusal) (u : Space) (w : Result Worked Stop) (t : Space) → prepared insn len b.cpu s ≡ Err (r, u)
    → ComesTo (after_refusal m b r u) b w b.board t → PreparesAs m b insn len s (gone w) t
prepares_refused m b insn len s able native spelled r u (Ok worked) t e came =
    (refused_as m b insn len s able native spelled r u e ∙ came, refused_none m b r u worked b.board t came)
prepares_refused m b insn len s able native spelled r u (Err stop) t e came = refused_as m b insn len s able native spelled r u e ∙ came

-- ---- what holds of a step that went, of which the host does nothing

pub if_gone : (fact : Type 0) (w : Result Worked Stop) → IfOk w (λ _. fact) → IfOk (gone w) (λ _. fact)
if_gone fact (Ok worked) h = h
if_gone fact (Err stop) h = tt

pub of_gone : (fact : Worked → Type 0) (w : Result Worked Stop) → IfOk w fact → IfOk (gone w) (λ o. IfSome o fact)
of_gone fact (Ok worked) h = h
of_gone fact (Err stop) h = tt

-- the same of the answer, where a step that went is recorded in its place
pub by_tried : (fact : Type 0) (r : Result Bool Stop) (w : Worked) → IfOk (tried r w) (λ _. fact) → IfOk r (λ _. fact)
by_tried fact (Ok true) w h = h
by_tried fact (Ok false) w h = h
by_tried fact (Err stop) w h = tt

pub went_tries : (m : Setting) (b : State) (s : Space) (went : Bool) (w : Worked) (board : Board) (t : Space) → went ≡ true
    → TriesAs m b s (tried (Ok went) w) board t → TriesAs m b s (Ok (Some w)) board t
went_tries m b s true w board t e h = h
went_tries m b s false w board t e h = absurd (let f : false ≡ true = e in cc)

pub asks_tries : (m : Setting) (b : State) (s : Space) (went : Bool) (w : Worked) (board : Board) (t : Space) → went ≡ false
    → TriesAs m b s (tried (Ok went) w) board t → TriesAs m b s (Ok None) board t
asks_tries m b s false w board t e h = h
asks_tries m b s true w board t e h = absurd (let f : true ≡ false = e in cc)

pub of_went : (fact : Worked → Type 0) (went : Bool) (w : Worked) → went ≡ true → IfOk (tried (Ok went) w) (λ o. IfSome o fact) → fact w
of_went fact true w e h = h
of_went fact false w e h = absurd (let f : false ≡ true = e in cc)

-- what is hidden stays so over both parts of a step
pub hidden_on : (first last : Option Text) (frames count : ℕ) (old mid new : List ℕ) → last ≡ first → count ≡ frames
    → hidden_by first frames mid ≡ hidden_by first frames old → hidden_by last count new ≡ hidden_by last count mid
    → hidden_by first frames new ≡ hidden_by first frames old
hidden_on first last frames count old mid new text same before after =
    subst (λ (t : Option Text). hidden_by t frames new ≡ hidden_by t frames mid) text
    (subst (λ (n : ℕ). hidden_by last n new ≡ hidden_by last n mid) same after) ∙ before
