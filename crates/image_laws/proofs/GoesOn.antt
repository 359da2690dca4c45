-- An instruction outside sites leads to where control may come in.
use Rattle.std.proofs.Common.{◌≡◌, ℕ, ◌+◌, ◌%◌, ◌^◌, true, refl, sym, ap, subst, ◌∙◌, inl, inr}
use Rattle.ia32_types.specs.Branches.{is_direct_branch}
use Rattle.ia32_types.specs.declared.flags.Regs.{Regs}
use Rattle.ia32_types.specs.declared.insn.Insn.{Insn}
use Rattle.ia32_types.specs.declared.insn.Op.{Op}
use Rattle.ia32_types.specs.declared.insn.Op.TheVariants as op
use Rattle.ia32_exec.specs.declared.outcome.Outcome.{Outcome}
use Rattle.ia32_exec.specs.declared.outcome.Outcome.TheVariants.{Done}
use Rattle.ia32_exec.specs.declared.outcome.Stores.{Stores}
use Rattle.ia32_exec.specs.Control.{jump}
use Rattle.ia32_exec.specs.Effect.{row, effect}
use Rattle.ia32_exec.specs.EipAfter.{IsBranch, IsEipAfter, Leads, EipGoesOn}
use Rattle.image_check.specs.Image.{Image}
use Rattle.image_check.specs.Sweep.{Swept}
use Rattle.image_check.specs.Pieces.{target_of}
use Rattle.image_check.specs.Accepts.{IsAccepted}
use Rattle.image_check.specs.Places.{linear}
use Rattle.image_check.specs.Standing.{StandsOutside}
use Rattle.image_laws.specs.WaysIn.{IsWayIn}
use Rattle.image_laws.proofs.WaysOn.{next_outside, branch_way, here_way, next_address, branch_address}

goes_by : EipGoesOn → (i : Insn) (len : ℕ) (r : Regs) (b : ℕ → ℕ) (after : Regs) (stores : Stores) → effect i len r b ≡ Done after stores
    → IsEipAfter i.op i len r after.eip
goes_by goes i len r b after stores e = subst (Leads i.op i len r) e (goes i len r b)

branch_is : (o : Op) → IsBranch o → is_direct_branch o ≡ true
branch_is op.Jmp h = refl
branch_is op.Call h = refl
branch_is op.Jcc h = refl
branch_is _ h = absurd h

abbrev eip_of : Outcome → ℕ
eip_of (Done after stores) = after.eip
eip_of _ = 0

jump_done : (i : Insn) (len : ℕ) (r after : Regs) (stores : Stores) → jump i len r ≡ Done after stores
    → ((r.eip + len) % 2 ^ 32 + i.imm) % 2 ^ 32 ≡ after.eip
unfolding jump
jump_done i len r after stores e = ap eip_of e

jumps_by : (i : Insn) (len : ℕ) (r : Regs) (b : ℕ → ℕ) (after : Regs) (stores : Stores) → i.op ≡ op.Jmp
    → effect i len r b ≡ Done after stores → ((r.eip + len) % 2 ^ 32 + i.imm) % 2 ^ 32 ≡ after.eip
unfolding effect
jumps_by i len r b after stores is e = jump_done i len r after stores (ap (λ (o : Op). row o i len r b) (sym is) ∙ e)

module _ (goes : EipGoesOn) (image : Image) (h : IsAccepted image) (s : Swept) (out : StandsOutside image s) (r : Regs)
    (here : r.eip ≡ linear s.at) where
  abbrev Arrives : ℕ → Type 0
  Arrives eip = (at : ℕ) × (eip ≡ linear at) × IsWayIn image at

  next_is : (r.eip + s.len) % 2 ^ 32 ≡ linear (s.at + s.len)
  next_is = ap (λ k. (k + s.len) % 2 ^ 32) here ∙ next_address image h s out.stands

  by_branch : is_direct_branch s.insn.op ≡ true → (eip : ℕ) → eip ≡ ((r.eip + s.len) % 2 ^ 32 + s.insn.imm) % 2 ^ 32 → Arrives eip
  by_branch branch eip e = (
    target_of s.at s.len s.insn,
    e ∙ ap (λ k. (k + s.insn.imm) % 2 ^ 32) next_is ∙ branch_address image h s out.stands branch,
    branch_way image h s out.stands branch,
  )

  pub arrives : (b : ℕ → ℕ) (after : Regs) (stores : Stores) → effect s.insn s.len r b ≡ Done after stores → (at : ℕ)
      × (after.eip ≡ linear at) × IsWayIn image at
  arrives b after stores e =
      elim (next_outside image h s out) [
        | inl way ↦ elim (goes_by goes s.insn s.len r b after stores e) [
          | inl passed ↦ (s.at + s.len, passed ∙ next_is, way)
          | inr other ↦ elim other [
            | inl taken ↦ by_branch (branch_is s.insn.op taken.0) after.eip taken.1
            | inr stays ↦ (s.at, stays.1 ∙ here, here_way image h s out)
          ]
        ]
        | inr last ↦ by_branch (ap is_direct_branch last.jump) after.eip (sym (jumps_by s.insn s.len r b after stores last.jump e))
      ]
