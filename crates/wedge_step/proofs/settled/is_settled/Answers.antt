use Rattle.std.proofs.Common.{◌≡◌, ℕ, zero, ◌^◌, ◌&&◌, Bool, List, [], ◌∷◌, length, refl, sym, ap, ◌∙◌, arith}
use Rattle.std.specs.Prelude.{nat_lt}
use Rattle.guest_ram.specs.Among.{is_among}
use Rattle.wedge_mem.specs.Settled.{serves}
use Rattle.wedge_step.proofs.UsedPages.{each_more, each_all, each_none}
use Rattle.wedge_step.proofs.settled.is_settled.Given.{Over}
use Rattle.wedge_step.proofs.settled.is_settled.Goals as goal

none_in : {A : Type 0} (xs : List A) → length xs ≡ 0 → xs ≡ []
none_in [] e = refl
none_in (x ∷ xs) e = absurd (omega (arith, e))

pub loop-page-init : goal.loop-page-init
loop-page-init g c =
    each_none (λ (page : ℕ). nat_lt page (2 ^ 20) && serves c.args.side c.args.state.now.control.wp
    (g.S.Shadows.slots c.args.shadows.now c.args.ram.now page)) c.as_slice-page-items.result.now

pub loop-page-preserved : goal.loop-page-preserved
loop-page-preserved g c =
    each_more (λ (page : ℕ). nat_lt page (2 ^ 20) && serves c.args.side c.args.state.now.control.wp
    (g.S.Shadows.slots c.args.shadows.now c.args.ram.now page)) c.as_slice-page-items.result.now c.loop-page.page-index
    c.loop-page-test.true (sym c.is_held.ensures ∙ c.if-not-is_held.false) c.loop-page.invariant

pub returns : goal.returns
returns g c = λ _. record {
  unchanged = none_in _ (c.is_unchanged.ensures.changes c.if-not-is_unchanged.false);
  unread = none_in _ (c.is_unchanged.ensures.tables c.if-not-is_unchanged.false);
  unwritten = none_in _ (c.is_unchanged.ensures.wrote c.if-not-is_unchanged.false);
  served = λ page there.
      each_all (λ (page : ℕ). nat_lt page (2 ^ 20) && serves c.args.side c.args.state.now.control.wp
      (g.S.Shadows.slots c.args.shadows.now c.args.ram.now page)) c.as_slice-page-items.result.now c.loop-page.page-index
      c.loop-page-test.false c.loop-page.invariant page (ap (is_among page) c.as_slice-page-items.ensures ∙ there);
}
