use Rattle.std.proofs.Common.{ℕ, ◌+◌, ◌/◌, ◌%◌, sym, ap, ◌∙◌, arith}
use Rattle.guest_ram.specs.Bytes.{with_byte}
use Rattle.paging.specs.Space.{Space, place, written, with_ram}
use Rattle.step_mem.specs.Sound.{space}
use Rattle.step_mem.proofs.InPage.{next_place}
use Rattle.step_mem.proofs.access.save_in_page.Goals as goal

pub put_at-requires-2-clause-place : goal.put_at-requires-2-clause-place
unfolding place
put_at-requires-2-clause-place g c =
    let at : ℕ = c.args.at in
    let s = space g.B.Translations c.args.base.now c.args.ram.now c.args.state.now in
    ap (λ (p : ℕ). p + 1) c.place-physical.ensures.place
    ∙ (sym (next_place s.set at 1 c.requires.found (omega (arith, c.requires.one)))
    ∙ sym (ap (λ (t : Space). place t (at + 1)) c.put_at.ensures.after))

pub put_at-requires-3-clause-place : goal.put_at-requires-3-clause-place
unfolding place
put_at-requires-3-clause-place g c =
    let at : ℕ = c.args.at in
    let s = space g.B.Translations c.args.base.now c.args.ram.now c.args.state.now in
    let stays =
    ap (λ (t : Space). place t (at + 2)) c.put_at-2.ensures.after ∙ ap (λ (t : Space). place t (at + 2)) c.put_at.ensures.after in
    ap (λ (p : ℕ). p + 2) c.place-physical.ensures.place
    ∙ (sym (next_place s.set at 2 c.requires.found (omega (arith, c.requires.one))) ∙ sym stays)

pub put_at-requires-4-clause-place : goal.put_at-requires-4-clause-place
unfolding place
put_at-requires-4-clause-place g c =
    let at : ℕ = c.args.at in
    let s = space g.B.Translations c.args.base.now c.args.ram.now c.args.state.now in
    let stays = ap (λ (t : Space). place t (at + 3)) c.put_at-3.ensures.after
    ∙ (ap (λ (t : Space). place t (at + 3)) c.put_at-2.ensures.after ∙ ap (λ (t : Space). place t (at + 3)) c.put_at.ensures.after) in
    ap (λ (p : ℕ). p + 3) c.place-physical.ensures.place
    ∙ (sym (next_place s.set at 3 c.requires.found (omega (arith, c.requires.one))) ∙ sym stays)

pub returns-clause-saved : goal.returns-clause-saved
unfolding written place
returns-clause-saved g c =
    let at : ℕ = c.args.at in
    let v : ℕ = c.args.value in
    let put : Space → ℕ → ℕ → Space = λ s a b. with_ram s (with_byte s.ram (place s a) b) in
    c.put_at-4.ensures.after
    ∙ ap (λ (s : Space). put s (at + 3) (v / 16777216))
    (c.put_at-3.ensures.after
    ∙ ap (λ (s : Space). put s (at + 2) (v / 65536 % 256))
    (c.put_at-2.ensures.after ∙ ap (λ (s : Space). put s (at + 1) (v / 256 % 256)) c.put_at.ensures.after))
