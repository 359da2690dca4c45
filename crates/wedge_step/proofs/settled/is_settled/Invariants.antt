use Rattle.std.proofs.Common.{◌≡◌, ℕ, ◌^◌, ◌&&◌, take, true}
use Rattle.std.specs.Prelude.{nat_lt}
use Rattle.guest_ram.specs.Among.{is_among}
use Rattle.wedge_mem.specs.Settled.{serves}
use Rattle.wedge_step.proofs.settled.is_settled.Given as goal

abbrev pub invariant-loop-page : goal.invariant-loop-page
invariant-loop-page g l = (page : ℕ) → is_among page (take l.page-index l.page-items) ≡ true
    → (nat_lt page (2 ^ 20) && serves l.side l.state.control.wp (g.S.Shadows.slots l.shadows l.ram page)) ≡ true
