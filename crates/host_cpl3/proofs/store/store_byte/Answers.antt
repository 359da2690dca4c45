use Rattle.std.proofs.Common.{ℕ, List, sym, ap, ◌∙◌, subst}
use Rattle.guest_ram.specs.Bytes.{with_byte}
use Rattle.host_cpl3.specs.KeptWalks.{SameBut}
use Rattle.host_cpl3.proofs.Writing.{but_byte}
use Rattle.host_cpl3.proofs.store.store_byte.Goals as goal

pub returns-clause-same : goal.returns-clause-same
returns-clause-same c =
    let a = c.args in
    subst (λ (m : List ℕ). SameBut a.ram.now m a.reach.now.first a.reach.now.last)
    (sym (c.write8.ensures.memory ∙ ap (λ p. with_byte a.ram.now p a.value) c.placed.ensures))
    (but_byte a.ram.now a.reach.now a.at a.value c.requires)
