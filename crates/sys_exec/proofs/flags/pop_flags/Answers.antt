use Rattle.std.proofs.Common.{refl, sym, ◌∙◌}
use Rattle.sys_exec.specs.Flags.{pop_flags}
use Rattle.sys_exec.proofs.flags.pop_flags.Goals as goal

pub returns-clause-gives : goal.returns-clause-gives
unfolding pop_flags
returns-clause-gives g c =
    let keeps = sym c.keeps_flags.ensures ∙ c.if-not-keeps_flags.false in
    rw (c.in_ok-image.ensures.gives, keeps, c.next.ensures, c.with_flags.ensures, c.past_pop.ensures, c.new_flags-flags.ensures) refl
