use Rattle.std.proofs.Common.{refl, sym, ◌∙◌, rules}
use Rattle.sys_exec.specs.Iret.{return_same}
use Rattle.sys_exec.proofs.iret.return_same.Goals as goal

pub returns-clause-gives : goal.returns-clause-gives
unfolding return_same
returns-clause-gives g c =
    let keeps = sym c.keeps_flags.ensures ∙ c.if-not-keeps_flags.false in
    rw (keeps, c.in_ok-mark_loaded.ensures.gives, c.returned.ensures) refl

pub returns-then-not-keeps_flags-clause-gives : goal.returns-then-not-keeps_flags-clause-gives
unfolding return_same
returns-then-not-keeps_flags-clause-gives g c = let foreign = sym c.keeps_flags.ensures ∙ c.if-not-keeps_flags.true in rw foreign refl

pub returns-in_err-mark_loaded-clause-gives : goal.returns-in_err-mark_loaded-clause-gives
unfolding return_same
returns-in_err-mark_loaded-clause-gives g c =
    let keeps = sym c.keeps_flags.ensures ∙ c.if-not-keeps_flags.false in
    rw (keeps, c.in_err-mark_loaded.ensures.gives) (search rules)

pub mark_loaded-requires : goal.mark_loaded-requires
mark_loaded-requires g c = c.requires
