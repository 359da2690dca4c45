use Rattle.std.proofs.Common.{◌≡◌, ℕ, true, refl, ap, rules, ◌∙◌}
use Rattle.std.specs.Prelude.{◌==◌}
use Rattle.sys_exec.specs.Table.{load_tr}
use Rattle.sys_exec.proofs.Pages.{none, wider, further, has, has_after}
use Rattle.sys_exec.proofs.table.load_tr.Goals as goal

pub returns-clause-gives : goal.returns-clause-gives
unfolding load_tr
returns-clause-gives g c =
    let kernel : (c.args.cpu.now.cpl == 0) ≡ true = ap (λ (cpl : ℕ). cpl == 0) c.if-cpu-ne0.false in
    rw (kernel, c.in_ok-sel.ensures.gives, c.in_ok-after.ensures.gives, c.next.ensures, c.past-after.ensures) refl

pub returns-in_err-sel-clause-gives : goal.returns-in_err-sel-clause-gives
unfolding load_tr
returns-in_err-sel-clause-gives g c =
    let kernel : (c.args.cpu.now.cpl == 0) ≡ true = ap (λ (cpl : ℕ). cpl == 0) c.if-cpu-ne0.false in
    rw (kernel, c.in_err-sel.ensures.gives) (search rules)

pub returns-in_err-after-clause-gives : goal.returns-in_err-after-clause-gives
unfolding load_tr
returns-in_err-after-clause-gives g c =
    let kernel : (c.args.cpu.now.cpl == 0) ≡ true = ap (λ (cpl : ℕ). cpl == 0) c.if-cpu-ne0.false in
    rw (kernel, c.in_ok-sel.ensures.gives, c.in_err-after.ensures.gives) (search rules)

pub selector-requires : goal.selector-requires
selector-requires g c = has 56 6 _ c.requires

pub load_task-requires : goal.load_task-requires
load_task-requires g c = has_after 56 2 2 _ _ c.requires c.in_ok-sel.ensures.pages

pub returns-then-cpu-ne0-clause-pages : goal.returns-then-cpu-ne0-clause-pages
returns-then-cpu-ne0-clause-pages g c = none 6 _

pub returns-in_err-sel-clause-pages : goal.returns-in_err-sel-clause-pages
returns-in_err-sel-clause-pages g c = wider 2 4 _ _ c.in_err-sel.ensures.pages

pub returns-in_err-after-clause-pages : goal.returns-in_err-after-clause-pages
returns-in_err-after-clause-pages g c = further 2 4 _ _ _ c.in_ok-sel.ensures.pages c.in_err-after.ensures.pages

pub returns-in_err-after-clause-frame : goal.returns-in_err-after-clause-frame
returns-in_err-after-clause-frame g c = c.in_err-after.ensures.frame ∙ c.in_ok-sel.ensures.frame

pub returns-clause-pages : goal.returns-clause-pages
returns-clause-pages g c = further 2 4 _ _ _ c.in_ok-sel.ensures.pages c.in_ok-after.ensures.pages

pub returns-clause-frame : goal.returns-clause-frame
returns-clause-frame g c = c.in_ok-after.ensures.frame ∙ c.in_ok-sel.ensures.frame
