use Rattle.std.proofs.Common.{rules, ◌%◌, ◌∙◌}
use Rattle.std.proofs.lemmas.Bool.{le-ltb, lt-ltb}
use Rattle.sys_exec.specs.Iret.{interrupt_return}
use Rattle.sys_exec.proofs.Pages.{wider, further, has, has_after}
use Rattle.sys_exec.proofs.Purposes.{for_return}
use Rattle.sys_exec.proofs.iret.interrupt_return.Goals as goal

pub returns-in_err-code-clause-gives : goal.returns-in_err-code-clause-gives
unfolding interrupt_return
returns-in_err-code-clause-gives g c = rw (c.in_ok-p.ensures.gives, c.in_err-code.ensures.gives) (search rules)

pub returns-then-from-p-clause-gives : goal.returns-then-from-p-clause-gives
unfolding interrupt_return
returns-then-from-p-clause-gives g c =
    rw (
      c.in_ok-p.ensures.gives,
      c.in_ok-code.ensures.gives,
      lt-ltb c.args.cpu.now.cpl (c.in_ok-p.p.sel % 4) (rw c.from.ensures at c.if-from-p.true),
    ) c.return_outer.ensures.gives

pub returns-clause-gives : goal.returns-clause-gives
unfolding interrupt_return
returns-clause-gives g c =
    rw (
      c.in_ok-p.ensures.gives,
      c.in_ok-code.ensures.gives,
      le-ltb c.args.cpu.now.cpl (c.in_ok-p.p.sel % 4) (rw c.from.ensures at c.if-from-p.false),
    ) c.return_same.ensures.gives

pub pop-requires : goal.pop-requires
pop-requires g c = has 50 12 _ c.requires

pub find-requires-clause-above : goal.find-requires-clause-above
find-requires-clause-above g c = for_return _

pub find-requires-clause-room : goal.find-requires-clause-room
find-requires-clause-room g c = has_after 50 2 10 _ _ c.requires c.in_ok-p.ensures.pages

pub return_outer-requires : goal.return_outer-requires
return_outer-requires g c = has_after 50 4 2 _ _ c.requires (further 2 2 _ _ _ c.in_ok-p.ensures.pages c.in_ok-code.ensures.pages)

pub return_same-requires : goal.return_same-requires
return_same-requires g c = has_after 50 4 8 _ _ c.requires (further 2 2 _ _ _ c.in_ok-p.ensures.pages c.in_ok-code.ensures.pages)

pub returns-in_err-p-clause-pages : goal.returns-in_err-p-clause-pages
returns-in_err-p-clause-pages g c = wider 2 10 _ _ c.in_err-p.ensures.pages

pub returns-in_err-code-clause-pages : goal.returns-in_err-code-clause-pages
returns-in_err-code-clause-pages g c = wider 4 8 _ _ (further 2 2 _ _ _ c.in_ok-p.ensures.pages c.in_err-code.ensures.pages)

pub returns-in_err-code-clause-frame : goal.returns-in_err-code-clause-frame
returns-in_err-code-clause-frame g c = c.in_err-code.ensures.frame ∙ c.in_ok-p.ensures.frame

pub returns-then-from-p-clause-pages : goal.returns-then-from-p-clause-pages
returns-then-from-p-clause-pages g c =
    further 4 8 _ _ _ (further 2 2 _ _ _ c.in_ok-p.ensures.pages c.in_ok-code.ensures.pages) c.return_outer.ensures.pages

pub returns-then-from-p-clause-frame : goal.returns-then-from-p-clause-frame
returns-then-from-p-clause-frame g c = c.return_outer.ensures.frame ∙ (c.in_ok-code.ensures.frame ∙ c.in_ok-p.ensures.frame)

pub returns-clause-pages : goal.returns-clause-pages
returns-clause-pages g c =
    wider 6 6 _ _ (further 4 2 _ _ _ (further 2 2 _ _ _ c.in_ok-p.ensures.pages c.in_ok-code.ensures.pages) c.return_same.ensures.pages)

pub returns-clause-frame : goal.returns-clause-frame
returns-clause-frame g c = c.return_same.ensures.frame ∙ (c.in_ok-code.ensures.frame ∙ c.in_ok-p.ensures.frame)
