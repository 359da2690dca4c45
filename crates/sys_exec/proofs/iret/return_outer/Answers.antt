use Rattle.std.proofs.Common.{refl, sym, ◌∙◌}
use Rattle.sys_exec.specs.Iret.{return_outer}
use Rattle.sys_exec.proofs.Pages.{wider, further, has, has_after}
use Rattle.sys_exec.proofs.Purposes.{for_stack}
use Rattle.sys_exec.proofs.iret.return_outer.Goals as goal

pub returns-clause-gives : goal.returns-clause-gives
unfolding return_outer
returns-clause-gives g c =
    let keeps = sym c.keeps_flags.ensures ∙ c.if-not-keeps_flags.false in
    rw (
      c.in_ok-outer.ensures.gives,
      c.in_ok-stack.ensures.gives,
      keeps,
      c.in_ok-mark_loaded.ensures.gives,
      c.in_ok-mark_loaded-2.ensures.gives,
      c.returned.ensures,
      c.outer_segments-seg.ensures,
    ) refl

pub pop_outer-requires : goal.pop_outer-requires
pop_outer-requires g c = has 56 6 _ c.requires

pub find-requires-clause-above : goal.find-requires-clause-above
find-requires-clause-above g c = for_stack _ _

pub find-requires-clause-room : goal.find-requires-clause-room
find-requires-clause-room g c = has_after 56 2 4 _ _ c.requires c.in_ok-outer.ensures.pages

pub mark_loaded-requires : goal.mark_loaded-requires
mark_loaded-requires g c = has_after 56 4 2 _ _ c.requires (further 2 2 _ _ _ c.in_ok-outer.ensures.pages c.in_ok-stack.ensures.pages)

pub mark_loaded-requires-2 : goal.mark_loaded-requires-2
mark_loaded-requires-2 g c = has_after 56 6 0 _ _ c.requires
    (further 4 2 _ _ _ (further 2 2 _ _ _ c.in_ok-outer.ensures.pages c.in_ok-stack.ensures.pages) c.in_ok-mark_loaded.ensures.pages)

pub returns-in_err-outer-clause-pages : goal.returns-in_err-outer-clause-pages
returns-in_err-outer-clause-pages g c = wider 2 6 _ _ c.in_err-outer.ensures.pages

pub returns-in_err-stack-clause-pages : goal.returns-in_err-stack-clause-pages
returns-in_err-stack-clause-pages g c = wider 4 4 _ _ (further 2 2 _ _ _ c.in_ok-outer.ensures.pages c.in_err-stack.ensures.pages)

pub returns-then-not-keeps_flags-clause-pages : goal.returns-then-not-keeps_flags-clause-pages
returns-then-not-keeps_flags-clause-pages g c = wider 4 4 _ _ (further 2 2 _ _ _ c.in_ok-outer.ensures.pages c.in_ok-stack.ensures.pages)

pub returns-in_err-mark_loaded-clause-pages : goal.returns-in_err-mark_loaded-clause-pages
returns-in_err-mark_loaded-clause-pages g c =
    wider 6 2 _ _ (further 4 2 _ _ _ (further 2 2 _ _ _ c.in_ok-outer.ensures.pages c.in_ok-stack.ensures.pages)
    c.in_err-mark_loaded.ensures.pages)

pub returns-in_err-mark_loaded-2-clause-pages : goal.returns-in_err-mark_loaded-2-clause-pages
returns-in_err-mark_loaded-2-clause-pages g c =
    further 6 2 _ _ _ (further 4 2 _ _ _ (further 2 2 _ _ _ c.in_ok-outer.ensures.pages c.in_ok-stack.ensures.pages)
    c.in_ok-mark_loaded.ensures.pages) c.in_err-mark_loaded-2.ensures.pages

pub returns-clause-pages : goal.returns-clause-pages
returns-clause-pages g c =
    further 6 2 _ _ _ (further 4 2 _ _ _ (further 2 2 _ _ _ c.in_ok-outer.ensures.pages c.in_ok-stack.ensures.pages)
    c.in_ok-mark_loaded.ensures.pages) c.in_ok-mark_loaded-2.ensures.pages

pub returns-in_err-outer-clause-frame : goal.returns-in_err-outer-clause-frame
returns-in_err-outer-clause-frame g c = c.in_err-outer.ensures.frame

pub returns-in_err-stack-clause-frame : goal.returns-in_err-stack-clause-frame
returns-in_err-stack-clause-frame g c = c.in_err-stack.ensures.frame ∙ c.in_ok-outer.ensures.frame

pub returns-then-not-keeps_flags-clause-frame : goal.returns-then-not-keeps_flags-clause-frame
returns-then-not-keeps_flags-clause-frame g c = c.in_ok-stack.ensures.frame ∙ c.in_ok-outer.ensures.frame

pub returns-in_err-mark_loaded-clause-frame : goal.returns-in_err-mark_loaded-clause-frame
returns-in_err-mark_loaded-clause-frame g c =
    c.in_err-mark_loaded.ensures.frame ∙ (c.in_ok-stack.ensures.frame ∙ c.in_ok-outer.ensures.frame)

pub returns-in_err-mark_loaded-2-clause-frame : goal.returns-in_err-mark_loaded-2-clause-frame
returns-in_err-mark_loaded-2-clause-frame g c =
    c.in_err-mark_loaded-2.ensures.frame ∙ (c.in_ok-mark_loaded.ensures.frame ∙ (c.in_ok-stack.ensures.frame ∙ c.in_ok-outer.ensures.frame))

pub returns-clause-frame : goal.returns-clause-frame
returns-clause-frame g c =
    c.in_ok-mark_loaded-2.ensures.frame ∙ (c.in_ok-mark_loaded.ensures.frame ∙ (c.in_ok-stack.ensures.frame ∙ c.in_ok-outer.ensures.frame))
