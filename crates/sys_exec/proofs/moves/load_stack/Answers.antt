use Rattle.std.proofs.Common.{refl, ◌∙◌}
use Rattle.sys_exec.specs.Move.{load_by}
use Rattle.sys_exec.proofs.Pages.{wider, further, has, has_after}
use Rattle.sys_exec.proofs.Purposes.{for_stack}
use Rattle.sys_exec.proofs.moves.load_stack.Goals as goal

pub returns-clause-gives : goal.returns-clause-gives
unfolding load_by
returns-clause-gives g c =
    rw (c.in_ok-loading.ensures.gives, c.in_ok-mark_loaded.ensures.gives, c.next.ensures) refl

pub find-requires-clause-above : goal.find-requires-clause-above
find-requires-clause-above g c = for_stack _ _

pub find-requires-clause-room : goal.find-requires-clause-room
find-requires-clause-room g c = has 58 4 _ c.requires

pub mark_loaded-requires : goal.mark_loaded-requires
mark_loaded-requires g c = has_after 58 2 2 _ _ c.requires c.in_ok-loading.ensures.pages

pub returns-in_err-loading-clause-pages : goal.returns-in_err-loading-clause-pages
returns-in_err-loading-clause-pages g c = wider 2 2 _ _ c.in_err-loading.ensures.pages

pub returns-in_err-loading-clause-frame : goal.returns-in_err-loading-clause-frame
returns-in_err-loading-clause-frame g c = c.in_err-loading.ensures.frame

pub returns-in_err-mark_loaded-clause-pages : goal.returns-in_err-mark_loaded-clause-pages
returns-in_err-mark_loaded-clause-pages g c = further 2 2 _ _ _ c.in_ok-loading.ensures.pages c.in_err-mark_loaded.ensures.pages

pub returns-in_err-mark_loaded-clause-frame : goal.returns-in_err-mark_loaded-clause-frame
returns-in_err-mark_loaded-clause-frame g c = c.in_err-mark_loaded.ensures.frame ∙ c.in_ok-loading.ensures.frame

pub returns-clause-pages : goal.returns-clause-pages
returns-clause-pages g c = further 2 2 _ _ _ c.in_ok-loading.ensures.pages c.in_ok-mark_loaded.ensures.pages

pub returns-clause-frame : goal.returns-clause-frame
returns-clause-frame g c = c.in_ok-mark_loaded.ensures.frame ∙ c.in_ok-loading.ensures.frame

pub returns-clause-asked : goal.returns-clause-asked
returns-clause-asked g c = rw c.next.ensures tt
