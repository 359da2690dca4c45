use Rattle.std.proofs.Common.{refl, rules, ◌∙◌}
use Rattle.std.proofs.lemmas.Bool.{le-ltb}
use Rattle.sys_exec.specs.Segment.{load_data}
use Rattle.sys_exec.proofs.Pages.{wider, further, has, has_after}
use Rattle.sys_exec.proofs.segment.load_data.Goals as goal

pub returns-clause-gives : goal.returns-clause-gives
unfolding load_data
returns-clause-gives g c =
    rw (le-ltb c.args.sel 4 c.if-sel-lt4.false, c.in_ok-loading.ensures.gives, c.in_ok-mark_loaded.ensures.gives) refl

pub returns-in_err-loading-clause-gives : goal.returns-in_err-loading-clause-gives
unfolding load_data
returns-in_err-loading-clause-gives g c = rw (le-ltb c.args.sel 4 c.if-sel-lt4.false, c.in_err-loading.ensures.gives) (search rules)

pub returns-in_err-mark_loaded-clause-gives : goal.returns-in_err-mark_loaded-clause-gives
unfolding load_data
returns-in_err-mark_loaded-clause-gives g c =
    rw (le-ltb c.args.sel 4 c.if-sel-lt4.false, c.in_ok-loading.ensures.gives, c.in_err-mark_loaded.ensures.gives) (search rules)

pub find-requires-clause-above : goal.find-requires-clause-above
find-requires-clause-above g c = λ e. c.if-sel-lt4.false

pub find-requires-clause-room : goal.find-requires-clause-room
find-requires-clause-room g c = has 60 2 _ c.requires

pub mark_loaded-requires : goal.mark_loaded-requires
mark_loaded-requires g c = has_after 60 2 0 _ _ c.requires c.in_ok-loading.ensures.pages

pub returns-in_err-loading-clause-pages : goal.returns-in_err-loading-clause-pages
returns-in_err-loading-clause-pages g c = wider 2 2 _ _ c.in_err-loading.ensures.pages

pub returns-in_err-mark_loaded-clause-pages : goal.returns-in_err-mark_loaded-clause-pages
returns-in_err-mark_loaded-clause-pages g c = further 2 2 _ _ _ c.in_ok-loading.ensures.pages c.in_err-mark_loaded.ensures.pages

pub returns-in_err-mark_loaded-clause-frame : goal.returns-in_err-mark_loaded-clause-frame
returns-in_err-mark_loaded-clause-frame g c = c.in_err-mark_loaded.ensures.frame ∙ c.in_ok-loading.ensures.frame

pub returns-clause-pages : goal.returns-clause-pages
returns-clause-pages g c = further 2 2 _ _ _ c.in_ok-loading.ensures.pages c.in_ok-mark_loaded.ensures.pages

pub returns-clause-frame : goal.returns-clause-frame
returns-clause-frame g c = c.in_ok-mark_loaded.ensures.frame ∙ c.in_ok-loading.ensures.frame
