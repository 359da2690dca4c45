use Rattle.std.proofs.Common.{rules, ◌∙◌}
use Rattle.std.proofs.lemmas.Bool.{le-ltb, ne_eqb}
use Rattle.sys_exec.specs.Segment.{load_task}
use Rattle.sys_exec.proofs.Pages.{none, wider, further, has, has_after}
use Rattle.sys_exec.proofs.segment.load_task.Goals as goal

pub returns-in_err-task-clause-gives : goal.returns-in_err-task-clause-gives
unfolding load_task
returns-in_err-task-clause-gives g c =
    let read = rw c.fault.ensures at c.in_ok-low.ensures.gives in
    rw (
      le-ltb c.args.sel 4 c.if-sel-lt4.false,
      read,
      ne_eqb _ 1 c.if-high-eq1.false,
      ← c.descriptor.ensures,
      c.in_err-task.ensures _,
    ) (search rules)

pub returns-clause-gives : goal.returns-clause-gives
unfolding load_task
returns-clause-gives g c =
    let read = rw c.fault.ensures at c.in_ok-low.ensures.gives in
    rw (
      le-ltb c.args.sel 4 c.if-sel-lt4.false,
      read,
      ne_eqb _ 1 c.if-high-eq1.false,
      ← c.descriptor.ensures,
      c.in_ok-task.ensures _,
    ) (search rules)

pub select-requires : goal.select-requires
select-requires g c = has 60 2 _ c.requires

pub set_byte-requires : goal.set_byte-requires
set_byte-requires g c = has_after 60 2 0 _ _ c.requires c.in_ok-low.ensures.pages

pub returns-then-sel-lt4-clause-pages : goal.returns-then-sel-lt4-clause-pages
returns-then-sel-lt4-clause-pages g c = none 4 _

pub returns-in_err-low-clause-pages : goal.returns-in_err-low-clause-pages
returns-in_err-low-clause-pages g c = wider 2 2 _ _ c.in_err-low.ensures.pages

pub returns-then-high-eq1-clause-pages : goal.returns-then-high-eq1-clause-pages
returns-then-high-eq1-clause-pages g c = wider 2 2 _ _ c.in_ok-low.ensures.pages

pub returns-in_err-task-clause-pages : goal.returns-in_err-task-clause-pages
returns-in_err-task-clause-pages g c = wider 2 2 _ _ c.in_ok-low.ensures.pages

pub returns-in_err-set_byte-clause-pages : goal.returns-in_err-set_byte-clause-pages
returns-in_err-set_byte-clause-pages g c = further 2 2 _ _ _ c.in_ok-low.ensures.pages c.in_err-set_byte.ensures.pages

pub returns-in_err-set_byte-clause-frame : goal.returns-in_err-set_byte-clause-frame
returns-in_err-set_byte-clause-frame g c = c.in_err-set_byte.ensures.frame ∙ c.in_ok-low.ensures.frame

pub returns-clause-pages : goal.returns-clause-pages
returns-clause-pages g c = further 2 2 _ _ _ c.in_ok-low.ensures.pages c.in_ok-set_byte.ensures.pages

pub returns-clause-frame : goal.returns-clause-frame
returns-clause-frame g c = c.in_ok-set_byte.ensures.frame ∙ c.in_ok-low.ensures.frame
