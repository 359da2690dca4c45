use Rattle.std.proofs.Common.{sym, subst, ◌∙◌}
use Rattle.paging.specs.declared.entry.Walk.{Walk}
use Rattle.step_mem.specs.Guard.{mode_of}
use Rattle.step_mem.specs.Shown.{IsFoundApart}
use Rattle.step_mem.proofs.Laid.{walks_apart, shown_fresh, found_apart}
use Rattle.step_mem.proofs.walking.walk_apart.Goals as goal

pub returns-clause-walk : goal.returns-clause-walk
returns-clause-walk c =
    let a = c.args in
    c.walk.ensures.walk
    ∙ sym (shown_fresh a.guard.now.text.now a.guard.now.own a.control.frames a.ram.now a.control.cr3 a.control.pse a.page c.requires.frames
    c.requires.laid c.requires.page
    (walks_apart a.guard.now.text.now a.guard.now.own a.control.frames a.ram.now a.control.cr3 a.control.pse a.page a.control.wp
    c.requires.frames c.requires.laid c.requires.page c.requires.apart))

pub returns-clause-apart : goal.returns-clause-apart
returns-clause-apart c =
    let a = c.args in
    let P : Walk → Type 0 = IsFoundApart (mode_of a.guard.now) in
    subst P (sym c.walk.ensures.walk)
    (found_apart a.guard.now.text.now a.guard.now.own a.control.frames a.ram.now a.control.cr3 a.control.pse a.page c.requires.page
    (walks_apart a.guard.now.text.now a.guard.now.own a.control.frames a.ram.now a.control.cr3 a.control.pse a.page a.control.wp
    c.requires.frames c.requires.laid c.requires.page c.requires.apart))
