use Rattle.std.proofs.Common.{◌≤◌, ◌+◌, ◌^◌, sym, ◌∙◌, arith}
use Rattle.std.proofs.lemmas.Bool.{le-ltb}
use Rattle.paging.specs.Uses.{uses}
use Rattle.step_mem.proofs.touching.touch.Goals as goal

pub returns-clause-uses : goal.returns-clause-uses
unfolding uses
returns-clause-uses g c =
    let fits : c.args.at + c.args.len ≤ 2 ^ 32 = omega arith in
    let window = rw c.begin.ensures.guard at (sym c.window_stop.ensures ∙ c.in_default.is) in
    rw (le-ltb (2 ^ 32) (c.args.at + c.args.len) fits, window, ← c.begin.ensures.space) c.touch_pages.ensures.uses
