-- When a counter's edges come.
use Rattle.std.specs.Prelude.{ℕ, zero, suc, Bool, false, ◌||◌, Option, Some, None}
use Rattle.pit8254.specs.declared.timer.Count.{Count}
use Rattle.pit8254.specs.declared.timer.Timer.{Timer}
use Rattle.pit8254.specs.Timers.{timer_step, edge_comes}

-- the timer after k steps
unfoldable pub after_steps : ℕ → Timer → Timer
after_steps zero timer = timer
after_steps (suc k) timer = after_steps k (timer_step timer)

-- one of the next k steps has an edge
unfoldable pub edge_within : ℕ → Timer → Bool
edge_within zero timer = false
edge_within (suc k) timer = edge_comes timer || edge_within k (timer_step timer)

-- the steps until the next edge, where the counter runs
abbrev pub left_in : Option Count → Option ℕ
left_in None = None
left_in (Some count) = Some count.left
