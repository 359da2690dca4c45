-- Which pages a view may show, as a test: those that a step at its level may use.
use Rattle.std.specs.Prelude.{ℕ, Bool, true, Option, Some, None}
use Rattle.paging.specs.declared.entry.Entry.{Entry}
use Rattle.shadow_tables.specs.declared.words.Side.{Side}
use Rattle.shadow_tables.specs.Slots.{is_user}
use Rattle.machine_model.specs.State.{rules_over}
use Rattle.machine_model.specs.UsedPages.{may_use}

abbrev pub is_entry_open : ℕ → Side → Option Entry → Bool
is_entry_open count side None = true
is_entry_open count side (Some entry) = may_use (rules_over count) (is_user side) entry.page entry.frame
