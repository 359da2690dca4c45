-- The items of one step.
use Rattle.std.specs.Prelude.{List, take}
use Rattle.run_trace.specs.declared.items.Item.{Item}
use Rattle.run_trace.specs.declared.step_items.StepItems.{StepItems}

abbrev pub items_of : StepItems → List Item
items_of items = take items.len items.list
