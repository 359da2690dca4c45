use Rattle.std.proofs.Common.{◌≡◌, fold, take, []}
use Rattle.std.specs.List.{flat_map}
use Rattle.asm_source.specs.Names.{added, body_names}
use Rattle.asm_source.specs.declared.tree.SourceItem.{SourceItem}
use Rattle.afterburner.proofs.names.names_of.Given as goal

abbrev pub invariant-loop-item : goal.invariant-loop-item
invariant-loop-item l = l.names ≡ fold added [] (flat_map (λ (i : SourceItem). body_names i.body) (take l.item-index l.source))
