use Rattle.afterburner.proofs.Items.{item_size, item_among, fault_told, all_told}
use Rattle.afterburner.proofs.burning.make_all.Goals as goal

pub make_item-requires-clause-size : goal.make_item-requires-clause-size
make_item-requires-clause-size c = item_size c.args.items.now c.loop-item.item-index c.item-item.result c.item-item.result
    c.loop-item-test.true c.item-item.is c.requires.readable

pub make_item-requires-clause-held : goal.make_item-requires-clause-held
make_item-requires-clause-held c = item_among c.args.names.now c.args.items.now c.loop-item.item-index c.item-item.result c.item-item.result
    c.requires.names c.loop-item-test.true c.item-item.is

pub returns-in-Err-make_item-clause-makes : goal.returns-in-Err-make_item-clause-makes
returns-in-Err-make_item-clause-makes c =
    fault_told c.args.names.now c.args.items.now c.loop-item.item-index c.item-item.result c.item-item.result c.loop-item.made
    c.make_item.new.self c.in-Err-make_item.stop c.fault.result c.requires.names c.loop-item-test.true c.item-item.is
    c.loop-item.invariant.so_far c.in-Err-make_item.ensures.makes c.fault.ensures

pub returns-clause-makes : goal.returns-clause-makes
returns-clause-makes c = all_told c.args.names.now c.args.items.now c.loop-item.item-index c.loop-item.made c.requires.names
    c.loop-item-test.false c.loop-item.invariant.so_far
