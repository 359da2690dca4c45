use Rattle.std.proofs.Common.{◌∙◌, ap}
use Rattle.board.specs.Restored.{chip_demands, pair_demands, timer_demands, port_demands, demands}
use Rattle.checkpoint.specs.Demands.{first_bad}
use Rattle.checkpoint.specs.Form.{board_demand}
use Rattle.checkpoint.proofs.Firsts.{five}
use Rattle.checkpoint.proofs.board_form.bad_in_board.Goals as goal

pub returns : goal.returns
unfolding demands
returns c =
    five board_demand c.args.there (chip_demands c.args.bytes.now 0) (chip_demands c.args.bytes.now 7) (pair_demands c.args.bytes.now)
    (timer_demands c.args.bytes.now) (port_demands c.args.bytes.now)
    c.first_bad-master.result c.first_bad.result c.first_bad-2.result c.first_bad-3.result c.first_bad-4.result
    c.earlier-slave.result c.earlier-pair.result c.earlier-timer.result c.earlier.result
    (c.first_bad-master.ensures ∙ ap (first_bad c.args.there) c.chip_demands.ensures)
    (c.first_bad.ensures ∙ ap (first_bad c.args.there) c.chip_demands-2.ensures)
    (c.first_bad-2.ensures ∙ ap (first_bad c.args.there) c.pair_demands.ensures)
    (c.first_bad-3.ensures ∙ ap (first_bad c.args.there) c.timer_demands.ensures)
    (c.first_bad-4.ensures ∙ ap (first_bad c.args.there) c.port_demands.ensures)
    c.earlier-slave.ensures c.earlier-pair.ensures c.earlier-timer.ensures c.earlier.ensures
