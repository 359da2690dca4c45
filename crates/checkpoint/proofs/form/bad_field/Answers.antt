use Rattle.std.proofs.Common.{◌∙◌, ap}
use Rattle.checkpoint.specs.Demands.{first_bad, zero_demands}
use Rattle.checkpoint.specs.Form.{magic_demands, count_demands, processor_demands, segments_demands, board_demands, demands}
use Rattle.checkpoint.proofs.Firsts.{seven}
use Rattle.checkpoint.proofs.form.bad_field.Goals as goal

pub returns : goal.returns
unfolding demands
returns c =
    seven c.args.there (magic_demands c.args.head.now.magic) (count_demands c.args.head.now) (processor_demands c.args.head.now)
    (segments_demands c.args.head.now) (zero_demands 114 c.args.head.now.unnamed) (board_demands c.args.head.now.board)
    (zero_demands 192 c.args.head.now.rest)
    c.first_bad.result c.first_bad-2.result c.first_bad-3.result c.first_bad-4.result c.first_set.result c.bad_in_board.result
    c.first_set-2.result
    c.earlier-front.result c.earlier-counts.result c.earlier-processor.result c.earlier-unnamed.result
    c.earlier-board.result c.earlier.result
    (c.first_bad.ensures ∙ ap (first_bad c.args.there) c.magic_demands.ensures)
    (c.first_bad-2.ensures ∙ ap (first_bad c.args.there) c.count_demands.ensures)
    (c.first_bad-3.ensures ∙ ap (first_bad c.args.there) c.processor_demands.ensures)
    (c.first_bad-4.ensures ∙ ap (first_bad c.args.there) c.segments_demands.ensures)
    c.first_set.ensures c.bad_in_board.ensures c.first_set-2.ensures
    c.earlier-front.ensures c.earlier-counts.ensures c.earlier-processor.ensures c.earlier-unnamed.ensures
    c.earlier-board.ensures c.earlier.ensures
