use Rattle.std.proofs.Common.{ap, sym, ◌∙◌}
use Rattle.board.specs.Restored.{board_at}
use Rattle.board.specs.Form.{board_form}
use Rattle.checkpoint.specs.States.{checkpoint_in}
use Rattle.checkpoint.proofs.Files.{put_whole, sized_so, read_back}
use Rattle.checkpoint.proofs.writing.write_checkpoint.Goals as goal

pub returns-clause-bytes : goal.returns-clause-bytes
returns-clause-bytes c =
    put_whole c.args.state.now c.head_of-head.result c.save.result c.len-len.result c.in_ok-bytes.bytes.items c.put_head.new.into.items
    c.extend_from_slice.new.self.items c.part.result.now c.in_ok-bytes.ensures.items c.in_ok-put_head.ensures.items
    c.head_of-head.ensures.head
    c.save.ensures.bytes c.len-len.ensures.count c.part.ensures.bytes c.in_ok-extend_from_slice.ensures.items

pub returns-clause-back : goal.returns-clause-back
returns-clause-back c =
    ap checkpoint_in (returns-clause-bytes c)
    ∙ read_back c.args.state.now c.requires c.head_of-head.ensures.segments
    (ap board_form (sym c.save.ensures.bytes) ∙ c.save.ensures.form)
    (ap board_at (sym c.save.ensures.bytes) ∙ c.save.ensures.back)
    (sized_so c.args.state.now c.head_of-head.result c.save.result c.len-len.result c.head_of-head.ensures.head c.save.ensures.bytes
    c.len-len.ensures.count
    c.in_ok-put_head.ensures.fit)
