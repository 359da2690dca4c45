use Rattle.std.proofs.Common.{refl}
use Rattle.checkpoint.proofs.Files.{front_put}
use Rattle.checkpoint.proofs.reading.front.Goals as goal

pub returns : goal.returns
returns c =
    front_put c.args.bytes.now c.copy_from_slice.new.self _ c.min-there.result c.min-there.ensures c.copy_from_slice.ensures.after refl
