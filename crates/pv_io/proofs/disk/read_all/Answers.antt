use Rattle.std.proofs.Common.{ap, rules}
use Rattle.pv_io.proofs.Limits.{whole_of}
use Rattle.pv_io.proofs.disk.read_all.Goals as goal

pub returns-then-len-limit-clause-all : goal.returns-then-len-limit-clause-all
returns-then-len-limit-clause-all g c =
    whole_of (g.F.Read.remaining c.args.file) _ c.args.limit _ c.read_to_end.new.buf.items c.new-bytes.result.items
    (ap (g.F.Read.remaining) c.take.ensures.inner) c.take.ensures.limit c.new-bytes.ensures.items c.in-Ok.ensures.bytes (search rules)
