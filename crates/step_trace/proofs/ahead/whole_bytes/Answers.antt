use Rattle.std.proofs.Common.{ℕ, List, Some, ap, ◌∙◌, arith}
use Rattle.ia32_decode.specs.Decoding.{decoded}
use Rattle.linear_view.specs.View.{view_of}
use Rattle.step_trace.proofs.Told.{told_by_bytes}
use Rattle.step_trace.proofs.ahead.whole_bytes.Goals as goal

pub returns-in-Some : goal.returns-in-Some
returns-in-Some g c =
    ap (λ (bytes : List ℕ). Some (decoded bytes)) c.eleven.ensures.copy
    ∙ told_by_bytes (view_of c.args.ram.now c.args.frames c.args.cpu.now (g.C.Cache.entries c.args.cache.now)) c.args.at c.in-Some.front.now
    c.eleven.ensures.fit c.in-Some.ensures.len
    (omega (arith, c.if-front_len-lt-LONGEST.false, c.front_len.ensures.len, c.front_len.ensures.few)) c.in-Some.ensures.bytes
