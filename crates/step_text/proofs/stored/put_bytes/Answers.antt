use Rattle.std.proofs.Common.{◌++◌, ℕ, List, length, take, get_or, ap, sym, ◌∙◌, arith}
use Rattle.run_trace.specs.Text.{hex2}
use Rattle.step_text.specs.Stored.{digits_of}
use Rattle.ia32_text.proofs.LinePieces.{two_pieces}
use Rattle.step_text.proofs.Pieces.{no_bytes, more_bytes}
use Rattle.step_text.proofs.stored.put_bytes.Goals as goal

pub loop-byte-init : goal.loop-byte-init
loop-byte-init c = record { text = no_bytes c.args.line.now.items; len = omega arith }

pub loop-byte-preserved : goal.loop-byte-preserved
loop-byte-preserved c =
    let xs = c.args.bytes.now in
    let i = c.loop-byte.byte-index in
    record {
      text =
          two_pieces c.args.line.now.items (digits_of (take i xs)) (hex2 (get_or xs i 0)) _ _ c.loop-byte.invariant.text
          c.two_digits.ensures.text
          ∙ ap (λ (text : List ℕ). c.args.line.now.items ++ text) (sym (more_bytes xs i c.loop-byte-test.true));
      len = omega (arith, c.two_digits.ensures.len, c.loop-byte.invariant.len);
    }
