use Rattle.std.proofs.Common.{◌++◌, ℕ, List, length, take, get_or, ap, sym, ◌∙◌, arith}
use Rattle.std.proofs.lemmas.List.{length-append}
use Rattle.std.specs.Prelude.{codes}
use Rattle.run_trace.specs.Text.{hex2}
use Rattle.ia32_text.specs.Numbers.{bytes_text}
use Rattle.ia32_text.proofs.LinePieces.{no_bytes, more_bytes, three_pieces}
use Rattle.ia32_text.proofs.numbers.add_bytes.Goals as goal

pub loop-byte-init : goal.loop-byte-init
loop-byte-init c = record { text = no_bytes c.args.line.now.items; len = omega arith }

pub loop-byte-preserved : goal.loop-byte-preserved
loop-byte-preserved c =
    let xs = c.args.bytes.now in
    let i = c.loop-byte.byte-index in
    let blank = simp length-append at (ap length c.add.ensures) in
    record {
      text =
          three_pieces c.args.line.now.items (bytes_text (take i xs)) (codes " ") (hex2 (get_or xs i 0)) _ _ _ c.loop-byte.invariant.text
          c.add.ensures c.two_digits.ensures.text
          ∙ ap (λ (text : List ℕ). c.args.line.now.items ++ text) (sym (more_bytes xs i c.loop-byte-test.true));
      len = omega (arith, blank, c.two_digits.ensures.len, c.loop-byte.invariant.len);
    }
