use Rattle.std.proofs.Common.{get_or, ap, sym, ◌∙◌, arith}
use Rattle.asm_lex.specs.declared.machine.Stepped.{Stepped}
use Rattle.asm_lex.proofs.Stepping.{starts_next}
use Rattle.asm_lex.proofs.Scanning.{line_bound}
use Rattle.asm_lex.proofs.Reading.{fits_first, fits_second, goes_at, stops_at, at_end}
use Rattle.asm_lex.proofs.reader.read_bytes.Goals as goal

pub take-requires : goal.take-requires
take-requires g c = let l = c.loop-i in
    record {
      first =
          rw c.step-stepped.ensures
          (fits_first c.args.source.now l.mode l.i l.line (get_or c.args.source.now l.i 0) c.loop-i-test.true l.invariant.begun);
      second =
          rw c.step-stepped.ensures
          (fits_second c.args.source.now l.mode l.i l.line (get_or c.args.source.now l.i 0) c.loop-i-test.true l.invariant.begun);
    }

pub returns-in-Err : goal.returns-in-Err
returns-in-Err g c = let l = c.loop-i in
    l.invariant.so_far _ (stops_at g.R.Reader.takes c.args.source.now l.reader l.mode l.i l.line c.in-Err.fault c.loop-i-test.true
    (rw (← c.step-stepped.ensures) c.in-Err.ensures.takes))

pub loop-i-preserved : goal.loop-i-preserved
loop-i-preserved g c = let l = c.loop-i in
    let next = ap (λ (s : Stepped). s.next) (sym c.step-stepped.ensures) ∙ c.in-Ok.ensures.next in
    record {
      so_far = λ result h. l.invariant.so_far result
          (goes_at g.R.Reader.takes c.args.source.now l.reader c.in-Ok.next_reader l.mode c.in-Ok.next_mode l.i l.line
          result c.loop-i-test.true
          (rw (← c.step-stepped.ensures) c.in-Ok.ensures.takes) (rw (← c.line_after-line.ensures) h));
      begun = starts_next l.mode l.i l.line (get_or c.args.source.now l.i 0) c.in-Ok.next_mode l.invariant.begun next;
      line = rw c.line_after-line.ensures (omega (arith, line_bound l.line (get_or c.args.source.now l.i 0)));
    }

pub returns : goal.returns
returns g c = let l =
    c.loop-i in l.invariant.so_far _ (at_end g.R.Reader.takes c.args.source.now l.reader l.mode l.i l.line c.loop-i-test.false)
