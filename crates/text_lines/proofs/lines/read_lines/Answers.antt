use Rattle.std.proofs.Common.{◌∙◌, sym, ap, ◌+◌, ℕ, List, [], length, take, drop, arith, length-drop}
use Rattle.std.proofs.lemmas.List.{take_rest}
use Rattle.std.proofs.lemmas.Result.{err_from_is_err_and}
use Rattle.text_lines.specs.Cuts.{cut_at}
use Rattle.text_lines.specs.Lines.{lines_read}
use Rattle.text_lines.proofs.Reading.{next_line, bad_line, no_line, text_says, fault_along}
use Rattle.text_lines.proofs.lines.read_lines.Goals as goal

pub returns-in-None-clause-read : goal.returns-in-None-clause-read
returns-in-None-clause-read g c =
    let l = c.loop-items in
    let rule = g.R.LineReader.rule c.args.reader.now in
    sym l.invariant.same
    ∙ ap (lines_read rule l.number l.items.items) c.in-None.ensures
    ∙ next_line rule l.number l.items.items c.take_line.new.items.items l.rest.now [] c.in_ok-take_line-in-None.ensures.good
    c.in_ok-take_line-in-None.ensures.taken
    ∙ no_line rule (l.number + 1) c.take_line.new.items.items

pub returns-in_err-take_line-in-None-clause-read : goal.returns-in_err-take_line-in-None-clause-read
returns-in_err-take_line-in-None-clause-read g c =
    let l = c.loop-items in
    let rule = g.R.LineReader.rule c.args.reader.now in
    let p = err_from_is_err_and c.from_residual.result c.from_residual.ensures.1 in
    rw (p.1, p.2)
    (fault_along c.in_err-take_line-in-None.field-0.0 _ _
    (ap (lines_read rule l.number l.items.items) (sym c.in-None.ensures) ∙ l.invariant.same)
    (bad_line rule l.number l.items.items l.rest.now [] c.in_err-take_line-in-None.field-0.0 c.in_err-take_line-in-None.ensures.bad))

pub returns-in_err-take_line-in-Some-clause-read : goal.returns-in_err-take_line-in-Some-clause-read
returns-in_err-take_line-in-Some-clause-read g c =
    let l = c.loop-items in
    let rule = g.R.LineReader.rule c.args.reader.now in
    let end = c.in-Some.end in
    let p = err_from_is_err_and c.from_residual-in_err-take_line-in-Some.result c.from_residual-in_err-take_line-in-Some.ensures.1 in
    rw (p.1, p.2)
    (fault_along c.in_err-take_line-in-Some.field-0.0 _ _
    (ap (lines_read rule l.number l.items.items) (sym c.in-Some.ensures.1) ∙ l.invariant.same)
    (bad_line rule l.number l.items.items (take end l.rest.now) (cut_at 10 (drop (end + 1) l.rest.now)) c.in_err-take_line-in-Some.field-0.0
    c.in_err-take_line-in-Some.ensures.bad))

pub returns-in-None-clause-lines : goal.returns-in-None-clause-lines
returns-in-None-clause-lines g c = text_says (g.R.LineReader.rule c.args.reader.now) c.args.text.now

pub returns-in_err-take_line-in-None-clause-lines : goal.returns-in_err-take_line-in-None-clause-lines
returns-in_err-take_line-in-None-clause-lines g c = text_says (g.R.LineReader.rule c.args.reader.now) c.args.text.now

pub returns-in_err-take_line-in-Some-clause-lines : goal.returns-in_err-take_line-in-Some-clause-lines
returns-in_err-take_line-in-Some-clause-lines g c = text_says (g.R.LineReader.rule c.args.reader.now) c.args.text.now

pub loop-items-preserved : goal.loop-items-preserved
loop-items-preserved g c =
    let l = c.loop-items in
    let rule = g.R.LineReader.rule c.args.reader.now in
    let end = c.in-Some.end in
    let new = c.take_line-in-Some.new.items.items in
    let later = take_rest l.rest.now (end + 1) in
    record {
      same =
          ap (λ (z : List ℕ). lines_read rule (l.number + 1) new (cut_at 10 z)) later
          ∙ sym (next_line rule l.number l.items.items new (take end l.rest.now) (cut_at 10 (drop (end + 1) l.rest.now))
          c.in_ok-take_line-in-Some.ensures.good c.in_ok-take_line-in-Some.ensures.taken)
          ∙ ap (lines_read rule l.number l.items.items) (sym c.in-Some.ensures.1)
          ∙ l.invariant.same;
      fits = c.in_ok-take_line-in-Some.ensures.fits;
      count = omega (arith, ap length later, length-drop (end + 1) l.rest.now, c.in-Some.ensures.0, l.invariant.count);
    }
