use Rattle.std.proofs.Common.{◌∙◌, sym, ap, ◌+◌, ◌-◌, List, ℕ, ◌∷◌, length, take, drop}
use Rattle.std.proofs.lemmas.List.{take_rest}
use Rattle.text_lines.specs.Cuts.{cut_at}
use Rattle.guest_sched.proofs.Words.{three_words}
use Rattle.guest_sched.proofs.read.read_slice.Goals as goal

pub returns-in-Some-first_cut-clause-slice : goal.returns-in-Some-first_cut-clause-slice
returns-in-Some-first_cut-clause-slice c =
    let i = c.in-Some.first in
    let line = c.args.line.now in
    let steps = take (length line - (i + 1)) (drop (i + 1) line) in
    sym (three_words c.args.kernels line steps i c.in-Some-first_cut.field-0
    (c.in-Some.ensures.1 ∙ ap (λ (z : List ℕ). take i line ∷ cut_at 32 z) (sym (take_rest line (i + 1))))
    c.in-Some-first_cut.ensures.1)
