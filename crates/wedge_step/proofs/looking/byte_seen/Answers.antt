use Rattle.std.proofs.Common.{◌≡◌, ℕ, ◌*◌, Bool, cond, sym, ap, ◌∙◌, bit_or}
use Rattle.native_steps.specs.Looking.{marked}
use Rattle.wedge_step.specs.Looked.{bytes_of}
use Rattle.wedge_step.specs.Clashing.{marks_of}
use Rattle.wedge_step.proofs.Sights.{marked_fit, marked_long, are_in}
use Rattle.wedge_step.proofs.looking.byte_seen.Goals as goal

flagged_same : (b b' : Bool) (x x' : ℕ) → b ≡ b' → x ≡ x' → cond b (bit_or x 32) x ≡ cond b' (bit_or x' 32) x'
flagged_same b b' x x' e f = ap (λ c. cond c (bit_or x 32) x) e ∙ ap (λ n. cond b' (bit_or n 32) n) f

pub returns : goal.returns
returns c =
    let a = c.args in
    let l = bytes_of a.view.now in
    let n = 4096 * a.view.now.frames in
    let first = marked l (marks_of a.earlier) in
    let long = c.are_bytes.ensures.length in
    let fit = c.are_bytes.ensures.bytes in
    let law = c.uses_are_seen.ensures.bytes in
    let one = law l (marks_of a.earlier) a.place fit (are_in n _ (marks_of a.earlier) long c.requires.earlier) in
    let more = marked_long l (marks_of a.earlier) n long c.requires.earlier in
    let two = law first (marks_of a.marks) a.place (marked_fit l (marks_of a.earlier) n long c.requires.earlier fit)
    (are_in n _ (marks_of a.marks) more c.requires.marks) in
    c.flag.ensures
    ∙ (flagged_same _ _ _ _ c.is_marked-2.ensures
    (c.flag-first.ensures ∙ (flagged_same _ _ _ _ c.is_marked.ensures c.byte.ensures ∙ sym one))
    ∙ sym two)

pub are_bytes-requires-clause-frames : goal.are_bytes-requires-clause-frames
are_bytes-requires-clause-frames c = c.args.view.now.room

pub are_bytes-requires-clause-laid : goal.are_bytes-requires-clause-laid
are_bytes-requires-clause-laid c = c.args.view.now.laid
