use Rattle.std.proofs.Common.{◌≡◌, ℕ, ◌+◌, ◌*◌, ◌%◌, List, Option, None, sym, subst}
use Rattle.std.specs.Prelude.{IfSome}
use Rattle.guest_ram.specs.Bytes.{part}
use Rattle.native_steps.specs.Looking.{marked}
use Rattle.wedge_step.specs.Looked.{bytes_of}
use Rattle.wedge_step.specs.Clashing.{marks_of}
use Rattle.wedge_step.specs.declared.looking.Marks.{Marks}
use Rattle.wedge_step.proofs.looking.unmarked.Goals as goal

none_marked : (l : List ℕ) (a b : Option Marks) → a ≡ None → b ≡ None → l ≡ marked (marked l (marks_of a)) (marks_of b)
none_marked l a b e f = sym (λ i. marked (marked l (marks_of (e i))) (marks_of (f i)))

pub returns-in-None-marks-clause-bytes : goal.returns-in-None-marks-clause-bytes
returns-in-None-marks-clause-bytes c =
    let a = c.args in
    subst (λ (m : List ℕ). IfSome c.plain.result (λ bytes. bytes.now ≡ part m (4096 * a.seen.frame + a.at % 4096) a.len))
    (none_marked (bytes_of a.view.now) a.earlier a.seen.marks c.in-None.is c.in-None-marks.is) c.plain.ensures.bytes
