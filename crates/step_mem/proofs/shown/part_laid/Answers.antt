use Rattle.std.proofs.Common.{◌≡◌, ℕ, ◌+◌, ◌-◌, ◌*◌, ◌≤◌, ◌++◌, List, length, take, drop, inl, inr, sym, ap, ◌∙◌, arith}
use Rattle.std.specs.Prelude.{◌⊎◌}
use Rattle.std.proofs.lemmas.Bool.{cases_lt}
use Rattle.guest_ram.specs.Bytes.{part}
use Rattle.step_mem.specs.Shown.{laid}
use Rattle.step_mem.proofs.Laid.{laid_part, laid_begins}
use Rattle.step_mem.proofs.shown.part_laid.Goals as goal
use Rattle.step_mem.proofs.shown.part_laid.Goals.{then-at-start-via-then-at-start, then-at-start-via-else-at-start+then-at-end}

pub returns-then-at-start-clause-bytes : goal.returns-then-at-start-clause-bytes
returns-then-at-start-clause-bytes c =
    let a = c.args in
    let start = 4096 * a.first in
    let within : a.at + a.len ≤ 4096 * a.frames = omega arith in
    let beside : (a.at + a.len ≤ start) ⊎ (start + length a.bytes.now ≤ a.at) =
    elim c.then-at-start.branch [
      | then-at-start-via-then-at-start w ↦ inl (omega arith)
      | then-at-start-via-else-at-start+then-at-end w ↦ inr (omega arith)
    ] in
    c.part.ensures.bytes
    ∙ sym (laid_part a.bytes.now a.first a.frames a.ram.now a.at a.len c.requires.frames
    (record { room = c.requires.laid; within = within; beside = beside }))

pub returns-clause-bytes : goal.returns-clause-bytes
unfolding part
returns-clause-bytes c =
    let a = c.args in
    let start = 4096 * a.first in
    let from : ℕ = a.at - start in
    let front : ℕ = c.min-front.result in
    let few : front ≤ a.len = omega arith in
    let high : a.at + front ≤ start + length a.bytes.now = omega arith in
    let whole : front + (a.len - front) ≡ a.len = omega arith in
    let cut : from + front - from ≡ front = omega arith in
    let low : start ≤ a.at = omega arith in
    let within : a.at + (front + (a.len - front)) ≤ 4096 * a.frames = omega arith in
    let ends : (a.len - front ≡ 0) ⊎ (a.at + front ≡ start + length a.bytes.now) =
    elim (cases_lt (start + length a.bytes.now - a.at) a.len) [ inl l ↦ inr (omega arith) | inr l ↦ inl (omega arith) ] in
    ap (λ (n : ℕ). take n (drop from a.bytes.now) ++ c.part-2.result.now) cut
    ∙ (ap (λ (l : List ℕ). take front (drop from a.bytes.now) ++ l) c.part-2.ensures.bytes
    ∙ (sym (laid_begins a.bytes.now a.first a.frames a.ram.now a.at (a.len - front) front c.requires.frames c.requires.laid
    low high within ends)
    ∙ ap (part (laid a.bytes.now a.first a.frames a.ram.now) a.at) whole))
