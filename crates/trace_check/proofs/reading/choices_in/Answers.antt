use Rattle.std.proofs.Common.{◌≡◌, ℕ, ◌≤◌, ◌+◌, ◌*◌, List, Option, Some, None, sym, ap, ◌∙◌, arith}
use Rattle.std.specs.Prelude.{IfNone}
use Rattle.plain_laws.proofs.Options.{not_some}
use Rattle.trace_check.specs.Form.{most_choices}
use Rattle.guest_ram.specs.Bytes.{word32}
use Rattle.trace_check.specs.Reading.{word64, head_fault, choice_fault}
use Rattle.trace_check.proofs.Walk.{head_is_bad, choice_is_bad, none_is_bad, here_bad, here_good, one_more, end_good, end_bad, at_end, choice_at-step}
use Rattle.trace_check.proofs.reading.choices_in.Goals as goal

pub returns-in-Some : goal.returns-in-Some
returns-in-Some c = head_is_bad c.args.bytes.now c.in-Some.at (sym c.head_fault.ensures.place ∙ c.in-Some.is)

pub returns-in-Some-choice_fault : goal.returns-in-Some-choice_fault
returns-in-Some-choice_fault c =
    let head : head_fault c.args.bytes.now ≡ None = sym c.head_fault.ensures.place ∙ not_some c.head_fault.result c.in_default.not-Some in
    let here = here_bad c.args.bytes.now c.loop-i.least c.word-count.result c.loop-i.i c.in-Some-choice_fault.at c.loop-i-test.true
    (sym c.choice_fault.ensures.place ∙ c.in-Some-choice_fault.is) in
    choice_is_bad c.args.bytes.now c.word-count.result c.in-Some-choice_fault.at head c.word-count.ensures
    (sym c.loop-i.invariant.so_far ∙ here)

pub loop-i-preserved : goal.loop-i-preserved
loop-i-preserved c =
    let bytes = c.args.bytes.now in
    let good : choice_fault bytes c.loop-i.least (8 + 16 * c.loop-i.i) ≡ None =
    sym c.choice_fault.ensures.place ∙ not_some c.choice_fault.result c.in_default-choice_fault.not-Some in
    let next = here_good bytes c.loop-i.least c.word-count.result c.loop-i.i c.loop-i-test.true good in
    let step : c.choice_at-choice.result.step ≡ word64 bytes (8 + 16 * c.loop-i.i) =
    ap (λ s. s.step) c.choice_at-choice.ensures ∙ choice_at-step bytes (8 + 16 * c.loop-i.i) in
    record {
      so_far = rw step (sym next ∙ c.loop-i.invariant.so_far);
      list = rw (c.in_ok-push.ensures.items, c.choice_at-choice.ensures)
          (sym (one_more bytes c.loop-i.list.items c.word-count.result c.loop-i.i c.loop-i-test.true) ∙ c.loop-i.invariant.list);
      room = omega (arith, c.in_default-choice_fault.ensures.room);
    }

pub returns-then-end-bytes : goal.returns-then-end-bytes
returns-then-end-bytes c =
    let head : head_fault c.args.bytes.now ≡ None = sym c.head_fault.ensures.place ∙ not_some c.head_fault.result c.in_default.not-Some in
    let ends =
    end_bad c.args.bytes.now c.loop-i.least c.word-count.result c.loop-i.i c.loop-i-test.false (omega arith) c.if-end-bytes.true in
    choice_is_bad c.args.bytes.now c.word-count.result _ head c.word-count.ensures (sym c.loop-i.invariant.so_far ∙ ends)

pub returns : goal.returns
returns c =
    let head : head_fault c.args.bytes.now ≡ None = sym c.head_fault.ensures.place ∙ not_some c.head_fault.result c.in_default.not-Some in
    let ends =
    end_good c.args.bytes.now c.loop-i.least c.word-count.result c.loop-i.i c.loop-i-test.false (omega arith) c.if-end-bytes.false in
    none_is_bad c.args.bytes.now c.word-count.result c.loop-i.list.items head c.word-count.ensures (sym c.loop-i.invariant.so_far ∙ ends)
    (sym (at_end c.args.bytes.now c.loop-i.list.items c.word-count.result c.loop-i.i c.loop-i-test.false) ∙ c.loop-i.invariant.list)

few : (count : ℕ) (bytes : List ℕ) (o : Option ℕ) → IfNone o (word32 bytes 4 ≤ most_choices) → o ≡ None
    → count ≡ word32 bytes 4 → count ≤ 1048576
few count bytes None h e is = omega (arith, h, is)
few count bytes (Some at) h e is = absurd cc

pub choice_fault-requires : goal.choice_fault-requires
choice_fault-requires c =
    let within = few c.word-count.result c.args.bytes.now c.head_fault.result c.head_fault.ensures.few
    (not_some c.head_fault.result c.in_default.not-Some) c.word-count.ensures in
    omega (arith, within, c.loop-i-test.true)

pub overflow_cast-result-then-end-bytes : goal.overflow_cast-result-then-end-bytes
overflow_cast-result-then-end-bytes c =
    let within = few c.word-count.result c.args.bytes.now c.head_fault.result c.head_fault.ensures.few
    (not_some c.head_fault.result c.in_default.not-Some) c.word-count.ensures in
    omega (arith, within)
