use Rattle.std.proofs.Common.{◌≡◌, true, false, arith, refl, length-append}
use Rattle.std.proofs.lemmas.List.FromFn.{map-range_with_len_more}
use Rattle.afterburner.specs.ObjectSoFar.{undefined}
use Rattle.afterburner.specs.Objects.{ordered_number, defines}
use Rattle.afterburner.proofs.Ordering.{counted_more}
use Rattle.afterburner.proofs.object.ordered_numbers.Goals as goal

pub loop-definition-preserved : goal.loop-definition-preserved
unfolding ordered_number
loop-definition-preserved c =
    let ds = c.args.definitions.now in
    let k = c.loop-definition.definition-index in
    let locals = counted_more (defines false) ds k undefined c.loop-definition-test.true in
    let globals = counted_more (defines true) ds k undefined c.loop-definition-test.true in
    let number : c.ordered.result ≡ ordered_number ds k = rw (
      c.ordered.ensures,
      c.is_global-global.ensures,
      c.local_count-all.ensures.count,
      c.loop-definition.invariant.locals,
      c.loop-definition.invariant.globals,
    ) refl in
    record {
      numbers = rw (
        map-range_with_len_more (ordered_number ds) 0 k k (omega arith),
        c.in_ok-push.ensures.items,
        c.loop-definition.invariant.numbers,
        number,
      ) refl;
      count = simp (c.in_ok-push.ensures.items, length-append) (omega arith);
      locals = rw (locals, c.one_if-locals.ensures.count, c.is_global-global.ensures, c.loop-definition.invariant.locals) refl;
      globals = rw (globals, c.one_if-globals.ensures.count, c.is_global-global.ensures, c.loop-definition.invariant.globals) refl;
      locals_few = omega (arith, c.loop-definition.invariant.locals_few, c.one_if-locals.ensures.most);
      globals_few = omega (arith, c.loop-definition.invariant.globals_few, c.one_if-globals.ensures.most);
    }

pub ordered-requires-clause-locals : goal.ordered-requires-clause-locals
ordered-requires-clause-locals c = omega (arith, c.requires, c.loop-definition.invariant.locals_few, c.loop-definition-test.true)

pub ordered-requires-clause-globals : goal.ordered-requires-clause-globals
ordered-requires-clause-globals c =
    omega (arith, c.requires, c.local_count-all.ensures.most, c.loop-definition.invariant.globals_few, c.loop-definition-test.true)

pub overflow_add-locals : goal.overflow_add-locals
overflow_add-locals c =
    omega (arith, c.requires, c.loop-definition.invariant.locals_few, c.loop-definition-test.true, c.one_if-locals.ensures.most)

pub overflow_add-globals : goal.overflow_add-globals
overflow_add-globals c =
    omega (arith, c.requires, c.loop-definition.invariant.globals_few, c.loop-definition-test.true, c.one_if-globals.ensures.most)
