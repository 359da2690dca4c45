use Rattle.std.proofs.Common.{◌≡◌, ◌+◌, ◌*◌, None, sym, ap, ◌∙◌, arith}
use Rattle.plain_laws.proofs.Options.{not_some}
use Rattle.guest_ram.specs.Bytes.{word32}
use Rattle.sites.specs.Reading.{head_fault, site_fault}
use Rattle.sites.proofs.Walk.{head_is_bad, site_is_bad, none_is_bad, here_bad, here_good, one_more, end_good, end_bad, at_end, site_at-at}
use Rattle.sites.proofs.reading.placed_in.Goals as goal

pub returns-in-Some : goal.returns-in-Some
returns-in-Some c = head_is_bad c.args.bytes.now c.in-Some.at (sym c.head_fault.ensures.place ∙ c.in-Some.is)

pub returns-in-Some-site_fault : goal.returns-in-Some-site_fault
returns-in-Some-site_fault c =
    let head : head_fault c.args.bytes.now 49 ≡ None =
    sym c.head_fault.ensures.place ∙ not_some c.head_fault.result c.in_default.not-Some in
    let here = here_bad c.args.bytes.now c.loop-i.least c.word-count.result c.loop-i.i c.in-Some-site_fault.at c.loop-i-test.true
    (sym c.site_fault.ensures.place ∙ c.in-Some-site_fault.is) in
    site_is_bad c.args.bytes.now c.word-count.result c.in-Some-site_fault.at head c.word-count.ensures
    (sym c.loop-i.invariant.so_far ∙ here)

pub loop-i-preserved : goal.loop-i-preserved
loop-i-preserved c =
    let bytes = c.args.bytes.now in
    let good : site_fault bytes c.loop-i.least (8 + 8 * c.loop-i.i) ≡ None =
    sym c.site_fault.ensures.place ∙ not_some c.site_fault.result c.in_default-site_fault.not-Some in
    let next = here_good bytes c.loop-i.least c.word-count.result c.loop-i.i c.loop-i-test.true good in
    let at : c.site_at-site.result.at ≡ word32 bytes (8 + 8 * c.loop-i.i) =
    ap (λ s. s.at) c.site_at-site.ensures ∙ site_at-at bytes (8 + 8 * c.loop-i.i) in
    record {
      so_far = rw at (sym next ∙ c.loop-i.invariant.so_far);
      sites = rw (c.in_ok-push.ensures.items, c.site_at-site.ensures)
          (sym (one_more bytes c.loop-i.list.items c.word-count.result c.loop-i.i c.loop-i-test.true) ∙ c.loop-i.invariant.sites);
      room = omega (arith, c.in_default-site_fault.ensures.room);
    }

pub returns-then-end-bytes : goal.returns-then-end-bytes
returns-then-end-bytes c =
    let head : head_fault c.args.bytes.now 49 ≡ None =
    sym c.head_fault.ensures.place ∙ not_some c.head_fault.result c.in_default.not-Some in
    let ends =
    end_bad c.args.bytes.now c.loop-i.least c.word-count.result c.loop-i.i c.loop-i-test.false (omega arith) c.if-end-bytes.true in
    site_is_bad c.args.bytes.now c.word-count.result _ head c.word-count.ensures (sym c.loop-i.invariant.so_far ∙ ends)

pub returns : goal.returns
returns c =
    let head : head_fault c.args.bytes.now 49 ≡ None =
    sym c.head_fault.ensures.place ∙ not_some c.head_fault.result c.in_default.not-Some in
    let ends =
    end_good c.args.bytes.now c.loop-i.least c.word-count.result c.loop-i.i c.loop-i-test.false (omega arith) c.if-end-bytes.false in
    none_is_bad c.args.bytes.now c.word-count.result c.loop-i.list.items head c.word-count.ensures (sym c.loop-i.invariant.so_far ∙ ends)
    (sym (at_end c.args.bytes.now c.loop-i.list.items c.word-count.result c.loop-i.i c.loop-i-test.false) ∙ c.loop-i.invariant.sites)
