use Rattle.std.proofs.Common.{◌≡◌, ◌+◌, ◌*◌, None, sym, ap, ◌∙◌, arith}
use Rattle.plain_laws.proofs.Options.{not_some}
use Rattle.sites.specs.Reading.{head_fault}
use Rattle.sites.specs.Gapped.{gap_fault, end_at}
use Rattle.sites.proofs.GapWalk.{head_is_bad, site_is_bad, none_is_bad, here_bad, here_good, one_more, end_good, end_bad, at_end, gap_site-end}
use Rattle.sites.proofs.gapped.gapped_in.Goals as goal

pub returns-in-Some : goal.returns-in-Some
returns-in-Some c = head_is_bad c.args.bytes.now c.in-Some.at (sym c.head_fault.ensures.place ∙ c.in-Some.is)

pub returns-in-Some-gap_fault : goal.returns-in-Some-gap_fault
returns-in-Some-gap_fault c =
    let head : head_fault c.args.bytes.now 50 ≡ None =
    sym c.head_fault.ensures.place ∙ not_some c.head_fault.result c.in_default.not-Some in
    let here = here_bad c.args.bytes.now c.loop-i.from c.word-count.result c.loop-i.i c.in-Some-gap_fault.at c.loop-i-test.true
    (sym c.gap_fault.ensures.place ∙ c.in-Some-gap_fault.is) in
    site_is_bad c.args.bytes.now c.word-count.result c.in-Some-gap_fault.at head c.word-count.ensures (sym c.loop-i.invariant.so_far ∙ here)

pub loop-i-preserved : goal.loop-i-preserved
loop-i-preserved c =
    let bytes = c.args.bytes.now in
    let good : gap_fault bytes c.loop-i.from (8 + 5 * c.loop-i.i) ≡ None =
    sym c.gap_fault.ensures.place ∙ not_some c.gap_fault.result c.in_default-gap_fault.not-Some in
    let next = here_good bytes c.loop-i.from c.word-count.result c.loop-i.i c.loop-i-test.true good in
    let end : c.gap_site-site.result.at + c.gap_site-site.result.total ≡ end_at bytes c.loop-i.from (8 + 5 * c.loop-i.i) =
    ap (λ s. s.at + s.total) c.gap_site-site.ensures ∙ gap_site-end bytes c.loop-i.from (8 + 5 * c.loop-i.i) in
    record {
      so_far = rw end (sym next ∙ c.loop-i.invariant.so_far);
      sites = rw (c.in_ok-push.ensures.items, end, c.gap_site-site.ensures)
          (sym (one_more bytes c.loop-i.from c.loop-i.list.items c.word-count.result c.loop-i.i c.loop-i-test.true)
          ∙ c.loop-i.invariant.sites);
      small = omega (arith, end, c.in_default-gap_fault.ensures.end);
      room = omega (arith, c.in_default-gap_fault.ensures.room);
    }

pub returns-then-end-bytes : goal.returns-then-end-bytes
returns-then-end-bytes c =
    let head : head_fault c.args.bytes.now 50 ≡ None =
    sym c.head_fault.ensures.place ∙ not_some c.head_fault.result c.in_default.not-Some in
    let ends =
    end_bad c.args.bytes.now c.loop-i.from c.word-count.result c.loop-i.i c.loop-i-test.false (omega arith) c.if-end-bytes.true in
    site_is_bad c.args.bytes.now c.word-count.result _ head c.word-count.ensures (sym c.loop-i.invariant.so_far ∙ ends)

pub returns : goal.returns
returns c =
    let head : head_fault c.args.bytes.now 50 ≡ None =
    sym c.head_fault.ensures.place ∙ not_some c.head_fault.result c.in_default.not-Some in
    let ends =
    end_good c.args.bytes.now c.loop-i.from c.word-count.result c.loop-i.i c.loop-i-test.false (omega arith) c.if-end-bytes.false in
    none_is_bad c.args.bytes.now c.word-count.result c.loop-i.list.items head c.word-count.ensures (sym c.loop-i.invariant.so_far ∙ ends)
    (sym (at_end c.args.bytes.now c.loop-i.from c.loop-i.list.items c.word-count.result c.loop-i.i c.loop-i-test.false)
    ∙ c.loop-i.invariant.sites)
