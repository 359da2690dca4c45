use Rattle.std.proofs.Common.{◌≡◌, ◌+◌, ◌*◌, ◌<◌, ◌≤◌, ltb, false, sym, ap, ◌∙◌}
use Rattle.std.proofs.lemmas.Bool.{le-ltb, lt-ltb}
use Rattle.elf_form.specs.Output.{pad}
use Rattle.elf_form.specs.Roles.{size}
use Rattle.elf_form.proofs.JoinLaws.{fault-skip, fault-add, fault-here, fault-end}
use Rattle.elf_form.proofs.joining.joined_fault.Goals as goal
use Rattle.elf_form.proofs.joining.joined_fault.Goals.{then-has_role+else-more-ge4294967296, else-has_role}

pub returns-then-more-ge4294967296-clause-place : goal.returns-then-more-ge4294967296-clause-place
returns-then-more-ge4294967296-clause-place c =
    let s = c.word-table.result + 40 * c.loop-i.i in
    let w : c.word-size.result ≡ size c.args.bytes.now s = c.word-size.ensures in
    let p : c.pad.result ≡ pad 4096 (size c.args.bytes.now s) = c.pad.ensures.pad ∙ ap (pad 4096) w in
    let over : 4294967296 ≤ c.loop-i.total + (c.word-size.result + c.pad.result) = c.if-more-ge4294967296.true in
    let large : ltb (c.loop-i.total + (size c.args.bytes.now s + pad 4096 (size c.args.bytes.now s))) 4294967296 ≡ false =
    le-ltb _ _ (rw (w, p) at over) in
    rw (← c.word-table.ensures, ← c.half-count.ensures)
    (sym (fault-here c.args.role c.args.names.now c.args.bytes.now c.word-table.result c.half-count.result c.loop-i.i c.loop-i.total
    c.loop-i-test.true (sym c.has_role.ensures ∙ c.if-has_role.true) large) ∙ c.loop-i.invariant.so_far)

pub loop-i-preserved : goal.loop-i-preserved
loop-i-preserved c =
    elim c.if-has_role.branch [
      | then-has_role+else-more-ge4294967296 w ↦
          let s = c.word-table.result + 40 * c.loop-i.i in
          let z : w.word-size.result ≡ size c.args.bytes.now s = w.word-size.ensures in
          let p : w.pad.result ≡ pad 4096 (size c.args.bytes.now s) = w.pad.ensures.pad ∙ ap (pad 4096) z in
          let under : c.loop-i.total + (w.word-size.result + w.pad.result) < 4294967296 = w.if-more-ge4294967296.false in
          let below : c.loop-i.total + (size c.args.bytes.now s + pad 4096 (size c.args.bytes.now s)) < 4294967296 = rw (z, p) at under in
          rw (w.total-is, z, p) (record {
            so_far =
                sym (fault-add c.args.role c.args.names.now c.args.bytes.now c.word-table.result c.half-count.result c.loop-i.i
                c.loop-i.total c.loop-i-test.true (sym c.has_role.ensures ∙ w.if-has_role.true) (lt-ltb _ _ below))
                ∙ c.loop-i.invariant.so_far;
            small = below;
          })
      | else-has_role w ↦
          rw w.total-is (record {
            so_far =
                sym (fault-skip c.args.role c.args.names.now c.args.bytes.now c.word-table.result c.half-count.result c.loop-i.i
                c.loop-i.total c.loop-i-test.true (sym c.has_role.ensures ∙ w.if-has_role.false)) ∙ c.loop-i.invariant.so_far;
            small = c.loop-i.invariant.small;
          })
    ]

pub returns-clause-place : goal.returns-clause-place
returns-clause-place c =
    rw (← c.word-table.ensures, ← c.half-count.ensures)
    (sym (fault-end c.args.role c.args.names.now c.args.bytes.now c.word-table.result c.half-count.result c.loop-i.i c.loop-i.total
    c.loop-i-test.false) ∙ c.loop-i.invariant.so_far)
