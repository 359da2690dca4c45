use Rattle.std.proofs.Common.{◌≡◌, ◌+◌, ◌*◌, ◌++◌, sym, ap, ◌∙◌, arith, append_assoc}
use Rattle.std.proofs.lemmas.List.{append-nil}
use Rattle.elf_form.specs.Roles.{alignment, up}
use Rattle.elf_form.proofs.JoinLaws.{starts-skip, starts-add, starts-end, end-skip, end-add, end-end}
use Rattle.elf_form.proofs.joining.starts.Goals as goal
use Rattle.elf_form.proofs.joining.starts.Goals.{then-has_role, else-has_role}

pub loop-i-preserved : goal.loop-i-preserved
loop-i-preserved c =
    elim c.if-has_role.branch [
      | then-has_role w ↦
          let s = c.word-table.result + 40 * c.loop-i.i in
          let a : w.up-start.result ≡ up (alignment c.args.bytes.now s) c.loop-i.end =
          w.up-start.ensures.exact ∙ ap (λ x. up x c.loop-i.end) w.word.ensures in
          let near = w.up-start.ensures.near in
          let has = sym c.has_role.ensures ∙ w.if-has_role.true in
          record {
            starts = rw (c.in_ok-push.ensures.items, w.end-is, w.start-is, a, w.word-then-has_role.ensures)
                (append_assoc c.loop-i.list.items _ _ ∙ ap (λ x. c.loop-i.list.items ++ x)
                (sym (starts-add c.args.role c.args.names.now c.args.bytes.now c.word-table.result c.half-count.result c.loop-i.i
                c.loop-i.end c.loop-i-test.true has)) ∙ c.loop-i.invariant.starts);
            end = rw (w.end-is, a, w.word-then-has_role.ensures)
                (sym (end-add c.args.role c.args.names.now c.args.bytes.now c.word-table.result c.half-count.result c.loop-i.i c.loop-i.end
                c.loop-i-test.true has) ∙ c.loop-i.invariant.end);
            small = rw w.end-is (omega arith);
          }
      | else-has_role w ↦
          let none = sym c.has_role.ensures ∙ w.if-has_role.false in
          record {
            starts = rw (c.in_ok-push.ensures.items, w.end-is, w.start-is)
                (append_assoc c.loop-i.list.items _ _ ∙ ap (λ x. c.loop-i.list.items ++ x)
                (sym (starts-skip c.args.role c.args.names.now c.args.bytes.now c.word-table.result c.half-count.result c.loop-i.i
                c.loop-i.end c.loop-i-test.true none)) ∙ c.loop-i.invariant.starts);
            end =
                rw w.end-is (sym (end-skip c.args.role c.args.names.now c.args.bytes.now c.word-table.result c.half-count.result c.loop-i.i
                c.loop-i.end c.loop-i-test.true none) ∙ c.loop-i.invariant.end);
            small = rw w.end-is (omega arith);
          }
    ]

pub returns-clause-starts : goal.returns-clause-starts
returns-clause-starts c =
    rw (← c.word-table.ensures, ← c.half-count.ensures)
    (sym (append-nil c.loop-i.list.items) ∙ ap (λ x. c.loop-i.list.items ++ x)
    (sym (starts-end c.args.role c.args.names.now c.args.bytes.now c.word-table.result c.half-count.result c.loop-i.i c.loop-i.end
    c.loop-i-test.false)) ∙ c.loop-i.invariant.starts)

pub returns-clause-end : goal.returns-clause-end
returns-clause-end c =
    rw (← c.word-table.ensures, ← c.half-count.ensures)
    (sym (end-end c.args.role c.args.names.now c.args.bytes.now c.word-table.result c.half-count.result c.loop-i.i c.loop-i.end
    c.loop-i-test.false) ∙ c.loop-i.invariant.end)
