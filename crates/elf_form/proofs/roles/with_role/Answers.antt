use Rattle.std.proofs.Common.{◌≡◌, ◌+◌, ◌*◌, sym, ap, ◌∙◌}
use Rattle.std.specs.Prelude.{filter}
use Rattle.elf_form.specs.declared.segments.Found.TheVariants.{Nothing}
use Rattle.elf_form.specs.Tables.{entries}
use Rattle.elf_form.specs.Finding.{with_one}
use Rattle.elf_form.specs.Whole.{IsSection}
use Rattle.elf_form.specs.Roles.{with_role, has_role}
use Rattle.elf_form.proofs.TableLaws.{found_on, found_on-all, entries-start, found-here, found-next, found-end, AllFound-with}
use Rattle.elf_form.proofs.WholeLaws.{section_at}
use Rattle.elf_form.proofs.roles.with_role.Goals as goal
use Rattle.elf_form.proofs.roles.with_role.Goals.{then-has_role, else-has_role}

pub loop-i-init : goal.loop-i-init
loop-i-init c = record {
  so_far = ap (λ xs. found_on Nothing (filter (has_role c.args.role c.args.names.now c.args.bytes.now) xs))
      (entries-start c.word-table.result 40 c.half-count.result)
      ∙ found_on-all (filter (has_role c.args.role c.args.names.now c.args.bytes.now) (entries c.word-table.result 40 c.half-count.result));
  inside = tt;
}

pub loop-i-preserved : goal.loop-i-preserved
loop-i-preserved c =
    elim c.if-has_role.branch [
      | then-has_role w ↦
          let is : c.if-has_role.found ≡ with_one c.loop-i.found (c.word-table.result + 40 * c.loop-i.i) =
          w.found-is ∙ w.with-found.ensures in
          rw is (record {
            so_far =
                sym (found-here (has_role c.args.role c.args.names.now c.args.bytes.now) c.loop-i.found c.word-table.result 40
                c.half-count.result c.loop-i.i c.loop-i-test.true (sym c.has_role.ensures ∙ w.if-has_role.true))
                ∙ c.loop-i.invariant.so_far;
            inside = AllFound-with (IsSection c.args.bytes.now) c.loop-i.found _ c.loop-i.invariant.inside
                (section_at c.args.bytes.now c.word-table.result c.half-count.result c.loop-i.i c.word-table.ensures c.half-count.ensures
                c.requires c.loop-i-test.true);
          })
      | else-has_role w ↦
          rw w.found-is (record {
            so_far =
                sym (found-next (has_role c.args.role c.args.names.now c.args.bytes.now) c.loop-i.found c.word-table.result 40
                c.half-count.result c.loop-i.i c.loop-i-test.true (sym c.has_role.ensures ∙ w.if-has_role.false))
                ∙ c.loop-i.invariant.so_far;
            inside = c.loop-i.invariant.inside;
          })
    ]

pub returns-clause-found : goal.returns-clause-found
unfolding with_role
returns-clause-found c =
    let ends = found-end (has_role c.args.role c.args.names.now c.args.bytes.now) c.loop-i.found c.word-table.result 40 c.half-count.result
    c.loop-i.i c.loop-i-test.false in
    rw (← c.word-table.ensures, ← c.half-count.ensures) (sym ends ∙ c.loop-i.invariant.so_far)
