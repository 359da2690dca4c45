use Rattle.std.proofs.Common.{sym, ◌∙◌, arith}
use Rattle.elf_form.proofs.WholeLaws.{section_of_index}
use Rattle.elf_form.proofs.sections.strings_in.Goals as goal

pub contents-requires : goal.contents-requires
contents-requires c = section_of_index c.args.bytes.now c.word-table.result c.args.index c.word-table.ensures c.requires
    (sym c.is_index.ensures ∙ c.if-not-is_index.false)

pub word-requires : goal.word-requires
word-requires c = omega (
  arith,
  (section_of_index c.args.bytes.now c.word-table.result c.args.index c.word-table.ensures c.requires
      (sym c.is_index.ensures ∙ c.if-not-is_index.false)).0,
)
