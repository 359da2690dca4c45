use Rattle.std.proofs.Common.{◌≡◌, true, false, length, arith, rules}
use Rattle.std.specs.Prelude.{count_by}
use Rattle.elf_form.specs.ObjectLayout.{is_of}
use Rattle.elf_form.proofs.ObjectSizes.{parts_fit}
use Rattle.elf_form.proofs.object_writing.lengths_of.Goals as goal

pub returns : goal.returns
returns c =
    let text : c.len.result ≡ length c.args.object.now.text = search rules in
    let init : c.len-2.result ≡ length c.args.object.now.init = search rules in
    let sites : c.len-3.result ≡ length c.args.object.now.sites = search rules in
    let of_text : c.count_of.result ≡ count_by (is_of true) c.args.object.now.relocs = search rules in
    let of_data : c.count_of-2.result ≡ count_by (is_of false) c.args.object.now.relocs = search rules in
    let symbols : c.len-4.result ≡ length c.args.object.now.symbols = search rules in
    record {
      text = text;
      init = init;
      sites = sites;
      text_relocs = of_text;
      data_relocs = of_data;
      symbols = symbols;
      strings = c.requires.strings;
      small = omega (arith, parts_fit c.args.object.now);
    }
