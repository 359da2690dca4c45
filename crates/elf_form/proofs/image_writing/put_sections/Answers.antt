use Rattle.std.proofs.Common.{◌≡◌, length, arith, rules}
use Rattle.elf_form.proofs.FileWords.{text_fits, sites_fit}
use Rattle.elf_form.proofs.image_writing.put_sections.Goals as goal

pub overflow_cast-text : goal.overflow_cast-text
overflow_cast-text c =
    let text : c.len.result ≡ length c.args.image.now.text = search rules in
    omega (arith, text, text_fits c.args.image.now c.requires)

pub overflow_cast-sites : goal.overflow_cast-sites
overflow_cast-sites c =
    let sites : c.len-sites.result ≡ length c.args.image.now.sites = search rules in
    omega (arith, sites, sites_fit c.args.image.now c.requires)
