use Rattle.std.proofs.Common.{◌≡◌, ℕ, ◌<◌, ◌^◌, List, ◌++◌, length, OnOk, refl, subst, ◌∙◌, arith, rules}
use Rattle.elf_form.specs.ImageParts.{ImageParts}
use Rattle.elf_form.specs.Output.{longs}
use Rattle.elf_form.specs.ImageLayout.{program_numbers}
use Rattle.elf_form.proofs.FileWords.{text_fits}
use Rattle.elf_form.proofs.image_writing.put_programs.Goals as goal

pub returns-clause-bytes : goal.returns-clause-bytes
returns-clause-bytes c =
    let text : c.len.result ≡ length c.args.image.now.text = search rules in
    let init : c.len-2.result ≡ length c.args.image.now.init = search rules in
    let same : c.program_numbers-numbers.result ≡ program_numbers c.args.image.now =
    c.program_numbers-numbers.ensures.numbers ∙ rw (text, init, c.init_from-from.ensures, ← c.image.view_is) refl in
    subst (λ (numbers : List ℕ). OnOk c.put_longs.result (c.put_longs.new.out.items ≡ c.args.out.now.items ++ longs numbers))
    same c.put_longs.ensures

pub returns-clause-init_at : goal.returns-clause-init_at
returns-clause-init_at c = subst (λ (p : ImageParts). p.init_at < 2 ^ 32) c.image.view_is c.program_numbers-numbers.ensures.init_small

pub overflow_cast-text : goal.overflow_cast-text
overflow_cast-text c =
    let text : c.len.result ≡ length c.args.image.now.text = search rules in
    omega (arith, text, text_fits c.args.image.now c.requires)
