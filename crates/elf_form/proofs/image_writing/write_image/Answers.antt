use Rattle.std.proofs.Common.{◌≡◌, ℕ, ◌≤◌, List, [], length, replicate, subst}
use Rattle.elf_form.specs.ImageLayout.{header, program_numbers, section_numbers, body, image_bytes}
use Rattle.elf_form.specs.Output.{longs}
use Rattle.elf_form.specs.Writable.{HasLongs}
use Rattle.elf_form.proofs.AppendLaws.{chain_file}
use Rattle.elf_form.proofs.RoundTrip.{read_again}
use Rattle.elf_form.proofs.image_writing.write_image.Goals as goal

pub returns-clause-layout : goal.returns-clause-layout
unfolding image_bytes
returns-clause-layout c =
    rw (
      c.in_ok-put_sections.ensures,
      c.in_ok-put_body.ensures,
      c.in_ok-put_zeros.ensures,
      c.in_ok-put_programs.ensures.bytes,
      c.in_ok-put_header.ensures.bytes,
      c.new-out.ensures.items,
    )
    (chain_file [] (header c.args.image.now) (longs (program_numbers c.args.image.now)) (replicate 3980 0) (body c.args.image.now)
    (longs (section_numbers c.args.image.now)))

pub returns-clause-read_back : goal.returns-clause-read_back
returns-clause-read_back c = λ small.
    let longs : HasLongs c.args.image.now = record {
      entry = c.in_ok-put_header.ensures.entry;
      text_at = c.in_ok-put_programs.ensures.text_at;
      init_at = c.in_ok-put_programs.ensures.init_at;
    } in
    let is : c.put_sections.new.out.items ≡ image_bytes c.args.image.now = returns-clause-layout c in
    rw is (read_again c.args.image.now c.requires longs (subst (λ (v : List ℕ). length v ≤ 33554432) is small))

pub put_header-requires : goal.put_header-requires
put_header-requires c = c.requires

pub put_programs-requires : goal.put_programs-requires
put_programs-requires c = c.requires

pub put_body-requires : goal.put_body-requires
put_body-requires c = c.requires

pub put_sections-requires : goal.put_sections-requires
put_sections-requires c = c.requires
