use Rattle.std.proofs.Common.{◌≡◌, [], ◌∷◌, ◌++◌, append_assoc}
use Rattle.std.proofs.lemmas.Result.{on_ok_weaker}
use Rattle.elf_form.specs.ObjectLayout.{object_header}
use Rattle.elf_form.specs.Output.{halves}
use Rattle.elf_form.proofs.object_writing.put_header.Goals as goal

pub returns : goal.returns
unfolding object_header
returns c =
    on_ok_weaker c.put_halves-2.result
    (λ (is : c.put_halves-2.new.out.items ≡ c.put_longs.new.out.items ++ halves (52 ∷ 0 ∷ 0 ∷ 40 ∷ 10 ∷ 9 ∷ [])). rw (
      is,
      c.in_ok-put_longs.ensures,
      c.in_ok-put_halves.ensures,
      c.in_ok-extend_from_slice.ensures.items,
      c.requires.layout,
    ) (simp append_assoc))
    c.put_halves-2.ensures
