use Rattle.std.proofs.Common.{◌≡◌, ℕ, ◌≤◌, List, length, ap, ◌∙◌, subst, arith, refl}
use Rattle.elf_form.specs.ObjectLayout.{names_of, strings_of, object_bytes}
use Rattle.elf_form.specs.StringTable.{table_bytes}
use Rattle.elf_form.proofs.ObjectBounds.{length-object}
use Rattle.elf_form.proofs.ObjectRoundTrip.{object_read}
use Rattle.elf_form.proofs.ObjectSizes.{parts_fit}
use Rattle.elf_form.proofs.object_writing.write_object.Goals as goal

pub strings-requires : goal.strings-requires
strings-requires c =
    let symbols : c.deref.result.now ≡ c.args.object.now.symbols = c.deref.ensures.value ∙ ap (λ o. o.symbols) c.object.view_is in
    rw symbols (omega (arith, parts_fit c.args.object.now, c.requires.file))

pub put_object-requires-clause-writable : goal.put_object-requires-clause-writable
put_object-requires-clause-writable c = c.requires

pub put_object-requires-clause-strings : goal.put_object-requires-clause-strings
unfolding strings_of
put_object-requires-clause-strings c =
    let symbols : c.deref.result.now ≡ c.args.object.now.symbols = c.deref.ensures.value ∙ ap (λ o. o.symbols) c.object.view_is in
    c.deref-2.ensures.value ∙ c.in_ok-strings.ensures.bytes ∙ ap (λ s. table_bytes (names_of s)) symbols

pub returns-clause-layout : goal.returns-clause-layout
returns-clause-layout c = rw (c.in_ok-put_object.ensures.bytes, c.new-out.ensures.items) refl

pub returns-clause-size : goal.returns-clause-size
returns-clause-size c = ap length (returns-clause-layout c) ∙ length-object c.args.object.now

pub returns-clause-read_back : goal.returns-clause-read_back
returns-clause-read_back c = λ whole small.
    let is : c.put_object.new.out.items ≡ object_bytes c.args.object.now = returns-clause-layout c in
    rw is (object_read c.args.object.now whole c.in_ok-put_object.ensures.values (subst (λ (v : List ℕ). length v ≤ 33554432) is small))
