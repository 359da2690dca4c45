use Rattle.std.proofs.Common.{◌≡◌, ℕ, ◌+◌, ◌<◌, List, [], ◌∷◌, ◌++◌, length, get_or, take, ap, ◌∙◌, append_assoc}
use Rattle.std.proofs.lemmas.List.{take_more, append-nil}
use Rattle.std.proofs.lemmas.Grind.{flat_map-append}
use Rattle.std.specs.Int.{w32, to_le_bytes}
use Rattle.elf_form.specs.declared.section_header.SectionHeader.{SectionHeader}
use Rattle.elf_form.specs.Output.{longs}
use Rattle.elf_form.specs.SectionHeaders.{fields, numbers_of}
use Rattle.elf_form.proofs.section_header.put_headers.Goals as goal

-- one more header
headers-more : (headers : List SectionHeader) (i : ℕ) (d : SectionHeader) (old now : List ℕ) → i < length headers
    → now ≡ old ++ longs (numbers_of (take i headers)) → now ++ longs (fields (get_or headers i d)) ≡ old
    ++ longs (numbers_of (take (i + 1) headers))
headers-more headers i d old now lt before =
    let h = get_or headers i d in
    let one : numbers_of (take (i + 1) headers) ≡ numbers_of (take i headers) ++ fields h =
    ap numbers_of (take_more headers i d lt)
    ∙ flat_map-append fields (take i headers) (h ∷ [])
    ∙ ap (λ (x : List ℕ). numbers_of (take i headers) ++ x) (append-nil (fields h)) in
    rw (before, one, flat_map-append (to_le_bytes w32) (numbers_of (take i headers)) (fields h))
    (append_assoc old (longs (numbers_of (take i headers))) (longs (fields h)))

pub loop-h-preserved : goal.loop-h-preserved
loop-h-preserved c =
    c.in_ok-put_longs.ensures ∙ headers-more c.args.headers.now c.loop-h.h-index _ c.args.out.now.items c.loop-h.out.items
    c.loop-h-test.true c.loop-h.invariant
