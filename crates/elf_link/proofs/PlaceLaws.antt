-- Where parts stand: apart from each other, at multiples, and in the image.
use Rattle.std.proofs.Common.{◌≡◌, ℕ, zero, suc, cond, ◌+◌, ◌<◌, ◌≤◌, Bool, true, false, List, [], ◌∷◌, length, get_or, take, replicate, Some, refl, ap, sym, ◌∙◌, subst, arith, slice_get, slice_index}
use Rattle.std.specs.Prelude.{sum_by, All, ◌==◌}
use Rattle.std.specs.List.{flat_map, enumerate_from}
use Rattle.std.proofs.lemmas.Bool.{eqb-true}
use Rattle.std.proofs.lemmas.List.{take-take, get_or_append_left, get_or-take, length-append, length-take}
use Rattle.std.proofs.lemmas.List.Sums.{sum_by-take-le, sum_by-cons}
use Rattle.std.proofs.lemmas.List.Concat.{get_or-flat_map}
use Rattle.std.proofs.lemmas.Option.{get_or_from_slice_get, slice_get_within}
use Rattle.elf_form.specs.ObjectParts.{ObjectParts}
use Rattle.elf_form.specs.Output.{pad}
use Rattle.elf_link.specs.Layout.{round_up, text_size, text_room, init_size, init_room, bss_room, text_at, init_at, bss_at, text_end, init_end, extent, numbered, bases}
use Rattle.elf_link.specs.Symbols.{globals}
use Rattle.elf_form.specs.Linkable.{IsLinkable}
use Rattle.elf_link.specs.Relocations.{contents_of, with_fields}
use Rattle.elf_link.specs.Linked.{padded, texts, inits, linked_text, linked_init}
use Rattle.elf_link.proofs.LayoutLaws.{room_of, sum-more, text_end-le}
use Rattle.elf_link.proofs.RelocLaws.{length-with_fields}
use Rattle.elf_link.proofs.BaseLaws.{numbered_at, length-numbered}
use Rattle.elf_link.proofs.LinkLaws.{length-joined}

rising : (f : ObjectParts → ℕ) (os : List ObjectParts) (i j : ℕ) → i ≤ j → sum_by f (take i os) ≤ sum_by f (take j os)
rising f os i j le =
    subst (λ (xs : List ObjectParts). sum_by f xs ≤ sum_by f (take j os)) (take-take i j os le) (sum_by-take-le f (take j os) i)

-- what comes before the part of a later object has room for the part of an earlier one
apart : (f : ObjectParts → ℕ) (os : List ObjectParts) (i j : ℕ) (o : ObjectParts) → slice_get os i ≡ Some o → i < j → sum_by f (take i os)
    + f o ≤ sum_by f (take j os)
apart f os i j o at lt =
    let more = sum-more f os i o (slice_get_within os i o at) (get_or_from_slice_get os i o o at) in
    let up = rising f os (i + 1) j (omega arith) in
    omega (arith, more, up)

pub text_apart : (os : List ObjectParts) (i j : ℕ) (o : ObjectParts) → slice_get os i ≡ Some o → i < j → text_at os i
    + length o.text ≤ text_at os j
text_apart os i j o at lt = omega (arith, apart text_room os i j o at lt)

pub init_apart : (os : List ObjectParts) (i j : ℕ) (o : ObjectParts) → slice_get os i ≡ Some o → i < j → init_at os i
    + length o.init ≤ init_at os j
init_apart os i j o at lt = omega (arith, apart init_room os i j o at lt)

pub bss_apart : (os : List ObjectParts) (i j : ℕ) (o : ObjectParts) → slice_get os i ≡ Some o → i < j → bss_at os i + o.bss ≤ bss_at os j
bss_apart os i j o at lt = omega (arith, apart bss_room os i j o at lt)

pub bss_behind : (os : List ObjectParts) (i j : ℕ) (o : ObjectParts) → slice_get os i ≡ Some o → init_at os i + length o.init ≤ bss_at os j
bss_behind os i j o at =
    let more = sum-more init_room os i o (slice_get_within os i o at) (get_or_from_slice_get os i o o at) in
    omega (arith, more, sum_by-take-le init_room os (i + 1))

-- ---- the parts in the image

text_below : (os : List ObjectParts) (i : ℕ) (o : ObjectParts) → i < length os → get_or os i o ≡ o → text_at os i
    + length o.text ≤ text_end os
unfolding text_end
text_below [] i o lt is = absurd (omega arith)
text_below (p ∷ []) zero o lt is = omega (arith, ap text_size is)
text_below (p ∷ []) (suc i) o lt is = absurd (omega arith)
text_below (p ∷ q ∷ os) zero o lt is = omega (arith, ap text_size is)
text_below (p ∷ q ∷ os) (suc i) o lt is = omega (arith, text_below (q ∷ os) i o (omega arith) is, sum_by-cons text_room p (take i (q ∷ os)))

none_after : (size : ObjectParts → ℕ) (os : List ObjectParts) (i : ℕ) (o : ObjectParts) → i < length os → get_or os i o ≡ o
    → size o ≤ sum_by size os
none_after size [] i o lt is = absurd (omega arith)
none_after size (p ∷ os) zero o lt is = omega (arith, sum_by-cons size p os, ap size is)
none_after size (p ∷ os) (suc i) o lt is = omega (arith, sum_by-cons size p os, none_after size os i o (omega arith) is)

part_below : (size : ObjectParts → ℕ) (os : List ObjectParts) (i k : ℕ) (o : ObjectParts) → i < length os → get_or os i o ≡ o → k < size o
    → sum_by (room_of size) (take i os) + k < extent size os
unfolding extent
part_below size [] i k o lt is below = absurd (omega arith)
part_below size (p ∷ os) zero k o lt is below = by (sum_by size os == 0) where
  here : size p ≡ size o
  here = ap size is

  by : (b : Bool) → 0 + k < cond b (size p) (round_up 4096 (size p) + extent size os)
  by true = omega (arith, here)
  by false = omega (arith, here)
part_below size (p ∷ os) (suc i) k o lt is below =
    by (part_below size os i k o (omega arith) is below) (none_after size os i o (omega arith) is) (sum_by size os == 0) refl where
      by : sum_by (room_of size) (take i os) + k < extent size os → size o ≤ sum_by size os → (b : Bool) → (sum_by size os == 0) ≡ b
          → sum_by (room_of size) (p ∷ take i os) + k < cond b (size p) (round_up 4096 (size p) + extent size os)
      by ih some true e = absurd (let zero = eqb-true (sum_by size os) 0 e in omega arith)
      by ih some false e = omega (arith, ih, sum_by-cons (room_of size) p (take i os))

take-enumerate : (n i : ℕ) (os : List ObjectParts) → take i (enumerate_from n os) ≡ enumerate_from n (take i os)
take-enumerate n zero os = refl
take-enumerate n (suc i) [] = refl
take-enumerate n (suc i) (o ∷ os) = ap (λ (ps : List (ℕ × ObjectParts)). (n, o) ∷ ps) (take-enumerate (n + 1) i os)

all-take : (os : List ObjectParts) (i : ℕ) → All IsLinkable os → All IsLinkable (take i os)
all-take os i all = λ m d h.
    let lt : m < i = omega (arith, length-take i os) in
    subst (λ (o : ObjectParts). IsLinkable o) (sym (get_or-take i os m d lt)) (all m d (omega (arith, length-take i os)))

length-before : (os : List ObjectParts) (k fill : ℕ) (in_text : Bool) (size : ObjectParts → ℕ)
    → ((o : ObjectParts) → length (contents_of in_text o) ≡ size o) → (i : ℕ) → All IsLinkable os
    → length (flat_map (λ p. padded k fill (with_fields (bases os) (globals os) p in_text)) (take i (numbered os))) ≡ sum_by
    (λ p. round_up k (size p)) (take i os)
length-before os k fill in_text size is i all =
    ap (λ (ps : List (ℕ × ObjectParts)). length (flat_map (λ p. padded k fill (with_fields (bases os) (globals os) p in_text)) ps))
    (take-enumerate 0 i os)
    ∙ length-joined (take i os) k fill in_text size is (bases os) (globals os) 0 (all-take os i all)

stands : (os : List ObjectParts) (k fill : ℕ) (in_text : Bool) (size : ObjectParts → ℕ)
    → ((o : ObjectParts) → length (contents_of in_text o) ≡ size o) → (i j : ℕ) (o : ObjectParts) → All IsLinkable os → i < length os
    → get_or os i o ≡ o → j < size o →
    get_or (flat_map (λ p. padded k fill (with_fields (bases os) (globals os) p in_text)) (numbered os))
    (sum_by (λ p. round_up k (size p)) (take i os) + j) 0 ≡ get_or (with_fields (bases os) (globals os) (i, o) in_text) j 0
stands os k fill in_text size is i j o all lt at below =
    let f : ℕ × ObjectParts → List ℕ = λ p. padded k fill (with_fields (bases os) (globals os) p in_text) in
    let len : length (with_fields (bases os) (globals os) (i, o) in_text) ≡ size o =
    length-with_fields (bases os) (globals os) (i, o) in_text (subst (λ (p : ObjectParts). IsLinkable p) at (all i o lt)) ∙ is o in
    let here = numbered_at os i o lt at in
    let before : length (flat_map f (take i (numbered os))) ≡ sum_by (λ p. round_up k (size p)) (take i os) =
    length-before os k fill in_text size is i all in
    let inside : j < length (f (get_or (numbered os) i (i, o))) = subst (λ (p : ℕ × ObjectParts). j < length (f p)) (sym here)
    (omega (
      arith,
      len,
      length-append (with_fields (bases os) (globals os) (i, o) in_text)
          (replicate (pad k (length (with_fields (bases os) (globals os) (i, o) in_text))) fill),
    )) in
    ap (λ (n : ℕ). get_or (flat_map f (numbered os)) (n + j) 0) (sym before)
    ∙ (get_or-flat_map f (numbered os) i j (i, o) 0 (omega (arith, length-numbered os, lt)) inside
    ∙ (ap (λ (p : ℕ × ObjectParts). get_or (f p) j 0) here
    ∙ get_or_append_left (with_fields (bases os) (globals os) (i, o) in_text)
    (replicate (pad k (length (with_fields (bases os) (globals os) (i, o) in_text))) fill) 0 j (omega (arith, len))))

pub text_stands : (os : List ObjectParts) (i j : ℕ) (o : ObjectParts) → All IsLinkable os → slice_get os i ≡ Some o → j < length o.text
    → slice_index (linked_text os) (text_at os i + j) ≡ slice_index (with_fields (bases os) (globals os) (i, o) true) j
unfolding linked_text
text_stands os i j o all at below =
    let lt = slice_get_within os i o at in
    let is = get_or_from_slice_get os i o o at in
    let end = text_below os i o lt is in
    let whole = length-joined os 16 0x90 true text_size (λ p. refl) (bases os) (globals os) 0 all in
    let inside : text_at os i + j < length (take (text_end os) (texts os (numbered os))) =
    omega (arith, length-take (text_end os) (texts os (numbered os)), whole, text_end-le os, end) in
    get_or_append_left (take (text_end os) (texts os (numbered os))) (0xEB ∷ 0xFE ∷ []) 0 (text_at os i + j) inside
    ∙ (get_or-take (text_end os) (texts os (numbered os)) (text_at os i + j) 0 (omega (arith, end))
    ∙ stands os 16 0x90 true text_size (λ p. refl) i j o all lt is below)

pub init_stands : (os : List ObjectParts) (i j : ℕ) (o : ObjectParts) → All IsLinkable os → slice_get os i ≡ Some o → j < length o.init
    → slice_index (linked_init os) (init_at os i + j) ≡ slice_index (with_fields (bases os) (globals os) (i, o) false) j
unfolding linked_init
init_stands os i j o all at below =
    let lt = slice_get_within os i o at in
    let is = get_or_from_slice_get os i o o at in
    get_or-take (init_end os) (inits os (numbered os)) (init_at os i + j) 0 (part_below init_size os i j o lt is below)
    ∙ stands os 4096 0 false init_size (λ p. refl) i j o all lt is below
