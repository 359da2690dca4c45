-- The linked image and its sizes.
use Rattle.std.proofs.Common.{◌≡◌, ℕ, suc, ◌+◌, ◌-◌, ◌<◌, ◌≤◌, Bool, true, false, List, [], ◌∷◌, length, take, replicate, Option, Some, None, Ok, Err, refl, ap, sym, ◌∙◌, arith}
use Rattle.std.specs.Prelude.{sum_by, All}
use Rattle.std.specs.List.{flat_map, enumerate_from}
use Rattle.std.specs.Option.{option_or}
use Rattle.std.proofs.lemmas.List.{length-append, length-replicate, length-take-le}
use Rattle.std.proofs.lemmas.List.Sums.{sum_by-cons}
use Rattle.elf_form.specs.ObjectParts.{ObjectParts}
use Rattle.elf_form.specs.ImageParts.{ImageParts}
use Rattle.elf_form.specs.Output.{pad}
use Rattle.elf_form.specs.ImageLayout.{init_from, sites_from, names_from, sections_from}
use Rattle.elf_form.specs.Writable.{IsWritableImage}
use Rattle.sites.specs.declared.limits.TheConstants.{TEXT_LIMIT}
use Rattle.sites.specs.Spelling.{spelling}
use Rattle.sites.specs.Limits.{in_text}
use Rattle.elf_link.specs.declared.base.Base.{Base}
use Rattle.elf_link.specs.declared.target.Target.{Target}
use Rattle.elf_link.specs.declared.fault.LinkFault.{LinkFault}
use Rattle.elf_link.specs.declared.fault.LinkFault.TheVariants as faults
use Rattle.elf_link.specs.Layout.{round_up, text_size, init_size, text_end, init_end, memory_end, numbered, bases}
use Rattle.elf_link.specs.Symbols.{globals}
use Rattle.elf_form.specs.Linkable.{IsLinkable}
use Rattle.elf_link.specs.Relocations.{contents_of, with_fields}
use Rattle.elf_link.specs.Sites.{linked_sites}
use Rattle.elf_form.specs.Tables.{first_some}
use Rattle.sites.specs.Reading.{unless}
use Rattle.elf_link.specs.Refusals.{Refused, refusal, object_refusal, relocs_refusal, start_refusal, start}
use Rattle.elf_link.specs.Linked.{padded, texts, inits, linked_text, linked_init, image, linked_image, entry_at}
use Rattle.elf_link.specs.Steps.{tested, entered}
use Rattle.elf_link.specs.Answers.{Fails}
use Rattle.elf_link.proofs.FirstLaws.{none_from_tested}
use Rattle.elf_link.proofs.RelocLaws.{length-with_fields}
use Rattle.elf_link.proofs.LayoutLaws.{text_end-le, extent-within}

module _ (os : List ObjectParts) where
  first_fails : (w : Refused) (o : Option Refused) → first_some (object_refusal os) (numbered os) ≡ o → tested o ≡ Err w
      → linked_image os ≡ Err w
  unfolding linked_image refusal
  first_fails w None p h = absurd (cc)
  first_fails w (Some r) p h =
      ap (λ (o : Option Refused). unless (option_or o (option_or (first_some (relocs_refusal os) (numbered os)) (start_refusal (start os))))
      (image os)) p ∙ cc

  pub objects_fail : (e : LinkFault) → Fails e (tested (first_some (object_refusal os) (numbered os))) → Fails e (linked_image os)
  objects_fail faults.Memory h = tt
  objects_fail (faults.At object cause) h =
      first_fails (record { object = object; cause = cause }) (first_some (object_refusal os) (numbered os)) refl h

  module _ (passed : tested (first_some (object_refusal os) (numbered os)) ≡ Ok tt) where
    second : linked_image os ≡ unless (option_or (first_some (relocs_refusal os) (numbered os)) (start_refusal (start os))) (image os)
    unfolding linked_image refusal
    second =
        ap (λ (o : Option Refused). unless
        (option_or o (option_or (first_some (relocs_refusal os) (numbered os)) (start_refusal (start os)))) (image os))
        (none_from_tested _ passed)

    second_fails : (w : Refused) (o : Option Refused) → first_some (relocs_refusal os) (numbered os) ≡ o → tested o ≡ Err w
        → linked_image os ≡ Err w
    second_fails w None p h = absurd (cc)
    second_fails w (Some r) p h = second ∙ (ap (λ (o : Option Refused). unless (option_or o (start_refusal (start os))) (image os)) p ∙ cc)

    pub relocs_fail_all : (e : LinkFault) → Fails e (tested (first_some (relocs_refusal os) (numbered os))) → Fails e (linked_image os)
    relocs_fail_all faults.Memory h = tt
    relocs_fail_all (faults.At object cause) h =
        second_fails (record { object = object; cause = cause }) (first_some (relocs_refusal os) (numbered os)) refl h

    module _ (named : tested (first_some (relocs_refusal os) (numbered os)) ≡ Ok tt) where
      third : linked_image os ≡ unless (start_refusal (start os)) (image os)
      third = second ∙ ap (λ (o : Option Refused). unless (option_or o (start_refusal (start os))) (image os)) (none_from_tested _ named)

      third_fails : (w : Refused) (o : Option Refused) → start_refusal (start os) ≡ o → unless o (entry_at (bases os) (start os)) ≡ Err w
          → linked_image os ≡ Err w
      third_fails w None p h = absurd (cc)
      third_fails w (Some r) p h = third ∙ (ap (λ (o : Option Refused). unless o (image os)) p ∙ cc)

      pub start_fails : (e : LinkFault) → Fails e (entered (bases os) (globals os)) → Fails e (linked_image os)
      unfolding entered
      start_fails faults.Memory h = tt
      start_fails (faults.At object cause) h = third_fails (record { object = object; cause = cause }) (start_refusal (start os)) refl h

      linked_by : (n : ℕ) (o : Option Refused) → start_refusal (start os) ≡ o → unless o (entry_at (bases os) (start os)) ≡ Ok n
          → (linked_image os ≡ Ok (image os)) × (n ≡ entry_at (bases os) (start os))
      linked_by n None p h = (third ∙ ap (λ (o : Option Refused). unless o (image os)) p, cc)
      linked_by n (Some r) p h = absurd (cc)

      pub linked_ok : (n : ℕ) → entered (bases os) (globals os) ≡ Ok n → (linked_image os ≡ Ok (image os))
          × (n ≡ entry_at (bases os) (start os))
      unfolding entered
      linked_ok n h = linked_by n (start_refusal (start os)) refl h

pub image_is : (os : List ObjectParts) (text init sites : List ℕ) (bss entry : ℕ) → text ≡ linked_text os → init ≡ linked_init os
    → bss ≡ memory_end os - init_end os → entry ≡ entry_at (bases os) (start os)
    → sites ≡ spelling (in_text (length (linked_text os)) (linked_sites os)) → image os ≡ record {
      text = text;
      init = init;
      bss = bss;
      entry = entry;
      text_at = 0x10000000;
      init_at = 0x11000000;
      sites = sites;
    }
unfolding image
image_is os text init sites bss entry p q r s t = λ j. record {
  text = sym p j;
  init = sym q j;
  bss = sym r j;
  entry = sym s j;
  text_at = 0x10000000;
  init_at = 0x11000000;
  sites = sym t j;
}

-- ---- sizes

pub length-joined : (os : List ObjectParts) (k fill : ℕ) (in_text : Bool) (size : ObjectParts → ℕ)
    → ((o : ObjectParts) → length (contents_of in_text o) ≡ size o) → (bs : List Base) (gs : List (List ℕ × Target)) (n : ℕ)
    → All IsLinkable os → length (flat_map (λ p. padded k fill (with_fields bs gs p in_text)) (enumerate_from n os)) ≡ sum_by
    (λ o. round_up k (size o)) os
length-joined [] k fill in_text size is bs gs n all = refl
length-joined (o ∷ os) k fill in_text size is bs gs n all =
    let here : length (with_fields bs gs (n, o) in_text) ≡ size o =
    length-with_fields bs gs (n, o) in_text (all 0 o (omega arith)) ∙ is o in
    let rest = length-joined os k fill in_text size is bs gs (n + 1) (λ i d h. all (suc i) d (omega arith)) in
    let len : length (padded k fill (with_fields bs gs (n, o) in_text)) ≡ round_up k (size o) =
    length-append (with_fields bs gs (n, o) in_text) (replicate (pad k (length (with_fields bs gs (n, o) in_text))) fill)
    ∙ (ap (λ (m : ℕ). length (with_fields bs gs (n, o) in_text) + m)
    (length-replicate (pad k (length (with_fields bs gs (n, o) in_text))) fill) ∙ ap (round_up k) here) in
    length-append (padded k fill (with_fields bs gs (n, o) in_text))
    (flat_map (λ p. padded k fill (with_fields bs gs p in_text)) (enumerate_from (n + 1) os))
    ∙ omega (arith, len, rest, sum_by-cons (λ (p : ObjectParts). round_up k (size p)) o os)

pub length-linked_text : (os : List ObjectParts) → All IsLinkable os → length (linked_text os) ≡ text_end os + 2
unfolding linked_text
length-linked_text os all =
    let whole = length-joined os 16 0x90 true text_size (λ o. refl) (bases os) (globals os) 0 all in
    let le : text_end os ≤ length (texts os (numbered os)) = omega (arith, whole, text_end-le os) in
    length-append (take (text_end os) (texts os (numbered os))) (0xEB ∷ 0xFE ∷ [])
    ∙ ap (λ (n : ℕ). n + 2) (length-take-le (text_end os) (texts os (numbered os)) le)

pub length-linked_init : (os : List ObjectParts) → All IsLinkable os → length (linked_init os) ≡ init_end os
unfolding linked_init
length-linked_init os all =
    let whole = length-joined os 4096 0 false init_size (λ o. refl) (bases os) (globals os) 0 all in
    length-take-le (init_end os) (inits os (numbered os)) (omega (arith, whole, extent-within init_size os))

pub entered_same : (os : List ObjectParts) (bs : List Base) (gs : List (List ℕ × Target)) → bs ≡ bases os → gs ≡ globals os
    → entered (bases os) (globals os) ≡ entered bs gs
entered_same os bs gs p q = λ j. entered (sym p j) (sym q j)

-- an image within the limits fits a file
pub writable : (p : ImageParts) → length p.text ≤ TEXT_LIMIT → length p.init + p.bss ≤ 33554432
    → length p.sites ≤ 2097160 → IsWritableImage p
unfolding init_from sites_from names_from sections_from
writable p text room sites =
    let a : pad 4096 (4096 + length p.text) < 4096 = omega arith in
    let b : init_from p ≤ 4096 + TEXT_LIMIT + 4096 = omega (arith, a) in
    let c : sites_from p ≤ init_from p + length p.init + 4 = omega arith in
    let d : sections_from p ≤ names_from p + 42 = omega arith in
    record { file = omega (arith, b, c, d); memory = omega arith }
