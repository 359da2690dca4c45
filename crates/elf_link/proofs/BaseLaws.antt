-- The bases of the objects, one more.
use Rattle.std.proofs.Common.{◌≡◌, ℕ, ◌+◌, ◌<◌, ◌≤◌, List, [], ◌∷◌, ◌++◌, length, get_or, take, refl, ap, sym, ◌∙◌, subst, arith}
use Rattle.std.specs.Prelude.{map}
use Rattle.std.proofs.lemmas.List.{take_more, take-map, take_all, length-map, map-append}
use Rattle.std.proofs.lemmas.List.FromFn.{length-enumerate_from, get_or-enumerate_from}
use Rattle.elf_form.specs.ObjectParts.{ObjectParts}
use Rattle.elf_link.specs.declared.base.Base.{Base}
use Rattle.elf_link.specs.Layout.{text_room, init_room, bss_room, text_at, init_at, bss_at, base, bases, numbered}
use Rattle.elf_link.proofs.LayoutLaws.{sum-more}

-- an object with its number is the item of the numbered list
pub numbered_at : (os : List ObjectParts) (i : ℕ) (o : ObjectParts) → i < length os → get_or os i o ≡ o
    → get_or (numbered os) i (i, o) ≡ (i, o)
numbered_at os i o lt is =
    get_or-enumerate_from 0 os i (i, o) lt ∙ (ap (λ (n : ℕ). (n, get_or os i o)) (omega arith) ∙ ap (λ (p : ObjectParts). (i, p)) is)

pub length-numbered : (os : List ObjectParts) → length (numbered os) ≡ length os
length-numbered os = length-enumerate_from 0 os

pub take-numbered : (os : List ObjectParts) (i : ℕ) (o : ObjectParts) → i < length os → get_or os i o ≡ o
    → take (i + 1) (numbered os) ≡ take i (numbered os) ++ (i, o) ∷ []
take-numbered os i o lt is =
    take_more (numbered os) i (i, o) (subst (λ (n : ℕ). i < n) (sym (length-numbered os)) lt)
    ∙ ap (λ (p : ℕ × ObjectParts). take i (numbered os) ++ p ∷ []) (numbered_at os i o lt is)

pub bases-more : (os : List ObjectParts) (i : ℕ) (o : ObjectParts) → i < length os → get_or os i o ≡ o
    → take (i + 1) (bases os) ≡ take i (bases os) ++ base os i ∷ []
unfolding bases
bases-more os i o lt is =
    take-map (λ (p : ℕ × ObjectParts). base os p.0) (i + 1) (numbered os)
    ∙ (ap (map (λ (p : ℕ × ObjectParts). base os p.0)) (take-numbered os i o lt is)
    ∙ (map-append (λ (p : ℕ × ObjectParts). base os p.0) (take i (numbered os)) ((i, o) ∷ [])
    ∙ ap (λ (bs : List Base). bs ++ base os i ∷ []) (sym (take-map (λ (p : ℕ × ObjectParts). base os p.0) i (numbered os)))))

pub bases-end : (os : List ObjectParts) (i : ℕ) → length os ≤ i → take i (bases os) ≡ bases os
unfolding bases
bases-end os i le = take_all i (map (λ (p : ℕ × ObjectParts). base os p.0) (numbered os))
    (omega (arith, length-map (numbered os) (λ (p : ℕ × ObjectParts). base os p.0), length-numbered os))

-- where the parts of object i begin
pub record Begins (os : List ObjectParts) (i t n b : ℕ) : Type 0 where
  pub text : t ≡ 0x10000000 + text_at os i
  pub init : n ≡ 0x11000000 + init_at os i
  pub bss : b ≡ 0x11000000 + bss_at os i

pub begins_base : (os : List ObjectParts) (i text init bss : ℕ) → Begins os i text init bss
    → base os i ≡ record { text = text; init = init; bss = bss }
unfolding base
begins_base os i text init bss now = rw (now.text, now.init, now.bss) refl

pub begins_next : (os : List ObjectParts) (i : ℕ) (o : ObjectParts) (text init bss t n b : ℕ) → i < length os → get_or os i o ≡ o
    → Begins os i text init bss → t ≡ text_room o → n ≡ init_room o → b ≡ bss_room o → Begins os (i + 1) (text + t) (init + n) (bss + b)
begins_next os i o text init bss t n b lt is now e f g =
    record {
      text = omega (arith, now.text, e, sum-more text_room os i o lt is);
      init = omega (arith, now.init, f, sum-more init_room os i o lt is);
      bss = omega (arith, now.bss, g, sum-more bss_room os i o lt is);
    }
