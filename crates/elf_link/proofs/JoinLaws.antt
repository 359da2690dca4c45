-- Parts one after the other.
use Rattle.std.proofs.Common.{◌≡◌, ℕ, ◌+◌, ◌<◌, ◌≤◌, Bool, List, [], ◌∷◌, ◌++◌, length, get_or, take, ap, sym, ◌∙◌, arith}
use Rattle.std.specs.List.{flat_map}
use Rattle.std.proofs.lemmas.List.{take_all, append-nil}
use Rattle.std.proofs.lemmas.List.Concat.{flat_map-append}
use Rattle.elf_form.specs.ObjectParts.{ObjectParts}
use Rattle.elf_link.specs.declared.base.Base.{Base}
use Rattle.elf_link.specs.declared.target.Target.{Target}
use Rattle.elf_link.specs.Layout.{numbered, bases}
use Rattle.elf_link.specs.Symbols.{globals}
use Rattle.elf_link.specs.Relocations.{with_fields}
use Rattle.elf_link.specs.Linked.{padded}
use Rattle.elf_link.proofs.BaseLaws.{take-numbered, length-numbered}

-- the parts of some objects
abbrev pub joined : List ObjectParts → ℕ → ℕ → Bool → List (ℕ × ObjectParts) → List ℕ
joined os k fill in_text ps = flat_map (λ p. padded k fill (with_fields (bases os) (globals os) p in_text)) ps

pub joined-more : (os : List ObjectParts) (k fill : ℕ) (in_text : Bool) (i : ℕ) (o : ObjectParts) (bs : List Base)
    (gs : List (List ℕ × Target)) (old new part : List ℕ) → i < length os → get_or os i o ≡ o → bs ≡ bases os → gs ≡ globals os
    → old ≡ joined os k fill in_text (take i (numbered os)) → part ≡ with_fields bs gs (i, o) in_text → new ≡ old ++ padded k fill part
    → new ≡ joined os k fill in_text (take (i + 1) (numbered os))
joined-more os k fill in_text i o bs gs old new part lt is be ge so_far made step =
    let whole : part ≡ with_fields (bases os) (globals os) (i, o) in_text = made
    ∙ (ap (λ (b : List Base). with_fields b gs (i, o) in_text) be
    ∙ ap (λ (g : List (List ℕ × Target)). with_fields (bases os) g (i, o) in_text) ge) in
    step
    ∙ (ap (λ (bytes : List ℕ). old ++ padded k fill bytes) whole
    ∙ (ap (λ (bytes : List ℕ). bytes ++ padded k fill (with_fields (bases os) (globals os) (i, o) in_text)) so_far
    ∙ sym (ap (joined os k fill in_text) (take-numbered os i o lt is)
    ∙ (flat_map-append (λ (p : ℕ × ObjectParts). padded k fill (with_fields (bases os) (globals os) p in_text))
    (take i (numbered os)) ((i, o) ∷ [])
    ∙ ap (λ (l : List ℕ). joined os k fill in_text (take i (numbered os)) ++ l)
    (append-nil (padded k fill (with_fields (bases os) (globals os) (i, o) in_text)))))))

pub joined-all : (os : List ObjectParts) (k fill : ℕ) (in_text : Bool) (i : ℕ) → length os ≤ i
    → joined os k fill in_text (take i (numbered os)) ≡ joined os k fill in_text (numbered os)
joined-all os k fill in_text i le = ap (joined os k fill in_text) (take_all i (numbered os) (omega (arith, length-numbered os)))
