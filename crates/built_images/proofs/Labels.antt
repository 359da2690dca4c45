-- What relocations and the entry name in linked objects: labels of texts.
use Rattle.std.proofs.Common.{◌≡◌, ℕ, zero, suc, ◌+◌, ◌-◌, ◌<◌, ◌^◌, ◌%◌, Bool, true, false, not, cond, ◌&&◌, List, [], ◌∷◌, length, map, Option, Some, None, refl, sym, ap, subst, ◌∙◌, arith}
use Rattle.std.specs.Prelude.{slice_get, filter}
use Rattle.std.specs.List.{flat_map, enumerate_from, All, Contains}
use Rattle.std.specs.Str.{bytes_eq}
use Rattle.std.proofs.lemmas.List.Elements.{All-nil, All-head, All-tail, All-append, All-map, All-filter, All-contains_itself, All-weaker}
use Rattle.elf_form.specs.declared.object.Place.{Place}
use Rattle.elf_form.specs.declared.object.Place.TheVariants.{Undefined, Text, Init, Bss}
use Rattle.elf_form.specs.declared.object.Symbol.{Symbol}
use Rattle.elf_form.specs.declared.object.Reloc.{Reloc}
use Rattle.elf_form.specs.ObjectParts.{ObjectParts}
use Rattle.elf_link.specs.declared.target.Target.{Target}
use Rattle.elf_link.specs.declared.fault.LinkCause.TheVariants.{NotText}
use Rattle.elf_link.specs.Layout.{text_at, base, bases, or_zero}
use Rattle.elf_link.specs.Symbols.{is_defined, is_text, is_exported, target, exports, definitions, lookup, globals, target_of, place_at, address}
use Rattle.elf_link.specs.Relocations.{target_by, target_cause, symbol_cause, reloc_cause, address_by}

-- A place in the text of an object at which a symbol of it stands.
pub record IsLabelled (os : List ObjectParts) (n : ℕ) : Type 0 where
  pub number : ℕ
  pub object : ObjectParts
  pub there : slice_get os number ≡ Some object
  pub symbol : Symbol
  pub listed : Contains object.symbols symbol
  pub in_text : symbol.place ≡ Text
  pub place : n ≡ text_at os number + symbol.value

-- What a symbol of an object stands for.
pub record IsMeant (os : List ObjectParts) (t : Target) : Type 0 where
  pub object : ObjectParts
  pub there : slice_get os t.object ≡ Some object
  pub symbol : Symbol
  pub listed : Contains object.symbols symbol
  pub place : t.place ≡ symbol.place
  pub value : t.value ≡ symbol.value

pub behind : (n k : ℕ) → (n + 1) + k ≡ n + suc k
behind n k = omega arith

-- ---- each definition is that of a symbol

symbols_meant : (os : List ObjectParts) (j : ℕ) (o : ObjectParts) → slice_get os j ≡ Some o
    → All (λ (d : List ℕ × Target). IsMeant os d.1) (exports (j, o))
symbols_meant os j o there =
    All-map (λ (d : List ℕ × Target). IsMeant os d.1) (λ (s : Symbol). (s.name, target j s)) (filter is_exported o.symbols)
    (All-weaker (Contains o.symbols) (λ (s : Symbol). IsMeant os (target j s))
    (λ s c. record { object = o; there = there; symbol = s; listed = c; place = refl; value = refl }) (filter is_exported o.symbols)
    (All-filter is_exported (Contains o.symbols) o.symbols (All-contains_itself o.symbols)))

rest_meant : (os : List ObjectParts) (n : ℕ) (rest : List ObjectParts)
    → ((k : ℕ) (o : ObjectParts) → slice_get rest k ≡ Some o → slice_get os (n + k) ≡ Some o)
    → All (λ (d : List ℕ × Target). IsMeant os d.1) (definitions (enumerate_from n rest))
unfolding definitions
rest_meant os n [] h = All-nil (λ (d : List ℕ × Target). IsMeant os d.1)
rest_meant os n (o ∷ rest) h =
    let z : n + 0 ≡ n = omega arith in
    All-append (λ (d : List ℕ × Target). IsMeant os d.1) (exports (n, o)) (flat_map exports (enumerate_from (n + 1) rest))
    (symbols_meant os n o (ap (slice_get os) (sym z) ∙ h 0 o refl))
    (rest_meant os (n + 1) rest (λ k p e. ap (slice_get os) (behind n k) ∙ h (suc k) p e))

all_meant : (os : List ObjectParts) → All (λ (d : List ℕ × Target). IsMeant os d.1) (globals os)
all_meant os = rest_meant os 0 os (λ k o e. let z : 0 + k ≡ k = omega arith in ap (slice_get os) z ∙ e)

looked_up : (os : List ObjectParts) (name : List ℕ) (ds : List (List ℕ × Target)) (t : Target)
    → All (λ (d : List ℕ × Target). IsMeant os d.1) ds → lookup name ds ≡ Some t → IsMeant os t
unfolding lookup
looked_up os name [] t h e = absurd cc
looked_up os name (d ∷ ds) t h e =
    by_name (bytes_eq name d.0) (looked_up os name ds t (All-tail (λ (d : List ℕ × Target). IsMeant os d.1) d ds h)) e where
      by_name : (b : Bool) → (lookup name ds ≡ Some t → IsMeant os t) → cond b (Some d.1) (lookup name ds) ≡ Some t → IsMeant os t
      by_name true later e = let same : d.1 ≡ t = cc in subst (IsMeant os) same (All-head (λ (d : List ℕ × Target). IsMeant os d.1) d ds h)
      by_name false later e = later e

pub global_meant : (os : List ObjectParts) (name : List ℕ) (t : Target) → lookup name (globals os) ≡ Some t → IsMeant os t
global_meant os name t e = looked_up os name (globals os) t (all_meant os) e

symbol_meant : (os : List ObjectParts) (i : ℕ) (o : ObjectParts) (s : Symbol) (t : Target) → slice_get os i ≡ Some o → Contains o.symbols s
    → target_of (globals os) i s ≡ Some t → IsMeant os t
unfolding target_of
symbol_meant os i o s t there c e = by_defined (is_defined s.place) e where
  by_global : (b : Bool) → cond b (lookup s.name (globals os)) None ≡ Some t → IsMeant os t
  by_global true e = global_meant os s.name t e
  by_global false e = absurd cc

  by_defined : (b : Bool) → cond b (Some (target i s)) (cond s.global (lookup s.name (globals os)) None) ≡ Some t → IsMeant os t
  by_defined true e = let same : target i s ≡ t =
      cc in subst (IsMeant os) same (record { object = o; there = there; symbol = s; listed = c; place = refl; value = refl })
  by_defined false e = by_global s.global e

-- ---- where it is

bases_got : (os : List ObjectParts) (n : ℕ) (rest : List ObjectParts) (k : ℕ) (o : ObjectParts) → slice_get rest k ≡ Some o
    → slice_get (map (λ p. base os p.0) (enumerate_from n rest)) k ≡ Some (base os (n + k))
bases_got os n [] k o e = absurd cc
bases_got os n (p ∷ rest) zero o e = let z : n ≡ n + 0 = omega arith in ap (λ m. Some (base os m)) z
bases_got os n (p ∷ rest) (suc k) o e = bases_got os (n + 1) rest k o e ∙ ap (λ m. Some (base os m)) (behind n k)

pub base_got : (os : List ObjectParts) (k : ℕ) (o : ObjectParts) → slice_get os k ≡ Some o → or_zero (slice_get (bases os) k) ≡ base os k
unfolding bases
base_got os k o e = let z : 0 + k ≡ k = omega arith in ap or_zero (bases_got os 0 os k o e) ∙ ap (base os) z

base_text : (os : List ObjectParts) (k : ℕ) → (base os k).text ≡ 0x10000000 + text_at os k
unfolding base
base_text os k = refl

text_place_is : (p : Place) → is_text p ≡ true → p ≡ Text
text_place_is Undefined e = absurd cc
text_place_is Text e = refl
text_place_is Init e = absurd cc
text_place_is Bss e = absurd cc

pub text_address : (os : List ObjectParts) (t : Target) (m : IsMeant os t) → is_text t.place ≡ true
    → address (bases os) t ≡ (0x10000000 + text_at os t.object + m.symbol.value) % 2 ^ 32
unfolding address
text_address os t m e =
    ap (λ p. (place_at p (or_zero (slice_get (bases os) t.object)) + t.value) % 2 ^ 32) (text_place_is t.place e)
    ∙ ap (λ b. (place_at Text b + t.value) % 2 ^ 32) (base_got os t.object m.object m.there)
    ∙ ap (λ n. (n + t.value) % 2 ^ 32) (base_text os t.object)
    ∙ ap (λ n. (0x10000000 + text_at os t.object + n) % 2 ^ 32) m.value

pub labelled : (os : List ObjectParts) (t : Target) (m : IsMeant os t) → is_text t.place ≡ true
    → IsLabelled os (text_at os t.object + m.symbol.value)
labelled os t m e = record {
  number = t.object;
  object = m.object;
  there = m.there;
  symbol = m.symbol;
  listed = m.listed;
  in_text = sym m.place ∙ text_place_is t.place e;
  place = refl;
}

-- ---- a relocation that is not refused

pub record IsAimed (os : List ObjectParts) (i : ℕ) (r : Reloc) (address_is : ℕ) : Type 0 where
  pub label : ℕ
  pub is : IsLabelled os label
  pub at : address_is ≡ (0x10000000 + label) % 2 ^ 32

no_cause : (r : Reloc) (s : Symbol) (t : Target) → r.in_text ≡ true → r.relative ≡ true → target_cause r s (Some t) ≡ None
    → is_text t.place ≡ true
no_cause r s t in_text relative e =
    by_place (is_text t.place)
    (sym (ap (λ b. cond (b && r.relative && not (is_text t.place)) (Some (NotText r.at)) None) in_text
    ∙ ap (λ b. cond (b && not (is_text t.place)) (Some (NotText r.at)) None) relative) ∙ e) where
      by_place : (b : Bool) → cond (not b) (Some (NotText r.at)) None ≡ None → b ≡ true
      by_place true e = refl
      by_place false e = absurd cc

aimed : (os : List ObjectParts) (i : ℕ) (o : ObjectParts) (r : Reloc) (s : Symbol) → slice_get os i ≡ Some o → Contains o.symbols s
    → r.in_text ≡ true → r.relative ≡ true → (ot : Option Target) → target_of (globals os) i s ≡ ot → target_cause r s ot ≡ None
    → IsAimed os i r (address_by (bases os) ot)
aimed os i o r s there c in_text relative None is e = absurd cc
aimed os i o r s there c in_text relative (Some t) is e =
    let m = symbol_meant os i o s t there c is in
    let text = no_cause r s t in_text relative e in
    let add : 0x10000000 + text_at os t.object + m.symbol.value ≡ 0x10000000 + (text_at os t.object + m.symbol.value) = omega arith in
    record {
      label = text_at os t.object + m.symbol.value;
      is = labelled os t m text;
      at = text_address os t m text ∙ ap (λ n. n % 2 ^ 32) add;
    }

got_contains : (ss : List Symbol) (k : ℕ) (s : Symbol) → slice_get ss k ≡ Some s → Contains ss s
got_contains [] k s e = absurd cc
got_contains (x ∷ ss) zero s e = (0, omega arith, cc)
got_contains (x ∷ ss) (suc k) s e = let c = got_contains ss k s e in (suc c.0, omega (arith, c.1), c.2)

abbrev aim_of : List ObjectParts → ℕ → Option Symbol → ℕ
aim_of os i os' = address_by (bases os) (target_by (globals os) i os')

by_symbol : (os : List ObjectParts) (i : ℕ) (o : ObjectParts) (r : Reloc) → slice_get os i ≡ Some o → r.in_text ≡ true → r.relative ≡ true
    → (s : Option Symbol) → slice_get o.symbols r.symbol ≡ s → (s ≡ None → ⊥) → symbol_cause (globals os) i r s ≡ None
    → IsAimed os i r (aim_of os i s)
by_symbol os i o r there in_text relative None is some e = absurd (some refl)
by_symbol os i o r there in_text relative (Some s) is some e =
    aimed os i o r s there (got_contains o.symbols r.symbol s is) in_text relative (target_of (globals os) i s) refl e

in_list : (ss : List Symbol) (k : ℕ) → k < length ss → slice_get ss k ≡ None → ⊥
in_list [] k lt e = absurd (omega arith)
in_list (x ∷ ss) zero lt e = cc
in_list (x ∷ ss) (suc k) lt e = in_list ss k (omega arith) e

-- the address that a relative relocation of text names
pub reloc_aimed : (os : List ObjectParts) (i : ℕ) (o : ObjectParts) (r : Reloc) → slice_get os i ≡ Some o → r.in_text ≡ true
    → r.relative ≡ true → r.symbol < length o.symbols → reloc_cause (globals os) (i, o) r ≡ None
    → IsAimed os i r (aim_of os i (slice_get o.symbols r.symbol))
unfolding reloc_cause
reloc_aimed os i o r there in_text relative lt e =
    by_symbol os i o r there in_text relative (slice_get o.symbols r.symbol) refl (in_list o.symbols r.symbol lt) e

-- what is put into the field of a branch to a label, 4 bytes before its end, leads to the label
small_mod : (n : ℕ) → n < 2 ^ 31 → (0x10000000 + n) % 2 ^ 32 ≡ 0x10000000 + n
small_mod n lt = omega arith

distance_mod : (label place : ℕ) → label < 2 ^ 31 → place < 2 ^ 31
    → (place + 4 + (0x10000000 + label + 4294967292 + (2 ^ 32 - (0x10000000 + place))) % 2 ^ 32) % 2 ^ 32 ≡ label
distance_mod label place small near =
    let x : 0x10000000 + label + 4294967292 + (2 ^ 32 - (0x10000000 + place)) ≡ label + 4294967292 + (2 ^ 32 - place) = omega arith in
    ap (λ n. (place + 4 + n % 2 ^ 32) % 2 ^ 32) x ∙ rest label place small near where
      rest : (label place : ℕ) → label < 2 ^ 31 → place < 2 ^ 31
          → (place + 4 + (label + 4294967292 + (2 ^ 32 - place)) % 2 ^ 32) % 2 ^ 32 ≡ label
      rest label place small near = omega arith

pub leads : (label place p s at len : ℕ) → label < 2 ^ 31 → place < 2 ^ 31 → at + len ≡ place + 4 → p ≡ (0x10000000 + place) % 2 ^ 32
    → s ≡ (0x10000000 + label) % 2 ^ 32 → (at + len + (s + 4294967292 + (2 ^ 32 - p)) % 2 ^ 32) % 2 ^ 32 ≡ label
leads label place p s at len small near end is_p is_s =
    ap (λ n. (n + (s + 4294967292 + (2 ^ 32 - p)) % 2 ^ 32) % 2 ^ 32) end
    ∙ ap (λ n. (place + 4 + (n + 4294967292 + (2 ^ 32 - p)) % 2 ^ 32) % 2 ^ 32) (is_s ∙ small_mod label small)
    ∙ ap (λ n. (place + 4 + (0x10000000 + label + 4294967292 + (2 ^ 32 - n)) % 2 ^ 32) % 2 ^ 32) (is_p ∙ small_mod place near)
    ∙ distance_mod label place small near
