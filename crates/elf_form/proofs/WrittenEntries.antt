-- The symbols and the relocations that stand in the file of an object.
use Rattle.std.proofs.Common.{◌≡◌, ℕ, ◌+◌, ◌*◌, ◌<◌, ◌≤◌, ◌^◌, Bool, true, false, cond, List, [], ◌∷◌, ◌++◌, length, get_or, take, drop, refl, sym, ap, ◌∙◌, arith, append_assoc}
use Rattle.std.specs.List.{flat_map, AllByRecursion}
use Rattle.std.specs.Int.{w16, from_le_bytes}
use Rattle.std.proofs.lemmas.List.{drop_at, drop-drop, get_or-append-add}
use Rattle.guest_ram.specs.Bytes.{part, byte, word16, word32}
use Rattle.elf_form.specs.declared.object.Place.{Place}
use Rattle.elf_form.specs.declared.object.Place.TheVariants.{Undefined, Text, Init, Bss}
use Rattle.elf_form.specs.declared.object.Symbol.{Symbol}
use Rattle.elf_form.specs.declared.object.Reloc.{Reloc}
use Rattle.elf_form.specs.Output.{halves, longs}
use Rattle.elf_form.specs.StringTable.{name_place}
use Rattle.elf_form.specs.ObjectLayout.{place_number, symbol_bytes, reloc_bytes}
use Rattle.elf_form.specs.Writable.{IsPlaced}
use Rattle.elf_form.proofs.RowLaws.{row_behind}
use Rattle.elf_form.proofs.ObjectBounds.{length-symbol, length-reloc}
use Rattle.elf_form.proofs.NamePlaces.{IsRead}
use Rattle.elf_form.proofs.EntryLists.{EachAt, each-written}

-- ---- symbols

-- what is known of a symbol of a whole object whose names are in a table
pub record IsWholeSymbol (names : List (List ℕ)) (s : Symbol) : Type 0 where
  pub place : name_place names s.name < 2 ^ 32
  pub value : s.value < 2 ^ 32
  pub read : IsRead names s.name
  pub undefined : IsPlaced s

-- such a symbol stands in the file f at y
pub record IsSymbolAt (names : List (List ℕ)) (f : List ℕ) (y : ℕ) (s : Symbol) : Type 0 where
  pub name : word32 f y ≡ name_place names s.name
  pub value : word32 f (y + 4) ≡ s.value
  pub binding : byte f (y + 12) ≡ cond s.global 16 0
  pub section : word16 f (y + 14) ≡ place_number s.place
  pub whole : IsWholeSymbol names s

-- a number of two bytes after other bytes
word16-behind : (a b : List ℕ) (n k : ℕ) → length a + k ≡ n → word16 (a ++ b) n ≡ word16 b k
unfolding word16 part
word16-behind a b n k e =
    let split : drop n (a ++ b) ≡ drop k b =
    ap (λ (m : ℕ). drop m (a ++ b)) (sym e) ∙ sym (drop-drop k (length a) (a ++ b)) ∙ ap (drop k) (drop_at a b (length a) refl) in
    ap (λ (x : List ℕ). from_le_bytes w16 (take 2 x)) split

byte-behind : (a b : List ℕ) (n k : ℕ) → length a + k ≡ n → byte (a ++ b) n ≡ byte b k
unfolding byte
byte-behind a b n k e = ap (λ (m : ℕ). get_or (a ++ b) m 0) (sym e) ∙ get_or-append-add a b k 0

binding_there : (names : List (List ℕ)) (s : Symbol) (after : List ℕ) → byte (symbol_bytes names s ++ after) 12 ≡ cond s.global 16 0
unfolding byte symbol_bytes
binding_there names s after = refl

number_there : (p : Place) (after : List ℕ) → word16 (halves (place_number p ∷ []) ++ after) 0 ≡ place_number p
unfolding word16 part
number_there Undefined after = refl
number_there Text after = refl
number_there Init after = refl
number_there Bss after = refl

section_there : (names : List (List ℕ)) (s : Symbol) (after : List ℕ) → word16 (symbol_bytes names s ++ after) 14 ≡ place_number s.place
unfolding word16 part symbol_bytes
section_there names s after = number_there s.place after

symbol_there : (names : List (List ℕ)) (before after : List ℕ) (s : Symbol) (y : ℕ) → length before ≡ y → IsWholeSymbol names s
    → IsSymbolAt names (before ++ (symbol_bytes names s ++ after)) y s
unfolding symbol_bytes
symbol_there names before after s y len whole =
    let row = name_place names s.name ∷ s.value ∷ 0 ∷ [] in
    let last = (cond s.global 16 0) ∷ 0 ∷ halves (place_number s.place ∷ []) in
    let grouped : before ++ (longs row ++ (last ++ after)) ≡ before ++ ((longs row ++ last) ++ after) =
    ap (λ (t : List ℕ). before ++ t) (sym (append_assoc (longs row) last after)) in
    record {
      name =
          ap (λ (f : List ℕ). word32 f y) (sym grouped) ∙ row_behind before row (last ++ after) 0 y (omega arith) whole.place (omega arith);
      value = ap (λ (f : List ℕ). word32 f (y + 4)) (sym grouped) ∙ row_behind before row (last ++ after) 1 (y + 4) (omega arith)
          whole.value (omega arith);
      binding = byte-behind before (symbol_bytes names s ++ after) (y + 12) 12 (omega arith) ∙ binding_there names s after;
      section = word16-behind before (symbol_bytes names s ++ after) (y + 14) 14 (omega arith) ∙ section_there names s after;
      whole = whole;
    }

pub symbols_written : (names : List (List ℕ)) (xs : List Symbol) (before after : List ℕ) (at : ℕ) → length before ≡ at
    → AllByRecursion (IsWholeSymbol names) xs → EachAt (IsSymbolAt names (before ++ (flat_map (symbol_bytes names) xs ++ after))) 16 at xs
symbols_written names xs before after at len all =
    each-written (symbol_bytes names) 16 (IsWholeSymbol names) (λ f y s. IsSymbolAt names f y s) (length-symbol names) (symbol_there names)
    xs before after at len all

-- ---- relocations

-- what is known of a relocation of a whole object, of a part of some size and among the symbols of some count
pub record IsWholeReloc (in_text : Bool) (size count : ℕ) (r : Reloc) : Type 0 where
  pub kind : r.in_text ≡ in_text
  pub field : r.at + 4 ≤ size
  pub symbol : r.symbol < count

pub record IsRelocAt (in_text : Bool) (size count : ℕ) (f : List ℕ) (y : ℕ) (r : Reloc) : Type 0 where
  pub at : word32 f y ≡ r.at
  pub info : word32 f (y + 4) ≡ 256 * (r.symbol + 1) + cond r.relative 2 1
  pub whole : IsWholeReloc in_text size count r

kind_small : (b : Bool) → cond b 2 1 ≤ 2
kind_small true = omega arith
kind_small false = omega arith

module _ (in_text : Bool) (size count : ℕ) (small : size < 2 ^ 32) (few : count ≤ 65536) where
  reloc_there : (before after : List ℕ) (r : Reloc) (y : ℕ) → length before ≡ y → IsWholeReloc in_text size count r
      → IsRelocAt in_text size count (before ++ (reloc_bytes r ++ after)) y r
  unfolding reloc_bytes
  reloc_there before after r y len whole =
      let row = r.at ∷ (256 * (r.symbol + 1) + cond r.relative 2 1) ∷ [] in
      record {
        at = row_behind before row after 0 y (omega arith) (omega arith) (omega arith);
        info = row_behind before row after 1 (y + 4) (omega arith) (omega (arith, kind_small r.relative)) (omega arith);
        whole = whole;
      }

  pub relocs_written : (xs : List Reloc) (before after : List ℕ) (at : ℕ) → length before ≡ at
      → AllByRecursion (IsWholeReloc in_text size count) xs
      → EachAt (IsRelocAt in_text size count (before ++ (flat_map reloc_bytes xs ++ after))) 8 at xs
  relocs_written xs before after at len all =
      each-written reloc_bytes 8 (IsWholeReloc in_text size count) (λ f y r. IsRelocAt in_text size count f y r) length-reloc reloc_there xs
      before after at len all
