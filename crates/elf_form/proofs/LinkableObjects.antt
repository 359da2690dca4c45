-- Each object that is read can be linked: its relocations name symbols of its list, and their fields lie in their sections.
use Rattle.std.proofs.Common.{Result, Ok, Err, IfOk, ◌≡◌, ◌⊎◌, inl, inr, ℕ, zero, suc, ◌+◌, ◌-◌, ◌*◌, ◌/◌, ◌%◌, ◌^◌, ◌<◌, ◌≤◌, Bool, true, false, ◌&&◌, ◌||◌, not, cond, nat_lt, List, [], ◌∷◌, length, map, get_or, fold, replicate, Option, Some, None, refl, sym, ap, subst, ◌∙◌, arith, length-append}
use Rattle.std.specs.Prelude.{filter, ◌==◌, ◌++◌, codes}
use Rattle.std.specs.Bool.{then_some}
use Rattle.std.specs.List.{flat_map}
use Rattle.std.specs.Option.{option_or}
use Rattle.std.proofs.lemmas.Bool.Decides.{nat_tests}
use Rattle.std.proofs.lemmas.List.{length-map, length-replicate}
use Rattle.std.proofs.lemmas.Grind.{common_steps}
use Rattle.std.proofs.Math.Nat.{mod-le}
use Rattle.std.proofs.lemmas.Bool.{and_parts, or_left, or_right, not-false, or_parts}
use Rattle.guest_ram.specs.Bytes.{word32, part}
use Rattle.guest_ram.proofs.Bytes.{length-part}
use Rattle.elf_form.specs.declared.cause.ElfCause.TheVariants.{Truncated, Sizes, SectionForm, SymbolForm, RelocForm}
use Rattle.elf_form.specs.declared.object.Reloc.{Reloc}
use Rattle.elf_form.specs.declared.roles.Role.{Role}
use Rattle.elf_form.specs.declared.roles.Role.TheVariants as role
use Rattle.elf_form.specs.declared.segments.Found.{Found}
use Rattle.elf_form.specs.declared.segments.Found.TheVariants.{Nothing, One, Two, More}
use Rattle.elf_form.specs.declared.symbols.Entry.{Entry}
use Rattle.elf_form.specs.declared.symbols.RelocTest.TheVariants.{Named, Form}
use Rattle.elf_form.specs.declared.symbols.Table.{Table}
use Rattle.elf_form.specs.ObjectParts.{ObjectParts}
use Rattle.elf_form.specs.Tables.{entries, found, second_in, further}
use Rattle.elf_form.specs.Header.{header_table, section_table, section_count, sections, passes, has_contents, cut}
use Rattle.elf_form.specs.Cut.{part_begins, header_cut, header_table_cut, section_table_cut, header_part_cut, section_part_cut, cut_in_turn}
use Rattle.elf_form.specs.Whole.{IsSection, IsWhole}
use Rattle.elf_form.specs.Sections.{contents, is_index, names, is_null, is_sites, section_of}
use Rattle.elf_form.specs.Output.{pad}
use Rattle.elf_form.specs.Roles.{role as role_of, role_number, has_role, with_role, size, alignment, up, starts, with_section, joined}
use Rattle.elf_form.specs.ObjectReading.{table_of, strings_of, kept_relocs, contents_or, object_at, symbol_form, reloc_form, object_form, object_sizes, wrong_object, object_in}
use Rattle.elf_form.specs.Accepted.{ObjectAs}
use Rattle.elf_form.specs.declared.cause.ElfFault.{ElfFault}
use Rattle.elf_form.specs.Answers.{Gives}
use Rattle.elf_form.proofs.ObjectAcceptance.{if_read}
use Rattle.elf_form.proofs.WholeLaws.{section_at}
use Rattle.elf_form.specs.Linkable.{IsLinkable}
use Rattle.elf_form.specs.Symbols.{symbols_of, role_at, is_listed, is_file, has_binding, has_place, symbol_fault, target, target_role, is_reloc_section_of, entry, relocs_in, relocs_of, size_at, is_outside, named_symbol, has_symbol, symbol_of, has_kind, names_none, named_fault, form_fault, reloc_test, relocs_fault, start_in, start_at, numbers, reloc_at, symbol_at, symbols_in}
use Rattle.elf_form.proofs.EachEntry.{Each, each_append, each_map, each_both, each_all, fold_none}
use Rattle.elf_form.proofs.FormLaws.{then_none, else_none, lower_none}
use Rattle.elf_form.proofs.OrderLaws.{cut_met}

-- ---- entries of a table

entry_at : (at k n i : ℕ) → i < n → get_or (entries at k n) i 0 ≡ at + k * i
unfolding entries
entry_at at k zero i lt = absurd (omega arith)
entry_at at k (suc n) zero lt = omega arith
entry_at at k (suc n) (suc i) lt = entry_at (at + k) k n i (omega arith) ∙ omega arith

entries_length : (at k n : ℕ) → length (entries at k n) ≡ n
unfolding entries
entries_length at k zero = refl
entries_length at k (suc n) = ap suc (entries_length (at + k) k n)

-- ---- numbers of symbols

number_on : (b : Bool) (names bytes ys : List ℕ) (n y i : ℕ)
    → ((m : ℕ) → get_or (numbers names bytes m ys) i 0 < m + length (filter (is_listed names bytes) ys))
    → get_or (numbers names bytes (cond b (n + 1) n) ys) i 0 < n
    + length (cond b (y ∷ filter (is_listed names bytes) ys) (filter (is_listed names bytes) ys))
number_on true names bytes ys n y i h = omega (arith, h (n + 1))
number_on false names bytes ys n y i h = h n

listed_first : (b : Bool) (n y : ℕ) (l : List ℕ) → b ≡ true → n < n + length (cond b (y ∷ l) l)
listed_first true n y l is = omega arith
listed_first false n y l is = cc

-- a symbol that is listed has a number below theirs
number_in : (names bytes ys : List ℕ) (n i : ℕ) → i < length ys → is_listed names bytes (get_or ys i 0) ≡ true
    → get_or (numbers names bytes n ys) i 0 < n + length (filter (is_listed names bytes) ys)
unfolding numbers
number_in names bytes [] n i lt is = absurd (omega arith)
number_in names bytes (y ∷ ys) n zero lt is = listed_first (is_listed names bytes y) n y (filter (is_listed names bytes) ys) is
number_in names bytes (y ∷ ys) n (suc i) lt is =
    number_on (is_listed names bytes y) names bytes ys n y i (λ m. number_in names bytes ys m i (omega arith) is)

listed_by : (file binding place : Bool) (y : ℕ) → file ≡ false
    → cond file None (option_or (then_some (not binding) (y + 12)) (then_some (not place) (y + 14))) ≡ None
    → (not file && binding && place) ≡ true
listed_by true binding place y is h = cc
listed_by false binding place y is h =
    let both = else_none (then_some (not binding) (y + 12)) (then_some (not place) (y + 14)) h in
    let has_binding = not-false binding (then_none (not binding) (y + 12) both.0) in
    let has_place = not-false place (then_none (not place) (y + 14) both.1) in
    rw (has_binding, has_place) refl

-- a symbol that a relocation names
listed : (names bytes : List ℕ) (y : ℕ) → is_file bytes y ≡ false → symbol_fault names bytes y ≡ None → is_listed names bytes y ≡ true
unfolding symbol_fault
listed names bytes y is h = listed_by (is_file bytes y) (has_binding bytes y) (has_place names bytes y) y is h

has_names : (has file : Bool) → cond has file true ≡ false → (has ≡ true) × (file ≡ false)
has_names true file h = (refl, h)
has_names false file h = cc

when_true : (b : Bool) (x : Option ℕ) → b ≡ true → cond b x None ≡ None → x ≡ None
when_true true x is h = h
when_true false x is h = cc

-- ---- relocations and their sections

-- the section that an entry is of relocates one of this role
abbrev pub HasTarget : ℕ → List ℕ → List ℕ → Entry → Type 0
HasTarget number ns bytes e = (role_number (target_role ns bytes e.section) == number) ≡ true

each_in : (number : ℕ) (ns bytes : List ℕ) (s : ℕ) (ys : List ℕ) → (role_number (target_role ns bytes s) == number) ≡ true
    → Each (HasTarget number ns bytes) (map (entry s) ys)
each_in number ns bytes s [] is = tt
each_in number ns bytes s (y ∷ ys) is = (is, each_in number ns bytes s ys is)

each_on : (b : Bool) (number : ℕ) (ns bytes : List ℕ) (s : ℕ) (ss : List ℕ)
    → (b ≡ true → (role_number (target_role ns bytes s) == number) ≡ true)
    → Each (HasTarget number ns bytes) (flat_map (relocs_in bytes) ss)
    → Each (HasTarget number ns bytes) (flat_map (relocs_in bytes) (cond b (s ∷ ss) ss))
unfolding relocs_in
each_on true number ns bytes s ss is rest =
    each_append (HasTarget number ns bytes) (relocs_in bytes s) (flat_map (relocs_in bytes) ss)
    (each_in number ns bytes s (entries (word32 bytes (s + 16)) 8 (length (contents bytes s) / 8)) (is refl)) rest
each_on false number ns bytes s ss is rest = rest

each_of : (r : Role) (ns bytes ss : List ℕ)
    → Each (HasTarget (role_number r) ns bytes) (flat_map (relocs_in bytes) (filter (is_reloc_section_of r ns bytes) ss))
each_of r ns bytes [] = tt
each_of r ns bytes (s ∷ ss) =
    each_on (is_reloc_section_of r ns bytes s) (role_number r) ns bytes s (filter (is_reloc_section_of r ns bytes) ss)
    (λ is. (and_parts (has_role role.Relocs ns bytes s) (role_number (target_role ns bytes s) == role_number r) is).1)
    (each_of r ns bytes ss)

relocs_target : (r : Role) (ns bytes : List ℕ) → Each (HasTarget (role_number r) ns bytes) (relocs_of r ns bytes)
unfolding relocs_of
relocs_target r ns bytes = each_of r ns bytes (sections bytes)

-- ---- sections in the file

not_below : (a b : ℕ) → nat_lt a b ≡ false → b ≤ a
not_below a b h = grind (arith, nat_tests)

below : (a b : ℕ) → nat_lt a b ≡ true → a < b
below a b h = grind (arith, nat_tests)

is_one : (k : ℕ) → (k == 1) ≡ true → k ≡ 1
is_one k h = grind (arith, nat_tests)

not_zero : (k : ℕ) → not (k == 0) ≡ true → 1 ≤ k
not_zero k h = grind (arith, nat_tests)

part_none : (bytes : List ℕ) (field : ℕ) (o : Option ℕ) → part_begins bytes field o ≡ None → o ≡ None
part_none bytes field None h = refl
part_none bytes field (Some e) h = cc

whole : (bytes : List ℕ) → cut bytes ≡ None → IsWhole bytes
unfolding cut_in_turn
whole bytes h =
    let a = else_none (header_cut bytes) _ (sym (cut_met bytes) ∙ h) in
    let b = else_none (header_table_cut bytes) _ a.1 in
    let c = else_none (section_table_cut bytes) _ b.1 in
    let d = else_none (header_part_cut bytes) (section_part_cut bytes) c.1 in
    record {
      header = not_below (length bytes) 52 (then_none (passes bytes 0 52) 0 a.0);
      header_room = not_below (length bytes) _ (then_none _ (header_table bytes) b.0);
      section_room = not_below (length bytes) _ (then_none _ (section_table bytes) c.0);
      header_parts = part_none bytes 4 _ d.0;
      section_parts = part_none bytes 16 _ d.1;
    }

contents_length : (bytes : List ℕ) (s : ℕ) → word32 bytes (s + 4) ≡ 1 → IsSection bytes s → length (contents bytes s) ≡ size bytes s
unfolding contents
contents_length bytes s kind is =
    let has : has_contents bytes s ≡ true = subst (λ (k : ℕ). (not (k == 0) && not (k == 8)) ≡ true) (sym kind) refl in
    let room = not_below (length bytes) (word32 bytes (s + 16) + word32 bytes (s + 20)) (rw has at is.1) in
    subst (λ (b : Bool). length (cond b (part bytes (word32 bytes (s + 16)) (word32 bytes (s + 20))) []) ≡ size bytes s) (sym has)
    (length-part bytes (word32 bytes (s + 16)) (word32 bytes (s + 20)) room)

-- text or data
abbrev pub is_data : Role → Bool
is_data r = (role_number r == 2) || (role_number r == 3)

kind_of : (null sites alloc one exec bss note syms rels : Bool)
    → is_data (cond null role.Ignored
    (cond sites role.Sites (cond alloc (cond one (cond exec role.Text role.Init) (cond bss role.Bss (cond note role.Ignored role.Foreign)))
    (cond syms role.Symbols (cond rels role.Relocs role.Ignored))))) ≡ true
    → one ≡ true
kind_of true sites alloc one exec bss note syms rels h = cc
kind_of false true alloc one exec bss note syms rels h = cc
kind_of false false true true exec bss note syms rels h = refl
kind_of false false true false exec true note syms rels h = cc
kind_of false false true false exec false true syms rels h = cc
kind_of false false true false exec false false syms rels h = cc
kind_of false false false one exec bss note true rels h = cc
kind_of false false false one exec bss note false true h = cc
kind_of false false false one exec bss note false false h = cc

data_kind : (ns bytes : List ℕ) (s : ℕ) → is_data (role_of ns bytes s) ≡ true → word32 bytes (s + 4) ≡ 1
unfolding role_of
data_kind ns bytes s h =
    is_one (word32 bytes (s + 4))
    (kind_of (is_null bytes s) (is_sites ns bytes s) (word32 bytes (s + 8) / 2 % 2 == 1) (word32 bytes (s + 4) == 1)
    (word32 bytes (s + 8) / 4 % 2 == 1) (word32 bytes (s + 4) == 8) (word32 bytes (s + 4) == 7)
    (word32 bytes (s + 4) == 2) (word32 bytes (s + 4) == 9) h)

is_text : (r : Role) → (role_number r == 2) ≡ true → r ≡ role.Text
is_text role.Ignored h = cc
is_text role.Sites h = cc
is_text role.Text h = refl
is_text role.Init h = cc
is_text role.Bss h = cc
is_text role.Foreign h = cc
is_text role.Symbols h = cc
is_text role.Relocs h = cc

is_init : (r : Role) → (role_number r == 3) ≡ true → r ≡ role.Init
is_init role.Ignored h = cc
is_init role.Sites h = cc
is_init role.Text h = cc
is_init role.Init h = refl
is_init role.Bss h = cc
is_init role.Foreign h = cc
is_init role.Symbols h = cc
is_init role.Relocs h = cc

-- ---- the text

abbrev pub In : ℕ → List ℕ → Type 0
In x [] = ⊥
In x (y ∷ ys) = (y ≡ x) ⊎ In x ys

in_at : (xs : List ℕ) (i : ℕ) → i < length xs → In (get_or xs i 0) xs
in_at [] i lt = absurd (omega arith)
in_at (x ∷ xs) zero lt = inl refl
in_at (x ∷ xs) (suc i) lt = inr (in_at xs i (omega arith))

in_on : (b : Bool) (p : ℕ → Bool) (x y : ℕ) (ys : List ℕ) → p y ≡ b → p x ≡ true → (y ≡ x) ⊎ In x ys → In x (cond b (y ∷ ys) ys)
in_on true p x y ys is px h = h
in_on false p x y ys is px (inl e) = absurd (let bad : true ≡ false = sym px ∙ (ap p (sym e) ∙ is) in cc)
in_on false p x y ys is px (inr h) = h

in_filter : (p : ℕ → Bool) (x : ℕ) (xs : List ℕ) → p x ≡ true → In x xs → In x (filter p xs)
in_filter p x [] px h = h
in_filter p x (y ∷ ys) px (inl e) = in_on (p y) p x y (filter p ys) refl px (inl e)
in_filter p x (y ∷ ys) px (inr h) = in_on (p y) p x y (filter p ys) refl px (inr (in_filter p x ys px h))

found_one : (xs : List ℕ) (x : ℕ) → In x xs → further 8 (second_in (found xs)) ≡ None → found xs ≡ One x
unfolding found
found_one [] x h none = absurd h
found_one (y ∷ []) x (inl e) none = ap One e
found_one (y ∷ []) x (inr h) none = absurd h
found_one (y ∷ z ∷ []) x h none = cc
found_one (y ∷ z ∷ v ∷ rest) x h none = cc

-- ---- the data

up_on : (b : Bool) (n m : ℕ) → n ≤ cond b n (n + m)
up_on true n m = omega arith
up_on false n m = omega arith

up_le : (a n : ℕ) → n ≤ up a n
up_le a n = up_on (a == 0) n (pad a n)

with_length : (bytes init : List ℕ) (s : ℕ) → length (with_section bytes init s) ≡ up (alignment bytes s) (length init)
    + length (contents bytes s)
unfolding with_section
with_length bytes init s =
    let le = up_le (alignment bytes s) (length init) in
    length-append init _ ∙ (ap (λ (n : ℕ). length init + n)
    (length-append (replicate (up (alignment bytes s) (length init) - length init) 0) (contents bytes s)
    ∙ ap (λ (n : ℕ). n + length (contents bytes s)) (length-replicate (up (alignment bytes s) (length init) - length init) 0))
    ∙ omega (arith, le))

grows_on : (b : Bool) (ns bytes init : List ℕ) (s : ℕ) (rest : List ℕ) → ((l : List ℕ) → length l ≤ length (joined ns bytes l rest))
    → length init ≤ length (fold (with_section bytes) init
    (cond b (s ∷ filter (has_role role.Init ns bytes) rest) (filter (has_role role.Init ns bytes) rest)))
unfolding joined
grows_on true ns bytes init s rest h =
    omega (arith, h (with_section bytes init s), with_length bytes init s, up_le (alignment bytes s) (length init))
grows_on false ns bytes init s rest h = h init

joined_grows : (ns bytes init ss : List ℕ) → length init ≤ length (joined ns bytes init ss)
unfolding joined
joined_grows ns bytes init [] = omega arith
joined_grows ns bytes init (s ∷ rest) = grows_on (has_role role.Init ns bytes s) ns bytes init s rest (λ l. joined_grows ns bytes l rest)

-- the contents of data are as long as their header says
abbrev pub IsFull : List ℕ → List ℕ → ℕ → Type 0
IsFull ns bytes s = has_role role.Init ns bytes s ≡ true → length (contents bytes s) ≡ size bytes s

room_first : (b : Bool) (ns bytes init : List ℕ) (s : ℕ) (rest : List ℕ) → b ≡ true → length (contents bytes s) ≡ size bytes s
    → get_or (cond b (up (alignment bytes s) (length init) % 2 ^ 32 ∷ starts role.Init ns bytes
    (up (alignment bytes s) (length init) + size bytes s) rest) (0 ∷ starts role.Init ns bytes (length init) rest)) 0 0 + size bytes s
    ≤ length (fold (with_section bytes) init
    (cond b (s ∷ filter (has_role role.Init ns bytes) rest) (filter (has_role role.Init ns bytes) rest)))
unfolding joined
room_first true ns bytes init s rest is full =
    omega (
      arith,
      joined_grows ns bytes (with_section bytes init s) rest,
      with_length bytes init s,
      mod-le (up (alignment bytes s) (length init)) (2 ^ 32),
      full,
    )
room_first false ns bytes init s rest is full = cc

room_later : (b : Bool) (ns bytes init : List ℕ) (s : ℕ) (rest : List ℕ) (i n : ℕ) → (b ≡ true → length (contents bytes s) ≡ size bytes s)
    → ((l : List ℕ) → get_or (starts role.Init ns bytes (length l) rest) i 0 + n ≤ length (joined ns bytes l rest))
    → get_or (cond b (up (alignment bytes s) (length init) % 2 ^ 32 ∷ starts role.Init ns bytes
    (up (alignment bytes s) (length init) + size bytes s) rest) (0 ∷ starts role.Init ns bytes (length init) rest)) (suc i) 0 + n
    ≤ length (fold (with_section bytes) init
    (cond b (s ∷ filter (has_role role.Init ns bytes) rest) (filter (has_role role.Init ns bytes) rest)))
unfolding joined
room_later true ns bytes init s rest i n full h =
    let end : length (with_section bytes init s) ≡ up (alignment bytes s) (length init) + size bytes s =
    with_length bytes init s ∙ ap (λ (m : ℕ). up (alignment bytes s) (length init) + m) (full refl) in
    subst (λ (m : ℕ). get_or (starts role.Init ns bytes m rest) i 0 + n ≤ length (joined ns bytes (with_section bytes init s) rest)) end
    (h (with_section bytes init s))
room_later false ns bytes init s rest i n full h = h init

-- a section of data lies in what it is joined to, where it begins
joined_room : (ns bytes init ss : List ℕ) (i : ℕ) → Each (IsFull ns bytes) ss → i < length ss
    → has_role role.Init ns bytes (get_or ss i 0) ≡ true
    → get_or (starts role.Init ns bytes (length init) ss) i 0 + size bytes (get_or ss i 0) ≤ length (joined ns bytes init ss)
unfolding starts joined
joined_room ns bytes init [] i full lt is = absurd (omega arith)
joined_room ns bytes init (s ∷ rest) zero full lt is = room_first (has_role role.Init ns bytes s) ns bytes init s rest is (full.0 is)
joined_room ns bytes init (s ∷ rest) (suc i) full lt is =
    room_later (has_role role.Init ns bytes s) ns bytes init s rest i (size bytes (get_or rest i 0)) full.0
    (λ l. joined_room ns bytes l rest i full.1 (omega arith) is)

each_entries : (P : ℕ → Type 0) (at k n : ℕ) → ((i : ℕ) → i < n → P (at + k * i)) → Each P (entries at k n)
unfolding entries
each_entries P at k zero h = tt
each_entries P at k (suc n) h = (
  subst P (let e : at + k * 0 ≡ at = omega arith in e) (h 0 (omega arith)),
  each_entries P (at + k) k n (λ i lt. subst P (let e : at + k * suc i ≡ at + k + k * i = omega arith in e) (h (suc i) (omega arith))),
)

-- ---- each relocation

-- it names one of the symbols, and its field lies in its section
abbrev pub IsInside : ℕ → ℕ → ℕ → Reloc → Type 0
IsInside symbols text init r = (r.symbol < symbols) × (r.at + 4 ≤ cond r.in_text text init)

-- what the tests have found of an entry
abbrev pub IsTested : Table → List ℕ → List ℕ → Entry → Type 0
IsTested table ns bytes e = (named_fault table ns bytes e.at ≡ None) × (form_fault table ns bytes e ≡ None)

symbol_in_list : (table : Table) (ns bytes : List ℕ) (e : Entry) → IsTested table ns bytes e
    → get_or (numbers ns bytes 0 (symbols_of table)) (named_symbol bytes e.at - 1) 0 < length
    (filter (is_listed ns bytes) (symbols_of table))
symbol_in_list table ns bytes e tested =
    let form = else_none (then_some (is_outside ns bytes e) e.at) _ tested.1 in
    let kinds = or_parts (not (has_kind bytes e.at)) (names_none table bytes e.at) (then_none _ (e.at + 4) form.1) in
    let has = has_names (has_symbol table bytes e.at) (is_file bytes (symbol_of table bytes e.at)) kinds.1 in
    let fault = when_true (has_symbol table bytes e.at) (symbol_fault ns bytes (symbol_of table bytes e.at)) has.0 tested.0 in
    let is_there = listed ns bytes (symbol_of table bytes e.at) has.1 fault in
    let positive = not_zero (named_symbol bytes e.at)
    (and_parts (not (named_symbol bytes e.at == 0)) (nat_lt (named_symbol bytes e.at) table.count) has.0).0 in
    let few = below (named_symbol bytes e.at) table.count
    (and_parts (not (named_symbol bytes e.at == 0)) (nat_lt (named_symbol bytes e.at) table.count) has.0).1 in
    let place : get_or (symbols_of table) (named_symbol bytes e.at - 1) 0 ≡ symbol_of table bytes e.at =
    entry_at (table.at + 16) 16 (table.count - 1) (named_symbol bytes e.at - 1) (omega (arith, positive, few)) ∙ omega (arith, positive) in
    let count = entries_length (table.at + 16) 16 (table.count - 1) in
    let low = number_in ns bytes (symbols_of table) 0 (named_symbol bytes e.at - 1) (omega (arith, positive, few, count))
    (subst (λ (y : ℕ). is_listed ns bytes y ≡ true) (sym place) is_there) in
    omega (arith, low)

size_on : (b : Bool) (s w : ℕ) → w + 4 ≤ cond b s 0 → (b ≡ true) × (w + 4 ≤ s)
size_on true s w h = (refl, h)
size_on false s w h = absurd (omega (arith, h))

-- the section of a field is there, and the field lies in it
section_there : (table : Table) (ns bytes : List ℕ) (e : Entry) → form_fault table ns bytes e ≡ None
    → (nat_lt (target bytes e.section) (section_count bytes) ≡ true)
    × (word32 bytes e.at + 4 ≤ size bytes (section_of bytes (target bytes e.section)))
unfolding size_at
section_there table ns bytes e h =
    let form = else_none (then_some (is_outside ns bytes e) e.at) _ h in
    let out = or_parts (role_number (target_role ns bytes e.section) == 4)
    (nat_lt (size_at bytes (target bytes e.section)) (word32 bytes e.at + 4)) (then_none (is_outside ns bytes e) e.at form.0) in
    size_on (nat_lt (target bytes e.section) (section_count bytes))
    (size bytes (section_of bytes (target bytes e.section))) (word32 bytes e.at)
    (not_below (size_at bytes (target bytes e.section)) (word32 bytes e.at + 4) out.1)

role_on : (b : Bool) (number : ℕ) (r : Role) → (role_number role.Ignored == number) ≡ false
    → (role_number (cond b r role.Ignored) == number) ≡ true → (role_number r == number) ≡ true
role_on true number r other is = is
role_on false number r other is = cc

role_there : (number : ℕ) (ns bytes : List ℕ) (t : ℕ) → (role_number role.Ignored == number) ≡ false
    → (role_number (role_at ns bytes t) == number) ≡ true
    → (role_number (role_of ns bytes (section_of bytes t)) == number) ≡ true
unfolding role_at
role_there number ns bytes t other is = role_on (is_index bytes t) number (role_of ns bytes (section_of bytes t)) other is

section_is : (bytes : List ℕ) (t : ℕ) → nat_lt t (section_count bytes) ≡ true → get_or (sections bytes) t 0 ≡ section_of bytes t
section_is bytes t is = entry_at (section_table bytes) 40 (section_count bytes) t (below t (section_count bytes) is)

section_in : (bytes : List ℕ) (t : ℕ) → nat_lt t (section_count bytes) ≡ true → t < length (sections bytes)
section_in bytes t is = omega (arith, below t (section_count bytes) is, entries_length (section_table bytes) 40 (section_count bytes))

second_none : (bytes : List ℕ) → object_form bytes ≡ None → further 8 (second_in (with_role role.Text (names bytes) bytes)) ≡ None
unfolding object_form
second_none bytes h = (lower_none _ _ (lower_none _ _ h).1).0

-- the text is as long as its section says
text_room : (bytes : List ℕ) (t : ℕ) → IsWhole bytes → object_form bytes ≡ None → nat_lt t (section_count bytes) ≡ true
    → (role_number (role_at (names bytes) bytes t) == 2) ≡ true
    → size bytes (section_of bytes t) ≤ length (contents_or [] bytes (with_role role.Text (names bytes) bytes))
unfolding with_role
text_room bytes t whole form is role_is =
    let s = section_of bytes t in
    let has : has_role role.Text (names bytes) bytes s ≡ true = role_there 2 (names bytes) bytes t refl role_is in
    let inside = in_filter (has_role role.Text (names bytes) bytes) s (sections bytes) has
    (subst (λ (x : ℕ). In x (sections bytes)) (section_is bytes t is) (in_at (sections bytes) t (section_in bytes t is))) in
    let one = found_one (filter (has_role role.Text (names bytes) bytes) (sections bytes)) s inside (second_none bytes form) in
    let kind = data_kind (names bytes) bytes s
    (or_left (role_number (role_of (names bytes) bytes s) == 2) (role_number (role_of (names bytes) bytes s) == 3) has) in
    let full =
    contents_length bytes s kind
    (section_at bytes (section_table bytes) (section_count bytes) t refl refl whole (below t (section_count bytes) is)) in
    subst (λ (f : Found). size bytes s ≤ length (contents_or [] bytes f)) (sym one) (omega (arith, full))

-- the data has room for each of its sections
init_room : (bytes : List ℕ) (t : ℕ) → IsWhole bytes → nat_lt t (section_count bytes) ≡ true
    → (role_number (role_at (names bytes) bytes t) == 3) ≡ true
    → get_or (starts role.Init (names bytes) bytes 0 (sections bytes)) t 0
    + size bytes (section_of bytes t) ≤ length (joined (names bytes) bytes [] (sections bytes))
init_room bytes t whole is role_is =
    let has : has_role role.Init (names bytes) bytes (section_of bytes t) ≡ true = role_there 3 (names bytes) bytes t refl role_is in
    let full = each_entries (IsFull (names bytes) bytes) (section_table bytes) 40 (section_count bytes)
    (λ i lt kept. contents_length bytes (section_table bytes + 40 * i)
    (data_kind (names bytes) bytes (section_table bytes + 40 * i)
    (or_right (role_number (role_of (names bytes) bytes (section_table bytes + 40 * i)) == 2)
    (role_number (role_of (names bytes) bytes (section_table bytes + 40 * i)) == 3) kept))
    (section_at bytes (section_table bytes) (section_count bytes) i refl refl whole lt)) in
    subst (λ (s : ℕ). get_or (starts role.Init (names bytes) bytes 0 (sections bytes)) t 0 + size bytes s ≤ length
    (joined (names bytes) bytes [] (sections bytes))) (section_is bytes t is)
    (joined_room (names bytes) bytes [] (sections bytes) t full (section_in bytes t is)
    (subst (λ (s : ℕ). has_role role.Init (names bytes) bytes s ≡ true) (sym (section_is bytes t is)) has))

text_inside : (ns bytes nums : List ℕ) (e : Entry) (symbols text init : ℕ) → HasTarget 2 ns bytes e
    → get_or nums (named_symbol bytes e.at - 1) 0 < symbols
    → word32 bytes e.at + 4 ≤ text → IsInside symbols text init (reloc_at nums ns bytes e)
unfolding reloc_at start_at
text_inside ns bytes nums e symbols text init is low room =
    let same = is_text (target_role ns bytes e.section) is in
    let inits = starts role.Init ns bytes 0 (sections bytes) in
    let zeros = starts role.Bss ns bytes 0 (sections bytes) in (
      low,
      subst (λ (r : Role). (start_in r inits zeros (target bytes e.section) + word32 bytes e.at) % 2 ^ 32 + 4 ≤ cond (role_number r == 2)
          text init) (sym same)
          (omega (arith, room, mod-le (0 + word32 bytes e.at) (2 ^ 32))),
    )

init_inside : (ns bytes nums : List ℕ) (e : Entry) (symbols text init : ℕ) → HasTarget 3 ns bytes e
    → get_or nums (named_symbol bytes e.at - 1) 0 < symbols
    → get_or (starts role.Init ns bytes 0 (sections bytes)) (target bytes e.section) 0 + (word32 bytes e.at + 4) ≤ init
    → IsInside symbols text init (reloc_at nums ns bytes e)
unfolding reloc_at start_at
init_inside ns bytes nums e symbols text init is low room =
    let same = is_init (target_role ns bytes e.section) is in
    let inits = starts role.Init ns bytes 0 (sections bytes) in
    let zeros = starts role.Bss ns bytes 0 (sections bytes) in (
      low,
      subst (λ (r : Role). (start_in r inits zeros (target bytes e.section) + word32 bytes e.at) % 2 ^ 32 + 4 ≤ cond (role_number r == 2)
          text init) (sym same)
          (omega (arith, room, mod-le (get_or inits (target bytes e.section) 0 + word32 bytes e.at) (2 ^ 32))),
    )

tests_of : (table : Table) (ns bytes : List ℕ) (es : List Entry) → relocs_fault Named table ns bytes es ≡ None
    → relocs_fault Form table ns bytes es ≡ None → Each (IsTested table ns bytes) es
unfolding relocs_fault
tests_of table ns bytes es named form =
    each_both (λ e. named_fault table ns bytes e.at ≡ None) (λ e. form_fault table ns bytes e ≡ None) es
    (fold_none (reloc_test Named table ns bytes) None es named).1 (fold_none (reloc_test Form table ns bytes) None es form).1

-- the relocations of the file, and those of each part
named_none : (bytes : List ℕ) → symbol_form bytes ≡ None → kept_relocs Named bytes ≡ None
unfolding symbol_form
named_none bytes h = (lower_none _ _ h).1

form_none : (bytes : List ℕ) → reloc_form bytes ≡ None → kept_relocs Form bytes ≡ None
unfolding reloc_form
form_none bytes h = (lower_none _ _ h).1

part_short : (m : List ℕ) (a n : ℕ) → length (part m a n) ≤ length m
unfolding part
part_short m a n = grind (arith, common_steps)

contents_on : (b : Bool) (m p : List ℕ) → length p ≤ length m → length (cond b p []) ≤ length m
contents_on true m p h = h
contents_on false m p h = omega arith

contents_short : (bytes : List ℕ) (s : ℕ) → length (contents bytes s) ≤ length bytes
unfolding contents
contents_short bytes s = contents_on (has_contents bytes s) bytes _ (part_short bytes (word32 bytes (s + 16)) (word32 bytes (s + 20)))

sites_short : (bytes : List ℕ) (f : Found) → length bytes ≤ 33554432
    → length (contents_or (codes "PVS1" ++ 0 ∷ 0 ∷ 0 ∷ 0 ∷ []) bytes f) < 2 ^ 32
sites_short bytes Nothing h = omega arith
sites_short bytes (One s) h = omega (arith, contents_short bytes s)
sites_short bytes (Two s t) h = omega (arith, contents_short bytes s)
sites_short bytes (More s t) h = omega (arith, contents_short bytes s)

short : (bytes : List ℕ) → object_sizes bytes ≡ None → length bytes ≤ 33554432
unfolding object_sizes
short bytes h = not_below 33554432 (length bytes) (then_none _ _ (lower_none _ _ h).1)

-- all relocations that are read
relocs_inside : (bytes : List ℕ) → IsWhole bytes → object_form bytes ≡ None → symbol_form bytes ≡ None → reloc_form bytes ≡ None
    → Each (IsInside (length (object_at bytes).symbols) (length (object_at bytes).text) (length (object_at bytes).init))
    (object_at bytes).relocs
unfolding object_at symbols_in
relocs_inside bytes whole form symbols relocs =
    let ns = names bytes in
    let table = table_of bytes in
    let nums = numbers ns bytes 0 (symbols_of table) in
    let count = length-map (filter (is_listed ns bytes) (symbols_of table)) (symbol_at (strings_of bytes) ns bytes) in
    let named = lower_none _ _ (named_none bytes symbols) in
    let formed = lower_none _ _ (form_none bytes relocs) in
    let named2 = lower_none _ _ named.1 in
    let formed2 = lower_none _ _ formed.1 in
    each_append _ _ _
    (each_map (reloc_at nums ns bytes) (λ e. HasTarget 2 ns bytes e × IsTested table ns bytes e) _ (relocs_of role.Text ns bytes)
    (λ e h.
    let there = section_there table ns bytes e h.1.1 in
    let room = text_room bytes (target bytes e.section) whole form there.0 h.0 in
    text_inside ns bytes nums e _ _ _ h.0 (omega (arith, symbol_in_list table ns bytes e h.1, count)) (omega (arith, there.1, room)))
    (each_both _ _ _ (relocs_target role.Text ns bytes) (tests_of table ns bytes (relocs_of role.Text ns bytes) named.0 formed.0)))
    (each_map (reloc_at nums ns bytes) (λ e. HasTarget 3 ns bytes e × IsTested table ns bytes e) _ (relocs_of role.Init ns bytes)
    (λ e h.
    let there = section_there table ns bytes e h.1.1 in
    let room = init_room bytes (target bytes e.section) whole there.0 h.0 in
    init_inside ns bytes nums e _ _ _ h.0 (omega (arith, symbol_in_list table ns bytes e h.1, count)) (omega (arith, there.1, room)))
    (each_both _ _ _ (relocs_target role.Init ns bytes) (tests_of table ns bytes (relocs_of role.Init ns bytes) named2.0 formed2.0)))

sites_few : (bytes : List ℕ) → length bytes ≤ 33554432 → length (object_at bytes).sites < 2 ^ 32
unfolding object_at
sites_few bytes h = sites_short bytes (with_role role.Sites (names bytes) bytes) h

pub linkable : (bytes : List ℕ) (o : ObjectParts) → ObjectAs bytes o → IsLinkable o
unfolding wrong_object
linkable bytes o h =
    let each = relocs_inside bytes (whole bytes (h.sound Truncated)) (h.sound SectionForm) (h.sound SymbolForm) (h.sound RelocForm) in
    let all = each_all (IsInside (length (object_at bytes).symbols) (length (object_at bytes).text) (length (object_at bytes).init))
    (object_at bytes).relocs each in
    subst (λ (x : ObjectParts). IsLinkable x) (sym h.parts) (record {
      named = λ k d lt. (all k d lt).0;
      inside = λ k d lt. (all k d lt).1;
      sites = sites_few bytes (short bytes (h.sound Sizes));
    })

pub if_linkable : (bytes : List ℕ) (r : Result ObjectParts ElfFault) → Gives (λ o. o) r (object_in bytes) → IfOk r (λ o. IsLinkable o)
if_linkable bytes (Ok object) given = linkable bytes object (if_read bytes (Ok object) given)
if_linkable bytes (Err e) given = tt
