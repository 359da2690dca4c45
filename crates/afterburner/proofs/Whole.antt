-- The object that is made is whole.
use Rattle.std.proofs.Common.{◌≡◌, ◌≤◌, ◌<◌, ◌+◌, ◌*◌, ℕ, zero, suc, Bool, true, false, List, [], ◌∷◌, ◌++◌, length, get_or, take, map, Option, Some, None, refl, ap, ◌∙◌, cond, arith, fold, length-append, append-nil}
use Rattle.std.specs.Prelude.{All, filter, count_by, not, ◌≢◌, sum_by}
use Rattle.std.specs.Option.{option_to_list}
use Rattle.std.specs.List.{flat_map}
use Rattle.std.proofs.lemmas.List.{map-append, length-map}
use Rattle.std.proofs.lemmas.List.Sums.{length-filter, sum_by-append, sum_by-cons}
use Rattle.std.proofs.lemmas.List.Filters.{length-filter_both, sum_by-filter_both}
use Rattle.std.proofs.lemmas.List.Elements.{All-append, All-nil, All-cons, All-head, All-tail, All-map, All-filter, filter-append}
use Rattle.asm_lex.specs.declared.lexing.TheConstants.{LIMIT}
use Rattle.elf_form.specs.declared.object.Place.TheVariants as place
use Rattle.elf_form.specs.declared.object.Symbol.{Symbol}
use Rattle.elf_form.specs.declared.object.Reloc.{Reloc}
use Rattle.elf_form.specs.ObjectParts.{ObjectParts}
use Rattle.elf_form.specs.ObjectLayout.{layout, is_of}
use Rattle.elf_form.specs.Writable.{relocated_part, IsPlaced, IsWholeObject}
use Rattle.sites.specs.Spelling.{spelling}
use Rattle.sites.specs.Limits.{in_text}
use Rattle.sites.proofs.TextSites.{in_form, forms, length-spelling}
use Rattle.asm_source.specs.declared.tree.Value.{Value}
use Rattle.asm_source.specs.declared.tree.Form.{Form}
use Rattle.asm_source.specs.declared.tree.Form.TheVariants as form
use Rattle.asm_source.specs.declared.tree.Argument.{Argument}
use Rattle.asm_source.specs.declared.tree.Body.{Body}
use Rattle.asm_source.specs.declared.tree.Body.TheVariants as body
use Rattle.asm_source.specs.declared.tree.SourceItem.{SourceItem}
use Rattle.asm_source.specs.Names.{symbol_in, name_of, holds, added, argument_names, body_names, names_in}
use Rattle.asm_source.specs.Size.{name_size, value_size, form_size, arguments_size, body_size, items_size}
use Rattle.asm_source.specs.Readable.{IsReadable}
use Rattle.afterburner.specs.declared.symbol.Definition.{Definition}
use Rattle.afterburner.specs.ObjectSoFar.{ObjectSoFar, undefined}
use Rattle.afterburner.specs.Objects.{symbol, symbols_seen, are, defines, is_global, ordered, ordered_number, renumbered, object, reaches, value_at}
use Rattle.afterburner.specs.Sound.{IsSound, IsWithin, IsAnnotated, IsSmall}
use Rattle.afterburner.proofs.Sited.{apart_gaps, apart_inside}

-- ---- the order of symbols

both : Bool → List Symbol → List Symbol
both b xs = filter (are b) xs

other : (s : Symbol) → are true s ≡ not (are false s)
other s = elim s.global as (λ b. b ≡ not (not b)) [ true ↦ refl | false ↦ refl ]

filter_same : (b : Bool) (xs : List Symbol) → filter (are b) (filter (are b) xs) ≡ filter (are b) xs
filter_same b [] = refl
filter_same b (x ∷ xs) =
    let at : (v : Bool) → are b x ≡ v → filter (are b) (cond v (x ∷ filter (are b) xs) (filter (are b) xs)) ≡ cond v (x ∷ filter (are b) xs)
    (filter (are b) xs) =
    λ v. elim v as (λ u. are b x ≡ u → filter (are b) (cond u (x ∷ filter (are b) xs) (filter (are b) xs)) ≡ cond u (x ∷ filter (are b) xs)
    (filter (are b) xs)) [
      | true ↦ λ e. rw e (ap (λ (ys : List Symbol). x ∷ ys) (filter_same b xs))
      | false ↦ λ e. filter_same b xs
    ] in
    at (are b x) refl

filter_none : (b : Bool) (xs : List Symbol) → filter (are b) (filter (are (not b)) xs) ≡ []
filter_none b [] = refl
filter_none b (x ∷ xs) =
    let at : (v : Bool) → are (not b) x ≡ v → filter (are b) (cond v (x ∷ filter (are (not b)) xs) (filter (are (not b)) xs)) ≡ [] =
    λ v. elim v as (λ u. are (not b) x ≡ u → filter (are b) (cond u (x ∷ filter (are (not b)) xs) (filter (are (not b)) xs)) ≡ []) [
      | true ↦ λ e. let no : are b x ≡ false = opposite b x e in rw no (filter_none b xs)
      | false ↦ λ e. filter_none b xs
    ] in
    at (are (not b) x) refl
  where
    opposite : (c : Bool) (y : Symbol) → are (not c) y ≡ true → are c y ≡ false
    opposite true y e = elim y.global as (λ g. not g ≡ true → g ≡ false) [ true ↦ λ h. cc | false ↦ λ h. refl ] e
    opposite false y e = elim y.global as (λ g. g ≡ true → not g ≡ false) [ true ↦ λ h. refl | false ↦ λ h. cc ] e

split : (xs : List Symbol) → ordered xs ≡ filter (are false) (ordered xs) ++ filter (are true) (ordered xs)
unfolding ordered
split xs =
    let locals : filter (are false) (filter (are false) xs ++ filter (are true) xs) ≡ filter (are false) xs =
    rw (filter-append, filter_same false xs, filter_none false xs) (append-nil (filter (are false) xs)) in
    let globals : filter (are true) (filter (are false) xs ++ filter (are true) xs) ≡ filter (are true) xs =
    rw (filter-append, filter_same true xs, filter_none true xs) refl in
    rw (locals, globals) refl

ordered_length : (xs : List Symbol) → length (ordered xs) ≡ length xs
unfolding ordered
ordered_length xs = let h =
    length-filter_both (are false) (are true) other xs in length-append (filter (are false) xs) (filter (are true) xs) ∙ h

ordered_sum : (f : Symbol → ℕ) (xs : List Symbol) → sum_by f (ordered xs) ≡ sum_by f xs
unfolding ordered
ordered_sum f xs = sum_by-append f (filter (are false) xs) (filter (are true) xs) ∙ sum_by-filter_both (are false) (are true) other f xs

ordered_all : (P : Symbol → Type 0) (xs : List Symbol) → All P xs → All P (ordered xs)
unfolding ordered
ordered_all P xs all =
    All-append P (filter (are false) xs) (filter (are true) xs) (All-filter (are false) P xs all) (All-filter (are true) P xs all)

-- ---- the places of ordered symbols

filter_place : {X : Type 0} (p : X → Bool) (xs : List X) (k : ℕ) (d : X) → k < length xs → p (get_or xs k d) ≡ true
    → count_by p (take k xs) < length (filter p xs)
filter_place p [] k d lt e = absurd (omega arith)
filter_place p (x ∷ xs) zero d lt e = rw e (omega arith)
filter_place p (x ∷ xs) (suc k) d lt e =
    let rest = filter_place p xs k d (omega arith) e in
    let at : (b : Bool) → cond b 1 0 + count_by p (take k xs) < length (cond b (x ∷ filter p xs) (filter p xs)) =
    λ b. elim b as (λ v. cond v 1 0 + count_by p (take k xs) < length (cond v (x ∷ filter p xs) (filter p xs)))
    [ true ↦ omega (arith, rest) | false ↦ omega (arith, rest) ] in
    rw (sum_by-cons (λ y. cond (p y) 1 0) x (take k xs)) (at (p x))

seen_length : (names : List (List ℕ)) (ds : List Definition) → length ds ≡ length names → length (symbols_seen names ds) ≡ length ds
seen_length [] [] e = refl
seen_length [] (d ∷ ds) e = absurd (omega arith)
seen_length (n ∷ names) [] e = refl
seen_length (n ∷ names) (d ∷ ds) e = let h = seen_length names ds (omega arith) in omega (arith, h)

is_counted : (b : Bool) (d : Definition) (g : Bool) → is_global d ≡ g → defines g d ≡ true
is_counted b d true e = e
is_counted b d false e = rw e refl

count_within : (ds : List Definition) (k : ℕ) → k < length ds → ordered_number ds k < length ds
unfolding ordered_number
count_within ds k lt =
    let both_kinds = length-filter_both (defines false) (defines true)
    (λ d. elim (is_global d) as (λ b. b ≡ not (not b)) [ true ↦ refl | false ↦ refl ]) ds in
    let at : (b : Bool) → is_global (get_or ds k undefined) ≡ b → cond b (count_by (defines false) ds + count_by (defines true) (take k ds))
    (count_by (defines false) (take k ds)) < length ds =
    λ b. elim b as (λ v. is_global (get_or ds k undefined) ≡ v → cond v (count_by (defines false) ds + count_by (defines true) (take k ds))
    (count_by (defines false) (take k ds)) < length ds) [
      | true ↦ λ e. let h =
          filter_place (defines true) ds k undefined lt e in let n = length-filter (defines false) ds in omega (arith, h, n, both_kinds)
      | false ↦ λ e. let h = filter_place (defines false) ds k undefined lt (ap (λ (v : Bool). not v) e) in omega (arith, h, both_kinds)
    ] in
    at (is_global (get_or ds k undefined)) refl

-- ---- what symbols are

seen_all : (P : Symbol → Type 0) (Q : List ℕ → Type 0) (names : List (List ℕ)) (ds : List Definition)
    → ((n : List ℕ) (d : Definition) → Q n → P (symbol n d)) → All Q names → All P (symbols_seen names ds)
seen_all P Q [] ds f all = All-nil P
seen_all P Q (n ∷ names) [] f all = All-nil P
seen_all P Q (n ∷ names) (d ∷ ds) f all =
    All-cons P (symbol n d) (symbols_seen names ds) (f n d (All-head Q n names all)) (seen_all P Q names ds f (All-tail Q n names all))

HasNoZero : List ℕ → Type 0
HasNoZero n = All (λ b. b ≢ 0) n

no_zero : (n : List ℕ) → All (λ b. 1 ≤ b) n → All (λ b. b ≢ 0) n
no_zero n all = λ k d lt e. let h = all k d lt in omega (arith, h, e)

is_placed : (n : List ℕ) (d : Definition) → IsPlaced (symbol n d)
is_placed n d = elim d.place as (λ p. p ≡ place.Undefined → (reaches p d.binding ≡ true) × (value_at p d.value ≡ 0)) [
  | place.Undefined ↦ λ e. (refl, refl)
  | place.Text ↦ λ e. absurd (cc)
  | place.Init ↦ λ e. absurd (cc)
  | place.Bss ↦ λ e. absurd (cc)
]

-- ---- how long names are together

seen_sum : (names : List (List ℕ)) (ds : List Definition) → sum_by (λ (s : Symbol). length s.name) (symbols_seen names ds) ≤ sum_by
    (λ (n : List ℕ). length n) names
seen_sum [] ds = omega arith
seen_sum (n ∷ names) [] = omega arith
seen_sum (n ∷ names) (d ∷ ds) =
    let h = seen_sum names ds in
    let l = sum_by-cons (λ (s : Symbol). length s.name) (symbol n d) (symbols_seen names ds) in
    let r = sum_by-cons (λ (m : List ℕ). length m) n names in
    omega (arith, h, l, r)

added_sum : (ns : List (List ℕ)) (m : List ℕ) → sum_by (λ (n : List ℕ). length n) (added ns m) ≤ sum_by (λ (n : List ℕ). length n) ns
    + length m
added_sum ns m =
    elim (holds ns m) as (λ b. sum_by (λ (n : List ℕ). length n) (cond b ns (ns ++ m ∷ [])) ≤ sum_by
    (λ (n : List ℕ). length n) ns + length m) [
      | true ↦ omega arith
      | false ↦ let h = sum_by-append (λ (n : List ℕ). length n) ns (m ∷ []) in omega (arith, h)
    ]

fold_sum : (ns ms : List (List ℕ)) → sum_by (λ (n : List ℕ). length n) (fold added ns ms) ≤ sum_by (λ (n : List ℕ). length n) ns
    + sum_by (λ (n : List ℕ). length n) ms
fold_sum ns [] = omega arith
fold_sum ns (m ∷ ms) =
    let h = fold_sum (added ns m) ms in
    let j = added_sum ns m in
    let r = sum_by-cons (λ (n : List ℕ). length n) m ms in
    omega (arith, h, j, r)

listed_sum : (o : Option (List ℕ)) → sum_by (λ (n : List ℕ). length n) (option_to_list o) ≤ name_size o
listed_sum None = omega arith
listed_sum (Some n) = omega arith

value_sum : (v : Option Value) → sum_by (λ (n : List ℕ). length n) (option_to_list (name_of v)) ≤ value_size v
value_sum None = omega arith
value_sum (Some v) = listed_sum v.name

form_sum : (f : Form) → sum_by (λ (n : List ℕ). length n) (option_to_list (symbol_in f)) ≤ form_size f
form_sum form.Absent = omega arith
form_sum (form.Register r) = omega arith
form_sum (form.Immediate v) = listed_sum v.name
form_sum (form.Memory v b i s) = let h = value_sum v in omega (arith, h)
form_sum (form.Text t) = omega arith

arguments_sum : (args : List Argument) → sum_by (λ (n : List ℕ). length n) (argument_names args) ≤ arguments_size args
arguments_sum [] = omega arith
arguments_sum (a ∷ args) =
    let h = form_sum a.form in
    let j = arguments_sum args in
    rw (sum_by-append (λ (n : List ℕ). length n) (option_to_list (symbol_in a.form)) (argument_names args)) (omega (arith, h, j))

body_sum : (b : Body) → sum_by (λ (n : List ℕ). length n) (body_names b) ≤ body_size b
body_sum (body.Label n) = omega arith
body_sum (body.Directive n args) = let h = arguments_sum args in omega (arith, h)
body_sum (body.Instruction rep n args) = let h = arguments_sum args in omega (arith, h)

items_sum : (items : List SourceItem)
    → sum_by (λ (n : List ℕ). length n) (flat_map (λ (i : SourceItem). body_names i.body) items) ≤ items_size items
items_sum [] = omega arith
items_sum (i ∷ items) =
    let h = body_sum i.body in
    let j = items_sum items in
    rw (sum_by-append (λ (n : List ℕ). length n) (body_names i.body) (flat_map (λ (x : SourceItem). body_names x.body) items))
    (omega (arith, h, j))

names_sum : (items : List SourceItem) → sum_by (λ (n : List ℕ). length n) (names_in items) ≤ items_size items
unfolding names_in
names_sum items = let h =
    fold_sum [] (flat_map (λ (i : SourceItem). body_names i.body) items) in let j = items_sum items in omega (arith, h, j)

-- ---- relocations

kept : (b : Bool) (relocs : List Reloc) → All (λ (r : Reloc). is_of b r ≡ true) relocs → filter (is_of b) relocs ≡ relocs
kept b [] all = refl
kept b (r ∷ relocs) all =
    let rest = kept b relocs (All-tail (λ (x : Reloc). is_of b x ≡ true) r relocs all) in
    rw (All-head (λ (x : Reloc). is_of b x ≡ true) r relocs all) (ap (λ (rs : List Reloc). r ∷ rs) rest)

left_out : (b : Bool) (relocs : List Reloc) → All (λ (r : Reloc). is_of b r ≡ false) relocs → filter (is_of b) relocs ≡ []
left_out b [] all = refl
left_out b (r ∷ relocs) all =
    let rest = left_out b relocs (All-tail (λ (x : Reloc). is_of b x ≡ false) r relocs all) in
    rw (All-head (λ (x : Reloc). is_of b x ≡ false) r relocs all) rest

parted_relocs : (texts datas : List Reloc) → All (λ (r : Reloc). r.in_text ≡ true) texts → All (λ (r : Reloc). r.in_text ≡ false) datas
    → texts ++ datas ≡ filter (is_of true) (texts ++ datas) ++ filter (is_of false) (texts ++ datas)
parted_relocs texts datas t d =
    let in_text : filter (is_of true) (texts ++ datas) ≡ texts =
    rw (filter-append, kept true texts t, left_out true datas d) (append-nil texts) in
    let in_data : filter (is_of false) (texts ++ datas) ≡ datas = rw (
      filter-append,
      left_out false texts (λ k x lt. ap (λ (b : Bool). not b) (t k x lt)),
      kept false datas (λ k x lt. ap (λ (b : Bool). not b) (d k x lt)),
    ) refl in
    rw (in_text, in_data) refl

-- ---- the object

pub whole : (items : List SourceItem) (st : ObjectSoFar)
    → ((o : ObjectParts) → (layout o).sections ≤ 52 + length o.text + length o.init + length o.sites + 8 * length o.relocs + 16
    * (length o.symbols + 1) + (sum_by (λ s. length s.name) o.symbols + length o.symbols + 1) + 74 + 40)
    → IsReadable items → IsSound (length (names_in items)) st → IsWithin st → IsWholeObject (object (names_in items) st)
unfolding object
whole items st bound readable sound within =
    let names : List (List ℕ) = names_in items in
    let ds : List Definition = st.definitions in
    let seen : List Symbol = symbols_seen names ds in
    let o : ObjectParts = object names st in
    let texts : List Reloc = map (renumbered ds) st.text_relocs in
    let datas : List Reloc = map (renumbered ds) st.data_relocs in
    let many : length (ordered seen) ≡ length ds = ordered_length seen ∙ seen_length names ds sound.definitions in
    let relocs : length (map (renumbered ds) (st.text_relocs ++ st.data_relocs)) ≡ length st.text_relocs + length st.data_relocs =
    length-map (st.text_relocs ++ st.data_relocs) (renumbered ds) ∙ length-append st.text_relocs st.data_relocs in
    let sites : length (spelling (in_text (length st.text) st.sites)) ≤ 8 + 8 * length st.sites =
    length-spelling (in_text (length st.text) st.sites) in
    let named_sum : sum_by (λ (s : Symbol). length s.name) (ordered seen) ≤ LIMIT = rw (ordered_sum (λ (s : Symbol). length s.name) seen)
    (let h = seen_sum names ds in let j = names_sum items in omega (arith, h, j, readable.size)) in
    let size = bound o in
    let numbered : (r : Reloc) → r.symbol < length names → ordered_number ds r.symbol < length (ordered seen) =
    λ r lt. rw many (count_within ds r.symbol (omega (arith, sound.definitions, lt))) in
    let split_relocs : map (renumbered ds) (st.text_relocs ++ st.data_relocs) ≡ texts ++ datas =
    map-append (renumbered ds) st.text_relocs st.data_relocs in
    record {
      writable = record {
        file = omega (
          arith,
          size,
          many,
          relocs,
          sites,
          named_sum,
          within.text,
          within.init,
          within.sites,
          sound.definitions,
          readable.few,
          sound.few_text,
          sound.few_data,
        );
        memory = omega (arith, within.init);
        count = omega (arith, many, sound.definitions, readable.few);
        named = All-map (λ (r : Reloc). r.symbol < length (ordered seen)) (renumbered ds) (st.text_relocs ++ st.data_relocs)
            (All-append (λ (r : Reloc). ordered_number ds r.symbol < length (ordered seen)) st.text_relocs st.data_relocs
            (λ k d lt. let h = sound.text_relocs k d lt in numbered (get_or st.text_relocs k d) h.symbol)
            (λ k d lt. let h = sound.data_relocs k d lt in numbered (get_or st.data_relocs k d) h.symbol));
      };
      split = split seen;
      names = ordered_all (λ (s : Symbol). All (λ b. b ≢ 0) s.name) seen
          (seen_all (λ (s : Symbol). All (λ b. b ≢ 0) s.name) (λ (n : List ℕ). All (λ b. 1 ≤ b) n) names ds
          (λ n d h. no_zero n h) readable.named);
      undefined =
          ordered_all IsPlaced seen
          (seen_all IsPlaced (λ (n : List ℕ). All (λ b. 1 ≤ b) n) names ds (λ n d h. is_placed n d) readable.named);
      fields = All-map (λ (r : Reloc). r.at + 4 ≤ length (relocated_part o r)) (renumbered ds) (st.text_relocs ++ st.data_relocs)
          (All-append (λ (r : Reloc). r.at + 4 ≤ length (relocated_part o (renumbered ds r))) st.text_relocs st.data_relocs
          (λ k d lt. let h = sound.text_relocs k d lt in rw h.section h.field)
          (λ k d lt. let h = sound.data_relocs k d lt in rw h.section h.field));
      ordered = rw split_relocs (parted_relocs texts datas
          (All-map (λ (r : Reloc). r.in_text ≡ true) (renumbered ds) st.text_relocs
          (λ k d lt. let h = sound.text_relocs k d lt in h.section))
          (All-map (λ (r : Reloc). r.in_text ≡ false) (renumbered ds) st.data_relocs
          (λ k d lt. let h = sound.data_relocs k d lt in h.section)));
    }

-- ---- the annotations and the limits

pub annotated : (names : List (List ℕ)) (st : ObjectSoFar) (n : ℕ) → IsSound n st → IsWithin st → IsAnnotated (object names st)
unfolding object
annotated names st n sound within =
    let gaps = apart_gaps 0 (length st.text) st.sites (omega (arith, within.text)) sound.sites in
    record {
      sites = st.sites;
      spelled = refl;
      form = in_form (length st.text) st.sites (forms 0 0 st.sites (omega arith) gaps) (λ long. gaps);
      gaps = gaps;
      inside = apart_inside 0 (length st.text) st.sites sound.sites;
      few = within.sites;
    }

pub small : (names : List (List ℕ)) (st : ObjectSoFar) → IsWithin st → IsSmall (object names st)
unfolding object
small names st within = record { text = within.text; init = within.init }
