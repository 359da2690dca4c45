-- The object of a source is padded.
use Rattle.std.proofs.Common.{◌≡◌, ℕ, zero, suc, ◌+◌, ◌≤◌, Bool, true, false, not, cond, List, [], ◌∷◌, ◌++◌, length, map, Option, Some, None, Result, Ok, Err, refl, sym, ap, subst, ◌∙◌, arith}
use Rattle.std.specs.Prelude.{replicate, fold, filter, nat_lt}
use Rattle.std.specs.Option.{unwrap_or}
use Rattle.std.specs.List.{flat_map, All, AllByRecursion}
use Rattle.std.proofs.lemmas.Bool.Decides.{nat_tests}
use Rattle.std.proofs.lemmas.List.{append-nil, map-append}
use Rattle.std.proofs.lemmas.List.Elements.{All-nil, All-cons, All-head, All-tail, All-append, All-set, All-replicate, All-filter, All-contains}
use Rattle.ia32_rows.specs.Spells.{AreBytes}
use Rattle.sites.specs.declared.limits.TheConstants.{TEXT_LIMIT}
use Rattle.asm_source.specs.declared.tree.Body.{Body}
use Rattle.asm_source.specs.declared.tree.Body.TheVariants as body
use Rattle.asm_source.specs.declared.tree.SourceItem.{SourceItem}
use Rattle.asm_source.specs.declared.tree.Argument.{Argument}
use Rattle.asm_source.specs.Names.{names_in, symbol_in, name_number}
use Rattle.elf_form.specs.declared.object.Place.{Place}
use Rattle.elf_form.specs.declared.object.Place.TheVariants as place
use Rattle.elf_form.specs.declared.object.Symbol.{Symbol}
use Rattle.elf_form.specs.declared.object.Reloc.{Reloc}
use Rattle.elf_form.specs.ObjectParts.{ObjectParts}
use Rattle.elf_form.specs.ObjectLayout.{is_of}
use Rattle.elf_form.specs.Output.{pad}
use Rattle.sites.specs.Spelling.{spelling}
use Rattle.sites.specs.Formats.{listed}
use Rattle.sites.specs.Limits.{in_text}
use Rattle.elf_form.specs.Linkable.{IsLinkable}
use Rattle.afterburner.specs.declared.section.Section.{Section}
use Rattle.afterburner.specs.declared.section.Section.TheVariants as section
use Rattle.afterburner.specs.declared.symbol.Definition.{Definition}
use Rattle.afterburner.specs.declared.symbol.Binding.{Binding}
use Rattle.afterburner.specs.declared.symbol.Binding.TheVariants as binding
use Rattle.asm_source.specs.declared.directive_table.DirectiveName.{DirectiveName}
use Rattle.asm_source.specs.declared.directive_table.DirectiveName.TheVariants as directive
use Rattle.ia32_types.specs.declared.size.Size.{Size}
use Rattle.ia32_types.specs.declared.size.Size.TheVariants as size
use Rattle.afterburner.specs.declared.fault.BurnCause.{BurnCause}
use Rattle.afterburner.specs.declared.fault.BurnCause.TheVariants as cause
use Rattle.afterburner.specs.ObjectSoFar.{ObjectSoFar, undefined, fresh}
use Rattle.afterburner.specs.Symbols.{reloc_to, definition_of, defined_at, stronger, with_binding, bound}
use Rattle.afterburner.specs.Arguments.{count_at, text_at, symbol_at, limit_at, alignment, power}
use Rattle.afterburner.specs.Sections.{is_init, place_of, size_of, here, section_named, entered, filled_in, unless_more, aligned, labelled, defined_in_bss, reserved}
use Rattle.afterburner.specs.Directives.{directive_of, all_fit, values, in_init, numbers, with_long, longs, string_bytes, strings, zeros_in, common, directed}
use Rattle.afterburner.specs.Objects.{value_at, symbol, symbols_seen, are, ordered, renumbered, object}
use Rattle.afterburner.specs.Burnt.{parted, made, limited, then_limited, item_made, Fault, at_line, next_made, all_made, finished, burnt}
use Rattle.built_images.specs.Chunks.{Coded, Chunk, Alone, Pair, AreChunks, padding, chunk_text, chunks_text, chunk_site, chunk_sites}
use Rattle.built_images.specs.Filled.{IsField, HaveFields, reloc_later, chunks_relocs}
use Rattle.built_images.specs.Padded.{IsEdge, IsLinked, IsLinkedBranch, AreAlone, IsPadded}
use Rattle.built_images.specs.Sources.{IsBurnt, NamesNoNumber, NameNoNumbers}
use Rattle.built_images.proofs.Joining.{nop_chunks}
use Rattle.built_images.proofs.LinkedImages.{sites_listed, whole_edge}
use Rattle.built_images.proofs.BurntTexts.{AreRead, IsLabel, IsMade, Made, IsSameText, same_made, nops_made, instruction_made, if_ok, or_ok, ok_state, ok_same}

module _ (Plain : Type 0) where
  -- ---- names

  label_of : (cs : List Chunk) (ds : List Definition) (k : ℕ) → All (IsLabel cs) ds → IsLabel cs (definition_of ds k)
  label_of cs [] k h = λ e. absurd cc
  label_of cs (d ∷ ds) zero h = All-head (IsLabel cs) d ds h
  label_of cs (d ∷ ds) (suc k) h = label_of cs ds k (All-tail (IsLabel cs) d ds h)

  defined_labels : (cs : List Chunk) (names : List (List ℕ)) (ds : List Definition) (name : List ℕ) (p : Place) (value : ℕ)
      → (p ≡ place.Text → IsEdge cs value) → All (IsLabel cs) ds → All (IsLabel cs) (defined_at names ds name p value)
  defined_labels cs names ds name p value edge h = All-set (IsLabel cs) ds (name_number names name)
      (record (definition_of ds (name_number names name)) { place = p; value = value }) edge h

  bound_labels : (cs : List Chunk) (ds : List Definition) (k : ℕ) (b : Binding) → All (IsLabel cs) ds
      → All (IsLabel cs) (with_binding ds k b)
  bound_labels cs ds k b h =
      All-set (IsLabel cs) ds k (record (definition_of ds k) { binding = stronger (definition_of ds k).binding b }) (label_of cs ds k h) h

  -- ---- states that are after no STI

  with_names : (st new : ObjectSoFar) (cs : List Chunk) → IsMade Plain st cs → IsSameText st new → new.data_relocs ≡ st.data_relocs
      → All (IsLabel cs) new.definitions → IsMade Plain new cs
  with_names st new cs h s d labels =
      same_made Plain st new cs h s (subst (λ (rs : List Reloc). All (λ (r : Reloc). r.in_text ≡ false) rs) (sym d) h.in_data) labels

  section_made : (st : ObjectSoFar) (cs : List Chunk) (s : Section) → st.after_sti ≡ false → IsMade Plain st cs
      → IsMade Plain (entered st s) cs
  section_made st cs s e h =
      with_names st (entered st s) cs h (record { text = refl; sites = refl; relocs = refl; no_sti = e }) refl h.labels

  init_made : (st : ObjectSoFar) (cs : List Chunk) (bytes : List ℕ) → st.after_sti ≡ false → IsMade Plain st cs
      → IsMade Plain (record st { init = bytes }) cs
  init_made st cs bytes e h =
      with_names st (record st { init = bytes }) cs h (record { text = refl; sites = refl; relocs = refl; no_sti = e }) refl h.labels

  bss_made : (st : ObjectSoFar) (cs : List Chunk) (n : ℕ) → st.after_sti ≡ false → IsMade Plain st cs
      → IsMade Plain (record st { bss = n }) cs
  bss_made st cs n e h =
      with_names st (record st { bss = n }) cs h (record { text = refl; sites = refl; relocs = refl; no_sti = e }) refl h.labels

  bound_made : (names : List (List ℕ)) (st : ObjectSoFar) (cs : List Chunk) (name : Option (List ℕ)) (b : Binding) → st.after_sti ≡ false
      → IsMade Plain st cs → IsMade Plain (bound names st name b) cs
  bound_made names st cs None b e h = h
  bound_made names st cs (Some name) b e h =
      with_names st (record st { definitions = with_binding st.definitions (name_number names name) b }) cs h
      (record { text = refl; sites = refl; relocs = refl; no_sti = e }) refl
      (bound_labels cs st.definitions (name_number names name) b h.labels)

  not_bss : (cs : List Chunk) (value : ℕ) → place.Bss ≡ place.Text → IsEdge cs value
  not_bss cs value e = absurd cc

  defined_made : (names : List (List ℕ)) (st : ObjectSoFar) (cs : List Chunk) (name : Option (List ℕ)) → st.after_sti ≡ false
      → IsMade Plain st cs → IsMade Plain (defined_in_bss names st name) cs × ((defined_in_bss names st name).after_sti ≡ false)
  defined_made names st cs None e h = (h, e)
  defined_made names st cs (Some name) e h = (
    with_names st (defined_in_bss names st (Some name)) cs h (record { text = refl; sites = refl; relocs = refl; no_sti = e }) refl
        (defined_labels cs names st.definitions name place.Bss st.bss (not_bss cs st.bss) h.labels),
    e,
  )

  reserved_made : (names : List (List ℕ)) (st : ObjectSoFar) (cs : List Chunk) (name : Option (List ℕ)) (size n : ℕ) → st.after_sti ≡ false
      → IsMade Plain st cs → IsMade Plain (reserved names st name size n) cs × ((reserved names st name size n).after_sti ≡ false)
  unfolding reserved
  reserved_made names st cs name size n e h =
      let here = record st { bss = st.bss + pad n st.bss } in
      let d = defined_made names here cs name e (bss_made st cs (st.bss + pad n st.bss) e h) in
      let p = defined_in_bss names here name in
      (bss_made p cs (p.bss + size) d.1 d.0, d.1)

  filled_made : (st : ObjectSoFar) (cs : List Chunk) (s : Section) (n : ℕ) → st.after_sti ≡ false → IsMade Plain st cs
      → Made Plain (filled_in st s n)
  filled_made st cs section.Text n e h = (
    cs ++ nop_chunks n,
    subst (λ (b : Bool). IsMade Plain (record st { text = st.text ++ replicate n 144; after_sti = b }) (cs ++ nop_chunks n)) (sym e)
        (nops_made Plain st cs n h),
  )
  filled_made st cs section.Init n e h = (cs, init_made st cs (st.init ++ replicate n 0) e h)
  filled_made st cs section.Bss n e h = (cs, bss_made st cs (st.bss + n) e h)

  aligned_made : (st : ObjectSoFar) (cs : List Chunk) (n : ℕ) (most : Option ℕ) → st.after_sti ≡ false → IsMade Plain st cs
      → Made Plain (aligned st n most)
  unfolding aligned
  aligned_made st cs n most e h = filled_made st cs st.section (unless_more most (pad n (here st))) e h

  place_edge : (st : ObjectSoFar) (cs : List Chunk) (s : Section) → IsMade Plain st cs → place_of s ≡ place.Text → IsEdge cs (size_of st s)
  place_edge st cs section.Text h e = subst (IsEdge cs) (ap length (sym h.text)) (whole_edge cs)
  place_edge st cs section.Init h e = absurd cc
  place_edge st cs section.Bss h e = absurd cc

  labelled_made : (names : List (List ℕ)) (st : ObjectSoFar) (cs : List Chunk) (name : List ℕ) → st.after_sti ≡ false → IsMade Plain st cs
      → IsMade Plain (labelled names st name) cs
  unfolding labelled
  labelled_made names st cs name e h =
      with_names st (record st { definitions = defined_at names st.definitions name (place_of st.section) (here st) }) cs h
      (record { text = refl; sites = refl; relocs = refl; no_sti = e }) refl
      (defined_labels cs names st.definitions name (place_of st.section) (here st) (place_edge st cs st.section h) h.labels)

  -- ---- data

  data_reloc_is : (names : List (List ℕ)) (at : ℕ) (name : Option (List ℕ))
      → All (λ (r : Reloc). r.in_text ≡ false) (reloc_to names false at false name)
  data_reloc_is names at None = All-nil (λ (r : Reloc). r.in_text ≡ false)
  data_reloc_is names at (Some name) = All-cons (λ (r : Reloc). r.in_text ≡ false)
      (record { in_text = false; at = at; symbol = name_number names name; relative = false }) [] refl
      (All-nil (λ (r : Reloc). r.in_text ≡ false))

  longs_made : (names : List (List ℕ)) (st : ObjectSoFar) (cs : List Chunk) (args : List Argument) → st.after_sti ≡ false
      → IsMade Plain st cs → IsMade Plain (fold (with_long names) st args) cs
  longs_made names st cs [] e h = h
  longs_made names st cs (a ∷ args) e h =
      longs_made names (with_long names st a) cs args e
      (same_made Plain st (with_long names st a) cs h (record { text = refl; sites = refl; relocs = refl; no_sti = e })
      (All-append (λ (r : Reloc). r.in_text ≡ false) st.data_relocs (reloc_to names false (length st.init) false (symbol_in a.form))
      h.in_data (data_reloc_is names (length st.init) (symbol_in a.form))) h.labels)

  in_init_made : (st next new : ObjectSoFar) (cs : List Chunk) → IsMade Plain next cs → in_init st next ≡ Ok new → Made Plain new
  in_init_made st next new cs h e =
      (cs, subst (λ (x : ObjectSoFar). IsMade Plain x cs) (or_ok (is_init st.section) cause.DataInText next new e) h)

  numbers_made : (st new : ObjectSoFar) (cs : List Chunk) (w : Size) (args : List Argument) → st.after_sti ≡ false → IsMade Plain st cs
      → numbers st w args ≡ Ok new → Made Plain new
  unfolding numbers
  numbers_made st new cs w args e h is = in_init_made st (record st { init = st.init ++ values w args }) new cs
      (init_made st cs (st.init ++ values w args) e h)
      (if_ok (not (all_fit w args)) cause.ValueRange (in_init st (record st { init = st.init ++ values w args })) new is)

  longs_is : (names : List (List ℕ)) (st new : ObjectSoFar) (cs : List Chunk) (args : List Argument) → st.after_sti ≡ false
      → IsMade Plain st cs → longs names st args ≡ Ok new → Made Plain new
  unfolding longs
  longs_is names st new cs args e h is = in_init_made st (fold (with_long names) st args) new cs (longs_made names st cs args e h)
      (if_ok (not (all_fit size.Long args)) cause.ValueRange (in_init st (fold (with_long names) st args)) new is)

  strings_made : (st new : ObjectSoFar) (cs : List Chunk) (ended : Bool) (args : List Argument) → st.after_sti ≡ false → IsMade Plain st cs
      → strings st ended args ≡ Ok new → Made Plain new
  unfolding strings
  strings_made st new cs ended args e h is = in_init_made st (record st { init = st.init ++ flat_map (string_bytes ended) args }) new cs
      (init_made st cs (st.init ++ flat_map (string_bytes ended) args) e h) is

  zeros_made : (st new : ObjectSoFar) (cs : List Chunk) (s : Section) (n : ℕ) → st.after_sti ≡ false → IsMade Plain st cs
      → zeros_in st s n ≡ Ok new → Made Plain new
  zeros_made st new cs section.Text n e h is = absurd cc
  zeros_made st new cs section.Init n e h is =
      let same = ok_same (record st { init = st.init ++ replicate n 0 }) new
      (if_ok (nat_lt 33554432 (length st.init + st.bss + n)) cause.InitTooLarge
      (ok_state (record st { init = st.init ++ replicate n 0 })) new is) in
      (cs, subst (λ (x : ObjectSoFar). IsMade Plain x cs) same (init_made st cs (st.init ++ replicate n 0) e h))
  zeros_made st new cs section.Bss n e h is = (
    cs,
    subst (λ (x : ObjectSoFar). IsMade Plain x cs) (ok_same (record st { bss = st.bss + n }) new is)
        (bss_made st cs (st.bss + n) e h),
  )

  -- ---- directives

  made_as : (x new : ObjectSoFar) (cs : List Chunk) → IsMade Plain x cs → ok_state x ≡ Ok new → Made Plain new
  made_as x new cs h e = (cs, subst (λ (y : ObjectSoFar). IsMade Plain y cs) (ok_same x new e) h)

  some_made : (x new : ObjectSoFar) → Made Plain x → ok_state x ≡ Ok new → Made Plain new
  some_made x new h e = subst (Made Plain) (ok_same x new e) h

  common_made : (names : List (List ℕ)) (st : ObjectSoFar) (cs : List Chunk) (args : List Argument) → st.after_sti ≡ false
      → IsMade Plain st cs → IsMade Plain (common names st args) cs
  unfolding common
  common_made names st cs args e h =
      let r = reserved_made names st cs (symbol_at args 0) (count_at args 1) (alignment (unwrap_or (limit_at args 2) 1)) e h in
      bound_made names (reserved names st (symbol_at args 0) (count_at args 1) (alignment (unwrap_or (limit_at args 2) 1))) cs
      (symbol_at args 0) binding.Common r.1 r.0

  directed_made : (names : List (List ℕ)) (st new : ObjectSoFar) (cs : List Chunk) (d : DirectiveName) (args : List Argument)
      → st.after_sti ≡ false → IsMade Plain st cs → directed names st d args ≡ Ok new → Made Plain new
  unfolding directed
  directed_made names st new cs directive.Text args e h is =
      made_as (entered st section.Text) new cs (section_made st cs section.Text e h) is
  directed_made names st new cs directive.Data args e h is =
      made_as (entered st section.Init) new cs (section_made st cs section.Init e h) is
  directed_made names st new cs directive.Bss args e h is = made_as (entered st section.Bss) new cs (section_made st cs section.Bss e h) is
  directed_made names st new cs directive.Section args e h is = made_as (entered st (section_named (text_at args 0) st.section)) new cs
      (section_made st cs (section_named (text_at args 0) st.section) e h) is
  directed_made names st new cs directive.Global args e h is =
      made_as (bound names st (symbol_at args 0) binding.Global) new cs (bound_made names st cs (symbol_at args 0) binding.Global e h) is
  directed_made names st new cs directive.Local args e h is =
      made_as (bound names st (symbol_at args 0) binding.Local) new cs (bound_made names st cs (symbol_at args 0) binding.Local e h) is
  directed_made names st new cs directive.Bytes args e h is = numbers_made st new cs size.Byte args e h is
  directed_made names st new cs directive.Shorts args e h is = numbers_made st new cs size.Word args e h is
  directed_made names st new cs directive.Longs args e h is = longs_is names st new cs args e h is
  directed_made names st new cs directive.Ascii args e h is = strings_made st new cs false args e h is
  directed_made names st new cs directive.Asciz args e h is = strings_made st new cs true args e h is
  directed_made names st new cs directive.Zeros args e h is = zeros_made st new cs st.section (count_at args 0) e h is
  directed_made names st new cs directive.Aligned args e h is =
      some_made (aligned st (alignment (count_at args 0)) None) new (aligned_made st cs (alignment (count_at args 0)) None e h) is
  directed_made names st new cs directive.Powered args e h is = some_made (aligned st (power (count_at args 0)) (limit_at args 2)) new
      (aligned_made st cs (power (count_at args 0)) (limit_at args 2) e h) is
  directed_made names st new cs directive.Common args e h is = made_as (common names st args) new cs (common_made names st cs args e h) is
  directed_made names st new cs directive.LocalCommon args e h is = made_as (reserved names st (symbol_at args 0) (count_at args 1) 1) new
      cs (reserved_made names st cs (symbol_at args 0) (count_at args 1) 1 e h).0 is
  directed_made names st new cs directive.Skipped args e h is = made_as st new cs h is

  parted_made : (st : ObjectSoFar) (cs : List Chunk) → IsMade Plain st cs → IsMade Plain (parted st) cs
  parted_made st cs h = with_names st (parted st) cs h (record { text = refl; sites = refl; relocs = refl; no_sti = refl }) refl h.labels

  body_made : (names : List (List ℕ)) (st new : ObjectSoFar) (cs : List Chunk) (b : Body) → (Plain → NamesNoNumber b) → IsMade Plain st cs
      → made names st b ≡ Ok new → Made Plain new
  unfolding made
  body_made names st new cs (body.Label name) plain h is =
      made_as (labelled names (parted st) name) new cs (labelled_made names (parted st) cs name refl (parted_made st cs h)) is
  body_made names st new cs (body.Directive name args) plain h is =
      directed_made names (parted st) new cs (directive_of name) args refl (parted_made st cs h) is
  body_made names st new cs (body.Instruction rep name args) plain h is = instruction_made Plain names rep name st new args cs plain h is

  -- ---- all items

  abbrev IsGood : ObjectSoFar → Type 0
  IsGood st = Made Plain st × (length st.text ≤ TEXT_LIMIT)

  not_more : (limit n : ℕ) → nat_lt limit n ≡ false → n ≤ limit
  not_more limit n e = grind (arith, nat_tests)

  text_test : (b : Bool) (c : BurnCause) (r : Result ObjectSoFar BurnCause) (new : ObjectSoFar) → cond b (Err c) r ≡ Ok new → b ≡ false
  text_test true c r new e = absurd cc
  text_test false c r new e = refl

  limited_good : (st new : ObjectSoFar) → Made Plain st → limited st ≡ Ok new → IsGood new
  unfolding limited
  limited_good st new h e =
      let rest : Result ObjectSoFar BurnCause = cond (nat_lt 33554432 (length st.init + st.bss)) (Err cause.InitTooLarge)
      (cond (nat_lt 262144 (length st.sites)) (Err cause.TooManySites) (ok_state st)) in
      let a = if_ok (nat_lt TEXT_LIMIT (length st.text)) cause.TextTooLarge rest new e in
      let few = not_more TEXT_LIMIT (length st.text) (text_test (nat_lt TEXT_LIMIT (length st.text)) cause.TextTooLarge rest new e) in
      let b = if_ok (nat_lt 33554432 (length st.init + st.bss)) cause.InitTooLarge
      (cond (nat_lt 262144 (length st.sites)) (Err cause.TooManySites) (ok_state st)) new a in
      let same = ok_same st new (if_ok (nat_lt 262144 (length st.sites)) cause.TooManySites (ok_state st) new b) in
      (subst (Made Plain) same h, subst (λ (x : ObjectSoFar). length x.text ≤ TEXT_LIMIT) same few)

  then_good : (names : List (List ℕ)) (st new : ObjectSoFar) (b : Body) (r : Result ObjectSoFar BurnCause)
      → ((x : ObjectSoFar) → r ≡ Ok x → Made Plain x) → then_limited r ≡ Ok new → IsGood new
  then_good names st new b (Err c) h e = absurd cc
  then_good names st new b (Ok x) h e = limited_good x new (h x refl) e

  item_good : (names : List (List ℕ)) (st new : ObjectSoFar) (b : Body) → (Plain → NamesNoNumber b) → IsGood st
      → item_made names st b ≡ Ok new → IsGood new
  unfolding item_made
  item_good names st new b plain g e = then_good names st new b (made names st b) (λ x is. body_made names st x g.0.0 b plain g.0.1 is) e

  line_ok : (line : ℕ) (r : Result ObjectSoFar BurnCause) (new : ObjectSoFar) → at_line line r ≡ Ok new → r ≡ Ok new
  line_ok line (Err c) new e = absurd cc
  line_ok line (Ok st) new e = let same : st ≡ new = cc in ap (λ (x : ObjectSoFar). Ok x) same

  next_good : (names : List (List ℕ)) (r : Result ObjectSoFar Fault) (i : SourceItem) (new : ObjectSoFar) → (Plain → NamesNoNumber i.body)
      → ((st : ObjectSoFar) → r ≡ Ok st → IsGood st) → next_made names r i ≡ Ok new → IsGood new
  next_good names (Err f) i new plain h e = absurd cc
  next_good names (Ok st) i new plain h e =
      item_good names st new i.body plain (h st refl) (line_ok i.line (item_made names st i.body) new e)

  items_good : (names : List (List ℕ)) (items : List SourceItem) (r : Result ObjectSoFar Fault) (new : ObjectSoFar)
      → (Plain → NameNoNumbers items) → ((st : ObjectSoFar) → r ≡ Ok st → IsGood st) → fold (next_made names) r items ≡ Ok new → IsGood new
  items_good names [] r new plain h e = h new e
  items_good names (i ∷ items) r new plain h e =
      items_good names items (next_made names r i) new (λ p. (plain p).1) (λ st is. next_good names r i st (λ p. (plain p).0) h is) e

  fresh_made : (names : List (List ℕ)) → IsMade Plain (fresh names) []
  unfolding chunk_sites chunks_relocs
  fresh_made names = record {
    read = tt;
    fields = tt;
    branches = tt;
    text = refl;
    sites = refl;
    relocs = refl;
    in_text = All-nil (λ (r : Reloc). r.in_text ≡ true);
    in_data = All-nil (λ (r : Reloc). r.in_text ≡ false);
    labels = All-replicate (IsLabel []) (length names) undefined (λ e. absurd cc);
    sti = λ e. absurd cc;
    alone = λ p. tt;
  }

  abbrev ok_fresh : ObjectSoFar → Result ObjectSoFar Fault
  ok_fresh st = Ok st

  fresh_good : (names : List (List ℕ)) (st : ObjectSoFar) → ok_fresh (fresh names) ≡ Ok st → IsGood st
  fresh_good names st e = let same : fresh names ≡ st = cc in subst IsGood same (([], fresh_made names), omega arith)

  pub record IsFinished (o : ObjectParts) : Type 0 where
    pub names : List (List ℕ)
    pub state : ObjectSoFar
    pub good : Made Plain state × (length state.text ≤ TEXT_LIMIT)
    pub is : object names state ≡ o

  finished_is : (names : List (List ℕ)) (r : Result ObjectSoFar Fault) (o : ObjectParts) → ((st : ObjectSoFar) → r ≡ Ok st → IsGood st)
      → finished names r ≡ Ok o → IsFinished o
  finished_is names (Err f) o h e = absurd cc
  finished_is names (Ok st) o h e = record { names = names; state = st; good = h st refl; is = cc }

  burnt_finished : (items : List SourceItem) (o : ObjectParts) → (Plain → NameNoNumbers items) → burnt items ≡ Ok o → IsFinished o
  unfolding burnt all_made
  burnt_finished items o plain e =
      let names = names_in items in
      finished_is names (fold (next_made names) (Ok (fresh names)) items) o
      (λ st is. items_good names items (Ok (fresh names)) st plain (fresh_good names) is) e

-- ---- the object

-- chunks whose relocations name other symbols
abbrev renamed : (Reloc → Reloc) → Chunk → Chunk
renamed f (Alone c) = Alone (record c { relocs = map f c.relocs })
renamed f Pair = Pair

pub record KeepsPlaces (f : Reloc → Reloc) : Type 0 where
  pub at : (r : Reloc) → (f r).at ≡ r.at
  pub in_text : (r : Reloc) → (f r).in_text ≡ r.in_text
  pub relative : (r : Reloc) → (f r).relative ≡ r.relative
  pub later : (n : ℕ) (r : Reloc) → f (reloc_later n r) ≡ reloc_later n (f r)

renamed_text : (f : Reloc → Reloc) (cs : List Chunk) → chunks_text (map (renamed f) cs) ≡ chunks_text cs
renamed_text f [] = refl
renamed_text f (Alone c ∷ cs) = ap (λ bs. chunk_text (Alone c) ++ bs) (renamed_text f cs)
renamed_text f (Pair ∷ cs) = ap (λ bs. chunk_text Pair ++ bs) (renamed_text f cs)

renamed_sites : (f : Reloc → Reloc) (at : ℕ) (cs : List Chunk) → chunk_sites at (map (renamed f) cs) ≡ chunk_sites at cs
unfolding chunk_sites
renamed_sites f at [] = refl
renamed_sites f at (Alone c ∷ cs) = ap (λ ss. chunk_site at (Alone c) ++ ss) (renamed_sites f (at + length (chunk_text (Alone c))) cs)
renamed_sites f at (Pair ∷ cs) = ap (λ ss. chunk_site at Pair ++ ss) (renamed_sites f (at + 5) cs)

map_later : (f : Reloc → Reloc) (n : ℕ) (rs : List Reloc) → KeepsPlaces f → map f (map (reloc_later n) rs) ≡ map (reloc_later n) (map f rs)
map_later f n [] k = refl
map_later f n (r ∷ rs) k =
    ap (λ (x : Reloc). x ∷ map f (map (reloc_later n) rs)) (k.later n r) ∙ ap (λ xs. reloc_later n (f r) ∷ xs) (map_later f n rs k)

renamed_relocs : (f : Reloc → Reloc) (at : ℕ) (cs : List Chunk) → KeepsPlaces f
    → chunks_relocs at (map (renamed f) cs) ≡ map f (chunks_relocs at cs)
unfolding chunks_relocs
renamed_relocs f at [] k = refl
renamed_relocs f at (Alone c ∷ cs) k =
    ap (λ rs. map (reloc_later at) (map f c.relocs) ++ rs) (renamed_relocs f (at + length (chunk_text (Alone c))) cs k)
    ∙ ap (λ rs. rs ++ map f (chunks_relocs (at + length (chunk_text (Alone c))) cs)) (sym (map_later f at c.relocs k))
    ∙ sym (map-append f (map (reloc_later at) c.relocs) (chunks_relocs (at + length (chunk_text (Alone c))) cs))
renamed_relocs f at (Pair ∷ cs) k = renamed_relocs f (at + 5) cs k

fields_renamed : (f : Reloc → Reloc) (P : ℕ → Type 0) (rs : List Reloc) → KeepsPlaces f → AllByRecursion (λ (r : Reloc). P r.at) rs
    → AllByRecursion (λ (r : Reloc). P r.at) (map f rs)
fields_renamed f P [] k h = tt
fields_renamed f P (r ∷ rs) k h = (subst P (sym (k.at r)) h.0, fields_renamed f P rs k h.1)

renamed_fields : (f : Reloc → Reloc) (cs : List Chunk) → KeepsPlaces f → HaveFields cs → HaveFields (map (renamed f) cs)
renamed_fields f [] k h = tt
renamed_fields f (Alone c ∷ cs) k h = (fields_renamed f (IsField c) c.relocs k h.0, renamed_fields f cs k h.1)
renamed_fields f (Pair ∷ cs) k h = (tt, renamed_fields f cs k h.1)

linked_renamed : (f : Reloc → Reloc) (c : Coded) → KeepsPlaces f → IsLinked c → IsLinked (record c { relocs = map f c.relocs })
linked_renamed f c k l = record {
  reloc = f l.reloc;
  one = ap (map f) l.one;
  in_text = k.in_text l.reloc ∙ l.in_text;
  relative = k.relative l.reloc ∙ l.relative;
  long = l.long;
  place = k.at l.reloc ∙ l.place;
  end = ap (λ n. n + 4) (k.at l.reloc) ∙ l.end;
}

renamed_linked : (f : Reloc → Reloc) (cs : List Chunk) → KeepsPlaces f → AllByRecursion IsLinkedBranch cs
    → AllByRecursion IsLinkedBranch (map (renamed f) cs)
renamed_linked f [] k h = tt
renamed_linked f (Alone c ∷ cs) k h = (λ b. linked_renamed f c k (h.0 b), renamed_linked f cs k h.1)
renamed_linked f (Pair ∷ cs) k h = (tt, renamed_linked f cs k h.1)

front_fits : (xs ys : List ℕ) → AreBytes (xs ++ ys) → AreBytes xs × AreBytes ys
front_fits [] ys h = (tt, h)
front_fits (x ∷ xs) ys h = let s = front_fits xs ys h.1 in ((h.0, s.0), s.1)

renamed_chunks : (f : Reloc → Reloc) (cs : List Chunk) → AreRead cs → AreBytes (chunks_text cs) → AreChunks (map (renamed f) cs)
renamed_chunks f [] h fit = tt
renamed_chunks f (Alone c ∷ cs) h fit =
    let s = front_fits (chunk_text (Alone c)) (chunks_text cs) fit in
    let b = front_fits c.bytes (replicate (padding c) 0x90) s.0 in
    (record { listed = h.0.listed; spelled = record { fit = b.0; read = h.0.read; means = refl } }, renamed_chunks f cs h.1 s.1)
renamed_chunks f (Pair ∷ cs) h fit = (tt, renamed_chunks f cs h.1 (front_fits (chunk_text Pair) (chunks_text cs) fit).1)

renamed_edge : (f : Reloc → Reloc) (cs : List Chunk) (v : ℕ) → IsEdge cs v → IsEdge (map (renamed f) cs) v
renamed_edge f cs v e = record {
  before = map (renamed f) e.before;
  behind = map (renamed f) e.behind;
  parts = ap (map (renamed f)) e.parts ∙ map-append (renamed f) e.before e.behind;
  place = e.place ∙ ap length (sym (renamed_text f e.before));
}

keeps : (ds : List Definition) → KeepsPlaces (renumbered ds)
keeps ds = record { at = λ r. refl; in_text = λ r. refl; relative = λ r. refl; later = λ n r. refl }

kept_text : (ds : List Definition) (rs : List Reloc) → All (λ (r : Reloc). r.in_text ≡ true) rs
    → filter (is_of true) (map (renumbered ds) rs) ≡ map (renumbered ds) rs
kept_text ds [] h = refl
kept_text ds (r ∷ rs) h =
    ap (λ b. cond b (renumbered ds r ∷ filter (is_of true) (map (renumbered ds) rs)) (filter (is_of true) (map (renumbered ds) rs)))
    (All-head (λ (x : Reloc). x.in_text ≡ true) r rs h)
    ∙ ap (λ xs. renumbered ds r ∷ xs) (kept_text ds rs (All-tail (λ (x : Reloc). x.in_text ≡ true) r rs h))

no_text : (ds : List Definition) (rs : List Reloc) → All (λ (r : Reloc). r.in_text ≡ false) rs
    → filter (is_of true) (map (renumbered ds) rs) ≡ []
no_text ds [] h = refl
no_text ds (r ∷ rs) h =
    ap (λ b. cond b (renumbered ds r ∷ filter (is_of true) (map (renumbered ds) rs)) (filter (is_of true) (map (renumbered ds) rs)))
    (All-head (λ (x : Reloc). x.in_text ≡ false) r rs h)
    ∙ no_text ds rs (All-tail (λ (x : Reloc). x.in_text ≡ false) r rs h)

filter_two : (p : Reloc → Bool) (xs ys : List Reloc) → filter p (xs ++ ys) ≡ filter p xs ++ filter p ys
filter_two p [] ys = refl
filter_two p (x ∷ xs) ys = by_test (p x) (filter_two p xs ys) where
  by_test : (b : Bool) → filter p (xs ++ ys) ≡ filter p xs ++ filter p ys → cond b (x ∷ filter p (xs ++ ys)) (filter p (xs ++ ys)) ≡ cond b
      (x ∷ filter p xs) (filter p xs) ++ filter p ys
  by_test true e = ap (λ zs. x ∷ zs) e
  by_test false e = e

text_relocs : (ds : List Definition) (xs ys : List Reloc) → All (λ (r : Reloc). r.in_text ≡ true) xs
    → All (λ (r : Reloc). r.in_text ≡ false) ys → filter (is_of true) (map (renumbered ds) (xs ++ ys)) ≡ map (renumbered ds) xs
text_relocs ds xs ys h k =
    ap (filter (is_of true)) (map-append (renumbered ds) xs ys)
    ∙ filter_two (is_of true) (map (renumbered ds) xs) (map (renumbered ds) ys)
    ∙ ap (λ zs. zs ++ filter (is_of true) (map (renumbered ds) ys)) (kept_text ds xs h)
    ∙ ap (λ zs. map (renumbered ds) xs ++ zs) (no_text ds ys k)
    ∙ append-nil (map (renumbered ds) xs)

abbrev AtEdge : List Chunk → Symbol → Type 0
AtEdge cs s = s.place ≡ place.Text → IsEdge cs s.value

text_value : (p : Place) (v : ℕ) → p ≡ place.Text → value_at p v ≡ v
text_value place.Undefined v e = absurd cc
text_value place.Text v e = refl
text_value place.Init v e = refl
text_value place.Bss v e = refl

symbols_at : (cs : List Chunk) (names : List (List ℕ)) (ds : List Definition) → All (IsLabel cs) ds
    → All (AtEdge cs) (symbols_seen names ds)
symbols_at cs [] ds h = All-nil (AtEdge cs)
symbols_at cs (n ∷ names) [] h = All-nil (AtEdge cs)
symbols_at cs (n ∷ names) (d ∷ ds) h =
    All-cons (AtEdge cs) (symbol n d) (symbols_seen names ds)
    (λ e. subst (IsEdge cs) (sym (text_value d.place d.value e)) (All-head (IsLabel cs) d ds h e))
    (symbols_at cs names ds (All-tail (IsLabel cs) d ds h))

ordered_at : (cs : List Chunk) (seen : List Symbol) → All (AtEdge cs) seen → All (AtEdge cs) (ordered seen)
unfolding ordered
ordered_at cs seen h = All-append (AtEdge cs) (filter (are false) seen) (filter (are true) seen) (All-filter (are false) (AtEdge cs) seen h)
    (All-filter (are true) (AtEdge cs) seen h)

renamed_alone : (f : Reloc → Reloc) (cs : List Chunk) → AreAlone cs → AreAlone (map (renamed f) cs)
renamed_alone f [] h = tt
renamed_alone f (Alone c ∷ cs) h = (h.0, renamed_alone f cs h.1)
renamed_alone f (Pair ∷ cs) h = (tt, renamed_alone f cs h.1)

object_padded : (Plain : Type 0) (names : List (List ℕ)) (st : ObjectSoFar) (cs : List Chunk) → IsMade Plain st cs
    → length st.text ≤ TEXT_LIMIT → AreBytes st.text → IsLinkable (object names st)
    → IsPadded (object names st) (map (renamed (renumbered st.definitions)) cs)
unfolding object
object_padded Plain names st cs h few fit linkable =
    let f = renumbered st.definitions in
    let all = map (renamed f) cs in
    let k = keeps st.definitions in
    let chunks = renamed_chunks f cs h.read (subst AreBytes h.text fit) in
    let text = h.text ∙ sym (renamed_text f cs) in
    let sites = h.sites ∙ sym (renamed_sites f 0 cs) in
    let len = ap length text in
    record {
      chunks = chunks;
      fields = renamed_fields f cs k h.fields;
      branches = renamed_linked f cs k h.branches;
      text = text;
      annotated =
          ap (λ ss. listed (spelling (in_text (length st.text) ss))) sites
          ∙ sites_listed (length st.text) all chunks (omega (arith, len, few));
      relocs = text_relocs st.definitions st.text_relocs st.data_relocs h.in_text h.in_data ∙ ap (map f) h.relocs
          ∙ sym (renamed_relocs f 0 cs k);
      labels = λ s there e. renamed_edge f cs s.value
          (All-contains (AtEdge cs) (ordered (symbols_seen names st.definitions)) s
          (ordered_at cs (symbols_seen names st.definitions) (symbols_at cs names st.definitions h.labels)) there e);
      named = linkable.named;
    }

object_text : (names : List (List ℕ)) (st : ObjectSoFar) → (object names st).text ≡ st.text
unfolding object
object_text names st = refl

pub burnt_padded : (o : ObjectParts) (b : IsBurnt o) → (cs : List Chunk) × IsPadded o cs × (NameNoNumbers b.items → AreAlone cs)
burnt_padded o b =
    let h = burnt_finished (NameNoNumbers b.items) b.items o (λ p. p) b.made in
    let cs = h.good.0.0 in
    let f = renumbered h.state.definitions in
    let text : h.state.text ≡ o.text = sym (object_text h.names h.state) ∙ ap (λ (x : ObjectParts). x.text) h.is in (
      map (renamed f) cs,
      subst (λ (x : ObjectParts). IsPadded x (map (renamed f) cs)) h.is
          (object_padded (NameNoNumbers b.items) h.names h.state cs h.good.0.1 h.good.1 (subst AreBytes (sym text) b.bytes)
          (subst IsLinkable (sym h.is) b.linkable)),
      λ p. renamed_alone f cs (h.good.0.1.alone p),
    )
