-- What items make stays sound.
use Rattle.std.proofs.Common.{◌≡◌, ◌≤◌, ◌+◌, ℕ, Bool, true, false, List, [], ◌∷◌, ◌++◌, length, replicate, Option, Some, None, refl, ◌∙◌, cond, arith, fold, length-append, length-set}
use Rattle.std.proofs.lemmas.List.{length-replicate}
use Rattle.std.specs.Prelude.{Result, Ok, Err, IfOk, All, not, ℤ, nat_lt}
use Rattle.std.specs.Option.{option_to_list}
use Rattle.std.specs.List.{flat_map}
use Rattle.std.proofs.lemmas.List.Elements.{All-append, All-nil, All-cons}
use Rattle.elf_form.specs.declared.object.Reloc.{Reloc}
use Rattle.sites.specs.declared.site.Site.{Site}
use Rattle.asm_source.specs.declared.tree.Argument.{Argument}
use Rattle.asm_source.specs.Names.{symbol_in, name_number, argument_names}
use Rattle.afterburner.specs.declared.fault.BurnCause.TheVariants as cause
use Rattle.afterburner.specs.declared.section.Section.{Section}
use Rattle.afterburner.specs.declared.section.Section.TheVariants as section
use Rattle.afterburner.specs.declared.symbol.Binding.{Binding}
use Rattle.ia32_types.specs.declared.size.Size.{Size}
use Rattle.ia32_types.specs.declared.size.Size.TheVariants as size
use Rattle.asm_source.specs.declared.directive_table.DirectiveName.{DirectiveName}
use Rattle.asm_source.specs.declared.directive_table.DirectiveName.TheVariants as directive
use Rattle.afterburner.specs.ObjectSoFar.{ObjectSoFar, undefined, fresh}
use Rattle.afterburner.specs.Symbols.{reloc_to, bound}
use Rattle.afterburner.specs.Arguments.{number_in, count_at, text_at, symbol_at}
use Rattle.afterburner.specs.Values.{value_bytes}
use Rattle.afterburner.specs.Sections.{is_init, filled_in, aligned, labelled, defined_in_bss, reserved, entered, section_named}
use Rattle.afterburner.specs.Directives.{numbers, longs, with_long, strings, string_bytes, zeros_in, common, directed, in_init, all_fit, values}
use Rattle.afterburner.specs.Burnt.{parted}
use Rattle.afterburner.specs.Sound.{IsSound, IsRelocIn, AreApart, AreHeld}
use Rattle.afterburner.proofs.Named.{held_number, held_left, held_right}

-- ---- relocations and sites in a section that grows

pub reloc_grown : (t : Bool) (n a b : ℕ) (relocs : List Reloc) → a ≤ b → All (IsRelocIn t a n) relocs → All (IsRelocIn t b n) relocs
reloc_grown t n a b relocs le all = λ k d lt. let h =
    all k d lt in record { section = h.section; field = omega (arith, h.field); symbol = h.symbol }

pub apart_grown : (from : ℕ) (sites : List Site) (a b : ℕ) → a ≤ b → AreApart from sites a → AreApart from sites b
apart_grown from [] a b le h = omega arith
apart_grown from (s ∷ sites) a b le h = (h.0, h.1, h.2, h.3, apart_grown (s.at + s.total) sites a b le h.4)

pub sound_kept : (n : ℕ) (st made : ObjectSoFar) → IsSound n st → length made.definitions ≡ length st.definitions
    → made.text_relocs ≡ st.text_relocs → made.data_relocs ≡ st.data_relocs → made.sites ≡ st.sites
    → length st.text ≤ length made.text → length st.init ≤ length made.init → made.after_sti ≡ false → IsSound n made
sound_kept n st made s d t r ss lt li a = record {
  definitions = d ∙ s.definitions;
  text_relocs = rw t (reloc_grown true n (length st.text) (length made.text) st.text_relocs lt s.text_relocs);
  data_relocs = rw r (reloc_grown false n (length st.init) (length made.init) st.data_relocs li s.data_relocs);
  few_text = rw t (omega (arith, s.few_text));
  few_data = rw r (omega (arith, s.few_data));
  sites = rw ss (apart_grown 0 st.sites (length st.text) (length made.text) lt s.sites);
  sti_site = λ e. cc;
  sti_text = λ e. cc;
}

pub sound_fresh : (names : List (List ℕ)) → IsSound (length names) (fresh names)
sound_fresh names = record {
  definitions = length-replicate (length names) undefined;
  text_relocs = All-nil (IsRelocIn true 0 (length names));
  data_relocs = All-nil (IsRelocIn false 0 (length names));
  few_text = omega arith;
  few_data = omega arith;
  sites = omega arith;
  sti_site = λ e. cc;
  sti_text = λ e. cc;
}

-- ---- labels and directives, after which nothing is an STI's

pub sound_parted : (n : ℕ) (st : ObjectSoFar) → IsSound n st → IsSound n (parted st)
sound_parted n st s = sound_kept n st (parted st) s refl refl refl refl (omega arith) (omega arith) refl

pub sound_labelled : (names : List (List ℕ)) (n : ℕ) (st : ObjectSoFar) (name : List ℕ) → IsSound n st
    → IsSound n (labelled names (parted st) name)
unfolding labelled
sound_labelled names n st name s = sound_kept n st (labelled names (parted st) name) s
    (length-set st.definitions (name_number names name) _) refl refl refl (omega arith) (omega arith) refl

sound_entered : (n : ℕ) (st : ObjectSoFar) (x : Section) → st.after_sti ≡ false → IsSound n st → IsSound n (entered st x)
sound_entered n st x a s = sound_kept n st (entered st x) s refl refl refl refl (omega arith) (omega arith) a

sound_bound : (names : List (List ℕ)) (n : ℕ) (st : ObjectSoFar) (o : Option (List ℕ)) (b : Binding) → st.after_sti ≡ false → IsSound n st
    → IsSound n (bound names st o b)
sound_bound names n st None b a s = s
sound_bound names n st (Some name) b a s = sound_kept n st (bound names st (Some name) b) s
    (length-set st.definitions (name_number names name) _) refl refl refl (omega arith) (omega arith) a

sound_filled : (n : ℕ) (st : ObjectSoFar) (x : Section) (k : ℕ) → st.after_sti ≡ false → IsSound n st → IsSound n (filled_in st x k)
sound_filled n st section.Text k a s =
    sound_kept n st (filled_in st section.Text k) s refl refl refl refl (simp length-append (omega arith)) (omega arith) a
sound_filled n st section.Init k a s =
    sound_kept n st (filled_in st section.Init k) s refl refl refl refl (omega arith) (simp length-append (omega arith)) a
sound_filled n st section.Bss k a s = sound_kept n st (filled_in st section.Bss k) s refl refl refl refl (omega arith) (omega arith) a

sound_aligned : (n : ℕ) (st : ObjectSoFar) (k : ℕ) (most : Option ℕ) → st.after_sti ≡ false → IsSound n st → IsSound n (aligned st k most)
unfolding aligned
sound_aligned n st k most a s = sound_filled n st st.section _ a s

sound_bss : (names : List (List ℕ)) (n : ℕ) (st : ObjectSoFar) (name : Option (List ℕ)) (b e : ℕ) → st.after_sti ≡ false → IsSound n st
    → IsSound n (record (defined_in_bss names (record st { bss = b }) name) { bss = e })
sound_bss names n st None b e a s = sound_kept n st (record st { bss = e }) s refl refl refl refl (omega arith) (omega arith) a
sound_bss names n st (Some name) b e a s = sound_kept n st (record (defined_in_bss names (record st { bss = b }) (Some name)) { bss = e }) s
    (length-set st.definitions (name_number names name) _) refl refl refl (omega arith) (omega arith) a

defined_keeps : (names : List (List ℕ)) (st : ObjectSoFar) (name : Option (List ℕ))
    → (defined_in_bss names st name).after_sti ≡ st.after_sti
defined_keeps names st None = refl
defined_keeps names st (Some name) = refl

sound_reserved : (names : List (List ℕ)) (n : ℕ) (st : ObjectSoFar) (name : Option (List ℕ)) (size k : ℕ) → st.after_sti ≡ false
    → IsSound n st → IsSound n (reserved names st name size k)
unfolding reserved
sound_reserved names n st name size k a s = sound_bss names n st name _ _ a s

sound_common : (names : List (List ℕ)) (n : ℕ) (st : ObjectSoFar) (args : List Argument) → st.after_sti ≡ false → IsSound n st
    → IsSound n (common names st args)
unfolding common reserved
sound_common names n st args a s = sound_bound names n _ (symbol_at args 0) _ (defined_keeps names _ (symbol_at args 0) ∙ a)
    (sound_reserved names n st (symbol_at args 0) _ _ a s)

-- ---- data

if_ok : {A B : Type 0} (P : A → Type 0) (b : Bool) (x y : Result A B) → IfOk x P → IfOk y P → IfOk (cond b x y) P
if_ok P true x y h j = h
if_ok P false x y h j = j

sound_data : (n : ℕ) (st : ObjectSoFar) (bytes : List ℕ) → st.after_sti ≡ false → IsSound n st
    → IfOk (in_init st (record st { init = st.init ++ bytes })) (IsSound n)
sound_data n st bytes a s =
    if_ok (IsSound n) (is_init st.section) _ _ (sound_kept n st (record st { init = st.init ++ bytes }) s refl refl refl refl (omega arith)
    (simp length-append (omega arith)) a) tt

sound_numbers : (n : ℕ) (st : ObjectSoFar) (w : Size) (args : List Argument) → st.after_sti ≡ false → IsSound n st
    → IfOk (numbers st w args) (IsSound n)
unfolding numbers
sound_numbers n st w args a s = if_ok (IsSound n) (not (all_fit w args)) _ _ tt (sound_data n st (values w args) a s)

sound_zeros : (n : ℕ) (st : ObjectSoFar) (x : Section) (k : ℕ) → st.after_sti ≡ false → IsSound n st → IfOk (zeros_in st x k) (IsSound n)
sound_zeros n st section.Text k a s = tt
sound_zeros n st section.Init k a s =
    let grown : ObjectSoFar = record st { init = st.init ++ replicate k 0 } in
    elim (nat_lt 33554432 (length st.init + st.bss + k)) as (λ b. IfOk (cond b (Err cause.InitTooLarge) (Ok grown)) (IsSound n)) [
      | true ↦ tt
      | false ↦ sound_kept n st grown s refl refl refl refl (omega arith) (simp length-append (omega arith)) a
    ]
sound_zeros n st section.Bss k a s = sound_kept n st (record st { bss = st.bss + k }) s refl refl refl refl (omega arith) (omega arith) a

sound_strings : (n : ℕ) (st : ObjectSoFar) (ended : Bool) (args : List Argument) → st.after_sti ≡ false → IsSound n st
    → IfOk (strings st ended args) (IsSound n)
unfolding strings
sound_strings n st ended args a s = sound_data n st (flat_map (string_bytes ended) args) a s

four_bytes : (z : ℤ) → length (value_bytes size.Long z) ≡ 4
four_bytes z = refl

-- a value of four bytes, whose relocation lies in them
long_field : (names : List (List ℕ)) (st : ObjectSoFar) (z : ℤ) (o : Option (List ℕ)) → AreHeld names (option_to_list o)
    → All (IsRelocIn false (length (st.init ++ value_bytes size.Long z)) (length names)) (reloc_to names false (length st.init) false o)
long_field names st z None h = All-nil _
long_field names st z (Some name) h =
    All-cons (IsRelocIn false (length (st.init ++ value_bytes size.Long z)) (length names)) _ []
    (record { section = refl; field = simp (length-append, four_bytes z) (omega arith); symbol = held_number names name h.0 }) (All-nil _)

few_fields : (names : List (List ℕ)) (at : ℕ) (o : Option (List ℕ)) → length (reloc_to names false at false o) ≤ 1
few_fields names at None = omega arith
few_fields names at (Some name) = omega arith

sound_long : (names : List (List ℕ)) (st : ObjectSoFar) (x : Argument) → st.after_sti ≡ false
    → AreHeld names (option_to_list (symbol_in x.form)) → IsSound (length names) st → IsSound (length names) (with_long names st x)
sound_long names st x a h s =
    let z : ℤ = number_in x.form in
    let longer : length st.init ≤ length (st.init ++ value_bytes size.Long z) = simp length-append (omega arith) in
    let more : length (st.init ++ value_bytes size.Long z) ≡ length st.init + 4 = simp (length-append, four_bytes z) refl in
    let few = few_fields names (length st.init) (symbol_in x.form) in
    record {
      definitions = s.definitions;
      text_relocs = s.text_relocs;
      data_relocs = All-append (IsRelocIn false (length (st.init ++ value_bytes size.Long z)) (length names)) st.data_relocs
          (reloc_to names false (length st.init) false (symbol_in x.form))
          (reloc_grown false (length names) (length st.init) (length (st.init ++ value_bytes size.Long z)) st.data_relocs longer
          s.data_relocs) (long_field names st z (symbol_in x.form) h);
      few_text = s.few_text;
      few_data = rw (
        length-append st.data_relocs (reloc_to names false (length st.init) false (symbol_in x.form)),
        more,
      ) (omega (arith, few, s.few_data));
      sites = s.sites;
      sti_site = s.sti_site;
      sti_text = s.sti_text;
    }

sound_fold : (names : List (List ℕ)) (st : ObjectSoFar) (args : List Argument) → st.after_sti ≡ false → AreHeld names (argument_names args)
    → IsSound (length names) st → IsSound (length names) (fold (with_long names) st args)
sound_fold names st [] a h s = s
sound_fold names st (x ∷ args) a h s =
    sound_fold names (with_long names st x) args a (held_right names (option_to_list (symbol_in x.form)) (argument_names args) h)
    (sound_long names st x a (held_left names (option_to_list (symbol_in x.form)) (argument_names args) h) s)

sound_longs : (names : List (List ℕ)) (st : ObjectSoFar) (args : List Argument) → st.after_sti ≡ false → AreHeld names (argument_names args)
    → IsSound (length names) st → IfOk (longs names st args) (IsSound (length names))
unfolding longs
sound_longs names st args a h s =
    elim (all_fit size.Long args) as (λ b. IfOk (cond (not b) (Err cause.ValueRange) (in_init st (fold (with_long names) st args)))
    (IsSound (length names))) [
      | false ↦ tt
      | true ↦ elim (is_init st.section) as
          (λ b. IfOk (cond b (Ok (fold (with_long names) st args)) (Err cause.DataInText)) (IsSound (length names)))
          [ true ↦ sound_fold names st args a h s | false ↦ tt ]
    ]

pub sound_directed : (names : List (List ℕ)) (st : ObjectSoFar) (d : DirectiveName) (args : List Argument) → st.after_sti ≡ false
    → AreHeld names (argument_names args) → IsSound (length names) st → IfOk (directed names st d args) (IsSound (length names))
unfolding directed
sound_directed names st directive.Text args a h s = sound_entered (length names) st section.Text a s
sound_directed names st directive.Data args a h s = sound_entered (length names) st section.Init a s
sound_directed names st directive.Bss args a h s = sound_entered (length names) st section.Bss a s
sound_directed names st directive.Section args a h s = sound_entered (length names) st (section_named (text_at args 0) st.section) a s
sound_directed names st directive.Global args a h s = sound_bound names (length names) st (symbol_at args 0) _ a s
sound_directed names st directive.Local args a h s = sound_bound names (length names) st (symbol_at args 0) _ a s
sound_directed names st directive.Bytes args a h s = sound_numbers (length names) st size.Byte args a s
sound_directed names st directive.Shorts args a h s = sound_numbers (length names) st size.Word args a s
sound_directed names st directive.Longs args a h s = sound_longs names st args a h s
sound_directed names st directive.Ascii args a h s = sound_strings (length names) st false args a s
sound_directed names st directive.Asciz args a h s = sound_strings (length names) st true args a s
sound_directed names st directive.Zeros args a h s = sound_zeros (length names) st st.section (count_at args 0) a s
sound_directed names st directive.Aligned args a h s = sound_aligned (length names) st _ _ a s
sound_directed names st directive.Powered args a h s = sound_aligned (length names) st _ _ a s
sound_directed names st directive.Common args a h s = sound_common names (length names) st args a s
sound_directed names st directive.LocalCommon args a h s = sound_reserved names (length names) st (symbol_at args 0) _ _ a s
sound_directed names st directive.Skipped args a h s = s
