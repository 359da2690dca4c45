-- An instruction that is added leaves everything sound.
use Rattle.std.proofs.Common.{◌≡◌, ◌≤◌, ◌+◌, ◌*◌, ◌-◌, ℕ, zero, suc, true, List, [], ◌∷◌, ◌++◌, length, get_or, set, Option, Some, None, refl, ap, ◌∙◌, arith, length-append, length-set}
use Rattle.std.proofs.lemmas.List.{length-replicate}
use Rattle.std.specs.Prelude.{All, slice_get, take}
use Rattle.std.proofs.lemmas.List.Elements.{All-append, All-nil, All-cons}
use Rattle.elf_form.specs.declared.object.Reloc.{Reloc}
use Rattle.sites.specs.declared.site.Site.{Site}
use Rattle.ia32_types.specs.declared.site.SiteKind.{SiteKind}
use Rattle.ia32_types.specs.Site.{sensitive_kind}
use Rattle.asm_source.specs.declared.tree.Argument.{Argument}
use Rattle.asm_source.specs.Names.{symbol_in, argument_names}
use Rattle.asm_instruction.specs.declared.assembled.Assembled.{Assembled}
use Rattle.asm_instruction.specs.declared.assembled.Named.{Named}
use Rattle.asm_instruction.specs.Right.{HasBoundedLength, IsField, HasFields}
use Rattle.afterburner.specs.Symbols.{reloc_to}
use Rattle.afterburner.specs.ObjectSoFar.{ObjectSoFar}
use Rattle.afterburner.specs.Arguments.{form_of, symbol_at}
use Rattle.afterburner.specs.Instructions.{nops, nops_behind, site_at, field_reloc, is_sti, added, paired, pair_site, no_site}
use Rattle.afterburner.specs.Sound.{IsSound, IsRelocIn, AreApart, AreHeld}
use Rattle.afterburner.proofs.Named.{held_number, argument_held}
use Rattle.afterburner.proofs.Sound.{reloc_grown}

-- ---- relocations

field_symbol : (args : List Argument) (k : ℕ) (a : Argument) (n : List ℕ) → slice_get args k ≡ Some a → symbol_in a.form ≡ Some n
    → symbol_at args k ≡ Some n
field_symbol args k a n e f = ap (λ (o : Option Argument). symbol_in (form_of o)) e ∙ f

field_lies : (names : List (List ℕ)) (at size len : ℕ) (args : List Argument) (o : Option Named) → IsField len args o → at + len ≤ size
    → AreHeld names (argument_names args) → All (IsRelocIn true size (length names)) (field_reloc names at args o)
field_lies names at size len args None f le h = All-nil _
field_lies names at size len args (Some field) f le h =
    let name : List ℕ = f.2 in
    let found : symbol_at args field.argument ≡ Some name = field_symbol args field.argument f.1 name f.3 f.4 in
    let held = held_number names name (argument_held names args field.argument f.1 name f.3 f.4 h) in
    rw found (All-cons (IsRelocIn true size (length names))
    (record { in_text = true; at = at + field.at; symbol = _; relative = field.relative }) []
    (record { section = refl; field = omega (arith, f.0); symbol = held }) (All-nil _))

-- each field is four bytes of the instruction
few_fields : (names : List (List ℕ)) (at len : ℕ) (args : List Argument) (o : Option Named) → IsField len args o
    → 2 * length (field_reloc names at args o) ≤ len
few_fields names at len args None f = omega arith
few_fields names at len args (Some field) f =
    elim (symbol_at args field.argument) as (λ s. 2 * length (reloc_to names true (at + field.at) field.relative s) ≤ len)
    [ None ↦ omega arith | Some name ↦ omega (arith, f.0) ]

-- ---- sites

apart_lower : (a b : ℕ) (sites : List Site) (to : ℕ) → a ≤ b → AreApart b sites to → AreApart a sites to
apart_lower a b [] to le h = omega arith
apart_lower a b (s ∷ sites) to le h = (omega (arith, h.0), h.1, h.2, h.3, h.4)

apart_more : (from at to : ℕ) (sites more : List Site) → AreApart from sites at → AreApart at more to → AreApart from (sites ++ more) to
apart_more from at to [] more h m = apart_lower from at more to h m
apart_more from at to (s ∷ sites) more h m = (h.0, h.1, h.2, h.3, apart_more (s.at + s.total) at to sites more h.4 m)

site_lies : (at to len : ℕ) (kind : Option SiteKind) → 1 ≤ len → len ≤ 11 → at + len + nops_behind kind len ≤ to
    → AreApart at (site_at at kind len) to
site_lies at to len None some short le = omega arith
site_lies at to len (Some kind) some short le = (omega arith, some, short, refl, omega arith)

sti_sited : (kind : Option SiteKind) (at len : ℕ) (sites : List Site) → is_sti kind ≡ true → 1 ≤ length (sites ++ site_at at kind len)
sti_sited None at len sites e = cc
sti_sited (Some kind) at len sites e = simp length-append (omega arith)

sti_padded : (kind : Option SiteKind) (len : ℕ) → is_sti kind ≡ true → 4 ≤ len + nops_behind kind len
sti_padded None len e = cc
sti_padded (Some kind) len e = omega arith

-- ---- an instruction at the end of the text

pub sound_added : (names : List (List ℕ)) (st : ObjectSoFar) (args : List Argument) (a : Assembled) → HasBoundedLength a → HasFields args a
    → length (take a.spelling.len a.spelling.bytes) ≡ a.spelling.len → AreHeld names (argument_names args) → IsSound (length names) st
    → IsSound (length names) (added names st args a)
unfolding added
sound_added names st args a short fields spelled held s =
    let at : ℕ = length st.text in
    let len : ℕ = a.spelling.len in
    let n : ℕ = length names in
    let kind : Option SiteKind = sensitive_kind a.insn in
    let bytes : List ℕ = take a.spelling.len a.spelling.bytes in
    let text : List ℕ = st.text ++ bytes ++ nops (nops_behind kind len) in
    let size : length text ≡ at + len + nops_behind kind len = length-append (st.text ++ bytes) (nops (nops_behind kind len))
    ∙ (ap (λ (k : ℕ). k + length (nops (nops_behind kind len))) (length-append st.text bytes)
    ∙ rw (spelled, length-replicate {A = ℕ} (nops_behind kind len) 144) refl) in
    let grows : at ≤ length text = rw size (omega arith) in
    let room : at + len ≤ length text = rw size (omega arith) in
    let first : List Reloc = field_reloc names at args a.disp in
    let second : List Reloc = field_reloc names at args a.imm in
    let few_first : 2 * length first ≤ len = few_fields names at len args a.disp fields.disp in
    let few_second : 2 * length second ≤ len = few_fields names at len args a.imm fields.imm in
    let few : length (st.text_relocs ++ first ++ second) ≡ length st.text_relocs + length first + length second =
    length-append (st.text_relocs ++ first) second ∙ ap (λ (k : ℕ). k + length second) (length-append st.text_relocs first) in
    let site_room : at + len + nops_behind kind len ≤ length text = rw size (omega arith) in
    record {
      definitions = s.definitions;
      text_relocs = All-append (IsRelocIn true (length text) n) (st.text_relocs ++ first) second
          (All-append (IsRelocIn true (length text) n) st.text_relocs first
          (reloc_grown true n at (length text) st.text_relocs grows s.text_relocs)
          (field_lies names at (length text) len args a.disp fields.disp room held))
          (field_lies names at (length text) len args a.imm fields.imm room held);
      data_relocs = s.data_relocs;
      few_text = omega (arith, few, few_first, few_second, s.few_text, room);
      few_data = s.few_data;
      sites = apart_more 0 at (length text) st.sites (site_at at kind len) s.sites
          (site_lies at (length text) len kind short.some short.most site_room);
      sti_site = λ e. sti_sited kind at len st.sites e;
      sti_text = λ e. let four = sti_padded kind len e in omega (arith, four, site_room);
    }

-- ---- HLT after STI

apart_last : (from k to : ℕ) (sites : List Site) → k + 1 ≡ length sites → AreApart from sites to
    → AreApart from (set sites k (pair_site (get_or sites k no_site))) to
apart_last from k to [] e h = absurd (omega arith)
apart_last from zero to (s ∷ []) e h = (h.0, omega arith, omega arith, refl, omega (arith, h.3, h.4))
apart_last from zero to (s ∷ t ∷ sites) e h = absurd (omega arith)
apart_last from (suc k) to (s ∷ sites) e h = (h.0, h.1, h.2, h.3, apart_last (s.at + s.total) k to sites (omega arith) h.4)

pub sound_paired : (n : ℕ) (st : ObjectSoFar) → st.after_sti ≡ true → IsSound n st → IsSound n (paired st)
unfolding paired
sound_paired n st a s =
    let text : List ℕ = set st.text (length st.text - 4) 244 in
    let size : length text ≡ length st.text = length-set st.text (length st.text - 4) 244 in
    let some : 1 ≤ length st.sites = s.sti_site a in
    let last : ℕ = length st.sites - 1 in
    let sites : AreApart 0 (set st.sites last (pair_site (get_or st.sites last no_site))) (length st.text) =
    apart_last 0 last (length st.text) st.sites (omega arith) s.sites in
    record {
      definitions = s.definitions;
      text_relocs = rw size s.text_relocs;
      data_relocs = s.data_relocs;
      few_text = rw size s.few_text;
      few_data = s.few_data;
      sites = rw size sites;
      sti_site = λ e. cc;
      sti_text = λ e. cc;
    }

pub added_sound : (names : List (List ℕ)) (st made : ObjectSoFar) (args : List Argument) (a : Assembled) → made ≡ added names st args a
    → HasBoundedLength a → HasFields args a → length (take a.spelling.len a.spelling.bytes) ≡ a.spelling.len
    → AreHeld names (argument_names args) → IsSound (length names) st
    → IsSound (length names) made
added_sound names st made args a e short fields spelled held s = rw e (sound_added names st args a short fields spelled held s)

pub paired_sound : (n : ℕ) (st made : ObjectSoFar) → made ≡ paired st → st.after_sti ≡ true → IsSound n st → IsSound n made
paired_sound n st made e a s = rw e (sound_paired n st a s)
