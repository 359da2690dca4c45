-- Instructions: spelled, padded and annotated.
use Rattle.std.specs.Prelude.{ℕ, ◌+◌, ◌-◌, Bool, true, false, ◌&&◌, List, [], ◌∷◌, ◌++◌, length, take, replicate, Option, Some, None, Result, Ok, Err, slice_set, slice_index_or, if◌then◌else◌}
use Rattle.asm_source.specs.declared.tree.Argument.{Argument}
use Rattle.ia32_types.specs.declared.site.SiteKind.{SiteKind}
use Rattle.ia32_types.specs.declared.site.SiteKind.TheVariants as site
use Rattle.ia32_types.specs.Site.{sensitive_kind}
use Rattle.elf_form.specs.declared.object.Reloc.{Reloc}
use Rattle.sites.specs.declared.site.Site.{Site}
use Rattle.sites.specs.Padded.{padded_site}
use Rattle.asm_instruction.specs.declared.assembled.Assembled.{Assembled}
use Rattle.asm_instruction.specs.declared.assembled.Named.{Named}
use Rattle.asm_instruction.specs.declared.assembled.Refusal.{Refusal}
use Rattle.asm_instruction.specs.Assembled.{assembled}
use Rattle.afterburner.specs.declared.fault.BurnCause.{BurnCause}
use Rattle.afterburner.specs.declared.fault.BurnCause.TheVariants as cause
use Rattle.afterburner.specs.Causes.{cause_of}
use Rattle.afterburner.specs.ObjectSoFar.{ObjectSoFar}
use Rattle.afterburner.specs.Symbols.{reloc_to}
use Rattle.afterburner.specs.Arguments.{symbol_at}
use Rattle.afterburner.specs.Sections.{is_text}

abbrev pub nops : ℕ → List ℕ
nops n = replicate n 144

-- A sensitive instruction shorter than 5 bytes is followed by NOPs up to 5.
abbrev pub nops_behind : Option SiteKind → ℕ → ℕ
nops_behind None len = 0
nops_behind (Some kind) len = 5 - len

abbrev pub site_at : ℕ → Option SiteKind → ℕ → List Site
site_at at None len = []
site_at at (Some kind) len = padded_site at kind len ∷ []

-- the relocation of a field of the instruction at this offset
abbrev pub field_reloc : List (List ℕ) → ℕ → List Argument → Option Named → List Reloc
field_reloc names at args None = []
field_reloc names at args (Some field) = reloc_to names true (at + field.at) field.relative (symbol_at args field.argument)

abbrev pub is_sti : Option SiteKind → Bool
is_sti (Some site.Sti) = true
is_sti _ = false

abbrev pub is_hlt : Option SiteKind → Bool
is_hlt (Some site.Hlt) = true
is_hlt _ = false

-- an instruction at the end of the text
unfoldable pub added : List (List ℕ) → ObjectSoFar → List Argument → Assembled → ObjectSoFar
added names st args a =
    let at = length st.text in
    let kind = sensitive_kind a.insn in
    record st {
      text = st.text ++ take a.spelling.len a.spelling.bytes ++ nops (nops_behind kind a.spelling.len);
      sites = st.sites ++ site_at at kind a.spelling.len;
      text_relocs = st.text_relocs ++ field_reloc names at args a.disp ++ field_reloc names at args a.imm;
      after_sti = is_sti kind;
    }

-- HLT directly after STI takes the place of the first of its four NOPs, and the two are one site.
abbrev pub pair_site : Site → Site
pair_site s = record s { kind = site.StiHlt; len = 2; total = 5 }

abbrev pub no_site : Site
no_site = record { at = 0; kind = site.Sti; len = 1; total = 5 }

unfoldable pub paired : ObjectSoFar → ObjectSoFar
paired st =
    let last = length st.sites - 1 in
    record st {
      text = slice_set st.text (length st.text - 4) 244;
      sites = slice_set st.sites last (pair_site (slice_index_or st.sites last no_site));
      after_sti = false;
    }

abbrev pub placed : List (List ℕ) → ObjectSoFar → List Argument → Assembled → ObjectSoFar
placed names st args a = if st.after_sti && is_hlt (sensitive_kind a.insn) then paired st else added names st args a

abbrev pub in_text : List (List ℕ) → ObjectSoFar → List Argument → Result Assembled Refusal → Result ObjectSoFar BurnCause
in_text names st args (Err r) = Err (cause_of r)
in_text names st args (Ok a) = if is_text st.section then Ok (placed names st args a) else Err cause.DataInText

-- an instruction; none stands outside text
unfoldable pub instruction : List (List ℕ) → ObjectSoFar → Bool → List ℕ → List Argument → Result ObjectSoFar BurnCause
instruction names st rep name args = in_text names st args (assembled rep name args)
