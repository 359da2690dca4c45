-- What the items of a source make is padded.
use Rattle.std.proofs.Common.{◌≡◌, ℕ, zero, suc, ◌+◌, ◌-◌, Bool, true, false, cond, ◌&&◌, List, [], ◌∷◌, ◌++◌, length, map, Option, Some, None, Result, Ok, Err, refl, sym, ap, subst, ◌∙◌, append_assoc, arith, inl, inr}
use Rattle.std.specs.Prelude.{pos, replicate, slice_set, slice_index_or, slice_get}
use Rattle.std.specs.List.{All, AllByRecursion, Contains}
use Rattle.std.proofs.lemmas.List.{append-nil, length-append, map-append, set_at, get_or_at}
use Rattle.std.proofs.lemmas.List.Elements.{All-nil, All-cons, All-append, All-weaker}
use Rattle.ia32_types.specs.Branches.{is_direct_branch}
use Rattle.ia32_types.specs.declared.site.SiteKind.{SiteKind}
use Rattle.ia32_types.specs.declared.site.SiteKind.TheVariants as site
use Rattle.ia32_types.specs.Site.{kind_of, sensitive_kind}
use Rattle.ia32_rows.specs.Spelling.{parts_at, insn_of}
use Rattle.ia32_rows.specs.Rows.{rows}
use Rattle.asm_source.specs.declared.tree.Body.TheVariants as body
use Rattle.asm_source.specs.declared.tree.Argument.{Argument}
use Rattle.asm_source.specs.Names.{symbol_in, name_number}
use Rattle.elf_form.specs.declared.object.Place.TheVariants as place
use Rattle.elf_form.specs.declared.object.Reloc.{Reloc}
use Rattle.sites.specs.declared.site.Site.{Site}
use Rattle.asm_instruction.specs.declared.assembled.Assembled.{Assembled}
use Rattle.asm_instruction.specs.declared.assembled.Named.{Named}
use Rattle.asm_instruction.specs.declared.assembled.Refusal.{Refusal}
use Rattle.asm_instruction.specs.Assembled.{assembled}
use Rattle.asm_instruction.specs.Right.{spelling_bytes}
use Rattle.afterburner.specs.Symbols.{reloc_to}
use Rattle.afterburner.specs.declared.symbol.Definition.{Definition}
use Rattle.afterburner.specs.declared.fault.BurnCause.{BurnCause}
use Rattle.afterburner.specs.declared.fault.BurnCause.TheVariants as cause
use Rattle.afterburner.specs.ObjectSoFar.{ObjectSoFar}
use Rattle.afterburner.specs.Arguments.{number_in, symbol_at}
use Rattle.ia32_types.specs.declared.size.Size.TheVariants as size
use Rattle.asm_instruction.specs.Field.{field}
use Rattle.asm_instruction.specs.Control.{distance}
use Rattle.afterburner.specs.Sections.{is_text}
use Rattle.afterburner.specs.Instructions.{nops, nops_behind, site_at, field_reloc, is_sti, is_hlt, added, pair_site, no_site, paired, placed, in_text, instruction}
use Rattle.built_images.specs.Chunks.{Coded, insn_in, Chunk, Alone, Pair, IsChunk, AreChunks, padding, chunk_text, chunks_text, chunk_site, chunk_sites}
use Rattle.built_images.specs.Filled.{IsField, HasFields, HaveFields, reloc_later, chunk_relocs, chunks_relocs}
use Rattle.built_images.specs.Padded.{IsEdge, IsLinkedBranch, IsAlone, AreAlone}
use Rattle.built_images.specs.Sources.{NamesNoNumber}
use Rattle.built_images.proofs.Sensitive.{sti_read, sti_no_disp, sti_no_imm}
use Rattle.built_images.proofs.Entrances.{text_append, sites_append}
use Rattle.built_images.proofs.Joining.{nop_chunks, nop_chunks_are, nop_chunks_text, nop_chunks_sites, nop_chunks_relocs, nop_chunks_fields, nop_chunks_linked, nop_chunks_alone, edge_left}
use Rattle.built_images.proofs.Assembling.{IsFielded, assembled_fielded}

-- ---- what holds of the state after each item

-- a chunk that is read so; that its numbers are bytes is known of the whole object
pub record IsReadCoded (c : Coded) : Type 0 where
  pub listed : Contains rows c.row
  pub read : parts_at c.row.form c.bytes ≡ Ok (c.parts, [])

abbrev pub IsReadChunk : Chunk → Type 0
IsReadChunk (Alone c) = IsReadCoded c
IsReadChunk Pair = Unit {0}

abbrev pub AreRead : List Chunk → Type 0
AreRead cs = AllByRecursion IsReadChunk cs

abbrev pub IsLabel : List Chunk → Definition → Type 0
IsLabel cs d = d.place ≡ place.Text → IsEdge cs d.value

pub record EndsInSti (cs : List Chunk) : Type 0 where
  pub before : List Chunk
  pub last : Coded
  pub parts : cs ≡ before ++ (Alone last ∷ [])
  pub kind : sensitive_kind (insn_in last) ≡ Some site.Sti

-- a state with another section, other data or other names, after no STI
pub record IsSameText (st new : ObjectSoFar) : Type 0 where
  pub text : new.text ≡ st.text
  pub sites : new.sites ≡ st.sites
  pub relocs : new.text_relocs ≡ st.text_relocs
  pub no_sti : new.after_sti ≡ false

abbrev pub ok_state : ObjectSoFar → Result ObjectSoFar BurnCause
ok_state st = Ok st

pub ok_same : (x y : ObjectSoFar) → ok_state x ≡ Ok y → x ≡ y
ok_same x y e = cc

pub if_ok : (b : Bool) (c : BurnCause) (r : Result ObjectSoFar BurnCause) (new : ObjectSoFar) → cond b (Err c) r ≡ Ok new → r ≡ Ok new
if_ok true c r new e = absurd cc
if_ok false c r new e = e

pub or_ok : (b : Bool) (c : BurnCause) (st new : ObjectSoFar) → cond b (ok_state st) (Err c) ≡ Ok new → st ≡ new
or_ok true c st new e = ok_same st new e
or_ok false c st new e = absurd cc

-- `Plain` is what is asked of the source where no branch of it names a symbol with a number.
module _ (Plain : Type 0) where
  pub record IsMade (st : ObjectSoFar) (cs : List Chunk) : Type 0 where
    pub read : AreRead cs
    pub fields : HaveFields cs
    pub branches : AllByRecursion IsLinkedBranch cs
    pub text : st.text ≡ chunks_text cs
    pub sites : st.sites ≡ chunk_sites 0 cs
    pub relocs : st.text_relocs ≡ chunks_relocs 0 cs
    pub in_text : All (λ (r : Reloc). r.in_text ≡ true) st.text_relocs
    pub in_data : All (λ (r : Reloc). r.in_text ≡ false) st.data_relocs
    pub labels : All (IsLabel cs) st.definitions
    pub sti : st.after_sti ≡ true → EndsInSti cs
    pub alone : Plain → AreAlone cs

  abbrev pub Made : ObjectSoFar → Type 0
  Made st = (cs : List Chunk) × IsMade st cs

  -- ---- lists of chunks one after the other

  by_chunk_join : (P : Chunk → Type 0) (a b : List Chunk) → AllByRecursion P a → AllByRecursion P b → AllByRecursion P (a ++ b)
  by_chunk_join P [] b h k = k
  by_chunk_join P (c ∷ a) b h k = (h.0, by_chunk_join P a b h.1 k)

  by_chunk_split : (P : Chunk → Type 0) (a b : List Chunk) → AllByRecursion P (a ++ b) → AllByRecursion P a × AllByRecursion P b
  by_chunk_split P [] b h = (tt, h)
  by_chunk_split P (c ∷ a) b h = let s = by_chunk_split P a b h.1 in ((h.0, s.0), s.1)

  pub relocs_append : (at : ℕ) (a b : List Chunk) → chunks_relocs at (a ++ b) ≡ chunks_relocs at a
      ++ chunks_relocs (at + length (chunks_text a)) b
  unfolding chunks_relocs
  relocs_append at [] b = let e : at ≡ at + 0 = omega arith in ap (λ n. chunks_relocs n b) e
  relocs_append at (c ∷ a) b =
      let next = at + length (chunk_text c) in
      let e : next + length (chunks_text a) ≡ at + length (chunk_text c ++ chunks_text a) =
      omega (arith, length-append (chunk_text c) (chunks_text a)) in
      ap (λ xs. chunk_relocs at c ++ xs) (relocs_append next a b)
      ∙ sym (append_assoc (chunk_relocs at c) (chunks_relocs next a) (chunks_relocs (next + length (chunks_text a)) b))
      ∙ ap (λ n. (chunk_relocs at c ++ chunks_relocs next a) ++ chunks_relocs n b) e

  labels_more : (cs more : List Chunk) (ds : List Definition) → All (IsLabel cs) ds → All (IsLabel (cs ++ more)) ds
  labels_more cs more ds h = All-weaker (IsLabel cs) (IsLabel (cs ++ more)) (λ d k t. edge_left cs more d.value (k t)) ds h

  -- ---- NOPs

  chunk_read : (c : Chunk) → IsChunk c → IsReadChunk c
  chunk_read (Alone c) h = record { listed = h.listed; read = h.spelled.read }
  chunk_read Pair h = tt

  chunks_read : (cs : List Chunk) → AreChunks cs → AreRead cs
  chunks_read [] h = tt
  chunks_read (c ∷ cs) h = (chunk_read c h.0, chunks_read cs h.1)

  not_sti : (b : Bool) → b ≡ false → b ≡ true → ⊥
  not_sti b e f = cc

  pub same_made : (st new : ObjectSoFar) (cs : List Chunk) → IsMade st cs → IsSameText st new
      → All (λ (r : Reloc). r.in_text ≡ false) new.data_relocs → All (IsLabel cs) new.definitions → IsMade new cs
  same_made st new cs h s data_is labels = record {
    read = h.read;
    fields = h.fields;
    branches = h.branches;
    text = s.text ∙ h.text;
    sites = s.sites ∙ h.sites;
    relocs = s.relocs ∙ h.relocs;
    in_text = subst (λ (rs : List Reloc). All (λ (r : Reloc). r.in_text ≡ true) rs) (sym s.relocs) h.in_text;
    in_data = data_is;
    labels = labels;
    sti = λ e. absurd (not_sti new.after_sti s.no_sti e);
    alone = h.alone;
  }

  -- NOPs at the end of the text
  pub nops_made : (st : ObjectSoFar) (cs : List Chunk) (n : ℕ) → IsMade st cs
      → IsMade (record st { text = st.text ++ replicate n 144; after_sti = false }) (cs ++ nop_chunks n)
  nops_made st cs n h = record {
    read = by_chunk_join IsReadChunk cs (nop_chunks n) h.read (chunks_read (nop_chunks n) (nop_chunks_are n));
    fields = by_chunk_join HasFields cs (nop_chunks n) h.fields (nop_chunks_fields n);
    branches = by_chunk_join IsLinkedBranch cs (nop_chunks n) h.branches (nop_chunks_linked n);
    text = ap (λ bs. bs ++ replicate n 144) h.text ∙ ap (λ bs. chunks_text cs ++ bs) (sym (nop_chunks_text n))
        ∙ sym (text_append cs (nop_chunks n));
    sites =
        h.sites ∙ sym (sites_append 0 cs (nop_chunks n) ∙ ap (λ ss. chunk_sites 0 cs ++ ss)
        (nop_chunks_sites (0 + length (chunks_text cs)) n) ∙ append-nil (chunk_sites 0 cs));
    relocs =
        h.relocs ∙ sym (relocs_append 0 cs (nop_chunks n) ∙ ap (λ rs. chunks_relocs 0 cs ++ rs)
        (nop_chunks_relocs (0 + length (chunks_text cs)) n) ∙ append-nil (chunks_relocs 0 cs));
    in_text = h.in_text;
    in_data = h.in_data;
    labels = labels_more cs (nop_chunks n) st.definitions h.labels;
    sti = λ e. absurd cc;
    alone = λ p. by_chunk_join IsAlone cs (nop_chunks n) (h.alone p) (nop_chunks_alone n);
  }

  -- ---- an instruction

  reloc_same : (names : List (List ℕ)) (at : ℕ) (f : Named) (name : Option (List ℕ))
      → map (reloc_later at) (reloc_to names true (0 + f.at) f.relative name) ≡ reloc_to names true (at + f.at) f.relative name
  reloc_same names at f None = refl
  reloc_same names at f (Some name) = let e : at + (0 + f.at) ≡ at + f.at =
      omega arith in ap (λ (n : ℕ). record { in_text = true; at = n; symbol = name_number names name; relative = f.relative } ∷ []) e

  field_same : (names : List (List ℕ)) (at : ℕ) (args : List Argument) (f : Option Named)
      → map (reloc_later at) (field_reloc names 0 args f) ≡ field_reloc names at args f
  field_same names at args None = refl
  field_same names at args (Some f) = reloc_same names at f (symbol_at args f.argument)

  reloc_in_text : (names : List (List ℕ)) (at : ℕ) (f : Named) (name : Option (List ℕ))
      → All (λ (r : Reloc). r.in_text ≡ true) (reloc_to names true (at + f.at) f.relative name)
  reloc_in_text names at f None = All-nil (λ (r : Reloc). r.in_text ≡ true)
  reloc_in_text names at f (Some name) = All-cons (λ (r : Reloc). r.in_text ≡ true) _ [] refl (All-nil (λ (r : Reloc). r.in_text ≡ true))

  field_in_text : (names : List (List ℕ)) (at : ℕ) (args : List Argument) (f : Option Named)
      → All (λ (r : Reloc). r.in_text ≡ true) (field_reloc names at args f)
  field_in_text names at args None = All-nil (λ (r : Reloc). r.in_text ≡ true)
  field_in_text names at args (Some f) = reloc_in_text names at f (symbol_at args f.argument)

  -- the chunk of an instruction
  abbrev local_relocs : List (List ℕ) → List Argument → Assembled → List Reloc
  local_relocs names args a = field_reloc names 0 args a.disp ++ field_reloc names 0 args a.imm

  abbrev made_coded : List (List ℕ) → (args : List Argument) (a : Assembled) → IsFielded args a → Coded
  made_coded names args a f = record { row = f.row; parts = f.parts; bytes = spelling_bytes a; relocs = local_relocs names args a }

  of_field : (P : ℕ → Type 0) (names : List (List ℕ)) (f : Named) (name : Option (List ℕ)) → P (0 + f.at)
      → AllByRecursion (λ (r : Reloc). P r.at) (reloc_to names true (0 + f.at) f.relative name)
  of_field P names f None h = tt
  of_field P names f (Some name) h = (h, tt)

  of_fields : (P : ℕ → Type 0) (names : List (List ℕ)) (args : List Argument) (f : Option Named) → ((x : Named) → f ≡ Some x → P (0 + x.at))
      → AllByRecursion (λ (r : Reloc). P r.at) (field_reloc names 0 args f)
  of_fields P names args None h = tt
  of_fields P names args (Some f) h = of_field P names f (symbol_at args f.argument) (h f refl)

  by_reloc_join : (P : Reloc → Type 0) (a b : List Reloc) → AllByRecursion P a → AllByRecursion P b → AllByRecursion P (a ++ b)
  by_reloc_join P [] b h k = k
  by_reloc_join P (c ∷ a) b h k = (h.0, by_reloc_join P a b h.1 k)

  coded_fields : (names : List (List ℕ)) (args : List Argument) (a : Assembled) (f : IsFielded args a)
      → HasFields (Alone (made_coded names args a f))
  coded_fields names args a f =
      let c = made_coded names args a f in
      by_reloc_join (λ (r : Reloc). IsField c r.at) (field_reloc names 0 args a.disp) (field_reloc names 0 args a.imm)
      (of_fields (IsField c) names args a.disp (λ x e. let d = f.disp x e in let z : 0 + x.at ≡ x.at = omega arith in inl (d.0, z ∙ d.1)))
      (of_fields (IsField c) names args a.imm (λ x e. let d = f.imm x e in let z : 0 + x.at ≡ x.at = omega arith in inr (d.0, z ∙ d.1)))

  row_op : (c : Coded) → (insn_in c).op ≡ c.row.op
  unfolding insn_of
  row_op c = refl

  symbol_got : (args : List Argument) (k : ℕ) (a : Argument) (name : List ℕ) → slice_get args k ≡ Some a → symbol_in a.form ≡ Some name
      → symbol_at args k ≡ Some name
  symbol_got args k a name e f = ap (λ (o : Option Argument). symbol_in (Rattle.afterburner.specs.Arguments.form_of o)) e ∙ f

  coded_branch : (names : List (List ℕ)) (args : List Argument) (a : Assembled) (f : IsFielded args a)
      → IsLinkedBranch (Alone (made_coded names args a f))
  coded_branch names args a f = λ branch.
      let c = made_coded names args a f in
      let b = f.branch (ap is_direct_branch (sym (row_op c ∙ f.op)) ∙ branch) in
      let z : 0 + b.field.at ≡ b.field.at = omega arith in
      let i = f.imm b.field b.imm in
      let len = f.len in
      let end = b.end in
      record {
        reloc = record { in_text = true; at = 0 + b.field.at; symbol = name_number names b.name; relative = b.field.relative };
        one =
            ap (λ x. field_reloc names 0 args x ++ field_reloc names 0 args a.imm) b.no_disp
            ∙ ap (field_reloc names 0 args) b.imm
            ∙ ap (reloc_to names true (0 + b.field.at) b.field.relative)
            (symbol_got args b.field.argument b.argument b.name b.there b.named);
        in_text = refl;
        relative = b.relative;
        long = i.0;
        place = z ∙ i.1;
        end = omega (arith, len, end);
      }

  sti_kind : (o : Option SiteKind) → is_sti o ≡ true → o ≡ Some site.Sti
  sti_kind None e = absurd cc
  sti_kind (Some site.Sti) e = refl
  sti_kind (Some _) e = absurd cc

  kind_same : (names : List (List ℕ)) (args : List Argument) (a : Assembled) (f : IsFielded args a)
      → sensitive_kind (insn_in (made_coded names args a f)) ≡ sensitive_kind a.insn
  kind_same names args a f = ap kind_of (row_op (made_coded names args a f) ∙ f.op)

  pub added_made : (names : List (List ℕ)) (st : ObjectSoFar) (args : List Argument) (a : Assembled) (f : IsFielded args a)
      (cs : List Chunk) → (Plain → IsAlone (Alone (made_coded names args a f))) → IsMade st cs
      → IsMade (added names st args a) (cs ++ (Alone (made_coded names args a f) ∷ []))
  unfolding added chunk_sites chunks_relocs
  added_made names st args a f cs alone h =
      let c = made_coded names args a f in
      let kind = kind_same names args a f in
      let len = f.len in
      let pad : padding c ≡ nops_behind (sensitive_kind a.insn) a.spelling.len =
      ap (λ o. nops_behind o (length (spelling_bytes a))) kind ∙ ap (nops_behind (sensitive_kind a.insn)) len in
      let at : 0 + length (chunks_text cs) ≡ length st.text = ap (λ bs. 0 + length bs) (sym h.text) ∙ (omega arith) in
      record {
        read = by_chunk_join IsReadChunk cs (Alone c ∷ []) h.read (record { listed = f.listed; read = f.read }, tt);
        fields = by_chunk_join HasFields cs (Alone c ∷ []) h.fields (coded_fields names args a f, tt);
        branches = by_chunk_join IsLinkedBranch cs (Alone c ∷ []) h.branches (coded_branch names args a f, tt);
        text =
            append_assoc st.text (spelling_bytes a) (nops (nops_behind (sensitive_kind a.insn) a.spelling.len))
            ∙ ap (λ n. st.text ++ (spelling_bytes a ++ nops n)) (sym pad)
            ∙ ap (λ bs. bs ++ chunk_text (Alone c)) h.text
            ∙ ap (λ bs. chunks_text cs ++ bs) (sym (append-nil (chunk_text (Alone c))))
            ∙ sym (text_append cs (Alone c ∷ []));
        sites =
            ap (λ ss. ss ++ site_at (length st.text) (sensitive_kind a.insn) a.spelling.len) h.sites
            ∙ ap (λ ss. chunk_sites 0 cs ++ ss)
            (ap (λ n. site_at n (sensitive_kind a.insn) a.spelling.len) (sym at)
            ∙ ap (site_at (0 + length (chunks_text cs)) (sensitive_kind a.insn)) (sym len)
            ∙ ap (λ o. site_at (0 + length (chunks_text cs)) o (length (spelling_bytes a))) (sym kind)
            ∙ sym (append-nil (chunk_site (0 + length (chunks_text cs)) (Alone c))))
            ∙ sym (sites_append 0 cs (Alone c ∷ []));
        relocs =
            append_assoc st.text_relocs (field_reloc names (length st.text) args a.disp) (field_reloc names (length st.text) args a.imm)
            ∙ ap (λ rs. rs ++ (field_reloc names (length st.text) args a.disp ++ field_reloc names (length st.text) args a.imm)) h.relocs
            ∙ ap (λ rs. chunks_relocs 0 cs ++ rs)
            (ap (λ n. field_reloc names n args a.disp ++ field_reloc names n args a.imm) (sym at)
            ∙ ap (λ rs. rs ++ field_reloc names (0 + length (chunks_text cs)) args a.imm)
            (sym (field_same names (0 + length (chunks_text cs)) args a.disp))
            ∙ ap (λ rs. map (reloc_later (0 + length (chunks_text cs))) (field_reloc names 0 args a.disp) ++ rs)
            (sym (field_same names (0 + length (chunks_text cs)) args a.imm))
            ∙ sym (map-append (reloc_later (0 + length (chunks_text cs))) (field_reloc names 0 args a.disp)
            (field_reloc names 0 args a.imm))
            ∙ sym (append-nil (chunk_relocs (0 + length (chunks_text cs)) (Alone c))))
            ∙ sym (relocs_append 0 cs (Alone c ∷ []));
        in_text = All-append (λ (r : Reloc). r.in_text ≡ true) (st.text_relocs ++ field_reloc names (length st.text) args a.disp)
            (field_reloc names (length st.text) args a.imm)
            (All-append (λ (r : Reloc). r.in_text ≡ true) st.text_relocs (field_reloc names (length st.text) args a.disp) h.in_text
            (field_in_text names (length st.text) args a.disp)) (field_in_text names (length st.text) args a.imm);
        in_data = h.in_data;
        labels = labels_more cs (Alone c ∷ []) st.definitions h.labels;
        sti = λ e. record { before = cs; last = c; parts = refl; kind = kind ∙ sti_kind (sensitive_kind a.insn) e };
        alone = λ p. by_chunk_join IsAlone cs (Alone c ∷ []) (h.alone p) (alone p, tt);
      }

  -- ---- HLT after STI

  sti_chunk : (c : Coded) → IsReadCoded c → sensitive_kind (insn_in c) ≡ Some site.Sti → c.bytes ≡ 0xFB ∷ []
  sti_chunk c h e = sti_read c.row c.parts c.bytes h.listed h.read (ap kind_of (sym (row_op c)) ∙ e)

  no_sti_field : (c : Coded) (at : ℕ) → IsReadCoded c → sensitive_kind (insn_in c) ≡ Some site.Sti → IsField c at → ⊥
  no_sti_field c at h e f =
      let k = ap kind_of (sym (row_op c)) ∙ e in
      let d = sti_no_disp c.row c.parts c.bytes h.listed h.read k in
      let i = sti_no_imm c.row h.listed k in
      elim f [
        | inl x ↦ let four = x.0 in omega (arith, d, four)
        | inr x ↦ let four = x.0 in omega (arith, i, four)
      ]

  sti_relocs : (c : Coded) (rs : List Reloc) → IsReadCoded c → sensitive_kind (insn_in c) ≡ Some site.Sti
      → AllByRecursion (λ (r : Reloc). IsField c r.at) rs → rs ≡ []
  sti_relocs c [] h e f = refl
  sti_relocs c (r ∷ rs) h e f = absurd (no_sti_field c r.at h e f.0)

  sti_text : (c : Coded) → IsReadCoded c → sensitive_kind (insn_in c) ≡ Some site.Sti
      → chunk_text (Alone c) ≡ 0xFB ∷ 0x90 ∷ 0x90 ∷ 0x90 ∷ 0x90 ∷ []
  sti_text c h e =
      let b = sti_chunk c h e in
      let pad : padding c ≡ 4 = ap (λ o. nops_behind o (length c.bytes)) e ∙ ap (λ (bs : List ℕ). 5 - length bs) b in
      ap (λ n. c.bytes ++ replicate n 0x90) pad ∙ ap (λ bs. bs ++ replicate 4 0x90) b

  sti_site : (at : ℕ) (c : Coded) → IsReadCoded c → sensitive_kind (insn_in c) ≡ Some site.Sti
      → chunk_site at (Alone c) ≡ record { at = at; kind = site.Sti; len = 1; total = 5 } ∷ []
  sti_site at c h e =
      ap (λ o. site_at at o (length c.bytes)) e ∙ ap (λ (bs : List ℕ). site_at at (Some site.Sti) (length bs)) (sti_chunk c h e)

  -- an edge stays where the last chunk is exchanged for one as long
  abbrev Edges : List Chunk → List Chunk → Type 0
  Edges cs b = (b2 : List Chunk) × (r2 : List Chunk) × (cs ≡ b2 ++ r2) × (length (chunks_text b2) ≡ length (chunks_text b))

  none_behind : (c x : Chunk) (b r : List Chunk) → x ∷ [] ≡ c ∷ (b ++ r) → (c ≡ x) × (b ≡ [])
  none_behind c x [] r e = (cc, refl)
  none_behind c x (d ∷ b) r e = absurd cc

  swapped : (x y : Chunk) (before b r : List Chunk) → length (chunk_text y) ≡ length (chunk_text x) → before ++ (x ∷ []) ≡ b ++ r
      → Edges (before ++ (y ∷ [])) b
  swapped x y before [] r len e = ([], before ++ (y ∷ []), refl, refl)
  swapped x y [] (c ∷ b) r len e =
      let n = none_behind c x b r e in (
        y ∷ [],
        [],
        refl,
        length-append (chunk_text y) [] ∙ ap (λ k. k + 0) len
            ∙ sym (ap (λ (ds : List Chunk). length (chunk_text c ++ chunks_text ds)) n.1 ∙ ap (λ (d : Chunk). length (chunk_text d ++ []))
            n.0 ∙ length-append (chunk_text x) []),
      )
  swapped x y (a ∷ before) (c ∷ b) r len e =
      let same : a ≡ c = cc in
      let rest : before ++ (x ∷ []) ≡ b ++ r = cc in
      let s = swapped x y before b r len rest in
      let l = length-append (chunk_text a) (chunks_text s.0) in
      let m = length-append (chunk_text c) (chunks_text b) in
      let k = s.3 in
      let one = ap (λ (d : Chunk). length (chunk_text d)) same in
      (a ∷ s.0, s.1, ap (λ (ds : List Chunk). a ∷ ds) s.2, omega (arith, l, m, k, one))

  edge_swapped : (x y : Chunk) (before : List Chunk) (v : ℕ) → length (chunk_text y) ≡ length (chunk_text x) → IsEdge (before ++ (x ∷ [])) v
      → IsEdge (before ++ (y ∷ [])) v
  edge_swapped x y before v len e =
      let s = swapped x y before e.before e.behind len e.parts in
      record { before = s.0; behind = s.1; parts = s.2; place = e.place ∙ sym s.3 }

  set_hlt : (front : List ℕ) (text : List ℕ) → text ≡ front ++ (0xFB ∷ 0x90 ∷ 0x90 ∷ 0x90 ∷ 0x90 ∷ [])
      → slice_set text (length text - 4) 244 ≡ front ++ (0xFB ∷ 0xF4 ∷ 0x90 ∷ 0x90 ∷ 0x90 ∷ [])
  set_hlt front text e =
      let p = front ++ (0xFB ∷ []) in
      let split : text ≡ p ++ (0x90 ∷ (0x90 ∷ 0x90 ∷ 0x90 ∷ [])) =
      e ∙ sym (append_assoc front (0xFB ∷ []) (0x90 ∷ 0x90 ∷ 0x90 ∷ 0x90 ∷ [])) in
      let l = ap length e ∙ length-append front (0xFB ∷ 0x90 ∷ 0x90 ∷ 0x90 ∷ 0x90 ∷ []) in
      let m = length-append front (0xFB ∷ []) in
      let at : length text - 4 ≡ length p = omega (arith, l, m) in
      ap (λ n. slice_set text n 244) at
      ∙ ap (λ bs. slice_set bs (length p) 244) split
      ∙ set_at p 0x90 (0x90 ∷ 0x90 ∷ 0x90 ∷ []) 244 (length p) refl
      ∙ append_assoc front (0xFB ∷ []) (0xF4 ∷ 0x90 ∷ 0x90 ∷ 0x90 ∷ [])

  set_site : (front : List Site) (s : Site) (ss : List Site) → ss ≡ front ++ (s ∷ [])
      → slice_set ss (length ss - 1) (pair_site (slice_index_or ss (length ss - 1) no_site)) ≡ front ++ (pair_site s ∷ [])
  set_site front s ss e =
      let l = ap length e ∙ length-append front (s ∷ []) in
      let at : length ss - 1 ≡ length front = omega (arith, l) in
      let got : slice_index_or ss (length ss - 1) no_site ≡ s = ap (λ n. slice_index_or ss n no_site) at
      ∙ ap (λ (xs : List Site). slice_index_or xs (length front) no_site) e ∙ get_or_at front s [] no_site (length front) refl in
      ap (λ x. slice_set ss (length ss - 1) (pair_site x)) got
      ∙ ap (λ n. slice_set ss n (pair_site s)) at
      ∙ ap (λ (xs : List Site). slice_set xs (length front) (pair_site s)) e
      ∙ set_at front s [] (pair_site s) (length front) refl

  paired_by : (st : ObjectSoFar) (before : List Chunk) (last : Coded) → sensitive_kind (insn_in last) ≡ Some site.Sti
      → IsMade st (before ++ (Alone last ∷ [])) → IsMade (paired st) (before ++ (Pair ∷ []))
  unfolding paired chunk_sites chunks_relocs
  paired_by st before last kind h =
      let read = by_chunk_split IsReadChunk before (Alone last ∷ []) h.read in
      let fields = by_chunk_split HasFields before (Alone last ∷ []) h.fields in
      let branches = by_chunk_split IsLinkedBranch before (Alone last ∷ []) h.branches in
      let coded = read.1.0 in
      let text = sti_text last coded kind in
      let len : length (chunk_text Pair) ≡ length (chunk_text (Alone last)) = sym (ap length text) in
      let at = 0 + length (chunks_text before) in
      record {
        read = by_chunk_join IsReadChunk before (Pair ∷ []) read.0 (tt, tt);
        fields = by_chunk_join HasFields before (Pair ∷ []) fields.0 (tt, tt);
        branches = by_chunk_join IsLinkedBranch before (Pair ∷ []) branches.0 (tt, tt);
        text =
            set_hlt (chunks_text before) st.text
            (h.text ∙ text_append before (Alone last ∷ []) ∙ ap (λ bs. chunks_text before ++ bs)
            (append-nil (chunk_text (Alone last)) ∙ text))
            ∙ sym (text_append before (Pair ∷ []));
        sites =
            set_site (chunk_sites 0 before) (record { at = at; kind = site.Sti; len = 1; total = 5 }) st.sites
            (h.sites ∙ sites_append 0 before (Alone last ∷ []) ∙ ap (λ ss. chunk_sites 0 before ++ ss)
            (append-nil (chunk_site at (Alone last)) ∙ sti_site at last coded kind))
            ∙ sym (sites_append 0 before (Pair ∷ []));
        relocs =
            h.relocs
            ∙ relocs_append 0 before (Alone last ∷ [])
            ∙ ap (λ rs. chunks_relocs 0 before ++ (map (reloc_later at) rs ++ [])) (sti_relocs last last.relocs coded kind fields.1.0)
            ∙ sym (relocs_append 0 before (Pair ∷ []));
        in_text = h.in_text;
        in_data = h.in_data;
        labels = All-weaker (IsLabel (before ++ (Alone last ∷ []))) (IsLabel (before ++ (Pair ∷ [])))
            (λ d k t. edge_swapped (Alone last) Pair before d.value len (k t)) st.definitions h.labels;
        sti = λ e. absurd cc;
        alone = λ p. by_chunk_join IsAlone before (Pair ∷ []) (by_chunk_split IsAlone before (Alone last ∷ []) (h.alone p)).0 (tt, tt);
      }

  paired_made : (st : ObjectSoFar) (cs : List Chunk) → st.after_sti ≡ true → IsMade st cs → Made (paired st)
  paired_made st cs sti h =
      let e = h.sti sti in
      (e.before ++ (Pair ∷ []), paired_by st e.before e.last e.kind (subst (IsMade st) e.parts h))

  placed_made : (names : List (List ℕ)) (st : ObjectSoFar) (args : List Argument) (a : Assembled) (cs : List Chunk) (f : IsFielded args a)
      → (Plain → IsAlone (Alone (made_coded names args a f))) → IsMade st cs → Made (placed names st args a)
  placed_made names st args a cs f alone h = by_sti st.after_sti (is_hlt (sensitive_kind a.insn)) refl where
    by_sti : (b c : Bool) → st.after_sti ≡ b → Made (cond (b && c) (paired st) (added names st args a))
    by_sti true true e = paired_made st cs e h
    by_sti true false e = (cs ++ (Alone (made_coded names args a f) ∷ []), added_made names st args a f cs alone h)
    by_sti false c e = (cs ++ (Alone (made_coded names args a f) ∷ []), added_made names st args a f cs alone h)

  coded_alone : (names : List (List ℕ)) (args : List Argument) (a : Assembled) (f : IsFielded args a)
      → (is_direct_branch a.insn.op ≡ true → AllByRecursion (λ (x : Argument). number_in x.form ≡ pos 0) args)
      → IsAlone (Alone (made_coded names args a f))
  coded_alone names args a f none = λ branch.
      let on = ap is_direct_branch (sym (row_op (made_coded names args a f) ∙ f.op)) ∙ branch in
      let b = f.branch on in
      let zero_is = number_there args b.field.argument b.argument b.there (none on) in
      f.number ∙ b.constant ∙ ap (λ z. distance (field size.Long z)) zero_is where
        number_there : (args : List Argument) (k : ℕ) (a : Argument) → slice_get args k ≡ Some a
            → AllByRecursion (λ (x : Argument). number_in x.form ≡ pos 0) args → number_in a.form ≡ pos 0
        number_there [] k a e h = absurd cc
        number_there (x ∷ args) zero a e h = let same : x ≡ a = cc in subst (λ (y : Argument). number_in y.form ≡ pos 0) same h.0
        number_there (x ∷ args) (suc k) a e h = number_there args k a e h.1

  in_text_made : (names : List (List ℕ)) (rep : Bool) (name : List ℕ) (st new : ObjectSoFar) (args : List Argument) (cs : List Chunk)
      → (Plain → NamesNoNumber (body.Instruction rep name args)) → IsMade st cs → (r : Result Assembled Refusal)
      → assembled rep name args ≡ r → in_text names st args r ≡ Ok new → Made new
  in_text_made names rep name st new args cs plain h (Err r) is e = absurd cc
  in_text_made names rep name st new args cs plain h (Ok a) is e =
      let same = or_ok (is_text st.section) cause.DataInText (placed names st args a) new e in
      subst Made same (placed_made names st args a cs (assembled_fielded rep name args a is)
      (λ p. coded_alone names args a (assembled_fielded rep name args a is) (plain p a is)) h)

  pub instruction_made : (names : List (List ℕ)) (rep : Bool) (name : List ℕ) (st new : ObjectSoFar) (args : List Argument)
      (cs : List Chunk) → (Plain → NamesNoNumber (body.Instruction rep name args)) → IsMade st cs
      → instruction names st rep name args ≡ Ok new → Made new
  unfolding instruction
  instruction_made names rep name st new args cs plain h e =
      in_text_made names rep name st new args cs plain h (assembled rep name args) refl e
