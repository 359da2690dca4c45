-- Fields that are filled one after the other.
use Rattle.std.proofs.Common.{◌≡◌, ℕ, ◌+◌, ◌-◌, ◌<◌, ◌≤◌, ◌^◌, List, [], ◌∷◌, ◌++◌, length, map, refl, sym, ap, subst, ◌∙◌, append_assoc, arith, inl, inr}
use Rattle.std.specs.Prelude.{fold, replicate}
use Rattle.std.specs.List.{AllByRecursion}
use Rattle.std.proofs.lemmas.List.{length-append}
use Rattle.std.proofs.lemmas.List.Sums.{fold-append}
use Rattle.guest_ram.specs.Bytes.{word32, with_word32}
use Rattle.guest_ram.proofs.Bytes.{length-with_word32}
use Rattle.ia32_types.specs.Site.{kind_of, sensitive_kind}
use Rattle.ia32_rows.specs.declared.row.Row.{Row}
use Rattle.ia32_rows.specs.declared.row.Parts.{Parts}
use Rattle.ia32_rows.specs.Fields.{imm_len}
use Rattle.ia32_rows.specs.Spelling.{insn_of}
use Rattle.ia32_rows.specs.Spells.{SpellsBy}
use Rattle.elf_form.specs.declared.object.Reloc.{Reloc}
use Rattle.built_images.specs.Fields.{imm_size, disp_place, imm_place, with_disp, with_imm}
use Rattle.afterburner.specs.Instructions.{nops_behind, site_at}
use Rattle.built_images.specs.Chunks.{Coded, insn_in, IsCoded, Chunk, Alone, Pair, AreChunks, padding, chunk_text, chunks_text, chunk_site, chunk_sites}
use Rattle.built_images.specs.Filled.{IsField, HaveFields, reloc_later, chunks_relocs, fill, fill_at, MakesWords, IsFilledChunk, AreFilled}
use Rattle.built_images.proofs.FieldLaws.{disp_law, imm_law, disp_held, imm_held}
use Rattle.built_images.proofs.WordLaws.{written_among, read_among}
use Rattle.built_images.proofs.Entrances.{alone_length}

-- ---- one instruction

-- what stays when fields are filled
pub record IsLike (c d : Coded) : Type 0 where
  pub row : d.row ≡ c.row
  pub relocs : d.relocs ≡ c.relocs
  pub disp : d.parts.disp_len ≡ c.parts.disp_len
  pub len : length d.bytes ≡ length c.bytes

like_itself : (c : Coded) → IsLike c c
like_itself c = record { row = refl; relocs = refl; disp = refl; len = refl }

like_then : (c d e : Coded) → IsLike c d → IsLike d e → IsLike c e
like_then c d e h k = record { row = k.row ∙ h.row; relocs = k.relocs ∙ h.relocs; disp = k.disp ∙ h.disp; len = k.len ∙ h.len }

pub field_like : (c d : Coded) (at : ℕ) → IsLike c d → IsField c at → IsField d at
field_like c d at h f =
    let row = h.row in
    let size : imm_size d.row.form.immediate ≡ imm_size c.row.form.immediate = ap (λ (r : Row). imm_size r.form.immediate) row in
    let place : imm_place d.row d.bytes ≡ imm_place c.row c.bytes =
    ap (λ n. n - imm_size d.row.form.immediate) h.len ∙ ap (λ n. length c.bytes - n) size in
    elim f [
      | inl x ↦ inl (h.disp ∙ x.0, x.1 ∙ sym (ap (λ n. n - 4) place))
      | inr x ↦ inr (ap (λ (r : Row). imm_len r.form.immediate) row ∙ x.0, x.1 ∙ sym place)
    ]

pub field_room : (c : Coded) (at : ℕ) → IsCoded c → IsField c at → at + 4 ≤ length c.bytes
field_room c at h f =
    elim f [
      | inl x ↦ let r =
          disp_held c.row c.parts c.bytes (insn_in c) h.listed h.spelled x.0 in let le = r.0 in let e = x.1 in omega (arith, le, e)
      | inr x ↦ let r =
          imm_held c.row c.parts c.bytes (insn_in c) h.listed h.spelled x.0 in let le = r.0 in let e = x.1 in omega (arith, le, e)
    ]

pub record OneFilled (c : Coded) (at n : ℕ) : Type 0 where
  pub coded : Coded
  pub is : IsCoded coded
  pub like : IsLike c coded
  pub bytes : coded.bytes ≡ with_word32 c.bytes at n

spelled_as : (row : Row) (p : Parts) (bytes : List ℕ) (insn : Rattle.ia32_types.specs.declared.insn.Insn.Insn) → SpellsBy row p bytes insn
    → SpellsBy row p bytes (insn_of row p)
spelled_as row p bytes insn s = record { fit = s.fit; read = s.read; means = refl }

pub one_filled : (c : Coded) (at n : ℕ) → IsCoded c → IsField c at → n < 2 ^ 32 → OneFilled c at n
one_filled c at n h f lt =
    let room = length-with_word32 c.bytes at n (field_room c at h f) in
    elim f [
      | inl x ↦
          let e : disp_place c.row c.bytes ≡ at = sym x.1 in
          let s = spelled_as c.row (with_disp n c.parts) (with_word32 c.bytes (disp_place c.row c.bytes) n) _
          (disp_law c.row c.parts c.bytes (insn_in c) h.listed h.spelled x.0 n lt) in
          record {
            coded = record { row = c.row; parts = with_disp n c.parts; bytes = with_word32 c.bytes at n; relocs = c.relocs };
            is = record {
              listed = h.listed;
              spelled =
                  subst (λ k. SpellsBy c.row (with_disp n c.parts) (with_word32 c.bytes k n) (insn_of c.row (with_disp n c.parts))) e s;
            };
            like = record { row = refl; relocs = refl; disp = refl; len = room };
            bytes = refl;
          }
      | inr x ↦
          let e : imm_place c.row c.bytes ≡ at = sym x.1 in
          let s = spelled_as c.row (with_imm n c.parts) (with_word32 c.bytes (imm_place c.row c.bytes) n) _
          (imm_law c.row c.parts c.bytes (insn_in c) h.listed h.spelled x.0 n lt) in
          record {
            coded = record { row = c.row; parts = with_imm n c.parts; bytes = with_word32 c.bytes at n; relocs = c.relocs };
            is = record {
              listed = h.listed;
              spelled = subst (λ k. SpellsBy c.row (with_imm n c.parts) (with_word32 c.bytes k n) (insn_of c.row (with_imm n c.parts))) e s;
            };
            like = record { row = refl; relocs = refl; disp = refl; len = room };
            bytes = refl;
          }
    ]

abbrev pub AreFields : Coded → List Reloc → Type 0
AreFields c rs = AllByRecursion (λ (r : Reloc). IsField c r.at) rs

fields_like : (c d : Coded) (rs : List Reloc) → IsLike c d → AreFields c rs → AreFields d rs
fields_like c d [] h f = tt
fields_like c d (r ∷ rs) h f = (field_like c d r.at h f.0, fields_like c d rs h f.1)

pub record RestFilled (made : Reloc → ℕ → ℕ) (at : ℕ) (c : Coded) (rs : List Reloc) : Type 0 where
  pub coded : Coded
  pub is : IsCoded coded
  pub like : IsLike c coded
  pub bytes : coded.bytes ≡ fold (fill_at made at) c.bytes rs

pub rest_filled : (made : Reloc → ℕ → ℕ) (at : ℕ) (c : Coded) (rs : List Reloc) → MakesWords made → IsCoded c → AreFields c rs
    → RestFilled made at c rs
rest_filled made at c [] words h f = record { coded = c; is = h; like = like_itself c; bytes = refl }
rest_filled made at c (r ∷ rs) words h f =
    let n = made (reloc_later at r) (word32 c.bytes r.at) in
    let one = one_filled c r.at n h f.0 (words (reloc_later at r) (word32 c.bytes r.at)) in
    let more = rest_filled made at one.coded rs words one.is (fields_like c one.coded rs one.like f.1) in
    record {
      coded = more.coded;
      is = more.is;
      like = like_then c one.coded more.coded one.like more.like;
      bytes = more.bytes ∙ ap (λ bs. fold (fill_at made at) bs rs) one.bytes;
    }

-- ---- among other bytes

rooms : (c : Coded) (rs : List Reloc) → IsCoded c → AreFields c rs → AllByRecursion (λ (r : Reloc). r.at + 4 ≤ length c.bytes) rs
rooms c [] h f = tt
rooms c (r ∷ rs) h f = (field_room c r.at h f.0, rooms c rs h f.1)

rooms_in : (n m : ℕ) (rs : List Reloc) → m ≡ n → AllByRecursion (λ (r : Reloc). r.at + 4 ≤ n) rs
    → AllByRecursion (λ (r : Reloc). r.at + 4 ≤ m) rs
rooms_in n m rs e h = subst (λ (k : ℕ). AllByRecursion (λ (r : Reloc). r.at + 4 ≤ k) rs) (sym e) h

pub among : (made : Reloc → ℕ → ℕ) (pre b tail : List ℕ) (rs : List Reloc) → AllByRecursion (λ (r : Reloc). r.at + 4 ≤ length b) rs
    → fold (fill made) (pre ++ (b ++ tail)) (map (reloc_later (length pre)) rs) ≡ pre ++ (fold (fill_at made (length pre)) b rs ++ tail)
among made pre b tail [] h = refl
among made pre b tail (r ∷ rs) h =
    let at = length pre + r.at in
    let later = reloc_later (length pre) r in
    let n = made later (word32 b r.at) in
    let first : fill made (pre ++ (b ++ tail)) later ≡ pre ++ (with_word32 b r.at n ++ tail) =
    ap (λ w. with_word32 (pre ++ (b ++ tail)) at (made later w)) (read_among pre b tail r.at h.0) ∙ written_among pre b tail r.at n h.0 in
    let room = length-with_word32 b r.at n h.0 in
    ap (λ bs. fold (fill made) bs (map (reloc_later (length pre)) rs)) first
    ∙ among made pre (with_word32 b r.at n) tail rs (rooms_in (length b) (length (with_word32 b r.at n)) rs room h.1)

-- ---- a text of chunks

pub kind_like : (c d : Coded) → d.row ≡ c.row → sensitive_kind (insn_in d) ≡ sensitive_kind (insn_in c)
unfolding insn_of
kind_like c d e = ap (λ (r : Row). kind_of r.op) e

padding_like : (c d : Coded) → d.row ≡ c.row → length d.bytes ≡ length c.bytes → padding d ≡ padding c
padding_like c d row len = ap (λ k. nops_behind k (length d.bytes)) (kind_like c d row) ∙ ap (nops_behind (sensitive_kind (insn_in c))) len

abbrev nops : ℕ → List ℕ
nops n = replicate n 0x90

pub record ChunksFilled (made : Reloc → ℕ → ℕ) (pre : List ℕ) (cs : List Chunk) : Type 0 where
  pub chunks : List Chunk
  pub are : AreChunks chunks
  pub filled : AreFilled made (length pre) cs chunks
  pub text : fold (fill made) (pre ++ chunks_text cs) (chunks_relocs (length pre) cs) ≡ pre ++ chunks_text chunks

alone_filled : (made : Reloc → ℕ → ℕ) (pre : List ℕ) (c d : Coded) (cs : List Chunk) → IsCoded c → AreFields c c.relocs
    → d.bytes ≡ fold (fill_at made (length pre)) c.bytes c.relocs → padding d ≡ padding c
    → fold (fill made) (pre ++ (chunk_text (Alone c) ++ chunks_text cs)) (map (reloc_later (length pre)) c.relocs)
    ≡ (pre ++ chunk_text (Alone d)) ++ chunks_text cs
alone_filled made pre c d cs h f e pad =
    let tail = nops (padding c) ++ chunks_text cs in
    ap (λ bs. fold (fill made) (pre ++ bs) (map (reloc_later (length pre)) c.relocs))
    (append_assoc c.bytes (nops (padding c)) (chunks_text cs))
    ∙ among made pre c.bytes tail c.relocs (rooms c c.relocs h f)
    ∙ ap (λ bs. pre ++ (bs ++ tail)) (sym e)
    ∙ ap (λ n. pre ++ (d.bytes ++ (nops n ++ chunks_text cs))) (sym pad)
    ∙ ap (λ bs. pre ++ bs) (sym (append_assoc d.bytes (nops (padding d)) (chunks_text cs)))
    ∙ sym (append_assoc pre (chunk_text (Alone d)) (chunks_text cs))

pub chunks_filled : (made : Reloc → ℕ → ℕ) (pre : List ℕ) (cs : List Chunk) → MakesWords made → AreChunks cs → HaveFields cs
    → ChunksFilled made pre cs
unfolding chunks_relocs
chunks_filled made pre [] words h f = record { chunks = []; are = tt; filled = tt; text = refl }
chunks_filled made pre (Alone c ∷ cs) words h f =
    let one = rest_filled made (length pre) c c.relocs words h.0 f.0 in
    let d = one.coded in
    let pad = padding_like c d one.like.row one.like.len in
    let l = alone_length c in
    let m = alone_length d in
    let same_len = one.like.len in
    let at : length (pre ++ chunk_text (Alone d)) ≡ length pre + length (chunk_text (Alone c)) =
    omega (arith, length-append pre (chunk_text (Alone d)), l, m, same_len, pad) in
    let more = chunks_filled made (pre ++ chunk_text (Alone d)) cs words h.1 f.1 in
    record {
      chunks = Alone d ∷ more.chunks;
      are = (one.is, more.are);
      filled = (
        record { row = one.like.row; relocs = one.like.relocs; disp = one.like.disp; len = one.like.len; bytes = one.bytes },
        subst (λ (n : ℕ). AreFilled made n cs more.chunks) at more.filled,
      );
      text =
          fold-append (fill made) (pre ++ (chunk_text (Alone c) ++ chunks_text cs)) (map (reloc_later (length pre)) c.relocs)
          (chunks_relocs (length pre + length (chunk_text (Alone c))) cs)
          ∙ ap (λ bs. fold (fill made) bs (chunks_relocs (length pre + length (chunk_text (Alone c))) cs))
          (alone_filled made pre c d cs h.0 f.0 one.bytes pad)
          ∙ ap (λ (n : ℕ). fold (fill made) ((pre ++ chunk_text (Alone d)) ++ chunks_text cs) (chunks_relocs n cs)) (sym at)
          ∙ more.text
          ∙ append_assoc pre (chunk_text (Alone d)) (chunks_text more.chunks);
    }
chunks_filled made pre (Pair ∷ cs) words h f =
    let at : length (pre ++ chunk_text Pair) ≡ length pre + length (chunk_text Pair) = length-append pre (chunk_text Pair) in
    let more = chunks_filled made (pre ++ chunk_text Pair) cs words h.1 f.1 in
    record {
      chunks = Pair ∷ more.chunks;
      are = (tt, more.are);
      filled = (tt, subst (λ (n : ℕ). AreFilled made n cs more.chunks) at more.filled);
      text =
          ap (λ bs. fold (fill made) bs (chunks_relocs (length pre + length (chunk_text Pair)) cs))
          (sym (append_assoc pre (chunk_text Pair) (chunks_text cs)))
          ∙ ap (λ (n : ℕ). fold (fill made) ((pre ++ chunk_text Pair) ++ chunks_text cs) (chunks_relocs n cs)) (sym at)
          ∙ more.text
          ∙ append_assoc pre (chunk_text Pair) (chunks_text more.chunks);
    }

pub text_filled : (made : Reloc → ℕ → ℕ) (cs : List Chunk) → MakesWords made → AreChunks cs → HaveFields cs → (ds : List Chunk)
    × AreChunks ds × AreFilled made 0 cs ds × (fold (fill made) (chunks_text cs) (chunks_relocs 0 cs) ≡ chunks_text ds)
text_filled made cs words h f = let r = chunks_filled made [] cs words h f in (r.chunks, r.are, r.filled, r.text)

-- ---- what stays

pub filled_length : (made : Reloc → ℕ → ℕ) (at : ℕ) (c d : Chunk) → IsFilledChunk made at c d
    → length (chunk_text d) ≡ length (chunk_text c)
filled_length made at (Alone c) (Alone d) h =
    let pad = padding_like c d h.row h.len in
    let l = alone_length c in
    let m = alone_length d in
    let len = h.len in
    omega (arith, l, m, pad, len)
filled_length made at Pair Pair h = refl
filled_length made at (Alone c) Pair h = absurd h
filled_length made at Pair (Alone d) h = absurd h

filled_site : (made : Reloc → ℕ → ℕ) (at from : ℕ) (c d : Chunk) → IsFilledChunk made at c d → chunk_site from d ≡ chunk_site from c
filled_site made at from (Alone c) (Alone d) h =
    ap (site_at from (sensitive_kind (insn_in d))) h.len ∙ ap (λ o. site_at from o (length c.bytes)) (kind_like c d h.row)
filled_site made at from Pair Pair h = refl
filled_site made at from (Alone c) Pair h = absurd h
filled_site made at from Pair (Alone d) h = absurd h

pub same_length : (made : Reloc → ℕ → ℕ) (at : ℕ) (cs ds : List Chunk) → AreFilled made at cs ds
    → length (chunks_text ds) ≡ length (chunks_text cs)
same_length made at [] [] h = refl
same_length made at (c ∷ cs) (d ∷ ds) h =
    let one = filled_length made at c d h.0 in
    let more = same_length made (at + length (chunk_text c)) cs ds h.1 in
    length-append (chunk_text d) (chunks_text ds) ∙ ap (λ n. n + length (chunks_text ds)) one ∙ ap (λ n. length (chunk_text c) + n) more
    ∙ sym (length-append (chunk_text c) (chunks_text cs))
same_length made at [] (d ∷ ds) h = absurd h
same_length made at (c ∷ cs) [] h = absurd h

pub same_sites : (made : Reloc → ℕ → ℕ) (at from : ℕ) (cs ds : List Chunk) → AreFilled made at cs ds
    → chunk_sites from ds ≡ chunk_sites from cs
unfolding chunk_sites
same_sites made at from [] [] h = refl
same_sites made at from (c ∷ cs) (d ∷ ds) h =
    let one = filled_length made at c d h.0 in
    ap (λ xs. xs ++ chunk_sites (from + length (chunk_text d)) ds) (filled_site made at from c d h.0)
    ∙ ap (λ n. chunk_site from c ++ chunk_sites (from + n) ds) one
    ∙ ap (λ xs. chunk_site from c ++ xs) (same_sites made (at + length (chunk_text c)) (from + length (chunk_text c)) cs ds h.1)
same_sites made at from [] (d ∷ ds) h = absurd h
same_sites made at from (c ∷ cs) [] h = absurd h
