-- Where the branches of a text lead whose fields are filled.
use Rattle.ia32_types.specs.Branches.{is_direct_branch}
use Rattle.std.proofs.Common.{◌≡◌, ℕ, ◌+◌, ◌-◌, ◌≤◌, ◌^◌, ◌%◌, true, List, [], ◌∷◌, ◌++◌, length, map, refl, sym, ap, subst, ◌∙◌, append_assoc, arith}
use Rattle.std.specs.Prelude.{fold, replicate}
use Rattle.std.specs.List.{All, AllByRecursion, Contains}
use Rattle.std.proofs.lemmas.List.{length-append}
use Rattle.std.proofs.lemmas.List.Elements.{All-nil, All-append, Contains-append_right}
use Rattle.guest_ram.specs.Bytes.{word32, with_word32}
use Rattle.guest_ram.proofs.Bytes.{word32-with_word32}
use Rattle.ia32_rows.specs.declared.row.Row.{Row}
use Rattle.ia32_rows.specs.Fields.{imm_len}
use Rattle.ia32_rows.specs.Spelling.{insn_of}
use Rattle.elf_form.specs.declared.object.Reloc.{Reloc}
use Rattle.image_check.specs.Pieces.{target_of}
use Rattle.built_images.specs.Fields.{imm_size, imm_place}
use Rattle.built_images.specs.Chunks.{Coded, insn_in, IsCoded, Chunk, Alone, Pair, IsChunk, AreChunks, padding, chunk_text, chunks_text, chunk_swept, chunks_swept}
use Rattle.built_images.specs.Filled.{reloc_later, chunk_relocs, chunks_relocs, fill_at, MakesWords, IsFilled, IsFilledChunk, AreFilled}
use Rattle.built_images.specs.Padded.{IsLinked, IsLinkedBranch, IsAlone, AreAlone}
use Rattle.built_images.proofs.FieldLaws.{imm_held}
use Rattle.built_images.proofs.WordLaws.{read_among}
use Rattle.built_images.proofs.Filling.{filled_length}
use Rattle.built_images.proofs.Joining.{OnBranch, alone_branch, pair_branch}

op_same : (c d : Coded) → d.row ≡ c.row → (insn_in d).op ≡ (insn_in c).op
unfolding insn_of
op_same c d e = ap (λ (r : Row). r.op) e

imm_is : (c : Coded) → (insn_in c).imm ≡ c.parts.imm
unfolding insn_of
imm_is c = refl

-- what is put into the field of a branch at an offset leads right, in a text that stands at another
abbrev pub RightAt : (ℕ → Type 0) → ℕ → (Reloc → ℕ → ℕ) → ℕ → Chunk → Type 0
RightAt Good base made at (Alone c) = is_direct_branch (insn_in c).op ≡ true → (l : IsLinked c)
    → Good (((base + at) + length c.bytes + made (reloc_later at l.reloc) (word32 c.bytes l.reloc.at)) % 2 ^ 32)
RightAt Good base made at Pair = Unit {0}

abbrev pub AllRight : (ℕ → Type 0) → ℕ → (Reloc → ℕ → ℕ) → ℕ → List Chunk → Type 0
AllRight Good base made at [] = Unit {0}
AllRight Good base made at (c ∷ cs) = RightAt Good base made at c × AllRight Good base made (at + length (chunk_text c)) cs

-- what an instruction whose one field is filled has as its immediate
filled_imm : (made : Reloc → ℕ → ℕ) (at : ℕ) (c d : Coded) (l : IsLinked c) → MakesWords made → IsCoded d → IsFilled made at c d
    → (insn_in d).imm ≡ made (reloc_later at l.reloc) (word32 c.bytes l.reloc.at)
filled_imm made at c d l words h f =
    let r = l.reloc in
    let v = made (reloc_later at r) (word32 c.bytes r.at) in
    let bytes : d.bytes ≡ with_word32 c.bytes r.at v = f.bytes ∙ ap (λ rs. fold (fill_at made at) c.bytes rs) l.one in
    let row = f.row in
    let long : imm_len d.row.form.immediate ≡ 4 = ap (λ (x : Row). imm_len x.form.immediate) row ∙ l.long in
    let place : imm_place d.row d.bytes ≡ r.at = ap (λ n. n - imm_size d.row.form.immediate) f.len
    ∙ ap (λ (x : Row). length c.bytes - imm_size x.form.immediate) row ∙ sym l.place in
    let held = (imm_held d.row d.parts d.bytes (insn_in d) h.listed h.spelled long).1 in
    let end = l.end in
    imm_is d
    ∙ sym held
    ∙ ap (word32 d.bytes) place
    ∙ ap (λ bs. word32 bs r.at) bytes
    ∙ word32-with_word32 c.bytes r.at v (omega (arith, end)) (words (reloc_later at r) (word32 c.bytes r.at))

one_branch : (Good : ℕ → Type 0) (base : ℕ) (made : Reloc → ℕ → ℕ) (at : ℕ) (c d : Coded) → MakesWords made → IsCoded d
    → IsFilled made at c d → (is_direct_branch (insn_in c).op ≡ true → IsLinked c) → RightAt Good base made at (Alone c)
    → OnBranch Good (record { at = base + at; len = length d.bytes; insn = insn_in d })
one_branch Good base made at c d words h f linked right b =
    let on : is_direct_branch (insn_in c).op ≡ true = ap is_direct_branch (sym (op_same c d f.row)) ∙ b in
    let l = linked on in
    let v = made (reloc_later at l.reloc) (word32 c.bytes l.reloc.at) in
    let e : target_of (base + at) (length d.bytes) (insn_in d) ≡ ((base + at) + length c.bytes + v) % 2 ^ 32 =
    ap (λ n. ((base + at) + n + (insn_in d).imm) % 2 ^ 32) f.len ∙ ap (λ n. ((base + at) + length c.bytes + n) % 2 ^ 32)
    (filled_imm made at c d l words h f) in
    subst Good (sym e) (right on l)

chunk_branch : (Good : ℕ → Type 0) (base : ℕ) (made : Reloc → ℕ → ℕ) (at : ℕ) (c d : Chunk) → MakesWords made → AreChunks (d ∷ [])
    → IsFilledChunk made at c d → IsLinkedBranch c → RightAt Good base made at c → All (OnBranch Good) (chunk_swept (base + at) d)
chunk_branch Good base made at (Alone c) (Alone d) words h f linked right =
    alone_branch Good (base + at) d (one_branch Good base made at c d words h.0 f linked right)
chunk_branch Good base made at Pair Pair words h f linked right = pair_branch Good (base + at)
chunk_branch Good base made at (Alone c) Pair words h f linked right = absurd f
chunk_branch Good base made at Pair (Alone d) words h f linked right = absurd f

pub filled_branches : (Good : ℕ → Type 0) (base : ℕ) (made : Reloc → ℕ → ℕ) (at : ℕ) (cs ds : List Chunk) → MakesWords made → AreChunks ds
    → AreFilled made at cs ds → AllByRecursion IsLinkedBranch cs → AllRight Good base made at cs
    → All (OnBranch Good) (chunks_swept (base + at) ds)
unfolding chunks_swept
filled_branches Good base made at [] [] words h f linked right = All-nil (OnBranch Good)
filled_branches Good base made at (c ∷ cs) (d ∷ ds) words h f linked right =
    let len = filled_length made at c d f.0 in
    let e : base + (at + length (chunk_text c)) ≡ (base + at) + length (chunk_text d) = omega (arith, len) in
    All-append (OnBranch Good) (chunk_swept (base + at) d) (chunks_swept ((base + at) + length (chunk_text d)) ds)
    (chunk_branch Good base made at c d words (h.0, tt) f.0 linked.0 right.0)
    (subst (λ (n : ℕ). All (OnBranch Good) (chunks_swept n ds)) e
    (filled_branches Good base made (at + length (chunk_text c)) cs ds words h.1 f.1 linked.1 right.1))
filled_branches Good base made at [] (d ∷ ds) words h f linked right = absurd f
filled_branches Good base made at (c ∷ cs) [] words h f linked right = absurd f

-- ---- from what is known of the relocations of a text

abbrev pub RelocsRight : (ℕ → Type 0) → ℕ → (Reloc → ℕ → ℕ) → List ℕ → List Reloc → Type 0
RelocsRight Good base made text rs = (r : Reloc) → Contains rs r → r.in_text ≡ true → r.relative ≡ true → r.at + 4 ≤ length text
    → word32 text r.at ≡ 4294967292 → Good ((base + r.at + 4 + made r (word32 text r.at)) % 2 ^ 32)

reloc_first : (at : ℕ) (rs more : List Reloc) (r : Reloc) → rs ≡ r ∷ [] → Contains (map (reloc_later at) rs ++ more) (reloc_later at r)
reloc_first at rs more r e =
    subst (λ (xs : List Reloc). Contains (map (reloc_later at) xs ++ more) (reloc_later at r)) (sym e) (0, omega arith, refl)

pub all_right : (Good : ℕ → Type 0) (base : ℕ) (made : Reloc → ℕ → ℕ) (pre : List ℕ) (cs : List Chunk) → AreChunks cs → AreAlone cs
    → RelocsRight Good base made (pre ++ chunks_text cs) (chunks_relocs (length pre) cs) → AllRight Good base made (length pre) cs
unfolding chunks_relocs
all_right Good base made pre [] are alone h = tt
all_right Good base made pre (c ∷ cs) are alone h =
    let text = pre ++ (chunk_text c ++ chunks_text cs) in
    let at : length (pre ++ chunk_text c) ≡ length pre + length (chunk_text c) = length-append pre (chunk_text c) in
    let same : (pre ++ chunk_text c) ++ chunks_text cs ≡ text = append_assoc pre (chunk_text c) (chunks_text cs) in
    let later = all_right Good base made (pre ++ chunk_text c) cs are.1 alone.1 (λ r there in_text relative room word.
    let there' = subst (λ (n : ℕ). Contains (chunks_relocs n cs) r) at there in
    let room' = subst (λ (bs : List ℕ). r.at + 4 ≤ length bs) same room in
    let word' = subst (λ (bs : List ℕ). word32 bs r.at ≡ 4294967292) same word in
    subst (λ (bs : List ℕ). Good ((base + r.at + 4 + made r (word32 bs r.at)) % 2 ^ 32)) (sym same)
    (h r (Contains-append_right (chunk_relocs (length pre) c) (chunks_relocs (length pre + length (chunk_text c)) cs) r there') in_text
    relative room' word')) in
    (first c are.0 alone.0 h, subst (λ (n : ℕ). AllRight Good base made n cs) at later) where
      first : (c : Chunk) → IsChunk c → IsAlone c
          → ((r : Reloc) → Contains (chunk_relocs (length pre) c ++ chunks_relocs (length pre + length (chunk_text c)) cs) r → r.in_text
          ≡ true → r.relative ≡ true → r.at + 4 ≤ length (pre ++ (chunk_text c ++ chunks_text cs))
          → word32 (pre ++ (chunk_text c ++ chunks_text cs)) r.at ≡ 4294967292
          → Good ((base + r.at + 4 + made r (word32 (pre ++ (chunk_text c ++ chunks_text cs)) r.at)) % 2 ^ 32))
          → RightAt Good base made (length pre) c
      first Pair is one h = tt
      first (Alone c) is one h = λ b l.
          let r = reloc_later (length pre) l.reloc in
          let tail = replicate (padding c) 0x90 ++ chunks_text cs in
          let text = pre ++ ((c.bytes ++ replicate (padding c) 0x90) ++ chunks_text cs) in
          let split : text ≡ pre ++ (c.bytes ++ tail) =
          ap (λ xs. pre ++ xs) (append_assoc c.bytes (replicate (padding c) 0x90) (chunks_text cs)) in
          let end = l.end in
          let len = ap length split ∙ length-append pre (c.bytes ++ tail) in
          let more = length-append c.bytes tail in
          let word : word32 text r.at ≡ word32 c.bytes l.reloc.at =
          ap (λ bs. word32 bs r.at) split ∙ read_among pre c.bytes tail l.reloc.at (omega (arith, end)) in
          let sum : base + (length pre + l.reloc.at) + 4 ≡ (base + length pre) + length c.bytes = omega (arith, end) in
          subst (λ (n : ℕ). Good ((n + made r (word32 c.bytes l.reloc.at)) % 2 ^ 32)) sum
          (subst (λ (w : ℕ). Good ((base + (length pre + l.reloc.at) + 4 + made r w) % 2 ^ 32)) word
          (h r (reloc_first (length pre) c.relocs (chunks_relocs (length pre + length (chunk_text (Alone c))) cs) l.reloc l.one) l.in_text
          l.relative (omega (arith, end, len, more))
          (word ∙ ap (word32 c.bytes) l.place ∙ (imm_held c.row c.parts c.bytes (insn_in c) is.listed is.spelled l.long).1 ∙ one b)))
