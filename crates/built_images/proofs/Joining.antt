-- Texts of chunks with NOPs between them.
use Rattle.std.proofs.Common.{◌≡◌, ℕ, zero, suc, ◌+◌, true, List, [], ◌∷◌, ◌++◌, length, map, refl, sym, ap, ◌∙◌, append_assoc}
use Rattle.std.specs.Prelude.{replicate}
use Rattle.std.specs.List.{All, AllByRecursion}
use Rattle.std.proofs.lemmas.List.{append-nil}
use Rattle.std.proofs.lemmas.List.Elements.{All-nil, All-cons, All-append}
use Rattle.ia32_types.specs.Branches.{is_direct_branch}
use Rattle.ia32_types.specs.declared.insn.Insn.{Insn}
use Rattle.ia32_types.specs.Site.{sensitive_kind}
use Rattle.ia32_rows.specs.Spells.{Spells}
use Rattle.image_check.specs.Sweep.{Swept}
use Rattle.image_check.specs.Pieces.{target_of}
use Rattle.built_images.specs.Joined.{nop, sti, hlt, jump_to_itself, nops_at}
use Rattle.afterburner.specs.Instructions.{nops_behind, site_at}
use Rattle.built_images.specs.Chunks.{Coded, insn_in, IsCoded, Chunk, Alone, Pair, AreChunks, padding, chunk_text, chunks_text, chunk_site, chunk_sites, chunk_swept, chunks_swept, Begins}
use Rattle.built_images.specs.Filled.{HasFields, HaveFields, chunks_relocs}
use Rattle.built_images.specs.Padded.{IsEdge, IsLinkedBranch, IsAlone}
use Rattle.built_images.proofs.SweepJoins.{nop_spelled, jump_spelled}
use Rattle.built_images.proofs.Entrances.{text_length}

-- ---- one NOP, and the jump to itself, as chunks

coded_of : (bytes : List ℕ) (insn : Insn) → Spells bytes insn → Coded
coded_of bytes insn s = record { row = s.row; parts = s.parts; bytes = bytes; relocs = [] }

coded_is : (bytes : List ℕ) (insn : Insn) (s : Spells bytes insn) → IsCoded (coded_of bytes insn s)
unfolding coded_of
coded_is bytes insn s = record { listed = s.listed; spelled = record { fit = s.by_row.fit; read = s.by_row.read; means = refl } }

coded_insn : (bytes : List ℕ) (insn : Insn) (s : Spells bytes insn) → insn_in (coded_of bytes insn s) ≡ insn
unfolding coded_of
coded_insn bytes insn s = sym s.by_row.means

pub nop_coded : Coded
nop_coded = coded_of (0x90 ∷ []) nop nop_spelled

pub nop_is : IsCoded nop_coded
unfolding nop_coded
nop_is = coded_is (0x90 ∷ []) nop nop_spelled

pub nop_insn : insn_in nop_coded ≡ nop
unfolding nop_coded
nop_insn = coded_insn (0x90 ∷ []) nop nop_spelled

pub nop_bytes : nop_coded.bytes ≡ 0x90 ∷ []
unfolding nop_coded coded_of
nop_bytes = refl

pub jump_coded : Coded
jump_coded = coded_of (0xEB ∷ 0xFE ∷ []) jump_to_itself jump_spelled

pub jump_is : IsCoded jump_coded
unfolding jump_coded
jump_is = coded_is (0xEB ∷ 0xFE ∷ []) jump_to_itself jump_spelled

pub jump_means : insn_in jump_coded ≡ jump_to_itself
unfolding jump_coded
jump_means = coded_insn (0xEB ∷ 0xFE ∷ []) jump_to_itself jump_spelled

pub jump_bytes : jump_coded.bytes ≡ 0xEB ∷ 0xFE ∷ []
unfolding jump_coded coded_of
jump_bytes = refl

nop_padding : padding nop_coded ≡ 0
nop_padding = ap (λ (i : Insn). nops_behind (sensitive_kind i) (length nop_coded.bytes)) nop_insn

pub nop_text : chunk_text (Alone nop_coded) ≡ 0x90 ∷ []
nop_text = ap (λ n. nop_coded.bytes ++ replicate n 0x90) nop_padding ∙ append-nil nop_coded.bytes ∙ nop_bytes

nop_site : (at : ℕ) → chunk_site at (Alone nop_coded) ≡ []
nop_site at = ap (λ (i : Insn). site_at at (sensitive_kind i) (length nop_coded.bytes)) nop_insn

jump_site : (at : ℕ) → chunk_site at (Alone jump_coded) ≡ []
jump_site at = ap (λ (i : Insn). site_at at (sensitive_kind i) (length jump_coded.bytes)) jump_means

-- ---- several NOPs

pub nop_chunks : ℕ → List Chunk
nop_chunks n = replicate n (Alone nop_coded)

pub nop_chunks_are : (n : ℕ) → AreChunks (nop_chunks n)
unfolding nop_chunks
nop_chunks_are zero = tt
nop_chunks_are (suc n) = (nop_is, nop_chunks_are n)

pub nop_chunks_text : (n : ℕ) → chunks_text (nop_chunks n) ≡ replicate n 0x90
unfolding nop_chunks
nop_chunks_text zero = refl
nop_chunks_text (suc n) = ap (λ xs. xs ++ chunks_text (nop_chunks n)) nop_text ∙ ap (λ xs. 0x90 ∷ xs) (nop_chunks_text n)

pub nop_chunks_sites : (at n : ℕ) → chunk_sites at (nop_chunks n) ≡ []
unfolding nop_chunks chunk_sites
nop_chunks_sites at zero = refl
nop_chunks_sites at (suc n) =
    ap (λ xs. xs ++ chunk_sites (at + length (chunk_text (Alone nop_coded))) (nop_chunks n)) (nop_site at)
    ∙ nop_chunks_sites (at + length (chunk_text (Alone nop_coded))) n

pub jump_sites : (at : ℕ) → chunk_sites at (Alone jump_coded ∷ []) ≡ []
unfolding chunk_sites
jump_sites at = ap (λ xs. xs ++ []) (jump_site at)

-- ---- what holds of the direct branches of a text

abbrev pub OnBranch : (ℕ → Type 0) → Swept → Type 0
OnBranch Good s = is_direct_branch s.insn.op ≡ true → Good (target_of s.at s.len s.insn)

pub nops_no_branch : (Good : ℕ → Type 0) (at n : ℕ) → All (OnBranch Good) (nops_at at n)
unfolding nops_at
nops_no_branch Good at zero = All-nil (OnBranch Good)
nops_no_branch Good at (suc n) = All-cons (OnBranch Good) (record { at = at; len = 1; insn = nop }) (nops_at (at + 1) n) (λ e. absurd cc)
    (nops_no_branch Good (at + 1) n)

pub alone_branch : (Good : ℕ → Type 0) (at : ℕ) (c : Coded) → OnBranch Good (record { at = at; len = length c.bytes; insn = insn_in c })
    → All (OnBranch Good) (chunk_swept at (Alone c))
alone_branch Good at c h = All-cons (OnBranch Good) (record { at = at; len = length c.bytes; insn = insn_in c })
    (nops_at (at + length c.bytes) (padding c)) h (nops_no_branch Good (at + length c.bytes) (padding c))

pub pair_branch : (Good : ℕ → Type 0) (at : ℕ) → All (OnBranch Good) (chunk_swept at Pair)
pair_branch Good at =
    All-cons (OnBranch Good) (record { at = at; len = 1; insn = sti })
    (record { at = at + 1; len = 1; insn = hlt } ∷ nops_at (at + 2) 3) (λ e. absurd cc)
    (All-cons (OnBranch Good) (record { at = at + 1; len = 1; insn = hlt }) (nops_at (at + 2) 3) (λ e. absurd cc)
    (nops_no_branch Good (at + 2) 3))

nop_false : (insn : Insn) → insn ≡ nop → is_direct_branch insn.op ≡ true → ⊥
nop_false insn e b = let c : is_direct_branch nop.op ≡ true = sym (ap (λ (i : Insn). is_direct_branch i.op) e) ∙ b in absurd cc

pub nop_chunks_branch : (Good : ℕ → Type 0) (at n : ℕ) → All (OnBranch Good) (chunks_swept at (nop_chunks n))
unfolding nop_chunks chunks_swept
nop_chunks_branch Good at zero = All-nil (OnBranch Good)
nop_chunks_branch Good at (suc n) =
    All-append (OnBranch Good) (chunk_swept at (Alone nop_coded)) (chunks_swept (at + length (chunk_text (Alone nop_coded))) (nop_chunks n))
    (alone_branch Good at nop_coded (λ b. absurd (nop_false (insn_in nop_coded) nop_insn b)))
    (nop_chunks_branch Good (at + length (chunk_text (Alone nop_coded))) n)

-- ---- edges

pub edge_left : (a b : List Chunk) (at : ℕ) → IsEdge a at → IsEdge (a ++ b) at
edge_left a b at e = record {
  before = e.before;
  behind = e.behind ++ b;
  parts = ap (λ xs. xs ++ b) e.parts ∙ append_assoc e.before e.behind b;
  place = e.place;
}

pub edge_right : (a b : List Chunk) (at : ℕ) → IsEdge b at → IsEdge (a ++ b) (length (chunks_text a) + at)
edge_right a b at e = record {
  before = a ++ e.before;
  behind = e.behind;
  parts = ap (λ xs. a ++ xs) e.parts ∙ sym (append_assoc a e.before e.behind);
  place = ap (λ n. length (chunks_text a) + n) e.place ∙ sym (text_length a e.before);
}

pub edge_begins : (cs : List Chunk) (c : Chunk) (at : ℕ) → IsEdge cs at → Begins (cs ++ (c ∷ [])) at
edge_begins cs c at e = by_behind e.before e.behind e.parts e.place where
  by_behind : (before behind : List Chunk) → cs ≡ before ++ behind → at ≡ length (chunks_text before) → Begins (cs ++ (c ∷ [])) at
  by_behind before [] parts place = record {
    before = before;
    chunk = c;
    behind = [];
    parts = ap (λ xs. xs ++ (c ∷ [])) parts ∙ append_assoc before [] (c ∷ []);
    place = place;
  }
  by_behind before (d ∷ behind) parts place = record {
    before = before;
    chunk = d;
    behind = behind ++ (c ∷ []);
    parts = ap (λ xs. xs ++ (c ∷ [])) parts ∙ append_assoc before (d ∷ behind) (c ∷ []);
    place = place;
  }

pub first_edge : (cs : List Chunk) → IsEdge cs 0
first_edge cs = record { before = []; behind = cs; parts = refl; place = refl }

-- ---- NOPs have no relocations

nop_relocs : nop_coded.relocs ≡ []
unfolding nop_coded coded_of
nop_relocs = refl

nop_fields : HasFields (Alone nop_coded)
unfolding nop_coded coded_of
nop_fields = tt

pub nop_chunks_relocs : (at n : ℕ) → chunks_relocs at (nop_chunks n) ≡ []
unfolding nop_chunks chunks_relocs
nop_chunks_relocs at zero = refl
nop_chunks_relocs at (suc n) =
    ap (λ xs. map (Rattle.built_images.specs.Filled.reloc_later at) xs ++ chunks_relocs (at + length (chunk_text (Alone nop_coded)))
    (nop_chunks n)) nop_relocs
    ∙ nop_chunks_relocs (at + length (chunk_text (Alone nop_coded))) n

pub nop_chunks_fields : (n : ℕ) → HaveFields (nop_chunks n)
unfolding nop_chunks
nop_chunks_fields zero = tt
nop_chunks_fields (suc n) = (nop_fields, nop_chunks_fields n)

pub nop_chunks_linked : (n : ℕ) → AllByRecursion IsLinkedBranch (nop_chunks n)
unfolding nop_chunks
nop_chunks_linked zero = tt
nop_chunks_linked (suc n) = (λ b. absurd (nop_false (insn_in nop_coded) nop_insn b), nop_chunks_linked n)

pub nop_chunks_alone : (n : ℕ) → AllByRecursion IsAlone (nop_chunks n)
unfolding nop_chunks
nop_chunks_alone zero = tt
nop_chunks_alone (suc n) = (λ b. absurd (nop_false (insn_in nop_coded) nop_insn b), nop_chunks_alone n)
