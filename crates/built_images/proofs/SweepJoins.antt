-- Sweeps one after the other.
use Rattle.std.proofs.Common.{◌≡◌, ℕ, zero, suc, ◌+◌, List, [], ◌∷◌, ◌++◌, length, take, drop, map, refl, sym, ap, subst, ◌∙◌, arith}
use Rattle.std.specs.Prelude.{replicate}
use Rattle.std.proofs.lemmas.List.{append-nil, length-append, take-append-le, drop-append-le, drop_at, length-replicate}
use Rattle.ia32_types.specs.declared.insn.Insn.{Insn}
use Rattle.ia32_rows.specs.Rows.{rows}
use Rattle.ia32_rows.specs.Spells.{Spells}
use Rattle.ia32_rows.specs.Fields.{addressing_at, immediate_at}
use Rattle.ia32_rows.specs.Spelling.{insn_of, lead_at, coded_at, parts_at}
use Rattle.ia32_decode.specs.Answer.{Begins}
use Rattle.ia32_decode.specs.Decoding.{answer_from, decoded}
use Rattle.ia32_decode.proofs.Whole.{reads_back}
use Rattle.image_check.specs.Sweep.{Swept}
use Rattle.image_check.specs.SweptTexts.{SweepsTo, Sweep}
use Rattle.image_check.proofs.SweepLaws.{begun}
use Rattle.built_images.specs.Joined.{swept_later, nop, sti, hlt, jump_to_itself, nops_at}

pub begins_more : (a b : List ℕ) (insn : Insn) (n : ℕ) → Begins a insn n → Begins (a ++ b) insn n
begins_more a b insn n h =
    let within = h.within in
    record {
      within = omega (arith, within, length-append a b);
      front = subst (λ bs. Spells bs insn) (sym (take-append-le n a b within)) h.front;
    }

pub to_append : (from to end : ℕ) (a b left : List ℕ) (first second : List Swept) → SweepsTo from a first to []
    → SweepsTo to b second end left → SweepsTo from (a ++ b) (first ++ second) end left
to_append from to end a b left [] second h k =
    subst (λ (at : ℕ). SweepsTo at (a ++ b) second end left) (sym h.0)
    (subst (λ (xs : List ℕ). SweepsTo to (xs ++ b) second end left) (sym h.1) k)
to_append from to end a b left (s ∷ first) second h k =
    let within = h.1.within in (
      h.0,
      begins_more a b s.insn s.len h.1,
      subst (λ (xs : List ℕ). SweepsTo (from + s.len) xs (first ++ second) end left) (sym (drop-append-le s.len a b within))
          (to_append (from + s.len) to end (drop s.len a) b left first second h.2 k),
    )

pub to_later : (n from to : ℕ) (bytes left : List ℕ) (swept : List Swept) → SweepsTo from bytes swept to left
    → SweepsTo (n + from) bytes (map (swept_later n) swept) (n + to) left
to_later n from to bytes left [] h = (ap (λ k. n + k) h.0, h.1)
to_later n from to bytes left (s ∷ swept) h =
    let e : n + (from + s.len) ≡ (n + from) + s.len = omega arith in (
      ap (λ k. n + k) h.0,
      h.1,
      subst (λ (at : ℕ). SweepsTo at (drop s.len bytes) (map (swept_later n) swept) (n + to) left) e
          (to_later n (from + s.len) to (drop s.len bytes) left swept h.2),
    )

pub sweeps_join : (a b : List ℕ) (first second : List Swept) → Sweep a first → Sweep b second
    → Sweep (a ++ b) (first ++ map (swept_later (length a)) second)
sweeps_join a b first second h k =
    let later : SweepsTo (length a + 0) b (map (swept_later (length a)) second) (length a + length b) [] =
    to_later (length a) 0 (length b) b [] second k in
    let from : length a + 0 ≡ length a = omega arith in
    let end : length a + length b ≡ length (a ++ b) = sym (length-append a b) in
    subst (λ (at : ℕ). SweepsTo 0 (a ++ b) (first ++ map (swept_later (length a)) second) at []) end
    (to_append 0 (length a) (length a + length b) a b [] first (map (swept_later (length a)) second) h
    (subst (λ (at : ℕ). SweepsTo at b (map (swept_later (length a)) second) (length a + length b) []) from later))

-- ---- what single spellings are

begins_whole : (bytes : List ℕ) (insn : Insn) → Begins bytes insn (length bytes) → take (length bytes) bytes ≡ bytes → Spells bytes insn
begins_whole bytes insn h e = subst (λ bs. Spells bs insn) e h.front

pub nop_spelled : Spells (0x90 ∷ []) nop
unfolding decoded answer_from rows parts_at coded_at lead_at addressing_at immediate_at insn_of
nop_spelled = begins_whole (0x90 ∷ []) nop (begun (0x90 ∷ []) nop 1 (omega arith, tt) refl) refl

pub sti_spelled : Spells (0xFB ∷ []) sti
unfolding decoded answer_from rows parts_at coded_at lead_at addressing_at immediate_at insn_of
sti_spelled = begins_whole (0xFB ∷ []) sti (begun (0xFB ∷ []) sti 1 (omega arith, tt) refl) refl

pub hlt_spelled : Spells (0xF4 ∷ []) hlt
unfolding decoded answer_from rows parts_at coded_at lead_at addressing_at immediate_at insn_of
hlt_spelled = begins_whole (0xF4 ∷ []) hlt (begun (0xF4 ∷ []) hlt 1 (omega arith, tt) refl) refl

pub jump_spelled : Spells (0xEB ∷ 0xFE ∷ []) jump_to_itself
unfolding decoded answer_from rows parts_at coded_at lead_at addressing_at immediate_at insn_of
jump_spelled =
    begins_whole (0xEB ∷ 0xFE ∷ []) jump_to_itself (begun (0xEB ∷ 0xFE ∷ []) jump_to_itself 2 (omega arith, (omega arith, tt)) refl) refl

-- ---- a spelling in front, and NOPs

pub one_sweeps : (at : ℕ) (bytes : List ℕ) (insn : Insn) → Spells bytes insn
    → SweepsTo at bytes (record { at = at; len = length bytes; insn = insn } ∷ []) (at + length bytes) []
one_sweeps at bytes insn s =
    let b = subst (λ bs. Begins bs insn (length bytes)) (append-nil bytes) (reads_back bytes [] insn s) in
    let d = ap (drop (length bytes)) (sym (append-nil bytes)) ∙ drop_at bytes [] (length bytes) refl in
    (refl, b, (refl, d))

pub nops_sweep : (at n : ℕ) → SweepsTo at (replicate n 0x90) (nops_at at n) (at + n) []
unfolding nops_at
nops_sweep at zero = (omega arith, refl)
nops_sweep at (suc n) =
    let e : (at + 1) + n ≡ at + suc n = omega arith in (
      refl,
      reads_back (0x90 ∷ []) (replicate n 0x90) nop nop_spelled,
      subst (λ (to : ℕ). SweepsTo (at + 1) (replicate n 0x90) (nops_at (at + 1) n) to []) e (nops_sweep (at + 1) n),
    )

pub nops_law : (n : ℕ) → Sweep (replicate n 0x90) (nops_at 0 n)
nops_law n =
    let e : 0 + n ≡ length (replicate n 0x90) = omega (arith, length-replicate {A = ℕ} n 0x90) in
    subst (λ (to : ℕ). SweepsTo 0 (replicate n 0x90) (nops_at 0 n) to []) e (nops_sweep 0 n)
