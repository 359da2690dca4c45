-- What is decoded of a memory in which a spelling stands.
use Rattle.std.proofs.Common.{◌≡◌, ℕ, ◌+◌, ◌-◌, ◌<◌, ◌≤◌, List, ◌++◌, length, take, drop, get_or, sym, ap, subst, ◌∙◌, append_assoc, arith}
use Rattle.std.proofs.lemmas.List.{take-take, take-append-drop, drop_more}
use Rattle.guest_ram.specs.Bytes.{part}
use Rattle.guest_ram.proofs.Bytes.{part-append}
use Rattle.ia32_types.specs.declared.insn.Insn.{Insn}
use Rattle.ia32_rows.specs.Spells.{Spells, IsCut}
use Rattle.ia32_rows.proofs.Readers.{AreBytes-take}
use Rattle.ia32_decode.specs.declared.answer.Decoded.TheVariants as answer
use Rattle.ia32_decode.specs.Decoding.{decoded}
use Rattle.ia32_decode.proofs.Exact.{answered, decoded_back}
use Rattle.ia32_decode.proofs.Whole.{exactly_short}

-- a front of a spelling is cut
pub front_cut : (bytes : List ℕ) (insn : Insn) (n : ℕ) → Spells bytes insn → n < length bytes → decoded (take n bytes) ≡ answer.Short
front_cut bytes insn n s lt =
    let cut : IsCut (take n bytes) = record {
      next = get_or bytes n 0;
      more = drop (n + 1) bytes;
      insn = insn;
      whole = subst (λ (bs : List ℕ). Spells bs insn)
          (sym (take-append-drop n bytes) ∙ ap (λ (bs : List ℕ). take n bytes ++ bs) (drop_more bytes n 0 lt)) s;
    } in
    (exactly_short (decoded (take n bytes)) (take n bytes) (answered (take n bytes) (AreBytes-take n bytes s.by_row.fit))).1 cut

module _ (m : List ℕ) (at : ℕ) (insn : Insn) (len : ℕ) (spelled : Spells (part m at len) insn) (full : length (part m at len) ≡ len) where
  pub whole_at : (n : ℕ) → len ≤ n → (more : List ℕ) → decoded (part m at n ++ more) ≡ answer.Insn insn len
  whole_at n le more =
      let sum : len + (n - len) ≡ n = omega arith in
      let two : part m at n ≡ part m at len ++ part m (at + len) (n - len) =
      ap (part m at) (sym sum) ∙ sym (part-append m at len (n - len)) in
      ap (λ (bs : List ℕ). decoded (bs ++ more)) two
      ∙ ap decoded (append_assoc (part m at len) (part m (at + len) (n - len)) more)
      ∙ decoded_back (part m at len) (part m (at + len) (n - len) ++ more) insn spelled
      ∙ ap (answer.Insn insn) full

  pub cut_at : (n : ℕ) → n < len → decoded (part m at n) ≡ answer.Short
  unfolding part
  cut_at n lt =
      ap decoded (sym (take-take n len (drop at m) (omega arith))) ∙ front_cut (part m at len) insn n spelled (omega (arith, full))
