-- The bytes at EIP, where they are all that an instruction may have, tell it.
use Rattle.std.proofs.Common.{◌≡◌, ℕ, List, ◌∷◌, ◌++◌, length, Some, sym, ap, ◌∙◌, refl, arith}
use Rattle.std.proofs.lemmas.List.{length-append}
use Rattle.ia32_rows.specs.Spells.{AreBytes}
use Rattle.ia32_rows.proofs.TableLaws.{at_most_eleven}
use Rattle.ia32_decode.specs.declared.answer.Decoded.{Decoded}
use Rattle.ia32_decode.specs.declared.answer.Decoded.TheVariants as begins
use Rattle.ia32_decode.specs.Answer.{Answers}
use Rattle.ia32_decode.specs.Decoding.{decoded}
use Rattle.ia32_decode.specs.Front.{front_len}
use Rattle.ia32_decode.proofs.Exact.{answered}
use Rattle.linear_view.specs.View.{View, page_bytes}
use Rattle.linear_view.specs.Instruction.{by_front, by_page, instruction_at}

-- eleven bytes are no proper prefix of a spelling
never_short : (v : View) (at : ℕ) (front : List ℕ) (d : Decoded) → Answers d front → length front ≡ 11 → by_front v at front d ≡ Some d
never_short v at front (begins.Insn insn len) a eleven = refl
never_short v at front begins.Outside a eleven = refl
never_short v at front begins.Short cut eleven =
    absurd (omega (
      arith,
      at_most_eleven (front ++ cut.next ∷ cut.more) cut.insn cut.whole,
      length-append front (cut.next ∷ cut.more),
      eleven,
    ))

by_bytes : (v : View) (at len : ℕ) → len ≡ front_len at → instruction_at v at ≡ by_page v at (page_bytes v at len)
unfolding instruction_at
by_bytes v at len is = ap (λ (n : ℕ). by_page v at (page_bytes v at n)) (sym is)

pub told_by_bytes : (v : View) (at : ℕ) (front : List ℕ) → AreBytes front → length front ≡ 11 → 11 ≡ front_len at
    → Some front ≡ page_bytes v at 11
    → Some (decoded front) ≡ instruction_at v at
told_by_bytes v at front fit eleven len is =
    sym (by_bytes v at 11 len ∙ (ap (by_page v at) (sym is) ∙ never_short v at front (decoded front) (answered front fit) eleven))
