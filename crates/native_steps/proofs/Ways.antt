-- The bytes of an instruction, in one page or in two.
use Rattle.std.proofs.Common.{◌≡◌, ℕ, ◌+◌, ◌*◌, ◌/◌, ◌%◌, List, ◌++◌, ◌⊎◌, ◌==◌, false}
use Rattle.guest_ram.specs.Bytes.{part}
use Rattle.ia32_types.specs.declared.insn.Insn.{Insn}
use Rattle.ia32_decode.specs.declared.answer.Decoded.TheVariants as begins
use Rattle.ia32_decode.specs.Decoding.{decoded}
use Rattle.ia32_decode.specs.Front.{longest, front_len}

abbrev pub front_at : List ℕ → ℕ → ℕ → List ℕ
front_at ram frame eip = part ram (4096 * frame + eip % 4096) (front_len eip)

abbrev pub back_at : List ℕ → ℕ → List ℕ
back_at ram frame = part ram (4096 * frame) longest

-- those of the first page begin the instruction
pub record IsFront (P : ℕ → ℕ → Type 0) (ram : List ℕ) (eip : ℕ) (insn : Insn) (len : ℕ) : Type 0 where
  pub frame : ℕ
  pub page : P (eip / 4096) frame
  pub is : decoded (front_at ram frame eip) ≡ begins.Insn insn len

-- they are cut, and with those of the next page they begin it
pub record IsAcross (P : ℕ → ℕ → Type 0) (ram : List ℕ) (eip : ℕ) (insn : Insn) (len : ℕ) : Type 0 where
  pub frame : ℕ
  pub page : P (eip / 4096) frame
  pub cut : decoded (front_at ram frame eip) ≡ begins.Short
  pub not_last : (eip / 4096 == 1048575) ≡ false
  pub next : ℕ
  pub next_page : P (eip / 4096 + 1) next
  pub is : decoded (front_at ram frame eip ++ back_at ram next) ≡ begins.Insn insn len

-- the instruction's bytes, where P gives the frames of pages
abbrev pub Way : (ℕ → ℕ → Type 0) → List ℕ → ℕ → Insn → ℕ → Type 0
Way P ram eip insn len = IsFront P ram eip insn len ⊎ IsAcross P ram eip insn len
