-- What the instruction's own bytes are, once it is decoded: its bytes, at their places in its one or two pages.
use Rattle.std.specs.Prelude.{◌≡◌, ◌⊎◌, ℕ, ◌-◌, Bool, Ok}
use Rattle.ia32_types.specs.declared.insn.Insn.{Insn}
use Rattle.ia32_decode.specs.declared.answer.Decoded.TheVariants as begins
use Rattle.paging.specs.Space.{Wedge, Own, Space, place}
use Rattle.ia32_decode.specs.Front.{front_len}
use Rattle.machine_model.specs.Instruction.{next_page, fetched}

abbrev pub own_in_one : Space → ℕ → ℕ → Own
own_in_one s eip len = record { front = place s eip; front_len = len; back = 0; back_len = 0 }

abbrev pub own_in_two : Space → ℕ → ℕ → Own
own_in_two s eip len =
    record { front = place s eip; front_len = front_len eip; back = place s (next_page eip); back_len = len - front_len eip }

abbrev pub OwnsItsBytes : Type 0
OwnsItsBytes =
    (user : Bool) (eip : ℕ) (insn : Insn) (len text count : ℕ) (own : Own) (old new : Space)
    → old.mode ≡ Wedge text count own → fetched user eip old ≡ Ok (begins.Insn insn len, new)
    → (new.mode ≡ Wedge text count (own_in_one new eip len)) ⊎ (new.mode ≡ Wedge text count (own_in_two new eip len))
