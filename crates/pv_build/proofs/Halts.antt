-- Why work has ended, in other words.
use Rattle.std.proofs.Common.{◌≡◌, ℕ, ◌≤◌, Bool, List, Result, Ok, IfOk, subst, ◌∙◌}
use Rattle.std.specs.declared.alloc.AllocError.{AllocError}
use Rattle.pv_io.proofs.Pieces.{rose_later}
use Rattle.pv_build.specs.Telling.{HaltsAs, RefusesAs}
use Rattle.pv_build.specs.declared.halt.Halt.{Halt}
use Rattle.pv_build.specs.declared.halt.Halt.TheVariants as halt

-- work that has ended since an earlier load, over the files as they were then
pub halts_since : (told : List ℕ → Type 0) (held : Type 0) (sure sure2 : Bool) (loads mid after : ℕ) (h : Halt)
    → sure2 ≡ sure → loads ≤ mid → HaltsAs told held sure2 mid after h → HaltsAs told held sure loads after h
halts_since told held sure sure2 loads mid after (halt.Refused line) same le is = is
halts_since told held sure sure2 loads mid after halt.ReadFault same le is = (rose_later loads mid after le is.0, λ s. is.1 (same ∙ s))
halts_since told held sure sure2 loads mid after halt.Memory same le is = is

-- a refusal of other lines
pub refuses_as : (told told2 : List ℕ → Type 0) (h : Halt) → ((line : List ℕ) → told line → told2 line)
    → RefusesAs told h → RefusesAs told2 h
refuses_as told told2 (halt.Refused line) to is = to line is
refuses_as told told2 halt.ReadFault to is = is
refuses_as told told2 halt.Memory to is = is

-- a refusal where files were read
pub refused_here : (told : List ℕ → Type 0) (held : Type 0) (sure : Bool) (loads after : ℕ) (h : Halt) → RefusesAs told h
    → HaltsAs told held sure loads after h
refused_here told held sure loads after (halt.Refused line) is = is
refused_here told held sure loads after halt.ReadFault is = absurd is
refused_here told held sure loads after halt.Memory is = tt

-- the line that a result has
pub line_is : (r : Result (List ℕ) AllocError) (line other : List ℕ) → IfOk r (λ l. l ≡ other) → r ≡ Ok line → line ≡ other
line_is r line other is ok = subst (λ (x : Result (List ℕ) AllocError). IfOk x (λ l. l ≡ other)) ok is

-- work that has ended with other lines
pub halts_as : (told told2 : List ℕ → Type 0) (held held2 : Type 0) (sure : Bool) (before now : ℕ) (h : Halt)
    → ((line : List ℕ) → told line → told2 line) → (held2 → held) → HaltsAs told held sure before now h
    → HaltsAs told2 held2 sure before now h
halts_as told told2 held held2 sure before now (halt.Refused line) to from is = to line is
halts_as told told2 held held2 sure before now halt.ReadFault to from is = (is.0, λ s all. is.1 s (from all))
halts_as told told2 held held2 sure before now halt.Memory to from is = is
