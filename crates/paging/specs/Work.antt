-- Work on memory as a list of accesses: each gives a value, or refuses and ends the work.
use Rattle.std.specs.Prelude.{ℕ, Bool, Result, Ok, Err, if◌then◌else◌}
use Rattle.ia32_types.specs.declared.size.Size.{Size}
use Rattle.paging.specs.Space.{Space, loaded, loaded_earlier, saved}

-- what work on memory does: its value or its refusal, and the memory then
abbrev pub Outcome : Type 0 → Type 0 → Type 0
Outcome E A = Result (A × Space) (E × Space)

abbrev pub Work : Type 0 → Type 0 → Type 0
Work E A = Space → Outcome E A

abbrev pub on_value : {E A B : Type 0} → Outcome E A → (A → Work E B) → Outcome E B
on_value (Ok x) f = f x.0 x.1
on_value (Err e) f = Err e

infixl 10 ◌>>=◌
abbrev pub ◌>>=◌ : {E A B : Type 0} → Work E A → (A → Work E B) → Work E B
(m >>= f) s = on_value (m s) f

-- a value with no access
abbrev pub gives : {E A : Type 0} → A → Work E A
gives x s = Ok (x, s)

abbrev pub refuses : {E A : Type 0} → E → Work E A
refuses e s = Err (e, s)

-- a refusal unless the test holds
abbrev pub unless : {E : Type 0} → E → Bool → Work E (Unit {0})
unless e test s = if test then Ok (tt, s) else Err (e, s)

abbrev pub reads : {E : Type 0} → ℕ → Size → Work E ℕ
reads at size s = Ok (loaded s at size, s)

-- a read in the range that was translated before the last
abbrev pub reads_earlier : {E : Type 0} → ℕ → Size → Work E ℕ
reads_earlier at size s = Ok (loaded_earlier s at size, s)

abbrev pub writes : {E : Type 0} → ℕ → Size → ℕ → Work E (Unit {0})
writes at size v s = Ok (tt, saved s at size v)
