-- What the value of a list of accesses has, wherever the work ends with one.
use Rattle.std.proofs.Common.{◌≡◌, Bool, true, false, cond, not, refl, Ok, Err}
use Rattle.paging.specs.Space.{Space}
use Rattle.paging.specs.Work.{Outcome, Work, on_value, ◌>>=◌, gives, unless}

abbrev pub Ends : {E A : Type 0} → (A → Type 0) → Outcome E A → Type 0
Ends P (Ok x) = P x.0
Ends P (Err e) = Unit {0}

pub record Yields {E A : Type 0} (P : A → Type 0) (w : Work E A) : Type 0 where
  pub each : (s : Space) → Ends P (w s)

after : {E A B : Type 0} (P : A → Type 0) (Q : B → Type 0) (o : Outcome E A) (f : A → Work E B) → Ends P o
    → ((x : A) → P x → Yields Q (f x)) → Ends Q (on_value o f)
after P Q (Ok x) f p h = (h x.0 p).each x.1
after P Q (Err e) f p h = tt

pub then_yields : {E A B : Type 0} {P : A → Type 0} {Q : B → Type 0} {m : Work E A} {f : A → Work E B} → Yields P m
    → ((x : A) → P x → Yields Q (f x)) → Yields Q (m >>= f)
then_yields {P = P} {Q = Q} {m = m} {f = f} hm hf = record { each = λ s. after P Q (m s) f (hm.each s) hf }

after_any : {E A B : Type 0} (Q : B → Type 0) (o : Outcome E A) (f : A → Work E B) → ((x : A) → Yields Q (f x)) → Ends Q (on_value o f)
after_any Q (Ok x) f h = (h x.0).each x.1
after_any Q (Err e) f h = tt

-- whatever the first value is
pub any_yields : {E A B : Type 0} {Q : B → Type 0} (m : Work E A) {f : A → Work E B} → ((x : A) → Yields Q (f x)) → Yields Q (m >>= f)
any_yields {Q = Q} m {f = f} h = record { each = λ s. after_any Q (m s) f h }

pub gives_yields : {E A : Type 0} {P : A → Type 0} {x : A} → P x → Yields P (gives {E = E} x)
gives_yields p = record { each = λ s. p }

pub unless_yields : {E : Type 0} (e : E) (test : Bool) → Yields (λ done. test ≡ true) (unless e test)
unless_yields e true = record { each = λ s. refl }
unless_yields e false = record { each = λ s. tt }

pub stops_yields : {E : Type 0} (e : E) (test : Bool) → Yields (λ done. test ≡ false) (unless e (not test))
stops_yields e true = record { each = λ s. tt }
stops_yields e false = record { each = λ s. refl }

pub if_yields : {E A : Type 0} {P : A → Type 0} {w v : Work E A} (test : Bool) → Yields P w → Yields P v → Yields P (cond test w v)
if_yields true h k = h
if_yields false h k = k

-- by what the test says
pub by_yields : {E A : Type 0} {P : A → Type 0} {w v : Work E A} (test : Bool) → (test ≡ true → Yields P w) → (test ≡ false → Yields P v)
    → Yields P (cond test w v)
by_yields true h k = h refl
by_yields false h k = k refl

keeps : {E A : Type 0} (X : Type 0) (o : Outcome E A) → X → Ends (λ a. X) o
keeps X (Ok x) h = h
keeps X (Err e) h = tt

-- what holds anyhow
pub keeps_yields : {E A : Type 0} {X : Type 0} (w : Work E A) → X → Yields (λ a. X) w
keeps_yields {X = X} w h = record { each = λ s. keeps X (w s) h }

-- a claim about the value of the work
abbrev pub OfValue : {E A : Type 0} → Work E A → (A → Type 0) → Type 0
OfValue w P = Yields P w
