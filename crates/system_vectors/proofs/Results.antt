-- What is known of the value of work on memory that is done.
use Rattle.std.proofs.Common.{◌≡◌, Bool, true, false, refl, subst, Ok, Err}
use Rattle.paging.specs.Space.{Space}
use Rattle.paging.specs.Work.{Outcome, Work, on_value, ◌>>=◌, gives, unless}

-- work that is done was done part by part
pub record Through {E A B : Type 0} (o : Outcome E A) (f : A → Work E B) (r : B × Space) : Type 0 where
  pub value : A × Space
  pub is : o ≡ Ok value
  pub rest : f value.0 value.1 ≡ Ok r

pub through : {E A B : Type 0} (o : Outcome E A) (f : A → Work E B) (r : B × Space) → on_value o f ≡ Ok r → Through o f r
through (Ok x) f r e = record { value = x; is = refl; rest = e }
through (Err x) f r e = absurd (cc)

abbrev pub IsDone : {E A : Type 0} → (A → Type 0) → Outcome E A → Type 0
IsDone P (Ok x) = P x.0
IsDone P (Err e) = Unit {0}

-- whatever memory is, a value that is given is such a value
pub record Ends {E A : Type 0} (P : A → Type 0) (w : Work E A) : Type 0 where
  pub at_each : (s : Space) → IsDone P (w s)

after : {E A B : Type 0} (P : A → Type 0) (Q : B → Type 0) (o : Outcome E A) (f : A → Work E B) → IsDone P o
    → ((x : A) → P x → Ends Q (f x)) → IsDone Q (on_value o f)
after P Q (Ok x) f p h = (h x.0 p).at_each x.1
after P Q (Err e) f p h = tt

pub ends_then : {E A B : Type 0} {Q : B → Type 0} (P : A → Type 0) {w : Work E A} {f : A → Work E B} → Ends P w
    → ((x : A) → P x → Ends Q (f x)) → Ends Q (w >>= f)
ends_then {Q = Q} P {w = w} {f = f} hw hf = record { at_each = λ s. after P Q (w s) f (hw.at_each s) hf }

-- a part of which nothing is to be known
pub record Any {E A : Type 0} (w : Work E A) : Type 0 where
  pub any : Unit {0}

pub any_work : {E A : Type 0} (w : Work E A) → Any w
any_work w = record { any = tt }

past : {E A B : Type 0} (Q : B → Type 0) (o : Outcome E A) (f : A → Work E B) → ((x : A) → Ends Q (f x)) → IsDone Q (on_value o f)
past Q (Ok x) f h = (h x.0).at_each x.1
past Q (Err e) f h = tt

pub skip : {E A B : Type 0} {Q : B → Type 0} {w : Work E A} {f : A → Work E B} → Any w → ((x : A) → Ends Q (f x)) → Ends Q (w >>= f)
skip {Q = Q} {w = w} {f = f} a h = record { at_each = λ s. past Q (w s) f h }

-- a test that holds after it
of_test : {E : Type 0} (e : E) (test : Bool) → Ends (λ x. test ≡ true) (unless e test)
of_test e true = record { at_each = λ s. refl }
of_test e false = record { at_each = λ s. tt }

pub tested : {E B : Type 0} (Q : B → Type 0) (e : E) (test : Bool) (f : Unit {0} → Work E B) → ((x : Unit {0}) → test ≡ true → Ends Q (f x))
    → Ends Q (unless e test >>= f)
tested Q e test f h = ends_then (λ x. test ≡ true) (of_test e test) h

pub given : {E A : Type 0} {P : A → Type 0} {x : A} → P x → Ends {E = E} P (gives x)
given p = record { at_each = λ s. p }

each : {E A : Type 0} (X : Type 0) (o : Outcome E A) → X → IsDone (λ a. X) o
each X (Ok v) x = x
each X (Err e) x = tt

-- a fact that is known already
pub known : {E A X : Type 0} {w : Work E A} → X → Ends (λ a. X) w
known {X = X} {w = w} x = record { at_each = λ s. each X (w s) x }

pub value_is : {E A : Type 0} (P : A → Type 0) (o : Outcome E A) (x : A × Space) → IsDone P o → o ≡ Ok x → P x.0
value_is P (Ok y) x p e = let q : y ≡ x = cc in subst (λ z. P z.0) q p
value_is P (Err y) x p e = absurd (cc)
