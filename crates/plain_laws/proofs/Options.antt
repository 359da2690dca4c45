-- Options by their tests, and the first of two that is there.
use Rattle.std.proofs.Common.{◌≡◌, Bool, true, false, Option, None, Some, refl}
use Rattle.std.proofs.lemmas.Bool.{false≢true}
use Rattle.std.specs.Bool.{then_some}
use Rattle.std.specs.Option.{is_none, is_some, option_or}

pub none_is : {A : Type 0} (o : Option A) → is_none o ≡ true → o ≡ None
none_is None e = refl
none_is (Some x) e = absurd cc

pub some_is : {A : Type 0} (o : Option A) → is_some o ≡ true → (x : A) × (o ≡ Some x)
some_is None e = absurd (false≢true e)
some_is (Some x) e = (x, refl)

-- nothing, since no value is there
pub not_some : {A : Type 0} (o : Option A) → ((x : A) → o ≡ Some x → ⊥) → o ≡ None
not_some None never = refl
not_some (Some x) never = absurd (never x refl)

-- a test that gives nothing is not met
pub then_none : {A : Type 0} (test : Bool) (x : A) → then_some test x ≡ None → test ≡ false
then_none true x e = absurd cc
then_none false x e = refl

-- a test that is not met gives nothing
pub none_then : {A : Type 0} (test : Bool) (x : A) → test ≡ false → then_some test x ≡ None
none_then test x e = rw e refl

-- of two options neither is there
pub neither : {A : Type 0} (a b : Option A) → a ≡ None → b ≡ None → option_or a b ≡ None
neither a b e f = rw (e, f) refl

pub else_none : {A : Type 0} (a b : Option A) → option_or a b ≡ None → (a ≡ None) × (b ≡ None)
else_none None b e = (refl, e)
else_none (Some a) b e = absurd cc
