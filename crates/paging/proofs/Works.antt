-- Work under the monitor's rules does what it does on the bare machine, unless one of the monitor's stops ends it.
-- The law goes through a list of accesses access by access.
use Rattle.std.proofs.Common.{◌≡◌, ℕ, Bool, true, false, cond, refl, ap, ◌∙◌, ◌⊎◌, inl, inr, Ok, Err}
use Rattle.ia32_types.specs.declared.size.Size.{Size}
use Rattle.ia32_types.specs.declared.size.Size.TheVariants.{Byte, Word, Long}
use Rattle.paging.specs.Space.{loaded, written, byte_at, place}
use Rattle.paging.specs.Work.{Outcome, Work, on_value, ◌>>=◌, gives, unless, reads, reads_earlier, writes, refuses}
use Rattle.paging.specs.Agreement.{bare, bared, IsExtra, Agrees}

after : {E A B : Type 0} (extra : E → Bool) (o p : Outcome E A) (f : A → Work E B) → ((x : A) → Agrees extra (f x)) → IsExtra extra o
    ⊎ (p ≡ bared o) → IsExtra extra (on_value o f) ⊎ (on_value p f ≡ bared (on_value o f))
after extra (Ok x) p f h (inl e) = absurd e
after extra (Ok x) p f h (inr e) = elim ((h x.0).at_each x.1) [ inl k ↦ inl k | inr g ↦ inr (ap (λ q. on_value q f) e ∙ g) ]
after extra (Err x) p f h (inl e) = inl e
after extra (Err x) p f h (inr e) = inr (ap (λ q. on_value q f) e)

pub then_agrees : {E A B : Type 0} {extra : E → Bool} {m : Work E A} {f : A → Work E B} → Agrees extra m → ((x : A) → Agrees extra (f x))
    → Agrees extra (m >>= f)
then_agrees {extra = extra} {m = m} {f = f} hm hf = record { at_each = λ s. after extra (m s) (m (bare s)) f hf (hm.at_each s) }

pub gives_agrees : {E A : Type 0} (extra : E → Bool) (x : A) → Agrees extra (gives {E = E} x)
gives_agrees extra x = record { at_each = λ s. inr refl }

pub unless_agrees : {E : Type 0} (extra : E → Bool) (e : E) (test : Bool) → Agrees extra (unless e test)
unless_agrees extra e true = record { at_each = λ s. inr refl }
unless_agrees extra e false = record { at_each = λ s. inr refl }

pub reads_agrees : {E : Type 0} (extra : E → Bool) (at : ℕ) (size : Size) → Agrees extra (reads {E = E} at size)
unfolding loaded byte_at place
reads_agrees extra at Byte = record { at_each = λ s. inr refl }
reads_agrees extra at Word = record { at_each = λ s. inr refl }
reads_agrees extra at Long = record { at_each = λ s. inr refl }

pub reads_earlier_agrees : {E : Type 0} (extra : E → Bool) (at : ℕ) (size : Size) → Agrees extra (reads_earlier {E = E} at size)
unfolding loaded byte_at place
reads_earlier_agrees extra at Byte = record { at_each = λ s. inr refl }
reads_earlier_agrees extra at Word = record { at_each = λ s. inr refl }
reads_earlier_agrees extra at Long = record { at_each = λ s. inr refl }

pub writes_agrees : {E : Type 0} (extra : E → Bool) (at : ℕ) (size : Size) (v : ℕ) → Agrees extra (writes {E = E} at size v)
unfolding written place
writes_agrees extra at Byte v = record { at_each = λ s. inr refl }
writes_agrees extra at Word v = record { at_each = λ s. inr refl }
writes_agrees extra at Long v = record { at_each = λ s. inr refl }

pub refuses_agrees : {E A : Type 0} (extra : E → Bool) (e : E) → Agrees extra (refuses {A = A} e)
refuses_agrees extra e = record { at_each = λ s. inr refl }

pub if_agrees : {E A : Type 0} {extra : E → Bool} {w v : Work E A} (test : Bool) → Agrees extra w → Agrees extra v
    → Agrees extra (cond test w v)
if_agrees true h k = h
if_agrees false h k = k

-- how the law goes through a list of accesses
pub ruleset work_steps =
    (then_agrees, gives_agrees, unless_agrees, reads_agrees, reads_earlier_agrees, writes_agrees, refuses_agrees, if_agrees)
