-- A pair that leaves while it isn't the present one.
use Rattle.std.proofs.Common.{◌≡◌, ◌≢◌, ◌⊎◌, ℕ, zero, suc, ◌+◌, List, [], ◌∷◌, ◌++◌, length, take, filter, Bool, true, false, not, cond, eqb, Option, Some, None, refl, sym, ap, ◌∙◌, subst, inl, inr}
use Rattle.std.proofs.lemmas.Bool.Decides.{eqb_tells}
use Rattle.std.proofs.lemmas.Bool.{or_from, ne_eqb, or_parts}
use Rattle.std.proofs.lemmas.Option.{same_Some}
use Rattle.guest_ram.specs.Among.{is_among}
use Rattle.shadow_tables.specs.declared.calls.Call.{Call}
use Rattle.shadow_tables.specs.declared.calls.Call.TheVariants.{Fill, DropPage, DropDir, DropAll, Note, Written}
use Rattle.shadow_cache.specs.Past.{Past, begun, marked_at, unmarked, of_value, but_value, with_front, after_switch, after_shared, after_call, after_calls, pairs_after}
use Rattle.shadow_cache.specs.Away.{has_value, AreApart, IsCause, HasCause, IsNotLoaded, IsPresent, PairsLeave}
use Rattle.shadow_cache.specs.declared.call_lists.RootsCall.{RootsCall}
use Rattle.shadow_cache.specs.declared.call_lists.RootsCall.TheVariants.{Shared, Switch}
use Rattle.shadow_cache.proofs.Since.{pairs-more, pairs-join, calls-cons, calls-none}
use Rattle.shadow_cache.proofs.Apart.{none-of, of-is, filter-none, take-none, but-none}
use Rattle.shadow_cache.proofs.Whole.{stale-value, pairs-apart, call-apart}

-- ---- it is there as it was, or no pair of its value is

abbrev pub AsWas : Past → List Past → Type 0
AsWas p qs = (has_value p.value qs ≡ false) ⊎ (of_value p.value qs ≡ Some p)

cons-was : (p q : Past) (qs : List Past) → eqb q.value p.value ≡ false → AsWas p qs → AsWas p (q ∷ qs)
cons-was p q qs n w =
    elim w [
      | inl e ↦ inl (or_from (eqb q.value p.value) (has_value p.value qs) n e)
      | inr e ↦ inr (ap (λ b. cond b (Some q) (of_value p.value qs)) n ∙ e)
    ]

rest-was : (p q : Past) (qs : List Past) → eqb q.value p.value ≡ false → AsWas p (q ∷ qs) → AsWas p qs
rest-was p q qs n w =
    elim w [
      | inl e ↦ inl (or_parts (eqb q.value p.value) (has_value p.value qs) e).1
      | inr e ↦ inr (sym (ap (λ b. cond b (Some q) (of_value p.value qs)) n) ∙ e)
    ]

-- where the first is of its value, it is the pair, and there is no other
first-was : (p q : Past) (qs : List Past) → q.value ≡ p.value → AsWas p (q ∷ qs) → q ≡ p
first-was p q qs s w =
    elim (eqb_tells q.value p.value) [
      | inl t ↦ elim w [
        | inl e ↦ absurd (let x : true ≡ false = sym t.0 ∙ (or_parts (eqb q.value p.value) (has_value p.value qs) e).0 in cc)
        | inr e ↦ same_Some q p (sym (ap (λ b. cond b (Some q) (of_value p.value qs)) t.0) ∙ e)
      ]
      | inr t ↦ absurd (t.1 s)
    ]

here-was : (p q : Past) (qs : List Past) → q ≡ p → AsWas p (q ∷ qs)
here-was p q qs s =
    inr (elim (eqb_tells q.value p.value) [
      | inl t ↦ ap (λ b. cond b (Some q) (of_value p.value qs)) t.0 ∙ ap (λ x. Some x) s
      | inr t ↦ absurd (t.1 (ap (λ (x : Past). x.value) s))
    ])

take-was : (p : Past) (n : ℕ) (qs : List Past) → AsWas p qs → AsWas p (take n qs)
take-was p zero qs w = inl refl
take-was p (suc n) [] w = w
take-was p (suc n) (q ∷ qs) w =
    elim (eqb_tells q.value p.value) [
      | inl t ↦ here-was p q (take n qs) (first-was p q qs t.1 w)
      | inr t ↦ cons-was p q (take n qs) t.0 (take-was p n qs (rest-was p q qs t.0 w))
    ]

but-was : (p : Past) (v : ℕ) (qs : List Past) → p.value ≢ v → AsWas p qs → AsWas p (but_value v qs)
but-was p v [] n w = w
but-was p v (q ∷ qs) n w =
    elim (eqb_tells q.value v) [
      | inl t ↦
          subst (λ b. AsWas p (cond b qs (q ∷ but_value v qs))) (sym t.0)
          (rest-was p q qs (ne_eqb q.value p.value (λ e. n (sym e ∙ t.1))) w)
      | inr t ↦
          subst (λ b. AsWas p (cond b qs (q ∷ but_value v qs))) (sym t.0)
          (elim (eqb_tells q.value p.value) [
            | inl s ↦ here-was p q (but_value v qs) (first-was p q qs s.1 w)
            | inr s ↦ cons-was p q (but_value v qs) s.0 (but-was p v qs n (rest-was p q qs s.0 w))
          ])
    ]

stays-was : (p : Past) (b : Bool) (q : Past) (rest : List Past) → q ≡ p → has_value p.value rest ≡ false → AsWas p (cond b (q ∷ rest) rest)
stays-was p true q rest s n = here-was p q rest s
stays-was p false q rest s n = inl n

other-was : (p : Past) (b : Bool) (q : Past) (rest : List Past) → eqb q.value p.value ≡ false → AsWas p rest
    → AsWas p (cond b (q ∷ rest) rest)
other-was p true q rest n w = cons-was p q rest n w
other-was p false q rest n w = w

filter-was : (p : Past) (t : Past → Bool) (qs : List Past) → AreApart qs → AsWas p qs → AsWas p (filter t qs)
filter-was p t [] a w = w
filter-was p t (q ∷ qs) a w =
    elim (eqb_tells q.value p.value) [
      | inl s ↦ stays-was p (t q) q (filter t qs) (first-was p q qs s.1 w)
          (filter-none t qs p.value (ap (λ x. has_value x qs) (sym s.1) ∙ a.0))
      | inr s ↦ other-was p (t q) q (filter t qs) s.0 (filter-was p t qs a.1 (rest-was p q qs s.0 w))
    ]

gone-by : (b : Bool) (v : ℕ) (q : Past) (rest : List Past) → eqb q.value v ≡ false → has_value v rest ≡ false
    → has_value v (cond b (q ∷ rest) rest) ≡ false
gone-by true v q rest n e = or_from (eqb q.value v) (has_value v rest) n e
gone-by false v q rest n e = e

-- where the test is false of it, it goes
pub filter-gone : (p : Past) (t : Past → Bool) (qs : List Past) → t p ≡ false → AreApart qs → AsWas p qs
    → has_value p.value (filter t qs) ≡ false
filter-gone p t [] f a w = refl
filter-gone p t (q ∷ qs) f a w =
    elim (eqb_tells q.value p.value) [
      | inl s ↦
          ap (λ b. has_value p.value (cond b (q ∷ filter t qs) (filter t qs))) (ap t (first-was p q qs s.1 w) ∙ f)
          ∙ filter-none t qs p.value (ap (λ x. has_value x qs) (sym s.1) ∙ a.0)
      | inr s ↦ gone-by (t q) p.value q (filter t qs) s.0 (filter-gone p t qs f a.1 (rest-was p q qs s.0 w))
    ]

-- ---- beside the present pair

record Beside (p : Past) (ps : List Past) : Type 0 where
  first : Past
  more : List Past
  place : ps ≡ first ∷ more
  other : eqb first.value p.value ≡ false
  was : AsWas p more

front-beside : (p : Past) (v : ℕ) (ps : List Past) (o : Option Past) → p.value ≢ v → of_value v ps ≡ o → AsWas p ps
    → Beside p (with_front v ps o)
front-beside p v ps None n e w =
    record { first = begun v; more = take 7 ps; place = refl; other = ne_eqb v p.value (λ s. n (sym s)); was = take-was p 7 ps w }
front-beside p v ps (Some q) n e w =
    record {
      first = q;
      more = but_value v ps;
      place = refl;
      other = ne_eqb q.value p.value (λ s. n (sym s ∙ of-is v ps q e));
      was = but-was p v ps n w;
    }

unmarked-was : (p : Past) (b : Bool) (q : Past) (qs : List Past) → AsWas p qs → AsWas p (q ∷ qs) → AsWas p (cond b qs (q ∷ qs))
unmarked-was p true q qs x y = x
unmarked-was p false q qs x y = y

switch-beside : (p : Past) (n v : ℕ) (ps : List Past) → p.value ≢ v → Beside p ps → Beside p (after_call n (Switch v) ps)
switch-beside p n v ps o b =
    subst (λ (xs : List Past). Beside p (after_switch v (unmarked xs))) (sym b.place)
    (let xs : List Past = unmarked (b.first ∷ b.more) in
    front-beside p v xs (of_value v xs) o refl
    (unmarked-was p b.first.stale b.first b.more b.was (cons-was p b.first b.more b.other b.was)))

-- another in the place of the present one, of its value
beside-instead : (p : Past) (ps : List Past) (b : Beside p ps) (q : Past) → q.value ≡ b.first.value → Beside p (q ∷ b.more)
beside-instead p ps b q e = record { first = q; more = b.more; place = refl; other = ap (λ x. eqb x p.value) e ∙ b.other; was = b.was }

written-beside : (p : Past) (n frame : ℕ) (ps : List Past) → AreApart ps → Beside p ps → Beside p (after_shared n (Written frame) ps)
written-beside p n frame ps a b =
    let t : Past → Bool = λ q. not (is_among frame q.tables) in
    let q : Past = marked_at frame b.first in
    let e : q.value ≡ b.first.value = stale-value (is_among frame b.first.tables) frame b.first in
    subst (λ (xs : List Past). Beside p (after_shared n (Written frame) xs)) (sym b.place)
    (record {
      first = q;
      more = filter t b.more;
      place = refl;
      other = ap (λ x. eqb x p.value) e ∙ b.other;
      was = filter-was p t b.more (subst AreApart b.place a).1 b.was;
    })

shared-beside : (p : Past) (n : ℕ) (c : Call) (ps : List Past) → AreApart ps → Beside p ps → Beside p (after_shared n c ps)
shared-beside p n (Fill side entry wp) ps a b =
    subst (λ (xs : List Past). Beside p (after_shared n (Fill side entry wp) xs)) (sym b.place) (beside-instead p ps b _ refl)
shared-beside p n (DropPage page) ps a b =
    subst (λ (xs : List Past). Beside p (after_shared n (DropPage page) xs)) (sym b.place) (beside-instead p ps b _ refl)
shared-beside p n (DropDir index) ps a b =
    subst (λ (xs : List Past). Beside p (after_shared n (DropDir index) xs)) (sym b.place) (beside-instead p ps b _ refl)
shared-beside p n DropAll ps a b =
    subst (λ (xs : List Past). Beside p (after_shared n DropAll xs)) (sym b.place)
    (record { first = begun b.first.value; more = []; place = refl; other = b.other; was = inl refl })
shared-beside p n (Note frame) ps a b =
    subst (λ (xs : List Past). Beside p (after_shared n (Note frame) xs)) (sym b.place) (beside-instead p ps b _ refl)
shared-beside p n (Written frame) ps a b = written-beside p n frame ps a b

-- ---- gone

abbrev pub Gone : ℕ → List Past → Type 0
Gone v ps = has_value v ps ≡ false

cond-gone : (b : Bool) (v : ℕ) (q : Past) (qs : List Past) → Gone v (q ∷ qs) → Gone v (cond b qs (q ∷ qs))
cond-gone true v q qs e = (or_parts (eqb q.value v) (has_value v qs) e).1
cond-gone false v q qs e = e

unmarked-gone : (v : ℕ) (ps : List Past) → Gone v ps → Gone v (unmarked ps)
unmarked-gone v [] e = e
unmarked-gone v (p ∷ ps) e = cond-gone p.stale v p ps e

pub front-gone : (w v : ℕ) (ps : List Past) (o : Option Past) → w ≢ v → of_value v ps ≡ o → Gone w ps → Gone w (with_front v ps o)
front-gone w v ps None n e g = or_from (eqb v w) (has_value w (take 7 ps)) (ne_eqb v w (λ s. n (sym s))) (take-none 7 ps w g)
front-gone w v ps (Some q) n e g =
    or_from (eqb q.value w) (has_value w (but_value v ps)) (ne_eqb q.value w (λ s. n (sym s ∙ of-is v ps q e))) (but-none v ps w g)

switch-gone : (w n v : ℕ) (ps : List Past) → w ≢ v → Gone w ps → Gone w (after_call n (Switch v) ps)
switch-gone w n v ps o g = front-gone w v (unmarked ps) (of_value v (unmarked ps)) o refl (unmarked-gone w ps g)

shared-gone : (w n : ℕ) (c : Call) (ps : List Past) → Gone w ps → Gone w (after_shared n c ps)
shared-gone w n c [] g = g
shared-gone w n (Fill side entry wp) (p ∷ ps) g = g
shared-gone w n (DropPage page) (p ∷ ps) g = g
shared-gone w n (DropDir index) (p ∷ ps) g = g
shared-gone w n DropAll (p ∷ ps) g = or_from (eqb p.value w) false (or_parts (eqb p.value w) (has_value w ps) g).0 refl
shared-gone w n (Note frame) (p ∷ ps) g = g
shared-gone w n (Written frame) (p ∷ ps) g =
    let t : Past → Bool = λ q. not (is_among frame q.tables) in
    or_from (eqb (marked_at frame p).value w) (has_value w (filter t ps))
    (ap (λ x. eqb x w) (stale-value (is_among frame p.tables) frame p) ∙ (or_parts (eqb p.value w) (has_value w ps) g).0)
    (filter-none t ps w (or_parts (eqb p.value w) (has_value w ps) g).1)

calls-gone : (w n : ℕ) (cs : List RootsCall) (ps : List Past) → IsNotLoaded w cs → Gone w ps → Gone w (after_calls n cs ps)
calls-gone w n [] ps l g = subst (Gone w) (sym (calls-none n ps)) g
calls-gone w n (Shared c ∷ cs) ps l g =
    subst (Gone w) (sym (calls-cons n (Shared c) cs ps)) (calls-gone w (suc n) cs (after_shared n c ps) l (shared-gone w n c ps g))
calls-gone w n (Switch v ∷ cs) ps l g = subst (Gone w) (sym (calls-cons n (Switch v) cs ps))
    (calls-gone w (suc n) cs (after_call n (Switch v) ps) l.1 (switch-gone w n v ps l.0 g))

-- ---- the causes

written-gone : (p : Past) (n frame : ℕ) (ps : List Past) → is_among frame p.tables ≡ true → AreApart ps → Beside p ps
    → Gone p.value (after_shared n (Written frame) ps)
written-gone p n frame ps i a b =
    let t : Past → Bool = λ q. not (is_among frame q.tables) in
    subst (λ (xs : List Past). Gone p.value (after_shared n (Written frame) xs)) (sym b.place)
    (or_from (eqb (marked_at frame b.first).value p.value) (has_value p.value (filter t b.more))
    (ap (λ x. eqb x p.value) (stale-value (is_among frame b.first.tables) frame b.first) ∙ b.other)
    (filter-gone p t b.more (ap not i) (subst AreApart b.place a).1 b.was))

cause-gone : (p : Past) (n : ℕ) (c : RootsCall) (ps : List Past) → IsCause p c → AreApart ps → Beside p ps
    → Gone p.value (after_call n c ps)
cause-gone p n (Switch v) ps i a b = absurd i
cause-gone p n (Shared (Fill side entry wp)) ps i a b = absurd i
cause-gone p n (Shared (DropPage page)) ps i a b = absurd i
cause-gone p n (Shared (DropDir index)) ps i a b = absurd i
cause-gone p n (Shared DropAll) ps i a b =
    subst (λ (xs : List Past). Gone p.value (after_shared n DropAll xs)) (sym b.place)
    (or_from (eqb b.first.value p.value) false b.other refl)
cause-gone p n (Shared (Note frame)) ps i a b = absurd i
cause-gone p n (Shared (Written frame)) ps i a b = written-gone p n frame ps i a b

away-gone : (p : Past) (n : ℕ) (cs : List RootsCall) (ps : List Past) → IsNotLoaded p.value cs → HasCause p cs → AreApart ps → Beside p ps
    → Gone p.value (after_calls n cs ps)
away-gone p n [] ps l h a b = absurd h
away-gone p n (Shared c ∷ cs) ps l h a b =
    subst (Gone p.value) (sym (calls-cons n (Shared c) cs ps))
    (elim h [
      | inl i ↦ calls-gone p.value (suc n) cs (after_shared n c ps) l (cause-gone p n (Shared c) ps i a b)
      | inr k ↦ away-gone p (suc n) cs (after_shared n c ps) l k (call-apart n (Shared c) ps a) (shared-beside p n c ps a b)
    ])
away-gone p n (Switch v ∷ cs) ps l h a b =
    subst (Gone p.value) (sym (calls-cons n (Switch v) cs ps))
    (elim h [
      | inl i ↦ absurd i
      | inr k ↦ away-gone p (suc n) cs (after_call n (Switch v) ps) l.1 k (call-apart n (Switch v) ps a) (switch-beside p n v ps l.0 b)
    ])

-- ---- a load of its value

pub begins-by : (v : ℕ) (ps : List Past) (o : Option Past) → o ≡ None → IsPresent (begun v) (with_front v ps o)
begins-by v ps o e = subst (λ x. IsPresent (begun v) (with_front v ps x)) (sym e) (record { others = take 7 ps; first = refl })

gone-begins : (v n : ℕ) (ps : List Past) → Gone v ps → IsPresent (begun v) (after_call n (Switch v) ps)
gone-begins v n ps g = begins-by v (unmarked ps) (of_value v (unmarked ps)) (none-of v (unmarked ps) (unmarked-gone v ps g))

module _ (value other : ℕ) (before away : List RootsCall) (p : Past) (others : List Past) (e : pairs_after value before ≡ p ∷ others)
    (l : IsNotLoaded p.value (Switch other ∷ away)) where
  abbrev n : ℕ
  n = 0 + length before

  apart : AreApart (p ∷ others)
  apart = subst AreApart e (pairs-apart value before)

  self-first : AsWas p (p ∷ others)
  self-first = here-was p p others refl

  left : Gone p.value (after_call n (Switch other) (p ∷ others)) → Gone p.value (after_calls n (Switch other ∷ away) (p ∷ others))
  left g = subst (Gone p.value) (sym (calls-cons n (Switch other) away (p ∷ others)))
      (calls-gone p.value (suc n) away (after_call n (Switch other) (p ∷ others)) l.1 g)

  stale-goes : p.stale ≡ true → Gone p.value (after_calls n (Switch other ∷ away) (p ∷ others))
  stale-goes m =
      left (subst (λ b. Gone p.value (after_switch other (cond b others (p ∷ others)))) (sym m)
      (front-gone p.value other others (of_value other others) l.0 refl apart.0))

  cause-goes : HasCause p away → Gone p.value (after_calls n (Switch other ∷ away) (p ∷ others))
  cause-goes h =
      let b : Beside p (after_call n (Switch other) (p ∷ others)) =
      (let xs : List Past = unmarked (p ∷ others) in
      front-beside p other xs (of_value other xs) l.0 refl (unmarked-was p p.stale p others (inl apart.0) self-first))
      in
      subst (Gone p.value) (sym (calls-cons n (Switch other) away (p ∷ others)))
      (away-gone p (suc n) away (after_call n (Switch other) (p ∷ others)) l.1 h (call-apart n (Switch other) (p ∷ others) apart) b)

  goes : (p.stale ≡ true) ⊎ HasCause p away → Gone p.value (pairs_after value (before ++ Switch other ∷ away))
  goes h =
      subst (Gone p.value) (sym (pairs-join value before (Switch other ∷ away) ∙ ap (after_calls n (Switch other ∷ away)) e))
      (elim h [ inl m ↦ stale-goes m | inr k ↦ cause-goes k ])

  back-new : (p.stale ≡ true) ⊎ HasCause p away
      → IsPresent (begun p.value) (pairs_after value (before ++ Switch other ∷ away ++ Switch p.value ∷ []))
  back-new h =
      let cs = before ++ Switch other ∷ away in
      subst (IsPresent (begun p.value)) (sym (pairs-more value cs (Switch p.value)))
      (gone-begins p.value (length cs) (pairs_after value cs) (goes h))

pub pairs-leave : PairsLeave
pairs-leave value other before away p i l h = back-new value other before away p i.others i.first l h
