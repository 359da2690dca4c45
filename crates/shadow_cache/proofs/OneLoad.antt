-- Which pairs leave at a call.
use Rattle.std.proofs.Common.{◌≡◌, ◌≢◌, ℕ, zero, suc, ◌≤◌, List, [], ◌∷◌, ◌++◌, length, take, filter, slice_get, Bool, true, false, not, ◌&&◌, cond, eqb, Option, Some, None, refl, sym, ap, ◌∙◌, subst, inl, inr, arith}
use Rattle.std.proofs.lemmas.Bool.Decides.{eqb_tells}
use Rattle.std.proofs.lemmas.Bool.{or_from, ne_eqb, both_ways, or_parts}
use Rattle.std.proofs.lemmas.Option.{same_Some, none-some}
use Rattle.guest_ram.specs.Among.{is_among}
use Rattle.shadow_tables.specs.declared.calls.Call.TheVariants.{Fill, DropPage, DropDir, DropAll, Note, Written}
use Rattle.shadow_cache.specs.Past.{Past, begun, marked_at, unmarked, of_value, but_value, with_front, after_switch, after_call, pairs_after}
use Rattle.shadow_cache.specs.Away.{has_value, AreApart, is_of_value, leaves, IsPresent, OthersLeaveOrStay, PresentLeavesOrStays}
use Rattle.shadow_cache.specs.declared.call_lists.RootsCall.{RootsCall}
use Rattle.shadow_cache.specs.declared.call_lists.RootsCall.TheVariants.{Shared, Switch}
use Rattle.shadow_cache.proofs.Since.{pairs-more}
use Rattle.shadow_cache.proofs.Apart.{of-none, none-of, of-is, unmarked-apart, unmarked-few}
use Rattle.shadow_cache.proofs.Whole.{stale-value, pairs-apart, pairs-few}
use Rattle.shadow_cache.proofs.Gone.{filter-gone, front-gone, begins-by}
use Rattle.shadow_cache.proofs.Small.{not-first}

-- ---- the pair of a value

eqb-self : (v : ℕ) → eqb v v ≡ true
eqb-self v = elim (eqb_tells v v) [ inl t ↦ t.0 | inr t ↦ absurd (t.1 refl) ]

has-at : (qs : List Past) (i : ℕ) (p : Past) (v : ℕ) → slice_get qs i ≡ Some p → has_value v qs ≡ false → eqb p.value v ≡ false
has-at [] i p v e h = absurd (none-some p e)
has-at (q ∷ qs) zero p v e h = ap (λ (x : Past). eqb x.value v) (sym (same_Some q p e)) ∙ (or_parts (eqb q.value v) (has_value v qs) h).0
has-at (q ∷ qs) (suc i) p v e h = has-at qs i p v e (or_parts (eqb q.value v) (has_value v qs) h).1

eqb-swap : (a b : ℕ) → eqb a b ≡ false → eqb b a ≡ false
eqb-swap a b e = ne_eqb b a (λ s. (elim (eqb_tells a b) [ inl t ↦ both_ways (eqb a b) e t.0 | inr t ↦ t.1 (sym s) ]))

of-at : (qs : List Past) (i : ℕ) (p : Past) → slice_get qs i ≡ Some p → AreApart qs → of_value p.value qs ≡ Some p
of-at [] i p e a = absurd (none-some p e)
of-at (q ∷ qs) zero p e a =
    let s = same_Some q p e in
    ap (λ b. cond b (Some q) (of_value p.value qs)) (ap (λ (x : Past). eqb x.value p.value) s ∙ eqb-self p.value) ∙ ap (λ x. Some x) s
of-at (q ∷ qs) (suc i) p e a =
    ap (λ b. cond b (Some q) (of_value p.value qs)) (eqb-swap p.value q.value (has-at qs i p q.value e a.0)) ∙ of-at qs i p e a.1

of-first : (p : Past) (ps : List Past) → of_value p.value (p ∷ ps) ≡ Some p
of-first p ps = ap (λ b. cond b (Some p) (of_value p.value ps)) (eqb-self p.value)

of-rest : (w : ℕ) (q : Past) (ps : List Past) → eqb q.value w ≡ false → of_value w (q ∷ ps) ≡ of_value w ps
of-rest w q ps n = ap (λ b. cond b (Some q) (of_value w ps)) n

of-but : (w v : ℕ) (ps : List Past) → w ≢ v → of_value w (but_value v ps) ≡ of_value w ps
of-but w v [] n = refl
of-but w v (p ∷ ps) n =
    elim (eqb_tells p.value v) [
      | inl t ↦
          ap (λ b. of_value w (cond b ps (p ∷ but_value v ps))) t.0
          ∙ sym (of-rest w p ps (ne_eqb p.value w (λ s. n (sym s ∙ t.1))))
      | inr t ↦
          ap (λ b. of_value w (cond b ps (p ∷ but_value v ps))) t.0
          ∙ ap (λ x. cond (eqb p.value w) (Some p) x) (of-but w v ps n)
    ]

-- ---- the last of those that stay

of-some : (w : ℕ) (p q : Past) (ps : List Past) → eqb q.value w ≡ true → of_value w (q ∷ ps) ≡ Some p → q ≡ p
of-some w p q ps t e = same_Some q p (sym (ap (λ b. cond b (Some q) (of_value w ps)) t) ∙ e)

short-none : (w : ℕ) (ps : List Past) (p : Past) → length ps ≤ 0 → of_value w ps ≡ Some p → ⊥
short-none w [] p l e = none-some p e
short-none w (q ∷ ps) p l e = absurd (omega (arith, l))

of-take : (n w : ℕ) (ps : List Past) (p : Past) → of_value w ps ≡ Some p → length ps ≤ suc n → is_of_value w (slice_get ps n) ≡ false
    → of_value w (take n ps) ≡ Some p
of-take zero w [] p e l h = e
of-take zero w (q ∷ ps) p e l h =
    absurd (short-none w ps p (omega (arith, l)) (sym (of-rest w q ps h) ∙ e))
of-take (suc n) w [] p e l h = e
of-take (suc n) w (q ∷ ps) p e l h =
    elim (eqb_tells q.value w) [
      | inl t ↦ ap (λ b. cond b (Some q) (of_value w (take n ps))) t.0 ∙ ap (λ x. Some x) (of-some w p q ps t.0 e)
      | inr t ↦ of-rest w q (take n ps) t.0 ∙ of-take n w ps p (sym (of-rest w q ps t.0) ∙ e) (omega (arith, l)) h
    ]

-- one that stands further on has another value than the first
first-by : (o : Option Past) (w : ℕ) (q : Past) → is_of_value w o ≡ true → ((x : Past) → o ≡ Some x → eqb x.value q.value ≡ false)
    → eqb q.value w ≡ false
first-by None w q h n = cc
first-by (Some x) w q h n =
    elim (eqb_tells x.value w) [
      | inl t ↦ ap (eqb q.value) (sym t.1) ∙ eqb-swap x.value q.value (n x refl)
      | inr t ↦ absurd (both_ways (eqb x.value w) t.0 h)
    ]

first-other : (n w : ℕ) (q : Past) (ps : List Past) → has_value q.value ps ≡ false → is_of_value w (slice_get ps n) ≡ true
    → eqb q.value w ≡ false
first-other n w q ps a h = first-by (slice_get ps n) w q h (λ x e. has-at ps n x q.value e a)

last-goes : (n w : ℕ) (ps : List Past) → AreApart ps → is_of_value w (slice_get ps n) ≡ true → has_value w (take n ps) ≡ false
last-goes zero w ps a h = refl
last-goes (suc n) w [] a h = refl
last-goes (suc n) w (q ∷ ps) a h = or_from (eqb q.value w) (has_value w (take n ps)) (first-other n w q ps a.0 h) (last-goes n w ps a.1 h)

-- ---- those that a test lets stay

of-kept : (b : Bool) (w : ℕ) (p q : Past) (rest : List Past) → b ≡ true → q ≡ p → eqb q.value w ≡ true
    → of_value w (cond b (q ∷ rest) rest) ≡ Some p
of-kept true w p q rest e s t = ap (λ x. cond x (Some q) (of_value w rest)) t ∙ ap (λ x. Some x) s
of-kept false w p q rest e s t = cc

of-other : (b : Bool) (w : ℕ) (q : Past) (rest : List Past) → eqb q.value w ≡ false → of_value w (cond b (q ∷ rest) rest) ≡ of_value w rest
of-other true w q rest n = of-rest w q rest n
of-other false w q rest n = refl

of-filter : (t : Past → Bool) (w : ℕ) (ps : List Past) (p : Past) → t p ≡ true → of_value w ps ≡ Some p → of_value w (filter t ps) ≡ Some p
of-filter t w [] p k e = e
of-filter t w (q ∷ ps) p k e =
    elim (eqb_tells q.value w) [
      | inl x ↦ let s = of-some w p q ps x.0 e in of-kept (t q) w p q (filter t ps) (ap t s ∙ k) s x.0
      | inr x ↦ of-other (t q) w q (filter t ps) x.0 ∙ of-filter t w ps p k (sym (of-rest w q ps x.0) ∙ e)
    ]

-- ---- a load

both-false : (a b : Bool) → a ≡ false → (not a && b) ≡ b
both-false true b e = cc
both-false false b e = refl

module _ (v : ℕ) (p : Past) (ps : List Past) (a : AreApart ps) (few : length ps ≤ 8) (here : of_value p.value ps ≡ Some p) where
  goes-by : (o : Option Past) → of_value v ps ≡ o → (not (has_value v ps) && is_of_value p.value (slice_get ps 7)) ≡ true → p.value ≢ v
      → has_value p.value (with_front v ps o) ≡ false
  goes-by None e h n =
      or_from (eqb v p.value) (has_value p.value (take 7 ps)) (ne_eqb v p.value (λ s. n (sym s)))
      (last-goes 7 p.value ps a (sym (both-false (has_value v ps) (is_of_value p.value (slice_get ps 7)) (of-none v ps e)) ∙ h))
  goes-by (Some q) e h n =
      absurd (none-some q (sym (none-of v ps (not-first (has_value v ps) (is_of_value p.value (slice_get ps 7)) h)) ∙ e))

  stays-by : (o : Option Past) → of_value v ps ≡ o → (not (has_value v ps) && is_of_value p.value (slice_get ps 7)) ≡ false → p.value ≢ v
      → of_value p.value (with_front v ps o) ≡ Some p
  stays-by None e h n =
      of-rest p.value (begun v) (take 7 ps) (ne_eqb v p.value (λ s. n (sym s)))
      ∙ of-take 7 p.value ps p here few (sym (both-false (has_value v ps) (is_of_value p.value (slice_get ps 7)) (of-none v ps e)) ∙ h)
  stays-by (Some q) e h n =
      of-rest p.value q (but_value v ps) (ne_eqb q.value p.value (λ s. n (sym s ∙ of-is v ps q e)))
      ∙ of-but p.value v ps n ∙ here

  -- it has the value itself, or another
  its-own : p.value ≡ v → of_value v ps ≡ Some p
  its-own s = ap (λ x. of_value x ps) (sym s) ∙ here

  load-goes : (not (has_value v ps) && is_of_value p.value (slice_get ps 7)) ≡ true → has_value p.value (after_switch v ps) ≡ false
  load-goes h =
      elim (eqb_tells p.value v) [
        | inl t ↦ absurd (none-some p
            (sym (none-of v ps (not-first (has_value v ps) (is_of_value p.value (slice_get ps 7)) h)) ∙ its-own t.1))
        | inr t ↦ goes-by (of_value v ps) refl h t.1
      ]

  load-stays : (not (has_value v ps) && is_of_value p.value (slice_get ps 7)) ≡ false → of_value p.value (after_switch v ps) ≡ Some p
  load-stays h =
      elim (eqb_tells p.value v) [
        | inl t ↦ ap (λ o. of_value p.value (with_front v ps o)) (its-own t.1) ∙ of-first p (but_value v ps)
        | inr t ↦ stays-by (of_value v ps) refl h t.1
      ]

-- ---- the others

unmarked-of : (b : Bool) (w : ℕ) (p q : Past) (ps : List Past) → eqb q.value w ≡ false → of_value w ps ≡ Some p
    → of_value w (cond b ps (q ∷ ps)) ≡ Some p
unmarked-of true w p q ps n e = e
unmarked-of false w p q ps n e = of-rest w q ps n ∙ e

module _ (n : ℕ) (q : Past) (ps : List Past) (a : AreApart (q ∷ ps)) (few : length (q ∷ ps) ≤ 8) (i : ℕ) (p : Past)
    (at : slice_get ps i ≡ Some p) where
  other : eqb q.value p.value ≡ false
  other = eqb-swap p.value q.value (has-at ps i p q.value at a.0)

  here : of_value p.value ps ≡ Some p
  here = of-at ps i p at a.1

  stale-value-other : (frame : ℕ) → eqb (marked_at frame q).value p.value ≡ false
  stale-value-other frame = ap (λ x. eqb x p.value) (stale-value (is_among frame q.tables) frame q) ∙ other

  others-go : (c : RootsCall) → leaves c (q ∷ ps) p ≡ true → has_value p.value (after_call n c (q ∷ ps)) ≡ false
  others-go (Switch v) h =
      let xs : List Past = unmarked (q ∷ ps) in let f = unmarked-few (q ∷ ps) in
      load-goes v p xs (unmarked-apart (q ∷ ps) a) (omega (arith, f, few)) (unmarked-of q.stale p.value p q ps other here) h
  others-go (Shared (Fill side entry wp)) h = absurd (both_ways false refl h)
  others-go (Shared (DropPage page)) h = absurd (both_ways false refl h)
  others-go (Shared (DropDir index)) h = absurd (both_ways false refl h)
  others-go (Shared DropAll) h = or_from (eqb q.value p.value) false other refl
  others-go (Shared (Note frame)) h = absurd (both_ways false refl h)
  others-go (Shared (Written frame)) h =
      let t : Past → Bool = λ x. not (is_among frame x.tables) in
      or_from (eqb (marked_at frame q).value p.value) (has_value p.value (filter t ps)) (stale-value-other frame)
      (filter-gone p t ps (ap not h) a.1 (inr here))

  abbrev Here : List Past → Type 0
  Here qs = of_value p.value qs ≡ Some p

  changed : (x : Past) → x.value ≡ q.value → Here (x ∷ ps)
  changed x e = of-rest p.value x ps (ap (λ y. eqb y p.value) e ∙ other) ∙ here

  others-stay : (c : RootsCall) → leaves c (q ∷ ps) p ≡ false → of_value p.value (after_call n c (q ∷ ps)) ≡ Some p
  others-stay (Switch v) h =
      let xs : List Past = unmarked (q ∷ ps) in let f = unmarked-few (q ∷ ps) in
      load-stays v p xs (unmarked-apart (q ∷ ps) a) (omega (arith, f, few)) (unmarked-of q.stale p.value p q ps other here) h
  others-stay (Shared (Fill side entry wp)) h = changed _ refl
  others-stay (Shared (DropPage page)) h = changed _ refl
  others-stay (Shared (DropDir index)) h = changed _ refl
  others-stay (Shared DropAll) h = absurd (both_ways true h refl)
  others-stay (Shared (Note frame)) h = changed _ refl
  others-stay (Shared (Written frame)) h =
      let t : Past → Bool = λ x. not (is_among frame x.tables) in
      of-rest p.value (marked_at frame q) (filter t ps) (stale-value-other frame) ∙ of-filter t p.value ps p (ap not h) here

pub others-leave-or-stay : OthersLeaveOrStay
others-leave-or-stay value calls call present others i p e at =
    let a : AreApart (present ∷ others) = subst AreApart e (pairs-apart value calls) in
    let few : length (present ∷ others) ≤ 8 = subst (λ (ps : List Past). length ps ≤ 8) e (pairs-few value calls) in
    let same = pairs-more value calls call ∙ ap (after_call (length calls) call) e in (
      (λ h. ap (has_value p.value) same ∙ others-go (length calls) present others a few i p at call h),
      (λ h. ap (of_value p.value) same ∙ others-stay (length calls) present others a few i p at call h),
    )

-- ---- the present one

never : (a b : Bool) → b ≡ false → (not a && b) ≡ false
never true b e = refl
never false b e = e

not-of : (o : Option Past) (q : Past) → ((x : Past) → o ≡ Some x → eqb x.value q.value ≡ false) → is_of_value q.value o ≡ false
not-of None q n = refl
not-of (Some x) q n = n x refl

present-seventh : (v : ℕ) (q : Past) (ps : List Past) → AreApart (q ∷ ps)
    → (not (has_value v (q ∷ ps)) && is_of_value q.value (slice_get (q ∷ ps) 7)) ≡ false
present-seventh v q ps a =
    never (has_value v (q ∷ ps)) (is_of_value q.value (slice_get ps 6)) (not-of (slice_get ps 6) q (λ x e. has-at ps 6 x q.value e a.0))

pub present-leaves-or-stays : PresentLeavesOrStays
present-leaves-or-stays value calls v q ps e =
    let a : AreApart (q ∷ ps) = subst AreApart e (pairs-apart value calls) in
    let few : length (q ∷ ps) ≤ 8 = subst (λ (xs : List Past). length xs ≤ 8) e (pairs-few value calls) in
    let same : (w : ℕ) → pairs_after value (calls ++ Switch w ∷ []) ≡ after_switch w (cond q.stale ps (q ∷ ps)) =
    λ w. pairs-more value calls (Switch w) ∙ ap (after_call (length calls) (Switch w)) e
    in (
      (λ m n. ap (has_value q.value) (same v ∙ ap (λ b. after_switch v (cond b ps (q ∷ ps))) m) ∙ front-gone q.value v ps
          (of_value v ps) n refl a.0),
      (λ m. subst (IsPresent (begun q.value)) (sym (same q.value ∙ ap (λ b. after_switch q.value (cond b ps (q ∷ ps))) m))
          (begins-by q.value ps (of_value q.value ps) (none-of q.value ps a.0))),
      (λ m. ap (of_value q.value) (same v ∙ ap (λ b. after_switch v (cond b ps (q ∷ ps))) m)
          ∙ load-stays v q (q ∷ ps) a few (of-first q ps) (present-seventh v q ps a)),
    )
