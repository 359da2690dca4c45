-- The values of pairs.
use Rattle.std.proofs.Common.{◌≡◌, ℕ, zero, suc, ◌≤◌, List, [], ◌∷◌, length, take, filter, Bool, true, false, ◌||◌, cond, eqb, Option, Some, None, refl, sym, ap, ◌∙◌, subst, inl, inr, arith}
use Rattle.std.proofs.lemmas.Bool.Decides.{eqb_tells}
use Rattle.std.proofs.lemmas.List.{length-take}
use Rattle.std.proofs.lemmas.Bool.{or_from, or_parts}
use Rattle.std.proofs.lemmas.Option.{same_Some, none-some}
use Rattle.shadow_cache.specs.Past.{Past, unmarked, of_value, but_value, with_front, after_switch}
use Rattle.shadow_cache.specs.Away.{has_value, AreApart}

some-past : (a : Past) → Some a ≡ None → ⊥
some-past a e = cc

-- ---- one value

-- no pair has the value exactly where none is found
none-by : (b : Bool) (p : Past) (o : Option Past) (h : Bool) → cond b (Some p) o ≡ None → (o ≡ None → h ≡ false) → (b || h) ≡ false
none-by true p o h e f = absurd (some-past p e)
none-by false p o h e f = f e

pub of-none : (v : ℕ) (ps : List Past) → of_value v ps ≡ None → has_value v ps ≡ false
of-none v [] e = refl
of-none v (p ∷ ps) e = none-by (eqb p.value v) p (of_value v ps) (has_value v ps) e (of-none v ps)

pub none-of : (v : ℕ) (ps : List Past) → has_value v ps ≡ false → of_value v ps ≡ None
none-of v [] e = refl
none-of v (p ∷ ps) e =
    ap (λ b. cond b (Some p) (of_value v ps)) (or_parts (eqb p.value v) (has_value v ps) e).0
    ∙ none-of v ps (or_parts (eqb p.value v) (has_value v ps) e).1

pub of-is : (v : ℕ) (ps : List Past) (q : Past) → of_value v ps ≡ Some q → q.value ≡ v
of-is v [] q e = absurd (none-some q e)
of-is v (p ∷ ps) q e =
    elim (eqb_tells p.value v) [
      | inl t ↦ ap (λ (x : Past). x.value) (sym (same_Some p q (sym (ap (λ b. cond b (Some p) (of_value v ps)) t.0) ∙ e))) ∙ t.1
      | inr t ↦ of-is v ps q (sym (ap (λ b. cond b (Some p) (of_value v ps)) t.0) ∙ e)
    ]

-- ---- fewer pairs

cond-none : (b : Bool) (p : Past) (qs : List Past) (v : ℕ) → (eqb p.value v || has_value v qs) ≡ false
    → has_value v (cond b (p ∷ qs) qs) ≡ false
cond-none true p qs v e = e
cond-none false p qs v e = (or_parts (eqb p.value v) (has_value v qs) e).1

pub filter-none : (t : Past → Bool) (ps : List Past) (v : ℕ) → has_value v ps ≡ false → has_value v (filter t ps) ≡ false
filter-none t [] v e = refl
filter-none t (p ∷ ps) v e =
    cond-none (t p) p (filter t ps) v (or_from (eqb p.value v) (has_value v (filter t ps)) (or_parts (eqb p.value v) (has_value v ps) e).0
    (filter-none t ps v (or_parts (eqb p.value v) (has_value v ps) e).1))

pub take-none : (n : ℕ) (ps : List Past) (v : ℕ) → has_value v ps ≡ false → has_value v (take n ps) ≡ false
take-none zero ps v e = refl
take-none (suc n) [] v e = refl
take-none (suc n) (p ∷ ps) v e =
    or_from (eqb p.value v) (has_value v (take n ps)) (or_parts (eqb p.value v) (has_value v ps) e).0
    (take-none n ps v (or_parts (eqb p.value v) (has_value v ps) e).1)

pub but-none : (w : ℕ) (ps : List Past) (v : ℕ) → has_value v ps ≡ false → has_value v (but_value w ps) ≡ false
but-none w [] v e = refl
but-none w (p ∷ ps) v e =
    elim (eqb_tells p.value w) [
      | inl t ↦ ap (λ b. has_value v (cond b ps (p ∷ but_value w ps))) t.0 ∙ (or_parts (eqb p.value v) (has_value v ps) e).1
      | inr t ↦
          ap (λ b. has_value v (cond b ps (p ∷ but_value w ps))) t.0
          ∙ or_from (eqb p.value v) (has_value v (but_value w ps)) (or_parts (eqb p.value v) (has_value v ps) e).0
          (but-none w ps v (or_parts (eqb p.value v) (has_value v ps) e).1)
    ]

cond-apart : (b : Bool) (p : Past) (qs : List Past) → has_value p.value qs ≡ false → AreApart qs → AreApart (cond b (p ∷ qs) qs)
cond-apart true p qs e a = (e, a)
cond-apart false p qs e a = a

pub filter-apart : (t : Past → Bool) (ps : List Past) → AreApart ps → AreApart (filter t ps)
filter-apart t [] a = tt
filter-apart t (p ∷ ps) a = cond-apart (t p) p (filter t ps) (filter-none t ps p.value a.0) (filter-apart t ps a.1)

pub take-apart : (n : ℕ) (ps : List Past) → AreApart ps → AreApart (take n ps)
take-apart zero ps a = tt
take-apart (suc n) [] a = tt
take-apart (suc n) (p ∷ ps) a = (take-none n ps p.value a.0, take-apart n ps a.1)

pub but-apart : (v : ℕ) (ps : List Past) → AreApart ps → AreApart (but_value v ps)
but-apart v [] a = tt
but-apart v (p ∷ ps) a =
    elim (eqb_tells p.value v) [
      | inl t ↦ subst (λ b. AreApart (cond b ps (p ∷ but_value v ps))) (sym t.0) a.1
      | inr t ↦ subst (λ b. AreApart (cond b ps (p ∷ but_value v ps))) (sym t.0) (but-none v ps p.value a.0, but-apart v ps a.1)
    ]

-- without its pair none has the value
pub but-gone : (v : ℕ) (ps : List Past) → AreApart ps → has_value v (but_value v ps) ≡ false
but-gone v [] a = refl
but-gone v (p ∷ ps) a =
    elim (eqb_tells p.value v) [
      | inl t ↦ ap (λ b. has_value v (cond b ps (p ∷ but_value v ps))) t.0 ∙ ap (λ x. has_value x ps) (sym t.1) ∙ a.0
      | inr t ↦ ap (λ b. has_value v (cond b ps (p ∷ but_value v ps))) t.0 ∙ or_from (eqb p.value v) (has_value v (but_value v ps))
          t.0 (but-gone v ps a.1)
    ]

unmarked-apart-by : (b : Bool) (p : Past) (ps : List Past) → AreApart (p ∷ ps) → AreApart (cond b ps (p ∷ ps))
unmarked-apart-by true p ps a = a.1
unmarked-apart-by false p ps a = a

pub unmarked-apart : (ps : List Past) → AreApart ps → AreApart (unmarked ps)
unmarked-apart [] a = tt
unmarked-apart (p ∷ ps) a = unmarked-apart-by p.stale p ps a

front-apart : (v : ℕ) (ps : List Past) (o : Option Past) → of_value v ps ≡ o → AreApart ps → AreApart (with_front v ps o)
front-apart v ps None e a = (take-none 7 ps v (of-none v ps e), take-apart 7 ps a)
front-apart v ps (Some q) e a = (ap (λ x. has_value x (but_value v ps)) (of-is v ps q e) ∙ but-gone v ps a, but-apart v ps a)

pub switch-apart : (v : ℕ) (ps : List Past) → AreApart ps → AreApart (after_switch v ps)
switch-apart v ps a = front-apart v ps (of_value v ps) refl a

-- ---- how many

cond-few : (b : Bool) (p : Past) (qs : List Past) (n : ℕ) → length qs ≤ n → length (cond b (p ∷ qs) qs) ≤ suc n
cond-few true p qs n l = omega (arith, l)
cond-few false p qs n l = omega (arith, l)

pub filter-few : (t : Past → Bool) (ps : List Past) → length (filter t ps) ≤ length ps
filter-few t [] = omega arith
filter-few t (p ∷ ps) = cond-few (t p) p (filter t ps) (length ps) (filter-few t ps)

but-few : (v : ℕ) (ps : List Past) (q : Past) → of_value v ps ≡ Some q → suc (length (but_value v ps)) ≡ length ps
but-few v [] q e = absurd (none-some q e)
but-few v (p ∷ ps) q e =
    elim (eqb_tells p.value v) [
      | inl t ↦ ap (λ b. suc (length (cond b ps (p ∷ but_value v ps)))) t.0
      | inr t ↦
          ap (λ b. suc (length (cond b ps (p ∷ but_value v ps)))) t.0
          ∙ ap suc (but-few v ps q (sym (ap (λ b. cond b (Some p) (of_value v ps)) t.0) ∙ e))
    ]

front-few : (v : ℕ) (ps : List Past) (o : Option Past) → of_value v ps ≡ o → length ps ≤ 8 → length (with_front v ps o) ≤ 8
front-few v ps None e l = let t = length-take 7 ps in omega (arith, t)
front-few v ps (Some q) e l = let t = but-few v ps q e in omega (arith, t, l)

pub switch-few : (v : ℕ) (ps : List Past) → length ps ≤ 8 → length (after_switch v ps) ≤ 8
switch-few v ps l = front-few v ps (of_value v ps) refl l

unmarked-few-by : (b : Bool) (p : Past) (ps : List Past) → length (cond b ps (p ∷ ps)) ≤ length (p ∷ ps)
unmarked-few-by true p ps = omega arith
unmarked-few-by false p ps = omega arith

pub unmarked-few : (ps : List Past) → length (unmarked ps) ≤ length ps
unmarked-few [] = omega arith
unmarked-few (p ∷ ps) = unmarked-few-by p.stale p ps
