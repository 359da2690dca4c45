-- A pair that isn't the present one, until it comes back.
use Rattle.std.proofs.Common.{◌≡◌, ◌≢◌, ℕ, zero, suc, ◌+◌, ◌-◌, ◌<◌, ◌≤◌, List, [], ◌∷◌, ◌++◌, length, take, filter, Bool, true, false, not, ◌||◌, cond, eqb, Option, Some, None, refl, sym, ap, ◌∙◌, subst, inl, inr, arith}
use Rattle.std.proofs.lemmas.Bool.Decides.{eqb_tells}
use Rattle.guest_ram.specs.Among.{is_among}
use Rattle.shadow_tables.specs.declared.calls.Call.{Call}
use Rattle.shadow_tables.specs.declared.calls.Call.TheVariants.{Fill, DropPage, DropDir, DropAll, Note, Written}
use Rattle.shadow_cache.specs.Past.{Past, begun, all_but, marked_at, unmarked, of_value, but_value, with_front, after_switch, after_shared, after_call, after_calls, pairs_after}
use Rattle.shadow_cache.specs.Away.{has_value, AreApart, LeavesBe, AllLeaveBe, LoadsAmong, IsPresent, PairsComeBack}
use Rattle.shadow_cache.specs.declared.call_lists.RootsCall.{RootsCall}
use Rattle.shadow_cache.specs.declared.call_lists.RootsCall.TheVariants.{Shared, Switch}
use Rattle.shadow_cache.proofs.Since.{pairs-more, pairs-join, calls-cons, calls-none}
use Rattle.shadow_cache.proofs.Tabled.{all-but-other}
use Rattle.shadow_cache.proofs.Apart.{of-none, of-is, filter-none, filter-apart, but-apart, but-gone}
use Rattle.std.proofs.lemmas.Bool.{false≢true, or_from, or_parts}
use Rattle.shadow_cache.proofs.Whole.{stale-value}

-- ---- the pairs before it

-- each has a value that was loaded, and not that of the pair
abbrev Fronts : Past → List ℕ → List Past → Type 0
Fronts p vs [] = Unit {0}
Fronts p vs (q ∷ qs) = (is_among q.value vs ≡ true) × (eqb q.value p.value ≡ false) × Fronts p vs qs

but-shorter : (v : ℕ) (vs : List ℕ) → length (all_but v vs) ≤ length vs
but-shorter v [] = omega arith
but-shorter v (w ∷ ws) =
    let r = but-shorter v ws in
    elim (eqb_tells v w) [
      | inl t ↦ let e = ap (λ b. length (cond b (all_but v ws) (w ∷ all_but v ws))) t.0 in omega (arith, e, r)
      | inr t ↦ let e = ap (λ b. length (cond b (all_but v ws) (w ∷ all_but v ws))) t.0 in omega (arith, e, r)
    ]

but-short : (v : ℕ) (vs : List ℕ) → is_among v vs ≡ true → length (all_but v vs) + 1 ≤ length vs
but-short v [] m = cc
but-short v (w ∷ ws) m =
    elim (eqb_tells v w) [
      | inl t ↦ let e = ap (λ b. length (cond b (all_but v ws) (w ∷ all_but v ws))) t.0 in let r = but-shorter v ws in omega (arith, e, r)
      | inr t ↦
          let e = ap (λ b. length (cond b (all_but v ws) (w ∷ all_but v ws))) t.0 in
          let r = but-short v ws (sym (ap (λ b. b || is_among v ws) t.0) ∙ m) in omega (arith, e, r)
    ]

value-other : (q : Past) (v : ℕ) → eqb q.value v ≡ false → (q.value ≡ v → ⊥)
value-other q v e s = elim (eqb_tells q.value v) [ inl t ↦ false≢true (sym e ∙ t.0) | inr t ↦ t.1 s ]

fronts-but : (p : Past) (v : ℕ) (vs : List ℕ) (qs : List Past) → has_value v qs ≡ false → Fronts p vs qs → Fronts p (all_but v vs) qs
fronts-but p v vs [] e f = tt
fronts-but p v vs (q ∷ qs) e f = (
  all-but-other q.value v vs (value-other q v (or_parts (eqb q.value v) (has_value v qs) e).0) ∙ f.0,
  f.1,
  fronts-but p v vs qs (or_parts (eqb q.value v) (has_value v qs) e).1 f.2,
)

fronts-few : (p : Past) (vs : List ℕ) (qs : List Past) → AreApart qs → Fronts p vs qs → length qs ≤ length vs
fronts-few p vs [] a f = omega arith
fronts-few p vs (q ∷ qs) a f =
    let r = fronts-few p (all_but q.value vs) qs a.1 (fronts-but p q.value vs qs a.0 f.2) in
    let s = but-short q.value vs f.0 in omega (arith, r, s)

one-fronts : (p : Past) (vs : List ℕ) (b : Bool) (q : Past) (qs : List Past) → is_among q.value vs ≡ true → eqb q.value p.value ≡ false
    → Fronts p vs qs → Fronts p vs (cond b (q ∷ qs) qs)
one-fronts p vs true q qs x y f = (x, y, f)
one-fronts p vs false q qs x y f = f

filter-fronts : (p : Past) (vs : List ℕ) (t : Past → Bool) (qs : List Past) → Fronts p vs qs → Fronts p vs (filter t qs)
filter-fronts p vs t [] f = tt
filter-fronts p vs t (q ∷ qs) f = one-fronts p vs (t q) q (filter t qs) f.0 f.1 (filter-fronts p vs t qs f.2)

but-fronts : (p : Past) (vs : List ℕ) (v : ℕ) (qs : List Past) → Fronts p vs qs → Fronts p vs (but_value v qs)
but-fronts p vs v [] f = tt
but-fronts p vs v (q ∷ qs) f =
    elim (eqb_tells q.value v) [
      | inl t ↦ subst (λ b. Fronts p vs (cond b qs (q ∷ but_value v qs))) (sym t.0) f.2
      | inr t ↦ subst (λ b. Fronts p vs (cond b qs (q ∷ but_value v qs))) (sym t.0) (f.0, f.1, but-fronts p vs v qs f.2)
    ]

fronts-none : (p : Past) (vs : List ℕ) (qs : List Past) → Fronts p vs qs → has_value p.value qs ≡ false
fronts-none p vs [] f = refl
fronts-none p vs (q ∷ qs) f = or_from (eqb q.value p.value) (has_value p.value qs) f.1 (fronts-none p vs qs f.2)

-- ---- lists in which it stands after some

of-front : (v : ℕ) (fs ps : List Past) (q : Past) → of_value v fs ≡ Some q → of_value v (fs ++ ps) ≡ Some q
of-front v [] ps q e = cc
of-front v (f ∷ fs) ps q e =
    elim (eqb_tells f.value v) [
      | inl t ↦ ap (λ b. cond b (Some f) (of_value v (fs ++ ps))) t.0 ∙ sym (ap (λ b. cond b (Some f) (of_value v fs)) t.0) ∙ e
      | inr t ↦
          ap (λ b. cond b (Some f) (of_value v (fs ++ ps))) t.0
          ∙ of-front v fs ps q (sym (ap (λ b. cond b (Some f) (of_value v fs)) t.0) ∙ e)
    ]

but-front : (v : ℕ) (fs ps : List Past) (q : Past) → of_value v fs ≡ Some q → but_value v (fs ++ ps) ≡ but_value v fs ++ ps
but-front v [] ps q e = cc
but-front v (f ∷ fs) ps q e =
    elim (eqb_tells f.value v) [
      | inl t ↦
          ap (λ b. cond b (fs ++ ps) (f ∷ but_value v (fs ++ ps))) t.0
          ∙ sym (ap (λ b. cond b fs (f ∷ but_value v fs) ++ ps) t.0)
      | inr t ↦
          ap (λ b. cond b (fs ++ ps) (f ∷ but_value v (fs ++ ps))) t.0
          ∙ ap (λ (xs : List Past). f ∷ xs) (but-front v fs ps q (sym (ap (λ b. cond b (Some f) (of_value v fs)) t.0) ∙ e))
          ∙ sym (ap (λ b. cond b fs (f ∷ but_value v fs) ++ ps) t.0)
    ]

of-behind : (v : ℕ) (fs ps : List Past) → has_value v fs ≡ false → of_value v (fs ++ ps) ≡ of_value v ps
of-behind v [] ps e = refl
of-behind v (f ∷ fs) ps e =
    ap (λ b. cond b (Some f) (of_value v (fs ++ ps))) (or_parts (eqb f.value v) (has_value v fs) e).0
    ∙ of-behind v fs ps (or_parts (eqb f.value v) (has_value v fs) e).1

but-behind : (v : ℕ) (fs ps : List Past) → has_value v fs ≡ false → but_value v (fs ++ ps) ≡ fs ++ but_value v ps
but-behind v [] ps e = refl
but-behind v (f ∷ fs) ps e =
    ap (λ b. cond b (fs ++ ps) (f ∷ but_value v (fs ++ ps))) (or_parts (eqb f.value v) (has_value v fs) e).0
    ∙ ap (λ (xs : List Past). f ∷ xs) (but-behind v fs ps (or_parts (eqb f.value v) (has_value v fs) e).1)

take-behind : (n : ℕ) (fs : List Past) (p : Past) (ps : List Past) → length fs < n → take n (fs ++ p ∷ ps) ≡ fs
    ++ p ∷ take (n - suc (length fs)) ps
take-behind zero fs p ps l = absurd (omega (arith, l))
take-behind (suc n) [] p ps l = ap (λ k. p ∷ take k ps) (let e : n ≡ suc n - 1 = omega arith in e)
take-behind (suc n) (f ∷ fs) p ps l =
    ap (λ (xs : List Past). f ∷ xs) (take-behind n fs p ps (omega (arith, l)))
    ∙ ap (λ k. f ∷ (fs ++ p ∷ take k ps)) (let e : n - suc (length fs) ≡ suc n - suc (suc (length fs)) = omega arith in e)

one-behind : (b : Bool) (f : Past) (fs ps : List Past) → cond b (f ∷ (fs ++ ps)) (fs ++ ps) ≡ cond b (f ∷ fs) fs ++ ps
one-behind true f fs ps = refl
one-behind false f fs ps = refl

filter-behind : (t : Past → Bool) (fs : List Past) (p : Past) (ps : List Past) → t p ≡ true
    → filter t (fs ++ p ∷ ps) ≡ filter t fs ++ p ∷ filter t ps
filter-behind t [] p ps e = ap (λ b. cond b (p ∷ filter t ps) (filter t ps)) e
filter-behind t (f ∷ fs) p ps e =
    ap (λ (xs : List Past). cond (t f) (f ∷ xs) xs) (filter-behind t fs p ps e) ∙ one-behind (t f) f (filter t fs) (p ∷ filter t ps)

-- ---- away

record Away (p : Past) (vs : List ℕ) (ps : List Past) : Type 0 where
  first : Past
  more : List Past
  rest : List Past
  place : ps ≡ (first ∷ more) ++ p ∷ rest
  apart : AreApart (first ∷ more)
  fronts : Fronts p vs (first ∷ more)

-- a load of another value, where the present pair stays or has left
module _ (p : Past) (vs : List ℕ) (few : length vs ≤ 7) (v : ℕ) (among : is_among v vs ≡ true) (other : p.value ≢ v) (fs rest : List Past)
    (a : AreApart fs) (f : Fronts p vs fs) where
  not-it : eqb p.value v ≡ false
  not-it = elim (eqb_tells p.value v) [ inl t ↦ absurd (other t.1) | inr t ↦ t.0 ]

  it-not : eqb v p.value ≡ false
  it-not = elim (eqb_tells v p.value) [ inl t ↦ absurd (other (sym t.1)) | inr t ↦ t.0 ]

  -- of the pairs before it
  from-front : (q : Past) → of_value v fs ≡ Some q → Away p vs (after_switch v (fs ++ p ∷ rest))
  from-front q e =
      let is = of-is v fs q e in
      record {
        first = q;
        more = but_value v fs;
        rest = rest;
        place = ap (with_front v (fs ++ p ∷ rest)) (of-front v fs (p ∷ rest) q e)
            ∙ ap (λ (xs : List Past). q ∷ xs) (but-front v fs (p ∷ rest) q e);
        apart = (ap (λ x. has_value x (but_value v fs)) is ∙ but-gone v fs a, but-apart v fs a);
        fronts = (ap (λ x. is_among x vs) is ∙ among, ap (λ x. eqb x p.value) is ∙ it-not, but-fronts p vs v fs f);
      }

  behind : has_value v fs ≡ false → of_value v (fs ++ p ∷ rest) ≡ of_value v rest
  behind n = of-behind v fs (p ∷ rest) n ∙ ap (λ b. cond b (Some p) (of_value v rest)) not-it

  -- of those after it
  from-rest : has_value v fs ≡ false → (q : Past) → of_value v rest ≡ Some q → Away p vs (after_switch v (fs ++ p ∷ rest))
  from-rest n q e =
      let is = of-is v rest q e in
      record {
        first = q;
        more = fs;
        rest = but_value v rest;
        place = ap (with_front v (fs ++ p ∷ rest)) (behind n ∙ e)
            ∙ ap (λ (xs : List Past). q ∷ xs) (but-behind v fs (p ∷ rest) n ∙ ap (λ b. fs ++ cond b rest (p ∷ but_value v rest)) not-it);
        apart = (ap (λ x. has_value x fs) is ∙ n, a);
        fronts = (ap (λ x. is_among x vs) is ∙ among, ap (λ x. eqb x p.value) is ∙ it-not, f);
      }

  -- a new one, for which it isn't the ninth
  from-none : has_value v fs ≡ false → of_value v rest ≡ None → Away p vs (after_switch v (fs ++ p ∷ rest))
  from-none n e =
      let most = fronts-few p vs (begun v ∷ fs) (n, a) (among, it-not, f) in
      record {
        first = begun v;
        more = fs;
        rest = take (7 - suc (length fs)) rest;
        place = ap (with_front v (fs ++ p ∷ rest)) (behind n ∙ e)
            ∙ ap (λ (xs : List Past). begun v ∷ xs) (take-behind 7 fs p rest (omega (arith, few, most)));
        apart = (n, a);
        fronts = (among, it-not, f);
      }

  not-front : (o : Option Past) → of_value v rest ≡ o → of_value v fs ≡ None → Away p vs (after_switch v (fs ++ p ∷ rest))
  not-front None e n = from-none (of-none v fs n) e
  not-front (Some q) e n = from-rest (of-none v fs n) q e

  by-front : (o : Option Past) → of_value v fs ≡ o → Away p vs (after_switch v (fs ++ p ∷ rest))
  by-front None e = not-front (of_value v rest) refl e
  by-front (Some q) e = from-front q e

  load-away : Away p vs (after_switch v (fs ++ p ∷ rest))
  load-away = by-front (of_value v fs) refl

-- where the present pair stands before it
unmarked-away : (P : List Past → Type 0) (b : Bool) (q : Past) (qs : List Past) → P qs → P (q ∷ qs) → P (cond b qs (q ∷ qs))
unmarked-away P true q qs x y = x
unmarked-away P false q qs x y = y

switch-away : (p : Past) (vs : List ℕ) (n v : ℕ) (ps : List Past) → length vs ≤ 7 → is_among v vs ≡ true → p.value ≢ v → Away p vs ps
    → Away p vs (after_call n (Switch v) ps)
switch-away p vs n v ps few among other w =
    subst (λ (xs : List Past). Away p vs (after_switch v (unmarked xs))) (sym w.place)
    (unmarked-away (λ (xs : List Past). Away p vs (after_switch v xs)) w.first.stale w.first (w.more ++ p ∷ w.rest)
    (load-away p vs few v among other w.more w.rest w.apart.1 w.fronts.2)
    (load-away p vs few v among other (w.first ∷ w.more) w.rest w.apart w.fronts))

leave-away : (p : Past) (vs : List ℕ) (n v : ℕ) (ps : List Past) → length vs ≤ 7 → is_among v vs ≡ true → p.value ≢ v → p.stale ≡ false
    → IsPresent p ps → Away p vs (after_call n (Switch v) ps)
leave-away p vs n v ps few among other u i =
    subst (λ (xs : List Past). Away p vs (after_switch v (unmarked xs))) (sym i.first)
    (subst (λ b. Away p vs (after_switch v (cond b i.others (p ∷ i.others)))) (sym u)
    (load-away p vs few v among other [] i.others tt tt))

-- another pair in the place of the present one, of its value
away-instead : (p : Past) (vs : List ℕ) (ps : List Past) (w : Away p vs ps) (q : Past) → q.value ≡ w.first.value
    → Away p vs (q ∷ (w.more ++ p ∷ w.rest))
away-instead p vs ps w q e =
    record {
      first = q;
      more = w.more;
      rest = w.rest;
      place = refl;
      apart = (ap (λ x. has_value x w.more) e ∙ w.apart.0, w.apart.1);
      fronts = (ap (λ x. is_among x vs) e ∙ w.fronts.0, ap (λ x. eqb x p.value) e ∙ w.fronts.1, w.fronts.2);
    }

written-away : (p : Past) (vs : List ℕ) (n frame : ℕ) (ps : List Past) → is_among frame p.tables ≡ false → Away p vs ps
    → Away p vs (after_shared n (Written frame) ps)
written-away p vs n frame ps l w =
    let t : Past → Bool = λ q. not (is_among frame q.tables) in
    let q : Past = marked_at frame w.first in
    let e : q.value ≡ w.first.value = stale-value (is_among frame w.first.tables) frame w.first in
    subst (λ (xs : List Past). Away p vs (after_shared n (Written frame) xs)) (sym w.place) (record {
      first = q;
      more = filter t w.more;
      rest = filter t w.rest;
      place = ap (λ (xs : List Past). q ∷ xs) (filter-behind t w.more p w.rest (ap not l));
      apart = (ap (λ x. has_value x (filter t w.more)) e ∙ filter-none t w.more w.first.value w.apart.0, filter-apart t w.more w.apart.1);
      fronts = (ap (λ x. is_among x vs) e ∙ w.fronts.0, ap (λ x. eqb x p.value) e ∙ w.fronts.1, filter-fronts p vs t w.more w.fronts.2);
    })

shared-away : (p : Past) (vs : List ℕ) (n : ℕ) (c : Call) (ps : List Past) → LeavesBe p (Shared c) → Away p vs ps
    → Away p vs (after_shared n c ps)
shared-away p vs n (Fill side entry wp) ps l w =
    subst (λ (xs : List Past). Away p vs (after_shared n (Fill side entry wp) xs)) (sym w.place) (away-instead p vs ps w _ refl)
shared-away p vs n (DropPage page) ps l w =
    subst (λ (xs : List Past). Away p vs (after_shared n (DropPage page) xs)) (sym w.place) (away-instead p vs ps w _ refl)
shared-away p vs n (DropDir index) ps l w =
    subst (λ (xs : List Past). Away p vs (after_shared n (DropDir index) xs)) (sym w.place) (away-instead p vs ps w _ refl)
shared-away p vs n DropAll ps l w = absurd l
shared-away p vs n (Note frame) ps l w =
    subst (λ (xs : List Past). Away p vs (after_shared n (Note frame) xs)) (sym w.place) (away-instead p vs ps w _ refl)
shared-away p vs n (Written frame) ps l w = written-away p vs n frame ps l w

calls-away : (p : Past) (vs : List ℕ) (n : ℕ) (cs : List RootsCall) (ps : List Past) → length vs ≤ 7 → AllLeaveBe p cs → LoadsAmong vs cs
    → Away p vs ps → Away p vs (after_calls n cs ps)
calls-away p vs n [] ps few l m w = subst (Away p vs) (sym (calls-none n ps)) w
calls-away p vs n (Shared c ∷ cs) ps few l m w =
    subst (Away p vs) (sym (calls-cons n (Shared c) cs ps))
    (calls-away p vs (suc n) cs (after_shared n c ps) few l.1 m (shared-away p vs n c ps l.0 w))
calls-away p vs n (Switch v ∷ cs) ps few l m w =
    subst (Away p vs) (sym (calls-cons n (Switch v) cs ps))
    (calls-away p vs (suc n) cs (after_call n (Switch v) ps) few l.1 m.1 (switch-away p vs n v ps few m.0 l.0 w))

-- ---- and back

back : (p : Past) (vs : List ℕ) (fs rest : List Past) → Fronts p vs fs → IsPresent p (after_switch p.value (fs ++ p ∷ rest))
back p vs fs rest f =
    let here : eqb p.value p.value ≡ true = elim (eqb_tells p.value p.value) [ inl t ↦ t.0 | inr t ↦ absurd (t.1 refl) ] in
    record {
      others = but_value p.value (fs ++ p ∷ rest);
      first = ap (with_front p.value (fs ++ p ∷ rest))
          (of-behind p.value fs (p ∷ rest) (fronts-none p vs fs f) ∙ ap (λ b. cond b (Some p) (of_value p.value rest)) here);
    }

away-back : (p : Past) (vs : List ℕ) (n : ℕ) (ps : List Past) → Away p vs ps → IsPresent p (after_call n (Switch p.value) ps)
away-back p vs n ps w =
    subst (λ (xs : List Past). IsPresent p (after_switch p.value (unmarked xs))) (sym w.place)
    (unmarked-away (λ (xs : List Past). IsPresent p (after_switch p.value xs)) w.first.stale w.first (w.more ++ p ∷ w.rest)
    (back p vs w.more w.rest w.fronts.2)
    (back p vs (w.first ∷ w.more) w.rest w.fronts))

pub pairs-come_back : PairsComeBack
pairs-come_back value other before away vs p i u l m few =
    let n : ℕ = 0 + length before in
    let start = leave-away p vs n other (pairs_after value before) few m.0 l.0 u i in
    let gone = calls-away p vs (suc n) away (after_call n (Switch other) (pairs_after value before)) few l.1 m.1 start in
    let there =
    subst (Away p vs) (sym (pairs-join value before (Switch other ∷ away) ∙ calls-cons n (Switch other) away (pairs_after value before)))
    gone in
    subst (IsPresent p) (sym (pairs-more value (before ++ Switch other ∷ away) (Switch p.value)))
    (away-back p vs (length (before ++ Switch other ∷ away)) (pairs_after value (before ++ Switch other ∷ away)) there)
