-- What holds of the pairs after every list of calls.
use Rattle.std.proofs.Common.{◌≡◌, ℕ, suc, ◌≤◌, List, [], ◌∷◌, length, filter, Bool, true, false, not, cond, Option, Some, None, refl, sym, ap, ◌∙◌, subst, arith}
use Rattle.guest_ram.specs.Among.{is_among}
use Rattle.shadow_tables.specs.declared.calls.Call.{Call}
use Rattle.shadow_tables.specs.declared.calls.Call.TheVariants.{Fill, DropPage, DropDir, DropAll, Note, Written}
use Rattle.shadow_cache.specs.Past.{Past, begun, all_but, unmarked, of_value, with_front, after_switch, after_shared, after_call, after_calls, pairs_after}
use Rattle.shadow_cache.specs.Away.{AreApart, has_value, loaded, present_value}
use Rattle.shadow_cache.specs.declared.call_lists.RootsCall.{RootsCall}
use Rattle.shadow_cache.specs.declared.call_lists.RootsCall.TheVariants.{Shared, Switch}
use Rattle.shadow_cache.proofs.Since.{calls-none, calls-cons, pairs-are}
use Rattle.shadow_cache.proofs.Apart.{of-is, filter-none, filter-apart, unmarked-apart, switch-apart, filter-few, switch-few, unmarked-few}

pub calls-keep : (P : List Past → Type 0) → ((n : ℕ) (c : RootsCall) (ps : List Past) → P ps → P (after_call n c ps))
    → (n : ℕ) (cs : List RootsCall) (ps : List Past) → P ps → P (after_calls n cs ps)
calls-keep P h n [] ps p = subst P (sym (calls-none n ps)) p
calls-keep P h n (c ∷ cs) ps p = subst P (sym (calls-cons n c cs ps)) (calls-keep P h (suc n) cs (after_call n c ps) (h n c ps p))

-- ---- no two have one value

pub stale-value : (b : Bool) (frame : ℕ) (q : Past)
    → (cond b (record q { tables = all_but frame q.tables; stale = true }) q).value ≡ q.value
stale-value true frame q = refl
stale-value false frame q = refl

shared-apart : (n : ℕ) (c : Call) (ps : List Past) → AreApart ps → AreApart (after_shared n c ps)
shared-apart n c [] a = a
shared-apart n (Fill side entry wp) (p ∷ ps) a = a
shared-apart n (DropPage page) (p ∷ ps) a = a
shared-apart n (DropDir index) (p ∷ ps) a = a
shared-apart n DropAll (p ∷ ps) a = (refl, tt)
shared-apart n (Note frame) (p ∷ ps) a = a
shared-apart n (Written frame) (p ∷ ps) a =
    let t : Past → Bool = λ q. not (is_among frame q.tables) in (
      ap (λ x. has_value x (filter t ps)) (stale-value (is_among frame p.tables) frame p) ∙ filter-none t ps p.value a.0,
      filter-apart t ps a.1,
    )

pub call-apart : (n : ℕ) (c : RootsCall) (ps : List Past) → AreApart ps → AreApart (after_call n c ps)
call-apart n (Shared c) ps a = shared-apart n c ps a
call-apart n (Switch v) ps a = switch-apart v (unmarked ps) (unmarked-apart ps a)

pub pairs-apart : (v : ℕ) (cs : List RootsCall) → AreApart (pairs_after v cs)
pairs-apart v cs = subst AreApart (sym (pairs-are v cs)) (calls-keep AreApart call-apart 0 cs (begun v ∷ []) (refl, tt))

-- ---- at most 8

shared-few : (n : ℕ) (c : Call) (ps : List Past) → length ps ≤ 8 → length (after_shared n c ps) ≤ 8
shared-few n c [] l = l
shared-few n (Fill side entry wp) (p ∷ ps) l = l
shared-few n (DropPage page) (p ∷ ps) l = l
shared-few n (DropDir index) (p ∷ ps) l = l
shared-few n DropAll (p ∷ ps) l = omega arith
shared-few n (Note frame) (p ∷ ps) l = l
shared-few n (Written frame) (p ∷ ps) l = let e = filter-few (λ (q : Past). not (is_among frame q.tables)) ps in omega (arith, e, l)

call-few : (n : ℕ) (c : RootsCall) (ps : List Past) → length ps ≤ 8 → length (after_call n c ps) ≤ 8
call-few n (Shared c) ps l = shared-few n c ps l
call-few n (Switch v) ps l = switch-few v (unmarked ps) (let e = unmarked-few ps in omega (arith, e, l))

pub pairs-few : (v : ℕ) (cs : List RootsCall) → length (pairs_after v cs) ≤ 8
pairs-few v cs = subst (λ (ps : List Past). length ps ≤ 8) (sym (pairs-are v cs))
    (calls-keep (λ (ps : List Past). length ps ≤ 8) call-few 0 cs (begun v ∷ []) (omega arith))

-- ---- the present one

shared-present : (n : ℕ) (c : Call) (ps : List Past) (v : ℕ) → present_value ps ≡ Some v → present_value (after_shared n c ps) ≡ Some v
shared-present n c [] v e = e
shared-present n (Fill side entry wp) (p ∷ ps) v e = e
shared-present n (DropPage page) (p ∷ ps) v e = e
shared-present n (DropDir index) (p ∷ ps) v e = e
shared-present n DropAll (p ∷ ps) v e = e
shared-present n (Note frame) (p ∷ ps) v e = e
shared-present n (Written frame) (p ∷ ps) v e = ap (λ x. Some x) (stale-value (is_among frame p.tables) frame p) ∙ e

front-present : (v : ℕ) (ps : List Past) (o : Option Past) → of_value v ps ≡ o → present_value (with_front v ps o) ≡ Some v
front-present v ps None e = refl
front-present v ps (Some q) e = ap (λ x. Some x) (of-is v ps q e)

calls-present : (n : ℕ) (cs : List RootsCall) (ps : List Past) (v : ℕ) → present_value ps ≡ Some v
    → present_value (after_calls n cs ps) ≡ Some (loaded v cs)
calls-present n [] ps v e = ap present_value (calls-none n ps) ∙ e
calls-present n (Shared c ∷ cs) ps v e =
    ap present_value (calls-cons n (Shared c) cs ps) ∙ calls-present (suc n) cs (after_shared n c ps) v (shared-present n c ps v e)
calls-present n (Switch w ∷ cs) ps v e =
    ap present_value (calls-cons n (Switch w) cs ps)
    ∙ calls-present (suc n) cs (after_switch w (unmarked ps)) w (front-present w (unmarked ps) (of_value w (unmarked ps)) refl)

pub pairs-present : (v : ℕ) (cs : List RootsCall) → present_value (pairs_after v cs) ≡ Some (loaded v cs)
pairs-present v cs = ap present_value (pairs-are v cs) ∙ calls-present 0 cs (begun v ∷ []) v refl
