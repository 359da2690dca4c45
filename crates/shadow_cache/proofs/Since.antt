-- One call more: the pairs then, and the frames that have been tables since.
use Rattle.std.proofs.Common.{◌≡◌, ℕ, suc, ◌+◌, ◌≤◌, List, [], ◌∷◌, ◌++◌, length, length-append, Bool, false, refl, sym, ap, ◌∙◌, inl, inr, add-zero, arith}
use Rattle.std.proofs.lemmas.Bool.{cases_lt}
use Rattle.std.proofs.lemmas.List.{take-append-le, take_all}
use Rattle.shadow_cache.specs.Past.{Past, begun, is_table, after_call, after_calls, pairs_after}
use Rattle.shadow_cache.specs.Replayed.{NoTableSince}
use Rattle.shadow_cache.specs.declared.call_lists.RootsCall.{RootsCall}

calls-append : (n : ℕ) (cs : List RootsCall) (c : RootsCall) (ps : List Past) → after_calls n (cs ++ c ∷ []) ps ≡ after_call (n + length cs)
    c (after_calls n cs ps)
unfolding after_calls
calls-append n [] c ps = ap (λ k. after_call k c ps) (sym (add-zero n))
calls-append n (d ∷ ds) c ps =
    calls-append (suc n) ds c (after_call n d ps)
    ∙ ap (λ k. after_call k c (after_calls (suc n) ds (after_call n d ps)))
    (let e : suc n + length ds ≡ n + length (d ∷ ds) = omega arith in e)

pub pairs-more : (v : ℕ) (cs : List RootsCall) (c : RootsCall) → pairs_after v (cs ++ c ∷ []) ≡ after_call (length cs) c (pairs_after v cs)
unfolding pairs_after
pairs-more v cs c =
    calls-append 0 cs c (begun v ∷ []) ∙ ap (λ k. after_call k c (after_calls 0 cs (begun v ∷ [])))
    (let e : 0 + length cs ≡ length cs = omega arith in e)

pub pairs-none : (v : ℕ) → pairs_after v [] ≡ begun v ∷ []
unfolding pairs_after after_calls
pairs-none v = refl

pub length-more : (cs : List RootsCall) (c : RootsCall) → length (cs ++ c ∷ []) ≡ length cs + 1
length-more cs c = length-append cs (c ∷ [])

-- ---- since a moment

abbrev then : ℕ → List RootsCall → ℕ → Bool
then v cs f = is_table (pairs_after v cs) f

pub since-less : (v : ℕ) (cs : List RootsCall) (c : RootsCall) (n f : ℕ) → NoTableSince v (cs ++ c ∷ []) n f → NoTableSince v cs n f
since-less v cs c n f h = λ k a b.
    let l = length-more cs c in
    ap (λ (xs : List RootsCall). then v xs f) (sym (take-append-le k cs (c ∷ []) b)) ∙ h k a (omega (arith, l, b))

pub since-now : (v : ℕ) (cs : List RootsCall) (n f : ℕ) → n ≤ length cs → NoTableSince v cs n f → is_table (pairs_after v cs) f ≡ false
since-now v cs n f l h =
    let refl-le : length cs ≤ length cs = omega arith in
    ap (λ (xs : List RootsCall). then v xs f) (sym (take_all (length cs) cs refl-le)) ∙ h (length cs) l refl-le

pub since-more : (v : ℕ) (cs : List RootsCall) (c : RootsCall) (n f : ℕ) → NoTableSince v cs n f
    → is_table (pairs_after v (cs ++ c ∷ [])) f ≡ false → NoTableSince v (cs ++ c ∷ []) n f
since-more v cs c n f h t = λ k a b.
    let l = length-more cs c in
    elim (cases_lt k (length cs + 1)) [
      | inl x ↦ let y : k ≤ length cs =
          omega (arith, x) in ap (λ (xs : List RootsCall). then v xs f) (take-append-le k cs (c ∷ []) y) ∙ h k a y
      | inr x ↦ ap (λ (xs : List RootsCall). then v xs f) (take_all k (cs ++ c ∷ []) (omega (arith, l, x))) ∙ t
    ]

pub since-here : (v : ℕ) (cs : List RootsCall) (c : RootsCall) (f : ℕ) → is_table (pairs_after v cs) f ≡ false
    → is_table (pairs_after v (cs ++ c ∷ [])) f ≡ false → NoTableSince v (cs ++ c ∷ []) (length cs) f
since-here v cs c f s t =
    since-more v cs c (length cs) f
    (λ k a b. ap (λ (xs : List RootsCall). then v xs f) (take_all k cs a) ∙ s) t

pub calls-none : (n : ℕ) (ps : List Past) → after_calls n [] ps ≡ ps
unfolding after_calls
calls-none n ps = refl

pub calls-cons : (n : ℕ) (c : RootsCall) (cs : List RootsCall) (ps : List Past) → after_calls n (c ∷ cs) ps ≡ after_calls (suc n)
    cs (after_call n c ps)
unfolding after_calls
calls-cons n c cs ps = refl

calls-join : (n : ℕ) (cs ds : List RootsCall) (ps : List Past) → after_calls n (cs ++ ds) ps ≡ after_calls (n + length cs) ds
    (after_calls n cs ps)
unfolding after_calls
calls-join n [] ds ps = ap (λ k. after_calls k ds ps) (sym (add-zero n))
calls-join n (c ∷ cs) ds ps =
    calls-join (suc n) cs ds (after_call n c ps)
    ∙ ap (λ k. after_calls k ds (after_calls (suc n) cs (after_call n c ps)))
    (let e : suc n + length cs ≡ n + length (c ∷ cs) = omega arith in e)

pub pairs-join : (v : ℕ) (cs ds : List RootsCall) → pairs_after v (cs ++ ds) ≡ after_calls (0 + length cs) ds (pairs_after v cs)
unfolding pairs_after
pairs-join v cs ds = calls-join 0 cs ds (begun v ∷ [])

pub pairs-are : (v : ℕ) (cs : List RootsCall) → pairs_after v cs ≡ after_calls 0 cs (begun v ∷ [])
unfolding pairs_after
pairs-are v cs = refl
