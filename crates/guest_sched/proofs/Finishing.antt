-- The last lines of several kernels, one after another.
use Rattle.std.proofs.Common.{◌≡◌, ℕ, suc, ◌+◌, ◌<◌, List, [], ◌∷◌, ◌++◌, Option, Some, None, is_none, true, false, length, take, drop, get_or, set, map, refl, ap, sym, subst, ◌∙◌, arith, append_assoc, append-nil}
use Rattle.std.proofs.lemmas.List.{take_more, take_more_set, take-append-drop, length-take-le}
use Rattle.pv_io.specs.Sink.{Appends, AppendsFront}
use Rattle.run_trace.specs.Text.{end_line}
use Rattle.run_trace.specs.declared.items.End.{End}
use Rattle.run_trace.specs.declared.items.Ended.{Ended}
use Rattle.ia32_types.specs.declared.stop.Stop.{Stop}
use Rattle.guest_sched.specs.Stages.{ended_of, end_with}
use Rattle.guest_sched.specs.Pieces.{bound_line, bound_texts}
use Rattle.guest_sched.specs.Tags.{tag_of, tagged}
use Rattle.guest_sched.specs.declared.tenants.Tenant.{Tenant}
use Rattle.guest_sched.proofs.Puts.{both, then_front, front_of_both}

texts_append : (k : ℕ) (xs ys : List Ended) → bound_texts k (xs ++ ys) ≡ bound_texts k xs ++ bound_texts (k + length xs) ys
texts_append k [] ys = ap (λ (n : ℕ). bound_texts n ys) (let e : k ≡ k + 0 = omega arith in e)
texts_append k (x ∷ xs) ys =
    ap (λ (z : List ℕ). tagged (tag_of k) (bound_line x.steps x.end) ++ z) (texts_append (suc k) xs ys)
    ∙ sym (append_assoc (tagged (tag_of k) (bound_line x.steps x.end)) (bound_texts (suc k) xs) (bound_texts (suc k + length xs) ys))
    ∙ ap (λ (n : ℕ). (tagged (tag_of k) (bound_line x.steps x.end) ++ bound_texts (suc k) xs) ++ bound_texts n ys)
    (let e : suc k + length xs ≡ k + suc (length xs) = omega arith in e)

length_map : (ts : List Tenant) → length (map ended_of ts) ≡ length ts
length_map [] = refl
length_map (t ∷ ts) = let rest = length_map ts in omega (arith, rest)

map_append : (xs ys : List Tenant) → map ended_of (xs ++ ys) ≡ map ended_of xs ++ map ended_of ys
map_append [] ys = refl
map_append (x ∷ xs) ys = ap (λ (l : List Ended). ended_of x ∷ l) (map_append xs ys)

abbrev pub last_of : ℕ → Tenant → List ℕ
last_of n t = tagged (tag_of n) (bound_line t.guest.step (end_with t.stop))

-- the lines of the first kernels, and of one more
pub texts_more : (ts : List Tenant) (n : ℕ) (d : Tenant) → n < length ts → bound_texts 0 (map ended_of (take (n + 1) ts)) ≡ bound_texts 0
    (map ended_of (take n ts)) ++ last_of n (get_or ts n d)
texts_more ts n d lt =
    let len = length_map (take n ts) in let n_is = length-take-le n ts (omega (arith, lt)) in
    ap (λ (l : List Tenant). bound_texts 0 (map ended_of l)) (take_more ts n d lt)
    ∙ ap (bound_texts 0) (map_append (take n ts) (get_or ts n d ∷ []))
    ∙ texts_append 0 (map ended_of (take n ts)) (ended_of (get_or ts n d) ∷ [])
    ∙ ap (λ (k : ℕ). bound_texts 0 (map ended_of (take n ts)) ++ bound_texts k (ended_of (get_or ts n d) ∷ []))
    (let e : 0 + length (map ended_of (take n ts)) ≡ n = omega (arith, len, n_is) in e)
    ∙ ap (λ (z : List ℕ). bound_texts 0 (map ended_of (take n ts)) ++ z) (append-nil (last_of n (get_or ts n d)))

-- the lines of all: the first, one more, and the others
texts_all : (ts : List Tenant) (n : ℕ) (d : Tenant) → n < length ts → (rest : List ℕ)
    × (bound_texts 0 (map ended_of ts) ≡ (bound_texts 0 (map ended_of (take n ts)) ++ last_of n (get_or ts n d)) ++ rest)
texts_all ts n d lt = (
  bound_texts (0 + length (map ended_of (take (n + 1) ts))) (map ended_of (drop (n + 1) ts)),
  ap (λ (l : List Tenant). bound_texts 0 (map ended_of l)) (sym (take-append-drop (n + 1) ts))
      ∙ ap (bound_texts 0) (map_append (take (n + 1) ts) (drop (n + 1) ts))
      ∙ texts_append 0 (map ended_of (take (n + 1) ts)) (map ended_of (drop (n + 1) ts))
      ∙ ap (λ (z : List ℕ). z ++ bound_texts (0 + length (map ended_of (take (n + 1) ts))) (map ended_of (drop (n + 1) ts)))
      (texts_more ts n d lt),
)

pub line_of : (n steps : ℕ) (stop : Option Stop) → is_none stop ≡ true → tagged (tag_of n) (end_line steps (end_with stop)) ≡ tagged
    (tag_of n) (bound_line steps (end_with stop))
line_of n steps None none = refl
line_of n steps (Some stop) none = absurd (cc)

no_line_of : (n steps : ℕ) (stop : Option Stop) → is_none stop ≡ false → tagged (tag_of n) (bound_line steps (end_with stop)) ≡ []
no_line_of n steps None some = absurd (cc)
no_line_of n steps (Some stop) some = refl

-- the sink fails in the line of one more
pub fails_there : (old mid new : Option (List ℕ)) (ts : List Tenant) (n : ℕ) (d : Tenant) (line : List ℕ) → n < length ts
    → line ≡ last_of n (get_or ts n d)
    → Appends old mid (bound_texts 0 (map ended_of (take n ts))) → AppendsFront mid new line
    → AppendsFront old new (bound_texts 0 (map ended_of ts))
fails_there old mid new ts n d line lt is before front =
    let all = texts_all ts n d lt in
    let one = then_front old mid new (bound_texts 0 (map ended_of (take n ts))) (last_of n (get_or ts n d)) before
    (subst (λ (z : List ℕ). AppendsFront mid new z) is front) in
    subst (λ (z : List ℕ). AppendsFront old new z) (sym all.1)
    (front_of_both old new (bound_texts 0 (map ended_of (take n ts)) ++ last_of n (get_or ts n d)) all.0 one)

pub goes_there : (old mid new : Option (List ℕ)) (ts : List Tenant) (n : ℕ) (d : Tenant) (line : List ℕ) → n < length ts
    → line ≡ last_of n (get_or ts n d)
    → Appends old mid (bound_texts 0 (map ended_of (take n ts))) → Appends mid new line
    → Appends old new (bound_texts 0 (map ended_of (take (n + 1) ts)))
goes_there old mid new ts n d line lt is before here =
    subst (λ (z : List ℕ). Appends old new z) (sym (texts_more ts n d lt))
    (both old mid new (bound_texts 0 (map ended_of (take n ts))) (last_of n (get_or ts n d)) before
    (subst (λ (z : List ℕ). Appends mid new z) is here))

-- where it met a stop, its line was put then
pub stays_there : (old mid : Option (List ℕ)) (ts : List Tenant) (n : ℕ) (d : Tenant) → n < length ts → is_none (get_or ts n d).stop ≡ false
    → Appends old mid (bound_texts 0 (map ended_of (take n ts))) → Appends old mid (bound_texts 0 (map ended_of (take (n + 1) ts)))
stays_there old mid ts n d lt some before =
    subst (λ (z : List ℕ). Appends old mid z)
    (sym (texts_more ts n d lt ∙ ap (λ (z : List ℕ). bound_texts 0 (map ended_of (take n ts)) ++ z)
    (no_line_of n (get_or ts n d).guest.step (get_or ts n d).stop some) ∙ append-nil (bound_texts 0 (map ended_of (take n ts))))) before

-- how one more has ended
pub ends_more : (ts : List Tenant) (ends : List Ended) (n : ℕ) (d : Tenant) (e : Ended) → n < length ts → length ends ≡ length ts
    → e ≡ ended_of (get_or ts n d)
    → take n ends ≡ map ended_of (take n ts) → take (n + 1) (set ends n e) ≡ map ended_of (take (n + 1) ts)
ends_more ts ends n d e lt len is before =
    let within : n < length ends = omega (arith, lt, len) in
    take_more_set ends n e within
    ∙ ap (λ (l : List Ended). l ++ e ∷ []) before
    ∙ ap (λ (x : Ended). map ended_of (take n ts) ++ x ∷ []) is
    ∙ sym (ap (map ended_of) (take_more ts n d lt) ∙ map_append (take n ts) (get_or ts n d ∷ []))

pub ended_is : (e : Ended) (t : Tenant) → e.steps ≡ t.guest.step → e.fills ≡ t.guest.fills → e.end ≡ end_with t.stop → e ≡ ended_of t
ended_is e t steps fills end = λ i. record { steps = steps i; end = end i; fills = fills i }

-- the line that is put for one that met no stop
pub last_line_is : (ts : List Tenant) (n : ℕ) (d : Tenant) (e : Ended) → e.steps ≡ d.guest.step → e.end ≡ end_with d.stop
    → is_none d.stop ≡ true → d ≡ get_or ts n d → tagged (tag_of n) (end_line e.steps e.end) ≡ last_of n (get_or ts n d)
last_line_is ts n d e steps end none is =
    ap (λ (k : ℕ). tagged (tag_of n) (end_line k e.end)) steps
    ∙ ap (λ (x : End). tagged (tag_of n) (end_line d.guest.step x)) end
    ∙ line_of n d.guest.step d.stop none
    ∙ ap (last_of n) is
