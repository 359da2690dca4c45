-- The first bad field of several lists of demands.
use Rattle.std.proofs.Common.{◌≡◌, ◌≢◌, ℕ, ◌+◌, ◌<◌, ◌≤◌, Bool, true, false, List, [], ◌∷◌, ◌++◌, length, drop, get_or, Option, Some, None, refl, ap, sym, ◌∙◌, arith}
use Rattle.std.specs.Prelude.{map, not, ◌&&◌, ◌==◌, nat_le, if◌then◌else◌}
use Rattle.std.proofs.lemmas.List.{drop_all, drop_more, map-append}
use Rattle.std.proofs.lemmas.Bool.{le-leb, lt-leb, ne_eqb}
use Rattle.checkpoint.specs.declared.demand.Demand.{Demand}
use Rattle.board.specs.Earlier.{earlier}
use Rattle.checkpoint.specs.Demands.{bad_in, first_bad, of_field, zero_demands}

pub earlier-none : (a : Option ℕ) → earlier a None ≡ a
earlier-none None = refl
earlier-none (Some a) = refl

pub earlier_assoc : (a b c : Option ℕ) → earlier (earlier a b) c ≡ earlier a (earlier b c)
earlier_assoc None b c = refl
earlier_assoc (Some a) None c = refl
earlier_assoc (Some a) (Some b) None = refl
earlier_assoc (Some a) (Some b) (Some c) = ap (λ (n : ℕ). Some n) (omega arith)

pub first_bad-append : (there : ℕ) (xs ys : List Demand) → first_bad there (xs ++ ys) ≡ earlier (first_bad there xs) (first_bad there ys)
unfolding first_bad
first_bad-append there [] ys = refl
first_bad-append there (x ∷ xs) ys =
    ap (earlier (bad_in there x)) (first_bad-append there xs ys)
    ∙ sym (earlier_assoc (bad_in there x) (first_bad there xs) (first_bad there ys))

split : (demands : List Demand) (i : ℕ) (d : Demand) → i < length demands → drop i demands ≡ get_or demands i d ∷ drop (i + 1) demands
split demands i d h = drop_more demands i d h

pub first_bad-more : (there : ℕ) (demands : List Demand) (i : ℕ) (d : Demand) (first : Option ℕ) → i < length demands →
    earlier (earlier first (bad_in there (get_or demands i d))) (first_bad there (drop (i + 1) demands)) ≡ earlier first
    (first_bad there (drop i demands))
unfolding first_bad
first_bad-more there demands i d first h =
    earlier_assoc first (bad_in there (get_or demands i d)) (first_bad there (drop (i + 1) demands))
    ∙ sym (ap (λ (xs : List Demand). earlier first (first_bad there xs)) (split demands i d h))

pub first_bad-step : (there : ℕ) (demands : List Demand) (i : ℕ) (d : Demand) (first now next : Option ℕ) → i < length demands →
    now ≡ bad_in there (get_or demands i d) → next ≡ earlier first now →
    earlier next (first_bad there (drop (i + 1) demands)) ≡ earlier first (first_bad there (drop i demands))
first_bad-step there demands i d first now next h now_is next_is =
    ap (λ (a : Option ℕ). earlier a (first_bad there (drop (i + 1) demands))) (next_is ∙ ap (earlier first) now_is)
    ∙ first_bad-more there demands i d first h

pub first_bad-end : (there : ℕ) (demands : List Demand) (i : ℕ) (first : Option ℕ) → length demands ≤ i →
    earlier first (first_bad there (drop i demands)) ≡ first
unfolding first_bad
first_bad-end there demands i first h =
    ap (λ (xs : List Demand). earlier first (first_bad there xs)) (drop_all i demands h) ∙ earlier-none first

-- bytes without a name

passes : (there n at : ℕ) (first : Option ℕ) (bad : Bool) → n ≤ at → earlier (Some n) first ≡ Some n →
    earlier (Some n) (earlier (if bad then Some at else None) first) ≡ Some n
passes there n at first true h rest =
    let least : earlier (Some n) (Some at) ≡ Some n = ap (λ (k : ℕ). Some k) (omega arith) in
    sym (earlier_assoc (Some n) (Some at) first) ∙ ap (λ (a : Option ℕ). earlier a first) least ∙ rest
passes there n at first false h rest = rest

pub later_than : (there : ℕ) (bytes : List ℕ) (n at : ℕ) → n ≤ at → earlier (Some n) (first_bad there (zero_demands at bytes)) ≡ Some n
unfolding first_bad
later_than there [] n at h = refl
later_than there (b ∷ bytes) n at h =
    passes there n at (first_bad there (zero_demands (at + 1) bytes)) (nat_le (at + 1) there && not (b == 0)) h
    (later_than there bytes n (at + 1) (omega arith))

zeros_split : (at there i : ℕ) (bytes : List ℕ) → i < length bytes →
    first_bad there (zero_demands (at + i) (drop i bytes))
    ≡ earlier (bad_in there (of_field (at + i) 1 (get_or bytes i 0 == 0)))
    (first_bad there (zero_demands (at + (i + 1)) (drop (i + 1) bytes)))
unfolding first_bad
zeros_split at there i bytes h =
    ap (λ (xs : List ℕ). first_bad there (zero_demands (at + i) xs)) (drop_more bytes i 0 h)
    ∙ ap (λ (k : ℕ). earlier (bad_in there (of_field (at + i) 1 (get_or bytes i 0 == 0)))
    (first_bad there (zero_demands k (drop (i + 1) bytes))))
    (omega arith)

pub set_here : (at there i : ℕ) (bytes : List ℕ) → i < length bytes → get_or bytes i 0 ≢ 0 → at + i < there →
    first_bad there (zero_demands (at + i) (drop i bytes)) ≡ Some (at + i)
set_here at there i bytes h set near =
    let told : nat_le (at + i + 1) there ≡ true = le-leb _ _ (omega arith) in
    let unmet : (get_or bytes i 0 == 0) ≡ false = ne_eqb _ _ set in
    let is : bad_in there (of_field (at + i) 1 (get_or bytes i 0 == 0)) ≡ Some (at + i) = rw (told, unmet) refl in
    zeros_split at there i bytes h
    ∙ ap (λ (a : Option ℕ). earlier a (first_bad there (zero_demands (at + (i + 1)) (drop (i + 1) bytes)))) is
    ∙ later_than there (drop (i + 1) bytes) (at + i) (at + (i + 1)) (omega arith)

pub zero_here : (at there i : ℕ) (bytes : List ℕ) → i < length bytes → get_or bytes i 0 ≡ 0 →
    first_bad there (zero_demands (at + i) (drop i bytes)) ≡ first_bad there (zero_demands (at + (i + 1)) (drop (i + 1) bytes))
zero_here at there i bytes h zero =
    let isnt : bad_in there (of_field (at + i) 1 (get_or bytes i 0 == 0)) ≡ None =
    rw zero (and_false (nat_le (at + i + 1) there) (at + i)) in
    zeros_split at there i bytes h
    ∙ ap (λ (a : Option ℕ). earlier a (first_bad there (zero_demands (at + (i + 1)) (drop (i + 1) bytes)))) isnt
  where
    and_false : (b : Bool) (n : ℕ) → (if b && false then Some n else None) ≡ None
    and_false true n = refl
    and_false false n = refl

pub behind_end : (at there i : ℕ) (bytes : List ℕ) → i < length bytes → there ≤ at + i →
    first_bad there (zero_demands (at + i) (drop i bytes)) ≡ first_bad there (zero_demands (at + (i + 1)) (drop (i + 1) bytes))
behind_end at there i bytes h far =
    let untold : nat_le (at + i + 1) there ≡ false = lt-leb _ _ (omega arith) in
    let isnt : bad_in there (of_field (at + i) 1 (get_or bytes i 0 == 0)) ≡ None = rw untold refl in
    zeros_split at there i bytes h
    ∙ ap (λ (a : Option ℕ). earlier a (first_bad there (zero_demands (at + (i + 1)) (drop (i + 1) bytes)))) isnt

pub zeros_end : (at there i : ℕ) (bytes : List ℕ) → length bytes ≤ i → first_bad there (zero_demands (at + i) (drop i bytes)) ≡ None
unfolding first_bad
zeros_end at there i bytes h = ap (λ (xs : List ℕ). first_bad there (zero_demands (at + i) xs)) (drop_all i bytes h)

-- several lists, one after the other

pub joined : (there : ℕ) (xs ys : List Demand) (x y r : Option ℕ) → x ≡ first_bad there xs → y ≡ first_bad there ys → r ≡ earlier x y →
    r ≡ first_bad there (xs ++ ys)
joined there xs ys x y r x_is y_is r_is =
    r_is ∙ ap (λ (a : Option ℕ). earlier a y) x_is ∙ ap (earlier (first_bad there xs)) y_is ∙ sym (first_bad-append there xs ys)

pub five : {T : Type 0} (f : T → Demand) (there : ℕ) (a b c d e : List T) (u v w x y p q r s : Option ℕ) →
    u ≡ first_bad there (map f a) → v ≡ first_bad there (map f b) → w ≡ first_bad there (map f c) → x ≡ first_bad there (map f d)
    → y ≡ first_bad there (map f e) →
    p ≡ earlier u v → q ≡ earlier p w → r ≡ earlier q x → s ≡ earlier r y → s ≡ first_bad there (map f (a ++ b ++ c ++ d ++ e))
five f there a b c d e u v w x y p q r s u_is v_is w_is x_is y_is p_is q_is r_is s_is =
    let two = joined there (map f a) (map f b) u v p u_is v_is p_is in
    let three = joined there (map f a ++ map f b) (map f c) p w q two w_is q_is in
    let four = joined there (map f a ++ map f b ++ map f c) (map f d) q x r three x_is r_is in
    let all = joined there (map f a ++ map f b ++ map f c ++ map f d) (map f e) r y s four y_is s_is in
    let same : map f (a ++ b ++ c ++ d ++ e) ≡ map f a ++ map f b ++ map f c ++ map f d ++ map f e = simp map-append in
    all ∙ ap (first_bad there) (sym same)

pub seven : (there : ℕ) (a b c d e f g : List Demand) (u v w x y z t p q r s m n : Option ℕ) →
    u ≡ first_bad there a → v ≡ first_bad there b → w ≡ first_bad there c → x ≡ first_bad there d → y ≡ first_bad there e
    → z ≡ first_bad there f → t ≡ first_bad there g →
    p ≡ earlier u v → q ≡ earlier p w → r ≡ earlier q x → s ≡ earlier r y → m ≡ earlier s z → n ≡ earlier m t
    → n ≡ first_bad there (a ++ b ++ c ++ d ++ e ++ f ++ g)
seven there a b c d e f g u v w x y z t p q r s m n u_is v_is w_is x_is y_is z_is t_is p_is q_is r_is s_is m_is n_is =
    let two = joined there a b u v p u_is v_is p_is in
    let three = joined there (a ++ b) c p w q two w_is q_is in
    let four = joined there (a ++ b ++ c) d q x r three x_is r_is in
    let five = joined there (a ++ b ++ c ++ d) e r y s four y_is s_is in
    let six = joined there (a ++ b ++ c ++ d ++ e) f s z m five z_is m_is in
    joined there (a ++ b ++ c ++ d ++ e ++ f) g m t n six t_is n_is
