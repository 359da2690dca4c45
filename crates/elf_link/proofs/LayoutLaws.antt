-- Sums and ends, one object more.
use Rattle.std.proofs.Common.{◌≡◌, ℕ, ◌+◌, ◌*◌, ◌-◌, ◌/◌, ◌%◌, ◌<◌, ◌≤◌, Bool, true, false, cond, List, [], ◌∷◌, ◌++◌, length, get_or, take, refl, ap, ◌∙◌, subst, arith}
use Rattle.std.specs.Prelude.{sum_by, nat_lt, ◌==◌}
use Rattle.std.proofs.lemmas.Bool.{eqb-true, eqb-false, ne_eqb, ltb-true, ltb-false}
use Rattle.std.proofs.lemmas.List.{take_more}
use Rattle.std.proofs.lemmas.List.Sums.{sum_by-cons, sum_by_more, sum_by_more_le, sum_by-append}
use Rattle.sites.specs.declared.limits.TheConstants.{TEXT_LIMIT}
use Rattle.elf_form.specs.ObjectParts.{ObjectParts}
use Rattle.elf_link.specs.Steps.{IsWithin, totals}
use Rattle.elf_link.specs.Layout.{round_up, text_size, text_room, init_size, init_room, bss_size, bss_room, text_end, extent, memory_end}

-- the end of the last text
pub text_end-push : (os : List ObjectParts) (o : ObjectParts) → text_end (os ++ o ∷ []) ≡ sum_by text_room os + text_size o
unfolding text_end
text_end-push [] o = omega arith
text_end-push (p ∷ []) o = rw (sum_by-cons text_room p []) (omega arith)
text_end-push (p ∷ q ∷ os) o =
    ap (λ (n : ℕ). text_room p + n) (text_end-push (q ∷ os) o)
    ∙ rw (sum_by-cons text_room p (q ∷ os)) (omega arith)

pub text_end-more : (os : List ObjectParts) (i : ℕ) (o : ObjectParts) → i < length os → get_or os i o ≡ o
    → text_end (take (i + 1) os) ≡ sum_by text_room (take i os) + text_size o
text_end-more os i o lt is =
    ap text_end (take_more os i o lt ∙ ap (λ (p : ObjectParts). take i os ++ p ∷ []) is) ∙ text_end-push (take i os) o

abbrev pub room_of : (ObjectParts → ℕ) → ObjectParts → ℕ
room_of size o = round_up 4096 (size o)

-- ---- multiples of 4,096

multiple : ℕ → ℕ
multiple n = n / 4096 + 1 - (4096 - n % 4096) / 4096

round_up-multiple : (n : ℕ) → round_up 4096 n ≡ 4096 * multiple n
unfolding multiple
round_up-multiple n = omega arith

round_up-le : (n q : ℕ) → n ≤ 4096 * q → round_up 4096 n ≤ 4096 * q
round_up-le n q h =
    let e = round_up-multiple n in
    let small : round_up 4096 n < n + 4096 = omega arith in
    omega (arith, e)

-- a sum of rooms
abbrev rooms : (ObjectParts → ℕ) → List ObjectParts → ℕ
rooms size os = sum_by (room_of size) os

rooms-cons : (size : ObjectParts → ℕ) (o : ObjectParts) (os : List ObjectParts)
    → rooms size (o ∷ os) ≡ round_up 4096 (size o) + rooms size os
rooms-cons size o os = sum_by-cons (room_of size) o os

rooms-multiple : (size : ObjectParts → ℕ) (os : List ObjectParts) → (c : ℕ) × (rooms size os ≡ 4096 * c)
rooms-multiple size [] = (0, refl)
rooms-multiple size (o ∷ os) =
    let rest = rooms-multiple size os in
    (multiple (size o) + rest.0, omega (arith, sum_by-cons (room_of size) o os, round_up-multiple (size o), rest.1))

rooms-none : (size : ObjectParts → ℕ) (os : List ObjectParts) → sum_by size os ≡ 0 → rooms size os ≡ 0
rooms-none size [] h = refl
rooms-none size (o ∷ os) h =
    let here : size o ≡ 0 = omega (arith, sum_by-cons size o os) in
    let rest = rooms-none size os (omega (arith, sum_by-cons size o os)) in
    let zero : round_up 4096 0 + rooms size os ≡ 0 = omega (arith, rest) in
    sum_by-cons (room_of size) o os ∙ (ap (λ (n : ℕ). round_up 4096 n + rooms size os) here ∙ zero)

extent-le-rooms : (size : ObjectParts → ℕ) (os : List ObjectParts) → extent size os ≤ rooms size os
unfolding extent
extent-le-rooms size [] = omega arith
extent-le-rooms size (o ∷ os) =
    let ih = extent-le-rooms size os in
    let e = rooms-cons size o os in
    let P : ℕ → Type 0 = λ n. n ≤ rooms size (o ∷ os) in
    elim (sum_by size os == 0) as (λ (b : Bool). cond b (size o) (round_up 4096 (size o) + extent size os) ≤ rooms size (o ∷ os))
    [ true ↦ omega (arith, e) | false ↦ omega (arith, e, ih) ]

rooms-le : (size : ObjectParts → ℕ) (os : List ObjectParts) (q : ℕ) → extent size os ≤ 4096 * q → rooms size os ≤ 4096 * q
unfolding extent
rooms-le size [] q h = omega arith
rooms-le size (o ∷ os) q h = by (rooms-le size os) (sum_by size os == 0) refl h where
  by : ((k : ℕ) → extent size os ≤ 4096 * k → rooms size os ≤ 4096 * k) → (b : Bool) → (sum_by size os == 0) ≡ b
      → cond b (size o) (round_up 4096 (size o) + extent size os) ≤ 4096 * q → rooms size (o ∷ os) ≤ 4096 * q
  by ih true e h =
      let none = rooms-none size os (eqb-true (sum_by size os) 0 e) in
      omega (arith, rooms-cons size o os, none, round_up-le (size o) q h)
  by ih false e h =
      let m = round_up-multiple (size o) in
      let rest : extent size os ≤ 4096 * (q - multiple (size o)) = omega (arith, m) in
      omega (arith, rooms-cons size o os, m, ih (q - multiple (size o)) rest)

-- ---- one part more

extent-push : (size : ObjectParts → ℕ) (os : List ObjectParts) (o : ObjectParts) → extent size (os ++ o ∷ []) ≡ cond (size o == 0)
    (extent size os) (rooms size os + size o)
unfolding extent
extent-push size [] o = by (size o == 0) refl where
  by : (b : Bool) → (size o == 0) ≡ b → size o ≡ cond b 0 (0 + size o)
  by true e = eqb-true (size o) 0 e
  by false e = omega arith
extent-push size (p ∷ os) o = by (size o == 0) refl (extent-push size os o) where
  by : (b : Bool) → (size o == 0) ≡ b → extent size (os ++ o ∷ []) ≡ cond b (extent size os) (rooms size os + size o)
      → cond (sum_by size (os ++ o ∷ []) == 0) (size p) (round_up 4096 (size p) + extent size (os ++ o ∷ [])) ≡ cond b
      (cond (sum_by size os == 0) (size p) (round_up 4096 (size p) + extent size os)) (rooms size (p ∷ os) + size o)
  by true e ih =
      let zero : size o ≡ 0 = eqb-true (size o) 0 e in
      let same : sum_by size (os ++ o ∷ []) ≡ sum_by size os = omega (arith, sum_by-append size os (o ∷ []), sum_by-cons size o []) in
      rw (same, ih) refl
  by false e ih =
      let more : (sum_by size (os ++ o ∷ []) == 0) ≡ false = ne_eqb (sum_by size (os ++ o ∷ [])) 0
      (λ z. eqb-false (size o) 0 e (omega (arith, sum_by-append size os (o ∷ []), sum_by-cons size o []))) in
      rw (more, ih) (omega (arith, rooms-cons size p os))

pub extent-more : (size : ObjectParts → ℕ) (os : List ObjectParts) (i : ℕ) (o : ObjectParts) → i < length os → get_or os i o ≡ o
    → extent size (take (i + 1) os) ≡ cond (size o == 0) (extent size (take i os)) (sum_by (room_of size) (take i os) + size o)
extent-more size os i o lt is =
    ap (extent size) (take_more os i o lt ∙ ap (λ (p : ObjectParts). take i os ++ p ∷ []) is) ∙ extent-push size (take i os) o

-- ---- the limit of data

ends_within : (os : List ObjectParts) → memory_end os ≤ 33554432 → sum_by init_room os + sum_by bss_room os ≤ 33554432
ends_within os h = by (extent bss_size os == 0) refl h where
  by : (b : Bool) → (extent bss_size os == 0) ≡ b → cond b (extent init_size os) (sum_by init_room os + extent bss_size os) ≤ 33554432
      → sum_by init_room os + sum_by bss_room os ≤ 33554432
  by true e h =
      let zero : extent bss_size os ≤ 4096 * 0 = omega (arith, eqb-true (extent bss_size os) 0 e) in
      omega (arith, rooms-le init_size os 8192 h, rooms-le bss_size os 0 zero)
  by false e h =
      let m = rooms-multiple init_size os in
      let rest : extent bss_size os ≤ 4096 * (8192 - m.0) = omega (arith, m.1) in
      omega (arith, m.1, rooms-le bss_size os (8192 - m.0) rest)

pub within_ends : (os : List ObjectParts) → sum_by init_room os + sum_by bss_room os ≤ 33554432 → memory_end os ≤ 33554432
within_ends os h =
    let init = extent-le-rooms init_size os in
    let bss = extent-le-rooms bss_size os in
    elim (extent bss_size os == 0) as (λ (b : Bool). cond b (extent init_size os) (sum_by init_room os + extent bss_size os) ≤ 33554432)
    [ true ↦ omega (arith, init) | false ↦ omega (arith, bss) ]

pub memory_limit : (os : List ObjectParts) → nat_lt 33554432 (memory_end os) ≡ nat_lt 33554432 (sum_by init_room os + sum_by bss_room os)
memory_limit os = by (nat_lt 33554432 (memory_end os)) (nat_lt 33554432 (sum_by init_room os + sum_by bss_room os)) refl refl where
  by : (a b : Bool) → nat_lt 33554432 (memory_end os) ≡ a → nat_lt 33554432 (sum_by init_room os + sum_by bss_room os) ≡ b → a ≡ b
  by true true p q = refl
  by false false p q = refl
  by true false p q =
      let above = ltb-true 33554432 (memory_end os) p in
      let below = within_ends os (ltb-false 33554432 (sum_by init_room os + sum_by bss_room os) q) in
      absurd (omega arith)
  by false true p q =
      let above = ltb-true 33554432 (sum_by init_room os + sum_by bss_room os) q in
      let below = ends_within os (ltb-false 33554432 (memory_end os) p) in
      absurd (omega arith)

-- ---- what sums leave to one object

pub record FitsAt (os : List ObjectParts) (i : ℕ) (o : ObjectParts) : Type 0 where
  pub text : sum_by text_room (take i os) + text_room o < TEXT_LIMIT + 16
  pub init : sum_by init_room (take i os) + init_room o ≤ 33554432
  pub bss : sum_by init_room os + (sum_by bss_room (take i os) + bss_room o) ≤ 33554432

pub fits_at : (os : List ObjectParts) (i : ℕ) (o : ObjectParts) → IsWithin (totals os) → i < length os → get_or os i o ≡ o → FitsAt os i o
unfolding totals
fits_at os i o within lt is =
    let text : sum_by text_room (take i os) + text_room o ≤ sum_by text_room os =
    subst (λ (p : ObjectParts). sum_by text_room (take i os) + text_room p ≤ sum_by text_room os) is (sum_by_more_le text_room os i o lt) in
    let init : sum_by init_room (take i os) + init_room o ≤ sum_by init_room os =
    subst (λ (p : ObjectParts). sum_by init_room (take i os) + init_room p ≤ sum_by init_room os) is (sum_by_more_le init_room os i o lt) in
    let bss : sum_by bss_room (take i os) + bss_room o ≤ sum_by bss_room os =
    subst (λ (p : ObjectParts). sum_by bss_room (take i os) + bss_room p ≤ sum_by bss_room os) is (sum_by_more_le bss_room os i o lt) in
    record { text = omega (arith, within.text); init = omega (arith, within.memory); bss = omega (arith, within.memory) }

pub sum-more : (f : ObjectParts → ℕ) (os : List ObjectParts) (i : ℕ) (o : ObjectParts) → i < length os → get_or os i o ≡ o
    → sum_by f (take (i + 1) os) ≡ sum_by f (take i os) + f o
sum-more f os i o lt is = sum_by_more f os i o lt ∙ ap (λ (p : ObjectParts). sum_by f (take i os) + f p) is

-- an extent keeps within its rooms
pub extent-within : (size : ObjectParts → ℕ) (os : List ObjectParts) → extent size os ≤ sum_by (room_of size) os
extent-within size os = extent-le-rooms size os

pub text_end-le : (os : List ObjectParts) → text_end os ≤ sum_by text_room os
unfolding text_end
text_end-le [] = omega arith
text_end-le (p ∷ []) = omega (arith, sum_by-cons text_room p [])
text_end-le (p ∷ q ∷ os) = omega (arith, sum_by-cons text_room p (q ∷ os), text_end-le (q ∷ os))

pub init_end-le : (os : List ObjectParts) → extent init_size os ≤ memory_end os
init_end-le os =
    let init = extent-le-rooms init_size os in
    elim (extent bss_size os == 0) as
    (λ (b : Bool). extent init_size os ≤ cond b (extent init_size os) (sum_by init_room os + extent bss_size os))
    [ true ↦ omega arith | false ↦ omega (arith, init) ]

pub memory_fits : (os : List ObjectParts) → IsWithin (totals os) → memory_end os ≤ 33554432
unfolding totals
memory_fits os within = within_ends os within.memory
