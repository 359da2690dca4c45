-- How many tables the views have, and for which directory indices.
use Rattle.std.proofs.Common.{◌≡◌, ◌≢◌, ℕ, zero, suc, ◌+◌, ◌*◌, ◌<◌, ◌≤◌, List, [], ◌∷◌, ◌++◌, length, length-append, Bool, true, false, cond, ◌||◌, eqb, refl, sym, ap, subst, ◌∙◌, ◌⊎◌, inl, inr, arith}
use Rattle.std.proofs.lemmas.Bool.{cases_lt}
use Rattle.std.proofs.lemmas.Bool.Decides.{eqb_tells}
use Rattle.std.proofs.lemmas.Map.Made.{length-le_from_is_member}
use Rattle.std.specs.Cmp.{IsEquivalence}
use Rattle.std.specs.List.{IsDistinct, AllByRecursion}
use Rattle.std.specs.Set.{is_member, unique_keys, distinct_count}
use Rattle.frame_pool.specs.Held.{SameIn}
use Rattle.shadow_views.specs.Tables.{dir, with_table, tables, owned}
use Rattle.shadow_views.proofs.Counts.{owned-root}
use Rattle.shadow_views.proofs.Changes.{dir-frame}
use Rattle.shadow_tables.specs.Slots.{held, roots, root_of}
use Rattle.shadow_tables.specs.Opened.{HasTable, KeepsTables, HasOpened, HasOpenedOnly}
use Rattle.shadow_tables.specs.Laws.Views.{in-root}
use Rattle.shadow_tables.specs.declared.shadow.Shadow.{Shadow}
use Rattle.shadow_tables.specs.declared.words.Side.{Side}
use Rattle.shadow_tables.specs.declared.words.Side.TheVariants.{Kernel, User}

-- ---- the tables of one view

-- how many a PDE adds
count : ℕ → ℕ
count zero = 0
count (suc w) = 1

with-count : (w : ℕ) (fs : List ℕ) → length (with_table w fs) ≡ count w + length fs
unfolding count
with-count zero fs = omega arith
with-count (suc w) fs = omega arith

cons-count : (m : List ℕ) (r n : ℕ) → length (tables m r (suc n)) ≡ count (dir m r n) + length (tables m r n)
unfolding tables
cons-count m r n = with-count (dir m r n) (tables m r n)

none-count : (m : List ℕ) (r : ℕ) → length (tables m r 0) ≡ 0
unfolding tables
none-count m r = refl

zero-or : (w : ℕ) → (w ≡ 0) ⊎ (w ≢ 0)
zero-or zero = inl refl
zero-or (suc w) = inr (λ e. omega (arith, e))

count-zero : (w : ℕ) → w ≡ 0 → count w ≡ 0
unfolding count
count-zero zero e = refl
count-zero (suc w) e = absurd (omega (arith, e))

count-some : (w : ℕ) → w ≢ 0 → count w ≡ 1
unfolding count
count-some zero ne = absurd (ne refl)
count-some (suc w) ne = refl

count-keeps : (w v : ℕ) → (w ≢ 0 → v ≢ 0) → count w ≤ count v
count-keeps w v h = elim (zero-or w) [
  | inl e ↦ let a = count-zero w e in omega (arith, a)
  | inr ne ↦ let a = count-some w ne in let b = count-some v (h ne) in omega (arith, a, b)
]

abbrev Keep : (m m' : List ℕ) → ℕ → ℕ → Type 0
Keep m m' r n = (d : ℕ) → d < n → dir m r d ≢ 0 → dir m' r d ≢ 0

less : (m m' : List ℕ) (r n : ℕ) → Keep m m' r (suc n) → Keep m m' r n
less m m' r n h = λ d l. h d (omega (arith, l))

fewer : (m m' : List ℕ) (r n : ℕ) → Keep m m' r n → length (tables m r n) ≤ length (tables m' r n)
fewer m m' r zero h = let a = none-count m r in omega (arith, a)
fewer m m' r (suc n) h =
    let a = cons-count m r n in
    let b = cons-count m' r n in
    let c = count-keeps (dir m r n) (dir m' r n) (h n (omega arith)) in
    let d = fewer m m' r n (less m m' r n h) in
    omega (arith, a, b, c, d)

one-more : (m m' : List ℕ) (r n d : ℕ) → Keep m m' r n → d < n → dir m r d ≡ 0 → dir m' r d ≢ 0 → length (tables m r n)
    + 1 ≤ length (tables m' r n)
one-more m m' r zero d h l z s = absurd (omega (arith, l))
one-more m m' r (suc n) d h l z s =
    let a = cons-count m r n in
    let b = cons-count m' r n in
    elim (cases_lt d n) [
      | inl k ↦ let c = count-keeps (dir m r n) (dir m' r n) (h n (omega arith)) in let e = one-more m m' r n d (less m m' r n h) k z s in
          omega (arith, a, b, c, e)
      | inr k ↦
          let q : d ≡ n = omega (arith, k, l) in
          let c = count-zero (dir m r n) (subst (λ x. dir m r x ≡ 0) q z) in
          let e = count-some (dir m' r n) (subst (λ x. dir m' r x ≢ 0) q s) in
          let f = fewer m m' r n (less m m' r n h) in
          omega (arith, a, b, c, e, f)
    ]

two-more : (m m' : List ℕ) (r n d e : ℕ) → Keep m m' r n → d < n → e < n → (d ≡ e → ⊥) → dir m r d ≡ 0 → dir m' r d ≢ 0 → dir m r e ≡ 0
    → dir m' r e ≢ 0 → length (tables m r n) + 2 ≤ length (tables m' r n)
two-more m m' r zero d e h l k ne z s y t = absurd (omega (arith, l))
two-more m m' r (suc n) d e h l k ne z s y t =
    let a = cons-count m r n in
    let b = cons-count m' r n in
    elim (cases_lt d n) [
      | inl p ↦ elim (cases_lt e n) [
        | inl q ↦ let c = count-keeps (dir m r n) (dir m' r n) (h n (omega arith)) in
            let f = two-more m m' r n d e (less m m' r n h) p q ne z s y t in omega (arith, a, b, c, f)
        | inr q ↦
            let i : e ≡ n = omega (arith, q, k) in
            let c = count-zero (dir m r n) (subst (λ x. dir m r x ≡ 0) i y) in
            let f = count-some (dir m' r n) (subst (λ x. dir m' r x ≢ 0) i t) in
            let g = one-more m m' r n d (less m m' r n h) p z s in
            omega (arith, a, b, c, f, g)
      ]
      | inr p ↦
          let i : d ≡ n = omega (arith, p, l) in
          let o : e < n = below e n k (λ f. ne (i ∙ sym f)) in
          let c = count-zero (dir m r n) (subst (λ x. dir m r x ≡ 0) i z) in
          let f = count-some (dir m' r n) (subst (λ x. dir m' r x ≢ 0) i s) in
          let g = one-more m m' r n e (less m m' r n h) o y t in
          omega (arith, a, b, c, f, g)
    ]
  where
    below : (e n : ℕ) → e < suc n → (e ≡ n → ⊥) → e < n
    below e n k ne = elim (cases_lt e n) [ inl l ↦ l | inr g ↦ absurd (ne (omega (arith, g, k))) ]

-- ---- those of both views

pub held-count : (s : Shadow) (m : List ℕ) → length (held s m) ≡ 2 + (length (tables m s.kernel 1024) + length (tables m s.user 1024))
unfolding owned
held-count s m =
    let a = length-append (tables m s.kernel 1024) (s.user ∷ (tables m s.user 1024 ++ [])) in
    let b = length-append (tables m s.user 1024) [] in
    omega (arith, a, b)

kernel-keep : (s : Shadow) (m m' : List ℕ) → KeepsTables s m m' → Keep m m' s.kernel 1024
kernel-keep s m m' k = λ d l ne. k Kernel d l ne

user-keep : (s : Shadow) (m m' : List ℕ) → KeepsTables s m m' → Keep m m' s.user 1024
user-keep s m m' k = λ d l ne. k User d l ne

-- one table more in a view, and two
grew : (s : Shadow) (m m' : List ℕ) (side : Side) (d : ℕ) → KeepsTables s m m' → d < 1024 → dir m (root_of s side) d ≡ 0
    → HasTable s m' side d → length (held s m) + 1 ≤ length (held s m')
grew s m m' Kernel d k l z t =
    let a = held-count s m in let b = held-count s m' in let c = one-more m m' s.kernel 1024 d (kernel-keep s m m' k) l z t in
    let e = fewer m m' s.user 1024 (user-keep s m m' k) in omega (arith, a, b, c, e)
grew s m m' User d k l z t =
    let a = held-count s m in let b = held-count s m' in let c = one-more m m' s.user 1024 d (user-keep s m m' k) l z t in
    let e = fewer m m' s.kernel 1024 (kernel-keep s m m' k) in omega (arith, a, b, c, e)

grew-two : (s : Shadow) (m m' : List ℕ) (x y : Side) (d e : ℕ) → KeepsTables s m m' → d < 1024 → e < 1024 → (d ≡ e → ⊥)
    → dir m (root_of s x) d ≡ 0 → HasTable s m' x d → dir m (root_of s y) e ≡ 0 → HasTable s m' y e
    → length (held s m) + 2 ≤ length (held s m')
grew-two s m m' Kernel Kernel d e k l o ne z t u v =
    let a = held-count s m in let b = held-count s m' in let c = two-more m m' s.kernel 1024 d e (kernel-keep s m m' k) l o ne z t u v in
    let f = fewer m m' s.user 1024 (user-keep s m m' k) in omega (arith, a, b, c, f)
grew-two s m m' User User d e k l o ne z t u v =
    let a = held-count s m in let b = held-count s m' in let c = two-more m m' s.user 1024 d e (user-keep s m m' k) l o ne z t u v in
    let f = fewer m m' s.kernel 1024 (kernel-keep s m m' k) in omega (arith, a, b, c, f)
grew-two s m m' Kernel User d e k l o ne z t u v =
    let a = held-count s m in let b = held-count s m' in let c = one-more m m' s.kernel 1024 d (kernel-keep s m m' k) l z t in
    let f = one-more m m' s.user 1024 e (user-keep s m m' k) o u v in omega (arith, a, b, c, f)
grew-two s m m' User Kernel d e k l o ne z t u v =
    let a = held-count s m in let b = held-count s m' in let c = one-more m m' s.user 1024 d (user-keep s m m' k) l z t in
    let f = one-more m m' s.kernel 1024 e (kernel-keep s m m' k) o u v in omega (arith, a, b, c, f)

-- ---- for which directory indices

-- no table is new where no more frames are held
pub only-kept : (indices : ℕ → Bool) (s : Shadow) (m m' : List ℕ) → KeepsTables s m m' → length (held s m') ≤ length (held s m)
    → HasOpenedOnly indices s m → HasOpenedOnly indices s m'
only-kept indices s m m' k few h side index l t =
    elim (zero-or (dir m (root_of s side) index)) [
      | inl z ↦ absurd (let g = grew s m m' side index k l z t in omega (arith, g, few))
      | inr ne ↦ h side index l ne
    ]

-- a fill opens at most the table of its own index
pub only-has_tables_under : (indices : ℕ → Bool) (s : Shadow) (m m' : List ℕ) (at : Side) (opened : ℕ) → opened < 1024
    → HasOpened s m m' at opened → indices opened ≡ true → HasOpenedOnly indices s m → HasOpenedOnly indices s m'
only-has_tables_under indices s m m' at opened fits o may h side index l t =
    elim (zero-or (dir m (root_of s side) index)) [
      | inr ne ↦ h side index l ne
      | inl z ↦ elim (eqb_tells index opened) [
        | inl e ↦ subst (λ i. indices i ≡ true) (sym e.1) may
        | inr ne ↦ elim (zero-or (dir m (root_of s at) opened)) [
          | inl y ↦ absurd (let g = grew-two s m m' side at index opened o.others l fits ne.1 z t y o.there in let one = o.one in
              omega (arith, g, one))
          | inr there ↦ absurd (let g = grew s m m' side index o.others l z t in
              let same = ap (λ (fs : List ℕ). length fs) (o.already there) in omega (arith, g, same))
        ]
      ]
    ]

-- no table is there where only the roots are held
pub only-none : (indices : ℕ → Bool) (s : Shadow) (m : List ℕ) → length (held s m) ≤ 2 → HasOpenedOnly indices s m
only-none indices s m few side index l t = absurd (by side t)
  where
    some : (r n d : ℕ) → d < n → dir m r d ≢ 0 → 1 ≤ length (tables m r n)
    some r zero d l ne = absurd (omega (arith, l))
    some r (suc n) d l ne = at_last (cases_lt d n) (some r n d)
      where
        at_last : (d < n) ⊎ (n ≤ d) → (d < n → dir m r d ≢ 0 → 1 ≤ length (tables m r n)) → 1 ≤ length (tables m r (suc n))
        at_last (inl k) rest = let a = cons-count m r n in let b = rest k ne in omega (arith, a, b)
        at_last (inr k) rest =
            let e : d ≡ n = omega (arith, k, l) in
            let a = cons-count m r n in let b = count-some (dir m r n) (subst (λ x. dir m r x ≢ 0) e ne) in omega (arith, a, b)

    by : (side : Side) → dir m (root_of s side) index ≢ 0 → ⊥
    by Kernel t = let a = held-count s m in let b = some s.kernel 1024 index l t in omega (arith, a, b, few)
    by User t = let a = held-count s m in let b = some s.user 1024 index l t in omega (arith, a, b, few)

pub only-same : (indices : ℕ → Bool) (s : Shadow) (m m' : List ℕ) → SameIn (held s m) m m' → HasOpenedOnly indices s m
    → HasOpenedOnly indices s m'
only-same indices s m m' e h side index l t =
    let r = root_of s side in
    h side index l (λ z. t (dir-frame m m' r index (e.frames r (owned-root m r (roots s) (in-root s side))) l ∙ z))

-- ---- how many they are

eq-is : (x y : ℕ) → x ≡ y → eqb x y ≡ true
eq-is x y e = elim (eqb_tells x y) [ inl t ↦ t.0 | inr f ↦ absurd (f.1 e) ]

ne-is : (x y : ℕ) → (x ≡ y → ⊥) → eqb x y ≡ false
ne-is x y ne = elim (eqb_tells x y) [ inl t ↦ absurd (ne t.1) | inr f ↦ f.0 ]

eq-told : (x y : ℕ) → eqb x y ≡ true → x ≡ y
eq-told x y h = elim (eqb_tells x y) [ inl t ↦ t.1 | inr f ↦ absurd (let e = f.0 in cc) ]

pub eqb-turned : (x y : ℕ) → eqb x y ≡ eqb y x
eqb-turned x y = elim (eqb_tells x y) [ inl t ↦ t.0 ∙ sym (eq-is y x (sym t.1)) | inr f ↦ f.0 ∙ sym (ne-is y x (λ e. f.1 (sym e))) ]

equal : IsEquivalence eqb
equal = record { refl = λ x. eq-is x x refl; symm = eqb-turned; congr = λ x y z h. ap (λ (v : ℕ). eqb v z) (eq-told x y h) }

pub member-or : (x : ℕ) (xs : List ℕ) (q : ℕ) → is_member eqb (x ∷ xs) q ≡ true → (q ≡ x) ⊎ (is_member eqb xs q ≡ true)
member-or x xs q = by (eqb q x) refl
  where
    by : (b : Bool) → eqb q x ≡ b → (b || is_member eqb xs q) ≡ true → (q ≡ x) ⊎ (is_member eqb xs q ≡ true)
    by true is h = inl (eq-told q x is)
    by false is h = inr h

pub member-next : (x : ℕ) (xs : List ℕ) (q : ℕ) → is_member eqb xs q ≡ true → is_member eqb (x ∷ xs) q ≡ true
member-next x xs q h = by (eqb q x)
  where
    by : (b : Bool) → (b || is_member eqb xs q) ≡ true
    by true = refl
    by false = h

pub unique-member : (xs : List ℕ) (q : ℕ) → is_member eqb xs q ≡ true → is_member eqb (unique_keys eqb xs) q ≡ true
unique-member [] q h = h
unique-member (x ∷ xs) q h = by (is_member eqb xs x) refl (unique-member xs q) (member-or x xs q h)
  where
    by : (b : Bool) → is_member eqb xs x ≡ b → (is_member eqb xs q ≡ true → is_member eqb (unique_keys eqb xs) q ≡ true) → (q ≡ x)
        ⊎ (is_member eqb xs q ≡ true)
        → is_member eqb (cond b (unique_keys eqb xs) (x ∷ unique_keys eqb xs)) q ≡ true
    by true is k (inl e) = k (subst (λ (v : ℕ). is_member eqb xs v ≡ true) (sym e) is)
    by true is k (inr m) = k m
    by false is k (inl e) = ap (λ b. b || is_member eqb (unique_keys eqb xs) q) (eq-is q x e)
    by false is k (inr m) = member-next x (unique_keys eqb xs) q (k m)

-- the indices of the tables of a view, below n
with_index : ℕ → ℕ → List ℕ → List ℕ
with_index zero n ns = ns
with_index (suc w) n ns = n ∷ ns

named : List ℕ → ℕ → ℕ → List ℕ
named m r zero = []
named m r (suc n) = with_index (dir m r n) n (named m r n)

with-length : (w n : ℕ) (ns : List ℕ) → length (with_index w n ns) ≡ count w + length ns
unfolding with_index count
with-length zero n ns = omega arith
with-length (suc w) n ns = omega arith

named-length : (m : List ℕ) (r n : ℕ) → length (named m r n) ≡ length (tables m r n)
unfolding named
named-length m r zero = sym (none-count m r)
named-length m r (suc n) =
    let a = with-length (dir m r n) n (named m r n) in let b = cons-count m r n in let c = named-length m r n in omega (arith, a, b, c)

-- each is below n, and names a table
with-all : (P : ℕ → Type 0) (w n : ℕ) (ns : List ℕ) → (w ≢ 0 → P n) → AllByRecursion P ns → AllByRecursion P (with_index w n ns)
unfolding with_index
with-all P zero n ns h k = k
with-all P (suc w) n ns h k = (h (λ e. omega (arith, e)), k)

wider-all : (P Q : ℕ → Type 0) (ns : List ℕ) → ((x : ℕ) → P x → Q x) → AllByRecursion P ns → AllByRecursion Q ns
wider-all P Q [] h k = tt
wider-all P Q (x ∷ ns) h k = (h x k.0, wider-all P Q ns h k.1)

abbrev Names : List ℕ → ℕ → ℕ → ℕ → Type 0
Names m r n d = (d < n) × (dir m r d ≢ 0)

named-all : (m : List ℕ) (r n : ℕ) → AllByRecursion (Names m r n) (named m r n)
unfolding named
named-all m r zero = tt
named-all m r (suc n) =
    with-all (Names m r (suc n)) (dir m r n) n (named m r n) (λ ne. (omega arith, ne))
    (wider-all (Names m r n) (Names m r (suc n)) (named m r n) (λ d h. (let l = h.0 in omega (arith, l), h.1)) (named-all m r n))

with-distinct : (w n : ℕ) (ns : List ℕ) → AllByRecursion (λ x. x < n) ns → IsDistinct eqb ns → IsDistinct eqb (with_index w n ns)
unfolding with_index IsDistinct
with-distinct zero n ns below d = d
with-distinct (suc w) n ns below d =
    (wider-all (λ x. x < n) (λ x. eqb n x ≡ false) ns (λ x l. ne-is n x (λ e. omega (arith, e, l))) below, d)

named-distinct : (m : List ℕ) (r n : ℕ) → IsDistinct eqb (named m r n)
unfolding named IsDistinct
named-distinct m r zero = tt
named-distinct m r (suc n) = with-distinct (dir m r n) n (named m r n)
    (wider-all (Names m r n) (λ x. x < n) (named m r n) (λ x h. h.0) (named-all m r n)) (named-distinct m r n)

member-holds : (P : ℕ → Type 0) (ns : List ℕ) (q : ℕ) → AllByRecursion P ns → is_member eqb ns q ≡ true → P q
member-holds P [] q h m = absurd (let e : false ≡ true = m in cc)
member-holds P (x ∷ ns) q h m = elim (member-or x ns q m) [ inl e ↦ subst P (sym e) h.0 | inr k ↦ member-holds P ns q h.1 k ]

view-size : (m : List ℕ) (r : ℕ) (xs : List ℕ) → ((d : ℕ) → d < 1024 → dir m r d ≢ 0 → is_member eqb xs d ≡ true)
    → length (tables m r 1024) ≤ distinct_count eqb xs
view-size m r xs h =
    let a = length-le_from_is_member equal (named m r 1024) (unique_keys eqb xs) (named-distinct m r 1024)
    (λ q k. unique-member xs q (let n = member-holds (Names m r 1024) (named m r 1024) q (named-all m r 1024) k in h q n.0 n.1)) in
    let b = named-length m r 1024 in
    omega (arith, a, b)

-- two frames, and one for each directory index in each view
pub held-size : (indices : ℕ → Bool) (s : Shadow) (m : List ℕ) (xs : List ℕ) → HasOpenedOnly indices s m
    → ((index : ℕ) → index < 1024 → indices index ≡ true → is_member eqb xs index ≡ true)
    → length (held s m) ≤ 2 + 2 * distinct_count eqb xs
held-size indices s m xs only all =
    let a = held-count s m in
    let b = view-size m s.kernel xs (λ d l ne. all d l (only Kernel d l ne)) in
    let c = view-size m s.user xs (λ d l ne. all d l (only User d l ne)) in
    omega (arith, a, b, c)
