-- The index is right, by a test of each row.
use Rattle.std.proofs.Common.{◌≡◌, ℕ, zero, suc, ◌+◌, ◌-◌, ◌<◌, ◌≤◌, Bool, true, false, List, [], ◌∷◌, length, get_or, Err, eqb, refl, sym, ap, subst, ◌∙◌, inl, inr, ◌⊎◌, arith}
use Rattle.std.specs.Prelude.{◌==◌, ◌&&◌, not, nat_lt, nat_le, slice_index, if◌then◌else◌}
use Rattle.std.specs.List.{Contains, list_any}
use Rattle.std.proofs.lemmas.Bool.{eqb-true, ltb-true, leb-true, cases_lt, cases_Bool, and_parts}
use Rattle.std.proofs.lemmas.Map.Views.{Contains-from_any}
use Rattle.std.proofs.lemmas.List.{get_or_default}
use Rattle.ia32_rows.specs.declared.row.Miss.TheVariants.{Short, Outside}
use Rattle.ia32_rows.specs.declared.row.Lead.{Lead}
use Rattle.ia32_rows.specs.declared.row.Lead.TheVariants as lead
use Rattle.ia32_rows.specs.declared.row.Form.{Form}
use Rattle.ia32_rows.specs.declared.row.Row.{Row}
use Rattle.ia32_rows.specs.Reader.{Reader, and_then, ◌>>=◌}
use Rattle.ia32_rows.specs.Spelling.{first_code, last_code, has_code, lead_at, coded_at, parts_at}
use Rattle.ia32_rows.specs.Rows.{rows}
use Rattle.ia32_rows.proofs.Readers.{tested}
use Rattle.ia32_rows.proofs.Apart.{not_both}
use Rattle.ia32_decode.specs.Index.{key, listed, Misses, IsIndex}

-- ---- the test

abbrev member : ℕ → List ℕ → Bool
member n ns = list_any (eqb n) ns

abbrev all_under : ℕ → (ℕ → Bool) → Bool
all_under zero test = true
all_under (suc n) test = test n && all_under n test

-- the number is in the list of each byte that the opcode may be
abbrev codes_listed : (ℕ → List ℕ) → ℕ → Form → Bool
codes_listed lists n form = all_under (suc (last_code form) - first_code form) (λ i. member n (lists (first_code form + i)))

abbrev by_lead : (ℕ → List ℕ) → ℕ → Form → Lead → Bool
by_lead lists n form lead.Nothing = not (has_code form 0x0f) && codes_listed lists n form
by_lead lists n form lead.Word = member n (lists 0x66)
by_lead lists n form lead.Repeat = member n (lists 0xf3)
by_lead lists n form lead.Escape = codes_listed (λ b. lists (256 + b)) n form

abbrev all_rows : (ℕ → List ℕ) → ℕ → List Row → Bool
all_rows lists n [] = true
all_rows lists n (r ∷ rs) = by_lead lists n r.form r.form.lead && all_rows lists (suc n) rs

abbrev is_escape : Lead → Bool
is_escape lead.Escape = true
is_escape _ = false

-- the first row of a list
abbrev first_row : List ℕ → Row → Row
first_row ns other = get_or rows (get_or ns 0 0) other

abbrev pub rows_are_listed : List ℕ → List ℕ → Bool
rows_are_listed starts numbers = all_rows (listed starts numbers) 0 rows

-- each list is a part of the whole, of numbers below the count of rows
abbrev number_below : ℕ → List ℕ → ℕ → Bool
number_below count ns i = nat_lt (slice_index ns i) count

abbrev in_order : List ℕ → ℕ → Bool
in_order starts k = nat_le (slice_index starts k) (slice_index starts (k + 1))

abbrev ends_within : List ℕ → List ℕ → ℕ → Bool
ends_within starts numbers k = nat_le (slice_index starts (k + 1)) (length numbers)

abbrev list_is_part : ℕ → List ℕ → List ℕ → ℕ → Bool
list_is_part count starts numbers k = in_order starts k && ends_within starts numbers k
    && all_under (length (listed starts numbers k)) (number_below count (listed starts numbers k))

abbrev pub lists_are_parts : List ℕ → List ℕ → Bool
lists_are_parts starts numbers = all_under 512 (list_is_part (length rows) starts numbers)

-- a row is listed where there is no byte, and one after 0F where there is no second
abbrev pub first_is_listed : List ℕ → List ℕ → Row → Bool
first_is_listed starts numbers other =
    nat_lt 0 (length (listed starts numbers 0)) && nat_lt 0 (length (listed starts numbers 0x0f))
    && is_escape (first_row (listed starts numbers 0x0f) other).form.lead

-- ---- what the test says

under : (n : ℕ) (test : ℕ → Bool) → all_under n test ≡ true → (k : ℕ) → k < n → test k ≡ true
under zero test h k lt = absurd (omega arith)
under (suc n) test h k lt =
    let s = and_parts (test n) (all_under n test) h in
    elim (cases_lt k n) [
      | inl less ↦ under n test s.1 k less
      | inr ge ↦ let same : n ≡ k = omega arith in subst (λ m. test m ≡ true) same s.0
    ]

code_listed : (lists : ℕ → List ℕ) (n : ℕ) (form : Form) → codes_listed lists n form ≡ true → (b : ℕ) → has_code form b ≡ true
    → member n (lists b) ≡ true
code_listed lists n form h b c =
    let s = and_parts (nat_le (first_code form) b) (nat_le b (last_code form)) c in
    let lo = leb-true (first_code form) b s.0 in
    let hi = leb-true b (last_code form) s.1 in
    let same : first_code form + (b - first_code form) ≡ b = omega (arith, lo) in
    subst (λ k. member n (lists k) ≡ true) same
    (under (suc (last_code form) - first_code form) _ h (b - first_code form) (omega (arith, lo, hi)))

-- ---- a row that is not listed meets a wrong byte

if_passed : {A : Type 0} (t : Bool) (b : ℕ) (bytes : List ℕ) (f : ℕ → Reader A) → (t ≡ true → and_then (tested t b bytes) f ≡ Err Outside)
    → and_then (tested t b bytes) f ≡ Err Outside
if_passed true b bytes f h = h refl
if_passed false b bytes f h = refl

-- bytes for which each row that they may begin reports that one is missing are left out
abbrev Enough : List ℕ → Type 0
Enough [] = ⊥
Enough (b ∷ []) = (b == 0x0f) ≡ true → ⊥
Enough (b ∷ c ∷ more) = Unit {0}

-- a row with no byte before its opcode has not the opcode 0F
not_0f : (form : Form) (b : ℕ) → not (has_code form 0x0f) ≡ true → has_code form b ≡ true → (b == 0x0f) ≡ false
not_0f form b h c =
    elim (cases_Bool (b == 0x0f)) [
      | inl e ↦ absurd (not_both (has_code form 0x0f) (ap (has_code form) (sym (eqb-true b 0x0f e)) ∙ c) h)
      | inr e ↦ e
    ]

key_is : (b x : ℕ) (more : List ℕ) → b ≡ x → (x == 0x0f) ≡ false → key (b ∷ more) ≡ x
key_is b x [] e f = e
key_is b x (c ∷ more) e f = ap (λ y. key (y ∷ c ∷ more)) e ∙ ap (λ t. if t then 256 + c else x) f

missed : (lists : ℕ → List ℕ) (n : ℕ) (form : Form) (l : Lead) → by_lead lists n form l ≡ true → (bytes : List ℕ)
    → (member n (lists (key bytes)) ≡ true → (lead_at l >>= λ _. coded_at form) bytes ≡ Err Outside) → Enough bytes
    → (lead_at l >>= λ _. coded_at form) bytes ≡ Err Outside
unfolding lead_at coded_at
missed lists n form l t [] h e = absurd e
missed lists n form lead.Nothing t (b ∷ more) h e =
    let s = and_parts (not (has_code form 0x0f)) (codes_listed lists n form) t in
    if_passed (has_code form b) b more _ (λ c.
    h (subst (λ k. member n (lists k) ≡ true) (sym (key_is b b more refl (not_0f form b s.0 c))) (code_listed lists n form s.1 b c)))
missed lists n form lead.Word t (b ∷ more) h e =
    if_passed (b == 0x66) b more _ (λ w. h (subst (λ k. member n (lists k) ≡ true) (sym (key_is b 0x66 more (eqb-true b 0x66 w) refl)) t))
missed lists n form lead.Repeat t (b ∷ more) h e =
    if_passed (b == 0xf3) b more _ (λ w. h (subst (λ k. member n (lists k) ≡ true) (sym (key_is b 0xf3 more (eqb-true b 0xf3 w) refl)) t))
missed lists n form lead.Escape t (b ∷ []) h e = if_passed (b == 0x0f) b [] _ (λ w. absurd (e w))
missed lists n form lead.Escape t (b ∷ c ∷ more) h e =
    if_passed (b == 0x0f) b (c ∷ more) _ (λ w.
    let opened = ap (λ t. and_then (tested t b (c ∷ more)) (λ _. coded_at form)) w in
    let at : key (b ∷ c ∷ more) ≡ 256 + c = ap (λ t. if t then 256 + c else b) w in
    opened ∙ if_passed (has_code form c) c more _ (λ d.
    sym opened ∙ h (subst (λ k. member n (lists k) ≡ true) (sym at) (code_listed (λ b. lists (256 + b)) n form t c d))))

row_test : (lists : ℕ → List ℕ) (k n i : ℕ) (rs : List Row) (other : Row) → all_rows lists k rs ≡ true → n ≡ k + i → i < length rs
    → by_lead lists n (get_or rs i other).form (get_or rs i other).form.lead ≡ true
row_test lists k n i [] other h e lt = absurd (omega arith)
row_test lists k n zero (r ∷ rs) other h e lt =
    let same : k ≡ n = omega (arith, e) in
    subst (λ m. by_lead lists m r.form r.form.lead ≡ true) same
    (and_parts (by_lead lists k r.form r.form.lead) (all_rows lists (suc k) rs) h).0
row_test lists k n (suc i) (r ∷ rs) other h e lt =
    row_test lists (suc k) n i rs other (and_parts (by_lead lists k r.form r.form.lead) (all_rows lists (suc k) rs) h).1
    (omega (arith, e)) (omega (arith, lt))

-- no row meets a wrong byte where there is none, and none with 0F before its opcode meets one at 0F alone
no_wrong : (form : Form) (l : Lead) → (lead_at l >>= λ _. coded_at form) [] ≡ Err Outside → ⊥
unfolding lead_at coded_at
no_wrong form lead.Nothing e = cc
no_wrong form lead.Word e = cc
no_wrong form lead.Repeat e = cc
no_wrong form lead.Escape e = cc

no_second : (form : Form) (l : Lead) → is_escape l ≡ true → (lead_at l >>= λ _. coded_at form) (0x0f ∷ []) ≡ Err Outside → ⊥
unfolding lead_at coded_at
no_second form lead.Escape t e = cc
no_second form _ t e = cc

abbrev AllMissed : (ℕ → List ℕ) → List ℕ → Type 0
AllMissed lists bytes = (n : ℕ) → Contains (lists (key bytes)) n → Misses bytes n

first_number : (ns : List ℕ) → nat_lt 0 (length ns) ≡ true → Contains ns (get_or ns 0 0)
first_number ns h =
    let lt = ltb-true 0 (length ns) h in
    (0, lt, get_or_default ns 0 (get_or ns 0 0) 0 lt)

enough : (starts numbers : List ℕ) (other : Row) → first_is_listed starts numbers other ≡ true → (bytes : List ℕ)
    → AllMissed (listed starts numbers) bytes → Enough bytes
unfolding parts_at
enough starts numbers other t [] h =
    let a = and_parts (nat_lt 0 (length (listed starts numbers 0)) && nat_lt 0 (length (listed starts numbers 0x0f))) _ t in
    let ns = listed starts numbers 0 in
    no_wrong (first_row ns other).form (first_row ns other).form.lead
    (h (get_or ns 0 0) (first_number ns (and_parts (nat_lt 0 (length ns)) _ a.0).0) other)
enough starts numbers other t (b ∷ []) h = λ w.
    let a = and_parts (nat_lt 0 (length (listed starts numbers 0)) && nat_lt 0 (length (listed starts numbers 0x0f))) _ t in
    let ns = listed starts numbers 0x0f in
    let g = subst (λ b. AllMissed (listed starts numbers) (b ∷ [])) (eqb-true b 0x0f w) h in
    no_second (first_row ns other).form (first_row ns other).form.lead a.1
    (g (get_or ns 0 0) (first_number ns (and_parts (nat_lt 0 (length (listed starts numbers 0))) _ a.0).1) other)
enough starts numbers other t (b ∷ c ∷ more) h = tt

whole : (starts numbers : List ℕ) → rows_are_listed starts numbers ≡ true
    → ((other : Row) → first_is_listed starts numbers other ≡ true) → (bytes : List ℕ)
    → AllMissed (listed starts numbers) bytes → (n : ℕ) → n < length rows → Misses bytes n
unfolding parts_at
whole starts numbers t first bytes h n lt other =
    missed (listed starts numbers) n (get_or rows n other).form (get_or rows n other).form.lead
    (row_test (listed starts numbers) 0 n n rows other t (omega arith) lt) bytes
    (λ m. h n (Contains-from_any {eq = eqb} eqb-true n (listed starts numbers (key bytes)) m) other)
    (enough starts numbers other (first other) bytes h)

part : (starts numbers : List ℕ) → lists_are_parts starts numbers ≡ true → (k : ℕ) → k < 512
    → (slice_index starts k ≤ slice_index starts (k + 1)) × (slice_index starts (k + 1) ≤ length numbers)
    × ((i : ℕ) → i < length (listed starts numbers k) → slice_index (listed starts numbers k) i < length rows)
part starts numbers t k lt =
    let ns = listed starts numbers k in
    let a = and_parts (in_order starts k && ends_within starts numbers k) (all_under (length ns) (number_below (length rows) ns))
    (under 512 (list_is_part (length rows) starts numbers) t k lt) in
    let b = and_parts (in_order starts k) (ends_within starts numbers k) a.0 in (
      leb-true (slice_index starts k) (slice_index starts (k + 1)) b.0,
      leb-true (slice_index starts (k + 1)) (length numbers) b.1,
      λ i at. ltb-true (slice_index ns i) (length rows) (under (length ns) (number_below (length rows) ns) a.1 i at),
    )

pub is_index : (starts numbers : List ℕ) → length starts ≡ 513 → lists_are_parts starts numbers ≡ true
    → rows_are_listed starts numbers ≡ true → ((other : Row) → first_is_listed starts numbers other ≡ true) → IsIndex starts numbers
is_index starts numbers count parts all first = record {
  keys = count;
  order = λ k lt. (part starts numbers parts k lt).0;
  ends = λ k lt. (part starts numbers parts k lt).1;
  below = λ k lt i at. (part starts numbers parts k lt).2 i at;
  whole = whole starts numbers all first;
}

-- the first rows of a list meet a wrong byte
abbrev pub FirstMiss : List ℕ → List ℕ → ℕ → Type 0
FirstMiss ns bytes count = (k : ℕ) → k < count → Misses bytes (slice_index ns k)

pub misses : (table : List Row) → table ≡ rows → (bytes : List ℕ) (n : ℕ) (d : Row) → n < length table
    → parts_at (get_or table n d).form bytes ≡ Err Outside → Misses bytes n
misses table same bytes n d lt e other =
    ap (λ t. parts_at (get_or t n other).form bytes) (sym same)
    ∙ ap (λ (r : Row). parts_at r.form bytes) (get_or_default table n other d lt) ∙ e

pub none_left : (starts numbers : List ℕ) → IsIndex starts numbers → (bytes : List ℕ) (count : ℕ)
    → length (listed starts numbers (key bytes)) ≤ count → FirstMiss (listed starts numbers (key bytes)) bytes count
    → (n : ℕ) → n < length rows → Misses bytes n
none_left starts numbers index bytes count le h =
    index.whole bytes (λ n c. subst (Misses bytes) c.2
    (subst (λ m. Misses bytes m) (get_or_default (listed starts numbers (key bytes)) c.0 0 n c.1) (h c.0 (omega (arith, c.1, le)))))
