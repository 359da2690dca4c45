-- What a table of forms that begin differently has in common: at most one of them reads any given bytes.
use Rattle.std.proofs.Common.{◌≡◌, ℕ, zero, suc, ◌<◌, ◌≤◌, Bool, true, List, [], ◌∷◌, ◌++◌, length, get_or, map, Ok, Err, refl, sym, ap, subst, ◌∙◌, inl, inr, ◌⊎◌, append_assoc, arith}
use Rattle.std.specs.Prelude.{nat_le}
use Rattle.std.specs.List.{list_all, Contains}
use Rattle.std.proofs.lemmas.Bool.{cases_lt, leb-true, and_parts}
use Rattle.std.proofs.lemmas.List.{get_or_default, length-append}
use Rattle.std.proofs.lemmas.List.Sums.{AllPass-from_list_all}
use Rattle.ia32_types.specs.declared.insn.Insn.{Insn}
use Rattle.ia32_rows.specs.declared.row.Miss.TheVariants.{Outside}
use Rattle.ia32_rows.specs.declared.row.Form.{Form}
use Rattle.ia32_rows.specs.declared.row.Row.{Row}
use Rattle.ia32_rows.specs.declared.row.RefusedRow.{RefusedRow}
use Rattle.ia32_rows.specs.declared.row.Parts.{Parts}
use Rattle.ia32_rows.specs.Reader.{Reading}
use Rattle.ia32_rows.specs.Spelling.{parts_at, insn_of}
use Rattle.ia32_rows.specs.Spells.{Spells}
use Rattle.ia32_rows.specs.Rows.{rows, refused_rows}
use Rattle.ia32_rows.proofs.Readers.{Reads, more_reads, same_read}
use Rattle.ia32_rows.proofs.Fields.{addressing_works, form_works, form_most, form_reads, none_read}
use Rattle.ia32_rows.proofs.Apart.{apart, all_apart, are_apart}

-- an instruction of this form has at most eleven bytes
abbrev pub few_bytes : Form → Bool
few_bytes form = nat_le (form_most form) 11

-- a table whose entries have forms
pub record IsTable {R : Type 0} (form : R → Form) (table : List R) : Type 0 where
  pub work : list_all form_works (map form table) ≡ true
  pub differ : all_apart (map form table) ≡ true
  pub short : list_all few_bytes (map form table) ≡ true

pub rows_table : IsTable (λ (r : Row). r.form) rows
unfolding rows
rows_table = record { work = refl; differ = refl; short = refl }

pub refused_table : IsTable (λ (r : RefusedRow). r.form) refused_rows
unfolding refused_rows
refused_table = record { work = refl; differ = refl; short = refl }

apart_below : (fs : List Form) → all_apart fs ≡ true → (i j : ℕ) (d e : Form) → i < j → j < length fs
    → apart (get_or fs i d) (get_or fs j e) ≡ true
apart_below [] h i j d e p q = absurd (omega arith)
apart_below (f ∷ fs) h zero zero d e p q = absurd (omega arith)
apart_below (f ∷ fs) h zero (suc j) d e p q =
    AllPass-from_list_all (apart f) fs (and_parts (list_all (apart f) fs) (all_apart fs) h).0 j e (omega arith)
apart_below (f ∷ fs) h (suc i) zero d e p q = absurd (omega arith)
apart_below (f ∷ fs) h (suc i) (suc j) d e p q =
    apart_below fs (and_parts (list_all (apart f) fs) (all_apart fs) h).1 i j d e (omega arith) (omega arith)

pub ok_not_outside : {A : Type 0} (r : Reading A) (x : A) (rest : List ℕ) → r ≡ Ok (x, rest) → r ≡ Err Outside → ⊥
ok_not_outside r x rest p q = cc

module _ {R : Type 0} (form : R → Form) (table : List R) (laws : IsTable form table) where
  form_at : (xs : List R) (k : ℕ) (d : R) → get_or (map form xs) k (form d) ≡ form (get_or xs k d)
  form_at [] k d = refl
  form_at (x ∷ xs) zero d = refl
  form_at (x ∷ xs) (suc k) d = form_at xs k d

  forms_length : (xs : List R) → length (map form xs) ≡ length xs
  forms_length [] = refl
  forms_length (x ∷ xs) = ap suc (forms_length xs)

  -- the form of an entry that is listed, by its place
  listed_form : (r : R) (c : Contains table r) → get_or (map form table) c.0 (form r) ≡ form r
  listed_form r c = form_at table c.0 r ∙ ap form c.2

  listed_pass : (test : Form → Bool) → list_all test (map form table) ≡ true → (r : R) → Contains table r → test (form r) ≡ true
  listed_pass test all r c = ap test (sym (listed_form r c)) ∙ AllPass-from_list_all test (map form table) all c.0 (form r)
      (omega (arith, c.1, forms_length table))

  pub listed_reads : (r : R) → Contains table r → Reads 11 (parts_at (form r))
  listed_reads r c =
      more_reads (form_most (form r)) 11 (parts_at (form r)) (leb-true _ _ (listed_pass few_bytes laws.short r c))
      (form_reads (form r) (listed_pass form_works laws.work r c))

  listed_apart : (r s : R) (c : Contains table r) (d : Contains table s) → c.0 < d.0 → apart (form r) (form s) ≡ true
  listed_apart r s c d lt =
      subst (λ f. apart f (form s) ≡ true) (listed_form r c)
      (subst (λ f. apart (get_or (map form table) c.0 (form r)) f ≡ true) (listed_form s d)
      (apart_below (map form table) laws.differ c.0 d.0 (form r) (form s) lt (omega (arith, d.1, forms_length table))))

  -- Of two entries one is the other, or the other meets a wrong byte wherever the one reads.
  pub one_or_outside : (r s : R) → Contains table r → Contains table s → (bytes : List ℕ) (x : Parts) (rest : List ℕ)
      → parts_at (form r) bytes ≡ Ok (x, rest) → (r ≡ s) ⊎ (parts_at (form s) bytes ≡ Err Outside)
  one_or_outside r s c d bytes x rest e =
      elim (cases_lt c.0 d.0) [
        | inl lt ↦ inr ((are_apart (form r) (form s) (listed_apart r s c d lt)).left bytes x rest e)
        | inr le ↦ elim (cases_lt d.0 c.0) [
          | inl lt ↦ inr ((are_apart (form s) (form r) (listed_apart s r d c lt)).right bytes x rest e)
          | inr ge ↦
              let same : c.0 ≡ d.0 = omega arith in
              inl (sym c.2 ∙ ap (λ k. get_or table k r) same ∙ get_or_default table d.0 r s d.1 ∙ d.2)
        ]
      ]

  -- one entry alone reads the bytes
  pub same_row : (r s : R) → Contains table r → Contains table s → (bytes : List ℕ) (x y : Parts) (rest left : List ℕ)
      → parts_at (form r) bytes ≡ Ok (x, rest) → parts_at (form s) bytes ≡ Ok (y, left) → r ≡ s
  same_row r s c d bytes x y rest left e f =
      elim (one_or_outside r s c d bytes x rest e) [
        | inl h ↦ h
        | inr h ↦ absurd (ok_not_outside (parts_at (form s) bytes) y left f h)
      ]

  -- what an entry reads stays when more bytes follow
  pub more_follow : (r : R) → Contains table r → (bytes : List ℕ) (x : Parts) (rest : List ℕ) → parts_at (form r) bytes ≡ Ok (x, rest)
      → (more : List ℕ) → parts_at (form r) (bytes ++ more) ≡ Ok (x, rest ++ more)
  more_follow r c bytes x rest e more =
      let t = (listed_reads r c).takes bytes x rest e in
      ap (parts_at (form r)) (ap (λ bs. bs ++ more) t.parts ∙ append_assoc t.front rest more) ∙ t.again (rest ++ more)

  -- at most one front of the bytes is read by an entry, by one alone and in one way
  pub one_front : (r s : R) → Contains table r → Contains table s → (bytes : List ℕ) (x y : Parts) (rest left : List ℕ)
      → parts_at (form r) bytes ≡ Ok (x, rest) → parts_at (form s) bytes ≡ Ok (y, left) → (r ≡ s) × (x ≡ y) × (rest ≡ left)
  one_front r s c d bytes x y rest left e f =
      let same = same_row r s c d bytes x y rest left e f in
      let parts = same_read x y rest left (sym e ∙ ap (λ t. parts_at (form t) bytes) same ∙ f) in
      (same, parts.0, parts.1)

-- the same for the table of the instructions
pub row_works : (r : Row) → Contains rows r → addressing_works r.form.addressing ≡ true
row_works r c =
    let w = ap form_works (sym (listed_form (λ (t : Row). t.form) rows rows_table r c))
    ∙ AllPass-from_list_all form_works (map (λ (t : Row). t.form) rows) rows_table.work c.0 r.form
    (omega (arith, c.1, forms_length (λ (t : Row). t.form) rows rows_table rows)) in
    (and_parts _ (addressing_works r.form.addressing) w).1

pub row_reads : (r : Row) → Contains rows r → Reads 11 (parts_at r.form)
row_reads = listed_reads (λ (r : Row). r.form) rows rows_table

pub row_follows : (r : Row) → Contains rows r → (bytes : List ℕ) (x : Parts) (rest : List ℕ) → parts_at r.form bytes ≡ Ok (x, rest)
    → (more : List ℕ) → parts_at r.form (bytes ++ more) ≡ Ok (x, rest ++ more)
row_follows = more_follow (λ (r : Row). r.form) rows rows_table

pub one_row : (r s : Row) → Contains rows r → Contains rows s → (bytes : List ℕ) (x y : Parts) (rest left : List ℕ)
    → parts_at r.form bytes ≡ Ok (x, rest) → parts_at s.form bytes ≡ Ok (y, left) → (r ≡ s) × (x ≡ y) × (rest ≡ left)
one_row = one_front (λ (r : Row). r.form) rows rows_table

pub one_insn : (r s : Row) (x y : Parts) → r ≡ s → x ≡ y → insn_of r x ≡ insn_of s y
one_insn r s x y e f = ap (λ t. insn_of t x) e ∙ ap (insn_of s) f

pub one_meaning : (bytes : List ℕ) (i j : Insn) → Spells bytes i → Spells bytes j → i ≡ j
one_meaning bytes i j p q =
    let same = one_row p.row q.row p.listed q.listed bytes p.parts q.parts [] [] p.by_row.read q.by_row.read in
    p.by_row.means ∙ one_insn p.row q.row p.parts q.parts same.0 same.1 ∙ sym q.by_row.means

pub prefix_free : (bytes more : List ℕ) (i j : Insn) → Spells bytes i → Spells (bytes ++ more) j → more ≡ []
prefix_free bytes more i j p q =
    (one_row p.row q.row p.listed q.listed (bytes ++ more) p.parts q.parts more []
    (row_follows p.row p.listed bytes p.parts [] p.by_row.read more) q.by_row.read).2

pub not_empty : (bytes : List ℕ) (insn : Insn) → Spells bytes insn → 0 < length bytes
unfolding parts_at
not_empty [] insn s = absurd (none_read s.row.form s.row.form.lead s.parts [] s.by_row.read)
not_empty (b ∷ bytes) insn s = omega arith

pub at_most_eleven : (bytes : List ℕ) (insn : Insn) → Spells bytes insn → length bytes ≤ 11
at_most_eleven bytes insn s =
    let t = (row_reads s.row s.listed).takes bytes s.parts [] s.by_row.read in
    omega (arith, t.few, ap length t.parts, length-append t.front [])
