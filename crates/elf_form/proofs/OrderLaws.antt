-- The first part that passes the end.
use Rattle.std.specs.List.{Contains, find}
use Rattle.std.proofs.Common.{◌≡◌, ℕ, zero, suc, ◌+◌, ◌*◌, ◌<◌, ◌≤◌, Bool, true, false, ◌&&◌, cond, List, [], ◌∷◌, ◌++◌, length, map, filter, nat_lt, Option, Some, None, refl, sym, ap, ◌∙◌, inl, inr, subst, slice_get, arith}
use Rattle.std.specs.Prelude.{◌↔◌, option_map}
use Rattle.std.specs.Bool.{then_some}
use Rattle.std.specs.Option.{option_or}
use Rattle.std.proofs.lemmas.Bool.{cases_lt, le-ltb, lt-ltb}
use Rattle.guest_ram.specs.Bytes.{word32}
use Rattle.elf_form.specs.Header.{header_table, section_table, header_count, section_count, headers, sections, passes, has_contents, cut, named_parts}
use Rattle.elf_form.specs.Cut.{header_passes, section_passes, part_begins, cut_in_turn}
use Rattle.elf_form.specs.Order.{IsPast, IsFirstPast}
use Rattle.elf_form.proofs.Lowest.{some, has_first, has_later, first_or_later, has_none}

-- where the first of some parts begins that passes the end
past_in : ℕ → List (ℕ × ℕ) → Option ℕ
past_in size [] = None
past_in size (p ∷ ps) = cond (nat_lt size (p.0 + p.1)) (Some p.0) (past_in size ps)

one_more : (size : ℕ) (p : ℕ × ℕ) (ps : List (ℕ × ℕ))
    → past_in size (p ∷ ps) ≡ option_or (then_some (nat_lt size (p.0 + p.1)) p.0) (past_in size ps)
unfolding past_in
one_more size p ps = by (nat_lt size (p.0 + p.1)) where
  by : (b : Bool) → cond b (Some p.0) (past_in size ps) ≡ option_or (then_some b p.0) (past_in size ps)
  by true = refl
  by false = refl

past_found : (size : ℕ) (ps : List (ℕ × ℕ)) → past_in size ps ≡ option_map (λ p. p.0) (find (λ p. nat_lt size (p.0 + p.1)) ps)
unfolding past_in
past_found size [] = refl
past_found size (p ∷ ps) = by (nat_lt size (p.0 + p.1)) (past_found size ps) where
  by : (b : Bool) → past_in size ps ≡ option_map (λ q. q.0) (find (λ q. nat_lt size (q.0 + q.1)) ps)
      → cond b (Some p.0) (past_in size ps) ≡ option_map (λ q. q.0) (cond b (Some p) (find (λ q. nat_lt size (q.0 + q.1)) ps))
  by true e = refl
  by false e = e

else_nothing : (a : Option ℕ) → option_or a None ≡ a
else_nothing None = refl
else_nothing (Some at) = refl

past_append : (size : ℕ) (ps qs : List (ℕ × ℕ)) → past_in size (ps ++ qs) ≡ option_or (past_in size ps) (past_in size qs)
unfolding past_in
past_append size [] qs = refl
past_append size (p ∷ ps) qs = by (nat_lt size (p.0 + p.1)) (past_append size ps qs) where
  by : (b : Bool) → past_in size (ps ++ qs) ≡ option_or (past_in size ps) (past_in size qs)
      → cond b (Some p.0) (past_in size (ps ++ qs)) ≡ option_or (cond b (Some p.0) (past_in size ps)) (past_in size qs)
  by true e = refl
  by false e = e

-- the part that a program header names, and that of a section
abbrev named_by_header : List ℕ → ℕ → ℕ × ℕ
named_by_header bytes h = (word32 bytes (h + 4), word32 bytes (h + 16))

abbrev named_by_section : List ℕ → ℕ → ℕ × ℕ
named_by_section bytes s = (word32 bytes (s + 16), word32 bytes (s + 20))

module _ (bytes : List ℕ) where
  headers_past : (hs : List ℕ) → part_begins bytes 4 (find (header_passes bytes) hs) ≡ past_in (length bytes)
      (map (named_by_header bytes) hs)
  unfolding past_in
  headers_past [] = refl
  headers_past (h ∷ hs) = by (header_passes bytes h) (headers_past hs) where
    by : (b : Bool) → part_begins bytes 4 (find (header_passes bytes) hs) ≡ past_in (length bytes) (map (named_by_header bytes) hs)
        → part_begins bytes 4 (cond b (Some h) (find (header_passes bytes) hs)) ≡ cond b (Some (word32 bytes (h + 4)))
        (past_in (length bytes) (map (named_by_header bytes) hs))
    by true e = refl
    by false e = e

  sections_past : (ss : List ℕ) → part_begins bytes 16 (find (section_passes bytes) ss) ≡ past_in (length bytes)
      (map (named_by_section bytes) (filter (has_contents bytes) ss))
  unfolding past_in
  sections_past [] = refl
  sections_past (s ∷ ss) =
      by (has_contents bytes s) (passes bytes (word32 bytes (s + 16)) (word32 bytes (s + 20))) refl (sections_past ss) where
        by : (b c : Bool) → passes bytes (word32 bytes (s + 16)) (word32 bytes (s + 20)) ≡ c
            → part_begins bytes 16 (find (section_passes bytes) ss) ≡ past_in (length bytes)
            (map (named_by_section bytes) (filter (has_contents bytes) ss))
            → part_begins bytes 16 (cond (b && passes bytes (word32 bytes (s + 16)) (word32 bytes (s + 20))) (Some s)
            (find (section_passes bytes) ss)) ≡ past_in (length bytes) (map (named_by_section bytes)
            (cond b (s ∷ filter (has_contents bytes) ss) (filter (has_contents bytes) ss)))
        by false c is e = e
        by true c is e = both c is where
          both : (c : Bool) → passes bytes (word32 bytes (s + 16)) (word32 bytes (s + 20)) ≡ c
              → part_begins bytes 16 (cond (passes bytes (word32 bytes (s + 16)) (word32 bytes (s + 20))) (Some s)
              (find (section_passes bytes) ss)) ≡ cond (passes bytes (word32 bytes (s + 16)) (word32 bytes (s + 20))) (Some
              (word32 bytes (s + 16))) (past_in (length bytes) (map (named_by_section bytes) (filter (has_contents bytes) ss)))
          both true is = rw is refl
          both false is = rw is e

  turns_past : cut_in_turn bytes ≡ past_in (length bytes) (named_parts bytes)
  unfolding cut_in_turn
  turns_past =
      sym (
      one_more (length bytes) (0, 52) _
      ∙ ap (λ (o : Option ℕ). option_or (then_some (passes bytes 0 52) 0) o) (
      one_more (length bytes) (header_table bytes, 32 * header_count bytes) _
      ∙ ap (λ (o : Option ℕ). option_or (then_some (passes bytes (header_table bytes) (32 * header_count bytes)) (header_table bytes)) o) (
      one_more (length bytes) (section_table bytes, 40 * section_count bytes) _
      ∙ ap (λ (o : Option ℕ). option_or (then_some (passes bytes (section_table bytes) (40 * section_count bytes)) (section_table bytes)) o)
      (
      past_append (length bytes) (map (named_by_header bytes) (headers bytes))
      (map (named_by_section bytes) (filter (has_contents bytes) (sections bytes)))
      ∙ ap (λ (o : Option ℕ). option_or o
      (past_in (length bytes) (map (named_by_section bytes) (filter (has_contents bytes) (sections bytes)))))
      (sym (headers_past (headers bytes)))
      ∙ ap (λ (o : Option ℕ). option_or (part_begins bytes 4 (find (header_passes bytes) (headers bytes))) o)
      (sym (sections_past (sections bytes)))))))

  cut_past : cut bytes ≡ past_in (length bytes) (named_parts bytes)
  unfolding cut
  cut_past = sym (past_found (length bytes) (named_parts bytes))

  -- The first of the parts is that which is met first, one table after the other.
  pub cut_met : cut bytes ≡ cut_in_turn bytes
  cut_met = cut_past ∙ sym turns_past

module _ (size : ℕ) where
  past_so : (parts : List (ℕ × ℕ)) (at : ℕ) → past_in size parts ≡ Some at → IsFirstPast size parts at
  unfolding past_in
  past_so [] at e = absurd cc
  past_so (p ∷ ps) at e = elim (cases_lt size (p.0 + p.1)) [
    | inl lt ↦
        let is : some p.0 ≡ Some at = sym (ap (λ b. cond b (Some p.0) (past_in size ps)) (lt-ltb _ _ lt)) ∙ e in
        record { index = 0; part = p; there = refl; begins = cc; past = lt; before = λ j q l t. absurd (omega arith) }
    | inr le ↦
        let more = past_so ps at (sym (ap (λ b. cond b (Some p.0) (past_in size ps)) (le-ltb _ _ le)) ∙ e) in
        record {
          index = suc more.index;
          part = more.part;
          there = more.there;
          begins = more.begins;
          past = more.past;
          before = step le more;
        }
  ] where
    step : p.0 + p.1 ≤ size → (more : IsFirstPast size ps at) (j : ℕ) (q : ℕ × ℕ) → j < suc more.index
        → slice_get (p ∷ ps) j ≡ Some q → q.0 + q.1 ≤ size
    step le more zero q lt there = let same : p ≡ q =
        cc in let sum : p.0 + p.1 ≡ q.0 + q.1 = ap (λ (r : ℕ × ℕ). r.0 + r.1) same in omega (arith, sum, le)
    step le more (suc j) q lt there = more.before j q (omega arith) there

  so_past : (parts : List (ℕ × ℕ)) (index : ℕ) (part : ℕ × ℕ) → slice_get parts index ≡ Some part → size < part.0 + part.1
      → ((j : ℕ) (p : ℕ × ℕ) → j < index → slice_get parts j ≡ Some p → p.0 + p.1 ≤ size) → past_in size parts ≡ Some part.0
  unfolding past_in
  so_past [] index part there past before = absurd cc
  so_past (p ∷ ps) zero part there past before =
      let same : p ≡ part = cc in
      ap (λ (q : ℕ × ℕ). cond (nat_lt size (q.0 + q.1)) (Some q.0) (past_in size ps)) same
      ∙ ap (λ b. cond b (Some part.0) (past_in size ps)) (lt-ltb _ _ past)
  so_past (p ∷ ps) (suc k) part there past before =
      ap (λ b. cond b (Some p.0) (past_in size ps)) (le-ltb _ _ (before 0 p (omega arith) refl))
      ∙ so_past ps k part there past (λ j q lt at. before (suc j) q (omega arith) at)

pub cut_exact : (bytes : List ℕ) (at : ℕ) → (cut bytes ≡ Some at) ↔ IsFirstPast (length bytes) (named_parts bytes) at
cut_exact bytes at = (
  (λ e. past_so (length bytes) (named_parts bytes) at (sym (cut_past bytes) ∙ e)),
  (λ h. cut_past bytes ∙ so_past (length bytes) (named_parts bytes) h.index h.part h.there h.past h.before ∙ ap some h.begins),
)

-- ---- no part passes the end

pub there_contains : {A : Type 0} (xs : List A) (k : ℕ) (x : A) → slice_get xs k ≡ Some x → Contains xs x
there_contains [] k x e = absurd cc
there_contains (y ∷ ys) zero x e = let same : y ≡ x = cc in subst (Contains (y ∷ ys)) same (has_first y ys)
there_contains (y ∷ ys) (suc k) x e = has_later y x ys (there_contains ys k x e)

module _ (size : ℕ) where
  none_past : (parts : List (ℕ × ℕ)) (at : ℕ) → past_in size parts ≡ None → IsPast size parts at → ⊥
  unfolding past_in
  none_past [] at e h = has_none h.0 h.1
  none_past (p ∷ ps) at e (part, there, past, begins) = elim (cases_lt size (p.0 + p.1)) [
    | inl lt ↦ absurd (let is : some p.0 ≡ None = sym (ap (λ b. cond b (Some p.0) (past_in size ps)) (lt-ltb _ _ lt)) ∙ e in cc)
    | inr le ↦ elim (first_or_later p part ps there) [
      | inl same ↦ absurd (let sum : p.0 + p.1 ≡ part.0 + part.1 = ap (λ (r : ℕ × ℕ). r.0 + r.1) same in omega (arith, sum, le, past))
      | inr later ↦ none_past ps at (sym (ap (λ b. cond b (Some p.0) (past_in size ps)) (le-ltb _ _ le)) ∙ e) (part, later, past, begins)
    ]
  ]

  past_none : (parts : List (ℕ × ℕ)) (o : Option ℕ) → past_in size parts ≡ o → ((at : ℕ) → IsPast size parts at → ⊥) → o ≡ None
  past_none parts None e never = refl
  past_none parts (Some at) e never = let h =
      past_so size parts at e in absurd (never at (h.part, there_contains parts h.index h.part h.there, h.past, sym h.begins))

pub cut_none : (bytes : List ℕ) → (cut bytes ≡ None) ↔ ((at : ℕ) → IsPast (length bytes) (named_parts bytes) at → ⊥)
cut_none bytes = (
  (λ e at h. none_past (length bytes) (named_parts bytes) at (sym (cut_past bytes) ∙ e) h),
  (λ never. cut_past bytes ∙ past_none (length bytes) (named_parts bytes) (past_in (length bytes) (named_parts bytes)) refl never),
)
