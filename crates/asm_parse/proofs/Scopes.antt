-- What every scope has: at most 65,536 different names, and those that are defined among them.
use Rattle.std.proofs.Common.{◌≡◌, ℕ, ◌+◌, ◌≤◌, Bool, true, false, cond, List, [], ◌∷◌, ◌++◌, length, Err, refl, sym, ◌∙◌, arith}
use Rattle.std.proofs.lemmas.List.{length-append}
use Rattle.std.proofs.lemmas.List.Folds.{list_any-append}
use Rattle.std.proofs.lemmas.Bool.{ltb-true, ltb-false}
use Rattle.std.proofs.lemmas.Cmp.{nat_list_eq_equiv}
use Rattle.std.proofs.lemmas.Map.Keys.{IsDistinct-push}
use Rattle.std.proofs.lemmas.Map.Made.{length-le_from_is_member}
use Rattle.std.specs.Prelude.{◌||◌, not, nat_lt}
use Rattle.std.specs.List.{IsDistinct}
use Rattle.std.specs.Str.{bytes_eq}
use Rattle.asm_lex.specs.declared.fault.SourceCause.{SourceCause}
use Rattle.asm_lex.specs.declared.fault.SourceCause.TheVariants as cause
use Rattle.asm_statement.specs.ScopeView.{ScopeView}
use Rattle.asm_source.specs.Names.{holds, added}
use Rattle.asm_source.proofs.Held.{holds_more, added_holds}
use Rattle.asm_statement.specs.Definers.{is_spent}
use Rattle.asm_statement.specs.Scope.{fresh, has_room}
use Rattle.asm_statement.specs.Statement.{noting}
use Rattle.asm_parse.specs.Statements.{IsSeen}

abbrev pub Each : (List ℕ → Type 0) → List (List ℕ) → Type 0
Each P [] = Unit {0}
Each P (n ∷ ns) = P n × Each P ns

-- Names of which each is such, and those of them that are defined.
pub record Good (P : List ℕ → Type 0) (names defined : List (List ℕ)) : Type 0 where
  pub few : length names ≤ 65536
  pub apart : IsDistinct bytes_eq names
  pub defined_apart : IsDistinct bytes_eq defined
  pub within : (q : List ℕ) → holds defined q ≡ true → holds names q ≡ true
  pub each : Each P names

abbrev pub GoodIn : (List ℕ → Type 0) → ScopeView → Type 0
GoodIn P sc = Good P sc.names sc.defined

pub fresh_good : (P : List ℕ → Type 0) → GoodIn P fresh
unfolding IsDistinct
fresh_good P = record { few = omega arith; apart = tt; defined_apart = tt; within = λ q h. h; each = tt }

each_end : (P : List ℕ → Type 0) (ns : List (List ℕ)) (n : List ℕ) → Each P ns → P n → Each P (ns ++ n ∷ [])
each_end P [] n h p = (p, tt)
each_end P (m ∷ ns) n h p = (h.0, each_end P ns n h.1 p)

pub holds_new : (ns : List (List ℕ)) (n q : List ℕ) → holds (added ns n) q ≡ true → (holds ns q ≡ false) → bytes_eq q n ≡ true
holds_new ns n q h none = by_test (holds ns n) h
  where
    alone : (b : Bool) → (b || false) ≡ true → b ≡ true
    alone true e = refl
    alone false e = e

    by_test : (t : Bool) → holds (cond t ns (ns ++ n ∷ [])) q ≡ true → bytes_eq q n ≡ true
    by_test true e = absurd cc
    by_test false e = alone (bytes_eq q n) (sym (rw none refl) ∙ (sym (list_any-append (λ (m : List ℕ). bytes_eq q m) ns (n ∷ [])) ∙ e))

added_apart : (ns : List (List ℕ)) (n : List ℕ) → IsDistinct bytes_eq ns → IsDistinct bytes_eq (added ns n)
added_apart ns n h = by_test (holds ns n) refl
  where
    by_test : (t : Bool) → holds ns n ≡ t → IsDistinct bytes_eq (cond t ns (ns ++ n ∷ []))
    by_test true e = h
    by_test false e = IsDistinct-push nat_list_eq_equiv ns n h e

added_each : (P : List ℕ → Type 0) (ns : List (List ℕ)) (n : List ℕ) → Each P ns → P n → Each P (added ns n)
added_each P ns n h p = by_test (holds ns n)
  where
    by_test : (t : Bool) → Each P (cond t ns (ns ++ n ∷ []))
    by_test true = h
    by_test false = each_end P ns n h p

pub added_few : (ns : List (List ℕ)) (n : List ℕ) → (holds ns n || nat_lt (length ns) 65536) ≡ true → length ns ≤ 65536
    → length (added ns n) ≤ 65536
added_few ns n room few = by_test (holds ns n) room
  where
    by_test : (t : Bool) → (t || nat_lt (length ns) 65536) ≡ true → length (cond t ns (ns ++ n ∷ [])) ≤ 65536
    by_test true h = few
    by_test false h = omega (arith, ltb-true (length ns) 65536 h, length-append ns (n ∷ []))

pub same_holds : (ns : List (List ℕ)) (q n : List ℕ) → bytes_eq q n ≡ true → holds ns q ≡ holds ns n
same_holds [] q n e = refl
same_holds (m ∷ ns) q n e = rw (nat_list_eq_equiv.congr q n m e, same_holds ns q n e) refl

noted_good : (P : List ℕ → Type 0) (sc : ScopeView) (n : List ℕ) → has_room sc n ≡ true → P n → GoodIn P sc
    → Good P (added sc.names n) sc.defined
noted_good P sc n room p g = record {
  few = added_few sc.names n room g.few;
  apart = added_apart sc.names n g.apart;
  defined_apart = g.defined_apart;
  within = λ q h. holds_more sc.names n q (g.within q h);
  each = added_each P sc.names n g.each p;
}

pub seen_good : (P : List ℕ → Type 0) {sc sc2 : ScopeView} {d : Bool} {n : List ℕ} → IsSeen sc d n sc2 → P n → GoodIn P sc → GoodIn P sc2
seen_good P {sc} {n} (IsSeen.used room) p g = noted_good P sc n room p g
seen_good P {sc} {n} (IsSeen.defined new room) p g =
    let k = noted_good P sc n room p g in
    record {
      few = k.few;
      apart = k.apart;
      defined_apart = added_apart sc.defined n g.defined_apart;
      within = λ q h. within q h (holds sc.defined q) refl;
      each = k.each;
    }
  where
    within : (q : List ℕ) → holds (added sc.defined n) q ≡ true → (t : Bool) → holds sc.defined q ≡ t → holds (added sc.names n) q ≡ true
    within q h true e = holds_more sc.names n q (g.within q e)
    within q h false e = same_holds (added sc.names n) q n (holds_new sc.defined n q h e) ∙ added_holds sc.names n

-- ---- none is left

spent_many : (sc : ScopeView) → is_spent sc ≡ true → 65536 ≤ length sc.defined
spent_many sc h = by_test (nat_lt (length sc.defined) 65536) refl h
  where
    by_test : (t : Bool) → nat_lt (length sc.defined) 65536 ≡ t → not t ≡ true → 65536 ≤ length sc.defined
    by_test true e h = absurd cc
    by_test false e h = omega (arith, ltb-false (length sc.defined) 65536 e)

-- The names that are defined are no more than the names.
defined_few : (P : List ℕ → Type 0) (sc : ScopeView) → GoodIn P sc → length sc.defined ≤ length sc.names
defined_few P sc g = length-le_from_is_member nat_list_eq_equiv sc.defined sc.names g.defined_apart g.within

one_more : (P : List ℕ → Type 0) (sc : ScopeView) (n : List ℕ) → GoodIn P sc → holds sc.defined n ≡ false → holds sc.names n ≡ true
    → length sc.defined + 1 ≤ length sc.names
one_more P sc n g new known =
    let apart : IsDistinct bytes_eq (sc.defined ++ n ∷ []) = IsDistinct-push nat_list_eq_equiv sc.defined n g.defined_apart new in
    omega (
      arith,
      length-le_from_is_member nat_list_eq_equiv (sc.defined ++ n ∷ []) sc.names apart in_names,
      length-append sc.defined (n ∷ []),
    )
  where
    or_cases : (a b : Bool) → (a || (b || false)) ≡ true → a ≡ false → b ≡ true
    or_cases true b h e = absurd cc
    or_cases false true h e = refl
    or_cases false false h e = absurd cc

    by_test : (q : List ℕ) → (holds sc.defined q || (bytes_eq q n || false)) ≡ true → (t : Bool) → holds sc.defined q ≡ t
        → holds sc.names q ≡ true
    by_test q h true e = g.within q e
    by_test q h false e = same_holds sc.names q n (or_cases (holds sc.defined q) (bytes_eq q n) h e) ∙ known

    in_names : (q : List ℕ) → holds (sc.defined ++ n ∷ []) q ≡ true → holds sc.names q ≡ true
    in_names q h = by_test q (sym (list_any-append (λ (m : List ℕ). bytes_eq q m) sc.defined (n ∷ [])) ∙ h) (holds sc.defined q) refl

-- Where all are defined no name can be defined.
pub spent_noting : (P : List ℕ → Type 0) (sc : ScopeView) (n : List ℕ) → GoodIn P sc → is_spent sc ≡ true → (c : SourceCause)
    × (noting sc true n ≡ Err c)
spent_noting P sc n g spent = by_tests (holds sc.defined n) (has_room sc n) refl refl
  where
    no_room : (t : Bool) → holds sc.defined n ≡ false → holds sc.names n ≡ t → (t || nat_lt (length sc.names) 65536) ≡ true → ⊥
    no_room true new k h = omega (arith, one_more P sc n g new k, spent_many sc spent, g.few)
    no_room false new k h = omega (arith, ltb-true (length sc.names) 65536 h, defined_few P sc g, spent_many sc spent)

    by_tests : (t u : Bool) → holds sc.defined n ≡ t → has_room sc n ≡ u → (c : SourceCause) × (noting sc true n ≡ Err c)
    by_tests true u e f = (cause.DoubledLabel, rw e refl)
    by_tests false false e f = (cause.TooManySymbols, rw (e, f) refl)
    by_tests false true e f = absurd (no_room (holds sc.names n) e refl f)
