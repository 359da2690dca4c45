-- Names that can still be said, and that can still be defined.
use Rattle.std.proofs.Common.{◌≡◌, ℕ, zero, suc, ◌+◌, ◌≤◌, ◌<◌, Bool, true, false, List, [], ◌∷◌, length, refl, ap, ◌∙◌, ◌⊎◌, inl, inr, arith}
use Rattle.std.proofs.lemmas.List.{length-replicate}
use Rattle.std.proofs.lemmas.Bool.{ltb-true, ltb-false, or_right}
use Rattle.std.proofs.lemmas.Cmp.{nat_list_eq_equiv}
use Rattle.std.proofs.lemmas.Slice.Eq.{bytes_eq-Decides}
use Rattle.std.proofs.lemmas.Map.Made.{length-le_from_is_member}
use Rattle.std.specs.Prelude.{◌||◌, not, nat_lt, replicate}
use Rattle.std.specs.List.{list_all}
use Rattle.std.specs.Str.{bytes_eq}
use Rattle.asm_lex.specs.Bytes.{class_of, is_mark, is_letter, is_word}
use Rattle.asm_statement.specs.ScopeView.{ScopeView}
use Rattle.asm_source.specs.Names.{holds}
use Rattle.asm_statement.specs.Definers.{is_spent}
use Rattle.asm_statement.specs.Scope.{has_room}
use Rattle.asm_parse.proofs.Scopes.{Each, GoodIn, same_holds}
use Rattle.asm_parse.proofs.Written.{IsName, letter, letter_name}

pub record Sayable (sc : ScopeView) : Type 0 where
  pub name : List ℕ
  pub is : IsName name
  pub room : has_room sc name ≡ true

pub sayable : (sc : ScopeView) → GoodIn IsName sc → Sayable sc
sayable sc g = by_room (nat_lt (length sc.names) 65536) refl
  where
    first_name : (ns : List (List ℕ)) → Each IsName ns → 1 ≤ length ns → (n : List ℕ) × IsName n × (holds ns n ≡ true)
    first_name [] each le = absurd (omega arith)
    first_name (n ∷ ns) each le = (n, each.0, rw (nat_list_eq_equiv.refl n) refl)

    by_room : (t : Bool) → nat_lt (length sc.names) 65536 ≡ t → Sayable sc
    by_room true e = record { name = letter; is = letter_name; room = or_right (holds sc.names letter) (nat_lt (length sc.names) 65536) e }
    by_room false e =
        let f = first_name sc.names g.each (omega (arith, ltb-false (length sc.names) 65536 e)) in
        record { name = f.0; is = f.1; room = rw f.2 refl }

pub record Definable (sc : ScopeView) : Type 0 where
  pub name : List ℕ
  pub is : IsName name
  pub room : has_room sc name ≡ true
  pub new : holds sc.defined name ≡ false

total : List (List ℕ) → ℕ
total [] = 0
total (n ∷ ns) = length n + total ns

long : List (List ℕ) → List ℕ
long ns = 97 ∷ replicate (total ns) 97

letters : (k : ℕ) → list_all is_word (replicate k 97) ≡ true
unfolding is_word is_letter
letters zero = refl
letters (suc k) = letters k

long_name : (ns : List (List ℕ)) → IsName (long ns)
unfolding long class_of is_mark is_letter
long_name ns = (refl, letters (total ns))

longer_new : (ns : List (List ℕ)) (x : List ℕ) → total ns + 1 ≤ length x → holds ns x ≡ false
unfolding total
longer_new [] x le = refl
longer_new (n ∷ ns) x le = by_test (bytes_eq x n) refl (longer_new ns x (omega arith))
  where
    by_test : (t : Bool) → bytes_eq x n ≡ t → holds ns x ≡ false → (bytes_eq x n || holds ns x) ≡ false
    by_test true e rest = let same : x ≡ n = (bytes_eq-Decides x n).0 e in absurd (omega (arith, ap length same))
    by_test false e rest = rw e rest

long_new : (ns : List (List ℕ)) → holds ns (long ns) ≡ false
unfolding long
long_new ns = longer_new ns (long ns) (omega (arith, length-replicate {A = ℕ} (total ns) 97))

-- a name that isn't defined, or all are
undefined : (defined ns : List (List ℕ)) → Each IsName ns → ((n : List ℕ) × IsName n × (holds ns n ≡ true) × (holds defined n ≡ false))
    ⊎ ((q : List ℕ) → holds ns q ≡ true → holds defined q ≡ true)
undefined defined [] each = inr (λ q h. absurd cc)
undefined defined (n ∷ ns) each = by_test (holds defined n) refl (undefined defined ns each.1)
  where
    either : (q : List ℕ) (t : Bool) → bytes_eq q n ≡ t → (t || holds ns q) ≡ true → holds defined n ≡ true
        → ((q : List ℕ) → holds ns q ≡ true → holds defined q ≡ true) → holds defined q ≡ true
    either q true e h d all = same_holds defined q n e ∙ d
    either q false e h d all = all q h

    by_test : (t : Bool) → holds defined n ≡ t → ((m : List ℕ) × IsName m × (holds ns m ≡ true) × (holds defined m ≡ false))
        ⊎ ((q : List ℕ) → holds ns q ≡ true → holds defined q ≡ true)
        → ((m : List ℕ) × IsName m × (holds (n ∷ ns) m ≡ true) × (holds defined m ≡ false))
        ⊎ ((q : List ℕ) → holds (n ∷ ns) q ≡ true → holds defined q ≡ true)
    by_test false d rest = inl (n, each.0, rw (nat_list_eq_equiv.refl n) refl, d)
    by_test true d (inl (m, is, k, new)) = inl (m, is, or_right (bytes_eq m n) (holds ns m) k, new)
    by_test true d (inr all) = inr (λ q h. either q (bytes_eq q n) refl h d all)

pub definable : (sc : ScopeView) → GoodIn IsName sc → is_spent sc ≡ false → Definable sc
definable sc g spent = by_room (nat_lt (length sc.names) 65536) refl
  where
    few : (t : Bool) → nat_lt (length sc.defined) 65536 ≡ t → not t ≡ false → length sc.defined < 65536
    few true e h = ltb-true (length sc.defined) 65536 e
    few false e h = absurd cc

    by_room : (t : Bool) → nat_lt (length sc.names) 65536 ≡ t → Definable sc
    by_room true e = record {
      name = long sc.defined;
      is = long_name sc.defined;
      room = or_right (holds sc.names (long sc.defined)) (nat_lt (length sc.names) 65536) e;
      new = long_new sc.defined;
    }
    by_room false e = elim (undefined sc.defined sc.names g.each) [
      | inl (n, is, k, new) ↦ record { name = n; is = is; room = rw k refl; new = new }
      | inr all ↦
          let le = length-le_from_is_member nat_list_eq_equiv sc.names sc.defined g.apart all in
          absurd (omega (arith, le, few (nat_lt (length sc.defined) 65536) refl spent, ltb-false (length sc.names) 65536 e))
    ]
