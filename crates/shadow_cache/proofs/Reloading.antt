-- A load of CR3, over what is kept for each of its values.
use Rattle.std.proofs.Common.{◌≡◌, ℕ, zero, suc, List, [], ◌∷◌, take, slice_get, remove, get_or, Bool, true, false, ◌||◌, cond, eqb, MatchOption, Option, Some, None, refl, sym, ap, ◌∙◌, subst, inl, inr, arith}
use Rattle.std.proofs.lemmas.Bool.Decides.{eqb_tells}
use Rattle.std.proofs.lemmas.Bool.{or_right}
use Rattle.std.proofs.lemmas.Option.{same_Some, none-some}
use Rattle.shadow_tables.specs.OtherRoot.{OtherRoot, IsSame, AreSame}
use Rattle.shadow_tables.specs.Slots.{ArePart, slot_at}
use Rattle.shadow_cache.specs.Pairs.{reads, any_reads, tables_of, AreUnmarked, OthersUnmarked}
use Rattle.shadow_cache.specs.Others.{AreKept, one_later, place_of}
use Rattle.shadow_cache.specs.After.{beside, mark_of, value_of}
use Rattle.shadow_cache.specs.OtherRoots.{other_root_of, other_roots_of}
use Rattle.shadow_cache.specs.Switched.{IsFresh, staying_pairs, Opens, ComesBack, IsSwitched}
use Rattle.shadow_cache.specs.Reloaded.{put_by, of_cr3, but_cr3, begun_root, or_begun, coming, beside_coming, staying}
use Rattle.shadow_cache.specs.Laws.{same-kept}
use Rattle.shadow_cache.specs.declared.pair.Pair.{Pair}
use Rattle.shadow_cache.proofs.Beside.{no-reads, tables-part, or-less}
use Rattle.shadow_cache.proofs.Coming.{any-remove, unmarked-at}
use Rattle.shadow_cache.proofs.Leaving.{any-at}
use Rattle.shadow_cache.proofs.Small.{some-none, none-later, later-is, later-none}

-- ---- the present pair is put by

left-by : (b : Bool) (p : Pair) (ps : List Pair) (m : List ℕ) → cond b (other_roots_of ps m) (other_root_of p m ∷ other_roots_of ps m)
    ≡ other_roots_of (cond b ps (p ∷ ps)) m
left-by true p ps m = refl
left-by false p ps m = refl

pub left-is : (p : Pair) (ps : List Pair) (m : List ℕ) → put_by (Some p.cr3) p.stale (reads p) (slot_at p.shadow m) (other_roots_of ps m)
    ≡ other_roots_of (staying_pairs (p ∷ ps)) m
left-is p ps m = left-by p.stale p ps m

left-unmarked-by : (b : Bool) (p : Pair) (ps : List Pair) → p.stale ≡ b → AreUnmarked ps → AreUnmarked (cond b ps (p ∷ ps))
left-unmarked-by true p ps e h = h
left-unmarked-by false p ps e h = (e, h)

pub left-unmarked : (p : Pair) (ps : List Pair) → OthersUnmarked (p ∷ ps) → AreUnmarked (staying_pairs (p ∷ ps))
left-unmarked p ps h = left-unmarked-by p.stale p ps refl h

-- ---- the pair of a value

find-none : (cr3 : ℕ) (ps : List Pair) (m : List ℕ) → place_of cr3 ps ≡ None → of_cr3 cr3 (other_roots_of ps m) ≡ None
find-none cr3 [] m e = refl
find-none cr3 (p ∷ ps) m e =
    elim (eqb_tells p.cr3 cr3) [
      | inl t ↦ absurd (some-none 0 (sym (ap (λ b. cond b (Some 0) (one_later (place_of cr3 ps))) t.0) ∙ e))
      | inr t ↦
          ap (λ b. cond b (Some (other_root_of p m)) (of_cr3 cr3 (other_roots_of ps m))) t.0
          ∙ find-none cr3 ps m (none-later (place_of cr3 ps) (sym (ap (λ b. cond b (Some 0) (one_later (place_of cr3 ps))) t.0) ∙ e))
    ]

record IsFound (cr3 : ℕ) (ps : List Pair) (rest : List Pair) (pair : Pair) (m : List ℕ) : Type 0 where
  value : pair.cr3 ≡ cr3
  found : of_cr3 cr3 (other_roots_of ps m) ≡ Some (other_root_of pair m)
  others : but_cr3 cr3 (other_roots_of ps m) ≡ other_roots_of rest m

found-first : (cr3 : ℕ) (p : Pair) (ps : List Pair) (m : List ℕ) → p.cr3 ≡ cr3 → eqb p.cr3 cr3 ≡ true → IsFound cr3 (p ∷ ps) ps p m
found-first cr3 p ps m e t =
    record {
      value = e;
      found = ap (λ b. cond b (Some (other_root_of p m)) (of_cr3 cr3 (other_roots_of ps m))) t;
      others = ap (λ b. cond b (other_roots_of ps m) (other_root_of p m ∷ but_cr3 cr3 (other_roots_of ps m))) t;
    }

found-later : (cr3 : ℕ) (p : Pair) (ps rest : List Pair) (x : Pair) (m : List ℕ) → eqb p.cr3 cr3 ≡ false → IsFound cr3 ps rest x m
    → IsFound cr3 (p ∷ ps) (p ∷ rest) x m
found-later cr3 p ps rest x m t f =
    record {
      value = f.value;
      found = ap (λ b. cond b (Some (other_root_of p m)) (of_cr3 cr3 (other_roots_of ps m))) t ∙ f.found;
      others = ap (λ b. cond b (other_roots_of ps m) (other_root_of p m ∷ but_cr3 cr3 (other_roots_of ps m))) t
          ∙ ap (λ (xs : List OtherRoot). other_root_of p m ∷ xs) f.others;
    }

find-some : (cr3 : ℕ) (ps : List Pair) (i : ℕ) (x : Pair) (m : List ℕ) → place_of cr3 ps ≡ Some i → slice_get ps i ≡ Some x
    → IsFound cr3 ps (remove ps i) x m
find-some cr3 [] i x m e h = absurd (none-some i e)
find-some cr3 (p ∷ ps) zero x m e h =
    elim (eqb_tells p.cr3 cr3) [
      | inl t ↦ subst (λ (y : Pair). IsFound cr3 (p ∷ ps) ps y m) (same_Some p x h) (found-first cr3 p ps m t.1 t.0)
      | inr t ↦ absurd (later-none (place_of cr3 ps) (sym (ap (λ b. cond b (Some 0) (one_later (place_of cr3 ps))) t.0) ∙ e))
    ]
find-some cr3 (p ∷ ps) (suc i) x m e h =
    elim (eqb_tells p.cr3 cr3) [
      | inl t ↦ absurd (let s = same_Some 0 (suc i) (sym (ap (λ b. cond b (Some 0) (one_later (place_of cr3 ps))) t.0) ∙ e) in
          omega (arith, s))
      | inr t ↦
          found-later cr3 p ps (remove ps i) x m t.0
          (find-some cr3 ps i x m (later-is (place_of cr3 ps) i (sym (ap (λ b. cond b (Some 0) (one_later (place_of cr3 ps))) t.0) ∙ e)) h)
    ]

-- ---- what comes and what stays

abbrev pub first_root : ℕ → List Pair → List ℕ → OtherRoot
first_root cr3 [] m = begun_root cr3
first_root cr3 (p ∷ ps) m = record { cr3 = cr3; tables = reads p; slots = slot_at p.shadow m }

pub record IsReloaded (cr3 : ℕ) (left : List OtherRoot) (ps : List Pair) (m : List ℕ) : Type 0 where
  pub value : value_of ps ≡ Some cr3
  pub stale : mark_of ps ≡ false
  pub present : IsSame (coming cr3 left) (first_root cr3 ps m)
  pub other_roots : AreSame (staying cr3 left) (other_roots_of (beside ps) m)

take-other_roots : (n : ℕ) (ps : List Pair) (m : List ℕ) → other_roots_of (take n ps) m ≡ take n (other_roots_of ps m)
take-other_roots zero ps m = refl
take-other_roots (suc n) [] m = refl
take-other_roots (suc n) (p ∷ ps) m = ap (λ (xs : List OtherRoot). other_root_of p m ∷ xs) (take-other_roots n ps m)

has_tables_under-new : (cr3 : ℕ) (ps : List Pair) (m m' : List ℕ) (x : Pair) → of_cr3 cr3 (other_roots_of ps m) ≡ None → IsFresh x m' cr3
    → AreKept (take 7 ps) m m' → IsReloaded cr3 (other_roots_of ps m) (x ∷ take 7 ps) m'
has_tables_under-new cr3 ps m m' x none f k =
    record {
      value = ap (λ v. Some v) f.value;
      stale = f.unmarked;
      present = subst (λ (o : Option OtherRoot). IsSame (or_begun cr3 o) (first_root cr3 (x ∷ take 7 ps) m')) (sym none)
          (record {
            cr3 = refl;
            tables = λ frame. ap (λ bits. get_or bits frame false) f.tables ∙ no-reads frame;
            slots = λ page l. f.empty.none page l;
          });
      other_roots =
          subst (λ (o : Option OtherRoot). AreSame (beside_coming cr3 (other_roots_of ps m) o) (other_roots_of (take 7 ps) m')) (sym none)
          (subst (λ (xs : List OtherRoot). AreSame xs (other_roots_of (take 7 ps) m')) (take-other_roots 7 ps m)
          (same-kept (take 7 ps) m m' k));
    }

came_back : (cr3 : ℕ) (ps rest : List Pair) (m m' : List ℕ) (x : Pair) → IsFound cr3 ps rest x m → x.stale ≡ false → AreKept (x ∷ rest) m m'
    → IsReloaded cr3 (other_roots_of ps m) (x ∷ rest) m'
came_back cr3 ps rest m m' x f u k =
    record {
      value = ap (λ v. Some v) f.value;
      stale = u;
      present = subst (λ (o : Option OtherRoot). IsSame (or_begun cr3 o) (first_root cr3 (x ∷ rest) m')) (sym f.found)
          (record { cr3 = sym f.value; tables = λ frame. refl; slots = k.2 });
      other_roots =
          subst (λ (o : Option OtherRoot). AreSame (beside_coming cr3 (other_roots_of ps m) o) (other_roots_of rest m')) (sym f.found)
          (subst (λ (xs : List OtherRoot). AreSame xs (other_roots_of rest m')) (sym f.others) (same-kept rest m m' k.3));
    }

reloaded-by : (o : Option ℕ) (cr3 : ℕ) (ps qs : List Pair) (m m' : List ℕ) → place_of cr3 ps ≡ o → AreUnmarked ps
    → MatchOption o (Opens ps qs m m' cr3) (λ i. ComesBack ps qs m m' i) → IsReloaded cr3 (other_roots_of ps m) qs m'
reloaded-by None cr3 ps qs m m' e u x =
    subst (λ (xs : List Pair). IsReloaded cr3 (other_roots_of ps m) xs m') (sym x.front)
    (has_tables_under-new cr3 ps m m' x.pair (find-none cr3 ps m e) x.fresh x.kept)
reloaded-by (Some i) cr3 ps qs m m' e u x =
    subst (λ (xs : List Pair). IsReloaded cr3 (other_roots_of ps m) xs m') (sym x.front)
    (came_back cr3 ps (remove ps i) m m' x.pair (find-some cr3 ps i x.pair m e x.here) (unmarked-at ps i x.pair x.here u)
    (subst (λ (xs : List Pair). AreKept xs m m') x.front x.kept))

pub reloaded : (cr3 : ℕ) (p : Pair) (ps qs : List Pair) (m m' : List ℕ) → OthersUnmarked (p ∷ ps) → IsSwitched (p ∷ ps) qs m m' cr3
    → IsReloaded cr3 (put_by (Some p.cr3) p.stale (reads p) (slot_at p.shadow m) (other_roots_of ps m)) qs m'
reloaded cr3 p ps qs m m' u x =
    subst (λ (xs : List OtherRoot). IsReloaded cr3 xs qs m') (sym (left-is p ps m))
    (reloaded-by (place_of cr3 (staying_pairs (p ∷ ps))) cr3 (staying_pairs (p ∷ ps)) qs m m' refl (left-unmarked p ps u) x)

-- ---- no further frame is write-protected

any-take : (n : ℕ) (ps : List Pair) (f : ℕ) → any_reads (take n ps) f ≡ true → any_reads ps f ≡ true
any-take zero ps f e = cc
any-take (suc n) [] f e = e
any-take (suc n) (p ∷ ps) f e = or-less (reads p f) (any_reads (take n ps) f) (any_reads ps f) e (any-take n ps f)

front-by : (b : Bool) (ps rest : List Pair) (x : Pair) (f : ℕ) → reads x f ≡ b → (reads x f ≡ true → any_reads ps f ≡ true)
    → (any_reads rest f ≡ true → any_reads ps f ≡ true) → any_reads (x ∷ rest) f ≡ true → any_reads ps f ≡ true
front-by true ps rest x f r h k e = h r
front-by false ps rest x f r h k e = k (sym (ap (λ b. b || any_reads rest f) r) ∙ e)

not-read : (x : Pair) (f : ℕ) → reads x f ≡ false → reads x f ≡ true → ⊥
not-read x f e h = cc

fewer-by : (o : Option ℕ) (cr3 : ℕ) (ps qs : List Pair) (m m' : List ℕ) (f : ℕ)
    → MatchOption o (Opens ps qs m m' cr3) (λ i. ComesBack ps qs m m' i) → any_reads qs f ≡ true → any_reads ps f ≡ true
fewer-by None cr3 ps qs m m' f x e =
    front-by (reads x.pair f) ps (take 7 ps) x.pair f refl
    (λ h. absurd (not-read x.pair f (ap (λ bits. get_or bits f false) x.fresh.tables ∙ no-reads f) h)) (any-take 7 ps f)
    (sym (ap (λ (xs : List Pair). any_reads xs f) x.front) ∙ e)
fewer-by (Some i) cr3 ps qs m m' f x e =
    front-by (reads x.pair f) ps (remove ps i) x.pair f refl (λ h. any-at ps i f x.pair x.here h) (any-remove ps i f)
    (sym (ap (λ (xs : List Pair). any_reads xs f) x.front) ∙ e)

staying-by : (b : Bool) (p : Pair) (ps : List Pair) (f : ℕ) → any_reads (cond b ps (p ∷ ps)) f ≡ true → any_reads (p ∷ ps) f ≡ true
staying-by true p ps f e = or_right (reads p f) (any_reads ps f) e
staying-by false p ps f e = e

pub reloaded-write_protected : (cr3 : ℕ) (p : Pair) (ps qs : List Pair) (m m' : List ℕ) → IsSwitched (p ∷ ps) qs m m' cr3
    → ArePart (tables_of qs) (tables_of (p ∷ ps))
reloaded-write_protected cr3 p ps qs m m' x =
    tables-part (p ∷ ps) qs
    (λ f e. staying-by p.stale p ps f (fewer-by (place_of cr3 (staying_pairs (p ∷ ps))) cr3 (staying_pairs (p ∷ ps)) qs m m' f x e))
