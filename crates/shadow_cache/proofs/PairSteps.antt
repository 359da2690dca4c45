-- Pairs and their pasts, after one call more.
use Rattle.std.proofs.Common.{◌≡◌, ℕ, zero, suc, ◌+◌, ◌<◌, ◌≤◌, List, [], ◌∷◌, ◌++◌, length, take, remove, filter, slice_get, slice_set, get_or, Bool, true, false, not, ◌||◌, ◌&&◌, cond, eqb, Some, None, refl, sym, ap, ◌∙◌, subst, inl, inr, arith}
use Rattle.std.proofs.lemmas.Bool.Decides.{eqb_tells}
use Rattle.std.proofs.lemmas.Bool.{or_cases, eqb-true, and_parts}
use Rattle.std.proofs.lemmas.Option.{same_Some, none-some}
use Rattle.guest_ram.specs.Among.{is_among}
use Rattle.shadow_tables.specs.Slots.{is_side, held, slot_at, SameSlots, LosesWrites}
use Rattle.shadow_tables.specs.Opened.{HasTable, KeepsTables, HasOpened}
use Rattle.shadow_tables.specs.declared.words.Side.{Side}
use Rattle.shadow_tables.proofs.Sides.{side-is}
use Rattle.shadow_cache.specs.Pairs.{reads, any_reads}
use Rattle.shadow_cache.specs.Others.{AreKept, AllLoseWrites, one_later, place_of}
use Rattle.shadow_cache.specs.Switched.{staying_pairs, IsFresh}
use Rattle.shadow_cache.specs.Past.{DirSlot, Past, begun, is_place, with_place, is_table, all_but, unmarked, of_value, but_value}
use Rattle.shadow_cache.specs.Agreeing.{last_of, Agrees, AllAgree}
use Rattle.shadow_cache.specs.declared.pair.Pair.{Pair}
use Rattle.shadow_cache.specs.declared.call_lists.RootsCall.{RootsCall}
use Rattle.shadow_cache.proofs.Beside.{reads-set, reads-there, no-reads}
use Rattle.shadow_cache.proofs.Calls.{read-there}
use Rattle.shadow_cache.proofs.Tabled.{Fewer, OneMore, all-but-there, all-but-other}
use Rattle.shadow_cache.proofs.SlotSteps.{slot-stays, slot-read_from}
use Rattle.shadow_cache.proofs.Small.{some-none, none-later, later-is, later-none}

-- ---- pairs that keep what they kept, or lose a right to write

pub agrees-kept : (v : ℕ) (cs : List RootsCall) (c : RootsCall) (q : Past) (p : Pair) (m m' : List ℕ) → Fewer v cs c
    → held p.shadow m' ≡ held p.shadow m → SameSlots (slot_at p.shadow m) (slot_at p.shadow m') → KeepsTables p.shadow m m'
    → Agrees v cs q p m → Agrees v (cs ++ c ∷ []) q p m'
agrees-kept v cs c q p m m' w e s k a =
    record {
      value_of = a.value_of;
      tables = a.tables;
      mark = a.mark;
      slots = λ page l. slot-stays v cs c (last_of q.calls page) (slot_at p.shadow m page) (slot_at p.shadow m' page) w
          (s page l) (a.slots page l);
      has_tables_under = λ place t. (let o = a.has_tables_under place t in (o.0, k place.side place.index o.0 o.1));
      few = subst (λ (fs : List ℕ). length fs ≤ 2 + length q.places) (sym e) a.few;
    }

pub all-kept : (v : ℕ) (cs : List RootsCall) (c : RootsCall) (qs : List Past) (ps : List Pair) (m m' : List ℕ) → Fewer v cs c
    → AreKept ps m m' → AllAgree v cs qs ps m → AllAgree v (cs ++ c ∷ []) qs ps m'
all-kept v cs c [] [] m m' w k a = tt
all-kept v cs c [] (p ∷ ps) m m' w k a = absurd a
all-kept v cs c (q ∷ qs) [] m m' w k a = absurd a
all-kept v cs c (q ∷ qs) (p ∷ ps) m m' w k a = (agrees-kept v cs c q p m m' w k.1 k.2 k.4 a.0, all-kept v cs c qs ps m m' w k.3 a.1)

pub agrees-lost : (v : ℕ) (cs : List RootsCall) (c : RootsCall) (frame : ℕ) (q : Past) (p : Pair) (m m' : List ℕ) → OneMore v cs c frame
    → held p.shadow m' ≡ held p.shadow m → LosesWrites (slot_at p.shadow m) (slot_at p.shadow m') (frame ∷ []) → KeepsTables p.shadow m m'
    → Agrees v cs q p m → Agrees v (cs ++ c ∷ []) q p m'
agrees-lost v cs c frame q p m m' w e s k a =
    record {
      value_of = a.value_of;
      tables = a.tables;
      mark = a.mark;
      slots = λ page l. slot-read_from v cs c frame (last_of q.calls page) (slot_at p.shadow m page) (slot_at p.shadow m' page) w
          (s page l) (a.slots page l);
      has_tables_under = λ place t. (let o = a.has_tables_under place t in (o.0, k place.side place.index o.0 o.1));
      few = subst (λ (fs : List ℕ). length fs ≤ 2 + length q.places) (sym e) a.few;
    }

pub all-lost : (v : ℕ) (cs : List RootsCall) (c : RootsCall) (frame : ℕ) (qs : List Past) (ps : List Pair) (m m' : List ℕ)
    → OneMore v cs c frame → AllLoseWrites ps m m' frame → AllAgree v cs qs ps m → AllAgree v (cs ++ c ∷ []) qs ps m'
all-lost v cs c frame [] [] m m' w k a = tt
all-lost v cs c frame [] (p ∷ ps) m m' w k a = absurd a
all-lost v cs c frame (q ∷ qs) [] m m' w k a = absurd a
all-lost v cs c frame (q ∷ qs) (p ∷ ps) m m' w k a =
    (agrees-lost v cs c frame q p m m' w k.2 k.0 k.3 a.0, all-lost v cs c frame qs ps m m' w k.1 a.1)

-- ---- tables

pub any-table : (v : ℕ) (cs : List RootsCall) (qs : List Past) (ps : List Pair) (m : List ℕ) (f : ℕ) → AllAgree v cs qs ps m
    → any_reads ps f ≡ is_table qs f
any-table v cs [] [] m f a = refl
any-table v cs [] (p ∷ ps) m f a = absurd a
any-table v cs (q ∷ qs) [] m f a = absurd a
any-table v cs (q ∷ qs) (p ∷ ps) m f a =
    ap (λ b. b || any_reads ps f) (a.0.tables f) ∙ ap (λ b. is_among f q.tables || b) (any-table v cs qs ps m f a.1)

pub read_from-tables : (bits : List Bool) (fs : List ℕ) (frame f : ℕ) → frame < length bits
    → ((x : ℕ) → get_or bits x false ≡ is_among x fs) → get_or (slice_set bits frame true) f false ≡ (eqb f frame || is_among f fs)
read_from-tables bits fs frame f l h =
    elim (eqb_tells f frame) [
      | inl t ↦
          ap (λ x. get_or (slice_set bits frame true) x false) t.1 ∙ reads-there bits frame true l
          ∙ sym (ap (λ b. b || is_among f fs) t.0)
      | inr t ↦ elim (reads-set bits frame f true) [
        | inl s ↦ s ∙ h f ∙ sym (ap (λ b. b || is_among f fs) t.0)
        | inr s ↦ absurd (t.1 s.0)
      ]
    ]

lost-tables : (bits : List Bool) (fs : List ℕ) (frame f : ℕ) → get_or bits frame false ≡ true
    → ((x : ℕ) → get_or bits x false ≡ is_among x fs) → get_or (slice_set bits frame false) f false ≡ is_among f (all_but frame fs)
lost-tables bits fs frame f r h =
    elim (eqb_tells f frame) [
      | inl t ↦
          ap (λ x. get_or (slice_set bits frame false) x false) t.1 ∙ reads-there bits frame false (read-there bits frame r)
          ∙ sym (ap (λ x. is_among x (all_but frame fs)) t.1 ∙ all-but-there frame fs)
      | inr t ↦ elim (reads-set bits frame f false) [
        | inl s ↦ s ∙ h f ∙ sym (all-but-other f frame fs t.1)
        | inr s ↦ absurd (t.1 s.0)
      ]
    ]

agrees-spoilt : (v : ℕ) (cs : List RootsCall) (b : Bool) (frame : ℕ) (q : Past) (p : Pair) (m : List ℕ)
    → reads p frame ≡ b → Agrees v cs q p m
    → Agrees v cs (cond b (record q { tables = all_but frame q.tables; stale = true }) q)
    (cond b (record p { tables = slice_set p.tables frame false; stale = true }) p) m
agrees-spoilt v cs true frame q p m r a =
    record {
      value_of = a.value_of;
      tables = λ f. lost-tables p.tables q.tables frame f r a.tables;
      mark = refl;
      slots = a.slots;
      has_tables_under = a.has_tables_under;
      few = a.few;
    }
agrees-spoilt v cs false frame q p m r a = a

pub agrees-stale : (v : ℕ) (cs : List RootsCall) (frame : ℕ) (q : Past) (p : Pair) (m : List ℕ) → Agrees v cs q p m
    → Agrees v cs (cond (is_among frame q.tables) (record q { tables = all_but frame q.tables; stale = true }) q)
    (cond (reads p frame) (record p { tables = slice_set p.tables frame false; stale = true }) p) m
agrees-stale v cs frame q p m a =
    subst (λ b. Agrees v cs (cond b (record q { tables = all_but frame q.tables; stale = true }) q)
    (cond (reads p frame) (record p { tables = slice_set p.tables frame false; stale = true }) p) m) (a.tables frame)
    (agrees-spoilt v cs (reads p frame) frame q p m refl a)

-- ---- some of the pairs

one-stays : (v : ℕ) (cs : List RootsCall) (b : Bool) (q : Past) (qs : List Past) (p : Pair) (ps : List Pair) (m : List ℕ)
    → Agrees v cs q p m → AllAgree v cs qs ps m → AllAgree v cs (cond b (q ∷ qs) qs) (cond b (p ∷ ps) ps) m
one-stays v cs true q qs p ps m a r = (a, r)
one-stays v cs false q qs p ps m a r = r

pub all-stay : (v : ℕ) (cs : List RootsCall) (frame : ℕ) (qs : List Past) (ps : List Pair) (m : List ℕ) → AllAgree v cs qs ps m
    → AllAgree v cs (filter (λ (q : Past). not (is_among frame q.tables)) qs) (filter (λ (p : Pair). not (reads p frame)) ps) m
all-stay v cs frame [] [] m a = tt
all-stay v cs frame [] (p ∷ ps) m a = absurd a
all-stay v cs frame (q ∷ qs) [] m a = absurd a
all-stay v cs frame (q ∷ qs) (p ∷ ps) m a =
    let rest : List Past = filter (λ (x : Past). not (is_among frame x.tables)) qs in
    let left : List Pair = filter (λ (x : Pair). not (reads x frame)) ps in
    subst (λ b. AllAgree v cs (cond (not b) (q ∷ rest) rest) (cond (not (reads p frame)) (p ∷ left) left) m) (a.0.tables frame)
    (one-stays v cs (not (reads p frame)) q rest p left m a.0 (all-stay v cs frame qs ps m a.1))

pub all-first : (v : ℕ) (cs : List RootsCall) (n : ℕ) (qs : List Past) (ps : List Pair) (m : List ℕ) → AllAgree v cs qs ps m
    → AllAgree v cs (take n qs) (take n ps) m
all-first v cs zero qs ps m a = tt
all-first v cs (suc n) [] [] m a = tt
all-first v cs (suc n) [] (p ∷ ps) m a = absurd a
all-first v cs (suc n) (q ∷ qs) [] m a = absurd a
all-first v cs (suc n) (q ∷ qs) (p ∷ ps) m a = (a.0, all-first v cs n qs ps m a.1)

all-unmarked-by : (v : ℕ) (cs : List RootsCall) (b : Bool) (q : Past) (qs : List Past) (p : Pair) (ps : List Pair) (m : List ℕ)
    → AllAgree v cs (q ∷ qs) (p ∷ ps) m → AllAgree v cs (cond b qs (q ∷ qs)) (cond b ps (p ∷ ps)) m
all-unmarked-by v cs true q qs p ps m a = a.1
all-unmarked-by v cs false q qs p ps m a = a

pub all-unmarked : (v : ℕ) (cs : List RootsCall) (qs : List Past) (ps : List Pair) (m : List ℕ) → AllAgree v cs qs ps m
    → AllAgree v cs (unmarked qs) (staying_pairs ps) m
all-unmarked v cs [] [] m a = tt
all-unmarked v cs [] (p ∷ ps) m a = absurd a
all-unmarked v cs (q ∷ qs) [] m a = absurd a
all-unmarked v cs (q ∷ qs) (p ∷ ps) m a =
    subst (λ b. AllAgree v cs (cond b qs (q ∷ qs)) (cond p.stale ps (p ∷ ps)) m) a.0.mark (all-unmarked-by v cs p.stale q qs p ps m a)

-- ---- the pair of a value

pub value-none : (v : ℕ) (cs : List RootsCall) (value : ℕ) (qs : List Past) (ps : List Pair) (m : List ℕ) → AllAgree v cs qs ps m
    → place_of value ps ≡ None → of_value value qs ≡ None
value-none v cs value [] [] m a e = refl
value-none v cs value [] (p ∷ ps) m a e = absurd a
value-none v cs value (q ∷ qs) [] m a e = absurd a
value-none v cs value (q ∷ qs) (p ∷ ps) m a e =
    elim (eqb_tells p.cr3 value) [
      | inl t ↦ absurd (some-none 0 (sym (ap (λ b. cond b (Some 0) (one_later (place_of value ps))) t.0) ∙ e))
      | inr t ↦
          ap (λ x. cond (eqb x value) (Some q) (of_value value qs)) (sym a.0.value_of)
          ∙ ap (λ b. cond b (Some q) (of_value value qs)) t.0
          ∙ value-none v cs value qs ps m a.1
          (none-later (place_of value ps) (sym (ap (λ b. cond b (Some 0) (one_later (place_of value ps))) t.0) ∙ e))
    ]

pub record Found (v : ℕ) (cs : List RootsCall) (value : ℕ) (qs : List Past) (rest : List Pair) (p : Pair) (m : List ℕ) : Type 0 where
  pub past : Past
  pub here : of_value value qs ≡ Some past
  pub agrees : Agrees v cs past p m
  pub others : AllAgree v cs (but_value value qs) rest m

first-found : (v : ℕ) (cs : List RootsCall) (value : ℕ) (q : Past) (qs : List Past) (p : Pair) (ps : List Pair) (m : List ℕ)
    → eqb p.cr3 value ≡ true → AllAgree v cs (q ∷ qs) (p ∷ ps) m → Found v cs value (q ∷ qs) ps p m
first-found v cs value q qs p ps m t a =
    let e : eqb q.value value ≡ true = ap (λ x. eqb x value) (sym a.0.value_of) ∙ t in
    record {
      past = q;
      here = ap (λ b. cond b (Some q) (of_value value qs)) e;
      agrees = a.0;
      others = subst (λ b. AllAgree v cs (cond b qs (q ∷ but_value value qs)) ps m) (sym e) a.1;
    }

later-found : (v : ℕ) (cs : List RootsCall) (value : ℕ) (q : Past) (qs : List Past) (p x : Pair) (rest : List Pair) (m : List ℕ)
    → eqb p.cr3 value ≡ false → Agrees v cs q p m → Found v cs value qs rest x m → Found v cs value (q ∷ qs) (p ∷ rest) x m
later-found v cs value q qs p x rest m t a f =
    let e : eqb q.value value ≡ false = ap (λ y. eqb y value) (sym a.value_of) ∙ t in
    record {
      past = f.past;
      here = ap (λ b. cond b (Some q) (of_value value qs)) e ∙ f.here;
      agrees = f.agrees;
      others = subst (λ b. AllAgree v cs (cond b qs (q ∷ but_value value qs)) (p ∷ rest) m) (sym e) (a, f.others);
    }

pub value-found : (v : ℕ) (cs : List RootsCall) (value : ℕ) (qs : List Past) (ps : List Pair) (i : ℕ) (x : Pair) (m : List ℕ)
    → AllAgree v cs qs ps m → place_of value ps ≡ Some i → slice_get ps i ≡ Some x → Found v cs value qs (remove ps i) x m
value-found v cs value [] [] i x m a e g = absurd (none-some i e)
value-found v cs value [] (p ∷ ps) i x m a e g = absurd a
value-found v cs value (q ∷ qs) [] i x m a e g = absurd a
value-found v cs value (q ∷ qs) (p ∷ ps) zero x m a e g =
    elim (eqb_tells p.cr3 value) [
      | inl t ↦ subst (λ (y : Pair). Found v cs value (q ∷ qs) ps y m) (same_Some p x g) (first-found v cs value q qs p ps m t.0 a)
      | inr t ↦ absurd (later-none (place_of value ps) (sym (ap (λ b. cond b (Some 0) (one_later (place_of value ps))) t.0) ∙ e))
    ]
value-found v cs value (q ∷ qs) (p ∷ ps) (suc i) x m a e g =
    elim (eqb_tells p.cr3 value) [
      | inl t ↦ absurd (let s = same_Some 0 (suc i) (sym (ap (λ b. cond b (Some 0) (one_later (place_of value ps))) t.0) ∙ e) in
          omega (arith, s))
      | inr t ↦
          later-found v cs value q qs p x (remove ps i) m t.0 a.0
          (value-found v cs value qs ps i x m a.1
          (later-is (place_of value ps) i (sym (ap (λ b. cond b (Some 0) (one_later (place_of value ps))) t.0) ∙ e)) g)
    ]

-- ---- a pair that begins

pub agrees-fresh : (v : ℕ) (cs : List RootsCall) (value : ℕ) (p : Pair) (m : List ℕ) → IsFresh p m value → Agrees v cs (begun value) p m
agrees-fresh v cs value p m f =
    record {
      value_of = f.value;
      tables = λ x. ap (λ (bits : List Bool). get_or bits x false) f.tables ∙ no-reads x;
      mark = f.unmarked;
      slots = λ page l. f.empty.none page l;
      has_tables_under = λ place t. absurd (let e : false ≡ true = t in cc);
      few = (let e = ap (λ (fs : List ℕ). length fs) f.empty.frames in omega (arith, e));
    }

-- ---- places

-- the places under which pages were filled have tables, and one more
module _ (v : ℕ) (cs : List RootsCall) (q : Past) (p : Pair) (m m' : List ℕ) (a : Agrees v cs q p m) (side : Side) (index : ℕ)
    (low : index < 1024) (o : HasOpened p.shadow m m' side index) where
  here : DirSlot
  here = record { side = side; index = index }

  abbrev Opened : List DirSlot → Type 0
  Opened places = (place : DirSlot) → is_place place places ≡ true → (place.index < 1024) × HasTable p.shadow m' place.side place.index

  before : Opened q.places
  before place t = (let x = a.has_tables_under place t in (x.0, o.others place.side place.index x.0 x.1))

  at : (place : DirSlot) → (is_side place.side side && eqb place.index index) ≡ true → (place.index < 1024)
      × HasTable p.shadow m' place.side place.index
  at place t =
      let s : place.side ≡ side = side-is place.side side (and_parts (is_side place.side side) (eqb place.index index) t).0 in
      let i : place.index ≡ index = eqb-true place.index index (and_parts (is_side place.side side) (eqb place.index index) t).1 in (
        omega (arith, i, low),
        subst (λ x. HasTable p.shadow m' x place.index) (sym s) (subst (λ x. HasTable p.shadow m' side x) (sym i) o.there),
      )

  has_tables_under-by : (b : Bool) → Opened (cond b q.places (record { side = side; index = index } ∷ q.places))
  has_tables_under-by true = before
  has_tables_under-by false = λ place t. elim (or_cases (is_side place.side side && eqb place.index index) (is_place place q.places) t)
      [ inl x ↦ at place x | inr x ↦ before place x ]

  pub has_tables_under-more : Opened (with_place (record { side = side; index = index }) q.places)
  has_tables_under-more = has_tables_under-by (is_place (record { side = side; index = index }) q.places)

  few-by : (b : Bool) → is_place (record { side = side; index = index }) q.places ≡ b → length (held p.shadow m') ≤ 2
      + length (cond b q.places (record { side = side; index = index } ∷ q.places))
  few-by true e =
      let x = a.has_tables_under (record { side = side; index = index }) e in
      let same = ap (λ (fs : List ℕ). length fs) (o.already x.1) in let few = a.few in omega (arith, same, few)
  few-by false e = let one = o.one in let few = a.few in omega (arith, one, few)

  pub few-more : length (held p.shadow m') ≤ 2 + length (with_place (record { side = side; index = index }) q.places)
  few-more = few-by (is_place (record { side = side; index = index }) q.places) refl
