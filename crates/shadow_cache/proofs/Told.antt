-- What is kept for a page, in words.
use Rattle.std.proofs.Common.{◌≡◌, ℕ, ◌^◌, ◌<◌, List, [], ◌∷◌, Bool, true, false, not, ◌&&◌, Option, Some, None, refl, sym, ap, ◌∙◌, subst, ◌≤◌, length, length-append, arith}
use Rattle.paging.specs.declared.entry.Entry.{Entry}
use Rattle.shadow_tables.specs.Slots.{Slot, filled, entry_in, is_adequate, permits, slot_at, held}
use Rattle.shadow_tables.specs.declared.words.Side.{Side}
use Rattle.shadow_tables.specs.declared.words.Side.TheVariants.{Kernel, User}
use Rattle.shadow_cache.specs.Past.{MadeCall, Past}
use Rattle.shadow_cache.specs.Replayed.{LastFill, IsEntryOf, MayRead, MayWrite, IsKeptAs, IsPast, ArePasts, done_in, most_frames}
use Rattle.shadow_cache.specs.Agreeing.{Filling, last_of, IsHeld, IsSlot, Agrees, AllAgree}
use Rattle.shadow_cache.specs.declared.pair.Pair.{Pair}
use Rattle.shadow_cache.specs.declared.call_lists.RootsCall.{RootsCall}
use Rattle.shadow_cache.specs.Laws.{frames-cons}
use Rattle.shadow_cache.proofs.Leaving.{none-frames}
use Rattle.shadow_cache.specs.Pairs.{frames_of}
use Rattle.shadow_tables.proofs.Lists.{only-less}
use Rattle.shadow_cache.proofs.LastFills.{last-to, last-is}
use Rattle.shadow_cache.proofs.Small.{not-first}
use Rattle.std.proofs.lemmas.Bool.{false≢true}
use Rattle.std.proofs.lemmas.Option.{none-some, same_Some}

-- the fill, with what is kept of it
record Filled (v : ℕ) (cs : List RootsCall) (done : List MadeCall) (page : ℕ) (o : Option Slot) : Type 0 where
  fill : Filling
  last : LastFill done page fill.side fill.entry fill.wp fill.moment
  held : IsHeld v cs fill o

some-kept : (v : ℕ) (cs : List RootsCall) (done : List MadeCall) (page : ℕ) (x : Option Filling) (o : Option Slot) (entry : Entry)
    → last_of done page ≡ x → IsSlot v cs x o → entry_in o ≡ Some entry → Filled v cs done page o
some-kept v cs done page None o entry l h e = absurd (none-some entry (sym (ap entry_in h) ∙ e))
some-kept v cs done page (Some f) o entry l h e = record { fill = f; last = last-is done page f l; held = h }

some-adequate : (v : ℕ) (cs : List RootsCall) (done : List MadeCall) (page : ℕ) (x : Option Filling) (o : Option Slot) (side : Side)
    (write : Bool) → last_of done page ≡ x → IsSlot v cs x o → is_adequate o side write ≡ true → Filled v cs done page o
some-adequate v cs done page None o side write l h e = absurd (false≢true (sym (ap (λ y. is_adequate y side write) h) ∙ e))
some-adequate v cs done page (Some f) o side write l h e = record { fill = f; last = last-is done page f l; held = h }

held-of : (v : ℕ) (cs : List RootsCall) (done : List MadeCall) (page : ℕ) (side : Side) (entry : Entry) (wp : Bool) (moment : ℕ)
    (o : Option Slot) → IsSlot v cs (last_of done page) o → LastFill done page side entry wp moment
    → IsHeld v cs (record { moment = moment; side = side; entry = entry; wp = wp }) o
held-of v cs done page side entry wp moment o h l = subst (λ x. IsSlot v cs x o) (last-to done page side entry wp moment l) h

-- ---- rights

record Reads (s side : Side) (entry : Entry) (wp : Bool) : Type 0 where
  same : s ≡ side
  passes : permits side entry false wp ≡ true

reads-from : (b : Bool) (s side : Side) (entry : Entry) (wp : Bool) → is_adequate (Some (filled b s entry wp)) side false ≡ true
    → Reads s side entry wp
reads-from b Kernel Kernel entry wp h = record { same = refl; passes = h }
reads-from b Kernel User entry wp h = absurd (false≢true h)
reads-from b User Kernel entry wp h = absurd (false≢true h)
reads-from b User User entry wp h = record { same = refl; passes = h }

reads-to : (b : Bool) (side : Side) (entry : Entry) (wp : Bool) → permits side entry false wp ≡ true
    → is_adequate (Some (filled b side entry wp)) side false ≡ true
reads-to b Kernel entry wp h = h
reads-to b User entry wp h = h

record Writes (b : Bool) (s side : Side) (entry : Entry) (wp : Bool) : Type 0 where
  same : s ≡ side
  free : b ≡ false
  passes : permits side entry true wp ≡ true

writes-from : (b : Bool) (s side : Side) (entry : Entry) (wp : Bool) → is_adequate (Some (filled b s entry wp)) side true ≡ true
    → Writes b s side entry wp
writes-from b Kernel Kernel entry wp h =
    record { same = refl; free = not-first b (permits Kernel entry true wp) h; passes = only-less b (permits Kernel entry true wp) h }
writes-from b Kernel User entry wp h = absurd (false≢true h)
writes-from b User Kernel entry wp h = absurd (false≢true h)
writes-from b User User entry wp h =
    record { same = refl; free = not-first b (permits User entry true wp) h; passes = only-less b (permits User entry true wp) h }

not-both : (b p : Bool) → b ≡ false → p ≡ true → (not b && p) ≡ true
not-both true p e f = absurd (false≢true (sym e))
not-both false p e f = f

writes-to : (b : Bool) (side : Side) (entry : Entry) (wp : Bool) → b ≡ false → permits side entry true wp ≡ true
    → is_adequate (Some (filled b side entry wp)) side true ≡ true
writes-to b Kernel entry wp e h = not-both b (permits Kernel entry true wp) e h
writes-to b User entry wp e h = not-both b (permits User entry true wp) e h

-- ---- the law

module _ (v : ℕ) (cs : List RootsCall) (done : List MadeCall) (page : ℕ) (o : Option Slot) (h : IsSlot v cs (last_of done page) o) where
  kept-from : (entry : Entry) → entry_in o ≡ Some entry → IsEntryOf done page entry
  kept-from entry e =
      let f = some-kept v cs done page (last_of done page) o entry refl h e in
      let same : f.fill.entry ≡ entry = same_Some f.fill.entry entry (sym (ap entry_in f.held.slot) ∙ e) in
      (f.fill.side, f.fill.wp, f.fill.moment, subst (λ (x : Entry). LastFill done page f.fill.side x f.fill.wp f.fill.moment) same f.last)

  kept-to : (entry : Entry) → IsEntryOf done page entry → entry_in o ≡ Some entry
  kept-to entry k = ap entry_in (held-of v cs done page k.0 entry k.1 k.2 o h k.3).slot

  reads-of : (side : Side) → is_adequate o side false ≡ true → MayRead done page side
  reads-of side e =
      let f = some-adequate v cs done page (last_of done page) o side false refl h e in
      let r =
      reads-from f.held.barred f.fill.side side f.fill.entry f.fill.wp (sym (ap (λ x. is_adequate x side false) f.held.slot) ∙ e) in (
        f.fill.entry,
        f.fill.wp,
        f.fill.moment,
        subst (λ s. LastFill done page s f.fill.entry f.fill.wp f.fill.moment) r.same f.last,
        r.passes,
      )

  reads-in : (side : Side) → MayRead done page side → is_adequate o side false ≡ true
  reads-in side k =
      let x = held-of v cs done page side k.0 k.1 k.2 o h k.3 in
      ap (λ y. is_adequate y side false) x.slot ∙ reads-to x.barred side k.0 k.1 k.4

  writes-of : (side : Side) → is_adequate o side true ≡ true → MayWrite v cs done page side
  writes-of side e =
      let f = some-adequate v cs done page (last_of done page) o side true refl h e in
      let r =
      writes-from f.held.barred f.fill.side side f.fill.entry f.fill.wp (sym (ap (λ x. is_adequate x side true) f.held.slot) ∙ e) in (
        f.fill.entry,
        f.fill.wp,
        f.fill.moment,
        subst (λ s. LastFill done page s f.fill.entry f.fill.wp f.fill.moment) r.same f.last,
        r.passes,
        f.held.free r.free,
      )

  writes-in : (side : Side) → MayWrite v cs done page side → is_adequate o side true ≡ true
  writes-in side k =
      let x = held-of v cs done page side k.0 k.1 k.2 o h k.3 in
      ap (λ y. is_adequate y side true) x.slot ∙ writes-to x.barred side k.0 k.1 (x.still k.5) k.4

  pub kept-as : IsKeptAs v cs done page o
  kept-as =
      record {
        kept = λ entry. (kept-from entry, kept-to entry);
        reads = λ side. (reads-of side, reads-in side);
        writes = λ side. (writes-of side, writes-in side);
      }

pub past-of : (v : ℕ) (cs : List RootsCall) (q : Past) (p : Pair) (m : List ℕ) → Agrees v cs q p m → IsPast v cs q p m
past-of v cs q p m a =
    record {
      value_of = a.value_of;
      tables = a.tables;
      mark = a.mark;
      slots = λ page l. kept-as v cs q.calls page (slot_at p.shadow m page) (a.slots page l);
      frames = a.few;
    }

pub pasts-of : (v : ℕ) (cs : List RootsCall) (qs : List Past) (ps : List Pair) (m : List ℕ) → AllAgree v cs qs ps m → ArePasts v cs qs ps m
pasts-of v cs [] [] m a = tt
pasts-of v cs [] (p ∷ ps) m a = a
pasts-of v cs (q ∷ qs) [] m a = a
pasts-of v cs (q ∷ qs) (p ∷ ps) m a = (past-of v cs q p m a.0, pasts-of v cs qs ps m a.1)

pub present-of : (v : ℕ) (cs : List RootsCall) (qs : List Past) (p : Pair) (ps : List Pair) (m : List ℕ) → AllAgree v cs qs (p ∷ ps) m
    → (page : ℕ) → page < 2 ^ 20 → IsKeptAs v cs (done_in qs) page (slot_at p.shadow m page)
present-of v cs [] p ps m a page l = absurd a
present-of v cs (q ∷ qs) p ps m a page l = kept-as v cs q.calls page (slot_at p.shadow m page) (a.0.slots page l)

-- ---- the frames

pub all-few : (v : ℕ) (cs : List RootsCall) (qs : List Past) (ps : List Pair) (m : List ℕ) → AllAgree v cs qs ps m
    → length (frames_of ps m) ≤ most_frames qs
all-few v cs [] [] m a = let e = ap (λ (fs : List ℕ). length fs) (none-frames m) in omega (arith, e)
all-few v cs [] (p ∷ ps) m a = absurd a
all-few v cs (q ∷ qs) [] m a = absurd a
all-few v cs (q ∷ qs) (p ∷ ps) m a =
    let e = ap (λ (fs : List ℕ). length fs) (frames-cons p ps m) in
    let l = length-append (held p.shadow m) (frames_of ps m) in
    let few = a.0.few in let rest = all-few v cs qs ps m a.1 in
    omega (arith, e, l, few, rest)
