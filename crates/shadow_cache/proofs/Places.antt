-- The directory indices under which pages were filled in a pair.
use Rattle.std.proofs.Common.{◌≡◌, ℕ, zero, suc, ◌/◌, List, [], ◌∷◌, ◌++◌, append_assoc, take, filter, Bool, true, false, not, ◌&&◌, cond, eqb, Option, Some, None, refl, sym, ap, ◌∙◌, subst, inl, inr}
use Rattle.std.proofs.lemmas.Bool.Decides.{eqb_tells}
use Rattle.std.proofs.lemmas.Bool.{or_cases, eqb-true, and_parts}
use Rattle.std.proofs.lemmas.Option.{same_Some, none-some}
use Rattle.paging.specs.declared.entry.Entry.{Entry}
use Rattle.guest_ram.specs.Among.{is_among}
use Rattle.shadow_tables.specs.Slots.{is_side}
use Rattle.shadow_tables.specs.declared.words.Side.{Side}
use Rattle.shadow_tables.specs.declared.calls.Call.{Call}
use Rattle.shadow_tables.specs.declared.calls.Call.TheVariants.{Fill, DropPage, DropDir, DropAll, Note, Written}
use Rattle.shadow_tables.proofs.Sides.{side-is}
use Rattle.shadow_cache.specs.Past.{MadeCall, DirSlot, Past, begun, is_place, with_place, all_but, unmarked, of_value, but_value, with_front, after_shared, after_call, pairs_after}
use Rattle.shadow_cache.specs.Replayed.{IsFilledUnder, IsEachOnce, IsPlaced, ArePlaced}
use Rattle.shadow_cache.specs.declared.call_lists.RootsCall.{RootsCall}
use Rattle.shadow_cache.specs.declared.call_lists.RootsCall.TheVariants.{Shared, Switch}
use Rattle.shadow_cache.proofs.Since.{pairs-are}
use Rattle.shadow_cache.proofs.Whole.{calls-keep}

-- ---- one pair

filled-later : (done : List MadeCall) (d : MadeCall) (place : DirSlot) → IsFilledUnder done place → IsFilledUnder (done ++ d ∷ []) place
filled-later done d place f =
    record {
      before = f.before;
      later = f.later ++ d ∷ [];
      moment = f.moment;
      entry = f.entry;
      wp = f.wp;
      fill = ap (λ (ds : List MadeCall). ds ++ d ∷ []) f.fill
          ∙ append_assoc f.before (record { moment = f.moment; call = Fill place.side f.entry f.wp } ∷ f.later) (d ∷ []);
      under = f.under;
    }

filled-now : (done : List MadeCall) (moment : ℕ) (side : Side) (entry : Entry) (wp : Bool) (place : DirSlot)
    → (is_side place.side side && eqb place.index (entry.page / 1024)) ≡ true
    → IsFilledUnder (done ++ record { moment = moment; call = Fill side entry wp } ∷ []) place
filled-now done moment side entry wp place t =
    let s : place.side ≡ side = side-is place.side side (and_parts (is_side place.side side) (eqb place.index (entry.page / 1024)) t).0 in
    record {
      before = done;
      later = [];
      moment = moment;
      entry = entry;
      wp = wp;
      fill = ap (λ x. done ++ record { moment = moment; call = Fill x entry wp } ∷ []) (sym s);
      under =
          sym (eqb-true place.index (entry.page / 1024) (and_parts (is_side place.side side) (eqb place.index (entry.page / 1024)) t).1);
    }

-- a place more, where it isn't there
abbrev AreFilledUnder : List MadeCall → List DirSlot → Type 0
AreFilledUnder done places = (place : DirSlot) → is_place place places ≡ true → IsFilledUnder done place

with-filled : (b : Bool) (done : List MadeCall) (moment : ℕ) (side : Side) (entry : Entry) (wp : Bool) (places : List DirSlot)
    → AreFilledUnder done places
    → AreFilledUnder (done ++ record { moment = moment; call = Fill side entry wp } ∷ [])
    (cond b places (record { side = side; index = entry.page / 1024 } ∷ places))
with-filled true done moment side entry wp places f =
    λ place t. filled-later done (record { moment = moment; call = Fill side entry wp }) place (f place t)
with-filled false done moment side entry wp places f = λ place t.
    elim (or_cases (is_side place.side side && eqb place.index (entry.page / 1024)) (is_place place places) t) [
      | inl x ↦ filled-now done moment side entry wp place x
      | inr x ↦ filled-later done (record { moment = moment; call = Fill side entry wp }) place (f place x)
    ]

with-once : (b : Bool) (place : DirSlot) (places : List DirSlot) → is_place place places ≡ b → IsEachOnce places
    → IsEachOnce (cond b places (place ∷ places))
with-once true place places e o = o
with-once false place places e o = (e, o)

placed-filled : (p : Past) (moment : ℕ) (side : Side) (entry : Entry) (wp : Bool) → IsPlaced p
    → IsPlaced (record p {
      calls = p.calls ++ record { moment = moment; call = Fill side entry wp } ∷ [];
      places = with_place (record { side = side; index = entry.page / 1024 }) p.places;
    })
placed-filled p moment side entry wp a =
    let place : DirSlot = record { side = side; index = entry.page / 1024 } in
    record {
      filled = with-filled (is_place place p.places) p.calls moment side entry wp p.places a.filled;
      once = with-once (is_place place p.places) place p.places refl a.once;
    }

placed-later : (p : Past) (d : MadeCall) → IsPlaced p → IsPlaced (record p { calls = p.calls ++ d ∷ [] })
placed-later p d a = record { filled = λ place t. filled-later p.calls d place (a.filled place t); once = a.once }

placed-begun : (v : ℕ) → IsPlaced (begun v)
placed-begun v = record { filled = λ place t. absurd (let e : false ≡ true = t in cc); once = tt }

placed-stale : (b : Bool) (frame : ℕ) (p : Past) → IsPlaced p
    → IsPlaced (cond b (record p { tables = all_but frame p.tables; stale = true }) p)
placed-stale true frame p a = record { filled = a.filled; once = a.once }
placed-stale false frame p a = a

-- ---- some pairs

cond-placed : (b : Bool) (p : Past) (qs : List Past) → IsPlaced p → ArePlaced qs → ArePlaced (cond b (p ∷ qs) qs)
cond-placed true p qs a r = (a, r)
cond-placed false p qs a r = r

filter-placed : (t : Past → Bool) (ps : List Past) → ArePlaced ps → ArePlaced (filter t ps)
filter-placed t [] a = tt
filter-placed t (p ∷ ps) a = cond-placed (t p) p (filter t ps) a.0 (filter-placed t ps a.1)

take-placed : (n : ℕ) (ps : List Past) → ArePlaced ps → ArePlaced (take n ps)
take-placed zero ps a = tt
take-placed (suc n) [] a = tt
take-placed (suc n) (p ∷ ps) a = (a.0, take-placed n ps a.1)

rest-placed : (b : Bool) (p : Past) (ps qs : List Past) → IsPlaced p → ArePlaced ps → ArePlaced qs → ArePlaced (cond b ps (p ∷ qs))
rest-placed true p ps qs a b c = b
rest-placed false p ps qs a b c = (a, c)

but-placed : (v : ℕ) (ps : List Past) → ArePlaced ps → ArePlaced (but_value v ps)
but-placed v [] a = tt
but-placed v (p ∷ ps) a = rest-placed (eqb p.value v) p ps (but_value v ps) a.0 a.1 (but-placed v ps a.1)

unmarked-placed : (ps : List Past) → ArePlaced ps → ArePlaced (unmarked ps)
unmarked-placed [] a = tt
unmarked-placed (p ∷ ps) a = rest-placed p.stale p ps ps a.0 a.1 a.1

of-placed : (v : ℕ) (ps : List Past) (q : Past) → of_value v ps ≡ Some q → ArePlaced ps → IsPlaced q
of-placed v [] q e a = absurd (none-some q e)
of-placed v (p ∷ ps) q e a =
    elim (eqb_tells p.value v) [
      | inl t ↦ subst IsPlaced (same_Some p q (sym (ap (λ b. cond b (Some p) (of_value v ps)) t.0) ∙ e)) a.0
      | inr t ↦ of-placed v ps q (sym (ap (λ b. cond b (Some p) (of_value v ps)) t.0) ∙ e) a.1
    ]

front-placed : (v : ℕ) (ps : List Past) (o : Option Past) → of_value v ps ≡ o → ArePlaced ps → ArePlaced (with_front v ps o)
front-placed v ps None e a = (placed-begun v, take-placed 7 ps a)
front-placed v ps (Some q) e a = (of-placed v ps q e a, but-placed v ps a)

-- ---- all calls

shared-placed : (n : ℕ) (c : Call) (ps : List Past) → ArePlaced ps → ArePlaced (after_shared n c ps)
shared-placed n c [] a = a
shared-placed n (Fill side entry wp) (p ∷ ps) a = (placed-filled p n side entry wp a.0, a.1)
shared-placed n (DropPage page) (p ∷ ps) a = (placed-later p (record { moment = n; call = DropPage page }) a.0, a.1)
shared-placed n (DropDir index) (p ∷ ps) a = (placed-later p (record { moment = n; call = DropDir index }) a.0, a.1)
shared-placed n DropAll (p ∷ ps) a = (placed-begun p.value, tt)
shared-placed n (Note frame) (p ∷ ps) a = (record { filled = a.0.filled; once = a.0.once }, a.1)
shared-placed n (Written frame) (p ∷ ps) a =
    (placed-stale (is_among frame p.tables) frame p a.0, filter-placed (λ (q : Past). not (is_among frame q.tables)) ps a.1)

call-placed : (n : ℕ) (c : RootsCall) (ps : List Past) → ArePlaced ps → ArePlaced (after_call n c ps)
call-placed n (Shared c) ps a = shared-placed n c ps a
call-placed n (Switch v) ps a = front-placed v (unmarked ps) (of_value v (unmarked ps)) refl (unmarked-placed ps a)

pub pairs-placed : (v : ℕ) (cs : List RootsCall) → ArePlaced (pairs_after v cs)
pairs-placed v cs = subst ArePlaced (sym (pairs-are v cs)) (calls-keep ArePlaced call-placed 0 cs (begun v ∷ []) (placed-begun v, tt))
