-- What is kept for a page, after one call more.
use Rattle.std.proofs.Common.{◌≡◌, ℕ, ◌/◌, ◌^◌, ◌<◌, List, [], ◌∷◌, ◌++◌, length, Bool, true, false, not, ◌||◌, ◌&&◌, cond, eqb, Option, Some, None, refl, sym, ap, ◌∙◌, subst, inl, inr, arith}
use Rattle.std.proofs.lemmas.Bool.Decides.{eqb_tells}
use Rattle.std.proofs.lemmas.Bool.{or_from, false_from_ne_true, both_ways, or_parts}
use Rattle.paging.specs.declared.entry.Entry.{Entry}
use Rattle.shadow_tables.specs.Slots.{Slot, filled, barred, permits, Turns, LosesDir}
use Rattle.shadow_tables.specs.declared.words.Side.{Side}
use Rattle.shadow_tables.specs.declared.calls.Call.TheVariants.{Fill, DropPage, DropDir}
use Rattle.shadow_cache.specs.Past.{is_table, pairs_after}
use Rattle.shadow_cache.specs.Agreeing.{Filling, filling_after, IsHeld, IsSlot}
use Rattle.shadow_cache.specs.declared.call_lists.RootsCall.{RootsCall}
use Rattle.shadow_cache.proofs.Since.{length-more, since-less, since-now, since-more, since-here}
use Rattle.shadow_cache.proofs.Tabled.{Fewer, AsMany, OneMore, fewer-as}

-- ---- nothing changes

pub slot-stays : (v : ℕ) (cs : List RootsCall) (c : RootsCall) (x : Option Filling) (o o' : Option Slot) → Fewer v cs c → o' ≡ o
    → IsSlot v cs x o → IsSlot v (cs ++ c ∷ []) x o'
slot-stays v cs c None o o' w e h = e ∙ h
slot-stays v cs c (Some f) o o' w e h =
    let l = length-more cs c in let early = h.early in
    record {
      barred = h.barred;
      slot = e ∙ h.slot;
      early = omega (arith, l, early);
      free = λ b.
          let n = h.free b in
          since-more v cs c f.moment f.entry.frame n
          (false_from_ne_true (is_table (pairs_after v (cs ++ c ∷ [])) f.entry.frame)
          (λ t. both_ways (is_table (pairs_after v cs) f.entry.frame) (since-now v cs f.moment f.entry.frame h.early n)
          (w f.entry.frame t)));
      still = λ n. h.still (since-less v cs c f.moment f.entry.frame n);
    }

-- ---- a frame is noted

bar-more : (b p q : Bool) → ((not b && p) && not (q || false)) ≡ (not (b || q) && p)
bar-more true p q = refl
bar-more false true true = refl
bar-more false true false = refl
bar-more false false true = refl
bar-more false false false = refl

pub slot-read_from : (v : ℕ) (cs : List RootsCall) (c : RootsCall) (frame : ℕ) (x : Option Filling) (o o' : Option Slot)
    → OneMore v cs c frame → o' ≡ barred (frame ∷ []) o → IsSlot v cs x o → IsSlot v (cs ++ c ∷ []) x o'
slot-read_from v cs c frame None o o' w e h = e ∙ ap (barred (frame ∷ [])) h
slot-read_from v cs c frame (Some f) o o' w e h =
    let l = length-more cs c in let early = h.early in
    let q : Bool = eqb f.entry.frame frame in
    let t : Bool = is_table (pairs_after v cs) f.entry.frame in
    record {
      barred = h.barred || q;
      slot = e ∙ ap (barred (frame ∷ [])) h.slot
          ∙ ap (λ w. Some (record { side = f.side; entry = f.entry; reads = permits f.side f.entry false f.wp; writes = w }))
          (bar-more h.barred (permits f.side f.entry true f.wp) q);
      early = omega (arith, l, early);
      free = λ b.
          let n = h.free (or_parts h.barred q b).0 in
          since-more v cs c f.moment f.entry.frame n
          (w f.entry.frame ∙ or_from q t (or_parts h.barred q b).1 (since-now v cs f.moment f.entry.frame h.early n));
      still = λ n.
          let now = since-now v (cs ++ c ∷ []) f.moment f.entry.frame (omega (arith, l, early)) n in
          or_from h.barred q (h.still (since-less v cs c f.moment f.entry.frame n)) (or_parts q t (sym (w f.entry.frame) ∙ now)).0;
    }

-- ---- a page is filled

slot-new : (v : ℕ) (cs : List RootsCall) (c : RootsCall) (side : Side) (entry : Entry) (wp b : Bool) (o' : Option Slot) → AsMany v cs c
    → b ≡ is_table (pairs_after v cs) entry.frame → o' ≡ Some (filled b side entry wp)
    → IsHeld v (cs ++ c ∷ []) (record { moment = length cs; side = side; entry = entry; wp = wp }) o'
slot-new v cs c side entry wp b o' w e t =
    let l = length-more cs c in
    record {
      barred = b;
      slot = t;
      early = omega (arith, l);
      free = λ z. since-here v cs c entry.frame (sym e ∙ z) (w entry.frame ∙ sym e ∙ z);
      still = λ n. e ∙ sym (w entry.frame) ∙ since-now v (cs ++ c ∷ []) (length cs) entry.frame (omega (arith, l)) n;
    }

pub slot-filled : (v : ℕ) (cs : List RootsCall) (c : RootsCall) (side : Side) (entry : Entry) (wp b : Bool) (x : Option Filling)
    (f f' : ℕ → Option Slot) (page : ℕ) → AsMany v cs c → b ≡ is_table (pairs_after v cs) entry.frame
    → Turns f f' entry.page (Some (filled b side entry wp)) → page < 2 ^ 20 → IsSlot v cs x (f page)
    → IsSlot v (cs ++ c ∷ []) (filling_after (Fill side entry wp) (length cs) page x) (f' page)
slot-filled v cs c side entry wp b x f f' page w e t low h =
    let new : Option Filling = Some (record { moment = length cs; side = side; entry = entry; wp = wp }) in
    elim (eqb_tells page entry.page) [
      | inl y ↦
          subst (λ k. IsSlot v (cs ++ c ∷ []) (cond k new x) (f' page)) (sym y.0)
          (slot-new v cs c side entry wp b (f' page) w e (ap f' y.1 ∙ t.there))
      | inr y ↦
          subst (λ k. IsSlot v (cs ++ c ∷ []) (cond k new x) (f' page)) (sym y.0)
          (slot-stays v cs c x (f page) (f' page) (fewer-as v cs c w) (t.others page low y.1) h)
    ]

-- ---- pages are dropped

pub slot-dropped : (v : ℕ) (cs : List RootsCall) (c : RootsCall) (dropped : ℕ) (x : Option Filling) (f f' : ℕ → Option Slot) (page : ℕ)
    → AsMany v cs c → Turns f f' dropped None → page < 2 ^ 20 → IsSlot v cs x (f page)
    → IsSlot v (cs ++ c ∷ []) (filling_after (DropPage dropped) (length cs) page x) (f' page)
slot-dropped v cs c dropped x f f' page w t low h =
    elim (eqb_tells page dropped) [
      | inl y ↦ subst (λ k. IsSlot v (cs ++ c ∷ []) (cond k None x) (f' page)) (sym y.0) (ap f' y.1 ∙ t.there)
      | inr y ↦
          subst (λ k. IsSlot v (cs ++ c ∷ []) (cond k None x) (f' page)) (sym y.0)
          (slot-stays v cs c x (f page) (f' page) (fewer-as v cs c w) (t.others page low y.1) h)
    ]

pub slot-lost : (v : ℕ) (cs : List RootsCall) (c : RootsCall) (index : ℕ) (x : Option Filling) (f f' : ℕ → Option Slot) (page : ℕ)
    → AsMany v cs c → LosesDir f f' index → page < 2 ^ 20 → IsSlot v cs x (f page)
    → IsSlot v (cs ++ c ∷ []) (filling_after (DropDir index) (length cs) page x) (f' page)
slot-lost v cs c index x f f' page w t low h =
    elim (eqb_tells (page / 1024) index) [
      | inl y ↦ subst (λ k. IsSlot v (cs ++ c ∷ []) (cond k None x) (f' page)) (sym y.0) (t.gone page low y.1)
      | inr y ↦
          subst (λ k. IsSlot v (cs ++ c ∷ []) (cond k None x) (f' page)) (sym y.0)
          (slot-stays v cs c x (f page) (f' page) (fewer-as v cs c w) (t.others page low y.1) h)
    ]
