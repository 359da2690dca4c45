-- Each call, described by the pasts of the pairs.
use Rattle.std.proofs.Common.{◌≡◌, ℕ, zero, suc, ◌+◌, ◌/◌, ◌^◌, ◌<◌, ◌≤◌, List, [], ◌∷◌, ◌++◌, length, length-append, get_or, take, MatchOption, Bool, true, false, Option, Some, None, refl, sym, ap, ◌∙◌, subst, arith}
use Rattle.paging.specs.declared.entry.Entry.{Entry}
use Rattle.guest_ram.specs.Among.{is_among}
use Rattle.shadow_tables.specs.Slots.{filled, held, slot_at, Turns, LosesDir}
use Rattle.shadow_tables.specs.Opened.{KeepsTables, HasOpened}
use Rattle.shadow_tables.specs.declared.words.Side.{Side}
use Rattle.shadow_tables.specs.declared.calls.Call.{Call}
use Rattle.shadow_tables.specs.declared.calls.Call.TheVariants.{Fill, DropPage, DropDir, DropAll, Note, Written}
use Rattle.shadow_cache.specs.Pairs.{no_frames, tables_of, frames_of}
use Rattle.shadow_cache.specs.Others.{AreKept, AllLoseWrites, place_of}
use Rattle.shadow_cache.specs.After.{written_in, noted_in, emptied}
use Rattle.shadow_cache.specs.Switched.{staying_pairs, IsFresh, Opens, ComesBack, IsSwitched}
use Rattle.shadow_cache.specs.Past.{Past, begun, is_table, after_shared, unmarked, of_value, but_value, with_front, after_switch, pairs_after}
use Rattle.shadow_cache.specs.Replayed.{IsFitCall, AreFitCalls}
use Rattle.shadow_cache.specs.Agreeing.{last_of, IsSlot, AllAgree, Agree}
use Rattle.shadow_cache.specs.Laws.{frames-cons, tables-any}
use Rattle.shadow_cache.specs.declared.pair.Pair.{Pair}
use Rattle.shadow_cache.specs.declared.call_lists.RootsCall.{RootsCall}
use Rattle.shadow_cache.specs.declared.call_lists.RootsCall.TheVariants.{Shared, Switch}
use Rattle.shadow_cache.proofs.Beside.{no-reads}
use Rattle.shadow_cache.proofs.LastFills.{last-more}
use Rattle.shadow_cache.proofs.Since.{pairs-more, pairs-none}
use Rattle.shadow_cache.proofs.Tabled.{fewer-switch, fewer-written, fewer-as, as-fill, as-page, as-dir, one-note}
use Rattle.shadow_cache.proofs.SlotSteps.{slot-filled, slot-dropped, slot-lost}
use Rattle.shadow_cache.proofs.PairSteps.{all-kept, all-lost, any-table, read_from-tables, agrees-stale, all-stay, all-first, all-unmarked, value-none, value-found, agrees-fresh, has_tables_under-more, few-more}

after-more : (v : ℕ) (cs : List RootsCall) (c : Call) (qs : List Past) (ps : List Pair) (m : List ℕ) → pairs_after v cs ≡ qs
    → AllAgree v (cs ++ Shared c ∷ []) (after_shared (length cs) c qs) ps m → Agree v (cs ++ Shared c ∷ []) ps m
after-more v cs c qs ps m e a =
    subst (λ (xs : List Past). AllAgree v (cs ++ Shared c ∷ []) xs ps m)
    (sym (pairs-more v cs (Shared c) ∙ ap (after_shared (length cs) c) e)) a

-- ---- a fill

module _ (v : ℕ) (cs : List RootsCall) (side : Side) (entry : Entry) (wp : Bool) (p : Pair) (ps : List Pair) (m m' : List ℕ)
    (low : entry.page < 2 ^ 20) (k : AreKept ps m m')
    (t : Turns (slot_at p.shadow m) (slot_at p.shadow m') entry.page
    (Some (filled (is_among entry.frame (tables_of (p ∷ ps))) side entry wp))) (o : HasOpened p.shadow m m' side (entry.page / 1024)) where
  abbrev fill : RootsCall
  fill = Shared (Fill side entry wp)

  filled-by : (qs : List Past) → pairs_after v cs ≡ qs → AllAgree v cs qs (p ∷ ps) m
      → AllAgree v (cs ++ fill ∷ []) (after_shared (length cs) (Fill side entry wp) qs) (p ∷ ps) m'
  filled-by [] e a = a
  filled-by (q ∷ qs) e a =
      let many = as-fill v cs side entry wp in
      let index : entry.page / 1024 < 1024 = omega (arith, low) in
      let barred : is_among entry.frame (tables_of (p ∷ ps)) ≡ is_table (pairs_after v cs) entry.frame =
      tables-any (p ∷ ps) entry.frame ∙ any-table v cs (q ∷ qs) (p ∷ ps) m entry.frame a
      ∙ sym (ap (λ (xs : List Past). is_table xs entry.frame) e)
      in (
        record {
          value_of = a.0.value_of;
          tables = a.0.tables;
          mark = a.0.mark;
          slots = λ page l. subst (λ x. IsSlot v (cs ++ fill ∷ []) x (slot_at p.shadow m' page))
              (sym (last-more q.calls (length cs) (Fill side entry wp) page))
              (slot-filled v cs fill side entry wp (is_among entry.frame (tables_of (p ∷ ps))) (last_of q.calls page) (slot_at p.shadow m)
              (slot_at p.shadow m') page many barred t l (a.0.slots page l));
          has_tables_under = has_tables_under-more v cs q p m m' a.0 side (entry.page / 1024) index o;
          few = few-more v cs q p m m' a.0 side (entry.page / 1024) index o;
        },
        all-kept v cs fill qs ps m m' (fewer-as v cs fill many) k a.1,
      )

  pub step-fill : Agree v cs (p ∷ ps) m → Agree v (cs ++ Shared (Fill side entry wp) ∷ []) (p ∷ ps) m'
  step-fill a = after-more v cs (Fill side entry wp) (pairs_after v cs) (p ∷ ps) m' refl (filled-by (pairs_after v cs) refl a)

-- ---- drops

module _ (v : ℕ) (cs : List RootsCall) (p : Pair) (ps : List Pair) (m m' : List ℕ) (k : AreKept ps m m')
    (same : held p.shadow m' ≡ held p.shadow m) (keeps : KeepsTables p.shadow m m') where
  dropped-by : (page : ℕ) → Turns (slot_at p.shadow m) (slot_at p.shadow m') page None → (qs : List Past) → AllAgree v cs qs (p ∷ ps) m
      → AllAgree v (cs ++ Shared (DropPage page) ∷ []) (after_shared (length cs) (DropPage page) qs) (p ∷ ps) m'
  dropped-by page t [] a = a
  dropped-by page t (q ∷ qs) a =
      let many = as-page v cs page in (
        record {
          value_of = a.0.value_of;
          tables = a.0.tables;
          mark = a.0.mark;
          slots = λ x l. subst (λ y. IsSlot v (cs ++ Shared (DropPage page) ∷ []) y (slot_at p.shadow m' x))
              (sym (last-more q.calls (length cs) (DropPage page) x))
              (slot-dropped v cs (Shared (DropPage page)) page (last_of q.calls x) (slot_at p.shadow m) (slot_at p.shadow m') x many
              t l (a.0.slots x l));
          has_tables_under = λ place y. (let z = a.0.has_tables_under place y in (z.0, keeps place.side place.index z.0 z.1));
          few = subst (λ (fs : List ℕ). length fs ≤ 2 + length q.places) (sym same) a.0.few;
        },
        all-kept v cs (Shared (DropPage page)) qs ps m m' (fewer-as v cs (Shared (DropPage page)) many) k a.1,
      )

  pub step-drop_page : (page : ℕ) → Turns (slot_at p.shadow m) (slot_at p.shadow m') page None → Agree v cs (p ∷ ps) m
      → Agree v (cs ++ Shared (DropPage page) ∷ []) (p ∷ ps) m'
  step-drop_page page t a = after-more v cs (DropPage page) (pairs_after v cs) (p ∷ ps) m' refl (dropped-by page t (pairs_after v cs) a)

  lost-by : (index : ℕ) → LosesDir (slot_at p.shadow m) (slot_at p.shadow m') index → (qs : List Past) → AllAgree v cs qs (p ∷ ps) m
      → AllAgree v (cs ++ Shared (DropDir index) ∷ []) (after_shared (length cs) (DropDir index) qs) (p ∷ ps) m'
  lost-by index t [] a = a
  lost-by index t (q ∷ qs) a =
      let many = as-dir v cs index in (
        record {
          value_of = a.0.value_of;
          tables = a.0.tables;
          mark = a.0.mark;
          slots = λ x l. subst (λ y. IsSlot v (cs ++ Shared (DropDir index) ∷ []) y (slot_at p.shadow m' x))
              (sym (last-more q.calls (length cs) (DropDir index) x))
              (slot-lost v cs (Shared (DropDir index)) index (last_of q.calls x) (slot_at p.shadow m) (slot_at p.shadow m') x many
              t l (a.0.slots x l));
          has_tables_under = λ place y. (let z = a.0.has_tables_under place y in (z.0, keeps place.side place.index z.0 z.1));
          few = subst (λ (fs : List ℕ). length fs ≤ 2 + length q.places) (sym same) a.0.few;
        },
        all-kept v cs (Shared (DropDir index)) qs ps m m' (fewer-as v cs (Shared (DropDir index)) many) k a.1,
      )

  pub step-drop_dir : (index : ℕ) → LosesDir (slot_at p.shadow m) (slot_at p.shadow m') index → Agree v cs (p ∷ ps) m
      → Agree v (cs ++ Shared (DropDir index) ∷ []) (p ∷ ps) m'
  step-drop_dir index t a = after-more v cs (DropDir index) (pairs_after v cs) (p ∷ ps) m' refl (lost-by index t (pairs_after v cs) a)

-- ---- all dropped

module _ (v : ℕ) (cs : List RootsCall) (p : Pair) (ps ps' : List Pair) (m m' : List ℕ) (e : ps' ≡ emptied (p ∷ ps))
    (none : (page : ℕ) → page < 2 ^ 20 → slot_at p.shadow m' page ≡ None) (two : length (frames_of ps' m') ≡ 2) where
  few-frames : length (held p.shadow m') ≤ 2
  few-frames =
      let x = ap (λ (xs : List Pair). length (frames_of xs m')) e in
      let y = ap (λ (fs : List ℕ). length fs) (frames-cons (record p { tables = no_frames; stale = false }) [] m') in
      let z = length-append (held p.shadow m') (frames_of [] m') in
      omega (arith, two, x, y, z)

  emptied-by : (qs : List Past) → AllAgree v cs qs (p ∷ ps) m → AllAgree v (cs ++ Shared DropAll ∷ []) (after_shared (length cs) DropAll qs)
      (emptied (p ∷ ps)) m'
  emptied-by [] a = absurd a
  emptied-by (q ∷ qs) a = (
    record {
      value_of = a.0.value_of;
      tables = λ x. no-reads x;
      mark = refl;
      slots = λ page l. none page l;
      has_tables_under = λ place t. absurd (let f : false ≡ true = t in cc);
      few = omega (arith, few-frames);
    },
    tt,
  )

  pub step-drop_all : Agree v cs (p ∷ ps) m → Agree v (cs ++ Shared DropAll ∷ []) ps' m'
  step-drop_all a =
      subst (λ (xs : List Pair). Agree v (cs ++ Shared DropAll ∷ []) xs m') (sym e)
      (after-more v cs DropAll (pairs_after v cs) (emptied (p ∷ ps)) m' refl (emptied-by (pairs_after v cs) a))

-- ---- a frame is noted

module _ (v : ℕ) (cs : List RootsCall) (frame : ℕ) (p : Pair) (ps ps' : List Pair) (m m' : List ℕ) (e : ps' ≡ noted_in (p ∷ ps) frame)
    (size : length p.tables ≡ 16384) (low : frame < 16384) (l : AllLoseWrites (p ∷ ps) m m' frame) where
  read_from-by : (qs : List Past) → pairs_after v cs ≡ qs → AllAgree v cs qs (p ∷ ps) m
      → AllAgree v (cs ++ Shared (Note frame) ∷ []) (after_shared (length cs) (Note frame) qs) (noted_in (p ∷ ps) frame) m'
  read_from-by [] q a = absurd a
  read_from-by (q ∷ qs) f a =
      let one = one-note v cs frame q qs f in
      let x = all-lost v cs (Shared (Note frame)) frame (q ∷ qs) (p ∷ ps) m m' one l a in (
        record {
          value_of = x.0.value_of;
          tables = λ y. read_from-tables p.tables q.tables frame y (omega (arith, size, low)) a.0.tables;
          mark = x.0.mark;
          slots = x.0.slots;
          has_tables_under = x.0.has_tables_under;
          few = x.0.few;
        },
        x.1,
      )

  pub step-note : Agree v cs (p ∷ ps) m → Agree v (cs ++ Shared (Note frame) ∷ []) ps' m'
  step-note a =
      subst (λ (xs : List Pair). Agree v (cs ++ Shared (Note frame) ∷ []) xs m') (sym e)
      (after-more v cs (Note frame) (pairs_after v cs) (noted_in (p ∷ ps) frame) m' refl (read_from-by (pairs_after v cs) refl a))

-- ---- a frame was written

module _ (v : ℕ) (cs : List RootsCall) (frame : ℕ) (p : Pair) (ps ps' : List Pair) (m m' : List ℕ) (e : ps' ≡ written_in (p ∷ ps) frame)
    (k : AreKept ps' m m') where
  written-by : (qs : List Past) → AllAgree v cs qs (p ∷ ps) m → AllAgree v cs (after_shared (length cs) (Written frame) qs)
      (written_in (p ∷ ps) frame) m
  written-by [] a = absurd a
  written-by (q ∷ qs) a = (agrees-stale v cs frame q p m a.0, all-stay v cs frame qs ps m a.1)

  pub step-written : Agree v cs (p ∷ ps) m → Agree v (cs ++ Shared (Written frame) ∷ []) ps' m'
  step-written a =
      after-more v cs (Written frame) (pairs_after v cs) ps' m' refl
      (all-kept v cs (Shared (Written frame)) (after_shared (length cs) (Written frame) (pairs_after v cs)) ps' m m'
      (fewer-written v cs frame) k
      (subst (λ (xs : List Pair). AllAgree v cs (after_shared (length cs) (Written frame) (pairs_after v cs)) xs m) (sym e)
      (written-by (pairs_after v cs) a)))

-- ---- a load of CR3

module _ (v : ℕ) (cs : List RootsCall) (value : ℕ) (m m' : List ℕ) where
  abbrev load : RootsCall
  load = Switch value

  opens : (qs : List Past) (ps ps' : List Pair) → AllAgree v cs qs ps m → of_value value qs ≡ None → Opens ps ps' m m' value
      → AllAgree v (cs ++ load ∷ []) (after_switch value qs) ps' m'
  opens qs ps ps' a e x =
      subst (λ o. AllAgree v (cs ++ load ∷ []) (with_front value qs o) ps' m') (sym e)
      (subst (λ (xs : List Pair). AllAgree v (cs ++ load ∷ []) (begun value ∷ take 7 qs) xs m') (sym x.front) (
        agrees-fresh v (cs ++ load ∷ []) value x.pair m' x.fresh,
        all-kept v cs load (take 7 qs) (take 7 ps) m m' (fewer-switch v cs value) x.kept (all-first v cs 7 qs ps m a),
      ))

  comes_back : (qs : List Past) (ps ps' : List Pair) (i : ℕ) → AllAgree v cs qs ps m → place_of value ps ≡ Some i → ComesBack ps ps' m m' i
      → AllAgree v (cs ++ load ∷ []) (after_switch value qs) ps' m'
  comes_back qs ps ps' i a e x =
      let f = value-found v cs value qs ps i x.pair m a e x.here in
      subst (λ o. AllAgree v (cs ++ load ∷ []) (with_front value qs o) ps' m') (sym f.here)
      (all-kept v cs load (f.past ∷ but_value value qs) ps' m m' (fewer-switch v cs value) x.kept
      (subst (λ (xs : List Pair). AllAgree v cs (f.past ∷ but_value value qs) xs m) (sym x.front) (f.agrees, f.others)))

  comes : (qs : List Past) (ps ps' : List Pair) (o : Option ℕ) → AllAgree v cs qs ps m → place_of value ps ≡ o
      → MatchOption o (Opens ps ps' m m' value) (λ i. ComesBack ps ps' m m' i) → AllAgree v (cs ++ load ∷ []) (after_switch value qs) ps' m'
  comes qs ps ps' None a e x = opens qs ps ps' a (value-none v cs value qs ps m a e) x
  comes qs ps ps' (Some i) a e x = comes_back qs ps ps' i a e x

  pub step-switch : (ps ps' : List Pair) → IsSwitched ps ps' m m' value → Agree v cs ps m → Agree v (cs ++ Switch value ∷ []) ps' m'
  step-switch ps ps' x a =
      subst (λ (xs : List Past). AllAgree v (cs ++ load ∷ []) xs ps' m') (sym (pairs-more v cs (Switch value)))
      (comes (unmarked (pairs_after v cs)) (staying_pairs ps) ps' (place_of value (staying_pairs ps))
      (all-unmarked v cs (pairs_after v cs) ps m a) refl x)

-- ---- the first pair

pub agree-start : (v : ℕ) (p : Pair) (ps : List Pair) (m : List ℕ) → ps ≡ p ∷ [] → IsFresh p m v → Agree v [] ps m
agree-start v p ps m e f =
    subst (λ (qs : List Past). AllAgree v [] qs ps m) (sym (pairs-none v))
    (subst (λ (xs : List Pair). AllAgree v [] (begun v ∷ []) xs m) (sym e) (agrees-fresh v [] v p m f, tt))

pub fit-at : (cs : List RootsCall) (i : ℕ) (d : RootsCall) → AreFitCalls cs → i < length cs → IsFitCall (get_or cs i d)
fit-at [] i d h l = absurd (omega (arith, l))
fit-at (c ∷ cs) zero d h l = h.0
fit-at (c ∷ cs) (suc i) d h l = fit-at cs i d h.1 (omega (arith, l))
