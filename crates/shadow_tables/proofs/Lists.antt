-- Lists of calls: the last fill of a page, and what is kept.
use Rattle.std.proofs.Common.{◌≡◌, ◌↔◌, ℕ, zero, suc, ◌+◌, ◌/◌, ◌^◌, ◌<◌, ◌≤◌, ◌⊎◌, List, [], ◌∷◌, ◌++◌, length, take, get_or, Bool, true, false, ◌&&◌, not, cond, eqb, Option, Some, None, refl, sym, ap, ◌∙◌, subst, inl, inr, arith}
use Rattle.std.proofs.lemmas.Bool.Decides.{eqb_tells}
use Rattle.std.proofs.lemmas.List.{take_more}
use Rattle.std.proofs.lemmas.Bool.{and_parts}
use Rattle.std.proofs.lemmas.Option.{same_Some}
use Rattle.paging.specs.declared.entry.Entry.{Entry}
use Rattle.guest_ram.specs.Among.{is_among}
use Rattle.shadow_tables.specs.Slots.{Slot, filled, barred, entry_in, is_side, is_adequate, permits, LosesWrites}
use Rattle.shadow_tables.specs.Steps.{after, after_call}
use Rattle.shadow_tables.specs.Calls.{IsFit, AreFit, fill_count, fills, Concerns, LeaveAlone, LastFill, IsEntryAfter, IsAdequateAfter, IsWithin, Follows}
use Rattle.shadow_tables.specs.declared.words.Side.{Side}
use Rattle.shadow_tables.specs.declared.words.Side.TheVariants.{Kernel, User}
use Rattle.shadow_tables.specs.declared.calls.Call.{Call}
use Rattle.shadow_tables.specs.declared.calls.Call.TheVariants.{Fill, DropPage, DropDir, DropAll, Note, Written}

-- ---- a list up to a place

pub after-append : (cs ds : List Call) (page : ℕ) (o : Option Slot) → after (cs ++ ds) page o ≡ after ds page (after cs page o)
after-append [] ds page o = refl
after-append (c ∷ cs) ds page o = after-append cs ds page (after_call c page o)

pub after-take : (cs : List Call) (i : ℕ) (d : Call) (page : ℕ) (o : Option Slot) → i < length cs
    → after (take (i + 1) cs) page o ≡ after_call (get_or cs i d) page (after (take i cs) page o)
after-take cs i d page o h =
    ap (λ (xs : List Call). after xs page o) (take_more cs i d h) ∙ after-append (take i cs) (get_or cs i d ∷ []) page o

pub fit-at : (cs : List Call) (i : ℕ) (d : Call) → AreFit cs → i < length cs → IsFit (get_or cs i d)
fit-at [] i d h l = absurd (omega (arith, l))
fit-at (c ∷ cs) zero d h l = h.0
fit-at (c ∷ cs) (suc i) d h l = fit-at cs i d h.1 (omega (arith, l))

fills-append : (cs ds : List Call) → fills (cs ++ ds) ≡ fills cs + fills ds
fills-append [] ds = omega arith
fills-append (c ∷ cs) ds = let e = fills-append cs ds in omega (arith, e)

pub fills-take : (cs : List Call) (i : ℕ) (d : Call) → i < length cs → fills (take (i + 1) cs) ≡ fills (take i cs)
    + fill_count (get_or cs i d)
fills-take cs i d h =
    let e = ap fills (take_more cs i d h) in let a = fills-append (take i cs) (get_or cs i d ∷ []) in omega (arith, e, a)

pub fills-le : (cs : List Call) (i : ℕ) → fills (take i cs) ≤ fills cs
fills-le cs zero = omega arith
fills-le [] (suc i) = omega arith
fills-le (c ∷ cs) (suc i) = let e = fills-le cs i in omega (arith, e)

-- ---- calls that leave a page alone

alone-call : (c : Call) (page : ℕ) (o : Option Slot) → (Concerns page c → ⊥) → after_call c page o ≡ o
alone-call (Fill side entry wp) page o n =
    elim (eqb_tells page entry.page) [ inl t ↦ absurd (n t.1) | inr f ↦ ap (λ b. cond b (Some (filled false side entry wp)) o) f.0 ]
alone-call (DropPage dropped) page o n =
    elim (eqb_tells page dropped) [ inl t ↦ absurd (n t.1) | inr f ↦ ap (λ b. cond b None o) f.0 ]
alone-call (DropDir index) page o n =
    elim (eqb_tells (page / 1024) index) [ inl t ↦ absurd (n t.1) | inr f ↦ ap (λ b. cond b None o) f.0 ]
alone-call DropAll page o n = absurd (n tt)
alone-call (Note frame) page o n = refl
alone-call (Written frame) page o n = refl

alone-after : (cs : List Call) (page : ℕ) (o : Option Slot) → LeaveAlone page cs → after cs page o ≡ o
alone-after [] page o h = refl
alone-after (c ∷ cs) page o h = ap (after cs page) (alone-call c page o h.0) ∙ alone-after cs page o h.1

-- ---- the last fill

fill-call : (side : Side) (entry : Entry) (wp : Bool) (page : ℕ) (o : Option Slot) → page ≡ entry.page
    → after_call (Fill side entry wp) page o ≡ Some (filled false side entry wp)
fill-call side entry wp page o e =
    elim (eqb_tells page entry.page) [ inl t ↦ ap (λ b. cond b (Some (filled false side entry wp)) o) t.0 | inr f ↦ absurd (f.1 e) ]

last-after : (cs : List Call) (page : ℕ) (side : Side) (entry : Entry) (wp : Bool) (o : Option Slot) → LastFill cs page side entry wp
    → after cs page o ≡ Some (filled false side entry wp)
last-after cs page side entry wp o l =
    ap (λ (xs : List Call). after xs page o) l.place
    ∙ after-append l.before (Fill side entry wp ∷ l.later) page o
    ∙ alone-after l.later page (after_call (Fill side entry wp) page (after l.before page o)) l.alone
    ∙ fill-call side entry wp page (after l.before page o) l.here

record Last (cs : List Call) (page : ℕ) : Type 0 where
  side : Side
  entry : Entry
  wp : Bool
  last : LastFill cs page side entry wp

abbrev Ends : List Call → ℕ → Option Slot → Type 0
Ends cs page o = LeaveAlone page cs ⊎ (Last cs page ⊎ (after cs page o ≡ None))

ends-first : (c : Call) (cs : List Call) (page : ℕ) (o : Option Slot) → LeaveAlone page cs → Ends (c ∷ cs) page o
ends-first (Fill side entry wp) cs page o a =
    elim (eqb_tells page entry.page) [
      | inl t ↦ inr (inl (record {
        side = side;
        entry = entry;
        wp = wp;
        last = record { before = []; later = cs; place = refl; here = t.1; alone = a };
      }))
      | inr f ↦ inl (f.1, a)
    ]
ends-first (DropPage dropped) cs page o a =
    elim (eqb_tells page dropped) [
      | inl t ↦ inr (inr (ap (after cs page) (ap (λ b. cond b None o) t.0) ∙ alone-after cs page None a))
      | inr f ↦ inl (f.1, a)
    ]
ends-first (DropDir index) cs page o a =
    elim (eqb_tells (page / 1024) index) [
      | inl t ↦ inr (inr (ap (after cs page) (ap (λ b. cond b None o) t.0) ∙ alone-after cs page None a))
      | inr f ↦ inl (f.1, a)
    ]
ends-first DropAll cs page o a = inr (inr (alone-after cs page None a))
ends-first (Note frame) cs page o a = inl ((λ e. e), a)
ends-first (Written frame) cs page o a = inl ((λ e. e), a)

last-more : (c : Call) (cs : List Call) (page : ℕ) → Last cs page → Last (c ∷ cs) page
last-more c cs page f =
    record {
      side = f.side;
      entry = f.entry;
      wp = f.wp;
      last = record {
        before = c ∷ f.last.before;
        later = f.last.later;
        place = ap (λ (xs : List Call). c ∷ xs) f.last.place;
        here = f.last.here;
        alone = f.last.alone;
      };
    }

ends : (cs : List Call) (page : ℕ) (o : Option Slot) → Ends cs page o
ends [] page o = inl tt
ends (c ∷ cs) page o =
    elim (ends cs page (after_call c page o)) [
      | inl a ↦ ends-first c cs page o a
      | inr x ↦ elim x [ inl f ↦ inr (inl (last-more c cs page f)) | inr n ↦ inr (inr n) ]
    ]

-- ---- the law

kept-from : (cs : List Call) (page : ℕ) (o now : Option Slot) (entry : Entry) → now ≡ after cs page o → entry_in now ≡ Some entry
    → IsEntryAfter cs page o entry
kept-from cs page o now entry q e =
    elim (ends cs page o) [
      | inl a ↦ inr (a, ap entry_in (sym (q ∙ alone-after cs page o a)) ∙ e)
      | inr x ↦ elim x [
        | inl f ↦
            let s = ap entry_in (sym (q ∙ last-after cs page f.side f.entry f.wp o f.last)) ∙ e in
            inl (f.side, f.wp, subst (λ y. LastFill cs page f.side y f.wp) (same_Some f.entry entry s) f.last)
        | inr n ↦ absurd (let s = ap entry_in (sym (q ∙ n)) ∙ e in cc)
      ]
    ]

kept-to : (cs : List Call) (page : ℕ) (o now : Option Slot) (entry : Entry) → now ≡ after cs page o → IsEntryAfter cs page o entry
    → entry_in now ≡ Some entry
kept-to cs page o now entry q h =
    elim h [
      | inl f ↦ ap entry_in (q ∙ last-after cs page f.0 entry f.1 o f.2)
      | inr a ↦ ap entry_in (q ∙ alone-after cs page o a.0) ∙ a.1
    ]

record Passes (s side : Side) (entry : Entry) (wp write : Bool) : Type 0 where
  same : s ≡ side
  passes : permits side entry write wp ≡ true

passes-from : (s side : Side) (entry : Entry) (wp write : Bool) → is_adequate (Some (filled false s entry wp)) side write ≡ true
    → Passes s side entry wp write
passes-from Kernel Kernel entry wp true h = record { same = refl; passes = h }
passes-from Kernel Kernel entry wp false h = record { same = refl; passes = h }
passes-from Kernel User entry wp write h = cc
passes-from User Kernel entry wp write h = cc
passes-from User User entry wp true h = record { same = refl; passes = h }
passes-from User User entry wp false h = record { same = refl; passes = h }

passes-to : (side : Side) (entry : Entry) (wp write : Bool) → permits side entry write wp ≡ true
    → is_adequate (Some (filled false side entry wp)) side write ≡ true
passes-to Kernel entry wp true h = h
passes-to Kernel entry wp false h = h
passes-to User entry wp true h = h
passes-to User entry wp false h = h

adequate-from : (cs : List Call) (page : ℕ) (o now : Option Slot) (side : Side) (write : Bool) → now ≡ after cs page o
    → is_adequate now side write ≡ true → IsAdequateAfter cs page o side write
adequate-from cs page o now side write q e =
    elim (ends cs page o) [
      | inl a ↦ inr (a, ap (λ x. is_adequate x side write) (sym (q ∙ alone-after cs page o a)) ∙ e)
      | inr x ↦ elim x [
        | inl f ↦
            let s = passes-from f.side side f.entry f.wp write
            (ap (λ x. is_adequate x side write) (sym (q ∙ last-after cs page f.side f.entry f.wp o f.last)) ∙ e) in
            inl (f.entry, f.wp, subst (λ y. LastFill cs page y f.entry f.wp) s.same f.last, s.passes)
        | inr n ↦ absurd (let s = ap (λ x. is_adequate x side write) (sym (q ∙ n)) ∙ e in cc)
      ]
    ]

adequate-to : (cs : List Call) (page : ℕ) (o now : Option Slot) (side : Side) (write : Bool) → now ≡ after cs page o
    → IsAdequateAfter cs page o side write → is_adequate now side write ≡ true
adequate-to cs page o now side write q h =
    elim h [
      | inl f ↦ ap (λ x. is_adequate x side write) (q ∙ last-after cs page side f.0 f.1 o f.2) ∙ passes-to side f.0 f.1 write f.3
      | inr a ↦ ap (λ x. is_adequate x side write) (q ∙ alone-after cs page o a.0) ∙ a.1
    ]

pub adequate-after : (cs : List Call) (page : ℕ) (o now : Option Slot) (side : Side) (write : Bool) → now ≡ after cs page o
    → (is_adequate now side write ≡ true) ↔ IsAdequateAfter cs page o side write
adequate-after cs page o now side write q = (adequate-from cs page o now side write q, adequate-to cs page o now side write q)

-- ---- with frames that are barred from writes

pub within-refl : (a : Option Slot) → IsWithin a a
within-refl None = tt
within-refl (Some a) = (refl, refl, refl, λ h. h)

pub within-same : (a b : Option Slot) → a ≡ b → IsWithin a b
within-same a b e = subst (λ x. IsWithin a x) e (within-refl a)

pub within-trans : (a b c : Option Slot) → IsWithin a b → IsWithin b c → IsWithin a c
within-trans None None c h k = k
within-trans (Some a) (Some b) (Some c) h k = (h.0 ∙ k.0, h.1 ∙ k.1, h.2 ∙ k.2, λ t. k.3 (h.3 t))
within-trans None (Some b) c h k = absurd h
within-trans (Some a) None c h k = absurd h
within-trans (Some a) (Some b) None h k = absurd k

within-cond : (t : Bool) (x a b : Option Slot) → IsWithin a b → IsWithin (cond t x a) (cond t x b)
within-cond true x a b h = within-refl x
within-cond false x a b h = h

pub within-call : (c : Call) (page : ℕ) (a b : Option Slot) → IsWithin a b → IsWithin (after_call c page a) (after_call c page b)
within-call (Fill side entry wp) page a b h = within-cond (eqb page entry.page) (Some (filled false side entry wp)) a b h
within-call (DropPage dropped) page a b h = within-cond (eqb page dropped) None a b h
within-call (DropDir index) page a b h = within-cond (eqb (page / 1024) index) None a b h
within-call DropAll page a b h = tt
within-call (Note frame) page a b h = h
within-call (Written frame) page a b h = h

pub within-kept : (a b : Option Slot) → IsWithin a b → entry_in a ≡ entry_in b
within-kept None None h = refl
within-kept (Some a) (Some b) h = ap (λ e. Some e) h.1
within-kept None (Some b) h = absurd h
within-kept (Some a) None h = absurd h

within-reads : (a b : Option Slot) (side : Side) → IsWithin a b → is_adequate a side false ≡ is_adequate b side false
within-reads None None side h = refl
within-reads (Some a) (Some b) side h = ap (λ x. is_side x side && a.reads) h.0 ∙ ap (λ r. is_side b.side side && r) h.2
within-reads None (Some b) side h = absurd h
within-reads (Some a) None side h = absurd h

pub both-true : (p a b : Bool) → (a ≡ true → b ≡ true) → (p && a) ≡ true → (p && b) ≡ true
both-true true a b h e = h e
both-true false a b h e = cc

within-writes : (a b : Option Slot) (side : Side) → IsWithin a b → is_adequate a side true ≡ true → is_adequate b side true ≡ true
within-writes None None side h e = e
within-writes (Some a) (Some b) side h e =
    both-true (is_side b.side side) a.writes b.writes h.3 (ap (λ x. is_side x side && a.writes) (sym h.0) ∙ e)
within-writes None (Some b) side h e = absurd h
within-writes (Some a) None side h e = absurd h

pub follows : (cs : List Call) (page : ℕ) (o now : Option Slot) → IsWithin now (after cs page o) → Follows cs page o now
follows cs page o now h =
    let then : Option Slot = after cs page o in
    let k = within-kept now then h in
    record {
      kept = λ entry. ((λ e. kept-from cs page o then entry refl (sym k ∙ e)), (λ e. k ∙ kept-to cs page o then entry refl e));
      reads = λ side. (let r = within-reads now then side h in
          ((λ e. adequate-from cs page o then side false refl (sym r ∙ e)), (λ e. r ∙ adequate-to cs page o then side false refl e)));
      writes = λ side e. adequate-from cs page o then side true refl (within-writes now then side h e);
    }

-- ---- one call

pub only-less : (b p : Bool) → (not b && p) ≡ true → p ≡ true
only-less true p e = cc
only-less false p e = e

pub barred-within : (write_protected : List ℕ) (o : Option Slot) → IsWithin (barred write_protected o) o
barred-within write_protected None = tt
barred-within write_protected (Some slot) =
    (refl, refl, refl, (λ e. (and_parts slot.writes (not (is_among slot.entry.frame write_protected)) e).0))

pub note-within : (f f' : ℕ → Option Slot) (write_protected : List ℕ) (page : ℕ) → LosesWrites f f' write_protected → page < 2 ^ 20
    → IsWithin (f' page) (f page)
note-within f f' write_protected page t l = subst (λ x. IsWithin x (f page)) (sym (t page l)) (barred-within write_protected (f page))
