-- The last fill of a page in a pair.
use Rattle.std.proofs.Common.{◌≡◌, ℕ, ◌/◌, ◌⊎◌, List, [], ◌∷◌, ◌++◌, map, Bool, cond, Option, Some, None, refl, sym, ap, ◌∙◌, subst, inl, inr}
use Rattle.std.proofs.lemmas.Bool.Decides.{eqb_tells}
use Rattle.paging.specs.declared.entry.Entry.{Entry}
use Rattle.shadow_tables.specs.Calls.{Concerns, LeaveAlone}
use Rattle.shadow_tables.specs.declared.words.Side.{Side}
use Rattle.shadow_tables.specs.declared.calls.Call.{Call}
use Rattle.shadow_tables.specs.declared.calls.Call.TheVariants.{Fill, DropPage, DropDir, DropAll, Note, Written}
use Rattle.shadow_cache.specs.Past.{MadeCall}
use Rattle.shadow_cache.specs.Replayed.{LastFill}
use Rattle.shadow_cache.specs.Agreeing.{Filling, filling_after, last_from, last_of}

last-append : (ds es : List MadeCall) (page : ℕ) (o : Option Filling) → last_from (ds ++ es) page o ≡ last_from es page
    (last_from ds page o)
last-append [] es page o = refl
last-append (d ∷ ds) es page o = last-append ds es page (filling_after d.call d.moment page o)

pub last-more : (ds : List MadeCall) (moment : ℕ) (call : Call) (page : ℕ) → last_of (ds ++ record { moment = moment; call = call } ∷ [])
    page ≡ filling_after call moment page (last_of ds page)
last-more ds moment call page = last-append ds (record { moment = moment; call = call } ∷ []) page None

-- ---- calls that leave a page alone

alone-one : (c : Call) (moment page : ℕ) (o : Option Filling) → (Concerns page c → ⊥) → filling_after c moment page o ≡ o
alone-one (Fill side entry wp) moment page o n =
    elim (eqb_tells page entry.page)
    [ inl t ↦ absurd (n t.1) | inr f ↦ ap (λ b. cond b (Some (record { moment = moment; side = side; entry = entry; wp = wp })) o) f.0 ]
alone-one (DropPage dropped) moment page o n =
    elim (eqb_tells page dropped) [ inl t ↦ absurd (n t.1) | inr f ↦ ap (λ b. cond b None o) f.0 ]
alone-one (DropDir index) moment page o n =
    elim (eqb_tells (page / 1024) index) [ inl t ↦ absurd (n t.1) | inr f ↦ ap (λ b. cond b None o) f.0 ]
alone-one DropAll moment page o n = absurd (n tt)
alone-one (Note frame) moment page o n = refl
alone-one (Written frame) moment page o n = refl

abbrev calls_of : List MadeCall → List Call
calls_of ds = map (λ (d : MadeCall). d.call) ds

alone-all : (ds : List MadeCall) (page : ℕ) (o : Option Filling) → LeaveAlone page (calls_of ds) → last_from ds page o ≡ o
alone-all [] page o h = refl
alone-all (d ∷ ds) page o h = ap (last_from ds page) (alone-one d.call d.moment page o h.0) ∙ alone-all ds page o h.1

-- ---- the last fill

pub filling-there : (side : Side) (entry : Entry) (wp : Bool) (moment page : ℕ) (o : Option Filling) → page ≡ entry.page
    → filling_after (Fill side entry wp) moment page o ≡ Some (record { moment = moment; side = side; entry = entry; wp = wp })
filling-there side entry wp moment page o e =
    elim (eqb_tells page entry.page) [
      | inl t ↦ ap (λ b. cond b (Some (record { moment = moment; side = side; entry = entry; wp = wp })) o) t.0
      | inr f ↦ absurd (f.1 e)
    ]

pub last-to : (ds : List MadeCall) (page : ℕ) (side : Side) (entry : Entry) (wp : Bool) (moment : ℕ) → LastFill ds page side entry wp moment
    → last_of ds page ≡ Some (record { moment = moment; side = side; entry = entry; wp = wp })
last-to ds page side entry wp moment l =
    ap (λ (xs : List MadeCall). last_from xs page None) l.place
    ∙ last-append l.before (record { moment = moment; call = Fill side entry wp } ∷ l.later) page None
    ∙ alone-all l.later page (filling_after (Fill side entry wp) moment page (last_of l.before page)) l.alone
    ∙ filling-there side entry wp moment page (last_of l.before page) l.here

record Last (ds : List MadeCall) (page : ℕ) : Type 0 where
  fill : Filling
  last : LastFill ds page fill.side fill.entry fill.wp fill.moment

abbrev Ends : List MadeCall → ℕ → Option Filling → Type 0
Ends ds page o = LeaveAlone page (calls_of ds) ⊎ (Last ds page ⊎ (last_from ds page o ≡ None))

ends-first : (c : Call) (moment : ℕ) (ds : List MadeCall) (page : ℕ) (o : Option Filling) → LeaveAlone page (calls_of ds)
    → Ends (record { moment = moment; call = c } ∷ ds) page o
ends-first (Fill side entry wp) moment ds page o a =
    elim (eqb_tells page entry.page) [
      | inl t ↦ inr (inl (record {
        fill = record { moment = moment; side = side; entry = entry; wp = wp };
        last = record { before = []; later = ds; place = refl; here = t.1; alone = a };
      }))
      | inr f ↦ inl (f.1, a)
    ]
ends-first (DropPage dropped) moment ds page o a =
    elim (eqb_tells page dropped) [
      | inl t ↦ inr (inr (ap (last_from ds page) (ap (λ b. cond b None o) t.0) ∙ alone-all ds page None a))
      | inr f ↦ inl (f.1, a)
    ]
ends-first (DropDir index) moment ds page o a =
    elim (eqb_tells (page / 1024) index) [
      | inl t ↦ inr (inr (ap (last_from ds page) (ap (λ b. cond b None o) t.0) ∙ alone-all ds page None a))
      | inr f ↦ inl (f.1, a)
    ]
ends-first DropAll moment ds page o a = inr (inr (alone-all ds page None a))
ends-first (Note frame) moment ds page o a = inl ((λ e. e), a)
ends-first (Written frame) moment ds page o a = inl ((λ e. e), a)

last-later : (d : MadeCall) (ds : List MadeCall) (page : ℕ) → Last ds page → Last (d ∷ ds) page
last-later d ds page f =
    record {
      fill = f.fill;
      last = record {
        before = d ∷ f.last.before;
        later = f.last.later;
        place = ap (λ (xs : List MadeCall). d ∷ xs) f.last.place;
        here = f.last.here;
        alone = f.last.alone;
      };
    }

ends : (ds : List MadeCall) (page : ℕ) (o : Option Filling) → Ends ds page o
ends [] page o = inl tt
ends (d ∷ ds) page o =
    elim (ends ds page (filling_after d.call d.moment page o)) [
      | inl a ↦ ends-first d.call d.moment ds page o a
      | inr x ↦ elim x [ inl f ↦ inr (inl (last-later d ds page f)) | inr n ↦ inr (inr n) ]
    ]

same-filling : (a b : Filling) → Some a ≡ Some b → a ≡ b
same-filling a b e = cc

none-filling : (f : Filling) → None ≡ Some f → ⊥
none-filling f e = cc

pub last-is : (ds : List MadeCall) (page : ℕ) (f : Filling) → last_of ds page ≡ Some f → LastFill ds page f.side f.entry f.wp f.moment
last-is ds page f e =
    elim (ends ds page None) [
      | inl a ↦ absurd (none-filling f (sym (alone-all ds page None a) ∙ e))
      | inr x ↦ elim x [
        | inl l ↦
            let same : l.fill ≡ f =
            same-filling l.fill f (sym (last-to ds page l.fill.side l.fill.entry l.fill.wp l.fill.moment l.last) ∙ e) in
            subst (λ (g : Filling). LastFill ds page g.side g.entry g.wp g.moment) same l.last
        | inr n ↦ absurd (none-filling f (sym n ∙ e))
      ]
    ]
