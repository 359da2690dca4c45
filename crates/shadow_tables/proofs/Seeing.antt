-- What is seen of shadows after a call, of all pages, of one, and of other values of CR3.
use Rattle.std.proofs.Common.{◌≡◌, ℕ, suc, ◌+◌, ◌/◌, ◌^◌, ◌<◌, ◌==◌, List, [], ◌∷◌, ◌++◌, map, length, take, get_or, Bool, true, false, not, ◌&&◌, ◌||◌, cond, eqb, leb, Option, Some, None, is_none, refl, sym, ap, subst, ◌∙◌, inl, inr, arith}
use Rattle.guest_ram.specs.Among.{is_among}
use Rattle.paging.specs.declared.entry.Entry.{Entry}
use Rattle.std.proofs.Math.Path.{fun_ext}
use Rattle.std.proofs.lemmas.Bool.Decides.{eqb_tells, leb_tells}
use Rattle.std.proofs.lemmas.List.{take_more}
use Rattle.shadow_tables.specs.Slots.{Slot, Turns, LosesDir, SameSlots, filled, barred, permits}
use Rattle.shadow_tables.specs.Calls.{IsWithin}
use Rattle.shadow_tables.specs.OtherRoot.{OtherRoot, IsSame, AreSame}
use Rattle.shadow_tables.specs.Seen.{Seen, seen_of, of_pages, of_root, of_roots, protects, turned, without, after_one, after_calls}
use Rattle.shadow_tables.specs.Steps.{ProtectsNone, IsWithinCall, IsAfterCall, after_call}
use Rattle.shadow_tables.specs.declared.calls.Call.{Call}
use Rattle.shadow_tables.specs.declared.calls.Call.TheVariants.{Fill, DropPage, DropDir, DropAll, Note, Written}
use Rattle.shadow_tables.specs.declared.shadows.Shadows as shadows
use Rattle.shadow_tables.specs.declared.words.Side.{Side}
use Rattle.shadow_tables.proofs.Lists.{within-refl, only-less, barred-within}

in_pages : (f : ℕ → Option Slot) (page : ℕ) → page < 2 ^ 20 → of_pages f page ≡ f page
in_pages f page l = elim (leb_tells (2 ^ 20) page) [
  | inl e ↦ let g = e.1 in absurd (omega (arith, g, l))
  | inr e ↦ ap (λ b. cond b None (f page)) e.0
]

beyond : (f : ℕ → Option Slot) (page : ℕ) → leb (2 ^ 20) page ≡ true → of_pages f page ≡ None
beyond f page e = ap (λ b. cond b None (f page)) e

pub turned_pages : (f f' : ℕ → Option Slot) (page : ℕ) (o : Option Slot) → page < 2 ^ 20 → Turns f f' page o
    → of_pages f' ≡ turned page o (of_pages f)
turned_pages f f' page o l t = fun_ext (λ q. elim (eqb_tells q page) [
  | inl e ↦ ap (of_pages f') e.1 ∙ in_pages f' page l ∙ t.there ∙ sym (ap (λ b. cond b o (of_pages f q)) e.0)
  | inr n ↦
      elim (leb_tells (2 ^ 20) q) [
        | inl g ↦ beyond f' q g.0 ∙ sym (beyond f q g.0)
        | inr k ↦ in_pages f' q k.1 ∙ t.others q k.1 n.1 ∙ sym (in_pages f q k.1)
      ]
      ∙ sym (ap (λ b. cond b o (of_pages f q)) n.0)
])

pub lost_pages : (f f' : ℕ → Option Slot) (index : ℕ) → index < 1024 → LosesDir f f' index → of_pages f' ≡ without index (of_pages f)
lost_pages f f' index l t = fun_ext (λ q. elim (leb_tells (2 ^ 20) q) [
  | inl g ↦ beyond f' q g.0 ∙ sym (elim (eqb_tells (q / 1024) index) [
    | inl e ↦ ap (λ b. cond b None (of_pages f q)) e.0
    | inr n ↦ ap (λ b. cond b None (of_pages f q)) n.0 ∙ beyond f q g.0
  ])
  | inr k ↦ in_pages f' q k.1 ∙ elim (eqb_tells (q / 1024) index) [
    | inl e ↦ t.gone q k.1 e.1 ∙ sym (ap (λ b. cond b None (of_pages f q)) e.0)
    | inr n ↦ t.others q k.1 n.1 ∙ sym (in_pages f q k.1) ∙ sym (ap (λ b. cond b None (of_pages f q)) n.0)
  ]
])

pub no_pages : (f' : ℕ → Option Slot) → ((page : ℕ) → page < 2 ^ 20 → f' page ≡ None) → of_pages f' ≡ λ page. None
no_pages f' h = fun_ext (λ q. elim (leb_tells (2 ^ 20) q) [
  | inl g ↦ beyond f' q g.0
  | inr k ↦ in_pages f' q k.1 ∙ h q k.1
])

after_calls-append : (cs ds : List Call) (v : Seen) → after_calls (cs ++ ds) v ≡ after_calls ds (after_calls cs v)
after_calls-append [] ds v = refl
after_calls-append (c ∷ cs) ds v = after_calls-append cs ds (after_one c v)

pub after_calls-take : (cs : List Call) (i : ℕ) (d : Call) → i < length cs → (v : Seen)
    → after_calls (take (i + 1) cs) v ≡ after_one (get_or cs i d) (after_calls (take i cs) v)
after_calls-take cs i d h v =
    ap (λ (xs : List Call). after_calls xs v) (take_more cs i d h) ∙ after_calls-append (take i cs) (get_or cs i d ∷ []) v

-- ---- of one page

chosen : (P : Seen → Type 0) (b : Bool) (v w : Seen) → P v → P w → P (cond b v w)
chosen P true v w h k = h
chosen P false v w h k = k

filled-within : (here b : Bool) (side : Side) (entry : Entry) (wp : Bool) (o : Option Slot)
    → IsWithin (cond here (Some (filled b side entry wp)) o) (cond here (Some (filled false side entry wp)) o)
filled-within true b side entry wp o = (refl, refl, refl, only-less b (permits side entry true wp))
filled-within false b side entry wp o = within-refl o

-- what the call leaves of it, or the same with less right to write
one-within : (call : Call) (v : Seen) (page : ℕ) → IsWithin ((after_one call v).slots page) (after_call call page (v.slots page))
one-within (Fill side entry wp) v page = filled-within (eqb page entry.page) (protects v entry.frame) side entry wp (v.slots page)
one-within (DropPage dropped) v page = within-refl _
one-within (DropDir index) v page = within-refl _
one-within DropAll v page = chosen (λ w. IsWithin (w.slots page) None) (is_none v.cr3) _ _ tt tt
one-within (Note frame) v page = chosen (λ w. IsWithin (w.slots page) (v.slots page)) (is_none v.cr3) _ _ (within-refl (v.slots page))
    (barred-within (frame ∷ []) (v.slots page))
one-within (Written frame) v page =
    chosen (λ w. IsWithin (w.slots page) (v.slots page)) (is_none v.cr3) _ _ (within-refl (v.slots page)) (within-refl (v.slots page))

read-now : (none was here more : Bool) → none ≡ false → here ≡ true → ((not none && (was || here)) || more) ≡ false → ⊥
read-now true was here more e h k = absurd (let q : true ≡ false = e in cc)
read-now false true here more e h k = absurd (let q : true ≡ false = k in cc)
read-now false false true more e h k = absurd (let q : true ≡ false = k in cc)
read-now false false false more e h k = absurd (let q : false ≡ true = h in cc)

eqb_same : (n : ℕ) → eqb n n ≡ true
eqb_same n = elim (eqb_tells n n) [ inl t ↦ t.0 | inr f ↦ absurd (f.1 refl) ]

-- just that, where no frame is write-protected before and after
one-exact : (call : Call) (v : Seen) (page : ℕ) → ((f : ℕ) → protects v f ≡ false) → ((f : ℕ) → protects (after_one call v) f ≡ false)
    → (after_one call v).slots page ≡ after_call call page (v.slots page)
one-exact (Fill side entry wp) v page before after =
    ap (λ b. cond (eqb page entry.page) (Some (filled b side entry wp)) (v.slots page)) (before entry.frame)
one-exact (DropPage dropped) v page before after = refl
one-exact (DropDir index) v page before after = refl
one-exact DropAll v page before after = chosen (λ w. w.slots page ≡ None) (is_none v.cr3) _ _ refl refl
one-exact (Note frame) v page before after = by (is_none v.cr3) refl (after frame)
  where
    marked : Seen
    marked = record v {
      slots = λ page. barred (frame ∷ []) (v.slots page);
      read_from = λ f. v.read_from f || (f == frame);
      other_roots = map (λ (a : OtherRoot). record a { slots = λ page. barred (frame ∷ []) (a.slots page) }) v.other_roots;
    }

    by : (b : Bool) → is_none v.cr3 ≡ b → protects (cond b v marked) frame ≡ false → (cond b v marked).slots page ≡ v.slots page
    by true e h = refl
    by false e h = absurd (read-now (is_none v.cr3) (v.read_from frame) (eqb frame frame) _ e (eqb_same frame) h)
one-exact (Written frame) v page before after = chosen (λ w. w.slots page ≡ v.slots page) (is_none v.cr3) _ _ refl refl

module _ {S : Type 0} (g : shadows.Ghosts S) (seen : (s : S) (m : List ℕ) → g.sight s m ≡ seen_of (g.slots s m) (g.read_from s) (g.stale s)
    (g.cr3 s) (g.other_roots s m)) where
  -- what is kept of a page is what is seen of it
  pub in-sight : (s : S) (m : List ℕ) (page : ℕ) → page < 2 ^ 20 → g.slots s m page ≡ (g.sight s m).slots page
  in-sight s m page l = sym (ap (λ (v : Seen). v.slots page) (seen s m) ∙ in_pages (g.slots s m) page l)

  pub same-slots : (s s' : S) (m m' : List ℕ) → g.sight s' m' ≡ g.sight s m → SameSlots (g.slots s m) (g.slots s' m')
  same-slots s s' m m' e page l = in-sight s' m' page l ∙ ap (λ (v : Seen). v.slots page) e ∙ sym (in-sight s m page l)

  pub call-within : (call : Call) (s s' : S) (m m' : List ℕ) → g.sight s' m' ≡ after_one call (g.sight s m)
      → IsWithinCall call (g.slots s m) (g.slots s' m')
  call-within call s s' m m' e page l =
      subst (λ x. IsWithin x (after_call call page (g.slots s m page))) (sym (in-sight s' m' page l ∙ ap (λ (v : Seen). v.slots page) e))
      (subst (λ x. IsWithin ((after_one call (g.sight s m)).slots page) (after_call call page x)) (sym (in-sight s m page l))
      (one-within call (g.sight s m) page))

  pub call-exact : (protected : (s : S) (m : List ℕ) (frame : ℕ) → is_among frame (g.write_protected s) ≡ protects (g.sight s m) frame)
      → (call : Call) (s s' : S) (m m' : List ℕ) → g.sight s' m' ≡ after_one call (g.sight s m) → ProtectsNone g.write_protected
      → IsAfterCall call (g.slots s m) (g.slots s' m')
  call-exact protected call s s' m m' e free page l =
      let none = λ (x : S) (k : List ℕ) (f : ℕ). sym (protected x k f) ∙ ap (is_among f) (free x) in
      in-sight s' m' page l ∙ ap (λ (v : Seen). v.slots page) e
      ∙ one-exact call (g.sight s m) page (none s m) (λ f. sym (ap (λ (v : Seen). protects v f) e) ∙ none s' m' f)
      ∙ ap (after_call call page) (sym (in-sight s m page l))

-- ---- of other values of CR3

root-at : OtherRoot → List OtherRoot → OtherRoot
root-at d [] = d
root-at d (a ∷ os) = a

roots-behind : List OtherRoot → List OtherRoot
roots-behind [] = []
roots-behind (a ∷ os) = os

same-root : (a b : OtherRoot) → of_root b ≡ of_root a → IsSame a b
same-root a b e = record {
  cr3 = ap (λ (x : OtherRoot). x.cr3) e;
  tables = λ f. ap (λ (x : OtherRoot). x.tables f) e;
  slots = λ page l. sym (in_pages b.slots page l) ∙ ap (λ (x : OtherRoot). x.slots page) e ∙ in_pages a.slots page l;
}

-- what looks the same is the same
pub same-roots : (olds news : List OtherRoot) → of_roots news ≡ of_roots olds → AreSame olds news
unfolding root-at roots-behind
same-roots [] [] e = tt
same-roots [] (b ∷ news) e = absurd (let q : suc (length (of_roots news)) ≡ 0 = ap (λ (os : List OtherRoot). length os) e in cc)
same-roots (a ∷ olds) [] e = absurd (let q : 0 ≡ suc (length (of_roots olds)) = ap (λ (os : List OtherRoot). length os) e in cc)
same-roots (a ∷ olds) (b ∷ news) e = (same-root a b (ap (root-at (of_root a)) e), same-roots olds news (ap roots-behind e))
