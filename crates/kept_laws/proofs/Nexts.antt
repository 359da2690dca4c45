-- The next step of a run uses what the rule for kept translations asks for.
use Rattle.std.proofs.Common.{◌≡◌, ℕ, ◌/◌, ◌≤◌, List, [], ◌∷◌, ◌++◌, Bool, true, false, eqb, refl, sym, subst, ◌∙◌, ◌⊎◌, inl, inr, arith}
use Rattle.std.specs.Prelude.{map, nat_le}
use Rattle.std.proofs.lemmas.Bool.Decides.{nat_tests}
use Rattle.std.specs.Set.{is_member, distinct_count}
use Rattle.std.specs.FinMap.{empty}
use Rattle.machine_model.specs.State.{Setting, State}
use Rattle.machine_model.specs.Run.{Set}
use Rattle.machine_model.specs.Taken.{Taken, loads_root, changes_protection}
use Rattle.machine_model.specs.Clash.{clashes_from}
use Rattle.machine_model.specs.Keeping.{pages_in, clashes, HasEntriesOf, Reloads, Stays, KeptBehind}
use Rattle.machine_model.specs.Reloading.{FetchesFollow, FoundOver}
use Rattle.shadow_tables.specs.Laws.Openings.{member-next, member-or}
use Rattle.kept_laws.specs.Carried.{IsReadyFor, NextIsKept, indices_in, RoomyBefore, RoomyIsFew, IndicesGrow}
use Rattle.kept_laws.proofs.Lists.{any_left, any_right}
use Rattle.kept_laws.proofs.Counts.{clash, fewer, member_first}
use Rattle.kept_laws.proofs.Holding.{held_stays, last_first}
use Rattle.kept_laws.proofs.OwedStays.{returned}
use Rattle.kept_laws.proofs.Clashing.{clashes_are_judged}

-- ---- after a step that doesn't load CR3

-- it is judged by what was left
judged : (m : Setting) (steps : List Taken) (t : Taken) (b : State) → loads_root t ≡ false
    → clashes_from m (record b { set = b.set }) ≡ true → clashes m (steps ++ t ∷ []) b ≡ true
judged m steps t b plain h = subst (λ (set : Set). clashes_from m (record b { set = set }) ≡ true) (sym (held_stays steps t b plain)) h

stays : (m : Setting) (steps : List Taken) (t : Taken) (now : State) (set kept : Set) → loads_root t ≡ false → (kept ≡ now.set)
    ⊎ ((kept ≡ empty) × (changes_protection t ≡ true))
    → (set ≡ kept) ⊎ ((set ≡ empty) × (clashes_from m (record now { set = kept }) ≡ true))
    → Stays (clashes m (steps ++ t ∷ []) now) t now set
stays m steps t now set kept plain (inl same) (inl is) = inl (is ∙ same)
stays m steps t now set kept plain (inl same) (inr k) =
    inr (k.0, inl (judged m steps t now plain (subst (λ (x : Set). clashes_from m (record now { set = x }) ≡ true) same k.1)))
stays m steps t now set kept plain (inr lost) (inl is) = inr (is ∙ lost.0, inr lost.1)
stays m steps t now set kept plain (inr lost) (inr k) = inr (k.0, inr lost.1)

-- ---- after a load

reloads : FetchesFollow → FoundOver → (m : Setting) (steps : List Taken) (t : Taken) (now : State) (set kept : Set) → loads_root t ≡ true
    → IsReadyFor m steps t now kept
    → (set ≡ kept) ⊎ ((set ≡ empty) × (clashes_from m (record now { set = kept }) ≡ true))
    → Reloads (clashes m (steps ++ t ∷ []) now) m (steps ++ t ∷ []) t now set
reloads follow over m steps t now set kept loads r (inl is) old left since h apart =
    subst (HasEntriesOf left) (sym is) (r.back loads old left since (returned m (steps ++ t ∷ []) now t.after.cpu.cr3 old left since h)).has
reloads follow over m steps t now set kept loads r (inr k) old left since h apart =
    let o = returned m (steps ++ t ∷ []) now t.after.cpu.cr3 old left since h in
    let by_rule : clashes m (steps ++ t ∷ []) now ≡ true =
    clashes_are_judged follow over m steps t now kept old left since loads (r.room loads) (r.bytes loads) r.value r.found o
    (r.back loads old left since o).only k.1 in
    clash (clashes m (steps ++ t ∷ []) now) by_rule apart

-- ---- either way

by_last : FetchesFollow → FoundOver → (m : Setting) (steps : List Taken) (t : Taken) (now : State) (set kept : Set)
    → IsReadyFor m steps t now kept
    → (set ≡ kept) ⊎ ((set ≡ empty) × (clashes_from m (record now { set = kept }) ≡ true)) → (b : Bool) → loads_root t ≡ b
    → ((loads_root t ≡ true) × Reloads (clashes m (steps ++ t ∷ []) now) m (steps ++ t ∷ []) t now set)
    ⊎ ((loads_root t ≡ false) × Stays (clashes m (steps ++ t ∷ []) now) t now set)
by_last follow over m steps t now set kept r h true is = inl (is, reloads follow over m steps t now set kept is r h)
by_last follow over m steps t now set kept r h false is = inr (is, stays m steps t now set kept is (r.stays is) h)

pub next_is_kept : FetchesFollow → FoundOver → NextIsKept
next_is_kept follow over m steps t now set kept r h =
    subst (λ (l : List Taken). KeptBehind (clashes m (steps ++ t ∷ []) now) m (steps ++ t ∷ []) l now set) (sym (last_first steps t))
    (by_last follow over m steps t now set kept r h (loads_root t) refl)

-- ---- directory indices

member_split : (xs ys : List ℕ) (p : ℕ) → is_member eqb (xs ++ ys) p ≡ true → (is_member eqb xs p ≡ true) ⊎ (is_member eqb ys p ≡ true)
member_split [] ys p h = inr h
member_split (x ∷ xs) ys p h = elim (member-or x (xs ++ ys) p h) [
  | inl e ↦ inl (subst (λ (v : ℕ). is_member eqb (x ∷ xs) v ≡ true) (sym e) (member_first x xs))
  | inr k ↦ elim (member_split xs ys p k) [ inl a ↦ inl (member-next x xs p a) | inr b ↦ inr b ]
]

pages_more : (steps : List Taken) (t : Taken) (p : ℕ) → is_member eqb (pages_in steps) p ≡ true
    → is_member eqb (pages_in (steps ++ t ∷ [])) p ≡ true
pages_more [] t p h = absurd (let e : false ≡ true = h in cc)
pages_more (u ∷ us) t p h = elim (member_split u.report.pages (pages_in us) p h) [
  | inl a ↦ any_left (eqb p) u.report.pages (pages_in (us ++ t ∷ [])) a
  | inr b ↦ any_right (eqb p) u.report.pages (pages_in (us ++ t ∷ [])) (pages_more us t p b)
]

pages_last : (steps : List Taken) (t : Taken) (p : ℕ) → is_member eqb t.report.pages p ≡ true
    → is_member eqb (pages_in (steps ++ t ∷ [])) p ≡ true
pages_last [] t p h = any_left (eqb p) t.report.pages [] h
pages_last (u ∷ us) t p h = any_right (eqb p) u.report.pages (pages_in (us ++ t ∷ [])) (pages_last us t p h)

-- a member of a list of indices is that of a page
index_in : (ps : List ℕ) (p : ℕ) → is_member eqb ps p ≡ true → is_member eqb (map (λ page. page / 1024) ps) (p / 1024) ≡ true
index_in [] p h = absurd (let e : false ≡ true = h in cc)
index_in (x ∷ ps) p h = elim (member-or x ps p h) [
  | inl e ↦ subst (λ (v : ℕ). is_member eqb (map (λ page. page / 1024) (x ∷ ps)) (v / 1024) ≡ true) (sym e)
      (member_first (x / 1024) (map (λ page. page / 1024) ps))
  | inr k ↦ member-next (x / 1024) (map (λ page. page / 1024) ps) (p / 1024) (index_in ps p k)
]

index_of : (ps : List ℕ) (index : ℕ) → is_member eqb (map (λ page. page / 1024) ps) index ≡ true → (p : ℕ) × (is_member eqb ps p ≡ true)
    × (p / 1024 ≡ index)
index_of [] index h = absurd (let e : false ≡ true = h in cc)
index_of (x ∷ ps) index h = elim (member-or (x / 1024) (map (λ page. page / 1024) ps) index h) [
  | inl e ↦ (x, member_first x ps, sym e)
  | inr k ↦ let r = index_of ps index k in (r.0, member-next x ps r.0 r.1, r.2)
]

pub indices_grow : IndicesGrow
indices_grow steps t = (
  λ index h. let r = index_of (pages_in steps) index h in
      subst (λ (v : ℕ). is_member eqb (indices_in (steps ++ t ∷ [])) v ≡ true) r.2
      (index_in (pages_in (steps ++ t ∷ [])) r.0 (pages_more steps t r.0 r.1)),
  λ page h. index_in (pages_in (steps ++ t ∷ [])) page (pages_last steps t page h),
)

at_most : (n : ℕ) → nat_le n 24 ≡ true → n ≤ 24
at_most n h = grind (arith, nat_tests)

is_most : (n : ℕ) → n ≤ 24 → nat_le n 24 ≡ true
is_most n h = grind (arith, nat_tests)

pub roomy_before : RoomyBefore
roomy_before steps t h =
    let more = fewer (indices_in steps) (indices_in (steps ++ t ∷ [])) (indices_grow steps t).0 in
    let few = at_most (distinct_count eqb (indices_in (steps ++ t ∷ []))) h in
    is_most (distinct_count eqb (indices_in steps)) (omega (arith, more, few))

pub roomy_is_few : RoomyIsFew
roomy_is_few steps h = let few = at_most (distinct_count eqb (indices_in steps)) h in omega (arith, few)
