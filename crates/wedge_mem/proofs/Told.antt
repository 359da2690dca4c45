-- Frame after frame is noted, or reported as written.
use Rattle.std.proofs.Common.{◌≡◌, ℕ, ◌+◌, ◌<◌, List, [], ◌∷◌, ◌++◌, length, take, get_or, Bool, true, false, not, cond, eqb, ◌||◌, refl, sym, ap, ◌∙◌, subst, inl, inr, arith}
use Rattle.std.proofs.Math.Dec.{leb}
use Rattle.std.proofs.lemmas.Bool.{cases_Bool, or_right}
use Rattle.std.proofs.lemmas.Bool.Decides.{eqb_tells, leb_tells}
use Rattle.std.proofs.lemmas.List.{take_more}
use Rattle.std.proofs.lemmas.List.Elements.{filter-append}
use Rattle.std.specs.List.{list_any}
use Rattle.std.proofs.Math.Bool.{or-false, or_assoc}
use Rattle.shadow_tables.specs.OtherRoot.{OtherRoot, AreSame, LoseWrites, spared, all_spared}
use Rattle.guest_ram.specs.Among.{is_among}
use Rattle.shadow_tables.proofs.OtherRoots.{among-append, any-append, lose-more, lose-none, lose-same, none-written, same-refl, same-trans, spared-lose, spared-more, spared-same}
use Rattle.wedge_mem.specs.Told.{guest_frames}

-- ---- one frame

pub guest-one : (frame : ℕ) → frame < 16384 → guest_frames (frame ∷ []) ≡ frame ∷ []
guest-one frame l =
    elim (leb_tells 16384 frame) [
      | inl t ↦ absurd (let h = t.1 in omega (arith, h, l))
      | inr t ↦ ap (λ b. cond (not b) (frame ∷ []) []) t.0
    ]

pub guest-none : (frame : ℕ) → (frame < 16384 → ⊥) → guest_frames (frame ∷ []) ≡ []
guest-none frame n =
    elim (leb_tells 16384 frame) [
      | inl t ↦ ap (λ b. cond (not b) (frame ∷ []) []) t.0
      | inr t ↦ absurd (n (let h = t.1 in omega (arith, h)))
    ]

pub one-read_from : (frame : ℕ) (old new : ℕ → Bool) → frame < 16384 → ((f : ℕ) → new f ≡ (old f || eqb f frame)) → (f : ℕ)
    → new f ≡ (old f || is_among f (guest_frames (frame ∷ [])))
one-read_from frame old new l h f =
    h f ∙ ap (λ b. old f || b) (sym (or-false (eqb f frame))) ∙ ap (λ (fs : List ℕ). old f || is_among f fs) (sym (guest-one frame l))

pub none-read_from : (frame : ℕ) (old : ℕ → Bool) → (frame < 16384 → ⊥) → (f : ℕ)
    → old f ≡ (old f || is_among f (guest_frames (frame ∷ [])))
none-read_from frame old n f = sym (or-false (old f)) ∙ ap (λ (fs : List ℕ). old f || is_among f fs) (sym (guest-none frame n))

pub one-lose : (frame : ℕ) (xs ys : List OtherRoot) → frame < 16384 → LoseWrites (frame ∷ []) xs ys
    → LoseWrites (guest_frames (frame ∷ [])) xs ys
one-lose frame xs ys l h = subst (λ (fs : List ℕ). LoseWrites fs xs ys) (sym (guest-one frame l)) h

pub none-lose : (frame : ℕ) (xs : List OtherRoot) → (frame < 16384 → ⊥) → LoseWrites (guest_frames (frame ∷ [])) xs xs
none-lose frame xs n = subst (λ (fs : List ℕ). LoseWrites fs xs xs) (sym (guest-none frame n)) (lose-none xs xs (same-refl xs))

-- ---- no frame

pub first-read_from : (read_from : ℕ → Bool) (f : ℕ) → read_from f ≡ (read_from f || false)
first-read_from read_from f = sym (or-false (read_from f))

pub first-stale : (stale : Bool) → stale ≡ (stale || false)
first-stale stale = sym (or-false stale)

pub first-spared : (xs : List OtherRoot) → AreSame (all_spared [] xs) xs
first-spared xs = subst (λ (ys : List OtherRoot). AreSame ys xs) (sym (none-written xs)) (same-refl xs)

-- ---- one frame more is noted

pub guest-more : (fs : List ℕ) (i : ℕ) → i < length fs → guest_frames (take (i + 1) fs) ≡ guest_frames (take i fs)
    ++ guest_frames (get_or fs i 0 ∷ [])
guest-more fs i l = ap guest_frames (take_more fs i 0 l) ∙ filter-append (λ frame. not (leb 16384 frame)) (take i fs) (get_or fs i 0 ∷ [])

pub more-read_from : (fs : List ℕ) (i : ℕ) (first old new : ℕ → Bool) → i < length fs
    → ((f : ℕ) → new f ≡ (old f || is_among f (guest_frames (get_or fs i 0 ∷ []))))
    → ((f : ℕ) → old f ≡ (first f || is_among f (guest_frames (take i fs))))
    → (f : ℕ) → new f ≡ (first f || is_among f (guest_frames (take (i + 1) fs)))
more-read_from fs i first old new l here before f =
    here f
    ∙ ap (λ b. b || is_among f (guest_frames (get_or fs i 0 ∷ []))) (before f)
    ∙ or_assoc (first f) (is_among f (guest_frames (take i fs))) (is_among f (guest_frames (get_or fs i 0 ∷ [])))
    ∙ ap (λ b. first f || b) (sym (among-append f (guest_frames (take i fs)) (guest_frames (get_or fs i 0 ∷ []))))
    ∙ ap (λ (gs : List ℕ). first f || is_among f gs) (sym (guest-more fs i l))

pub more-lose : (fs : List ℕ) (i : ℕ) (xs ys zs : List OtherRoot) → i < length fs → LoseWrites (guest_frames (take i fs)) xs ys
    → LoseWrites (guest_frames (get_or fs i 0 ∷ [])) ys zs
    → LoseWrites (guest_frames (take (i + 1) fs)) xs zs
more-lose fs i xs ys zs l h k =
    subst (λ (gs : List ℕ). LoseWrites gs xs zs) (sym (guest-more fs i l))
    (lose-more (guest_frames (take i fs)) (guest_frames (get_or fs i 0 ∷ [])) xs ys zs h k)

-- ---- one frame more is written

any-there : (test : ℕ → Bool) (fs : List ℕ) (x : ℕ) → is_among x fs ≡ true → test x ≡ true → list_any test fs ≡ true
any-there test [] x h t = absurd (let e : false ≡ true = h in cc)
any-there test (f ∷ fs) x h t =
    elim (eqb_tells x f) [
      | inl s ↦ ap (λ b. b || list_any test fs) (ap test (sym s.1) ∙ t)
      | inr s ↦ or_right (test f) (list_any test fs) (any-there test fs x (sym (ap (λ b. b || is_among x fs) s.0) ∙ h) t)
    ]

joined : (a b c : Bool) → (c ≡ true → b ≡ true) → (a || b) ≡ (a || (b || c))
joined true b c h = refl
joined false true c h = refl
joined false false true h = h refl
joined false false false h = refl

any-more : (test : ℕ → Bool) (fs : List ℕ) (i : ℕ) → i < length fs
    → list_any test (take (i + 1) fs) ≡ (list_any test (take i fs) || test (get_or fs i 0))
any-more test fs i l =
    ap (list_any test) (take_more fs i 0 l) ∙ any-append test (take i fs) (get_or fs i 0 ∷ [])
    ∙ ap (λ b. list_any test (take i fs) || b) (or-false (test (get_or fs i 0)))

stale-now : (a : Bool) (fs : List ℕ) (first old : ℕ → Bool) (x : ℕ) → (old x ≡ true → first x ≡ true)
    → (is_among x fs ≡ false → old x ≡ first x) → ((a || list_any first fs) || old x) ≡ (a || (list_any first fs || first x))
stale-now a fs first old x less same =
    elim (cases_Bool (is_among x fs)) [
      | inl t ↦
          or_assoc a (list_any first fs) (old x)
          ∙ sym (joined a (list_any first fs) (old x) (λ h. any-there first fs x t (less h)))
          ∙ joined a (list_any first fs) (first x) (λ h. any-there first fs x t h)
      | inr n ↦ or_assoc a (list_any first fs) (old x) ∙ ap (λ b. a || (list_any first fs || b)) (same n)
    ]

pub more-stale : (fs : List ℕ) (i : ℕ) (first old : ℕ → Bool) (a b c : Bool) → i < length fs → b ≡ (a || list_any first (take i fs))
    → c ≡ (b || old (get_or fs i 0))
    → ((f : ℕ) → old f ≡ true → first f ≡ true) → ((f : ℕ) → is_among f (take i fs) ≡ false → old f ≡ first f)
    → c ≡ (a || list_any first (take (i + 1) fs))
more-stale fs i first old a b c l before here less same =
    let x : ℕ = get_or fs i 0 in
    here ∙ ap (λ y. y || old x) before ∙ stale-now a (take i fs) first old x (less x) (same x)
    ∙ ap (λ y. a || y) (sym (any-more first fs i l))

pub less-read_from : (x : ℕ) (first old new : ℕ → Bool) → ((f : ℕ) → (f ≡ x → ⊥) → new f ≡ old f) → (new x ≡ true → old x ≡ true)
    → ((f : ℕ) → old f ≡ true → first f ≡ true) → (f : ℕ) → new f ≡ true → first f ≡ true
less-read_from x first old new others here before f h =
    elim (eqb_tells f x) [
      | inl t ↦ before f (ap old t.1 ∙ here (sym (ap new t.1) ∙ h))
      | inr t ↦ before f (sym (others f t.1) ∙ h)
    ]

pub more-spared : (fs : List ℕ) (i : ℕ) (xs ys zs : List OtherRoot) → i < length fs → AreSame (all_spared (take i fs) xs) ys
    → AreSame (spared (get_or fs i 0) ys) zs → AreSame (all_spared (take (i + 1) fs) xs) zs
more-spared fs i xs ys zs l h k =
    let x : ℕ = get_or fs i 0 in
    subst (λ (ws : List OtherRoot). AreSame ws zs)
    (spared-more (take i fs) x xs ∙ ap (λ (gs : List ℕ). all_spared gs xs) (sym (take_more fs i 0 l)))
    (same-trans (spared x (all_spared (take i fs) xs)) (spared x ys) zs (spared-same x (all_spared (take i fs) xs) ys h) k)

-- ---- first noted, then reported, then filled

pub all-told : (wrote tables : List ℕ) (xs ys zs us : List OtherRoot) → LoseWrites (guest_frames tables) xs ys
    → AreSame (all_spared wrote ys) zs → AreSame zs us → LoseWrites (guest_frames tables) (all_spared wrote xs) us
all-told wrote tables xs ys zs us h k s =
    lose-same (guest_frames tables) (all_spared wrote xs) (all_spared wrote ys) us (spared-lose (guest_frames tables) wrote xs ys h)
    (same-trans (all_spared wrote ys) zs us k s)
