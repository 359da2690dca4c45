-- The instructions of a sweep, each at its place.
use Rattle.std.proofs.Common.{◌≡◌, ℕ, suc, ◌+◌, ◌-◌, ◌≤◌, List, [], ◌∷◌, length, drop, map, refl, sym, ap, subst, ◌∙◌, inl, inr, ◌⊎◌, arith}
use Rattle.std.specs.Prelude.{slice_get}
use Rattle.std.specs.List.{Contains}
use Rattle.std.proofs.lemmas.List.{drop-drop}
use Rattle.ia32_decode.specs.Answer.{Begins}
use Rattle.image_check.specs.Sweep.{Swept}
use Rattle.image_check.specs.SweptTexts.{SweepsTo}
use Rattle.image_check.specs.Pieces.{piece_of}
use Rattle.image_check.specs.Conditions.{at_of, last_at}
use Rattle.image_check.proofs.Begun.{begun_has_byte}
use Rattle.image_check.proofs.Laid.{first_in, later_in, first_or_later, none_in}
use Rattle.image_check.proofs.Room.{goes_up}

-- An instruction has a byte, and lies between the ends of the sweep.
pub between : (from : ℕ) (bytes : List ℕ) (swept : List Swept) (to : ℕ) (left : List ℕ) → SweepsTo from bytes swept to left → (s : Swept)
    → Contains swept s → (from ≤ s.at) × (1 ≤ s.len) × (s.at + s.len ≤ to)
between from bytes [] to left h s c = absurd (none_in s c)
between from bytes (t ∷ swept) to left h s c =
    elim (first_or_later t swept s c) [
      | inl e ↦
          let at = h.0 in
          let up = goes_up (from + t.len) (drop t.len bytes) swept to left h.2 in
          subst (λ (u : Swept). (from ≤ u.at) × (1 ≤ u.len) × (u.at + u.len ≤ to)) e
          (omega (arith, at), begun_has_byte bytes t.insn t.len h.1, omega (arith, at, up))
      | inr d ↦
          let later = between (from + t.len) (drop t.len bytes) swept to left h.2 s d in
          let above = later.0 in
          (omega (arith, above), later.1, later.2)
    ]

-- Its spelling begins the bytes there.
pub begun_there : (from : ℕ) (bytes : List ℕ) (swept : List Swept) (to : ℕ) (left : List ℕ) → SweepsTo from bytes swept to left
    → (s : Swept) → Contains swept s → Begins (drop (s.at - from) bytes) s.insn s.len
begun_there from bytes [] to left h s c = absurd (none_in s c)
begun_there from bytes (t ∷ swept) to left h s c =
    elim (first_or_later t swept s c) [
      | inl e ↦
          let at = h.0 in
          let none : 0 ≡ t.at - from = omega (arith, at) in
          subst (λ (u : Swept). Begins (drop (u.at - from) bytes) u.insn u.len) e
          (subst (λ (k : ℕ). Begins (drop k bytes) t.insn t.len) none h.1)
      | inr d ↦
          let above = (between (from + t.len) (drop t.len bytes) swept to left h.2 s d).0 in
          let sum : t.len + (s.at - (from + t.len)) ≡ s.at - from = omega (arith, above) in
          subst (λ (bs : List ℕ). Begins bs s.insn s.len) (drop-drop (s.at - (from + t.len)) t.len bytes ∙ ap (λ k. drop k bytes) sum)
          (begun_there (from + t.len) (drop t.len bytes) swept to left h.2 s d)
    ]

-- Two instructions at one place are one.
pub one_there : (from : ℕ) (bytes : List ℕ) (swept : List Swept) (to : ℕ) (left : List ℕ) → SweepsTo from bytes swept to left
    → (s t : Swept) → Contains swept s → Contains swept t → s.at ≡ t.at → s ≡ t
one_there from bytes [] to left h s t c d same = absurd (none_in s c)
one_there from bytes (u ∷ swept) to left h s t c d same =
    elim (first_or_later u swept s c) [
      | inl e ↦ elim (first_or_later u swept t d) [
        | inl f ↦ cc
        | inr g ↦ absurd (apart s e t g same)
      ]
      | inr k ↦ elim (first_or_later u swept t d) [
        | inl f ↦ absurd (apart t f s k (sym same))
        | inr g ↦ one_there (from + u.len) (drop u.len bytes) swept to left h.2 s t k g same
      ]
    ]
  where
    apart : (w : Swept) → u ≡ w → (x : Swept) → Contains swept x → w.at ≡ x.at → ⊥
    apart w e x g is =
        let above = (between (from + u.len) (drop u.len bytes) swept to left h.2 x g).0 in
        let some = begun_has_byte bytes u.insn u.len h.1 in
        let at = h.0 in
        let there : u.at ≡ w.at = ap (λ (v : Swept). v.at) e in
        omega (arith, above, some, at, there, is)

-- After it the sweep ends, or the next one stands.
pub next_there : (from : ℕ) (bytes : List ℕ) (swept : List Swept) (to : ℕ) (left : List ℕ) → SweepsTo from bytes swept to left → (s : Swept)
    → Contains swept s → (s.at + s.len ≡ to) ⊎ ((t : Swept) × Contains swept t × (t.at ≡ s.at + s.len))
next_there from bytes [] to left h s c = absurd (none_in s c)
next_there from bytes (u ∷ swept) to left h s c =
    elim (first_or_later u swept s c) [
      | inl e ↦ subst (λ (v : Swept). (v.at + v.len ≡ to) ⊎ ((t : Swept) × Contains (u ∷ swept) t × (t.at ≡ v.at + v.len)))
          e (by_rest swept h.2)
      | inr d ↦ elim (next_there (from + u.len) (drop u.len bytes) swept to left h.2 s d) [
        | inl end ↦ inl end
        | inr more ↦ inr (more.0, later_in u swept more.0 more.1, more.2)
      ]
    ]
  where
    by_rest : (rest : List Swept) → SweepsTo (from + u.len) (drop u.len bytes) rest to left → (u.at + u.len ≡ to)
        ⊎ ((t : Swept) × Contains (u ∷ rest) t × (t.at ≡ u.at + u.len))
    by_rest [] k = inl (let at = h.0 in let e = k.0 in omega (arith, at, e))
    by_rest (t ∷ rest) k = inr (t, later_in u (t ∷ rest) t (first_in t rest), (let at = h.0 in let e = k.0 in omega (arith, at, e)))

last_one : (s : Swept) → last_at (map piece_of (s ∷ [])) ≡ s.at
last_one s = refl

last_later : (s t : Swept) (swept : List Swept) → last_at (map piece_of (s ∷ t ∷ swept)) ≡ last_at (map piece_of (t ∷ swept))
last_later s t swept =
    let e : length (map piece_of (s ∷ t ∷ swept)) - 1 ≡ suc (length (map piece_of (t ∷ swept)) - 1) = omega arith in
    ap (λ k. at_of (slice_get (map piece_of (s ∷ t ∷ swept)) k)) e

-- The one with which the sweep ends is the last.
pub last_there : (from : ℕ) (bytes : List ℕ) (swept : List Swept) (to : ℕ) (left : List ℕ) → SweepsTo from bytes swept to left → (s : Swept)
    → Contains swept s → s.at + s.len ≡ to → last_at (map piece_of swept) ≡ s.at
last_there from bytes [] to left h s c end = absurd (none_in s c)
last_there from bytes (u ∷ []) to left h s c end =
    elim (first_or_later u [] s c) [
      | inl e ↦ last_one u ∙ ap (λ (v : Swept). v.at) e
      | inr d ↦ absurd (none_in s d)
    ]
last_there from bytes (u ∷ t ∷ swept) to left h s c end =
    elim (first_or_later u (t ∷ swept) s c) [
      | inl e ↦
          let more = between (from + u.len) (drop u.len bytes) (t ∷ swept) to left h.2 t (first_in t swept) in
          let at = h.0 in
          let there : u.at ≡ s.at = ap (λ (v : Swept). v.at) e in
          let long : u.len ≡ s.len = ap (λ (v : Swept). v.len) e in
          absurd (omega (arith, at, there, long, end, more.0, more.1, more.2))
      | inr d ↦ last_later u t swept ∙ last_there (from + u.len) (drop u.len bytes) (t ∷ swept) to left h.2 s d end
    ]
