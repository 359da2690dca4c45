-- From which frames the present tables were read, and whether one of those was written, after each call.
use Rattle.std.proofs.Common.{◌≡◌, ℕ, ◌<◌, List, ◌∷◌, length, get_or, slice_set, Bool, true, false, ◌||◌, eqb, Some, refl, sym, ap, ◌∙◌, inl, inr, arith}
use Rattle.std.proofs.lemmas.Bool.Decides.{eqb_tells}
use Rattle.std.proofs.lemmas.Bool.{both_ways}
use Rattle.std.proofs.Math.Bool.{or-false, or-true}
use Rattle.shadow_cache.specs.Pairs.{reads}
use Rattle.shadow_cache.specs.After.{emptied, mark_of, noted_in, noted_of, value_of, written_in}
use Rattle.shadow_cache.specs.declared.pair.Pair.{Pair}
use Rattle.shadow_cache.proofs.Beside.{no-reads, reads-set, reads-there}
use Rattle.shadow_cache.proofs.Calls.{spoilt}

set-exact : (bits : List Bool) (i f : ℕ) → i < length bits → get_or (slice_set bits i true) f false ≡ (get_or bits f false || eqb f i)
set-exact bits i f l =
    elim (eqb_tells f i) [
      | inl t ↦
          ap (λ y. get_or (slice_set bits i true) y false) t.1 ∙ reads-there bits i true l
          ∙ sym (ap (λ b. get_or bits f false || b) t.0 ∙ or-true (get_or bits f false))
      | inr t ↦
          elim (reads-set bits i f true) [
            | inl s ↦ s ∙ sym (ap (λ b. get_or bits f false || b) t.0 ∙ or-false (get_or bits f false))
            | inr u ↦ absurd (t.1 u.0)
          ]
    ]

pub read_from-exact : (p : Pair) (ps qs : List Pair) (frame f : ℕ) → length p.tables ≡ 16384 → frame < 16384 → qs ≡ noted_in (p ∷ ps) frame
    → noted_of qs f ≡ (reads p f || eqb f frame)
read_from-exact p ps qs frame f size low e = ap (λ xs. noted_of xs f) e ∙ set-exact p.tables frame f (omega (arith, size, low))

stale-other : (b : Bool) (p : Pair) (frame f : ℕ) → (f ≡ frame → ⊥) → reads (spoilt b p frame) f ≡ reads p f
stale-other true p frame f n = elim (reads-set p.tables frame f false) [ inl s ↦ s | inr t ↦ absurd (n t.0) ]
stale-other false p frame f n = refl

pub written-other : (p : Pair) (ps qs : List Pair) (frame f : ℕ) → qs ≡ written_in (p ∷ ps) frame → (f ≡ frame → ⊥)
    → noted_of qs f ≡ reads p f
written-other p ps qs frame f e n = ap (λ xs. noted_of xs f) e ∙ stale-other (reads p frame) p frame f n

there-by : (b : Bool) (p : Pair) (frame : ℕ) → reads (spoilt b p frame) frame ≡ true → reads p frame ≡ true
there-by true p frame h =
    elim (reads-set p.tables frame frame false) [ inl s ↦ sym s ∙ h | inr t ↦ absurd (both_ways (reads (spoilt true p frame) frame) t.2 h) ]
there-by false p frame h = h

pub written-there : (p : Pair) (ps qs : List Pair) (frame : ℕ) → qs ≡ written_in (p ∷ ps) frame → noted_of qs frame ≡ true
    → reads p frame ≡ true
written-there p ps qs frame e h = there-by (reads p frame) p frame (sym (ap (λ xs. noted_of xs frame) e) ∙ h)

stale-by : (b : Bool) (p : Pair) (frame : ℕ) → (spoilt b p frame).stale ≡ (p.stale || b)
stale-by true p frame = sym (or-true p.stale)
stale-by false p frame = sym (or-false p.stale)

pub written-stale : (p : Pair) (ps qs : List Pair) (frame : ℕ) → qs ≡ written_in (p ∷ ps) frame → mark_of qs ≡ (p.stale || reads p frame)
written-stale p ps qs frame e = ap mark_of e ∙ stale-by (reads p frame) p frame

value-by : (b : Bool) (p : Pair) (frame : ℕ) → (spoilt b p frame).cr3 ≡ p.cr3
value-by true p frame = refl
value-by false p frame = refl

pub written-value : (p : Pair) (ps qs : List Pair) (frame : ℕ) → qs ≡ written_in (p ∷ ps) frame → value_of qs ≡ Some p.cr3
written-value p ps qs frame e = ap value_of e ∙ ap (λ v. Some v) (value-by (reads p frame) p frame)

pub emptied-reads : (p : Pair) (ps qs : List Pair) (f : ℕ) → qs ≡ emptied (p ∷ ps) → noted_of qs f ≡ true → reads p f ≡ true
emptied-reads p ps qs f e h = absurd (both_ways (noted_of qs f) (ap (λ xs. noted_of xs f) e ∙ no-reads f) h)

pub emptied-stale : (p : Pair) (ps qs : List Pair) → qs ≡ emptied (p ∷ ps) → mark_of qs ≡ true → p.stale ≡ true
emptied-stale p ps qs e h = absurd (both_ways (mark_of qs) (ap mark_of e) h)

pub emptied-value : (p : Pair) (ps qs : List Pair) → qs ≡ emptied (p ∷ ps) → value_of qs ≡ Some p.cr3
emptied-value p ps qs e = ap value_of e
