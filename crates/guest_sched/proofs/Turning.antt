-- One turn more: what is said of lists of turns goes on by what is said of it.
use Rattle.std.proofs.Common.{◌≡◌, ◌≢◌, inl, inr, ℕ, ◌+◌, ◌==◌, ◌&&◌, ◌||◌, Bool, true, false, List, [], ◌∷◌, ◌++◌, is_some, refl, ap, sym, subst, ◌∙◌, append_assoc, append-nil}
use Rattle.std.specs.List.{flat_map}
use Rattle.std.proofs.lemmas.Bool.Decides.{eqb_tells}
use Rattle.std.proofs.Math.Bool.{or-false}
use Rattle.run_trace.specs.Text.{lines_of}
use Rattle.machine_model.specs.Run.{trace_of}
use Rattle.machine_model.specs.Counts.{direct_count, passed_digest}
use Rattle.sites.specs.declared.site.Site.{Site}
use Rattle.wedge_core.specs.Slices.{Counts}
use Rattle.shadow_cache.proofs.Beside.{or-less}
use Rattle.guest_sched.specs.Pieces.{Piece, has_stopped, IsTurn, AreTurns, stop_line, reports_of, own_text, counts_over}
use Rattle.guest_sched.specs.declared.schedule.Slice.{Slice}

pub flat_append : {X Y : Type 0} (f : X → List Y) (xs ys : List X) → flat_map f (xs ++ ys) ≡ flat_map f xs ++ flat_map f ys
flat_append f [] ys = refl
flat_append f (x ∷ xs) ys = ap (λ l. f x ++ l) (flat_append f xs ys) ∙ sym (append_assoc (f x) (flat_map f xs) (flat_map f ys))

pub turns_on : (before : List Piece) (slices : List Slice) (pieces : List Piece) (slice : Slice) (p : Piece) → AreTurns before slices pieces
    → IsTurn (before ++ pieces) slice p → AreTurns before (slices ++ slice ∷ []) (pieces ++ p ∷ [])
turns_on before [] [] slice p h t = (subst (λ (l : List Piece). IsTurn l slice p) (append-nil before) t, tt)
turns_on before [] (q ∷ pieces) slice p h t = absurd h
turns_on before (s ∷ slices) [] slice p h t = absurd h
turns_on before (s ∷ slices) (q ∷ pieces) slice p h t = (
  h.0,
  turns_on (before ++ q ∷ []) slices pieces slice p h.1
      (subst (λ (l : List Piece). IsTurn l slice p) (sym (append_assoc before (q ∷ []) pieces)) t),
)

none_later : (b x y z : Bool) → (b || x) ≡ false → (x ≡ false → y ≡ z) → (b || y) ≡ z
none_later true x y z e f = absurd (cc)
none_later false x y z e f = f e

-- of the turn's kernel
module _ (n : ℕ) (p : Piece) (mine : p.kernel ≡ n) where
  is_mine : (p.kernel == n) ≡ true
  is_mine = elim (eqb_tells p.kernel n) [ inl e ↦ e.0 | inr o ↦ absurd (o.1 mine) ]

  pub reports_on : (pieces : List Piece) → reports_of n (pieces ++ p ∷ []) ≡ reports_of n pieces ++ p.reports
  reports_on [] = rw is_mine (append-nil p.reports)
  reports_on (q ∷ pieces) = elim (eqb_tells q.kernel n) [
    | inl e ↦ rw (e.0) (ap (λ l. q.reports ++ l) (reports_on pieces) ∙ sym (append_assoc q.reports (reports_of n pieces) p.reports))
    | inr o ↦ rw (o.0) (reports_on pieces)
  ]

  pub text_on : (pieces : List Piece) → own_text n (pieces ++ p ∷ []) ≡ own_text n pieces
      ++ (lines_of (trace_of p.reports) ++ stop_line p.steps p.stop)
  text_on [] = rw is_mine (append-nil (lines_of (trace_of p.reports) ++ stop_line p.steps p.stop))
  text_on (q ∷ pieces) = elim (eqb_tells q.kernel n) [
    | inl e ↦ rw (e.0)
        (ap (λ l. (lines_of (trace_of q.reports) ++ stop_line q.steps q.stop) ++ l) (text_on pieces)
        ∙ sym (append_assoc (lines_of (trace_of q.reports) ++ stop_line q.steps q.stop) (own_text n pieces)
        (lines_of (trace_of p.reports) ++ stop_line p.steps p.stop)))
    | inr o ↦ rw (o.0) (text_on pieces)
  ]

  pub stopped_on : (pieces : List Piece) → has_stopped n pieces ≡ false → has_stopped n (pieces ++ p ∷ []) ≡ is_some p.stop
  stopped_on [] h = rw is_mine (or-false (is_some p.stop))
  stopped_on (q ∷ pieces) h = none_later ((q.kernel == n) && is_some q.stop) (has_stopped n pieces) (has_stopped n (pieces ++ p ∷ []))
      (is_some p.stop) h (λ e. stopped_on pieces e)

pub stopped_still : (n : ℕ) (pieces more : List Piece) → has_stopped n pieces ≡ true → has_stopped n (pieces ++ more) ≡ true
stopped_still n [] more is = absurd (cc)
stopped_still n (q ∷ pieces) more is = or-less ((q.kernel == n) && is_some q.stop) (has_stopped n pieces) (has_stopped n (pieces ++ more))
    is (λ e. stopped_still n pieces more e)

-- of another's turn
module _ (n : ℕ) (p : Piece) (others : p.kernel ≢ n) where
  isnt_mine : (p.kernel == n) ≡ false
  isnt_mine = elim (eqb_tells p.kernel n) [ inl e ↦ absurd (others e.1) | inr o ↦ o.0 ]

  pub reports_off : (pieces : List Piece) → reports_of n (pieces ++ p ∷ []) ≡ reports_of n pieces
  reports_off [] = rw isnt_mine refl
  reports_off (q ∷ pieces) = elim (eqb_tells q.kernel n) [
    | inl e ↦ rw (e.0) (ap (λ l. q.reports ++ l) (reports_off pieces))
    | inr o ↦ rw (o.0) (reports_off pieces)
  ]

  pub text_off : (pieces : List Piece) → own_text n (pieces ++ p ∷ []) ≡ own_text n pieces
  text_off [] = rw isnt_mine refl
  text_off (q ∷ pieces) = elim (eqb_tells q.kernel n) [
    | inl e ↦ rw (e.0) (ap (λ l. (lines_of (trace_of q.reports) ++ stop_line q.steps q.stop) ++ l) (text_off pieces))
    | inr o ↦ rw (o.0) (text_off pieces)
  ]

  pub stopped_off : (pieces : List Piece) → has_stopped n (pieces ++ p ∷ []) ≡ has_stopped n pieces
  stopped_off [] = rw isnt_mine refl
  stopped_off (q ∷ pieces) = ap (λ b. ((q.kernel == n) && is_some q.stop) || b) (stopped_off pieces)

pub counts_on : (sites : ℕ → List Site) (c : Counts) (pieces : List Piece) (p : Piece)
    → counts_over sites c (pieces ++ p ∷ [])
    ≡ record {
      retired = (counts_over sites c pieces).retired + direct_count (sites p.kernel) p.reports;
      passed = passed_digest (sites p.kernel) (counts_over sites c pieces).passed p.reports;
    }
counts_on sites c [] p = refl
counts_on sites c (q ∷ pieces) p =
    counts_on sites (record {
      retired = c.retired + direct_count (sites q.kernel) q.reports;
      passed = passed_digest (sites q.kernel) c.passed q.reports;
    }) pieces p
