-- Where a range leads once all is translated.
use Rattle.std.proofs.Common.{◌≡◌, ℕ, ◌+◌, ◌-◌, ◌*◌, ◌/◌, ◌%◌, ◌^◌, ◌<◌, ◌≤◌, List, [], ◌∷◌, Bool, true, false, cond, not, ◌==◌, Option, Some, None, refl, sym, ap, subst, ◌∙◌, inl, inr, arith}
use Rattle.std.specs.FinMap.{get}
use Rattle.std.proofs.lemmas.Bool.{cases_lt, eqb-true}
use Rattle.descriptors.specs.Controls.{wp_of}
use Rattle.ia32_exec.specs.declared.access.Range.{Range}
use Rattle.ia32_exec.specs.Short.{IsShort}
use Rattle.paging.specs.declared.entry.Entry.{Entry}
use Rattle.paging.specs.Space.{Mode, Space, place, place_by}
use Rattle.paging.specs.Uses.{window_stop}
use Rattle.host_cpl3.specs.declared.view.View.{View}
use Rattle.host_cpl3.specs.Access.{last_page}
use Rattle.machine_model.specs.State.{Setting, State}
use Rattle.native_steps.proofs.Clear.{used, range_uses}
use Rattle.native_steps.proofs.Pages.{HasEntry, IsFree}
use Rattle.native_steps.proofs.Uses.{window_above}
use Rattle.native_steps.proofs.Walking.{IsWithin}
use Rattle.native_steps.proofs.Through.{Before, after, before_after, Through, RangeThrough}

-- ---- where the bytes of a range lie

ends_at : (at len : ℕ) → 1 ≤ len → (at + len - 1) / 4096 ≡ (at + (len - 1)) / 4096
ends_at at len some = omega (arith, some)

in_first : (at j : ℕ) → (at + j) / 4096 < at / 4096 + 1 → (at + j) / 4096 ≡ at / 4096
in_first at j below = omega (arith, below)

in_last : (at len j : ℕ) → at / 4096 + 1 ≤ (at + j) / 4096 → j < len → len ≤ 32 → (at + j) / 4096 ≡ (at + len - 1) / 4096
in_last at len j above lt few = omega (arith, above, lt, few)

pub past_at : (at x : ℕ) → at ≤ x → at + (x - at) ≡ x
past_at at x low = omega (arith, low)

pub past_in : (at len x : ℕ) → at ≤ x → x < at + len → x - at < len
past_in at len x low high = omega (arith, low, high)

in_frame : (f frame x : ℕ) → f ≡ frame → f * 4096 + x % 4096 ≡ 4096 * frame + x % 4096
in_frame f frame x is = omega (arith, is)

module _ (m : Setting) (v : View) (b : State) where
  unfoldable pub RangeOf : List ℕ → Space → Space → Bool → Option Range → Type 0
  RangeOf ps s t write None = Unit {0}
  RangeOf ps s t write (Some r) = RangeThrough m b v.kernel ps s t write r.at r.len

  pub record Ranged (ps : List ℕ) (s t : Space) (write : Bool) (o : Option Range) : Type 0 where
    pub through : Through m b v.kernel ps s t
    pub range : RangeOf ps s t write o

  pub last_is : (r : Range) → 1 ≤ r.len → (r.at + r.len - 1) / 4096 ≡ last_page r
  last_is r some = ends_at r.at r.len some

  -- the entries of a range at the end of the translations
  pub record HasRange (last : Space) (write : Bool) (r : Range) : Type 0 where
    pub fits : r.at + r.len ≤ 2 ^ 32
    pub above : v.kernel ≡ true → 0x11000000 ≤ r.at
    pub first : ℕ
    pub has_first : HasEntry v.kernel (wp_of b.cpu) last.set write (r.at / 4096) first
    pub free_first : IsFree m b v.kernel false (r.at / 4096) first
    pub last_frame : ℕ
    pub has_last : HasEntry v.kernel (wp_of b.cpu) last.set write ((r.at + r.len - 1) / 4096) last_frame
    pub free_last : IsFree m b v.kernel false ((r.at + r.len - 1) / 4096) last_frame

  above_of : (s : Space) → IsWithin m b v.kernel s → (write : Bool) (at : ℕ)
      → window_stop s.mode (record { write = write; user = not v.kernel }) at ≡ None → v.kernel ≡ true → 0x11000000 ≤ at
  above_of s h write at e =
      window_above v.kernel at (ap (λ (x : Mode). window_stop x (record { write = write; user = not v.kernel }) at) (sym h.mode) ∙ e)

  pub first_before : (ps : List ℕ) (write : Bool) (r : Range) → Before (after ps (range_uses write (Some r))) (r.at / 4096)
  first_before ps write r =
      before_after (cond (last_page r == r.at / 4096) [] (used write (last_page r) ∷ [])) ((r.at / 4096) ∷ ps) (r.at / 4096) (inl refl)

  pub last_before : (ps : List ℕ) (write : Bool) (r : Range) → Before (after ps (range_uses write (Some r))) (last_page r)
  last_before ps write r = choice (last_page r == r.at / 4096) refl
    where
      choice : (one : Bool) → (last_page r == r.at / 4096) ≡ one
          → Before (after ((r.at / 4096) ∷ ps) (cond one [] (used write (last_page r) ∷ []))) (last_page r)
      choice true e = inl (sym (eqb-true (last_page r) (r.at / 4096) e))
      choice false e = inl refl

  now : (ps : List ℕ) (s t : Space) (write : Bool) (r : Range) → IsWithin m b v.kernel s → RangeThrough m b v.kernel ps s t write r.at r.len
      → HasRange t write r
  now ps s t write r h g = record {
    fits = g.fits;
    above = above_of s h write r.at g.window;
    first = g.first;
    has_first = g.has_first;
    free_first = g.free_first;
    last_frame = g.last;
    has_last = g.has_last;
    free_last = g.free_last;
  }

  unfoldable pub later : (ps : List ℕ) (t last : Space) (write : Bool) (r : Range) → 1 ≤ r.len → HasRange t write r
      → Through m b v.kernel (after ps (range_uses write (Some r))) t last → HasRange last write r
  later ps t last write r some g th = record {
    fits = g.fits;
    above = g.above;
    first = g.first;
    has_first = th.kept (r.at / 4096) write g.first (first_before ps write r) g.has_first;
    free_first = g.free_first;
    last_frame = g.last_frame;
    has_last = th.kept ((r.at + r.len - 1) / 4096) write g.last_frame
        (subst (Before (after ps (range_uses write (Some r)))) (sym (last_is r some)) (last_before ps write r)) g.has_last;
    free_last = g.free_last;
  }

  unfoldable pub HasRanges : Space → Bool → Option Range → Type 0
  HasRanges last write None = Unit {0}
  HasRanges last write (Some r) = HasRange last write r

  pub has_now : (ps : List ℕ) (s t : Space) (write : Bool) (o : Option Range) → IsWithin m b v.kernel s → Ranged ps s t write o
      → HasRanges t write o
  unfolding RangeOf HasRanges
  has_now ps s t write None h g = tt
  has_now ps s t write (Some r) h g = now ps s t write r h g.range

  pub has_later : (ps : List ℕ) (t last : Space) (write : Bool) (o : Option Range) → IsShort o → HasRanges t write o
      → Through m b v.kernel (after ps (range_uses write o)) t last → HasRanges last write o
  unfolding HasRanges
  has_later ps t last write None short g th = tt
  has_later ps t last write (Some r) short g th = later ps t last write r short.0 g th

  -- an address of a range has the same place then
  place_of : (s : Space) (write : Bool) (page frame x : ℕ) → x / 4096 ≡ page → HasEntry v.kernel (wp_of b.cpu) s.set write page frame
      → place s x ≡ 4096 * frame + x % 4096
  unfolding place
  place_of s write page frame x e h =
      let sum : h.entry.frame * 4096 + x % 4096 ≡ 4096 * frame + x % 4096 = in_frame h.entry.frame frame x h.frame_is in
      ap (λ p. place_by (get s.set p) x) e ∙ ap (λ (o : Option Entry). place_by o x) h.kept ∙ sum

  pub places_same : (s t : Space) (write : Bool) (r : Range) → 1 ≤ r.len → r.len ≤ 32 → (g : HasRange s write r) (h : HasRange t write r)
      → g.first ≡ h.first → g.last_frame ≡ h.last_frame → (j : ℕ) → j < r.len → place s (r.at + j) ≡ place t (r.at + j)
  places_same s t write r some few g h one two j lt =
      elim (cases_lt ((r.at + j) / 4096) (r.at / 4096 + 1)) [
        | inl below ↦
            let page : (r.at + j) / 4096 ≡ r.at / 4096 = in_first r.at j below in
            place_of s write (r.at / 4096) g.first (r.at + j) page g.has_first ∙ ap (λ f. 4096 * f + (r.at + j) % 4096) one
            ∙ sym (place_of t write (r.at / 4096) h.first (r.at + j) page h.has_first)
        | inr above ↦
            let page : (r.at + j) / 4096 ≡ (r.at + r.len - 1) / 4096 = in_last r.at r.len j above lt few in
            place_of s write ((r.at + r.len - 1) / 4096) g.last_frame (r.at + j) page g.has_last
            ∙ ap (λ f. 4096 * f + (r.at + j) % 4096) two
            ∙ sym (place_of t write ((r.at + r.len - 1) / 4096) h.last_frame (r.at + j) page h.has_last)
      ]
