-- Roots that keep nothing yet, over memory that differs in front of the pool.
use Rattle.std.proofs.Common.{◌≡◌, ℕ, ◌<◌, ◌^◌, List, [], ◌∷◌, length, length-append, false, Some, None, ap, ◌∙◌, arith}
use Rattle.std.specs.FinMap.{empty}
use Rattle.descriptors.specs.declared.cpu.Cpu.{Cpu}
use Rattle.frame_pool.specs.Held.{SameIn}
use Rattle.shadow_tables.specs.Entries.{entries_of}
use Rattle.shadow_tables.specs.Laws.Entries.{entries_of-none}
use Rattle.shadow_tables.specs.Slots.{held, slot_at, IsEmpty}
use Rattle.shadow_cache.specs.After.{IsStart}
use Rattle.shadow_cache.specs.OtherRoots.{other_roots_of}
use Rattle.shadow_cache.specs.Standing as standing
use Rattle.shadow_cache.specs.Pairs.{frames_of}
use Rattle.shadow_cache.specs.Roots.{pairs_of, IsStanding}
use Rattle.shadow_cache.specs.Views as roots
use Rattle.wedge_core.specs.OfRoots.{of_roots}
use Rattle.shadow_cache.specs.declared.pair.Pair.{Pair}
use Rattle.shadow_cache.specs.declared.roots.Roots.{Roots}
use Rattle.machine_model.specs.State.{Setting}
use Rattle.wedge_step.specs.Filled.{pages_kept}
use Rattle.wedge_step.specs.Ready.{IsReady}
use Rattle.wedge_step.proofs.Readying.{none_ready, none_pages}

pub record IsNew (r : Roots) (m : List ℕ) (cr3 : ℕ) : Type 0 where
  pub stand : ∥ roots.stands r m ∥₁
  pub none : (page : ℕ) → page < 2 ^ 20 → roots.slots r m page ≡ None
  pub two : length (roots.frames r m) ≡ 2
  pub others : r.others ≡ []
  pub value : roots.cr3 r ≡ Some cr3

two_of : (ps : List Pair) (p : Pair) (m : List ℕ) → ps ≡ p ∷ [] → IsEmpty p.shadow m → length (frames_of ps m) ≡ 2
unfolding frames_of
two_of ps p m is none =
    let k : length (held p.shadow m) ≡ 2 = ap length none.frames in
    let a = length-append (held p.shadow m) [] in
    ap (λ (l : List Pair). length (frames_of l m)) is ∙ omega (arith, a, k)

pub started : (r : Roots) (m : List ℕ) (cr3 : ℕ) → ∥ IsStanding r m ∥₁ → IsStart (pairs_of r) m cr3 → IsNew r m cr3
started r m cr3 stand st =
    let e : r.present ∷ r.others ≡ st.pair ∷ [] = st.alone in
    let here : r.present ≡ st.pair = cc in
    record {
      stand = stand;
      none = λ page lt. ap (λ (p : Pair). slot_at p.shadow m page) here ∙ st.fresh.empty.none page lt;
      two = two_of (pairs_of r) st.pair m st.alone st.fresh.empty;
      others = cc;
      value = ap (λ (c : ℕ). Some c) (ap (λ (p : Pair). p.cr3) here ∙ st.fresh.value);
    }

pub new_behind : (r : Roots) (m n : List ℕ) (cr3 : ℕ) → SameIn (roots.frames r m) m n → IsNew r m cr3 → IsNew r n cr3
new_behind r m n cr3 same h = record {
  stand = standing.stays_in r m n h.stand same;
  none = λ page lt. standing.slots_in r m n h.stand same page lt ∙ h.none page lt;
  two = ap length (standing.frames_in r m n h.stand same) ∙ h.two;
  others = h.others;
  value = h.value;
}

pub new_frames : (r : Roots) (m n : List ℕ) (cr3 : ℕ) → SameIn (roots.frames r m) m n → IsNew r m cr3 → roots.frames r n ≡ roots.frames r m
new_frames r m n cr3 same h = standing.frames_in r m n h.stand same

pub new_empty : (r : Roots) (m : List ℕ) (cr3 : ℕ) → IsNew r m cr3 → entries_of (roots.slots r m) ≡ empty
new_empty r m cr3 h = entries_of-none (roots.slots r m) h.none

new_alone : (r : Roots) (m : List ℕ) (cr3 : ℕ) → IsNew r m cr3 → roots.other_roots r m ≡ []
new_alone r m cr3 h = ap (λ (ps : List Pair). other_roots_of ps m) h.others

pub new_ready : (s : Setting) (cpu : Cpu) (r : Roots) (m : List ℕ) → IsNew r m cpu.cr3 → IsReady of_roots s cpu r m
new_ready s cpu r m h = none_ready of_roots (λ page. false) s cpu r m h.value h.none (new_alone r m cpu.cr3 h)

pub new_pages : (r : Roots) (m : List ℕ) (cr3 : ℕ) → IsNew r m cr3 → pages_kept of_roots r m ≡ 0
new_pages r m cr3 h = none_pages of_roots r m (new_empty r m cr3 h) (new_alone r m cr3 h)
