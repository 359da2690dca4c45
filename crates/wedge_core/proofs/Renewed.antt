-- A guest whose present tables begin anew.
use Rattle.std.proofs.Common.{◌≡◌, ℕ, ◌<◌, ◌≤◌, ◌^◌, true, false, List, [], ◌∷◌, length, length-append, None, refl, sym, ap, subst, ◌∙◌, arith}
use Rattle.std.specs.FinMap.{empty}
use Rattle.frame_pool.specs.declared.Pool.{Pool}
use Rattle.frame_pool.specs.Held.{Owns, Moves}
use Rattle.image_check.specs.Image.{Image}
use Rattle.shadow_tables.specs.Entries.{entries_of}
use Rattle.shadow_tables.specs.Laws.Openings.{held-count}
use Rattle.shadow_tables.specs.OtherRoot.{AreSame, OtherRoot}
use Rattle.shadow_tables.specs.Sight.{StaysBeside, sight}
use Rattle.shadow_tables.specs.Slots.{held}
use Rattle.shadow_cache.specs.Laws.{frames-cons}
use Rattle.shadow_cache.specs.OtherRoots.{other_roots_of}
use Rattle.shadow_cache.specs.Pairs.{frames_of}
use Rattle.shadow_cache.specs.declared.pair.Pair.{Pair}
use Rattle.shadow_cache.specs.Views as roots
use Rattle.wedge_core.specs.OfRoots.{of_roots}
use Rattle.shadow_cache.specs.declared.roots.Roots.{Roots}
use Rattle.machine_model.specs.State.{Setting}
use Rattle.wedge_step.specs.Standing.{IsHeld, ground, state_of}
use Rattle.wedge_step.specs.declared.running.Running.{Running}
use Rattle.wedge_step.proofs.Memories.{front_same, shown_same}
use Rattle.wedge_core.specs.Starts.{IsAsNew}
use Rattle.wedge_core.proofs.Released.{held_on}

-- where two frames are held they are the roots of the present views, and there are no others
none_beside : (p : Pair) (ps : List Pair) (m : List ℕ) → length (frames_of (p ∷ ps) m) ≤ 2 → ps ≡ []
none_beside p [] m few = refl
none_beside p (q ∷ ps) m few =
    let here = ap (λ (l : List ℕ). length l) (frames-cons p (q ∷ ps) m) ∙ length-append (held p.shadow m) (frames_of (q ∷ ps) m) in
    let next = ap (λ (l : List ℕ). length l) (frames-cons q ps m) ∙ length-append (held q.shadow m) (frames_of ps m) in
    let two = held-count p.shadow m in
    let more = held-count q.shadow m in
    absurd (omega (arith, few, here, next, two, more))

pub others_alone : (r : Roots) (m : List ℕ) → length (roots.frames r m) ≤ 2 → roots.other_roots r m ≡ []
others_alone r m few = ap (λ (ps : List Pair). other_roots_of ps m) (none_beside r.present r.others m few)

-- so nothing stays beside what is as new
pub anew_beside : (r s : Roots) (m m' : List ℕ) → length (roots.frames r m) ≤ 2 → IsAsNew of_roots s m'
    → StaysBeside (sight of_roots r m) (sight of_roots s m')
anew_beside r s m m' few anew = record {
  notes = λ frame e. absurd (let no : false ≡ true = sym (anew.unnoted frame) ∙ e in cc);
  marks = λ e. absurd (let no : false ≡ true = sym anew.unmarked ∙ e in cc);
  others =
      subst (λ (l : List OtherRoot). AreSame l (roots.other_roots s m')) (sym (others_alone r m few))
      (subst (AreSame []) (sym anew.alone) tt);
}

-- it is held as before
pub held_anew : (image : Image) (frames : ℕ) (g : Running Roots) (s : Roots) (p p' : Pool) (m m' : List ℕ) → g.held ≡ 2
    → ∥ roots.stands s m' ∥₁ → ((page : ℕ) → page < 2 ^ 20 → roots.slots s m' page ≡ None) → entries_of (roots.slots s m') ≡ empty
    → length (roots.frames s m') ≡ 2 → Owns p' m' (roots.frames s m')
    → Moves p p' m m' (roots.frames g.shadows m) (roots.frames s m') → IsHeld of_roots (ground image frames) g p m
    → IsHeld of_roots (ground image frames) (record g { shadows = s }) p' m'
held_anew image frames g s p p' m m' held stands none entries two owns moves h =
    subst (λ (n : ℕ). IsHeld of_roots (ground image frames) (record g { shadows = s; held = n }) p' m') (sym held)
    (held_on image frames g s p p' m m' stands none entries two owns moves h)

-- and stands for the same state
pub state_anew : (image : Image) (frames : ℕ) (g : Running Roots) (s : Roots) (p p' : Pool) (m m' : List ℕ)
    → IsHeld of_roots (ground image frames) g p m
    → Moves p p' m m' (roots.frames g.shadows m) (roots.frames s m') → entries_of (roots.slots g.shadows m) ≡ empty
    → entries_of (roots.slots s m') ≡ empty
    → (setting : Setting) → setting.frames ≡ frames → state_of of_roots setting (record g { shadows = s }) m' ≡ state_of
    of_roots setting g m
state_anew image frames g s p p' m m' h moves before after setting is =
    let low = h.behind in
    let front = front_same setting.frames p p' m m' (roots.frames g.shadows m) (roots.frames s m') (omega (arith, low, is)) h.owns moves in
    let ram = shown_same setting m m' front in
    let set = after ∙ sym before in
    λ i. record { cpu = g.cpu; ram = ram i; set = set i; board = g.board; step = g.step }
