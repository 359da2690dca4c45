-- Views that hold their roots alone.
use Rattle.std.proofs.Common.{◌≡◌, ◌≢◌, ℕ, zero, suc, ◌/◌, ◌^◌, ◌<◌, ◌≤◌, List, length, length-append, true, false, None, refl, ap, ◌∙◌, arith}
use Rattle.std.specs.FinMap.{empty}
use Rattle.shadow_views.specs.Tables.{dir, at}
use Rattle.shadow_views.proofs.Changes.{at-none}
use Rattle.shadow_tables.specs.Entries.{entries_of}
use Rattle.shadow_tables.specs.Laws.Entries.{entries_of-none}
use Rattle.shadow_tables.specs.Laws.Openings.{only-none}
use Rattle.shadow_tables.specs.Slots.{by_words, held, slot_at}
use Rattle.shadow_tables.specs.declared.shadow.Shadow.{Shadow}
use Rattle.shadow_tables.specs.declared.words.Side.TheVariants.{Kernel, User}
use Rattle.shadow_cache.specs.Laws.{frames-cons}
use Rattle.shadow_cache.specs.Views as roots
use Rattle.shadow_cache.specs.declared.roots.Roots.{Roots}

none_there : (w : ℕ) → (w ≢ 0 → false ≡ true) → w ≡ 0
none_there zero h = refl
none_there (suc w) h = absurd (let e : false ≡ true = h (λ z. omega (arith, z)) in cc)

slot-none : (s : Shadow) (m : List ℕ) → length (held s m) ≤ 2 → (page : ℕ) → page < 2 ^ 20 → slot_at s m page ≡ None
unfolding slot_at
slot-none s m few page l =
    let only = only-none (λ index. false) s m few in
    let index : page / 1024 < 1024 = omega (arith, l) in
    let kernel = at-none m s.kernel page (none_there (dir m s.kernel (page / 1024)) (only Kernel (page / 1024) index)) in
    let user = at-none m s.user page (none_there (dir m s.user (page / 1024)) (only User (page / 1024) index)) in
    ap (λ (w : ℕ). by_words page w (at m s.user page)) kernel ∙ ap (λ (w : ℕ). by_words page 0 w) user

pub roots-alone : (r : Roots) (m : List ℕ) → length (roots.frames r m) ≤ 2 → entries_of (roots.slots r m) ≡ empty
roots-alone r m few =
    let many = ap (λ (fs : List ℕ). length fs) (frames-cons r.present r.others m)
    ∙ length-append (held r.present.shadow m) (Rattle.shadow_cache.specs.Pairs.frames_of r.others m) in
    entries_of-none (roots.slots r m) (slot-none r.present.shadow m (omega (arith, few, many)))
