-- The proofs of the laws of shadows. They stand here since an impl of the trait may name this folder alone.
pub mod Views
pub mod Entries
pub mod Hosts
pub mod Props
pub mod Openings
use Rattle.std.proofs.Common.{◌≡◌, ◌≢◌, ℕ, zero, suc, ◌+◌, ◌*◌, ◌/◌, ◌%◌, ◌^◌, ◌<◌, ◌≤◌, List, [], ◌∷◌, length, length-append, drop, Bool, true, false, Option, Some, refl, sym, ap, ◌∙◌, subst, inl, inr, cond, eqb, arith}
use Rattle.std.proofs.Math.Logic.{∥∥₁_elim, ∥∥₁_map}
use Rattle.std.proofs.lemmas.Bool.Decides.{eqb_tells}
use Rattle.std.specs.FinMap.{FinMap}
use Rattle.std.proofs.lemmas.Option.{same_Some}
use Rattle.guest_ram.specs.Bytes.{word32}
use Rattle.frame_pool.specs.Pool.{base_of}
use Rattle.frame_pool.specs.declared.Pool.{Pool}
use Rattle.frame_pool.specs.Held.{times, Holds, Owns, SameIn}
use Rattle.frame_pool.proofs.Above.{SameIn-above, Owns-above}
use Rattle.frame_pool.proofs.Lengths.{times-cons, times-none, hit-is}
use Rattle.paging.specs.Fresh.{has, dir_place}
use Rattle.paging.specs.Reached.{reached, walk_frames, with_table}
use Rattle.shadow_views.specs.Tables.{dir, at, tables, owned}
use Rattle.shadow_views.proofs.Counts.{owned-root, owned-table}
use Rattle.shadow_views.proofs.Changes.{high}
use Rattle.shadow_tables.specs.Entries.{entries_of}
use Rattle.shadow_tables.specs.Host.{lent}
use Rattle.guest_ram.specs.Among.{is_among}
use Rattle.shadow_tables.specs.Slots.{Slot, slot_of, by_words, roots, root_of, held, slot_at, SameSlots, IsShadow}
use Rattle.shadow_tables.specs.declared.shadow.Shadow.{Shadow}
use Rattle.shadow_tables.specs.declared.words.Side.{Side}
use Rattle.shadow_tables.specs.declared.words.Side.TheVariants.{Kernel, User}
use Rattle.shadow_tables.specs.Laws.Views.{in-root, in-kernel, in-user, held-stays, slot_at-stays, IsShadow-stays}
use Rattle.shadow_tables.specs.Laws.Entries.{entries_of-same}
use Rattle.shadow_tables.specs.Laws.Hosts.{reached-is}
use Rattle.shadow_tables.specs.Laws.Props.{IsShadow-prop}
pub use Rattle.shadow_tables.specs.Laws.Entries.{get-entries_of as entry-at, none-entries_of as none-beyond}

-- ---- laws of any shadows

pub same-entries : (f f' : ℕ → Option Slot) → SameSlots f f' → entries_of f' ≡ entries_of f
same-entries f f' h = entries_of-same f f' h

pub same-above : (p : Pool) (m m' : List ℕ) (limit : ℕ) (fs : List ℕ) → Owns p m fs → limit ≤ 4096 * base_of p
    → drop limit m' ≡ drop limit m → length m' ≡ length m → SameIn fs m m'
same-above p m m' limit fs o l e size = SameIn-above p m m' limit l e size fs o

pub owned-above : (p : Pool) (m m' : List ℕ) (limit : ℕ) (fs fs' : List ℕ) → Owns p m fs → limit ≤ 4096 * base_of p
    → drop limit m' ≡ drop limit m → length m' ≡ length m → fs' ≡ fs → Owns p m' fs'
owned-above p m m' limit fs fs' o l e size same = subst (Owns p m') (sym same) (Owns-above p m m' limit l e size fs o)

-- ---- laws of `Shadow`

-- what holds of its memory, where only the fact that it does is given
pub had : (s : Shadow) (m : List ℕ) → ∥ IsShadow s m ∥₁ → IsShadow s m
had s m h = ∥∥₁_elim h (IsShadow-prop s m) (λ x. x)

pub lies : (s : Shadow) (m : List ℕ) → ∥ IsShadow s m ∥₁ → Holds m (held s m)
lies s m h = (had s m h).holds

pub held-roots : (s : Shadow) (m : List ℕ) → 2 ≤ length (held s m)
unfolding owned
held-roots s m =
    let a = length-append (tables m s.kernel 1024) (owned m (s.user ∷ [])) in
    omega (arith, a)

pub none-write_protected : (frame : ℕ) (writes : Bool) → is_among frame [] ≡ true → writes ≡ false
none-write_protected frame writes e = cc

-- where nothing comes back, all tables that may are write-protected
pub never-unmarked : (frame : ℕ) → true ≡ false → is_among frame [] ≡ true
never-unmarked frame e = cc

pub stays : (s : Shadow) (m m' : List ℕ) → ∥ IsShadow s m ∥₁ → SameIn (held s m) m m' → ∥ IsShadow s m' ∥₁
stays s m m' h e = ∥∥₁_map h (λ x. IsShadow-stays s m m' x e)

pub same-frames : (s : Shadow) (m m' : List ℕ) → ∥ IsShadow s m ∥₁ → SameIn (held s m) m m' → held s m' ≡ held s m
same-frames s m m' h e = held-stays s m m' (had s m h) e

pub same-slots : (s : Shadow) (m m' : List ℕ) → ∥ IsShadow s m ∥₁ → SameIn (held s m) m m' → SameSlots (slot_at s m) (slot_at s m')
same-slots s m m' h e = λ page l. slot_at-stays s m m' (had s m h) e page l

pub host : (s : Shadow) (m : List ℕ) (n : ℕ) (side : Side) (page : ℕ) (write : Bool) → ∥ IsShadow s m ∥₁ → 4096 * n ≡ length m
    → page < 2 ^ 20 → reached m n (root_of s side) page write ≡ lent n (slot_at s m page) side write
host s m n side page write h e l = reached-is s m n side page write (had s m h) e l

-- the frames that a walk reads
walked-table : (s : Shadow) (m : List ℕ) (side : Side) (page w f : ℕ) → page < 2 ^ 20 → w ≡ dir m (root_of s side) (page / 1024)
    → 1 ≤ times f (with_table w) → 1 ≤ times f (held s m)
walked-table s m side page w f l e h =
    elim (eqb_tells (w / 1 % 2) 1) [
      | inl t ↦
          let x = ap (λ b. times f (cond b ((w / 4096) ∷ []) [])) t.0 in
          let c = times-cons f (w / 4096) [] in let z = times-none f in
          elim (hit-is f (w / 4096)) [
            | inl y ↦
                let bit = t.1 in
                let ne : w ≢ 0 = λ q. absurd (omega (arith, bit, q)) in
                owned-table m (root_of s side) (page / 1024) f (roots s) (in-root s side) (high page l) (λ q. ne (e ∙ q))
                (y.0 ∙ ap (λ v. v / 4096) e)
            | inr y ↦ let n = y.1 in absurd (omega (arith, h, x, c, z, n))
          ]
      | inr t ↦
          let x = ap (λ b. times f (cond b ((w / 4096) ∷ []) [])) t.0 in
          let z = times-none f in absurd (omega (arith, h, x, z))
    ]

pub walked : (s : Shadow) (m : List ℕ) (side : Side) (page f : ℕ) → ∥ IsShadow s m ∥₁ → page < 2 ^ 20
    → 1 ≤ times f (walk_frames m (root_of s side) page) → 1 ≤ times f (held s m)
unfolding dir
walked s m side page f h l i =
    let r : ℕ = root_of s side in
    let w : ℕ = word32 m (dir_place (4096 * r) page) in
    let c = times-cons f r (with_table w) in
    let place : dir_place (4096 * r) page ≡ 4096 * r + 4 * (page / 1024) = omega arith in
    elim (hit-is f r) [
      | inl t ↦ subst (λ x. 1 ≤ times x (held s m)) (sym t.0) (owned-root m r (roots s) (in-root s side))
      | inr t ↦ let n = t.1 in walked-table s m side page w f l (ap (word32 m) place) (omega (arith, c, n, i))
    ]

frame-fits : (w f : ℕ) → w < 2 ^ 32 → w / 4096 ≡ f → f < 2 ^ 20
frame-fits w f h e = omega arith

fits-by : (page k u : ℕ) (slot : Slot) → k < 2 ^ 32 → u < 2 ^ 32 → by_words page k u ≡ Some slot → (slot.entry.page ≡ page)
    × (slot.entry.frame < 2 ^ 20)
fits-by page zero zero slot a b e = cc
fits-by page zero (suc u) slot a b e =
    let q = same_Some (slot_of User page (suc u)) slot e in (
      sym (ap (λ (x : Slot). x.entry.page) q),
      frame-fits (suc u) slot.entry.frame b (ap (λ (x : Slot). x.entry.frame) q),
    )
fits-by page (suc k) u slot a b e =
    let q = same_Some (slot_of Kernel page (suc k)) slot e in (
      sym (ap (λ (x : Slot). x.entry.page) q),
      frame-fits (suc k) slot.entry.frame a (ap (λ (x : Slot). x.entry.frame) q),
    )

pub fits : (s : Shadow) (m : List ℕ) (page : ℕ) (slot : Slot) → ∥ IsShadow s m ∥₁ → page < 2 ^ 20 → slot_at s m page ≡ Some slot
    → (slot.entry.page ≡ page) × (slot.entry.frame < 2 ^ 20)
unfolding slot_at
fits s m page slot h l e =
    let x = had s m h in
    let small : (r v : ℕ) → v ≡ at m r page → (at m r page ≢ 0 → at m r page < 2 ^ 32) → v < 2 ^ 32 =
    λ r v q k. elim (eqb_tells (at m r page) 0)
    [ inl t ↦ (let z = t.1 in omega (arith, q, z)) | inr n ↦ (let y = k n.1 in omega (arith, q, y)) ] in
    fits-by page (at m s.kernel page) (at m s.user page) slot
    (small s.kernel (at m s.kernel page) refl (λ n. (x.marks s.kernel page (in-kernel s) l n).fits))
    (small s.user (at m s.user page) refl (λ n. (x.marks s.user page (in-user s) l n).fits))
    e
