-- Which tables the views have after each write.
use Rattle.std.proofs.Common.{◌≡◌, ◌≢◌, ℕ, ◌+◌, ◌/◌, ◌%◌, ◌^◌, ◌<◌, ◌≤◌, ◌⊎◌, List, length, refl, sym, ap, ◌∙◌, subst, inl, inr, arith}
use Rattle.frame_pool.specs.Pool.{free_list}
use Rattle.frame_pool.specs.declared.Pool.{Pool}
use Rattle.frame_pool.specs.Held.{Owns, Moves}
use Rattle.frame_pool.proofs.Held.{Moves-refl}
use Rattle.shadow_views.specs.Tables.{dir, owned, Opens, Puts}
use Rattle.shadow_views.proofs.Changes.{high}
use Rattle.shadow_tables.specs.Slots.{roots, root_of, held}
use Rattle.shadow_tables.specs.Opened.{HasTable, KeepsTables, HasOpened}
use Rattle.shadow_tables.specs.declared.shadow.Shadow.{Shadow}
use Rattle.shadow_tables.specs.declared.words.Side.{Side}
use Rattle.shadow_tables.specs.Laws.Views.{in-root}

pub keeps-refl : (s : Shadow) (m : List ℕ) → KeepsTables s m m
keeps-refl s m = λ side index l ne. ne

pub keeps-trans : (s : Shadow) (m m1 m2 : List ℕ) → KeepsTables s m m1 → KeepsTables s m1 m2 → KeepsTables s m m2
keeps-trans s m m1 m2 a b = λ side index l ne. b side index l (a side index l ne)

pub puts-keep : (s : Shadow) (m m' : List ℕ) (r page v : ℕ) → Puts m m' (roots s) r page v → KeepsTables s m m'
puts-keep s m m' r page v a = λ side index l ne z. ne (sym (a.dirs (root_of s side) index (in-root s side) l) ∙ z)

named-still : (w v : ℕ) → w ≢ 0 → (v ≡ w) ⊎ (v % 4096 ≡ 7) → v ≢ 0
named-still w v ne h = λ z. elim h [ inl e ↦ ne (sym e ∙ z) | inr e ↦ absurd (omega (arith, e, z)) ]

pub opens-keep : (s : Shadow) (p p' : Pool) (m m' : List ℕ) (r d : ℕ) → Opens p p' m m' (roots s) r d → KeepsTables s m m'
opens-keep s p p' m m' r d a = λ side index l ne. named-still (dir m (root_of s side) index) (dir m' (root_of s side) index) ne
    (a.dirs (root_of s side) index (in-root s side) l)

-- where a table is there, nothing is to be done for it
pub opens-there : (p p' : Pool) (m m' : List ℕ) (rs : List ℕ) (r d : ℕ) → Owns p m (owned m rs) → dir m r d ≢ 0 → p' ≡ p → m' ≡ m
    → Opens p p' m m' rs r d
opens-there p p' m m' rs r d o ne a b =
    subst (λ q. Opens p q m m' rs r d) (sym a) (subst (λ n. Opens p p m n rs r d) (sym b) (record {
      moves = Moves-refl p m (owned m rs) o.stands;
      some = ne;
      one = omega arith;
      dirs = λ s e i l. inl refl;
      words = λ s q i l. refl;
    }))

module _ (s : Shadow) (p p' : Pool) (m m1 m2 m3 : List ℕ) (side : Side) (r page v : ℕ) (l : page < 2 ^ 20) (root : r ≡ root_of s side)
    (same : held s m1 ≡ held s m) (keeps : KeepsTables s m m1)
    (o : Opens p p' m1 m2 (roots s) r (page / 1024)) (unless : dir m1 r (page / 1024) ≢ 0 → m2 ≡ m1)
    (a : Puts m2 m3 (roots s) r page v) where
  has_tables_under-there : HasTable s m3 side (page / 1024)
  has_tables_under-there =
      puts-keep s m2 m3 r page v a side (page / 1024) (high page l) (subst (λ x. dir m2 x (page / 1024) ≢ 0) root o.some)

  has_tables_under-others : KeepsTables s m m3
  has_tables_under-others =
      keeps-trans s m m1 m3 keeps (keeps-trans s m1 m2 m3 (opens-keep s p p' m1 m2 r (page / 1024) o) (puts-keep s m2 m3 r page v a))

  has_tables_under-already : HasTable s m side (page / 1024) → held s m3 ≡ held s m
  has_tables_under-already ne = a.frames
      ∙ ap (held s) (unless (subst (λ x. dir m1 x (page / 1024) ≢ 0) (sym root) (keeps side (page / 1024) (high page l) ne))) ∙ same

  pub has_tables_under-table : Moves p p' m m3 (held s m) (held s m3) → length (free_list p m) ≤ length (free_list p' m3) + 1
      → HasOpened s m m3 side (page / 1024)
  has_tables_under-table w one =
      let e = w.lengths in
      record {
        there = has_tables_under-there;
        others = has_tables_under-others;
        already = has_tables_under-already;
        one = omega (arith, e, one);
      }
