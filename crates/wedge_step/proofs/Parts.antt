-- Some of a set of translations.
use Rattle.std.proofs.Common.{◌≡◌, ℕ, ◌/◌, ◌==◌, Bool, true, false, ◌||◌, cond, not, Option, None, refl, sym, ap, ◌∙◌, inl, inr}
use Rattle.std.specs.FinMap.{get, empty, remove, get-empty, same_map, nat_cmp-IsAntisymmetric}
use Rattle.std.specs.Ordering.{nat_cmp}
use Rattle.std.proofs.lemmas.Cmp.{nat_cmp_total}
use Rattle.std.proofs.lemmas.Bool.Decides.{eqb_tells}
use Rattle.paging.specs.declared.entry.Entry.{Entry}
use Rattle.paging.specs.Uses.{without_dir}
use Rattle.step_mem.specs.Changes.{AreWithin}
use Rattle.step_mem.proofs.Changed.{get_with_same, get_with_other}
use Rattle.machine_step.specs.declared.worked.Dropped.{Dropped}
use Rattle.machine_step.specs.declared.worked.Dropped.TheVariants as dropped
use Rattle.machine_step.specs.Worked.{dropping}
use Rattle.machine_model.specs.Run.{Set}
use Rattle.machine_model.specs.State.{Setting, State, Loosened}
use Rattle.machine_model.proofs.TrackedSteps.{not_dropped, retained}
use Rattle.shadow_tables.specs.Laws.Entries.{cond_none}
use Rattle.wedge_step.specs.Parts.{IsPartOf, left_of}
use Rattle.wedge_step.proofs.Bools.{none_some}

pub part_same : (part whole : Set) → part ≡ whole → IsPartOf part whole
part_same part whole is = record { each = λ page e h. ap (λ (set : Set). get set page) (sym is) ∙ h }

pub part_empty : (part whole : Set) → part ≡ empty → IsPartOf part whole
part_empty part whole is =
    record { each = λ page e h. absurd (none_some e (sym (get-empty nat_cmp page) ∙ (ap (λ (set : Set). get set page) (sym is) ∙ h))) }

pub part_join : (a b c : Set) → IsPartOf a b → IsPartOf b c → IsPartOf a c
part_join a b c p q = record { each = λ page e h. q.each page e (p.each page e h) }

-- a part may be gone by
pub part_allowed : (m : Setting) (b : State) (part : Set) → IsPartOf part b.set → Loosened m b part
part_allowed m b part h = record { each = λ page e is. inl (h.each page e is) }

pub part_loosened : (m : Setting) (b : State) (part set : Set) → IsPartOf part set → Loosened m b set → Loosened m b part
part_loosened m b part set p h = record { each = λ page e is. h.each page e (p.each page e is) }

-- what is part of a set that lies within the frames lies there too
pub part_within : (frames : ℕ) (part whole : Set) → IsPartOf part whole → AreWithin frames whole → AreWithin frames part
part_within frames part whole p h = λ page e is. h page e (p.each page e is)

-- what leaves leaves a part
pub dropped_part : (d : Dropped) (set : Set) → IsPartOf (dropping d set) set
dropped_part dropped.Nothing set = part_same set set refl
dropped_part (dropped.Page page) set = record {
  each = λ q e is.
      elim (eqb_tells q page) [
        | inl t ↦ absurd (none_some e (sym (ap (λ k. get (remove set page) k) t.1 ∙ get_with_same set page None) ∙ is))
        | inr n ↦ sym (get_with_other set page None q n.1) ∙ is
      ];
}
dropped_part (dropped.Dir index) set =
    record { each = λ q e is. not_dropped (not (q / 1024 == index)) (get set q) e (sym (retained set index q) ∙ is) }
dropped_part dropped.All set = part_empty empty set refl

-- what is left of a set is a part
pub part_left : (lost : Bool) (part whole : Set) → part ≡ left_of lost whole → IsPartOf part whole
part_left true part whole is = part_empty part whole is
part_left false part whole is = part_same part whole is

-- of nothing nothing leaves
dropping_empty : (d : Dropped) → dropping d empty ≡ empty
dropping_empty dropped.Nothing = refl
dropping_empty (dropped.Page page) =
    let none : Set = empty in
    same_map nat_cmp_total nat_cmp-IsAntisymmetric (remove none page) none
    (λ q. elim (eqb_tells q page) [
      | inl t ↦ ap (λ (k : ℕ). get (remove none page) k) t.1 ∙ (get_with_same none page None ∙ sym (get-empty nat_cmp q))
      | inr n ↦ get_with_other none page None q n.1
    ])
dropping_empty (dropped.Dir index) =
    let none : Set = empty in
    same_map nat_cmp_total nat_cmp-IsAntisymmetric (without_dir none index) none
    (λ q.
    let stays : Bool = not (q / 1024 == index) in
    retained none index q ∙ (ap (λ (o : Option Entry). cond stays o None) (get-empty nat_cmp q)
    ∙ (cond_none stays ∙ sym (get-empty nat_cmp q))))
dropping_empty dropped.All = refl

-- all may leave before some of them do, and after that
pub left_twice : (d : Dropped) (first second : Bool) (set mid new : Set) → mid ≡ left_of first set → new ≡ left_of second (dropping d mid)
    → new ≡ left_of (first || second) (dropping d set)
left_twice d true true set mid new is then = then
left_twice d true false set mid new is then = then ∙ (ap (dropping d) is ∙ dropping_empty d)
left_twice d false second set mid new is then = then ∙ ap (λ (x : Set). left_of second (dropping d x)) is
