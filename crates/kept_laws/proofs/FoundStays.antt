-- What is owed is found in memory over the steps of a run.
use Rattle.std.proofs.Common.{◌≡◌, ℕ, ◌*◌, ◌/◌, ◌^◌, ◌<◌, ◌≤◌, List, [], ◌∷◌, ◌++◌, length, Bool, true, false, ◌==◌, Some, refl, sym, ap, subst, ◌∙◌}
use Rattle.std.specs.FinMap.{get}
use Rattle.std.proofs.lemmas.Bool.{eqb-true, and_parts}
use Rattle.descriptors.specs.Controls.{pse_of}
use Rattle.paging.specs.declared.entry.Entry.{Entry}
use Rattle.paging.specs.Fresh.{has}
use Rattle.machine_model.specs.State.{Setting, State}
use Rattle.machine_model.specs.Step.{Went, step_of}
use Rattle.machine_model.specs.Taken.{Taken, loads_root}
use Rattle.machine_model.specs.Keeping.{leaves}
use Rattle.machine_model.specs.Reloading.{IsFoundBy}
use Rattle.machine_model.specs.Following.{WordsStayFound}
use Rattle.kept_laws.specs.Remembered.{was_read, Unwritten, IsOwed}
use Rattle.kept_laws.specs.Judged.{AllFound, IsFoundStill, FoundAtStart, FoundGoesOn}
use Rattle.machine_model.proofs.Splits.{Split, At_end, Within, split_of}
use Rattle.kept_laws.proofs.Lists.{all_at, read_more}
use Rattle.kept_laws.proofs.Owed.{owed_front}

none_split : (old : List Taken) (left : Taken) (since : List Taken) → [] ≡ old ++ left ∷ since → ⊥
none_split [] left since e = cc
none_split (u ∷ old) left since e = cc

pub found_at_start : FoundAtStart
found_at_start m now = record { each = λ c old left since o. absurd (none_split old left since o.split) }

-- by words in frames that were read before, and with a further step
found_wider : (m : Setting) (ram : List ℕ) (c : ℕ) (pse : Bool) (steps : List Taken) (t : Taken) (page : ℕ) (e : Entry)
    → IsFoundBy ram m.frames c pse (was_read steps) page e → IsFoundBy ram m.frames c pse (was_read (steps ++ t ∷ [])) page e
found_wider m ram c pse steps t page e h = record {
  dir_at = h.dir_at;
  word_at = h.word_at;
  dirty = h.dirty;
  found = h.found;
  accessed = h.accessed;
  is_dirty = h.is_dirty;
  words = (read_more steps t (h.dir_at / 4096) h.words.0, read_more steps t (h.word_at / 4096) h.words.1);
}

found_on : WordsStayFound → (m : Setting) (steps : List Taken) (t : Taken) (c : ℕ) (page : ℕ) (e : Entry)
    → step_of m t.before t.set ≡ Went t.report t.after → 4096 * m.frames ≤ length t.before.ram → page < 2 ^ 20 → Unwritten (steps ++ t ∷ [])
    → pse_of t.after.cpu ≡ pse_of t.before.cpu → IsFoundBy t.before.ram m.frames c (pse_of t.before.cpu) (was_read steps) page e
    → IsFoundBy t.after.ram m.frames c (pse_of t.after.cpu) (was_read (steps ++ t ∷ [])) page e
found_on law m steps t c page e is room small u pse h =
    subst (λ p. IsFoundBy t.after.ram m.frames c p (was_read (steps ++ t ∷ [])) page e) (sym pse)
    (law m t.before t.set t.report t.after c (pse_of t.before.cpu) (was_read (steps ++ t ∷ [])) page e room small is
    (λ frame here. all_at (λ f. was_read (steps ++ t ∷ []) f ≡ false) t.report.wrote frame (u steps t [] refl) here)
    (found_wider m t.before.ram c (pse_of t.before.cpu) steps t page e h))

same_pse : (a b : State) → a.cpu.cr4 ≡ b.cpu.cr4 → pse_of a.cpu ≡ pse_of b.cpu
same_pse a b e = ap (λ (w : ℕ). has w 16) e

by_split : WordsStayFound → (m : Setting) (steps : List Taken) (t : Taken) → step_of m t.before t.set ≡ Went t.report t.after
    → 4096 * m.frames ≤ length t.before.ram
    → (loads_root t ≡ true → Unwritten (steps ++ t ∷ []) → AllFound m t.before t.before.cpu.cr3 steps t.set) → IsFoundStill m steps t.before
    → (c : ℕ) (old : List Taken) (left : Taken) (since : List Taken) → IsOwed m (steps ++ t ∷ []) t.after c old left since
    → Split steps t old left since → AllFound m t.after c (steps ++ t ∷ []) left.set
by_split law m steps t is room loads h c old left since o (At_end at at_t none) page e there =
    let leaving : leaves c t ≡ true = subst (λ (u : Taken). leaves c u ≡ true) at_t o.is_left in
    let value : t.before.cpu.cr3 ≡ c = eqb-true t.before.cpu.cr3 c (and_parts (loads_root t) (t.before.cpu.cr3 == c) leaving).1 in
    let pse : pse_of t.after.cpu ≡ pse_of t.before.cpu =
    same_pse t.after t.before (o.same_now.1 ∙ ap (λ (u : Taken). u.before.cpu.cr4) at_t) in
    let found : (page < 2 ^ 20) × IsFoundBy t.before.ram m.frames t.before.cpu.cr3 (pse_of t.before.cpu) (was_read steps) page e =
    loads (and_parts (loads_root t) (t.before.cpu.cr3 == c) leaving).0 o.unwritten page e
    (subst (λ (u : Taken). get u.set page ≡ Some e) at_t there) in (
      found.0,
      found_on law m steps t c page e is room found.0 o.unwritten pse
          (subst (λ v. IsFoundBy t.before.ram m.frames v (pse_of t.before.cpu) (was_read steps) page e) value found.1),
    )
by_split law m steps t is room loads h c old left since o (Within before split at) page e there =
    let p = owed_front m steps t t.after c old left since before o split at in
    let pse : pse_of t.after.cpu ≡ pse_of t.before.cpu = same_pse t.after t.before (o.same_now.1 ∙ sym p.same_now.1) in
    let found = h.each c old left before p page e there in
    (found.0, found_on law m steps t c page e is room found.0 o.unwritten pse found.1)

pub found_goes_on : WordsStayFound → FoundGoesOn
found_goes_on law m steps t is room loads h =
    record {
      each = λ c old left since o. by_split law m steps t is room loads h c old left since o
          (split_of steps t old left since o.split);
    }
