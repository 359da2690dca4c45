-- The outcome of a step, from what its parts did.
use Rattle.std.proofs.Common.{ℕ, ◌/◌, None, refl, sym, ◌∙◌, inl, inr}
use Rattle.std.proofs.lemmas.Bool.Decides.{eqb_tells}
use Rattle.std.specs.FinMap.{FinMap, empty}
use Rattle.std.specs.Ordering.{nat_cmp}
use Rattle.std.proofs.lemmas.Option.{none-some}
use Rattle.paging.specs.declared.entry.Entry.{Entry}
use Rattle.paging.specs.Uses.{with_entry, without_dir}
use Rattle.xlate_buffer.proofs.Caching.{dir_gone, dir_other}
use Rattle.step_mem.specs.Changes.{AreWithin}
use Rattle.step_mem.proofs.Changed.{Within_with}
use Rattle.paging.specs.Part.{IsPartOf}
use Rattle.machine_step.specs.declared.worked.Dropped.{Dropped}
use Rattle.machine_step.specs.declared.worked.Dropped.TheVariants as dropped
use Rattle.machine_step.specs.Worked.{dropping}
use Rattle.bare_machine.proofs.Begun.{none_within}

-- what is a part of a set that lies within memory lies there too
part_within : (frames : ℕ) (whole part : FinMap nat_cmp Entry) → AreWithin frames whole → IsPartOf part whole → AreWithin frames part
part_within frames whole part h p = λ page e is. h page e (p.each page e is)

dir_within : (frames index : ℕ) (set : FinMap nat_cmp Entry) → AreWithin frames set → AreWithin frames (without_dir set index)
dir_within frames index set h = λ page x is.
    elim (eqb_tells (page / 1024) index) [
      | inl t ↦ absurd (none-some x (sym (dir_gone set index page t.1) ∙ is))
      | inr f ↦ h page x (sym (dir_other set index page f.1) ∙ is)
    ]

-- a set that loses entries stays within memory
pub within_dropped : (frames : ℕ) (d : Dropped) (set part : FinMap nat_cmp Entry) → AreWithin frames set → IsPartOf part (dropping d set)
    → AreWithin frames part
within_dropped frames dropped.Nothing set part h p = part_within frames set part h p
within_dropped frames (dropped.Page page) set part h p =
    part_within frames (with_entry set page None) part (Within_with frames set page None h tt) p
within_dropped frames (dropped.Dir index) set part h p = part_within frames (without_dir set index) part (dir_within frames index set h) p
within_dropped frames dropped.All set part h p = part_within frames empty part (none_within frames empty refl) p
