-- Sets that lose entries.
use Rattle.std.proofs.Common.{◌≡◌, ◌≢◌, ℕ, ◌/◌, sym, ap, ◌∙◌, Option, Some, None, inl, inr}
use Rattle.std.proofs.lemmas.Bool.Decides.{eqb_tells}
use Rattle.std.proofs.lemmas.Cmp.{nat_cmp_total}
use Rattle.std.specs.FinMap.{FinMap, get, empty, get-empty, same_map, nat_cmp-IsAntisymmetric}
use Rattle.std.specs.Ordering.{nat_cmp}
use Rattle.std.proofs.lemmas.Option.{none-some}
use Rattle.paging.specs.declared.entry.Entry.{Entry}
use Rattle.paging.specs.Uses.{with_entry, without_dir}
use Rattle.xlate_buffer.proofs.Caching.{dir_gone, dir_other}
use Rattle.xlate_buffer.specs.Caches.{IsSameOrGone}
use Rattle.step_mem.proofs.Changed.{get_with_same, get_with_other}
use Rattle.step_mem.specs.Changes.{AreWithin}
use Rattle.paging.specs.Part.{IsPartOf}

found_before : (old new : Option Entry) (x : Entry) → IsSameOrGone old new → new ≡ Some x → old ≡ Some x
found_before old new x h is =
    elim h [ inl same ↦ sym same ∙ is | inr gone ↦ absurd (none-some x (sym gone ∙ is)) ]

-- the page's entry is this one, and others are as before or gone
pub part_turned : (old new whole : FinMap nat_cmp Entry) (page : ℕ) (entry : Option Entry) → get new page ≡ entry
    → ((q : ℕ) → q ≢ page → IsSameOrGone (get old q) (get new q)) → IsPartOf old whole → IsPartOf new (with_entry whole page entry)
part_turned old new whole page entry here others h = record {
  each = λ q x is.
      elim (eqb_tells q page) [
        | inl t ↦ ap (get (with_entry whole page entry)) t.1 ∙ get_with_same whole page entry ∙ sym here ∙ ap (get new) (sym t.1) ∙ is
        | inr f ↦ get_with_other whole page entry q f.1 ∙ h.each q x (found_before (get old q) (get new q) x (others q f.1) is)
      ];
}

-- and others are as before
pub all_turned : (old new : FinMap nat_cmp Entry) (page : ℕ) (entry : Option Entry) → get new page ≡ entry
    → ((q : ℕ) → q ≢ page → get new q ≡ get old q) → new ≡ with_entry old page entry
all_turned old new page entry here others = same_map nat_cmp_total nat_cmp-IsAntisymmetric _ _ (λ q.
    elim (eqb_tells q page) [
      | inl t ↦ ap (get new) t.1 ∙ here ∙ sym (get_with_same old page entry) ∙ ap (get (with_entry old page entry)) (sym t.1)
      | inr f ↦ others q f.1 ∙ sym (get_with_other old page entry q f.1)
    ])

-- the pages of a directory index are gone, and others are as before
pub dir_turned : (old new : FinMap nat_cmp Entry) (index : ℕ) → ((q : ℕ) → q / 1024 ≡ index → get new q ≡ None)
    → ((q : ℕ) → q / 1024 ≢ index → get new q ≡ get old q) → new ≡ without_dir old index
dir_turned old new index gone others = same_map nat_cmp_total nat_cmp-IsAntisymmetric _ _ (λ q.
    elim (eqb_tells (q / 1024) index) [
      | inl t ↦ gone q t.1 ∙ sym (dir_gone old index q t.1)
      | inr f ↦ others q f.1 ∙ sym (dir_other old index q f.1)
    ])

-- a part of a set is one without the pages of a directory index
pub dir_part : (part whole : FinMap nat_cmp Entry) (index : ℕ) → IsPartOf part whole
    → IsPartOf (without_dir part index) (without_dir whole index)
dir_part part whole index h = record {
  each = λ q x is.
      elim (eqb_tells (q / 1024) index) [
        | inl t ↦ absurd (none-some x (sym (dir_gone part index q t.1) ∙ is))
        | inr f ↦ dir_other whole index q f.1 ∙ h.each q x (sym (dir_other part index q f.1) ∙ is)
      ];
}

pub all_gone : (new : FinMap nat_cmp Entry) → ((q : ℕ) → get new q ≡ None) → new ≡ empty
all_gone new gone = same_map nat_cmp_total nat_cmp-IsAntisymmetric _ _ (λ q. gone q ∙ sym (get-empty nat_cmp q))

pub same_others : (old new : FinMap nat_cmp Entry) (page : ℕ) → ((q : ℕ) → q ≢ page → get new q ≡ get old q) → (q : ℕ) → q ≢ page
    → IsSameOrGone (get old q) (get new q)
same_others old new page h q n = inl (h q n)

-- a part of a set that is within is within
pub part_within : (frames : ℕ) (part whole : FinMap nat_cmp Entry) → IsPartOf part whole → AreWithin frames whole → AreWithin frames part
part_within frames part whole h w = λ page entry is. w page entry (h.each page entry is)
