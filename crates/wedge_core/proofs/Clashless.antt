-- Where nothing is kept nothing clashes.
use Rattle.std.proofs.Common.{◌≡◌, ℕ, List, [], ◌∷◌, Bool, false, ◌&&◌, ◌||◌, Option, None, refl, ap, ◌∙◌}
use Rattle.std.specs.FinMap.{get, empty, get-empty}
use Rattle.std.specs.Ordering.{nat_cmp}
use Rattle.guest_ram.specs.Among.{is_among}
use Rattle.descriptors.specs.Controls.{wp_of}
use Rattle.paging.specs.declared.entry.Entry.{Entry}
use Rattle.machine_model.specs.State.{Setting, State}
use Rattle.machine_model.specs.Run.{Set}
use Rattle.machine_model.specs.Clash.{Use, uses_at, is_refused_by, clash_behind, instruction_clashes}
use Rattle.wedge_step.proofs.Bools.{and_false}

none_clash : (entries : ℕ → Option Entry) (wp : Bool) → ((page : ℕ) → entries page ≡ None) → (used : List ℕ) (us : List Use)
    → clash_behind entries wp used us ≡ false
none_clash entries wp none used [] = refl
none_clash entries wp none used (u ∷ us) =
    ap (λ (o : Option Entry). (is_among u.page used && is_refused_by o u.access wp) || clash_behind entries wp (u.page ∷ used) us)
    (none u.page)
    ∙ ap (λ (b : Bool). b || clash_behind entries wp (u.page ∷ used) us) (and_false (is_among u.page used))
    ∙ none_clash entries wp none (u.page ∷ used) us

pub empty_clear : (m : Setting) (b : State) → b.set ≡ empty → instruction_clashes m b ≡ false
unfolding instruction_clashes
empty_clear m b e = none_clash (get b.set) (wp_of b.cpu) (λ page. ap (λ (s : Set). get s page) e ∙ get-empty nat_cmp page) [] (uses_at m b)
