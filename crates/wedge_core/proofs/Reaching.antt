-- A page that a step was granted and that is kept is reached by the host.
use Rattle.std.proofs.Common.{◌≡◌, ℕ, ◌/◌, ◌≤◌, ◌<◌, ◌^◌, Bool, true, false, ◌&&◌, not, List, length, Option, Some, None, refl, sym, ap, ◌∙◌, cond, inl, inr}
use Rattle.std.specs.List.{Contains}
use Rattle.std.specs.FinMap.{get}
use Rattle.paging.specs.declared.entry.Entry.{Entry}
use Rattle.paging.specs.Fresh.{allows}
use Rattle.paging.specs.Reached.{reached}
use Rattle.paging.specs.Space.{Space}
use Rattle.shadow_tables.specs.Host.{lent, frame_below}
use Rattle.guest_ram.specs.Among.{is_among}
use Rattle.shadow_tables.specs.Slots.{Slot, filled, is_side, is_user, is_adequate, permits}
use Rattle.shadow_tables.specs.declared.words.Side.{Side}
use Rattle.shadow_tables.specs.declared.words.Side.TheVariants.{Kernel, User}
use Rattle.ia32_exec.specs.declared.access.Range.{Range}
use Rattle.ia32_exec.specs.declared.access.Ranges.{Ranges}
use Rattle.host_cpl3.specs.Access.{last_page}
use Rattle.std.proofs.lemmas.Bool.{cases_lt, lt-leb}
use Rattle.image_check.specs.Image.{Image}
use Rattle.native_steps.specs.Backward.{IsReached, IsRangeReached, AreReached}
use Rattle.native_steps.specs.Granted.{IsGranted, IsRangeGranted, AreGranted}
use Rattle.wedge_mem.specs.Settled.{filled_by}
use Rattle.wedge_step.specs.Closed.{Closes}
use Rattle.wedge_step.specs.Standing.{is_kernel}
use Rattle.wedge_step.proofs.Behind.{contains_among}
use Rattle.wedge_step.proofs.Bools.{none_some}

user_is : (side : Side) → not (is_kernel side) ≡ is_user side
user_is Kernel = refl
user_is User = refl

own_side : (side : Side) → is_side side side ≡ true
own_side Kernel = refl
own_side User = refl

-- the slot that a fill makes lets pass what the entry does
lets_pass : (write_protected : List ℕ) (side : Side) (entry : Entry) (wp write : Bool)
    → allows entry (record { write = write; user = is_user side }) wp ≡ true
    → (write ≡ true → is_among entry.frame write_protected ≡ false)
    → is_adequate (Some (filled (is_among entry.frame write_protected) side entry wp)) side write ≡ true
lets_pass write_protected side entry wp false allowed free = ap (λ b. b && permits side entry false wp) (own_side side) ∙ allowed
lets_pass write_protected side entry wp true allowed free =
    ap (λ b. b && (not (is_among entry.frame write_protected) && permits side entry true wp)) (own_side side)
    ∙ ap (λ b. not b && permits side entry true wp) (free refl)
    ∙ allowed

leads_there : (n frame : ℕ) → frame < n → frame_below n frame ≡ Some frame
leads_there n frame lt = ap (λ b. cond b None (Some frame)) (lt-leb n frame lt)

pub reached_now : (image : Image) (side : Side) (wp : Bool) (s : Space) (old new : ℕ → Option Slot) (pages write_protected : List ℕ)
    (memory : List ℕ) (root page : ℕ) (write : Bool)
    → Closes old new s.set pages side wp write_protected s.wrote → page < 2 ^ 20 → is_among page pages ≡ true
    → reached memory (length memory / 4096) root page write ≡ lent (length memory / 4096) (new page) side write
    → ((entry : Entry) → get s.set page ≡ Some entry → entry.frame < length memory / 4096)
    → IsGranted image (is_kernel side) wp s write page → IsReached memory root write page
reached_now image side wp s old new pages write_protected memory root page write closes small there host within g =
    let slot = filled (is_among g.entry.frame write_protected) side g.entry wp in
    let kept : new page ≡ Some slot = closes.settles.through page small there ∙ ap (filled_by side wp write_protected) g.kept in
    let allowed : allows g.entry (record { write = write; user = is_user side }) wp ≡ true =
    ap (λ (u : Bool). allows g.entry (record { write = write; user = u }) wp) (sym (user_is side)) ∙ g.allowed in
    let adequate = lets_pass write_protected side g.entry wp write allowed
    (λ w. closes.unprotected g.entry.frame (contains_among s.wrote g.entry.frame (g.told w))) in (
      g.entry.frame,
      host
          ∙ ap (λ (o : Option Slot). lent (length memory / 4096) o side write) kept
          ∙ ap (λ b. cond b (frame_below (length memory / 4096) g.entry.frame) None) adequate
          ∙ leads_there (length memory / 4096) g.entry.frame (within g.entry g.kept),
    )

-- all pages that the instruction uses
module _ (image : Image) (side : Side) (wp : Bool) (s : Space) (old new : ℕ → Option Slot) (pages write_protected : List ℕ)
    (memory : List ℕ) (root : ℕ) (closes : Closes old new s.set pages side wp write_protected s.wrote)
    (through : (page : ℕ) → Contains s.visited page → is_among page pages ≡ true)
    (beyond : (page : ℕ) → 2 ^ 20 ≤ page → get s.set page ≡ None)
    (host : (page : ℕ) (write : Bool) → page < 2 ^ 20 → reached memory (length memory / 4096) root page write ≡ lent (length memory / 4096)
    (new page) side write)
    (within : (page : ℕ) (entry : Entry) → get s.set page ≡ Some entry → entry.frame < length memory / 4096)
  where
    page_reached : (page : ℕ) (write : Bool) → IsGranted image (is_kernel side) wp s write page → IsReached memory root write page
    page_reached page write g =
        elim (cases_lt page (2 ^ 20)) [
          | inl small ↦ reached_now image side wp s old new pages write_protected memory root page write closes small
              (through page g.through) (host page write small) (within page) g
          | inr high ↦ absurd (none_some g.entry (sym (beyond page high) ∙ g.kept))
        ]

    range_reached : (write : Bool) (o : Option Range) → IsRangeGranted image (is_kernel side) wp s write o
        → IsRangeReached memory root write o
    range_reached write None h = tt
    range_reached write (Some r) h = (page_reached (r.at / 4096) write h.0, page_reached (last_page r) write h.1)

    pub all_reached : (fetch : List ℕ) (ranges : Ranges) → AreGranted image (is_kernel side) wp s fetch ranges
        → AreReached memory root fetch ranges
    all_reached fetch ranges g = record {
      fetch = λ page c. page_reached page false (g.fetch page c);
      read = range_reached false ranges.read g.read;
      write = range_reached true ranges.write g.write;
    }
