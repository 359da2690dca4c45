-- After a step that leaves nothing to settle, what is kept is what the step left.
use Rattle.std.proofs.Common.{◌≡◌, ℕ, ◌^◌, ◌<◌, List, [], ◌∷◌, ◌++◌, append-nil, length, map, Bool, true, false, not, cond, ◌==◌, ◌&&◌, ◌||◌, Option, Some, None, refl, sym, ap, subst, ◌∙◌}
use Rattle.std.specs.Prelude.{nat_lt}
use Rattle.std.proofs.Math.Bool.{or-false}
use Rattle.std.specs.List.{list_any}
use Rattle.std.specs.FinMap.{get}
use Rattle.guest_ram.specs.Among.{is_among}
use Rattle.shadow_tables.specs.Entries.{entries_of}
use Rattle.shadow_tables.specs.Laws.Entries.{get-entries_of}
use Rattle.shadow_tables.specs.OtherRoot.{OtherRoot, AreSame, LoseWrites, all_spared}
use Rattle.shadow_tables.specs.Slots.{Slot, barred, entry_in}
use Rattle.shadow_tables.specs.declared.shadows.Shadows as shadows
use Rattle.shadow_tables.specs.declared.words.Side.{Side}
use Rattle.shadow_tables.proofs.Lists.{within-refl}
use Rattle.shadow_tables.proofs.OtherRoots.{barred-none, lose-none, none-written, same-refl}
use Rattle.step_mem.specs.Changes.{changed, page_of}
use Rattle.step_mem.specs.declared.changes.Change.{Change}
use Rattle.step_mem.specs.declared.state.StepState.{StepState}
use Rattle.wedge_mem.specs.Settled.{IsFillCount, filled_by, has_entry, pages_of, refilled, serves}
use Rattle.wedge_mem.specs.Told.{guest_frames, read_by}
use Rattle.wedge_mem.proofs.Due.{serves-same}
use Rattle.wedge_mem.proofs.Filled.{self}
use Rattle.machine_model.specs.Run.{Set}
use Rattle.kept_laws.specs.OverSteps.{Tells}
use Rattle.shadow_tables.specs.Sight.{Sight}
use Rattle.wedge_step.specs.AtRest.{IsAtRest}
use Rattle.wedge_step.specs.Closed.{Closes}
use Rattle.wedge_step.proofs.Bools.{both, clash, or_true}
use Rattle.wedge_step.proofs.Resettling.{OthersAre, Settled}

-- ---- no page is filled

not_due : (b : Bool) (xs ys : List ℕ) → cond {A = List ℕ} (b && false) xs ys ≡ ys
not_due true xs ys = refl
not_due false xs ys = refl

none_refilled : (kept : ℕ → Option Slot) (set : Set) (side : Side) (wp : Bool) (pages : List ℕ)
    → ((page : ℕ) → is_among page pages ≡ true → serves side wp (kept page) ≡ true) → refilled kept set [] side wp pages ≡ []
none_refilled kept set side wp [] h = refl
none_refilled kept set side wp (page ∷ pages) h =
    let rest : List ℕ = refilled kept set [] side wp pages in
    let last : Bool = has_entry (get set page) && not (is_among page pages) in
    ap (λ (b : Bool). cond {A = List ℕ} (last && not b) (page ∷ rest) rest)
    (h page (ap (λ (b : Bool). b || is_among page pages) (self page)))
    ∙ (not_due last (page ∷ rest) rest
    ∙ none_refilled kept set side wp pages (λ q there. h q (ap (λ (b : Bool). (q == page) || b) there ∙ or_true (q == page))))

module _ (slots : ℕ → Option Slot) (side : Side) (state : StepState) (rest : IsAtRest slots side state) where
  abbrev set : Set
  set = entries_of slots

  left : changed set state.changes ≡ set
  left = ap (changed set) rest.unchanged

  serving : (page : ℕ) → is_among page state.visited ≡ true → serves side state.control.wp (slots page) ≡ true
  serving page there = (both (nat_lt page (2 ^ 20)) (serves side state.control.wp (slots page)) (rest.served page there)).1

  pub none_filled : IsFillCount slots (changed set state.changes) state.changes state.tables state.visited side state.control.wp 0
  none_filled = record {
    lost = [];
    part = λ frame there. absurd (let f : false ≡ true = there in cc);
    exact =
        sym (ap (λ (cs : List Change). length (refilled (λ page. barred [] (slots page)) (changed set cs) cs side state.control.wp
        state.visited)) rest.unchanged
        ∙ ap length (none_refilled (λ page. barred [] (slots page)) set side state.control.wp state.visited
        (λ page there. ap (serves side state.control.wp) (barred-none (slots page)) ∙ serving page there)));
  }

  -- ---- each page is kept as a fill would leave it

  gone_through : (page : ℕ) → is_among page (pages_of state.visited state.changes) ≡ true → is_among page state.visited ≡ true
  gone_through page there =
      sym (ap (is_among page) (ap (λ (cs : List Change). state.visited ++ map page_of cs) rest.unchanged ∙ append-nil state.visited))
      ∙ there

  pub all_closes : (write_protected : List ℕ)
      → ((page : ℕ) (slot : Slot) → page < 2 ^ 20 → slots page ≡ Some slot → is_among slot.entry.frame write_protected ≡ true
      → slot.writes ≡ false)
      → Closes slots slots (changed set state.changes) (pages_of state.visited state.changes) side state.control.wp write_protected
      state.wrote
  all_closes write_protected bars = record {
    settles = record {
      through = λ page small there.
          serves-same side state.control.wp write_protected (slots page) (λ slot e. bars page slot small e)
          (serving page (gone_through page there))
          ∙ ap (filled_by side state.control.wp write_protected)
          (sym (ap (λ (s : Set). get s page) left ∙ get-entries_of slots page small));
      others = λ page small none. within-refl (slots page);
    };
    unprotected = λ frame there. absurd (let f : false ≡ true = sym (ap (is_among frame) rest.unwritten) ∙ there in cc);
    entries = sym left;
  }

  -- ---- nothing is told

  others_lose : (others : List OtherRoot) → LoseWrites (guest_frames state.tables) (all_spared state.wrote others) others
  others_lose others =
      subst (λ (tables : List ℕ). LoseWrites (guest_frames tables) (all_spared state.wrote others) others) (sym rest.unread)
      (subst (λ (wrote : List ℕ). LoseWrites [] (all_spared wrote others) others) (sym rest.unwritten)
      (subst (λ (xs : List OtherRoot). LoseWrites [] xs others) (sym (none-written others))
      (lose-none others others (same-refl others))))

  unmarked : (stale : Bool) (read_from : ℕ → Bool) → stale ≡ (stale || list_any (read_by read_from state.tables) state.wrote)
  unmarked stale read_from =
      sym (ap (λ (wrote : List ℕ). stale || list_any (read_by read_from state.tables) wrote) rest.unwritten ∙ or-false stale)

  pub none_told : (v : Sight) → Tells state.tables state.wrote v v
  none_told v = record {
    notes = λ frame there. ap (λ (b : Bool). b || is_among frame (guest_frames state.tables)) there;
    marks = unmarked v.stale v.read_from;
    others = others_lose v.other_roots;
  }

  module _ {S : Type 0} (g : shadows.Ghosts S) (s : S) (memory : List ℕ) (is : slots ≡ g.slots s memory) where
    pub rest_settled : Settled g s s memory memory (changed (entries_of (g.slots s memory)) state.changes) state.tables state.wrote (Some 0)
    rest_settled = record {
      entries = sym (ap (changed (entries_of (g.slots s memory))) rest.unchanged);
      at = λ page small. get-entries_of (g.slots s memory) page small;
      noted_is = λ some frame none.
          sym (ap (λ (tables : List ℕ). read_by (g.read_from s) tables frame) rest.unread ∙ or-false (g.read_from s frame));
      marked_is = unmarked (g.stale s) (g.read_from s);
      cr3_is = refl;
      others_are = others_lose (g.other_roots s memory);
    }
