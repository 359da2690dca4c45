-- What is kept may be used again: after drops, fills and loads of CR3.
use Rattle.std.proofs.Common.{◌≡◌, ◌⊎◌, ℕ, ◌^◌, ◌<◌, ◌≤◌, List, [], ◌∷◌, Bool, true, false, Option, Some, None, refl, sym, ap, subst, ◌∙◌, inl, inr, arith}
use Rattle.std.specs.Option.{ForSome}
use Rattle.std.specs.FinMap.{get, empty, len}
use Rattle.std.specs.List.{list_any}
use Rattle.descriptors.specs.Controls.{pse_of, wp_of}
use Rattle.descriptors.specs.declared.cpu.Cpu.{Cpu}
use Rattle.image_check.specs.Image.{Image}
use Rattle.paging.specs.declared.entry.Entry.{Entry}
use Rattle.shadow_tables.specs.OtherRoot.{OtherRoot, IsSame, AreSame, all_spared}
use Rattle.shadow_tables.specs.Calls.{IsWithin}
use Rattle.shadow_tables.specs.Entries.{entries_of}
use Rattle.shadow_tables.specs.Laws.Entries.{entries_of-none, entries_of-same}
use Rattle.shadow_tables.specs.Slots.{Slot, entry_in}
use Rattle.shadow_tables.specs.declared.shadows.Shadows as shadows
use Rattle.shadow_cache.specs.Reloaded.{put_by, begun_root, coming, staying}
use Rattle.machine_model.specs.Reloading.{IsFoundBy}
use Rattle.machine_model.specs.Run.{Set}
use Rattle.machine_model.specs.State.{Setting}
use Rattle.native_steps.specs.Mirrors.{shown}
use Rattle.wedge_mem.specs.Told.{read_by}
use Rattle.wedge_step.specs.Filled.{pages_of_others, pages_kept}
use Rattle.wedge_step.specs.Ready.{IsFoundIn, AreFound, IsReadyRoot, AreReady, AllOpen, IsReadyBut, IsReady, IsReadyBehind}
use Rattle.wedge_step.specs.Standing.{AreOpen}
use Rattle.wedge_step.proofs.Bools.{none_some}
use Rattle.wedge_step.proofs.Shedding.{some_within, found_tables, AllShed, same_shed, shed_pages, all_ready_shed, ready_spared, loaded_pages, put_by_pages, Each, each_coming, each_staying, coming_value, begun_ready, ready_each, each_ready, open_each}
use Rattle.wedge_step.proofs.Opening.{none_open, same_open}

-- a slot from the entry that the set gives the page
pub by_entry : (P : Entry → Type 0) (o : Option Slot) (e : Option Entry) → e ≡ entry_in o → ForSome e P → ForSome o (λ s. P s.entry)
by_entry P None e is h = λ slot x. absurd (none_some slot x)
by_entry P (Some s) e is h = λ slot x. h slot.entry (is ∙ ap entry_in x)

-- under the same rules
pub rules_ready : (m : Setting) (before after : Cpu) (ram : List ℕ) (a : OtherRoot) → pse_of after ≡ pse_of before
    → wp_of after ≡ wp_of before → IsReadyRoot m before ram a → IsReadyRoot m after ram a
rules_ready m before after ram a pse wp h = record {
  found =
      λ page lt slot e. subst (λ (b : Bool). IsFoundBy ram m.frames a.cr3 b a.tables page slot.entry) (sym pse) (h.found page lt slot e);
  open_to = subst (λ (w : Bool). AreOpen m.image w a.slots) (sym wp) h.open_to;
}

pub all_rules : (m : Setting) (before after : Cpu) (ram : List ℕ) (other_roots : List OtherRoot) → pse_of after ≡ pse_of before
    → wp_of after ≡ wp_of before → AreReady m before ram other_roots → AreReady m after ram other_roots
all_rules m before after ram [] pse wp h = tt
all_rules m before after ram (a ∷ other_roots) pse wp h =
    (rules_ready m before after ram a pse wp h.0, all_rules m before after ram other_roots pse wp h.1)

module _ {S : Type 0} (shows : shadows.Ghosts S) where
  -- ---- nothing is kept

  pub none_ready : (out : ℕ → Bool) (m : Setting) (cpu : Cpu) (s : S) (memory : List ℕ) → shows.cr3 s ≡ Some cpu.cr3
      → ((page : ℕ) → page < 2 ^ 20 → shows.slots s memory page ≡ None) → shows.other_roots s memory ≡ []
      → IsReadyBut shows out m cpu s memory
  none_ready out m cpu s memory is none alone = record {
    cr3_is = is;
    present = λ un page lt o slot e. absurd (none_some slot (sym (none page lt) ∙ e));
    others = subst (AreReady m cpu (shown m memory)) (sym alone) tt;
  }

  pub none_pages : (s : S) (memory : List ℕ) → entries_of (shows.slots s memory) ≡ empty → shows.other_roots s memory ≡ []
      → pages_kept shows s memory ≡ 0
  none_pages s memory is alone =
      let a = ap (λ (set : Set). len set) is ∙ Rattle.std.specs.FinMap.len-empty Rattle.std.specs.Ordering.nat_cmp Entry in
      let b = ap pages_of_others alone in
      omega (arith, a, b)

  -- ---- less is kept

  pub fewer_ready : (out less : ℕ → Bool) (m : Setting) (cpu : Cpu) (old new : S) (memory then : List ℕ)
      → shows.cr3 new ≡ shows.cr3 old → (shows.stale new ≡ false → shows.stale old ≡ false)
      → ((f : ℕ) → shows.read_from old f ≡ true → shows.read_from new f ≡ true)
      → ((page : ℕ) → page < 2 ^ 20 → less page ≡ false → (shows.slots new then page ≡ None)
      ⊎ ((out page ≡ false) × IsWithin (shows.slots new then page) (shows.slots old memory page)))
      → AllShed (shows.other_roots old memory) (shows.other_roots new then) → shown m then ≡ shown m memory
      → IsReadyBut shows out m cpu old memory → IsReadyBut shows less m cpu new then
  fewer_ready out less m cpu old new memory then same unmarked wider each shed ram h = record {
    cr3_is = same ∙ h.cr3_is;
    present = λ un page lt o. by un page lt (each page lt o);
    others = subst (λ (r : List ℕ). AreReady m cpu r (shows.other_roots new then)) (sym ram)
        (all_ready_shed m cpu (shown m memory) (shows.other_roots old memory) (shows.other_roots new then) shed h.others);
  }
    where
      by : shows.stale new ≡ false → (page : ℕ) → page < 2 ^ 20 → (shows.slots new then page ≡ None)
          ⊎ ((out page ≡ false) × IsWithin (shows.slots new then page) (shows.slots old memory page))
          → ForSome (shows.slots new then page) (IsFoundIn m cpu (shown m then) cpu.cr3 (shows.read_from new) page)
      by un page lt (inl none) = λ slot e. absurd (none_some slot (sym none ∙ e))
      by un page lt (inr k) =
          let P = λ (e : Entry). IsFoundBy (shown m then) m.frames cpu.cr3 (pse_of cpu) (shows.read_from new) page e in
          some_within P (shows.slots new then page) (shows.slots old memory page) k.1 (λ slot e.
          subst (λ (r : List ℕ). IsFoundBy r m.frames cpu.cr3 (pse_of cpu) (shows.read_from new) page slot.entry) (sym ram)
          (found_tables (shown m memory) m.frames cpu.cr3 (pse_of cpu) (shows.read_from old) (shows.read_from new) page slot.entry wider
          (h.present (unmarked un) page lt k.0 slot e)))

  -- ---- after the accesses of a step

  -- all that the step left is kept
  pub settled_ready : (out : ℕ → Bool) (m : Setting) (cpu : Cpu) (old new : S) (memory then : List ℕ) (set : Set) (tables wrote : List ℕ)
      → shows.cr3 new ≡ shows.cr3 old
      → (shows.stale new ≡ false → (shows.stale old ≡ false) × (list_any (read_by (shows.read_from old) tables) wrote ≡ false))
      → (shows.stale new ≡ false → (page : ℕ) → page < 2 ^ 20 → (e : Entry) → IsFoundBy (shown m memory) m.frames cpu.cr3 (pse_of cpu)
      (read_by (shows.read_from old) tables) page e → IsFoundBy (shown m memory) m.frames cpu.cr3 (pse_of cpu) (shows.read_from new) page e)
      → ((page : ℕ) → page < 2 ^ 20 → get set page ≡ entry_in (shows.slots new then page))
      → AllShed (all_spared wrote (shows.other_roots old memory)) (shows.other_roots new then) → shown m then ≡ shown m memory
      → IsReadyBehind shows out m cpu old memory set tables wrote → IsReadyBut shows out m cpu new then
  settled_ready out m cpu old new memory then set tables wrote same unmarked wider at shed ram h = record {
    cr3_is = same ∙ h.cr3_is;
    present = λ un page lt o.
        let u = unmarked un in
        let P = λ (e : Entry). IsFoundBy (shown m then) m.frames cpu.cr3 (pse_of cpu) (shows.read_from new) page e in
        by_entry P (shows.slots new then page) (get set page) (at page lt) (λ e is.
        subst (λ (r : List ℕ). IsFoundBy r m.frames cpu.cr3 (pse_of cpu) (shows.read_from new) page e) (sym ram)
        (wider un page lt e (h.present u.0 u.1 page lt o e is)));
    others = subst (λ (r : List ℕ). AreReady m cpu r (shows.other_roots new then)) (sym ram)
        (all_ready_shed m cpu (shown m memory) (all_spared wrote (shows.other_roots old memory)) (shows.other_roots new then) shed
        (ready_spared m cpu (shown m memory) wrote (shows.other_roots old memory) h.others));
  }

  -- ---- a load of CR3

  put_ready : (m : Setting) (cpu : Cpu) (s : S) (memory : List ℕ) → AreOpen m.image (wp_of cpu) (shows.slots s memory)
      → IsReady shows m cpu s memory
      → AreReady m cpu (shown m memory)
      (put_by (shows.cr3 s) (shows.stale s) (shows.read_from s) (shows.slots s memory) (shows.other_roots s memory))
  put_ready m cpu s memory has_tables_under h = by (shows.cr3 s) h.cr3_is (shows.stale s) refl
    where
      by : (v : Option ℕ) → v ≡ Some cpu.cr3 → (b : Bool) → shows.stale s ≡ b
          → AreReady m cpu (shown m memory) (put_by v b (shows.read_from s) (shows.slots s memory) (shows.other_roots s memory))
      by None e b is = h.others
      by (Some cr3) e true is = h.others
      by (Some cr3) e false is = (
        record {
          found =
              λ page lt slot x. subst (λ (c : ℕ). IsFoundBy (shown m memory) m.frames c (pse_of cpu) (shows.read_from s) page slot.entry)
              (let k : cr3 ≡ cpu.cr3 = cc in sym k) (h.present is page lt refl slot x);
          open_to = has_tables_under;
        },
        h.others,
      )

  put_open : (image : Image) (wp : Bool) (s : S) (memory : List ℕ) → AreOpen image wp (shows.slots s memory)
      → AllOpen image wp (shows.other_roots s memory)
      → AllOpen image wp (put_by (shows.cr3 s) (shows.stale s) (shows.read_from s) (shows.slots s memory) (shows.other_roots s memory))
  put_open image wp s memory has_tables_under h = by (shows.cr3 s) (shows.stale s)
    where
      by : (v : Option ℕ) (b : Bool) → AllOpen image wp (put_by v b (shows.read_from s) (shows.slots s memory) (shows.other_roots s memory))
      by None b = h
      by (Some cr3) true = h
      by (Some cr3) false = (has_tables_under, h)

  put_none : (s : S) (memory : List ℕ) → ((page : ℕ) → page < 2 ^ 20 → shows.slots s memory page ≡ None) → shows.other_roots s memory ≡ []
      → Each (λ (a : OtherRoot). (page : ℕ) → page < 2 ^ 20 → a.slots page ≡ None)
      (put_by (shows.cr3 s) (shows.stale s) (shows.read_from s) (shows.slots s memory) (shows.other_roots s memory))
  put_none s memory none alone = by (shows.cr3 s) (shows.stale s)
    where
      P : OtherRoot → Type 0
      P a = (page : ℕ) → page < 2 ^ 20 → a.slots page ≡ None

      nothing : Each P (shows.other_roots s memory)
      nothing = subst (Each P) (sym alone) tt

      by : (v : Option ℕ) (b : Bool) → Each P (put_by v b (shows.read_from s) (shows.slots s memory) (shows.other_roots s memory))
      by None b = nothing
      by (Some cr3) true = nothing
      by (Some cr3) false = (none, nothing)

  -- what is present and beside it, once a value is loaded
  pub record Switched (cr3 : ℕ) (old new : S) (memory then : List ℕ) : Type 0 where
    pub cr3_is : shows.cr3 new ≡ Some cr3
    pub present : IsSame (coming cr3
        (put_by (shows.cr3 old) (shows.stale old) (shows.read_from old) (shows.slots old memory) (shows.other_roots old memory)))
        (record { cr3 = cr3; tables = shows.read_from new; slots = shows.slots new then })
    pub beside : AreSame (staying cr3
        (put_by (shows.cr3 old) (shows.stale old) (shows.read_from old) (shows.slots old memory) (shows.other_roots old memory)))
        (shows.other_roots new then)

  module _ (cr3 : ℕ) (old new : S) (memory then : List ℕ) (s : Switched cr3 old new memory then) where
    abbrev put : List OtherRoot
    put = put_by (shows.cr3 old) (shows.stale old) (shows.read_from old) (shows.slots old memory) (shows.other_roots old memory)

    pub loaded_ready : (m : Setting) (before after : Cpu) → after.cr3 ≡ cr3 → pse_of after ≡ pse_of before → wp_of after ≡ wp_of before
        → shown m then ≡ shown m memory → AreOpen m.image (wp_of before) (shows.slots old memory)
        → IsReady shows m before old memory
        → IsReady shows m after new then × AreFound m after (shown m then) cr3 (shows.read_from new) (shows.slots new then)
    loaded_ready m before after is pse wp ram has_tables_under h =
        let all = ready_each m after (shown m memory) put
        (all_rules m before after (shown m memory) put pse wp (put_ready m before old memory has_tables_under h)) in
        let here = each_coming (IsReadyRoot m after (shown m memory)) cr3 put (begun_ready m after (shown m memory) cr3) all in
        let others =
        each_ready m after (shown m memory) (staying cr3 put) (each_staying (IsReadyRoot m after (shown m memory)) cr3 put all) in
        let found : AreFound m after (shown m then) cr3 (shows.read_from new) (shows.slots new then) =
        (λ page lt slot e.
        subst (λ (r : List ℕ). IsFoundBy r m.frames cr3 (pse_of after) (shows.read_from new) page slot.entry) (sym ram)
        (found_tables (shown m memory) m.frames cr3 (pse_of after) (coming cr3 put).tables (shows.read_from new) page slot.entry
        (λ f t. s.present.tables f ∙ t)
        (subst (λ (c : ℕ). IsFoundBy (shown m memory) m.frames c (pse_of after) (coming cr3 put).tables page slot.entry)
        (coming_value cr3 put) (here.found page lt slot (sym (s.present.slots page lt) ∙ e))))) in (
          record {
            cr3_is = s.cr3_is ∙ ap (λ (c : ℕ). Some c) (sym is);
            present =
                λ un page lt o slot e. subst (λ (c : ℕ). IsFoundBy (shown m then) m.frames c (pse_of after) (shows.read_from new) page
                slot.entry) (sym is) (found page lt slot e);
            others = subst (λ (r : List ℕ). AreReady m after r (shows.other_roots new then)) (sym ram)
                (all_ready_shed m after (shown m memory) (staying cr3 put) (shows.other_roots new then)
                (same_shed (staying cr3 put) (shows.other_roots new then) s.beside) others);
          },
          found,
        )

    pub loaded_shows : (image : Image) (wp : Bool) → AreOpen image wp (shows.slots old memory)
        → AllOpen image wp (shows.other_roots old memory) → AreOpen image wp (shows.slots new then)
    loaded_shows image wp has_tables_under h =
        let P = λ (a : OtherRoot). AreOpen image wp a.slots in
        let here = each_coming P cr3 put (none_open image wp (begun_root cr3).slots (λ page lt. refl))
        (open_each image wp put (put_open image wp old memory has_tables_under h)) in
        same_open image wp (coming cr3 put).slots (shows.slots new then) s.present.slots here

    pub loaded_fewer : pages_kept shows new then ≤ pages_kept shows old memory
    loaded_fewer =
        let here = ap (λ (set : Set). len set) (entries_of-same (coming cr3 put).slots (shows.slots new then) s.present.slots) in
        let beside =
        shed_pages (staying cr3 put) (shows.other_roots new then) (same_shed (staying cr3 put) (shows.other_roots new then) s.beside) in
        let all = loaded_pages cr3 put in
        let few =
        put_by_pages (shows.cr3 old) (shows.stale old) (shows.read_from old) (shows.slots old memory) (shows.other_roots old memory) in
        omega (arith, here, beside, all, few)

    pub loaded_none : ((page : ℕ) → page < 2 ^ 20 → shows.slots old memory page ≡ None) → shows.other_roots old memory ≡ []
        → entries_of (shows.slots new then) ≡ empty
    loaded_none none alone =
        let here = each_coming (λ (a : OtherRoot). (page : ℕ) → page < 2 ^ 20 → a.slots page ≡ None) cr3 put (λ page lt. refl)
        (put_none old memory none alone) in
        entries_of-none (shows.slots new then) (λ page lt. s.present.slots page lt ∙ here page lt)
