-- What comes back with a value of CR3 is what a run may go on with.
use Rattle.std.proofs.Common.{◌≡◌, ◌⊎◌, ℕ, ◌+◌, ◌^◌, ◌<◌, ◌≤◌, List, Bool, true, false, ◌||◌, ◌&&◌, not, Option, Some, None, refl, sym, ap, subst, ◌∙◌, inl, inr, arith}
use Rattle.std.proofs.lemmas.Bool.{cases_lt}
use Rattle.std.specs.Option.{ForSome}
use Rattle.std.specs.FinMap.{get, empty, len}
use Rattle.descriptors.specs.Controls.{pse_of, wp_of}
use Rattle.descriptors.specs.declared.cpu.Cpu.{Cpu}
use Rattle.paging.specs.declared.entry.Entry.{Entry}
use Rattle.shadow_tables.specs.OtherRoot.{OtherRoot}
use Rattle.shadow_tables.specs.Calls.{IsWithin}
use Rattle.shadow_tables.proofs.Lists.{within-same}
use Rattle.shadow_tables.specs.Entries.{entries_of}
use Rattle.shadow_tables.specs.Laws.Entries.{get-entries_of, none-entries_of}
use Rattle.guest_ram.specs.Among.{is_among}
use Rattle.shadow_tables.specs.Slots.{Slot, entry_in}
use Rattle.shadow_tables.specs.declared.shadows.Shadows as shadows
use Rattle.step_mem.specs.Changes.{AreWithin}
use Rattle.machine_step.specs.declared.worked.Dropped.{Dropped}
use Rattle.machine_step.specs.declared.worked.Dropped.TheVariants as dropped
use Rattle.machine_step.specs.Worked.{dropping}
use Rattle.machine_model.specs.Reloading.{IsFoundBy}
use Rattle.machine_model.specs.Run.{Set, with_set}
use Rattle.machine_model.specs.State.{Setting, State, Loosened}
use Rattle.native_steps.specs.Mirrors.{shown}
use Rattle.native_steps.proofs.Walks.{IsWalk, ByTable, Large, walk_parts}
use Rattle.wedge_step.specs.Filled.{pages_of_others}
use Rattle.wedge_step.specs.Parts.{IsPartOf, IsLeft, left_of}
use Rattle.wedge_step.specs.Ready.{AreFound, IsReady, IsReadyBut, is_all, leaving, left_out}
use Rattle.wedge_step.specs.declared.running.Lost.{Lost}
use Rattle.wedge_step.proofs.Bools.{none_some}
use Rattle.wedge_step.proofs.Filling.{part_few}
use Rattle.wedge_step.proofs.Parts.{part_left, part_allowed, part_join, part_within, dropped_part}
use Rattle.wedge_step.proofs.Readying.{all_rules}
use Rattle.wedge_step.proofs.Shedding.{AllShed, shed_pages}

walked_inside : (ram : List ℕ) (frames cr3 : ℕ) (pse : Bool) (page : ℕ) (e : Entry) (d t : ℕ) → IsWalk ram frames cr3 pse page e d t
    → (e.page ≡ page) × (e.frame < frames)
walked_inside ram frames cr3 pse page e d t (ByTable h) =
    (sym (ap (λ (x : Entry). x.page) h.entry_is), subst (λ (x : Entry). x.frame < frames) h.entry_is h.word_in)
walked_inside ram frames cr3 pse page e d t (Large h) =
    (sym (ap (λ (x : Entry). x.page) h.entry_is), subst (λ (x : Entry). x.frame < frames) h.entry_is h.frame_in)

found_inside : (ram : List ℕ) (frames cr3 : ℕ) (pse : Bool) (tables : ℕ → Bool) (page : ℕ) (e : Entry)
    → IsFoundBy ram frames cr3 pse tables page e → (e.page ≡ page) × (e.frame < frames)
found_inside ram frames cr3 pse tables page e f = walked_inside ram frames cr3 pse page (record e { dirty = f.dirty }) f.dir_at f.word_at
    (walk_parts ram frames cr3 pse page (record e { dirty = f.dirty }) f.dir_at f.word_at f.found)

-- the slot that gives a page its entry
slot_there : (slots : ℕ → Option Slot) (page : ℕ) (e : Entry) → get (entries_of slots) page ≡ Some e → (lt : page < 2 ^ 20)
    × ((P : Entry → Type 0) → ForSome (slots page) (λ s. P s.entry) → P e)
slot_there slots page e is =
    elim (cases_lt page (2 ^ 20)) [
      | inl lt ↦ (lt, λ P h. by P (slots page) refl h (sym (get-entries_of slots page lt) ∙ is))
      | inr ge ↦ absurd (none_some e (sym (none-entries_of slots page ge) ∙ is))
    ]
  where
    by : (P : Entry → Type 0) (o : Option Slot) → slots page ≡ o → ForSome (slots page) (λ s. P s.entry)
        → entry_in (slots page) ≡ Some e → P e
    by P None at h x = absurd (none_some e (sym (ap entry_in at) ∙ x))
    by P (Some s) at h x = subst P (let y : Some s.entry ≡ Some e = sym (ap entry_in at) ∙ x in cc) (h s at)

module _ (m : Setting) (cpu : Cpu) (ram : List ℕ) (cr3 : ℕ) (tables : ℕ → Bool) (slots : ℕ → Option Slot)
    (h : AreFound m cpu ram cr3 tables slots) where
  pub all_within : AreWithin m.frames (entries_of slots)
  all_within page e is =
      let s = slot_there slots page e is in
      found_inside ram m.frames cr3 (pse_of cpu) tables page e
      (s.1 (λ x. IsFoundBy ram m.frames cr3 (pse_of cpu) tables page x) (h page s.0))

  pub all_loosened : (n : Setting) (b : State) → n.frames ≡ m.frames → b.ram ≡ ram → b.cpu.cr3 ≡ cr3 → pse_of b.cpu ≡ pse_of cpu
      → Loosened n b (entries_of slots)
  all_loosened n b frames_are ram_is cr3_is pse_is = record {
    each = λ page e is.
        let s = slot_there slots page e is in
        let here = s.1 (λ x. IsFoundBy ram m.frames cr3 (pse_of cpu) tables page x) (h page s.0) in
        let there =
        subst (λ (p : Bool). IsFoundBy b.ram n.frames b.cpu.cr3 p tables page e) (sym pse_is)
        (subst (λ (c : ℕ). IsFoundBy b.ram n.frames c (pse_of cpu) tables page e) (sym cr3_is)
        (subst (λ (r : List ℕ). IsFoundBy r n.frames cr3 (pse_of cpu) tables page e) (sym ram_is)
        (subst (λ (k : ℕ). IsFoundBy ram k cr3 (pse_of cpu) tables page e) (sym frames_are) here))) in
        inr (record {
          page_in = s.0;
          dir_at = there.dir_at;
          word_at = there.word_at;
          dirty = there.dirty;
          found = there.found;
          accessed = there.accessed;
          is_dirty = there.is_dirty;
        });
  }

-- what is left after a step
pub is_left : (m : Setting) (new : State) (whole : Set) (lost : Lost) → (lost.reloaded ≡ false → new.set ≡ left_of lost.after whole)
    → (lost.reloaded ≡ true → Loosened m (with_set new whole) new.set) → IsLeft m new whole lost
is_left m new whole lost exact back = record { allowed = by lost.reloaded refl; exact = exact }
  where
    by : (b : Bool) → lost.reloaded ≡ b → Loosened m (with_set new whole) new.set
    by true e = back e
    by false e = part_allowed m (with_set new whole) new.set (part_left lost.after new.set whole (exact e))

-- and it stands for frames of the guest
pub within_left : (n : ℕ) (slots : ℕ → Option Slot) (d : Dropped) (lost : Lost) (whole : Set)
    → (lost.reloaded ≡ false → entries_of slots ≡ left_of lost.after (dropping d whole)) → AreWithin n whole
    → (lost.reloaded ≡ true → AreWithin n (entries_of slots)) → AreWithin n (entries_of slots)
within_left n slots d lost whole exact within back = by lost.reloaded refl
  where
    by : (b : Bool) → lost.reloaded ≡ b → AreWithin n (entries_of slots)
    by true e = back e
    by false e = part_within n (entries_of slots) whole
        (part_join _ _ _ (part_left lost.after (entries_of slots) (dropping d whole) (exact e)) (dropped_part d whole)) within

-- ---- pages that are kept, counted

pub fewer_pages : (old new : Set) (olds news : List OtherRoot) → IsPartOf new old → AllShed olds news → len new
    + pages_of_others news ≤ len old + pages_of_others olds
fewer_pages old new olds news part shed =
    let few = part_few new old part in
    let same = shed_pages olds news shed in
    omega (arith, few, same)

-- a slot that is gone or as it was
pub some_part : (old new : ℕ → Option Slot) → ((page : ℕ) → page < 2 ^ 20 → (new page ≡ None) ⊎ (new page ≡ old page))
    → IsPartOf (entries_of new) (entries_of old)
some_part old new each = record {
  each = λ page e is.
      elim (cases_lt page (2 ^ 20)) [
        | inl lt ↦ elim (each page lt) [
          | inl none ↦ absurd (none_some e (sym (get-entries_of new page lt ∙ ap entry_in none) ∙ is))
          | inr same ↦ get-entries_of old page lt ∙ (sym (get-entries_of new page lt ∙ ap entry_in same) ∙ is)
        ]
        | inr ge ↦ absurd (none_some e (sym (none-entries_of new page ge) ∙ is))
      ];
}

pub chosen_out : (b : Bool) (new old : Option Slot) → (b ≡ true → new ≡ None) → (new ≡ None) ⊎ (new ≡ old) → (new ≡ None)
    ⊎ ((b ≡ false) × IsWithin new old)
chosen_out true new old gone each = inl (gone refl)
chosen_out false new old gone (inl none) = inl none
chosen_out false new old gone (inr same) = inr (refl, within-same new old same)

-- ---- under the same rules, and with less left out

module _ {S : Type 0} (shows : shadows.Ghosts S) where
  pub rules_but : (out less : ℕ → Bool) (m : Setting) (before after : Cpu) (s : S) (memory : List ℕ) → after.cr3 ≡ before.cr3
      → pse_of after ≡ pse_of before → wp_of after ≡ wp_of before → ((page : ℕ) → less page ≡ false → out page ≡ false)
      → IsReadyBut shows out m before s memory → IsReadyBut shows less m after s memory
  rules_but out less m before after s memory cr3 pse wp fewer h = record {
    cr3_is = h.cr3_is ∙ ap (λ (c : ℕ). Some c) (sym cr3);
    present = λ un page lt o slot e.
        subst (λ (b : Bool). IsFoundBy (shown m memory) m.frames after.cr3 b (shows.read_from s) page slot.entry) (sym pse)
        (subst (λ (c : ℕ). IsFoundBy (shown m memory) m.frames c (pse_of before) (shows.read_from s) page slot.entry) (sym cr3)
        (h.present un page lt (fewer page o) slot e));
    others = all_rules m before after (shown m memory) (shows.other_roots s memory) pse wp h.others;
  }

  -- none of what is present is left out, or nothing is present
  pub through_ready : (out : ℕ → Bool) (m : Setting) (before after : Cpu) (s : S) (memory : List ℕ) → after.cr3 ≡ before.cr3
      → pse_of after ≡ pse_of before → wp_of after ≡ wp_of before
      → ((page : ℕ) → page < 2 ^ 20 → (shows.slots s memory page ≡ None) ⊎ (out page ≡ false)) → IsReadyBut shows out m before s memory
      → IsReady shows m after s memory
  through_ready out m before after s memory cr3 pse wp each h = record {
    cr3_is = h.cr3_is ∙ ap (λ (c : ℕ). Some c) (sym cr3);
    present = λ un page lt o slot e.
        elim (each page lt) [
          | inl none ↦ absurd (none_some slot (sym none ∙ e))
          | inr free ↦
              subst (λ (b : Bool). IsFoundBy (shown m memory) m.frames after.cr3 b (shows.read_from s) page slot.entry) (sym pse)
              (subst (λ (c : ℕ). IsFoundBy (shown m memory) m.frames c (pse_of before) (shows.read_from s) page slot.entry) (sym cr3)
              (h.present un page lt free slot e))
        ];
    others = all_rules m before after (shown m memory) (shows.other_roots s memory) pse wp h.others;
  }

pub left_leaving : (d : Dropped) (pages : List ℕ) (page : ℕ) → is_all d ≡ true → left_out d pages page ≡ false
    → leaving d pages page ≡ false
left_leaving dropped.Nothing pages page a h = refl
left_leaving (dropped.Page gone) pages page a h = absurd (let f : false ≡ true = a in cc)
left_leaving (dropped.Dir index) pages page a h = absurd (let f : false ≡ true = a in cc)
left_leaving dropped.All pages page a h = h

-- ---- what is kept where CR3 was loaded, and where it wasn't

wanted_true : (w : Bool) → not w ≡ false → w ≡ true
wanted_true true e = refl
wanted_true false e = absurd (let f : true ≡ false = e in cc)

-- where all are gone
none_left : (d : Dropped) (old : Set) → left_of (true && not (is_all d)) (dropping d old) ≡ empty
none_left dropped.Nothing old = refl
none_left (dropped.Page page) old = refl
none_left (dropped.Dir index) old = refl
none_left dropped.All old = refl

pub loaded_left : (d : Dropped) (notes_wanted : Bool) (old new : Set) → (notes_wanted ≡ true → new ≡ empty) → not notes_wanted ≡ false
    → new ≡ left_of (true && not (is_all d)) (dropping d old)
loaded_left d notes_wanted old new none w = none (wanted_true notes_wanted w) ∙ sym (none_left d old)

pub through_left : (d : Dropped) (changed : Bool) (old new : Set) → (changed || not (is_all d)) ≡ true
    → (is_all d ≡ false → new ≡ left_of changed (dropping d old)) → (changed ≡ true → new ≡ empty)
    → new ≡ left_of (changed && not (is_all d)) (dropping d old)
through_left d true old new t kept none = none refl ∙ sym (none_left d old)
through_left d false old new t kept none = kept (some d t)
  where
    some : (d : Dropped) → (false || not (is_all d)) ≡ true → is_all d ≡ false
    some dropped.Nothing e = refl
    some (dropped.Page page) e = refl
    some (dropped.Dir index) e = refl
    some dropped.All e = absurd (let f : false ≡ true = e in cc)

-- what may be left out is nothing, or nothing is kept
pub nothing_out : (d : Dropped) (changed : Bool) (pages : List ℕ) (page : ℕ) → (changed || not (is_all d)) ≡ true → (changed ≡ true)
    ⊎ (left_out d pages page ≡ false)
nothing_out d true pages page t = inl refl
nothing_out dropped.Nothing false pages page t = inr refl
nothing_out (dropped.Page gone) false pages page t = inr refl
nothing_out (dropped.Dir index) false pages page t = inr refl
nothing_out dropped.All false pages page t = absurd (let f : false ≡ true = t in cc)

pub out_among : (d : Dropped) (pages : List ℕ) (page : ℕ) → is_among page pages ≡ false → left_out d pages page ≡ false
out_among dropped.Nothing pages page h = refl
out_among (dropped.Page gone) pages page h = refl
out_among (dropped.Dir index) pages page h = refl
out_among dropped.All pages page h = h
