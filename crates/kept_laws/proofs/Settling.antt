-- What shadows say where they are settled on what a step left.
use Rattle.std.proofs.Common.{◌≡◌, ℕ, ◌^◌, ◌<◌, List, [], ◌∷◌, Bool, true, false, cond, not, ◌||◌, ◌==◌, Some, refl, sym, ap, ◌∙◌, ◌⊎◌, inl, inr, arith}
use Rattle.std.proofs.lemmas.Bool.{cases_lt, or_cases}
use Rattle.std.specs.Prelude.{nat_le}
use Rattle.std.specs.List.{Contains, list_any}
use Rattle.std.specs.FinMap.{get}
use Rattle.std.proofs.lemmas.List.Elements.{Contains-append_right}
use Rattle.std.proofs.lemmas.Option.{none-some}
use Rattle.guest_ram.specs.Among.{is_among}
use Rattle.paging.specs.declared.entry.Entry.{Entry}
use Rattle.shadow_tables.specs.Slots.{entry_in}
use Rattle.shadow_tables.specs.Entries.{entries_of}
use Rattle.shadow_tables.specs.Laws.Entries.{get-entries_of, none-entries_of}
use Rattle.wedge_mem.specs.Told.{guest_frames, read_by}
use Rattle.machine_model.specs.Run.{Set}
use Rattle.machine_model.specs.Taken.{Taken}
use Rattle.kept_laws.specs.OverSteps.{IsNotedBy, SettlingTells, DroppedComesFrom}

-- ---- frames that were read as tables

guest_any : (frame : ℕ) (tables : List ℕ) → is_among frame (guest_frames tables) ≡ true → is_among frame tables ≡ true
guest_any frame [] h = h
guest_any frame (t ∷ ts) h = by (nat_le 16384 t) (guest_any frame ts) h
  where
    both : (b : Bool) → (is_among frame (guest_frames ts) ≡ true → is_among frame ts ≡ true)
        → (b || is_among frame (guest_frames ts)) ≡ true → (b || is_among frame ts) ≡ true
    both true k e = refl
    both false k e = k e

    by : (b : Bool) → (is_among frame (guest_frames ts) ≡ true → is_among frame ts ≡ true)
        → is_among frame (cond (not b) (t ∷ guest_frames ts) (guest_frames ts)) ≡ true → is_among frame (t ∷ ts) ≡ true
    by true k h = or_last (frame == t) (is_among frame ts) (k h)
      where
        or_last : (a b : Bool) → b ≡ true → (a || b) ≡ true
        or_last true b e = refl
        or_last false b e = e
    by false k h = both (frame == t) k h

noted_by : (read_from : ℕ → Bool) (t : Taken) (frame : ℕ) → read_by read_from t.report.tables frame ≡ true → IsNotedBy read_from t frame
noted_by read_from t frame e = elim (or_cases (read_from frame) (is_among frame (guest_frames t.report.tables)) e)
    [ inl a ↦ inl a | inr b ↦ inr (guest_any frame t.report.tables b) ]

one_of : (test : ℕ → Bool) (wrote : List ℕ) → list_any test wrote ≡ true → (frame : ℕ) × Contains wrote frame × (test frame ≡ true)
one_of test [] e = absurd (let f : false ≡ true = e in cc)
one_of test (f ∷ fs) e = by (or_cases (test f) (list_any test fs) e) (one_of test fs)
  where
    by : (test f ≡ true) ⊎ (list_any test fs ≡ true) → (list_any test fs ≡ true → (frame : ℕ) × Contains fs frame × (test frame ≡ true))
        → (frame : ℕ) × Contains (f ∷ fs) frame × (test frame ≡ true)
    by (inl a) k = (f, (0, omega arith, refl), a)
    by (inr b) k = let h = k b in (h.0, Contains-append_right (f ∷ []) fs h.0 h.1, h.2)

pub settling_tells : SettlingTells
settling_tells t v v' told = record {
  frames = guest_frames t.report.tables;
  notes = λ frame e. noted_by v.read_from t frame (told.notes frame e);
  marks = λ e. elim (or_cases v.stale (list_any (read_by v.read_from t.report.tables) t.report.wrote) (sym told.marks ∙ e)) [
    | inl a ↦ inl a
    | inr b ↦ let h = one_of (read_by v.read_from t.report.tables) t.report.wrote b in inr (h.0, h.1, noted_by v.read_from t h.0 h.2)
  ];
  others = told.others;
}

-- ---- what is kept before a load

pub dropped_comes_from : DroppedComesFrom
dropped_comes_from t whole first slots is_first same gone stays = record { has = has; only = only }
  where
    has : (page : ℕ) (e : Entry) → get t.set page ≡ Some e → is_among page t.report.pages ≡ false → get (entries_of slots) page ≡ Some e
    has page e is unused = elim (cases_lt page (2 ^ 20)) [
      | inl l ↦ get-entries_of slots page l ∙ (stays page l unused ∙ (same page unused ∙ is))
      | inr g ↦ absurd (none-some e (sym (ap (λ (x : Set). get x page) is_first ∙ none-entries_of first page g) ∙ is))
    ]

    kept : (page : ℕ) (e : Entry) → page < 2 ^ 20 → (b : Bool) → is_among page t.report.pages ≡ b → entry_in (slots page) ≡ Some e
        → get t.set page ≡ Some e
    kept page e l true used is = absurd (none-some e (sym (ap entry_in (gone page l used)) ∙ is))
    kept page e l false unused is = sym (same page unused) ∙ (sym (stays page l unused) ∙ is)

    only : (page : ℕ) (e : Entry) → get (entries_of slots) page ≡ Some e → get t.set page ≡ Some e
    only page e is = elim (cases_lt page (2 ^ 20)) [
      | inl l ↦ kept page e l (is_among page t.report.pages) refl (sym (get-entries_of slots page l) ∙ is)
      | inr g ↦ absurd (none-some e (sym (none-entries_of slots page g) ∙ is))
    ]
