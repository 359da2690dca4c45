-- A step that was settled and ended goes on with what a run knows.
use Rattle.std.proofs.Common.{◌≡◌, ℕ, ◌*◌, ◌^◌, ◌<◌, ◌≤◌, Bool, true, false, List, [], ◌∷◌, ◌++◌, map, length, append_assoc, Option, Some, None, refl, sym, ap, subst, ◌∙◌, inl, inr}
use Rattle.std.proofs.lemmas.Bool.{cases_lt}
use Rattle.std.specs.Option.{ForSome}
use Rattle.std.specs.FinMap.{get, empty}
use Rattle.guest_ram.specs.Among.{is_among}
use Rattle.guest_ram.specs.Bytes.{AreBytes}
use Rattle.paging.specs.Fresh.{has}
use Rattle.paging.specs.Space.{Space}
use Rattle.board.specs.declared.devices.Board.{Board}
use Rattle.descriptors.specs.Controls.{pse_of, wp_of}
use Rattle.descriptors.specs.declared.cpu.Cpu.{Cpu}
use Rattle.shadow_tables.specs.OtherRoot.{IsSame, AreSame}
use Rattle.shadow_tables.specs.Entries.{entries_of}
use Rattle.shadow_tables.specs.Laws.Entries.{get-entries_of, none-entries_of}
use Rattle.shadow_tables.specs.Slots.{Slot, entry_in}
use Rattle.shadow_cache.specs.Reloaded.{coming, staying}
use Rattle.step_mem.specs.Changes.{changed, page_of, AreToldIn}
use Rattle.step_mem.specs.declared.changes.Change.{Change}
use Rattle.wedge_mem.specs.Settled.{pages_of}
use Rattle.machine_model.specs.Reloading.{IsFoundBy}
use Rattle.machine_model.specs.Run.{Set, with_set}
use Rattle.machine_model.specs.State.{Setting, State}
use Rattle.machine_model.specs.Step as steps
use Rattle.machine_model.specs.Step.{Report, Went, Halts, stepped, step_of}
use Rattle.machine_model.specs.Taken.{Taken, is_load, loads_root}
use Rattle.machine_step.specs.declared.worked.Dropped.{Dropped}
use Rattle.machine_step.specs.declared.worked.Dropped.TheVariants as dropped
use Rattle.machine_step.specs.declared.worked.Worked.{Worked}
use Rattle.machine_step.specs.Worked.{completed_by, dropping, went_as}
use Rattle.kept_laws.specs.Judged.{AllFound}
use Rattle.kept_laws.specs.Known.{IsOver, IsStep, RulesStay, ReloadsRoot}
use Rattle.kept_laws.specs.OverSteps.{IsTold, SettlingTells, DroppedComesFrom, Tells, put_under, under_value}
use Rattle.kept_laws.specs.Remembered.{Unwritten, was_read}
use Rattle.wedge_step.specs.Carried.{IsTakenFrom}
use Rattle.wedge_step.specs.Leaving.{RulesSame, Ends}
use Rattle.wedge_step.specs.Ready.{is_all}
use Rattle.shadow_tables.specs.Sight.{Sight}
use Rattle.machine_step.specs.Roots.{RootsAs}
use Rattle.wedge_step.proofs.Shedding.{found_tables}
use Rattle.wedge_step.proofs.AmongPages.{told_among, among_first, changed_other}
use Rattle.wedge_step.proofs.Bools.{clash, none_some, not_true}

-- ---- what a step reported

abbrev pub report_in : Report → steps.Result → Report
report_in other (Went report b) = report
report_in other (Halts stop) = other

abbrev pub state_in : State → steps.Result → State
state_in other (Went report b) = b
state_in other (Halts stop) = other

-- the step of a run is the one that was answered, over this memory
pub record IsAnswer (t : Taken) (w : Worked) (s : Space) : Type 0 where
  pub pages : t.report.pages ≡ s.visited
  pub tables : t.report.tables ≡ s.tables
  pub wrote : t.report.wrote ≡ s.wrote
  pub completed : t.report.completed ≡ completed_by w.completed
  pub cpu : t.after.cpu ≡ w.cpu
  pub ram : t.after.ram ≡ s.ram
  pub set : t.after.set ≡ dropping w.dropped s.set

pub answer_from : (m : Setting) (b : State) (t : Taken) (w : Worked) (board : Board) (s : Space) → IsTakenFrom m b t → t.set ≡ b.set
    → stepped m b ≡ went_as b w board s → IsAnswer t w s
answer_from m b t w board s taken set e =
    let is : Went t.report t.after ≡ went_as b w board s = sym taken.stepped ∙ (ap (λ (x : Set). stepped m (with_set b x)) set ∙ e) in
    let report = ap (report_in t.report) is in
    let state = ap (state_in t.after) is in
    record {
      pages = ap (λ (r : Report). r.pages) report;
      tables = ap (λ (r : Report). r.tables) report;
      wrote = ap (λ (r : Report). r.wrote) report;
      completed = ap (λ (r : Report). r.completed) report;
      cpu = ap (λ (x : State). x.cpu) state;
      ram = ap (λ (x : State). x.ram) state;
      set = ap (λ (x : State). x.set) state;
    }

-- ---- pages that a step used

-- a page that no access went through has the entry that it had
unchanged : (base : Set) (visited : List ℕ) (changes : List Change) → AreToldIn visited changes → (q : ℕ) → is_among q visited ≡ false
    → get (changed base changes) q ≡ get base q
unchanged base visited changes told q out =
    changed_other base changes q (not_true (is_among q (map page_of changes)) (λ c. clash (is_among q visited) (told q c) out))

-- ---- what a step makes of what is kept

all_dropped : (d : Dropped) (set : Set) → is_all d ≡ true → dropping d set ≡ empty
all_dropped dropped.Nothing set e = absurd (let f : false ≡ true = e in cc)
all_dropped (dropped.Page page) set e = absurd (let f : false ≡ true = e in cc)
all_dropped (dropped.Dir index) set e = absurd (let f : false ≡ true = e in cc)
all_dropped dropped.All set e = refl

-- it was given what the step read and wrote
pub told_by : SettlingTells → (t : Taken) (v v' : Sight) (tables wrote : List ℕ) → t.report.tables ≡ tables → t.report.wrote ≡ wrote
    → Tells tables wrote v v' → IsTold t v v'
told_by tells t v v' tables wrote tables_are wrote_are told =
    tells t v v' (subst (λ (l : List ℕ). Tells t.report.tables l v v') (sym wrote_are)
    (subst (λ (l : List ℕ). Tells l wrote v v') (sym tables_are) told))

module _ (tells : SettlingTells) (comes : DroppedComesFrom) (t : Taken) (before : Cpu) (w : Worked) (s : Space) (value : Option ℕ)
    (base : Set) (changes : List Change)
    (a : IsAnswer t w s) (cpu : t.before.cpu ≡ before) (roots : RootsAs before w) (cr3_is : value ≡ Some before.cr3)
    (set : s.set ≡ changed base changes) (base_is : base ≡ t.set)
    (told : AreToldIn s.visited changes) (first : ℕ → Option Slot) (by_first : t.set ≡ entries_of first)
  where
    load_is : loads_root t ≡ is_load (completed_by w.completed)
    load_is = ap is_load a.completed

    rules : RulesStay t → RulesSame before w.cpu
    rules r = (sym (ap wp_of a.cpu) ∙ (r.wp ∙ ap wp_of cpu), sym (ap pse_of a.cpu) ∙ (r.pse ∙ ap pse_of cpu))

    rules_back : RulesSame before w.cpu → RulesStay t
    rules_back r = record { wp = ap wp_of a.cpu ∙ (r.0 ∙ sym (ap wp_of cpu)); pse = ap pse_of a.cpu ∙ (r.1 ∙ sym (ap pse_of cpu)) }

    unused : (q : ℕ) → is_among q t.report.pages ≡ false → is_among q s.visited ≡ false
    unused q e = ap (is_among q) (sym a.pages) ∙ e

    is_used : (q : ℕ) → is_among q t.report.pages ≡ true → is_among q s.visited ≡ true
    is_used q e = ap (is_among q) (sym a.pages) ∙ e

    left : (q : ℕ) → is_among q t.report.pages ≡ false → get s.set q ≡ get t.set q
    left q e = ap (λ (x : Set). get x q) set ∙ (unchanged base s.visited changes told q (unused q e) ∙ ap (λ (x : Set). get x q) base_is)

    pub over : (v v' : Sight) → v.cr3 ≡ value → Ends w.dropped before w.cpu (pages_of s.visited changes) s.tables s.wrote s.set v v'
        → IsOver t v v'
    over v v' is e = record {
      between = e.between;
      told = told_by tells t v e.between s.tables s.wrote a.tables a.wrote e.told;
      through = λ go stay.
          let some : is_all w.dropped ≡ false = not_true (is_all w.dropped) (λ all. roots.all all (sym load_is ∙ go) (rules stay).1) in
          let r = e.through (rules stay) (roots.through (sym load_is ∙ go)) some in
          (r.0, r.1 ∙ sym a.set);
      lost = λ go no. e.lost (λ r. no (rules_back r)) (roots.through (sym load_is ∙ go));
      loaded = λ go. loaded go;
    }
      where
        value_now : v.cr3 ≡ Some t.before.cpu.cr3
        value_now = is ∙ (cr3_is ∙ ap (λ (c : Cpu). Some c.cr3) (sym cpu))

        cr3_now : t.after.cpu.cr3 ≡ w.cpu.cr3
        cr3_now = ap (λ (c : Cpu). c.cr3) a.cpu

        loaded : loads_root t ≡ true → ReloadsRoot t e.between v'
        loaded go =
            let l = roots.load (sym load_is ∙ go) in
            let r = e.loaded (ap (λ (x : ℕ). has x 65536) l.1, ap (λ (x : ℕ). has x 16) l.2) l.0 in
            let x = r.between in
            let value_then : x.cr3 ≡ Some t.before.cpu.cr3 = r.same_cr3 ∙ (e.same_cr3 ∙ value_now) in
            record {
              between = x;
              stay = r.sheds.stay;
              comes = comes t s.set first x.slots by_first left
                  (λ q lt e1. r.sheds.gone q lt (among_first q s.visited (map page_of changes) (is_used q e1)))
                  (λ q lt e1.
                  ap entry_in (r.sheds.others q lt
                  (not_true (is_among q (pages_of s.visited changes))
                  (λ c. clash (is_among q s.visited) (told_among s.visited changes told q c) (unused q e1))))
                  ∙ (sym (get-entries_of e.between.slots q lt) ∙ ap (λ (y : Set). get y q) e.entries));
              loaded = record {
                present =
                    subst (λ (c : ℕ). IsSame (coming c (put_under (Some t.before.cpu.cr3) x)) (under_value c v')) (sym cr3_now)
                    (subst (λ (k : Option ℕ). IsSame (coming w.cpu.cr3 (put_under k x)) (under_value w.cpu.cr3 v')) value_then r.present);
                others =
                    subst (λ (c : ℕ). AreSame (staying c (put_under (Some t.before.cpu.cr3) x)) v'.other_roots) (sym cr3_now)
                    (subst (λ (k : Option ℕ). AreSame (staying w.cpu.cr3 (put_under k x)) v'.other_roots) value_then r.put);
                unmarked = r.unmarked;
              };
            }

    pub a_step : (m : Setting) (b : State) → IsTakenFrom m b t → 4096 * m.frames ≤ length t.before.ram → 4096 * m.frames ≤ length s.ram
        → AreBytes s.ram → IsStep m t
    a_step m b taken room room_after bytes = record {
      went = taken.went;
      room = room;
      room_after = subst (λ (l : List ℕ). 4096 * m.frames ≤ length l) (sym a.ram) room_after;
      bytes = subst AreBytes (sym a.ram) bytes;
      through = λ go. ap (λ (c : Cpu). c.cr3) a.cpu ∙ (roots.through (sym load_is ∙ go) ∙ sym (ap (λ (c : Cpu). c.cr3) cpu));
      emptied = λ no. a.set ∙ all_dropped w.dropped s.set (roots.page_size (λ same. no (ap pse_of a.cpu ∙ (same ∙ sym (ap pse_of cpu)))));
    }

-- ---- what is present was found

pub unwritten_before : (steps : List Taken) (t : Taken) → Unwritten (steps ++ t ∷ []) → Unwritten steps
unwritten_before steps t u front x back e =
    u front x (back ++ t ∷ []) (ap (λ (l : List Taken). l ++ t ∷ []) e ∙ append_assoc front (x ∷ back) (t ∷ []))

-- from the directory in use, by words in frames that walks of the steps read
pub all_found : (m : Setting) (steps : List Taken) (t : Taken) (cpu : Cpu) (ram : List ℕ) (read_from : ℕ → Bool) (stale : Bool)
    (slots : ℕ → Option Slot) → t.before.cpu ≡ cpu → t.before.ram ≡ ram → t.set ≡ entries_of slots
    → (stale ≡ false → (page : ℕ) → page < 2 ^ 20 → ForSome (slots page)
    (λ (slot : Slot). IsFoundBy ram m.frames cpu.cr3 (pse_of cpu) read_from page slot.entry))
    → ((frame : ℕ) → read_from frame ≡ true → was_read steps frame ≡ true) → (Unwritten steps → stale ≡ false) → Unwritten (steps ++ t ∷ [])
    → AllFound m t.before t.before.cpu.cr3 steps t.set
all_found m steps t cpu ram read_from stale slots cpu_is ram_is set_is present read unmarked un page e there =
    let kept : get (entries_of slots) page ≡ Some e = ap (λ (x : Set). get x page) (sym set_is) ∙ there in
    elim (cases_lt page (2 ^ 20)) [
      | inl lt ↦ (lt, by lt (slots page) refl (sym (get-entries_of slots page lt) ∙ kept))
      | inr ge ↦ absurd (none_some e (sym (none-entries_of slots page ge) ∙ kept))
    ]
  where
    by : page < 2 ^ 20 → (o : Option Slot) → slots page ≡ o → entry_in (slots page) ≡ Some e
        → IsFoundBy t.before.ram m.frames t.before.cpu.cr3 (pse_of t.before.cpu) (was_read steps) page e
    by lt None at there = absurd (let x : ◌≡◌ {A = Option _} None (Some e) = sym (ap entry_in at) ∙ there in cc)
    by lt (Some slot) at there =
        let same : slot.entry ≡ e = (let x : Some slot.entry ≡ Some e = sym (ap entry_in at) ∙ there in cc) in
        let here = present (unmarked (unwritten_before steps t un)) page lt slot at in
        let more = found_tables ram m.frames cpu.cr3 (pse_of cpu) read_from (was_read steps) page slot.entry read here in
        let now = subst (λ (c : Cpu). IsFoundBy ram m.frames c.cr3 (pse_of c) (was_read steps) page slot.entry) (sym cpu_is) more in
        let then = subst (λ (l : List ℕ). IsFoundBy l m.frames t.before.cpu.cr3 (pse_of t.before.cpu) (was_read steps) page slot.entry)
        (sym ram_is) now in
        subst (λ x. IsFoundBy t.before.ram m.frames t.before.cpu.cr3 (pse_of t.before.cpu) (was_read steps) page x) same then
