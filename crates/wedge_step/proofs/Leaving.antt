-- What the end of a step makes of what is kept.
use Rattle.std.proofs.Common.{◌≡◌, ℕ, ◌≤◌, List, [], length, Bool, true, false, ◌||◌, not, Option, Some, None, sym, ap, subst, ◌∙◌, arith}
use Rattle.std.specs.Prelude.{MatchOption, is_none}
use Rattle.std.specs.FinMap.{empty}
use Rattle.std.specs.List.{list_any}
use Rattle.frame_pool.specs.Pool.{free_list}
use Rattle.frame_pool.specs.declared.Pool.{Pool}
use Rattle.descriptors.specs.declared.cpu.Cpu.{Cpu}
use Rattle.shadow_tables.specs.OtherRoot.{AreSame, LoseWrites, all_spared}
use Rattle.shadow_tables.specs.Entries.{entries_of}
use Rattle.guest_ram.specs.Among.{is_among}
use Rattle.shadow_tables.proofs.OtherRoots.{same-refl}
use Rattle.shadow_tables.specs.declared.shadows.Shadows as shadows
use Rattle.wedge_mem.specs.Told.{guest_frames, read_by}
use Rattle.machine_model.specs.Run.{Set}
use Rattle.machine_step.specs.declared.worked.Dropped.{Dropped}
use Rattle.machine_step.specs.Worked.{dropping}
use Rattle.kept_laws.specs.OverSteps.{Tells}
use Rattle.wedge_step.specs.Leaving.{Loads, Ends, RulesSame}
use Rattle.wedge_step.specs.Ready.{is_all}
use Rattle.shadow_tables.specs.Sight.{Sight, StaysBeside, EmptiesBeside, sight}

-- the instruction dropped all, and the rules are the same: CR3 was loaded
pub no_way : (changed all : Bool) → changed ≡ false → all ≡ true → (changed || not all) ≡ true → ⊥
no_way true all c a h = let f : true ≡ false = c in cc
no_way false true c a h = let f : false ≡ true = h in cc
no_way false false c a h = let f : false ≡ true = a in cc

-- ---- the same is kept beside what is present

pub stays_by : (v v' : Sight) → ((frame : ℕ) → v'.read_from frame ≡ v.read_from frame) → v'.stale ≡ v.stale
    → AreSame v.other_roots v'.other_roots → StaysBeside v v'
stays_by v v' n m a = record { notes = λ frame h. sym (n frame) ∙ h; marks = λ h. sym m ∙ h; others = a }

-- what was given of a step that was settled
pub tells_by : (v v' : Sight) (tables wrote : List ℕ) (result : Option ℕ)
    → ((frame : ℕ) → v'.read_from frame ≡ true → read_by v.read_from tables frame ≡ true)
    → MatchOption result (v'.stale ≡ true → v.stale ≡ true) (λ n. v'.stale ≡ (v.stale || list_any (read_by v.read_from tables) wrote))
    → MatchOption result (v'.other_roots ≡ []) (λ n. LoseWrites (guest_frames tables) (all_spared wrote v.other_roots) v'.other_roots)
    → is_none result ≡ false → Tells tables wrote v v'
tells_by v v' tables wrote None n m a e = absurd (let f : true ≡ false = e in cc)
tells_by v v' tables wrote (Some k) n m a e = record { notes = n; marks = m; others = a }

pub stays_same : (v : Sight) → StaysBeside v v
stays_same v = record { notes = λ frame h. h; marks = λ h. h; others = same-refl v.other_roots }

-- ---- a load of CR3

module _ {S : Type 0} (g : shadows.Ghosts S) (cr3 : ℕ) (pages : List ℕ) (v' : Sight) where
  -- the same shadows over the same memory were loaded
  pub loads_from : (old mid : S) (memory between : List ℕ) → mid ≡ old → between ≡ memory → Loads cr3 pages (sight g mid between) v'
      → Loads cr3 pages (sight g old memory) v'
  loads_from old mid memory between s m h =
      subst (λ (x : S). Loads cr3 pages (sight g x memory) v') s (subst (λ (r : List ℕ). Loads cr3 pages (sight g mid r) v') m h)

-- and so it is of the same pages in another list
loads_through : (cr3 : ℕ) (pages others : List ℕ) (v v' : Sight) → ((page : ℕ) → is_among page pages ≡ is_among page others)
    → Loads cr3 pages v v' → Loads cr3 others v v'
loads_through cr3 pages others v v' there h = record {
  between = h.between;
  same_cr3 = h.same_cr3;
  sheds = record {
    stay = h.sheds.stay;
    gone = λ page lt is. h.sheds.gone page lt (there page ∙ is);
    others = λ page lt none. h.sheds.others page lt (there page ∙ none);
  };
  present = h.present;
  put = h.put;
  unmarked = h.unmarked;
}

pub same_free : (pool mid : Pool) (memory between : List ℕ) → mid ≡ pool → between ≡ memory → 2 ≤ length (free_list pool memory)
    → 2 ≤ length (free_list mid between)
same_free pool mid memory between p m h =
    let first = ap (λ (x : Pool). length (free_list x between)) p in
    let then = ap (λ (r : List ℕ). length (free_list pool r)) m in
    omega (arith, first, then, h)

-- ---- the end of a step that went

pub ended : (d : Dropped) (before mid after : Cpu) (pages pages1 tables wrote : List ℕ) (set : Set) (v between v' : Sight)
    → mid ≡ before → between.cr3 ≡ v.cr3 → ((page : ℕ) → is_among page pages1 ≡ is_among page pages) → entries_of between.slots ≡ set
    → Tells tables wrote v between
    → (RulesSame mid after → after.cr3 ≡ mid.cr3 → is_all d ≡ false → StaysBeside between v'
    × (entries_of v'.slots ≡ dropping d (entries_of between.slots)))
    → ((RulesSame mid after → ⊥) → after.cr3 ≡ mid.cr3 → EmptiesBeside between v' × (entries_of v'.slots ≡ empty))
    → (RulesSame mid after → is_all d ≡ true → Loads after.cr3 pages1 between v')
    → Ends d before after pages tables wrote set v v'
ended d before mid after pages pages1 tables wrote set v between v' cpu same_cr3 there entries told stay lost loads =
    let cr3 : mid.cr3 ≡ before.cr3 = ap (λ (x : Cpu). x.cr3) cpu in
    record {
      between = between;
      same_cr3 = same_cr3;
      told = told;
      entries = entries;
      through = λ rules same all.
          let k = stay (subst (λ (x : Cpu). RulesSame x after) (sym cpu) rules) (same ∙ sym cr3) all in
          (k.0, k.1 ∙ ap (dropping d) entries);
      lost = λ rules same. lost (λ r. rules (subst (λ (x : Cpu). RulesSame x after) cpu r)) (same ∙ sym cr3);
      loaded = λ rules all.
          loads_through after.cr3 pages1 pages between v' there (loads (subst (λ (x : Cpu). RulesSame x after) (sym cpu) rules) all);
    }
