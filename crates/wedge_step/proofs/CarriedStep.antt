-- What a run carries goes on over a step of its own: one that went and was ended, and one that the host is to do.
use Rattle.std.proofs.Common.{◌≡◌, ℕ, ◌+◌, ◌*◌, ◌/◌, ◌==◌, ◌≤◌, eqb, Bool, true, false, List, [], ◌∷◌, ◌++◌, length, refl, ap, arith}
use Rattle.std.specs.Set.{is_member}
use Rattle.guest_ram.specs.Bytes.{AreBytes}
use Rattle.board.specs.Scripts.{Events}
use Rattle.board.specs.declared.devices.Board.{Board}
use Rattle.frame_pool.specs.Pool.{free_list}
use Rattle.frame_pool.specs.declared.Pool.{Pool}
use Rattle.image_check.specs.Image.{Image}
use Rattle.image_load.specs.Boot.{text_pages}
use Rattle.paging.specs.Space.{Space}
use Rattle.shadow_tables.specs.Entries.{entries_of}
use Rattle.guest_ram.specs.Among.{is_among}
use Rattle.shadow_tables.specs.declared.shadows.Shadows as shadows
use Rattle.step_mem.specs.Changes.{AreToldIn, AreWithin, changed}
use Rattle.step_mem.specs.declared.changes.Change.{Change}
use Rattle.wedge_mem.specs.Settled.{pages_of}
use Rattle.machine_model.specs.Keeping.{Roomy}
use Rattle.machine_model.specs.Run.{Set}
use Rattle.machine_model.specs.State.{State, wedge, wedge_mode}
use Rattle.machine_model.specs.Step.{stepped}
use Rattle.machine_model.specs.Taken.{Taken, is_load}
use Rattle.machine_model.specs.UsedPages.{Uses}
use Rattle.machine_step.specs.declared.worked.Worked.{Worked}
use Rattle.machine_step.specs.Roots.{RootsAs}
use Rattle.machine_step.specs.Worked.{went_as}
use Rattle.native_steps.proofs.Shown.{shown_length}
use Rattle.kept_laws.specs.Carried.{indices_in}
use Rattle.wedge_step.specs.Carried.{IsCarried, IsCarriedBy, IsTakenFrom}
use Rattle.wedge_step.specs.CarryLaws.{KnownLaws}
use Rattle.wedge_step.specs.Closed.{MayClose}
use Rattle.kept_laws.specs.OverSteps.{Tells}
use Rattle.wedge_step.specs.Leaving.{Ends}
use Rattle.wedge_step.specs.Ready.{IsReady}
use Rattle.shadow_tables.specs.Sight.{sight}
use Rattle.wedge_step.specs.Scene.{AreAmple}
use Rattle.wedge_step.specs.Standing.{IsHeld, ground, side_of, state_of}
use Rattle.wedge_step.specs.declared.running.Running.{Running}
use Rattle.wedge_step.proofs.AfterTry.{After, any_script}
use Rattle.wedge_step.proofs.Widening.{Widens}
use Rattle.wedge_step.proofs.Ended.{IsDone, known_went, known_asked, may_close_used, index_used}
use Rattle.wedge_step.proofs.Knowing.{answer_from}

module _ {S : Type 0} (shows : shadows.Ghosts S)
    (widens : Widens shows) (laws : KnownLaws)
    (image : Image) (script : Events) (r : Running S) (pool : Pool) (memory then : List ℕ)
    (held : IsHeld shows (ground image r.frames) r pool memory) (a : After shows image r.frames r.shadows pool memory then)
    (steps : List Taken) (t : Taken) (kept : Set) (ample : AreAmple (length (free_list pool memory)) r.held)
    (roomy : Roomy (steps ++ t ∷ []))
    (taken : IsTakenFrom (wedge image script r.frames) (state_of shows (wedge image script r.frames) r memory) t)
    (by : t.set ≡ entries_of (shows.slots r.shadows memory))
    (carried : IsCarriedBy shows (wedge image script r.frames) steps t.before kept r.shadows memory)
  where
    abbrev b : State
    b = state_of shows (wedge image script r.frames) r memory

    abbrev Lie : List ℕ → List Change → (ℕ → Bool) → Type 0
    Lie visited changes indices = (page : ℕ) → is_among page (pages_of visited changes) ≡ true → indices (page / 1024) ≡ true

    opened_then : shows.has_tables_under r.shadows then (λ index. is_member eqb (indices_in (steps ++ t ∷ [])) index)
    opened_then =
        widens.wider r.shadows then (λ index. is_member eqb (indices_in steps) index)
        (λ index. is_member eqb (indices_in (steps ++ t ∷ [])) index) (laws.grow steps t).0
        (widens.same_tables_under r.shadows memory then (λ index. is_member eqb (indices_in steps) index) held.stand
        a.same carried.opened_to)

    few : length (shows.frames r.shadows memory) ≤ 400
    few =
        let size = widens.sized r.shadows memory (λ index. is_member eqb (indices_in steps) index) (indices_in steps) held.stand
        carried.opened_to (λ index lt is. is) in
        let most = laws.few steps (laws.before steps t roomy) in
        omega (arith, size, most)

    all : AreAmple (length (free_list pool then)) (length (shows.frames r.shadows then))
    all =
        let same = ap length a.free_same in
        let as_many = ap length a.frames_same in
        let counted = held.counted in
        omega (arith, same, as_many, counted, ample)

    enough : (s : S) (m : List ℕ) → ∥ shows.stands s m ∥₁
        → shows.has_tables_under s m (λ index. is_member eqb (indices_in (steps ++ t ∷ [])) index) → length (shows.frames s m)
        + 2 ≤ length (free_list pool then) + length (shows.frames r.shadows then)
    enough s m stand opens =
        let size = widens.sized s m (λ index. is_member eqb (indices_in (steps ++ t ∷ [])) index) (indices_in (steps ++ t ∷ [])) stand opens
        (λ index lt is. is) in
        let most = laws.few (steps ++ t ∷ []) roomy in
        let whole = all in
        omega (arith, size, most, whole)

    done : IsDone shows image script r.frames t b r.shadows memory then
    done = record {
      taken = taken;
      by = by;
      ram = any_script image script r.frames memory;
      set = refl;
      room = (let long = shown_length (ground image r.frames) held.wedge memory held.host in
          let same = ap length (any_script image script r.frames memory) in omega (arith, long, same));
      entries = a.entries_same;
      same = widens.same_other_roots r.shadows memory then held.stand a.same;
    }

    -- what a step's accesses left
    module _ (last : Space) (changes : List Change) (set_is : last.set ≡ changed (entries_of (shows.slots r.shadows then)) changes)
        (told : AreToldIn last.visited changes) (new : S) (after : List ℕ)
        (opens : (indices : ℕ → Bool) → Lie last.visited changes indices → shows.has_tables_under r.shadows then indices
        → shows.has_tables_under new after indices)
      where
        -- of one that went, by what its end says
        pub went_on : (w : Worked) (board : Board) → stepped (wedge image script r.frames) b ≡ went_as b w board last → RootsAs r.cpu w
            → IsReady shows (ground image r.frames) r.cpu r.shadows memory
            → 4096 * r.frames ≤ length last.ram → AreBytes last.ram → (first : Space) (count limit : ℕ) → count ≡ text_pages image
            → Uses (r.cpu.cpl == 3) first last → first.visited ≡ [] → first.mode ≡ wedge_mode image
            → AreWithin limit last.set → length last.visited ≤ 64
            → (MayClose count (side_of (r.cpu.cpl == 3)) last.set (pages_of last.visited changes) (length (free_list pool then))
            → (indices : ℕ → Bool) → Lie last.visited changes indices → shows.has_tables_under r.shadows then indices
            → ((s : S) (m : List ℕ) → ∥ shows.stands s m ∥₁ → shows.has_tables_under s m indices → length (shows.frames s m) + 2 ≤ length
            (free_list pool then) + length (shows.frames r.shadows then))
            → Ends w.dropped r.cpu w.cpu (pages_of last.visited changes) last.tables last.wrote last.set (sight shows r.shadows then)
            (sight shows new after))
            → IsCarried shows (wedge image script r.frames) (steps ++ t ∷ []) t.after new after
        went_on w board went roots ready long bytes first count limit count_is uses none mode within pages ends =
            let answer = answer_from (wedge image script r.frames) b t w board last taken by went in
            let lie = index_used laws.grow steps t last.visited changes answer.pages told in
            let most = few in
            let as_many = ap length a.frames_same in
            let whole = all in
            let may = may_close_used image count limit (length (free_list pool then)) (r.cpu.cpl == 3) first last changes count_is uses none
            mode within told (omega (arith, pages, most, as_many, whole)) in
            record {
              known =
                  known_went shows laws.tells laws.comes laws.still laws.on image script r.frames steps t b kept r.shadows memory
                  then done carried.known (sight shows new after)
                  w board last changes went roots ready set_is told long bytes
                  (ends may (λ index. is_member eqb (indices_in (steps ++ t ∷ [])) index) lie opened_then enough);
              opened_to = opens (λ index. is_member eqb (indices_in (steps ++ t ∷ [])) index) lie opened_then;
            }

        -- of one whose instruction the host is to do
        pub asked_on : t.report.pages ≡ last.visited → t.report.tables ≡ last.tables → t.report.wrote ≡ last.wrote
            → is_load t.report.completed ≡ false
            → (t.after.cpu.cr0 ≡ r.cpu.cr0) × (t.after.cpu.cr3 ≡ r.cpu.cr3) × (t.after.cpu.cr4 ≡ r.cpu.cr4)
            → t.after.set ≡ entries_of (shows.slots new after) → 4096 * r.frames ≤ length t.after.ram → AreBytes t.after.ram
            → Tells last.tables last.wrote (sight shows r.shadows then) (sight shows new after)
            → IsCarried shows (wedge image script r.frames) (steps ++ t ∷ []) t.after new after
        asked_on pages tables wrote load rules set long bytes tells = record {
          known =
              known_asked shows laws.tells laws.comes laws.still laws.on image script r.frames steps t b kept r.shadows memory
              then done carried.known (sight shows new after)
              last.tables last.wrote tables wrote load rules set long bytes tells;
          opened_to = opens (λ index. is_member eqb (indices_in (steps ++ t ∷ [])) index)
              (index_used laws.grow steps t last.visited changes pages told) opened_then;
        }
