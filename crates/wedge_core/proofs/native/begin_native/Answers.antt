use Rattle.std.proofs.Common.{◌≡◌, ℕ, ◌+◌, ◌*◌, ◌≤◌, ◌<◌, ◌^◌, eqb, Bool, true, false, List, [], ◌∷◌, ◌++◌, length, Result, Ok, Err, refl, ap, sym, ◌∙◌, subst, arith}
use Rattle.std.specs.Set.{is_member}
use Rattle.guest_ram.specs.Bytes.{AreBytes}
use Rattle.frame_pool.specs.Pool.{free_list}
use Rattle.ia32_types.specs.declared.stop.Stop.{Stop}
use Rattle.board.specs.Scripts.{Events}
use Rattle.image_check.specs.Image.{Image}
use Rattle.shadow_tables.specs.Entries.{entries_of}
use Rattle.shadow_tables.specs.Sight.{sight}
use Rattle.machine_model.specs.Keeping.{Roomy}
use Rattle.machine_model.specs.Run.{Set, with_set}
use Rattle.machine_model.specs.Step.{stepped}
use Rattle.machine_model.specs.Taken.{Taken, is_load}
use Rattle.kept_laws.specs.Carried.{indices_in}
use Rattle.wedge_step.specs.Carried.{IsCarried, IsCarriedBy, IsTakenFrom}
use Rattle.wedge_step.specs.Scene.{AreAmple, scene}
use Rattle.wedge_core.specs.declared.native.Attempt.{Attempt}
use Rattle.wedge_core.specs.declared.native.Attempt.TheVariants as attempt
use Rattle.wedge_core.proofs.native.begin_native.Given.{Over}
use Rattle.machine_model.specs.State.{Setting, State, wedge}
use Rattle.wedge_core.specs.Attempts.{AttemptAs, WhereAsked, WhereStepped}
use Rattle.wedge_step.specs.Parts.{left_of}
use Rattle.wedge_step.specs.Standing.{IsAble, IsHeld, ground, set_of, state_of}
use Rattle.wedge_core.specs.Views.{may_run, view_by}
use Rattle.wedge_step.specs.declared.running.Running.{Running}
use Rattle.std.specs.Prelude.{OnOk}
use Rattle.wedge_step.specs.Clashing.{IsClear}
use Rattle.wedge_step.specs.Filled.{CountsFills, pages_kept}
use Rattle.wedge_step.specs.Ready.{IsReady}
use Rattle.wedge_core.proofs.Before.{attempt_before}
use Rattle.wedge_core.proofs.Staying.{stays_from}
use Rattle.wedge_step.proofs.Filling.{fills_join, fills_fewer}
use Rattle.wedge_step.proofs.Keeping.{keeps_join, keeps_moves}
use Rattle.wedge_step.proofs.Memories.{shown_same}
use Rattle.wedge_core.proofs.native.begin_native.Goals as goal

pub try_once-requires-clause-ready : goal.try_once-requires-clause-ready
try_once-requires-clause-ready g c =
    let running = c.args.running.now in
    let mid = c.make_room.new.running in
    subst (λ (k : ℕ). IsReady g.S.Shadows (ground c.args.image.now k) mid.cpu mid.shadows c.make_room.new.ram)
    (sym (ap (λ (r : Running g.row.S.Denot). r.frames) c.make_room.ensures.same))
    (c.make_room.ensures.beside.ready (ground c.args.image.now running.frames) refl c.requires.between.ready)

-- ---- what the run knows goes on
where_stepped : {P Q : Type 0} (r : Result Attempt Stop) → (P → Q) → WhereStepped r P → WhereStepped r Q
where_stepped (Ok (attempt.Stepped seen)) f h = f h
where_stepped (Ok attempt.Asked) f h = tt
where_stepped (Err stop) f h = tt

where_asked : {P Q : Type 0} (r : Result Attempt Stop) → (P → Q) → WhereAsked r P → WhereAsked r Q
where_asked (Ok attempt.Asked) f h = f h
where_asked (Ok (attempt.Stepped seen)) f h = tt
where_asked (Err stop) f h = tt

module _ (g : Over) (c : goal.After-try_once g) where
  abbrev running : Running g.row.S.Denot
  running = c.args.running.now

  abbrev image : Image
  image = c.args.image.now

  abbrev ram0 : List ℕ
  ram0 = c.args.ram.now

  abbrev ram1 : List ℕ
  ram1 = c.make_room.new.ram

  abbrev mid : Running g.row.S.Denot
  mid =
      record running { shadows = c.make_room.new.running.shadows; held = c.make_room.new.running.held; lost = c.make_room.new.running.lost }

  module _ (script : Events) where
    abbrev m : Setting
    m = wedge image script running.frames

    abbrev b : State
    b = state_of g.S.Shadows m running ram0

    abbrev d : State
    d = state_of g.S.Shadows m mid ram1

    taken_there : (t : Taken) → IsTakenFrom m b t → IsTakenFrom m d t
    taken_there t taken =
        let same = shown_same m ram0 ram1 c.make_room.ensures.beside.guest in
        record {
          cpu = taken.cpu;
          ram = taken.ram ∙ sym same;
          went = taken.went;
          stepped = (λ i. stepped m (record b { ram = same i; set = t.set })) ∙ taken.stepped;
        }

    by_there : (t : Taken) → t.set ≡ left_of c.try_once.new.running.lost.before b.set → t.set ≡ d.set
    by_there t by = by ∙ (ap (λ (x : Bool). left_of x b.set) c.try_once.ensures.tries.before ∙ sym c.make_room.ensures.left)

    module _ (steps : List Taken) (t : Taken) (ample : AreAmple (length (free_list c.args.pool.now ram0)) running.held)
        (roomy : Roomy (steps ++ t ∷ []))
        (carried : IsCarried g.S.Shadows m steps t.before running.shadows ram0)
      where
        room : 8 ≤ length (free_list c.args.pool.now ram0)
        room =
            let size = g.met.S.Reloads.sized running.shadows ram0 (λ index. is_member eqb (indices_in steps) index) (indices_in steps)
            c.requires.between.held.stand carried.opened_to (λ index lt is. is) in
            let few = c.known_laws.ensures.few steps (c.known_laws.ensures.before steps t roomy) in
            let counted = c.requires.between.held.counted in
            omega (arith, size, few, counted, ample)

        ample_there : AreAmple (length (free_list c.make_room.new.pool ram1)) mid.held
        ample_there =
            let lengths = c.make_room.ensures.moves.lengths in
            let before = c.requires.between.held.counted in
            let after = c.make_room.ensures.held.counted in
            omega (arith, lengths, before, after, ample)

        carried_there : IsCarriedBy g.S.Shadows m steps t.before (entries_of (g.S.Shadows.slots running.shadows ram0)) mid.shadows ram1
        carried_there = record {
          known = c.known_laws.ensures.still m steps t.before (sight g.S.Shadows running.shadows ram0) (sight g.S.Shadows mid.shadows ram1)
              (entries_of (g.S.Shadows.slots running.shadows ram0)) (c.make_room.ensures.stay room) carried.known;
          opened_to = c.make_room.ensures.beside.has_tables_under (λ index. is_member eqb (indices_in steps) index) carried.opened_to;
        }

  -- what a try says, from there
  abbrev Carries : Running g.row.S.Denot → Events → List Taken → Taken → Type 0
  Carries r script steps t =
      (set : Set) → IsCarriedBy g.S.Shadows (wedge image script r.frames) steps t.before set r.shadows ram1
      → IsCarried g.S.Shadows (wedge image script r.frames) (steps ++ t ∷ []) t.after c.try_once.new.running.shadows c.try_once.new.ram

  abbrev IsTaken : Running g.row.S.Denot → Events → List Taken → Taken → Type 0 → Type 0
  IsTaken r script steps t fact =
      c.args.notes_wanted ≡ false → AreAmple (length (free_list c.make_room.new.pool ram1)) r.held → Roomy (steps ++ t ∷ [])
      → IsTakenFrom (wedge image script r.frames) (state_of g.S.Shadows (wedge image script r.frames) r ram1) t
      → t.set ≡ set_of g.S.Shadows r ram1 → fact

  tried : WhereStepped c.try_once.result
      ((script : Events) (steps : List Taken) (t : Taken) → IsTaken mid script steps t (Carries mid script steps t))
  tried =
      subst (λ (r : Running g.row.S.Denot). WhereStepped c.try_once.result
      ((script : Events) (steps : List Taken) (t : Taken) → IsTaken r script steps t (Carries r script steps t))) c.make_room.ensures.same
      c.try_once.ensures.tries.carried

  abbrev Does : Running g.row.S.Denot → Taken → Type 0 → Type 0
  Does r t fact =
      is_load t.report.completed ≡ false → (t.after.cpu.cr0 ≡ r.cpu.cr0) × (t.after.cpu.cr3 ≡ r.cpu.cr3) × (t.after.cpu.cr4 ≡ r.cpu.cr4)
      → t.after.set ≡ set_of g.S.Shadows c.try_once.new.running c.try_once.new.ram → 4096 * r.frames ≤ length t.after.ram
      → AreBytes t.after.ram → fact

  asked : WhereAsked c.try_once.result
      ((script : Events) (steps : List Taken) (t : Taken) → IsTaken mid script steps t (Does mid t (Carries mid script steps t)))
  asked =
      subst (λ (r : Running g.row.S.Denot). WhereAsked c.try_once.result
      ((script : Events) (steps : List Taken) (t : Taken) → IsTaken r script steps t (Does r t (Carries r script steps t))))
      c.make_room.ensures.same c.try_once.ensures.tries.carried_asked

-- ---- what a try asks for

pub try_once-requires-clause-held : goal.try_once-requires-clause-held
try_once-requires-clause-held g c =
    subst (λ (k : ℕ). IsHeld g.S.Shadows (ground c.args.image.now k) c.make_room.new.running c.make_room.new.pool c.make_room.new.ram)
    (sym (ap (λ (r : Running g.row.S.Denot). r.frames) c.make_room.ensures.same)) c.make_room.ensures.held

pub try_once-requires-clause-able : goal.try_once-requires-clause-able
try_once-requires-clause-able g c = subst (λ (r : Running g.row.S.Denot). IsAble r.cpu) (sym c.make_room.ensures.same) c.requires.able

pub try_once-requires-clause-runs : goal.try_once-requires-clause-runs
try_once-requires-clause-runs g c =
    subst (λ (r : Running g.row.S.Denot). may_run r.cpu r.board c.args.image.now ≡ true) (sym c.make_room.ensures.same) c.requires.runs

pub try_once-requires-clause-bound : goal.try_once-requires-clause-bound
try_once-requires-clause-bound g c = subst (λ (r : Running g.row.S.Denot). r.step < 2 ^ 40) (sym c.make_room.ensures.same) c.requires.bound

pub try_once-requires-clause-room : goal.try_once-requires-clause-room
try_once-requires-clause-room g c = c.make_room.ensures.room

pub try_once-requires-clause-clear : goal.try_once-requires-clause-clear
try_once-requires-clause-clear g c =
    λ script. subst (λ (k : ℕ). IsClear (wedge c.args.image.now script k)
    (state_of g.S.Shadows (wedge c.args.image.now script k) c.make_room.new.running c.make_room.new.ram))
    (sym (ap (λ (r : Running g.row.S.Denot). r.frames) c.make_room.ensures.same)) (c.make_room.ensures.clear script)

pub try_once-requires-clause-kept : goal.try_once-requires-clause-kept
try_once-requires-clause-kept g c = c.make_room.ensures.beside.reloaded ∙ c.requires.kept.1

-- ---- all together

pub returns-clause-attempts : goal.returns-clause-attempts
returns-clause-attempts g c = record {
  step = λ script.
      let running = c.args.running.now in
      let image = c.args.image.now in
      let mid = c.make_room.new.running in
      let ram0 = c.args.ram.now in
      let ram1 = c.make_room.new.ram in
      let ram2 = c.try_once.new.ram in
      let new = c.try_once.new.running in
      let m = wedge image script running.frames in
      let b = state_of g.S.Shadows m running ram0 in
      let here = record running { shadows = mid.shadows; held = mid.held; lost = mid.lost } in
      let d = state_of g.S.Shadows m here ram1 in
      let view = view_by (g.S.Shadows.directory new.shadows) running.cpu in
      let after = state_of g.S.Shadows m new ram2 in
      let tried =
      subst (λ (r : Running g.row.S.Denot). AttemptAs (wedge image script r.frames) (view_by (g.S.Shadows.directory new.shadows) r.cpu)
      (state_of g.S.Shadows (wedge image script r.frames) r ram1) false new.lost c.try_once.result
      (state_of g.S.Shadows (wedge image script r.frames) new ram2) ram2) c.make_room.ensures.same (c.try_once.ensures.tries.step script) in
      let is : d ≡ with_set b d.set = λ i. record b { ram = shown_same m ram0 ram1 c.make_room.ensures.beside.guest i; set = d.set } in
      let left : d.set ≡ left_of new.lost.before b.set =
      c.make_room.ensures.left ∙ ap (λ (x : Bool). left_of x b.set) (sym c.try_once.ensures.tries.before) in
      attempt_before m view b d new.lost.before new.lost c.try_once.result after ram2 is left tried;
  carried =
      where_stepped c.try_once.result
      (λ f script steps t unwanted ample roomy taken by carried.
      f script steps t unwanted (ample_there g c script steps t ample roomy carried) roomy (taken_there g c script t taken)
      (by_there g c script t by) (entries_of (g.S.Shadows.slots c.args.running.now.shadows c.args.ram.now))
      (carried_there g c script steps t ample roomy carried))
      (tried g c);
  carried_asked =
      where_asked c.try_once.result
      (λ f script steps t unwanted ample roomy taken by load rules set long bytes carried.
      f script steps t unwanted (ample_there g c script steps t ample roomy carried) roomy (taken_there g c script t taken)
      (by_there g c script t by) load rules set long bytes (entries_of (g.S.Shadows.slots c.args.running.now.shadows c.args.ram.now))
      (carried_there g c script steps t ample roomy carried))
      (asked g c);
  clashed = λ lost room. c.make_room.ensures.clashed (sym c.try_once.ensures.tries.before ∙ lost) room;
  leaves = record {
    held =
        let new = c.try_once.new.running in
        subst (λ (r : Running g.row.S.Denot). OnOk c.try_once.result
        (IsHeld g.S.Shadows (ground c.args.image.now r.frames) (record new { step = r.step + 1 }) c.try_once.new.pool c.try_once.new.ram))
        c.make_room.ensures.same c.try_once.ensures.tries.leaves.held;
    ready =
        let new = c.try_once.new.running in
        subst (λ (r : Running g.row.S.Denot). OnOk c.try_once.result
        (IsReady g.S.Shadows (ground c.args.image.now r.frames) new.cpu new.shadows c.try_once.new.ram)) c.make_room.ensures.same
        c.try_once.ensures.tries.leaves.ready;
    reloaded = c.try_once.ensures.tries.leaves.reloaded;
    count = subst (λ (r : Running g.row.S.Denot). WhereStepped c.try_once.result (c.try_once.new.running.step ≡ r.step + 1))
        c.make_room.ensures.same c.try_once.ensures.tries.leaves.count;
    asked =
        let new = c.try_once.new.running in
        subst (λ (r : Running g.row.S.Denot). WhereAsked c.try_once.result
        (new ≡ record r { shadows = new.shadows; held = new.held; fills = new.fills; lost = new.lost })) c.make_room.ensures.same
        c.try_once.ensures.tries.leaves.asked;
    stays =
        let same = c.make_room.ensures.same in
        stays_from c.try_once.result (scene c.args.running.now c.args.pool.now c.args.ram.now)
        (scene c.make_room.new.running c.make_room.new.pool c.make_room.new.ram)
        (scene c.try_once.new.running c.try_once.new.pool c.try_once.new.ram)
        (ap (λ (r : Running g.row.S.Denot). r.step) same) (ap (λ (r : Running g.row.S.Denot). r.fills) same)
        c.try_once.ensures.tries.leaves.stays;
  };
}

pub returns-clause-accounts : goal.returns-clause-accounts
returns-clause-accounts g c = record {
  stands = c.try_once.ensures.accounts.stands;
  counted = c.try_once.ensures.accounts.counted;
  pool =
      let fs = g.S.Shadows.frames c.args.running.now.shadows c.args.ram.now in
      let gs = g.S.Shadows.frames c.make_room.new.running.shadows c.make_room.new.ram in
      let hs = g.S.Shadows.frames c.try_once.new.running.shadows c.try_once.new.ram in
      keeps_join c.args.pool.now c.make_room.new.pool c.try_once.new.pool c.args.ram.now c.make_room.new.ram c.try_once.new.ram fs gs hs
      (keeps_moves c.args.pool.now c.make_room.new.pool c.args.ram.now c.make_room.new.ram fs gs c.make_room.ensures.moves)
      c.try_once.ensures.accounts.pool;
  filled =
      let running = c.args.running.now in
      let new = c.try_once.new.running in
      let same = ap (λ (r : Running g.row.S.Denot). r.fills) c.make_room.ensures.same in
      fills_join _ _ _ running.fills running.fills new.fills (fills_fewer _ _ running.fills c.make_room.ensures.beside.fewer)
      (subst (λ (k : ℕ). CountsFills (pages_kept g.S.Shadows c.make_room.new.running.shadows c.make_room.new.ram)
      (pages_kept g.S.Shadows new.shadows c.try_once.new.ram) k new.fills) same c.try_once.ensures.accounts.filled);
  frames = c.try_once.ensures.accounts.frames ∙ ap (λ (r : Running g.row.S.Denot). r.frames) c.make_room.ensures.same;
}
