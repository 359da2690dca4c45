use Rattle.std.proofs.Common.{◌≡◌, ℕ, ◌+◌, ◌*◌, ◌/◌, ◌==◌, ◌≤◌, ◌<◌, ◌^◌, Bool, true, false, List, [], length, refl, sym, ap, subst, ◌∙◌, Some, arith}
use Rattle.std.specs.FinMap.{FinMap, get}
use Rattle.std.specs.Ordering.{nat_cmp}
use Rattle.guest_ram.specs.Bytes.{AreBytes}
use Rattle.board.specs.Scripts.{Events}
use Rattle.descriptors.specs.declared.cpu.Cpu.{Cpu}
use Rattle.descriptors.specs.Controls.{wp_of}
use Rattle.frame_pool.specs.Pool.{free_list}
use Rattle.frame_pool.specs.declared.Pool.{Pool}
use Rattle.image_check.specs.Image.{Image}
use Rattle.image_load.specs.Boot.{text_pages}
use Rattle.paging.specs.declared.entry.Entry.{Entry}
use Rattle.paging.specs.Space.{Space}
use Rattle.shadow_tables.specs.Entries.{entries_of}
use Rattle.shadow_tables.specs.declared.words.Side.{Side}
use Rattle.step_mem.specs.Changes.{AreWithin, changed}
use Rattle.step_mem.specs.Sound.{space_at}
use Rattle.step_mem.specs.declared.state.StepState as kept_state
use Rattle.wedge_mem.specs.Owned.{both, first, owns}
use Rattle.wedge_mem.specs.Settled.{pages_of}
use Rattle.machine_model.specs.Clash.{instruction_clashes}
use Rattle.machine_model.specs.Run.{Set, with_set}
use Rattle.machine_model.specs.State.{Setting, State, wedge, space_at_start}
use Rattle.machine_model.specs.Step.{fetches_next, stepped, unheld}
use Rattle.machine_step.specs.Worked.{dropping, went_as}
use Rattle.native_steps.specs.Again as again
use Rattle.native_steps.specs.Lends.{Lends}
use Rattle.native_steps.specs.Mirrors.{IsHost, Sees, shown}
use Rattle.wedge_step.specs.Closed.{MayClose, Closes}
use Rattle.wedge_step.specs.Filled.{CountsFills, pages_kept}
use Rattle.wedge_step.specs.Ready.{AllOpen, AreFound, IsReady}
use Rattle.wedge_step.specs.Standing.{IsHeld, AreOpen, ground, state_of, side_of}
use Rattle.wedge_core.specs.Tries.{IsPrepared, OthersAreUsers}
use Rattle.wedge_core.specs.Views.{view_by}
use Rattle.wedge_step.specs.declared.running.Running.{Running}
use Rattle.wedge_step.proofs.AfterTry.{any_script, held_then, keeps_then, keeps_still}
use Rattle.wedge_core.proofs.Asking.{may_close, asks, reports}
use Rattle.wedge_step.proofs.Widening.{Widens}
use Rattle.wedge_step.proofs.CarriedStep.{went_on, asked_on}
use Rattle.wedge_step.proofs.Filling.{fills_same, fills_join}
use Rattle.wedge_step.proofs.Memories.{shown_same, front_same, host_same, host_left, text_within}
use Rattle.wedge_core.proofs.Nexts.{others_users, step_is, idle}
use Rattle.wedge_step.proofs.Parts.{part_same, part_left, part_within}
use Rattle.wedge_step.proofs.Returning.{is_left, all_loosened, all_within, within_left}
use Rattle.wedge_core.proofs.Seeing.{side_is}
use Rattle.wedge_step.proofs.Shedding.{open_shed, same_shed, ready_open}
use Rattle.wedge_step.proofs.Stays.{kept_same}
use Rattle.wedge_step.proofs.StepReady.{Steps, went_ready, followed_ready}
use Rattle.wedge_core.proofs.PreparedFollows.{prepared_follows}
use Rattle.machine_step.specs.Roots.{RootsAs}
use Rattle.machine_step.specs.Worked.{IsDropped}
use Rattle.wedge_core.proofs.Tried.{Begun, Tried, tried_from}
use Rattle.wedge_core.proofs.Trying.{asks_tries, of_went, went_tries}
use Rattle.wedge_core.proofs.native.try_once.Given.{Over}
use Rattle.wedge_core.proofs.native.try_once.Goals.{After-finish_step}
use Rattle.wedge_core.proofs.native.try_once.Goals as goal

module _ (g : Over) where
  abbrev state_at : Image → Events → Running g.row.S.Denot → List ℕ → State
  state_at image script r ram = state_of g.S.Shadows (wedge image script r.frames) r ram

  abbrev space : Running g.row.S.Denot → List ℕ → kept_state.StepState → Space
  space r ram s = space_at (λ x. entries_of (g.S.Shadows.slots r.shadows x)) ram s

  widens : Widens g.S.Shadows
  widens = record {
    same_other_roots = g.met.S.Shadows.same_other_roots;
    same_tables_under = g.met.S.Shadows.same_tables_under;
    wider = g.met.S.Shadows.wider;
    sized = g.met.S.Reloads.sized;
  }

  steps_from : (image : Image) (r : Running g.row.S.Denot) (pool : Pool) (ram0 ram1 : List ℕ) (s0 s1 : kept_state.StepState)
      → IsHeld g.S.Shadows (ground image r.frames) r pool ram0
      → Tried g.S.Shadows image r pool ram0 ram1 s0 s1
      → Steps g.S.Shadows image r.frames (state_at image [] r ram0) r.shadows ram0 ram1
  steps_from image r pool ram0 ram1 s0 s1 held k = record {
    wedge = record { mode = held.wedge.mode; accepted = held.wedge.accepted; room = held.wedge.room };
    host = held.host;
    small = held.size.1;
    ram = refl;
    set = refl;
    at = λ page lt. g.met.S.Shadows.entry_at r.shadows ram0 page lt;
    entries = k.a.entries_same;
    same = k.others1;
  }

  filled_from : (image : Image) (r : Running g.row.S.Denot) (pool : Pool) (ram0 ram1 : List ℕ) (s0 s1 : kept_state.StepState)
      → Tried g.S.Shadows image r pool ram0 ram1 s0 s1
      → CountsFills (pages_kept g.S.Shadows r.shadows ram0) (pages_kept g.S.Shadows r.shadows ram1) r.fills r.fills
  filled_from image r pool ram0 ram1 s0 s1 k = fills_same _ _ r.fills (kept_same g.S.Shadows r.shadows ram0 ram1 k.a.entries_same k.others1)

-- ---- the step stops

module _ (g : Over) (c : goal.In-Err g) where
  stopped : Tried g.S.Shadows c.args.image.now c.args.running.now c.args.pool.now c.args.ram.now c.try_native.new.ram c.begin_over.new.state
      c.try_native.new.state
  stopped =
      tried_from g.S.Shadows g.met.S.Shadows.above g.met.S.Shadows.same_frames g.met.S.Shadows.same_slots g.met.S.Shadows.same_entries
      g.met.S.Shadows.same_other_roots c.args.image.now c.args.running.now c.args.pool.now c.args.ram.now
      c.try_native.new.ram c.begin_over.new.state c.try_native.new.state 256 (text_pages c.args.image.now) c.args.image.now.text
      c.begin_over.new.state.guard refl refl refl refl (λ m. c.begin_over.ensures.hides c.args.running.now.frames m)
      (λ m. c.begin_over.ensures.lays c.args.running.now.frames m) c.requires.held
      c.begin_over.ensures.space c.begin_over.ensures.frames c.try_native.ensures.stays.0 c.try_native.ensures.stays.1
      c.try_native.ensures.stays.2 c.try_native.ensures.sound.frames_in c.try_native.ensures.sound.within c.are_bytes.ensures.bytes
      c.are_bytes.ensures.length c.requires.runs
      c.eip_fits.ensures

pub returns-in-Err-clause-accounts : goal.returns-in-Err-clause-accounts
returns-in-Err-clause-accounts g c = record {
  stands = first c.try_native.ensures.sound.stands_now;
  counted = (stopped g c).counted1;
  pool = keeps_still g.S.Shadows c.args.image.now c.args.running.now c.args.pool.now c.args.ram.now c.try_native.new.ram
      c.requires.held (stopped g c).a;
  filled = filled_from g c.args.image.now c.args.running.now c.args.pool.now c.args.ram.now c.try_native.new.ram c.begin_over.new.state
      c.try_native.new.state (stopped g c);
  frames = refl;
}

pub returns-in-Err-clause-tries : goal.returns-in-Err-clause-tries
returns-in-Err-clause-tries g c = record {
  step = λ script.
      let running = c.args.running.now in
      let m = wedge c.args.image.now script running.frames in
      let b = state_at g c.args.image.now script running c.args.ram.now in
      let k = (stopped g c).begun script in
      let sees = c.native_laws.ensures.sees (g.S.Shadows.directory running.shadows) running.cpu c.requires.able in
      step_is m b sees.level k.next
      ∙ (ap (fetches_next m (unheld b)) (sym k.start) ∙ c.in-Err.ensures.tries m (unheld b) (record { has = refl; over = refl }));
  before = refl;
  carried = tt;
  carried_asked = tt;
  leaves = record {
    held = tt;
    ready = tt;
    reloaded = tt;
    count = tt;
    asked = tt;
    stays = record { step = refl; fills = refl };
  };
}

-- ---- it went

module _ (g : Over) (c : goal.After-finish_step-arg-then-went-2-1 g) where
  gone : Tried g.S.Shadows c.args.image.now c.args.running.now c.args.pool.now c.args.ram.now c.try_native.new.ram c.begin_over.new.state
      c.try_native.new.state
  gone =
      tried_from g.S.Shadows g.met.S.Shadows.above g.met.S.Shadows.same_frames g.met.S.Shadows.same_slots g.met.S.Shadows.same_entries
      g.met.S.Shadows.same_other_roots c.args.image.now c.args.running.now c.args.pool.now c.args.ram.now
      c.try_native.new.ram c.begin_over.new.state c.try_native.new.state 256 (text_pages c.args.image.now) c.args.image.now.text
      c.begin_over.new.state.guard refl refl refl refl (λ m. c.begin_over.ensures.hides c.args.running.now.frames m)
      (λ m. c.begin_over.ensures.lays c.args.running.now.frames m) c.requires.held
      c.begin_over.ensures.space c.begin_over.ensures.frames c.try_native.ensures.stays.0 c.try_native.ensures.stays.1
      c.try_native.ensures.stays.2 c.try_native.ensures.sound.frames_in c.try_native.ensures.sound.within c.are_bytes.ensures.bytes
      c.are_bytes.ensures.length c.requires.runs
      c.eip_fits.ensures

module _ (g : Over) (c : After-finish_step g) where
  abbrev image : Image
  image = c.args.image.now

  abbrev running : Running g.row.S.Denot
  running = c.args.running.now

  abbrev ram0 : List ℕ
  ram0 = c.args.ram.now

  abbrev ram1 : List ℕ
  ram1 = c.try_native.new.ram

  abbrev state1 : kept_state.StepState
  state1 = c.try_native.new.state

  went : (script : Events) → stepped (wedge image script running.frames) (state_at g image script running ram0) ≡ went_as
      (state_at g image script running ram0) c.try_native.new.worked c.try_native.new.board (space g running ram1 state1)
  went script =
      let m = wedge image script running.frames in
      let b = state_at g image script running ram0 in
      let k = (gone g c.before).begun script in
      let sees = c.native_laws.ensures.sees (g.S.Shadows.directory running.shadows) running.cpu c.requires.able in
      let tries = went_tries m (unheld b) (space g running ram0 c.begin_over.new.state) _ c.try_native.new.worked c.try_native.new.board
      (space g running ram1 state1) c.if-went.true (c.in-Ok.ensures.tries m (unheld b) (record { has = refl; over = refl })) in
      step_is m b sees.level k.next ∙ (ap (fetches_next m (unheld b)) (sym k.start) ∙ tries.0)

  ready2 : IsReady g.S.Shadows (ground image running.frames) c.finish_step.new.running.cpu c.finish_step.new.running.shadows
      c.finish_step.new.ram
      × (c.finish_step.new.running.lost.reloaded ≡ true → AreFound (ground image running.frames) c.finish_step.new.running.cpu
      (shown (ground image running.frames) c.finish_step.new.ram) c.finish_step.new.running.cpu.cr3
      (g.S.Shadows.read_from c.finish_step.new.running.shadows) (g.S.Shadows.slots c.finish_step.new.running.shadows c.finish_step.new.ram))
  ready2 =
      let k = gone g c.before in
      let behind1 = went_ready g.S.Shadows image running.frames (state_at g image [] running ram0) running.shadows ram0 ram1
      (steps_from g image running c.args.pool.now ram0 ram1 c.begin_over.new.state state1 c.requires.held k) c.requires.ready
      c.native_laws.ensures.steps c.try_native.new.worked c.try_native.new.board (space g running ram1 state1) state1.changes (went [])
      (k.ram1_is []) refl in
      c.finish_step.ensures.ready (ground image running.frames) (sym k.frames1) c.text_frames-count.ensures k.open1 behind1

pub returns-then-went-clause-accounts : goal.returns-then-went-clause-accounts
returns-then-went-clause-accounts g c = record {
  stands = c.finish_step.ensures.moved.stands;
  counted = c.finish_step.ensures.counts.counted;
  pool = keeps_then g.S.Shadows c.args.image.now c.args.running.now c.finish_step.new.running c.args.pool.now c.finish_step.new.pool
      c.args.ram.now c.try_native.new.ram c.finish_step.new.ram c.requires.held (gone g c.before.before).a
      c.finish_step.ensures.moved.moves;
  filled = fills_join _ _ _ _ _ _ (filled_from g c.args.image.now c.args.running.now c.args.pool.now c.args.ram.now c.try_native.new.ram
      c.begin_over.new.state c.try_native.new.state (gone g c.before.before)) c.finish_step.ensures.counts.filled;
  frames = c.finish_step.ensures.passes.frames;
}

pub returns-then-went-clause-tries : goal.returns-then-went-clause-tries
returns-then-went-clause-tries g c = record {
  step = λ script.
      let running = c.args.running.now in
      let image = c.args.image.now in
      let n = running.frames in
      let m = wedge image script n in
      let b = state_at g image script running c.args.ram.now in
      let k = gone g c.before.before in
      let e = k.begun script in
      let held = c.requires.held in
      let s1 = space g running c.try_native.new.ram c.try_native.new.state in
      let host0 : IsHost m c.args.ram.now = record { room = held.host.room; text = held.host.text } in
      let users = others_users m e.wedge_is c.args.ram.now host0 b refl e.room e.bytes e.sound c.eip_fits.ensures
      (c.native_laws.ensures.text image held.wedge.accepted) e.next c.requires.able in
      let tries = went_tries m (unheld b) (space g running c.args.ram.now c.begin_over.new.state) _ c.try_native.new.worked
      c.try_native.new.board s1 c.if-went.true (c.in-Ok.ensures.tries m (unheld b) (record { has = refl; over = refl })) in
      let none = tries.1 (subst (OthersAreUsers (unheld b)) (sym e.start) users) image.sites in
      let front = front_same n c.args.pool.now c.finish_step.new.pool c.try_native.new.ram c.finish_step.new.ram
      (g.S.Shadows.frames running.shadows c.try_native.new.ram) (g.S.Shadows.frames c.finish_step.new.running.shadows c.finish_step.new.ram)
      held.behind (owns c.try_native.ensures.sound.stands_now) c.finish_step.ensures.moved.moves in
      let ram_is : shown m c.finish_step.new.ram ≡ s1.ram =
      shown_same m c.try_native.new.ram c.finish_step.new.ram front ∙ sym (k.ram1_is script) in
      let new = state_of g.S.Shadows m c.finish_step.new.running c.finish_step.new.ram in
      let whole = dropping c.try_native.new.worked.dropped s1.set in
      let left = is_left m new whole c.finish_step.new.running.lost c.finish_step.ensures.left
      (λ back. all_loosened (ground image n) c.finish_step.new.running.cpu (shown (ground image n) c.finish_step.new.ram)
      c.finish_step.new.running.cpu.cr3 (g.S.Shadows.read_from c.finish_step.new.running.shadows)
      (g.S.Shadows.slots c.finish_step.new.running.shadows c.finish_step.new.ram)
      ((ready2 g c.before).1 back) m (with_set new whole) refl (any_script image script n c.finish_step.new.ram) refl refl) in
      idle m b c.finish_step.new.running.lost c.try_native.new.worked c.try_native.new.board s1 new (went g c.before script)
      c.finish_step.ensures.passes.cpu ram_is c.finish_step.ensures.passes.board c.finish_step.ensures.passes.step left none;
  before = c.finish_step.ensures.passes.before;
  carried = λ script steps t unwanted free roomy taken by kept carried.
      let running = c.args.running.now in
      let image = c.args.image.now in
      let k = gone g c.before.before in
      let state1 = c.try_native.new.state in
      let last = space g running c.try_native.new.ram state1 in
      let sound = c.try_native.ensures.sound in
      let pages = sound.visits in
      let most = sound.few in
      let r = of_went (RootsAs (record running.cpu { held = false })) _ c.try_native.new.worked c.if-went.true c.in-Ok.ensures.roots in
      let bytes = c.are_bytes-then-went.ensures in
      let ram_is : last.ram ≡ shown (ground image running.frames) c.try_native.new.ram =
      k.ram1_is script ∙ any_script image script running.frames c.try_native.new.ram in
      let long = bytes.length in
      let same = ap length ram_is in
      went_on g.S.Shadows (widens g) c.known_laws.ensures image script running c.args.pool.now c.args.ram.now c.try_native.new.ram
      c.requires.held k.a steps t kept free roomy taken by carried last state1.changes refl sound.told c.finish_step.new.running.shadows
      c.finish_step.new.ram c.finish_step.ensures.has_tables_under c.try_native.new.worked c.try_native.new.board (went g c.before script)
      (record { through = r.through; load = r.load; all = r.all; page_size = r.page_size }) c.requires.ready (omega (arith, long, same))
      (subst AreBytes (sym ram_is) bytes.bytes) (space g running c.args.ram.now c.begin_over.new.state) c.text_frames-count.result
      state1.control.frames
      c.text_frames-count.ensures c.in-Ok.ensures.uses (ap (λ (x : Space). x.visited) c.begin_over.ensures.space)
      (ap (λ (x : Space). x.mode) c.begin_over.ensures.space) sound.within (omega (arith, pages, most))
      (c.finish_step.ensures.ends unwanted);
  carried_asked = tt;
  leaves = record {
    held =
        let running = c.args.running.now in
        let image = c.args.image.now in
        let n = running.frames in
        let m = ground image n in
        let k = gone g c.before.before in
        let others0 = g.S.Shadows.other_roots running.shadows c.args.ram.now in
        let others1 = g.S.Shadows.other_roots running.shadows c.try_native.new.ram in
        let opens1 = subst (λ (x : Bool). AllOpen image x others1) (sym k.wp1)
        (open_shed image (wp_of running.cpu) others0 others1 (same_shed _ _ k.others1)
        (ready_open m running.cpu (shown m c.args.ram.now) others0 c.requires.ready.others)) in
        let slots2 = g.S.Shadows.slots c.finish_step.new.running.shadows c.finish_step.new.ram in
        let within2 = within_left n slots2 c.try_native.new.worked.dropped c.finish_step.new.running.lost
        (changed (entries_of (g.S.Shadows.slots running.shadows c.try_native.new.ram)) c.try_native.new.state.changes)
        c.finish_step.ensures.left k.within1
        (λ back. all_within m c.finish_step.new.running.cpu (shown m c.finish_step.new.ram) c.finish_step.new.running.cpu.cr3
        (g.S.Shadows.read_from c.finish_step.new.running.shadows) slots2 ((ready2 g c.before).1 back)) in
        let open2 = c.finish_step.ensures.shows image c.text_frames-count.ensures k.open1 opens1 in
        let fills = c.finish_step.ensures.counts.fills in
        let count = c.finish_step.ensures.passes.step in
        held_then g.S.Shadows image running (record c.finish_step.new.running { step = running.step + 1 }) c.args.pool.now
        c.finish_step.new.pool c.args.ram.now c.try_native.new.ram c.finish_step.new.ram c.requires.held k.a
        (owns c.try_native.ensures.sound.stands_now) c.finish_step.ensures.moved.moves
        c.finish_step.ensures.moved.stands c.finish_step.ensures.moved.owns c.finish_step.ensures.counts.counted
        (omega (arith, fills, count)) c.finish_step.ensures.passes.frames within2
        (subst (λ (x : Cpu). AreOpen image (wp_of x) slots2) (sym c.finish_step.ensures.passes.cpu) open2);
    ready = (ready2 g c.before).0;
    reloaded = c.finish_step.ensures.notes_wanted;
    count = c.finish_step.ensures.passes.step;
    asked = tt;
    stays = tt;
  };
}

-- ---- the host is to do it

module _ (g : Over) (c : goal.After-text_frames g) where
  asked : Tried g.S.Shadows c.args.image.now c.args.running.now c.args.pool.now c.args.ram.now c.try_native.new.ram c.begin_over.new.state
      c.try_native.new.state
  asked =
      tried_from g.S.Shadows g.met.S.Shadows.above g.met.S.Shadows.same_frames g.met.S.Shadows.same_slots g.met.S.Shadows.same_entries
      g.met.S.Shadows.same_other_roots c.args.image.now c.args.running.now c.args.pool.now c.args.ram.now
      c.try_native.new.ram c.begin_over.new.state c.try_native.new.state 256 (text_pages c.args.image.now) c.args.image.now.text
      c.begin_over.new.state.guard refl refl refl refl (λ m. c.begin_over.ensures.hides c.args.running.now.frames m)
      (λ m. c.begin_over.ensures.lays c.args.running.now.frames m) c.requires.held
      c.begin_over.ensures.space c.begin_over.ensures.frames c.try_native.ensures.stays.0 c.try_native.ensures.stays.1
      c.try_native.ensures.stays.2 c.try_native.ensures.sound.frames_in c.try_native.ensures.sound.within c.are_bytes.ensures.bytes
      c.are_bytes.ensures.length c.requires.runs
      c.eip_fits.ensures

module _ (g : Over) (c : goal.After-fill_used g) where
  abbrev r : Running g.row.S.Denot
  r = c.args.running.now

  abbrev last : Space
  last = space g c.args.running.now c.try_native.new.ram c.try_native.new.state

  abbrev directory : Side → ℕ
  directory = g.S.Shadows.directory c.fill_used.new.running.shadows

  cpu_is : c.fill_used.new.running.cpu ≡ c.args.running.now.cpu
  cpu_is = ap (λ (x : Running g.row.S.Denot). x.cpu) c.fill_used.ensures.same.same

  open3 : AreOpen c.args.image.now (wp_of c.args.running.now.cpu) (g.S.Shadows.slots c.fill_used.new.running.shadows c.fill_used.new.ram)
  open3 = let k = asked g c.before in
      subst (λ (x : Bool). AreOpen c.args.image.now x (g.S.Shadows.slots c.fill_used.new.running.shadows c.fill_used.new.ram)) k.wp1
      (c.fill_used.ensures.shows c.args.image.now c.text_frames.ensures k.open1)

  sees : Sees (view_by directory r.cpu) r.cpu
  sees = c.native_laws.ensures.sees directory r.cpu c.requires.able

  module _ (script : Events) where
    abbrev m : Setting
    m = wedge c.args.image.now script r.frames

    abbrev b : State
    b = state_at g c.args.image.now script r c.args.ram.now

    e : Begun g.S.Shadows c.args.image.now r c.args.ram.now c.begin_over.new.state script
    e = (asked g c.before).begun script

    prepared : (c.try_native.new.board ≡ r.board) × IsPrepared (unheld b) (space g r c.args.ram.now c.begin_over.new.state) last
    prepared = asks_tries m (unheld b) (space g r c.args.ram.now c.begin_over.new.state) _ c.try_native.new.worked
        c.try_native.new.board last c.if-went.false (c.in-Ok.ensures.tries m (unheld b) (record { has = refl; over = refl }))

    p : IsPrepared (unheld b) (space_at_start m.mode m.frames b.cpu b.ram b.set) last
    p = subst (λ (s : Space). IsPrepared (unheld b) s last) e.start prepared.1

    clear : instruction_clashes m b ≡ false
    clear = c.requires.clear script p.insn p.len p.after_fetch p.fetches

    may : MayClose c.text_frames.result (side_of (r.cpu.cpl == 3)) last.set (pages_of last.visited c.try_native.new.state.changes)
        (length (free_list c.args.pool.now c.try_native.new.ram))
    may =
        let k = asked g c.before in
        let free = ap length k.a.free_same in
        let room = c.requires.room in
        may_close c.native_laws.ensures.grants c.native_laws.ensures.again c.native_laws.ensures.completes m e.wedge_is directory b e.room
        e.bytes e.sound sees e.next c.eip_fits.ensures last p clear r.frames c.text_frames.result
        (length (free_list c.args.pool.now c.try_native.new.ram))
        c.try_native.new.state.changes c.try_native.ensures.sound.told c.text_frames.ensures k.within1 (omega (arith, free, room))

pub returns-else-went-clause-accounts : goal.returns-else-went-clause-accounts
returns-else-went-clause-accounts g c = record {
  stands = c.fill_used.ensures.moved.stands;
  counted = c.fill_used.ensures.counts.counted;
  pool = keeps_then g.S.Shadows c.args.image.now c.args.running.now c.fill_used.new.running c.args.pool.now c.fill_used.new.pool
      c.args.ram.now c.try_native.new.ram c.fill_used.new.ram c.requires.held (asked g c.before).a c.fill_used.ensures.moved.moves;
  filled = fills_join _ _ _ _ _ _ (filled_from g c.args.image.now c.args.running.now c.args.pool.now c.args.ram.now c.try_native.new.ram
      c.begin_over.new.state c.try_native.new.state (asked g c.before)) c.fill_used.ensures.counts.filled;
  frames = ap (λ (x : Running g.row.S.Denot). x.frames) c.fill_used.ensures.same.same;
}

pub returns-else-went-clause-tries : goal.returns-else-went-clause-tries
returns-else-went-clause-tries g c = record {
  step = λ script.
      let running = c.args.running.now in
      let image = c.args.image.now in
      let n = running.frames in
      let m0 = m g c script in
      let t = last g c in
      let k = asked g c.before in
      let held = c.requires.held in
      let changes = c.try_native.new.state.changes in
      let ram1 = c.try_native.new.ram in
      let new = c.fill_used.new.running in
      let ram3 = c.fill_used.new.ram in
      let side = side_of (running.cpu.cpl == 3) in
      let slots1 = g.S.Shadows.slots running.shadows ram1 in
      let slots3 = g.S.Shadows.slots new.shadows ram3 in
      let kept_all = c.fill_used.ensures.whole (may g c script) in
      let closes =
      subst (λ (x : Bool). Closes slots1 slots3 t.set (pages_of t.visited changes) side x (g.S.Shadows.write_protected new.shadows) t.wrote)
      k.wp1 kept_all.1 in
      let front = front_same n c.args.pool.now c.fill_used.new.pool ram1 ram3 (g.S.Shadows.frames running.shadows ram1)
      (g.S.Shadows.frames new.shadows ram3) held.behind (owns c.try_native.ensures.sound.stands_now) c.fill_used.ensures.moved.moves in
      let ram_is : shown m0 ram3 ≡ t.ram = shown_same m0 ram1 ram3 front ∙ sym (k.ram1_is script) in
      let size : length ram3 ≡ length c.args.ram.now = c.fill_used.ensures.moved.moves.size ∙ k.a.left.size in
      let pages_of_ram : 4096 * (length ram3 / 4096) ≡ length ram3 = (let h = held.whole in omega (arith, size, h)) in
      let roomy : 4096 * n ≤ length ram3 = (let h = held.host.room in omega (arith, size, h)) in
      let host = λ (page : ℕ) (write : Bool) (lt : page < 2 ^ 20). g.met.S.Shadows.host new.shadows ram3 (length ram3 / 4096) side page
      write c.fill_used.ensures.moved.stands pages_of_ram lt in
      let beyond = λ (page : ℕ) (le : 2 ^ 20 ≤ page). ap (λ (set : FinMap nat_cmp Entry). get set page) (sym closes.entries)
      ∙ g.met.S.Shadows.none_beyond new.shadows ram3 page le in
      let within = λ (page : ℕ) (entry : Entry) (is : get t.set page ≡ Some entry).
      let lt : entry.frame < n =
      (k.within1 page entry is).1 in let below : entry.frame < length ram3 / 4096 = omega (arith, lt, roomy) in below in
      let text = text_within image in
      let fits = held.wedge.room in
      let host3 : IsHost m0 ram3 = host_same m0 ram1 ram3 (omega (arith, fits, text)) c.fill_used.ensures.moved.moves.size front
      (host_left m0 (text_pages image) c.args.ram.now ram1 text k.a.left (record { room = held.host.room; text = held.host.text })) in
      let lends = subst (λ (x : Bool). Lends m0 ram3 (directory g c side) x (wp_of running.cpu) t.set) (side_is running.cpu)
      (c.native_laws.ensures.lends m0 ram3 (directory g c side) side (wp_of running.cpu) slots3 t.set host
      (λ page lt. g.met.S.Shadows.entry_at new.shadows ram3 page lt)
      (subst (λ (set : FinMap nat_cmp Entry). AreWithin n set) (sym closes.entries) k.within1) (open3 g c)
      (part_same (entries_of slots3) t.set closes.entries)) in
      let state_is : state_of g.S.Shadows m0 new ram3 ≡ again.settled (b g c script) t =
      λ i. record {
        cpu = cpu_is g c i;
        ram = ram_is i;
        set = closes.entries i;
        board = (ap (λ (x : Running g.row.S.Denot). x.board) c.fill_used.ensures.same.same ∙ (prepared g c script).0) i;
        step = ap (λ (x : Running g.row.S.Denot). x.step) c.fill_used.ensures.same.same i;
      } in
      let begun = e g c script in
      asks c.native_laws.ensures.grants c.native_laws.ensures.again c.native_laws.ensures.completes m0 begun.wedge_is (directory g c)
      (b g c script) begun.room begun.bytes begun.sound (sees g c) begun.next c.eip_fits.ensures t (p g c script) (clear g c script) slots1
      slots3 changes (g.S.Shadows.write_protected new.shadows) ram3 closes
      beyond host within (record { host = host3; ram = sym ram_is; sees = sees g c }) lends new.lost
      (kept_all.0, c.fill_used.ensures.same.reloaded ∙ c.requires.kept) (state_of g.S.Shadows m0 new ram3) state_is;
  before = c.fill_used.ensures.same.before;
  carried = tt;
  carried_asked = λ script steps t unwanted free roomy taken by load rules set long bytes kept carried.
      let begun = e g c script in
      let read_from = reports c.native_laws.ensures.grants c.native_laws.ensures.again c.native_laws.ensures.completes (m g c script)
      begun.wedge_is (directory g c) (b g c script) begun.room begun.bytes begun.sound (sees g c) begun.next c.eip_fits.ensures (last g c)
      (p g c script) (clear g c script) t.report t.after
      (sym (ap (λ (x : Set). stepped (m g c script) (with_set (b g c script) x)) by) ∙ taken.stepped) in
      asked_on g.S.Shadows (widens g) c.known_laws.ensures c.args.image.now script c.args.running.now c.args.pool.now c.args.ram.now
      c.try_native.new.ram
      c.requires.held (asked g c.before).a steps t kept free roomy taken by carried (last g c) c.try_native.new.state.changes refl
      c.try_native.ensures.sound.told c.fill_used.new.running.shadows c.fill_used.new.ram c.fill_used.ensures.has_tables_under read_from.0
      read_from.1 read_from.2 load rules set long bytes
      (c.fill_used.ensures.told.tells (c.fill_used.ensures.whole (may g c script)).0);
  leaves = record {
    held =
        let running = c.args.running.now in
        let image = c.args.image.now in
        let k = asked g c.before in
        let new = c.fill_used.new.running in
        let fills = c.fill_used.ensures.counts.fills in
        let before = c.requires.held.fills in
        held_then g.S.Shadows image running (record new { step = running.step + 1 }) c.args.pool.now c.fill_used.new.pool c.args.ram.now
        c.try_native.new.ram c.fill_used.new.ram c.requires.held k.a (owns c.try_native.ensures.sound.stands_now)
        c.fill_used.ensures.moved.moves
        c.fill_used.ensures.moved.stands c.fill_used.ensures.moved.owns c.fill_used.ensures.counts.counted (omega (arith, fills, before))
        (ap (λ (x : Running g.row.S.Denot). x.frames) c.fill_used.ensures.same.same)
        (part_within running.frames _
        (changed (entries_of (g.S.Shadows.slots running.shadows c.try_native.new.ram)) c.try_native.new.state.changes)
        (part_left _ _ _ c.fill_used.ensures.left) k.within1)
        (subst (λ (x : Cpu). AreOpen image (wp_of x) (g.S.Shadows.slots new.shadows c.fill_used.new.ram)) (sym (cpu_is g c)) (open3 g c));
    ready =
        let running = c.args.running.now in
        let image = c.args.image.now in
        let m0 = ground image running.frames in
        let k = asked g c.before in
        let behind1 = followed_ready g.S.Shadows image running.frames (b g c []) running.shadows c.args.ram.now c.try_native.new.ram
        (steps_from g image running c.args.pool.now c.args.ram.now c.try_native.new.ram c.begin_over.new.state c.try_native.new.state
        c.requires.held k) c.requires.ready (λ page. false) (last g c) (last g c).set
        (prepared_follows c.native_laws.ensures.on c.native_laws.ensures.fetched c.native_laws.ensures.ranges (unheld (b g c [])) _
        (last g c) (p g c [])) (k.ram1_is []) refl in
        subst (λ (x : Cpu). IsReady g.S.Shadows m0 x c.fill_used.new.running.shadows c.fill_used.new.ram) (sym (cpu_is g c))
        (c.fill_used.ensures.ready (λ page. false) m0 running.cpu (sym k.frames1) behind1);
    reloaded = λ w. c.fill_used.ensures.same.reloaded ∙ c.requires.kept;
    count = tt;
    asked =
        let new = c.fill_used.new.running in
        c.fill_used.ensures.same.same
        ∙ (λ i. record c.args.running.now {
          board = (prepared g c []).0 i;
          shadows = new.shadows;
          held = new.held;
          fills = new.fills;
          lost = new.lost;
        });
    stays = tt;
  };
}

-- ---- what the calls ask for

text_laid : (n pages frames : ℕ) → n ≤ 4096 * pages → 0x100 + pages ≤ frames → 0x100000 + n ≤ 4096 * frames
text_laid n pages frames few room = omega (arith, few, room)

pub are_bytes-requires-clause-frames : goal.are_bytes-requires-clause-frames
are_bytes-requires-clause-frames g c = c.requires.held.host.room

pub are_bytes-requires-clause-laid : goal.are_bytes-requires-clause-laid
are_bytes-requires-clause-laid g c = text_laid _ _ _ (text_within c.args.image.now) c.requires.held.wedge.room

pub begin_over-requires-clause-frames : goal.begin_over-requires-clause-frames
begin_over-requires-clause-frames g c = c.requires.held.host.room

pub begin_over-requires-clause-stands : goal.begin_over-requires-clause-stands
begin_over-requires-clause-stands g c = both c.requires.held.stand c.requires.held.owns

pub begin_over-requires-clause-text : goal.begin_over-requires-clause-text
begin_over-requires-clause-text g c = c.requires.text

pub fill_used-requires-clause-fills : goal.fill_used-requires-clause-fills
fill_used-requires-clause-fills g c = let f = c.requires.held.fills in let b = c.requires.bound in omega (arith, f, b)

pub begin_over-requires-clause-within : goal.begin_over-requires-clause-within
begin_over-requires-clause-within g c = c.requires.held.within

pub begin_over-requires-clause-below : goal.begin_over-requires-clause-below
begin_over-requires-clause-below g c = (let h = c.requires.held.behind in omega (arith, h))

pub begin_over-requires-clause-room : goal.begin_over-requires-clause-room
begin_over-requires-clause-room g c = c.requires.held.wedge.room

pub try_native-requires-clause-sound : goal.try_native-requires-clause-sound
try_native-requires-clause-sound g c = c.begin_over.ensures.sound

pub try_native-requires-clause-pages : goal.try_native-requires-clause-pages
try_native-requires-clause-pages g c = c.begin_over.ensures.pages

pub finish_step-requires-clause-under : goal.finish_step-requires-clause-under
finish_step-requires-clause-under g c = record { sound = c.try_native.ensures.sound; counted = (gone g c).counted1; few = (gone g c).few1 }

pub finish_step-requires-clause-counts : goal.finish_step-requires-clause-counts
finish_step-requires-clause-counts g c = record {
  fills = c.requires.held.fills;
  bound = c.requires.bound;
  enough = (let free = ap length (gone g c).a.free_same in let room = c.requires.room in omega (arith, free, room));
}

pub finish_step-requires-clause-worked : goal.finish_step-requires-clause-worked
finish_step-requires-clause-worked g c =
    record {
      page = of_went (λ w. IsDropped w.dropped) _ c.try_native.new.worked c.if-went.true c.in-Ok.ensures.dropped;
      rules = (gone g c).wp1;
    }

pub fill_used-requires-clause-under : goal.fill_used-requires-clause-under
fill_used-requires-clause-under g c = record { sound = c.try_native.ensures.sound; counted = (asked g c).counted1; few = (asked g c).few1 }
