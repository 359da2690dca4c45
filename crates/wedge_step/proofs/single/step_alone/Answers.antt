use Rattle.std.proofs.Common.{◌≡◌, ℕ, ◌+◌, ◌*◌, ◌≤◌, Bool, true, List, [], length, refl, sym, ap, subst, ◌∙◌, arith}
use Rattle.guest_ram.specs.Bytes.{AreBytes}
use Rattle.wedge_step.proofs.Widening.{Widens}
use Rattle.wedge_step.proofs.CarriedStep.{went_on}
use Rattle.descriptors.specs.declared.cpu.Cpu.{Cpu}
use Rattle.descriptors.specs.Controls.{wp_of}
use Rattle.frame_pool.specs.Pool.{base_of}
use Rattle.paging.specs.Space.{Space}
use Rattle.shadow_tables.specs.Entries.{entries_of}
use Rattle.step_mem.specs.Changes.{AreWithin, changed}
use Rattle.step_mem.specs.Shown as laying
use Rattle.step_mem.specs.declared.walking.Control.{Control}
use Rattle.wedge_mem.specs.Owned.{both, first, owns}
use Rattle.step_mem.specs.Sound.{space_at}
use Rattle.machine_model.specs.State.{wedge, wedge_mode, Setting, State}
use Rattle.native_steps.specs.Mirrors.{shown}
use Rattle.wedge_step.specs.Standing.{AreOpen, IsHeld, state_of, ground}
use Rattle.wedge_step.proofs.Alones.{alone_from, began}
use Rattle.wedge_step.proofs.Opening.{same_open}
use Rattle.wedge_step.proofs.Keeping.{keeps_above}
use Rattle.wedge_step.proofs.Memories.{step_leaves, shown_is, front_same, shown_same, text_within}
use Rattle.wedge_step.proofs.Filling.{fills_same, fills_join}
use Rattle.board.specs.Scripts.{Events}
use Rattle.image_check.specs.Image.{Image}
use Rattle.image_load.specs.Boot.{text_pages}
use Rattle.shadow_tables.specs.OtherRoot.{AreSame}
use Rattle.step_mem.specs.declared.state.StepState as kept_state
use Rattle.machine_model.specs.Step.{stepped}
use Rattle.machine_step.specs.Worked.{dropping, went_as}
use Rattle.wedge_mem.specs.Settled.{pages_of}
use Rattle.machine_model.specs.Run.{with_set}
use Rattle.wedge_step.specs.Ready.{AllOpen, AreFound, IsReady, IsReadyBehind, leaving}
use Rattle.wedge_step.specs.declared.running.Running.{Running}
use Rattle.wedge_step.proofs.AfterTry.{After, after, few_after, held_then, keeps_then, any_script}
use Rattle.wedge_step.proofs.Returning.{is_left, all_loosened, all_within, within_left}
use Rattle.wedge_step.proofs.Shedding.{open_shed, same_shed, ready_open}
use Rattle.wedge_step.proofs.Stays.{kept_same}
use Rattle.wedge_step.proofs.StepReady.{Steps, went_ready}
use Rattle.wedge_step.proofs.single.step_alone.Given.{Over}
use Rattle.wedge_step.proofs.single.step_alone.Goals as goal

text_laid : (n pages frames : ℕ) → n ≤ 4096 * pages → 0x100 + pages ≤ frames → 0x100000 + n ≤ 4096 * frames
text_laid n pages frames few room = omega (arith, few, room)

frames_behind : (frames base : ℕ) → frames ≤ base → 4096 * frames ≤ 4096 * base
frames_behind frames base h = omega (arith, h)

pub returns-in-Err-clause-step : goal.returns-in-Err-clause-step
returns-in-Err-clause-step g c = λ script.
    let running = c.args.running.now in
    let image = c.args.image.now in
    let n = running.frames in
    let ram0 = c.args.ram.now in
    let ram1 = c.step_at.new.ram in
    let state1 = c.step_at.new.state in
    let held = c.requires.between.held in
    let m = wedge image script n in
    let b = state_of g.S.Shadows m running ram0 in
    let laid = shown_is m image.text 256 ram0 refl refl in
    let start = began m b (wedge_mode image) (space_at (λ r. entries_of (g.S.Shadows.slots running.shadows r)) ram0 c.begin_over.new.state)
    refl (laying.laid image.text 256 n ram0) laid c.begin_over.ensures.space in
    let raw = c.in-Err.ensures.step m b (record { has = refl; over = refl }) in
    sym start ∙ raw

-- the accesses that were done
module _ (g : Over) (c : goal.After-worked-in-Ok-1 g) where
  abbrev running : Running g.row.S.Denot
  running = c.args.running.now

  abbrev n : ℕ
  n = running.frames

  abbrev image : Image
  image = c.args.image.now

  abbrev ram0 : List ℕ
  ram0 = c.args.ram.now

  abbrev ram1 : List ℕ
  ram1 = c.step_at.new.ram

  abbrev state1 : kept_state.StepState
  state1 = c.step_at.new.state

  frames1 : state1.control.frames ≡ n
  frames1 = ap (λ (k : Control). k.frames) c.step_at.ensures.stays.0 ∙ c.begin_over.ensures.frames

  a : After g.S.Shadows image n running.shadows c.args.pool.now ram0 ram1
  a =
      let hid = sym (c.begin_over.ensures.hides n ram1)
      ∙ (subst (λ (k : ℕ). laying.hidden c.begin_over.new.state.guard k ram1 ≡ laying.hidden c.begin_over.new.state.guard k ram0)
      c.begin_over.ensures.frames c.step_at.ensures.stays.2 ∙ c.begin_over.ensures.hides n ram0) in
      let fits1 : 4096 * n ≤ length ram1 = subst (λ (k : ℕ). 4096 * k ≤ length ram1) frames1 c.step_at.ensures.sound.frames_in in
      after g.S.Shadows g.met.S.Shadows.above g.met.S.Shadows.same_frames g.met.S.Shadows.same_slots g.met.S.Shadows.same_entries image
      running c.args.pool.now ram0 ram1 256 (text_pages image) c.requires.between.held fits1
      refl refl hid

  others1 : AreSame (g.S.Shadows.other_roots running.shadows ram0) (g.S.Shadows.other_roots running.shadows ram1)
  others1 = g.met.S.Shadows.same_other_roots running.shadows ram0 ram1 c.requires.between.held.stand a.same

  wp1 : state1.control.wp ≡ wp_of running.cpu
  wp1 = ap (λ (k : Control). k.wp) c.step_at.ensures.stays.0 ∙ ap (λ (x : Space). x.wp) c.begin_over.ensures.space

  open1 : AreOpen image state1.control.wp (g.S.Shadows.slots running.shadows ram1)
  open1 = subst (λ (x : Bool). AreOpen image x (g.S.Shadows.slots running.shadows ram1)) (sym wp1)
      (same_open image (wp_of running.cpu) (g.S.Shadows.slots running.shadows ram0) (g.S.Shadows.slots running.shadows ram1) a.slots_same
      c.requires.between.held.open_to)

  opens1 : AllOpen image state1.control.wp (g.S.Shadows.other_roots running.shadows ram1)
  opens1 =
      subst (λ (x : Bool). AllOpen image x (g.S.Shadows.other_roots running.shadows ram1)) (sym wp1)
      (open_shed image (wp_of running.cpu) (g.S.Shadows.other_roots running.shadows ram0) (g.S.Shadows.other_roots running.shadows ram1)
      (same_shed _ _ others1)
      (ready_open (ground image n) running.cpu (shown (ground image n) ram0) (g.S.Shadows.other_roots running.shadows ram0)
      c.requires.between.ready.others))

  module _ (script : Events) where
    abbrev m : Setting
    m = wedge image script n

    abbrev b : State
    b = state_of g.S.Shadows m running ram0

    abbrev s1 : Space
    s1 = space_at (λ r. entries_of (g.S.Shadows.slots running.shadows r)) ram1 state1

    went : stepped m b ≡ went_as b c.step_at.new.worked c.step_at.new.board s1
    went =
        let r = c.args.running.now in
        let im = c.args.image.now in
        let k = r.frames in
        let old = c.args.ram.now in
        let m1 = wedge im script k in
        let b1 = state_of g.S.Shadows m1 r old in
        let laid = shown_is m1 im.text 256 old refl refl in
        let start = began m1 b1 (wedge_mode im) (space_at (λ x. entries_of (g.S.Shadows.slots r.shadows x)) old c.begin_over.new.state) refl
        (laying.laid im.text 256 k old) laid c.begin_over.ensures.space in
        let raw = c.in-Ok.ensures.step m1 b1 (record { has = refl; over = refl }) in
        sym start ∙ raw

    ram1_is : s1.ram ≡ shown m ram1
    ram1_is =
        let here : s1.ram ≡ laying.shown c.begin_over.new.state.guard n ram1 =
        λ i. laying.shown_by (c.step_at.ensures.stays.1 i).now (frames1 i) ram1 in
        here ∙ (c.begin_over.ensures.lays n ram1 ∙ shown_is m image.text 256 ram1 refl refl)

  behind1 : IsReadyBehind g.S.Shadows (leaving c.step_at.new.worked.dropped (pages_of state1.visited state1.changes)) (ground image n)
      running.cpu running.shadows ram1
      (changed (entries_of (g.S.Shadows.slots running.shadows ram1)) state1.changes) state1.tables state1.wrote
  behind1 =
      let held = c.requires.between.held in
      let k : Steps g.S.Shadows image n (b []) running.shadows ram0 ram1 = record {
        wedge = held.wedge;
        host = held.host;
        small = held.size.1;
        ram = refl;
        set = refl;
        at = λ page lt. g.met.S.Shadows.entry_at running.shadows ram0 page lt;
        entries = a.entries_same;
        same = others1;
      } in
      went_ready g.S.Shadows image n (b []) running.shadows ram0 ram1 k c.requires.between.ready c.steps_follow.ensures c.step_at.new.worked
      c.step_at.new.board (s1 []) state1.changes (went []) (ram1_is []) refl

module _ (g : Over) (c : goal.After-finish_step g) where
  abbrev d : goal.After-worked-in-Ok-1 g
  d = c.before

  ready1 : IsReady g.S.Shadows (ground (image g d) (n g d)) c.finish_step.new.running.cpu c.finish_step.new.running.shadows
      c.finish_step.new.ram
      × (c.finish_step.new.running.lost.reloaded ≡ true → AreFound (ground (image g d) (n g d)) c.finish_step.new.running.cpu
      (shown (ground (image g d) (n g d)) c.finish_step.new.ram) c.finish_step.new.running.cpu.cr3
      (g.S.Shadows.read_from c.finish_step.new.running.shadows) (g.S.Shadows.slots c.finish_step.new.running.shadows c.finish_step.new.ram))
  ready1 =
      c.finish_step.ensures.ready (ground (image g d) (n g d)) (sym (frames1 g d)) c.text_frames-count.ensures (open1 g d) (behind1 g d)

pub returns-in-Ok-clause-step : goal.returns-in-Ok-clause-step
returns-in-Ok-clause-step g c = λ script.
    let d = c.before in
    let m = wedge (image g d) script (n g d) in
    let front = front_same (n g d) c.args.pool.now c.finish_step.new.pool (ram1 g d) c.finish_step.new.ram
    (g.S.Shadows.frames (running g d).shadows (ram1 g d)) (g.S.Shadows.frames c.finish_step.new.running.shadows c.finish_step.new.ram)
    c.requires.between.held.behind (owns c.step_at.ensures.sound.stands_now) c.finish_step.ensures.moved.moves in
    let ram_is : shown m c.finish_step.new.ram ≡ (s1 g d script).ram =
    shown_same m (ram1 g d) c.finish_step.new.ram front ∙ sym (ram1_is g d script) in
    let new = state_of g.S.Shadows m c.finish_step.new.running c.finish_step.new.ram in
    let whole = dropping c.step_at.new.worked.dropped (s1 g d script).set in
    let left = is_left m new whole c.finish_step.new.running.lost c.finish_step.ensures.left
    (λ back. all_loosened (ground (image g d) (n g d)) c.finish_step.new.running.cpu
    (shown (ground (image g d) (n g d)) c.finish_step.new.ram) c.finish_step.new.running.cpu.cr3
    (g.S.Shadows.read_from c.finish_step.new.running.shadows) (g.S.Shadows.slots c.finish_step.new.running.shadows c.finish_step.new.ram)
    ((ready1 g c).1 back) m (with_set new whole) refl (any_script (image g d) script (n g d) c.finish_step.new.ram) refl refl) in
    alone_from m (b g d script) c.finish_step.new.running.lost c.step_at.new.worked c.step_at.new.board (s1 g d script) new
    (went g d script) c.finish_step.ensures.passes.cpu ram_is c.finish_step.ensures.passes.board c.finish_step.ensures.passes.step left

-- what the run carries goes on
pub returns-in-Ok-clause-carried : goal.returns-in-Ok-clause-carried
returns-in-Ok-clause-carried g c = λ script steps t unwanted free roomy taken by carried.
    let d = c.before in
    let last = s1 g d script in
    let begun = space_at (λ r. entries_of (g.S.Shadows.slots (running g d).shadows r)) (ram0 g d) c.begin_over.new.state in
    let widens : Widens g.S.Shadows = record {
      same_other_roots = g.met.S.Shadows.same_other_roots;
      same_tables_under = g.met.S.Shadows.same_tables_under;
      wider = g.met.S.Shadows.wider;
      sized = g.met.S.Reloads.sized;
    } in
    let sound = c.step_at.ensures.sound in
    let pages = sound.visits in
    let most = sound.few in
    let ram_is : last.ram ≡ shown (ground (image g d) (n g d)) (ram1 g d) =
    ram1_is g d script ∙ any_script (image g d) script (n g d) (ram1 g d) in
    let long = c.are_bytes.ensures.length in
    let same = ap length ram_is in
    went_on g.S.Shadows widens c.known_laws.ensures (image g d) script (running g d) c.args.pool.now (ram0 g d) (ram1 g d)
    c.requires.between.held (a g d) steps t (entries_of (g.S.Shadows.slots (running g d).shadows (ram0 g d))) free roomy taken by
    (record { known = carried.known; opened_to = carried.opened_to }) last (state1 g d).changes refl sound.told
    c.finish_step.new.running.shadows c.finish_step.new.ram c.finish_step.ensures.has_tables_under
    c.step_at.new.worked c.step_at.new.board (went g d script) c.in-Ok.ensures.roots c.requires.between.ready (omega (arith, long, same))
    (subst AreBytes (sym ram_is) c.are_bytes.ensures.bytes) begun c.text_frames-count.result (state1 g d).control.frames
    c.text_frames-count.ensures
    c.in-Ok.ensures.uses (ap (λ (x : Space). x.visited) c.begin_over.ensures.space) (ap (λ (x : Space). x.mode) c.begin_over.ensures.space)
    sound.within (omega (arith, pages, most)) (c.finish_step.ensures.ends unwanted)

pub begin_over-requires-clause-below : goal.begin_over-requires-clause-below
begin_over-requires-clause-below g c = frames_behind _ _ c.requires.between.held.behind

pub begin_over-requires-clause-within : goal.begin_over-requires-clause-within
begin_over-requires-clause-within g c = c.requires.between.held.within

pub begin_over-requires-clause-room : goal.begin_over-requires-clause-room
begin_over-requires-clause-room g c = c.requires.between.held.wedge.room

pub step_at-requires-clause-sound : goal.step_at-requires-clause-sound
step_at-requires-clause-sound g c = c.begin_over.ensures.sound

pub step_at-requires-clause-pages : goal.step_at-requires-clause-pages
step_at-requires-clause-pages g c = c.begin_over.ensures.pages

pub returns-in-Ok-clause-notes_wanted : goal.returns-in-Ok-clause-notes_wanted
returns-in-Ok-clause-notes_wanted g c = c.finish_step.ensures.notes_wanted

pub returns-in-Ok-clause-before : goal.returns-in-Ok-clause-before
returns-in-Ok-clause-before g c = c.finish_step.ensures.passes.before

pub returns-in-Ok-clause-count : goal.returns-in-Ok-clause-count
returns-in-Ok-clause-count g c = c.finish_step.ensures.passes.step

pub returns-in-Err-clause-notes_wanted : goal.returns-in-Err-clause-notes_wanted
returns-in-Err-clause-notes_wanted g c = tt

pub returns-in-Err-clause-carried : goal.returns-in-Err-clause-carried
returns-in-Err-clause-carried g c = tt

pub returns-in-Err-clause-count : goal.returns-in-Err-clause-count
returns-in-Err-clause-count g c = tt

pub returns-in-Err-clause-before : goal.returns-in-Err-clause-before
returns-in-Err-clause-before g c = refl

pub finish_step-requires-clause-under : goal.finish_step-requires-clause-under
finish_step-requires-clause-under g c = record {
  sound = c.step_at.ensures.sound;
  counted = c.requires.between.held.counted ∙ ap length (sym (a g c).frames_same);
  few = few_after g.S.Shadows (image g c) (running g c) c.args.pool.now (ram0 g c) (ram1 g c) c.requires.between.held (a g c);
}

pub finish_step-requires-clause-counts : goal.finish_step-requires-clause-counts
finish_step-requires-clause-counts g c =
    let free = ap length (a g c).free_same in
    let same = ap length (a g c).frames_same in
    let counted = c.requires.between.held.counted in
    let enough = c.requires.between.enough in
    record { fills = c.requires.between.held.fills; bound = c.requires.bound; enough = omega (arith, free, same, counted, enough) }

pub finish_step-requires-clause-worked : goal.finish_step-requires-clause-worked
finish_step-requires-clause-worked g c = record {
  page = c.in-Ok.ensures.dropped;
  rules = wp1 g c;
}

pub returns-in-Err-clause-accounts : goal.returns-in-Err-clause-accounts
returns-in-Err-clause-accounts g c =
    let running = c.args.running.now in
    let image = c.args.image.now in
    let n = running.frames in
    let ram0 = c.args.ram.now in
    let ram1 = c.step_at.new.ram in
    let state1 = c.step_at.new.state in
    let held = c.requires.between.held in
    let frames1 : state1.control.frames ≡ n = ap (λ (k : Control). k.frames) c.step_at.ensures.stays.0 ∙ c.begin_over.ensures.frames in
    let hid = sym (c.begin_over.ensures.hides n ram1)
    ∙ (subst (λ (k : ℕ). laying.hidden c.begin_over.new.state.guard k ram1 ≡ laying.hidden c.begin_over.new.state.guard k ram0)
    c.begin_over.ensures.frames c.step_at.ensures.stays.2 ∙ c.begin_over.ensures.hides n ram0) in
    let fits1 : 4096 * n ≤ length ram1 = subst (λ (k : ℕ). 4096 * k ≤ length ram1) frames1 c.step_at.ensures.sound.frames_in in
    let left = step_leaves image n 256 (text_pages image) ram0 ram1 held.wedge.room held.host.room fits1 refl refl hid in
    let behind : 4096 * n ≤ 4096 * base_of c.args.pool.now = frames_behind _ _ held.behind in
    let same = g.met.S.Shadows.above running.shadows c.args.pool.now ram0 ram1 (4096 * n) held.owns behind left.above left.size in
    let frames_same = g.met.S.Shadows.same_frames running.shadows ram0 ram1 held.stand same in
    let fs = g.S.Shadows.frames running.shadows ram0 in
    let gs = g.S.Shadows.frames running.shadows ram1 in
    record {
      stands = first c.step_at.ensures.sound.stands_now;
      counted = held.counted ∙ ap length (sym frames_same);
      pool = keeps_above c.args.pool.now ram0 ram1 (4096 * n) fs gs held.owns.stands behind left.above left.size frames_same;
      filled = fills_same _ _ running.fills
          (kept_same g.S.Shadows running.shadows ram0 ram1 (g.met.S.Shadows.same_entries running.shadows ram0 ram1 held.stand same)
          (g.met.S.Shadows.same_other_roots running.shadows ram0 ram1 held.stand same));
      frames = refl;
    }

pub returns-in-Ok-clause-stays : goal.returns-in-Ok-clause-stays
returns-in-Ok-clause-stays g c = tt

pub returns-in-Err-clause-stays : goal.returns-in-Err-clause-stays
returns-in-Err-clause-stays g c = record { step = refl; fills = refl }

pub returns-in-Ok-clause-accounts : goal.returns-in-Ok-clause-accounts
returns-in-Ok-clause-accounts g c =
    let d = c.before in
    record {
      stands = c.finish_step.ensures.moved.stands;
      counted = c.finish_step.ensures.counts.counted;
      pool = keeps_then g.S.Shadows (image g d) (running g d) c.finish_step.new.running c.args.pool.now c.finish_step.new.pool (ram0 g d)
          (ram1 g d) c.finish_step.new.ram c.requires.between.held (a g d) c.finish_step.ensures.moved.moves;
      filled =
          fills_join _ _ _ _ _ _ (fills_same _ _ (running g d).fills
          (kept_same g.S.Shadows (running g d).shadows (ram0 g d) (ram1 g d) (a g d).entries_same (others1 g d)))
          c.finish_step.ensures.counts.filled;
      frames = c.finish_step.ensures.passes.frames;
    }

pub returns-in-Ok-clause-between : goal.returns-in-Ok-clause-between
returns-in-Ok-clause-between g c =
    let d = c.before in
    let m = ground (image g d) (n g d) in
    let whole1 = changed (entries_of (g.S.Shadows.slots (running g d).shadows (ram1 g d))) (state1 g d).changes in
    let within1 = subst (λ (k : ℕ). AreWithin k whole1) (frames1 g d) c.step_at.ensures.sound.within in
    let slots2 = g.S.Shadows.slots c.finish_step.new.running.shadows c.finish_step.new.ram in
    let within2 =
    within_left (n g d) slots2 c.step_at.new.worked.dropped c.finish_step.new.running.lost whole1 c.finish_step.ensures.left within1
    (λ back. all_within m c.finish_step.new.running.cpu (shown m c.finish_step.new.ram) c.finish_step.new.running.cpu.cr3
    (g.S.Shadows.read_from c.finish_step.new.running.shadows) slots2 ((ready1 g c).1 back)) in
    let open2 = c.finish_step.ensures.shows (image g d) c.text_frames-count.ensures (open1 g d) (opens1 g d) in
    let all = c.requires.between.enough in
    let counted = c.requires.between.held.counted in
    let now = c.finish_step.ensures.counts.counted in
    let free = ap length (a g d).free_same in
    let as_many = ap length (a g d).frames_same in
    let lengths = c.finish_step.ensures.moved.moves.lengths in
    let new = c.finish_step.new.running in
    let frames = sym c.finish_step.ensures.passes.frames in
    let held = held_then g.S.Shadows (image g d) (running g d) c.finish_step.new.running c.args.pool.now c.finish_step.new.pool (ram0 g d)
    (ram1 g d) c.finish_step.new.ram c.requires.between.held (a g d) (owns c.step_at.ensures.sound.stands_now)
    c.finish_step.ensures.moved.moves
    c.finish_step.ensures.moved.stands c.finish_step.ensures.moved.owns c.finish_step.ensures.counts.counted
    c.finish_step.ensures.counts.fills c.finish_step.ensures.passes.frames within2
    (subst (λ (x : Cpu). AreOpen (image g d) (wp_of x) slots2) (sym c.finish_step.ensures.passes.cpu) open2) in
    record {
      held = subst (λ (k : ℕ). IsHeld g.S.Shadows (ground (image g d) k) new c.finish_step.new.pool c.finish_step.new.ram) frames held;
      ready = subst (λ (k : ℕ). IsReady g.S.Shadows (ground (image g d) k) new.cpu new.shadows c.finish_step.new.ram) frames (ready1 g c).0;
      enough = omega (arith, all, counted, now, free, as_many, lengths);
    }

pub returns-in-Err-clause-between : goal.returns-in-Err-clause-between
returns-in-Err-clause-between g c = tt

-- ---- what the calls ask for

pub begin_over-requires-clause-frames : goal.begin_over-requires-clause-frames
begin_over-requires-clause-frames g c = c.requires.between.held.host.room

pub begin_over-requires-clause-stands : goal.begin_over-requires-clause-stands
begin_over-requires-clause-stands g c = both c.requires.between.held.stand c.requires.between.held.owns

pub begin_over-requires-clause-text : goal.begin_over-requires-clause-text
begin_over-requires-clause-text g c = c.requires.text

pub are_bytes-requires-clause-frames : goal.are_bytes-requires-clause-frames
are_bytes-requires-clause-frames g c =
    subst (λ (k : ℕ). 4096 * k ≤ length c.step_at.new.ram)
    (ap (λ (k : Control). k.frames) c.step_at.ensures.stays.0 ∙ c.begin_over.ensures.frames) c.step_at.ensures.sound.frames_in

pub are_bytes-requires-clause-laid : goal.are_bytes-requires-clause-laid
are_bytes-requires-clause-laid g c = text_laid _ _ _ (text_within c.args.image.now) c.requires.between.held.wedge.room
