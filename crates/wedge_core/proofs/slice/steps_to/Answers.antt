use Rattle.std.proofs.Common.{◌≡◌, ℕ, ◌+◌, ◌-◌, ◌*◌, ◌<◌, ◌≤◌, Bool, true, false, List, length, Ok, Err, refl, sym, ap, subst, ◌∙◌, arith}
use Rattle.std.specs.FinMap.{len}
use Rattle.descriptors.specs.declared.cpu.Cpu.{Cpu}
use Rattle.image_check.specs.Image.{Image}
use Rattle.shadow_tables.specs.Entries.{entries_of}
use Rattle.pv_io.specs.Sink.{Appends, AppendsFront}
use Rattle.frame_pool.specs.Held.{SameIn}
use Rattle.frame_pool.specs.Pool.{free_list}
use Rattle.frame_pool.specs.declared.Pool.{Pool}
use Rattle.board.specs.Boards.{given}
use Rattle.board.specs.Scripts.{Events}
use Rattle.run_trace.specs.declared.pause.Pause.TheVariants.{Stopped}
use Rattle.run_trace.specs.Text.{lines_of}
use Rattle.machine_model.specs.Keeping.{Roomy}
use Rattle.machine_model.specs.State.{Setting, State, wedge}
use Rattle.machine_model.specs.Run.{Set}
use Rattle.machine_model.specs.Taken.{Taken}
use Rattle.wedge_step.specs.Carried.{IsCarried}
use Rattle.wedge_step.specs.CarryLaws.{CarryLaws}
use Rattle.machine_model.specs.Step.{items_at}
use Rattle.machine_step.specs.Worked.{whats}
use Rattle.wedge_step.specs.declared.running.Running.{Running}
use Rattle.wedge_core.specs.Views.{may_run}
use Rattle.wedge_core.specs.Noted.{NotesOn, emptied_if, notes_then}
use Rattle.wedge_step.specs.Pools.{Keeps}
use Rattle.wedge_core.specs.Slices.{Counts}
use Rattle.wedge_core.proofs.SlicedBy.{SliceAs}
use Rattle.wedge_step.specs.Ready.{IsReady}
use Rattle.wedge_step.specs.Scene.{AreAmple}
use Rattle.wedge_step.specs.Standing.{IsHeld, IsAble, ground, state_of}
use Rattle.wedge_core.specs.Stepping.{Passes, StepAs}
use Rattle.wedge_core.proofs.CarriedOver.{CarriedWith, as_carried, with_kept, carries_past, carried_there, room_at, ample_then, drop_clashes, step_carries}
use Rattle.wedge_core.proofs.Passed.{CarriesPast}
use Rattle.wedge_core.proofs.Going.{DropClashes, StepCarries, going_none, going_past, going_turned, going_on, stepped_put, reached, stopped, failed, counted, counts_same, turned, notes_on_more, notes_on_none}
use Rattle.wedge_step.specs.Filled.{CountsFills, pages_kept}
use Rattle.wedge_step.proofs.Filling.{fills_same, fills_join, fills_within}
use Rattle.wedge_step.proofs.Keeping.{keeps_same, keeps_join}
use Rattle.wedge_step.proofs.Widening.{Widens}
use Rattle.wedge_core.proofs.Holding.{held_later, held_given, held_at, enough_then}
use Rattle.wedge_core.proofs.slice.steps_to.Given.{Over}
use Rattle.wedge_core.proofs.slice.steps_to.Goals as goal

-- ---- counts, apart from all else that is known

at_least : (n : ℕ) → n ≤ n
at_least n = omega arith

some_of : (n m : ℕ) → n ≤ n + m
some_of n m = omega arith

up_to : (a b c : ℕ) → a ≤ b → b ≤ c → a ≤ c
up_to a b c h k = omega (arith, h, k)

none_done : (done : ℕ) → done ≤ 0 → done ≡ 0
none_done done h = omega (arith, h)

same_then : (old new done : ℕ) → new ≡ old + done → done ≡ 0 → new ≡ old
same_then old new done h none = omega (arith, h, none)

next_then : (old mid new : ℕ) → new ≡ mid + 1 → mid ≡ old → new ≡ old + 1
next_then old mid new h same = omega (arith, h, same)

within_bound : (old new bound : ℕ) → new ≡ old + 1 → old < bound → new ≤ bound
within_bound old new bound h lt = omega (arith, h, lt)

at_bound : (now bound : ℕ) → now ≤ bound → bound ≤ now → now ≡ bound
at_bound now bound h k = omega (arith, h, k)

still_few : (fills step filled then : ℕ) → fills ≤ 128 * step → filled ≡ fills → then ≡ step → filled ≤ 128 * then
still_few fills step filled then few same still = omega (arith, few, same, still)

-- steps of a stretch, where it did some and where it did none
falls : (old mid done bound : ℕ) → mid ≡ old + done → 0 < done → old < bound → bound - mid < bound - old
falls old mid done bound h some lt = omega (arith, h, some, lt)

room_past : (retired then old mid done bound limit : ℕ) → then ≡ retired + done → mid ≡ old + done → mid ≤ bound → retired
    + (bound - old) < limit → then + (bound - mid) < limit
room_past retired then old mid done bound limit e n k h = omega (arith, e, n, k, h)

still_below : (old mid done bound limit : ℕ) → mid ≡ old + done → done ≤ 0 → old < bound → bound ≤ limit → mid < limit
still_below old mid done bound limit n none lt b = omega (arith, n, none, lt, b)

room_for_one : (retired then old done bound limit : ℕ) → retired + (bound - old) < limit → old < bound → then ≡ retired + done
    → done ≤ 0 → then + 1 < limit
room_for_one retired then old done bound limit h lt e none = omega (arith, h, lt, e, none)

-- and the one step after it
begun : (mid new : ℕ) → new ≡ mid + 1 → 0 < new
begun mid new h = omega (arith, h)

one_within : (old mid new done bound : ℕ) → new ≡ mid + 1 → mid ≡ old + done → done ≤ 0 → old < bound → new ≤ bound
one_within old mid new done bound e n none lt = omega (arith, e, n, none, lt)

falls_then : (old mid new rested done bound : ℕ) → new ≤ rested → new ≡ mid + 1 → mid ≡ old + done → done ≤ 0 → old < bound
    → bound - rested < bound - old
falls_then old mid new rested done bound l e n none lt = omega (arith, l, e, n, none, lt)

room_then : (retired then last old mid new rested done bound limit : ℕ) → retired + (bound - old) < limit → old < bound → last ≤ then + 1
    → then ≡ retired + done → done ≡ 0 → new ≡ mid + 1 → mid ≡ old → new ≤ rested → rested ≤ bound
    → last + (bound - rested) < limit
room_then retired then last old mid new rested done bound limit h lt few e none n same l w =
    omega (arith, h, lt, few, e, none, n, same, l, w)

-- the pages of what is kept present are some of all
module _ (g : Over) where
  few : (r : Running g.row.S.Denot) (memory : List ℕ) (pages before after : ℕ) → CountsFills pages (pages_kept g.S.Shadows r.shadows memory)
      before after → CountsFills pages (len (entries_of (g.S.Shadows.slots r.shadows memory))) before after
  few r memory pages before after f = fills_within pages (len (entries_of (g.S.Shadows.slots r.shadows memory)))
      (pages_kept g.S.Shadows r.shadows memory) before after (some_of _ _) f

  -- how the slice begins, where its sets keep the rule
  abbrev Begun : Image → Events → ℕ → Running g.row.S.Denot → List ℕ → Pool → Bool → List Taken → Type 0
  Begun image script f r memory pool notes_wanted past =
      (Roomy past → IsCarried g.S.Shadows (wedge image script f) past
      (state_of g.S.Shadows (wedge image script f) r memory) r.shadows memory)
      × AreAmple (length (free_list pool memory)) r.held × (notes_wanted ≡ false)

  -- and what is known of it between two steps
  abbrev Carried : Setting → Running g.row.S.Denot → List ℕ → List Taken → Type 0
  Carried m r memory steps = IsCarried g.S.Shadows m steps (state_of g.S.Shadows m r memory) r.shadows memory

  abbrev Knows : Setting → Running g.row.S.Denot → List ℕ → Set → List Taken → State → Type 0
  Knows m r memory kept steps b = CarriedWith g.S.Shadows m r.shadows memory kept steps b

  widens : Widens g.S.Shadows
  widens = record {
    same_other_roots = g.met.S.Shadows.same_other_roots;
    same_tables_under = g.met.S.Shadows.same_tables_under;
    wider = g.met.S.Shadows.wider;
    sized = g.met.S.Reloads.sized;
  }

  known_past : CarryLaws → (m : Setting) (r : Running g.row.S.Denot) (memory : List ℕ) → CarriesPast m (Knows m r memory)
  known_past laws m r memory = carries_past g.S.Shadows widens laws m r.shadows memory

  known_there : CarryLaws → (m : Setting) (r mid : Running g.row.S.Denot) (memory then : List ℕ) (kept : Set) → mid.shadows ≡ r.shadows
      → ∥ g.S.Shadows.stands r.shadows memory ∥₁
      → SameIn (g.S.Shadows.frames r.shadows memory) memory then → (steps : List Taken) (b : State) → Knows m r memory kept steps b
      → Knows m mid then kept steps b
  known_there laws m r mid memory then kept is stand same steps b =
      carried_there g.S.Shadows widens laws m r.shadows mid.shadows memory then kept steps b is stand same

  ready_at : (image : Image) (f n : ℕ) (cpu : Cpu) (s : g.row.S.Denot) (memory : List ℕ) → f ≡ n
      → IsReady g.S.Shadows (ground image f) cpu s memory → IsReady g.S.Shadows (ground image n) cpu s memory
  ready_at image f n cpu s memory is h = subst (λ (k : ℕ). IsReady g.S.Shadows (ground image k) cpu s memory) is h

pub loop-running-init : goal.loop-running-init
loop-running-init g c =
    let m = wedge c.args.image.now c.args.script.now.list c.args.running.now.frames in
    record {
      going = going_none m (state_of g.S.Shadows m c.args.running.now (g.H.Host.bytes c.args.host.now))
          (counted (g.H.Host.retired c.args.host.now) (g.H.Host.passed c.args.host.now)) (g.O.Sink.taken c.args.out.now)
          (pages_kept g.S.Shadows c.args.running.now.shadows (g.H.Host.bytes c.args.host.now)) c.args.running.now.fills
          (g.L.Notes.wants c.args.notes.now)
          (NotesOn (g.L.Notes.wants c.args.notes.now) (g.L.Notes.tells c.args.notes.now) (g.L.Notes.tells c.args.notes.now))
          (Begun g c.args.image.now c.args.script.now.list c.args.running.now.frames c.args.running.now (g.H.Host.bytes c.args.host.now)
          c.args.pool.now (g.L.Notes.wants c.args.notes.now)) (Knows g m c.args.running.now (g.H.Host.bytes c.args.host.now))
          (notes_on_none (g.L.Notes.wants c.args.notes.now) (g.L.Notes.tells c.args.notes.now)) (some_of _ _)
          (λ past s roomy. with_kept g.S.Shadows m c.args.running.now.shadows (g.H.Host.bytes c.args.host.now) past
          (state_of g.S.Shadows m c.args.running.now (g.H.Host.bytes c.args.host.now)) (s.0 roomy));
      held = c.requires.between.held;
      ready = c.requires.between.ready;
      able = c.requires.able;
      pool = keeps_same c.args.pool.now (g.H.Host.bytes c.args.host.now)
          (g.S.Shadows.frames c.args.running.now.shadows (g.H.Host.bytes c.args.host.now));
      filled = fills_same _ _ c.args.running.now.fills refl;
      started = c.requires.started;
      frames = refl;
      wants = refl;
      notes_wanted = c.wanted-notes_wanted.ensures;
      silent = λ w. refl;
      kept = refl;
      bound = c.requires.begun;
      room = c.requires.room;
    }

pub stretch-requires-clause-held : goal.stretch-requires-clause-held
stretch-requires-clause-held g c = (
  c.loop-running.pool,
  held_given g.S.Shadows c.args.image.now c.args.running.now.frames c.loop-running.running.frames c.loop-running.running c.begin.new.self
      c.loop-running.pool (g.H.Host.bytes c.loop-running.host) c.loop-running.invariant.frames c.loop-running.invariant.held,
)

pub loop-running-preserved-then-stretch-gt0 : goal.loop-running-preserved-then-stretch-gt0
loop-running-preserved-then-stretch-gt0 g c =
    let f = c.args.running.now.frames in
    let m = wedge c.args.image.now c.args.script.now.list f in
    let at = λ (n : ℕ) (r : Running g.row.S.Denot) (memory : List ℕ). state_of g.S.Shadows
    (wedge c.args.image.now c.args.script.now.list n) r memory in
    let old = at f c.args.running.now (g.H.Host.bytes c.args.host.now) in
    let counts = counted (g.H.Host.retired c.args.host.now) (g.H.Host.passed c.args.host.now) in
    let r = c.loop-running.running in
    let memory = g.H.Host.bytes c.loop-running.host in
    let so_far = counted (g.H.Host.retired c.loop-running.host) (g.H.Host.passed c.loop-running.host) in
    let told = g.O.Sink.taken c.args.out.now in
    let tells = g.O.Sink.taken c.loop-running.out in
    let inv = c.loop-running.invariant in
    let mid = c.stretch.new.running in
    let then_memory = g.H.Host.bytes c.stretch.new.host in
    let mid_counts = counted (g.H.Host.retired c.stretch.new.host) (g.H.Host.passed c.stretch.new.host) in
    let passes = subst (λ (n : ℕ). Passes (wedge c.args.image.now c.args.script.now.list n) (at n r memory) (at n mid then_memory) so_far
    mid_counts) inv.frames
    (c.stretch.ensures.goes.passes c.if-stretch-gt0.true r.board (sym c.begin.ensures)) in
    let on = NotesOn (g.L.Notes.wants c.args.notes.now) (g.L.Notes.tells c.args.notes.now) (g.L.Notes.tells c.loop-running.notes) in
    let laws = c.carry_laws.ensures in
    let begins = Begun g c.args.image.now c.args.script.now.list c.args.running.now.frames c.args.running.now
    (g.H.Host.bytes c.args.host.now) c.args.pool.now (g.L.Notes.wants c.args.notes.now) in
    record {
      going = going_turned m old (at f mid then_memory) counts mid_counts told tells
          (pages_kept g.S.Shadows c.args.running.now.shadows (g.H.Host.bytes c.args.host.now)) c.args.running.now.fills mid.fills
          (g.L.Notes.wants c.args.notes.now) on begins (Knows g m r memory) (Knows g m mid then_memory)
          (known_there g laws m r mid memory then_memory (entries_of (g.S.Shadows.slots mid.shadows then_memory))
          c.stretch.ensures.leaves.kept inv.held.stand c.stretch.ensures.leaves.apart)
          (going_past m old (at f r memory) (at f mid then_memory) counts so_far mid_counts told tells
          (pages_kept g.S.Shadows c.args.running.now.shadows (g.H.Host.bytes c.args.host.now)) c.args.running.now.fills r.fills mid.fills
          (g.L.Notes.wants c.args.notes.now) on begins (Knows g m r memory) inv.going c.stretch.ensures.leaves.filled.rises
          (few g mid then_memory _ _ _ (fills_join _ _ _ _ _ _ inv.filled c.stretch.ensures.leaves.filled)) laws
          (known_past g laws m r memory)
          (room_at g.S.Shadows c.args.image.now c.args.script.now.list f r c.loop-running.pool memory inv.held) passes);
      held = held_at g.S.Shadows c.args.image.now r.frames f mid c.loop-running.pool then_memory inv.frames
          (c.stretch.ensures.leaves.held c.loop-running.pool
          (held_given g.S.Shadows c.args.image.now c.args.running.now.frames c.loop-running.running.frames c.loop-running.running
          c.begin.new.self c.loop-running.pool (g.H.Host.bytes c.loop-running.host) c.loop-running.invariant.frames
          c.loop-running.invariant.held));
      ready = ready_at g c.args.image.now r.frames f mid.cpu mid.shadows then_memory inv.frames
          (c.stretch.ensures.leaves.ready (ready_at g c.args.image.now f r.frames r.cpu r.shadows memory (sym inv.frames) inv.ready));
      able = c.stretch.ensures.leaves.able;
      pool = keeps_join c.args.pool.now c.loop-running.pool c.loop-running.pool (g.H.Host.bytes c.args.host.now)
          (g.H.Host.bytes c.loop-running.host) (g.H.Host.bytes c.stretch.new.host)
          (g.S.Shadows.frames c.args.running.now.shadows (g.H.Host.bytes c.args.host.now))
          (g.S.Shadows.frames c.loop-running.running.shadows (g.H.Host.bytes c.loop-running.host))
          (g.S.Shadows.frames c.stretch.new.running.shadows (g.H.Host.bytes c.stretch.new.host))
          c.loop-running.invariant.pool
          (c.stretch.ensures.leaves.pool c.loop-running.pool
          (held_given g.S.Shadows c.args.image.now c.args.running.now.frames c.loop-running.running.frames c.loop-running.running
          c.begin.new.self c.loop-running.pool (g.H.Host.bytes c.loop-running.host) c.loop-running.invariant.frames
          c.loop-running.invariant.held));
      filled = fills_join _ _ _ _ _ _ inv.filled c.stretch.ensures.leaves.filled;
      started = c.stretch.ensures.started;
      frames = c.stretch.ensures.leaves.frames ∙ inv.frames;
      wants = inv.wants;
      notes_wanted = inv.notes_wanted;
      silent = inv.silent;
      kept = inv.kept;
      bound = c.stretch.ensures.counts.most;
      room = (let e = c.stretch.ensures.counts in room_past _ _ _ _ _ _ _ e.retired e.count e.most inv.room);
    }

pub one_step-requires-clause-between : goal.one_step-requires-clause-between
one_step-requires-clause-between g c = record {
  held =
      held_at g.S.Shadows c.args.image.now c.loop-running.running.frames c.stretch.new.running.frames c.stretch.new.running
      c.loop-running.pool (g.H.Host.bytes c.stretch.new.host) (sym c.stretch.ensures.leaves.frames)
      (c.stretch.ensures.leaves.held c.loop-running.pool
      (held_given g.S.Shadows c.args.image.now c.args.running.now.frames c.loop-running.running.frames c.loop-running.running
      c.begin.new.self c.loop-running.pool (g.H.Host.bytes c.loop-running.host) c.loop-running.invariant.frames
      c.loop-running.invariant.held));
  ready =
      let f = c.args.running.now.frames in
      let r = c.loop-running.running in
      let mid = c.stretch.new.running in
      let inv = c.loop-running.invariant in
      ready_at g c.args.image.now r.frames mid.frames mid.cpu mid.shadows (g.H.Host.bytes c.stretch.new.host)
      (sym c.stretch.ensures.leaves.frames)
      (c.stretch.ensures.leaves.ready (ready_at g c.args.image.now f r.frames r.cpu r.shadows (g.H.Host.bytes c.loop-running.host)
      (sym inv.frames) inv.ready));
  enough =
      let f = c.args.running.now.frames in
      enough_then g.S.Shadows (ground c.args.image.now f) c.args.running.now c.stretch.new.running c.args.pool.now c.loop-running.pool
      (g.H.Host.bytes c.args.host.now) (g.H.Host.bytes c.stretch.new.host) c.requires.between.held
      (held_at g.S.Shadows c.args.image.now c.loop-running.running.frames f c.stretch.new.running c.loop-running.pool
      (g.H.Host.bytes c.stretch.new.host) c.loop-running.invariant.frames
      (c.stretch.ensures.leaves.held c.loop-running.pool
      (held_given g.S.Shadows c.args.image.now c.args.running.now.frames c.loop-running.running.frames c.loop-running.running
      c.begin.new.self c.loop-running.pool (g.H.Host.bytes c.loop-running.host) c.loop-running.invariant.frames
      c.loop-running.invariant.held)))
      (keeps_join c.args.pool.now c.loop-running.pool c.loop-running.pool (g.H.Host.bytes c.args.host.now)
      (g.H.Host.bytes c.loop-running.host) (g.H.Host.bytes c.stretch.new.host)
      (g.S.Shadows.frames c.args.running.now.shadows (g.H.Host.bytes c.args.host.now))
      (g.S.Shadows.frames c.loop-running.running.shadows (g.H.Host.bytes c.loop-running.host))
      (g.S.Shadows.frames c.stretch.new.running.shadows (g.H.Host.bytes c.stretch.new.host))
      c.loop-running.invariant.pool
      (c.stretch.ensures.leaves.pool c.loop-running.pool
      (held_given g.S.Shadows c.args.image.now c.args.running.now.frames c.loop-running.running.frames c.loop-running.running
      c.begin.new.self c.loop-running.pool (g.H.Host.bytes c.loop-running.host) c.loop-running.invariant.frames
      c.loop-running.invariant.held))) c.requires.between.enough;
}

pub returns-in-Err-clause-slice : goal.returns-in-Err-clause-slice
returns-in-Err-clause-slice g c =
    let f = c.args.running.now.frames in
    let m = wedge c.args.image.now c.args.script.now.list f in
    let at = λ (n : ℕ) (r : Running g.row.S.Denot) (memory : List ℕ). state_of g.S.Shadows
    (wedge c.args.image.now c.args.script.now.list n) r memory in
    let old = at f c.args.running.now (g.H.Host.bytes c.args.host.now) in
    let counts = counted (g.H.Host.retired c.args.host.now) (g.H.Host.passed c.args.host.now) in
    let r = c.loop-running.running in
    let memory = g.H.Host.bytes c.loop-running.host in
    let so_far = counted (g.H.Host.retired c.loop-running.host) (g.H.Host.passed c.loop-running.host) in
    let told = g.O.Sink.taken c.args.out.now in
    let tells = g.O.Sink.taken c.loop-running.out in
    let inv = c.loop-running.invariant in
    let mid = c.stretch.new.running in
    let then_memory = g.H.Host.bytes c.stretch.new.host in
    let new = c.one_step.new.running in
    let new_memory = g.H.Host.bytes c.one_step.new.host in
    let mid_counts = counted (g.H.Host.retired c.stretch.new.host) (g.H.Host.passed c.stretch.new.host) in
    let new_counts = counted (g.H.Host.retired c.one_step.new.host) (g.H.Host.passed c.one_step.new.host) in
    let none = none_done _ c.if-stretch-gt0.false in
    let stays = subst (λ (n : ℕ). at n mid then_memory ≡ at n (record r { board = c.begin.new.self }) memory) inv.frames
    (c.stretch.ensures.goes.stays none) in
    let same : mid_counts ≡ so_far = counts_same (g.H.Host.retired c.loop-running.host) (g.H.Host.retired c.stretch.new.host)
    (g.H.Host.passed c.loop-running.host) (g.H.Host.passed c.stretch.new.host) (same_then _ _ _ c.stretch.ensures.counts.retired none)
    (c.stretch.ensures.counts.passed none) in
    let by_frames =
    subst (λ (n : ℕ). StepAs (wedge c.args.image.now c.args.script.now.list n) (at n mid then_memory) new.lost (Err c.in-Err.stop)
    (at n new new_memory) mid_counts new_counts) (c.stretch.ensures.leaves.frames
    ∙ inv.frames) (c.in-Err.ensures.steps.step c.args.script.now.list) in
    let step : StepAs m (record (at f r memory) { board = given r.board c.args.script.now.list r.step }) new.lost (Err c.in-Err.stop)
    (at f new new_memory) so_far new_counts =
    turned m (at f r memory) (at f mid then_memory) (at f new new_memory) c.begin.new.self new.lost (Err c.in-Err.stop) so_far mid_counts
    new_counts stays c.begin.ensures same by_frames in
    let e = c.in-Err.ensures.steps.leaves.stays.step in
    let n = c.stretch.ensures.counts.count in
    let still : new.step ≡ r.step = e ∙ same_then _ _ _ n none in
    let unmoved : new_counts ≡ so_far = counts_same (g.H.Host.retired c.stretch.new.host) (g.H.Host.retired c.one_step.new.host)
    (g.H.Host.passed c.stretch.new.host) (g.H.Host.passed c.one_step.new.host) c.in-Err.ensures.counts.retired
    c.in-Err.ensures.counts.passed ∙ same in
    let step_same : mid.step ≡ r.step = same_then _ _ _ n none in
    let notes_wanted = g.L.Notes.wants c.args.notes.now in
    let first = g.L.Notes.tells c.args.notes.now in
    let before = g.L.Notes.tells c.loop-running.notes in
    let after = g.L.Notes.tells c.tell.new.notes in
    let told_now = subst (λ (k : ℕ). NotesOn notes_wanted before after (emptied_if new.lost.before k)) step_same
    (subst (λ (w : Bool). NotesOn w before after (emptied_if new.lost.before mid.step)) inv.wants c.tell.ensures.told) in
    let rises : r.fills ≤ new.fills = up_to _ _ _ c.stretch.ensures.leaves.filled.rises c.in-Err.ensures.accounts.filled.rises in
    let begins = Begun g c.args.image.now c.args.script.now.list c.args.running.now.frames c.args.running.now
    (g.H.Host.bytes c.args.host.now) c.args.pool.now (g.L.Notes.wants c.args.notes.now) in
    let laws = c.carry_laws.ensures in
    let held_mid = held_at g.S.Shadows c.args.image.now r.frames f mid c.loop-running.pool then_memory inv.frames
    (c.stretch.ensures.leaves.held c.loop-running.pool
    (held_given g.S.Shadows c.args.image.now c.args.running.now.frames c.loop-running.running.frames c.loop-running.running c.begin.new.self
    c.loop-running.pool (g.H.Host.bytes c.loop-running.host) c.loop-running.invariant.frames c.loop-running.invariant.held)) in
    let keeps_mid = keeps_join c.args.pool.now c.loop-running.pool c.loop-running.pool (g.H.Host.bytes c.args.host.now) memory then_memory
    (g.S.Shadows.frames c.args.running.now.shadows (g.H.Host.bytes c.args.host.now)) (g.S.Shadows.frames r.shadows memory)
    (g.S.Shadows.frames mid.shadows then_memory)
    inv.pool (c.stretch.ensures.leaves.pool c.loop-running.pool
    (held_given g.S.Shadows c.args.image.now c.args.running.now.frames c.loop-running.running.frames c.loop-running.running c.begin.new.self
    c.loop-running.pool (g.H.Host.bytes c.loop-running.host) c.loop-running.invariant.frames c.loop-running.invariant.held)) in
    let clash : DropClashes m (at f r memory) new.lost.before begins (Knows g m r memory) =
    drop_clashes g.S.Shadows (widens g) laws c.args.image.now c.args.script.now.list f r mid new memory then_memory new_memory
    c.loop-running.pool c.begin.new.self begins c.wanted-notes_wanted.result
    (c.stretch.ensures.leaves.frames ∙ inv.frames) stays c.begin.ensures inv.held held_mid c.stretch.ensures.leaves.kept
    c.stretch.ensures.leaves.apart
    (λ past s. ample_then g.S.Shadows (widens g) laws (ground c.args.image.now f) c.args.running.now mid c.args.pool.now c.loop-running.pool
    (g.H.Host.bytes c.args.host.now) then_memory c.requires.between.held held_mid keeps_mid s.1)
    c.in-Err.ensures.steps.clashed in
    let ends = stopped m c.args.bound old (at f r memory) (at f new new_memory) new.lost c.in-Err.stop counts so_far told tells
    (pages_kept g.S.Shadows c.args.running.now.shadows (g.H.Host.bytes c.args.host.now)) c.args.running.now.fills r.fills new.fills
    notes_wanted (NotesOn notes_wanted first before) (NotesOn notes_wanted first after)
    begins (Carried g m new new_memory) (Knows g m r memory) inv.going step c.loop-running-test.true still rises
    (known_past g laws m r memory) clash
    (notes_on_more notes_wanted first before after (emptied_if new.lost.before r.step) told_now) in
    subst (λ (x : Counts). SliceAs m c.args.bound old (at f new new_memory) counts x told tells
    (pages_kept g.S.Shadows c.args.running.now.shadows (g.H.Host.bytes c.args.host.now)) c.args.running.now.fills new.fills notes_wanted
    (NotesOn notes_wanted first after) (record { before = begins; after = Carried g m new new_memory }) (Ok (Stopped c.in-Err.stop)))
    (sym unmoved) ends

pub returns-in-Err-put_seen-clause-slice : goal.returns-in-Err-put_seen-clause-slice
returns-in-Err-put_seen-clause-slice g c =
    let f = c.args.running.now.frames in
    let m = wedge c.args.image.now c.args.script.now.list f in
    let at = λ (n : ℕ) (r : Running g.row.S.Denot) (memory : List ℕ). state_of g.S.Shadows
    (wedge c.args.image.now c.args.script.now.list n) r memory in
    let old = at f c.args.running.now (g.H.Host.bytes c.args.host.now) in
    let counts = counted (g.H.Host.retired c.args.host.now) (g.H.Host.passed c.args.host.now) in
    let r = c.loop-running.running in
    let memory = g.H.Host.bytes c.loop-running.host in
    let so_far = counted (g.H.Host.retired c.loop-running.host) (g.H.Host.passed c.loop-running.host) in
    let told = g.O.Sink.taken c.args.out.now in
    let tells = g.O.Sink.taken c.loop-running.out in
    let inv = c.loop-running.invariant in
    let mid = c.stretch.new.running in
    let then_memory = g.H.Host.bytes c.stretch.new.host in
    let new = c.one_step.new.running in
    let new_memory = g.H.Host.bytes c.one_step.new.host in
    let mid_counts = counted (g.H.Host.retired c.stretch.new.host) (g.H.Host.passed c.stretch.new.host) in
    let new_counts = counted (g.H.Host.retired c.one_step.new.host) (g.H.Host.passed c.one_step.new.host) in
    let none = none_done _ c.if-stretch-gt0.false in
    let stays = subst (λ (n : ℕ). at n mid then_memory ≡ at n (record r { board = c.begin.new.self }) memory) inv.frames
    (c.stretch.ensures.goes.stays none) in
    let same : mid_counts ≡ so_far = counts_same (g.H.Host.retired c.loop-running.host) (g.H.Host.retired c.stretch.new.host)
    (g.H.Host.passed c.loop-running.host) (g.H.Host.passed c.stretch.new.host) (same_then _ _ _ c.stretch.ensures.counts.retired none)
    (c.stretch.ensures.counts.passed none) in
    let by_frames =
    subst (λ (n : ℕ). StepAs (wedge c.args.image.now c.args.script.now.list n) (at n mid then_memory) new.lost (Ok c.in-Ok.seen)
    (at n new new_memory) mid_counts new_counts) (c.stretch.ensures.leaves.frames
    ∙ inv.frames) (c.in-Ok.ensures.steps.step c.args.script.now.list) in
    let step : StepAs m (record (at f r memory) { board = given r.board c.args.script.now.list r.step }) new.lost (Ok c.in-Ok.seen)
    (at f new new_memory) so_far new_counts =
    turned m (at f r memory) (at f mid then_memory) (at f new new_memory) c.begin.new.self new.lost (Ok c.in-Ok.seen) so_far mid_counts
    new_counts stays c.begin.ensures same by_frames in
    let step_same : c.stretch.new.running.step ≡ r.step = same_then _ _ _ c.stretch.ensures.counts.count none in
    let last = g.O.Sink.taken c.put_seen.new.out in
    let put = subst (λ (n : ℕ). AppendsFront tells last (lines_of (items_at n (whats c.in-Ok.seen)))) step_same
    c.in-Err-put_seen.ensures.failed in
    let count : new.step ≡ r.step + 1 = next_then _ _ _ c.in-Ok.ensures.steps.leaves.count step_same in
    let notes_wanted = g.L.Notes.wants c.args.notes.now in
    let first = g.L.Notes.tells c.args.notes.now in
    let before = g.L.Notes.tells c.loop-running.notes in
    let after = g.L.Notes.tells c.tell_both.new.notes in
    let told_now = subst (λ (k : ℕ). NotesOn notes_wanted before after (notes_then new.lost k)) step_same
    (subst (λ (w : Bool). NotesOn w before after (notes_then new.lost mid.step)) inv.wants c.tell_both.ensures.told) in
    let rises : r.fills ≤ new.fills = up_to _ _ _ c.stretch.ensures.leaves.filled.rises c.in-Ok.ensures.accounts.filled.rises in
    let more =
    few g new new_memory _ _ _ (fills_join _ _ _ _ _ _ (fills_join _ _ _ _ _ _ inv.filled c.stretch.ensures.leaves.filled)
    c.in-Ok.ensures.accounts.filled) in
    let exact = λ (w : notes_wanted ≡ true). c.in-Ok.ensures.steps.leaves.reloaded (inv.notes_wanted ∙ w) in
    let laws = c.carry_laws.ensures in
    let begins = Begun g c.args.image.now c.args.script.now.list c.args.running.now.frames c.args.running.now
    (g.H.Host.bytes c.args.host.now) c.args.pool.now (g.L.Notes.wants c.args.notes.now) in
    let held_mid = held_at g.S.Shadows c.args.image.now r.frames f mid c.loop-running.pool then_memory inv.frames
    (c.stretch.ensures.leaves.held c.loop-running.pool
    (held_given g.S.Shadows c.args.image.now c.args.running.now.frames c.loop-running.running.frames c.loop-running.running c.begin.new.self
    c.loop-running.pool (g.H.Host.bytes c.loop-running.host) c.loop-running.invariant.frames c.loop-running.invariant.held)) in
    let keeps_mid = keeps_join c.args.pool.now c.loop-running.pool c.loop-running.pool (g.H.Host.bytes c.args.host.now) memory then_memory
    (g.S.Shadows.frames c.args.running.now.shadows (g.H.Host.bytes c.args.host.now)) (g.S.Shadows.frames r.shadows memory)
    (g.S.Shadows.frames mid.shadows then_memory)
    inv.pool (c.stretch.ensures.leaves.pool c.loop-running.pool
    (held_given g.S.Shadows c.args.image.now c.args.running.now.frames c.loop-running.running.frames c.loop-running.running c.begin.new.self
    c.loop-running.pool (g.H.Host.bytes c.loop-running.host) c.loop-running.invariant.frames c.loop-running.invariant.held)) in
    let over : StepCarries m (at f r memory) (at f new new_memory) new.lost begins (Knows g m r memory) (Knows g m new new_memory) =
    step_carries g.S.Shadows (widens g) laws c.args.image.now c.args.script.now.list f r mid new memory then_memory new_memory
    c.loop-running.pool c.begin.new.self begins c.wanted-notes_wanted.result
    (c.stretch.ensures.leaves.frames ∙ inv.frames) stays c.begin.ensures inv.held held_mid c.stretch.ensures.leaves.kept
    c.stretch.ensures.leaves.apart (λ past s. inv.notes_wanted ∙ s.2)
    (λ past s. ample_then g.S.Shadows (widens g) laws (ground c.args.image.now f) c.args.running.now mid c.args.pool.now c.loop-running.pool
    (g.H.Host.bytes c.args.host.now) then_memory c.requires.between.held held_mid keeps_mid s.1)
    c.in-Ok.ensures.steps.carried c.in-Ok.ensures.steps.clashed in
    let s = going_on m old (at f r memory) (at f new new_memory) new.lost c.in-Ok.seen counts so_far new_counts told tells
    (pages_kept g.S.Shadows c.args.running.now.shadows (g.H.Host.bytes c.args.host.now)) c.args.running.now.fills r.fills new.fills
    notes_wanted (NotesOn notes_wanted first before) (NotesOn notes_wanted first after)
    begins (Knows g m r memory) (Knows g m new new_memory) inv.going step count rises more exact laws (known_past g laws m r memory) over
    (notes_on_more notes_wanted first before after (notes_then new.lost r.step) told_now) in
    failed m c.args.bound old (at f r memory) (at f new new_memory) c.in-Ok.seen c.in-Err-put_seen.failed counts new_counts told tells last
    (pages_kept g.S.Shadows c.args.running.now.shadows (g.H.Host.bytes c.args.host.now)) c.args.running.now.fills new.fills notes_wanted
    (NotesOn notes_wanted first after) begins (Carried g m new new_memory) (Knows g m new new_memory) s put
    (within_bound _ _ _ count c.loop-running-test.true) (known_past g laws m new new_memory)

pub loop-running-preserved : goal.loop-running-preserved
loop-running-preserved g c =
    let f = c.args.running.now.frames in
    let m = wedge c.args.image.now c.args.script.now.list f in
    let at = λ (n : ℕ) (r : Running g.row.S.Denot) (memory : List ℕ). state_of g.S.Shadows
    (wedge c.args.image.now c.args.script.now.list n) r memory in
    let old = at f c.args.running.now (g.H.Host.bytes c.args.host.now) in
    let counts = counted (g.H.Host.retired c.args.host.now) (g.H.Host.passed c.args.host.now) in
    let r = c.loop-running.running in
    let memory = g.H.Host.bytes c.loop-running.host in
    let so_far = counted (g.H.Host.retired c.loop-running.host) (g.H.Host.passed c.loop-running.host) in
    let told = g.O.Sink.taken c.args.out.now in
    let tells = g.O.Sink.taken c.loop-running.out in
    let inv = c.loop-running.invariant in
    let mid = c.stretch.new.running in
    let then_memory = g.H.Host.bytes c.stretch.new.host in
    let new = c.one_step.new.running in
    let new_memory = g.H.Host.bytes c.one_step.new.host in
    let mid_counts = counted (g.H.Host.retired c.stretch.new.host) (g.H.Host.passed c.stretch.new.host) in
    let new_counts = counted (g.H.Host.retired c.one_step.new.host) (g.H.Host.passed c.one_step.new.host) in
    let none = none_done _ c.if-stretch-gt0.false in
    let stays = subst (λ (n : ℕ). at n mid then_memory ≡ at n (record r { board = c.begin.new.self }) memory) inv.frames
    (c.stretch.ensures.goes.stays none) in
    let same : mid_counts ≡ so_far = counts_same (g.H.Host.retired c.loop-running.host) (g.H.Host.retired c.stretch.new.host)
    (g.H.Host.passed c.loop-running.host) (g.H.Host.passed c.stretch.new.host) (same_then _ _ _ c.stretch.ensures.counts.retired none)
    (c.stretch.ensures.counts.passed none) in
    let by_frames =
    subst (λ (n : ℕ). StepAs (wedge c.args.image.now c.args.script.now.list n) (at n mid then_memory) new.lost (Ok c.in-Ok.seen)
    (at n new new_memory) mid_counts new_counts) (c.stretch.ensures.leaves.frames
    ∙ inv.frames) (c.in-Ok.ensures.steps.step c.args.script.now.list) in
    let step : StepAs m (record (at f r memory) { board = given r.board c.args.script.now.list r.step }) new.lost (Ok c.in-Ok.seen)
    (at f new new_memory) so_far new_counts =
    turned m (at f r memory) (at f mid then_memory) (at f new new_memory) c.begin.new.self new.lost (Ok c.in-Ok.seen) so_far mid_counts
    new_counts stays c.begin.ensures same by_frames in
    let step_same : c.stretch.new.running.step ≡ r.step = same_then _ _ _ c.stretch.ensures.counts.count none in
    let last = g.O.Sink.taken c.put_seen.new.out in
    let put = subst (λ (n : ℕ). Appends tells last (lines_of (items_at n (whats c.in-Ok.seen)))) step_same c.in-Ok-put_seen.ensures.ok in
    let count : new.step ≡ r.step + 1 = next_then _ _ _ c.in-Ok.ensures.steps.leaves.count step_same in
    let notes_wanted = g.L.Notes.wants c.args.notes.now in
    let first = g.L.Notes.tells c.args.notes.now in
    let before = g.L.Notes.tells c.loop-running.notes in
    let after = g.L.Notes.tells c.tell_both.new.notes in
    let told_now = subst (λ (k : ℕ). NotesOn notes_wanted before after (notes_then new.lost k)) step_same
    (subst (λ (w : Bool). NotesOn w before after (notes_then new.lost mid.step)) inv.wants c.tell_both.ensures.told) in
    let rises : r.fills ≤ new.fills = up_to _ _ _ c.stretch.ensures.leaves.filled.rises c.in-Ok.ensures.accounts.filled.rises in
    let more =
    few g new new_memory _ _ _ (fills_join _ _ _ _ _ _ (fills_join _ _ _ _ _ _ inv.filled c.stretch.ensures.leaves.filled)
    c.in-Ok.ensures.accounts.filled) in
    let exact = λ (w : notes_wanted ≡ true). c.in-Ok.ensures.steps.leaves.reloaded (inv.notes_wanted ∙ w) in
    let laws = c.carry_laws.ensures in
    let begins = Begun g c.args.image.now c.args.script.now.list c.args.running.now.frames c.args.running.now
    (g.H.Host.bytes c.args.host.now) c.args.pool.now (g.L.Notes.wants c.args.notes.now) in
    let held_mid = held_at g.S.Shadows c.args.image.now r.frames f mid c.loop-running.pool then_memory inv.frames
    (c.stretch.ensures.leaves.held c.loop-running.pool
    (held_given g.S.Shadows c.args.image.now c.args.running.now.frames c.loop-running.running.frames c.loop-running.running c.begin.new.self
    c.loop-running.pool (g.H.Host.bytes c.loop-running.host) c.loop-running.invariant.frames c.loop-running.invariant.held)) in
    let keeps_mid = keeps_join c.args.pool.now c.loop-running.pool c.loop-running.pool (g.H.Host.bytes c.args.host.now) memory then_memory
    (g.S.Shadows.frames c.args.running.now.shadows (g.H.Host.bytes c.args.host.now)) (g.S.Shadows.frames r.shadows memory)
    (g.S.Shadows.frames mid.shadows then_memory)
    inv.pool (c.stretch.ensures.leaves.pool c.loop-running.pool
    (held_given g.S.Shadows c.args.image.now c.args.running.now.frames c.loop-running.running.frames c.loop-running.running c.begin.new.self
    c.loop-running.pool (g.H.Host.bytes c.loop-running.host) c.loop-running.invariant.frames c.loop-running.invariant.held)) in
    let over : StepCarries m (at f r memory) (at f new new_memory) new.lost begins (Knows g m r memory) (Knows g m new new_memory) =
    step_carries g.S.Shadows (widens g) laws c.args.image.now c.args.script.now.list f r mid new memory then_memory new_memory
    c.loop-running.pool c.begin.new.self begins c.wanted-notes_wanted.result
    (c.stretch.ensures.leaves.frames ∙ inv.frames) stays c.begin.ensures inv.held held_mid c.stretch.ensures.leaves.kept
    c.stretch.ensures.leaves.apart (λ past s. inv.notes_wanted ∙ s.2)
    (λ past s. ample_then g.S.Shadows (widens g) laws (ground c.args.image.now f) c.args.running.now mid c.args.pool.now c.loop-running.pool
    (g.H.Host.bytes c.args.host.now) then_memory c.requires.between.held held_mid keeps_mid s.1)
    c.in-Ok.ensures.steps.carried c.in-Ok.ensures.steps.clashed in
    let s = going_on m old (at f r memory) (at f new new_memory) new.lost c.in-Ok.seen counts so_far new_counts told tells
    (pages_kept g.S.Shadows c.args.running.now.shadows (g.H.Host.bytes c.args.host.now)) c.args.running.now.fills r.fills new.fills
    notes_wanted (NotesOn notes_wanted first before) (NotesOn notes_wanted first after)
    begins (Knows g m r memory) (Knows g m new new_memory) inv.going step count rises more exact laws (known_past g laws m r memory) over
    (notes_on_more notes_wanted first before after (notes_then new.lost r.step) told_now) in
    let stepped = stepped_put m old (at f r memory) (at f new new_memory) c.in-Ok.seen counts new_counts told tells last
    (pages_kept g.S.Shadows c.args.running.now.shadows (g.H.Host.bytes c.args.host.now)) c.args.running.now.fills new.fills notes_wanted
    (NotesOn notes_wanted first after) begins (Knows g m new new_memory) s put in
    let rested = c.rest.new.running in
    let frames_then : new.frames ≡ f = c.in-Ok.ensures.accounts.frames ∙ (c.stretch.ensures.leaves.frames ∙ inv.frames) in
    let passes = subst (λ (n : ℕ). Passes (wedge c.args.image.now c.args.script.now.list n) (at n new new_memory) (at n rested new_memory)
    new_counts new_counts) frames_then
    (c.rest.ensures.passes c.args.image.now new_memory new_counts) in
    let held_new = held_at g.S.Shadows c.args.image.now mid.frames f new c.one_step.new.pool new_memory
    (c.stretch.ensures.leaves.frames ∙ inv.frames) c.in-Ok.ensures.steps.leaves.held in
    let held = held_later g.S.Shadows (ground c.args.image.now f) new rested.board rested.step c.one_step.new.pool new_memory
    c.rest.ensures.later held_new in
    let as_were : rested ≡ record new { board = rested.board; step = rested.step } = c.rest.ensures.same in
    record {
      going = going_turned m old (at f rested new_memory) counts new_counts told last
          (pages_kept g.S.Shadows c.args.running.now.shadows (g.H.Host.bytes c.args.host.now)) c.args.running.now.fills rested.fills
          notes_wanted (NotesOn notes_wanted first after) begins (Knows g m new new_memory) (Knows g m rested new_memory)
          (known_there g laws m new rested new_memory new_memory (entries_of (g.S.Shadows.slots rested.shadows new_memory))
          (ap (λ (x : Running g.row.S.Denot). x.shadows) as_were) held_new.stand (record { size = refl; frames = λ frame e. refl }))
          (going_past m old (at f new new_memory) (at f rested new_memory) counts new_counts new_counts told last
          (pages_kept g.S.Shadows c.args.running.now.shadows (g.H.Host.bytes c.args.host.now)) c.args.running.now.fills new.fills
          rested.fills notes_wanted (NotesOn notes_wanted first after) begins (Knows g m new new_memory) stepped
          (subst (λ (x : Running g.row.S.Denot). new.fills ≤ x.fills) (sym as_were) (at_least _))
          (subst (λ (x : Running g.row.S.Denot). CountsFills
          (pages_kept g.S.Shadows c.args.running.now.shadows (g.H.Host.bytes c.args.host.now))
          (len (entries_of (g.S.Shadows.slots x.shadows new_memory))) c.args.running.now.fills x.fills) (sym as_were) more)
          laws (known_past g laws m new new_memory)
          (room_at g.S.Shadows c.args.image.now c.args.script.now.list f new c.one_step.new.pool new_memory held_new) passes);
      held = subst (λ (x : Running g.row.S.Denot). IsHeld g.S.Shadows (ground c.args.image.now f) x c.one_step.new.pool new_memory)
          (sym as_were) held;
      ready =
          subst (λ (x : Running g.row.S.Denot). IsReady g.S.Shadows (ground c.args.image.now f) x.cpu x.shadows new_memory) (sym as_were)
          (ready_at g c.args.image.now mid.frames f new.cpu new.shadows new_memory (c.stretch.ensures.leaves.frames ∙ inv.frames)
          c.in-Ok.ensures.steps.leaves.ready);
      able = subst IsAble (sym (ap (λ (x : Running g.row.S.Denot). x.cpu) as_were)) c.in-Ok.ensures.steps.able;
      pool = subst (λ (x : Running g.row.S.Denot). Keeps c.args.pool.now c.one_step.new.pool (g.H.Host.bytes c.args.host.now) new_memory
          (g.S.Shadows.frames c.args.running.now.shadows (g.H.Host.bytes c.args.host.now))
          (g.S.Shadows.frames x.shadows new_memory)) (sym as_were)
          (keeps_join c.args.pool.now c.loop-running.pool c.one_step.new.pool (g.H.Host.bytes c.args.host.now)
          (g.H.Host.bytes c.stretch.new.host) (g.H.Host.bytes c.one_step.new.host)
          (g.S.Shadows.frames c.args.running.now.shadows (g.H.Host.bytes c.args.host.now))
          (g.S.Shadows.frames c.stretch.new.running.shadows (g.H.Host.bytes c.stretch.new.host))
          (g.S.Shadows.frames c.one_step.new.running.shadows (g.H.Host.bytes c.one_step.new.host))
          (keeps_join c.args.pool.now c.loop-running.pool c.loop-running.pool (g.H.Host.bytes c.args.host.now)
          (g.H.Host.bytes c.loop-running.host) (g.H.Host.bytes c.stretch.new.host)
          (g.S.Shadows.frames c.args.running.now.shadows (g.H.Host.bytes c.args.host.now))
          (g.S.Shadows.frames c.loop-running.running.shadows (g.H.Host.bytes c.loop-running.host))
          (g.S.Shadows.frames c.stretch.new.running.shadows (g.H.Host.bytes c.stretch.new.host))
          c.loop-running.invariant.pool
          (c.stretch.ensures.leaves.pool c.loop-running.pool
          (held_given g.S.Shadows c.args.image.now c.args.running.now.frames c.loop-running.running.frames c.loop-running.running
          c.begin.new.self c.loop-running.pool (g.H.Host.bytes c.loop-running.host) c.loop-running.invariant.frames
          c.loop-running.invariant.held))) c.in-Ok.ensures.accounts.pool);
      filled =
          subst (λ (x : Running g.row.S.Denot). CountsFills
          (pages_kept g.S.Shadows c.args.running.now.shadows (g.H.Host.bytes c.args.host.now)) (pages_kept g.S.Shadows x.shadows new_memory)
          c.args.running.now.fills x.fills) (sym as_were)
          (fills_join _ _ _ _ _ _ (fills_join _ _ _ _ _ _ inv.filled c.stretch.ensures.leaves.filled) c.in-Ok.ensures.accounts.filled);
      started = c.in-Ok.ensures.started;
      frames = ap (λ (x : Running g.row.S.Denot). x.frames) as_were ∙ frames_then;
      wants = c.tell_both.ensures.wants ∙ inv.wants;
      notes_wanted = inv.notes_wanted;
      silent = λ unwanted. c.tell_both.ensures.silent (inv.wants ∙ unwanted) ∙ inv.silent unwanted;
      kept = c.in-Ok-put_seen.ensures.kept ∙ inv.kept;
      bound = c.rest.ensures.within;
      room = room_then _ _ _ _ _ _ _ _ _ _ inv.room c.loop-running-test.true c.in-Ok.ensures.counts.few c.stretch.ensures.counts.retired
          none c.in-Ok.ensures.steps.leaves.count step_same c.rest.ensures.later c.rest.ensures.within;
    }

pub returns-clause-slice : goal.returns-clause-slice
returns-clause-slice g c =
    let f = c.args.running.now.frames in
    let m = wedge c.args.image.now c.args.script.now.list f in
    let at = λ (n : ℕ) (r : Running g.row.S.Denot) (memory : List ℕ). state_of g.S.Shadows
    (wedge c.args.image.now c.args.script.now.list n) r memory in
    let old = at f c.args.running.now (g.H.Host.bytes c.args.host.now) in
    let counts = counted (g.H.Host.retired c.args.host.now) (g.H.Host.passed c.args.host.now) in
    let r = c.loop-running.running in
    let memory = g.H.Host.bytes c.loop-running.host in
    let so_far = counted (g.H.Host.retired c.loop-running.host) (g.H.Host.passed c.loop-running.host) in
    let told = g.O.Sink.taken c.args.out.now in
    let tells = g.O.Sink.taken c.loop-running.out in
    let inv = c.loop-running.invariant in
    reached m c.args.bound old (at f r memory) counts so_far told tells
    (pages_kept g.S.Shadows c.args.running.now.shadows (g.H.Host.bytes c.args.host.now)) c.args.running.now.fills r.fills
    (g.L.Notes.wants c.args.notes.now)
    (NotesOn (g.L.Notes.wants c.args.notes.now) (g.L.Notes.tells c.args.notes.now) (g.L.Notes.tells c.loop-running.notes))
    (Begun g c.args.image.now c.args.script.now.list c.args.running.now.frames c.args.running.now (g.H.Host.bytes c.args.host.now)
    c.args.pool.now (g.L.Notes.wants c.args.notes.now)) (Carried g m r memory) (Knows g m r memory) inv.going
    (at_bound _ _ inv.bound c.loop-running-test.false) (known_past g c.carry_laws.ensures m r memory)
    (λ steps whole k. as_carried g.S.Shadows m r.shadows memory (at f r memory) steps whole refl k)

-- ---- what else is said of each end

pub returns-in-Err-clause-started : goal.returns-in-Err-clause-started
returns-in-Err-clause-started g c = c.in-Err.ensures.started

pub returns-in-Err-put_seen-clause-started : goal.returns-in-Err-put_seen-clause-started
returns-in-Err-put_seen-clause-started g c = c.in-Ok.ensures.started

pub returns-clause-started : goal.returns-clause-started
returns-clause-started g c = c.loop-running.invariant.started

pub returns-in-Err-clause-leaves : goal.returns-in-Err-clause-leaves
returns-in-Err-clause-leaves g c = record {
  reached = tt;
  held = tt;
  ready = tt;
  able = tt;
  counted = c.in-Err.ensures.accounts.counted;
  stands = c.in-Err.ensures.accounts.stands;
  pool =
      keeps_join c.args.pool.now c.loop-running.pool c.one_step.new.pool (g.H.Host.bytes c.args.host.now)
      (g.H.Host.bytes c.stretch.new.host) (g.H.Host.bytes c.one_step.new.host)
      (g.S.Shadows.frames c.args.running.now.shadows (g.H.Host.bytes c.args.host.now))
      (g.S.Shadows.frames c.stretch.new.running.shadows (g.H.Host.bytes c.stretch.new.host))
      (g.S.Shadows.frames c.one_step.new.running.shadows (g.H.Host.bytes c.one_step.new.host))
      (keeps_join c.args.pool.now c.loop-running.pool c.loop-running.pool (g.H.Host.bytes c.args.host.now)
      (g.H.Host.bytes c.loop-running.host) (g.H.Host.bytes c.stretch.new.host)
      (g.S.Shadows.frames c.args.running.now.shadows (g.H.Host.bytes c.args.host.now))
      (g.S.Shadows.frames c.loop-running.running.shadows (g.H.Host.bytes c.loop-running.host))
      (g.S.Shadows.frames c.stretch.new.running.shadows (g.H.Host.bytes c.stretch.new.host))
      c.loop-running.invariant.pool
      (c.stretch.ensures.leaves.pool c.loop-running.pool
      (held_given g.S.Shadows c.args.image.now c.args.running.now.frames c.loop-running.running.frames c.loop-running.running
      c.begin.new.self c.loop-running.pool (g.H.Host.bytes c.loop-running.host) c.loop-running.invariant.frames
      c.loop-running.invariant.held))) c.in-Err.ensures.accounts.pool;
  few =
      let held = c.stretch.ensures.leaves.held c.loop-running.pool
      (held_given g.S.Shadows c.args.image.now c.args.running.now.frames c.loop-running.running.frames c.loop-running.running
      c.begin.new.self c.loop-running.pool (g.H.Host.bytes c.loop-running.host) c.loop-running.invariant.frames
      c.loop-running.invariant.held) in
      still_few _ _ _ _ held.fills c.in-Err.ensures.steps.leaves.stays.fills c.in-Err.ensures.steps.leaves.stays.step;
  filled = fills_join _ _ _ _ _ _ (fills_join _ _ _ _ _ _ c.loop-running.invariant.filled c.stretch.ensures.leaves.filled)
      c.in-Err.ensures.accounts.filled;
  frames = c.in-Err.ensures.accounts.frames ∙ (c.stretch.ensures.leaves.frames ∙ c.loop-running.invariant.frames);
}

pub returns-in-Err-clause-silent : goal.returns-in-Err-clause-silent
returns-in-Err-clause-silent g c = record {
  wants = c.tell.ensures.wants ∙ c.loop-running.invariant.wants;
  silent = λ unwanted. c.tell.ensures.silent (c.loop-running.invariant.wants ∙ unwanted) ∙ c.loop-running.invariant.silent unwanted;
}

pub returns-in-Err-clause-faults : goal.returns-in-Err-clause-faults
returns-in-Err-clause-faults g c = record {
  kept = c.loop-running.invariant.kept;
  cause = tt;
}

pub returns-in-Err-put_seen-clause-leaves : goal.returns-in-Err-put_seen-clause-leaves
returns-in-Err-put_seen-clause-leaves g c = record {
  reached = tt;
  held = tt;
  ready = tt;
  able = tt;
  counted = c.in-Ok.ensures.accounts.counted;
  stands = c.in-Ok.ensures.accounts.stands;
  pool =
      keeps_join c.args.pool.now c.loop-running.pool c.one_step.new.pool (g.H.Host.bytes c.args.host.now)
      (g.H.Host.bytes c.stretch.new.host) (g.H.Host.bytes c.one_step.new.host)
      (g.S.Shadows.frames c.args.running.now.shadows (g.H.Host.bytes c.args.host.now))
      (g.S.Shadows.frames c.stretch.new.running.shadows (g.H.Host.bytes c.stretch.new.host))
      (g.S.Shadows.frames c.one_step.new.running.shadows (g.H.Host.bytes c.one_step.new.host))
      (keeps_join c.args.pool.now c.loop-running.pool c.loop-running.pool (g.H.Host.bytes c.args.host.now)
      (g.H.Host.bytes c.loop-running.host) (g.H.Host.bytes c.stretch.new.host)
      (g.S.Shadows.frames c.args.running.now.shadows (g.H.Host.bytes c.args.host.now))
      (g.S.Shadows.frames c.loop-running.running.shadows (g.H.Host.bytes c.loop-running.host))
      (g.S.Shadows.frames c.stretch.new.running.shadows (g.H.Host.bytes c.stretch.new.host))
      c.loop-running.invariant.pool
      (c.stretch.ensures.leaves.pool c.loop-running.pool
      (held_given g.S.Shadows c.args.image.now c.args.running.now.frames c.loop-running.running.frames c.loop-running.running
      c.begin.new.self c.loop-running.pool (g.H.Host.bytes c.loop-running.host) c.loop-running.invariant.frames
      c.loop-running.invariant.held))) c.in-Ok.ensures.accounts.pool;
  few = c.in-Ok.ensures.steps.leaves.held.fills;
  filled = fills_join _ _ _ _ _ _ (fills_join _ _ _ _ _ _ c.loop-running.invariant.filled c.stretch.ensures.leaves.filled)
      c.in-Ok.ensures.accounts.filled;
  frames = c.in-Ok.ensures.accounts.frames ∙ (c.stretch.ensures.leaves.frames ∙ c.loop-running.invariant.frames);
}

pub returns-in-Err-put_seen-clause-silent : goal.returns-in-Err-put_seen-clause-silent
returns-in-Err-put_seen-clause-silent g c = record {
  wants = c.tell_both.ensures.wants ∙ c.loop-running.invariant.wants;
  silent = λ unwanted. c.tell_both.ensures.silent (c.loop-running.invariant.wants ∙ unwanted) ∙ c.loop-running.invariant.silent unwanted;
}

pub returns-in-Err-put_seen-clause-faults : goal.returns-in-Err-put_seen-clause-faults
returns-in-Err-put_seen-clause-faults g c = record {
  kept = tt;
  cause =
      let a = c.loop-running.invariant.kept in let b = c.in-Err-put_seen.ensures.cause in omega (arith, a, b);
}

pub returns-clause-leaves : goal.returns-clause-leaves
returns-clause-leaves g c = record {
  reached =
      at_bound _ _ c.loop-running.invariant.bound c.loop-running-test.false;
  held = c.loop-running.invariant.held;
  ready = c.loop-running.invariant.ready;
  able = c.loop-running.invariant.able;
  counted = c.loop-running.invariant.held.counted;
  stands = c.loop-running.invariant.held.stand;
  pool = c.loop-running.invariant.pool;
  few = c.loop-running.invariant.held.fills;
  filled = c.loop-running.invariant.filled;
  frames = c.loop-running.invariant.frames;
}

pub returns-clause-silent : goal.returns-clause-silent
returns-clause-silent g c = record {
  wants = c.loop-running.invariant.wants;
  silent = c.loop-running.invariant.silent;
}

pub returns-clause-faults : goal.returns-clause-faults
returns-clause-faults g c = record {
  kept = c.loop-running.invariant.kept;
  cause = tt;
}

pub stretch-requires-clause-started : goal.stretch-requires-clause-started
stretch-requires-clause-started g c = c.loop-running.invariant.started

pub stretch-requires-clause-able : goal.stretch-requires-clause-able
stretch-requires-clause-able g c = c.loop-running.invariant.able

pub stretch-requires-clause-script : goal.stretch-requires-clause-script
stretch-requires-clause-script g c = c.requires.script

pub stretch-requires-clause-bound : goal.stretch-requires-clause-bound
stretch-requires-clause-bound g c = (c.loop-running.invariant.bound, c.requires.bound)

pub stretch-requires-clause-room : goal.stretch-requires-clause-room
stretch-requires-clause-room g c = c.loop-running.invariant.room

pub stretch-requires-clause-runs : goal.stretch-requires-clause-runs
stretch-requires-clause-runs g c = c.may_run-runs.ensures

-- a stretch that did nothing left the processor and the board
pub one_step-requires-clause-runs : goal.one_step-requires-clause-runs
one_step-requires-clause-runs g c =
    let none = none_done _ c.if-stretch-gt0.false in
    c.may_run-runs.ensures ∙ ap (λ (b : State). may_run b.cpu b.board c.args.image.now) (sym (c.stretch.ensures.goes.stays none))

pub one_step-requires-clause-text : goal.one_step-requires-clause-text
one_step-requires-clause-text g c = let e = c.original.ensures in (e.first, e.count, e.bytes)

pub one_step-requires-clause-started : goal.one_step-requires-clause-started
one_step-requires-clause-started g c = c.stretch.ensures.started

pub one_step-requires-clause-able : goal.one_step-requires-clause-able
one_step-requires-clause-able g c = c.stretch.ensures.leaves.able

pub one_step-requires-clause-bound : goal.one_step-requires-clause-bound
one_step-requires-clause-bound g c =
    still_below _ _ _ _ _ c.stretch.ensures.counts.count c.if-stretch-gt0.false c.loop-running-test.true c.requires.bound

pub one_step-requires-clause-room : goal.one_step-requires-clause-room
one_step-requires-clause-room g c =
    room_for_one _ _ _ _ _ _ c.loop-running.invariant.room c.loop-running-test.true c.stretch.ensures.counts.retired c.if-stretch-gt0.false

pub begin-requires : goal.begin-requires
begin-requires g c = c.requires.script

pub tell_both-requires : goal.tell_both-requires
tell_both-requires g c =
    still_below _ _ _ _ _ c.stretch.ensures.counts.count c.if-stretch-gt0.false c.loop-running-test.true c.requires.bound

pub rest-requires-clause-script : goal.rest-requires-clause-script
rest-requires-clause-script g c = c.requires.script

pub rest-requires-clause-begun : goal.rest-requires-clause-begun
rest-requires-clause-begun g c = begun _ _ c.in-Ok.ensures.steps.leaves.count

pub rest-requires-clause-within : goal.rest-requires-clause-within
rest-requires-clause-within g c =
    one_within _ _ _ _ _ c.in-Ok.ensures.steps.leaves.count c.stretch.ensures.counts.count c.if-stretch-gt0.false c.loop-running-test.true

pub rest-requires-clause-bound : goal.rest-requires-clause-bound
rest-requires-clause-bound g c = c.requires.bound

pub loop-running-smaller-then-stretch-gt0 : goal.loop-running-smaller-then-stretch-gt0
loop-running-smaller-then-stretch-gt0 g c = falls _ _ _ _ c.stretch.ensures.counts.count c.if-stretch-gt0.true c.loop-running-test.true

pub loop-running-smaller : goal.loop-running-smaller
loop-running-smaller g c = falls_then _ _ _ _ _ _ c.rest.ensures.later c.in-Ok.ensures.steps.leaves.count c.stretch.ensures.counts.count
    c.if-stretch-gt0.false c.loop-running-test.true
