use Rattle.std.proofs.Common.{◌≡◌, ℕ, true, false, List, [], Bool, Result, Ok, Err, OnOk, OnErr, refl, sym, subst, ◌∙◌, arith, ap}
use Rattle.ia32_types.specs.declared.stop.Stop.{Stop}
use Rattle.machine_model.specs.Run.{Set}
use Rattle.machine_model.specs.State.{wedge}
use Rattle.machine_step.specs.declared.worked.Seen.{Seen}
use Rattle.image_check.specs.Image.{Image}
use Rattle.shadow_tables.specs.declared.shadows.Shadows as shadows
use Rattle.wedge_step.specs.Leaves.{Accounts, IsBetween}
use Rattle.wedge_step.specs.Parts.{left_of}
use Rattle.wedge_step.specs.Scene.{Scene, scene}
use Rattle.wedge_step.specs.declared.running.Lost.{Lost}
use Rattle.wedge_step.specs.Standing.{ground, set_of, state_of}
use Rattle.wedge_core.specs.Slices.{Counts}
use Rattle.wedge_core.specs.Scenes.{IsHeldIn, IsReadyIn}
use Rattle.wedge_core.specs.Stepped.{StepsAlone}
use Rattle.wedge_core.specs.Stepping.{StepAs}
use Rattle.wedge_core.proofs.Going.{counted, counts_same}
use Rattle.wedge_core.proofs.Lent.{lent}
use Rattle.wedge_core.proofs.Losing.{held_lost}
use Rattle.wedge_core.proofs.OnceRan.{alone_able}
use Rattle.wedge_core.proofs.Staying.{stays_from}
use Rattle.wedge_core.proofs.step.one_step.Goals as goal

-- ---- by the rules

-- what a step lost says nothing of what is held
between_lost : {S : Type 0} (g : shadows.Ghosts S) (image : Image) (c : Scene S) (lost : Lost) → IsBetween g image c
    → IsBetween g image (scene (record c.guest { lost = lost }) c.pool c.memory)
between_lost g image c lost h = record {
  held = held_lost g (ground image c.guest.frames) c.guest c.pool c.memory lost h.held;
  ready = h.ready;
  enough = h.enough;
}

on_ok : {P Q : Type 0} (r : Result Seen Stop) → (P → Q) → OnOk r P → OnOk r Q
on_ok (Ok seen) f h = f h
on_ok (Err stop) f h = tt

if_err : {P : Type 0} (r : Result Seen Stop) → P → OnErr r P
if_err (Ok seen) p = tt
if_err (Err stop) p = p

-- at first nothing is lost
abbrev unlost : Lost
unlost = record { before = false; after = false; reloaded = false }

left_all : (dropped : Bool) (set : Set) → dropped ≡ false → left_of dropped set ≡ set
left_all dropped set e = ap (λ (x : Bool). left_of x set) e

-- where a step went and the guest is between two steps, it is so in the same frames
held_still : {S : Type 0} (g : shadows.Ghosts S) (r : Result Seen Stop) (image : Image) (frames : ℕ) (new : Scene S)
    → new.guest.frames ≡ frames → OnOk r (IsBetween g image new)
    → OnOk r (IsHeldIn g (ground image frames) new) × OnOk r (IsReadyIn g (ground image frames) new)
held_still g (Ok done) image frames new same b =
    (subst (λ (k : ℕ). IsHeldIn g (ground image k) new) same b.held, subst (λ (k : ℕ). IsReadyIn g (ground image k) new) same b.ready)
held_still g (Err stop) image frames new same b = (tt, tt)

-- over the host's memory, which was lent
pub step_alone-requires : goal.step_alone-requires
step_alone-requires g c = record {
  text = c.requires.text;
  between =
      let first = between_lost g.S.Shadows c.args.image.now (scene c.args.running.now c.args.pool.now (g.H.Host.bytes c.args.host.now))
      unlost c.requires.between in
      subst (λ (l : List ℕ). IsBetween g.S.Shadows c.args.image.now (scene (record c.args.running.now { lost = unlost }) c.args.pool.now l))
      (sym c.ram_mut.ensures.ram) first;
  bound = c.requires.bound;
}

pub returns-then-not-runs : goal.returns-then-not-runs
returns-then-not-runs g c =
    let image = c.args.image.now in
    let first = c.args.running.now in
    let result = c.step_alone.result in
    let new = c.step_alone.new.running in
    let e = c.step_alone.ensures in
    let host = c.args.host.now in
    let before = λ (memory : List ℕ). scene (record first { lost = unlost }) c.args.pool.now memory in
    let after = λ (memory : List ℕ). scene new c.step_alone.new.pool memory in
    let at = lent g.H.Host.bytes g.H.Host.with_bytes g.met.H.Host.bytes_changed host c.ram_mut.result.now c.step_alone.new.ram
    c.ram_mut.ensures.ram in
    let still = held_still g.S.Shadows result image first.frames (after c.step_alone.new.ram) e.accounts.frames e.between in
    let alone : StepsAlone g.S.Shadows image c.args.notes_wanted (before (g.H.Host.bytes host))
    (after (g.H.Host.bytes (g.H.Host.with_bytes host c.step_alone.new.ram))) result =
    at (λ l k. StepsAlone g.S.Shadows image c.args.notes_wanted (before l) (after k) result)
    (record {
      step = e.step;
      leaves = record { held = still.0; ready = still.1; reloaded = e.notes_wanted; count = e.count; stays = e.stays };
      before = e.before;
      carried = e.carried;
    })
    in
    let accounts = at (λ l k. Accounts g.S.Shadows (before l) (after k)) e.accounts in
    let retired = g.met.H.Host.retired_stays host c.step_alone.new.ram in
    let passed = g.met.H.Host.passed_stays host c.step_alone.new.ram in
    let memory = g.H.Host.bytes host in
    let then = g.H.Host.bytes (g.H.Host.with_bytes host c.step_alone.new.ram) in
    record {
      steps = record {
        step = λ script.
            let m = wedge image script first.frames in
            let counts = counted (g.H.Host.retired host) (g.H.Host.passed host) in
            let same = counts_same (g.H.Host.retired host) _ (g.H.Host.passed host) _ retired passed in
            subst (λ (x : Counts). StepAs m (state_of g.S.Shadows m first memory) new.lost result (state_of g.S.Shadows m new then)
            counts x) (sym same)
            (c.alones_go.ensures m (state_of g.S.Shadows m first memory) new.lost result (state_of g.S.Shadows m new then) counts refl
            c.requires.able.level (sym c.requires.runs ∙ c.if-not-runs.true) alone.before (alone.step script));
        able =
            let m = ground image first.frames in
            alone_able c.steps_keep_able.ensures m (state_of g.S.Shadows m first memory) new.lost result (state_of g.S.Shadows m new then)
            refl c.requires.able (alone.step []);
        carried =
            on_ok result
            (λ f script steps t unwanted free roomy taken by carried.
            f script steps t unwanted free roomy taken
            (by ∙ left_all new.lost.before (set_of g.S.Shadows first memory) alone.before) carried)
            alone.carried;
        clashed = λ dropped. absurd (let f : true ≡ false = sym dropped ∙ alone.before in cc);
        leaves = record {
          held = alone.leaves.held;
          ready = alone.leaves.ready;
          reloaded = alone.leaves.reloaded;
          count = alone.leaves.count;
          stays = stays_from result (scene first c.args.pool.now memory) (before memory) (after then) refl refl alone.leaves.stays;
        };
      };
      accounts = record {
        stands = accounts.stands;
        counted = accounts.counted;
        pool = accounts.pool;
        filled = accounts.filled;
        frames = accounts.frames;
      };
      counts = record { few = omega (arith, retired); retired = if_err result retired; passed = if_err result passed };
      started = g.met.H.Host.started_so host c.step_alone.new.ram;
    }

-- ---- with the host

pub returns : goal.returns
returns g c = record {
  steps = record {
    step = c.on_host.ensures.steps.step;
    able = c.on_host.ensures.steps.able;
    carried = c.on_host.ensures.steps.carried;
    clashed = c.on_host.ensures.steps.clashed;
    leaves = record {
      held = c.on_host.ensures.steps.leaves.held;
      ready = c.on_host.ensures.steps.leaves.ready;
      reloaded = c.on_host.ensures.steps.leaves.reloaded;
      count = c.on_host.ensures.steps.leaves.count;
      stays = stays_from c.on_host.result (scene c.args.running.now c.args.pool.now (g.H.Host.bytes c.args.host.now))
          (scene (record c.args.running.now { lost = unlost }) c.args.pool.now (g.H.Host.bytes c.args.host.now))
          (scene c.on_host.new.running c.on_host.new.pool (g.H.Host.bytes c.on_host.new.host)) refl refl
          c.on_host.ensures.steps.leaves.stays;
    };
  };
  accounts = record {
    stands = c.on_host.ensures.accounts.stands;
    counted = c.on_host.ensures.accounts.counted;
    pool = c.on_host.ensures.accounts.pool;
    filled = c.on_host.ensures.accounts.filled;
    frames = c.on_host.ensures.accounts.frames;
  };
  counts = c.on_host.ensures.counts;
  started = c.on_host.ensures.started;
}

pub on_host-requires : goal.on_host-requires
on_host-requires g c = record {
  text = c.requires.text;
  started = c.requires.started;
  between = between_lost g.S.Shadows c.args.image.now (scene c.args.running.now c.args.pool.now (g.H.Host.bytes c.args.host.now))
      _ c.requires.between;
  able = c.requires.able;
  bound = c.requires.bound;
  room = c.requires.room;
  runs = sym c.requires.runs ∙ c.if-not-runs.false;
  kept = (refl, refl);
}
