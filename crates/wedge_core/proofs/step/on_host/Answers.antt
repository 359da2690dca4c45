use Rattle.std.proofs.Common.{◌≡◌, ℕ, true, false, ◌+◌, ◌*◌, ◌==◌, ◌≤◌, eqb, Bool, List, [], ◌∷◌, ◌++◌, length, drop, Result, Ok, refl, sym, subst, ◌∙◌, arith, ap}
use Rattle.std.specs.Set.{is_member}
use Rattle.guest_ram.specs.Among.{is_among}
use Rattle.guest_ram.specs.Bytes.{AreBytes}
use Rattle.board.specs.Scripts.{Events}
use Rattle.descriptors.specs.declared.cpu.Cpu.{Cpu}
use Rattle.frame_pool.specs.Held.{Owns}
use Rattle.frame_pool.specs.Pool.{base_of, free_list}
use Rattle.frame_pool.specs.declared.Pool.{Pool}
use Rattle.host_cpl3.specs.Hosts.{standing}
use Rattle.shadow_tables.specs.OtherRoot.{AreSame}
use Rattle.shadow_tables.specs.Entries.{entries_of}
use Rattle.shadow_tables.specs.Sight.{sight}
use Rattle.shadow_tables.specs.declared.shadows.Shadows as shadows
use Rattle.ia32_types.specs.declared.stop.Stop.{Stop}
use Rattle.image_check.specs.Image.{Image}
use Rattle.machine_model.specs.Keeping.{Roomy}
use Rattle.machine_model.specs.Run.{Set}
use Rattle.machine_model.specs.State.{Setting, State, wedge}
use Rattle.machine_model.specs.Taken.{Taken}
use Rattle.native_steps.specs.Mirrors.{shown}
use Rattle.native_steps.proofs.Shown.{shown_length}
use Rattle.kept_laws.specs.Carried.{indices_in}
use Rattle.kept_laws.specs.Known.{IsKnown}
use Rattle.wedge_step.specs.Carried.{IsCarried, IsTakenFrom}
use Rattle.wedge_step.specs.Filled.{CountsFills, pages_kept}
use Rattle.wedge_step.specs.Leaves.{Accounts, IsBetween}
use Rattle.wedge_step.specs.Parts.{left_of}
use Rattle.wedge_step.specs.Ready.{IsReady}
use Rattle.wedge_step.specs.Scene.{AreAmple, scene}
use Rattle.wedge_step.specs.Standing.{IsHeld, ground, set_of, side_of, state_of}
use Rattle.wedge_step.specs.declared.running.Lost.{Lost}
use Rattle.wedge_step.specs.declared.running.Running.{Running}
use Rattle.wedge_step.proofs.Stays.{kept_same}
use Rattle.wedge_core.specs.Attempted.{Attempts}
use Rattle.wedge_core.specs.Attempts.{Idle}
use Rattle.wedge_core.specs.declared.native.Attempt.{Attempt}
use Rattle.wedge_core.specs.declared.native.Attempt.TheVariants as attempt
use Rattle.wedge_core.proofs.RanBy.{Ran}
use Rattle.wedge_core.specs.Views.{view_by}
use Rattle.wedge_core.proofs.Going.{counted, counts_same}
use Rattle.wedge_core.proofs.Instructed.{clashes_by}
use Rattle.wedge_core.proofs.OnceRan.{SameKept, IsOnce, cpu_is, behind_is, size_is, kept as once_kept, shadows_are, once_goes_on, once_counts, once_frames, once_stands, once_able, once_held, once_keeps, once_fills, once_untouched, once_rules, once_back, once_taken, once_few, lost_is, idle_able, idle_goes}
use Rattle.wedge_core.proofs.Untouched.{Protects, unlent, ready_on}
use Rattle.wedge_core.proofs.step.on_host.Given.{Over}
use Rattle.wedge_core.proofs.step.on_host.Goals as goal

-- ---- over the host's memory, which was lent

attempts_there : {S : Type 0} (g : shadows.Ghosts S) (image : Image) (notes_wanted : Bool) (r r' : Running S) (p p' : Pool)
    (old new there then : List ℕ) (result : Result Attempt Stop) → old ≡ there → then ≡ new
    → Attempts g image notes_wanted (scene r p old) (scene r' p' new) result → Attempts g image notes_wanted (scene r p there)
    (scene r' p' then) result
attempts_there g image notes_wanted r r' p p' old new there then result first last h =
    subst (λ (l : List ℕ). Attempts g image notes_wanted (scene r p l) (scene r' p' then) result) first
    (subst (λ (k : List ℕ). Attempts g image notes_wanted (scene r p old) (scene r' p' k) result) (sym last) h)

accounts_there : {S : Type 0} (g : shadows.Ghosts S) (r r' : Running S) (p p' : Pool) (old new there then : List ℕ)
    → old ≡ there → then ≡ new
    → Accounts g (scene r p old) (scene r' p' new) → Accounts g (scene r p there) (scene r' p' then)
accounts_there g r r' p p' old new there then first last h =
    subst (λ (l : List ℕ). Accounts g (scene r p l) (scene r' p' then)) first
    (subst (λ (k : List ℕ). Accounts g (scene r p old) (scene r' p' k)) (sym last) h)

pub begin_native-requires : goal.begin_native-requires
begin_native-requires g c = record {
  text = c.requires.text;
  between = subst (λ (l : List ℕ). IsBetween g.S.Shadows c.args.image.now (scene c.args.running.now c.args.pool.now l))
      (sym c.ram_mut.ensures.ram) c.requires.between;
  able = c.requires.able;
  runs = c.requires.runs;
  bound = c.requires.bound;
  kept = c.requires.kept;
}

-- ---- the step stops

pub returns-in-Err : goal.returns-in-Err
returns-in-Err g c =
    let attempts = attempts_there g.S.Shadows _ _ _ _ _ _ _ _ _ _ _ c.ram_mut.ensures.ram
    (g.met.H.Host.bytes_changed c.args.host.now c.begin_native.new.ram) c.in-Err.ensures.attempts in
    let retired = g.met.H.Host.retired_stays c.args.host.now c.begin_native.new.ram in
    record {
      steps = record {
        step = λ script. record { halts = attempts.step script };
        able = tt;
        carried = tt;
        clashed = λ lost room script b cpu ram set board.
            clashes_by (wedge c.args.image.now script c.args.running.now.frames) b c.args.running.now.cpu c.args.running.now.board
            c.args.image.now cpu board c.requires.runs (attempts.clashed lost room script b cpu ram set);
        leaves = record { held = tt; ready = tt; reloaded = tt; count = tt; stays = attempts.leaves.stays };
      };
      accounts = accounts_there g.S.Shadows _ _ _ _ _ _ _ _ c.ram_mut.ensures.ram
          (g.met.H.Host.bytes_changed c.args.host.now c.begin_native.new.ram) c.in-Err.ensures.accounts;
      counts = record {
        few = omega (arith, retired);
        retired = retired;
        passed = g.met.H.Host.passed_stays c.args.host.now c.begin_native.new.ram;
      };
      started = g.met.H.Host.started_so c.args.host.now c.begin_native.new.ram;
    }

-- ---- it went without the host

module _ (g : Over) (c : goal.In-Ok-Stepped g) where
  went_attempts : Attempts g.S.Shadows c.args.image.now c.args.notes_wanted
      (scene c.args.running.now c.args.pool.now (g.H.Host.bytes c.args.host.now))
      (scene c.begin_native.new.running c.begin_native.new.pool
      (g.H.Host.bytes (g.H.Host.with_bytes c.args.host.now c.begin_native.new.ram))) (Ok c.in-Ok-Stepped.field-0)
  went_attempts = attempts_there g.S.Shadows _ _ _ _ _ _ _ _ _ _ _ c.ram_mut.ensures.ram
      (g.met.H.Host.bytes_changed c.args.host.now c.begin_native.new.ram) c.in-Ok-Stepped.ensures.attempts

  went : (script : Events) → Idle (wedge c.args.image.now script c.args.running.now.frames)
      (state_of g.S.Shadows (wedge c.args.image.now script c.args.running.now.frames) c.args.running.now (g.H.Host.bytes c.args.host.now))
      c.begin_native.new.running.lost.before c.begin_native.new.running.lost c.in-Ok-Stepped.seen
      (state_of g.S.Shadows (wedge c.args.image.now script c.args.running.now.frames) c.begin_native.new.running
      (g.H.Host.bytes (g.H.Host.with_bytes c.args.host.now c.begin_native.new.ram)))
  went script = rw c.in-Ok-Stepped.field-0-is at (went_attempts.step script)

  count : c.begin_native.new.running.step ≡ c.args.running.now.step + 1
  count = rw c.in-Ok-Stepped.field-0-is at went_attempts.leaves.count

pub returns-in-Ok-Stepped : goal.returns-in-Ok-Stepped
returns-in-Ok-Stepped g c =
    let r = c.begin_native.new.running in
    let attempts = went_attempts g c in
    let retired = g.met.H.Host.retired_stays c.args.host.now c.begin_native.new.ram in
    let passed = g.met.H.Host.passed_stays c.args.host.now c.begin_native.new.ram in
    record {
      steps = record {
        step = λ script. idle_goes _ _ r.lost c.in-Ok-Stepped.seen _
            (counted (g.H.Host.retired c.args.host.now) (g.H.Host.passed c.args.host.now))
            (counted (g.H.Host.retired (g.H.Host.with_bytes c.args.host.now c.begin_native.new.ram))
            (g.H.Host.passed (g.H.Host.with_bytes c.args.host.now c.begin_native.new.ram)))
            (sym (counts_same (g.H.Host.retired c.args.host.now)
            (g.H.Host.retired (g.H.Host.with_bytes c.args.host.now c.begin_native.new.ram)) (g.H.Host.passed c.args.host.now)
            (g.H.Host.passed (g.H.Host.with_bytes c.args.host.now c.begin_native.new.ram)) retired passed)) (went g c script);
        able = idle_able c.steps_keep_able.ensures _ _ _ _ c.in-Ok-Stepped.seen _ refl c.requires.able (went g c []);
        carried = rw c.in-Ok-Stepped.field-0-is at attempts.carried;
        clashed = λ lost room script b cpu ram set board. clashes_by (wedge c.args.image.now script c.args.running.now.frames) b
            c.args.running.now.cpu c.args.running.now.board c.args.image.now cpu board c.requires.runs
            (attempts.clashed lost room script b cpu ram set);
        leaves = record {
          held =
              subst (λ (k : ℕ). IsHeld g.S.Shadows (ground c.args.image.now c.args.running.now.frames) (record r { step = k })
              c.begin_native.new.pool (g.H.Host.bytes (g.H.Host.with_bytes c.args.host.now c.begin_native.new.ram))) (sym (count g c))
              attempts.leaves.held;
          ready = attempts.leaves.ready;
          reloaded = attempts.leaves.reloaded;
          count = count g c;
          stays = tt;
        };
      };
      accounts = accounts_there g.S.Shadows _ _ _ _ _ _ _ _ c.ram_mut.ensures.ram
          (g.met.H.Host.bytes_changed c.args.host.now c.begin_native.new.ram) c.in-Ok-Stepped.ensures.accounts;
      counts = record { few = omega (arith, retired); retired = tt; passed = tt };
      started = g.met.H.Host.started_so c.args.host.now c.begin_native.new.ram;
    }

-- ---- the host did it

module _ (g : Over) (c : goal.After-ram g) where
  abbrev r0 : Running g.row.S.Denot
  r0 = c.args.running.now

  abbrev r1 : Running g.row.S.Denot
  r1 = c.begin_native.new.running

  abbrev r2 : Running g.row.S.Denot
  r2 = c.run_on-one.new.running

  abbrev m0 : List ℕ
  m0 = g.H.Host.bytes c.args.host.now

  abbrev m1 : List ℕ
  m1 = g.H.Host.bytes (g.H.Host.with_bytes c.args.host.now c.begin_native.new.ram)

  abbrev m2 : List ℕ
  m2 = g.H.Host.bytes c.run_on-one.new.host

  abbrev n : ℕ
  n = c.args.running.now.frames

  attempts : Attempts g.S.Shadows c.args.image.now c.args.notes_wanted (scene r0 c.args.pool.now m0)
      (scene r1 c.begin_native.new.pool m1) (Ok attempt.Asked)
  attempts =
      subst (λ (a : Attempt). Attempts g.S.Shadows c.args.image.now c.args.notes_wanted (scene r0 c.args.pool.now m0)
      (scene r1 c.begin_native.new.pool m1) (Ok a)) c.in-Ok-Asked.field-0-is
      (attempts_there g.S.Shadows _ _ _ _ _ _ _ _ _ _ _ c.ram_mut.ensures.ram
      (g.met.H.Host.bytes_changed c.args.host.now c.begin_native.new.ram) c.in-Ok-Asked.ensures.attempts)

  accounts : Accounts g.S.Shadows (scene r0 c.args.pool.now m0) (scene r1 c.begin_native.new.pool m1)
  accounts = accounts_there g.S.Shadows _ _ _ _ _ _ _ _ c.ram_mut.ensures.ram
      (g.met.H.Host.bytes_changed c.args.host.now c.begin_native.new.ram) c.in-Ok-Asked.ensures.accounts

  retired_same : g.H.Host.retired (g.H.Host.with_bytes c.args.host.now c.begin_native.new.ram) ≡ g.H.Host.retired c.args.host.now
  retired_same = g.met.H.Host.retired_stays c.args.host.now c.begin_native.new.ram

  passed_same : g.H.Host.passed (g.H.Host.with_bytes c.args.host.now c.begin_native.new.ram) ≡ g.H.Host.passed c.args.host.now
  passed_same = g.met.H.Host.passed_stays c.args.host.now c.begin_native.new.ram

  kept_above : ∥ g.S.Shadows.stands r1.shadows m1 ∥₁ → Owns c.begin_native.new.pool m1 (g.S.Shadows.frames r1.shadows m1)
      → n ≤ base_of c.begin_native.new.pool → drop (4096 * n) m2 ≡ drop (4096 * n) m1 → length m2 ≡ length m1
      → SameKept g.S.Shadows r1.shadows c.begin_native.new.pool m1 m2
  kept_above stands owns low above size =
      let p = c.begin_native.new.pool in
      let under : 4096 * n ≤ 4096 * base_of p = omega (arith, low) in
      let e = g.met.S.Shadows.above r1.shadows p m1 m2 (4096 * n) owns under above size in
      record {
        stand = g.met.S.Shadows.stays r1.shadows m1 m2 stands e;
        owns = g.met.S.Shadows.owned_above r1.shadows p m1 m2 (4096 * n) stands owns under above size;
        frames_are = g.met.S.Shadows.same_frames r1.shadows m1 m2 stands e;
        slots_are = g.met.S.Shadows.same_slots r1.shadows m1 m2 stands e;
        entries_are = g.met.S.Shadows.same_entries r1.shadows m1 m2 stands e;
      }

  ran : Ran (view_by (g.S.Shadows.directory r1.shadows) r1.cpu) 1
      (standing r1.cpu.regs m1 (g.H.Host.retired c.args.host.now) (g.H.Host.passed c.args.host.now))
      r1 c.run_on-one.result r2 m2 (g.H.Host.retired c.run_on-one.new.host) (g.H.Host.passed c.run_on-one.new.host)
  ran =
      let v = view_by (g.S.Shadows.directory r1.shadows) r1.cpu in
      let x = c.run_on-one.new in
      subst (λ (k : ℕ). Ran v 1 (standing r1.cpu.regs m1 (g.H.Host.retired c.args.host.now) k) r1 c.run_on-one.result r2 m2
      (g.H.Host.retired x.host) (g.H.Host.passed x.host)) passed_same
      (subst (λ (k : ℕ). Ran v 1 (standing r1.cpu.regs m1 k (g.H.Host.passed (g.H.Host.with_bytes c.args.host.now c.begin_native.new.ram)))
      r1 c.run_on-one.result r2 m2 (g.H.Host.retired x.host) (g.H.Host.passed x.host)) retired_same c.run_on-one.ensures.ran)

  same : r1 ≡ record r0 { shadows = r1.shadows; held = r1.held; fills = r1.fills; lost = r1.lost }
  same = attempts.leaves.asked

  once : IsOnce g.S.Shadows c.args.image.now r0 r1 r2 c.begin_native.new.pool m0 m1 m2
      (counted (g.H.Host.retired c.args.host.now) (g.H.Host.passed c.args.host.now))
      (counted (g.H.Host.retired c.run_on-one.new.host) (g.H.Host.passed c.run_on-one.new.host)) c.run_on-one.result
  once = record {
    asks = λ script. attempts.step script;
    ran = ran;
    same = same;
    held = attempts.leaves.held;
    kept = λ above size. kept_above attempts.leaves.held.stand attempts.leaves.held.owns attempts.leaves.held.behind above size;
  }

  kept : SameKept g.S.Shadows r1.shadows c.begin_native.new.pool m1 m2
  kept = once_kept g.S.Shadows _ _ _ _ _ _ _ _ _ _ _ once

  held : IsHeld g.S.Shadows (ground c.args.image.now n) r2 c.begin_native.new.pool m2
  held = once_held g.S.Shadows _ _ _ _ _ _ _ _ _ _ _ once

  shadows_same : r2.shadows ≡ r1.shadows
  shadows_same = shadows_are g.S.Shadows _ _ _ _ _ _ _ _ _ _ _ once

  lost_same : r2.lost ≡ r1.lost
  lost_same = lost_is g.S.Shadows _ _ _ _ _ _ _ _ _ _ _ once

  -- what is kept is past the guest's frames, where the host wrote nothing
  under : 4096 * n ≤ 4096 * base_of c.begin_native.new.pool
  under = let low = attempts.leaves.held.behind in omega (arith, low)

  behind : drop (4096 * n) m2 ≡ drop (4096 * n) m1
  behind = behind_is g.S.Shadows _ _ _ _ _ _ _ _ _ _ _ once

  size : length m2 ≡ length m1
  size = size_is g.S.Shadows _ _ _ _ _ _ _ _ _ _ _ once

  other_roots_same : AreSame (g.S.Shadows.other_roots r1.shadows m1) (g.S.Shadows.other_roots r1.shadows m2)
  other_roots_same =
      let h = attempts.leaves.held in
      g.met.S.Shadows.same_other_roots r1.shadows m1 m2 h.stand
      (g.met.S.Shadows.above r1.shadows c.begin_native.new.pool m1 m2 (4096 * n) h.owns under behind size)

  ready : IsReady g.S.Shadows (ground c.args.image.now n) r2.cpu r2.shadows m2
  ready =
      let met = g.met.S.Shadows in
      let h = attempts.leaves.held in
      let protects : Protects g.S.Shadows = record {
        host = met.host;
        barred = met.barred;
        read_from_is_protected = met.read_from_is_protected;
        other_roots_protected = met.other_roots_protected;
      } in
      let rules = once_rules g.S.Shadows _ _ _ _ _ _ _ _ _ _ _ once in
      let cpu : r1.cpu ≡ r0.cpu = cpu_is g.S.Shadows _ _ _ _ _ _ _ _ _ _ _ once in
      let untouched = λ (at : ℕ) (t : is_among at (g.S.Shadows.write_protected r1.shadows) ≡ true).
      once_untouched g.S.Shadows _ _ _ _ _ _ _ _ _ _ _ once at
      (unlent g.S.Shadows protects r1.shadows m1 (side_of (r1.cpu.cpl == 3)) at h.stand h.whole t) in
      let ready1 = subst (λ (x : Cpu). IsReady g.S.Shadows (ground c.args.image.now n) x r1.shadows m1) cpu attempts.leaves.ready in
      subst (λ (x : g.row.S.Denot). IsReady g.S.Shadows (ground c.args.image.now n) r2.cpu x m2) (sym shadows_same)
      (ready_on g.S.Shadows protects (ground c.args.image.now n) h.wedge r0.cpu r2.cpu r1.shadows m1 m2
      h.host held.host rules.0 rules.1 rules.2 untouched kept.slots_are other_roots_same ready1)

  filled : CountsFills (pages_kept g.S.Shadows r0.shadows m0) (pages_kept g.S.Shadows r2.shadows m2) r0.fills r2.fills
  filled =
      let pages = λ (s : g.row.S.Denot) (l : List ℕ). pages_kept g.S.Shadows s l in
      once_fills g.S.Shadows _ _ _ _ _ _ _ _ _ _ _ once pages (pages r0.shadows m0)
      (kept_same g.S.Shadows r1.shadows m1 m2 kept.entries_are other_roots_same) accounts.filled

  -- its pages were settled before
  asked_on : (script : Events) (steps : List Taken) (t : Taken) → AreBytes (shown (ground c.args.image.now n) m2)
      → c.args.notes_wanted ≡ false → AreAmple (length (free_list c.args.pool.now m0)) r0.held → Roomy (steps ++ t ∷ [])
      → IsTakenFrom (wedge c.args.image.now script n) (state_of g.S.Shadows (wedge c.args.image.now script n) r0 m0) t
      → t.set ≡ left_of r2.lost.before (set_of g.S.Shadows r0 m0)
      → IsCarried g.S.Shadows (wedge c.args.image.now script n) steps t.before r0.shadows m0
      → IsCarried g.S.Shadows (wedge c.args.image.now script n) (steps ++ t ∷ []) t.after r1.shadows m1
  asked_on script steps t bytes unwanted ample roomy taken by carried =
      let by1 : t.set ≡ left_of r1.lost.before (set_of g.S.Shadows r0 m0) =
      by ∙ ap (λ (l : Lost). left_of l.before (set_of g.S.Shadows r0 m0)) lost_same in
      let k = once_taken g.S.Shadows _ _ _ _ _ _ _ _ _ _ _ once script t taken by1 in
      let long = shown_length (ground c.args.image.now n) held.wedge m2 held.host in
      let size_is = ap length k.3 in
      let f = attempts.carried_asked in
      f script steps t unwanted ample roomy taken by1 k.0 k.1 k.2 (omega (arith, long, size_is)) (subst AreBytes (sym k.3) bytes) carried

  -- and what is kept is as it was
  carried_still : (m : Setting) (steps : List Taken) (b : State) → IsCarried g.S.Shadows m steps b r1.shadows m1
      → IsCarried g.S.Shadows m steps b r2.shadows m2
  carried_still m steps b h =
      let s = r1.shadows in
      let e = attempts.leaves.held in
      let as_was = g.met.S.Shadows.above s c.begin_native.new.pool m1 m2 (4096 * n) e.owns under behind size in
      let indices : ℕ → Bool = λ index. is_member eqb (indices_in steps) index in
      let still =
      c.known_laws.ensures.still m steps b (sight g.S.Shadows s m1) (sight g.S.Shadows s m2) (entries_of (g.S.Shadows.slots s m1))
      (record { notes = λ frame e. e; marks = λ e. e; others = other_roots_same }) h.known in
      subst (λ (x : g.row.S.Denot). IsCarried g.S.Shadows m steps b x m2) (sym shadows_same)
      (record {
        known = subst (λ (x : Set). IsKnown m steps b (sight g.S.Shadows s m2) x) (sym kept.entries_are) still;
        opened_to = g.met.S.Shadows.same_tables_under s m1 m2 indices e.stand as_was h.opened_to;
      })

pub run_on-one-requires : goal.run_on-one-requires
run_on-one-requires g c =
    let attempts = attempts_there g.S.Shadows _ _ _ _ _ _ _ _ _ _ _ c.ram_mut.ensures.ram
    (g.met.H.Host.bytes_changed c.args.host.now c.begin_native.new.ram) c.in-Ok-Asked.ensures.attempts in
    let retired = g.met.H.Host.retired_stays c.args.host.now c.begin_native.new.ram in
    record {
      started = g.met.H.Host.started_so c.args.host.now c.begin_native.new.ram;
      stands =
          (accounts_there g.S.Shadows _ _ _ _ _ _ _ _ c.ram_mut.ensures.ram
          (g.met.H.Host.bytes_changed c.args.host.now c.begin_native.new.ram) c.in-Ok-Asked.ensures.accounts).stands;
      bound = (let e = ap (λ (r : Running g.row.S.Denot). r.step) (rw c.in-Ok-Asked.field-0-is at attempts.leaves.asked) in
          let b = c.requires.bound in omega (arith, e, b));
      room = (let b = c.requires.room in omega (arith, retired, b));
    }

pub are_bytes-requires-clause-frames : goal.are_bytes-requires-clause-frames
are_bytes-requires-clause-frames g c =
    subst (λ (l : List ℕ). 4096 * c.args.running.now.frames ≤ length l) (sym c.ram.ensures) (held g c).host.room

pub returns-in-Ok-Asked : goal.returns-in-Ok-Asked
returns-in-Ok-Asked g c =
    let o = once g c.before in
    let few = once_few g.S.Shadows _ _ _ _ _ _ _ _ _ _ _ o in
    record {
      steps = record {
        step = λ script. once_goes_on g.S.Shadows _ _ _ _ _ _ _ _ _ _ _ o script;
        able = once_able g.S.Shadows _ _ _ _ _ _ _ _ _ _ _ o c.steps_keep_able.ensures c.requires.able;
        carried = λ script steps t unwanted ample roomy taken by carried.
            carried_still g c.before (wedge c.args.image.now script c.args.running.now.frames) (steps ++ t ∷ []) t.after
            (asked_on g c.before script steps t
            (subst (λ (l : List ℕ). AreBytes (shown (ground c.args.image.now c.args.running.now.frames) l)) c.ram.ensures
            c.are_bytes.ensures.bytes) unwanted ample roomy taken by carried);
        clashed = λ lost room script b cpu ram set board.
            clashes_by (wedge c.args.image.now script c.args.running.now.frames) b c.args.running.now.cpu c.args.running.now.board
            c.args.image.now cpu board c.requires.runs
            ((attempts g c.before).clashed (ap (λ (l : Lost). l.before) (sym (lost_same g c.before)) ∙ lost) room script b cpu ram set);
        leaves = record {
          held = held g c.before;
          ready = ready g c.before;
          reloaded = λ w. once_back g.S.Shadows _ _ _ _ _ _ _ _ _ _ _ o ((attempts g c.before).leaves.reloaded w);
          count = once_counts g.S.Shadows _ _ _ _ _ _ _ _ _ _ _ o;
          stays = tt;
        };
      };
      accounts = record {
        stands = once_stands g.S.Shadows _ _ _ _ _ _ _ _ _ _ _ o;
        counted = (held g c.before).counted;
        pool = once_keeps g.S.Shadows _ _ _ _ _ _ _ _ _ _ _ o c.args.pool.now (accounts g c.before).pool;
        filled = filled g c.before;
        frames = once_frames g.S.Shadows _ _ _ _ _ _ _ _ _ _ _ o;
      };
      counts = record { few = omega (arith, few); retired = tt; passed = tt };
      started = c.run_on-one.ensures.started;
    }
