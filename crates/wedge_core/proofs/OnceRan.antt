-- One instruction that the host was asked to do, as the guest's step.
use Rattle.std.proofs.Common.{◌≡◌, ℕ, ◌+◌, ◌*◌, ◌%◌, ◌==◌, ◌≤◌, List, [], ◌∷◌, length, drop, Bool, false, cond, Result, Ok, Err, OnOk, refl, sym, ap, subst, ◌∙◌, arith}
use Rattle.guest_ram.specs.Bytes.{frame}
use Rattle.descriptors.specs.Controls.{pse_of, wp_of}
use Rattle.frame_pool.specs.Held.{Owns}
use Rattle.frame_pool.specs.declared.Pool.{Pool}
use Rattle.frame_pool.proofs.Above.{free_list-above}
use Rattle.board.specs.declared.devices.Board.{Board}
use Rattle.board.specs.Boards.{board_step}
use Rattle.board.specs.Quiet.{board_steps}
use Rattle.descriptors.specs.declared.cpu.Cpu.{Cpu}
use Rattle.ia32_types.specs.declared.flags.Regs.{Regs}
use Rattle.ia32_exec.specs.Digest.{digest}
use Rattle.image_check.specs.Image.{Image}
use Rattle.host_cpl3.specs.declared.view.View.{View}
use Rattle.host_cpl3.specs.declared.exit.Exit.{Exit}
use Rattle.host_cpl3.specs.declared.exit.Exit.TheVariants.{Budget}
use Rattle.host_cpl3.specs.HostRun.{Standing, host_run, after_step, counted}
use Rattle.host_cpl3.specs.Hosts.{standing}
use Rattle.shadow_tables.specs.Entries.{entries_of}
use Rattle.shadow_tables.specs.Slots.{SameSlots}
use Rattle.step_mem.specs.Changes.{AreWithin}
use Rattle.ia32_types.specs.declared.stop.Stop.{Stop}
use Rattle.board.specs.Scripts.{Events}
use Rattle.board.proofs.QuietSteps.{one_step}
use Rattle.shadow_tables.specs.declared.shadows.Shadows as shadows
use Rattle.machine_step.specs.declared.worked.Seen.{Seen}
use Rattle.machine_step.specs.declared.worked.Seen.TheVariants.{Nothing}
use Rattle.machine_model.specs.State.{Setting, State, wedge, wedge_mode}
use Rattle.machine_model.specs.Able.{StepsKeepAble}
use Rattle.machine_model.specs.Step.{Report, Went, stepped}
use Rattle.machine_model.specs.Taken.{Taken, is_load}
use Rattle.machine_model.specs.Run.{Set, with_set}
use Rattle.machine_model.specs.Counts.{direct_in}
use Rattle.native_steps.specs.Backward.{Completes}
use Rattle.native_steps.specs.Forward.{Follows}
use Rattle.native_steps.specs.Lends.{IsUnlent}
use Rattle.native_steps.specs.Mirrors.{IsHost, shown}
use Rattle.wedge_core.specs.Attempts.{Asks, Idle}
use Rattle.wedge_step.specs.Carried.{IsTakenFrom}
use Rattle.wedge_step.specs.Filled.{CountsFills}
use Rattle.wedge_step.specs.Parts.{left_of}
use Rattle.wedge_step.specs.Pools.{Keeps}
use Rattle.wedge_core.specs.Views.{view_by}
use Rattle.wedge_core.specs.Ran.{landed}
use Rattle.wedge_core.proofs.RanBy.{Ran}
use Rattle.wedge_core.specs.Slices.{Counts, CountsOn}
use Rattle.wedge_step.specs.Standing.{IsHeld, IsAble, AreOpen, ground, side_of, state_of}
use Rattle.wedge_core.specs.Stepping.{Goes}
use Rattle.wedge_step.specs.Alone.{AloneAs}
use Rattle.wedge_step.specs.declared.running.Lost.{Lost}
use Rattle.wedge_step.specs.declared.running.Running.{Running}
use Rattle.wedge_step.proofs.AfterTry.{any_script}
use Rattle.wedge_core.proofs.Asked.{once_goes}
use Rattle.wedge_step.proofs.Knowing.{report_in, state_in}
use Rattle.wedge_core.proofs.Counting.{none_counts, one_counts}
use Rattle.wedge_step.proofs.Keeping.{keeps_join, keeps_above}
use Rattle.wedge_step.proofs.Opening.{same_open}

-- ---- the outcome of the host's call

-- a host that completes an instruction, and was let do one, stops after it
one_run : (v : View) (s : Standing) (regs : Regs) (after : List ℕ) → Rattle.host_cpl3.specs.HostStep.host_step v s.ram s.regs ≡ Ok
    (Rattle.host_cpl3.specs.declared.exit.Completion.TheVariants.Completed regs, after)
    → host_run v 1 s ≡ (Budget, counted s regs after)
unfolding host_run
one_run v s regs after e = ap (λ x. after_step s x (host_run v 0)) e

-- where it stands then, and the guest's processor, board and count
pub record RanOnce {S : Type 0} (old : Running S) (regs : Regs) (after_memory : List ℕ) (done : ℕ) (new : Running S) (memory : List ℕ)
    (before after : Counts) : Type 0 where
  pub one : done ≡ 1
  pub memory_is : memory ≡ after_memory
  pub new_is : new ≡ record old { cpu = record old.cpu { regs = regs; held = false }; board = board_step old.board; step = old.step + 1 }
  pub retired : after.retired ≡ before.retired + 1
  pub passed : after.passed ≡ digest before.passed old.cpu.regs.eip

abbrev followed : {S : Type 0} → Running S → Exit → Regs → ℕ → Running S
followed old exit regs done = record old {
  cpu = record old.cpu { regs = landed exit regs; held = false };
  board = board_steps done old.board;
  step = old.step + done;
}

pub ran_once : {S : Type 0} (m : Setting) (v : View) (b : State) (old : Running S) (memory : List ℕ) (regs : Regs) (before after : Counts)
    (done : ℕ) (new : Running S) (now : List ℕ)
    → b.cpu.regs ≡ old.cpu.regs → (c : Completes m memory v b regs)
    → Ran v 1 (standing old.cpu.regs memory before.retired before.passed) old done new now after.retired after.passed
    → RanOnce old regs c.after_memory done new now before after
ran_once m v b old memory regs before after done new now same c r =
    let s = standing old.cpu.regs memory before.retired before.passed in
    let host = ap (λ (x : Regs). Rattle.host_cpl3.specs.HostStep.host_step v memory x) (sym same) ∙ c.host in
    let e = sym r.run ∙ one_run v s regs c.after_memory host in
    let exit_is : r.exit ≡ Budget = ap (λ (p : Exit × Standing). p.0) e in
    let regs_is : r.regs ≡ regs = ap (λ (p : Exit × Standing). p.1.regs) e in
    let retired_is : after.retired ≡ before.retired + 1 = ap (λ (p : Exit × Standing). p.1.retired) e in
    let count = r.count in
    let one : done ≡ 1 = omega (arith, count, retired_is) in
    record {
      one = one;
      memory_is = ap (λ (p : Exit × Standing). p.1.ram) e;
      new_is = r.some (omega (arith, one)) ∙ (λ i. followed old (exit_is i) (regs_is i) (one i))
          ∙ (λ i. record old { cpu = record old.cpu { regs = regs; held = false }; board = one_step old.board i; step = old.step + 1 });
      retired = retired_is;
      passed = ap (λ (p : Exit × Standing). p.1.passed) e;
    }

-- ---- the guest's step

counts_one : (m : Setting) (v : View) (b : State) (memory : List ℕ) (regs : Regs) (after_memory : List ℕ) (before after : Counts)
    → (f : Follows m v b memory regs after_memory)
    → after.retired ≡ before.retired + 1 → after.passed ≡ digest before.passed b.cpu.regs.eip → CountsOn m (f.report ∷ []) before after
counts_one m v b memory regs after_memory before after f retired passed =
    let sites = m.image.sites in
    let here : direct_in sites f.report.completed ≡ b.cpu.regs.eip ∷ [] =
    ap (direct_in sites) f.completes
    ∙ (ap (λ (x : Bool). cond {A = List ℕ} x (f.completed.eip ∷ []) []) f.direct ∙ ap (λ (k : ℕ). k ∷ []) f.eip) in
    let c = one_counts m f.report before b.cpu.regs.eip here in
    record { retired = retired ∙ c.retired; passed = passed ∙ c.passed }

module _ {S : Type 0} (shows : shadows.Ghosts S) where
  -- what the guest stands for after it
  after_is : (m : Setting) (v : View) (old new : Running S) (memory now : List ℕ) (regs : Regs) (after_memory : List ℕ)
      → (f : Follows m v (state_of shows m old memory) memory regs after_memory)
      → new ≡ record old { cpu = record old.cpu { regs = regs; held = false }; board = board_step old.board; step = old.step + 1 }
      → now ≡ after_memory → entries_of (shows.slots old.shadows now) ≡ entries_of (shows.slots old.shadows memory)
      → f.after ≡ state_of shows m new now
  after_is m v old new memory now regs after_memory f is memory_is entries =
      (λ i. record {
        cpu = f.cpu i;
        ram = (f.stands.ram ∙ ap (shown m) (sym memory_is)) i;
        set = (f.set ∙ sym entries) i;
        board = f.board i;
        step = f.count i;
      })
      ∙ ap (λ (g : Running S). state_of shows m g now) (sym is)

  -- it went, from what was kept before the instruction's pages were filled
  pub asked_goes : (m : Setting) (v : View) (b : State) (old new : Running S) (memory now : List ℕ) (before after : Counts)
      (done : ℕ) (lost : Lost)
      → (a : Asks m v b lost.before lost (state_of shows m old memory) memory)
      → Ran v 1 (standing old.cpu.regs memory before.retired before.passed) old done new now after.retired after.passed
      → entries_of (shows.slots old.shadows now) ≡ entries_of (shows.slots old.shadows memory)
      → Goes m b lost Nothing (state_of shows m new now) before after
  asked_goes m v b old new memory now before after done lost a ran entries =
      let filled = state_of shows m old memory in
      let f = a.completes.follows in
      let r = ran_once m v filled old memory a.regs before after done new now refl a.completes ran in
      let is = after_is m v old new memory now a.regs a.completes.after_memory f r.new_is r.memory_is entries in
      once_goes m b filled (state_of shows m new now) before after lost a.kept
      (record {
        report = f.report;
        went = f.went ∙ ap (λ (x : State). Went f.report x) is;
        silent = f.unseen;
        counts = counts_one m v filled memory a.regs a.completes.after_memory before after f r.retired r.passed;
      })
      a.same

  -- ---- what is held

  -- what the host writes in the guest's frames leaves all that lies past them
  pub held_done : (image : Image) (n : ℕ) (g : Running S) (cpu : Cpu) (board : Board) (step : ℕ) (pool : Pool) (old now : List ℕ)
      → drop (4096 * n) now ≡ drop (4096 * n) old → length now ≡ length old → IsHost (ground image n) now
      → ∥ shows.stands g.shadows now ∥₁ → Owns pool now (shows.frames g.shadows now)
      → shows.frames g.shadows now ≡ shows.frames g.shadows old
      → SameSlots (shows.slots g.shadows old) (shows.slots g.shadows now) → entries_of (shows.slots g.shadows now) ≡ entries_of
      (shows.slots g.shadows old)
      → wp_of cpu ≡ wp_of g.cpu → g.step ≤ step
      → IsHeld shows (ground image n) g pool old
      → IsHeld shows (ground image n) (record g { cpu = cpu; board = board; step = step }) pool now
  held_done image n g cpu board step pool old now above size host stand owns same_frames same_slots same_entries wp later h =
      let low = h.behind in
      let free = ap length (free_list-above pool old now (4096 * n) (omega (arith, low)) above size h.owns.stands) in
      let same = ap length same_frames in
      let few = h.few in
      record {
        wedge = h.wedge;
        frames_are = h.frames_are;
        size = h.size;
        host = host;
        whole = ap (λ (k : ℕ). k % 4096) size ∙ h.whole;
        behind = h.behind;
        stand = stand;
        owns = owns;
        counted = h.counted ∙ sym same;
        few = omega (arith, few, free, same);
        fills = (let f = h.fills in omega (arith, later, f));
        within = subst (λ (set : Set). AreWithin n set) (sym same_entries) h.within;
        open_to = subst (λ (w : Bool). AreOpen image w (shows.slots g.shadows now)) (sym wp)
            (same_open image (wp_of g.cpu) (shows.slots g.shadows old) (shows.slots g.shadows now) same_slots h.open_to);
      }

  -- what is kept stands over another memory as it did
  pub record SameKept (s : S) (pool : Pool) (old now : List ℕ) : Type 0 where
    pub stand : ∥ shows.stands s now ∥₁
    pub owns : Owns pool now (shows.frames s now)
    pub frames_are : shows.frames s now ≡ shows.frames s old
    pub slots_are : SameSlots (shows.slots s old) (shows.slots s now)
    pub entries_are : entries_of (shows.slots s now) ≡ entries_of (shows.slots s old)

  -- The guest g0 was asked for one instruction: its pages were filled, which gave g1, and the host did it, which gave g2.
  pub record IsOnce (image : Image) (g0 g1 g2 : Running S) (pool : Pool) (m0 m1 m2 : List ℕ) (before after : Counts)
      (done : ℕ) : Type 0 where
    pub asks : (script : Events) → Asks (wedge image script g0.frames) (view_by (shows.directory g1.shadows) g0.cpu)
        (state_of shows (wedge image script g0.frames) g0 m0) g1.lost.before g1.lost
        (state_of shows (wedge image script g0.frames) g1 m1) m1
    pub ran : Ran (view_by (shows.directory g1.shadows) g1.cpu) 1 (standing g1.cpu.regs m1 before.retired before.passed) g1 done g2 m2
        after.retired after.passed
    pub same : g1 ≡ record g0 { shadows = g1.shadows; held = g1.held; fills = g1.fills; lost = g1.lost }
    pub held : IsHeld shows (ground image g0.frames) (record g1 { step = g0.step + 1 }) pool m1
    pub kept : drop (4096 * g0.frames) m2 ≡ drop (4096 * g0.frames) m1 → length m2 ≡ length m1 → SameKept g1.shadows pool m1 m2

  module _ (image : Image) (g0 g1 g2 : Running S) (pool : Pool) (m0 m1 m2 : List ℕ) (before after : Counts) (done : ℕ)
      (o : IsOnce image g0 g1 g2 pool m0 m1 m2 before after done) where
    pub cpu_is : g1.cpu ≡ g0.cpu
    cpu_is = ap (λ (g : Running S). g.cpu) o.same

    step_is : g1.step ≡ g0.step
    step_is = ap (λ (g : Running S). g.step) o.same

    asks_now : (script : Events) → Asks (wedge image script g0.frames) (view_by (shows.directory g1.shadows) g1.cpu)
        (state_of shows (wedge image script g0.frames) g0 m0) g1.lost.before g1.lost
        (state_of shows (wedge image script g0.frames) g1 m1) m1
    asks_now script =
        subst (λ (x : Cpu). Asks (wedge image script g0.frames) (view_by (shows.directory g1.shadows) x)
        (state_of shows (wedge image script g0.frames) g0 m0) g1.lost.before g1.lost (state_of shows (wedge image script g0.frames) g1 m1)
        m1) (sym cpu_is) (o.asks script)

    ran : (a : Asks (ground image g0.frames) (view_by (shows.directory g1.shadows) g1.cpu) (state_of shows (ground image g0.frames) g0 m0)
        g1.lost.before g1.lost (state_of shows (ground image g0.frames) g1 m1) m1)
        → RanOnce g1 a.regs a.completes.after_memory done g2 m2 before after
    ran a = ran_once (ground image g0.frames) (view_by (shows.directory g1.shadows) g1.cpu) (state_of shows (ground image g0.frames) g1 m1)
        g1 m1 a.regs before after done g2 m2 refl a.completes o.ran

    pub behind_is : drop (4096 * g0.frames) m2 ≡ drop (4096 * g0.frames) m1
    behind_is = let a = asks_now [] in ap (λ (l : List ℕ). drop (4096 * g0.frames) l) (ran a).memory_is ∙ a.completes.follows.behind

    pub size_is : length m2 ≡ length m1
    size_is = let a = asks_now [] in ap (λ (l : List ℕ). length l) (ran a).memory_is ∙ a.completes.follows.size

    pub kept : SameKept g1.shadows pool m1 m2
    kept = o.kept behind_is size_is

    pub shadows_are : g2.shadows ≡ g1.shadows
    shadows_are = let a = asks_now [] in ap (λ (g : Running S). g.shadows) (ran a).new_is

    pub lost_is : g2.lost ≡ g1.lost
    lost_is = let a = asks_now [] in ap (λ (g : Running S). g.lost) (ran a).new_is

    pub once_goes_on : (script : Events) → Goes (wedge image script g0.frames) (state_of shows (wedge image script g0.frames) g0 m0) g2.lost
        Nothing (state_of shows (wedge image script g0.frames) g2 m2) before after
    once_goes_on script =
        subst (λ (x : Lost). Goes (wedge image script g0.frames) (state_of shows (wedge image script g0.frames) g0 m0) x Nothing
        (state_of shows (wedge image script g0.frames) g2 m2) before after) (sym lost_is)
        (asked_goes (wedge image script g0.frames) (view_by (shows.directory g1.shadows) g1.cpu)
        (state_of shows (wedge image script g0.frames) g0 m0) g1 g2 m1 m2 before after done g1.lost (asks_now script)
        o.ran kept.entries_are)

    pub once_frames : g2.frames ≡ g0.frames
    once_frames = let a = asks_now [] in ap (λ (g : Running S). g.frames) (ran a).new_is ∙ ap (λ (g : Running S). g.frames) o.same

    pub once_counts : g2.step ≡ g0.step + 1
    once_counts = let a = asks_now [] in let e = ap (λ (g : Running S). g.step) (ran a).new_is in let f = step_is in omega (arith, e, f)

    pub once_few : after.retired ≡ before.retired + 1
    once_few = (ran (asks_now [])).retired

    pub once_stands : ∥ shows.stands g2.shadows m2 ∥₁
    once_stands = subst (λ (s : S). ∥ shows.stands s m2 ∥₁) (sym shadows_are) kept.stand

    pub once_able : StepsKeepAble → IsAble g0.cpu → IsAble g2.cpu
    once_able keeps able =
        let a = asks_now [] in
        let f = a.completes.follows in
        let able_now = subst (λ (x : Cpu). IsAble x) (sym cpu_is) able in
        let k = keeps (ground image g0.frames) (state_of shows (ground image g0.frames) g1 m1) refl able_now f.report f.after f.went in
        subst (λ (x : Cpu). IsAble x) (f.cpu ∙ sym (ap (λ (g : Running S). g.cpu) (ran a).new_is)) k

    pub once_held : IsHeld shows (ground image g0.frames) g2 pool m2
    once_held =
        let a = asks_now [] in
        let f = a.completes.follows in
        let r = ran a in
        let host = subst (λ (l : List ℕ). IsHost (ground image g0.frames) l) (sym r.memory_is) f.stands.host in
        let k = kept in
        let same = step_is in
        subst (λ (g : Running S). IsHeld shows (ground image g0.frames) g pool m2) (sym r.new_is)
        (held_done image g0.frames (record g1 { step = g0.step + 1 }) (record g1.cpu { regs = a.regs; held = false }) (board_step g1.board)
        (g1.step + 1) pool m1 m2 behind_is size_is host k.stand k.owns k.frames_are k.slots_are k.entries_are refl
        (omega (arith, same)) o.held)

    pub once_keeps : (p0 : Pool) → Keeps p0 pool m0 m1 (shows.frames g0.shadows m0) (shows.frames g1.shadows m1)
        → Keeps p0 pool m0 m2 (shows.frames g0.shadows m0) (shows.frames g2.shadows m2)
    once_keeps p0 first =
        let low = o.held.behind in
        subst (λ (s : S). Keeps p0 pool m0 m2 (shows.frames g0.shadows m0) (shows.frames s m2)) (sym shadows_are)
        (keeps_join p0 pool pool m0 m1 m2 (shows.frames g0.shadows m0) (shows.frames g1.shadows m1) (shows.frames g1.shadows m2) first
        (keeps_above pool m1 m2 (4096 * g0.frames) (shows.frames g1.shadows m1) (shows.frames g1.shadows m2) o.held.owns.stands
        (omega (arith, low)) behind_is size_is kept.frames_are))

    pub once_fills : (pages : S → List ℕ → ℕ) (old : ℕ) → pages g1.shadows m2 ≡ pages g1.shadows m1
        → CountsFills old (pages g1.shadows m1) g0.fills g1.fills → CountsFills old (pages g2.shadows m2) g0.fills g2.fills
    once_fills pages old same first =
        let a = asks_now [] in
        let fills_are : g2.fills ≡ g1.fills = ap (λ (g : Running S). g.fills) (ran a).new_is in
        subst (λ (k : ℕ). CountsFills old (pages g2.shadows m2) g0.fills k) (sym fills_are)
        (subst (λ (s : S). CountsFills old (pages s m2) g0.fills g1.fills) (sym shadows_are)
        (subst (λ (k : ℕ). CountsFills old k g0.fills g1.fills) (sym same) first))

    -- no frame to which the view lets no write pass has changed
    pub once_untouched : (at : ℕ) → IsUnlent m1 (shows.directory g1.shadows (side_of (g1.cpu.cpl == 3))) at
        → frame (shown (ground image g0.frames) m2) at ≡ frame (shown (ground image g0.frames) m1) at
    once_untouched at unlent =
        let a = asks_now [] in
        let f = a.completes.follows in
        ap (λ (l : List ℕ). frame (shown (ground image g0.frames) l) at) (ran a).memory_is
        ∙ (ap (λ (l : List ℕ). frame l at) (sym f.stands.ram) ∙ f.guest_untouched at unlent)

    pub once_rules : (g2.cpu.cr3 ≡ g0.cpu.cr3) × (pse_of g2.cpu ≡ pse_of g0.cpu) × (wp_of g2.cpu ≡ wp_of g0.cpu)
    once_rules =
        let e = (ran (asks_now [])).new_is in
        let c = cpu_is in (
          ap (λ (g : Running S). g.cpu.cr3) e ∙ ap (λ (x : Cpu). x.cr3) c,
          ap (λ (g : Running S). pse_of g.cpu) e ∙ ap pse_of c,
          ap (λ (g : Running S). wp_of g.cpu) e ∙ ap wp_of c,
        )

    -- It is the step of a run that uses what was left: it loads no CR3, leaves the control registers, and leaves what is
    -- kept, and this memory.
    pub once_taken : (script : Events) (t : Taken)
        → IsTakenFrom (wedge image script g0.frames) (state_of shows (wedge image script g0.frames) g0 m0) t
        → t.set ≡ left_of g1.lost.before (entries_of (shows.slots g0.shadows m0))
        → (is_load t.report.completed ≡ false)
        × ((t.after.cpu.cr0 ≡ g0.cpu.cr0) × (t.after.cpu.cr3 ≡ g0.cpu.cr3) × (t.after.cpu.cr4 ≡ g0.cpu.cr4))
        × (t.after.set ≡ entries_of (shows.slots g1.shadows m1)) × (t.after.ram ≡ shown (ground image g0.frames) m2)
    once_taken script t taken by =
        let m = wedge image script g0.frames in
        let b = state_of shows m g0 m0 in
        let a = asks_now script in
        let f = a.completes.follows in
        let s = a.same f.report f.after f.went in
        let r = ran_once m (view_by (shows.directory g1.shadows) g1.cpu) (state_of shows m g1 m1) g1 m1 a.regs before after done g2 m2 refl
        a.completes o.ran in
        let is : Went t.report t.after ≡ Went (record f.report { tables = s.0; wrote = s.1 }) f.after =
        sym taken.stepped ∙ (ap (λ (x : Set). stepped m (with_set b x)) by ∙ s.2) in
        let report = ap (report_in t.report) is in
        let state = ap (state_in t.after) is in
        let cpu = ap (λ (x : State). x.cpu) state ∙ f.cpu in
        let c = cpu_is in (
          ap (λ (x : Report). is_load x.completed) report ∙ f.through,
          (
            ap (λ (x : Cpu). x.cr0) cpu ∙ ap (λ (x : Cpu). x.cr0) c,
            ap (λ (x : Cpu). x.cr3) cpu ∙ ap (λ (x : Cpu). x.cr3) c,
            ap (λ (x : Cpu). x.cr4) cpu ∙ ap (λ (x : Cpu). x.cr4) c,
          ),
          ap (λ (x : State). x.set) state ∙ f.set,
          ap (λ (x : State). x.ram) state ∙ (f.stands.ram ∙ (ap (shown m) (sym r.memory_is) ∙ any_script image script g0.frames m2)),
        )

    pub once_back : g1.lost.reloaded ≡ false → g2.lost.reloaded ≡ false
    once_back back = ap (λ (l : Lost). l.reloaded) lost_is ∙ back

-- ---- steps that went otherwise

-- what the host had no part in
pub alone_able : StepsKeepAble → (m : Setting) (b : State) (lost : Lost) (result : Result Seen Stop) (new : State)
    → m.mode ≡ wedge_mode m.image → IsAble b.cpu → AloneAs m b lost result new → OnOk result (IsAble new.cpu)
alone_able keeps m b lost (Ok seen) new mode able a = keeps m b mode able a.report (with_set new a.whole) a.went
alone_able keeps m b lost (Err stop) new mode able a = tt

-- what was begun for the host and went without it
pub idle_able : StepsKeepAble → (m : Setting) (b : State) (before : Bool) (lost : Lost) (seen : Seen) (new : State)
    → m.mode ≡ wedge_mode m.image → IsAble b.cpu → Idle m b before lost seen new → IsAble new.cpu
idle_able keeps m b before lost seen new mode able i =
    keeps m (with_set b (left_of before b.set)) mode able i.alone.report (with_set new i.alone.whole) i.alone.went

pub idle_goes : (m : Setting) (b : State) (lost : Lost) (seen : Seen) (new : State) (before after : Counts) → before ≡ after
    → Idle m b lost.before lost seen new → Goes m b lost seen new before after
idle_goes m b lost seen new before after same i = record {
  report = i.alone.report;
  whole = i.alone.whole;
  went = i.alone.went;
  kept = i.alone.kept;
  items = i.alone.items;
  counts = subst (λ (x : Counts). CountsOn m (i.alone.report ∷ []) before x) same (none_counts m i.alone.report before i.uncounted);
}
