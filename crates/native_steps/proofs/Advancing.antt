-- A run of the host, one instruction after the other, beside the guest.
use Rattle.std.proofs.Common.{◌≡◌, ℕ, zero, suc, ◌-◌, ◌≤◌, List, [], ◌∷◌, ◌++◌, length, replicate, Bool, true, false, Option, Some, None, Ok, Err, refl, sym, ap, subst, ◌∙◌, inl, arith}
use Rattle.std.specs.List.{All}
use Rattle.std.proofs.lemmas.Bool.{cond-true, and_parts, both_ways}
use Rattle.guest_ram.specs.Bytes.{frame}
use Rattle.ia32_types.specs.declared.flags.Regs.{Regs}
use Rattle.ia32_exec.specs.Digest.{digest}
use Rattle.paging.specs.Fresh.{has}
use Rattle.descriptors.specs.declared.cpu.Cpu.{Cpu}
use Rattle.descriptors.specs.Controls.{wp_of}
use Rattle.board.specs.Quiet.{StepsAreQuiet}
use Rattle.sites.specs.declared.site.Site.{Site}
use Rattle.image_check.specs.Places.{linear}
use Rattle.image_check.specs.Standing.{site_at}
use Rattle.image_laws.specs.Patches.{window_at}
use Rattle.host_cpl3.specs.declared.view.View.{View}
use Rattle.host_cpl3.specs.declared.exit.Exit.{Exit}
use Rattle.host_cpl3.specs.declared.exit.Exit.TheVariants as exits
use Rattle.host_cpl3.specs.declared.exit.Completion.{Completion}
use Rattle.host_cpl3.specs.declared.exit.Completion.TheVariants.{Completed, Entered}
use Rattle.host_cpl3.specs.Met.{Met}
use Rattle.host_cpl3.specs.Views.{is_window, is_entry}
use Rattle.host_cpl3.specs.HostStep.{host_step}
use Rattle.host_cpl3.specs.HostRun.{Standing, counted, after_step, host_run}
use Rattle.host_cpl3.specs.Borders.{BeginsBelow, EntersTheWindow, ExitsInTheWindow}
use Rattle.machine_model.specs.State.{Setting, State, Loosened}
use Rattle.machine_model.specs.Step.{Report, Result, Went, step_of}
use Rattle.machine_model.proofs.Runs.{went_there}
use Rattle.machine_model.specs.Run.{Set, Steps, trace_of}
use Rattle.machine_model.specs.Taken.{Taken, behind as steps_behind, is_load, steps_by}
use Rattle.machine_model.specs.Untold.{AreLeft}
use Rattle.machine_model.specs.Counts.{is_direct, direct_in, direct_addresses, passed_on}
use Rattle.native_steps.specs.Lends.{Lends, IsUnlent, AreKept}
use Rattle.native_steps.specs.Mirrors.{IsWedge, Mirrors}
use Rattle.native_steps.specs.Forward.{IsEntrance, IsNext, Follows, Forward, NotEntered, AtSites}
use Rattle.native_steps.specs.Stretch.{SameBehind, StaysUnlent, Beside, board_now, AreQuiet, EndsAs, IsQuiet, Advanced}
use Rattle.native_steps.proofs.Completing.{no_window}
use Rattle.native_steps.proofs.Quiet.{IsLater, quiet_on, board_on}
use Rattle.native_steps.proofs.Shown.{shown_length}

-- the laws of one instruction, and of one step of the board
pub record Laws : Type 0 where
  pub forward : Forward
  pub not_entered : NotEntered
  pub at_sites : AtSites
  pub below : BeginsBelow
  pub enters : EntersTheWindow
  pub exits : ExitsInTheWindow
  pub quiet : StepsAreQuiet

same_done : (a c : Completion) (x y : List ℕ) → ◌≡◌ {A = Met (Completion × List ℕ)} (Ok (a, x)) (Ok (c, y)) → a ≡ c
same_done a c x y g = let q : ◌≡◌ {A = Completion × List ℕ} (a, x) (c, y) = cc in ap (λ (o : Completion × List ℕ). o.0) q

entered_same : (x y : Regs) → Entered x ≡ Entered y → x ≡ y
entered_same x y e = cc

all_more : {A : Type 0} (P : A → Type 0) (x : A) (xs : List A) → P x → All P xs → All P (x ∷ xs)
all_more P x xs h rest zero d lt = h
all_more P x xs h rest (suc k) d lt = rest k d (omega (arith, lt))

all_none : {A : Type 0} (P : A → Type 0) → All P []
all_none P k d lt = absurd (omega (arith, lt))

behind_same : (m : Setting) (memory : List ℕ) → SameBehind m memory memory
behind_same m memory = record { size = refl; beyond = refl }

behind_join : (m : Setting) (a b c : List ℕ) → SameBehind m a b → SameBehind m b c → SameBehind m a c
behind_join m a b c p q = record { size = q.size ∙ p.size; beyond = q.beyond ∙ p.beyond }

any_allowed : (m : Setting) (b : State) → Loosened m b b.set
any_allowed m b = record { each = λ page e is. inl is }

module _ (laws : Laws) (m : Setting) (v : View) (w : IsWedge m) where
  -- no instruction completes
  none_done : (b : State) (s : Standing) → Beside m v b s → (k : ℕ) (exit : Exit) (t : Standing) → EndsAs m v exit s t
      → Advanced m v b k s exit t
  unfolding Steps
  none_done b s h k exit t ends = record {
    n = 0;
    few = omega arith;
    last = s;
    after = b;
    reports = [];
    steps = (refl, refl);
    sets = tt;
    quiet = all_none IsQuiet;
    beside = h;
    cpu = ap (λ (r : Regs). record b.cpu { regs = r }) h.regs;
    set = refl;
    board = refl;
    count = omega arith;
    unseen = refl;
    pages = all_none (λ (x : Report). AreKept b.set x.pages);
    unwalked = all_none (λ (x : Report). x.tables ≡ []);
    through = all_none (λ (x : Report). is_load x.completed ≡ false);
    direct = refl;
    passed = refl;
    retired = omega arith;
    behind = behind_same m s.ram;
    untouched = λ at none. refl;
    guest_untouched = λ at none. refl;
    ends = ends;
  }

  -- ---- one instruction

  module _ (b : State) (s : Standing) (k : ℕ) (h : Beside m v b s) (q : AreQuiet m b (suc k)) where
    -- the state in its step
    now : State
    now = record b { board = board_now m b }

    stands_now : Mirrors m s.ram v now
    unfolding now
    stands_now = record { host = h.stands.host; ram = h.stands.ram; sees = h.stands.sees }

    lends_now : Lends m s.ram v.root v.kernel (wp_of now.cpu) now.set
    unfolding now
    lends_now = h.lends s.ram (behind_same m s.ram)

    host_there : (x : Met (Completion × List ℕ)) → host_step v s.ram s.regs ≡ x → host_step v s.ram now.cpu.regs ≡ x
    unfolding now
    host_there x e = ap (host_step v s.ram) h.regs ∙ e

    next_from : (x : Completion × List ℕ) → host_step v s.ram s.regs ≡ Ok x
        → (v.kernel ≡ true → site_at m.image.sites (b.cpu.regs.eip - 0x10000000) ≡ None) → IsNext m v.kernel now
    unfolding now
    next_from x e outside = record {
      awake = h.awake;
      quiet = q.0;
      small = λ u. laws.below v s.ram b.cpu.regs x (ap (host_step v s.ram) h.regs ∙ e);
      start = λ t. (h.entrance t).start;
      outside = outside;
    }

    -- what is done at a site is the jump into the window
    at_site : v.kernel ≡ true → (site : Site) → site_at m.image.sites (b.cpu.regs.eip - 0x10000000) ≡ Some site
        → (done : Completion) (ram : List ℕ) → host_step v s.ram s.regs ≡ Ok (done, ram)
        → (done ≡ Entered (record b.cpu.regs { eip = window_at site.at })) × (ram ≡ s.ram)
    unfolding now
    at_site t site there done ram e =
        laws.at_sites m s.ram v now w stands_now lends_now t site (h.entrance t).above there ((h.entrance t).way_in.first site there) done
        ram (host_there (Ok (done, ram)) e)

    -- ---- it completes

    module _ (regs : Regs) (ram : List ℕ) (e : host_step v s.ram s.regs ≡ Ok (Completed regs, ram)) where
      no_site : v.kernel ≡ true → site_at m.image.sites (b.cpu.regs.eip - 0x10000000) ≡ None
      no_site t = by_site (site_at m.image.sites (b.cpu.regs.eip - 0x10000000)) refl
        where
          by_site : (o : Option Site) → site_at m.image.sites (b.cpu.regs.eip - 0x10000000) ≡ o → o ≡ None
          by_site None is = refl
          by_site (Some site) is = absurd (let f : Completed regs ≡ Entered (record b.cpu.regs { eip = window_at site.at }) =
              (at_site t site is (Completed regs) ram e).0 in cc)

      follows : Follows m v now s.ram regs ram
      follows = laws.forward m s.ram v now w stands_now lends_now (next_from (Completed regs, ram) e no_site) regs ram
          (host_there (Ok (Completed regs, ram)) e)

      after : State
      after = follows.after

      cpu_is : after.cpu ≡ record b.cpu { regs = regs }
      unfolding after now
      cpu_is = follows.cpu ∙ ap (λ (x : Bool). record b.cpu { regs = regs; held = x }) (sym h.unheld)

      set_is : after.set ≡ b.set
      unfolding after now
      set_is = follows.set

      went : step_of m b b.set ≡ Went follows.report after
      unfolding step_of after now
      went = follows.went

      behind : SameBehind m s.ram ram
      unfolding now
      behind = record { size = follows.size; beyond = follows.behind }

      untouched : (at : ℕ) → IsUnlent s.ram v.root at → frame ram at ≡ frame s.ram at
      unfolding now
      untouched = follows.untouched

      guest_untouched : (at : ℕ) → IsUnlent s.ram v.root at → frame after.ram at ≡ frame b.ram at
      unfolding after now
      guest_untouched = follows.guest_untouched

      still : (memory : List ℕ) → SameBehind m ram memory → Lends m memory v.root v.kernel (wp_of b.cpu) b.set
      still memory same = h.lends memory (behind_join m s.ram ram memory behind same)

      unlent_on : (at : ℕ) → StaysUnlent m v s.ram at → StaysUnlent m v ram at
      unlent_on at none memory same = none memory (behind_join m s.ram ram memory behind same)

      beside : Beside m v after (counted s regs ram)
      unfolding after
      beside = record {
        stands = follows.stands;
        lends = λ memory same.
            subst (λ (x : Bool). Lends m memory v.root v.kernel x after.set) (ap (λ (c : Cpu). wp_of c) (sym cpu_is))
            (subst (Lends m memory v.root v.kernel (wp_of b.cpu)) (sym set_is) (still memory same));
        regs = ap (λ (c : Cpu). c.regs) cpu_is;
        awake = ap (λ (c : Cpu). c.halted) cpu_is ∙ h.awake;
        unheld = ap (λ (c : Cpu). c.held) cpu_is ∙ h.unheld;
        entrance = λ t. subst (IsEntrance m.image) (ap (λ (c : Cpu). c.regs.eip) (sym cpu_is)) (follows.leads t);
      }

      later : IsLater m b after
      unfolding after now
      later = record {
        board = follows.board;
        count = follows.count;
        flag = ap (λ (c : Cpu). has c.regs.flags.bits 512) cpu_is ∙ follows.interrupts;
        held = ap (λ (c : Cpu). c.held) cpu_is;
      }

      counts : direct_in m.image.sites follows.report.completed ≡ b.cpu.regs.eip ∷ []
      unfolding now
      counts =
          ap (direct_in m.image.sites) follows.completes
          ∙ cond-true (is_direct m.image.sites follows.completed) (follows.completed.eip ∷ []) [] follows.direct
          ∙ ap (λ (x : ℕ). x ∷ []) follows.eip

      -- the step as it was taken
      taken : Taken
      taken = record { before = b; set = b.set; report = follows.report; after = after }

      quiet_one : IsQuiet taken
      unfolding taken after now
      quiet_one = record {
        through = follows.through;
        cr0 = ap (λ (c : Cpu). c.cr0) cpu_is;
        cr3 = ap (λ (c : Cpu). c.cr3) cpu_is;
        cr4 = ap (λ (c : Cpu). c.cr4) cpu_is;
        size = ap (λ (l : List ℕ). length l) follows.stands.ram
            ∙ (shown_length m w ram follows.stands.host
            ∙ (sym (shown_length m w s.ram h.stands.host) ∙ sym (ap (λ (l : List ℕ). length l) h.stands.ram)));
      }

      -- with the steps after it
      quiet_more : (n : ℕ) → All IsQuiet (steps_by m after (replicate n after.set)) → All IsQuiet (steps_by m b (replicate (suc n) b.set))
      unfolding taken
      quiet_more n rest =
          let later : All IsQuiet (steps_by m after (replicate n b.set)) =
          subst (λ (x : Set). All IsQuiet (steps_by m after (replicate n x))) set_is rest in
          subst (All IsQuiet) (sym (ap (λ (r : Result). steps_behind b b.set r (λ a. steps_by m a (replicate n b.set))) went))
          (all_more IsQuiet taken (steps_by m after (replicate n b.set)) quiet_one later)

      pages_kept : AreKept b.set follows.report.pages
      unfolding now
      pages_kept = follows.pages

      begun_at : b.cpu.regs.eip ≡ s.regs.eip
      begun_at = ap (λ (x : Regs). x.eip) h.regs

      one_more : (exit : Exit) (t : Standing) → Advanced m v after k (counted s regs ram) exit t → Advanced m v b (suc k) s exit t
      unfolding Steps
      one_more exit t r =
          let addresses : direct_addresses m.image.sites (follows.report ∷ r.reports) ≡ b.cpu.regs.eip ∷ direct_addresses m.image.sites
          r.reports = ap (λ (x : List ℕ). x ++ direct_addresses m.image.sites r.reports) counts in
          record {
            n = suc r.n;
            few = omega (arith, r.few);
            last = r.last;
            after = r.after;
            reports = follows.report ∷ r.reports;
            steps = (
              after,
              follows.report,
              r.reports,
              any_allowed m b,
              went,
              subst (λ (x : Set). Steps m after (replicate r.n x) r.reports r.after) set_is r.steps,
              refl,
            );
            sets = (
              refl,
              λ report mid is.
                  subst (λ (x : State). AreLeft m x (replicate r.n b.set)) (went_there follows.report report after mid (sym went ∙ is))
                  (subst (λ (x : Set). AreLeft m after (replicate r.n x)) set_is r.sets),
            );
            quiet = quiet_more r.n r.quiet;
            beside = r.beside;
            cpu = r.cpu ∙ ap (λ (c : Cpu). record c { regs = r.last.regs }) cpu_is;
            set = r.set ∙ set_is;
            board = r.board ∙ board_on laws.quiet m b after later k r.n r.few q;
            count = omega (arith, r.count, later.count);
            unseen = ap (λ (x : List Rattle.run_trace.specs.declared.items.Item.Item). x ++ trace_of r.reports) follows.unseen ∙ r.unseen;
            pages = all_more (λ (x : Report). AreKept b.set x.pages) follows.report r.reports pages_kept
                (subst (λ (x : Set). All (λ (y : Report). AreKept x y.pages) r.reports) set_is r.pages);
            unwalked = all_more (λ (x : Report). x.tables ≡ []) follows.report r.reports follows.unwalked r.unwalked;
            through = all_more (λ (x : Report). is_load x.completed ≡ false) follows.report r.reports follows.through r.through;
            direct = ap (λ (x : List ℕ). length x) addresses ∙ ap suc r.direct;
            passed = r.passed ∙ ap (λ (x : ℕ). passed_on (digest s.passed x) (direct_addresses m.image.sites r.reports)) (sym begun_at)
                ∙ sym (ap (passed_on s.passed) addresses);
            retired = omega (arith, r.retired);
            behind = behind_join m s.ram ram r.last.ram behind r.behind;
            untouched = λ at none. r.untouched at (unlent_on at none) ∙ untouched at (none s.ram (behind_same m s.ram));
            guest_untouched = λ at none. r.guest_untouched at (unlent_on at none) ∙ guest_untouched at (none s.ram (behind_same m s.ram));
            ends = r.ends;
          }

    -- ---- it doesn't

    kernel_of : (at : ℕ) → is_entry v at ≡ true → v.kernel ≡ true
    kernel_of at e = (and_parts v.kernel (is_window at) e).0

    -- no instruction begins in the window
    not_there : (at : ℕ) → host_step v s.ram s.regs ≡ Err (exits.Entry at) → ⊥
    not_there at e =
        let x = laws.exits v s.ram s.regs at e in
        let t = kernel_of s.regs.eip x.0 in
        let above = subst (λ (n : ℕ). 0x10000000 ≤ n) (ap (λ (r : Regs). r.eip) h.regs) (h.entrance t).above in
        both_ways (is_window s.regs.eip) (no_window s.regs.eip above) (and_parts v.kernel (is_window s.regs.eip) x.0).1

    exit_ends : (exit : Exit) → host_step v s.ram s.regs ≡ Err exit → EndsAs m v exit s s
    exit_ends (exits.Entry at) e = absurd (not_there at e)
    exit_ends (exits.Fault vector code cr2) e = refl
    exit_ends (exits.Soft vector) e = refl
    exit_ends exits.Outside e = refl
    exit_ends exits.FlagBits e = refl
    exit_ends exits.Wrap e = refl
    exit_ends exits.Budget e = refl

    entry_ends : (regs : Regs) (ram : List ℕ) → host_step v s.ram s.regs ≡ Ok (Entered regs, ram)
        → EndsAs m v (exits.Entry regs.eip) s (record s { regs = regs; ram = ram })
    entry_ends regs ram e =
        let t = kernel_of regs.eip (laws.enters v s.ram s.regs regs ram e) in
        by_site t (site_at m.image.sites (b.cpu.regs.eip - 0x10000000)) refl
      where
        by_site : v.kernel ≡ true → (o : Option Site) → site_at m.image.sites (b.cpu.regs.eip - 0x10000000) ≡ o
            → EndsAs m v (exits.Entry regs.eip) s (record s { regs = regs; ram = ram })
        by_site t None is =
            absurd (laws.not_entered m s.ram v now w stands_now lends_now (next_from (Entered regs, ram) e (λ u. is)) regs ram
            (host_there (Ok (Entered regs, ram)) e))
        by_site t (Some site) is =
            let x = at_site t site is (Entered regs) ram e in
            let regs_are : regs ≡ record s.regs { eip = window_at site.at } =
            entered_same regs (record b.cpu.regs { eip = window_at site.at }) x.0
            ∙ ap (λ (r : Regs). record r { eip = window_at site.at }) h.regs in
            let eip_is : regs.eip ≡ window_at site.at = ap (λ (r : Regs). r.eip) regs_are in
            let first = (h.entrance t).way_in.first site is in
            let above = (h.entrance t).above in
            let at = ap (λ (r : Regs). r.eip) h.regs in
            let place : s.regs.eip ≡ linear site.at = omega (arith, first, above, at) in
            let there : site_at m.image.sites site.at ≡ Some site = ap (site_at m.image.sites) first ∙ is in (
              site,
              t,
              place,
              there,
              eip_is,
              ap (λ (r : Regs). record s { regs = r; ram = ram }) (regs_are ∙ ap (λ (n : ℕ). record s.regs { eip = n }) (sym eip_is))
                  ∙ ap (λ (x : List ℕ). record s { regs = record s.regs { eip = regs.eip }; ram = x }) x.1,
            )

    by_step : (met : Met (Completion × List ℕ)) → host_step v s.ram s.regs ≡ met
        → ((c : State) (t : Standing) → Beside m v c t → AreQuiet m c k → Advanced m v c k t (host_run v k t).0 (host_run v k t).1)
        → Advanced m v b (suc k) s (after_step s met (host_run v k)).0 (after_step s met (host_run v k)).1
    by_step (Ok (Completed regs, ram)) e rest =
        one_more regs ram e _ _
        (rest (after regs ram e) (counted s regs ram) (beside regs ram e)
        (quiet_on laws.quiet m b (after regs ram e) (later regs ram e) k q))
    by_step (Ok (Entered regs, ram)) e rest =
        none_done b s h (suc k) (exits.Entry regs.eip) (record s { regs = regs; ram = ram }) (entry_ends regs ram e)
    by_step (Err exit) e rest = none_done b s h (suc k) exit s (exit_ends exit e)

  pub advanced : (k : ℕ) (b : State) (s : Standing) → Beside m v b s → AreQuiet m b k
      → Advanced m v b k s (host_run v k s).0 (host_run v k s).1
  unfolding host_run Steps
  advanced zero b s h q = none_done b s h zero exits.Budget s refl
  advanced (suc k) b s h q = by_step b s k h q (host_step v s.ram s.regs) refl (advanced k)
