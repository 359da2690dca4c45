-- A guest after a run of its host: its steps, and that it is held as before.
use Rattle.std.proofs.Common.{◌≡◌, ℕ, zero, suc, ◌+◌, ◌-◌, ◌*◌, ◌/◌, ◌%◌, ◌≤◌, ◌<◌, ◌^◌, ◌==◌, Bool, true, false, ◌||◌, not, List, [], length, drop, replicate, refl, sym, ap, subst, ◌∙◌, arith}
use Rattle.std.specs.FinMap.{get}
use Rattle.guest_ram.specs.Bytes.{frame}
use Rattle.descriptors.specs.Controls.{pse_of, wp_of}
use Rattle.frame_pool.specs.Pool.{base_of}
use Rattle.frame_pool.specs.declared.Pool.{Pool}
use Rattle.frame_pool.specs.Held.{Owns, SameIn}
use Rattle.frame_pool.proofs.Above.{free_list-above}
use Rattle.paging.specs.Reached.{reached}
use Rattle.board.specs.declared.devices.Board.{Board}
use Rattle.board.specs.Boards.{given}
use Rattle.board.specs.Quiet.{board_steps, comes_within, event_within}
use Rattle.pit8254.specs.Edges.{edge_within}
use Rattle.board.specs.Scripts.{Events}
use Rattle.ia32_types.specs.declared.flags.Regs.{Regs}
use Rattle.shadow_tables.specs.Entries.{entries_of}
use Rattle.shadow_tables.specs.Host.{lent}
use Rattle.shadow_tables.specs.Slots.{SameSlots, entry_in}
use Rattle.shadow_tables.specs.declared.words.Side.{Side}
use Rattle.shadow_tables.specs.declared.shadows.Shadows as shadows
use Rattle.step_mem.specs.Changes.{AreWithin}
use Rattle.image_check.specs.Image.{Image}
use Rattle.host_cpl3.specs.declared.view.View.{View}
use Rattle.host_cpl3.specs.declared.exit.Exit.{Exit}
use Rattle.host_cpl3.specs.HostRun.{Standing}
use Rattle.host_cpl3.specs.Hosts.{standing}
use Rattle.machine_model.specs.State.{Setting, State, wedge}
use Rattle.machine_model.specs.Run.{Set, Steps, with_set}
use Rattle.machine_model.specs.Rules.{is_open}
use Rattle.machine_model.specs.Able.{IsAble}
use Rattle.native_steps.specs.Lends.{Lends, IsUnlent}
use Rattle.native_steps.specs.Mirrors.{IsHost, shown}
use Rattle.native_steps.specs.Stretch.{SameBehind, Beside, Advanced, Advances, board_after}
use Rattle.wedge_step.specs.declared.running.Running.{Running}
use Rattle.wedge_step.specs.Parts.{IsPartOf}
use Rattle.wedge_step.specs.Pools.{Keeps}
use Rattle.wedge_core.specs.Ran.{landed}
use Rattle.wedge_core.proofs.RanBy.{Ran}
use Rattle.wedge_step.specs.Standing.{IsHeld, AreOpen, ground, side_of, set_of, state_of}
use Rattle.wedge_core.specs.Stepping.{Passes}
use Rattle.wedge_core.specs.ViewLaws.{ViewsLend, ViewsSee}
use Rattle.wedge_core.specs.Views.{view_by}
use Rattle.wedge_step.proofs.Keeping.{keeps_above}
use Rattle.wedge_step.proofs.Opening.{same_open}
use Rattle.wedge_step.proofs.Parts.{part_same}
use Rattle.wedge_core.proofs.Seeing.{side_is}
use Rattle.wedge_core.proofs.Landing.{MayRun, quiet_steps, Lands, lands, state_is, board_some, steps_none, no_sets}
use Rattle.wedge_step.proofs.Boards.{none_given}
use Rattle.wedge_step.proofs.AfterTry.{any_script}

-- where no event is in a script, none comes
front : (a b : Bool) → (a || b) ≡ false → (a || false) ≡ false
front true b e = absurd (let f : true ≡ false = e in cc)
front false b e = refl

none_comes : (board : Board) (script : Events) (step n : ℕ) → comes_within board script step n ≡ false
    → comes_within board [] step n ≡ false
unfolding comes_within
none_comes board script step n e = front (edge_within n board.pit) (event_within step n script) e

module _ {S : Type 0} (shows : shadows.Ghosts S) where
  -- the laws of shadows
  pub record Laws : Type 0 where
    pub host : (s : S) (m : List ℕ) (n : ℕ) (side : Side) (page : ℕ) (write : Bool) → ∥ shows.stands s m ∥₁ → 4096 * n ≡ length m
        → page < 2 ^ 20 → reached m n (shows.directory s side) page write ≡ lent n (shows.slots s m page) side write
    pub stays : (s : S) (m m' : List ℕ) → ∥ shows.stands s m ∥₁ → SameIn (shows.frames s m) m m' → ∥ shows.stands s m' ∥₁
    pub same_frames : (s : S) (m m' : List ℕ) → ∥ shows.stands s m ∥₁ → SameIn (shows.frames s m) m m'
        → shows.frames s m' ≡ shows.frames s m
    pub same_slots : (s : S) (m m' : List ℕ) → ∥ shows.stands s m ∥₁ → SameIn (shows.frames s m) m m'
        → SameSlots (shows.slots s m) (shows.slots s m')
    pub same_entries : (s : S) (m m' : List ℕ) → ∥ shows.stands s m ∥₁ → SameIn (shows.frames s m) m m'
        → entries_of (shows.slots s m') ≡ entries_of (shows.slots s m)
    pub entry_at : (s : S) (m : List ℕ) (page : ℕ) → page < 2 ^ 20 → get (entries_of (shows.slots s m)) page ≡ entry_in
        (shows.slots s m page)
    pub above : (s : S) (p : Pool) (m m' : List ℕ) (limit : ℕ) → Owns p m (shows.frames s m) → limit ≤ 4096 * base_of p
        → drop limit m' ≡ drop limit m → length m' ≡ length m → SameIn (shows.frames s m) m m'
    pub owned_above : (s : S) (p : Pool) (m m' : List ℕ) (limit : ℕ) → ∥ shows.stands s m ∥₁ → Owns p m (shows.frames s m)
        → limit ≤ 4096 * base_of p → drop limit m' ≡ drop limit m → length m' ≡ length m → Owns p m' (shows.frames s m')

  -- what follows from the run alone
  module _ (g now : Running S) (view : View) (start : Standing) (k done : ℕ) (after_memory : List ℕ) (retired_then passed_then : ℕ)
      (r : Ran view k start g done now after_memory retired_then passed_then) where
    -- the guest, had it done n instructions
    abbrev Then : ℕ → Type 0
    Then n = (n ≡ 0 → now ≡ g)
        × (0 < n → now ≡ record g {
          cpu = record g.cpu { regs = landed r.exit r.regs; held = false };
          board = board_steps n g.board;
          step = g.step + n;
        })

    pub frames_then : now.frames ≡ g.frames
    frames_then = by done (r.none, r.some)
      where
        by : (n : ℕ) → Then n → now.frames ≡ g.frames
        by zero t = ap (λ (x : Running S). x.frames) (t.0 refl)
        by (suc n) t = ap (λ (x : Running S). x.frames) (t.1 (omega arith))

    pub fills_then : now.fills ≡ g.fills
    fills_then = by done (r.none, r.some)
      where
        by : (n : ℕ) → Then n → now.fills ≡ g.fills
        by zero t = ap (λ (x : Running S). x.fills) (t.0 refl)
        by (suc n) t = ap (λ (x : Running S). x.fills) (t.1 (omega arith))

    pub step_then : now.step ≡ g.step + done
    step_then = by done (r.none, r.some)
      where
        by : (n : ℕ) → Then n → now.step ≡ g.step + n
        by zero t = let e = ap (λ (x : Running S). x.step) (t.0 refl) in omega (arith, e)
        by (suc n) t = ap (λ (x : Running S). x.step) (t.1 (omega arith))

  module _ (laws : Laws) (image : Image) (f : ℕ) (g : Running S) (pool : Pool) (memory : List ℕ)
      (h : IsHeld shows (ground image f) g pool memory) where
    abbrev kept : List ℕ → Set
    kept m = entries_of (shows.slots g.shadows m)

    -- ---- memory that is the same past the guest's frames

    module _ (new : List ℕ) (same : SameBehind (ground image f) memory new) where
      pub limit : 4096 * f ≤ 4096 * base_of pool
      limit = let b = h.behind in omega (arith, b)

      pub same_in : SameIn (shows.frames g.shadows memory) memory new
      same_in = laws.above g.shadows pool memory new (4096 * f) h.owns limit same.beyond same.size

      pub stand : ∥ shows.stands g.shadows new ∥₁
      stand = laws.stays g.shadows memory new h.stand same_in

      owned : Owns pool new (shows.frames g.shadows new)
      owned = laws.owned_above g.shadows pool memory new (4096 * f) h.stand h.owns limit same.beyond same.size

      frames_same : shows.frames g.shadows new ≡ shows.frames g.shadows memory
      frames_same = laws.same_frames g.shadows memory new h.stand same_in

      pub set_same : kept new ≡ kept memory
      set_same = laws.same_entries g.shadows memory new h.stand same_in

      pub whole_new : length new % 4096 ≡ 0
      whole_new = ap (λ (n : ℕ). n % 4096) same.size ∙ h.whole

      within : AreWithin f (kept new)
      within = subst (AreWithin f) (sym set_same) h.within

      has_tables_under : AreOpen image (wp_of g.cpu) (shows.slots g.shadows new)
      has_tables_under = same_open image (wp_of g.cpu) (shows.slots g.shadows memory) (shows.slots g.shadows new)
          (laws.same_slots g.shadows memory new h.stand same_in) h.open_to

      lends : ViewsLend → (script : Events) (whole : Set) → IsPartOf (kept memory) whole
          → Lends (wedge image script f) new (shows.directory g.shadows (side_of (g.cpu.cpl == 3)))
          (not (g.cpu.cpl == 3)) (wp_of g.cpu) whole
      lends views script whole part =
          let m = wedge image script f in
          let side = side_of (g.cpu.cpl == 3) in
          let all : 4096 * (length new / 4096) ≡ length new = let w = whole_new in omega (arith, w) in
          let lent_here = views m new (shows.directory g.shadows side) side (wp_of g.cpu) (shows.slots g.shadows new) whole
          (λ page write lt. laws.host g.shadows new (length new / 4096) side page write stand all lt)
          (λ page lt. laws.entry_at g.shadows new page lt) within has_tables_under
          (subst (λ (x : Set). IsPartOf x whole) (sym set_same) part) in
          subst (λ (x : Bool). Lends m new (shows.directory g.shadows side) x (wp_of g.cpu) whole) (side_is g.cpu) lent_here

      -- the guest is held as before, at a later step
      held_on : IsHost (ground image f) new → (regs : Regs) (held : Bool) (board : Board) (step : ℕ) → g.step ≤ step
          → IsHeld shows (ground image f) (record g { cpu = record g.cpu { regs = regs; held = held }; board = board; step = step }) pool
          new
      held_on host regs held board step later =
          let free = ap length (free_list-above pool memory new (4096 * f) limit same.beyond same.size h.owns.stands) in
          let many = ap length frames_same in
          let few = h.few in
          record {
            wedge = h.wedge;
            frames_are = h.frames_are;
            size = h.size;
            host = host;
            whole = whole_new;
            behind = h.behind;
            stand = stand;
            owns = owned;
            counted = h.counted ∙ sym many;
            few = omega (arith, free, many, few);
            fills = (let n = h.fills in omega (arith, n, later));
            within = within;
            open_to = has_tables_under;
          }

    -- ---- after a run of the host

    module _ (views : ViewsLend) (sees : ViewsSee) (advances : Advances) (able : IsAble g.cpu) (may : MayRun g.cpu g.board image)
        (unheld : g.cpu.held ≡ false) (retired passed k done : ℕ) (now : Running S) (after_memory : List ℕ) (retired_then passed_then : ℕ)
        (r : Ran (view_by (shows.directory g.shadows) g.cpu) k (standing g.cpu.regs memory retired passed) g done now after_memory
        retired_then passed_then)
      where
        abbrev view : View
        view = view_by (shows.directory g.shadows) g.cpu

        abbrev start : Standing
        start = standing g.cpu.regs memory retired passed

        abbrev end : Standing
        end = standing r.regs after_memory retired_then passed_then

        pub shadows_is : now.shadows ≡ g.shadows
        shadows_is = by done r.none r.some
          where
            by : (n : ℕ) → (n ≡ 0 → now ≡ g)
                → (0 < n → now ≡ record g {
                  cpu = record g.cpu { regs = landed r.exit r.regs; held = false };
                  board = board_steps n g.board;
                  step = g.step + n;
                }) → now.shadows ≡ g.shadows
            by zero a b = ap (λ (x : Running S). x.shadows) (a refl)
            by (suc n) a b = ap (λ (x : Running S). x.shadows) (b (omega arith))

        -- what walks use, beside memory
        pub rules_then : (now.cpu.cr3 ≡ g.cpu.cr3) × (pse_of now.cpu ≡ pse_of g.cpu) × (wp_of now.cpu ≡ wp_of g.cpu)
        rules_then = by done r.none r.some
          where
            by : (n : ℕ) → (n ≡ 0 → now ≡ g)
                → (0 < n → now ≡ record g {
                  cpu = record g.cpu { regs = landed r.exit r.regs; held = false };
                  board = board_steps n g.board;
                  step = g.step + n;
                })
                → (now.cpu.cr3 ≡ g.cpu.cr3) × (pse_of now.cpu ≡ pse_of g.cpu) × (wp_of now.cpu ≡ wp_of g.cpu)
            by zero a b = let e = a refl in (
              ap (λ (x : Running S). x.cpu.cr3) e,
              ap (λ (x : Running S). pse_of x.cpu) e,
              ap (λ (x : Running S). wp_of x.cpu) e,
            )
            by (suc n) a b = let e = b (omega arith) in (
              ap (λ (x : Running S). x.cpu.cr3) e,
              ap (λ (x : Running S). pse_of x.cpu) e,
              ap (λ (x : Running S). wp_of x.cpu) e,
            )

        module _ (script : Events) (quiet : 0 < k → comes_within g.board script g.step (k - 1) ≡ false) (board : Board)
            (is : given board script g.step ≡ g.board) (whole : Set) (part : IsPartOf (kept memory) whole) where
          abbrev m : Setting
          m = wedge image script f

          abbrev begun : State
          begun = record { cpu = g.cpu; ram = shown m memory; set = whole; board = board; step = g.step }

          beside : Beside m view begun start
          beside = record {
            stands = record {
              host = record { room = h.host.room; text = h.host.text };
              ram = refl;
              sees = sees (shows.directory g.shadows) g.cpu able;
            };
            lends = λ new same. lends new (record { size = same.size; beyond = same.beyond }) views script whole part;
            regs = refl;
            awake = may.awake;
            unheld = unheld;
            entrance = may.entrance;
          }

          advanced : Advanced m view begun k start r.exit end
          advanced =
              subst (λ (p : Exit × Standing). Advanced m view begun k start p.0 p.1) r.run
              (advances m view k begun start (record { mode = refl; accepted = h.wedge.accepted; room = h.wedge.room }) beside
              (quiet_steps m begun g.board k is may.quiet quiet))

          lands_there : Lands r.exit advanced.last end
          lands_there = lands m view r.exit advanced.last end advanced.ends

          count_is : advanced.n ≡ done
          count_is = let a = advanced.retired in let b = lands_there.retired in let c = r.count in omega (arith, a, b, c)

          behind_is : SameBehind (ground image f) memory after_memory
          behind_is = subst (SameBehind (ground image f) memory) (sym lands_there.ram)
              (record { size = advanced.behind.size; beyond = advanced.behind.beyond })

          host_is : IsHost (ground image f) after_memory
          host_is = subst (IsHost (ground image f)) (sym lands_there.ram)
              (record { room = advanced.beside.stands.host.room; text = advanced.beside.stands.host.text })

          ram_is : advanced.after.ram ≡ shown m after_memory
          ram_is = advanced.beside.stands.ram ∙ ap (shown m) (sym lands_there.ram)

          set_is : kept after_memory ≡ kept memory
          set_is = set_same after_memory behind_is

          now_set : set_of shows now after_memory ≡ kept memory
          now_set = ap (λ (s : S). entries_of (shows.slots s after_memory)) shadows_is ∙ set_is

          -- some instructions were done

          module _ (some : 0 < done) where
            abbrev then_state : State
            then_state = with_set (state_of shows m now after_memory) whole

            after_is : advanced.after ≡ then_state
            after_is =
                let now_is = r.some some in
                state_is advanced.after then_state
                (advanced.cpu ∙ (ap (λ (x : Regs). record g.cpu { regs = x }) (sym lands_there.regs)
                ∙ (ap (λ (x : Bool). record g.cpu { regs = landed r.exit r.regs; held = x }) unheld
                ∙ sym (ap (λ (x : Running S). x.cpu) now_is))))
                ram_is
                advanced.set
                (advanced.board ∙ (ap (board_after m begun) count_is
                ∙ (board_some m begun done some ∙ (ap (board_steps done) is ∙ sym (ap (λ (x : Running S). x.board) now_is)))))
                (advanced.count ∙ (ap (λ (n : ℕ). g.step + n) count_is ∙ sym (ap (λ (x : Running S). x.step) now_is)))

            pub passes_on : whole ≡ kept memory → Passes m begun (state_of shows m now after_memory)
                (record { retired = retired; passed = passed }) (record { retired = retired_then; passed = passed_then })
            passes_on exact = record {
              n = advanced.n;
              reports = advanced.reports;
              steps = subst (Steps m begun (replicate advanced.n whole) advanced.reports)
                  (after_is ∙ ap (with_set (state_of shows m now after_memory)) (exact ∙ sym now_set)) advanced.steps;
              sets = advanced.sets;
              quiet = advanced.quiet;
              silent = advanced.unseen;
              counts = record {
                retired = (let a = r.count in let b = count_is in let c = advanced.direct in omega (arith, a, b, c));
                passed = lands_there.passed ∙ advanced.passed;
              };
            }

          -- none was done

          module _ (none : done ≡ 0) where
            nothing : (advanced.reports ≡ []) × (advanced.after ≡ begun)
            nothing = steps_none m begun advanced.after (replicate advanced.n whole) advanced.reports
                (no_sets advanced.n whole (count_is ∙ none)) advanced.steps

            shown_same : shown m after_memory ≡ shown m memory
            shown_same = sym ram_is ∙ ap (λ (x : State). x.ram) nothing.1

            state_same : state_of shows m now after_memory ≡ state_of shows m g memory
            state_same =
                let now_is = r.none none in
                state_is (state_of shows m now after_memory) (state_of shows m g memory) (ap (λ (x : Running S). x.cpu) now_is) shown_same
                now_set (ap (λ (x : Running S). x.board) now_is) (ap (λ (x : Running S). x.step) now_is)

            passed_same : passed_then ≡ passed
            passed_same =
                lands_there.passed ∙ (advanced.passed ∙ ap (Rattle.machine_model.specs.Counts.passed_digest image.sites passed) nothing.0)

        -- what events make no difference to

        module _ (script : Events) (quiet : 0 < k → comes_within g.board script g.step (k - 1) ≡ false) where
          calm : 0 < k → comes_within g.board [] g.step (k - 1) ≡ false
          calm lt = none_comes g.board script g.step (k - 1) (quiet lt)

          itself : IsPartOf (kept memory) (kept memory)
          itself = part_same (kept memory) (kept memory) refl

          pub same_there : SameBehind (ground image f) memory after_memory
          same_there = behind_is [] calm g.board (none_given g.board g.step) (kept memory) itself

          pub host_there : IsHost (ground image f) after_memory
          host_there = host_is [] calm g.board (none_given g.board g.step) (kept memory) itself

          pub stays_on : done ≡ 0 → state_of shows (wedge image script f) now after_memory ≡ state_of shows (wedge image script f) g memory
          stays_on none =
              let e = state_same [] calm g.board (none_given g.board g.step) (kept memory) itself none in
              state_is (state_of shows (wedge image script f) now after_memory) (state_of shows (wedge image script f) g memory)
              (ap (λ (x : State). x.cpu) e)
              (any_script image script f after_memory ∙ (ap (λ (x : State). x.ram) e ∙ sym (any_script image script f memory)))
              (ap (λ (x : State). x.set) e) (ap (λ (x : State). x.board) e) (ap (λ (x : State). x.step) e)

          -- no frame to which the view lets no write pass, whatever the guest's frames hold, has changed
          pub untouched_then : (at : ℕ)
              → ((new : List ℕ) → SameBehind (ground image f) memory new → IsUnlent new
              (shows.directory g.shadows (side_of (g.cpu.cpl == 3))) at)
              → frame (shown (ground image f) after_memory) at ≡ frame (shown (ground image f) memory) at
          untouched_then at unlent =
              let a = advanced [] calm g.board (none_given g.board g.step) (kept memory) itself in
              ap (λ (l : List ℕ). frame l at) (sym (ram_is [] calm g.board (none_given g.board g.step) (kept memory) itself))
              ∙ a.guest_untouched at (λ new same. unlent new (record { size = same.size; beyond = same.beyond }))

          pub passed_on : done ≡ 0 → passed_then ≡ passed
          passed_on none = passed_same [] calm g.board (none_given g.board g.step) (kept memory) itself none

          abbrev Held : Running S → Type 0
          Held x = IsHeld shows (ground image f) x pool after_memory

          pub held_then : IsHeld shows (ground image f) now pool after_memory
          held_then = by done r.none r.some
            where
              by : (n : ℕ) → (n ≡ 0 → now ≡ g)
                  → (0 < n → now ≡ record g {
                    cpu = record g.cpu { regs = landed r.exit r.regs; held = false };
                    board = board_steps n g.board;
                    step = g.step + n;
                  }) → Held now
              by zero a b =
                  subst Held (sym (a refl)) (held_on after_memory same_there host_there g.cpu.regs g.cpu.held g.board g.step (omega arith))
              by (suc n) a b = subst Held (sym (b (omega arith)))
                  (held_on after_memory same_there host_there (landed r.exit r.regs) false (board_steps (suc n) g.board)
                  (g.step + suc n) (omega arith))

          pub keeps_then : Keeps pool pool memory after_memory (shows.frames g.shadows memory) (shows.frames now.shadows after_memory)
          keeps_then =
              let same = same_there in
              keeps_above pool memory after_memory (4096 * f) (shows.frames g.shadows memory) (shows.frames now.shadows after_memory)
              h.owns.stands (limit after_memory same) same.beyond same.size
              (ap (λ (s : S). shows.frames s after_memory) shadows_is ∙ frames_same after_memory same)

          -- a user's flags stay open
          open_then : g.cpu.cpl ≡ 3 → is_open (record g.cpu { regs = landed r.exit r.regs; held = false }) ≡ true
          open_then user =
              let a = advanced [] calm g.board (none_given g.board g.step) (kept memory) itself in
              let l = lands_there [] calm g.board (none_given g.board g.step) (kept memory) itself in
              ap (λ (x : Regs). is_open (record g.cpu { regs = x; held = false })) l.regs
              ∙ (sym (ap is_open a.cpu) ∙ a.beside.stands.sees.user_flags (ap (λ (n : ℕ). not (n == 3)) user))

          pub able_then : IsAble now.cpu
          able_then = by done r.none r.some
            where
              by : (n : ℕ) → (n ≡ 0 → now ≡ g)
                  → (0 < n → now ≡ record g {
                    cpu = record g.cpu { regs = landed r.exit r.regs; held = false };
                    board = board_steps n g.board;
                    step = g.step + n;
                  }) → IsAble now.cpu
              by zero a b = subst (λ (x : Running S). IsAble x.cpu) (sym (a refl)) able
              by (suc n) a b = subst (λ (x : Running S). IsAble x.cpu) (sym (b (omega arith)))
                  (record { level = able.level; code = able.code; stack = able.stack; users = open_then })
