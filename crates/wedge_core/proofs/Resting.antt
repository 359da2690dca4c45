-- Steps in which a halted processor has nothing to do.
use Rattle.std.proofs.Common.{◌≡◌, ℕ, zero, suc, ◌+◌, ◌-◌, ◌<◌, Bool, false, List, [], ◌∷◌, replicate, length, refl, sym, ap, subst, ◌∙◌, inl, arith}
use Rattle.std.specs.List.{All}
use Rattle.std.proofs.lemmas.List.Elements.{All-nil, All-cons}
use Rattle.board.specs.declared.devices.Board.{Board}
use Rattle.board.specs.Boards.{board_step}
use Rattle.board.specs.Quiet.{board_steps}
use Rattle.board.proofs.QuietSteps.{no_step}
use Rattle.descriptors.specs.declared.cpu.Cpu.{Cpu}
use Rattle.machine_model.specs.State.{Setting, State}
use Rattle.machine_model.specs.Step.{Result, Went, step_of}
use Rattle.machine_model.specs.Run.{Set}
use Rattle.machine_model.specs.Taken.{Taken, behind, steps_by}
use Rattle.machine_model.specs.Untold.{AreLeft}
use Rattle.machine_model.proofs.Runs.{no_steps, went_there}
use Rattle.sites.specs.declared.site.Site.{Site}
use Rattle.machine_model.specs.Counts.{direct_addresses, passed_on}
use Rattle.machine_model.specs.Resting.{SleepsThrough, resting, nothing, HaltedSteps}
use Rattle.native_steps.specs.Stretch.{IsQuiet}
use Rattle.wedge_core.specs.Slices.{Counts, CountsOn}
use Rattle.wedge_core.specs.Stepping.{Passes}

-- none of them counts
none_direct : (sites : List Site) (k : ℕ) → direct_addresses sites (replicate k nothing) ≡ []
none_direct sites zero = refl
none_direct sites (suc k) = none_direct sites k

counts_stay : (m : Setting) (k : ℕ) (counts : Counts) → CountsOn m (replicate k nothing) counts counts
counts_stay m k counts = record {
  retired = let e = ap length (none_direct m.image.sites k) in omega (arith, e);
  passed = sym (ap (passed_on counts.passed) (none_direct m.image.sites k));
}

-- no step passes
pub rests_none : (m : Setting) (b : State) (counts : Counts) → Passes m b b counts counts
rests_none m b counts =
    record { n = 0; reports = []; steps = no_steps m b; sets = tt; quiet = All-nil IsQuiet; silent = refl; counts = counts_stay m 0 counts }

module _ (halted : HaltedSteps) where
  -- none of them changes the translations
  idle_left : (k : ℕ) (s : Setting) (cpu : Cpu) (ram : List ℕ) (set : Set) (board : Board) (t : ℕ)
      → SleepsThrough cpu board s.script t (suc k)
      → AreLeft s (resting cpu ram set board (t + 1)) (set ∷ replicate k set)
  idle_left zero s cpu ram set board t sleeps = (refl, λ now mid is. tt)
  idle_left (suc k) s cpu ram set board t sleeps =
      let here = halted.each s cpu ram board t (suc k) sleeps in
      let next = resting cpu ram set (board_step board) (t + 1 + 1) in (
        refl,
        λ now mid is.
            subst (λ (x : State). AreLeft s x (set ∷ replicate k set)) (went_there nothing now next mid (sym (here.goes set set) ∙ is))
            (idle_left k s cpu ram set (board_step board) (t + 1) here.later),
      )

  -- and none of them loads CR3
  quiet_first : (k : ℕ) (s : Setting) (cpu : Cpu) (ram : List ℕ) (set : Set) (board : Board) (t : ℕ)
      → step_of s (resting cpu ram set board (t + 1)) set ≡ Went nothing (resting cpu ram set (board_step board) (t + 1 + 1))
      → All IsQuiet (steps_by s (resting cpu ram set (board_step board) (t + 1 + 1)) (replicate k set))
      → All IsQuiet (steps_by s (resting cpu ram set board (t + 1)) (set ∷ replicate k set))
  quiet_first k s cpu ram set board t goes rest =
      let b = resting cpu ram set board (t + 1) in
      let next = resting cpu ram set (board_step board) (t + 1 + 1) in
      let taken : Taken = record { before = b; set = set; report = nothing; after = next } in
      let one : IsQuiet taken = record { through = refl; cr0 = refl; cr3 = refl; cr4 = refl; size = refl } in
      subst (All IsQuiet) (sym (ap (λ (r : Result). behind b set r (λ a. steps_by s a (replicate k set))) goes))
      (All-cons IsQuiet taken (steps_by s next (replicate k set)) one rest)

  idle_quiet : (k : ℕ) (s : Setting) (cpu : Cpu) (ram : List ℕ) (set : Set) (board : Board) (t : ℕ)
      → SleepsThrough cpu board s.script t (suc k)
      → All IsQuiet (steps_by s (resting cpu ram set board (t + 1)) (set ∷ replicate k set))
  idle_quiet zero s cpu ram set board t sleeps =
      quiet_first 0 s cpu ram set board t ((halted.each s cpu ram board t 0 sleeps).goes set set) (All-nil IsQuiet)
  idle_quiet (suc k) s cpu ram set board t sleeps =
      let here = halted.each s cpu ram board t (suc k) sleeps in
      quiet_first (suc k) s cpu ram set board t (here.goes set set) (idle_quiet k s cpu ram set (board_step board) (t + 1) here.later)

  rests_at : (j : ℕ) (s : Setting) (cpu : Cpu) (ram : List ℕ) (set : Set) (board : Board) (t : ℕ) (counts : Counts)
      → SleepsThrough cpu board s.script t (suc j)
      → Passes s (resting cpu ram set board (t + 1)) (resting cpu ram set (board_steps (suc j) board) (t + 1 + suc j)) counts counts
  rests_at j s cpu ram set board t counts sleeps = record {
    n = suc j;
    reports = nothing ∷ replicate j nothing;
    steps = halted.all j s cpu ram set set board t sleeps (record { each = λ page e is. inl is });
    sets = idle_left j s cpu ram set board t sleeps;
    quiet = idle_quiet j s cpu ram set board t sleeps;
    silent = halted.silent (suc j);
    counts = counts_stay s (suc j) counts;
  }

  -- so many steps pass
  pub rests_some : (k : ℕ) (s : Setting) (b : State) (counts : Counts) → 0 < b.step → (0 < k → b.cpu.held ≡ false)
      → (0 < k → SleepsThrough b.cpu b.board s.script (b.step - 1) k)
      → Passes s b (record b { board = board_steps k b.board; step = b.step + k }) counts counts
  rests_some zero s b counts begun held sleeps =
      let same : b.step ≡ b.step + 0 = omega arith in
      subst (λ (n : ℕ). Passes s b (record b { board = board_steps 0 b.board; step = n }) counts counts) same
      (subst (λ (d : Board). Passes s b (record b { board = d }) counts counts) (sym (no_step b.board)) (rests_none s b counts))
  rests_some (suc j) s b counts begun held sleeps =
      let step_is : b.step - 1 + 1 ≡ b.step = omega arith in
      let cpu_is : record b.cpu { held = false } ≡ b.cpu = ap (λ (h : Bool). record b.cpu { held = h }) (sym (held (omega arith))) in
      subst (λ (c : Cpu). Passes s (record b { cpu = c }) (record b { cpu = c; board = board_steps (suc j) b.board; step = b.step + suc j })
      counts counts) cpu_is
      (subst (λ (n : ℕ). Passes s (record b { cpu = record b.cpu { held = false }; step = n })
      (record b { cpu = record b.cpu { held = false }; board = board_steps (suc j) b.board; step = n + suc j }) counts counts) step_is
      (rests_at j s b.cpu b.ram b.set b.board (b.step - 1) counts (sleeps (omega arith))))
