-- Steps in which a halted processor has nothing to do.
use Rattle.std.proofs.Common.{◌≡◌, ℕ, zero, suc, ◌+◌, ◌-◌, ◌<◌, Bool, false, List, [], ◌∷◌, replicate, refl, sym, ap, subst, ◌∙◌, inl, arith}
use Rattle.board.specs.declared.devices.Board.{Board}
use Rattle.board.specs.Boards.{board_step}
use Rattle.board.specs.Quiet.{board_steps}
use Rattle.board.proofs.QuietSteps.{no_step}
use Rattle.descriptors.specs.declared.cpu.Cpu.{Cpu}
use Rattle.machine_model.specs.State.{Setting, State}
use Rattle.machine_model.specs.Run.{Set, with_set}
use Rattle.machine_model.specs.Resting.{SleepsThrough, resting, nothing, HaltedSteps}
use Rattle.paging.specs.Part.{IsPartOf}
use Rattle.bare_machine.specs.Machine.{Rests, StepsBy, translations_of}
use Rattle.machine_model.specs.Step.{Went}
use Rattle.machine_step.specs.declared.worked.Dropped.TheVariants as dropped
use Rattle.bare_mem.specs.Keeping.{Keeps}
use Rattle.bare_machine.specs.Buffered.{cut_to, kept_by, kept_step, KeptSteps, KeptRests}
use Rattle.bare_machine.proofs.Leaving.{kept_unchanged, left_same}
use Rattle.bare_machine.proofs.Runs.{part_same, no_steps, by_none}

-- no step passes
pub rests_none : (s : Setting) (b : State) (whole : Set) → IsPartOf b.set whole → Rests s b whole b
rests_none s b whole h = record {
  sets = [];
  reports = [];
  left_then = whole;
  steps = no_steps s (with_set b whole);
  part = h;
  exactly = by_none s translations_of b;
  silent = refl;
}

pub kept_rests_none : (keeping : Keeps) (s : Setting) (b : State) → KeptRests keeping s b b
unfolding KeptSteps
kept_rests_none keeping s b = record { reports = []; steps = refl; silent = refl }

module _ (halted : HaltedSteps) where
  -- some steps, each by the translations that are left
  idle_by : (k : ℕ) (s : Setting) (cpu : Cpu) (ram : List ℕ) (set : Set) (board : Board) (t : ℕ)
      → SleepsThrough cpu board s.script t (suc k)
      → StepsBy s translations_of (resting cpu ram set board (t + 1)) (nothing ∷ replicate k nothing)
      (resting cpu ram set (board_steps (suc k) board) (t + 1 + suc k))
  unfolding StepsBy board_steps
  idle_by zero s cpu ram set board t sleeps =
      (resting cpu ram set (board_step board) (t + 1 + 1), (halted.each s cpu ram board t 0 sleeps).goes set set, refl)
  idle_by (suc k) s cpu ram set board t sleeps =
      let now = halted.each s cpu ram board t (suc k) sleeps in
      let rest = idle_by k s cpu ram set (board_step board) (t + 1) now.later in (
        resting cpu ram set (board_step board) (t + 1 + 1),
        now.goes set set,
        subst (λ (n : ℕ). StepsBy s translations_of (resting cpu ram set (board_step board) (t + 1 + 1)) (nothing ∷ replicate k nothing)
            (resting cpu ram set (board_steps (suc k) (board_step board)) n)) (omega arith) rest,
      )

  rests_at : (j : ℕ) (s : Setting) (cpu : Cpu) (ram : List ℕ) (whole set : Set) (board : Board) (t : ℕ)
      → SleepsThrough cpu board s.script t (suc j) → IsPartOf set whole
      → Rests s (resting cpu ram set board (t + 1)) whole (resting cpu ram set (board_steps (suc j) board) (t + 1 + suc j))
  rests_at j s cpu ram whole set board t sleeps part = record {
    sets = set ∷ replicate j set;
    reports = nothing ∷ replicate j nothing;
    left_then = set;
    steps = halted.all j s cpu ram whole set board t sleeps (record { each = λ page e is. inl (part.each page e is) });
    part = part_same set;
    exactly = idle_by j s cpu ram set board t sleeps;
    silent = halted.silent (suc j);
  }

  -- so many steps pass
  pub rests_some : (k : ℕ) (s : Setting) (b : State) (whole : Set) → 0 < b.step → (0 < k → b.cpu.held ≡ false)
      → (0 < k → SleepsThrough b.cpu b.board s.script (b.step - 1) k)
      → IsPartOf b.set whole → Rests s b whole (record b { board = board_steps k b.board; step = b.step + k })
  rests_some zero s b whole begun held sleeps part =
      let same : b.step ≡ b.step + 0 = omega arith in
      subst (λ (n : ℕ). Rests s b whole (record b { board = board_steps 0 b.board; step = n })) same
      (subst (λ (d : Board). Rests s b whole (record b { board = d })) (sym (no_step b.board)) (rests_none s b whole part))
  rests_some (suc j) s b whole begun held sleeps part =
      let step_is : b.step - 1 + 1 ≡ b.step = omega arith in
      let cpu_is : record b.cpu { held = false } ≡ b.cpu = ap (λ (h : Bool). record b.cpu { held = h }) (sym (held (omega arith))) in
      subst (λ (c : Cpu). Rests s (record b { cpu = c }) whole
      (record b { cpu = c; board = board_steps (suc j) b.board; step = b.step + suc j })) cpu_is
      (subst (λ (n : ℕ). Rests s (record b { cpu = record b.cpu { held = false }; step = n }) whole
      (record b { cpu = record b.cpu { held = false }; board = board_steps (suc j) b.board; step = n + suc j })) step_is
      (rests_at j s b.cpu b.ram whole b.set b.board (b.step - 1) (sleeps (omega arith)) part))

  -- the same by a cache, which keeps what is left
  kept_idle : (keeping : Keeps) (s : Setting) (cpu : Cpu) (ram : List ℕ) (set : Set) (board : Board) (t j : ℕ)
      → SleepsThrough cpu board s.script t (suc j)
      → kept_step keeping s (resting cpu ram set board (t + 1)) ≡ Went nothing (resting cpu ram set (board_step board) (t + 1 + 1))
  kept_idle keeping s cpu ram set board t j sleeps =
      ap (kept_by keeping set) ((halted.each s cpu ram board t j sleeps).goes set set)
      ∙ ap (λ (x : Set). Went nothing (resting cpu ram x (board_step board) (t + 1 + 1)))
      (ap (cut_to set) (sym (kept_unchanged keeping dropped.Nothing set [])) ∙ left_same set set (part_same set))

  idle_kept : (keeping : Keeps) (k : ℕ) (s : Setting) (cpu : Cpu) (ram : List ℕ) (set : Set) (board : Board) (t : ℕ)
      → SleepsThrough cpu board s.script t (suc k)
      → KeptSteps keeping s (resting cpu ram set board (t + 1)) (nothing ∷ replicate k nothing)
      (resting cpu ram set (board_steps (suc k) board) (t + 1 + suc k))
  unfolding KeptSteps board_steps
  idle_kept keeping zero s cpu ram set board t sleeps =
      (resting cpu ram set (board_step board) (t + 1 + 1), kept_idle keeping s cpu ram set board t 0 sleeps, refl)
  idle_kept keeping (suc k) s cpu ram set board t sleeps =
      let now = halted.each s cpu ram board t (suc k) sleeps in
      let rest = idle_kept keeping k s cpu ram set (board_step board) (t + 1) now.later in (
        resting cpu ram set (board_step board) (t + 1 + 1),
        kept_idle keeping s cpu ram set board t (suc k) sleeps,
        subst (λ (n : ℕ). KeptSteps keeping s (resting cpu ram set (board_step board) (t + 1 + 1)) (nothing ∷ replicate k nothing)
            (resting cpu ram set (board_steps (suc k) (board_step board)) n)) (omega arith) rest,
      )

  pub kept_some : (keeping : Keeps) (k : ℕ) (s : Setting) (b : State) → 0 < b.step → (0 < k → b.cpu.held ≡ false)
      → (0 < k → SleepsThrough b.cpu b.board s.script (b.step - 1) k)
      → KeptRests keeping s b (record b { board = board_steps k b.board; step = b.step + k })
  kept_some keeping zero s b begun held sleeps =
      let same : b.step ≡ b.step + 0 = omega arith in
      subst (λ (n : ℕ). KeptRests keeping s b (record b { board = board_steps 0 b.board; step = n })) same
      (subst (λ (d : Board). KeptRests keeping s b (record b { board = d })) (sym (no_step b.board)) (kept_rests_none keeping s b))
  kept_some keeping (suc j) s b begun held sleeps =
      let step_is : b.step - 1 + 1 ≡ b.step = omega arith in
      let cpu_is : record b.cpu { held = false } ≡ b.cpu = ap (λ (h : Bool). record b.cpu { held = h }) (sym (held (omega arith))) in
      subst (λ (c : Cpu). KeptRests keeping s (record b { cpu = c })
      (record b { cpu = c; board = board_steps (suc j) b.board; step = b.step + suc j })) cpu_is
      (subst (λ (n : ℕ). KeptRests keeping s (record b { cpu = record b.cpu { held = false }; step = n })
      (record b { cpu = record b.cpu { held = false }; board = board_steps (suc j) b.board; step = n + suc j })) step_is
      (record {
        reports = nothing ∷ replicate j nothing;
        steps = idle_kept keeping j s b.cpu b.ram b.set b.board (b.step - 1) (sleeps (omega arith));
        silent = halted.silent (suc j);
      }))
