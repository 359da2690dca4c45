-- What the host did at one call, and where that leaves the guest.
use Rattle.std.specs.Prelude.{◌≡◌, ℕ, ◌+◌, ◌≤◌, ◌<◌, Bool, List, true, false}
use Rattle.ia32_types.specs.declared.addresses.TheConstants.{WINDOW_BELOW, WINDOW_END}
use Rattle.ia32_types.specs.declared.flags.Regs.{Regs}
use Rattle.board.specs.Quiet.{board_steps, comes_within}
use Rattle.board.specs.Scripts.{Events}
use Rattle.host_cpl3.specs.declared.view.View.{View}
use Rattle.host_cpl3.specs.declared.exit.Exit.{Exit}
use Rattle.host_cpl3.specs.declared.exit.Exit.TheVariants as exits
use Rattle.host_cpl3.specs.HostRun.{Standing, host_run}
use Rattle.host_cpl3.specs.declared.host.Host as hosts
use Rattle.wedge_step.specs.declared.running.Running.{Running}

-- The guest's registers after an exit: a jump into the window is taken back, so that EIP is the site's.
abbrev pub landed : Exit → Regs → Regs
landed (exits.Entry at) regs = record regs { eip = at + WINDOW_BELOW }
landed (exits.Fault vector code cr2) regs = regs
landed (exits.Soft vector) regs = regs
landed exits.Outside regs = regs
landed exits.FlagBits regs = regs
landed exits.Wrap regs = regs
landed exits.Budget regs = regs

-- a jump into the window leads below its end
abbrev pub LeadsLow : Exit → Type 0
LeadsLow (exits.Entry at) = at < WINDOW_END
LeadsLow (exits.Fault vector code cr2) = Unit {0}
LeadsLow (exits.Soft vector) = Unit {0}
LeadsLow exits.Outside = Unit {0}
LeadsLow exits.FlagBits = Unit {0}
LeadsLow exits.Wrap = Unit {0}
LeadsLow exits.Budget = Unit {0}

-- what a host has: the bytes of its memory and its counts
pub record Hosted : Type 0 where
  pub memory : List ℕ
  pub retired : ℕ
  pub passed : ℕ

abbrev pub hosted : {H : Type 0} → hosts.Ghosts H → H → Hosted
hosted h host = record { memory = h.bytes host; retired = h.retired host; passed = h.passed host }

-- The host ran at most k instructions from where it stood, and completed `done` of them. The guest's processor, board and
-- count followed, if it completed any.
pub record Ran {S : Type 0} (v : View) (k : ℕ) (s : Standing) (old : Running S) (done : ℕ) (new : Running S) (then : Hosted) : Type 0 where
  pub exit : Exit
  pub regs : Regs
  pub run : host_run v k s ≡ (exit, record { regs = regs; ram = then.memory; retired = then.retired; passed = then.passed })
  pub count : then.retired ≡ s.retired + done
  pub few : done ≤ k
  pub none : done ≡ 0 → new ≡ old
  pub some : 0 < done → new ≡ record old {
    cpu = record old.cpu { regs = landed exit regs; held = false };
    board = board_steps done old.board;
    step = old.step + done;
  }

-- The host was asked for as many instructions as pass before the next edge or event, and for no more than `limit`. The events
-- of this step were given. Of a stretch that is cut short it did some, and fewer than it was asked for.
pub record RanOn {S : Type 0} (v : View) (script : Events) (limit : ℕ) (s : Standing) (old : Running S) (done : ℕ) (new : Running S)
    (then : Hosted) (cut : Bool) : Type 0 where
  pub asked : ℕ
  pub most : asked ≤ limit
  pub furthest : asked < limit → comes_within old.board script old.step asked ≡ true
  pub ran : Ran v asked s old done new then
  pub short : cut ≡ true → done < asked
