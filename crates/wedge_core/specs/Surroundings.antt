-- What is around a run, and what stands after one that was refused.
use Rattle.std.specs.Prelude.{◌≡◌, ℕ, ◌≤◌, ◌<◌, List, Option}
use Rattle.pv_io.specs.Causes.{Rose}
use Rattle.pv_io.specs.Sink.{AppendsFront}
use Rattle.pv_io.specs.declared.sink.Sink as sinks
use Rattle.host_cpl3.specs.declared.host.Host as hosts
use Rattle.board.specs.Scripts.{Events}
use Rattle.image_check.specs.Image.{Image}
use Rattle.image_load.specs.Boot.{need}
use Rattle.image_load.specs.declared.fault.RunFault.{RunFault}
use Rattle.image_load.specs.declared.fault.RunFault.TheVariants as fault
use Rattle.run_trace.specs.declared.items.End.{End}
use Rattle.machine_model.specs.State.{wedge}
use Rattle.machine_model.specs.Run.{CanGive}
use Rattle.wedge_core.specs.Counts.{Counts, counts_of}

-- What is around a run: what the sink has taken, its faults and the host's counts, before and after.
pub record Around : Type 0 where
  pub taken : Option (List ℕ)
  pub taken_after : Option (List ℕ)
  pub faults : ℕ
  pub faults_after : ℕ
  pub counts : Counts
  pub counts_after : Counts

abbrev pub around : {H O : Type 0} → hosts.Ghosts H → sinks.Ghosts O → H → H → O → O → Around
around h o host host2 out out2 = record {
  taken = o.taken out;
  taken_after = o.taken out2;
  faults = o.faults out;
  faults_after = o.faults out2;
  counts = counts_of h host;
  counts_after = counts_of h host2;
}

-- nothing was written, and the host completed nothing
abbrev pub IsUntouched : Around → Type 0
IsUntouched a = (a.taken_after ≡ a.taken) × (a.faults_after ≡ a.faults) × (a.counts_after ≡ a.counts)

-- what stands after a refusal
abbrev pub RefusedWedge : Image → Events → ℕ → ℕ → Around → RunFault → Type 0
-- the sink failed, and has taken a front of the text of some run
RefusedWedge image script frames n a fault.Write =
    (text : List ℕ) × (count : ℕ) × (end : End) × (need image ≤ frames) × CanGive (wedge image script frames) n text count end
    × AppendsFront a.taken a.taken_after text × Rose a.faults a.faults_after
-- the image needs more frames than there are
RefusedWedge image script frames n a (fault.TooSmall small) =
    (frames < need image) × (small ≡ record { need = need image; have = frames }) × IsUntouched a
RefusedWedge image script frames n a fault.Memory = IsUntouched a
