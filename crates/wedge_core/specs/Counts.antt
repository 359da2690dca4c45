-- What a host counts.
use Rattle.std.specs.Prelude.{◌≡◌, ℕ, ◌+◌, List}
use Rattle.host_cpl3.specs.declared.host.Host as hosts
use Rattle.machine_model.specs.Counts.{direct_count, passed_digest}
use Rattle.machine_model.specs.State.{Setting}
use Rattle.machine_model.specs.Step.{Report}

-- The host's count of completed instructions, and its digest of their addresses.
pub record Counts : Type 0 where
  pub retired : ℕ
  pub passed : ℕ

abbrev pub counts_of : {H : Type 0} → hosts.Ghosts H → H → Counts
counts_of h host = record { retired = h.retired host; passed = h.passed host }

-- the direct instructions of these steps were added
pub record CountsOn (m : Setting) (reports : List Report) (old new : Counts) : Type 0 where
  pub retired : new.retired ≡ old.retired + direct_count m.image.sites reports
  pub passed : new.passed ≡ passed_digest m.image.sites old.passed reports
