-- What a patched run answers.
use Rattle.std.specs.Prelude.{◌≡◌, ℕ, ◌≤◌, List, Result, Ok, Err}
use Rattle.pv_io.specs.Sink.{Appends}
use Rattle.board.specs.Scripts.{Events}
use Rattle.image_check.specs.Image.{Image}
use Rattle.image_load.specs.Boot.{need}
use Rattle.image_load.specs.declared.fault.RunFault.{RunFault}
use Rattle.run_trace.specs.declared.items.Ended.{Ended}
use Rattle.machine_model.specs.State.{wedge}
use Rattle.wedge_core.specs.Surroundings.{Around, RefusedWedge}
use Rattle.wedge_core.specs.Guests.{HasGuest}
use Rattle.wedge_core.specs.Promises.{HasOwnFills, Promise}

-- what stands after a run, with the host's memory
abbrev pub WedgeAnswers : Image → Events → ℕ → ℕ → ℕ → Around → List ℕ → Result Ended RunFault → Type 0
WedgeAnswers image script frames n pool a memory (Ok ended) =
    (text : List ℕ) × (run : Promise (wedge image script frames) n pool text ended.steps ended.end a.counts a.counts_after memory)
    × (need image ≤ frames) × (own : HasOwnFills (wedge image script frames) n pool run.sets run.last ended.end run.run.ends ended.fills)
    × Appends a.taken a.taken_after text × (a.faults_after ≡ a.faults)
    × HasGuest (wedge image script frames) run.last ended.end own.filled.end ended.fills memory
WedgeAnswers image script frames n pool a memory (Err fault) = RefusedWedge image script frames n a fault
