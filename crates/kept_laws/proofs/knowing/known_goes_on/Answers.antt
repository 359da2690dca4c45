use Rattle.kept_laws.proofs.KnownSteps.{known_at_start, known_still, known_quiet, known_on}
use Rattle.kept_laws.proofs.knowing.known_goes_on.Goals as goal

pub returns : goal.returns
returns c =
    let found = c.found_goes_on.ensures.on in
    let next = c.next_is_kept.ensures in
    record { start = known_at_start; still = known_still; quiet = known_quiet found next; on = known_on found next }
