use Rattle.machine_model.proofs.HeldPages.{steps_leave_pages, runs_hold_pages}
use Rattle.machine_model.proofs.used_pages.sets_hold_pages.Goals as goal

pub returns : goal.returns
returns c = record { steps = steps_leave_pages; runs = runs_hold_pages }
