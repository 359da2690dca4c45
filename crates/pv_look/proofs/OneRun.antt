-- The states that are shown are those of one run.
use Rattle.std.proofs.Common.{◌≡◌, ℕ, ◌-◌, List, ap, ◌∙◌, arith}
use Rattle.std.proofs.lemmas.List.{append-nil}
use Rattle.run_trace.specs.declared.items.End.TheVariants.{Stopped}
use Rattle.board.specs.Scripts.{Events}
use Rattle.image_check.specs.Image.{Image}
use Rattle.machine_model.specs.State.{boot}
use Rattle.machine_model.specs.Step.{Report}
use Rattle.bare_machine.specs.Settings.{bare}
use Rattle.bare_machine.specs.FreshRuns.{Course}
use Rattle.bare_machine.specs.Buffered.{kept_course, in_buffer, buffered_run}
use Rattle.bare_machine.proofs.Buffering.{kept_none, steps_course, stops_here}
use Rattle.bare_machine.proofs.Freshly.{behind}
use Rattle.pv_look.specs.Onward.{Ends, Goes, ShownIsARun, ShownIsTheBareRun, StopIsOfTheBareRun}
use Rattle.pv_look.proofs.Onwards.{join_steps}

pub shown_is_a_run : ShownIsARun
shown_is_a_run w old new ns reports text (Ends b) = kept_none w.keeping w.setting b
shown_is_a_run w old new ns reports text (Goes b mid last n more_ns now later more steps is shows) =
    join_steps w.keeping w.setting b mid last now later steps (shown_is_a_run w mid last more_ns later more shows)

-- the run is the course from boot up to its count of steps
from_boot : (image : Image) (script : Events) (frames n : ℕ)
    → buffered_run image script frames n
    ≡ kept_course in_buffer (bare image script frames) (n - (boot (bare image script frames)).step) (boot (bare image script frames))
from_boot image script frames n =
    let s = bare image script frames in
    let all : n ≡ n - (boot s).step = omega arith in
    ap (λ (k : ℕ). kept_course in_buffer s k (boot s)) all

pub shown_is_the_bare_run : ShownIsTheBareRun
shown_is_the_bare_run image script frames n of new ns reports text h le =
    let s = bare image script frames in
    let steps = shown_is_a_run _ (boot s) new ns reports text h in
    let rest = kept_course in_buffer s (n - new.step) new in (
      rest.reports,
      ap (λ (c : Course). c.reports)
          (from_boot image script frames n ∙ steps_course in_buffer s n (boot s) new reports steps le),
    )

pub stop_is_of_the_bare_run : StopIsOfTheBareRun
stop_is_of_the_bare_run image script frames n of count stop h below =
    let s = bare image script frames in
    let at = h.count_is in
    from_boot image script frames n
    ∙ (steps_course in_buffer s n (boot s) h.last h.reports h.leads (omega (arith, at, below))
    ∙ (ap (λ (c : Course). behind h.reports c) (stops_here in_buffer s n h.last stop (omega (arith, at, below)) h.halts)
    ∙ (ap (λ (l : List Report). record { reports = l; count = h.last.step; end = Stopped stop }) (append-nil h.reports)
    ∙ ap (λ (k : ℕ). record { reports = h.reports; count = k; end = Stopped stop }) at)))
