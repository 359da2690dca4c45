-- Steps one after another keep what each of them keeps.
use Rattle.std.proofs.Common.{◌≡◌, List, [], ◌∷◌, length, sym, subst}
use Rattle.board.specs.Boards.{given}
use Rattle.machine_model.specs.State.{Setting, State, wedge_mode}
use Rattle.machine_model.specs.Fit.{Fit}
use Rattle.machine_model.specs.Step.{Report, step_of}
use Rattle.machine_model.specs.Run.{Set, Steps}
use Rattle.machine_model.specs.Able.{IsAble, StepsKeepAble, RunsKeepAble}
use Rattle.machine_model.specs.StaysFit.{StepsKeepFit, RunsKeepFit}

able_over : StepsKeepAble → (m : Setting) (old new : State) (sets : List Set) (reports : List Report) → m.mode ≡ wedge_mode m.image
    → Steps m old sets reports new → IsAble old.cpu → IsAble new.cpu
unfolding Steps step_of
able_over each m old new [] reports mode s able = subst (λ (x : State). IsAble x.cpu) (sym s.1) able
able_over each m old new (set ∷ sets) reports mode s able =
    able_over each m s.0 new sets s.2 mode s.5
    (each m (record old { board = given old.board m.script old.step; set = set }) mode able s.1 s.0 s.4)

pub runs_able : StepsKeepAble → RunsKeepAble
runs_able each = able_over each

fit_over : StepsKeepFit → (m : Setting) (old new : State) (sets : List Set) (reports : List Report) → Steps m old sets reports new
    → Fit old.cpu → length old.cpu.seg ≡ 4
    → Fit new.cpu × (length new.cpu.seg ≡ 4)
unfolding Steps step_of
fit_over each m old new [] reports s fit four = subst (λ (x : State). Fit x.cpu × (length x.cpu.seg ≡ 4)) (sym s.1) (fit, four)
fit_over each m old new (set ∷ sets) reports s fit four =
    let k = each m (record old { board = given old.board m.script old.step; set = set }) fit four s.1 s.0 s.4 in
    fit_over each m s.0 new sets s.2 s.5 k.0 k.1

pub runs_fit : StepsKeepFit → RunsKeepFit
runs_fit each = fit_over each
