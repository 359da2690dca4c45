-- That a function does what work on memory is.
use Rattle.std.specs.Prelude.{◌≡◌, Result, Ok, Err}
use Rattle.paging.specs.Space.{Space}
use Rattle.paging.specs.Work.{Outcome}

-- a function returned what the work gives, and left memory as the work does
abbrev pub Gives : {E A : Type 0} → Result A E → Space → Outcome E A → Type 0
Gives (Ok x) s outcome = outcome ≡ Ok (x, s)
Gives (Err e) s outcome = outcome ≡ Err (e, s)
