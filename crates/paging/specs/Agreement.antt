-- What the monitor's rules add: stops, and nothing else.
use Rattle.std.specs.Prelude.{◌≡◌, ℕ, Bool, true, false, ◌⊎◌, Ok, Err}
use Rattle.paging.specs.declared.entry.Access.{Access}
use Rattle.paging.specs.declared.entry.Touch.{Touch}
use Rattle.paging.specs.declared.entry.Touch.TheVariants.{Ready, Fault, Stop}
use Rattle.paging.specs.Space.{Space, Bare}
use Rattle.paging.specs.Uses.{uses, fetches}
use Rattle.paging.specs.Work.{Outcome, Work}
use Rattle.paging.specs.MonitorStops.{is_extra_stop}

-- the same memory on the bare machine
abbrev pub bare : Space → Space
bare s = record s { mode = Bare }

abbrev pub is_extra : Touch → Bool
is_extra Ready = false
is_extra (Fault code at) = false
is_extra (Stop stop) = is_extra_stop stop

-- a translation is ended by such a stop, or is the bare machine's
abbrev pub TouchAgrees : Touch × Space → Touch × Space → Type 0
TouchAgrees o p = (is_extra o.0 ≡ true) ⊎ (p ≡ (o.0, bare o.1))

-- so is each translation of a range
abbrev pub UsesAgree : Type 0
UsesAgree = (s : Space) (at len : ℕ) (access : Access) → TouchAgrees (uses s at len access) (uses (bare s) at len access)

-- and of each fetch
abbrev pub FetchesAgree : Type 0
FetchesAgree = (s : Space) (at len : ℕ) (user : Bool) → TouchAgrees (fetches s at len user) (fetches (bare s) at len user)

abbrev pub bared : {E A : Type 0} → Outcome E A → Outcome E A
bared (Ok x) = Ok (x.0, bare x.1)
bared (Err e) = Err (e.0, bare e.1)

-- the work was ended by a refusal that the bare machine hasn't
abbrev pub IsExtra : {E A : Type 0} → (E → Bool) → Outcome E A → Type 0
IsExtra extra (Ok x) = ⊥
IsExtra extra (Err e) = extra e.0 ≡ true

-- work is ended so, or is what it is on the bare machine
pub record Agrees {E A : Type 0} (extra : E → Bool) (w : Work E A) : Type 0 where
  pub at_each : (s : Space) → IsExtra extra (w s) ⊎ (w (bare s) ≡ bared (w s))
