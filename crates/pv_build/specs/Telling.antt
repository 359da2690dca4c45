-- How the work of a command is reported to the outside.
use Rattle.std.specs.Prelude.{◌≡◌, ◌⊎◌, ℕ, Bool, true, List, ◌++◌, Option, Result, Ok, Err}
use Rattle.pv_io.specs.Causes.{Rose}
use Rattle.pv_io.specs.Sink.{Appends, AppendsFront}
use Rattle.pv_io.specs.declared.files.Files as disk
use Rattle.image_load.specs.declared.fault.RunFault.{RunFault}
use Rattle.image_load.specs.declared.fault.RunFault.TheVariants as fault
use Rattle.run_trace.specs.declared.items.Ended.{Ended}
use Rattle.pv_build.specs.Lines.{too_small_line}
use Rattle.pv_build.specs.Comparing.{compared_line}
use Rattle.pv_build.specs.Statuses.{status_of}
use Rattle.pv_build.specs.declared.halt.Halt.{Halt}
use Rattle.pv_build.specs.declared.halt.Halt.TheVariants as halt
use Rattle.pv_build.specs.declared.status.Status.{Status}
use Rattle.pv_build.specs.declared.status.Status.TheVariants as status

-- Why work ends with nothing stored or printed: a refusal with a line of these, or a load failed, which over sure
-- files that hold what is read none does.
abbrev pub HaltsAs : (List ℕ → Type 0) → Type 0 → Bool → ℕ → ℕ → Halt → Type 0
HaltsAs told found sure before now (halt.Refused line) = told line
HaltsAs told found sure before now halt.ReadFault = Rose before now × (sure ≡ true → found → ⊥)
HaltsAs told found sure before now halt.Memory = Unit {0}

-- the same of files before and after
abbrev pub HaltsOverFiles : {F : Type 0} → disk.Ghosts F → Type 0 → F → F → (List ℕ → Type 0) → Halt → Type 0
HaltsOverFiles f found old new told h = HaltsAs told found (f.sure old) (f.load_faults old) (f.load_faults new) h

-- The text was put, with the status that is meant with it, and no put failed; or the output failed within it.
pub data Says (text : List ℕ) (meant : Status) (old new : Option (List ℕ)) (before now : ℕ) (result : Status) : Type 0 where
  Whole : result ≡ meant → Appends old new text → now ≡ before → Says text meant old new before now result
  Cut : result ≡ status.WriteFault → AppendsFront old new text → Rose before now → Says text meant old new before now result

-- the status of work that has ended so
abbrev pub Ends : Halt → Option (List ℕ) → Option (List ℕ) → ℕ → ℕ → Status → Type 0
Ends (halt.Refused line) old new before now result = Says line status.Refused old new before now result
Ends halt.ReadFault old new before now result = (result ≡ status.ReadFault) × (new ≡ old) × (now ≡ before)
Ends halt.Memory old new before now result = (result ≡ status.Memory) × (new ≡ old) × (now ≡ before)

-- a refusal with a line of these, or no memory for it
abbrev pub RefusesAs : (List ℕ → Type 0) → Halt → Type 0
RefusesAs told (halt.Refused line) = told line
RefusesAs told halt.ReadFault = ⊥
RefusesAs told halt.Memory = Unit {0}

-- How a run's answer is reported: its text was put before, or a refusal's line is, unless no memory is found for it.
abbrev pub ToldAs : Result Ended RunFault → Option (List ℕ) → Option (List ℕ) → ℕ → ℕ → Status → Type 0
ToldAs (Ok ended) old new before now result = (result ≡ status_of ended.end) × (new ≡ old) × (now ≡ before)
ToldAs (Err fault.Write) old new before now result = (result ≡ status.WriteFault) × (new ≡ old) × (now ≡ before)
ToldAs (Err (fault.TooSmall small)) old new before now result =
    Says (too_small_line small.need small.have) status.Refused old new before now result
    ⊎ ((result ≡ status.Memory) × (new ≡ old) × (now ≡ before))
ToldAs (Err fault.Memory) old new before now result = (result ≡ status.Memory) × (new ≡ old) × (now ≡ before)

-- both lines of `work` were put, or no memory was found
abbrev pub TellsBoth : List ℕ → List ℕ → List ℕ → Option (List ℕ) → Option (List ℕ) → ℕ → ℕ → Status → Type 0
TellsBoth line first second old new before now result =
    Says (line ++ compared_line first second) status.Done old new before now result
    ⊎ ((result ≡ status.Memory) × (new ≡ old) × (now ≡ before))

-- A part's answer is what is meant, unless no memory was found.
abbrev pub Answers : {X : Type 0} → Result X Halt → Result X (List ℕ) → Type 0
Answers (Ok x) wanted = wanted ≡ Ok x
Answers (Err (halt.Refused line)) wanted = wanted ≡ Err line
Answers (Err halt.ReadFault) wanted = ⊥
Answers (Err halt.Memory) wanted = Unit {0}
