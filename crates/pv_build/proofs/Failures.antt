-- Work of which no load failed.
use Rattle.std.proofs.Common.{◌≡◌, ℕ, Result, Ok, Err, ◌∙◌}
use Rattle.pv_io.specs.declared.files.Files as disk
use Rattle.pv_build.specs.Failures.{NoneFailed, NoneFailedIn}
use Rattle.pv_build.specs.declared.halt.Halt.{Halt}
use Rattle.pv_build.specs.declared.halt.Halt.TheVariants as halt

pub none_here : (before now : ℕ) (h : Halt) → now ≡ before → NoneFailed before now h
none_here before now (halt.Refused line) same = same
none_here before now halt.ReadFault same = tt
none_here before now halt.Memory same = same

-- none failed before those that say so
pub none_since : (before mid now : ℕ) (h : Halt) → mid ≡ before → NoneFailed mid now h → NoneFailed before now h
none_since before mid now (halt.Refused line) same none = none ∙ same
none_since before mid now halt.ReadFault same none = none
none_since before mid now halt.Memory same none = none ∙ same

-- the same of the outcome of the work
pub none_in : {F T : Type 0} (f : disk.Ghosts F) (a b : F) (r : Result T Halt) → f.load_faults b ≡ f.load_faults a → NoneFailedIn f a b r
none_in f a b (Ok found) same = same
none_in f a b (Err h) same = none_here (f.load_faults a) (f.load_faults b) h same

pub none_on : {F T : Type 0} (f : disk.Ghosts F) (a b c : F) (r : Result T Halt) → f.load_faults b ≡ f.load_faults a → NoneFailedIn f b c r
    → NoneFailedIn f a c r
none_on f a b c (Ok found) same none = none ∙ same
none_on f a b c (Err h) same none = none_since (f.load_faults a) (f.load_faults b) (f.load_faults c) h same none
