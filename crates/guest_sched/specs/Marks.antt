-- What a sink has taken since a mark.
use Rattle.std.specs.Prelude.{◌≡◌, ℕ, ◌+◌, ◌-◌, Bool, true, false, List, [], ◌∷◌, ◌++◌, Option, Some, None, length, take, if◌then◌else◌}
use Rattle.pv_io.specs.Causes.{Rose}
use Rattle.guest_sched.specs.Tags.{tagged}
use Rattle.guest_sched.specs.Dues.{due_after}

abbrev pub size : Option (List ℕ) → ℕ
size None = 0
size (Some bytes) = length bytes

-- Where it is told, the text was taken with the tag before each line, after what had been taken then; and where a put has
-- failed, a front of it. Where no put has failed the count of faults is as it was, and where one has failed it rose.
pub record IsTaken (tag : List ℕ) (begun failed : Bool) (text : List ℕ) (was now : Option (List ℕ))
    (faults_then faults_now : ℕ) : Type 0 where
  pub whole : failed ≡ false → (before : List ℕ) → was ≡ Some before → now ≡ Some (before ++ tagged tag text)
  pub front : failed ≡ true → (before : List ℕ) → was ≡ Some before
      → now ≡ Some (before ++ take (size now - length before) (tagged tag text))
  pub due : failed ≡ false → due_after tag tag text ≡ (if begun then [] else tag)
  pub kept : failed ≡ false → faults_now ≡ faults_then
  pub cause : failed ≡ true → Rose faults_then faults_now

-- A list that says where a sink stood at a mark.
abbrev pub coded : Option (List ℕ) → List ℕ
coded None = 0 ∷ []
coded (Some bytes) = (1 + length bytes) ∷ bytes

-- What a tagged sink tells: which sink it writes to, with which tag, how that stood at the mark, and the text that it was
-- given since.
abbrev pub told : ℕ → List ℕ → ℕ → Option (List ℕ) → List ℕ → List ℕ
told name tag faults was text = name ∷ faults ∷ (coded (Some tag) ++ (coded was ++ text))
