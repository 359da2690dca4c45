-- What a touch makes ready, and what may be read and written by it for the rest of the step.
use Rattle.std.specs.Prelude.{◌≡◌, ℕ, ◌+◌, ◌/◌, ◌<◌, ◌≤◌, ◌^◌, Bool, true, false, IfSome, IsSome}
use Rattle.std.specs.FinMap.{get}
use Rattle.ia32_types.specs.declared.size.Size.{Size}
use Rattle.ia32_types.specs.declared.size.Size.TheVariants.{Byte, Word, Long}
use Rattle.ia32_types.specs.Bytes.{size_in_bytes}
use Rattle.paging.specs.declared.entry.Access.{Access}
use Rattle.paging.specs.declared.entry.Touch.{Touch}
use Rattle.paging.specs.declared.entry.Touch.TheVariants.{Ready, Fault, Stop}
use Rattle.paging.specs.Space.{Space}
use Rattle.paging.specs.Uses.{is_text, uses}

-- the page of each byte of a range has an entry in the set
abbrev pub HasRange : Space → (at len : ℕ) → Type 0
HasRange s at len = (byte : ℕ) → at ≤ byte → byte < at + len → IsSome (get s.set (byte / 4096))

-- none of these entries leads to a frame that holds text
abbrev pub AvoidsText : Space → (at len : ℕ) → Type 0
AvoidsText s at len =
    (byte : ℕ) → at ≤ byte → byte < at + len → IfSome (get s.set (byte / 4096)) (λ entry. is_text s.mode entry.frame ≡ false)

-- a range that may be read: so may each part of one that this step's touches made ready, if no later touch was refused
pub record IsReadable (s : Space) (at len : ℕ) : Type 0 where
  pub fits : at + len ≤ 2 ^ 32
  pub found : HasRange s at len

-- a range that may be written: so may each part of one that this step's touches made ready for a write
pub record IsWritable (s : Space) (at len : ℕ) : Type 0 where
  pub fits : at + len ≤ 2 ^ 32
  pub found : HasRange s at len
  pub apart : AvoidsText s at len

-- this range is what was made ready last
pub record IsReach (s : Space) (at len : ℕ) (write : Bool) : Type 0 where
  pub range : s.ready ≡ record { start = at; len = len; write = write }
  pub fits : at + len ≤ 2 ^ 32
  pub found : HasRange s at len
  pub apart : write ≡ true → AvoidsText s at len

-- what a touch of this range makes ready, where it is ready
abbrev pub Readied : Space → ℕ → ℕ → Bool → Touch → Type 0
Readied s at len write Ready = IsReach s at len write
Readied s at len write (Fault code cr2) = Unit {0}
Readied s at len write (Stop stop) = Unit {0}

-- What could be read or written may still be so.
pub record StaysReady (s t : Space) : Type 0 where
  pub readable : (at len : ℕ) → IsReadable s at len → IsReadable t at len
  pub writable : (at len : ℕ) → IsWritable s at len → IsWritable t at len

-- each translation that is ready leaves what earlier ones made ready, so only a refused one takes it away
abbrev pub RangesStay : Type 0
RangesStay = (s : Space) (at len : ℕ) (access : Access) → (uses s at len access).0 ≡ Ready → StaysReady s (uses s at len access).1

-- a number of that size
abbrev pub FitsSize : Size → ℕ → Type 0
FitsSize Byte v = v < 256
FitsSize Word v = v < 65536
FitsSize Long v = v < 2 ^ 32

-- the range lies in what the touch before the last made ready
pub record IsReadyEarlier (s : Space) (at : ℕ) (size : Size) : Type 0 where
  pub above : s.earlier.start ≤ at
  pub below : at + size_in_bytes size ≤ s.earlier.start + s.earlier.len
