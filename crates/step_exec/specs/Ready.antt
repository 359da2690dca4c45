-- What a step has ready once both ranges of an instruction are translated.
use Rattle.std.specs.Prelude.{◌≡◌, ℕ, ◌+◌, ◌≤◌, ◌<◌, ◌^◌, Bool, true, false, Option, Some, None}
use Rattle.ia32_exec.specs.declared.access.Range.{Range}
use Rattle.ia32_exec.specs.declared.access.Ranges.{Ranges}
use Rattle.ia32_types.specs.declared.size.Size.TheVariants.{Byte}
use Rattle.paging.specs.Ready.{IsReach, IsReadable, IsReadyEarlier, IsWritable}
use Rattle.paging.specs.Space.{Space}
use Rattle.step_exec.specs.Plain.{is_in}

-- the range is what was made ready
pub record IsMade (r : Range) (start len : ℕ) : Type 0 where
  pub start_is : start ≡ r.at
  pub len_is : len ≡ r.len
  pub fits : r.at + r.len ≤ 2 ^ 32

-- what was made ready before the last
abbrev pub IsMadeEarlier : Option Range → Space → Type 0
IsMadeEarlier None s = Unit {0}
IsMadeEarlier (Some r) s = IsMade r s.earlier.start s.earlier.len

-- the last range is ready for this access
abbrev pub IsLast : Option Range → Bool → Space → Type 0
IsLast None write s = Unit {0}
IsLast (Some r) write s = IsReach s r.at r.len write

-- where there is a write range it was made ready last, and the read range before it
abbrev pub IsReadMade : Option Range → Option Range → Space → Type 0
IsReadMade read None s = IsLast read false s
IsReadMade read (Some write) s = IsMadeEarlier read s

pub record AreMade (ranges : Ranges) (s : Space) : Type 0 where
  pub read : IsReadMade ranges.read ranges.write s
  pub write : IsLast ranges.write true s

-- the byte may be written
abbrev pub IsWritableAt : Space → ℕ → Type 0
IsWritableAt s at = IsWritable s at 1

-- a byte of the read range
abbrev pub IsReadAt : Option Range → Space → ℕ → Type 0
IsReadAt None s at = IsReadable s at 1
IsReadAt (Some write) s at = IsReadyEarlier s at Byte

-- a byte that may be read: of the read range as it was made ready, or of the write range
pub record IsOpen (ranges : Ranges) (s : Space) (at : ℕ) : Type 0 where
  pub space : at < 2 ^ 32
  pub in_read : is_in ranges.read at ≡ true → IsReadAt ranges.write s at
  pub in_write : is_in ranges.read at ≡ false → IsReadable s at 1
