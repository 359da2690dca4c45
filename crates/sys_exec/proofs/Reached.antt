-- A part of a range that was made ready may be read.
use Rattle.std.proofs.Common.{ℕ, ◌+◌, ◌≤◌, Bool, arith}
use Rattle.paging.specs.Space.{Space}
use Rattle.paging.specs.Ready.{IsReadable, IsReach}

pub part : {s : Space} {at len : ℕ} {write : Bool} → IsReach s at len write → (from n : ℕ) → at ≤ from → from + n ≤ at + len
    → IsReadable s from n
part ready from n low high = record {
  fits = omega (arith, ready.fits, high);
  found = λ byte above below. ready.found byte (omega arith) (omega (arith, high));
}
