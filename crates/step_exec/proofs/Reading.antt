-- A number read whole, where one range alone is read.
use Rattle.std.proofs.Common.{◌≡◌, refl, ℕ, ◌+◌, ◌-◌, ◌<◌, ◌≤◌, Bool, true, false, Option, None, sym, subst, ◌∙◌, arith}
use Rattle.ia32_types.specs.declared.size.Size.{Size}
use Rattle.ia32_types.specs.declared.size.Size.TheVariants.{Byte, Word, Long}
use Rattle.ia32_types.specs.Bytes.{size_in_bytes}
use Rattle.ia32_types.specs.Size.{span}
use Rattle.ia32_exec.specs.declared.access.Range.{Range}
use Rattle.ia32_exec.specs.declared.access.Ranges.{Ranges}
use Rattle.ia32_exec.specs.Memory.{number_at}
use Rattle.ia32_exec.specs.Readable.{AreAll, IsAllAt}
use Rattle.paging.specs.Ready.{FitsSize, IsReadable}
use Rattle.paging.specs.Space.{Space, byte_at, loaded}
use Rattle.step_exec.specs.Divided.{byte_of}
use Rattle.step_exec.specs.Plain.{is_in}
use Rattle.step_exec.specs.Ready.{IsOpen}

pub fits_span : (size : Size) (v : ℕ) → FitsSize size v → v < span size
fits_span Byte v h = h
fits_span Word v h = h
fits_span Long v h = h

-- a number may be read whose bytes may
module _ (s : Space) (at n : ℕ) (all : AreAll (λ k. IsReadable s k 1) at n) where
  found_at : (byte : ℕ) → at ≤ byte → byte < at + n → IsReadable s byte 1
  found_at byte from to =
      let lt : byte - at < n = omega (arith, from, to) in
      let here : at + (byte - at) ≡ byte = omega (arith, from) in
      subst (λ (k : ℕ). IsReadable s k 1) here (all (byte - at) lt)

  pub number_readable : 0 < n → IsReadable s at n
  number_readable some =
      let last = all (n - 1) (omega (arith, some)) in
      record {
        fits = (let fits = last.fits in omega (arith, some, fits));
        found = λ byte from to. (found_at byte from to).found byte (omega arith) (omega arith);
      }

some_bytes : (size : Size) → 0 < size_in_bytes size
some_bytes Byte = omega arith
some_bytes Word = omega arith
some_bytes Long = omega arith

unwritten_at : (read : Option Range) (s : Space) (k : ℕ) (b : Bool) → is_in read k ≡ b → IsOpen (record { read = read; write = None }) s
    k → IsReadable s k 1
unwritten_at read s k true e open_at = open_at.in_read e
unwritten_at read s k false e open_at = open_at.in_write e

readable_without_write : (read : Option Range) (s : Space) (at : ℕ) (size : Size)
    → IsAllAt (IsOpen (record { read = read; write = None }) s) at size → IsReadable s at (size_in_bytes size)
readable_without_write read s at size all =
    number_readable s at (size_in_bytes size) (λ k lt. unwritten_at read s (at + k) (is_in read (at + k)) refl (all k lt)) (some_bytes size)

readable_without_read : (write : Option Range) (s : Space) (at : ℕ) (size : Size)
    → IsAllAt (IsOpen (record { read = None; write = write }) s) at size → IsReadable s at (size_in_bytes size)
readable_without_read write s at size all = number_readable s at (size_in_bytes size) (λ k lt. (all k lt).in_write refl) (some_bytes size)

unwritten_byte : (read : Option Range) (s : Space) (k : ℕ) (b : Bool) → is_in read k ≡ b
    → byte_of (record { read = read; write = None }) s k ≡ byte_at s k
unwritten_byte read s k true e = rw e refl
unwritten_byte read s k false e = rw e refl

number_same : (a b : ℕ → ℕ) → ((k : ℕ) → a k ≡ b k) → (size : Size) (at : ℕ) → number_at a size at ≡ number_at b size at
number_same a b same Byte at = same at
number_same a b same Word at = rw (same at, same (at + 1)) refl
number_same a b same Long at = rw (same at, same (at + 1), same (at + 2), same (at + 3)) refl

whole : (s : Space) (size : Size) (at : ℕ) → loaded s at size ≡ number_at (byte_at s) size at
unfolding loaded
whole s Byte at = refl
whole s Word at = omega arith
whole s Long at = omega arith

without_write : (read : Option Range) (s : Space) (size : Size) (at : ℕ)
    → loaded s at size ≡ number_at (byte_of (record { read = read; write = None }) s) size at
without_write read s size at = whole s size at ∙ sym (number_same _ _ (λ k. unwritten_byte read s k (is_in read k) refl) size at)

without_read : (write : Option Range) (s : Space) (size : Size) (at : ℕ)
    → loaded s at size ≡ number_at (byte_of (record { read = None; write = write }) s) size at
without_read write s size at = whole s size at ∙ number_same _ _ (λ k. refl) size at

module _ (ranges : Ranges) (s : Space) (size : Size) (at : ℕ) where
  pub unwritten_number : ranges.write ≡ None → loaded s at size ≡ number_at (byte_of ranges s) size at
  unwritten_number is =
      subst (λ (w : Option Range). loaded s at size ≡ number_at (byte_of (record { read = ranges.read; write = w }) s) size at) (sym is)
      (without_write ranges.read s size at)

  pub unread_number : ranges.read ≡ None → loaded s at size ≡ number_at (byte_of ranges s) size at
  unread_number is =
      subst (λ (r : Option Range). loaded s at size ≡ number_at (byte_of (record { read = r; write = ranges.write }) s) size at) (sym is)
      (without_read ranges.write s size at)

  pub unwritten_readable : ranges.write ≡ None → IsAllAt (IsOpen ranges s) at size → IsReadable s at (size_in_bytes size)
  unwritten_readable is =
      subst (λ (w : Option Range). IsAllAt (IsOpen (record { read = ranges.read; write = w }) s) at size → IsReadable s at
      (size_in_bytes size)) (sym is) (readable_without_write ranges.read s at size)

  pub unread_readable : ranges.read ≡ None → IsAllAt (IsOpen ranges s) at size → IsReadable s at (size_in_bytes size)
  unread_readable is =
      subst (λ (r : Option Range). IsAllAt (IsOpen (record { read = r; write = ranges.write }) s) at size → IsReadable s at
      (size_in_bytes size)) (sym is) (readable_without_read ranges.write s at size)
