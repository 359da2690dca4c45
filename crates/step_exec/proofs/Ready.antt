-- What was made ready, as what may be read and written.
use Rattle.std.proofs.Common.{◌≡◌, refl, ℕ, ◌+◌, ◌-◌, ◌/◌, ◌<◌, ◌≤◌, ◌^◌, Bool, true, false, Option, Some, None, Result, Ok, Err, ap, sym, subst, ◌∙◌, arith}
use Rattle.std.specs.Prelude.{OnOk, IfSome, IsSome}
use Rattle.std.specs.FinMap.{get}
use Rattle.std.proofs.lemmas.Bool.Decides.{nat_tests}
use Rattle.std.proofs.lemmas.Bool.{both_ways}
use Rattle.ia32_types.specs.declared.size.Size.TheVariants.{Byte}
use Rattle.ia32_exec.specs.declared.access.Range.{Range}
use Rattle.ia32_exec.specs.declared.access.Ranges.{Ranges}
use Rattle.ia32_exec.specs.Readable.{AreAll, Covers, IsReadReady}
use Rattle.paging.specs.Ready.{IsReach, IsReadable, IsReadyEarlier, IsWritable}
use Rattle.paging.specs.Space.{Earlier, Space, Span, earlier_of}
use Rattle.paging.specs.Uses.{is_text}
use Rattle.sys_exec.specs.declared.effect.Refusal.{Refusal}
use Rattle.step_exec.specs.Plain.{is_in}
use Rattle.step_exec.specs.Ready.{AreMade, IsLast, IsMade, IsMadeEarlier, IsOpen, IsReadAt, IsReadMade, IsWritableAt}

-- a byte of what was made ready last
last_at : (r : Range) (write : Bool) (s : Space) (at : ℕ) → IsReach s r.at r.len write → r.at ≤ at → at < r.at + r.len → IsReadable s at 1
last_at r write s at m low high = record {
  fits = omega (arith, m.fits, high);
  found = λ byte from to. m.found byte (omega (arith, low, from)) (omega (arith, high, to));
}

earlier_at : (r : Range) (s : Space) (at : ℕ) → IsMade r s.earlier.start s.earlier.len → r.at ≤ at → at < r.at + r.len
    → IsReadyEarlier s at Byte
earlier_at r s at m low high = record { above = omega (arith, m.start_is, low); below = omega (arith, m.start_is, m.len_is, high) }

low_of : (r : Range) (at : ℕ) → is_in (Some r) at ≡ true → r.at ≤ at
low_of r at e = grind (arith, nat_tests)

high_of : (r : Range) (at : ℕ) → is_in (Some r) at ≡ true → at < r.at + r.len
high_of r at e = grind (arith, nat_tests)

read_at : (read write : Option Range) (s : Space) (at : ℕ) → IsReadMade read write s → is_in read at ≡ true → IsReadAt write s at
read_at None write s at m e = absurd cc
read_at (Some r) None s at m e = last_at r false s at m (low_of r at e) (high_of r at e)
read_at (Some r) (Some w) s at m e = earlier_at r s at m (low_of r at e) (high_of r at e)

-- a byte of a range lies in it
pub in_range : (r : Range) (k : ℕ) → k < r.len → is_in (Some r) (r.at + k) ≡ true
in_range r k lt = grind (arith, nat_tests)

fits_read : (r : Range) (write : Option Range) (s : Space) → IsReadMade (Some r) write s → r.at + r.len ≤ 2 ^ 32
fits_read r None s m = m.fits
fits_read r (Some w) s m = m.fits

read_open : (read write : Option Range) (s : Space) → IsReadMade read write s
    → Covers (IsOpen (record { read = read; write = write }) s) read
read_open None write s m = tt
read_open (Some r) write s m = λ k lt. record {
  space = omega (arith, fits_read r write s m, lt);
  in_read = λ e. read_at (Some r) write s (r.at + k) m e;
  in_write = λ e. absurd (both_ways (is_in (Some r) (r.at + k)) e (in_range r k lt));
}

write_open : (read write : Option Range) (s : Space) → IsReadMade read write s → IsLast write true s
    → Covers (IsOpen (record { read = read; write = write }) s) write
write_open read None s m n = tt
write_open read (Some w) s m n = λ k lt. record {
  space = omega (arith, n.fits, lt);
  in_read = λ e. read_at read (Some w) s (w.at + k) m e;
  in_write = λ e. last_at w true s (w.at + k) n (omega arith) (omega (arith, lt));
}

pub made_open : (ranges : Ranges) (s : Space) → AreMade ranges s → IsReadReady (IsOpen ranges s) ranges
made_open ranges s m =
    record { read = read_open ranges.read ranges.write s m.read; modified = write_open ranges.read ranges.write s m.read m.write }

writable_in : (write : Option Range) (s : Space) → IsLast write true s → Covers (IsWritableAt s) write
writable_in None s n = tt
writable_in (Some w) s n = λ k lt. record {
  fits = omega (arith, n.fits, lt);
  found = λ byte from to. n.found byte (omega (arith, from)) (omega (arith, lt, to));
  apart = λ byte from to. n.apart refl byte (omega (arith, from)) (omega (arith, lt, to));
}

pub made_writable : (ranges : Ranges) (s : Space) → AreMade ranges s → Covers (IsWritableAt s) ranges.write
made_writable ranges s m = writable_in ranges.write s m.write

-- a number may be written whose bytes may
module _ (s : Space) (at n : ℕ) (all : AreAll (IsWritableAt s) at n) where
  found_at : (byte : ℕ) → at ≤ byte → byte < at + n → IsWritableAt s byte
  found_at byte from to =
      let lt : byte - at < n = omega (arith, from, to) in
      let here : at + (byte - at) ≡ byte = omega (arith, from) in
      subst (IsWritableAt s) here (all (byte - at) lt)

  pub number_writable : 0 < n → IsWritable s at n
  number_writable some =
      let last = all (n - 1) (omega (arith, some)) in
      record {
        fits = (let fits = last.fits in omega (arith, some, fits));
        found = λ byte from to. (found_at byte from to).found byte (omega arith) (omega arith);
        apart = λ byte from to. (found_at byte from to).apart byte (omega arith) (omega arith);
      }

-- what was ready for a read is, after a touch, what was ready before it
pub before_last : (other : Option Range) (s t : Space) → t.earlier ≡ earlier_of s → IsLast other false s → IsMadeEarlier other t
before_last None s t e h = tt
before_last (Some r) s t e h = record {
  start_is = ap (λ (x : Earlier). x.start) e ∙ ap (λ (x : Span). x.start) h.range;
  len_is = ap (λ (x : Earlier). x.len) e ∙ ap (λ (x : Span). x.len) h.range;
  fits = h.fits;
}

pub both_made : (result : Result (Unit {0}) Refusal) (found ranges : Ranges) (s : Space) → found ≡ ranges
    → OnOk result (IsReadMade found.read found.write s) → OnOk result (IsLast found.write true s) → OnOk result (AreMade ranges s)
both_made (Err refusal) found ranges s is read write = tt
both_made (Ok done) found ranges s is read write = subst (λ (x : Ranges). AreMade x s) is (record { read = read; write = write })
