-- The lines of a trace end with their last byte, and with no other.
use Rattle.std.proofs.Common.{◌≡◌, ◌≢◌, ℕ, zero, suc, ◌+◌, ◌/◌, ◌%◌, Bool, true, false, List, [], ◌∷◌, ◌++◌, refl, arith, ne_eqb}
use Rattle.std.specs.Prelude.{codes, decimal, nat_lt, ◌==◌, if◌then◌else◌}
use Rattle.std.specs.Fmt.{digits, digits_onto, digit_glyph}
use Rattle.ia32_types.specs.declared.stop.Stop.{Stop}
use Rattle.ia32_types.specs.declared.stop.Stop.TheVariants as stop
use Rattle.run_trace.specs.declared.items.What.{What}
use Rattle.run_trace.specs.declared.items.What.TheVariants.{In8, In32, Out8, Out32, Sent, Irq}
use Rattle.run_trace.specs.declared.items.Item.{Item}
use Rattle.run_trace.specs.declared.items.End.{End}
use Rattle.run_trace.specs.declared.items.End.TheVariants.{Bound, Stopped}
use Rattle.run_trace.specs.Text.{hex_digit, hex2, hex4, hex8, what_text, item_line, stop_name, end_text, end_line}
use Rattle.guest_sched.specs.Dues.{has_end}
use Rattle.guest_sched.specs.TaggedLines.{IsLine}

end_cons : (b : ℕ) (xs : List ℕ) → b ≢ 10 → has_end xs ≡ false → has_end (b ∷ xs) ≡ false
end_cons b xs other rest = rw (ne_eqb b 10 other) rest

pub end_append : (xs ys : List ℕ) → has_end xs ≡ false → has_end ys ≡ false → has_end (xs ++ ys) ≡ false
end_append [] ys front rest = rest
end_append (b ∷ xs) ys front rest = either (b == 10) xs ys front (λ h. end_append xs ys h rest) where
  either : (here : Bool) (xs ys : List ℕ) → (if here then true else has_end xs) ≡ false → (has_end xs ≡ false → has_end (xs ++ ys) ≡ false)
      → (if here then true else has_end (xs ++ ys)) ≡ false
  either true xs ys front rest = front
  either false xs ys front rest = rest front

glyph : (d : ℕ) → digit_glyph false d ≢ 10
glyph d = by_test (nat_lt d 10) where
  by_test : (t : Bool) → (if t then 48 + d else 87 + d) ≢ 10
  by_test true e = omega arith
  by_test false e = omega arith

digits_onto_end : (k n : ℕ) (acc : List ℕ) → has_end acc ≡ false → has_end (digits_onto k 10 false n acc) ≡ false
digits_onto_end zero n acc rest = rest
digits_onto_end (suc k) n acc rest = by_test (n / 10 == 0) (digit_glyph false (n % 10) ∷ acc)
    (end_cons (digit_glyph false (n % 10)) acc (glyph (n % 10)) rest) (digits_onto_end k (n / 10)) where
      by_test : (t : Bool) (next : List ℕ) → has_end next ≡ false
          → ((acc : List ℕ) → has_end acc ≡ false → has_end (digits_onto k 10 false (n / 10) acc) ≡ false)
          → has_end (if t then next else digits_onto k 10 false (n / 10) next) ≡ false
      by_test true next good on = good
      by_test false next good on = on next good

decimal_end : (n : ℕ) → has_end (decimal n) ≡ false
unfolding digits
decimal_end n = digits_onto_end 64 n [] refl

hex_digit_end : (n : ℕ) → hex_digit n ≢ 10
hex_digit_end n = by_test (nat_lt n 10) where
  by_test : (t : Bool) → (if t then n + 48 else n + 87) ≢ 10
  by_test true e = omega arith
  by_test false e = omega arith

hex2_end : (v : ℕ) → has_end (hex2 v) ≡ false
hex2_end v = end_cons (hex_digit (v / 16)) (hex_digit (v % 16) ∷ []) (hex_digit_end (v / 16))
    (end_cons (hex_digit (v % 16)) [] (hex_digit_end (v % 16)) refl)

hex4_end : (v : ℕ) → has_end (hex4 v) ≡ false
hex4_end v = end_append (hex2 (v / 256)) (hex2 (v % 256)) (hex2_end (v / 256)) (hex2_end (v % 256))

hex8_end : (v : ℕ) → has_end (hex8 v) ≡ false
hex8_end v = end_append (hex4 (v / 65536)) (hex4 (v % 65536)) (hex4_end (v / 65536)) (hex4_end (v % 65536))

port_end : (name port value : List ℕ) → has_end name ≡ false → has_end port ≡ false → has_end value ≡ false
    → has_end (name ++ port ++ codes " " ++ value) ≡ false
port_end name port value a b c =
    end_append (name ++ port ++ codes " ") value (end_append (name ++ port) (codes " ") (end_append name port a b) refl) c

what_end : (what : What) → has_end (what_text what) ≡ false
unfolding what_text
what_end (In8 port value) = port_end (codes " in8 ") (hex4 port) (hex2 value) refl (hex4_end port) (hex2_end value)
what_end (In32 port value) = port_end (codes " in32 ") (hex4 port) (hex8 value) refl (hex4_end port) (hex8_end value)
what_end (Out8 port value) = port_end (codes " out8 ") (hex4 port) (hex2 value) refl (hex4_end port) (hex2_end value)
what_end (Out32 port value) = port_end (codes " out32 ") (hex4 port) (hex8 value) refl (hex4_end port) (hex8_end value)
what_end (Sent value) = end_append (codes " tx ") (hex2 value) refl (hex2_end value)
what_end (Irq vector) = end_append (codes " irq ") (hex2 vector) refl (hex2_end vector)

pub item_line_is : (item : Item) → IsLine (item_line item)
unfolding item_line
item_line_is item = record {
  front = decimal item.step ++ what_text item.what;
  whole = refl;
  inside = end_append (decimal item.step) (what_text item.what) (decimal_end item.step) (what_end item.what);
}

stop_end : (s : Stop) → has_end (stop_name s) ≡ false
unfolding stop_name
stop_end stop.Unsupported = refl
stop_end stop.BeyondRam = refl
stop_end stop.WrapAccess = refl
stop_end stop.DeliveryFailed = refl
stop_end stop.ControlBits = refl
stop_end stop.DeviceUse = refl
stop_end stop.FlagBits = refl
stop_end stop.SegmentForm = refl
stop_end stop.TextTouched = refl
stop_end stop.WedgeTouched = refl
stop_end stop.LowTouched = refl
stop_end stop.NotAStart = refl
stop_end stop.TextMapped = refl
stop_end stop.TableInText = refl
stop_end stop.UserFlags = refl
stop_end stop.CodeIsTable = refl

last_end : (end : End) → has_end (end_text end) ≡ false
last_end Bound = refl
last_end (Stopped s) = end_append (codes " stop ") (stop_name s) refl (stop_end s)

pub end_line_is : (steps : ℕ) (end : End) → IsLine (end_line steps end)
unfolding end_line
end_line_is steps end = record {
  front = codes "end steps " ++ decimal steps ++ end_text end;
  whole = refl;
  inside = end_append (codes "end steps " ++ decimal steps) (end_text end)
      (end_append (codes "end steps ") (decimal steps) refl (decimal_end steps)) (last_end end);
}
