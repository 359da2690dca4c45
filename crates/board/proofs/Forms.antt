-- What follows from the form of a saved board.
use Rattle.std.proofs.Common.{◌≡◌, ℕ, ◌+◌, ◌-◌, ◌*◌, ◌≤◌, Bool, true, List, ◌++◌, length, drop, refl, ap, sym, ◌∙◌, arith, inl, inr}
use Rattle.std.specs.Prelude.{◌&&◌, ◌||◌, ◌==◌, nat_le, nat_lt, ◌%◌, if◌then◌else◌, slice_index}
use Rattle.std.proofs.lemmas.List.Folds.{list_all-append}
use Rattle.std.proofs.lemmas.List.{length-take}
use Rattle.std.proofs.Math.Nat.{min-le_left}
use Rattle.std.proofs.lemmas.Bool.{leb-true, le-leb, and_parts, and_from}
use Rattle.std.proofs.lemmas.Bool.Decides.{eqb_tells}
use Rattle.std.proofs.Math.Bool.{and-true}
use Rattle.pic8259.specs.Phases.{phase_fits}
use Rattle.pic8259.specs.Requests.{chip_fits, pair_fits}
use Rattle.pic8259.specs.Pairs.{stands_for_slave}
use Rattle.pit8254.specs.Counts.{is_next_period, is_count}
use Rattle.pit8254.specs.Timers.{is_period}
use Rattle.uart16550.specs.States.{port_fits}
use Rattle.board.specs.Restored.{phase_of, period_of, count_of, four_at, eight_at, chip_at, controllers_at, timer_at, waiting_at, is_period_or_none, chip_demands, pair_demands, timer_demands, port_demands, demands}
use Rattle.board.specs.Form.{settings_at, all_met, board_form}

abbrev pub parts : List ℕ → Bool
parts bytes =
    all_met (chip_demands bytes 0) && all_met (chip_demands bytes 7) && stands_for_slave (controllers_at bytes)
    && all_met (timer_demands bytes) && all_met (port_demands bytes)

and_same : (a b c : Bool) → b ≡ c → (a && b) ≡ (a && c)
and_same a b c e = ap (λ x. a && x) e

pub form_is : (bytes : List ℕ) → board_form bytes ≡ parts bytes
unfolding board_form demands
form_is bytes =
    let met : ℕ × Bool → Bool = λ d. d.1 in
    let a = chip_demands bytes 0 in
    let b = chip_demands bytes 7 in
    let p = pair_demands bytes in
    let t = timer_demands bytes in
    let u = port_demands bytes in
    list_all-append met (a ++ b ++ p ++ t) u
    ∙ ap (λ x. x && all_met u)
    (list_all-append met (a ++ b ++ p) t
    ∙ ap (λ x. x && all_met t)
    (list_all-append met (a ++ b) p
    ∙ ap (λ x. x && all_met p) (list_all-append met a b)
    ∙ ap (λ x. all_met a && all_met b && x) (and-true (stands_for_slave (controllers_at bytes)))))

pub last_decides : (a b c d e : Bool) → a ≡ true → b ≡ true → c ≡ true → d ≡ true →
    (a && (b && (c && (d && (e && true))))) ≡ e
last_decides a b c d e is_a is_b is_c is_d = rw (is_a, is_b, is_c, is_d) (and-true e)

part_facts : (bytes : List ℕ) → board_form bytes ≡ true →
    (all_met (chip_demands bytes 0) ≡ true) × (all_met (chip_demands bytes 7) ≡ true)
    × (stands_for_slave (controllers_at bytes) ≡ true) × (all_met (timer_demands bytes) ≡ true) × (all_met (port_demands bytes) ≡ true)
part_facts bytes form =
    let e = and_parts _ (all_met (port_demands bytes)) (sym (form_is bytes) ∙ form) in
    let d = and_parts _ (all_met (timer_demands bytes)) e.0 in
    let c = and_parts _ (stands_for_slave (controllers_at bytes)) d.0 in
    let b = and_parts (all_met (chip_demands bytes 0)) (all_met (chip_demands bytes 7)) c.0 in
    (b.0, b.1, c.1, d.1, e.1)

chip_facts : (bytes : List ℕ) (o : ℕ) → all_met (chip_demands bytes o) ≡ true → chip_fits (chip_at bytes o) ≡ true
chip_facts bytes o met =
    let a = and_parts (nat_le (slice_index bytes o) 4) _ met in
    let b = and_parts (nat_le (slice_index bytes (o + 1)) 1) _ a.1 in
    let c = and_parts (phase_fits (phase_of (slice_index bytes o)) (slice_index bytes (o + 1) == 1)) _ b.1 in
    let d = and_parts (slice_index bytes (o + 5) % 8 == 0) _ c.1 in
    and_from (slice_index bytes (o + 5) % 8 == 0) _ d.0 c.0

pub form_pics : (bytes : List ℕ) → board_form bytes ≡ true → pair_fits (controllers_at bytes) ≡ true
form_pics bytes form =
    let facts = part_facts bytes form in
    and_from _ (stands_for_slave (controllers_at bytes))
    (and_from (chip_fits (chip_at bytes 0)) (chip_fits (chip_at bytes 7)) (chip_facts bytes 0 facts.0) (chip_facts bytes 7 facts.1))
    facts.2

next_fits : (next : ℕ) → is_period_or_none next ≡ true → is_next_period (period_of next) ≡ true
next_fits next is_n =
    elim (eqb_tells next 0) [
      | inl (e, _) ↦ rw e refl
      | inr (e, _) ↦ let some = rw e at is_n in rw e some
    ]

count_fits : (period next left : ℕ) → is_period_or_none period ≡ true → is_period_or_none next ≡ true →
    (if period == 0 then left == 0 else nat_lt 0 left && nat_le left (8 * period)) ≡ true →
    is_count (count_of period next left) ≡ true
count_fits period next left is_p is_n is_l =
    elim (eqb_tells period 0) [
      | inl (e, _) ↦ rw e refl
      | inr (e, _) ↦
          let p : is_period period ≡ true = rw e at is_p in
          let l : (nat_lt 0 left && nat_le left (8 * period)) ≡ true = rw e at is_l in
          let each = and_parts (nat_lt 0 left) (nat_le left (8 * period)) l in
          rw e (and_from _ (nat_le left (8 * period))
          (and_from _ (nat_lt 0 left) (and_from (is_period period) (is_next_period (period_of next)) p (next_fits next is_n)) each.0)
          each.1)
    ]

pub form_count : (bytes : List ℕ) → board_form bytes ≡ true → is_count (timer_at bytes).count ≡ true
form_count bytes form =
    let a = and_parts (nat_le (slice_index bytes 14) 2) _ (part_facts bytes form).3 in
    let b = and_parts (slice_index bytes 14 == 2 || slice_index bytes 15 == 0) _ a.1 in
    let c = and_parts (is_period_or_none (four_at bytes 16)) _ b.1 in
    let d = and_parts (is_period_or_none (four_at bytes 20)) _ c.1 in
    let e = and_parts (if four_at bytes 16 == 0 then four_at bytes 20 == 0 else true) _ d.1 in
    let f = and_parts (if four_at bytes 16 == 0 then eight_at bytes 24 == 0 else nat_lt 0 (eight_at bytes 24) && nat_le (eight_at bytes 24)
    (8 * four_at bytes 16)) true e.1 in
    count_fits (four_at bytes 16) (four_at bytes 20) (eight_at bytes 24) c.0 d.0 f.0

pub form_port : (bytes : List ℕ) → length bytes ≡ 64 → board_form bytes ≡ true →
    (port_fits (settings_at bytes).modem_control (waiting_at bytes) ≡ true) × (slice_index bytes 38 ≤ 16)
form_port bytes all form =
    let a = and_parts (nat_le (slice_index bytes 32) 1) _ (part_facts bytes form).4 in
    let b = and_parts (nat_lt (slice_index bytes 34) 16) _ a.1 in
    let c = and_parts (nat_le (slice_index bytes 38) 16) _ b.1 in
    let few : slice_index bytes 38 ≤ 16 = leb-true (slice_index bytes 38) 16 c.0 in
    let long : length (waiting_at bytes) ≤ 16 =
    omega (
      arith,
      length-take (39 + slice_index bytes 38 - 39) (drop 39 bytes),
      min-le_left (39 + slice_index bytes 38 - 39) (length (drop 39 bytes)),
    ) in
    (and_from (nat_lt (slice_index bytes 34) 16) _ b.0 (le-leb (length (waiting_at bytes)) 16 long), few)
