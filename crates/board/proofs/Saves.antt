-- What a saved board says.
use Rattle.std.proofs.Common.{◌≡◌, ℕ, zero, suc, ◌+◌, ◌-◌, ◌*◌, ◌<◌, ◌≤◌, ◌^◌, Bool, true, false, Option, Some, None, List, ◌++◌, length, take, drop, refl, ap, sym, ◌∙◌, arith, replicate, lit<, lit≤}
use Rattle.std.specs.Prelude.{unwrap_or, ◌&&◌, ◌||◌, ◌==◌, nat_le, nat_lt, ◌%◌, if◌then◌else◌}
use Rattle.std.specs.Int.{to_le_bytes, from_le_bytes, w32, w64}
use Rattle.std.proofs.lemmas.List.Folds.{list_all-append}
use Rattle.std.proofs.lemmas.Bool.{leb-true, and_parts, and_from}
use Rattle.std.proofs.lemmas.List.{drop-drop, drop-replicate, take-replicate}
use Rattle.std.proofs.lemmas.Bool.Decides.{nat_tests}
use Rattle.std.proofs.lemmas.Nat.{from_le_bytes-to_le_bytes_4, from_le_bytes-to_le_bytes_8}
use Rattle.std.proofs.Math.Seq.{take-append_seam, drop-append_seam, drop-append-add}
use borrow.Rule.Slice.PartMut.{put_mid}
use Rattle.ia32_types.specs.Bits.{worth}
use Rattle.pic8259.specs.declared.phase.Phase.{Phase as ChipPhase}
use Rattle.pic8259.specs.declared.phase.Phase.TheVariants.{Never, AwaitsBase, AwaitsCascade, AwaitsMode, Ready}
use Rattle.pic8259.specs.declared.chip.Selected.{Selected}
use Rattle.pic8259.specs.declared.chip.Selected.TheVariants.{InterruptRequest, InService}
use Rattle.pic8259.specs.declared.chip.Chip.{Chip}
use Rattle.pic8259.specs.declared.pair.Pair.{Pair}
use Rattle.pic8259.specs.Phases.{phase_fits}
use Rattle.pic8259.specs.Requests.{chip_fits, pair_fits}
use Rattle.pic8259.specs.Pairs.{stands_for_slave}
use Rattle.pit8254.specs.declared.timer.Phase.{Phase as TimerPhase}
use Rattle.pit8254.specs.declared.timer.Phase.TheVariants.{AwaitsControlWord, AwaitsLow, AwaitsHigh}
use Rattle.pit8254.specs.declared.timer.Count.{Count}
use Rattle.pit8254.specs.declared.timer.Timer.{Timer}
use Rattle.pit8254.specs.Counts.{is_next_period, is_count}
use Rattle.pit8254.specs.Timers.{is_period}
use Rattle.uart16550.specs.Registers.{Registers}
use Rattle.uart16550.specs.States.{port_fits}
use Rattle.board.specs.declared.devices.Board.{Board}
use Rattle.board.specs.Saved.{phase_number, selected_number, phase_numbers, count_numbers, chip_bytes, timer_bytes, set_bytes, waiting_bytes, saved}
use Rattle.board.specs.Restored.{phase_of, selected_of, timer_phase_of, period_of, count_of, chip_at, controllers_at, timer_at, board_at, are_zero, is_period_or_none, chip_demands, pair_demands, timer_demands, port_demands, Demands, demands}
use Rattle.board.specs.Form.{all_met, board_form}

-- how the bytes are laid

none_left : (n : ℕ) → drop {A = ℕ} (39 + n - 39) (replicate 25 0) ≡ replicate (25 - n) 0
none_left n = drop-replicate (39 + n - 39) 25 0 ∙ ap (λ k. replicate k 0) (omega arith)

pub laid : (board : Board) (a b t s k : List ℕ) (n : ℕ) →
    a ≡ chip_bytes board.pics.master → b ≡ chip_bytes board.pics.slave → t ≡ timer_bytes board.pit →
    s ≡ set_bytes board.uart → k ≡ board.uart.kept → n ≡ length board.uart.kept →
    put_mid 39 (39 + n - 39) (put_mid 32 7 (put_mid 14 18 (put_mid 7 7 (a ++ replicate 57 0) b) t) s) k ≡ saved board
unfolding saved
laid board a b t s k n is_a is_b is_t is_s is_k is_n =
    rw (is_a, is_b, is_t, is_s, is_k, is_n)
    (ap
    (λ rest.
    chip_bytes board.pics.master ++ chip_bytes board.pics.slave ++ timer_bytes board.pit ++ set_bytes board.uart
    ++ (board.uart.kept ++ rest))
    (none_left (length board.uart.kept)))

-- tests that hold

zeros_are : (n : ℕ) → are_zero (replicate n 0) ≡ true
zeros_are zero = refl
zeros_are (suc n) = zeros_are n

-- a chip

phase_back : (phase : ChipPhase) → phase_of (phase_number phase) ≡ phase
phase_back Never = refl
phase_back AwaitsBase = refl
phase_back AwaitsCascade = refl
phase_back AwaitsMode = refl
phase_back Ready = refl

phase_small : (phase : ChipPhase) → nat_le (phase_number phase) 4 ≡ true
phase_small Never = refl
phase_small AwaitsBase = refl
phase_small AwaitsCascade = refl
phase_small AwaitsMode = refl
phase_small Ready = refl

pub worth_back : (b : Bool) → (worth b == 1) ≡ b
worth_back true = refl
worth_back false = refl

pub worth_small : (b : Bool) → nat_le (worth b) 1 ≡ true
worth_small true = refl
worth_small false = refl

selected_back : (selected : Selected) → selected_of (selected_number selected) ≡ selected
selected_back InterruptRequest = refl
selected_back InService = refl

selected_small : (selected : Selected) → nat_le (selected_number selected) 1 ≡ true
selected_small InterruptRequest = refl
selected_small InService = refl

-- a chip whose seven bytes stand alone
chip_back : (chip : Chip) → chip_at (chip_bytes chip) 0 ≡ chip
chip_back chip =
    let at : ChipPhase → Bool → Selected → Chip =
    λ phase once selected. record chip { phase = phase; once_ready = once; selected = selected } in
    ap (λ phase. at phase (worth chip.once_ready == 1) (selected_of (selected_number chip.selected))) (phase_back chip.phase)
    ∙ ap (λ once. at chip.phase once (selected_of (selected_number chip.selected))) (worth_back chip.once_ready)
    ∙ ap (λ selected. at chip.phase chip.once_ready selected) (selected_back chip.selected)

chip_met : (chip : Chip) → chip_fits chip ≡ true → all_met (chip_demands (chip_bytes chip) 0) ≡ true
chip_met chip fits =
    let facts = and_parts (chip.base % 8 == 0) (phase_fits chip.phase chip.once_ready) fits in
    rw (phase_small chip.phase, worth_small chip.once_ready, phase_back chip.phase, worth_back chip.once_ready)
    (rw (facts.1, facts.0) (rw (selected_small chip.selected) refl))

-- a timer

phase_again : (phase : TimerPhase) → timer_phase_of (phase_numbers phase).0 (phase_numbers phase).1 ≡ phase
phase_again AwaitsControlWord = refl
phase_again AwaitsLow = refl
phase_again (AwaitsHigh low) = refl

number_small : (phase : TimerPhase) → nat_le (phase_numbers phase).0 2 ≡ true
number_small AwaitsControlWord = refl
number_small AwaitsLow = refl
number_small (AwaitsHigh low) = refl

low_met : (phase : TimerPhase) → ((phase_numbers phase).0 == 2 || (phase_numbers phase).1 == 0) ≡ true
low_met AwaitsControlWord = refl
low_met AwaitsLow = refl
low_met (AwaitsHigh low) = refl

next_facts : (next : Option ℕ) → is_next_period next ≡ true →
    (unwrap_or next 0 ≤ 65536) × (is_period_or_none (unwrap_or next 0) ≡ true) × (period_of (unwrap_or next 0) ≡ next)
next_facts None fits = (lit≤ tt, refl, refl)
next_facts (Some next) fits =
    let bounds : (2 ≤ next) × (next ≤ 65536) = (grind (arith, nat_tests), grind (arith, nat_tests)) in
    let some : (next == 0) ≡ false = grind (arith, nat_tests) in
    (bounds.1, rw some fits, rw some refl)

count_facts : (count : Count) → is_count (Some count) ≡ true →
    (2 ≤ count.period) × (count.period ≤ 65536) × (is_next_period count.next_period ≡ true) × (0 < count.left)
    × (count.left ≤ 8 * count.period) × ((count.period == 0) ≡ false)
count_facts count fits =
    let all = and_parts (is_period count.period && is_next_period count.next_period && nat_lt 0 count.left)
    (nat_le count.left (8 * count.period)) fits in
    let three = and_parts (is_period count.period && is_next_period count.next_period) (nat_lt 0 count.left) all.0 in
    let two = and_parts (is_period count.period) (is_next_period count.next_period) three.0 in
    let period : is_period count.period ≡ true = two.0 in
    let low : 2 ≤ count.period = grind (arith, nat_tests) in
    (low, grind (arith, nat_tests), two.1, grind (arith, nat_tests), grind (arith, nat_tests), grind (arith, nat_tests))

count_back : (count : Option Count) → is_count count ≡ true →
    count_of (count_numbers count).0 (count_numbers count).1 (count_numbers count).2 ≡ count
count_back None fits = refl
count_back (Some count) fits =
    let facts = count_facts count fits in
    rw (facts.5) (ap (λ next. Some (record count { next_period = next })) (next_facts count.next_period facts.2).2)

count_met : (count : Option Count) → is_count count ≡ true →
    (is_period_or_none (count_numbers count).0
    && (is_period_or_none (count_numbers count).1
    && ((if (count_numbers count).0 == 0 then (count_numbers count).1 == 0 else true)
    && ((if (count_numbers count).0 == 0 then (count_numbers count).2 == 0 else
    nat_lt 0 (count_numbers count).2 && nat_le (count_numbers count).2 (8 * (count_numbers count).0)) && true)))) ≡ true
count_met None fits = refl
count_met (Some count) fits =
    let facts = count_facts count fits in
    let period : is_period count.period ≡ true = grind (arith, nat_tests) in
    let left : (nat_lt 0 count.left && nat_le count.left (8 * count.period)) ≡ true = grind (arith, nat_tests) in
    rw (facts.5, period, (next_facts count.next_period facts.2).1, left) refl

small_counts : (count : Option Count) → is_count count ≡ true →
    ((count_numbers count).0 < 2 ^ 32) × ((count_numbers count).1 < 2 ^ 32) × ((count_numbers count).2 < 2 ^ 64)
small_counts None fits = (lit< tt, lit< tt, lit< tt)
small_counts (Some count) fits =
    let facts = count_facts count fits in
    (omega arith, omega (arith, (next_facts count.next_period facts.2).0), omega arith)

-- the four and the eight bytes of a counter's numbers
numbers_back : (count : Option Count) → is_count count ≡ true →
    (from_le_bytes w32 (to_le_bytes w32 (count_numbers count).0) ≡ (count_numbers count).0)
    × (from_le_bytes w32 (to_le_bytes w32 (count_numbers count).1) ≡ (count_numbers count).1)
    × (from_le_bytes w64 (to_le_bytes w64 (count_numbers count).2) ≡ (count_numbers count).2)
numbers_back count fits =
    let small = small_counts count fits in (
      from_le_bytes-to_le_bytes_4 (count_numbers count).0 small.0,
      from_le_bytes-to_le_bytes_4 (count_numbers count).1 small.1,
      from_le_bytes-to_le_bytes_8 (count_numbers count).2 small.2,
    )

three : {D : Type 0} (f : ℕ → ℕ → ℕ → D) {a a' b b' c c' : ℕ} → a ≡ a' → b ≡ b' → c ≡ c' → f a b c ≡ f a' b' c'
three f {a} {a'} {b} {b'} {c} {c'} p q r = ap (λ x. f x b c) p ∙ ap (λ y. f a' y c) q ∙ ap (λ z. f a' b' z) r

two : {A B D : Type 0} (f : A → B → D) {a a' : A} {b b' : B} → a ≡ a' → b ≡ b' → f a b ≡ f a' b'
two f {a} {a'} {b} {b'} p q = ap (λ x. f x b) p ∙ ap (λ y. f a' y) q

-- a timer after fourteen bytes
timer_back : (front : Board) (timer : Timer) → is_count timer.count ≡ true →
    timer_at (chip_bytes front.pics.master ++ chip_bytes front.pics.slave ++ timer_bytes timer) ≡ timer
timer_back front timer fits =
    let numbers = numbers_back timer.count fits in
    let make : TimerPhase → Option Count → Timer = λ phase count. record { phase = phase; count = count } in
    two make (phase_again timer.phase)
    (three count_of numbers.0 numbers.1 numbers.2 ∙ count_back timer.count fits)

timer_met : (front : Board) (timer : Timer) → is_count timer.count ≡ true →
    all_met (timer_demands (chip_bytes front.pics.master ++ chip_bytes front.pics.slave ++ timer_bytes timer)) ≡ true
timer_met front timer fits =
    let numbers = numbers_back timer.count fits in
    let met : ℕ → ℕ → ℕ → Bool = λ p n l.
    is_period_or_none p
    && (is_period_or_none n
    && ((if p == 0 then n == 0 else true) && ((if p == 0 then l == 0 else nat_lt 0 l && nat_le l (8 * p)) && true))) in
    and_from (nat_le (phase_numbers timer.phase).0 2) _ (number_small timer.phase)
    (and_from ((phase_numbers timer.phase).0 == 2 || (phase_numbers timer.phase).1 == 0) _ (low_met timer.phase)
    (three met numbers.0 numbers.1 numbers.2 ∙ count_met timer.count fits))

-- the bytes that wait
waiting_back : (kept rest : List ℕ) → take (39 + length kept - 39) (kept ++ rest) ≡ kept
waiting_back kept rest =
    let n : 39 + length kept - 39 ≡ length kept = omega arith in
    ap (λ n. take n (kept ++ rest)) n ∙ take-append_seam kept rest

zeros_from : (kept : List ℕ) → length kept ≤ 16 →
    are_zero (take (55 - (39 + length kept)) (drop (length kept) (waiting_bytes kept))) ≡ true
zeros_from kept few =
    ap (λ ys. are_zero (take (55 - (39 + length kept)) ys)) (drop-append_seam kept (replicate (25 - length kept) 0))
    ∙ ap are_zero (take-replicate (55 - (39 + length kept)) (25 - length kept) 0 (omega arith))
    ∙ zeros_are (55 - (39 + length kept))

zeros_behind : (kept : List ℕ) → length kept ≤ 16 → are_zero (take 9 (drop 16 (waiting_bytes kept))) ≡ true
zeros_behind kept few =
    let n : 16 ≡ length kept + (16 - length kept) = omega arith in
    ap (λ n. are_zero (take 9 (drop n (waiting_bytes kept)))) n
    ∙ ap (λ ys. are_zero (take 9 ys))
    (drop-append-add kept (replicate (25 - length kept) 0) (16 - length kept)
    ∙ drop-replicate (16 - length kept) (25 - length kept) 0)
    ∙ ap are_zero (take-replicate 9 (25 - length kept - (16 - length kept)) 0 (omega arith))

-- a saved board

all_joined : (a b c d e : Demands) → all_met a ≡ true → all_met b ≡ true → all_met c ≡ true → all_met d ≡ true →
    all_met e ≡ true → all_met (a ++ b ++ c ++ d ++ e) ≡ true
all_joined a b c d e is_a is_b is_c is_d is_e =
    let met : ℕ × Bool → Bool = λ d. d.1 in
    list_all-append met (a ++ b ++ c ++ d) e
    ∙ and_from _ _ (list_all-append met (a ++ b ++ c) d
    ∙ and_from _ _ (list_all-append met (a ++ b) c ∙ and_from _ _ (list_all-append met a b ∙ and_from _ _ is_a is_b) is_c) is_d) is_e

pub saved_back : (board : Board) → is_count board.pit.count ≡ true → board_at (saved board) ≡ board
unfolding saved board_at
saved_back board pit =
    let pair : Chip → Chip → Pair = λ master slave. record { master = master; slave = slave } in
    let port : Bool → List ℕ → Registers =
    λ interrupt_enable kept. record board.uart { interrupt_enable = interrupt_enable; kept = kept } in
    let make : Pair → Timer → Registers → Board = λ pics pit uart. record { pics = pics; pit = pit; uart = uart } in
    let pics = two pair (chip_back board.pics.master) (chip_back board.pics.slave) in
    let uart =
    two port (worth_back board.uart.interrupt_enable) (waiting_back board.uart.kept (replicate (25 - length board.uart.kept) 0)) in
    two (λ x y. make x (timer_at (saved board)) y) pics uart
    ∙ ap (λ x. make board.pics x board.uart) (timer_back board board.pit pit)

pub saved_form : (board : Board) → pair_fits board.pics ≡ true → is_count board.pit.count ≡ true →
    port_fits board.uart.modem_control board.uart.kept ≡ true → board_form (saved board) ≡ true
unfolding saved board_form demands
saved_form board pics pit uart =
    let chips = and_parts (chip_fits board.pics.master && chip_fits board.pics.slave) (stands_for_slave board.pics) pics in
    let each = and_parts (chip_fits board.pics.master) (chip_fits board.pics.slave) chips.0 in
    let port = and_parts (nat_lt board.uart.modem_control 16) (nat_le (length board.uart.kept) 16) uart in
    let few : length board.uart.kept ≤ 16 = leb-true (length board.uart.kept) 16 port.1 in
    let pair : Chip → Chip → Pair = λ master slave. record { master = master; slave = slave } in
    let back = two pair (chip_back board.pics.master) (chip_back board.pics.slave) in
    all_joined
    (chip_demands (saved board) 0)
    (chip_demands (saved board) 7)
    (pair_demands (saved board))
    (timer_demands (saved board))
    (port_demands (saved board))
    (chip_met board.pics.master each.0)
    (chip_met board.pics.slave each.1)
    (and_from (stands_for_slave (controllers_at (saved board))) true (ap stands_for_slave back ∙ chips.1) refl)
    (timer_met board board.pit pit)
    (and_from _ _ (worth_small board.uart.interrupt_enable)
    (and_from _ _ port.0
    (and_from _ _ port.1
    (and_from _ _
    (ap (λ ys. are_zero (take (55 - (39 + length board.uart.kept)) ys))
    (sym (drop-drop (length board.uart.kept) 39 (saved board)))
    ∙ zeros_from board.uart.kept few)
    (and_from _ _ (zeros_behind board.uart.kept few) refl)))))
