-- Demands that are all met.
use Rattle.std.proofs.Common.{◌≡◌, ℕ, zero, suc, ◌+◌, ◌^◌, ◌≤◌, Bool, true, false, List, [], ◌∷◌, ◌++◌, length, Option, Some, None, refl, ap, sym, ◌∙◌, arith}
use Rattle.std.specs.Prelude.{map, not, replicate, ◌&&◌, ◌==◌, nat_le, if◌then◌else◌}
use Rattle.std.specs.List.{list_all}
use Rattle.std.proofs.lemmas.Bool.{le-leb, leb-true, eqb-true, and_parts, and_from}
use Rattle.board.specs.Restored.{demands as board_tests}
use Rattle.board.specs.Form.{board_form}
use Rattle.checkpoint.specs.declared.demand.Demand.{Demand}
use Rattle.checkpoint.specs.declared.head.Head.{Head}
use Rattle.board.specs.Earlier.{earlier}
use Rattle.checkpoint.specs.Demands.{bad_in, first_bad, of_field, zero_demands}
use Rattle.checkpoint.specs.Form.{magic_demands, count_demands, processor_demands, segments_demands, board_demand, board_demands, demands}
use Rattle.checkpoint.proofs.Firsts.{first_bad-append}

abbrev pub all_met : List Demand → Bool
all_met ds = list_all (λ (d : Demand). d.met) ds

abbrev pub all_end : ℕ → List Demand → Bool
all_end limit ds = list_all (λ (d : Demand). nat_le d.end limit) ds

never : (b : Bool) (at : ℕ) → (if b && false then Some at else None) ≡ None
never true at = refl
never false at = refl

none_bad : (there : ℕ) (d : Demand) → d.met ≡ true → bad_in there d ≡ None
none_bad there d met = rw met (never (nat_le d.end there) d.at)

pub none_from_met : (there : ℕ) (ds : List Demand) → all_met ds ≡ true → first_bad there ds ≡ None
unfolding first_bad
none_from_met there [] met = refl
none_from_met there (d ∷ ds) met =
    let both = and_parts d.met (all_met ds) met in
    ap (λ (a : Option ℕ). earlier a (first_bad there ds)) (none_bad there d both.0) ∙ none_from_met there ds both.1

pub none_both : (a b : Option ℕ) → earlier a b ≡ None → (a ≡ None) × (b ≡ None)
none_both None b is = (refl, is)
none_both (Some a) None is = absurd (cc)
none_both (Some a) (Some b) is = absurd (cc)

met_or_bad : (met : Bool) (at : ℕ) → (if true && not met then Some at else None) ≡ None → met ≡ true
met_or_bad true at none = refl
met_or_bad false at none = absurd (cc)

met_in : (there : ℕ) (d : Demand) → d.end ≤ there → bad_in there d ≡ None → d.met ≡ true
met_in there d told none =
    let is_told : nat_le d.end there ≡ true = le-leb d.end there told in
    met_or_bad d.met d.at (sym (ap (λ (b : Bool). if b && not d.met then Some d.at else None) is_told) ∙ none)

pub met_from_none : (limit there : ℕ) (ds : List Demand) → limit ≤ there → all_end limit ds ≡ true
    → first_bad there ds ≡ None → all_met ds ≡ true
unfolding first_bad
met_from_none limit there [] far ends none = refl
met_from_none limit there (d ∷ ds) far ends none =
    let end = and_parts (nat_le d.end limit) (all_end limit ds) ends in
    let both = none_both (bad_in there d) (first_bad there ds) none in
    let near : d.end ≤ limit = leb-true d.end limit end.0 in
    and_from d.met (all_met ds) (met_in there d (omega arith) both.0) (met_from_none limit there ds far end.1 both.1)

-- bytes without a name

pub zeros_from_none : (there at : ℕ) (bytes : List ℕ) → at + length bytes ≤ there → first_bad there (zero_demands at bytes) ≡ None
    → bytes ≡ replicate (length bytes) 0
unfolding first_bad
zeros_from_none there at [] near none = refl
zeros_from_none there at (b ∷ bytes) near none =
    let both = none_both (bad_in there (of_field at 1 (b == 0))) (first_bad there (zero_demands (at + 1) bytes)) none in
    let zero_b : b ≡ 0 = eqb-true b 0 (met_in there (of_field at 1 (b == 0)) (omega arith) both.0) in
    ap (λ (x : ℕ). x ∷ bytes) zero_b ∙ ap (λ (xs : List ℕ). 0 ∷ xs) (zeros_from_none there (at + 1) bytes (omega arith) both.1)

pub zeros_none : (there at n : ℕ) → first_bad there (zero_demands at (replicate n 0)) ≡ None
unfolding first_bad
zeros_none there at zero = refl
zeros_none there at (suc n) =
    ap (λ (a : Option ℕ). earlier a (first_bad there (zero_demands (at + 1) (replicate n 0)))) (none_bad there (of_field at 1 true) refl)
    ∙ zeros_none there (at + 1) n

-- the board's

pub tests_met : (tests : List (ℕ × Bool)) → all_met (map board_demand tests) ≡ list_all (λ (t : ℕ × Bool). t.1) tests
tests_met [] = refl
tests_met (t ∷ tests) = ap (λ (b : Bool). t.1 && b) (tests_met tests)

board_ends : (board : List ℕ) → all_end 256 (board_demands board) ≡ true
unfolding board_tests
board_ends board = refl

-- all groups

pub record Groups (h : Head) : Type 0 where
  pub magic : all_met (magic_demands h.magic) ≡ true
  pub counts : all_met (count_demands h) ≡ true
  pub processor : all_met (processor_demands h) ≡ true
  pub segments : all_met (segments_demands h) ≡ true
  pub unnamed : h.unnamed ≡ replicate 14 0
  pub board : board_form h.board ≡ true
  pub rest : h.rest ≡ replicate 64 0

record Seven (there : ℕ) (a b c d e f g : List Demand) : Type 0 where
  a_is : first_bad there a ≡ None
  b_is : first_bad there b ≡ None
  c_is : first_bad there c ≡ None
  d_is : first_bad there d ≡ None
  e_is : first_bad there e ≡ None
  f_is : first_bad there f ≡ None
  g_is : first_bad there g ≡ None

parted : (there : ℕ) (xs ys : List Demand) → first_bad there (xs ++ ys) ≡ None → (first_bad there xs ≡ None) × (first_bad there ys ≡ None)
parted there xs ys none = none_both (first_bad there xs) (first_bad there ys) (sym (first_bad-append there xs ys) ∙ none)

together : (there : ℕ) (xs ys : List Demand) → first_bad there xs ≡ None → first_bad there ys ≡ None → first_bad there (xs ++ ys) ≡ None
together there xs ys x y = first_bad-append there xs ys ∙ ap (λ (a : Option ℕ). earlier a (first_bad there ys)) x ∙ y

seven_of : (there : ℕ) (a b c d e f g : List Demand) → first_bad there (a ++ b ++ c ++ d ++ e ++ f ++ g) ≡ None → Seven there a b c d e f g
seven_of there a b c d e f g none =
    let six = parted there (a ++ b ++ c ++ d ++ e ++ f) g none in
    let five = parted there (a ++ b ++ c ++ d ++ e) f six.0 in
    let four = parted there (a ++ b ++ c ++ d) e five.0 in
    let three = parted there (a ++ b ++ c) d four.0 in
    let two = parted there (a ++ b) c three.0 in
    let one = parted there a b two.0 in
    record { a_is = one.0; b_is = one.1; c_is = two.1; d_is = three.1; e_is = four.1; f_is = five.1; g_is = six.1 }

of_seven : (there : ℕ) (a b c d e f g : List Demand) → Seven there a b c d e f g → first_bad there (a ++ b ++ c ++ d ++ e ++ f ++ g) ≡ None
of_seven there a b c d e f g s =
    together there (a ++ b ++ c ++ d ++ e ++ f) g
    (together there (a ++ b ++ c ++ d ++ e) f
    (together there (a ++ b ++ c ++ d) e
    (together there (a ++ b ++ c) d
    (together there (a ++ b) c (together there a b s.a_is s.b_is) s.c_is) s.d_is) s.e_is) s.f_is) s.g_is

pub groups_from_none : (there : ℕ) (h : Head) → 256 ≤ there → length h.unnamed ≡ 14 → length h.rest ≡ 64
    → first_bad there (demands h) ≡ None → Groups h
unfolding demands board_form
groups_from_none there h far unnamed rest none =
    let s = seven_of there (magic_demands h.magic) (count_demands h) (processor_demands h) (segments_demands h) (zero_demands 114 h.unnamed)
    (board_demands h.board) (zero_demands 192 h.rest) none in
    record {
      magic = met_from_none 256 there (magic_demands h.magic) far refl s.a_is;
      counts = met_from_none 256 there (count_demands h) far refl s.b_is;
      processor = met_from_none 256 there (processor_demands h) far refl s.c_is;
      segments = met_from_none 256 there (segments_demands h) far refl s.d_is;
      unnamed = zeros_from_none there 114 h.unnamed (omega arith) s.e_is ∙ ap (λ (n : ℕ). replicate n 0) unnamed;
      board = sym (tests_met (board_tests h.board)) ∙ met_from_none 256 there (board_demands h.board) far (board_ends h.board) s.f_is;
      rest = zeros_from_none there 192 h.rest (omega arith) s.g_is ∙ ap (λ (n : ℕ). replicate n 0) rest;
    }

pub none_from_groups : (there : ℕ) (h : Head) → Groups h → first_bad there (demands h) ≡ None
unfolding demands board_form
none_from_groups there h g =
    of_seven there (magic_demands h.magic) (count_demands h) (processor_demands h) (segments_demands h) (zero_demands 114 h.unnamed)
    (board_demands h.board) (zero_demands 192 h.rest)
    (record {
      a_is = none_from_met there (magic_demands h.magic) g.magic;
      b_is = none_from_met there (count_demands h) g.counts;
      c_is = none_from_met there (processor_demands h) g.processor;
      d_is = none_from_met there (segments_demands h) g.segments;
      e_is = ap (λ (xs : List ℕ). first_bad there (zero_demands 114 xs)) g.unnamed ∙ zeros_none there 114 14;
      f_is = none_from_met there (board_demands h.board) (tests_met (board_tests h.board) ∙ g.board);
      g_is = ap (λ (xs : List ℕ). first_bad there (zero_demands 192 xs)) g.rest ∙ zeros_none there 192 64;
    })

-- where the frames were given they are so many
pub counts_from_none : (there : ℕ) (h : Head) → 8 ≤ there → first_bad there (demands h) ≡ None → (2048 ≤ h.frames) × (h.frames ≤ 16384)
unfolding demands first_bad
counts_from_none there h far none =
    let s = seven_of there (magic_demands h.magic) (count_demands h) (processor_demands h) (segments_demands h) (zero_demands 114 h.unnamed)
    (board_demands h.board) (zero_demands 192 h.rest) none in
    let frames = nat_le 2048 h.frames && nat_le h.frames 16384 in
    let d : Demand = record { at = 4; end = 8; met = frames } in
    let double : Demand = record { at = 8; end = 16; met = nat_le h.step (2 ^ 40) } in
    let both = none_both (bad_in there d) (first_bad there (double ∷ [])) s.b_is in
    let each = and_parts (nat_le 2048 h.frames) (nat_le h.frames 16384) (met_in there d far both.0) in
    (leb-true 2048 h.frames each.0, leb-true h.frames 16384 each.1)
