-- Reading and writing choices are inverse to each other.
use Rattle.std.proofs.Common.{◌≡◌, ℕ, zero, suc, ◌+◌, ◌<◌, ◌≤◌, ◌^◌, Bool, true, false, eqb, ltb, List, [], ◌∷◌, ◌++◌, length, take, drop, Option, Some, None, Ok, Err, Result, refl, sym, ap, ◌∙◌, subst, arith, eq-eqb, append_assoc}
use Rattle.std.specs.Prelude.{not, ◌&&◌, ◌||◌, nat_le, nat_lt, IfOk}
use Rattle.std.specs.Bool.{then_some}
use Rattle.std.specs.List.{flat_map}
use Rattle.std.specs.Int.{w32, w64, to_le_bytes, from_le_bytes}
use Rattle.std.specs.Option.{option_or}
use Rattle.std.proofs.lemmas.Bool.{le-leb, leb-true, lt-ltb, le-ltb, ltb-false, ltb-true, eqb-true, not-false, or_parts}
use Rattle.std.proofs.lemmas.List.{drop_at, drop-drop, take-append-drop, length-append, drop_all}
use Rattle.std.proofs.lemmas.Nat.{from_le_bytes-to_le_bytes_4, from_le_bytes-to_le_bytes_8, le_bytes_8}
use Rattle.plain_laws.proofs.Options.{then_none, none_then, neither, else_none}
use Rattle.plain_laws.proofs.Tests.{second_false}
use Rattle.guest_ram.specs.Bytes.{part, byte, word32, AreBytes}
use Rattle.guest_ram.proofs.Bytes.{bytes-part, length-part, part-append}
use Rattle.elf_form.proofs.RowLaws.{word32-front}
use Rattle.sites.proofs.Inverse.{word32-behind, part-word, part-four, byte-behind}
use Rattle.trace_check.specs.declared.list.Choice.{Choice}
use Rattle.trace_check.specs.declared.list.ChoiceKind.{ChoiceKind}
use Rattle.trace_check.specs.declared.list.ChoiceKind.TheVariants.{Drop, Empty, Add}
use Rattle.trace_check.specs.declared.list.ChoicesFault.{ChoicesFault}
use Rattle.trace_check.specs.Lists.{ChoiceList}
use Rattle.trace_check.specs.Form.{IsPageOf, AreFrom, most_choices, AreChoices, kind_number, choice_bytes, choices_bytes}
use Rattle.trace_check.specs.Reading.{word64, reaches, differs, cut_before, has_other_front, counts_too_many, head_fault, falls, is_no_page, is_no_kind, choice_fault, choices_fault, kind_numbered, choice_at, choices_at, unless, choices_in}
use Rattle.trace_check.specs.ReadBack.{Gives}

-- ---- tests

pub and_false : (x y : Bool) → y ≡ false → (x && y) ≡ false
and_false true y e = e
and_false false y e = refl

pub same_byte : (bytes : List ℕ) (at v : ℕ) → at + 1 ≤ length bytes → differs bytes at v ≡ false → byte bytes at ≡ v
same_byte bytes at v le e =
    eqb-true _ _ (not-false _ (second_false (reaches bytes (at + 1)) (not (eqb (byte bytes at) v)) (le-leb _ _ le) e))

pub not_other : (bytes : List ℕ) (at v : ℕ) → byte bytes at ≡ v → differs bytes at v ≡ false
not_other bytes at v e = and_false (reaches bytes (at + 1)) (not (eqb (byte bytes at) v)) (ap not (eq-eqb _ _ e))

-- ---- kinds

known : (k : ℕ) → k ≤ 2 → kind_number (kind_numbered k) ≡ k
known zero h = refl
known (suc zero) h = refl
known (suc (suc zero)) h = refl
known (suc (suc (suc k))) h = absurd (omega arith)

page_is : (k page : ℕ) → k ≤ 2 → page < 2 ^ 20 → (eqb k 1 && not (eqb page 0)) ≡ false → IsPageOf (kind_numbered k) page
page_is zero page h lt e = lt
page_is (suc zero) page h lt e = eqb-true _ _ (not-false _ e)
page_is (suc (suc zero)) page h lt e = lt
page_is (suc (suc (suc k))) page h lt e = absurd (omega arith)

kind_back : (kind : ChoiceKind) → kind_numbered (kind_number kind) ≡ kind
kind_back Drop = refl
kind_back Empty = refl
kind_back Add = refl

is_page : (kind : ChoiceKind) (page : ℕ) → IsPageOf kind page → page < 2 ^ 20
is_page Drop page h = h
is_page Empty page h = omega arith
is_page Add page h = h

no_fault : (kind : ChoiceKind) (page : ℕ) → IsPageOf kind page
    → (ltb 2 (kind_number kind) || (eqb (kind_number kind) 1 && not (eqb page 0))) ≡ false
no_fault Drop page h = refl
no_fault Empty page h = ap not (eq-eqb _ _ h)
no_fault Add page h = refl

-- ---- what is laid out is read so

pub word64-behind : (front rest : List ℕ) (a : ℕ) → length front ≡ a → word64 (front ++ rest) a ≡ word64 rest 0
unfolding word64 part
word64-behind front rest a e = ap (λ (x : List ℕ). from_le_bytes w64 (take 8 x)) (drop_at front rest a e)

-- the fields of a choice that stands after other bytes
record ChoiceAt (bytes : List ℕ) (a : ℕ) (c : Choice) : Type 0 where
  room : a + 16 ≤ length bytes
  step : word64 bytes a ≡ c.step
  page : word32 bytes (a + 8) ≡ c.page
  kind : byte bytes (a + 12) ≡ kind_number c.kind
  first : byte bytes (a + 13) ≡ 0
  second : byte bytes (a + 14) ≡ 0
  third : byte bytes (a + 15) ≡ 0

word64-laid : (n : ℕ) (rest : List ℕ) → n < 2 ^ 64 → word64 (to_le_bytes w64 n ++ rest) 0 ≡ n
unfolding word64 part
word64-laid n rest lt = from_le_bytes-to_le_bytes_8 n lt

small_page : (kind : ChoiceKind) (page : ℕ) → IsPageOf kind page → page < 2 ^ 32
small_page kind page h = let lt = is_page kind page h in omega arith

page_there : (front rest : List ℕ) (a : ℕ) (c : Choice) → length front ≡ a → c.page < 2 ^ 32
    → word32 (front ++ (choice_bytes c ++ rest)) (a + 8) ≡ c.page
page_there front rest a c e lt =
    let tail : List ℕ = kind_number c.kind ∷ 0 ∷ 0 ∷ 0 ∷ rest in
    let step : List ℕ = to_le_bytes w64 c.step in
    let same : (front ++ step) ++ (to_le_bytes w32 c.page ++ tail) ≡ front ++ (choice_bytes c ++ rest) =
    append_assoc front step (to_le_bytes w32 c.page ++ tail) in
    let len : length (front ++ step) ≡ a + 8 = omega (arith, length-append front step) in
    ap (λ (x : List ℕ). word32 x (a + 8)) (sym same) ∙ word32-behind (front ++ step) (to_le_bytes w32 c.page ++ tail) (a + 8) len
    ∙ word32-front c.page tail lt

stands : (front rest : List ℕ) (a : ℕ) (c : Choice) → length front ≡ a → c.step < 2 ^ 64 → IsPageOf c.kind c.page
    → ChoiceAt (front ++ (choice_bytes c ++ rest)) a c
unfolding byte
stands front rest a c e lt page = record {
  room = omega (arith, length-append front (choice_bytes c ++ rest), length-append (choice_bytes c) rest);
  step = word64-behind front (choice_bytes c ++ rest) a e
      ∙ word64-laid c.step ((to_le_bytes w32 c.page ++ (kind_number c.kind ∷ 0 ∷ 0 ∷ 0 ∷ [])) ++ rest) lt;
  page = page_there front rest a c e (small_page c.kind c.page page);
  kind = byte-behind front (choice_bytes c ++ rest) a 12 e;
  first = byte-behind front (choice_bytes c ++ rest) a 13 e;
  second = byte-behind front (choice_bytes c ++ rest) a 14 e;
  third = byte-behind front (choice_bytes c ++ rest) a 15 e;
}

there_is : (bytes : List ℕ) (n : ℕ) → n ≤ length bytes → cut_before bytes n ≡ None
there_is bytes n le = none_then (not (reaches bytes n)) (length bytes) (ap not (le-leb _ _ le))

not_bad_there : (bytes : List ℕ) (least a : ℕ) (c : Choice) → ChoiceAt bytes a c → least ≤ c.step → IsPageOf c.kind c.page
    → choice_fault bytes least a ≡ None
unfolding choice_fault
not_bad_there bytes least a c is le page =
    let lt : c.page < 2 ^ 20 = is_page c.kind c.page page in
    let steps : nat_lt (word64 bytes a) least ≡ false = ap (λ (n : ℕ). nat_lt n least) is.step ∙ le-ltb _ _ le in
    let pages : not (nat_lt (word32 bytes (a + 8)) (2 ^ 20)) ≡ false =
    ap (λ (n : ℕ). not (nat_lt n (2 ^ 20))) is.page ∙ ap not (lt-ltb _ _ lt) in
    let kinds : (nat_lt 2 (byte bytes (a + 12)) || (eqb (byte bytes (a + 12)) 1 && not (eqb (word32 bytes (a + 8)) 0))) ≡ false =
    ap (λ (k : ℕ). nat_lt 2 k || (eqb k 1 && not (eqb (word32 bytes (a + 8)) 0))) is.kind
    ∙ ap (λ (p : ℕ). nat_lt 2 (kind_number c.kind) || (eqb (kind_number c.kind) 1 && not (eqb p 0))) is.page
    ∙ no_fault c.kind c.page page in
    neither _ _ (none_then (falls bytes least a) a (and_false (reaches bytes (a + 8)) _ steps))
    (neither _ _ (none_then (is_no_page bytes a) (a + 8) (and_false (reaches bytes (a + 12)) _ pages))
    (neither _ _ (none_then (is_no_kind bytes a) (a + 12) (and_false (reaches bytes (a + 13)) _ kinds))
    (neither _ _ (none_then (differs bytes (a + 13) 0) (a + 13) (not_other bytes (a + 13) 0 is.first))
    (neither _ _ (none_then (differs bytes (a + 14) 0) (a + 14) (not_other bytes (a + 14) 0 is.second))
    (neither _ _ (none_then (differs bytes (a + 15) 0) (a + 15) (not_other bytes (a + 15) 0 is.third))
    (there_is bytes (a + 16) is.room))))))

read_there : (bytes : List ℕ) (a : ℕ) (c : Choice) → ChoiceAt bytes a c → choice_at bytes a ≡ c
unfolding choice_at
read_there bytes a c is =
    let k : kind_numbered (byte bytes (a + 12)) ≡ c.kind = ap kind_numbered is.kind ∙ kind_back c.kind in
    rw (is.step, is.page, k) refl

abbrev Reads : List ℕ → ℕ → ℕ → List Choice → Type 0
Reads bytes least a list = (choices_fault bytes least (length list) a ≡ None) × (choices_at bytes (length list) a ≡ list)

choices_read : (list : List Choice) (front : List ℕ) (least a : ℕ) → length front ≡ a → AreFrom least list
    → Reads (front ++ flat_map choice_bytes list) least a list
unfolding choices_fault choices_at
choices_read [] front least a e are = (rw (le-ltb a (length (front ++ [])) (omega (arith, length-append front []))) refl, refl)
choices_read (c ∷ list) front least a e are =
    let bytes = front ++ (choice_bytes c ++ flat_map choice_bytes list) in
    let is = stands front (flat_map choice_bytes list) a c e are.1 are.2 in
    let regrouped : (front ++ choice_bytes c) ++ flat_map choice_bytes list ≡ bytes =
    append_assoc front (choice_bytes c) (flat_map choice_bytes list) in
    let rest = choices_read list (front ++ choice_bytes c) c.step (a + 16) (omega (arith, length-append front (choice_bytes c))) are.3 in
    let rest = subst (λ (x : List ℕ). Reads x c.step (a + 16) list) regrouped rest in (
      rw (not_bad_there bytes least a c is are.0 are.2, is.step) (rest.0),
      rw (read_there bytes a c is) (ap (λ (r : List Choice). c ∷ r) rest.1),
    )

head_good : (bytes : List ℕ) → 8 ≤ length bytes → word32 bytes 4 ≤ most_choices → byte bytes 0 ≡ 80 → byte bytes 1 ≡ 86 → byte bytes 2 ≡ 84
    → byte bytes 3 ≡ 49 → head_fault bytes ≡ None
unfolding head_fault
head_good bytes room few b0 b1 b2 b3 =
    let other : has_other_front bytes ≡ false =
    rw (not_other bytes 0 80 b0, not_other bytes 1 86 b1, not_other bytes 2 84 b2, not_other bytes 3 49 b3) refl in
    let count : counts_too_many bytes ≡ false = and_false (reaches bytes 8) _ (le-ltb _ _ few) in
    neither _ _ (none_then (has_other_front bytes) 0 other)
    (neither _ _ (none_then (counts_too_many bytes) 4 count) (there_is bytes 8 room))

pub unless_none : (place : Option ℕ) (v : List Choice) → place ≡ None → unless place v ≡ Ok v
unless_none place v e = rw e refl

pub laid_read : (list : List Choice) → AreChoices list → choices_in (choices_bytes list) ≡ Ok list
unfolding choices_bytes byte word32 part choices_in
laid_read list are =
    let few : length list ≤ most_choices = are.few in
    let lt : length list < 2 ^ 32 = omega arith in
    let front : List ℕ = 80 ∷ 86 ∷ 84 ∷ 49 ∷ to_le_bytes w32 (length list) in
    let bytes : List ℕ = choices_bytes list in
    let count : word32 bytes 4 ≡ length list = from_le_bytes-to_le_bytes_4 (length list) lt in
    let within : word32 bytes 4 ≤ most_choices = rw count few in
    let head : head_fault bytes ≡ None =
    head_good bytes (omega (arith, length-append front (flat_map choice_bytes list))) within refl refl refl refl in
    let rest = choices_read list front 0 8 refl are.each in
    let none : option_or (head_fault bytes) (choices_fault bytes 0 (word32 bytes 4) 8) ≡ None = rw (head, count) rest.0 in
    let all : choices_at bytes (word32 bytes 4) 8 ≡ list = rw count rest.1 in
    unless_none (option_or (head_fault bytes) (choices_fault bytes 0 (word32 bytes 4) 8)) (choices_at bytes (word32 bytes 4) 8) none
    ∙ ap (λ (v : List Choice). Ok v) all

-- ---- what is read is laid out so

record WasChoice (bytes : List ℕ) (least a : ℕ) : Type 0 where
  room : a + 16 ≤ length bytes
  rises : least ≤ word64 bytes a
  page : IsPageOf (kind_numbered (byte bytes (a + 12))) (word32 bytes (a + 8))
  kind : kind_number (kind_numbered (byte bytes (a + 12))) ≡ byte bytes (a + 12)
  first : byte bytes (a + 13) ≡ 0
  second : byte bytes (a + 14) ≡ 0
  third : byte bytes (a + 15) ≡ 0

not_cut : (bytes : List ℕ) (n : ℕ) → cut_before bytes n ≡ None → n ≤ length bytes
not_cut bytes n e = leb-true _ _ (not-false _ (then_none (not (reaches bytes n)) (length bytes) e))

was_choice : (bytes : List ℕ) (least a : ℕ) → choice_fault bytes least a ≡ None → WasChoice bytes least a
unfolding choice_fault
was_choice bytes least a e =
    let f0 = then_some (falls bytes least a) a in
    let f1 = then_some (is_no_page bytes a) (a + 8) in
    let f2 = then_some (is_no_kind bytes a) (a + 12) in
    let f3 = then_some (differs bytes (a + 13) 0) (a + 13) in
    let f4 = then_some (differs bytes (a + 14) 0) (a + 14) in
    let f5 = then_some (differs bytes (a + 15) 0) (a + 15) in
    let f6 = cut_before bytes (a + 16) in
    let n0 = else_none f0 (option_or f1 (option_or f2 (option_or f3 (option_or f4 (option_or f5 f6))))) e in
    let n1 = else_none f1 (option_or f2 (option_or f3 (option_or f4 (option_or f5 f6)))) n0.1 in
    let n2 = else_none f2 (option_or f3 (option_or f4 (option_or f5 f6))) n1.1 in
    let n3 = else_none f3 (option_or f4 (option_or f5 f6)) n2.1 in
    let n4 = else_none f4 (option_or f5 f6) n3.1 in
    let n5 = else_none f5 f6 n4.1 in
    let room : a + 16 ≤ length bytes = not_cut bytes (a + 16) n5.1 in
    let page : word32 bytes (a + 8) < 2 ^ 20 =
    ltb-true _ _ (not-false _
    (second_false (reaches bytes (a + 12)) (not (nat_lt (word32 bytes (a + 8)) (2 ^ 20))) (le-leb _ _ (omega arith))
    (then_none (is_no_page bytes a) (a + 8) n1.0))) in
    let kinds = or_parts (nat_lt 2 (byte bytes (a + 12))) (eqb (byte bytes (a + 12)) 1 && not (eqb (word32 bytes (a + 8)) 0))
    (second_false (reaches bytes (a + 13))
    (nat_lt 2 (byte bytes (a + 12)) || (eqb (byte bytes (a + 12)) 1 && not (eqb (word32 bytes (a + 8)) 0))) (le-leb _ _ (omega arith))
    (then_none (is_no_kind bytes a) (a + 12) n2.0)) in
    let few : byte bytes (a + 12) ≤ 2 = ltb-false _ _ kinds.0 in
    record {
      room = room;
      rises =
          ltb-false _ _ (second_false (reaches bytes (a + 8)) (nat_lt (word64 bytes a) least) (le-leb _ _ (omega arith))
          (then_none (falls bytes least a) a n0.0));
      page = page_is (byte bytes (a + 12)) (word32 bytes (a + 8)) few page kinds.1;
      kind = known (byte bytes (a + 12)) few;
      first = same_byte bytes (a + 13) 0 (omega arith) (then_none (differs bytes (a + 13) 0) (a + 13) n3.0);
      second = same_byte bytes (a + 14) 0 (omega arith) (then_none (differs bytes (a + 14) 0) (a + 14) n4.0);
      third = same_byte bytes (a + 15) 0 (omega arith) (then_none (differs bytes (a + 15) 0) (a + 15) n5.0);
    }

part-word64 : (bytes : List ℕ) (a : ℕ) → AreBytes bytes → a + 8 ≤ length bytes → part bytes a 8 ≡ to_le_bytes w64 (word64 bytes a)
unfolding word64
part-word64 bytes a fits room =
    sym (le_bytes_8 (part bytes a 8) (word64 bytes a) (length-part bytes a 8 room) (bytes-part bytes a 8 fits) refl)

word64_lt : (bytes : List ℕ) (a : ℕ) → AreBytes bytes → word64 bytes a < 2 ^ 64
unfolding word64
word64_lt bytes a fits =
    let small = bytes-part bytes a 8 fits in
    omega (arith, small 0, small 1, small 2, small 3, small 4, small 5, small 6, small 7)

choice-part : (bytes : List ℕ) (least a : ℕ) → AreBytes bytes → WasChoice bytes least a → part bytes a 16 ≡ choice_bytes (choice_at bytes a)
unfolding choice_at
choice-part bytes least a fits was =
    let room = was.room in
    let kind = kind_number (kind_numbered (byte bytes (a + 12))) in
    let e1 : a + 12 + 1 ≡ a + 13 = omega arith in
    let e2 : a + 12 + 2 ≡ a + 14 = omega arith in
    let e3 : a + 12 + 3 ≡ a + 15 = omega arith in
    let tail : part bytes (a + 12) 4 ≡ kind ∷ 0 ∷ 0 ∷ 0 ∷ [] =
    part-four bytes (a + 12) (omega arith) ∙ rw (e1, e2, e3, was.first, was.second, was.third)
    (ap (λ (n : ℕ). n ∷ 0 ∷ 0 ∷ 0 ∷ []) (sym was.kind)) in
    let e8 : a + 8 + 4 ≡ a + 12 = omega arith in
    let middle : part bytes (a + 8) 8 ≡ to_le_bytes w32 (word32 bytes (a + 8)) ++ (kind ∷ 0 ∷ 0 ∷ 0 ∷ []) =
    sym (part-append bytes (a + 8) 4 4) ∙ ap (λ (k : ℕ). part bytes (a + 8) 4 ++ part bytes k 4) e8
    ∙ ap (λ (x : List ℕ). x ++ part bytes (a + 12) 4) (part-word bytes (a + 8) fits (omega arith))
    ∙ ap (λ (x : List ℕ). to_le_bytes w32 (word32 bytes (a + 8)) ++ x) tail in
    sym (part-append bytes a 8 8) ∙ ap (λ (x : List ℕ). x ++ part bytes (a + 8) 8) (part-word64 bytes a fits (omega arith))
    ∙ ap (λ (x : List ℕ). to_le_bytes w64 (word64 bytes a) ++ x) middle

drop-part : (bytes : List ℕ) (a n : ℕ) → drop a bytes ≡ part bytes a n ++ drop (a + n) bytes
unfolding part
drop-part bytes a n = sym (take-append-drop n (drop a bytes)) ∙ ap (λ (x : List ℕ). take n (drop a bytes) ++ x) (drop-drop n a bytes)

from_least : (bytes : List ℕ) (least a : ℕ) → AreBytes bytes → WasChoice bytes least a → (rest : List Choice)
    → AreFrom (word64 bytes a) rest → AreFrom least (choice_at bytes a ∷ rest)
unfolding choice_at
from_least bytes least a fits was rest are = (was.rises, word64_lt bytes a fits, was.page, are)

record AreLaid (bytes : List ℕ) (least n a : ℕ) : Type 0 where
  rest : drop a bytes ≡ flat_map choice_bytes (choices_at bytes n a)
  are : AreFrom least (choices_at bytes n a)
  count : length (choices_at bytes n a) ≡ n

choices_laid : (n : ℕ) (bytes : List ℕ) (least a : ℕ) → AreBytes bytes → choices_fault bytes least n a ≡ None → AreLaid bytes least n a
unfolding choices_fault choices_at
choices_laid zero bytes least a fits e =
    record { rest = drop_all a bytes (ltb-false _ _ (then_none (ltb a (length bytes)) a e)); are = tt; count = refl }
choices_laid (suc n) bytes least a fits e =
    let both = else_none (choice_fault bytes least a) (choices_fault bytes (word64 bytes a) n (a + 16)) e in
    let was = was_choice bytes least a both.0 in
    let others = choices_laid n bytes (word64 bytes a) (a + 16) fits both.1 in
    record {
      rest = drop-part bytes a 16
          ∙ rw (choice-part bytes least a fits was) (ap (λ (x : List ℕ). choice_bytes (choice_at bytes a) ++ x) others.rest);
      are = from_least bytes least a fits was (choices_at bytes n (a + 16)) others.are;
      count = ap suc others.count;
    }

unless_ok : (place : Option ℕ) (v list : List Choice) → unless place v ≡ Ok list → (place ≡ None) × (v ≡ list)
unless_ok None v list e = (refl, cc)
unless_ok (Some at) v list e = absurd cc

record WasHead (bytes : List ℕ) : Type 0 where
  room : 8 ≤ length bytes
  front : part bytes 0 4 ≡ 80 ∷ 86 ∷ 84 ∷ 49 ∷ []
  few : word32 bytes 4 ≤ most_choices

head_was : (bytes : List ℕ) → head_fault bytes ≡ None → WasHead bytes
unfolding head_fault
head_was bytes e =
    let f1 = then_some (counts_too_many bytes) 4 in
    let f2 = cut_before bytes 8 in
    let n0 = else_none (then_some (has_other_front bytes) 0) (option_or f1 f2) e in
    let n1 = else_none f1 f2 n0.1 in
    let room : 8 ≤ length bytes = not_cut bytes 8 n1.1 in
    let other = then_none (has_other_front bytes) 0 n0.0 in
    let d0 = or_parts (differs bytes 0 80 || differs bytes 1 86 || differs bytes 2 84) (differs bytes 3 49) other in
    let d1 = or_parts (differs bytes 0 80 || differs bytes 1 86) (differs bytes 2 84) d0.0 in
    let d2 = or_parts (differs bytes 0 80) (differs bytes 1 86) d1.0 in
    let there : (k : ℕ) → nat_le k 8 ≡ true → k ≤ length bytes = λ k near. omega (arith, leb-true k 8 near, room) in
    let b0 = same_byte bytes 0 80 (there 1 refl) d2.0 in
    let b1 = same_byte bytes 1 86 (there 2 refl) d2.1 in
    let b2 = same_byte bytes 2 84 (there 3 refl) d1.1 in
    let b3 = same_byte bytes 3 49 (there 4 refl) d0.1 in
    record {
      room = room;
      front = part-four bytes 0 (there 4 refl) ∙ rw (b0, b1, b2, b3) refl;
      few =
          ltb-false _ _ (second_false (reaches bytes 8) (nat_lt most_choices (word32 bytes 4)) (le-leb _ _ room)
          (then_none (counts_too_many bytes) 4 n1.0));
    }

pub read_laid : (bytes : List ℕ) (list : List Choice) → AreBytes bytes → choices_in bytes ≡ Ok list
    → (bytes ≡ choices_bytes list) × AreChoices list
unfolding choices_in choices_bytes
read_laid bytes list fits e =
    let n = word32 bytes 4 in
    let read = choices_at bytes n 8 in
    let ok = unless_ok (option_or (head_fault bytes) (choices_fault bytes 0 n 8)) read list e in
    let both = else_none (head_fault bytes) (choices_fault bytes 0 n 8) ok.0 in
    let head = head_was bytes both.0 in
    let room : 8 ≤ length bytes = head.room in
    let all = choices_laid n bytes 0 8 fits both.1 in
    let eight : part bytes 0 8 ≡ (80 ∷ 86 ∷ 84 ∷ 49 ∷ []) ++ to_le_bytes w32 n = sym (part-append bytes 0 4 4)
    ∙ ap (λ (x : List ℕ). x ++ part bytes 4 4) head.front ∙ ap (λ (x : List ℕ). (80 ∷ 86 ∷ 84 ∷ 49 ∷ []) ++ x)
    (part-word bytes 4 fits (omega arith)) in
    let whole : bytes ≡ ((80 ∷ 86 ∷ 84 ∷ 49 ∷ []) ++ to_le_bytes w32 n) ++ flat_map choice_bytes read =
    drop-part bytes 0 8 ∙ rw (eight, all.rest) refl in
    let counted : bytes ≡ choices_bytes read =
    subst (λ (k : ℕ). bytes ≡ ((80 ∷ 86 ∷ 84 ∷ 49 ∷ []) ++ to_le_bytes w32 k) ++ flat_map choice_bytes read) (sym all.count) whole in
    let few : length read ≤ most_choices = rw all.count head.few in
    subst (λ (v : List Choice). (bytes ≡ choices_bytes v) × AreChoices v) ok.1 (counted, record { few = few; each = all.are })

-- ---- the same of an answer

pub if_spelled : (bytes : List ℕ) (r : Result ChoiceList ChoicesFault) → AreBytes bytes → Gives r (choices_in bytes)
    → IfOk r (λ choices. (bytes ≡ choices_bytes choices.list) × AreChoices choices.list)
if_spelled bytes (Ok choices) fits given = read_laid bytes choices.list fits given
if_spelled bytes (Err fault) fits given = tt

pub only_spelled : (bytes : List ℕ) (r : Result ChoiceList ChoicesFault) → Gives r (choices_in bytes) → (list : List Choice)
    → AreChoices list → bytes ≡ choices_bytes list → Gives r (Ok list)
only_spelled bytes r given list are is =
    subst (λ (read : Result (List Choice) ℕ). Gives r read) (ap choices_in is ∙ laid_read list are) given
