-- What is read of the bytes of a file of choices, or the place of the first bad field.
use Rattle.std.specs.Prelude.{ℕ, zero, suc, ◌+◌, ◌^◌, Bool, not, ◌&&◌, ◌||◌, List, [], ◌∷◌, length, Option, Some, None, Result, Ok, Err, nat_lt, nat_le, ◌==◌, if◌then◌else◌}
use Rattle.std.specs.Bool.{then_some}
use Rattle.std.specs.Option.{option_or}
use Rattle.std.specs.Int.{w64, from_le_bytes}
use Rattle.guest_ram.specs.Bytes.{part, byte, word32}
use Rattle.trace_check.specs.declared.list.Choice.{Choice}
use Rattle.trace_check.specs.declared.list.ChoiceKind.{ChoiceKind}
use Rattle.trace_check.specs.declared.list.ChoiceKind.TheVariants.{Drop, Empty, Add}
use Rattle.trace_check.specs.Form.{most_choices}

-- the number of eight bytes at a, the lowest first
unfoldable pub word64 : List ℕ → ℕ → ℕ
word64 bytes a = from_le_bytes w64 (part bytes a 8)

-- the first n bytes are there
abbrev pub reaches : List ℕ → ℕ → Bool
reaches bytes n = nat_le n (length bytes)

-- a byte that is there, and isn't v
abbrev pub differs : List ℕ → ℕ → ℕ → Bool
differs bytes at v = reaches bytes (at + 1) && not (byte bytes at == v)

-- the bytes end before a place
abbrev pub cut_before : List ℕ → ℕ → Option ℕ
cut_before bytes end = then_some (not (reaches bytes end)) (length bytes)

-- Of the four bytes "PVT1" at the front those that are there aren't so.
abbrev pub has_other_front : List ℕ → Bool
has_other_front bytes = differs bytes 0 80 || differs bytes 1 86 || differs bytes 2 84 || differs bytes 3 49

abbrev pub counts_too_many : List ℕ → Bool
counts_too_many bytes = reaches bytes 8 && nat_lt most_choices (word32 bytes 4)

-- The first bad field of the two at the front.
unfoldable pub head_fault : List ℕ → Option ℕ
head_fault bytes =
    option_or (then_some (has_other_front bytes) 0)
    (option_or (then_some (counts_too_many bytes) 4)
    (cut_before bytes 8))

-- the step of the choice at a is less than the one before
abbrev pub falls : List ℕ → ℕ → ℕ → Bool
falls bytes least a = reaches bytes (a + 8) && nat_lt (word64 bytes a) least

abbrev pub is_no_page : List ℕ → ℕ → Bool
is_no_page bytes a = reaches bytes (a + 12) && not (nat_lt (word32 bytes (a + 8)) (2 ^ 20))

-- no kind, or that of all pages beside a page's number
abbrev pub is_no_kind : List ℕ → ℕ → Bool
is_no_kind bytes a =
    reaches bytes (a + 13) && (nat_lt 2 (byte bytes (a + 12)) || (byte bytes (a + 12) == 1 && not (word32 bytes (a + 8) == 0)))

-- The first bad field of the choice at a.
unfoldable pub choice_fault : List ℕ → ℕ → ℕ → Option ℕ
choice_fault bytes least a =
    option_or (then_some (falls bytes least a) a)
    (option_or (then_some (is_no_page bytes a) (a + 8))
    (option_or (then_some (is_no_kind bytes a) (a + 12))
    (option_or (then_some (differs bytes (a + 13) 0) (a + 13))
    (option_or (then_some (differs bytes (a + 14) 0) (a + 14))
    (option_or (then_some (differs bytes (a + 15) 0) (a + 15))
    (cut_before bytes (a + 16)))))))

-- The first bad field of n choices from a on, with which the bytes end.
unfoldable pub choices_fault : List ℕ → ℕ → ℕ → ℕ → Option ℕ
choices_fault bytes least zero a = then_some (nat_lt a (length bytes)) a
choices_fault bytes least (suc n) a = option_or (choice_fault bytes least a) (choices_fault bytes (word64 bytes a) n (a + 16))

abbrev pub kind_numbered : ℕ → ChoiceKind
kind_numbered n = if n == 0 then Drop else if n == 1 then Empty else Add

unfoldable pub choice_at : List ℕ → ℕ → Choice
choice_at bytes a = record { step = word64 bytes a; page = word32 bytes (a + 8); kind = kind_numbered (byte bytes (a + 12)) }

unfoldable pub choices_at : List ℕ → ℕ → ℕ → List Choice
choices_at bytes zero a = []
choices_at bytes (suc n) a = choice_at bytes a ∷ choices_at bytes n (a + 16)

abbrev pub unless : Option ℕ → List Choice → Result (List Choice) ℕ
unless None list = Ok list
unless (Some at) list = Err at

-- the choices, or the first bad field
unfoldable pub choices_in : List ℕ → Result (List Choice) ℕ
choices_in bytes = unless (option_or (head_fault bytes) (choices_fault bytes 0 (word32 bytes 4) 8)) (choices_at bytes (word32 bytes 4) 8)
