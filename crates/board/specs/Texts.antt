-- What the text of a script says.
use Rattle.std.specs.Prelude.{ℕ, Bool, true, false, ◌&&◌, ◌||◌, not, nat_lt, nat_le, List, [], ◌∷◌, length, fold, Option, Some, None, Result, Ok, Err, if◌then◌else◌, codes}
use Rattle.std.specs.List.{list_all}
use Rattle.std.specs.Str.{bytes_eq}
use Rattle.std.specs.Option.{option_map, option_zip, ok_or}
use Rattle.text_lines.specs.Cuts.{cut_at, is_skipped}
use Rattle.text_lines.specs.Numbers.{number_upto, hex_byte}
use Rattle.text_lines.specs.Lines.{Rule, text_read}
use Rattle.board.specs.declared.script.Event.{Event}
use Rattle.board.specs.declared.script.Event.TheVariants.{Rx, Line}
use Rattle.board.specs.declared.fault.ScriptCause.{ScriptCause}
use Rattle.board.specs.declared.fault.ScriptCause.TheVariants.{NoForm, BadNumber, StepFalls, TooMany, NotAscii}
use Rattle.board.specs.Scripts.{Events, max_step, max_events, is_free_line}

-- numbers

abbrev pub free_line_of : Option ℕ → Option ℕ
free_line_of None = None
free_line_of (Some n) = if is_free_line n then Some n else None

-- lines

abbrev pub is_empty : List ℕ → Bool
is_empty [] = true
is_empty (b ∷ rest) = false

-- the three words of a line: a step and an event, where both can be read
unfoldable pub event_of : List ℕ → List ℕ → List ℕ → Result (ℕ × Event) ScriptCause
event_of step kind value =
    if is_empty step || is_empty value then Err NoForm
    else if bytes_eq kind (codes "rx") then
    ok_or (option_zip (number_upto max_step step) (option_map Rx (hex_byte value))) BadNumber
    else if bytes_eq kind (codes "line") then
    ok_or (option_zip (number_upto max_step step) (option_map Line (free_line_of (number_upto 15 value)))) BadNumber
    else Err NoForm

unfoldable pub event_in : List (List ℕ) → Result (ℕ × Event) ScriptCause
event_in (a ∷ b ∷ c ∷ []) = event_of a b c
event_in _ = Err NoForm

abbrev pub is_printable : ℕ → Bool
is_printable b = nat_le 0x20 b && nat_le b 0x7E

abbrev pub some_event : Result (ℕ × Event) ScriptCause → Result (Option (ℕ × Event)) ScriptCause
some_event (Ok event) = Ok (Some event)
some_event (Err cause) = Err cause

-- what a line says: its bytes are tested first, also those of a skipped one
unfoldable pub event_of_line : List ℕ → Result (Option (ℕ × Event)) ScriptCause
event_of_line line =
    if not (list_all is_printable line) then Err NotAscii
    else if is_skipped line then Ok None
    else some_event (event_in (cut_at 32 line))

-- texts

-- the step of the last event, or 0
abbrev pub last_step : Events → ℕ
last_step events = fold (λ step event. event.0) 0 events

-- why an event isn't taken after these
abbrev pub objection : Events → ℕ × Event → Option ScriptCause
objection before event =
    if nat_lt event.0 (last_step before) then Some StepFalls
    else if nat_le max_events (length before) then Some TooMany
    else None

abbrev pub script_rule : Rule (ℕ × Event) ScriptCause
script_rule = record { says = event_of_line; objection = objection }

-- the events that a text says, or its first bad line with the cause
abbrev pub script_of : List ℕ → Result (Events) (ℕ × ScriptCause)
script_of text = text_read script_rule text
