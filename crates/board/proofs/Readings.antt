-- Scripts that grow by an event.
use Rattle.std.proofs.Common.{◌≡◌, ℕ, ◌<◌, ◌≤◌, true, [], ◌∷◌, ◌++◌, length, refl, arith, length-append}
use Rattle.std.specs.Prelude.{nat_le, fold}
use Rattle.std.proofs.lemmas.Bool.{le-leb, and_parts}
use Rattle.board.specs.declared.script.Event.{Event}
use Rattle.board.specs.Scripts.{Events, max_step, max_events}
use Rattle.board.specs.ScriptForm.{event_fits, is_script_from, is_script}
use Rattle.board.specs.Texts.{last_step}
use Rattle.board.proofs.Searches.{first_facts}

append_from : (low : ℕ) (xs : Events) (e : ℕ × Event) → is_script_from low xs ≡ true → fold (λ step event. event.0) low xs ≤ e.0 →
    e.0 ≤ max_step → event_fits e.1 ≡ true → is_script_from low (xs ++ e ∷ []) ≡ true
append_from low [] e h after small fits = rw (le-leb low e.0 after, le-leb e.0 max_step small, fits) refl
append_from low (x ∷ xs) e h after small fits =
    let facts = first_facts low x xs h in
    rw (le-leb low x.0 facts.0, le-leb x.0 max_step facts.1, facts.2) (append_from x.0 xs e facts.3 after small fits)

-- one more event
pub grown : (xs : Events) (e : ℕ × Event) → is_script xs ≡ true → length xs < max_events → last_step xs ≤ e.0 → e.0 ≤ max_step →
    event_fits e.1 ≡ true → is_script (xs ++ e ∷ []) ≡ true
grown xs e is room after small fits =
    let parts = and_parts (nat_le (length xs) max_events) (is_script_from 0 xs) is in
    let few : length (xs ++ e ∷ []) ≤ max_events = omega (arith, length-append xs (e ∷ [])) in
    rw (le-leb (length (xs ++ e ∷ [])) max_events few) (append_from 0 xs e parts.1 after small fits)
