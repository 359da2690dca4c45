-- The first of some notes, with one more reported.
use Rattle.std.proofs.Common.{◌≡◌, ℕ, ◌<◌, ◌≤◌, Bool, true, false, ltb, List, [], ◌∷◌, ◌++◌, length, take, sym, ap, ◌∙◌, arith, inl, inr}
use Rattle.std.proofs.lemmas.Bool.{lt-ltb, le-ltb, ltb-false, ltb-true, cases_lt}
use Rattle.std.proofs.lemmas.List.{take_all, take-append-le, length-take, length-append, length-map, map-append}
use Rattle.run_trace.specs.Notes.{Note}
use Rattle.trace_check.specs.declared.list.Choice.{Choice}
use Rattle.trace_check.specs.Form.{most_choices}
use Rattle.trace_check.specs.ChoicesTold.{choice_of, choices_of}
use Rattle.trace_check.specs.NotesKept.{KeptChoices, AreKept}

abbrev kept_as : List Choice → Bool → KeptChoices
kept_as list more = record { list = list; more = more }

-- what is claimed of the first m of some choices
record Firsts (m : ℕ) (kept : KeptChoices) (all : List Choice) : Type 0 where
  list : kept.list ≡ take m all
  more : kept.more ≡ ltb m (length all)

all_of : (m : ℕ) (kept : KeptChoices) (all : List Choice) → Firsts m kept all → kept.more ≡ false → (length all ≤ m) × (kept.list ≡ all)
all_of m kept all h e =
    let le : length all ≤ m = ltb-false _ _ (sym h.more ∙ e) in
    (le, h.list ∙ take_all m all le)

not_all : (m : ℕ) (kept : KeptChoices) (all : List Choice) → Firsts m kept all → kept.more ≡ true → m < length all
not_all m kept all h e = ltb-true _ _ (sym h.more ∙ e)

room_left : (m : ℕ) (kept : KeptChoices) (all : List Choice) → Firsts m kept all → length kept.list < m → length all < m
room_left m kept all h lt =
    let len : length kept.list ≡ length (take m all) = ap length h.list in
    omega (arith, length-take m all)

no_room : (m : ℕ) (kept : KeptChoices) (all : List Choice) → Firsts m kept all → m ≤ length kept.list → m ≤ length all
no_room m kept all h le =
    let len : length kept.list ≡ length (take m all) = ap length h.list in
    omega (arith, length-take m all)

one_more : (m : ℕ) (kept : KeptChoices) (all : List Choice) (c : Choice) → Firsts m kept all → length kept.list < m
    → Firsts m (record kept { list = kept.list ++ c ∷ [] }) (all ++ c ∷ [])
one_more m kept all c h lt =
    let room = room_left m kept all h lt in
    let whole : length (all ++ c ∷ []) ≤ m = omega (arith, length-append all (c ∷ [])) in
    record {
      list = ap (λ (l : List Choice). l ++ c ∷ []) (h.list ∙ take_all m all (omega arith)) ∙ sym (take_all m (all ++ c ∷ []) whole);
      more = h.more ∙ le-ltb m (length all) (omega arith) ∙ sym (le-ltb m (length (all ++ c ∷ [])) whole);
    }

none_more : (m : ℕ) (kept : KeptChoices) (all : List Choice) (c : Choice) → Firsts m kept all → m ≤ length kept.list
    → Firsts m (record kept { more = true }) (all ++ c ∷ [])
none_more m kept all c h le =
    let full = no_room m kept all h le in
    record {
      list = h.list ∙ sym (take-append-le m all (c ∷ []) full);
      more = sym (lt-ltb m (length (all ++ c ∷ [])) (omega (arith, length-append all (c ∷ []))));
    }

firsts : (kept : KeptChoices) (notes : List Note) → AreKept kept notes → Firsts most_choices kept (choices_of notes)
firsts kept notes h = record { list = h.list; more = h.more ∙ ap (λ (n : ℕ). ltb most_choices n) (sym (length-map notes choice_of)) }

are_kept : (kept : KeptChoices) (notes : List Note) → Firsts most_choices kept (choices_of notes) → AreKept kept notes
are_kept kept notes h = record { list = h.list; more = h.more ∙ ap (λ (n : ℕ). ltb most_choices n) (length-map notes choice_of) }

pub kept_on : (old new : KeptChoices) (notes : List Note) (note : Note)
    → (length old.list < most_choices → new ≡ record old { list = old.list ++ choice_of note ∷ [] })
    → (most_choices ≤ length old.list → new ≡ record old { more = true })
    → AreKept old notes → AreKept new (notes ++ note ∷ [])
kept_on old new notes note kept full h =
    let all : choices_of (notes ++ note ∷ []) ≡ choices_of notes ++ choice_of note ∷ [] = map-append choice_of notes (note ∷ []) in
    let was = firsts old notes h in
    are_kept new (notes ++ note ∷ []) (rw all (elim (cases_lt (length old.list) most_choices) [
      | inl lt ↦ rw (kept lt) (one_more most_choices old (choices_of notes) (choice_of note) was lt)
      | inr le ↦ rw (full le) (none_more most_choices old (choices_of notes) (choice_of note) was le)
    ]))

pub all_told : (kept : KeptChoices) (notes : List Note) → AreKept kept notes → kept.more ≡ false → (length notes ≤ most_choices)
    × (kept.list ≡ choices_of notes)
all_told kept notes h e =
    let all = all_of most_choices kept (choices_of notes) (firsts kept notes h) e in
    let len : length (choices_of notes) ≡ length notes = length-map notes choice_of in
    (rw (← len) all.0, all.1)

pub more_told : (kept : KeptChoices) (notes : List Note) → AreKept kept notes → kept.more ≡ true → most_choices < length notes
more_told kept notes h e =
    let more = not_all most_choices kept (choices_of notes) (firsts kept notes h) e in
    let len : length (choices_of notes) ≡ length notes = length-map notes choice_of in
    rw (← len) more
