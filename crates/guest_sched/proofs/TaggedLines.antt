-- The text of several kernels in turns is lines with their numbers, and those of one kernel are its own text.
use Rattle.std.proofs.Common.{◌≡◌, ℕ, zero, suc, ◌+◌, ◌<◌, Bool, true, false, List, [], ◌∷◌, ◌++◌, map, Option, Some, None, refl, ap, sym, ◌∙◌, arith, inl, inr, ne_eqb, eq-eqb}
use Rattle.std.specs.Prelude.{◌==◌, ◌&&◌, if◌then◌else◌}
use Rattle.std.specs.List.{All, flat_map}
use Rattle.std.proofs.lemmas.Bool.Decides.{eqb_tells}
use Rattle.std.proofs.lemmas.List.{append-nil, append_assoc}
use Rattle.std.proofs.lemmas.List.Elements.{All-nil, All-cons, All-head, All-tail, All-append}
use Rattle.std.proofs.lemmas.List.Splits.{slice_split_at}
use Rattle.std.proofs.lemmas.Grind.{flat_map-append}
use Rattle.ia32_types.specs.declared.stop.Stop.{Stop}
use Rattle.run_trace.specs.declared.items.Item.{Item}
use Rattle.run_trace.specs.declared.items.End.{End}
use Rattle.run_trace.specs.declared.items.End.TheVariants.{Bound, Stopped}
use Rattle.run_trace.specs.declared.items.Ended.{Ended}
use Rattle.run_trace.specs.Text.{item_line, lines_of, end_line}
use Rattle.guest_sched.specs.Tags.{tag_of, tagged_from, tagged}
use Rattle.guest_sched.specs.Dues.{has_end}
use Rattle.machine_model.specs.Run.{trace_of}
use Rattle.guest_sched.specs.Pieces.{Piece, stop_line, bound_line, bound_texts, piece_text, shared_text, own_text, without_tag, lines_of_kernel}
use Rattle.guest_sched.specs.TaggedLines.{Line, IsLine, with_tag, stop_lines, lines_in, bound_lines, last_lines, shared_lines, BytesAreLines}
use Rattle.guest_sched.proofs.LineEnds.{item_line_is, end_line_is}

-- a line with its tag, and what follows it

rest_of_line : (tag front rest : List ℕ) → has_end front ≡ false → tagged_from tag [] (front ++ 10 ∷ rest) ≡ front
    ++ 10 ∷ tagged_from tag tag rest
rest_of_line tag [] rest inside = refl
rest_of_line tag (b ∷ front) rest inside = by_test (b == 10) inside (rest_of_line tag front rest) where
  by_test : (t : Bool) → (if t then true else has_end front) ≡ false
      → (has_end front ≡ false → tagged_from tag [] (front ++ 10 ∷ rest) ≡ front ++ 10 ∷ tagged_from tag tag rest)
      → b ∷ tagged_from tag (if t then tag else []) (front ++ 10 ∷ rest) ≡ b ∷ (front ++ 10 ∷ tagged_from tag tag rest)
  by_test true inside on = absurd (cc)
  by_test false inside on = ap (λ (z : List ℕ). b ∷ z) (on inside)

front_tagged : (tag front rest : List ℕ) → has_end front ≡ false → tagged tag (front ++ 10 ∷ rest) ≡ tag ++ (front ++ 10 ∷ tagged tag rest)
front_tagged tag [] rest inside = refl
front_tagged tag (b ∷ front) rest inside = by_test (b == 10) inside (rest_of_line tag front rest) where
  by_test : (t : Bool) → (if t then true else has_end front) ≡ false
      → (has_end front ≡ false → tagged_from tag [] (front ++ 10 ∷ rest) ≡ front ++ 10 ∷ tagged_from tag tag rest)
      → tag ++ b ∷ tagged_from tag (if t then tag else []) (front ++ 10 ∷ rest) ≡ tag ++ (b ∷ (front ++ 10 ∷ tagged_from tag tag rest))
  by_test true inside on = absurd (cc)
  by_test false inside on = ap (λ (z : List ℕ). tag ++ (b ∷ z)) (on inside)

-- where the line is whole
line_tagged : (tag text rest : List ℕ) → IsLine text → tagged tag (text ++ rest) ≡ (tag ++ text) ++ tagged tag rest
line_tagged tag text rest is =
    ap (λ (z : List ℕ). tagged tag (z ++ rest)) is.whole
    ∙ ap (tagged tag) (append_assoc is.front (10 ∷ []) rest)
    ∙ front_tagged tag is.front rest is.inside
    ∙ sym (ap (λ (z : List ℕ). (tag ++ z) ++ tagged tag rest) is.whole ∙ append_assoc tag (is.front ++ 10 ∷ []) (tagged tag rest)
    ∙ ap (λ (z : List ℕ). tag ++ z) (append_assoc is.front (10 ∷ []) (tagged tag rest)))

-- the text of a turn

abbrev item_of : ℕ → Item → Line
item_of k item = record { kernel = k; text = item_line item }

items_tagged : (k : ℕ) (items : List Item) → tagged (tag_of k) (lines_of items) ≡ flat_map with_tag (map (item_of k) items)
items_tagged k [] = refl
items_tagged k (item ∷ items) =
    line_tagged (tag_of k) (item_line item) (lines_of items) (item_line_is item)
    ∙ ap (λ (z : List ℕ). (tag_of k ++ item_line item) ++ z) (items_tagged k items)

one_tagged : (k : ℕ) (text : List ℕ) → IsLine text → tagged (tag_of k) text ≡ (tag_of k ++ text) ++ []
one_tagged k text is = ap (tagged (tag_of k)) (sym (append-nil text)) ∙ line_tagged (tag_of k) text [] is

stop_tagged : (k steps : ℕ) (stop : Option Stop) → tagged (tag_of k) (stop_line steps stop) ≡ flat_map with_tag (stop_lines k steps stop)
stop_tagged k steps None = refl
stop_tagged k steps (Some stop) = one_tagged k (end_line steps (Stopped stop)) (end_line_is steps (Stopped stop))

bound_tagged : (k steps : ℕ) (end : End) → tagged (tag_of k) (bound_line steps end) ≡ flat_map with_tag (bound_lines k steps end)
bound_tagged k steps Bound = one_tagged k (end_line steps Bound) (end_line_is steps Bound)
bound_tagged k steps (Stopped stop) = refl

piece_tagged : (p : Piece) → piece_text p ≡ flat_map with_tag (lines_in p)
piece_tagged p =
    ap (λ (z : List ℕ). z ++ tagged (tag_of p.kernel) (stop_line p.steps p.stop)) (items_tagged p.kernel (trace_of p.reports))
    ∙ ap (λ (z : List ℕ). flat_map with_tag (map (item_of p.kernel) (trace_of p.reports)) ++ z) (stop_tagged p.kernel p.steps p.stop)
    ∙ sym (flat_map-append with_tag (map (item_of p.kernel) (trace_of p.reports)) (stop_lines p.kernel p.steps p.stop))

pieces_tagged : (pieces : List Piece) → flat_map piece_text pieces ≡ flat_map with_tag (flat_map lines_in pieces)
pieces_tagged [] = refl
pieces_tagged (p ∷ pieces) =
    ap (λ (z : List ℕ). z ++ flat_map piece_text pieces) (piece_tagged p)
    ∙ ap (λ (z : List ℕ). flat_map with_tag (lines_in p) ++ z) (pieces_tagged pieces)
    ∙ sym (flat_map-append with_tag (lines_in p) (flat_map lines_in pieces))

ends_tagged : (k : ℕ) (ended : List Ended) → bound_texts k ended ≡ flat_map with_tag (last_lines k ended)
ends_tagged k [] = refl
ends_tagged k (e ∷ more) =
    ap (λ (z : List ℕ). z ++ bound_texts (suc k) more) (bound_tagged k e.steps e.end)
    ∙ ap (λ (z : List ℕ). flat_map with_tag (bound_lines k e.steps e.end) ++ z) (ends_tagged (suc k) more)
    ∙ sym (flat_map-append with_tag (bound_lines k e.steps e.end) (last_lines (suc k) more))

pub bytes_are : (pieces : List Piece) (ended : List Ended) → shared_text pieces ended ≡ flat_map with_tag (shared_lines pieces ended)
bytes_are pieces ended =
    ap (λ (z : List ℕ). z ++ bound_texts 0 ended) (pieces_tagged pieces)
    ∙ ap (λ (z : List ℕ). flat_map with_tag (flat_map lines_in pieces) ++ z) (ends_tagged 0 ended)
    ∙ sym (flat_map-append with_tag (flat_map lines_in pieces) (last_lines 0 ended))

-- each is a line

abbrev AreLines : List Line → Type 0
AreLines lines = All (λ (line : Line). IsLine line.text) lines

both_lines : (xs ys : List Line) → AreLines xs → AreLines ys → AreLines (xs ++ ys)
both_lines = All-append (λ (line : Line). IsLine line.text)

no_line : AreLines []
no_line = All-nil (λ (line : Line). IsLine line.text)

one_line : (k : ℕ) (text : List ℕ) → IsLine text → AreLines (record { kernel = k; text = text } ∷ [])
one_line k text is = All-cons (λ (line : Line). IsLine line.text) (record { kernel = k; text = text }) [] is no_line

item_lines : (k : ℕ) (items : List Item) → AreLines (map (item_of k) items)
item_lines k [] = no_line
item_lines k (item ∷ items) =
    All-cons (λ (line : Line). IsLine line.text) (item_of k item) (map (item_of k) items) (item_line_is item) (item_lines k items)

stops : (k steps : ℕ) (stop : Option Stop) → AreLines (stop_lines k steps stop)
stops k steps None = no_line
stops k steps (Some stop) = one_line k (end_line steps (Stopped stop)) (end_line_is steps (Stopped stop))

bounds : (k steps : ℕ) (end : End) → AreLines (bound_lines k steps end)
bounds k steps Bound = one_line k (end_line steps Bound) (end_line_is steps Bound)
bounds k steps (Stopped stop) = no_line

turn_lines : (pieces : List Piece) → AreLines (flat_map lines_in pieces)
turn_lines [] = no_line
turn_lines (p ∷ pieces) =
    both_lines (lines_in p) (flat_map lines_in pieces)
    (both_lines (map (item_of p.kernel) (trace_of p.reports)) (stop_lines p.kernel p.steps p.stop)
    (item_lines p.kernel (trace_of p.reports)) (stops p.kernel p.steps p.stop))
    (turn_lines pieces)

end_lines : (k : ℕ) (ended : List Ended) → AreLines (last_lines k ended)
end_lines k [] = no_line
end_lines k (e ∷ more) =
    both_lines (bound_lines k e.steps e.end) (last_lines (suc k) more) (bounds k e.steps e.end) (end_lines (suc k) more)

pub each_is : (pieces : List Piece) (ended : List Ended) → AreLines (shared_lines pieces ended)
each_is pieces ended = both_lines (flat_map lines_in pieces) (last_lines 0 ended) (turn_lines pieces) (end_lines 0 ended)

pub bytes_are_lines : BytesAreLines
bytes_are_lines pieces ended = (bytes_are pieces ended, each_is pieces ended)

-- one kernel's lines, without its number

abbrev own : ℕ → Line → List ℕ
own k line = if line.kernel == k then line.text else []

digits_apart : (j k : ℕ) → ((48 + k) == (48 + j)) ≡ (j == k)
digits_apart j k = elim (eqb_tells j k) [
  | inl (is, same) ↦ rw is (eq-eqb (48 + k) (48 + j) (omega arith))
  | inr (isnt, other) ↦ rw isnt (ne_eqb (48 + k) (48 + j) (λ e. other (omega arith)))
]

untagged : (j k : ℕ) (front : List ℕ) → without_tag (tag_of k) (tag_of j ++ front) ≡ (if j == k then front ++ 10 ∷ [] else [])
untagged j k front = ap (λ (t : Bool). if t && true then front ++ 10 ∷ [] else []) (digits_apart j k) ∙ by_test (j == k) where
  by_test : (t : Bool) → (if t && true then front ++ 10 ∷ [] else []) ≡ (if t then front ++ 10 ∷ [] else [])
  by_test true = refl
  by_test false = refl

no_end : (front : List ℕ) → has_end front ≡ false → All (λ (b : ℕ). (b == 10) ≡ false) front
no_end [] inside = All-nil (λ (b : ℕ). (b == 10) ≡ false)
no_end (b ∷ front) inside =
    All-cons (λ (x : ℕ). (x == 10) ≡ false) b front (here (b == 10) inside) (no_end front (there (b == 10) inside)) where
      here : (t : Bool) → (if t then true else has_end front) ≡ false → t ≡ false
      here true e = absurd (cc)
      here false e = refl

      there : (t : Bool) → (if t then true else has_end front) ≡ false → has_end front ≡ false
      there true e = absurd (cc)
      there false e = e

line_cut : (j k : ℕ) (text rest : List ℕ) → IsLine text → lines_of_kernel k ((tag_of j ++ text) ++ rest) ≡ own k
    (record { kernel = j; text = text }) ++ lines_of_kernel k rest
line_cut j k text rest is =
    ap (λ (z : List ℕ). lines_of_kernel k ((tag_of j ++ z) ++ rest)) is.whole
    ∙ ap (lines_of_kernel k)
    (append_assoc (tag_of j) (is.front ++ 10 ∷ []) rest ∙ ap (λ (z : List ℕ). tag_of j ++ z) (append_assoc is.front (10 ∷ []) rest)
    ∙ sym (append_assoc (tag_of j) is.front (10 ∷ rest)))
    ∙ ap (flat_map (without_tag (tag_of k))) (slice_split_at (λ (b : ℕ). b == 10) (tag_of j ++ is.front) 10 rest
    (All-cons (λ (b : ℕ). (b == 10) ≡ false) (48 + j) (32 ∷ is.front) (ne_eqb (48 + j) 10 (λ e. omega arith))
    (All-cons (λ (b : ℕ). (b == 10) ≡ false) 32 is.front refl (no_end is.front is.inside))) refl)
    ∙ ap (λ (z : List ℕ). z ++ lines_of_kernel k rest)
    (untagged j k is.front ∙ ap (λ (z : List ℕ). if j == k then z else []) (sym is.whole))

lines_cut : (k : ℕ) (lines : List Line) → AreLines lines → lines_of_kernel k (flat_map with_tag lines) ≡ flat_map (own k) lines
lines_cut k [] each = refl
lines_cut k (line ∷ lines) each =
    line_cut line.kernel k line.text (flat_map with_tag lines) (All-head (λ (line : Line). IsLine line.text) line lines each)
    ∙ ap (λ (z : List ℕ). own k line ++ z) (lines_cut k lines (All-tail (λ (line : Line). IsLine line.text) line lines each))

-- which are its text

abbrev if_own : Bool → List ℕ → List ℕ
if_own t text = if t then text else []

own_both : (t : Bool) (xs ys : List ℕ) → if_own t xs ++ if_own t ys ≡ if_own t (xs ++ ys)
own_both true xs ys = refl
own_both false xs ys = refl

own_items : (j k : ℕ) (items : List Item) → flat_map (own k) (map (item_of j) items) ≡ if_own (j == k) (lines_of items)
own_items j k [] = by_test (j == k) where
  by_test : (t : Bool) → [] ≡ if_own t []
  by_test true = refl
  by_test false = refl
own_items j k (item ∷ items) =
    ap (λ (z : List ℕ). own k (item_of j item) ++ z) (own_items j k items) ∙ own_both (j == k) (item_line item) (lines_of items)

own_one : (t : Bool) (text : List ℕ) → if_own t text ++ [] ≡ if_own t text
own_one t text = append-nil (if_own t text)

own_none : (t : Bool) → [] ≡ if_own t []
own_none true = refl
own_none false = refl

own_stop : (j k steps : ℕ) (stop : Option Stop) → flat_map (own k) (stop_lines j steps stop) ≡ if_own (j == k) (stop_line steps stop)
own_stop j k steps None = own_none (j == k)
own_stop j k steps (Some stop) = own_one (j == k) (end_line steps (Stopped stop))

own_bound : (j k steps : ℕ) (end : End) → flat_map (own k) (bound_lines j steps end) ≡ if_own (j == k) (bound_line steps end)
own_bound j k steps Bound = own_one (j == k) (end_line steps Bound)
own_bound j k steps (Stopped stop) = own_none (j == k)

own_piece : (k : ℕ) (p : Piece) → flat_map (own k) (lines_in p) ≡ if_own (p.kernel == k)
    (lines_of (trace_of p.reports) ++ stop_line p.steps p.stop)
own_piece k p =
    flat_map-append (own k) (map (item_of p.kernel) (trace_of p.reports)) (stop_lines p.kernel p.steps p.stop)
    ∙ ap (λ (z : List ℕ). z ++ flat_map (own k) (stop_lines p.kernel p.steps p.stop)) (own_items p.kernel k (trace_of p.reports))
    ∙ ap (λ (z : List ℕ). if_own (p.kernel == k) (lines_of (trace_of p.reports)) ++ z) (own_stop p.kernel k p.steps p.stop)
    ∙ own_both (p.kernel == k) (lines_of (trace_of p.reports)) (stop_line p.steps p.stop)

own_pieces : (k : ℕ) (pieces : List Piece) → flat_map (own k) (flat_map lines_in pieces) ≡ own_text k pieces
own_pieces k [] = refl
own_pieces k (p ∷ pieces) =
    flat_map-append (own k) (lines_in p) (flat_map lines_in pieces)
    ∙ ap (λ (z : List ℕ). z ++ flat_map (own k) (flat_map lines_in pieces)) (own_piece k p)
    ∙ ap (λ (z : List ℕ). if_own (p.kernel == k) (lines_of (trace_of p.reports) ++ stop_line p.steps p.stop) ++ z) (own_pieces k pieces)
    ∙ by_test (p.kernel == k) (lines_of (trace_of p.reports) ++ stop_line p.steps p.stop) (own_text k pieces) where
      by_test : (t : Bool) (xs ys : List ℕ) → if_own t xs ++ ys ≡ (if t then xs ++ ys else ys)
      by_test true xs ys = refl
      by_test false xs ys = refl

-- the last line of kernel k, counted from the first of these
unfoldable pub last_line : ℕ → List Ended → List ℕ
last_line k [] = []
last_line zero (e ∷ more) = bound_line e.steps e.end
last_line (suc k) (e ∷ more) = last_line k more

later_ends : (k n : ℕ) (ended : List Ended) → k < n → flat_map (own k) (last_lines n ended) ≡ []
later_ends k n [] less = refl
later_ends k n (e ∷ more) less =
    flat_map-append (own k) (bound_lines n e.steps e.end) (last_lines (suc n) more)
    ∙ ap (λ (z : List ℕ). z ++ flat_map (own k) (last_lines (suc n) more))
    (own_bound n k e.steps e.end ∙ ap (λ (t : Bool). if_own t (bound_line e.steps e.end)) (ne_eqb n k (λ same. omega arith)))
    ∙ later_ends k (suc n) more (omega arith)

pub own_ends : (n k : ℕ) (ended : List Ended) → flat_map (own (n + k)) (last_lines n ended) ≡ last_line k ended
unfolding last_line
own_ends n k [] = refl
own_ends n zero (e ∷ more) =
    flat_map-append (own (n + 0)) (bound_lines n e.steps e.end) (last_lines (suc n) more)
    ∙ ap (λ (z : List ℕ). z ++ flat_map (own (n + 0)) (last_lines (suc n) more))
    (own_bound n (n + 0) e.steps e.end ∙ ap (λ (t : Bool). if_own t (bound_line e.steps e.end)) (eq-eqb n (n + 0) (omega arith)))
    ∙ ap (λ (z : List ℕ). bound_line e.steps e.end ++ z) (later_ends (n + 0) (suc n) more (omega arith))
    ∙ append-nil (bound_line e.steps e.end)
own_ends n (suc k) (e ∷ more) =
    let same : n + suc k ≡ suc n + k = omega arith in
    flat_map-append (own (n + suc k)) (bound_lines n e.steps e.end) (last_lines (suc n) more)
    ∙ ap (λ (z : List ℕ). z ++ flat_map (own (n + suc k)) (last_lines (suc n) more))
    (own_bound n (n + suc k) e.steps e.end ∙ ap (λ (t : Bool). if_own t (bound_line e.steps e.end))
    (ne_eqb n (n + suc k) (λ same. omega arith)))
    ∙ ap (λ (j : ℕ). flat_map (own j) (last_lines (suc n) more)) same
    ∙ own_ends (suc n) k more

-- the lines with a kernel's number are its text, and its last line
pub lines_are : (k : ℕ) (pieces : List Piece) (ended : List Ended) → lines_of_kernel k (shared_text pieces ended) ≡ own_text k pieces
    ++ last_line k ended
lines_are k pieces ended =
    ap (lines_of_kernel k) (bytes_are pieces ended)
    ∙ lines_cut k (shared_lines pieces ended) (each_is pieces ended)
    ∙ flat_map-append (own k) (flat_map lines_in pieces) (last_lines 0 ended)
    ∙ ap (λ (z : List ℕ). z ++ flat_map (own k) (last_lines 0 ended)) (own_pieces k pieces)
    ∙ ap (λ (z : List ℕ). own_text k pieces ++ z)
    (ap (λ (j : ℕ). flat_map (own j) (last_lines 0 ended)) (let e : k ≡ 0 + k = omega arith in e) ∙ own_ends 0 k ended)
