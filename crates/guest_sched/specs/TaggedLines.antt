-- The lines that several kernels put in turns.
use Rattle.std.specs.Prelude.{◌≡◌, ℕ, suc, false, List, [], ◌∷◌, ◌++◌, map, Option, Some, None}
use Rattle.std.specs.List.{All, flat_map}
use Rattle.ia32_types.specs.declared.stop.Stop.{Stop}
use Rattle.run_trace.specs.declared.items.Item.{Item}
use Rattle.run_trace.specs.declared.items.End.{End}
use Rattle.run_trace.specs.declared.items.End.TheVariants.{Bound, Stopped}
use Rattle.run_trace.specs.declared.items.Ended.{Ended}
use Rattle.run_trace.specs.Text.{item_line, end_line}
use Rattle.guest_sched.specs.Tags.{tag_of, tagged, tagged_from}
use Rattle.guest_sched.specs.Dues.{has_end, due_after}
use Rattle.machine_model.specs.Run.{trace_of}
use Rattle.guest_sched.specs.Pieces.{Piece, shared_text}

-- a kernel's line, with its end
pub record Line : Type 0 where
  pub kernel : ℕ
  pub text : List ℕ

-- its last byte ends it, and none before does
pub record IsLine (text : List ℕ) : Type 0 where
  pub front : List ℕ
  pub whole : text ≡ front ++ 10 ∷ []
  pub inside : has_end front ≡ false

-- the line as it is put: with the kernel's number before it
abbrev pub with_tag : Line → List ℕ
with_tag line = tag_of line.kernel ++ line.text

-- those of a turn: a line for each item, and the last one where the kernel stops
abbrev pub stop_lines : ℕ → ℕ → Option Stop → List Line
stop_lines kernel steps None = []
stop_lines kernel steps (Some stop) = record { kernel = kernel; text = end_line steps (Stopped stop) } ∷ []

abbrev pub lines_in : Piece → List Line
lines_in p =
    map (λ (item : Item). record { kernel = p.kernel; text = item_line item }) (trace_of p.reports) ++ stop_lines p.kernel p.steps p.stop

-- the last lines of those that met no stop
abbrev pub bound_lines : ℕ → ℕ → End → List Line
bound_lines kernel steps Bound = record { kernel = kernel; text = end_line steps Bound } ∷ []
bound_lines kernel steps (Stopped stop) = []

abbrev pub last_lines : ℕ → List Ended → List Line
last_lines kernel [] = []
last_lines kernel (ended ∷ more) = bound_lines kernel ended.steps ended.end ++ last_lines (suc kernel) more

-- all, in the order of the turns, and then those
abbrev pub shared_lines : List Piece → List Ended → List Line
shared_lines pieces ended = flat_map lines_in pieces ++ last_lines 0 ended

-- The bytes are these lines, each with its kernel's number before it.
abbrev pub BytesAreLines : Type 0
BytesAreLines =
    (pieces : List Piece) (ended : List Ended) → (shared_text pieces ended ≡ flat_map with_tag (shared_lines pieces ended))
    × All (λ (line : Line). IsLine line.text) (shared_lines pieces ended)

-- A text that is put in pieces is tagged as a whole.
abbrev pub PiecesAreTagged : Type 0
PiecesAreTagged = (tag xs ys : List ℕ) → tagged tag (xs ++ ys) ≡ tagged tag xs ++ tagged_from tag (due_after tag tag xs) ys

-- The lines "a", "bc" and "" of kernel 3 are "3 a", "3 bc" and "3 ".
abbrev pub ThreeAreTagged : Type 0
ThreeAreTagged = tagged (tag_of 3) (97 ∷ 10 ∷ 98 ∷ 99 ∷ 10 ∷ 10 ∷ []) ≡ 51 ∷ 32 ∷ 97 ∷ 10 ∷ 51 ∷ 32 ∷ 98 ∷ 99 ∷ 10 ∷ 51 ∷ 32 ∷ 10 ∷ []
