-- Where a load of CR3 leads, over what is kept for each of its values.
use Rattle.std.specs.Prelude.{ℕ, ◌==◌, if◌then◌else◌, take, Bool, false, Option, Some, None, List, [], ◌∷◌}
use Rattle.std.specs.List.{find}
use Rattle.shadow_tables.specs.OtherRoot.{OtherRoot}
use Rattle.shadow_tables.specs.Slots.{Slot}

-- What is kept for other values once the present tables are put by: those come first, under their own value, unless they
-- are marked.
abbrev pub put_by : Option ℕ → Bool → (ℕ → Bool) → (ℕ → Option Slot) → List OtherRoot → List OtherRoot
put_by None stale tables slots other_roots = other_roots
put_by (Some cr3) stale tables slots other_roots =
    if stale then other_roots else record { cr3 = cr3; tables = tables; slots = slots } ∷ other_roots

-- the first of this value
abbrev pub of_cr3 : ℕ → List OtherRoot → Option OtherRoot
of_cr3 cr3 other_roots = find (λ a. a.cr3 == cr3) other_roots

-- all but the first of this value
abbrev pub but_cr3 : ℕ → List OtherRoot → List OtherRoot
but_cr3 cr3 [] = []
but_cr3 cr3 (a ∷ other_roots) = if a.cr3 == cr3 then other_roots else a ∷ but_cr3 cr3 other_roots

-- a value under which nothing is kept and no table was read
abbrev pub begun_root : ℕ → OtherRoot
begun_root cr3 = record { cr3 = cr3; tables = λ frame. false; slots = λ page. None }

abbrev pub or_begun : ℕ → Option OtherRoot → OtherRoot
or_begun cr3 None = begun_root cr3
or_begun cr3 (Some a) = a

-- what is kept under the value that is loaded: what was put by under it comes back, or nothing is kept yet
abbrev pub coming : ℕ → List OtherRoot → OtherRoot
coming cr3 other_roots = or_begun cr3 (of_cr3 cr3 other_roots)

abbrev pub beside_coming : ℕ → List OtherRoot → Option OtherRoot → List OtherRoot
beside_coming cr3 other_roots None = take 7 other_roots
beside_coming cr3 other_roots (Some a) = but_cr3 cr3 other_roots

-- And what is kept for the others: where a new value comes and eight were there, the last goes.
abbrev pub staying : ℕ → List OtherRoot → List OtherRoot
staying cr3 other_roots = beside_coming cr3 other_roots (of_cr3 cr3 other_roots)
