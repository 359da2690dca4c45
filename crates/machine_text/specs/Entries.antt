-- A translation as text.
use Rattle.std.specs.Prelude.{ℕ, Bool, ◌&&◌, not, ◌==◌, List, ◌++◌, codes, if◌then◌else◌}
use Rattle.run_trace.specs.Text.{hex8}
use Rattle.paging.specs.declared.entry.Entry.{Entry}
use Rattle.machine_text.specs.Numbers.{where_so}

-- the frame's number, and whose the page is
abbrev pub entry_text : Entry → List ℕ
entry_text e =
    codes "frame " ++ hex8 e.frame ++ where_so e.user (codes " user") ++ where_so e.write (codes " write")
    ++ where_so e.dirty (codes " dirty")

abbrev pub is_same_flag : Bool → Bool → Bool
is_same_flag a b = if a then b else not b

-- both lead to the same frame in the same way
abbrev pub is_same : Entry → Entry → Bool
is_same a b = a.frame == b.frame && is_same_flag a.user b.user && is_same_flag a.write b.write && is_same_flag a.dirty b.dirty
