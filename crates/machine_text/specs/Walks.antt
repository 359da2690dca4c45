-- A walk as text.
use Rattle.std.specs.Prelude.{ℕ, ◌/◌, Bool, false, List, [], ◌++◌, codes, nat_le, ◌&&◌, not, Option, Some, None, if◌then◌else◌}
use Rattle.run_trace.specs.Text.{hex8}
use Rattle.guest_ram.specs.Bytes.{word32}
use Rattle.paging.specs.declared.entry.Entry.{Entry}
use Rattle.paging.specs.declared.entry.Walk.{Walk}
use Rattle.paging.specs.declared.entry.Walk.TheVariants.{Absent, Beyond, Reserved, Found}
use Rattle.paging.specs.Fresh.{has, dir_place, word_place, is_large}
use Rattle.machine_text.specs.Numbers.{where_so, long_line}
use Rattle.linear_view.specs.View.{View}
use Rattle.machine_text.specs.Mapped.{walked, cached}
use Rattle.machine_text.specs.Entries.{entry_text, is_same}

-- ---- a PDE or a PTE: where it stands, its number, and the names of its bits that are set

abbrev pub low_bits : ℕ → List ℕ
low_bits w = where_so (has w 1) (codes " present") ++ where_so (has w 2) (codes " write") ++ where_so (has w 4) (codes " user")

abbrev pub high_bits : ℕ → List ℕ
high_bits w = where_so (has w 0x20) (codes " accessed") ++ where_so (has w 0x40) (codes " dirty") ++ where_so (has w 0x80) (codes " size")

abbrev pub word_line : List ℕ → ℕ → ℕ → List ℕ
word_line name at w = name ++ hex8 at ++ codes " is " ++ hex8 w ++ low_bits w ++ high_bits w ++ codes "\n"

-- a present PDE that maps no page of 4 MB names a table, which may lie beyond memory
abbrev pub names_table : View → ℕ → Bool
names_table v dir = has dir 1 && not (is_large v.pse dir) && not (nat_le v.frames (dir / 4096))

abbrev pub table_line : View → ℕ → ℕ → List ℕ
table_line v page dir =
    if names_table v dir then word_line (codes "pte     at ") (word_place dir page) (word32 v.ram (word_place dir page)) else []

abbrev pub dir_lines : View → ℕ → ℕ → List ℕ
dir_lines v page dir = word_line (codes "pde     at ") (dir_place v.cr3 page) dir ++ table_line v page dir

-- the words that a walk reads
abbrev pub words_text : View → ℕ → List ℕ
words_text v page = if nat_le v.frames (v.cr3 / 4096) then [] else dir_lines v page (word32 v.ram (dir_place v.cr3 page))

-- ---- what it finds, and what is cached

abbrev pub found_text : Walk → List ℕ
found_text Absent = codes "none, not present"
found_text Beyond = codes "none, beyond memory"
found_text Reserved = codes "none, reserved bit"
found_text (Found entry dir_at word_at) = entry_text entry

-- a cached translation still is what a walk finds
abbrev pub is_found : Entry → Walk → Bool
is_found e (Found entry dir_at word_at) = is_same e entry
is_found e other = false

abbrev pub kept_text : Option Entry → Walk → List ℕ
kept_text None walk = codes "none"
kept_text (Some e) walk = entry_text e ++ where_so (not (is_found e walk)) (codes " stale")

abbrev pub walk_line : Walk → List ℕ
walk_line walk = codes "walk    " ++ found_text walk ++ codes "\n"

abbrev pub kept_line : Option Entry → Walk → List ℕ
kept_line kept walk = codes "cached  " ++ kept_text kept walk ++ codes "\n"

unfoldable pub page_text : View → ℕ → List ℕ
page_text v page = words_text v page ++ walk_line (walked v page) ++ kept_line (cached v page) (walked v page)

-- the walk for a linear address
unfoldable pub walk_text : View → ℕ → List ℕ
walk_text v at = long_line (codes "address ") at ++ long_line (codes "cr3     ") v.cr3 ++ page_text v (at / 4096)
