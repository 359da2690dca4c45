-- A translation meets what the first of its tests gives that holds.
use Rattle.std.proofs.Common.{◌≡◌, ℕ, ◌+◌, ◌-◌, ◌*◌, ◌/◌, ◌^◌, Bool, true, false, ◌&&◌, ◌||◌, not, ◌==◌, cond, List, [], ◌∷◌, ◌++◌, refl, sym, ap, ◌∙◌, Option, Some, None, arith}
use Rattle.std.proofs.lemmas.Bool.Decides.{nat_tests}
use Rattle.std.specs.Prelude.{nat_lt, nat_le}
use Rattle.std.specs.FinMap.{get}
use Rattle.ia32_types.specs.declared.stop.Stop.TheVariants as stops
use Rattle.paging.specs.declared.entry.Access.{Access}
use Rattle.paging.specs.declared.entry.Entry.{Entry}
use Rattle.paging.specs.declared.entry.Walk.{Walk}
use Rattle.paging.specs.declared.entry.Walk.TheVariants.{Absent, Beyond, Reserved, Found}
use Rattle.paging.specs.declared.entry.Touch.{Touch}
use Rattle.paging.specs.declared.entry.Touch.TheVariants.{Ready, Fault, Stop}
use Rattle.paging.specs.Space.{Mode, Bare, Wedge, Space}
use Rattle.paging.specs.Fresh.{has, dir_place, word_place, is_large, has_reserved, large_frame, large_entry, entry_of, fresh, grants}
use Rattle.paging.specs.Uses.{Tables, tables_of, Decision, is_text, table_is_text, is_barred, window_stop, walks_text, marks_own, fault_code, by_walk, decided, usable, by_entry, page_uses, go_on, and_then, unready, made_ready, second_page, by_pages, by_window, uses, fetches}
use Rattle.step_mem.specs.Order.{Test, met_by, walk_tests, tests_by, page_tests, window_tests, second_tests, RangesInOrder, FetchesInOrder, directory_word, table_word}

-- ---- a fresh walk

-- the entry that was found, under three tests
found_met : (denied text own : Bool) (a b c d : Decision) → (cond denied a (cond text b (cond own c d))).met ≡ cond denied a.met
    (cond text b.met (cond own c.met d.met))
found_met true text own a b c d = refl
found_met false true own a b c d = refl
found_met false false true a b c d = refl
found_met false false false a b c d = refl

-- a walk, by what holds of the words: the directory is beyond memory, its word present, large, reserved, and leads beyond; the
-- table is beyond, its word present, and leads beyond
abbrev walk_by : (beyond present large reserved out table_out word_present word_out : Bool) → Entry → Entry → ℕ → ℕ → Walk
walk_by beyond present large reserved out table_out word_present word_out big small dir_at word_at =
    cond beyond Beyond (cond (not present) Absent (cond large (cond reserved Reserved (cond out Beyond (Found big dir_at dir_at)))
    (cond table_out Beyond (cond (not word_present) Absent (cond word_out Beyond (Found small dir_at word_at))))))

abbrev decided_by : Tables → Bool → Bool → ℕ → Access → Walk → Decision
decided_by s text fetch at access walk =
    cond text (record { met = Stop stops.TableInText; entry = None; ram = s.ram }) (by_walk s fetch at access walk)

abbrev tests_of : Tables → Bool → ℕ → ℕ → Access → ℕ → ℕ → ℕ → ℕ
    → (text beyond present large reserved table_text out table_out word_present word_out : Bool) → List Test
tests_of s fetch page at access dir word dir_at word_at text beyond present large reserved table_text out table_out word_present word_out =
    (text, Stop stops.TableInText)
    ∷ (beyond, Stop stops.BeyondRam)
    ∷ (present && (large && reserved), Stop stops.ControlBits)
    ∷ (present && (not large && table_text), Stop stops.TableInText)
    ∷ (present && cond large out (table_out || (word_present && word_out)), Stop stops.BeyondRam)
    ∷ (not present || (not large && not word_present), Fault (fault_code false access) at)
    ∷ (not (grants (cond large (large_entry page dir) (entry_of page dir word)) access s.wp), Fault (fault_code true access) at)
    ∷ (is_barred s.mode fetch access.user page (cond large (large_entry page dir) (entry_of page dir word)).frame, Stop stops.TextMapped)
    ∷ (marks_own s dir_at (cond large dir_at word_at) access.write, Stop stops.CodeIsTable)
    ∷ []

entry_met : (s : Tables) (fetch : Bool) (at : ℕ) (access : Access) (entry : Entry) (dir_at word_at : ℕ)
    → (by_walk s fetch at access (Found entry dir_at word_at)).met
    ≡ met_by ((not (grants entry access s.wp), Fault (fault_code true access) at) ∷ (
      is_barred s.mode fetch access.user entry.page
          entry.frame,
      Stop stops.TextMapped,
    ) ∷ (marks_own s dir_at word_at access.write, Stop stops.CodeIsTable) ∷ [])
entry_met s fetch at access entry dir_at word_at =
    found_met (not (grants entry access s.wp)) (is_barred s.mode fetch access.user entry.page entry.frame)
    (marks_own s dir_at word_at access.write) _ _ _ _

walk_met : (s : Tables) (fetch : Bool) (page at : ℕ) (access : Access) (dir word dir_at word_at : ℕ)
    (text beyond present large reserved table_text out table_out word_present word_out : Bool)
    → (decided_by s (text || (not beyond && (present && (not large && table_text)))) fetch at access
    (walk_by beyond present large reserved out table_out word_present word_out (large_entry page dir) (entry_of page dir word)
    dir_at word_at)).met
    ≡ met_by (tests_of s fetch page at access dir word dir_at word_at text beyond present large reserved table_text out table_out
    word_present word_out)
walk_met s fetch page at access dir word dir_at word_at true beyond present large reserved table_text out table_out word_present word_out =
    refl
walk_met s fetch page at access dir word dir_at word_at false true present large reserved table_text out table_out word_present word_out =
    refl
walk_met s fetch page at access dir word dir_at word_at false false false large reserved table_text out table_out word_present word_out =
    refl
walk_met s fetch page at access dir word dir_at word_at false false true true true table_text out table_out word_present word_out = refl
walk_met s fetch page at access dir word dir_at word_at false false true true false table_text true table_out word_present word_out = refl
walk_met s fetch page at access dir word dir_at word_at false false true true false table_text false table_out word_present word_out =
    entry_met s fetch at access (large_entry page dir) dir_at dir_at
walk_met s fetch page at access dir word dir_at word_at false false true false reserved true out table_out word_present word_out = refl
walk_met s fetch page at access dir word dir_at word_at false false true false reserved false out true word_present word_out = refl
walk_met s fetch page at access dir word dir_at word_at false false true false reserved false out false false word_out = refl
walk_met s fetch page at access dir word dir_at word_at false false true false reserved false out false true true = refl
walk_met s fetch page at access dir word dir_at word_at false false true false reserved false out false true false =
    entry_met s fetch at access (entry_of page dir word) dir_at word_at

in_memory : (a b : ℕ) → nat_lt a b ≡ not (nat_le b a)
in_memory a b = grind (arith, nat_tests)

walks_text_by : (s : Tables) (page : ℕ)
    → walks_text s page ≡ (is_text s.mode (s.cr3 / 4096)
    || (not (nat_le s.frames (s.cr3 / 4096)) && table_is_text s.mode s.pse (directory_word s page)))
unfolding walks_text
walks_text_by s page =
    ap (λ b. is_text s.mode (s.cr3 / 4096) || (b && table_is_text s.mode s.pse (directory_word s page))) (in_memory (s.cr3 / 4096) s.frames)

decided_met : (s : Tables) (fetch : Bool) (page at : ℕ) (access : Access)
    → (decided s fetch page at access).met ≡ met_by (walk_tests s fetch page at access)
unfolding decided fresh
decided_met s fetch page at access =
    let dir : ℕ = directory_word s page in
    let word : ℕ = table_word s page in
    ap (λ text. (decided_by s text fetch at access (fresh s.ram s.frames s.cr3 s.pse page)).met) (walks_text_by s page)
    ∙ walk_met s fetch page at access dir word (dir_place s.cr3 page) (word_place dir page)
    (is_text s.mode (s.cr3 / 4096)) (nat_le s.frames (s.cr3 / 4096)) (has dir 1) (is_large s.pse dir) (has_reserved dir)
    (is_text s.mode (dir / 4096))
    (nat_le s.frames (large_frame dir page)) (nat_le s.frames (dir / 4096)) (has word 1) (nat_le s.frames (word / 4096))

-- ---- a page

first_met : (b : Bool) (m : Touch) (s : Space) (o : Touch × Space) → (cond b (m, s) o).0 ≡ cond b m o.0
first_met true m s o = refl
first_met false m s o = refl

entry_by_met : (s : Space) (fetch : Bool) (page at : ℕ) (access : Access) (entry : Option Entry)
    → (by_entry (record s { pages = s.pages + 1; visited = s.visited ++ page ∷ [] }) fetch page at access entry).0 ≡ met_by
    (tests_by entry s fetch page at access)
entry_by_met s fetch page at access None = decided_met (tables_of s) fetch page at access
entry_by_met s fetch page at access (Some entry) =
    first_met (is_barred s.mode fetch access.user page entry.frame) (Stop stops.TextMapped) _ _

page_met : (s : Space) (fetch : Bool) (page at : ℕ) (access : Access)
    → (page_uses s fetch page at access).0 ≡ met_by (page_tests s fetch page at access)
unfolding page_uses
page_met s fetch page at access = entry_by_met s fetch page at access (usable (get s.set page) access s.wp)

-- ---- one list of tests after another

-- what is met, or where that is ready what is met next
abbrev next : Touch → Touch → Touch
next Ready m = m
next (Fault code at) m = Fault code at
next (Stop stop) m = Stop stop

next_ready : (m : Touch) → next m Ready ≡ m
next_ready Ready = refl
next_ready (Fault code at) = refl
next_ready (Stop stop) = refl

abbrev IsEnd : Touch → Type 0
IsEnd Ready = ⊥
IsEnd (Fault code at) = Unit {0}
IsEnd (Stop stop) = Unit {0}

abbrev AreEnds : List Test → Type 0
AreEnds [] = Unit {0}
AreEnds (t ∷ ts) = IsEnd t.1 × AreEnds ts

end_stays : (m n : Touch) → IsEnd m → m ≡ next m n
end_stays Ready n e = absurd e
end_stays (Fault code at) n e = refl
end_stays (Stop stop) n e = refl

one_more : (b : Bool) (m both first last : Touch) → IsEnd m → both ≡ next first last → cond b m both ≡ next (cond b m first) last
one_more true m both first last e h = end_stays m last e
one_more false m both first last e h = h

met_append : (ts us : List Test) → AreEnds ts → met_by (ts ++ us) ≡ next (met_by ts) (met_by us)
met_append [] us h = refl
met_append (t ∷ ts) us h = one_more t.0 t.1 (met_by (ts ++ us)) (met_by ts) (met_by us) h.0 (met_append ts us h.1)

page_ends : (s : Space) (fetch : Bool) (page at : ℕ) (access : Access) (entry : Option Entry)
    → AreEnds (tests_by entry s fetch page at access)
page_ends s fetch page at access None = (tt, (tt, (tt, (tt, (tt, (tt, (tt, (tt, (tt, tt)))))))))
page_ends s fetch page at access (Some entry) = (tt, tt)

go_on_met : (m : Touch) (s : Space) (f : Space → Touch × Space) → (go_on m s f).0 ≡ next m (f s).0
go_on_met Ready s f = refl
go_on_met (Fault code at) s f = refl
go_on_met (Stop stop) s f = refl

-- ---- a range

if_other : (same : Bool) (s : Space) (o : Touch × Space) (ts : List Test) → o.0 ≡ met_by ts
    → (cond same (Ready, s) o).0 ≡ met_by (cond same [] ts)
if_other true s o ts h = refl
if_other false s o ts h = h

second_met : (at len : ℕ) (access : Access) (s : Space) → (and_then (second_page at len access s) (made_ready at len access.write)).0
    ≡ met_by (second_tests s at len access)
second_met at len access s =
    let page : ℕ = (at + len - 1) / 4096 in
    go_on_met (second_page at len access s).0 (second_page at len access s).1 (made_ready at len access.write)
    ∙ (next_ready (second_page at len access s).0
    ∙ if_other (page == at / 4096) s _ (page_tests s false page (page * 4096) access) (page_met s false page (page * 4096) access))

pages_met : (at len : ℕ) (access : Access) (s : Space)
    → (by_pages at len access s).0 ≡ met_by
    (page_tests s false (at / 4096) at access ++ second_tests (page_uses s false (at / 4096) at access).1 at len access)
pages_met at len access s =
    let first : Touch × Space = page_uses s false (at / 4096) at access in
    let tests : List Test = page_tests s false (at / 4096) at access in
    go_on_met first.0 first.1 (λ t. and_then (second_page at len access t) (made_ready at len access.write))
    ∙ (ap (next first.0) (second_met at len access first.1)
    ∙ (ap (λ m. next m (met_by (second_tests first.1 at len access))) (page_met s false (at / 4096) at access)
    ∙ sym (met_append tests (second_tests first.1 at len access)
    (page_ends s false (at / 4096) at access (usable (get s.set (at / 4096)) access s.wp)))))

in_windows : (out text wedge : Bool) (at len : ℕ) (access : Access) (s : Space) (rest : Touch) → (by_pages at len access s).0 ≡ rest
    → (by_window (cond out None (cond text (Some stops.TextTouched) (cond wedge (Some stops.WedgeTouched) (Some stops.LowTouched)))) at len
    access s).0
    ≡ cond (not out && text) (Stop stops.TextTouched)
    (cond (not out && wedge) (Stop stops.WedgeTouched) (cond (not out) (Stop stops.LowTouched) rest))
in_windows true text wedge at len access s rest h = h
in_windows false true wedge at len access s rest h = refl
in_windows false false true at len access s rest h = refl
in_windows false false false at len access s rest h = refl

window_met : (mode : Mode) (at len : ℕ) (access : Access) (s : Space) (rest : List Test) → (by_pages at len access s).0 ≡ met_by rest
    → (by_window (window_stop mode access at) at len access s).0 ≡ met_by (window_tests mode access at ++ rest)
window_met Bare at len access s rest h = h
window_met (Wedge text count own) at len access s rest h =
    in_windows (access.user || nat_le 0x11000000 at) (nat_le 0x10000000 at) (nat_le 0x04000000 at && nat_lt at 0x06000000) at len
    access s (met_by rest) h

pub ranges_in_order : RangesInOrder
unfolding uses
ranges_in_order s at len access =
    first_met (nat_lt (2 ^ 32) (at + len)) (Stop stops.WrapAccess) (unready s)
    (by_window (window_stop s.mode access at) at len access (unready s))
    ∙ ap (cond (nat_lt (2 ^ 32) (at + len)) (Stop stops.WrapAccess))
    (window_met s.mode at len access (unready s)
    (page_tests (unready s) false (at / 4096) at access ++ second_tests (page_uses (unready s) false (at / 4096) at access).1 at len access)
    (pages_met at len access (unready s)))

pub fetches_in_order : FetchesInOrder
unfolding fetches
fetches_in_order s at len user =
    let access : Access = record { write = false; user = user } in
    let first : Touch × Space = page_uses (unready s) true (at / 4096) at access in
    go_on_met first.0 first.1 (made_ready at len false)
    ∙ (next_ready first.0 ∙ page_met (unready s) true (at / 4096) at access)
