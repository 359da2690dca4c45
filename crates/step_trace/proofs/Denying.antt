-- A page that isn't ready is the last that was gone through, and has no translation.
use Rattle.std.proofs.Common.{◌≡◌, ◌⊎◌, inl, inr, ℕ, ◌+◌, ◌-◌, ◌*◌, ◌/◌, ◌≤◌, ◌<◌, ◌^◌, arith, Bool, true, false, cond, not, ◌==◌, List, [], ◌∷◌, ◌++◌, length, slice_get, Option, Some, None, is_none, nat_lt, refl, sym, ap, subst, ◌∙◌}
use Rattle.std.proofs.lemmas.Bool.{le-ltb}
use Rattle.std.proofs.lemmas.List.{length-append}
use Rattle.std.specs.FinMap.{get}
use Rattle.ia32_types.specs.declared.stop.Stop.TheVariants as stops
use Rattle.paging.specs.declared.entry.Access.{Access}
use Rattle.paging.specs.declared.entry.Entry.{Entry}
use Rattle.paging.specs.declared.entry.Walk.{Walk}
use Rattle.paging.specs.declared.entry.Walk.TheVariants.{Absent, Beyond, Reserved, Found}
use Rattle.paging.specs.declared.entry.Touch.{Touch}
use Rattle.paging.specs.declared.entry.Touch.TheVariants.{Ready, Fault, Stop}
use Rattle.paging.specs.Space.{Mode, Bare, Space}
use Rattle.paging.specs.Fresh.{fresh, grants, allows}
use Rattle.paging.specs.Uses.{Tables, tables_of, Decision, is_barred, walks_text, marks_own, by_walk, decided, settled, usable, by_entry, page_uses, go_on, and_then, unready, made_ready, second_page, by_pages, uses, fetches}
use Rattle.paging.proofs.WithEntry.{get_with_same}
use Rattle.machine_step.specs.Left.{if_unmapped, denied_page}
use Rattle.step_trace.specs.Denials.{ToldIn, ToldInOne, DenialsTell}

get_last : (xs : List ℕ) (y : ℕ) → slice_get (xs ++ y ∷ []) (length xs) ≡ Some y
get_last [] y = refl
get_last (x ∷ xs) y = get_last xs y

last_pushed : (xs : List ℕ) (y : ℕ) → slice_get (xs ++ y ∷ []) (length (xs ++ y ∷ []) - 1) ≡ Some y
last_pushed xs y =
    let k : length (xs ++ y ∷ []) - 1 ≡ length xs = omega (arith, length-append xs (y ∷ [])) in
    ap (slice_get (xs ++ y ∷ [])) k ∙ get_last xs y

-- the page that was gone through last, by its entry
abbrev if_none : Bool → ℕ → Option ℕ
if_none none page = cond none (Some page) None

last_page : (s : Space) (visited : List ℕ) (page : ℕ) (entry : Option Entry) → s.visited ≡ visited ++ page ∷ [] → get s.set page ≡ entry
    → denied_page s ≡ if_none (is_none entry) page
last_page s visited page entry e f =
    ap (λ (l : List ℕ). if_unmapped s.set (slice_get l (length l - 1))) e
    ∙ (ap (if_unmapped s.set) (last_pushed visited page)
    ∙ ap (λ (o : Option Entry). if_none (is_none o) page) f)

-- ---- what a walk decides

-- ready with an entry, or not ready with none
abbrev ToldBy : ℕ → Touch → Option Entry → Type 0
ToldBy at Ready entry = is_none entry ≡ false
ToldBy at (Fault code a) entry = (a ≡ at) × (is_none entry ≡ true)
ToldBy at (Stop stop) entry = is_none entry ≡ true

abbrev Fits : ℕ → Decision → Type 0
Fits at d = ToldBy at d.met d.entry

either_fits : (at : ℕ) (test : Bool) (a d : Decision) → Fits at a → Fits at d → Fits at (cond test a d)
either_fits at true a d h k = h
either_fits at false a d h k = k

walk_fits : (t : Tables) (fetch : Bool) (at : ℕ) (access : Access) (walk : Walk) → Fits at (by_walk t fetch at access walk)
walk_fits t fetch at access Absent = (refl, refl)
walk_fits t fetch at access Beyond = refl
walk_fits t fetch at access Reserved = refl
walk_fits t fetch at access (Found entry dir_at word_at) =
    either_fits at (not (grants entry access t.wp)) _ _ (refl, refl)
    (either_fits at (is_barred t.mode fetch access.user entry.page entry.frame) _ _ refl
    (either_fits at (marks_own t dir_at word_at access.write) _ _ refl refl))

decided_fits : (t : Tables) (fetch : Bool) (page at : ℕ) (access : Access) → Fits at (decided t fetch page at access)
unfolding decided
decided_fits t fetch page at access =
    either_fits at (walks_text t page) _ _ refl (walk_fits t fetch at access (fresh t.ram t.frames t.cr3 t.pse page))

-- ---- one page

abbrev PageTold : ℕ → ℕ → Touch → Space → Type 0
PageTold page at Ready s = (denied_page s ≡ None) × (s.mode ≡ Bare)
PageTold page at (Fault code a) s = (a ≡ at) × (denied_page s ≡ Some page)
PageTold page at (Stop stop) s = denied_page s ≡ Some page

abbrev PageAs : ℕ → ℕ → Touch × Space → Type 0
PageAs page at met = PageTold page at met.0 met.1

told_by : (page at : ℕ) (met : Touch) (entry : Option Entry) (s : Space) → denied_page s ≡ if_none (is_none entry) page → s.mode ≡ Bare
    → ToldBy at met entry → PageTold page at met s
told_by page at Ready entry s e m h = (e ∙ ap (λ (b : Bool). if_none b page) h, m)
told_by page at (Fault code a) entry s e m h = (h.0, e ∙ ap (λ (b : Bool). if_none b page) h.1)
told_by page at (Stop stop) entry s e m h = e ∙ ap (λ (b : Bool). if_none b page) h

settled_told : (s : Space) (visited : List ℕ) (page at : ℕ) (d : Decision) → s.visited ≡ visited ++ page ∷ [] → s.mode ≡ Bare → Fits at d
    → PageAs page at (settled s page d)
settled_told s visited page at d v m h =
    let t : Space = (settled s page d).1 in
    told_by page at d.met d.entry t (last_page t visited page d.entry v (get_with_same s.set page d.entry)) m h

bare_bars : (fetch user : Bool) (page frame : ℕ) → is_barred Bare fetch user page frame ≡ false
bare_bars true true page frame = refl
bare_bars true false page frame = refl
bare_bars false user page frame = refl

allowed_told : (s : Space) (visited : List ℕ) (fetch : Bool) (page at : ℕ) (access : Access) (entry : Entry) (allowed : Bool)
    → get s.set page ≡ Some entry → s.visited ≡ visited ++ page ∷ [] → s.mode ≡ Bare
    → PageAs page at (by_entry s fetch page at access (cond allowed (Some entry) None))
allowed_told s visited fetch page at access entry true e v m =
    let bars = ap (λ (k : Mode). is_barred k fetch access.user page entry.frame) m ∙ bare_bars fetch access.user page entry.frame in
    subst (λ (b : Bool). PageAs page at (cond b (Stop stops.TextMapped, s) (Ready, s))) (sym bars)
    (last_page s visited page (Some entry) v e, m)
allowed_told s visited fetch page at access entry false e v m =
    settled_told s visited page at (decided (tables_of s) fetch page at access) v m (decided_fits (tables_of s) fetch page at access)

entry_told : (s : Space) (visited : List ℕ) (fetch : Bool) (page at : ℕ) (access : Access) (found : Option Entry) → get s.set page ≡ found
    → s.visited ≡ visited ++ page ∷ [] → s.mode ≡ Bare
    → PageAs page at (by_entry s fetch page at access (usable found access s.wp))
entry_told s visited fetch page at access None e v m =
    settled_told s visited page at (decided (tables_of s) fetch page at access) v m (decided_fits (tables_of s) fetch page at access)
entry_told s visited fetch page at access (Some entry) e v m =
    allowed_told s visited fetch page at access entry (allows entry access s.wp) e v m

page_told : (s : Space) (fetch : Bool) (page at : ℕ) (access : Access) → s.mode ≡ Bare → PageAs page at (page_uses s fetch page at access)
unfolding page_uses
page_told s fetch page at access m =
    entry_told (record s { pages = s.pages + 1; visited = s.visited ++ page ∷ [] }) s.visited fetch page at access
    (get s.set page) refl refl m

-- ---- a fetch

fetch_then : (page at start len : ℕ) (met : Touch) (s : Space) → PageTold page at met s
    → ToldIn page (go_on met s (made_ready start len false)).0 (go_on met s (made_ready start len false)).1
fetch_then page at start len Ready s h = h.0
fetch_then page at start len (Fault code a) s h = h.1
fetch_then page at start len (Stop stop) s h = h

fetch_told : (s : Space) (at len : ℕ) (user : Bool) → s.mode ≡ Bare → ToldIn (at / 4096) (fetches s at len user).0 (fetches s at len user).1
unfolding fetches
fetch_told s at len user m =
    let access : Access = record { write = false; user = user } in
    let p = page_uses (unready s) true (at / 4096) at access in
    fetch_then (at / 4096) at at len p.0 p.1 (page_told (unready s) true (at / 4096) at access m)

-- ---- a range

abbrev RangeAs : ℕ → ℕ → Touch × Space → Type 0
RangeAs first last met = ToldInOne first last met.0 met.1

made_told : (first last at len : ℕ) (write : Bool) (met : Touch) (s : Space) → ToldInOne first last met s
    → RangeAs first last (go_on met s (made_ready at len write))
made_told first last at len write Ready s h = h
made_told first last at len write (Fault code a) s h = h
made_told first last at len write (Stop stop) s h = h

back : (page : ℕ) → page * 4096 / 4096 ≡ page
back page = omega arith

-- the second page by itself
last_told : (first last : ℕ) (met : Touch) (s : Space) → PageTold last (last * 4096) met s → ToldInOne first last met s
last_told first last Ready s h = h.0
last_told first last (Fault code a) s h = h.1 ∙ ap Some (sym (back last) ∙ ap (λ (n : ℕ). n / 4096) (sym h.0))
last_told first last (Stop stop) s h = inr h

if_second : (first last : ℕ) (access : Access) (test : Bool) (s : Space) → denied_page s ≡ None → s.mode ≡ Bare
    → RangeAs first last (cond test (Ready, s) (page_uses s false last (last * 4096) access))
if_second first last access true s h m = h
if_second first last access false s h m =
    let p = page_uses s false last (last * 4096) access in
    last_told first last p.0 p.1 (page_told s false last (last * 4096) access m)

first_then : (at len : ℕ) (access : Access) (met : Touch) (s : Space) → PageTold (at / 4096) at met s
    → RangeAs (at / 4096) ((at + len - 1) / 4096)
    (go_on met s (λ t. and_then (second_page at len access t) (made_ready at len access.write)))
first_then at len access Ready s h =
    let first = at / 4096 in
    let last = (at + len - 1) / 4096 in
    let second = second_page at len access s in
    made_told first last at len access.write second.0 second.1 (if_second first last access (last == first) s h.0 h.1)
first_then at len access (Fault code a) s h = h.1 ∙ ap (λ (n : ℕ). Some (n / 4096)) (sym h.0)
first_then at len access (Stop stop) s h = inl h

pages_told : (s : Space) (at len : ℕ) (access : Access) → s.mode ≡ Bare
    → RangeAs (at / 4096) ((at + len - 1) / 4096) (by_pages at len access s)
pages_told s at len access m =
    let p = page_uses s false (at / 4096) at access in
    first_then at len access p.0 p.1 (page_told s false (at / 4096) at access m)

not_past : (n : ℕ) → n ≤ 2 ^ 32 → nat_lt (2 ^ 32) n ≡ false
not_past n le = le-ltb _ _ le

range_bare : (s : Space) (at len : ℕ) (access : Access) → at + len ≤ 2 ^ 32
    → RangeAs (at / 4096) ((at + len - 1) / 4096) (uses (record s { mode = Bare }) at len access)
unfolding uses
range_bare s at len access le = rw (not_past (at + len) le) (pages_told (unready (record s { mode = Bare })) at len access refl)

range_told : (s : Space) (at len : ℕ) (access : Access) → s.mode ≡ Bare → at + len ≤ 2 ^ 32
    → RangeAs (at / 4096) ((at + len - 1) / 4096) (uses s at len access)
range_told s at len access m le =
    subst (λ (k : Mode). RangeAs (at / 4096) ((at + len - 1) / 4096) (uses (record s { mode = k }) at len access)) (sym m)
    (range_bare s at len access le)

pub denials_tell : DenialsTell
denials_tell = record { fetch = fetch_told; range = range_told }
