-- Pages lead well over each access.
use Rattle.std.proofs.Common.{◌≡◌, ℕ, ◌+◌, ◌-◌, ◌*◌, ◌/◌, ◌^◌, ◌≤◌, List, [], ◌∷◌, ◌++◌, Bool, true, false, cond, not, ◌==◌, ◌&&◌, ◌||◌, Option, Some, None, zero, suc, refl, sym, ap, subst, ◌∙◌, ◌⊎◌, inl, inr, arith}
use Rattle.std.specs.Prelude.{nat_lt, nat_le}
use Rattle.std.proofs.lemmas.Bool.Decides.{nat_tests, eqb_tells}
use Rattle.std.specs.List.{Contains}
use Rattle.std.specs.Option.{ForSome}
use Rattle.std.specs.FinMap.{get, insert, remove, get-insert, get-remove}
use Rattle.std.specs.Cmp.{unsigned_tied}
use Rattle.std.proofs.lemmas.Cmp.{nat_cmp_total}
use Rattle.std.proofs.lemmas.List.Elements.{Contains-append_cases, Contains-append_left, Contains-append_right}
use Rattle.std.proofs.lemmas.Bool.{eq-eqb, ne_eqb}
use Rattle.ia32_types.specs.declared.stop.Stop as reason
use Rattle.ia32_types.specs.declared.stop.Stop.TheVariants as stops
use Rattle.paging.specs.declared.entry.Access.{Access}
use Rattle.paging.specs.declared.entry.Entry.{Entry}
use Rattle.paging.specs.declared.entry.Walk.{Walk}
use Rattle.paging.specs.declared.entry.Walk.TheVariants.{Absent, Beyond, Reserved, Found}
use Rattle.paging.specs.declared.entry.Touch.{Touch}
use Rattle.paging.specs.declared.entry.Touch.TheVariants.{Ready, Fault, Stop}
use Rattle.guest_ram.specs.Bytes.{word32}
use Rattle.paging.specs.Fresh.{has, is_large, has_reserved, large_frame, dir_place, by_word, by_large, by_table, fresh, grants, allows}
use Rattle.paging.specs.Space.{Mode, Bare, Wedge, Span, Earlier, Space}
use Rattle.paging.specs.Uses.{Tables, with_entry, tables_of, Decision, is_text, is_given, is_barred, window_stop, walks_text, marks_own, dirtied, by_walk, decided, settled, usable, by_entry, page_uses, go_on, and_then, unready, made_ready, second_page, by_pages, by_window, uses, fetches}
use Rattle.machine_model.specs.Run.{Set}
use Rattle.machine_model.specs.UsedPages.{may_use, LeadWell, Uses}

-- ---- memory that goes on

pub same_uses : (user : Bool) (s : Space) → Uses user s s
same_uses user s = record { rules = λ page frame. refl; visited = λ page c. c; others = λ page c. refl; lead = λ h. h }

pub uses_on : (user : Bool) (s t u : Space) → Uses user s t → Uses user t u → Uses user s u
uses_on user s t u h k = record {
  rules = λ page frame. k.rules page frame ∙ h.rules page frame;
  visited = λ page c. k.visited page (h.visited page c);
  others = λ page c. k.others page c ∙ h.others page (λ d. c (k.visited page d));
  lead = λ l. k.lead (h.lead l);
}

-- what isn't a translation changes none
pub beside : (user : Bool) (s : Space) (ram : List ℕ) (tables wrote : List ℕ) (ready : Span) (earlier : Earlier)
    → Uses user s (record s { ram = ram; tables = tables; wrote = wrote; ready = ready; earlier = earlier })
beside user s ram tables wrote ready earlier =
    record { rules = λ page frame. refl; visited = λ page c. c; others = λ page c. refl; lead = λ h. record { each = h.each } }

-- the instruction's own bytes are no rule of these
pub owning : (user : Bool) (s : Space) (mode : Mode) → ((page frame : ℕ) → may_use mode user page frame ≡ may_use s.mode user page frame)
    → Uses user s (record s { mode = mode })
owning user s mode same = record {
  rules = same;
  visited = λ page c. c;
  others = λ page c. refl;
  lead = λ h. record { each = λ page c e is. same page e.frame ∙ h.each page c e is };
}

-- ---- one page

-- this may be used at the page
abbrev Fits : Mode → Bool → ℕ → Option Entry → Type 0
Fits mode user page o = ForSome o (λ e. may_use mode user page e.frame ≡ true)

absent_fits : (mode : Mode) (user : Bool) (page : ℕ) → Fits mode user page None
absent_fits mode user page e is = absurd (let f : ◌≡◌ {A = Option Entry} None (Some e) = is in cc)

-- memory after the use of one page, whose translation is now this
record AfterPage (user : Bool) (s t : Space) (page : ℕ) : Type 0 where
  mode : t.mode ≡ s.mode
  visited : t.visited ≡ s.visited ++ page ∷ []
  others : (q : ℕ) → (q ≡ page → ⊥) → get t.set q ≡ get s.set q
  fits : Fits s.mode user page (get t.set page)

one_or : (visited : List ℕ) (page q : ℕ) → Contains (visited ++ page ∷ []) q → Contains visited q ⊎ (q ≡ page)
one_or visited page q h = elim (Contains-append_cases visited (page ∷ []) q h) [ inl a ↦ inl a | inr b ↦ inr (only b) ]
  where
    only : Contains (page ∷ []) q → q ≡ page
    only (zero, lt, e) = sym e
    only (suc k, lt, e) = absurd (omega (arith, lt))

page_is_one : (visited : List ℕ) (page : ℕ) → Contains (visited ++ page ∷ []) page
page_is_one visited page = Contains-append_right visited (page ∷ []) page (0, omega arith, refl)

page_uses_on : (user : Bool) (s t : Space) (page : ℕ) → AfterPage user s t page → Uses user s t
page_uses_on user s t page h = record {
  rules = λ q frame. ap (λ (m : Mode). may_use m user q frame) h.mode;
  visited = λ q c. subst (λ (l : List ℕ). Contains l q) (sym h.visited) (Contains-append_left s.visited (page ∷ []) q c);
  others =
      λ q c. h.others q (λ e. c
      (subst (λ (l : List ℕ). Contains l q) (sym h.visited)
      (subst (Contains (s.visited ++ page ∷ [])) (sym e) (page_is_one s.visited page))));
  lead = λ l. record { each = λ q c. each l q (eqb_tells q page) (subst (λ (w : List ℕ). Contains w q) h.visited c) };
}
  where
    at_mode : (q : ℕ) (o : Option Entry) → Fits s.mode user q o → Fits t.mode user q o
    at_mode q o k = subst (λ (m : Mode). Fits m user q o) (sym h.mode) k

    each : LeadWell user s → (q : ℕ) → (((q == page) ≡ true) × (q ≡ page)) ⊎ (((q == page) ≡ false) × (q ≡ page → ⊥))
        → Contains (s.visited ++ page ∷ []) q → Fits t.mode user q (get t.set q)
    each l q (inl here) c = subst (λ (p : ℕ). Fits t.mode user p (get t.set p)) (sym here.1) (at_mode page (get t.set page) h.fits)
    each l q (inr other) c =
        elim (one_or s.visited page q c) [
          | inl old ↦ subst (λ (o : Option Entry). Fits t.mode user q o) (sym (h.others q other.1)) (at_mode q (get s.set q) (l.each q old))
          | inr is ↦ absurd (other.1 is)
        ]

-- ---- the translation of one page in a set

inserted : (set : Set) (page q : ℕ) (e : Entry) → get (insert set page e) q ≡ cond (q == page) (Some e) (get set q)
inserted set page q e = get-insert nat_cmp_total set page e q ∙ ap (λ c. cond c (Some e) (get set q)) (unsigned_tied q page)

removed : (set : Set) (page q : ℕ) → get (remove set page) q ≡ cond (q == page) None (get set q)
removed set page q = get-remove nat_cmp_total set page q ∙ ap (λ c. cond c None (get set q)) (unsigned_tied q page)

pub there : (set : Set) (page : ℕ) (o : Option Entry) → get (with_entry set page o) page ≡ o
there set page None = removed set page page ∙ ap (λ c. cond c None (get set page)) (eq-eqb page page refl)
there set page (Some e) = inserted set page page e ∙ ap (λ c. cond c (Some e) (get set page)) (eq-eqb page page refl)

pub elsewhere : (set : Set) (page q : ℕ) (o : Option Entry) → (q ≡ page → ⊥) → get (with_entry set page o) q ≡ get set q
elsewhere set page q None ne = removed set page q ∙ ap (λ c. cond c None (get set q)) (ne_eqb q page ne)
elsewhere set page q (Some e) ne = inserted set page q e ∙ ap (λ c. cond c (Some e) (get set q)) (ne_eqb q page ne)

-- ---- a walk finds an entry of its page

abbrev IsOf : ℕ → Walk → Type 0
IsOf page Absent = Unit {0}
IsOf page Beyond = Unit {0}
IsOf page Reserved = Unit {0}
IsOf page (Found e d t) = e.page ≡ page

either_walk : (page : ℕ) (test : Bool) (a b : Walk) → IsOf page a → IsOf page b → IsOf page (cond test a b)
either_walk page true a b h k = h
either_walk page false a b h k = k

word_of : (frames cr3 page dir word : ℕ) → IsOf page (by_word frames cr3 page dir word)
word_of frames cr3 page dir word = either_walk page (not (has word 1)) _ _ tt (either_walk page (nat_le frames (word / 4096)) _ _ tt refl)

large_of : (frames cr3 page dir : ℕ) → IsOf page (by_large frames cr3 page dir)
large_of frames cr3 page dir =
    either_walk page (has_reserved dir) _ _ tt (either_walk page (nat_le frames (large_frame dir page)) _ _ tt refl)

table_of : (ram : List ℕ) (frames cr3 page dir : ℕ) → IsOf page (by_table ram frames cr3 page dir)
table_of ram frames cr3 page dir = either_walk page (nat_le frames (dir / 4096)) _ _ tt (word_of frames cr3 page dir _)

fresh_of : (ram : List ℕ) (frames cr3 : ℕ) (pse : Bool) (page : ℕ) → IsOf page (fresh ram frames cr3 pse page)
unfolding fresh
fresh_of ram frames cr3 pse page =
    let dir : ℕ = word32 ram (dir_place cr3 page) in
    either_walk page (nat_le frames (cr3 / 4096)) _ _ tt
    (either_walk page (not (has dir 1)) _ _ tt
    (either_walk page (is_large pse dir) _ _ (large_of frames cr3 page dir) (table_of ram frames cr3 page dir)))

pub found_page : (ram : List ℕ) (frames cr3 : ℕ) (pse : Bool) (page : ℕ) (e : Entry) (d t : ℕ)
    → fresh ram frames cr3 pse page ≡ Found e d t → e.page ≡ page
found_page ram frames cr3 pse page e d t is = subst (IsOf page) is (fresh_of ram frames cr3 pse page)

-- ---- what one page's use decides

-- what isn't barred there may be used
abbrev Lets : Mode → Bool → (fetch : Bool) → Access → ℕ → Type 0
Lets mode user fetch access page = (frame : ℕ) → is_barred mode fetch access.user page frame ≡ false → may_use mode user page frame ≡ true

either_fits : (mode : Mode) (user : Bool) (page : ℕ) (test : Bool) (a b : Decision) → (test ≡ true → Fits mode user page a.entry)
    → (test ≡ false → Fits mode user page b.entry) → Fits mode user page (cond test a b).entry
either_fits mode user page true a b h k = h refl
either_fits mode user page false a b h k = k refl

dirtied_fits : (mode : Mode) (user : Bool) (page : ℕ) (entry : Entry) (write : Bool) → may_use mode user page entry.frame ≡ true
    → Fits mode user page (Some (dirtied entry write))
dirtied_fits mode user page entry write h e is =
    let g : dirtied entry write ≡ e = cc in
    subst (λ (x : Entry). may_use mode user page x.frame ≡ true) g h

walk_fits : (s : Tables) (user : Bool) (fetch : Bool) (page at : ℕ) (access : Access) (w : Walk) → Lets s.mode user fetch access page
    → IsOf page w → Fits s.mode user page (by_walk s fetch at access w).entry
walk_fits s user fetch page at access Absent lets of = absent_fits s.mode user page
walk_fits s user fetch page at access Beyond lets of = absent_fits s.mode user page
walk_fits s user fetch page at access Reserved lets of = absent_fits s.mode user page
walk_fits s user fetch page at access (Found entry d t) lets of =
    let none = absent_fits s.mode user page in
    either_fits s.mode user page (not (grants entry access s.wp)) _ _ (λ e. none)
    (λ e. either_fits s.mode user page (is_barred s.mode fetch access.user entry.page entry.frame) _ _ (λ f. none)
    (λ f. either_fits s.mode user page (marks_own s d t access.write) _ _ (λ g. none)
    (λ g. dirtied_fits s.mode user page entry access.write
    (lets entry.frame (subst (λ (p : ℕ). is_barred s.mode fetch access.user p entry.frame ≡ false) of f)))))

decided_fits : (s : Tables) (user : Bool) (fetch : Bool) (page at : ℕ) (access : Access) → Lets s.mode user fetch access page
    → Fits s.mode user page (decided s fetch page at access).entry
unfolding decided
decided_fits s user fetch page at access lets =
    either_fits s.mode user page (walks_text s page) _ _ (λ e. absent_fits s.mode user page)
    (λ e. walk_fits s user fetch page at access (fresh s.ram s.frames s.cr3 s.pse page) lets (fresh_of s.ram s.frames s.cr3 s.pse page))

-- ---- the use of one page

-- what a touch leaves, where it doesn't stop
abbrev pub Met : Bool → Space → Touch → Space → Type 0
Met user s Ready t = Uses user s t
Met user s (Fault code at) t = Uses user s t
Met user s (Stop stop) t = Unit {0}

any_met : (user : Bool) (s t : Space) (met : Touch) → Uses user s t → Met user s met t
any_met user s t Ready h = h
any_met user s t (Fault code at) h = h
any_met user s t (Stop stop) h = tt

settled_after : (user : Bool) (s : Space) (page : ℕ) (d : Decision) → Fits s.mode user page d.entry
    → AfterPage user s (settled (record s { pages = s.pages + 1; visited = s.visited ++ page ∷ [] }) page d).1 page
settled_after user s page d h = record {
  mode = refl;
  visited = refl;
  others = λ q ne. elsewhere s.set page q d.entry ne;
  fits = subst (Fits s.mode user page) (sym (there s.set page d.entry)) h;
}

-- the entry that was found is used
found_after : (user : Bool) (s : Space) (page : ℕ) (entry : Entry) → get s.set page ≡ Some entry
    → may_use s.mode user page entry.frame ≡ true
    → AfterPage user s (record s { pages = s.pages + 1; visited = s.visited ++ page ∷ [] }) page
found_after user s page entry is may = record {
  mode = refl;
  visited = refl;
  others = λ q ne. refl;
  fits = λ e there. let g : entry ≡ e =
      same entry e (sym is ∙ there) in subst (λ (x : Entry). may_use s.mode user page x.frame ≡ true) g may;
}
  where
    same : (a b : Entry) → Some a ≡ Some b → a ≡ b
    same a b e = cc

by_test : (user : Bool) (s t : Space) (test : Bool) → (test ≡ false → Uses user s t)
    → Met user s (cond {A = Touch × Space} test (Stop stops.TextMapped, t) (Ready, t)).0
    (cond {A = Touch × Space} test (Stop stops.TextMapped, t) (Ready, t)).1
by_test user s t true h = tt
by_test user s t false h = h refl

-- an entry that is usable is the one that is there
usable_is : (o : Option Entry) (access : Access) (wp : Bool) (entry : Entry) → usable o access wp ≡ Some entry → o ≡ Some entry
usable_is None access wp entry is = is
usable_is (Some e) access wp entry is = by (allows e access wp) is
  where
    by : (t : Bool) → cond t (Some e) None ≡ Some entry → Some e ≡ Some entry
    by true h = h
    by false h = absurd (let f : ◌≡◌ {A = Option Entry} None (Some entry) = h in cc)

entry_met : (user : Bool) (s : Space) (fetch : Bool) (page at : ℕ) (access : Access) (o : Option Entry) → Lets s.mode user fetch access page
    → usable (get s.set page) access s.wp ≡ o
    → Met user s (by_entry (record s { pages = s.pages + 1; visited = s.visited ++ page ∷ [] }) fetch page at access o).0
    (by_entry (record s { pages = s.pages + 1; visited = s.visited ++ page ∷ [] }) fetch page at access o).1
entry_met user s fetch page at access None lets is =
    let seen : Space = record s { pages = s.pages + 1; visited = s.visited ++ page ∷ [] } in
    let d : Decision = decided (tables_of seen) fetch page at access in
    any_met user s (settled seen page d).1 d.met
    (page_uses_on user s (settled seen page d).1 page
    (settled_after user s page d (decided_fits (tables_of seen) user fetch page at access lets)))
entry_met user s fetch page at access (Some entry) lets is =
    let seen : Space = record s { pages = s.pages + 1; visited = s.visited ++ page ∷ [] } in
    by_test user s seen (is_barred s.mode fetch access.user page entry.frame)
    (λ free. page_uses_on user s seen page
    (found_after user s page entry (usable_is (get s.set page) access s.wp entry is) (lets entry.frame free)))

page_met : (user : Bool) (s : Space) (fetch : Bool) (page at : ℕ) (access : Access) → Lets s.mode user fetch access page
    → Met user s (page_uses s fetch page at access).0 (page_uses s fetch page at access).1
unfolding page_uses
page_met user s fetch page at access lets = entry_met user s fetch page at access (usable (get s.set page) access s.wp) lets refl

-- ---- the modes

fetch_lets : (mode : Mode) (user : Bool) (page : ℕ) → Lets mode user true (record { write = false; user = user }) page
fetch_lets mode true page frame e = ap not e
fetch_lets mode false page frame e = given_or (is_given mode page frame) _ e
  where
    given_or : (a b : Bool) → not a ≡ false → (a || b) ≡ true
    given_or true b e = refl
    given_or false b e = absurd (let f : true ≡ false = e in cc)

-- a page that data at level 0 may touch: any on the bare machine, and else one past the window
abbrev IsBehind : Mode → ℕ → Type 0
IsBehind Bare page = Unit {0}
IsBehind (Wedge text count own) page = nat_le 0x11000 page ≡ true

both_true : (a b c : Bool) → b ≡ true → c ≡ false → (a || (b && not c)) ≡ true
both_true true b c e f = refl
both_true false true false e f = refl
both_true false true true e f = absurd (let g : true ≡ false = f in cc)
both_true false false c e f = absurd (let g : false ≡ true = e in cc)

data_lets : (mode : Mode) (user : Bool) (access : Access) (page : ℕ) → (user ≡ false → IsBehind mode page)
    → Lets mode user false access page
data_lets mode true access page behind frame e = ap not e
data_lets Bare false access page behind frame e = refl
data_lets (Wedge text count own) false access page behind frame e =
    both_true (is_given (Wedge text count own) page frame) (nat_le 0x11000 page) (is_text (Wedge text count own) frame) (behind refl) e

-- ---- one range

going : (user : Bool) (s : Space) (met : Touch) (t : Space) (f : Space → Touch × Space) → Met user s met t
    → (Uses user s t → Met user t (f t).0 (f t).1) → Met user s (go_on met t f).0 (go_on met t f).1
going user s Ready t f h k = on user s t (f t).0 (f t).1 h (k h)
  where
    on : (user : Bool) (s t : Space) (met : Touch) (u : Space) → Uses user s t → Met user t met u → Met user s met u
    on user s t Ready u h k = uses_on user s t u h k
    on user s t (Fault code at) u h k = uses_on user s t u h k
    on user s t (Stop stop) u h k = tt
going user s (Fault code at) t f h k = h
going user s (Stop stop) t f h k = tt

met_on : (user : Bool) (s t : Space) (met : Touch) (u : Space) → Uses user s t → Met user t met u → Met user s met u
met_on user s t Ready u h k = uses_on user s t u h k
met_on user s t (Fault code at) u h k = uses_on user s t u h k
met_on user s t (Stop stop) u h k = tt

ready_met : (user : Bool) (at len : ℕ) (write : Bool) (s : Space) → Uses user s (made_ready at len write s).1
ready_met user at len write s = beside user s s.ram s.tables _ (record { start = at; len = len; write = write }) s.earlier

unready_uses : (user : Bool) (s : Space) → Uses user s (unready s)
unready_uses user s = beside user s s.ram s.tables s.wrote (record { start = 0; len = 0; write = false })
    (record { start = s.ready.start; len = s.ready.len; set = s.set })

choice : (user : Bool) (s : Space) (test : Bool) (a b : Touch × Space) → Met user s a.0 a.1 → Met user s b.0 b.1
    → Met user s (cond test a b).0 (cond test a b).1
choice user s true a b h k = h
choice user s false a b h k = k

-- data at level 0 may touch the pages of the range, under these rules or under those that hold later in the step
abbrev AreBehind : Bool → ℕ → ℕ → Space → Type 0
AreBehind user at len s = user ≡ false → (page : ℕ) → at / 4096 ≤ page → IsBehind s.mode page

-- the two modes are of one kind
kind_on : (s t : Space) (user : Bool) (page : ℕ) → s.mode ≡ t.mode → IsBehind s.mode page → IsBehind t.mode page
kind_on s t user page e h = subst (λ (m : Mode). IsBehind m page) e h

page_mode : (s : Space) (fetch : Bool) (page at : ℕ) (access : Access) → (page_uses s fetch page at access).1.mode ≡ s.mode
unfolding page_uses
page_mode s fetch page at access = by (usable (get s.set page) access s.wp)
  where
    by : (o : Option Entry)
        → (by_entry (record s { pages = s.pages + 1; visited = s.visited ++ page ∷ [] }) fetch page at access o).1.mode ≡ s.mode
    by None = refl
    by (Some entry) = at_test (is_barred s.mode fetch access.user page entry.frame)
      where
        at_test : (t : Bool) → (cond {A = Touch × Space} t
            (Stop stops.TextMapped, record s { pages = s.pages + 1; visited = s.visited ++ page ∷ [] })
            (Ready, record s { pages = s.pages + 1; visited = s.visited ++ page ∷ [] })).1.mode ≡ s.mode
        at_test true = refl
        at_test false = refl

second_met : (user : Bool) (at len : ℕ) (access : Access) (s : Space) → 1 ≤ len → AreBehind user at len s
    → Met user s (second_page at len access s).0 (second_page at len access s).1
second_met user at len access s some behind =
    choice user s ((at + len - 1) / 4096 == at / 4096) (Ready, s) _ (same_uses user s)
    (page_met user s false ((at + len - 1) / 4096) ((at + len - 1) / 4096 * 4096) access
    (data_lets s.mode user access ((at + len - 1) / 4096) (λ low. behind low ((at + len - 1) / 4096) (omega (arith, some)))))

pages_met : (user : Bool) (at len : ℕ) (access : Access) (s : Space) → 1 ≤ len → AreBehind user at len s
    → Met user s (by_pages at len access s).0 (by_pages at len access s).1
pages_met user at len access s some behind =
    let first : Touch × Space = page_uses s false (at / 4096) at access in
    let same = page_mode s false (at / 4096) at access in
    going user s first.0 first.1 (λ t. and_then (second_page at len access t) (made_ready at len access.write))
    (page_met user s false (at / 4096) at access (data_lets s.mode user access (at / 4096) (λ low. behind low (at / 4096) (omega arith))))
    (λ h. going user first.1 (second_page at len access first.1).0 (second_page at len access first.1).1 (made_ready at len access.write)
    (second_met user at len access first.1 some (λ low page above. kind_on s first.1 user page (sym same) (behind low page above)))
    (λ k. ready_met user at len access.write _))

page_far : (at page : ℕ) → nat_le 285212672 at ≡ true → at / 4096 ≤ page → nat_le 0x11000 page ≡ true
page_far at page g above = grind (arith, nat_tests)

-- the windows keep data at level 0 past the text
behind_window : (mode : Mode) (access : Access) (at : ℕ) → window_stop mode access at ≡ None → access.user ≡ false → (page : ℕ)
    → at / 4096 ≤ page → IsBehind mode page
behind_window Bare access at none low page above = tt
behind_window (Wedge text count own) access at none low page above = far (nat_le 285212672 at) refl
  where
    barred : (t : Bool) (a b c : reason.Stop) (u v : Bool)
        → cond (access.user || t) None (cond u (Some a) (cond v (Some b) (Some c))) ≡ None → t ≡ true
    barred true a b c u v e = refl
    barred false a b c u v e = absurd (by access.user low u v e)
      where
        by : (x : Bool) → x ≡ false → (u v : Bool) → cond (x || false) None (cond u (Some a) (cond v (Some b) (Some c))) ≡ None → ⊥
        by true l u v e = cc
        by false l true v e = let f : Some a ≡ None = e in cc
        by false l false true e = let f : Some b ≡ None = e in cc
        by false l false false e = let f : Some c ≡ None = e in cc

    far : (t : Bool) → nat_le 285212672 at ≡ t → nat_le 0x11000 page ≡ true
    far t is =
        let g : nat_le 285212672 at ≡ true = barred (nat_le 285212672 at) stops.TextTouched stops.WedgeTouched stops.LowTouched
        (nat_le 268435456 at) (nat_le 67108864 at && nat_lt at 100663296) none in
        page_far at page g above

window_met : (user : Bool) (w : Option reason.Stop) (at len : ℕ) (access : Access) (s : Space) → window_stop s.mode access at ≡ w
    → (user ≡ false → access.user ≡ false) → 1 ≤ len
    → Met user s (by_window w at len access s).0 (by_window w at len access s).1
window_met user None at len access s is level some =
    pages_met user at len access s some (λ low page above. behind_window s.mode access at is (level low) page above)
window_met user (Some stop) at len access s is level some = tt

pub uses_met : (user : Bool) (s : Space) (at len : ℕ) (access : Access) → (user ≡ false → access.user ≡ false) → 1 ≤ len
    → Met user s (uses s at len access).0 (uses s at len access).1
unfolding uses
uses_met user s at len access level some =
    choice user s (nat_lt (2 ^ 32) (at + len)) (Stop stops.WrapAccess, unready s) _ tt
    (met_on user s (unready s) _ _ (unready_uses user s)
    (window_met user (window_stop s.mode access at) at len access (unready s) refl level some))

pub fetches_met : (user : Bool) (s : Space) (at len : ℕ) → Met user s (fetches s at len user).0 (fetches s at len user).1
unfolding fetches
fetches_met user s at len =
    let access : Access = record { write = false; user = user } in
    let first : Touch × Space = page_uses (unready s) true (at / 4096) at access in
    going user s first.0 first.1 (made_ready at len false)
    (met_on user s (unready s) first.0 first.1 (unready_uses user s)
    (page_met user (unready s) true (at / 4096) at access (fetch_lets s.mode user (at / 4096))))
    (λ h. ready_met user at len false first.1)
