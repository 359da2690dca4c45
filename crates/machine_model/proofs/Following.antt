-- Memory follows over each access.
use Rattle.std.proofs.Common.{◌≡◌, ℕ, ◌+◌, ◌-◌, ◌*◌, ◌/◌, ◌%◌, ◌^◌, ◌<◌, ◌≤◌, List, [], ◌∷◌, ◌++◌, length, Bool, true, false, ◌&&◌, cond, not, ◌==◌, Option, Some, None, zero, suc, refl, sym, ap, subst, ◌∙◌, ◌⊎◌, inl, inr, arith}
use Rattle.std.specs.Prelude.{nat_le, nat_lt}
use Rattle.std.proofs.lemmas.Bool.Decides.{nat_tests}
use Rattle.std.specs.List.{Contains}
use Rattle.std.specs.FinMap.{get, insert, remove, get-insert, get-remove}
use Rattle.std.specs.Cmp.{unsigned_tied}
use Rattle.std.proofs.lemmas.Cmp.{nat_cmp_total}
use Rattle.std.proofs.lemmas.List.Elements.{Contains-append_left, Contains-append_right, Contains-push}
use Rattle.std.proofs.lemmas.Bool.{eqb-true, eqb-false, both_ways}
use Rattle.guest_ram.specs.Bytes as bytes
use Rattle.guest_ram.specs.Bytes.{word32}
use Rattle.guest_ram.proofs.Bytes.{word32-is}
use Rattle.ia32_types.specs.declared.size.Size.{Size}
use Rattle.ia32_types.specs.declared.size.Size.TheVariants.{Byte, Word, Long}
use Rattle.ia32_types.specs.declared.stop.Stop as reason
use Rattle.ia32_types.specs.declared.stop.Stop.TheVariants as stops
use Rattle.ia32_types.specs.Bytes.{size_in_bytes}
use Rattle.paging.specs.declared.entry.Access.{Access}
use Rattle.paging.specs.declared.entry.Entry.{Entry}
use Rattle.paging.specs.declared.entry.Walk.{Walk}
use Rattle.paging.specs.declared.entry.Walk.TheVariants.{Absent, Beyond, Reserved, Found}
use Rattle.paging.specs.declared.entry.Touch.{Touch}
use Rattle.paging.specs.declared.entry.Touch.TheVariants.{Ready, Fault, Stop}
use Rattle.paging.specs.Fresh.{fresh, has, is_large, dir_place, table_in, tables_read, grants, flagged}
use Rattle.paging.specs.Space.{Mode, Span, Earlier, Space, place, written, saved, frames_of}
use Rattle.paging.specs.Uses.{tables_of, Decision, is_barred, window_stop, walks_text, marks_own, dirtied, by_walk, decided, settled, usable, by_entry, page_uses, go_on, and_then, unready, made_ready, second_page, by_pages, by_window, uses, fetches}
use Rattle.machine_model.specs.Reloading.{MemoryFollows, IsFoundBy, HoldsOf, AreApart, Follows, FollowsItself, FollowsOn, FoundOver, AllFoundOver, UsesFollow, FetchesFollow}
use Rattle.machine_model.proofs.MoreFlags.{flags_by, long_with, byte_other, memory_same, memory_on, flagged_follows, flagged_other}
use Rattle.machine_model.proofs.FoundStill.{found_still, found_fresh, fresh_even, words_noted}

-- ---- membership as a test

among : ℕ → List ℕ → Bool
among f [] = false
among f (x ∷ xs) = cond (x == f) true (among f xs)

pub next_in : (x f : ℕ) (xs : List ℕ) → Contains xs f → Contains (x ∷ xs) f
next_in x f xs h = Contains-append_right (x ∷ []) xs f h

told_first : (x f : ℕ) (xs : List ℕ) (t : Bool) → (x == f) ≡ t → (among f xs ≡ true → Contains xs f) → cond t true (among f xs) ≡ true
    → Contains (x ∷ xs) f
told_first x f xs true is rest g = (0, omega arith, eqb-true x f is)
told_first x f xs false is rest g = next_in x f xs (rest g)

among_told : (f : ℕ) (xs : List ℕ) → among f xs ≡ true → Contains xs f
unfolding among
among_told f [] e = absurd (let g : false ≡ true = e in cc)
among_told f (x ∷ xs) e = told_first x f xs (x == f) refl (among_told f xs) e

skipped : (test rest : Bool) → rest ≡ true → cond test true rest ≡ true
skipped true rest e = refl
skipped false rest e = e

is_first : (x f : ℕ) (rest t : Bool) → (x == f) ≡ t → x ≡ f → cond t true rest ≡ true
is_first x f rest true is e = refl
is_first x f rest false is e = absurd (eqb-false x f is e)

among_is : (f : ℕ) (xs : List ℕ) → Contains xs f → among f xs ≡ true
unfolding among
among_is f [] h = absurd (let lt = h.1 in omega (arith, lt))
among_is f (x ∷ xs) (zero, lt, e) = is_first x f (among f xs) (x == f) refl e
among_is f (x ∷ xs) (suc k, lt, e) = skipped (x == f) (among f xs) (among_is f xs (k, omega (arith, lt), e))

-- ---- following

pub same_follows : FollowsItself
same_follows s = record {
  frames = refl;
  cr3 = refl;
  pse = refl;
  memory = memory_same s.wrote s.ram;
  wrote = λ frame c. c;
  tables = λ frame c. c;
  pages = λ page c. c;
  others = λ all at lt free clear. refl;
  low = λ frame c. inl c;
  each = λ room apart tables holds page small e is. inl is;
}

-- what is found stays, with further accesses
found_on : (t u : Space) → Follows t u → 4096 * t.frames ≤ length t.ram → AreApart u.tables u.wrote → (tables : ℕ → Bool)
    → HoldsOf tables u.tables → (page : ℕ) → page < 2 ^ 20 → (e : Entry)
    → IsFoundBy t.ram t.frames t.cr3 t.pse (λ f. among f t.tables) page e → IsFoundBy u.ram u.frames u.cr3 u.pse tables page e
found_on t u k room apart tables holds page small e found =
    let still : IsFoundBy u.ram t.frames t.cr3 t.pse (λ f. among f t.tables) page e =
    found_still t.ram u.ram t.frames t.cr3 t.pse (λ f. among f t.tables) page e room small
    (λ at even within m. k.memory.words at even within
    (λ c. apart (at / 4096) (k.tables (at / 4096) (among_told (at / 4096) t.tables m)) c)) found in
    let wide : IsFoundBy u.ram t.frames t.cr3 t.pse tables page e = record {
      dir_at = still.dir_at;
      word_at = still.word_at;
      dirty = still.dirty;
      found = still.found;
      accessed = still.accessed;
      is_dirty = still.is_dirty;
      words = (more (still.dir_at / 4096) still.words.0, more (still.word_at / 4096) still.words.1);
    } in
    subst (λ p. IsFoundBy u.ram u.frames u.cr3 p tables page e) (sym k.pse)
    (subst (λ c. IsFoundBy u.ram u.frames c t.pse tables page e) (sym k.cr3)
    (subst (λ n. IsFoundBy u.ram n t.cr3 t.pse tables page e) (sym k.frames) wide))
  where
    more : (f : ℕ) → among f t.tables ≡ true → tables f ≡ true
    more f m = holds f (k.tables f (among_told f t.tables m))

pub follows_on : FollowsOn
follows_on s t u h k = record {
  frames = k.frames ∙ h.frames;
  cr3 = k.cr3 ∙ h.cr3;
  pse = k.pse ∙ h.pse;
  memory = memory_on t.wrote u.wrote s.ram t.ram u.ram k.wrote h.memory k.memory;
  wrote = λ f c. k.wrote f (h.wrote f c);
  tables = λ f c. k.tables f (h.tables f c);
  pages = λ p c. k.pages p (h.pages p c);
  others = λ all at lt free clear.
      let long = h.memory.long in
      k.others all at (omega (arith, lt, long)) free clear
      ∙ h.others (λ p c. all p (k.pages p c)) at lt (λ c. free (k.wrote (at / 4096) c)) (λ c. clear (k.tables (at / 4096) c));
  low = λ f c. elim (k.low f c) [
    | inl old ↦ h.low f old
    | inr lt ↦ (let frames = h.frames in inr (omega (arith, lt, frames)))
  ];
  each = λ room apart tables holds page small e is.
      let long = h.memory.long in
      let frames = h.frames in
      let wide : 4096 * t.frames ≤ length t.ram = omega (arith, room, long, frames) in
      elim (k.each wide apart tables holds page small e is) [
        | inr found ↦ inr found
        | inl old ↦ elim (h.each room (λ f c d. apart f (k.tables f c) (k.wrote f d)) (λ f. among f t.tables)
            (λ f c. among_is f t.tables c) page small e old) [
              | inl older ↦ inl older
              | inr found ↦ inr (found_on t u k wide apart tables holds page small e found)
            ]
      ];
}

pub found_over : FoundOver
found_over s t cr3 pse tables page e k room none small found =
    found_still s.ram t.ram s.frames cr3 pse tables page e room small
    (λ at even within held. k.memory.words at even within (λ c. both_ways (tables (at / 4096)) (none (at / 4096) c) held)) found

-- the same, in the words of the later memory
found_later : (s t : Space) (tables : ℕ → Bool) (page : ℕ) (e : Entry) → Follows s t → IsFoundBy t.ram s.frames s.cr3 s.pse tables page e
    → IsFoundBy t.ram t.frames t.cr3 t.pse tables page e
found_later s t tables page e k found =
    subst (λ p. IsFoundBy t.ram t.frames t.cr3 p tables page e) (sym k.pse)
    (subst (λ c. IsFoundBy t.ram t.frames c s.pse tables page e) (sym k.cr3)
    (subst (λ n. IsFoundBy t.ram n s.cr3 s.pse tables page e) (sym k.frames) found))

pub all_found_over : AllFoundOver
all_found_over s t tables k room none holds all page small e is =
    elim (k.each room (λ frame c d. both_ways (tables frame) (none frame d) (holds frame c)) tables holds page small e is) [
      | inl old ↦ found_later s t tables page e k (found_over s t s.cr3 s.pse tables page e k room none small (all page small e old))
      | inr found ↦ found
    ]

-- what isn't memory changes nothing of it
pub aside : (s : Space) (mode : Mode) (pages : ℕ) (visited : List ℕ) (ready : Span) (earlier : Earlier)
    → ((page : ℕ) → Contains s.visited page → Contains visited page)
    → Follows s (record s { mode = mode; pages = pages; visited = visited; ready = ready; earlier = earlier })
aside s mode pages visited ready earlier more = record {
  frames = refl;
  cr3 = refl;
  pse = refl;
  memory = memory_same s.wrote s.ram;
  wrote = λ frame c. c;
  tables = λ frame c. c;
  pages = more;
  others = λ all at lt free clear. refl;
  low = λ frame c. inl c;
  each = λ room apart tables holds page small e is. inl is;
}

-- ---- one page

pub not_absent : (c : Bool) (o : Option Entry) (e : Entry) → cond c None o ≡ Some e → o ≡ Some e
not_absent true o e is = absurd (let f : ◌≡◌ {A = Option Entry} None (Some e) = is in cc)
not_absent false o e is = is

-- the frames that a walk reads as a directory or table are there
one_of : (x f : ℕ) → Contains (x ∷ []) f → x ≡ f
one_of x f (zero, lt, e) = e
one_of x f (suc k, lt, e) = absurd (omega (arith, lt))

table_low : (frames : ℕ) (pse : Bool) (dir f : ℕ) → Contains (table_in frames pse dir) f → f < frames
table_low frames pse dir f = by (has dir 1) (not (is_large pse dir)) (nat_lt (dir / 4096) frames) refl
  where
    by : (a b c : Bool) → nat_lt (dir / 4096) frames ≡ c → Contains (cond (a && (b && c)) (dir / 4096 ∷ []) []) f → f < frames
    by true true true e h = let same =
        one_of (dir / 4096) f h in let lt : dir / 4096 < frames = grind (arith, nat_tests, e) in omega (arith, same, lt)
    by true true false e h = absurd (let lt = h.1 in omega (arith, lt))
    by true false c e h = absurd (let lt = h.1 in omega (arith, lt))
    by false b c e h = absurd (let lt = h.1 in omega (arith, lt))

read_low : (ram : List ℕ) (frames cr3 : ℕ) (pse : Bool) (page f : ℕ) → Contains (tables_read ram frames cr3 pse page) f → f < frames
unfolding tables_read
read_low ram frames cr3 pse page f = by (nat_le frames (cr3 / 4096)) refl
  where
    rest : (k : ℕ) → Contains (cr3 / 4096 ∷ table_in frames pse (word32 ram (dir_place cr3 page))) f → cr3 / 4096 < frames → f < frames
    rest k (zero, lt, e) root = omega (arith, e, root)
    rest k (suc i, lt, e) root = table_low frames pse (word32 ram (dir_place cr3 page)) f (i, omega (arith, lt), e)

    by : (b : Bool) → nat_le frames (cr3 / 4096) ≡ b
        → Contains (cond b [] (cr3 / 4096 ∷ table_in frames pse (word32 ram (dir_place cr3 page)))) f → f < frames
    by true e h = absurd (let lt = h.1 in omega (arith, lt))
    by false e h = rest 0 h (grind (arith, nat_tests, e))

-- of those that were read, and more
more_low : (before read : List ℕ) (frames f : ℕ) → ((g : ℕ) → Contains read g → g < frames) → Contains (before ++ read) f
    → Contains before f ⊎ (f < frames)
more_low [] read frames f h c = inr (h f c)
more_low (x ∷ before) read frames f h (zero, lt, e) = inl (zero, omega arith, e)
more_low (x ∷ before) read frames f h (suc k, lt, e) =
    elim (more_low before read frames f h (k, omega (arith, lt), e))
    [ inl c ↦ inl (suc c.0, (let l = c.1 in omega (arith, l)), c.2) | inr l ↦ inr l ]

-- the entry of a page leaves the set
none_follows : (s : Space) (page : ℕ) (read : List ℕ) → ((f : ℕ) → Contains read f → f < s.frames)
    → Follows s (record s { set = remove s.set page; tables = s.tables ++ read })
none_follows s page read small = record {
  frames = refl;
  cr3 = refl;
  pse = refl;
  memory = memory_same s.wrote s.ram;
  wrote = λ frame c. c;
  tables = λ frame c. Contains-append_left s.tables read frame c;
  pages = λ page c. c;
  others = λ all at lt free clear. refl;
  low = λ frame c. more_low s.tables read s.frames frame small c;
  each = λ room apart tables holds q lt e is. inl (not_absent _ (get s.set q) e (sym (get-remove nat_cmp_total s.set page q) ∙ is));
}

one_or_other : (q page : ℕ) (new : Entry) (o : Option Entry) (e : Entry) → cond (q == page) (Some new) o ≡ Some e
    → ((q ≡ page) × (new ≡ e)) ⊎ (o ≡ Some e)
one_or_other q page new o e = by_test (q == page) refl
  where
    by_test : (t : Bool) → (q == page) ≡ t → cond t (Some new) o ≡ Some e → ((q ≡ page) × (new ≡ e)) ⊎ (o ≡ Some e)
    by_test true is h = inl (eqb-true q page is, (let g : new ≡ e = cc in g))
    by_test false is h = inr h

-- the entry of a fresh walk joins it
walk_follows : (s : Space) (page : ℕ) (e : Entry) (d t : ℕ) (write : Bool) → Contains s.visited page
    → fresh s.ram s.frames s.cr3 s.pse page ≡ Found e d t
    → Follows s (record s {
      ram = flagged s.ram d t write;
      set = insert s.set page (dirtied e write);
      tables = s.tables ++ tables_read s.ram s.frames s.cr3 s.pse page;
    })
walk_follows s page e d t write gone is =
    let even = fresh_even s.ram s.frames s.cr3 s.pse page e d t is in
    record {
      frames = refl;
      cr3 = refl;
      pse = refl;
      memory = flagged_follows s.ram d t write even.0 even.1 s.wrote;
      wrote = λ frame c. c;
      tables = λ frame c. Contains-append_left s.tables (tables_read s.ram s.frames s.cr3 s.pse page) frame c;
      pages = λ q c. c;
      others = λ all at lt free clear.
          let noted = words_noted s.ram s.frames s.cr3 s.pse page e d t (all page gone) is in
          flagged_other s.ram d t write even.0 even.1 at lt (λ g. clear (there at d g noted.0)) (λ g. clear (there at t g noted.1));
      low = λ frame c. more_low s.tables (tables_read s.ram s.frames s.cr3 s.pse page) s.frames frame
          (λ f h. read_low s.ram s.frames s.cr3 s.pse page f h) c;
      each = λ room apart tables holds q small found has.
          elim (one_or_other q page (dirtied e write) (get s.set q) found (got q ∙ has)) [
            | inr old ↦ inl old
            | inl here ↦ inr (subst (λ p. IsFoundBy (flagged s.ram d t write) s.frames s.cr3 s.pse tables p found) (sym here.0)
                (subst (λ (x : Entry). IsFoundBy (flagged s.ram d t write) s.frames s.cr3 s.pse tables page x) here.1
                (found_fresh s.ram s.frames s.cr3 s.pse tables page e d t write (subst (λ n. n < 2 ^ 20) here.0 small) room is
                (λ f c. holds f (Contains-append_right s.tables (tables_read s.ram s.frames s.cr3 s.pse page) f c)))))
          ];
    }
  where
    there : (at place : ℕ) → at ≡ place → Contains (tables_read s.ram s.frames s.cr3 s.pse page) (place / 4096)
        → Contains (s.tables ++ tables_read s.ram s.frames s.cr3 s.pse page) (at / 4096)
    there at place g c =
        Contains-append_right s.tables (tables_read s.ram s.frames s.cr3 s.pse page) (at / 4096)
        (subst (λ n. Contains (tables_read s.ram s.frames s.cr3 s.pse page) (n / 4096)) (sym g) c)

    got : (q : ℕ) → cond (q == page) (Some (dirtied e write)) (get s.set q) ≡ get (insert s.set page (dirtied e write)) q
    got q =
        sym (get-insert nat_cmp_total s.set page (dirtied e write) q ∙ ap (λ c. cond c (Some (dirtied e write)) (get s.set q))
        (unsigned_tied q page))

-- what a decision leaves
abbrev Decides : Space → ℕ → Decision → Type 0
Decides s page d = Follows s (settled s page d).1

either : (P : Decision → Type 0) (test : Bool) (a b : Decision) → P a → P b → P (cond test a b)
either P true a b h k = h
either P false a b h k = k

walk_decides : (s : Space) (fetch : Bool) (page at : ℕ) (access : Access) (w : Walk) → Contains s.visited page
    → fresh s.ram s.frames s.cr3 s.pse page ≡ w → Decides s page (by_walk (tables_of s) fetch at access w)
walk_decides s fetch page at access Absent gone is =
    none_follows s page (tables_read s.ram s.frames s.cr3 s.pse page) (λ f h. read_low s.ram s.frames s.cr3 s.pse page f h)
walk_decides s fetch page at access Beyond gone is =
    none_follows s page (tables_read s.ram s.frames s.cr3 s.pse page) (λ f h. read_low s.ram s.frames s.cr3 s.pse page f h)
walk_decides s fetch page at access Reserved gone is =
    none_follows s page (tables_read s.ram s.frames s.cr3 s.pse page) (λ f h. read_low s.ram s.frames s.cr3 s.pse page f h)
walk_decides s fetch page at access (Found entry d t) gone is =
    let none = none_follows s page (tables_read s.ram s.frames s.cr3 s.pse page) (λ f h. read_low s.ram s.frames s.cr3 s.pse page f h) in
    either (Decides s page) (not (grants entry access s.wp)) _ _ none
    (either (Decides s page) (is_barred s.mode fetch access.user entry.page entry.frame) _ _ none
    (either (Decides s page) (marks_own (tables_of s) d t access.write) _ _ none (walk_follows s page entry d t access.write gone is)))

decided_follows : (s : Space) (fetch : Bool) (page at : ℕ) (access : Access) → Contains s.visited page
    → Decides s page (decided (tables_of s) fetch page at access)
unfolding decided
decided_follows s fetch page at access gone =
    either (Decides s page) (walks_text (tables_of s) page) _ _
    (none_follows s page (tables_read s.ram s.frames s.cr3 s.pse page) (λ f h. read_low s.ram s.frames s.cr3 s.pse page f h))
    (walk_decides s fetch page at access (fresh s.ram s.frames s.cr3 s.pse page) gone refl)

-- either way memory is as it is
either_follows : (s u : Space) (test : Bool) (a b : Touch) → Follows s u → Follows s (cond {A = Touch × Space} test (a, u) (b, u)).1
either_follows s u true a b h = h
either_follows s u false a b h = h

entry_follows : (s : Space) (fetch : Bool) (page at : ℕ) (access : Access) (o : Option Entry) → Contains s.visited page
    → Follows s (by_entry s fetch page at access o).1
entry_follows s fetch page at access None gone = decided_follows s fetch page at access gone
entry_follows s fetch page at access (Some entry) gone =
    either_follows s s (is_barred s.mode fetch access.user page entry.frame) (Stop stops.TextMapped) Ready (same_follows s)

page_follows : (s : Space) (fetch : Bool) (page at : ℕ) (access : Access) → Follows s (page_uses s fetch page at access).1
unfolding page_uses
page_follows s fetch page at access =
    let seen : Space = record s { pages = s.pages + 1; visited = s.visited ++ page ∷ [] } in
    follows_on s seen _ (aside s s.mode (s.pages + 1) (s.visited ++ page ∷ []) s.ready s.earlier
    (λ p c. Contains-append_left s.visited (page ∷ []) p c))
    (entry_follows seen fetch page at access (usable (get s.set page) access s.wp) (Contains-push s.visited page))

-- ---- one range

going : (s : Space) (met : Touch) (t : Space) (f : Space → Touch × Space) → Follows s t → ((u : Space) → Follows u (f u).1)
    → Follows s (go_on met t f).1
going s Ready t f h k = follows_on s t (f t).1 h (k t)
going s (Fault code cr2) t f h k = h
going s (Stop stop) t f h k = h

then_follows : (s : Space) (p : Touch × Space) (f : Space → Touch × Space) → Follows s p.1 → ((u : Space) → Follows u (f u).1)
    → Follows s (and_then p f).1
then_follows s p f h k = going s p.0 p.1 f h k

unready_follows : (s : Space) → Follows s (unready s)
unready_follows s = aside s s.mode s.pages s.visited (record { start = 0; len = 0; write = false })
    (record { start = s.ready.start; len = s.ready.len; set = s.set }) (λ page c. c)

noted_more : (write : Bool) (wrote more : List ℕ) (frame : ℕ) → Contains wrote frame → Contains (cond write (wrote ++ more) wrote) frame
noted_more true wrote more frame h = Contains-append_left wrote more frame h
noted_more false wrote more frame h = h

ready_follows : (at len : ℕ) (write : Bool) (s : Space) → Follows s (made_ready at len write s).1
ready_follows at len write s = record {
  frames = refl;
  cr3 = refl;
  pse = refl;
  memory = memory_same _ s.ram;
  wrote = noted_more write s.wrote (frames_of s at len);
  tables = λ frame c. c;
  pages = λ page c. c;
  others = λ all byte lt free clear. refl;
  low = λ frame c. inl c;
  each = λ room apart tables holds page small e is. inl is;
}

choice : (s : Space) (test : Bool) (a b : Touch × Space) → Follows s a.1 → Follows s b.1 → Follows s (cond test a b).1
choice s true a b h k = h
choice s false a b h k = k

second_follows : (at len : ℕ) (access : Access) (s : Space) → Follows s (second_page at len access s).1
second_follows at len access s =
    choice s ((at + len - 1) / 4096 == at / 4096) _ _ (same_follows s)
    (page_follows s false ((at + len - 1) / 4096) ((at + len - 1) / 4096 * 4096) access)

pages_follow : (at len : ℕ) (access : Access) (s : Space) → Follows s (by_pages at len access s).1
pages_follow at len access s =
    then_follows s (page_uses s false (at / 4096) at access) (λ t. and_then (second_page at len access t) (made_ready at len access.write))
    (page_follows s false (at / 4096) at access)
    (λ t. then_follows t (second_page at len access t) (made_ready at len access.write) (second_follows at len access t)
    (ready_follows at len access.write))

window_follows : (w : Option reason.Stop) (at len : ℕ) (access : Access) (s : Space) → Follows s (by_window w at len access s).1
window_follows None at len access s = pages_follow at len access s
window_follows (Some stop) at len access s = same_follows s

pub uses_follow : UsesFollow
unfolding uses
uses_follow s at len access =
    choice s (nat_lt (2 ^ 32) (at + len)) _ _ (unready_follows s)
    (follows_on s (unready s) _ (unready_follows s) (window_follows (window_stop s.mode access at) at len access (unready s)))

pub fetches_follow : FetchesFollow
unfolding fetches
fetches_follow s at len user =
    then_follows s (page_uses (unready s) true (at / 4096) at (record { write = false; user = user })) (made_ready at len false)
    (follows_on s (unready s) _ (unready_follows s) (page_follows (unready s) true (at / 4096) at (record { write = false; user = user })))
    (ready_follows at len false)

-- ---- writes

-- memory that is the same outside the frames that were written
record Keeps (wrote : List ℕ) (x y : List ℕ) : Type 0 where
  long : length x ≤ length y
  bytes : (k : ℕ) → k < length x → (Contains wrote (k / 4096) → ⊥) → bytes.byte y k ≡ bytes.byte x k

kept_byte : (wrote : List ℕ) (x y : List ℕ) (p v : ℕ) → Contains wrote (p / 4096) → Keeps wrote x y → Keeps wrote x (bytes.with_byte y p v)
kept_byte wrote x y p v noted h =
    let long = h.long in
    let more = long_with y p v in
    record {
      long = omega (arith, long, more);
      bytes = λ k lt free. byte_other y p v k (omega (arith, lt, long)) (λ is. free (subst (λ n. Contains wrote (n / 4096)) (sym is) noted))
          ∙ h.bytes k lt free;
    }

kept_same : (wrote : List ℕ) (x : List ℕ) → Keeps wrote x x
kept_same wrote x = record { long = omega arith; bytes = λ k lt free. refl }

same_page : (at k : ℕ) → at % 4 ≡ 0 → k < 4 → (at + k) / 4096 ≡ at / 4096
same_page at k even lt = omega (arith, even, lt)

kept_follows : (wrote : List ℕ) (x y : List ℕ) → Keeps wrote x y → MemoryFollows wrote x y
kept_follows wrote x y h =
    record { long = h.long; words = λ at even room free. flags_by (word32 x at) (word32 y at) (same at even room free) }
  where
    one : (at k : ℕ) → at % 4 ≡ 0 → at + 4 ≤ length x → k < 4 → (Contains wrote (at / 4096) → ⊥)
        → bytes.byte y (at + k) ≡ bytes.byte x (at + k)
    one at k even room lt free = h.bytes (at + k) (omega (arith, room, lt)) (λ c. free (subst (Contains wrote) (same_page at k even lt) c))

    same : (at : ℕ) → at % 4 ≡ 0 → at + 4 ≤ length x → (Contains wrote (at / 4096) → ⊥) → word32 y at ≡ word32 x at
    same at even room free =
        let w = word32-is x at in
        let v = word32-is y at in
        let a = h.bytes at (omega (arith, room)) free in
        let b = one at 1 even room (omega arith) free in
        let c = one at 2 even room (omega arith) free in
        let d = one at 3 even room (omega arith) free in
        omega (arith, w, v, a, b, c, d)

-- the frame of a byte is noted as written
abbrev pub IsNoted : Space → ℕ → Type 0
IsNoted s byte = Contains s.wrote (place s byte / 4096)

first : (s : Space) (at n : ℕ) → 0 < n → ((k : ℕ) → k < n → IsNoted s (at + k)) → IsNoted s at
first s at n lt h = let e : at + 0 ≡ at = omega arith in subst (IsNoted s) e (h 0 lt)

saved_memory : (s : Space) (at : ℕ) (size : Size) (v : ℕ) → ((k : ℕ) → k < size_in_bytes size → IsNoted s (at + k))
    → Keeps s.wrote s.ram (written s at size v)
unfolding written
saved_memory s at Byte v h = kept_byte s.wrote s.ram s.ram (place s at) (v % 256) (first s at 1 (omega arith) h) (kept_same s.wrote s.ram)
saved_memory s at Word v h =
    kept_byte s.wrote s.ram _ (place s (at + 1)) (v / 256 % 256) (h 1 (omega arith))
    (kept_byte s.wrote s.ram s.ram (place s at) (v % 256) (first s at 2 (omega arith) h) (kept_same s.wrote s.ram))
saved_memory s at Long v h =
    kept_byte s.wrote s.ram _ (place s (at + 3)) (v / 16777216) (h 3 (omega arith))
    (kept_byte s.wrote s.ram _ (place s (at + 2)) (v / 65536 % 256) (h 2 (omega arith))
    (kept_byte s.wrote s.ram _ (place s (at + 1)) (v / 256 % 256) (h 1 (omega arith))
    (kept_byte s.wrote s.ram s.ram (place s at) (v % 256) (first s at 4 (omega arith) h) (kept_same s.wrote s.ram))))

-- a write where the frames of all its bytes are noted
pub saved_follows : (s : Space) (at : ℕ) (size : Size) (v : ℕ) → ((k : ℕ) → k < size_in_bytes size → IsNoted s (at + k))
    → Follows s (saved s at size v)
saved_follows s at size v h = record {
  frames = refl;
  cr3 = refl;
  pse = refl;
  memory = kept_follows s.wrote s.ram (written s at size v) (saved_memory s at size v h);
  wrote = λ frame c. c;
  tables = λ frame c. c;
  pages = λ page c. c;
  others = λ all byte lt free clear. (saved_memory s at size v h).bytes byte lt free;
  low = λ frame c. inl c;
  each = λ room apart tables holds page small e is. inl is;
}
