-- One page of a fetch: what a program sees of it is what the fetch finds, and what it sees, the fetch finds.
use Rattle.std.proofs.Common.{◌≡◌, ℕ, ◌+◌, ◌*◌, ◌/◌, ◌%◌, ◌^◌, ◌<◌, List, [], ◌∷◌, ◌++◌, Bool, true, false, cond, ◌&&◌, ◌||◌, not, ◌==◌, Option, Some, None, Ok, refl, sym, ap, subst, ◌∙◌, arith}
use Rattle.std.specs.List.{list_any}
use Rattle.std.specs.FinMap.{FinMap, get, insert, get-insert}
use Rattle.std.specs.Ordering.{nat_cmp}
use Rattle.std.specs.Cmp.{unsigned_tied}
use Rattle.std.proofs.lemmas.Cmp.{nat_cmp_total}
use Rattle.std.proofs.lemmas.Bool.{cond-true, cond-false, eq-eqb, or_parts, or_from}
use Rattle.guest_ram.specs.Bytes.{byte, part}
use Rattle.ia32_types.specs.declared.stop.Stop.TheVariants as stops
use Rattle.paging.specs.declared.entry.Access.{Access}
use Rattle.paging.specs.declared.entry.Entry.{Entry}
use Rattle.paging.specs.declared.entry.Touch.{Touch}
use Rattle.paging.specs.declared.entry.Touch.TheVariants.{Ready, Stop}
use Rattle.paging.specs.declared.entry.Walk.{Walk}
use Rattle.paging.specs.declared.entry.Walk.TheVariants.{Absent, Beyond, Reserved, Found}
use Rattle.paging.specs.Fresh.{has, fresh, tables_read, grants, flagged}
use Rattle.paging.specs.Space.{Mode, Space, place, place_by}
use Rattle.paging.specs.Uses.{tables_of, Decision, is_text, is_own, is_barred, marks_own, dirtied, decided, settled, usable, by_entry, page_uses, go_on, and_then, unready, made_ready, fetches}
use Rattle.machine_model.specs.State.{Setting, State}
use Rattle.machine_model.specs.Instruction.{bytes_fetched, fetching}
use Rattle.native_steps.specs.Looking.{marked, Seen, is_stopped, found_by, seen_by, bytes_seen}
use Rattle.native_steps.proofs.Walks.{walk_parts, page_is as page_of_walk}
use Rattle.native_steps.proofs.Walking.{decided_readied, usable_parts}
use Rattle.native_steps.proofs.TextWalks.{reads_text, decided_clear, decided_ready}
use Rattle.native_steps.proofs.Through.{on_ready, pair, taken_parts}

-- what decides where a page is
pub record Look : Type 0 where
  pub ram : List ℕ
  pub set : FinMap nat_cmp Entry
  pub frames : ℕ
  pub cr3 : ℕ
  pub pse : Bool
  pub wp : Bool

abbrev pub look : Space → Look
look s = record { ram = s.ram; set = s.set; frames = s.frames; cr3 = s.cr3; pse = s.pse; wp = s.wp }

abbrev pub seen_in : Mode → Look → Access → ℕ → Option Seen
seen_in mode s access page = seen_by mode page (usable (get s.set page) access s.wp) access s.wp (fresh s.ram s.frames s.cr3 s.pse page)

-- one of the instruction's own bytes is among these, and its accessed flag is clear
abbrev pub marks_any : Mode → List ℕ → List ℕ → Bool
marks_any mode ram marks = list_any (λ at. is_own mode at && not (has (byte ram at) 32)) marks

pub record PageSeen (mode : Mode) (access : Access) (s t : Look) (page : ℕ) : Type 0 where
  pub x : Seen
  pub is : seen_in mode s access page ≡ Some x
  pub own : marks_any mode s.ram x.marks ≡ false
  pub ram : t.ram ≡ marked s.ram x.marks
  pub entry : Entry
  pub kept : get t.set page ≡ Some entry
  pub frame_is : entry.frame ≡ x.frame
  pub others : (q : ℕ) → (q == page) ≡ false → get t.set q ≡ get s.set q
  pub frames : t.frames ≡ s.frames
  pub cr3 : t.cr3 ≡ s.cr3
  pub pse : t.pse ≡ s.pse
  pub wp : t.wp ≡ s.wp

two_marks : (p c d : Bool) → (p || (c && (d || false))) ≡ (p || ((c && d) || false))
two_marks true c d = refl
two_marks false true d = refl
two_marks false false d = refl

own_marks : (s : Space) (d t : ℕ) → marks_own (tables_of s) d t false ≡ marks_any s.mode s.ram (d ∷ t ∷ [])
unfolding marks_own
own_marks s d t = two_marks (is_own s.mode d && not (has (byte s.ram d) 32)) (is_own s.mode t) (not (has (byte s.ram t) 32))

module _ (user : Bool) (s : Space) (page at : ℕ) (small : page < 2 ^ 20) where
  abbrev reading : Access
  reading = record { write = false; user = user }

  abbrev seen_now : Space
  seen_now = record s { pages = s.pages + 1; visited = s.visited ++ page ∷ [] }

  abbrev barred : ℕ → Bool
  barred frame = is_barred s.mode true user page frame

  -- a walk lets the fetch pass where it finds, grants, and nothing stops it
  record IsPassed (e : Entry) (d t : ℕ) : Type 0 where
    granted : grants e reading s.wp ≡ true
    free : is_stopped s.mode reading page e.frame d t ≡ false

  found_where_allowed : (e : Entry) (d t : ℕ) → IsPassed e d t → found_by s.mode page reading s.wp (Found e d t) ≡ Some
      (record { frame = e.frame; marks = d ∷ t ∷ [] })
  found_where_allowed e d t h =
      let x : Option Seen = Some (record { frame = e.frame; marks = d ∷ t ∷ [] }) in
      cond-false (not (grants e reading s.wp)) None (cond (is_stopped s.mode reading page e.frame d t) None x) (ap not h.granted)
      ∙ cond-false (is_stopped s.mode reading page e.frame d t) None x h.free

  module _ (t : Space) where
    by_kept : (e : Entry) → usable (get s.set page) reading s.wp ≡ Some e → by_entry seen_now true page at reading (Some e) ≡ (Ready, t)
        → PageSeen s.mode reading (look s) (look t) page
    by_kept e found h = choice (barred e.frame) refl h
      where
        choice : (text : Bool) → barred e.frame ≡ text → cond {A = Touch × Space} text (Stop stops.TextMapped, seen_now) (Ready, seen_now)
            ≡ (Ready, t) → PageSeen s.mode reading (look s) (look t) page
        choice true bar y = absurd (let g : Stop stops.TextMapped ≡ Ready = ap (λ (o : Touch × Space). o.0) y in cc)
        choice false bar y =
            subst (λ (z : Space). PageSeen s.mode reading (look s) (look z) page) (ap (λ (o : Touch × Space). o.1) y) (record {
              x = record { frame = e.frame; marks = [] };
              is =
                  ap (λ (o : Option Entry). seen_by s.mode page o reading s.wp (fresh s.ram s.frames s.cr3 s.pse page)) found
                  ∙ cond-false (barred e.frame) None (Some (record { frame = e.frame; marks = [] })) bar;
              own = refl;
              ram = refl;
              entry = e;
              kept = (usable_parts (get s.set page) reading s.wp e found).0;
              frame_is = refl;
              others = λ q other. refl;
              frames = refl;
              cr3 = refl;
              pse = refl;
              wp = refl;
            })

    by_fresh : usable (get s.set page) reading s.wp ≡ None → settled seen_now page (decided (tables_of s) true page at reading) ≡ (Ready, t)
        → PageSeen s.mode reading (look s) (look t) page
    unfolding flagged
    by_fresh none h =
        let met : (decided (tables_of s) true page at reading).met ≡ Ready = ap (λ (o : Touch × Space). o.0) h in
        let r = decided_readied (tables_of s) true page at reading met in
        let entry : Entry = dirtied r.entry false in
        let got : (q : ℕ) → get (insert s.set page entry) q ≡ cond (q == page) (Some entry) (get s.set q) = λ q.
        get-insert nat_cmp_total s.set page entry q ∙ ap (λ c. cond c (Some entry) (get s.set q)) (unsigned_tied q page) in
        let built : Space = record seen_now {
          ram = flagged s.ram r.dir_at r.word_at false;
          set = insert s.set page entry;
          tables = s.tables ++ tables_read s.ram s.frames s.cr3 s.pse page;
        } in
        let end : built ≡ t = sym (ap (λ (d : Decision). (settled seen_now page d).1) r.is) ∙ ap (λ (o : Touch × Space). o.1) h in
        let page_is : r.entry.page ≡ page = page_of_walk s.ram s.frames s.cr3 s.pse page r.entry r.dir_at r.word_at
        (walk_parts s.ram s.frames s.cr3 s.pse page r.entry r.dir_at r.word_at r.found) in
        let free : barred r.entry.frame ≡ false = ap (λ n. is_barred s.mode true user n r.entry.frame) (sym page_is) ∙ r.free in
        let clear : (is_text s.mode (r.dir_at / 4096) || is_text s.mode (r.word_at / 4096)) ≡ false =
        sym (reads_text (tables_of s) page r.entry r.dir_at r.word_at small r.found)
        ∙ decided_clear (tables_of s) true page at reading met in
        subst (λ (z : Space). PageSeen s.mode reading (look s) (look z) page) end (record {
          x = record { frame = r.entry.frame; marks = r.dir_at ∷ r.word_at ∷ [] };
          is =
              ap (λ (o : Option Entry). seen_by s.mode page o reading s.wp (fresh s.ram s.frames s.cr3 s.pse page)) none
              ∙ ap (found_by s.mode page reading s.wp) r.found
              ∙ found_where_allowed r.entry r.dir_at r.word_at
              (record { granted = r.granted; free = or_from (barred r.entry.frame) _ free clear });
          own = sym (own_marks s r.dir_at r.word_at) ∙ r.own;
          ram = refl;
          entry = entry;
          kept = got page ∙ cond-true (page == page) (Some entry) (get s.set page) (eq-eqb page page refl);
          frame_is = refl;
          others = λ q other. got q ∙ cond-false (q == page) (Some entry) (get s.set q) other;
          frames = refl;
          cr3 = refl;
          pse = refl;
          wp = refl;
        })

    page_seen : page_uses s true page at reading ≡ (Ready, t) → PageSeen s.mode reading (look s) (look t) page
    unfolding page_uses
    page_seen h = by_usable (usable (get s.set page) reading s.wp) refl h
      where
        by_usable : (o : Option Entry) → usable (get s.set page) reading s.wp ≡ o → by_entry seen_now true page at reading o ≡ (Ready, t)
            → PageSeen s.mode reading (look s) (look t) page
        by_usable (Some e) is g = by_kept e is g
        by_usable None is g = by_fresh is g

  -- ---- and what is seen, the fetch finds

  record IsFoundSeen (x : Seen) (e : Entry) (d t : ℕ) : Type 0 where
    passes : IsPassed e d t
    marks : d ∷ t ∷ [] ≡ x.marks

  found_parts : (x : Seen) (e : Entry) (d t : ℕ) → found_by s.mode page reading s.wp (Found e d t) ≡ Some x → IsFoundSeen x e d t
  found_parts x e d t h = by_grant (grants e reading s.wp) refl h
    where
      by_stop : grants e reading s.wp ≡ true → (c : Bool) → is_stopped s.mode reading page e.frame d t ≡ c
          → cond {A = Option Seen} c None (Some (record { frame = e.frame; marks = d ∷ t ∷ [] })) ≡ Some x → IsFoundSeen x e d t
      by_stop g true is f = absurd cc
      by_stop g false is f = let same : record { frame = e.frame; marks = d ∷ t ∷ [] } ≡ x =
          cc in record { passes = record { granted = g; free = is }; marks = ap (λ (y : Seen). y.marks) same }

      by_grant : (g : Bool) → grants e reading s.wp ≡ g
          → cond {A = Option Seen} (not g) None
          (cond (is_stopped s.mode reading page e.frame d t) None (Some (record { frame = e.frame; marks = d ∷ t ∷ [] }))) ≡ Some x
          → IsFoundSeen x e d t
      by_grant false g f = absurd cc
      by_grant true g f = by_stop g (is_stopped s.mode reading page e.frame d t) refl f

  fresh_found : (x : Seen) → found_by s.mode page reading s.wp (fresh s.ram s.frames s.cr3 s.pse page) ≡ Some x
      → marks_any s.mode s.ram x.marks ≡ false → (decided (tables_of s) true page at reading).met ≡ Ready
  fresh_found x h own = by_walk (fresh s.ram s.frames s.cr3 s.pse page) refl h
    where
      by_walk : (w : Walk) → fresh s.ram s.frames s.cr3 s.pse page ≡ w → found_by s.mode page reading s.wp w ≡ Some x
          → (decided (tables_of s) true page at reading).met ≡ Ready
      by_walk Absent is g = absurd cc
      by_walk Beyond is g = absurd cc
      by_walk Reserved is g = absurd cc
      by_walk (Found e d t) is g =
          let p = found_parts x e d t g in
          let two = or_parts (barred e.frame) (is_text s.mode (d / 4096) || is_text s.mode (t / 4096)) p.passes.free in
          let page_is : e.page ≡ page =
          page_of_walk s.ram s.frames s.cr3 s.pse page e d t (walk_parts s.ram s.frames s.cr3 s.pse page e d t is) in
          decided_ready (tables_of s) true page at reading e d t (reads_text (tables_of s) page e d t small is ∙ two.1) is p.passes.granted
          (ap (λ n. is_barred s.mode true user n e.frame) page_is ∙ two.0) (own_marks s d t ∙ ap (marks_any s.mode s.ram) p.marks ∙ own)

  page_found : (x : Seen) → seen_in s.mode (look s) reading page ≡ Some x → marks_any s.mode s.ram x.marks ≡ false
      → (page_uses s true page at reading).0 ≡ Ready
  unfolding page_uses
  page_found x h own = by_usable (usable (get s.set page) reading s.wp) h
    where
      by_bar : (e : Entry) (c : Bool) → cond {A = Option Seen} c None (Some (record { frame = e.frame; marks = [] })) ≡ Some x
          → (cond {A = Touch × Space} c (Stop stops.TextMapped, seen_now) (Ready, seen_now)).0 ≡ Ready
      by_bar e true f = absurd cc
      by_bar e false f = refl

      by_usable : (o : Option Entry) → seen_by s.mode page o reading s.wp (fresh s.ram s.frames s.cr3 s.pse page) ≡ Some x
          → (by_entry seen_now true page at reading o).0 ≡ Ready
      by_usable (Some e) g = by_bar e (barred e.frame) g
      by_usable None g = fresh_found x g own

pub record FetchSeen (user : Bool) (s t : Space) (at len : ℕ) (bytes : List ℕ) : Type 0 where
  pub page : PageSeen s.mode (record { write = false; user = user }) (look s) (look t) (at / 4096)
  pub bytes_are : bytes ≡ bytes_seen (marked s.ram page.x.marks) page.x at len

-- a fetch of bytes of one page that passes
pub record FetchFound (user : Bool) (s : Space) (at len : ℕ) : Type 0 where
  pub bytes : List ℕ
  pub after : Space
  pub reads : fetching user at len s ≡ Ok (bytes, after)

module _ (m : Setting) (b : State) (kernel : Bool) where
  pub fetch_seen : (s t : Space) (at len : ℕ) (bytes : List ℕ) → at / 4096 < 2 ^ 20 → fetching (not kernel) at len s ≡ Ok (bytes, t)
      → FetchSeen (not kernel) s t at len bytes
  unfolding fetching fetches place
  fetch_seen s t at len bytes small e =
      let access : Access = record { write = false; user = not kernel } in
      let p = taken_parts m b kernel at len (fetches s at len (not kernel)).0 (fetches s at len (not kernel)).1 bytes t e in
      let o : Touch × Space = page_uses (unready s) true (at / 4096) at access in
      let whole : and_then o (made_ready at len false) ≡ (Ready, t) =
      pair m b kernel (fetches s at len (not kernel)) p.0 ∙ ap (λ (x : Space). (Ready, x)) p.1.1 in
      let q = on_ready m b kernel o (made_ready at len false) t whole in
      let h : PageSeen s.mode access (look s) (look o.1) (at / 4096) =
      page_seen (not kernel) (unready s) (at / 4096) at small o.1 (pair m b kernel o q.0) in
      let left : record o.1 { ready = record { start = at; len = len; write = false } } ≡ t = ap (λ (x : Touch × Space). x.1) q.1 in
      let same : look o.1 ≡ look t = ap look left in
      let page : PageSeen s.mode access (look s) (look t) (at / 4096) =
      subst (λ (z : Look). PageSeen s.mode access (look s) z (at / 4096)) same h in
      let frame = page.frame_is in
      let sum : page.entry.frame * 4096 + at % 4096 ≡ 4096 * page.x.frame + at % 4096 = omega (arith, frame) in
      record {
        page = page;
        bytes_are =
            sym p.1.0
            ∙ ap (λ (z : Space). part z.ram (place_by (get z.set (at / 4096)) at) len) p.1.1
            ∙ ap (λ (x : List ℕ). part x (place_by (get t.set (at / 4096)) at) len) page.ram
            ∙ ap (λ (n : Option Entry). part (marked s.ram page.x.marks) (place_by n at) len) page.kept
            ∙ ap (λ (n : ℕ). part (marked s.ram page.x.marks) n len) sum;
      }

  pub fetch_found : (s : Space) (at len : ℕ) (x : Seen) → at / 4096 < 2 ^ 20
      → seen_in s.mode (look s) (record { write = false; user = not kernel }) (at / 4096) ≡ Some x → marks_any s.mode s.ram x.marks ≡ false
      → FetchFound (not kernel) s at len
  unfolding fetching fetches
  fetch_found s at len x small h own =
      let o : Touch × Space = page_uses (unready s) true (at / 4096) at (record { write = false; user = not kernel }) in
      let there : o.0 ≡ Ready = page_found (not kernel) (unready s) (at / 4096) at small x h own in
      let t : Space = (made_ready at len false o.1).1 in
      let ready : and_then o (made_ready at len false) ≡ (Ready, t) = ap (λ (z : Touch). go_on z o.1 (made_ready at len false)) there in
      record { bytes = part t.ram (place t at) len; after = t; reads = ap (λ (z : Touch × Space). bytes_fetched at len z.0 z.1) ready }
