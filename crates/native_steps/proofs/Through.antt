-- The fetch and the ranges of a step, page by page, where the step doesn't clash.
use Rattle.std.proofs.Common.{◌≡◌, ℕ, suc, ◌+◌, ◌-◌, ◌*◌, ◌/◌, ◌%◌, ◌^◌, ◌<◌, ◌≤◌, List, [], ◌∷◌, ◌++◌, length, Bool, true, false, cond, not, ◌==◌, Option, None, Ok, refl, sym, ap, subst, ◌∙◌, ◌⊎◌, inl, inr, arith}
use Rattle.std.specs.Prelude.{nat_lt}
use Rattle.std.specs.List.{Contains}
use Rattle.std.specs.FinMap.{FinMap}
use Rattle.std.specs.Ordering.{nat_cmp}
use Rattle.std.proofs.lemmas.Bool.{cond-false, le-ltb, eqb-true}
use Rattle.descriptors.specs.Controls.{wp_of}
use Rattle.guest_ram.specs.Bytes.{AreBytes, byte, part}
use Rattle.ia32_types.specs.declared.stop.Stop as reason
use Rattle.ia32_types.specs.declared.stop.Stop.TheVariants as stops
use Rattle.paging.specs.declared.entry.Access.{Access}
use Rattle.paging.specs.declared.entry.Entry.{Entry}
use Rattle.paging.specs.declared.entry.Touch.{Touch}
use Rattle.paging.specs.declared.entry.Touch.TheVariants.{Ready, Fault, Stop}
use Rattle.paging.specs.Space.{Mode, Wedge, Own, Space, place, place_by}
use Rattle.paging.specs.Uses.{is_own, window_stop, page_uses, go_on, and_then, unready, made_ready, second_page, by_pages, by_window, uses, fetches}
use Rattle.sys_exec.specs.Access.{reaching}
use Rattle.image_load.specs.Boot.{text_pages}
use Rattle.machine_model.specs.State.{Setting, State}
use Rattle.machine_model.specs.Instruction.{bytes_fetched, fetching}
use Rattle.native_steps.proofs.Clear.{Use, AreClear}
use Rattle.native_steps.proofs.Pages.{HasEntry, IsFree}
use Rattle.native_steps.proofs.Uses.{reaching_uses, ready_parts}
use Rattle.native_steps.proofs.Marks.{AreMarked, marked_same, marked_on}
use Rattle.native_steps.proofs.Walking.{IsWithin, IsServed, LeavesPage, page_leaves}

-- ---- the pages that were used

abbrev pub Before : List ℕ → ℕ → Type 0
Before [] q = ⊥
Before (p ∷ ps) q = (p ≡ q) ⊎ Before ps q

contains_more : (p : ℕ) (ps : List ℕ) (q : ℕ) → Contains ps q → Contains (p ∷ ps) q
contains_more p ps q c = (suc c.0, let lt = c.1 in omega (arith, lt), c.2)

before_contains : (ps : List ℕ) (q : ℕ) → Before ps q → Contains ps q
before_contains [] q h = absurd h
before_contains (p ∷ ps) q (inl e) = (0, omega arith, e)
before_contains (p ∷ ps) q (inr h) = contains_more p ps q (before_contains ps q h)

abbrev pub after : List ℕ → List Use → List ℕ
after ps [] = ps
after ps (u ∷ us) = after (u.page ∷ ps) us

pub before_after : (us : List Use) (ps : List ℕ) (q : ℕ) → Before ps q → Before (after ps us) q
before_after [] ps q h = h
before_after (u ∷ us) ps q h = before_after us (u.page ∷ ps) q (inr h)

pub clear_split : (set : FinMap nat_cmp Entry) (user wp : Bool) (us vs : List Use) (ps : List ℕ) → AreClear set user wp ps (us ++ vs)
    → AreClear set user wp ps us × AreClear set user wp (after ps us) vs
clear_split set user wp [] vs ps c = (tt, c)
clear_split set user wp (u ∷ us) vs ps c = let p = clear_split set user wp us vs (u.page ∷ ps) c.1 in ((c.0, p.0), p.1)

module _ (m : Setting) (b : State) (kernel : Bool) where
  abbrev In : Space → Type 0
  In = IsWithin m b kernel

  abbrev Has : Space → Bool → ℕ → ℕ → Type 0
  Has s write page frame = HasEntry kernel (wp_of b.cpu) s.set write page frame

  abbrev side : Bool → Access
  side write = record { write = write; user = not kernel }

  abbrev Clear : List ℕ → List Use → Type 0
  Clear ps us = AreClear b.set (not kernel) (wp_of b.cpu) ps us

  -- the same bytes and translations, with other accounts
  pub within_as : (s t : Space) → In s → s.ram ≡ t.ram → s.set ≡ t.set → s.frames ≡ t.frames → s.cr3 ≡ t.cr3 → s.pse ≡ t.pse → s.wp ≡ t.wp
      → (own : Own) → t.mode ≡ Wedge 0x100 (text_pages m.image) own → In t
  within_as s t h ram set frames cr3 pse wp own mode = record {
    frames = sym frames ∙ h.frames;
    cr3 = sym cr3 ∙ h.cr3;
    pse = sym pse ∙ h.pse;
    wp = sym wp ∙ h.wp;
    own = own;
    mode = mode;
    room = subst (λ (x : List ℕ). 4096 * m.frames ≤ length x) ram h.room;
    fit = subst AreBytes ram h.fit;
    pages = λ q lt. subst (λ (x : List ℕ). Rattle.native_steps.proofs.Walking.IsFrom m b kernel x t.set q) ram
        (subst (λ (x : FinMap nat_cmp Entry). Rattle.native_steps.proofs.Walking.IsFrom m b kernel s.ram x q) set (h.pages q lt));
  }

  -- on the way from one memory of the step to another, what was used before serves still
  pub record Through (ps : List ℕ) (s t : Space) : Type 0 where
    pub within : In t
    pub marks : AreMarked s.ram t.ram
    pub mode : t.mode ≡ s.mode
    pub owns : (k : ℕ) → is_own s.mode k ≡ true → byte t.ram k ≡ byte s.ram k
    pub kept : (q : ℕ) (w : Bool) (f : ℕ) → Before ps q → HasEntry kernel (wp_of b.cpu) s.set w q f
        → HasEntry kernel (wp_of b.cpu) t.set w q f

  pub through_on : (ps qs : List ℕ) (s t u : Space) → Through ps s t → Through qs t u
      → ((q : ℕ) → Before ps q → Before qs q) → Through ps s u
  through_on ps qs s t u h k more = record {
    within = k.within;
    marks = marked_on s.ram t.ram u.ram h.marks k.marks;
    mode = k.mode ∙ h.mode;
    owns = λ j o. k.owns j (ap (λ (x : Mode). is_own x j) h.mode ∙ o) ∙ h.owns j o;
    kept = λ q w f x y. k.kept q w f (more q x) (h.kept q w f x y);
  }

  pub through_same : (ps : List ℕ) (s : Space) → In s → Through ps s s
  through_same ps s h = record { within = h; marks = marked_same s.ram; mode = refl; owns = λ k o. refl; kept = λ q w f x y. y }

  page_through : (ps : List ℕ) (s t : Space) (page : ℕ) (write fetch : Bool) → LeavesPage m b kernel s t page write fetch
      → (Contains ps page → IsServed m b kernel page write) → Through ps s t
  page_through ps s t page write fetch l served = record {
    within = l.within;
    marks = l.marks;
    mode = l.mode;
    owns = l.owns;
    kept = λ q w f x y. l.others q w f y (λ e. served (before_contains ps page (subst (Before ps) e x)));
  }

  -- ---- where touches are ready

  pub on_ready : (o : Touch × Space) (f : Space → Touch × Space) (t : Space) → and_then o f ≡ (Ready, t) → (o.0 ≡ Ready)
      × (f o.1 ≡ (Ready, t))
  on_ready o f t e = by_touch o.0 o.1 e
    where
      by_touch : (x : Touch) (s : Space) → go_on x s f ≡ (Ready, t) → (x ≡ Ready) × (f s ≡ (Ready, t))
      by_touch Ready s g = (refl, g)
      by_touch (Fault code cr2) s g = absurd (let y : Fault code cr2 ≡ Ready = ap (λ (z : Touch × Space). z.0) g in cc)
      by_touch (Stop stop) s g = absurd (let y : Stop stop ≡ Ready = ap (λ (z : Touch × Space). z.0) g in cc)

  pub pair : (o : Touch × Space) → o.0 ≡ Ready → o ≡ (Ready, o.1)
  pair o e = ap (λ (x : Touch). (x, o.1)) e

  unready_in : (s : Space) → In s → In (unready s)
  unready_in s h = within_as s (unready s) h refl refl refl refl refl refl h.own h.mode

  placed : (s : Space) (at frame : ℕ) (write : Bool) → HasEntry kernel (wp_of b.cpu) s.set write (at / 4096) frame
      → place s at ≡ 4096 * frame + at % 4096
  unfolding place
  placed s at frame write h =
      let sum : h.entry.frame * 4096 + at % 4096 ≡ 4096 * frame + at % 4096 = let e = h.frame_is in omega (arith, e) in
      ap (λ (o : Option Entry). place_by o at) h.kept ∙ sum

  -- ---- a fetch

  pub record FetchThrough (ps : List ℕ) (s t : Space) (at len : ℕ) (bytes : List ℕ) : Type 0 where
    pub through : Through ps s t
    pub frame : ℕ
    pub has : HasEntry kernel (wp_of b.cpu) t.set false (at / 4096) frame
    pub free : IsFree m b kernel true (at / 4096) frame
    pub place_is : place t at ≡ 4096 * frame + at % 4096
    pub bytes_is : bytes ≡ part t.ram (4096 * frame + at % 4096) len

  pub taken_parts : (at len : ℕ) (o : Touch) (s : Space) (bytes : List ℕ) (t : Space) → bytes_fetched at len o s ≡ Ok (bytes, t)
      → (o ≡ Ready) × ((part s.ram (place s at) len ≡ bytes) × (s ≡ t))
  taken_parts at len Ready s bytes t e =
      let p : ◌≡◌ {A = List ℕ × Space} (part s.ram (place s at) len, s) (bytes, t) = cc in
      (refl, (ap (λ (q : List ℕ × Space). q.0) p, ap (λ (q : List ℕ × Space). q.1) p))
  taken_parts at len (Fault code cr2) s bytes t e = absurd cc
  taken_parts at len (Stop stop) s bytes t e = absurd cc

  pub fetch_through : (ps : List ℕ) (s t : Space) (at len : ℕ) (bytes : List ℕ) → In s → at / 4096 < 2 ^ 20
      → (Contains ps (at / 4096) → IsServed m b kernel (at / 4096) false) → fetching (not kernel) at len s ≡ Ok (bytes, t)
      → FetchThrough ps s t at len bytes
  unfolding fetching fetches
  fetch_through ps s t at len bytes h small served e =
      let p = taken_parts at len (fetches s at len (not kernel)).0 (fetches s at len (not kernel)).1 bytes t e in
      let o : Touch × Space = page_uses (unready s) true (at / 4096) at (side false) in
      let whole : and_then o (made_ready at len false) ≡ (Ready, t) =
      pair (fetches s at len (not kernel)) p.0 ∙ ap (λ (x : Space). (Ready, x)) p.1.1 in
      let q = on_ready o (made_ready at len false) t whole in
      let l = page_leaves m b kernel (unready s) o.1 true (at / 4096) at false (unready_in s h) small (pair o q.0) in
      let th = page_through ps (unready s) o.1 (at / 4096) false true l served in
      let left : record o.1 { ready = record { start = at; len = len; write = false } } ≡ t = ap (λ (x : Touch × Space). x.1) q.1 in
      subst (λ (x : Space). FetchThrough ps s x at len bytes) left (record {
        through = record {
          within = within_as o.1 (record o.1 { ready = record { start = at; len = len; write = false } }) l.within refl refl refl refl refl
              refl l.within.own l.within.mode;
          marks = th.marks;
          mode = th.mode;
          owns = th.owns;
          kept = th.kept;
        };
        frame = l.frame;
        has = l.has;
        free = l.free;
        place_is = placed (record o.1 { ready = record { start = at; len = len; write = false } }) at l.frame false l.has;
        bytes_is =
            sym p.1.0
            ∙ ap (λ (x : Space). part x.ram (place x at) len) (p.1.1 ∙ sym left)
            ∙ ap (λ a. part o.1.ram a len)
            (placed (record o.1 { ready = record { start = at; len = len; write = false } }) at l.frame false l.has);
      })

  -- ---- a range

  pub record RangeThrough (ps : List ℕ) (s t : Space) (write : Bool) (at len : ℕ) : Type 0 where
    pub through : Through ps s t
    pub fits : at + len ≤ 2 ^ 32
    pub window : window_stop s.mode (record { write = write; user = not kernel }) at ≡ None
    pub first : ℕ
    pub has_first : HasEntry kernel (wp_of b.cpu) t.set write (at / 4096) first
    pub free_first : IsFree m b kernel false (at / 4096) first
    pub last : ℕ
    pub has_last : HasEntry kernel (wp_of b.cpu) t.set write ((at + len - 1) / 4096) last
    pub free_last : IsFree m b kernel false ((at + len - 1) / 4096) last

  abbrev last_of : ℕ → ℕ → ℕ
  last_of at len = (at + len - 1) / 4096

  -- its pages, up to the account of what is ready
  record Paged (ps : List ℕ) (s t : Space) (write : Bool) (at len : ℕ) : Type 0 where
    through : Through ps s t
    first : ℕ
    has_first : HasEntry kernel (wp_of b.cpu) t.set write (at / 4096) first
    free_first : IsFree m b kernel false (at / 4096) first
    last : ℕ
    has_last : HasEntry kernel (wp_of b.cpu) t.set write ((at + len - 1) / 4096) last
    free_last : IsFree m b kernel false ((at + len - 1) / 4096) last

  second_through : (ps : List ℕ) (s t u : Space) (write : Bool) (at len : ℕ) → LeavesPage m b kernel s t (at / 4096) write false
      → (Contains ps (at / 4096) → IsServed m b kernel (at / 4096) write)
      → ((last_of at len == at / 4096) ≡ false → Contains ((at / 4096) ∷ ps) (last_of at len) → IsServed m b kernel (last_of at len) write)
      → last_of at len < 2 ^ 20
      → second_page at len (side write) t ≡ (Ready, u) → Paged ps s u write at len
  second_through ps s t u write at len l served later small e = choice (last_of at len == at / 4096) refl e
    where
      choice : (one : Bool) → (last_of at len == at / 4096) ≡ one
          → cond {A = Touch × Space} one (Ready, t) (page_uses t false (last_of at len) (last_of at len * 4096) (side write)) ≡ (Ready, u)
          → Paged ps s u write at len
      choice true is g =
          let same : t ≡ u = ap (λ (x : Touch × Space). x.1) g in
          let page : at / 4096 ≡ last_of at len = sym (eqb-true (last_of at len) (at / 4096) is) in
          subst (λ (x : Space). Paged ps s x write at len) same (record {
            through = page_through ps s t (at / 4096) write false l served;
            first = l.frame;
            has_first = l.has;
            free_first = l.free;
            last = l.frame;
            has_last = subst (λ p. HasEntry kernel (wp_of b.cpu) t.set write p l.frame) page l.has;
            free_last = subst (λ p. IsFree m b kernel false p l.frame) page l.free;
          })
      choice false is g =
          let n = page_leaves m b kernel t u false (last_of at len) (last_of at len * 4096) write l.within small g in
          let one = page_through ps s t (at / 4096) write false l served in
          let two = page_through ((at / 4096) ∷ ps) t u (last_of at len) write false n (later is) in
          record {
            through = through_on ps ((at / 4096) ∷ ps) s t u one two (λ q x. inr x);
            first = l.frame;
            has_first = two.kept (at / 4096) write l.frame (inl refl) l.has;
            free_first = l.free;
            last = n.frame;
            has_last = n.has;
            free_last = n.free;
          }

  range_pages : (ps : List ℕ) (s t : Space) (write : Bool) (at len : ℕ) → In s → at + len ≤ 2 ^ 32 → 1 ≤ len
      → (Contains ps (at / 4096) → IsServed m b kernel (at / 4096) write)
      → ((last_of at len == at / 4096) ≡ false → Contains ((at / 4096) ∷ ps) (last_of at len) → IsServed m b kernel (last_of at len) write)
      → by_pages at len (side write) s ≡ (Ready, t) → (u : Space) × (Paged ps s u write at len × ((made_ready at len write u).1 ≡ t))
  range_pages ps s t write at len h fits some served later e =
      let o : Touch × Space = page_uses s false (at / 4096) at (side write) in
      let p = on_ready o (λ x. and_then (second_page at len (side write) x) (made_ready at len write)) t e in
      let l = page_leaves m b kernel s o.1 false (at / 4096) at write h (omega (arith, fits, some)) (pair o p.0) in
      let q = on_ready (second_page at len (side write) o.1) (made_ready at len write) t p.1 in
      let two = second_through ps s o.1 (second_page at len (side write) o.1).1 write at len l served later (omega (arith, fits, some))
      (pair (second_page at len (side write) o.1) q.0) in
      ((second_page at len (side write) o.1).1, (two, ap (λ (x : Touch × Space). x.1) q.1))

  pub range_through : (ps : List ℕ) (s t : Space) (write : Bool) (at len : ℕ) → In s → 1 ≤ len
      → (Contains ps (at / 4096) → IsServed m b kernel (at / 4096) write)
      → ((last_of at len == at / 4096) ≡ false → Contains ((at / 4096) ∷ ps) (last_of at len) → IsServed m b kernel (last_of at len) write)
      → reaching at len (side write) s ≡ Ok (tt, t) → RangeThrough ps s t write at len
  unfolding uses
  range_through ps s t write at len h some served later e =
      let p = reaching_uses s t at len (side write) e in
      let parts = ready_parts s at len (side write) p.0 in
      let inner : by_pages at len (side write) (unready s) ≡ (Ready, t) =
      sym (cond-false (nat_lt (2 ^ 32) (at + len)) (Stop stops.WrapAccess, unready s)
      (by_window (window_stop s.mode (side write) at) at len (side write) (unready s)) (le-ltb (2 ^ 32) (at + len) parts.0)
      ∙ ap (λ (w : Option reason.Stop). by_window w at len (side write) (unready s)) parts.1)
      ∙ pair (uses s at len (side write)) p.0
      ∙ ap (λ (x : Space). (Ready, x)) p.1 in
      let q = range_pages ps (unready s) t write at len (unready_in s h) parts.0 some served later inner in
      let u = q.0 in
      let g = q.1.0 in
      subst (λ (x : Space). RangeThrough ps s x write at len) q.1.1 (record {
        through = record {
          within = within_as u (made_ready at len write u).1 g.through.within refl refl refl refl refl refl g.through.within.own
              g.through.within.mode;
          marks = g.through.marks;
          mode = g.through.mode;
          owns = g.through.owns;
          kept = g.through.kept;
        };
        fits = parts.0;
        window = parts.1;
        first = g.first;
        has_first = g.has_first;
        free_first = g.free_first;
        last = g.last;
        has_last = g.has_last;
        free_last = g.free_last;
      })
