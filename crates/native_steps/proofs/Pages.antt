-- A page whose entry lets an access pass is ready, and nothing changes.
use Rattle.std.specs.List.{Contains}
use Rattle.std.proofs.lemmas.List.Elements.{Contains-append_cases}
use Rattle.std.proofs.Common.{zero, suc, length, inl, inr, sym, ◌<◌, ◌≡◌, ℕ, ◌+◌, ◌-◌, ◌*◌, ◌/◌, ◌%◌, ◌^◌, ◌≤◌, Bool, true, false, cond, ◌||◌, not, ◌==◌, refl, ap, ◌∙◌, List, [], ◌∷◌, ◌++◌, Option, Some, None, Ok, arith}
use Rattle.std.specs.Prelude.{nat_lt, nat_le}
use Rattle.std.specs.FinMap.{FinMap, get}
use Rattle.std.specs.Ordering.{nat_cmp}
use Rattle.std.proofs.lemmas.Bool.{cond-true, cond-false, le-leb, le-ltb}
use Rattle.guest_ram.specs.Bytes.{part}
use Rattle.ia32_types.specs.declared.stop.Stop as reason
use Rattle.ia32_types.specs.declared.stop.Stop.TheVariants as stops
use Rattle.paging.specs.declared.entry.Access.{Access}
use Rattle.paging.specs.declared.entry.Entry.{Entry}
use Rattle.paging.specs.declared.entry.Touch.{Touch}
use Rattle.paging.specs.declared.entry.Touch.TheVariants.{Ready, Stop}
use Rattle.paging.specs.Fresh.{allows}
use Rattle.paging.specs.Space.{Mode, Wedge, Own, Space, place, place_by}
use Rattle.paging.specs.Uses.{is_barred, window_stop, usable, by_entry, page_uses, and_then, unready, made_ready, second_page, by_pages, by_window, uses, fetches}
use Rattle.paging.specs.Work.{Outcome, Work, on_value}
use Rattle.descriptors.specs.Access as accesses
use Rattle.descriptors.specs.Access.{met}
use Rattle.descriptors.specs.Controls.{wp_of}
use Rattle.sys_exec.specs.declared.effect.Refusal.{Refusal}
use Rattle.sys_exec.specs.Access.{denials, reaching}
use Rattle.image_load.specs.Boot.{text_pages}
use Rattle.machine_model.specs.State.{Setting, State, wedge_mode}
use Rattle.machine_model.specs.Instruction.{bytes_fetched, fetching}
use Rattle.native_steps.specs.Lends.{IsLent, AreKept}

-- a step's memory, with the bytes and translations of the state
pub record At (m : Setting) (b : State) (s : Space) : Type 0 where
  pub ram : s.ram ≡ b.ram
  pub set : s.set ≡ b.set
  pub wp : s.wp ≡ wp_of b.cpu
  pub visited : AreKept b.set s.visited
  -- no walk was done
  pub tables : s.tables ≡ []
  pub own : Own
  pub mode : s.mode ≡ Wedge 0x100 (text_pages m.image) own

-- work that passes, and leaves such a memory
pub record Comes {A : Type 0} (m : Setting) (b : State) (x : A) (o : Outcome Refusal A) : Type 0 where
  pub space : Space
  pub is : o ≡ Ok (x, space)
  pub at : At m b space

-- a translation that passes so
pub record Passes (m : Setting) (b : State) (o : Touch × Space) : Type 0 where
  pub space : Space
  pub is : o ≡ (Ready, space)
  pub at : At m b space

-- the set has an entry of the page, with this frame, that lets the access of this side pass
pub record HasEntry (kernel wp : Bool) (set : FinMap nat_cmp Entry) (write : Bool) (page frame : ℕ) : Type 0 where
  pub entry : Entry
  pub kept : get set page ≡ Some entry
  pub frame_is : entry.frame ≡ frame
  pub allowed : allows entry (record { write = write; user = not kernel }) wp ≡ true

pub lent_entry : (m : Setting) (kernel wp : Bool) (set : FinMap nat_cmp Entry) (write : Bool) (page frame : ℕ)
    → IsLent m kernel wp set write page frame → HasEntry kernel wp set write page frame
lent_entry m kernel wp set write page frame l = record { entry = l.entry; kept = l.kept; frame_is = l.frame_is; allowed = l.allowed }

module _ (m : Setting) (b : State) (kernel : Bool) where
  abbrev by_side : Bool → Access
  by_side write = record { write = write; user = not kernel }

  -- the page isn't barred from such an access
  abbrev pub IsFree : Bool → ℕ → ℕ → Type 0
  IsFree fetch page frame = is_barred (wedge_mode m.image) fetch (not kernel) page frame ≡ false

  went_more : (visited : List ℕ) (page : ℕ) (e : Entry) → AreKept b.set visited → get b.set page ≡ Some e
      → AreKept b.set (visited ++ page ∷ [])
  went_more visited page e h kept q c =
      elim (Contains-append_cases visited (page ∷ []) q c) [
        | inl before ↦ h q before
        | inr last ↦ (e, ap (get b.set) (one_there page q last) ∙ kept)
      ]
    where
      one_there : (x y : ℕ) → Contains (x ∷ []) y → y ≡ x
      one_there x y d = by_place d.0 d.1 d.2
        where
          by_place : (n : ℕ) → n < length (x ∷ []) → Rattle.std.specs.Prelude.slice_index_or (x ∷ []) n y ≡ y → y ≡ x
          by_place zero lt is = sym is
          by_place (suc n) lt is = absurd (omega (arith, lt))

  pub page_passes : (s : Space) (fetch : Bool) (page at : ℕ) (write : Bool) (frame : ℕ) → At m b s
      → HasEntry kernel (wp_of b.cpu) b.set write page frame → IsFree fetch page frame
      → Passes m b (page_uses s fetch page at (by_side write))
  unfolding page_uses
  page_passes s fetch page at write frame h lent free =
      let access : Access = by_side write in
      let t : Space = record s { pages = s.pages + 1; visited = s.visited ++ page ∷ [] } in
      let e : Entry = lent.entry in
      let kept : get s.set page ≡ Some e = ap (λ (set : FinMap nat_cmp Entry). get set page) h.set ∙ lent.kept in
      let allowed : allows e access s.wp ≡ true = ap (allows e access) h.wp ∙ lent.allowed in
      let used : usable (get s.set page) access s.wp ≡ Some e =
      ap (λ (o : Option Entry). usable o access s.wp) kept ∙ cond-true (allows e access s.wp) (Some e) None allowed in
      let barred : is_barred s.mode fetch (not kernel) page e.frame ≡ false =
      ap (λ (w : Mode). is_barred w fetch (not kernel) page e.frame) h.mode ∙ ap (is_barred (wedge_mode m.image) fetch (not kernel) page)
      lent.frame_is ∙ free in
      record {
        space = t;
        is = ap (by_entry t fetch page at access) used ∙ cond-false (is_barred s.mode fetch (not kernel) page e.frame)
            (Stop stops.TextMapped, t) (Ready, t) barred;
        at = record {
          ram = h.ram;
          set = h.set;
          wp = h.wp;
          visited = went_more s.visited page e h.visited lent.kept;
          tables = h.tables;
          own = h.own;
          mode = h.mode;
        };
      }

  passes_then : (o : Touch × Space) (f : Space → Touch × Space) → Passes m b o → ((t : Space) → At m b t → Passes m b (f t))
      → Passes m b (and_then o f)
  passes_then o f p h = let q =
      h p.space p.at in record { space = q.space; is = ap (λ (x : Touch × Space). and_then x f) p.is ∙ q.is; at = q.at }

  made : (at len : ℕ) (write : Bool) (s : Space) → At m b s → Passes m b (made_ready at len write s)
  made at len write s h =
      record {
        space = (made_ready at len write s).1;
        is = refl;
        at = record { ram = h.ram; set = h.set; wp = h.wp; visited = h.visited; tables = h.tables; own = h.own; mode = h.mode };
      }

  unready_at : (s : Space) → At m b s → At m b (unready s)
  unready_at s h = record { ram = h.ram; set = h.set; wp = h.wp; visited = h.visited; tables = h.tables; own = h.own; mode = h.mode }

  second_choice : (test : Bool) (o : Touch × Space) (s : Space) → At m b s → (test ≡ false → Passes m b o)
      → Passes m b (cond test (Ready, s) o)
  second_choice true o s h p = record { space = s; is = refl; at = h }
  second_choice false o s h p = p refl

  no_window : (s : Space) (write : Bool) (at : ℕ) → At m b s → (kernel ≡ true → 0x11000000 ≤ at)
      → window_stop s.mode (by_side write) at ≡ None
  no_window s write at h above = ap (λ (w : Mode). window_stop w (by_side write) at) h.mode
      ∙ cond-true (not kernel || nat_le 285212672 at) None _ (open_above kernel above)
    where
      open_above : (k : Bool) → (k ≡ true → 0x11000000 ≤ at) → (not k || nat_le 285212672 at) ≡ true
      open_above true a = le-leb 285212672 at (a refl)
      open_above false a = refl

  pub range_passes : (s : Space) (at len : ℕ) (write : Bool) (first last : ℕ) → At m b s → at + len ≤ 2 ^ 32
      → (kernel ≡ true → 0x11000000 ≤ at)
      → HasEntry kernel (wp_of b.cpu) b.set write (at / 4096) first → IsFree false (at / 4096) first
      → HasEntry kernel (wp_of b.cpu) b.set write ((at + len - 1) / 4096) last → IsFree false ((at + len - 1) / 4096) last
      → Passes m b (uses s at len (by_side write))
  unfolding uses
  range_passes s at len write first last h fits above lent1 free1 lent2 free2 =
      let access : Access = by_side write in
      let u = unready_at s h in
      let pages : Passes m b (by_pages at len access (unready s)) =
      passes_then _ (λ t. and_then (second_page at len access t) (made_ready at len write))
      (page_passes (unready s) false (at / 4096) at write first u lent1 free1) (λ t ht.
      passes_then _ (made_ready at len write)
      (second_choice ((at + len - 1) / 4096 == at / 4096) _ t ht
      (λ other. page_passes t false ((at + len - 1) / 4096) ((at + len - 1) / 4096 * 4096) write last ht lent2 free2))
      (made at len write)) in
      record {
        space = pages.space;
        is = cond-false (nat_lt (2 ^ 32) (at + len)) _ _ (le-ltb (2 ^ 32) (at + len) fits)
            ∙ ap (λ (w : Option reason.Stop). by_window w at len access (unready s)) (no_window s write at h above)
            ∙ pages.is;
        at = pages.at;
      }

  pub reaching_comes : (s : Space) (at len : ℕ) (write : Bool) → Passes m b (uses s at len (by_side write))
      → Comes m b tt (reaching at len (by_side write) s)
  unfolding accesses.reaching
  reaching_comes s at len write p = record { space = p.space; is = ap (λ (o : Touch × Space). met denials o.0 o.1) p.is; at = p.at }

  pub fetch_passes : (s : Space) (at len frame : ℕ) → At m b s → HasEntry kernel (wp_of b.cpu) b.set false (at / 4096) frame
      → IsFree true (at / 4096) frame
      → Passes m b (fetches s at len (not kernel))
  unfolding fetches
  fetch_passes s at len frame h lent free =
      passes_then _ (made_ready at len false) (page_passes (unready s) true (at / 4096) at false frame (unready_at s h) lent free)
      (made at len false)

  -- where an address of a page lies
  pub place_at : (s : Space) (at frame : ℕ) (write : Bool) → At m b s → HasEntry kernel (wp_of b.cpu) b.set write (at / 4096) frame
      → place s at ≡ 4096 * frame + at % 4096
  unfolding place
  place_at s at frame write h lent =
      let sum : lent.entry.frame * 4096 + at % 4096 ≡ 4096 * frame + at % 4096 = omega (arith, lent.frame_is) in
      ap (λ (set : FinMap nat_cmp Entry). place_by (get set (at / 4096)) at) h.set
      ∙ ap (λ (o : Option Entry). place_by o at) lent.kept ∙ sum

  pub fetching_comes : (s : Space) (at len frame : ℕ) → At m b s → HasEntry kernel (wp_of b.cpu) b.set false (at / 4096) frame
      → IsFree true (at / 4096) frame
      → Comes m b (part b.ram (4096 * frame + at % 4096) len) (fetching (not kernel) at len s)
  unfolding fetching
  fetching_comes s at len frame h lent free =
      let p = fetch_passes s at len frame h lent free in
      let place_is = place_at p.space at frame false p.at lent in
      let ram_is = p.at.ram in
      let bytes : part p.space.ram (place p.space at) len ≡ part b.ram (4096 * frame + at % 4096) len =
      ap (λ (x : List ℕ). part x (place p.space at) len) ram_is ∙ ap (λ (x : ℕ). part b.ram x len) place_is in
      record {
        space = p.space;
        is = ap (λ (o : Touch × Space). bytes_fetched at len o.0 o.1) p.is ∙ ap (λ (x : List ℕ). Ok (x, p.space)) bytes;
        at = p.at;
      }

  -- works one after another
  pub comes_then : {A B : Type 0} (o : Outcome Refusal A) (f : A → Work Refusal B) (x : A) (y : B) → Comes m b x o
      → ((t : Space) → At m b t → Comes m b y (f x t)) → Comes m b y (on_value o f)
  comes_then o f x y c h = let d = h c.space c.at in record { space = d.space; is = ap (λ p. on_value p f) c.is ∙ d.is; at = d.at }
