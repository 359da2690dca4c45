-- A fetch by fewer translations and by more, of which those that are missing are what a walk finds: where the first gives an
-- instruction, the other gives the same, through the same pages.
use Rattle.std.proofs.Common.{◌≡◌, ℕ, zero, suc, ◌+◌, ◌-◌, ◌*◌, ◌/◌, ◌%◌, ◌<◌, List, [], ◌∷◌, ◌++◌, length, get_or, Bool, true, false, cond, not, ◌&&◌, ◌||◌, ◌==◌, Option, Some, None, Ok, refl, sym, ap, subst, ◌∙◌, ◌⊎◌, inl, inr, arith}
use Rattle.std.specs.Prelude.{bit_or}
use Rattle.std.specs.FinMap.{get}
use Rattle.std.proofs.lemmas.Bool.{cond-true, cond-false}
use Rattle.guest_ram.specs.Bytes.{AreBytes, byte, word32, part, with_byte, with_part}
use Rattle.guest_ram.proofs.Bytes.{word32-is, byte_lt, with_part-part}
use Rattle.ia32_types.specs.declared.stop.Stop.TheVariants as stops
use Rattle.ia32_decode.specs.declared.answer.Decoded.{Decoded}
use Rattle.ia32_decode.specs.declared.answer.Decoded.TheVariants as begins
use Rattle.ia32_decode.specs.Decoding.{decoded}
use Rattle.ia32_decode.specs.Front.{longest, front_len}
use Rattle.paging.specs.declared.entry.Access.{Access}
use Rattle.paging.specs.declared.entry.Entry.{Entry}
use Rattle.paging.specs.declared.entry.Touch.{Touch}
use Rattle.paging.specs.declared.entry.Touch.TheVariants.{Ready, Fault, Stop}
use Rattle.paging.specs.declared.entry.Walk.TheVariants.{Found}
use Rattle.paging.specs.Fresh.{has, tables_read, grants, allows, flagged}
use Rattle.paging.specs.Space.{Earlier, Space, place, place_by}
use Rattle.paging.specs.Uses.{tables_of, Decision, is_barred, with_entry, decided, settled, usable, by_entry, page_uses, go_on, and_then, unready, made_ready, fetches, with_front, with_back}
use Rattle.paging.specs.Work.{Outcome, Work, on_value, ◌>>=◌, gives, refuses}
use Rattle.sys_exec.specs.declared.effect.Refusal.{Refusal}
use Rattle.sys_exec.specs.declared.effect.Refusal.TheVariants as refusal
use Rattle.machine_model.specs.Run.{Set}
use Rattle.machine_model.specs.Instruction.{bytes_fetched, fetching, owning_front, owning_back, next_page, owned, fetched_on, fetched_by, fetched}
use Rattle.machine_model.specs.Reloading.{IsFoundBy}
use Rattle.machine_model.proofs.Using.{there, elsewhere, found_page as fresh_page}
use Rattle.native_steps.proofs.Marks.{has_them}
use Rattle.native_steps.proofs.Walking.{IsReadied, decided_readied}
use Rattle.native_steps.proofs.Fetching.{bound, same_value, same_space}

-- memory within a step, with other translations
abbrev pub other : Space → Set → List ℕ → Earlier → Space
other s T Y E = record s { set = T; tables = Y; earlier = E }

-- ---- flags that are set already

one_part : (x : List ℕ) (at : ℕ) → at < length x → get_or x at 0 ∷ [] ≡ part x at 1
unfolding part
one_part [] at l = absurd (omega (arith, l))
one_part (b ∷ x) zero l = refl
one_part (b ∷ x) (suc at) l = one_part x at (omega (arith, l))

same_bytes : (x : List ℕ) (at : ℕ) → at < length x → with_byte x at (byte x at) ≡ x
unfolding with_byte byte
same_bytes x at l = ap (with_part x at) (one_part x at l) ∙ with_part-part x at 1 (omega (arith, l))

is_set : (x : List ℕ) (at : ℕ) → has (word32 x at) 32 ≡ true → has (byte x at) 32 ≡ true
is_set x at h = by (word32 x at) (byte x at) (let w = word32-is x at in omega (arith, w)) h
  where
    by : (w b : ℕ) → w / 32 % 2 ≡ b / 32 % 2 → (w / 32 % 2 == 1) ≡ true → (b / 32 % 2 == 1) ≡ true
    by w b e h = ap (λ n. n == 1) (sym e) ∙ h

is_inside : (x : List ℕ) (at : ℕ) → has (byte x at) 32 ≡ true → at < length x
unfolding byte
is_inside [] at h = absurd (let f : false ≡ true = h in cc)
is_inside (b ∷ x) zero h = omega arith
is_inside (b ∷ x) (suc at) h = let l = is_inside x at h in omega (arith, l)

mark_same : (x : List ℕ) (at : ℕ) → AreBytes x → has (byte x at) 32 ≡ true → with_byte x at (bit_or (byte x at) 32) ≡ x
mark_same x at fit h =
    ap (with_byte x at) (has_them false (byte x at) (let l = byte_lt x at fit in omega (arith, l)) h
    (λ f. absurd (let g : false ≡ true = f in cc))) ∙ same_bytes x at (is_inside x at h)

-- a walk that sets no flag leaves memory as it is
flags_same : (x : List ℕ) (d t : ℕ) → AreBytes x → has (word32 x d) 32 ≡ true → has (word32 x t) 32 ≡ true → flagged x d t false ≡ x
unfolding flagged
flags_same x d t fit h k =
    ap (λ (y : List ℕ). with_byte y t (bit_or (byte y t) 32)) (mark_same x d fit (is_set x d h)) ∙ mark_same x t fit (is_set x t k)

-- ---- one page

-- the translations of a page are the same, or the one that is missing is what a walk finds
abbrev pub AtPage : (ℕ → Bool) → Space → Set → ℕ → Type 0
AtPage tables s T page =
    (get s.set page ≡ get T page)
    ⊎ ((get s.set page ≡ None) × (e : Entry) × (get T page ≡ Some e) × IsFoundBy s.ram s.frames s.cr3 s.pse tables page e)

-- the page is ready by the others too, in the same place
pub record PageReady (s t : Space) (T : Set) (E : Earlier) (page : ℕ) (met : Touch × Space) : Type 0 where
  pub set : Set
  pub tables : List ℕ
  pub is : met ≡ (Ready, other t set tables E)
  pub place_is : (at : ℕ) → place_by (get set page) at ≡ place_by (get t.set page) at
  pub others : (q : ℕ) → (q ≡ page → ⊥) → get set q ≡ get T q
  pub ours : (q : ℕ) → (q ≡ page → ⊥) → get t.set q ≡ get s.set q
  pub visited : t.visited ≡ s.visited ++ page ∷ []

abbrev seen : Space → ℕ → Space
seen s page = record s { pages = s.pages + 1; visited = s.visited ++ page ∷ [] }

-- by a walk in both
both_walk : (s : Space) (T : Set) (Y : List ℕ) (E : Earlier) (page : ℕ) (d : Decision) → d.met ≡ Ready
    → PageReady s (settled (seen s page) page d).1 T E page (settled (other (seen s page) T Y E) page d)
both_walk s T Y E page d e = record {
  set = with_entry T page d.entry;
  tables = Y ++ tables_read s.ram s.frames s.cr3 s.pse page;
  is =
      ap (λ (m : Touch). (
        m,
        other (settled (seen s page) page d).1 (with_entry T page d.entry)
            (Y ++ tables_read s.ram s.frames s.cr3 s.pse page) E,
      )) e;
  place_is = λ at. ap (λ o. place_by o at) (there T page d.entry ∙ sym (there s.set page d.entry));
  others = λ q ne. elsewhere T page q d.entry ne;
  ours = λ q ne. elsewhere s.set page q d.entry ne;
  visited = refl;
}

-- by the same entry in both
both_entry : (s : Space) (T : Set) (Y : List ℕ) (E : Earlier) (page : ℕ) (barred : Bool) → get s.set page ≡ get T page
    → (cond {A = Touch × Space} barred (Stop stops.TextMapped, seen s page) (Ready, seen s page)).0 ≡ Ready
    → PageReady s (cond {A = Touch × Space} barred (Stop stops.TextMapped, seen s page) (Ready, seen s page)).1 T E page
    (cond {A = Touch × Space} barred (Stop stops.TextMapped, other (seen s page) T Y E) (Ready, other (seen s page) T Y E))
both_entry s T Y E page true same e = absurd cc
both_entry s T Y E page false same e =
    record {
      set = T;
      tables = Y;
      is = refl;
      place_is = λ at. ap (λ o. place_by o at) (sym same);
      others = λ q ne. refl;
      ours = λ q ne. refl;
      visited = refl;
    }

same_page : (s : Space) (T : Set) (Y : List ℕ) (E : Earlier) (page at : ℕ) (access : Access) (o : Option Entry)
    → get s.set page ≡ get T page → (by_entry (seen s page) true page at access o).0 ≡ Ready
    → PageReady s (by_entry (seen s page) true page at access o).1 T E page (by_entry (other (seen s page) T Y E) true page at access o)
same_page s T Y E page at access None same e = both_walk s T Y E page (decided (tables_of (seen s page)) true page at access) e
same_page s T Y E page at access (Some entry) same e = both_entry s T Y E page (is_barred s.mode true access.user page entry.frame) same e

-- what a walk finds is determined
found_entry : (a b : Entry) (d t x y : ℕ) → Found a d t ≡ Found b x y → a ≡ b
found_entry a b d t x y e = cc

found_dir : (a b : Entry) (d t x y : ℕ) → Found a d t ≡ Found b x y → d ≡ x
found_dir a b d t x y e = cc

found_word : (a b : Entry) (d t x y : ℕ) → Found a d t ≡ Found b x y → t ≡ y
found_word a b d t x y e = cc

-- by a walk in one, by the entry that it finds in the other
walk_entry : (tables : ℕ → Bool) (s : Space) (T : Set) (Y : List ℕ) (E : Earlier) (page at : ℕ) (access : Access) (e : Entry)
    → access.write ≡ false → AreBytes s.ram → get T page ≡ Some e
    → IsFoundBy s.ram s.frames s.cr3 s.pse tables page e → (d : Decision) → IsReadied (tables_of s) true page access d → d.met ≡ Ready
    → PageReady s (settled (seen s page) page d).1 T E page
    (by_entry (other (seen s page) T Y E) true page at access (usable (get T page) access s.wp))
walk_entry tables s T Y E page at access e read fit there_is h d r met =
    let f : Found r.entry r.dir_at r.word_at ≡ Found (record e { dirty = h.dirty }) h.dir_at h.word_at = sym r.found ∙ h.found in
    let entry_is : r.entry ≡ record e { dirty = h.dirty } =
    found_entry r.entry (record e { dirty = h.dirty }) r.dir_at r.word_at h.dir_at h.word_at f in
    let granted : grants e access s.wp ≡ true = subst (λ (x : Entry). grants x access s.wp ≡ true) entry_is r.granted in
    let allowed : allows e access s.wp ≡ true = both (grants e access s.wp) (not access.write) e.dirty granted (ap not read) in
    let used : usable (get T page) access s.wp ≡ Some e =
    ap (λ o. usable o access s.wp) there_is ∙ cond-true (allows e access s.wp) (Some e) None allowed in
    let page_is : r.entry.page ≡ page = found_page in
    let free : is_barred s.mode true access.user page e.frame ≡ false =
    subst (λ (p : ℕ). is_barred s.mode true access.user p e.frame ≡ false) page_is
    (subst (λ (x : Entry). is_barred s.mode true access.user r.entry.page x.frame ≡ false) entry_is r.free) in
    let ram_is : d.ram ≡ s.ram = ap (λ (x : Decision). x.ram) r.is ∙ memory in
    record {
      set = T;
      tables = Y;
      is = ap (by_entry (other (seen s page) T Y E) true page at access) used
          ∙ (cond-false (is_barred s.mode true access.user page e.frame) (Stop stops.TextMapped, other (seen s page) T Y E)
          (Ready, other (seen s page) T Y E) free
          ∙ ap (λ (m : List ℕ). (Ready, record (other (seen s page) T Y E) { ram = m })) (sym ram_is));
      place_is = λ at. ap (λ o. place_by o at) there_is
          ∙ sym (ap (λ o. place_by o at) (there s.set page d.entry ∙ ap (λ (x : Decision). x.entry) r.is)
          ∙ ap (λ (x : Entry). x.frame * 4096 + at % 4096) entry_is);
      others = λ q ne. refl;
      ours = λ q ne. elsewhere s.set page q d.entry ne;
      visited = refl;
    }
  where
    both : (g w d : Bool) → g ≡ true → w ≡ true → (g && (w || d)) ≡ true
    both true true d e f = refl
    both true false d e f = absurd (let x : false ≡ true = f in cc)
    both false w d e f = absurd (let x : false ≡ true = e in cc)

    found_page : r.entry.page ≡ page
    found_page = fresh_page s.ram s.frames s.cr3 s.pse page r.entry r.dir_at r.word_at r.found

    memory : flagged s.ram r.dir_at r.word_at access.write ≡ s.ram
    memory =
        let f : Found r.entry r.dir_at r.word_at ≡ Found (record e { dirty = h.dirty }) h.dir_at h.word_at = sym r.found ∙ h.found in
        let dir_is : r.dir_at ≡ h.dir_at = found_dir r.entry (record e { dirty = h.dirty }) r.dir_at r.word_at h.dir_at h.word_at f in
        let word_is : r.word_at ≡ h.word_at = found_word r.entry (record e { dirty = h.dirty }) r.dir_at r.word_at h.dir_at h.word_at f in
        ap (flagged s.ram r.dir_at r.word_at) read
        ∙ flags_same s.ram r.dir_at r.word_at fit (subst (λ n. has (word32 s.ram n) 32 ≡ true) (sym dir_is) h.accessed.0)
        (subst (λ n. has (word32 s.ram n) 32 ≡ true) (sym word_is) h.accessed.1)

by_kind : (tables : ℕ → Bool) (s : Space) (T : Set) (Y : List ℕ) (E : Earlier) (page at : ℕ) (access : Access) → access.write ≡ false
    → AreBytes s.ram → AtPage tables s T page
    → (by_entry (seen s page) true page at access (usable (get s.set page) access s.wp)).0 ≡ Ready
    → PageReady s (by_entry (seen s page) true page at access (usable (get s.set page) access s.wp)).1 T E page
    (by_entry (other (seen s page) T Y E) true page at access (usable (get T page) access s.wp))
by_kind tables s T Y E page at access read fit (inl same) e =
    subst (λ o. PageReady s (by_entry (seen s page) true page at access (usable (get s.set page) access s.wp)).1 T E page
    (by_entry (other (seen s page) T Y E) true page at access (usable o access s.wp))) same
    (same_page s T Y E page at access (usable (get s.set page) access s.wp) same e)
by_kind tables s T Y E page at access read fit (inr k) e =
    let d : Decision = decided (tables_of s) true page at access in
    let none : usable (get s.set page) access s.wp ≡ None = ap (λ o. usable o access s.wp) k.0 in
    let met : d.met ≡ Ready = subst (λ o. (by_entry (seen s page) true page at access o).0 ≡ Ready) none e in
    subst (λ o. PageReady s (by_entry (seen s page) true page at access o).1 T E page
    (by_entry (other (seen s page) T Y E) true page at access (usable (get T page) access s.wp))) (sym none)
    (walk_entry tables s T Y E page at access k.1 read fit k.2 k.3 d (decided_readied (tables_of s) true page at access met) met)

page_again : (tables : ℕ → Bool) (s : Space) (T : Set) (Y : List ℕ) (E : Earlier) (page at : ℕ) (access : Access) → access.write ≡ false
    → AreBytes s.ram → AtPage tables s T page
    → (page_uses s true page at access).0 ≡ Ready → PageReady s (page_uses s true page at access).1 T E page
    (page_uses (other s T Y E) true page at access)
unfolding page_uses
page_again tables s T Y E page at access read fit k e = by_kind tables s T Y E page at access read fit k e

-- ---- a fetch from one page

-- what is fetched is the same by the others
pub record Again {A : Type 0} (s : Space) (T : Set) (page : ℕ) (x : A) (t : Space) (o : Outcome Refusal A) : Type 0 where
  pub set : Set
  pub tables : List ℕ
  pub earlier : Earlier
  pub is : o ≡ Ok (x, other t set tables earlier)
  pub place_is : (at : ℕ) → at / 4096 ≡ page → place (other t set tables earlier) at ≡ place t at
  pub others : (q : ℕ) → (q ≡ page → ⊥) → get set q ≡ get T q
  pub ours : (q : ℕ) → (q ≡ page → ⊥) → get t.set q ≡ get s.set q
  pub visited : t.visited ≡ s.visited ++ page ∷ []

-- a touch that was ready
was_ready : (met : Touch) (s : Space) (f : Space → Touch × Space) → (go_on met s f).0 ≡ Ready → met ≡ Ready
was_ready Ready s f e = refl
was_ready (Fault code at) s f e = absurd cc
was_ready (Stop stop) s f e = absurd cc

reading : Bool → Access
reading user = record { write = false; user = user }

-- the range is ready by the others too
record RangeReady (s t : Space) (T : Set) (page : ℕ) (met : Touch × Space) : Type 0 where
  set : Set
  tables : List ℕ
  earlier : Earlier
  is : met ≡ (Ready, other t set tables earlier)
  place_is : (at : ℕ) → place_by (get set page) at ≡ place_by (get t.set page) at
  others : (q : ℕ) → (q ≡ page → ⊥) → get set q ≡ get T q
  ours : (q : ℕ) → (q ≡ page → ⊥) → get t.set q ≡ get s.set q
  visited : t.visited ≡ s.visited ++ page ∷ []

page_range : (s : Space) (T : Set) (E : Earlier) (page at len : ℕ) (met met2 : Touch × Space) → met.0 ≡ Ready
    → PageReady (unready s) met.1 T E page met2
    → RangeReady s (and_then met (made_ready at len false)).1 T page (and_then met2 (made_ready at len false))
page_range s T E page at len met met2 e h =
    let whole : met ≡ (Ready, met.1) = ap (λ (m : Touch). (m, met.1)) e in
    subst (λ (p : Touch × Space). RangeReady s (and_then p (made_ready at len false)).1 T page (and_then met2 (made_ready at len false)))
    (sym whole) (record {
      set = h.set;
      tables = h.tables;
      earlier = E;
      is = ap (λ (p : Touch × Space). and_then p (made_ready at len false)) h.is;
      place_is = h.place_is;
      others = h.others;
      ours = h.ours;
      visited = h.visited;
    })

fetches_again : (tables : ℕ → Bool) (s : Space) (T : Set) (Y : List ℕ) (E : Earlier) (at len : ℕ) (user : Bool) → AreBytes s.ram
    → AtPage tables s T (at / 4096) → (fetches s at len user).0 ≡ Ready
    → RangeReady s (fetches s at len user).1 T (at / 4096) (fetches (other s T Y E) at len user)
unfolding fetches
fetches_again tables s T Y E at len user fit k e =
    let first : Touch × Space = page_uses (unready s) true (at / 4096) at (record { write = false; user = user }) in
    let met : first.0 ≡ Ready = was_ready first.0 first.1 (made_ready at len false) e in
    let F : Earlier = record { start = s.ready.start; len = s.ready.len; set = T } in
    page_range s T F (at / 4096) at len first
    (page_uses (other (unready s) T Y F) true (at / 4096) at (record { write = false; user = user })) met
    (page_again tables (unready s) T Y F (at / 4096) at (record { write = false; user = user }) refl fit k met)

pub taken_ready : (at len : ℕ) (met : Touch) (s : Space) (x : List ℕ) (t : Space) → bytes_fetched at len met s ≡ Ok (x, t) → (met ≡ Ready)
    × (part s.ram (place s at) len ≡ x) × (s ≡ t)
taken_ready at len Ready s x t e =
    (refl, same_value (part s.ram (place s at) len) x s t e, same_space (part s.ram (place s at) len) x s t e)
taken_ready at len (Fault code cr2) s x t e = absurd cc
taken_ready at len (Stop stop) s x t e = absurd cc

place_same : (t : Space) (T : Set) (Y : List ℕ) (E : Earlier) (page : ℕ)
    → ((at : ℕ) → place_by (get T page) at ≡ place_by (get t.set page) at) → (at : ℕ) → at / 4096 ≡ page
    → place (other t T Y E) at ≡ place t at
unfolding place
place_same t T Y E page h at e = ap (λ p. place_by (get T p) at) e ∙ (h at ∙ sym (ap (λ p. place_by (get t.set p) at) e))

from_range : (s t : Space) (T : Set) (at len : ℕ) (met : Touch × Space) (x : List ℕ) → part t.ram (place t at) len ≡ x
    → RangeReady s t T (at / 4096) met → Again s T (at / 4096) x t (bytes_fetched at len met.0 met.1)
from_range s t T at len met x e h = record {
  set = h.set;
  tables = h.tables;
  earlier = h.earlier;
  is = ap (λ (p : Touch × Space). bytes_fetched at len p.0 p.1) h.is ∙ ap (λ (l : List ℕ). Ok (l, other t h.set h.tables h.earlier))
      (ap (λ n. part t.ram n len) (place_same t h.set h.tables h.earlier (at / 4096) h.place_is at refl) ∙ e);
  place_is = place_same t h.set h.tables h.earlier (at / 4096) h.place_is;
  others = h.others;
  ours = h.ours;
  visited = h.visited;
}

fetching_again : (tables : ℕ → Bool) (s : Space) (T : Set) (Y : List ℕ) (E : Earlier) (user : Bool) (at len : ℕ) (x : List ℕ) (t : Space)
    → AreBytes s.ram → AtPage tables s T (at / 4096) → fetching user at len s ≡ Ok (x, t)
    → Again s T (at / 4096) x t (fetching user at len (other s T Y E))
unfolding fetching
fetching_again tables s T Y E user at len x t fit k e =
    let r = taken_ready at len (fetches s at len user).0 (fetches s at len user).1 x t e in
    subst (λ (u : Space). Again s T (at / 4096) x u (fetching user at len (other s T Y E))) r.2
    (from_range s (fetches s at len user).1 T at len (fetches (other s T Y E) at len user) x r.1
    (fetches_again tables s T Y E at len user fit k r.0))

-- ---- the bytes that are the instruction's own

front_again : (t : Space) (T : Set) (Y : List ℕ) (E : Earlier) (at len : ℕ) → place (other t T Y E) at ≡ place t at
    → owning_front at len (other t T Y E) ≡ Ok (tt, other (record t { mode = with_front t.mode (place t at) len }) T Y E)
unfolding owning_front
front_again t T Y E at len e = ap (λ n. Ok (tt, other (record t { mode = with_front t.mode n len }) T Y E)) e

back_again : (t : Space) (T : Set) (Y : List ℕ) (E : Earlier) (at len : ℕ) → place (other t T Y E) at ≡ place t at
    → owning_back at len (other t T Y E) ≡ Ok (tt, other (record t { mode = with_back t.mode (place t at) len }) T Y E)
unfolding owning_back
back_again t T Y E at len e = ap (λ n. Ok (tt, other (record t { mode = with_back t.mode n len }) T Y E)) e

pub front_is : (s : Space) (at len : ℕ) → owning_front at len s ≡ Ok (tt, record s { mode = with_front s.mode (place s at) len })
unfolding owning_front
front_is s at len = refl

pub back_is : (s : Space) (at len : ℕ) → owning_back at len s ≡ Ok (tt, record s { mode = with_back s.mode (place s at) len })
unfolding owning_back
back_is s at len = refl

-- ---- the whole fetch

-- the same is read, through the same pages
pub record Fetched (d : Decoded) (t : Space) (o : Outcome Refusal Decoded) : Type 0 where
  pub space : Space
  pub is : o ≡ Ok (d, space)
  pub visited : space.visited ≡ t.visited

pub then_is : {A B : Type 0} (o : Outcome Refusal A) (f : A → Work Refusal B) (x : A) (u : Space) → o ≡ Ok (x, u) → on_value o f ≡ f x u
then_is o f x u e = ap (λ p. on_value p f) e

-- the second page, after the first
owned_again : (eip : ℕ) (d e : Decoded) (s t : Space) (T : Set) (Y : List ℕ) (E : Earlier) → place (other s T Y E) (next_page eip) ≡ place s
    (next_page eip) → owned eip d s ≡ Ok (e, t) → Fetched e t (owned eip d (other s T Y E))
owned_again eip (begins.Insn insn len) e s t T Y E p h =
    let n : ℕ = len - front_len eip in
    let u : Space = record s { mode = with_back s.mode (place s (next_page eip)) n } in
    let g : Ok (begins.Insn insn len, u) ≡ Ok (e, t) =
    sym (then_is (owning_back (next_page eip) n s) (λ x. gives (begins.Insn insn len)) tt u (back_is s (next_page eip) n)) ∙ h in
    record {
      space = other u T Y E;
      is = then_is (owning_back (next_page eip) n (other s T Y E)) (λ x. gives (begins.Insn insn len)) tt (other u T Y E)
          (back_again s T Y E (next_page eip) n p)
          ∙ ap (λ (x : Decoded). Ok (x, other u T Y E)) (same_value (begins.Insn insn len) e u t g);
      visited = ap (λ (x : Space). x.visited) (same_space (begins.Insn insn len) e u t g);
    }
owned_again eip begins.Outside e s t T Y E p h =
    record {
      space = other s T Y E;
      is = ap (λ (x : Decoded). Ok (x, other s T Y E)) (same_value begins.Outside e s t h);
      visited = ap (λ (x : Space). x.visited) (same_space begins.Outside e s t h);
    }
owned_again eip begins.Short e s t T Y E p h =
    record {
      space = other s T Y E;
      is = ap (λ (x : Decoded). Ok (x, other s T Y E)) (same_value begins.Short e s t h);
      visited = ap (λ (x : Space). x.visited) (same_space begins.Short e s t h);
    }

on_again : (tables : ℕ → Bool) (s : Space) (T : Set) (Y : List ℕ) (E : Earlier) (user : Bool) (eip : ℕ) (front : List ℕ) (e : Decoded)
    (t : Space) → AreBytes s.ram → place (other s T Y E) eip ≡ place s eip → AtPage tables s T (next_page eip / 4096)
    → fetched_on user eip front s ≡ Ok (e, t) → Fetched e t (fetched_on user eip front (other s T Y E))
unfolding fetched_on
on_again tables s T Y E user eip front e t fit p k h =
    let n : ℕ = front_len eip in
    let u : Space = record s { mode = with_front s.mode (place s eip) n } in
    let first = then_is (owning_front eip n s)
    (λ x. fetching user (next_page eip) longest >>= (λ more. owned eip (decoded (front ++ more)))) tt u (front_is s eip n) in
    let parts = bound (fetching user (next_page eip) longest u) (λ more. owned eip (decoded (front ++ more))) e t (sym first ∙ h) in
    let again = fetching_again tables u T Y E user (next_page eip) longest parts.0 parts.1 fit k parts.2.0 in
    let done = owned_again eip (decoded (front ++ parts.0)) e parts.1 t again.set again.tables again.earlier
    (again.place_is (next_page eip) refl) parts.2.1 in
    record {
      space = done.space;
      is = then_is (owning_front eip n (other s T Y E))
          (λ x. fetching user (next_page eip) longest >>= (λ more. owned eip (decoded (front ++ more)))) tt (other u T Y E)
          (front_again s T Y E eip n p)
          ∙ (then_is (fetching user (next_page eip) longest (other u T Y E)) (λ more. owned eip (decoded (front ++ more))) parts.0
          (other parts.1 again.set again.tables again.earlier) again.is ∙ done.is);
      visited = done.visited;
    }

by_again : (tables : ℕ → Bool) (s : Space) (T : Set) (Y : List ℕ) (E : Earlier) (user : Bool) (eip : ℕ) (front : List ℕ) (d e : Decoded)
    (t : Space) → AreBytes s.ram → place (other s T Y E) eip ≡ place s eip
    → ((eip / 4096 == 1048575) ≡ false → AtPage tables s T (next_page eip / 4096))
    → fetched_by user eip front d s ≡ Ok (e, t) → Fetched e t (fetched_by user eip front d (other s T Y E))
by_again tables s T Y E user eip front (begins.Insn insn len) e t fit p k h =
    let u : Space = record s { mode = with_front s.mode (place s eip) len } in
    let g : Ok (begins.Insn insn len, u) ≡ Ok (e, t) =
    sym (then_is (owning_front eip len s) (λ x. gives (begins.Insn insn len)) tt u (front_is s eip len)) ∙ h in
    record {
      space = other u T Y E;
      is = then_is (owning_front eip len (other s T Y E)) (λ x. gives (begins.Insn insn len)) tt (other u T Y E)
          (front_again s T Y E eip len p) ∙ ap (λ (x : Decoded). Ok (x, other u T Y E)) (same_value (begins.Insn insn len) e u t g);
      visited = ap (λ (x : Space). x.visited) (same_space (begins.Insn insn len) e u t g);
    }
by_again tables s T Y E user eip front begins.Outside e t fit p k h =
    record {
      space = other s T Y E;
      is = ap (λ (x : Decoded). Ok (x, other s T Y E)) (same_value begins.Outside e s t h);
      visited = ap (λ (x : Space). x.visited) (same_space begins.Outside e s t h);
    }
by_again tables s T Y E user eip front begins.Short e t fit p k h = by (eip / 4096 == 1048575) k h
  where
    by : (b : Bool) → (b ≡ false → AtPage tables s T (next_page eip / 4096)) → cond b (refuses (refusal.Stop stops.WrapAccess))
        (fetched_on user eip front) s ≡ Ok (e, t)
        → Fetched e t (cond b (refuses (refusal.Stop stops.WrapAccess)) (fetched_on user eip front) (other s T Y E))
    by true k h = absurd cc
    by false k h = on_again tables s T Y E user eip front e t fit p (k refl) h

pub fetched_again : (tables : ℕ → Bool) (s : Space) (T : Set) (Y : List ℕ) (E : Earlier) (user : Bool) (eip : ℕ) (e : Decoded) (t : Space)
    → AreBytes s.ram → AtPage tables s T (eip / 4096)
    → ((front : List ℕ) (u : Space) (set : Set) → fetching user eip (front_len eip) s ≡ Ok (front, u) → (eip / 4096 == 1048575) ≡ false
    → ((q : ℕ) → (q ≡ eip / 4096 → ⊥) → get set q ≡ get T q) → ((q : ℕ) → (q ≡ eip / 4096 → ⊥) → get u.set q ≡ get s.set q)
    → AreBytes u.ram × AtPage tables u set (next_page eip / 4096))
    → ((front : List ℕ) (u : Space) → fetching user eip (front_len eip) s ≡ Ok (front, u) → AreBytes u.ram)
    → fetched user eip s ≡ Ok (e, t) → Fetched e t (fetched user eip (other s T Y E))
unfolding fetched
fetched_again tables s T Y E user eip e t fit k next bytes h =
    let parts = bound (fetching user eip (front_len eip) s) (λ front. fetched_by user eip front (decoded front)) e t h in
    let again = fetching_again tables s T Y E user eip (front_len eip) parts.0 parts.1 fit k parts.2.0 in
    let done = by_again tables parts.1 again.set again.tables again.earlier user eip parts.0 (decoded parts.0) e t
    (bytes parts.0 parts.1 parts.2.0) (again.place_is eip refl)
    (λ not_last. (next parts.0 parts.1 again.set parts.2.0 not_last again.others again.ours).1) parts.2.1 in
    record {
      space = done.space;
      is = then_is (fetching user eip (front_len eip) (other s T Y E)) (λ front. fetched_by user eip front (decoded front)) parts.0
          (other parts.1 again.set again.tables again.earlier) again.is ∙ done.is;
      visited = done.visited;
    }
