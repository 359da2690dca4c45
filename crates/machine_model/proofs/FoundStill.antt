-- Walks that find an entry find it still where flags came on in their words.
use Rattle.std.proofs.Common.{◌≡◌, ℕ, ◌+◌, ◌*◌, ◌/◌, ◌%◌, ◌^◌, ◌<◌, ◌≤◌, List, [], ◌∷◌, length, Bool, true, false, ◌&&◌, ◌||◌, not, ◌==◌, refl, sym, ap, subst, ◌∙◌, inl, inr, arith}
use Rattle.std.specs.List.{Contains}
use Rattle.guest_ram.specs.Bytes.{word32}
use Rattle.paging.specs.declared.entry.Entry.{Entry}
use Rattle.paging.specs.declared.entry.Walk.TheVariants.{Found}
use Rattle.paging.specs.Fresh.{has, word_place, entry_of, is_large, has_reserved, large_frame, large_entry, fresh, flagged, tables_read}
use Rattle.paging.specs.Uses.{dirtied}
use Rattle.machine_model.specs.Reloading.{HasMoreFlags, IsFoundBy, HoldsOf, FoundStays}
use Rattle.machine_model.proofs.MoreFlags.{flagged_follows, flagged_dir, flagged_word, flagged_dirty}
use Rattle.machine_model.proofs.Walked.{walks_are_noted}
use Rattle.machine_model.proofs.Walks.{IsByTable, IsLarge, IsWalk, ByTable, Large, dir_word, page_word, walk_parts, walk_is}

-- ---- where the words lie

record AreEven (d t : ℕ) : Type 0 where
  dir_even : d % 4 ≡ 0
  word_even : t % 4 ≡ 0

walk_even : (ram : List ℕ) (frames cr3 : ℕ) (pse : Bool) (page : ℕ) (e : Entry) (d t : ℕ)
    → IsWalk ram frames cr3 pse page e d t → AreEven d t
walk_even ram frames cr3 pse page e d t (ByTable h) =
    let x = h.dir_is in
    let y = h.word_is in
    record { dir_even = omega (arith, x); word_even = omega (arith, y) }
walk_even ram frames cr3 pse page e d t (Large h) =
    let x = h.dir_is in
    let y = h.word_is in
    record { dir_even = omega (arith, x); word_even = omega (arith, y) }

record AreWithin (frames d t : ℕ) : Type 0 where
  dir_within : d + 4 ≤ 4096 * frames
  word_within : t + 4 ≤ 4096 * frames

walk_within : (ram : List ℕ) (frames cr3 : ℕ) (pse : Bool) (page : ℕ) (e : Entry) (d t : ℕ) → page < 2 ^ 20
    → IsWalk ram frames cr3 pse page e d t → AreWithin frames d t
walk_within ram frames cr3 pse page e d t small (ByTable h) =
    let x = h.dir_is in
    let y = h.word_is in
    let root = h.root in
    let table = h.table in
    record { dir_within = omega (arith, x, root, small); word_within = omega (arith, y, table) }
walk_within ram frames cr3 pse page e d t small (Large h) =
    let x = h.dir_is in
    let y = h.word_is in
    let root = h.root in
    record { dir_within = omega (arith, x, root, small); word_within = omega (arith, y, root, small) }

-- the dirty flag of the entry is that of the second word
dirty_of : (ram : List ℕ) (frames cr3 : ℕ) (pse : Bool) (page : ℕ) (e : Entry) (d t : ℕ) → IsWalk ram frames cr3 pse page e d t
    → e.dirty ≡ has (word32 ram t) 64
dirty_of ram frames cr3 pse page e d t (ByTable h) =
    sym (ap (λ (x : Entry). x.dirty) h.entry_is) ∙ ap (λ n. has (word32 ram n) 64) h.word_is
dirty_of ram frames cr3 pse page e d t (Large h) = sym (ap (λ (x : Entry). x.dirty) h.entry_is) ∙ ap (λ n. has (word32 ram n) 64) h.word_is

-- ---- with more flags

pub has_1 : (w x : ℕ) → x % 32 ≡ w % 32 → has x 1 ≡ has w 1
has_1 w x e = ap (λ n. n == 1) (let g : x / 1 % 2 ≡ w / 1 % 2 = omega (arith, e) in g)

pub has_2 : (w x : ℕ) → x % 32 ≡ w % 32 → has x 2 ≡ has w 2
has_2 w x e = ap (λ n. n == 1) (let g : x / 2 % 2 ≡ w / 2 % 2 = omega (arith, e) in g)

pub has_4 : (w x : ℕ) → x % 32 ≡ w % 32 → has x 4 ≡ has w 4
has_4 w x e = ap (λ n. n == 1) (let g : x / 4 % 2 ≡ w / 4 % 2 = omega (arith, e) in g)

same_frame : (w x : ℕ) → x / 128 ≡ w / 128 → x / 4096 ≡ w / 4096
same_frame w x e = omega (arith, e)

same_size : (pse : Bool) (w x : ℕ) → x / 128 ≡ w / 128 → is_large pse x ≡ is_large pse w
same_size pse w x e = ap (λ n. pse && (n % 2 == 1)) e

same_large : (w x page : ℕ) → x / 128 ≡ w / 128 → large_frame x page ≡ large_frame w page
same_large w x page e = omega (arith, e)

same_reserved : (w x : ℕ) → x / 128 ≡ w / 128 → has_reserved x ≡ has_reserved w
same_reserved w x e = ap (λ n. not (n == 0)) (let g : x / 8192 % 512 ≡ w / 8192 % 512 = omega (arith, e) in g)

-- the entry that the words give then
table_entry : (page w x v y : ℕ) → HasMoreFlags w x → HasMoreFlags v y → entry_of page x y ≡ record (entry_of page w v) { dirty = has y 64 }
table_entry page w x v y h k =
    ap (λ f. record { page = page; frame = f; user = has x 4 && has y 4; write = has x 2 && has y 2; dirty = has y 64 })
    (same_frame v y k.high)
    ∙ ap (λ u. record { page = page; frame = v / 4096; user = u && has y 4; write = has x 2 && has y 2; dirty = has y 64 })
    (has_4 w x h.low)
    ∙ ap (λ u. record { page = page; frame = v / 4096; user = has w 4 && u; write = has x 2 && has y 2; dirty = has y 64 })
    (has_4 v y k.low)
    ∙ ap (λ u. record { page = page; frame = v / 4096; user = has w 4 && has v 4; write = u && has y 2; dirty = has y 64 })
    (has_2 w x h.low)
    ∙ ap (λ u. record { page = page; frame = v / 4096; user = has w 4 && has v 4; write = has w 2 && u; dirty = has y 64 })
    (has_2 v y k.low)

directory_entry : (page w x : ℕ) → HasMoreFlags w x → large_entry page x ≡ record (large_entry page w) { dirty = has x 64 }
directory_entry page w x h =
    ap (λ f. record { page = page; frame = f; user = has x 4; write = has x 2; dirty = has x 64 }) (same_large w x page h.high)
    ∙ ap (λ u. record { page = page; frame = large_frame w page; user = u; write = has x 2; dirty = has x 64 }) (has_4 w x h.low)
    ∙ ap (λ u. record { page = page; frame = large_frame w page; user = has w 4; write = u; dirty = has x 64 }) (has_2 w x h.low)

table_still : (x y : List ℕ) (frames cr3 : ℕ) (pse : Bool) (page : ℕ) (e : Entry) (d t : ℕ) → HasMoreFlags (word32 x d) (word32 y d)
    → HasMoreFlags (word32 x t) (word32 y t)
    → IsByTable x frames cr3 pse page e d t → IsByTable y frames cr3 pse page (record e { dirty = has (word32 y t) 64 }) d t
table_still x y frames cr3 pse page e d t at_dir at_word h =
    let old : ℕ = dir_word x cr3 page in
    let new : ℕ = dir_word y cr3 page in
    let dir : HasMoreFlags old new = subst (λ n. HasMoreFlags (word32 x n) (word32 y n)) (sym h.dir_is) at_dir in
    let place : word_place new page ≡ word_place old page = ap (λ n. n * 4096 + page % 1024 * 4) (same_frame old new dir.high) in
    let here : word_place new page ≡ t = place ∙ h.word_is in
    let before : ℕ = page_word x cr3 page in
    let after : ℕ = page_word y cr3 page in
    let is : after ≡ word32 y t = ap (word32 y) here in
    let word : HasMoreFlags before after =
    subst (λ n. HasMoreFlags n after) (ap (word32 x) (sym h.word_is)) (subst (HasMoreFlags (word32 x t)) (sym is) at_word) in
    let table = h.table in
    let within = h.word_in in
    let dir_frame = same_frame old new dir.high in
    let word_frame = same_frame before after word.high in
    record {
      root = h.root;
      present = has_1 old new dir.low ∙ h.present;
      small = same_size pse old new dir.high ∙ h.small;
      table = omega (arith, table, dir_frame);
      word_present = has_1 before after word.low ∙ h.word_present;
      word_in = omega (arith, within, word_frame);
      entry_is = table_entry page old new before after dir word
          ∙ (ap (λ (z : Entry). record z { dirty = has after 64 }) h.entry_is ∙ ap (λ n. record e { dirty = has n 64 }) is);
      dir_is = h.dir_is;
      word_is = here;
    }

directory_still : (x y : List ℕ) (frames cr3 : ℕ) (pse : Bool) (page : ℕ) (e : Entry) (d t : ℕ) → HasMoreFlags (word32 x d) (word32 y d)
    → IsLarge x frames cr3 pse page e d t → IsLarge y frames cr3 pse page (record e { dirty = has (word32 y t) 64 }) d t
directory_still x y frames cr3 pse page e d t at_dir h =
    let old : ℕ = dir_word x cr3 page in
    let new : ℕ = dir_word y cr3 page in
    let dir : HasMoreFlags old new = subst (λ n. HasMoreFlags (word32 x n) (word32 y n)) (sym h.dir_is) at_dir in
    let frame = same_large old new page dir.high in
    let within = h.frame_in in
    record {
      root = h.root;
      present = has_1 old new dir.low ∙ h.present;
      large = same_size pse old new dir.high ∙ h.large;
      clear = same_reserved old new dir.high ∙ h.clear;
      frame_in = omega (arith, within, frame);
      entry_is = directory_entry page old new dir
          ∙ (ap (λ (z : Entry). record z { dirty = has new 64 }) h.entry_is ∙ ap (λ n. record e { dirty = has (word32 y n) 64 }) h.word_is);
      dir_is = h.dir_is;
      word_is = h.word_is;
    }

walk_still : (x y : List ℕ) (frames cr3 : ℕ) (pse : Bool) (page : ℕ) (e : Entry) (d t : ℕ) → HasMoreFlags (word32 x d) (word32 y d)
    → HasMoreFlags (word32 x t) (word32 y t)
    → IsWalk x frames cr3 pse page e d t → fresh y frames cr3 pse page ≡ Found (record e { dirty = has (word32 y t) 64 }) d t
walk_still x y frames cr3 pse page e d t dir word (ByTable h) = walk_is y frames cr3 pse page (record e { dirty = has (word32 y t) 64 }) d t
    (ByTable (table_still x y frames cr3 pse page e d t dir word h))
walk_still x y frames cr3 pse page e d t dir word (Large h) = walk_is y frames cr3 pse page (record e { dirty = has (word32 y t) 64 }) d t
    (Large (directory_still x y frames cr3 pse page e d t dir h))

-- ---- entries that are found

pub found_still : FoundStays
found_still x y frames cr3 pse tables page e room small more k =
    let old : Entry = record e { dirty = k.dirty } in
    let w = walk_parts x frames cr3 pse page old k.dir_at k.word_at k.found in
    let even = walk_even x frames cr3 pse page old k.dir_at k.word_at w in
    let within = walk_within x frames cr3 pse page old k.dir_at k.word_at small w in
    let low = within.dir_within in
    let high = within.word_within in
    let dir = more k.dir_at even.dir_even (omega (arith, low, room)) k.words.0 in
    let word = more k.word_at even.word_even (omega (arith, high, room)) k.words.1 in
    record {
      dir_at = k.dir_at;
      word_at = k.word_at;
      dirty = has (word32 y k.word_at) 64;
      found = walk_still x y frames cr3 pse page old k.dir_at k.word_at dir word w;
      accessed = (dir.accessed k.accessed.0, word.accessed k.accessed.1);
      is_dirty = λ d. word.dirty (sym (dirty_of x frames cr3 pse page old k.dir_at k.word_at w) ∙ k.is_dirty d);
      words = k.words;
    }

head_in : (x : ℕ) (xs : List ℕ) → Contains (x ∷ xs) x
head_in x xs = (0, omega arith, refl)

second_in : (x y : ℕ) (xs : List ℕ) → Contains (x ∷ y ∷ xs) y
second_in x y xs = (1, omega arith, refl)

-- the frames of both words are noted
pub words_noted : (ram : List ℕ) (frames cr3 : ℕ) (pse : Bool) (page : ℕ) (e : Entry) (d t : ℕ) → page < 2 ^ 20
    → fresh ram frames cr3 pse page ≡ Found e d t
    → Contains (tables_read ram frames cr3 pse page) (d / 4096) × Contains (tables_read ram frames cr3 pse page) (t / 4096)
words_noted ram frames cr3 pse page e d t small is =
    elim (walks_are_noted ram frames cr3 pse page d t e small is) [
      | inl both ↦ (
        subst (λ (l : List ℕ). Contains l (d / 4096)) (sym both) (head_in (d / 4096) (t / 4096 ∷ [])),
        subst (λ (l : List ℕ). Contains l (t / 4096)) (sym both) (second_in (d / 4096) (t / 4096) []),
      )
      | inr one ↦
          let first : Contains (tables_read ram frames cr3 pse page) (d / 4096) =
          subst (λ (l : List ℕ). Contains l (d / 4096)) (sym one.1) (head_in (d / 4096) []) in
          (first, subst (λ n. Contains (tables_read ram frames cr3 pse page) (n / 4096)) (sym one.0) first)
    ]

dirty_then : (dirty write flag : Bool) → (dirty ≡ true → flag ≡ true) → (write ≡ true → flag ≡ true) → (dirty || write) ≡ true → flag ≡ true
dirty_then true write flag f g e = f refl
dirty_then false true flag f g e = g refl
dirty_then false false flag f g e = absurd (let h : false ≡ true = e in cc)

-- the entry of a fresh walk, once its flags are set
pub found_fresh : (x : List ℕ) (frames cr3 : ℕ) (pse : Bool) (tables : ℕ → Bool) (page : ℕ) (e : Entry) (d t : ℕ) (write : Bool)
    → page < 2 ^ 20 → 4096 * frames ≤ length x
    → fresh x frames cr3 pse page ≡ Found e d t → HoldsOf tables (tables_read x frames cr3 pse page)
    → IsFoundBy (flagged x d t write) frames cr3 pse tables page (dirtied e write)
found_fresh x frames cr3 pse tables page e d t write small room is holds =
    let w = walk_parts x frames cr3 pse page e d t is in
    let even = walk_even x frames cr3 pse page e d t w in
    let within = walk_within x frames cr3 pse page e d t small w in
    let low = within.dir_within in
    let high = within.word_within in
    let dir_room : d + 4 ≤ length x = omega (arith, low, room) in
    let word_room : t + 4 ≤ length x = omega (arith, high, room) in
    let m = flagged_follows x d t write even.dir_even even.word_even [] in
    let noted = words_noted x frames cr3 pse page e d t small is in
    let dir = m.words d even.dir_even dir_room (λ c. none (d / 4096) c) in
    let word = m.words t even.word_even word_room (λ c. none (t / 4096) c) in
    record {
      dir_at = d;
      word_at = t;
      dirty = has (word32 (flagged x d t write) t) 64;
      found = walk_still x (flagged x d t write) frames cr3 pse page e d t dir word w;
      accessed =
          (flagged_dir x d t write even.dir_even even.word_even dir_room, flagged_word x d t write even.dir_even even.word_even word_room);
      is_dirty = dirty_then e.dirty write _ (λ f. word.dirty (sym (dirty_of x frames cr3 pse page e d t w) ∙ f))
          (λ f. flagged_dirty x d t write even.dir_even even.word_even f word_room);
      words = (holds (d / 4096) noted.0, holds (t / 4096) noted.1);
    }
  where
    none : (frame : ℕ) → Contains [] frame → ⊥
    none frame c = let lt = c.1 in omega (arith, lt)

-- its words are aligned
pub fresh_even : (x : List ℕ) (frames cr3 : ℕ) (pse : Bool) (page : ℕ) (e : Entry) (d t : ℕ) → fresh x frames cr3 pse page ≡ Found e d t
    → (d % 4 ≡ 0) × (t % 4 ≡ 0)
fresh_even x frames cr3 pse page e d t is =
    let even = walk_even x frames cr3 pse page e d t (walk_parts x frames cr3 pse page e d t is) in
    (even.dir_even, even.word_even)
