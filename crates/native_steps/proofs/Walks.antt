-- Walks that find an entry, and that flags which are set meanwhile leave them so.
use Rattle.std.proofs.Common.{◌≡◌, ℕ, ◌+◌, ◌*◌, ◌/◌, ◌%◌, ◌^◌, ◌<◌, ◌≤◌, List, length, Bool, true, ◌&&◌, not, ◌==◌, sym, ap, ◌∙◌, arith}
use Rattle.std.proofs.lemmas.Bool.{eqb-true, eq-eqb}
use Rattle.guest_ram.specs.Bytes.{word32}
use Rattle.paging.specs.declared.entry.Entry.{Entry}
use Rattle.paging.specs.Fresh.{has, dir_place, word_place, is_large, has_reserved, large_frame}
use Rattle.native_steps.proofs.Marks.{AreMarked}
use Rattle.machine_model.proofs.FoundStill.{has_1, has_2, has_4}
pub use Rattle.machine_model.proofs.Walks.{IsByTable, IsLarge, IsWalk, ByTable, Large, walk_parts, walk_is}

-- bit 7 is the same
pub same_size : (pse : Bool) (w x : ℕ) → x / 128 % 2 ≡ w / 128 % 2 → is_large pse x ≡ is_large pse w
same_size pse w x e = ap (λ n. pse && (n == 1)) e

-- the places of a walk's words
pub dir_in : (frames cr3 page : ℕ) → cr3 / 4096 < frames → page < 2 ^ 20 → (dir_place cr3 page % 4 ≡ 0)
    × (dir_place cr3 page + 4 ≤ 4096 * frames)
dir_in frames cr3 page lt small = (omega arith, omega (arith, lt, small))

pub word_in : (frames dir page : ℕ) → dir / 4096 < frames → (word_place dir page % 4 ≡ 0) × (word_place dir page + 4 ≤ 4096 * frames)
word_in frames dir page lt = (omega arith, omega (arith, lt))

-- where the words of a walk lie
pub record AreIn (frames d t : ℕ) : Type 0 where
  pub dir_even : d % 4 ≡ 0
  pub dir_within : d + 4 ≤ 4096 * frames
  pub word_even : t % 4 ≡ 0
  pub word_within : t + 4 ≤ 4096 * frames

pub walk_in : (ram : List ℕ) (frames cr3 : ℕ) (pse : Bool) (page : ℕ) (e : Entry) (d t : ℕ) → page < 2 ^ 20
    → IsWalk ram frames cr3 pse page e d t → AreIn frames d t
walk_in ram frames cr3 pse page e d t small (ByTable h) =
    let p = dir_in frames cr3 page h.root small in
    let q = word_in frames (word32 ram (dir_place cr3 page)) page h.table in
    let x = h.dir_is in
    let y = h.word_is in
    record {
      dir_even = ap (λ n. n % 4) (sym x) ∙ p.0;
      dir_within = omega (arith, p.1, x);
      word_even = ap (λ n. n % 4) (sym y) ∙ q.0;
      word_within = omega (arith, q.1, y);
    }
walk_in ram frames cr3 pse page e d t small (Large h) =
    let p = dir_in frames cr3 page h.root small in
    let x = h.dir_is in
    let y = h.word_is in
    record {
      dir_even = ap (λ n. n % 4) (sym x) ∙ p.0;
      dir_within = omega (arith, p.1, x);
      word_even = ap (λ n. n % 4) (sym y) ∙ p.0;
      word_within = omega (arith, p.1, y);
    }

pub page_is : (ram : List ℕ) (frames cr3 : ℕ) (pse : Bool) (page : ℕ) (e : Entry) (d t : ℕ)
    → IsWalk ram frames cr3 pse page e d t → e.page ≡ page
page_is ram frames cr3 pse page e d t (ByTable h) = sym (ap (λ (x : Entry). x.page) h.entry_is)
page_is ram frames cr3 pse page e d t (Large h) = sym (ap (λ (x : Entry). x.page) h.entry_is)

-- the frame is in the memory
pub walk_frame : (ram : List ℕ) (frames cr3 : ℕ) (pse : Bool) (page : ℕ) (e : Entry) (d t : ℕ)
    → IsWalk ram frames cr3 pse page e d t → e.frame < frames
walk_frame ram frames cr3 pse page e d t (ByTable h) =
    let within = h.word_in in
    let is = ap (λ (x : Entry). x.frame) h.entry_is in
    omega (arith, within, is)
walk_frame ram frames cr3 pse page e d t (Large h) =
    let within = h.frame_in in
    let is = ap (λ (x : Entry). x.frame) h.entry_is in
    omega (arith, within, is)

-- the same entry in a memory with more flags, but that it may be dirty
pub record IsStill (ram : List ℕ) (frames cr3 : ℕ) (pse : Bool) (page : ℕ) (e : Entry) (d t : ℕ) : Type 0 where
  pub dirty : Bool
  pub walk : IsWalk ram frames cr3 pse page (record e { dirty = dirty }) d t
  pub more : e.dirty ≡ true → dirty ≡ true
  pub flag : dirty ≡ has (word32 ram t) 64

table_kept : (x y : List ℕ) (frames cr3 : ℕ) (pse : Bool) (page : ℕ) (e : Entry) (d t : ℕ) → AreMarked x y → page < 2 ^ 20
    → 4096 * frames ≤ length x → IsByTable x frames cr3 pse page e d t → IsStill y frames cr3 pse page e d t
table_kept x y frames cr3 pse page e d t m small room h =
    let dp = dir_in frames cr3 page h.root small in
    let old : ℕ = word32 x (dir_place cr3 page) in
    let dir = m.each (dir_place cr3 page) dp.0 (omega (arith, dp.1, room)) in
    let wp = word_in frames old page h.table in
    let place : word_place (word32 y (dir_place cr3 page)) page ≡ word_place old page = ap (λ n. n * 4096 + page % 1024 * 4) dir.frame in
    let word = m.each (word_place old page) wp.0 (omega (arith, wp.1, room)) in
    let again : word32 y (word_place (word32 y (dir_place cr3 page)) page) ≡ word32 y (word_place old page) = ap (word32 y) place in
    let low_dir = dir.low in
    let low_word : word32 y (word_place (word32 y (dir_place cr3 page)) page) % 32 ≡ word32 x (word_place old page) % 32 =
    ap (λ n. n % 32) again ∙ word.low in
    let frame_word : word32 y (word_place (word32 y (dir_place cr3 page)) page) / 4096 ≡ word32 x (word_place old page) / 4096 =
    ap (λ n. n / 4096) again ∙ word.frame in
    let new_word : ℕ = word32 y (word_place (word32 y (dir_place cr3 page)) page) in
    let old_word : ℕ = word32 x (word_place old page) in
    let table = h.table in
    let within = h.word_in in
    let dir_frame = dir.frame in
    let was = h.entry_is in
    record {
      dirty = has new_word 64;
      walk = ByTable (record {
        root = h.root;
        present = has_1 old (word32 y (dir_place cr3 page)) low_dir ∙ h.present;
        small = same_size pse old (word32 y (dir_place cr3 page)) dir.size ∙ h.small;
        table = omega (arith, table, dir_frame);
        word_present = has_1 old_word new_word low_word ∙ h.word_present;
        word_in = omega (arith, within, frame_word);
        entry_is =
            ap (λ f. record {
              page = page;
              frame = f;
              user = has (word32 y (dir_place cr3 page)) 4 && has new_word 4;
              write = has (word32 y (dir_place cr3 page)) 2 && has new_word 2;
              dirty = has new_word 64;
            }) frame_word
            ∙ ap (λ u. record {
              page = page;
              frame = old_word / 4096;
              user = u && has new_word 4;
              write = has (word32 y (dir_place cr3 page)) 2 && has new_word 2;
              dirty = has new_word 64;
            }) (has_4 old (word32 y (dir_place cr3 page)) low_dir)
            ∙ ap (λ u. record {
              page = page;
              frame = old_word / 4096;
              user = has old 4 && u;
              write = has (word32 y (dir_place cr3 page)) 2 && has new_word 2;
              dirty = has new_word 64;
            }) (has_4 old_word new_word low_word)
            ∙ ap (λ u. record {
              page = page;
              frame = old_word / 4096;
              user = has old 4 && has old_word 4;
              write = u && has new_word 2;
              dirty = has new_word 64;
            }) (has_2 old (word32 y (dir_place cr3 page)) low_dir)
            ∙ ap (λ u. record {
              page = page;
              frame = old_word / 4096;
              user = has old 4 && has old_word 4;
              write = has old 2 && u;
              dirty = has new_word 64;
            }) (has_2 old_word new_word low_word)
            ∙ ap (λ (z : Entry). record z { dirty = has new_word 64 }) was;
        dir_is = h.dir_is;
        word_is = place ∙ h.word_is;
      });
      more = λ g.
          let flag : has old_word 64 ≡ true = ap (λ (z : Entry). z.dirty) was ∙ g in
          let turned = word.dirty (eqb-true (old_word / 64 % 2) 1 flag) in
          ap (λ n. has n 64) again ∙ eq-eqb (word32 y (word_place old page) / 64 % 2) 1 turned;
      flag = ap (λ n. has (word32 y n) 64) (place ∙ h.word_is);
    }

pub same_large : (w x page : ℕ) → x / 4096 ≡ w / 4096 → large_frame x page ≡ large_frame w page
same_large w x page e = omega (arith, e)

pub same_reserved : (w x : ℕ) → x / 4096 ≡ w / 4096 → has_reserved x ≡ has_reserved w
same_reserved w x e = ap (λ n. not (n == 0)) (let g : x / 8192 % 512 ≡ w / 8192 % 512 = omega (arith, e) in g)

large_kept : (x y : List ℕ) (frames cr3 : ℕ) (pse : Bool) (page : ℕ) (e : Entry) (d t : ℕ) → AreMarked x y → page < 2 ^ 20
    → 4096 * frames ≤ length x → IsLarge x frames cr3 pse page e d t → IsStill y frames cr3 pse page e d t
large_kept x y frames cr3 pse page e d t m small room h =
    let dp = dir_in frames cr3 page h.root small in
    let old : ℕ = word32 x (dir_place cr3 page) in
    let new : ℕ = word32 y (dir_place cr3 page) in
    let dir = m.each (dir_place cr3 page) dp.0 (omega (arith, dp.1, room)) in
    let frame : large_frame new page ≡ large_frame old page = same_large old new page dir.frame in
    let within = h.frame_in in
    let was = h.entry_is in
    record {
      dirty = has new 64;
      walk = Large (record {
        root = h.root;
        present = has_1 old new dir.low ∙ h.present;
        large = same_size pse old new dir.size ∙ h.large;
        clear = same_reserved old new dir.frame ∙ h.clear;
        frame_in = omega (arith, within, frame);
        entry_is =
            ap (λ f. record { page = page; frame = f; user = has new 4; write = has new 2; dirty = has new 64 }) frame
            ∙ ap (λ u. record { page = page; frame = large_frame old page; user = u; write = has new 2; dirty = has new 64 })
            (has_4 old new dir.low)
            ∙ ap (λ u. record { page = page; frame = large_frame old page; user = has old 4; write = u; dirty = has new 64 })
            (has_2 old new dir.low)
            ∙ ap (λ (z : Entry). record z { dirty = has new 64 }) was;
        dir_is = h.dir_is;
        word_is = h.word_is;
      });
      more = λ g.
          let flag : has old 64 ≡ true = ap (λ (z : Entry). z.dirty) was ∙ g in
          let turned = dir.dirty (eqb-true (old / 64 % 2) 1 flag) in
          eq-eqb (new / 64 % 2) 1 turned;
      flag = ap (λ n. has (word32 y n) 64) h.word_is;
    }

pub walk_kept : (x y : List ℕ) (frames cr3 : ℕ) (pse : Bool) (page : ℕ) (e : Entry) (d t : ℕ) → AreMarked x y → page < 2 ^ 20
    → 4096 * frames ≤ length x → IsWalk x frames cr3 pse page e d t → IsStill y frames cr3 pse page e d t
walk_kept x y frames cr3 pse page e d t m small room (ByTable h) = table_kept x y frames cr3 pse page e d t m small room h
walk_kept x y frames cr3 pse page e d t m small room (Large h) = large_kept x y frames cr3 pse page e d t m small room h
