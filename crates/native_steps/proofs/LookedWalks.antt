-- What a walk finds in a memory, it finds in the one with more flags, and the other way round.
use Rattle.std.proofs.Common.{◌≡◌, ℕ, ◌+◌, ◌*◌, ◌/◌, ◌%◌, ◌^◌, ◌<◌, ◌≤◌, List, length, Bool, ◌&&◌, Some, refl, sym, ap, ◌∙◌, arith}
use Rattle.guest_ram.specs.Bytes.{word32}
use Rattle.paging.specs.declared.entry.Access.{Access}
use Rattle.paging.specs.declared.entry.Entry.{Entry}
use Rattle.paging.specs.declared.entry.Walk.{Walk}
use Rattle.paging.specs.declared.entry.Walk.TheVariants.{Absent, Beyond, Reserved, Found}
use Rattle.paging.specs.Fresh.{has, dir_place, word_place, large_frame, fresh}
use Rattle.paging.specs.Space.{Mode}
use Rattle.native_steps.specs.Looking.{Seen, found_by}
use Rattle.native_steps.proofs.Marks.{AreMarked}
use Rattle.native_steps.proofs.Walks.{IsByTable, IsLarge, IsWalk, ByTable, Large, walk_parts, walk_is, walk_kept, dir_in, word_in, same_size, same_large, same_reserved}
use Rattle.machine_model.proofs.FoundStill.{has_1, has_2, has_4}

table_before : (x y : List ℕ) (frames cr3 : ℕ) (pse : Bool) (page : ℕ) (e : Entry) (d t : ℕ) → AreMarked x y → page < 2 ^ 20
    → 4096 * frames ≤ length x → IsByTable y frames cr3 pse page e d t → (dirty : Bool)
    × IsByTable x frames cr3 pse page (record e { dirty = dirty }) d t
table_before x y frames cr3 pse page e d t m small room h =
    let dp = dir_in frames cr3 page h.root small in
    let old : ℕ = word32 x (dir_place cr3 page) in
    let new : ℕ = word32 y (dir_place cr3 page) in
    let dir = m.each (dir_place cr3 page) dp.0 (omega (arith, dp.1, room)) in
    let dir_frame = dir.frame in
    let table = h.table in
    let table_in : old / 4096 < frames = omega (arith, table, dir_frame) in
    let wp = word_in frames old page table_in in
    let place : word_place new page ≡ word_place old page = ap (λ n. n * 4096 + page % 1024 * 4) dir.frame in
    let word = m.each (word_place old page) wp.0 (omega (arith, wp.1, room)) in
    let new_word : ℕ = word32 y (word_place new page) in
    let old_word : ℕ = word32 x (word_place old page) in
    let again : new_word ≡ word32 y (word_place old page) = ap (word32 y) place in
    let low_word : new_word % 32 ≡ old_word % 32 = ap (λ n. n % 32) again ∙ word.low in
    let frame_word : new_word / 4096 ≡ old_word / 4096 = ap (λ n. n / 4096) again ∙ word.frame in
    let within = h.word_in in
    let dirty : Bool = has old_word 64 in (
      dirty,
      record {
        root = h.root;
        present = sym (has_1 old new dir.low) ∙ h.present;
        small = sym (same_size pse old new dir.size) ∙ h.small;
        table = table_in;
        word_present = sym (has_1 old_word new_word low_word) ∙ h.word_present;
        word_in = omega (arith, within, frame_word);
        entry_is =
            ap (λ f. record {
              page = page;
              frame = f;
              user = has old 4 && has old_word 4;
              write = has old 2 && has old_word 2;
              dirty = dirty;
            }) (sym frame_word)
            ∙ ap (λ u. record {
              page = page;
              frame = new_word / 4096;
              user = u && has old_word 4;
              write = has old 2 && has old_word 2;
              dirty = dirty;
            }) (sym (has_4 old new dir.low))
            ∙ ap (λ u. record {
              page = page;
              frame = new_word / 4096;
              user = has new 4 && u;
              write = has old 2 && has old_word 2;
              dirty = dirty;
            }) (sym (has_4 old_word new_word low_word))
            ∙ ap (λ u. record {
              page = page;
              frame = new_word / 4096;
              user = has new 4 && has new_word 4;
              write = u && has old_word 2;
              dirty = dirty;
            }) (sym (has_2 old new dir.low))
            ∙ ap (λ u. record {
              page = page;
              frame = new_word / 4096;
              user = has new 4 && has new_word 4;
              write = has new 2 && u;
              dirty = dirty;
            }) (sym (has_2 old_word new_word low_word))
            ∙ ap (λ (z : Entry). record z { dirty = dirty }) h.entry_is;
        dir_is = h.dir_is;
        word_is = sym place ∙ h.word_is;
      },
    )

large_before : (x y : List ℕ) (frames cr3 : ℕ) (pse : Bool) (page : ℕ) (e : Entry) (d t : ℕ) → AreMarked x y → page < 2 ^ 20
    → 4096 * frames ≤ length x → IsLarge y frames cr3 pse page e d t → (dirty : Bool)
    × IsLarge x frames cr3 pse page (record e { dirty = dirty }) d t
large_before x y frames cr3 pse page e d t m small room h =
    let dp = dir_in frames cr3 page h.root small in
    let old : ℕ = word32 x (dir_place cr3 page) in
    let new : ℕ = word32 y (dir_place cr3 page) in
    let dir = m.each (dir_place cr3 page) dp.0 (omega (arith, dp.1, room)) in
    let frame : large_frame new page ≡ large_frame old page = same_large old new page dir.frame in
    let within = h.frame_in in
    let dirty : Bool = has old 64 in (
      dirty,
      record {
        root = h.root;
        present = sym (has_1 old new dir.low) ∙ h.present;
        large = sym (same_size pse old new dir.size) ∙ h.large;
        clear = sym (same_reserved old new dir.frame) ∙ h.clear;
        frame_in = omega (arith, within, frame);
        entry_is =
            ap (λ f. record { page = page; frame = f; user = has old 4; write = has old 2; dirty = dirty }) (sym frame)
            ∙ ap (λ u. record { page = page; frame = large_frame new page; user = u; write = has old 2; dirty = dirty })
            (sym (has_4 old new dir.low))
            ∙ ap (λ u. record { page = page; frame = large_frame new page; user = has new 4; write = u; dirty = dirty })
            (sym (has_2 old new dir.low))
            ∙ ap (λ (z : Entry). record z { dirty = dirty }) h.entry_is;
        dir_is = h.dir_is;
        word_is = h.word_is;
      },
    )

walk_before : (x y : List ℕ) (frames cr3 : ℕ) (pse : Bool) (page : ℕ) (e : Entry) (d t : ℕ) → AreMarked x y → page < 2 ^ 20
    → 4096 * frames ≤ length x → IsWalk y frames cr3 pse page e d t → (dirty : Bool)
    × IsWalk x frames cr3 pse page (record e { dirty = dirty }) d t
walk_before x y frames cr3 pse page e d t m small room (ByTable h) =
    let p = table_before x y frames cr3 pse page e d t m small room h in (p.0, ByTable p.1)
walk_before x y frames cr3 pse page e d t m small room (Large h) =
    let p = large_before x y frames cr3 pse page e d t m small room h in (p.0, Large p.1)

pub found_before : (x y : List ℕ) (frames cr3 : ℕ) (pse : Bool) (mode : Mode) (page : ℕ) (access : Access) (wp : Bool) (s : Seen)
    → AreMarked x y → page < 2 ^ 20 → 4096 * frames ≤ length x
    → found_by mode page access wp (fresh y frames cr3 pse page) ≡ Some s
    → found_by mode page access wp (fresh x frames cr3 pse page) ≡ Some s
found_before x y frames cr3 pse mode page access wp s m small room h = by_walk (fresh y frames cr3 pse page) refl h
  where
    by_walk : (w : Walk) → fresh y frames cr3 pse page ≡ w → found_by mode page access wp w ≡ Some s
        → found_by mode page access wp (fresh x frames cr3 pse page) ≡ Some s
    by_walk Absent is g = absurd cc
    by_walk Beyond is g = absurd cc
    by_walk Reserved is g = absurd cc
    by_walk (Found e d t) is g =
        let p = walk_before x y frames cr3 pse page e d t m small room (walk_parts y frames cr3 pse page e d t is) in
        ap (found_by mode page access wp) (walk_is x frames cr3 pse page (record e { dirty = p.0 }) d t p.1) ∙ g

pub found_after : (x y : List ℕ) (frames cr3 : ℕ) (pse : Bool) (mode : Mode) (page : ℕ) (access : Access) (wp : Bool) (s : Seen)
    → AreMarked x y → page < 2 ^ 20 → 4096 * frames ≤ length x
    → found_by mode page access wp (fresh x frames cr3 pse page) ≡ Some s
    → found_by mode page access wp (fresh y frames cr3 pse page) ≡ Some s
found_after x y frames cr3 pse mode page access wp s m small room h = by_walk (fresh x frames cr3 pse page) refl h
  where
    by_walk : (w : Walk) → fresh x frames cr3 pse page ≡ w → found_by mode page access wp w ≡ Some s
        → found_by mode page access wp (fresh y frames cr3 pse page) ≡ Some s
    by_walk Absent is g = absurd cc
    by_walk Beyond is g = absurd cc
    by_walk Reserved is g = absurd cc
    by_walk (Found e d t) is g =
        let p = walk_kept x y frames cr3 pse page e d t m small room (walk_parts x frames cr3 pse page e d t is) in
        ap (found_by mode page access wp) (walk_is y frames cr3 pse page (record e { dirty = p.dirty }) d t p.walk) ∙ g
