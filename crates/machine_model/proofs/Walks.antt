-- The parts of a walk that finds an entry.
use Rattle.std.proofs.Common.{◌≡◌, ℕ, ◌/◌, ◌<◌, List, Bool, true, false, cond, not, refl, sym, ap, ◌∙◌}
use Rattle.std.specs.Prelude.{nat_le}
use Rattle.std.proofs.lemmas.Bool.{cond-true, cond-false, leb-false, lt-leb, not-false}
use Rattle.guest_ram.specs.Bytes.{word32}
use Rattle.paging.specs.declared.entry.Entry.{Entry}
use Rattle.paging.specs.declared.entry.Walk.{Walk}
use Rattle.paging.specs.declared.entry.Walk.TheVariants.{Absent, Beyond, Reserved, Found}
use Rattle.paging.specs.Fresh.{has, dir_place, word_place, entry_of, is_large, has_reserved, large_frame, large_entry, by_word, by_large, by_table, by_dir, fresh}

-- ---- tests

is_found : Walk → Bool
is_found (Found entry dir_at word_at) = true
is_found Absent = false
is_found Beyond = false
is_found Reserved = false

-- a test that ends the walk was not met
second_found : (test : Bool) (a b : Walk) (e : Entry) (d t : ℕ) → is_found a ≡ false → cond test a b ≡ Found e d t
    → (test ≡ false) × (b ≡ Found e d t)
unfolding is_found
second_found true a b e d t n h = absurd (let g : true ≡ false = sym (ap is_found h) ∙ n in cc)
second_found false a b e d t n h = (refl, h)

-- ---- the parts of a walk that finds an entry

-- the words of a walk
abbrev pub dir_word : List ℕ → ℕ → ℕ → ℕ
dir_word ram cr3 page = word32 ram (dir_place cr3 page)

abbrev pub page_word : List ℕ → ℕ → ℕ → ℕ
page_word ram cr3 page = word32 ram (word_place (dir_word ram cr3 page) page)

-- by a table
pub record IsByTable (ram : List ℕ) (frames cr3 : ℕ) (pse : Bool) (page : ℕ) (e : Entry) (d t : ℕ) : Type 0 where
  pub root : cr3 / 4096 < frames
  pub present : has (dir_word ram cr3 page) 1 ≡ true
  pub small : is_large pse (dir_word ram cr3 page) ≡ false
  pub table : dir_word ram cr3 page / 4096 < frames
  pub word_present : has (page_word ram cr3 page) 1 ≡ true
  pub word_in : page_word ram cr3 page / 4096 < frames
  pub entry_is : entry_of page (dir_word ram cr3 page) (page_word ram cr3 page) ≡ e
  pub dir_is : dir_place cr3 page ≡ d
  pub word_is : word_place (dir_word ram cr3 page) page ≡ t

-- of a page of 4 MB
pub record IsLarge (ram : List ℕ) (frames cr3 : ℕ) (pse : Bool) (page : ℕ) (e : Entry) (d t : ℕ) : Type 0 where
  pub root : cr3 / 4096 < frames
  pub present : has (dir_word ram cr3 page) 1 ≡ true
  pub large : is_large pse (dir_word ram cr3 page) ≡ true
  pub clear : has_reserved (dir_word ram cr3 page) ≡ false
  pub frame_in : large_frame (dir_word ram cr3 page) page < frames
  pub entry_is : large_entry page (dir_word ram cr3 page) ≡ e
  pub dir_is : dir_place cr3 page ≡ d
  pub word_is : dir_place cr3 page ≡ t

pub data IsWalk (ram : List ℕ) (frames cr3 : ℕ) (pse : Bool) (page : ℕ) (e : Entry) (d t : ℕ) : Type 0 where
  ByTable : IsByTable ram frames cr3 pse page e d t → IsWalk ram frames cr3 pse page e d t
  Large : IsLarge ram frames cr3 pse page e d t → IsWalk ram frames cr3 pse page e d t

pub walk_parts : (ram : List ℕ) (frames cr3 : ℕ) (pse : Bool) (page : ℕ) (e : Entry) (d t : ℕ) → fresh ram frames cr3 pse page ≡ Found e d t
    → IsWalk ram frames cr3 pse page e d t
unfolding fresh is_found
walk_parts ram frames cr3 pse page e d t h =
    let dir = dir_word ram cr3 page in
    let one = second_found (nat_le frames (cr3 / 4096)) Beyond (by_dir ram frames cr3 pse page dir) e d t refl h in
    let two = second_found (not (has dir 1)) Absent
    (cond (is_large pse dir) (by_large frames cr3 page dir) (by_table ram frames cr3 page dir)) e d t refl one.1 in
    by_size (leb-false frames (cr3 / 4096) one.0) (not-false (has dir 1) two.0) (is_large pse dir) refl two.1
  where
    of_table : cr3 / 4096 < frames → has (dir_word ram cr3 page) 1 ≡ true → is_large pse (dir_word ram cr3 page) ≡ false
        → by_table ram frames cr3 page (dir_word ram cr3 page) ≡ Found e d t → IsByTable ram frames cr3 pse page e d t
    of_table root present small g =
        let dir = dir_word ram cr3 page in
        let word = page_word ram cr3 page in
        let three = second_found (nat_le frames (dir / 4096)) Beyond (by_word frames cr3 page dir word) e d t refl g in
        let four = second_found (not (has word 1)) Absent
        (cond (nat_le frames (word / 4096)) Beyond (Found (entry_of page dir word) (dir_place cr3 page) (word_place dir page)))
        e d t refl three.1 in
        let five = second_found (nat_le frames (word / 4096)) Beyond
        (Found (entry_of page dir word) (dir_place cr3 page) (word_place dir page)) e d t refl four.1 in
        let is = five.1 in
        record {
          root = root;
          present = present;
          small = small;
          table = leb-false frames (dir / 4096) three.0;
          word_present = not-false (has word 1) four.0;
          word_in = leb-false frames (word / 4096) five.0;
          entry_is = cc;
          dir_is = cc;
          word_is = cc;
        }

    of_directory : cr3 / 4096 < frames → has (dir_word ram cr3 page) 1 ≡ true → is_large pse (dir_word ram cr3 page) ≡ true
        → by_large frames cr3 page (dir_word ram cr3 page) ≡ Found e d t → IsLarge ram frames cr3 pse page e d t
    of_directory root present large g =
        let dir = dir_word ram cr3 page in
        let three = second_found (has_reserved dir) Reserved
        (cond (nat_le frames (large_frame dir page)) Beyond (Found (large_entry page dir) (dir_place cr3 page) (dir_place cr3 page))) e d t
        refl g in
        let four = second_found (nat_le frames (large_frame dir page)) Beyond
        (Found (large_entry page dir) (dir_place cr3 page) (dir_place cr3 page)) e d t refl three.1 in
        let is = four.1 in
        record {
          root = root;
          present = present;
          large = large;
          clear = three.0;
          frame_in = leb-false frames (large_frame dir page) four.0;
          entry_is = cc;
          dir_is = cc;
          word_is = cc;
        }

    by_size : cr3 / 4096 < frames → has (dir_word ram cr3 page) 1 ≡ true → (large : Bool) → is_large pse (dir_word ram cr3 page) ≡ large
        → cond large (by_large frames cr3 page (dir_word ram cr3 page)) (by_table ram frames cr3 page (dir_word ram cr3 page)) ≡ Found e d t
        → IsWalk ram frames cr3 pse page e d t
    by_size root present true is g = Large (of_directory root present is g)
    by_size root present false is g = ByTable (of_table root present is g)

table_is : (ram : List ℕ) (frames cr3 : ℕ) (pse : Bool) (page : ℕ) (e : Entry) (d t : ℕ) → IsByTable ram frames cr3 pse page e d t
    → fresh ram frames cr3 pse page ≡ Found e d t
unfolding fresh
table_is ram frames cr3 pse page e d t h =
    let dir : ℕ = dir_word ram cr3 page in
    let word : ℕ = page_word ram cr3 page in
    cond-false (nat_le frames (cr3 / 4096)) Beyond _ (lt-leb frames (cr3 / 4096) h.root)
    ∙ cond-false (not (has dir 1)) Absent _ (ap not h.present)
    ∙ cond-false (is_large pse dir) (by_large frames cr3 page dir) _ h.small
    ∙ cond-false (nat_le frames (dir / 4096)) Beyond _ (lt-leb frames (dir / 4096) h.table)
    ∙ cond-false (not (has word 1)) Absent _ (ap not h.word_present)
    ∙ cond-false (nat_le frames (word / 4096)) Beyond _ (lt-leb frames (word / 4096) h.word_in)
    ∙ ap (λ x. Found x (dir_place cr3 page) (word_place dir page)) h.entry_is
    ∙ ap (λ x. Found e x (word_place dir page)) h.dir_is
    ∙ ap (λ x. Found e d x) h.word_is

large_is : (ram : List ℕ) (frames cr3 : ℕ) (pse : Bool) (page : ℕ) (e : Entry) (d t : ℕ) → IsLarge ram frames cr3 pse page e d t
    → fresh ram frames cr3 pse page ≡ Found e d t
unfolding fresh
large_is ram frames cr3 pse page e d t h =
    let dir : ℕ = dir_word ram cr3 page in
    cond-false (nat_le frames (cr3 / 4096)) Beyond _ (lt-leb frames (cr3 / 4096) h.root)
    ∙ cond-false (not (has dir 1)) Absent _ (ap not h.present)
    ∙ cond-true (is_large pse dir) _ (by_table ram frames cr3 page dir) h.large
    ∙ cond-false (has_reserved dir) Reserved _ h.clear
    ∙ cond-false (nat_le frames (large_frame dir page)) Beyond _ (lt-leb frames (large_frame dir page) h.frame_in)
    ∙ ap (λ x. Found x (dir_place cr3 page) (dir_place cr3 page)) h.entry_is
    ∙ ap (λ x. Found e x (dir_place cr3 page)) h.dir_is
    ∙ ap (λ x. Found e d x) h.word_is

pub walk_is : (ram : List ℕ) (frames cr3 : ℕ) (pse : Bool) (page : ℕ) (e : Entry) (d t : ℕ) → IsWalk ram frames cr3 pse page e d t
    → fresh ram frames cr3 pse page ≡ Found e d t
walk_is ram frames cr3 pse page e d t (ByTable h) = table_is ram frames cr3 pse page e d t h
walk_is ram frames cr3 pse page e d t (Large h) = large_is ram frames cr3 pse page e d t h
