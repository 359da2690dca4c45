-- The frames of the words that a walk reads.
use Rattle.std.proofs.Common.{◌≡◌, ℕ, ◌/◌, ◌<◌, ◌^◌, arith, cond, Bool, true, false, not, List, [], ◌∷◌, refl, sym, ap, ◌∙◌, ◌⊎◌, inl, inr}
use Rattle.std.specs.Prelude.{nat_lt, nat_le}
use Rattle.std.proofs.lemmas.Bool.Decides.{nat_tests}
use Rattle.std.proofs.lemmas.Bool.{not-false}
use Rattle.guest_ram.specs.Bytes.{word32}
use Rattle.paging.specs.declared.entry.Walk.{Walk}
use Rattle.paging.specs.declared.entry.Walk.TheVariants.{Absent, Beyond, Reserved, Found}
use Rattle.paging.specs.Fresh.{has, dir_place, word_place, entry_of, is_large, has_reserved, large_frame, large_entry, by_word, by_large, by_table, by_dir, fresh, tables_read}
use Rattle.paging.proofs.Translations.{clash}
use Rattle.machine_model.specs.Written.{WalksAreNoted}

abbrev is_found : Walk → Bool
is_found (Found entry dir_at word_at) = true
is_found Absent = false
is_found Beyond = false
is_found Reserved = false

abbrev dir_of : Walk → ℕ
dir_of (Found entry dir_at word_at) = dir_at
dir_of Absent = 0
dir_of Beyond = 0
dir_of Reserved = 0

abbrev word_of : Walk → ℕ
word_of (Found entry dir_at word_at) = word_at
word_of Absent = 0
word_of Beyond = 0
word_of Reserved = 0

pub record Finds (walk : Walk) (dir_at word_at : ℕ) : Type 0 where
  pub found : is_found walk ≡ true
  pub dir_is : dir_of walk ≡ dir_at
  pub word_is : word_of walk ≡ word_at

-- a test that ends the walk was not met
else_finds : (test : Bool) (a b : Walk) (d w : ℕ) → is_found a ≡ false → Finds (cond test a b) d w → (test ≡ false) × Finds b d w
else_finds true a b d w e h = absurd (clash (sym e ∙ h.found))
else_finds false a b d w e h = (refl, h)

within : (frames number : ℕ) → nat_le frames number ≡ false → nat_lt number frames ≡ true
within frames number e = grind (arith, nat_tests)

pub dir_frame : (cr3 page : ℕ) → page < 2 ^ 20 → dir_place cr3 page / 4096 ≡ cr3 / 4096
dir_frame cr3 page h = omega (arith, h)

pub word_frame : (dir page : ℕ) → word_place dir page / 4096 ≡ dir / 4096
word_frame dir page = omega arith

-- a walk that finds an entry by a table
record Both (ram : List ℕ) (frames cr3 : ℕ) (pse : Bool) (page dir_at word_at : ℕ) : Type 0 where
  near : nat_le frames (cr3 / 4096) ≡ false
  present : has (word32 ram (dir_place cr3 page)) 1 ≡ true
  small : is_large pse (word32 ram (dir_place cr3 page)) ≡ false
  inside : nat_lt (word32 ram (dir_place cr3 page) / 4096) frames ≡ true
  dir_is : dir_place cr3 page ≡ dir_at
  word_is : word_place (word32 ram (dir_place cr3 page)) page ≡ word_at

-- a walk that finds one of a page of 4 MB
record One (ram : List ℕ) (frames cr3 : ℕ) (pse : Bool) (page dir_at word_at : ℕ) : Type 0 where
  near : nat_le frames (cr3 / 4096) ≡ false
  present : has (word32 ram (dir_place cr3 page)) 1 ≡ true
  large : is_large pse (word32 ram (dir_place cr3 page)) ≡ true
  dir_is : dir_place cr3 page ≡ dir_at
  word_is : dir_place cr3 page ≡ word_at

either : (ram : List ℕ) (frames cr3 : ℕ) (pse : Bool) (page dir_at word_at : ℕ) → Finds (fresh ram frames cr3 pse page) dir_at word_at
    → Both ram frames cr3 pse page dir_at word_at ⊎ One ram frames cr3 pse page dir_at word_at
unfolding fresh
either ram frames cr3 pse page dir_at word_at h =
    let dir = word32 ram (dir_place cr3 page) in
    let one = else_finds (nat_le frames (cr3 / 4096)) Beyond (by_dir ram frames cr3 pse page dir) dir_at word_at refl h in
    let two = else_finds (not (has dir 1)) Absent
    (cond (is_large pse dir) (by_large frames cr3 page dir) (by_table ram frames cr3 page dir)) dir_at word_at refl one.1 in
    by_size one.0 (not-false (has dir 1) two.0) (is_large pse dir) refl two.1
  where
    of_table : nat_le frames (cr3 / 4096) ≡ false → has (word32 ram (dir_place cr3 page)) 1 ≡ true
        → is_large pse (word32 ram (dir_place cr3 page)) ≡ false
        → Finds (by_table ram frames cr3 page (word32 ram (dir_place cr3 page))) dir_at word_at
        → Both ram frames cr3 pse page dir_at word_at
    of_table near present small found =
        let dir = word32 ram (dir_place cr3 page) in
        let word = word32 ram (word_place dir page) in
        let three = else_finds (nat_le frames (dir / 4096)) Beyond (by_word frames cr3 page dir word) dir_at word_at refl found in
        let four = else_finds (not (has word 1)) Absent
        (cond (nat_le frames (word / 4096)) Beyond (Found (entry_of page dir word) (dir_place cr3 page) (word_place dir page))) dir_at
        word_at refl three.1 in
        let five = else_finds (nat_le frames (word / 4096)) Beyond
        (Found (entry_of page dir word) (dir_place cr3 page) (word_place dir page)) dir_at word_at refl four.1 in
        record {
          near = near;
          present = present;
          small = small;
          inside = within frames (dir / 4096) three.0;
          dir_is = five.1.dir_is;
          word_is = five.1.word_is;
        }

    of_large : nat_le frames (cr3 / 4096) ≡ false → has (word32 ram (dir_place cr3 page)) 1 ≡ true
        → is_large pse (word32 ram (dir_place cr3 page)) ≡ true
        → Finds (by_large frames cr3 page (word32 ram (dir_place cr3 page))) dir_at word_at → One ram frames cr3 pse page dir_at word_at
    of_large near present large found =
        let dir = word32 ram (dir_place cr3 page) in
        let three = else_finds (has_reserved dir) Reserved
        (cond (nat_le frames (large_frame dir page)) Beyond (Found (large_entry page dir) (dir_place cr3 page) (dir_place cr3 page))) dir_at
        word_at refl found in
        let four = else_finds (nat_le frames (large_frame dir page)) Beyond
        (Found (large_entry page dir) (dir_place cr3 page) (dir_place cr3 page)) dir_at word_at refl three.1 in
        record { near = near; present = present; large = large; dir_is = four.1.dir_is; word_is = four.1.word_is }

    by_size : nat_le frames (cr3 / 4096) ≡ false → has (word32 ram (dir_place cr3 page)) 1 ≡ true → (large : Bool)
        → is_large pse (word32 ram (dir_place cr3 page)) ≡ large
        → Finds (cond large (by_large frames cr3 page (word32 ram (dir_place cr3 page)))
        (by_table ram frames cr3 page (word32 ram (dir_place cr3 page)))) dir_at word_at
        → Both ram frames cr3 pse page dir_at word_at ⊎ One ram frames cr3 pse page dir_at word_at
    by_size near present true is found = inr (of_large near present is found)
    by_size near present false is found = inl (of_table near present is found)

both_noted : (ram : List ℕ) (frames cr3 : ℕ) (pse : Bool) (page dir_at word_at : ℕ) → page < 2 ^ 20
    → Both ram frames cr3 pse page dir_at word_at
    → tables_read ram frames cr3 pse page ≡ dir_at / 4096 ∷ word_at / 4096 ∷ []
unfolding tables_read
both_noted ram frames cr3 pse page dir_at word_at small b =
    let dir = word32 ram (dir_place cr3 page) in
    let first : cr3 / 4096 ≡ dir_at / 4096 = sym (dir_frame cr3 page small) ∙ ap (λ (n : ℕ). n / 4096) b.dir_is in
    let second : dir / 4096 ≡ word_at / 4096 = sym (word_frame dir page) ∙ ap (λ (n : ℕ). n / 4096) b.word_is in
    rw (b.near, b.present, b.small, b.inside) (ap (λ (n : ℕ). n ∷ dir / 4096 ∷ []) first ∙ ap (λ (n : ℕ). dir_at / 4096 ∷ n ∷ []) second)

one_noted : (ram : List ℕ) (frames cr3 : ℕ) (pse : Bool) (page dir_at word_at : ℕ) → page < 2 ^ 20
    → One ram frames cr3 pse page dir_at word_at
    → tables_read ram frames cr3 pse page ≡ dir_at / 4096 ∷ []
unfolding tables_read
one_noted ram frames cr3 pse page dir_at word_at small b =
    let first : cr3 / 4096 ≡ dir_at / 4096 = sym (dir_frame cr3 page small) ∙ ap (λ (n : ℕ). n / 4096) b.dir_is in
    rw (b.near, b.present, b.large) (ap (λ (n : ℕ). n ∷ []) first)

pub walks_are_noted : WalksAreNoted
walks_are_noted ram frames cr3 pse page dir_at word_at entry small is =
    elim (either ram frames cr3 pse page dir_at word_at
    (record { found = ap is_found is; dir_is = ap dir_of is; word_is = ap word_of is })) [
      | inl b ↦ inl (both_noted ram frames cr3 pse page dir_at word_at small b)
      | inr b ↦ inr (sym b.word_is ∙ b.dir_is, one_noted ram frames cr3 pse page dir_at word_at small b)
    ]
