-- The word of an entry gives it back.
use Rattle.std.proofs.Common.{◌≡◌, ◌≢◌, ℕ, ◌+◌, ◌*◌, ◌/◌, ◌%◌, ◌^◌, ◌<◌, ◌≤◌, Bool, true, false, eqb, ◌&&◌, ◌||◌, not, ap, arith}
use Rattle.paging.specs.declared.entry.Entry.{Entry}
use Rattle.shadow_tables.specs.Slots.{Slot, worth, word_of, slot_of, filled, permits, is_user, IsMarked}
use Rattle.shadow_tables.specs.declared.words.Side.{Side}

worth-le : (b : Bool) → worth b ≤ 1
worth-le true = omega arith
worth-le false = omega arith

-- a number of one bit says whether it is worth 1
is-worth : (n : ℕ) (b : Bool) → n ≡ worth b → eqb n 1 ≡ b
is-worth n true e = ap (λ x. eqb x 1) e
is-worth n false e = ap (λ x. eqb x 1) e

abbrev packed : ℕ → ℕ → ℕ → ℕ → ℕ → ℕ → ℕ
packed f d w u h r = 4096 * f + 2048 * d + 1024 * w + 512 * u + 4 + 2 * h + r

module _ (f d w u h r : ℕ) (ld : d ≤ 1) (lw : w ≤ 1) (lu : u ≤ 1) (lh : h ≤ 1) (lr : r ≤ 1) where
  packed-frame : packed f d w u h r / 4096 ≡ f
  packed-frame = omega arith

  packed-dirty : packed f d w u h r / 2048 % 2 ≡ d
  packed-dirty = omega arith

  packed-write : packed f d w u h r / 1024 % 2 ≡ w
  packed-write = omega arith

  packed-user : packed f d w u h r / 512 % 2 ≡ u
  packed-user = omega arith

  packed-writes : packed f d w u h r / 2 % 2 ≡ h
  packed-writes = omega arith

  packed-reads : packed f d w u h r % 2 ≡ r
  packed-reads = omega arith

abbrev slot : Side → ℕ → ℕ → Bool → Bool → Bool → Bool → Bool → Slot
slot side page f u w d r h =
    record { side = side; entry = record { page = page; frame = f; user = u; write = w; dirty = d }; reads = r; writes = h }

slot-parts : (side : Side) (page : ℕ) {f f' : ℕ} {u u' w w' d d' r r' h h' : Bool} → f ≡ f' → u ≡ u' → w ≡ w' → d ≡ d' → r ≡ r' → h ≡ h' →
    slot side page f u w d r h ≡ slot side page f' u' w' d' r' h'
slot-parts side page a b c d e g = cc

stale : (f d w u h r : ℕ) → d ≤ 1 → w ≤ 1 → u ≤ 1 → h ≤ 1 → r ≤ 1 → h ≤ r → f < 2 ^ 20 → IsMarked (packed f d w u h r)
stale f d w u h r ld lw lu lh lr le small =
    record { user = omega arith; reads = λ e. omega (arith, e); plain = omega arith; fits = omega arith }

pub slot_of-word_of : (s : Slot) → slot_of s.side s.entry.page (word_of s) ≡ s
unfolding word_of
slot_of-word_of s =
    let e = s.entry in
    let d = worth-le e.dirty in let w =
    worth-le e.write in let u = worth-le e.user in let h = worth-le s.writes in let r = worth-le s.reads in
    let word : ℕ = packed e.frame (worth e.dirty) (worth e.write) (worth e.user) (worth s.writes) (worth s.reads) in
    let frame = packed-frame e.frame (worth e.dirty) (worth e.write) (worth e.user) (worth s.writes) (worth s.reads) d w u h r in
    let dirty = is-worth (word / 2048 % 2) e.dirty
    (packed-dirty e.frame (worth e.dirty) (worth e.write) (worth e.user) (worth s.writes) (worth s.reads) d w u h r) in
    let write = is-worth (word / 1024 % 2) e.write
    (packed-write e.frame (worth e.dirty) (worth e.write) (worth e.user) (worth s.writes) (worth s.reads) d w u h r) in
    let user = is-worth (word / 512 % 2) e.user
    (packed-user e.frame (worth e.dirty) (worth e.write) (worth e.user) (worth s.writes) (worth s.reads) d w u h r) in
    let writes = is-worth (word / 2 % 2) s.writes
    (packed-writes e.frame (worth e.dirty) (worth e.write) (worth e.user) (worth s.writes) (worth s.reads) d w u h r) in
    let reads =
    is-worth (word % 2) s.reads
    (packed-reads e.frame (worth e.dirty) (worth e.write) (worth e.user) (worth s.writes) (worth s.reads) d w u h r) in
    slot-parts s.side e.page frame user write dirty reads writes

read-first : (a b c : Bool) → worth ((a && b) && c) ≤ worth ((a && true) && true)
read-first true b c = worth-le ((true && b) && c)
read-first false b c = omega arith

-- who may write may read
permits-le : (side : Side) (entry : Entry) (wp : Bool) → worth (permits side entry true wp) ≤ worth (permits side entry false wp)
permits-le side entry wp = read-first (entry.user || not (is_user side)) (entry.write || (not (is_user side) && not wp)) entry.dirty

barred-le : (b : Bool) (side : Side) (entry : Entry) (wp : Bool) → worth (not b && permits side entry true wp) ≤ worth
    (permits side entry false wp)
barred-le false side entry wp = permits-le side entry wp
barred-le true side entry wp = omega arith

pub word_of-marked : (b : Bool) (side : Side) (entry : Entry) (wp : Bool) → entry.frame < 2 ^ 20
    → IsMarked (word_of (filled b side entry wp))
unfolding word_of
word_of-marked b side entry wp small =
    let e = entry in
    let d = worth-le e.dirty in let w = worth-le e.write in let u = worth-le e.user in
    let h = worth-le (not b && permits side entry true wp) in let r = worth-le (permits side entry false wp) in
    stale e.frame (worth e.dirty) (worth e.write) (worth e.user) (worth (not b && permits side entry true wp))
    (worth (permits side entry false wp)) d w u h r (barred-le b side entry wp) small

pub word_of-some : (s : Slot) → word_of s ≢ 0
unfolding word_of
word_of-some s = λ e. absurd (omega (arith, e))
