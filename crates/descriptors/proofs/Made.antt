-- What work on memory is made of: its accesses, one after another. What holds of each access holds of the work, by a walk over
-- this. The rooms are the range that is open for writes before the work and after it; (0, 0) is none.
use Rattle.std.proofs.Common.{◌≡◌, ℕ, ◌+◌, ◌≤◌, Bool, true, false, cond, refl, Option, Some, None, arith}
use Rattle.ia32_types.specs.declared.size.Size.{Size}
use Rattle.ia32_types.specs.declared.size.Size.TheVariants.{Byte}
use Rattle.ia32_types.specs.Bytes.{size_in_bytes}
use Rattle.paging.specs.declared.entry.Access.{Access}
use Rattle.paging.specs.Work.{Work, ◌>>=◌, gives, refuses, unless, reads, reads_earlier, writes}
use Rattle.descriptors.specs.declared.cpu.Cpu.{Cpu}
use Rattle.descriptors.specs.Access.{Denials, reaching, by_processor, pair_at, byte_set, mark}

abbrev pub Room : Type 0
Room = ℕ × ℕ

abbrev pub shut : Room
shut = (0, 0)

pub data Made {E : Type 0} (d : Denials E) (user : Bool) : (A : Type 0) → Room → Room → Work E A → Type 1 where
  follows : {A B : Type 0} {r s t : Room} {m : Work E A} {f : A → Work E B} → Made d user A r s m → ((x : A) → Made d user B s t (f x))
      → Made d user B r t (m >>= f)
  given : {A : Type 0} {r : Room} (x : A) → Made d user A r r (gives {E = E} x)
  refused : {A : Type 0} {r s : Room} (e : E) → Made d user A r s (refuses {A = A} e)
  tested : {r : Room} (e : E) (test : Bool) → Made d user (Unit {0}) r r (unless e test)
  reading : {r : Room} (at : ℕ) (size : Size) → Made d user ℕ r r (reads {E = E} at size)
  reading_earlier : {r : Room} (at : ℕ) (size : Size) → Made d user ℕ r r (reads_earlier {E = E} at size)
  writing : {start len : ℕ} (at : ℕ) (size : Size) (v : ℕ) → start ≤ at → at + size_in_bytes size ≤ start + len
      → Made d user (Unit {0}) (start, len) (start, len) (writes {E = E} at size v)
  reached : (at len : ℕ) (access : Access) → (user ≡ false → access.user ≡ false) → 1 ≤ len
      → Made d user (Unit {0}) (0, 0) (0, 0) (reaching d at len access)
  opened : (at len : ℕ) (access : Access) → (user ≡ false → access.user ≡ false) → access.write ≡ true → 1 ≤ len → len ≤ 4096
      → Made d user (Unit {0}) (0, 0) (at, len) (reaching d at len access)
  closed : {A : Type 0} {r s : Room} {w : Work E A} → Made d user A r s w → Made d user A r (0, 0) w
  chosen : {A : Type 0} {r s : Room} {w v : Work E A} (test : Bool) → Made d user A r s w → Made d user A r s v
      → Made d user A r s (cond test w v)

-- with no range open
abbrev pub Steps : {E A : Type 0} → Denials E → Bool → Work E A → Type 1
Steps {A = A} d user w = Made d user A (0, 0) (0, 0) w

pub then_steps : {E A B : Type 0} {d : Denials E} {user : Bool} {m : Work E A} {f : A → Work E B} → Steps d user m
    → ((x : A) → Steps d user (f x)) → Steps d user (m >>= f)
then_steps h k = Made.follows h k

pub gives_steps : {E A : Type 0} {d : Denials E} {user : Bool} (x : A) → Steps d user (gives {E = E} x)
gives_steps x = Made.given x

pub refuses_steps : {E A : Type 0} {d : Denials E} {user : Bool} (e : E) → Steps d user (refuses {A = A} e)
refuses_steps e = Made.refused e

pub unless_steps : {E : Type 0} {d : Denials E} {user : Bool} (e : E) (test : Bool) → Steps d user (unless e test)
unless_steps e test = Made.tested e test

pub reads_steps : {E : Type 0} {d : Denials E} {user : Bool} (at : ℕ) (size : Size) → Steps d user (reads {E = E} at size)
reads_steps at size = Made.reading at size

pub reads_earlier_steps : {E : Type 0} {d : Denials E} {user : Bool} (at : ℕ) (size : Size) → Steps d user (reads_earlier {E = E} at size)
reads_earlier_steps at size = Made.reading_earlier at size

pub if_steps : {E A : Type 0} {d : Denials E} {user : Bool} {w v : Work E A} (test : Bool) → Steps d user w → Steps d user v
    → Steps d user (cond test w v)
if_steps test h k = Made.chosen test h k

-- a range is opened, and then there is work within it
pub opened_then : {E A B : Type 0} {d : Denials E} {user : Bool} {m : Work E A} {f : A → Work E B} (r : Room) → Made d user A (0, 0) r m
    → ((x : A) → Made d user B r r (f x)) → Steps d user (m >>= f)
opened_then r h k = Made.closed (Made.follows h k)

pub ruleset steps = (then_steps, gives_steps, unless_steps, reads_steps, reads_earlier_steps, refuses_steps, if_steps)

-- ---- descriptors

pub pair_steps : {E : Type 0} (d : Denials E) (user : Bool) (at : ℕ) → Steps d user (pair_at d at)
unfolding pair_at
pair_steps d user at =
    let reach : Steps d user (reaching d at 8 (by_processor false)) = Made.reached at 8 (by_processor false) (λ low. refl) (omega arith) in
    search (steps, reach) depth 12

pub byte_steps : {E : Type 0} (d : Denials E) (user : Bool) (at v : ℕ) → Steps d user (byte_set d at v)
unfolding byte_set
byte_steps d user at v =
    opened_then (at, 1) (Made.opened at 1 (by_processor true) (λ low. refl) refl (omega arith) (omega arith))
    (λ done. Made.writing at Byte v (omega arith) (omega arith))

pub mark_steps : {E : Type 0} (d : Denials E) (user : Bool) (cpu : Cpu) (sel : ℕ) (m : Option ℕ) → Steps d user (mark d cpu sel m)
mark_steps d user cpu sel None = gives_steps tt
mark_steps d user cpu sel (Some v) = byte_steps d user _ v
