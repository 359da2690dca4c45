-- Lists of accesses after which memory follows. A write is one of them where a range that holds it was made ready for a
-- write before, whose frames are then noted.
use Rattle.std.proofs.Common.{◌≡◌, ℕ, ◌+◌, ◌<◌, ◌≤◌, Bool, true, false, cond, refl, Option, Some, None, Ok, Err, arith}
use Rattle.ia32_types.specs.declared.size.Size.{Size}
use Rattle.ia32_types.specs.declared.size.Size.TheVariants.{Byte}
use Rattle.ia32_types.specs.Bytes.{size_in_bytes}
use Rattle.paging.specs.declared.entry.Access.{Access}
use Rattle.paging.specs.declared.entry.Touch.{Touch}
use Rattle.paging.specs.declared.entry.Touch.TheVariants as touch
use Rattle.paging.specs.Space.{Space, place}
use Rattle.paging.specs.Uses.{uses}
use Rattle.paging.specs.Work.{Outcome, Work, on_value, ◌>>=◌, gives, refuses, unless, reads, reads_earlier, writes}
use Rattle.descriptors.specs.declared.cpu.Cpu.{Cpu}
use Rattle.descriptors.specs.Access.{Denials, met, reaching, by_processor, pair_at, byte_set, mark}
use Rattle.machine_model.specs.Reloading.{Follows, Leaves}
use Rattle.machine_model.proofs.Following.{IsNoted, same_follows, follows_on, uses_follow, saved_follows}
use Rattle.machine_model.proofs.Written.{writes_are_noted}

-- memory follows, wherever the work ends
pub record Tracks {E A : Type 0} (w : Work E A) : Type 0 where
  pub each : (s : Space) → Leaves s (w s)

-- the frames of all bytes of a range are noted as written
pub record IsOpen (at len : ℕ) (s : Space) : Type 0 where
  pub noted : (byte : ℕ) → at ≤ byte → byte < at + len → IsNoted s byte

-- memory follows, and the range is open where the work is done
abbrev pub LeavesOpen : {E A : Type 0} → ℕ → ℕ → Space → Outcome E A → Type 0
LeavesOpen at len s (Ok x) = Follows s x.1 × IsOpen at len x.1
LeavesOpen at len s (Err e) = Follows s e.1

-- work that opens a range, and work within one
pub record Opens {E A : Type 0} (at len : ℕ) (w : Work E A) : Type 0 where
  pub each : (s : Space) → LeavesOpen at len s (w s)

pub record Within {E A : Type 0} (at len : ℕ) (w : Work E A) : Type 0 where
  pub each : (s : Space) → IsOpen at len s → LeavesOpen at len s (w s)

-- ---- one after another

pub leaves_on : {E A : Type 0} (s t : Space) (o : Outcome E A) → Follows s t → Leaves t o → Leaves s o
leaves_on s t (Ok x) h k = follows_on s t x.1 h k
leaves_on s t (Err e) h k = follows_on s t e.1 h k

pub open_on : {E A : Type 0} (at len : ℕ) (s t : Space) (o : Outcome E A) → Follows s t → LeavesOpen at len t o → LeavesOpen at len s o
open_on at len s t (Ok x) h k = (follows_on s t x.1 h k.0, k.1)
open_on at len s t (Err e) h k = follows_on s t e.1 h k

closed : {E A : Type 0} (at len : ℕ) (s : Space) (o : Outcome E A) → LeavesOpen at len s o → Leaves s o
closed at len s (Ok x) h = h.0
closed at len s (Err e) h = h

after : {E A B : Type 0} (s : Space) (o : Outcome E A) (f : A → Work E B) → Leaves s o → ((x : A) → Tracks (f x)) → Leaves s (on_value o f)
after s (Ok x) f h k = leaves_on s x.1 (f x.0 x.1) h ((k x.0).each x.1)
after s (Err e) f h k = h

pub then_tracks : {E A B : Type 0} {m : Work E A} {f : A → Work E B} → Tracks m → ((x : A) → Tracks (f x)) → Tracks (m >>= f)
then_tracks {m = m} {f = f} h k = record { each = λ s. after s (m s) f (h.each s) k }

after_open : {E A B : Type 0} (at len : ℕ) (s : Space) (o : Outcome E A) (f : A → Work E B) → Leaves s o → ((x : A) → Opens at len (f x))
    → LeavesOpen at len s (on_value o f)
after_open at len s (Ok x) f h k = open_on at len s x.1 (f x.0 x.1) h ((k x.0).each x.1)
after_open at len s (Err e) f h k = h

pub then_opens : {E A B : Type 0} {m : Work E A} {f : A → Work E B} (at len : ℕ) → Tracks m → ((x : A) → Opens at len (f x))
    → Opens at len (m >>= f)
then_opens {m = m} {f = f} at len h k = record { each = λ s. after_open at len s (m s) f (h.each s) k }

after_opened : {E A B : Type 0} (at len : ℕ) (s : Space) (o : Outcome E A) (f : A → Work E B) → LeavesOpen at len s o
    → ((x : A) → Within at len (f x)) → LeavesOpen at len s (on_value o f)
after_opened at len s (Ok x) f h k = open_on at len s x.1 (f x.0 x.1) h.0 ((k x.0).each x.1 h.1)
after_opened at len s (Err e) f h k = h

-- a range is opened, and then there is work within it
pub opened_then : {E A B : Type 0} {m : Work E A} {f : A → Work E B} (at len : ℕ) → Opens at len m
    → ((x : A) → Within at len (f x)) → Tracks (m >>= f)
opened_then {m = m} {f = f} at len h k =
    record { each = λ s. closed at len s (on_value (m s) f) (after_opened at len s (m s) f (h.each s) k) }

pub then_within : {E A B : Type 0} {m : Work E A} {f : A → Work E B} {at len : ℕ} → Within at len m → ((x : A) → Within at len (f x))
    → Within at len (m >>= f)
then_within {m = m} {f = f} {at = at} {len = len} h k = record { each = λ s ready. after_opened at len s (m s) f (h.each s ready) k }

-- ---- each access

pub gives_tracks : {E A : Type 0} (x : A) → Tracks (gives {E = E} x)
gives_tracks x = record { each = λ s. same_follows s }

pub refuses_tracks : {E A : Type 0} (e : E) → Tracks (refuses {A = A} e)
refuses_tracks e = record { each = λ s. same_follows s }

pub unless_tracks : {E : Type 0} (e : E) (test : Bool) → Tracks (unless e test)
unless_tracks e true = record { each = λ s. same_follows s }
unless_tracks e false = record { each = λ s. same_follows s }

pub reads_tracks : {E : Type 0} (at : ℕ) (size : Size) → Tracks (reads {E = E} at size)
reads_tracks at size = record { each = λ s. same_follows s }

pub reads_earlier_tracks : {E : Type 0} (at : ℕ) (size : Size) → Tracks (reads_earlier {E = E} at size)
reads_earlier_tracks at size = record { each = λ s. same_follows s }

pub if_tracks : {E A : Type 0} {w v : Work E A} (test : Bool) → Tracks w → Tracks v → Tracks (cond test w v)
if_tracks true h k = h
if_tracks false h k = k

pub gives_within : {E A : Type 0} {at len : ℕ} (x : A) → Within at len (gives {E = E} x)
gives_within x = record { each = λ s ready. (same_follows s, ready) }

pub reads_earlier_within : {E : Type 0} {at len : ℕ} (from : ℕ) (size : Size) → Within at len (reads_earlier {E = E} from size)
reads_earlier_within from size = record { each = λ s ready. (same_follows s, ready) }

-- a write in a range that is open, which it stays
pub writes_within : {E : Type 0} {start len : ℕ} (at : ℕ) (size : Size) (v : ℕ) → start ≤ at → at + size_in_bytes size ≤ start + len
    → Within start len (writes {E = E} at size v)
unfolding place
writes_within {start = start} {len = len} at size v low high = record {
  each = λ s ready. (
    saved_follows s at size v (λ k lt. ready.noted (at + k) (omega (arith, low)) (omega (arith, high, lt))),
    record { noted = λ byte above below. ready.noted byte above below },
  );
}

-- ---- a range that is made ready

abbrev answered : {E : Type 0} → Denials E → Touch → Space → Outcome E (Unit {0})
answered d t s = met d t s

met_leaves : {E : Type 0} (d : Denials E) (s : Space) (t : Touch) (u : Space) → Follows s u → Leaves s (answered d t u)
met_leaves d s touch.Ready u h = h
met_leaves d s (touch.Fault code at) u h = h
met_leaves d s (touch.Stop stop) u h = h

pub reaching_tracks : {E : Type 0} (d : Denials E) (at len : ℕ) (access : Access) → Tracks (reaching d at len access)
unfolding reaching
reaching_tracks d at len access =
    record { each = λ s. met_leaves d s (uses s at len access).0 (uses s at len access).1 (uses_follow s at len access) }

met_opens : {E : Type 0} (d : Denials E) (at len : ℕ) (access : Access) → access.write ≡ true → len ≤ 4096
    → (s : Space) (t : Touch) (u : Space) → uses s at len access ≡ (t, u) → Follows s u
    → LeavesOpen at len s (answered d t u)
met_opens d at len access write short s touch.Ready u is h =
    (h, record { noted = λ byte low high. writes_are_noted s u at len byte access write is low high short })
met_opens d at len access write short s (touch.Fault code cr2) u is h = h
met_opens d at len access write short s (touch.Stop stop) u is h = h

pub reaching_opens : {E : Type 0} (d : Denials E) (at len : ℕ) (access : Access) → access.write ≡ true → len ≤ 4096
    → Opens at len (reaching d at len access)
unfolding reaching
reaching_opens d at len access write short =
    record {
      each = λ s. met_opens d at len access write short s (uses s at len access).0 (uses s at len access).1 refl
          (uses_follow s at len access);
    }

-- how memory follows through a list of accesses
pub ruleset tracks = (then_tracks, gives_tracks, unless_tracks, reads_tracks, reads_earlier_tracks, refuses_tracks, if_tracks)

-- ---- descriptors

pub pair_tracks : {E : Type 0} (d : Denials E) (at : ℕ) → Tracks (pair_at d at)
unfolding pair_at
pair_tracks d at = search (tracks, reaching_tracks) depth 12

pub byte_tracks : {E : Type 0} (d : Denials E) (at v : ℕ) → Tracks (byte_set d at v)
unfolding byte_set
byte_tracks d at v = opened_then at 1 (reaching_opens d at 1 (by_processor true) refl (omega arith))
    (λ done. writes_within at Byte v (omega arith) (omega arith))

pub mark_tracks : {E : Type 0} (d : Denials E) (cpu : Cpu) (sel : ℕ) (m : Option ℕ) → Tracks (mark d cpu sel m)
mark_tracks d cpu sel None = gives_tracks tt
mark_tracks d cpu sel (Some v) = byte_tracks d _ v
