-- What an instruction writes is the same change of both memories, and none of a frame that no write leads to.
use Rattle.std.proofs.Common.{◌≡◌, ℕ, suc, zero, ◌+◌, ◌*◌, ◌/◌, ◌%◌, ◌<◌, ◌≤◌, List, [], ◌∷◌, ◌++◌, length, drop, refl, sym, ap, subst, ◌∙◌, arith}
use Rattle.std.specs.Prelude.{slice_index}
use Rattle.guest_ram.specs.Bytes.{with_part, with_byte, frame}
use Rattle.guest_ram.proofs.Bytes.{length-with_byte, frame-with_part}
use Rattle.ia32_types.specs.declared.size.Size.{Size}
use Rattle.ia32_types.specs.declared.size.Size.TheVariants.{Byte, Word, Long}
use Rattle.ia32_exec.specs.declared.outcome.Store.{Store}
use Rattle.ia32_exec.specs.declared.outcome.Stores.{Stores}
use Rattle.ia32_exec.specs.declared.outcome.Stores.TheVariants.{Nothing, One, Eight}
use Rattle.ia32_exec.specs.Memory.{store}
use Rattle.ia32_exec.specs.Readable.{IsAllAt, AreAll}
use Rattle.ia32_exec.specs.Commit.{list_of, longs_to}
use Rattle.ia32_exec.specs.Outcomes.{AreStored}
use Rattle.paging.proofs.Drops.{drop-with_byte}
use Rattle.paging.specs.Space.{Space, place, written, saved, with_ram}
use Rattle.step_exec.specs.Plain.{stored_all}
use Rattle.paging.specs.Numbers.{number_stored}
use Rattle.host_cpl3.specs.Store.{all_stored}
use Rattle.machine_model.specs.State.{Setting}
use Rattle.native_steps.specs.Mirrors.{IsWedge, IsHost, shown}
use Rattle.native_steps.proofs.Shown.{IsApart, shown_with, still_host, still_long}

-- ---- the guest's stores, as changes of its memory alone

pub stored_is : (s : Space) (ws : List Store) → stored_all s ws ≡ with_ram s (all_stored (place s) s.ram ws)
unfolding written place
stored_is s [] = refl
stored_is s (w ∷ ws) = stored_is (saved s w.at w.size w.value) ws

-- ---- what each byte keeps, all stores keep

module _ (at : ℕ → ℕ) (P : ℕ → Type 0) (K : List ℕ → List ℕ → Type 0)
    (byte_kept : (now seen : List ℕ) (a v : ℕ) → K now seen → P a → K (with_byte now (at a) v) (with_byte seen (at a) v)) where
  first : (a n : ℕ) → 0 < n → AreAll P a n → P a
  first a n lt h = let z : a + 0 ≡ a = omega arith in subst P z (h 0 lt)

  number_kept : (now seen : List ℕ) (a : ℕ) (size : Size) (v : ℕ) → K now seen → IsAllAt P a size
      → K (number_stored at now a size v) (number_stored at seen a size v)
  number_kept now seen a Byte v k h = byte_kept now seen a (v % 256) k (first a 1 (omega arith) h)
  number_kept now seen a Word v k h =
      byte_kept _ _ (a + 1) (v / 256 % 256) (byte_kept now seen a (v % 256) k (first a 2 (omega arith) h)) (h 1 (omega arith))
  number_kept now seen a Long v k h =
      byte_kept _ _ (a + 3) (v / 16777216)
      (byte_kept _ _ (a + 2) (v / 65536 % 256)
      (byte_kept _ _ (a + 1) (v / 256 % 256)
      (byte_kept now seen a (v % 256) k (first a 4 (omega arith) h))
      (h 1 (omega arith)))
      (h 2 (omega arith)))
      (h 3 (omega arith))

  -- each number of a list
  abbrev AreAllIn : List Store → Type 0
  AreAllIn [] = Unit {0}
  AreAllIn (s ∷ ss) = IsAllAt P s.at s.size × AreAllIn ss

  list_kept : (ss : List Store) (now seen : List ℕ) → K now seen → AreAllIn ss → K (all_stored at now ss) (all_stored at seen ss)
  list_kept [] now seen k h = k
  list_kept (s ∷ ss) now seen k h = list_kept ss _ _ (number_kept now seen s.at s.size s.value k h.0) h.1

  in_both : (ss : List Store) (s : Store) → AreAllIn ss → IsAllAt P s.at s.size → AreAllIn (ss ++ s ∷ [])
  in_both [] s h k = (k, tt)
  in_both (x ∷ ss) s h k = (h.0, in_both ss s h.1 k)

  longs_in : (n a : ℕ) (vs : List ℕ) → AreAll P a (4 * n) → AreAllIn (longs_to n a vs)
  longs_in zero a vs h = tt
  longs_in (suc n) a vs h =
      in_both (longs_to n a vs) (store (a + 4 * n) Long (slice_index vs n)) (longs_in n a vs (λ k lt. h k (omega (arith, lt)))) (λ k lt.
      let e : a + (4 * n + k) ≡ a + 4 * n + k = omega arith in
      subst P e (h (4 * n + k) (omega (arith, lt))))

  all_in : (ws : Stores) → AreStored P ws → AreAllIn (list_of ws)
  all_in Nothing h = tt
  all_in (One s) h = (h, tt)
  all_in (Eight a vs) h = longs_in 8 a vs h

  all_kept : (now seen : List ℕ) (ws : Stores) → K now seen → AreStored P ws
      → K (all_stored at now (list_of ws)) (all_stored at seen (list_of ws))
  all_kept now seen ws k h = list_kept (list_of ws) now seen k (all_in ws h)

-- ---- both memories

module _ (m : Setting) (w : IsWedge m) (memory : List ℕ) (at : ℕ → ℕ) where
  -- a byte that may be written: in the guest's frames, and not in the text
  pub record IsPlace (a : ℕ) : Type 0 where
    pub within : at a < 4096 * m.frames
    pub apart : IsApart m (at a) 1

  -- the guest's memory is still that over the host's, of which only the guest's frames changed
  pub record Keeps (now seen : List ℕ) : Type 0 where
    pub host : IsHost m now
    pub shown_is : seen ≡ shown m now
    pub long : length now ≡ length memory
    pub behind : drop (4096 * m.frames) now ≡ drop (4096 * m.frames) memory

  byte_kept : (now seen : List ℕ) (a v : ℕ) → Keeps now seen → IsPlace a → Keeps (with_byte now (at a) v) (with_byte seen (at a) v)
  byte_kept now seen a v k p = record {
    host = still_host m w now k.host (at a) v p.within p.apart;
    shown_is = ap (λ (x : List ℕ). with_byte x (at a) v) k.shown_is ∙ shown_with m w now k.host (at a) v p.within p.apart;
    long = still_long m w now k.host (at a) v p.within p.apart ∙ k.long;
    behind = drop-with_byte (4096 * m.frames) now (at a) v (let room = k.host.room in let lt = p.within in omega (arith, room, lt))
        p.within ∙ k.behind;
  }

  pub stores_kept : IsHost m memory → (ws : Stores) → AreStored IsPlace ws
      → Keeps (all_stored at memory (list_of ws)) (all_stored at (shown m memory) (list_of ws))
  stores_kept host ws h =
      all_kept at IsPlace Keeps byte_kept memory (shown m memory) ws (record { host = host; shown_is = refl; long = refl; behind = refl }) h

-- ---- a frame in which nothing is written

byte_beside : (now : List ℕ) (place v f : ℕ) → place < length now → (place / 4096 ≡ f → ⊥) → frame (with_byte now place v) f ≡ frame now f
unfolding with_byte
byte_beside now place v f lt other =
    let parts : 4096 * (place / 4096) + place % 4096 ≡ place = omega arith in
    let low : place % 4096 + 1 ≤ 4096 = omega arith in
    subst (λ (x : ℕ). frame (with_part now x (v ∷ [])) f ≡ frame now f) parts
    (frame-with_part now (place / 4096) (place % 4096) (v ∷ []) f (omega (arith, parts, lt)) low (λ e. other (sym e)))

module _ (memory : List ℕ) (at : ℕ → ℕ) (f : ℕ) where
  -- a place in the memory, outside the frame
  pub record IsBeside (a : ℕ) : Type 0 where
    pub within : at a < length memory
    pub other : at a / 4096 ≡ f → ⊥

  record Still (now seen : List ℕ) : Type 0 where
    pub long : length now ≡ length memory
    pub same : frame now f ≡ frame memory f

  byte_still : (now seen : List ℕ) (a v : ℕ) → Still now seen → IsBeside a → Still (with_byte now (at a) v) (with_byte seen (at a) v)
  byte_still now seen a v k p =
      let lt : at a < length now = let long = k.long in let within = p.within in omega (arith, long, within) in
      record { long = length-with_byte now (at a) v lt ∙ k.long; same = byte_beside now (at a) v f lt p.other ∙ k.same }

  pub frame_still : (ws : Stores) → AreStored IsBeside ws → frame (all_stored at memory (list_of ws)) f ≡ frame memory f
  frame_still ws h = (all_kept at IsBeside Still byte_still memory memory ws (record { long = refl; same = refl }) h).same
