-- Writes leave all frames but those of their range.
use Rattle.std.proofs.Common.{◌≡◌, ℕ, ◌+◌, ◌*◌, ◌/◌, ◌%◌, ◌<◌, List, [], ◌∷◌, length, Bool, true, false, cond, eqb, refl, ◌∙◌, arith}
use Rattle.guest_ram.specs.Bytes.{with_byte, frame}
use Rattle.guest_ram.proofs.Bytes.{frame-with_part, length-with_byte}
use Rattle.host_cpl3.specs.declared.reach.Reach.{Reach}
use Rattle.host_cpl3.specs.KeptWalks.{SameBut}
use Rattle.host_cpl3.specs.Reaches.{placed}

pub but_refl : (m : List ℕ) (first last : ℕ) → SameBut m m first last
but_refl m first last = record { len = refl; frames = λ f a b. refl }

pub but_trans : {m m' m'' : List ℕ} {first last : ℕ} → SameBut m m' first last → SameBut m' m'' first last → SameBut m m'' first last
but_trans h k = record { len = k.len ∙ h.len; frames = λ f a b. k.frames f a b ∙ h.frames f a b }

byte_in : (m : List ℕ) (n o v f : ℕ) → 4096 * n + o < length m → o < 4096 → (f ≡ n → ⊥) → frame (with_byte m (4096 * n + o) v) f ≡ frame m f
unfolding with_byte
byte_in m n o v f inside low ne = frame-with_part m n o (v ∷ []) f (omega arith) (omega arith) ne

byte_at : (m : List ℕ) (first last o v f : ℕ) (b : Bool) → 4096 * cond b first last + o < length m → o < 4096 → (f ≡ first → ⊥)
    → (f ≡ last → ⊥) → frame (with_byte m (4096 * cond b first last + o) v) f ≡ frame m f
byte_at m first last o v f true inside low a z = byte_in m first o v f inside low a
byte_at m first last o v f false inside low a z = byte_in m last o v f inside low z

pub but_byte : (m : List ℕ) (x : Reach) (at v : ℕ) → placed x at < length m → SameBut m (with_byte m (placed x at) v) x.first x.last
but_byte m x at v inside = record {
  len = length-with_byte m (placed x at) v inside;
  frames = λ f a b. let low : at % 4096 < 4096 =
      omega arith in byte_at m x.first x.last (at % 4096) v f (eqb (at / 4096) (x.at / 4096)) inside low a b;
}
