-- What the laws of an accepted image say of its text.
use Rattle.std.specs.Prelude.{◌≡◌, ℕ, ◌+◌, ◌<◌, ◌≤◌, List, ◌++◌, length, true, None}
use Rattle.std.specs.List.{Contains}
use Rattle.guest_ram.specs.Bytes.{part}
use Rattle.ia32_types.specs.Site.{sensitive_kind}
use Rattle.ia32_types.specs.declared.flags.Regs.{Regs}
use Rattle.ia32_exec.specs.declared.outcome.Outcome.TheVariants.{Done}
use Rattle.ia32_exec.specs.declared.outcome.Stores.{Stores}
use Rattle.ia32_exec.specs.Effect.{effect}
use Rattle.ia32_decode.specs.Decoding.{decoded}
use Rattle.ia32_decode.specs.declared.answer.Decoded.TheVariants as begins
use Rattle.sites.specs.Patched.{patched}
use Rattle.image_check.specs.Image.{Image}
use Rattle.image_check.specs.Sweep.{Swept}
use Rattle.image_check.specs.Places.{is_start, linear}
use Rattle.image_check.specs.Standing.{swept_of, StandsOutside}
use Rattle.image_laws.specs.WaysIn.{IsWayIn}

pub record TextLaws (image : Image) : Type 0 where
  pub whole : (s : Swept) → Contains (swept_of image.text) s → (n : ℕ) → s.len ≤ n → (more : List ℕ)
      → decoded (part image.text s.at n ++ more) ≡ begins.Insn s.insn s.len
  pub whole_patched : (s : Swept) → StandsOutside image s → (n : ℕ) → s.len ≤ n → (more : List ℕ)
      → decoded (part (patched image.text 0 image.sites) s.at n ++ more) ≡ begins.Insn s.insn s.len
  pub cut : (s : Swept) → Contains (swept_of image.text) s → (n : ℕ) → n < s.len → decoded (part image.text s.at n) ≡ begins.Short
  pub cut_patched : (s : Swept) → StandsOutside image s → (n : ℕ) → n < s.len
      → decoded (part (patched image.text 0 image.sites) s.at n) ≡ begins.Short
  pub instruction : (at : ℕ) → is_start image.text at ≡ true → (s : Swept) × Contains (swept_of image.text) s × (s.at ≡ at)
  pub room : (s : Swept) → Contains (swept_of image.text) s → (1 ≤ s.len) × (s.len ≤ 11) × (s.at + s.len ≤ length image.text)
  pub insensitive : (s : Swept) → StandsOutside image s → sensitive_kind s.insn ≡ None
  pub goes_on : (s : Swept) → StandsOutside image s → (r : Regs) → r.eip ≡ linear s.at → (b : ℕ → ℕ) (after : Regs) (stores : Stores)
      → effect s.insn s.len r b ≡ Done after stores
      → (at : ℕ) × (after.eip ≡ linear at) × IsWayIn image at
