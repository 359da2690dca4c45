-- A file has few bytes, and so have its annotations.
use Rattle.std.proofs.Common.{◌≡◌, ℕ, ◌+◌, ◌<◌, ◌≤◌, ◌^◌, Bool, true, false, cond, List, [], length, drop, Option, Some, None, refl, sym, ap, subst, ◌∙◌, nat_lt, arith}
use Rattle.std.proofs.lemmas.Bool.Decides.{nat_tests}
use Rattle.std.proofs.lemmas.List.{length-take, length-drop}
use Rattle.ia32_rows.specs.Spells.{AreBytes}
use Rattle.ia32_rows.proofs.Readers.{AreBytes-take}
use Rattle.image_check.proofs.SweepLaws.{AreBytes-drop}
use Rattle.guest_ram.specs.Bytes.{word32, part}
use Rattle.elf_form.specs.declared.cause.ElfCause.TheVariants.{Sizes}
use Rattle.elf_form.specs.ImageParts.{ImageParts}
use Rattle.elf_form.specs.Faults.{◌or_lower◌}
use Rattle.elf_form.specs.Header.{has_contents, wrong_half}
use Rattle.elf_form.specs.Segments.{sizes, too_long, memory_sizes, loads}
use Rattle.elf_form.specs.Sections.{contents}
use Rattle.elf_form.specs.Reading.{parts_at, wrong_image}
use Rattle.elf_form.specs.Accepted.{ImageAs}

second_none : (a b : Option ℕ) → (a or_lower b) ≡ None → b ≡ None
second_none None b e = e
second_none (Some a) None e = refl
second_none (Some a) (Some b) e = absurd (some_lower (nat_lt b a) e) where
  some_lower : (c : Bool) → cond c (Some b) (Some a) ≡ None → ⊥
  some_lower true h = cc
  some_lower false h = cc

not_long : (bytes : List ℕ) → too_long bytes ≡ None → length bytes ≤ 33554432
not_long bytes e = grind (arith, nat_tests)

sizes_short : (bytes : List ℕ) → sizes bytes ≡ None → length bytes ≤ 33554432
unfolding sizes
sizes_short bytes e =
    let a = second_none (wrong_half 40 52 bytes) _ e in
    let b = second_none (wrong_half 42 32 bytes) _ a in
    let c = second_none (wrong_half 46 40 bytes) _ b in
    not_long bytes (second_none (memory_sizes bytes (loads bytes)) (too_long bytes) c)

part_short : (bytes : List ℕ) (at n : ℕ) → length (part bytes at n) ≤ length bytes
unfolding part
part_short bytes at n = simp (length-take, length-drop) (omega arith)

contents_short : (bytes : List ℕ) (s : ℕ) → length (contents bytes s) ≤ length bytes
unfolding contents
contents_short bytes s = by_test (has_contents bytes s) where
  by_test : (b : Bool) → length (cond b (part bytes (word32 bytes (s + 16)) (word32 bytes (s + 20))) []) ≤ length bytes
  by_test true = part_short bytes (word32 bytes (s + 16)) (word32 bytes (s + 20))
  by_test false = omega arith

sites_are : (bytes : List ℕ) (t d s : ℕ) → (parts_at bytes t d s).sites ≡ contents bytes s
unfolding parts_at
sites_are bytes t d s = refl

pub few_sites : (bytes : List ℕ) (image : ImageParts) → ImageAs bytes image → length image.sites < 2 ^ 32
unfolding wrong_image
few_sites bytes image is =
    let limit = sizes_short bytes (is.sound Sizes) in
    let e : image.sites ≡ contents bytes is.sites = ap (λ (p : ImageParts). p.sites) is.parts ∙ sites_are bytes is.text is.init is.sites in
    let few = contents_short bytes is.sites in
    omega (arith, limit, few, ap length e)

-- ---- bytes

part_bytes : (bytes : List ℕ) (at n : ℕ) → AreBytes bytes → AreBytes (part bytes at n)
unfolding part
part_bytes bytes at n fit = AreBytes-take n (drop at bytes) (AreBytes-drop at bytes fit)

text_is : (bytes : List ℕ) (t d s : ℕ) → (parts_at bytes t d s).text ≡ part bytes (word32 bytes (t + 4)) (word32 bytes (t + 16))
unfolding parts_at
text_is bytes t d s = refl

pub text_bytes : (bytes : List ℕ) (image : ImageParts) → ImageAs bytes image → AreBytes bytes → AreBytes image.text
text_bytes bytes image is fit =
    subst AreBytes (sym (ap (λ (p : ImageParts). p.text) is.parts ∙ text_is bytes is.text is.init is.sites)) (part_bytes bytes _ _ fit)
