-- A memory in which sites are patched.
use Rattle.std.proofs.Common.{◌≡◌, ℕ, ◌+◌, ◌-◌, ◌<◌, ◌≤◌, List, [], ◌∷◌, length, refl, sym, ap, subst, ◌∙◌, inl, inr, ◌⊎◌, arith}
use Rattle.std.specs.List.{Contains}
use Rattle.std.proofs.lemmas.List.{places, same_lists}
use Rattle.guest_ram.specs.Bytes.{byte, part, with_part}
use Rattle.guest_ram.proofs.Bytes.{length-with_part, byte-with_part_above, byte-with_part_below, part-with_part, part-with_part_below}
use Rattle.sites.specs.declared.site.Site.{Site}
use Rattle.sites.specs.Patched.{patch_bytes, patched}
use Rattle.sites.proofs.PatchSteps.{length-patch_bytes}
use Rattle.image_check.specs.Layout.{AreApart}
use Rattle.image_check.proofs.Laid.{first_in, later_in, first_or_later, none_in, apart_bounds}

none_patched : (m : List ℕ) (at : ℕ) → patched m at [] ≡ m
unfolding patched
none_patched m at = refl

one_patched : (m : List ℕ) (at : ℕ) (s : Site) (sites : List Site)
    → patched m at (s ∷ sites) ≡ patched (with_part m (at + s.at) (patch_bytes s.total)) at sites
unfolding patched
one_patched m at s sites = refl

-- what a patched site needs
module _ (m : List ℕ) (at from : ℕ) (s : Site) (sites : List Site) (to : ℕ) (h : AreApart from (s ∷ sites) to)
    (room : at + to ≤ length m) where
  long : length (patch_bytes s.total) ≡ s.total
  long = let most = h.1 in length-patch_bytes s.total (omega (arith, most))

  fits : (at + s.at) + length (patch_bytes s.total) ≤ length m
  fits = let ends = (apart_bounds from (s ∷ sites) to h s (first_in s sites)).2 in omega (arith, long, ends)

  same_length : length (with_part m (at + s.at) (patch_bytes s.total)) ≡ length m
  same_length = length-with_part m (at + s.at) (patch_bytes s.total) fits

pub patched_length : (m : List ℕ) (at from : ℕ) (sites : List Site) (to : ℕ) → AreApart from sites to → at + to ≤ length m
    → length (patched m at sites) ≡ length m
patched_length m at from [] to h room = ap length (none_patched m at)
patched_length m at from (s ∷ sites) to h room =
    let same = same_length m at from s sites to h room in
    ap length (one_patched m at s sites) ∙ patched_length (with_part m (at + s.at) (patch_bytes s.total)) at (s.at + s.total) sites to h.2
    (omega (arith, same)) ∙ same

-- a byte in no site
pub patched_byte : (m : List ℕ) (at from : ℕ) (sites : List Site) (to : ℕ) → AreApart from sites to → at + to ≤ length m → (k : ℕ)
    → ((site : Site) → Contains sites site → (k < at + site.at) ⊎ (at + site.at + site.total ≤ k)) → byte (patched m at sites) k ≡ byte m k
patched_byte m at from [] to h room k out = ap (λ (bs : List ℕ). byte bs k) (none_patched m at)
patched_byte m at from (s ∷ sites) to h room k out =
    let same = same_length m at from s sites to h room in
    ap (λ (bs : List ℕ). byte bs k) (one_patched m at s sites)
    ∙ patched_byte (with_part m (at + s.at) (patch_bytes s.total)) at (s.at + s.total) sites to h.2 (omega (arith, same)) k
    (λ site c. out site (later_in s sites site c))
    ∙ elim (out s (first_in s sites)) [
      | inl below ↦ byte-with_part_below m (at + s.at) (patch_bytes s.total) k (fits m at from s sites to h room) below
      | inr above ↦ byte-with_part_above m (at + s.at) (patch_bytes s.total) k (fits m at from s sites to h room)
          (omega (arith, above, long m at from s sites to h room))
    ]

-- a part below all sites
patched_below : (m : List ℕ) (at from : ℕ) (sites : List Site) (to : ℕ) → AreApart from sites to → at + to ≤ length m → (b n : ℕ) → b
    + n ≤ at + from → part (patched m at sites) b n ≡ part m b n
patched_below m at from [] to h room b n le = ap (λ (bs : List ℕ). part bs b n) (none_patched m at)
patched_below m at from (s ∷ sites) to h room b n le =
    let same = same_length m at from s sites to h room in
    let first = h.0 in
    ap (λ (bs : List ℕ). part bs b n) (one_patched m at s sites)
    ∙ patched_below (with_part m (at + s.at) (patch_bytes s.total)) at (s.at + s.total) sites to h.2 (omega (arith, same)) b n
    (omega (arith, first))
    ∙ part-with_part_below m (at + s.at) (patch_bytes s.total) b n (fits m at from s sites to h room) (omega (arith, first))

-- a site
pub patched_site : (m : List ℕ) (at from : ℕ) (sites : List Site) (to : ℕ) → AreApart from sites to → at + to ≤ length m → (site : Site)
    → Contains sites site → part (patched m at sites) (at + site.at) site.total ≡ patch_bytes site.total
patched_site m at from [] to h room site c = absurd (none_in site c)
patched_site m at from (s ∷ sites) to h room site c =
    let same = same_length m at from s sites to h room in
    ap (λ (bs : List ℕ). part bs (at + site.at) site.total) (one_patched m at s sites)
    ∙ elim (first_or_later s sites site c) [
      | inl e ↦ subst (λ (t : Site). part (patched (with_part m (at + s.at) (patch_bytes s.total)) at sites) (at + t.at) t.total
          ≡ patch_bytes t.total) e here
      | inr d ↦ patched_site (with_part m (at + s.at) (patch_bytes s.total)) at (s.at + s.total) sites to h.2 (omega (arith, same)) site d
    ]
  where
    here : part (patched (with_part m (at + s.at) (patch_bytes s.total)) at sites) (at + s.at) s.total ≡ patch_bytes s.total
    here =
        let same = same_length m at from s sites to h room in
        patched_below (with_part m (at + s.at) (patch_bytes s.total)) at (s.at + s.total) sites to h.2 (omega (arith, same)) (at + s.at)
        s.total (omega arith)
        ∙ part-with_part m (at + s.at) (patch_bytes s.total) s.total (fits m at from s sites to h room)
        (sym (long m at from s sites to h room))

-- a write inside a part
part_written : (m : List ℕ) (at n a : ℕ) (bs : List ℕ) → at + n ≤ length m → a + length bs ≤ n
    → part (with_part m (at + a) bs) at n ≡ with_part (part m at n) a bs
unfolding part with_part
part_written m at n a bs room le = same_lists _ _ (grind (arith, places)) (λ k d i. grind (arith, places))

pub patched_part : (m : List ℕ) (at from n : ℕ) (sites : List Site) → AreApart from sites n → at + n ≤ length m
    → part (patched m at sites) at n ≡ patched (part m at n) 0 sites
patched_part m at from n [] h room = ap (λ (bs : List ℕ). part bs at n) (none_patched m at) ∙ sym (none_patched (part m at n) 0)
patched_part m at from n (s ∷ sites) h room =
    let same = same_length m at from s sites n h room in
    let ends = (apart_bounds from (s ∷ sites) n h s (first_in s sites)).2 in
    let zero_up : 0 + s.at ≡ s.at = omega arith in
    ap (λ (bs : List ℕ). part bs at n) (one_patched m at s sites)
    ∙ patched_part (with_part m (at + s.at) (patch_bytes s.total)) at (s.at + s.total) n sites h.2 (omega (arith, same))
    ∙ ap (λ (bs : List ℕ). patched bs 0 sites)
    (part_written m at n s.at (patch_bytes s.total) room (omega (arith, long m at from s sites n h room, ends)))
    ∙ ap (λ k. patched (with_part (part m at n) k (patch_bytes s.total)) 0 sites) (sym zero_up)
    ∙ sym (one_patched (part m at n) 0 s sites)
