-- Instructions of an accepted image, in sites and outside them.
use Rattle.std.proofs.Common.{◌≡◌, ℕ, ◌+◌, ◌-◌, ◌<◌, ◌≤◌, [], length, take, drop, Some, None, subst, inl, inr, ◌⊎◌, arith}
use Rattle.std.specs.List.{Contains}
use Rattle.std.proofs.lemmas.List.{length-take}
use Rattle.ia32_types.specs.Site.{sensitive_kind}
use Rattle.ia32_rows.proofs.TableLaws.{at_most_eleven}
use Rattle.ia32_decode.specs.Answer.{Begins}
use Rattle.sites.specs.declared.site.Site.{Site}
use Rattle.image_check.specs.Image.{Image}
use Rattle.image_check.specs.Sweep.{Swept}
use Rattle.image_check.specs.Accepts.{IsAccepted}
use Rattle.image_check.specs.Layout.{PartOf, BeginsSite}
use Rattle.image_check.specs.Standing.{swept_of, site_at, StandsOutside, StandsInside}
use Rattle.image_check.proofs.Laid.{IsClear, IsHeld, apart_bounds}
use Rattle.image_check.proofs.Layouts.{sweeps, laid_in, apart, lies, site_listed, listed_site, none_around, around_none}
use Rattle.image_laws.proofs.Instructions.{between, begun_there}

module _ (image : Image) (h : IsAccepted image) where
  pub site_there : (at : ℕ) (site : Site) → Contains image.sites site → site.at ≤ at → at < site.at + site.total
      → site_at image.sites at ≡ Some site
  site_there at site c le lt = listed_site 0 at image.sites (length image.text) (apart image h) site c le lt

  pub room : (s : Swept) → Contains (swept_of image.text) s → (1 ≤ s.len) × (s.at + s.len ≤ length image.text)
  room s c = let b = between 0 image.text (swept_of image.text) (length image.text) [] (sweeps image h) s c in (b.1, b.2)

  pub begun : (s : Swept) → Contains (swept_of image.text) s → Begins (drop s.at image.text) s.insn s.len
  begun s c =
      let same : s.at - 0 ≡ s.at = omega arith in
      subst (λ (k : ℕ). Begins (drop k image.text) s.insn s.len) same
      (begun_there 0 image.text (swept_of image.text) (length image.text) [] (sweeps image h) s c)

  -- ---- outside sites

  not_held : (s : Swept) → Contains (swept_of image.text) s → site_at image.sites s.at ≡ None → IsHeld image.sites s → ⊥
  not_held s c out held =
      let some = (room s c).0 in
      let begins = held.begins in
      let ends = held.ends in
      elim (none_around s.at image.sites out held.site held.listed) [
        | inl below ↦ omega (arith, begins, below)
        | inr above ↦ omega (arith, some, ends, above)
      ]

  pub clear : (s : Swept) → StandsOutside image s → IsClear image.sites s
  clear s out =
      elim (lies image h s out.stands).where_it_lies [
        | inl is ↦ is
        | inr held ↦ absurd (not_held s out.stands out.outside held)
      ]

  pub insensitive : (s : Swept) → StandsOutside image s → sensitive_kind s.insn ≡ None
  insensitive s out = (clear s out).insensitive

  pub outside_apart : (s : Swept) → StandsOutside image s → (site : Site) → Contains image.sites site → (s.at + s.len ≤ site.at)
      ⊎ (site.at + site.total ≤ s.at)
  outside_apart s out site c = (clear s out).apart site c

  pub outside_bytes : (s : Swept) → StandsOutside image s → (k : ℕ) → s.at ≤ k → k < s.at + s.len → site_at image.sites k ≡ None
  outside_bytes s out k le lt =
      around_none k image.sites (λ site c. elim (outside_apart s out site c) [
        | inl below ↦ inl (omega (arith, below, lt))
        | inr above ↦ inr (omega (arith, above, le))
      ])

  pub rooms : (s : Swept) → Contains (swept_of image.text) s → (1 ≤ s.len) × (s.len ≤ 11) × (s.at + s.len ≤ length image.text)
  rooms s c =
      let r = room s c in
      let b = begun s c in
      let most = at_most_eleven (take s.len (drop s.at image.text)) s.insn b.front in
      let within = b.within in
      (r.0, omega (arith, most, within, length-take s.len (drop s.at image.text)), r.1)

  -- ---- in sites

  pub first_part : (site : Site) → Contains image.sites site → (s : Swept) × StandsInside image site s × BeginsSite site s
  first_part site c =
      let f = (laid_in image h).firsts site c in
      let b = apart_bounds 0 image.sites (length image.text) (apart image h) site c in
      let some = b.1 in
      let place = place_is f.0 f.2 in
      (f.0, record { stands = f.1; inside = site_there f.0.at site c (omega (arith, place)) (omega (arith, place, some)) }, f.2)
    where
      place_is : (s : Swept) → BeginsSite site s → s.at ≡ site.at
      place_is s (inl alone) = alone.place
      place_is s (inr pair) = pair.place

  pub held : (site : Site) (s : Swept) → StandsInside image site s → PartOf site s × (site.at ≤ s.at)
      × (s.at + s.len ≤ site.at + site.total)
  held site s is =
      let listed = site_listed s.at image.sites site is.inside in
      elim (lies image h s is.stands).where_it_lies [
        | inl clear ↦ absurd (inside_clear listed clear)
        | inr one ↦
            let some = (room s is.stands).0 in
            let begins = one.begins in
            let ends = one.ends in
            let there = site_there s.at one.site one.listed begins (omega (arith, some, ends)) in
            let same : one.site ≡ site = cc (there, is.inside) in
            subst (λ (t : Site). PartOf t s × (t.at ≤ s.at) × (s.at + s.len ≤ t.at + t.total)) same (one.part, begins, ends)
      ]
    where
      inside_clear : Contains image.sites site × (site.at ≤ s.at) × (s.at < site.at + site.total) → IsClear image.sites s → ⊥
      inside_clear listed clear =
          let some = (room s is.stands).0 in
          let le = listed.1 in
          let lt = listed.2 in
          elim (clear.apart site listed.0) [
            | inl below ↦ omega (arith, some, le, below)
            | inr above ↦ omega (arith, lt, above)
          ]
