-- Each cause holds exactly where its condition does, and a refusal is the first cause that holds.
use Rattle.std.proofs.Common.{◌≡◌, ℕ, List, map, Option, Some, None, Result, Ok, Err, refl, sym, ap, ◌∙◌}
use Rattle.std.specs.Prelude.{◌↔◌}
use Rattle.plain_laws.proofs.Options.{not_some}
use Rattle.ia32_rows.specs.Spells.{AreBytes}
use Rattle.elf_form.specs.ImageParts.{ImageParts}
use Rattle.elf_form.specs.Order.{IsFirstOf, IsLowest}
use Rattle.sites.specs.declared.site.Site.{Site}
use Rattle.sites.specs.Formats.{listed}
use Rattle.image_check.specs.declared.fault.CheckCause.{CheckCause}
use Rattle.image_check.specs.declared.fault.CheckCause.TheVariants.{TextPlace, InitPlace, TextSize, InitSize, EntryPlace, RefusedCode, BadCode, TextEnd, SiteWrong, SitesForm, Target, EntryStart}
use Rattle.image_check.specs.declared.piece.Piece.{Piece}
use Rattle.image_check.specs.Image.{Image}
use Rattle.image_check.specs.Sweep.{Swept, sweep}
use Rattle.image_check.specs.Pieces.{piece_of}
use Rattle.image_check.specs.Targets.{is_entrance, wrong_target}
use Rattle.image_check.specs.Refusals.{Refusal, Wrong}
use Rattle.image_check.specs.Conditions.{site_wrong, entry_at, entry_start}
use Rattle.image_check.specs.Checking.{image_from}
use Rattle.image_check.specs.Accepts.{IsEntrance}
use Rattle.image_check.specs.Causes.{form_stop, of_both, wrong, causes}
use Rattle.image_check.specs.Reasons.{BothRead, IsWrongAt, LeadsAstray, IsWrong, IsRefused}
use Rattle.elf_form.proofs.FirstCauses.{first_in_list, list_first}
use Rattle.image_check.proofs.CauseLaws.{first_exact}
use Rattle.image_check.proofs.SweepLaws.{sweep_exact}
use Rattle.image_check.proofs.PlaceReasons.{some, text_place_is, init_place_is, text_size_is, init_size_is, entry_place_is, refused_stop_is, bad_stop_is, text_end_so, so_text_end}
use Rattle.image_check.proofs.SiteReasons.{site_wrong_so, so_site_wrong}
use Rattle.image_check.proofs.TargetReasons.{target_so, so_target, entry_so, so_entry}

-- ---- annotations

form_so : (r : Result (List Site) ℕ) (at : ℕ) → form_stop r ≡ Some at → r ≡ Err at
form_so (Ok sites) at e = absurd cc
form_so (Err k) at e = let same : k ≡ at = cc in ap (λ n. Err n) same

both_so : (r : Result (List Swept) ℕ) (s : Result (List Site) ℕ) (f : List Piece → List Site → Option ℕ) (at : ℕ) → of_both r s f ≡ Some at
    → (swept : List Swept) × (sites : List Site) × (r ≡ Ok swept) × (s ≡ Ok sites) × (f (map piece_of swept) sites ≡ Some at)
both_so (Ok swept) (Ok sites) f at e = (swept, sites, refl, refl, e)
both_so (Ok swept) (Err k) f at e = absurd cc
both_so (Err k) s f at e = absurd cc

so_both : (r : Result (List Swept) ℕ) (s : Result (List Site) ℕ) (f : List Piece → List Site → Option ℕ) (at : ℕ) (swept : List Swept)
    (sites : List Site) → r ≡ Ok swept → s ≡ Ok sites → f (map piece_of swept) sites ≡ Some at → of_both r s f ≡ Some at
so_both r s f at swept sites e d h = rw (e, d) h

module _ (parts : ImageParts) (fit : AreBytes parts.text) (at : ℕ) (f : List Piece → List Site → Option ℕ)
    (P : List Swept → List Site → Type 0) where
  both_read_so : ((swept : List Swept) (sites : List Site) → f (map piece_of swept) sites ≡ Some at → P swept sites)
      → of_both (sweep parts.text) (listed parts.sites) f ≡ Some at → (b : BothRead parts) × P b.swept b.sites
  both_read_so h e =
      let b = both_so (sweep parts.text) (listed parts.sites) f at e in
      (record { swept = b.0; sweep = (sweep_exact parts.text fit b.0).0 b.2; sites = b.1; read = b.3 }, h b.0 b.1 b.4)

  so_both_read : ((swept : List Swept) (sites : List Site) → P swept sites → f (map piece_of swept) sites ≡ Some at) → (b : BothRead parts)
      × P b.swept b.sites → of_both (sweep parts.text) (listed parts.sites) f ≡ Some at
  so_both_read h b = so_both (sweep parts.text) (listed parts.sites) f at b.0.swept b.0.sites
      ((sweep_exact parts.text fit b.0.swept).1 b.0.sweep) b.0.read (h b.0.swept b.0.sites b.1)

-- ---- all causes

pub wrong_is : (parts : ImageParts) → AreBytes parts.text → (cause : CheckCause) (at : ℕ)
    → (wrong parts cause ≡ Some at) ↔ IsWrong cause parts at
wrong_is parts fit TextPlace at = text_place_is parts at
wrong_is parts fit InitPlace at = init_place_is parts at
wrong_is parts fit TextSize at = text_size_is parts at
wrong_is parts fit InitSize at = init_size_is parts at
wrong_is parts fit EntryPlace at = entry_place_is parts at
wrong_is parts fit RefusedCode at = refused_stop_is parts.text fit at
wrong_is parts fit BadCode at = bad_stop_is parts.text fit at
wrong_is parts fit TextEnd at = (text_end_so parts.text fit at, so_text_end parts.text fit at)
wrong_is parts fit SitesForm at = (form_so (listed parts.sites) at, λ e. ap form_stop e)
wrong_is parts fit SiteWrong at =
    let f : List Piece → List Site → Option ℕ = λ ps ss. site_wrong ss ps in
    let P : List Swept → List Site → Type 0 = λ swept sites. IsLowest (IsWrongAt swept sites) at in (
      both_read_so parts fit at f P (λ swept sites e. site_wrong_so swept sites at e),
      so_both_read parts fit at f P (λ swept sites h. so_site_wrong swept sites at h),
    )
wrong_is parts fit Target at =
    let f : List Piece → List Site → Option ℕ = λ ps ss. wrong_target (is_entrance ps ss) ps in
    let P : List Swept → List Site → Type 0 = λ swept sites. LeadsAstray swept sites at in (
      both_read_so parts fit at f P (λ swept sites e. target_so swept sites at e),
      so_both_read parts fit at f P (λ swept sites h. so_target swept sites at h),
    )
wrong_is parts fit EntryStart at =
    let P : List Swept → List Site → Type 0 = λ swept sites. (IsEntrance swept sites (entry_at parts) → ⊥) × (at ≡ entry_at parts) in (
      (λ e. let h = both_read_so parts fit at (entry_start parts) P (λ swept sites is. entry_so parts swept sites at is) e in
          (h.0, h.1.0, h.1.1)),
      (λ h. so_both_read parts fit at (entry_start parts) P (λ swept sites is. so_entry parts swept sites at is) (h.0, (h.1, h.2))),
    )

-- ---- the order

none_so : (o : Option ℕ) (at : ℕ) → o ≡ None → o ≡ Some at → ⊥
none_so o at none is = let h : none_of ≡ some at = sym none ∙ is in cc where
  none_of : Option ℕ
  none_of = None

module _ (parts : ImageParts) (fit : AreBytes parts.text) (at : ℕ) (cause : CheckCause) where
  pub refused_so : IsFirstOf (wrong parts) causes at cause → IsRefused parts at cause
  refused_so h =
      let f = first_in_list CheckCause (wrong parts) causes at cause h in
      record {
        index = f.index;
        there = f.there;
        wrong = (wrong_is parts fit cause at).0 f.is;
        before = λ j c place lt there is. none_so (wrong parts c) place (f.before j c lt there) ((wrong_is parts fit c place).1 is);
      }

  pub so_refused : IsRefused parts at cause → IsFirstOf (wrong parts) causes at cause
  so_refused h = list_first CheckCause (wrong parts) causes at cause h.index h.there ((wrong_is parts fit cause at).1 h.wrong)
      (λ j c lt there. not_some (wrong parts c) (λ place is. h.before j c place lt there ((wrong_is parts fit c place).0 is)))

abbrev no_image : Refusal → Result Image Refusal
no_image refusal = Err refusal

pub refused_exact : (parts : ImageParts) → AreBytes parts.text → (at : ℕ) (cause : CheckCause)
    → (image_from parts ≡ no_image (Wrong at cause)) ↔ IsRefused parts at cause
refused_exact parts fit at cause = (
  (λ e. refused_so parts fit at cause ((first_exact parts at cause).0 e)),
  (λ h. (first_exact parts at cause).1 (so_refused parts fit at cause h)),
)
