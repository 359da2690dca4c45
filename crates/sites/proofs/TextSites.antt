-- The sites of a text in the format that they are written in.
use Rattle.std.proofs.Common.{◌≡◌, ℕ, suc, ◌+◌, ◌*◌, ◌<◌, ◌≤◌, ◌^◌, Bool, true, false, cond, ltb, List, [], ◌∷◌, length, ◌⊎◌, inl, inr, Result, Ok, Err, IfOk, refl, arith}
use Rattle.std.specs.Prelude.{All}
use Rattle.std.proofs.lemmas.Bool.{ltb-true}
use Rattle.sites.specs.declared.site.Site.{Site}
use Rattle.sites.specs.declared.site.SitesFault.{SitesFault}
use Rattle.sites.specs.declared.limits.TheConstants.{SHORT_TEXT}
use Rattle.sites.specs.SitesParts.{SitesParts}
use Rattle.sites.specs.Spelling.{placed, gapped, spelling}
use Rattle.sites.specs.Form.{AreSites, AreInForm, AreGapped, AreInGaps, IsWritable, IsInForm}
use Rattle.sites.specs.Limits.{format_of, in_text}
use Rattle.sites.proofs.Formats.{length-placed, length-gapped}

format_on : (b : Bool) (P Q : Type 0) → P → (b ≡ true → Q) → ((cond {A = ℕ} b 2 1 ≡ 1) × P) ⊎ ((cond {A = ℕ} b 2 1 ≡ 2) × Q)
format_on true P Q p q = inr (refl, q refl)
format_on false P Q p q = inl (refl, p)

by_format : (text : ℕ) (P Q : Type 0) → P → (SHORT_TEXT < text → Q) → ((format_of text ≡ 1) × P) ⊎ ((format_of text ≡ 2) × Q)
unfolding format_of
by_format text P Q p q = format_on (ltb SHORT_TEXT text) P Q p (λ h. q (ltb-true SHORT_TEXT text h))

pub writable : (text : ℕ) (sites : List Site) → AreSites 0 sites → (SHORT_TEXT < text → AreGapped 0 sites) → IsWritable (in_text text sites)
writable text sites are gaps = by_format text (AreSites 0 sites) (AreGapped 0 sites) are gaps

pub in_form : (text : ℕ) (sites : List Site) → AreInForm 0 sites → (SHORT_TEXT < text → AreInGaps 0 sites) → IsInForm (in_text text sites)
in_form text sites are gaps = by_format text (AreInForm 0 sites) (AreInGaps 0 sites) are gaps

-- at most eight bytes a site
length_on : (b : Bool) (xs ys : List ℕ) (n : ℕ) → length xs ≤ n → length ys ≤ n → length (cond b xs ys) ≤ n
length_on true xs ys n x y = x
length_on false xs ys n x y = y

pub length-spelling : (s : SitesParts) → length (spelling s) ≤ 8 + 8 * length s.list
unfolding spelling
length-spelling s = length_on _ (gapped s.list) (placed s.list) (8 + 8 * length s.list) (omega (arith, length-gapped s.list))
    (omega (arith, length-placed s.list))

-- sites that follow one another are in the form of both formats
pub forms : (least from : ℕ) (sites : List Site) → least ≤ from → AreInGaps from sites → AreInForm least sites
forms least from [] le h = tt
forms least from (s ∷ sites) le (rises, near, some, most, total, end, rest) =
    (omega arith, omega arith, omega arith, total, forms (s.at + 1) (s.at + s.total) sites (omega (arith, total, some)) rest)

pub gaps_of : (from : ℕ) (sites : List Site) → AreInGaps from sites → AreGapped from sites
gaps_of from [] h = tt
gaps_of from (s ∷ sites) (rises, near, some, most, total, end, rest) = (rises, near, some, most, total, gaps_of (s.at + s.total) sites rest)

pub in_gaps : (from end : ℕ) (sites : List Site) → AreGapped from sites → All (λ (s : Site). s.at + s.total ≤ end) sites → end < 2 ^ 32
    → AreInGaps from sites
in_gaps from end [] h below small = tt
in_gaps from end (s ∷ sites) (rises, near, some, most, total, rest) below small =
    let here : s.at + s.total ≤ end = below 0 s (omega arith) in
    (rises, near, some, most, total, omega arith, in_gaps (s.at + s.total) end sites rest (λ k d lt. below (suc k) d (omega arith)) small)

-- of what `read_sites` returned
pub rises : (s : SitesParts) → IsInForm s → AreInForm 0 s.list
rises s (inl (is, are)) = are
rises s (inr (is, are)) = forms 0 0 s.list (omega arith) are

pub if_rising : (bytes : List ℕ) (r : Result SitesParts SitesFault) → IfOk r (λ s. (bytes ≡ spelling s) × IsInForm s)
    → IfOk r (λ s. AreInForm 0 s.list)
if_rising bytes (Ok s) h = rises s h.1
if_rising bytes (Err e) h = tt
