-- The chain of tests gives the first cause by which an image is wrong.
use Rattle.std.proofs.Common.{◌≡◌, ℕ, Bool, true, false, cond, List, [], ◌∷◌, drop, map, Option, Some, None, Result, Ok, Err, refl, sym, ap, ◌∙◌, inl, inr, ◌⊎◌}
use Rattle.std.specs.Prelude.{◌↔◌}
use Rattle.elf_form.specs.ImageParts.{ImageParts}
use Rattle.elf_form.specs.Order.{IsFirstOf}
use Rattle.sites.specs.declared.site.Site.{Site}
use Rattle.sites.specs.Formats.{listed}
use Rattle.image_check.specs.declared.fault.CheckCause.{CheckCause}
use Rattle.image_check.specs.declared.fault.CheckCause.TheVariants.{TextPlace, InitPlace, TextSize, InitSize, EntryPlace, RefusedCode, BadCode, TextEnd, SiteWrong, SitesForm, Target, EntryStart}
use Rattle.image_check.specs.declared.piece.Piece.{Piece}
use Rattle.image_check.specs.Image.{Image}
use Rattle.image_check.specs.Sweep.{Swept, sweep}
use Rattle.elf_form.specs.Faults.{◌>>=◌}
use Rattle.image_check.specs.Refusals.{Refusal, Wrong, test}
use Rattle.image_check.specs.Pieces.{is_refused, piece_of, pieces_of, pieces_in}
use Rattle.image_check.specs.Targets.{is_entrance, wrong_target}
use Rattle.image_check.specs.Conditions.{text_place, init_place, text_size, init_size, entry_place, text_end, site_wrong, entry_start}
use Rattle.image_check.specs.Checking.{as_sites, placed, annotated, entered, image_with, image_from}
use Rattle.image_check.specs.Causes.{wrong_by, wrong, causes}

abbrev Told : Type 0
Told = Result (Unit {0}) Refusal

abbrev refusal_is : Refusal → Told
refusal_is refusal = Err refusal

abbrev told : Result Image Refusal → Told
told (Ok image) = Ok tt
told (Err refusal) = Err refusal

pub chain : List CheckCause → ImageParts → Result (List Swept) ℕ → Result (List Site) ℕ → Told
chain [] parts swept sites = Ok tt
chain (c ∷ later) parts swept sites = test c (wrong_by c parts swept sites) >>= λ _. chain later parts swept sites

-- the tests one after the other, whatever follows them
five : (a b c d e : Option ℕ) (k : Result Image Refusal)
    → told ((test TextPlace a >>= λ _. (test InitPlace b >>= λ _. (test TextSize c >>= λ _. (test InitSize d >>= λ _. test EntryPlace e))))
    >>= λ _. k)
    ≡ (test TextPlace a >>= λ _.
    (test InitPlace b >>= λ _. (test TextSize c >>= λ _. (test InitSize d >>= λ _. (test EntryPlace e >>= λ _. told k)))))
five (Some a) b c d e k = refl
five None (Some b) c d e k = refl
five None None (Some c) d e k = refl
five None None None (Some d) e k = refl
five None None None None (Some e) k = refl
five None None None None None k = refl

-- what comes after the sweep
abbrev behind : ImageParts → List Piece → Result (List Site) ℕ → Result Image Refusal
behind parts ps sites =
    (test TextEnd (text_end parts.text ps) >>= λ _. (as_sites sites >>= λ ss. (test SiteWrong (site_wrong ss ps) >>= λ _. Ok ss)))
    >>= λ ss. ((test Target (wrong_target (is_entrance ps ss) ps) >>= λ _. test EntryStart (entry_start parts ps ss)) >>= λ _. Ok
    (image_with parts ss))

abbrev last_two : ImageParts → List Piece → List Site → Result Image Refusal
last_two parts ps ss =
    (test Target (wrong_target (is_entrance ps ss) ps) >>= λ _. test EntryStart (entry_start parts ps ss)) >>= λ _. Ok (image_with parts ss)

two : (a b : Option ℕ) (image : Image) → told ((test Target a >>= λ _. test EntryStart b) >>= λ _. Ok image)
    ≡ (test Target a >>= λ _. (test EntryStart b >>= λ _. Ok tt))
two (Some a) b image = refl
two None (Some b) image = refl
two None None image = refl

site_then : (a : Option ℕ) (ss : List Site) (k : List Site → Result Image Refusal)
    → told ((test SiteWrong a >>= λ _. Ok ss) >>= k) ≡ (test SiteWrong a >>= λ _. told (k ss))
site_then (Some a) ss k = refl
site_then None ss k = refl

end_ok : (a : Option ℕ) (r : Result (List Site) Refusal) (k : List Site → Result Image Refusal)
    → told ((test TextEnd a >>= λ _. r) >>= k) ≡ (test TextEnd a >>= λ _. told (r >>= k))
end_ok (Some a) r k = refl
end_ok None r k = refl

abbrev after_end : ImageParts → List Piece → List Site → Told
after_end parts ps ss = test SiteWrong (site_wrong ss ps)
    >>= λ _. (test Target (wrong_target (is_entrance ps ss) ps) >>= λ _. (test EntryStart (entry_start parts ps ss) >>= λ _. Ok tt))

behind_ok : (parts : ImageParts) (ps : List Piece) (ss : List Site)
    → told (behind parts ps (Ok ss)) ≡ (test TextEnd (text_end parts.text ps) >>= λ _. after_end parts ps ss)
behind_ok parts ps ss =
    end_ok (text_end parts.text ps) (test SiteWrong (site_wrong ss ps) >>= λ _. Ok ss) (last_two parts ps)
    ∙ ap (λ (r : Told). test TextEnd (text_end parts.text ps) >>= λ _. r)
    (site_then (site_wrong ss ps) ss (last_two parts ps)
    ∙ ap (λ (r : Told). test SiteWrong (site_wrong ss ps) >>= λ _. r)
    (two (wrong_target (is_entrance ps ss) ps) (entry_start parts ps ss) (image_with parts ss)))

behind_form : (parts : ImageParts) (ps : List Piece) (at : ℕ)
    → told (behind parts ps (Err at)) ≡ (test TextEnd (text_end parts.text ps) >>= λ _. Err (Wrong at SitesForm))
behind_form parts ps at = end_ok (text_end parts.text ps) (Err (Wrong at SitesForm)) (last_two parts ps)

abbrev swept_then : ImageParts → Result (List Swept) ℕ → Result (List Site) ℕ → Result Image Refusal
swept_then parts swept sites = pieces_of parts.text swept >>= λ ps. behind parts ps sites

abbrev late : List CheckCause
late = RefusedCode ∷ BadCode ∷ TextEnd ∷ SitesForm ∷ SiteWrong ∷ Target ∷ EntryStart ∷ []

stop_told : (b : Bool) (at : ℕ) (rest : Told) (parts : ImageParts)
    → refusal_is (Wrong at (cond b RefusedCode BadCode))
    ≡ (test RefusedCode (cond b (Some at) None) >>= λ _. (test BadCode (cond b None (Some at)) >>= λ _. rest))
stop_told true at rest parts = refl
stop_told false at rest parts = refl

swept_chain : (parts : ImageParts) (swept : Result (List Swept) ℕ) (sites : Result (List Site) ℕ)
    → told (swept_then parts swept sites) ≡ chain late parts swept sites
unfolding chain
swept_chain parts (Ok swept) (Ok ss) = behind_ok parts (map piece_of swept) ss
swept_chain parts (Ok swept) (Err at) = behind_form parts (map piece_of swept) at
swept_chain parts (Err at) sites = stop_told (is_refused (drop at parts.text)) at _ parts

pub image_chain : (parts : ImageParts) → told (image_from parts) ≡ chain causes parts (sweep parts.text) (listed parts.sites)
unfolding image_from placed annotated entered pieces_in chain
image_chain parts =
    five (text_place parts) (init_place parts) (text_size parts) (init_size parts) (entry_place parts)
    (swept_then parts (sweep parts.text) (listed parts.sites))
    ∙ ap (λ (r : Told). test TextPlace (text_place parts) >>= λ _.
    (test InitPlace (init_place parts) >>= λ _.
    (test TextSize (text_size parts) >>= λ _. (test InitSize (init_size parts) >>= λ _. (test EntryPlace (entry_place parts) >>= λ _. r)))))
    (swept_chain parts (sweep parts.text) (listed parts.sites))

-- ---- the first cause

test_err : (c : CheckCause) (o : Option ℕ) (k : Told) (at : ℕ) (cause : CheckCause) → (test c o >>= λ _. k) ≡ refusal_is (Wrong at cause)
    → ((o ≡ Some at) × (cause ≡ c)) ⊎ ((o ≡ None) × (k ≡ refusal_is (Wrong at cause)))
test_err c None k at cause e = inr (refl, e)
test_err c (Some p) k at cause e =
    let same : Wrong p c ≡ Wrong at cause = cc in
    let place : p ≡ at = cc in
    let by : c ≡ cause = cc in
    inl (ap (λ n. Some n) place, sym by)

chain_first : (cs : List CheckCause) (parts : ImageParts) (at : ℕ) (cause : CheckCause)
    → chain cs parts (sweep parts.text) (listed parts.sites) ≡ refusal_is (Wrong at cause) → IsFirstOf (wrong parts) cs at cause
unfolding chain
chain_first [] parts at cause e = absurd cc
chain_first (c ∷ cs) parts at cause e =
    elim (test_err c (wrong parts c) (chain cs parts (sweep parts.text) (listed parts.sites)) at cause e) [
      | inl here ↦ inl here
      | inr later ↦ inr (later.0, chain_first cs parts at cause later.1)
    ]

first_chain : (cs : List CheckCause) (parts : ImageParts) (at : ℕ) (cause : CheckCause) → IsFirstOf (wrong parts) cs at cause
    → chain cs parts (sweep parts.text) (listed parts.sites) ≡ refusal_is (Wrong at cause)
unfolding chain
first_chain [] parts at cause h = absurd h
first_chain (c ∷ cs) parts at cause (inl here) =
    ap (λ (o : Option ℕ). test c o >>= λ _. chain cs parts (sweep parts.text) (listed parts.sites)) here.0
    ∙ ap (λ (d : CheckCause). refusal_is (Wrong at d)) (sym here.1)
first_chain (c ∷ cs) parts at cause (inr later) =
    ap (λ (o : Option ℕ). test c o >>= λ _. chain cs parts (sweep parts.text) (listed parts.sites)) later.0
    ∙ first_chain cs parts at cause later.1

abbrev pub not_image : Refusal → Result Image Refusal
not_image refusal = Err refusal

was_told : (r : Result Image Refusal) (refusal : Refusal) → told r ≡ refusal_is refusal → r ≡ not_image refusal
was_told (Ok image) refusal e = absurd cc
was_told (Err d) refusal e = let same : d ≡ refusal = cc in ap not_image same

pub first_exact : (parts : ImageParts) (at : ℕ) (cause : CheckCause) → (image_from parts ≡ not_image (Wrong at cause)) ↔ IsFirstOf
    (wrong parts) causes at cause
first_exact parts at cause = (
  (λ e. chain_first causes parts at cause (sym (image_chain parts) ∙ ap told e)),
  (λ h. was_told (image_from parts) (Wrong at cause) (image_chain parts ∙ first_chain causes parts at cause h)),
)
