-- What an image has that passed all tests.
use Rattle.std.proofs.Common.{◌≡◌, ℕ, List, [], Option, Some, None, Result, Ok, Err, refl, subst, arith}
use Rattle.std.specs.Prelude.{OnOk}
use Rattle.std.proofs.lemmas.Bool.Decides.{nat_tests}
use Rattle.elf_form.specs.ImageParts.{ImageParts}
use Rattle.elf_form.proofs.FormLaws.{then_none}
use Rattle.sites.specs.declared.site.Site.{Site}
use Rattle.sites.specs.Formats.{listed}
use Rattle.image_check.specs.declared.fault.CheckCause.{CheckCause}
use Rattle.image_check.specs.declared.fault.CheckFault.{CheckFault}
use Rattle.image_check.specs.declared.fault.CheckCause.TheVariants.{TextPlace, InitPlace, TextSize, InitSize, EntryPlace, TextEnd, SiteWrong, Target, EntryStart}
use Rattle.image_check.specs.declared.piece.Piece.{Piece}
use Rattle.image_check.specs.Image.{Image}
use Rattle.elf_form.specs.Faults.{◌>>=◌}
use Rattle.image_check.specs.Refusals.{Refusal, test}
use Rattle.image_check.specs.Answers.{Gives}
use Rattle.image_check.specs.Pieces.{pieces_in}
use Rattle.image_check.specs.Targets.{is_entrance, wrong_target}
use Rattle.image_check.specs.Conditions.{text_place, init_place, text_size, init_size, entry_place, text_end, site_wrong, entry_start}
use Rattle.image_check.specs.Checking.{as_sites, placed, annotated, entered, image_with, image_from}
use Rattle.image_check.specs.Accepts.{IsWithin}

pub bind_ok : (A B : Type 0) (r : Result A Refusal) (f : A → Result B Refusal) (y : B) → (r >>= f) ≡ Ok y → (x : A)
    × (r ≡ Ok x) × (f x ≡ Ok y)
bind_ok A B (Ok x) f y h = (x, refl, h)
bind_ok A B (Err d) f y h = absurd cc

pub no_place : (cause : CheckCause) (o : Option ℕ) (x : Unit {0}) → test cause o ≡ Ok x → o ≡ None
no_place cause None x e = refl
no_place cause (Some at) x e = absurd cc

pub sites_read : (r : Result (List Site) ℕ) (sites : List Site) → as_sites r ≡ Ok sites → r ≡ Ok sites
sites_read (Ok sites) ss e = cc
sites_read (Err at) ss e = absurd cc

pub record IsPlaced (parts : ImageParts) : Type 0 where
  pub text_at : text_place parts ≡ None
  pub init_at : init_place parts ≡ None
  pub text_len : text_size parts ≡ None
  pub init_len : init_size parts ≡ None
  pub entry_in : entry_place parts ≡ None

pub record HasPassed (parts : ImageParts) (image : Image) : Type 0 where
  pub places : IsPlaced parts
  pub pieces : List Piece
  pub swept : pieces_in parts.text ≡ Ok pieces
  pub ends : text_end parts.text pieces ≡ None
  pub sites : List Site
  pub read : listed parts.sites ≡ Ok sites
  pub same : site_wrong sites pieces ≡ None
  pub targets : wrong_target (is_entrance pieces sites) pieces ≡ None
  pub entry : entry_start parts pieces sites ≡ None
  pub image_is : image_with parts sites ≡ image

pub is_placed : (parts : ImageParts) (x : Unit {0}) → placed parts ≡ Ok x → IsPlaced parts
unfolding placed
is_placed parts x e =
    let a = bind_ok (Unit {0}) (Unit {0}) (test TextPlace (text_place parts)) _ x e in
    let b = bind_ok (Unit {0}) (Unit {0}) (test InitPlace (init_place parts)) _ x a.2 in
    let c = bind_ok (Unit {0}) (Unit {0}) (test TextSize (text_size parts)) _ x b.2 in
    let d = bind_ok (Unit {0}) (Unit {0}) (test InitSize (init_size parts)) _ x c.2 in
    record {
      text_at = no_place TextPlace _ a.0 a.1;
      init_at = no_place InitPlace _ b.0 b.1;
      text_len = no_place TextSize _ c.0 c.1;
      init_len = no_place InitSize _ d.0 d.1;
      entry_in = no_place EntryPlace _ x d.2;
    }

is_annotated : (parts : ImageParts) (ps : List Piece) (sites : List Site) → annotated parts ps ≡ Ok sites → (text_end parts.text ps ≡ None)
    × (listed parts.sites ≡ Ok sites) × (site_wrong sites ps ≡ None)
unfolding annotated
is_annotated parts ps sites e =
    let a = bind_ok (Unit {0}) (List Site) (test TextEnd (text_end parts.text ps)) _ sites e in
    let b = bind_ok (List Site) (List Site) (as_sites (listed parts.sites)) _ sites a.2 in
    let c = bind_ok (Unit {0}) (List Site) (test SiteWrong (site_wrong b.0 ps)) _ sites b.2 in
    let same : b.0 ≡ sites = cc c.2 in (
      no_place TextEnd _ a.0 a.1,
      subst (λ (ss : List Site). listed parts.sites ≡ Ok ss) same (sites_read _ b.0 b.1),
      subst (λ (ss : List Site). site_wrong ss ps ≡ None) same (no_place SiteWrong _ c.0 c.1),
    )

is_entered : (parts : ImageParts) (ps : List Piece) (sites : List Site) (x : Unit {0}) → entered parts ps sites ≡ Ok x
    → (wrong_target (is_entrance ps sites) ps ≡ None) × (entry_start parts ps sites ≡ None)
unfolding entered
is_entered parts ps sites x e =
    let a = bind_ok (Unit {0}) (Unit {0}) (test Target (wrong_target (is_entrance ps sites) ps)) _ x e in
    (no_place Target _ a.0 a.1, no_place EntryStart _ x a.2)

pub has_passed : (parts : ImageParts) (image : Image) → image_from parts ≡ Ok image → HasPassed parts image
unfolding image_from
has_passed parts image e =
    let a = bind_ok (Unit {0}) Image (placed parts) _ image e in
    let b = bind_ok (List Piece) Image (pieces_in parts.text) _ image a.2 in
    let c = bind_ok (List Site) Image (annotated parts b.0) _ image b.2 in
    let d = bind_ok (Unit {0}) Image (entered parts b.0 c.0) _ image c.2 in
    let ann = is_annotated parts b.0 c.0 c.1 in
    let ent = is_entered parts b.0 c.0 d.0 d.1 in
    record {
      places = is_placed parts a.0 a.1;
      pieces = b.0;
      swept = b.1;
      ends = ann.0;
      sites = c.0;
      read = ann.1;
      same = ann.2;
      targets = ent.0;
      entry = ent.1;
      image_is = cc d.2;
    }

-- ---- bounds

pub within_parts : (parts : ImageParts) (sites : List Site) → IsPlaced parts → IsWithin (image_with parts sites)
within_parts parts sites p =
    let text = then_none _ 0 p.text_len in
    let init = then_none _ 0 p.init_len in
    let entry = then_none _ 0 p.entry_in in
    record {
      text = (grind (arith, nat_tests), grind (arith, nat_tests));
      room = grind (arith, nat_tests);
      entry = (grind (arith, nat_tests), grind (arith, nat_tests));
    }

-- what the tests of places and sizes leave
pub placed_within : (parts : ImageParts) (r : Result (Unit {0}) CheckFault) → Gives (λ _. tt) r (placed parts)
    → OnOk r (IsWithin (image_with parts []))
placed_within parts (Ok x) e = within_parts parts [] (is_placed parts tt e)
placed_within parts (Err d) e = tt

pub is_within : (parts : ImageParts) (image : Image) → image_from parts ≡ Ok image → IsWithin image
is_within parts image e =
    let p = has_passed parts image e in
    subst IsWithin p.image_is (within_parts parts p.sites p.places)
