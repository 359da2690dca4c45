-- The sites of a text, and where the annotations differ from them.
use Rattle.std.specs.Prelude.{ℕ, zero, suc, ◌-◌, max, min, Bool, true, false, ◌&&◌, List, [], ◌∷◌, Option, Some, None, ◌==◌, if◌then◌else◌}
use Rattle.ia32_types.specs.declared.site.SiteKind.{SiteKind}
use Rattle.ia32_types.specs.declared.site.SiteKind.TheVariants.{Sti, StiHlt, Hlt}
use Rattle.sites.specs.declared.site.Site.{Site}
use Rattle.sites.specs.Kinds.{number}
use Rattle.sites.specs.Padded.{padded_site}
use Rattle.image_check.specs.declared.piece.Role.{Role}
use Rattle.image_check.specs.declared.piece.Role.TheVariants as role
use Rattle.image_check.specs.declared.piece.Piece.{Piece}
use Rattle.image_check.specs.declared.site.Here.{Here}
use Rattle.image_check.specs.declared.site.Here.TheVariants as here

abbrev pub is_nop_role : Role → Bool
is_nop_role role.Nop = true
is_nop_role _ = false

abbrev pub is_sti : Role → Bool
is_sti (role.Site Sti) = true
is_sti _ = false

abbrev pub is_hlt : Role → Bool
is_hlt (role.Site Hlt) = true
is_hlt _ = false

-- so many NOPs come first
unfoldable pub has_nops : ℕ → List Piece → Bool
has_nops zero ps = true
has_nops (suc n) [] = false
has_nops (suc n) (p ∷ ps) = is_nop_role p.role && has_nops n ps

-- HLT and three NOPs come first
abbrev pub has_hlt : List Piece → Bool
has_hlt [] = false
has_hlt (p ∷ ps) = is_hlt p.role && has_nops 3 ps

-- the site of STI, HLT and three NOPs, and of another sensitive instruction with NOPs up to five bytes
abbrev pub pair : Piece → Site
pair p = record { at = p.at; kind = StiHlt; len = 2; total = 5 }

abbrev pub single : Piece → SiteKind → Site
single p kind = padded_site p.at kind p.len

abbrev pub padded : Piece → List Piece → SiteKind → Here
padded p ps kind = if has_nops (max 5 p.len - p.len) ps then here.Makes (single p kind) else here.Lacks

abbrev pub by_role : Piece → List Piece → Role → Here
by_role p ps (role.Site kind) = padded p ps kind
by_role p ps _ = here.Nothing

-- the site that an instruction begins, by those after it; or that it is sensitive, and lacks its NOPs
unfoldable pub begun_by : Piece → List Piece → Here
begun_by p ps = if is_sti p.role && has_hlt ps then here.Makes (pair p) else by_role p ps p.role

-- the sites up to the first sensitive instruction that lacks its NOPs, and the offset of that one
pub record Found : Type 0 where
  pub sites : List Site
  pub lacking : Option ℕ

abbrev pub with_site : Site → Found → Found
with_site s found = record { sites = s ∷ found.sites; lacking = found.lacking }

-- by what an instruction begins, and by what is found after so many further ones, which belong to its site
abbrev pub found_by : Piece → (ℕ → Found) → Here → Found
found_by p behind here.Nothing = behind 0
found_by p behind here.Lacks = record { sites = []; lacking = Some p.at }
found_by p behind (here.Makes s) = with_site s (behind (s.total - p.len))

-- Each instruction of a site after its first is one byte: a NOP, or the HLT of a pair.
unfoldable pub found_behind : ℕ → List Piece → Found
found_behind skipped [] = record { sites = []; lacking = None }
found_behind (suc skipped) (p ∷ ps) = found_behind skipped ps
found_behind zero (p ∷ ps) = found_by p (λ skipped. found_behind skipped ps) (begun_by p ps)

abbrev pub found_in : List Piece → Found
found_in ps = found_behind 0 ps

-- the lowest offset at which two lists of sites differ
abbrev pub is_same : Site → Site → Bool
is_same s t = s.at == t.at && number s.kind == number t.kind && s.len == t.len && s.total == t.total

unfoldable pub differ : List Site → List Site → Option ℕ
differ [] [] = None
differ [] (t ∷ ts) = Some t.at
differ (s ∷ ss) [] = Some s.at
differ (s ∷ ss) (t ∷ ts) = if is_same s t then differ ss ts else Some (min s.at t.at)
