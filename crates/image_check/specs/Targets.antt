-- Where control may come in from elsewhere: the starts of instructions that are not in a site past its first byte.
use Rattle.std.specs.Prelude.{ℕ, ◌+◌, Bool, false, not, ◌&&◌, List, [], ◌∷◌, Option, Some, None, nat_lt, if◌then◌else◌}
use Rattle.std.specs.List.{list_any}
use Rattle.sites.specs.declared.site.Site.{Site}
use Rattle.image_check.specs.declared.piece.Role.{Role}
use Rattle.image_check.specs.declared.piece.Role.TheVariants as role
use Rattle.image_check.specs.declared.piece.Piece.{Piece}
use Rattle.image_check.specs.Pieces.{is_piece_start}

-- whether an offset lies in a site past its first byte
abbrev pub is_inside : ℕ → Site → Bool
is_inside at s = nat_lt s.at at && nat_lt at (s.at + s.total)

abbrev pub is_entrance : List Piece → List Site → ℕ → Bool
is_entrance ps sites at = is_piece_start ps at && not (list_any (is_inside at) sites)

-- the direct branch that comes first of those that do not lead to where control may come in
abbrev pub leads_wrong : (ℕ → Bool) → Role → Bool
leads_wrong entrance (role.Branch target) = not (entrance target)
leads_wrong entrance _ = false

unfoldable pub wrong_target : (ℕ → Bool) → List Piece → Option ℕ
wrong_target entrance [] = None
wrong_target entrance (p ∷ ps) = if leads_wrong entrance p.role then Some p.at else wrong_target entrance ps
