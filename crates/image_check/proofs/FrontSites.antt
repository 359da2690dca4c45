-- The sites of a text, by what stands at its front.
use Rattle.std.proofs.Common.{◌≡◌, ◌≢◌, ℕ, zero, suc, ◌-◌, Bool, true, false, ◌&&◌, cond, max, List, [], ◌∷◌, drop, Some, None, refl, ap, ◌∙◌, arith}
use Rattle.ia32_types.specs.declared.site.SiteKind.{SiteKind}
use Rattle.image_check.specs.declared.piece.Role.{Role}
use Rattle.image_check.specs.declared.piece.Role.TheVariants as role
use Rattle.image_check.specs.declared.piece.Piece.{Piece}
use Rattle.image_check.specs.declared.site.Here.{Here}
use Rattle.image_check.specs.declared.site.Here.TheVariants as here
use Rattle.image_check.specs.TextSites.{is_sti, has_nops, has_hlt, pair, single, by_role, begun_by, found_by, found_behind, found_in, with_site}
use Rattle.image_check.proofs.SiteSteps.{look_at}

behind_is : (n : ℕ) (ps : List Piece) → found_behind n ps ≡ found_in (drop n ps)
unfolding found_behind
behind_is zero ps = refl
behind_is (suc n) [] = refl
behind_is (suc n) (p ∷ ps) = behind_is n ps

pub none_found : found_in [] ≡ record { sites = []; lacking = None }
unfolding found_behind
none_found = refl

module _ (p : Piece) (ps : List Piece) where
  begun_is : (b : Bool) → (is_sti p.role && has_hlt ps) ≡ b → begun_by p ps ≡ cond b (here.Makes (pair p)) (by_role p ps p.role)
  unfolding begun_by
  begun_is b e = ap (λ c. cond c (here.Makes (pair p)) (by_role p ps p.role)) e

  look : (h : Here) → begun_by p ps ≡ h → found_in (p ∷ ps) ≡ found_by p (λ n. found_behind n ps) h
  look h e = look_at p ps ∙ ap (found_by p (λ n. found_behind n ps)) e

  pub insensitive_first : ((kind : SiteKind) → p.role ≢ role.Site kind) → found_in (p ∷ ps) ≡ found_in ps
  insensitive_first none = by p.role refl where
    by : (r : Role) → p.role ≡ r → found_in (p ∷ ps) ≡ found_in ps
    by (role.Site kind) e = absurd (none kind e)
    by role.Plain e = look here.Nothing (begun_is false (ap (λ s. is_sti s && has_hlt ps) e) ∙ ap (by_role p ps) e)
    by role.Nop e = look here.Nothing (begun_is false (ap (λ s. is_sti s && has_hlt ps) e) ∙ ap (by_role p ps) e)
    by (role.Branch target) e = look here.Nothing (begun_is false (ap (λ s. is_sti s && has_hlt ps) e) ∙ ap (by_role p ps) e)

  pub pair_first : (is_sti p.role && has_hlt ps) ≡ true → p.len ≡ 1 → found_in (p ∷ ps) ≡ with_site (pair p) (found_in (drop 4 ps))
  pair_first e len =
      let four : 5 - p.len ≡ 4 = omega (arith, len) in
      look (here.Makes (pair p)) (begun_is true e)
      ∙ ap (λ n. with_site (pair p) (found_behind n ps)) four
      ∙ ap (with_site (pair p)) (behind_is 4 ps)

  alone_is : (kind : SiteKind) → p.role ≡ role.Site kind → (is_sti p.role && has_hlt ps) ≡ false → (b : Bool)
      → has_nops (max 5 p.len - p.len) ps ≡ b → begun_by p ps ≡ cond b (here.Makes (single p kind)) here.Lacks
  alone_is kind is unpaired b e =
      begun_is false unpaired ∙ ap (by_role p ps) is ∙ ap (λ c. cond c (here.Makes (single p kind)) here.Lacks) e

  pub alone_first : (kind : SiteKind) → p.role ≡ role.Site kind → (is_sti p.role && has_hlt ps) ≡ false
      → has_nops (max 5 p.len - p.len) ps ≡ true → found_in (p ∷ ps) ≡ with_site (single p kind) (found_in (drop (max 5 p.len - p.len) ps))
  alone_first kind is unpaired e =
      look (here.Makes (single p kind)) (alone_is kind is unpaired true e)
      ∙ ap (with_site (single p kind)) (behind_is (max 5 p.len - p.len) ps)

  pub lacking_first : (kind : SiteKind) → p.role ≡ role.Site kind → (is_sti p.role && has_hlt ps) ≡ false
      → has_nops (max 5 p.len - p.len) ps ≡ false → found_in (p ∷ ps) ≡ record { sites = []; lacking = Some p.at }
  lacking_first kind is unpaired e = look here.Lacks (alone_is kind is unpaired false e)
