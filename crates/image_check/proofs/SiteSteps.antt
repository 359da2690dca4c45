-- Going through the instructions of a text, and through two lists of sites, one after the other.
use Rattle.std.proofs.Common.{◌≡◌, ℕ, zero, suc, ◌+◌, ◌-◌, ◌<◌, ◌≤◌, Bool, true, false, ◌&&◌, List, [], ◌∷◌, ◌++◌, length, drop, Some, None, min, refl, sym, ap, ◌∙◌, append_assoc, add-one, drop-cons, cond, arith}
use Rattle.std.specs.Prelude.{slice_index_or}
use Rattle.std.proofs.lemmas.List.{append-nil, drop_all}
use Rattle.sites.specs.declared.site.Site.{Site}
use Rattle.ia32_types.specs.declared.site.SiteKind.TheVariants.{Cli}
use Rattle.image_check.specs.declared.piece.Piece.{Piece}
use Rattle.image_check.specs.declared.site.Here.{Here}
use Rattle.image_check.specs.declared.site.Here.TheVariants as here
use Rattle.image_check.specs.Pieces.{all_pieces}
use Rattle.image_check.specs.Stops.{piece_there, AreLeft}
use Rattle.image_check.specs.TextSites.{is_nop_role, is_hlt, has_nops, has_hlt, begun_by, Found, found_by, found_behind, found_in, is_same, differ}
use Rattle.image_check.proofs.Left.{Next, next_is, none_left}

-- what indexing gives past the end
abbrev pub no_site : Site
no_site = record { at = 0; kind = Cli; len = 0; total = 0 }

pub next_of : {X : Type 0} (xs : List X) (i : ℕ) (d : X) → i < length xs → drop i xs ≡ slice_index_or xs i d ∷ drop (i + 1) xs
next_of xs i d lt = rw (add-one, drop-cons xs i d) refl

-- ---- NOPs

nops_first : (n : ℕ) (p : Piece) (ps : List Piece) → has_nops (suc n) (p ∷ ps) ≡ (is_nop_role p.role && has_nops n ps)
unfolding has_nops
nops_first n p ps = refl

nops_none : (n : ℕ) → has_nops (suc n) [] ≡ false
unfolding has_nops
nops_none n = refl

pub nops_zero : (ps : List Piece) → has_nops 0 ps ≡ true
unfolding has_nops
nops_zero ps = refl

-- So many NOPs were found, of those that come first of some instructions.
pub record Counted (count i : ℕ) (text : List ℕ) (at : ℕ) (ps : List Piece) : Type 0 where
  pub rest : List Piece
  pub left : AreLeft text at rest
  pub same : has_nops (count - i) rest ≡ has_nops count ps

pub counted_first : (count : ℕ) (text : List ℕ) (at : ℕ) (ps : List Piece) → AreLeft text at ps → Counted count 0 text at ps
counted_first count text at ps left =
    let k : count - 0 ≡ count = omega arith in
    record { rest = ps; left = left; same = ap (λ n. has_nops n ps) k }

module _ (count i : ℕ) (text : List ℕ) (at : ℕ) (ps : List Piece) (now : Counted count i text at ps) where
  first_is : i < count → (p : Piece) (there : piece_there text at ≡ Some p)
      → has_nops count ps ≡ (is_nop_role p.role && has_nops (count - (i + 1)) (next_is text at now.rest p now.left there).more)
  first_is lt p there =
      let k : count - i ≡ suc (count - (i + 1)) = omega arith in
      let next = next_is text at now.rest p now.left there in
      sym now.same ∙ ap (λ n. has_nops n now.rest) k ∙ ap (has_nops (suc (count - (i + 1)))) next.is
      ∙ nops_first (count - (i + 1)) p next.more

  pub counted_wrong : i < count → (p : Piece) → piece_there text at ≡ Some p → is_nop_role p.role ≡ false → false ≡ has_nops count ps
  counted_wrong lt p there e =
      sym (first_is lt p there ∙ ap (λ b. b && has_nops (count - (i + 1)) (next_is text at now.rest p now.left there).more) e)

  pub counted_short : i < count → piece_there text at ≡ None → false ≡ has_nops count ps
  counted_short lt none =
      let k : count - i ≡ suc (count - (i + 1)) = omega arith in
      sym (sym now.same ∙ ap (λ n. has_nops n now.rest) k ∙ ap (has_nops (suc (count - (i + 1)))) (none_left text at now.rest now.left none)
      ∙ nops_none (count - (i + 1)))

  pub counted_on : i < count → (p : Piece) → piece_there text at ≡ Some p → is_nop_role p.role ≡ true
      → Counted count (i + 1) text (at + p.len) ps
  counted_on lt p there e =
      let next = next_is text at now.rest p now.left there in
      record {
        rest = next.more;
        left = next.left;
        same = sym (first_is lt p there ∙ ap (λ b. b && has_nops (count - (i + 1)) next.more) e);
      }

  pub counted_all : count ≤ i → true ≡ has_nops count ps
  counted_all le =
      let k : count - i ≡ 0 = omega arith in
      sym (sym now.same ∙ ap (λ n. has_nops n now.rest) k ∙ nops_zero now.rest)

-- ---- what an instruction begins

pub no_hlt : (text : List ℕ) (at : ℕ) (ps : List Piece) → AreLeft text at ps → piece_there text at ≡ None → false ≡ has_hlt ps
no_hlt text at ps left none = sym (ap has_hlt (none_left text at ps left none))

pub other_first : (text : List ℕ) (at : ℕ) (ps : List Piece) (p : Piece) → AreLeft text at ps → piece_there text at ≡ Some p
    → is_hlt p.role ≡ false → false ≡ has_hlt ps
other_first text at ps p left there e =
    let next = next_is text at ps p left there in
    sym (ap has_hlt next.is ∙ ap (λ b. b && has_nops 3 next.more) e)

pub hlt_first : (text : List ℕ) (at : ℕ) (ps : List Piece) (p : Piece) (b : Bool) → AreLeft text at ps → piece_there text at ≡ Some p
    → is_hlt p.role ≡ true → ((more : List Piece) → AreLeft text (at + p.len) more → b ≡ has_nops 3 more) → b ≡ has_hlt ps
hlt_first text at ps p b left there e nops =
    let next = next_is text at ps p left there in
    nops next.more next.left ∙ sym (ap has_hlt next.is ∙ ap (λ c. c && has_nops 3 next.more) e)

-- ---- sites

skip_first : (n : ℕ) (p : Piece) (ps : List Piece) → found_behind (suc n) (p ∷ ps) ≡ found_behind n ps
unfolding found_behind
skip_first n p ps = refl

pub look_at : (p : Piece) (ps : List Piece) → found_behind 0 (p ∷ ps) ≡ found_by p (λ n. found_behind n ps) (begun_by p ps)
unfolding found_behind
look_at p ps = refl

found_none : (n : ℕ) → found_behind n [] ≡ record { sites = []; lacking = None }
unfolding found_behind
found_none zero = refl
found_none (suc n) = refl

-- So far these sites were found, and so many of the next instructions belong to the last of them.
pub record Now (sites : List Site) (skipped : ℕ) (text : List ℕ) (at : ℕ) : Type 0 where
  pub rest : List Piece
  pub left : AreLeft text at rest
  pub sites_are : sites ++ (found_behind skipped rest).sites ≡ (found_in (all_pieces text)).sites
  pub lacking_is : (found_behind skipped rest).lacking ≡ (found_in (all_pieces text)).lacking

pub now_first : (text : List ℕ) → AreLeft text 0 (all_pieces text) → Now [] 0 text 0
now_first text left = record { rest = all_pieces text; left = left; sites_are = refl; lacking_is = refl }

module _ (sites : List Site) (skipped : ℕ) (text : List ℕ) (at : ℕ) (now : Now sites skipped text at) where
  -- what is found by the rest, where that is known
  sites_by : (found : Found) → found_behind skipped now.rest ≡ found → sites ++ found.sites ≡ (found_in (all_pieces text)).sites
  sites_by found e = ap (λ (f : Found). sites ++ f.sites) (sym e) ∙ now.sites_are

  lacking_by : (found : Found) → found_behind skipped now.rest ≡ found → found.lacking ≡ (found_in (all_pieces text)).lacking
  lacking_by found e = ap (λ (f : Found). f.lacking) (sym e) ∙ now.lacking_is

  pub now_all : piece_there text at ≡ None → (sites ≡ (found_in (all_pieces text)).sites) × (None ≡ (found_in (all_pieces text)).lacking)
  now_all none =
      let e = ap (found_behind skipped) (none_left text at now.rest now.left none) ∙ found_none skipped in
      (sym (append-nil sites) ∙ sites_by _ e, lacking_by _ e)

  module _ (p : Piece) (there : piece_there text at ≡ Some p) where
    next : Next text at now.rest p
    next = next_is text at now.rest p now.left there

    pub now_skipped : 0 < skipped → Now sites (skipped - 1) text (at + p.len)
    now_skipped lt =
        let k : skipped ≡ suc (skipped - 1) = omega arith in
        let e : found_behind skipped now.rest ≡ found_behind (skipped - 1) next.more =
        ap (λ n. found_behind n now.rest) k ∙ ap (found_behind (suc (skipped - 1))) next.is ∙ skip_first (skipped - 1) p next.more in
        record { rest = next.more; left = next.left; sites_are = sites_by _ e; lacking_is = lacking_by _ e }

    begins : (h : Here) → skipped ≤ 0 → ((ps : List Piece) → AreLeft text (at + p.len) ps → h ≡ begun_by p ps)
        → found_behind skipped now.rest ≡ found_by p (λ n. found_behind n next.more) h
    begins h none begun =
        let k : skipped ≡ 0 = omega arith in
        ap (λ n. found_behind n now.rest) k
        ∙ ap (found_behind 0) next.is
        ∙ look_at p next.more
        ∙ ap (found_by p (λ n. found_behind n next.more)) (sym (begun next.more next.left))

    pub now_nothing : skipped ≤ 0 → ((ps : List Piece) → AreLeft text (at + p.len) ps → here.Nothing ≡ begun_by p ps)
        → Now sites skipped text (at + p.len)
    now_nothing none begun =
        let k : 0 ≡ skipped = omega arith in
        let e = begins here.Nothing none begun ∙ ap (λ n. found_behind n next.more) k in
        record { rest = next.more; left = next.left; sites_are = sites_by _ e; lacking_is = lacking_by _ e }

    pub now_makes : (s : Site) → skipped ≤ 0 → ((ps : List Piece) → AreLeft text (at + p.len) ps → here.Makes s ≡ begun_by p ps)
        → Now (sites ++ s ∷ []) (s.total - p.len) text (at + p.len)
    now_makes s none begun =
        let e = begins (here.Makes s) none begun in
        record {
          rest = next.more;
          left = next.left;
          sites_are = append_assoc sites (s ∷ []) (found_behind (s.total - p.len) next.more).sites ∙ sites_by _ e;
          lacking_is = lacking_by _ e;
        }

    pub now_lacks : skipped ≤ 0 → ((ps : List Piece) → AreLeft text (at + p.len) ps → here.Lacks ≡ begun_by p ps)
        → (sites ≡ (found_in (all_pieces text)).sites) × (Some p.at ≡ (found_in (all_pieces text)).lacking)
    now_lacks none begun =
        let e = begins here.Lacks none begun in
        (sym (append-nil sites) ∙ sites_by _ e, lacking_by _ e)

-- ---- two lists of sites

differ_first : (s t : Site) (ss ts : List Site) → differ (s ∷ ss) (t ∷ ts) ≡ cond (is_same s t) (differ ss ts) (Some (min s.at t.at))
unfolding differ
differ_first s t ss ts = refl

differ_step : (ss ts : List Site) (i : ℕ) (d : Site) → i < length ss → i < length ts
    → differ (drop i ss) (drop i ts) ≡ cond (is_same (slice_index_or ss i d) (slice_index_or ts i d))
    (differ (drop (i + 1) ss) (drop (i + 1) ts)) (Some (min (slice_index_or ss i d).at (slice_index_or ts i d).at))
differ_step ss ts i d in_ss in_ts = rw (next_of ss i d in_ss, next_of ts i d in_ts)
    (differ_first (slice_index_or ss i d) (slice_index_or ts i d) (drop (i + 1) ss) (drop (i + 1) ts))

pub differ-wrong : (ss ts : List Site) (i : ℕ) (d : Site) → i < length ss → i < length ts
    → is_same (slice_index_or ss i d) (slice_index_or ts i d) ≡ false
    → differ (drop i ss) (drop i ts) ≡ Some (min (slice_index_or ss i d).at (slice_index_or ts i d).at)
differ-wrong ss ts i d in_ss in_ts e = differ_step ss ts i d in_ss in_ts
    ∙ ap (λ b. cond b (differ (drop (i + 1) ss) (drop (i + 1) ts)) (Some (min (slice_index_or ss i d).at (slice_index_or ts i d).at))) e

pub differ-right_so_far : (ss ts : List Site) (i : ℕ) (d : Site) → i < length ss → i < length ts
    → is_same (slice_index_or ss i d) (slice_index_or ts i d) ≡ true
    → differ (drop i ss) (drop i ts) ≡ differ (drop (i + 1) ss) (drop (i + 1) ts)
differ-right_so_far ss ts i d in_ss in_ts e = differ_step ss ts i d in_ss in_ts
    ∙ ap (λ b. cond b (differ (drop (i + 1) ss) (drop (i + 1) ts)) (Some (min (slice_index_or ss i d).at (slice_index_or ts i d).at))) e

differ_left : (s : Site) (ss : List Site) → differ (s ∷ ss) [] ≡ Some s.at
unfolding differ
differ_left s ss = refl

differ_right : (t : Site) (ts : List Site) → differ [] (t ∷ ts) ≡ Some t.at
unfolding differ
differ_right t ts = refl

differ_none : differ [] [] ≡ None
unfolding differ
differ_none = refl

pub differ-left : (ss ts : List Site) (i : ℕ) (d : Site) → i < length ss → length ts ≤ i
    → differ (drop i ss) (drop i ts) ≡ Some (slice_index_or ss i d).at
differ-left ss ts i d in_ss le = rw (next_of ss i d in_ss, drop_all i ts le) (differ_left (slice_index_or ss i d) (drop (i + 1) ss))

pub differ-right : (ss ts : List Site) (i : ℕ) (d : Site) → length ss ≤ i → i < length ts
    → differ (drop i ss) (drop i ts) ≡ Some (slice_index_or ts i d).at
differ-right ss ts i d le in_ts = rw (drop_all i ss le, next_of ts i d in_ts) (differ_right (slice_index_or ts i d) (drop (i + 1) ts))

pub differ-end : (ss ts : List Site) (i : ℕ) → length ss ≤ i → length ts ≤ i → differ (drop i ss) (drop i ts) ≡ None
differ-end ss ts i le le' = rw (drop_all i ss le, drop_all i ts le') differ_none
