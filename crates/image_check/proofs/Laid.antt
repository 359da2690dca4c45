-- How the sites that are found lie among the instructions of a text.
use Rattle.std.proofs.Common.{◌≡◌, ℕ, zero, suc, ◌+◌, ◌-◌, ◌<◌, ◌≤◌, Bool, true, false, ◌&&◌, cond, max, List, [], ◌∷◌, length, drop, map, Option, Some, None, refl, sym, ap, subst, ◌∙◌, inl, inr, ◌⊎◌, arith}
use Rattle.std.specs.Prelude.{slice_index_or}
use Rattle.std.specs.List.{Contains}
use Rattle.std.proofs.lemmas.Bool.{and_parts, cases_Bool}
use Rattle.ia32_types.specs.Branches.{is_direct_branch}
use Rattle.ia32_types.specs.declared.insn.Op.{Op}
use Rattle.ia32_types.specs.declared.insn.Op.TheVariants as op
use Rattle.ia32_types.specs.declared.site.SiteKind.{SiteKind}
use Rattle.ia32_types.specs.declared.site.SiteKind.TheVariants.{Sti, Hlt}
use Rattle.ia32_types.specs.Site.{kind_of, sensitive_kind}
use Rattle.ia32_decode.specs.Answer.{Begins}
use Rattle.sites.specs.declared.site.Site.{Site}
use Rattle.image_check.specs.declared.piece.Role.{Role}
use Rattle.image_check.specs.declared.piece.Role.TheVariants as role
use Rattle.image_check.specs.declared.piece.Piece.{Piece}
use Rattle.image_check.specs.declared.site.Here.{Here}
use Rattle.image_check.specs.declared.site.Here.TheVariants as here
use Rattle.image_check.specs.Sweep.{Swept}
use Rattle.image_check.specs.SweptTexts.{SweepsTo}
use Rattle.image_check.specs.Pieces as pieces
use Rattle.image_check.specs.Pieces.{piece_of, target_of, site_role}
use Rattle.image_check.specs.TextSites.{is_nop_role, is_sti, is_hlt, has_nops, has_hlt, pair, single, padded, by_role, begun_by, Found, found_by, found_behind}
use Rattle.image_check.specs.Layout.{AreApart, PartOf, Alone, PairSti, PairHlt, Padding, BeginsSite}
use Rattle.image_check.proofs.Begun.{begun_has_byte}
use Rattle.image_check.proofs.SiteSteps.{nops_zero}
use Rattle.image_check.proofs.Room.{begun_one, nop_piece, hlt_piece, sti_piece}

-- ---- elements of a list

pub first_in : {X : Type 0} (x : X) (xs : List X) → Contains (x ∷ xs) x
first_in x xs = (0, omega arith, refl)

pub later_in : {X : Type 0} (x : X) (xs : List X) (y : X) → Contains xs y → Contains (x ∷ xs) y
later_in x xs y c = (suc c.0, omega (arith, c.1), c.2)

in_cases : {X : Type 0} (x : X) (xs : List X) (y : X) (k : ℕ) → k < length (x ∷ xs) → slice_index_or (x ∷ xs) k y ≡ y
    → (x ≡ y) ⊎ Contains xs y
in_cases x xs y zero lt is = inl is
in_cases x xs y (suc k) lt is = inr (k, omega arith, is)

pub first_or_later : {X : Type 0} (x : X) (xs : List X) (y : X) → Contains (x ∷ xs) y → (x ≡ y) ⊎ Contains xs y
first_or_later x xs y c = in_cases x xs y c.0 c.1 c.2

pub none_in : {X : Type 0} (y : X) → Contains {X = X} [] y → ⊥
none_in y c = let lt = c.1 in omega (arith, lt)

-- ---- what an instruction is to the check, and what it is

pub branch_kind : (o : Op) → is_direct_branch o ≡ true → kind_of o ≡ None
branch_kind op.Jmp e = refl
branch_kind op.Call e = refl
branch_kind op.Jcc e = refl
branch_kind _ e = absurd cc

nop_kind : (o : Op) → pieces.is_nop o ≡ true → kind_of o ≡ None
nop_kind op.Nop e = refl
nop_kind _ e = absurd cc

nop_is : (o : Op) → pieces.is_nop o ≡ true → o ≡ op.Nop
nop_is op.Nop e = refl
nop_is _ e = absurd cc

no_nop_role : (o : Option SiteKind) → is_nop_role (site_role o) ≡ true → ⊥
no_nop_role None e = cc
no_nop_role (Some k) e = cc

role_nop : (target : ℕ) (a b : Bool) (o : Option SiteKind)
    → is_nop_role (cond a (role.Branch target) (cond b role.Nop (site_role o))) ≡ true → b ≡ true
role_nop target true b o e = absurd cc
role_nop target false true o e = refl
role_nop target false false o e = absurd (no_nop_role o e)

-- a role that is no site
not_site : Role → Bool
not_site (role.Site kind) = false
not_site _ = true

site_not : (o : Option SiteKind) → not_site (site_role o) ≡ true → o ≡ None
unfolding not_site
site_not None e = refl
site_not (Some k) e = absurd cc

role_plain : (target : ℕ) (a b : Bool) (o : Option SiteKind) → (a ≡ true → o ≡ None) → (b ≡ true → o ≡ None)
    → not_site (cond a (role.Branch target) (cond b role.Nop (site_role o))) ≡ true → o ≡ None
role_plain target true b o first second e = first refl
role_plain target false true o first second e = second refl
role_plain target false false o first second e = site_not o e

site_is : (o : Option SiteKind) (kind : SiteKind) → site_role o ≡ role.Site kind → o ≡ Some kind
site_is None kind e = absurd cc
site_is (Some k) kind e = cc

role_site : (target : ℕ) (a b : Bool) (o : Option SiteKind) (kind : SiteKind) → cond a (role.Branch target) (cond b role.Nop (site_role o))
    ≡ role.Site kind → o ≡ Some kind
role_site target true b o kind e = absurd cc
role_site target false true o kind e = absurd cc
role_site target false false o kind e = site_is o kind e

is_insensitive : (s : Swept) → not_site (piece_of s).role ≡ true → sensitive_kind s.insn ≡ None
is_insensitive s e = role_plain (target_of s.at s.len s.insn) (is_direct_branch s.insn.op) (pieces.is_nop s.insn.op) (kind_of s.insn.op)
    (branch_kind s.insn.op) (nop_kind s.insn.op) e

is_sensitive : (s : Swept) (kind : SiteKind) → (piece_of s).role ≡ role.Site kind → sensitive_kind s.insn ≡ Some kind
is_sensitive s kind e =
    role_site (target_of s.at s.len s.insn) (is_direct_branch s.insn.op) (pieces.is_nop s.insn.op) (kind_of s.insn.op) kind e

is_padding : (s : Swept) → is_nop_role (piece_of s).role ≡ true → s.insn.op ≡ op.Nop
is_padding s e =
    nop_is s.insn.op (role_nop (target_of s.at s.len s.insn) (is_direct_branch s.insn.op) (pieces.is_nop s.insn.op) (kind_of s.insn.op) e)

sti_role : (r : Role) → is_sti r ≡ true → r ≡ role.Site Sti
sti_role (role.Site Sti) e = refl
sti_role _ e = absurd cc

hlt_role : (r : Role) → is_hlt r ≡ true → r ≡ role.Site Hlt
hlt_role (role.Site Hlt) e = refl
hlt_role _ e = absurd cc

-- ---- what an instruction begins

abbrev IsSingle : Swept → List Swept → Site → Type 0
IsSingle s swept site = (kind : SiteKind) × (site ≡ single (piece_of s) kind) × (sensitive_kind s.insn ≡ Some kind)
    × (has_nops (max 5 s.len - s.len) (map piece_of swept) ≡ true)

abbrev IsPair : Swept → List Swept → Site → Type 0
IsPair s swept site = (site ≡ pair (piece_of s)) × (sensitive_kind s.insn ≡ Some Sti) × (s.len ≡ 1) × (has_hlt (map piece_of swept) ≡ true)

abbrev BeginsAs : Swept → List Swept → Here → Type 0
BeginsAs s swept here.Nothing = sensitive_kind s.insn ≡ None
BeginsAs s swept here.Lacks = Unit {0}
BeginsAs s swept (here.Makes site) = IsSingle s swept site ⊎ IsPair s swept site

padded_as : (s : Swept) (swept : List Swept) (kind : SiteKind) → (piece_of s).role ≡ role.Site kind
    → BeginsAs s swept (padded (piece_of s) (map piece_of swept) kind)
padded_as s swept kind e =
    elim (cases_Bool (has_nops (max 5 s.len - s.len) (map piece_of swept))) [
      | inl good ↦ subst (λ b. BeginsAs s swept (cond b (here.Makes (single (piece_of s) kind)) here.Lacks)) (sym good)
          (inl (kind, refl, is_sensitive s kind e, good))
      | inr bad ↦ subst (λ b. BeginsAs s swept (cond b (here.Makes (single (piece_of s) kind)) here.Lacks)) (sym bad) tt
    ]

role_as : (s : Swept) (swept : List Swept) (r : Role) → (piece_of s).role ≡ r
    → BeginsAs s swept (by_role (piece_of s) (map piece_of swept) r)
unfolding not_site
role_as s swept (role.Site kind) e = padded_as s swept kind e
role_as s swept role.Plain e = is_insensitive s (ap not_site e)
role_as s swept role.Nop e = is_insensitive s (ap not_site e)
role_as s swept (role.Branch target) e = is_insensitive s (ap not_site e)

begun_as : (bytes : List ℕ) (s : Swept) (swept : List Swept) → Begins bytes s.insn s.len
    → BeginsAs s swept (begun_by (piece_of s) (map piece_of swept))
unfolding begun_by
begun_as bytes s swept h =
    elim (cases_Bool (is_sti (piece_of s).role && has_hlt (map piece_of swept))) [
      | inl good ↦
          let two = and_parts (is_sti (piece_of s).role) (has_hlt (map piece_of swept)) good in
          subst (λ b. BeginsAs s swept
          (cond b (here.Makes (pair (piece_of s))) (by_role (piece_of s) (map piece_of swept) (piece_of s).role))) (sym good)
          (inr (refl, is_sensitive s Sti (sti_role (piece_of s).role two.0), begun_one bytes s.insn s.len h (sti_piece s two.0), two.1))
      | inr bad ↦
          subst (λ b. BeginsAs s swept
          (cond b (here.Makes (pair (piece_of s))) (by_role (piece_of s) (map piece_of swept) (piece_of s).role))) (sym bad)
          (role_as s swept (piece_of s).role refl)
    ]

-- ---- where instructions lie

-- An instruction that is not sensitive, apart from sites.
pub record IsClear (sites : List Site) (s : Swept) : Type 0 where
  pub insensitive : sensitive_kind s.insn ≡ None
  pub apart : (site : Site) → Contains sites site → (s.at + s.len ≤ site.at) ⊎ (site.at + site.total ≤ s.at)

-- An instruction in a site.
pub record IsHeld (sites : List Site) (s : Swept) : Type 0 where
  pub site : Site
  pub listed : Contains sites site
  pub part : PartOf site s
  pub begins : site.at ≤ s.at
  pub ends : s.at + s.len ≤ site.at + site.total

-- An instruction from an offset on, in a site or in none.
pub record Lies (low : ℕ) (sites : List Site) (s : Swept) : Type 0 where
  pub above : low ≤ s.at
  pub some : 1 ≤ s.len
  pub where_it_lies : IsClear sites s ⊎ IsHeld sites s

-- The instructions that fill a site up: NOPs, or HLT and then NOPs.
abbrev Fills : Bool → ℕ → List Piece → Type 0
Fills false n ps = has_nops n ps ≡ true
Fills true n ps = (n ≡ 4) × (has_hlt ps ≡ true)

abbrev Filler : Bool → ℕ → Swept → Type 0
Filler false from s = s.insn.op ≡ op.Nop
Filler true from s = ((from + 1 ≤ s.at) × (s.insn.op ≡ op.Nop)) ⊎ ((s.at ≡ from) × (sensitive_kind s.insn ≡ Some Hlt))

record IsFiller (hlt : Bool) (from n : ℕ) (s : Swept) : Type 0 where
  above : from ≤ s.at
  below : s.at + 1 ≤ from + n
  one : s.len ≡ 1
  is : Filler hlt from s

-- What is found after so many instructions that fill a site up.
pub record Behind (hlt : Bool) (n from : ℕ) (swept : List Swept) (sites : List Site) (to : ℕ) : Type 0 where
  apart : AreApart (from + n) sites to
  totals : (site : Site) → Contains sites site → site.total ≡ max 5 site.len
  firsts : (site : Site) → Contains sites site → (s : Swept) × Contains swept s × BeginsSite site s
  each : (s : Swept) → Contains swept s → IsFiller hlt from n s ⊎ Lies (from + n) sites s

pub AreApart-lower : (low from : ℕ) (sites : List Site) (to : ℕ) → low ≤ from → AreApart from sites to → AreApart low sites to
AreApart-lower low from [] to le h = omega arith
AreApart-lower low from (s ∷ sites) to le h = let first = h.0 in (omega (arith, first), h.1, h.2)

pub apart_bounds : (from : ℕ) (sites : List Site) (to : ℕ) → AreApart from sites to → (site : Site) → Contains sites site → (from ≤ site.at)
    × (5 ≤ site.total) × (site.at + site.total ≤ to)
apart_bounds from [] to h site c = absurd (none_in site c)
apart_bounds from (s ∷ sites) to h site c =
    elim (first_or_later s sites site c) [
      | inl e ↦ subst (λ (t : Site). (from ≤ t.at) × (5 ≤ t.total) × (t.at + t.total ≤ to)) e
          (h.0, h.1, apart_end (s.at + s.total) sites to h.2)
      | inr d ↦
          let later = apart_bounds (s.at + s.total) sites to h.2 site d in
          let first = h.0 in
          let above = later.0 in
          (omega (arith, first, above), later.1, later.2)
    ]
  where
    apart_end : (low : ℕ) (ss : List Site) (end : ℕ) → AreApart low ss end → low ≤ end
    apart_end low [] end h = h
    apart_end low (s ∷ ss) end h =
        let later = apart_end (s.at + s.total) ss end h.2 in
        let first = h.0 in
        omega (arith, later, first)

lower : (low high : ℕ) (sites : List Site) (s : Swept) → low ≤ high → Lies high sites s → Lies low sites s
lower low high sites s le h = let above = h.above in record { above = omega (arith, above); some = h.some; where_it_lies = h.where_it_lies }

no_filler : (hlt : Bool) (from : ℕ) (s : Swept) → IsFiller hlt from 0 s → ⊥
no_filler hlt from s h = let a = h.above in let b = h.below in omega (arith, a, b)

-- one instruction that is in no site
plain_first : (from : ℕ) (s : Swept) (swept : List Swept) (sites : List Site) (to : ℕ) → s.at ≡ from → 1 ≤ s.len
    → sensitive_kind s.insn ≡ None → Behind false 0 (from + s.len) swept sites to → Behind false 0 from (s ∷ swept) sites to
plain_first from s swept sites to at some none h = record {
  apart = AreApart-lower (from + 0) ((from + s.len) + 0) sites to (omega arith) h.apart;
  totals = h.totals;
  firsts = λ site c. let f = h.firsts site c in (f.0, later_in s swept f.0 f.1, f.2);
  each = λ t c.
      elim (first_or_later s swept t c) [
        | inl e ↦ inr (subst (Lies (from + 0) sites) e (record {
          above = omega arith;
          some = some;
          where_it_lies = inl (record {
            insensitive = none;
            apart = λ site d. let b = (apart_bounds ((from + s.len) + 0) sites to h.apart site d).0 in inl (omega (arith, b));
          });
        }))
        | inr d ↦ elim (h.each t d) [
          | inl f ↦ absurd (no_filler false (from + s.len) t f)
          | inr l ↦ inr (lower (from + 0) ((from + s.len) + 0) sites t (omega arith) l)
        ]
      ];
}

-- a site, by its first instruction and those that fill it up
record IsSite (hlt : Bool) (n from : ℕ) (s : Swept) (site : Site) : Type 0 where
  place : site.at ≡ from
  ends : site.total ≡ s.len + n
  most : 5 ≤ site.total
  total : site.total ≡ max 5 site.len
  begins : BeginsSite site s
  first : PartOf site s
  filled : (t : Swept) → IsFiller hlt (from + s.len) n t → PartOf site t

held_later : (site : Site) (sites : List Site) (t : Swept) → IsHeld sites t → IsHeld (site ∷ sites) t
held_later site sites t h =
    record { site = h.site; listed = later_in site sites h.site h.listed; part = h.part; begins = h.begins; ends = h.ends }

clear_later : (site : Site) (sites : List Site) (t : Swept) → site.at + site.total ≤ t.at → IsClear sites t → IsClear (site ∷ sites) t
clear_later site sites t le h = record {
  insensitive = h.insensitive;
  apart = λ other c. elim (first_or_later site sites other c) [
    | inl e ↦ inr (subst (λ (u : Site). u.at + u.total ≤ t.at) e le)
    | inr d ↦ h.apart other d
  ];
}

site_first : (hlt : Bool) (n from : ℕ) (s : Swept) (site : Site) (swept : List Swept) (sites : List Site) (to : ℕ) → s.at ≡ from → 1 ≤ s.len
    → IsSite hlt n from s site → Behind hlt n (from + s.len) swept sites to → Behind false 0 from (s ∷ swept) (site ∷ sites) to
site_first hlt n from s site swept sites to at some is h =
    let place = is.place in
    let ends = is.ends in
    let high : (from + s.len) + n ≡ site.at + site.total = omega (arith, place, ends) in
    record {
      apart = (omega (arith, place), is.most, subst (λ (k : ℕ). AreApart k sites to) high h.apart);
      totals = λ other c. elim (first_or_later site sites other c) [
        | inl e ↦ subst (λ (u : Site). u.total ≡ max 5 u.len) e is.total
        | inr d ↦ h.totals other d
      ];
      firsts = λ other c. elim (first_or_later site sites other c) [
        | inl e ↦ subst (λ (u : Site). (t : Swept) × Contains (s ∷ swept) t × BeginsSite u t) e (s, first_in s swept, is.begins)
        | inr d ↦ let f = h.firsts other d in (f.0, later_in s swept f.0 f.1, f.2)
      ];
      each = λ t c.
          elim (first_or_later s swept t c) [
            | inl e ↦ inr (subst (Lies (from + 0) (site ∷ sites)) e (record {
              above = omega arith;
              some = some;
              where_it_lies = inr (record {
                site = site;
                listed = first_in site sites;
                part = is.first;
                begins = omega (arith, place);
                ends = omega (arith, place, ends);
              });
            }))
            | inr d ↦ elim (h.each t d) [
              | inl f ↦
                  let above = f.above in
                  let below = f.below in
                  let one = f.one in
                  inr (record {
                    above = omega (arith, above);
                    some = omega (arith, one);
                    where_it_lies =
                        inr (record {
                          site = site;
                          listed = first_in site sites;
                          part = is.filled t f;
                          begins = omega (arith, place, above);
                          ends = omega (arith, high, below, one);
                        });
                  })
              | inr l ↦
                  let above = l.above in
                  inr (record {
                    above = omega (arith, above);
                    some = l.some;
                    where_it_lies = elim l.where_it_lies [
                      | inl clear ↦ inl (clear_later site sites t (omega (arith, high, above)) clear)
                      | inr held ↦ inr (held_later site sites t held)
                    ];
                  })
            ]
          ];
    }

-- ---- the whole text

-- one instruction that fills a site up
filler_first : (hlt : Bool) (n from : ℕ) (s : Swept) (swept : List Swept) (sites : List Site) (to : ℕ) → s.at ≡ from → s.len ≡ 1
    → Filler hlt from s → Behind false n (from + s.len) swept sites to → Behind hlt (suc n) from (s ∷ swept) sites to
filler_first hlt n from s swept sites to at one is h =
    let next : (from + s.len) + n ≡ from + suc n = omega (arith, one) in
    record {
      apart = subst (λ (k : ℕ). AreApart k sites to) next h.apart;
      totals = h.totals;
      firsts = λ site c. let f = h.firsts site c in (f.0, later_in s swept f.0 f.1, f.2);
      each = λ t c. elim (first_or_later s swept t c) [
        | inl e ↦ inl (subst (IsFiller hlt from (suc n)) e (record { above = omega arith; below = omega arith; one = one; is = is }))
        | inr d ↦ elim (h.each t d) [
          | inl f ↦
              let above = f.above in
              let below = f.below in
              inl (record {
                above = omega (arith, above);
                below = omega (arith, next, below);
                one = f.one;
                is = still hlt t (omega (arith, above, one)) f.is;
              })
          | inr l ↦ inr (subst (λ (k : ℕ). Lies k sites t) next l)
        ]
      ];
    }
  where
    still : (b : Bool) (t : Swept) → from + 1 ≤ t.at → t.insn.op ≡ op.Nop → Filler b from t
    still false t le e = e
    still true t le e = inl (le, e)

single_site : (from : ℕ) (s : Swept) (kind : SiteKind) → s.at ≡ from → 1 ≤ s.len → sensitive_kind s.insn ≡ Some kind
    → IsSite false (max 5 s.len - s.len) from s (single (piece_of s) kind)
single_site from s kind at some is = record {
  place = at;
  ends = omega arith;
  most = omega arith;
  total = refl;
  begins = inl (record { place = refl; len = refl; kind = is });
  first = Alone (record { place = refl; len = refl; kind = is });
  filled = λ t f. let above = f.above in Padding (record { behind = omega (arith, above, at); len = f.one; nop = f.is });
}

pair_site : (from : ℕ) (s : Swept) → s.at ≡ from → s.len ≡ 1 → sensitive_kind s.insn ≡ Some Sti → IsSite true 4 from s (pair (piece_of s))
pair_site from s at one is = record {
  place = at;
  ends = omega (arith, one);
  most = omega arith;
  total = refl;
  begins = inr (record { pair = (refl, refl); place = refl; len = one; kind = is });
  first = PairSti (record { pair = (refl, refl); place = refl; len = one; kind = is });
  filled = λ t f. elim f.is [
    | inl nop ↦ let above = nop.0 in Padding (record { behind = omega (arith, above, at, one); len = f.one; nop = nop.1 })
    | inr hlt ↦ let place =
        hlt.0 in PairHlt (record { pair = (refl, refl); place = omega (arith, place, at, one); len = f.one; kind = hlt.1 })
  ];
}

abbrev Later : ℕ → List Swept → ℕ → Type 0
Later from swept to = (hlt : Bool) (n : ℕ) → Fills hlt n (map piece_of swept) → (found_behind n (map piece_of swept)).lacking ≡ None
    → Behind hlt n from swept (found_behind n (map piece_of swept)).sites to

begun_first : (from : ℕ) (s : Swept) (swept : List Swept) (to : ℕ) → s.at ≡ from → 1 ≤ s.len → Later (from + s.len) swept to → (h : Here)
    → BeginsAs s swept h → (found_by (piece_of s) (λ n. found_behind n (map piece_of swept)) h).lacking ≡ None
    → Behind false 0 from (s ∷ swept) (found_by (piece_of s) (λ n. found_behind n (map piece_of swept)) h).sites to
begun_first from s swept to at some later here.Nothing is none =
    plain_first from s swept _ to at some is (later false 0 (nops_zero (map piece_of swept)) none)
begun_first from s swept to at some later here.Lacks is none = absurd cc
begun_first from s swept to at some later (here.Makes site) (inl one) none =
    let n = max 5 s.len - s.len in
    let size : site.total - s.len ≡ n = ap (λ (u : Site). u.total - s.len) one.1 in
    let found : Found = found_behind (site.total - s.len) (map piece_of swept) in
    let same : found_behind n (map piece_of swept) ≡ found = ap (λ k. found_behind k (map piece_of swept)) (sym size) in
    let h = later false n one.3 (ap (λ (f : Found). f.lacking) same ∙ none) in
    site_first false n from s site swept found.sites to at some
    (subst (IsSite false n from s) (sym one.1) (single_site from s one.0 at some one.2))
    (subst (λ (f : Found). Behind false n (from + s.len) swept f.sites to) same h)
begun_first from s swept to at some later (here.Makes site) (inr two) none =
    let size : site.total - s.len ≡ 4 = ap (λ (u : Site). u.total - s.len) two.0 ∙ ap (λ k. 5 - k) two.2 in
    let found : Found = found_behind (site.total - s.len) (map piece_of swept) in
    let same : found_behind 4 (map piece_of swept) ≡ found = ap (λ k. found_behind k (map piece_of swept)) (sym size) in
    let h = later true 4 (refl, two.3) (ap (λ (f : Found). f.lacking) same ∙ none) in
    site_first true 4 from s site swept found.sites to at some
    (subst (IsSite true 4 from s) (sym two.0) (pair_site from s at two.2 two.1))
    (subst (λ (f : Found). Behind true 4 (from + s.len) swept f.sites to) same h)

laid_behind : (hlt : Bool) (n from : ℕ) (bytes : List ℕ) (swept : List Swept) (to : ℕ) (left : List ℕ) → SweepsTo from bytes swept to left
    → Fills hlt n (map piece_of swept) → (found_behind n (map piece_of swept)).lacking ≡ None
    → Behind hlt n from swept (found_behind n (map piece_of swept)).sites to
unfolding found_behind has_nops
laid_behind true zero from bytes swept to left h f none = absurd (let e = f.0 in omega (arith, e))
laid_behind false zero from bytes [] to left h f none = record {
  apart = (let e = h.0 in omega (arith, e));
  totals = λ site c. absurd (none_in site c);
  firsts = λ site c. absurd (none_in site c);
  each = λ s c. absurd (none_in s c);
}
laid_behind false (suc n) from bytes [] to left h f none = absurd cc
laid_behind true (suc n) from bytes [] to left h f none = absurd (let e = f.1 in cc)
laid_behind false (suc n) from bytes (s ∷ swept) to left h f none =
    let two = and_parts (is_nop_role (piece_of s).role) (has_nops n (map piece_of swept)) f in
    filler_first false n from s swept _ to h.0 (begun_one bytes s.insn s.len h.1 (nop_piece s two.0)) (is_padding s two.0)
    (laid_behind false n (from + s.len) (drop s.len bytes) swept to left h.2 two.1 none)
laid_behind true (suc n) from bytes (s ∷ swept) to left h f none =
    let two = and_parts (is_hlt (piece_of s).role) (has_nops 3 (map piece_of swept)) f.1 in
    let e = f.0 in
    let three : 3 ≡ n = omega (arith, e) in
    filler_first true n from s swept _ to h.0 (begun_one bytes s.insn s.len h.1 (hlt_piece s two.0))
    (inr (h.0, is_sensitive s Hlt (hlt_role (piece_of s).role two.0)))
    (laid_behind false n (from + s.len) (drop s.len bytes) swept to left h.2
    (subst (λ k. has_nops k (map piece_of swept) ≡ true) three two.1) none)
laid_behind false zero from bytes (s ∷ swept) to left h f none =
    begun_first from s swept to h.0 (begun_has_byte bytes s.insn s.len h.1)
    (λ hlt n. laid_behind hlt n (from + s.len) (drop s.len bytes) swept to left h.2) (begun_by (piece_of s) (map piece_of swept))
    (begun_as bytes s swept h.1) none

-- How the sites of a whole text lie.
pub record Laid (at : ℕ) (swept : List Swept) (sites : List Site) (to : ℕ) : Type 0 where
  pub apart : AreApart at sites to
  pub totals : (site : Site) → Contains sites site → site.total ≡ max 5 site.len
  pub firsts : (site : Site) → Contains sites site → (s : Swept) × Contains swept s × BeginsSite site s
  pub each : (s : Swept) → Contains swept s → Lies at sites s

pub laid : (from : ℕ) (bytes : List ℕ) (swept : List Swept) (to : ℕ) (left : List ℕ) → SweepsTo from bytes swept to left
    → (found_behind 0 (map piece_of swept)).lacking ≡ None → Laid from swept (found_behind 0 (map piece_of swept)).sites to
laid from bytes swept to left h none =
    let b = laid_behind false 0 from bytes swept to left h (nops_zero (map piece_of swept)) none in
    let same : from + 0 ≡ from = omega arith in
    record {
      apart = subst (λ (k : ℕ). AreApart k (found_behind 0 (map piece_of swept)).sites to) same b.apart;
      totals = b.totals;
      firsts = b.firsts;
      each = λ s c. elim (b.each s c) [
        | inl f ↦ absurd (no_filler false from s f)
        | inr l ↦ subst (λ (k : ℕ). Lies k (found_behind 0 (map piece_of swept)).sites s) same l
      ];
    }
