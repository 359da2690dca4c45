-- Of what bytes spell, the instructions of the list of sites are the sensitive ones.
use Rattle.std.proofs.Common.{◌≡◌, ℕ, zero, suc, ◌+◌, ◌-◌, ◌<◌, Bool, true, List, [], ◌∷◌, ◌++◌, length, get_or, map, Option, Some, None, refl, sym, ap, subst, ◌∙◌, zero-add, inl, inr, arith}
use Rattle.std.specs.Prelude.{◌↔◌, is_none}
use Rattle.std.specs.List.{list_all, Contains}
use Rattle.std.proofs.lemmas.Bool.{cases_lt}
use Rattle.std.proofs.lemmas.List.{length-append, get_or-map}
use Rattle.std.proofs.lemmas.List.Sums.{AllPass-from_list_all}
use Rattle.plain_laws.proofs.Options.{none_is}
use Rattle.ia32_types.specs.declared.insn.Insn.{Insn}
use Rattle.ia32_types.specs.declared.site.SiteKind.{SiteKind}
use Rattle.ia32_types.specs.Site.{kind_of, sensitive_kind}
use Rattle.ia32_rows.specs.declared.row.Row.{Row}
use Rattle.ia32_rows.specs.declared.row.Parts.{Parts}
use Rattle.ia32_rows.specs.Spelling.{insn_of}
use Rattle.ia32_rows.specs.Spells.{Spells}
use Rattle.ia32_rows.specs.Rows.{plain_rows, sites, site_row, rows}
use Rattle.ia32_rows.specs.Sites.{IsSite}

abbrev kind_by_op : SiteKind × Row → Option SiteKind
kind_by_op s = kind_of s.1.op

abbrev kind_in_list : SiteKind × Row → Option SiteKind
kind_in_list s = Some s.0

sites_have_kinds : map kind_by_op sites ≡ map kind_in_list sites
sites_have_kinds = refl

kind_at : (k : ℕ) (d : SiteKind × Row) → k < length sites → kind_by_op (get_or sites k d) ≡ kind_in_list (get_or sites k d)
kind_at k d lt = sym (get_or-map kind_by_op sites k d None lt)
    ∙ ap (λ (ks : List (Option SiteKind)). get_or ks k None) sites_have_kinds ∙ get_or-map kind_in_list sites k d None lt

abbrev has_no_kind : Row → Bool
has_no_kind r = is_none (kind_of r.op)

plain_rows_have_none : list_all has_no_kind plain_rows ≡ true
plain_rows_have_none = refl

behind : (xs ys : List Row) (k : ℕ) (d : Row) → get_or (xs ++ ys) (length xs + k) d ≡ get_or ys k d
behind [] ys k d = ap (λ n. get_or ys n d) (zero-add k)
behind (x ∷ xs) ys k d = let e : suc (length xs) + k ≡ suc (length xs + k) =
    omega arith in ap (λ n. get_or (x ∷ (xs ++ ys)) n d) e ∙ behind xs ys k d

before : (xs ys : List Row) (k : ℕ) (d : Row) → k < length xs → get_or (xs ++ ys) k d ≡ get_or xs k d
before [] ys k d lt = absurd (omega arith)
before (x ∷ xs) ys zero d lt = refl
before (x ∷ xs) ys (suc k) d lt = before xs ys k d (omega arith)

mapped : (ss : List (SiteKind × Row)) (k : ℕ) (d : SiteKind × Row) → get_or (map site_row ss) k d.1 ≡ (get_or ss k d).1
mapped [] k d = refl
mapped (s ∷ ss) zero d = refl
mapped (s ∷ ss) (suc k) d = mapped ss k d

mapped_length : (ss : List (SiteKind × Row)) → length (map site_row ss) ≡ length ss
mapped_length [] = refl
mapped_length (s ∷ ss) = ap suc (mapped_length ss)

op_of : (insn : Insn) (row : Row) (p : Parts) → insn ≡ insn_of row p → insn.op ≡ row.op
unfolding insn_of
op_of insn row p e = ap (λ (i : Insn). i.op) e

-- a row that is listed is plain, or it is the row of a site of its kind
module _ (row : Row) (c : Contains rows row) (kind : SiteKind) (sensitive : kind_of row.op ≡ Some kind) where
  not_plain : c.0 < length plain_rows → ⊥
  unfolding rows
  not_plain lt =
      let at : get_or plain_rows c.0 row ≡ row = sym (before plain_rows (map site_row sites) c.0 row lt) ∙ c.2 in
      let none : kind_of row.op ≡ None =
      none_is (kind_of row.op) (ap has_no_kind (sym at) ∙ AllPass-from_list_all has_no_kind plain_rows plain_rows_have_none c.0 row lt) in
      absurd (cc (none, sensitive))

  place : ℕ
  place = c.0 - length plain_rows

  pub is_listed : Contains sites (kind, row)
  unfolding place rows
  is_listed =
      elim (cases_lt c.0 (length plain_rows)) [
        | inl lt ↦ absurd (not_plain lt)
        | inr le ↦
            let k : length plain_rows + place ≡ c.0 = omega (arith, le) in
            let lt : place < length sites = omega (arith, c.1, le, length-append plain_rows (map site_row sites), mapped_length sites) in
            let at : (get_or sites place (kind, row)).1 ≡ row = sym (mapped sites place (kind, row))
            ∙ sym (behind plain_rows (map site_row sites) place row) ∙ ap (λ n. get_or rows n row) k ∙ c.2 in
            let of_kind = kind_at place (kind, row) lt in
            let same : (get_or sites place (kind, row)).0 ≡ kind =
            some_is _ _ (sym of_kind ∙ ap (λ (r : Row). kind_of r.op) at ∙ sensitive) in
            (place, lt, pair_is (get_or sites place (kind, row)) (kind, row) same at)
      ] where
        some_is : (a b : SiteKind) → Some a ≡ Some b → a ≡ b
        some_is a b e = cc

        pair_is : (s t : SiteKind × Row) → s.0 ≡ t.0 → s.1 ≡ t.1 → s ≡ t
        pair_is (a, r) (b, q) e f = cc (e, f)

pub site_kinds : (bytes : List ℕ) (insn : Insn) (kind : SiteKind) → Spells bytes insn
    → (sensitive_kind insn ≡ Some kind) ↔ IsSite bytes insn kind
site_kinds bytes insn kind s =
    let op = op_of insn s.row s.parts s.by_row.means in (
      λ e. record { row = s.row; listed = is_listed s.row s.listed kind (ap kind_of (sym op) ∙ e); parts = s.parts; by_row = s.by_row },
      λ site.
          let o = op_of insn site.row site.parts site.by_row.means in
          let at : kind_of (get_or sites site.listed.0 (kind, site.row)).1.op ≡ Some (get_or sites site.listed.0 (kind, site.row)).0 =
          kind_at site.listed.0 (kind, site.row) site.listed.1 in
          ap kind_of o ∙ subst (λ (t : SiteKind × Row). kind_of t.1.op ≡ Some t.0) site.listed.2 at,
    )
