-- NOP, STI and HLT are one byte each, so the sites lie in the text.
use Rattle.std.proofs.Common.{◌≡◌, ℕ, zero, suc, ◌+◌, ◌-◌, ◌≤◌, Bool, true, false, ◌&&◌, cond, max, List, [], ◌∷◌, ◌++◌, length, drop, take, map, Ok, refl, sym, ap, subst, ◌∙◌, inl, inr, arith}
use Rattle.std.specs.List.{list_all, Contains}
use Rattle.std.proofs.lemmas.Bool.{and_parts, cases_Bool}
use Rattle.std.proofs.lemmas.List.{length-append, length-take}
use Rattle.std.proofs.lemmas.List.Sums.{AllPass-from_list_all}
use Rattle.ia32_types.specs.Branches.{is_direct_branch}
use Rattle.ia32_types.specs.declared.insn.Insn.{Insn}
use Rattle.ia32_types.specs.declared.insn.Op.{Op}
use Rattle.ia32_types.specs.declared.insn.Op.TheVariants as op
use Rattle.ia32_types.specs.declared.site.SiteKind.{SiteKind}
use Rattle.ia32_types.specs.Site.{kind_of}
use Rattle.ia32_rows.specs.declared.row.Lead.{Lead}
use Rattle.ia32_rows.specs.declared.row.Lead.TheVariants as lead
use Rattle.ia32_rows.specs.declared.row.Located.{Located}
use Rattle.ia32_rows.specs.declared.row.Addressing.{Addressing}
use Rattle.ia32_rows.specs.declared.row.Addressing.TheVariants as addressing
use Rattle.ia32_rows.specs.declared.row.Immediate.{Immediate}
use Rattle.ia32_rows.specs.declared.row.Immediate.TheVariants as immediate
use Rattle.ia32_rows.specs.declared.row.Row.{Row}
use Rattle.ia32_rows.specs.declared.row.Parts.{Parts}
use Rattle.ia32_rows.specs.Fields.{addressing_at, immediate_at}
use Rattle.ia32_rows.specs.Spelling.{lead_at, insn_of}
use Rattle.ia32_rows.specs.Spells.{Spells}
use Rattle.ia32_rows.specs.Rows.{rows}
use Rattle.ia32_rows.proofs.Pieces.{in_pieces}
use Rattle.ia32_rows.proofs.Readers.{same_read}
use Rattle.ia32_decode.specs.Answer.{Begins}
use Rattle.sites.specs.Room.{AreInside}
use Rattle.image_check.specs.declared.piece.Role.{Role}
use Rattle.image_check.specs.declared.piece.Role.TheVariants as role
use Rattle.image_check.specs.declared.piece.Piece.{Piece}
use Rattle.image_check.specs.declared.site.Here.{Here}
use Rattle.image_check.specs.declared.site.Here.TheVariants as here
use Rattle.image_check.specs.Sweep.{Swept}
use Rattle.image_check.specs.SweptTexts.{SweepsTo}
use Rattle.image_check.specs.Pieces as pieces
use Rattle.image_check.specs.Pieces.{piece_of, target_of, site_role}
use Rattle.image_check.specs.TextSites.{is_nop_role, is_sti, is_hlt, has_nops, has_hlt, pair, single, padded, by_role, begun_by, Found, found_by, found_behind}
use Rattle.image_check.specs.Image.{Image}
use Rattle.image_check.specs.Accepts.{IsAccepted}
use Rattle.image_check.proofs.Acceptance.{were_found}

-- ---- one byte

pub is_single : Op → Bool
is_single op.Nop = true
is_single op.Hlt = true
is_single op.Sti = true
is_single _ = false

no_lead : Lead → Bool
no_lead lead.Nothing = true
no_lead _ = false

no_address : Addressing → Bool
no_address addressing.Nothing = true
no_address _ = false

no_immediate : Immediate → Bool
no_immediate immediate.Nothing = true
no_immediate _ = false

fits : Row → Bool
fits row = cond (is_single row.op) (no_lead row.form.lead && no_address row.form.addressing && no_immediate row.form.immediate) true

all_fit : list_all fits rows ≡ true
unfolding rows fits is_single no_lead no_address no_immediate
all_fit = refl

row_fits : (r : Row) → Contains rows r → is_single r.op ≡ true
    → (no_lead r.form.lead && no_address r.form.addressing && no_immediate r.form.immediate) ≡ true
unfolding fits
row_fits r c e =
    let fit : fits r ≡ true = ap fits (sym c.2) ∙ AllPass-from_list_all fits rows all_fit c.0 r c.1 in
    ap (λ b. cond b (no_lead r.form.lead && no_address r.form.addressing && no_immediate r.form.immediate) true) (sym e) ∙ fit

lead_none : (l : Lead) (bytes : List ℕ) (b : ℕ) → no_lead l ≡ true → lead_at l bytes ≡ Ok (b, []) → bytes ≡ []
unfolding no_lead lead_at
lead_none lead.Nothing bytes b n e = (same_read 0 b bytes [] e).1
lead_none lead.Word bytes b n e = absurd cc
lead_none lead.Repeat bytes b n e = absurd cc
lead_none lead.Escape bytes b n e = absurd cc

address_none : (a : Addressing) (bytes : List ℕ) (x : Located) → no_address a ≡ true → addressing_at a bytes ≡ Ok (x, []) → bytes ≡ []
unfolding no_address addressing_at
address_none addressing.Nothing bytes x n e = (same_read _ x bytes [] e).1
address_none addressing.Offset bytes x n e = absurd cc
address_none (addressing.Modrm m) bytes x n e = absurd cc

immediate_none : (i : Immediate) (bytes : List ℕ) (x : ℕ × ℕ) → no_immediate i ≡ true → immediate_at i bytes ≡ Ok (x, []) → bytes ≡ []
unfolding no_immediate immediate_at
immediate_none immediate.Nothing bytes x n e = (same_read (0, 0) x bytes [] e).1
immediate_none immediate.One bytes x n e = absurd cc
immediate_none immediate.Byte bytes x n e = absurd cc
immediate_none immediate.SignedByte bytes x n e = absurd cc
immediate_none immediate.Word bytes x n e = absurd cc
immediate_none immediate.Long bytes x n e = absurd cc
immediate_none immediate.Far bytes x n e = absurd cc

pub op_is : (r : Row) (p : Parts) → (insn_of r p).op ≡ r.op
unfolding insn_of
op_is r p = refl

one_byte : (bytes : List ℕ) (insn : Insn) → Spells bytes insn → is_single insn.op ≡ true → length bytes ≡ 1
one_byte bytes insn s e =
    let named : is_single s.row.op ≡ true = ap is_single (sym (ap (λ (i : Insn). i.op) s.by_row.means ∙ op_is s.row s.parts)) ∙ e in
    let a = and_parts (no_lead s.row.form.lead && no_address s.row.form.addressing) (no_immediate s.row.form.immediate)
    (row_fits s.row s.listed named) in
    let b = and_parts (no_lead s.row.form.lead) (no_address s.row.form.addressing) a.0 in
    let laid = (in_pieces s.row s.listed s.parts bytes).0 s.by_row.read in
    let x = ap (length {A = ℕ}) (lead_none s.row.form.lead laid.lead laid.lead_byte b.0 laid.lead_is) in
    let y = ap (length {A = ℕ}) (address_none s.row.form.addressing laid.address _ b.1 laid.address_is) in
    let z = ap (length {A = ℕ}) (immediate_none s.row.form.immediate laid.immediate _ a.1 laid.immediate_is) in
    omega (
      arith,
      x,
      y,
      z,
      ap length laid.together,
      length-append laid.lead (s.parts.code ∷ (laid.address ++ laid.immediate)),
      length-append laid.address laid.immediate,
    )

pub begun_one : (bytes : List ℕ) (insn : Insn) (n : ℕ) → Begins bytes insn n → is_single insn.op ≡ true → n ≡ 1
begun_one bytes insn n h e =
    let within = h.within in
    let one = one_byte (take n bytes) insn h.front e in
    omega (arith, one, length-take n bytes)

-- ---- by role

role_by : ℕ → Op → Role
role_by target o = cond (is_direct_branch o) (role.Branch target) (cond (pieces.is_nop o) role.Nop (site_role (kind_of o)))

nop_single : (target : ℕ) (o : Op) → is_nop_role (role_by target o) ≡ true → is_single o ≡ true
unfolding role_by is_single
nop_single target op.Nop e = refl
nop_single target _ e = absurd cc

hlt_single : (target : ℕ) (o : Op) → is_hlt (role_by target o) ≡ true → is_single o ≡ true
unfolding role_by is_single
hlt_single target op.Hlt e = refl
hlt_single target _ e = absurd cc

sti_single : (target : ℕ) (o : Op) → is_sti (role_by target o) ≡ true → is_single o ≡ true
unfolding role_by is_single
sti_single target op.Sti e = refl
sti_single target _ e = absurd cc

pub nop_piece : (s : Swept) → is_nop_role (piece_of s).role ≡ true → is_single s.insn.op ≡ true
unfolding role_by
nop_piece s e = nop_single (target_of s.at s.len s.insn) s.insn.op e

pub hlt_piece : (s : Swept) → is_hlt (piece_of s).role ≡ true → is_single s.insn.op ≡ true
unfolding role_by
hlt_piece s e = hlt_single (target_of s.at s.len s.insn) s.insn.op e

pub sti_piece : (s : Swept) → is_sti (piece_of s).role ≡ true → is_single s.insn.op ≡ true
unfolding role_by
sti_piece s e = sti_single (target_of s.at s.len s.insn) s.insn.op e

-- ---- room

pub goes_up : (from : ℕ) (bytes : List ℕ) (swept : List Swept) (to : ℕ) (left : List ℕ) → SweepsTo from bytes swept to left → from ≤ to
goes_up from bytes [] to left h = let e = h.0 in omega (arith, e)
goes_up from bytes (s ∷ swept) to left h = let later = goes_up (from + s.len) (drop s.len bytes) swept to left h.2 in omega (arith, later)

nops_room : (n from : ℕ) (bytes : List ℕ) (swept : List Swept) (to : ℕ) (left : List ℕ) → SweepsTo from bytes swept to left
    → has_nops n (map piece_of swept) ≡ true → from + n ≤ to
unfolding has_nops
nops_room zero from bytes swept to left h e = let up = goes_up from bytes swept to left h in omega (arith, up)
nops_room (suc n) from bytes [] to left h e = absurd cc
nops_room (suc n) from bytes (s ∷ swept) to left h e =
    let nop = and_parts (is_nop_role (piece_of s).role) (has_nops n (map piece_of swept)) e in
    let one = begun_one bytes s.insn s.len h.1 (nop_piece s nop.0) in
    let later = nops_room n (from + s.len) (drop s.len bytes) swept to left h.2 nop.1 in
    omega (arith, one, later)

hlt_room : (from : ℕ) (bytes : List ℕ) (swept : List Swept) (to : ℕ) (left : List ℕ) → SweepsTo from bytes swept to left
    → has_hlt (map piece_of swept) ≡ true → from + 4 ≤ to
hlt_room from bytes [] to left h e = absurd cc
hlt_room from bytes (s ∷ swept) to left h e =
    let hlt = and_parts (is_hlt (piece_of s).role) (has_nops 3 (map piece_of swept)) e in
    let one = begun_one bytes s.insn s.len h.1 (hlt_piece s hlt.0) in
    let later = nops_room 3 (from + s.len) (drop s.len bytes) swept to left h.2 hlt.1 in
    omega (arith, one, later)

abbrev Fit : ℕ → Here → Type 0
Fit to here.Nothing = Unit {0}
Fit to here.Lacks = Unit {0}
Fit to (here.Makes s) = (5 ≤ s.total) × (s.at + s.total ≤ to)

module _ (from : ℕ) (bytes : List ℕ) (s : Swept) (swept : List Swept) (to : ℕ) (left : List ℕ)
    (h : SweepsTo from bytes (s ∷ swept) to left) where
  pair_fits : is_sti (piece_of s).role ≡ true → has_hlt (map piece_of swept) ≡ true → Fit to (here.Makes (pair (piece_of s)))
  pair_fits sti hlt =
      let one = begun_one bytes s.insn s.len h.1 (sti_piece s sti) in
      let room = hlt_room (from + s.len) (drop s.len bytes) swept to left h.2 hlt in
      let at = h.0 in
      (omega arith, omega (arith, one, room, at))

  padded_fits : (kind : SiteKind) → Fit to (padded (piece_of s) (map piece_of swept) kind)
  padded_fits kind =
      elim (cases_Bool (has_nops (max 5 s.len - s.len) (map piece_of swept))) [
        | inl e ↦
            let room = nops_room (max 5 s.len - s.len) (from + s.len) (drop s.len bytes) swept to left h.2 e in
            let at = h.0 in
            subst (λ b. Fit to (cond b (here.Makes (single (piece_of s) kind)) here.Lacks)) (sym e) (omega arith, omega (arith, room, at))
        | inr e ↦ subst (λ b. Fit to (cond b (here.Makes (single (piece_of s) kind)) here.Lacks)) (sym e) tt
      ]

  role_fits : (r : Role) → Fit to (by_role (piece_of s) (map piece_of swept) r)
  role_fits (role.Site kind) = padded_fits kind
  role_fits role.Plain = tt
  role_fits role.Nop = tt
  role_fits (role.Branch target) = tt

  begun_fits : Fit to (begun_by (piece_of s) (map piece_of swept))
  unfolding begun_by
  begun_fits =
      elim (cases_Bool (is_sti (piece_of s).role && has_hlt (map piece_of swept))) [
        | inl e ↦
            let two = and_parts (is_sti (piece_of s).role) (has_hlt (map piece_of swept)) e in
            subst (λ b. Fit to (cond b (here.Makes (pair (piece_of s))) (by_role (piece_of s) (map piece_of swept) (piece_of s).role)))
            (sym e) (pair_fits two.0 two.1)
        | inr e ↦ subst (λ b. Fit to
            (cond b (here.Makes (pair (piece_of s))) (by_role (piece_of s) (map piece_of swept) (piece_of s).role))) (sym e)
            (role_fits (piece_of s).role)
      ]

found_fits : (to : ℕ) (p : Piece) (behind : ℕ → Found) (x : Here) → Fit to x → ((n : ℕ) → AreInside to 0 (behind n).sites)
    → AreInside to 0 (found_by p behind x).sites
found_fits to p behind here.Nothing fit later = later 0
found_fits to p behind here.Lacks fit later = tt
found_fits to p behind (here.Makes s) fit later =
    let room = fit.1 in
    (fit.0, omega (arith, room), later (s.total - p.len))

pub found_inside : (skipped from : ℕ) (bytes : List ℕ) (swept : List Swept) (to : ℕ) (left : List ℕ) → SweepsTo from bytes swept to left
    → AreInside to 0 (found_behind skipped (map piece_of swept)).sites
unfolding found_behind
found_inside zero from bytes [] to left h = tt
found_inside (suc n) from bytes [] to left h = tt
found_inside (suc n) from bytes (s ∷ swept) to left h = found_inside n (from + s.len) (drop s.len bytes) swept to left h.2
found_inside zero from bytes (s ∷ swept) to left h =
    found_fits to (piece_of s) (λ n. found_behind n (map piece_of swept)) (begun_by (piece_of s) (map piece_of swept))
    (begun_fits from bytes s swept to left h)
    (λ n. found_inside n (from + s.len) (drop s.len bytes) swept to left h.2)

-- the sites of an accepted image lie in its text
pub sites_inside : (image : Image) → IsAccepted image → AreInside (length image.text) 0 image.sites
sites_inside image h =
    let ps = map piece_of h.swept in
    let same = (were_found image.sites (found_behind 0 ps).sites (found_behind 0 ps).lacking h.sites).1 in
    subst (AreInside (length image.text) 0) same (found_inside 0 0 image.text h.swept (length image.text) [] h.sweep)
