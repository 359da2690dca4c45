-- What sensitive instructions are, and how STI is spelled.
use Rattle.std.proofs.Common.{◌≡◌, ℕ, Bool, true, false, not, ◌&&◌, ◌||◌, List, [], ◌∷◌, ◌++◌, Some, None, Ok, refl, sym, ap, subst, ◌∙◌, arith}
use Rattle.std.specs.Prelude.{◌==◌, nat_le}
use Rattle.std.specs.List.{list_all, Contains}
use Rattle.std.proofs.lemmas.Bool.{and_parts, eqb-true}
use Rattle.std.proofs.lemmas.Bool.Decides.{nat_tests}
use Rattle.std.proofs.lemmas.List.Sums.{AllPass-from_list_all}
use Rattle.ia32_types.specs.declared.insn.Op.{Op}
use Rattle.ia32_types.specs.declared.insn.Op.TheVariants as op
use Rattle.ia32_types.specs.declared.site.SiteKind.{SiteKind}
use Rattle.ia32_types.specs.declared.site.SiteKind.TheVariants as site
use Rattle.ia32_types.specs.Site.{kind_of, sensitive_kind}
use Rattle.ia32_rows.specs.declared.row.Row.{Row}
use Rattle.ia32_rows.specs.declared.row.Form.{Form}
use Rattle.ia32_rows.specs.declared.row.Parts.{Parts}
use Rattle.ia32_rows.specs.declared.row.Lead.{Lead}
use Rattle.ia32_rows.specs.declared.row.Plus.{Plus}
use Rattle.ia32_rows.specs.declared.row.Addressing.{Addressing}
use Rattle.ia32_rows.specs.declared.row.Immediate.{Immediate}
use Rattle.ia32_rows.specs.declared.row.Lead.TheVariants as lead
use Rattle.ia32_rows.specs.declared.row.Plus.TheVariants as plus
use Rattle.ia32_rows.specs.declared.row.Addressing.TheVariants as addressing
use Rattle.ia32_rows.specs.declared.row.Immediate.TheVariants as immediate
use Rattle.ia32_rows.specs.declared.row.Located.{Located}
use Rattle.ia32_rows.specs.Fields.{addressing_at, immediate_at, imm_len}
use Rattle.ia32_rows.specs.Spelling.{lead_at, parts_at, insn_of}
use Rattle.ia32_rows.specs.Spells.{SpellsBy}
use Rattle.ia32_rows.specs.Pieces.{IsLaidOut}
use Rattle.ia32_rows.specs.Rows.{rows, sites}
use Rattle.ia32_rows.proofs.Readers.{same_read}
use Rattle.ia32_rows.proofs.SiteLaws.{is_listed}
use Rattle.ia32_rows.proofs.Pieces.{in_pieces}
use Rattle.image_check.specs.Pieces.{is_nop}
use Rattle.image_check.proofs.Room.{op_is}

pub nop_plain : (o : Op) → is_nop o ≡ true → kind_of o ≡ None
nop_plain op.Nop e = refl
nop_plain _ e = absurd cc

-- ---- STI

abbrev is_sti_kind : SiteKind → Bool
is_sti_kind site.Sti = true
is_sti_kind _ = false

abbrev no_lead : Lead → Bool
no_lead lead.Nothing = true
no_lead _ = false

abbrev no_plus : Plus → Bool
no_plus plus.Nothing = true
no_plus _ = false

abbrev no_address : Addressing → Bool
no_address addressing.Nothing = true
no_address _ = false

abbrev no_immediate : Immediate → Bool
no_immediate immediate.Nothing = true
no_immediate _ = false

lead_none : (l : Lead) → no_lead l ≡ true → l ≡ lead.Nothing
lead_none lead.Nothing e = refl
lead_none _ e = absurd cc

plus_none : (p : Plus) → no_plus p ≡ true → p ≡ plus.Nothing
plus_none plus.Nothing e = refl
plus_none _ e = absurd cc

address_none : (a : Addressing) → no_address a ≡ true → a ≡ addressing.Nothing
address_none addressing.Nothing e = refl
address_none _ e = absurd cc

immediate_none : (i : Immediate) → no_immediate i ≡ true → i ≡ immediate.Nothing
immediate_none immediate.Nothing e = refl
immediate_none _ e = absurd cc

abbrev form_with : Lead → ℕ → Plus → Addressing → Immediate → Form
form_with l n p a i = record { lead = l; opcode = n; plus = p; addressing = a; immediate = i }

abbrev is_bare : Form → Bool
is_bare f = no_lead f.lead && (f.opcode == 0xFB && (no_plus f.plus && (no_address f.addressing && no_immediate f.immediate)))

abbrev sti_form : Form
sti_form = form_with lead.Nothing 0xFB plus.Nothing addressing.Nothing immediate.Nothing

bare_is : (f : Form) → is_bare f ≡ true → f ≡ sti_form
bare_is f e =
    let a = and_parts (no_lead f.lead) (f.opcode == 0xFB && (no_plus f.plus && (no_address f.addressing && no_immediate f.immediate))) e in
    let b = and_parts (f.opcode == 0xFB) (no_plus f.plus && (no_address f.addressing && no_immediate f.immediate)) a.1 in
    let c = and_parts (no_plus f.plus) (no_address f.addressing && no_immediate f.immediate) b.1 in
    let d = and_parts (no_address f.addressing) (no_immediate f.immediate) c.1 in
    ap (λ l. form_with l f.opcode f.plus f.addressing f.immediate) (lead_none f.lead a.0)
    ∙ ap (λ n. form_with lead.Nothing n f.plus f.addressing f.immediate) (eqb-true f.opcode 0xFB b.0)
    ∙ ap (λ p. form_with lead.Nothing 0xFB p f.addressing f.immediate) (plus_none f.plus c.0)
    ∙ ap (λ x. form_with lead.Nothing 0xFB plus.Nothing x f.immediate) (address_none f.addressing d.0)
    ∙ ap (λ i. form_with lead.Nothing 0xFB plus.Nothing addressing.Nothing i) (immediate_none f.immediate d.1)

abbrev sti_right : SiteKind × Row → Bool
sti_right s = not (is_sti_kind s.0) || is_bare s.1.form

stis_right : list_all sti_right sites ≡ true
stis_right = refl

pub sti_row : (row : Row) → Contains rows row → kind_of row.op ≡ Some site.Sti → row.form ≡ sti_form
sti_row row c e =
    let there = is_listed row c site.Sti e in
    let right = AllPass-from_list_all sti_right sites stis_right there.0 (site.Sti, row) there.1 in
    bare_is row.form (sym (ap sti_right there.2) ∙ right)

within : (n code : ℕ) → (nat_le n code && nat_le code n) ≡ true → code ≡ n
within n code e = grind (arith, nat_tests)

only_code : (p : Parts) (bytes : List ℕ) → IsLaidOut sti_form p bytes → bytes ≡ 0xFB ∷ []
unfolding lead_at addressing_at immediate_at
only_code p bytes o =
    let l : o.lead ≡ [] = (same_read 0 o.lead_byte o.lead [] o.lead_is).1 in
    let a : o.address ≡ [] = (same_read _ _ o.address [] o.address_is).1 in
    let i : o.immediate ≡ [] = (same_read _ _ o.immediate [] o.immediate_is).1 in
    let code = within 0xFB p.code o.code_is in
    o.together
    ∙ ap (λ xs. xs ++ (p.code ∷ (o.address ++ o.immediate))) l
    ∙ ap (λ xs. p.code ∷ (xs ++ o.immediate)) a
    ∙ ap (λ xs. p.code ∷ xs) i
    ∙ ap (λ n. n ∷ []) code

-- the same of bytes that are read so
pub sti_read : (row : Row) (p : Parts) (bytes : List ℕ) → Contains rows row → parts_at row.form bytes ≡ Ok (p, [])
    → kind_of row.op ≡ Some site.Sti → bytes ≡ 0xFB ∷ []
sti_read row p bytes c read e =
    only_code p bytes (subst (λ form. IsLaidOut form p bytes) (sti_row row c e) ((in_pieces row c p bytes).0 read))

no_disp : (p : Parts) (bytes : List ℕ) → IsLaidOut sti_form p bytes → p.disp_len ≡ 0
unfolding addressing_at
no_disp p bytes o = sym (ap (λ (l : Located). l.disp_len) (same_read _ _ o.address [] o.address_is).0)

pub sti_no_disp : (row : Row) (p : Parts) (bytes : List ℕ) → Contains rows row → parts_at row.form bytes ≡ Ok (p, [])
    → kind_of row.op ≡ Some site.Sti → p.disp_len ≡ 0
sti_no_disp row p bytes c read e =
    no_disp p bytes (subst (λ form. IsLaidOut form p bytes) (sti_row row c e) ((in_pieces row c p bytes).0 read))

pub sti_no_imm : (row : Row) → Contains rows row → kind_of row.op ≡ Some site.Sti → imm_len row.form.immediate ≡ 0
sti_no_imm row c e = ap (λ (f : Form). imm_len f.immediate) (sti_row row c e)

pub sti_bytes : (row : Row) (p : Parts) (bytes : List ℕ) → Contains rows row → SpellsBy row p bytes (insn_of row p)
    → sensitive_kind (insn_of row p) ≡ Some site.Sti → bytes ≡ 0xFB ∷ []
sti_bytes row p bytes c s e =
    let f = sti_row row c (ap kind_of (sym (op_is row p)) ∙ e) in
    only_code p bytes (subst (λ form. IsLaidOut form p bytes) f ((in_pieces row c p bytes).0 s.read))
