-- Each row reads as readers do.
use Rattle.std.proofs.Common.{◌≡◌, ℕ, ◌+◌, ◌*◌, Bool, true, cond, List, [], Ok, refl, arith}
use Rattle.std.specs.Prelude.{◌&&◌, nat_lt, is_none}
use Rattle.std.proofs.lemmas.Bool.{ltb-true, and_parts}
use Rattle.ia32_rows.specs.declared.row.Slash.{Slash}
use Rattle.ia32_rows.specs.declared.row.Slash.TheVariants as slash
use Rattle.ia32_rows.specs.declared.row.RmForm.{RmForm}
use Rattle.ia32_rows.specs.declared.row.RmForm.TheVariants as place
use Rattle.ia32_rows.specs.declared.row.Modrm.{Modrm}
use Rattle.ia32_rows.specs.declared.row.Addressing.{Addressing}
use Rattle.ia32_rows.specs.declared.row.Addressing.TheVariants as addressing
use Rattle.ia32_rows.specs.declared.row.Immediate.{Immediate}
use Rattle.ia32_rows.specs.declared.row.Immediate.TheVariants as immediate
use Rattle.ia32_rows.specs.declared.row.Lead.{Lead}
use Rattle.ia32_rows.specs.declared.row.Lead.TheVariants as lead
use Rattle.ia32_rows.specs.declared.row.Form.{Form}
use Rattle.ia32_rows.specs.declared.row.Parts.{Parts}
use Rattle.ia32_rows.specs.Reader.{◌>>=◌}
use Rattle.ia32_rows.specs.Fields.{mod_of, has_modrm, base_at, disp_at, memory_at, rm_at, addressing_at, immediate_at}
use Rattle.ia32_rows.specs.Spelling.{first_code, has_code, lead_at, coded_at, parts_at}
use Rattle.ia32_rows.proofs.Readers.{Reads, bind_reads, success_reads, byte_reads, where_reads, cond_reads, more_reads, word_reads, long_reads}

pub base_reads : (m : ℕ) → Reads 1 (base_at m)
unfolding base_at
base_reads m = cond_reads 1 _ _ _ (bind_reads 1 0 _ _ byte_reads (λ s. success_reads _)) (more_reads 0 1 _ (omega arith) (success_reads _))

disp_reads : (mode : ℕ) → Reads 4 (disp_at mode)
unfolding disp_at
disp_reads mode =
    cond_reads 4 _ _ _ (more_reads 0 4 _ (omega arith) (success_reads _))
    (cond_reads 4 _ _ _ (more_reads 1 4 _ (omega arith) (bind_reads 1 0 _ _ byte_reads (λ b. success_reads _)))
    (bind_reads 4 0 _ _ long_reads (λ d. success_reads _)))

memory_reads : (m : ℕ) → Reads 5 (memory_at m)
unfolding memory_at
memory_reads m =
    bind_reads 1 4 _ _ (base_reads m) (λ at. bind_reads 4 0 _ _ (disp_reads (cond (is_none at.base) 2 (mod_of m))) (λ d. success_reads _))

pub rm_reads : (m : ℕ) → Reads 5 (rm_at m)
unfolding rm_at
rm_reads m = cond_reads 5 _ _ _ (more_reads 0 5 _ (omega arith) (success_reads _)) (memory_reads m)

-- a ModRM byte that the row takes
abbrev pub slash_witness : Slash → ℕ
slash_witness (slash.Digit d) = d * 8
slash_witness _ = 0

abbrev pub place_witness : RmForm → ℕ
place_witness place.Register = 192
place_witness _ = 0

abbrev pub modrm_witness : Modrm → ℕ
modrm_witness form = slash_witness form.slash + place_witness form.place

abbrev pub addressing_works : Addressing → Bool
addressing_works (addressing.Modrm form) = nat_lt (modrm_witness form) 256 && has_modrm form (modrm_witness form)
addressing_works _ = true

-- some opcode and some ModRM byte fit the row
abbrev pub form_works : Form → Bool
form_works form = nat_lt (first_code form) 256 && has_code form (first_code form) && addressing_works form.addressing

-- how many bytes there are at most
abbrev pub lead_most : Lead → ℕ
lead_most lead.Nothing = 0
lead_most _ = 1

abbrev pub addressing_most : Addressing → ℕ
addressing_most addressing.Nothing = 0
addressing_most addressing.Offset = 4
addressing_most (addressing.Modrm form) = 6

abbrev pub immediate_most : Immediate → ℕ
immediate_most immediate.Nothing = 0
immediate_most immediate.One = 0
immediate_most immediate.Byte = 1
immediate_most immediate.SignedByte = 1
immediate_most immediate.Word = 2
immediate_most immediate.Long = 4
immediate_most immediate.Far = 6

abbrev pub form_most : Form → ℕ
form_most form = lead_most form.lead + 1 + addressing_most form.addressing + immediate_most form.immediate

pub addressing_reads : (a : Addressing) → addressing_works a ≡ true → Reads (addressing_most a) (addressing_at a)
unfolding addressing_at
addressing_reads addressing.Nothing e = success_reads _
addressing_reads addressing.Offset e = bind_reads 4 0 _ _ long_reads (λ d. success_reads _)
addressing_reads (addressing.Modrm form) e =
    let s = and_parts (nat_lt (modrm_witness form) 256) (has_modrm form (modrm_witness form)) e in
    bind_reads 1 5 _ _ (where_reads (has_modrm form) (modrm_witness form) (ltb-true _ _ s.0) s.1)
    (λ m. bind_reads 5 0 _ _ (rm_reads m) (λ at. success_reads _))

pub immediate_reads : (i : Immediate) → Reads (immediate_most i) (immediate_at i)
unfolding immediate_at
immediate_reads immediate.Nothing = success_reads _
immediate_reads immediate.One = success_reads _
immediate_reads immediate.Byte = bind_reads 1 0 _ _ byte_reads (λ b. success_reads _)
immediate_reads immediate.SignedByte = bind_reads 1 0 _ _ byte_reads (λ b. success_reads _)
immediate_reads immediate.Word = bind_reads 2 0 _ _ word_reads (λ n. success_reads _)
immediate_reads immediate.Long = bind_reads 4 0 _ _ long_reads (λ n. success_reads _)
immediate_reads immediate.Far = bind_reads 4 2 _ _ long_reads (λ offset. bind_reads 2 0 _ _ word_reads (λ selector. success_reads _))

pub lead_reads : (l : Lead) → Reads (lead_most l) (lead_at l)
unfolding lead_at
lead_reads lead.Nothing = success_reads _
lead_reads lead.Word = where_reads _ 0x66 (omega arith) refl
lead_reads lead.Repeat = where_reads _ 0xf3 (omega arith) refl
lead_reads lead.Escape = where_reads _ 0x0f (omega arith) refl

pub form_reads : (form : Form) → form_works form ≡ true → Reads (form_most form) (parts_at form)
unfolding parts_at coded_at
form_reads form e =
    let s = and_parts (nat_lt (first_code form) 256 && has_code form (first_code form)) (addressing_works form.addressing) e in
    let c = and_parts (nat_lt (first_code form) 256) (has_code form (first_code form)) s.0 in
    let l = lead_most form.lead in
    let a = addressing_most form.addressing in
    let i = immediate_most form.immediate in
    more_reads (l + (1 + (a + (i + 0)))) (form_most form) _ (omega arith)
    (bind_reads l (1 + (a + (i + 0))) _ _ (lead_reads form.lead)
    (λ _. bind_reads 1 (a + (i + 0)) _ _ (where_reads (has_code form) (first_code form) (ltb-true _ _ c.0) c.1)
    (λ code. bind_reads a (i + 0) _ _ (addressing_reads form.addressing s.1)
    (λ at. bind_reads i 0 _ _ (immediate_reads form.immediate) (λ imm. success_reads _)))))

-- no bytes are not read
pub none_read : (form : Form) (lead : Lead) (x : Parts) (rest : List ℕ) → (lead_at lead >>= λ _. coded_at form) [] ≡ Ok (x, rest) → ⊥
unfolding lead_at coded_at
none_read form lead.Nothing x rest e = cc
none_read form lead.Word x rest e = cc
none_read form lead.Repeat x rest e = cc
none_read form lead.Escape x rest e = cc
