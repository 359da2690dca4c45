-- What a form reads, it can spell.
use Rattle.std.proofs.Common.{◌≡◌, ℕ, zero, suc, ◌+◌, ◌*◌, ◌/◌, ◌%◌, ◌<◌, ◌^◌, Bool, true, false, cond, List, [], ◌∷◌, ◌++◌, Some, None, Ok, refl, sym, ap, subst, ◌∙◌, arith}
use Rattle.std.specs.Prelude.{◌==◌, ◌&&◌, ◌||◌, not, nat_lt, is_none}
use Rattle.std.specs.Cmp.Derive.{both_true}
use Rattle.std.proofs.lemmas.Bool.{eqb-true, eq-eqb, lt-ltb, and_parts}
use Rattle.ia32_types.specs.declared.insn.Address.{Address}
use Rattle.ia32_types.specs.declared.insn.Operand.{Operand}
use Rattle.ia32_types.specs.declared.insn.Operand.TheVariants as operand
use Rattle.ia32_types.specs.declared.size.Size.TheVariants as size
use Rattle.ia32_types.specs.Register.{number_of, numbered_register}
use Rattle.ia32_types.specs.Bits.{sign_extended}
use Rattle.ia32_rows.specs.declared.row.RmForm.{RmForm}
use Rattle.ia32_rows.specs.declared.row.RmForm.TheVariants as place
use Rattle.ia32_rows.specs.declared.row.Addressing.{Addressing}
use Rattle.ia32_rows.specs.declared.row.Addressing.TheVariants as addressing
use Rattle.ia32_rows.specs.declared.row.Immediate.{Immediate}
use Rattle.ia32_rows.specs.declared.row.Immediate.TheVariants as immediate
use Rattle.ia32_rows.specs.declared.row.Base.{Base}
use Rattle.ia32_rows.specs.declared.row.Located.{Located}
use Rattle.ia32_rows.specs.declared.row.Form.{Form}
use Rattle.ia32_rows.specs.declared.row.Parts.{Parts}
use Rattle.ia32_rows.specs.Reader.{Reader, ◌>>=◌, success, byte_where, byte_at, word_at, long_at}
use Rattle.ia32_rows.specs.Fields.{mod_of, reg_of, rm_of, base_of, sib_of, base_at, disp_at, memory_at, rm_at, has_slash, has_place, has_modrm, addressing_at, immediate_at}
use Rattle.ia32_rows.specs.Spelling.{has_code, lead_at, coded_at, parts_at}
use Rattle.ia32_rows.specs.Spells.{AreBytes}
use Rattle.ia32_rows.proofs.Readers.{Reads, and_then_ok, test_met, read, same_read}
use Rattle.ia32_rows.proofs.Fields.{addressing_works, addressing_reads, lead_reads}
use Rattle.ia32_encode.specs.Text.{is_signed_byte, index_number, disp_len_of}
use Rattle.ia32_encode.specs.Parts.{rm_fits, addressing_fits, immediate_fits, form_fits}

AreBytes-rest : (front rest : List ℕ) → AreBytes (front ++ rest) → AreBytes rest
AreBytes-rest [] rest h = h
AreBytes-rest (b ∷ front) rest h = AreBytes-rest front rest h.1

-- what is left of bytes are bytes
rest_bytes : {A : Type 0} (n : ℕ) (p : Reader A) → Reads n p → (bytes : List ℕ) (x : A) (rest : List ℕ) → p bytes ≡ Ok (x, rest)
    → AreBytes bytes → AreBytes rest
rest_bytes n p r bytes x rest e h = let t = r.takes bytes x rest e in AreBytes-rest t.front rest (subst AreBytes t.parts h)

byte_below : (bytes : List ℕ) (b : ℕ) (rest : List ℕ) → byte_at bytes ≡ Ok (b, rest) → AreBytes bytes → b < 256
byte_below [] b rest e h = absurd cc
byte_below (c ∷ bytes) b rest e h = let s = same_read c b bytes rest e in subst (λ k. k < 256) s.0 h.0

word_below : (bytes : List ℕ) (n : ℕ) (rest : List ℕ) → word_at bytes ≡ Ok (n, rest) → AreBytes bytes → n < 65536
unfolding word_at
word_below [] n rest e h = absurd cc
word_below (x ∷ []) n rest e h = absurd cc
word_below (x ∷ y ∷ bytes) n rest e h =
    let s = same_read (x + 256 * y) n bytes rest e in
    let a = h.0 in
    let b = h.1.0 in
    omega (arith, s.0, a, b)

-- ---- immediates

same_two : (n m imm sel : ℕ) (mid rest : List ℕ) → read {A = ℕ × ℕ} (n, m) mid ≡ read (imm, sel) rest → (n ≡ imm) × (m ≡ sel)
same_two n m imm sel mid rest e = let s =
    (same_read (n, m) (imm, sel) mid rest e).0 in (ap (λ (p : ℕ × ℕ). p.0) s, ap (λ (p : ℕ × ℕ). p.1) s)

same_byte : (b : ℕ) (t : Bool) → nat_lt b 128 ≡ t → b < 256 → cond t b (b + 0xffff_ff00) % 256 ≡ b
same_byte b true e h = omega arith
same_byte b false e h = omega arith

extended_signed : (b : ℕ) → b < 256 → is_signed_byte (sign_extended 32 size.Byte b) ≡ true
extended_signed b h = eq-eqb (sign_extended 32 size.Byte (sign_extended 32 size.Byte b % 256)) (sign_extended 32 size.Byte b)
    (ap (sign_extended 32 size.Byte) (same_byte b (nat_lt b 128) refl h))

immediate_read : (kind : Immediate) (bytes : List ℕ) (imm sel : ℕ) (rest : List ℕ) → immediate_at kind bytes ≡ Ok ((imm, sel), rest)
    → AreBytes bytes → immediate_fits kind imm sel ≡ true
unfolding immediate_at
immediate_read immediate.Nothing bytes imm sel rest e h =
    let s = same_two 0 0 imm sel bytes rest e in subst (λ k. (k == 0 && sel == 0) ≡ true) s.0 (subst (λ k. (k == 0) ≡ true) s.1 refl)
immediate_read immediate.One bytes imm sel rest e h = let s =
    same_two 1 0 imm sel bytes rest e in subst (λ k. (k == 1 && sel == 0) ≡ true) s.0 (subst (λ k. (k == 0) ≡ true) s.1 refl)
immediate_read immediate.Byte bytes imm sel rest e h =
    let r = and_then_ok (byte_at bytes) (λ b. success (b, 0)) (imm, sel) rest e in
    let s = same_two r.0 0 imm sel r.1 rest r.3 in
    let lt : imm < 256 = subst (λ k. k < 256) s.0 (byte_below bytes r.0 r.1 r.2 h) in
    both_true (lt-ltb imm 256 lt) (subst (λ k. (k == 0) ≡ true) s.1 refl)
immediate_read immediate.SignedByte bytes imm sel rest e h =
    let r = and_then_ok (byte_at bytes) (λ b. success (sign_extended 32 size.Byte b, 0)) (imm, sel) rest e in
    let s = same_two (sign_extended 32 size.Byte r.0) 0 imm sel r.1 rest r.3 in
    both_true (subst (λ k. is_signed_byte k ≡ true) s.0 (extended_signed r.0 (byte_below bytes r.0 r.1 r.2 h)))
    (subst (λ k. (k == 0) ≡ true) s.1 refl)
immediate_read immediate.Word bytes imm sel rest e h =
    let r = and_then_ok (word_at bytes) (λ n. success (n, 0)) (imm, sel) rest e in
    let s = same_two r.0 0 imm sel r.1 rest r.3 in
    let lt : imm < 65536 = subst (λ k. k < 65536) s.0 (word_below bytes r.0 r.1 r.2 h) in
    both_true (lt-ltb imm 65536 lt) (subst (λ k. (k == 0) ≡ true) s.1 refl)
immediate_read immediate.Long bytes imm sel rest e h =
    let r = and_then_ok (long_at bytes) (λ n. success (n, 0)) (imm, sel) rest e in
    let s = same_two r.0 0 imm sel r.1 rest r.3 in
    subst (λ k. (k == 0) ≡ true) s.1 refl
immediate_read immediate.Far bytes imm sel rest e h = refl

-- ---- memory operands

register_number : (i : ℕ) → i < 8 → number_of (numbered_register i) ≡ i
register_number zero h = refl
register_number (suc zero) h = refl
register_number (suc (suc zero)) h = refl
register_number (suc (suc (suc zero))) h = refl
register_number (suc (suc (suc (suc zero)))) h = refl
register_number (suc (suc (suc (suc (suc zero))))) h = refl
register_number (suc (suc (suc (suc (suc (suc zero)))))) h = refl
register_number (suc (suc (suc (suc (suc (suc (suc zero))))))) h = refl
register_number (suc (suc (suc (suc (suc (suc (suc (suc i)))))))) h = absurd (omega arith)

-- an index and a scale that can be spelled
abbrev base_fits : Base → Bool
base_fits b = cond (is_none b.index) (b.scale == 1)
    (not (index_number b.index == 4) && (b.scale == 1 || b.scale == 2 || b.scale == 4 || b.scale == 8))

scale_fits : (k : ℕ) → k < 4 → (2 ^ k == 1 || 2 ^ k == 2 || 2 ^ k == 4 || 2 ^ k == 8) ≡ true
scale_fits zero h = refl
scale_fits (suc zero) h = refl
scale_fits (suc (suc zero)) h = refl
scale_fits (suc (suc (suc zero))) h = refl
scale_fits (suc (suc (suc (suc k)))) h = absurd (omega arith)

sib_fits : (mode s : ℕ) (t : Bool) → (s / 8 % 8 == 4) ≡ t → s < 256 → base_fits (sib_of mode s) ≡ true
sib_fits mode s true e h = rw e refl
sib_fits mode s false e h =
    let k : s / 64 < 4 = omega arith in
    let i : s / 8 % 8 < 8 = omega arith in
    let f : base_fits (record { base = base_of mode (s % 8); index = Some (numbered_register (s / 8 % 8)); scale = 2 ^ (s / 64) }) ≡ true =
    both_true (ap (λ n. not (n == 4)) (register_number (s / 8 % 8) i) ∙ ap not e) (scale_fits (s / 64) k) in
    subst (λ t. base_fits (cond t (record { base = base_of mode (s % 8); index = None; scale = 1 })
    (record { base = base_of mode (s % 8); index = Some (numbered_register (s / 8 % 8)); scale = 2 ^ (s / 64) })) ≡ true) (sym e) f

base_read : (m : ℕ) (t : Bool) → (rm_of m == 4) ≡ t → (bytes : List ℕ) (b : Base) (rest : List ℕ) → base_at m bytes ≡ Ok (b, rest)
    → AreBytes bytes → base_fits b ≡ true
unfolding base_at
base_read m true t bytes b rest e h =
    let r = and_then_ok (byte_at bytes) (λ s. success (sib_of (mod_of m) s)) b rest
    (ap (λ c. cond c (byte_at >>= λ s. success (sib_of (mod_of m) s))
    (success (record { base = base_of (mod_of m) (rm_of m); index = None; scale = 1 })) bytes) (sym t) ∙ e) in
    let s = same_read (sib_of (mod_of m) r.0) b r.1 rest r.3 in
    subst (λ c. base_fits c ≡ true) s.0 (sib_fits (mod_of m) r.0 (r.0 / 8 % 8 == 4) refl (byte_below bytes r.0 r.1 r.2 h))
base_read m false t bytes b rest e h =
    let plain : Base = record { base = base_of (mod_of m) (rm_of m); index = None; scale = 1 } in
    let s =
    same_read plain b bytes rest (ap (λ c. cond c (byte_at >>= λ s. success (sib_of (mod_of m) s)) (success plain) bytes) (sym t) ∙ e) in
    subst (λ c. base_fits c ≡ true) s.0 refl

-- where the displacement has four bytes, so it has where it is to have four
abbrev Wide : Operand → ℕ → Type 0
Wide rm len = len ≡ 4 → disp_len_of true rm ≡ 4

same_pair : (m n : Operand) (k l : ℕ) → ◌≡◌ {A = Operand × ℕ} (m, k) (n, l) → (m ≡ n) × (k ≡ l)
same_pair m n k l e = (ap (λ (p : Operand × ℕ). p.0) e, ap (λ (p : Operand × ℕ). p.1) e)

memory_read : (p : RmForm) (m : ℕ) (bytes : List ℕ) (rm : Operand) (len : ℕ) (rest : List ℕ) → memory_at m bytes ≡ Ok ((rm, len), rest)
    → AreBytes bytes → has_place p 0 ≡ true → (rm_fits p rm ≡ true) × Wide rm len
unfolding memory_at
memory_read p m bytes rm len rest e h ok =
    let r = and_then_ok (base_at m bytes)
    (λ b. disp_at (cond (is_none b.base) 2 (mod_of m)) >>= λ d. success
    (operand.Memory (record { base = b.base; index = b.index; scale = b.scale; disp = d.0 }), d.1)) (rm, len) rest e in
    let b = r.0 in
    let q = and_then_ok (disp_at (cond (is_none b.base) 2 (mod_of m)) r.1)
    (λ d. success (operand.Memory (record { base = b.base; index = b.index; scale = b.scale; disp = d.0 }), d.1)) (rm, len) rest r.3 in
    let a : Address = record { base = b.base; index = b.index; scale = b.scale; disp = q.0.0 } in
    let s = same_pair (operand.Memory a) rm q.0.1 len (same_read (operand.Memory a, q.0.1) (rm, len) q.1 rest q.3).0 in (
      subst (λ o. rm_fits p o ≡ true) s.0 (both_true (base_read m (rm_of m == 4) refl bytes b r.1 r.2 h) ok),
      λ l. subst (λ o. disp_len_of true o ≡ 4) s.0 refl,
    )

place_0 : (p : RmForm) (mode : ℕ) → (mode == 3) ≡ false → has_place p mode ≡ true → has_place p 0 ≡ true
place_0 place.Either mode e h = refl
place_0 place.Memory mode e h = refl
place_0 place.Register mode e h = absurd (false_true (mode == 3) e h) where
  false_true : (b : Bool) → b ≡ false → b ≡ true → ⊥
  false_true b e f = cc

rm_read : (p : RmForm) (m : ℕ) (t : Bool) → (mod_of m == 3) ≡ t → (bytes : List ℕ) (rm : Operand) (len : ℕ) (rest : List ℕ)
    → rm_at m bytes ≡ Ok ((rm, len), rest) → AreBytes bytes → has_place p (mod_of m) ≡ true → (rm_fits p rm ≡ true) × Wide rm len
unfolding rm_at
rm_read p m true t bytes rm len rest e h ok =
    let s = same_read (operand.Register (rm_of m), 0) (rm, len) bytes rest
    (ap (λ c. cond c (success (operand.Register (rm_of m), 0)) (memory_at m) bytes) (sym t) ∙ e) in
    let q = same_pair (operand.Register (rm_of m)) rm 0 len s.0 in
    let lt : rm_of m < 8 = omega arith in (
      subst (λ o. rm_fits p o ≡ true) q.0 (both_true (lt-ltb (rm_of m) 8 lt) (ap (has_place p) (sym (eqb-true (mod_of m) 3 t)) ∙ ok)),
      λ l. absurd (omega (arith, q.1, l)),
    )
rm_read p m false t bytes rm len rest e h ok =
    memory_read p m bytes rm len rest (ap (λ c. cond c (success (operand.Register (rm_of m), 0)) (memory_at m) bytes) (sym t) ∙ e) h
    (place_0 p (mod_of m) t ok)

-- ---- what follows the opcode

byte_passed : (test : ℕ → Bool) (bytes : List ℕ) (b : ℕ) (rest : List ℕ) → byte_where test bytes ≡ Ok (b, rest) → AreBytes bytes
    → (test b ≡ true) × AreBytes rest
byte_passed test [] b rest e h = absurd cc
byte_passed test (c ∷ bytes) b rest e h =
    let s = test_met (test c) c b bytes rest e in
    (ap test (sym s.1) ∙ s.0, subst AreBytes s.2 h.1)

pub record LocatedFits (kind : Addressing) (l : Located) : Type 0 where
  pub fits : addressing_fits kind l.reg l.rm ≡ true
  pub wide : Wide l.rm l.disp_len

addressing_read : (kind : Addressing) (bytes : List ℕ) (l : Located) (rest : List ℕ) → addressing_at kind bytes ≡ Ok (l, rest)
    → AreBytes bytes → LocatedFits kind l
unfolding addressing_at
addressing_read addressing.Nothing bytes l rest e h =
    let s = same_read (record { reg = 0; rm = operand.Absent; disp_len = 0 }) l bytes rest e in
    subst (LocatedFits addressing.Nothing) s.0 (record { fits = refl; wide = λ k. absurd (omega (arith, k)) })
addressing_read addressing.Offset bytes l rest e h =
    let r =
    and_then_ok (long_at bytes)
    (λ d. success (record { reg = 0; rm = operand.Memory (record { base = None; index = None; scale = 1; disp = d }); disp_len = 4 })) l
    rest e in
    let s = same_read (record {
      reg = 0;
      rm = operand.Memory (record { base = None; index = None; scale = 1; disp = r.0 });
      disp_len = 4;
    }) l r.1 rest r.3 in
    subst (LocatedFits addressing.Offset) s.0 (record { fits = refl; wide = λ k. refl })
addressing_read (addressing.Modrm form) bytes l rest e h =
    let r = and_then_ok (byte_where (has_modrm form) bytes)
    (λ m. rm_at m >>= λ rm. success (record { reg = reg_of m; rm = rm.0; disp_len = rm.1 })) l rest e in
    let m = r.0 in
    let q = and_then_ok (rm_at m r.1) (λ rm. success (record { reg = reg_of m; rm = rm.0; disp_len = rm.1 })) l rest r.3 in
    let s = same_read (record { reg = reg_of m; rm = q.0.0; disp_len = q.0.1 }) l q.1 rest q.3 in
    let g = byte_passed (has_modrm form) bytes m r.1 r.2 h in
    let t = and_parts (has_slash form.slash (reg_of m)) (has_place form.place (mod_of m)) g.0 in
    let f = rm_read form.place m (mod_of m == 3) refl r.1 q.0.0 q.0.1 q.1 q.2 g.1 t.1 in
    let lt : reg_of m < 8 = omega arith in
    subst (LocatedFits (addressing.Modrm form)) s.0 (record { fits = both_true (both_true (lt-ltb (reg_of m) 8 lt) t.0) f.0; wide = f.1 })

-- What a form reads it can spell, and where the displacement has four bytes, so it can.
pub record PartsFit (form : Form) (p : Parts) : Type 0 where
  pub fits : form_fits form p ≡ true
  pub wide : Wide p.rm p.disp_len

coded_read : (form : Form) → addressing_works form.addressing ≡ true → (bytes : List ℕ) (p : Parts) (rest : List ℕ)
    → coded_at form bytes ≡ Ok (p, rest) → AreBytes bytes → PartsFit form p
unfolding coded_at form_fits
coded_read form works bytes p rest e h =
    let r = and_then_ok (byte_where (has_code form) bytes)
    (λ code. addressing_at form.addressing >>= λ at. immediate_at form.immediate >>= λ imm. success
    (record { code = code; reg = at.reg; rm = at.rm; disp_len = at.disp_len; imm = imm.0; sel = imm.1 })) p rest e in
    let code = r.0 in
    let g = byte_passed (has_code form) bytes code r.1 r.2 h in
    let q = and_then_ok (addressing_at form.addressing r.1)
    (λ at. immediate_at form.immediate >>= λ imm. success
    (record { code = code; reg = at.reg; rm = at.rm; disp_len = at.disp_len; imm = imm.0; sel = imm.1 })) p rest r.3 in
    let at = q.0 in
    let l = addressing_read form.addressing r.1 at q.1 q.2 g.1 in
    let left = rest_bytes _ (addressing_at form.addressing) (addressing_reads form.addressing works) r.1 at q.1 q.2 g.1 in
    let i = and_then_ok (immediate_at form.immediate q.1)
    (λ imm. success (record { code = code; reg = at.reg; rm = at.rm; disp_len = at.disp_len; imm = imm.0; sel = imm.1 })) p rest q.3 in
    let s = same_read (record { code = code; reg = at.reg; rm = at.rm; disp_len = at.disp_len; imm = i.0.0; sel = i.0.1 }) p i.1 rest i.3 in
    subst (PartsFit form) s.0
    (record { fits = both_true (both_true g.0 l.fits) (immediate_read form.immediate q.1 i.0.0 i.0.1 i.1 i.2 left); wide = l.wide })

pub parts_read : (form : Form) → addressing_works form.addressing ≡ true → (bytes : List ℕ) (p : Parts) (rest : List ℕ)
    → parts_at form bytes ≡ Ok (p, rest) → AreBytes bytes → PartsFit form p
unfolding parts_at
parts_read form works bytes p rest e h =
    let r = and_then_ok (lead_at form.lead bytes) (λ _. coded_at form) p rest e in
    coded_read form works r.1 p rest r.3 (rest_bytes _ (lead_at form.lead) (lead_reads form.lead) bytes r.0 r.1 r.2 h)
