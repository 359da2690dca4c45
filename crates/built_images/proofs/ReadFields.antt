-- The displacement and the immediate as they are read: where they have four bytes, any number may stand there.
use Rattle.std.proofs.Common.{◌≡◌, ℕ, ◌+◌, Bool, true, false, cond, List, [], ◌∷◌, ◌++◌, length, Ok, refl, sym, ap, subst, ◌∙◌, arith}
use Rattle.std.specs.Prelude.{◌==◌, is_none, None}
use Rattle.std.proofs.lemmas.List.{append-nil}
use Rattle.ia32_types.specs.declared.insn.Operand.{Operand}
use Rattle.ia32_types.specs.declared.insn.Operand.TheVariants as operand
use Rattle.ia32_types.specs.declared.size.Size.TheVariants as size
use Rattle.ia32_types.specs.Bits.{sign_extended}
use Rattle.ia32_rows.specs.declared.row.Base.{Base}
use Rattle.ia32_rows.specs.declared.row.Located.{Located}
use Rattle.ia32_rows.specs.declared.row.Addressing.{Addressing}
use Rattle.ia32_rows.specs.declared.row.Addressing.TheVariants as addressing
use Rattle.ia32_rows.specs.declared.row.Immediate.{Immediate}
use Rattle.ia32_rows.specs.declared.row.Immediate.TheVariants as immediate
use Rattle.ia32_rows.specs.Reader.{Reader, and_then, ◌>>=◌, success, byte_at, byte_where, word_at, long_at}
use Rattle.ia32_rows.specs.Fields.{mod_of, reg_of, rm_of, has_modrm, base_at, disp_at, memory_at, rm_at, addressing_at, immediate_at, imm_len}
use Rattle.ia32_rows.proofs.Readers.{read, same_read, and_then_ok}
use Rattle.ia32_rows.proofs.Fields.{base_reads}
use Rattle.ia32_rows.proofs.Pieces.{byte_is}
use Rattle.ia32_encode.specs.Text.{offset_of}
use Rattle.built_images.specs.Fields.{imm_size, moved}
use Rattle.built_images.proofs.Words.{two_bytes, four_bytes, long_then, long_front}

-- ---- the immediate comes first in what is read, and any number may

pub record ImmFront (i : Immediate) (bytes : List ℕ) (n sel : ℕ) : Type 0 where
  pub word : List ℕ
  pub back : List ℕ
  pub parts : bytes ≡ word ++ back
  pub is : long_at word ≡ Ok (n, [])
  pub four : length word ≡ 4
  pub size : 4 + length back ≡ imm_size i
  pub again : (other : List ℕ) (m : ℕ) → long_at other ≡ Ok (m, []) → immediate_at i (other ++ back) ≡ Ok ((m, sel), [])

abbrev pub pair : ℕ → ℕ → ℕ × ℕ
pair a b = (a, b)

same_numbers : (a b c d : ℕ) → pair a b ≡ pair c d → (a ≡ c) × (b ≡ d)
same_numbers a b c d e = (ap (λ (p : ℕ × ℕ). p.0) e, ap (λ (p : ℕ × ℕ). p.1) e)

pub long_imm : (bytes : List ℕ) (n sel : ℕ) → immediate_at immediate.Long bytes ≡ Ok ((n, sel), []) → ImmFront immediate.Long bytes n sel
unfolding immediate_at
long_imm bytes n sel e =
    let r = and_then_ok (long_at bytes) (λ m. success (m, 0)) (n, sel) [] e in
    let s = same_read (r.0, 0) (n, sel) r.1 [] r.3 in
    let v = same_numbers r.0 0 n sel s.0 in
    let none = s.1 in
    let is : long_at bytes ≡ Ok (n, []) = r.2 ∙ ap (λ (k : ℕ). read k r.1) v.0 ∙ ap (read n) none in
    record {
      word = bytes;
      back = [];
      parts = sym (append-nil bytes);
      is = is;
      four = four_bytes bytes n is;
      size = refl;
      again = λ other m h. ap (λ x. and_then x (λ (k : ℕ). success (k, 0))) (long_then other [] m h) ∙ ap (λ k. read (pair m k) []) v.1;
    }

pub far_imm : (bytes : List ℕ) (n sel : ℕ) → immediate_at immediate.Far bytes ≡ Ok ((n, sel), []) → ImmFront immediate.Far bytes n sel
unfolding immediate_at
far_imm bytes n sel e =
    let r = and_then_ok (long_at bytes) (λ offset. word_at >>= λ selector. success (offset, selector)) (n, sel) [] e in
    let q = and_then_ok (word_at r.1) (λ selector. success (r.0, selector)) (n, sel) [] r.3 in
    let s = same_read (r.0, q.0) (n, sel) q.1 [] q.3 in
    let v = same_numbers r.0 q.0 n sel s.0 in
    let none = s.1 in
    let l = long_front bytes r.0 r.1 r.2 in
    let sel_is : word_at r.1 ≡ Ok (sel, []) = q.2 ∙ ap (λ (k : ℕ). read k q.1) v.1 ∙ ap (read sel) none in
    let two = two_bytes r.1 sel sel_is in
    record {
      word = l.word;
      back = r.1;
      parts = l.parts;
      is = l.is ∙ ap (λ (k : ℕ). read k []) v.0;
      four = l.four;
      size = omega (arith, two);
      again = λ other m h. ap (λ x. and_then x (λ (k : ℕ). word_at >>= λ selector. success (k, selector))) (long_then other r.1 m h)
          ∙ ap (λ x. and_then x (λ (k : ℕ). success (m, k))) sel_is;
    }

pub imm_front : (i : Immediate) (bytes : List ℕ) (n sel : ℕ) → imm_len i ≡ 4 → immediate_at i bytes ≡ Ok ((n, sel), [])
    → ImmFront i bytes n sel
imm_front immediate.Nothing bytes n sel four e = absurd (omega arith)
imm_front immediate.One bytes n sel four e = absurd (omega arith)
imm_front immediate.Byte bytes n sel four e = absurd (omega arith)
imm_front immediate.SignedByte bytes n sel four e = absurd (omega arith)
imm_front immediate.Word bytes n sel four e = absurd (omega arith)
imm_front immediate.Long bytes n sel four e = long_imm bytes n sel e
imm_front immediate.Far bytes n sel four e = far_imm bytes n sel e

-- ---- the displacement comes last in what is read, and any number may

pub record DispBack (p : Reader (ℕ × ℕ)) (bytes : List ℕ) (d : ℕ) : Type 0 where
  pub is : long_at bytes ≡ Ok (d, [])
  pub again : (other : List ℕ) (m : ℕ) → long_at other ≡ Ok (m, []) → p other ≡ Ok ((m, 4), [])

abbrev sized_by : Bool → Bool → Reader (ℕ × ℕ)
sized_by z o =
    cond z (success (0, 0)) (cond o (byte_at >>= λ b. success (sign_extended 32 size.Byte b, 1)) (long_at >>= λ k. success (k, 4)))

by_size : (z o : Bool) (bytes : List ℕ) (d : ℕ) → sized_by z o bytes ≡ Ok ((d, 4), []) → DispBack (sized_by z o) bytes d
by_size true o bytes d e =
    let s = same_read (pair 0 0) (d, 4) bytes [] e in
    let v = same_numbers 0 0 d 4 s.0 in
    absurd (omega (arith, v.1))
by_size false true bytes d e =
    let r = and_then_ok (byte_at bytes) (λ b. success (sign_extended 32 size.Byte b, 1)) (d, 4) [] e in
    let s = same_read (sign_extended 32 size.Byte r.0, 1) (d, 4) r.1 [] r.3 in
    let v = ap (λ (q : ℕ × ℕ). q.1) s.0 in
    absurd (omega (arith, v))
by_size false false bytes d e =
    let r = and_then_ok (long_at bytes) (λ k. success (k, 4)) (d, 4) [] e in
    let s = same_read (r.0, 4) (d, 4) r.1 [] r.3 in
    let v = ap (λ (q : ℕ × ℕ). q.0) s.0 in
    record {
      is = r.2 ∙ ap (λ (k : ℕ). read k r.1) v ∙ ap (read d) s.1;
      again = λ other m h. ap (λ x. and_then x (λ (k : ℕ). success (pair k 4))) h;
    }

disp_back : (mode : ℕ) (bytes : List ℕ) (d : ℕ) → disp_at mode bytes ≡ Ok ((d, 4), []) → DispBack (disp_at mode) bytes d
unfolding disp_at
disp_back mode bytes d e = by_size (mode == 0) (mode == 1) bytes d e

-- what is read of an operand whose displacement has four bytes
pub record AtBack {A : Type 0} (p : Reader A) (bytes : List ℕ) (rm : Operand) (value : Operand → A) : Type 0 where
  pub front : List ℕ
  pub word : List ℕ
  pub parts : bytes ≡ front ++ word
  pub is : long_at word ≡ Ok (offset_of rm, [])
  pub again : (other : List ℕ) (m : ℕ) → long_at other ≡ Ok (m, []) → p (front ++ other) ≡ Ok (value (moved m rm), [])

abbrev operand_at : Base → ℕ → Operand
operand_at at d = operand.Memory (record { base = at.base; index = at.index; scale = at.scale; disp = d })

abbrev sized : Operand → Operand × ℕ
sized rm = (rm, 4)

same_sized : (rm : Operand) (n : ℕ) (other : Operand) → (rm, n) ≡ sized other → (rm ≡ other) × (n ≡ 4)
same_sized rm n other e = (ap (λ (p : Operand × ℕ). p.0) e, ap (λ (p : Operand × ℕ). p.1) e)

memory_back : (m : ℕ) (bytes : List ℕ) (rm : Operand) → memory_at m bytes ≡ Ok ((rm, 4), []) → AtBack (memory_at m) bytes rm sized
unfolding memory_at
memory_back m bytes rm e =
    let r = and_then_ok (base_at m bytes)
    (λ place. disp_at (cond (is_none place.base) 2 (mod_of m)) >>= λ disp. success (operand_at place disp.0, disp.1)) (rm, 4) [] e in
    let q =
    and_then_ok (disp_at (cond (is_none r.0.base) 2 (mod_of m)) r.1) (λ disp. success (operand_at r.0 disp.0, disp.1)) (rm, 4) [] r.3 in
    let s = same_read (operand_at r.0 q.0.0, q.0.1) (rm, 4) q.1 [] q.3 in
    let v = same_sized (operand_at r.0 q.0.0) q.0.1 rm s.0 in
    let t = (base_reads m).takes bytes r.0 r.1 r.2 in
    let d : disp_at (cond (is_none r.0.base) 2 (mod_of m)) r.1 ≡ Ok ((q.0.0, 4), []) =
    q.2 ∙ ap (λ (k : ℕ). read (pair q.0.0 k) q.1) v.1 ∙ ap (read (pair q.0.0 4)) s.1 in
    let b = disp_back (cond (is_none r.0.base) 2 (mod_of m)) r.1 q.0.0 d in
    subst (λ (x : Operand). AtBack (memory_at m) bytes x sized) v.0 (record {
      front = t.front;
      word = r.1;
      parts = t.parts;
      is = b.is;
      again = λ other k h.
          ap (λ x. and_then x (λ place. disp_at (cond (is_none place.base) 2 (mod_of m)) >>= λ disp. success
          (operand_at place disp.0, disp.1))) (t.again other)
          ∙ ap (λ x. and_then x (λ (disp : ℕ × ℕ). success (operand_at r.0 disp.0, disp.1))) (b.again other k h);
    })

by_mode : (b : Bool) (m : ℕ) (bytes : List ℕ) (rm : Operand) → cond b (success (operand.Register (rm_of m), 0)) (memory_at m) bytes ≡ Ok
    ((rm, 4), []) → AtBack (cond b (success (operand.Register (rm_of m), 0)) (memory_at m)) bytes rm sized
by_mode true m bytes rm e =
    let s = same_read (operand.Register (rm_of m), 0) (rm, 4) bytes [] e in
    let v = same_sized (operand.Register (rm_of m)) 0 rm s.0 in
    absurd (omega (arith, v.1))
by_mode false m bytes rm e = memory_back m bytes rm e

rm_back : (m : ℕ) (bytes : List ℕ) (rm : Operand) → rm_at m bytes ≡ Ok ((rm, 4), []) → AtBack (rm_at m) bytes rm sized
unfolding rm_at
rm_back m bytes rm e = by_mode (mod_of m == 3) m bytes rm e

abbrev pub located : ℕ → Operand → Located
located reg rm = record { reg = reg; rm = rm; disp_len = 4 }

same_located : (a b : Located) → a ≡ b → (a.reg ≡ b.reg) × (a.rm ≡ b.rm) × (a.disp_len ≡ b.disp_len)
same_located a b e = (ap (λ (l : Located). l.reg) e, ap (λ (l : Located). l.rm) e, ap (λ (l : Located). l.disp_len) e)

abbrev plain_at : ℕ → Operand
plain_at d = operand.Memory (record { base = None; index = None; scale = 1; disp = d })

pub addressing_back : (a : Addressing) (bytes : List ℕ) (reg : ℕ) (rm : Operand) → addressing_at a bytes ≡ Ok (located reg rm, [])
    → AtBack (addressing_at a) bytes rm (located reg)
unfolding addressing_at
addressing_back addressing.Nothing bytes reg rm e =
    let s = same_read (record { reg = 0; rm = operand.Absent; disp_len = 0 }) (located reg rm) bytes [] e in
    let v = same_located _ _ s.0 in
    absurd (omega (arith, v.2))
addressing_back addressing.Offset bytes reg rm e =
    let r = and_then_ok (long_at bytes) (λ d. success (record { reg = 0; rm = plain_at d; disp_len = 4 })) (located reg rm) [] e in
    let s = same_read (located 0 (plain_at r.0)) (located reg rm) r.1 [] r.3 in
    let v = same_located (located 0 (plain_at r.0)) (located reg rm) s.0 in
    let is : long_at bytes ≡ Ok (r.0, []) = r.2 ∙ ap (read r.0) s.1 in
    subst (λ (x : Operand). AtBack (addressing_at addressing.Offset) bytes x (located reg)) v.1 (record {
      front = [];
      word = bytes;
      parts = refl;
      is = is;
      again = λ other k h. ap (λ x. and_then x (λ (d : ℕ). success (located 0 (plain_at d)))) h
          ∙ ap (λ (n : ℕ). read (located n (plain_at k)) []) v.0;
    })
addressing_back (addressing.Modrm form) bytes reg rm e =
    let r = and_then_ok (byte_where (has_modrm form) bytes)
    (λ m. rm_at m >>= λ x. success (record { reg = reg_of m; rm = x.0; disp_len = x.1 })) (located reg rm) [] e in
    let q = and_then_ok (rm_at r.0 r.1) (λ x. success (record { reg = reg_of r.0; rm = x.0; disp_len = x.1 })) (located reg rm) [] r.3 in
    let s = same_read (record { reg = reg_of r.0; rm = q.0.0; disp_len = q.0.1 }) (located reg rm) q.1 [] q.3 in
    let v = same_located (record { reg = reg_of r.0; rm = q.0.0; disp_len = q.0.1 }) (located reg rm) s.0 in
    let d : rm_at r.0 r.1 ≡ Ok ((rm, 4), []) =
    q.2 ∙ ap (λ (n : ℕ). read (q.0.0, n) q.1) v.2 ∙ ap (λ (o : Operand). read (sized o) q.1) v.1 ∙ ap (read (sized rm)) s.1 in
    let b = rm_back r.0 r.1 rm d in
    let f = byte_is (has_modrm form) bytes r.0 r.1 r.2 in
    record {
      front = r.0 ∷ b.front;
      word = b.word;
      parts = f.0 ∙ ap (λ (bs : List ℕ). r.0 ∷ bs) b.parts;
      is = b.is;
      again = λ other k h.
          ap (λ t. and_then (cond t (read r.0 (b.front ++ other))
          (Rattle.std.specs.Prelude.Err Rattle.ia32_rows.specs.declared.row.Miss.TheVariants.Outside)) (λ m. rm_at m
          >>= λ x. success (record { reg = reg_of m; rm = x.0; disp_len = x.1 }))) f.1
          ∙ ap (λ x. and_then x (λ (o : Operand × ℕ). success (record { reg = reg_of r.0; rm = o.0; disp_len = o.1 }))) (b.again other k h)
          ∙ ap (λ (n : ℕ). read (located n (moved k rm)) []) v.0;
    }
