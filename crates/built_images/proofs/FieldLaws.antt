-- A field of four bytes can have any number.
use Rattle.std.proofs.Common.{◌≡◌, ℕ, ◌+◌, ◌-◌, ◌<◌, ◌≤◌, ◌^◌, List, [], ◌∷◌, ◌++◌, length, take, drop, Ok, refl, sym, ap, subst, ◌∙◌, append_assoc, arith}
use Rattle.std.specs.List.{Contains}
use Rattle.std.proofs.lemmas.List.{length-append, take_at, drop_at}
use Rattle.ia32_types.specs.declared.insn.Insn.{Insn}
use Rattle.ia32_types.specs.declared.insn.Operand.{Operand}
use Rattle.ia32_types.specs.declared.insn.Operand.TheVariants as operand
use Rattle.ia32_types.specs.declared.size.Size.TheVariants as size
use Rattle.ia32_types.specs.Bits.{sign_extended}
use Rattle.ia32_rows.specs.declared.row.Row.{Row}
use Rattle.ia32_rows.specs.declared.row.Parts.{Parts}
use Rattle.ia32_rows.specs.declared.row.Immediate.{Immediate}
use Rattle.ia32_rows.specs.declared.row.Immediate.TheVariants as immediate
use Rattle.ia32_rows.specs.declared.row.Plus.{Plus}
use Rattle.ia32_rows.specs.declared.row.Plus.TheVariants as plus
use Rattle.ia32_rows.specs.declared.row.Operands.{Operands}
use Rattle.ia32_rows.specs.declared.row.Operands.TheVariants as operands
use Rattle.ia32_rows.specs.Reader.{success, byte_at, word_at, long_at}
use Rattle.ia32_rows.specs.Fields.{addressing_at, immediate_at, imm_len}
use Rattle.ia32_rows.specs.Spelling.{parts_at, operands_of, in_order, sel_of, repeats, insn_of}
use Rattle.ia32_rows.specs.Spells.{AreBytes, SpellsBy}
use Rattle.ia32_rows.specs.Pieces.{IsLaidOut}
use Rattle.ia32_rows.specs.Rows.{rows}
use Rattle.ia32_rows.proofs.Readers.{read, same_read, and_then_ok, AreBytes-append, AreBytes-take}
use Rattle.ia32_rows.proofs.Pieces.{in_pieces}
use Rattle.image_check.proofs.SweepLaws.{AreBytes-drop}
use Rattle.guest_ram.specs.Bytes.{word32, with_word32}
use Rattle.std.specs.Int.{w32, to_le_bytes}
use Rattle.ia32_encode.specs.Text.{offset_of}
use Rattle.built_images.specs.Fields.{imm_size, imm_place, disp_place, moved, with_disp, with_imm, insn_disp, insn_imm}
use Rattle.built_images.proofs.Words.{IsWord, word_in, filled, word_of, filled_word, word_there, two_bytes, four_bytes}
use Rattle.built_images.proofs.ReadFields.{addressing_back, far_imm, imm_front, located, long_imm, pair}

-- ---- in the bytes of the whole instruction

abbrev joined : List ℕ → List ℕ → List ℕ → List ℕ
joined front word back = front ++ (word ++ back)

pub filled_is : (front word back other : List ℕ) (at : ℕ) → length front ≡ at → length word ≡ 4
    → filled (joined front word back) at other ≡ joined front other back
filled_is front word back other at e four =
    let whole : joined front word back ≡ (front ++ word) ++ back = sym (append_assoc front word back) in
    let len : length (front ++ word) ≡ at + 4 = length-append front word ∙ omega (arith, four, e) in
    let a : take at (joined front word back) ≡ front = take_at front (word ++ back) at e in
    let b : drop (at + 4) (joined front word back) ≡ back = ap (drop (at + 4)) whole ∙ drop_at (front ++ word) back (at + 4) len in
    ap (λ xs. xs ++ (other ++ drop (at + 4) (joined front word back))) a ∙ ap (λ xs. front ++ (other ++ xs)) b

pub word_is : (front word back : List ℕ) (at : ℕ) → length front ≡ at → length word ≡ 4 → word_in (joined front word back) at ≡ word
word_is front word back at e four = ap (take 4) (drop_at front (word ++ back) at e) ∙ take_at word back 4 four

-- where a field stands, and what is laid out with others there
pub record Placed (row : Row) (bytes : List ℕ) (at held : ℕ) (parts_with : ℕ → Parts) : Type 0 where
  pub front : List ℕ
  pub word : List ℕ
  pub back : List ℕ
  pub parts : bytes ≡ joined front word back
  pub at_is : length front ≡ at
  pub four : length word ≡ 4
  pub is : long_at word ≡ Ok (held, [])
  pub again : (other : List ℕ) (m : ℕ) → long_at other ≡ Ok (m, []) → IsLaidOut row.form (parts_with m) (joined front other back)

imm_placed : (row : Row) (p : Parts) (bytes : List ℕ) → imm_len row.form.immediate ≡ 4 → IsLaidOut row.form p bytes
    → Placed row bytes (imm_place row bytes) p.imm (λ m. with_imm m p)
imm_placed row p bytes four o =
    let i = imm_front row.form.immediate o.immediate p.imm p.sel four o.immediate_is in
    let front = o.lead ++ (p.code ∷ o.address) in
    let split : bytes ≡ joined front i.word i.back = o.together ∙ ap (λ bs. o.lead ++ (p.code ∷ (o.address ++ bs))) i.parts
    ∙ sym (append_assoc o.lead (p.code ∷ o.address) (i.word ++ i.back)) in
    let size = i.size in
    let len4 = i.four in
    record {
      front = front;
      word = i.word;
      back = i.back;
      parts = split;
      at_is = place_is bytes front i.word i.back (imm_size row.form.immediate) split len4 size;
      four = len4;
      is = i.is;
      again = λ other m h. record {
        lead = o.lead;
        address = o.address;
        immediate = other ++ i.back;
        together = append_assoc o.lead (p.code ∷ o.address) (other ++ i.back);
        lead_byte = o.lead_byte;
        lead_is = o.lead_is;
        code_is = o.code_is;
        address_is = o.address_is;
        immediate_is = i.again other m h;
      };
    } where
      place_is : (whole front word back : List ℕ) (size : ℕ) → whole ≡ joined front word back → length word ≡ 4 → 4 + length back ≡ size
          → length front ≡ length whole - size
      place_is whole front word back size e w s =
          let l = ap length e ∙ length-append front (word ++ back) in
          let k = length-append word back in
          omega (arith, l, k, w, s)

one_byte : (bytes rest : List ℕ) (b : ℕ) → byte_at bytes ≡ Ok (b, rest) → length bytes ≡ 1 + length rest
one_byte [] rest b e = absurd cc
one_byte (c ∷ bytes) rest b e = let s = same_read c b bytes rest e in (let l = ap (λ (xs : List ℕ). length xs) s.1 in omega (arith, l))

no_bytes : (p : ℕ × ℕ) (bytes : List ℕ) (n sel : ℕ) → read p bytes ≡ Ok ((n, sel), []) → length bytes ≡ 0
no_bytes p bytes n sel e = ap length (same_read p (n, sel) bytes [] e).1

pub imm_size_is : (i : Immediate) (bytes : List ℕ) (n sel : ℕ) → immediate_at i bytes ≡ Ok ((n, sel), []) → length bytes ≡ imm_size i
unfolding immediate_at
imm_size_is immediate.Nothing bytes n sel e = no_bytes (0, 0) bytes n sel e
imm_size_is immediate.One bytes n sel e = no_bytes (1, 0) bytes n sel e
imm_size_is immediate.Byte bytes n sel e =
    let r = and_then_ok (byte_at bytes) (λ b. success (pair b 0)) (n, sel) [] e in
    let z = no_bytes (r.0, 0) r.1 n sel r.3 in
    one_byte bytes r.1 r.0 r.2 ∙ ap (λ (k : ℕ). 1 + k) z
imm_size_is immediate.SignedByte bytes n sel e =
    let r = and_then_ok (byte_at bytes) (λ b. success (pair (sign_extended 32 size.Byte b) 0)) (n, sel) [] e in
    let z = no_bytes (sign_extended 32 size.Byte r.0, 0) r.1 n sel r.3 in
    one_byte bytes r.1 r.0 r.2 ∙ ap (λ (k : ℕ). 1 + k) z
imm_size_is immediate.Word bytes n sel e =
    let r = and_then_ok (word_at bytes) (λ k. success (pair k 0)) (n, sel) [] e in
    let s = same_read (r.0, 0) (n, sel) r.1 [] r.3 in
    two_bytes bytes r.0 (r.2 ∙ ap (read r.0) s.1)
imm_size_is immediate.Long bytes n sel e =
    let f = long_imm bytes n sel e in
    let l = ap length f.parts ∙ length-append f.word f.back in
    let four = f.four in
    let size = f.size in
    omega (arith, l, four, size)
imm_size_is immediate.Far bytes n sel e =
    let f = far_imm bytes n sel e in
    let l = ap length f.parts ∙ length-append f.word f.back in
    let four = f.four in
    let size = f.size in
    omega (arith, l, four, size)

disp_placed : (row : Row) (p : Parts) (bytes : List ℕ) → p.disp_len ≡ 4 → IsLaidOut row.form p bytes
    → Placed row bytes (disp_place row bytes) (offset_of p.rm) (λ m. with_disp m p)
disp_placed row p bytes four o =
    let e : addressing_at row.form.addressing o.address ≡ Ok (located p.reg p.rm, []) =
    o.address_is ∙ ap (λ (n : ℕ). read (record { reg = p.reg; rm = p.rm; disp_len = n }) []) four in
    let a = addressing_back row.form.addressing o.address p.reg p.rm e in
    let size = imm_size_is row.form.immediate o.immediate p.imm p.sel o.immediate_is in
    let front = o.lead ++ (p.code ∷ a.front) in
    let len4 = four_bytes a.word (offset_of p.rm) a.is in
    let split : bytes ≡ joined front a.word o.immediate =
    o.together ∙ ap (λ bs. o.lead ++ (p.code ∷ (bs ++ o.immediate))) a.parts
    ∙ ap (λ bs. o.lead ++ (p.code ∷ bs)) (append_assoc a.front a.word o.immediate)
    ∙ sym (append_assoc o.lead (p.code ∷ a.front) (a.word ++ o.immediate)) in
    record {
      front = front;
      word = a.word;
      back = o.immediate;
      parts = split;
      at_is = place_is bytes front a.word o.immediate (imm_size row.form.immediate) split len4 size;
      four = len4;
      is = a.is;
      again = λ other m h. record {
        lead = o.lead;
        address = a.front ++ other;
        immediate = o.immediate;
        together =
            append_assoc o.lead (p.code ∷ a.front) (other ++ o.immediate)
            ∙ ap (λ bs. o.lead ++ (p.code ∷ bs)) (sym (append_assoc a.front other o.immediate));
        lead_byte = o.lead_byte;
        lead_is = o.lead_is;
        code_is = o.code_is;
        address_is = a.again other m h ∙ ap (λ (n : ℕ). read (record { reg = p.reg; rm = moved m p.rm; disp_len = n }) []) (sym four);
        immediate_is = o.immediate_is;
      };
    } where
      place_is : (whole front word back : List ℕ) (size : ℕ) → whole ≡ joined front word back → length word ≡ 4 → length back ≡ size
          → length front ≡ length whole - size - 4
      place_is whole front word back size e w s =
          let l = ap length e ∙ length-append front (word ++ back) in
          let k = length-append word back in
          omega (arith, l, k, w, s)

-- ---- what the instruction is

abbrev both_moved : ℕ → Operand × Operand → Operand × Operand
both_moved n x = (moved n x.0, moved n x.1)

order_moved : (n : ℕ) (rm : Operand) (m : ℕ) → in_order (moved n rm) m ≡ both_moved n (in_order rm m)
order_moved n operand.Absent m = refl
order_moved n (operand.Register k) m = refl
order_moved n (operand.Memory a) m = refl
order_moved n (operand.Segment s) m = refl
order_moved n (operand.Control k) m = refl

operands_moved : (n : ℕ) (o : Operands) (p : Parts) → operands_of o (with_disp n p) ≡ both_moved n (operands_of o p)
operands_moved n operands.Nothing p = refl
operands_moved n operands.Rm p = refl
operands_moved n operands.RmReg p = refl
operands_moved n operands.RegRm p = refl
operands_moved n operands.RmCount p = refl
operands_moved n operands.Opcode p = refl
operands_moved n operands.Accumulator p = refl
operands_moved n operands.AccumulatorOpcode p = refl
operands_moved n operands.AccumulatorRm p = refl
operands_moved n operands.RmAccumulator p = refl
operands_moved n operands.Port p = refl
operands_moved n operands.RmControl p = refl
operands_moved n operands.ControlRm p = refl
operands_moved n operands.RmSegment p = refl
operands_moved n operands.SegmentRm p = refl
operands_moved n operands.Extra p = refl
operands_moved n operands.Code p = refl
operands_moved n operands.Stack p = refl
operands_moved n operands.Data p = refl
operands_moved n operands.TwoRegisters p = order_moved n p.rm p.reg

operands_same : (n : ℕ) (o : Operands) (p : Parts) → operands_of o (with_imm n p) ≡ operands_of o p
operands_same n operands.Nothing p = refl
operands_same n operands.Rm p = refl
operands_same n operands.RmReg p = refl
operands_same n operands.RegRm p = refl
operands_same n operands.RmCount p = refl
operands_same n operands.Opcode p = refl
operands_same n operands.Accumulator p = refl
operands_same n operands.AccumulatorOpcode p = refl
operands_same n operands.AccumulatorRm p = refl
operands_same n operands.RmAccumulator p = refl
operands_same n operands.Port p = refl
operands_same n operands.RmControl p = refl
operands_same n operands.ControlRm p = refl
operands_same n operands.RmSegment p = refl
operands_same n operands.SegmentRm p = refl
operands_same n operands.Extra p = refl
operands_same n operands.Code p = refl
operands_same n operands.Stack p = refl
operands_same n operands.Data p = refl
operands_same n operands.TwoRegisters p = refl

sel_disp : (n : ℕ) (plus : Plus) (p : Parts) → sel_of plus (with_disp n p) ≡ sel_of plus p
sel_disp n plus.Nothing p = refl
sel_disp n plus.Register p = refl
sel_disp n plus.OtherRegister p = refl
sel_disp n plus.Condition p = refl

sel_imm : (n : ℕ) (plus : Plus) (p : Parts) → sel_of plus (with_imm n p) ≡ sel_of plus p
sel_imm n plus.Nothing p = refl
sel_imm n plus.Register p = refl
sel_imm n plus.OtherRegister p = refl
sel_imm n plus.Condition p = refl

abbrev insn_with : Row → Operand × Operand → ℕ → ℕ → Insn
insn_with row x imm sel = record { op = row.op; size = row.size; a = x.0; b = x.1; imm = imm; sel = sel; rep = repeats row.form.lead }

disp_means : (row : Row) (p : Parts) (insn : Insn) (n : ℕ) → insn ≡ insn_of row p → insn_disp n insn ≡ insn_of row (with_disp n p)
unfolding insn_of
disp_means row p insn n e =
    ap (insn_disp n) e
    ∙ ap (λ x. insn_with row x p.imm (sel_of row.form.plus p)) (sym (operands_moved n row.operands p))
    ∙ ap (insn_with row (operands_of row.operands (with_disp n p)) p.imm) (sym (sel_disp n row.form.plus p))

imm_means : (row : Row) (p : Parts) (insn : Insn) (n : ℕ) → insn ≡ insn_of row p → insn_imm n insn ≡ insn_of row (with_imm n p)
unfolding insn_of
imm_means row p insn n e =
    ap (insn_imm n) e
    ∙ ap (λ x. insn_with row x n (sel_of row.form.plus p)) (sym (operands_same n row.operands p))
    ∙ ap (insn_with row (operands_of row.operands (with_imm n p)) n) (sym (sel_imm n row.form.plus p))

filled_bytes : (bytes word : List ℕ) (at : ℕ) → AreBytes bytes → AreBytes word → AreBytes (filled bytes at word)
filled_bytes bytes word at fit few = AreBytes-append (take at bytes) (word ++ drop (at + 4) bytes) (AreBytes-take at bytes fit)
    (AreBytes-append word (drop (at + 4) bytes) few (AreBytes-drop (at + 4) bytes fit))

laid : (row : Row) (p : Parts) (bytes : List ℕ) (insn : Insn) → Contains rows row → SpellsBy row p bytes insn → IsLaidOut row.form p bytes
laid row p bytes insn c s = (in_pieces row c p bytes).0 s.read

module _ (row : Row) (p : Parts) (bytes : List ℕ) (insn : Insn) (listed : Contains rows row) (spelled : SpellsBy row p bytes insn) where
  -- the spelling with other four bytes in a field
  spelled_with : (at held : ℕ) (parts_with : ℕ → Parts) (insn_with : Insn) → Placed row bytes at held parts_with → (word : List ℕ) (n : ℕ)
      → IsWord word n → insn_with ≡ insn_of row (parts_with n) → SpellsBy row (parts_with n) (filled bytes at word) insn_with
  spelled_with at held parts_with other f word n w means =
      let e : filled bytes at word ≡ joined f.front word f.back =
      ap (λ (bs : List ℕ). filled bs at word) f.parts ∙ filled_is f.front f.word f.back word at f.at_is f.four in
      record {
        fit = filled_bytes bytes word at spelled.fit w.fit;
        read = ap (parts_at row.form) e ∙ (in_pieces row listed (parts_with n) (joined f.front word f.back)).1 (f.again word n w.is);
        means = means;
      }

  held_in : (at held : ℕ) (parts_with : ℕ → Parts) → Placed row bytes at held parts_with → (at + 4 ≤ length bytes)
      × IsWord (word_in bytes at) held
  held_in at held parts_with f =
      let w : word_in bytes at ≡ f.word = ap (λ (bs : List ℕ). word_in bs at) f.parts ∙ word_is f.front f.word f.back at f.at_is f.four in
      let l = ap length f.parts ∙ length-append f.front (f.word ++ f.back) in
      let k = length-append f.word f.back in
      let four = f.four in
      let place = f.at_is in (
        omega (arith, l, k, four, place),
        record {
          fit = AreBytes-take 4 (drop at bytes) (AreBytes-drop at bytes spelled.fit);
          is = ap long_at w ∙ f.is;
        },
      )

  number_with : (at held : ℕ) (parts_with : ℕ → Parts) (insn_with : Insn) → Placed row bytes at held parts_with → (n : ℕ) → n < 2 ^ 32
      → insn_with ≡ insn_of row (parts_with n) → SpellsBy row (parts_with n) (with_word32 bytes at n) insn_with
  number_with at held parts_with other f n lt means = subst (λ bs. SpellsBy row (parts_with n) bs other) (sym (filled_word bytes at n))
      (spelled_with at held parts_with other f (to_le_bytes w32 n) n (word_of n lt) means)

  number_in : (at held : ℕ) (parts_with : ℕ → Parts) → Placed row bytes at held parts_with → (at + 4 ≤ length bytes)
      × (word32 bytes at ≡ held)
  number_in at held parts_with f = let h = held_in at held parts_with f in (h.0, word_there bytes at held h.1)

  pub disp_law : p.disp_len ≡ 4 → (n : ℕ) → n < 2 ^ 32
      → SpellsBy row (with_disp n p) (with_word32 bytes (disp_place row bytes) n) (insn_disp n insn)
  disp_law four n lt = number_with (disp_place row bytes) (offset_of p.rm) (λ m. with_disp m p) (insn_disp n insn)
      (disp_placed row p bytes four (laid row p bytes insn listed spelled)) n lt (disp_means row p insn n spelled.means)

  pub imm_law : imm_len row.form.immediate ≡ 4 → (n : ℕ) → n < 2 ^ 32
      → SpellsBy row (with_imm n p) (with_word32 bytes (imm_place row bytes) n) (insn_imm n insn)
  imm_law four n lt = number_with (imm_place row bytes) p.imm (λ m. with_imm m p) (insn_imm n insn)
      (imm_placed row p bytes four (laid row p bytes insn listed spelled)) n lt (imm_means row p insn n spelled.means)

  pub disp_held : p.disp_len ≡ 4 → (disp_place row bytes + 4 ≤ length bytes) × (word32 bytes (disp_place row bytes) ≡ offset_of p.rm)
  disp_held four = number_in (disp_place row bytes) (offset_of p.rm) (λ m. with_disp m p)
      (disp_placed row p bytes four (laid row p bytes insn listed spelled))

  pub imm_held : imm_len row.form.immediate ≡ 4 → (imm_place row bytes + 4 ≤ length bytes) × (word32 bytes (imm_place row bytes) ≡ p.imm)
  imm_held four =
      number_in (imm_place row bytes) p.imm (λ m. with_imm m p) (imm_placed row p bytes four (laid row p bytes insn listed spelled))
