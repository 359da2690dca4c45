-- What is known of an instruction that is assembled: its row, where its fields stand, and which of them a branch has.
use Rattle.std.proofs.Common.{◌≡◌, ℕ, ◌+◌, Bool, true, false, not, cond, ◌&&◌, ◌||◌, List, [], ◌∷◌, length, Option, Some, None, Result, Ok, Err, refl, sym, ap, subst, ◌∙◌, arith, inl, inr}
use Rattle.std.specs.Prelude.{slice_get, ◌==◌, is_some, is_none, if◌then◌else◌}
use Rattle.std.specs.Option.{option_or}
use Rattle.std.specs.List.{list_all, Contains}
use Rattle.std.proofs.lemmas.Bool.{eqb-true, and_parts, both_ways}
use Rattle.std.proofs.lemmas.List.Sums.{AllPass-from_list_all}
use Rattle.ia32_types.specs.Branches.{is_direct_branch}
use Rattle.ia32_types.specs.declared.insn.Op.{Op}
use Rattle.ia32_types.specs.declared.insn.Insn.{Insn}
use Rattle.ia32_rows.specs.declared.row.Row.{Row}
use Rattle.ia32_rows.specs.declared.row.Parts.{Parts}
use Rattle.ia32_rows.specs.Fields.{imm_len}
use Rattle.ia32_rows.specs.Spelling.{parts_at}
use Rattle.ia32_rows.specs.Rows.{rows}
use Rattle.ia32_encode.specs.declared.bytes.ArrayBytes.{ArrayBytes}
use Rattle.ia32_encode.specs.Chosen.{chosen}
use Rattle.asm_source.specs.declared.tree.Value.{Value}
use Rattle.asm_source.specs.declared.tree.Form.{Form as ArgumentForm}
use Rattle.asm_source.specs.declared.tree.Form.TheVariants as form
use Rattle.asm_source.specs.declared.tree.Argument.{Argument}
use Rattle.asm_source.specs.Names.{symbol_in}
use Rattle.asm_instruction.specs.declared.argument.Number.{Number}
use Rattle.asm_instruction.specs.declared.argument.Memory.{Memory}
use Rattle.asm_instruction.specs.declared.argument.Given.{Given}
use Rattle.asm_instruction.specs.declared.argument.Given.TheVariants as given
use Rattle.asm_instruction.specs.declared.argument.Operands.{Operands}
use Rattle.asm_instruction.specs.declared.argument.Operands.TheVariants as operands
use Rattle.asm_instruction.specs.declared.draft.Draft.{Draft}
use Rattle.asm_instruction.specs.declared.mnemonic.Mnemonic.{Mnemonic}
use Rattle.asm_instruction.specs.declared.assembled.Assembled.{Assembled}
use Rattle.asm_instruction.specs.declared.assembled.Named.{Named}
use Rattle.asm_instruction.specs.declared.assembled.Refusal.{Refusal}
use Rattle.asm_instruction.specs.declared.assembled.Refusal.TheVariants as refusal
use Rattle.asm_instruction.specs.Names.{found, ◌>>=◌}
use Rattle.asm_instruction.specs.Argument.{named_register, displacement, address_register, is_dx, address, memory_operand, given_by, single, unstarred, operands_of, names_symbol}
use Rattle.ia32_types.specs.declared.register.Reg.{Reg}
use Rattle.ia32_types.specs.Register.{number_of}
use Rattle.ia32_types.specs.declared.size.Size.TheVariants as size
use Rattle.asm_instruction.specs.Field.{field}
use Rattle.asm_instruction.specs.Register.{long_registers, word_registers, byte_registers, segment_registers, control_registers}
use Rattle.asm_instruction.specs.Refused.{refused_names}
use Rattle.asm_instruction.specs.Draft.{instruction}
use Rattle.asm_instruction.specs.Control.{distance, to_symbol}
use Rattle.asm_instruction.specs.Mnemonic.{known_name, drafted}
use Rattle.asm_instruction.specs.Assembled.{named_field, widths, whole, spelled, drafted_of, by_draft, by_mnemonic, by_name, assembled}
use Rattle.asm_instruction.specs.Right.{spelling_bytes}
use Rattle.asm_instruction.proofs.Answered.{spelling_is}
use Rattle.asm_instruction.proofs.Whole.{symbol_there as some_name}
use Rattle.afterburner.specs.Arguments.{number_in as constant_in}
use Rattle.built_images.specs.Fields.{imm_size, disp_place, imm_place}
use Rattle.built_images.proofs.Drafts.{IsBranch, meant_sound}
use Rattle.built_images.proofs.ChosenRows.{IsKnown, known}

-- ---- what is assembled

pub record IsDrafted (rep : Bool) (name : List ℕ) (args : List Argument) (a : Assembled) : Type 0 where
  pub mnemonic : Mnemonic
  pub known : known_name name ≡ Some mnemonic
  pub operands : Operands
  pub given : operands_of args ≡ Some operands
  pub draft : Draft
  pub drafted : drafted rep mnemonic operands ≡ Some draft
  pub spelling : ArrayBytes
  pub chosen : chosen (widths draft args) draft.insn ≡ Some spelling
  pub is : a ≡ whole draft (widths draft args) spelling

abbrev ok_assembled : Assembled → Result Assembled Refusal
ok_assembled a = Ok a

operands_there : (o : Option Operands) (f : Operands → Option Draft) (d : Draft) → (o >>= f) ≡ Some d → (os : Operands)
    × (o ≡ Some os) × (f os ≡ Some d)
operands_there None f d e = absurd cc
operands_there (Some os) f d e = (os, refl, e)

by_draft_is : (rep : Bool) (name : List ℕ) (args : List Argument) (a : Assembled) (m : Mnemonic) → known_name name ≡ Some m
    → (o : Option Draft) → drafted_of rep m args ≡ o → by_draft args o ≡ Ok a → IsDrafted rep name args a
unfolding spelled drafted_of
by_draft_is rep name args a m known None is e = absurd cc
by_draft_is rep name args a m known (Some d) is e =
    let s = spelling_is d (widths d args) (chosen (widths d args) d.insn) a e in
    let os = operands_there (operands_of args) (λ os. drafted rep m os) d is in
    record { mnemonic = m; known = known; operands = os.0; given = os.1; draft = d; drafted = os.2; spelling = s.0; chosen = s.1; is = s.2 }

by_name_is : (rep : Bool) (name : List ℕ) (args : List Argument) (a : Assembled) (o : Option Mnemonic) → known_name name ≡ o
    → by_name rep args o ≡ Ok a → IsDrafted rep name args a
unfolding by_mnemonic
by_name_is rep name args a None is e = absurd cc
by_name_is rep name args a (Some m) is e = by_draft_is rep name args a m is (drafted_of rep m args) refl e

assembled_is : (rep : Bool) (name : List ℕ) (args : List Argument) (a : Assembled) → assembled rep name args ≡ Ok a
    → IsDrafted rep name args a
unfolding assembled
assembled_is rep name args a e = by_refused (is_some (found refused_names name)) e where
  by_refused : (b : Bool) → cond b (Err refusal.RefusedInstruction) (by_name rep args (known_name name)) ≡ Ok a → IsDrafted rep name args a
  by_refused true e = absurd cc
  by_refused false e = by_name_is rep name args a (known_name name) refl e

-- ---- the fields

named_is : (named : Bool) (k : Option ℕ) (at : ℕ) (r : Bool) (f : Named) → named_field named k at r ≡ Some f → (named ≡ true) × (f.at ≡ at)
    × (f.relative ≡ r) × (k ≡ Some f.argument)
named_is named None at r f e = absurd cc
named_is true (Some j) at r f e =
    let same : record { at = at; argument = j; relative = r } ≡ f = cc in
    (refl, sym (ap (λ (x : Named). x.at) same), sym (ap (λ (x : Named). x.relative) same), ap (λ (x : Named). Some x.argument) same)
named_is false (Some j) at r f e = absurd cc

abbrev branch_long : Row → Bool
branch_long row = not (is_direct_branch row.op) || (not (imm_len row.form.immediate == 4) || imm_size row.form.immediate == 4)

branches_long : list_all branch_long rows ≡ true
unfolding rows
branches_long = refl

three : (a b c : Bool) → (not a || (not b || c)) ≡ true → a ≡ true → b ≡ true → c ≡ true
three true true c h p q = h
three true false c h p q = absurd cc
three false b c h p q = absurd cc

four_true : (n : ℕ) → n ≡ 4 → (n == 4) ≡ true
four_true n e = ap (λ m. m == 4) e

branch_row : (row : Row) → Contains rows row → is_direct_branch row.op ≡ true → imm_len row.form.immediate ≡ 4
    → imm_size row.form.immediate ≡ 4
branch_row row c b four =
    let right : branch_long row ≡ true = sym (ap branch_long c.2) ∙ AllPass-from_list_all branch_long rows branches_long c.0 row c.1 in
    eqb-true (imm_size row.form.immediate) 4
    (three (is_direct_branch row.op) (imm_len row.form.immediate == 4) (imm_size row.form.immediate == 4) right b
    (four_true (imm_len row.form.immediate) four))

-- the operand of a branch is the one argument, which names a symbol
abbrev NotMemory : Option Given → Type 0
NotMemory None = Unit {0}
NotMemory (Some (given.Memory m)) = ⊥
NotMemory (Some _) = Unit {0}

not_bound : {A : Type 0} (o : Option A) (f : A → Given) → ((x : A) → NotMemory (Some (f x))) → NotMemory (o >>= λ x. Some (f x))
not_bound None f h = tt
not_bound (Some x) f h = h x

not_or : (a b : Option Given) → NotMemory a → NotMemory b → NotMemory (option_or a b)
not_or (Some g) b h k = h
not_or None b h k = k

abbrev by_long : List ℕ → Option Given
by_long name = found long_registers name >>= λ r. Some (given.Register size.Long (number_of r))

abbrev by_word : List ℕ → Option Given
by_word name = found word_registers name >>= λ n. Some (given.Register size.Word n)

abbrev by_byte : List ℕ → Option Given
by_byte name = found byte_registers name >>= λ n. Some (given.Register size.Byte n)

abbrev by_segment : List ℕ → Option Given
by_segment name = found segment_registers name >>= λ s. Some (given.Segment s)

abbrev by_control : List ℕ → Option Given
by_control name = found control_registers name >>= λ n. Some (given.Control n)

register_not : (name : List ℕ) → NotMemory (named_register name)
unfolding named_register
register_not name =
    not_or (by_long name) _ (not_bound (found long_registers name) (λ r. given.Register size.Long (number_of r)) (λ r. tt))
    (not_or (by_word name) _ (not_bound (found word_registers name) (λ n. given.Register size.Word n) (λ n. tt))
    (not_or (by_byte name) _ (not_bound (found byte_registers name) (λ n. given.Register size.Byte n) (λ n. tt))
    (not_or (by_segment name) (by_control name) (not_bound (found segment_registers name) (λ s. given.Segment s) (λ s. tt))
    (not_bound (found control_registers name) (λ n. given.Control n) (λ n. tt)))))

not_memory : (o : Option Given) (m : Memory) → o ≡ Some (given.Memory m) → NotMemory o → ⊥
not_memory o m e h = subst NotMemory e h

abbrev some_given : Given → Option Given
some_given g = Some g

addressed : (b i : Option (Option Reg)) (scale : ℕ) (n : Number) (m : Memory) → (b >>= λ x. i >>= λ y. Some (address x y scale n))
    ≡ some_given (given.Memory m) → (n ≡ m.displacement) × (m.address.disp ≡ field size.Long n.value)
addressed None i scale n m e = absurd cc
addressed (Some x) None scale n m e = absurd cc
addressed (Some x) (Some y) scale n m e =
    let same : record { address = record { base = x; index = y; scale = scale; disp = field size.Long n.value }; displacement = n } ≡ m =
    cc in (ap (λ (k : Memory). k.displacement) same, sym (ap (λ (k : Memory). k.address.disp) same))

pub record IsNamed (f : ArgumentForm) (m : Memory) : Type 0 where
  pub argument : m.displacement.argument ≡ 0
  pub named : m.displacement.named ≡ is_some (symbol_in f)
  pub disp : m.address.disp ≡ field size.Long (constant_in f)

named_value : (v : Option Value) (b i : Option (List ℕ)) (scale : ℕ) (m : Memory) → displacement v 0 ≡ m.displacement
    → m.address.disp ≡ field size.Long (displacement v 0).value → IsNamed (form.Memory v b i scale) m
named_value (Some v) b i scale m e d =
    record { argument = sym (ap (λ (n : Number). n.argument) e); named = sym (ap (λ (n : Number). n.named) e); disp = d }
named_value None b i scale m e d =
    record { argument = sym (ap (λ (n : Number). n.argument) e); named = sym (ap (λ (n : Number). n.named) e); disp = d }

given_named : (f : ArgumentForm) (m : Memory) → given_by f 0 ≡ Some (given.Memory m) → IsNamed f m
unfolding given_by memory_operand
given_named (form.Register name) m e = absurd (not_memory (named_register name) m e (register_not name))
given_named (form.Immediate v) m e = absurd cc
given_named (form.Memory v base index scale) m e = by_port (is_none v && is_dx base && is_none index) e where
  by_port : (b : Bool) → cond b (some_given given.Port)
      (address_register base >>= λ x. address_register index >>= λ y. Some (address x y scale (displacement v 0))) ≡ Some (given.Memory m)
      → IsNamed (form.Memory v base index scale) m
  by_port true e = absurd cc
  by_port false e = let h =
      addressed (address_register base) (address_register index) scale (displacement v 0) m e in named_value v base index scale m h.0 h.1
given_named _ m e = absurd cc

abbrev one_given : Given → Operands
one_given g = operands.One g

star_given : (star : Bool) (o : Option Given) (m : Memory) → (o >>= λ g. Some (if star then operands.Starred g else operands.One g)) ≡ Some
    (one_given (given.Memory m)) → o ≡ Some (given.Memory m)
star_given star None m e = absurd cc
star_given true (Some g) m e = absurd cc
star_given false (Some g) m e = let same : g ≡ given.Memory m = cc in ap (λ x. Some x) same

pub record OneNamed (args : List Argument) (m : Memory) : Type 0 where
  pub argument : Argument
  pub there : slice_get args m.displacement.argument ≡ Some argument
  pub named : m.displacement.named ≡ is_some (symbol_in argument.form)
  pub disp : m.address.disp ≡ field size.Long (constant_in argument.form)

two_not_one : (x y : Option Given) (m : Memory) → (x >>= λ a. y >>= λ b. Some (operands.Two a b)) ≡ Some (one_given (given.Memory m)) → ⊥
two_not_one None y m e = cc
two_not_one (Some a) None m e = cc
two_not_one (Some a) (Some b) m e = cc

three_not_one : (x y z : Option Given) (m : Memory) → (x >>= λ a. y >>= λ b. z >>= λ c. Some (operands.Three a b c)) ≡ Some
    (one_given (given.Memory m)) → ⊥
three_not_one None y z m e = cc
three_not_one (Some a) None z m e = cc
three_not_one (Some a) (Some b) None m e = cc
three_not_one (Some a) (Some b) (Some c) m e = cc

one_named : (args : List Argument) (m : Memory) → operands_of args ≡ Some (operands.One (given.Memory m)) → OneNamed args m
unfolding operands_of single unstarred
one_named [] m e = absurd cc
one_named (a ∷ []) m e =
    let h = given_named a.form m (star_given a.star (given_by a.form 0) m e) in
    record { argument = a; there = ap (slice_get (a ∷ [])) h.argument; named = h.named; disp = h.disp }
one_named (a ∷ b ∷ []) m e = absurd (two_not_one (unstarred a 0) (unstarred b 1) m e)
one_named (a ∷ b ∷ c ∷ []) m e = absurd (three_not_one (unstarred a 0) (unstarred b 1) (unstarred c 2) m e)
one_named (a ∷ b ∷ c ∷ d ∷ args) m e = absurd cc

-- the constant of a branch, in 32 bits
abbrev pub field_of : Argument → ℕ
field_of a = field size.Long (constant_in a.form)

-- The one field of a branch, its last four bytes, names a symbol and means the distance.
pub record BranchField (args : List Argument) (a : Assembled) : Type 0 where
  pub no_disp : a.disp ≡ None
  pub field : Named
  pub imm : a.imm ≡ Some field
  pub relative : field.relative ≡ true
  pub argument : Argument
  pub there : slice_get args field.argument ≡ Some argument
  pub name : List ℕ
  pub named : symbol_in argument.form ≡ Some name
  pub end : field.at + 4 ≡ a.spelling.len
  pub constant : a.insn.imm ≡ distance (field_of argument)

-- An instruction by its row, with its fields where the row has them.
pub record IsFielded (args : List Argument) (a : Assembled) : Type 0 where
  pub row : Row
  pub listed : Contains rows row
  pub parts : Parts
  pub op : row.op ≡ a.insn.op
  pub number : parts.imm ≡ a.insn.imm
  pub read : parts_at row.form (spelling_bytes a) ≡ Ok (parts, [])
  pub len : length (spelling_bytes a) ≡ a.spelling.len
  pub disp : (f : Named) → a.disp ≡ Some f → (parts.disp_len ≡ 4) × (f.at ≡ disp_place row (spelling_bytes a))
  pub imm : (f : Named) → a.imm ≡ Some f → (imm_len row.form.immediate ≡ 4) × (f.at ≡ imm_place row (spelling_bytes a))
  pub branch : is_direct_branch a.insn.op ≡ true → BranchField args a

first_of : (a b c : Bool) → (a && b && c) ≡ true → a ≡ true
first_of a b c e = (and_parts a b (and_parts (a && b) c e).0).0

symbol_disp : (o : Op) (c : ℕ) (m : Memory) → (to_symbol o c m).disp ≡ None
unfolding to_symbol instruction
symbol_disp o c m = refl

symbol_imm : (o : Op) (c : ℕ) (m : Memory) → (to_symbol o c m).imm ≡ Some m.displacement.argument
unfolding to_symbol instruction
symbol_imm o c m = refl

symbol_number : (o : Op) (c : ℕ) (m : Memory) → (to_symbol o c m).insn.imm ≡ distance m.address.disp
unfolding to_symbol instruction
symbol_number o c m = refl

symbol_relative : (o : Op) (c : ℕ) (m : Memory) → (to_symbol o c m).relative ≡ true
unfolding to_symbol instruction
symbol_relative o c m = refl

imm_wide : (d : Draft) (args : List Argument) → (widths d args).imm ≡ names_symbol args d.imm
unfolding widths
imm_wide d args = refl

symbol_there : (args : List Argument) (k : ℕ) (a : Argument) → slice_get args k ≡ Some a → is_some (symbol_in a.form) ≡ true
    → names_symbol args (Some k) ≡ true
unfolding names_symbol
symbol_there args k a e h = ap (λ (o : Option Argument). is_some (o >>= λ a. symbol_in a.form)) e ∙ h

no_field : (named : Bool) (at : ℕ) (r : Bool) (k : Option ℕ) → k ≡ None → named_field named k at r ≡ None
no_field named at r k e = ap (λ j. named_field named j at r) e

one_field : (named : Bool) (at j : ℕ) (r : Bool) (k : Option ℕ) → named ≡ true → k ≡ Some j
    → named_field named k at r ≡ Some (record { at = at; argument = j; relative = r })
one_field named at j r k n e = ap (λ i. named_field named i at r) e ∙ ap (λ b. named_field b (Some j) at r) n

abbrev whole_of : Draft → List Argument → ArrayBytes → Assembled
whole_of d args s = whole d (widths d args) s

whole_disp : (d : Draft) (args : List Argument) (s : ArrayBytes) → (whole_of d args s).disp ≡ named_field (widths d args).disp
    d.disp s.disp_at false
unfolding whole
whole_disp d args s = refl

whole_imm : (d : Draft) (args : List Argument) (s : ArrayBytes) → (whole_of d args s).imm ≡ named_field (widths d args).imm
    d.imm s.imm_at d.relative
unfolding whole
whole_imm d args s = refl

whole_spelling : (d : Draft) (args : List Argument) (s : ArrayBytes) → ((whole_of d args s).spelling ≡ s)
    × ((whole_of d args s).insn ≡ d.insn)
unfolding whole
whole_spelling d args s = (refl, refl)

branch_field : (d : Draft) (args : List Argument) (s : ArrayBytes) (os : Operands) → operands_of args ≡ Some os → IsBranch os d
    → (k : IsKnown (widths d args) d.insn s) → is_direct_branch d.insn.op ≡ true → BranchField args (whole_of d args s)
branch_field d args s os given b k branch =
    let m = b.memory in
    let one = one_named args m (given ∙ ap (λ x. Some x) b.one) in
    let symbol = first_of m.displacement.named (is_none m.address.base) (is_none m.address.index) b.symbol in
    let name = some_name (symbol_in one.argument.form) (sym one.named ∙ symbol) in
    let no_disp : d.disp ≡ None = ap (λ (x : Draft). x.disp) b.is ∙ symbol_disp b.name b.condition m in
    let imm : d.imm ≡ Some m.displacement.argument = ap (λ (x : Draft). x.imm) b.is ∙ symbol_imm b.name b.condition m in
    let relative : d.relative ≡ true = ap (λ (x : Draft). x.relative) b.is ∙ symbol_relative b.name b.condition m in
    let wide : (widths d args).imm ≡ true = imm_wide d args ∙ ap (names_symbol args) imm
    ∙ symbol_there args m.displacement.argument one.argument one.there (ap is_some name.1) in
    let size = branch_row k.row k.listed (ap is_direct_branch k.op ∙ branch) (k.imm_long wide) in
    let room = k.imm_room wide in
    let spelling = ap (λ (x : ArrayBytes). x.len) (whole_spelling d args s).0 in
    let number : (whole_of d args s).insn.imm ≡ distance (field_of one.argument) = ap (λ (i : Insn). i.imm) (whole_spelling d args s).1
    ∙ ap (λ (x : Draft). x.insn.imm) b.is ∙ symbol_number b.name b.condition m ∙ ap distance one.disp in
    record {
      no_disp = whole_disp d args s ∙ no_field (widths d args).disp s.disp_at false d.disp no_disp;
      field = record { at = s.imm_at; argument = m.displacement.argument; relative = d.relative };
      imm = whole_imm d args s ∙ one_field (widths d args).imm s.imm_at m.displacement.argument d.relative d.imm wide imm;
      relative = relative;
      argument = one.argument;
      there = one.there;
      name = name.0;
      named = name.1;
      end = omega (arith, size, room, spelling);
      constant = number;
    }

fielded : (d : Draft) (args : List Argument) (s : ArrayBytes) → IsKnown (widths d args) d.insn s
    → (is_direct_branch d.insn.op ≡ true → BranchField args (whole_of d args s)) → IsFielded args (whole_of d args s)
unfolding whole
fielded d args s k branch = record {
  row = k.row;
  listed = k.listed;
  parts = k.parts;
  op = k.op;
  number = k.number;
  read = k.read;
  len = k.len;
  disp = λ f e. let n = named_is (widths d args).disp d.disp s.disp_at false f e in (k.disp_len n.0, n.1 ∙ k.disp_at n.0);
  imm = λ f e. let n = named_is (widths d args).imm d.imm s.imm_at d.relative f e in (k.imm_long n.0, n.1 ∙ k.imm_at n.0);
  branch = branch;
}

pub assembled_fielded : (rep : Bool) (name : List ℕ) (args : List Argument) (a : Assembled)
    → assembled rep name args ≡ Ok a → IsFielded args a
assembled_fielded rep name args a e =
    let h = assembled_is rep name args a e in
    let k = known (widths h.draft args) h.draft.insn h.spelling h.chosen in
    let sound = meant_sound rep name h.mnemonic h.operands h.draft h.known h.drafted in
    subst (IsFielded args) (sym h.is) (fielded h.draft args h.spelling k (λ branch.
    elim sound [
      | inl quiet ↦ absurd (both_ways (is_direct_branch h.draft.insn.op) quiet branch)
      | inr b ↦ branch_field h.draft args h.spelling h.operands h.given b k branch
    ]))
