-- What is known of the operands that arguments give, and of the instructions that names mean.
use Rattle.std.proofs.Common.{◌≡◌, ℕ, ◌-◌, ◌<◌, Bool, true, false, List, [], ◌∷◌, Option, Some, None, length, refl, sym, ap, ◌∙◌}
use Rattle.std.specs.Prelude.{◌==◌, ◌&&◌, nat_lt, is_none, is_some, slice_get, slice_index, take, if◌then◌else◌}
use Rattle.std.specs.Option.{option_or}
use Rattle.std.specs.Str.{bytes_eq}
use Rattle.std.proofs.lemmas.Bool.{ltb-true, lt-ltb, and_parts}
use Rattle.ia32_types.specs.declared.register.Reg.{Reg}
use Rattle.ia32_types.specs.Register.{number_of}
use Rattle.ia32_types.specs.declared.size.Size.TheVariants as size
use Rattle.asm_source.specs.declared.tree.Value.{Value}
use Rattle.asm_source.specs.declared.tree.Form.{Form}
use Rattle.asm_source.specs.declared.tree.Form.TheVariants as form
use Rattle.asm_source.specs.declared.tree.Argument.{Argument}
use Rattle.asm_source.specs.Names.{symbol_in}
use Rattle.asm_instruction.specs.declared.argument.Number.{Number}
use Rattle.asm_instruction.specs.declared.argument.Given.{Given}
use Rattle.asm_instruction.specs.declared.argument.Given.TheVariants as given
use Rattle.asm_instruction.specs.declared.mnemonic.Family.{Family}
use Rattle.asm_instruction.specs.declared.mnemonic.Mnemonic.{Mnemonic}
use Rattle.asm_instruction.specs.declared.argument.Operands.TheVariants as operands
use Rattle.asm_instruction.specs.Names.{Table, found, ◌>>=◌}
use Rattle.asm_instruction.specs.Field.{field}
use Rattle.asm_instruction.specs.Register.{long_registers, word_registers, byte_registers, segment_registers, control_registers}
use Rattle.asm_instruction.specs.Argument.{named_register, displacement, address_register, is_dx, address, memory_operand, given_by, single, unstarred, operands_of, names_symbol}
use Rattle.asm_instruction.specs.Arithmetic.{arithmetic_names}
use Rattle.asm_instruction.specs.Shift.{shift_names}
use Rattle.asm_instruction.specs.Moves.{move_names, extend_names}
use Rattle.asm_instruction.specs.Stack.{stack_names, frame_names}
use Rattle.asm_instruction.specs.Condition.{conditions}
use Rattle.asm_instruction.specs.Control.{branch_names, control_names, jump_name, set_name, behind_set, conditional_name}
use Rattle.asm_instruction.specs.Strings.{string_names}
use Rattle.asm_instruction.specs.Flags.{plain_names}
use Rattle.asm_instruction.specs.System.{system_names, page_names}
use Rattle.asm_instruction.specs.Mnemonic.{exact_names, sized_names, suffix, suffixed, with_suffix, without_suffix, known_name}
use Rattle.asm_instruction.specs.Right.{constant_of, argument_constant, constant_in}
use Rattle.asm_instruction.proofs.Goods.{When, bind_from, bind_any, either, choice, field_below, GivenGood, OperandsGood, family_good}

-- ---- the operands

module _ (args : List Argument) where
  -- the number is that of its argument, and named only where that names a symbol
  record NumberGood (n : Number) : Type 0 where
    named : n.named ≡ true → names_symbol args (Some n.argument) ≡ true
    constant : n.value ≡ constant_in args n.argument

  register_good : (name : List ℕ) → When (GivenGood args) (named_register name)
  unfolding named_register
  register_good name =
      either (GivenGood args) _ _
      (bind_any (GivenGood args) (found long_registers name) (λ r. Some (given.Register size.Long (number_of r))) (λ r. tt))
      (either (GivenGood args) _ _
      (bind_any (GivenGood args) (found word_registers name) (λ n. Some (given.Register size.Word n)) (λ n. tt))
      (either (GivenGood args) _ _
      (bind_any (GivenGood args) (found byte_registers name) (λ n. Some (given.Register size.Byte n)) (λ n. tt))
      (either (GivenGood args) _ _ (bind_any (GivenGood args) (found segment_registers name) (λ s. Some (given.Segment s)) (λ s. tt))
      (bind_any (GivenGood args) (found control_registers name) (λ n. Some (given.Control n)) (λ n. tt)))))

  address_good : (b i : Option Reg) (s : ℕ) (n : Number) → NumberGood n → GivenGood args (address b i s n)
  address_good b i s n h = record { below = field_below size.Long n.value; named = h.named; constant = ap (field size.Long) h.constant }

  memory_good : (n : Number) (b i : Option (List ℕ)) (s : ℕ) → NumberGood n → When (GivenGood args) (memory_operand n b i s)
  unfolding memory_operand
  memory_good n b i s h =
      bind_any (GivenGood args) (address_register b) _ (λ x. bind_any (GivenGood args) (address_register i) _ (λ y. address_good x y s n h))

  displacement_good : (v : Option Value) (b i : Option (List ℕ)) (s k : ℕ)
      → names_symbol args (Some k) ≡ is_some (symbol_in (form.Memory v b i s)) → constant_in args k ≡ constant_of (form.Memory v b i s)
      → NumberGood (displacement v k)
  displacement_good (Some v) b i s k h q = record { named = λ t. h ∙ t; constant = sym q }
  displacement_good None b i s k h q = record { named = λ t. absurd cc; constant = sym q }

  given_good : (f : Form) (k : ℕ) → names_symbol args (Some k) ≡ is_some (symbol_in f) → constant_in args k ≡ constant_of f
      → When (GivenGood args) (given_by f k)
  unfolding given_by
  given_good (form.Register name) k h q = register_good name
  given_good (form.Immediate v) k h q = tt
  given_good (form.Memory v b i s) k h q =
      choice (GivenGood args) (is_none v && is_dx b && is_none i) (Some given.Port) (memory_operand (displacement v k) b i s) tt
      (memory_good (displacement v k) b i s (displacement_good v b i s k h q))
  given_good form.Absent k h q = tt
  given_good (form.Text n) k h q = tt

  argument_good : (a : Argument) (k : ℕ) → slice_get args k ≡ Some a → When (GivenGood args) (given_by a.form k)
  unfolding names_symbol
  argument_good a k e = given_good a.form k (ap (λ (o : Option Argument). is_some (o >>= λ a. symbol_in a.form)) e) (ap argument_constant e)

  unstarred_good : (a : Argument) (k : ℕ) → slice_get args k ≡ Some a → When (GivenGood args) (unstarred a k)
  unfolding unstarred
  unstarred_good a k e = choice (GivenGood args) a.star None (given_by a.form k) tt (argument_good a k e)

  starred_good : (b : Bool) (g : Given) → GivenGood args g → OperandsGood args (if b then operands.Starred g else operands.One g)
  starred_good true g h = h
  starred_good false g h = h

  single_good : (a : Argument) → slice_get args 0 ≡ Some a → When (OperandsGood args) (single a)
  unfolding single
  single_good a e = bind_from (GivenGood args) (OperandsGood args) (given_by a.form 0)
      (λ g. Some (if a.star then operands.Starred g else operands.One g)) (argument_good a 0 e) (λ g h. starred_good a.star g h)

pub operands_good : (args : List Argument) → When (OperandsGood args) (operands_of args)
unfolding operands_of
operands_good [] = tt
operands_good (a ∷ []) = single_good (a ∷ []) a refl
operands_good (a ∷ b ∷ []) =
    let args = a ∷ b ∷ [] in
    bind_from (GivenGood args) (OperandsGood args) (unstarred a 0) _ (unstarred_good args a 0 refl)
    (λ x p. bind_from (GivenGood args) (OperandsGood args) (unstarred b 1) _ (unstarred_good args b 1 refl) (λ y q. (p, q)))
operands_good (a ∷ b ∷ c ∷ []) =
    let args = a ∷ b ∷ c ∷ [] in
    bind_from (GivenGood args) (OperandsGood args) (unstarred a 0) _ (unstarred_good args a 0 refl)
    (λ x p. bind_from (GivenGood args) (OperandsGood args) (unstarred b 1) _ (unstarred_good args b 1 refl)
    (λ y q. bind_from (GivenGood args) (OperandsGood args) (unstarred c 2) _ (unstarred_good args c 2 refl) (λ z r. (p, q, r))))
operands_good (a ∷ b ∷ c ∷ d ∷ rest) = tt

-- ---- the names

abbrev FamilyGood : Family → Type 0
FamilyGood k = family_good k ≡ true

abbrev pub MnemonicGood : Mnemonic → Type 0
MnemonicGood m = family_good m.family ≡ true

abbrev all_good : Table Family → Bool
all_good [] = true
all_good (e ∷ table) = family_good e.1 && all_good table

found_good : (table : Table Family) → all_good table ≡ true → (name : List ℕ) → When FamilyGood (found table name)
found_good [] h name = tt
found_good (e ∷ table) h name =
    let p = and_parts (family_good e.1) (all_good table) h in
    choice FamilyGood (bytes_eq name e.0) (Some e.1) (found table name) p.0 (found_good table p.1 name)

abbrev Below : ℕ → Type 0
Below n = n < 16

abbrev all_below : Table ℕ → Bool
all_below [] = true
all_below (e ∷ table) = nat_lt e.1 16 && all_below table

found_below : (table : Table ℕ) → all_below table ≡ true → (name : List ℕ) → When Below (found table name)
found_below [] h name = tt
found_below (e ∷ table) h name =
    let p = and_parts (nat_lt e.1 16) (all_below table) h in
    choice Below (bytes_eq name e.0) (Some e.1) (found table name) (ltb-true e.1 16 p.0) (found_below table p.1 name)

condition_below : (name : List ℕ) → When Below (found conditions name)
unfolding conditions
condition_below name = found_below conditions refl name

jump_good : (rest : List ℕ) → When FamilyGood (jump_name rest)
jump_good rest = bind_from Below FamilyGood (found conditions rest) _ (condition_below rest) (λ c lt. lt-ltb c 16 lt)

set_good : (rest : List ℕ) → When FamilyGood (set_name rest)
set_good rest = bind_from Below FamilyGood (found conditions rest) _ (condition_below rest) (λ c lt. lt-ltb c 16 lt)

behind_good : (name : List ℕ) → When FamilyGood (behind_set name)
behind_good [] = tt
behind_good (s ∷ []) = tt
behind_good (s ∷ e ∷ []) = tt
behind_good (s ∷ e ∷ t ∷ rest) = choice FamilyGood ((s == 115) && (e == 101) && (t == 116)) (set_name rest) None (set_good rest) tt

conditional_good : (name : List ℕ) → When FamilyGood (conditional_name name)
unfolding conditional_name
conditional_good [] = tt
conditional_good (c ∷ rest) =
    choice FamilyGood (c == 106) (jump_name rest) (behind_set (c ∷ rest)) (jump_good rest) (behind_good (c ∷ rest))

exact_good : (name : List ℕ) → When FamilyGood (found exact_names name)
unfolding exact_names plain_names frame_names extend_names string_names page_names control_names
exact_good name = found_good exact_names refl name

sized_good : (name : List ℕ) → When FamilyGood (found sized_names name)
unfolding sized_names arithmetic_names shift_names move_names stack_names branch_names system_names
sized_good name = found_good sized_names refl name

suffixed_good : (front : List ℕ) (letter : ℕ) → When MnemonicGood (suffixed front letter)
unfolding suffixed
suffixed_good front letter = bind_from FamilyGood MnemonicGood (found sized_names front) _ (sized_good front)
    (λ f h. bind_any MnemonicGood (suffix letter) _ (λ s. h))

with_suffix_good : (name : List ℕ) → When MnemonicGood (with_suffix name)
unfolding with_suffix
with_suffix_good name =
    choice MnemonicGood (length name == 0) None _ tt (suffixed_good (take (length name - 1) name) (slice_index name (length name - 1)))

without_good : (o : Option Family) (p : Option Mnemonic) → When FamilyGood o → When MnemonicGood p → When MnemonicGood (without_suffix o p)
without_good (Some f) p h q = h
without_good None p h q = q

pub known_good : (name : List ℕ) → When MnemonicGood (known_name name)
unfolding known_name
known_good name =
    without_good (option_or (found exact_names name) (option_or (conditional_name name) (found sized_names name))) (with_suffix name)
    (either FamilyGood (found exact_names name) (option_or (conditional_name name) (found sized_names name)) (exact_good name)
    (either FamilyGood (conditional_name name) (found sized_names name) (conditional_good name) (sized_good name)))
    (with_suffix_good name)
