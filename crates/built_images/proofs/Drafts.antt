-- Of the instructions that statements mean, the direct branches are those that name a symbol alone.
use Rattle.std.proofs.Common.{◌≡◌, ℕ, ◌-◌, Bool, true, false, not, cond, ◌&&◌, List, [], ◌∷◌, length, take, Option, Some, None, refl, sym, ap, subst, ◌∙◌, inl, inr, ◌⊎◌}
use Rattle.std.specs.Prelude.{slice_index, ◌==◌}
use Rattle.std.specs.Option.{option_or}
use Rattle.std.specs.List.{list_all}
use Rattle.std.specs.Str.{bytes_eq}
use Rattle.std.proofs.lemmas.Bool.{and_parts, not-true}
use Rattle.ia32_types.specs.Branches.{is_direct_branch}
use Rattle.ia32_types.specs.declared.insn.Op.{Op}
use Rattle.ia32_types.specs.declared.insn.Op.TheVariants as op
use Rattle.ia32_types.specs.declared.size.Size.{Size}
use Rattle.ia32_types.specs.declared.size.Size.TheVariants as size
use Rattle.asm_instruction.specs.declared.argument.Number.{Number}
use Rattle.asm_instruction.specs.declared.argument.Memory.{Memory}
use Rattle.asm_instruction.specs.declared.argument.Given.{Given}
use Rattle.asm_instruction.specs.declared.argument.Given.TheVariants as given
use Rattle.asm_instruction.specs.declared.argument.Operands.{Operands}
use Rattle.asm_instruction.specs.declared.argument.Operands.TheVariants as operands
use Rattle.asm_instruction.specs.declared.draft.Draft.{Draft}
use Rattle.asm_instruction.specs.declared.mnemonic.Family.{Family}
use Rattle.asm_instruction.specs.declared.mnemonic.Family.TheVariants as family
use Rattle.asm_instruction.specs.declared.mnemonic.Mnemonic.{Mnemonic}
use Rattle.asm_instruction.specs.declared.arithmetic.Arithmetic.{Arithmetic}
use Rattle.asm_instruction.specs.declared.arithmetic.Arithmetic.TheVariants as arithmetic
use Rattle.asm_instruction.specs.declared.moves.Moves.TheVariants as moves
use Rattle.asm_instruction.specs.declared.control.Control.{Control}
use Rattle.asm_instruction.specs.declared.control.Control.TheVariants as control
use Rattle.asm_instruction.specs.declared.system.System.TheVariants as system
use Rattle.asm_instruction.specs.Names.{Table, found, ◌>>=◌}
use Rattle.asm_instruction.specs.Condition.{conditions}
use Rattle.asm_instruction.specs.Sizes.{agreed}
use Rattle.asm_instruction.specs.Draft.{instruction, with_number, alone, nothing}
use Rattle.asm_instruction.specs.Arithmetic.{arithmetic_names, of_one, one, arithmetic_draft}
use Rattle.asm_instruction.specs.Shift.{shift_names, shift_draft}
use Rattle.asm_instruction.specs.Moves.{move_names, extend_names, move_draft}
use Rattle.asm_instruction.specs.Stack.{stack_names, frame_names, stack_draft}
use Rattle.asm_instruction.specs.Control.{branch_names, control_names, jump_name, set_name, behind_set, conditional_name, to_symbol, is_symbol, direct, return_of, with_selector, far, set, control_draft}
use Rattle.asm_instruction.specs.Strings.{string_names, string_draft}
use Rattle.asm_instruction.specs.Flags.{plain_names, plain_draft}
use Rattle.asm_instruction.specs.System.{system_names, page_names, system_draft}
use Rattle.asm_instruction.specs.Mnemonic.{exact_names, sized_names, suffix, suffixed, with_suffix, without_suffix, known_name, by_family, repeated, drafted}
use Rattle.built_images.proofs.QuietDrafts.{IsQuiet, bound, quiet_arithmetic, quiet_instruction, quiet_moves, quiet_number, quiet_of_one, quiet_one, quiet_plain, quiet_shift, quiet_stack, quiet_string, quiet_system}

-- ---- branches

-- The statement is a direct branch to a symbol.
pub record IsBranch (os : Operands) (d : Draft) : Type 0 where
  pub name : Op
  pub condition : ℕ
  pub memory : Memory
  pub one : os ≡ operands.One (given.Memory memory)
  pub symbol : is_symbol memory ≡ true
  pub is : d ≡ to_symbol name condition memory

abbrev pub IsSound : Operands → Option Draft → Type 0
IsSound os None = Unit {0}
IsSound os (Some d) = (is_direct_branch d.insn.op ≡ false) ⊎ IsBranch os d

sound : (os : Operands) (d : Option Draft) → IsQuiet d → IsSound os d
sound os None h = tt
sound os (Some d) h = inl h

sound_bound : {A : Type 0} (os : Operands) (o : Option A) (f : A → Option Draft) → ((a : A) → IsSound os (f a)) → IsSound os (o >>= f)
sound_bound os (Some a) f h = h a
sound_bound os None f h = tt

sound_symbol : (o : Op) (c : ℕ) (t : Option Size) (m : Memory) (b : Bool) → is_symbol m ≡ b
    → IsSound (operands.One (given.Memory m)) (cond b (agreed t (Some size.Long) None >>= λ s. Some (to_symbol o c m)) None)
sound_symbol o c t m true e =
    sound_bound (operands.One (given.Memory m)) (agreed t (Some size.Long) None) (λ s. Some (to_symbol o c m))
    (λ s. inr (record { name = o; condition = c; memory = m; one = refl; symbol = e; is = refl }))
sound_symbol o c t m false e = tt

sound_direct : (o : Op) (c : ℕ) (t : Option Size) (g : Given) → IsSound (operands.One g) (direct o c t g)
unfolding direct
sound_direct o c t (given.Memory m) = sound_symbol o c t m (is_symbol m) refl
sound_direct o c t _ = tt

quiet_return : (os : Operands) → IsQuiet (return_of os)
quiet_return operands.Nothing = quiet_instruction op.Return size.Long nothing nothing refl
quiet_return (operands.One (given.Immediate n)) = quiet_number op.Return size.Long nothing nothing size.Word n refl
quiet_return (operands.One (given.Register t n)) = tt
quiet_return (operands.One (given.Segment n)) = tt
quiet_return (operands.One (given.Control n)) = tt
quiet_return (operands.One (given.Memory n)) = tt
quiet_return (operands.One given.Port) = tt
quiet_return (operands.Starred a) = tt
quiet_return (operands.Two a b) = tt
quiet_return (operands.Three a b c) = tt

quiet_returned : (t : Option Size) (os : Operands) → IsQuiet (agreed t (Some size.Long) None >>= λ s. return_of os)
quiet_returned t os = bound (agreed t (Some size.Long) None) _ (λ s. quiet_return os)

quiet_far : (a b : Number) → IsQuiet (far a b)
unfolding far with_number instruction
quiet_far a b = by_name a.named where
  by_name : (n : Bool) → IsQuiet (cond n None (Some (with_selector (with_number (alone op.FarJump) size.Long b) a)))
  by_name true = tt
  by_name false = refl

quiet_condition : (d : Option Draft) (c : ℕ) → IsQuiet d → IsQuiet (d >>= λ x. Some (record x { insn = record x.insn { sel = c } }))
quiet_condition None c h = tt
quiet_condition (Some d) c h = h

quiet_set : (c : ℕ) (g : Given) → IsQuiet (set c g)
unfolding set
quiet_set c g = quiet_condition (one op.Setcc (Some size.Byte) g) c (quiet_one op.Setcc (Some size.Byte) g refl)

sound_control : (k : Control) (t : Option Size) (os : Operands) → ((o i : Op) → k ≡ control.Branch o i → is_direct_branch i ≡ false)
    → IsSound os (control_draft k t os)
unfolding control_draft
sound_control (control.Branch o i) t (operands.One g) h = sound_direct o 0 t g
sound_control (control.Branch o i) t (operands.Starred g) h =
    sound (operands.Starred g) (of_one (Some size.Long) i t g) (quiet_of_one (Some size.Long) i t g (h o i refl))
sound_control (control.Conditional c) t (operands.One g) h = sound_direct op.Jcc c t g
sound_control (control.Set c) t (operands.One g) h = sound (operands.One g) (set c g) (quiet_set c g)
sound_control control.Interrupt t (operands.One (given.Immediate n)) h = sound (operands.One (given.Immediate n))
    (Some (with_number (alone op.Int) size.Byte n)) (quiet_number op.Int size.Long nothing nothing size.Byte n refl)
sound_control control.Return t os h = sound os (agreed t (Some size.Long) None >>= λ s. return_of os) (quiet_returned t os)
sound_control control.FarJump t (operands.Two (given.Immediate a) (given.Immediate b)) h =
    sound (operands.Two (given.Immediate a) (given.Immediate b)) (far a b) (quiet_far a b)
sound_control _ t _ h = tt

-- ---- families, and the names that have them

abbrev pub is_fine : Family → Bool
is_fine (family.Arithmetic (arithmetic.Two o)) = not (is_direct_branch o)
is_fine (family.Arithmetic (arithmetic.One o)) = not (is_direct_branch o)
is_fine (family.Shift o) = not (is_direct_branch o)
is_fine (family.Moves (moves.Extend o s)) = not (is_direct_branch o)
is_fine (family.Control (control.Branch o i)) = not (is_direct_branch i)
is_fine (family.Strings o s) = not (is_direct_branch o)
is_fine (family.Plain o) = not (is_direct_branch o)
is_fine (family.System (system.Memory o)) = not (is_direct_branch o)
is_fine _ = true

fine_arithmetic : (k : Arithmetic) → is_fine (family.Arithmetic k) ≡ true → (o : Op) → (k ≡ arithmetic.Two o) ⊎ (k ≡ arithmetic.One o)
    → is_direct_branch o ≡ false
fine_arithmetic k e o (inl is) = not-true (is_direct_branch o) (ap (λ x. is_fine (family.Arithmetic x)) (sym is) ∙ e)
fine_arithmetic k e o (inr is) = not-true (is_direct_branch o) (ap (λ x. is_fine (family.Arithmetic x)) (sym is) ∙ e)

sound_family : (f : Family) (t : Option Size) (os : Operands) → is_fine f ≡ true → IsSound os (by_family f t os)
sound_family (family.Arithmetic k) t os e = sound os (arithmetic_draft k t os) (quiet_arithmetic k t os (fine_arithmetic k e))
sound_family (family.Shift o) t os e = sound os (shift_draft o t os) (quiet_shift o t os (not-true (is_direct_branch o) e))
sound_family (family.Moves k) t os e =
    sound os (move_draft k t os)
    (quiet_moves k t os (λ o s is. not-true (is_direct_branch o) (ap (λ x. is_fine (family.Moves x)) (sym is) ∙ e)))
sound_family (family.Stack k) t os e = sound os (stack_draft k t os) (quiet_stack k t os)
sound_family (family.Control k) t os e =
    sound_control k t os (λ o i is. not-true (is_direct_branch i) (ap (λ x. is_fine (family.Control x)) (sym is) ∙ e))
sound_family (family.Strings o s) t os e =
    sound os (string_draft false o s os) (quiet_string false o s os (not-true (is_direct_branch o) e))
sound_family (family.Plain o) t os e = sound os (plain_draft o t os) (quiet_plain o t os (not-true (is_direct_branch o) e))
sound_family (family.System k) t os e = sound os (system_draft k t os)
    (quiet_system k t os (λ o is. not-true (is_direct_branch o) (ap (λ x. is_fine (family.System x)) (sym is) ∙ e)))

sound_repeated : (f : Family) (os : Operands) → is_fine f ≡ true → IsSound os (repeated f os)
sound_repeated (family.Strings o s) os e = sound os (string_draft true o s os) (quiet_string true o s os (not-true (is_direct_branch o) e))
sound_repeated (family.Arithmetic k) os e = tt
sound_repeated (family.Shift k) os e = tt
sound_repeated (family.Moves k) os e = tt
sound_repeated (family.Stack k) os e = tt
sound_repeated (family.Control k) os e = tt
sound_repeated (family.Plain k) os e = tt
sound_repeated (family.System k) os e = tt

sound_drafted : (rep : Bool) (m : Mnemonic) (os : Operands) → is_fine m.family ≡ true → IsSound os (drafted rep m os)
unfolding drafted
sound_drafted true m os e = sound_repeated m.family os e
sound_drafted false m os e = sound_family m.family m.suffix os e

-- the family of a name, if it has one, is fine
abbrev AllFine : Option Family → Type 0
AllFine None = Unit {0}
AllFine (Some f) = is_fine f ≡ true

abbrev entry_fine : List ℕ × Family → Bool
entry_fine e = is_fine e.1

found_fine : (table : Table Family) (name : List ℕ) → list_all entry_fine table ≡ true → AllFine (found table name)
found_fine [] name e = tt
found_fine (x ∷ table) name e = by_name (bytes_eq name x.0) (and_parts (is_fine x.1) (list_all entry_fine table) e).0
    (found_fine table name (and_parts (is_fine x.1) (list_all entry_fine table) e).1) where
      by_name : (b : Bool) → is_fine x.1 ≡ true → AllFine (found table name) → AllFine (cond b (Some x.1) (found table name))
      by_name true h k = h
      by_name false h k = k

or_fine : (a b : Option Family) → AllFine a → AllFine b → AllFine (option_or a b)
or_fine (Some f) b h k = h
or_fine None b h k = k

named_fine : (o : Option ℕ) (f : ℕ → Family) → ((n : ℕ) → is_fine (f n) ≡ true) → AllFine (o >>= λ n. Some (f n))
named_fine None f h = tt
named_fine (Some n) f h = h n

set_fine : (rest : List ℕ) → AllFine (behind_set rest)
set_fine [] = tt
set_fine (a ∷ []) = tt
set_fine (a ∷ b ∷ []) = tt
set_fine (a ∷ b ∷ c ∷ rest) = by_name ((a == 115) && (b == 101) && (c == 116)) where
  by_name : (x : Bool) → AllFine (cond x (set_name rest) None)
  by_name true = named_fine (found conditions rest) (λ n. family.Control (control.Set n)) (λ n. refl)
  by_name false = tt

conditional_fine : (name : List ℕ) → AllFine (conditional_name name)
unfolding conditional_name
conditional_fine [] = tt
conditional_fine (c ∷ rest) = by_name (c == 106) where
  by_name : (x : Bool) → AllFine (cond x (jump_name rest) (behind_set (c ∷ rest)))
  by_name true = named_fine (found conditions rest) (λ n. family.Control (control.Conditional n)) (λ n. refl)
  by_name false = set_fine (c ∷ rest)

exact_fine : (name : List ℕ) → AllFine (found exact_names name)
unfolding exact_names plain_names frame_names extend_names string_names page_names control_names
exact_fine name = found_fine exact_names name refl

sized_fine : (name : List ℕ) → AllFine (found sized_names name)
unfolding sized_names arithmetic_names shift_names move_names stack_names branch_names system_names
sized_fine name = found_fine sized_names name refl

abbrev MnemonicFine : Option Mnemonic → Type 0
MnemonicFine None = Unit {0}
MnemonicFine (Some m) = is_fine m.family ≡ true

suffixed_fine : (front : List ℕ) (letter : ℕ) → MnemonicFine (suffixed front letter)
unfolding suffixed
suffixed_fine front letter = by_family_of (found sized_names front) (suffix letter) (sized_fine front) where
  by_family_of : (f : Option Family) (s : Option Size) → AllFine f
      → MnemonicFine (f >>= λ x. s >>= λ y. Some (record { family = x; suffix = Some y }))
  by_family_of None s h = tt
  by_family_of (Some f) None h = tt
  by_family_of (Some f) (Some s) h = h

with_suffix_fine : (name : List ℕ) → MnemonicFine (with_suffix name)
unfolding with_suffix
with_suffix_fine name = by_length (length name == 0) where
  by_length : (b : Bool) → MnemonicFine (cond b None (suffixed (take (length name - 1) name) (slice_index name (length name - 1))))
  by_length true = tt
  by_length false = suffixed_fine (take (length name - 1) name) (slice_index name (length name - 1))

without_fine : (f : Option Family) (m : Option Mnemonic) → AllFine f → MnemonicFine m → MnemonicFine (without_suffix f m)
without_fine (Some f) m h k = h
without_fine None m h k = k

known_fine : (name : List ℕ) → MnemonicFine (known_name name)
unfolding known_name
known_fine name =
    without_fine (option_or (found exact_names name) (option_or (conditional_name name) (found sized_names name))) (with_suffix name)
    (or_fine _ _ (exact_fine name) (or_fine _ _ (conditional_fine name) (sized_fine name))) (with_suffix_fine name)

fine_is : (o : Option Mnemonic) (m : Mnemonic) → o ≡ Some m → MnemonicFine o → is_fine m.family ≡ true
fine_is None m e h = absurd cc
fine_is (Some n) m e h = let same : n ≡ m = cc in ap (λ (x : Mnemonic). is_fine x.family) (sym same) ∙ h

sound_is : (os : Operands) (o : Option Draft) (d : Draft) → o ≡ Some d → IsSound os o → (is_direct_branch d.insn.op ≡ false) ⊎ IsBranch os d
sound_is os None d e h = absurd cc
sound_is os (Some x) d e h = let same : x ≡ d = cc in subst (λ (y : Draft). (is_direct_branch y.insn.op ≡ false) ⊎ IsBranch os y) same h

-- what a name means with its operands is no direct branch, or one to a symbol
pub meant_sound : (rep : Bool) (name : List ℕ) (m : Mnemonic) (os : Operands) (d : Draft) → known_name name ≡ Some m
    → drafted rep m os ≡ Some d → (is_direct_branch d.insn.op ≡ false) ⊎ IsBranch os d
meant_sound rep name m os d known is =
    sound_is os (drafted rep m os) d is (sound_drafted rep m os (fine_is (known_name name) m known (known_fine name)))
