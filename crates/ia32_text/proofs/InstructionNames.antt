-- The name of each instruction is one that stands for an instruction in a source.
use Rattle.std.proofs.Common.{◌≡◌, ℕ, ◌≤◌, length, length-append, arith, ◌++◌, Bool, true, false, List, [], ◌∷◌, refl}
use Rattle.std.specs.Prelude.{nat_le, ◌==◌, ◌&&◌, not, if◌then◌else◌}
use Rattle.std.specs.List.{list_all}
use Rattle.std.proofs.lemmas.Bool.{and_parts, and_from, not-true, le-leb, leb-true}
use Rattle.ia32_types.specs.declared.insn.Insn.{Insn}
use Rattle.ia32_types.specs.declared.insn.Op.{Op}
use Rattle.ia32_types.specs.declared.insn.Op.TheVariants as op
use Rattle.ia32_types.specs.declared.size.Size.{Size}
use Rattle.ia32_types.specs.declared.size.Size.TheVariants as size
use Rattle.asm_lex.specs.Bytes.{class_of, is_letter, is_word}
use Rattle.asm_statement.specs.Items.{is_rep}
use Rattle.asm_statement.specs.Directives.{is_dotted}
use Rattle.ia32_text.specs.declared.kinds.Ending.{Ending}
use Rattle.ia32_text.specs.declared.kinds.Ending.TheVariants as ends
use Rattle.ia32_text.specs.Kinds.{ending_of}
use Rattle.ia32_text.specs.Names.{stem, condition_name}
use Rattle.ia32_text.specs.Statement.{letter, end_of, name_of}
use Rattle.ia32_text.proofs.Pieces.{is_short, is_name}
use Rattle.ia32_text.proofs.StatementWords.{IsInstructionName}

-- a name that goes on with this ending is none of a directive and not `rep`
abbrev is_other : List ℕ → List ℕ → Bool
is_other front ending = not (is_dotted (front ++ ending)) && not (is_rep (front ++ ending))

-- no ending makes it too long
abbrev is_brief : List ℕ → Bool
is_brief front = nat_le (length front) 8

stem_named : (o : Op) (ending : List ℕ) → (is_name (stem o) && is_brief (stem o) && is_other (stem o) ending) ≡ true
unfolding stem is_rep class_of is_word is_letter
stem_named op.Add ending = refl
stem_named op.Or ending = refl
stem_named op.Adc ending = refl
stem_named op.Sbb ending = refl
stem_named op.And ending = refl
stem_named op.Sub ending = refl
stem_named op.Xor ending = refl
stem_named op.Cmp ending = refl
stem_named op.Test ending = refl
stem_named op.Not ending = refl
stem_named op.Neg ending = refl
stem_named op.Mul ending = refl
stem_named op.Imul ending = refl
stem_named op.ImulBy ending = refl
stem_named op.Div ending = refl
stem_named op.Idiv ending = refl
stem_named op.Inc ending = refl
stem_named op.Dec ending = refl
stem_named op.Rol ending = refl
stem_named op.Ror ending = refl
stem_named op.Shl ending = refl
stem_named op.Shr ending = refl
stem_named op.Sar ending = refl
stem_named op.Mov ending = refl
stem_named op.Movzx ending = refl
stem_named op.Movsx ending = refl
stem_named op.Lea ending = refl
stem_named op.Xchg ending = refl
stem_named op.Push ending = refl
stem_named op.Pop ending = refl
stem_named op.Pusha ending = refl
stem_named op.Popa ending = refl
stem_named op.Cwde ending = refl
stem_named op.Cdq ending = refl
stem_named op.Leave ending = refl
stem_named op.Nop ending = refl
stem_named op.Jcc ending = refl
stem_named op.Setcc ending = refl
stem_named op.Jmp ending = refl
stem_named op.Call ending = refl
stem_named op.Int ending = refl
stem_named op.Int3 ending = refl
stem_named op.Ud2 ending = refl
stem_named op.Movs ending = refl
stem_named op.Stos ending = refl
stem_named op.Lods ending = refl
stem_named op.Clc ending = refl
stem_named op.Stc ending = refl
stem_named op.Cld ending = refl
stem_named op.Std ending = refl
stem_named op.Cli ending = refl
stem_named op.Sti ending = refl
stem_named op.Hlt ending = refl
stem_named op.PushFlags ending = refl
stem_named op.PopFlags ending = refl
stem_named op.Iret ending = refl
stem_named op.ReadControl ending = refl
stem_named op.WriteControl ending = refl
stem_named op.LoadGdt ending = refl
stem_named op.LoadIdt ending = refl
stem_named op.LoadTask ending = refl
stem_named op.DropPage ending = refl
stem_named op.ReadSeg ending = refl
stem_named op.LoadSeg ending = refl
stem_named op.PushSeg ending = refl
stem_named op.PopSeg ending = refl
stem_named op.FarJump ending = refl
stem_named op.PortIn ending = refl
stem_named op.PortOut ending = refl
stem_named op.Return ending = refl
stem_named op.JumpTo ending = refl
stem_named op.CallTo ending = refl

-- ---- the endings

condition_by : (b : Bool) (x y : List ℕ) → list_all is_word x ≡ true → list_all is_word y ≡ true
    → list_all is_word (if b then x else y) ≡ true
condition_by true x y p q = p
condition_by false x y p q = q

condition_words : (n : ℕ) → list_all is_word (condition_name n) ≡ true
unfolding condition_name is_word is_letter
condition_words n =
    condition_by (n == 0) _ _ refl (condition_by (n == 1) _ _ refl (condition_by (n == 2) _ _ refl (condition_by (n == 3) _ _ refl
    (condition_by (n == 4) _ _ refl (condition_by (n == 5) _ _ refl (condition_by (n == 6) _ _ refl (condition_by (n == 7) _ _ refl
    (condition_by (n == 8) _ _ refl (condition_by (n == 9) _ _ refl (condition_by (n == 10) _ _ refl (condition_by (n == 11) _ _ refl
    (condition_by (n == 12) _ _ refl (condition_by (n == 13) _ _ refl (condition_by (n == 14) _ _ refl refl))))))))))))))

letter_words : (s : Size) → list_all is_word (letter s) ≡ true
unfolding is_word is_letter
letter_words size.Byte = refl
letter_words size.Word = refl
letter_words size.Long = refl

words_append : (xs ys : List ℕ) → list_all is_word xs ≡ true → list_all is_word ys ≡ true → list_all is_word (xs ++ ys) ≡ true
words_append [] ys p q = q
words_append (x ∷ xs) ys p q =
    let both = and_parts (is_word x) (list_all is_word xs) p in
    and_from (is_word x) (list_all is_word (xs ++ ys)) both.0 (words_append xs ys both.1 q)

one_l : list_all is_word (108 ∷ []) ≡ true
unfolding is_word is_letter
one_l = refl

ending_words : (e : Ending) (i : Insn) → list_all is_word (end_of e i) ≡ true
ending_words ends.Nothing i = refl
ending_words ends.Sized i = letter_words i.size
ending_words ends.Widened i = words_append (letter i.size) (108 ∷ []) (letter_words i.size) one_l
ending_words ends.Condition i = condition_words i.sel

few_by : (b : Bool) (x y : List ℕ) → length x ≤ 2 → length y ≤ 2 → length (if b then x else y) ≤ 2
few_by true x y p q = p
few_by false x y p q = q

condition_few : (n : ℕ) → length (condition_name n) ≤ 2
unfolding condition_name
condition_few n =
    few_by (n == 0) _ _ (omega arith)
    (few_by (n == 1) _ _ (omega arith)
    (few_by (n == 2) _ _ (omega arith) (few_by (n == 3) _ _ (omega arith) (few_by (n == 4) _ _ (omega arith)
    (few_by (n == 5) _ _ (omega arith)
    (few_by (n == 6) _ _ (omega arith)
    (few_by (n == 7) _ _ (omega arith) (few_by (n == 8) _ _ (omega arith) (few_by (n == 9) _ _ (omega arith)
    (few_by (n == 10) _ _ (omega arith)
    (few_by (n == 11) _ _ (omega arith)
    (few_by (n == 12) _ _ (omega arith) (few_by (n == 13) _ _ (omega arith) (few_by (n == 14) _ _ (omega arith) (omega arith)))))))))))))))

letter_then : (rest : List ℕ) (s : Size) → length rest ≤ 1 → length (letter s ++ rest) ≤ 2
letter_then rest size.Byte l = omega (arith, l)
letter_then rest size.Word l = omega (arith, l)
letter_then rest size.Long l = omega (arith, l)

letter_few : (s : Size) → length (letter s) ≤ 2
letter_few size.Byte = omega arith
letter_few size.Word = omega arith
letter_few size.Long = omega arith

ending_few : (e : Ending) (i : Insn) → length (end_of e i) ≤ 2
ending_few ends.Nothing i = omega arith
ending_few ends.Sized i = letter_few i.size
ending_few ends.Widened i = letter_then (108 ∷ []) i.size (omega arith)
ending_few ends.Condition i = condition_few i.sel

-- ---- the names

short_append : (xs ys : List ℕ) → is_brief xs ≡ true → length ys ≤ 2 → is_short (xs ++ ys) ≡ true
short_append xs ys b l =
    le-leb (length (xs ++ ys)) 16 (let e = length-append xs ys in let few = leb-true (length xs) 8 b in omega (arith, e, few, l))

name_append : (xs ys : List ℕ) → is_name xs ≡ true → is_brief xs ≡ true → list_all is_word ys ≡ true → length ys ≤ 2
    → is_name (xs ++ ys) ≡ true
name_append [] ys p b q l = absurd cc
name_append (x ∷ xs) ys p b q l =
    let both = and_parts _ (list_all is_word (x ∷ xs) && is_short (x ∷ xs)) p in
    let w = (and_parts (list_all is_word (x ∷ xs)) (is_short (x ∷ xs)) both.1).0 in
    and_from _ (list_all is_word (x ∷ xs ++ ys) && is_short (x ∷ xs ++ ys)) both.0
    (and_from (list_all is_word (x ∷ xs ++ ys)) (is_short (x ∷ xs ++ ys)) (words_append (x ∷ xs) ys w q) (short_append (x ∷ xs) ys b l))

named_by : (front ending : List ℕ) → (is_name front && is_brief front && is_other front ending) ≡ true → list_all is_word ending ≡ true
    → length ending ≤ 2 → IsInstructionName (front ++ ending)
named_by front ending e w l =
    let both = and_parts (is_name front && is_brief front) (is_other front ending) e in
    let fronts = and_parts (is_name front) (is_brief front) both.0 in
    let others = and_parts (not (is_dotted (front ++ ending))) (not (is_rep (front ++ ending))) both.1 in
    record {
      text = name_append front ending fronts.0 fronts.1 w l;
      undotted = not-true (is_dotted (front ++ ending)) others.0;
      no_rep = not-true (is_rep (front ++ ending)) others.1;
    }

pub instruction_named : (i : Insn) → IsInstructionName (name_of i)
unfolding name_of
instruction_named i =
    named_by (stem i.op) (end_of (ending_of i.op) i) (stem_named i.op (end_of (ending_of i.op) i))
    (ending_words (ending_of i.op) i) (ending_few (ending_of i.op) i)
