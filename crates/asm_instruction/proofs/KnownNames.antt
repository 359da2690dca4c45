-- The names of instructions: what is found for a name is what the tables say that it means.
use Rattle.std.proofs.Common.{◌≡◌, ℕ, ◌+◌, ◌-◌, ◌++◌, Bool, true, false, List, [], ◌∷◌, Option, Some, None, length, get_or, refl, sym, ap, subst, ◌∙◌, arith}
use Rattle.std.specs.Prelude.{codes, ◌==◌, ◌&&◌, map, take, slice_index, if◌then◌else◌}
use Rattle.std.specs.Option.{option_or}
use Rattle.std.specs.List.{Contains}
use Rattle.std.specs.Str.{bytes_eq}
use Rattle.std.proofs.lemmas.Bool.{eqb-true, and_parts}
use Rattle.std.proofs.lemmas.List.{take_more, take_all, get_or-map}
use Rattle.std.proofs.lemmas.List.Elements.{Contains-append_right}
use Rattle.std.proofs.lemmas.Slice.Eq.{bytes_eq-Decides}
use Rattle.ia32_types.specs.declared.site.Refused.{Refused}
use Rattle.ia32_types.specs.declared.size.Size.{Size}
use Rattle.ia32_types.specs.declared.size.Size.TheVariants as size
use Rattle.asm_instruction.specs.declared.control.Control.TheVariants as control
use Rattle.asm_instruction.specs.declared.mnemonic.Family.{Family}
use Rattle.asm_instruction.specs.declared.mnemonic.Family.TheVariants as family
use Rattle.asm_instruction.specs.declared.mnemonic.Mnemonic.{Mnemonic}
use Rattle.asm_instruction.specs.Names.{Table, found}
use Rattle.asm_instruction.specs.Arithmetic.{arithmetic_names}
use Rattle.asm_instruction.specs.Shift.{shift_names}
use Rattle.asm_instruction.specs.Moves.{move_names, extend_names}
use Rattle.asm_instruction.specs.Stack.{stack_names, frame_names}
use Rattle.asm_instruction.specs.Condition.{conditions}
use Rattle.asm_instruction.specs.Control.{branch_names, control_names, jump_name, set_name, behind_set, conditional_name}
use Rattle.asm_instruction.specs.Strings.{string_names}
use Rattle.asm_instruction.specs.Flags.{plain_names}
use Rattle.asm_instruction.specs.System.{system_names, page_names}
use Rattle.asm_instruction.specs.Mnemonic.{exact_names, sized_names, suffix, suffixed, with_suffix, without_suffix, known_name}
use Rattle.asm_instruction.specs.Refused.{refused_names}
use Rattle.asm_instruction.specs.Refusals.{suffixes, IsName, IsRefused}
use Rattle.asm_instruction.proofs.Goods.{When, bind_from, either, choice}

-- ---- tables

pub weaken : {A : Type 0} (P Q : A → Type 0) (o : Option A) → ((a : A) → P a → Q a) → When P o → When Q o
weaken P Q None h p = tt
weaken P Q (Some a) h p = h a p

chosen_by : {A : Type 0} (R : A → Type 0) (b : Bool) (x y : Option A) → (b ≡ true → When R x) → When R y → When R (if b then x else y)
chosen_by R true x y p q = p refl
chosen_by R false x y p q = q

abbrev pub Lists : {A : Type 0} → Table A → List ℕ → A → Type 0
Lists table name a = Contains table (name, a)

first_found : {A : Type 0} (e : List ℕ × A) (table : Table A) (name : List ℕ) → name ≡ e.0 → Lists (e ∷ table) name e.1
first_found e table name same = (0, omega arith, ap (λ (n : List ℕ). (n, e.1)) (sym same))

-- what is found stands in the table
pub found_listed : {A : Type 0} (table : Table A) (name : List ℕ) → When (Lists table name) (found table name)
found_listed [] name = tt
found_listed (e ∷ table) name =
    chosen_by (Lists (e ∷ table) name) (bytes_eq name e.0) (Some e.1) (found table name)
    (λ q. first_found e table name ((bytes_eq-Decides name e.0).0 q))
    (weaken (Lists table name) (Lists (e ∷ table) name) (found table name) (λ a c. Contains-append_right (e ∷ []) table (name, a) c)
    (found_listed table name))

-- two functions that agree over a table agree for each of its entries
agree : {A B : Type 0} (f g : A → B) (xs : List A) → map f xs ≡ map g xs → (x : A) → Contains xs x → f x ≡ g x
agree f g xs e x c =
    let at = sym (get_or-map f xs c.0 x (f x) c.1) ∙ ap (λ (ys : List _). get_or ys c.0 (f x)) e ∙ get_or-map g xs c.0 x (f x) c.1 in
    subst (λ y. f y ≡ g y) c.2 at

-- ---- what is found has the name

-- the name means an instruction of this family, without a suffix
abbrev IsBare : List ℕ → Family → Type 0
IsBare name f = IsName name (record { family = f; suffix = None })

jump_named : (name rest : List ℕ) → name ≡ 106 ∷ rest → When (IsBare name) (jump_name rest)
jump_named name rest e =
    bind_from (Lists conditions rest) (IsBare name) (found conditions rest) _ (found_listed conditions rest) (λ c h. IsName.jump rest e h)

set_named : (name rest : List ℕ) → name ≡ 115 ∷ 101 ∷ 116 ∷ rest → When (IsBare name) (set_name rest)
set_named name rest e =
    bind_from (Lists conditions rest) (IsBare name) (found conditions rest) _ (found_listed conditions rest) (λ c h. IsName.set rest e h)

begins_with_set : (s e t : ℕ) (rest : List ℕ) → ((s == 115) && (e == 101) && (t == 116)) ≡ true → s ∷ e ∷ t ∷ rest ≡ 115 ∷ 101 ∷ 116 ∷ rest
begins_with_set s e t rest h =
    let p = and_parts ((s == 115) && (e == 101)) (t == 116) h in
    let q = and_parts (s == 115) (e == 101) p.0 in
    let first = eqb-true s 115 q.0 in
    let second = eqb-true e 101 q.1 in
    let third = eqb-true t 116 p.1 in
    rw (first, second, third) refl

behind_named : (name : List ℕ) → When (IsBare name) (behind_set name)
behind_named [] = tt
behind_named (s ∷ []) = tt
behind_named (s ∷ e ∷ []) = tt
behind_named (s ∷ e ∷ t ∷ rest) =
    chosen_by (IsBare (s ∷ e ∷ t ∷ rest)) ((s == 115) && (e == 101) && (t == 116)) (set_name rest) None
    (λ h. set_named (s ∷ e ∷ t ∷ rest) rest (begins_with_set s e t rest h)) tt

conditional_named : (name : List ℕ) → When (IsBare name) (conditional_name name)
unfolding conditional_name
conditional_named [] = tt
conditional_named (c ∷ rest) =
    chosen_by (IsBare (c ∷ rest)) (c == 106) (jump_name rest) (behind_set (c ∷ rest))
    (λ h. jump_named (c ∷ rest) rest (ap (λ (n : ℕ). n ∷ rest) (eqb-true c 106 h))) (behind_named (c ∷ rest))

suffix_listed : (letter : ℕ) → When (Lists suffixes (letter ∷ [])) (suffix letter)
unfolding suffixes
suffix_listed letter =
    chosen_by (Lists suffixes (letter ∷ [])) (letter == 98) _ _
    (λ h. (0, omega arith, ap (λ (n : ℕ). (n ∷ [], size.Byte)) (sym (eqb-true letter 98 h))))
    (chosen_by (Lists suffixes (letter ∷ [])) (letter == 119) _ _
    (λ h. (1, omega arith, ap (λ (n : ℕ). (n ∷ [], size.Word)) (sym (eqb-true letter 119 h))))
    (chosen_by (Lists suffixes (letter ∷ [])) (letter == 108) _ _
    (λ h. (2, omega arith, ap (λ (n : ℕ). (n ∷ [], size.Long)) (sym (eqb-true letter 108 h)))) tt))

suffixed_named : (name front : List ℕ) (letter : ℕ) → name ≡ front ++ letter ∷ [] → When (IsName name) (suffixed front letter)
unfolding suffixed
suffixed_named name front letter e =
    bind_from (Lists sized_names front) (IsName name) (found sized_names front) _ (found_listed sized_names front)
    (λ f c. bind_from (Lists suffixes (letter ∷ [])) (IsName name) (suffix letter) _ (suffix_listed letter)
    (λ s d. IsName.suffixed front (letter ∷ []) e c d))

last_apart : (name : List ℕ) (n : ℕ) → length name ≡ n + 1 → name ≡ take n name ++ slice_index name n ∷ []
last_apart name n e = sym (take_all (n + 1) name (omega (arith, e))) ∙ take_more name n 0 (omega (arith, e))

with_suffix_named : (name : List ℕ) → When (IsName name) (with_suffix name)
unfolding with_suffix
with_suffix_named [] = tt
with_suffix_named (x ∷ rest) =
    let name : List ℕ = x ∷ rest in
    choice (IsName name) (length name == 0) None (suffixed (take (length name - 1) name) (slice_index name (length name - 1))) tt
    (suffixed_named name (take (length name - 1) name) (slice_index name (length name - 1))
    (last_apart name (length name - 1) (omega arith)))

without_named : (name : List ℕ) (o : Option Family) (p : Option Mnemonic) → When (IsBare name) o → When (IsName name) p
    → When (IsName name) (without_suffix o p)
without_named name (Some f) p h q = h
without_named name None p h q = q

known_when : (name : List ℕ) → When (IsName name) (known_name name)
unfolding known_name
known_when name =
    without_named name (option_or (found exact_names name) (option_or (conditional_name name) (found sized_names name))) (with_suffix name)
    (either (IsBare name) (found exact_names name) (option_or (conditional_name name) (found sized_names name))
    (weaken (Lists exact_names name) (IsBare name) (found exact_names name) (λ f c. IsName.exact c) (found_listed exact_names name))
    (either (IsBare name) (conditional_name name) (found sized_names name) (conditional_named name)
    (weaken (Lists sized_names name) (IsBare name) (found sized_names name) (λ f c. IsName.sized c) (found_listed sized_names name))))
    (with_suffix_named name)

pub known_named : (name : List ℕ) (m : Mnemonic) → known_name name ≡ Some m → IsName name m
known_named name m e = subst (When (IsName name)) e (known_when name)

-- ---- each name is found

abbrev of_family : Option Size → Family → Mnemonic
of_family s f = record { family = f; suffix = s }

-- each name of the table, spelled with what stands before or after it, is known by what the table has for it
abbrev AreKnown : {A : Type 0} → Table A → (List ℕ → List ℕ) → (A → Mnemonic) → Type 0
AreKnown {A} table spelled meaning =
    map (λ (e : List ℕ × A). known_name (spelled e.0)) table ≡ map (λ (e : List ℕ × A). Some (meaning e.1)) table

entry_known : {A : Type 0} (table : Table A) (spelled : List ℕ → List ℕ) (meaning : A → Mnemonic) → AreKnown table spelled meaning
    → (name : List ℕ) (a : A) → Lists table name a → known_name (spelled name) ≡ Some (meaning a)
entry_known {A} table spelled meaning known name a c =
    agree (λ (e : List ℕ × A). known_name (spelled e.0)) (λ (e : List ℕ × A). Some (meaning e.1)) table known (name, a) c

exact_known : AreKnown exact_names (λ n. n) (of_family None)
unfolding known_name conditional_name exact_names sized_names conditions with_suffix suffixed plain_names frame_names extend_names
    string_names page_names control_names arithmetic_names shift_names move_names stack_names branch_names system_names
exact_known = refl

jumps_known : AreKnown conditions (λ n. codes "j" ++ n) (λ c. of_family None (family.Control (control.Conditional c)))
unfolding known_name conditional_name exact_names sized_names conditions with_suffix suffixed plain_names frame_names extend_names
    string_names page_names control_names arithmetic_names shift_names move_names stack_names branch_names system_names
jumps_known = refl

sets_known : AreKnown conditions (λ n. codes "set" ++ n) (λ c. of_family None (family.Control (control.Set c)))
unfolding known_name conditional_name exact_names sized_names conditions with_suffix suffixed plain_names frame_names extend_names
    string_names page_names control_names arithmetic_names shift_names move_names stack_names branch_names system_names
sets_known = refl

sized_known : AreKnown sized_names (λ n. n) (of_family None)
unfolding known_name conditional_name exact_names sized_names conditions with_suffix suffixed plain_names frame_names extend_names
    string_names page_names control_names arithmetic_names shift_names move_names stack_names branch_names system_names
sized_known = refl

-- the names with a suffix, and what they mean
abbrev known_with : List ℕ × Size → List (Option Mnemonic)
known_with s = map (λ (e : List ℕ × Family). known_name (e.0 ++ s.0)) sized_names

abbrev meant_with : List ℕ × Size → List (Option Mnemonic)
meant_with s = map (λ (e : List ℕ × Family). Some (of_family (Some s.1) e.1)) sized_names

suffixed_known : map known_with suffixes ≡ map meant_with suffixes
unfolding suffixes known_name conditional_name exact_names sized_names conditions with_suffix suffixed plain_names frame_names extend_names
    string_names page_names control_names arithmetic_names shift_names move_names stack_names branch_names system_names
suffixed_known = refl

pub named_known : (name : List ℕ) (m : Mnemonic) → IsName name m → known_name name ≡ Some m
named_known name m (IsName.exact {f} c) = entry_known exact_names (λ n. n) (of_family None) exact_known name f c
named_known name m (IsName.jump {c} test e h) = ap known_name e
    ∙ entry_known conditions (λ n. codes "j" ++ n) (λ c. of_family None (family.Control (control.Conditional c))) jumps_known test c h
named_known name m (IsName.set {c} test e h) = ap known_name e
    ∙ entry_known conditions (λ n. codes "set" ++ n) (λ c. of_family None (family.Control (control.Set c))) sets_known test c h
named_known name m (IsName.sized {f} c) = entry_known sized_names (λ n. n) (of_family None) sized_known name f c
named_known name m (IsName.suffixed {f} {s} front letter e c d) = ap known_name e
    ∙ entry_known sized_names (λ n. n ++ letter) (of_family (Some s)) (agree known_with meant_with suffixes suffixed_known (letter, s) d)
    front f c

-- ---- the names that are refused

abbrev named : List ℕ × Refused → Option Refused
named e = Some e.1

abbrev no_name : List ℕ × Refused → Option Mnemonic
no_name e = None

refused_are_found : map (λ (e : List ℕ × Refused). found refused_names e.0) refused_names ≡ map named refused_names
unfolding refused_names
refused_are_found = refl

refused_are_unknown : map (λ (e : List ℕ × Refused). known_name e.0) refused_names ≡ map no_name refused_names
unfolding refused_names known_name conditional_name exact_names sized_names conditions with_suffix suffixed plain_names frame_names
    extend_names string_names page_names control_names arithmetic_names shift_names move_names stack_names branch_names system_names
refused_are_unknown = refl

pub refused_found : (name : List ℕ) (h : IsRefused name) → found refused_names name ≡ Some h.0
refused_found name h =
    agree (λ (e : List ℕ × Refused). found refused_names e.0) named refused_names refused_are_found (name, h.0) h.1

pub refused_unknown : (name : List ℕ) → IsRefused name → known_name name ≡ None
refused_unknown name h =
    agree (λ (e : List ℕ × Refused). known_name e.0) no_name refused_names refused_are_unknown (name, h.0) h.1

pub found_refused : (name : List ℕ) (r : Refused) → found refused_names name ≡ Some r → IsRefused name
found_refused name r e = (r, subst (When (Lists refused_names name)) e (found_listed refused_names name))

pub not_both : (name : List ℕ) (m : Mnemonic) → IsRefused name → IsName name m → ⊥
not_both name m h n = let none : None ≡ Some m = sym (refused_unknown name h) ∙ named_known name m n in cc
