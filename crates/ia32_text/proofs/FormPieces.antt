-- A statement's text as pieces.
use Rattle.std.proofs.Common.{◌≡◌, ℕ, ◌+◌, ◌*◌, ◌≤◌, ◌++◌, length, arith, Bool, true, false, List, [], ◌∷◌, Option, Some, None, refl, sym}
use Rattle.std.proofs.Common.{ap, ◌∙◌, append_assoc}
use Rattle.std.specs.Prelude.{ℤ, pos, negsuc, ◌==◌, codes}
use Rattle.asm_source.specs.declared.tree.Value.{Value}
use Rattle.asm_source.specs.declared.tree.Form.{Form}
use Rattle.asm_source.specs.declared.tree.Form.TheVariants as form
use Rattle.asm_source.specs.declared.tree.Argument.{Argument}
use Rattle.ia32_text.specs.Numbers.{short8, number_text}
use Rattle.ia32_text.specs.Statement.{Statement}
use Rattle.ia32_text.specs.Text.{constant_text, named_text, value_text, scale_text, place_text, form_text, argument_text, more_text}
use Rattle.ia32_text.specs.Text.{arguments_text, text_of}
use Rattle.ia32_text.proofs.Pieces.{Piece, put}

-- ---- the pieces, each with those after it

abbrev pub numeral : ℕ → List ℕ
numeral n = codes "0x" ++ short8 n

abbrev pub number_pieces : ℤ → List Piece → List Piece
number_pieces (pos n) k = Piece.number (numeral n) ∷ k
number_pieces (negsuc n) k = Piece.mark 45 ∷ Piece.number (numeral (n + 1)) ∷ k

-- nothing for 0
abbrev pub added_pieces : Bool → ℕ → List Piece → List Piece
added_pieces true n k = k
added_pieces false n k = Piece.mark 43 ∷ Piece.number (numeral n) ∷ k

abbrev pub constant_pieces : ℤ → List Piece → List Piece
constant_pieces (pos n) k = added_pieces (n == 0) n k
constant_pieces (negsuc n) k = Piece.mark 45 ∷ Piece.number (numeral (n + 1)) ∷ k

abbrev pub named_pieces : Option (List ℕ) → ℤ → List Piece → List Piece
named_pieces None z k = number_pieces z k
named_pieces (Some n) z k = Piece.name n ∷ constant_pieces z k

abbrev pub value_pieces : Value → List Piece → List Piece
value_pieces v k = named_pieces v.name v.number k

abbrev pub displacement_pieces : Option Value → List Piece → List Piece
displacement_pieces None k = k
displacement_pieces (Some v) k = value_pieces v k

abbrev pub register_pieces : List ℕ → List Piece → List Piece
register_pieces r k = Piece.mark 37 ∷ Piece.name r ∷ k

-- after a comma the index, the scale and the end of the parentheses
abbrev pub index_pieces : List ℕ → ℕ → List Piece → List Piece
index_pieces i s k = Piece.mark 44 ∷ register_pieces i (Piece.mark 44 ∷ Piece.number (scale_text s) ∷ Piece.mark 41 ∷ k)

abbrev pub place_pieces : Option (List ℕ) → Option (List ℕ) → ℕ → List Piece → List Piece
place_pieces None None s k = k
place_pieces (Some b) None s k = Piece.mark 40 ∷ register_pieces b (Piece.mark 41 ∷ k)
place_pieces None (Some i) s k = Piece.mark 40 ∷ index_pieces i s k
place_pieces (Some b) (Some i) s k = Piece.mark 40 ∷ register_pieces b (index_pieces i s k)

abbrev pub form_pieces : Form → List Piece → List Piece
form_pieces form.Absent k = k
form_pieces (form.Register r) k = register_pieces r k
form_pieces (form.Immediate v) k = Piece.mark 36 ∷ value_pieces v k
form_pieces (form.Memory v b i s) k = displacement_pieces v (place_pieces b i s k)
form_pieces (form.Text t) k = k

abbrev pub star_pieces : Bool → List Piece → List Piece
star_pieces true k = Piece.mark 42 ∷ k
star_pieces false k = k

abbrev pub argument_pieces : Argument → List Piece → List Piece
argument_pieces a k = star_pieces a.star (form_pieces a.form k)

abbrev pub more_pieces : List Argument → List Piece
more_pieces [] = []
more_pieces (a ∷ arguments) = Piece.mark 44 ∷ argument_pieces a (more_pieces arguments)

abbrev pub arguments_pieces : List Argument → List Piece
arguments_pieces [] = []
arguments_pieces (a ∷ arguments) = Piece.blank ∷ argument_pieces a (more_pieces arguments)

abbrev pub rep_pieces : Bool → List Piece → List Piece
rep_pieces true k = Piece.name (codes "rep") ∷ Piece.blank ∷ k
rep_pieces false k = k

abbrev pub statement_pieces : Statement → List Piece
statement_pieces s = rep_pieces s.rep (Piece.name s.name ∷ arguments_pieces s.arguments)

-- ---- what they are as text

number_put : (z : ℤ) (k : List Piece) (rest : List ℕ) → put (number_pieces z k) rest ≡ number_text z ++ put k rest
unfolding number_text
number_put (pos n) k rest = refl
number_put (negsuc n) k rest = refl

added_put : (b : Bool) (n : ℕ) (k : List Piece) (rest : List ℕ) → (n == 0) ≡ b
    → put (added_pieces b n k) rest ≡ constant_text (pos n) ++ put k rest
unfolding number_text
added_put true n k rest e = rw e refl
added_put false n k rest e = rw e refl

constant_put : (z : ℤ) (k : List Piece) (rest : List ℕ) → put (constant_pieces z k) rest ≡ constant_text z ++ put k rest
unfolding number_text
constant_put (pos n) k rest = added_put (n == 0) n k rest refl
constant_put (negsuc n) k rest = refl

named_put : (o : Option (List ℕ)) (z : ℤ) (k : List Piece) (rest : List ℕ) → put (named_pieces o z k) rest ≡ named_text o z ++ put k rest
named_put None z k rest = number_put z k rest
named_put (Some n) z k rest = ap (λ t. n ++ t) (constant_put z k rest) ∙ sym (append_assoc n (constant_text z) (put k rest))

value_put : (v : Value) (k : List Piece) (rest : List ℕ) → put (value_pieces v k) rest ≡ value_text v ++ put k rest
value_put v k rest = named_put v.name v.number k rest

index_put : (front scale rest : List ℕ) → front ++ (44 ∷ (scale ++ (41 ∷ rest))) ≡ (((front ++ (44 ∷ [])) ++ scale) ++ (41 ∷ [])) ++ rest
index_put front scale rest =
    sym (append_assoc front (44 ∷ []) (scale ++ (41 ∷ rest))) ∙ sym (append_assoc (front ++ (44 ∷ [])) scale (41 ∷ rest))
    ∙ sym (append_assoc ((front ++ (44 ∷ [])) ++ scale) (41 ∷ []) rest)

both_put : (b i scale rest : List ℕ)
    → b ++ (44 ∷ 37 ∷ (i ++ (44 ∷ (scale ++ (41 ∷ rest)))))
    ≡ (((((b ++ (44 ∷ [])) ++ (37 ∷ i)) ++ (44 ∷ [])) ++ scale) ++ (41 ∷ [])) ++ rest
both_put b i scale rest =
    let behind = 44 ∷ (scale ++ (41 ∷ rest)) in
    sym (append_assoc b (44 ∷ []) (37 ∷ (i ++ behind))) ∙ sym (append_assoc (b ++ (44 ∷ [])) (37 ∷ i) behind)
    ∙ index_put ((b ++ (44 ∷ [])) ++ (37 ∷ i)) scale rest

place_put : (b i : Option (List ℕ)) (s : ℕ) (k : List Piece) (rest : List ℕ)
    → put (place_pieces b i s k) rest ≡ place_text b i s ++ put k rest
place_put None None s k rest = refl
place_put (Some b) None s k rest = ap (λ t. 40 ∷ 37 ∷ t) (sym (append_assoc b (41 ∷ []) (put k rest)))
place_put None (Some i) s k rest = ap (λ t. 40 ∷ 44 ∷ 37 ∷ t) (index_put i (scale_text s) (put k rest))
place_put (Some b) (Some i) s k rest = ap (λ t. 40 ∷ 37 ∷ t) (both_put b i (scale_text s) (put k rest))

form_put : (f : Form) (k : List Piece) (rest : List ℕ) → put (form_pieces f k) rest ≡ form_text f ++ put k rest
unfolding form_text
form_put form.Absent k rest = refl
form_put (form.Register r) k rest = refl
form_put (form.Immediate v) k rest = ap (λ t. 36 ∷ t) (value_put v k rest)
form_put (form.Memory None b i s) k rest = place_put b i s k rest
form_put (form.Memory (Some v) b i s) k rest =
    value_put v (place_pieces b i s k) rest ∙ ap (λ t. value_text v ++ t) (place_put b i s k rest)
    ∙ sym (append_assoc (value_text v) (place_text b i s) (put k rest))
form_put (form.Text t) k rest = refl

starred_put : (star : Bool) (f : Form) (k : List Piece) (rest : List ℕ)
    → put (argument_pieces (record { star = star; form = f }) k) rest ≡ argument_text (record { star = star; form = f }) ++ put k rest
starred_put true f k rest = ap (λ t. 42 ∷ t) (form_put f k rest)
starred_put false f k rest = form_put f k rest

argument_put : (a : Argument) (k : List Piece) (rest : List ℕ) → put (argument_pieces a k) rest ≡ argument_text a ++ put k rest
argument_put a k rest = starred_put a.star a.form k rest

more_put : (arguments : List Argument) (rest : List ℕ) → put (more_pieces arguments) rest ≡ more_text arguments ++ rest
more_put [] rest = refl
more_put (a ∷ arguments) rest =
    ap (λ t. 44 ∷ t)
    (argument_put a (more_pieces arguments) rest ∙ ap (λ t. argument_text a ++ t) (more_put arguments rest)
    ∙ sym (append_assoc (argument_text a) (more_text arguments) rest))

arguments_put : (arguments : List Argument) (rest : List ℕ) → put (arguments_pieces arguments) rest ≡ arguments_text arguments ++ rest
arguments_put [] rest = refl
arguments_put (a ∷ arguments) rest =
    ap (λ t. 32 ∷ t)
    (argument_put a (more_pieces arguments) rest ∙ ap (λ t. argument_text a ++ t) (more_put arguments rest)
    ∙ sym (append_assoc (argument_text a) (more_text arguments) rest))

repeated_put : (rep : Bool) (name : List ℕ) (arguments : List Argument) (rest : List ℕ)
    → put (statement_pieces (record { rep = rep; name = name; arguments = arguments })) rest
    ≡ text_of (record { rep = rep; name = name; arguments = arguments }) ++ rest
unfolding text_of
repeated_put true name arguments rest =
    ap (λ t. codes "rep " ++ t)
    (ap (λ t. name ++ t) (arguments_put arguments rest) ∙ sym (append_assoc name (arguments_text arguments) rest))
repeated_put false name arguments rest =
    ap (λ t. name ++ t) (arguments_put arguments rest) ∙ sym (append_assoc name (arguments_text arguments) rest)

-- The pieces of a statement are its text.
pub statement_put : (s : Statement) (rest : List ℕ) → put (statement_pieces s) rest ≡ text_of s ++ rest
statement_put s rest = repeated_put s.rep s.name s.arguments rest

-- ---- how many they are

number_count : (z : ℤ) (k : List Piece) → length (number_pieces z k) ≤ length k + 2
number_count (pos n) k = omega arith
number_count (negsuc n) k = omega arith

added_count : (b : Bool) (n : ℕ) (k : List Piece) → length (added_pieces b n k) ≤ length k + 2
added_count true n k = omega arith
added_count false n k = omega arith

constant_count : (z : ℤ) (k : List Piece) → length (constant_pieces z k) ≤ length k + 2
constant_count (pos n) k = added_count (n == 0) n k
constant_count (negsuc n) k = omega arith

named_count : (o : Option (List ℕ)) (z : ℤ) (k : List Piece) → length (named_pieces o z k) ≤ length k + 3
named_count None z k = let few = number_count z k in omega (arith, few)
named_count (Some n) z k = let few = constant_count z k in omega (arith, few)

place_count : (b i : Option (List ℕ)) (s : ℕ) (k : List Piece) → length (place_pieces b i s k) ≤ length k + 9
place_count None None s k = omega arith
place_count (Some b) None s k = omega arith
place_count None (Some i) s k = omega arith
place_count (Some b) (Some i) s k = omega arith

form_count : (f : Form) (k : List Piece) → length (form_pieces f k) ≤ length k + 12
form_count form.Absent k = omega arith
form_count (form.Register r) k = omega arith
form_count (form.Immediate v) k = let few = named_count v.name v.number k in omega (arith, few)
form_count (form.Memory None b i s) k = let few = place_count b i s k in omega (arith, few)
form_count (form.Memory (Some v) b i s) k =
    let few = place_count b i s k in
    let more = named_count v.name v.number (place_pieces b i s k) in
    omega (arith, few, more)
form_count (form.Text t) k = omega arith

star_count : (star : Bool) (k : List Piece) → length (star_pieces star k) ≤ length k + 1
star_count true k = omega arith
star_count false k = omega arith

argument_count : (a : Argument) (k : List Piece) → length (argument_pieces a k) ≤ length k + 13
argument_count a k =
    let few = form_count a.form k in
    let more = star_count a.star (form_pieces a.form k) in
    omega (arith, few, more)

more_count : (arguments : List Argument) → length (more_pieces arguments) ≤ 14 * length arguments
more_count [] = omega arith
more_count (a ∷ arguments) =
    let few = more_count arguments in
    let more = argument_count a (more_pieces arguments) in
    omega (arith, few, more)

arguments_count : (arguments : List Argument) → length (arguments_pieces arguments) ≤ 14 * length arguments
arguments_count [] = omega arith
arguments_count (a ∷ arguments) =
    let few = more_count arguments in
    let more = argument_count a (more_pieces arguments) in
    omega (arith, few, more)

rep_count : (rep : Bool) (k : List Piece) → length (rep_pieces rep k) ≤ length k + 2
rep_count true k = omega arith
rep_count false k = omega arith

pub statement_count : (s : Statement) → length (statement_pieces s) ≤ 14 * length s.arguments + 3
statement_count s =
    let few = arguments_count s.arguments in
    let more = rep_count s.rep (Piece.name s.name ∷ arguments_pieces s.arguments) in
    omega (arith, few, more)
