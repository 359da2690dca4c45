-- The bytes of a string, one byte more.
use Rattle.std.proofs.Common.{◌≡◌, ℕ, suc, ◌+◌, ◌<◌, ◌≤◌, List, ◌∷◌, ◌++◌, length, drop, get_or, sym, ap, ◌∙◌, arith, drop-cons, append_assoc}
use Rattle.std.specs.Option.{option_to_list}
use Rattle.std.proofs.lemmas.List.{nil_from_length, length-drop, append-nil}
use Rattle.asm_argument.specs.declared.escapes.Escape.{Escape}
use Rattle.asm_argument.specs.declared.escapes.Unescaped.{Unescaped}
use Rattle.asm_argument.specs.Escapes.{escape_step, string_text}

pub string_more : (e : Escape) (text : List ℕ) (i : ℕ) (out now all : List ℕ) (g : Unescaped) → i < length text
    → g ≡ escape_step e (get_or text i 0)
    → now ≡ out ++ (option_to_list g.first ++ option_to_list g.second) → out ++ string_text e (drop i text) ≡ all → now
    ++ string_text g.next (drop (i + 1) text) ≡ all
string_more e text i out now all g lt is pushed before =
    let next : suc i ≡ i + 1 = omega arith in
    let one : string_text e (drop i text)
    ≡ (option_to_list (escape_step e (get_or text i 0)).first ++ option_to_list (escape_step e (get_or text i 0)).second)
    ++ string_text (escape_step e (get_or text i 0)).next (drop (i + 1) text) =
    ap (string_text e) (drop-cons text i 0 lt ∙ ap (λ (n : ℕ). get_or text i 0 ∷ drop n text) next) in
    rw (pushed, is) (append_assoc out _ _ ∙ ap (λ (x : List ℕ). out ++ x) (sym one) ∙ before)

pub string_whole : (e : Escape) (text : List ℕ) (i : ℕ) (out all : List ℕ) → length text ≤ i → out
    ++ string_text e (drop i text) ≡ all → out ≡ all
string_whole e text i out all le before =
    sym (append-nil out) ∙ ap (λ (x : List ℕ). out ++ string_text e x)
    (sym (nil_from_length (drop i text) (omega (arith, length-drop i text)))) ∙ before
