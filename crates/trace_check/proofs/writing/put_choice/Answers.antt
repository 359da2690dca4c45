use Rattle.std.proofs.Common.{◌≡◌, ℕ, List, [], ◌∷◌, ◌++◌, ◌∙◌, rules}
use Rattle.std.specs.Int.{to_le_bytes, w32, w64}
use Rattle.std.proofs.lemmas.List.{append_assoc}
use Rattle.trace_check.specs.Form.{kind_number}
use Rattle.trace_check.proofs.writing.put_choice.Goals as goal

-- three parts, one after the other
put_three : (old one two three x y z a b c : List ℕ) → one ≡ old ++ x → two ≡ one ++ y → three ≡ two ++ z → x ≡ a → y ≡ b → z ≡ c
    → three ≡ old ++ (a ++ (b ++ c))
put_three old one two three x y z a b c first second third a_is b_is c_is =
    rw (third, second, first, a_is, b_is, c_is) (append_assoc (old ++ a) b c ∙ append_assoc old a (b ++ c))

pub returns : goal.returns
returns c =
    let choice = c.args.choice.now in
    put_three c.args.out.now.items c.extend_from_slice.new.self.items c.extend_from_slice-2.new.self.items
    c.extend_from_slice-3.new.self.items _ _ _
    (to_le_bytes w64 choice.step) (to_le_bytes w32 choice.page) (kind_number choice.kind ∷ 0 ∷ 0 ∷ 0 ∷ [])
    c.in_ok-extend_from_slice.ensures.items c.in_ok-extend_from_slice-2.ensures.items c.in_ok-extend_from_slice-3.ensures.items
    (search rules) (search rules) (search rules)
