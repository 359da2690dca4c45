use Rattle.std.proofs.Common.{◌≡◌, ◌++◌, ◌<◌, ◌∙◌, ℕ, ◌+◌, ◌-◌, List, append_assoc, arith, ap, refl, sym}
use Rattle.std.specs.Prelude.{Bool, true, false, codes, negsuc, pos, nat_lt, if◌then◌else◌}
use borrow.Author.Tests.{ltb-false}
use Rattle.ia32_types.specs.declared.addresses.TheConstants.{TEXT_ADDRESS}
use Rattle.ia32_text.specs.Numbers.{number_text, short8}
use Rattle.ia32_text.specs.Text.{constant_text}
use Rattle.ia32_text.proofs.numbers.distance.Goals as goal

below : (b : Bool) (a n : ℕ) → nat_lt n a ≡ b → n < a → constant_text (if b then negsuc (a - 1 - n) else pos (n - a)) ≡ codes
    "-0x" ++ short8 (a - n)
unfolding number_text
below true a n e lt =
    let same : a - 1 - n + 1 ≡ a - n = omega arith in
    ap (λ (k : ℕ). codes "-0x" ++ short8 k) same
below false a n e lt = absurd (omega (arith, ltb-false n a e))

pub returns-then-n-lt-TEXT_ADDRESS-clause-text : goal.returns-then-n-lt-TEXT_ADDRESS-clause-text
unfolding number_text
returns-then-n-lt-TEXT_ADDRESS-clause-text c =
    let is = below (nat_lt c.args.n TEXT_ADDRESS) TEXT_ADDRESS c.args.n refl c.if-n-lt-TEXT_ADDRESS.true in
    c.plain.ensures.text ∙ (ap (λ (front : List ℕ). front ++ (codes "0x" ++ short8 (TEXT_ADDRESS - c.args.n))) c.add.ensures
    ∙ (append_assoc c.args.line.now.items (codes "-") (codes "0x" ++ short8 (TEXT_ADDRESS - c.args.n))
    ∙ ap (λ (text : List ℕ). c.args.line.now.items ++ text) (sym is)))
