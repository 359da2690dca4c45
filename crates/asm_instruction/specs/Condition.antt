-- The conditions and their numbers (SDM volume 2, appendix B.1.4.7).
use Rattle.std.specs.Prelude.{codes, ℕ, [], ◌∷◌}
use Rattle.asm_instruction.specs.Names.{Table}

unfoldable pub conditions : Table ℕ
conditions =
    (codes "o", 0) ∷ (codes "no", 1) ∷ (codes "b", 2) ∷ (codes "c", 2) ∷ (codes "nae", 2) ∷ (codes "ae", 3) ∷ (
      codes "nb",
      3,
    ) ∷ (codes "nc", 3) ∷
    (codes "e", 4) ∷ (codes "z", 4) ∷ (codes "ne", 5) ∷ (codes "nz", 5) ∷ (codes "be", 6) ∷ (codes "na", 6) ∷ (
      codes "a",
      7,
    ) ∷ (codes "nbe", 7) ∷
    (codes "s", 8) ∷ (codes "ns", 9) ∷ (codes "p", 10) ∷ (codes "pe", 10) ∷ (codes "np", 11) ∷ (codes "po", 11) ∷ (
      codes "l",
      12,
    ) ∷ (codes "nge", 12) ∷
    (codes "ge", 13) ∷ (codes "nl", 13) ∷ (codes "le", 14) ∷ (codes "ng", 14) ∷ (codes "g", 15) ∷ (codes "nle", 15) ∷ []
