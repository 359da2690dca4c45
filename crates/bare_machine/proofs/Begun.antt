-- The state in which a run begins.
use Rattle.std.proofs.Common.{◌≡◌, ℕ, List, sym, ap, ◌∙◌}
use Rattle.std.specs.FinMap.{get, empty, get-empty}
use Rattle.std.specs.Ordering.{nat_cmp}
use Rattle.std.proofs.lemmas.Option.{none-some}
use Rattle.descriptors.specs.declared.cpu.Cpu.{Cpu}
use Rattle.board.specs.declared.devices.Board.{Board}
use Rattle.step_mem.specs.Changes.{AreWithin}
use Rattle.machine_model.specs.State.{State}
use Rattle.machine_model.specs.Run.{Set}

abbrev begun : Cpu → List ℕ → Set → Board → State
begun cpu ram set board = record { cpu = cpu; ram = ram; set = set; board = board; step = 0 }

pub state_is : (cpu cpu2 : Cpu) (ram ram2 : List ℕ) (set set2 : Set) (board board2 : Board) → cpu ≡ cpu2 → ram ≡ ram2 → set ≡ set2
    → board ≡ board2 → begun cpu ram set board ≡ begun cpu2 ram2 set2 board2
state_is cpu cpu2 ram ram2 set set2 board board2 p q r t = λ i. record { cpu = p i; ram = q i; set = r i; board = t i; step = 0 }

pub none_within : (frames : ℕ) (set : Set) → set ≡ empty → AreWithin frames set
none_within frames set is =
    λ page e found. absurd (none-some e (sym (get-empty nat_cmp page) ∙ (ap (λ (m : Set). get m page) (sym is) ∙ found)))
