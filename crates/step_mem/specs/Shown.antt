-- What a step reaches as memory, over RAM whose text may be another than the original.
use Rattle.std.specs.Prelude.{◌≡◌, ℕ, ◌*◌, ◌/◌, ◌++◌, false, List, Option, Some, None, take, drop}
use Rattle.guest_ram.specs.Bytes.{part, with_part}
use Rattle.paging.specs.declared.entry.Walk.{Walk}
use Rattle.paging.specs.declared.entry.Walk.TheVariants.{Absent, Beyond, Reserved, Found}
use Rattle.paging.specs.Space.{Mode}
use Rattle.paging.specs.Uses.{is_text}
use Rattle.step_mem.specs.declared.guard.Text.{Text}
use Rattle.step_mem.specs.declared.guard.Guard.{Guard}

-- the guest's bytes, with the original text from the first byte of its first frame on
unfoldable pub laid : List ℕ → ℕ → ℕ → List ℕ → List ℕ
laid bytes text frames ram = with_part (take (4096 * frames) ram) (4096 * text) bytes

-- RAM itself where no text is kept
abbrev pub shown_by : Option Text → ℕ → List ℕ → List ℕ
shown_by None frames ram = ram
shown_by (Some text) frames ram = laid text.bytes.now text.first frames ram

abbrev pub shown : Guard → ℕ → List ℕ → List ℕ
shown guard frames ram = shown_by guard.text.now frames ram

-- What a step doesn't reach: the frames that hold the text, as RAM has them, and what stands after the guest's frames.
unfoldable pub beyond : ℕ → ℕ → ℕ → List ℕ → List ℕ
beyond first count frames ram = part ram (4096 * first) (4096 * count) ++ drop (4096 * frames) ram

abbrev pub hidden_by : Option Text → ℕ → List ℕ → List ℕ
hidden_by None frames ram = drop (4096 * frames) ram
hidden_by (Some text) frames ram = beyond text.first text.count frames ram

abbrev pub hidden : Guard → ℕ → List ℕ → List ℕ
hidden guard frames ram = hidden_by guard.text.now frames ram

-- the two words that a walk found lie in frames that hold no text
abbrev pub IsFoundApart : Mode → Walk → Type 0
IsFoundApart mode Absent = Unit {0}
IsFoundApart mode Beyond = Unit {0}
IsFoundApart mode Reserved = Unit {0}
IsFoundApart mode (Found entry dir_at word_at) = (is_text mode (dir_at / 4096) ≡ false) × (is_text mode (word_at / 4096) ≡ false)
