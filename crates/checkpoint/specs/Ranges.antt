-- Numbers of a checkpoint's head that have the sizes of their fields.
use Rattle.std.specs.Prelude.{◌≡◌, ℕ, ◌^◌, ◌<◌, List, [], ◌∷◌, length, slice_index, slice_index_or}
use Rattle.checkpoint.specs.declared.head.Head.{Head}
use Rattle.checkpoint.specs.declared.head.Segment.{Segment}

-- each of them is below a limit
abbrev pub AreBelow : ℕ → List ℕ → Type 0
AreBelow limit numbers = (k : ℕ) → slice_index numbers k < limit

abbrev pub no_segment : Segment
no_segment = record { selector = 0; null = 0; level = 0 }

abbrev pub AreSelectors : List Segment → Type 0
AreSelectors segments = (k : ℕ) → (slice_index_or segments k no_segment).selector < 2 ^ 16

pub record FrontIsSized (h : Head) : Type 0 where
  pub magic : length h.magic ≡ 4
  pub frames : h.frames < 2 ^ 32
  pub step : h.step < 2 ^ 64
  pub registers : length h.registers ≡ 8
  pub words : AreBelow (2 ^ 32) h.registers

abbrev pub control_words : Head → List ℕ
control_words h = h.eip ∷ h.eflags ∷ h.cr0 ∷ h.cr2 ∷ h.cr3 ∷ h.cr4 ∷ h.gdt_base ∷ h.idt_base ∷ h.task_base ∷ h.task_limit ∷ []

abbrev pub limits : Head → List ℕ
limits h = h.gdt_limit ∷ h.idt_limit ∷ h.task_selector ∷ []

pub record ControlsAreSized (h : Head) : Type 0 where
  pub words : AreBelow (2 ^ 32) (control_words h)
  pub halves : AreBelow (2 ^ 16) (limits h)

pub record LastIsSized (h : Head) : Type 0 where
  pub segments : length h.segments ≡ 4
  pub selectors : AreSelectors h.segments
  pub unnamed : length h.unnamed ≡ 14
  pub board : length h.board ≡ 64
  pub rest : length h.rest ≡ 64

pub record IsSized (h : Head) : Type 0 where
  pub front : FrontIsSized h
  pub controls : ControlsAreSized h
  pub last : LastIsSized h
