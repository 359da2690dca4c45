-- What the walk of a fetch's second page marks, and where that fetch leads.
use Rattle.std.proofs.Common.{◌≡◌, ℕ, ◌+◌, ◌/◌, Bool, true, false, cond, ◌||◌, Option, Some, None, sym, ap, ◌∙◌, arith}
use Rattle.std.specs.List.{list_any}
use Rattle.machine_model.specs.State.{Setting, State}
use Rattle.machine_model.specs.Instruction.{next_page}
use Rattle.native_steps.specs.Looking.{Seen, marks_front, next_seen, seen, seen_behind}
use Rattle.wedge_step.specs.declared.looking.Marks.{Marks}
use Rattle.wedge_step.specs.Clashing.{marks_of}
use Rattle.std.proofs.Math.Bool.{or-false}

-- the first place, or else the second
pub any_first : (f : ℕ → Bool) (o : Option Marks) (x : Marks) (r : Bool) → o ≡ Some x → r ≡ f x.dir → r ≡ true → r ≡ list_any f (marks_of o)
any_first f o x r is first marks =
    marks ∙ sym (ap (λ (z : Option Marks). list_any f (marks_of z)) is ∙ ap (λ b. b || (f x.word || false)) (sym first ∙ marks))

pub any_second : (f : ℕ → Bool) (o : Option Marks) (x : Marks) (r s : Bool) → o ≡ Some x → r ≡ f x.dir → r ≡ false → s ≡ f x.word
    → s ≡ list_any f (marks_of o)
any_second f o x r s is first passes second =
    second ∙ sym (ap (λ (z : Option Marks). list_any f (marks_of z)) is
    ∙ (ap (λ b. b || (f x.word || false)) (sym first ∙ passes) ∙ or-false (f x.word)))

module _ (m : Setting) (b : State) (x : Seen) (page : ℕ) (at : page ≡ b.cpu.regs.eip / 4096 + 1) where
  next_from : (o : Option Seen) → o ≡ seen m b page → seen_behind b x o ≡ next_seen m b x
  next_from o e = let there : page ≡ next_page b.cpu.regs.eip / 4096 = omega (arith, at) in ap (seen_behind b x) (e ∙ ap (seen m b) there)

  pub none_next : None ≡ seen m b page → None ≡ next_seen m b x
  none_next e = next_from None e

  pub barred_next : (y : Seen) → Some y ≡ seen m b page → marks_front b x y.marks ≡ true → None ≡ next_seen m b x
  barred_next y e h = sym (ap (λ (c : Bool). cond {A = Option Seen} c None (Some y)) h) ∙ next_from (Some y) e

  pub some_next : (y : Seen) → Some y ≡ seen m b page → marks_front b x y.marks ≡ false → Some y ≡ next_seen m b x
  some_next y e h = sym (ap (λ (c : Bool). cond {A = Option Seen} c None (Some y)) h) ∙ next_from (Some y) e
