-- On the bare machine no byte is the instruction's own.
use Rattle.std.proofs.Common.{◌≡◌, ℕ, refl, sym, ap, subst, Ok}
use Rattle.paging.specs.Space.{Mode, Bare, Space, place}
use Rattle.paging.specs.Uses.{with_front, with_back}
use Rattle.machine_model.specs.Instruction.{owning_front, owning_back}

front_bare : (m : Mode) (at len : ℕ) → m ≡ Bare → with_front m at len ≡ m
front_bare m at len e = subst (λ (n : Mode). with_front n at len ≡ n) (sym e) refl

back_bare : (m : Mode) (at len : ℕ) → m ≡ Bare → with_back m at len ≡ m
back_bare m at len e = subst (λ (n : Mode). with_back n at len ≡ n) (sym e) refl

pub bare_owns_front : (at len : ℕ) (s : Space) → s.mode ≡ Bare → owning_front at len s ≡ Ok (tt, s)
unfolding owning_front
bare_owns_front at len s e = ap (λ (m : Mode). Ok (tt, record s { mode = m })) (front_bare s.mode (place s at) len e)

pub bare_owns_back : (at len : ℕ) (s : Space) → s.mode ≡ Bare → owning_back at len s ≡ Ok (tt, s)
unfolding owning_back
bare_owns_back at len s e = ap (λ (m : Mode). Ok (tt, record s { mode = m })) (back_bare s.mode (place s at) len e)
