use Rattle.std.proofs.Common.{◌≡◌, ℕ, ◌+◌, ◌*◌, ◌/◌, ◌%◌, ◌<◌, ◌==◌, Bool, true, false, cond, List, [], ◌∷◌, ◌++◌, Some, ne_eqb, refl, sym, ap, ◌∙◌, arith}
use Rattle.guest_ram.specs.Bytes.{part}
use Rattle.ia32_types.specs.declared.insn.Insn.{Insn}
use Rattle.ia32_decode.specs.declared.answer.Decoded.{Decoded}
use Rattle.ia32_decode.specs.declared.answer.Decoded.TheVariants as begins
use Rattle.ia32_decode.specs.Decoding.{decoded}
use Rattle.ia32_decode.specs.Front.{front_len}
use Rattle.machine_model.specs.State.{Setting, State}
use Rattle.machine_model.specs.Clash.{Use, fetch_uses, range_uses}
use Rattle.native_steps.specs.Looking.{Seen, bytes_seen, marked, next_seen, uses_behind, uses_from, uses_on}
use Rattle.wedge_step.specs.Clashing.{seen_of}
use Rattle.wedge_step.specs.Looked.{ground_of, looked_at}
use Rattle.wedge_step.proofs.LookedUses.{bytes_few}
use Rattle.wedge_step.proofs.clash.add_first.Goals as goal

-- the bytes of the first page
first_bytes : (b : State) (x : Seen) (none into : List ℕ) (n : ℕ) → none ≡ [] → into ≡ none
    ++ part (marked b.ram x.marks) (4096 * x.frame + b.cpu.regs.eip % 4096) n → n ≡ front_len b.cpu.regs.eip
    → into ≡ bytes_seen (marked b.ram x.marks) x b.cpu.regs.eip (front_len b.cpu.regs.eip)
first_bytes b x none into n e read len = read ∙ (λ j. e j ++ part (marked b.ram x.marks) (4096 * x.frame + b.cpu.regs.eip % 4096) (len j))

module _ (m : Setting) (b : State) (x : Seen) (bytes list : List ℕ) (same : list ≡ bytes)
    (is : bytes ≡ bytes_seen (marked b.ram x.marks) x b.cpu.regs.eip (front_len b.cpu.regs.eip)) where
  -- what they show
  behind : (d : Decoded) → d ≡ decoded list → uses_behind m b x bytes d ≡ uses_from m b (Some x)
  behind d told = ap (uses_behind m b x bytes) (told ∙ ap decoded same) ∙ ap (λ (l : List ℕ). uses_behind m b x l (decoded l)) is

  by_ranges : (insn : Insn) (len : ℕ) (old all : List Use) → begins.Insn insn len ≡ decoded list
      → old ≡ fetch_uses b (b.cpu.regs.eip / 4096 ∷ []) → all ≡ old ++ range_uses b (begins.Insn insn len) → all ≡ uses_from m b (Some x)
  by_ranges insn len old all told one more =
      more ∙ (ap (λ (l : List Use). l ++ range_uses b (begins.Insn insn len)) one ∙ behind (begins.Insn insn len) told)

  goes_on : (all : List Use) → begins.Short ≡ decoded list → b.cpu.regs.eip / 4096 < 1048575
      → all ≡ uses_on b (marked b.ram x.marks) bytes (next_seen m b x) → all ≡ uses_from m b (Some x)
  goes_on all told below more =
      let other : (b.cpu.regs.eip / 4096 == 0xFFFFF) ≡ false = ne_eqb (b.cpu.regs.eip / 4096) 0xFFFFF (λ e. omega (arith, e, below)) in
      more
      ∙ (ap (λ (c : Bool). cond c (fetch_uses b (b.cpu.regs.eip / 4096 ∷ [])) (uses_on b (marked b.ram x.marks) bytes (next_seen m b x)))
      (sym other) ∙ behind begins.Short told)

  ends : (all : List Use) → begins.Short ≡ decoded list → b.cpu.regs.eip / 4096 ≡ 1048575 → all ≡ fetch_uses b (b.cpu.regs.eip / 4096 ∷ [])
      → all ≡ uses_from m b (Some x)
  ends all told last one =
      let same : (b.cpu.regs.eip / 4096 == 0xFFFFF) ≡ true = rw last refl in
      one
      ∙ (ap (λ (c : Bool). cond c (fetch_uses b (b.cpu.regs.eip / 4096 ∷ [])) (uses_on b (marked b.ram x.marks) bytes (next_seen m b x)))
      (sym same) ∙ behind begins.Short told)

pub add_next-requires-clause-few : goal.add_next-requires-clause-few
add_next-requires-clause-few g c = bytes_few _ _ _ 11 _ _ c.new-bytes.ensures c.read.ensures c.front_len.ensures.few

pub read-requires-clause-marks : goal.read-requires-clause-marks
read-requires-clause-marks g c = c.requires.marks

pub read-requires-clause-frame : goal.read-requires-clause-frame
read-requires-clause-frame g c = c.requires.frame

pub add_next-requires-clause-stands : goal.add_next-requires-clause-stands
add_next-requires-clause-stands g c = c.requires.stands

pub add_next-requires-clause-kept : goal.add_next-requires-clause-kept
add_next-requires-clause-kept g c = c.requires.kept

pub add_next-requires-clause-marks : goal.add_next-requires-clause-marks
add_next-requires-clause-marks g c = c.requires.marks

pub add_next-requires-clause-frame : goal.add_next-requires-clause-frame
add_next-requires-clause-frame g c = c.requires.frame

pub add_next-requires-clause-one : goal.add_next-requires-clause-one
add_next-requires-clause-one g c = c.requires.one

pub add_next-requires-clause-single : goal.add_next-requires-clause-single
add_next-requires-clause-single g c = c.requires.single

pub read-requires-clause-few : goal.read-requires-clause-few
read-requires-clause-few g c = c.front_len.ensures.few

pub add_ranges-requires : goal.add_ranges-requires
add_ranges-requires g c = let one = c.requires.single in record { room = omega (arith, one) }

pub add_next-requires-clause-page : goal.add_next-requires-clause-page
add_next-requires-clause-page g c = c.in-Some.ensures.next.0

pub returns-in-Insn : goal.returns-in-Insn
returns-in-Insn g c =
    let a = c.args in
    let m = ground_of a.view.now in
    let b = looked_at g.S.Shadows a.cpu.now a.shadows.now a.view.now in
    let x = seen_of a.first in
    let is = first_bytes b x _ c.read.new.into.items _ c.new-bytes.ensures c.read.ensures c.front_len.ensures.len in
    by_ranges m b x c.read.new.into.items _ c.as_slice.ensures.value is _ _ _ _ c.in-Insn.ensures.exact c.requires.one
    c.add_ranges.ensures.uses

pub returns-in-Outside : goal.returns-in-Outside
returns-in-Outside g c =
    let a = c.args in
    let m = ground_of a.view.now in
    let b = looked_at g.S.Shadows a.cpu.now a.shadows.now a.view.now in
    let x = seen_of a.first in
    let is = first_bytes b x _ c.read.new.into.items _ c.new-bytes.ensures c.read.ensures c.front_len.ensures.len in
    c.requires.one ∙ behind m b x c.read.new.into.items _ c.as_slice.ensures.value is begins.Outside c.in-Outside.ensures.exact

pub returns-in-None : goal.returns-in-None
returns-in-None g c =
    let a = c.args in
    let m = ground_of a.view.now in
    let b = looked_at g.S.Shadows a.cpu.now a.shadows.now a.view.now in
    let x = seen_of a.first in
    let is = first_bytes b x _ c.read.new.into.items _ c.new-bytes.ensures c.read.ensures c.front_len.ensures.len in
    ends m b x c.read.new.into.items _ c.as_slice.ensures.value is _ c.in-Short.ensures.exact c.in-None.ensures.next c.requires.one

pub returns-in-Some : goal.returns-in-Some
returns-in-Some g c =
    let a = c.args in
    let m = ground_of a.view.now in
    let b = looked_at g.S.Shadows a.cpu.now a.shadows.now a.view.now in
    let x = seen_of a.first in
    let is = first_bytes b x _ c.read.new.into.items _ c.new-bytes.ensures c.read.ensures c.front_len.ensures.len in
    goes_on m b x c.read.new.into.items _ c.as_slice.ensures.value is _ c.in-Short.ensures.exact c.in-Some.ensures.next.0 c.add_next.ensures
