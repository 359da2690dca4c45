-- What a delivery is made of, at either level: each of its accesses is the processor's own.
use Rattle.std.proofs.Common.{ℕ, ◌+◌, ◌-◌, ◌%◌, ◌^◌, ◌≤◌, Bool, true, false, refl, Option, Some, None, arith}
use Rattle.std.proofs.Common.{cond}
use Rattle.std.specs.Prelude.{slice_index}
use Rattle.ia32_types.specs.declared.size.Size.TheVariants.{Long}
use Rattle.paging.specs.Work.{◌>>=◌, gives, writes}
use Rattle.descriptors.specs.Segments.{seg_of}
use Rattle.descriptors.specs.Access.{reaching, by_processor, pair_at, mark}
use Rattle.descriptors.specs.declared.cpu.Cpu.{Cpu}
use Rattle.descriptors.specs.declared.form.Descriptor.{Descriptor}
use Rattle.descriptors.specs.declared.form.Descriptor.TheVariants as forms
use Rattle.descriptors.specs.declared.form.Gate.{Gate}
use Rattle.descriptors.specs.declared.form.Gate.TheVariants.{Handler, Wrong}
use Rattle.event_entry.specs.declared.refusal.Kind.{Kind}
use Rattle.event_entry.specs.declared.delivery.Stack.{Stack}
use Rattle.event_entry.specs.Access.{failed, denials}
use Rattle.event_entry.specs.Deliver.{admitted, entry_of, as_code, code_marking, as_data, data_marking, inner_stack, stack_of, push_code, push_return, push_outer, pushed, push_frame, delivered}
use Rattle.descriptors.proofs.Made.{Made, Steps, steps, refuses_steps, opened_then, pair_steps, mark_steps}

reach : (user : Bool) (at len : ℕ) (write : Bool) → 1 ≤ len → Steps denials user (reaching denials at len (by_processor write))
reach user at len write some = Made.reached at len (by_processor write) (λ low. refl) some

reach_4 : (user : Bool) (at : ℕ) → Steps denials user (reaching denials at 4 (by_processor false))
reach_4 user at = reach user at 4 false (omega arith)

reach_2 : (user : Bool) (at : ℕ) → Steps denials user (reaching denials at 2 (by_processor false))
reach_2 user at = reach user at 2 false (omega arith)

pair : (user : Bool) (at : ℕ) → Steps denials user (pair_at denials at)
pair user at = pair_steps denials user at

admission : (user : Bool) (kind : Kind) (cpl : ℕ) (g : Gate) → Steps denials user (admitted kind cpl g)
admission user kind cpl (Wrong dpl) = search steps
admission user kind cpl (Handler sel offset dpl keeps) = search steps

entry : (user : Bool) (cpu : Cpu) (vector : ℕ) (kind : Kind) → Steps denials user (entry_of cpu vector kind)
unfolding entry_of
entry user cpu vector kind = search (steps, pair, admission) depth 12

code_form : (user : Bool) (high : ℕ) (d : Descriptor) → Steps denials user (as_code high d)
code_form user high (forms.Code dpl present used) = search steps
code_form user high d = refuses_steps failed

code : (user : Bool) (cpu : Cpu) (sel : ℕ) → Steps denials user (code_marking cpu sel)
unfolding code_marking
code user cpu sel = search (steps, pair, code_form) depth 12

data_form : (user : Bool) (high : ℕ) (d : Descriptor) → Steps denials user (as_data high d)
data_form user high (forms.Plain dpl present used) = search steps
data_form user high d = refuses_steps failed

stack_data : (user : Bool) (cpu : Cpu) (sel : ℕ) → Steps denials user (data_marking cpu sel)
unfolding data_marking
stack_data user cpu sel = search (steps, pair, data_form) depth 12

inner : (user : Bool) (cpu : Cpu) → Steps denials user (inner_stack cpu)
unfolding inner_stack
inner user cpu = search (steps, reach_4, reach_2, stack_data) depth 16

stack : (user : Bool) (cpu : Cpu) → Steps denials user (stack_of cpu)
unfolding stack_of
stack user cpu = search (steps, inner) depth 8

-- ---- what is pushed

returned : {user : Bool} (cpu : Cpu) (start len at : ℕ) → start ≤ at → at + 12 ≤ start + len
    → Made denials user (Unit {0}) (start, len) (start, len) (push_return cpu at)
unfolding push_return
returned cpu start len at low high =
    Made.follows (Made.writing at Long cpu.regs.eip low (omega (arith, high)))
    (λ done. Made.follows (Made.writing (at + 4) Long (seg_of cpu 1).sel (omega (arith, low)) (omega (arith, high)))
    (λ done. Made.writing (at + 8) Long cpu.regs.flags.bits (omega (arith, low)) (omega (arith, high))))

outer : {user : Bool} (cpu : Cpu) (start len at : ℕ) (inner : Bool) → start ≤ at → at + 12 + cond inner 8 0 ≤ start + len
    → Made denials user (Unit {0}) (start, len) (start, len) (push_outer cpu inner at)
outer cpu start len at false low high = Made.given tt
outer cpu start len at true low high =
    Made.follows (Made.writing (at + 12) Long (slice_index cpu.regs.r 4) (omega (arith, low)) (omega (arith, high)))
    (λ done. Made.writing (at + 16) Long (seg_of cpu 2).sel (omega (arith, low)) (omega (arith, high)))

-- after the error code
rest : {user : Bool} (cpu : Cpu) (top start len at : ℕ) (inner : Bool) → start ≤ at → at + 12 + cond inner 8 0 ≤ start + len
    → Made denials user ℕ (start, len) (start, len) (push_return cpu at >>= (λ done. push_outer cpu inner at >>= (λ done. gives top)))
rest cpu top start len at inner low high =
    Made.follows (returned cpu start len at low (omega (arith, high)))
    (λ done. Made.follows (outer cpu start len at inner low high) (λ done. Made.given top))

whole : {user : Bool} (cpu : Cpu) (top : ℕ) (inner : Bool) (c : Option ℕ)
    → Made denials user ℕ (top, (pushed inner c)) (top, (pushed inner c))
    (push_code c top >>= (λ at. push_return cpu at >>= (λ done. push_outer cpu inner at >>= (λ done. gives top))))
whole {user = user} cpu top inner None = then_gives (rest cpu top top (pushed inner None) top inner (omega arith) (omega arith))
  where
    then_gives : Made denials user ℕ (top, (pushed inner None)) (top, (pushed inner None))
        (push_return cpu top >>= (λ done. push_outer cpu inner top >>= (λ done. gives top)))
        → Made denials user ℕ (top, (pushed inner None)) (top, (pushed inner None))
        (push_code None top >>= (λ at. push_return cpu at >>= (λ done. push_outer cpu inner at >>= (λ done. gives top))))
    then_gives h = h
whole {user = user} cpu top inner (Some code) =
    then_coded (Made.follows (Made.writing top Long code (omega arith) (omega arith))
    (λ done. rest cpu top top (pushed inner (Some code)) (top + 4) inner (omega arith) (omega arith)))
  where
    then_coded : Made denials user ℕ (top, (pushed inner (Some code))) (top, (pushed inner (Some code)))
        (writes top Long code >>= (λ done. push_return cpu (top + 4) >>= (λ done. push_outer cpu inner (top + 4) >>= (λ done. gives top))))
        → Made denials user ℕ (top, (pushed inner (Some code))) (top, (pushed inner (Some code)))
        (push_code (Some code) top >>= (λ at. push_return cpu at >>= (λ done. push_outer cpu inner at >>= (λ done. gives top))))
    then_coded h = h

few : (inner : Bool) (c : Option ℕ) → pushed inner c ≤ 4096
few true None = omega arith
few false None = omega arith
few true (Some code) = omega arith
few false (Some code) = omega arith

some : (inner : Bool) (c : Option ℕ) → 1 ≤ pushed inner c
some true None = omega arith
some false None = omega arith
some true (Some code) = omega arith
some false (Some code) = omega arith

frame : (user : Bool) (cpu : Cpu) (s : Stack) (c : Option ℕ) → Steps denials user (push_frame cpu s c)
unfolding push_frame
frame user cpu s c =
    let top : ℕ = (s.top + 2 ^ 32 - pushed s.inner c) % 2 ^ 32 in
    opened_then (top, pushed s.inner c) (Made.opened top (pushed s.inner c) (by_processor true) (λ low. refl) refl (some s.inner c)
    (few s.inner c)) (λ done. whole cpu top s.inner c)

marks : (user : Bool) (cpu : Cpu) (sel : ℕ) (m : Option ℕ) → Steps denials user (mark denials cpu sel m)
marks user cpu sel m = mark_steps denials user cpu sel m

pub delivered_steps : (user : Bool) (cpu : Cpu) (vector : ℕ) (kind : Kind) (c : Option ℕ) → Steps denials user (delivered cpu vector kind c)
unfolding delivered
delivered_steps user cpu vector kind c = search (steps, entry, code, stack, frame, marks) depth 16
