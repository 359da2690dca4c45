-- The law that an IRET after a delivery leads back, from the parts of both.
use Rattle.std.proofs.Common.{◌≡◌, ℕ, ◌+◌, ◌-◌, ◌%◌, ◌^◌, inl, inr, Bool, true, false, cond, eqb, arith, refl, sym, ap, ◌∙◌, subst, Option, None, Ok}
use Rattle.std.specs.Prelude.{slice_index, slice_set, nat_lt, ◌==◌, ◌||◌, not}
use Rattle.std.proofs.lemmas.Bool.Decides.{eqb_tells}
use Rattle.paging.specs.Space.{Space}
use Rattle.paging.specs.Work.{Outcome, Work, ◌>>=◌, gives, unless}
use Rattle.descriptors.specs.Form.{dpl_of, marking, is_data, is_code}
use Rattle.descriptors.specs.declared.cpu.Cpu.{Cpu}
use Rattle.descriptors.specs.declared.form.Descriptor.{Descriptor}
use Rattle.event_entry.specs.declared.refusal.Kind.{Kind}
use Rattle.event_entry.specs.declared.refusal.NotDelivered.{NotDelivered}
use Rattle.event_entry.specs.declared.delivery.Entry.{Entry}
use Rattle.event_entry.specs.declared.delivery.Stack.{Stack}
use Rattle.descriptors.specs.Segments.{seg_of}
use Rattle.event_entry.specs.Deliver.{code_len, outer_len, stack_of, inner_stack, push_frame, entered, delivered}
use Rattle.sys_exec.specs.declared.effect.Refusal.{Refusal}
use Rattle.sys_exec.specs.declared.effect.Loading.{Loading}
use Rattle.sys_exec.specs.declared.effect.SysOutcome.{SysOutcome}
use Rattle.sys_exec.specs.Operand.{next}
use Rattle.sys_exec.specs.Sys.{row, returned_by, sys_work}
use Rattle.sys_exec.specs.Iret.{keeps_flags, popped, popped_outer, top_of, returned, kept_segment, outer_segments, return_same, return_outer, interrupt_return}
use Rattle.ia32_exec.specs.Stack.{is_foreign}
use Rattle.sys_exec.specs.Segment.{protection, loading, marked, find_return, find_stack, return_tests, stack_tests}
use Rattle.system_vectors.proofs.Results.{through, value_is, Ends, ends_then, any_work, skip, given, tested, known}
use Rattle.sys_exec.specs.declared.effect.Refusal.TheVariants as refusals
use Rattle.sys_exec.specs.declared.iret.Popped.{Popped}
use Rattle.sys_exec.specs.declared.iret.Outer.{Outer}
use Rattle.ia32_types.specs.declared.stop.Stop.TheVariants as stops
use Rattle.system_vectors.specs.Resumed.{IsInterrupted, FindsFrame, frame_of, outer_frame_of, at_return, user_segments, segments_after, resumed, ResumesAs}
use Rattle.system_vectors.proofs.Leads.{top_from, handler_at, same_parts, registers_back, top_is, entered_top, raised_back, code_len_few, all_flags_back, segments_back, user_segments_back}

equal : (a b : ℕ) → (a == b) ≡ true → a ≡ b
equal a b e = elim (eqb_tells a b) [ inl is ↦ is.1 | inr isnt ↦ absurd (let no = isnt.0 in cc) ]

-- ---- what a delivery leaves

-- the stack in use at level 0, and the TSS's at level 3
pub record IsStackOf (cpu : Cpu) (stack : Stack) : Type 0 where
  pub same : cpu.cpl ≡ 0 → stack.top ≡ slice_index cpu.regs.r 4
  pub named : cpu.cpl ≡ 0 → stack.sel ≡ (seg_of cpu 2).sel
  pub kept : cpu.cpl ≡ 0 → stack.inner ≡ false

not_zero : (n : ℕ) → n ≡ 3 → n ≡ 0 → ⊥
not_zero n a b = omega arith

-- at level 3 nothing is asked of it
inner_stack_is : (cpu : Cpu) (stack : Stack) → cpu.cpl ≡ 3 → IsStackOf cpu stack
inner_stack_is cpu stack three = record {
  same = λ zero. absurd (not_zero _ three zero);
  named = λ zero. absurd (not_zero _ three zero);
  kept = λ zero. absurd (not_zero _ three zero);
}

inner_ends : (cpu : Cpu) → cpu.cpl ≡ 3 → Ends (IsStackOf cpu) (inner_stack cpu)
unfolding inner_stack
inner_ends cpu three = search (skip, any_work, given, inner_stack_is) depth 24

own_stack_is : (cpu : Cpu)
    → IsStackOf cpu (record { top = slice_index cpu.regs.r 4; sel = (seg_of cpu 2).sel; marking = None; inner = false })
own_stack_is cpu = record { same = λ _. refl; named = λ _. refl; kept = λ _. refl }

by_level : (cpu : Cpu) (b : Bool) (w v : Work NotDelivered Stack) → (b ≡ true → Ends (IsStackOf cpu) w)
    → (b ≡ false → Ends (IsStackOf cpu) v) → Ends (IsStackOf cpu) (cond b w v)
by_level cpu true w v f g = f refl
by_level cpu false w v f g = g refl

stack_ends : (cpu : Cpu) → Ends (IsStackOf cpu) (stack_of cpu)
unfolding stack_of
stack_ends cpu = by_level cpu (eqb cpu.cpl 3) _ _ (λ e. inner_ends cpu (equal cpu.cpl 3 e)) (λ e. given (own_stack_is cpu))

frame_ends : (cpu : Cpu) (stack : Stack) (code : Option ℕ) → Ends (λ top. top ≡ top_from stack code) (push_frame cpu stack code)
unfolding push_frame
frame_ends cpu stack code = search (skip, any_work, given, refl) depth 16

-- the handler was entered with a stack of the processor
pub record IsHandlerOf (cpu : Cpu) (code : Option ℕ) (handler : Cpu) : Type 0 where
  pub entry : Entry
  pub stack : Stack
  pub from : IsStackOf cpu stack
  pub is : handler ≡ entered cpu entry stack (top_from stack code)

handler_is : (cpu : Cpu) (code : Option ℕ) (entry : Entry) (stack : Stack) (top : ℕ) → IsStackOf cpu stack → top ≡ top_from stack code
    → IsHandlerOf cpu code (entered cpu entry stack top)
handler_is cpu code entry stack top from e = record { entry = entry; stack = stack; from = from; is = ap (entered cpu entry stack) e }

with_stack : (cpu : Cpu) {Q : Cpu → Type 0} {f : Stack → Work NotDelivered Cpu} → ((stack : Stack) → IsStackOf cpu stack → Ends Q (f stack))
    → Ends Q (stack_of cpu >>= f)
with_stack cpu h = ends_then (IsStackOf cpu) (stack_ends cpu) h

with_frame : (cpu : Cpu) (stack : Stack) (code : Option ℕ) {Q : Cpu → Type 0} {f : ℕ → Work NotDelivered Cpu}
    → ((top : ℕ) → top ≡ top_from stack code → Ends Q (f top)) → Ends Q (push_frame cpu stack code >>= f)
with_frame cpu stack code h = ends_then (λ top. top ≡ top_from stack code) (frame_ends cpu stack code) h

pub delivery_ends : (cpu : Cpu) (vector : ℕ) (kind : Kind) (code : Option ℕ) → Ends (IsHandlerOf cpu code) (delivered cpu vector kind code)
unfolding delivered
delivery_ends cpu vector kind code = search (with_stack, with_frame, skip, any_work, given, handler_is) depth 24

-- ---- what a load leaves

-- a segment register that was loaded with a selector, at a level
abbrev pub IsAtLevel : ℕ → ℕ → Loading → Type 0
IsAtLevel sel level l = l.hidden ≡ record { sel = sel; null = false; dpl = level }

not_false : (b : Bool) → not (not b) ≡ true → b ≡ true
not_false true e = refl
not_false false e = e

last_false : (a b c : Bool) → not (a || (b || not c)) ≡ true → c ≡ true
last_false true b c e = absurd (cc)
last_false false true c e = absurd (cc)
last_false false false true e = refl
last_false false false false e = e

level_of : (a b : Bool) (d l : ℕ) → not (a || (b || not (d == l))) ≡ true → d ≡ l
level_of a b d l e = equal d l (last_false a b (d == l) e)

return_last : (cpl sel : ℕ) (d : Descriptor) {Q : Unit {0} → Type 0} {f : Unit {0} → Work Refusal (Unit {0})}
    → ((x : Unit {0}) → dpl_of d ≡ sel % 4 → Ends Q (f x)) →
    Ends Q (unless (protection sel) (not (is_data d || (nat_lt (sel % 4) cpl || not (dpl_of d == sel % 4)))) >>= f)
return_last cpl sel d {Q = Q} {f = f} h = tested Q _ _ f (λ x p. h x (level_of (is_data d) (nat_lt (sel % 4) cpl) (dpl_of d) (sel % 4) p))

return_tested : (cpl sel : ℕ) (d : Descriptor) → Ends (λ x. dpl_of d ≡ sel % 4) (return_tests cpl sel d)
return_tested cpl sel d = search (return_last, skip, any_work, known) depth 12

loaded_at : (sel high level : ℕ) (d : Descriptor) → dpl_of d ≡ level → IsAtLevel sel level (loading sel high d)
loaded_at sel high level d e = ap (λ l. record { sel = sel; null = false; dpl = l }) e

with_return : (cpl sel : ℕ) (d : Descriptor) {Q : Loading → Type 0} {f : Unit {0} → Work Refusal Loading}
    → ((x : Unit {0}) → dpl_of d ≡ sel % 4 → Ends Q (f x)) → Ends Q (return_tests cpl sel d >>= f)
with_return cpl sel d h = ends_then (λ x. dpl_of d ≡ sel % 4) (return_tested cpl sel d) h

pub return_ends : (cpu : Cpu) (sel : ℕ) → Ends (IsAtLevel sel (sel % 4)) (find_return cpu sel)
unfolding find_return
return_ends cpu sel = search (with_return, skip, any_work, given, loaded_at) depth 16

stack_last : (cpl sel : ℕ) (d : Descriptor) {Q : Unit {0} → Type 0} {f : Unit {0} → Work Refusal (Unit {0})}
    → ((x : Unit {0}) → dpl_of d ≡ cpl → Ends Q (f x)) →
    Ends Q (unless (protection sel) (not (not (sel % 4 == cpl) || (is_code d || not (dpl_of d == cpl)))) >>= f)
stack_last cpl sel d {Q = Q} {f = f} h = tested Q _ _ f (λ x p. h x (level_of (not (sel % 4 == cpl)) (is_code d) (dpl_of d) cpl p))

stack_tested : (cpl sel : ℕ) (d : Descriptor) → Ends (λ x. dpl_of d ≡ cpl) (stack_tests cpl sel d)
stack_tested cpl sel d = search (stack_last, skip, any_work, known) depth 12

with_stack_tests : (cpl sel : ℕ) (d : Descriptor) {Q : Loading → Type 0} {f : Unit {0} → Work Refusal Loading}
    → ((x : Unit {0}) → dpl_of d ≡ cpl → Ends Q (f x)) → Ends Q (stack_tests cpl sel d >>= f)
with_stack_tests cpl sel d h = ends_then (λ x. dpl_of d ≡ cpl) (stack_tested cpl sel d) h

pub stack_load_ends : (cpu : Cpu) (cpl sel : ℕ) → Ends (IsAtLevel sel cpl) (find_stack cpu cpl sel)
unfolding find_stack
stack_load_ends cpu cpl sel = search (with_stack_tests, skip, any_work, given, loaded_at) depth 16

-- ---- back

-- the image of the flags is one that IRET takes
plain_is : (image : ℕ) → keeps_flags image ≡ true → is_foreign image ≡ false
plain_is image e = flip (is_foreign image) e
  where
    flip : (b : Bool) → not b ≡ true → b ≡ false
    flip true e = absurd (cc)
    flip false e = refl

-- what IRET gives at the same level
pub record IsSameBack (h : Cpu) (p : Popped) (l : Loading) (b : Cpu) : Type 0 where
  pub plain : keeps_flags p.flags ≡ true
  pub is : b ≡ returned h p ((top_of h + 12) % 2 ^ 32) h.cpl (slice_set h.seg 1 l.hidden)

same_is : (h : Cpu) (p : Popped) (l : Loading) → keeps_flags p.flags ≡ true
    → IsSameBack h p l (returned h p ((top_of h + 12) % 2 ^ 32) h.cpl (slice_set h.seg 1 l.hidden))
same_is h p l plain = record { plain = plain; is = refl }

with_plain : (image : ℕ) {Q : Cpu → Type 0} {f : Unit {0} → Work Refusal Cpu} → ((x : Unit {0}) → keeps_flags image ≡ true → Ends Q (f x)) →
    Ends Q (unless (refusals.Stop stops.FlagBits) (keeps_flags image) >>= f)
with_plain image {Q = Q} {f = f} h = tested Q _ _ f h

same_ends : (h : Cpu) (p : Popped) (l : Loading) → Ends (IsSameBack h p l) (return_same h p l)
unfolding return_same
same_ends h p l = search (with_plain, skip, any_work, given, same_is) depth 14

pub same_back : (cpu : Cpu) (code : Option ℕ) (entry : Entry) (stack : Stack) (l : Loading) (b : Cpu) →
    IsInterrupted cpu → IsStackOf cpu stack → cpu.cpl ≡ 0 → IsAtLevel (seg_of cpu 1).sel ((seg_of cpu 1).sel % 4) l →
    IsSameBack (handler_at cpu code entry stack) (frame_of cpu) l b → b ≡ resumed cpu
same_back cpu code entry stack l b int from zero at back =
    let no : eqb cpu.cpl 3 ≡ false = rw zero in
    let r = cpu.regs.r in
    let top = top_from stack code in
    let x = (slice_index (slice_set r 4 top) 4 + code_len code) % 2 ^ 32 in
    let t : slice_index (slice_set (slice_set r 4 top) 4 x) 4 ≡ x = top_is r top x int.registers in
    let o : outer_len stack.inner ≡ 0 = rw (from.kept zero) in
    let place : top ≡ (slice_index r 4 + 2 ^ 32 - (12 + 0 + code_len code)) % 2 ^ 32 = rw (o, from.same zero) in
    let esp : (slice_index (slice_set (slice_set r 4 top) 4 x) 4 + 12) % 2 ^ 32 ≡ slice_index r 4 =
    ap (λ n. (n + 12) % 2 ^ 32) t ∙ raised_back (slice_index r 4) (code_len code) (slice_index (slice_set r 4 top) 4) top int.top
    (code_len_few code) place (entered_top r top int.registers) in
    let cs : l.hidden ≡ seg_of cpu 1 =
    at ∙ ap (λ n. record { sel = (seg_of cpu 1).sel; null = false; dpl = n }) int.requested ∙ sym int.code in
    let ss : record { sel = stack.sel; null = false; dpl = 0 } ≡ seg_of cpu 2 =
    ap (λ n. record { sel = n; null = false; dpl = 0 }) (from.named zero)
    ∙ ap (λ n. record { sel = (seg_of cpu 2).sel; null = false; dpl = n }) (sym zero) ∙ sym int.stack in
    let segs : segments_after cpu ≡ cpu.seg = ap (λ c. cond c (user_segments cpu) cpu.seg) no in
    back.is ∙ same_parts cpu _ r _ cpu.regs.flags 0 cpu.cpl _ (segments_after cpu)
    (registers_back r top x _ esp)
    (all_flags_back cpu code entry stack int.flags (plain_is cpu.regs.flags.bits back.plain))
    (sym zero)
    (segments_back cpu.seg _ _ _ _ int.segments cs ss ∙ sym segs)

-- what IRET gives at the outer level
pub record IsOuterBack (h : Cpu) (p : Popped) (l : Loading) (o : Outer) (b : Cpu) : Type 0 where
  pub plain : keeps_flags p.flags ≡ true
  pub stack : Loading
  pub loaded : IsAtLevel o.sel (p.sel % 4) stack
  pub is : b ≡ returned h p o.top (p.sel % 4) (outer_segments h (p.sel % 4) l.hidden stack.hidden)

outer_is : (h : Cpu) (p : Popped) (l : Loading) (o : Outer) (stack : Loading) → IsAtLevel o.sel (p.sel % 4) stack
    → keeps_flags p.flags ≡ true →
    IsOuterBack h p l o (returned h p o.top (p.sel % 4) (outer_segments h (p.sel % 4) l.hidden stack.hidden))
outer_is h p l o stack at plain = record { plain = plain; stack = stack; loaded = at; is = refl }

abbrev outer_rest : Cpu → Popped → Loading → Outer → Work Refusal Cpu
outer_rest h p l o = do
  stack ← find_stack h (p.sel % 4) o.sel
  _ ← unless (refusals.Stop stops.FlagBits) (keeps_flags p.flags)
  _ ← marked h l
  _ ← marked h stack
  gives (returned h p o.top (p.sel % 4) (outer_segments h (p.sel % 4) l.hidden stack.hidden))

with_stack_load : (cpu : Cpu) (cpl sel : ℕ) {Q : Cpu → Type 0} {f : Loading → Work Refusal Cpu}
    → ((stack : Loading) → IsAtLevel sel cpl stack → Ends Q (f stack)) → Ends Q (find_stack cpu cpl sel >>= f)
with_stack_load cpu cpl sel h = ends_then (IsAtLevel sel cpl) (stack_load_ends cpu cpl sel) h

outer_ends : (h : Cpu) (p : Popped) (l : Loading) (o : Outer) → Ends (IsOuterBack h p l o) (outer_rest h p l o)
outer_ends h p l o = search (with_stack_load, with_plain, skip, any_work, given, outer_is) depth 18

pub outer_back : (cpu : Cpu) (code : Option ℕ) (entry : Entry) (stack : Stack) (l : Loading) (b : Cpu) →
    IsInterrupted cpu → cpu.cpl ≡ 3 → IsAtLevel (seg_of cpu 1).sel ((seg_of cpu 1).sel % 4) l →
    (o : Outer) → IsOuterBack (handler_at cpu code entry stack) (frame_of cpu) l o b → o ≡ outer_frame_of cpu → b ≡ resumed cpu
outer_back cpu code entry stack l b int three at o back oe =
    let yes : eqb cpu.cpl 3 ≡ true = rw three in
    let r = cpu.regs.r in
    let sel = (seg_of cpu 1).sel in
    let level : sel % 4 ≡ 3 = int.requested ∙ three in
    let top = top_from stack code in
    let x = (slice_index (slice_set r 4 top) 4 + code_len code) % 2 ^ 32 in
    let cs : l.hidden ≡ seg_of cpu 1 = at ∙ ap (λ n. record { sel = sel; null = false; dpl = n }) int.requested ∙ sym int.code in
    let ss : back.stack.hidden ≡ seg_of cpu 2 =
    back.loaded ∙ ap (λ q. record { sel = q.sel; null = false; dpl = sel % 4 }) oe
    ∙ ap (λ n. record { sel = (seg_of cpu 2).sel; null = false; dpl = n }) int.requested ∙ sym int.stack in
    let segs : segments_after cpu ≡ user_segments cpu = ap (λ c. cond c (user_segments cpu) cpu.seg) yes in
    let at_three : outer_segments (handler_at cpu code entry stack) (sel % 4) l.hidden back.stack.hidden ≡ outer_segments
    (handler_at cpu code entry stack) 3 l.hidden back.stack.hidden =
    ap (λ n. outer_segments (handler_at cpu code entry stack) n l.hidden back.stack.hidden) level in
    back.is ∙ same_parts cpu _ r _ cpu.regs.flags (sel % 4) cpu.cpl _ (segments_after cpu)
    (registers_back r top x _ (ap (λ q. q.top) oe))
    (all_flags_back cpu code entry stack int.flags (plain_is cpu.regs.flags.bits back.plain))
    int.requested
    (at_three ∙ user_segments_back cpu.seg _ _ _ _ _ (kept_segment 3) int.segments cs ss ∙ sym segs)

outer_return : (cpu : Cpu) (code : Option ℕ) (entry : Entry) (stack : Stack) (l : Loading) (b : Cpu) (s t u w : Space) →
    IsInterrupted cpu → cpu.cpl ≡ 3 → IsAtLevel (seg_of cpu 1).sel ((seg_of cpu 1).sel % 4) l →
    FindsFrame cpu (handler_at cpu code entry stack) s →
    popped (handler_at cpu code entry stack) s ≡ Ok (frame_of cpu, t) →
    find_return (handler_at cpu code entry stack) (seg_of cpu 1).sel t ≡ Ok (l, u) →
    return_outer (handler_at cpu code entry stack) (frame_of cpu) l u ≡ Ok (b, w) → b ≡ resumed cpu
unfolding return_outer
outer_return cpu code entry stack l b s t u w int three at finds first found e =
    let h = handler_at cpu code entry stack in
    let p = frame_of cpu in
    let a = through (popped_outer h u) (outer_rest h p l) (b, w) e in
    let o : Outer = a.value.0 in
    let oe : o ≡ outer_frame_of cpu = finds.outer t u a.value.1 l o first found a.is in
    let k : IsOuterBack h p l o b =
    value_is (IsOuterBack h p l o) (outer_rest h p l o a.value.1) (b, w) ((outer_ends h p l o).at_each a.value.1) a.rest in
    outer_back cpu code entry stack l b int three at o k oe

came_back : (cpu : Cpu) (code : Option ℕ) (entry : Entry) (stack : Stack) (b : Cpu) (s w : Space) →
    IsInterrupted cpu → IsStackOf cpu stack → FindsFrame cpu (handler_at cpu code entry stack) s →
    interrupt_return (handler_at cpu code entry stack) s ≡ Ok (b, w) → b ≡ resumed cpu
unfolding interrupt_return
came_back cpu code entry stack b s w int from finds e =
    let h = handler_at cpu code entry stack in
    let sel = (seg_of cpu 1).sel in
    let goes : Popped → Loading → Work Refusal Cpu = λ p l. cond (nat_lt 0 (p.sel % 4)) (return_outer h p l) (return_same h p l) in
    let a = through (popped h s) (λ p. find_return h p.sel >>= goes p) (b, w) e in
    let pe : a.value.0 ≡ frame_of cpu = finds.frame a.value.0 a.value.1 a.is in
    let first : popped h s ≡ Ok (frame_of cpu, a.value.1) = a.is ∙ ap (λ p. Ok (p, a.value.1)) pe in
    let e2 : (find_return h sel >>= goes (frame_of cpu)) a.value.1 ≡ Ok (b, w) =
    subst (λ p. (find_return h p.sel >>= goes p) a.value.1 ≡ Ok (b, w)) pe a.rest in
    let c = through (find_return h sel a.value.1) (goes (frame_of cpu)) (b, w) e2 in
    let at : IsAtLevel sel (sel % 4) c.value.0 =
    value_is (IsAtLevel sel (sel % 4)) (find_return h sel a.value.1) c.value ((return_ends h sel).at_each a.value.1) c.is in
    elim int.level [
      | inl zero ↦
          let low : nat_lt 0 (sel % 4) ≡ false = rw (int.requested ∙ zero) in
          let e3 : return_same h (frame_of cpu) c.value.0 c.value.1 ≡ Ok (b, w) =
          subst (λ t. cond t (return_outer h (frame_of cpu) c.value.0) (return_same h (frame_of cpu) c.value.0) c.value.1 ≡ Ok (b, w)) low
          c.rest in
          same_back cpu code entry stack c.value.0 b int from zero at
          (value_is (IsSameBack h (frame_of cpu) c.value.0) (return_same h (frame_of cpu) c.value.0 c.value.1) (b, w)
          ((same_ends h (frame_of cpu) c.value.0).at_each c.value.1) e3)
      | inr three ↦
          let high : nat_lt 0 (sel % 4) ≡ true = rw (int.requested ∙ three) in
          let e3 : return_outer h (frame_of cpu) c.value.0 c.value.1 ≡ Ok (b, w) =
          subst (λ t. cond t (return_outer h (frame_of cpu) c.value.0) (return_same h (frame_of cpu) c.value.0) c.value.1 ≡ Ok (b, w)) high
          c.rest in
          outer_return cpu code entry stack c.value.0 b s a.value.1 c.value.1 w int three at finds first c.is e3
    ]

pub resumes : (cpu : Cpu) → ResumesAs cpu (resumed cpu)
unfolding sys_work
resumes cpu vector kind code handler iret len done s t u v int delivered_is finds op e =
    let is : IsHandlerOf cpu code handler = value_is (IsHandlerOf cpu code) (delivered cpu vector kind code s) (handler, t)
    ((delivery_ends cpu vector kind code).at_each s) delivered_is in
    let h = at_return code handler in
    let e1 : returned_by h u ≡ Ok (done, v) = subst (λ o. row o iret len h u ≡ Ok (done, v)) op e in
    let a = through (interrupt_return h u) (λ c. next c) (done, v) e1 in
    let last : a.value.0 ≡ done.cpu = cpu_of a.value.0 done a.value.1 v a.rest in
    let back : a.value.0 ≡ resumed cpu =
    subst (λ (x : Cpu). FindsFrame cpu (at_return code x) u → interrupt_return (at_return code x) u ≡ Ok a.value → a.value.0 ≡ resumed cpu)
    (sym is.is) (came_back cpu code is.entry is.stack a.value.0 u a.value.1 int is.from) finds a.is in
    sym last ∙ back
  where
    inside : (x y : SysOutcome × Space) (o : Outcome Refusal SysOutcome) → o ≡ Ok x → o ≡ Ok y → x ≡ y
    inside x y o d e = cc

    cpu_of : (x : Cpu) (done : SysOutcome) (s v : Space) → next x s ≡ Ok (done, v) → x ≡ done.cpu
    cpu_of x done s v e = ap (λ (z : SysOutcome × Space). z.0.cpu) (inside _ _ (next x s) refl e)
