-- Each part of a step agrees on both machines, as its accesses do.
use Rattle.std.proofs.Common.{◌≡◌, ℕ, ◌+◌, ◌*◌, ◌%◌, ◌==◌, Bool, true, false, cond, refl, sym, ap, ◌∙◌, ◌⊎◌, inl, inr, List, [], ◌∷◌, Option, Some, None, Ok, Err}
use Rattle.ia32_types.specs.declared.stop.Stop.{Stop}
use Rattle.ia32_types.specs.declared.stop.Stop.TheVariants as stops
use Rattle.ia32_types.specs.declared.insn.Insn.{Insn}
use Rattle.ia32_types.specs.declared.insn.Op.{Op}
use Rattle.ia32_types.specs.declared.insn.Op.TheVariants as op
use Rattle.ia32_decode.specs.declared.answer.Decoded.{Decoded}
use Rattle.ia32_decode.specs.declared.answer.Decoded.TheVariants as begins
use Rattle.descriptors.specs.declared.cpu.Cpu.{Cpu}
use Rattle.paging.specs.declared.entry.Touch.{Touch}
use Rattle.paging.specs.declared.entry.Touch.TheVariants as touch
use Rattle.paging.specs.Space.{Space, place}
use Rattle.paging.specs.Uses.{fetches}
use Rattle.paging.specs.Work.{Outcome}
use Rattle.paging.specs.Agreement.{bare, bared, TouchAgrees, FetchesAgree, IsExtra, Agrees}
use Rattle.paging.specs.MonitorStops.{is_extra_stop}
use Rattle.paging.proofs.Translations.{clash}
use Rattle.paging.proofs.Works.{work_steps}
use Rattle.sys_exec.specs.declared.effect.Refusal.{Refusal}
use Rattle.sys_exec.specs.declared.effect.Refusal.TheVariants as refusal
use Rattle.sys_exec.specs.declared.effect.SysOutcome.{SysOutcome}
use Rattle.sys_exec.specs.declared.effect.SysEffect.{SysEffect}
use Rattle.sys_exec.specs.declared.effect.SysEffect.TheVariants as effects
use Rattle.sys_exec.specs.Sys.{told}
use Rattle.sys_exec.specs.Agreement as rows
use Rattle.step_exec.specs.Plain.{executed}
use Rattle.step_exec.specs.Agreement.{PlainAgree}
use Rattle.event_entry.specs.declared.refusal.Kind.TheVariants.{Raised, Soft, External}
use Rattle.event_entry.specs.declared.refusal.NotDelivered.{NotDelivered}
use Rattle.event_entry.specs.declared.refusal.NotDelivered.TheVariants as not_delivered
use Rattle.event_entry.specs.Deliver.{delivered}
use Rattle.event_entry.specs.Agreement as deliveries
use Rattle.board.specs.declared.devices.Board.{Board}
use Rattle.board.specs.Boards.{given, acknowledged}
use Rattle.run_trace.specs.declared.items.What.{What}
use Rattle.run_trace.specs.declared.items.What.TheVariants.{Irq}
use Rattle.run_trace.specs.declared.items.End.TheVariants.{Bound, Stopped}
use Rattle.machine_model.specs.State.{Setting, State, Loosened, space_at_start}
use Rattle.machine_model.specs.OnBare.{on_bare}
use Rattle.machine_model.specs.Rules.{stands_well, may_leave}
use Rattle.machine_model.specs.Instruction.{bytes_fetched, fetching, owning_front, owning_back, owned, fetched_on, fetched_by, fetched, is_plain, done_plainly, instructed}
use Rattle.machine_model.specs.Step.{Report, Completed, Result, Went, Halts, concluded, entered, after_delivery, raised, code_of, after_effect, effect_on, after_software, interrupts_by, begun, by_op, by_decoded, after_refusal, after_fetch, fetches_next, begins_next, worked, interrupted, interrupt_of, by_interrupt, unheld, stepped, step_of}
use Rattle.machine_model.specs.Run.{Set, Steps, EndsIn}
use Rattle.sys_exec.specs.Operand.{past}
use Rattle.machine_model.specs.Agreement.{is_extra, StepsAgree, RunsAgree}

-- what the crates below promise
pub record Laws : Type 0 where
  pub fetches : FetchesAgree
  pub plain : PlainAgree
  pub rows : rows.RowsAgree
  pub deliveries : deliveries.DeliveriesAgree

-- The fetch.

taken_agrees : (at len : ℕ) (t : Touch) (s : Space) (p : Touch × Space) → TouchAgrees (t, s) p
    → IsExtra rows.is_extra (bytes_fetched at len t s) ⊎ (bytes_fetched at len p.0 p.1 ≡ bared (bytes_fetched at len t s))
unfolding place
taken_agrees at len touch.Ready s p (inl e) = absurd (clash e)
taken_agrees at len touch.Ready s p (inr e) = inr (ap (λ (q : Touch × Space). bytes_fetched at len q.0 q.1) e)
taken_agrees at len (touch.Fault code cr2) s p (inl e) = absurd (clash e)
taken_agrees at len (touch.Fault code cr2) s p (inr e) = inr (ap (λ (q : Touch × Space). bytes_fetched at len q.0 q.1) e)
taken_agrees at len (touch.Stop stop) s p (inl e) = inl e
taken_agrees at len (touch.Stop stop) s p (inr e) = inr (ap (λ (q : Touch × Space). bytes_fetched at len q.0 q.1) e)

fetching_agrees : FetchesAgree → (user : Bool) (at len : ℕ) → Agrees rows.is_extra (fetching user at len)
unfolding fetching
fetching_agrees law user at len =
    record {
      at_each = λ s. taken_agrees at len (fetches s at len user).0 (fetches s at len user).1 (fetches (bare s) at len user)
          (law s at len user);
    }

front_agrees : (at len : ℕ) → Agrees rows.is_extra (owning_front at len)
unfolding owning_front
front_agrees at len = record { at_each = λ s. inr refl }

back_agrees : (at len : ℕ) → Agrees rows.is_extra (owning_back at len)
unfolding owning_back
back_agrees at len = record { at_each = λ s. inr refl }

owned_agrees : (eip : ℕ) (d : Decoded) → Agrees rows.is_extra (owned eip d)
owned_agrees eip (begins.Insn insn len) = search (work_steps, back_agrees) depth 8
owned_agrees eip begins.Outside = search work_steps
owned_agrees eip begins.Short = search work_steps

on_agrees : FetchesAgree → (user : Bool) (eip : ℕ) (front : List ℕ) → Agrees rows.is_extra (fetched_on user eip front)
unfolding fetched_on
on_agrees law user eip front = search (work_steps, front_agrees, fetching_agrees law, owned_agrees) depth 12

by_agrees : FetchesAgree → (user : Bool) (eip : ℕ) (front : List ℕ) (d : Decoded) → Agrees rows.is_extra (fetched_by user eip front d)
by_agrees law user eip front (begins.Insn insn len) = search (work_steps, front_agrees) depth 8
by_agrees law user eip front begins.Outside = search work_steps
by_agrees law user eip front begins.Short = search (work_steps, on_agrees law) depth 8

fetched_agrees : FetchesAgree → (user : Bool) (eip : ℕ) → Agrees rows.is_extra (fetched user eip)
unfolding fetched
fetched_agrees law user eip = search (work_steps, fetching_agrees law, by_agrees law) depth 8

-- An instruction's effect.

plainly_told : (cpu : Cpu) (o p : Outcome Refusal Cpu) → IsExtra rows.is_extra o ⊎ (p ≡ bared o)
    → rows.ToldAgrees (told cpu (done_plainly o)) (told cpu (done_plainly p))
plainly_told cpu (Ok x) p (inl e) = absurd e
plainly_told cpu (Ok x) p (inr e) = inr (ap (λ (q : Outcome Refusal Cpu). told cpu (done_plainly q)) e)
plainly_told cpu (Err (refusal.Fault code at, s)) p (inl e) = absurd (clash e)
plainly_told cpu (Err (refusal.Fault code at, s)) p (inr e) = inr (ap (λ (q : Outcome Refusal Cpu). told cpu (done_plainly q)) e)
plainly_told cpu (Err (refusal.Raise vector code, s)) p (inl e) = absurd (clash e)
plainly_told cpu (Err (refusal.Raise vector code, s)) p (inr e) = inr (ap (λ (q : Outcome Refusal Cpu). told cpu (done_plainly q)) e)
plainly_told cpu (Err (refusal.Stop stop, s)) p (inl e) = inl e
plainly_told cpu (Err (refusal.Stop stop, s)) p (inr e) = inr (ap (λ (q : Outcome Refusal Cpu). told cpu (done_plainly q)) e)

either_told : (plain : Bool) (cpu : Cpu) (a b c d : Outcome Refusal SysOutcome) → rows.ToldAgrees (told cpu a) (told cpu c)
    → rows.ToldAgrees (told cpu b) (told cpu d) → rows.ToldAgrees (told cpu (cond plain a b)) (told cpu (cond plain c d))
either_told true cpu a b c d h k = h
either_told false cpu a b c d h k = k

instructed_agrees : Laws → (insn : Insn) (len : ℕ) (cpu : Cpu) (s : Space) → rows.ToldAgrees (told cpu (instructed insn len cpu s))
    (told cpu (instructed insn len cpu (bare s)))
unfolding instructed
instructed_agrees laws insn len cpu s =
    either_told (is_plain insn.op) cpu _ _ _ _
    (plainly_told cpu (executed insn len cpu s) (executed insn len cpu (bare s)) ((laws.plain insn len cpu).at_each s))
    (laws.rows insn len cpu s)

-- The outcome of a step.

abbrev Agree : Result → Result → Type 0
Agree r p = (is_extra r ≡ true) ⊎ (p ≡ r)

onward : (r p q : Result) → p ≡ q → Agree r q → Agree r p
onward r p q e (inl h) = inl h
onward r p q e (inr h) = inr (e ∙ h)

-- a test of the monitor's
guarded : (test : Bool) (r : Result) (stop : Stop) → is_extra_stop stop ≡ true → Agree (cond test r (Halts stop)) r
guarded true r stop h = inr refl
guarded false r stop h = inl h

entered_agrees : (m : Setting) (whats : List What) (completed : Option Completed) (b : State) (cpu : Cpu) (board : Board) (s : Space)
    → Agree (entered m whats completed b cpu board s) (concluded whats completed b cpu board s)
entered_agrees m whats completed b cpu board s = guarded (stands_well m cpu) (concluded whats completed b cpu board s) stops.NotAStart refl

delivery_agrees : (m : Setting) (whats : List What) (b : State) (board : Board) (o p : Outcome NotDelivered Cpu)
    → IsExtra deliveries.is_extra o ⊎ (p ≡ bared o)
    → Agree (after_delivery m whats b board o) (after_delivery (on_bare m) whats b board p)
delivery_agrees m whats b board (Ok done) p (inl e) = absurd e
delivery_agrees m whats b board (Ok done) p (inr e) =
    onward _ _ _ (ap (after_delivery (on_bare m) whats b board) e) (entered_agrees m whats None b done.0 board done.1)
delivery_agrees m whats b board (Err (not_delivered.Privilege, s)) p (inl e) = absurd (clash e)
delivery_agrees m whats b board (Err (not_delivered.Privilege, s)) p (inr e) = inr (ap (after_delivery (on_bare m) whats b board) e)
delivery_agrees m whats b board (Err (not_delivered.Stop stop, s)) p (inl e) = inl e
delivery_agrees m whats b board (Err (not_delivered.Stop stop, s)) p (inr e) = inr (ap (after_delivery (on_bare m) whats b board) e)

raised_agrees : deliveries.DeliveriesAgree → (m : Setting) (b : State) (cpu : Cpu) (vector code : ℕ) (s : Space)
    → Agree (raised m b cpu vector code s) (raised (on_bare m) b cpu vector code (bare s))
raised_agrees law m b cpu vector code s =
    delivery_agrees m [] b b.board (delivered cpu vector Raised (code_of vector code) s)
    (delivered cpu vector Raised (code_of vector code) (bare s))
    ((law cpu vector Raised (code_of vector code)).at_each s)

effect_agrees : deliveries.DeliveriesAgree → (m : Setting) (b : State) (completed : Completed) (e : SysEffect) (cpu : Cpu) (s : Space)
    → Agree (after_effect m b completed e cpu s) (after_effect (on_bare m) b completed e cpu (bare s))
effect_agrees law m b completed effects.Next cpu s =
    guarded (may_leave m.mode b.cpu cpu) (concluded [] (Some completed) b cpu b.board s) stops.UserFlags refl
effect_agrees law m b completed effects.Halted cpu s = inr refl
effect_agrees law m b completed (effects.DropPage page) cpu s = inr refl
effect_agrees law m b completed (effects.DropDir index) cpu s = inr refl
effect_agrees law m b completed effects.DropAll cpu s = inr refl
effect_agrees law m b completed (effects.PortIn port wide) cpu s = inr refl
effect_agrees law m b completed (effects.PortOut port wide value) cpu s = inr refl
effect_agrees law m b completed (effects.Raise vector code) cpu s = raised_agrees law m b cpu vector code s
effect_agrees law m b completed (effects.Stop stop) cpu s = inr refl

-- one of the monitor's stops ends the step
stopped_effect : (m : Setting) (b : State) (completed : Completed) (e : SysEffect) (cpu : Cpu) (s : Space) → rows.is_extra_effect e ≡ true
    → is_extra (after_effect m b completed e cpu s) ≡ true
stopped_effect m b completed (effects.Stop stop) cpu s h = h
stopped_effect m b completed effects.Next cpu s h = absurd (clash h)
stopped_effect m b completed effects.Halted cpu s h = absurd (clash h)
stopped_effect m b completed (effects.DropPage page) cpu s h = absurd (clash h)
stopped_effect m b completed (effects.DropDir index) cpu s h = absurd (clash h)
stopped_effect m b completed effects.DropAll cpu s h = absurd (clash h)
stopped_effect m b completed (effects.PortIn port wide) cpu s h = absurd (clash h)
stopped_effect m b completed (effects.PortOut port wide value) cpu s h = absurd (clash h)
stopped_effect m b completed (effects.Raise vector code) cpu s h = absurd (clash h)

told_agrees : deliveries.DeliveriesAgree → (m : Setting) (b : State) (completed : Completed) (o p : SysEffect × Cpu × Space)
    → rows.ToldAgrees o p → Agree (effect_on m b completed o) (effect_on (on_bare m) b completed p)
told_agrees law m b completed o p (inl h) = inl (stopped_effect m b completed o.0 o.1 o.2 h)
told_agrees law m b completed o p (inr h) =
    onward _ _ _ (ap (effect_on (on_bare m) b completed) h) (effect_agrees law m b completed o.0 o.1 o.2)

software_agrees : deliveries.DeliveriesAgree → (m : Setting) (b : State) (completed : Completed) (vector : ℕ)
    (o p : Outcome NotDelivered Cpu) → IsExtra deliveries.is_extra o ⊎ (p ≡ bared o)
    → Agree (after_software m b completed vector o) (after_software (on_bare m) b completed vector p)
software_agrees law m b completed vector (Ok done) p (inl e) = absurd e
software_agrees law m b completed vector (Ok done) p (inr e) =
    onward _ _ _ (ap (after_software (on_bare m) b completed vector) e) (entered_agrees m [] (Some completed) b done.0 b.board done.1)
software_agrees law m b completed vector (Err (not_delivered.Privilege, s)) p (inl e) = absurd (clash e)
software_agrees law m b completed vector (Err (not_delivered.Privilege, s)) p (inr e) =
    onward _ _ _ (ap (after_software (on_bare m) b completed vector) e) (raised_agrees law m b b.cpu 13 (8 * vector + 2) s)
software_agrees law m b completed vector (Err (not_delivered.Stop stop, s)) p (inl e) = inl e
software_agrees law m b completed vector (Err (not_delivered.Stop stop, s)) p (inr e) =
    inr (ap (after_software (on_bare m) b completed vector) e)

interrupt_agrees : Laws → (m : Setting) (b : State) (completed : Completed) (len vector : ℕ) (s : Space)
    → Agree (interrupts_by m b completed len vector s) (interrupts_by (on_bare m) b completed len vector (bare s))
interrupt_agrees laws m b completed len vector s =
    software_agrees laws.deliveries m b completed vector (delivered (past b.cpu len) vector Soft None s)
    (delivered (past b.cpu len) vector Soft None (bare s))
    ((laws.deliveries (past b.cpu len) vector Soft None).at_each s)

row_agrees : Laws → (m : Setting) (b : State) (insn : Insn) (len : ℕ) (s : Space)
    → Agree (effect_on m b (begun b insn) (told b.cpu (instructed insn len b.cpu s)))
    (effect_on (on_bare m) b (begun b insn) (told b.cpu (instructed insn len b.cpu (bare s))))
row_agrees laws m b insn len s =
    told_agrees laws.deliveries m b (begun b insn) (told b.cpu (instructed insn len b.cpu s))
    (told b.cpu (instructed insn len b.cpu (bare s))) (instructed_agrees laws insn len b.cpu s)

op_agrees : Laws → (m : Setting) (o : Op) (b : State) (insn : Insn) (len : ℕ) (s : Space)
    → Agree (by_op m o b insn len s) (by_op (on_bare m) o b insn len (bare s))
op_agrees laws m op.Int b insn len s = interrupt_agrees laws m b (begun b insn) len (insn.imm % 256) s
op_agrees laws m op.Int3 b insn len s = interrupt_agrees laws m b (begun b insn) len 3 s
op_agrees laws m _ b insn len s = row_agrees laws m b insn len s

decoded_agrees : Laws → (m : Setting) (b : State) (d : Decoded) (s : Space)
    → Agree (by_decoded m b d s) (by_decoded (on_bare m) b d (bare s))
decoded_agrees laws m b (begins.Insn insn len) s = op_agrees laws m insn.op b insn len s
decoded_agrees laws m b begins.Short s = inr refl
decoded_agrees laws m b begins.Outside s = inr refl

refusal_agrees : Laws → (m : Setting) (b : State) (r : Refusal) (s : Space)
    → Agree (after_refusal m b r s) (after_refusal (on_bare m) b r (bare s))
refusal_agrees laws m b (refusal.Fault code at) s = raised_agrees laws.deliveries m b (record b.cpu { cr2 = at }) 14 code s
refusal_agrees laws m b (refusal.Raise vector code) s = raised_agrees laws.deliveries m b b.cpu vector code s
refusal_agrees laws m b (refusal.Stop stop) s = inr refl

extra_refusal : (m : Setting) (b : State) (r : Refusal) (s : Space) → rows.is_extra r ≡ true → is_extra (after_refusal m b r s) ≡ true
extra_refusal m b (refusal.Fault code at) s h = absurd (clash h)
extra_refusal m b (refusal.Raise vector code) s h = absurd (clash h)
extra_refusal m b (refusal.Stop stop) s h = h

fetch_agrees : Laws → (m : Setting) (b : State) (o p : Outcome Refusal Decoded) → IsExtra rows.is_extra o ⊎ (p ≡ bared o)
    → Agree (after_fetch m b o) (after_fetch (on_bare m) b p)
fetch_agrees laws m b (Ok read) p (inl e) = absurd e
fetch_agrees laws m b (Ok read) p (inr e) = onward _ _ _ (ap (after_fetch (on_bare m) b) e) (decoded_agrees laws m b read.0 read.1)
fetch_agrees laws m b (Err refused) p (inl e) = inl (extra_refusal m b refused.0 refused.1 e)
fetch_agrees laws m b (Err refused) p (inr e) =
    onward _ _ _ (ap (after_fetch (on_bare m) b) e) (refusal_agrees laws m b refused.0 refused.1)

next_agrees : Laws → (m : Setting) (b : State) (s : Space) → Agree (fetches_next m b s) (fetches_next (on_bare m) b (bare s))
next_agrees laws m b s =
    let user = b.cpu.cpl == 3 in
    fetch_agrees laws m b (fetched user b.cpu.regs.eip s) (fetched user b.cpu.regs.eip (bare s))
    ((fetched_agrees laws.fetches user b.cpu.regs.eip).at_each s)

tested : (test : Bool) (r p : Result) (stop : Stop) → is_extra_stop stop ≡ true → Agree r p → Agree (cond test r (Halts stop)) p
tested true r p stop h k = k
tested false r p stop h k = inl h

begins_agrees : Laws → (m : Setting) (b : State) (s : Space) → Agree (begins_next m b s) (fetches_next (on_bare m) b (bare s))
begins_agrees laws m b s = tested (stands_well m b.cpu) _ _ stops.NotAStart refl (next_agrees laws m b s)

either : (test : Bool) (r p q t : Result) → Agree r p → Agree q t → Agree (cond test r q) (cond test p t)
either true r p q t h k = h
either false r p q t h k = k

worked_agrees : Laws → (m : Setting) (b : State) (s : Space) → Agree (worked m b s) (worked (on_bare m) b (bare s))
unfolding worked
worked_agrees laws m b s = either b.cpu.halted _ _ _ _ (inr refl) (begins_agrees laws m b s)

interrupted_agrees : Laws → (m : Setting) (b : State) (v : ℕ) (s : Space)
    → Agree (interrupted m b v s) (interrupted (on_bare m) b v (bare s))
unfolding interrupted
interrupted_agrees laws m b v s =
    delivery_agrees m (Irq v ∷ []) b (acknowledged b.board) (delivered b.cpu v External None s) (delivered b.cpu v External None (bare s))
    ((laws.deliveries b.cpu v External None).at_each s)

by_interrupt_agrees : Laws → (m : Setting) (v : Option ℕ) (b : State) (s : Space)
    → Agree (by_interrupt m v b s) (by_interrupt (on_bare m) v b (bare s))
by_interrupt_agrees laws m None b s = worked_agrees laws m b s
by_interrupt_agrees laws m (Some v) b s = interrupted_agrees laws m b v s

stepped_agrees : Laws → (m : Setting) (b : State) → Agree (stepped m b) (stepped (on_bare m) b)
stepped_agrees laws m b =
    by_interrupt_agrees laws m (interrupt_of b.cpu b.board) (unheld b) (space_at_start m.mode m.frames b.cpu b.ram b.set)

pub steps_agree : Laws → StepsAgree
unfolding step_of
steps_agree laws m b set = stepped_agrees laws m (record b { board = given b.board m.script b.step; set = set })

-- Runs.

loosened : (m : Setting) (b : State) (set : Set) → Loosened m b set → Loosened (on_bare m) b set
loosened m b set h = record {
  each = λ page e is. elim (h.each page e is) [
    | inl k ↦ inl k
    | inr k ↦ inr (record {
      page_in = k.page_in;
      dir_at = k.dir_at;
      word_at = k.word_at;
      dirty = k.dirty;
      found = k.found;
      accessed = k.accessed;
      is_dirty = k.is_dirty;
    })
  ];
}

pub went_agrees : StepsAgree → (m : Setting) (b new : State) (set : Set) (report : Report) → step_of m b set ≡ Went report new
    → step_of (on_bare m) b set ≡ Went report new
went_agrees law m b new set report is = elim (law m b set) [
  | inl h ↦ absurd (clash (ap is_extra (sym is) ∙ h))
  | inr h ↦ h ∙ is
]

pub all_steps : StepsAgree → (m : Setting) (old new : State) (sets : List Set) (reports : List Report) → Steps m old sets reports new
    → Steps (on_bare m) old sets reports new
unfolding Steps
all_steps law m old new [] reports steps = steps
all_steps law m old new (set ∷ sets) reports steps = (
  steps.0,
  steps.1,
  steps.2,
  loosened m old set steps.3,
  went_agrees law m old steps.0 set steps.1 steps.4,
  all_steps law m steps.0 new sets steps.2 steps.5,
  steps.6,
)

pub halts_agrees : StepsAgree → (m : Setting) (b : State) (set : Set) (stop : Stop) → is_extra_stop stop ≡ false
    → step_of m b set ≡ Halts stop → step_of (on_bare m) b set ≡ Halts stop
halts_agrees law m b set stop plain is = elim (law m b set) [
  | inl h ↦ absurd (clash (sym plain ∙ (ap is_extra (sym is) ∙ h)))
  | inr h ↦ h ∙ is
]

ends_agree : StepsAgree → (m : Setting) (n : ℕ) (last : State) (stop : Stop) (extra : Bool) → is_extra_stop stop ≡ extra
    → EndsIn m n last (Stopped stop)
    → EndsIn (on_bare m) (cond extra last.step n) last (cond extra Bound (Stopped stop))
ends_agree law m n last stop true is h = refl
ends_agree law m n last stop false is h = (
  h.0,
  record {
    set = h.1.set;
    allowed = loosened m last h.1.set h.1.allowed;
    halts = halts_agrees law m last h.1.set stop is h.1.halts;
  },
)

pub runs_agree : StepsAgree → RunsAgree
runs_agree law m n old sets reports last Bound run = record { steps = all_steps law m old last sets reports run.steps; ends = run.ends }
runs_agree law m n old sets reports last (Stopped stop) run =
    record {
      steps = all_steps law m old last sets reports run.steps;
      ends = ends_agree law m n last stop (is_extra_stop stop) refl run.ends;
    }
