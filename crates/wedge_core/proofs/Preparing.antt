-- An instruction that the host does by itself: its step is its ranges, and then its effect.
use Rattle.std.proofs.Common.{◌≡◌, ◌⊎◌, inl, inr, ℕ, ◌/◌, ◌%◌, ◌==◌, nat_le, Bool, true, false, cond, not, ◌||◌, refl, sym, ap, subst, ◌∙◌, List, Option, Some, None, Ok, Err}
use Rattle.std.specs.FinMap.{FinMap, get}
use Rattle.std.specs.Ordering.{nat_cmp}
use Rattle.std.proofs.lemmas.Bool.{and_parts, both_ways, eqb-true}
use Rattle.guest_ram.specs.Bytes as bytes
use Rattle.ia32_types.specs.declared.flags.Regs.{Regs}
use Rattle.ia32_types.specs.declared.insn.Insn.{Insn}
use Rattle.ia32_types.specs.declared.insn.Op.{Op}
use Rattle.ia32_types.specs.declared.insn.Op.TheVariants as op
use Rattle.ia32_rows.specs.Spells.{Spells}
use Rattle.ia32_rows.proofs.OperandLaws.{operands_fit}
use Rattle.ia32_rows.proofs.ShapeLaws.{shaped}
use Rattle.ia32_decode.specs.declared.answer.Decoded.TheVariants as begins
use Rattle.ia32_exec.specs.declared.outcome.Outcome as exec
use Rattle.ia32_exec.specs.declared.outcome.Outcome.TheVariants as outcomes
use Rattle.ia32_exec.specs.declared.outcome.Stores.{Stores}
use Rattle.ia32_exec.specs.declared.access.Range.{Range}
use Rattle.ia32_exec.specs.declared.access.Ranges.{Ranges}
use Rattle.ia32_exec.specs.Effect.{effect, ranges_of}
use Rattle.ia32_exec.specs.UserEffect.{user_effect}
use Rattle.descriptors.specs.declared.cpu.Cpu.{Cpu}
use Rattle.paging.specs.declared.entry.Entry.{Entry}
use Rattle.paging.specs.Fresh.{has}
use Rattle.paging.specs.Space.{Space, byte_at, place, place_by}
use Rattle.paging.specs.Work.{Outcome, Work, on_value, unless}
use Rattle.sys_exec.specs.declared.effect.Refusal.{Refusal}
use Rattle.sys_exec.specs.declared.effect.Refusal.TheVariants as refusal
use Rattle.sys_exec.specs.declared.effect.SysOutcome.{SysOutcome}
use Rattle.sys_exec.specs.Sys.{sys_work}
use Rattle.step_exec.specs.Plain.{is_denied, is_refused, is_in, reached, byte_by, executed}
use Rattle.step_exec.specs.Divided.{both_reached, byte_of, completed, divided}
use Rattle.step_exec.specs.Users.{IsUser, IsUserSite, selectors_of, unnull, user_finished, user_form, user_executed}
use Rattle.step_exec.proofs.Divided.{executed_divides}
use Rattle.step_exec.proofs.UserForms.{has_user_form}
use Rattle.host_cpl3.specs.Permit.{permitted_row, permitted}
use Rattle.machine_model.specs.Able.{IsAble}
use Rattle.machine_model.specs.Alone.{is_native}
use Rattle.machine_model.specs.Counts.{is_software}
use Rattle.machine_model.specs.Instruction.{is_plain, instructed, done_plainly, fetched}
use Rattle.machine_model.specs.State.{Setting, State}
use Rattle.machine_model.specs.Step.{after_instruction, after_refusal, begun, by_decoded}
use Rattle.machine_step.proofs.Refused.{refused_same}
use Rattle.native_steps.proofs.Doing.{plain_effect, nothing_reached, plainly}
use Rattle.native_steps.proofs.Together.{by_op_is, not_soft}
use Rattle.native_steps.proofs.Uses.{reaching_earlier}
use Rattle.wedge_core.specs.Prepared.{left_undone, effect_in, weighed, prepared}
use Rattle.wedge_core.specs.Tries.{IsPrepared}

-- ---- which instructions they are

permitted_by : (user : Bool) (o : Op) (imm : ℕ) → is_native user o ≡ true → permitted_row o imm ≡ Ok tt
permitted_by user op.Int imm e = absurd (both_ways false refl e)
permitted_by user op.Int3 imm e = absurd (both_ways false refl e)
permitted_by user op.Cli imm e = absurd (both_ways false refl e)
permitted_by user op.Sti imm e = absurd (both_ways false refl e)
permitted_by user op.Hlt imm e = absurd (both_ways false refl e)
permitted_by user op.Iret imm e = absurd (both_ways false refl e)
permitted_by user op.ReadControl imm e = absurd (both_ways false refl e)
permitted_by user op.WriteControl imm e = absurd (both_ways false refl e)
permitted_by user op.LoadGdt imm e = absurd (both_ways false refl e)
permitted_by user op.LoadIdt imm e = absurd (both_ways false refl e)
permitted_by user op.LoadTask imm e = absurd (both_ways false refl e)
permitted_by user op.DropPage imm e = absurd (both_ways false refl e)
permitted_by user op.LoadSeg imm e = absurd (both_ways false refl e)
permitted_by user op.PopSeg imm e = absurd (both_ways false refl e)
permitted_by user op.FarJump imm e = absurd (both_ways false refl e)
permitted_by user op.PortIn imm e = absurd (both_ways false refl e)
permitted_by user op.PortOut imm e = absurd (both_ways false refl e)
permitted_by user o imm e = refl

-- at level 0 no sensitive one, at level 3 some of them
native_is : (user : Bool) (o : Op) → is_native user o ≡ true → (is_plain o ≡ true) ⊎ ((user ≡ true) × (is_plain o ≡ false) × IsUserSite o)
native_is user op.Int e = absurd (both_ways false refl e)
native_is user op.Int3 e = absurd (both_ways false refl e)
native_is user op.PushFlags e = inr (e, refl, tt)
native_is user op.PopFlags e = inr (e, refl, tt)
native_is user op.ReadSeg e = inr (e, refl, tt)
native_is user op.PushSeg e = inr (e, refl, tt)
native_is user op.Return e = inr (e, refl, tt)
native_is user op.JumpTo e = inr (e, refl, tt)
native_is user op.CallTo e = inr (e, refl, tt)
native_is user o e = inl e

plain_by : (o : Op) → is_native false o ≡ true → is_plain o ≡ true
plain_by o e = elim (native_is false o e) [ inl plain ↦ plain | inr q ↦ absurd (both_ways false refl q.0) ]

-- ---- a user's processor

user_cpu : (cpu : Cpu) → IsAble cpu → (cpu.cpl == 3) ≡ true → IsUser cpu
user_cpu cpu able three =
    let user : cpu.cpl ≡ 3 = eqb-true cpu.cpl 3 three in
    let level : ℕ = cpu.regs.flags.bits / 4096 % 4 in
    let zero : level ≡ 0 = eqb-true level 0 (and_parts (has cpu.regs.flags.bits 512) (level == 0) (able.users user)).1 in
    record {
      level = ap (λ (x : ℕ). x == 0) user;
      rights = ap (λ (x : ℕ). nat_le x level) user ∙ ap (λ (x : ℕ). nat_le 3 x) zero;
      stack = able.stack;
    }

-- ---- an insensitive instruction

abbrev done_in : Insn → ℕ → Cpu → Work Refusal SysOutcome
done_in insn len cpu s = user_finished cpu (effect_in insn len cpu s) s

plain_outcome : (insn : Insn) (len : ℕ) (cpu : Cpu) → is_plain insn.op ≡ true → (o : Outcome Refusal (Unit {0}))
    → done_plainly (on_value o (λ _. completed insn len cpu)) ≡ on_value o (λ _. done_in insn len cpu)
unfolding completed
plain_outcome insn len cpu e (Ok x) =
    plainly cpu x.1 (effect insn len cpu.regs (byte_of (ranges_of insn cpu.regs) x.1))
    ∙ ap (λ (o : exec.Outcome). user_finished cpu o x.1)
    (sym (plain_effect (selectors_of cpu) insn len cpu.regs (byte_of (ranges_of insn cpu.regs) x.1) e))
plain_outcome insn len cpu e (Err refused) = refl

plain_divides : (insn : Insn) (len : ℕ) (cpu : Cpu) (s : Space) → is_plain insn.op ≡ true
    → instructed insn len cpu s ≡ on_value (both_reached cpu (ranges_of insn cpu.regs) s) (λ _. done_in insn len cpu)
unfolding instructed divided
plain_divides insn len cpu s e =
    ap (λ (t : Bool). cond t (done_plainly (executed insn len cpu s)) (sys_work insn len cpu s)) e
    ∙ (ap done_plainly (executed_divides insn len cpu s) ∙ plain_outcome insn len cpu e (both_reached cpu (ranges_of insn cpu.regs) s))

-- ---- a sensitive one, by a user

-- bytes of the read range, by the translations that it had
bytes_same : (cpu : Cpu) (read write : Option Range) (s t : Space) → reached cpu true write s ≡ Ok (tt, t)
    → byte_by read s t ≡ byte_of (record { read = read; write = write }) t
unfolding byte_at place
bytes_same cpu read None s t e =
    subst (λ (x : Space). byte_by read s x ≡ byte_of (record { read = read; write = None }) x) (nothing_reached s t e) refl
bytes_same cpu read (Some w) s t e =
    ap (λ (x : FinMap nat_cmp Entry). λ (at : ℕ). cond (is_in read at) (bytes.byte t.ram (place_by (get x (at / 4096)) at))
    (bytes.byte t.ram (place_by (get t.set (at / 4096)) at)))
    (sym (reaching_earlier s t w.at w.len (record { write = true; user = cpu.cpl == 3 }) e))

module _ (cpu : Cpu) (f : (ℕ → ℕ) → exec.Outcome) where
  nulls : (a b : Bool) (k : Space → Outcome Refusal SysOutcome) (s : Space)
      → on_value (unless (refusal.Raise 13 0) (not a) s) (λ _ t. on_value (unless (refusal.Raise 13 0) (not b) t) (λ _. k)) ≡ on_value
      (unless (refusal.Raise 13 0) (not (a || b)) s) (λ _. k)
  nulls true b k s = refl
  nulls false b k s = refl

  both_null : (read write : Option Range) (k : Space → Outcome Refusal SysOutcome) (s : Space)
      → on_value (unnull cpu read s) (λ _ t. on_value (unnull cpu write t) (λ _. k)) ≡ on_value
      (unless (refusal.Raise 13 0) (not (is_denied cpu read || is_denied cpu write)) s) (λ _. k)
  both_null None None k s = nulls false false k s
  both_null None (Some w) k s = nulls false (is_denied cpu (Some w)) k s
  both_null (Some r) None k s = nulls (is_denied cpu (Some r)) false k s
  both_null (Some r) (Some w) k s = nulls (is_denied cpu (Some r)) (is_denied cpu (Some w)) k s

  abbrev ended_by : Option Range → Option Range → Space → Outcome Refusal SysOutcome
  ended_by read write t = user_finished cpu (f (byte_of (record { read = read; write = write }) t)) t

  by_writes : (read write : Option Range) (s : Space) (o : Outcome Refusal (Unit {0})) → reached cpu true write s ≡ o
      → on_value o (λ _ t. user_finished cpu (f (byte_by read s t)) t) ≡ on_value o (λ _. ended_by read write)
  by_writes read write s (Ok x) e = ap (λ (b : ℕ → ℕ). user_finished cpu (f b) x.1) (bytes_same cpu read write s x.1 e)
  by_writes read write s (Err refused) e = refl

  by_reads : (read write : Option Range) (o : Outcome Refusal (Unit {0}))
      → on_value o (λ _ s. on_value (reached cpu true write s) (λ _ t. user_finished cpu (f (byte_by read s t)) t)) ≡ on_value
      (on_value o (λ _. reached cpu true write)) (λ _. ended_by read write)
  by_reads read write (Ok x) = by_writes read write x.1 (reached cpu true write x.1) refl
  by_reads read write (Err refused) = refl

  by_nulls : (read write : Option Range) (o : Outcome Refusal (Unit {0}))
      → on_value o (λ _ s. on_value (reached cpu false read s)
      (λ _ t. on_value (reached cpu true write t) (λ _ u. user_finished cpu (f (byte_by read t u)) u)))
      ≡ on_value (on_value o (λ _ s. on_value (reached cpu false read s) (λ _. reached cpu true write))) (λ _. ended_by read write)
  by_nulls read write (Ok x) = by_reads read write (reached cpu false read x.1)
  by_nulls read write (Err refused) = refl

  form_divides : (x : Ranges) (s : Space) → user_form cpu x f s ≡ on_value (both_reached cpu x s) (λ _. ended_by x.read x.write)
  unfolding both_reached
  form_divides x s =
      both_null x.read x.write
      (λ t. on_value (reached cpu false x.read t)
      (λ _ u. on_value (reached cpu true x.write u) (λ _ v. user_finished cpu (f (byte_by x.read u v)) v))) s
      ∙ by_nulls x.read x.write (unless (refusal.Raise 13 0) (not (is_refused cpu x)) s)

site_outcome : (insn : Insn) (len : ℕ) (cpu : Cpu) (o : Outcome Refusal (Unit {0}))
    → on_value o (λ _ t. user_finished cpu (effect_in insn len cpu t) t) ≡ on_value o (λ _. done_in insn len cpu)
site_outcome insn len cpu (Ok x) = refl
site_outcome insn len cpu (Err refused) = refl

site_divides : (insn : Insn) (len : ℕ) (cpu : Cpu) (s : Space) → is_plain insn.op ≡ false → IsUserSite insn.op → IsUser cpu
    → ((found : List ℕ) × Spells found insn)
    → instructed insn len cpu s ≡ on_value (both_reached cpu (ranges_of insn cpu.regs) s) (λ _. done_in insn len cpu)
unfolding instructed user_executed
site_divides insn len cpu s e site user spelled =
    ap (λ (t : Bool). cond t (done_plainly (executed insn len cpu s)) (sys_work insn len cpu s)) e
    ∙ (has_user_form insn len cpu s site (operands_fit spelled.0 insn spelled.1) (shaped spelled.0 insn spelled.1) user
    ∙ (form_divides cpu (user_effect (selectors_of cpu) insn len cpu.regs) (ranges_of insn cpu.regs) s
    ∙ site_outcome insn len cpu (both_reached cpu (ranges_of insn cpu.regs) s)))

-- ---- either

native_divides : (insn : Insn) (len : ℕ) (cpu : Cpu) (s : Space) → IsAble cpu → is_native (cpu.cpl == 3) insn.op ≡ true
    → ((found : List ℕ) × Spells found insn)
    → instructed insn len cpu s ≡ on_value (both_reached cpu (ranges_of insn cpu.regs) s) (λ _. done_in insn len cpu)
native_divides insn len cpu s able native spelled = elim (native_is (cpu.cpl == 3) insn.op native) [
  | inl plain ↦ plain_divides insn len cpu s plain
  | inr q ↦ site_divides insn len cpu s q.1 q.2 (user_cpu cpu able q.0) spelled
]

left_refused : (cpu : Cpu) (o : exec.Outcome) (s : Space) (x : Refusal × Space) → left_undone o s ≡ Err x → user_finished cpu o s ≡ Err x
left_refused cpu (outcomes.Done regs stores) s x e = absurd cc
left_refused cpu (outcomes.Raise vector code) s x e = let p : ◌≡◌ {A = Refusal × Space} (refusal.Raise vector code, s) x =
    cc in ap (λ (y : Refusal × Space). Err y) p
left_refused cpu (outcomes.Stop stop) s x e = let p : ◌≡◌ {A = Refusal × Space} (refusal.Stop stop, s) x =
    cc in ap (λ (y : Refusal × Space). Err y) p

refused_on : (insn : Insn) (len : ℕ) (cpu : Cpu) (o : Outcome Refusal (Unit {0})) (x : Refusal × Space)
    → on_value o (λ _. weighed insn len cpu) ≡ Err x → on_value o (λ _. done_in insn len cpu) ≡ Err x
refused_on insn len cpu (Ok y) x e = left_refused cpu (effect_in insn len cpu y.1) y.1 x e
refused_on insn len cpu (Err y) x e = let p : y ≡ x = cc in ap (λ (z : Refusal × Space). Err z) p

soft_by : (user : Bool) (o : Op) (imm : ℕ) → is_native user o ≡ true → is_software o ≡ false
soft_by user o imm native = not_soft o imm (permitted_by user o imm native)

-- where it isn't prepared, the step goes on by the refusal
pub refused_as : (m : Setting) (b : State) (insn : Insn) (len : ℕ) (s : Space) → IsAble b.cpu → is_native (b.cpu.cpl == 3) insn.op ≡ true
    → ((found : List ℕ) × Spells found insn)
    → (r : Refusal) (t : Space) → prepared insn len b.cpu s ≡ Err (r, t) → by_decoded m b (begins.Insn insn len) s ≡ after_refusal m b r t
unfolding prepared
refused_as m b insn len s able native spelled r t e =
    by_op_is m insn.op b insn len s (soft_by (b.cpu.cpl == 3) insn.op insn.imm native)
    ∙ (ap (after_instruction m b (begun b insn))
    (native_divides insn len b.cpu s able native spelled ∙ refused_on insn len b.cpu
    (both_reached b.cpu (ranges_of insn b.cpu.regs) s) (r, t) e)
    ∙ refused_same m b (begun b insn) r t)

-- ---- where it is prepared

value_parts : (o : Outcome Refusal (Unit {0})) (f : Work Refusal (Unit {0})) (x : Unit {0} × Space) → on_value o (λ _. f) ≡ Ok x
    → (u : Space) × ((o ≡ Ok (tt, u)) × (f u ≡ Ok x))
value_parts (Ok y) f x e = (y.1, (refl, e))
value_parts (Err refused) f x e = absurd cc

left_done : (o : exec.Outcome) (s t : Space) → left_undone o s ≡ Ok (tt, t) → (s ≡ t)
    × ((regs : Regs) × ((stores : Stores) × (o ≡ outcomes.Done regs stores)))
left_done (outcomes.Done regs stores) s t e = (nothing_reached s t e, (regs, (stores, refl)))
left_done (outcomes.Raise vector code) s t e = absurd cc
left_done (outcomes.Stop stop) s t e = absurd cc

unless_parts : (refused : Bool) (s t : Space) → unless (refusal.Raise 13 0) (not refused) s ≡ Ok (tt, t) → (refused ≡ false) × (s ≡ t)
unless_parts true s t e = absurd cc
unless_parts false s t e = (refl, nothing_reached s t e)

record AreReached (cpu : Cpu) (x : Ranges) (s t : Space) : Type 0 where
  free : is_refused cpu x ≡ false
  after_read : Space
  reads : reached cpu false x.read s ≡ Ok (tt, after_read)
  writes : reached cpu true x.write after_read ≡ Ok (tt, t)

reached_parts : (cpu : Cpu) (x : Ranges) (s t : Space) → both_reached cpu x s ≡ Ok (tt, t) → AreReached cpu x s t
unfolding both_reached
reached_parts cpu x s t e =
    let p = value_parts (unless (refusal.Raise 13 0) (not (is_refused cpu x)) s)
    (λ u. on_value (reached cpu false x.read u) (λ _. reached cpu true x.write)) (tt, t) e in
    let q = unless_parts (is_refused cpu x) s p.0 p.1.0 in
    let r = value_parts (reached cpu false x.read p.0) (reached cpu true x.write) (tt, t) p.1.1 in
    record {
      free = q.0;
      after_read = r.0;
      reads = subst (λ (u : Space). reached cpu false x.read u ≡ Ok (tt, r.0)) (sym q.1) r.1.0;
      writes = r.1.1;
    }

pub prepared_is : (b : State) (s fetch t : Space) (insn : Insn) (len : ℕ)
    → fetched (b.cpu.cpl == 3) b.cpu.regs.eip s ≡ Ok (begins.Insn insn len, fetch) → is_native (b.cpu.cpl == 3) insn.op ≡ true
    → prepared insn len b.cpu fetch ≡ Ok (tt, t) → IsPrepared b s t
unfolding prepared permitted
prepared_is b s fetch t insn len fetches native e =
    let p = value_parts (both_reached b.cpu (ranges_of insn b.cpu.regs) fetch) (weighed insn len b.cpu) (tt, t) e in
    let q = left_done (effect_in insn len b.cpu p.0) p.0 t p.1.1 in
    let r = reached_parts b.cpu (ranges_of insn b.cpu.regs) fetch t
    (subst (λ (u : Space). both_reached b.cpu (ranges_of insn b.cpu.regs) fetch ≡ Ok (tt, u)) q.0 p.1.0) in
    record {
      insn = insn;
      len = len;
      after_fetch = fetch;
      after_read = r.after_read;
      regs = q.1.0;
      stores = q.1.1.0;
      fetches = fetches;
      native = native;
      permits = permitted_by (b.cpu.cpl == 3) insn.op insn.imm native;
      plain = λ kernel. plain_by insn.op (ap (λ (u : Bool). is_native u insn.op) (sym kernel) ∙ native);
      segments = r.free;
      reads = r.reads;
      writes = r.writes;
      effect = subst (λ (u : Space). effect_in insn len b.cpu u ≡ outcomes.Done q.1.0 q.1.1.0) q.0 q.1.1.1;
    }
