-- How a step comes to its result. What holds of every step is read off this: a clause for each way to go on.
use Rattle.std.proofs.Common.{◌≡◌, ℕ, ◌+◌, ◌*◌, ◌/◌, ◌%◌, ◌==◌, Bool, true, false, cond, not, refl, sym, ap, ◌∙◌, List, [], ◌∷◌, Option, Some, None, Ok, Err}
use Rattle.std.specs.Option.{ForSome}
use Rattle.std.specs.FinMap.{get, empty, remove, get-empty, get-remove, get-retain_keys, nat_cmp-IsAntisymmetric}
use Rattle.std.specs.Ordering.{nat_cmp}
use Rattle.std.proofs.lemmas.Cmp.{nat_cmp_total}
use Rattle.std.proofs.lemmas.Option.{none-some}
use Rattle.ia32_types.specs.declared.stop.Stop.{Stop}
use Rattle.ia32_types.specs.declared.stop.Stop.TheVariants as halt
use Rattle.ia32_types.specs.declared.stop.Did as written
use Rattle.ia32_types.specs.declared.stop.Did.TheVariants as did
use Rattle.ia32_types.specs.declared.insn.Insn.{Insn}
use Rattle.ia32_types.specs.declared.insn.Op.{Op}
use Rattle.ia32_types.specs.declared.insn.Op.TheVariants as op
use Rattle.ia32_decode.specs.declared.answer.Decoded.{Decoded}
use Rattle.ia32_decode.specs.declared.answer.Decoded.TheVariants as begins
use Rattle.descriptors.specs.declared.cpu.Cpu.{Cpu}
use Rattle.paging.specs.declared.entry.Entry.{Entry}
use Rattle.paging.specs.Space.{Space}
use Rattle.paging.specs.Uses.{without_dir}
use Rattle.paging.specs.Work.{Outcome}
use Rattle.sys_exec.specs.Operand.{past}
use Rattle.sys_exec.specs.declared.effect.Refusal.{Refusal}
use Rattle.sys_exec.specs.declared.effect.Refusal.TheVariants as refusal
use Rattle.sys_exec.specs.declared.effect.SysOutcome.{SysOutcome}
use Rattle.sys_exec.specs.declared.effect.SysEffect.{SysEffect}
use Rattle.sys_exec.specs.declared.effect.SysEffect.TheVariants as effects
use Rattle.event_entry.specs.declared.refusal.Kind.{Kind}
use Rattle.event_entry.specs.declared.refusal.Kind.TheVariants.{Raised, Soft, External}
use Rattle.event_entry.specs.declared.refusal.NotDelivered.{NotDelivered}
use Rattle.event_entry.specs.declared.refusal.NotDelivered.TheVariants as not_delivered
use Rattle.event_entry.specs.Deliver.{delivered}
use Rattle.board.specs.declared.devices.Board.{Board}
use Rattle.board.specs.declared.devices.PortRead.{PortRead}
use Rattle.board.specs.declared.devices.PortRead.TheVariants as answer
use Rattle.board.specs.Ports.{port_read, port_written}
use Rattle.board.specs.Boards.{acknowledged}
use Rattle.run_trace.specs.declared.items.What.{What}
use Rattle.run_trace.specs.declared.items.What.TheVariants.{Sent, Irq}
use Rattle.machine_model.specs.State.{Setting, State, space_at_start}
use Rattle.machine_model.specs.Rules.{stands_well, may_leave}
use Rattle.machine_model.specs.Instruction.{fetched, instructed, with_accumulator}
use Rattle.machine_model.specs.Step.{Completed, Result, Halts, concluded, in_item, after_read, after_write, out_item, stop_of, after_delivery, raised, code_of, after_effect, after_software, after_instruction, interrupts_by, begun, by_op, by_decoded, after_refusal, after_fetch, begins_next, worked, interrupted, interrupt_of, by_interrupt, unheld, stepped}
use Rattle.machine_model.specs.Counts.{is_software}
use Rattle.machine_model.specs.Run.{Set}
use Rattle.machine_model.proofs.Following.{not_absent}
use Rattle.machine_model.proofs.UsingWorks.{is_stop}

-- ---- what effects drop of a set

-- nothing else is in the set
abbrev pub IsLess : Set → Set → Type 0
IsLess less set = (page : ℕ) → ForSome (get less page) (λ e. get set page ≡ Some e)

pub not_dropped : (c : Bool) (o : Option Entry) (e : Entry) → cond c o None ≡ Some e → o ≡ Some e
not_dropped true o e is = is
not_dropped false o e is = absurd (let f : ◌≡◌ {A = Option Entry} None (Some e) = is in cc)

pub retained : (set : Set) (index q : ℕ) → get (without_dir set index) q ≡ cond (not (q / 1024 == index)) (get set q) None
retained set index q = get-retain_keys set (λ page. not (page / 1024 == index)) q
    (λ x t. ap (λ page. not (page / 1024 == index)) (sym (nat_cmp-IsAntisymmetric q x t)))

page_dropped : (set : Set) (page : ℕ) → IsLess (remove set page) set
page_dropped set page q e is = not_absent _ (get set q) e (sym (get-remove nat_cmp_total set page q) ∙ is)

dir_dropped : (set : Set) (index : ℕ) → IsLess (without_dir set index) set
dir_dropped set index q e is = not_dropped _ (get set q) e (sym (retained set index q) ∙ is)

all_dropped : (set : Set) → IsLess empty set
all_dropped set q e is = absurd (none-some e (sym (get-empty nat_cmp q) ∙ is))

-- ---- what a step is made of

abbrev pub Fetch : Type 0
Fetch = Outcome Refusal Decoded

-- the instruction that was read was done
pub record Did (b : State) (f : Fetch) (insn : Insn) (d : SysOutcome) (u : Space) : Type 0 where
  pub len : ℕ
  pub from : Space
  pub fetches : f ≡ Ok (begins.Insn insn len, from)
  pub does : instructed insn len b.cpu from ≡ Ok (d, u)

-- where a delivery begins: after the fetch, after the instruction, or after a gate that this level may not use
pub data Reached (b : State) (f : Fetch) : Space → Type 0 where
  read : (insn : Insn) (len : ℕ) (t : Space) → f ≡ Ok (begins.Insn insn len, t) → Reached b f t
  unread : (r : Refusal) (t : Space) → is_stop r ≡ false → f ≡ Err (r, t) → Reached b f t
  done : (insn : Insn) (d : SysOutcome) (u : Space) → Did b f insn d u → Reached b f u
  undone : (insn : Insn) (len : ℕ) (t : Space) (r : Refusal) (u : Space) → is_stop r ≡ false → f ≡ Ok (begins.Insn insn len, t)
      → instructed insn len b.cpu t ≡ Err (r, u) → Reached b f u
  barred : (insn : Insn) (len vector : ℕ) (t u : Space) → f ≡ Ok (begins.Insn insn len, t)
      → delivered (past b.cpu len) vector Soft None t ≡ Err (not_delivered.Privilege, u) → Reached b f u

-- the processor with which it begins
pub data Faces (b : State) (f : Fetch) : Cpu → Type 0 where
  as_is : Faces b f b.cpu
  at_fault : (at : ℕ) → Faces b f (record b.cpu { cr2 = at })
  past_it : (len : ℕ) → Faces b f (past b.cpu len)
  as_done : (insn : Insn) (d : SysOutcome) (u : Space) → Did b f insn d u → Faces b f d.cpu

-- of the instructions that are deliveries INT and INT3 are completed by them
pub data IsOf (b : State) (f : Fetch) : Option Completed → Type 0 where
  nothing : IsOf b f None
  software : (insn : Insn) (len : ℕ) (t : Space) → f ≡ Ok (begins.Insn insn len, t) → is_software insn.op ≡ true
      → IsOf b f (Some (begun b insn))

abbrev pub is_next : SysEffect → Bool
is_next effects.Next = true
is_next e = false

-- the processor in which an instruction that was done ends
pub data Ended (m : Setting) (b : State) (d : SysOutcome) : Cpu → Type 0 where
  goes_on : d.effect ≡ effects.Next → may_leave m.mode b.cpu d.cpu ≡ true → Ended m b d d.cpu
  asks : is_next d.effect ≡ false → Ended m b d d.cpu
  takes : (wide : Bool) (value : ℕ) → is_next d.effect ≡ false → Ended m b d (with_accumulator wide value d.cpu)

-- what comes of a fetch
pub data Goes (m : Setting) (b : State) (f : Fetch) : Result → Type 0 where
  stops : (stop : Stop) → Goes m b f (Halts stop)
  enters : (c : Option Completed) (base : Cpu) (vector : ℕ) (kind : Kind) (code : Option ℕ) (t : Space) (cpu : Cpu) (u : Space) → IsOf b f c
      → Faces b f base → Reached b f t → delivered base vector kind code t ≡ Ok (cpu, u) → Goes m b f (concluded [] c b cpu b.board u)
  does : (insn : Insn) (d : SysOutcome) (u : Space) → Did b f insn d u → (whats : List What) (cpu : Cpu) (board : Board) (set : Set)
      → Ended m b d cpu → IsLess set u.set → Goes m b f (concluded whats (Some (begun b insn)) b cpu board (record u { set = set }))

-- what comes of a step that begins with this memory, by the interrupt that it takes
pub data Steps (m : Setting) (b : State) (o : Option ℕ) (s : Space) : Result → Type 0 where
  stops : (stop : Stop) → Steps m b o s (Halts stop)
  rests : b.cpu.halted ≡ true → Steps m b o s (concluded [] None b b.cpu b.board s)
  takes : (v : ℕ) (cpu : Cpu) (u : Space) → delivered b.cpu v External None s ≡ Ok (cpu, u)
      → Steps m b o s (concluded (Irq v ∷ []) None b cpu (acknowledged b.board) u)
  fetches : (r : Result) → o ≡ None → b.cpu.halted ≡ false → stands_well m b.cpu ≡ true
      → Goes m b (fetched (b.cpu.cpl == 3) b.cpu.regs.eip s) r → Steps m b o s r

module _ (m : Setting) (b : State) (f : Fetch) where
  chosen : (test : Bool) (x : Result) (stop : Stop) → (test ≡ true → Goes m b f x) → Goes m b f (cond test x (Halts stop))
  chosen true x stop h = h refl
  chosen false x stop h = Goes.stops stop

  -- ---- deliveries

  raises : (base : Cpu) (vector code : ℕ) (t : Space) → Faces b f base → Reached b f t → Goes m b f (raised m b base vector code t)
  raises base vector code t h k = of_outcome (delivered base vector Raised (code_of vector code) t) refl
    where
      of_outcome : (o : Outcome NotDelivered Cpu) → delivered base vector Raised (code_of vector code) t ≡ o
          → Goes m b f (after_delivery m [] b b.board o)
      of_outcome (Ok x) e = chosen (stands_well m x.0) _ halt.NotAStart
          (λ well. Goes.enters None base vector Raised (code_of vector code) t x.0 x.1 IsOf.nothing h k e)
      of_outcome (Err refused) e = Goes.stops (stop_of refused.0)

  of_refusal : (r : Refusal) (t : Space) → (is_stop r ≡ false → Reached b f t) → Goes m b f (after_refusal m b r t)
  of_refusal (refusal.Fault code at) t k = raises (record b.cpu { cr2 = at }) 14 code t (Faces.at_fault at) (k refl)
  of_refusal (refusal.Raise vector code) t k = raises b.cpu vector code t Faces.as_is (k refl)
  of_refusal (refusal.Stop stop) t k = Goes.stops stop

  of_software : (insn : Insn) (len vector : ℕ) (t : Space) → f ≡ Ok (begins.Insn insn len, t) → is_software insn.op ≡ true
      → Goes m b f (interrupts_by m b (begun b insn) len vector t)
  of_software insn len vector t is soft = of_outcome (delivered (past b.cpu len) vector Soft None t) refl
    where
      of_outcome : (o : Outcome NotDelivered Cpu) → delivered (past b.cpu len) vector Soft None t ≡ o
          → Goes m b f (after_software m b (begun b insn) vector o)
      of_outcome (Ok x) e =
          chosen (stands_well m x.0) _ halt.NotAStart
          (λ well. Goes.enters (Some (begun b insn)) (past b.cpu len) vector Soft None t x.0 x.1 (IsOf.software insn len t is soft)
          (Faces.past_it len) (Reached.read insn len t is) e)
      of_outcome (Err (not_delivered.Privilege, u)) e =
          raises b.cpu 13 (8 * vector + 2) u Faces.as_is (Reached.barred insn len vector t u is e)
      of_outcome (Err (not_delivered.Stop stop, u)) e = Goes.stops stop

  -- ---- an instruction that was done

  module _ (insn : Insn) (d : SysOutcome) (u : Space) (h : Did b f insn d u) where
    ends : (whats : List What) (cpu : Cpu) (board : Board) → Ended m b d cpu
        → Goes m b f (concluded whats (Some (begun b insn)) b cpu board u)
    ends whats cpu board e = Goes.does insn d u h whats cpu board u.set e (λ page x is. is)

    drops : (set : Set) → IsLess set u.set → is_next d.effect ≡ false
        → Goes m b f (concluded [] (Some (begun b insn)) b d.cpu b.board (record u { set = set }))
    drops set less e = Goes.does insn d u h [] d.cpu b.board set (Ended.asks e) less

    of_read : (port : ℕ) (wide : Bool) (x : PortRead × Board) → is_next d.effect ≡ false
        → Goes m b f (after_read b (begun b insn) d.cpu port wide u x)
    of_read port wide (answer.Stop, board) e = Goes.stops halt.DeviceUse
    of_read port wide (answer.Value value, board) e =
        ends (in_item port wide value ∷ []) (with_accumulator wide value d.cpu) board (Ended.takes wide value e)

    of_write : (item : What) (x : written.Did × Board) → is_next d.effect ≡ false
        → Goes m b f (after_write b (begun b insn) d.cpu item u x)
    of_write item (did.Stop, board) e = Goes.stops halt.DeviceUse
    of_write item (did.Done, board) e = ends (item ∷ []) d.cpu board (Ended.asks e)
    of_write item (did.Sent value, board) e = ends (item ∷ Sent value ∷ []) d.cpu board (Ended.asks e)

    of_effect : (e : SysEffect) → d.effect ≡ e → Goes m b f (after_effect m b (begun b insn) e d.cpu u)
    of_effect effects.Next e =
        chosen (may_leave m.mode b.cpu d.cpu) _ halt.UserFlags (λ may. ends [] d.cpu b.board (Ended.goes_on e may))
    of_effect effects.Halted e = ends [] d.cpu b.board (Ended.asks (ap is_next e))
    of_effect (effects.DropPage page) e = drops (remove u.set page) (page_dropped u.set page) (ap is_next e)
    of_effect (effects.DropDir index) e = drops (without_dir u.set index) (dir_dropped u.set index) (ap is_next e)
    of_effect effects.DropAll e = drops empty (all_dropped u.set) (ap is_next e)
    of_effect (effects.PortIn port wide) e = of_read port wide (port_read b.board port wide) (ap is_next e)
    of_effect (effects.PortOut port wide value) e =
        of_write (out_item port wide value) (port_written b.board port wide value) (ap is_next e)
    of_effect (effects.Raise vector code) e = raises d.cpu vector code u (Faces.as_done insn d u h) (Reached.done insn d u h)
    of_effect (effects.Stop stop) e = Goes.stops stop

  -- ---- the instruction that was read

  of_row : (insn : Insn) (len : ℕ) (t : Space) → f ≡ Ok (begins.Insn insn len, t)
      → Goes m b f (after_instruction m b (begun b insn) (instructed insn len b.cpu t))
  of_row insn len t is = of_outcome (instructed insn len b.cpu t) refl
    where
      of_outcome : (o : Outcome Refusal SysOutcome) → instructed insn len b.cpu t ≡ o → Goes m b f (after_instruction m b (begun b insn) o)
      of_outcome (Ok x) e = of_effect insn x.0 x.1 (record { len = len; from = t; fetches = is; does = e }) x.0.effect refl
      of_outcome (Err (refusal.Fault code at, u)) e =
          raises (record b.cpu { cr2 = at }) 14 code u (Faces.at_fault at) (Reached.undone insn len t (refusal.Fault code at) u refl is e)
      of_outcome (Err (refusal.Raise vector code, u)) e =
          raises b.cpu vector code u Faces.as_is (Reached.undone insn len t (refusal.Raise vector code) u refl is e)
      of_outcome (Err (refusal.Stop stop, u)) e = Goes.stops stop

  of_op : (o : Op) (insn : Insn) (len : ℕ) (t : Space) → insn.op ≡ o → f ≡ Ok (begins.Insn insn len, t)
      → Goes m b f (by_op m o b insn len t)
  of_op op.Int insn len t e is = of_software insn len (insn.imm % 256) t is (ap is_software e)
  of_op op.Int3 insn len t e is = of_software insn len 3 t is (ap is_software e)
  of_op o insn len t e is = of_row insn len t is

  of_decoded : (d : Decoded) (t : Space) → f ≡ Ok (d, t) → Goes m b f (by_decoded m b d t)
  of_decoded (begins.Insn insn len) t is = of_op insn.op insn len t refl is
  of_decoded begins.Short t is = Goes.stops halt.Unsupported
  of_decoded begins.Outside t is = Goes.stops halt.Unsupported

  of_fetch : (o : Fetch) → f ≡ o → Goes m b f (after_fetch m b o)
  of_fetch (Ok x) is = of_decoded x.0 x.1 is
  of_fetch (Err refused) is = of_refusal refused.0 refused.1 (λ no_stop. Reached.unread refused.0 refused.1 no_stop is)

pub goes : (m : Setting) (b : State) (f : Fetch) → Goes m b f (after_fetch m b f)
goes m b f = of_fetch m b f f refl

-- ---- a step

module _ (m : Setting) (b : State) (s : Space) where
  of_work : (o : Option ℕ) → o ≡ None → Steps m b o s (worked m b s)
  unfolding worked
  of_work o none = awake b.cpu.halted refl
    where
      begins_well : b.cpu.halted ≡ false → (test : Bool) → stands_well m b.cpu ≡ test
          → Steps m b o s (cond test (after_fetch m b (fetched (b.cpu.cpl == 3) b.cpu.regs.eip s)) (Halts halt.NotAStart))
      begins_well up true well = Steps.fetches _ none up well (goes m b (fetched (b.cpu.cpl == 3) b.cpu.regs.eip s))
      begins_well up false ill = Steps.stops halt.NotAStart

      awake : (test : Bool) → b.cpu.halted ≡ test → Steps m b o s (cond test (concluded [] None b b.cpu b.board s) (begins_next m b s))
      awake true halted = Steps.rests halted
      awake false up = begins_well up (stands_well m b.cpu) refl

  of_interrupt : (o : Option ℕ) → Steps m b o s (by_interrupt m o b s)
  unfolding interrupted
  of_interrupt None = of_work None refl
  of_interrupt (Some v) = of_outcome (delivered b.cpu v External None s) refl
    where
      of_outcome : (o : Outcome NotDelivered Cpu) → delivered b.cpu v External None s ≡ o
          → Steps m b (Some v) s (after_delivery m (Irq v ∷ []) b (acknowledged b.board) o)
      of_outcome (Ok x) e = well (stands_well m x.0)
        where
          well : (test : Bool)
              → Steps m b (Some v) s (cond test (concluded (Irq v ∷ []) None b x.0 (acknowledged b.board) x.1) (Halts halt.NotAStart))
          well true = Steps.takes v x.0 x.1 e
          well false = Steps.stops halt.NotAStart
      of_outcome (Err refused) e = Steps.stops (stop_of refused.0)

pub steps : (m : Setting) (b : State)
    → Steps m (unheld b) (interrupt_of b.cpu b.board) (space_at_start m.mode m.frames b.cpu b.ram b.set) (stepped m b)
steps m b = of_interrupt m (unheld b) (space_at_start m.mode m.frames b.cpu b.ram b.set) (interrupt_of b.cpu b.board)
