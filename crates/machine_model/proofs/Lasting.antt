-- What holds of a step's memory through all its accesses holds of what the step leaves.
use Rattle.std.proofs.Common.{◌≡◌, ℕ, ◌==◌, Bool, false, refl, subst, List, [], ◌∷◌, Option, None, Ok, Err}
use Rattle.ia32_types.specs.declared.insn.Insn.{Insn}
use Rattle.ia32_decode.specs.declared.answer.Decoded.TheVariants as begins
use Rattle.descriptors.specs.declared.cpu.Cpu.{Cpu}
use Rattle.paging.specs.Space.{Space}
use Rattle.paging.specs.Work.{Outcome}
use Rattle.sys_exec.specs.Operand.{past}
use Rattle.sys_exec.specs.declared.effect.SysOutcome.{SysOutcome}
use Rattle.event_entry.specs.declared.refusal.Kind.{Kind}
use Rattle.event_entry.specs.declared.refusal.Kind.TheVariants.{Soft, External}
use Rattle.event_entry.specs.Deliver.{delivered}
use Rattle.board.specs.declared.devices.Board.{Board}
use Rattle.board.specs.Boards.{given, acknowledged}
use Rattle.run_trace.specs.declared.items.What.{What}
use Rattle.run_trace.specs.declared.items.What.TheVariants.{Irq}
use Rattle.machine_model.specs.State.{Setting, State, space_at_start}
use Rattle.machine_model.specs.Instruction.{fetched, instructed}
use Rattle.machine_model.specs.Step.{Completed, Report, Result, Went, Halts, concluded, unheld, step_of}
use Rattle.machine_model.specs.Run.{Set}
use Rattle.machine_model.proofs.UsingWorks.{is_stop, is_end}
use Rattle.machine_model.proofs.Goes.{Fetch, Did, Reached, IsLess, Goes, Steps, steps}

-- of memory after work that is done, or refused by what isn't an end
abbrev pub On : {E A : Type 0} → (Space → Type 0) → (E → Bool) → Outcome E A → Type 0
On R ends (Ok x) = R x.1
On R ends (Err e) = ends e.0 ≡ false → R e.1

-- it holds at the start, and instructions and deliveries keep it
pub record Holds (b : State) (R : Space → Type 0) (s : Space) : Type 0 where
  pub start : R s
  pub fetches : On R is_stop (fetched (b.cpu.cpl == 3) b.cpu.regs.eip s)
  pub does : (insn : Insn) (len : ℕ) (t : Space) → R t → On R is_stop (instructed insn len b.cpu t)
  pub enters : (cpu : Cpu) (vector : ℕ) (kind : Kind) (code : Option ℕ) (t : Space) → R t → On R is_end (delivered cpu vector kind code t)

-- memory after the last access, from whose set the instruction itself may have dropped entries
pub record Lasts (R : Space → Type 0) (report : Report) (b : State) : Type 0 where
  pub last : Space
  pub holds : R last
  pub ram : b.ram ≡ last.ram
  pub set : IsLess b.set last.set
  pub tables : report.tables ≡ last.tables
  pub wrote : report.wrote ≡ last.wrote
  pub pages : report.pages ≡ last.visited

abbrev LastsIn : (Space → Type 0) → Result → Type 0
LastsIn R (Went report b) = Lasts R report b
LastsIn R (Halts stop) = Unit {0}

lasts_at : (R : Space → Type 0) (t : Space) → R t → (whats : List What) (c : Option Completed) (b : State) (cpu : Cpu) (board : Board)
    → LastsIn R (concluded whats c b cpu board t)
lasts_at R t h whats c b cpu board =
    record { last = t; holds = h; ram = refl; set = λ page e is. is; tables = refl; wrote = refl; pages = refl }

module _ (m : Setting) (b : State) (R : Space → Type 0) (s : Space) (k : Holds b R s) where
  module _ (f : Fetch) (h : On R is_stop f) where
    of_read : (insn : Insn) (len : ℕ) (t : Space) → f ≡ Ok (begins.Insn insn len, t) → R t
    of_read insn len t e = subst (λ (o : Fetch). On R is_stop o) e h

    of_did : (insn : Insn) (d : SysOutcome) (u : Space) → Did b f insn d u → R u
    of_did insn d u g = subst (On R is_stop) g.does (k.does insn g.len g.from (of_read insn g.len g.from g.fetches))

    of_reached : (t : Space) → Reached b f t → R t
    of_reached t (Reached.read insn len u e) = of_read insn len u e
    of_reached t (Reached.unread r u goes e) = subst (λ (o : Fetch). On R is_stop o) e h goes
    of_reached t (Reached.done insn d u g) = of_did insn d u g
    of_reached t (Reached.undone insn len u r w goes e g) = subst (On R is_stop) g (k.does insn len u (of_read insn len u e)) goes
    of_reached t (Reached.barred insn len vector u w e g) =
        subst (On R is_end) g (k.enters (past b.cpu len) vector Soft None u (of_read insn len u e)) refl

    of_goes : (r : Result) → Goes m b f r → LastsIn R r
    of_goes r (Goes.stops stop) = tt
    of_goes r (Goes.enters c base vector kind code t cpu u is g l e) =
        lasts_at R u (subst (On R is_end) e (k.enters base vector kind code t (of_reached t l))) [] c b cpu b.board
    of_goes r (Goes.does insn d u g whats cpu board set e less) =
        record { last = u; holds = of_did insn d u g; ram = refl; set = less; tables = refl; wrote = refl; pages = refl }

  of_steps : (o : Option ℕ) (r : Result) → Steps m b o s r → LastsIn R r
  of_steps o r (Steps.stops stop) = tt
  of_steps o r (Steps.rests halted) = lasts_at R s k.start [] None b b.cpu b.board
  of_steps o r (Steps.takes v cpu u e) =
      lasts_at R u (subst (On R is_end) e (k.enters b.cpu v External None s k.start)) (Irq v ∷ []) None b cpu (acknowledged b.board)
  of_steps o r (Steps.fetches x quiet awake well h) = of_goes _ k.fetches x h

pub lasts : (m : Setting) (b : State) (set : Set) (R : Space → Type 0)
    → Holds (unheld b) R (space_at_start m.mode m.frames b.cpu b.ram set)
    → (report : Report) (after : State) → step_of m b set ≡ Went report after → Lasts R report after
unfolding step_of
lasts m b set R k report after is =
    let c : State = record b { board = given b.board m.script b.step; set = set } in
    subst (LastsIn R) is (of_steps m (unheld c) R _ (record { start = k.start; fetches = k.fetches; does = k.does; enters = k.enters })
    _ _ (steps m c))
