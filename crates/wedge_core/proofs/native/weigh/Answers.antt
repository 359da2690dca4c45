use Rattle.std.proofs.Common.{◌≡◌, ℕ, ◌==◌, ◌≤◌, sym, ap, subst, ◌∙◌, Ok, Err, arith, rules}
use Rattle.ia32_types.specs.declared.insn.Insn.{Insn}
use Rattle.ia32_rows.proofs.ShapeLaws.{shaped}
use Rattle.ia32_exec.specs.declared.outcome.Outcome as exec
use Rattle.ia32_exec.specs.Effect.{ranges_of}
use Rattle.descriptors.specs.declared.cpu.Cpu.{Cpu}
use Rattle.paging.specs.Space.{Space}
use Rattle.paging.specs.Work.{Outcome, on_value}
use Rattle.sys_exec.specs.declared.effect.Refusal.{Refusal}
use Rattle.step_exec.specs.Divided.{both_reached}
use Rattle.machine_model.specs.UsedPages.{RangesUse, Uses_on}
use Rattle.wedge_core.specs.Prepared.{left_undone, effect_in, weighed, prepared}
use Rattle.wedge_core.proofs.native.weigh.Goals as goal

-- both are translated
reached : (insn : Insn) (len : ℕ) (cpu : Cpu) (s t : Space) (x : Unit {0}) (out : exec.Outcome)
    → both_reached cpu (ranges_of insn cpu.regs) s ≡ Ok (x, t) → out ≡ effect_in insn len cpu t
    → prepared insn len cpu s ≡ left_undone out t
unfolding prepared
reached insn len cpu s t x out h e =
    ap (λ (o : Outcome Refusal (Unit {0})). on_value o (λ _. weighed insn len cpu)) h ∙ ap (λ (o : exec.Outcome). left_undone o t) (sym e)

-- one of them is refused
denied : (insn : Insn) (len : ℕ) (cpu : Cpu) (s t : Space) (e : Refusal) → both_reached cpu (ranges_of insn cpu.regs) s ≡ Err (e, t)
    → prepared insn len cpu s ≡ Err (e, t)
unfolding prepared
denied insn len cpu s t e h = ap (λ (o : Outcome Refusal (Unit {0})). on_value o (λ _. weighed insn len cpu)) h

few_pages : (n : ℕ) → n ≤ 8 → n ≤ 60
few_pages n h = omega (arith, h)

used : (insn : Insn) (cpu : Cpu) (s : Space) (o : Outcome Refusal (Unit {0})) → RangesUse → both_reached cpu (ranges_of insn cpu.regs) s ≡ o
    → Uses_on (cpu.cpl == 3) s o
used insn cpu s o all h = subst (λ (x : Outcome Refusal (Unit {0})). Uses_on (cpu.cpl == 3) s x) h (all cpu insn s)

pub reach_both-requires-clause-shape : goal.reach_both-requires-clause-shape
reach_both-requires-clause-shape g c = shaped c.requires.spelled.0 c.args.insn.now c.requires.spelled.1

pub user_outcome-requires-clause-shape : goal.user_outcome-requires-clause-shape
user_outcome-requires-clause-shape g c = shaped c.requires.spelled.0 c.args.insn.now c.requires.spelled.1

pub returns-in-Done-clause-uses : goal.returns-in-Done-clause-uses
returns-in-Done-clause-uses g c = used c.args.insn.now c.args.cpu.now _ _ c.works_use.ensures.ranges c.in_ok-reach_both.ensures.gives

pub returns-in-Done-clause-prepared : goal.returns-in-Done-clause-prepared
returns-in-Done-clause-prepared g c =
    reached c.args.insn.now c.args.len c.args.cpu.now _ _ _ _ c.in_ok-reach_both.ensures.gives (sym c.in-Done.is ∙ c.user_outcome.ensures)

pub returns-in-Raise-clause-refused : goal.returns-in-Raise-clause-refused
returns-in-Raise-clause-refused g c = used c.args.insn.now c.args.cpu.now _ _ c.works_use.ensures.ranges c.in_ok-reach_both.ensures.gives

pub returns-in-Raise-clause-prepared : goal.returns-in-Raise-clause-prepared
returns-in-Raise-clause-prepared g c =
    reached c.args.insn.now c.args.len c.args.cpu.now _ _ _ _ c.in_ok-reach_both.ensures.gives (sym c.in-Raise.is ∙ c.user_outcome.ensures)

pub returns-in-Stop-clause-prepared : goal.returns-in-Stop-clause-prepared
returns-in-Stop-clause-prepared g c =
    reached c.args.insn.now c.args.len c.args.cpu.now _ _ _ _ c.in_ok-reach_both.ensures.gives (sym c.in-Stop.is ∙ c.user_outcome.ensures)

pub user_outcome-requires-clause-made : goal.user_outcome-requires-clause-made
user_outcome-requires-clause-made g c = c.in_ok-reach_both.ensures.made

pub returns-in-Stop-clause-refused : goal.returns-in-Stop-clause-refused
returns-in-Stop-clause-refused g c = tt

pub returns-in-Done-clause-refused : goal.returns-in-Done-clause-refused
returns-in-Done-clause-refused g c = tt

pub returns-in-Raise-clause-uses : goal.returns-in-Raise-clause-uses
returns-in-Raise-clause-uses g c = tt

pub returns-in-Stop-clause-uses : goal.returns-in-Stop-clause-uses
returns-in-Stop-clause-uses g c = tt

pub returns-in-Done-clause-pages : goal.returns-in-Done-clause-pages
returns-in-Done-clause-pages g c = c.in_ok-reach_both.ensures.pages

pub returns-in-Raise-clause-pages : goal.returns-in-Raise-clause-pages
returns-in-Raise-clause-pages g c = c.in_ok-reach_both.ensures.pages

pub returns-in-Stop-clause-pages : goal.returns-in-Stop-clause-pages
returns-in-Stop-clause-pages g c = c.in_ok-reach_both.ensures.pages

pub returns-in-Done-clause-frame : goal.returns-in-Done-clause-frame
returns-in-Done-clause-frame g c = c.in_ok-reach_both.ensures.frame

pub returns-in-Raise-clause-frame : goal.returns-in-Raise-clause-frame
returns-in-Raise-clause-frame g c = c.in_ok-reach_both.ensures.frame

pub returns-in-Stop-clause-frame : goal.returns-in-Stop-clause-frame
returns-in-Stop-clause-frame g c = c.in_ok-reach_both.ensures.frame

-- ---- a range is refused

pub reach_both-requires-clause-room : goal.reach_both-requires-clause-room
reach_both-requires-clause-room g c = few_pages _ c.requires.pages

pub returns-in_err-reach_both-clause-prepared : goal.returns-in_err-reach_both-clause-prepared
returns-in_err-reach_both-clause-prepared g c =
    rw (denied c.args.insn.now c.args.len c.args.cpu.now _ _ _ c.in_err-reach_both.ensures.gives) (search rules)

pub returns-in_err-reach_both-clause-pages : goal.returns-in_err-reach_both-clause-pages
returns-in_err-reach_both-clause-pages g c = c.in_err-reach_both.ensures.pages

pub returns-in_err-reach_both-clause-frame : goal.returns-in_err-reach_both-clause-frame
returns-in_err-reach_both-clause-frame g c = c.in_err-reach_both.ensures.frame
