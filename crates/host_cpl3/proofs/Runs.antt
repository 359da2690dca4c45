-- A run, one instruction at a time.
use Rattle.std.proofs.Common.{◌≡◌, ℕ, zero, suc, ◌+◌, ◌-◌, ◌<◌, List, Ok, Err, refl, sym, ap, ◌∙◌, subst, inl, inr, arith}
use Rattle.ia32_types.specs.declared.flags.Regs.{Regs}
use Rattle.host_cpl3.specs.declared.view.View.{View}
use Rattle.host_cpl3.specs.declared.exit.Exit.{Exit}
use Rattle.host_cpl3.specs.declared.exit.Exit.TheVariants.{Entry, Budget}
use Rattle.host_cpl3.specs.declared.exit.Completion.{Completion}
use Rattle.host_cpl3.specs.declared.exit.Completion.TheVariants.{Completed, Entered}
use Rattle.host_cpl3.specs.Met.{Met}
use Rattle.host_cpl3.specs.HostStep.{host_step}
use Rattle.host_cpl3.proofs.Budgets.{step_not}
use Rattle.host_cpl3.specs.RunsTo.{Leaves, IsRun, EachIsRun}
use Rattle.host_cpl3.specs.HostRun.{Standing, counted, after_step, host_run}

one_more : (k i : ℕ) → i < k → k - i ≡ suc (k - (i + 1))
one_more k i lt = omega arith

-- with i of k instructions done
stepped : (v : View) (k i : ℕ) (s : Standing) (met : Met (Completion × List ℕ)) → i < k → host_step v s.ram s.regs ≡ met
    → host_run v (k - i) s ≡ after_step s met (host_run v (k - (i + 1)))
unfolding host_run
stepped v k i s met lt e = ap (λ n. host_run v n s) (one_more k i lt) ∙ ap (λ x. after_step s x (host_run v (k - (i + 1)))) e

pub run_on : (v : View) (k i : ℕ) (s : Standing) (done : Completion) (regs : Regs) (ram : List ℕ) → i < k
    → host_step v s.ram s.regs ≡ Ok (done, ram) → done ≡ Completed regs → host_run v (k - i) s ≡ host_run v (k - (i + 1))
    (counted s regs ram)
run_on v k i s done regs ram lt e is = stepped v k i s (Ok (Completed regs, ram)) lt (e ∙ ap (λ (d : Completion). Ok (d, ram)) is)

pub run_enters : (v : View) (k i : ℕ) (s : Standing) (done : Completion) (regs : Regs) (ram : List ℕ) → i < k
    → host_step v s.ram s.regs ≡ Ok (done, ram) → done ≡ Entered regs
    → host_run v (k - i) s ≡ (Entry regs.eip, record s { regs = regs; ram = ram })
run_enters v k i s done regs ram lt e is = stepped v k i s (Ok (Entered regs, ram)) lt (e ∙ ap (λ (d : Completion). Ok (d, ram)) is)

pub run_exits : (v : View) (k i : ℕ) (s : Standing) (exit : Exit) (ram : List ℕ) → i < k → host_step v s.ram s.regs ≡ Err exit → ram ≡ s.ram
    → host_run v (k - i) s ≡ (exit, record s { ram = ram })
run_exits v k i s exit ram lt e same = stepped v k i s (Err exit) lt e ∙ ap (λ (m : List ℕ). (exit, record s { ram = m })) (sym same)

pub run_ends : (v : View) (k i : ℕ) (s : Standing) → k ≡ i → host_run v (k - i) s ≡ (Budget, s)
unfolding host_run
run_ends v k i s e = ap (λ n. host_run v n s) (let z : k - i ≡ 0 = omega (arith, e) in z)

-- one completed instruction before a run
one_first : (v : View) (k : ℕ) (s : Standing) (regs : Regs) (ram : List ℕ) (exit : Exit) (t : Standing)
    → host_step v s.ram s.regs ≡ Ok (Completed regs, ram) → IsRun v k (counted s regs ram) exit t → IsRun v (suc k) s exit t
one_first v k s regs ram exit t e h = record {
  n = suc h.n;
  last = h.last;
  runs = (regs, (ram, (e, h.runs)));
  ends = elim h.ends [
    | inl x ↦ inl (let n : suc h.n ≡ suc k = omega (arith, x.0) in n, x.1, x.2)
    | inr x ↦ inr (let n : suc h.n < suc k = omega (arith, x.0) in n, x.1)
  ];
  retired = omega (arith, h.retired);
  budget = λ b. let n : suc h.n ≡ suc k = omega (arith, h.budget b) in n;
}

by_step : (v : View) (k : ℕ) (s : Standing) (met : Met (Completion × List ℕ)) → host_step v s.ram s.regs ≡ met
    → ((t : Standing) → IsRun v k t (host_run v k t).0 (host_run v k t).1)
    → IsRun v (suc k) s (after_step s met (host_run v k)).0 (after_step s met (host_run v k)).1
by_step v k s (Ok (Completed regs, ram)) e h = one_first v k s regs ram _ _ e (h (counted s regs ram))
by_step v k s (Ok (Entered regs, ram)) e h = record {
  n = 0;
  last = s;
  runs = refl;
  ends = inr (
    let lt : 0 < suc k = omega arith in lt,
    subst (λ (m : Met (Completion × List ℕ)). Leaves m s (Entry regs.eip) (record s { regs = regs; ram = ram })) (sym e) (refl, refl),
  );
  retired = omega arith;
  budget = λ b. absurd cc;
}
by_step v k s (Err exit) e h = let by_exit : exit ≡ Budget → ⊥ = step_not v s.ram s.regs exit e in record {
  n = 0;
  last = s;
  runs = refl;
  ends = inr (let lt : 0 < suc k = omega arith in lt, subst (λ (m : Met (Completion × List ℕ)). Leaves m s exit s) (sym e) (refl, refl));
  retired = omega arith;
  budget = λ b. absurd (by_exit b);
}

pub each_is_run : EachIsRun
unfolding host_run
each_is_run v zero s = record {
  n = 0;
  last = s;
  runs = refl;
  ends = inl (refl, refl, refl);
  retired = omega arith;
  budget = λ b. refl;
}
each_is_run v (suc k) s = by_step v k s (host_step v s.ram s.regs) refl (each_is_run v k)
