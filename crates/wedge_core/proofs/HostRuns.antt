-- A run of the host: how many instructions it completes at most, and that a jump into the window lies below its end.
use Rattle.std.proofs.Common.{◌≡◌, ℕ, ◌+◌, ◌*◌, ◌≤◌, ◌<◌, true, List, length, Ok, Err, refl, sym, subst, inl, inr, arith}
use Rattle.std.specs.Prelude.{nat_le, nat_lt}
use Rattle.std.proofs.lemmas.Bool.{and_parts, ltb-true}
use Rattle.frame_pool.specs.Held.{times, Holds}
use Rattle.frame_pool.proofs.Lengths.{times-cons, hit-self}
use Rattle.paging.specs.Fresh.{dir_place}
use Rattle.paging.specs.Reached.{walk_frames, with_table}
use Rattle.guest_ram.specs.Bytes.{word32}
use Rattle.ia32_types.specs.declared.flags.Regs.{Regs}
use Rattle.host_cpl3.specs.declared.view.View.{View}
use Rattle.host_cpl3.specs.declared.exit.Exit.{Exit}
use Rattle.host_cpl3.specs.declared.exit.Exit.TheVariants as exits
use Rattle.host_cpl3.specs.declared.exit.Completion.{Completion}
use Rattle.host_cpl3.specs.declared.exit.Completion.TheVariants.{Completed, Entered}
use Rattle.host_cpl3.specs.Met.{Met}
use Rattle.host_cpl3.specs.Views.{is_window, is_entry}
use Rattle.host_cpl3.specs.HostStep.{host_step}
use Rattle.host_cpl3.specs.HostRun.{Standing, host_run}
use Rattle.host_cpl3.specs.RunsTo.{Leaves, IsRun, EachIsRun}
use Rattle.host_cpl3.specs.Borders.{EntersTheWindow, ExitsInTheWindow}
use Rattle.wedge_core.specs.Ran.{LeadsLow}

-- the same run, by the view that a call was given
pub by_view : (v w : View) (k : ℕ) (s : Standing) (p : Exit × Standing) → v ≡ w → host_run v k s ≡ p → host_run w k s ≡ p
by_view v w k s p is run = subst (λ (x : View). host_run x k s ≡ p) is run

-- ---- its counts

is_run : EachIsRun → (v : View) (k : ℕ) (s : Standing) (exit : Exit) (t : Standing) → host_run v k s ≡ (exit, t) → IsRun v k s exit t
is_run law v k s exit t is = subst (λ (p : Exit × Standing). IsRun v k s p.0 p.1) is (law v k s)

pub record Retires (k : ℕ) (s t : Standing) : Type 0 where
  pub n : ℕ
  pub few : n ≤ k
  pub retired : t.retired ≡ s.retired + n

pub counts_of : EachIsRun → (v : View) (k : ℕ) (s : Standing) (exit : Exit) (t : Standing) → host_run v k s ≡ (exit, t) → Retires k s t
counts_of law v k s exit t is =
    let r = is_run law v k s exit t is in
    record {
      n = r.n;
      few = elim r.ends [ inl all ↦ (let e = all.0 in omega (arith, e)) | inr some ↦ (let e = some.0 in omega (arith, e)) ];
      retired = r.retired;
    }

-- ---- where it leads

entry_low : (v : View) (at : ℕ) → is_entry v at ≡ true → at < 0x06000000
entry_low v at e = let w =
    and_parts (nat_le 67108864 at) (nat_lt at 100663296) (and_parts v.kernel (is_window at) e).1 in ltb-true at 100663296 w.1

module _ (enters : EntersTheWindow) (leaves : ExitsInTheWindow) where
  by_exit : (v : View) (memory : List ℕ) (r : Regs) (exit : Exit) → host_step v memory r ≡ Err exit → LeadsLow exit
  by_exit v memory r (exits.Entry at) e = let p =
      leaves v memory r at e in subst (λ (n : ℕ). n < 0x06000000) (sym p.1) (entry_low v r.eip p.0)
  by_exit v memory r (exits.Fault vector code cr2) e = tt
  by_exit v memory r (exits.Soft vector) e = tt
  by_exit v memory r exits.Outside e = tt
  by_exit v memory r exits.FlagBits e = tt
  by_exit v memory r exits.Wrap e = tt
  by_exit v memory r exits.Budget e = tt

  by_met : (v : View) (last : Standing) (exit : Exit) (t : Standing) (met : Met (Completion × List ℕ))
      → host_step v last.ram last.regs ≡ met → Leaves met last exit t → LeadsLow exit
  by_met v last exit t (Ok (Completed regs, ram)) e l = absurd l
  by_met v last exit t (Ok (Entered regs, ram)) e l =
      subst LeadsLow (sym l.0) (entry_low v regs.eip (enters v last.ram last.regs regs ram e))
  by_met v last exit t (Err x) e l = subst LeadsLow (sym l.0) (by_exit v last.ram last.regs x e)

  pub leads_low : EachIsRun → (v : View) (k : ℕ) (s : Standing) (exit : Exit) (t : Standing) → host_run v k s ≡ (exit, t) → LeadsLow exit
  leads_low law v k s exit t is =
      let r = is_run law v k s exit t is in
      elim r.ends [
        | inl all ↦ subst LeadsLow (sym all.1) tt
        | inr some ↦ by_met v r.last exit t (host_step v r.last.ram r.last.regs) refl some.1
      ]

-- ---- the root lies in the memory, as each frame that a walk reads

pub root_lies : (memory fs : List ℕ) (root : ℕ) → Holds memory fs → (1 ≤ times root (walk_frames memory root 0) → 1 ≤ times root fs)
    → 4096 * root < length memory
root_lies memory fs root h walked =
    let c = times-cons root root (with_table (word32 memory (dir_place (4096 * root) 0))) in
    let s = hit-self root in
    let room = h.room root (walked (omega (arith, c, s))) in
    omega (arith, room)
