-- Where an instruction that was done began, and where it led.
use Rattle.std.proofs.Common.{◌≡◌, ℕ, suc, ◌+◌, ◌*◌, ◌/◌, ◌%◌, ◌^◌, ◌<◌, List, length, Bool, true, false, cond, ◌&&◌, not, nat_lt, Option, None, Ok, refl, ap, ◌∙◌, arith}
use Rattle.std.proofs.Math.Dec.{ltb}
use Rattle.std.proofs.lemmas.Bool.{ltb-true}
use Rattle.guest_ram.specs.Bytes.{part}
use Rattle.ia32_types.specs.declared.flags.Regs.{Regs}
use Rattle.ia32_types.specs.declared.insn.Insn.{Insn}
use Rattle.ia32_types.specs.declared.insn.Op.{Op}
use Rattle.ia32_decode.specs.Decoding.{decoded}
use Rattle.ia32_decode.specs.Front.{front_len}
use Rattle.ia32_exec.specs.declared.outcome.Outcome.{Outcome}
use Rattle.ia32_exec.specs.declared.outcome.Outcome.TheVariants as outcomes
use Rattle.ia32_exec.specs.Effect.{ranges_of}
use Rattle.ia32_exec.specs.UserEffect.{user_effect}
use Rattle.paging.specs.declared.entry.Walk.{Walk}
use Rattle.paging.specs.declared.entry.Walk.TheVariants.{Absent}
use Rattle.paging.specs.Fresh.{fresh}
use Rattle.host_cpl3.specs.declared.view.View.{View}
use Rattle.host_cpl3.specs.declared.exit.Exit.TheVariants as exits
use Rattle.host_cpl3.specs.declared.exit.Completion.{Completion}
use Rattle.host_cpl3.specs.declared.exit.Completion.TheVariants.{Completed, Entered}
use Rattle.host_cpl3.specs.Met.{Met, gives, unless}
use Rattle.host_cpl3.specs.Views.{selectors_of, is_entry}
use Rattle.host_cpl3.specs.Pages.{by_walk, page_met, byte_at}
use Rattle.host_cpl3.specs.Fetch.{fetching, fetched_by, fetched, spelled}
use Rattle.host_cpl3.specs.Permit.{permitted}
use Rattle.host_cpl3.specs.Access.{access_met, segment_met}
use Rattle.host_cpl3.specs.HostStep.{is_jump, ended, finished, worked, host_step}
use Rattle.host_cpl3.specs.HostRun.{Standing}
use Rattle.host_cpl3.specs.RunsTo.{RunsTo}
use Rattle.host_cpl3.proofs.Leading.{bound}

below : (page : ℕ) → nat_lt page 1048576 ≡ true → page < 1048576
below page e = ltb-true page 1048576 e

there_below : (write : Bool) (at page frame : ℕ) (walk : Walk) (b : Bool) → nat_lt page 1048576 ≡ b
    → by_walk write at (cond b walk Absent) ≡ Ok frame → page < 1048576
there_below write at page frame walk true t e = below page t
there_below write at page frame walk false t e = absurd cc

-- a page that was met is one of the address space
pub page_below : (m : List ℕ) (root : ℕ) (write : Bool) (at frame : ℕ) → page_met m root write at ≡ Ok frame → at < 2 ^ 32
unfolding page_met
page_below m root write at frame e =
    let lt = there_below write at (at / 4096) frame (fresh m (length m / 4096) (4096 * root) false (at / 4096))
    (nat_lt (at / 4096) 1048576) refl e in
    omega (arith, lt)

pub begins_below : (v : View) (m : List ℕ) (r : Regs) (x : Completion × List ℕ) → host_step v m r ≡ Ok x → r.eip < 2 ^ 32
unfolding host_step fetched fetching
begins_below v m r x e =
    let p = bound (unless (exits.Entry r.eip) (not (is_entry v r.eip))) _ x e in
    let q = bound (fetched m v.root r.eip) _ x p.1.1 in
    let s = bound (fetching m v.root r.eip (front_len r.eip)) (λ front. fetched_by m v.root r.eip front (decoded front)) q.0 q.1.0 in
    let t = bound (page_met m v.root false r.eip) (λ frame. gives (part m (4096 * frame + r.eip % 4096) (front_len r.eip))) s.0 s.1.0 in
    page_below m v.root false r.eip t.0 t.1.0

pub each_begins_below : (v : View) (n : ℕ) (s mid t : Standing) (i : ℕ) → RunsTo v i s mid → RunsTo v (suc n) mid t → mid.regs.eip < 2 ^ 32
each_begins_below v n s mid t i h k = begins_below v mid.ram mid.regs (Completed k.0, k.1.0) k.1.1.0

-- ---- into the window

entered : (v : View) (o : Op) (r regs : Regs) (b : Bool) → (is_jump o && is_entry v r.eip) ≡ b
    → cond b (Entered r) (Completed r) ≡ Entered regs → is_entry v regs.eip ≡ true
entered v o r regs true t e =
    let same : r ≡ regs = cc in
    ap (λ (x : Regs). is_entry v x.eip) (Rattle.std.proofs.Common.sym same) ∙ both (is_jump o) (is_entry v r.eip) t
  where
    both : (a c : Bool) → (a && c) ≡ true → c ≡ true
    both true c g = g
    both false c g = absurd cc
entered v o r regs false t e = absurd cc

finished_enters : (v : View) (o : Op) (m : List ℕ) (x : Outcome) (regs : Regs) (after : List ℕ)
    → finished v o m x ≡ Ok (Entered regs, after) → is_entry v regs.eip ≡ true
finished_enters v o m (outcomes.Done r stores) regs after e =
    let same : ended v o r ≡ Entered regs = first (ended v o r) (Entered regs) _ after e in
    entered v o r regs (is_jump o && is_entry v r.eip) refl same
  where
    first : (a b : Completion) (c d : List ℕ) → ◌≡◌ {A = Met (Completion × List ℕ)} (Ok (a, c)) (Ok (b, d)) → a ≡ b
    first a b c d g = let p : ◌≡◌ {A = Completion × List ℕ} (a, c) (b, d) = cc in ap (λ (q : Completion × List ℕ). q.0) p
finished_enters v o m (outcomes.Raise vector code) regs after e = absurd cc
finished_enters v o m (outcomes.Stop stop) regs after e = absurd cc

worked_enters : (v : View) (m : List ℕ) (r : Regs) (insn : Insn) (len : ℕ) (regs : Regs) (after : List ℕ)
    → worked v m r insn len ≡ Ok (Entered regs, after) → is_entry v regs.eip ≡ true
unfolding worked
worked_enters v m r insn len regs after e =
    let x : Completion × List ℕ = (Entered regs, after) in
    let p = bound (permitted insn) _ x e in
    let q = bound (segment_met v (ranges_of insn r).read) _ x p.1.1 in
    let s = bound (segment_met v (ranges_of insn r).write) _ x q.1.1 in
    let t = bound (access_met m v false (ranges_of insn r).read) _ x s.1.1 in
    let u = bound (access_met m v true (ranges_of insn r).write)
    (λ _. finished v insn.op m (user_effect (selectors_of v) insn len r (byte_at m v.root))) x t.1.1 in
    finished_enters v insn.op m (user_effect (selectors_of v) insn len r (byte_at m v.root)) regs after u.1.1

pub enters : (v : View) (m : List ℕ) (r regs : Regs) (after : List ℕ) → host_step v m r ≡ Ok (Entered regs, after)
    → is_entry v regs.eip ≡ true
unfolding host_step
enters v m r regs after e =
    let x : Completion × List ℕ = (Entered regs, after) in
    let p = bound (unless (exits.Entry r.eip) (not (is_entry v r.eip))) _ x e in
    let q = bound (fetched m v.root r.eip) _ x p.1.1 in
    let s = bound (spelled q.0) _ x q.1.1 in
    worked_enters v m r s.0.0 s.0.1 regs after s.1.1
