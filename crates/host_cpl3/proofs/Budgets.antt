-- No instruction exits because of the budget, which is the run's own exit, nor to the window but where EIP lies in it.
use Rattle.std.proofs.Common.{◌≡◌, ℕ, ◌+◌, ◌*◌, ◌/◌, ◌%◌, ◌++◌, List, Bool, true, false, not, cond, eqb, Option, Some, None, Ok, Err, ◌⊎◌, inl, inr, refl, sym, ◌∙◌, subst}
use Rattle.std.proofs.Math.Dec.{leb}
use Rattle.guest_ram.specs.Bytes.{part}
use Rattle.ia32_types.specs.declared.flags.Regs.{Regs}
use Rattle.ia32_types.specs.declared.stop.Stop.{Stop}
use Rattle.ia32_types.specs.declared.stop.Stop.TheVariants as stops
use Rattle.ia32_types.specs.declared.register.Seg.{Seg}
use Rattle.ia32_types.specs.declared.register.Seg.TheVariants.{Es, Cs, Ss, Ds}
use Rattle.ia32_types.specs.declared.insn.Insn.{Insn}
use Rattle.ia32_types.specs.declared.insn.Op.{Op}
use Rattle.ia32_types.specs.declared.insn.Op.TheVariants as op
use Rattle.ia32_decode.specs.declared.answer.Decoded.{Decoded}
use Rattle.ia32_decode.specs.declared.answer.Decoded.TheVariants as begins
use Rattle.ia32_decode.specs.Decoding.{decoded}
use Rattle.ia32_decode.specs.Front.{longest, front_len}
use Rattle.ia32_exec.specs.declared.access.Range.{Range}
use Rattle.ia32_exec.specs.declared.outcome.Outcome.{Outcome}
use Rattle.ia32_exec.specs.declared.outcome.Outcome.TheVariants as outcomes
use Rattle.ia32_exec.specs.Effect.{ranges_of}
use Rattle.ia32_exec.specs.UserEffect.{user_effect}
use Rattle.paging.specs.Reached.{reached_by}
use Rattle.host_cpl3.specs.declared.view.View.{View}
use Rattle.host_cpl3.specs.declared.exit.Exit.{Exit}
use Rattle.host_cpl3.specs.declared.exit.Exit.TheVariants as exits
use Rattle.host_cpl3.specs.declared.exit.Completion.{Completion}
use Rattle.host_cpl3.specs.Met.{Met, ◌>>=◌, gives, unless}
use Rattle.host_cpl3.specs.Views.{selectors_of, is_null, is_entry, is_past_limit, protection, limit_fault}
use Rattle.host_cpl3.specs.Pages.{walked, is_there, or_fault, page_met, byte_at}
use Rattle.host_cpl3.specs.Fetch.{fetching, fetched_on, fetched_by, fetched, spelled}
use Rattle.host_cpl3.specs.Permit.{permitted_row, permitted}
use Rattle.host_cpl3.specs.Access.{segment_met, last_page, pages_met, range_met, access_met}
use Rattle.host_cpl3.specs.HostStep.{exit_of, finished, worked, host_step}

-- an exit that is neither of the two
abbrev pub IsOther : Exit → Type 0
IsOther (exits.Entry at) = ⊥
IsOther (exits.Fault vector code cr2) = Unit {0}
IsOther (exits.Soft vector) = Unit {0}
IsOther exits.Outside = Unit {0}
IsOther exits.FlagBits = Unit {0}
IsOther exits.Wrap = Unit {0}
IsOther exits.Budget = ⊥

abbrev pub NotBudget : {A : Type 0} → Met A → Type 0
NotBudget (Ok x) = Unit {0}
NotBudget (Err exit) = IsOther exit

then_not : {A B : Type 0} (x : Met A) (f : A → Met B) → NotBudget x → ((a : A) → NotBudget (f a)) → NotBudget (x >>= f)
then_not (Ok a) f h k = k a
then_not (Err exit) f h k = h

unless_not : (exit : Exit) (test : Bool) → IsOther exit → NotBudget (unless exit test)
unless_not exit true h = tt
unless_not exit false h = h

fault_not : (there write : Bool) (at : ℕ) (o : Option ℕ) → NotBudget (or_fault there write at o)
fault_not there write at (Some frame) = tt
fault_not there write at None = tt

page_not : (m : List ℕ) (root : ℕ) (write : Bool) (at : ℕ) → NotBudget (page_met m root write at)
unfolding page_met
page_not m root write at = fault_not (is_there (walked m root (at / 4096))) write at (reached_by write (walked m root (at / 4096)))

fetching_not : (m : List ℕ) (root at len : ℕ) → NotBudget (fetching m root at len)
unfolding fetching
fetching_not m root at len =
    then_not (page_met m root false at) (λ frame. gives (part m (4096 * frame + at % 4096) len)) (page_not m root false at) (λ frame. tt)

on_not : (m : List ℕ) (root eip : ℕ) (front : List ℕ) → NotBudget (fetched_on m root eip front)
unfolding fetched_on
on_not m root eip front = then_not (fetching m root (eip / 4096 * 4096 + 4096) longest) (λ more. gives (decoded (front ++ more)))
    (fetching_not m root (eip / 4096 * 4096 + 4096) longest) (λ more. tt)

wrap_not : (b : Bool) (x : Met Decoded) → NotBudget x → NotBudget (cond b (Err exits.Wrap) x)
wrap_not true x h = tt
wrap_not false x h = h

by_not : (m : List ℕ) (root eip : ℕ) (front : List ℕ) (d : Decoded) → NotBudget (fetched_by m root eip front d)
by_not m root eip front (begins.Insn insn len) = tt
by_not m root eip front begins.Outside = tt
by_not m root eip front begins.Short = wrap_not (eqb (eip / 4096) 1048575) (fetched_on m root eip front) (on_not m root eip front)

fetched_not : (m : List ℕ) (root eip : ℕ) → NotBudget (fetched m root eip)
unfolding fetched
fetched_not m root eip = then_not (fetching m root eip (front_len eip)) (λ front. fetched_by m root eip front (decoded front))
    (fetching_not m root eip (front_len eip)) (λ front. by_not m root eip front (decoded front))

spelled_not : (d : Decoded) → NotBudget (spelled d)
spelled_not (begins.Insn insn len) = tt
spelled_not begins.Short = tt
spelled_not begins.Outside = tt

row_not : (o : Op) (imm : ℕ) → NotBudget (permitted_row o imm)
row_not op.Int imm = tt
row_not op.Int3 imm = tt
row_not op.Cli imm = tt
row_not op.Sti imm = tt
row_not op.Hlt imm = tt
row_not op.Iret imm = tt
row_not op.ReadControl imm = tt
row_not op.WriteControl imm = tt
row_not op.LoadGdt imm = tt
row_not op.LoadIdt imm = tt
row_not op.LoadTask imm = tt
row_not op.DropPage imm = tt
row_not op.LoadSeg imm = tt
row_not op.PopSeg imm = tt
row_not op.FarJump imm = tt
row_not op.PortIn imm = tt
row_not op.PortOut imm = tt
row_not _ imm = tt

permitted_not : (insn : Insn) → NotBudget (permitted insn)
unfolding permitted
permitted_not insn = row_not insn.op insn.imm

segment_not : (v : View) (o : Option Range) → NotBudget (segment_met v o)
segment_not v None = tt
segment_not v (Some r) = unless_not protection (not (is_null v r.seg)) tt

choice_not : (b : Bool) (x y : Met ℕ) → NotBudget x → NotBudget y → NotBudget (cond b x y)
choice_not true x y h k = h
choice_not false x y h k = k

pages_not : (m : List ℕ) (root : ℕ) (write : Bool) (r : Range) → NotBudget (pages_met m root write r)
unfolding pages_met
pages_not m root write r =
    let both : (first : ℕ) → NotBudget (cond (eqb (last_page r) (r.at / 4096)) (gives first) (page_met m root write (last_page r * 4096))
    >>= (λ last. gives (first, last))) =
    λ first. then_not (cond (eqb (last_page r) (r.at / 4096)) (gives first) (page_met m root write (last_page r * 4096)))
    (λ last. gives (first, last))
    (choice_not (eqb (last_page r) (r.at / 4096)) (gives first) (page_met m root write (last_page r * 4096)) tt
    (page_not m root write (last_page r * 4096))) (λ last. tt)
    in
    then_not (page_met m root write r.at)
    (λ first. cond (eqb (last_page r) (r.at / 4096)) (gives first) (page_met m root write (last_page r * 4096))
    >>= (λ last. gives (first, last))) (page_not m root write r.at) both

limit_not : (g : Seg) → IsOther (limit_fault g)
limit_not Es = tt
limit_not Cs = tt
limit_not Ss = tt
limit_not Ds = tt

range_not : (m : List ℕ) (v : View) (write : Bool) (r : Range) → NotBudget (range_met m v write r)
unfolding range_met
range_not m v write r =
    then_not (unless exits.Wrap (leb (r.at + r.len) 4294967296))
    (λ _. unless (limit_fault r.seg) (not (is_past_limit v r.at)) >>= (λ _. pages_met m v.root write r))
    (unless_not exits.Wrap (leb (r.at + r.len) 4294967296) tt)
    (λ _. then_not (unless (limit_fault r.seg) (not (is_past_limit v r.at))) (λ _. pages_met m v.root write r)
    (unless_not (limit_fault r.seg) (not (is_past_limit v r.at)) (limit_not r.seg)) (λ _. pages_not m v.root write r))

access_not : (m : List ℕ) (v : View) (write : Bool) (o : Option Range) → NotBudget (access_met m v write o)
access_not m v write None = tt
access_not m v write (Some r) = then_not (range_met m v write r) (λ _. gives tt) (range_not m v write r) (λ _. tt)

stop_not : (s : Stop) → IsOther (exit_of s)
stop_not stops.FlagBits = tt
stop_not _ = tt

finished_not : (v : View) (o : Op) (m : List ℕ) (x : Outcome) → NotBudget (finished v o m x)
finished_not v o m (outcomes.Done r stores) = tt
finished_not v o m (outcomes.Raise vector code) = tt
finished_not v o m (outcomes.Stop stop) = stop_not stop

worked_not : (v : View) (m : List ℕ) (r : Regs) (insn : Insn) (len : ℕ) → NotBudget (worked v m r insn len)
unfolding worked
worked_not v m r insn len =
    let last : Met (Completion × List ℕ) = finished v insn.op m (user_effect (selectors_of v) insn len r (byte_at m v.root)) in
    let write : Met (Completion × List ℕ) = access_met m v true (ranges_of insn r).write >>= (λ _. last) in
    let read : Met (Completion × List ℕ) = access_met m v false (ranges_of insn r).read >>= (λ _. write) in
    let target : Met (Completion × List ℕ) = segment_met v (ranges_of insn r).write >>= (λ _. read) in
    let source : Met (Completion × List ℕ) = segment_met v (ranges_of insn r).read >>= (λ _. target) in
    then_not (permitted insn) (λ _. source) (permitted_not insn)
    (λ _. then_not (segment_met v (ranges_of insn r).read) (λ _. target) (segment_not v (ranges_of insn r).read)
    (λ _. then_not (segment_met v (ranges_of insn r).write) (λ _. read) (segment_not v (ranges_of insn r).write)
    (λ _. then_not (access_met m v false (ranges_of insn r).read) (λ _. write) (access_not m v false (ranges_of insn r).read)
    (λ _. then_not (access_met m v true (ranges_of insn r).write) (λ _. last) (access_not m v true (ranges_of insn r).write)
    (λ _. finished_not v insn.op m (user_effect (selectors_of v) insn len r (byte_at m v.root)))))))

-- after the test of the window
inside_not : (v : View) (m : List ℕ) (r : Regs)
    → NotBudget (fetched m v.root r.eip >>= (λ begun. spelled begun >>= (λ read. worked v m r read.0 read.1)))
inside_not v m r =
    let rest : Decoded → Met (Completion × List ℕ) = λ begun. spelled begun >>= (λ read. worked v m r read.0 read.1) in
    then_not (fetched m v.root r.eip) rest (fetched_not m v.root r.eip)
    (λ begun. then_not (spelled begun) (λ read. worked v m r read.0 read.1) (spelled_not begun) (λ read. worked_not v m r read.0 read.1))

-- the exit of one instruction: to the window where EIP lies in it, or another
abbrev pub Exits : View → Regs → Met (Completion × List ℕ) → Type 0
Exits v r (Ok x) = Unit {0}
Exits v r (Err exit) = ((is_entry v r.eip ≡ true) × (exit ≡ exits.Entry r.eip)) ⊎ IsOther exit

others_exit : (v : View) (r : Regs) (x : Met (Completion × List ℕ)) → NotBudget x → Exits v r x
others_exit v r (Ok x) h = tt
others_exit v r (Err exit) h = inr h

pub step_exits : (v : View) (m : List ℕ) (r : Regs) → Exits v r (host_step v m r)
unfolding host_step
step_exits v m r = by_window (is_entry v r.eip) refl
  where
    by_window : (b : Bool) → is_entry v r.eip ≡ b
        → Exits v r (unless (exits.Entry r.eip) (not b)
        >>= (λ _. fetched m v.root r.eip >>= (λ begun. spelled begun >>= (λ read. worked v m r read.0 read.1))))
    by_window true e = inl (e, refl)
    by_window false e = others_exit v r _ (inside_not v m r)

no_budget : (v : View) (r : Regs) (x : Met (Completion × List ℕ)) → Exits v r x → (exit : Exit) → x ≡ Err exit → exit ≡ exits.Budget → ⊥
no_budget v r (Ok x) h exit e b = absurd cc
no_budget v r (Err other) (inl h) exit e b = let f : exits.Entry r.eip ≡ exits.Budget = sym h.1 ∙ same other exit e ∙ b in cc
  where
    same : (a b : Exit) → ◌≡◌ {A = Met (Completion × List ℕ)} (Err a) (Err b) → a ≡ b
    same a b g = cc
no_budget v r (Err other) (inr h) exit e b = subst IsOther (same other exit e ∙ b) h
  where
    same : (a b : Exit) → ◌≡◌ {A = Met (Completion × List ℕ)} (Err a) (Err b) → a ≡ b
    same a b g = cc

pub step_not : (v : View) (m : List ℕ) (r : Regs) (exit : Exit) → host_step v m r ≡ Err exit → exit ≡ exits.Budget → ⊥
step_not v m r exit e = no_budget v r (host_step v m r) (step_exits v m r) exit e

entry_is : (v : View) (r : Regs) (x : Met (Completion × List ℕ)) → Exits v r x → (at : ℕ) → x ≡ Err (exits.Entry at)
    → (is_entry v r.eip ≡ true) × (at ≡ r.eip)
entry_is v r (Ok x) h at e = absurd cc
entry_is v r (Err other) (inl h) at e = (h.0, let f : exits.Entry at ≡ exits.Entry r.eip = sym (same other (exits.Entry at) e) ∙ h.1 in cc)
  where
    same : (a b : Exit) → ◌≡◌ {A = Met (Completion × List ℕ)} (Err a) (Err b) → a ≡ b
    same a b g = cc
entry_is v r (Err other) (inr h) at e = absurd (subst IsOther (same other (exits.Entry at) e) h)
  where
    same : (a b : Exit) → ◌≡◌ {A = Met (Completion × List ℕ)} (Err a) (Err b) → a ≡ b
    same a b g = cc

pub step_entry : (v : View) (m : List ℕ) (r : Regs) (at : ℕ) → host_step v m r ≡ Err (exits.Entry at)
    → (is_entry v r.eip ≡ true) × (at ≡ r.eip)
step_entry v m r at e = entry_is v r (host_step v m r) (step_exits v m r) at e
