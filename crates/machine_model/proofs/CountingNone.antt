-- Steps that count nothing, and those that count.
use Rattle.std.proofs.Common.{◌≡◌, ◌⊎◌, inl, inr, ℕ, ◌==◌, Bool, true, false, cond, not, ◌&&◌, refl, sym, ap, subst, ◌∙◌, List, [], ◌∷◌, Option, Some, None, Ok, Err, is_some}
use Rattle.std.specs.Option.{ForSome}
use Rattle.std.proofs.lemmas.Bool.{and_parts, both_ways}
use Rattle.ia32_types.specs.declared.insn.Insn.{Insn}
use Rattle.ia32_types.specs.declared.insn.Op.{Op}
use Rattle.ia32_types.specs.declared.insn.Op.TheVariants as op
use Rattle.ia32_decode.specs.declared.answer.Decoded.{Decoded}
use Rattle.ia32_decode.specs.declared.answer.Decoded.TheVariants as begins
use Rattle.paging.specs.Space.{Space}
use Rattle.paging.specs.Work.{Outcome}
use Rattle.sys_exec.specs.declared.effect.Refusal.{Refusal}
use Rattle.sites.specs.declared.site.Site.{Site}
use Rattle.machine_model.specs.State.{Setting, State}
use Rattle.machine_model.specs.Step.{Completed, Report, Went, begun, by_decoded, interrupt_of}
use Rattle.image_check.specs.Places.{is_site_at}
use Rattle.machine_model.specs.Counts.{is_software, needs_descriptor, is_direct, direct_in}
use Rattle.machine_model.specs.Alone.{Reads, IsUser, is_barred, is_native, WaitsCountNothing, SitesCountNothing, OthersCountNothing, NativesAreDirect}
use Rattle.machine_model.proofs.Completing.{Completes, completes, each_done}
use Rattle.machine_model.proofs.Goes.{Fetch}

-- nothing where each that could be completed leads nowhere
pub never : (o : Option Completed) → ForSome o (λ c. ⊥) → o ≡ None
never None h = refl
never (Some c) h = absurd (h c refl)

not_some : {A : Type 0} (o : Option A) → o ≡ None → is_some o ≡ true → ⊥
not_some o e f = let g : is_some o ≡ false = ap is_some e in cc

pub waits : WaitsCountNothing
waits m b report after h e = never report.completed (λ c is.
    let d = each_done m b report after e c is in
    elim h [ inl halted ↦ both_ways b.cpu.halted d.awake halted | inr takes ↦ not_some (interrupt_of b.cpu b.board) d.takes_none takes ])

-- nothing is direct where none that could be completed is
indirect : (sites : List Site) (o : Option Completed) → ForSome o (λ c. is_direct sites c ≡ false) → direct_in sites o ≡ []
indirect sites None h = refl
indirect sites (Some c) h = ap (λ x. cond x (c.eip ∷ []) []) (h c refl)

never_and : (x : Bool) → (not x && false) ≡ false
never_and true = refl
never_and false = refl

-- the test of what began from a state
direct_as : (sites : List Site) (b : State) (c : Completed) → c ≡ begun b c.insn
    → is_direct sites c ≡ (not (is_software c.insn.op) && cond (b.cpu.cpl == 3) (not (needs_descriptor c.insn.op))
    (not (is_site_at sites b.cpu.regs.eip)))
direct_as sites b c e =
    ap (λ (x : ℕ). not (is_software c.insn.op) && cond c.user (not (needs_descriptor c.insn.op)) (not (is_site_at sites x)))
    (ap (λ (x : Completed). x.eip) e)
    ∙ ap (λ (x : Bool). not (is_software c.insn.op) && cond x (not (needs_descriptor c.insn.op)) (not (is_site_at sites b.cpu.regs.eip)))
    (ap (λ (x : Completed). x.user) e)

pub in_sites : SitesCountNothing
in_sites m b report after sites kernel inside e = indirect sites report.completed (λ c is.
    let d = each_done m b report after e c is in
    let soft = is_software c.insn.op in
    direct_as sites b c d.same
    ∙ (ap (λ (x : Bool). not soft && cond x (not (needs_descriptor c.insn.op)) (not (is_site_at sites b.cpu.regs.eip))) kernel
    ∙ (ap (λ (x : Bool). not soft && not x) inside ∙ never_and soft)))

decoded_in : Decoded → Outcome Refusal Decoded → Decoded
decoded_in other (Ok x) = x.0
decoded_in other (Err e) = other

insn_in : Insn → Decoded → Insn
insn_in other (begins.Insn insn len) = insn
insn_in other begins.Short = other
insn_in other begins.Outside = other

-- what is read is one instruction
pub one_insn : (x y : Insn) (n k : ℕ) (s t : Space) → ◌≡◌ {A = Fetch} (Ok (begins.Insn x n, s)) (Ok (begins.Insn y k, t)) → x ≡ y
unfolding decoded_in insn_in
one_insn x y n k s t e = ap (insn_in x) (ap (decoded_in (begins.Insn x n)) e)

one_read : (m : Setting) (b : State) (x y : Insn) → Reads m b x → Reads m b y → x ≡ y
one_read m b x y r s = one_insn x y r.len s.len r.after s.after (sym r.fetches ∙ s.fetches)

pub soft_or_needs : (o : Op) → is_native true o ≡ false → is_barred o ≡ false → (not (is_software o) && not (needs_descriptor o)) ≡ false
soft_or_needs op.Int n k = refl
soft_or_needs op.Int3 n k = refl
soft_or_needs op.LoadSeg n k = refl
soft_or_needs op.PopSeg n k = refl
soft_or_needs op.FarJump n k = refl
soft_or_needs op.Iret n k = refl
soft_or_needs op.Cli n k = absurd (both_ways true k refl)
soft_or_needs op.Sti n k = absurd (both_ways true k refl)
soft_or_needs op.Hlt n k = absurd (both_ways true k refl)
soft_or_needs op.ReadControl n k = absurd (both_ways true k refl)
soft_or_needs op.WriteControl n k = absurd (both_ways true k refl)
soft_or_needs op.LoadGdt n k = absurd (both_ways true k refl)
soft_or_needs op.LoadIdt n k = absurd (both_ways true k refl)
soft_or_needs op.LoadTask n k = absurd (both_ways true k refl)
soft_or_needs op.DropPage n k = absurd (both_ways true k refl)
soft_or_needs op.PortIn n k = absurd (both_ways true k refl)
soft_or_needs op.PortOut n k = absurd (both_ways true k refl)
soft_or_needs o n k = absurd (both_ways true n refl)

by_soft : (sites : List Site) (b : State) (c : Completed) → c ≡ begun b c.insn → is_software c.insn.op ≡ true → is_direct sites c ≡ false
by_soft sites b c same soft = ap (λ (x : Bool). not x && cond c.user (not (needs_descriptor c.insn.op)) (not (is_site_at sites c.eip))) soft

by_user : (sites : List Site) (b : State) (c : Completed) → c ≡ begun b c.insn → (b.cpu.cpl == 3) ≡ true
    → is_native (b.cpu.cpl == 3) c.insn.op ≡ false → is_barred c.insn.op ≡ false → is_direct sites c ≡ false
by_user sites b c same user native lets =
    direct_as sites b c same
    ∙ (ap (λ (x : Bool). not (is_software c.insn.op) && cond x (not (needs_descriptor c.insn.op)) (not (is_site_at sites b.cpu.regs.eip)))
    user
    ∙ soft_or_needs c.insn.op (ap (λ x. is_native x c.insn.op) (sym user) ∙ native) lets)

-- nor is what a user's processor doesn't do by itself, nor INT and INT3
pub uncounted : (sites : List Site) (b : State) (c : Completed) → c ≡ begun b c.insn → is_native (b.cpu.cpl == 3) c.insn.op ≡ false
    → (IsUser b.cpu → is_barred c.insn.op ≡ false) → IsUser b.cpu ⊎ (is_software c.insn.op ≡ true) → is_direct sites c ≡ false
uncounted sites b c same native lets (inl user) = by_user sites b c same (and_parts (b.cpu.cpl == 3) _ user).0 native (lets user)
uncounted sites b c same native lets (inr soft) = by_soft sites b c same soft

pub others : OthersCountNothing
others m b report after sites insn reads native h e = indirect sites report.completed (λ c is.
    let d = each_done m b report after e c is in
    let one : insn ≡ c.insn = one_read m b insn c.insn reads d.reads in
    uncounted sites b c d.same (ap (λ (x : Insn). is_native (b.cpu.cpl == 3) x.op) (sym one) ∙ native) d.lets
    (subst (λ (x : Insn). IsUser b.cpu ⊎ (is_software x.op ≡ true)) one h))

-- the same of an instruction that was read, and goes on
pub others_read : (m : Setting) (b : State) (insn : Insn) (len : ℕ) (s : Space) → is_native (b.cpu.cpl == 3) insn.op ≡ false
    → IsUser b.cpu ⊎ (is_software insn.op ≡ true) → (report : Report) (after : State)
    → by_decoded m b (begins.Insn insn len) s ≡ Went report after → (sites : List Site) → direct_in sites report.completed ≡ []
others_read m b insn len s native h report after e sites =
    of_completed report.completed (completes m b (Ok (begins.Insn insn len, s)) report after e)
  where
    of_completed : (c : Option Completed) → Completes b (Ok (begins.Insn insn len, s)) c → direct_in sites c ≡ []
    of_completed c Completes.nothing = refl
    of_completed c (Completes.one x n t is lets) =
        let one : insn ≡ x = one_insn insn x len n s t is in
        ap (λ (y : Bool). cond y (b.cpu.regs.eip ∷ []) [])
        (uncounted sites b (begun b x) refl (ap (λ (y : Insn). is_native (b.cpu.cpl == 3) y.op) (sym one) ∙ native) lets
        (subst (λ (y : Insn). IsUser b.cpu ⊎ (is_software y.op ≡ true)) one h))

native_test : (user inside : Bool) (o : Op) → is_native user o ≡ true → (user ≡ true) ⊎ (inside ≡ false)
    → (not (is_software o) && cond user (not (needs_descriptor o)) (not inside)) ≡ true
native_test user inside o n h = by_place user inside o n h
  where
    plain : (o : Op) → is_native true o ≡ true → (not (is_software o) && not (needs_descriptor o)) ≡ true
    plain op.Int n = absurd (both_ways false refl n)
    plain op.Int3 n = absurd (both_ways false refl n)
    plain op.LoadSeg n = absurd (both_ways false refl n)
    plain op.PopSeg n = absurd (both_ways false refl n)
    plain op.FarJump n = absurd (both_ways false refl n)
    plain op.Iret n = absurd (both_ways false refl n)
    plain o n = refl

    hard : (o : Op) → is_native false o ≡ true → not (is_software o) ≡ true
    hard op.Int n = absurd (both_ways false refl n)
    hard op.Int3 n = absurd (both_ways false refl n)
    hard o n = refl

    by_place : (user inside : Bool) (o : Op) → is_native user o ≡ true → (user ≡ true) ⊎ (inside ≡ false)
        → (not (is_software o) && cond user (not (needs_descriptor o)) (not inside)) ≡ true
    by_place true inside o n h = plain o n
    by_place false true o n h = absurd (elim h [ inl u ↦ both_ways false refl u | inr i ↦ both_ways true i refl ])
    by_place false false o n h = ap (λ x. x && true) (hard o n)

pub natives : NativesAreDirect
natives m b report after sites insn c reads native h e is =
    let d = each_done m b report after e c is in
    let one : insn ≡ c.insn = one_read m b insn c.insn reads d.reads in
    let now : is_native (b.cpu.cpl == 3) c.insn.op ≡ true = ap (λ (x : Insn). is_native (b.cpu.cpl == 3) x.op) (sym one) ∙ native in
    let test : is_direct sites c ≡ true = direct_as sites b c d.same ∙ native_test (b.cpu.cpl == 3) (is_site_at sites b.cpu.regs.eip)
    c.insn.op now (elim h [ inl u ↦ inl (ap (λ x. x == 3) u) | inr i ↦ inr i ]) in
    ap (direct_in sites) is ∙ (ap (λ x. cond x (c.eip ∷ []) []) test ∙ ap (λ (x : Completed). x.eip ∷ []) d.same)
