-- The lines by what was found before a step are those of the step.
use Rattle.std.proofs.Common.{◌≡◌, ℕ, nat_le, ◌&&◌, Bool, true, false, List, [], Option, Some, None, IfSome, refl, sym, ap, ◌∙◌, if◌then◌else◌}
use Rattle.descriptors.specs.declared.cpu.Cpu.{Cpu}
use Rattle.ia32_exec.specs.declared.access.Range.{Range}
use Rattle.linear_view.specs.declared.range.Places.{Places}
use Rattle.linear_view.specs.Range.{places_of}
use Rattle.look_words.specs.Words.{Only, Each, At, On}
use Rattle.machine_step.specs.declared.worked.Raised.{Raised}
use Rattle.machine_step.specs.Raised.{raised_of}
use Rattle.machine_step.specs.Left.{left_of, denied_page}
use Rattle.step_trace.specs.Stops.{address_of}
use Rattle.machine_model.specs.State.{Setting, State}
use Rattle.step_text.specs.Line.{went_line, stopping_line}
use Rattle.step_text.specs.declared.activity.Activity.{Activity}
use Rattle.step_trace.specs.declared.printed.Before.{Before}
use Rattle.step_trace.specs.Doing.{activity_of, range_of, written_range, start_of, bytes_by, bytes_after, view_before}
use Rattle.step_trace.specs.Wanted.{wants}
use Rattle.step_trace.specs.Lines.{exception_of, is_printed, line_if_printed, line_of, stop_line}
use Rattle.step_trace.specs.Before.{IsFound, Unprinted, line_by, stop_by}

-- the line by these parts
abbrev parts : ℕ → ℕ → Only → Cpu → Activity → Option Range → Option Raised → Cpu → List ℕ → List ℕ
parts step from only cpu does written raised after bytes =
    if nat_le from step && wants only does cpu.regs.eip written then went_line step does cpu after (exception_of raised)
    (start_of written) bytes else []

same_bytes : (m : Setting) (b : State) (ram : List ℕ) (places : Places) (range : Option Range) (raised : Option Raised)
    → IfSome range (λ r. places ≡ places_of (view_before m b) b.cpu r.at r.len) → bytes_by ram places (written_range range raised)
    ≡ bytes_after m b ram (written_range range raised)
unfolding bytes_after
same_bytes m b ram places None None is = refl
same_bytes m b ram places None (Some r) is = refl
same_bytes m b ram places (Some range) None is = ap (λ (p : Places). bytes_by ram p (Some range)) is
same_bytes m b ram places (Some range) (Some r) is = refl

of_state : (m : Setting) (from : ℕ) (only : Only) (b new : State) → line_if_printed m from only b new
    ≡ parts b.step from only b.cpu (activity_of m b) (written_range (range_of (activity_of m b) b.cpu.regs) (raised_of m b b.set))
    (raised_of m b b.set) new.cpu
    (bytes_after m b new.ram (written_range (range_of (activity_of m b) b.cpu.regs) (raised_of m b b.set)))
unfolding line_if_printed is_printed line_of
of_state m from only b new = refl

pub line_same : (m : Setting) (from : ℕ) (only : Only) (b new : State) (before : Before) (raised : Option Raised)
    → IsFound (view_before m b) b.step b.cpu (activity_of m b) before → raised ≡ raised_of m b b.set
    → line_by before raised new.cpu new.ram from only ≡ line_if_printed m from only b new
line_same m from only b new before raised is same =
    let bytes = same_bytes m b new.ram before.places before.range raised is.places in
    ap (parts before.step from only before.cpu before.does (written_range before.range raised) raised new.cpu) bytes
    ∙ (ap (λ (n : ℕ). parts n from only before.cpu before.does (written_range before.range raised) raised new.cpu
    (bytes_after m b new.ram (written_range before.range raised))) is.step
    ∙ (ap (λ (c : Cpu). parts b.step from only c before.does (written_range before.range raised) raised new.cpu
    (bytes_after m b new.ram (written_range before.range raised))) is.cpu
    ∙ (ap (λ (a : Activity). parts b.step from only b.cpu a (written_range before.range raised) raised new.cpu
    (bytes_after m b new.ram (written_range before.range raised))) is.does
    ∙ (ap (λ (r : Option Range). parts b.step from only b.cpu (activity_of m b) (written_range r raised) raised new.cpu
    (bytes_after m b new.ram (written_range r raised))) is.range
    ∙ (ap (λ (x : Option Raised). parts b.step from only b.cpu (activity_of m b) (written_range (range_of (activity_of m b) b.cpu.regs) x) x
    new.cpu (bytes_after m b new.ram (written_range (range_of (activity_of m b) b.cpu.regs) x))) same
    ∙ sym (of_state m from only b new))))))

abbrev stop_parts : ℕ → ℕ → Activity → Cpu → Option Raised → Option ℕ → List ℕ
stop_parts step from does cpu raised page =
    if nat_le from step then stopping_line step does cpu (exception_of raised) (address_of does cpu.regs raised page) else []

stop_of_state : (m : Setting) (from : ℕ) (b : State)
    → stop_line m from b ≡ stop_parts b.step from (activity_of m b) b.cpu (raised_of m b b.set) (denied_page (left_of m b b.set))
unfolding stop_line
stop_of_state m from b = refl

pub stop_same : (m : Setting) (from : ℕ) (b : State) (step : ℕ) (does : Activity) (cpu : Cpu) (raised : Option Raised) (page : Option ℕ)
    → step ≡ b.step → does ≡ activity_of m b → cpu ≡ b.cpu → raised ≡ raised_of m b b.set → page ≡ denied_page (left_of m b b.set)
    → stop_by step does cpu raised page from ≡ stop_line m from b
stop_same m from b step does cpu raised page step_is does_is cpu_is same there =
    ap (λ (n : ℕ). stop_parts n from does cpu raised page) step_is
    ∙ (ap (λ (a : Activity). stop_parts b.step from a cpu raised page) does_is
    ∙ (ap (λ (c : Cpu). stop_parts b.step from (activity_of m b) c raised page) cpu_is
    ∙ (ap (λ (x : Option Raised). stop_parts b.step from (activity_of m b) b.cpu x page) same
    ∙ (ap (λ (p : Option ℕ). stop_parts b.step from (activity_of m b) b.cpu (raised_of m b b.set) p) there
    ∙ sym (stop_of_state m from b)))))

-- ---- a step whose line isn't printed

pub nor : (a b : Bool) → b ≡ false → (a && b) ≡ false
nor true b f = f
nor false b f = refl

abbrev asked : Setting → ℕ → Only → State → Activity → Bool
asked m from only b does =
    nat_le from b.step && wants only does b.cpu.regs.eip (written_range (range_of does b.cpu.regs) (raised_of m b b.set))

asked_of_state : (m : Setting) (from : ℕ) (only : Only) (b : State) → is_printed m from only b ≡ asked m from only b (activity_of m b)
unfolding is_printed
asked_of_state m from only b = refl

pub unprinted : (m : Setting) (from : ℕ) (only : Only) (b : State) (does : Activity) → does ≡ activity_of m b
    → Unprinted only from b.step does b.cpu.regs → is_printed m from only b ≡ false
unprinted m from only b does is none =
    asked_of_state m from only b ∙ (sym (ap (asked m from only b) is) ∙ none (raised_of m b b.set))

-- whatever the processor does
pub passed : (m : Setting) (from : ℕ) (only : Only) (b : State)
    → ((does : Activity) (written : Option Range) → wants only does b.cpu.regs.eip written ≡ false) → is_printed m from only b ≡ false
passed m from only b none =
    asked_of_state m from only b
    ∙ nor (nat_le from b.step) _ (none (activity_of m b) (written_range (range_of (activity_of m b) b.cpu.regs) (raised_of m b b.set)))

pub no_line : (m : Setting) (from : ℕ) (only : Only) (b after : State) → is_printed m from only b ≡ false
    → line_if_printed m from only b after ≡ []
unfolding line_if_printed
no_line m from only b after f = rw f refl

-- where the line isn't asked for with the range that an instruction writes, it isn't where the instruction raises
pub not_wanted : (only : Only) (does : Activity) (eip : ℕ) (range : Option Range) (raised : Option Raised)
    → wants only does eip range ≡ false → wants only does eip (written_range range raised) ≡ false
unfolding wants
not_wanted only does eip range None f = f
not_wanted Each does eip range (Some raised) f = f
not_wanted (At addresses) does eip range (Some raised) f = f
not_wanted (On address len) does eip range (Some raised) f = refl
