-- How the parts of a fetch make the whole.
use Rattle.std.proofs.Common.{◌≡◌, ℕ, ◌-◌, ◌++◌, Bool, true, false, List, [], None, Ok, Err, sym, ap, ◌∙◌}
use Rattle.ia32_types.specs.declared.insn.Insn.{Insn}
use Rattle.ia32_decode.specs.declared.answer.Decoded.{Decoded}
use Rattle.ia32_decode.specs.declared.answer.Decoded.TheVariants as begins
use Rattle.ia32_decode.specs.Decoding.{decoded}
use Rattle.ia32_decode.specs.Front.{longest, front_len}
use Rattle.paging.specs.declared.entry.Touch.{Touch}
use Rattle.paging.specs.Space.{Space, place}
use Rattle.paging.specs.Uses.{with_front, with_back, fetches}
use Rattle.paging.specs.Work.{Outcome, on_value}
use Rattle.sys_exec.specs.declared.effect.Refusal.{Refusal}
use Rattle.std.specs.Prelude.{if◌then◌else◌}
use Rattle.ia32_types.specs.declared.stop.Stop.TheVariants.{NotAStart}
use Rattle.machine_model.specs.State.{Setting, State}
use Rattle.machine_model.specs.Rules.{stands_well}
use Rattle.machine_model.specs.Step.{Halts, concluded, worked, begins_next, fetches_next}
use Rattle.machine_model.specs.Instruction.{bytes_fetched, fetching, fetched_by, fetched, fetched_on, owning_front, owning_back, owned, next_page}

-- the space where these bytes are the instruction's own
abbrev pub owns_front : ℕ → ℕ → Space → Space
owns_front at len s = record s { mode = with_front s.mode (place s at) len }

abbrev pub owns_back : ℕ → ℕ → Space → Space
owns_back at len s = record s { mode = with_back s.mode (place s at) len }

pub fetching_by : (user : Bool) (at len : ℕ) (met : Touch) (s t : Space) → fetches s at len user ≡ (met, t)
    → fetching user at len s ≡ bytes_fetched at len met t
unfolding fetching
fetching_by user at len met s t h = ap (λ (o : Touch × Space). bytes_fetched at len o.0 o.1) h

pub first_denied : (user : Bool) (eip len : ℕ) (e : Refusal) (s t : Space) → len ≡ front_len eip → fetching user eip len s ≡ Err (e, t)
    → fetched user eip s ≡ Err (e, t)
unfolding fetched
first_denied user eip len e s t same h =
    ap (λ (n : ℕ). on_value (fetching user eip n s) (λ front. fetched_by user eip front (decoded front))) (sym same)
    ∙ ap (λ (o : Outcome Refusal (List ℕ)). on_value o (λ front. fetched_by user eip front (decoded front))) h

pub first_read : (user : Bool) (eip len : ℕ) (front : List ℕ) (d : Decoded) (s t : Space) → len ≡ front_len eip
    → fetching user eip len s ≡ Ok (front, t) → d ≡ decoded front → fetched user eip s ≡ fetched_by user eip front d t
unfolding fetched
first_read user eip len front d s t same h e =
    ap (λ (n : ℕ). on_value (fetching user eip n s) (λ front. fetched_by user eip front (decoded front))) (sym same)
    ∙ (ap (λ (o : Outcome Refusal (List ℕ)). on_value o (λ front. fetched_by user eip front (decoded front))) h
    ∙ ap (λ (x : Decoded). fetched_by user eip front x t) (sym e))

pub first_owned : (user : Bool) (eip : ℕ) (front : List ℕ) (insn : Insn) (len n : ℕ) (t u : Space) → n ≡ len → u ≡ owns_front eip n t
    → fetched_by user eip front (begins.Insn insn len) t ≡ Ok (begins.Insn insn len, u)
unfolding owning_front
first_owned user eip front insn len n t u same h =
    ap (λ (m : ℕ). Ok (begins.Insn insn len, owns_front eip m t)) (sym same)
    ∙ ap (λ (x : Space). Ok (begins.Insn insn len, x)) (sym h)

pub second_denied : (user : Bool) (eip len : ℕ) (front : List ℕ) (e : Refusal) (s t u : Space) → len ≡ front_len eip
    → t ≡ owns_front eip len s → fetching user (next_page eip) longest t ≡ Err (e, u) → fetched_on user eip front s ≡ Err (e, u)
unfolding fetched_on owning_front
second_denied user eip len front e s t u same o h =
    ap (λ (n : ℕ). on_value (fetching user (next_page eip) longest (owns_front eip n s)) (λ more. owned eip (decoded (front ++ more))))
    (sym same)
    ∙ (ap (λ (x : Space). on_value (fetching user (next_page eip) longest x) (λ more. owned eip (decoded (front ++ more)))) (sym o)
    ∙ ap (λ (p : Outcome Refusal (List ℕ)). on_value p (λ more. owned eip (decoded (front ++ more)))) h)

pub second_read : (user : Bool) (eip len : ℕ) (front more : List ℕ) (d : Decoded) (s t u : Space) → len ≡ front_len eip
    → t ≡ owns_front eip len s → fetching user (next_page eip) longest t ≡ Ok (more, u) → d ≡ decoded (front ++ more)
    → fetched_on user eip front s ≡ owned eip d u
unfolding fetched_on owning_front
second_read user eip len front more d s t u same o h e =
    ap (λ (n : ℕ). on_value (fetching user (next_page eip) longest (owns_front eip n s)) (λ more. owned eip (decoded (front ++ more))))
    (sym same)
    ∙ (ap (λ (x : Space). on_value (fetching user (next_page eip) longest x) (λ more. owned eip (decoded (front ++ more)))) (sym o)
    ∙ (ap (λ (p : Outcome Refusal (List ℕ)). on_value p (λ more. owned eip (decoded (front ++ more)))) h
    ∙ ap (λ (x : Decoded). owned eip x u) (sym e)))

pub second_owned : (eip : ℕ) (insn : Insn) (len more : ℕ) (t u : Space) → more ≡ len - front_len eip → u ≡ owns_back (next_page eip) more t
    → owned eip (begins.Insn insn len) t ≡ Ok (begins.Insn insn len, u)
unfolding owning_back
second_owned eip insn len more t u same h =
    ap (λ (n : ℕ). Ok (begins.Insn insn len, owns_back (next_page eip) n t)) (sym same)
    ∙ ap (λ (x : Space). Ok (begins.Insn insn len, x)) (sym h)

-- bytes of two pages, one after the other
pub joined : (front more first both slice : List ℕ) → first ≡ [] ++ front → both ≡ first ++ more → slice ≡ both → slice ≡ front ++ more
joined front more first both slice a b e = e ∙ (b ∙ ap (λ (l : List ℕ). l ++ more) a)

-- a processor that is awake and stands well fetches its instruction
pub works_on : (m : Setting) (b : State) (s : Space) → b.cpu.halted ≡ false → stands_well m b.cpu ≡ true → worked m b s ≡ fetches_next m b s
unfolding worked
works_on m b s awake well =
    ap (λ (t : Bool). if t then concluded [] None b b.cpu b.board s else begins_next m b s) awake
    ∙ ap (λ (t : Bool). if t then fetches_next m b s else Halts NotAStart) well
