-- What a fetch leaves: whose rules hold, and the entries of other pages. So an instruction owns its bytes.
use Rattle.std.proofs.Common.{◌≡◌, ◌≢◌, ℕ, ◌+◌, ◌-◌, ◌/◌, arith, cond, Bool, true, false, List, [], ◌∷◌, ◌++◌, refl, sym, ap, subst, ◌∙◌, ◌⊎◌, inl, inr, Option, Some, None, Ok, Err}
use Rattle.std.specs.Prelude.{◌==◌}
use Rattle.std.specs.FinMap.{get}
use Rattle.ia32_types.specs.declared.stop.Stop.TheVariants as stops
use Rattle.ia32_types.specs.declared.insn.Insn.{Insn}
use Rattle.ia32_decode.specs.declared.answer.Decoded.{Decoded}
use Rattle.ia32_decode.specs.declared.answer.Decoded.TheVariants as begins
use Rattle.ia32_decode.specs.Decoding.{decoded}
use Rattle.sys_exec.specs.declared.effect.Refusal.{Refusal}
use Rattle.paging.specs.declared.entry.Access.{Access}
use Rattle.paging.specs.declared.entry.Entry.{Entry}
use Rattle.paging.specs.declared.entry.Touch.{Touch}
use Rattle.paging.specs.declared.entry.Touch.TheVariants.{Ready, Fault, Stop}
use Rattle.paging.specs.Space.{Mode, Wedge, Own, Space, place_by, place}
use Rattle.paging.specs.Uses.{decided, tables_of, by_entry, usable, page_uses, go_on, unready, made_ready, is_barred, fetches, with_front, with_back}
use Rattle.paging.proofs.Translations.{clash}
use Rattle.sys_exec.specs.declared.effect.Refusal.TheVariants as refusal
use Rattle.paging.specs.Work.{Outcome, Work, on_value, refuses}
use Rattle.paging.proofs.WithEntry.{get_with_other}
use Rattle.ia32_decode.specs.Front.{longest, front_len}
use Rattle.machine_model.specs.Instruction.{bytes_fetched, fetching, next_page, owning_front, owning_back, owned, fetched_on, fetched_by, fetched}
use Rattle.machine_model.specs.Owned.{own_in_one, own_in_two, OwnsItsBytes}

-- the rules, and the entry of a page, as they were
pub record KeepsPage (old new : Space) (page : ℕ) : Type 0 where
  pub mode : new.mode ≡ old.mode
  pub entry : get new.set page ≡ get old.set page

either_leaves : (test : Bool) (s : Space) (q : ℕ) → KeepsPage s (cond {A = Touch × Space} test (Stop stops.TextMapped, s) (Ready, s)).1 q
either_leaves true s q = record { mode = refl; entry = refl }
either_leaves false s q = record { mode = refl; entry = refl }

entry_leaves : (s : Space) (fetch : Bool) (page at : ℕ) (access : Access) (entry : Option Entry) (q : ℕ) → q ≢ page
    → KeepsPage s (by_entry s fetch page at access entry).1 q
entry_leaves s fetch page at access None q n =
    record { mode = refl; entry = get_with_other s.set page (decided (tables_of s) fetch page at access).entry q n }
entry_leaves s fetch page at access (Some entry) q n = either_leaves (is_barred s.mode fetch access.user page entry.frame) s q

page_leaves : (s : Space) (fetch : Bool) (page at : ℕ) (access : Access) (q : ℕ) → q ≢ page
    → KeepsPage s (page_uses s fetch page at access).1 q
unfolding page_uses
page_leaves s fetch page at access q n =
    let left = entry_leaves (record s { pages = s.pages + 1; visited = s.visited ++ page ∷ [] }) fetch page at access
    (usable (get s.set page) access s.wp) q n in
    record { mode = left.mode; entry = left.entry }

ready_leaves : (met : Touch) (s : Space) (at len q : ℕ) → KeepsPage s (go_on met s (made_ready at len false)).1 q
ready_leaves Ready s at len q = record { mode = refl; entry = refl }
ready_leaves (Fault code cr2) s at len q = record { mode = refl; entry = refl }
ready_leaves (Stop stop) s at len q = record { mode = refl; entry = refl }

fetches_leave : (s : Space) (at len : ℕ) (user : Bool) (q : ℕ) → q ≢ at / 4096 → KeepsPage s (fetches s at len user).1 q
unfolding fetches
fetches_leave s at len user q n =
    let access : Access = record { write = false; user = user } in
    let used = page_uses (unready s) true (at / 4096) at access in
    let first = page_leaves (unready s) true (at / 4096) at access q n in
    let then = ready_leaves used.0 used.1 at len q in
    record { mode = then.mode ∙ first.mode; entry = then.entry ∙ first.entry }

fetches_mode : (s : Space) (at len : ℕ) (user : Bool) → (fetches s at len user).1.mode ≡ s.mode
fetches_mode s at len user = (fetches_leave s at len user (at / 4096 + 1) (omega arith)).mode

-- the memory that an outcome leaves
abbrev space_in : {A : Type 0} → Outcome Refusal A → Space
space_in (Ok x) = x.1
space_in (Err e) = e.1

abbrev len_in : Decoded → ℕ
len_in (begins.Insn insn len) = len
len_in begins.Short = 0
len_in begins.Outside = 0

abbrev len_of : Outcome Refusal Decoded → ℕ
len_of (Ok x) = len_in x.0
len_of (Err e) = 0

abbrev is_insn : Decoded → Bool
is_insn (begins.Insn insn len) = true
is_insn begins.Short = false
is_insn begins.Outside = false

abbrev gives_insn : Outcome Refusal Decoded → Bool
gives_insn (Ok x) = is_insn x.0
gives_insn (Err e) = false

no_insn : (o p : Outcome Refusal Decoded) → gives_insn o ≡ false → gives_insn p ≡ true → o ≡ p → ⊥
no_insn o p a b e = clash (sym a ∙ (ap gives_insn e ∙ b))

-- the bytes that were read, and memory then
taken_is : (at len : ℕ) (t : Touch) (s new : Space) (bytes : List ℕ) → bytes_fetched at len t s ≡ Ok (bytes, new) → new ≡ s
taken_is at len Ready s new bytes e = ap (λ (o : Outcome Refusal (List ℕ)). space_in o) (sym e)
taken_is at len (Fault code cr2) s new bytes e = absurd (cc)
taken_is at len (Stop stop) s new bytes e = absurd (cc)

fetching_is : (user : Bool) (at len : ℕ) (s new : Space) (bytes : List ℕ) → fetching user at len s ≡ Ok (bytes, new)
    → new ≡ (fetches s at len user).1
unfolding fetching
fetching_is user at len s new bytes e = taken_is at len (fetches s at len user).0 (fetches s at len user).1 new bytes e

abbrev Goal : ℕ → ℕ → ℕ → ℕ → Space → Type 0
Goal eip len text count new =
    (new.mode ≡ Wedge text count (own_in_one new eip len)) ⊎ (new.mode ≡ Wedge text count (own_in_two new eip len))

-- what an answer holds
same_len : (i j : Insn) (l len : ℕ) (s new : Space) (o p : Outcome Refusal Decoded) → o ≡ Ok (begins.Insn i l, s)
    → p ≡ Ok (begins.Insn j len, new) → o ≡ p → l ≡ len
same_len i j l len s new o p a b e = sym (ap len_of a) ∙ (ap len_of e ∙ ap len_of b)

same_space : (i j : Insn) (l len : ℕ) (s new : Space) (o p : Outcome Refusal Decoded) → o ≡ Ok (begins.Insn i l, s)
    → p ≡ Ok (begins.Insn j len, new) → o ≡ p → s ≡ new
same_space i j l len s new o p a b e = sym (ap (λ (q : Outcome Refusal Decoded). space_in q) a)
    ∙ (ap (λ (q : Outcome Refusal Decoded). space_in q) e ∙ ap (λ (q : Outcome Refusal Decoded). space_in q) b)

in_one : (eip l text count : ℕ) (own : Own) (s : Space) → s.mode ≡ Wedge text count own
    → Goal eip l text count (record s { mode = with_front s.mode (place s eip) l })
unfolding place
in_one eip l text count own s e = inl (ap (λ (m : Mode). with_front m (place s eip) l) e)

in_two : (eip l text count : ℕ) (own : Own) (first second : Space) → first.mode ≡ Wedge text count own
    → KeepsPage (record first { mode = with_front first.mode (place first eip) (front_len eip) }) second (eip / 4096)
    → Goal eip l text count (record second { mode = with_back second.mode (place second (next_page eip)) (l - front_len eip) })
unfolding place
in_two eip l text count own first second e left =
    inr (ap (λ (m : Mode). with_back m (place second (next_page eip)) (l - front_len eip))
    (left.mode ∙ ap (λ (m : Mode). with_front m (place first eip) (front_len eip)) e)
    ∙ ap (λ (p : ℕ). Wedge text count (record {
      front = p;
      front_len = front_len eip;
      back = place second (next_page eip);
      back_len = l - front_len eip;
    })) (ap (λ (o : Option Entry). place_by o eip) (sym left.entry)))

second_owned : (eip len text count : ℕ) (own : Own) (insn : Insn) (first second new : Space) (d : Decoded)
    → first.mode ≡ Wedge text count own
    → KeepsPage (record first { mode = with_front first.mode (place first eip) (front_len eip) }) second (eip / 4096)
    → owned eip d second ≡ Ok (begins.Insn insn len, new) → Goal eip len text count new
unfolding owning_back
second_owned eip len text count own insn first second new (begins.Insn i l) m left e =
    subst (Goal eip len text count) (same_space i insn l len _ new _ _ refl refl e)
    (subst (λ (k : ℕ). Goal eip k text count
    (record second { mode = with_back second.mode (place second (next_page eip)) (l - front_len eip) })) (same_len i insn l len _
    new _ _ refl refl e)
    (in_two eip l text count own first second m left))
second_owned eip len text count own insn first second new begins.Outside m left e = absurd (no_insn _ _ refl refl e)
second_owned eip len text count own insn first second new begins.Short m left e = absurd (no_insn _ _ refl refl e)

-- the second page
abbrev owned_first : Space → ℕ → Space
owned_first s eip = record s { mode = with_front s.mode (place s eip) (front_len eip) }

other_page : (eip : ℕ) → eip / 4096 ≢ next_page eip / 4096
other_page eip = omega arith

more_owned : (eip len text count : ℕ) (own : Own) (user : Bool) (insn : Insn) (front : List ℕ) (first new : Space)
    (o : Outcome Refusal (List ℕ)) → first.mode ≡ Wedge text count own
    → fetching user (next_page eip) longest (owned_first first eip) ≡ o → on_value o (λ more. owned eip (decoded (front ++ more))) ≡ Ok
    (begins.Insn insn len, new) → Goal eip len text count new
more_owned eip len text count own user insn front first new (Ok (more, second)) m is e =
    let left = fetches_leave (owned_first first eip) (next_page eip) longest user (eip / 4096) (other_page eip) in
    let same = fetching_is user (next_page eip) longest (owned_first first eip) second more is in
    second_owned eip len text count own insn first second new (decoded (front ++ more)) m
    (subst (λ (s : Space). KeepsPage (owned_first first eip) s (eip / 4096)) (sym same) left) e
more_owned eip len text count own user insn front first new (Err refused) m is e = absurd (no_insn _ _ refl refl e)

on_owned : (eip len text count : ℕ) (own : Own) (user : Bool) (insn : Insn) (front : List ℕ) (first new : Space)
    → first.mode ≡ Wedge text count own
    → fetched_on user eip front first ≡ Ok (begins.Insn insn len, new) → Goal eip len text count new
unfolding fetched_on owning_front
on_owned eip len text count own user insn front first new m e =
    more_owned eip len text count own user insn front first new (fetching user (next_page eip) longest (owned_first first eip)) m refl e

either_owned : (last : Bool) (eip len text count : ℕ) (insn : Insn) (first new : Space) (a b : Work Refusal Decoded)
    → (a first ≡ Ok (begins.Insn insn len, new) → Goal eip len text count new)
    → (b first ≡ Ok (begins.Insn insn len, new) → Goal eip len text count new)
    → (cond {A = Work Refusal Decoded} last a b) first ≡ Ok (begins.Insn insn len, new) → Goal eip len text count new
either_owned true eip len text count insn first new a b f g e = f e
either_owned false eip len text count insn first new a b f g e = g e

by_owned : (eip len text count : ℕ) (own : Own) (user : Bool) (insn : Insn) (front : List ℕ) (first new : Space) (d : Decoded)
    → first.mode ≡ Wedge text count own
    → fetched_by user eip front d first ≡ Ok (begins.Insn insn len, new) → Goal eip len text count new
unfolding owning_front
by_owned eip len text count own user insn front first new (begins.Insn i l) m e =
    subst (Goal eip len text count) (same_space i insn l len _ new _ _ refl refl e)
    (subst (λ (k : ℕ). Goal eip k text count (record first { mode = with_front first.mode (place first eip) l }))
    (same_len i insn l len _ new _ _ refl refl e)
    (in_one eip l text count own first m))
by_owned eip len text count own user insn front first new begins.Outside m e = absurd (no_insn _ _ refl refl e)
by_owned eip len text count own user insn front first new begins.Short m e =
    either_owned (eip / 4096 == 1048575) eip len text count insn first new (refuses (refusal.Stop stops.WrapAccess))
    (fetched_on user eip front) (λ h. absurd (no_insn _ _ refl refl h)) (on_owned eip len text count own user insn front first new m) e

first_owned : (eip len text count : ℕ) (own : Own) (user : Bool) (insn : Insn) (old new : Space) (o : Outcome Refusal (List ℕ))
    → old.mode ≡ Wedge text count own
    → fetching user eip (front_len eip) old ≡ o → on_value o (λ front. fetched_by user eip front (decoded front)) ≡ Ok
    (begins.Insn insn len, new) → Goal eip len text count new
first_owned eip len text count own user insn old new (Ok (front, first)) m is e =
    let same = fetching_is user eip (front_len eip) old first front is in
    by_owned eip len text count own user insn front first new (decoded front)
    (ap (λ (s : Space). s.mode) same ∙ (fetches_mode old eip (front_len eip) user ∙ m)) e
first_owned eip len text count own user insn old new (Err refused) m is e = absurd (no_insn _ _ refl refl e)

pub owns_its_bytes : OwnsItsBytes
unfolding fetched
owns_its_bytes user eip insn len text count own old new m e =
    first_owned eip len text count own user insn old new (fetching user eip (front_len eip) old) m refl e
