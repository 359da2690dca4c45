-- A fetch changes the entry of its own page alone.
use Rattle.std.proofs.Common.{◌≡◌, ◌≢◌, ℕ, ◌+◌, ◌/◌, Bool, true, false, cond, List, [], ◌∷◌, ◌++◌, Option, Some, None, refl, sym, ap, ◌∙◌}
use Rattle.std.specs.FinMap.{FinMap, get}
use Rattle.std.specs.Ordering.{nat_cmp}
use Rattle.ia32_types.specs.declared.stop.Stop.TheVariants as stops
use Rattle.paging.specs.declared.entry.Access.{Access}
use Rattle.paging.specs.declared.entry.Entry.{Entry}
use Rattle.paging.specs.declared.entry.Touch.{Touch}
use Rattle.paging.specs.declared.entry.Touch.TheVariants.{Ready, Fault, Stop}
use Rattle.paging.specs.Space.{Space}
use Rattle.paging.specs.Uses.{by_entry, decided, fetches, go_on, is_barred, made_ready, page_uses, tables_of, unready, usable}
use Rattle.step_mem.specs.Sound.{space_at}
use Rattle.step_mem.specs.Changes.{changed}
use Rattle.step_mem.specs.declared.state.StepState.{StepState}
use Rattle.step_mem.proofs.Changed.{get_with_other}
use Rattle.wedge_mem.specs.declared.progress.Progress.{Progress}
use Rattle.wedge_mem.specs.Progress.{space_in, state_by}

barred_set : (test : Bool) (s : Space) → (cond {A = Touch × Space} test (Stop stops.TextMapped, s) (Ready, s)).1.set ≡ s.set
barred_set true s = refl
barred_set false s = refl

entry_others : (s : Space) (fetch : Bool) (page at : ℕ) (access : Access) (entry : Option Entry) (q : ℕ) → q ≢ page
    → get (by_entry s fetch page at access entry).1.set q ≡ get s.set q
entry_others s fetch page at access None q n = get_with_other s.set page (decided (tables_of s) fetch page at access).entry q n
entry_others s fetch page at access (Some entry) q n =
    ap (λ (set : FinMap nat_cmp Entry). get set q) (barred_set (is_barred s.mode fetch access.user page entry.frame) s)

page_others : (s : Space) (fetch : Bool) (page at : ℕ) (access : Access) (q : ℕ) → q ≢ page
    → get (page_uses s fetch page at access).1.set q ≡ get s.set q
unfolding page_uses
page_others s fetch page at access q n =
    entry_others (record s { pages = s.pages + 1; visited = s.visited ++ page ∷ [] }) fetch page at access
    (usable (get s.set page) access s.wp) q n

ready_set : (met : Touch) (s : Space) (at len : ℕ) → (go_on met s (made_ready at len false)).1.set ≡ s.set
ready_set Ready s at len = refl
ready_set (Fault code cr2) s at len = refl
ready_set (Stop stop) s at len = refl

fetch_others : (s : Space) (at len : ℕ) (user : Bool) (q : ℕ) → q ≢ at / 4096 → get (fetches s at len user).1.set q ≡ get s.set q
unfolding fetches
fetch_others s at len user q n =
    let access : Access = record { write = false; user = user } in
    let used = page_uses (unready s) true (at / 4096) at access in
    ap (λ (set : FinMap nat_cmp Entry). get set q) (ready_set used.0 used.1 at len) ∙ page_others (unready s) true (at / 4096) at access q n

-- the same of what a step did so far, before the fetch and after it
pub others_after : (kept : List ℕ → FinMap nat_cmp Entry) (ram ram2 : List ℕ) (before after : StepState) (p p2 : Progress) (at len : ℕ)
    (user : Bool) (met : Touch)
    → before ≡ state_by before.guard p → fetches (space_at kept ram before) at len user ≡ (met, space_at kept ram2 after)
    → after ≡ state_by after.guard p2
    → (page : ℕ) → page ≢ at / 4096 → get (space_in kept ram2 p2).set page ≡ get (space_in kept ram p).set page
others_after kept ram ram2 before after p p2 at len user met is fetched is2 page n =
    sym (ap (λ (state : StepState). get (changed (kept ram2) state.changes) page) is2)
    ∙ ap (λ (x : Touch × Space). get x.1.set page) (sym fetched)
    ∙ fetch_others (space_at kept ram before) at len user page n
    ∙ ap (λ (state : StepState). get (changed (kept ram) state.changes) page) is
