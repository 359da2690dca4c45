-- A translation under the monitor's rules is the bare machine's, unless one of the monitor's stops ends it.
use Rattle.std.proofs.Common.{◌≡◌, ℕ, ◌+◌, ◌-◌, ◌*◌, ◌/◌, ◌^◌, Bool, true, false, ◌&&◌, ◌||◌, not, ◌==◌, cond, [], ◌∷◌, ◌++◌, refl, ap, ◌∙◌, ◌⊎◌, inl, inr, Option, Some, None}
use Rattle.std.specs.Prelude.{nat_lt, nat_le}
use Rattle.std.specs.FinMap.{get}
use Rattle.guest_ram.specs.Bytes.{word32}
use Rattle.ia32_types.specs.declared.addresses.TheConstants.{DATA_ADDRESS, TEXT_ADDRESS, WINDOW_ADDRESS, WINDOW_END}
use Rattle.ia32_types.specs.declared.stop.Stop as reason
use Rattle.ia32_types.specs.declared.stop.Stop.TheVariants as stops
use Rattle.paging.specs.declared.entry.Access.{Access}
use Rattle.paging.specs.declared.entry.Entry.{Entry}
use Rattle.paging.specs.declared.entry.Walk.{Walk}
use Rattle.paging.specs.declared.entry.Walk.TheVariants.{Absent, Beyond, Reserved, Found}
use Rattle.paging.specs.declared.entry.Touch.{Touch}
use Rattle.paging.specs.declared.entry.Touch.TheVariants.{Ready, Fault, Stop}
use Rattle.paging.specs.Space.{Mode, Bare, Wedge, Space}
use Rattle.paging.specs.Fresh.{has, dir_place, is_large, fresh, grants}
use Rattle.paging.specs.Uses.{Tables, tables_of, Decision, is_barred, window_stop, walks_text, marks_own, by_walk, decided, settled, usable, by_entry, page_uses, go_on, and_then, unready, made_ready, second_page, by_pages, by_window, uses, fetches}
use Rattle.paging.specs.Agreement.{bare, is_extra, TouchAgrees, UsesAgree, FetchesAgree}
use Rattle.paging.specs.MonitorStops.{is_extra_stop}

pub clash : false ≡ true → ⊥
clash e = cc

clash_of : true ≡ false → ⊥
clash_of e = cc

abbrev bare_tables : Tables → Tables
bare_tables t = record t { mode = Bare }

-- what a walk decides doesn't name the mode
abbrev DecisionAgrees : Decision → Decision → Type 0
DecisionAgrees d e = (is_extra d.met ≡ true) ⊎ (e ≡ d)

no_text : (b c d : Bool) → (b && (c && (d && false))) ≡ false
no_text true true true = refl
no_text true true false = refl
no_text true false d = refl
no_text false c d = refl

-- denied first, then the monitor's two tests, on the bare machine both false
after_tests : (denied text own : Bool) (a b c d : Decision) → is_extra b.met ≡ true → is_extra c.met ≡ true
    → DecisionAgrees (cond denied a (cond text b (cond own c d))) (cond denied a d)
after_tests true text own a b c d hb hc = inr refl
after_tests false true own a b c d hb hc = inl hb
after_tests false false true a b c d hb hc = inl hc
after_tests false false false a b c d hb hc = inr refl

-- on the bare machine no frame is barred
bare_bars : (fetch user : Bool) (page frame : ℕ) → is_barred Bare fetch user page frame ≡ false
bare_bars true true page frame = refl
bare_bars true false page frame = refl
bare_bars false user page frame = refl

walk_agrees : (t : Tables) (fetch : Bool) (at : ℕ) (access : Access) (walk : Walk) → DecisionAgrees (by_walk t fetch at access walk)
    (by_walk (bare_tables t) fetch at access walk)
unfolding marks_own
walk_agrees t fetch at access Absent = inr refl
walk_agrees t fetch at access Beyond = inr refl
walk_agrees t fetch at access Reserved = inr refl
walk_agrees t fetch at access (Found entry dir_at word_at) =
    rw (bare_bars fetch access.user entry.page entry.frame)
    (after_tests (not (grants entry access t.wp)) (is_barred t.mode fetch access.user entry.page entry.frame)
    (marks_own t dir_at word_at access.write) _ _ _ _ refl refl)

after_text : (text none : Bool) (a b c : Decision) → none ≡ false → is_extra a.met ≡ true → DecisionAgrees b c
    → DecisionAgrees (cond text a b) (cond none a c)
after_text true none a b c e h k = inl h
after_text false true a b c e h k = absurd (clash_of e)
after_text false false a b c e h k = k

bare_walks : (t : Tables) (page : ℕ) → walks_text (bare_tables t) page ≡ false
unfolding walks_text
bare_walks t page =
    let dir : ℕ = word32 t.ram (dir_place t.cr3 page) in
    no_text (nat_lt (t.cr3 / 4096) t.frames) (has dir 1) (not (is_large t.pse dir))

decided_agrees : (t : Tables) (fetch : Bool) (page at : ℕ) (access : Access) → DecisionAgrees (decided t fetch page at access)
    (decided (bare_tables t) fetch page at access)
unfolding decided
decided_agrees t fetch page at access = after_text (walks_text t page) (walks_text (bare_tables t) page) _ _ _ (bare_walks t page) refl
    (walk_agrees t fetch at access (fresh t.ram t.frames t.cr3 t.pse page))

settled_agrees : (s : Space) (page : ℕ) (d e : Decision) → DecisionAgrees d e → TouchAgrees (settled s page d) (settled (bare s) page e)
settled_agrees s page d e (inl h) = inl h
settled_agrees s page d e (inr h) = inr (ap (settled (bare s) page) h)

after_entry : (text : Bool) (s : Space) → TouchAgrees (cond text (Stop stops.TextMapped, s) (Ready, s)) (Ready, bare s)
after_entry true s = inl refl
after_entry false s = inr refl

entry_agrees : (s : Space) (fetch : Bool) (page at : ℕ) (access : Access) (entry : Option Entry)
    → TouchAgrees (by_entry s fetch page at access entry) (by_entry (bare s) fetch page at access entry)
entry_agrees s fetch page at access None = settled_agrees s page (decided (tables_of s) fetch page at access)
    (decided (tables_of (bare s)) fetch page at access) (decided_agrees (tables_of s) fetch page at access)
entry_agrees s fetch page at access (Some entry) =
    rw (bare_bars fetch access.user page entry.frame) (after_entry (is_barred s.mode fetch access.user page entry.frame) s)

page_agrees : (s : Space) (fetch : Bool) (page at : ℕ) (access : Access)
    → TouchAgrees (page_uses s fetch page at access) (page_uses (bare s) fetch page at access)
unfolding page_uses
page_agrees s fetch page at access = entry_agrees (record s { pages = s.pages + 1; visited = s.visited ++ page ∷ [] }) fetch page at access
    (usable (get s.set page) access s.wp)

then_agrees : (met : Touch) (s : Space) (p : Touch × Space) (f : Space → Touch × Space) → ((t : Space) → TouchAgrees (f t) (f (bare t)))
    → TouchAgrees (met, s) p → TouchAgrees (go_on met s f) (and_then p f)
then_agrees Ready s p f h (inl e) = absurd (clash e)
then_agrees Ready s p f h (inr e) = elim (h s) [ inl k ↦ inl k | inr g ↦ inr (ap (λ q. and_then q f) e ∙ g) ]
then_agrees (Fault code at) s p f h (inl e) = absurd (clash e)
then_agrees (Fault code at) s p f h (inr e) = inr (ap (λ q. and_then q f) e)
then_agrees (Stop stop) s p f h (inl e) = inl e
then_agrees (Stop stop) s p f h (inr e) = inr (ap (λ q. and_then q f) e)

either : (test : Bool) (a b c d : Touch × Space) → TouchAgrees a c → TouchAgrees b d → TouchAgrees (cond test a b) (cond test c d)
either true a b c d h k = h
either false a b c d h k = k

second_agrees : (at len : ℕ) (access : Access) (s : Space) → TouchAgrees (second_page at len access s) (second_page at len access (bare s))
second_agrees at len access s = either ((at + len - 1) / 4096 == at / 4096) _ _ _ _ (inr refl)
    (page_agrees s false ((at + len - 1) / 4096) ((at + len - 1) / 4096 * 4096) access)

pages_agree : (at len : ℕ) (access : Access) (s : Space) → TouchAgrees (by_pages at len access s) (by_pages at len access (bare s))
pages_agree at len access s =
    let whole : (t : Space) → TouchAgrees (and_then (second_page at len access t) (made_ready at len access.write))
    (and_then (second_page at len access (bare t)) (made_ready at len access.write)) =
    λ t. then_agrees (second_page at len access t).0 (second_page at len access t).1 (second_page at len access (bare t))
    (made_ready at len access.write) (λ u. inr refl) (second_agrees at len access t) in
    then_agrees (page_uses s false (at / 4096) at access).0 (page_uses s false (at / 4096) at access).1
    (page_uses (bare s) false (at / 4096) at access) (λ t. and_then (second_page at len access t) (made_ready at len access.write)) whole
    (page_agrees s false (at / 4096) at access)

abbrev IsExtraOr : Option reason.Stop → Type 0
IsExtraOr None = Unit {0}
IsExtraOr (Some stop) = is_extra_stop stop ≡ true

in_windows : (a b c : Bool)
    → IsExtraOr (cond a None (cond b (Some stops.TextTouched) (cond c (Some stops.WedgeTouched) (Some stops.LowTouched))))
in_windows true b c = tt
in_windows false true c = refl
in_windows false false true = refl
in_windows false false false = refl

window_extra : (mode : Mode) (access : Access) (at : ℕ) → IsExtraOr (window_stop mode access at)
window_extra Bare access at = tt
window_extra (Wedge text count own) access at =
    in_windows (access.user || nat_le DATA_ADDRESS at) (nat_le TEXT_ADDRESS at) (nat_le WINDOW_ADDRESS at && nat_lt at WINDOW_END)

window_agrees : (w : Option reason.Stop) (at len : ℕ) (access : Access) (s : Space) → IsExtraOr w
    → TouchAgrees (by_window w at len access s) (by_pages at len access (bare s))
window_agrees None at len access s h = pages_agree at len access s
window_agrees (Some stop) at len access s h = inl h

pub uses_agree : UsesAgree
unfolding uses
uses_agree s at len access = either (nat_lt (2 ^ 32) (at + len)) _ _ _ _ (inr refl)
    (window_agrees (window_stop s.mode access at) at len access (unready s) (window_extra s.mode access at))

pub fetches_agree : FetchesAgree
unfolding fetches
fetches_agree s at len user =
    let access : Access = record { write = false; user = user } in
    then_agrees (page_uses (unready s) true (at / 4096) at access).0 (page_uses (unready s) true (at / 4096) at access).1
    (page_uses (unready (bare s)) true (at / 4096) at access) (made_ready at len false) (λ u. inr refl)
    (page_agrees (unready s) true (at / 4096) at access)
