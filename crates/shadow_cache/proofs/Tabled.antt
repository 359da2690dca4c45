-- The frames that are among the tables of a pair, after each call.
use Rattle.std.proofs.Common.{◌≡◌, ℕ, zero, suc, List, [], ◌∷◌, ◌++◌, length, take, filter, Bool, true, false, not, ◌||◌, cond, eqb, Option, Some, None, refl, sym, ap, ◌∙◌, inl, inr}
use Rattle.std.proofs.lemmas.Bool.Decides.{eqb_tells}
use Rattle.std.proofs.lemmas.Bool.{or_right, ne_eqb, or_left}
use Rattle.std.proofs.lemmas.Option.{same_Some, none-some}
use Rattle.std.proofs.Math.Bool.{or_assoc}
use Rattle.plain_laws.proofs.Tests.{either_less}
use Rattle.paging.specs.declared.entry.Entry.{Entry}
use Rattle.guest_ram.specs.Among.{is_among}
use Rattle.shadow_tables.specs.declared.words.Side.{Side}
use Rattle.shadow_tables.specs.declared.calls.Call.TheVariants.{Fill, DropPage, DropDir, DropAll, Note, Written}
use Rattle.shadow_cache.specs.Past.{Past, is_table, all_but, marked_at, after_shared, unmarked, of_value, but_value, with_front, after_call, pairs_after}
use Rattle.shadow_cache.specs.declared.call_lists.RootsCall.{RootsCall}
use Rattle.shadow_cache.specs.declared.call_lists.RootsCall.TheVariants.{Shared, Switch}
use Rattle.shadow_cache.proofs.Beside.{or-less}
use Rattle.shadow_cache.proofs.Since.{pairs-more}

-- ---- all frames but one

one-but : (b : Bool) (f g : ℕ) (gs rest : List ℕ) → is_among f (cond b rest (g ∷ rest)) ≡ true
    → (is_among f rest ≡ true → is_among f gs ≡ true) → is_among f (g ∷ gs) ≡ true
one-but true f g gs rest e h = or_right (eqb f g) (is_among f gs) (h e)
one-but false f g gs rest e h = or-less (eqb f g) (is_among f rest) (is_among f gs) e h

all-but-less : (f frame : ℕ) (fs : List ℕ) → is_among f (all_but frame fs) ≡ true → is_among f fs ≡ true
all-but-less f frame [] e = e
all-but-less f frame (g ∷ gs) e = one-but (eqb frame g) f g gs (all_but frame gs) e (all-but-less f frame gs)

pub all-but-there : (frame : ℕ) (fs : List ℕ) → is_among frame (all_but frame fs) ≡ false
all-but-there frame [] = refl
all-but-there frame (g ∷ gs) =
    elim (eqb_tells frame g) [
      | inl t ↦ ap (λ b. is_among frame (cond b (all_but frame gs) (g ∷ all_but frame gs))) t.0 ∙ all-but-there frame gs
      | inr t ↦
          ap (λ b. is_among frame (cond b (all_but frame gs) (g ∷ all_but frame gs))) t.0
          ∙ ap (λ b. b || is_among frame (all_but frame gs)) t.0 ∙ all-but-there frame gs
    ]

pub all-but-other : (f frame : ℕ) (fs : List ℕ) → (f ≡ frame → ⊥) → is_among f (all_but frame fs) ≡ is_among f fs
all-but-other f frame [] n = refl
all-but-other f frame (g ∷ gs) n =
    elim (eqb_tells frame g) [
      | inl t ↦
          ap (λ b. is_among f (cond b (all_but frame gs) (g ∷ all_but frame gs))) t.0
          ∙ all-but-other f frame gs n ∙ sym (ap (λ b. b || is_among f gs) (ne_eqb f g (λ e. n (e ∙ sym t.1))))
      | inr t ↦
          ap (λ b. is_among f (cond b (all_but frame gs) (g ∷ all_but frame gs))) t.0
          ∙ ap (λ b. eqb f g || b) (all-but-other f frame gs n)
    ]

-- ---- no more tables than before

stale-less : (b : Bool) (frame : ℕ) (p : Past) (f : ℕ)
    → is_among f (cond b (record p { tables = all_but frame p.tables; stale = true }) p).tables ≡ true → is_among f p.tables ≡ true
stale-less true frame p f e = all-but-less f frame p.tables e
stale-less false frame p f e = e

one-less : (b : Bool) (p : Past) (qs ps : List Past) (f : ℕ) → is_table (cond b (p ∷ qs) qs) f ≡ true
    → (is_table qs f ≡ true → is_table ps f ≡ true) → is_table (p ∷ ps) f ≡ true
one-less true p qs ps f e h = or-less (is_among f p.tables) (is_table qs f) (is_table ps f) e h
one-less false p qs ps f e h = or_right (is_among f p.tables) (is_table ps f) (h e)

filter-less : (t : Past → Bool) (ps : List Past) (f : ℕ) → is_table (filter t ps) f ≡ true → is_table ps f ≡ true
filter-less t [] f e = e
filter-less t (p ∷ ps) f e = one-less (t p) p (filter t ps) ps f e (filter-less t ps f)

take-less : (n : ℕ) (ps : List Past) (f : ℕ) → is_table (take n ps) f ≡ true → is_table ps f ≡ true
take-less zero ps f e = cc
take-less (suc n) [] f e = e
take-less (suc n) (p ∷ ps) f e = or-less (is_among f p.tables) (is_table (take n ps) f) (is_table ps f) e (take-less n ps f)

rest-less : (b : Bool) (p : Past) (qs ps : List Past) (f : ℕ) → is_table (cond b ps (p ∷ qs)) f ≡ true
    → (is_table qs f ≡ true → is_table ps f ≡ true) → is_table (p ∷ ps) f ≡ true
rest-less true p qs ps f e h = or_right (is_among f p.tables) (is_table ps f) e
rest-less false p qs ps f e h = or-less (is_among f p.tables) (is_table qs f) (is_table ps f) e h

but-less : (v : ℕ) (ps : List Past) (f : ℕ) → is_table (but_value v ps) f ≡ true → is_table ps f ≡ true
but-less v [] f e = e
but-less v (p ∷ ps) f e = rest-less (eqb p.value v) p (but_value v ps) ps f e (but-less v ps f)

one-of : (b : Bool) (p q : Past) (o : Option Past) (ps : List Past) (f : ℕ) → cond b (Some p) o ≡ Some q → is_among f q.tables ≡ true
    → (o ≡ Some q → is_table ps f ≡ true) → is_table (p ∷ ps) f ≡ true
one-of true p q o ps f e t h = or_left (is_among f p.tables) (is_table ps f) (ap (λ (x : Past). is_among f x.tables) (same_Some p q e) ∙ t)
one-of false p q o ps f e t h = or_right (is_among f p.tables) (is_table ps f) (h e)

of-less : (v : ℕ) (ps : List Past) (q : Past) (f : ℕ) → of_value v ps ≡ Some q → is_among f q.tables ≡ true → is_table ps f ≡ true
of-less v [] q f e t = absurd (none-some q e)
of-less v (p ∷ ps) q f e t = one-of (eqb p.value v) p q (of_value v ps) ps f e t (λ o. of-less v ps q f o t)

either : (a b c : Bool) → (a || b) ≡ true → (a ≡ true → c ≡ true) → (b ≡ true → c ≡ true) → c ≡ true
either true b c e g h = g refl
either false b c e g h = h e

front-less : (v : ℕ) (ps : List Past) (f : ℕ) (o : Option Past) → of_value v ps ≡ o → is_table (with_front v ps o) f ≡ true
    → is_table ps f ≡ true
front-less v ps f None e t = take-less 7 ps f t
front-less v ps f (Some q) e t =
    either (is_among f q.tables) (is_table (but_value v ps) f) (is_table ps f) t (of-less v ps q f e) (but-less v ps f)

unmarked-less-by : (b : Bool) (p : Past) (ps : List Past) (f : ℕ) → is_table (cond b ps (p ∷ ps)) f ≡ true → is_table (p ∷ ps) f ≡ true
unmarked-less-by true p ps f e = or_right (is_among f p.tables) (is_table ps f) e
unmarked-less-by false p ps f e = e

unmarked-less : (ps : List Past) (f : ℕ) → is_table (unmarked ps) f ≡ true → is_table ps f ≡ true
unmarked-less [] f e = e
unmarked-less (p ∷ ps) f e = unmarked-less-by p.stale p ps f e

abbrev pub Fewer : ℕ → List RootsCall → RootsCall → Type 0
Fewer v cs c = (f : ℕ) → is_table (pairs_after v (cs ++ c ∷ [])) f ≡ true → is_table (pairs_after v cs) f ≡ true

from-more : (v : ℕ) (cs : List RootsCall) (c : RootsCall)
    → ((f : ℕ) → is_table (after_call (length cs) c (pairs_after v cs)) f ≡ true → is_table (pairs_after v cs) f ≡ true) → Fewer v cs c
from-more v cs c h = λ f e. h f (sym (ap (λ (ps : List Past). is_table ps f) (pairs-more v cs c)) ∙ e)

pub fewer-switch : (v : ℕ) (cs : List RootsCall) (value : ℕ) → Fewer v cs (Switch value)
fewer-switch v cs value =
    from-more v cs (Switch value)
    (λ f e. (let ps = pairs_after v cs in unmarked-less ps f (front-less value (unmarked ps) f (of_value value (unmarked ps)) refl e)))

written-less : (n frame : ℕ) (ps : List Past) (f : ℕ) → is_table (after_shared n (Written frame) ps) f ≡ true → is_table ps f ≡ true
written-less n frame [] f e = e
written-less n frame (p ∷ ps) f e =
    either_less (is_among f (marked_at frame p).tables) (is_table (filter (λ (q : Past). not (is_among frame q.tables)) ps) f)
    (is_among f p.tables) (is_table ps f)
    (stale-less (is_among frame p.tables) frame p f) (filter-less (λ (q : Past). not (is_among frame q.tables)) ps f) e

pub fewer-written : (v : ℕ) (cs : List RootsCall) (frame : ℕ) → Fewer v cs (Shared (Written frame))
fewer-written v cs frame = from-more v cs (Shared (Written frame)) (λ f e. written-less (length cs) frame (pairs_after v cs) f e)

empty-less : (n : ℕ) (ps : List Past) (f : ℕ) → is_table (after_shared n DropAll ps) f ≡ true → is_table ps f ≡ true
empty-less n [] f e = e
empty-less n (p ∷ ps) f e = cc

pub fewer-empty : (v : ℕ) (cs : List RootsCall) → Fewer v cs (Shared DropAll)
fewer-empty v cs = from-more v cs (Shared DropAll) (λ f e. empty-less (length cs) (pairs_after v cs) f e)

-- ---- as many

abbrev pub AsMany : ℕ → List RootsCall → RootsCall → Type 0
AsMany v cs c = (f : ℕ) → is_table (pairs_after v (cs ++ c ∷ [])) f ≡ is_table (pairs_after v cs) f

as-more : (v : ℕ) (cs : List RootsCall) (c : RootsCall)
    → ((f : ℕ) → is_table (after_call (length cs) c (pairs_after v cs)) f ≡ is_table (pairs_after v cs) f) → AsMany v cs c
as-more v cs c h = λ f. ap (λ (ps : List Past). is_table ps f) (pairs-more v cs c) ∙ h f

fill-as : (n : ℕ) (side : Side) (entry : Entry) (wp : Bool) (ps : List Past) (f : ℕ)
    → is_table (after_shared n (Fill side entry wp) ps) f ≡ is_table ps f
fill-as n side entry wp [] f = refl
fill-as n side entry wp (p ∷ ps) f = refl

pub as-fill : (v : ℕ) (cs : List RootsCall) (side : Side) (entry : Entry) (wp : Bool) → AsMany v cs (Shared (Fill side entry wp))
as-fill v cs side entry wp = as-more v cs (Shared (Fill side entry wp)) (λ f. fill-as (length cs) side entry wp (pairs_after v cs) f)

page-as : (n page : ℕ) (ps : List Past) (f : ℕ) → is_table (after_shared n (DropPage page) ps) f ≡ is_table ps f
page-as n page [] f = refl
page-as n page (p ∷ ps) f = refl

pub as-page : (v : ℕ) (cs : List RootsCall) (page : ℕ) → AsMany v cs (Shared (DropPage page))
as-page v cs page = as-more v cs (Shared (DropPage page)) (λ f. page-as (length cs) page (pairs_after v cs) f)

dir-as : (n index : ℕ) (ps : List Past) (f : ℕ) → is_table (after_shared n (DropDir index) ps) f ≡ is_table ps f
dir-as n index [] f = refl
dir-as n index (p ∷ ps) f = refl

pub as-dir : (v : ℕ) (cs : List RootsCall) (index : ℕ) → AsMany v cs (Shared (DropDir index))
as-dir v cs index = as-more v cs (Shared (DropDir index)) (λ f. dir-as (length cs) index (pairs_after v cs) f)

pub fewer-as : (v : ℕ) (cs : List RootsCall) (c : RootsCall) → AsMany v cs c → Fewer v cs c
fewer-as v cs c h = λ f e. sym (h f) ∙ e

-- ---- one more

abbrev pub OneMore : ℕ → List RootsCall → RootsCall → ℕ → Type 0
OneMore v cs c frame = (f : ℕ) → is_table (pairs_after v (cs ++ c ∷ [])) f ≡ (eqb f frame || is_table (pairs_after v cs) f)

note-one : (n frame : ℕ) (p : Past) (ps : List Past) (f : ℕ) → is_table (after_shared n (Note frame) (p ∷ ps)) f
    ≡ (eqb f frame || is_table (p ∷ ps) f)
note-one n frame p ps f = or_assoc (eqb f frame) (is_among f p.tables) (is_table ps f)

pub one-note : (v : ℕ) (cs : List RootsCall) (frame : ℕ) (p : Past) (ps : List Past) → pairs_after v cs ≡ p ∷ ps
    → OneMore v cs (Shared (Note frame)) frame
one-note v cs frame p ps e = λ f.
    ap (λ (qs : List Past). is_table qs f) (pairs-more v cs (Shared (Note frame)))
    ∙ ap (λ (qs : List Past). is_table (after_shared (length cs) (Note frame) qs) f) e
    ∙ note-one (length cs) frame p ps f
    ∙ sym (ap (λ (qs : List Past). eqb f frame || is_table qs f) e)
