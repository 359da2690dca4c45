-- What a translation leaves, whether it walks or not.
use Rattle.std.proofs.Common.{◌≡◌, ℕ, ◌+◌, ◌-◌, ◌*◌, ◌/◌, ◌^◌, ◌≤◌, List, [], ◌∷◌, ◌++◌, Bool, true, false, cond, ◌&&◌, ◌||◌, not, ◌==◌, Option, Some, None, Ok, refl, sym, ap, ◌∙◌}
use Rattle.std.specs.Prelude.{nat_lt, nat_le}
use Rattle.std.proofs.lemmas.Bool.{leb-true, ltb-false}
use Rattle.ia32_types.specs.declared.stop.Stop as reason
use Rattle.ia32_types.specs.declared.stop.Stop.TheVariants as stops
use Rattle.paging.specs.declared.entry.Access.{Access}
use Rattle.paging.specs.declared.entry.Touch.{Touch}
use Rattle.paging.specs.declared.entry.Touch.TheVariants.{Ready, Fault, Stop}
use Rattle.paging.specs.Space.{Space, Earlier}
use Rattle.paging.specs.Uses.{window_stop, page_uses, go_on, and_then, unready, made_ready, second_page, by_pages, by_window, uses}
use Rattle.descriptors.specs.Access as accesses
use Rattle.descriptors.specs.Access.{met}
use Rattle.sys_exec.specs.Access.{denials, reaching}
use Rattle.native_steps.proofs.Went.{page_went}
use Rattle.step_exec.proofs.UserReads.{uses_earlier}

second_earlier : (test : Bool) (o : Touch × Space) (s : Space) → o.1.earlier ≡ s.earlier
    → (cond {A = Touch × Space} test (Ready, s) o).1.earlier ≡ s.earlier
second_earlier true o s h = refl
second_earlier false o s h = h

met_space : (o : Touch) (s t : Space) → met denials o s ≡ Ok (tt, t) → (o ≡ Ready) × (s ≡ t)
met_space Ready s t e = let p : ◌≡◌ {A = Unit {0} × Space} (tt, s) (tt, t) = cc in (refl, ap (λ (q : Unit {0} × Space). q.1) p)
met_space (Fault code cr2) s t e = absurd cc
met_space (Stop stop) s t e = absurd cc

pub reaching_uses : (s t : Space) (at len : ℕ) (access : Access) → reaching at len access s ≡ Ok (tt, t)
    → ((uses s at len access).0 ≡ Ready) × ((uses s at len access).1 ≡ t)
unfolding accesses.reaching
reaching_uses s t at len access e = met_space (uses s at len access).0 (uses s at len access).1 t e

-- the translations from before the last range
pub reaching_earlier : (s t : Space) (at len : ℕ) (access : Access) → reaching at len access s ≡ Ok (tt, t) → t.earlier.set ≡ s.set
reaching_earlier s t at len access e =
    ap (λ (x : Space). x.earlier.set) (sym (reaching_uses s t at len access e).1)
    ∙ ap (λ (x : Earlier). x.set) (uses_earlier s at len access)

-- a range that is ready doesn't wrap, and begins where the access may
pub ready_parts : (s : Space) (at len : ℕ) (access : Access) → (uses s at len access).0 ≡ Ready → (at + len ≤ 2 ^ 32)
    × (window_stop s.mode access at ≡ None)
unfolding uses
ready_parts s at len access e = either (nat_lt (2 ^ 32) (at + len)) refl e
  where
    window : (w : Option reason.Stop) → (by_window w at len access (unready s)).0 ≡ Ready → w ≡ None
    window None f = refl
    window (Some stop) f = absurd cc

    either : (wraps : Bool) → nat_lt (2 ^ 32) (at + len) ≡ wraps
        → (cond {A = Touch × Space} wraps (Stop stops.WrapAccess, unready s)
        (by_window (window_stop s.mode access at) at len access (unready s))).0 ≡ Ready
        → (at + len ≤ 2 ^ 32) × (window_stop s.mode access at ≡ None)
    either true is f = absurd cc
    either false is f = (ltb-false (2 ^ 32) (at + len) is, window (window_stop s.mode access at) f)

-- a supervisor's range that may begin there lies above the windows
pub window_above : (kernel : Bool) (at : ℕ) → cond {A = Option reason.Stop} (not kernel || nat_le 285212672 at) None
    (cond (nat_le 268435456 at) (Some stops.TextTouched)
    (cond (nat_le 67108864 at && nat_lt at 100663296) (Some stops.WedgeTouched) (Some stops.LowTouched))) ≡ None
    → kernel ≡ true → 0x11000000 ≤ at
window_above false at e k = absurd cc
window_above true at e k =
    leb-true 285212672 at (told (nat_le 285212672 at) (nat_le 268435456 at) (nat_le 67108864 at && nat_lt at 100663296) e)
  where
    told : (c d f : Bool) → cond {A = Option reason.Stop} c None
        (cond d (Some stops.TextTouched) (cond f (Some stops.WedgeTouched) (Some stops.LowTouched))) ≡ None → c ≡ true
    told true d f g = refl
    told false true f g = absurd cc
    told false false true g = absurd cc
    told false false false g = absurd cc

-- ---- through which pages a range goes

unfoldable pub went_by : List ℕ → ℕ → ℕ → List ℕ
went_by visited at len =
    cond ((at + len - 1) / 4096 == at / 4096) (visited ++ (at / 4096) ∷ []) ((visited ++ (at / 4096) ∷ []) ++ ((at + len - 1) / 4096) ∷ [])

made_went : (o : Touch) (s : Space) (at len : ℕ) (write : Bool) → (go_on o s (made_ready at len write)).1.visited ≡ s.visited
made_went Ready s at len write = refl
made_went (Fault code cr2) s at len write = refl
made_went (Stop stop) s at len write = refl

second_went : (s t : Space) (at len : ℕ) (access : Access) → t.visited ≡ s.visited ++ (at / 4096) ∷ []
    → (second_page at len access t).1.visited ≡ went_by s.visited at len
unfolding went_by
second_went s t at len access e = choice ((at + len - 1) / 4096 == at / 4096)
  where
    choice : (one : Bool) → (cond {A = Touch × Space} one (Ready, t)
        (page_uses t false ((at + len - 1) / 4096) ((at + len - 1) / 4096 * 4096) access)).1.visited
        ≡ cond one (s.visited ++ (at / 4096) ∷ []) ((s.visited ++ (at / 4096) ∷ []) ++ ((at + len - 1) / 4096) ∷ [])
    choice true = e
    choice false = page_went t false ((at + len - 1) / 4096) ((at + len - 1) / 4096 * 4096) access
        ∙ ap (λ (x : List ℕ). x ++ ((at + len - 1) / 4096) ∷ []) e

pages_went : (s : Space) (at len : ℕ) (access : Access) → (by_pages at len access s).0 ≡ Ready
    → (by_pages at len access s).1.visited ≡ went_by s.visited at len
pages_went s at len access e = first (page_uses s false (at / 4096) at access).0 (page_uses s false (at / 4096) at access).1
    (page_went s false (at / 4096) at access) e
  where
    first : (o : Touch) (t : Space) → t.visited ≡ s.visited ++ (at / 4096) ∷ []
        → (go_on o t (λ u. and_then (second_page at len access u) (made_ready at len access.write))).0 ≡ Ready
        → (go_on o t (λ u. and_then (second_page at len access u) (made_ready at len access.write))).1.visited ≡ went_by s.visited at len
    first Ready t w f =
        made_went (second_page at len access t).0 (second_page at len access t).1 at len access.write ∙ second_went s t at len access w
    first (Fault code cr2) t w f = absurd cc
    first (Stop stop) t w f = absurd cc

uses_went : (s : Space) (at len : ℕ) (access : Access) → (uses s at len access).0 ≡ Ready
    → (uses s at len access).1.visited ≡ went_by s.visited at len
unfolding uses
uses_went s at len access e = either (nat_lt (2 ^ 32) (at + len)) e
  where
    window : (w : Option reason.Stop) → (by_window w at len access (unready s)).0 ≡ Ready
        → (by_window w at len access (unready s)).1.visited ≡ went_by s.visited at len
    window None f = pages_went (unready s) at len access f
    window (Some stop) f = absurd cc

    either : (wraps : Bool)
        → (cond {A = Touch × Space} wraps (Stop stops.WrapAccess, unready s)
        (by_window (window_stop s.mode access at) at len access (unready s))).0 ≡ Ready
        → (cond {A = Touch × Space} wraps (Stop stops.WrapAccess, unready s)
        (by_window (window_stop s.mode access at) at len access (unready s))).1.visited ≡ went_by s.visited at len
    either true f = absurd cc
    either false f = window (window_stop s.mode access at) f

pub range_went : (s t : Space) (at len : ℕ) (access : Access) → reaching at len access s ≡ Ok (tt, t) → t.visited ≡ went_by s.visited at len
range_went s t at len access e =
    let p = reaching_uses s t at len access e in
    ap (λ (x : Space). x.visited) (sym p.1) ∙ uses_went s at len access p.0
