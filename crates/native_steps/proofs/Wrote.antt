-- Which frames a range notes that was made ready for a write.
use Rattle.std.proofs.Common.{◌≡◌, ℕ, ◌+◌, ◌/◌, ◌^◌, List, ◌++◌, Bool, true, false, cond, Option, Some, None, Ok, refl, subst}
use Rattle.std.specs.Prelude.{nat_lt}
use Rattle.ia32_types.specs.declared.stop.Stop as reason
use Rattle.ia32_types.specs.declared.stop.Stop.TheVariants as stops
use Rattle.paging.specs.declared.entry.Access.{Access}
use Rattle.paging.specs.declared.entry.Touch.{Touch}
use Rattle.paging.specs.declared.entry.Touch.TheVariants.{Ready, Fault, Stop}
use Rattle.paging.specs.Space.{Space, frames_of}
use Rattle.paging.specs.Uses.{window_stop, page_uses, go_on, and_then, unready, made_ready, second_page, by_window, uses}
use Rattle.sys_exec.specs.Access.{reaching}
use Rattle.native_steps.proofs.Uses.{reaching_uses}

-- the frames of the range were noted last
pub record Wrote (at len : ℕ) (t : Space) : Type 0 where
  pub before : List ℕ
  pub is : t.wrote ≡ before ++ frames_of t at len

abbrev to_write : Bool → Access
to_write user = record { write = true; user = user }

on_made : (at len : ℕ) (o : Touch) (s : Space) → (go_on o s (made_ready at len true)).0 ≡ Ready
    → Wrote at len (go_on o s (made_ready at len true)).1
on_made at len Ready s e = record { before = s.wrote; is = refl }
on_made at len (Fault code cr2) s e = absurd cc
on_made at len (Stop stop) s e = absurd cc

on_first : (at len : ℕ) (user : Bool) (o : Touch) (s : Space)
    → (go_on o s (λ t. and_then (second_page at len (to_write user) t) (made_ready at len true))).0 ≡ Ready
    → Wrote at len (go_on o s (λ t. and_then (second_page at len (to_write user) t) (made_ready at len true))).1
on_first at len user Ready s e = on_made at len (second_page at len (to_write user) s).0 (second_page at len (to_write user) s).1 e
on_first at len user (Fault code cr2) s e = absurd cc
on_first at len user (Stop stop) s e = absurd cc

uses_wrote : (s : Space) (at len : ℕ) (user : Bool) → (uses s at len (to_write user)).0 ≡ Ready
    → Wrote at len (uses s at len (to_write user)).1
unfolding uses
uses_wrote s at len user e = either (nat_lt (2 ^ 32) (at + len)) e
  where
    window : (w : Option reason.Stop) → (by_window w at len (to_write user) (unready s)).0 ≡ Ready
        → Wrote at len (by_window w at len (to_write user) (unready s)).1
    window None f = on_first at len user (page_uses (unready s) false (at / 4096) at (to_write user)).0
        (page_uses (unready s) false (at / 4096) at (to_write user)).1 f
    window (Some stop) f = absurd cc

    either : (wraps : Bool)
        → (cond {A = Touch × Space} wraps (Stop stops.WrapAccess, unready s)
        (by_window (window_stop s.mode (to_write user) at) at len (to_write user) (unready s))).0 ≡ Ready
        → Wrote at len (cond {A = Touch × Space} wraps (Stop stops.WrapAccess, unready s)
        (by_window (window_stop s.mode (to_write user) at) at len (to_write user) (unready s))).1
    either true f = absurd cc
    either false f = window (window_stop s.mode (to_write user) at) f

pub range_wrote : (s t : Space) (at len : ℕ) (user : Bool) → reaching at len (record { write = true; user = user }) s ≡ Ok
    (tt, t) → Wrote at len t
range_wrote s t at len user e = let p =
    reaching_uses s t at len (to_write user) e in subst (Wrote at len) p.1 (uses_wrote s at len user p.0)
