-- Numbers read in the read range.
use Rattle.std.proofs.Common.{◌≡◌, ℕ, ◌+◌, ◌/◌, ◌<◌, Bool, true, false, cond, Option, Some, None, refl, ap, ◌∙◌, subst, arith}
use Rattle.ia32_types.specs.declared.size.Size.TheVariants.{Long}
use Rattle.ia32_types.specs.declared.stop.Stop as reason
use Rattle.ia32_exec.specs.declared.access.Range.{Range}
use Rattle.ia32_exec.specs.Memory.{number_at}
use Rattle.paging.specs.declared.entry.Access.{Access}
use Rattle.paging.specs.declared.entry.Entry.{Entry}
use Rattle.paging.specs.declared.entry.Touch.{Touch}
use Rattle.paging.specs.declared.entry.Touch.TheVariants.{Ready, Fault, Stop}
use Rattle.paging.specs.Space.{Space, Earlier, byte_at, place, loaded, as_earlier, earlier_of, with_ram}
use Rattle.paging.specs.Uses.{uses, page_uses, by_entry, settled, Decision, is_barred, go_on, and_then, second_page, by_pages, by_window, window_stop, made_ready, unready}
use Rattle.step_exec.specs.Plain.{byte_by}
use Rattle.step_exec.proofs.Ready.{in_range}

byte_read : (r : Range) (before after : Space) (k : ℕ) → k < r.len → byte_by (Some r) before after (r.at + k) ≡ byte_at
    (with_ram before after.ram) (r.at + k)
byte_read r before after k lt =
    ap (λ b. cond b (byte_at (with_ram before after.ram) (r.at + k)) (byte_at after (r.at + k))) (in_range r k lt)

pub number_read : (r : Range) (before after : Space) → r.len ≡ 4 → number_at (byte_by (Some r) before after) Long r.at ≡ loaded
    (with_ram before after.ram) r.at Long
unfolding loaded
number_read r before after four =
    let z : r.at + 0 ≡ r.at = omega arith in
    let b : ℕ → ℕ = byte_by (Some r) before after in
    let m : ℕ → ℕ = byte_at (with_ram before after.ram) in
    let b0 : b r.at ≡ m r.at = subst (λ (a : ℕ). b a ≡ m a) z (byte_read r before after 0 (omega (arith, four))) in
    let b1 : b (r.at + 1) ≡ m (r.at + 1) = byte_read r before after 1 (omega (arith, four)) in
    let b2 : b (r.at + 2) ≡ m (r.at + 2) = byte_read r before after 2 (omega (arith, four)) in
    let b3 : b (r.at + 3) ≡ m (r.at + 3) = byte_read r before after 3 (omega (arith, four)) in
    omega (arith, b0, b1, b2, b3)

-- a touch keeps what was ready before it
settled_earlier : (s : Space) (page : ℕ) (d : Decision) → (settled s page d).1.earlier ≡ s.earlier
settled_earlier s page d = refl

barred_earlier : (b : Bool) (s : Space) (stop : reason.Stop)
    → (let x : Touch × Space = cond b (Stop stop, s) (Ready, s) in x.1.earlier) ≡ s.earlier
barred_earlier true s stop = refl
barred_earlier false s stop = refl

pub entry_earlier : (s : Space) (fetch : Bool) (page at : ℕ) (access : Access) (o : Option Entry)
    → (by_entry s fetch page at access o).1.earlier ≡ s.earlier
entry_earlier s fetch page at access None = refl
entry_earlier s fetch page at access (Some entry) = barred_earlier (is_barred s.mode fetch access.user page entry.frame) s _

pub page_earlier : (s : Space) (fetch : Bool) (page at : ℕ) (access : Access) → (page_uses s fetch page at access).1.earlier ≡ s.earlier
unfolding page_uses
page_earlier s fetch page at access = entry_earlier _ fetch page at access _

pub then_earlier : (t : Touch) (s : Space) (f : Space → Touch × Space) → ((u : Space) → (f u).1.earlier ≡ u.earlier)
    → (go_on t s f).1.earlier ≡ s.earlier
then_earlier Ready s f h = h s
then_earlier (Fault code at) s f h = refl
then_earlier (Stop stop) s f h = refl

second_earlier : (b : Bool) (s : Space) (page at : ℕ) (access : Access)
    → (let x : Touch × Space = cond b (Ready, s) (page_uses s false page at access) in x.1.earlier) ≡ s.earlier
second_earlier true s page at access = refl
second_earlier false s page at access = page_earlier s false page at access

pub pages_earlier : (at len : ℕ) (access : Access) (s : Space) → (by_pages at len access s).1.earlier ≡ s.earlier
pages_earlier at len access s =
    then_earlier (page_uses s false (at / 4096) at access).0 (page_uses s false (at / 4096) at access).1
    (λ t. and_then (second_page at len access t) (made_ready at len access.write))
    (λ t. then_earlier (second_page at len access t).0 (second_page at len access t).1 (made_ready at len access.write) (λ u. refl)
    ∙ second_earlier _ t _ _ access)
    ∙ page_earlier s false (at / 4096) at access

pub window_earlier : (w : Option reason.Stop) (at len : ℕ) (access : Access) (s : Space)
    → (by_window w at len access s).1.earlier ≡ s.earlier
window_earlier None at len access s = pages_earlier at len access s
window_earlier (Some stop) at len access s = refl

wrap_earlier : (b : Bool) (stop : reason.Stop) (s : Space) (x : Touch × Space) → x.1.earlier ≡ s.earlier
    → (let y : Touch × Space = cond b (Stop stop, s) x in y.1.earlier) ≡ s.earlier
wrap_earlier true stop s x h = refl
wrap_earlier false stop s x h = h

pub uses_earlier : (s : Space) (at len : ℕ) (access : Access) → (uses s at len access).1.earlier ≡ earlier_of s
unfolding uses
uses_earlier s at len access = wrap_earlier _ _ (unready s) _ (window_earlier (window_stop s.mode access at) at len access (unready s))

-- a number in the range before the last is read at the places that it had then
pub earlier_read : (before after : Space) (at : ℕ) → after.earlier ≡ earlier_of before
    → loaded (as_earlier after) at Long ≡ loaded (with_ram before after.ram) at Long
unfolding loaded byte_at place
earlier_read before after at e = ap (λ (x : Earlier). loaded (record after { set = x.set }) at Long) e
