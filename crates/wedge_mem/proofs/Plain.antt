-- A step of a guest's memory as it begins, and an instruction's bytes in two pages.
use Rattle.std.proofs.Common.{◌≡◌, ℕ, ◌+◌, ◌-◌, ◌*◌, ◌/◌, ◌<◌, ◌≤◌, List, [], length, false, Option, Some, None, refl, sym, ap, ◌∙◌, subst, arith}
use Rattle.std.specs.Prelude.{nat_le, IsSome, MatchOption}
use Rattle.std.specs.FinMap.{FinMap, get, empty, get-empty}
use Rattle.std.specs.Ordering.{nat_cmp}
use Rattle.std.specs.Option.{ForSome}
use Rattle.std.proofs.lemmas.Bool.Decides.{nat_tests}
use Rattle.std.proofs.lemmas.Option.{none-some}
use Rattle.frame_pool.specs.Held.{Moves, Owns}
use Rattle.frame_pool.specs.declared.Pool.{Pool}
use Rattle.paging.specs.declared.entry.Entry.{Entry}
use Rattle.paging.specs.declared.entry.Touch.{Touch}
use Rattle.paging.specs.declared.entry.Touch.TheVariants.{Ready}
use Rattle.paging.specs.Ready.{HasRange, IsReach, Readied}
use Rattle.paging.specs.Space.{Mode, Space, place}
use Rattle.paging.specs.Uses.{with_front, with_back}
use Rattle.step_mem.specs.Changes.{changed, AreWithin}
use Rattle.step_mem.specs.Guard.{mode_by, IsApart, IsLaid}
use Rattle.step_mem.specs.Sound.{IsSound, begun, space_at}
use Rattle.step_mem.specs.declared.guard.Own.{Own}
use Rattle.step_mem.specs.declared.guard.Text.{Text}
use Rattle.step_mem.specs.declared.state.StepState.{StepState}
use Rattle.step_mem.specs.declared.walking.Control.{Control}
use Rattle.wedge_mem.specs.declared.progress.Progress.{Progress}
use Rattle.wedge_mem.specs.Progress.{Guards, IsGoing, IsPlain, left_in_page, owning, space_in, state_by}

short : (bytes : List ℕ) (n : ℕ) → bytes ≡ [] → length bytes ≤ n
short bytes n e = rw e (omega arith)

laid : (text : Option Text) (first count frames : ℕ) → IsPlain text first count → first + count ≤ frames → IsLaid text frames
laid None first count frames h l = absurd h
laid (Some text) first count frames h l =
    ((let a = h.0 in let b = h.1 in omega (arith, a, b, l)), short text.bytes.now (4096 * text.count) h.2)

mode_same : (a b : Option Text) (own other : Own) (first count : ℕ) → IsPlain a first count → IsPlain b first count → own ≡ other
    → mode_by a own ≡ mode_by b other
mode_same None b own other first count h k e = absurd h
mode_same (Some text) None own other first count h k e = absurd k
mode_same (Some text) (Some next) own other first count h k e = rw (h.0 ∙ sym k.0, h.1 ∙ sym k.1, e) refl

laid_same : (a b : Option Text) (first count frames : ℕ) → IsPlain a first count → IsPlain b first count → IsLaid a frames → IsLaid b frames
laid_same None b first count frames h k l = absurd h
laid_same (Some text) b first count frames h k l =
    laid b first count frames k (let x = h.0 in let y = h.1 in let z = l.0 in omega (arith, x, y, z))

-- what is sound under one guard of these frames is so under each
pub going_after : (kept : List ℕ → FinMap nat_cmp Entry) (floor : ℕ) (stands : List ℕ → Type 0) (ram : List ℕ)
    (state : StepState) (p : Progress)
    → IsSound kept floor stands ram state → state ≡ state_by state.guard p → Guards state.guard p → IsGoing kept floor stands ram p
going_after kept floor stands ram state p sound is by guard h =
    let s : IsSound kept floor stands ram (state_by state.guard p) = subst (λ (t : StepState). IsSound kept floor stands ram t) is sound in
    let mode = mode_same state.guard.text.now guard.text.now state.guard.own guard.own p.first p.count by.0 h.0 (by.1 ∙ sym h.1) in
    record {
      frames_in = s.frames_in;
      below = s.below;
      laid_in = laid_same state.guard.text.now guard.text.now p.first p.count p.state.control.frames by.0 h.0 s.laid_in;
      counted = s.counted;
      few = s.few;
      visits = s.visits;
      told = s.told;
      read = s.read;
      written = s.written;
      fits = s.fits;
      stands_now = s.stands_now;
      within = s.within;
      reached = s.reached;
      apart = λ e at l k. subst (λ (m : Mode). IsApart m (get (changed (kept ram) p.state.changes) (at / 4096))) mode (s.apart e at l k);
      earlier_counted = s.earlier_counted;
      earlier_fits = s.earlier_fits;
      earlier_within = s.earlier_within;
      earlier_reached = s.earlier_reached;
    }

-- what a fetch made ready has entries
pub found_after : (kept : List ℕ → FinMap nat_cmp Entry) (ram : List ℕ) (state : StepState) (p : Progress) (at len : ℕ) (met : Touch)
    → state ≡ state_by state.guard p → Readied (space_at kept ram state) at len false met → met ≡ Ready
    → HasRange (space_in kept ram p) at len
found_after kept ram state p at len met is ready r byte low high =
    let reach : IsReach (space_at kept ram state) at len false = subst (Readied (space_at kept ram state) at len false) r ready in
    subst (λ (t : StepState). IsSome (get (changed (kept ram) t.changes) (byte / 4096))) is (reach.found byte low high)

-- nothing is used yet
pub going_first : (kept : List ℕ → FinMap nat_cmp Entry) (floor : ℕ) (stands : List ℕ → Type 0) (ram : List ℕ) (p : Progress)
    (control : Control) (begins : p.state ≡ begun control p.state.guard)
    → 4096 * control.frames ≤ length ram → 4096 * control.frames ≤ floor → p.first + p.count ≤ control.frames → ∥ stands ram ∥₁
    → AreWithin control.frames (kept ram)
    → IsGoing kept floor stands ram p
going_first kept floor stands ram p control begins room low among s w guard h =
    subst (λ (state : StepState). IsSound kept floor stands ram (record state { guard = guard })) (sym begins) (record {
      frames_in = room;
      below = low;
      laid_in = laid guard.text.now p.first p.count control.frames h.0 among;
      counted = omega arith;
      few = omega arith;
      visits = refl;
      told = λ q h. h;
      read = omega arith;
      written = omega arith;
      fits = omega arith;
      stands_now = s;
      within = w;
      reached = λ at l k. absurd (omega (arith, l, k));
      apart = λ e at l k. absurd (omega (arith, l, k));
      earlier_counted = omega arith;
      earlier_fits = omega arith;
      earlier_within = w;
      earlier_reached = λ at l k. absurd (omega (arith, l, k));
    })

none_within : (found : Option Entry) (page frames : ℕ) → found ≡ None
    → ForSome found (λ entry. (entry.page ≡ page) × (entry.frame < frames))
none_within found page frames e = λ entry is. absurd (none-some entry (sym e ∙ is))

-- what is left of a set at the end of a step is within the frames
pub left_within : (result : Option ℕ) (left set : FinMap nat_cmp Entry) (frames : ℕ) → MatchOption result (left ≡ empty) (λ n. left ≡ set)
    → AreWithin frames set → AreWithin frames left
left_within None left set frames e w =
    λ page. none_within (get left page) page frames (ap (λ (s : FinMap nat_cmp Entry). get s page) e ∙ get-empty nat_cmp page)
left_within (Some n) left set frames e w = subst (λ s. AreWithin frames s) (sym e) w

-- a pool of which frames moved still lies after the guest's frames
pub room_left : (p p' : Pool) (m m' fs fs' : List ℕ) (frames : ℕ) → Moves p p' m m' fs fs' → 4096 * frames ≤ length m
    → 4096 * frames ≤ 4096 * p.base → (4096 * frames ≤ length m') × (4096 * frames ≤ 4096 * p'.base)
room_left p p' m m' fs fs' frames v room low = let size =
    v.size in let same = v.same.0 in (omega (arith, size, room), omega (arith, same, low))

pub room_first : (p : Pool) (m fs : List ℕ) (frames : ℕ) → Owns p m fs → frames ≤ p.base → (4096 * frames ≤ length m)
    × (4096 * frames ≤ 4096 * p.base)
room_first p m fs frames o low = let room = o.stands.room in (omega (arith, room, low), omega (arith, low))

-- bytes that reach a second page
pub own_two : (s t u : Space) (at len left : ℕ) → left ≡ left_in_page at → left < len
    → t ≡ record s { mode = with_front s.mode (place s at) left }
    → u ≡ record t { mode = with_back t.mode (place t (at + left)) (len - left) } → u ≡ owning s at len
unfolding place
own_two s t u at len left e l a b =
    let past : nat_le len (left_in_page at) ≡ false = grind (arith, nat_tests, e, l) in
    b ∙ ap (λ (t : Space). record t { mode = with_back t.mode (place t (at + left)) (len - left) }) a
    ∙ ap (λ n. record s { mode = with_back (with_front s.mode (place s at) n) (place s (at + n)) (len - n) }) e
    ∙ sym (rw past refl)
