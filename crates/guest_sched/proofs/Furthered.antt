-- The kernels stand between two turns when one more turn was done; where the sink has failed in it, this was put.
use Rattle.std.proofs.Common.{◌≡◌, ◌≢◌, ◌⊎◌, inl, inr, ℕ, suc, ◌+◌, ◌≤◌, ◌<◌, Bool, true, false, cond, nat_le, leb-true, List, [], ◌∷◌, ◌++◌, length, map, set, get_or, Option, Some, None, is_none, refl, ap, sym, subst, ◌∙◌, arith, append-nil, append_assoc, length-append, Ok}
use Rattle.std.specs.List.{flat_map}
use Rattle.std.specs.Prelude.{IfSome, if◌then◌else◌}
use Rattle.std.proofs.lemmas.Bool.Decides.{eqb_tells}
use Rattle.std.proofs.lemmas.List.{length-set, length-map, map-set, get_or-map}
use Rattle.ia32_types.specs.declared.stop.Stop.{Stop}
use Rattle.frame_pool.specs.Pool.{Stands, free_list}
use Rattle.frame_pool.specs.declared.Pool.{Pool}
use Rattle.pv_io.specs.Sink.{Appends}
use Rattle.run_trace.specs.declared.items.End.TheVariants.{Stopped}
use Rattle.run_trace.specs.declared.pause.Pause.{Pause}
use Rattle.run_trace.specs.declared.pause.Pause.TheVariants as pauses
use Rattle.run_trace.specs.Pauses.{IfReached, end_of}
use Rattle.run_trace.proofs.Pauses.{reached_so}
use Rattle.run_trace.specs.Text.{lines_of, text_of, end_line}
use Rattle.machine_model.specs.Counts.{direct_count, passed_digest}
use Rattle.machine_model.specs.Run.{Steps, StopHolds, trace_of}
use Rattle.machine_model.specs.State.{Setting, State, boot, wedge}
use Rattle.machine_model.specs.Step.{Report}
use Rattle.machine_model.specs.Taken.{Taken, steps_by}
use Rattle.machine_model.specs.Keeping.{Roomy}
use Rattle.machine_model.proofs.Texts.{reported}
use Rattle.wedge_core.specs.KeptAfter.{KeptAfter}
use Rattle.wedge_core.specs.OfRoots.{of_roots}
use Rattle.wedge_core.specs.Sliced.{BeginsKnown}
use Rattle.sites.specs.declared.site.Site.{Site}
use Rattle.wedge_core.specs.Slices.{Counts}
use Rattle.wedge_step.specs.Carried.{IsCarried}
use Rattle.wedge_step.specs.CarryLaws.{CarryLaws}
use Rattle.wedge_step.specs.Filled.{pages_kept}
use Rattle.wedge_step.specs.Scene.{scene}
use Rattle.wedge_step.specs.Standing.{state_of}
use Rattle.guest_sched.specs.Apart.{Seat, MayGoOn, IsSeated, AreApart, behind_as}
use Rattle.guest_sched.specs.Between.{EachStands, StandsSo, IsNext, stops_of}
use Rattle.guest_sched.specs.Pieces.{Piece, MakesSteps, has_stopped, piece_text, counts_over, reports_of, own_text, stop_line}
use Rattle.guest_sched.specs.Bounds.{bound_of}
use Rattle.guest_sched.specs.Known.{AreKnown, EachKnown, IsBare, IsKnownSince}
use Rattle.guest_sched.specs.Rounds.{BeginsTurn, HasBegunRound, IsLeftAfter, MakesTurn}
use Rattle.guest_sched.specs.Seating.{seats_from, HasGoneOn}
use Rattle.guest_sched.specs.Shared.{alone, sites_in, IsBegun, BeganAlone, EachBegan}
use Rattle.guest_sched.specs.SharedRuns.{FailsInTurn}
use Rattle.guest_sched.specs.Since.{Since, since_in, since_then, turned_since}
use Rattle.guest_sched.specs.Stages.{Stage, end_with}
use Rattle.guest_sched.specs.Tags.{tag_of}
use Rattle.guest_sched.specs.Turns.{TurnKept, knowing_in}
use Rattle.guest_sched.specs.Went.{EndsSo, HasFailed}
use Rattle.guest_sched.specs.declared.kernel.Kernel.{Kernel}
use Rattle.guest_sched.specs.declared.schedule.Slice.{Slice}
use Rattle.guest_sched.specs.declared.tenants.Tenant.{Tenant}
use Rattle.guest_sched.proofs.Apart.{one_moves, others_know, others_same}
use Rattle.guest_sched.proofs.Between.{Here, here_of, at_place, direct_few, sites_at, sums_of, next_slice}
use Rattle.guest_sched.proofs.Brought.{get_or_any, left_rooms}
use Rattle.guest_sched.proofs.Going.{split}
use Rattle.guest_sched.proofs.Knowing.{known_moves, turned_here, turned_other}
use Rattle.guest_sched.proofs.Knows.{known_here}
use Rattle.guest_sched.proofs.Legs.{began_on}
use Rattle.guest_sched.proofs.Puts.{both}
use Rattle.guest_sched.proofs.Stands.{went_stands, skip_stands}
use Rattle.guest_sched.proofs.Wide.{HasTurned, IsBetween, TurnAs}
use Rattle.guest_sched.proofs.Turned.{seat_here, piece_of, turned, Turned, whole_text}
use Rattle.guest_sched.proofs.Turning.{flat_append, turns_on, counts_on, reports_on, text_on, reports_off, text_off}

-- a kernel has met the stop at which its turn paused, or none
stops_so : (number : ℕ) (t : Tenant) (taken tells : Option (List ℕ)) (pause : Pause) → EndsSo number t taken tells pause
    → end_with t.stop ≡ end_of pause
stops_so number t taken tells pauses.Reached ends = ap end_with ends.0
stops_so number t taken tells (pauses.Stopped stop) ends = ap end_with ends.0

-- one that may go on has made all its steps
live_reached : (number : ℕ) (t : Tenant) (taken tells : Option (List ℕ)) (pause : Pause) → EndsSo number t taken tells pause
    → is_none t.stop ≡ true → pause ≡ pauses.Reached
live_reached number t taken tells pauses.Reached ends live = refl
live_reached number t taken tells (pauses.Stopped stop) ends live =
    absurd (let no : false ≡ true = sym (ap is_none ends.0) ∙ live in cc)

-- the turn over the kernel's own setting
abbrev TurnOver : (k : Kernel) (n steps : ℕ) (pool : Pool) (host host' : List ℕ) (t t' : Tenant) (now now' : Counts)
    (new between : Option (List ℕ)) (pause : Pause) (frames : ℕ) → Type 0
TurnOver k n steps pool host host' t t' now now' new between pause frames =
    (turn : TurnAs (alone k frames) (tag_of n) (t.guest.step + steps) (state_of of_roots (alone k frames) t.guest host)
    (state_of of_roots (alone k frames) t'.guest host')
    now now' new between (pages_kept of_roots t.guest.shadows host) t.guest.fills t'.guest.fills (Ok pause))
    × TurnKept (alone k frames) (state_of of_roots (alone k frames) t.guest host) turn.sets turn.last turn.end
    (knowing_in (alone k frames) k (scene t.guest pool host) (scene t'.guest pool host')) (Ok pause)

at_frames : (k : Kernel) (number steps : ℕ) (pool : Pool) (host host' : List ℕ) (t t' : Tenant) (now now' : Counts)
    (new between : Option (List ℕ)) (pause : Pause) (frames n : ℕ) → t.guest.frames ≡ frames → number ≡ n
    → TurnOver k number steps pool host host' t t' now now' new between pause t.guest.frames
    → TurnOver k n steps pool host host' t t' now now' new between pause frames
at_frames k number steps pool host host' t t' now now' new between pause frames n is same turn =
    subst (λ (x : ℕ). TurnOver k x steps pool host host' t t' now now' new between pause frames) same
    (subst (λ (f : ℕ). TurnOver k number steps pool host host' t t' now now' new between pause f) is turn)

-- where a turn begins with what is known, its sets keep the rule
by_since : (frames : ℕ) (since : Since) (k : Kernel) (s : Seat) (P : List Taken → Type 0) → s.live ≡ true → IsKnownSince frames k s since
    → (n : ℕ) → ((past : List Taken) → 464 ≤ n → ((past ≡ []) × IsBare s)
    ⊎ (Roomy past → IsCarried of_roots (alone k frames) past (state_of of_roots (alone k frames) s.running s.memory) s.running.shadows
    s.memory) → P past) → IfSome (since_in n since) P
by_since frames since k s P live known n f = by (nat_le 464 n) refl since known
  where
    by : (b : Bool) → nat_le 464 n ≡ b → (since : Since) → IsKnownSince frames k s since → IfSome (if b then since else None) P
    by false is since known = tt
    by true is None known = tt
    by true is (Some past) known = f past (leb-true 464 n is) (known live)

-- and what is known after it
then_known : (frames : ℕ) (now : Since) (k : Kernel) (s : Seat) (steps : List Taken) → IfSome now (λ past. s.live ≡ true
    → (Roomy (past ++ steps) → IsCarried of_roots (alone k frames) (past ++ steps)
    (state_of of_roots (alone k frames) s.running s.memory) s.running.shadows s.memory))
    → IsKnownSince frames k s (since_then steps now)
then_known frames None k s steps h = tt
then_known frames (Some past) k s steps h = λ live. inr (h live)

same_counts : (c : Counts) (retired passed : ℕ) → c.retired ≡ retired → c.passed ≡ passed
    → c ≡ record { retired = retired; passed = passed }
same_counts c retired passed a b = ap (λ (x : ℕ). counts_with x c.passed) a ∙ ap (λ (x : ℕ). counts_with retired x) b
  where
    counts_with : ℕ → ℕ → Counts
    counts_with x y = record { retired = x; passed = y }

pub any_kernel : (ks : List Kernel) (n : ℕ) → n < length ks → Kernel
any_kernel [] n lt = absurd (omega (arith, lt))
any_kernel (k ∷ ks) n lt = k

met_stop : (n frames : ℕ) (whole done : List Slice) (pieces : List Piece) (k : Kernel) (s : Seat) (stop : Stop) (o : Option Stop)
    → o ≡ Some stop → StandsSo n frames whole done pieces k s o → has_stopped n pieces ≡ true
met_stop n frames whole done pieces k s stop None is h = absurd (cc)
met_stop n frames whole done pieces k s stop (Some other) is h = h.2

-- the text of first steps, with the line of the stop after them if there is one
begun_as : (m : Setting) (reports : List Report) (p : Piece) (pieces : List Piece) (n : ℕ) (last then_ : State) (text : List ℕ)
    → reports_of n pieces ≡ reports ++ p.reports → own_text n pieces ≡ text ++ (lines_of (trace_of p.reports) ++ stop_line p.steps p.stop)
    → text ≡ lines_of (trace_of reports) → p.steps ≡ then_.step → IfSome p.stop (StopHolds m last)
    → ((stop : Stop) → StopHolds m last stop → StopHolds m then_ stop) → IsBegun m (reports_of n pieces) then_ (own_text n pieces)
begun_as m reports p pieces n last then_ text r t is count stops on = begun p.stop refl stops
  where
    joined : text ++ lines_of (trace_of p.reports) ≡ lines_of (trace_of (reports_of n pieces))
    joined = ap (λ (l : List ℕ). l ++ lines_of (trace_of p.reports)) is ∙ sym (reported reports p.reports)
        ∙ ap (λ (l : List Report). lines_of (trace_of l)) (sym r)

    begun : (o : Option Stop) → o ≡ p.stop → IfSome o (StopHolds m last) → IsBegun m (reports_of n pieces) then_ (own_text n pieces)
    begun None e h =
        inl (t ∙ ap (λ (o : Option Stop). text ++ (lines_of (trace_of p.reports) ++ stop_line p.steps o)) (sym e)
        ∙ ap (λ (l : List ℕ). text ++ l) (append-nil (lines_of (trace_of p.reports))) ∙ joined)
    begun (Some stop) e h = inr (
      stop,
      on stop h,
      t ∙ ap (λ (o : Option Stop). text ++ (lines_of (trace_of p.reports) ++ stop_line p.steps o)) (sym e)
          ∙ sym (append_assoc text (lines_of (trace_of p.reports)) (end_line p.steps (Stopped stop)))
          ∙ ap (λ (l : List ℕ). l ++ end_line p.steps (Stopped stop)) joined
          ∙ whole_text (trace_of (reports_of n pieces)) p.steps stop
          ∙ ap (λ (c : ℕ). text_of (trace_of (reports_of n pieces)) c (Stopped stop)) count,
    )

-- a kernel that has come so far has begun
begun_so : (n frames : ℕ) (whole done : List Slice) (pieces pieces' : List Piece) (k : Kernel) (s : Seat) (stop : Option Stop)
    → reports_of n pieces' ≡ reports_of n pieces → own_text n pieces' ≡ own_text n pieces
    → StandsSo n frames whole done pieces k s stop → BeganAlone (alone k frames) (reports_of n pieces') (own_text n pieces')
begun_so n frames whole done pieces pieces' k s None r t h = record {
  sets = h.0.sets;
  last = h.0.last;
  steps = subst (λ (l : List Report). Steps (alone k frames) (boot (alone k frames)) h.0.sets l h.0.last) (sym r) h.0.steps;
  text_is = inl (t ∙ h.2 ∙ ap (λ (l : List Report). lines_of (trace_of l)) (sym r));
}
begun_so n frames whole done pieces pieces' k s (Some stop) r t h = record {
  sets = h.0.sets;
  last = h.0.last;
  steps = subst (λ (l : List Report). Steps (alone k frames) (boot (alone k frames)) h.0.sets l h.0.last) (sym r) h.0.steps;
  text_is = inr (
    stop,
    h.0.holds,
    t ∙ h.1 ∙ ap (λ (l : List Report). text_of (trace_of l) s.running.step (Stopped stop)) (sym r)
        ∙ ap (λ (c : ℕ). text_of (trace_of (reports_of n pieces')) c (Stopped stop)) h.0.count_is,
  );
}

each_began : (frames : ℕ) (whole done : List Slice) (pieces : List Piece) (slice : Slice) (p : Piece) → p.kernel ≡ slice.kernel
    → (i : ℕ) (ks : List Kernel) (ss : List Seat) (stops : List (Option Stop)) (dk : Kernel)
    → EachStands i frames whole done pieces ks ss stops
    → ((j m : ℕ) → m ≡ i + j → m ≡ slice.kernel → BeganAlone (alone (get_or ks j dk) frames) (reports_of m (pieces ++ p ∷ []))
    (own_text m (pieces ++ p ∷ []))) → EachBegan i frames (pieces ++ p ∷ []) ks
each_began frames whole done pieces slice p mine i [] [] [] dk h f = tt
each_began frames whole done pieces slice p mine i [] [] (t ∷ stops) dk h f = absurd h
each_began frames whole done pieces slice p mine i [] (s ∷ ss) stops dk h f = absurd h
each_began frames whole done pieces slice p mine i (k ∷ ks) [] stops dk h f = absurd h
each_began frames whole done pieces slice p mine i (k ∷ ks) (s ∷ ss) [] dk h f = absurd h
each_began frames whole done pieces slice p mine i (k ∷ ks) (s ∷ ss) (t ∷ stops) dk h f = (
  elim (eqb_tells i slice.kernel) [
    | inl e ↦ f 0 i (omega arith) e.1
    | inr o ↦
        let others : p.kernel ≢ i = λ e. o.1 (sym e ∙ mine) in
        begun_so i frames whole done pieces (pieces ++ p ∷ []) k s t (reports_off i p others pieces) (text_off i p others pieces) h.0
  ],
  each_began frames whole done pieces slice p mine (suc i) ks ss stops dk h.1 (λ j m is same. f (suc j) m (omega (arith, is)) same),
)

-- what is known of all of them before the turn
module _ (kernels : List Kernel) (frames : ℕ) (whole done : List Slice) (pieces : List Piece) (ts : List Tenant) (pool : Pool) (present : ℕ)
    (host : List ℕ) (before now : Counts) (old new : Option (List ℕ))
    (b : IsBetween kernels frames whole done pieces ts pool present host before now old new) (slice : Slice)
    (next : IsNext (length kernels) whole done slice)
  where
    module _ (here : present ≡ slice.kernel) (dk : Kernel) (d : Tenant) (live : (get_or ts present d).stop ≡ None) where
      abbrev k : Kernel
      k = get_or kernels present dk

      abbrev t : Tenant
      t = get_or ts present d

      pub is_here : Here frames whole done pieces pool host present k t
      is_here = here_of frames whole done pieces kernels ts pool present host dk d b.rooms.there b.rooms.len b.apart.seated b.each

      pub frames_are : t.guest.frames ≡ frames
      frames_are = is_here.seated.holds.frames_are

      pub may_go : MayGoOn frames pool (seat_here k host t)
      may_go = is_here.seated.goes_on (ap is_none live)

      pub stands_live : StandsSo present frames whole done pieces k (seat_here k host t) None
      stands_live = subst (λ (o : Option Stop). StandsSo present frames whole done pieces k (seat_here k host t) o) live is_here.stands

      grows : bound_of present (done ++ slice ∷ []) ≡ bound_of present done + slice.steps
      grows = subst (λ (x : ℕ). bound_of x (done ++ slice ∷ []) ≡ bound_of x done + slice.steps) (sym here)
          (sums_of (length kernels) whole done slice next).0

      pub within : t.guest.step + slice.steps ≤ bound_of present whole
      within =
          let most = subst (λ (x : ℕ). bound_of x done + slice.steps ≤ bound_of x whole) (sym here)
          (sums_of (length kernels) whole done slice next).1 in
          let step = stands_live.1 in
          omega (arith, most, step)

      module _ (t' : Tenant) (pool' : Pool) (host' : List ℕ) (now' : Counts) (new' : Option (List ℕ))
          (h : HasTurned k slice.kernel slice.steps pool host host' t t' now now' new new')
          (went : HasGoneOn k pool pool' host host' t t') where
        over : TurnOver k present slice.steps pool host host' t t' now now' new h.between h.pause frames
        over =
            at_frames k slice.kernel slice.steps pool host host' t t' now now' new h.between h.pause frames present frames_are (sym here)
            (h.turn, h.kept)

        turn : TurnAs (alone k frames) (tag_of present) (t.guest.step + slice.steps) (state_of of_roots (alone k frames) t.guest host)
            (state_of of_roots (alone k frames) t'.guest host') now now' new h.between (pages_kept of_roots t.guest.shadows host)
            t.guest.fills t'.guest.fills (Ok h.pause)
        turn = over.0

        kept : TurnKept (alone k frames) (state_of of_roots (alone k frames) t.guest host) turn.sets turn.last turn.end
            (knowing_in (alone k frames) k (scene t.guest pool host) (scene t'.guest pool host')) (Ok h.pause)
        unfolding turn
        kept = over.1

        made : Turned present slice.steps frames whole done slice pieces k host host' t t' now now' new h.between new' (sym here) refl
            within grows may_go.filled h.few stands_live turn.reports
        made = turned present slice.steps frames whole done slice pieces k host host' t t' now now' new h.between new' (sym here) refl
            within grows may_go.filled h.few stands_live h.pause turn
            (subst (λ (x : ℕ). EndsSo x t' h.between new' h.pause) (sym here) h.ends)

        p : Piece
        p = piece_of present turn.reports t'.guest.step t'.stop

        seated : IsSeated frames pool' (seat_here k host' t')
        seated = subst (λ (f : ℕ). IsSeated f pool' (seat_here k host' t')) frames_are went.seated

        stands : Stands pool' host'
        stands = seated.holds.owns.stands

        known : present < length kernels
        known = (let n = b.rooms.len in let lt = b.rooms.there in omega (arith, n, lt))

        apart_at : AreApart frames pool' host' (seats_from frames host' present 0 kernels (set ts present t'))
        apart_at =
            let sp = split frames host host' present 0 present kernels ts dk d t' (omega arith) b.rooms.there known b.rooms.theirs in
            subst (λ (l : List Seat). AreApart frames pool' host' l) (sym sp.is')
            (one_moves frames pool pool' host host' sp.before sp.after (seat_here k host t) (seat_here k host' t')
            (subst (λ (l : List Seat). AreApart frames pool host l) sp.is b.apart) went.keeps stands seated refl refl)

        each_at : EachStands 0 frames whole (done ++ slice ∷ []) (pieces ++ p ∷ []) kernels
            (seats_from frames host' present 0 kernels (set ts present t')) (stops_of (set ts present t'))
        unfolding p
        each_at =
            let sp = split frames host host' present 0 present kernels ts dk d t' (omega arith) b.rooms.there known b.rooms.theirs in
            let same = others_same frames pool pool' host host' sp.before sp.after (seat_here k host t) (seat_here k host' t')
            (subst (λ (l : List Seat). AreApart frames pool host l) sp.is b.apart) went.keeps stands in
            subst (λ (l : List (Option Stop)). EachStands 0 frames whole (done ++ slice ∷ []) (pieces ++ p ∷ []) kernels
            (seats_from frames host' present 0 kernels (set ts present t')) l) (sym (map-set (λ (x : Tenant). x.stop) ts present t'))
            (subst (λ (l : List Seat). EachStands 0 frames whole (done ++ slice ∷ []) (pieces ++ p ∷ []) kernels l
            (set (stops_of ts) present t'.stop)) (sym sp.is')
            (went_stands frames whole done pieces slice p here 0 present sp.before (map (behind_as frames host') sp.before) sp.after
            (map (behind_as frames host') sp.after) (seat_here k host t) (seat_here k host' t') kernels (stops_of ts) dk None t'.stop
            sp.len (let z = here in omega (arith, z)) same.0 same.1
            (subst (λ (l : List Seat). EachStands 0 frames whole done pieces kernels l (stops_of ts)) sp.is b.each)
            (λ k' is _. subst (λ (x : Kernel). StandsSo slice.kernel frames whole (done ++ slice ∷ []) (pieces ++ p ∷ []) x
            (seat_here k host' t') t'.stop) (sym is)
            (subst (λ (x : ℕ). StandsSo x frames whole (done ++ slice ∷ []) (pieces ++ p ∷ []) k (seat_here k host' t') t'.stop)
            here made.stands))))

        counts_at : now' ≡ counts_over (sites_in kernels) before (pieces ++ p ∷ [])
        unfolding p
        counts_at =
            let sites = sites_at kernels present dk known in
            same_counts now' _ _
            (turn.counts.retired ∙ ap (λ (c : Counts). c.retired + direct_count k.image.sites turn.reports) b.counts
            ∙ ap (λ (l : List Site). (counts_over (sites_in kernels) before pieces).retired + direct_count l turn.reports) (sym sites))
            (turn.counts.passed ∙ ap (λ (c : Counts). passed_digest k.image.sites c.passed turn.reports) b.counts
            ∙ ap (λ (l : List Site). passed_digest l (counts_over (sites_in kernels) before pieces).passed turn.reports) (sym sites))
            ∙ sym (counts_on (sites_in kernels) before pieces p)

        betweens : IsBetween kernels frames whole (done ++ slice ∷ []) (pieces ++ p ∷ []) (set ts present t') pool' present host'
            before now' old new'
        unfolding p
        betweens = record {
          rooms = record {
            len = length-set ts present t' ∙ b.rooms.len;
            four = b.rooms.four;
            there = (let n = length-set ts present t' in let lt = b.rooms.there in omega (arith, n, lt));
            size = b.rooms.size;
            room = (let r = b.rooms.room in let n = went.keeps.size in omega (arith, r, n));
            theirs = left_rooms frames present ts (set ts present t') t' b.rooms.there refl
                (let r = ap (λ (m : List ℕ). length m) went.ram in let mine = b.rooms.theirs present d b.rooms.there in
                omega (arith, r, mine)) b.rooms.theirs;
            pool_is = went.keeps.same.1 ∙ b.rooms.pool_is;
          };
          apart = apart_at;
          turns = turns_on [] done pieces slice p b.turns (record {
            kernel_is = here;
            steps = subst (λ (x : ℕ). MakesSteps (has_stopped x pieces) slice.steps turn.reports t'.stop) here made.makes;
          });
          each = each_at;
          text = subst (λ (l : List ℕ). Appends old new' l)
              (ap (λ (l : List ℕ). flat_map piece_text pieces ++ l) (sym (append-nil (piece_text p)))
              ∙ sym (flat_append piece_text pieces (p ∷ [])))
              (both old new new' (flat_map piece_text pieces) (piece_text p) b.text made.text);
          counts = counts_at;
          retired = (
              let up = turn.counts.retired in
              let few = direct_few k.image.sites turn.reports in
              let steps = made.few_made in
              let most = (next_slice (length kernels) whole done slice next).most in
              let was = b.retired in
              omega (arith, up, few, steps, most, was, length-append done (slice ∷ [])));
        }

        abbrev ready : Stage
        ready = record { tenants = ts; pool = pool; present = present; memory = host }

        abbrev done_so : Stage
        done_so = record { tenants = set ts present t'; pool = pool'; present = present; memory = host' }

        module _ (laws : CarryLaws) (since : ℕ → Since) (known_before : AreKnown kernels frames since ready) where
          abbrev since_now : Since
          since_now = since_in (length (free_list pool host) + t.guest.held) (since present)

          abbrev since_after : ℕ → Since
          since_after = turned_since present
              (since_then (steps_by (alone k frames) (state_of of_roots (alone k frames) t.guest host) turn.sets) since_now) since

          here_known : IsKnownSince frames k (seat_here k host t) (since present)
          here_known = known_here frames host present since kernels ts dk d b.rooms.there known known_before

          -- by what is known of it
          by_known : (P : List Taken → Type 0)
              → ((past : List Taken) → BeginsKnown of_roots k.image k.script.list (scene t.guest pool host) false past → P past)
              → IfSome since_now P
          by_known P f =
              by_since frames (since present) k (seat_here k host t) P (ap is_none live) here_known
              (length (free_list pool host) + t.guest.held)
              (λ past ample h. f past (elim h [
                | inl bare ↦ inl (bare.0, record { empty_set = bare.1.0; two = bare.1.1; ample = ample; silent = refl })
                | inr carried ↦ inr (
                  λ roomy. subst (λ (f : ℕ). IsCarried of_roots (alone k f) past (state_of of_roots (alone k f) t.guest host)
                      t.guest.shadows host) (sym frames_are) (carried roomy),
                  ample,
                  refl,
                )
              ]))

          makes : MakesTurn kernels frames slice p ready done_so since since_after
          unfolding p
          makes = record {
            number = (refl, refl);
            kernel = k;
            kernel_is = λ e. get_or_any kernels present e dk known;
            tenant = t;
            tenant_is = λ e. get_or_any ts present e d b.rooms.there;
            then_ = t';
            others = refl;
            ram = went.ram;
            keeps = went.keeps;
            sets = turn.sets;
            last = turn.last;
            end = turn.end;
            pause = h.pause;
            steps = turn.steps;
            ends = turn.ends;
            filled = turn.each_filled;
            piece = (refl, refl);
            stop_is = stops_so slice.kernel t' h.between new' h.pause h.ends;
            since_now = since_now;
            since_is = refl;
            kept = by_known (λ past. KeptAfter (alone k frames) past (state_of of_roots (alone k frames) t.guest host)
                (turn.sets ++ turn.end ∷ [])) kept.kept;
            left = by_known (λ past. IfReached (Ok h.pause) (IsLeftAfter (alone k frames) past
                (steps_by (alone k frames) (state_of of_roots (alone k frames) t.guest host) turn.sets) turn.last turn.end)) kept.left;
            since_goes = refl;
          }

          known_then : AreKnown kernels frames since_after done_so
          known_then =
              let sp = split frames host host' present 0 present kernels ts dk d t' (omega arith) b.rooms.there known b.rooms.theirs in
              let same = others_know frames pool pool' host host' sp.before sp.after (seat_here k host t) (seat_here k host' t')
              (subst (λ (l : List Seat). AreApart frames pool host l) sp.is b.apart) went.keeps stands in
              let at = sp.len in
              subst (λ (l : List Seat). EachKnown 0 frames since_after kernels l) (sym sp.is')
              (known_moves laws frames since since_after 0 present kernels sp.before (map (behind_as frames host') sp.before) sp.after
              (map (behind_as frames host') sp.after) (seat_here k host t) (seat_here k host' t') dk (omega (arith, at)) same.0 same.1
              (λ j other. turned_other present since j other _)
              (λ k' is was. subst (λ (x : Kernel). IsKnownSince frames x (seat_here k host' t') (since_after present))
              (sym (is ∙ ap (λ (i : ℕ). get_or kernels i dk) (sym at)))
              (subst (IsKnownSince frames k (seat_here k host' t')) (sym (turned_here present since _))
              (then_known frames since_now k (seat_here k host' t')
              (steps_by (alone k frames) (state_of of_roots (alone k frames) t.guest host) turn.sets)
              (by_known _ (λ past begins now_live. reached_so h.pause _ (kept.carried past begins)
              (live_reached slice.kernel t' h.between new' h.pause h.ends now_live))))))
              (subst (λ (l : List Seat). EachKnown 0 frames since kernels l) sp.is known_before))

        pub went_between : (p : Piece)
            × IsBetween kernels frames whole (done ++ slice ∷ []) (pieces ++ p ∷ []) (set ts present t') pool' present host'
            before now' old new'
            × (CarryLaws → (since : ℕ → Since) → AreKnown kernels frames since ready
            → (then_ : ℕ → Since) × MakesTurn kernels frames slice p ready done_so since then_ × AreKnown kernels frames then_ done_so)
        went_between =
            (p, betweens, λ laws since known. (since_after laws since known, makes laws since known, known_then laws since known))

    -- a kernel that has met a stop before
    module _ (d : Tenant) (stop : Stop) (is : (get_or ts slice.kernel d).stop ≡ Some stop) where
      n_known : slice.kernel < length ts
      n_known = (let n = b.rooms.len in let lt = (next_slice (length kernels) whole done slice next).known in omega (arith, n, lt))

      stop_at : (j m : ℕ) → m ≡ 0 + j → j < length (stops_of ts) → m ≡ slice.kernel → get_or (stops_of ts) j None ≡ Some stop
      stop_at j m e lt same =
          let there : j ≡ slice.kernel = omega (arith, e, same) in
          ap (λ (x : ℕ). get_or (stops_of ts) x None) there ∙ get_or-map (λ (t : Tenant). t.stop) ts slice.kernel d None n_known ∙ is

      has_met : has_stopped slice.kernel pieces ≡ true
      has_met =
          let lt : slice.kernel < length (stops_of ts) =
          (let n = length-map ts (λ (t : Tenant). t.stop) in let k = n_known in omega (arith, n, k)) in
          let dk = any_kernel kernels slice.kernel (next_slice (length kernels) whole done slice next).known in
          let ds = seat_here dk host d in
          let zero_is : 0 + slice.kernel ≡ slice.kernel = omega arith in
          met_stop slice.kernel frames whole done pieces (get_or kernels slice.kernel dk)
          (get_or (seats_from frames host present 0 kernels ts) slice.kernel ds) stop (get_or (stops_of ts) slice.kernel None)
          (stop_at slice.kernel slice.kernel (omega arith) lt refl)
          (subst (λ (x : ℕ). StandsSo x frames whole done pieces (get_or kernels slice.kernel dk)
          (get_or (seats_from frames host present 0 kernels ts) slice.kernel ds) (get_or (stops_of ts) slice.kernel None)) zero_is
          (at_place 0 slice.kernel frames whole done pieces kernels (seats_from frames host present 0 kernels ts) (stops_of ts)
          dk ds None lt b.each))

      pub skipped_between : (p : Piece) × IsBetween kernels frames whole (done ++ slice ∷ []) (pieces ++ p ∷ []) ts pool present
          host before now old new
      skipped_between =
          let p = piece_of slice.kernel [] 0 None in (
            p,
            record {
              rooms = b.rooms;
              apart = b.apart;
              turns = turns_on [] done pieces slice p b.turns
                  (record { kernel_is = refl; steps = subst (λ x. MakesSteps x slice.steps [] None) (sym has_met) (refl, refl) });
              each = skip_stands frames whole done pieces slice p refl 0 kernels (seats_from frames host present 0 kernels ts) (stops_of ts)
                  stop refl refl stop_at b.each;
              text = subst (λ (l : List ℕ). Appends old new l)
                  (sym (flat_append piece_text pieces (p ∷ []) ∙ append-nil (flat_map piece_text pieces))) b.text;
              counts = b.counts ∙ same_counts (counts_over (sites_in kernels) before pieces) _ _ (omega arith) refl
                  ∙ sym (counts_on (sites_in kernels) before pieces p);
              retired = (let was = b.retired in omega (arith, was, length-append done (slice ∷ [])));
            },
          )

    -- the sink has failed in the turn
    module _ (here : present ≡ slice.kernel) (dk : Kernel) (d : Tenant) (live : (get_or ts present d).stop ≡ None) (new' : Option (List ℕ))
        (h : HasFailed (get_or kernels present dk) slice.kernel slice.steps host (get_or ts present d) new new')
        (rounds : (p : Piece) → BeginsTurn kernels frames p (record { tenants = ts; pool = pool; present = present; memory = host })
        → HasBegunRound kernels frames done pieces slice p)
      where
        abbrev m_here : Setting
        m_here = alone (get_or kernels present dk) frames

        is_mine : h.piece.kernel ≡ present
        is_mine = h.number_is ∙ sym here

        began_here : BeganAlone m_here (reports_of present (pieces ++ h.piece ∷ [])) (own_text present (pieces ++ h.piece ∷ []))
        began_here =
            let at = is_here here dk d live in
            let fr = frames_are here dk d live in
            let run = stands_live here dk d live in
            let first = state_of of_roots m_here (get_or ts present d).guest host in
            let on = began_on m_here (reports_of present pieces) h.piece.reports (get_or ts present d).guest.fills first h.last h.sets run.0
            (subst (λ (f : ℕ). Steps (alone (get_or kernels present dk) f)
            (state_of of_roots (alone (get_or kernels present dk) f) (get_or ts present d).guest host) h.sets h.piece.reports
            h.last) fr h.steps_are) in
            record {
              sets = on.sets;
              last = on.then_;
              steps = subst (λ (r : List Report). Steps m_here (boot m_here) on.sets r on.then_)
                  (sym (reports_on present h.piece is_mine pieces)) on.steps;
              text_is = begun_as m_here (reports_of present pieces) h.piece (pieces ++ h.piece ∷ []) present h.last on.then_
                  (own_text present pieces) (reports_on present h.piece is_mine pieces) (text_on present h.piece is_mine pieces) run.2
                  (h.count ∙ on.count)
                  (subst (λ (f : ℕ). IfSome h.piece.stop (StopHolds (alone (get_or kernels present dk) f) h.last)) fr h.stops) on.stops;
            }

        begins_here : BeginsTurn kernels frames h.piece (record { tenants = ts; pool = pool; present = present; memory = host })
        begins_here =
            let fr = frames_are here dk d live in
            record {
              number = is_mine;
              kernel = get_or kernels present dk;
              kernel_is = λ e. get_or_any kernels present e dk (let n = b.rooms.len in let lt = b.rooms.there in omega (arith, n, lt));
              tenant = get_or ts present d;
              tenant_is = λ e. get_or_any ts present e d b.rooms.there;
              sets = h.sets;
              last = h.last;
              steps =
                  subst (λ (f : ℕ). Steps (alone (get_or kernels present dk) f)
                  (state_of of_roots (alone (get_or kernels present dk) f) (get_or ts present d).guest host) h.sets h.piece.reports
                  h.last) fr h.steps_are;
              count = h.count;
              stops = subst (λ (f : ℕ). IfSome h.piece.stop (StopHolds (alone (get_or kernels present dk) f) h.last)) fr h.stops;
            }

        pub failed_between : FailsInTurn kernels whole frames old new'
        failed_between = record {
          done = done;
          slice = slice;
          rest = next.rest;
          slices_are = next.whole_is;
          pieces = pieces;
          last = h.piece;
          turns = b.turns;
          kernel_is = h.number_is;
          few = h.few;
          each = each_began frames whole done pieces slice h.piece h.number_is 0 kernels (seats_from frames host present 0 kernels ts)
              (stops_of ts) dk b.each
              (λ j m is same. subst (λ (x : Kernel). BeganAlone (alone x frames) (reports_of m (pieces ++ h.piece ∷ []))
              (own_text m (pieces ++ h.piece ∷ []))) (ap (λ (i : ℕ). get_or kernels i dk) (let z = here in omega (arith, is, same, z)))
              (subst (λ (x : ℕ). BeganAlone m_here (reports_of x (pieces ++ h.piece ∷ [])) (own_text x (pieces ++ h.piece ∷ [])))
              (let z = here in omega (arith, same, z)) began_here));
          between = new;
          text = b.text;
          front = h.front;
          rounds = rounds h.piece begins_here;
        }
