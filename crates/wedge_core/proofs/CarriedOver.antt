-- What a run knows, over steps in which it has no part and over one step of its own.
use Rattle.std.proofs.Common.{◌≡◌, ℕ, ◌*◌, ◌≤◌, Bool, true, false, eqb, List, [], ◌∷◌, ◌++◌, length, sym, ap, subst, ◌∙◌, arith}
use Rattle.std.specs.Set.{is_member}
use Rattle.frame_pool.specs.Held.{SameIn}
use Rattle.frame_pool.specs.Pool.{free_list}
use Rattle.frame_pool.specs.declared.Pool.{Pool}
use Rattle.board.specs.declared.devices.Board.{Board}
use Rattle.board.specs.Boards.{given}
use Rattle.board.specs.Scripts.{Events}
use Rattle.image_check.specs.Image.{Image}
use Rattle.shadow_tables.specs.Entries.{entries_of}
use Rattle.shadow_tables.specs.Sight.{sight}
use Rattle.shadow_tables.specs.declared.shadows.Shadows as shadows
use Rattle.machine_model.specs.State.{Setting, State, wedge}
use Rattle.machine_model.specs.Run.{Set, with_set}
use Rattle.machine_model.specs.Taken.{Taken}
use Rattle.machine_model.specs.Clash.{clashes_from}
use Rattle.machine_model.specs.Keeping.{Roomy}
use Rattle.native_steps.specs.Mirrors.{shown}
use Rattle.native_steps.proofs.Shown.{shown_length}
use Rattle.kept_laws.specs.Carried.{indices_in}
use Rattle.kept_laws.specs.Known.{IsKnown}
use Rattle.wedge_step.specs.declared.running.Running.{Running}
use Rattle.wedge_step.specs.Carried.{IsCarried, IsTakenFrom, IsCarriedBy}
use Rattle.wedge_step.specs.CarryLaws.{CarryLaws}
use Rattle.wedge_step.specs.Parts.{left_of}
use Rattle.wedge_step.specs.Pools.{Keeps}
use Rattle.wedge_step.specs.Scene.{AreAmple}
use Rattle.wedge_step.specs.Standing.{IsHeld, ground, set_of, state_of}
use Rattle.wedge_step.proofs.Widening.{Widens}
use Rattle.wedge_step.proofs.AfterTry.{any_script}
use Rattle.wedge_core.proofs.Going.{DropClashes, StepCarries, eventful}
use Rattle.wedge_core.proofs.Passed.{CarriesPast}
use Rattle.wedge_core.proofs.WithSet.{known_with}

module _ {S : Type 0} (shows : shadows.Ghosts S) where
  -- all is known, where the next step uses this set
  abbrev pub CarriedWith : Setting → S → List ℕ → Set → List Taken → State → Type 0
  CarriedWith m s memory kept steps b = IsCarriedBy shows m steps b kept s memory

  pub with_kept : (m : Setting) (s : S) (memory : List ℕ) (steps : List Taken) (b : State) → IsCarried shows m steps b s memory
      → CarriedWith m s memory (entries_of (shows.slots s memory)) steps b
  with_kept m s memory steps b c = record { known = c.known; opened_to = c.opened_to }

  as_kept : (m : Setting) (s : S) (memory : List ℕ) (kept : Set) (steps : List Taken) (b : State) → entries_of (shows.slots s memory) ≡ kept
      → CarriedWith m s memory kept steps b → IsCarried shows m steps b s memory
  as_kept m s memory kept steps b is c =
      record { known = subst (IsKnown m steps b (sight shows s memory)) (sym is) c.known; opened_to = c.opened_to }

  -- what is known with what is kept is known too of the state in which that stands
  pub as_carried : (m : Setting) (s : S) (memory : List ℕ) (b : State) (steps : List Taken) (whole : Set)
      → b.set ≡ entries_of (shows.slots s memory) → CarriedWith m s memory b.set steps (with_set b whole)
      → IsCarried shows m steps b s memory
  as_carried m s memory b steps whole is c = record {
    known = subst (IsKnown m steps b (sight shows s memory)) is (known_with m steps b (sight shows s memory) whole b.set c.known);
    opened_to = c.opened_to;
  }

  -- the guest's memory has all its frames
  pub room_at : (image : Image) (script : Events) (f : ℕ) (g : Running S) (pool : Pool) (memory : List ℕ)
      → IsHeld shows (ground image f) g pool memory → 4096 * f ≤ length (shown (wedge image script f) memory)
  room_at image script f g pool memory h =
      let long = shown_length (ground image f) h.wedge memory h.host in
      let same = ap (λ (l : List ℕ). length l) (any_script image script f memory) in
      omega (arith, long, same)

  module _ (widens : Widens shows) (laws : CarryLaws) where
    pub carries_past : (m : Setting) (s : S) (memory : List ℕ) → CarriesPast m (CarriedWith m s memory)
    carries_past m s memory = record {
      next = λ kept steps b c. c.known.next;
      left = λ kept steps b c. c.known.left;
      past = λ kept steps t p c. record {
        known = laws.quiet m steps t (sight shows s memory) kept p c.known;
        opened_to = widens.wider s memory (λ index. is_member eqb (indices_in steps) index)
            (λ index. is_member eqb (indices_in (steps ++ t ∷ [])) index) (laws.known.grow steps t).0 c.opened_to;
      };
    }

    -- over a change of memory elsewhere
    pub carried_there : (m : Setting) (s s' : S) (memory then : List ℕ) (kept : Set) (steps : List Taken) (b : State) → s' ≡ s
        → ∥ shows.stands s memory ∥₁ → SameIn (shows.frames s memory) memory then
        → CarriedWith m s memory kept steps b → CarriedWith m s' then kept steps b
    carried_there m s s' memory then kept steps b is stand same c =
        subst (λ (x : S). CarriedWith m x then kept steps b) (sym is) (record {
          known = laws.known.still m steps b (sight shows s memory) (sight shows s then) kept
              (record { notes = λ frame e. e; marks = λ e. e; others = widens.same_other_roots s memory then stand same }) c.known;
          opened_to = widens.same_tables_under s memory then (λ index. is_member eqb (indices_in steps) index) stand same c.opened_to;
        })

    -- while the run is roomy few frames are held
    few_held : (m : Setting) (s : S) (memory : List ℕ) (kept : Set) (steps : List Taken) (b : State) → ∥ shows.stands s memory ∥₁
        → Roomy steps → CarriedWith m s memory kept steps b → length (shows.frames s memory) ≤ 400
    few_held m s memory kept steps b stand roomy c =
        let many = widens.sized s memory (λ index. is_member eqb (indices_in steps) index) (indices_in steps) stand c.opened_to
        (λ index lt h. h) in
        let few = laws.known.few steps roomy in
        omega (arith, many, few)

    -- what one step of the run's own says of what is carried
    abbrev pub Carries : Image → ℕ → Running S → Running S → List ℕ → List ℕ → Pool → Bool → Type 0
    Carries image n old new memory then pool notes_wanted =
        (script : Events) (steps : List Taken) (t : Taken) → notes_wanted ≡ false → AreAmple (length (free_list pool memory)) old.held
        → Roomy (steps ++ t ∷ [])
        → IsTakenFrom (wedge image script n) (state_of shows (wedge image script n) old memory) t
        → t.set ≡ left_of new.lost.before (set_of shows old memory)
        → IsCarried shows (wedge image script n) steps t.before old.shadows memory
        → IsCarried shows (wedge image script n) (steps ++ t ∷ []) t.after new.shadows then

    abbrev pub Clashed : Image → ℕ → Running S → Running S → List ℕ → Pool → Type 0
    Clashed image n old new memory pool =
        new.lost.before ≡ true → 8 ≤ length (free_list pool memory) → (script : Events) (b : State) → b.cpu ≡ old.cpu
        → b.ram ≡ shown (ground image n) memory → b.set ≡ set_of shows old memory
        → given b.board script b.step ≡ old.board → clashes_from (wedge image script n) b ≡ true

    -- the frames that are free and those that are held are as many as at first
    pub ample_then : (m : Setting) (g now : Running S) (p q : Pool) (memory then : List ℕ) → IsHeld shows m g p memory
        → IsHeld shows m now q then
        → Keeps p q memory then (shows.frames g.shadows memory) (shows.frames now.shadows then)
        → AreAmple (length (free_list p memory)) g.held
        → AreAmple (length (free_list q then)) now.held
    ample_then m g now p q memory then a b k ample =
        let x = a.counted in
        let y = b.counted in
        let z = k.lengths in
        omega (arith, x, y, z, ample)

    -- a stretch in which nothing was done, and then one step of the run's own
    module _ (image : Image) (script : Events) (f : ℕ) (r mid new : Running S) (memory then after : List ℕ) (pool : Pool) (board : Board)
        (begins : List Taken → Type 0) (notes_wanted : Bool) where
      abbrev m : Setting
      m = wedge image script f

      abbrev now : State
      now = state_of shows m r memory

      pub drop_clashes : mid.frames ≡ f → state_of shows m mid then ≡ record now { board = board } → board ≡ given r.board script r.step
          → IsHeld shows (ground image f) r pool memory → IsHeld shows (ground image f) mid pool then → mid.shadows ≡ r.shadows
          → SameIn (shows.frames r.shadows memory) memory then
          → ((past : List Taken) → begins past → AreAmple (length (free_list pool then)) mid.held)
          → Clashed image mid.frames mid new then pool
          → DropClashes m now new.lost.before begins (CarriedWith m r.shadows memory)
      drop_clashes same stays events held held_mid shadows apart ample clashed = λ past s dropped steps left roomy c.
          let there = carried_there m r.shadows mid.shadows memory then now.set steps (with_set now left) shadows held.stand apart c in
          let few = few_held m mid.shadows then now.set steps (with_set now left) held_mid.stand roomy there in
          let all = ample past s in
          let count = held_mid.counted in
          clashed_at dropped (omega (arith, few, all, count)) script now
          (sym (ap (λ (x : State). x.cpu) stays))
          (sym (ap (λ (x : State). x.ram) stays) ∙ any_script image script f then)
          (sym (ap (λ (x : State). x.set) stays))
          (sym events ∙ sym (ap (λ (x : State). x.board) stays))
        where
          clashed_at : Clashed image f mid new then pool
          clashed_at = subst (λ (n : ℕ). Clashed image n mid new then pool) same clashed

      pub step_carries : mid.frames ≡ f → state_of shows m mid then ≡ record now { board = board } → board ≡ given r.board script r.step
          → IsHeld shows (ground image f) r pool memory → IsHeld shows (ground image f) mid pool then → mid.shadows ≡ r.shadows
          → SameIn (shows.frames r.shadows memory) memory then
          → ((past : List Taken) → begins past → notes_wanted ≡ false)
          → ((past : List Taken) → begins past → AreAmple (length (free_list pool then)) mid.held)
          → Carries image mid.frames mid new then after pool notes_wanted → Clashed image mid.frames mid new then pool
          → StepCarries m now (state_of shows m new after) new.lost begins (CarriedWith m r.shadows memory)
          (CarriedWith m new.shadows after)
      step_carries same stays events held held_mid shadows apart unwanted ample carries clashed = record {
        clash = drop_clashes same stays events held held_mid shadows apart ample clashed;
        over = λ past s steps t roomy from set_is c.
            let there = carried_there m r.shadows mid.shadows memory then now.set steps t.before shadows held.stand apart c in
            let set_same : set_of shows mid then ≡ now.set = ap (λ (x : State). x.set) stays in
            let is : eventful m now ≡ state_of shows m mid then = ap (λ (d : Board). record now { board = d }) (sym events) ∙ sym stays in
            with_kept m new.shadows after (steps ++ t ∷ []) t.after
            (carries_at script steps t (unwanted past s) (ample past s) roomy (subst (λ (x : State). IsTakenFrom m x t) is from)
            (set_is ∙ ap (left_of new.lost.before) (sym set_same))
            (as_kept m mid.shadows then now.set steps t.before set_same there));
      }
        where
          carries_at : Carries image f mid new then after pool notes_wanted
          carries_at = subst (λ (n : ℕ). Carries image n mid new then after pool notes_wanted) same carries
