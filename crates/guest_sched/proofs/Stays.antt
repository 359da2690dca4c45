-- A kernel whose frames weren't written stays as it is.
use Rattle.std.proofs.Common.{◌≡◌, ℕ, ◌+◌, ◌*◌, ◌%◌, ◌^◌, ◌≤◌, ◌<◌, List, Option, Some, None, inl, inr, length, take, refl, ap, sym, subst, ◌∙◌, arith}
use Rattle.std.specs.Option.{ForSome}
use Rattle.frame_pool.specs.Pool.{base_of, free_list, Stands, IsOut, SameFrames}
use Rattle.frame_pool.specs.declared.Pool.{Pool}
use Rattle.frame_pool.specs.Held.{times, Owns, SameIn}
use Rattle.descriptors.specs.Controls.{wp_of}
use Rattle.machine_model.specs.Run.{Set}
use Rattle.machine_model.specs.State.{Setting, State}
use Rattle.step_mem.specs.Changes.{AreWithin}
use Rattle.shadow_tables.specs.OtherRoot.{AreSame}
use Rattle.shadow_tables.specs.Entries.{entries_of}
use Rattle.shadow_tables.specs.Slots.{Slot, SameSlots}
use Rattle.shadow_tables.specs.Laws.{same-entries}
use Rattle.shadow_cache.specs.Laws.{same-has_tables_under}
use Rattle.shadow_cache.specs.Roots.{pairs_of}
use Rattle.shadow_cache.specs.Views as roots
use Rattle.wedge_core.specs.OfRoots.{of_roots}
use Rattle.shadow_cache.specs.Standing as standing
use Rattle.shadow_cache.specs.declared.roots.Roots.{Roots}
use Rattle.wedge_step.specs.CarryLaws.{CarryLaws}
use Rattle.wedge_step.specs.Ready.{IsReady, AreReady, IsFoundIn}
use Rattle.wedge_step.specs.Standing.{IsHeld, IsOpenSlot, ground, state_of}
use Rattle.wedge_step.specs.declared.running.Running.{Running}
use Rattle.native_steps.specs.Mirrors.{shown}
use Rattle.wedge_step.proofs.Memories.{host_same, shown_same, text_within}
use Rattle.wedge_step.proofs.Shedding.{same_shed, all_ready_shed}
use Rattle.wedge_step.proofs.Stays.{kept_same}
use Rattle.wedge_core.proofs.SliceStarts.{begun_carries}
use Rattle.guest_sched.specs.Apart.{Seat, held_by, HoldsFrames, MayGoOn, IsSeated, StaysSo}
use Rattle.guest_sched.specs.Known.{IsKnownSince}
use Rattle.guest_sched.specs.Shared.{alone}
use Rattle.guest_sched.specs.Since.{Since}
use Rattle.guest_sched.specs.declared.kernel.Kernel.{Kernel}

abbrev pub state_with : Running Roots → List ℕ → Set → State
state_with g ram set = record { cpu = g.cpu; ram = ram; set = set; board = g.board; step = g.step }

module _ (frames : ℕ) (p p' : Pool) (s : Seat) (then_ : List ℕ) (size : length then_ ≡ length s.memory)
    (front : take (4096 * frames) then_ ≡ take (4096 * frames) s.memory)
    (same : SameIn (held_by s) s.memory then_) (pools : SameFrames p p') (stands : Stands p' then_)
    (out : (f : ℕ) → 1 ≤ times f (held_by s) → IsOut p' then_ f)
    (few : length (free_list p' then_) + length (held_by s) < 2 ^ 32) (behind : frames ≤ base_of p)
  where
    module _ (h : HoldsFrames frames p s) where
      frames_same : roots.frames s.running.shadows then_ ≡ held_by s
      frames_same = standing.frames_in s.running.shadows s.memory then_ h.stand same

      slots_same : SameSlots (roots.slots s.running.shadows s.memory) (roots.slots s.running.shadows then_)
      slots_same = standing.slots_in s.running.shadows s.memory then_ h.stand same

      other_roots_same : AreSame (roots.other_roots s.running.shadows s.memory) (roots.other_roots s.running.shadows then_)
      other_roots_same = standing.other_roots_in s.running.shadows s.memory then_ h.stand same

      set_same : entries_of (roots.slots s.running.shadows then_) ≡ entries_of (roots.slots s.running.shadows s.memory)
      set_same = same-entries (roots.slots s.running.shadows s.memory) (roots.slots s.running.shadows then_) slots_same

      state_still : (m : Setting) → m.frames ≡ frames → state_of of_roots m s.running then_ ≡ state_of of_roots m s.running s.memory
      state_still m is =
          state_by (shown_same m s.memory then_ (subst (λ (n : ℕ). take (4096 * n) then_ ≡ take (4096 * n) s.memory) (sym is) front))
          set_same
        where
          state_by : {ram ram' : List ℕ} {set set' : Set} → ram' ≡ ram → set' ≡ set
              → state_with s.running ram' set' ≡ state_with s.running ram set
          state_by {ram} {ram'} {set} {set'} a b =
              ap (λ (l : List ℕ). state_with s.running l set') a ∙ ap (λ (x : Set). state_with s.running ram x) b

      stays_still : StaysSo frames s (record s { memory = then_ })
      stays_still = record { step = refl; fills = refl; state = λ m is. inl (state_still m is) }

      stand_still : ∥ roots.stands s.running.shadows then_ ∥₁
      stand_still = standing.stays_in s.running.shadows s.memory then_ h.stand same

      -- and so does what is known of its translations
      known_still : CarryLaws → (k : Kernel) (since : Since) → IsKnownSince frames k s since
          → IsKnownSince frames k (record s { memory = then_ }) since
      known_still laws k None known = tt
      known_still laws k (Some past) known = λ live. elim (known live) [
        | inl bare ↦ inl (bare.0, (set_same ∙ bare.1.0, bare.1.1))
        | inr carried ↦ inr (λ roomy.
            let m = alone k frames in
            begun_carries of_roots laws m past (state_of of_roots m s.running s.memory) (state_of of_roots m s.running then_)
            s.running.shadows s.running.shadows s.memory then_ (state_still m refl) set_same
            (record { notes = λ frame e. e; marks = λ e. e; others = other_roots_same })
            (λ indices opened. same-has_tables_under (pairs_of s.running.shadows) s.memory then_ indices same opened) (carried roomy))
      ]

      owns_still : Owns p' then_ (roots.frames s.running.shadows then_)
      owns_still = subst (λ (fs : List ℕ). Owns p' then_ fs) (sym frames_same) (record { stands = stands; out = out; once = h.owns.once })

      holds_still : HoldsFrames frames p' (record s { memory = then_ })
      holds_still = record {
        frames_are = h.frames_are;
        room = (let room = h.room in omega (arith, room, size));
        stand = stand_still;
        owns = owns_still;
        counted = h.counted ∙ ap length (sym frames_same);
      }

      module _ (g : MayGoOn frames p s) where
        still_held : IsHeld of_roots (ground s.image frames) s.running p' then_
        still_held =
            let room = g.held.wedge.room in
            let within = text_within s.image in
            let counts = ap length frames_same in
            let base = pools.0 in
            record {
              wedge = g.held.wedge;
              frames_are = g.held.frames_are;
              size = g.held.size;
              host = host_same (ground s.image frames) s.memory then_ (omega (arith, room, within)) size front g.held.host;
              whole = ap (λ (k : ℕ). k % 4096) size ∙ g.held.whole;
              behind = omega (arith, behind, base);
              stand = stand_still;
              owns = owns_still;
              counted = g.held.counted ∙ ap length (sym frames_same);
              few = omega (arith, few, counts);
              fills = g.held.fills;
              within = subst (λ (set : Set). AreWithin frames set) (sym set_same) g.held.within;
              open_to = λ page lt. subst (λ (slot : Option Slot). ForSome slot (IsOpenSlot s.image (wp_of s.running.cpu)))
                  (sym (slots_same page lt)) (g.held.open_to page lt);
            }

        still_ready : IsReady of_roots (ground s.image frames) s.running.cpu s.running.shadows then_
        still_ready =
            let m = ground s.image frames in
            let cpu = s.running.cpu in
            let ram : shown m then_ ≡ shown m s.memory = shown_same m s.memory then_ front in
            record {
              cr3_is = g.ready.cr3_is;
              present = λ unmarked page lt in_.
                  subst (λ (l : List ℕ). ForSome (roots.slots s.running.shadows then_ page)
                  (IsFoundIn m cpu l cpu.cr3 (roots.read_from s.running.shadows) page)) (sym ram)
                  (subst (λ (slot : Option Slot). ForSome slot
                  (IsFoundIn m cpu (shown m s.memory) cpu.cr3 (roots.read_from s.running.shadows) page)) (sym (slots_same page lt))
                  (g.ready.present unmarked page lt in_));
              others = subst (λ (l : List ℕ). AreReady m cpu l (roots.other_roots s.running.shadows then_)) (sym ram)
                  (all_ready_shed m cpu (shown m s.memory) (roots.other_roots s.running.shadows s.memory)
                  (roots.other_roots s.running.shadows then_) (same_shed _ _ other_roots_same) g.ready.others);
            }

        goes_still : MayGoOn frames p' (record s { memory = then_ })
        goes_still =
            let pages = kept_same of_roots s.running.shadows s.memory then_ set_same other_roots_same in
            let filled = g.filled in
            record { held = still_held; ready = still_ready; able = g.able; filled = omega (arith, pages, filled) }

    pub seated_still : IsSeated frames p s → IsSeated frames p' (record s { memory = then_ })
    seated_still h = record { holds = holds_still h.holds; goes_on = λ live. goes_still h.holds (h.goes_on live) }

    pub same_still : IsSeated frames p s → StaysSo frames s (record s { memory = then_ })
    same_still h = stays_still h.holds

    pub knows_still : IsSeated frames p s → CarryLaws → (k : Kernel) (since : Since) → IsKnownSince frames k s since
        → IsKnownSince frames k (record s { memory = then_ }) since
    knows_still h = known_still h.holds

    pub held_still : IsSeated frames p s → roots.frames s.running.shadows then_ ≡ held_by s
    held_still h = frames_same h.holds
