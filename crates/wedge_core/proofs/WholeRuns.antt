-- From a slice and the last line to a whole run.
use Rattle.std.proofs.Common.{◌≡◌, ℕ, ◌+◌, ◌*◌, ◌≤◌, Bool, List, [], ◌∷◌, ◌++◌, length, take, Option, Ok, Err, refl, sym, ap, subst, ◌∙◌, arith}
use Rattle.std.specs.FinMap.{len}
use Rattle.std.proofs.lemmas.List.{append-nil, length-take-le}
use Rattle.std.proofs.lemmas.List.Elements.{All-weaker}
use Rattle.guest_ram.specs.Bytes.{part, with_part}
use Rattle.guest_ram.proofs.Bytes.{with_part-with_part, with_part-part, length-part}
use Rattle.frame_pool.specs.declared.Pool.{Pool}
use Rattle.pv_io.specs.declared.answer.Failed.{Failed}
use Rattle.pv_io.specs.Causes.{Rose}
use Rattle.pv_io.specs.Sink.{Appends, AppendsFront}
use Rattle.pv_io.proofs.Pieces.{appends_both, front_of, appends_none}
use Rattle.sites.specs.Patched.{patched}
use Rattle.board.specs.Scripts.{Events}
use Rattle.image_check.specs.Image.{Image}
use Rattle.image_load.specs.Boot.{need}
use Rattle.run_trace.specs.declared.pause.Pause.{Pause}
use Rattle.run_trace.specs.declared.pause.Pause.TheVariants.{Reached, Stopped}
use Rattle.image_load.specs.declared.fault.RunFault.TheVariants as fault
use Rattle.run_trace.specs.declared.items.End.{End}
use Rattle.run_trace.specs.Notes.{Note}
use Rattle.run_trace.specs.Text.{lines_of, end_line, text_of}
use Rattle.wedge_core.specs.OfRoots.{of_roots}
use Rattle.shadow_cache.specs.declared.roots.Roots.{Roots}
use Rattle.machine_model.specs.State.{Setting, State, Loosened, boot, wedge}
use Rattle.machine_model.specs.Run.{Set, Steps, EndsIn, CanGive, stopping, trace_of}
use Rattle.machine_model.specs.Taken.{steps_by}
use Rattle.machine_model.specs.Keeping.{Roomy, Kept, IsLeftBehind}
use Rattle.machine_model.specs.Joined.{KeptBefore}
use Rattle.machine_model.proofs.Ending.{each_ends}
use Rattle.machine_model.proofs.Texts.{text_join}
use Rattle.machine_model.proofs.Runs.{steps_join}
use Rattle.native_steps.specs.Mirrors.{IsHost, shown}
use Rattle.wedge_core.specs.Promises.{HasMemory, Promise, HasFills, HasOwnFills, IsEnd, with_patches}
use Rattle.wedge_core.specs.Guests.{HasGuest}
use Rattle.wedge_core.proofs.AnsweredBy.{WedgeAnswers}
use Rattle.run_trace.specs.Pauses.{end_of, IfReached}
use Rattle.wedge_core.specs.Slices.{Counts, Knowing, PausesAs}
use Rattle.wedge_core.proofs.AfterPast.{kept_first}
use Rattle.wedge_core.proofs.SlicedBy.{SliceAs}
use Rattle.wedge_step.specs.Standing.{IsHeld, ground, state_of}
use Rattle.wedge_step.specs.Filled.{CountsFills}
use Rattle.wedge_step.specs.declared.running.Running.{Running}
use Rattle.wedge_step.proofs.Memories.{text_within, part_front}
pub use Rattle.machine_model.proofs.Texts.{text_is}

-- the host's first frames are the guest's memory with the text patched
pub front_is : (m : Setting) (memory : List ℕ) → IsHost m memory → 0x100000 + length m.image.text ≤ 4096 * m.frames
    → take (4096 * m.frames) memory ≡ with_patches m.image (shown m memory)
unfolding shown
front_is m memory host room =
    let n = 4096 * m.frames in
    let k = length m.image.text in
    let x = take n memory in
    let p = patched m.image.text 0 m.image.sites in
    let long : length x ≡ n = length-take-le n memory host.room in
    let there : part x 0x100000 k ≡ p = part_front memory n 0x100000 k room ∙ host.text in
    let same : length p ≡ k = ap length (sym there) ∙ length-part x 0x100000 k (omega (arith, room, long)) in
    sym (with_part-with_part x 0x100000 m.image.text p (omega (arith, room, long)) (sym same)
    ∙ (ap (with_part x 0x100000) (sym there) ∙ with_part-part x 0x100000 k (omega (arith, room, long))))

-- and so it is where a slice has done its steps
pub front_held : (pause : Pause) (image : Image) (script : Events) (frames : ℕ) (g : Running Roots) (pool : Pool) (memory : List ℕ)
    → IfReached (Ok pause) (IsHeld of_roots (ground image frames) g pool memory)
    → IfReached (Ok pause) (take (4096 * frames) memory ≡ with_patches image (shown (wedge image script frames) memory))
front_held Reached image script frames g pool memory h =
    let room = h.wedge.room in
    let within = text_within image in
    front_is (wedge image script frames) memory (record { room = h.host.room; text = h.host.text }) (omega (arith, room, within))
front_held (Stopped stop) image script frames g pool memory h = tt

-- and so the guest stands there
abbrev pub Standing : Setting → State → ℕ → List ℕ → Type 0
Standing m new filled memory =
    (g : Running Roots) × (pool : Pool) × IsHeld of_roots (ground m.image m.frames) g pool memory
    × (state_of of_roots m g memory ≡ new) × (g.fills ≡ filled)

pub guest_held : (pause : Pause) (image : Image) (script : Events) (frames : ℕ) (g : Running Roots) (pool : Pool) (memory : List ℕ)
    → IfReached (Ok pause) (IsHeld of_roots (ground image frames) g pool memory)
    → IfReached (Ok pause) (Standing (wedge image script frames) (state_of of_roots (wedge image script frames) g memory) g.fills memory)
guest_held Reached image script frames g pool memory h = (g, pool, h, refl, refl)
guest_held (Stopped stop) image script frames g pool memory h = tt

guest_by : (m : Setting) (n : ℕ) (last new : State) (end : Set) (pause : Pause) (filled : ℕ) (memory : List ℕ)
    → PausesAs m n last new end (Ok pause) → IfReached (Ok pause) (Standing m new filled memory)
    → HasGuest m last (end_of pause) end filled memory
guest_by m n last new end Reached filled memory h s = (s.0, s.1, s.2, s.3 ∙ h.1, s.4)
guest_by m n last new end (Stopped stop) filled memory h s = tt

-- a slice that pauses ends so
pub ends_by : (m : Setting) (n : ℕ) (last new : State) (end : Set) (pause : Pause) → PausesAs m n last new end (Ok pause)
    → EndsIn m n last (end_of pause)
ends_by m n last new end Reached h = h.0
ends_by m n last new end (Stopped stop) h = (h.0, record { set = end; allowed = h.2; halts = h.3 })

pub count_by : (m : Setting) (n : ℕ) (last new : State) (end : Set) (pause : Pause) → PausesAs m n last new end (Ok pause)
    → new.step ≡ last.step
count_by m n last new end Reached h = ap (λ (b : State). b.step) h.1
count_by m n last new end (Stopped stop) h = h.1

pub memory_by : (m : Setting) (n : ℕ) (last new : State) (end : Set) (pause : Pause) (memory : List ℕ)
    → IfReached (Ok pause) (take (4096 * m.frames) memory ≡ with_patches m.image new.ram) → PausesAs m n last new end (Ok pause)
    → HasMemory m last (end_of pause) memory
memory_by m n last new end Reached memory has h = has ∙ ap (λ (b : State). with_patches m.image b.ram) h.1
memory_by m n last new end (Stopped stop) memory has h = tt

-- the set by which a slice stops is among those of the run
pub kept_by : KeptBefore → (m : Setting) (n : ℕ) (old last new : State) (sets : List Set) (end : Set) (pause : Pause)
    (h : PausesAs m n last new end (Ok pause)) → Kept m old (sets ++ end ∷ [])
    → Kept m old (sets ++ stopping m n last (end_of pause) (ends_by m n last new end pause h))
unfolding ends_by
kept_by law m n old last new sets end Reached h k = subst (Kept m old) (sym (append-nil sets)) (law m old sets (end ∷ []) k)
kept_by law m n old last new sets end (Stopped stop) h k = k

-- the slice that ended is a run
abbrev pub promised : KeptBefore → (m : Setting) (n pool : ℕ) (old new : State) (before after : Counts) (told tells : Option (List ℕ))
    (pages fills filled : ℕ) (notes_wanted : Bool) (notes_on : List Note → Type 0) (knows : Knowing) (pause : Pause) (memory : List ℕ)
    → old ≡ boot m → (pool ≡ 512 → knows.before []) → IfReached (Ok pause) (take (4096 * m.frames) memory ≡ with_patches m.image new.ram)
    → (h : SliceAs m n old new before after told tells pages fills filled notes_wanted notes_on knows (Ok pause))
    → Promise m n pool (lines_of (trace_of h.reports) ++ end_line new.step (end_of pause)) new.step (end_of pause) before after memory
promised law m n pool old new before after told tells pages fills filled notes_wanted notes_on knows pause memory is from has h = record {
  sets = h.sets;
  reports = h.reports;
  last = h.last;
  run = record {
    steps = subst (λ (b : State). Steps m b h.sets h.reports h.last) is h.steps;
    ends = ends_by m n h.last new h.end pause h.ends;
  };
  count_is = count_by m n h.last new h.end pause h.ends;
  text_is = text_is h.reports new.step (end_of pause);
  counts = h.counts;
  memory_is = memory_by m n h.last new h.end pause memory has h.ends;
  kept =
      λ all. subst (λ (b : State). Kept m b (h.sets ++ stopping m n h.last (end_of pause) (ends_by m n h.last new h.end pause h.ends))) is
      (kept_by law m n old h.last new h.sets h.end pause h.ends (kept_first m old (h.sets ++ h.end ∷ []) (h.kept [] (from all))));
}

-- the set at its end
end_is : (m : Setting) (n pool : ℕ) (old last new : State) (sets : List Set) (end : Set) (knows : Knowing) (pause : Pause)
    (h : PausesAs m n last new end (Ok pause)) → old ≡ boot m → (pool ≡ 512 → knows.before [])
    → (knows.before [] → IfReached (Ok pause) (Roomy (steps_by m old sets) → IsLeftBehind m (steps_by m old sets) last end))
    → IsEnd m n pool sets last (end_of pause) (ends_by m n last new end pause h) end
unfolding ends_by
end_is m n pool old last new sets end knows Reached h is from left =
    λ all. subst (λ (b : State). Roomy (steps_by m b sets) → IsLeftBehind m (steps_by m b sets) last end) is (left (from all))
end_is m n pool old last new sets end knows (Stopped stop) h is from left = refl

-- a slice that pauses could go on
allowed_by : (m : Setting) (n : ℕ) (last new : State) (end : Set) (pause : Pause) → PausesAs m n last new end (Ok pause)
    → Loosened m last end
allowed_by m n last new end Reached h = h.2
allowed_by m n last new end (Stopped stop) h = h.2

-- and what was filled in it
pub has_fills : (m : Setting) (n : ℕ) (old new : State) (before after : Counts) (told tells : Option (List ℕ)) (pages fills filled : ℕ)
    (notes_wanted : Bool) (notes_on : List Note → Type 0) (knows : Knowing) (pause : Pause)
    → pages ≡ 0 → fills ≡ 0 → filled ≤ 128 * new.step
    → (h : SliceAs m n old new before after told tells pages fills filled notes_wanted notes_on knows (Ok pause))
    → HasFills m h.sets h.last filled
has_fills m n old new before after told tells pages fills filled notes_wanted notes_on knows pause first none few h = record {
  end = h.end;
  allowed = allowed_by m n h.last new h.end pause h.ends;
  enough = All-weaker (λ (set : Set). CountsFills pages (len set) fills filled) (λ (set : Set). len set ≤ filled)
      (λ set f. let e = f.enough in omega (arith, e, none, first))
      (h.sets ++ h.end ∷ []) h.each_filled;
  few = (let same = count_by m n h.last new h.end pause h.ends in omega (arith, few, same));
}

pub has_own : (m : Setting) (n pool : ℕ) (old new : State) (before after : Counts) (told tells : Option (List ℕ)) (pages fills filled : ℕ)
    (notes_wanted : Bool) (notes_on : List Note → Type 0) (knows : Knowing) (pause : Pause)
    → old ≡ boot m → (pool ≡ 512 → knows.before []) → pages ≡ 0 → fills ≡ 0 → filled ≤ 128 * new.step
    → (h : SliceAs m n old new before after told tells pages fills filled notes_wanted notes_on knows (Ok pause))
    → HasOwnFills m n pool h.sets h.last (end_of pause) (ends_by m n h.last new h.end pause h.ends) filled
unfolding has_fills
has_own m n pool old new before after told tells pages fills filled notes_wanted notes_on knows pause is from first none few h = record {
  filled = has_fills m n old new before after told tells pages fills filled notes_wanted notes_on knows pause first none few h;
  own = end_is m n pool old h.last new h.sets h.end knows pause h.ends is from (h.left []);
}

pub given_by : (m : Setting) (n pool : ℕ) (text : List ℕ) (count : ℕ) (end : End) (before after : Counts) (memory : List ℕ)
    → Promise m n pool text count end before after memory → CanGive m n text count end
given_by m n pool text count end before after memory p =
    record { sets = p.sets; reports = p.reports; last = p.last; run = p.run; count_is = p.count_is; text_is = p.text_is }

-- all lines and the last one were put
pub whole_put : KeptBefore → (image : Image) (script : Events) (frames n pool : ℕ) (old new : State) (counts counts_after : Counts)
    (a b c : Option (List ℕ)) (pages fills filled : ℕ) (notes_wanted : Bool) (notes_on : List Note → Type 0) (knows : Knowing)
    (pause : Pause) (before mid now : ℕ) (memory : List ℕ)
    → need image ≤ frames → old ≡ boot (wedge image script frames) → (pool ≡ 512 → knows.before []) → pages ≡ 0 → fills ≡ 0
    → filled ≤ 128 * new.step
    → IfReached (Ok pause) (take (4096 * frames) memory ≡ with_patches image new.ram)
    → IfReached (Ok pause) (Standing (wedge image script frames) new filled memory)
    → (h : SliceAs (wedge image script frames) n old new counts counts_after a b pages fills filled notes_wanted notes_on knows (Ok pause))
    → Appends b c (end_line new.step (end_of pause)) → mid ≡ before → now ≡ mid
    → WedgeAnswers image script frames n pool a c before now counts counts_after memory
    (Ok (record { steps = new.step; end = end_of pause; fills = filled }))
unfolding has_own has_fills
whole_put law image script frames n pool old new counts counts_after a b c pages fills filled notes_wanted notes_on knows pause before mid
    now memory fits is from first none few has stands h put same more = (
      lines_of (trace_of h.reports) ++ end_line new.step (end_of pause),
      promised law (wedge image script frames) n pool old new counts counts_after a b pages fills filled notes_wanted notes_on knows pause
          memory is from has h,
      fits,
      has_own (wedge image script frames) n pool old new counts counts_after a b pages fills filled notes_wanted notes_on knows pause is
          from first none few h,
      appends_both a b c _ _ h.text put,
      more ∙ same,
      guest_by (wedge image script frames) n h.last new h.end pause filled memory h.ends stands,
    )

-- all lines and a front of the last one
pub whole_unput : KeptBefore → (image : Image) (script : Events) (frames n pool : ℕ) (old new : State) (counts counts_after : Counts)
    (a b c : Option (List ℕ)) (pages fills filled : ℕ) (notes_wanted : Bool) (notes_on : List Note → Type 0) (knows : Knowing)
    (pause : Pause) (before mid now : ℕ) (memory : List ℕ)
    → need image ≤ frames → old ≡ boot (wedge image script frames)
    → IfReached (Ok pause) (take (4096 * frames) memory ≡ with_patches image new.ram)
    → (h : SliceAs (wedge image script frames) n old new counts counts_after a b pages fills filled notes_wanted notes_on knows (Ok pause))
    → AppendsFront b c (end_line new.step (end_of pause)) → mid ≡ before → Rose mid now
    → WedgeAnswers image script frames n pool a c before now counts counts_after memory (Err fault.Write)
whole_unput law image script frames n pool old new counts counts_after a b c pages fills filled notes_wanted notes_on knows pause before
    mid now memory fits is has h put same rose =
    let text = lines_of (trace_of h.reports) ++ end_line new.step (end_of pause) in (
      text,
      new.step,
      end_of pause,
      fits,
      given_by (wedge image script frames) n 0 text new.step (end_of pause) counts counts_after memory
          (promised law (wedge image script frames) n 0 old new counts counts_after a b pages fills filled notes_wanted notes_on knows
          pause memory is (λ none. absurd (omega (arith, none))) has h),
      front_of a b c (lines_of (trace_of h.reports)) (end_line new.step (end_of pause)) [] _ h.text put
          (ap (λ (l : List ℕ). lines_of (trace_of h.reports) ++ l) (sym (append-nil (end_line new.step (end_of pause))))),
      omega (arith, same, rose),
    )

-- a front of the lines
pub whole_front : (image : Image) (script : Events) (frames n pool : ℕ) (old new : State) (counts counts_after : Counts)
    (a b : Option (List ℕ)) (pages fills filled : ℕ) (notes_wanted : Bool) (notes_on : List Note → Type 0) (knows : Knowing)
    (failed : Failed) (before now : ℕ) (memory : List ℕ)
    → need image ≤ frames → old ≡ boot (wedge image script frames) → SliceAs (wedge image script frames) n old new counts counts_after a b
    pages fills filled notes_wanted notes_on knows (Err failed) → Rose before now
    → WedgeAnswers image script frames n pool a b before now counts counts_after memory (Err fault.Write)
whole_front image script frames n pool old new counts counts_after a b pages fills filled notes_wanted notes_on knows failed before now
    memory fits is h rose =
    let m = wedge image script frames in
    let e = each_ends m n h.last h.ends in (
      text_of (trace_of (h.reports ++ e.reports)) e.last.step e.end,
      e.last.step,
      e.end,
      fits,
      record {
        sets = h.sets ++ e.sets;
        reports = h.reports ++ e.reports;
        last = e.last;
        run = record {
          steps = subst (λ (s : State). Steps m s (h.sets ++ e.sets) (h.reports ++ e.reports) e.last) is
              (steps_join m old h.last e.last h.sets e.sets h.reports e.reports h.steps e.run.steps);
          ends = e.run.ends;
        };
        count_is = refl;
        text_is = refl;
      },
      front_of a a b [] (lines_of (trace_of h.reports)) (lines_of (trace_of e.reports) ++ end_line e.last.step e.end) _ (appends_none a)
          h.text (text_join h.reports e.reports e.last.step e.end),
      rose,
    )
