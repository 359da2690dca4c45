-- The course of choices is a run of the bare machine.
use Rattle.std.proofs.Common.{◌≡◌, ℕ, zero, suc, ◌+◌, ◌^◌, ◌<◌, ◌≤◌, Bool, true, false, cond, List, [], ◌∷◌, ◌++◌, Option, Some, None, Result, Ok, Err, refl, sym, ap, subst, ◌∙◌, arith, inl, inr, append_assoc}
use Rattle.std.specs.Prelude.{◌==◌, ◌&&◌, nat_le, nat_lt, find, length}
use Rattle.std.proofs.lemmas.List.{append-nil}
use Rattle.std.proofs.lemmas.Bool.{leb-true, ltb-true, and_parts}
use Rattle.paging.specs.MonitorStops.{is_extra_stop}
use Rattle.run_trace.specs.declared.items.Item.{Item}
use Rattle.std.specs.Str.{bytes_eq}
use Rattle.std.specs.Option.{option_map}
use Rattle.std.specs.FinMap.{get, empty, insert, remove, get-empty}
use Rattle.std.specs.Ordering.{nat_cmp}
use Rattle.std.proofs.lemmas.Bool.Decides.{eqb_tells}
use Rattle.std.proofs.lemmas.Option.{none-some, same_Some}
use Rattle.guest_ram.specs.Bytes.{word32}
use Rattle.descriptors.specs.Controls.{pse_of}
use Rattle.ia32_types.specs.declared.stop.Stop.{Stop}
use Rattle.paging.specs.declared.entry.Entry.{Entry}
use Rattle.paging.specs.declared.entry.Walk.{Walk}
use Rattle.paging.specs.declared.entry.Walk.TheVariants.{Absent, Beyond, Reserved, Found}
use Rattle.paging.specs.Fresh.{fresh, has}
use Rattle.paging.proofs.WithEntry.{get_with_same, get_with_other}
use Rattle.board.specs.Scripts.{Events}
use Rattle.image_check.specs.Image.{Image}
use Rattle.run_trace.specs.declared.items.End.{End}
use Rattle.run_trace.specs.declared.items.End.TheVariants.{Bound, Stopped}
use Rattle.run_trace.specs.Text.{lines_of, text_of, end_line}
use Rattle.machine_model.specs.State.{Setting, State, Loosened, IsCacheable, boot}
use Rattle.machine_model.specs.Step as steps
use Rattle.machine_model.specs.Step.{Report, Went, Halts, step_of}
use Rattle.machine_model.specs.Run.{Set, Steps, EndsIn, trace_of}
use Rattle.machine_model.proofs.Counted.{counted_by}
use Rattle.machine_model.proofs.Runs.{went_there}
use Rattle.bare_machine.specs.Settings.{bare}
use Rattle.trace_check.specs.declared.list.Choice.{Choice}
use Rattle.trace_check.specs.declared.list.ChoiceKind.{ChoiceKind}
use Rattle.trace_check.specs.declared.list.ChoiceKind.TheVariants.{Drop, Empty, Add}
use Rattle.trace_check.specs.declared.answer.CourseEnd.{CourseEnd}
use Rattle.trace_check.specs.declared.answer.CourseEnd.TheVariants.{Ended, BadAt}
use Rattle.trace_check.specs.declared.answer.Verdict.TheVariants.{Yes, YesBefore, BadEntry, Differs}
use Rattle.trace_check.specs.Lines.{lines, begun_by, differing, last_of, before_last, steps_told, stop_told, monitor_stops}
use Rattle.trace_check.specs.Courses.{Course, usable, addable, made, after_made, chosen, after_step, after_choices, course, course_of}
use Rattle.trace_check.specs.Judged.{unless_differs, judged_whole, judged_end, judged_before, judged_by, judged}
use Rattle.trace_check.specs.Runs.{AreChosen, StopsBy, IsRunText, AreItemsBefore}
use Rattle.trace_check.specs.RunLaws.{YesIsARun, YesBeforeIsSteps}
use Rattle.trace_check.proofs.Comparing.{bytes_true}

-- ---- what choices make is loosened

by_walk : (s : Setting) (b : State) (page : ℕ) (e : Entry) (w : Walk) → page < 2 ^ 20 → fresh b.ram s.frames b.cpu.cr3 (pse_of b.cpu) page
    ≡ w → usable b.ram w ≡ Some e → IsCacheable s b page e
by_walk s b page e Absent small is h = absurd (none-some e h)
by_walk s b page e Beyond small is h = absurd (none-some e h)
by_walk s b page e Reserved small is h = absurd (none-some e h)
by_walk s b page e (Found entry dir_at word_at) small is h = by (has (word32 b.ram dir_at) 0x20 && has (word32 b.ram word_at) 0x20) refl h
  where
    by : (t : Bool) → (has (word32 b.ram dir_at) 0x20 && has (word32 b.ram word_at) 0x20) ≡ t → cond t (Some entry) None ≡ Some e
        → IsCacheable s b page e
    by true flags same =
        let at : entry ≡ e = cc in
        record {
          page_in = small;
          dir_at = dir_at;
          word_at = word_at;
          dirty = e.dirty;
          found = is ∙ ap (λ (x : Entry). Found x dir_at word_at) at;
          accessed = and_parts (has (word32 b.ram dir_at) 0x20) (has (word32 b.ram word_at) 0x20) flags;
          is_dirty = λ d. d;
        }
    by false flags same = absurd (none-some e same)

removed_allowed : (s : Setting) (b : State) (page : ℕ) (set : Set) → Loosened s b set → Loosened s b (remove set page)
removed_allowed s b page set h = record {
  each = λ q e found. elim (eqb_tells q page) [
    | inl t ↦ absurd (none-some e (sym (get_with_same set page None) ∙ ap (get (remove set page)) (sym t.1) ∙ found))
    | inr f ↦ h.each q e (sym (get_with_other set page None q f.1) ∙ found)
  ];
}

none_allowed : (s : Setting) (b : State) → Loosened s b empty
none_allowed s b = record { each = λ q e found. absurd (none-some e (sym (get-empty nat_cmp q) ∙ found)) }

added_allowed : (s : Setting) (b : State) (page : ℕ) (x : Entry) (set : Set) → IsCacheable s b page x → Loosened s b set
    → Loosened s b (insert set page x)
added_allowed s b page x set good h = record {
  each = λ q e found. elim (eqb_tells q page) [
    | inl t ↦
        let same : x ≡ e = same_Some x e (sym (get_with_same set page (Some x)) ∙ ap (get (insert set page x)) (sym t.1) ∙ found) in
        inr (subst (λ (k : ℕ). IsCacheable s b k e) (sym t.1) (subst (IsCacheable s b page) same good))
    | inr f ↦ h.each q e (sym (get_with_other set page (Some x) q f.1) ∙ found)
  ];
}

-- what may be added is of a page of the address space
by_page : (s : Setting) (b : State) (page : ℕ) (e : Entry) → addable s b page ≡ Some e → IsCacheable s b page e
by_page s b page e is = by (nat_lt page (2 ^ 20)) refl is
  where
    by : (t : Bool) → nat_lt page (2 ^ 20) ≡ t → cond t (usable b.ram (fresh b.ram s.frames b.cpu.cr3 (pse_of b.cpu) page)) None ≡ Some e
        → IsCacheable s b page e
    by true small found = by_walk s b page e (fresh b.ram s.frames b.cpu.cr3 (pse_of b.cpu) page) (ltb-true page (2 ^ 20) small) refl found
    by false beyond found = absurd (none-some e found)

by_entry : (s : Setting) (b : State) (page : ℕ) (set new : Set) (o : Option Entry) → addable s b page ≡ o
    → option_map (λ entry. insert set page entry) o ≡ Some new → Loosened s b set → Loosened s b new
by_entry s b page set new None is h allowed = absurd cc
by_entry s b page set new (Some x) is h allowed =
    let to : insert set page x ≡ new = cc in
    subst (Loosened s b) to (added_allowed s b page x set (by_page s b page x is) allowed)

made_allowed : (s : Setting) (b : State) (kind : ChoiceKind) (page : ℕ) (set new : Set) → made s b kind page set ≡ Some new
    → Loosened s b set → Loosened s b new
made_allowed s b Drop page set new is h = let to : remove set page ≡ new = cc in subst (Loosened s b) to (removed_allowed s b page set h)
made_allowed s b Empty page set new is h = let to : empty ≡ new = cc in subst (Loosened s b) to (none_allowed s b)
made_allowed s b Add page set new is h = by_entry s b page set new (addable s b page) refl is h

abbrev ok_of : Set → Result Set ℕ
ok_of set = Ok set

abbrev err_of : ℕ → Result Set ℕ
err_of at = Err at

ok_inner : (a b : Set) → ok_of a ≡ ok_of b → a ≡ b
ok_inner a b h = cc

not_ok : (at : ℕ) (b : Set) → err_of at ≡ ok_of b → ⊥
not_ok at b h = cc

chosen_allowed : (s : Setting) (b : State) (list : List Choice) (at : ℕ) (set new : Set) → chosen s b at list set ≡ Ok new
    → Loosened s b set → Loosened s b new
unfolding chosen
chosen_allowed s b [] at set new is h = subst (Loosened s b) (ok_inner set new is) h
chosen_allowed s b (c ∷ rest) at set new is h = by (λ x f k. chosen_allowed s b rest (at + 1) x new f k) (c.step == b.step) is
  where
    this : ((x : Set) → chosen s b (at + 1) rest x ≡ Ok new → Loosened s b x → Loosened s b new) → (o : Option Set)
        → made s b c.kind c.page set ≡ o → after_made at o (λ x. chosen s b (at + 1) rest x) ≡ Ok new → Loosened s b new
    this later None e f = absurd (not_ok at new f)
    this later (Some x) e f = later x f (made_allowed s b c.kind c.page set x e h)

    by : ((x : Set) → chosen s b (at + 1) rest x ≡ Ok new → Loosened s b x → Loosened s b new) → (t : Bool)
        → cond t (after_made at (made s b c.kind c.page set) (λ x. chosen s b (at + 1) rest x)) (chosen s b (at + 1) rest set) ≡ Ok
        new → Loosened s b new
    by later true e = this later (made s b c.kind c.page set) refl e
    by later false e = later set e h

left_allowed : (s : Setting) (b : State) → Loosened s b b.set
left_allowed s b = record { each = λ q e found. inl found }

-- ---- the course is a run

abbrev EndsBy : Setting → ℕ → State → CourseEnd → Type 0
EndsBy s n last (Ended end) = EndsIn s n last end
EndsBy s n last (BadAt at) = Unit {0}

abbrev StopsChosen : Setting → List Choice → State → CourseEnd → Type 0
StopsChosen s list last (Ended end) = StopsBy s list last end
StopsChosen s list last (BadAt at) = Unit {0}

record IsRun (s : Setting) (list : List Choice) (n : ℕ) (b : State) (c : Course) : Type 0 where
  sets : List Set
  last : State
  run : Steps s b sets c.reports last
  count_is : c.count ≡ last.step
  ends : EndsBy s n last c.end
  are_chosen : AreChosen s list b sets
  stops : StopsChosen s list last c.end

no_steps : (s : Setting) (list : List Choice) (n : ℕ) (b : State) (c : Course) → c.reports ≡ [] → c.count ≡ b.step → EndsBy s n b c.end
    → StopsChosen s list b c.end → IsRun s list n b c
unfolding Steps
no_steps s list n b c none count ends stops =
    record { sets = []; last = b; run = (none, refl); count_is = count; ends = ends; are_chosen = tt; stops = stops }

one_step : (s : Setting) (list : List Choice) (n : ℕ) (b mid : State) (set : Set) (now : Report) (c : Course)
    → chosen s b 0 list b.set ≡ Ok set → Loosened s b set → step_of s b set ≡ Went now mid → IsRun s list n mid c
    → IsRun s list n b (record { reports = now ∷ c.reports; count = c.count; end = c.end })
unfolding Steps
one_step s list n b mid set now c choices allowed is h = record {
  sets = set ∷ h.sets;
  last = h.last;
  run = (mid, now, c.reports, allowed, is, h.run, refl);
  count_is = h.count_is;
  ends = h.ends;
  are_chosen = (
    choices,
    λ other there to. subst (λ (x : State). AreChosen s list x h.sets)
        (went_there now other mid there (sym is ∙ to)) h.are_chosen,
  );
  stops = h.stops;
}

courses_run : (k : ℕ) (s : Setting) (list : List Choice) (n : ℕ) (b : State) → b.step + k ≡ n → IsRun s list n b (course s list k b)
unfolding course
courses_run zero s list n b at = no_steps s list n b _ refl refl (omega (arith, at)) tt
courses_run (suc k) s list n b at = by (λ mid to. courses_run k s list n mid to) (chosen s b 0 list b.set) refl
  where
    went : ((mid : State) → mid.step + k ≡ n → IsRun s list n mid (course s list k mid)) → (set : Set) (r : steps.Result)
        → chosen s b 0 list b.set ≡ Ok set → Loosened s b set → step_of s b set ≡ r
        → IsRun s list n b (after_step b.step r (λ mid. course s list k mid))
    went later set (Went now mid) choices allowed is =
        let count = counted_by s b mid set now is in
        one_step s list n b mid set now (course s list k mid) choices allowed is (later mid (omega (arith, at, count)))
    went later set (Halts stop) choices allowed is =
        no_steps s list n b _ refl refl (omega (arith, at), record { set = set; allowed = allowed; halts = is }) (set, choices, is)

    by : ((mid : State) → mid.step + k ≡ n → IsRun s list n mid (course s list k mid)) → (r : Result Set ℕ) → chosen s b 0 list b.set ≡ r
        → IsRun s list n b (after_choices s b r (λ mid. course s list k mid))
    by later (Err bad) is = no_steps s list n b _ refl refl tt tt
    by later (Ok set) is = went later set (step_of s b set) is (chosen_allowed s b list 0 b.set set is (left_allowed s b)) refl

-- ---- where no line differs the texts are equal

joined : List (List ℕ) → List ℕ
joined [] = []
joined (l ∷ ls) = l ++ joined ls

joined_begun : (b : ℕ) (xs : List (List ℕ)) → joined (begun_by b xs) ≡ b ∷ joined xs
unfolding joined
joined_begun b [] = refl
joined_begun b (l ∷ ls) = refl

joined_lines : (text : List ℕ) → joined (lines text) ≡ text
unfolding joined lines
joined_lines [] = refl
joined_lines (b ∷ text) = by (b == 10) (joined_lines text)
  where
    by : (e : Bool) → joined (lines text) ≡ text → joined (cond e ((b ∷ []) ∷ lines text) (begun_by b (lines text))) ≡ b ∷ text
    by true h = ap (λ (l : List ℕ). b ∷ l) h
    by false h = joined_begun b (lines text) ∙ ap (λ (l : List ℕ). b ∷ l) h

no_line : (n : ℕ) → Some n ≡ None → ⊥
no_line n h = cc

none_same : (n : ℕ) (xs ys : List (List ℕ)) → differing n xs ys ≡ None → xs ≡ ys
unfolding differing
none_same n [] [] h = refl
none_same n [] (y ∷ ys) h = absurd (no_line n h)
none_same n (x ∷ xs) [] h = absurd (no_line n h)
none_same n (x ∷ xs) (y ∷ ys) h = by (λ f. none_same (n + 1) xs ys f) (bytes_eq x y) refl h
  where
    by : (differing (n + 1) xs ys ≡ None → xs ≡ ys) → (e : Bool) → bytes_eq x y ≡ e
        → cond e (differing (n + 1) xs ys) (Some n) ≡ None → x ∷ xs ≡ y ∷ ys
    by later true same rest = ap (λ (l : List ℕ). l ∷ xs) (bytes_true x y same) ∙ ap (λ (ls : List (List ℕ)). y ∷ ls) (later rest)
    by later false same rest = absurd (no_line n rest)

pub same_texts : (a b : List ℕ) → differing 1 (lines a) (lines b) ≡ None → a ≡ b
same_texts a b h = sym (joined_lines a) ∙ ap joined (none_same 1 (lines a) (lines b) h) ∙ joined_lines b

-- ---- the laws

bad_yes : (at : ℕ) → BadEntry at ≡ Yes → ⊥
bad_yes at h = cc

differs_yes : (line : ℕ) → Differs line ≡ Yes → ⊥
differs_yes line h = cc

whole_is_run : (image : Image) (script : Events) (frames n : ℕ) (list : List Choice) (text : List ℕ) (c : Course) (e : CourseEnd)
    → c.end ≡ e → IsRun (bare image script frames) list n (boot (bare image script frames)) c → judged_whole text c e ≡ Yes
    → IsRunText image script frames n list text
whole_is_run image script frames n list text c (BadAt at) is h given = absurd (bad_yes at given)
whole_is_run image script frames n list text c (Ended end) is h given =
    by (differing 1 (lines (text_of (trace_of c.reports) c.count end)) (lines text)) refl given
  where
    by : (o : Option ℕ) → differing 1 (lines (text_of (trace_of c.reports) c.count end)) (lines text) ≡ o → unless_differs o Yes ≡ Yes
        → IsRunText image script frames n list text
    by None e y = record {
      count = c.count;
      end = end;
      given = record {
        sets = h.sets;
        reports = c.reports;
        last = h.last;
        run = record { steps = h.run; ends = subst (EndsBy (bare image script frames) n h.last) is h.ends };
        count_is = h.count_is;
        text_is = sym (same_texts (text_of (trace_of c.reports) c.count end) text e);
      };
      by_choices = h.are_chosen;
      stops = subst (StopsChosen (bare image script frames) list h.last) is h.stops;
    }
    by (Some line) e y = absurd (differs_yes line y)

-- no such judgement is yes
never : (stop : Stop) (text : List ℕ) (c : Course) (e : CourseEnd) → judged_before stop text c e ≡ Yes → ⊥
never stop text c (BadAt at) y = cc
never stop text c (Ended end) y = by (differing 1 (lines (lines_of (trace_of c.reports))) (before_last (lines text))) end y
  where
    by : (o : Option ℕ) (end : End) → unless_differs o (judged_end stop text end) ≡ Yes → ⊥
    by (Some line) end y = cc
    by None Bound y = cc
    by None (Stopped other) y = cc

pub yes_is_a_run : YesIsARun
unfolding judged
yes_is_a_run image script frames n list text given = by (stop_told n (last_of (lines text))) given
  where
    by : (o : Option Stop) → judged_by image script frames n list text o ≡ Yes → IsRunText image script frames n list text
    by None y = whole_is_run image script frames n list text (course_of image script frames n list)
        (course_of image script frames n list).end refl
        (courses_run n (bare image script frames) list n (boot (bare image script frames)) (omega arith)) y
    by (Some stop) y =
        absurd (never stop text (course_of image script frames (steps_told (last_of (lines text))) list)
        (course_of image script frames (steps_told (last_of (lines text))) list).end y)

-- ---- yes before a stop

abbrev AreOwn : List Stop → Type 0
AreOwn [] = Unit {0}
AreOwn (x ∷ xs) = (is_extra_stop x ≡ true) × AreOwn xs

stop_inner : (a b : Stop) → Some a ≡ Some b → a ≡ b
stop_inner a b h = cc

no_stop : (a : Stop) → None ≡ Some a → ⊥
no_stop a h = cc

found_stop : (p : Stop → Bool) (xs : List Stop) (stop : Stop) → AreOwn xs → find p xs ≡ Some stop → (p stop ≡ true)
    × (is_extra_stop stop ≡ true)
found_stop p [] stop own h = absurd (no_stop stop h)
found_stop p (x ∷ xs) stop own h = by (λ f. found_stop p xs stop own.1 f) (p x) refl h
  where
    by : (find p xs ≡ Some stop → (p stop ≡ true) × (is_extra_stop stop ≡ true)) → (t : Bool) → p x ≡ t
        → cond t (Some x) (find p xs) ≡ Some stop → (p stop ≡ true) × (is_extra_stop stop ≡ true)
    by later true e f = let same : x ≡ stop = stop_inner x stop f in (ap p (sym same) ∙ e, ap is_extra_stop (sym same) ∙ own.0)
    by later false e f = later f

record ToldStop (n : ℕ) (line : List ℕ) (stop : Stop) : Type 0 where
  within : steps_told line ≤ n
  line_is : line ≡ end_line (steps_told line) (Stopped stop)
  own : is_extra_stop stop ≡ true

told_is : (n : ℕ) (line : List ℕ) (stop : Stop) → stop_told n line ≡ Some stop → ToldStop n line stop
unfolding stop_told
told_is n line stop h = by (nat_le (steps_told line) n) refl h
  where
    by : (t : Bool) → nat_le (steps_told line) n ≡ t
        → cond t (find (λ x. bytes_eq line (end_line (steps_told line) (Stopped x))) monitor_stops) None ≡ Some stop → ToldStop n line stop
    by true e f =
        let is = found_stop (λ x. bytes_eq line (end_line (steps_told line) (Stopped x))) monitor_stops stop
        (refl, (refl, (refl, (refl, (refl, (refl, (refl, (refl, tt)))))))) f in
        record {
          within = leb-true (steps_told line) n e;
          line_is = bytes_true line (end_line (steps_told line) (Stopped stop)) is.0;
          own = is.1;
        }
    by false e f = absurd (no_stop stop f)

joined_parts : (ls : List (List ℕ)) → joined ls ≡ joined (before_last ls) ++ last_of ls
unfolding joined
joined_parts [] = refl
joined_parts (l ∷ []) = append-nil l
joined_parts (l ∷ m ∷ ls) =
    ap (λ (x : List ℕ). l ++ x) (joined_parts (m ∷ ls)) ∙ sym (append_assoc l (joined (before_last (m ∷ ls))) (last_of (m ∷ ls)))

text_parts : (text front : List ℕ) → differing 1 (lines front) (before_last (lines text)) ≡ None → text ≡ front ++ last_of (lines text)
text_parts text front h =
    sym (joined_lines text) ∙ joined_parts (lines text)
    ∙ ap (λ (x : List ℕ). x ++ last_of (lines text))
    (ap joined (sym (none_same 1 (lines front) (before_last (lines text)) h)) ∙ joined_lines front)

line_whole : (front line : List ℕ) (steps : ℕ) (stop : Stop) (trace : List Item) → front ≡ lines_of trace
    → line ≡ end_line steps (Stopped stop) → front ++ line ≡ text_of trace steps (Stopped stop)
unfolding text_of
line_whole front line steps stop trace is same = ap (λ (x : List ℕ). x ++ line) is ∙ ap (λ (x : List ℕ). lines_of trace ++ x) same

bad_before : (at : ℕ) (stop : Stop) → BadEntry at ≡ YesBefore stop → ⊥
bad_before at stop h = cc

differs_before : (line : ℕ) (stop : Stop) → Differs line ≡ YesBefore stop → ⊥
differs_before line stop h = cc

yes_before : (stop : Stop) → Yes ≡ YesBefore stop → ⊥
yes_before stop h = cc

inner_before : (a b : Stop) → YesBefore a ≡ YesBefore b → a ≡ b
inner_before a b h = cc

never_before : (stop : Stop) (text : List ℕ) (c : Course) (e : CourseEnd) → judged_whole text c e ≡ YesBefore stop → ⊥
never_before stop text c (BadAt at) y = bad_before at stop y
never_before stop text c (Ended end) y = by (differing 1 (lines (text_of (trace_of c.reports) c.count end)) (lines text)) y
  where
    by : (o : Option ℕ) → unless_differs o Yes ≡ YesBefore stop → ⊥
    by None y = yes_before stop y
    by (Some line) y = differs_before line stop y

record RightBefore (stop told : Stop) (text : List ℕ) (c : Course) (e : CourseEnd) : Type 0 where
  same : told ≡ stop
  end : e ≡ Ended Bound
  right : differing 1 (lines (lines_of (trace_of c.reports))) (before_last (lines text)) ≡ None

right_before : (stop told : Stop) (text : List ℕ) (c : Course) (e : CourseEnd) → judged_before told text c e ≡ YesBefore stop
    → RightBefore stop told text c e
right_before stop told text c (BadAt at) y = absurd (bad_before at stop y)
right_before stop told text c (Ended end) y = by (differing 1 (lines (lines_of (trace_of c.reports))) (before_last (lines text))) end refl y
  where
    by : (o : Option ℕ) (x : End) → differing 1 (lines (lines_of (trace_of c.reports))) (before_last (lines text)) ≡ o
        → unless_differs o (judged_end told text x) ≡ YesBefore stop → RightBefore stop told text c (Ended x)
    by (Some line) x is f = absurd (differs_before line stop f)
    by None Bound is f = record { same = inner_before told stop f; end = refl; right = is }
    by None (Stopped other) is f = absurd (differs_before (length (lines text)) stop f)

before_is_steps : (image : Image) (script : Events) (frames n : ℕ) (list : List Choice) (stop told : Stop) (text : List ℕ) (c : Course)
    → stop_told n (last_of (lines text)) ≡ Some told → IsRun (bare image script frames) list (steps_told (last_of (lines text)))
    (boot (bare image script frames)) c
    → RightBefore stop told text c c.end → AreItemsBefore image script frames n list stop text
before_is_steps image script frames n list stop told text c is h r =
    let line = last_of (lines text) in
    let t = told_is n line stop (is ∙ ap (λ (x : Stop). Some x) r.same) in
    let at : h.last.step ≡ steps_told line = subst (EndsBy (bare image script frames) (steps_told line) h.last) r.end h.ends in
    record {
      sets = h.sets;
      reports = c.reports;
      last = h.last;
      steps = h.run;
      by_choices = h.are_chosen;
      within = omega (arith, at, t.within);
      own = t.own;
      text_is = text_parts text (lines_of (trace_of c.reports)) r.right ∙ line_whole (lines_of (trace_of c.reports)) line h.last.step stop
          (trace_of c.reports) refl (t.line_is ∙ ap (λ (k : ℕ). end_line k (Stopped stop)) (sym at));
    }

pub yes_before_is_steps : YesBeforeIsSteps
unfolding judged
yes_before_is_steps image script frames n list text stop given = by (stop_told n (last_of (lines text))) refl given
  where
    by : (o : Option Stop) → stop_told n (last_of (lines text)) ≡ o → judged_by image script frames n list text o ≡ YesBefore stop
        → AreItemsBefore image script frames n list stop text
    by None is y = absurd (never_before stop text (course_of image script frames n list) (course_of image script frames n list).end y)
    by (Some told) is y =
        let k = steps_told (last_of (lines text)) in
        let c = course_of image script frames k list in
        before_is_steps image script frames n list stop told text c is
        (courses_run k (bare image script frames) list k (boot (bare image script frames)) (omega arith))
        (right_before stop told text c c.end y)
