-- What a tagged sink was given is what its inner sink has taken, with the tag before each line.
use Rattle.std.proofs.Common.{◌≡◌, ℕ, ◌-◌, ◌^◌, Bool, true, false, List, [], ◌++◌, Option, Some, None, length, take, drop, refl, ap, sym, subst, ◌∙◌, arith, Result, Ok, Err}
use Rattle.std.proofs.lemmas.List.{append_assoc, append-nil, take-append-drop}
use Rattle.std.specs.Prelude.{OnErr, OnOk, if◌then◌else◌}
use Rattle.pv_io.specs.declared.answer.Failed.{Failed}
use Rattle.pv_io.specs.Causes.{Rose}
use Rattle.pv_io.specs.Sink.{Appends, AppendsFront}
use Rattle.run_trace.specs.declared.pause.Pause.{Pause}
use Rattle.run_trace.specs.declared.pause.Pause.TheVariants as pause
use Rattle.run_trace.specs.Pauses.{PutsAs}
use Rattle.machine_model.specs.State.{Setting, State}
use Rattle.machine_model.specs.Run.{Set}
use Rattle.wedge_core.specs.Slices.{PausesAs}
use Rattle.guest_sched.specs.Tags.{tagged, tagged_from}
use Rattle.guest_sched.specs.Dues.{due_after}
use Rattle.guest_sched.specs.Marks.{IsTaken, size, told}
use Rattle.guest_sched.proofs.Tags.{tagged_append}
use Rattle.guest_sched.proofs.Takes.{same_sink, SameSink}

-- of text that was given, all was taken
whole_taken : (tag text : List ℕ) (was now : Option (List ℕ))
    → ((before : List ℕ) → was ≡ Some before → now ≡ Some (before ++ tagged tag text)) → Appends was now (tagged tag text)
whole_taken tag text None now h = tt
whole_taken tag text (Some before) now h = h before refl

front_taken : (tag text rest : List ℕ) (was now : Option (List ℕ))
    → ((before : List ℕ) → was ≡ Some before → now ≡ Some (before ++ take (size now - length before) (tagged tag text)))
    → AppendsFront was now (tagged tag (text ++ rest))
front_taken tag text rest None now h = record { front = []; rest = tagged tag (text ++ rest); whole = refl; taken = tt }
front_taken tag text rest (Some before) now h =
    let n = size now - length before in
    record {
      front = take n (tagged tag text);
      rest = drop n (tagged tag text) ++ tagged_from tag (due_after tag tag text) rest;
      whole =
          sym (append_assoc (take n (tagged tag text)) (drop n (tagged tag text)) (tagged_from tag (due_after tag tag text) rest))
          ∙ ap (λ (z : List ℕ). z ++ tagged_from tag (due_after tag tag text) rest) (take-append-drop n (tagged tag text))
          ∙ sym (tagged_append tag tag text rest);
      taken = h before refl;
    }

-- a text of which this much was given
pub record Given (name name' : ℕ) (tag tag' : List ℕ) (faults faults' : ℕ) (was was' : Option (List ℕ)) (text given : List ℕ) : Type 0 where
  pub rest : List ℕ
  pub all : text ++ rest ≡ given
  pub same : SameSink name name' tag tag' faults faults' was was' text text

module _ (name name' : ℕ) (tag tag' : List ℕ) (faults faults' : ℕ) (was was' : Option (List ℕ)) (given text : List ℕ) where
  abbrev old : Option (List ℕ)
  old = Some (told name tag faults was [])

  abbrev new : Option (List ℕ)
  new = Some (told name' tag' faults' was' text)

  pub given_of : (result : Result Pause Failed) → PutsAs given old new result → Given name name' tag tag' faults faults' was was' text given
  given_of (Ok p) h =
      let s = same_sink name name' tag tag' faults faults' was was' given text h in
      record {
        rest = [];
        all = append-nil text ∙ s.text_is;
        same = record { name_is = s.name_is; tag_is = s.tag_is; faults_is = s.faults_is; was_is = s.was_is; text_is = refl };
      }
  given_of (Err f) h =
      let s = same_sink name name' tag tag' faults faults' was was' h.front text h.taken in
      record {
        rest = h.rest;
        all = ap (λ (z : List ℕ). z ++ h.rest) s.text_is ∙ h.whole;
        same = record { name_is = s.name_is; tag_is = s.tag_is; faults_is = s.faults_is; was_is = s.was_is; text_is = refl };
      }

  module _ (begun : Bool) (now : Option (List ℕ)) (faults_now : ℕ) where
    -- where a put has failed
    pub puts_front : (result : Result Pause Failed) → PutsAs given old new result → IsTaken tag' begun true text was' now faults' faults_now
        → AppendsFront was now (tagged tag given)
    puts_front result h t =
        let g = given_of result h in
        let front : (before : List ℕ) → was ≡ Some before → now ≡ Some (before ++ take (size now - length before) (tagged tag text)) =
        λ before is. subst (λ (z : List ℕ). now ≡ Some (before ++ take (size now - length before) (tagged z text))) g.same.tag_is
        (t.front refl before (g.same.was_is ∙ is)) in
        subst (λ (z : List ℕ). AppendsFront was now (tagged tag z)) g.all (front_taken tag text g.rest was now front)

    -- and where none has
    pub puts_all : (p : Pause) → PutsAs given old new (Ok p) → IsTaken tag' begun false text was' now faults' faults_now
        → Appends was now (tagged tag given)
    puts_all p h t =
        let s = same_sink name name' tag tag' faults faults' was was' given text h in
        let whole : (before : List ℕ) → was ≡ Some before → now ≡ Some (before ++ tagged tag text) =
        λ before is. subst (λ (z : List ℕ). now ≡ Some (before ++ tagged z text)) s.tag_is (t.whole refl before (s.was_is ∙ is)) in
        subst (λ (z : List ℕ). Appends was now (tagged tag z)) s.text_is (whole_taken tag text was now whole)

-- an end that isn't reported
pub unpaused : (m : Setting) (bound : ℕ) (last new : State) (end : Set) (result : Result Pause Failed) (f : Failed)
    → PausesAs m bound last new end result → PausesAs m bound last new end (Err f)
unpaused m bound last new end (Ok pause.Reached) f h = let is = h.0 in omega (arith, is)
unpaused m bound last new end (Ok (pause.Stopped stop)) f h = let is = h.0 in omega (arith, is)
unpaused m bound last new end (Err g) f h = h

-- the same, as a turn sees it: the sink was new when the turn began
module _ (name name' : ℕ) (tag tag0 tag' : List ℕ) (faults faults' : ℕ) (was was0 was' : Option (List ℕ)) (given text0 text : List ℕ)
    (none : text0 ≡ []) (tag_is : tag0 ≡ tag) (was_is : was0 ≡ was) where
  abbrev told_old : Option (List ℕ)
  told_old = Some (told name tag0 faults was0 text0)

  abbrev told_new : Option (List ℕ)
  told_new = Some (told name' tag' faults' was' text)

  begins : told_old ≡ Some (told name tag faults was [])
  begins =
      ap (λ (z : List ℕ). Some (told name z faults was0 text0)) tag_is
      ∙ ap (λ (z : Option (List ℕ)). Some (told name tag faults z text0)) was_is
      ∙ ap (λ (z : List ℕ). Some (told name tag faults was z)) none

  pub same_name : (result : Result Pause Failed) → PutsAs given told_old told_new result → name' ≡ name
  same_name result h =
      (given_of name name' tag tag' faults faults' was was' given text result
      (subst (λ (o : Option (List ℕ)). PutsAs given o told_new result) begins h)).same.name_is

  module _ (begun failed : Bool) (now : Option (List ℕ)) (faults_now : ℕ) where
    pub turn_failed : (result : Result Pause Failed) → PutsAs given told_old told_new result → failed ≡ true
        → IsTaken tag' begun failed text was' now faults' faults_now → AppendsFront was now (tagged tag given)
    turn_failed result h is t =
        puts_front name name' tag tag' faults faults' was was' given text begun now faults_now result
        (subst (λ (o : Option (List ℕ)). PutsAs given o told_new result) begins h)
        (subst (λ (b : Bool). IsTaken tag' begun b text was' now faults' faults_now) is t)

    pub turn_all : (result : Result Pause Failed) (a b : ℕ) → PutsAs given told_old told_new result → failed ≡ false
        → IsTaken tag' begun failed text was' now faults' faults_now
        → OnErr result (Rose a b) → a ≡ 0 → b ≡ 0 → PutsAs (tagged tag given) was now result
    turn_all (Ok p) a b h isnt t cause none0 none1 =
        puts_all name name' tag tag' faults faults' was was' given text begun now faults_now p
        (subst (λ (o : Option (List ℕ)). PutsAs given o told_new (Ok p)) begins h)
        (subst (λ (x : Bool). IsTaken tag' begun x text was' now faults' faults_now) isnt t)
    turn_all (Err f) a b h isnt t cause none0 none1 = absurd (omega (arith, cause, none0, none1))

pub no_faults : (failed : Bool) → failed ≡ false → (if failed then 2 ^ 64 - 1 else 0) ≡ 0
no_faults failed isnt = rw isnt refl

-- one line's put, in the words of a pause
abbrev pub as_pause : Result (Unit {0}) Failed → Result Pause Failed
as_pause (Ok done) = Ok pause.Reached
as_pause (Err f) = Err f

pub line_puts : (line : List ℕ) (was now : Option (List ℕ)) (result : Result (Unit {0}) Failed) → OnOk result (Appends was now line)
    → OnErr result (AppendsFront was now line) → PutsAs line was now (as_pause result)
line_puts line was now (Ok done) ok bad = ok
line_puts line was now (Err f) ok bad = bad

pub line_cause : (result : Result (Unit {0}) Failed) (P : Type 0) → OnErr result P → OnErr (as_pause result) P
line_cause (Ok done) P h = tt
line_cause (Err f) P h = h

pub line_ok : (line : List ℕ) (was now : Option (List ℕ)) (result : Result (Unit {0}) Failed) → PutsAs line was now (as_pause result)
    → OnOk result (Appends was now line)
line_ok line was now (Ok done) h = h
line_ok line was now (Err f) h = tt
