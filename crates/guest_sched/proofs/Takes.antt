-- What a tagged sink's inner sink has taken, line by line.
use Rattle.std.proofs.Common.{◌≡◌, ℕ, ◌+◌, ◌-◌, ◌≤◌, Bool, true, false, List, [], ◌∷◌, ◌++◌, Option, Some, None, length, take, drop, refl, ap, sym, subst, ◌∙◌, arith, Result, Ok, Err, length-append}
use Rattle.std.proofs.Math.Seq.{take-append_seam}
use Rattle.std.proofs.lemmas.List.{append-nil, append_assoc, length-drop, take_all, take-append-drop}
use Rattle.std.specs.Prelude.{OnErr, OnOk, not, is_err, if◌then◌else◌}
use Rattle.pv_io.specs.declared.answer.Failed.{Failed}
use Rattle.pv_io.specs.Causes.{Rose}
use Rattle.pv_io.specs.Sink.{Appends, AppendsFront}
use Rattle.wedge_step.proofs.Memories.{append_both}
use Rattle.guest_sched.specs.Tags.{tagged, tagged_from}
use Rattle.guest_sched.specs.Dues.{due_after, line_len, has_end}
use Rattle.guest_sched.specs.Marks.{IsTaken, size, coded, told}
use Rattle.guest_sched.proofs.Tags.{tagged_append, due_append, line_tagged, line_due}

pub appends_at : (old new : Option (List ℕ)) (bytes before : List ℕ) → Appends old new bytes → old ≡ Some before
    → new ≡ Some (before ++ bytes)
appends_at None new bytes before h is = absurd (cc)
appends_at (Some old) new bytes before h is =
    let same : old ≡ before = cc in
    h ∙ ap (λ (z : List ℕ). Some (z ++ bytes)) same

pub rose_more : (a b c : ℕ) → b ≡ a → Rose b c → Rose a c
rose_more a b c same rose = subst (λ (z : ℕ). Rose z c) same rose

-- a put that failed has taken a front of what came after the text
fails : (new : Option (List ℕ)) (before done front rest all : List ℕ) → all ≡ done ++ (front ++ rest)
    → new ≡ Some ((before ++ done) ++ front) →
    new ≡ Some (before ++ take (size new - length before) all)
fails new before done front rest all whole is =
    let long : size new - length before ≡ length (done ++ front) =
    omega (arith, ap size is, length-append (before ++ done) front, length-append before done, length-append done front) in
    let same : all ≡ (done ++ front) ++ rest = whole ∙ sym (append_assoc done front rest) in
    is ∙ ap (λ (z : List ℕ). Some z) (append_assoc before done front ∙ ap (λ (z : List ℕ). before ++ z)
    (sym (ap (λ (n : ℕ). take n all) long ∙ ap (λ (z : List ℕ). take (length (done ++ front)) z) same ∙ take-append_seam
    (done ++ front) rest)))

abbrev due_is : List ℕ → Bool → List ℕ
due_is tag begun = if begun then [] else tag

-- one line more
line_taken : (tag text line : List ℕ) (begun ended failed : Bool) (was old new : Option (List ℕ)) (f0 f1 f2 : ℕ)
    (result : Result (Unit {0}) Failed) →
    failed ≡ false → IsTaken tag begun failed text was old f0 f1 →
    tagged tag (text ++ line) ≡ tagged tag text ++ (due_is tag begun ++ line) →
    due_after tag tag (text ++ line) ≡ due_is tag (not ended) →
    OnOk result (Appends old new (due_is tag begun ++ line)) → OnErr result (AppendsFront old new (due_is tag begun ++ line)) →
    OnOk result (f2 ≡ f1) → OnErr result (Rose f1 f2) →
    IsTaken tag (not ended) (is_err result) (text ++ line) was new f0 f2
line_taken tag text line begun ended failed was old new f0 f1 f2 (Ok done) live st more due ok bad kept cause = record {
  whole = λ _ before is. appends_at old new (due_is tag begun ++ line) (before ++ tagged tag text) ok (st.whole live before is)
      ∙ ap (λ (z : List ℕ). Some z)
      (append_assoc before (tagged tag text) (due_is tag begun ++ line) ∙ ap (λ (z : List ℕ). before ++ z) (sym more));
  front = λ f before is. absurd (cc);
  due = λ _. due;
  kept = λ _. kept ∙ st.kept live;
  cause = λ f. absurd (cc);
}
line_taken tag text line begun ended failed was old new f0 f1 f2 (Err fault) live st more due ok bad kept cause = record {
  whole = λ f before is. absurd (cc);
  front = λ _ before is. fails new before (tagged tag text) bad.front bad.rest (tagged tag (text ++ line))
      (more ∙ ap (λ (z : List ℕ). tagged tag text ++ z) (sym bad.whole))
      (appends_at old new bad.front (before ++ tagged tag text) bad.taken (st.whole live before is));
  due = λ f. absurd (cc);
  kept = λ f. absurd (cc);
  cause = λ _. rose_more f0 f1 f2 (st.kept live) cause;
}

turned : (tag : List ℕ) (e : Bool) → (if e then tag else []) ≡ due_is tag (not e)
turned tag true = refl
turned tag false = refl

-- the first line of a text more, as `put_line` sees it
pub first_taken : (tag text rest line all : List ℕ) (begun ended failed : Bool) (len : ℕ) (was was' old new : Option (List ℕ))
    (f0 f0' f1 f2 : ℕ) (result : Result (Unit {0}) Failed) (is_error : Bool) →
    failed ≡ false → IsTaken tag begun failed text was old f0 f1 → 1 ≤ length rest →
    len ≡ line_len rest → ended ≡ has_end rest → line ≡ take len rest →
    OnOk result (Appends old new (due_is tag begun ++ line)) → OnErr result (AppendsFront old new (due_is tag begun ++ line)) →
    OnOk result (f2 ≡ f1) → OnErr result (Rose f1 f2) → is_error ≡ is_err result → was' ≡ was → f0' ≡ f0 → all ≡ text ++ line →
    IsTaken tag (not ended) is_error all was' new f0' f2
first_taken tag text rest line all begun ended failed len was was' old new f0 f0' f1 f2 result is_error live st some len_is ended_is line_is
    ok bad kept cause error_is was_is f0_is all_is =
    let here : line ≡ take (line_len rest) rest = line_is ∙ ap (λ (n : ℕ). take n rest) len_is in
    let due : due_after tag tag text ≡ due_is tag begun = st.due live in
    let more : tagged tag (text ++ line) ≡ tagged tag text ++ (due_is tag begun ++ line) =
    tagged_append tag tag text line
    ∙ ap (λ (d : List ℕ). tagged tag text ++ tagged_from tag d line) due
    ∙ ap (λ (z : List ℕ). tagged tag text ++ z)
    (subst (λ (z : List ℕ). tagged_from tag (due_is tag begun) z ≡ due_is tag begun ++ z) (sym here)
    (line_tagged tag (due_is tag begun) rest some)) in
    let next : due_after tag tag (text ++ line) ≡ due_is tag (not ended) =
    due_append tag tag text line
    ∙ ap (λ (z : List ℕ). due_after tag (due_after tag tag text) z) here
    ∙ line_due tag (due_after tag tag text) rest some
    ∙ ap (λ (e : Bool). if e then tag else []) (sym ended_is)
    ∙ turned tag ended in
    rw (error_is, was_is, f0_is, all_is)
    (line_taken tag text line begun ended failed was old new f0 f1 f2 result live st more next ok bad kept cause)

told_more : (name : ℕ) (tag : List ℕ) (faults : ℕ) (was : Option (List ℕ)) (text more : List ℕ)
    → told name tag faults was (text ++ more) ≡ told name tag faults was text ++ more
told_more name tag faults was text more =
    ap (λ (z : List ℕ). name ∷ faults ∷ (coded (Some tag) ++ z)) (sym (append_assoc (coded was) text more))
    ∙ ap (λ (z : List ℕ). name ∷ faults ∷ z) (sym (append_assoc (coded (Some tag)) (coded was ++ text) more))

-- a put of several lines, where one fails
pub fails_in : (name name' : ℕ) (tag tag' : List ℕ) (faults faults' : ℕ) (was was' : Option (List ℕ))
    (text mid all done bytes rest : List ℕ) (n : ℕ) →
    name' ≡ name → tag' ≡ tag → faults' ≡ faults → was' ≡ was → mid ≡ text ++ done → all ≡ mid ++ take n rest → done ++ rest ≡ bytes →
    AppendsFront (Some (told name tag faults was text)) (Some (told name' tag' faults' was' all)) bytes
fails_in name name' tag tag' faults faults' was was' text mid all done bytes rest n name_is tag_is faults_is was_is mid_is all_is bytes_is =
    rw (name_is, tag_is, faults_is, was_is) (record {
      front = done ++ take n rest;
      rest = drop n rest;
      whole = append_assoc done (take n rest) (drop n rest) ∙ ap (λ (z : List ℕ). done ++ z) (take-append-drop n rest) ∙ bytes_is;
      taken = ap (λ (z : List ℕ). Some (told name tag faults was z))
          (all_is ∙ ap (λ (z : List ℕ). z ++ take n rest) mid_is ∙ append_assoc text done (take n rest))
          ∙ ap (λ (z : List ℕ). Some z) (told_more name tag faults was text (done ++ take n rest));
    })

-- and where none fails: all of the bytes were given
pub all_in : (name name' : ℕ) (tag tag' : List ℕ) (faults faults' : ℕ) (was was' : Option (List ℕ)) (text mid done bytes rest : List ℕ) →
    name' ≡ name → tag' ≡ tag → faults' ≡ faults → was' ≡ was → mid ≡ text ++ done → done ++ rest ≡ bytes → rest ≡ [] →
    Some (told name' tag' faults' was' mid) ≡ Some (told name tag faults was text ++ bytes)
all_in name name' tag tag' faults faults' was was' text mid done bytes rest name_is tag_is faults_is was_is mid_is bytes_is none =
    let whole : done ≡ bytes = sym (append-nil done) ∙ ap (λ (z : List ℕ). done ++ z) (sym none) ∙ bytes_is in
    rw (name_is, tag_is, faults_is, was_is)
    (ap (λ (z : List ℕ). Some (told name tag faults was z)) (mid_is ∙ ap (λ (z : List ℕ). text ++ z) whole) ∙ ap (λ (z : List ℕ). Some z)
    (told_more name tag faults was text bytes))

-- the lines so far and one more, and what is left
pub goes_on : (done bytes rest : List ℕ) (len n : ℕ) → len ≡ n → done ++ rest ≡ bytes → (done ++ take n rest)
    ++ take (length rest - len) (drop len rest) ≡ bytes
goes_on done bytes rest len n len_is whole =
    append_assoc done (take n rest) (take (length rest - len) (drop len rest))
    ∙ ap (λ (z : List ℕ). done ++ z)
    (ap (λ (z : List ℕ). take n rest ++ z)
    (take_all (length rest - len) (drop len rest) (omega (arith, length-drop len rest)) ∙ ap (λ (k : ℕ). drop k rest) len_is)
    ∙ take-append-drop n rest)
    ∙ whole

coded_split : (a b : Option (List ℕ)) (x y : List ℕ) → coded a ++ x ≡ coded b ++ y → (a ≡ b) × (x ≡ y)
coded_split None None x y e = (refl, cc)
coded_split None (Some b) x y e = (let h : 0 ≡ 1 + length b = cc in absurd (omega (arith, h)))
coded_split (Some a) None x y e = (let h : 1 + length a ≡ 0 = cc in absurd (omega (arith, h)))
coded_split (Some a) (Some b) x y e =
    let h : 1 + length a ≡ 1 + length b = cc in
    let rest : a ++ x ≡ b ++ y = cc in
    let t = append_both a b x y (omega (arith, h)) rest in
    (let same = t.0 in cc, t.1)

-- what a sink has told since it was new says that it is the same one still, and what text it was given
pub record SameSink (name name' : ℕ) (tag tag' : List ℕ) (faults faults' : ℕ) (was was' : Option (List ℕ))
    (given text : List ℕ) : Type 0 where
  pub name_is : name' ≡ name
  pub tag_is : tag' ≡ tag
  pub faults_is : faults' ≡ faults
  pub was_is : was' ≡ was
  pub text_is : text ≡ given

pub same_sink : (name name' : ℕ) (tag tag' : List ℕ) (faults faults' : ℕ) (was was' : Option (List ℕ)) (given text : List ℕ) →
    Some (told name' tag' faults' was' text) ≡ Some (told name tag faults was [] ++ given)
    → SameSink name name' tag tag' faults faults' was was' given text
same_sink name name' tag tag' faults faults' was was' given text e =
    let all : told name' tag' faults' was' text ≡ told name tag faults was [] ++ given = cc in
    let whole : told name' tag' faults' was' text ≡ told name tag faults was given = all ∙ sym (told_more name tag faults was [] given) in
    let names : name' ≡ name = cc in
    let numbers : faults' ≡ faults = cc in
    let rest : coded (Some tag') ++ (coded was' ++ text) ≡ coded (Some tag) ++ (coded was ++ given) = cc in
    let a = coded_split (Some tag') (Some tag) (coded was' ++ text) (coded was ++ given) rest in
    let b = coded_split was' was text given a.1 in
    let tags = a.0 in
    record { name_is = names; tag_is = (let t : tag' ≡ tag = cc in t); faults_is = numbers; was_is = b.0; text_is = b.1 }
